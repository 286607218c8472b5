-- No end in a value is of a type that is deeper than that of the value; and the ends of elements of a type are of a deeper one.
use Rattle.std.proofs.Common.{◌≡◌, ◌∙◌, ◌≤◌, ℕ, zero, suc, max, List, [], ◌∷◌, ◌++◌, map, refl, sym, ap, subst, arith, Option, Some, None}
use Rattle.std.specs.List.{slice_get}
use Rattle.std.specs.Option.{option_and_then}
use Rattle.builtin_kinds.specs.declared.EndKind.{EndKind}
use Rattle.builtin_kinds.specs.declared.EndKind.TheVariants.{Stream, Future}
use Rattle.syntax_trees.specs.declared.types.ValType.{ValType}
use Rattle.syntax_trees.specs.declared.types.ValType.TheOpen as F
use Rattle.syntax_trees.specs.declared.types.ValType.TheViews as types
use Rattle.syntax_trees.specs.declared.types.ValType.TheVariants as leaves
use Rattle.syntax_trees.specs.declared.value.Value.{Value}
use Rattle.syntax_trees.specs.declared.value.Value.TheOpen as V
use Rattle.syntax_trees.specs.declared.value.Value.TheViews.{roll-Value}
use Rattle.syntax_trees.specs.declared.value.Value.TheFolds.{map-Value, ind-Value, fold-roll-Value}
use Rattle.laid_types.specs.Depth.{greatest, depth, held_depth}
use Rattle.laid_types.specs.Gathered.{depths, depth_over}
use Rattle.laid_types.specs.Parts.{parts_of, part_at}
use Rattle.laid_types.proofs.DepthByParts.{depth_by_parts}
use Rattle.comp_graph.specs.Graph.{ends_type}
use Rattle.run_laws.proofs.keeping.Planned.{Ends, AreAll, ends_typed, end_steps, in_elements, in_list, in_fields, in_payload}
use Rattle.run_laws.proofs.keeping.still.EndsLifted.{parts_rolled}

-- One of some depths, and the others.
pub first_less : (a b n : ℕ) → suc (max a b) ≤ n → a ≤ n
first_less a b n h = omega (arith, h)

pub rest_less : (a b n : ℕ) → suc (max a b) ≤ n → suc b ≤ n
rest_less a b n h = omega (arith, h)

-- The parts of a type are not so deep.
abbrev pub Within : ℕ → List (Option ValType) → Type 0
Within n parts = suc (greatest (depths parts)) ≤ n

pub within : (t : ValType) (n : ℕ) → depth t ≤ n → Within n (parts_of t)
within t n h = subst (λ (d : ℕ). d ≤ n) (depth_by_parts t) h

part_small : (parts : List (Option ValType)) (k n : ℕ) → Within n parts → held_depth (option_and_then (λ part. part) (slice_get parts k)) ≤ n
part_small [] k n h = omega arith
part_small (o ∷ parts) zero n h = first_less (held_depth o) (greatest (depths parts)) n h
part_small (o ∷ parts) (suc k) n h = part_small parts k n (rest_less (held_depth o) (greatest (depths parts)) n h)

-- The ends of elements of a type.
one_part : (t : ValType) (d : ℕ) → depth t ≡ d → suc (max d 0) ≡ suc (depth t)
one_part t d is = omega (arith, is)

pub ends_deeper : (kind : EndKind) (t : ValType) → depth (ends_type kind (Some t)) ≡ suc (depth t)
ends_deeper Stream t =
    depth_by_parts (types.Stream (Some t)) ∙ ap (λ (parts : List (Option ValType)). depth_over (depths parts))
    (parts_rolled (F.Stream (Some t)) (types.Stream (Some t)) (leaves.rolls-Stream (Some t)))
    ∙ one_part t (depth t) refl
ends_deeper Future t =
    depth_by_parts (types.Future (Some t)) ∙ ap (λ (parts : List (Option ValType)). depth_over (depths parts))
    (parts_rolled (F.Future (Some t)) (types.Future (Some t)) (leaves.rolls-Future (Some t)))
    ∙ one_part t (depth t) refl

-- Of each end in a value.
abbrev pub Small : ℕ → ValType → ℕ → Type 0
Small n type number = depth type ≤ n

abbrev HoldsSmall : Value → Type 0
HoldsSmall v = (t : ValType) (n : ℕ) → depth t ≤ n → AreAll (Small n) (ends_typed v t)

abbrev Holding : Type 0
Holding = (v : Value) × HoldsSmall v

abbrev these : List Holding → List Value
these es = map (λ (e : Holding). e.0) es

both_all : (n : ℕ) (xs ys : Ends) → AreAll (Small n) xs → AreAll (Small n) ys → AreAll (Small n) (xs ++ ys)
both_all n [] ys p q = q
both_all n (x ∷ xs) ys p q = (p.0, both_all n xs ys p.1 q)

elements_small : (t : ValType) (n : ℕ) (es : List Holding) → depth t ≤ n → AreAll (Small n) (in_elements t (map ends_typed (these es)))
elements_small t n [] h = tt
elements_small t n (e ∷ es) h = both_all n (ends_typed e.0 t) (in_elements t (map ends_typed (these es))) (e.1 t n h) (elements_small t n es h)

list_small : (o : Option ValType) (n : ℕ) (es : List Holding) → held_depth o ≤ n → AreAll (Small n) (in_list o (map ends_typed (these es)))
list_small None n es h = tt
list_small (Some t) n es h = elements_small t n es h

fields_small : (parts : List (Option ValType)) (n : ℕ) (es : List Holding) → Within n parts → AreAll (Small n) (in_fields parts (map ends_typed (these es)))
fields_small [] n es h = tt
fields_small (o ∷ parts) n [] h = tt
fields_small (None ∷ parts) n (x ∷ es) h = fields_small parts n es (rest_less 0 (greatest (depths parts)) n h)
fields_small (Some t ∷ parts) n (x ∷ es) h =
    both_all n (ends_typed x.0 t) (in_fields parts (map ends_typed (these es))) (x.1 t n (first_less (depth t) (greatest (depths parts)) n h))
    (fields_small parts n es (rest_less (depth t) (greatest (depths parts)) n h))

payload_small : (o : Option ValType) (n : ℕ) (x : Holding) → held_depth o ≤ n → AreAll (Small n) (in_payload o (ends_typed x.0))
payload_small None n x h = tt
payload_small (Some t) n x h = x.1 t n h

abbrev layer : V.Value-F Holding → V.Value-F Value
layer w = map-Value Holding Value (λ (e : Holding). e.0) w

layer_small : (w : V.Value-F Holding) (t : ValType) (n : ℕ) → depth t ≤ n
    → AreAll (Small n) (end_steps (map-Value Value (ValType → Ends) ends_typed (layer w)) t)
layer_small (V.List es) t n h = list_small (part_at t 0) n es (part_small (parts_of t) 0 n (within t n h))
layer_small (V.Record es) t n h = fields_small (parts_of t) n es (within t n h)
layer_small (V.Variant k (Some x)) t n h = payload_small (part_at t k) n x (part_small (parts_of t) k n (within t n h))
layer_small (V.Variant k None) t n h = tt
layer_small (V.Stream number) t n h = (h, tt)
layer_small (V.Future number) t n h = (h, tt)
layer_small (V.String text) t n h = tt
layer_small (V.Own x) t n h = tt
layer_small (V.Borrow x) t n h = tt
layer_small (V.Flags flags) t n h = tt
layer_small (V.Bool b) t n h = tt
layer_small (V.S8 x) t n h = tt
layer_small (V.U8 x) t n h = tt
layer_small (V.S16 x) t n h = tt
layer_small (V.U16 x) t n h = tt
layer_small (V.S32 x) t n h = tt
layer_small (V.U32 x) t n h = tt
layer_small (V.S64 x) t n h = tt
layer_small (V.U64 x) t n h = tt
layer_small (V.Char x) t n h = tt

step_small : (w : V.Value-F Holding) → HoldsSmall (roll-Value (layer w))
step_small w t n h = subst (λ (f : ValType → Ends). AreAll (Small n) (f t)) (sym (fold-roll-Value (ValType → Ends) end_steps (layer w))) (layer_small w t n h)

value_small : (v : Value) → HoldsSmall v
value_small = ind-Value HoldsSmall (λ x y e. subst (λ (z : V.Value-F Value). HoldsSmall (roll-Value z)) e (step_small y))

pub all_small : (t : ValType) (n : ℕ) (all : List Value) → depth t ≤ n → AreAll (Small n) (in_elements t (map ends_typed all))
all_small t n [] h = tt
all_small t n (v ∷ all) h = both_all n (ends_typed v t) (in_elements t (map ends_typed all)) (value_small v t n h) (all_small t n all h)
