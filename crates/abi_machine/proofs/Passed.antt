-- How what the examples pass is lifted, and the plans by which it is lowered: of types and values whose outer layers are known.
use Rattle.std.proofs.Common.{◌≡◌, ◌∙◌, ◌+◌, ℕ, Bool, true, false, ◌++◌, List, [], ◌∷◌, map, length, Option, Some, refl, ap}
use Rattle.std.specs.Prelude.{◌==◌, nat_lt, slice_index, if◌then◌else◌, ◌-◌, Result, Ok}
use Rattle.syntax_trees.specs.declared.core_type.CoreType.{CoreType}
use Rattle.syntax_trees.specs.declared.core_type.CoreType.TheVariants.{I32}
use Rattle.syntax_trees.specs.declared.types.ValType.{ValType}
use Rattle.syntax_trees.specs.declared.types.ValType.TheOpen as F
use Rattle.syntax_trees.specs.declared.types.FuncType.{FuncType}
use Rattle.syntax_trees.specs.declared.value.Value.{Value}
use Rattle.syntax_trees.specs.declared.value.Value.TheOpen as V
use Rattle.syntax_trees.specs.declared.value.Value.TheViews as values
use Rattle.laid_types.specs.Layout.{Laid, laid}
use Rattle.syntax_trees.specs.Flat.{flat}
use Rattle.value_lift.specs.declared.counting.LiftOf.TheVariants as whole
use Rattle.value_lift.specs.Lifting.{most}
use Rattle.res_handles.specs.declared.refusal.Refusal.{Refusal}
use Rattle.comp_graph.specs.Needs.{flat_param_limit, flat_result_limit}
use Rattle.abi_machine.specs.LiftingOver.{made, after, Part, CasePart, FieldPart, part_step, part, elements_of, load_by, lift_flat_by}
use Rattle.abi_machine.specs.LoweringOver.{New, Plan, Gives, Lowered, lower_step, lowered, field_words, elements_from, tested, stored, flat_lowered, placed}
use Rattle.abi_machine.specs.World.{World}
use Rattle.abi_machine.specs.Lifting.{Kept, Stopped, Came, end_taken, by_world, nothing_lifted}
use Rattle.abi_machine.specs.Passing.{params_type, params_pass, result_passes, passed_limit, last_of, arguments_lifted, result_lifted, elements_lifted, arguments_plan, result_plan, elements_plan}
use Rattle.abi_machine.specs.examples.Parts.{func_type}
use Rattle.abi_machine.proofs.Layers.{tuple_part, tuple_parts, record_lowered}

-- Lifting: arguments and results in core values, and elements.
abbrev pub Layer : Type 0
Layer = F.ValType-F (Part Kept Stopped) (CasePart Kept Stopped) (FieldPart Kept Stopped)

pub arguments_by : (i t : ℕ) (is_async : Bool) (f : FuncType) (bytes words : List ℕ) (w : World) (p : Part Kept Stopped)
    → params_pass (passed_limit is_async) f ≡ false → part (by_world i t) (params_type f) ≡ p
    → arguments_lifted i t is_async f bytes words w ≡ p.lift_words bytes words 0 (nothing_lifted (most whole.Arguments) w)
unfolding arguments_lifted
arguments_by i t is_async f bytes words w p few e =
    ap (λ (b : Bool). if b then load_by (by_world i t) (params_type f) bytes (slice_index words 0) (nothing_lifted (most whole.Arguments) w)
    else lift_flat_by (by_world i t) (params_type f) bytes words (nothing_lifted (most whole.Arguments) w)) few
    ∙ ap (λ (q : Part Kept Stopped). q.lift_words bytes words 0 (nothing_lifted (most whole.Arguments) w)) e

pub result_by : (i t limit : ℕ) (type : ValType) (bytes words : List ℕ) (w : World) (p : Part Kept Stopped)
    → result_passes limit (Some type) ≡ false → part (by_world i t) type ≡ p
    → result_lifted i t limit type bytes words w ≡ p.lift_words bytes words 0 (nothing_lifted (most whole.Value) w)
unfolding result_lifted
result_by i t limit type bytes words w p few e =
    ap (λ (b : Bool). if b then load_by (by_world i t) type bytes (slice_index words 0) (nothing_lifted (most whole.Value) w)
    else lift_flat_by (by_world i t) type bytes words (nothing_lifted (most whole.Value) w)) few
    ∙ ap (λ (q : Part Kept Stopped). q.lift_words bytes words 0 (nothing_lifted (most whole.Value) w)) e

pub elements_by : (i t : ℕ) (type : ValType) (bytes : List ℕ) (place count : ℕ) (w : World) (p : Part Kept Stopped) → part (by_world i t) type ≡ p
    → elements_lifted i t type bytes place count w
    ≡ (if count == 0 then Ok ([], nothing_lifted (most whole.Value) w) else elements_of (by_world i t) p place count bytes place (nothing_lifted (most whole.Value) w))
unfolding elements_lifted
elements_by i t type bytes place count w p e =
    ap (λ (q : Part Kept Stopped). if count == 0 then Ok ([], nothing_lifted (most whole.Value) w)
    else elements_of (by_world i t) q place count bytes place (nothing_lifted (most whole.Value) w)) e

-- no arguments, one, and two
pub none_passed : (i t : ℕ) (is_async : Bool) (result : Option ValType) (bytes words : List ℕ) (w : World) → nat_lt (passed_limit is_async) 0 ≡ false
    → arguments_lifted i t is_async (func_type [] result) bytes words w
    ≡ (part_step (by_world i t) (F.Tuple [])).lift_words bytes words 0 (nothing_lifted (most whole.Arguments) w)
none_passed i t is_async result bytes words w few =
    arguments_by i t is_async (func_type [] result) bytes words w (part_step (by_world i t) (F.Tuple [])) few (tuple_part (by_world i t) [])

pub one_passed : (i t : ℕ) (is_async : Bool) (type : ValType) (y : Layer) (result : Option ValType) (bytes words : List ℕ) (w : World)
    → nat_lt (passed_limit is_async) 1 ≡ false → flat type ≡ I32 ∷ [] → part (by_world i t) type ≡ part_step (by_world i t) y
    → arguments_lifted i t is_async (func_type (type ∷ []) result) bytes words w
    ≡ (part_step (by_world i t) (F.Tuple (part_step (by_world i t) y ∷ []))).lift_words bytes words 0 (nothing_lifted (most whole.Arguments) w)
one_passed i t is_async type y result bytes words w few flat_is e =
    arguments_by i t is_async (func_type (type ∷ []) result) bytes words w (part_step (by_world i t) (F.Tuple (part_step (by_world i t) y ∷ [])))
    (ap (λ (c : List CoreType). nat_lt (passed_limit is_async) (length (c ++ []))) flat_is ∙ few)
    (tuple_part (by_world i t) (type ∷ []) ∙ ap (λ (p : Part Kept Stopped). part_step (by_world i t) (F.Tuple (p ∷ []))) e)

pub two_passed : (i t : ℕ) (is_async : Bool) (type other : ValType) (y z : Layer) (result : Option ValType) (bytes words : List ℕ) (w : World)
    → nat_lt (passed_limit is_async) 2 ≡ false → flat type ≡ I32 ∷ [] → flat other ≡ I32 ∷ []
    → part (by_world i t) type ≡ part_step (by_world i t) y → part (by_world i t) other ≡ part_step (by_world i t) z
    → arguments_lifted i t is_async (func_type (type ∷ other ∷ []) result) bytes words w
    ≡ (part_step (by_world i t) (F.Tuple (part_step (by_world i t) y ∷ part_step (by_world i t) z ∷ []))).lift_words bytes words 0
    (nothing_lifted (most whole.Arguments) w)
two_passed i t is_async type other y z result bytes words w few flat_is other_is e h =
    arguments_by i t is_async (func_type (type ∷ other ∷ []) result) bytes words w
    (part_step (by_world i t) (F.Tuple (part_step (by_world i t) y ∷ part_step (by_world i t) z ∷ [])))
    (ap (λ (c : List CoreType). nat_lt (passed_limit is_async) (length (c ++ (flat other ++ [])))) flat_is
    ∙ ap (λ (c : List CoreType). nat_lt (passed_limit is_async) (length ((I32 ∷ []) ++ (c ++ [])))) other_is ∙ few)
    (tuple_part (by_world i t) (type ∷ other ∷ [])
    ∙ ap (λ (p : Part Kept Stopped). part_step (by_world i t) (F.Tuple (p ∷ part (by_world i t) other ∷ []))) e
    ∙ ap (λ (p : Part Kept Stopped). part_step (by_world i t) (F.Tuple (part_step (by_world i t) y ∷ p ∷ []))) h)

-- one end of a stream or a future: an index that names it, or not
abbrev pub end_passed : ℕ → (ℕ → Value) → ℕ → World → Result ℕ Refusal → Came Value
end_passed i make index w r =
    made {S = Kept} {F = Stopped} values.Record (after {S = Kept} {F = Stopped} (made {S = Kept} {F = Stopped} make
    (end_taken i index r (record { left = most whole.Arguments - 2; lines = []; world = w }))) (λ v kept. Ok (v ∷ [], kept)))

-- a result of one core value
pub result_passed_as : (i t limit : ℕ) (type : ValType) (y : Layer) (bytes words : List ℕ) (w : World)
    → nat_lt limit 1 ≡ false → flat type ≡ I32 ∷ [] → part (by_world i t) type ≡ part_step (by_world i t) y
    → result_lifted i t limit type bytes words w ≡ (part_step (by_world i t) y).lift_words bytes words 0 (nothing_lifted (most whole.Value) w)
result_passed_as i t limit type y bytes words w few flat_is e =
    result_by i t limit type bytes words w (part_step (by_world i t) y) (ap (λ (c : List CoreType). nat_lt limit (length c)) flat_is ∙ few) e

-- Plans: of arguments,
pub fields_planned : (enter : New → (ℕ → Plan) → Plan) (f : FuncType) (all : List Value) (xs : List Lowered)
    → params_pass flat_param_limit f ≡ false → map (lowered enter) all ≡ xs
    → arguments_plan enter f (values.Record all) ≡ field_words (map Some (map (λ p. p.val_type) f.params)) xs [] (λ words. Gives words)
unfolding arguments_plan
fields_planned enter f all xs few e =
    ap (λ (b : Bool). if b then placed enter (params_type f) (values.Record all) else flat_lowered enter (params_type f) (values.Record all)) few
    ∙ ap (λ (x : Lowered). x.words (params_type f) [] (λ words. Gives words)) (record_lowered enter all)
    ∙ ap (λ (ys : List Lowered). (lower_step enter (V.Record ys)).words (params_type f) [] (λ words. Gives words)) e
    ∙ ap (λ (parts : List (Option ValType)). field_words parts xs [] (λ words. Gives words)) (tuple_parts (map (λ p. p.val_type) f.params))

pub none_planned : (enter : New → (ℕ → Plan) → Plan) (result : Option ValType) → arguments_plan enter (func_type [] result) (values.Record []) ≡ Gives []
none_planned enter result = fields_planned enter (func_type [] result) [] [] refl refl

pub one_planned : (enter : New → (ℕ → Plan) → Plan) (type : ValType) (result : Option ValType) (v : Value) (x : Lowered)
    → nat_lt flat_param_limit (length (flat type ++ [])) ≡ false → lowered enter v ≡ x
    → arguments_plan enter (func_type (type ∷ []) result) (values.Record (v ∷ [])) ≡ field_words (Some type ∷ []) (x ∷ []) [] (λ words. Gives words)
one_planned enter type result v x few e =
    fields_planned enter (func_type (type ∷ []) result) (v ∷ []) (x ∷ []) few (ap (λ (y : Lowered). y ∷ []) e)

pub two_planned : (enter : New → (ℕ → Plan) → Plan) (type other : ValType) (result : Option ValType) (v u : Value) (x y : Lowered)
    → flat type ≡ I32 ∷ [] → flat other ≡ I32 ∷ [] → lowered enter v ≡ x → lowered enter u ≡ y
    → arguments_plan enter (func_type (type ∷ other ∷ []) result) (values.Record (v ∷ u ∷ []))
    ≡ field_words (Some type ∷ Some other ∷ []) (x ∷ y ∷ []) [] (λ words. Gives words)
two_planned enter type other result v u x y flat_is other_is e h =
    fields_planned enter (func_type (type ∷ other ∷ []) result) (v ∷ u ∷ []) (x ∷ y ∷ [])
    (ap (λ (c : List CoreType). nat_lt flat_param_limit (length (c ++ (flat other ++ [])))) flat_is
    ∙ ap (λ (c : List CoreType). nat_lt flat_param_limit (length ((I32 ∷ []) ++ (c ++ [])))) other_is)
    (ap (λ (z : Lowered). z ∷ lowered enter u ∷ []) e ∙ ap (λ (z : Lowered). x ∷ z ∷ []) h)

-- of a result in a core value, or at a place,
pub result_planned : (enter : New → (ℕ → Plan) → Plan) (type : ValType) (v : Value) (words : List ℕ) (x : Lowered)
    → flat type ≡ I32 ∷ [] → lowered enter v ≡ x → result_plan enter false type v words ≡ x.words type [] (λ words. Gives words)
unfolding result_plan
result_planned enter type v words x flat_is e =
    ap (λ (c : List CoreType). if nat_lt flat_result_limit (length c) then stored enter type v (last_of words) else flat_lowered enter type v) flat_is
    ∙ ap (λ (y : Lowered). y.words type [] (λ words. Gives words)) e

pub result_placed : (enter : New → (ℕ → Plan) → Plan) (type : ValType) (v : Value) (words : List ℕ) (l : Laid) (x : Lowered)
    → laid type ≡ l → lowered enter v ≡ x
    → result_plan enter true type v words ≡ tested (last_of words) l.align l.size (x.store type (last_of words) (Gives []))
unfolding result_plan
result_placed enter type v words l x lay e =
    ap (λ (m : Laid). tested (last_of words) m.align m.size ((lowered enter v).store type (last_of words) (Gives []))) lay
    ∙ ap (λ (y : Lowered). tested (last_of words) l.align l.size (y.store type (last_of words) (Gives []))) e

-- and of elements one after the other, which have a size.
abbrev pub sized_from : ℕ → ValType → ℕ → List Lowered → Plan → Plan
sized_from size type place [] k = k
sized_from size type place (x ∷ xs) k = x.store type place (sized_from size type (place + size) xs k)

from_sized : (type : ValType) (place : ℕ) (xs : List Lowered) (k : Plan) → elements_from type place xs k ≡ sized_from (laid type).size type place xs k
from_sized type place [] k = refl
from_sized type place (x ∷ xs) k = ap (λ (more : Plan). x.store type place more) (from_sized type (place + (laid type).size) xs k)

pub elements_planned : (enter : New → (ℕ → Plan) → Plan) (type : ValType) (all : List Value) (place : ℕ) (xs : List Lowered) (l : Laid)
    → laid type ≡ l → map (lowered enter) all ≡ xs → elements_plan enter type all place ≡ sized_from l.size type place xs (Gives [])
unfolding elements_plan
elements_planned enter type all place xs l lay e =
    ap (λ (ys : List Lowered). elements_from type place ys (Gives [])) e ∙ from_sized type place xs (Gives [])
    ∙ ap (λ (m : Laid). sized_from m.size type place xs (Gives [])) lay
