-- What a task that runs a destructor is: the function that it runs, its one word, and how that is lifted and lowered.
use Rattle.std.proofs.Common.{◌≡◌, ◌<◌, ◌^◌, ◌%◌, ◌-◌, ℕ, zero, suc, Bool, true, false, nat_lt, if◌then◌else◌, List, [], ◌∷◌, ◌++◌, length, refl, sym, ap, ◌∙◌, arith, Option, Some, None, Ok}
use Rattle.std.specs.List.{slice_get}
use Rattle.std.specs.Option.{option_map}
use Rattle.std.proofs.lemmas.Bool.{ltb-true}
use Rattle.syntax_trees.specs.declared.core_type.CoreType.{CoreType}
use Rattle.syntax_trees.specs.declared.types.ValType.TheOpen as F
use Rattle.syntax_trees.specs.declared.types.ValType.TheVariants as leaves
use Rattle.syntax_trees.specs.declared.value.Value.{Value}
use Rattle.syntax_trees.specs.declared.value.Value.TheOpen as V
use Rattle.syntax_trees.specs.declared.value.Value.TheVariants as plain
use Rattle.syntax_trees.specs.declared.value.Value.TheViews as values
use Rattle.value_lift.specs.declared.counting.LiftOf.TheVariants as whole
use Rattle.value_lift.specs.Lifting.{most}
use Rattle.comp_graph.specs.declared.graph.CanonFunc.{CanonFunc}
use Rattle.comp_graph.specs.declared.graph.CanonFunc.TheVariants as canon
use Rattle.comp_graph.specs.declared.graph.FuncRef.{FuncRef}
use Rattle.comp_graph.specs.declared.graph.Resource.{Resource}
use Rattle.comp_graph.specs.Graph.{Graph, Lifted, func_at}
use Rattle.graph_views.specs.Callees.{lift_of, destructor_lift, destructor_by, destructor_in}
use Rattle.task_table.specs.declared.errand.Callee as kept_callee
use Rattle.task_table.specs.declared.errand.Callee.TheVariants as callee
use Rattle.world_parts.specs.Slots.{word_in}
use Rattle.abi_machine.specs.Canons.{canon_at, resource_at, destructor_of, destructor_type}
use Rattle.abi_machine.specs.Edits.{changed_at, with_table, with_memory}
use Rattle.abi_machine.specs.Canons as canons
use Rattle.abi_machine.specs.Lifting.{Kept, Stopped, Came, by_world}
use Rattle.abi_machine.specs.LiftingOver.{Part, part_step}
use Rattle.abi_machine.specs.LoweringOver.{New, Plan, Gives, Lowered, lower_step}
use Rattle.abi_machine.specs.Passing.{passed_limit, arguments_lifted, arguments_plan}
use Rattle.abi_machine.specs.Reading.{table_in, table_of}
use Rattle.abi_machine.specs.World.{Inst, Callee, Func, Destroys, World}
use Rattle.abi_machine.proofs.Layers.{u32_flat, u32_part, u32_lowered, tuple_part}
use Rattle.abi_machine.proofs.Passed.{arguments_by, fields_planned}
use Rattle.standing.specs.Tasks as standing_tasks
use Rattle.standing.proofs.Seen.{resource_same}

-- The destructor that a task runs.
pub record IsDestroyed (g : Graph) (c : kept_callee.Callee) (f : Lifted) : Type 0 where
  pub number : ℕ
  pub is : c ≡ callee.Destroys number
  pub instance : ℕ
  pub core : FuncRef
  pub func : f ≡ destructor_of instance core
  pub lift : lift_of g (callee.Destroys number) ≡ Some (destructor_lift instance core)

destroys_same : (r q : ℕ) (f k : Lifted) → (let o : Option Callee = Some (Destroys r f) in o) ≡ Some (Destroys q k) → f ≡ k
destroys_same r q f k e = cc

no_export : (o : Option Lifted) (resource : ℕ) (f : Lifted) → option_map Func o ≡ Some (Destroys resource f) → ⊥
no_export None resource f is = cc
no_export (Some k) resource f is = cc

no_lower : (o : Option CanonFunc) (resource : ℕ) (f : Lifted) → standing_tasks.lowered_in o ≡ Some (Destroys resource f) → ⊥
no_lower None resource f is = cc
no_lower (Some (canon.Lower l)) resource f is = cc
no_lower (Some (canon.Builtin b)) resource f is = cc

by_core : (g : Graph) (number resource instance : ℕ) (o : Option FuncRef) (f : Lifted) → standing_tasks.destroyed_by number instance o ≡ Some (Destroys resource f)
    → lift_of g (callee.Destroys number) ≡ destructor_by instance o → IsDestroyed g (callee.Destroys number) f
by_core g number resource instance None f is lift = absurd (let w : ⊥ = cc in w)
by_core g number resource instance (Some core) f is lift = record {
  number = number;
  is = refl;
  instance = instance;
  core = core;
  func = destroys_same resource number f (destructor_of instance core) (sym is);
  lift = lift;
}

by_resource : (g : Graph) (number resource : ℕ) (o : Option Resource) (f : Lifted) → standing_tasks.destroyed_in number o ≡ Some (Destroys resource f)
    → lift_of g (callee.Destroys number) ≡ destructor_in o → IsDestroyed g (callee.Destroys number) f
by_resource g number resource None f is lift = absurd (let w : ⊥ = cc in w)
by_resource g number resource (Some r) f is lift = by_core g number resource r.instance r.destructor f is lift

pub destroyed_is : (g : Graph) (c : kept_callee.Callee) (resource : ℕ) (f : Lifted) → standing_tasks.callee_of g c ≡ Some (Destroys resource f) → IsDestroyed g c f
destroyed_is g callee.Init resource f is = absurd (let w : ⊥ = cc in w)
destroyed_is g (callee.Export number) resource f is = absurd (no_export (func_at g number) resource f is)
destroyed_is g (callee.Lowered number) resource f is = absurd (no_lower (canon_at g number) resource f is)
destroyed_is g (callee.Destroys number) resource f is =
    by_resource g number resource (resource_at g number) f is (ap (λ (o : Option Resource). destructor_in o) (resource_same g number))

-- A 32-bit word is all of its low bits.
low_word : (word : ℕ) → word_in (word ∷ []) 0 ≡ Some word → word % 2 ^ 32 ≡ word
low_word word is = by (nat_lt word (2 ^ 32)) refl is
  where
    by : (b : Bool) → nat_lt word (2 ^ 32) ≡ b → (if b then Some word else None) ≡ Some word → word % 2 ^ 32 ≡ word
    by true e is = (let less : word < 2 ^ 32 = ltb-true word (2 ^ 32) e in omega (arith, less))
    by false e is = absurd (let w : ⊥ = cc in w)

-- It is lifted as a value, which is lowered as the word.
few_words : (is_async : Bool) → nat_lt (passed_limit is_async) 1 ≡ false
few_words true = refl
few_words false = refl

abbrev pub kept_rep : World → Kept
kept_rep w = record { left = most whole.Arguments - 2; lines = []; world = w }

abbrev pub rep_value : ℕ → Value
rep_value word = values.Record (plain.U32 word ∷ [])

pub rep_lifted : (at t : ℕ) (is_async : Bool) (bytes : List ℕ) (word : ℕ) (w : World) → word_in (word ∷ []) 0 ≡ Some word
    → arguments_lifted at t is_async destructor_type bytes (word ∷ []) w ≡ Ok (rep_value word, kept_rep w)
rep_lifted at t is_async bytes word w small =
    let l = by_world at t in
    let one : Part Kept Stopped = part_step l F.U32 in
    arguments_by at t is_async destructor_type bytes (word ∷ []) w (part_step l (F.Tuple (one ∷ [])))
    (ap (λ (c : List CoreType). nat_lt (passed_limit is_async) (length (c ++ []))) u32_flat ∙ few_words is_async)
    (tuple_part l (leaves.U32 ∷ []) ∙ ap (λ (p : Part Kept Stopped). part_step l (F.Tuple (p ∷ []))) (u32_part l))
    ∙ ap (λ (n : ℕ). (let came : Came Value = Ok (values.Record (plain.U32 n ∷ []), record { left = most whole.Arguments - 2; lines = []; world = w }) in came)) (low_word word small)

pub rep_planned : (enter : New → (ℕ → Plan) → Plan) (word : ℕ) → arguments_plan enter destructor_type (rep_value word) ≡ Gives (word ∷ [])
rep_planned enter word =
    fields_planned enter destructor_type (plain.U32 word ∷ []) (lower_step enter (V.U32 word) ∷ []) (ap (λ (c : List CoreType). nat_lt 16 (length (c ++ []))) u32_flat)
    (ap (λ (x : Lowered). x ∷ []) (u32_lowered enter word))

-- Bytes and a table that are written back.
same_table : (i : ℕ) (xs : List Inst) → changed_at i (λ (inst : Inst). record inst { table = table_in (slice_get xs i) }) xs ≡ xs
same_table i [] = refl
same_table zero (x ∷ xs) = refl
same_table (suc i) (x ∷ xs) = ap (λ (ys : List Inst). x ∷ ys) (same_table i xs)

pub left_same : (i : ℕ) (w : World) → with_table i (λ before. table_of w i) (with_memory None (canons.bytes_of w.store None) w) ≡ w
left_same i w = ap (λ (xs : List Inst). record w { insts = xs }) (same_table i w.insts)
