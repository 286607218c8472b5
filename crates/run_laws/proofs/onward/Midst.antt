-- Where values are to be passed the acting task is the one that acted where the run rested, and runs the same function; and what is kept is right for what passing asks.
use Rattle.std.proofs.Common.{◌≡◌, inl, inr, ◌-◌, ℕ, Bool, true, false, is_some, List, length, refl, sym, ap, ◌∙◌, subst, Option, Some, None}
use Rattle.std.specs.Prelude.{IsSome}
use Rattle.std.specs.List.{slice_get}
use Rattle.std.specs.Option.{option_map}
use Rattle.syntax_trees.specs.declared.types.ValType.{ValType}
use Rattle.laid_types.specs.Handles.{has_borrow, held_borrow}
use Rattle.laid_types.specs.Known.{Numbered}
use Rattle.wasm_store.specs.Stack.{Stack}
use Rattle.comp_graph.specs.declared.graph.CanonFunc.{CanonFunc}
use Rattle.comp_graph.specs.declared.graph.CanonFunc.TheVariants as canon
use Rattle.comp_graph.specs.Graph.{Graph, Lifted}
use Rattle.comp_graph.specs.Passed.{MayBeAt}
use Rattle.script_reader.specs.Script.{Script}
use Rattle.instances.specs.Instances.{InstanceView}
use Rattle.copy_replies.specs.Moves.{element_at, value_in}
use Rattle.task_table.specs.declared.errand.Callee as kept
use Rattle.task_table.specs.declared.slot.TaskSlot.{TaskSlot}
use Rattle.programs.specs.declared.program.Program.{Program}
use Rattle.world_parts.specs.Held.{Held}
use Rattle.machine_runs.specs.Worlds.{handed}
use Rattle.abi_machine.specs.World.{Callee, Func, Inst, Task, World}
use Rattle.abi_machine.specs.Canons.{canon_at, options_at}
use Rattle.abi_machine.specs.Reading.{func_of}
use Rattle.abi_machine.specs.sound.GraphFuncs.{IsOfGraph}
use Rattle.abi_machine.specs.sound.PassedTypes.{PassesNoBorrow}
use Rattle.abi_machine.proofs.sound.Found.{some_same}
use Rattle.standing.specs.Ends.{HasMemory}
use Rattle.standing.specs.Moves.{Acts}
use Rattle.standing.specs.Stands.{Stands}
use Rattle.standing.specs.Tasks.{callee_of, TaskStands}
use Rattle.standing.proofs.Changes.{acting_is_alike}
use Rattle.standing.proofs.KeptMarks.{lends_are_counted}
use Rattle.run_laws.specs.SuppliedPassings.{IsBehind, IsProgramOf}
use Rattle.run_laws.specs.Taking.{LendsMarked}
use Rattle.run_laws.specs.keeping.Lowerings.{HoldsNoBorrow}
use Rattle.run_laws.proofs.onward.Led.{IsLed, SlotLed}
use Rattle.run_laws.proofs.supplied.Found.{task_of, inst_of, view_of_inst}
use Rattle.run_laws.proofs.supplied.Hears.{memory_alike}
use Rattle.run_laws.proofs.supplied.Memories.{memories_are_named}

-- Of a graph whose results and elements hold no borrow, those of functions and of built-ins hold none.
not_borrowed : (b : Bool) → (b ≡ true → ⊥) → b ≡ false
not_borrowed true never = absurd (never refl)
not_borrowed false never = refl

pub element_free : (g : Graph) → PassesNoBorrow g → (number : ℕ) → held_borrow (element_at g number) ≡ false
element_free g none number = by (canon_at g number) refl
  where
    by : (o : Option CanonFunc) → canon_at g number ≡ o → held_borrow (value_in o) ≡ false
    by None made = refl
    by (Some (canon.Lower l)) made = refl
    by (Some (canon.Builtin b)) made = not_borrowed (held_borrow (value_in (Some (canon.Builtin b)))) (λ holds. none (inl (number, canon.Builtin b, made, holds)))

pub result_free : (g : Graph) → PassesNoBorrow g → (f : Lifted) → IsOfGraph g (Func f) → held_borrow f.func_type.result ≡ false
result_free g none f (inl exported) = not_borrowed (held_borrow f.func_type.result) (λ holds. none (inr (exported.0, f, exported.1, holds)))
result_free g none f (inr lowered) =
    not_borrowed (held_borrow f.func_type.result)
    (λ holds. none (inl (lowered.0, canon.Lower lowered.1, lowered.2, ap (λ (x : Lifted). held_borrow x.func_type.result) lowered.3 ∙ holds)))

-- A type by its number, where the type holds none.
pub numbered_free : (p : Program) (o : Option ℕ) (x : Option ValType) → MayBeAt p.types.now o x → held_borrow x ≡ false → HoldsNoBorrow p o
numbered_free p None x at free number type is found = absurd (cc)
numbered_free p (Some n) None at free number type is found = absurd at
numbered_free p (Some n) (Some t) at free number type is found =
    let there : slice_get p.types.now number ≡ Some t = ap (λ (m : ℕ). slice_get p.types.now m) (sym (some_same is)) ∙ at in
    let same : type.val_type ≡ t =
    ap (λ (x : Numbered). x.val_type)
    (some_same (sym found ∙ ap (λ (q : Option ValType). option_map (λ (v : ValType). (let x : Numbered = record { types = p.types.now; number = number; val_type = v } in x)) q) there)) in
    ap has_borrow same ∙ free

module _ (p : Program) (values : List ValType) (s : Script) (h : Held) (stacks : List (List Stack)) (w : World) (later : Held) (now : List (List Stack)) (v : World) (st : Stands p.graph.now values s h stacks w)
    (b : IsBehind p values s later now v) (led : IsLed h later) where
  abbrev g : Graph
  g = p.graph.now

  -- The task of a number then, on both sides.
  pub record IsTaskThen (t : ℕ) (x : TaskSlot) (a : Task) : Type 0 where
    pub slot : TaskSlot
    pub task : Task
    pub kept : slice_get later.tasks t ≡ Some slot
    pub there : slice_get v.tasks t ≡ Some task
    pub led_slot : SlotLed x slot
    pub stands : TaskStands g s slot task
    pub callee : task.callee ≡ a.callee

  some_slot : (o : Option TaskSlot) → IsSome o → (z : TaskSlot) × (o ≡ Some z)
  some_slot None some = absurd (cc)
  some_slot (Some z) some = (z, refl)

  pub task_then : (t : ℕ) (x : TaskSlot) (a : Task) → slice_get h.tasks t ≡ Some x → TaskStands g s x a → IsTaskThen t x a
  task_then t x a there stands =
      let y = some_slot (slice_get later.tasks t) (led.stay t (ap is_some there)) in
      let z = led.tasks t y.0 y.1 in
      let same : z.0 ≡ x = some_same (sym z.1 ∙ there) in
      let slot_led : SlotLed x y.0 = subst (λ (u : TaskSlot). SlotLed u y.0) same z.2 in
      let c = task_of g values s later now v b.stands t y.0 y.1 in
      record {
        slot = y.0;
        task = c.0;
        kept = y.1;
        there = c.1;
        led_slot = slot_led;
        stands = c.2;
        callee = some_same (sym c.2.does ∙ ap (λ (k : kept.Callee). callee_of g k) slot_led.callee ∙ stands.does);
      }

  pub first_then : (t : ℕ) → slice_get w.chain 0 ≡ Some t → slice_get v.chain 0 ≡ Some t
  first_then t first =
      sym (acting_is_alike g values s later now v b.stands) ∙ ap (λ (l : List ℕ). slice_get l (length l - 1)) led.chain ∙ acting_is_alike g values s h stacks w st ∙ first

  pub inside_then : (n : ℕ) → IsSome (slice_get w.insts n) → IsSome (slice_get v.insts n)
  inside_then n inside =
      let a = some_inst (slice_get w.insts n) inside in
      let i = view_of_inst g values s h stacks w st n a.0 a.1 in
      let z = inst_of g values s later now v b.stands n i.0 (ap (λ (l : List InstanceView). slice_get l n) led.instances ∙ i.1) in ap is_some z.1
    where
      some_inst : (o : Option Inst) → IsSome o → (z : Inst) × (o ≡ Some z)
      some_inst None some = absurd (cc)
      some_inst (Some z) some = (z, refl)

  pub acts_then : (t : ℕ) (x : TaskSlot) (a : Task) (f : Lifted) (y : IsTaskThen t x a) → Acts w t a f → Acts v t y.task f
  acts_then t x a f y acts = record { first = first_then t acts.first; there = y.there; runs = ap func_of y.callee ∙ acts.runs; inside = inside_then f.instance acts.inside }

  -- Memories, and how often handles are lent.
  pub memory_then : IsProgramOf p values s → (f : Lifted) (callee : Callee) → IsOfGraph g callee → func_of callee ≡ Some f → HasMemory (handed later) v f.options
  memory_then prog f callee of_graph runs =
      memory_alike f.options.memory later (handed later) refl ∙ memories_are_named g values s later now v f.options b.stands b.memories (prog.first.functions callee f of_graph runs)

  pub memories_then : IsProgramOf p values s → (number : ℕ) → HasMemory (handed later) v (options_at g number)
  memories_then prog number =
      memory_alike (options_at g number).memory later (handed later) refl ∙ memories_are_named g values s later now v (options_at g number) b.stands b.memories (prog.first.canons number)

  pub lends_then : LendsMarked later.instances v
  lends_then at index i x here there = lends_are_counted g values s later now v at index i x b.stands b.marks here there
