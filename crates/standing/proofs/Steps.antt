-- Parts behind parts, step by step: what is found, what a task that is found is at, and what happens to it.
use Rattle.std.proofs.Common.{◌≡◌, ℕ, zero, suc, ◌-◌, Bool, true, false, is_some, if◌then◌else◌, List, [], ◌∷◌, ◌++◌, length, slice_set, refl, sym, ap, ◌∙◌, subst, append_assoc, Option, Some}
use Rattle.std.specs.Option.{option_map}
use Rattle.std.specs.List.{slice_get}
use Rattle.syntax_trees.specs.declared.types.ValType.{ValType}
use Rattle.wasm_store.specs.Store.{found_at}
use Rattle.wasm_store.specs.Stack.{Stack}
use Rattle.entry_gate.specs.Gates as gate
use Rattle.entry_gate.specs.Gates.{GateView, is_free, with_wait, held_by}
use Rattle.entry_gate.specs.declared.kind.Kind.{Kind}
use Rattle.tasks.specs.declared.phase.Phase.{Phase}
use Rattle.tasks.specs.Tasks.{is_asked, state_of}
use Rattle.tasks.specs.Subtasks.{is_over}
use Rattle.comp_graph.specs.Graph.{Graph, Lifted}
use Rattle.script_reader.specs.Script.{Script}
use Rattle.trace_labels.specs.declared.label.Label.{Label}
use Rattle.trace_labels.specs.declared.label.Label.TheVariants as line
use Rattle.trace_labels.specs.declared.trap.TrapName.{TrapName}
use Rattle.instances.specs.Instances.{InstanceView, with_gate}
use Rattle.task_table.specs.declared.errand.Errand.{Errand}
use Rattle.task_table.specs.declared.slot.TaskSlot.{TaskSlot}
use Rattle.task_table.specs.Slots.{at_errand}
use Rattle.world_parts.specs.declared.parts.Flow.{Flow}
use Rattle.world_parts.specs.Held.{Held, Done, Gives, Traps, after, given}
use Rattle.world_parts.specs.Feed.{acting, got}
use Rattle.world_parts.specs.Entries.{with_instance}
use Rattle.world_parts.specs.Gates.{may_enter, entry_is_free, gate_waited, gate_taken_back}
use Rattle.world_parts.specs.Slots.{with_task, instance_of, kind_of, callee_of, phase_of, errand_of, asked, resolved, words_of, errand_set}
use Rattle.abi_machine.specs.World.{Inst, Task, World}
use Rattle.abi_machine.specs.Edits.{changed_at}
use Rattle.abi_machine.specs.Reading as reading
use Rattle.abi_machine.specs.Reading.{func_of}
use Rattle.abi_machine.specs.Turn as turns
use Rattle.abi_machine.specs.Turn.{Turn, Steps, with_func, behind, goes_on_with}
use Rattle.abi_machine.specs.Calling.{replied_behind}
use Rattle.abi_machine.proofs.sound.Found.{some_same}
use Rattle.standing.specs.Instances.{InstStands}
use Rattle.standing.specs.Tasks.{TaskStands, RunsIn}
use Rattle.standing.specs.Stands.{Stands}
use Rattle.standing.specs.Agreeing.{Agrees}
use Rattle.standing.specs.Moves.{Acts}
use Rattle.standing.proofs.Lists.{IsFound, found_both}
use Rattle.standing.proofs.Changes.{acting_is_alike}

-- A part that gives something, that traps, or is stuck, and then another one.
pub via : {A B : Type 0} (d : Done A) (x : A) (k : Held) (G : A → Held → Done B) → d ≡ Gives x k → after d G ≡ G x k
via d x k G same = ap (λ e. after e G) same

pub trapped : {A B : Type 0} (d : Done A) (why : TrapName) (k : Held) (G : A → Held → Done B) → d ≡ Traps why k → after d G ≡ Traps why k
trapped d why k G same = ap (λ e. after e G) same

pub found : {A B : Type 0} (o : Option A) (x : A) (F : A → Done B) → o ≡ Some x → given o F ≡ F x
found o x F is = ap (λ p. given p F) is

pub turn_found : {A : Type 0} (o : Option A) (x : A) (F : A → Turn) → o ≡ Some x → turns.given o F ≡ F x
turn_found o x F is = ap (λ p. turns.given p F) is

-- A test that is known.
pub if_true : {A : Type 0} (b : Bool) (x y : A) → b ≡ true → (if b then x else y) ≡ x
if_true b x y e = ap (λ c. if c then x else y) e

pub if_false : {A : Type 0} (b : Bool) (x y : A) → b ≡ false → (if b then x else y) ≡ y
if_false b x y e = ap (λ c. if c then x else y) e

-- What a part comes to and a turn, told by others.
pub both_as : (g : Graph) (values : List ValType) (s : Script) (t : ℕ) (before : List Label) (stacks : List (List Stack)) (d e : Done Flow) (u v : Turn) → d ≡ e → u ≡ v
    → Agrees g values s t before stacks e v → Agrees g values s t before stacks d u
both_as g values s t before stacks d e u v same turn a =
    subst (λ (x : Done Flow). Agrees g values s t before stacks x u) (sym same) (subst (λ (x : Turn). Agrees g values s t before stacks e x) (sym turn) a)

-- A turn without lines in front of it.
pub behind_none : (turn : Turn) → behind [] turn ≡ turn
behind_none (Steps more w) = refl
behind_none (turns.Ends end) = refl
behind_none turns.Stuck = refl

-- The acting task.
pub acting_is : (g : Graph) (values : List ValType) (s : Script) (h : Held) (stacks : List (List Stack)) (w : World) (t : ℕ) → slice_get w.chain 0 ≡ Some t
    → Stands g values s h stacks w → acting h ≡ Gives t h
acting_is g values s h stacks w t first st = found (slice_get h.chain (length h.chain - 1)) t (λ n. Gives n h) (acting_is_alike g values s h stacks w st ∙ first)

pub acting_task : (w : World) (t : ℕ) (task : Task) (f : Lifted) → Acts w t task f → reading.acting w ≡ Some (t, task)
acting_task w t task f acts = ap (found_at w.tasks) acts.first ∙ ap (option_map (λ (x : Task). (t, x))) acts.there

pub func_acts : (w : World) (t : ℕ) (task : Task) (f : Lifted) (more : ℕ → Task → Lifted → Turn) → Acts w t task f → with_func w more ≡ more t task f
func_acts w t task f more acts =
    turn_found (reading.acting w) (t, task) (λ a. turns.given (func_of a.1.callee) (λ f. more a.0 a.1 f)) (acting_task w t task f acts)
    ∙ turn_found (func_of task.callee) f (λ f. more t task f) acts.runs

pub record IsKept (g : Graph) (values : List ValType) (s : Script) (h : Held) (w : World) (t : ℕ) (task : Task) (f : Lifted) : Type 0 where
  pub slot : TaskSlot
  pub is : slice_get h.tasks t ≡ Some slot
  pub alike : TaskStands g s slot task
  pub at : slot.instance ≡ f.instance
  pub inst : InstanceView
  pub here : slice_get h.instances f.instance ≡ Some inst
  pub machine_inst : Inst
  pub machine_here : slice_get w.insts f.instance ≡ Some machine_inst
  pub insts : InstStands values inst machine_inst
  pub acts : acting h ≡ Gives t h

pub is_kept : (g : Graph) (values : List ValType) (s : Script) (h : Held) (stacks : List (List Stack)) (w : World) (t : ℕ) (task : Task) (f : Lifted) → Acts w t task f
    → Stands g values s h stacks w → IsKept g values s h w t task f
is_kept g values s h stacks w t task f acts st =
    let one : IsFound (TaskStands g s) (slice_get h.tasks t) (slice_get w.tasks t) = found_both (TaskStands g s) h.tasks w.tasks t st.are_tasks (ap is_some acts.there) in
    let same : one.right ≡ task = some_same (sym one.is_right ∙ acts.there) in
    let stands : TaskStands g s one.left task = subst (λ (a : Task). TaskStands g s one.left a) same one.alike in
    let inst : IsFound (InstStands values) (slice_get h.instances f.instance) (slice_get w.insts f.instance) =
    found_both (InstStands values) h.instances w.insts f.instance st.are_instances acts.inside in
    record {
      slot = one.left;
      is = one.is_left;
      alike = stands;
      at = subst (λ (o : Option Lifted). RunsIn one.left.instance o) acts.runs stands.place;
      inst = inst.left;
      here = inst.is_left;
      machine_inst = inst.right;
      machine_here = inst.is_right;
      insts = inst.alike;
      acts = acting_is g values s h stacks w t acts.first st;
    }

-- What is told of a task that is there.
pub instance_is : (t at : ℕ) (h : Held) (x : TaskSlot) → slice_get h.tasks t ≡ Some x → x.instance ≡ at → instance_of t h ≡ Gives at h
instance_is t at h x is same = found (slice_get h.tasks t) x (λ slot. Gives slot.instance h) is ∙ ap (λ n. Gives n h) same

pub kind_is : (t : ℕ) (h : Held) (x : TaskSlot) → slice_get h.tasks t ≡ Some x → kind_of t h ≡ Gives x.task.kind h
kind_is t h x is = found (slice_get h.tasks t) x (λ slot. Gives slot.task.kind h) is

pub callee_is : (t : ℕ) (h : Held) (x : TaskSlot) → slice_get h.tasks t ≡ Some x → callee_of t h ≡ Gives x.callee h
callee_is t h x is = found (slice_get h.tasks t) x (λ slot. Gives slot.callee h) is

pub phase_is : (t : ℕ) (h : Held) (x : TaskSlot) (far : Phase) → slice_get h.tasks t ≡ Some x → x.task.phase ≡ far → phase_of t h ≡ Gives far h
phase_is t h x far is same = found (slice_get h.tasks t) x (λ slot. Gives slot.task.phase h) is ∙ ap (λ p. Gives p h) same

pub errand_is : (t : ℕ) (h : Held) (x : TaskSlot) (e : Errand) → slice_get h.tasks t ≡ Some x → x.errand ≡ e → errand_of t h ≡ Gives e h
errand_is t h x e is same = found (slice_get h.tasks t) x (λ slot. Gives slot.errand h) is ∙ ap (λ d. Gives d h) same

pub asked_is : (t : ℕ) (h : Held) (x : TaskSlot) → slice_get h.tasks t ≡ Some x → asked t h ≡ Gives (is_asked x.task.cancellation) h
asked_is t h x is = found (slice_get h.tasks t) x (λ slot. Gives (is_asked slot.task.cancellation) h) is

pub resolved_is : (t : ℕ) (h : Held) (x : TaskSlot) → slice_get h.tasks t ≡ Some x → resolved t h ≡ Gives (is_over (state_of x.task)) h
resolved_is t h x is = found (slice_get h.tasks t) x (λ slot. Gives (is_over (state_of slot.task)) h) is

pub words_are : (t : ℕ) (h : Held) (x : TaskSlot) → slice_get h.tasks t ≡ Some x → words_of t h ≡ Gives x.at_words h
words_are t h x is = found (slice_get h.tasks t) x (λ slot. Gives slot.at_words h) is

pub errand_put : (t : ℕ) (e : Errand) (h : Held) (x : TaskSlot) → slice_get h.tasks t ≡ Some x → errand_set t e h ≡ Gives tt (with_task t (at_errand e x) h)
errand_put t e h x is = found (slice_get h.tasks t) x (λ slot. Gives tt (with_task t (at_errand e slot) h)) is

-- What is told of the gate of an instance that is there, and what becomes of it.
pub may_enter_is : (at : ℕ) (kind : Kind) (newcomer : Bool) (h : Held) (i : InstanceView) → slice_get h.instances at ≡ Some i
    → may_enter at kind newcomer h ≡ Gives (gate.may_enter kind newcomer i.gate) h
may_enter_is at kind newcomer h i is = found (slice_get h.instances at) i (λ i. Gives (gate.may_enter kind newcomer i.gate) h) is

pub free_is : (at : ℕ) (h : Held) (i : InstanceView) → slice_get h.instances at ≡ Some i → entry_is_free at h ≡ Gives (is_free i.gate) h
free_is at h i is = found (slice_get h.instances at) i (λ i. Gives (is_free i.gate) h) is

pub waited_is : (at : ℕ) (h : Held) (i : InstanceView) → slice_get h.instances at ≡ Some i
    → gate_waited at h ≡ Gives tt (with_instance at (with_gate (with_wait i.gate) i) h)
waited_is at h i is = found (slice_get h.instances at) i (λ i. Gives tt (with_instance at (with_gate (with_wait i.gate) i) h)) is

pub taken_back_is : (at t : ℕ) (h : Held) (i : InstanceView) → slice_get h.instances at ≡ Some i
    → gate_taken_back at t h ≡ Gives tt (with_instance at (with_gate (held_by t i.gate) i) h)
taken_back_is at t h i is = found (slice_get h.instances at) i (λ i. Gives tt (with_instance at (with_gate (held_by t i.gate) i) h)) is

-- What stands at a place of a list in which something is changed, and at another place of one in which something is written.
pub changed_there : {A : Type 0} (n : ℕ) (f : A → A) (xs : List A) (x : A) → slice_get xs n ≡ Some x → slice_get (changed_at n f xs) n ≡ Some (f x)
changed_there n f [] x e = absurd (cc)
changed_there zero f (y ∷ xs) x e = ap (λ (z : _). Some (f z)) (some_same e)
changed_there (suc n) f (y ∷ xs) x e = changed_there n f xs x e

pub other_get : {A : Type 0} (xs : List A) (n m : ℕ) (y : A) → (m ≡ n → ⊥) → slice_get (slice_set xs n y) m ≡ slice_get xs m
other_get [] n m y apart = refl
other_get (x ∷ xs) zero zero y apart = absurd (apart refl)
other_get (x ∷ xs) zero (suc m) y apart = refl
other_get (x ∷ xs) (suc n) zero y apart = refl
other_get (x ∷ xs) (suc n) (suc m) y apart = other_get xs n m y (λ e. apart (ap suc e))

pub other_changed : {A : Type 0} (xs : List A) (n m : ℕ) (f : A → A) → (m ≡ n → ⊥) → slice_get (changed_at n f xs) m ≡ slice_get xs m
other_changed [] n m f apart = refl
other_changed (x ∷ xs) zero zero f apart = absurd (apart refl)
other_changed (x ∷ xs) zero (suc m) f apart = refl
other_changed (x ∷ xs) (suc n) zero f apart = refl
other_changed (x ∷ xs) (suc n) (suc m) f apart = other_changed xs n m f (λ e. apart (ap suc e))

-- An answer behind lines.
pub on_got_behind : (g : Graph) (values : List ValType) (s : Script) (t : ℕ) (before lines : List Label) (stacks : List (List Stack)) (h : Held) (w : World) (words : List ℕ)
    → h.labels ≡ before ++ lines → Stands g values s h stacks w → Agrees g values s t before stacks (got t words h) (replied_behind t lines words w)
on_got_behind g values s t before lines stacks h w words same st = record {
  lines = lines ++ line.Got t words ∷ [];
  world = w;
  stands = st;
  told = ap (λ (ls : List Label). ls ++ line.Got t words ∷ []) same ∙ append_assoc before lines (line.Got t words ∷ []);
  ends = (refl, refl);
}
