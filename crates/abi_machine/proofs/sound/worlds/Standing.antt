-- What order, and what is known of loops, say of the acting task.
use Rattle.std.proofs.Common.{◌≡◌, ◌∙◌, ℕ, zero, suc, Bool, true, false, if◌then◌else◌, List, [], ◌∷◌, refl, sym, ap, subst, Option, Some, None}
use Rattle.std.specs.Prelude.{IsSome, is_some}
use Rattle.std.specs.List.{slice_get}
use Rattle.syntax_trees.specs.declared.module_types.ValType.TheVariants.{I32}
use Rattle.entry_gate.specs.declared.kind.Kind.{Kind}
use Rattle.entry_gate.specs.declared.kind.Kind.TheVariants.{Sync, Callback, Stackful}
use Rattle.syntax_trees.specs.declared.types.FuncType.{FuncType}
use Rattle.syntax_trees.specs.declared.core_type.FlatKind.TheVariants.{SyncLift, AsyncLift, CallbackLift}
use Rattle.syntax_trees.specs.Flat.{flat_func}
use Rattle.comp_graph.specs.declared.graph.Options.{Options}
use Rattle.comp_graph.specs.Graph.{Lifted}
use Rattle.comp_graph.specs.Needs.{core_func, lift_type}
use Rattle.abi_machine.specs.Control.{Then, Starts, Resolves, Transfers, InWait, InCallback, Control, Free, Chosen, Instantiates, Runs, Calls, Arrives, Lowers, Quiet, Back, Goes, Resumes, Delivers, Leaves, Doomed}
use Rattle.abi_machine.specs.World.{Callee, TaskState, New, Acting, AfterCall, AfterCancel, Begins, WaitsToEnter, InLoop, InBuiltin, Exited, Task, World}
use Rattle.abi_machine.specs.Canons.{kind_of_options}
use Rattle.abi_machine.specs.Reading.{acting, func_of, kind_of_func, has_exited, is_instantiated}
use Rattle.abi_machine.specs.sound.Acting.{Outline, outline_of, outlines_of, HasStacks, StandsBy, HaveStacks, IsActing, RunsIn, IsRunning, OneActs, ActsBy, stacked_then}
use Rattle.abi_machine.specs.sound.Guests.{WaitsAs, WaitAs}
use Rattle.abi_machine.specs.sound.Initial.{InitRunsAlone, StartsNothing}
use Rattle.abi_machine.specs.sound.TypedStacks.{core_results}
use Rattle.abi_machine.proofs.sound.Found.{some_same, acting_first, acting_is}
use Rattle.abi_machine.proofs.sound.Outlines.{outline_there}
use Rattle.abi_machine.proofs.sound.nexts.Parts.{acts_found}
use Rattle.abi_machine.proofs.sound.worlds.Passing.{callee_results}
use Rattle.abi_machine.proofs.sound.worlds.Lowering.{StartsBare}
use Rattle.abi_machine.proofs.sound.worlds.Stepping.{IsOrderedAt}

-- A function with a callback gives one i32.
callback_gives : (options : Options) (f : FuncType) → kind_of_options options ≡ Callback → (lift_type options f).results ≡ I32 ∷ []
callback_gives options f e = by options.is_async (is_some options.callback) e
  where
    by : (a b : Bool) → (let k : Kind = if a then (if b then Callback else Stackful) else Sync in k) ≡ Callback → (core_func (flat_func (if a then (if b then CallbackLift else AsyncLift) else SyncLift) f)).results ≡ I32 ∷ []
    by true true h = refl
    by true false h = cc
    by false b h = cc

func_there : (o : Option Lifted) → IsSome o → (f : Lifted) × (o ≡ Some f)
func_there None h = cc
func_there (Some f) h = (f, refl)

pub loop_gives : (callee : Callee) → IsSome (func_of callee) → kind_of_func (func_of callee) ≡ Callback → core_results callee ≡ I32 ∷ []
loop_gives callee some kind =
    let f = func_there (func_of callee) some in
    callee_results callee f.0 f.1 ∙ callback_gives f.0.options f.0.func_type (sym (ap kind_of_func f.1) ∙ kind)

bare_of : (n : Then) (x : Task) → HasStacks (stacked_then n) x.stacks → StartsBare n x
bare_of Starts x h = h
bare_of (Resolves to follows) x h = tt
bare_of (Transfers copying) x h = tt

module _ (w : World) (alone : InitRunsAlone w.tasks w.chain) (done : is_instantiated w.tasks ≡ true) (stacks : HaveStacks (outlines_of w.tasks)) (loops : WaitAs w.tasks) where
  first_exited : (tasks : List Task) (task : Task) → slice_get tasks 0 ≡ Some task → is_instantiated tasks ≡ true → has_exited task.state ≡ true
  first_exited [] task there h = cc
  first_exited (x ∷ tasks) task there h = ap has_exited (ap (λ (y : Task). y.state) (sym (some_same there))) ∙ h

  begins_none : (n : ℕ) → has_exited (Begins n) ≡ true → ⊥
  begins_none n h = cc

  never_begins : (t n : ℕ) (task : Task) → slice_get w.tasks t ≡ Some task → task.state ≡ Begins n → ⊥
  never_begins zero n task there is = begins_none n (sym (ap has_exited is) ∙ first_exited w.tasks task there done)
  never_begins (suc t) n task there is = subst StartsNothing is (alone.others t task there)

  runs_acting : (t : ℕ) (task : Task) (state : TaskState) → slice_get w.tasks t ≡ Some task → task.state ≡ state → RunsIn state task.callee → state ≡ Acting
  runs_acting t task Acting there is h = refl
  runs_acting t task (Begins n) there is h = absurd (never_begins t n task there is)
  runs_acting t task New there is h = absurd h
  runs_acting t task (AfterCall callee number words) there is h = absurd h
  runs_acting t task (AfterCancel callee number words) there is h = absurd h
  runs_acting t task WaitsToEnter there is h = absurd h
  runs_acting t task (InLoop word) there is h = absurd h
  runs_acting t task (InBuiltin number words wait) there is h = absurd h
  runs_acting t task Exited there is h = absurd h

  outline_acts : (P : Outline → Type 0) (a : ℕ × Task) → acting w ≡ Some a → OneActs P (outlines_of w.tasks) w.chain → P (outline_of a.1)
  outline_acts P a e one =
      let x = acts_found P w one in
      let same : x.0 ≡ a.0 = some_same (sym x.2 ∙ acting_first w a e) in
      let task : x.1 ≡ a.1 = some_same (sym (subst (λ (n : ℕ). slice_get w.tasks n ≡ Some x.1) same x.3) ∙ acting_is w a e) in
      subst (λ (y : Task). P (outline_of y)) task x.4

  running_acts : (a : ℕ × Task) → acting w ≡ Some a → OneActs IsRunning (outlines_of w.tasks) w.chain → a.1.state ≡ Acting
  running_acts a e one = runs_acting a.0 a.1 a.1.state (acting_is w a e) refl (outline_acts IsRunning a e one).0

  loop_stands : (a : ℕ × Task) (word : ℕ) → acting w ≡ Some a → a.1.state ≡ InLoop word → (a.1.stacks ≡ []) × (core_results a.1.callee ≡ I32 ∷ [])
  loop_stands a word e is =
      let stands : StandsBy (InLoop word) (outline_of a.1) = subst (λ (state : TaskState). StandsBy state (outline_of a.1)) is (stacks a.0 (outline_of a.1) (outline_there w.tasks a.0 a.1 (acting_is w a e))) in
      let kind : kind_of_func (func_of a.1.callee) ≡ Callback = subst (λ (state : TaskState). WaitsAs w.tasks a.1.callee state) is (loops a.0 a.1 (acting_is w a e)) in
      (stands.1, loop_gives a.1.callee stands.0 kind)

  pub ordered_at : (c : Control) → ActsBy c (outlines_of w.tasks) w.chain → (a : ℕ × Task) → acting w ≡ Some a → IsOrderedAt c w.chain a.1
  ordered_at Runs order a e = running_acts a e order
  ordered_at (Calls number words) order a e = running_acts a e order
  ordered_at (Lowers l plan) order a e =
      let own = outline_acts (IsActing (stacked_then l.next)) a e order.0 in
      (own.1, func_there (func_of a.1.callee) own.0, bare_of l.next a.1 own.2, order.1.1)
  ordered_at Resumes order a e = λ word is. loop_stands a word e is
  ordered_at (Delivers set (InWait number words) pick) order a e = (outline_acts (IsActing true) a e order).1
  ordered_at (Delivers set InCallback pick) order a e = (let own = outline_acts (IsActing false) a e order in (own.1, own.2))
  ordered_at Free order a e = tt
  ordered_at (Chosen k) order a e = tt
  ordered_at (Instantiates n) order a e = tt
  ordered_at Arrives order a e = tt
  ordered_at (Quiet n b) order a e = tt
  ordered_at Back order a e = tt
  ordered_at Goes order a e = tt
  ordered_at Leaves order a e = tt
  ordered_at (Doomed t why) order a e = tt
