-- What laws of reached worlds give of a call.
use Rattle.std.proofs.Common.{◌≡◌, ◌<◌, ℕ, zero, suc, Bool, true, false, is_some, List, [], ◌∷◌, map, refl, sym, ap, ◌∙◌, subst, Option, Some, None}
use Rattle.std.specs.Prelude.{IsSome}
use Rattle.std.specs.List.{slice_get, AllByRecursion}
use Rattle.std.specs.Option.{option_map}
use Rattle.wasm_store.specs.Stack.{Stack}
use Rattle.wasm_store.proofs.Lists.{all_at}
use Rattle.handle_table.specs.History.{live}
use Rattle.comp_graph.specs.declared.graph.CanonFunc.{CanonFunc}
use Rattle.comp_graph.specs.Graph.{Graph, Lifted}
use Rattle.script_reader.specs.Script.{Script}
use Rattle.trace_labels.specs.declared.label.Label.{Label}
use Rattle.abi_machine.specs.Control.{Control, Calls}
use Rattle.abi_machine.specs.World.{Entry, OfSubtask, OfSet, Inst, Callee, Caller, Nobody, Host, Guest, Subtask, New, Acting, AfterCall, AfterCancel, Begins, WaitsToEnter, InLoop, InBuiltin, Exited, TaskState, Task, World, first_world}
use Rattle.abi_machine.specs.Canons.{inst_of_canon}
use Rattle.abi_machine.specs.Reading.{table_in, entry_at, func_of, subtask_of, has_exited, is_instantiated, may_leave}
use Rattle.abi_machine.specs.Run.{Reaches}
use Rattle.abi_machine.specs.sound.Acting.{Outline, outline_of, outlines_of, RunsIn, IsRunning, ActsBy}
use Rattle.abi_machine.specs.sound.Chain.{IsAt}
use Rattle.abi_machine.specs.sound.Firsts.{TaskIs}
use Rattle.abi_machine.specs.sound.GoingOn.{IsStanding}
use Rattle.abi_machine.specs.sound.Initial.{StartsNothing, InitRunsAlone}
use Rattle.abi_machine.specs.sound.Numbers.{IsCalledAs, IsNamed, NamesWhatIsThere}
use Rattle.abi_machine.specs.sound.Owners.{owner_of_canon, CallsOwn as CallsOwnFunc, IsControlOwn, IsApart}
use Rattle.abi_machine.specs.sound.OwnCallers.{MadeByOwn, IsByOwn, AreByOwn}
use Rattle.abi_machine.proofs.sound.Found.{some_same}
use Rattle.abi_machine.proofs.sound.OwnCalling.{first_by_own, by_own_stay}
use Rattle.abi_machine.proofs.sound.Reached.{first_stands, standing_stays, reached_stand}
use Rattle.standing.specs.Callings.{CallersRun}
use Rattle.standing.specs.Replies.{HasItsSets}
use Rattle.run_laws.specs.Answering.{CallsOwn, RunsThere, IsOther, IsSoundAt}
use Rattle.run_laws.specs.Reached.{IsAtCall, CallsAreOwn, CallersRunThere, StillAsked, WorldsAreSound}

-- A task that another one called was called by one that runs a function.
by_own_from : (g : Graph) (s : Script) (steps : List (List Label)) (w v : World) → IsApart g → IsStanding g s w → AreByOwn g w.tasks → Reaches g s w steps v → AreByOwn g v.tasks
by_own_from g s [] w v apart h own r = subst (λ (x : World). AreByOwn g x.tasks) (sym r) own
by_own_from g s (labels ∷ steps) w v apart h own r =
    by_own_from g s steps r.0 v apart (standing_stays g s w r.0 labels apart h r.1) (by_own_stay g s w r.0 labels apart h.alone h.ordered h.own h.control_own own r.1) r.2

pub callers_run_there : CallersRunThere
callers_run_there g s steps w apart reached t task subtask there guest =
    let own : AreByOwn g w.tasks = by_own_from g s steps (first_world g) w apart (first_stands g s apart) (first_by_own g) reached in
    let by : TaskIs w.tasks subtask.by (MadeByOwn g subtask.canon) = subst (IsByOwn g w.tasks) guest (all_at (λ (x : Task). IsByOwn g w.tasks x.caller) w.tasks t task own there) in
    (by.0, by.1, ap is_some by.2.1)

-- Once all is instantiated no task is in a start function.
pub instantiated_is : (tasks : List Task) (init : Task) → slice_get tasks 0 ≡ Some init → is_instantiated tasks ≡ has_exited init.state
instantiated_is [] init e = absurd (cc)
instantiated_is (x ∷ tasks) init e = ap (λ (y : Task). has_exited y.state) (some_same e)

pub none_begins : (w : World) (t : ℕ) (task : Task) (n : ℕ) → InitRunsAlone w.tasks w.chain → may_leave w ≡ true → slice_get w.tasks t ≡ Some task → task.state ≡ Begins n → ⊥
none_begins w zero task n alone free there e =
    let same : has_exited (Begins n) ≡ true = ap has_exited (sym e) ∙ sym (instantiated_is w.tasks task there) ∙ free in
    absurd (cc)
none_begins w (suc t) task n alone free there e = subst StartsNothing e (alone.others t task there)

pub runs_so : (state : TaskState) (callee : Callee) → ((n : ℕ) → state ≡ Begins n → ⊥) → RunsIn state callee → (state ≡ Acting) × IsSome (func_of callee)
runs_so Acting callee none h = (refl, h)
runs_so (Begins n) callee none h = absurd (none n refl)
runs_so New callee none h = absurd h
runs_so (AfterCall called number words) callee none h = absurd h
runs_so (AfterCancel called number words) callee none h = absurd h
runs_so WaitsToEnter callee none h = absurd h
runs_so (InLoop word) callee none h = absurd h
runs_so (InBuiltin number words wait) callee none h = absurd h
runs_so Exited callee none h = absurd h

pub outline_at : (tasks : List Task) (t : ℕ) (task : Task) (o : Outline) → slice_get tasks t ≡ Some task → slice_get (outlines_of tasks) t ≡ Some o → o ≡ outline_of task
outline_at [] t task o there e = absurd (cc)
outline_at (x ∷ tasks) zero task o there e = sym (some_same e) ∙ ap outline_of (some_same there)
outline_at (x ∷ tasks) (suc t) task o there e = outline_at tasks t task o there e

pub some_func : (o : Option Lifted) → IsSome o → (f : Lifted) × (o ≡ Some f)
some_func None h = absurd (cc)
some_func (Some f) h = (f, refl)

pub calls_are_own : CallsAreOwn
calls_are_own g s steps w number words c t task apart reached at free =
    let stands : IsStanding g s w = reached_stand g s steps w apart reached in
    let acts : _ = subst (λ (control : Control). ActsBy control (outlines_of w.tasks) w.chain) at.control stands.ordered.2 in
    let same : acts.0 ≡ t = some_same (sym acts.1.0 ∙ at.first) in
    let outline : _ = acts.1.1 in
    let is : outline.0 ≡ outline_of task =
    outline_at w.tasks t task outline.0 at.there (ap (λ (n : ℕ). slice_get (outlines_of w.tasks) n) (sym same) ∙ outline.1) in
    let running : IsRunning (outline_of task) = subst IsRunning is outline.2 in
    let runs : (task.state ≡ Acting) × IsSome (func_of task.callee) =
    runs_so task.state task.callee (λ n e. none_begins w t task n stands.alone.0 free at.there e) running.0 in
    let func : (f : Lifted) × (func_of task.callee ≡ Some f) = some_func (func_of task.callee) runs.1 in
    let own : CallsOwnFunc g (func_of task.callee) number = subst (λ (control : Control). IsControlOwn g control w) at.control stands.control_own t task at.first at.there in
    let made : Some (inst_of_canon c) ≡ Some func.0.instance =
    ap (λ (o : Option CanonFunc). option_map inst_of_canon o) (sym at.made) ∙ subst (λ (o : Option Lifted). CallsOwnFunc g o number) func.1 own in
    let home : inst_of_canon c ≡ func.0.instance = some_same made in (
      func.0,
      record {
        acts = record { first = at.first; there = at.there; runs = func.1; inside = subst (λ (n : ℕ). IsSome (slice_get w.insts n)) home at.inside };
        state = runs.0;
        own = home;
      },
    )

-- Sets were made, and subtasks run functions.
abbrev IsSomeTask : World → ℕ → Type 0
IsSomeTask w callee = (task : Task) × (slice_get w.tasks callee ≡ Some task) × IsSome (subtask_of task.caller)

guest_runs : (n : ℕ) (task : Task) → IsCalledAs n task → IsSome (subtask_of task.caller) → IsSome (func_of task.callee)
guest_runs zero task called guest = (let none : is_some (subtask_of Nobody) ≡ true = subst (λ (x : Caller). IsSome (subtask_of x)) called.1 guest in absurd (cc))
guest_runs (suc n) task called guest = called.0

entries_at : (w : World) (at : ℕ) (o : Option Inst) → slice_get w.insts at ≡ o → AllByRecursion (NamesWhatIsThere w.tasks) w.insts → (index callee : ℕ)
    → live (table_in o) index ≡ Some (OfSubtask callee) → IsSomeTask w callee
entries_at w at None is named index callee e = absurd (cc)
entries_at w at (Some inst) is named index callee e = all_at (NamesWhatIsThere w.tasks) w.insts at inst named is index (OfSubtask callee) e

subtask_runs : (g : Graph) (w : World) (t at index callee : ℕ) → AllByRecursion (NamesWhatIsThere w.tasks) w.insts → ((n : ℕ) (task : Task) → slice_get w.tasks n ≡ Some task → IsCalledAs n task)
    → StillAsked g w t at → entry_at w at index ≡ Some (OfSubtask callee) → IsOther w t callee
subtask_runs g w t at index callee named called asked stood =
    let guest : IsSomeTask w callee = entries_at w at (slice_get w.insts at) refl named index callee stood in
    record {
      apart = λ same. asked.apart index (stood ∙ ap (λ (n : ℕ). Some (OfSubtask n)) same);
      runs = λ task there.
          let is : guest.0 ≡ task = some_same (sym guest.1 ∙ there) in
          let func : (f : Lifted) × (func_of task.callee ≡ Some f) =
          some_func (func_of task.callee) (guest_runs callee task (called callee task there) (subst (λ (x : Task). IsSome (subtask_of x.caller)) is guest.2)) in
          (func.0, func.1, asked.instances callee task func.0 there func.1);
    }

pub worlds_are_sound : WorldsAreSound
worlds_are_sound g s steps w t at apart reached asked =
    let stands : IsStanding g s w = reached_stand g s steps w apart reached in
    record {
      callers = callers_run_there g s steps w apart reached;
      sets = λ inst there index set e. all_at (NamesWhatIsThere w.tasks) w.insts at inst stands.numbered.entries there index (OfSet set) e;
      ends = asked.ends;
      subtasks = λ index callee stood. subtask_runs g w t at index callee stands.numbered.entries stands.numbered.called asked stood;
      copies = asked.copies;
    }
