-- What typed worlds give of the premises of the laws of steps.
use Rattle.std.proofs.Common.{◌≡◌, ◌∙◌, ◌⊎◌, inl, inr, ℕ, Bool, true, false, if◌then◌else◌, List, refl, sym, subst, Option, Some, None}
use Rattle.std.specs.Prelude.{IsSome}
use Rattle.wasm_numbers.specs.Types.{AreWords}
use Rattle.wasm_store.specs.Store.{Store}
use Rattle.wasm_store.proofs.Lists.{all_at}
use Rattle.tasks.specs.declared.phase.Cancellation.{Cancellation}
use Rattle.tasks.specs.declared.phase.Phase.{Phase}
use Rattle.tasks.specs.declared.phase.Phase.TheVariants as phase
use Rattle.tasks.specs.declared.phase.Resolution.{Resolution}
use Rattle.tasks.specs.declared.subtask_state.SubtaskState.TheVariants.{Starting, Started}
use Rattle.tasks.specs.Subtasks.{is_over}
use Rattle.tasks.specs.Tasks.{is_entry, open_state, resolved_state}
use Rattle.comp_graph.specs.declared.graph.CanonFunc.{CanonFunc}
use Rattle.comp_graph.specs.Graph.{Graph, canon_type}
use Rattle.abi_machine.specs.Control.{HostedState, Going, AtCall, Control, Free, Chosen, Instantiates, Runs, Calls, Arrives, Lowers, Quiet, Back, Goes, Resumes, Delivers, Leaves, Doomed}
use Rattle.abi_machine.specs.World.{Subtask, Caller, Nobody, Host, Guest, Task, World}
use Rattle.abi_machine.specs.Canons.{options_at}
use Rattle.abi_machine.specs.Reading.{subtask_of}
use Rattle.abi_machine.specs.Counting.{phase_of, has_resolved}
use Rattle.abi_machine.specs.sound.Answers.{IsOfCanon, IsInRange, HasResults, HasResultsAt}
use Rattle.abi_machine.specs.sound.Firsts.{FirstIs}
use Rattle.abi_machine.specs.sound.TypedStacks.{CallsTyped, HostedTyped, ActsTyped, IsTyped, nested_results}
use Rattle.syntax_trees.specs.declared.module_types.ValType as core_val
use Rattle.abi_machine.specs.sound.TypedWorlds.{HasResult, Acts, pending_of, IsGrounded, IsTypedWorld}
use Rattle.abi_machine.specs.sound.Words.{IsPassed, HostedPasses, CodePasses, KeepsWords, WordsAreKept}
use Rattle.abi_machine.proofs.sound.Found.{some_same}

-- Core code passes words of parameters.
calls_pass : (g : Graph) (s : Store) (number : ℕ) (words : List ℕ) (tasks : List Task) (chain : List ℕ) → FirstIs tasks chain (CallsTyped g s number words) → IsPassed g number words
calls_pass g s number words tasks chain h c at =
    let own : CallsTyped g s number words h.2.0 = h.2.2 in
    subst (λ (x : CanonFunc). AreWords (canon_type x).params words) (some_same (sym own.1 ∙ at)) own.2

hosted_pass : (g : Graph) (s : Store) (results : List core_val.ValType) (state : HostedState) → HostedTyped g s results state → HostedPasses g state
hosted_pass g s results (Going k) h = tt
hosted_pass g s results (AtCall number words k) h = λ c at. subst (λ (x : CanonFunc). AreWords (canon_type x).params words) (some_same (sym h.1 ∙ at)) h.2

acts_pass : (g : Graph) (c : Control) (s : Store) (tasks : List Task) (chain : List ℕ) → Acts g c s tasks chain → CodePasses g c
acts_pass g (Calls number words) s tasks chain h = calls_pass g s number words tasks chain h
acts_pass g (Quiet n b) s tasks chain h = hosted_pass g s (nested_results b) n.state h.0
acts_pass g Free s tasks chain h = tt
acts_pass g (Chosen k) s tasks chain h = tt
acts_pass g (Instantiates n) s tasks chain h = tt
acts_pass g Runs s tasks chain h = tt
acts_pass g Arrives s tasks chain h = tt
acts_pass g (Lowers l plan) s tasks chain h = tt
acts_pass g Back s tasks chain h = tt
acts_pass g Goes s tasks chain h = tt
acts_pass g Resumes s tasks chain h = tt
acts_pass g (Delivers set receiver pick) s tasks chain h = tt
acts_pass g Leaves s tasks chain h = tt
acts_pass g (Doomed t why) s tasks chain h = tt

pub typed_passes : (g : Graph) (w : World) → IsTypedWorld g w → CodePasses g w.control
typed_passes g w h = acts_pass g w.control w.store w.tasks w.chain h.acts

starts_pass : (g : Graph) (c : Control) (s : Store) (tasks : List Task) (chain : List ℕ) → ActsTyped g c s tasks chain → CodePasses g c
starts_pass g (Calls number words) s tasks chain h = calls_pass g s number words tasks chain h
starts_pass g (Quiet n b) s tasks chain h = hosted_pass g s (nested_results b) n.state h
starts_pass g Free s tasks chain h = tt
starts_pass g (Chosen k) s tasks chain h = tt
starts_pass g (Instantiates n) s tasks chain h = tt
starts_pass g Runs s tasks chain h = tt
starts_pass g Arrives s tasks chain h = tt
starts_pass g (Lowers l plan) s tasks chain h = tt
starts_pass g Back s tasks chain h = tt
starts_pass g Goes s tasks chain h = tt
starts_pass g Resumes s tasks chain h = tt
starts_pass g (Delivers set receiver pick) s tasks chain h = tt
starts_pass g Leaves s tasks chain h = tt
starts_pass g (Doomed t why) s tasks chain h = tt

pub start_passes : (g : Graph) (w : World) → IsTyped g w → CodePasses g w.control
start_passes g w h = starts_pass g w.control w.store w.tasks w.chain h.acts

-- Representations and words of context are i32.
pub in_range : (g : Graph) (w : World) → WordsAreKept g w → IsInRange w
in_range g w h = record {
  reps = h.0.reps;
  contexts = λ t task there.
      (let k : KeepsWords g task.state task.caller task.context = all_at (λ (x : Task). KeepsWords g x.state x.caller x.context) w.tasks t task h.0.keep there in (k.first, k.second));
}

-- A task of which its caller is to be told that it has resolved has done so.
entry_open : (b : Bool) → is_over (if b then Starting else Started) ≡ true → ⊥
entry_open true e = cc
entry_open false e = cc

open_not : (p : Phase) → is_over (open_state p) ≡ true → ⊥
open_not phase.New e = cc
open_not phase.Acting e = cc
open_not (phase.Blocked why flag) e = entry_open (is_entry why) e
open_not phase.Exited e = cc

over_some : (c : Cancellation) (r : Option Resolution) (p : Phase) → is_over (resolved_state c r p) ≡ true → IsSome r
over_some c None p e = absurd (open_not p e)
over_some c (Some r) p e = refl

resolved_some : (task : Task) → has_resolved task ≡ true → IsSome task.resolution
resolved_some task e = over_some task.cancellation task.resolution (phase_of (λ number. false) task.state) e

-- What is kept of results.
kept_of : (g : Graph) (task : Task) (caller : Caller) (subtask : Subtask) → subtask_of caller ≡ Some subtask → HasResult g (record task { caller = caller }) → IsSome task.resolution → (options_at g subtask.canon).is_async ≡ false
    → IsOfCanon g subtask.canon subtask.result
kept_of g task Nobody subtask e h some sync = cc
kept_of g task (Host call values) subtask e h some sync = cc
kept_of g task (Guest other) subtask e h some sync =
    subst (λ (x : Subtask). (options_at g x.canon).is_async ≡ false → IsOfCanon g x.canon x.result) (some_same e) (λ k. h some k) sync

results_kept : (g : Graph) (w : World) → IsGrounded g w.store w.tasks w.insts None → HasResults g w
results_kept g w ground t task subtask there calls resolved sync = by (ground.tasks_are t task there).result
  where
    by : (None ≡ Some t) ⊎ HasResult g task → IsOfCanon g subtask.canon subtask.result
    by (inl none) = cc
    by (inr h) = kept_of g task task.caller subtask calls h (resolved_some task resolved) sync

results_at : (g : Graph) (w : World) (c : Control) → IsGrounded g w.store w.tasks w.insts (pending_of c) → HasResultsAt g c w
results_at g w Back h = results_kept g w h
results_at g w Resumes h = results_kept g w h
results_at g w Free h = tt
results_at g w (Chosen k) h = tt
results_at g w (Instantiates n) h = tt
results_at g w Runs h = tt
results_at g w (Calls number words) h = tt
results_at g w Arrives h = tt
results_at g w (Lowers l plan) h = tt
results_at g w (Quiet n b) h = tt
results_at g w Goes h = tt
results_at g w (Delivers set receiver pick) h = tt
results_at g w Leaves h = tt
results_at g w (Doomed t why) h = tt

pub typed_results : (g : Graph) (w : World) → IsTypedWorld g w → HasResultsAt g w.control w
typed_results g w h = results_at g w w.control h.ground
