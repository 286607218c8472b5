-- A run of nested code.
use Rattle.std.proofs.Common.{◌≡◌, ◌≤◌, ◌+◌, ℕ, Bool, true, false, List, [], refl, sym, ap, ◌∙◌, subst}
use Rattle.wasm_store.specs.declared.trap.Trap.{Trap}
use Rattle.wasm_store.specs.Store.{Store}
use Rattle.wasm_store.specs.Stack.{Stack, Running, AtHost, Given}
use Rattle.wasm_store.specs.Step.{Move, Goes, Calls, Ends, Traps, Stuck}
use Rattle.wasm_store.specs.Step as core
use Rattle.wasm_execution.specs.Run.{RunGives}
use Rattle.wasm_execution.specs.declared.running.Outcome.{Outcome}
use Rattle.wasm_execution.specs.declared.running.Outcome.TheVariants as outcome
use Rattle.comp_graph.specs.Graph.{Graph}
use Rattle.script_reader.specs.Script.{Script}
use Rattle.abi_machine.specs.Traps.{core_name}
use Rattle.abi_machine.specs.Control.{Control, Free, HostedState, Going, AtCall, Nested, Behind, Quiet, Doomed}
use Rattle.abi_machine.specs.World.{World}
use Rattle.abi_machine.specs.Edits.{with_control}
use Rattle.abi_machine.specs.Turn.{Turn, charged, silent, doomed}
use Rattle.abi_machine.specs.Turn as turn
use Rattle.abi_machine.specs.CoreSteps.{costs}
use Rattle.abi_machine.specs.Nested.{hosted_move, hosted_next, nested_ended, hosted, nested_turn}
use Rattle.abi_machine.specs.Next.{next, next_by}
use Rattle.standing.specs.Reaching.{GoesTo, Meets, with_room}
use Rattle.standing.specs.Nested.{nested_at, NestedLeads, NestedRunsLead, CallsAreMade}
use Rattle.standing.proofs.Reaching.{meets_step}
use Rattle.standing.proofs.Running.{comes_to, waits_at, with_used, run_spends}

-- what the moves of nested code do
abbrev nested_does : Nested → Behind → Stack → Move → World → Turn
nested_does n b k (Goes paid a l) v = silent (Quiet (record n { state = Going l }) b) (record v { store = a })
nested_does n b k (Calls number words l) v = silent (Quiet (record n { state = AtCall number words l }) b) v
nested_does n b k (Ends words) v = nested_ended b words v
nested_does n b k (Traps why) v = doomed n.blame (core_name why) v
nested_does n b k Stuck v = turn.Stuck

-- where its stack stands
abbrev going_at : World → Nested → Behind → Store → ℕ → Stack → World
going_at w n b a used k = nested_at w n b (Going k) a used

hosted_is : (g : Graph) (s : Script) (n : Nested) (b : Behind) (k : Stack) (m : Move) (v : World)
    → hosted g s (record n { state = Going k }) b (hosted_move k v.store m) v ≡ charged (costs k m) s v (nested_does n b k m)
unfolding hosted
hosted_is g s n b k (Goes true a l) v = refl
hosted_is g s n b k (Goes false a l) v = refl
hosted_is g s n b (Running f fs) (Calls number words l) v = refl
hosted_is g s n b (AtHost address args) (Calls number words l) v = refl
hosted_is g s n b (Given args) (Calls number words l) v = refl
hosted_is g s n b k (Ends words) v = refl
hosted_is g s n b k (Traps why) v = refl
hosted_is g s n b k Stuck v = refl

module _ (g : Graph) (s : Script) (w : World) (n : Nested) (b : Behind) where
  turns : (a : Store) (used : ℕ) (k : Stack) (m : Move) → core.next a k ≡ m
      → next g s (going_at w n b a used k) ≡ charged (costs k m) s (with_room w a used Free) (nested_does n b k m)
  unfolding nested_turn
  turns a used k m e =
      ap (λ (x : Move). hosted g s (record n { state = Going k }) b (hosted_move k a x) (with_room w a used Free)) e ∙ hosted_is g s n b k m (with_room w a used Free)

  goes : (a t : Store) (used : ℕ) (k l : Stack) (paid : Bool) → nested_does n b k (Goes paid t l) (with_room w a used Free) ≡ turn.Steps [] (going_at w n b t used l)
  goes a t used k l paid = refl

  pub run_leads : (outcome : Outcome) (a t : Store) (k : Stack) (left after used now : ℕ) → RunGives a k left outcome t after → used + left ≡ s.fuel → now + after ≡ s.fuel
      → NestedLeads g s (going_at w n b a used k) n b outcome t now
  run_leads (outcome.Done words) a t k left after used now h before behind =
      comes_to g s w (going_at w n b) (nested_does n b) turns goes a t k left after used now (Ends words) h before behind
  run_leads (outcome.Calls number words waiting) a t k left after used now h before behind =
      meets_step g s (going_at w n b a used k) (nested_at w n b (AtCall number words waiting.stack) t now) [] []
      (comes_to g s w (going_at w n b) (nested_does n b) turns goes a t k left after used now (Calls number words waiting.stack) h.comes before behind)
  run_leads (outcome.Trapped why) a t k left after used now h before behind =
      meets_step g s (going_at w n b a used k) (with_room w t now (Doomed n.blame (core_name why))) [] []
      (comes_to g s w (going_at w n b) (nested_does n b) turns goes a t k left after used now (Traps why) h before behind)
  run_leads (outcome.NoFuel later) a t k left after used now h before behind =
      waits_at g s w (going_at w n b) (nested_does n b) turns goes a t k later left after used now h before behind
  run_leads outcome.Memory a t k left after used now h before behind = tt

-- a world as it is
same_world : (w : World) (n : Nested) (b : Behind) (state : HostedState) → w.control ≡ Quiet n b → n.state ≡ state → nested_at w n b state w.store w.units ≡ w
same_world w n b state control is =
    ap (λ (x : HostedState). with_room w w.store w.units (Quiet (record n { state = x }) b)) (sym is)
    ∙ ap (λ (c : Control). with_room w w.store w.units c) (sym control)

pub nested_runs_lead : NestedRunsLead
nested_runs_lead g s w n b k outcome store left after control state before gives =
    with_used s w.units left after (λ used. NestedLeads g s w n b outcome store used) before (run_spends w.store store k outcome left after gives)
    (λ used behind. subst (λ (v : World). NestedLeads g s v n b outcome store used) (same_world w n b (Going k) control state)
    (run_leads g s w n b outcome w.store store k left after w.units used gives before behind))

pub calls_are_made : CallsAreMade
unfolding nested_turn hosted
calls_are_made g s w n b number words k control state =
    ap (λ (x : Control). next_by g s (with_control Free w) x) control
    ∙ ap (λ (x : HostedState). hosted g s n b (hosted_next x w.store) (with_control Free w)) state
