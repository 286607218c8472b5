-- Nested code (Component Model, CanonicalABI.md, "Storing": `realloc`; `canon lift`: `post_return`): a realloc or a post-return runs on
-- a stack of its own. Each of its instructions costs a unit. The instance whose code it is may not be left while it runs, so that a
-- call of a function that this instance made is written and then is a trap, but for `context.get`, `context.set` and `resource.rep`.
use Rattle.std.specs.Prelude.{ℕ, nat_eq, Bool, true, if◌then◌else◌, List, [], ◌∷◌, Option, Some, None, Result, Ok, Err}
use Rattle.wasm_store.specs.declared.trap.Trap.{Trap}
use Rattle.wasm_store.specs.Store.{Store}
use Rattle.wasm_store.specs.Stack.{Stack}
use Rattle.wasm_store.specs.Step.{Move, Goes, Traps, next, resume}
use Rattle.wasm_store.specs.Step as core
use Rattle.comp_graph.specs.declared.graph.CanonFunc.{CanonFunc}
use Rattle.comp_graph.specs.Graph.{Graph}
use Rattle.trace_labels.specs.declared.label.Label.TheVariants as line
use Rattle.trace_labels.specs.declared.trap.TrapName.{TrapName}
use Rattle.trace_labels.specs.declared.trap.TrapName.TheVariants as trap
use Rattle.abi_machine.specs.Traps.{core_name}
use Rattle.script_reader.specs.Script.{Script}
use Rattle.abi_machine.specs.Control.{HostedState, Going, AtCall, Nested, Behind, InLowering, BeforeLeaving, Lowers, Quiet, Leaves}
use Rattle.abi_machine.specs.World.{World}
use Rattle.abi_machine.specs.Edits.{with_control, with_store}
use Rattle.abi_machine.specs.Canons.{builtin_of, inst_of_canon, canon_at}
use Rattle.abi_machine.specs.Turn.{Turn, Steps, Stuck, silent, doomed, behind, given, charged}
use Rattle.abi_machine.specs.CoreSteps.{costs}
use Rattle.abi_machine.specs.replies.Context.{Exempt, Answers, exempt_of}

-- what a stack does next whose calls of functions of the host are answered in place
pub data HostedTurn : Type 0 where
  -- It goes on, for a unit or for none.
  On : Bool → HostedState → Store → HostedTurn
  EndsIn : List ℕ → HostedTurn
  -- An instruction traps.
  TrapsBy : Trap → HostedTurn
  -- It calls the function of the host with this number, with these words, and waits.
  CallsHost : ℕ → List ℕ → Stack → HostedTurn
  NoRule : HostedTurn

abbrev pub hosted_move : Stack → Store → Move → HostedTurn
hosted_move k s (Goes paid t l) = On paid (Going l) t
hosted_move k s (core.Calls number words l) = On (costs k (core.Calls number words l)) (AtCall number words l) s
hosted_move k s (core.Ends words) = EndsIn words
hosted_move k s (Traps why) = TrapsBy why
hosted_move k s core.Stuck = NoRule

abbrev pub hosted_next : HostedState → Store → HostedTurn
hosted_next (Going k) s = hosted_move k s (next s k)
hosted_next (AtCall number words k) s = CallsHost number words k

-- what follows nested code that ended with these words: a realloc gives one word, the place
unfoldable pub nested_ended : Behind → List ℕ → World → Turn
nested_ended (InLowering l k) (place ∷ words) w = silent (Lowers l (k place)) w
nested_ended (InLowering l k) [] w = Stuck
nested_ended BeforeLeaving words w = silent Leaves w

-- A call that is answered in place, with the words of the task that the code acts for.
unfoldable pub answered_in_place : Nested → Behind → Stack → Result Answers TrapName → World → Turn
answered_in_place n b k (Err why) w = doomed n.blame why w
answered_in_place n b k (Ok answer) w =
    Steps (line.Got n.acts_for answer.words ∷ []) (with_control (Quiet (record n { state = Going (resume answer.words k) }) b) answer.world)

unfoldable pub answered_or_refused : Nested → Behind → Stack → Option Exempt → World → Turn
answered_or_refused n b k None w = doomed n.blame trap.CannotLeave w
answered_or_refused n b k (Some exempt) w = answered_in_place n b k (exempt w) w

-- Core code calls only what its own component instance made, so that there is no rule for a function of another one.
unfoldable pub calls_host : Nested → Behind → Stack → List ℕ → CanonFunc → World → Turn
calls_host n b k words c w =
    if nat_eq (inst_of_canon c) n.inst
    then behind (line.Do n.acts_for (builtin_of c) words ∷ []) (answered_or_refused n b k (exempt_of n.acts_for words c) w)
    else Stuck

unfoldable pub hosted : Graph → Script → Nested → Behind → HostedTurn → World → Turn
hosted g s n b (On paid state store) w = charged paid s w (λ v. silent (Quiet (record n { state = state }) b) (with_store store v))
hosted g s n b (EndsIn words) w = nested_ended b words w
hosted g s n b (TrapsBy why) w = charged true s w (λ v. doomed n.blame (core_name why) v)
hosted g s n b (CallsHost number words k) w = given (canon_at g number) (λ c. calls_host n b k words c w)
hosted g s n b NoRule w = Stuck

unfoldable pub nested_turn : Graph → Script → Nested → Behind → World → Turn
nested_turn g s n b w = hosted g s n b (hosted_next n.state w.store) w
