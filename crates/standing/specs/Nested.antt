-- What nested code is in a run of components (Core 2.0, section 4.5.5; Component Model, CanonicalABI.md, "Storing": `realloc`; `canon lift`:
-- `post_return`): where the steps lead that it makes on a stack of its own, up to its end or to a call.
use Rattle.std.specs.Prelude.{◌≡◌, ◌+◌, ℕ, List, []}
use Rattle.wasm_store.specs.Store.{Store}
use Rattle.wasm_store.specs.Stack.{Stack}
use Rattle.wasm_execution.specs.Run.{RunGives}
use Rattle.wasm_execution.specs.declared.running.Outcome.{Outcome}
use Rattle.wasm_execution.specs.declared.running.Outcome.TheVariants as outcome
use Rattle.comp_graph.specs.Graph.{Graph}
use Rattle.script_reader.specs.Script.{Script}
use Rattle.abi_machine.specs.declared.run_end.RunEnd.TheVariants.{Fuel}
use Rattle.abi_machine.specs.Traps.{core_name}
use Rattle.abi_machine.specs.Control.{Free, HostedState, Going, AtCall, Nested, Behind, Quiet, Doomed}
use Rattle.abi_machine.specs.World.{World}
use Rattle.abi_machine.specs.Edits.{with_control}
use Rattle.abi_machine.specs.Canons.{canon_at}
use Rattle.abi_machine.specs.Turn.{given}
use Rattle.abi_machine.specs.Nested.{nested_ended, calls_host}
use Rattle.abi_machine.specs.Next.{next}
use Rattle.abi_machine.specs.Run.{RunsFrom}
use Rattle.standing.specs.Reaching.{GoesTo, Meets, with_room, WithUsed}

-- where nested code is, with a store and so many used units
abbrev pub nested_at : World → Nested → Behind → HostedState → Store → ℕ → World
nested_at w n b state store used = with_room w store used (Quiet (record n { state = state }) b)

-- Where a run of it leads, by what comes of it. Want of memory of the program is no part of a run of components.
abbrev pub NestedLeads : Graph → Script → World → Nested → Behind → Outcome → Store → ℕ → Type 0
NestedLeads g s w n b (outcome.Done words) store used = Meets g s w [] (nested_ended b words (with_room w store used Free))
NestedLeads g s w n b (outcome.Calls number words waiting) store used = GoesTo g s w [] (nested_at w n b (AtCall number words waiting.stack) store used)
NestedLeads g s w n b (outcome.Trapped why) store used = GoesTo g s w [] (with_room w store used (Doomed n.blame (core_name why)))
NestedLeads g s w n b (outcome.NoFuel later) store used = RunsFrom g s w [] (nested_at w n b (Going later) store used) Fuel
NestedLeads g s w n b outcome.Memory store used = Unit {0}

abbrev pub NestedRunsLead : Type 0
NestedRunsLead =
    (g : Graph) (s : Script) (w : World) (n : Nested) (b : Behind) (k : Stack) (outcome : Outcome) (store : Store) (left after : ℕ)
    → w.control ≡ Quiet n b → n.state ≡ Going k → w.units + left ≡ s.fuel → RunGives w.store k left outcome store after
    → WithUsed s after (λ used. NestedLeads g s w n b outcome store used)

-- At a call of a canonical function what comes next is what that does.
abbrev pub CallsAreMade : Type 0
CallsAreMade =
    (g : Graph) (s : Script) (w : World) (n : Nested) (b : Behind) (number : ℕ) (words : List ℕ) (k : Stack)
    → w.control ≡ Quiet n b → n.state ≡ AtCall number words k
    → next g s w ≡ given (canon_at g number) (λ c. calls_host n b k words c (with_control Free w))
