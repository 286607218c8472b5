-- Calls by nested code that are answered leave the store alone, and no handle is lent more often.
use Rattle.std.proofs.Common.{◌≡◌, refl}
use Rattle.std.specs.Prelude.{◌≡◌, ℕ, zero, suc, if◌then◌else◌, List, Option, Some, None, Result, Ok, Err}
use Rattle.std.specs.List.{slice_get}
use Rattle.std.specs.Option.{option_map}
use Rattle.syntax_trees.specs.declared.module_types.ValType.{ValType}
use Rattle.syntax_trees.specs.declared.module_types.FuncType.{FuncType}
use Rattle.wasm_numbers.specs.Types.{AreWords}
use Rattle.wasm_store.specs.Store.{Host, Store}
use Rattle.wasm_store.specs.Stack.{Stack}
use Rattle.wasm_store.specs.Step.{resume}
use Rattle.wasm_store.specs.Typed.{StackTyped}
use Rattle.wasm_execution.specs.Waiting.{Waiting}
use Rattle.wasm_execution.specs.Run.{RunGives}
use Rattle.wasm_execution.specs.declared.running.Outcome.{Outcome}
use Rattle.wasm_execution.specs.declared.running.Outcome.TheVariants as outcome
use Rattle.comp_graph.specs.declared.graph.FuncRef.{FuncRef}
use Rattle.comp_graph.specs.declared.graph.CanonFunc.{CanonFunc}
use Rattle.comp_graph.specs.Graph.{Graph}
use Rattle.graph_views.specs.Canons.{canon_at, is_made_in}
use Rattle.graph_views.specs.Names.{builtin_of}
use Rattle.task_table.specs.declared.slot.TaskSlot.{TaskSlot}
use Rattle.trace_labels.specs.declared.label.Label.TheVariants as line
use Rattle.trace_labels.specs.declared.trap.TrapName.TheVariants as trap
use Rattle.world_parts.specs.declared.parts.Parts.{Parts}
use Rattle.world_parts.specs.declared.parts.Rest.TheVariants as rest
use Rattle.world_parts.specs.declared.parts.Stop.{Stop}
use Rattle.world_parts.specs.declared.parts.Stop.TheVariants as stop
use Rattle.world_parts.specs.Held.{Held, held, Done, Gives, Traps, Spent, Stuck, after, given}
use Rattle.world_parts.specs.Feed.{told, at_rest}
use Rattle.world_stacks.specs.Piles.{resumed}
use Rattle.world_stacks.specs.Names.{core_name}
use Rattle.world_stacks.specs.Starting.{call_of, gives_words}
use Rattle.world_stacks.specs.Exempt.{exempt_answer}
use Rattle.world_stacks.specs.PostReturns.{BeginsNested, Comes, EndsWith, GoOn, GoesOn, NestedEnds, NestedGives, NoRule, PostReturns, Runs, WaitsTyped, answer_or_trap, answered, answered_by, answered_in_place, goes_on_with, instance_at}
use Rattle.value_parts.proofs.fit.Keeps.{Keeps, KeepsBy, keeps_after, keeps_given, keeps_if, keeps_same, keeps_all, keeps_from}
use Rattle.value_moves.proofs.fit.Exempt.{exempt_answer_keeps}
use Rattle.value_parts.proofs.fit.Feed.{told_keeps}

pub answer_or_trap_keeps : (o : Option (List ℕ)) (h : Held) → KeepsBy h (answer_or_trap o h)
answer_or_trap_keeps None h =
    tt
answer_or_trap_keeps (Some answer) h =
    keeps_same h

pub answered_by_keeps : (t : ℕ) (words : List ℕ) (c : CanonFunc) (h : Held) → KeepsBy h (answered_by t words c h)
answered_by_keeps t words c h =
    keeps_after h (told (line.Do t (builtin_of c) words) h) (λ done k. after (exempt_answer t words c k) (λ answer l. answer_or_trap answer l)) (told_keeps (line.Do t (builtin_of c) words) h) (λ done k. keeps_after k (exempt_answer t words c k) (λ answer l. answer_or_trap answer l) (exempt_answer_keeps t words c k) (λ answer l. answer_or_trap_keeps answer l))

pub answered_keeps : (g : Graph) (t : ℕ) (at : ℕ) (number : ℕ) (words : List ℕ) (h : Held) → KeepsBy h (answered g t at number words h)
answered_keeps g t at number words h =
    keeps_if h (is_made_in g number at) (given (canon_at g number) (λ c. answered_by t words c h)) (Stuck) (keeps_given h (canon_at g number) (λ c. answered_by t words c h) (λ c is. answered_by_keeps t words c h)) tt

pub goes_on_with_keeps : (t : ℕ) (number : ℕ) (answer : List ℕ) (w : Waiting) (h : Held) → KeepsBy h (goes_on_with t number answer w h)
goes_on_with_keeps t number answer w h =
    keeps_if h (gives_words h.store number answer) (given (resumed answer w) (λ k. after (told (line.Got t answer) h) (λ done l. Gives k l))) (Stuck) (keeps_given h (resumed answer w) (λ k. after (told (line.Got t answer) h) (λ done l. Gives k l)) (λ k is. keeps_after h (told (line.Got t answer) h) (λ done l. Gives k l) (told_keeps (line.Got t answer) h) (λ done l. keeps_same l))) tt

pub answered_in_place_keeps : (g : Graph) (t : ℕ) (at : ℕ) (number : ℕ) (words : List ℕ) (w : Waiting) (h : Held) → KeepsBy h (answered_in_place g t at number words w h)
answered_in_place_keeps g t at number words w h =
    keeps_after h (answered g t at number words h) (λ answer k. goes_on_with t number answer w k) (answered_keeps g t at number words h) (λ answer k. goes_on_with_keeps t number answer w k)
