-- In typed worlds there is a rule for core code, a callback gives a word, and a realloc gives the word of a place.
use Rattle.std.proofs.Common.{◌≡◌, ◌∙◌, ℕ, List, [], ◌∷◌, drop, refl, sym, ap, subst, Option, Some, None}
use Rattle.std.specs.List.{slice_get}
use Rattle.syntax_trees.specs.declared.module_types.ValType.TheVariants.{I32}
use Rattle.syntax_trees.specs.declared.module_types.ValType as core_val
use Rattle.wasm_numbers.specs.Types.{AreWords}
use Rattle.wasm_store.specs.Store.{Store}
use Rattle.wasm_store.specs.Stack.{Stack}
use Rattle.wasm_store.specs.Step.{Move, Goes, Traps, next}
use Rattle.wasm_store.specs.Step as core
use Rattle.wasm_store.specs.Typed.{StoreTyped, StackTyped}
use Rattle.std.specs.Prelude.{IsSome}
use Rattle.lowering_laws.specs.StoreBytes.{HasBytesAlone}
use Rattle.comp_graph.specs.Graph.{Graph, Lifted}
use Rattle.entry_gate.specs.declared.kind.Kind.TheVariants.{Callback}
use Rattle.abi_machine.specs.Control.{HostedState, Going, AtCall, Behind, InLowering, BeforeLeaving, Control, Free, Chosen, Instantiates, Runs, Calls, Arrives, Lowers, Quiet, Back, Goes as GoesOn, Resumes, Delivers, Leaves, Doomed}
use Rattle.abi_machine.specs.World.{Callee, Task, World}
use Rattle.abi_machine.specs.Edits.{with_control}
use Rattle.abi_machine.specs.sound.GoingOn.{IsMove, EndsWithWord, RunsByRules, RunsOn, GivesPlace, HostedOn}
use Rattle.abi_machine.specs.sound.Changes.{IsFirst}
use Rattle.abi_machine.specs.sound.Firsts.{TaskIs, FirstIs}
use Rattle.abi_machine.specs.sound.Places.{IsCoreFed}
use Rattle.abi_machine.specs.sound.TypedStacks.{gives, TopIs, RunsTyped, HostedTyped, nested_results}
use Rattle.abi_machine.specs.sound.TypedWorlds.{Acts, pending_of, IsGrounded}
use Rattle.abi_machine.specs.sound.TypedSteps.{TypedWorldsFeed}
use Rattle.abi_machine.specs.Reading.{kind_of, func_of, kind_of_func}
use Rattle.abi_machine.proofs.sound.Found.{some_same}
use Rattle.abi_machine.proofs.sound.worlds.Called.{of_task}
use Rattle.abi_machine.proofs.sound.worlds.Moving.{MoveFine, moves_fine}
use Rattle.abi_machine.proofs.sound.worlds.Standing.{loop_gives}

by_rule : (s : Store) (results : List core_val.ValType) (m : Move) → MoveFine s results m → IsMove m
by_rule s results (Goes paid t l) h = tt
by_rule s results (core.Calls address words l) h = tt
by_rule s results (core.Ends words) h = tt
by_rule s results (Traps why) h = tt
by_rule s results core.Stuck h = h

with_word : (s : Store) (results : List core_val.ValType) (m : Move) → results ≡ I32 ∷ [] → MoveFine s results m → EndsWithWord m
with_word s results (Goes paid t l) one h = tt
with_word s results (core.Calls address words l) one h = tt
with_word s results (core.Ends []) one h = absurd (subst (λ (ts : List core_val.ValType). AreWords ts []) one h)
with_word s results (core.Ends (x ∷ words)) one h = refl
with_word s results (Traps why) one h = tt
with_word s results core.Stuck one h = absurd h

some_func : (o : Option Lifted) → kind_of_func o ≡ Callback → IsSome o
some_func None h = cc
some_func (Some f) h = refl

parts : (s : Store) (callee : Callee) (stacks : List Stack) (k : Stack) → slice_get stacks 0 ≡ Some k → TopIs (StackTyped s) s callee stacks → StackTyped s (gives callee (drop 1 stacks)) k
parts s callee [] k e h = cc
parts s callee (x ∷ under) k e h = subst (λ (y : Stack). StackTyped s (gives callee under) y) (some_same e) h.0

runs_on : (g : Graph) (w : World) (p : Option ℕ) → IsGrounded g w.store w.tasks w.insts p → FirstIs w.tasks w.chain (RunsTyped w.store) → RunsOn w
runs_on g w p ground runs t task k first there top =
    let task_is : TaskIs w.tasks t (RunsTyped w.store) = subst (λ (n : ℕ). TaskIs w.tasks n (RunsTyped w.store)) (some_same (sym runs.1 ∙ first)) runs.2 in
    let own : RunsTyped w.store task = of_task w.tasks t (RunsTyped w.store) task there task_is in
    let fine : MoveFine w.store (gives task.callee (drop 1 task.stacks)) (next w.store k) = moves_fine w.store (gives task.callee (drop 1 task.stacks)) k ground.store ground.bytes (parts w.store task.callee task.stacks k top own) in
    record {
      moves = by_rule w.store (gives task.callee (drop 1 task.stacks)) (next w.store k) fine;
      gives_word = λ kind last. with_word w.store (gives task.callee (drop 1 task.stacks)) (next w.store k)
          (ap (gives task.callee) last ∙ loop_gives task.callee (some_func (func_of task.callee) kind) kind) fine;
    }

hosted_on : (g : Graph) (s : Store) (b : Behind) (state : HostedState) → StoreTyped s → HasBytesAlone s → HostedTyped g s (nested_results b) state → HostedOn b s state
hosted_on g s (InLowering l k) (Going x) typed all h = (by_rule s (I32 ∷ []) (next s x) (moves_fine s (I32 ∷ []) x typed all h), with_word s (I32 ∷ []) (next s x) refl (moves_fine s (I32 ∷ []) x typed all h))
hosted_on g s BeforeLeaving (Going x) typed all h = (by_rule s [] (next s x) (moves_fine s [] x typed all h), tt)
hosted_on g s b (AtCall number words x) typed all h = tt

fed : (g : Graph) (w : World) (c : Control) → IsGrounded g w.store w.tasks w.insts (pending_of c) → Acts g c w.store w.tasks w.chain → IsCoreFed c (with_control Free w)
fed g w Runs ground acts = runs_on g (with_control Free w) None ground acts
fed g w (Quiet n b) ground acts = hosted_on g w.store b n.state ground.store ground.bytes acts.0
fed g w Free ground acts = tt
fed g w (Chosen k) ground acts = tt
fed g w (Instantiates n) ground acts = tt
fed g w (Calls number words) ground acts = tt
fed g w Arrives ground acts = tt
fed g w (Lowers l plan) ground acts = tt
fed g w Back ground acts = tt
fed g w GoesOn ground acts = tt
fed g w Resumes ground acts = tt
fed g w (Delivers set receiver pick) ground acts = tt
fed g w Leaves ground acts = tt
fed g w (Doomed t why) ground acts = tt

pub typed_worlds_feed : TypedWorldsFeed
typed_worlds_feed g w h = fed g w w.control h.ground h.acts
