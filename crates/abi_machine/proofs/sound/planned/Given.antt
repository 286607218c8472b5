-- What is passed has its type.
use Rattle.std.proofs.Common.{ℕ, true, false, List, [], map, sym, subst, Ok, Err}
use Rattle.syntax_trees.specs.declared.core_type.CoreType.{CoreType}
use Rattle.syntax_trees.specs.Flat.{flat, returned}
use Rattle.wasm_numbers.specs.Types.{AreWords}
use Rattle.comp_graph.specs.Needs.{core_val}
use Rattle.lowering_laws.proofs.Bytes.{each_byte}
use Rattle.abi_machine.specs.World.{World}
use Rattle.abi_machine.specs.Lifting.{Came}
use Rattle.abi_machine.specs.sound.Planned.{HaveReps}
use Rattle.abi_machine.specs.sound.TypedPlans.{ComesWith, ArgumentsAreTyped, ResultIsTyped, ElementsAreTyped, ScriptValuesAreTyped, ArgumentsAreTaken, ResultIsTaken, ElementsAreTaken, PlansSettle}
use Rattle.abi_machine.specs.sound.Values.{IsOf}
use Rattle.abi_machine.proofs.sound.planned.Reps.{reps_changed}
use Rattle.abi_machine.proofs.sound.planned.Fitting.{arguments_fit}
use Rattle.abi_machine.proofs.sound.planned.Passing as passing
use Rattle.abi_machine.proofs.sound.planned.Lifted.{IsLifting, Gives, arguments_come, result_comes, elements_come}

abbrev Reps : World → Type 0
Reps w = HaveReps w.insts

reps_lifting : IsLifting Reps
reps_lifting = record {
  reps = λ w h. h;
  removed = λ i index w h. reps_changed i _ w.insts (λ x k. (tt, k)) h;
  left = λ i index w h. reps_changed i _ w.insts (λ x k. k) h;
  lent_so = λ n handle w h. h;
}

comes : {A : Type 0} (P : A → Type 0) (i callee : ℕ) (came : Came A) → Gives Reps reps_lifting i callee P came → ComesWith P came
comes P i callee (Ok x) h = h
comes P i callee (Err stop) h = tt

pub arguments_are_typed : ArgumentsAreTyped
arguments_are_typed i callee is_async f bytes words w are reps = comes (IsOf _) i callee _ (arguments_come Reps reps_lifting i callee is_async f bytes words w (each_byte bytes are) reps)

pub result_is_typed : ResultIsTyped
result_is_typed i t limit type options words w bytes reps = comes _ i t _ (result_comes Reps reps_lifting i t limit type options words w bytes reps)

pub elements_are_typed : ElementsAreTyped
elements_are_typed i t type bytes place count w are reps = comes _ i t _ (elements_come Reps reps_lifting i t type bytes place count w (each_byte bytes are) reps)

pub script_values_are_typed : ScriptValuesAreTyped
script_values_are_typed = arguments_fit

pub arguments_are_taken : ArgumentsAreTaken
arguments_are_taken options f is_own v n is = passing.arguments_planned options f is_own v n is

pub result_is_taken : ResultIsTaken
result_is_taken is_own true type v words n is = passing.result_planned (AreWords []) is_own true type v words n is (λ e. tt) (λ e ws a. cc)
result_is_taken is_own false type v words n is =
    let Q : List ℕ → Type 0 = λ ws. AreWords (map core_val (returned (flat type))) ws in
    passing.result_planned Q is_own false type v words n is (λ e. subst (λ (ts : List CoreType). AreWords (map core_val ts) []) (sym (passing.returned_many (flat type) e)) tt)
    (λ e ws a. subst (λ (ts : List CoreType). AreWords (map core_val ts) ws) (sym (passing.returned_few (flat type) e)) (passing.core_words (flat type) ws a))

pub elements_are_taken : ElementsAreTaken
elements_are_taken is_own type all place n are room = passing.elements_planned (AreWords []) is_own type all place n are room tt

pub plans_settle : PlansSettle
plans_settle types t plan bytes table planned are reps history = passing.settles (AreWords types) t plan bytes table planned are reps history
