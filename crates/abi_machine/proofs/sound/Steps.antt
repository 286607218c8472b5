-- Each step makes changes, each where it may come: what every change keeps, every step keeps.
use Rattle.std.proofs.Common.{◌≡◌, inl, inr, ℕ, ◌+◌, true, nat_eq, List, [], ◌∷◌, ◌++◌, length, refl, sym, ◌∙◌, subst, arith, Option, Some}
use Rattle.std.proofs.lemmas.Bool.Decides.{nat_tests}
use Rattle.std.specs.Prelude.{IsSome, is_none}
use Rattle.std.specs.List.{slice_get, AllByRecursion}
use Rattle.wasm_store.proofs.Lists.{all_at}
use Rattle.tasks.specs.Tasks.{may_cancel}
use Rattle.laid_types.specs.Handles.{held_borrow}
use Rattle.syntax_trees.specs.declared.value.Value.{Value}
use Rattle.comp_graph.specs.Graph.{Graph, Lifted, func_named}
use Rattle.script_reader.specs.declared.script.Call.{Call}
use Rattle.script_reader.specs.declared.script.Item.{Item}
use Rattle.script_reader.specs.declared.script.Item.TheVariants as item
use Rattle.script_reader.specs.Script.{Script}
use Rattle.trace_labels.specs.declared.label.Label.{Label}
use Rattle.trace_labels.specs.declared.label.Label.TheVariants as line
use Rattle.abi_machine.specs.Control.{Control, Free, Chosen, Instantiates, Runs, Arrives, Lowers, Quiet, Back, Goes as GoesOn, Resumes, Delivers, Leaves, Doomed}
use Rattle.abi_machine.specs.Control as control
use Rattle.abi_machine.specs.World.{Callee, Func, Host, New as IsNew, Task, World, new_task}
use Rattle.abi_machine.specs.Edits.{with_control, item_taken, chained}
use Rattle.abi_machine.specs.Reading.{acting}
use Rattle.abi_machine.specs.Counting.{task_view}
use Rattle.abi_machine.specs.Turn.{Steps, silent}
use Rattle.abi_machine.specs.Cancelling.{cancelled_turn}
use Rattle.abi_machine.specs.Scheduling.{Alternative, Takes, GoesOn as GoesOnTask, alternatives, is_call, calls_taken, call_taken, cancel_taken, task_of_call, item_turn, gone, going_turn, alternative_turn, one_of, free_turn, chosen_turn}
use Rattle.abi_machine.specs.Next.{next_by}
use Rattle.abi_machine.specs.Next as machine
use Rattle.abi_machine.specs.sound.Changes.{Change, GoesTo, TakesItem, IsCalled, ComesBack, after}
use Rattle.abi_machine.specs.sound.Agreeing.{Agrees}
use Rattle.abi_machine.specs.sound.Premises.{IsTakeable}
use Rattle.abi_machine.specs.sound.Taken.{MadeTask}
use Rattle.abi_machine.specs.sound.CallsFit.{IsNextCall}
use Rattle.abi_machine.proofs.sound.Acted.{last_is, new_first}
use Rattle.abi_machine.proofs.sound.Entries.{left_true, right_true, unasked_is, none_resolved}
use Rattle.abi_machine.specs.sound.Lines as mark
use Rattle.abi_machine.specs.sound.Lines.{marks_of}
use Rattle.abi_machine.proofs.sound.turns.Keeping.{Invariant, Keeps, given_keeps, behind_keeps, either_keeps, goes, charged_keeps, chosen_keeps, goes_behind}
use Rattle.abi_machine.proofs.sound.Alternatives.{IsAlternative, all_alternatives}
use Rattle.abi_machine.proofs.sound.Found.{some_same, call_is}
use Rattle.abi_machine.proofs.sound.turns.Moving.{leaving_keeps, running_keeps, instantiating_keeps}
use Rattle.abi_machine.proofs.sound.turns.Waking.{arriving_keeps, delivering_keeps, resuming_keeps, cancelled_keeps, back_keeps}
use Rattle.abi_machine.proofs.sound.turns.Nesting.{nested_keeps, lowers_keeps}
use Rattle.abi_machine.proofs.sound.turns.Answering.{calling_keeps}

-- A call has its own number, and one that is cancelled is no call.
same_number : (number : ℕ) → nat_eq number number ≡ true
same_number number = grind (arith, nat_tests)

not_called : (call : ℕ) → is_call (item.Cancel call) ≡ true → ⊥
not_called call e = cc

module _ {g : Graph} {s : Script} (inv : Invariant g s) where
  -- Turns of the scheduler.

  there_some : (i : Item) (w : World) → slice_get s.items w.taken ≡ Some i → IsSome (slice_get s.items w.taken)
  there_some i w there = subst (λ (o : Option Item). IsSome o) (sym there) refl

  -- the task that a call makes is the last one
  task_made_last : (tasks : List Task) (callee : Callee) (number : ℕ) (values : List Value) → MadeTask (tasks ++ new_task callee (Host number values) IsNew ∷ []) number
  task_made_last tasks callee number values = (length tasks, (new_task callee (Host number values) IsNew, last_is tasks (new_task callee (Host number values) IsNew), same_number number))

  called_next : (call : Call) (f : Lifted) (w : World) → slice_get s.items w.taken ≡ Some (item.Call call) → func_named g call.name ≡ Some f → IsNextCall g s w (Func f) call.values
  called_next call f w there e = record { call = call; func = f; next = there; named = e; runs = refl; passed = refl }

  -- no call is taken
  no_call : (call : ℕ) (w : World) → slice_get s.items w.taken ≡ Some (item.Cancel call) → IsTakeable s w
  no_call call w there = (there_some (item.Cancel call) w there, λ i at is. absurd (not_called call (subst (λ (x : Item). is_call x ≡ true) (some_same (sym at ∙ there)) is)))

  item_keeps : (i : Item) (w : World) → slice_get s.items w.taken ≡ Some i → w.chain ≡ [] → inv.Holds [] w → Keeps inv (item_turn g s i w)
  unfolding item_turn call_taken cancel_taken
  item_keeps (item.Call call) w there idle h =
      given_keeps inv (func_named g call.name) _ (λ f e.
      let number : ℕ = calls_taken s w + 1 in
      let c : Change = IsCalled (Func f) number call.values in
      goes_behind inv (mark.Makes (length w.tasks) ∷ []) Arrives (after TakesItem (after c w)) (new_first w.tasks w.chain (new_task (Func f) (Host number call.values) IsNew) refl)
      (inv.stays (mark.Makes (length w.tasks) ∷ []) TakesItem (after c w) (there_some (item.Call call) w there, λ i at is. task_made_last w.tasks (Func f) number call.values)
      (inv.stays [] c w (refl, idle, (λ b. inr (call.name, f, e, subst (λ (x : Lifted). held_borrow x.func_type.result ≡ true) (sym (some_same b.1)) b.2)), inl (call.name, e), called_next call f w there e, (w.taken, call, there, refl)) h)))
  item_keeps (item.Cancel call) w there idle h =
      given_keeps inv (task_of_call call w) _ (λ found e.
      let taken : inv.Holds [] (item_taken w) = inv.stays [] TakesItem w (no_call call w there) h in
      behind_keeps inv (line.Cancel call ∷ []) _ refl
      (either_keeps inv (may_cancel (task_view g (item_taken w) found.0 found.1)) (cancelled_turn g found.0 found.1 Free (item_taken w)) (silent Free (item_taken w))
      (λ f.
      cancelled_keeps inv found.0 found.1 Free (item_taken w)
      (found.1, call_is call w found e, (refl, none_resolved found.1 (left_true _ _ f), unasked_is found.1.cancellation (right_true (is_none found.1.resolution) _ f), inl refl)) (λ v same. same ∙ idle) (inl idle) taken)
      (λ f. goes inv Free (item_taken w) idle taken)))

  gone_keeps : (t : ℕ) (w : World) → Agrees Resumes w → inv.Holds [] w → Keeps inv (gone t w)
  unfolding gone
  gone_keeps t w says h = goes inv Resumes w says h

  alternative_keeps : (a : Alternative) (w : World) → IsAlternative s w a → w.chain ≡ [] → inv.Holds [] w → Keeps inv (alternative_turn g s a w)
  unfolding alternative_turn
  alternative_keeps (Takes i) w there idle h =
      charged_keeps inv true w (λ v. item_turn g s i v) h (λ units j. item_keeps i (record w { units = units }) there idle j)
  alternative_keeps (GoesOnTask t) w there idle h =
      charged_keeps inv true w (λ v. gone t (chained t v)) h
      (λ units j. gone_keeps t (after (ComesBack t) (record w { units = units })) (t, refl, there.1) (inv.stays [] (ComesBack t) (record w { units = units }) (there.0, inl idle) j))

  one_keeps : (all : List Alternative) (w : World) → AllByRecursion (IsAlternative s w) all → w.chain ≡ [] → inv.Holds [] w → Keeps inv (one_of g s all w)
  unfolding one_of
  one_keeps [] w are idle h = tt
  one_keeps (a ∷ []) w are idle h = alternative_keeps a w are.0 idle h
  one_keeps (a ∷ other ∷ others) w are idle h = chosen_keeps inv (length (a ∷ other ∷ others)) Chosen w (λ k. idle) h

  free_keeps : (w : World) → w.chain ≡ [] → inv.Holds [] w → Keeps inv (free_turn g s w)
  unfolding free_turn
  free_keeps w idle h = one_keeps (alternatives g s w) w (all_alternatives g s w) idle h

  chosen_turn_keeps : (k : ℕ) (w : World) → w.chain ≡ [] → inv.Holds [] w → Keeps inv (chosen_turn g s k w)
  unfolding chosen_turn
  chosen_turn_keeps k w idle h = given_keeps inv (slice_get (alternatives g s w) k) _ (λ a e. alternative_keeps a w (all_at (IsAlternative s w) (alternatives g s w) k a (all_alternatives g s w) e) idle h)

  going_keeps : (w : World) → Agrees GoesOn w → inv.Holds [] w → Keeps inv (going_turn s w)
  unfolding going_turn
  going_keeps w says h = given_keeps inv (acting w) _ (λ a e. charged_keeps inv true w (λ v. gone a.0 v) h (λ units j. gone_keeps a.0 (record w { units = units }) says j))

  -- The machine.

  pub each_keeps : (w : World) (c : Control) → Agrees c w → inv.Holds [] w → Keeps inv (next_by g s w c)
  each_keeps w Free says h = free_keeps w says h
  each_keeps w (Chosen k) says h = chosen_turn_keeps k w says h
  each_keeps w (Instantiates n) says h = instantiating_keeps inv n w says h
  each_keeps w Runs says h = running_keeps inv w (h, says)
  each_keeps w (control.Calls number words) says h = calling_keeps inv number words w (h, says)
  each_keeps w Arrives says h = arriving_keeps inv w says h
  each_keeps w (Lowers l plan) says h = lowers_keeps inv l plan w says.4 (((h, says.0), says.1, says.3), says.2)
  each_keeps w (Quiet n b) says h = nested_keeps inv n b w ((h, says.0), says.1, says.2, says.3, says.4)
  each_keeps w Back says h = back_keeps inv w h
  each_keeps w GoesOn says h = going_keeps w says h
  each_keeps w Resumes says h = resuming_keeps inv w says h
  each_keeps w (Delivers set receiver pick) says h = delivering_keeps inv set receiver pick w (h, says)
  each_keeps w Leaves says h = leaving_keeps inv w says.1 (h, says.0)
  each_keeps w (Doomed t why) says h = tt

  pub step_keeps : (w v : World) (labels : List Label) → Agrees w.control w → inv.Holds [] w → machine.next g s w ≡ Steps labels v → inv.Holds (marks_of labels) v × Agrees v.control v
  step_keeps w v labels says h e = subst (Keeps inv) e (each_keeps (with_control Free w) w.control says (inv.stays [] (GoesTo Free) w tt h))
