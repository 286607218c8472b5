-- Each turn keeps the order of tasks, and leaves the acting task as control says.
use Rattle.std.proofs.Common.{◌≡◌, ◌⊎◌, inl, inr, ℕ, true, List, [], ◌∷◌, length, refl, sym, ap, ◌∙◌, subst, Option}
use Rattle.std.specs.Prelude.{IsSome}
use Rattle.std.specs.List.{slice_get, AllByRecursion}
use Rattle.wasm_store.proofs.Lists.{all_at}
use Rattle.tasks.specs.Tasks.{may_cancel}
use Rattle.comp_graph.specs.Graph.{Graph, func_named}
use Rattle.script_reader.specs.declared.script.Item.{Item}
use Rattle.script_reader.specs.declared.script.Item.TheVariants as item
use Rattle.script_reader.specs.Script.{Script}
use Rattle.trace_labels.specs.declared.label.Label.{Label}
use Rattle.trace_labels.specs.declared.label.Label.TheVariants as line
use Rattle.trace_labels.specs.declared.trap.TrapName.{TrapName}
use Rattle.abi_machine.specs.declared.run_end.RunEnd.TheVariants.{Trapped}
use Rattle.abi_machine.specs.Control.{Control, Free, Chosen, Instantiates, Runs, Arrives, Lowers, Quiet, Back, Goes as GoesOn, Resumes, Delivers, Leaves, Doomed}
use Rattle.abi_machine.specs.Control as control
use Rattle.abi_machine.specs.World.{Func, Host, New, World, new_task}
use Rattle.abi_machine.specs.Edits.{with_control, item_taken, chained}
use Rattle.abi_machine.specs.Reading.{acting, unfinished}
use Rattle.abi_machine.specs.Counting.{task_view}
use Rattle.abi_machine.specs.Turn.{Steps, Ends, silent}
use Rattle.abi_machine.specs.Cancelling.{cancelled_turn}
use Rattle.abi_machine.specs.Scheduling.{Alternative, Takes, GoesOn as GoesOnTask, alternatives, call_taken, cancel_taken, task_of_call, item_turn, gone, going_turn, alternative_turn, end_by, one_of, free_turn, chosen_turn}
use Rattle.abi_machine.specs.Next.{next_by}
use Rattle.abi_machine.specs.Next as machine
use Rattle.abi_machine.specs.sound.Changes.{Change, TakesItem, IsCalled, ComesBack, after}
use Rattle.abi_machine.specs.sound.Controls.{Says}
use Rattle.abi_machine.specs.sound.Acting.{outline_of, outlines_of, WasBlocked, OneActs, ActsBy}
use Rattle.abi_machine.proofs.sound.Found.{call_is}
use Rattle.abi_machine.proofs.sound.Able.{MayBeDone, all_may}
use Rattle.abi_machine.proofs.sound.Outlines.{outline_there}
use Rattle.abi_machine.proofs.sound.acts.Keeping.{Order, IsUntrapped, new_acts, Keeps, given_keeps, behind_keeps, either_keeps, goes, charged_keeps, chosen_keeps}
use Rattle.abi_machine.proofs.sound.acts.Moving.{leaving_keeps, running_keeps, instantiating_keeps}
use Rattle.abi_machine.proofs.sound.acts.Waking.{arriving_keeps, delivering_keeps, resuming_keeps, back_keeps, idle_cancelled_keeps}
use Rattle.abi_machine.proofs.sound.acts.Nesting.{nested_keeps, lowers_keeps}
use Rattle.abi_machine.proofs.sound.acts.Answering.{calling_keeps}

end_untrapped : (tasks : List ℕ) → IsUntrapped (end_by tasks)
end_untrapped [] = tt
end_untrapped (t ∷ tasks) = tt

-- what comes next is no trap
abbrev pub IsUndoomed : Control → Type 0
IsUndoomed (Doomed t why) = ⊥
IsUndoomed control = Unit {0}

pub doomed_or_not : (c : Control) → IsUndoomed c ⊎ ((t : ℕ) × (why : TrapName) × (c ≡ Doomed t why))
doomed_or_not Free = inl tt
doomed_or_not (Chosen k) = inl tt
doomed_or_not (Instantiates n) = inl tt
doomed_or_not Runs = inl tt
doomed_or_not (control.Calls number words) = inl tt
doomed_or_not Arrives = inl tt
doomed_or_not (Lowers l plan) = inl tt
doomed_or_not (Quiet n b) = inl tt
doomed_or_not Back = inl tt
doomed_or_not GoesOn = inl tt
doomed_or_not Resumes = inl tt
doomed_or_not (Delivers set receiver pick) = inl tt
doomed_or_not Leaves = inl tt
doomed_or_not (Doomed t why) = inr (t, why, refl)

module _ {g : Graph} {s : Script} (ord : Order g s) where
  -- Turns of the scheduler.

  item_keeps : (i : Item) (w : World) → w.chain ≡ [] → ord.Holds (item_taken w) → Keeps ord (item_turn g s i w)
  unfolding item_turn call_taken cancel_taken
  item_keeps (item.Call call) w idle taken =
      given_keeps ord (func_named g call.name) _ (λ f e.
      let c : Change = IsCalled (Func f) _ call.values in
      (goes ord Arrives (after c (item_taken w)) (ord.stays c (item_taken w) (refl, idle) tt taken), new_acts w.tasks w.chain (new_task (Func f) (Host _ call.values) New) refl))
  item_keeps (item.Cancel call) w idle taken =
      given_keeps ord (task_of_call call w) _ (λ found e.
      behind_keeps ord (line.Cancel call ∷ []) _
      (either_keeps ord (may_cancel (task_view g (item_taken w) found.0 found.1)) (cancelled_turn g found.0 found.1 Free (item_taken w)) (silent Free (item_taken w))
      (λ f. idle_cancelled_keeps ord found.0 found.1 (item_taken w) (call_is call w found e) idle taken) (λ f. (goes ord Free (item_taken w) taken, idle))))

  gone_keeps : (t : ℕ) (w : World) → ord.Holds w → OneActs WasBlocked (outlines_of w.tasks) w.chain → Keeps ord (gone t w)
  unfolding gone
  gone_keeps t w h o = (goes ord Resumes w h, o)

  alternative_keeps : (a : Alternative) (w : World) → MayBeDone g s w a → w.chain ≡ [] → ord.Holds w → Keeps ord (alternative_turn g s a w)
  unfolding alternative_turn
  alternative_keeps (Takes i) w there idle h =
      charged_keeps ord true w (λ v. item_turn g s i v) h (λ units j. item_keeps i (record w { units = units }) idle (ord.stays TakesItem (record w { units = units }) (subst (λ (o : Option Item). IsSome o) (sym there) refl) tt j))
  alternative_keeps (GoesOnTask t) w there idle h =
      charged_keeps ord true w (λ v. gone t (chained t v)) h (λ units j. gone_keeps t (after (ComesBack t) (record w { units = units }))
      (ord.comes t (record w { units = units }) there.0 there.1 there.2.0 there.2.1 idle j) (t, (refl, (outline_of there.0, outline_there w.tasks t there.0 there.1, there.2.1))))

  one_keeps : (all : List Alternative) (w : World) → AllByRecursion (MayBeDone g s w) all → w.chain ≡ [] → ord.Holds w → Keeps ord (one_of g s all w)
  unfolding one_of
  one_keeps [] w are idle h = end_untrapped (unfinished w)
  one_keeps (a ∷ []) w are idle h = alternative_keeps a w are.0 idle h
  one_keeps (a ∷ other ∷ others) w are idle h = chosen_keeps ord (length (a ∷ other ∷ others)) Chosen w (λ k. idle) h

  free_keeps : (w : World) → w.chain ≡ [] → ord.Holds w → Keeps ord (free_turn g s w)
  unfolding free_turn
  free_keeps w idle h = one_keeps (alternatives g s w) w (all_may g s w) idle h

  chosen_turn_keeps : (k : ℕ) (w : World) → w.chain ≡ [] → ord.Holds w → Keeps ord (chosen_turn g s k w)
  unfolding chosen_turn
  chosen_turn_keeps k w idle h = given_keeps ord (slice_get (alternatives g s w) k) _ (λ a e. alternative_keeps a w (all_at (MayBeDone g s w) (alternatives g s w) k a (all_may g s w) e) idle h)

  going_keeps : (w : World) → ord.Holds w → OneActs WasBlocked (outlines_of w.tasks) w.chain → Keeps ord (going_turn s w)
  unfolding going_turn
  going_keeps w h o = given_keeps ord (acting w) _ (λ a e. charged_keeps ord true w (λ v. gone a.0 v) h (λ units j. gone_keeps a.0 (record w { units = units }) j o))

  -- The machine.

  pub each_keeps : (w : World) (c : Control) → IsUndoomed c → Says c w.chain → ActsBy c (outlines_of w.tasks) w.chain → ord.Holds w → Keeps ord (next_by g s w c)
  each_keeps w Free undoomed says o h = free_keeps w says h
  each_keeps w (Chosen k) undoomed says o h = chosen_turn_keeps k w says h
  each_keeps w (Instantiates n) undoomed says o h = instantiating_keeps ord n w says h o
  each_keeps w Runs undoomed says o h = running_keeps ord w h o
  each_keeps w (control.Calls number words) undoomed says o h = calling_keeps ord number words w h o
  each_keeps w Arrives undoomed says o h = arriving_keeps ord w h o
  each_keeps w (Lowers l plan) undoomed says o h = lowers_keeps ord l plan w h o.0 o.1
  each_keeps w (Quiet n b) undoomed says o h = nested_keeps ord n b w h o.0 o.1 o.2
  each_keeps w Back undoomed says o h = back_keeps ord w h
  each_keeps w GoesOn undoomed says o h = going_keeps w h o
  each_keeps w Resumes undoomed says o h = resuming_keeps ord w h
  each_keeps w (Delivers set receiver pick) undoomed says o h = delivering_keeps ord set receiver pick w h o
  each_keeps w Leaves undoomed says o h = leaving_keeps ord w h o
  each_keeps w (Doomed t why) undoomed says o h = absurd undoomed

  pub step_ordered : (w v : World) (labels : List Label) → Says w.control w.chain → ActsBy w.control (outlines_of w.tasks) w.chain → ord.Holds w → machine.next g s w ≡ Steps labels v
      → ord.Holds v × ActsBy v.control (outlines_of v.tasks) v.chain
  step_ordered w v labels says o h e = elim (doomed_or_not w.control) [
    | inl undoomed ↦ subst (Keeps ord) e (each_keeps (with_control Free w) w.control undoomed says o (goes ord Free w h))
    | inr d ↦ absurd (never d.0 d.1 (ap (λ (c : Control). next_by g s (with_control Free w) c) (sym d.2) ∙ e))
  ]
    where
      never : (t : ℕ) (why : TrapName) → next_by g s (with_control Free w) (Doomed t why) ≡ Steps labels v → ⊥
      never t why i = cc

  -- A trap ends a run only where that task has come to it.
  pub trap_is_met : (w : World) (t : ℕ) (why : TrapName) → Says w.control w.chain → ActsBy w.control (outlines_of w.tasks) w.chain → ord.Holds w → machine.next g s w ≡ Ends (Trapped t why) → w.control ≡ Doomed t why
  trap_is_met w t why says o h e = elim (doomed_or_not w.control) [
    | inl undoomed ↦ absurd (subst (Keeps ord) e (each_keeps (with_control Free w) w.control undoomed says o (goes ord Free w h)))
    | inr d ↦ d.2 ∙ same d.0 d.1 (ap (λ (c : Control). next_by g s (with_control Free w) c) (sym d.2) ∙ e)
  ]
    where
      same : (u : ℕ) (other : TrapName) → next_by g s (with_control Free w) (Doomed u other) ≡ Ends (Trapped t why) → Doomed u other ≡ Doomed t why
      same u other i = cc
