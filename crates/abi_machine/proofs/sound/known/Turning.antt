-- Each turn keeps what each change keeps, and what is picked is there.
use Rattle.std.proofs.Common.{◌≡◌, inl, inr, ℕ, true, List, [], ◌∷◌, length, refl, sym, ap, ◌∙◌, subst, Option}
use Rattle.std.specs.Prelude.{IsSome}
use Rattle.std.specs.List.{slice_get, AllByRecursion}
use Rattle.wasm_store.proofs.Lists.{all_at}
use Rattle.tasks.specs.Tasks.{may_cancel}
use Rattle.comp_graph.specs.Graph.{Graph, func_named}
use Rattle.script_reader.specs.declared.script.Item.{Item}
use Rattle.script_reader.specs.declared.script.Item.TheVariants as item
use Rattle.script_reader.specs.Script.{Script}
use Rattle.trace_labels.specs.declared.label.Label.{Label}
use Rattle.trace_labels.specs.declared.label.Label.TheVariants as line
use Rattle.trace_labels.specs.declared.trap.TrapName.{TrapName}
use Rattle.abi_machine.specs.Control.{Control, Free, Chosen, Instantiates, Runs, Arrives, Lowers, Quiet, Back, Goes as GoesOn, Resumes, Delivers, Leaves, Doomed}
use Rattle.abi_machine.specs.Control as control
use Rattle.abi_machine.specs.World.{Func, Host, New, World, new_task}
use Rattle.abi_machine.specs.Edits.{with_control, item_taken, chained}
use Rattle.abi_machine.specs.Reading.{acting, unfinished}
use Rattle.abi_machine.specs.Counting.{task_view}
use Rattle.abi_machine.specs.Turn.{Steps, silent}
use Rattle.abi_machine.specs.Cancelling.{cancelled_turn}
use Rattle.choices.specs.Drawing.{drawn}
use Rattle.abi_machine.specs.Choosing.{picks_of}
use Rattle.abi_machine.specs.Scheduling.{Alternative, Takes, GoesOn as GoesOnTask, alternatives, call_taken, cancel_taken, task_of_call, item_turn, gone, going_turn, alternative_turn, end_by, one_of, free_turn, chosen_turn}
use Rattle.abi_machine.specs.Next.{next_by}
use Rattle.abi_machine.specs.Next as machine
use Rattle.abi_machine.specs.sound.Changes.{Change, TakesItem, IsCalled, ComesBack, after}
use Rattle.abi_machine.specs.sound.Controls.{Says}
use Rattle.abi_machine.specs.sound.Acting.{outline_of, outlines_of, WasBlocked, OneActs, ActsBy}
use Rattle.abi_machine.specs.sound.Events.{EventComes}
use Rattle.abi_machine.proofs.sound.Found.{call_is}
use Rattle.abi_machine.proofs.sound.Able.{MayBeDone, all_may}
use Rattle.abi_machine.proofs.sound.Outlines.{outline_there}
use Rattle.abi_machine.proofs.sound.acts.Keeping.{IsUntrapped, new_acts}
use Rattle.abi_machine.specs.sound.Owners.{IsControlOwn}
use Rattle.abi_machine.proofs.sound.own.Exports.{named_apart}
use Rattle.abi_machine.proofs.sound.acts.Turning.{IsUndoomed, doomed_or_not}
use Rattle.abi_machine.proofs.sound.known.Picking.{picked_there}
use Rattle.abi_machine.proofs.sound.known.Asked.{AskedFacts}
use Rattle.abi_machine.proofs.sound.known.Copying.{CopyFacts}
use Rattle.abi_machine.proofs.sound.known.Events.{able_comes, going_comes}
use Rattle.abi_machine.proofs.sound.known.Keeping.{Facts, Known, Comings, Promises, Walk, Keeps, given_keeps, behind_keeps, either_keeps, goes, charged_keeps, chosen_keeps}
use Rattle.abi_machine.proofs.sound.known.Moving.{leaving_keeps, running_keeps, instantiating_keeps}
use Rattle.abi_machine.proofs.sound.known.Waking.{arriving_keeps, delivering_keeps, resuming_keeps, back_keeps, idle_cancelled_keeps}
use Rattle.abi_machine.proofs.sound.known.Nesting.{nested_keeps, lowers_keeps}
use Rattle.abi_machine.proofs.sound.known.Answering.{calling_keeps}

end_untrapped : (tasks : List ℕ) → IsUntrapped (end_by tasks)
end_untrapped [] = tt
end_untrapped (t ∷ tasks) = tt

module _ {g : Graph} {s : Script} (walk : Walk g s) where
  -- Turns of the scheduler.

  item_keeps : (i : Item) (w : World) → w.chain ≡ [] → walk.Holds (item_taken w) → Keeps walk (item_turn g s i w)
  unfolding item_turn call_taken cancel_taken
  item_keeps (item.Call call) w idle taken =
      given_keeps walk (func_named g call.name) _ (λ f e.
      let c : Change = IsCalled (Func f) _ call.values in
      (goes walk Arrives (after c (item_taken w)) (walk.stays c (item_taken w) (refl, idle) tt (λ apart. named_apart g call.name f (walk.graph apart) e) taken), tt, new_acts w.tasks w.chain (new_task (Func f) (Host _ call.values) New) refl))
  item_keeps (item.Cancel call) w idle taken =
      given_keeps walk (task_of_call call w) _ (λ found e.
      behind_keeps walk (line.Cancel call ∷ []) _
      (either_keeps walk (may_cancel (task_view g (item_taken w) found.0 found.1)) (cancelled_turn g found.0 found.1 Free (item_taken w)) (silent Free (item_taken w))
      (λ f. idle_cancelled_keeps walk found.0 found.1 (item_taken w) (call_is call w found e) idle taken) (λ f. (goes walk Free (item_taken w) taken, tt, idle))))

  gone_keeps : (t : ℕ) (w : World) → (walk.Event → EventComes g Resumes (with_control Free w)) → walk.Holds w → OneActs WasBlocked (outlines_of w.tasks) w.chain → Keeps walk (gone t w)
  unfolding gone
  gone_keeps t w comes h o = (goes walk Resumes w h, comes, o)

  alternative_keeps : (a : Alternative) (w : World) → MayBeDone g s w a → w.chain ≡ [] → walk.Holds w → Keeps walk (alternative_turn g s a w)
  unfolding alternative_turn
  alternative_keeps (Takes i) w there idle h =
      charged_keeps walk true w (λ v. item_turn g s i v) h (λ units j. item_keeps i (record w { units = units }) idle (walk.stays TakesItem (record w { units = units }) (subst (λ (o : Option Item). IsSome o) (sym there) refl) tt (λ apart. tt) j))
  alternative_keeps (GoesOnTask t) w there idle h =
      charged_keeps walk true w (λ v. gone t (chained t v)) h (λ units j. gone_keeps t (after (ComesBack t) (record w { units = units })) (λ event. able_comes g w t there.0 units there.1 there.2.2)
      (walk.comes t (record w { units = units }) there.0 there.1 there.2.0 there.2.1 idle j) (t, (refl, (outline_of there.0, outline_there w.tasks t there.0 there.1, there.2.1))))

  one_keeps : (all : List Alternative) (w : World) → alternatives g s w ≡ all → AllByRecursion (MayBeDone g s w) all → w.chain ≡ [] → walk.Holds w → Keeps walk (one_of g s all w)
  unfolding one_of
  one_keeps [] w same are idle h = end_untrapped (unfinished w)
  one_keeps (a ∷ []) w same are idle h = alternative_keeps a w are.0 idle h
  one_keeps (a ∷ other ∷ others) w same are idle h =
      chosen_keeps walk (length (a ∷ other ∷ others)) Chosen w (λ k. idle)
      (picked_there g s w (drawn (length (a ∷ other ∷ others)) (picks_of s w)).used Free a (other ∷ others) (picks_of s w) same) h

  free_keeps : (w : World) → w.chain ≡ [] → walk.Holds w → Keeps walk (free_turn g s w)
  unfolding free_turn
  free_keeps w idle h = one_keeps (alternatives g s w) w refl (all_may g s w) idle h

  chosen_turn_keeps : (k : ℕ) (w : World) → w.chain ≡ [] → walk.Holds w → Keeps walk (chosen_turn g s k w)
  unfolding chosen_turn
  chosen_turn_keeps k w idle h = given_keeps walk (slice_get (alternatives g s w) k) _ (λ a e. alternative_keeps a w (all_at (MayBeDone g s w) (alternatives g s w) k a (all_may g s w) e) idle h)

  going_keeps : (w : World) → (walk.Event → Comings g GoesOn w) → walk.Holds w → OneActs WasBlocked (outlines_of w.tasks) w.chain → Keeps walk (going_turn s w)
  unfolding going_turn
  going_keeps w comings h o =
      given_keeps walk (acting w) _ (λ a e. charged_keeps walk true w (λ v. gone a.0 v) h (λ units j. gone_keeps a.0 (record w { units = units }) (λ event. going_comes g w units (comings event).0) j o))

  -- The machine.

  pub each_keeps : (w : World) (c : Control) → Known walk w → (walk.Apart → IsControlOwn g c w) → (walk.Event → Comings g c w) → IsUndoomed c → Says c w.chain → ActsBy c (outlines_of w.tasks) w.chain → walk.Holds w → Keeps walk (next_by g s w c)
  each_keeps w Free facts own comings undoomed says o h = free_keeps w says h
  each_keeps w (Chosen k) facts own comings undoomed says o h = chosen_turn_keeps k w says h
  each_keeps w (Instantiates n) facts own comings undoomed says o h = instantiating_keeps walk n w says own h o
  each_keeps w Runs facts own comings undoomed says o h = running_keeps walk w h o
  each_keeps w (control.Calls number words) facts own comings undoomed says o h = calling_keeps walk number words w facts own h o
  each_keeps w Arrives facts own comings undoomed says o h = arriving_keeps walk w h o
  each_keeps w (Lowers l plan) facts own comings undoomed says o h = lowers_keeps walk l plan w own h o.0 o.1
  each_keeps w (Quiet n b) facts own comings undoomed says o h = nested_keeps walk n b w own h o.0 o.1 o.2
  each_keeps w Back facts own comings undoomed says o h = back_keeps walk w facts h
  each_keeps w GoesOn facts own comings undoomed says o h = going_keeps w comings h o
  each_keeps w Resumes facts own comings undoomed says o h = resuming_keeps walk w facts comings h
  each_keeps w (Delivers set receiver pick) facts own comings undoomed says o h = delivering_keeps walk set receiver pick w facts comings h o
  each_keeps w Leaves facts own comings undoomed says o h = leaving_keeps walk w h o
  each_keeps w (Doomed t why) facts own comings undoomed says o h = absurd undoomed

  -- what control says, with nothing in front
  own_free : (c : Control) (w : World) → IsControlOwn g c w → IsControlOwn g c (with_control Free w)
  own_free Free w h = h
  own_free (Chosen k) w h = h
  own_free (Instantiates n) w h = h
  own_free Runs w h = h
  own_free (control.Calls number words) w h = h
  own_free Arrives w h = h
  own_free (Lowers l plan) w h = h
  own_free (Quiet n b) w h = h
  own_free Back w h = h
  own_free GoesOn w h = h
  own_free Resumes w h = h
  own_free (Delivers set receiver pick) w h = h
  own_free Leaves w h = h
  own_free (Doomed t why) w h = h

  pub step_known : (w v : World) (labels : List Label) → (walk.Given → Facts g w) → (walk.Asks → AskedFacts g w) → (walk.Copies → CopyFacts g w) → (walk.Apart → IsControlOwn g w.control w) → (walk.Event → Comings g w.control (with_control Free w)) → Says w.control w.chain → ActsBy w.control (outlines_of w.tasks) w.chain → walk.Holds w → machine.next g s w ≡ Steps labels v
      → walk.Holds v × Promises walk.Apart walk.Event g s v.control v × ActsBy v.control (outlines_of v.tasks) v.chain
  step_known w v labels facts asked copying own comings says o h e = elim (doomed_or_not w.control) [
    | inl undoomed ↦ subst (Keeps walk) e (each_keeps (with_control Free w) w.control ((λ given. record { called = (facts given).called; subtasks = (facts given).subtasks }), (λ asks. record { called = (asked asks).called; subtasks = (asked asks).subtasks; told = (asked asks).told; cancels = (asked asks).cancels }), (λ copies. record { once = (copying copies).once; awaits = (copying copies).awaits })) (λ apart. own_free w.control w (own apart)) comings undoomed says o (goes walk Free w h))
    | inr d ↦ absurd (never d.0 d.1 (ap (λ (c : Control). next_by g s (with_control Free w) c) (sym d.2) ∙ e))
  ]
    where
      never : (t : ℕ) (why : TrapName) → next_by g s (with_control Free w) (Doomed t why) ≡ Steps labels v → ⊥
      never t why i = cc
