-- The laws of each world that a run reaches.
use Rattle.std.proofs.Common.{◌≡◌, ◌∙◌, ◌⊎◌, inl, inr, List, [], ◌∷◌, refl, sym, subst}
use Rattle.comp_graph.specs.Graph.{Graph}
use Rattle.script_reader.specs.Script.{Script}
use Rattle.trace_labels.specs.declared.label.Label.{Label}
use Rattle.lowering_laws.specs.StoreBytes.{HasBytesAlone}
use Rattle.abi_machine.specs.Control.{Control, Free, Chosen, Instantiates, Runs, Calls, Arrives, Lowers, Quiet, Back, Goes, Resumes, Delivers, Leaves, Doomed}
use Rattle.abi_machine.specs.World.{World, first_world}
use Rattle.abi_machine.specs.Edits.{with_control}
use Rattle.abi_machine.specs.Turn.{Turn, Steps, Ends, Stuck}
use Rattle.abi_machine.specs.Next.{next}
use Rattle.abi_machine.specs.Run.{Reaches}
use Rattle.abi_machine.specs.sound.GoingOn.{HasNext}
use Rattle.abi_machine.specs.sound.Places.{IsCoreFed}
use Rattle.abi_machine.specs.sound.Starting.{IsDoomed}
use Rattle.abi_machine.specs.sound.TypedStacks.{IsTyped}
use Rattle.abi_machine.specs.sound.TypedWorlds.{PutsInside, IsTypedWorld}
use Rattle.abi_machine.proofs.sound.places.Given.{places_go_on}
use Rattle.abi_machine.proofs.sound.worlds.Feeding.{typed_worlds_feed}
use Rattle.reach_laws.specs.Going.{IsStep, IsEnd, ExactlyOneNext, NoneIsStuck}
use Rattle.reach_laws.specs.Reached.{StartsTyped, ReachedAreTyped, CodePassesWords, ReachedKeepWords, StoresExtend, ReachedStandInside, ReachedAnswerWords, ReachedPutInside}
use Rattle.reach_laws.specs.Runnable.{IsRunnable}
use Rattle.reach_laws.proofs.Feeding.{in_range}
use Rattle.reach_laws.proofs.Reaching.{IsBegun, Holds, holds_passes, holds_answers, grown, holds_on, first_holds, reached_holds}

begun_typed : (g : Graph) (w : World) → IsDoomed w.control ⊎ IsBegun g w → IsDoomed w.control ⊎ (IsTyped g w × HasBytesAlone w.store)
begun_typed g w (inl doomed) = inl doomed
begun_typed g w (inr b) = inr (b.typed, b.bytes)

pub starts_typed : StartsTyped
starts_typed g s steps w run r yet = begun_typed g w ((reached_holds g s steps w run r).early yet)

pub reached_are_typed : ReachedAreTyped
reached_are_typed g s steps w run r done = (reached_holds g s steps w run r).late done

pub code_passes_words : CodePassesWords
code_passes_words g s run steps w r = holds_passes g s w (reached_holds g s steps w run r)

pub reached_keep_words : ReachedKeepWords
reached_keep_words g s steps w run r = (let h : Holds g s w = reached_holds g s steps w run r in (h.words, in_range g w h.words))

pub stores_extend : StoresExtend
stores_extend g s run steps w v labels r e = (grown g s run w v labels (reached_holds g s steps w run r) e).0.extends

pub reached_stand_inside : ReachedStandInside
reached_stand_inside g s steps w run r = (reached_holds g s steps w run r).places

pub reached_answer_words : ReachedAnswerWords
reached_answer_words g s steps w v labels run r e = holds_answers g s run w v labels (reached_holds g s steps w run r) e

-- Elements are put inside in each world behind a step, and in the first one none are.
puts_from : (g : Graph) (s : Script) (steps : List (List Label)) (w v : World) → IsRunnable g s → Holds g s w → PutsInside w → Reaches g s w steps v → PutsInside v
puts_from g s [] w v run h puts r = subst PutsInside (sym r) puts
puts_from g s (labels ∷ steps) w v run h puts r = puts_from g s steps r.0 v run (holds_on g s run w r.0 labels h r.1) (grown g s run w r.0 labels h r.1).1 r.2

pub reached_put_inside : ReachedPutInside
reached_put_inside g s steps w run r = puts_from g s steps (first_world g) w run (first_holds g s run) tt r

-- Rules apply.
doomed_core : (c : Control) (w : World) → IsDoomed c → IsCoreFed c w
doomed_core (Doomed t why) w d = tt
doomed_core Free w d = absurd d
doomed_core (Chosen k) w d = absurd d
doomed_core (Instantiates n) w d = absurd d
doomed_core Runs w d = absurd d
doomed_core (Calls number words) w d = absurd d
doomed_core Arrives w d = absurd d
doomed_core (Lowers l plan) w d = absurd d
doomed_core (Quiet n b) w d = absurd d
doomed_core Back w d = absurd d
doomed_core Goes w d = absurd d
doomed_core Resumes w d = absurd d
doomed_core (Delivers set receiver pick) w d = absurd d
doomed_core Leaves w d = absurd d

core_fed : (g : Graph) (w : World) → IsDoomed w.control ⊎ IsTypedWorld g w → IsCoreFed w.control (with_control Free w)
core_fed g w (inl doomed) = doomed_core w.control (with_control Free w) doomed
core_fed g w (inr typed) = typed_worlds_feed g w typed

pub none_is_stuck : NoneIsStuck
none_is_stuck g s run steps w r = places_go_on g s steps w run.apart run.typed run.used run.script r (λ done. core_fed g w (reached_are_typed g s steps w run r done))

comes_of : (turn : Turn) → HasNext turn → IsStep turn ⊎ IsEnd turn
comes_of (Steps labels v) h = inl (labels, v, refl)
comes_of (Ends end) h = inr (end, refl)
comes_of Stuck h = absurd h

not_both : (turn : Turn) → IsStep turn → IsEnd turn → ⊥
not_both turn step end = (let clash : Steps step.0 step.1 ≡ Ends end.0 = sym step.2 ∙ end.1 in cc)

pub exactly_one_next : ExactlyOneNext
exactly_one_next g s steps w run r = record { comes = comes_of (next g s w) (none_is_stuck g s run steps w r); not_both = not_both (next g s w) }
