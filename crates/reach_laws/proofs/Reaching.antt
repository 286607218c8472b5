-- What holds of each world that a run reaches, by one induction.
use Rattle.std.proofs.Common.{◌≡◌, ◌∙◌, ◌≤◌, ◌⊎◌, inl, inr, ℕ, Bool, true, false, List, [], ◌∷◌, refl, sym, ap, subst, arith, Some}
use Rattle.std.specs.List.{slice_get, AllByRecursion}
use Rattle.comp_graph.specs.Graph.{Graph}
use Rattle.script_reader.specs.Script.{Script}
use Rattle.trace_labels.specs.declared.label.Label.{Label}
use Rattle.lowering_laws.specs.StoreBytes.{HasBytesAlone}
use Rattle.abi_machine.specs.Control.{Control, Free, Chosen, Instantiates, Runs, Calls, Arrives, Lowers, Quiet, Back, Goes, Resumes, Delivers, Leaves, Doomed}
use Rattle.abi_machine.specs.World.{TaskState, New, Acting, AfterCall, AfterCancel, Begins, WaitsToEnter, InLoop, InBuiltin, Exited, Task, World, first_world}
use Rattle.abi_machine.specs.Reading.{acting, has_exited, is_instantiated}
use Rattle.abi_machine.specs.Turn.{Steps}
use Rattle.abi_machine.specs.Next.{next}
use Rattle.abi_machine.specs.Run.{Reaches}
use Rattle.abi_machine.specs.sound.Answers.{AreAnswers, IsAnswered, HasResultsAt}
use Rattle.abi_machine.specs.sound.Controls.{Says}
use Rattle.abi_machine.specs.sound.Copies.{IsCopied}
use Rattle.abi_machine.specs.sound.CopyPlaces.{CopiesStandInside}
use Rattle.abi_machine.specs.sound.Fitting.{CallsFit, CopiesFit}
use Rattle.abi_machine.specs.sound.GoingOn.{IsStanding}
use Rattle.abi_machine.specs.sound.GraphFuncs.{HaveCallees}
use Rattle.abi_machine.specs.sound.Initial.{IsInitial}
use Rattle.abi_machine.specs.sound.Starting.{IsDoomed}
use Rattle.abi_machine.specs.sound.TypedStacks.{IsOfStack, IsTyped}
use Rattle.abi_machine.specs.sound.TypedWorlds.{IsTypedWorld}
use Rattle.abi_machine.specs.sound.Words.{CodePasses, ScriptPassesSmall, WordsAreKept}
use Rattle.abi_machine.proofs.sound.Found.{some_same}
use Rattle.abi_machine.proofs.sound.Reached.{first_stands, standing_stays}
use Rattle.abi_machine.proofs.sound.Copied.{first_is_copied, copies_stay}
use Rattle.abi_machine.proofs.sound.Callees.{first_has_callees, callees_stay}
use Rattle.abi_machine.proofs.sound.Fitted.{first_fits, calls_stay_fit, copies_stay_fit}
use Rattle.abi_machine.proofs.sound.Started.{stays_started}
use Rattle.abi_machine.proofs.sound.answers.Answered.{answers_are_words}
use Rattle.abi_machine.proofs.sound.typed.Bare.{IsBare}
use Rattle.abi_machine.proofs.sound.typed.Starting.{Phase, phase_goes, first_phase, doomed_ends}
use Rattle.abi_machine.proofs.sound.words.Inside.{first_stand_inside, copies_stay_inside}
use Rattle.abi_machine.proofs.sound.words.Kept.{first_keeps_words, words_stay_kept}
use Rattle.abi_machine.proofs.sound.worlds.Staying.{typed_worlds_stay}
use Rattle.reach_laws.specs.Runnable.{IsRunnable}
use Rattle.reach_laws.proofs.Feeding.{typed_passes, start_passes, in_range, typed_results}
use Rattle.reach_laws.proofs.SmallValues.{passes_small}
use Rattle.reach_laws.proofs.Starting.{EarlyBare, Begun, step_begun, bare_typed}
use Rattle.reach_laws.proofs.growing.Stores.{Grown}
use Rattle.reach_laws.proofs.growing.Stepping.{typed_grows}

-- A world while not all is instantiated, and then.
pub record IsBegun (g : Graph) (w : World) : Type 0 where
  pub typed : IsTyped g w
  pub bytes : HasBytesAlone w.store
  pub core : IsOfStack w.control
  pub bare : IsBare w

pub record Holds (g : Graph) (s : Script) (w : World) : Type 0 where
  pub standing : IsStanding g s w
  pub copied : IsCopied w
  pub callees : HaveCallees g w.tasks
  pub calls : CallsFit g w.tasks
  pub copies : CopiesFit g w.streams w.futures
  pub words : WordsAreKept g w
  pub places : CopiesStandInside g w
  pub early : is_instantiated w.tasks ≡ false → IsDoomed w.control ⊎ IsBegun g w
  pub late : is_instantiated w.tasks ≡ true → IsDoomed w.control ⊎ IsTypedWorld g w

no_bytes : (g : Graph) → HasBytesAlone (first_world g).store
no_bytes g = tt

pub first_holds : (g : Graph) (s : Script) → IsRunnable g s → Holds g s (first_world g)
first_holds g s run = record {
  standing = first_stands g s run.apart;
  copied = first_is_copied g;
  callees = first_has_callees g;
  calls = (first_fits g).0;
  copies = (first_fits g).1;
  words = first_keeps_words g;
  places = first_stand_inside g;
  early = λ yet. begun (first_phase g run.typed);
  late = λ done. cc;
}
  where
    bare : (is_instantiated (first_world g).tasks ≡ true) ⊎ (IsOfStack (first_world g).control × IsBare (first_world g)) → IsBare (first_world g)
    bare (inl done) = cc
    bare (inr rest) = rest.1

    begun : Phase g (first_world g) → IsDoomed (first_world g).control ⊎ IsBegun g (first_world g)
    begun (inl doomed) = inl doomed
    begun (inr rest) = inr (record { typed = rest.0; bytes = no_bytes g; core = tt; bare = bare rest.1 })

-- where all is instantiated nothing is made
exited_first : (tasks : List Task) (task : Task) → slice_get tasks 0 ≡ Some task → is_instantiated tasks ≡ true → has_exited task.state ≡ true
exited_first [] task there h = cc
exited_first (x ∷ tasks) task there h = ap has_exited (ap (λ (y : Task). y.state) (sym (some_same there))) ∙ h

not_first : (state : TaskState) (chain : List ℕ) → has_exited state ≡ true → chain ≡ 0 ∷ [] → IsInitial state chain → ⊥
not_first Exited chain done e h = (let late : 1 ≤ 0 = (subst (λ (c : List ℕ). AllByRecursion (λ t. 1 ≤ t) c) e h).0 in omega (arith, late))
not_first New chain done e h = cc
not_first Acting chain done e h = cc
not_first (AfterCall callee number words) chain done e h = cc
not_first (AfterCancel callee number words) chain done e h = cc
not_first (Begins n) chain done e h = cc
not_first WaitsToEnter chain done e h = cc
not_first (InLoop word) chain done e h = cc
not_first (InBuiltin number words wait) chain done e h = cc

none_made : (g : Graph) (s : Script) (w : World) → IsStanding g s w → is_instantiated w.tasks ≡ true → (n : ℕ) → w.control ≡ Instantiates n → ⊥
none_made g s w h done n is =
    not_first h.alone.0.init.state w.chain (exited_first w.tasks h.alone.0.init h.alone.0.there done) (subst (λ (c : Control). Says c w.chain) is h.alone.1) h.alone.0.alone

doomed_passes : (g : Graph) (c : Control) → IsDoomed c → CodePasses g c
doomed_passes g (Doomed t why) d = tt
doomed_passes g Free d = absurd d
doomed_passes g (Chosen k) d = absurd d
doomed_passes g (Instantiates n) d = absurd d
doomed_passes g Runs d = absurd d
doomed_passes g (Calls number words) d = absurd d
doomed_passes g Arrives d = absurd d
doomed_passes g (Lowers l plan) d = absurd d
doomed_passes g (Quiet n b) d = absurd d
doomed_passes g Back d = absurd d
doomed_passes g Goes d = absurd d
doomed_passes g Resumes d = absurd d
doomed_passes g (Delivers set receiver pick) d = absurd d
doomed_passes g Leaves d = absurd d

doomed_results : (g : Graph) (c : Control) (w : World) → IsDoomed c → HasResultsAt g c w
doomed_results g (Doomed t why) w d = tt
doomed_results g Free w d = absurd d
doomed_results g (Chosen k) w d = absurd d
doomed_results g (Instantiates n) w d = absurd d
doomed_results g Runs w d = absurd d
doomed_results g (Calls number words) w d = absurd d
doomed_results g Arrives w d = absurd d
doomed_results g (Lowers l plan) w d = absurd d
doomed_results g (Quiet n b) w d = absurd d
doomed_results g Back w d = absurd d
doomed_results g Goes w d = absurd d
doomed_results g Resumes w d = absurd d
doomed_results g (Delivers set receiver pick) w d = absurd d
doomed_results g Leaves w d = absurd d

stack_results : (g : Graph) (c : Control) (w : World) → IsOfStack c → HasResultsAt g c w
stack_results g Runs w d = tt
stack_results g (Calls number words) w d = tt
stack_results g (Instantiates n) w d = tt
stack_results g (Doomed t why) w d = absurd d
stack_results g Free w d = absurd d
stack_results g (Chosen k) w d = absurd d
stack_results g Arrives w d = absurd d
stack_results g (Lowers l plan) w d = absurd d
stack_results g (Quiet n b) w d = absurd d
stack_results g Back w d = absurd d
stack_results g Goes w d = absurd d
stack_results g Resumes w d = absurd d
stack_results g (Delivers set receiver pick) w d = absurd d
stack_results g Leaves w d = absurd d

-- what core code passes, in each such world, and what is kept of results
pub holds_passes : (g : Graph) (s : Script) (w : World) → Holds g s w → CodePasses g w.control
holds_passes g s w h = by (is_instantiated w.tasks) refl
  where
    then_passes : IsDoomed w.control ⊎ IsTypedWorld g w → CodePasses g w.control
    then_passes (inl doomed) = doomed_passes g w.control doomed
    then_passes (inr typed) = typed_passes g w typed

    first_passes : IsDoomed w.control ⊎ IsBegun g w → CodePasses g w.control
    first_passes (inl doomed) = doomed_passes g w.control doomed
    first_passes (inr begun) = start_passes g w begun.typed

    by : (b : Bool) → is_instantiated w.tasks ≡ b → CodePasses g w.control
    by true done = then_passes (h.late done)
    by false yet = first_passes (h.early yet)

holds_results : (g : Graph) (s : Script) (w : World) → Holds g s w → HasResultsAt g w.control w
holds_results g s w h = by (is_instantiated w.tasks) refl
  where
    then_kept : IsDoomed w.control ⊎ IsTypedWorld g w → HasResultsAt g w.control w
    then_kept (inl doomed) = doomed_results g w.control w doomed
    then_kept (inr typed) = typed_results g w typed

    first_kept : IsDoomed w.control ⊎ IsBegun g w → HasResultsAt g w.control w
    first_kept (inl doomed) = doomed_results g w.control w doomed
    first_kept (inr begun) = stack_results g w.control w begun.core

    by : (b : Bool) → is_instantiated w.tasks ≡ b → HasResultsAt g w.control w
    by true done = then_kept (h.late done)
    by false yet = first_kept (h.early yet)

-- A step.
module _ (g : Graph) (s : Script) (run : IsRunnable g s) (w v : World) (labels : List Label) (h : Holds g s w) (e : next g s w ≡ Steps labels v) where
  pub holds_answers : AreAnswers (IsAnswered g w.control (acting w)) labels
  holds_answers =
      answers_are_words g s w v labels h.standing.alone h.standing.histories h.copied h.standing.called h.standing.subtasks h.calls h.standing.events (in_range g w h.words) (holds_results g s w h) e

  begun_step : IsBegun g w → is_instantiated w.tasks ≡ false → Begun w.store v
  begun_step b yet =
      step_begun g s run.typed run.bytes w v labels h.standing.alone h.standing.ordered yet h.copied h.places b.typed b.bytes b.bare e w.control refl b.core

  grown_late : (is_instantiated w.tasks ≡ true) → IsDoomed w.control ⊎ IsTypedWorld g w → Grown w.store v
  grown_late done (inl doomed) = absurd (doomed_ends g s w v labels doomed e)
  grown_late done (inr typed) = typed_grows g s w v labels h.standing.histories h.copied h.places (none_made g s w h.standing done) typed e

  grown_early : (is_instantiated w.tasks ≡ false) → IsDoomed w.control ⊎ IsBegun g w → Grown w.store v
  grown_early yet (inl doomed) = absurd (doomed_ends g s w v labels doomed e)
  grown_early yet (inr b) = (begun_step b yet).0

  pub grown : Grown w.store v
  grown = by (is_instantiated w.tasks) refl
    where
      by : (b : Bool) → is_instantiated w.tasks ≡ b → Grown w.store v
      by true done = grown_late done (h.late done)
      by false yet = grown_early yet (h.early yet)

  stands_then : IsStanding g s v
  stands_then = standing_stays g s w v labels run.apart h.standing e

  -- what was typed already
  still_typed : is_instantiated w.tasks ≡ true → IsDoomed w.control ⊎ IsTypedWorld g w → IsDoomed v.control ⊎ IsTypedWorld g v
  still_typed done (inl doomed) = absurd (doomed_ends g s w v labels doomed e)
  still_typed done (inr typed) =
      typed_worlds_stay g s w v labels run.used run.passes h.standing.alone done h.standing.ordered h.standing.histories h.copied h.standing.subtasks h.callees h.calls h.copies h.standing.waits typed e holds_answers grown.1

  -- what is typed now
  phase_of : is_instantiated w.tasks ≡ false → IsDoomed w.control ⊎ IsBegun g w → Phase g w
  phase_of yet (inl doomed) = inl doomed
  phase_of yet (inr b) = inr (b.typed, inr (b.core, b.bare))

  phase_then : is_instantiated w.tasks ≡ false → Phase g v
  phase_then yet = phase_goes g s w v labels run.typed h.standing.alone h.standing.ordered yet (phase_of yet (h.early yet)) e

  now_typed : is_instantiated v.tasks ≡ true → Phase g v → EarlyBare v → IsDoomed v.control ⊎ IsTypedWorld g v
  now_typed done (inl doomed) bare = inl doomed
  now_typed done (inr rest) (inl doomed) = inl doomed
  now_typed done (inr rest) (inr bare) = inr (bare_typed g v rest.0 grown.0.bytes bare.1 stands_then.numbered done bare.0)

  typed_now : is_instantiated w.tasks ≡ false → is_instantiated v.tasks ≡ true → IsDoomed w.control ⊎ IsBegun g w → IsDoomed v.control ⊎ IsTypedWorld g v
  typed_now yet done (inl doomed) = absurd (doomed_ends g s w v labels doomed e)
  typed_now yet done (inr b) = now_typed done (phase_then yet) (begun_step b yet).1

  late_then : is_instantiated v.tasks ≡ true → IsDoomed v.control ⊎ IsTypedWorld g v
  late_then now = by (is_instantiated w.tasks) refl
    where
      by : (b : Bool) → is_instantiated w.tasks ≡ b → IsDoomed v.control ⊎ IsTypedWorld g v
      by true done = still_typed done (h.late done)
      by false yet = typed_now yet now (h.early yet)

  -- what is begun still
  begun_so : is_instantiated v.tasks ≡ false → IsTyped g v → (is_instantiated v.tasks ≡ true) ⊎ (IsOfStack v.control × IsBare v) → IsBegun g v
  begun_so yet typed (inl done) = absurd (let clash : true ≡ false = sym done ∙ yet in let none : ⊥ = cc in none)
  begun_so yet typed (inr rest) = record { typed = typed; bytes = grown.0.bytes; core = rest.0; bare = rest.1 }

  begun_of : is_instantiated v.tasks ≡ false → Phase g v → IsDoomed v.control ⊎ IsBegun g v
  begun_of yet (inl doomed) = inl doomed
  begun_of yet (inr rest) = inr (begun_so yet rest.0 rest.1)

  early_then : is_instantiated v.tasks ≡ false → IsDoomed v.control ⊎ IsBegun g v
  early_then now = by (is_instantiated w.tasks) refl
    where
      by : (b : Bool) → is_instantiated w.tasks ≡ b → IsDoomed v.control ⊎ IsBegun g v
      by true done = absurd (let clash : true ≡ false = sym (stays_started g s w v labels h.standing.alone done e) ∙ now in let none : ⊥ = cc in none)
      by false yet = begun_of now (phase_then yet)

  pub holds_on : Holds g s v
  holds_on =
      let small : ScriptPassesSmall s = passes_small g s run.script run.passes in
      let passes : CodePasses g w.control = holds_passes g s w h in
      record {
        standing = stands_then;
        copied = copies_stay g s w v labels h.standing.alone h.copied e;
        callees = callees_stay g s w v labels h.standing.alone h.callees e;
        calls = calls_stay_fit g s w v labels run.script h.standing.alone h.calls e;
        copies = copies_stay_fit g s w v labels h.standing.alone h.copies e;
        words = words_stay_kept g s w v labels small passes h.words e;
        places = copies_stay_inside g s w v labels small passes h.words h.places e grown.0.extends;
        early = early_then;
        late = late_then;
      }

holds_from : (g : Graph) (s : Script) (steps : List (List Label)) (w v : World) → IsRunnable g s → Holds g s w → Reaches g s w steps v → Holds g s v
holds_from g s [] w v run h r = subst (Holds g s) (sym r) h
holds_from g s (labels ∷ steps) w v run h r = holds_from g s steps r.0 v run (holds_on g s run w r.0 labels h r.1) r.2

pub reached_holds : (g : Graph) (s : Script) (steps : List (List Label)) (w : World) → IsRunnable g s → Reaches g s (first_world g) steps w → Holds g s w
reached_holds g s steps w run r = holds_from g s steps (first_world g) w run (first_holds g s run) r
