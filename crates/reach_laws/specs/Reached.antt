-- What holds of each world that a run reaches (Core 2.0, the appendix on soundness; Component Model, CanonicalABI.md): it is typed, up to a trap, and so
-- is all that steps from it ask for.
use Rattle.std.specs.Prelude.{◌≡◌, ◌⊎◌, true, false, List}
use Rattle.comp_graph.specs.Graph.{Graph}
use Rattle.script_reader.specs.Script.{Script}
use Rattle.trace_labels.specs.declared.label.Label.{Label}
use Rattle.lowering_laws.specs.StoreBytes.{HasBytesAlone}
use Rattle.abi_machine.specs.World.{World, first_world}
use Rattle.abi_machine.specs.Reading.{acting, is_instantiated}
use Rattle.abi_machine.specs.Turn.{Steps}
use Rattle.abi_machine.specs.Next.{next}
use Rattle.abi_machine.specs.Run.{Reaches}
use Rattle.abi_machine.specs.sound.Answers.{AreAnswers, IsAnswered, IsInRange}
use Rattle.abi_machine.specs.sound.CopyPlaces.{CopiesStandInside, ExtendsEverywhere}
use Rattle.abi_machine.specs.sound.Starting.{IsDoomed}
use Rattle.abi_machine.specs.sound.TypedStacks.{IsTyped}
use Rattle.abi_machine.specs.sound.TypedWorlds.{IsTypedWorld, PutsInside}
use Rattle.abi_machine.specs.sound.Words.{PassesEverywhere, WordsAreKept}
use Rattle.reach_laws.specs.Runnable.{IsRunnable}

-- While not all is instantiated stacks are typed and memories hold bytes; then the whole world is typed.
abbrev pub StartsTyped : Type 0
StartsTyped =
    (g : Graph) (s : Script) (steps : List (List Label)) (w : World) → IsRunnable g s → Reaches g s (first_world g) steps w → is_instantiated w.tasks ≡ false
    → IsDoomed w.control ⊎ (IsTyped g w × HasBytesAlone w.store)

abbrev pub ReachedAreTyped : Type 0
ReachedAreTyped =
    (g : Graph) (s : Script) (steps : List (List Label)) (w : World) → IsRunnable g s → Reaches g s (first_world g) steps w → is_instantiated w.tasks ≡ true
    → IsDoomed w.control ⊎ IsTypedWorld g w

-- Core code calls canonical functions with words of their parameters, words that are kept are of their types, and representations and words of context
-- are i32. Each store extends the one before.
abbrev pub CodePassesWords : Type 0
CodePassesWords = (g : Graph) (s : Script) → IsRunnable g s → PassesEverywhere g s

abbrev pub ReachedKeepWords : Type 0
ReachedKeepWords =
    (g : Graph) (s : Script) (steps : List (List Label)) (w : World) → IsRunnable g s → Reaches g s (first_world g) steps w → WordsAreKept g w × IsInRange w

abbrev pub StoresExtend : Type 0
StoresExtend = (g : Graph) (s : Script) → IsRunnable g s → ExtendsEverywhere g s

-- The elements of copies under way stand inside memories; what is answered is words of what is waited at; and elements that go over are put inside.
abbrev pub ReachedStandInside : Type 0
ReachedStandInside =
    (g : Graph) (s : Script) (steps : List (List Label)) (w : World) → IsRunnable g s → Reaches g s (first_world g) steps w → CopiesStandInside g w

abbrev pub ReachedAnswerWords : Type 0
ReachedAnswerWords =
    (g : Graph) (s : Script) (steps : List (List Label)) (w v : World) (labels : List Label) → IsRunnable g s → Reaches g s (first_world g) steps w
    → next g s w ≡ Steps labels v → AreAnswers (IsAnswered g w.control (acting w)) labels

abbrev pub ReachedPutInside : Type 0
ReachedPutInside =
    (g : Graph) (s : Script) (steps : List (List Label)) (w : World) → IsRunnable g s → Reaches g s (first_world g) steps w → PutsInside w
