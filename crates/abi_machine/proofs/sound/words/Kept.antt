-- Words that are kept stay so, and so it is in each world that a run reaches.
use Rattle.std.proofs.Common.{◌≡◌, List, [], ◌∷◌, refl, sym, subst, arith, Some, None}
use Rattle.wasm_store.specs.Store.{Store}
use Rattle.wasm_store.proofs.Lists.{all_at}
use Rattle.comp_graph.specs.Graph.{Graph}
use Rattle.script_reader.specs.Script.{Script}
use Rattle.trace_labels.specs.declared.label.Label.{Label}
use Rattle.abi_machine.specs.Control.{Free}
use Rattle.abi_machine.specs.World.{Task, World, first_world}
use Rattle.abi_machine.specs.Edits.{with_control}
use Rattle.abi_machine.specs.Turn.{Steps}
use Rattle.abi_machine.specs.Run.{Reaches}
use Rattle.abi_machine.specs.sound.Answers.{IsInRange}
use Rattle.abi_machine.specs.sound.Words.{CodePasses, ScriptPassesSmall, KeepsWords, WordsAreKept, FirstKeepsWords, WordsStayKept, ReachedKeepWords}
use Rattle.abi_machine.proofs.sound.words.Keeping.{Ground, Keeps}
use Rattle.abi_machine.proofs.sound.words.Answering.{each_keeps}

pub first_keeps_words : FirstKeepsWords
first_keeps_words g = (
  record {
    keep = (record { waits = tt; passed = tt; first = omega arith; second = omega arith }, tt);
    reps = λ i index entry there. (let clash : None ≡ Some entry = there in cc);
  },
  tt,
)

-- Of copies nothing is asked.
any_place : (g : Graph) → Store → Ground g
any_place g s = record {
  Placed = λ o x. Unit {0};
  same = λ o x y canon place long h. tt;
  store = s;
  offers = λ t number what side element options words is given tested. tt;
}

pub words_stay_kept : WordsStayKept
unfolding any_place
words_stay_kept g s w v labels small passed h e =
    let k : Keeps (any_place g w.store) (Steps labels v) =
    subst (Keeps (any_place g w.store)) e (each_keeps (any_place g w.store) s (with_control Free w) w.control refl small passed h.1 (h.0, λ d c copy there under. tt)) in (k.0.0, k.1)

-- What is so of each world that is reached from one on.
reached_from : (g : Graph) (s : Script) (steps : List (List Label)) (w v : World) → ScriptPassesSmall s → ((more : List (List Label)) (u : World) → Reaches g s w more u → CodePasses g u.control) → WordsAreKept g w → Reaches g s w steps v
    → WordsAreKept g v
reached_from g s [] w v small passes h r = subst (WordsAreKept g) (sym r) h
reached_from g s (labels ∷ steps) w v small passes h r =
    reached_from g s steps r.0 v small (λ more u k. passes (labels ∷ more) u (r.0, r.1, k)) (words_stay_kept g s w r.0 labels small (passes [] w refl) h r.1) r.2

in_range : (g : Graph) (w : World) → WordsAreKept g w → IsInRange w
in_range g w h = record {
  reps = h.0.reps;
  contexts = λ t task there.
      (let k : KeepsWords g task.state task.caller task.context = all_at (λ (x : Task). KeepsWords g x.state x.caller x.context) w.tasks t task h.0.keep there in (k.first, k.second));
}

pub reached_keep_words : ReachedKeepWords
reached_keep_words g s steps w small passes r =
    let h : WordsAreKept g w = reached_from g s steps (first_world g) w small passes (first_keeps_words g) r in (h, in_range g w h)
