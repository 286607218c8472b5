-- Each step makes changes.
use Rattle.std.proofs.Common.{◌≡◌, ◌∙◌, List, [], ◌∷◌, ◌++◌, refl, ap, subst}
use Rattle.comp_graph.specs.Graph.{Graph}
use Rattle.script_reader.specs.Script.{Script}
use Rattle.abi_machine.specs.World.{World}
use Rattle.abi_machine.specs.sound.Changes.{Change, after, MayCome, behind_all, MayAllCome}
use Rattle.abi_machine.specs.sound.Stepping.{StepsAreChanges}
use Rattle.abi_machine.proofs.sound.Alone.{kept_alone}

pub behind_one : (changes : List Change) (c : Change) (w : World) → after c (behind_all changes w) ≡ behind_all (changes ++ c ∷ []) w
behind_one [] c w = refl
behind_one (d ∷ changes) c w = behind_one changes c (after d w)

pub may_one : (g : Graph) (s : Script) (changes : List Change) (c : Change) (w : World) → MayAllCome g s changes w → MayCome g s c (behind_all changes w) → MayAllCome g s (changes ++ c ∷ []) w
may_one g s [] c w all may = (may, tt)
may_one g s (d ∷ changes) c w all may = (all.0, may_one g s changes c (after d w) all.1 may)

abbrev Came : Graph → Script → World → World → Type 0
Came g s w v = (changes : List Change) × MayAllCome g s changes w × (v ≡ behind_all changes w)

one_more : (g : Graph) (s : Script) (w : World) (c : Change) (v : World) → MayCome g s c v → Came g s w v → Came g s w (after c v)
one_more g s w c v may k =
    (k.0 ++ c ∷ [], may_one g s k.0 c w k.1 (subst (MayCome g s c) k.2 may), ap (after c) k.2 ∙ behind_one k.0 c w)

pub steps_are_changes : StepsAreChanges
steps_are_changes g s w v labels alone e = kept_alone g s (Came g s w) (one_more g s w) w v labels alone ([], tt, refl) e
