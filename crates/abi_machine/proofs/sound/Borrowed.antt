-- Where a task resolves no borrow handle names it, and nothing is lent of a handle that leaves its table.
use Rattle.std.proofs.Common.{◌≡◌, ◌∙◌, List, [], ◌∷◌, ◌++◌, refl, ap, subst}
use Rattle.comp_graph.specs.Graph.{Graph}
use Rattle.script_reader.specs.Script.{Script}
use Rattle.abi_machine.specs.World.{World}
use Rattle.abi_machine.specs.sound.Changes.{Change, RemovesEntry, IsRemoved, Resolves, after, behind_all}
use Rattle.abi_machine.specs.sound.Premises.{Comes}
use Rattle.abi_machine.specs.sound.Borrows.{GivesBack, AllGiveBack, AllCome, BorrowsAreGivenBack}
use Rattle.abi_machine.proofs.sound.Alone.{kept_so}
use Rattle.abi_machine.proofs.sound.Changing.{behind_one}

gives_back : (g : Graph) (s : Script) (c : Change) (w : World) → Comes g s c w → GivesBack c w
gives_back g s (RemovesEntry i index) w may = (may.0, may.1, may.2.1)
gives_back g s (IsRemoved t) w may = may.2
gives_back g s (Resolves t resolution) w may = may.1
gives_back g s change w may = tt

give_one : (changes : List Change) (c : Change) (w : World) → AllGiveBack changes w → GivesBack c (behind_all changes w) → AllGiveBack (changes ++ c ∷ []) w
give_one [] c w all gives = (gives, tt)
give_one (d ∷ changes) c w all gives = (all.0, give_one changes c (after d w) all.1 gives)

come_one : (g : Graph) (s : Script) (changes : List Change) (c : Change) (w : World) → AllCome g s changes w → Comes g s c (behind_all changes w) → AllCome g s (changes ++ c ∷ []) w
come_one g s [] c w all comes = (comes, tt)
come_one g s (d ∷ changes) c w all comes = (all.0, come_one g s changes c (after d w) all.1 comes)

abbrev Came : Graph → Script → World → World → Type 0
Came g s w v = (changes : List Change) × AllCome g s changes w × AllGiveBack changes w × (v ≡ behind_all changes w)

one_more : (g : Graph) (s : Script) (w : World) (c : Change) (v : World) → Comes g s c v → Came g s w v → Came g s w (after c v)
one_more g s w c v comes k =
    let there : Comes g s c (behind_all k.0 w) = subst (Comes g s c) k.3 comes in (
      k.0 ++ c ∷ [],
      come_one g s k.0 c w k.1 there,
      give_one k.0 c w k.2 (gives_back g s c (behind_all k.0 w) there),
      ap (after c) k.3 ∙ behind_one k.0 c w,
    )

pub borrows_are_given_back : BorrowsAreGivenBack
borrows_are_given_back g s w v labels alone e = kept_so g s (Came g s w) (one_more g s w) w v labels alone ([], tt, tt, refl) e
