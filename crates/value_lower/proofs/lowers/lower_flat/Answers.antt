-- As many core values come as stand for the type.
use Rattle.std.proofs.Common.{◌≡◌, [], List, ℕ, length, arith}
use Rattle.syntax_trees.specs.Flat.{flat}
use Rattle.value_lower.specs.Plan.{Gives}
use Rattle.value_lower.specs.Entering.{flat_lowered}
use Rattle.value_lower.specs.Tables.{tabled, entered, IsEntry}
use Rattle.value_lower.proofs.Giving.{given_ok, entered_gives}
use Rattle.value_lower.proofs.CountsOver.{words_all_give}
use Rattle.value_lower.proofs.lowers.lower_flat.Goals as goal

pub returns-clause-count : goal.returns-clause-count
returns-clause-count g c =
    let t = c.args.t.now.val_type in
    let v = c.args.value.now in
    let home = c.args.home.now.resources.now in
    given_ok (λ (ws : List ℕ). length ws ≡ length (flat t))
    (tabled g.R.Room.memory g.R.Room.answers g.R.Room.wrote (IsEntry g.E.Entry.made g.E.Entry.made_end c.args.home.now.task c.args.t.now.types))
    (flat_lowered (entered home) t v) (c.args.room.now, c.args.handles.now.slots) (c.lower_flat_by.new.room, c.lower_flat_by.new.beside.slots) c.lower_flat_by.result c.lower_flat_by.ensures
    (words_all_give (entered home) (λ (ws : List ℕ). length ws ≡ length (flat t)) (entered_gives (λ (ws : List ℕ). length ws ≡ length (flat t)) home) v t [] (λ ws. Gives ws) c.requires.fits
    (λ ws i. omega (arith, i)))
