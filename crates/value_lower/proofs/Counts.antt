-- As many core values are given as stand for the type, where handles and ends are told by their numbers.
use Rattle.std.proofs.Common.{◌≡◌, ◌+◌, ℕ, true, List, length}
use Rattle.syntax_trees.specs.declared.types.ValType.{ValType}
use Rattle.syntax_trees.specs.declared.value.Value.{Value}
use Rattle.syntax_trees.specs.Fits.{fits}
use Rattle.syntax_trees.specs.Flat.{flat}
use Rattle.value_lower.specs.Plan.{New, number_of, Plan}
use Rattle.value_lower.specs.Lowering.{plainly, flat_words}
use Rattle.value_lower.proofs.Giving.{AllGive}
use Rattle.value_lower.proofs.CountsOver as over

module _ (Q : List ℕ → Type 0) where
  pub plain_gives : (entry : New) (k : ℕ → Plan) → ((index : ℕ) → AllGive Q (k index)) → AllGive Q (plainly entry k)
  plain_gives entry k h = h (number_of entry)

  pub good : (v : Value) → over.Good plainly Q plain_gives v
  good v = over.good plainly Q plain_gives v

  pub words_all_give : (v : Value) (t : ValType) (before : List ℕ) (k : List ℕ → Plan) → fits v t ≡ true
      → ((ws : List ℕ) → length ws ≡ length before + length (flat t) → AllGive Q (k ws)) → AllGive Q (flat_words t v before k)
  words_all_give v = over.words_all_give plainly Q plain_gives v
