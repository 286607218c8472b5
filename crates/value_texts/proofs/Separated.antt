-- Texts of which some are written, and the others follow.
use Rattle.std.proofs.Common.{◌≡◌, ◌∙◌, refl, sym, ap, append_assoc, Bool, true, false, ◌++◌, List}
use Rattle.std.specs.Prelude.{codes}
use Rattle.std.specs.List.{flat_map}
use Rattle.syntax_trees.specs.TypeText.{Chars, listed}

-- texts behind others, each after a comma and a space
abbrev pub following : List Chars → Chars
following texts = flat_map (λ (t : Chars). codes ", " ++ t) texts

-- texts that begin a list or follow others
abbrev pub continued : Bool → List Chars → Chars
continued true texts = listed texts
continued false texts = following texts

-- Pieces that are written one after the other are the text that they make.
pub two_pieces : (to a b x y text : Chars) → x ≡ to ++ a → y ≡ x ++ b → text ≡ a ++ b → y ≡ to ++ text
two_pieces to a b x y text p q e =
    q ∙ ap (λ (w : Chars). w ++ b) p ∙ append_assoc to a b ∙ ap (λ (w : Chars). to ++ w) (sym e)

pub three_pieces : (to a b c x y z text : Chars) → x ≡ to ++ a → y ≡ x ++ b → z ≡ y ++ c → text ≡ (a ++ b) ++ c → z ≡ to ++ text
three_pieces to a b c x y z text p q r e = two_pieces to (a ++ b) c y z text (two_pieces to a b x y (a ++ b) p q refl) r e

pub five_pieces : (to a b c d f x y z u v text : Chars) → x ≡ to ++ a → y ≡ x ++ b → z ≡ y ++ c → u ≡ z ++ d → v ≡ u ++ f
    → text ≡ (((a ++ b) ++ c) ++ d) ++ f → v ≡ to ++ text
five_pieces to a b c d f x y z u v text p q r s t e =
    three_pieces to ((a ++ b) ++ c) d f z u v text (three_pieces to a b c x y z ((a ++ b) ++ c) p q r refl) s t e
