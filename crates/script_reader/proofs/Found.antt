-- The export of a name, by the place of the name.
use Rattle.std.proofs.Common.{◌≡◌, ℕ, List, map, length, Bor, Option, Some, None, IfSome, refl, sym, ap, ◌∙◌}
use Rattle.std.specs.List.{slice_get}
use Rattle.std.specs.Option.{option_map, option_and_then}
use Rattle.std.specs.Slice.{IsItemAt}
use Rattle.std.proofs.lemmas.Bool.{ltb-true, ltb-false}
use Rattle.std.proofs.lemmas.Option.{slice_get_past, slice_get_read}
use Rattle.syntax_trees.specs.Names.{first_named}
use Rattle.syntax_trees.proofs.FirstNamed.{found_by_name}
use Rattle.syntax_trees.specs.declared.exports.Export.{Export}
use Rattle.script_reader.specs.Script.{export_named}
use Rattle.script_reader.proofs.Called.{named}

-- what a slice gives at a place
item_at : (exports : List Export) (place : ℕ) (r : Option (Bor Export)) → IsItemAt exports place r → option_map (λ e. e.now) r ≡ slice_get exports place
item_at exports place None h = sym (slice_get_past exports place (ltb-false place (length exports) (sym h.0)))
item_at exports place (Some e) h = sym (slice_get_read exports (length exports) place e.now refl (ltb-true place (length exports) (sym h.0)) h.1)

pub none_found : (exports : List Export) (name : List ℕ) → first_named name (map (λ e. e.name) exports) ≡ None → export_named exports name ≡ None
none_found exports name h =
    sym (found_by_name (λ (e : Export). e.name) exports name) ∙ ap (λ (o : Option ℕ). option_and_then (λ k. slice_get exports k) o) h

pub one_found : (exports : List Export) (name : List ℕ) (place : ℕ) (r : Option (Bor Export)) → first_named name (map (λ e. e.name) exports) ≡ Some place → IsItemAt exports place r → option_map (λ e. e.now) r ≡ export_named exports name
one_found exports name place r h i =
    item_at exports place r i
    ∙ (ap (λ (o : Option ℕ). option_and_then (λ k. slice_get exports k) o) (sym h)
    ∙ found_by_name (λ (e : Export). e.name) exports name)

pub found_named : (exports : List Export) (name : List ℕ) (place : ℕ) (r : Option (Bor Export)) → first_named name (map (λ e. e.name) exports) ≡ Some place → IsItemAt exports place r → IfSome r (λ e. e.now.name ≡ name)
found_named exports name place None h i = tt
found_named exports name place (Some e) h i = named exports name e.now (sym (one_found exports name place (Some e) h i))
