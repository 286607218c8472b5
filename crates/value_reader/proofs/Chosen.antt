-- The case that a label chooses.
use Rattle.std.proofs.Common.{◌≡◌, ◌∙◌, ℕ, ◌+◌, List, [], ◌∷◌, map, length, cond, not, nat_lt, ap, refl, Option, Some, None}
use Rattle.std.specs.List.{slice_get, position, position_or_len}
use Rattle.std.specs.Str.{bytes_eq}
use Rattle.std.proofs.lemmas.List.{length-map}
use Rattle.std.specs.Option.{option_map, option_and_then}
use Rattle.syntax_trees.specs.declared.types.Case.{Case}
use Rattle.syntax_trees.specs.ValueText.{Labelled}
use Rattle.syntax_trees.proofs.Parts.{get_image}
use Rattle.value_reader.specs.Tokens.{label_of, behind_label}
use Rattle.value_reader.specs.Values.{Reader, variant_at, place_of, chosen_at, case_at, case_reader, payload_reader}
use Rattle.value_reader.proofs.ReaderEquations.{labels_of_cases}

-- a label's place among the labels of cases is its place among the cases
passing_by_label : (label : List ℕ) (cases : List Case)
    → position_or_len (λ (l : List ℕ). bytes_eq l label) (map (λ (c : Case). c.label) cases) ≡ position_or_len (λ (c : Case). bytes_eq c.label label) cases
passing_by_label label [] = refl
passing_by_label label (c ∷ cases) = ap (λ (n : ℕ). cond (not (bytes_eq c.label label)) (1 + n) 0) (passing_by_label label cases)

pub place_by_label : (label : List ℕ) (cases : List Case)
    → place_of label (map (λ (c : Case). c.label) cases) ≡ position (λ (c : Case). bytes_eq c.label label) cases
place_by_label label cases =
    ap (λ (n : ℕ). cond (nat_lt n (length (map (λ (c : Case). c.label) cases))) (Some n) None) (passing_by_label label cases)
    ∙ ap (λ (k : ℕ). cond (nat_lt (position_or_len (λ (c : Case). bytes_eq c.label label) cases) k) (Some (position_or_len (λ (c : Case). bytes_eq c.label label) cases)) None) (length-map cases (λ (c : Case). c.label))

-- a label that is a case's
pub reads_case : (cases : List Case) (text : List ℕ) (n : ℕ) (c : Case)
    → place_of (label_of text) (map (λ (c : Case). c.label) cases) ≡ Some n → slice_get cases n ≡ Some c
    → variant_at (map case_reader cases) text ≡ case_at n (payload_reader c.payload) (behind_label text)
reads_case cases text n c h i =
    let place : place_of (label_of text) (map (λ (c : Labelled (Option Reader)). c.label) (map case_reader cases)) ≡ Some n =
    ap (λ (ls : List (List ℕ)). place_of (label_of text) ls) (labels_of_cases cases) ∙ h in
    let case : slice_get (map case_reader cases) n ≡ Some (case_reader c) = get_image case_reader cases n ∙ ap (option_map case_reader) i in
    ap (λ (p : Option ℕ). option_and_then (λ n. chosen_at n (slice_get (map case_reader cases) n) (behind_label text)) p) place
    ∙ ap (λ (x : Option (Labelled (Option Reader))). chosen_at n x (behind_label text)) case

-- another label
pub reads_no_case : (cases : List Case) (text : List ℕ)
    → place_of (label_of text) (map (λ (c : Case). c.label) cases) ≡ None → variant_at (map case_reader cases) text ≡ None
reads_no_case cases text h =
    let place : place_of (label_of text) (map (λ (c : Labelled (Option Reader)). c.label) (map case_reader cases)) ≡ None =
    ap (λ (ls : List (List ℕ)). place_of (label_of text) ls) (labels_of_cases cases) ∙ h in
    ap (λ (p : Option ℕ). option_and_then (λ n. chosen_at n (slice_get (map case_reader cases) n) (behind_label text)) p) place

-- a label at whose number there is no case, which does not come
pub reads_lost_case : (cases : List Case) (text : List ℕ) (n : ℕ)
    → place_of (label_of text) (map (λ (c : Case). c.label) cases) ≡ Some n → slice_get cases n ≡ None → variant_at (map case_reader cases) text ≡ None
reads_lost_case cases text n h i =
    let place : place_of (label_of text) (map (λ (c : Labelled (Option Reader)). c.label) (map case_reader cases)) ≡ Some n =
    ap (λ (ls : List (List ℕ)). place_of (label_of text) ls) (labels_of_cases cases) ∙ h in
    let case : slice_get (map case_reader cases) n ≡ None = get_image case_reader cases n ∙ ap (option_map case_reader) i in
    ap (λ (p : Option ℕ). option_and_then (λ n. chosen_at n (slice_get (map case_reader cases) n) (behind_label text)) p) place
    ∙ ap (λ (x : Option (Labelled (Option Reader))). chosen_at n x (behind_label text)) case
