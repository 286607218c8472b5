-- What is written for values with parts is a text of them.
use Rattle.std.proofs.Common.{◌≡◌, ℕ, List, [], ◌∷◌, ◌++◌, map, codes, true, ◌&&◌, Option, Some, None, refl, sym, ap, ◌∙◌, subst, append_assoc, append-nil}
use Rattle.std.specs.List.{AllByRecursion, flat_map}
use Rattle.std.specs.Option.{option_map}
use Rattle.std.proofs.lemmas.Bool.{and_parts}
use Rattle.syntax_trees.specs.declared.types.ValType.{ValType}
use Rattle.syntax_trees.specs.declared.types.Field.{Field}
use Rattle.syntax_trees.specs.declared.value.Value.{Value}
use Rattle.syntax_trees.specs.TypeText.{listed}
use Rattle.syntax_trees.specs.Fits.{test_of, payload_test, each_passes, all_pass, payload_passes}
use Rattle.syntax_trees.specs.ValueText.{writer, payload_writer, field_writer, by_each, by_label, rest_text}
use Rattle.value_reader.specs.Writable.{all_true, true_if_some, is_label, is_writable, is_sound}
use Rattle.value_reader.specs.Written.{Place, bare, place_of_field, IsText, IsPayload, IsPlacedText, IsSpacedText, AreTexts, bare_text, labelled_text, spaced_text, no_texts, one_text, more_texts, no_payload, payload_text as payload_is}
use Rattle.value_reader.proofs.PlainLabels.{name_stands}
use Rattle.value_reader.proofs.WritingLabels.{label_is_label}

-- What is written for a value of a type is a text of it.
abbrev pub Writes : ValType → Type 0
Writes t = (v : Value) → test_of t v ≡ true → is_sound v ≡ true → is_writable t ≡ true → IsText t v (writer t v)

-- the same of payloads
abbrev pub WritesRest : Option ValType → Type 0
WritesRest t =
    (p : Option Value) → payload_passes (payload_test t) p ≡ true → true_if_some (option_map is_sound p) ≡ true → true_if_some (option_map is_writable t) ≡ true
    → IsPayload t p (rest_text (payload_writer t) p)

-- Values with a comma and a space between two.
abbrev pub Each : List Place → List Value → List (List ℕ) → Type 0
Each [] [] [] = Unit {0}
Each [] [] (text ∷ texts) = ⊥
Each [] (v ∷ all) texts = ⊥
Each (p ∷ places) [] texts = ⊥
Each (p ∷ places) (v ∷ all) [] = ⊥
Each (p ∷ places) (v ∷ all) (text ∷ texts) = IsPlacedText p v text × Each places all texts

spaced_blank : {p : Place} {v : Value} {text : List ℕ} → IsSpacedText p v text → IsSpacedText p v (32 ∷ text)
spaced_blank (spaced_text p v before text behind a i b) = spaced_text p v (32 ∷ before) text behind (refl, a) i b

blank_texts : {places : List Place} {all : List Value} {text : List ℕ} → AreTexts places all text → AreTexts places all (32 ∷ text)
blank_texts (no_texts blanks a) = no_texts (32 ∷ blanks) (refl, a)
blank_texts (one_text p v text i) = one_text p v (32 ∷ text) (spaced_blank i)
blank_texts (more_texts p q places v w all first others i j) = more_texts p q places v w all (32 ∷ first) others (spaced_blank i) j

comma_parts : (t u others : List ℕ) → (t ++ []) ++ (44 ∷ []) ++ (32 ∷ (u ++ others)) ≡ t ++ ((44 ∷ 32 ∷ u) ++ others)
comma_parts t u others = simp (append_assoc, append-nil)

pub listed_texts : (places : List Place) (all : List Value) (texts : List (List ℕ)) → Each places all texts → AreTexts places all (listed texts)
listed_texts [] [] [] e = no_texts [] tt
listed_texts [] [] (t ∷ texts) e = absurd e
listed_texts [] (v ∷ all) texts e = absurd e
listed_texts (p ∷ places) [] texts e = absurd e
listed_texts (p ∷ places) (v ∷ all) [] e = absurd e
listed_texts (p ∷ []) (v ∷ []) (t ∷ []) e = one_text p v (t ++ []) (spaced_text p v [] t [] tt e.0 tt)
listed_texts (p ∷ []) (v ∷ []) (t ∷ u ∷ texts) e = absurd e.1
listed_texts (p ∷ []) (v ∷ w ∷ all) (t ∷ texts) e = absurd e.1
listed_texts (p ∷ q ∷ places) (v ∷ []) (t ∷ texts) e = absurd e.1
listed_texts (p ∷ q ∷ places) (v ∷ w ∷ all) (t ∷ []) e = absurd e.1
listed_texts (p ∷ q ∷ places) (v ∷ w ∷ all) (t ∷ u ∷ texts) e =
    let others = blank_texts (listed_texts (q ∷ places) (w ∷ all) (u ∷ texts) e.1) in
    subst (λ (l : List ℕ). AreTexts (p ∷ q ∷ places) (v ∷ w ∷ all) l) (comma_parts t u (flat_map (λ (y : List ℕ). codes ", " ++ y) texts))
    (more_texts p q places v w all (t ++ []) (32 ∷ listed (u ∷ texts)) (spaced_text p v [] t [] tt e.0 tt) others)

-- The fields of a record, the places of a tuple, the elements of a list.
field_parts : (label text : List ℕ) → (label ++ []) ++ codes ":" ++ (32 ∷ []) ++ text ≡ label ++ codes ": " ++ text
field_parts label text = simp (append_assoc, append-nil)

pub fields_written : (fields : List Field) (all : List Value) → AllByRecursion (λ (f : Field). Writes f.val_type) fields
    → each_passes (map (λ (f : Field). test_of f.val_type) fields) all ≡ true → all_true (map is_sound all) ≡ true
    → all_true (map (λ (f : Field). is_label f.label && is_writable f.val_type) fields) ≡ true
    → Each (map place_of_field fields) all (by_label all (map field_writer fields))
fields_written [] [] a h s w = tt
fields_written [] (v ∷ all) a h s w = cc
fields_written (f ∷ fields) [] a h s w = cc
fields_written (f ∷ fields) (v ∷ all) a h s w =
    let passes = and_parts (test_of f.val_type v) (each_passes (map (λ (f : Field). test_of f.val_type) fields) all) h in
    let sound = and_parts (is_sound v) (all_true (map is_sound all)) s in
    let good = and_parts (is_label f.label && is_writable f.val_type) (all_true (map (λ (f : Field). is_label f.label && is_writable f.val_type) fields)) w in
    let one = and_parts (is_label f.label) (is_writable f.val_type) good.0 in
    let text = writer f.val_type v in (
      subst (λ (l : List ℕ). IsPlacedText (place_of_field f) v l)
          (field_parts f.label text ∙ ap (λ (l : List ℕ). l ++ codes ": " ++ text) (sym (name_stands f.label one.0)))
          (labelled_text f.label f.val_type v [] (32 ∷ []) text (label_is_label f.label one.0) tt (refl, tt) (a.0 v passes.0 sound.0 one.1)),
      fields_written fields all a.1 passes.1 sound.1 good.1,
    )

pub parts_written : (parts : List ValType) (all : List Value) → AllByRecursion Writes parts → each_passes (map test_of parts) all ≡ true → all_true (map is_sound all) ≡ true
    → all_true (map is_writable parts) ≡ true → Each (map bare parts) all (by_each all (map writer parts))
parts_written [] [] a h s w = tt
parts_written [] (v ∷ all) a h s w = cc
parts_written (t ∷ parts) [] a h s w = cc
parts_written (t ∷ parts) (v ∷ all) a h s w =
    let passes = and_parts (test_of t v) (each_passes (map test_of parts) all) h in
    let sound = and_parts (is_sound v) (all_true (map is_sound all)) s in
    let good = and_parts (is_writable t) (all_true (map is_writable parts)) w in
    (bare_text t v (writer t v) (a.0 v passes.0 sound.0 good.0), parts_written parts all a.1 passes.1 sound.1 good.1)

pub elements_written : (t : ValType) (all : List Value) → Writes t → all_pass (test_of t) all ≡ true → all_true (map is_sound all) ≡ true → is_writable t ≡ true
    → Each (map (λ (v : Value). bare t) all) all (map (writer t) all)
elements_written t [] a h s w = tt
elements_written t (v ∷ all) a h s w =
    let passes = and_parts (test_of t v) (all_pass (test_of t) all) h in
    let sound = and_parts (is_sound v) (all_true (map is_sound all)) s in
    (bare_text t v (writer t v) (a v passes.0 sound.0 w), elements_written t all a passes.1 sound.1 w)

-- A payload.
pub payload_written : (t : ValType) → Writes t → WritesRest (Some t)
payload_written t a None h s w = cc
payload_written t a (Some v) h s w =
    subst (λ (l : List ℕ). IsPayload (Some t) (Some v) (40 ∷ (l ++ 41 ∷ []))) (append-nil (writer t v))
    (payload_is t v [] (writer t v ++ []) tt (spaced_text (bare t) v [] (writer t v) [] tt (bare_text t v (writer t v) (a v h s w)) tt))

pub nothing_written : WritesRest None
nothing_written None h s w = no_payload
nothing_written (Some v) h s w = cc
