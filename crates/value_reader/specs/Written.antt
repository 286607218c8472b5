-- How values are written: which texts stand for a value of a type, and for the arguments of a call. Values are of the types
-- of the Component Model (Explainer.md, "Type Definitions"); the format is the program's own. Blanks, which are spaces and
-- tabs, may stand between the marks, the words, the labels, the numbers and the literals of a value. `specs/Values`
-- computes what these say; the laws in `specs/Laws` say that both are the same.
use Rattle.std.specs.Prelude.{◌≡◌, ◌≢◌, ◌≤◌, IsTrue, ℕ, ℤ, Bool, true, false, List, [], ◌∷◌, ◌++◌, map, codes, Option, Some, None}
use Rattle.std.specs.List.{AllByRecursion, slice_get}
use Rattle.std.specs.Char.{encode_utf8, IsScalar}
use Rattle.std.specs.Str.{IsUtf8}
use Rattle.syntax_trees.specs.declared.types.ValType.{ValType}
use Rattle.syntax_trees.specs.declared.types.Field.{Field}
use Rattle.syntax_trees.specs.declared.types.Case.{Case}
use Rattle.syntax_trees.specs.declared.types.ValType.TheViews as types
use Rattle.syntax_trees.specs.declared.types.ValType.TheVariants as leaves
use Rattle.syntax_trees.specs.declared.value.Value.{Value}
use Rattle.syntax_trees.specs.declared.value.Value.TheViews as values
use Rattle.syntax_trees.specs.declared.value.Value.TheVariants as plain
use Rattle.syntax_trees.specs.ValueText.{set_labels}
use Rattle.value_reader.specs.Tokens.{is_blank, ends_label}
use Rattle.value_reader.specs.Values.{place_of}
use Rattle.value_reader.specs.Syntax.{IsNumber, IsSigned, IsInRange, IsLiteral}

-- blanks, or nothing
abbrev pub AreBlanks : List ℕ → Type 0
AreBlanks text = AllByRecursion (λ b. IsTrue (is_blank b)) text

-- no blanks, brackets, commas, colons and quotes
abbrev pub IsLabel : List ℕ → Type 0
IsLabel text = AllByRecursion (λ b. ends_label b ≡ false) text

-- a label with blanks around it
abbrev pub IsSpacedLabel : List ℕ → List ℕ → Type 0
IsSpacedLabel label text =
    (before : List ℕ) × (behind : List ℕ) × (text ≡ before ++ label ++ behind) × AreBlanks before × IsLabel label × AreBlanks behind

-- labels, with a comma between two
abbrev pub AreLabels : List (List ℕ) → List ℕ → Type 0
AreLabels [] text = AreBlanks text
AreLabels (l ∷ []) text = IsSpacedLabel l text
AreLabels (l ∷ m ∷ labels) text =
    (first : List ℕ) × (others : List ℕ) × (text ≡ first ++ codes "," ++ others) × IsSpacedLabel l first × AreLabels (m ∷ labels) others

-- another label than the first of these
abbrev pub IsNotNext : List ℕ → List (List ℕ) → Type 0
IsNotNext label [] = Unit {0}
IsNotNext label (m ∷ labels) = label ≢ m

-- A flag for each label. Of equal labels the first is meant: one that is not set is not the next one that is.
abbrev pub AreFlags : List (List ℕ) → List Bool → Type 0
AreFlags [] [] = Unit {0}
AreFlags [] (f ∷ flags) = ⊥
AreFlags (l ∷ labels) [] = ⊥
AreFlags (l ∷ labels) (true ∷ flags) = AreFlags labels flags
AreFlags (l ∷ labels) (false ∷ flags) = IsNotNext l (set_labels labels flags) × AreFlags labels flags

-- a place in which a value stands: by itself, or behind a label
pub data Place : Type 0 where
  bare : ValType → Place
  named : List ℕ → ValType → Place

abbrev pub place_of_field : Field → Place
place_of_field f = named f.label f.val_type

-- the labels of cases
abbrev pub case_labels : List Case → List (List ℕ)
case_labels cases = map (λ (c : Case). c.label) cases

mutual
  -- A value of a type. A record is `{label: value, ..}`, a tuple `(value, ..)`, a list `[value, ..]`, flags are
  -- `{label, ..}`; brackets with nothing but blanks between them hold no element and no flag. A variant is the label of a
  -- case, an enum one of its labels; of equal labels the first is meant. An option is `none` or `some`, a result `ok` or
  -- `err`. Handles and the ends of streams and futures have no text.
  pub data IsText : ValType → Value → List ℕ → Type 0 where
    true_text : IsText leaves.Bool (plain.Bool true) (codes "true")
    false_text : IsText leaves.Bool (plain.Bool false) (codes "false")
    s8_text : (n : ℤ) (text : List ℕ) → IsSigned text n → IsInRange 0x7F n → IsText leaves.S8 (plain.S8 n) text
    u8_text : (n : ℕ) (text : List ℕ) → IsNumber 10 text n → n ≤ 0xFF → IsText leaves.U8 (plain.U8 n) text
    s16_text : (n : ℤ) (text : List ℕ) → IsSigned text n → IsInRange 0x7FFF n → IsText leaves.S16 (plain.S16 n) text
    u16_text : (n : ℕ) (text : List ℕ) → IsNumber 10 text n → n ≤ 0xFFFF → IsText leaves.U16 (plain.U16 n) text
    s32_text : (n : ℤ) (text : List ℕ) → IsSigned text n → IsInRange 0x7FFFFFFF n → IsText leaves.S32 (plain.S32 n) text
    u32_text : (n : ℕ) (text : List ℕ) → IsNumber 10 text n → n ≤ 0xFFFFFFFF → IsText leaves.U32 (plain.U32 n) text
    s64_text : (n : ℤ) (text : List ℕ) → IsSigned text n → IsInRange 0x7FFFFFFFFFFFFFFF n → IsText leaves.S64 (plain.S64 n) text
    u64_text : (n : ℕ) (text : List ℕ) → IsNumber 10 text n → n ≤ 0xFFFFFFFFFFFFFFFF → IsText leaves.U64 (plain.U64 n) text
    char_text : (c : ℕ) (text : List ℕ) → IsLiteral 39 text (encode_utf8 c) → IsScalar c → IsText leaves.Char (plain.Char c) text
    string_text : (s text : List ℕ) → IsLiteral 34 text s → IsUtf8 s → IsText leaves.String (plain.String s) text
    record_text : (fields : List Field) (all : List Value) (text : List ℕ) → AreTexts (map place_of_field fields) all text
        → IsText (types.Record fields) (values.Record all) (codes "{" ++ text ++ codes "}")
    tuple_text : (parts : List ValType) (all : List Value) (text : List ℕ) → AreTexts (map bare parts) all text
        → IsText (types.Tuple parts) (values.Record all) (codes "(" ++ text ++ codes ")")
    list_text : (element : ValType) (all : List Value) (text : List ℕ) → AreTexts (map (λ (v : Value). bare element) all) all text → (AreBlanks text → all ≡ [])
        → IsText (types.List element) (values.List all) (codes "[" ++ text ++ codes "]")
    flags_text : (labels : List (List ℕ)) (flags : List Bool) (text : List ℕ) → AreFlags labels flags
        → AreLabels (set_labels labels flags) text → (AreBlanks text → set_labels labels flags ≡ [])
        → IsText (leaves.Flags labels) (plain.Flags flags) (codes "{" ++ text ++ codes "}")
    enum_text : (labels : List (List ℕ)) (n : ℕ) (label : List ℕ) → IsLabel label → place_of label labels ≡ Some n
        → IsText (leaves.Enum labels) (values.Variant n None) label
    case_text : (cases : List Case) (n : ℕ) (c : Case) (payload : Option Value) (text : List ℕ) → IsLabel c.label → place_of c.label (case_labels cases) ≡ Some n
        → slice_get cases n ≡ Some c → IsPayload c.payload payload text
        → IsText (types.Variant cases) (values.Variant n payload) (c.label ++ text)
    none_text : (part : ValType) → IsText (types.Option part) (values.Variant 0 None) (codes "none")
    some_text : (part : ValType) (payload : Option Value) (text : List ℕ) → IsPayload (Some part) payload text
        → IsText (types.Option part) (values.Variant 1 payload) (codes "some" ++ text)
    ok_text : (ok err : Option ValType) (payload : Option Value) (text : List ℕ) → IsPayload ok payload text
        → IsText (types.Result ok err) (values.Variant 0 payload) (codes "ok" ++ text)
    err_text : (ok err : Option ValType) (payload : Option Value) (text : List ℕ) → IsPayload err payload text
        → IsText (types.Result ok err) (values.Variant 1 payload) (codes "err" ++ text)

  -- what stands behind the label of a case or a word: a value in parentheses exactly where there is a type for it
  pub data IsPayload : Option ValType → Option Value → List ℕ → Type 0 where
    no_payload : IsPayload None None []
    payload_text : (t : ValType) (v : Value) (blanks text : List ℕ) → AreBlanks blanks → IsSpacedText (bare t) v text
        → IsPayload (Some t) (Some v) (blanks ++ codes "(" ++ text ++ codes ")")

  -- a value in its place
  pub data IsPlacedText : Place → Value → List ℕ → Type 0 where
    bare_text : (t : ValType) (v : Value) (text : List ℕ) → IsText t v text → IsPlacedText (bare t) v text
    labelled_text : (label : List ℕ) (t : ValType) (v : Value) (before between text : List ℕ) → IsLabel label → AreBlanks before → AreBlanks between → IsText t v text
        → IsPlacedText (named label t) v (label ++ before ++ codes ":" ++ between ++ text)

  -- the same, with blanks around it
  pub data IsSpacedText : Place → Value → List ℕ → Type 0 where
    spaced_text : (p : Place) (v : Value) (before text after : List ℕ) → AreBlanks before → IsPlacedText p v text → AreBlanks after
        → IsSpacedText p v (before ++ text ++ after)

  -- a value for each place, with a comma between two
  pub data AreTexts : List Place → List Value → List ℕ → Type 0 where
    no_texts : (blanks : List ℕ) → AreBlanks blanks → AreTexts [] [] blanks
    one_text : (p : Place) (v : Value) (text : List ℕ) → IsSpacedText p v text → AreTexts (p ∷ []) (v ∷ []) text
    more_texts : (p q : Place) (places : List Place) (v w : Value) (all : List Value) (first others : List ℕ) → IsSpacedText p v first
        → AreTexts (q ∷ places) (w ∷ all) others → AreTexts (p ∷ q ∷ places) (v ∷ w ∷ all) (first ++ codes "," ++ others)

-- a value of a type that is the whole text, with blanks around it
abbrev pub IsWholeText : ValType → Value → List ℕ → Type 0
IsWholeText type v text = IsSpacedText (bare type) v text

-- the arguments of a call: a value for each type, in parentheses, and nothing behind them
abbrev pub AreArguments : List ValType → List Value → List ℕ → Type 0
AreArguments types all text =
    (blanks : List ℕ) × (inner : List ℕ) × (text ≡ blanks ++ codes "(" ++ inner ++ codes ")") × AreBlanks blanks × AreTexts (map bare types) all inner
