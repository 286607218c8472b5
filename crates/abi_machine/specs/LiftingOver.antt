-- Lifting with indices that are used (Component Model, CanonicalABI.md, "Loading", "Flat Lifting", `lift_own`, `lift_borrow`,
-- `lift_stream` and `lift_future`): what it answers of bytes and of core values, from left to right, over any ledger, which tells how much
-- may be counted still and what an index names. A value is counted when it is reached; an index is used where it stands.
--
-- `value_lift` says the same in its `Over`, for ledgers by which an end is wanted by its whole type. Here an end is wanted by its kind and
-- its elements, as tables tell it.
use Rattle.std.specs.Prelude.{ℕ, zero, suc, ◌+◌, ◌*◌, ◌==◌, nat_lt, if◌then◌else◌, List, [], ◌∷◌, ◌++◌, map, length, Option, Some, None, Result, Ok, Err}
use Rattle.std.specs.Option.{option_map}
use Rattle.std.specs.Int.{w8, w32}
use Rattle.builtin_kinds.specs.declared.EndKind.{EndKind}
use Rattle.builtin_kinds.specs.declared.EndKind.TheVariants as end_kind
use Rattle.syntax_trees.specs.declared.core_type.CoreType.{CoreType}
use Rattle.syntax_trees.specs.declared.types.ValType.{ValType, fold-ValType}
use Rattle.syntax_trees.specs.declared.types.ValType.TheOpen.{ValType-F, Field-F, Case-F}
use Rattle.syntax_trees.specs.declared.types.ValType.TheFolds.{map-ValType}
use Rattle.syntax_trees.specs.declared.types.ValType.TheVariants as types
use Rattle.syntax_trees.specs.declared.types.ValType.TheViews as views
use Rattle.syntax_trees.specs.declared.types.Field.{Field}
use Rattle.syntax_trees.specs.declared.types.Case.{Case}
use Rattle.syntax_trees.specs.declared.value.Value.{Value}
use Rattle.syntax_trees.specs.declared.value.Value.TheViews as values
use Rattle.syntax_trees.specs.declared.value.Value.TheVariants as plain
use Rattle.laid_types.specs.Layout.{Laid, laid_step, aligned, tag_size, bits_size, top_align, there}
use Rattle.syntax_trees.specs.Flat.{flat_step}
use Rattle.value_lift.specs.declared.trap.LiftTrap.{LiftTrap}
use Rattle.value_lift.specs.declared.trap.LiftWhy.TheVariants.{Misaligned, Bounds, BadCase}
use Rattle.value_lift.specs.Bytes.{number, bytes_at, is_inside, is_aligned, width_of}
use Rattle.value_lift.specs.Answers.{trap}
use Rattle.value_lift.specs.Pieces.{part_in, plain_of, text_of, flags_of}
use Rattle.value_lift.specs.Lifting.{low}

-- what an index is to name: a handle of a resource that is taken or lent, or the readable end of a stream or a future of a type
pub data What : Type 0 where
  AnOwn : ℕ → What
  ABorrow : ℕ → What
  AnEnd : EndKind → Option ValType → What

-- an index that is used, and where it stands
pub record Use : Type 0 where
  pub what : What
  pub index : ℕ
  pub place : ℕ

-- How so much is counted for what stands at a place, with what lifting stops for a fault, and which number an index names.
pub record Ledger (S F : Type 0) : Type 0 where
  pub spend : ℕ → ℕ → S → Result S F
  pub stop : LiftTrap → S → F
  pub take : Use → S → Result (ℕ × S) F

-- something that is lifted, with the ledger behind it, or with what lifting stopped
abbrev pub Came : Type 0 → Type 0 → Type 0 → Type 0
Came S F A = Result (A × S) F

-- what lifts the value at a place of a memory, with what is kept, and what lifts the one that begins at one of these core values
abbrev pub Lift : Type 0 → Type 0 → Type 0
Lift S F = List ℕ → ℕ → S → Came S F Value

abbrev pub LiftWords : Type 0 → Type 0 → Type 0
LiftWords S F = List ℕ → List ℕ → ℕ → S → Came S F Value

-- a type, as lifting needs it: itself, how its values lie, the core types that stand for one, and what lifts one
pub record Part (S F : Type 0) : Type 0 where
  pub type : ValType
  pub laid : Laid
  pub flat : List CoreType
  pub lift : Lift S F
  pub lift_words : LiftWords S F

-- a case, and a field
pub record CasePart (S F : Type 0) : Type 0 where
  pub label : List ℕ
  pub payload : Option (Part S F)

pub record FieldPart (S F : Type 0) : Type 0 where
  pub label : List ℕ
  pub part : Part S F

-- a type of its outer layer
abbrev pub type_of : ValType-F ValType Case Field → ValType
type_of ValType-F.Bool = types.Bool
type_of ValType-F.S8 = types.S8
type_of ValType-F.U8 = types.U8
type_of ValType-F.S16 = types.S16
type_of ValType-F.U16 = types.U16
type_of ValType-F.S32 = types.S32
type_of ValType-F.U32 = types.U32
type_of ValType-F.S64 = types.S64
type_of ValType-F.U64 = types.U64
type_of ValType-F.Char = types.Char
type_of ValType-F.String = types.String
type_of (ValType-F.Record fields) = views.Record fields
type_of (ValType-F.Variant cases) = views.Variant cases
type_of (ValType-F.List element) = views.List element
type_of (ValType-F.Tuple parts) = views.Tuple parts
type_of (ValType-F.Flags labels) = types.Flags labels
type_of (ValType-F.Enum labels) = types.Enum labels
type_of (ValType-F.Option payload) = views.Option payload
type_of (ValType-F.Result ok err) = views.Result ok err
type_of (ValType-F.Own resource) = types.Own resource
type_of (ValType-F.Borrow resource) = types.Borrow resource
type_of (ValType-F.Stream element) = views.Stream element
type_of (ValType-F.Future element) = views.Future element

module _ {S F : Type 0} where
  -- lifting goes on behind something
  abbrev pub after : {A B : Type 0} → Came S F A → (A → S → Came S F B) → Came S F B
  after (Ok x) f = f x.0 x.1
  after (Err fault) f = Err fault

  -- something made of what was lifted
  abbrev pub made : {A B : Type 0} → (A → B) → Came S F A → Came S F B
  made f (Ok x) = Ok (f x.0, x.1)
  made f (Err fault) = Err fault

  -- what is lifted once so much is counted
  abbrev pub counting : {A : Type 0} → Result S F → (S → Came S F A) → Came S F A
  counting (Ok kept) f = f kept
  counting (Err fault) f = Err fault

  -- The layers of a type whose parts are known: as types, as they lie, and as core types.
  abbrev pub typed_case : CasePart S F → Case
  typed_case c = record { label = c.label; payload = option_map (λ (p : Part S F). p.type) c.payload }

  abbrev pub typed_field : FieldPart S F → Field
  typed_field f = record { label = f.label; val_type = f.part.type }

  abbrev pub typed : ValType-F (Part S F) (CasePart S F) (FieldPart S F) → ValType
  typed type = type_of (map-ValType (Part S F) (CasePart S F) (FieldPart S F) ValType Case Field (λ (p : Part S F). p.type) typed_case typed_field type)

  abbrev pub laid_of : Option (Part S F) → Option Laid
  laid_of part = option_map (λ (p : Part S F). p.laid) part

  abbrev pub laid_by : ValType-F (Part S F) (CasePart S F) (FieldPart S F) → Laid
  laid_by type =
      laid_step (map-ValType (Part S F) (CasePart S F) (FieldPart S F) Laid (Option Laid) Laid (λ (p : Part S F). p.laid)
      (λ (c : CasePart S F). laid_of c.payload) (λ (f : FieldPart S F). f.part.laid) type)

  abbrev pub flat_of : Option (Part S F) → List CoreType
  flat_of None = []
  flat_of (Some p) = p.flat

  abbrev pub flat_by : ValType-F (Part S F) (CasePart S F) (FieldPart S F) → List CoreType
  flat_by type =
      flat_step (map-ValType (Part S F) (CasePart S F) (FieldPart S F) (List CoreType) (List CoreType) (List CoreType) (λ (p : Part S F). p.flat)
      (λ (c : CasePart S F). flat_of c.payload) (λ (f : FieldPart S F). f.part.flat) type)

  abbrev pub case_by : Case-F (Part S F) (CasePart S F) (FieldPart S F) → CasePart S F
  case_by c = record { label = c.label; payload = c.payload }

  abbrev pub field_by : Field-F (Part S F) (CasePart S F) (FieldPart S F) → FieldPart S F
  field_by f = record { label = f.label; part = f.val_type }

  -- where a payload stands behind the number of its case
  abbrev pub behind_tag : ℕ → List (Option (Part S F)) → ℕ
  behind_tag count parts = aligned (tag_size count) (top_align (there (map laid_of parts)))

  -- the parts of fields, of places and of cases
  abbrev pub in_fields : List (FieldPart S F) → List (Part S F)
  in_fields fields = map (λ (f : FieldPart S F). f.part) fields

  abbrev pub in_cases : List (CasePart S F) → List (Option (Part S F))
  in_cases cases = map (λ (c : CasePart S F). c.payload) cases

module _ {S F : Type 0} (l : Ledger S F) where
  -- Lifting stops for what stands at a place.
  abbrev pub fails : {A : Type 0} → LiftTrap → S → Came S F A
  fails fault kept = Err (l.stop fault kept)

  -- something for which nothing is counted
  abbrev pub uncounted : {A : Type 0} → S → Result A LiftTrap → Came S F A
  uncounted kept (Ok x) = Ok (x, kept)
  uncounted kept (Err fault) = fails fault kept

  -- an index that is used, as what it names
  abbrev pub taken : What → (ℕ → Value) → ℕ → ℕ → S → Came S F Value
  taken what make index place kept = made make (l.take (record { what = what; index = index; place = place }) kept)

  -- The text of so many bytes from a place of a memory on, where their place and number stand at another place. Its bytes are
  -- counted behind its bounds and before they are tested.
  abbrev pub string_of : ℕ → ℕ → Lift S F
  string_of at count memory place kept =
      if is_inside at count memory
      then counting (l.spend count place kept) (λ kept. uncounted kept (text_of (bytes_at at count memory) place))
      else fails (trap Bounds place) kept

  -- so many elements behind others, one after the other from a place on
  abbrev pub elements_from : Part S F → List ℕ → List Value → ℕ → ℕ → S → Came S F (List Value)
  elements_from p memory before zero at kept = Ok (before, kept)
  elements_from p memory before (suc count) at kept =
      after (p.lift memory at kept) (λ v kept. elements_from p memory (before ++ v ∷ []) count (at + p.laid.size) kept)

  -- so many elements from a place of a memory on, where their place and number stand at another place
  abbrev pub elements_of : Part S F → ℕ → ℕ → List ℕ → ℕ → S → Came S F (List Value)
  elements_of p at count memory place kept =
      if is_aligned at p.laid.align
      then (if is_inside at (count * p.laid.size) memory then elements_from p memory [] count at kept else fails (trap Bounds place) kept)
      else fails (trap Misaligned place) kept

  -- a case that is told by its number, one of so many, with its payload
  abbrev pub chosen : ℕ → ℕ → ℕ → S → Came S F (Option Value) → Came S F Value
  chosen n count place kept payload = if nat_lt n count then made (values.Variant n) payload else fails (trap BadCase place) kept

  -- From a memory. The parts of a record behind others, which end so far behind the record's place.
  abbrev pub fields_from : List ℕ → ℕ → List Value → ℕ → List (Part S F) → S → Came S F (List Value)
  fields_from memory place before end [] kept = Ok (before, kept)
  fields_from memory place before end (p ∷ parts) kept =
      after (p.lift memory (place + aligned end p.laid.align) kept)
      (λ v kept. fields_from memory place (before ++ v ∷ []) (aligned end p.laid.align + p.laid.size) parts kept)

  -- a payload, where there is one
  abbrev pub payload_of : Option (Part S F) → List ℕ → ℕ → S → Came S F (Option Value)
  payload_of None memory place kept = Ok (None, kept)
  payload_of (Some p) memory place kept = made (λ v. Some v) (p.lift memory place kept)

  -- one of so many cases, with one of these payloads, by its number, which stands at the place
  abbrev pub case_told : ℕ → ℕ → List (Option (Part S F)) → Lift S F
  case_told n count parts memory place kept =
      chosen n count place kept (payload_of (part_in parts n) memory (place + behind_tag count parts) kept)

  abbrev pub case_of : ℕ → List (Option (Part S F)) → Lift S F
  case_of count parts memory place kept = case_told (number (width_of (tag_size count)) place memory) count parts memory place kept

  -- A type whose parts are known, for a value that is counted already. A tuple is the record of its places; an enum, an option and
  -- a result are variants (CanonicalABI.md, "Despecialization").
  abbrev pub lift_case : ValType-F (Part S F) (CasePart S F) (FieldPart S F) → Lift S F
  lift_case ValType-F.String memory place kept = string_of (number w32 place memory) (number w32 (place + 4) memory) memory place kept
  lift_case (ValType-F.List p) memory place kept =
      made values.List (elements_of p (number w32 place memory) (number w32 (place + 4) memory) memory place kept)
  lift_case (ValType-F.Record fields) memory place kept = made values.Record (fields_from memory place [] 0 (in_fields fields) kept)
  lift_case (ValType-F.Tuple parts) memory place kept = made values.Record (fields_from memory place [] 0 parts kept)
  lift_case (ValType-F.Variant cases) memory place kept = case_of (length cases) (in_cases cases) memory place kept
  lift_case (ValType-F.Enum labels) memory place kept = case_of (length labels) [] memory place kept
  lift_case (ValType-F.Option p) memory place kept = case_of 2 (None ∷ Some p ∷ []) memory place kept
  lift_case (ValType-F.Result ok err) memory place kept = case_of 2 (ok ∷ err ∷ []) memory place kept
  lift_case (ValType-F.Flags labels) memory place kept =
      Ok (flags_of labels (number (width_of (bits_size (length labels))) place memory), kept)
  lift_case (ValType-F.Own resource) memory place kept =
      taken (AnOwn resource) (λ rep. plain.Own (record { resource = resource; rep = rep })) (number w32 place memory) place kept
  lift_case (ValType-F.Borrow resource) memory place kept =
      taken (ABorrow resource) (λ rep. plain.Borrow (record { resource = resource; rep = rep })) (number w32 place memory) place kept
  lift_case (ValType-F.Stream element) memory place kept =
      taken (AnEnd end_kind.Stream (option_map (λ (p : Part S F). p.type) element)) plain.Stream (number w32 place memory) place kept
  lift_case (ValType-F.Future element) memory place kept =
      taken (AnEnd end_kind.Future (option_map (λ (p : Part S F). p.type) element)) plain.Future (number w32 place memory) place kept
  lift_case other memory place kept = uncounted kept (plain_of other w8 (λ w. number w place memory) place)

  -- From core values. The parts of a record behind others, one after the other.
  abbrev pub word_fields_from : List ℕ → List ℕ → List Value → ℕ → List (Part S F) → S → Came S F (List Value)
  word_fields_from memory words before at [] kept = Ok (before, kept)
  word_fields_from memory words before at (p ∷ parts) kept =
      after (p.lift_words memory words at kept) (λ v kept. word_fields_from memory words (before ++ v ∷ []) (at + length p.flat) parts kept)

  -- a payload, where there is one
  abbrev pub word_payload_of : Option (Part S F) → List ℕ → List ℕ → ℕ → S → Came S F (Option Value)
  word_payload_of None memory words at kept = Ok (None, kept)
  word_payload_of (Some p) memory words at kept = made (λ v. Some v) (p.lift_words memory words at kept)

  -- one of so many cases, with one of these payloads behind its number
  abbrev pub word_case_of : ℕ → List (Option (Part S F)) → LiftWords S F
  word_case_of count parts memory words at kept =
      chosen (low w32 at words) count at kept (word_payload_of (part_in parts (low w32 at words)) memory words (at + 1) kept)

  abbrev pub lift_word_case : ValType-F (Part S F) (CasePart S F) (FieldPart S F) → LiftWords S F
  lift_word_case ValType-F.String memory words at kept = string_of (low w32 at words) (low w32 (at + 1) words) memory at kept
  lift_word_case (ValType-F.List p) memory words at kept =
      made values.List (elements_of p (low w32 at words) (low w32 (at + 1) words) memory at kept)
  lift_word_case (ValType-F.Record fields) memory words at kept = made values.Record (word_fields_from memory words [] at (in_fields fields) kept)
  lift_word_case (ValType-F.Tuple parts) memory words at kept = made values.Record (word_fields_from memory words [] at parts kept)
  lift_word_case (ValType-F.Variant cases) memory words at kept = word_case_of (length cases) (in_cases cases) memory words at kept
  lift_word_case (ValType-F.Enum labels) memory words at kept = word_case_of (length labels) [] memory words at kept
  lift_word_case (ValType-F.Option p) memory words at kept = word_case_of 2 (None ∷ Some p ∷ []) memory words at kept
  lift_word_case (ValType-F.Result ok err) memory words at kept = word_case_of 2 (ok ∷ err ∷ []) memory words at kept
  lift_word_case (ValType-F.Flags labels) memory words at kept = Ok (flags_of labels (low w32 at words), kept)
  lift_word_case (ValType-F.Own resource) memory words at kept =
      taken (AnOwn resource) (λ rep. plain.Own (record { resource = resource; rep = rep })) (low w32 at words) at kept
  lift_word_case (ValType-F.Borrow resource) memory words at kept =
      taken (ABorrow resource) (λ rep. plain.Borrow (record { resource = resource; rep = rep })) (low w32 at words) at kept
  lift_word_case (ValType-F.Stream element) memory words at kept =
      taken (AnEnd end_kind.Stream (option_map (λ (p : Part S F). p.type) element)) plain.Stream (low w32 at words) at kept
  lift_word_case (ValType-F.Future element) memory words at kept =
      taken (AnEnd end_kind.Future (option_map (λ (p : Part S F). p.type) element)) plain.Future (low w32 at words) at kept
  lift_word_case other memory words at kept = uncounted kept (plain_of other w32 (λ w. low w at words) at)

  -- A type, where its parts are known.
  abbrev pub part_step : ValType-F (Part S F) (CasePart S F) (FieldPart S F) → Part S F
  part_step type = record {
    type = typed type;
    laid = laid_by type;
    flat = flat_by type;
    lift = λ memory place kept. counting (l.spend 1 place kept) (λ kept. lift_case type memory place kept);
    lift_words = λ memory words at kept. counting (l.spend 1 at kept) (λ kept. lift_word_case type memory words at kept);
  }

  abbrev pub part : ValType → Part S F
  part = fold-ValType (Part S F) (CasePart S F) (FieldPart S F) part_step case_by field_by

  -- The value at a place, which is a multiple of the type's alignment, with all its bytes inside.
  abbrev pub load_by : ValType → Lift S F
  load_by type memory place kept =
      (let p = part type in
      if is_aligned place p.laid.align
      then (if is_inside place p.laid.size memory then p.lift memory place kept else fails (trap Bounds place) kept)
      else fails (trap Misaligned place) kept)

  -- So many values one after the other. None stand anywhere.
  abbrev pub load_list_by : ValType → List ℕ → ℕ → ℕ → S → Came S F (List Value)
  load_list_by type memory place count kept = if count == 0 then Ok ([], kept) else elements_of (part type) place count memory place kept

  -- The value in core values.
  abbrev pub lift_flat_by : ValType → List ℕ → List ℕ → S → Came S F Value
  lift_flat_by type memory words kept = (part type).lift_words memory words 0 kept
