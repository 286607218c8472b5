-- Lifting over any ledger (Component Model, CanonicalABI.md, "Loading", "Flat Lifting"): what it answers of bytes and of core values, from
-- left to right. A value is counted when it is reached; an index is used where it stands. A fault stands at the first byte of the part
-- that stands for nothing, or, where the part stands in core values, at the number of its first one.
use Rattle.std.specs.Prelude.{ℕ, zero, suc, ◌+◌, ◌*◌, ◌^◌, ◌%◌, ◌==◌, nat_lt, slice_index, if◌then◌else◌, List, [], ◌∷◌, ◌++◌, map, length, Option, Some, None, Ok, Err}
use Rattle.std.specs.Option.{option_map}
use Rattle.std.specs.Int.{Width, w8, w32}
use mir.Val.{bits}
use Rattle.syntax_trees.specs.declared.core_type.CoreType.{CoreType}
use Rattle.syntax_trees.specs.declared.types.ValType.{ValType, fold-ValType, out-ValType}
use Rattle.syntax_trees.specs.declared.types.ValType.TheViews as types
use Rattle.syntax_trees.specs.declared.types.ValType.TheViews.{roll-ValType}
use Rattle.syntax_trees.specs.declared.types.Field.{Field}
use Rattle.syntax_trees.specs.declared.types.Case.{Case}
use Rattle.syntax_trees.specs.declared.types.ValType.TheOpen.{ValType-F, Field-F, Case-F}
use Rattle.syntax_trees.specs.declared.types.ValType.TheFolds.{map-ValType}
use Rattle.syntax_trees.specs.declared.value.Value.{Value}
use Rattle.syntax_trees.specs.declared.value.Value.TheViews as values
use Rattle.syntax_trees.specs.declared.value.Value.TheVariants as plain
use Rattle.laid_types.specs.Layout.{Laid, laid, laid_step, aligned, tag_size, bits_size, top_align, there}
use Rattle.syntax_trees.specs.Flat.{flat, flat_step}
use Rattle.value_lift.specs.declared.trap.LiftTrap.{LiftTrap}
use Rattle.value_lift.specs.declared.trap.LiftWhy.TheVariants.{Misaligned, Bounds, BadCase}
use Rattle.value_lift.specs.Bytes.{number, bytes_at, is_inside, is_aligned, width_of}
use Rattle.value_lift.specs.Leaves.{trap, part_in, plain_of, text_of, flags_of}
use Rattle.value_lift.specs.Ledger.{Ledger, What, AnOwn, ABorrow, AnEnd, Came, after, made, counting, uncounted}

-- what lifts the value at a place of a memory, with what is kept
abbrev pub Lift : Type 0 → Type 0 → Type 0
Lift S F = List ℕ → ℕ → S → Came S F Value

-- what lifts the value that begins at one of these core values, over a memory
abbrev pub LiftWords : Type 0 → Type 0 → Type 0
LiftWords S F = List ℕ → List ℕ → ℕ → S → Came S F Value

-- a type, as lifting needs it: the type itself, how its values lie, the core types that stand for one, and what lifts one
pub record Part (S F : Type 0) : Type 0 where
  pub tree : ValType
  pub laid : Laid
  pub flat : List CoreType
  pub lift : Lift S F
  pub lift_words : LiftWords S F

-- a case with the part that is its payload, where it has one,
pub record CasePart (S F : Type 0) : Type 0 where
  pub label : List ℕ
  pub payload : Option (Part S F)

-- and a field with its part
pub record FieldPart (S F : Type 0) : Type 0 where
  pub label : List ℕ
  pub part : Part S F

-- a handle and an end by the number that their index names
abbrev pub own_of : ℕ → ℕ → Value
own_of resource n = plain.Own (record { resource = resource; rep = n })

abbrev pub borrow_of : ℕ → ℕ → Value
borrow_of resource n = plain.Borrow (record { resource = resource; rep = n })

abbrev pub stream_of : ℕ → Value
stream_of n = plain.Stream n

abbrev pub future_of : ℕ → Value
future_of n = plain.Future n

module _ {S F : Type 0} where
  -- the type of a payload
  abbrev pub tree_of : Option (Part S F) → Option ValType
  tree_of part = option_map (λ (p : Part S F). p.tree) part

  -- where a payload stands behind the number of its case
  abbrev pub laid_of : Option (Part S F) → Option Laid
  laid_of part = option_map (λ (p : Part S F). p.laid) part

  abbrev pub behind_tag : ℕ → List (Option (Part S F)) → ℕ
  behind_tag count parts = aligned (tag_size count) (top_align (there (map laid_of parts)))

  abbrev pub flat_of : Option (Part S F) → List CoreType
  flat_of (Some p) = p.flat
  flat_of None = []

  abbrev pub part_case : Case-F (Part S F) (CasePart S F) (FieldPart S F) → CasePart S F
  part_case c = record { label = c.label; payload = c.payload }

  abbrev pub part_field : Field-F (Part S F) (CasePart S F) (FieldPart S F) → FieldPart S F
  part_field f = record { label = f.label; part = f.val_type }

  -- a type, where the types of its parts are known,
  abbrev pub tree_in : ValType-F (Part S F) (CasePart S F) (FieldPart S F) → ValType-F ValType Case Field
  tree_in type =
      map-ValType (Part S F) (CasePart S F) (FieldPart S F) ValType Case Field (λ (p : Part S F). p.tree)
      (λ (c : CasePart S F). record { label = c.label; payload = tree_of c.payload }) (λ (f : FieldPart S F). record { label = f.label; val_type = f.part.tree }) type

  -- and without its labels, which lifting doesn't need
  abbrev pub unlabelled : ValType-F (Part S F) (CasePart S F) (FieldPart S F) → ValType-F (Part S F) (Option (Part S F)) (Part S F)
  unlabelled type =
      map-ValType (Part S F) (CasePart S F) (FieldPart S F) (Part S F) (Option (Part S F)) (Part S F) (λ (p : Part S F). p)
      (λ (c : CasePart S F). c.payload) (λ (f : FieldPart S F). f.part) type

  -- how its values lie, and the core types that stand for one
  abbrev pub laid_in : ValType-F (Part S F) (Option (Part S F)) (Part S F) → ValType-F Laid (Option Laid) Laid
  laid_in type = map-ValType (Part S F) (Option (Part S F)) (Part S F) Laid (Option Laid) Laid (λ (p : Part S F). p.laid) laid_of (λ (p : Part S F). p.laid) type

  abbrev pub flat_in : ValType-F (Part S F) (Option (Part S F)) (Part S F) → ValType-F (List CoreType) (List CoreType) (List CoreType)
  flat_in type =
      map-ValType (Part S F) (Option (Part S F)) (Part S F) (List CoreType) (List CoreType) (List CoreType) (λ (p : Part S F). p.flat) flat_of (λ (p : Part S F). p.flat) type

-- The number of a width in one of some core values: its low bits, so that an i64 that stands for an i32 is wrapped.
abbrev pub low : Width → ℕ → List ℕ → ℕ
low w at words = slice_index words at % 2 ^ bits w

module _ {S F : Type 0} (l : Ledger S F) where
  -- Lifting stops for what stands at a place.
  abbrev pub fails : {A : Type 0} → LiftTrap → S → Came S F A
  fails fault kept = Err (l.stop fault kept)

  -- The text of so many bytes from a place of a memory on, where their place and number stand at another place. Its bytes are
  -- counted behind its bounds and before they are tested.
  abbrev pub string_of : ℕ → ℕ → Lift S F
  string_of at count memory place kept =
      if is_inside at count memory
      then counting (l.spend count place kept) (λ kept. uncounted l kept (text_of (bytes_at at count memory) place))
      else fails (trap Bounds place) kept

  -- so many elements behind others, one after the other from a place on
  abbrev pub elements_from : Part S F → List ℕ → List Value → ℕ → ℕ → S → Came S F (List Value)
  elements_from p memory before zero at kept = Ok (before, kept)
  elements_from p memory before (suc count) at kept =
      after (p.lift memory at kept) (λ v kept. elements_from p memory (before ++ v ∷ []) count (at + p.laid.size) kept)

  -- so many elements from a place of a memory on, where their place and number stand at another place
  abbrev pub elements_of : Part S F → ℕ → ℕ → List ℕ → ℕ → S → Came S F (List Value)
  elements_of p at count memory place kept =
      if is_aligned at p.laid.align
      then (if is_inside at (count * p.laid.size) memory then elements_from p memory [] count at kept else fails (trap Bounds place) kept)
      else fails (trap Misaligned place) kept

  -- A list of the elements of a type that has one part.
  abbrev pub list_of : List (Option (Part S F)) → ℕ → ℕ → List ℕ → ℕ → S → Came S F Value
  list_of (Some p ∷ parts) at count memory place kept = made values.List (elements_of p at count memory place kept)
  list_of (None ∷ parts) at count memory place kept = fails (trap BadCase place) kept
  list_of [] at count memory place kept = fails (trap BadCase place) kept

  -- a case that is told by its number, one of so many, with its payload
  abbrev pub chosen : ℕ → ℕ → ℕ → S → Came S F (Option Value) → Came S F Value
  chosen n count place kept payload = if nat_lt n count then made (values.Variant n) payload else fails (trap BadCase place) kept

  -- What the index at a place names, as a value.
  abbrev pub taken : What → (ℕ → Value) → ℕ → ℕ → S → Came S F Value
  taken what value index place kept = made value (l.take (record { what = what; index = index; place = place }) kept)

  abbrev pub own_taken : ℕ → ℕ → ℕ → S → Came S F Value
  own_taken resource = taken (AnOwn resource) (own_of resource)

  abbrev pub borrow_taken : ℕ → ℕ → ℕ → S → Came S F Value
  borrow_taken resource = taken (ABorrow resource) (borrow_of resource)

  abbrev pub stream_taken : Option ValType → ℕ → ℕ → S → Came S F Value
  stream_taken element = taken (AnEnd (types.Stream element)) stream_of

  abbrev pub future_taken : Option ValType → ℕ → ℕ → S → Came S F Value
  future_taken element = taken (AnEnd (types.Future element)) future_of

  -- From a memory. The parts of a record behind others, which end so far behind the record's place. A place where no part stands
  -- takes no room.
  abbrev pub fields_from : List ℕ → ℕ → List Value → ℕ → List (Option (Part S F)) → S → Came S F (List Value)
  fields_from memory place before end [] kept = Ok (before, kept)
  fields_from memory place before end (None ∷ parts) kept = fields_from memory place before end parts kept
  fields_from memory place before end (Some p ∷ parts) kept =
      after (p.lift memory (place + aligned end p.laid.align) kept)
      (λ v kept. fields_from memory place (before ++ v ∷ []) (aligned end p.laid.align + p.laid.size) parts kept)

  -- a payload, where there is one
  abbrev pub payload_of : Option (Part S F) → List ℕ → ℕ → S → Came S F (Option Value)
  payload_of (Some p) memory place kept = made (λ v. Some v) (p.lift memory place kept)
  payload_of None memory place kept = Ok (None, kept)

  -- one of so many cases, with one of these payloads, by its number, which stands at the place
  abbrev pub case_told : ℕ → ℕ → List (Option (Part S F)) → Lift S F
  case_told n count parts memory place kept =
      chosen n count place kept (payload_of (part_in parts n) memory (place + behind_tag count parts) kept)

  abbrev pub case_of : ℕ → List (Option (Part S F)) → Lift S F
  case_of count parts memory place kept = case_told (number (width_of (tag_size count)) place memory) count parts memory place kept

  -- A type whose parts are known, for a value that is counted already. A tuple is the record of its places; an enum, an option and
  -- a result are variants (CanonicalABI.md, "Despecialization").
  abbrev pub lift_case : ValType-F (Part S F) (Option (Part S F)) (Part S F) → Lift S F
  lift_case ValType-F.String memory place kept = string_of (number w32 place memory) (number w32 (place + 4) memory) memory place kept
  lift_case (ValType-F.List p) memory place kept = list_of (Some p ∷ []) (number w32 place memory) (number w32 (place + 4) memory) memory place kept
  lift_case (ValType-F.Record fields) memory place kept = made values.Record (fields_from memory place [] 0 (map (λ p. Some p) fields) kept)
  lift_case (ValType-F.Tuple parts) memory place kept = made values.Record (fields_from memory place [] 0 (map (λ p. Some p) parts) kept)
  lift_case (ValType-F.Variant cases) memory place kept = case_of (length cases) cases memory place kept
  lift_case (ValType-F.Enum labels) memory place kept = case_of (length labels) [] memory place kept
  lift_case (ValType-F.Option p) memory place kept = case_of 2 (None ∷ Some p ∷ []) memory place kept
  lift_case (ValType-F.Result ok err) memory place kept = case_of 2 (ok ∷ err ∷ []) memory place kept
  lift_case (ValType-F.Flags labels) memory place kept =
      Ok (flags_of labels (number (width_of (bits_size (length labels))) place memory), kept)
  lift_case (ValType-F.Own resource) memory place kept = own_taken resource (number w32 place memory) place kept
  lift_case (ValType-F.Borrow resource) memory place kept = borrow_taken resource (number w32 place memory) place kept
  lift_case (ValType-F.Stream element) memory place kept = stream_taken (tree_of element) (number w32 place memory) place kept
  lift_case (ValType-F.Future element) memory place kept = future_taken (tree_of element) (number w32 place memory) place kept
  lift_case other memory place kept = uncounted l kept (plain_of other w8 (λ w. number w place memory) place)

  -- From core values. The parts of a record behind others, one after the other.
  abbrev pub word_fields_from : List ℕ → List ℕ → List Value → ℕ → List (Option (Part S F)) → S → Came S F (List Value)
  word_fields_from memory words before at [] kept = Ok (before, kept)
  word_fields_from memory words before at (None ∷ parts) kept = word_fields_from memory words before at parts kept
  word_fields_from memory words before at (Some p ∷ parts) kept =
      after (p.lift_words memory words at kept) (λ v kept. word_fields_from memory words (before ++ v ∷ []) (at + length p.flat) parts kept)

  -- a payload, where there is one
  abbrev pub word_payload_of : Option (Part S F) → List ℕ → List ℕ → ℕ → S → Came S F (Option Value)
  word_payload_of (Some p) memory words at kept = made (λ v. Some v) (p.lift_words memory words at kept)
  word_payload_of None memory words at kept = Ok (None, kept)

  -- one of so many cases, with one of these payloads behind its number
  abbrev pub word_case_of : ℕ → List (Option (Part S F)) → LiftWords S F
  word_case_of count parts memory words at kept =
      chosen (low w32 at words) count at kept (word_payload_of (part_in parts (low w32 at words)) memory words (at + 1) kept)

  abbrev pub lift_word_case : ValType-F (Part S F) (Option (Part S F)) (Part S F) → LiftWords S F
  lift_word_case ValType-F.String memory words at kept = string_of (low w32 at words) (low w32 (at + 1) words) memory at kept
  lift_word_case (ValType-F.List p) memory words at kept = list_of (Some p ∷ []) (low w32 at words) (low w32 (at + 1) words) memory at kept
  lift_word_case (ValType-F.Record fields) memory words at kept = made values.Record (word_fields_from memory words [] at (map (λ p. Some p) fields) kept)
  lift_word_case (ValType-F.Tuple parts) memory words at kept = made values.Record (word_fields_from memory words [] at (map (λ p. Some p) parts) kept)
  lift_word_case (ValType-F.Variant cases) memory words at kept = word_case_of (length cases) cases memory words at kept
  lift_word_case (ValType-F.Enum labels) memory words at kept = word_case_of (length labels) [] memory words at kept
  lift_word_case (ValType-F.Option p) memory words at kept = word_case_of 2 (None ∷ Some p ∷ []) memory words at kept
  lift_word_case (ValType-F.Result ok err) memory words at kept = word_case_of 2 (ok ∷ err ∷ []) memory words at kept
  lift_word_case (ValType-F.Flags labels) memory words at kept = Ok (flags_of labels (low w32 at words), kept)
  lift_word_case (ValType-F.Own resource) memory words at kept = own_taken resource (low w32 at words) at kept
  lift_word_case (ValType-F.Borrow resource) memory words at kept = borrow_taken resource (low w32 at words) at kept
  lift_word_case (ValType-F.Stream element) memory words at kept = stream_taken (tree_of element) (low w32 at words) at kept
  lift_word_case (ValType-F.Future element) memory words at kept = future_taken (tree_of element) (low w32 at words) at kept
  lift_word_case other memory words at kept = uncounted l kept (plain_of other w32 (λ w. low w at words) at)

  -- A type, where its parts are known.
  abbrev pub part_step : ValType-F (Part S F) (CasePart S F) (FieldPart S F) → Part S F
  part_step type = record {
    tree = roll-ValType (tree_in type);
    laid = laid_step (laid_in (unlabelled type));
    flat = flat_step (flat_in (unlabelled type));
    lift = λ memory place kept. counting (l.spend 1 place kept) (λ kept. lift_case (unlabelled type) memory place kept);
    lift_words = λ memory words at kept. counting (l.spend 1 at kept) (λ kept. lift_word_case (unlabelled type) memory words at kept);
  }

  abbrev pub folded : ValType → Part S F
  folded = fold-ValType (Part S F) (CasePart S F) (FieldPart S F) part_step part_case part_field

  -- what lifts a type's values, from a memory and from core values
  abbrev pub lift : ValType → Lift S F
  lift type = (folded type).lift

  abbrev pub lift_words : ValType → LiftWords S F
  lift_words type = (folded type).lift_words

  -- a type as lifting needs it
  abbrev pub part : ValType → Part S F
  part type = record { tree = type; laid = laid type; flat = flat type; lift = lift type; lift_words = lift_words type }

  abbrev pub parts : List (Option ValType) → List (Option (Part S F))
  parts types = map (option_map part) types

  abbrev pub payload_part : Case → Option (Part S F)
  payload_part c = option_map part c.payload

  abbrev pub field_part : Field → Part S F
  field_part f = part f.val_type

  -- the outer layer of a type, with its parts
  abbrev pub layer_of : ValType → ValType-F (Part S F) (Option (Part S F)) (Part S F)
  layer_of type = map-ValType ValType Case Field (Part S F) (Option (Part S F)) (Part S F) part payload_part field_part (out-ValType type)

  -- The value at a place, which is a multiple of the type's alignment, with all its bytes inside.
  abbrev pub load_by : ValType → Lift S F
  load_by type memory place kept =
      if is_aligned place (laid type).align
      then (if is_inside place (laid type).size memory then lift type memory place kept else fails (trap Bounds place) kept)
      else fails (trap Misaligned place) kept

  -- So many values one after the other, each of which is counted. None stand anywhere.
  abbrev pub load_list_by : ValType → List ℕ → ℕ → ℕ → S → Came S F (List Value)
  load_list_by type memory place count kept = if count == 0 then Ok ([], kept) else elements_of (part type) place count memory place kept

  -- The value in core values.
  abbrev pub lift_flat_by : ValType → List ℕ → List ℕ → S → Came S F Value
  lift_flat_by type memory words kept = lift_words type memory words 0 kept
