-- What lifting in a world brings, by the type.
use Rattle.std.proofs.Common.{◌≡◌, ◌+◌, ◌*◌, ℕ, zero, suc, Bool, true, false, if◌then◌else◌, List, [], ◌∷◌, ◌++◌, map, length, refl, sym, subst, Option, Some, None, Result, Ok, Err}
use Rattle.std.specs.Prelude.{◌==◌, nat_lt}
use Rattle.std.specs.List.{AllByRecursion}
use Rattle.std.specs.Int.{Width, w8, w32}
use Rattle.builtin_kinds.specs.declared.EndKind.TheVariants as end_kind
use Rattle.syntax_trees.specs.declared.types.ValType.{ValType, roll-ValType}
use Rattle.syntax_trees.specs.declared.types.FuncType.{FuncType}
use Rattle.syntax_trees.specs.declared.types.Case.{Case}
use Rattle.syntax_trees.specs.declared.types.Field.{Field}
use Rattle.syntax_trees.specs.declared.types.ValType.TheOpen as F
use Rattle.syntax_trees.specs.declared.types.ValType.TheViews.{roll-Case, roll-Field}
use Rattle.syntax_trees.specs.declared.types.ValType.TheFolds.{ind-ValType, map-ValType, map-Case, map-Field, fold-Case, fold-Field, fold-roll-ValType}
use Rattle.syntax_trees.proofs.Folds.{held, fold_case, fold_field}
use Rattle.syntax_trees.specs.declared.value.Value.{Value}
use Rattle.syntax_trees.specs.declared.value.Value.TheViews as values
use Rattle.syntax_trees.specs.declared.value.Value.TheVariants as plain
use Rattle.laid_types.specs.Layout.{tag_size, aligned}
use Rattle.value_lift.specs.declared.counting.LiftOf.TheVariants as whole
use Rattle.value_lift.specs.declared.trap.LiftTrap.{LiftTrap}
use Rattle.value_lift.specs.declared.trap.LiftWhy.TheVariants.{Bounds}
use Rattle.value_lift.specs.Answers.{counted, trap}
use Rattle.value_lift.specs.Bytes.{number, is_inside, is_aligned, bytes_at, width_of}
use Rattle.value_lift.specs.Pieces.{part_in, plain_of, text_of, flags_of}
use Rattle.value_lift.specs.Lifting.{most, low}
use Rattle.comp_graph.specs.declared.graph.Options.{Options}
use Rattle.comp_graph.specs.Passed.{params_type}
use Rattle.trace_labels.specs.declared.typed.TypedValue.{TypedValue}
use Rattle.abi_machine.specs.LiftingOver.{Use, Ledger, Part, CasePart, FieldPart, What, AnOwn, ABorrow, AnEnd, in_fields, in_cases, behind_tag, case_by, field_by}
use Rattle.abi_machine.specs.LiftingOver as over
use Rattle.abi_machine.specs.Control.{EndRef}
use Rattle.abi_machine.specs.World.{World}
use Rattle.abi_machine.specs.Canons.{memory_of, bytes_of}
use Rattle.abi_machine.specs.Lifting.{Kept, Stopped, Came, spent_so, by_world, nothing_lifted}
use Rattle.abi_machine.specs.Passing.{passed_limit, params_pass, result_passes, arguments_lifted, result_lifted, elements_lifted}
use Rattle.abi_machine.specs.Returning.{typed_result, result_passed}
use Rattle.abi_machine.specs.sound.EndsPassed.{ends_in, ends_of}
use Rattle.abi_machine.proofs.sound.ends.Values.{HoldsNone, HasNoIndex, text_none, flags_none, plain_none, ends_held, list_ends, record_ends, variant_ends, own_ends, borrow_ends, stream_ends, future_ends, more_ends}
use Rattle.abi_machine.proofs.sound.ends.Brought.{Brings, BringsSo, ends_named, nothing_brought, then_brought, taken_brings}

-- the ends in what a result is
abbrev pub ends_returned : Option TypedValue → List EndRef
ends_returned None = []
ends_returned (Some v) = ends_in v.value

-- of an instance, for the call of a task
module _ (i callee : ℕ) where
  abbrev ledger : Ledger Kept Stopped
  ledger = by_world i callee

  after_brings : {A B : Type 0} (c : Came A) (f : A → Kept → Came B) (w u : World) (ends : A → List EndRef) (more : B → List EndRef) → BringsSo u ends c
      → ((x : A) (k : Kept) → Brings u (ends x) k.world → BringsSo w more (f x k)) → BringsSo w more (over.after c f)
  after_brings (Ok x) f w u ends more h next = next x.0 x.1 h
  after_brings (Err stop) f w u ends more h next = tt

  made_brings : {A B : Type 0} (f : A → B) (c : Came A) (w : World) (ends : A → List EndRef) (more : B → List EndRef) → ((x : A) → more (f x) ≡ ends x) → BringsSo w ends c → BringsSo w more (over.made f c)
  made_brings f (Ok x) w ends more same h = subst (λ (all : List EndRef). Brings w all x.1.world) (sym (same x.0)) h
  made_brings f (Err stop) w ends more same h = tt

  counting_brings : {A : Type 0} (r : Result ℕ LiftTrap) (k : Kept) (f : Kept → Came A) (w : World) (ends : A → List EndRef) → ((left : ℕ) → BringsSo w ends (f (record k { left = left })))
      → BringsSo w ends (over.counting (spent_so r k) f)
  counting_brings (Ok left) k f w ends h = h left
  counting_brings (Err fault) k f w ends h = tt

  uncounted_brings : (k : Kept) (r : Result Value LiftTrap) → HoldsNone r → BringsSo k.world ends_in (over.uncounted ledger k r)
  uncounted_brings k (Ok v) none = subst (λ (all : List EndRef). Brings k.world all k.world) (sym none) (nothing_brought k.world)
  uncounted_brings k (Err fault) none = tt

  either_brings : {A : Type 0} (b : Bool) (c d : Came A) (w : World) (ends : A → List EndRef) → BringsSo w ends c → BringsSo w ends d → BringsSo w ends (if b then c else d)
  either_brings true c d w ends h g = h
  either_brings false c d w ends h g = g

  -- what lifts a part
  abbrev Lifts : Part Kept Stopped → Type 0
  Lifts p = ((memory : List ℕ) (place : ℕ) (k : Kept) → BringsSo k.world ends_in (p.lift memory place k)) × ((memory words : List ℕ) (at : ℕ) (k : Kept) → BringsSo k.world ends_in (p.lift_words memory words at k))

  abbrev LiftsAny : Option (Part Kept Stopped) → Type 0
  LiftsAny None = Unit {0}
  LiftsAny (Some p) = Lifts p

  part_lifts : (parts : List (Option (Part Kept Stopped))) (n : ℕ) → AllByRecursion LiftsAny parts → LiftsAny (part_in parts n)
  part_lifts [] n h = tt
  part_lifts (p ∷ parts) zero h = h.0
  part_lifts (p ∷ parts) (suc n) h = part_lifts parts n h.1

  string_brings : (at count : ℕ) (memory : List ℕ) (place : ℕ) (k : Kept) → BringsSo k.world ends_in (over.string_of ledger at count memory place k)
  string_brings at count memory place k =
      let text : Result Value LiftTrap = text_of (bytes_at at count memory) place in
      let fault : LiftTrap = trap Bounds place in
      either_brings (is_inside at count memory) (over.counting (spent_so (counted count place k.left) k) (λ kept. over.uncounted ledger kept text)) (over.fails ledger fault k) k.world ends_in
      (counting_brings (counted count place k.left) k (λ kept. over.uncounted ledger kept text) k.world ends_in (λ left. uncounted_brings (record k { left = left }) text (text_none (bytes_at at count memory) place))) tt

  -- one more behind others
  one_more : (w : World) (before : List Value) (v : Value) (k u : Kept) → Brings w (ends_of before) k.world → Brings k.world (ends_in v) u.world → Brings w (ends_of (before ++ v ∷ [])) u.world
  one_more w before v k u h g = subst (λ (all : List EndRef). Brings w all u.world) (sym (more_ends before v)) (then_brought w k.world u.world (ends_of before) (ends_in v) h g)

  elements_bring : (e : Part Kept Stopped) (memory : List ℕ) (before : List Value) (count at : ℕ) (w : World) (k : Kept) → Lifts e → Brings w (ends_of before) k.world
      → BringsSo w ends_of (over.elements_from ledger e memory before count at k)
  elements_bring e memory before zero at w k lifts h = h
  elements_bring e memory before (suc count) at w k lifts h =
      after_brings (e.lift memory at k) (λ v kept. over.elements_from ledger e memory (before ++ v ∷ []) count (at + e.laid.size) kept) w k.world ends_in ends_of (lifts.0 memory at k)
      (λ v u g. elements_bring e memory (before ++ v ∷ []) count (at + e.laid.size) w u lifts (one_more w before v k u h g))

  list_brings : (e : Part Kept Stopped) (at count : ℕ) (memory : List ℕ) (place : ℕ) (k : Kept) → Lifts e → BringsSo k.world ends_of (over.elements_of ledger e at count memory place k)
  list_brings e at count memory place k lifts =
      let outside : LiftTrap = trap Bounds place in
      either_brings (is_aligned at e.laid.align) (if is_inside at (count * e.laid.size) memory then over.elements_from ledger e memory [] count at k else over.fails ledger outside k) _ k.world ends_of
      (either_brings (is_inside at (count * e.laid.size) memory) (over.elements_from ledger e memory [] count at k) (over.fails ledger outside k) k.world ends_of
      (elements_bring e memory [] count at k.world k lifts (nothing_brought k.world)) tt) tt

  chosen_brings : (n count place : ℕ) (k : Kept) (payload : Came (Option Value)) → BringsSo k.world ends_held payload → BringsSo k.world ends_in (over.chosen ledger n count place k payload)
  chosen_brings n count place k payload h = either_brings (nat_lt n count) (over.made (values.Variant n) payload) _ k.world ends_in (made_brings (values.Variant n) payload k.world ends_held ends_in (variant_ends n) h) tt

  fields_bring : (memory : List ℕ) (place : ℕ) (before : List Value) (end : ℕ) (parts : List (Part Kept Stopped)) (w : World) (k : Kept) → AllByRecursion Lifts parts → Brings w (ends_of before) k.world
      → BringsSo w ends_of (over.fields_from ledger memory place before end parts k)
  fields_bring memory place before end [] w k lifts h = h
  fields_bring memory place before end (e ∷ parts) w k lifts h =
      after_brings (e.lift memory (place + aligned end e.laid.align) k) (λ v kept. over.fields_from ledger memory place (before ++ v ∷ []) (aligned end e.laid.align + e.laid.size) parts kept) w k.world ends_in ends_of
      (lifts.0.0 memory (place + aligned end e.laid.align) k)
      (λ v u g. fields_bring memory place (before ++ v ∷ []) (aligned end e.laid.align + e.laid.size) parts w u lifts.1 (one_more w before v k u h g))

  payload_brings : (e : Option (Part Kept Stopped)) (memory : List ℕ) (place : ℕ) (k : Kept) → LiftsAny e → BringsSo k.world ends_held (over.payload_of ledger e memory place k)
  payload_brings None memory place k lifts = nothing_brought k.world
  payload_brings (Some e) memory place k lifts = made_brings (λ v. Some v) (e.lift memory place k) k.world ends_in ends_held (λ v. refl) (lifts.0 memory place k)

  case_brings : (count : ℕ) (parts : List (Option (Part Kept Stopped))) (memory : List ℕ) (place : ℕ) (k : Kept) → AllByRecursion LiftsAny parts → BringsSo k.world ends_in (over.case_of ledger count parts memory place k)
  case_brings count parts memory place k lifts =
      let n = number (width_of (tag_size count)) place memory in
      chosen_brings n count place k (over.payload_of ledger (part_in parts n) memory (place + behind_tag count parts) k)
      (payload_brings (part_in parts n) memory (place + behind_tag count parts) k (part_lifts parts n lifts))

  word_fields_bring : (memory words : List ℕ) (before : List Value) (at : ℕ) (parts : List (Part Kept Stopped)) (w : World) (k : Kept) → AllByRecursion Lifts parts → Brings w (ends_of before) k.world
      → BringsSo w ends_of (over.word_fields_from ledger memory words before at parts k)
  word_fields_bring memory words before at [] w k lifts h = h
  word_fields_bring memory words before at (e ∷ parts) w k lifts h =
      after_brings (e.lift_words memory words at k) (λ v kept. over.word_fields_from ledger memory words (before ++ v ∷ []) (at + length e.flat) parts kept) w k.world ends_in ends_of (lifts.0.1 memory words at k)
      (λ v u g. word_fields_bring memory words (before ++ v ∷ []) (at + length e.flat) parts w u lifts.1 (one_more w before v k u h g))

  word_payload_brings : (e : Option (Part Kept Stopped)) (memory words : List ℕ) (at : ℕ) (k : Kept) → LiftsAny e → BringsSo k.world ends_held (over.word_payload_of ledger e memory words at k)
  word_payload_brings None memory words at k lifts = nothing_brought k.world
  word_payload_brings (Some e) memory words at k lifts = made_brings (λ v. Some v) (e.lift_words memory words at k) k.world ends_in ends_held (λ v. refl) (lifts.1 memory words at k)

  word_case_brings : (count : ℕ) (parts : List (Option (Part Kept Stopped))) (memory words : List ℕ) (at : ℕ) (k : Kept) → AllByRecursion LiftsAny parts → BringsSo k.world ends_in (over.word_case_of ledger count parts memory words at k)
  word_case_brings count parts memory words at k lifts =
      chosen_brings (low w32 at words) count at k (over.word_payload_of ledger (part_in parts (low w32 at words)) memory words (at + 1) k)
      (word_payload_brings (part_in parts (low w32 at words)) memory words (at + 1) k (part_lifts parts (low w32 at words) lifts))

  -- an index that is used
  used_brings : (what : What) (make : ℕ → Value) (index place : ℕ) (k : Kept) → ((n : ℕ) → ends_in (make n) ≡ ends_named what n) → BringsSo k.world ends_in (over.taken ledger what make index place k)
  used_brings what make index place k same = made_brings make (ledger.take (record { what = what; index = index; place = place }) k) k.world (ends_named what) ends_in same (taken_brings i callee what index k)

  -- Types by their outer layer.

  abbrev Layer : Type 0
  Layer = F.ValType-F (Part Kept Stopped) (CasePart Kept Stopped) (FieldPart Kept Stopped)

  abbrev Holds : Layer → Type 0
  Holds (F.List e) = Lifts e
  Holds (F.Record fields) = AllByRecursion Lifts (in_fields fields)
  Holds (F.Tuple parts) = AllByRecursion Lifts parts
  Holds (F.Variant cases) = AllByRecursion LiftsAny (in_cases cases)
  Holds (F.Option e) = Lifts e
  Holds (F.Result ok err) = LiftsAny ok × LiftsAny err
  Holds other = Unit {0}

  all_made : (make : List Value → Value) (c : Came (List Value)) (k : Kept) → ((all : List Value) → ends_in (make all) ≡ ends_of all) → BringsSo k.world ends_of c → BringsSo k.world ends_in (over.made make c)
  all_made make c k same h = made_brings make c k.world ends_of ends_in same h

  plain_brings : (y : Layer) (w : Width) (n : Width → ℕ) (place : ℕ) (k : Kept) → HasNoIndex y → BringsSo k.world ends_in (over.uncounted ledger k (plain_of y w n place))
  plain_brings y w n place k is = uncounted_brings k (plain_of y w n place) (plain_none y w n place is)

  flags_bring : (labels : List (List ℕ)) (bits : ℕ) (k : Kept) → Brings k.world (ends_in (flags_of labels bits)) k.world
  flags_bring labels bits k = subst (λ (all : List EndRef). Brings k.world all k.world) (sym (flags_none labels bits)) (nothing_brought k.world)

  layer_brings : (y : Layer) → Holds y → (memory : List ℕ) (place : ℕ) (k : Kept) → BringsSo k.world ends_in (over.lift_case ledger y memory place k)
  layer_brings F.String h memory place k = string_brings (number w32 place memory) (number w32 (place + 4) memory) memory place k
  layer_brings (F.List e) h memory place k =
      all_made values.List (over.elements_of ledger e (number w32 place memory) (number w32 (place + 4) memory) memory place k) k list_ends (list_brings e (number w32 place memory) (number w32 (place + 4) memory) memory place k h)
  layer_brings (F.Record fields) h memory place k =
      all_made values.Record (over.fields_from ledger memory place [] 0 (in_fields fields) k) k record_ends (fields_bring memory place [] 0 (in_fields fields) k.world k h (nothing_brought k.world))
  layer_brings (F.Tuple parts) h memory place k =
      all_made values.Record (over.fields_from ledger memory place [] 0 parts k) k record_ends (fields_bring memory place [] 0 parts k.world k h (nothing_brought k.world))
  layer_brings (F.Variant cases) h memory place k = case_brings (length cases) (in_cases cases) memory place k h
  layer_brings (F.Enum labels) h memory place k = case_brings (length labels) [] memory place k tt
  layer_brings (F.Option e) h memory place k = case_brings 2 (None ∷ Some e ∷ []) memory place k (tt, (h, tt))
  layer_brings (F.Result ok err) h memory place k = case_brings 2 (ok ∷ err ∷ []) memory place k (h.0, (h.1, tt))
  layer_brings (F.Flags labels) h memory place k = flags_bring labels _ k
  layer_brings (F.Own resource) h memory place k = used_brings (AnOwn resource) (λ rep. plain.Own (record { resource = resource; rep = rep })) (number w32 place memory) place k (λ n. own_ends _)
  layer_brings (F.Borrow resource) h memory place k = used_brings (ABorrow resource) (λ rep. plain.Borrow (record { resource = resource; rep = rep })) (number w32 place memory) place k (λ n. borrow_ends _)
  layer_brings (F.Stream element) h memory place k = used_brings (AnEnd end_kind.Stream _) plain.Stream (number w32 place memory) place k (λ n. stream_ends n)
  layer_brings (F.Future element) h memory place k = used_brings (AnEnd end_kind.Future _) plain.Future (number w32 place memory) place k (λ n. future_ends n)
  layer_brings F.Bool h memory place k = plain_brings F.Bool w8 (λ w. number w place memory) place k tt
  layer_brings F.S8 h memory place k = plain_brings F.S8 w8 (λ w. number w place memory) place k tt
  layer_brings F.U8 h memory place k = plain_brings F.U8 w8 (λ w. number w place memory) place k tt
  layer_brings F.S16 h memory place k = plain_brings F.S16 w8 (λ w. number w place memory) place k tt
  layer_brings F.U16 h memory place k = plain_brings F.U16 w8 (λ w. number w place memory) place k tt
  layer_brings F.S32 h memory place k = plain_brings F.S32 w8 (λ w. number w place memory) place k tt
  layer_brings F.U32 h memory place k = plain_brings F.U32 w8 (λ w. number w place memory) place k tt
  layer_brings F.S64 h memory place k = plain_brings F.S64 w8 (λ w. number w place memory) place k tt
  layer_brings F.U64 h memory place k = plain_brings F.U64 w8 (λ w. number w place memory) place k tt
  layer_brings F.Char h memory place k = plain_brings F.Char w8 (λ w. number w place memory) place k tt

  word_layer_brings : (y : Layer) → Holds y → (memory words : List ℕ) (at : ℕ) (k : Kept) → BringsSo k.world ends_in (over.lift_word_case ledger y memory words at k)
  word_layer_brings F.String h memory words at k = string_brings (low w32 at words) (low w32 (at + 1) words) memory at k
  word_layer_brings (F.List e) h memory words at k =
      all_made values.List (over.elements_of ledger e (low w32 at words) (low w32 (at + 1) words) memory at k) k list_ends (list_brings e (low w32 at words) (low w32 (at + 1) words) memory at k h)
  word_layer_brings (F.Record fields) h memory words at k =
      all_made values.Record (over.word_fields_from ledger memory words [] at (in_fields fields) k) k record_ends (word_fields_bring memory words [] at (in_fields fields) k.world k h (nothing_brought k.world))
  word_layer_brings (F.Tuple parts) h memory words at k =
      all_made values.Record (over.word_fields_from ledger memory words [] at parts k) k record_ends (word_fields_bring memory words [] at parts k.world k h (nothing_brought k.world))
  word_layer_brings (F.Variant cases) h memory words at k = word_case_brings (length cases) (in_cases cases) memory words at k h
  word_layer_brings (F.Enum labels) h memory words at k = word_case_brings (length labels) [] memory words at k tt
  word_layer_brings (F.Option e) h memory words at k = word_case_brings 2 (None ∷ Some e ∷ []) memory words at k (tt, (h, tt))
  word_layer_brings (F.Result ok err) h memory words at k = word_case_brings 2 (ok ∷ err ∷ []) memory words at k (h.0, (h.1, tt))
  word_layer_brings (F.Flags labels) h memory words at k = flags_bring labels _ k
  word_layer_brings (F.Own resource) h memory words at k = used_brings (AnOwn resource) (λ rep. plain.Own (record { resource = resource; rep = rep })) (low w32 at words) at k (λ n. own_ends _)
  word_layer_brings (F.Borrow resource) h memory words at k = used_brings (ABorrow resource) (λ rep. plain.Borrow (record { resource = resource; rep = rep })) (low w32 at words) at k (λ n. borrow_ends _)
  word_layer_brings (F.Stream element) h memory words at k = used_brings (AnEnd end_kind.Stream _) plain.Stream (low w32 at words) at k (λ n. stream_ends n)
  word_layer_brings (F.Future element) h memory words at k = used_brings (AnEnd end_kind.Future _) plain.Future (low w32 at words) at k (λ n. future_ends n)
  word_layer_brings F.Bool h memory words at k = plain_brings F.Bool w32 (λ w. low w at words) at k tt
  word_layer_brings F.S8 h memory words at k = plain_brings F.S8 w32 (λ w. low w at words) at k tt
  word_layer_brings F.U8 h memory words at k = plain_brings F.U8 w32 (λ w. low w at words) at k tt
  word_layer_brings F.S16 h memory words at k = plain_brings F.S16 w32 (λ w. low w at words) at k tt
  word_layer_brings F.U16 h memory words at k = plain_brings F.U16 w32 (λ w. low w at words) at k tt
  word_layer_brings F.S32 h memory words at k = plain_brings F.S32 w32 (λ w. low w at words) at k tt
  word_layer_brings F.U32 h memory words at k = plain_brings F.U32 w32 (λ w. low w at words) at k tt
  word_layer_brings F.S64 h memory words at k = plain_brings F.S64 w32 (λ w. low w at words) at k tt
  word_layer_brings F.U64 h memory words at k = plain_brings F.U64 w32 (λ w. low w at words) at k tt
  word_layer_brings F.Char h memory words at k = plain_brings F.Char w32 (λ w. low w at words) at k tt

  step_lifts : (y : Layer) → Holds y → Lifts (over.part_step ledger y)
  step_lifts y h = (
    λ memory place k. counting_brings (counted 1 place k.left) k (λ kept. over.lift_case ledger y memory place kept) k.world ends_in (λ left. layer_brings y h memory place (record k { left = left })),
    λ memory words at k. counting_brings (counted 1 at k.left) k (λ kept. over.lift_word_case ledger y memory words at kept) k.world ends_in (λ left. word_layer_brings y h memory words at (record k { left = left })),
  )

  -- Every type.

  abbrev case_part : Case → CasePart Kept Stopped
  case_part c = fold-Case (Part Kept Stopped) (CasePart Kept Stopped) (FieldPart Kept Stopped) (over.part_step ledger) case_by field_by c

  abbrev field_part : Field → FieldPart Kept Stopped
  field_part f = fold-Field (Part Kept Stopped) (CasePart Kept Stopped) (FieldPart Kept Stopped) (over.part_step ledger) case_by field_by f

  abbrev IsLifted : ValType → Type 0
  IsLifted t = Lifts (over.part ledger t)

  abbrev IsLiftedCase : Case → Type 0
  IsLiftedCase c = LiftsAny (case_part c).payload

  abbrev IsLiftedField : Field → Type 0
  IsLiftedField f = Lifts (field_part f).part

  abbrev OfType : Type 0
  OfType = (t : ValType) × IsLifted t

  abbrev OfCase : Type 0
  OfCase = (c : Case) × IsLiftedCase c

  abbrev OfField : Type 0
  OfField = (f : Field) × IsLiftedField f

  abbrev layer : F.ValType-F OfType OfCase OfField → F.ValType-F ValType Case Field
  layer y = map-ValType OfType OfCase OfField ValType Case Field (λ e. e.0) (λ e. e.0) (λ e. e.0) y

  abbrev parts : F.ValType-F ValType Case Field → Layer
  parts y = map-ValType ValType Case Field (Part Kept Stopped) (CasePart Kept Stopped) (FieldPart Kept Stopped) (over.part ledger) case_part field_part y

  fields_hold : (fields : List OfField) → AllByRecursion Lifts (in_fields (map field_part (map (λ (e : OfField). e.0) fields)))
  fields_hold [] = tt
  fields_hold (e ∷ fields) = (e.1, fields_hold fields)

  places_hold : (types : List OfType) → AllByRecursion Lifts (map (over.part ledger) (map (λ (e : OfType). e.0) types))
  places_hold [] = tt
  places_hold (e ∷ types) = (e.1, places_hold types)

  cases_hold : (cases : List OfCase) → AllByRecursion LiftsAny (in_cases (map case_part (map (λ (e : OfCase). e.0) cases)))
  cases_hold [] = tt
  cases_hold (e ∷ cases) = (e.1, cases_hold cases)

  holds : (y : F.ValType-F OfType OfCase OfField) → Holds (parts (layer y))
  holds (F.List e) = e.1
  holds (F.Record fields) = fields_hold fields
  holds (F.Tuple types) = places_hold types
  holds (F.Variant cases) = cases_hold cases
  holds (F.Option e) = e.1
  holds (F.Result None None) = (tt, tt)
  holds (F.Result None (Some e)) = (tt, e.1)
  holds (F.Result (Some o) None) = (o.1, tt)
  holds (F.Result (Some o) (Some e)) = (o.1, e.1)
  holds other = tt

  type_lifts : (y : F.ValType-F OfType OfCase OfField) → IsLifted (roll-ValType (layer y))
  type_lifts y =
      subst Lifts (sym (fold-roll-ValType (Part Kept Stopped) (CasePart Kept Stopped) (FieldPart Kept Stopped) (over.part_step ledger) case_by field_by (layer y)))
      (step_lifts (parts (layer y)) (holds y))

  abbrev case_of_layer : F.Case-F OfType OfCase OfField → Case
  case_of_layer y = roll-Case (map-Case OfType OfCase OfField ValType Case Field (λ e. e.0) (λ e. e.0) (λ e. e.0) y)

  payload_lifts : (y : F.Case-F OfType OfCase OfField) → LiftsAny (held (over.part ledger) (case_of_layer y).payload)
  payload_lifts y =
      elim y.payload as (λ p. LiftsAny (held (over.part ledger) (case_of_layer (record { label = y.label; payload = p })).payload)) [
        | Some e ↦ e.1
        | None ↦ tt
      ]

  case_lifts : (y : F.Case-F OfType OfCase OfField) → IsLiftedCase (case_of_layer y)
  case_lifts y =
      subst (λ (p : CasePart Kept Stopped). LiftsAny p.payload) (sym (fold_case (Part Kept Stopped) (CasePart Kept Stopped) (FieldPart Kept Stopped) (over.part_step ledger) case_by field_by (case_of_layer y)))
      (payload_lifts y)

  abbrev field_of_layer : F.Field-F OfType OfCase OfField → Field
  field_of_layer y = roll-Field (map-Field OfType OfCase OfField ValType Case Field (λ e. e.0) (λ e. e.0) (λ e. e.0) y)

  field_lifts : (y : F.Field-F OfType OfCase OfField) → IsLiftedField (field_of_layer y)
  field_lifts y =
      subst (λ (p : FieldPart Kept Stopped). Lifts p.part) (sym (fold_field (Part Kept Stopped) (CasePart Kept Stopped) (FieldPart Kept Stopped) (over.part_step ledger) case_by field_by (field_of_layer y)))
      y.val_type.1

  all_lift : (t : ValType) → IsLifted t
  all_lift =
      ind-ValType IsLifted IsLiftedCase IsLiftedField
      (λ x y e. subst (λ (z : F.ValType-F ValType Case Field). IsLifted (roll-ValType z)) e (type_lifts y))
      (λ x y e. subst (λ (z : F.Case-F ValType Case Field). IsLiftedCase (roll-Case z)) e (case_lifts y))
      (λ x y e. subst (λ (z : F.Field-F ValType Case Field). IsLiftedField (roll-Field z)) e (field_lifts y))

  -- Arguments, results and elements.

  load_brings : (t : ValType) (memory : List ℕ) (place : ℕ) (k : Kept) → BringsSo k.world ends_in (over.load_by ledger t memory place k)
  load_brings t memory place k =
      let outside : LiftTrap = trap Bounds place in
      either_brings (is_aligned place (over.part ledger t).laid.align)
      (if is_inside place (over.part ledger t).laid.size memory then (over.part ledger t).lift memory place k else over.fails ledger outside k) _ k.world ends_in
      (either_brings (is_inside place (over.part ledger t).laid.size memory) ((over.part ledger t).lift memory place k) (over.fails ledger outside k) k.world ends_in ((all_lift t).0 memory place k) tt) tt

  load_list_brings : (t : ValType) (memory : List ℕ) (place count : ℕ) (k : Kept) → BringsSo k.world ends_of (over.load_list_by ledger t memory place count k)
  load_list_brings t memory place count k =
      either_brings (count == 0) (Ok ([], k)) (over.elements_of ledger (over.part ledger t) place count memory place k) k.world ends_of (nothing_brought k.world)
      (list_brings (over.part ledger t) place count memory place k (all_lift t))

  flat_brings : (t : ValType) (memory words : List ℕ) (k : Kept) → BringsSo k.world ends_in (over.lift_flat_by ledger t memory words k)
  flat_brings t memory words k = (all_lift t).1 memory words 0 k

  pub arguments_bring : (is_async : Bool) (f : FuncType) (bytes words : List ℕ) (w : World) → BringsSo w ends_in (arguments_lifted i callee is_async f bytes words w)
  unfolding arguments_lifted
  arguments_bring is_async f bytes words w =
      either_brings (params_pass (passed_limit is_async) f) _ _ w ends_in (load_brings (params_type f) bytes _ (nothing_lifted (most whole.Arguments) w)) (flat_brings (params_type f) bytes words (nothing_lifted (most whole.Arguments) w))

  value_brings : (limit : ℕ) (type : ValType) (bytes words : List ℕ) (w : World) → BringsSo w ends_in (result_lifted i callee limit type bytes words w)
  unfolding result_lifted
  value_brings limit type bytes words w =
      either_brings (result_passes limit (Some type)) _ _ w ends_in (load_brings type bytes _ (nothing_lifted (most whole.Value) w)) (flat_brings type bytes words (nothing_lifted (most whole.Value) w))

  pub elements_lifted_bring : (type : ValType) (bytes : List ℕ) (place count : ℕ) (w : World) → BringsSo w ends_of (elements_lifted i callee type bytes place count w)
  unfolding elements_lifted
  elements_lifted_bring type bytes place count w = load_list_brings type bytes place count (nothing_lifted (most whole.Value) w)

  pub result_brings : (limit : ℕ) (type : Option ValType) (options : Options) (words : List ℕ) (w : World) → BringsSo w ends_returned (result_passed i callee limit type options words w)
  unfolding result_passed
  result_brings limit None options words w = nothing_brought w
  result_brings limit (Some type) options words w =
      made_brings (typed_result type) (result_lifted i callee limit type (bytes_of w.store (memory_of w.store options)) words w) w ends_in ends_returned (λ v. refl)
      (value_brings limit type (bytes_of w.store (memory_of w.store options)) words w)
