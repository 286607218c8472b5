-- Lowering asks for a place only where a value holds a string or a list, or is to stand at a new place.
use Rattle.std.proofs.Common.{◌≡◌, ◌+◌, ◌*◌, ◌%◌, ◌^◌, ◌||◌, ◌&&◌, ◌==◌, ℕ, Bool, true, false, nat_lt, nat_le, if◌then◌else◌, List, [], ◌∷◌, ◌++◌, map, length, refl, sym, ◌∙◌, subst, Option, Some, None}
use Rattle.std.specs.Int.{w32, to_le_bytes}
use Rattle.syntax_trees.specs.declared.types.ValType.{ValType}
use Rattle.syntax_trees.specs.declared.value.Value.{Value}
use Rattle.syntax_trees.specs.declared.value.Value.TheOpen as V
use Rattle.syntax_trees.specs.declared.value.Value.TheViews.{roll-Value}
use Rattle.syntax_trees.specs.declared.value.Value.TheFolds.{map-Value, ind-Value, fold-roll-Value}
use Rattle.syntax_trees.specs.Ends.{some_true}
use Rattle.laid_types.specs.Layout.{laid, aligned}
use Rattle.syntax_trees.specs.Flat.{flat}
use Rattle.laid_types.specs.Parts.{parts_of, part_at}
use Rattle.builtin_kinds.specs.declared.EndKind.TheVariants as end_kind
use Rattle.handle_table.specs.History.{Event}
use Rattle.value_lower.specs.Lowering.{filled}
use Rattle.value_lower.specs.Following.{written}
use Rattle.abi_machine.specs.LoweringOver.{New, NewOwn, NewBorrow, NewEnd, Why, Bounds, Misaligned, TableFull, Plan, Gives, Fails, Asks, Size, Put, Adds, Lowered}
use Rattle.abi_machine.specs.LoweringOver as over
use Rattle.abi_machine.specs.Pausing.{with_index, entries_by, entry_of, index_in, with_new, Paused, Words, Failed, Asked, settle}
use Rattle.abi_machine.specs.World.{Entry}
use Rattle.abi_machine.specs.sound.Places.{text_step, holds_text, AsksWhere}

-- one of several
pub left_one : (a b : Bool) → a ≡ true → (a || b) ≡ true
left_one true b e = refl
left_one false b e = cc

pub right_one : (a b : Bool) → b ≡ true → (a || b) ≡ true
right_one true b e = refl
right_one false b e = e

pub either_asks : (A : Type 0) (b : Bool) (p q : Plan) → (b ≡ true → AsksWhere A p) → (b ≡ false → AsksWhere A q) → AsksWhere A (if b then p else q)
either_asks A true p q h i = h refl
either_asks A false p q h i = i refl

module _ (A : Type 0) where
  tested_asks : (place align size : ℕ) (k : Plan) → AsksWhere A k → AsksWhere A (over.tested place align size k)
  tested_asks place align size k h =
      either_asks A (place % align == 0) (Size (λ there. if nat_le (place + size) there then k else Fails Bounds)) (Fails Misaligned)
      (λ e there. either_asks A (nat_le (place + size) there) k (Fails Bounds) (λ f. h) (λ f. tt)) (λ e. tt)

  asked_asks : (count align size : ℕ) (k : ℕ → Plan) → A → ((place : ℕ) → AsksWhere A (k place)) → AsksWhere A (over.asked count align size k)
  asked_asks count align size k a h =
      either_asks A (nat_lt count (2 ^ 32) && nat_lt size (2 ^ 32))
      (Asks (record { old = 0; old_size = 0; align = align; size = size }) (λ place. over.tested place align size (k place))) (Fails Bounds)
      (λ e. (a, λ place. tested_asks place align size (k place) (h place))) (λ e. tt)

  text_asks : (text : List ℕ) (k : ℕ → Plan) → A → ((place : ℕ) → AsksWhere A (k place)) → AsksWhere A (over.text_in text k)
  text_asks text k a h = asked_asks (length text) 1 (length text) (λ place. Put place text (k place)) a h

module _ (enter : New → (ℕ → Plan) → Plan) (A : Type 0) (enters : (entry : New) (k : ℕ → Plan) → ((index : ℕ) → AsksWhere A (k index)) → AsksWhere A (enter entry k)) where
  -- Whatever follows asks where it may, if the value holds a string or a list only where it may.
  record AsksSo (v : Value) : Type 0 where
    store : (t : ValType) (place : ℕ) (k : Plan) → AsksWhere A k → AsksWhere A ((over.lowered enter v).store t place k)
    words : (t : ValType) (before : List ℕ) (k : List ℕ → Plan) → ((ws : List ℕ) → AsksWhere A (k ws)) → AsksWhere A ((over.lowered enter v).words t before k)

  abbrev Asking : Value → Type 0
  Asking v = (holds_text v ≡ true → A) → AsksSo v

  abbrev Each : Type 0
  Each = (v : Value) × Asking v

  abbrev these : List Each → List Value
  these es = map (λ (e : Each). e.0) es

  abbrev lows : List Each → List Lowered
  lows es = map (over.lowered enter) (these es)

  abbrev HoldsOne : List Each → Type 0
  HoldsOne es = some_true (map holds_text (these es)) ≡ true → A

  elements_ask : (t : ValType) (place : ℕ) (es : List Each) (k : Plan) → A → AsksWhere A k → AsksWhere A (over.elements_from t place (lows es) k)
  elements_ask t place [] k a h = h
  elements_ask t place (e ∷ es) k a h = (e.1 (λ s. a)).store t place (over.elements_from t (place + (laid t).size) (lows es) k) (elements_ask t (place + (laid t).size) es k a h)

  list_asks : (o : Option ValType) (es : List Each) (k : ℕ → Plan) → A → ((place : ℕ) → AsksWhere A (k place)) → AsksWhere A (over.list_in o (lows es) k)
  list_asks None es k a h = tt
  list_asks (Some t) es k a h =
      asked_asks A (length (lows es)) (laid t).align (length (lows es) * (laid t).size) (λ place. over.elements_from t place (lows es) (k place)) a (λ place. elements_ask t place es (k place) a (h place))

  fields_ask : (place end : ℕ) (types : List (Option ValType)) (es : List Each) (k : Plan) → HoldsOne es → AsksWhere A k → AsksWhere A (over.fields_from place end types (lows es) k)
  fields_ask place end [] es k s h = h
  fields_ask place end (t ∷ types) [] k s h = h
  fields_ask place end (None ∷ types) (e ∷ es) k s h = fields_ask place end types es k (λ i. s (right_one (holds_text e.0) _ i)) h
  fields_ask place end (Some t ∷ types) (e ∷ es) k s h =
      (e.1 (λ i. s (left_one (holds_text e.0) _ i))).store t (place + aligned end (laid t).align) (over.fields_from place (aligned end (laid t).align + (laid t).size) types (lows es) k)
      (fields_ask place (aligned end (laid t).align + (laid t).size) types es k (λ i. s (right_one (holds_text e.0) _ i)) h)

  payload_asks : (o : Option ValType) (e : Each) (place : ℕ) (k : Plan) → (holds_text e.0 ≡ true → A) → AsksWhere A k → AsksWhere A (over.payload_at o (Some (over.lowered enter e.0)) place k)
  payload_asks (Some t) e place k s h = (e.1 s).store t place k h
  payload_asks None e place k s h = h

  no_payload_asks : (o : Option ValType) (place : ℕ) (k : Plan) → AsksWhere A k → AsksWhere A (over.payload_at o None place k)
  no_payload_asks (Some t) place k h = h
  no_payload_asks None place k h = h

  field_words_ask : (types : List (Option ValType)) (es : List Each) (before : List ℕ) (k : List ℕ → Plan) → HoldsOne es → ((ws : List ℕ) → AsksWhere A (k ws))
      → AsksWhere A (over.field_words types (lows es) before k)
  field_words_ask [] es before k s h = h before
  field_words_ask (t ∷ types) [] before k s h = h before
  field_words_ask (None ∷ types) (e ∷ es) before k s h = field_words_ask types es before k (λ i. s (right_one (holds_text e.0) _ i)) h
  field_words_ask (Some t ∷ types) (e ∷ es) before k s h =
      (e.1 (λ i. s (left_one (holds_text e.0) _ i))).words t before (λ words. over.field_words types (lows es) words k)
      (λ ws. field_words_ask types es ws k (λ i. s (right_one (holds_text e.0) _ i)) h)

  payload_words_ask : (o : Option ValType) (e : Each) (before : List ℕ) (k : List ℕ → Plan) → (holds_text e.0 ≡ true → A) → ((ws : List ℕ) → AsksWhere A (k ws))
      → AsksWhere A (over.payload_words o (Some (over.lowered enter e.0)) before k)
  payload_words_ask (Some t) e before k s h = (e.1 s).words t before k h
  payload_words_ask None e before k s h = h before

  no_payload_words_ask : (o : Option ValType) (before : List ℕ) (k : List ℕ → Plan) → ((ws : List ℕ) → AsksWhere A (k ws)) → AsksWhere A (over.payload_words o None before k)
  no_payload_words_ask (Some t) before k h = h before
  no_payload_words_ask None before k h = h before

  -- Values by their outer layer.
  abbrev layer : V.Value-F Each → V.Value-F Value
  layer w = map-Value Each Value (λ (e : Each). e.0) w

  abbrev low_layer : V.Value-F Value → V.Value-F Lowered
  low_layer w = map-Value Value Lowered (over.lowered enter) w

  abbrev text_layer : V.Value-F Value → V.Value-F Bool
  text_layer w = map-Value Value Bool holds_text w

  store_asks : (w : V.Value-F Each) → (text_step (text_layer (layer w)) ≡ true → A) → (t : ValType) (place : ℕ) (k : Plan) → AsksWhere A k → AsksWhere A (over.store_case enter (low_layer (layer w)) t place k)
  store_asks (V.String text) s t place k h = text_asks A text (λ to. over.pointed place to (length text) k) (s refl) (λ to. h)
  store_asks (V.List es) s t place k h = list_asks (part_at t 0) es (λ to. over.pointed place to (length (lows es)) k) (s refl) (λ to. h)
  store_asks (V.Record es) s t place k h = fields_ask place 0 (parts_of t) es k s h
  store_asks (V.Variant n (Some e)) s t place k h = payload_asks (part_at t n) e _ k s h
  store_asks (V.Variant n None) s t place k h = no_payload_asks (part_at t n) _ k h
  store_asks (V.Own x) s t place k h = enters (NewOwn x.resource x.rep) (λ index. Put place (to_le_bytes w32 index) k) (λ index. h)
  store_asks (V.Borrow x) s t place k h = enters (NewBorrow x.resource x.rep) (λ index. Put place (to_le_bytes w32 index) k) (λ index. h)
  store_asks (V.Stream x) s t place k h = enters (NewEnd end_kind.Stream x) (λ index. Put place (to_le_bytes w32 index) k) (λ index. h)
  store_asks (V.Future x) s t place k h = enters (NewEnd end_kind.Future x) (λ index. Put place (to_le_bytes w32 index) k) (λ index. h)
  store_asks other s t place k h = h

  words_ask : (w : V.Value-F Each) → (text_step (text_layer (layer w)) ≡ true → A) → (t : ValType) (before : List ℕ) (k : List ℕ → Plan) → ((ws : List ℕ) → AsksWhere A (k ws))
      → AsksWhere A (over.words_case enter (low_layer (layer w)) t before k)
  words_ask (V.String text) s t before k h = text_asks A text (λ to. k (before ++ to ∷ length text ∷ [])) (s refl) (λ to. h (before ++ to ∷ length text ∷ []))
  words_ask (V.List es) s t before k h = list_asks (part_at t 0) es (λ to. k (before ++ to ∷ length (lows es) ∷ [])) (s refl) (λ to. h (before ++ to ∷ length (lows es) ∷ []))
  words_ask (V.Record es) s t before k h = field_words_ask (parts_of t) es before k s h
  words_ask (V.Variant n (Some e)) s t before k h =
      payload_words_ask (part_at t n) e (before ++ n ∷ []) (λ words. k (filled (length (flat t)) (length before) words)) s (λ ws. h (filled (length (flat t)) (length before) ws))
  words_ask (V.Variant n None) s t before k h =
      no_payload_words_ask (part_at t n) (before ++ n ∷ []) (λ words. k (filled (length (flat t)) (length before) words)) (λ ws. h (filled (length (flat t)) (length before) ws))
  words_ask (V.Own x) s t before k h = enters (NewOwn x.resource x.rep) (λ index. k (before ++ index ∷ [])) (λ index. h (before ++ index ∷ []))
  words_ask (V.Borrow x) s t before k h = enters (NewBorrow x.resource x.rep) (λ index. k (before ++ index ∷ [])) (λ index. h (before ++ index ∷ []))
  words_ask (V.Stream x) s t before k h = enters (NewEnd end_kind.Stream x) (λ index. k (before ++ index ∷ [])) (λ index. h (before ++ index ∷ []))
  words_ask (V.Future x) s t before k h = enters (NewEnd end_kind.Future x) (λ index. k (before ++ index ∷ [])) (λ index. h (before ++ index ∷ []))
  words_ask other s t before k h = h _

  asks_step : (w : V.Value-F Each) → Asking (roll-Value (layer w))
  asks_step w s =
      let e : over.lowered enter (roll-Value (layer w)) ≡ over.lower_step enter (low_layer (layer w)) = fold-roll-Value Lowered (over.lower_step enter) (layer w) in
      let texts : holds_text (roll-Value (layer w)) ≡ text_step (text_layer (layer w)) = fold-roll-Value Bool text_step (layer w) in
      record {
        store = λ t place k h. subst (λ (l : Lowered). AsksWhere A (l.store t place k)) (sym e) (store_asks w (λ i. s (texts ∙ i)) t place k h);
        words = λ t before k h. subst (λ (l : Lowered). AsksWhere A (l.words t before k)) (sym e) (words_ask w (λ i. s (texts ∙ i)) t before k h);
      }

  all_ask : (v : Value) → Asking v
  all_ask = ind-Value Asking (λ x y e. subst (λ (z : V.Value-F Value). Asking (roll-Value z)) e (asks_step y))

  pub flat_asks : (t : ValType) (v : Value) → (holds_text v ≡ true → A) → AsksWhere A (over.flat_lowered enter t v)
  flat_asks t v s = (all_ask v s).words t [] (λ words. Gives words) (λ ws. tt)

  pub stored_asks : (t : ValType) (v : Value) (place : ℕ) → (holds_text v ≡ true → A) → AsksWhere A (over.stored enter t v place)
  stored_asks t v place s = tested_asks A place (laid t).align (laid t).size ((over.lowered enter v).store t place (Gives [])) ((all_ask v s).store t place (Gives []) tt)

  pub placed_asks : (t : ValType) (v : Value) → A → AsksWhere A (over.placed enter t v)
  placed_asks t v a =
      asked_asks A 1 (laid t).align (laid t).size (λ place. (over.lowered enter v).store t place (Gives (place ∷ []))) a (λ place. (all_ask v (λ s. a)).store t place (Gives (place ∷ [])) tt)

  pub each_asks : (t : ValType) (all : List Value) (place : ℕ) → (some_true (map holds_text all) ≡ true → A) → AsksWhere A (over.all_stored enter t all place)
  each_asks t [] place s = tt
  each_asks t (v ∷ all) place s =
      (all_ask v (λ i. s (left_one (holds_text v) _ i))).store t place (over.elements_from t (place + (laid t).size) (map (over.lowered enter) all) (Gives []))
      (each_asks t all (place + (laid t).size) (λ i. s (right_one (holds_text v) _ i)))

-- Entries are made without asking.
index_asks : (A : Type 0) (k : ℕ → Plan) → ((index : ℕ) → AsksWhere A (k index)) → (o : Option ℕ) → AsksWhere A (with_index k o)
index_asks A k h None = tt
index_asks A k h (Some index) = h index

pub entries_ask : (is_own : ℕ → Bool) (A : Type 0) (entry : New) (k : ℕ → Plan) → ((index : ℕ) → AsksWhere A (k index)) → AsksWhere A (entries_by is_own entry k)
entries_ask is_own A (NewOwn resource rep) k h = index_asks A k h
entries_ask is_own A (NewBorrow resource rep) k h =
    either_asks A (is_own resource) (k rep) (Adds (NewBorrow resource rep) (with_index k)) (λ e. h rep) (λ e. index_asks A k h)
entries_ask is_own A (NewEnd kind number) k h = index_asks A k h

-- How far a plan goes.
abbrev pub PausesWhere : Type 0 → Paused → Type 0
PausesWhere A (Words words) = Unit {0}
PausesWhere A (Failed why) = Unit {0}
PausesWhere A (Asked ask k) = A × ((place : ℕ) → AsksWhere A (k place))

pub settled_asks : (A : Type 0) (t : ℕ) (plan : Plan) (bytes : List ℕ) (table : List (Event Entry)) → AsksWhere A plan → PausesWhere A (settle t plan bytes table).paused
settled_asks A t (Gives words) bytes table h = tt
settled_asks A t (Fails why) bytes table h = tt
settled_asks A t (Asks ask k) bytes table h = h
settled_asks A t (Size k) bytes table h = settled_asks A t (k (length bytes)) bytes table (h (length bytes))
settled_asks A t (Put place more k) bytes table h = settled_asks A t k (written place more bytes) table h
settled_asks A t (Adds entry k) bytes table h = settled_asks A t (k (index_in table)) bytes (with_new (entry_of t entry) table) (h (index_in table))
