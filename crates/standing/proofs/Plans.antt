-- Values are lowered by code and by the machine along the same plans.
use Rattle.std.proofs.Common.{◌≡◌, ◌+◌, ◌*◌, ◌%◌, ◌^◌, ◌&&◌, ◌==◌, ℕ, zero, suc, Bool, true, false, nat_lt, nat_le, if◌then◌else◌, List, [], ◌∷◌, ◌++◌, map, length, refl, sym, ap, ◌∙◌, subst, Option, Some, None, rules}
use Rattle.std.specs.List.{slice_get}
use Rattle.std.specs.Option.{option_and_then}
use Rattle.std.specs.Int.{w32, to_le_bytes}
use Rattle.syntax_trees.specs.declared.types.ValType.{ValType, out-ValType, roll-ValType}
use Rattle.syntax_trees.specs.declared.types.ValType.TheOpen as F
use Rattle.syntax_trees.specs.declared.types.ValType.TheViews.{rolls-Stream, rolls-Future, roll-out-ValType}
use Rattle.syntax_trees.specs.declared.value.Value.{Value, out-Value}
use Rattle.syntax_trees.specs.declared.value.Value.TheOpen as V
use Rattle.syntax_trees.specs.declared.value.Value.TheViews.{the_lemmas, roll-Value}
use Rattle.syntax_trees.specs.declared.value.Value.TheFolds.{map-Value, ind-Value, fold-roll-Value}
use Rattle.syntax_trees.specs.Fits.{fits}
use Rattle.laid_types.specs.Layout.{laid, aligned, tag_size}
use Rattle.syntax_trees.specs.Flat.{flat}
use Rattle.laid_types.specs.Parts.{parts_of, part_at, case_count, payload_place}
use Rattle.builtin_kinds.specs.declared.EndKind.TheVariants as end_kind
use Rattle.res_handles.specs.Calls.{is_defined}
use Rattle.value_lower.specs.Plan as lower
use Rattle.value_lower.specs.Storing as code
use Rattle.value_lower.specs.Storing.{plain_bytes, plain_word, filled}
use Rattle.value_lower.specs.Entering as entering
use Rattle.value_lower.specs.Tables as tables
use Rattle.value_lower.specs.Tables.{entered}
use Rattle.value_lower.specs.declared.ends.LowerWhy.TheVariants as lower_why
use Rattle.value_lower.proofs.Fitted.{Layer, tests_in, passes, by_layers, element_fits, field_fits, payload_fits}
use Rattle.comp_graph.specs.Graph.{ends_type}
use Rattle.abi_machine.specs.LoweringOver as machine
use Rattle.abi_machine.specs.Pausing as pause
use Rattle.abi_machine.specs.Pausing.{entries_by, borrow_entered}
use Rattle.standing.specs.Lowers.{NewAgrees, PlanAgrees}
use Rattle.standing.specs.Plans.{AreOwn, FlatAgrees, PlacedAgrees, StoredAgrees, ElementsAgree}

either_agrees : (b : Bool) (p q : lower.Plan) (m n : machine.Plan) → (b ≡ true → PlanAgrees p m) → (b ≡ false → PlanAgrees q n) → PlanAgrees (if b then p else q) (if b then m else n)
either_agrees true p q m n h i = h refl
either_agrees false p q m n h i = i refl

tested_agrees : (place align size : ℕ) (k : lower.Plan) (l : machine.Plan) → PlanAgrees k l → PlanAgrees (code.tested place align size k) (machine.tested place align size l)
tested_agrees place align size k l h =
    either_agrees (place % align == 0) (lower.Size (λ there. if nat_le (place + size) there then k else lower.Fails lower_why.Bounds)) (lower.Fails lower_why.Misaligned)
    (machine.Size (λ there. if nat_le (place + size) there then l else machine.Fails machine.Bounds)) (machine.Fails machine.Misaligned)
    (λ e. (
      (λ there. if nat_le (place + size) there then l else machine.Fails machine.Bounds),
      refl,
      λ there. either_agrees (nat_le (place + size) there) k (lower.Fails lower_why.Bounds) l (machine.Fails machine.Bounds) (λ f. h) (λ f. refl),
    )) (λ e. refl)

asked_agrees : (count align size : ℕ) (k : ℕ → lower.Plan) (l : ℕ → machine.Plan) → ((place : ℕ) → PlanAgrees (k place) (l place))
    → PlanAgrees (code.asked count align size k) (machine.asked count align size l)
asked_agrees count align size k l h =
    either_agrees (nat_lt count (2 ^ 32) && nat_lt size (2 ^ 32))
    (lower.Asks (record { old = 0; old_size = 0; align = align; size = size }) (λ place. code.tested place align size (k place))) (lower.Fails lower_why.Bounds)
    (machine.Asks (record { old = 0; old_size = 0; align = align; size = size }) (λ place. machine.tested place align size (l place))) (machine.Fails machine.Bounds)
    (λ e. ((λ place. machine.tested place align size (l place)), refl, λ place. tested_agrees place align size (k place) (l place) (h place))) (λ e. refl)

put_agrees : (place : ℕ) (bytes : List ℕ) (k : lower.Plan) (l : machine.Plan) → PlanAgrees k l → PlanAgrees (lower.Put place bytes k) (machine.Put place bytes l)
put_agrees place bytes k l h = (l, refl, h)

text_agrees : (text : List ℕ) (k : ℕ → lower.Plan) (l : ℕ → machine.Plan) → ((place : ℕ) → PlanAgrees (k place) (l place)) → PlanAgrees (code.text_in text k) (machine.text_in text l)
text_agrees text k l h =
    asked_agrees (length text) 1 (length text) (λ place. lower.Put place text (k place)) (λ place. machine.Put place text (l place)) (λ place. put_agrees place text (k place) (l place) (h place))

pointed_agrees : (place to count : ℕ) (k : lower.Plan) (l : machine.Plan) → PlanAgrees k l → PlanAgrees (code.pointed place to count k) (machine.pointed place to count l)
pointed_agrees place to count k l h =
    put_agrees place (to_le_bytes w32 to) (lower.Put (place + 4) (to_le_bytes w32 count) k) (machine.Put (place + 4) (to_le_bytes w32 count) l)
    (put_agrees (place + 4) (to_le_bytes w32 count) k l h)

-- The type of an end.
stream_type : (t : ValType) (x : ℕ) → passes (tests_in (out-ValType t)) (V.Stream x) ≡ true → (element : Option ValType) × (t ≡ ends_type end_kind.Stream element)
stream_type t x h = by (out-ValType t) (roll-out-ValType t) h
  where
    by : (y : Layer) → roll-ValType y ≡ t → passes (tests_in y) (V.Stream x) ≡ true → (element : Option ValType) × (t ≡ ends_type end_kind.Stream element)
    by (F.Stream e) r h = (e, sym r ∙ rolls-Stream e)
    by other r h = absurd (cc)

future_type : (t : ValType) (x : ℕ) → passes (tests_in (out-ValType t)) (V.Future x) ≡ true → (element : Option ValType) × (t ≡ ends_type end_kind.Future element)
future_type t x h = by (out-ValType t) (roll-out-ValType t) h
  where
    by : (y : Layer) → roll-ValType y ≡ t → passes (tests_in y) (V.Future x) ≡ true → (element : Option ValType) × (t ≡ ends_type end_kind.Future element)
    by (F.Future e) r h = (e, sym r ∙ rolls-Future e)
    by other r h = absurd (cc)

-- what may be part of values of parts of types
abbrev Fit : List (Option ValType) → List Value → Type 0
Fit parts all = (n : ℕ) (w : Value) (p : ValType) → slice_get all n ≡ Some w → option_and_then (λ part. part) (slice_get parts n) ≡ Some p → fits w p ≡ true

module _ (home : List ℕ) (is_own : ℕ → Bool) (own : AreOwn home is_own) where
  index_agrees : (k : ℕ → lower.Plan) (l : ℕ → machine.Plan) → ((index : ℕ) → PlanAgrees (k index) (l index)) → (o : Option ℕ) → PlanAgrees (tables.with_index k o) (pause.with_index l o)
  index_agrees k l h None = refl
  index_agrees k l h (Some index) = h index

  adds_agree : (n : lower.New) (m : machine.New) (k : ℕ → lower.Plan) (l : ℕ → machine.Plan) → NewAgrees n m → ((index : ℕ) → PlanAgrees (k index) (l index))
      → PlanAgrees (lower.Adds n (tables.with_index k)) (machine.Adds m (pause.with_index l))
  adds_agree n m k l a h = (m, pause.with_index l, refl, a, index_agrees k l h)

  borrow_agrees : (resource rep : ℕ) (k : ℕ → lower.Plan) (l : ℕ → machine.Plan) → ((index : ℕ) → PlanAgrees (k index) (l index))
      → PlanAgrees (entered home (lower.NewBorrow resource rep) k) (entries_by is_own (machine.NewBorrow resource rep) l)
  borrow_agrees resource rep k l h =
      subst (λ (b : Bool). PlanAgrees (entered home (lower.NewBorrow resource rep) k) (borrow_entered b resource rep l)) (own resource)
      (either_agrees (is_defined resource home) (k rep) (lower.Adds (lower.NewBorrow resource rep) (tables.with_index k)) (l rep) (machine.Adds (machine.NewBorrow resource rep) (pause.with_index l))
      (λ e. h rep) (λ e. adds_agree (lower.NewBorrow resource rep) (machine.NewBorrow resource rep) k l refl h))

  abbrev low : Value → code.Lowered
  low v = entering.lowered (entered home) v

  abbrev high : Value → machine.Lowered
  high v = machine.lowered (entries_by is_own) v

  -- Whatever follows agrees, if the value is of the type.
  record AgreesSo (v : Value) (t : ValType) : Type 0 where
    store : (place : ℕ) (k : lower.Plan) (l : machine.Plan) → PlanAgrees k l → PlanAgrees ((low v).store t place k) ((high v).store t place l)
    words : (before : List ℕ) (k : List ℕ → lower.Plan) (l : List ℕ → machine.Plan) → ((ws : List ℕ) → PlanAgrees (k ws) (l ws))
        → PlanAgrees ((low v).words t before k) ((high v).words t before l)

  abbrev Agreeing : Value → Type 0
  Agreeing v = (t : ValType) → fits v t ≡ true → AgreesSo v t

  abbrev Each : Type 0
  Each = (v : Value) × Agreeing v

  abbrev these : List Each → List Value
  these es = map (λ (e : Each). e.0) es

  abbrev lows : List Each → List code.Lowered
  lows es = map low (these es)

  abbrev highs : List Each → List machine.Lowered
  highs es = map high (these es)

  same_count : (es : List Each) → length (lows es) ≡ length (highs es)
  same_count [] = refl
  same_count (e ∷ es) = ap suc (same_count es)

  elements_agree : (t : ValType) (place : ℕ) (es : List Each) (k : lower.Plan) (l : machine.Plan) → ((n : ℕ) (w : Value) → slice_get (these es) n ≡ Some w → fits w t ≡ true) → PlanAgrees k l
      → PlanAgrees (code.elements_from t place (lows es) k) (machine.elements_from t place (highs es) l)
  elements_agree t place [] k l f h = h
  elements_agree t place (e ∷ es) k l f h =
      (e.1 t (f zero e.0 refl)).store place (code.elements_from t (place + (laid t).size) (lows es) k) (machine.elements_from t (place + (laid t).size) (highs es) l)
      (elements_agree t (place + (laid t).size) es k l (λ n. f (suc n)) h)

  list_agrees : (o : Option ValType) (es : List Each) (k : ℕ → lower.Plan) (l : ℕ → machine.Plan)
      → ((n : ℕ) (w : Value) (p : ValType) → o ≡ Some p → slice_get (these es) n ≡ Some w → fits w p ≡ true) → ((place : ℕ) → PlanAgrees (k place) (l place))
      → PlanAgrees (code.list_in o (lows es) k) (machine.list_in o (highs es) l)
  list_agrees None es k l f h = refl
  list_agrees (Some t) es k l f h =
      subst (λ (n : ℕ). PlanAgrees (code.list_in (Some t) (lows es) k) (machine.asked n (laid t).align (n * (laid t).size) (λ place. machine.elements_from t place (highs es) (l place)))) (same_count es)
      (asked_agrees (length (lows es)) (laid t).align (length (lows es) * (laid t).size) (λ place. code.elements_from t place (lows es) (k place)) (λ place. machine.elements_from t place (highs es) (l place))
      (λ place. elements_agree t place es (k place) (l place) (λ n w. f n w t refl) (h place)))

  fields_agree : (place end : ℕ) (parts : List (Option ValType)) (es : List Each) (k : lower.Plan) (l : machine.Plan) → Fit parts (these es) → PlanAgrees k l
      → PlanAgrees (code.fields_from place end parts (lows es) k) (machine.fields_from place end parts (highs es) l)
  fields_agree place end [] es k l f h = h
  fields_agree place end (t ∷ parts) [] k l f h = h
  fields_agree place end (None ∷ parts) (e ∷ es) k l f h = fields_agree place end parts es k l (λ n. f (suc n)) h
  fields_agree place end (Some t ∷ parts) (e ∷ es) k l f h =
      (e.1 t (f zero e.0 t refl refl)).store (place + aligned end (laid t).align)
      (code.fields_from place (aligned end (laid t).align + (laid t).size) parts (lows es) k) (machine.fields_from place (aligned end (laid t).align + (laid t).size) parts (highs es) l)
      (fields_agree place (aligned end (laid t).align + (laid t).size) parts es k l (λ n. f (suc n)) h)

  field_words_agree : (parts : List (Option ValType)) (es : List Each) (before : List ℕ) (k : List ℕ → lower.Plan) (l : List ℕ → machine.Plan) → Fit parts (these es)
      → ((ws : List ℕ) → PlanAgrees (k ws) (l ws)) → PlanAgrees (code.field_words parts (lows es) before k) (machine.field_words parts (highs es) before l)
  field_words_agree [] es before k l f h = h before
  field_words_agree (t ∷ parts) [] before k l f h = h before
  field_words_agree (None ∷ parts) (e ∷ es) before k l f h = field_words_agree parts es before k l (λ n. f (suc n)) h
  field_words_agree (Some t ∷ parts) (e ∷ es) before k l f h =
      (e.1 t (f zero e.0 t refl refl)).words before (λ words. code.field_words parts (lows es) words k) (λ words. machine.field_words parts (highs es) words l)
      (λ ws. field_words_agree parts es ws k l (λ n. f (suc n)) h)

  payload_agrees : (o : Option ValType) (e : Each) (place : ℕ) (k : lower.Plan) (l : machine.Plan) → ((p : ValType) → o ≡ Some p → fits e.0 p ≡ true) → PlanAgrees k l
      → PlanAgrees (code.payload_at o (Some (low e.0)) place k) (machine.payload_at o (Some (high e.0)) place l)
  payload_agrees (Some t) e place k l f h = (e.1 t (f t refl)).store place k l h
  payload_agrees None e place k l f h = h

  no_payload_agrees : (o : Option ValType) (place : ℕ) (k : lower.Plan) (l : machine.Plan) → PlanAgrees k l → PlanAgrees (code.payload_at o None place k) (machine.payload_at o None place l)
  no_payload_agrees (Some t) place k l h = h
  no_payload_agrees None place k l h = h

  payload_words_agree : (o : Option ValType) (e : Each) (before : List ℕ) (k : List ℕ → lower.Plan) (l : List ℕ → machine.Plan) → ((p : ValType) → o ≡ Some p → fits e.0 p ≡ true)
      → ((ws : List ℕ) → PlanAgrees (k ws) (l ws)) → PlanAgrees (code.payload_words o (Some (low e.0)) before k) (machine.payload_words o (Some (high e.0)) before l)
  payload_words_agree (Some t) e before k l f h = (e.1 t (f t refl)).words before k l h
  payload_words_agree None e before k l f h = h before

  no_payload_words_agree : (o : Option ValType) (before : List ℕ) (k : List ℕ → lower.Plan) (l : List ℕ → machine.Plan) → ((ws : List ℕ) → PlanAgrees (k ws) (l ws))
      → PlanAgrees (code.payload_words o None before k) (machine.payload_words o None before l)
  no_payload_words_agree (Some t) before k l h = h before
  no_payload_words_agree None before k l h = h before

  -- Values by their outer layer.
  abbrev layer : V.Value-F Each → V.Value-F Value
  layer w = map-Value Each Value (λ (e : Each). e.0) w

  abbrev low_layer : V.Value-F Value → V.Value-F code.Lowered
  low_layer w = map-Value Value code.Lowered low w

  abbrev high_layer : V.Value-F Value → V.Value-F machine.Lowered
  high_layer w = map-Value Value machine.Lowered high w

  store_agrees : (w : V.Value-F Each) (t : ValType) → passes (tests_in (out-ValType t)) (layer w) ≡ true → (place : ℕ) (k : lower.Plan) (l : machine.Plan) → PlanAgrees k l
      → PlanAgrees (entering.store_case (entered home) (low_layer (layer w)) t place k) (machine.store_case (entries_by is_own) (high_layer (layer w)) t place l)
  store_agrees (V.String text) t f place k l h =
      text_agrees text (λ to. code.pointed place to (length text) k) (λ to. machine.pointed place to (length text) l) (λ to. pointed_agrees place to (length text) k l h)
  store_agrees (V.List es) t f place k l h =
      subst (λ (n : ℕ). PlanAgrees (entering.store_case (entered home) (low_layer (layer (V.List es))) t place k) (machine.list_in (part_at t 0) (highs es) (λ to. machine.pointed place to n l))) (same_count es)
      (list_agrees (part_at t 0) es (λ to. code.pointed place to (length (lows es)) k) (λ to. machine.pointed place to (length (lows es)) l)
      (λ n w p is at. element_fits (out-ValType t) (these es) p n w f is at) (λ to. pointed_agrees place to (length (lows es)) k l h))
  store_agrees (V.Record es) t f place k l h = fields_agree place 0 (parts_of t) es k l (λ n w p at is. field_fits (out-ValType t) (these es) n w p f at is) h
  store_agrees (V.Variant n (Some e)) t f place k l h =
      put_agrees place (code.number_bytes (tag_size (case_count t)) n) (code.payload_at (part_at t n) (Some (low e.0)) (place + payload_place t) k)
      (machine.payload_at (part_at t n) (Some (high e.0)) (place + payload_place t) l) (payload_agrees (part_at t n) e (place + payload_place t) k l (λ p is. payload_fits (out-ValType t) n e.0 p f is) h)
  store_agrees (V.Variant n None) t f place k l h =
      put_agrees place (code.number_bytes (tag_size (case_count t)) n) (code.payload_at (part_at t n) None (place + payload_place t) k)
      (machine.payload_at (part_at t n) None (place + payload_place t) l) (no_payload_agrees (part_at t n) (place + payload_place t) k l h)
  store_agrees (V.Own x) t f place k l h =
      adds_agree (lower.NewOwn x.resource x.rep) (machine.NewOwn x.resource x.rep) (λ index. lower.Put place (to_le_bytes w32 index) k) (λ index. machine.Put place (to_le_bytes w32 index) l) refl
      (λ index. put_agrees place (to_le_bytes w32 index) k l h)
  store_agrees (V.Borrow x) t f place k l h =
      borrow_agrees x.resource x.rep (λ index. lower.Put place (to_le_bytes w32 index) k) (λ index. machine.Put place (to_le_bytes w32 index) l) (λ index. put_agrees place (to_le_bytes w32 index) k l h)
  store_agrees (V.Stream x) t f place k l h =
      let of = stream_type t x f in
      adds_agree (lower.NewEnd t x) (machine.NewEnd end_kind.Stream x) (λ index. lower.Put place (to_le_bytes w32 index) k) (λ index. machine.Put place (to_le_bytes w32 index) l)
      (end_kind.Stream, of.0, refl, of.1) (λ index. put_agrees place (to_le_bytes w32 index) k l h)
  store_agrees (V.Future x) t f place k l h =
      let of = future_type t x f in
      adds_agree (lower.NewEnd t x) (machine.NewEnd end_kind.Future x) (λ index. lower.Put place (to_le_bytes w32 index) k) (λ index. machine.Put place (to_le_bytes w32 index) l)
      (end_kind.Future, of.0, refl, of.1) (λ index. put_agrees place (to_le_bytes w32 index) k l h)
  store_agrees other t f place k l h = (l, refl, h)

  words_agree : (w : V.Value-F Each) (t : ValType) → passes (tests_in (out-ValType t)) (layer w) ≡ true → (before : List ℕ) (k : List ℕ → lower.Plan) (l : List ℕ → machine.Plan)
      → ((ws : List ℕ) → PlanAgrees (k ws) (l ws))
      → PlanAgrees (entering.words_case (entered home) (low_layer (layer w)) t before k) (machine.words_case (entries_by is_own) (high_layer (layer w)) t before l)
  words_agree (V.String text) t f before k l h =
      text_agrees text (λ to. k (before ++ to ∷ length text ∷ [])) (λ to. l (before ++ to ∷ length text ∷ [])) (λ to. h (before ++ to ∷ length text ∷ []))
  words_agree (V.List es) t f before k l h =
      subst
      (λ (n : ℕ). PlanAgrees (entering.words_case (entered home) (low_layer (layer (V.List es))) t before k) (machine.list_in (part_at t 0) (highs es) (λ to. l (before ++ to ∷ n ∷ []))))
      (same_count es)
      (list_agrees (part_at t 0) es (λ to. k (before ++ to ∷ length (lows es) ∷ [])) (λ to. l (before ++ to ∷ length (lows es) ∷ []))
      (λ n w p is at. element_fits (out-ValType t) (these es) p n w f is at) (λ to. h (before ++ to ∷ length (lows es) ∷ [])))
  words_agree (V.Record es) t f before k l h = field_words_agree (parts_of t) es before k l (λ n w p at is. field_fits (out-ValType t) (these es) n w p f at is) h
  words_agree (V.Variant n (Some e)) t f before k l h =
      payload_words_agree (part_at t n) e (before ++ n ∷ []) (λ words. k (filled (length (flat t)) (length before) words)) (λ words. l (filled (length (flat t)) (length before) words))
      (λ p is. payload_fits (out-ValType t) n e.0 p f is) (λ ws. h (filled (length (flat t)) (length before) ws))
  words_agree (V.Variant n None) t f before k l h =
      no_payload_words_agree (part_at t n) (before ++ n ∷ []) (λ words. k (filled (length (flat t)) (length before) words)) (λ words. l (filled (length (flat t)) (length before) words))
      (λ ws. h (filled (length (flat t)) (length before) ws))
  words_agree (V.Own x) t f before k l h =
      adds_agree (lower.NewOwn x.resource x.rep) (machine.NewOwn x.resource x.rep) (λ index. k (before ++ index ∷ [])) (λ index. l (before ++ index ∷ [])) refl (λ index. h (before ++ index ∷ []))
  words_agree (V.Borrow x) t f before k l h =
      borrow_agrees x.resource x.rep (λ index. k (before ++ index ∷ [])) (λ index. l (before ++ index ∷ [])) (λ index. h (before ++ index ∷ []))
  words_agree (V.Stream x) t f before k l h =
      let of = stream_type t x f in
      adds_agree (lower.NewEnd t x) (machine.NewEnd end_kind.Stream x) (λ index. k (before ++ index ∷ [])) (λ index. l (before ++ index ∷ [])) (end_kind.Stream, of.0, refl, of.1)
      (λ index. h (before ++ index ∷ []))
  words_agree (V.Future x) t f before k l h =
      let of = future_type t x f in
      adds_agree (lower.NewEnd t x) (machine.NewEnd end_kind.Future x) (λ index. k (before ++ index ∷ [])) (λ index. l (before ++ index ∷ [])) (end_kind.Future, of.0, refl, of.1)
      (λ index. h (before ++ index ∷ []))
  words_agree other t f before k l h = h _

  out_of_roll : (x : V.Value-F Value) → out-Value (roll-Value x) ≡ x
  out_of_roll x = search (rules, the_lemmas)

  agreeing_step : (w : V.Value-F Each) → Agreeing (roll-Value (layer w))
  agreeing_step w t f =
      let e : low (roll-Value (layer w)) ≡ entering.lower_step (entered home) (low_layer (layer w)) = fold-roll-Value code.Lowered (entering.lower_step (entered home)) (layer w) in
      let d : high (roll-Value (layer w)) ≡ machine.lower_step (entries_by is_own) (high_layer (layer w)) = fold-roll-Value machine.Lowered (machine.lower_step (entries_by is_own)) (layer w) in
      let fit : passes (tests_in (out-ValType t)) (layer w) ≡ true = by_layers t (roll-Value (layer w)) (layer w) f (out_of_roll (layer w)) in
      record {
        store = λ place k l h. subst (λ (x : code.Lowered). PlanAgrees (x.store t place k) ((high (roll-Value (layer w))).store t place l)) (sym e)
            (subst (λ (x : machine.Lowered). PlanAgrees (entering.store_case (entered home) (low_layer (layer w)) t place k) (x.store t place l)) (sym d) (store_agrees w t fit place k l h));
        words = λ before k l h. subst (λ (x : code.Lowered). PlanAgrees (x.words t before k) ((high (roll-Value (layer w))).words t before l)) (sym e)
            (subst (λ (x : machine.Lowered). PlanAgrees (entering.words_case (entered home) (low_layer (layer w)) t before k) (x.words t before l)) (sym d) (words_agree w t fit before k l h));
      }

  all_agree : (v : Value) → Agreeing v
  all_agree = ind-Value Agreeing (λ x y e. subst (λ (z : V.Value-F Value). Agreeing (roll-Value z)) e (agreeing_step y))

  all_stored_at : (t : ValType) (place : ℕ) (all : List Value) (k : lower.Plan) (l : machine.Plan) → ((n : ℕ) (v : Value) → slice_get all n ≡ Some v → fits v t ≡ true) → PlanAgrees k l
      → PlanAgrees (code.elements_from t place (map low all) k) (machine.elements_from t place (map high all) l)
  all_stored_at t place [] k l f h = h
  all_stored_at t place (v ∷ all) k l f h =
      (all_agree v t (f zero v refl)).store place (code.elements_from t (place + (laid t).size) (map low all) k) (machine.elements_from t (place + (laid t).size) (map high all) l)
      (all_stored_at t (place + (laid t).size) all k l (λ n. f (suc n)) h)

  flat_at : (t : ValType) (v : Value) → fits v t ≡ true → PlanAgrees (entering.flat_lowered (entered home) t v) (machine.flat_lowered (entries_by is_own) t v)
  flat_at t v f = (all_agree v t f).words [] (λ words. lower.Gives words) (λ words. machine.Gives words) (λ ws. refl)

  placed_at : (t : ValType) (v : Value) → fits v t ≡ true → PlanAgrees (entering.placed (entered home) t v) (machine.placed (entries_by is_own) t v)
  placed_at t v f =
      asked_agrees 1 (laid t).align (laid t).size (λ place. (low v).store t place (lower.Gives (place ∷ []))) (λ place. (high v).store t place (machine.Gives (place ∷ [])))
      (λ place. (all_agree v t f).store place (lower.Gives (place ∷ [])) (machine.Gives (place ∷ [])) refl)

  stored_at : (t : ValType) (v : Value) (place : ℕ) → fits v t ≡ true → PlanAgrees (entering.stored (entered home) t v place) (machine.stored (entries_by is_own) t v place)
  stored_at t v place f =
      tested_agrees place (laid t).align (laid t).size ((low v).store t place (lower.Gives [])) ((high v).store t place (machine.Gives []))
      ((all_agree v t f).store place (lower.Gives []) (machine.Gives []) refl)

pub flat_agrees : FlatAgrees
flat_agrees home is_own type v own f = flat_at home is_own own type v f

pub placed_agrees : PlacedAgrees
placed_agrees home is_own type v own f = placed_at home is_own own type v f

pub stored_agrees : StoredAgrees
stored_agrees home is_own type v place own f = stored_at home is_own own type v place f

pub elements_alike : ElementsAgree
elements_alike home is_own type all place own f = all_stored_at home is_own own type place all (lower.Gives []) (machine.Gives []) f refl
