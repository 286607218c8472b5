-- As many core values are given as stand for the type, over any way to enter handles and ends that gives an index.
use Rattle.std.proofs.Common.{◌≡◌, ◌+◌, ◌-◌, ◌*◌, ◌≤◌, ◌&&◌, ℕ, suc, Bool, true, false, List, [], ◌∷◌, ◌++◌, map, length, replicate, Option, Some, None, refl, ap, sym, subst, arith, length-append, rules}
use Rattle.std.proofs.lemmas.List.{length-replicate}
use Rattle.syntax_trees.specs.declared.core_type.CoreType.{CoreType}
use Rattle.syntax_trees.specs.declared.types.ValType.{ValType, out-ValType}
use Rattle.syntax_trees.specs.declared.types.Field.{Field}
use Rattle.syntax_trees.specs.declared.types.ValType.TheOpen as F
use Rattle.syntax_trees.specs.declared.value.Value.{Value, out-Value}
use Rattle.syntax_trees.specs.declared.value.Value.TheOpen as V
use Rattle.syntax_trees.specs.declared.value.Value.TheViews.{the_lemmas, roll-Value}
use Rattle.syntax_trees.specs.declared.value.Value.TheFolds.{map-Value, ind-Value, fold-roll-Value}
use Rattle.syntax_trees.specs.Fits.{test_of, fits, each_passes}
use Rattle.syntax_trees.specs.Flat.{flat, all_of, joined_all}
use Rattle.laid_types.specs.Layout.{laid, aligned}
use Rattle.laid_types.specs.Parts.{parts_of, parts_case, part_at}
use Rattle.laid_types.specs.Gathered.{flats, flat_over}
use Rattle.laid_types.proofs.ByParts.{flat_by_parts}
use Rattle.std.specs.Int.{w32, to_le_bytes}
use Rattle.value_lower.specs.Plan.{New, NewOwn, NewBorrow, NewEnd, Plan, Put}
use Rattle.value_lower.specs.Storing.{Lowered, elements_from, list_in, fields_from, payload_at, field_words, payload_words, filled, pointed, plain_word, flags_number}
use Rattle.value_lower.specs.Entering.{lowered, lower_step, store, flat_words, store_case, words_case}
use Rattle.value_lower.proofs.Fitted.{Layer, tests_in, passes, by_layers, payload_fits}
use Rattle.value_lower.proofs.Bytes.{IsPlain}
use Rattle.value_lower.proofs.FlatWords.{of_joined}
use Rattle.value_lower.proofs.Giving.{AllGive, asked_gives, text_gives}

-- How many core values a layer has.
abbrev count_of : Layer → ℕ
count_of y = length (flat_over y (flats (parts_case y)))

count_is : (t : ValType) → count_of (out-ValType t) ≡ length (flat t)
count_is t = ap (λ (ts : List CoreType). length ts) (sym (flat_by_parts t))

plain_count : (y : Layer) (w : V.Value-F Value) → passes (tests_in y) w ≡ true → IsPlain w → count_of y ≡ 1
plain_count F.String (V.String text) h i = absurd i
plain_count F.String other h i = cc
plain_count (F.Record fields) (V.Record all) h i = absurd i
plain_count (F.Record fields) other h i = cc
plain_count (F.Variant cases) (V.Variant n payload) h i = absurd i
plain_count (F.Variant cases) other h i = cc
plain_count (F.List element) (V.List all) h i = absurd i
plain_count (F.List element) other h i = cc
plain_count (F.Tuple parts) (V.Record all) h i = absurd i
plain_count (F.Tuple parts) other h i = cc
plain_count (F.Enum labels) (V.Variant n payload) h i = absurd i
plain_count (F.Enum labels) other h i = cc
plain_count (F.Option part) (V.Variant n payload) h i = absurd i
plain_count (F.Option part) other h i = cc
plain_count (F.Result ok err) (V.Variant n payload) h i = absurd i
plain_count (F.Result ok err) other h i = cc
plain_count other w h i = refl

flags_count : (y : Layer) (flags : List Bool) → passes (tests_in y) (V.Flags flags) ≡ true → count_of y ≡ 1
flags_count (F.Flags labels) flags h = refl
flags_count other flags h = cc

text_count : (y : Layer) (text : List ℕ) → passes (tests_in y) (V.String text) ≡ true → count_of y ≡ 2
text_count F.String text h = refl
text_count other text h = cc

list_count : (y : Layer) (all : List Value) → passes (tests_in y) (V.List all) ≡ true → count_of y ≡ 2
list_count (F.List t) all h = refl
list_count other all h = cc

cases_count : (y : Layer) (n : ℕ) (payload : Option Value) → passes (tests_in y) (V.Variant n payload) ≡ true → count_of y ≡ suc (length (joined_all (flats (parts_case y))))
cases_count (F.Variant cases) n payload h = refl
cases_count (F.Enum labels) n payload h = refl
cases_count (F.Option part) n payload h = refl
cases_count (F.Result ok err) n payload h = refl
cases_count other n payload h = cc

-- Values that are each of the type at their place.
abbrev Row : List (Option ValType) → List Value → Type 0
Row [] [] = Unit {0}
Row [] (v ∷ all) = ⊥
Row (None ∷ types) all = ⊥
Row (Some t ∷ types) [] = ⊥
Row (Some t ∷ types) (v ∷ all) = (fits v t ≡ true) × Row types all

and_left_true : (a b : Bool) → (a && b) ≡ true → a ≡ true
and_left_true true b h = refl
and_left_true false b h = cc

and_right_true : (a b : Bool) → (a && b) ≡ true → b ≡ true
and_right_true true b h = h
and_right_true false b h = cc

row_of : {A : Type 0} (f : A → ValType) (xs : List A) (all : List Value) → each_passes (map (λ (x : A). test_of (f x)) xs) all ≡ true → Row (map (λ (x : A). Some (f x)) xs) all
row_of f [] [] h = tt
row_of f [] (v ∷ all) h = cc
row_of f (x ∷ xs) [] h = cc
row_of f (x ∷ xs) (v ∷ all) h = (and_left_true (test_of (f x) v) _ h, row_of f xs all (and_right_true (test_of (f x) v) _ h))

row_count : (y : Layer) (all : List Value) → passes (tests_in y) (V.Record all) ≡ true → Row (parts_case y) all × (count_of y ≡ length (all_of (flats (parts_case y))))
row_count (F.Record fields) all h = (row_of (λ (f : Field). f.val_type) fields all h, refl)
row_count (F.Tuple parts) all h = (row_of (λ (t : ValType). t) parts all h, refl)
row_count other all h = cc

filled_count : (count others : ℕ) (words : List ℕ) → others ≤ length words → length words ≤ others + count → length (filled count others words) ≡ others + count
filled_count count others words h i =
    let zeros : List ℕ = replicate (count - (length words - others)) 0 in
    let e : length zeros ≡ count - (length words - others) = length-replicate (count - (length words - others)) 0 in
    let all : length (words ++ zeros) ≡ length words + length zeros = length-append words zeros in
    omega (arith, e, all)

module _ (enter : New → (ℕ → Plan) → Plan) (Q : List ℕ → Type 0)
    (gives : (entry : New) (k : ℕ → Plan) → ((index : ℕ) → AllGive Q (k index)) → AllGive Q (enter entry k)) where
  -- Whatever follows gives such core values, if it does so behind as many as stand for the type.
  pub record Good (v : Value) : Type 0 where
    pub store : (t : ValType) (place : ℕ) (k : Plan) → AllGive Q k → AllGive Q (store enter t v place k)
    pub words : (t : ValType) (before : List ℕ) (k : List ℕ → Plan) → fits v t ≡ true
        → ((ws : List ℕ) → length ws ≡ length before + length (flat t) → AllGive Q (k ws)) → AllGive Q (flat_words enter t v before k)

  abbrev Goods : Type 0
  Goods = (v : Value) × Good v

  abbrev these : List Goods → List Value
  these es = map (λ (e : Goods). e.0) es

  elements_give : (t : ValType) (place : ℕ) (es : List Goods) (k : Plan) → AllGive Q k → AllGive Q (elements_from t place (map (lowered enter) (these es)) k)
  elements_give t place [] k h = h
  elements_give t place (e ∷ es) k h = e.1.store t place (elements_from t (place + (laid t).size) (map (lowered enter) (these es)) k) (elements_give t (place + (laid t).size) es k h)

  list_gives : (o : Option ValType) (es : List Goods) (k : ℕ → Plan) → ((place : ℕ) → AllGive Q (k place)) → AllGive Q (list_in o (map (lowered enter) (these es)) k)
  list_gives (Some t) es k h =
      asked_gives Q (length (map (lowered enter) (these es))) (laid t).align (length (map (lowered enter) (these es)) * (laid t).size) (λ place. elements_from t place (map (lowered enter) (these es)) (k place))
      (λ place low few. elements_give t place es (k place) (h place))
  list_gives None es k h = tt

  fields_give : (place end : ℕ) (types : List (Option ValType)) (es : List Goods) (k : Plan) → AllGive Q k → AllGive Q (fields_from place end types (map (lowered enter) (these es)) k)
  fields_give place end [] es k h = h
  fields_give place end (t ∷ types) [] k h = h
  fields_give place end (None ∷ types) (e ∷ es) k h = fields_give place end types es k h
  fields_give place end (Some t ∷ types) (e ∷ es) k h =
      e.1.store t (place + aligned end (laid t).align) (fields_from place (aligned end (laid t).align + (laid t).size) types (map (lowered enter) (these es)) k)
      (fields_give place (aligned end (laid t).align + (laid t).size) types es k h)

  payload_gives : (o : Option ValType) (e : Goods) (place : ℕ) (k : Plan) → AllGive Q k → AllGive Q (payload_at o (Some (lowered enter e.0)) place k)
  payload_gives (Some t) e place k h = e.1.store t place k h
  payload_gives None e place k h = h

  no_payload_gives : (o : Option ValType) (place : ℕ) (k : Plan) → AllGive Q k → AllGive Q (payload_at o None place k)
  no_payload_gives (Some t) place k h = h
  no_payload_gives None place k h = h

  abbrev layer : V.Value-F Goods → V.Value-F Value
  layer w = map-Value Goods Value (λ (e : Goods). e.0) w

  abbrev in_layer : V.Value-F Value → V.Value-F Lowered
  in_layer w = map-Value Value Lowered (lowered enter) w

  store_gives : (w : V.Value-F Goods) (t : ValType) (place : ℕ) (k : Plan) → AllGive Q k → AllGive Q (store_case enter (in_layer (layer w)) t place k)
  store_gives (V.String text) t place k h = text_gives Q text (λ to. pointed place to (length text) k) (λ to low few. h)
  store_gives (V.List es) t place k h = list_gives (part_at t 0) es (λ to. pointed place to (length (map (lowered enter) (these es))) k) (λ to. h)
  store_gives (V.Record es) t place k h = fields_give place 0 (parts_of t) es k h
  store_gives (V.Variant n (Some e)) t place k h = payload_gives (part_at t n) e _ k h
  store_gives (V.Variant n None) t place k h = no_payload_gives (part_at t n) _ k h
  store_gives (V.Own w) t place k h = gives (NewOwn w.resource w.rep) (λ index. Put place (to_le_bytes w32 index) k) (λ index. h)
  store_gives (V.Borrow w) t place k h = gives (NewBorrow w.resource w.rep) (λ index. Put place (to_le_bytes w32 index) k) (λ index. h)
  store_gives (V.Stream w) t place k h = gives (NewEnd t w) (λ index. Put place (to_le_bytes w32 index) k) (λ index. h)
  store_gives (V.Future w) t place k h = gives (NewEnd t w) (λ index. Put place (to_le_bytes w32 index) k) (λ index. h)
  store_gives other t place k h = h

  fields_count : (types : List (Option ValType)) (es : List Goods) (before : List ℕ) (k : List ℕ → Plan) → Row types (these es)
      → ((ws : List ℕ) → length ws ≡ length before + length (all_of (flats types)) → AllGive Q (k ws)) → AllGive Q (field_words types (map (lowered enter) (these es)) before k)
  fields_count [] [] before k r h = h before (omega arith)
  fields_count [] (e ∷ es) before k r h = absurd r
  fields_count (None ∷ types) es before k r h = absurd r
  fields_count (Some t ∷ types) [] before k r h = absurd r
  fields_count (Some t ∷ types) (e ∷ es) before k r h =
      e.1.words t before (λ words. field_words types (map (lowered enter) (these es)) words k) r.0
      (λ ws i. fields_count types es ws k r.1 (λ us j. h us (omega (arith, i, j, length-append (flat t) (all_of (flats types))))))

  payload_count : (t : ValType) (o : Option ValType) (e : Goods) (before : List ℕ) (k : List ℕ → Plan)
      → ((p : ValType) → o ≡ Some p → (fits e.0 p ≡ true) × (suc (length (flat p)) ≤ length (flat t)))
      → 1 ≤ length (flat t)
      → ((ws : List ℕ) → length before ≤ length ws → length ws + 1 ≤ length before + length (flat t) → AllGive Q (k ws)) → AllGive Q (payload_words o (Some (lowered enter e.0)) before k)
  payload_count t (Some p) e before k g m h =
      let q = g p refl in
      e.1.words p before k q.0 (λ ws i. h ws (omega (arith, i)) (omega (arith, i, q.1)))
  payload_count t None e before k g m h = h before (omega arith) (omega (arith, m))

  no_payload_count : (t : ValType) (o : Option ValType) (before : List ℕ) (k : List ℕ → Plan) → 1 ≤ length (flat t)
      → ((ws : List ℕ) → length before ≤ length ws → length ws + 1 ≤ length before + length (flat t) → AllGive Q (k ws)) → AllGive Q (payload_words o None before k)
  no_payload_count t (Some p) before k m h = h before (omega arith) (omega (arith, m))
  no_payload_count t None before k m h = h before (omega arith) (omega (arith, m))

  abbrev WordsGive : V.Value-F Goods → Type 0
  WordsGive w = (t : ValType) (before : List ℕ) (k : List ℕ → Plan) → passes (tests_in (out-ValType t)) (layer w) ≡ true
      → ((ws : List ℕ) → length ws ≡ length before + length (flat t) → AllGive Q (k ws)) → AllGive Q (words_case enter (in_layer (layer w)) t before k)

  one_more : (before : List ℕ) (w : ℕ) → length (before ++ w ∷ []) ≡ length before + 1
  one_more before w = length-append before (w ∷ [])

  case_gives : (t : ValType) (n : ℕ) (before : List ℕ) (k : List ℕ → Plan)
      → ((ws : List ℕ) → length ws ≡ length before + length (flat t) → AllGive Q (k ws)) → (ws : List ℕ) → length (before ++ n ∷ []) ≤ length ws
      → length ws + 1 ≤ length (before ++ n ∷ []) + length (flat t) → AllGive Q (k (filled (length (flat t)) (length before) ws))
  case_gives t n before k g ws i j =
      g (filled (length (flat t)) (length before) ws) (filled_count (length (flat t)) (length before) ws (omega (arith, one_more before n, i)) (omega (arith, one_more before n, j)))

  plain_gives : (w : V.Value-F Value) (word : ℕ) → IsPlain w → (t : ValType) (before : List ℕ) (k : List ℕ → Plan) → passes (tests_in (out-ValType t)) w ≡ true
      → ((ws : List ℕ) → length ws ≡ length before + length (flat t) → AllGive Q (k ws)) → AllGive Q (k (before ++ word ∷ []))
  plain_gives w word i t before k h g = g (before ++ word ∷ []) (omega (arith, one_more before word, plain_count (out-ValType t) w h i, count_is t))

  words_give : (w : V.Value-F Goods) → WordsGive w
  words_give (V.String text) = λ t before k h g. text_gives Q text (λ to. k (before ++ to ∷ length text ∷ [])) (λ to low few.
      g (before ++ to ∷ length text ∷ []) (omega (arith, length-append before (to ∷ length text ∷ []), text_count (out-ValType t) text h, count_is t)))
  words_give (V.List es) = λ t before k h g. list_gives (part_at t 0) es (λ to. k (before ++ to ∷ length (map (lowered enter) (these es)) ∷ [])) (λ to.
      g (before ++ to ∷ length (map (lowered enter) (these es)) ∷ []) (omega (arith, length-append before (to ∷ length (map (lowered enter) (these es)) ∷ []), list_count (out-ValType t) (these es) h, count_is t)))
  words_give (V.Record es) = λ t before k h g.
      let r = row_count (out-ValType t) (these es) h in
      fields_count (parts_of t) es before k r.0 (λ ws i. g ws (omega (arith, i, r.1, count_is t)))
  words_give (V.Variant n (Some e)) = λ t before k h g.
      let c = cases_count (out-ValType t) n (Some e.0) h in
      payload_count t (part_at t n) e (before ++ n ∷ []) (λ words. k (filled (length (flat t)) (length before) words))
      (λ p i. (payload_fits (out-ValType t) n e.0 p h i, omega (arith, c, count_is t, of_joined (parts_of t) n p i)))
      (omega (arith, c, count_is t)) (case_gives t n before k g)
  words_give (V.Variant n None) = λ t before k h g.
      let c = cases_count (out-ValType t) n None h in
      no_payload_count t (part_at t n) (before ++ n ∷ []) (λ words. k (filled (length (flat t)) (length before) words)) (omega (arith, c, count_is t)) (case_gives t n before k g)
  words_give (V.Flags flags) = λ t before k h g. g _ (omega (arith, one_more before (flags_number flags), flags_count (out-ValType t) flags h, count_is t))
  words_give (V.Own w) = λ t before k h g. gives (NewOwn w.resource w.rep) (λ index. k (before ++ index ∷ [])) (λ index. plain_gives (V.Own w) index tt t before k h g)
  words_give (V.Borrow w) = λ t before k h g. gives (NewBorrow w.resource w.rep) (λ index. k (before ++ index ∷ [])) (λ index. plain_gives (V.Borrow w) index tt t before k h g)
  words_give (V.Stream w) = λ t before k h g. gives (NewEnd t w) (λ index. k (before ++ index ∷ [])) (λ index. plain_gives (V.Stream w) index tt t before k h g)
  words_give (V.Future w) = λ t before k h g. gives (NewEnd t w) (λ index. k (before ++ index ∷ [])) (λ index. plain_gives (V.Future w) index tt t before k h g)
  words_give (V.Bool b) = λ t before k h g. plain_gives (V.Bool b) (plain_word (layer (V.Bool b))) tt t before k h g
  words_give (V.S8 n) = λ t before k h g. plain_gives (V.S8 n) (plain_word (layer (V.S8 n))) tt t before k h g
  words_give (V.U8 n) = λ t before k h g. plain_gives (V.U8 n) (plain_word (layer (V.U8 n))) tt t before k h g
  words_give (V.S16 n) = λ t before k h g. plain_gives (V.S16 n) (plain_word (layer (V.S16 n))) tt t before k h g
  words_give (V.U16 n) = λ t before k h g. plain_gives (V.U16 n) (plain_word (layer (V.U16 n))) tt t before k h g
  words_give (V.S32 n) = λ t before k h g. plain_gives (V.S32 n) (plain_word (layer (V.S32 n))) tt t before k h g
  words_give (V.U32 n) = λ t before k h g. plain_gives (V.U32 n) (plain_word (layer (V.U32 n))) tt t before k h g
  words_give (V.S64 n) = λ t before k h g. plain_gives (V.S64 n) (plain_word (layer (V.S64 n))) tt t before k h g
  words_give (V.U64 n) = λ t before k h g. plain_gives (V.U64 n) (plain_word (layer (V.U64 n))) tt t before k h g
  words_give (V.Char c) = λ t before k h g. plain_gives (V.Char c) (plain_word (layer (V.Char c))) tt t before k h g

  out_of_roll : (x : V.Value-F Value) → out-Value (roll-Value x) ≡ x
  out_of_roll x = search (rules, the_lemmas)

  good_step : (w : V.Value-F Goods) → Good (roll-Value (layer w))
  good_step w =
      let e : lowered enter (roll-Value (layer w)) ≡ lower_step enter (in_layer (layer w)) = fold-roll-Value Lowered (lower_step enter) (layer w) in
      record {
        store = λ t place k h. subst (λ (l : Lowered). AllGive Q (l.store t place k)) (sym e) (store_gives w t place k h);
        words = λ t before k f h. subst (λ (l : Lowered). AllGive Q (l.words t before k)) (sym e)
            (words_give w t before k (by_layers t (roll-Value (layer w)) (layer w) f (out_of_roll (layer w))) h);
      }

  pub good : (v : Value) → Good v
  good = ind-Value Good (λ x y e. subst (λ (z : V.Value-F Value). Good (roll-Value z)) e (good_step y))

  pub words_all_give : (v : Value) (t : ValType) (before : List ℕ) (k : List ℕ → Plan) → fits v t ≡ true
      → ((ws : List ℕ) → length ws ≡ length before + length (flat t) → AllGive Q (k ws)) → AllGive Q (flat_words enter t v before k)
  words_all_give v = (good v).words
