-- What a plan of a lowering adds to a table: as many borrow handles as the value holds of resources that the instance doesn't define, and its ends.
use Rattle.std.proofs.Common.{◌≡◌, ◌∙◌, ◌+◌, ◌*◌, ℕ, zero, suc, nat_lt, Bool, true, false, ◌&&◌, if◌then◌else◌, List, [], ◌∷◌, ◌++◌, map, length, Option, Some, None, refl, sym, ap, subst, arith, rules}
use Rattle.std.specs.Prelude.{◌^◌, ◌%◌, ◌==◌, nat_le}
use Rattle.std.specs.List.{slice_get}
use Rattle.std.specs.Option.{option_and_then}
use Rattle.std.specs.Int.{w32, to_le_bytes}
use Rattle.std.proofs.lemmas.Bool.{ne_eqb}
use Rattle.syntax_trees.specs.declared.types.ValType.{ValType, out-ValType}
use Rattle.syntax_trees.specs.declared.types.Case.{Case}
use Rattle.syntax_trees.specs.declared.types.Field.{Field}
use Rattle.syntax_trees.specs.declared.types.ValType.TheOpen as F
use Rattle.syntax_trees.specs.declared.value.Value.{Value, out-Value, fold-Value}
use Rattle.syntax_trees.specs.declared.value.Value.TheOpen as V
use Rattle.syntax_trees.specs.declared.value.Value.TheViews.{the_lemmas, roll-Value}
use Rattle.syntax_trees.specs.declared.value.Value.TheFolds.{map-Value, ind-Value, fold-roll-Value}
use Rattle.syntax_trees.specs.Fits.{Test, test_of, payload_test, payload_passes, case_passes, is_either, fits, all_pass, each_passes}
use Rattle.syntax_trees.specs.Flat.{flat}
use Rattle.laid_types.specs.Layout.{laid, aligned}
use Rattle.laid_types.specs.Parts.{parts_of, parts_case, part_at}
use Rattle.res_handles.specs.Calls.{is_defined}
use Rattle.value_lower.specs.declared.ends.LowerWhy.TheVariants.{Misaligned, Bounds, TableFull}
use Rattle.value_lower.specs.Plan.{New, NewOwn, NewBorrow, NewEnd, Plan, Gives, Fails, Asks, Size, Put, Adds}
use Rattle.value_lower.specs.Storing.{Lowered, tested, asked, text_in, elements_from, list_in, fields_from, payload_at, field_words, payload_words, filled, pointed, plain_word, flags_number}
use Rattle.value_lower.specs.Entering.{lowered, lower_step, store, flat_words, stored, all_stored, flat_lowered, placed, store_case, words_case}
use Rattle.value_lower.specs.Tables.{with_index, entered}
use Rattle.value_lower.proofs.Fitted.{Layer, tests_in, passes, by_layers, element_fits, payload_fits}

-- How many borrows a value holds of resources that an instance doesn't define.
abbrev pub total : List ℕ → ℕ
total [] = 0
total (n ∷ ns) = n + total ns

abbrev pub borrow_steps : List ℕ → V.Value-F ℕ → ℕ
borrow_steps home (V.List all) = total all
borrow_steps home (V.Record all) = total all
borrow_steps home (V.Variant n (Some k)) = k
borrow_steps home (V.Variant n None) = 0
borrow_steps home (V.Borrow x) = if is_defined x.resource home then 0 else 1
borrow_steps home other = 0

abbrev pub borrow_count : List ℕ → Value → ℕ
borrow_count home = fold-Value ℕ (borrow_steps home)

abbrev pub all_count : List ℕ → List Value → ℕ
all_count home all = total (map (borrow_count home) all)

-- The ends in a value of a type, with the types of their streams and futures.
abbrev pub Ends : Type 0
Ends = List (ValType × ℕ)

abbrev pub in_elements : ValType → List (ValType → Ends) → Ends
in_elements t [] = []
in_elements t (f ∷ fs) = f t ++ in_elements t fs

abbrev pub in_list : Option ValType → List (ValType → Ends) → Ends
in_list None fs = []
in_list (Some t) fs = in_elements t fs

abbrev pub in_fields : List (Option ValType) → List (ValType → Ends) → Ends
in_fields [] fs = []
in_fields (o ∷ types) [] = []
in_fields (None ∷ types) (f ∷ fs) = in_fields types fs
in_fields (Some t ∷ types) (f ∷ fs) = f t ++ in_fields types fs

abbrev pub in_payload : Option ValType → (ValType → Ends) → Ends
in_payload None f = []
in_payload (Some t) f = f t

abbrev pub end_steps : V.Value-F (ValType → Ends) → ValType → Ends
end_steps (V.List fs) t = in_list (part_at t 0) fs
end_steps (V.Record fs) t = in_fields (parts_of t) fs
end_steps (V.Variant n (Some f)) t = in_payload (part_at t n) f
end_steps (V.Variant n None) t = []
end_steps (V.Stream number) t = (t, number) ∷ []
end_steps (V.Future number) t = (t, number) ∷ []
end_steps other t = []

abbrev pub ends_typed : Value → ValType → Ends
ends_typed = fold-Value (ValType → Ends) end_steps

abbrev pub AreAll : (ValType → ℕ → Type 0) → Ends → Type 0
AreAll P [] = Unit {0}
AreAll P (e ∷ es) = P e.0 e.1 × AreAll P es

pub all_parts : (P : ValType → ℕ → Type 0) (xs ys : Ends) → AreAll P (xs ++ ys) → AreAll P xs × AreAll P ys
all_parts P [] ys h = (tt, h)
all_parts P (x ∷ xs) ys h = (let rest = all_parts P xs ys h.1 in ((h.0, rest.0), rest.1))

-- So many borrow handles a plan adds, whatever is answered, and of each end that it adds this is so. Where the table is full it fails.
abbrev pub Counted : (ValType → ℕ → Type 0) → Plan → ℕ → Type 0
Counted P (Gives words) n = n ≡ 0
Counted P (Fails why) n = Unit {0}
Counted P (Asks ask k) n = (place : ℕ) → Counted P (k place) n
Counted P (Size k) n = (size : ℕ) → Counted P (k size) n
Counted P (Put place bytes k) n = Counted P k n
Counted P (Adds (NewOwn resource rep) k) n = ((index : ℕ) → Counted P (k (Some index)) n) × (k None ≡ Fails TableFull)
Counted P (Adds (NewBorrow resource rep) k) n = (m : ℕ) × (n ≡ m + 1) × ((index : ℕ) → Counted P (k (Some index)) m) × (k None ≡ Fails TableFull)
Counted P (Adds (NewEnd type number) k) n = P type number × ((index : ℕ) → Counted P (k (Some index)) n) × (k None ≡ Fails TableFull)

-- Of a record each part is there, and fits; and so is a payload where there is one.
abbrev pub Row : List (Option ValType) → List Value → Type 0
Row [] [] = Unit {0}
Row [] (v ∷ all) = ⊥
Row (None ∷ types) all = ⊥
Row (Some t ∷ types) [] = ⊥
Row (Some t ∷ types) (v ∷ all) = (fits v t ≡ true) × Row types all

both_left : (a b : Bool) → (a && b) ≡ true → a ≡ true
both_left true b h = refl
both_left false b h = absurd (cc)

both_right : (a b : Bool) → (a && b) ≡ true → b ≡ true
both_right true b h = h
both_right false b h = absurd (cc)

row_of : {A : Type 0} (f : A → ValType) (xs : List A) (all : List Value) → each_passes (map (λ (x : A). test_of (f x)) xs) all ≡ true → Row (map (λ (x : A). Some (f x)) xs) all
row_of f [] [] h = tt
row_of f [] (v ∷ all) h = absurd (cc)
row_of f (x ∷ xs) [] h = absurd (cc)
row_of f (x ∷ xs) (v ∷ all) h = (both_left (test_of (f x) v) _ h, row_of f xs all (both_right (test_of (f x) v) _ h))

pub row_fits : (y : Layer) (all : List Value) → passes (tests_in y) (V.Record all) ≡ true → Row (parts_case y) all
row_fits (F.Record fields) all h = row_of (λ (f : Field). f.val_type) fields all h
row_fits (F.Tuple parts) all h = row_of (λ (t : ValType). t) parts all h
row_fits other all h = absurd (cc)

case_there : (cases : List Case) (n : ℕ) (v : Value) → case_passes (slice_get (map (λ (c : Case). payload_test c.payload) cases) n) (Some v) ≡ true
    → option_and_then (λ part. part) (slice_get (map (λ (c : Case). c.payload) cases) n) ≡ None → ⊥
case_there [] n v h i = cc
case_there (c ∷ cases) zero v h i = (let none : payload_passes None (Some v) ≡ true = ap (λ (o : Option Test). payload_passes o (Some v)) (sym (ap payload_test i)) ∙ h in cc)
case_there (c ∷ cases) (suc n) v h i = case_there cases n v h i

one_there : (o : Option ValType) (v : Value) → payload_passes (payload_test o) (Some v) ≡ true → o ≡ None → ⊥
one_there o v h i = (let none : payload_passes None (Some v) ≡ true = ap (λ (o : Option Test). payload_passes o (Some v)) (sym (ap payload_test i)) ∙ h in cc)

neither_there : (b c x y : Bool) → b ≡ false → c ≡ false → (if b then x else (if c then y else false)) ≡ true → ⊥
neither_there true c x y e f h = cc
neither_there false true x y e f h = cc
neither_there false false x y e f h = cc

either_there : (ok err : Option ValType) (n : ℕ) (v : Value) → is_either (payload_test ok) (payload_test err) (V.Variant n (Some v)) ≡ true
    → option_and_then (λ part. part) (slice_get (ok ∷ err ∷ []) n) ≡ None → ⊥
either_there ok err zero v h i = one_there ok v h i
either_there ok err (suc zero) v h i = one_there err v h i
either_there ok err (suc (suc n)) v h i =
    neither_there (suc (suc n) == 0) (suc (suc n) == 1) (payload_passes (payload_test ok) (Some v)) (payload_passes (payload_test err) (Some v))
    (ne_eqb (suc (suc n)) 0 (λ e. omega (arith, e))) (ne_eqb (suc (suc n)) 1 (λ e. omega (arith, e))) h

pub payload_there : (y : Layer) (n : ℕ) (v : Value) → passes (tests_in y) (V.Variant n (Some v)) ≡ true → option_and_then (λ part. part) (slice_get (parts_case y) n) ≡ None → ⊥
payload_there (F.Variant cases) n v h i = case_there cases n v h i
payload_there (F.Enum labels) n v h i = cc
payload_there (F.Option part) n v h i = either_there None (Some part) n v h i
payload_there (F.Result None None) n v h i = either_there None None n v h i
payload_there (F.Result None (Some e)) n v h i = either_there None (Some e) n v h i
payload_there (F.Result (Some o) None) n v h i = either_there (Some o) None n v h i
payload_there (F.Result (Some o) (Some e)) n v h i = either_there (Some o) (Some e) n v h i
payload_there other n v h i = cc

module _ (home : List ℕ) (P : ValType → ℕ → Type 0) where
  none_more : (k : Plan) (n : ℕ) → Counted P k n → Counted P k (0 + n)
  none_more k n p = subst (λ (m : ℕ). Counted P k m) (let same : n ≡ 0 + n = omega arith in same) p

  if_counted : (b : Bool) (k l : Plan) (n : ℕ) → Counted P k n → Counted P l n → Counted P (if b then k else l) n
  if_counted true k l n p q = p
  if_counted false k l n p q = q

  tested_counted : (place align size : ℕ) (k : Plan) (n : ℕ) → Counted P k n → Counted P (tested place align size k) n
  tested_counted place align size k n p =
      if_counted (place % align == 0) (Size (λ there. if nat_le (place + size) there then k else Fails Bounds)) (Fails Misaligned) n
      (λ there. if_counted (nat_le (place + size) there) k (Fails Bounds) n p tt) tt

  asked_counted : (count align size : ℕ) (k : ℕ → Plan) (n : ℕ) → ((place : ℕ) → Counted P (k place) n) → Counted P (asked count align size k) n
  asked_counted count align size k n p =
      if_counted (nat_lt count (2 ^ 32) && nat_lt size (2 ^ 32)) (Asks (record { old = 0; old_size = 0; align = align; size = size }) (λ place. tested place align size (k place))) (Fails Bounds) n
      (λ place. tested_counted place align size (k place) n (p place)) tt

  -- What is entered.
  own_counted : (resource rep : ℕ) (k : ℕ → Plan) (n : ℕ) → ((index : ℕ) → Counted P (k index) n) → Counted P (entered home (NewOwn resource rep) k) (0 + n)
  own_counted resource rep k n p = (λ index. none_more (k index) n (p index), refl)

  end_counted : (type : ValType) (number : ℕ) (k : ℕ → Plan) (n : ℕ) → P type number → ((index : ℕ) → Counted P (k index) n) → Counted P (entered home (NewEnd type number) k) (0 + n)
  end_counted type number k n good p = (good, λ index. none_more (k index) n (p index), refl)

  borrow_counted : (b : Bool) (resource rep : ℕ) (k : ℕ → Plan) (n : ℕ) → ((index : ℕ) → Counted P (k index) n)
      → Counted P (if b then k rep else Adds (NewBorrow resource rep) (with_index k)) ((if b then 0 else 1) + n)
  borrow_counted true resource rep k n p = subst (λ (m : ℕ). Counted P (k rep) m) (let same : n ≡ 0 + n = omega arith in same) (p rep)
  borrow_counted false resource rep k n p = (n, (let same : 1 + n ≡ n + 1 = omega arith in same), p, refl)

  -- A value:
  pub record Good (v : Value) : Type 0 where
    pub store : (t : ValType) (place : ℕ) (k : Plan) (n : ℕ) → fits v t ≡ true → AreAll P (ends_typed v t) → Counted P k n
        → Counted P (store (entered home) t v place k) (borrow_count home v + n)
    pub words : (t : ValType) (before : List ℕ) (k : List ℕ → Plan) (n : ℕ) → fits v t ≡ true → AreAll P (ends_typed v t) → ((ws : List ℕ) → Counted P (k ws) n)
        → Counted P (flat_words (entered home) t v before k) (borrow_count home v + n)

  abbrev Goods : Type 0
  Goods = (v : Value) × Good v

  abbrev these : List Goods → List Value
  these es = map (λ (e : Goods). e.0) es

  abbrev counts_of : List Goods → ℕ
  counts_of es = total (map (borrow_count home) (these es))

  abbrev typed_of : List Goods → List (ValType → Ends)
  typed_of es = map ends_typed (these es)

  one_and_more : (k : Plan) (a b n : ℕ) → Counted P k (a + (b + n)) → Counted P k ((a + b) + n)
  one_and_more k a b n p = subst (λ (m : ℕ). Counted P k m) (let same : a + (b + n) ≡ (a + b) + n = omega arith in same) p

  elements_counted : (t : ValType) (place : ℕ) (es : List Goods) (k : Plan) (n : ℕ) → ((m : ℕ) (w : Value) → slice_get (these es) m ≡ Some w → fits w t ≡ true)
      → AreAll P (in_elements t (typed_of es)) → Counted P k n → Counted P (elements_from t place (map (lowered (entered home)) (these es)) k) (counts_of es + n)
  elements_counted t place [] k n fit ends p = none_more k n p
  elements_counted t place (e ∷ es) k n fit ends p =
      let both = all_parts P (ends_typed e.0 t) (in_elements t (typed_of es)) ends in
      one_and_more (elements_from t place (map (lowered (entered home)) (these (e ∷ es))) k) (borrow_count home e.0) (counts_of es) n
      (e.1.store t place (elements_from t (place + (laid t).size) (map (lowered (entered home)) (these es)) k) (counts_of es + n) (fit 0 e.0 refl) both.0
      (elements_counted t (place + (laid t).size) es k n (λ m w there. fit (suc m) w there) both.1 p))

  list_counted : (o : Option ValType) (es : List Goods) (k : ℕ → Plan) (n : ℕ) → ((t : ValType) (m : ℕ) (w : Value) → o ≡ Some t → slice_get (these es) m ≡ Some w → fits w t ≡ true)
      → AreAll P (in_list o (typed_of es)) → ((place : ℕ) → Counted P (k place) n) → Counted P (list_in o (map (lowered (entered home)) (these es)) k) (counts_of es + n)
  list_counted (Some t) es k n fit ends p =
      asked_counted (length (map (lowered (entered home)) (these es))) (laid t).align (length (map (lowered (entered home)) (these es)) * (laid t).size)
      (λ place. elements_from t place (map (lowered (entered home)) (these es)) (k place)) (counts_of es + n)
      (λ place. elements_counted t place es (k place) n (λ m w there. fit t m w refl there) ends (p place))
  list_counted None es k n fit ends p = tt

  fields_counted : (place end : ℕ) (types : List (Option ValType)) (es : List Goods) (k : Plan) (n : ℕ) → Row types (these es) → AreAll P (in_fields types (typed_of es)) → Counted P k n
      → Counted P (fields_from place end types (map (lowered (entered home)) (these es)) k) (counts_of es + n)
  fields_counted place end [] [] k n row ends p = none_more k n p
  fields_counted place end [] (e ∷ es) k n row ends p = absurd row
  fields_counted place end (None ∷ types) es k n row ends p = absurd row
  fields_counted place end (Some t ∷ types) [] k n row ends p = absurd row
  fields_counted place end (Some t ∷ types) (e ∷ es) k n row ends p =
      let both = all_parts P (ends_typed e.0 t) (in_fields types (typed_of es)) ends in
      one_and_more (fields_from place end (Some t ∷ types) (map (lowered (entered home)) (these (e ∷ es))) k) (borrow_count home e.0) (counts_of es) n
      (e.1.store t (place + aligned end (laid t).align) (fields_from place (aligned end (laid t).align + (laid t).size) types (map (lowered (entered home)) (these es)) k) (counts_of es + n) row.0 both.0
      (fields_counted place (aligned end (laid t).align + (laid t).size) types es k n row.1 both.1 p))

  payload_counted : (o : Option ValType) (e : Goods) (place : ℕ) (k : Plan) (n : ℕ) → ((t : ValType) → o ≡ Some t → fits e.0 t ≡ true) → (o ≡ None → ⊥)
      → AreAll P (in_payload o (ends_typed e.0)) → Counted P k n → Counted P (payload_at o (Some (lowered (entered home) e.0)) place k) (borrow_count home e.0 + n)
  payload_counted (Some t) e place k n fit there ends p = e.1.store t place k n (fit t refl) ends p
  payload_counted None e place k n fit there ends p = absurd (there refl)

  no_payload_counted : (o : Option ValType) (place : ℕ) (k : Plan) (n : ℕ) → Counted P k n → Counted P (payload_at o None place k) (0 + n)
  no_payload_counted (Some t) place k n p = none_more k n p
  no_payload_counted None place k n p = none_more k n p

  field_words_counted : (types : List (Option ValType)) (es : List Goods) (before : List ℕ) (k : List ℕ → Plan) (n : ℕ) → Row types (these es) → AreAll P (in_fields types (typed_of es))
      → ((ws : List ℕ) → Counted P (k ws) n) → Counted P (field_words types (map (lowered (entered home)) (these es)) before k) (counts_of es + n)
  field_words_counted [] [] before k n row ends p = none_more (k before) n (p before)
  field_words_counted [] (e ∷ es) before k n row ends p = absurd row
  field_words_counted (None ∷ types) es before k n row ends p = absurd row
  field_words_counted (Some t ∷ types) [] before k n row ends p = absurd row
  field_words_counted (Some t ∷ types) (e ∷ es) before k n row ends p =
      let both = all_parts P (ends_typed e.0 t) (in_fields types (typed_of es)) ends in
      one_and_more (field_words (Some t ∷ types) (map (lowered (entered home)) (these (e ∷ es))) before k) (borrow_count home e.0) (counts_of es) n
      (e.1.words t before (λ words. field_words types (map (lowered (entered home)) (these es)) words k) (counts_of es + n) row.0 both.0
      (λ ws. field_words_counted types es ws k n row.1 both.1 p))

  payload_words_counted : (o : Option ValType) (e : Goods) (before : List ℕ) (k : List ℕ → Plan) (n : ℕ) → ((t : ValType) → o ≡ Some t → fits e.0 t ≡ true) → (o ≡ None → ⊥)
      → AreAll P (in_payload o (ends_typed e.0)) → ((ws : List ℕ) → Counted P (k ws) n) → Counted P (payload_words o (Some (lowered (entered home) e.0)) before k) (borrow_count home e.0 + n)
  payload_words_counted (Some t) e before k n fit there ends p = e.1.words t before k n (fit t refl) ends p
  payload_words_counted None e before k n fit there ends p = absurd (there refl)

  no_payload_words : (o : Option ValType) (before : List ℕ) (k : List ℕ → Plan) (n : ℕ) → ((ws : List ℕ) → Counted P (k ws) n) → Counted P (payload_words o None before k) (0 + n)
  no_payload_words (Some t) before k n p = none_more (k before) n (p before)
  no_payload_words None before k n p = none_more (k before) n (p before)

  abbrev layer : V.Value-F Goods → V.Value-F Value
  layer w = map-Value Goods Value (λ (e : Goods). e.0) w

  abbrev in_layer : V.Value-F Value → V.Value-F Lowered
  in_layer w = map-Value Value Lowered (lowered (entered home)) w

  abbrev count_layer : V.Value-F Value → ℕ
  count_layer w = borrow_steps home (map-Value Value ℕ (borrow_count home) w)

  abbrev ends_layer : V.Value-F Value → ValType → Ends
  ends_layer w = end_steps (map-Value Value (ValType → Ends) ends_typed w)

  abbrev Fits : ValType → V.Value-F Value → Type 0
  Fits t w = passes (tests_in (out-ValType t)) w ≡ true

  store_counted : (w : V.Value-F Goods) (t : ValType) (place : ℕ) (k : Plan) (n : ℕ) → Fits t (layer w) → AreAll P (ends_layer (layer w) t) → Counted P k n
      → Counted P (store_case (entered home) (in_layer (layer w)) t place k) (count_layer (layer w) + n)
  store_counted (V.String text) t place k n fit ends p =
      none_more (text_in text (λ to. pointed place to (length text) k)) n (asked_counted (length text) 1 (length text) (λ to. Put to text (pointed place to (length text) k)) n (λ to. p))
  store_counted (V.List es) t place k n fit ends p =
      list_counted (part_at t 0) es (λ to. pointed place to (length (map (lowered (entered home)) (these es))) k) n
      (λ u m w of there. element_fits (out-ValType t) (these es) u m w fit of there) ends (λ to. p)
  store_counted (V.Record es) t place k n fit ends p = fields_counted place 0 (parts_of t) es k n (row_fits (out-ValType t) (these es) fit) ends p
  store_counted (V.Variant m (Some e)) t place k n fit ends p =
      payload_counted (part_at t m) e _ k n (λ u of. payload_fits (out-ValType t) m e.0 u fit of) (payload_there (out-ValType t) m e.0 fit) ends p
  store_counted (V.Variant m None) t place k n fit ends p = no_payload_counted (part_at t m) _ k n p
  store_counted (V.Own x) t place k n fit ends p = (own_counted x.resource x.rep (λ index. Put place (to_le_bytes w32 index) k) n (λ index. p))
  store_counted (V.Borrow x) t place k n fit ends p = borrow_counted (is_defined x.resource home) x.resource x.rep (λ index. Put place (to_le_bytes w32 index) k) n (λ index. p)
  store_counted (V.Stream x) t place k n fit ends p = (end_counted t x (λ index. Put place (to_le_bytes w32 index) k) n ends.0 (λ index. p))
  store_counted (V.Future x) t place k n fit ends p = (end_counted t x (λ index. Put place (to_le_bytes w32 index) k) n ends.0 (λ index. p))
  store_counted other t place k n fit ends p = none_more k n p

  words_counted : (w : V.Value-F Goods) (t : ValType) (before : List ℕ) (k : List ℕ → Plan) (n : ℕ) → Fits t (layer w) → AreAll P (ends_layer (layer w) t) → ((ws : List ℕ) → Counted P (k ws) n)
      → Counted P (words_case (entered home) (in_layer (layer w)) t before k) (count_layer (layer w) + n)
  words_counted (V.String text) t before k n fit ends p =
      none_more (text_in text (λ to. k (before ++ to ∷ length text ∷ []))) n
      (asked_counted (length text) 1 (length text) (λ to. Put to text (k (before ++ to ∷ length text ∷ []))) n (λ to. p (before ++ to ∷ length text ∷ [])))
  words_counted (V.List es) t before k n fit ends p =
      list_counted (part_at t 0) es (λ to. k (before ++ to ∷ length (map (lowered (entered home)) (these es)) ∷ [])) n
      (λ u m w of there. element_fits (out-ValType t) (these es) u m w fit of there) ends (λ to. p (before ++ to ∷ length (map (lowered (entered home)) (these es)) ∷ []))
  words_counted (V.Record es) t before k n fit ends p = field_words_counted (parts_of t) es before k n (row_fits (out-ValType t) (these es) fit) ends p
  words_counted (V.Variant m (Some e)) t before k n fit ends p =
      payload_words_counted (part_at t m) e (before ++ m ∷ []) (λ words. k (filled (length (flat t)) (length before) words)) n
      (λ u of. payload_fits (out-ValType t) m e.0 u fit of) (payload_there (out-ValType t) m e.0 fit) ends (λ ws. p (filled (length (flat t)) (length before) ws))
  words_counted (V.Variant m None) t before k n fit ends p =
      (no_payload_words (part_at t m) (before ++ m ∷ []) (λ words. k (filled (length (flat t)) (length before) words)) n (λ ws. p (filled (length (flat t)) (length before) ws)))
  words_counted (V.Own x) t before k n fit ends p = (own_counted x.resource x.rep (λ index. k (before ++ index ∷ [])) n (λ index. p (before ++ index ∷ [])))
  words_counted (V.Borrow x) t before k n fit ends p =
      borrow_counted (is_defined x.resource home) x.resource x.rep (λ index. k (before ++ index ∷ [])) n (λ index. p (before ++ index ∷ []))
  words_counted (V.Stream x) t before k n fit ends p = (end_counted t x (λ index. k (before ++ index ∷ [])) n ends.0 (λ index. p (before ++ index ∷ [])))
  words_counted (V.Future x) t before k n fit ends p = (end_counted t x (λ index. k (before ++ index ∷ [])) n ends.0 (λ index. p (before ++ index ∷ [])))
  words_counted (V.Flags flags) t before k n fit ends p = none_more (k (before ++ flags_number flags ∷ [])) n (p (before ++ flags_number flags ∷ []))
  words_counted (V.Bool b) t before k n fit ends p = none_more (k (before ++ plain_word (layer (V.Bool b)) ∷ [])) n (p (before ++ plain_word (layer (V.Bool b)) ∷ []))
  words_counted (V.S8 x) t before k n fit ends p = none_more (k (before ++ plain_word (layer (V.S8 x)) ∷ [])) n (p (before ++ plain_word (layer (V.S8 x)) ∷ []))
  words_counted (V.U8 x) t before k n fit ends p = none_more (k (before ++ plain_word (layer (V.U8 x)) ∷ [])) n (p (before ++ plain_word (layer (V.U8 x)) ∷ []))
  words_counted (V.S16 x) t before k n fit ends p = none_more (k (before ++ plain_word (layer (V.S16 x)) ∷ [])) n (p (before ++ plain_word (layer (V.S16 x)) ∷ []))
  words_counted (V.U16 x) t before k n fit ends p = none_more (k (before ++ plain_word (layer (V.U16 x)) ∷ [])) n (p (before ++ plain_word (layer (V.U16 x)) ∷ []))
  words_counted (V.S32 x) t before k n fit ends p = none_more (k (before ++ plain_word (layer (V.S32 x)) ∷ [])) n (p (before ++ plain_word (layer (V.S32 x)) ∷ []))
  words_counted (V.U32 x) t before k n fit ends p = none_more (k (before ++ plain_word (layer (V.U32 x)) ∷ [])) n (p (before ++ plain_word (layer (V.U32 x)) ∷ []))
  words_counted (V.S64 x) t before k n fit ends p = none_more (k (before ++ plain_word (layer (V.S64 x)) ∷ [])) n (p (before ++ plain_word (layer (V.S64 x)) ∷ []))
  words_counted (V.U64 x) t before k n fit ends p = none_more (k (before ++ plain_word (layer (V.U64 x)) ∷ [])) n (p (before ++ plain_word (layer (V.U64 x)) ∷ []))
  words_counted (V.Char x) t before k n fit ends p = none_more (k (before ++ plain_word (layer (V.Char x)) ∷ [])) n (p (before ++ plain_word (layer (V.Char x)) ∷ []))

  out_of_roll : (x : V.Value-F Value) → out-Value (roll-Value x) ≡ x
  out_of_roll x = search (rules, the_lemmas)

  good_step : (w : V.Value-F Goods) → Good (roll-Value (layer w))
  good_step w =
      let e : lowered (entered home) (roll-Value (layer w)) ≡ lower_step (entered home) (in_layer (layer w)) = fold-roll-Value Lowered (lower_step (entered home)) (layer w) in
      let c : borrow_count home (roll-Value (layer w)) ≡ count_layer (layer w) = fold-roll-Value ℕ (borrow_steps home) (layer w) in
      let d : ends_typed (roll-Value (layer w)) ≡ ends_layer (layer w) = fold-roll-Value (ValType → Ends) end_steps (layer w) in
      record {
        store = λ t place k n fit ends p.
            subst (λ (m : ℕ). Counted P (store (entered home) t (roll-Value (layer w)) place k) (m + n)) (sym c)
            (subst (λ (l : Lowered). Counted P (l.store t place k) (count_layer (layer w) + n)) (sym e)
            (store_counted w t place k n (by_layers t (roll-Value (layer w)) (layer w) fit (out_of_roll (layer w))) (subst (λ (f : ValType → Ends). AreAll P (f t)) d ends) p));
        words = λ t before k n fit ends p.
            subst (λ (m : ℕ). Counted P (flat_words (entered home) t (roll-Value (layer w)) before k) (m + n)) (sym c)
            (subst (λ (l : Lowered). Counted P (l.words t before k) (count_layer (layer w) + n)) (sym e)
            (words_counted w t before k n (by_layers t (roll-Value (layer w)) (layer w) fit (out_of_roll (layer w))) (subst (λ (f : ValType → Ends). AreAll P (f t)) d ends) p));
      }

  good : (v : Value) → Good v
  good = ind-Value Good (λ x y e. subst (λ (z : V.Value-F Value). Good (roll-Value z)) e (good_step y))

  -- Whole lowerings: in core values, at a place, at a new place, and values one after the other.
  at_end : (v : Value) (k : Plan) → Counted P k (borrow_count home v + 0) → Counted P k (borrow_count home v)
  at_end v k p = subst (λ (m : ℕ). Counted P k m) (let same : borrow_count home v + 0 ≡ borrow_count home v = omega arith in same) p

  pub flat_counted : (v : Value) (t : ValType) → fits v t ≡ true → AreAll P (ends_typed v t) → Counted P (flat_lowered (entered home) t v) (borrow_count home v)
  flat_counted v t fit ends = at_end v (flat_lowered (entered home) t v) ((good v).words t [] (λ words. Gives words) 0 fit ends (λ ws. refl))

  pub stored_counted : (v : Value) (t : ValType) (place : ℕ) → fits v t ≡ true → AreAll P (ends_typed v t) → Counted P (stored (entered home) t v place) (borrow_count home v)
  stored_counted v t place fit ends =
      tested_counted place (laid t).align (laid t).size (store (entered home) t v place (Gives [])) (borrow_count home v)
      (at_end v (store (entered home) t v place (Gives [])) ((good v).store t place (Gives []) 0 fit ends refl))

  pub placed_counted : (v : Value) (t : ValType) → fits v t ≡ true → AreAll P (ends_typed v t) → Counted P (placed (entered home) t v) (borrow_count home v)
  placed_counted v t fit ends =
      asked_counted 1 (laid t).align (laid t).size (λ place. store (entered home) t v place (Gives (place ∷ []))) (borrow_count home v)
      (λ place. at_end v (store (entered home) t v place (Gives (place ∷ []))) ((good v).store t place (Gives (place ∷ [])) 0 fit ends refl))

  goods_of : List Value → List Goods
  goods_of [] = []
  goods_of (v ∷ all) = (v, good v) ∷ goods_of all

  these_are : (all : List Value) → these (goods_of all) ≡ all
  unfolding goods_of
  these_are [] = refl
  these_are (v ∷ all) = ap (λ (vs : List Value). v ∷ vs) (these_are all)

  pub list_stored_counted : (all : List Value) (t : ValType) (place : ℕ) → ((m : ℕ) (w : Value) → slice_get all m ≡ Some w → fits w t ≡ true)
      → AreAll P (in_elements t (map ends_typed all)) → Counted P (all_stored (entered home) t all place) (all_count home all)
  list_stored_counted [] t place fit ends = refl
  list_stored_counted (v ∷ all) t place fit ends =
      tested_counted place (laid t).align (length (v ∷ all) * (laid t).size) (elements_from t place (map (lowered (entered home)) (v ∷ all)) (Gives [])) (all_count home (v ∷ all))
      (subst (λ (vs : List Value). Counted P (elements_from t place (map (lowered (entered home)) vs) (Gives [])) (all_count home vs)) (these_are (v ∷ all))
      (subst (λ (m : ℕ). Counted P (elements_from t place (map (lowered (entered home)) (these (goods_of (v ∷ all)))) (Gives [])) m)
      (let same : counts_of (goods_of (v ∷ all)) + 0 ≡ counts_of (goods_of (v ∷ all)) = omega arith in same)
      (elements_counted t place (goods_of (v ∷ all)) (Gives []) 0
      (λ m w there. fit m w (ap (λ (vs : List Value). slice_get vs m) (sym (these_are (v ∷ all))) ∙ there))
      (subst (λ (vs : List Value). AreAll P (in_elements t (map ends_typed vs))) (sym (these_are (v ∷ all))) ends) refl)))
