-- A plan by which a value is lowered adds the readable ends that the value holds, each once at most.
use Rattle.std.proofs.Common.{◌≡◌, ◌+◌, ◌*◌, ◌^◌, ◌%◌, ◌==◌, ◌&&◌, ℕ, Bool, true, false, nat_lt, nat_le, if◌then◌else◌, List, [], ◌∷◌, ◌++◌, map, length, sym, subst, Option, Some, None}
use Rattle.std.specs.List.{flat_map}
use Rattle.std.specs.Int.{w32, to_le_bytes}
use Rattle.builtin_kinds.specs.declared.EndKind.{EndKind}
use Rattle.builtin_kinds.specs.declared.EndKind.TheVariants as end_kind
use Rattle.syntax_trees.specs.declared.types.ValType.{ValType}
use Rattle.syntax_trees.specs.declared.types.FuncType.{FuncType}
use Rattle.syntax_trees.specs.declared.value.Value.{Value, roll-Value}
use Rattle.syntax_trees.specs.declared.value.Value.TheOpen as V
use Rattle.syntax_trees.specs.declared.value.Value.TheFolds.{map-Value, ind-Value, fold-roll-Value}
use Rattle.laid_types.specs.Layout.{laid, aligned}
use Rattle.syntax_trees.specs.Flat.{flat}
use Rattle.laid_types.specs.Parts.{parts_of, part_at, payload_place}
use Rattle.value_lower.specs.Lowering.{filled}
use Rattle.comp_graph.specs.Passed.{params_type}
use Rattle.comp_graph.specs.Needs.{flat_param_limit}
use Rattle.abi_machine.specs.LoweringOver.{New, NewOwn, NewBorrow, NewEnd, Plan, Gives, Fails, Asks, Size, Put, Adds, Bounds, Misaligned, Lowered, tested, asked, text_in, elements_from, list_in, pointed, fields_from, payload_at, field_words, payload_words, store_case, words_case, lower_step, lowered, stored, flat_lowered, placed}
use Rattle.abi_machine.specs.Pausing.{with_index, entries_by}
use Rattle.abi_machine.specs.Passing.{params_pass, last_of, arguments_plan, result_plan, elements_plan}
use Rattle.abi_machine.specs.Control.{EndRef}
use Rattle.abi_machine.specs.sound.EndsPassed.{readable, ends_step, ends_in, ends_of, Besides, AreApart, ButNew, AddsOnce}
use Rattle.abi_machine.proofs.sound.ends.Apart.{besides_is, besides_both, besides_split, apart_as, apart_first, apart_second, fewer, without_first, without_both, adds_as}

-- Places that are asked for.

either_adds : (b : Bool) (x y : Plan) (Q : EndRef → Type 0) → AddsOnce x Q → AddsOnce y Q → AddsOnce (if b then x else y) Q
either_adds true x y Q h i = h
either_adds false x y Q h i = i

tested_adds : (place align size : ℕ) (k : Plan) (Q : EndRef → Type 0) → AddsOnce k Q → AddsOnce (tested place align size k) Q
tested_adds place align size k Q h =
    either_adds (place % align == 0) (Size (λ there. if nat_le (place + size) there then k else Fails Bounds)) (Fails Misaligned) Q
    (λ there. either_adds (nat_le (place + size) there) k (Fails Bounds) Q h tt) tt

asked_adds : (count align size : ℕ) (k : ℕ → Plan) (Q : EndRef → Type 0) → ((place : ℕ) → AddsOnce (k place) Q) → AddsOnce (asked count align size k) Q
asked_adds count align size k Q h =
    either_adds (nat_lt count (2 ^ 32) && nat_lt size (2 ^ 32)) (Asks (record { old = 0; old_size = 0; align = align; size = size }) (λ place. tested place align size (k place))) (Fails Bounds) Q
    (λ place. tested_adds place align size (k place) Q (h place)) tt

text_adds : (text : List ℕ) (k : ℕ → Plan) (Q : EndRef → Type 0) → ((place : ℕ) → AddsOnce (k place) Q) → AddsOnce (text_in text k) Q
text_adds text k Q h = asked_adds (length text) 1 (length text) (λ place. Put place text (k place)) Q h

-- Entries.

index_adds : (k : ℕ → Plan) (index : Option ℕ) (Q : EndRef → Type 0) → ((n : ℕ) → AddsOnce (k n) Q) → AddsOnce (with_index k index) Q
index_adds k None Q h = tt
index_adds k (Some n) Q h = h n

own_adds : (is_own : ℕ → Bool) (resource rep : ℕ) (k : ℕ → Plan) (Q : EndRef → Type 0) → ((n : ℕ) → AddsOnce (k n) Q) → AddsOnce (entries_by is_own (NewOwn resource rep) k) Q
own_adds is_own resource rep k Q h = (tt, λ index. index_adds k index Q h)

borrow_adds : (is_own : ℕ → Bool) (resource rep : ℕ) (k : ℕ → Plan) (Q : EndRef → Type 0) → ((n : ℕ) → AddsOnce (k n) Q) → AddsOnce (entries_by is_own (NewBorrow resource rep) k) Q
borrow_adds is_own resource rep k Q h =
    either_adds (is_own resource) (k rep) (Adds (NewBorrow resource rep) (with_index k)) Q (h rep) (tt, λ index. index_adds k index Q h)

module _ (is_own : ℕ → Bool) (P : EndRef → Type 0) where
  abbrev enter : New → (ℕ → Plan) → Plan
  enter = entries_by is_own

  -- what is so of ends that are none of these
  abbrev Free : List EndRef → EndRef → Type 0
  Free gone = Besides gone P

  -- Behind ends that were added before, whatever follows the value adds what is left.
  pub record Good (v : Value) : Type 0 where
    pub store : (t : ValType) (place : ℕ) (k : Plan) (gone : List EndRef) → AreApart (ends_in v) (Free gone) → AddsOnce k (Free (gone ++ ends_in v))
        → AddsOnce ((lowered enter v).store t place k) (Free gone)
    pub words : (t : ValType) (before : List ℕ) (k : List ℕ → Plan) (gone : List EndRef) → AreApart (ends_in v) (Free gone) → ((ws : List ℕ) → AddsOnce (k ws) (Free (gone ++ ends_in v)))
        → AddsOnce ((lowered enter v).words t before k) (Free gone)

  abbrev Goods : Type 0
  Goods = (v : Value) × Good v

  abbrev these : List Goods → List Value
  these es = map (λ (e : Goods). e.0) es

  abbrev ends_all : List Value → List EndRef
  ends_all all = flat_map (λ (ends : List EndRef). ends) (map ends_in all)

  -- what follows several values
  behind_none : (gone : List EndRef) (k : Plan) → AddsOnce k (Free (gone ++ [])) → AddsOnce k (Free gone)
  behind_none gone k h = adds_as k (Free (gone ++ [])) (Free gone) (λ e b. fewer gone [] P e b) h

  next_apart : (gone xs ys : List EndRef) → AreApart (xs ++ ys) (Free gone) → AreApart ys (Free (gone ++ xs))
  next_apart gone xs ys a = apart_as ys (Besides xs (Free gone)) (Free (gone ++ xs)) (λ e b. besides_both gone xs P e b) (apart_second xs ys (Free gone) a)

  next_behind : (gone xs ys : List EndRef) (k : Plan) → AddsOnce k (Free (gone ++ (xs ++ ys))) → AddsOnce k (Free ((gone ++ xs) ++ ys))
  next_behind gone xs ys k h = adds_as k (Free (gone ++ (xs ++ ys))) (Free ((gone ++ xs) ++ ys)) (λ e b. without_both gone xs ys P e b) h

  -- a value that is left out
  later_apart : (gone xs ys : List EndRef) → AreApart (xs ++ ys) (Free gone) → AreApart ys (Free gone)
  later_apart gone xs ys a = apart_as ys (Besides xs (Free gone)) (Free gone) (λ e b. besides_is xs (Free gone) e b) (apart_second xs ys (Free gone) a)

  later_behind : (gone xs ys : List EndRef) (k : Plan) → AddsOnce k (Free (gone ++ (xs ++ ys))) → AddsOnce k (Free (gone ++ ys))
  later_behind gone xs ys k h = adds_as k (Free (gone ++ (xs ++ ys))) (Free (gone ++ ys)) (λ e b. without_first gone xs ys P e b) h

  left_out : (gone xs : List EndRef) (k : Plan) → AddsOnce k (Free (gone ++ xs)) → AddsOnce k (Free gone)
  left_out gone xs k h = adds_as k (Free (gone ++ xs)) (Free gone) (λ e b. fewer gone xs P e b) h

  end_adds : (kind : EndKind) (n : ℕ) (k : ℕ → Plan) (gone : List EndRef) → AreApart (readable kind n ∷ []) (Free gone) → ((index : ℕ) → AddsOnce (k index) (Free (gone ++ readable kind n ∷ [])))
      → AddsOnce (enter (NewEnd kind n) k) (Free gone)
  end_adds kind n k gone a h = (
    a.0,
    λ index.
        index_adds k index (ButNew (NewEnd kind n) (Free gone))
        (λ m. adds_as (k m) (Free (gone ++ readable kind n ∷ [])) (ButNew (NewEnd kind n) (Free gone)) (λ e b. besides_split gone (readable kind n ∷ []) P e b) (h m)),
  )

  elements_add : (t : ValType) (place : ℕ) (es : List Goods) (k : Plan) (gone : List EndRef) → AreApart (ends_all (these es)) (Free gone) → AddsOnce k (Free (gone ++ ends_all (these es)))
      → AddsOnce (elements_from t place (map (lowered enter) (these es)) k) (Free gone)
  elements_add t place [] k gone a h = behind_none gone k h
  elements_add t place (e ∷ es) k gone a h =
      e.1.store t place (elements_from t (place + (laid t).size) (map (lowered enter) (these es)) k) gone (apart_first (ends_in e.0) (ends_all (these es)) (Free gone) a)
      (elements_add t (place + (laid t).size) es k (gone ++ ends_in e.0) (next_apart gone (ends_in e.0) (ends_all (these es)) a) (next_behind gone (ends_in e.0) (ends_all (these es)) k h))

  list_adds : (o : Option ValType) (es : List Goods) (k : ℕ → Plan) (gone : List EndRef) → AreApart (ends_all (these es)) (Free gone) → ((place : ℕ) → AddsOnce (k place) (Free (gone ++ ends_all (these es))))
      → AddsOnce (list_in o (map (lowered enter) (these es)) k) (Free gone)
  list_adds None es k gone a h = tt
  list_adds (Some t) es k gone a h =
      asked_adds (length (map (lowered enter) (these es))) (laid t).align (length (map (lowered enter) (these es)) * (laid t).size) (λ place. elements_from t place (map (lowered enter) (these es)) (k place)) (Free gone)
      (λ place. elements_add t place es (k place) gone a (h place))

  fields_add : (place end : ℕ) (types : List (Option ValType)) (es : List Goods) (k : Plan) (gone : List EndRef) → AreApart (ends_all (these es)) (Free gone) → AddsOnce k (Free (gone ++ ends_all (these es)))
      → AddsOnce (fields_from place end types (map (lowered enter) (these es)) k) (Free gone)
  fields_add place end [] es k gone a h = left_out gone (ends_all (these es)) k h
  fields_add place end (t ∷ types) [] k gone a h = behind_none gone k h
  fields_add place end (None ∷ types) (e ∷ es) k gone a h =
      fields_add place end types es k gone (later_apart gone (ends_in e.0) (ends_all (these es)) a) (later_behind gone (ends_in e.0) (ends_all (these es)) k h)
  fields_add place end (Some t ∷ types) (e ∷ es) k gone a h =
      e.1.store t (place + aligned end (laid t).align) (fields_from place (aligned end (laid t).align + (laid t).size) types (map (lowered enter) (these es)) k) gone
      (apart_first (ends_in e.0) (ends_all (these es)) (Free gone) a)
      (fields_add place (aligned end (laid t).align + (laid t).size) types es k (gone ++ ends_in e.0) (next_apart gone (ends_in e.0) (ends_all (these es)) a) (next_behind gone (ends_in e.0) (ends_all (these es)) k h))

  payload_adds : (o : Option ValType) (e : Goods) (place : ℕ) (k : Plan) (gone : List EndRef) → AreApart (ends_in e.0) (Free gone) → AddsOnce k (Free (gone ++ ends_in e.0))
      → AddsOnce (payload_at o (Some (lowered enter e.0)) place k) (Free gone)
  payload_adds (Some t) e place k gone a h = e.1.store t place k gone a h
  payload_adds None e place k gone a h = left_out gone (ends_in e.0) k h

  no_payload_adds : (o : Option ValType) (place : ℕ) (k : Plan) (gone : List EndRef) → AddsOnce k (Free (gone ++ [])) → AddsOnce (payload_at o None place k) (Free gone)
  no_payload_adds (Some t) place k gone h = behind_none gone k h
  no_payload_adds None place k gone h = behind_none gone k h

  field_words_add : (types : List (Option ValType)) (es : List Goods) (before : List ℕ) (k : List ℕ → Plan) (gone : List EndRef) → AreApart (ends_all (these es)) (Free gone)
      → ((ws : List ℕ) → AddsOnce (k ws) (Free (gone ++ ends_all (these es)))) → AddsOnce (field_words types (map (lowered enter) (these es)) before k) (Free gone)
  field_words_add [] es before k gone a h = left_out gone (ends_all (these es)) (k before) (h before)
  field_words_add (t ∷ types) [] before k gone a h = behind_none gone (k before) (h before)
  field_words_add (None ∷ types) (e ∷ es) before k gone a h =
      field_words_add types es before k gone (later_apart gone (ends_in e.0) (ends_all (these es)) a) (λ ws. later_behind gone (ends_in e.0) (ends_all (these es)) (k ws) (h ws))
  field_words_add (Some t ∷ types) (e ∷ es) before k gone a h =
      e.1.words t before (λ words. field_words types (map (lowered enter) (these es)) words k) gone (apart_first (ends_in e.0) (ends_all (these es)) (Free gone) a)
      (λ ws.
      field_words_add types es ws k (gone ++ ends_in e.0) (next_apart gone (ends_in e.0) (ends_all (these es)) a) (λ us. next_behind gone (ends_in e.0) (ends_all (these es)) (k us) (h us)))

  payload_words_add : (o : Option ValType) (e : Goods) (before : List ℕ) (k : List ℕ → Plan) (gone : List EndRef) → AreApart (ends_in e.0) (Free gone)
      → ((ws : List ℕ) → AddsOnce (k ws) (Free (gone ++ ends_in e.0))) → AddsOnce (payload_words o (Some (lowered enter e.0)) before k) (Free gone)
  payload_words_add (Some t) e before k gone a h = e.1.words t before k gone a h
  payload_words_add None e before k gone a h = left_out gone (ends_in e.0) (k before) (h before)

  no_payload_words_add : (o : Option ValType) (before : List ℕ) (k : List ℕ → Plan) (gone : List EndRef) → ((ws : List ℕ) → AddsOnce (k ws) (Free (gone ++ []))) → AddsOnce (payload_words o None before k) (Free gone)
  no_payload_words_add (Some t) before k gone h = behind_none gone (k before) (h before)
  no_payload_words_add None before k gone h = behind_none gone (k before) (h before)

  -- Layers.

  abbrev layer : V.Value-F Goods → V.Value-F Value
  layer w = map-Value Goods Value (λ (e : Goods). e.0) w

  abbrev in_layer : V.Value-F Value → V.Value-F Lowered
  in_layer w = map-Value Value Lowered (lowered enter) w

  abbrev layer_ends : V.Value-F Goods → List EndRef
  layer_ends w = ends_step (map-Value Value (List EndRef) ends_in (layer w))

  store_adds : (w : V.Value-F Goods) (t : ValType) (place : ℕ) (k : Plan) (gone : List EndRef) → AreApart (layer_ends w) (Free gone) → AddsOnce k (Free (gone ++ layer_ends w))
      → AddsOnce (store_case enter (in_layer (layer w)) t place k) (Free gone)
  store_adds (V.String text) t place k gone a h = text_adds text (λ to. pointed place to (length text) k) (Free gone) (λ to. behind_none gone k h)
  store_adds (V.List es) t place k gone a h = list_adds (part_at t 0) es (λ to. pointed place to (length (map (lowered enter) (these es))) k) gone a (λ to. h)
  store_adds (V.Record es) t place k gone a h = fields_add place 0 (parts_of t) es k gone a h
  store_adds (V.Variant n (Some e)) t place k gone a h = payload_adds (part_at t n) e (place + payload_place t) k gone a h
  store_adds (V.Variant n None) t place k gone a h = no_payload_adds (part_at t n) (place + payload_place t) k gone h
  store_adds (V.Own x) t place k gone a h = own_adds is_own x.resource x.rep (λ index. Put place (to_le_bytes w32 index) k) (Free gone) (λ index. behind_none gone k h)
  store_adds (V.Borrow x) t place k gone a h = borrow_adds is_own x.resource x.rep (λ index. Put place (to_le_bytes w32 index) k) (Free gone) (λ index. behind_none gone k h)
  store_adds (V.Stream n) t place k gone a h = end_adds end_kind.Stream n (λ index. Put place (to_le_bytes w32 index) k) gone a (λ index. h)
  store_adds (V.Future n) t place k gone a h = end_adds end_kind.Future n (λ index. Put place (to_le_bytes w32 index) k) gone a (λ index. h)
  store_adds other t place k gone a h = behind_none gone k h

  words_add : (w : V.Value-F Goods) (t : ValType) (before : List ℕ) (k : List ℕ → Plan) (gone : List EndRef) → AreApart (layer_ends w) (Free gone) → ((ws : List ℕ) → AddsOnce (k ws) (Free (gone ++ layer_ends w)))
      → AddsOnce (words_case enter (in_layer (layer w)) t before k) (Free gone)
  words_add (V.String text) t before k gone a h =
      text_adds text (λ to. k (before ++ to ∷ length text ∷ [])) (Free gone) (λ to. behind_none gone (k (before ++ to ∷ length text ∷ [])) (h (before ++ to ∷ length text ∷ [])))
  words_add (V.List es) t before k gone a h =
      list_adds (part_at t 0) es (λ to. k (before ++ to ∷ length (map (lowered enter) (these es)) ∷ [])) gone a (λ to. h (before ++ to ∷ length (map (lowered enter) (these es)) ∷ []))
  words_add (V.Record es) t before k gone a h = field_words_add (parts_of t) es before k gone a h
  words_add (V.Variant n (Some e)) t before k gone a h =
      payload_words_add (part_at t n) e (before ++ n ∷ []) (λ words. k (filled (length (flat t)) (length before) words)) gone a (λ ws. h (filled (length (flat t)) (length before) ws))
  words_add (V.Variant n None) t before k gone a h =
      no_payload_words_add (part_at t n) (before ++ n ∷ []) (λ words. k (filled (length (flat t)) (length before) words)) gone (λ ws. h (filled (length (flat t)) (length before) ws))
  words_add (V.Own x) t before k gone a h =
      own_adds is_own x.resource x.rep (λ index. k (before ++ index ∷ [])) (Free gone) (λ index. behind_none gone (k (before ++ index ∷ [])) (h (before ++ index ∷ [])))
  words_add (V.Borrow x) t before k gone a h =
      borrow_adds is_own x.resource x.rep (λ index. k (before ++ index ∷ [])) (Free gone) (λ index. behind_none gone (k (before ++ index ∷ [])) (h (before ++ index ∷ [])))
  words_add (V.Stream n) t before k gone a h = end_adds end_kind.Stream n (λ index. k (before ++ index ∷ [])) gone a (λ index. h (before ++ index ∷ []))
  words_add (V.Future n) t before k gone a h = end_adds end_kind.Future n (λ index. k (before ++ index ∷ [])) gone a (λ index. h (before ++ index ∷ []))
  words_add other t before k gone a h = behind_none gone (k _) (h _)

  good_step : (w : V.Value-F Goods) → Good (roll-Value (layer w))
  good_step w =
      let e : lowered enter (roll-Value (layer w)) ≡ lower_step enter (in_layer (layer w)) = fold-roll-Value Lowered (lower_step enter) (layer w) in
      let i : ends_in (roll-Value (layer w)) ≡ layer_ends w = fold-roll-Value (List EndRef) ends_step (layer w) in
      record {
        store = λ t place k gone a h.
            subst (λ (l : Lowered). AddsOnce (l.store t place k) (Free gone)) (sym e)
            (store_adds w t place k gone (subst (λ (xs : List EndRef). AreApart xs (Free gone)) i a) (subst (λ (xs : List EndRef). AddsOnce k (Free (gone ++ xs))) i h));
        words = λ t before k gone a h.
            subst (λ (l : Lowered). AddsOnce (l.words t before k) (Free gone)) (sym e)
            (words_add w t before k gone (subst (λ (xs : List EndRef). AreApart xs (Free gone)) i a) (λ ws. subst (λ (xs : List EndRef). AddsOnce (k ws) (Free (gone ++ xs))) i (h ws)));
      }

  good : (v : Value) → Good v
  good = ind-Value Good (λ x y e. subst (λ (z : V.Value-F Value). Good (roll-Value z)) e (good_step y))

  all_add : (t : ValType) (place : ℕ) (all : List Value) (gone : List EndRef) → AreApart (ends_of all) (Free gone) → AddsOnce (elements_from t place (map (lowered enter) all) (Gives [])) (Free gone)
  all_add t place [] gone a = tt
  all_add t place (v ∷ all) gone a =
      (good v).store t place (elements_from t (place + (laid t).size) (map (lowered enter) all) (Gives [])) gone (apart_first (ends_in v) (ends_of all) (Free gone) a)
      (all_add t (place + (laid t).size) all (gone ++ ends_in v) (next_apart gone (ends_in v) (ends_of all) a))

  -- The plans of arguments, results and elements.

  stored_adds : (t : ValType) (v : Value) (place : ℕ) → AreApart (ends_in v) P → AddsOnce (stored enter t v place) P
  stored_adds t v place a = tested_adds place (laid t).align (laid t).size _ P ((good v).store t place (Gives []) [] a tt)

  flat_adds : (t : ValType) (v : Value) → AreApart (ends_in v) P → AddsOnce (flat_lowered enter t v) P
  flat_adds t v a = (good v).words t [] (λ words. Gives words) [] a (λ ws. tt)

  placed_adds : (t : ValType) (v : Value) → AreApart (ends_in v) P → AddsOnce (placed enter t v) P
  placed_adds t v a = asked_adds 1 (laid t).align (laid t).size (λ place. (lowered enter v).store t place (Gives (place ∷ []))) P (λ place. (good v).store t place (Gives (place ∷ [])) [] a tt)

  pub arguments_add : (f : FuncType) (v : Value) → AreApart (ends_in v) P → AddsOnce (arguments_plan (entries_by is_own) f v) P
  unfolding arguments_plan
  arguments_add f v a = either_adds (params_pass flat_param_limit f) (placed enter (params_type f) v) (flat_lowered enter (params_type f) v) P (placed_adds (params_type f) v a) (flat_adds (params_type f) v a)

  pub result_adds : (is_async : Bool) (t : ValType) (v : Value) (words : List ℕ) → AreApart (ends_in v) P → AddsOnce (result_plan (entries_by is_own) is_async t v words) P
  unfolding result_plan
  result_adds is_async t v words a = either_adds _ (stored enter t v (last_of words)) (flat_lowered enter t v) P (stored_adds t v (last_of words) a) (flat_adds t v a)

  pub elements_plan_adds : (t : ValType) (all : List Value) (place : ℕ) → AreApart (ends_of all) P → AddsOnce (elements_plan (entries_by is_own) t all place) P
  unfolding elements_plan
  elements_plan_adds t all place a = all_add t place all [] a
