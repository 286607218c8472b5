-- A plan adds handles with small representations, where the value that it lowers holds such.
use Rattle.std.proofs.Common.{◌≡◌, ◌+◌, ◌*◌, ◌%◌, ◌^◌, ◌||◌, ◌&&◌, ◌==◌, ◌∙◌, ℕ, Bool, true, false, nat_lt, nat_le, if◌then◌else◌, List, [], ◌∷◌, ◌++◌, map, length, sym, subst, Option, Some, None}
use Rattle.std.specs.Int.{w32, to_le_bytes}
use Rattle.syntax_trees.specs.declared.types.ValType.{ValType}
use Rattle.syntax_trees.specs.declared.types.FuncType.{FuncType}
use Rattle.syntax_trees.specs.declared.value.Value.{Value}
use Rattle.syntax_trees.specs.declared.value.Value.TheOpen as V
use Rattle.syntax_trees.specs.declared.value.Value.TheViews.{roll-Value}
use Rattle.syntax_trees.specs.declared.value.Value.TheFolds.{map-Value, ind-Value, fold-roll-Value}
use Rattle.laid_types.specs.Layout.{laid, aligned}
use Rattle.syntax_trees.specs.Flat.{flat}
use Rattle.laid_types.specs.Parts.{parts_of, part_at}
use Rattle.builtin_kinds.specs.declared.EndKind.TheVariants as end_kind
use Rattle.handle_table.specs.History.{Event}
use Rattle.value_lower.specs.Lowering.{filled}
use Rattle.value_lower.specs.Following.{written}
use Rattle.comp_graph.specs.Needs.{flat_param_limit, flat_result_limit}
use Rattle.comp_graph.specs.Passed.{params_type}
use Rattle.abi_machine.specs.LoweringOver.{New, NewOwn, NewBorrow, NewEnd, Bounds, Misaligned, Plan, Gives, Fails, Asks, Size, Put, Adds, Lowered}
use Rattle.abi_machine.specs.LoweringOver as over
use Rattle.abi_machine.specs.Passing.{params_pass, result_passes, last_of, arguments_plan, result_plan, elements_plan}
use Rattle.abi_machine.specs.Pausing.{with_index, entries_by, entry_of, index_in, with_new, Paused, Words, Failed, Asked, settle}
use Rattle.abi_machine.specs.World.{Entry}
use Rattle.abi_machine.specs.sound.Answers.{HasRep}
use Rattle.abi_machine.specs.sound.Words.{big_step, has_big, AreSmall, HasNewRep, AddsReps}
use Rattle.abi_machine.proofs.sound.places.Plans.{left_one, right_one}
use Rattle.abi_machine.proofs.sound.words.Values.{IsSmall, is_below}

either_adds : (b : Bool) (p q : Plan) → AddsReps p → AddsReps q → AddsReps (if b then p else q)
either_adds true p q h i = h
either_adds false p q h i = i

tested_adds : (place align size : ℕ) (k : Plan) → AddsReps k → AddsReps (over.tested place align size k)
tested_adds place align size k h =
    either_adds (place % align == 0) (Size (λ there. if nat_le (place + size) there then k else Fails Bounds)) (Fails Misaligned)
    (λ there. either_adds (nat_le (place + size) there) k (Fails Bounds) h tt) tt

asked_adds : (count align size : ℕ) (k : ℕ → Plan) → ((place : ℕ) → AddsReps (k place)) → AddsReps (over.asked count align size k)
asked_adds count align size k h =
    either_adds (nat_lt count (2 ^ 32) && nat_lt size (2 ^ 32))
    (Asks (record { old = 0; old_size = 0; align = align; size = size }) (λ place. over.tested place align size (k place))) (Fails Bounds)
    (λ place. tested_adds place align size (k place) (h place)) tt

text_adds : (text : List ℕ) (k : ℕ → Plan) → ((place : ℕ) → AddsReps (k place)) → AddsReps (over.text_in text k)
text_adds text k h = asked_adds (length text) 1 (length text) (λ place. Put place text (k place)) h

module _ (enter : New → (ℕ → Plan) → Plan) (enters : (entry : New) (k : ℕ → Plan) → HasNewRep entry → ((index : ℕ) → AddsReps (k index)) → AddsReps (enter entry k)) where
  -- Whatever follows adds such handles, where the value holds such.
  record AddsSo (v : Value) : Type 0 where
    store : (t : ValType) (place : ℕ) (k : Plan) → AddsReps k → AddsReps ((over.lowered enter v).store t place k)
    words : (t : ValType) (before : List ℕ) (k : List ℕ → Plan) → ((ws : List ℕ) → AddsReps (k ws)) → AddsReps ((over.lowered enter v).words t before k)

  abbrev Adding : Value → Type 0
  Adding v = IsSmall v → AddsSo v

  abbrev Each : Type 0
  Each = (v : Value) × Adding v

  abbrev these : List Each → List Value
  these es = map (λ (e : Each). e.0) es

  abbrev lows : List Each → List Lowered
  lows es = map (over.lowered enter) (these es)

  abbrev HoldSmall : List Each → Type 0
  HoldSmall es = AreSmall (these es)

  first_small : (e : Each) (es : List Each) → HoldSmall (e ∷ es) → IsSmall e.0
  first_small e es s i = s (left_one (has_big e.0) _ i)

  others_small : (e : Each) (es : List Each) → HoldSmall (e ∷ es) → HoldSmall es
  others_small e es s i = s (right_one (has_big e.0) _ i)

  elements_add : (t : ValType) (place : ℕ) (es : List Each) (k : Plan) → HoldSmall es → AddsReps k → AddsReps (over.elements_from t place (lows es) k)
  elements_add t place [] k s h = h
  elements_add t place (e ∷ es) k s h =
      (e.1 (first_small e es s)).store t place (over.elements_from t (place + (laid t).size) (lows es) k) (elements_add t (place + (laid t).size) es k (others_small e es s) h)

  list_adds : (o : Option ValType) (es : List Each) (k : ℕ → Plan) → HoldSmall es → ((place : ℕ) → AddsReps (k place)) → AddsReps (over.list_in o (lows es) k)
  list_adds None es k s h = tt
  list_adds (Some t) es k s h =
      asked_adds (length (lows es)) (laid t).align (length (lows es) * (laid t).size) (λ place. over.elements_from t place (lows es) (k place)) (λ place. elements_add t place es (k place) s (h place))

  fields_add : (place end : ℕ) (types : List (Option ValType)) (es : List Each) (k : Plan) → HoldSmall es → AddsReps k → AddsReps (over.fields_from place end types (lows es) k)
  fields_add place end [] es k s h = h
  fields_add place end (t ∷ types) [] k s h = h
  fields_add place end (None ∷ types) (e ∷ es) k s h = fields_add place end types es k (others_small e es s) h
  fields_add place end (Some t ∷ types) (e ∷ es) k s h =
      (e.1 (first_small e es s)).store t (place + aligned end (laid t).align) (over.fields_from place (aligned end (laid t).align + (laid t).size) types (lows es) k)
      (fields_add place (aligned end (laid t).align + (laid t).size) types es k (others_small e es s) h)

  payload_adds : (o : Option ValType) (e : Each) (place : ℕ) (k : Plan) → IsSmall e.0 → AddsReps k → AddsReps (over.payload_at o (Some (over.lowered enter e.0)) place k)
  payload_adds (Some t) e place k s h = (e.1 s).store t place k h
  payload_adds None e place k s h = h

  no_payload_adds : (o : Option ValType) (place : ℕ) (k : Plan) → AddsReps k → AddsReps (over.payload_at o None place k)
  no_payload_adds (Some t) place k h = h
  no_payload_adds None place k h = h

  field_words_add : (types : List (Option ValType)) (es : List Each) (before : List ℕ) (k : List ℕ → Plan) → HoldSmall es → ((ws : List ℕ) → AddsReps (k ws))
      → AddsReps (over.field_words types (lows es) before k)
  field_words_add [] es before k s h = h before
  field_words_add (t ∷ types) [] before k s h = h before
  field_words_add (None ∷ types) (e ∷ es) before k s h = field_words_add types es before k (others_small e es s) h
  field_words_add (Some t ∷ types) (e ∷ es) before k s h =
      (e.1 (first_small e es s)).words t before (λ words. over.field_words types (lows es) words k) (λ ws. field_words_add types es ws k (others_small e es s) h)

  payload_words_add : (o : Option ValType) (e : Each) (before : List ℕ) (k : List ℕ → Plan) → IsSmall e.0 → ((ws : List ℕ) → AddsReps (k ws))
      → AddsReps (over.payload_words o (Some (over.lowered enter e.0)) before k)
  payload_words_add (Some t) e before k s h = (e.1 s).words t before k h
  payload_words_add None e before k s h = h before

  no_payload_words_add : (o : Option ValType) (before : List ℕ) (k : List ℕ → Plan) → ((ws : List ℕ) → AddsReps (k ws)) → AddsReps (over.payload_words o None before k)
  no_payload_words_add (Some t) before k h = h before
  no_payload_words_add None before k h = h before

  -- Values by their outer layer.
  abbrev layer : V.Value-F Each → V.Value-F Value
  layer w = map-Value Each Value (λ (e : Each). e.0) w

  abbrev low_layer : V.Value-F Value → V.Value-F Lowered
  low_layer w = map-Value Value Lowered (over.lowered enter) w

  abbrev big_layer : V.Value-F Value → V.Value-F Bool
  big_layer w = map-Value Value Bool has_big w

  abbrev LayerSmall : V.Value-F Each → Type 0
  LayerSmall w = big_step (big_layer (layer w)) ≡ true → ⊥

  store_adds : (w : V.Value-F Each) → LayerSmall w → (t : ValType) (place : ℕ) (k : Plan) → AddsReps k → AddsReps (over.store_case enter (low_layer (layer w)) t place k)
  store_adds (V.String text) s t place k h = text_adds text (λ to. over.pointed place to (length text) k) (λ to. h)
  store_adds (V.List es) s t place k h = list_adds (part_at t 0) es (λ to. over.pointed place to (length (lows es)) k) s (λ to. h)
  store_adds (V.Record es) s t place k h = fields_add place 0 (parts_of t) es k s h
  store_adds (V.Variant n (Some e)) s t place k h = payload_adds (part_at t n) e _ k s h
  store_adds (V.Variant n None) s t place k h = no_payload_adds (part_at t n) _ k h
  store_adds (V.Own x) s t place k h = enters (NewOwn x.resource x.rep) (λ index. Put place (to_le_bytes w32 index) k) (is_below x.rep (2 ^ 32) s) (λ index. h)
  store_adds (V.Borrow x) s t place k h = enters (NewBorrow x.resource x.rep) (λ index. Put place (to_le_bytes w32 index) k) (is_below x.rep (2 ^ 32) s) (λ index. h)
  store_adds (V.Stream x) s t place k h = enters (NewEnd end_kind.Stream x) (λ index. Put place (to_le_bytes w32 index) k) tt (λ index. h)
  store_adds (V.Future x) s t place k h = enters (NewEnd end_kind.Future x) (λ index. Put place (to_le_bytes w32 index) k) tt (λ index. h)
  store_adds other s t place k h = h

  words_add : (w : V.Value-F Each) → LayerSmall w → (t : ValType) (before : List ℕ) (k : List ℕ → Plan) → ((ws : List ℕ) → AddsReps (k ws)) → AddsReps (over.words_case enter (low_layer (layer w)) t before k)
  words_add (V.String text) s t before k h = text_adds text (λ to. k (before ++ to ∷ length text ∷ [])) (λ to. h (before ++ to ∷ length text ∷ []))
  words_add (V.List es) s t before k h = list_adds (part_at t 0) es (λ to. k (before ++ to ∷ length (lows es) ∷ [])) s (λ to. h (before ++ to ∷ length (lows es) ∷ []))
  words_add (V.Record es) s t before k h = field_words_add (parts_of t) es before k s h
  words_add (V.Variant n (Some e)) s t before k h =
      payload_words_add (part_at t n) e (before ++ n ∷ []) (λ words. k (filled (length (flat t)) (length before) words)) s (λ ws. h (filled (length (flat t)) (length before) ws))
  words_add (V.Variant n None) s t before k h =
      no_payload_words_add (part_at t n) (before ++ n ∷ []) (λ words. k (filled (length (flat t)) (length before) words)) (λ ws. h (filled (length (flat t)) (length before) ws))
  words_add (V.Own x) s t before k h = enters (NewOwn x.resource x.rep) (λ index. k (before ++ index ∷ [])) (is_below x.rep (2 ^ 32) s) (λ index. h (before ++ index ∷ []))
  words_add (V.Borrow x) s t before k h = enters (NewBorrow x.resource x.rep) (λ index. k (before ++ index ∷ [])) (is_below x.rep (2 ^ 32) s) (λ index. h (before ++ index ∷ []))
  words_add (V.Stream x) s t before k h = enters (NewEnd end_kind.Stream x) (λ index. k (before ++ index ∷ [])) tt (λ index. h (before ++ index ∷ []))
  words_add (V.Future x) s t before k h = enters (NewEnd end_kind.Future x) (λ index. k (before ++ index ∷ [])) tt (λ index. h (before ++ index ∷ []))
  words_add other s t before k h = h _

  adds_step : (w : V.Value-F Each) → Adding (roll-Value (layer w))
  adds_step w s =
      let e : over.lowered enter (roll-Value (layer w)) ≡ over.lower_step enter (low_layer (layer w)) = fold-roll-Value Lowered (over.lower_step enter) (layer w) in
      let big : has_big (roll-Value (layer w)) ≡ big_step (big_layer (layer w)) = fold-roll-Value Bool big_step (layer w) in
      record {
        store = λ t place k h. subst (λ (l : Lowered). AddsReps (l.store t place k)) (sym e) (store_adds w (λ i. s (big ∙ i)) t place k h);
        words = λ t before k h. subst (λ (l : Lowered). AddsReps (l.words t before k)) (sym e) (words_add w (λ i. s (big ∙ i)) t before k h);
      }

  all_add : (v : Value) → Adding v
  all_add = ind-Value Adding (λ x y e. subst (λ (z : V.Value-F Value). Adding (roll-Value z)) e (adds_step y))

  flat_adds : (t : ValType) (v : Value) → IsSmall v → AddsReps (over.flat_lowered enter t v)
  flat_adds t v s = (all_add v s).words t [] (λ words. Gives words) (λ ws. tt)

  stored_adds : (t : ValType) (v : Value) (place : ℕ) → IsSmall v → AddsReps (over.stored enter t v place)
  stored_adds t v place s = tested_adds place (laid t).align (laid t).size ((over.lowered enter v).store t place (Gives [])) ((all_add v s).store t place (Gives []) tt)

  placed_adds : (t : ValType) (v : Value) → IsSmall v → AddsReps (over.placed enter t v)
  placed_adds t v s =
      asked_adds 1 (laid t).align (laid t).size (λ place. (over.lowered enter v).store t place (Gives (place ∷ []))) (λ place. (all_add v s).store t place (Gives (place ∷ [])) tt)

  each_adds : (t : ValType) (all : List Value) (place : ℕ) → AreSmall all → AddsReps (over.all_stored enter t all place)
  each_adds t [] place s = tt
  each_adds t (v ∷ all) place s =
      (all_add v (λ i. s (left_one (has_big v) _ i))).store t place (over.elements_from t (place + (laid t).size) (map (over.lowered enter) all) (Gives []))
      (each_adds t all (place + (laid t).size) (λ i. s (right_one (has_big v) _ i)))

  -- The plans of arguments, results and elements.
  arguments_by : (f : FuncType) (v : Value) → IsSmall v → AddsReps (arguments_plan enter f v)
  unfolding arguments_plan
  arguments_by f v s = either_adds (params_pass flat_param_limit f) (over.placed enter (params_type f) v) (over.flat_lowered enter (params_type f) v) (placed_adds (params_type f) v s) (flat_adds (params_type f) v s)

  result_by : (is_async : Bool) (t : ValType) (v : Value) (words : List ℕ) → IsSmall v → AddsReps (result_plan enter is_async t v words)
  unfolding result_plan
  result_by is_async t v words s =
      either_adds (is_async || result_passes flat_result_limit (Some t)) (over.stored enter t v (last_of words)) (over.flat_lowered enter t v) (stored_adds t v (last_of words) s) (flat_adds t v s)

  elements_by : (t : ValType) (all : List Value) (place : ℕ) → AreSmall all → AddsReps (elements_plan enter t all place)
  unfolding elements_plan
  elements_by t all place s = each_adds t all place s

-- Entries as they are made.
index_adds : (k : ℕ → Plan) → ((index : ℕ) → AddsReps (k index)) → (o : Option ℕ) → AddsReps (with_index k o)
index_adds k h None = tt
index_adds k h (Some index) = h index

entries_add : (is_own : ℕ → Bool) (entry : New) (k : ℕ → Plan) → HasNewRep entry → ((index : ℕ) → AddsReps (k index)) → AddsReps (entries_by is_own entry k)
entries_add is_own (NewOwn resource rep) k s h = (s, λ o. index_adds k h o)
entries_add is_own (NewBorrow resource rep) k s h = either_adds (is_own resource) (k rep) (Adds (NewBorrow resource rep) (with_index k)) (h rep) (s, λ o. index_adds k h o)
entries_add is_own (NewEnd kind number) k s h = (tt, λ o. index_adds k h o)

pub arguments_add : (is_own : ℕ → Bool) (f : FuncType) (v : Value) → IsSmall v → AddsReps (arguments_plan (entries_by is_own) f v)
arguments_add is_own f v s = arguments_by (entries_by is_own) (entries_add is_own) f v s

pub result_adds : (is_own : ℕ → Bool) (is_async : Bool) (t : ValType) (v : Value) (words : List ℕ) → IsSmall v → AddsReps (result_plan (entries_by is_own) is_async t v words)
result_adds is_own is_async t v words s = result_by (entries_by is_own) (entries_add is_own) is_async t v words s

pub elements_plan_add : (is_own : ℕ → Bool) (t : ValType) (all : List Value) (place : ℕ) → AreSmall all → AddsReps (elements_plan (entries_by is_own) t all place)
elements_plan_add is_own t all place s = elements_by (entries_by is_own) (entries_add is_own) t all place s

-- How far a plan goes.
abbrev pub PausesWith : Paused → Type 0
PausesWith (Words words) = Unit {0}
PausesWith (Failed why) = Unit {0}
PausesWith (Asked ask k) = (place : ℕ) → AddsReps (k place)

pub settled_adds : (t : ℕ) (plan : Plan) (bytes : List ℕ) (table : List (Event Entry)) → AddsReps plan → PausesWith (settle t plan bytes table).paused
settled_adds t (Gives words) bytes table h = tt
settled_adds t (Fails why) bytes table h = tt
settled_adds t (Asks ask k) bytes table h = h
settled_adds t (Size k) bytes table h = settled_adds t (k (length bytes)) bytes table (h (length bytes))
settled_adds t (Put place more k) bytes table h = settled_adds t k (written place more bytes) table h
settled_adds t (Adds entry k) bytes table h = settled_adds t (k (index_in table)) bytes (with_new (entry_of t entry) table) (h.1 (index_in table))

pub entry_rep : (t : ℕ) (entry : New) → HasNewRep entry → HasRep (entry_of t entry)
entry_rep t (NewOwn resource rep) h = h
entry_rep t (NewBorrow resource rep) h = h
entry_rep t (NewEnd kind number) h = tt
