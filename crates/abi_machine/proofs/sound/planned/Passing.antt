-- The plans of arguments, results and elements give words of the types that core functions take, and how far such a plan goes.
use Rattle.std.proofs.Common.{◌≡◌, ◌∙◌, ◌≤◌, ◌<◌, ◌+◌, ◌*◌, ◌^◌, ◌||◌, nat_lt, nat_le, ℕ, Bool, true, false, if◌then◌else◌, List, [], ◌∷◌, ◌++◌, map, length, Some, None, refl, ap, sym, subst, arith}
use Rattle.std.proofs.lemmas.Bool.Decides.{nat_tests}
use Rattle.std.specs.List.{flat_map, AllByRecursion}
use Rattle.std.specs.Prelude.{is_some}
use Rattle.syntax_trees.specs.declared.core_type.CoreType.{CoreType}
use Rattle.syntax_trees.specs.declared.core_type.CoreType.TheVariants.{I32, I64}
use Rattle.syntax_trees.specs.declared.core_type.FlatKind.TheVariants.{SyncLift, AsyncLift, CallbackLift}
use Rattle.syntax_trees.specs.declared.types.ValType.{ValType}
use Rattle.syntax_trees.specs.declared.types.Param.{Param}
use Rattle.syntax_trees.specs.declared.types.FuncType.{FuncType}
use Rattle.syntax_trees.specs.declared.value.Value.{Value}
use Rattle.syntax_trees.specs.Flat.{flat, all_of, at_most, returned, flat_params, flat_func}
use Rattle.laid_types.specs.Layout.{laid}
use Rattle.wasm_numbers.specs.Types.{AreWords}
use Rattle.value_lift.specs.WordStanding as lift
use Rattle.value_lift.proofs.WordStood.{flat_of_tuple}
use Rattle.value_lower.specs.Following.{written}
use Rattle.handle_table.specs.History.{Event, Add, IsHistory, live_count, most_live, next_index}
use Rattle.comp_graph.specs.declared.graph.Options.{Options}
use Rattle.comp_graph.specs.Needs.{core_val, core_func, lift_type, flat_param_limit, flat_result_limit}
use Rattle.lowering_laws.specs.Values.{AreBytes}
use Rattle.lowering_laws.proofs.Memories.{length_written}
use Rattle.lowering_laws.proofs.Bytes.{between}
use Rattle.abi_machine.specs.LoweringOver.{New, NewOwn, NewBorrow, NewEnd, Plan, Gives, Fails, Asks, Size, Put, Adds, stored, flat_lowered, placed}
use Rattle.abi_machine.specs.World.{Entry}
use Rattle.abi_machine.specs.Pausing.{with_index, entries_by, entry_of, has_room, Settled, settle}
use Rattle.abi_machine.specs.Passing.{params_type, params_pass, result_passes, arguments_plan, result_plan, elements_plan, last_of}
use Rattle.abi_machine.specs.sound.Answers.{HasRep}
use Rattle.abi_machine.specs.sound.Planned.{HasLowRep, IsPlanned, EventHasRep, PausesAt, IsSettled}
use Rattle.abi_machine.specs.sound.Values.{IsOf, AllAre}
use Rattle.abi_machine.proofs.sound.answers.Words.{index_small}
use Rattle.abi_machine.proofs.sound.planned.Stored.{Fits, either_fits}
use Rattle.abi_machine.proofs.sound.planned.Words.{flat_planned, placed_planned, stored_planned, each_planned}

-- Words of core types are words of the types of the core machine.
pub core_words : (types : List CoreType) (words : List ℕ) → lift.AreWords types words → AreWords (map core_val types) words
core_words [] [] h = tt
core_words [] (w ∷ words) h = absurd h
core_words (t ∷ types) [] h = absurd h
core_words (I32 ∷ types) (w ∷ words) h = (h.0, core_words types words h.1)
core_words (I64 ∷ types) (w ∷ words) h = (h.0, core_words types words h.1)

-- How many are passed as such.
more_le : (most count : ℕ) → nat_lt most count ≡ true → nat_le count most ≡ false
more_le most count h = grind (arith, nat_tests)

fewer_le : (most count : ℕ) → nat_lt most count ≡ false → nat_le count most ≡ true
fewer_le most count h = grind (arith, nat_tests)

abbrev either : {X : Type 0} → X → X → Bool → X
either x y b = if b then x else y

at_most_many : (most : ℕ) (types : List CoreType) → nat_lt most (length types) ≡ true → at_most most types ≡ I32 ∷ []
at_most_many most types h = ap (either types (I32 ∷ [])) (more_le most (length types) h)

at_most_few : (most : ℕ) (types : List CoreType) → nat_lt most (length types) ≡ false → at_most most types ≡ types
at_most_few most types h = ap (either types (I32 ∷ [])) (fewer_le most (length types) h)

pub returned_many : (types : List CoreType) → nat_lt 1 (length types) ≡ true → returned types ≡ []
returned_many types h = ap (either types []) (more_le 1 (length types) h)

pub returned_few : (types : List CoreType) → nat_lt 1 (length types) ≡ false → returned types ≡ types
returned_few types h = ap (either types []) (fewer_le 1 (length types) h)

all_flat : (params : List Param) → all_of (map flat (map (λ (p : Param). p.val_type) params)) ≡ flat_map (λ (p : Param). flat p.val_type) params
all_flat [] = refl
all_flat (p ∷ params) = ap (λ (ts : List CoreType). flat p.val_type ++ ts) (all_flat params)

flat_is_params : (f : FuncType) → flat (params_type f) ≡ flat_params f
flat_is_params f = flat_of_tuple (map (λ (p : Param). p.val_type) f.params) ∙ all_flat f.params

-- However a function is lifted, its core function takes the same.
lift_params : (options : Options) (f : FuncType) → (lift_type options f).params ≡ map core_val (at_most 16 (flat_params f))
lift_params options f = by options.is_async (is_some options.callback)
  where
    by : (a b : Bool) → (core_func (flat_func (if a then (if b then CallbackLift else AsyncLift) else SyncLift) f)).params ≡ map core_val (at_most 16 (flat_params f))
    by true true = refl
    by true false = refl
    by false b = refl

-- Entries are made with indices below 2^32.
pub entries_planned : (Q : List ℕ → Type 0) (own : ℕ → Bool) (entry : New) (n : ℕ) (k : ℕ → Plan) → HasLowRep entry → ((index : ℕ) → index < 2 ^ 32 → Fits Q n (k index)) → Fits Q n (entries_by own entry k)
entries_planned Q own (NewOwn resource rep) n k low h = (low, tt, h)
entries_planned Q own (NewBorrow resource rep) n k low h = either_fits Q n (own resource) (k rep) (Adds (NewBorrow resource rep) (with_index k)) (λ e. h rep low) (λ e. (low, tt, h))
entries_planned Q own (NewEnd kind number) n k low h = (tt, tt, h)

pub arguments_planned : (options : Options) (f : FuncType) (own : ℕ → Bool) (v : Value) (n : ℕ) → IsOf (params_type f) v → IsPlanned (λ words. AreWords (lift_type options f).params words) n (arguments_plan (entries_by own) f v)
unfolding arguments_plan
arguments_planned options f own v n is =
    let Q : List ℕ → Type 0 = λ words. AreWords (lift_type options f).params words in
    either_fits Q n (params_pass flat_param_limit f) (placed (entries_by own) (params_type f) v) (flat_lowered (entries_by own) (params_type f) v)
    (λ e. placed_planned Q (entries_by own) (entries_planned Q own) (params_type f) v n is
    (λ place small. subst (λ ts. AreWords ts (place ∷ [])) (sym (lift_params options f ∙ ap (λ (ts : List CoreType). map core_val ts) (at_most_many 16 (flat_params f) e))) (small, tt)))
    (λ e. flat_planned Q (entries_by own) (entries_planned Q own) (params_type f) v n is
    (λ ws a. subst (λ ts. AreWords ts ws) (sym (lift_params options f ∙ ap (λ (ts : List CoreType). map core_val ts) (at_most_few 16 (flat_params f) e ∙ sym (flat_is_params f)))) (core_words (flat (params_type f)) ws a)))

pub result_planned : (Q : List ℕ → Type 0) (own : ℕ → Bool) (is_async : Bool) (type : ValType) (v : Value) (words : List ℕ) (n : ℕ) → IsOf type v → ((is_async || result_passes flat_result_limit (Some type)) ≡ true → Q [])
    → ((is_async || result_passes flat_result_limit (Some type)) ≡ false → (ws : List ℕ) → lift.AreWords (flat type) ws → Q ws) → IsPlanned Q n (result_plan (entries_by own) is_async type v words)
unfolding result_plan
result_planned Q own is_async type v words n is many few =
    either_fits Q n (is_async || result_passes flat_result_limit (Some type)) (stored (entries_by own) type v (last_of words)) (flat_lowered (entries_by own) type v)
    (λ e. stored_planned Q (entries_by own) (entries_planned Q own) type v (last_of words) n is (many e)) (λ e. flat_planned Q (entries_by own) (entries_planned Q own) type v n is (few e))

pub elements_planned : (Q : List ℕ → Type 0) (own : ℕ → Bool) (type : ValType) (all : List Value) (place n : ℕ) → AllAre type all → place + length all * (laid type).size ≤ n → Q [] → IsPlanned Q n (elements_plan (entries_by own) type all place)
unfolding elements_plan
elements_planned Q own type all place n are room gives = each_planned Q (entries_by own) (entries_planned Q own) type all place n are room gives

new_rep : (t : ℕ) (entry : New) → HasLowRep entry → HasRep (entry_of t entry)
new_rep t (NewOwn resource rep) h = h
new_rep t (NewBorrow resource rep) h = h
new_rep t (NewEnd kind number) h = tt

settled_as : (Q : List ℕ → Type 0) (bytes others : List ℕ) (s : Settled) → length others ≡ length bytes → IsSettled Q others s → IsSettled Q bytes s
settled_as Q bytes others s e h = record { pauses = subst (λ (n : ℕ). PausesAt Q n s.paused) e h.pauses; long = h.long ∙ e; are = h.are; reps = h.reps }

pub settles : (Q : List ℕ → Type 0) (t : ℕ) (plan : Plan) (bytes : List ℕ) (table : List (Event Entry)) → IsPlanned Q (length bytes) plan → AreBytes bytes → AllByRecursion EventHasRep table → IsHistory table
    → IsSettled Q bytes (settle t plan bytes table)
settles Q t (Gives words) bytes table h are reps history = record { pauses = h; long = refl; are = are; reps = reps }
settles Q t (Fails why) bytes table h are reps history = record { pauses = tt; long = refl; are = are; reps = reps }
settles Q t (Asks ask k) bytes table h are reps history = record { pauses = h; long = refl; are = are; reps = reps }
settles Q t (Size k) bytes table h are reps history = settles Q t (k (length bytes)) bytes table h are reps history
settles Q t (Put place more k) bytes table h are reps history =
    let long : length (written place more bytes) ≡ length bytes = length_written place more bytes h.1 in
    settled_as Q bytes (written place more bytes) (settle t k (written place more bytes) table) long
    (settles Q t k (written place more bytes) table (subst (λ (n : ℕ). IsPlanned Q n k) (sym long) h.2) (between place (place + length more) more bytes h.0 are) reps history)
settles Q t (Adds entry k) bytes table h are reps history =
    by (has_room table) refl (λ planned more later. settles Q t (k (Some (next_index table))) bytes (Add (next_index table) (entry_of t entry) ∷ table) planned are more later) (settles Q t (k None) bytes table h.1 are reps history)
  where
    less : (a b : ℕ) → nat_lt a b ≡ true → a < b
    less a b e = grind (arith, nat_tests)

    with_entry : List (Event Entry)
    with_entry = Add (next_index table) (entry_of t entry) ∷ table

    by : (b : Bool) → has_room table ≡ b
        → (IsPlanned Q (length bytes) (k (Some (next_index table))) → AllByRecursion EventHasRep with_entry → IsHistory with_entry → IsSettled Q bytes (settle t (k (Some (next_index table))) bytes with_entry))
        → IsSettled Q bytes (settle t (k None) bytes table) → IsSettled Q bytes (settle t (k (if b then Some (next_index table) else None)) bytes (if b then with_entry else table))
    by true e more none =
        let few : live_count table < most_live = less (live_count table) most_live e in
        let small : next_index table ≤ 65535 = index_small table history few in
        more (h.2 (next_index table) (omega (arith, small))) (new_rep t entry h.0, reps) (history, refl, few)
    by false e more none = none
