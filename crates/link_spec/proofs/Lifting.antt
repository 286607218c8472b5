-- The tests of options, and of what can be lifted and lowered with them, say what the relations say.
use Rattle.std.proofs.Common.{◌≡◌, ◌≤◌, ◌<◌, ℕ, zero, suc, Bool, true, false, not, ◌&&◌, ◌||◌, nat_lt, List, [], ◌∷◌, length, refl, ap, arith, Option, Some, None}
use Rattle.std.specs.Prelude.{IfSome, IsSome, is_some}
use Rattle.std.specs.Bool.{Decides}
use Rattle.std.specs.Option.{option_map_or}
use Rattle.std.specs.List.{slice_get}
use Rattle.std.proofs.lemmas.Bool.Decides.{nat_tests}
use Rattle.syntax_trees.specs.declared.types.FuncType.{FuncType}
use Rattle.syntax_trees.specs.declared.module_types.FuncType as core
use Rattle.comp_graph.specs.CoreItems.{CoreItem, func_part}
use Rattle.comp_graph.specs.Needs.{lift_type, realloc_type, callback_type, post_return_type, lift_needs_memory, lift_needs_realloc, lower_needs_memory, lower_needs_realloc}
use Rattle.comp_tree.specs.declared.items.CanonOption.{CanonOption}
use Rattle.link_spec.specs.Spaces.{Spaces}
use Rattle.link_spec.specs.Tests.{same_core_func}
use Rattle.link_spec.specs.Canons.{is_utf8, is_async, memory_index, realloc_index, post_return_index, callback_index, count_of, StandOnce, IsOptionThere, Given, options_of, IsOfCoreType, CanBeLifted, CanBeUsed, CanBeLowered, at_most_once, stand_once, is_index_there, is_option_there, is_of_core_type, are_of_types, are_of_kind, can_be_lifted, can_be_used, can_be_lowered}
use Rattle.link_spec.proofs.SameValues.{never, both, and}
use Rattle.link_spec.proofs.Telling.{less, at_most, core_func_told}

-- Options.

once : (p : CanonOption → Bool) (options : List CanonOption) → Decides (at_most_once p options) (count_of p options ≤ 1)
once p options = at_most (count_of p options) 1

pub once_told : (options : List CanonOption) → Decides (stand_once options) (StandOnce options)
once_told options = (to, from)
  where
    u : Bool
    u = at_most_once is_utf8 options

    m : Bool
    m = at_most_once (λ o. is_some (memory_index o)) options

    r : Bool
    r = at_most_once (λ o. is_some (realloc_index o)) options

    p : Bool
    p = at_most_once (λ o. is_some (post_return_index o)) options

    a : Bool
    a = at_most_once is_async options

    c : Bool
    c = at_most_once (λ o. is_some (callback_index o)) options

    to : stand_once options ≡ true → StandOnce options
    to h =
        let five = both (u && m && r && p && a) c h in
        let four = both (u && m && r && p) a five.0 in
        let three = both (u && m && r) p four.0 in
        let two = both (u && m) r three.0 in
        let one = both u m two.0 in
        record {
          utf8 = (once is_utf8 options).0 one.0;
          memory = (once (λ o. is_some (memory_index o)) options).0 one.1;
          realloc = (once (λ o. is_some (realloc_index o)) options).0 two.1;
          post_return = (once (λ o. is_some (post_return_index o)) options).0 three.1;
          asynchronous = (once is_async options).0 four.1;
          callback = (once (λ o. is_some (callback_index o)) options).0 five.1;
        }

    from : StandOnce options → stand_once options ≡ true
    from s =
        and (u && m && r && p && a) c
        (and (u && m && r && p) a
        (and (u && m && r) p
        (and (u && m) r
        (and u m ((once is_utf8 options).1 s.utf8) ((once (λ o. is_some (memory_index o)) options).1 s.memory))
        ((once (λ o. is_some (realloc_index o)) options).1 s.realloc))
        ((once (λ o. is_some (post_return_index o)) options).1 s.post_return))
        ((once is_async options).1 s.asynchronous))
        ((once (λ o. is_some (callback_index o)) options).1 s.callback)

-- an index that is there
within : {A : Type 0} (xs : List A) (i : ℕ) → i < length xs → IsSome (slice_get xs i)
within [] i h = absurd (omega arith)
within (x ∷ xs) zero h = refl
within (x ∷ xs) (suc i) h = within xs i (omega arith)

inside : {A : Type 0} (xs : List A) (i : ℕ) → IsSome (slice_get xs i) → i < length xs
inside [] i h = never h
inside (x ∷ xs) zero h = omega arith
inside (x ∷ xs) (suc i) h = let k = inside xs i h in omega arith

is_less : (a b : ℕ) → a < b → nat_lt a b ≡ true
is_less a b h = grind (arith, nat_tests)

index_told : {A : Type 0} (xs : List A) (index : Option ℕ) → Decides (is_index_there xs index) (IfSome index (λ i. IsSome (slice_get xs i)))
index_told xs None = (λ h. tt, λ h. refl)
index_told xs (Some i) = (λ h. within xs i (less i (length xs) h), λ h. is_less i (length xs) (inside xs i h))

pub option_told : (s : Spaces) (o : CanonOption) → Decides (is_option_there s o) (IsOptionThere s o)
option_told s o = (to, λ (h, k, i, j). and (m && r && p) c (and (m && r) p (and m r (memory.1 h) (realloc.1 k)) (post_return.1 i)) (callback.1 j))
  where
    m : Bool
    m = is_index_there s.core_memories (memory_index o)

    r : Bool
    r = is_index_there s.core_funcs (realloc_index o)

    p : Bool
    p = is_index_there s.core_funcs (post_return_index o)

    c : Bool
    c = is_index_there s.core_funcs (callback_index o)

    memory : Decides m (IfSome (memory_index o) (λ i. IsSome (slice_get s.core_memories i)))
    memory = index_told s.core_memories (memory_index o)

    realloc : Decides r (IfSome (realloc_index o) (λ i. IsSome (slice_get s.core_funcs i)))
    realloc = index_told s.core_funcs (realloc_index o)

    post_return : Decides p (IfSome (post_return_index o) (λ i. IsSome (slice_get s.core_funcs i)))
    post_return = index_told s.core_funcs (post_return_index o)

    callback : Decides c (IfSome (callback_index o) (λ i. IsSome (slice_get s.core_funcs i)))
    callback = index_told s.core_funcs (callback_index o)

    to : is_option_there s o ≡ true → IsOptionThere s o
    to h =
        let three = both (m && r && p) c h in
        let two = both (m && r) p three.0 in
        let one = both m r two.0 in
        (memory.0 one.0, realloc.0 one.1, post_return.0 two.1, callback.0 three.1)

-- Lifts.

func_told : (o : Option core.FuncType) (type : core.FuncType) → Decides (option_map_or (λ other. same_core_func other type) o false) (o ≡ Some type)
func_told None type = (λ h. never h, λ e. cc)
func_told (Some other) type = (λ h. ap Some ((core_func_told other type).0 h), λ e. (core_func_told other type).1 (let same : other ≡ type = cc in same))

pub of_type_told : (type : core.FuncType) (item : CoreItem) → Decides (is_of_core_type type item) (IsOfCoreType type item)
of_type_told type item = func_told (func_part item) type

given_told : (type : core.FuncType) (given : Option CoreItem) → Decides (option_map_or (is_of_core_type type) given true) (IfSome given (IsOfCoreType type))
given_told type None = (λ h. tt, λ h. refl)
given_told type (Some item) = of_type_told type item

-- what a test implies, and what it excludes
implied_told : (p q : Bool) → Decides (not p || q) (p ≡ true → q ≡ true)
implied_told true q = (λ h k. h, λ h. h refl)
implied_told false q = (λ h k. never k, λ h. refl)

denied_told : (p q : Bool) → Decides (not p || not q) (p ≡ true → q ≡ false)
denied_told true true = (λ h k. never h, λ h. (let no : true ≡ false = h refl in cc))
denied_told true false = (λ h k. refl, λ h. refl)
denied_told false q = (λ h k. never k, λ h. refl)

needed_told : {A : Type 0} (needs : Bool) (given : Option A) → Decides (not needs || is_some given) (needs ≡ true → IsSome given)
needed_told needs given = implied_told needs (is_some given)

-- the core functions of a lift
record Fitting (type : FuncType) (item : CoreItem) (given : Given) : Type 0 where
  core : IsOfCoreType (lift_type (options_of given) type) item
  realloc : IfSome given.realloc (IsOfCoreType realloc_type)
  post_return : IfSome given.post_return (IsOfCoreType (post_return_type type))
  callback : IfSome given.callback (IsOfCoreType callback_type)

types_told : (type : FuncType) (item : CoreItem) (given : Given) → Decides (are_of_types type item given) (Fitting type item given)
types_told type item given = (to, from)
  where
    flat : core.FuncType
    flat = lift_type (options_of given) type

    c : Bool
    c = is_of_core_type flat item

    r : Bool
    r = option_map_or (is_of_core_type realloc_type) given.realloc true

    p : Bool
    p = option_map_or (is_of_core_type (post_return_type type)) given.post_return true

    b : Bool
    b = option_map_or (is_of_core_type callback_type) given.callback true

    to : are_of_types type item given ≡ true → Fitting type item given
    to h =
        let three = both (c && r && p) b h in
        let two = both (c && r) p three.0 in
        let one = both c r two.0 in
        record {
          core = (of_type_told flat item).0 one.0;
          realloc = (given_told realloc_type given.realloc).0 one.1;
          post_return = (given_told (post_return_type type) given.post_return).0 two.1;
          callback = (given_told callback_type given.callback).0 three.1;
        }

    from : Fitting type item given → are_of_types type item given ≡ true
    from h =
        and (c && r && p) b
        (and (c && r) p
        (and c r ((of_type_told flat item).1 h.core) ((given_told realloc_type given.realloc).1 h.realloc))
        ((given_told (post_return_type type) given.post_return).1 h.post_return))
        ((given_told callback_type given.callback).1 h.callback)

-- the kind of a lift
record OfKind (given : Given) : Type 0 where
  returns : IsSome given.post_return → given.is_async ≡ false
  called_back : IsSome given.callback → given.is_async ≡ true

kind_told : (given : Given) → Decides (are_of_kind given) (OfKind given)
kind_told given = (to, from)
  where
    p : Bool
    p = not (is_some given.post_return) || not given.is_async

    b : Bool
    b = not (is_some given.callback) || given.is_async

    to : are_of_kind given ≡ true → OfKind given
    to h =
        let one = both p b h in
        record {
          returns = (denied_told (is_some given.post_return) given.is_async).0 one.0;
          called_back = (implied_told (is_some given.callback) given.is_async).0 one.1;
        }

    from : OfKind given → are_of_kind given ≡ true
    from h =
        and p b ((denied_told (is_some given.post_return) given.is_async).1 h.returns)
        ((implied_told (is_some given.callback) given.is_async).1 h.called_back)

pub lifted_told : (type : FuncType) (item : CoreItem) (given : Given) → Decides (can_be_lifted type item given) (CanBeLifted type item given)
lifted_told type item given = (to, from)
  where
    t : Bool
    t = are_of_types type item given

    k : Bool
    k = are_of_kind given

    m : Bool
    m = not (lift_needs_memory given.is_async type) || is_some given.memory

    n : Bool
    n = not (lift_needs_realloc type) || is_some given.realloc

    to : can_be_lifted type item given ≡ true → CanBeLifted type item given
    to h =
        let three = both (t && k && m) n h in
        let two = both (t && k) m three.0 in
        let one = both t k two.0 in
        let types = (types_told type item given).0 one.0 in
        let kind = (kind_told given).0 one.1 in
        record {
          core = types.core;
          realloc = types.realloc;
          post_return = types.post_return;
          callback = types.callback;
          returns = kind.returns;
          called_back = kind.called_back;
          memory_given = (needed_told (lift_needs_memory given.is_async type) given.memory).0 two.1;
          realloc_given = (needed_told (lift_needs_realloc type) given.realloc).0 three.1;
        }

    from : CanBeLifted type item given → can_be_lifted type item given ≡ true
    from h =
        and (t && k && m) n
        (and (t && k) m
        (and t k ((types_told type item given).1 (record { core = h.core; realloc = h.realloc; post_return = h.post_return; callback = h.callback }))
        ((kind_told given).1 (record { returns = h.returns; called_back = h.called_back })))
        ((needed_told (lift_needs_memory given.is_async type) given.memory).1 h.memory_given))
        ((needed_told (lift_needs_realloc type) given.realloc).1 h.realloc_given)

-- Uses.

none_told : {A : Type 0} (given : Option A) → Decides (not (is_some given)) (given ≡ None)
none_told None = (λ h. refl, λ e. refl)
none_told (Some a) = (λ h. never h, λ e. cc)

pub used_told : (memory_used realloc_used : Bool) (given : Given) → Decides (can_be_used memory_used realloc_used given) (CanBeUsed memory_used realloc_used given)
used_told memory_used realloc_used given = (to, from)
  where
    r : Bool
    r = option_map_or (is_of_core_type realloc_type) given.realloc true

    p : Bool
    p = not (is_some given.post_return)

    b : Bool
    b = not (is_some given.callback)

    m : Bool
    m = not memory_used || is_some given.memory

    n : Bool
    n = not realloc_used || is_some given.realloc

    to : can_be_used memory_used realloc_used given ≡ true → CanBeUsed memory_used realloc_used given
    to h =
        let four = both (r && p && b && m) n h in
        let three = both (r && p && b) m four.0 in
        let two = both (r && p) b three.0 in
        let one = both r p two.0 in
        record {
          realloc = (given_told realloc_type given.realloc).0 one.0;
          post_return = (none_told given.post_return).0 one.1;
          callback = (none_told given.callback).0 two.1;
          memory_given = (needed_told memory_used given.memory).0 three.1;
          realloc_given = (needed_told realloc_used given.realloc).0 four.1;
        }

    from : CanBeUsed memory_used realloc_used given → can_be_used memory_used realloc_used given ≡ true
    from h =
        and (r && p && b && m) n
        (and (r && p && b) m
        (and (r && p) b
        (and r p ((given_told realloc_type given.realloc).1 h.realloc) ((none_told given.post_return).1 h.post_return))
        ((none_told given.callback).1 h.callback))
        ((needed_told memory_used given.memory).1 h.memory_given))
        ((needed_told realloc_used given.realloc).1 h.realloc_given)

pub lowered_told : (type : FuncType) (given : Given) → Decides (can_be_lowered type given) (CanBeLowered type given)
lowered_told type given = used_told (lower_needs_memory given.is_async type) (lower_needs_realloc type) given
