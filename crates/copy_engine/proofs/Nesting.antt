-- The stack of a realloc is typed, and ends with one i32; and whatever it does, no memory gets shorter.
use Rattle.std.proofs.Common.{◌≡◌, ◌<◌, ◌≤◌, ◌^◌, ℕ, ◌&&◌, cond, if◌then◌else◌, Bool, true, false, List, [], ◌∷◌, length, refl, sym, ap, ◌∙◌, subst, arith, Option, Some, None, Result}
use Rattle.std.specs.Prelude.{unwrap_or}
use Rattle.std.specs.Option.{option_map}
use Rattle.std.specs.List.{slice_get}
use Rattle.syntax_trees.specs.declared.module_types.ValType.{ValType}
use Rattle.syntax_trees.specs.declared.module_types.ValType.TheVariants.{I32, I64}
use Rattle.syntax_trees.specs.SameTypes.{same_type, same_types}
use Rattle.wasm_numbers.specs.Types.{AreWords}
use Rattle.wasm_memory.specs.Memories.{MemoryState}
use Rattle.wasm_store.specs.Store.{Function, type_of, Store}
use Rattle.wasm_store.specs.Stack.{Stack}
use Rattle.wasm_store.specs.Step.{Ends, next, start, Steps}
use Rattle.wasm_store.specs.Typed.{StoreTyped, StackTyped, Extends}
use Rattle.wasm_store.specs.Laws.{MoveTyped}
use Rattle.wasm_store.proofs.Moving.{moves_typed, never_stuck, starts_typed}
use Rattle.wasm_execution.specs.Run.{Comes}
use Rattle.value_lower.specs.declared.ends.RoomEnd.{RoomEnd}
use Rattle.value_lower.specs.Plan.{Ask}
use Rattle.copy_engine.specs.declared.store_room.LowerOptions.{LowerOptions}
use Rattle.copy_engine.specs.declared.nested.NestedTrap.{NestedTrap}
use Rattle.copy_engine.specs.Nested.{RoomState, bytes_of, bytes_in, is_realloc, if_realloc, realloc_in, NestedGives, ReallocGives, Reallocs}

some_is : {X : Type 0} {x y : X} → ◌≡◌ {A = Option X} (Some x) (Some y) → x ≡ y
some_is {X} {x} h = ap (λ (o : Option X). unwrap_or o x) h

none_is : {A X : Type 0} {x : X} → ◌≡◌ {A = Option X} None (Some x) → A
none_is h = absurd cc

never : {A : Type 0} → false ≡ true → A
never h = absurd cc

both : (a b : Bool) → (a && b) ≡ true → (a ≡ true) × (b ≡ true)
both true true h = (refl, refl)
both true false h = never h
both false b h = never h

cond_both : (a b : Bool) → cond a b false ≡ true → (a ≡ true) × (b ≡ true)
cond_both true b h = (refl, h)
cond_both false b h = never h

type_same : (a b : ValType) → same_type a b ≡ true → a ≡ b
type_same I32 I32 h = refl
type_same I64 I64 h = refl
type_same I32 I64 h = never h
type_same I64 I32 h = never h

pub types_same : (a b : List ValType) → same_types a b ≡ true → a ≡ b
types_same [] [] h = refl
types_same [] (t ∷ ts) h = never h
types_same (s ∷ ss) [] h = never h
types_same (s ∷ ss) (t ∷ ts) h =
    let p = cond_both (same_type s t) (same_types ss ts) h in
    let first : s ≡ t = type_same s t p.0 in
    let rest : ss ≡ ts = types_same ss ts p.1 in
    cc (first, rest)

-- The function has these types.
pub realloc_types : (f : Function) → is_realloc f ≡ true → ((type_of f).params ≡ I32 ∷ I32 ∷ I32 ∷ I32 ∷ []) × ((type_of f).results ≡ I32 ∷ [])
realloc_types f h =
    let p = both (same_types (type_of f).params (I32 ∷ I32 ∷ I32 ∷ I32 ∷ [])) (same_types (type_of f).results (I32 ∷ [])) h in
    (types_same (type_of f).params (I32 ∷ I32 ∷ I32 ∷ I32 ∷ []) p.0, types_same (type_of f).results (I32 ∷ []) p.1)

-- A call of it with four i32 is typed.
pub begun_typed : (s : Store) (address : ℕ) (f : Function) (words : List ℕ) → StoreTyped s → slice_get s.funcs address ≡ Some f → is_realloc f ≡ true
    → AreWords (I32 ∷ I32 ∷ I32 ∷ I32 ∷ []) words → StackTyped s (I32 ∷ []) (start f address words)
begun_typed s address f words typed there is are =
    let types = realloc_types f is in
    let fit : AreWords (type_of f).params words = subst (λ (ts : List ValType). AreWords ts words) (sym types.0) are in
    subst (λ (ts : List ValType). StackTyped s ts (start f address words)) types.1 (starts_typed s address f words typed there fit)

-- The stack with which a call of the function at an address begins.
pub run_typed : (s : Store) (address : ℕ) (f g : Function) (words : List ℕ) (k : Stack) → StoreTyped s → slice_get s.funcs address ≡ Some f → is_realloc f ≡ true
    → AreWords (I32 ∷ I32 ∷ I32 ∷ I32 ∷ []) words → slice_get s.funcs address ≡ Some g → k ≡ start g address words → StackTyped s (I32 ∷ []) k
run_typed s address f g words k typed there is are also begins =
    let same : f ≡ g = some_is (sym there ∙ also) in
    let first : StackTyped s (I32 ∷ []) (start f address words) = begun_typed s address f words typed there is are in
    subst (StackTyped s (I32 ∷ [])) (sym begins) (subst (λ (h : Function). StackTyped s (I32 ∷ []) (start h address words)) same first)

-- Words of one i32 are one number.
one_word : (words : List ℕ) → AreWords (I32 ∷ []) words → (w : ℕ) × (words ≡ w ∷ []) × (w < 2 ^ 32)
one_word [] h = absurd h
one_word (w ∷ []) h = (w, refl, h.0)
one_word (w ∷ v ∷ vs) h = absurd h.1

-- Where it ends, it ends with one.
pub ends_with_one : (s t : Store) (k : Stack) (before after : ℕ) (words : List ℕ) → StoreTyped s → StackTyped s (I32 ∷ []) k
    → Comes s k before t after (Ends words) → (w : ℕ) × (words ≡ w ∷ []) × (w < 2 ^ 32)
ends_with_one s t k before after words typed stack comes =
    let later = never_stuck comes.spent s t (I32 ∷ []) k comes.last typed stack comes.steps in
    let move : MoveTyped t (I32 ∷ []) (next t comes.last) = moves_typed t (I32 ∷ []) comes.last later.1 later.2 in
    one_word words (subst (MoveTyped t (I32 ∷ [])) comes.moves move)

-- No memory gets shorter.
longer_at : (memory : ℕ) (s t : Store) (o : Option MemoryState) → slice_get s.memories memory ≡ o → Extends s t → length (bytes_of o) ≤ length (bytes_in memory t)
longer_at memory s t None there x = omega arith
longer_at memory s t (Some m) there x =
    let later = x.memories memory m there in
    subst (λ (o : Option MemoryState). length m.bytes ≤ length (bytes_of o)) (sym later.1) later.2.1

pub longer : (memory : ℕ) (s t : Store) → Extends s t → length (bytes_in memory s) ≤ length (bytes_in memory t)
longer memory s t x = longer_at memory s t (slice_get s.memories memory) refl x

-- Nor do they by the steps of a stack that calls the function at an address.
pub steps_grow : (spent : ℕ) (s t : Store) (address : ℕ) (f g : Function) (words : List ℕ) (k l : Stack) → StoreTyped s → slice_get s.funcs address ≡ Some f → is_realloc f ≡ true
    → AreWords (I32 ∷ I32 ∷ I32 ∷ I32 ∷ []) words → slice_get s.funcs address ≡ Some g → k ≡ start g address words → Steps spent s k t l
    → (memory : ℕ) → length (bytes_in memory s) ≤ length (bytes_in memory t)
steps_grow spent s t address f g words k l typed there is are also begins steps memory =
    longer memory s t (never_stuck spent s t (I32 ∷ []) k l typed (run_typed s address f g words k typed there is are also begins) steps).0

-- The function that a realloc calls is there.
-- what a test leaves of it
abbrev if_test : Bool → ℕ × Function → Option (ℕ × Function)
if_test b p = if b then Some p else None

by_test : (s : Store) (a address : ℕ) (x f : Function) (b : Bool) → slice_get s.funcs a ≡ Some x → is_realloc x ≡ b
    → if_test b (a, x) ≡ Some (address, f) → (slice_get s.funcs address ≡ Some f) × (is_realloc f ≡ true)
by_test s a address x f true there is h =
    let p : (a, x) ≡ (address, f) = some_is h in
    let at : a ≡ address = ap (λ (q : ℕ × Function). q.0) p in
    let same : x ≡ f = ap (λ (q : ℕ × Function). q.1) p in
    (subst (λ (n : ℕ). slice_get s.funcs n ≡ Some f) at (subst (λ (g : Function). slice_get s.funcs a ≡ Some g) same there), subst (λ (g : Function). is_realloc g ≡ true) same is)
by_test s a address x f false there is h = none_is h

by_function : (s : Store) (a address : ℕ) (f : Function) (o : Option Function) → slice_get s.funcs a ≡ o
    → if_realloc (option_map (λ x. (a, x)) o) ≡ Some (address, f) → (slice_get s.funcs address ≡ Some f) × (is_realloc f ≡ true)
by_function s a address f None there h = none_is h
by_function s a address f (Some x) there h = by_test s a address x f (is_realloc x) there refl h

pub realloc_there : (realloc : Option ℕ) (s : Store) (address : ℕ) (f : Function) → realloc_in realloc s ≡ Some (address, f)
    → (slice_get s.funcs address ≡ Some f) × (is_realloc f ≡ true)
realloc_there None s address f h = none_is h
realloc_there (Some a) s address f h = by_function s a address f (slice_get s.funcs a) refl h

-- What its run gives is what the realloc comes to.
pub answered : (options : LowerOptions) (r s : RoomState) (ask : Ask) (result : Result ℕ (RoomEnd NestedTrap)) (address : ℕ) (f : Function) (words : List ℕ)
    → realloc_in options.realloc r.store ≡ Some (address, f) → NestedGives r (start f address words) result s
    → words ≡ ask.old ∷ ask.old_size ∷ ask.align ∷ ask.size ∷ [] → Reallocs options r ask result s
answered options r s ask result address f words e h same =
    subst (λ (o : Option (ℕ × Function)). ReallocGives o r ask result s) (sym e) (subst (λ (ws : List ℕ). NestedGives r (start f address ws) result s) same h)
