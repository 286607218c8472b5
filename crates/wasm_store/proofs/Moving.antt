-- Typed stacks have typed moves.
use Rattle.std.proofs.Common.{◌≡◌, ◌≢◌, ◌<◌, ℕ, zero, suc, Bool, true, false, if◌then◌else◌, nat_lt, List, [], ◌∷◌, ◌++◌, length, reverse, drop, refl, ap, ap₂, sym, ◌∙◌, subst, arith, Option, Some, None}
use Rattle.std.specs.List.{slice_get, AllByRecursion}
use Rattle.std.specs.Option.{option_map, option_and_then}
use Rattle.std.specs.Int.{w32, w64}
use Rattle.std.proofs.lemmas.List.{reverse-append, length-reverse}
use Rattle.std.proofs.lemmas.Bool.Decides.{nat_tests}
use Rattle.syntax_trees.specs.declared.module_types.ValType.{ValType}
use Rattle.syntax_trees.specs.declared.module_types.ValType.TheVariants.{I32, I64}
use Rattle.syntax_trees.specs.declared.module_types.FuncType.{FuncType}
use Rattle.syntax_trees.specs.declared.module_types.GlobalType.{GlobalType}
use Rattle.syntax_trees.specs.declared.module_types.Mutability.{Mutability}
use Rattle.syntax_trees.specs.declared.module_types.Mutability.TheVariants.{Constant, Variable}
use Rattle.syntax_trees.specs.declared.instr.BlockType.{BlockType}
use Rattle.syntax_trees.specs.declared.instr.Instr.{Instr}
use Rattle.syntax_trees.specs.declared.instr.Instr.TheVariants as instr
use Rattle.syntax_trees.specs.Expr.{Expr, End, Plain, Block, Loop, If, IfElse}
use Rattle.wasm_typing.specs.Context.{Context, arrow, params as block_params, results as block_results}
use Rattle.wasm_typing.specs.Instrs.{numeric_type, load_gives, store_takes, func_type, where_there, has_memory, select_type, unless, is_constant, is_constant_global, is_forbidden}
use Rattle.wasm_typing.specs.Typing.{Operands, Matches, AllMatch, operands_of, Takes, Turns, GoesTo, Applies, TypedFrom}
use Rattle.wasm_numbers.specs.Stack.{applied}
use Rattle.wasm_numbers.specs.Types.{IsWord, AreWords}
use Rattle.wasm_memory.specs.Memories.{MemoryState}
use Rattle.wasm_store.specs.Store.{Function, Own, Host, type_of, Table, Global, Instance, Store, func_at, table_at, memory_at, global_at}
use Rattle.wasm_store.specs.Stack.{Frame, Stack, Running, AtHost, Given}
use Rattle.wasm_store.specs.Effects.{Effect, Leaves, word_of, by_number, dropped, selected, local_get, local_set, local_tee, global_get, global_set, load, store, memory_size, memory_grow, memory_fill, memory_copy}
use Rattle.wasm_store.specs.declared.trap.Trap.TheVariants.{OtherSignature}
use Rattle.wasm_store.specs.Step.{Goes, Traps, Stuck, invoked, branched, branched_if, branched_by, table_label, called, same_type, same_types, same_signature, called_as, called_entry, called_through, by_effect, moved, block_label, loop_label, entered, chosen, move_at, move_in, next, Moves}
use Rattle.wasm_store.specs.Typed.{HasContext, EntryTyped, TableTyped, GlobalTyped, StoreTyped, Extends, FunctionTyped, OwnTyped, known, FrameTyped, FramesTyped, StackTyped}
use Rattle.wasm_store.specs.Laws.{MoveTyped, MovesTyped, NeverStuck, StartsTyped}
use Rattle.wasm_store.proofs.Lists.{both_true, all_at, found_there}
use Rattle.wasm_store.proofs.Words.{as_long, rest_below, under_words}
use Rattle.syntax_trees.specs.Locals.{local_types}
use Rattle.wasm_store.proofs.Operands.{taken_known, known_match}
use Rattle.wasm_store.proofs.Stores.{store_same, further}
use Rattle.wasm_store.proofs.Effecting.{EffectTyped, one_left, numeric_typed, selected_typed, local_get_typed, local_set_typed, local_tee_typed, global_set_typed, load_typed, store_typed, size_typed, grow_typed, fill_typed, copy_typed}
use Rattle.wasm_store.proofs.Framing.{over_taken, over_takes, effect_moves, end_typed, branch_typed, return_typed, first_typed, invoked_typed, entered_typed}

-- what is there of an option that is made of others
map_some : {A B : Type 0} (f : A → B) (o : Option A) (y : B) → option_map f o ≡ Some y → (x : A) × (o ≡ Some x) × (f x ≡ y)
map_some f None y h = cc
map_some f (Some x) y h = (x, refl, cc)

there_some : (b : Bool) (t u : FuncType) → where_there b t ≡ Some u → (b ≡ true) × (t ≡ u)
there_some true t u h = (refl, cc)
there_some false t u h = cc

unless_some : (b : Bool) (o : Option FuncType) (u : FuncType) → unless b o ≡ Some u → o ≡ Some u
unless_some true o u h = cc
unless_some false o u h = h

unless_not : (b : Bool) (o : Option FuncType) (u : FuncType) → unless b o ≡ Some u → b ≡ false
unless_not true o u h = cc
unless_not false o u h = refl

-- what may be set
may_be_set : (mutability : Mutability) → is_constant mutability ≡ false → mutability ≡ Variable
may_be_set Constant h = cc
may_be_set Variable h = refl

then_some : {A B : Type 0} (f : A → Option B) (o : Option A) (y : B) → option_and_then f o ≡ Some y → (x : A) × (o ≡ Some x) × (f x ≡ Some y)
then_some f None y h = cc
then_some f (Some x) y h = (x, refl, h)

less : (a b : ℕ) → nat_lt a b ≡ true → a < b
less a b h = grind (arith, nat_tests)

-- an instruction that only makes something of locals and values
plain_moves : (s : Store) (results gives : List ValType) (f : Frame) (fs : List Frame) (h : FrameTyped s [] gives f) (e : Expr) (type : FuncType) (qs : Operands) (E : List ℕ → Effect) → FramesTyped s results gives fs → Turns type (known h.own) qs → TypedFrom h.context h.types h.ends e qs → ((front under : List ℕ) → AreWords (reverse type.params) front → EffectTyped s h.context.locals type.results under (E (front ++ under))) → MoveTyped s results (by_effect (E f.values) (record f { rest = e }) fs)
plain_moves s results gives f fs h e type qs E k (below, takes, after) typed made =
    let p = over_takes (reverse type.params) h.own h.words f.values h.under below takes h.typed h.values_are in
    let left : TypedFrom h.context h.types h.ends e (operands_of type.results ++ known p.others) =
    subst (TypedFrom h.context h.types h.ends e) (after ∙ ap (λ (os : Operands). operands_of type.results ++ os) p.below_is) typed in
    let effect : EffectTyped s h.context.locals type.results (p.back ++ h.under) (E f.values) =
    subst (λ (vs : List ℕ). EffectTyped s h.context.locals type.results (p.back ++ h.under) (E vs)) (sym p.values_are) (made p.front (p.back ++ h.under) p.ahead) in
    effect_moves s results gives f fs h e type.results p.others p.back (E f.values) k p.behind left effect

-- the same of an instruction whose type is this one
typed_moves : (s : Store) (results gives : List ValType) (f : Frame) (fs : List Frame) (h : FrameTyped s [] gives f) (e : Expr) (type other : FuncType) (qs : Operands) (E : List ℕ → Effect) → FramesTyped s results gives fs → type ≡ other → Turns other (known h.own) qs → TypedFrom h.context h.types h.ends e qs → ((front under : List ℕ) → AreWords (reverse type.params) front → EffectTyped s h.context.locals type.results under (E (front ++ under))) → MoveTyped s results (by_effect (E f.values) (record f { rest = e }) fs)
typed_moves s results gives f fs h e type other qs E k same turns typed made =
    plain_moves s results gives f fs h e type qs E k (subst (λ (t : FuncType). Turns t (known h.own) qs) (sym same) turns) typed made

-- the memory of an instance
memory_there : (s : Store) (i : Instance) (c : Context) → HasContext s i c → has_memory c ≡ true → (m : ℕ × MemoryState) × (memory_at 0 i s ≡ Some m) × (slice_get s.memories m.0 ≡ Some m.1)
memory_there s i c h e =
    let m = h.memories 0 (less 0 c.memories e) in
    (m.0, m.1, (found_there s.memories (slice_get i.memories 0) m.0 m.1).1)

global_there : (s : Store) (i : Instance) (c : Context) (index : ℕ) (type : GlobalType) → HasContext s i c → slice_get c.globals index ≡ Some type → (g : ℕ × Global) × (global_at index i s ≡ Some g) × (slice_get s.globals g.0 ≡ Some g.1) × (g.1.type ≡ type)
global_there s i c index type h e =
    let g = h.globals index type e in
    (g.0, g.1, (found_there s.globals (slice_get i.globals index) g.0 g.1).1, g.2)

-- an instruction of memories
memory_moves : (s : Store) (results gives : List ValType) (f : Frame) (fs : List Frame) (h : FrameTyped s [] gives f) (e : Expr) (type other : FuncType) (qs : Operands) (E : Option (ℕ × MemoryState) → List ℕ → Effect) → FramesTyped s results gives fs → where_there (has_memory h.context) type ≡ Some other → Turns other (known h.own) qs → TypedFrom h.context h.types h.ends e qs → ((m : ℕ × MemoryState) (front under : List ℕ) → slice_get s.memories m.0 ≡ Some m.1 → AreWords (reverse type.params) front → EffectTyped s h.context.locals type.results under (E (Some m) (front ++ under))) → MoveTyped s results (by_effect (E (memory_at 0 h.owner s) f.values) (record f { rest = e }) fs)
memory_moves s results gives f fs h e type other qs E k some turns typed made =
    let w = there_some (has_memory h.context) type other some in
    let m = memory_there s h.owner h.context h.has w.0 in
    subst (λ (o : Option (ℕ × MemoryState)). MoveTyped s results (by_effect (E o f.values) (record f { rest = e }) fs)) (sym m.1)
    (typed_moves s results gives f fs h e type other qs (E (Some m.0)) k w.1 turns typed (λ front under a. made m.0 front under m.2 a))

-- the operands of a call through a table: the arguments, and the number of an entry
last_first : (types : List ValType) → reverse (types ++ I32 ∷ []) ≡ I32 ∷ reverse types
last_first types = reverse-append types (I32 ∷ [])

-- words of an i32 and of types
pub record IsLast (types : List ValType) (front : List ℕ) : Type 0 where
  pub last : ℕ
  pub others : List ℕ
  pub are : front ≡ last ∷ others
  pub ahead : AreWords types others

is_last : (types : List ValType) (front : List ℕ) → AreWords (I32 ∷ types) front → IsLast types front
is_last types [] w = absurd w
is_last types (n ∷ front) w = record { last = n; others = front; are = refl; ahead = w.1 }

-- `br_if`
if_typed : (s : Store) (results gives : List ValType) (f : Frame) (fs : List Frame) (h : FrameTyped s [] gives f) (e : Expr) (depth n : ℕ) (type : List ValType) (front back : List ℕ) (others : List ValType) → StoreTyped s → FramesTyped s results gives fs → slice_get h.types depth ≡ Some type → AreWords (reverse type) front → AreWords others back → TypedFrom h.context h.types h.ends e (operands_of type ++ known others) → MoveTyped s results (branched_if depth (n ∷ (front ++ (back ++ h.under))) s (record f { rest = e }) fs)
if_typed s results gives f fs h e depth zero type front back others st k there w b typed =
    effect_moves s results gives f fs h e type others back (Leaves s f.locals (front ++ (back ++ h.under))) k b typed (store_same s, st, h.locals_are, (front, refl, w))
if_typed s results gives f fs h e depth (suc n) type front back others st k there w b typed =
    branch_typed s results gives f fs h e depth type (front ++ (back ++ h.under)) front (back ++ h.under) st k there w refl

br_if_typed : (s : Store) (results gives : List ValType) (f : Frame) (fs : List Frame) (h : FrameTyped s [] gives f) (e : Expr) (depth : ℕ) (types : List ValType) (qs : Operands) → StoreTyped s → FramesTyped s results gives fs → slice_get h.types depth ≡ Some types → Turns (arrow (types ++ I32 ∷ []) types) (known h.own) qs → TypedFrom h.context h.types h.ends e qs → MoveTyped s results (branched_if depth f.values s (record f { rest = e }) fs)
br_if_typed s results gives f fs h e depth types qs st k there (below, takes, after) typed =
    let p = over_takes (reverse (types ++ I32 ∷ [])) h.own h.words f.values h.under below takes h.typed h.values_are in
    let l = is_last (reverse types) p.front (subst (λ (ts : List ValType). AreWords ts p.front) (last_first types) p.ahead) in
    let values : f.values ≡ l.last ∷ (l.others ++ (p.back ++ h.under)) = p.values_are ∙ ap (λ (ws : List ℕ). ws ++ (p.back ++ h.under)) l.are in
    let left : TypedFrom h.context h.types h.ends e (operands_of types ++ known p.others) =
    subst (TypedFrom h.context h.types h.ends e) (after ∙ ap (λ (os : Operands). operands_of types ++ os) p.below_is) typed in
    subst (λ (vs : List ℕ). MoveTyped s results (branched_if depth vs s (record f { rest = e }) fs)) (sym values)
    (if_typed s results gives f fs h e depth l.last types l.others p.back p.others st k there l.ahead p.behind left)

-- `br`
br_typed : (s : Store) (results gives : List ValType) (f : Frame) (fs : List Frame) (h : FrameTyped s [] gives f) (e : Expr) (depth : ℕ) (types : List ValType) (below : Operands) → StoreTyped s → FramesTyped s results gives fs → slice_get h.types depth ≡ Some types → Takes (reverse types) (known h.own) below → MoveTyped s results (branched depth f.values s (record f { rest = e }) fs)
br_typed s results gives f fs h e depth types below st k there takes =
    let p = over_takes (reverse types) h.own h.words f.values h.under below takes h.typed h.values_are in
    branch_typed s results gives f fs h e depth types f.values p.front (p.back ++ h.under) st k there p.ahead p.values_are

-- `br_table`
table_goes : (labels : List (List ValType)) (taken : Operands) (others : List ℕ) (last n : ℕ) → AllByRecursion (GoesTo labels taken) others → GoesTo labels taken last → GoesTo labels taken (table_label (slice_get others n) last)
table_goes labels taken others last n all one = by (slice_get others n) refl
  where
    by : (o : Option ℕ) → slice_get others n ≡ o → GoesTo labels taken (table_label (slice_get others n) last)
    by None e = subst (λ (o : Option ℕ). GoesTo labels taken (table_label o last)) (sym e) one
    by (Some d) e = subst (λ (o : Option ℕ). GoesTo labels taken (table_label o last)) (sym e) (all_at (GoesTo labels taken) others n d all e)

by_table : (s : Store) (results gives : List ValType) (f : Frame) (fs : List Frame) (h : FrameTyped s [] gives f) (e : Expr) (others : List ℕ) (last : ℕ) (own : List ValType) (words : List ℕ) (index : Option ValType) (taken below : Operands) → StoreTyped s → FramesTyped s results gives fs → known own ≡ index ∷ (taken ++ below) → AreWords own words → AllByRecursion (GoesTo h.types taken) others → GoesTo h.types taken last → MoveTyped s results (branched_by others last (words ++ h.under) s (record f { rest = e }) fs)
by_table s results gives f fs h e others last [] words index taken below st k are w all one = cc
by_table s results gives f fs h e others last (t ∷ own) [] index taken below st k are w all one = absurd w
by_table s results gives f fs h e others last (t ∷ own) (n ∷ words) index taken below st k are w all one =
    let lower : known own ≡ taken ++ below = cc in
    let depth = table_label (slice_get others n) last in
    let goes = table_goes h.types taken others last n all one in
    let p = over_taken (reverse goes.0) own words (words ++ h.under) h.under below (taken_known (reverse goes.0) own taken below lower goes.2) w.1 refl in
    branch_typed s results gives f fs h e depth goes.0 (words ++ h.under) p.front (p.back ++ h.under) st k goes.1 p.ahead p.values_are

-- `select` without types, and `drop`
select_made : (s : Store) (results gives : List ValType) (f : Frame) (fs : List Frame) (h : FrameTyped s [] gives f) (e : Expr) (own : List ValType) (words : List ℕ) (test first second type : Option ValType) (below : Operands) → StoreTyped s → FramesTyped s results gives fs → known own ≡ test ∷ first ∷ second ∷ below → AreWords own words → Matches test (Some I32) → Matches first type → Matches second type → TypedFrom h.context h.types h.ends e (type ∷ below) → MoveTyped s results (by_effect (selected s f.locals (words ++ h.under)) (record f { rest = e }) fs)
select_made s results gives f fs h e [] words test first second type below st k are w m m₁ m₂ typed = cc
select_made s results gives f fs h e (t ∷ []) words test first second type below st k are w m m₁ m₂ typed = cc
select_made s results gives f fs h e (t ∷ u ∷ []) words test first second type below st k are w m m₁ m₂ typed = cc
select_made s results gives f fs h e (t ∷ u ∷ v ∷ own) [] test first second type below st k are w m m₁ m₂ typed = absurd w
select_made s results gives f fs h e (t ∷ u ∷ v ∷ own) (n ∷ []) test first second type below st k are w m m₁ m₂ typed = absurd w.1
select_made s results gives f fs h e (t ∷ u ∷ v ∷ own) (n ∷ b ∷ []) test first second type below st k are w m m₁ m₂ typed = absurd w.1.1
select_made s results gives f fs h e (t ∷ u ∷ v ∷ own) (n ∷ b ∷ a ∷ words) test first second type below st k are w m m₁ m₂ typed =
    let test_is : test ≡ Some t = cc in
    let first_is : first ≡ Some u = cc in
    let second_is : second ≡ Some v = cc in
    let below_is : below ≡ known own = cc in
    let some_t : (let o : Option ValType = Some t in o) ≡ Some I32 = subst (λ (o : Option ValType). Matches o (Some I32)) test_is m in
    let some_u : (let o : Option ValType = Some u in o) ≡ type = subst (λ (o : Option ValType). Matches o type) first_is m₁ in
    let some_v : (let o : Option ValType = Some v in o) ≡ type = subst (λ (o : Option ValType). Matches o type) second_is m₂ in
    let tested : t ≡ I32 = cc in
    let same : v ≡ u = cc in
    let front : AreWords (I32 ∷ u ∷ u ∷ []) (n ∷ b ∷ a ∷ []) =
    (subst (λ (t : ValType). IsWord t n) tested w.0, (w.1.0, (subst (λ (t : ValType). IsWord t a) same w.1.1.0, tt))) in
    let left : TypedFrom h.context h.types h.ends e (operands_of (u ∷ []) ++ known own) =
    subst (TypedFrom h.context h.types h.ends e) (ap₂ (λ (o : Option ValType) (os : Operands). o ∷ os) (sym some_u) below_is) typed in
    effect_moves s results gives f fs h e (u ∷ []) own words (selected s f.locals (n ∷ b ∷ a ∷ (words ++ h.under))) k w.1.1.1 left
    (selected_typed s h.context.locals u f.locals (n ∷ b ∷ a ∷ []) (words ++ h.under) st h.locals_are front)

drop_made : (s : Store) (results gives : List ValType) (f : Frame) (fs : List Frame) (h : FrameTyped s [] gives f) (e : Expr) (own : List ValType) (words : List ℕ) (o : Option ValType) (qs : Operands) → StoreTyped s → FramesTyped s results gives fs → known own ≡ o ∷ qs → AreWords own words → TypedFrom h.context h.types h.ends e qs → MoveTyped s results (by_effect (dropped s f.locals (words ++ h.under)) (record f { rest = e }) fs)
drop_made s results gives f fs h e [] words o qs st k are w typed = cc
drop_made s results gives f fs h e (t ∷ own) [] o qs st k are w typed = absurd w
drop_made s results gives f fs h e (t ∷ own) (n ∷ words) o qs st k are w typed =
    let lower : qs ≡ known own = cc in
    effect_moves s results gives f fs h e [] own words (Leaves s f.locals (words ++ h.under)) k w.1 (subst (TypedFrom h.context h.types h.ends e) lower typed)
    (store_same s, st, h.locals_are, ([], refl, tt))

-- Calls.

call_typed : (s : Store) (results gives : List ValType) (f : Frame) (fs : List Frame) (h : FrameTyped s [] gives f) (e : Expr) (index : ℕ) (type : FuncType) (qs : Operands) → StoreTyped s → FramesTyped s results gives fs → func_type h.context index ≡ Some type → Turns type (known h.own) qs → TypedFrom h.context h.types h.ends e qs → MoveTyped s results (called (func_at index h.owner s) f.values s (record f { rest = e }) fs)
call_typed s results gives f fs h e index type qs st k some turns typed =
    let p = h.has.funcs index type some in
    let there = (found_there s.funcs (slice_get h.owner.funcs index) p.0 p.1).1 in
    let own : Turns (type_of p.0.1) (known h.own) qs = subst (λ (t : FuncType). Turns t (known h.own) qs) (sym p.2) turns in
    let o = over_takes (reverse (type_of p.0.1).params) h.own h.words f.values h.under own.0 own.1 h.typed h.values_are in
    let left : TypedFrom h.context h.types h.ends e (operands_of (type_of p.0.1).results ++ known o.others) =
    subst (TypedFrom h.context h.types h.ends e) (own.2 ∙ ap (λ (os : Operands). operands_of (type_of p.0.1).results ++ os) o.below_is) typed in
    subst (λ (q : Option (ℕ × Function)). MoveTyped s results (called q f.values s (record f { rest = e }) fs)) (sym p.1)
    (invoked_typed s results gives f fs h e p.0.0 p.0.1 f.values o.front o.back o.others st k there o.values_are o.ahead o.behind left)

type_same : (t u : ValType) → same_type t u ≡ true → t ≡ u
type_same I32 I32 h = refl
type_same I32 I64 h = cc
type_same I64 I32 h = cc
type_same I64 I64 h = refl

types_same : (ts us : List ValType) → same_types ts us ≡ true → ts ≡ us
types_same [] [] h = refl
types_same [] (u ∷ us) h = cc
types_same (t ∷ ts) [] h = cc
types_same (t ∷ ts) (u ∷ us) h =
    let both = both_true (same_type t u) (same_types ts us) h in
    ap₂ (λ (t : ValType) (ts : List ValType). t ∷ ts) (type_same t u both.0) (types_same ts us both.1)

pub signature_same : (t u : FuncType) → same_signature t u ≡ true → t ≡ u
signature_same t u h =
    let both = both_true (same_types t.params u.params) (same_types t.results u.results) h in
    ap₂ (λ (ps : List ValType) (rs : List ValType). (let type : FuncType = record { params = ps; results = rs } in type)) (types_same t.params u.params both.0) (types_same t.results u.results both.1)

entry_typed : (s : Store) (results gives : List ValType) (f : Frame) (fs : List Frame) (h : FrameTyped s [] gives f) (e : Expr) (type : FuncType) (entries : List (Option ℕ)) (n : ℕ) (vs front back : List ℕ) (others : List ValType) → StoreTyped s → FramesTyped s results gives fs → AllByRecursion (EntryTyped s) entries → vs ≡ front ++ (back ++ h.under) → AreWords (reverse type.params) front → AreWords others back → TypedFrom h.context h.types h.ends e (operands_of type.results ++ known others) → MoveTyped s results (called_entry type (slice_get entries n) vs s (record f { rest = e }) fs)
entry_typed s results gives f fs h e type entries n vs front back others st k all v w b typed = by (slice_get entries n) refl
  where
    signed : (test : Bool) (a : ℕ) (function : Function) → same_signature type (type_of function) ≡ test → slice_get s.funcs a ≡ Some function → MoveTyped s results (called_as type (Some (a, function)) vs s (record f { rest = e }) fs)
    signed true a function t there =
        let same : type ≡ type_of function = signature_same type (type_of function) t in
        subst (λ (b : Bool). MoveTyped s results (if b then invoked a function vs s (record f { rest = e }) fs else Traps OtherSignature)) (sym t)
        (invoked_typed s results gives f fs h e a function vs front back others st k there v (subst (λ (t : FuncType). AreWords (reverse t.params) front) same w) b
        (subst (λ (t : FuncType). TypedFrom h.context h.types h.ends e (operands_of t.results ++ known others)) same typed))
    signed false a function t there =
        subst (λ (b : Bool). MoveTyped s results (if b then invoked a function vs s (record f { rest = e }) fs else Traps OtherSignature)) (sym t) tt

    by : (o : Option (Option ℕ)) → slice_get entries n ≡ o → MoveTyped s results (called_entry type (slice_get entries n) vs s (record f { rest = e }) fs)
    by None q = subst (λ (o : Option (Option ℕ)). MoveTyped s results (called_entry type o vs s (record f { rest = e }) fs)) (sym q) tt
    by (Some None) q = subst (λ (o : Option (Option ℕ)). MoveTyped s results (called_entry type o vs s (record f { rest = e }) fs)) (sym q) tt
    by (Some (Some a)) q =
        let there = all_at (EntryTyped s) entries n (Some a) all q in
        subst (λ (o : Option (Option ℕ)). MoveTyped s results (called_entry type o vs s (record f { rest = e }) fs)) (sym q)
        (subst (λ (o : Option Function). MoveTyped s results (called_as type (option_map (λ (x : Function). (let q : ℕ × Function = (a, x) in q)) o) vs s (record f { rest = e }) fs)) (sym there.1)
        (signed (same_signature type (type_of there.0)) a there.0 refl there.1))

through_typed : (s : Store) (results gives : List ValType) (f : Frame) (fs : List Frame) (h : FrameTyped s [] gives f) (e : Expr) (index table : ℕ) (type : FuncType) (qs : Operands) → StoreTyped s → FramesTyped s results gives fs → slice_get h.context.types index ≡ Some type → table < h.context.tables → Turns (arrow (type.params ++ I32 ∷ []) type.results) (known h.own) qs → TypedFrom h.context h.types h.ends e qs → MoveTyped s results (called_through (slice_get h.owner.types index) (table_at table h.owner s) f.values s (record f { rest = e }) fs)
through_typed s results gives f fs h e index table type qs st k some within (below, takes, after) typed =
    let p = over_takes (reverse (type.params ++ I32 ∷ [])) h.own h.words f.values h.under below takes h.typed h.values_are in
    let l = is_last (reverse type.params) p.front (subst (λ (ts : List ValType). AreWords ts p.front) (last_first type.params) p.ahead) in
    let values : f.values ≡ l.last ∷ (l.others ++ (p.back ++ h.under)) = p.values_are ∙ ap (λ (ws : List ℕ). ws ++ (p.back ++ h.under)) l.are in
    let left : TypedFrom h.context h.types h.ends e (operands_of type.results ++ known p.others) =
    subst (TypedFrom h.context h.types h.ends e) (after ∙ ap (λ (os : Operands). operands_of type.results ++ os) p.below_is) typed in
    let own : slice_get h.owner.types index ≡ Some type = ap (λ (ts : List FuncType). slice_get ts index) h.has.types ∙ some in
    let t = h.has.tables table within in
    let there = (found_there s.tables (slice_get h.owner.tables table) t.0 t.1).1 in
    let all = all_at (TableTyped s) s.tables t.0.0 t.0.1 st.tables there in
    subst (λ (o : Option FuncType). MoveTyped s results (called_through o (table_at table h.owner s) f.values s (record f { rest = e }) fs)) (sym own)
    (subst (λ (o : Option (ℕ × Table)). MoveTyped s results (called_through (Some type) o f.values s (record f { rest = e }) fs)) (sym t.1)
    (subst (λ (vs : List ℕ). MoveTyped s results (called_through (Some type) (Some t.0) vs s (record f { rest = e }) fs)) (sym values)
    (entry_typed s results gives f fs h e type t.0.1.entries l.last (l.others ++ (p.back ++ h.under)) l.others p.back p.others st k all refl l.ahead p.behind left)))

-- An instruction that holds no others.

no_operands : (P : List ℕ → Type 0) → P [] → (front : List ℕ) → AreWords [] front → P front
no_operands P p [] w = p
no_operands P p (n ∷ front) w = absurd w

some_type : (t u : FuncType) → (let o : Option FuncType = Some t in o) ≡ Some u → t ≡ u
some_type t u h = cc

const_moves : (s : Store) (results gives : List ValType) (f : Frame) (fs : List Frame) (h : FrameTyped s [] gives f) (e : Expr) (own : ValType) (type : FuncType) (word : ℕ) (qs : Operands) → StoreTyped s → FramesTyped s results gives fs → arrow [] (own ∷ []) ≡ type → IsWord own word → Turns type (known h.own) qs → TypedFrom h.context h.types h.ends e qs → MoveTyped s results (by_effect (Leaves s f.locals (word ∷ f.values)) (record f { rest = e }) fs)
const_moves s results gives f fs h e own type word qs st k same w turns typed =
    typed_moves s results gives f fs h e (arrow [] (own ∷ [])) type qs (λ vs. Leaves s f.locals (word ∷ vs)) k same turns typed
    (λ front under v. no_operands (λ front. EffectTyped s h.context.locals (own ∷ []) under (Leaves s f.locals (word ∷ (front ++ under)))) (one_left s h.context.locals own under f.locals word st h.locals_are w) front v)

get_moves : (s : Store) (results gives : List ValType) (f : Frame) (fs : List Frame) (h : FrameTyped s [] gives f) (e : Expr) (index : ℕ) (own : ValType) (type : FuncType) (qs : Operands) → StoreTyped s → FramesTyped s results gives fs → slice_get h.context.locals index ≡ Some own → arrow [] (own ∷ []) ≡ type → Turns type (known h.own) qs → TypedFrom h.context h.types h.ends e qs → MoveTyped s results (by_effect (local_get (slice_get f.locals index) s f.locals f.values) (record f { rest = e }) fs)
get_moves s results gives f fs h e index own type qs st k there same turns typed =
    typed_moves s results gives f fs h e (arrow [] (own ∷ [])) type qs (local_get (slice_get f.locals index) s f.locals) k same turns typed
    (λ front under v. no_operands (λ front. EffectTyped s h.context.locals (own ∷ []) under (local_get (slice_get f.locals index) s f.locals (front ++ under))) (local_get_typed s h.context.locals own index f.locals under st h.locals_are there) front v)

global_get_moves : (s : Store) (results gives : List ValType) (f : Frame) (fs : List Frame) (h : FrameTyped s [] gives f) (e : Expr) (index : ℕ) (own : GlobalType) (type : FuncType) (qs : Operands) → StoreTyped s → FramesTyped s results gives fs → slice_get h.context.globals index ≡ Some own → arrow [] (own.val_type ∷ []) ≡ type → Turns type (known h.own) qs → TypedFrom h.context h.types h.ends e qs → MoveTyped s results (by_effect (global_get (global_at index h.owner s) s f.locals f.values) (record f { rest = e }) fs)
global_get_moves s results gives f fs h e index own type qs st k there same turns typed =
    let g = global_there s h.owner h.context index own h.has there in
    let word : IsWord own.val_type g.0.1.value = subst (λ (t : GlobalType). IsWord t.val_type g.0.1.value) g.3 (all_at GlobalTyped s.globals g.0.0 g.0.1 st.globals g.2) in
    subst (λ (o : Option (ℕ × Global)). MoveTyped s results (by_effect (global_get o s f.locals f.values) (record f { rest = e }) fs)) (sym g.1)
    (const_moves s results gives f fs h e own.val_type type g.0.1.value qs st k same word turns typed)

global_set_moves : (s : Store) (results gives : List ValType) (f : Frame) (fs : List Frame) (h : FrameTyped s [] gives f) (e : Expr) (index : ℕ) (own : GlobalType) (type : FuncType) (qs : Operands) → StoreTyped s → FramesTyped s results gives fs → slice_get h.context.globals index ≡ Some own → is_constant_global (slice_get h.context.globals index) ≡ false → arrow (own.val_type ∷ []) [] ≡ type → Turns type (known h.own) qs → TypedFrom h.context h.types h.ends e qs → MoveTyped s results (by_effect (global_set (global_at index h.owner s) s f.locals f.values) (record f { rest = e }) fs)
global_set_moves s results gives f fs h e index own type qs st k there free same turns typed =
    let g = global_there s h.owner h.context index own h.has there in
    let set : own.mutability ≡ Variable = may_be_set own.mutability (sym (ap is_constant_global there) ∙ free) in
    let mutability : g.0.1.type.mutability ≡ Variable = ap (λ (t : GlobalType). t.mutability) g.3 ∙ set in
    subst (λ (o : Option (ℕ × Global)). MoveTyped s results (by_effect (global_set o s f.locals f.values) (record f { rest = e }) fs)) (sym g.1)
    (typed_moves s results gives f fs h e (arrow (own.val_type ∷ []) []) type qs (global_set (Some g.0) s f.locals) k same turns typed
    (λ front under w. global_set_typed s h.context.locals g.0 f.locals front under st h.locals_are g.2 mutability
    (subst (λ (t : GlobalType). AreWords (t.val_type ∷ []) front) (sym g.3) w)))

select_moves : (s : Store) (results gives : List ValType) (f : Frame) (fs : List Frame) (h : FrameTyped s [] gives f) (e : Expr) (types : List ValType) (type : FuncType) (qs : Operands) → StoreTyped s → FramesTyped s results gives fs → select_type types ≡ Some type → Turns type (known h.own) qs → TypedFrom h.context h.types h.ends e qs → MoveTyped s results (by_effect (selected s f.locals f.values) (record f { rest = e }) fs)
select_moves s results gives f fs h e [] type qs st k some turns typed = cc
select_moves s results gives f fs h e (t ∷ []) type qs st k some turns typed =
    typed_moves s results gives f fs h e (arrow (t ∷ t ∷ I32 ∷ []) (t ∷ [])) type qs (selected s f.locals) k (some_type (arrow (t ∷ t ∷ I32 ∷ []) (t ∷ [])) type some) turns typed
    (λ front under w. selected_typed s h.context.locals t f.locals front under st h.locals_are w)
select_moves s results gives f fs h e (t ∷ u ∷ types) type qs st k some turns typed = cc

instr_moves : (s : Store) (results gives : List ValType) (f : Frame) (fs : List Frame) (h : FrameTyped s [] gives f) (e : Expr) (p : Instr) (qs : Operands) → StoreTyped s → FramesTyped s results gives fs → Applies h.context h.types p (known h.own) qs → TypedFrom h.context h.types h.ends e qs → MoveTyped s results (moved p h.owner s (record f { rest = e }) fs)
instr_moves s results gives f fs h e instr.Unreachable qs st k a typed = tt
instr_moves s results gives f fs h e (instr.Br depth) qs st k a typed = br_typed s results gives f fs h e depth a.0 a.2.0 st k a.1 a.2.1
instr_moves s results gives f fs h e (instr.BrTable others last) qs st k a typed =
    subst (λ (vs : List ℕ). MoveTyped s results (branched_by others last vs s (record f { rest = e }) fs)) (sym h.values_are)
    (by_table s results gives f fs h e others last h.own h.words a.0 a.1 a.2 st k a.3 h.typed a.5 a.6)
instr_moves s results gives f fs h e instr.Return qs st k a typed = return_typed s results gives f fs h e a.0 st k a.1
instr_moves s results gives f fs h e instr.Drop qs st k a typed =
    subst (λ (vs : List ℕ). MoveTyped s results (by_effect (dropped s f.locals vs) (record f { rest = e }) fs)) (sym h.values_are)
    (drop_made s results gives f fs h e h.own h.words a.0 qs st k a.1 h.typed typed)
instr_moves s results gives f fs h e instr.Select qs st k a typed =
    subst (λ (vs : List ℕ). MoveTyped s results (by_effect (selected s f.locals vs) (record f { rest = e }) fs)) (sym h.values_are)
    (select_made s results gives f fs h e h.own h.words a.0 a.1 a.2 a.3 a.4 st k a.5 h.typed a.6 a.7 a.8 (subst (TypedFrom h.context h.types h.ends e) a.9 typed))
instr_moves s results gives f fs h e instr.Nop qs st k a typed =
    typed_moves s results gives f fs h e (arrow [] []) a.0 qs (λ vs. Leaves s f.locals vs) k (some_type (arrow [] []) a.0 a.1) a.2 typed
    (λ front under w. (store_same s, st, h.locals_are, (front, refl, w)))
instr_moves s results gives f fs h e (instr.BrIf depth) qs st k a typed =
    let m = map_some (λ (types : List ValType). arrow (types ++ I32 ∷ []) types) (slice_get h.types depth) a.0 a.1 in
    br_if_typed s results gives f fs h e depth m.0 qs st k m.1 (subst (λ (t : FuncType). Turns t (known h.own) qs) (sym m.2) a.2) typed
instr_moves s results gives f fs h e (instr.Call index) qs st k a typed = call_typed s results gives f fs h e index a.0 qs st k a.1 a.2 typed
instr_moves s results gives f fs h e (instr.CallIndirect index table) qs st k a typed =
    let m = then_some (λ (type : FuncType). where_there (nat_lt table h.context.tables) (arrow (type.params ++ I32 ∷ []) type.results)) (slice_get h.context.types index) a.0 a.1 in
    let w = there_some (nat_lt table h.context.tables) (arrow (m.0.params ++ I32 ∷ []) m.0.results) a.0 m.2 in
    through_typed s results gives f fs h e index table m.0 qs st k m.1 (less table h.context.tables w.0) (subst (λ (t : FuncType). Turns t (known h.own) qs) (sym w.1) a.2) typed
instr_moves s results gives f fs h e (instr.SelectTyped types) qs st k a typed = select_moves s results gives f fs h e types a.0 qs st k a.1 a.2 typed
instr_moves s results gives f fs h e (instr.LocalGet index) qs st k a typed =
    let m = map_some (λ (type : ValType). arrow [] (type ∷ [])) (slice_get h.context.locals index) a.0 a.1 in
    get_moves s results gives f fs h e index m.0 a.0 qs st k m.1 m.2 a.2 typed
instr_moves s results gives f fs h e (instr.LocalSet index) qs st k a typed =
    let m = map_some (λ (type : ValType). arrow (type ∷ []) []) (slice_get h.context.locals index) a.0 a.1 in
    typed_moves s results gives f fs h e (arrow (m.0 ∷ []) []) a.0 qs (local_set index s f.locals) k m.2 a.2 typed
    (λ front under w. local_set_typed s h.context.locals m.0 index f.locals front under st h.locals_are m.1 w)
instr_moves s results gives f fs h e (instr.LocalTee index) qs st k a typed =
    let m = map_some (λ (type : ValType). arrow (type ∷ []) (type ∷ [])) (slice_get h.context.locals index) a.0 a.1 in
    typed_moves s results gives f fs h e (arrow (m.0 ∷ []) (m.0 ∷ [])) a.0 qs (local_tee index s f.locals) k m.2 a.2 typed
    (λ front under w. local_tee_typed s h.context.locals m.0 index f.locals front under st h.locals_are m.1 w)
instr_moves s results gives f fs h e (instr.GlobalGet index) qs st k a typed =
    let m = map_some (λ (global : GlobalType). arrow [] (global.val_type ∷ [])) (slice_get h.context.globals index) a.0 a.1 in
    global_get_moves s results gives f fs h e index m.0 a.0 qs st k m.1 m.2 a.2 typed
instr_moves s results gives f fs h e (instr.GlobalSet index) qs st k a typed =
    let m = map_some (λ (global : GlobalType). arrow (global.val_type ∷ []) []) (slice_get h.context.globals index) a.0 (unless_some (is_forbidden h.context (instr.GlobalSet index)) _ a.0 a.1) in
    global_set_moves s results gives f fs h e index m.0 a.0 qs st k m.1 (unless_not (is_forbidden h.context (instr.GlobalSet index)) _ a.0 a.1) m.2 a.2 typed
instr_moves s results gives f fs h e (instr.Load op arg) qs st k a typed =
    memory_moves s results gives f fs h e (arrow (I32 ∷ []) (load_gives op ∷ [])) a.0 qs (λ m vs. load op arg.offset m s f.locals vs) k
    (unless_some (is_forbidden h.context (instr.Load op arg)) _ a.0 a.1) a.2 typed
    (λ m front under there w. load_typed s h.context.locals op arg.offset m f.locals front under st h.locals_are there w)
instr_moves s results gives f fs h e (instr.Store op arg) qs st k a typed =
    memory_moves s results gives f fs h e (arrow (I32 ∷ store_takes op ∷ []) []) a.0 qs (λ m vs. store op arg.offset m s f.locals vs) k
    (unless_some (is_forbidden h.context (instr.Store op arg)) _ a.0 a.1) a.2 typed
    (λ m front under there w. store_typed s h.context.locals op arg.offset m f.locals front under st h.locals_are there w)
instr_moves s results gives f fs h e instr.MemorySize qs st k a typed =
    memory_moves s results gives f fs h e (arrow [] (I32 ∷ [])) a.0 qs (λ m vs. memory_size m s f.locals vs) k a.1 a.2 typed
    (λ m front under there w. no_operands (λ front. EffectTyped s h.context.locals (I32 ∷ []) under (memory_size (Some m) s f.locals (front ++ under))) (size_typed s h.context.locals m f.locals under st h.locals_are there) front w)
instr_moves s results gives f fs h e instr.MemoryGrow qs st k a typed =
    memory_moves s results gives f fs h e (arrow (I32 ∷ []) (I32 ∷ [])) a.0 qs (λ m vs. memory_grow m s f.locals vs) k a.1 a.2 typed
    (λ m front under there w. grow_typed s h.context.locals m f.locals front under st h.locals_are there w)
instr_moves s results gives f fs h e instr.MemoryCopy qs st k a typed =
    memory_moves s results gives f fs h e (arrow (I32 ∷ I32 ∷ I32 ∷ []) []) a.0 qs (λ m vs. memory_copy m s f.locals vs) k a.1 a.2 typed
    (λ m front under there w. copy_typed s h.context.locals m f.locals front under st h.locals_are there w)
instr_moves s results gives f fs h e instr.MemoryFill qs st k a typed =
    memory_moves s results gives f fs h e (arrow (I32 ∷ I32 ∷ I32 ∷ []) []) a.0 qs (λ m vs. memory_fill m s f.locals vs) k a.1 a.2 typed
    (λ m front under there w. fill_typed s h.context.locals m f.locals front under st h.locals_are there w)
instr_moves s results gives f fs h e (instr.I32Const value) qs st k a typed =
    const_moves s results gives f fs h e I32 a.0 (word_of w32 value) qs st k (some_type (arrow [] (I32 ∷ [])) a.0 a.1) (rest_below w32 _) a.2 typed
instr_moves s results gives f fs h e (instr.I64Const value) qs st k a typed =
    const_moves s results gives f fs h e I64 a.0 (word_of w64 value) qs st k (some_type (arrow [] (I64 ∷ [])) a.0 a.1) (rest_below w64 _) a.2 typed
instr_moves s results gives f fs h e (instr.Numeric op) qs st k a typed =
    typed_moves s results gives f fs h e (numeric_type op) a.0 qs (λ vs. by_number (applied op vs) s f.locals) k (some_type (numeric_type op) a.0 a.1) a.2 typed
    (λ front under w. numeric_typed op s h.context.locals f.locals front under st h.locals_are w)

-- Blocks.

-- a block or an `if` begins, over values of its parameters
block_typed : (s : Store) (results gives : List ValType) (f : Frame) (fs : List Frame) (h : FrameTyped s [] gives f) (t : BlockType) (inside after : Expr) (vs front back : List ℕ) (others : List ValType) → StoreTyped s → FramesTyped s results gives fs → vs ≡ front ++ (back ++ h.under) → AreWords (reverse (block_params h.context.types t)) front → AreWords others back → TypedFrom h.context (block_results h.context.types t ∷ h.types) (block_results h.context.types t) inside (operands_of (block_params h.context.types t)) → TypedFrom h.context h.types h.ends after (operands_of (block_results h.context.types t) ++ known others) → MoveTyped s results (entered (block_label h.owner.types t after vs) inside vs s f fs)
block_typed s results gives f fs h t inside after vs front back others st k v w b typed left =
    let ps : List ValType = block_params h.context.types t in
    let rs : List ValType = block_results h.context.types t in
    let arity : length (block_results h.owner.types t) ≡ length rs = ap (λ (ts : List FuncType). length (block_results ts t)) h.has.types in
    let count : length (block_params h.owner.types t) ≡ length front =
    ap (λ (ts : List FuncType). length (block_params ts t)) h.has.types ∙ sym (length-reverse ps) ∙ sym (as_long (reverse ps) front w) in
    let under : drop (length (block_params h.owner.types t)) vs ≡ back ++ h.under =
    ap (drop (length (block_params h.owner.types t))) v ∙ under_words (length (block_params h.owner.types t)) front (back ++ h.under) count in
    entered_typed s results gives f fs h (block_label h.owner.types t after vs) inside vs front back ps rs rs others st k v w b arity under refl typed left

loop_typed : (s : Store) (results gives : List ValType) (f : Frame) (fs : List Frame) (h : FrameTyped s [] gives f) (t : BlockType) (inside after : Expr) (vs front back : List ℕ) (others : List ValType) → StoreTyped s → FramesTyped s results gives fs → vs ≡ front ++ (back ++ h.under) → AreWords (reverse (block_params h.context.types t)) front → AreWords others back → TypedFrom h.context (block_params h.context.types t ∷ h.types) (block_results h.context.types t) inside (operands_of (block_params h.context.types t)) → TypedFrom h.context h.types h.ends after (operands_of (block_results h.context.types t) ++ known others) → MoveTyped s results (entered (loop_label h.owner.types t inside after vs) inside vs s f fs)
loop_typed s results gives f fs h t inside after vs front back others st k v w b typed left =
    let ps : List ValType = block_params h.context.types t in
    let rs : List ValType = block_results h.context.types t in
    let arity : length (block_params h.owner.types t) ≡ length ps = ap (λ (ts : List FuncType). length (block_params ts t)) h.has.types in
    let count : length (block_params h.owner.types t) ≡ length front = arity ∙ sym (length-reverse ps) ∙ sym (as_long (reverse ps) front w) in
    let under : drop (length (block_params h.owner.types t)) vs ≡ back ++ h.under =
    ap (drop (length (block_params h.owner.types t))) v ∙ under_words (length (block_params h.owner.types t)) front (back ++ h.under) count in
    entered_typed s results gives f fs h (loop_label h.owner.types t inside after vs) inside vs front back ps ps rs others st k v w b arity under typed typed left

-- an `if`, over its operand
chosen_typed : (s : Store) (results gives : List ValType) (f : Frame) (fs : List Frame) (h : FrameTyped s [] gives f) (t : BlockType) (first second after : Expr) (n : ℕ) (front back : List ℕ) (others : List ValType) → StoreTyped s → FramesTyped s results gives fs → AreWords (reverse (block_params h.context.types t)) front → AreWords others back → TypedFrom h.context (block_results h.context.types t ∷ h.types) (block_results h.context.types t) first (operands_of (block_params h.context.types t)) → TypedFrom h.context (block_results h.context.types t ∷ h.types) (block_results h.context.types t) second (operands_of (block_params h.context.types t)) → TypedFrom h.context h.types h.ends after (operands_of (block_results h.context.types t) ++ known others) → MoveTyped s results (chosen t first second after (n ∷ (front ++ (back ++ h.under))) h.owner s f fs)
chosen_typed s results gives f fs h t first second after zero front back others st k w b one two left =
    block_typed s results gives f fs h t second after (front ++ (back ++ h.under)) front back others st k refl w b two left
chosen_typed s results gives f fs h t first second after (suc n) front back others st k w b one two left =
    block_typed s results gives f fs h t first after (front ++ (back ++ h.under)) front back others st k refl w b one left

if_moves : (s : Store) (results gives : List ValType) (f : Frame) (fs : List Frame) (h : FrameTyped s [] gives f) (t : BlockType) (first second after : Expr) (below : Operands) → StoreTyped s → FramesTyped s results gives fs → Takes (I32 ∷ reverse (block_params h.context.types t)) (known h.own) below → TypedFrom h.context (block_results h.context.types t ∷ h.types) (block_results h.context.types t) first (operands_of (block_params h.context.types t)) → TypedFrom h.context (block_results h.context.types t ∷ h.types) (block_results h.context.types t) second (operands_of (block_params h.context.types t)) → TypedFrom h.context h.types h.ends after (operands_of (block_results h.context.types t) ++ below) → MoveTyped s results (chosen t first second after f.values h.owner s f fs)
if_moves s results gives f fs h t first second after below st k takes one two left =
    let ps : List ValType = block_params h.context.types t in
    let p = over_takes (I32 ∷ reverse ps) h.own h.words f.values h.under below takes h.typed h.values_are in
    let l = is_last (reverse ps) p.front p.ahead in
    let values : f.values ≡ l.last ∷ (l.others ++ (p.back ++ h.under)) = p.values_are ∙ ap (λ (ws : List ℕ). ws ++ (p.back ++ h.under)) l.are in
    let more = subst (λ (os : Operands). TypedFrom h.context h.types h.ends after (operands_of (block_results h.context.types t) ++ os)) p.below_is left in
    subst (λ (vs : List ℕ). MoveTyped s results (chosen t first second after vs h.owner s f fs)) (sym values)
    (chosen_typed s results gives f fs h t first second after l.last l.others p.back p.others st k l.ahead p.behind one two more)

-- By what is left of the frame.
rest_moves : (s : Store) (results gives : List ValType) (f : Frame) (fs : List Frame) (h : FrameTyped s [] gives f) (e : Expr) → StoreTyped s → FramesTyped s results gives fs → TypedFrom h.context h.types h.ends e (known h.own) → MoveTyped s results (move_at e h.owner s f fs)
rest_moves s results gives f fs h End st k typed = end_typed s results gives f fs h st k typed
rest_moves s results gives f fs h (Plain p e) st k typed = instr_moves s results gives f fs h e p typed.0 st k typed.1 typed.2
rest_moves s results gives f fs h (Block t b e) st k (there, (below, takes, inside, left)) =
    let p = over_takes (reverse (block_params h.context.types t)) h.own h.words f.values h.under below takes h.typed h.values_are in
    let more = subst (λ (os : Operands). TypedFrom h.context h.types h.ends e (operands_of (block_results h.context.types t) ++ os)) p.below_is left in
    block_typed s results gives f fs h t b e f.values p.front p.back p.others st k p.values_are p.ahead p.behind inside more
rest_moves s results gives f fs h (Loop t b e) st k (there, (below, takes, inside, left)) =
    let p = over_takes (reverse (block_params h.context.types t)) h.own h.words f.values h.under below takes h.typed h.values_are in
    let more = subst (λ (os : Operands). TypedFrom h.context h.types h.ends e (operands_of (block_results h.context.types t) ++ os)) p.below_is left in
    loop_typed s results gives f fs h t b e f.values p.front p.back p.others st k p.values_are p.ahead p.behind inside more
rest_moves s results gives f fs h (If t a e) st k (there, (below, takes, inside, left, same)) =
    let none : AllMatch (operands_of (block_params h.context.types t)) (reverse (block_results h.context.types t)) =
    subst (λ (ts : List ValType). AllMatch (operands_of (block_params h.context.types t)) (reverse ts)) same (known_match (reverse (block_params h.context.types t))) in
    if_moves s results gives f fs h t a End e below st k takes inside none left
rest_moves s results gives f fs h (IfElse t a b e) st k (there, (below, takes, inside, left, other)) =
    if_moves s results gives f fs h t a b e below st k takes inside other left

pub moves_typed : MovesTyped
moves_typed s results (Running f fs) st (gives, h, k) =
    subst (λ (o : Option Instance). MoveTyped s results (move_in o s f fs)) (sym h.there) (rest_moves s results gives f fs h f.rest st k h.left)
moves_typed s results (AtHost a words) st (type, there, w, same) = (type, there, w, λ answers v. subst (λ (ts : List ValType). AreWords ts answers) same v)
moves_typed s results (Given words) st h = h

never_stuck_in : (count fuel : ℕ) (s t : Store) (results : List ValType) (k l : Stack) → StoreTyped s → StackTyped s results k → Moves count fuel s k t l → Extends s t × StoreTyped t × StackTyped t results l × (next t l ≢ Stuck)
never_stuck_in zero fuel s t results k l st h m =
    let moving : next s k ≢ Stuck = λ q. (let none : MoveTyped s results Stuck = subst (MoveTyped s results) q (moves_typed s results k st h) in none) in
    subst (λ (u : Store). Extends s u × StoreTyped u × StackTyped u results l × (next u l ≢ Stuck)) (sym m.1)
    (subst (λ (l : Stack). Extends s s × StoreTyped s × StackTyped s results l × (next s l ≢ Stuck)) (sym m.2) (store_same s, st, h, moving))
never_stuck_in (suc count) fuel s t results k l st h (costs, left, u, m, goes, fuel_is, more) =
    let one : MoveTyped s results (Goes costs u m) = subst (MoveTyped s results) goes (moves_typed s results k st h) in
    let others = never_stuck_in count left u t results m l one.1 one.2 more in
    (further s u t one.0 others.0, others.1, others.2, others.3)

pub never_stuck : NeverStuck
never_stuck fuel s t results k l st h m = never_stuck_in m.0 fuel s t results k l st h m.1

pub starts_typed : StartsTyped
starts_typed s a (Own type instance locals body) args st there w =
    let own : OwnTyped s type (local_types type locals) instance body = all_at (FunctionTyped s) s.funcs a (Own type instance locals body) st.funcs there in
    (type.results, first_typed s type instance locals body args own w, refl)
starts_typed s a (Host type) args st there w = (type, there, w, refl)
