-- Stores that extend others, and what stays typed in them.
use Rattle.std.proofs.Common.{◌≡◌, ℕ, List, [], ◌∷◌, refl, ap, sym, ◌∙◌, subst, arith, Option, Some, None}
use Rattle.std.specs.List.{slice_get}
use Rattle.std.specs.Option.{option_map}
use Rattle.syntax_trees.specs.declared.module_types.ValType.{ValType}
use Rattle.syntax_trees.specs.declared.module_types.GlobalType.{GlobalType}
use Rattle.syntax_trees.specs.declared.module_types.Mutability.{Mutability}
use Rattle.syntax_trees.specs.declared.module_types.Mutability.TheVariants.{Constant, Variable}
use Rattle.wasm_typing.specs.Context.{Context}
use Rattle.wasm_numbers.specs.Types.{IsWord}
use Rattle.wasm_memory.specs.Memories.{MemoryState}
use Rattle.wasm_store.specs.Store.{Function, Own, Host, type_of, Table, Global, Instance, Store, found_at}
use Rattle.wasm_store.specs.Stack.{Frame, Running, AtHost, Given}
use Rattle.wasm_store.specs.Effects.{with_global, with_memory}
use Rattle.wasm_store.specs.Typed.{Keeps, IsSame, IsLaterTable, IsLaterMemory, IsKept, IsLaterGlobal, Extends, HasContext, FunctionTyped, EntryTyped, TableTyped, MemoryTyped, GlobalTyped, StoreTyped, FrameTyped, FramesTyped}
use Rattle.wasm_store.specs.Laws.{ExtendsFurther, StaysTyped}
use Rattle.wasm_store.proofs.Lists.{all_map, all_set, keeps_same, keeps_set, found_there}

keeps_further : {X : Type 0} (R : X → X → Type 0) → ((x y z : X) → R x y → R y z → R x z) → (xs ys zs : List X) → Keeps R xs ys → Keeps R ys zs → Keeps R xs zs
keeps_further R trans xs ys zs h k a x e =
    let first = h a x e in
    let second = k a first.0 first.1 in
    (second.0, second.1, trans x first.0 second.0 first.2 second.2)

same_further : {X : Type 0} (x y z : X) → IsSame x y → IsSame y z → IsSame x z
same_further x y z h k = k ∙ h

table_further : (x y z : Table) → IsLaterTable x y → IsLaterTable y z → IsLaterTable x z
table_further x y z h k = (k.0 ∙ h.0, k.1 ∙ h.1)

memory_further : (x y z : MemoryState) → IsLaterMemory x y → IsLaterMemory y z → IsLaterMemory x z
memory_further x y z h k = let first = h.1 in let second = k.1 in (k.0 ∙ h.0, omega arith)

kept_further : (mutability : Mutability) (a b c : ℕ) → IsKept mutability a b → IsKept mutability b c → IsKept mutability a c
kept_further Constant a b c h k = k ∙ h
kept_further Variable a b c h k = tt

global_further : (x y z : Global) → IsLaterGlobal x y → IsLaterGlobal y z → IsLaterGlobal x z
global_further x y z h k =
    (k.0 ∙ h.0, kept_further x.type.mutability x.value y.value z.value h.1 (subst (λ (t : GlobalType). IsKept t.mutability y.value z.value) h.0 k.1))

pub further : ExtendsFurther
further s t u h k = record {
  funcs = keeps_further IsSame same_further s.funcs t.funcs u.funcs h.funcs k.funcs;
  tables = keeps_further IsLaterTable table_further s.tables t.tables u.tables h.tables k.tables;
  memories = keeps_further IsLaterMemory memory_further s.memories t.memories u.memories h.memories k.memories;
  globals = keeps_further IsLaterGlobal global_further s.globals t.globals u.globals h.globals k.globals;
  instances = keeps_further IsSame same_further s.instances t.instances u.instances h.instances k.instances;
}

-- A store, a table, a memory and a global are later ones of themselves.
pub same_later : {X : Type 0} (x : X) → IsSame x x
same_later x = refl

pub table_later : (t : Table) → IsLaterTable t t
table_later t = (refl, refl)

pub memory_later : (m : MemoryState) → IsLaterMemory m m
memory_later m = (refl, omega arith)

kept_same : (mutability : Mutability) (a : ℕ) → IsKept mutability a a
kept_same Constant a = refl
kept_same Variable a = tt

pub global_later : (g : Global) → IsLaterGlobal g g
global_later g = (refl, kept_same g.type.mutability g.value)

pub store_same : (s : Store) → Extends s s
store_same s = record {
  funcs = keeps_same IsSame same_later s.funcs;
  tables = keeps_same IsLaterTable table_later s.tables;
  memories = keeps_same IsLaterMemory memory_later s.memories;
  globals = keeps_same IsLaterGlobal global_later s.globals;
  instances = keeps_same IsSame same_later s.instances;
}

-- the same item in a later list
pub still : {X : Type 0} (xs ys : List X) (a : ℕ) (x : X) → Keeps IsSame xs ys → slice_get xs a ≡ Some x → slice_get ys a ≡ Some x
still xs ys a x h e = let k = h a x e in k.1 ∙ ap Some k.2

-- what is found in a later list
pub found_later : {X : Type 0} (R : X → X → Type 0) (xs ys : List X) (o : Option ℕ) (p : ℕ × X) → Keeps R xs ys → found_at xs o ≡ Some p → (q : ℕ × X) × (found_at ys o ≡ Some q) × R p.1 q.1
found_later R xs ys None p h e = cc
found_later {X} R xs ys (Some a) p h e =
    let there = found_there xs (Some a) p e in
    let same : a ≡ p.0 = cc in
    let k = h p.0 p.1 there.1 in
    let at : slice_get ys a ≡ Some k.0 = ap (slice_get ys) same ∙ k.1 in
    ((a, k.0), ap (λ (o : Option X). (let q : Option (ℕ × X) = option_map (λ y. (a, y)) o in q)) at, k.2)

pub has_later : (s t : Store) (i : Instance) (c : Context) → Extends s t → HasContext s i c → HasContext t i c
has_later s t i c x h = record {
  types = h.types;
  funcs = λ index type e. (let p = h.funcs index type e in let q = found_later IsSame s.funcs t.funcs (slice_get i.funcs index) p.0 x.funcs p.1 in (q.0, q.1, ap type_of q.2 ∙ p.2));
  tables = λ index e. (let p = h.tables index e in let q = found_later IsLaterTable s.tables t.tables (slice_get i.tables index) p.0 x.tables p.1 in (q.0, q.1));
  memories = λ index e. (let p = h.memories index e in let q = found_later IsLaterMemory s.memories t.memories (slice_get i.memories index) p.0 x.memories p.1 in (q.0, q.1));
  globals = λ index type e. (let p = h.globals index type e in let q = found_later IsLaterGlobal s.globals t.globals (slice_get i.globals index) p.0 x.globals p.1 in (q.0, q.1, q.2.0 ∙ p.2));
}

pub function_later : (s t : Store) → Extends s t → (f : Function) → FunctionTyped s f → FunctionTyped t f
function_later s t x (Own type instance locals body) h = record {
  context = h.context;
  owner = h.owner;
  there = still s.instances t.instances instance h.owner x.instances h.there;
  has = has_later s t h.owner h.context x h.has;
  locals_are = h.locals_are;
  results_are = h.results_are;
  typed = h.typed;
}
function_later s t x (Host type) h = tt

pub entry_later : (s t : Store) → Extends s t → (entry : Option ℕ) → EntryTyped s entry → EntryTyped t entry
entry_later s t x None h = tt
entry_later s t x (Some a) h = (h.0, still s.funcs t.funcs a h.0 x.funcs h.1)

pub entries_later : (s t : Store) → Extends s t → (table : Table) → TableTyped s table → TableTyped t table
entries_later s t x table h = all_map (EntryTyped s) (EntryTyped t) (entry_later s t x) table.entries h

pub frame_later : (s t : Store) (waits gives : List ValType) (f : Frame) → Extends s t → FrameTyped s waits gives f → FrameTyped t waits gives f
frame_later s t waits gives f x h = record {
  context = h.context;
  owner = h.owner;
  there = still s.instances t.instances f.instance h.owner x.instances h.there;
  has = has_later s t h.owner h.context x h.has;
  locals_are = h.locals_are;
  results_are = h.results_are;
  count = h.count;
  types = h.types;
  ends = h.ends;
  own = h.own;
  words = h.words;
  under = h.under;
  values_are = h.values_are;
  typed = h.typed;
  left = h.left;
  around = h.around;
}

pub frames_later : (s t : Store) (results waits : List ValType) (fs : List Frame) → Extends s t → FramesTyped s results waits fs → FramesTyped t results waits fs
frames_later s t results waits [] x h = h
frames_later s t results waits (f ∷ fs) x h = (h.0, frame_later s t waits h.0 f x h.1, frames_later s t results h.0 fs x h.2)

pub stays_typed : StaysTyped
stays_typed s t results (Running f fs) x h = frames_later s t results [] (f ∷ fs) x h
stays_typed s t results (AtHost a words) x h = (h.0, still s.funcs t.funcs a (Host h.0) x.funcs h.1, h.2, h.3)
stays_typed s t results (Given words) x h = h

-- A memory of a store becomes a later one.
pub memory_changed : (s : Store) (a : ℕ) (m n : MemoryState) → StoreTyped s → slice_get s.memories a ≡ Some m → IsLaterMemory m n → MemoryTyped n → Extends s (with_memory a n s) × StoreTyped (with_memory a n s)
memory_changed s a m n h e k typed =
    let t : Store = with_memory a n s in
    let x : Extends s t = record {
      funcs = keeps_same IsSame same_later s.funcs;
      tables = keeps_same IsLaterTable table_later s.tables;
      memories = keeps_set IsLaterMemory memory_later s.memories a m n e k;
      globals = keeps_same IsLaterGlobal global_later s.globals;
      instances = keeps_same IsSame same_later s.instances;
    } in (
      x,
      record {
        funcs = all_map (FunctionTyped s) (FunctionTyped t) (function_later s t x) s.funcs h.funcs;
        tables = all_map (TableTyped s) (TableTyped t) (entries_later s t x) s.tables h.tables;
        memories = all_set MemoryTyped s.memories a n h.memories typed;
        globals = h.globals;
      },
    )

-- A global of a store has another value.
pub global_changed : (s : Store) (a : ℕ) (g : Global) (value : ℕ) → StoreTyped s → slice_get s.globals a ≡ Some g → g.type.mutability ≡ Variable → IsWord g.type.val_type value → Extends s (with_global a g value s) × StoreTyped (with_global a g value s)
global_changed s a g value h e free typed =
    let t : Store = with_global a g value s in
    let new : Global = record { type = g.type; value = value } in
    let kept : IsKept g.type.mutability g.value value = subst (λ (m : Mutability). IsKept m g.value value) (sym free) tt in
    let x : Extends s t = record {
      funcs = keeps_same IsSame same_later s.funcs;
      tables = keeps_same IsLaterTable table_later s.tables;
      memories = keeps_same IsLaterMemory memory_later s.memories;
      globals = keeps_set IsLaterGlobal global_later s.globals a g new e (refl, kept);
      instances = keeps_same IsSame same_later s.instances;
    } in (
      x,
      record {
        funcs = all_map (FunctionTyped s) (FunctionTyped t) (function_later s t x) s.funcs h.funcs;
        tables = all_map (TableTyped s) (TableTyped t) (entries_later s t x) s.tables h.tables;
        memories = h.memories;
        globals = all_set GlobalTyped s.globals a new h.globals typed;
      },
    )
