-- What holds of all stacks (Core 2.0, section 4.4), of those that are typed in a typed store, and of the modules that are
-- added to one (the appendix on soundness), and of stores without functions of the host.
use Rattle.std.specs.Prelude.{◌≡◌, ◌≢◌, ◌≤◌, ◌+◌, ℕ, suc, false, List, [], length, Some}
use Rattle.std.specs.List.{slice_get, AllByRecursion}
use Rattle.syntax_trees.specs.declared.module_types.ValType.{ValType}
use Rattle.syntax_trees.specs.declared.module_types.FuncType.{FuncType}
use Rattle.syntax_trees.specs.declared.module.ModuleTree.{ModuleTree}
use Rattle.wasm_typing.specs.Modules.{Typed}
use Rattle.wasm_numbers.specs.Types.{AreWords}
use Rattle.wasm_memory.specs.Memories.{MemoryState}
use Rattle.wasm_store.specs.Store.{Function, Own, Host, type_of, Store}
use Rattle.wasm_store.specs.Stack.{Stack, Running, AtHost, Given}
use Rattle.wasm_store.specs.Effects.{with_memory}
use Rattle.wasm_store.specs.Step.{Move, Goes, Calls, Ends, Traps, Stuck, frame_limit, next, resume, start, Moves, Steps}
use Rattle.wasm_store.specs.Instantiation.{External, Instantiation, Makes, SegmentBounds, empty, with_host, instance_of, instantiated, start_call, ImportsMatch, InRange}
use Rattle.wasm_store.specs.Typed.{StoreTyped, Extends, HasContext, module_context, StackTyped}

-- What a typed stack does next is typed: where it goes on, its store extends the old one; where it calls, it goes on with
-- any words of the called function's results; where it ends, it ends with words of its own.
abbrev pub MoveTyped : Store → List ValType → Move → Type 0
MoveTyped s results (Goes costs t l) = Extends s t × StoreTyped t × StackTyped t results l
MoveTyped s results (Calls address words l) =
    (type : FuncType) × (slice_get s.funcs address ≡ Some (Host type)) × AreWords type.params words
    × ((answers : List ℕ) → AreWords type.results answers → StackTyped s results (resume answers l))
MoveTyped s results (Ends words) = AreWords results words
MoveTyped s results (Traps why) = Unit {0}
MoveTyped s results Stuck = ⊥

-- A typed stack has a typed move.
abbrev pub MovesTyped : Type 0
MovesTyped = (s : Store) (results : List ValType) (k : Stack) → StoreTyped s → StackTyped s results k → MoveTyped s results (next s k)

-- Whatever steps a typed stack makes, it stays typed, and isn't stuck.
abbrev pub NeverStuck : Type 0
NeverStuck =
    (fuel : ℕ) (s t : Store) (results : List ValType) (k l : Stack) → StoreTyped s → StackTyped s results k → Steps fuel s k t l
    → Extends s t × StoreTyped t × StackTyped t results l × (next t l ≢ Stuck)

-- A call with words of the function's parameters is typed.
abbrev pub StartsTyped : Type 0
StartsTyped =
    (s : Store) (address : ℕ) (function : Function) (args : List ℕ) → StoreTyped s → slice_get s.funcs address ≡ Some function
    → AreWords (type_of function).params args → StackTyped s (type_of function).results (start function address args)

-- What is typed in a store is typed in each store that extends it.
abbrev pub StaysTyped : Type 0
StaysTyped = (s t : Store) (results : List ValType) (k : Stack) → Extends s t → StackTyped s results k → StackTyped t results k

-- What extends a store that extends another one extends that one.
abbrev pub ExtendsFurther : Type 0
ExtendsFurther = (s t u : Store) → Extends s t → Extends t u → Extends s u

-- The new instance stands behind the old ones, and has what its module says.
abbrev pub IsThere : Store → ModuleTree → List External → Store → Type 0
IsThere s m imports t = (slice_get t.instances (length s.instances) ≡ Some (instance_of m imports s)) × HasContext t (instance_of m imports s) (module_context m)

-- A valid module is instantiated, with imports of its types: the store stays typed and extends the old one, also where a
-- segment doesn't fit, the new instance is there, and the call of the function that runs first is typed.
abbrev pub AddedTyped : Store → ModuleTree → List External → Instantiation → Type 0
AddedTyped s m imports (Makes t) =
    Extends s t × StoreTyped t × IsThere s m imports t × ((k : Stack) → start_call m (instance_of m imports s) t ≡ Some k → StackTyped t [] k)
AddedTyped s m imports (SegmentBounds t) = Extends s t × StoreTyped t × IsThere s m imports t

abbrev pub AddsTyped : Type 0
AddsTyped =
    (s : Store) (m : ModuleTree) (imports : List External) → StoreTyped s → Typed m → InRange m → ImportsMatch s m imports
    → AddedTyped s m imports (instantiated m imports s)

-- A store with nothing is typed, a further function of the host leaves a store typed, and so do other bytes in a memory, as
-- many as before. All extend the store before.
abbrev pub EmptyTyped : Type 0
EmptyTyped = StoreTyped empty

abbrev pub HostsTyped : Type 0
HostsTyped = (s : Store) (type : FuncType) → StoreTyped s → Extends s (with_host type s) × StoreTyped (with_host type s)

abbrev pub WritesTyped : Type 0
WritesTyped =
    (s : Store) (address : ℕ) (m n : MemoryState) → StoreTyped s → slice_get s.memories address ≡ Some m → n.maximum ≡ m.maximum → length n.bytes ≡ length m.bytes
    → Extends s (with_memory address n s) × StoreTyped (with_memory address n s)

-- Functions of the host (section 4.2.6): a store without them, and what becomes of it.

-- a function of an instance
abbrev pub IsOwn : Function → Type 0
IsOwn (Own type instance locals body) = Unit {0}
IsOwn (Host type) = ⊥

abbrev pub HasNoHosts : Store → Type 0
HasNoHosts s = AllByRecursion IsOwn s.funcs

-- No step adds, changes or takes away a function.
abbrev pub StepsKeepFunctions : Type 0
StepsKeepFunctions = (fuel : ℕ) (s t : Store) (k l : Stack) → Steps fuel s k t l → t.funcs ≡ s.funcs

-- A store with nothing has no function of the host, and a module that is instantiated adds none, also where a segment
-- doesn't fit.
abbrev pub EmptyHasNoHosts : Type 0
EmptyHasNoHosts = HasNoHosts empty

abbrev pub AddedWithoutHosts : Instantiation → Type 0
AddedWithoutHosts (Makes t) = HasNoHosts t
AddedWithoutHosts (SegmentBounds t) = HasNoHosts t

abbrev pub AddsNoHosts : Type 0
AddsNoHosts = (s : Store) (m : ModuleTree) (imports : List External) → HasNoHosts s → AddedWithoutHosts (instantiated m imports s)

-- Whatever steps a typed stack makes in a store without functions of the host, it calls none next.
abbrev pub NeverCallsHosts : Type 0
NeverCallsHosts =
    (fuel : ℕ) (s t : Store) (results : List ValType) (k l : Stack) (address : ℕ) (words : List ℕ) (waits : Stack) → StoreTyped s
    → StackTyped s results k → HasNoHosts s → Steps fuel s k t l → next t l ≢ Calls address words waits

-- Of all stacks, typed or not.

-- From each stack finitely many moves that cost nothing lead to one whose next move is none of these.
abbrev pub FreeMovesEnd : Type 0
FreeMovesEnd =
    (s : Store) (k : Stack)
    → (count : ℕ) × (l : Stack) × Moves count 0 s k s l × ((t : Store) (m : Stack) → next s l ≢ Goes false t m)

-- how many frames a stack has, and that these are no more than it may have
abbrev pub frame_count : Stack → ℕ
frame_count (Running f fs) = suc (length fs)
frame_count (AtHost address words) = 0
frame_count (Given words) = 0

abbrev pub FewFrames : Stack → Type 0
FewFrames k = frame_count k ≤ frame_limit

-- A call of a function begins with few frames, and no step makes too many of few.
abbrev pub StartsFew : Type 0
StartsFew = (function : Function) (address : ℕ) (args : List ℕ) → FewFrames (start function address args)

abbrev pub StepsFew : Type 0
StepsFew = (fuel : ℕ) (s t : Store) (k l : Stack) → FewFrames k → Steps fuel s k t l → FewFrames l

-- Nor does a call of the host: a stack that waits has few frames, and so it has when it is resumed.
abbrev pub WaitsFew : Type 0
WaitsFew =
    (s : Store) (address : ℕ) (words : List ℕ) (k l : Stack) → FewFrames k → next s k ≡ Calls address words l → FewFrames l

abbrev pub ResumesFew : Type 0
ResumesFew = (answers : List ℕ) (k : Stack) → FewFrames k → FewFrames (resume answers k)

-- As many moves from the same store and stack lead to the same ones, for the same units.
abbrev pub OneNext : Type 0
OneNext =
    (count a b : ℕ) (s t u : Store) (k l m : Stack) → Moves count a s k t l → Moves count b s k u m
    → (a ≡ b) × (t ≡ u) × (l ≡ m)

-- Steps behind steps are steps for the units of both.
abbrev pub StepsJoin : Type 0
StepsJoin = (a b : ℕ) (s t u : Store) (k l m : Stack) → Steps a s k t l → Steps b t l u m → Steps (a + b) s k u m

-- Fewer moves are a front of more: the others go on from where they led, for the units that are left.
abbrev pub FewerAreFront : Type 0
FewerAreFront =
    (count more a b : ℕ) (s t u : Store) (k l m : Stack) → Moves count a s k t l → Moves (count + more) b s k u m
    → (left : ℕ) × (b ≡ a + left) × Moves more left t l u m
