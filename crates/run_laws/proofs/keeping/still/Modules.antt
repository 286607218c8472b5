-- Core code that runs leaves core instances as they are, and a module that is instantiated adds one.
use Rattle.std.proofs.Common.{◌≡◌, ℕ, zero, suc, ◌+◌, ◌%◌, Bool, true, false, if◌then◌else◌, ◌&&◌, nat_le, List, [], ◌∷◌, ◌++◌, map, length, refl, sym, ◌∙◌, subst, Option, Some, None, Result, Ok, Err}
use Rattle.std.specs.List.{slice_get}
use Rattle.std.specs.Option.{option_map}
use Rattle.syntax_trees.specs.declared.module_types.FuncType.{FuncType}
use Rattle.syntax_trees.specs.declared.instr.BlockType.{BlockType}
use Rattle.syntax_trees.specs.declared.instr.Instr.{Instr}
use Rattle.syntax_trees.specs.declared.instr.Instr.TheVariants as instr
use Rattle.syntax_trees.specs.declared.instr.LoadOp.{LoadOp}
use Rattle.syntax_trees.specs.declared.instr.StoreOp.{StoreOp}
use Rattle.syntax_trees.specs.declared.module.ElementSegment.{ElementSegment}
use Rattle.syntax_trees.specs.declared.module.DataSegment.{DataSegment}
use Rattle.syntax_trees.specs.declared.module.ModuleTree.{ModuleTree}
use Rattle.syntax_trees.specs.Expr.{Expr, End, Plain, Block, Loop, If, IfElse}
use Rattle.wasm_numbers.specs.declared.trap.NumberTrap.{NumberTrap}
use Rattle.wasm_numbers.specs.Stack.{applied}
use Rattle.wasm_memory.specs.Bytes.{is_inside, put, copied, filled}
use Rattle.wasm_memory.specs.Loads.{loaded}
use Rattle.wasm_memory.specs.Stores.{stored_bytes}
use Rattle.wasm_memory.specs.Memories.{MemoryState, growth, grown}
use Rattle.wasm_store.specs.Store.{Function, Own, Host, type_of, Table, Global, Instance, Store, found_at, func_at, table_at, memory_at, global_at}
use Rattle.wasm_store.specs.Stack.{Label, Frame, Stack, Running, AtHost, Given}
use Rattle.wasm_store.specs.Effects.{Effect, Leaves, Fails, NoRule, by_number, dropped, selected, local_get, local_set, local_tee, global_get, global_set, by_load, by_bounds, by_growth, as_word, load, store, memory_size, memory_grow, memory_fill, memory_copy, effect}
use Rattle.wasm_store.specs.Step.{Move, Goes, Calls, Ends, Traps, Stuck, ended, branched_to, branched_if, branched_by, table_label, frame_limit, invoked, called, same_signature, called_as, called_entry, called_through, by_effect, moved, chosen, move_at, move_in, next, Moves, Steps}
use Rattle.wasm_store.specs.Instantiation.{External, allocated, into_table, into_memory, element_written, data_written, init_value, Instantiation, Makes, SegmentBounds, written_then, all_written, instance_of, instantiated}
use Rattle.wasm_store.proofs.Lists.{if_both}
use Rattle.wasm_execution.specs.declared.running.Outcome.{Outcome}
use Rattle.wasm_execution.specs.declared.running.Outcome.TheVariants as outcome
use Rattle.wasm_execution.specs.Run.{Comes, RunGives}

-- What an instruction leaves has the core instances of a store, and so has what a move leaves.
abbrev pub EffectKeeps : Store → Effect → Type 0
EffectKeeps s (Leaves t ls vs) = t.instances ≡ s.instances
EffectKeeps s (Fails why) = Unit {0}
EffectKeeps s NoRule = Unit {0}

abbrev pub MoveKeeps : Store → Move → Type 0
MoveKeeps s (Goes costs t l) = t.instances ≡ s.instances
MoveKeeps s (Calls address words l) = Unit {0}
MoveKeeps s (Ends words) = Unit {0}
MoveKeeps s (Traps why) = Unit {0}
MoveKeeps s Stuck = Unit {0}

number_keeps : (o : Option (Result (List ℕ) NumberTrap)) (s : Store) (ls : List ℕ) → EffectKeeps s (by_number o s ls)
number_keeps None s ls = tt
number_keeps (Some (Ok vs)) s ls = refl
number_keeps (Some (Err why)) s ls = tt

dropped_keeps : (s : Store) (ls vs : List ℕ) → EffectKeeps s (dropped s ls vs)
dropped_keeps s ls [] = tt
dropped_keeps s ls (a ∷ vs) = refl

selected_keeps : (s : Store) (ls vs : List ℕ) → EffectKeeps s (selected s ls vs)
selected_keeps s ls [] = tt
selected_keeps s ls (zero ∷ []) = tt
selected_keeps s ls (suc n ∷ []) = tt
selected_keeps s ls (zero ∷ b ∷ []) = tt
selected_keeps s ls (suc n ∷ b ∷ []) = tt
selected_keeps s ls (zero ∷ b ∷ a ∷ vs) = refl
selected_keeps s ls (suc n ∷ b ∷ a ∷ vs) = refl

local_get_keeps : (o : Option ℕ) (s : Store) (ls vs : List ℕ) → EffectKeeps s (local_get o s ls vs)
local_get_keeps None s ls vs = tt
local_get_keeps (Some value) s ls vs = refl

local_set_keeps : (index : ℕ) (s : Store) (ls vs : List ℕ) → EffectKeeps s (local_set index s ls vs)
local_set_keeps index s ls [] = tt
local_set_keeps index s ls (a ∷ vs) = refl

local_tee_keeps : (index : ℕ) (s : Store) (ls vs : List ℕ) → EffectKeeps s (local_tee index s ls vs)
local_tee_keeps index s ls [] = tt
local_tee_keeps index s ls (a ∷ vs) = refl

global_get_keeps : (o : Option (ℕ × Global)) (s : Store) (ls vs : List ℕ) → EffectKeeps s (global_get o s ls vs)
global_get_keeps None s ls vs = tt
global_get_keeps (Some g) s ls vs = refl

global_set_keeps : (o : Option (ℕ × Global)) (s : Store) (ls vs : List ℕ) → EffectKeeps s (global_set o s ls vs)
global_set_keeps None s ls vs = tt
global_set_keeps (Some g) s ls [] = tt
global_set_keeps (Some g) s ls (a ∷ vs) = refl

by_load_keeps : (o : Option ℕ) (s : Store) (ls vs : List ℕ) → EffectKeeps s (by_load o s ls vs)
by_load_keeps None s ls vs = tt
by_load_keeps (Some value) s ls vs = refl

bounds_keep : (inside : Bool) (m : ℕ × MemoryState) (bytes : List ℕ) (s : Store) (ls vs : List ℕ) → EffectKeeps s (by_bounds inside m bytes s ls vs)
bounds_keep true m bytes s ls vs = refl
bounds_keep false m bytes s ls vs = tt

growth_keeps : (o : Option ℕ) (address : ℕ) (m : MemoryState) (s : Store) (ls vs : List ℕ) → EffectKeeps s (by_growth o address m s ls vs)
growth_keeps None address m s ls vs = refl
growth_keeps (Some pages) address m s ls vs = refl

load_keeps : (op : LoadOp) (offset : ℕ) (o : Option (ℕ × MemoryState)) (s : Store) (ls vs : List ℕ) → EffectKeeps s (load op offset o s ls vs)
load_keeps op offset None s ls vs = tt
load_keeps op offset (Some m) s ls [] = tt
load_keeps op offset (Some m) s ls (a ∷ vs) = by_load_keeps (option_map (as_word op) (loaded op (a + offset) m.1.bytes)) s ls vs

store_keeps : (op : StoreOp) (offset : ℕ) (o : Option (ℕ × MemoryState)) (s : Store) (ls vs : List ℕ) → EffectKeeps s (store op offset o s ls vs)
store_keeps op offset None s ls vs = tt
store_keeps op offset (Some m) s ls [] = tt
store_keeps op offset (Some m) s ls (b ∷ []) = tt
store_keeps op offset (Some m) s ls (b ∷ a ∷ vs) =
    bounds_keep (is_inside (a + offset) (length (stored_bytes op b)) m.1.bytes) m (put (a + offset) (stored_bytes op b) m.1.bytes) s ls vs

size_keeps : (o : Option (ℕ × MemoryState)) (s : Store) (ls vs : List ℕ) → EffectKeeps s (memory_size o s ls vs)
size_keeps None s ls vs = tt
size_keeps (Some m) s ls vs = refl

grow_keeps : (o : Option (ℕ × MemoryState)) (s : Store) (ls vs : List ℕ) → EffectKeeps s (memory_grow o s ls vs)
grow_keeps None s ls vs = tt
grow_keeps (Some m) s ls [] = tt
grow_keeps (Some m) s ls (more ∷ vs) = growth_keeps (growth m.1 more) m.0 (grown m.1 more) s ls vs

fill_keeps : (o : Option (ℕ × MemoryState)) (s : Store) (ls vs : List ℕ) → EffectKeeps s (memory_fill o s ls vs)
fill_keeps None s ls vs = tt
fill_keeps (Some m) s ls [] = tt
fill_keeps (Some m) s ls (count ∷ []) = tt
fill_keeps (Some m) s ls (count ∷ value ∷ []) = tt
fill_keeps (Some m) s ls (count ∷ value ∷ at ∷ vs) = bounds_keep (is_inside at count m.1.bytes) m (filled at (value % 256) count m.1.bytes) s ls vs

copy_keeps : (o : Option (ℕ × MemoryState)) (s : Store) (ls vs : List ℕ) → EffectKeeps s (memory_copy o s ls vs)
copy_keeps None s ls vs = tt
copy_keeps (Some m) s ls [] = tt
copy_keeps (Some m) s ls (count ∷ []) = tt
copy_keeps (Some m) s ls (count ∷ from ∷ []) = tt
copy_keeps (Some m) s ls (count ∷ from ∷ to ∷ vs) =
    bounds_keep (is_inside to count m.1.bytes && is_inside from count m.1.bytes) m (copied to from count m.1.bytes) s ls vs

effect_keeps : (p : Instr) (i : Instance) (s : Store) (ls vs : List ℕ) → EffectKeeps s (effect p i s ls vs)
effect_keeps instr.Nop i s ls vs = refl
effect_keeps instr.Drop i s ls vs = dropped_keeps s ls vs
effect_keeps instr.Select i s ls vs = selected_keeps s ls vs
effect_keeps (instr.SelectTyped types) i s ls vs = selected_keeps s ls vs
effect_keeps (instr.LocalGet index) i s ls vs = local_get_keeps (slice_get ls index) s ls vs
effect_keeps (instr.LocalSet index) i s ls vs = local_set_keeps index s ls vs
effect_keeps (instr.LocalTee index) i s ls vs = local_tee_keeps index s ls vs
effect_keeps (instr.GlobalGet index) i s ls vs = global_get_keeps (global_at index i s) s ls vs
effect_keeps (instr.GlobalSet index) i s ls vs = global_set_keeps (global_at index i s) s ls vs
effect_keeps (instr.Load op arg) i s ls vs = load_keeps op arg.offset (memory_at 0 i s) s ls vs
effect_keeps (instr.Store op arg) i s ls vs = store_keeps op arg.offset (memory_at 0 i s) s ls vs
effect_keeps instr.MemorySize i s ls vs = size_keeps (memory_at 0 i s) s ls vs
effect_keeps instr.MemoryGrow i s ls vs = grow_keeps (memory_at 0 i s) s ls vs
effect_keeps instr.MemoryCopy i s ls vs = copy_keeps (memory_at 0 i s) s ls vs
effect_keeps instr.MemoryFill i s ls vs = fill_keeps (memory_at 0 i s) s ls vs
effect_keeps (instr.I32Const value) i s ls vs = refl
effect_keeps (instr.I64Const value) i s ls vs = refl
effect_keeps (instr.Numeric op) i s ls vs = number_keeps (applied op vs) s ls
effect_keeps control i s ls vs = tt

-- Moves.

leaving_keeps : (e : Effect) (s : Store) (f : Frame) (fs : List Frame) → EffectKeeps s e → MoveKeeps s (by_effect e f fs)
leaving_keeps (Leaves t ls vs) s f fs h = h
leaving_keeps (Fails why) s f fs h = tt
leaving_keeps NoRule s f fs h = tt

branch_keeps : (o : Option Label) (depth : ℕ) (vs : List ℕ) (s : Store) (f : Frame) (fs : List Frame) → MoveKeeps s (branched_to o depth vs s f fs)
branch_keeps None depth vs s f fs = tt
branch_keeps (Some l) depth vs s f fs = refl

if_keeps : (depth : ℕ) (vs : List ℕ) (s : Store) (f : Frame) (fs : List Frame) → MoveKeeps s (branched_if depth vs s f fs)
if_keeps depth [] s f fs = tt
if_keeps depth (zero ∷ vs) s f fs = refl
if_keeps depth (suc n ∷ vs) s f fs = branch_keeps (slice_get f.labels depth) depth vs s f fs

by_keeps : (others : List ℕ) (last : ℕ) (vs : List ℕ) (s : Store) (f : Frame) (fs : List Frame) → MoveKeeps s (branched_by others last vs s f fs)
by_keeps others last [] s f fs = tt
by_keeps others last (n ∷ vs) s f fs = branch_keeps (slice_get f.labels (table_label (slice_get others n) last)) (table_label (slice_get others n) last) vs s f fs

invoked_keeps : (address : ℕ) (function : Function) (vs : List ℕ) (s : Store) (f : Frame) (fs : List Frame) → MoveKeeps s (invoked address function vs s f fs)
invoked_keeps address (Own type instance locals body) vs s f fs =
    if_both (MoveKeeps s) (nat_le frame_limit (suc (length fs))) _ _ (λ t. tt) (λ t. refl)
invoked_keeps address (Host type) vs s f fs = tt

called_keeps : (o : Option (ℕ × Function)) (vs : List ℕ) (s : Store) (f : Frame) (fs : List Frame) → MoveKeeps s (called o vs s f fs)
called_keeps None vs s f fs = tt
called_keeps (Some p) vs s f fs = invoked_keeps p.0 p.1 vs s f fs

as_keeps : (type : FuncType) (o : Option (ℕ × Function)) (vs : List ℕ) (s : Store) (f : Frame) (fs : List Frame) → MoveKeeps s (called_as type o vs s f fs)
as_keeps type None vs s f fs = tt
as_keeps type (Some p) vs s f fs = if_both (MoveKeeps s) (same_signature type (type_of p.1)) _ _ (λ t. invoked_keeps p.0 p.1 vs s f fs) (λ t. tt)

entry_keeps : (type : FuncType) (o : Option (Option ℕ)) (vs : List ℕ) (s : Store) (f : Frame) (fs : List Frame) → MoveKeeps s (called_entry type o vs s f fs)
entry_keeps type None vs s f fs = tt
entry_keeps type (Some None) vs s f fs = tt
entry_keeps type (Some (Some address)) vs s f fs = as_keeps type (found_at s.funcs (Some address)) vs s f fs

through_keeps : (o : Option FuncType) (t : Option (ℕ × Table)) (vs : List ℕ) (s : Store) (f : Frame) (fs : List Frame) → MoveKeeps s (called_through o t vs s f fs)
through_keeps None t vs s f fs = tt
through_keeps (Some type) None vs s f fs = tt
through_keeps (Some type) (Some t) [] s f fs = tt
through_keeps (Some type) (Some t) (n ∷ vs) s f fs = entry_keeps type (slice_get t.1.entries n) vs s f fs

instr_keeps : (p : Instr) (i : Instance) (s : Store) (f : Frame) (fs : List Frame) → MoveKeeps s (moved p i s f fs)
instr_keeps instr.Unreachable i s f fs = tt
instr_keeps (instr.Br depth) i s f fs = branch_keeps (slice_get f.labels depth) depth f.values s f fs
instr_keeps (instr.BrIf depth) i s f fs = if_keeps depth f.values s f fs
instr_keeps (instr.BrTable others last) i s f fs = by_keeps others last f.values s f fs
instr_keeps instr.Return i s f fs = refl
instr_keeps (instr.Call index) i s f fs = called_keeps (func_at index i s) f.values s f fs
instr_keeps (instr.CallIndirect index table) i s f fs = through_keeps (slice_get i.types index) (table_at table i s) f.values s f fs
instr_keeps other i s f fs = leaving_keeps (effect other i s f.locals f.values) s f fs (effect_keeps other i s f.locals f.values)

chosen_keeps : (t : BlockType) (first second after : Expr) (vs : List ℕ) (i : Instance) (s : Store) (f : Frame) (fs : List Frame) → MoveKeeps s (chosen t first second after vs i s f fs)
chosen_keeps t first second after [] i s f fs = tt
chosen_keeps t first second after (zero ∷ vs) i s f fs = refl
chosen_keeps t first second after (suc n ∷ vs) i s f fs = refl

ended_keeps : (ls : List Label) (s : Store) (f : Frame) (fs : List Frame) → MoveKeeps s (ended ls s f fs)
ended_keeps [] s f [] = tt
ended_keeps [] s f (g ∷ fs) = refl
ended_keeps (l ∷ ls) s f fs = refl

rest_keeps : (e : Expr) (i : Instance) (s : Store) (f : Frame) (fs : List Frame) → MoveKeeps s (move_at e i s f fs)
rest_keeps End i s f fs = ended_keeps f.labels s f fs
rest_keeps (Plain p e) i s f fs = instr_keeps p i s (record f { rest = e }) fs
rest_keeps (Block t b e) i s f fs = refl
rest_keeps (Loop t b e) i s f fs = refl
rest_keeps (If t a e) i s f fs = chosen_keeps t a End e f.values i s f fs
rest_keeps (IfElse t a b e) i s f fs = chosen_keeps t a b e f.values i s f fs

in_keeps : (o : Option Instance) (s : Store) (f : Frame) (fs : List Frame) → MoveKeeps s (move_in o s f fs)
in_keeps None s f fs = tt
in_keeps (Some i) s f fs = rest_keeps f.rest i s f fs

next_keeps : (s : Store) (k : Stack) → MoveKeeps s (next s k)
next_keeps s (Running f fs) = in_keeps (slice_get s.instances f.instance) s f fs
next_keeps s (AtHost address words) = tt
next_keeps s (Given words) = tt

moves_keep : (count fuel : ℕ) (s t : Store) (k l : Stack) → Moves count fuel s k t l → t.instances ≡ s.instances
moves_keep zero fuel s t k l m = subst (λ (t : Store). t.instances ≡ s.instances) (sym m.1) refl
moves_keep (suc count) fuel s t k l (costs, left, u, m, goes, fuel_is, more) =
    moves_keep count left u t m l more ∙ subst (MoveKeeps s) goes (next_keeps s k)

pub steps_keep : (fuel : ℕ) (s t : Store) (k l : Stack) → Steps fuel s k t l → t.instances ≡ s.instances
steps_keep fuel s t k l m = moves_keep m.0 fuel s t k l m.1

-- A run of core code leaves them, whatever it comes to but want of memory.
pub comes_keep : (s t : Store) (k : Stack) (before later : ℕ) (move : Move) → Comes s k before t later move → t.instances ≡ s.instances
comes_keep s t k before later move c = steps_keep c.spent s t k c.last c.steps

pub run_keeps : (s : Store) (k : Stack) (before : ℕ) (o : Outcome) (t : Store) (later : ℕ) → RunGives s k before o t later → t.instances ≡ s.instances
run_keeps s k before (outcome.Done words) t later gives = comes_keep s t k before later (Ends words) gives
run_keeps s k before (outcome.Calls address words waiting) t later gives = comes_keep s t k before later (Calls address words waiting.stack) gives.comes
run_keeps s k before (outcome.Trapped why) t later gives = comes_keep s t k before later (Traps why) gives
run_keeps s k before (outcome.NoFuel last) t later gives = steps_keep before s t k last gives.steps
run_keeps s k before outcome.Memory t later gives = steps_keep gives.spent s t k gives.last gives.steps

-- Segments are written.
table_keeps : (at : ℕ) (entries : List (Option ℕ)) (o : Option (ℕ × Table)) (u v : Store) → into_table at entries o u ≡ Some v → v.instances ≡ u.instances
table_keeps at entries None u v h = cc
table_keeps at entries (Some t) u v h = by (nat_le (at + length entries) (length t.1.entries)) _ h refl
  where
    by : (b : Bool) (w : Store) → (if b then Some w else None) ≡ Some v → w.instances ≡ u.instances → v.instances ≡ u.instances
    by true w h k = let same : w ≡ v = cc in subst (λ (w : Store). w.instances ≡ u.instances) same k
    by false w h k = cc

bytes_keep : (at : ℕ) (bytes : List ℕ) (o : Option (ℕ × MemoryState)) (u v : Store) → into_memory at bytes o u ≡ Some v → v.instances ≡ u.instances
bytes_keep at bytes None u v h = cc
bytes_keep at bytes (Some m) u v h = by (is_inside at (length bytes) m.1.bytes) _ h refl
  where
    by : (b : Bool) (w : Store) → (if b then Some w else None) ≡ Some v → w.instances ≡ u.instances → v.instances ≡ u.instances
    by true w h k = let same : w ≡ v = cc in subst (λ (w : Store). w.instances ≡ u.instances) same k
    by false w h k = cc

abbrev pub AddedBy : List Instance → Instantiation → Type 0
AddedBy all (Makes t) = t.instances ≡ all
AddedBy all (SegmentBounds t) = Unit {0}

written_keeps : {A : Type 0} (all : List Instance) (f : Store → A → Option Store) → ((u v : Store) (x : A) → f u x ≡ Some v → v.instances ≡ u.instances) → (more : Store → Instantiation)
    → ((u : Store) → u.instances ≡ all → AddedBy all (more u)) → (xs : List A) (u : Store) → u.instances ≡ all → AddedBy all (all_written f xs u more)
written_keeps all f keeps more later [] u h = later u h
written_keeps {A} all f keeps more later (x ∷ xs) u h = by (f u x) refl (λ v k. written_keeps all f keeps more later xs v k)
  where
    by : (o : Option Store) → f u x ≡ o → ((v : Store) → v.instances ≡ all → AddedBy all (all_written f xs v more)) → AddedBy all (written_then o u (λ t. all_written f xs t more))
    by None e others = tt
    by (Some v) e others = others v (keeps u v x e ∙ h)

-- A module that is instantiated adds its core instance.
pub adds_one : (s : Store) (m : ModuleTree) (imports : List External) → AddedBy (s.instances ++ instance_of m imports s ∷ []) (instantiated m imports s)
adds_one s m imports =
    let i : Instance = instance_of m imports s in
    let all : List Instance = s.instances ++ i ∷ [] in
    let element : (u v : Store) (d : ElementSegment) → element_written i u d ≡ Some v → v.instances ≡ u.instances =
    λ u v d e. table_keeps (init_value u i.globals d.offset) (map (λ index. slice_get i.funcs index) d.funcs) (table_at d.table i u) u v e in
    let bytes : (u v : Store) (d : DataSegment) → data_written i u d ≡ Some v → v.instances ≡ u.instances =
    λ u v d e. bytes_keep (init_value u i.globals d.offset) d.bytes (memory_at d.memory i u) u v e in
    written_keeps all (element_written i) element (λ u. all_written (data_written i) m.data_segments u Makes)
    (λ u h. written_keeps all (data_written i) bytes Makes (λ v k. k) m.data_segments u h) m.element_segments (allocated m imports s) refl
