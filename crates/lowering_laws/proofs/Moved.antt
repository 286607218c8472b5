-- Steps leave the instances and the tables of a store as they are, and its memories as memories of bytes.
use Rattle.std.proofs.Common.{◌≡◌, ℕ, zero, suc, ◌+◌, ◌%◌, Bool, true, false, ◌&&◌, nat_le, List, [], ◌∷◌, length, refl, arith, Option, Some, None, Result, Ok, Err}
use Rattle.std.proofs.lemmas.List.{length-set}
use Rattle.std.specs.List.{slice_get}
use Rattle.std.specs.Option.{option_map}
use Rattle.syntax_trees.specs.declared.module_types.FuncType.{FuncType}
use Rattle.syntax_trees.specs.declared.instr.BlockType.{BlockType}
use Rattle.syntax_trees.specs.declared.instr.Instr.{Instr}
use Rattle.syntax_trees.specs.declared.instr.Instr.TheVariants as instr
use Rattle.syntax_trees.specs.declared.instr.LoadOp.{LoadOp}
use Rattle.syntax_trees.specs.declared.instr.StoreOp.{StoreOp}
use Rattle.syntax_trees.specs.Expr.{Expr, End, Plain, Block, Loop, If, IfElse}
use Rattle.wasm_numbers.specs.declared.trap.NumberTrap.{NumberTrap}
use Rattle.wasm_numbers.specs.Stack.{applied}
use Rattle.wasm_memory.specs.Bytes.{is_inside, put, copied, filled}
use Rattle.wasm_memory.specs.Loads.{loaded}
use Rattle.wasm_memory.specs.Stores.{stored_bytes}
use Rattle.wasm_memory.specs.Memories.{MemoryState, with_bytes, growth, grown}
use Rattle.wasm_store.specs.Store.{Function, Own, Host, type_of, Table, Global, Instance, Store, found_at, func_at, table_at, memory_at, global_at}
use Rattle.wasm_store.specs.Stack.{Label, Frame, Stack, Running, AtHost, Given}
use Rattle.wasm_store.specs.Effects.{Effect, Leaves, Fails, NoRule, by_number, dropped, selected, local_get, local_set, local_tee, global_get, global_set, by_load, by_bounds, with_memory, by_growth, as_word, load, store, memory_size, memory_grow, memory_fill, memory_copy, effect}
use Rattle.wasm_store.specs.Step.{Move, Goes, Calls, Ends, Traps, Stuck, ended, branched_to, branched_if, branched_by, table_label, frame_limit, invoked, called, same_signature, called_as, called_entry, called_through, by_effect, moved, chosen, move_at, move_in, next}
use Rattle.wasm_store.proofs.Lists.{if_both, all_at, all_set}
use Rattle.lowering_laws.specs.Values.{AreBytes}
use Rattle.lowering_laws.specs.StoreBytes.{HasBytesAlone}
use Rattle.lowering_laws.proofs.Bytes.{put_bytes, stored_are_bytes, grown_bytes, filled_bytes, copied_bytes}

-- a store with the same instances and tables, with memories of bytes where the other one has such, and with as many
abbrev pub IsOnward : Store → Store → Type 0
IsOnward s t = (t.instances ≡ s.instances) × (HasBytesAlone s → HasBytesAlone t) × (t.tables ≡ s.tables) × (length t.memories ≡ length s.memories)

-- what an instruction leaves, and what a move leaves
abbrev pub EffectKeeps : Store → Effect → Type 0
EffectKeeps s (Leaves t ls vs) = IsOnward s t
EffectKeeps s (Fails why) = Unit {0}
EffectKeeps s NoRule = Unit {0}

abbrev pub MoveKeeps : Store → Move → Type 0
MoveKeeps s (Goes costs t l) = IsOnward s t
MoveKeeps s (Calls address words l) = Unit {0}
MoveKeeps s (Ends words) = Unit {0}
MoveKeeps s (Traps why) = Unit {0}
MoveKeeps s Stuck = Unit {0}

number_keeps : (o : Option (Result (List ℕ) NumberTrap)) (s : Store) (ls : List ℕ) → EffectKeeps s (by_number o s ls)
number_keeps None s ls = tt
number_keeps (Some (Ok vs)) s ls = (refl, λ h. h, refl, refl)
number_keeps (Some (Err why)) s ls = tt

dropped_keeps : (s : Store) (ls vs : List ℕ) → EffectKeeps s (dropped s ls vs)
dropped_keeps s ls [] = tt
dropped_keeps s ls (a ∷ vs) = (refl, λ h. h, refl, refl)

selected_keeps : (s : Store) (ls vs : List ℕ) → EffectKeeps s (selected s ls vs)
selected_keeps s ls [] = tt
selected_keeps s ls (zero ∷ []) = tt
selected_keeps s ls (suc n ∷ []) = tt
selected_keeps s ls (zero ∷ b ∷ []) = tt
selected_keeps s ls (suc n ∷ b ∷ []) = tt
selected_keeps s ls (zero ∷ b ∷ a ∷ vs) = (refl, λ h. h, refl, refl)
selected_keeps s ls (suc n ∷ b ∷ a ∷ vs) = (refl, λ h. h, refl, refl)

local_get_keeps : (o : Option ℕ) (s : Store) (ls vs : List ℕ) → EffectKeeps s (local_get o s ls vs)
local_get_keeps None s ls vs = tt
local_get_keeps (Some value) s ls vs = (refl, λ h. h, refl, refl)

local_set_keeps : (index : ℕ) (s : Store) (ls vs : List ℕ) → EffectKeeps s (local_set index s ls vs)
local_set_keeps index s ls [] = tt
local_set_keeps index s ls (a ∷ vs) = (refl, λ h. h, refl, refl)

local_tee_keeps : (index : ℕ) (s : Store) (ls vs : List ℕ) → EffectKeeps s (local_tee index s ls vs)
local_tee_keeps index s ls [] = tt
local_tee_keeps index s ls (a ∷ vs) = (refl, λ h. h, refl, refl)

global_get_keeps : (o : Option (ℕ × Global)) (s : Store) (ls vs : List ℕ) → EffectKeeps s (global_get o s ls vs)
global_get_keeps None s ls vs = tt
global_get_keeps (Some g) s ls vs = (refl, λ h. h, refl, refl)

global_set_keeps : (o : Option (ℕ × Global)) (s : Store) (ls vs : List ℕ) → EffectKeeps s (global_set o s ls vs)
global_set_keeps None s ls vs = tt
global_set_keeps (Some g) s ls [] = tt
global_set_keeps (Some g) s ls (a ∷ vs) = (refl, λ h. h, refl, refl)

by_load_keeps : (o : Option ℕ) (s : Store) (ls vs : List ℕ) → EffectKeeps s (by_load o s ls vs)
by_load_keeps None s ls vs = tt
by_load_keeps (Some value) s ls vs = (refl, λ h. h, refl, refl)

-- a memory that was found, of bytes
abbrev FoundBytes : Option (ℕ × MemoryState) → Type 0
FoundBytes None = Unit {0}
FoundBytes (Some m) = AreBytes m.1.bytes

found_bytes : (s : Store) (o : Option ℕ) → HasBytesAlone s → FoundBytes (found_at s.memories o)
found_bytes s None h = tt
found_bytes s (Some a) h = by (slice_get s.memories a) refl
  where
    by : (m : Option MemoryState) → slice_get s.memories a ≡ m → FoundBytes (option_map (λ x. (a, x)) m)
    by None e = tt
    by (Some m) e = all_at (λ (memory : MemoryState). AreBytes memory.bytes) s.memories a m h e

rewritten_onward : (address : ℕ) (m : MemoryState) (s : Store) → (HasBytesAlone s → AreBytes m.bytes) → IsOnward s (with_memory address m s)
rewritten_onward address m s h =
    (refl, λ all. all_set (λ (memory : MemoryState). AreBytes memory.bytes) s.memories address m all (h all), refl, length-set s.memories address m)

bounds_keep : (inside : Bool) (m : ℕ × MemoryState) (bytes : List ℕ) (s : Store) (ls vs : List ℕ) → (HasBytesAlone s → AreBytes bytes) → EffectKeeps s (by_bounds inside m bytes s ls vs)
bounds_keep true m bytes s ls vs h = rewritten_onward m.0 (with_bytes m.1 bytes) s h
bounds_keep false m bytes s ls vs h = tt

growth_keeps : (o : Option ℕ) (address : ℕ) (m : MemoryState) (s : Store) (ls vs : List ℕ) → (HasBytesAlone s → AreBytes m.bytes) → EffectKeeps s (by_growth o address m s ls vs)
growth_keeps None address m s ls vs h = (refl, λ h. h, refl, refl)
growth_keeps (Some pages) address m s ls vs h = rewritten_onward address m s h

load_keeps : (op : LoadOp) (offset : ℕ) (o : Option (ℕ × MemoryState)) (s : Store) (ls vs : List ℕ) → EffectKeeps s (load op offset o s ls vs)
load_keeps op offset None s ls vs = tt
load_keeps op offset (Some m) s ls [] = tt
load_keeps op offset (Some m) s ls (a ∷ vs) = by_load_keeps (option_map (as_word op) (loaded op (a + offset) m.1.bytes)) s ls vs

store_keeps : (op : StoreOp) (offset : ℕ) (o : Option (ℕ × MemoryState)) (s : Store) (ls vs : List ℕ) → (HasBytesAlone s → FoundBytes o) → EffectKeeps s (store op offset o s ls vs)
store_keeps op offset None s ls vs h = tt
store_keeps op offset (Some m) s ls [] h = tt
store_keeps op offset (Some m) s ls (b ∷ []) h = tt
store_keeps op offset (Some m) s ls (b ∷ a ∷ vs) h =
    bounds_keep (is_inside (a + offset) (length (stored_bytes op b)) m.1.bytes) m (put (a + offset) (stored_bytes op b) m.1.bytes) s ls vs
    (λ all. put_bytes (a + offset) (stored_bytes op b) m.1.bytes (stored_are_bytes op b) (h all))

size_keeps : (o : Option (ℕ × MemoryState)) (s : Store) (ls vs : List ℕ) → EffectKeeps s (memory_size o s ls vs)
size_keeps None s ls vs = tt
size_keeps (Some m) s ls vs = (refl, λ h. h, refl, refl)

grow_keeps : (o : Option (ℕ × MemoryState)) (s : Store) (ls vs : List ℕ) → (HasBytesAlone s → FoundBytes o) → EffectKeeps s (memory_grow o s ls vs)
grow_keeps None s ls vs h = tt
grow_keeps (Some m) s ls [] h = tt
grow_keeps (Some m) s ls (more ∷ vs) h = growth_keeps (growth m.1 more) m.0 (grown m.1 more) s ls vs (λ all. grown_bytes more m.1 (h all))

fill_keeps : (o : Option (ℕ × MemoryState)) (s : Store) (ls vs : List ℕ) → (HasBytesAlone s → FoundBytes o) → EffectKeeps s (memory_fill o s ls vs)
fill_keeps None s ls vs h = tt
fill_keeps (Some m) s ls [] h = tt
fill_keeps (Some m) s ls (count ∷ []) h = tt
fill_keeps (Some m) s ls (count ∷ value ∷ []) h = tt
fill_keeps (Some m) s ls (count ∷ value ∷ at ∷ vs) h =
    bounds_keep (is_inside at count m.1.bytes) m (filled at (value % 256) count m.1.bytes) s ls vs (λ all. filled_bytes at (value % 256) count m.1.bytes (omega arith) (h all))

copy_keeps : (o : Option (ℕ × MemoryState)) (s : Store) (ls vs : List ℕ) → (HasBytesAlone s → FoundBytes o) → EffectKeeps s (memory_copy o s ls vs)
copy_keeps None s ls vs h = tt
copy_keeps (Some m) s ls [] h = tt
copy_keeps (Some m) s ls (count ∷ []) h = tt
copy_keeps (Some m) s ls (count ∷ from ∷ []) h = tt
copy_keeps (Some m) s ls (count ∷ from ∷ to ∷ vs) h =
    bounds_keep (is_inside to count m.1.bytes && is_inside from count m.1.bytes) m (copied to from count m.1.bytes) s ls vs (λ all. copied_bytes to from count m.1.bytes (h all))

pub effect_keeps : (p : Instr) (i : Instance) (s : Store) (ls vs : List ℕ) → EffectKeeps s (effect p i s ls vs)
effect_keeps instr.Nop i s ls vs = (refl, λ h. h, refl, refl)
effect_keeps instr.Drop i s ls vs = dropped_keeps s ls vs
effect_keeps instr.Select i s ls vs = selected_keeps s ls vs
effect_keeps (instr.SelectTyped types) i s ls vs = selected_keeps s ls vs
effect_keeps (instr.LocalGet index) i s ls vs = local_get_keeps (slice_get ls index) s ls vs
effect_keeps (instr.LocalSet index) i s ls vs = local_set_keeps index s ls vs
effect_keeps (instr.LocalTee index) i s ls vs = local_tee_keeps index s ls vs
effect_keeps (instr.GlobalGet index) i s ls vs = global_get_keeps (global_at index i s) s ls vs
effect_keeps (instr.GlobalSet index) i s ls vs = global_set_keeps (global_at index i s) s ls vs
effect_keeps (instr.Load op arg) i s ls vs = load_keeps op arg.offset (memory_at 0 i s) s ls vs
effect_keeps (instr.Store op arg) i s ls vs = store_keeps op arg.offset (memory_at 0 i s) s ls vs (λ all. found_bytes s (slice_get i.memories 0) all)
effect_keeps instr.MemorySize i s ls vs = size_keeps (memory_at 0 i s) s ls vs
effect_keeps instr.MemoryGrow i s ls vs = grow_keeps (memory_at 0 i s) s ls vs (λ all. found_bytes s (slice_get i.memories 0) all)
effect_keeps instr.MemoryCopy i s ls vs = copy_keeps (memory_at 0 i s) s ls vs (λ all. found_bytes s (slice_get i.memories 0) all)
effect_keeps instr.MemoryFill i s ls vs = fill_keeps (memory_at 0 i s) s ls vs (λ all. found_bytes s (slice_get i.memories 0) all)
effect_keeps (instr.I32Const value) i s ls vs = (refl, λ h. h, refl, refl)
effect_keeps (instr.I64Const value) i s ls vs = (refl, λ h. h, refl, refl)
effect_keeps (instr.Numeric op) i s ls vs = number_keeps (applied op vs) s ls
effect_keeps control i s ls vs = tt

-- moves

leaving_keeps : (e : Effect) (s : Store) (f : Frame) (fs : List Frame) → EffectKeeps s e → MoveKeeps s (by_effect e f fs)
leaving_keeps (Leaves t ls vs) s f fs h = h
leaving_keeps (Fails why) s f fs h = tt
leaving_keeps NoRule s f fs h = tt

branch_keeps : (o : Option Label) (depth : ℕ) (vs : List ℕ) (s : Store) (f : Frame) (fs : List Frame) → MoveKeeps s (branched_to o depth vs s f fs)
branch_keeps None depth vs s f fs = tt
branch_keeps (Some l) depth vs s f fs = (refl, λ h. h, refl, refl)

if_keeps : (depth : ℕ) (vs : List ℕ) (s : Store) (f : Frame) (fs : List Frame) → MoveKeeps s (branched_if depth vs s f fs)
if_keeps depth [] s f fs = tt
if_keeps depth (zero ∷ vs) s f fs = (refl, λ h. h, refl, refl)
if_keeps depth (suc n ∷ vs) s f fs = branch_keeps (slice_get f.labels depth) depth vs s f fs

by_keeps : (others : List ℕ) (last : ℕ) (vs : List ℕ) (s : Store) (f : Frame) (fs : List Frame) → MoveKeeps s (branched_by others last vs s f fs)
by_keeps others last [] s f fs = tt
by_keeps others last (n ∷ vs) s f fs = branch_keeps (slice_get f.labels (table_label (slice_get others n) last)) (table_label (slice_get others n) last) vs s f fs

invoked_keeps : (address : ℕ) (function : Function) (vs : List ℕ) (s : Store) (f : Frame) (fs : List Frame) → MoveKeeps s (invoked address function vs s f fs)
invoked_keeps address (Own type instance locals body) vs s f fs =
    if_both (MoveKeeps s) (nat_le frame_limit (suc (length fs))) _ _ (λ t. tt) (λ t. (refl, λ h. h, refl, refl))
invoked_keeps address (Host type) vs s f fs = tt

called_keeps : (o : Option (ℕ × Function)) (vs : List ℕ) (s : Store) (f : Frame) (fs : List Frame) → MoveKeeps s (called o vs s f fs)
called_keeps None vs s f fs = tt
called_keeps (Some p) vs s f fs = invoked_keeps p.0 p.1 vs s f fs

as_keeps : (type : FuncType) (o : Option (ℕ × Function)) (vs : List ℕ) (s : Store) (f : Frame) (fs : List Frame) → MoveKeeps s (called_as type o vs s f fs)
as_keeps type None vs s f fs = tt
as_keeps type (Some p) vs s f fs = if_both (MoveKeeps s) (same_signature type (type_of p.1)) _ _ (λ t. invoked_keeps p.0 p.1 vs s f fs) (λ t. tt)

entry_keeps : (type : FuncType) (o : Option (Option ℕ)) (vs : List ℕ) (s : Store) (f : Frame) (fs : List Frame) → MoveKeeps s (called_entry type o vs s f fs)
entry_keeps type None vs s f fs = tt
entry_keeps type (Some None) vs s f fs = tt
entry_keeps type (Some (Some address)) vs s f fs = as_keeps type (found_at s.funcs (Some address)) vs s f fs

through_keeps : (o : Option FuncType) (t : Option (ℕ × Table)) (vs : List ℕ) (s : Store) (f : Frame) (fs : List Frame) → MoveKeeps s (called_through o t vs s f fs)
through_keeps None t vs s f fs = tt
through_keeps (Some type) None vs s f fs = tt
through_keeps (Some type) (Some t) [] s f fs = tt
through_keeps (Some type) (Some t) (n ∷ vs) s f fs = entry_keeps type (slice_get t.1.entries n) vs s f fs

instr_keeps : (p : Instr) (i : Instance) (s : Store) (f : Frame) (fs : List Frame) → MoveKeeps s (moved p i s f fs)
instr_keeps instr.Unreachable i s f fs = tt
instr_keeps (instr.Br depth) i s f fs = branch_keeps (slice_get f.labels depth) depth f.values s f fs
instr_keeps (instr.BrIf depth) i s f fs = if_keeps depth f.values s f fs
instr_keeps (instr.BrTable others last) i s f fs = by_keeps others last f.values s f fs
instr_keeps instr.Return i s f fs = (refl, λ h. h, refl, refl)
instr_keeps (instr.Call index) i s f fs = called_keeps (func_at index i s) f.values s f fs
instr_keeps (instr.CallIndirect index table) i s f fs = through_keeps (slice_get i.types index) (table_at table i s) f.values s f fs
instr_keeps other i s f fs = leaving_keeps (effect other i s f.locals f.values) s f fs (effect_keeps other i s f.locals f.values)

chosen_keeps : (t : BlockType) (first second after : Expr) (vs : List ℕ) (i : Instance) (s : Store) (f : Frame) (fs : List Frame) → MoveKeeps s (chosen t first second after vs i s f fs)
chosen_keeps t first second after [] i s f fs = tt
chosen_keeps t first second after (zero ∷ vs) i s f fs = (refl, λ h. h, refl, refl)
chosen_keeps t first second after (suc n ∷ vs) i s f fs = (refl, λ h. h, refl, refl)

ended_keeps : (ls : List Label) (s : Store) (f : Frame) (fs : List Frame) → MoveKeeps s (ended ls s f fs)
ended_keeps [] s f [] = tt
ended_keeps [] s f (g ∷ fs) = (refl, λ h. h, refl, refl)
ended_keeps (l ∷ ls) s f fs = (refl, λ h. h, refl, refl)

rest_keeps : (e : Expr) (i : Instance) (s : Store) (f : Frame) (fs : List Frame) → MoveKeeps s (move_at e i s f fs)
rest_keeps End i s f fs = ended_keeps f.labels s f fs
rest_keeps (Plain p e) i s f fs = instr_keeps p i s (record f { rest = e }) fs
rest_keeps (Block t b e) i s f fs = (refl, λ h. h, refl, refl)
rest_keeps (Loop t b e) i s f fs = (refl, λ h. h, refl, refl)
rest_keeps (If t a e) i s f fs = chosen_keeps t a End e f.values i s f fs
rest_keeps (IfElse t a b e) i s f fs = chosen_keeps t a b e f.values i s f fs

in_keeps : (o : Option Instance) (s : Store) (f : Frame) (fs : List Frame) → MoveKeeps s (move_in o s f fs)
in_keeps None s f fs = tt
in_keeps (Some i) s f fs = rest_keeps f.rest i s f fs

pub next_keeps : (s : Store) (k : Stack) → MoveKeeps s (next s k)
next_keeps s (Running f fs) = in_keeps (slice_get s.instances f.instance) s f fs
next_keeps s (AtHost address words) = tt
next_keeps s (Given words) = tt
