-- A move of core code leaves each memory alone but the first one of the instance whose code it is.
use Rattle.std.proofs.Common.{◌≡◌, ◌∙◌, ℕ, zero, suc, ◌+◌, ◌%◌, Bool, true, false, ◌&&◌, nat_le, List, [], ◌∷◌, length, set, refl, ap, Option, Some, None, Result, Ok, Err}
use Rattle.std.specs.List.{slice_get}
use Rattle.std.specs.Option.{option_map}
use Rattle.syntax_trees.specs.declared.module_types.FuncType.{FuncType}
use Rattle.syntax_trees.specs.declared.instr.BlockType.{BlockType}
use Rattle.syntax_trees.specs.declared.instr.Instr.{Instr}
use Rattle.syntax_trees.specs.declared.instr.Instr.TheVariants as instr
use Rattle.syntax_trees.specs.declared.instr.LoadOp.{LoadOp}
use Rattle.syntax_trees.specs.declared.instr.StoreOp.{StoreOp}
use Rattle.syntax_trees.specs.Expr.{Expr, End, Plain, Block, Loop, If, IfElse}
use Rattle.wasm_numbers.specs.declared.trap.NumberTrap.{NumberTrap}
use Rattle.wasm_numbers.specs.Stack.{applied}
use Rattle.wasm_memory.specs.Bytes.{is_inside, put, copied, filled}
use Rattle.wasm_memory.specs.Loads.{loaded}
use Rattle.wasm_memory.specs.Stores.{stored_bytes}
use Rattle.wasm_memory.specs.Memories.{MemoryState, with_bytes, growth, grown}
use Rattle.wasm_store.specs.Store.{Function, Own, Host, type_of, Table, Global, Instance, Store, found_at, func_at, table_at, memory_at, global_at}
use Rattle.wasm_store.specs.Stack.{Label, Frame, Stack, Running, AtHost, Given}
use Rattle.wasm_store.specs.Effects.{Effect, Leaves, Fails, NoRule, by_number, dropped, selected, local_get, local_set, local_tee, global_get, global_set, by_load, by_bounds, by_growth, as_word, load, store, memory_size, memory_grow, memory_fill, memory_copy, effect}
use Rattle.wasm_store.specs.Step.{Move, Goes, Calls, Ends, Traps, Stuck, ended, branched_to, branched_if, branched_by, table_label, frame_limit, invoked, called, same_signature, called_as, called_entry, called_through, by_effect, moved, chosen, move_at, move_in, next}
use Rattle.wasm_store.proofs.Lists.{if_both, found_there}

set_other : {A : Type 0} (xs : List A) (a b : ℕ) (y : A) → (a ≡ b → ⊥) → slice_get (set xs a y) b ≡ slice_get xs b
set_other [] a b y h = refl
set_other (x ∷ xs) zero zero y h = absurd (h refl)
set_other (x ∷ xs) zero (suc b) y h = refl
set_other (x ∷ xs) (suc a) zero y h = refl
set_other (x ∷ xs) (suc a) (suc b) y h = set_other xs a b y (λ e. h (ap suc e))

module _ (a : ℕ) where
  -- the memory at this address is as it was
  abbrev pub IsSpared : Store → Store → Type 0
  IsSpared s t = slice_get t.memories a ≡ slice_get s.memories a

  abbrev EffectSpares : Store → Effect → Type 0
  EffectSpares s (Leaves t ls vs) = IsSpared s t
  EffectSpares s (Fails why) = Unit {0}
  EffectSpares s NoRule = Unit {0}

  abbrev pub MoveSpares : Store → Move → Type 0
  MoveSpares s (Goes costs t l) = IsSpared s t
  MoveSpares s (Calls address words l) = Unit {0}
  MoveSpares s (Ends words) = Unit {0}
  MoveSpares s (Traps why) = Unit {0}
  MoveSpares s Stuck = Unit {0}

  number_spares : (o : Option (Result (List ℕ) NumberTrap)) (s : Store) (ls : List ℕ) → EffectSpares s (by_number o s ls)
  number_spares None s ls = tt
  number_spares (Some (Ok vs)) s ls = refl
  number_spares (Some (Err why)) s ls = tt

  dropped_spares : (s : Store) (ls vs : List ℕ) → EffectSpares s (dropped s ls vs)
  dropped_spares s ls [] = tt
  dropped_spares s ls (x ∷ vs) = refl

  selected_spares : (s : Store) (ls vs : List ℕ) → EffectSpares s (selected s ls vs)
  selected_spares s ls [] = tt
  selected_spares s ls (zero ∷ []) = tt
  selected_spares s ls (suc n ∷ []) = tt
  selected_spares s ls (zero ∷ b ∷ []) = tt
  selected_spares s ls (suc n ∷ b ∷ []) = tt
  selected_spares s ls (zero ∷ b ∷ at ∷ vs) = refl
  selected_spares s ls (suc n ∷ b ∷ at ∷ vs) = refl

  local_get_spares : (o : Option ℕ) (s : Store) (ls vs : List ℕ) → EffectSpares s (local_get o s ls vs)
  local_get_spares None s ls vs = tt
  local_get_spares (Some value) s ls vs = refl

  local_set_spares : (index : ℕ) (s : Store) (ls vs : List ℕ) → EffectSpares s (local_set index s ls vs)
  local_set_spares index s ls [] = tt
  local_set_spares index s ls (x ∷ vs) = refl

  local_tee_spares : (index : ℕ) (s : Store) (ls vs : List ℕ) → EffectSpares s (local_tee index s ls vs)
  local_tee_spares index s ls [] = tt
  local_tee_spares index s ls (x ∷ vs) = refl

  global_get_spares : (o : Option (ℕ × Global)) (s : Store) (ls vs : List ℕ) → EffectSpares s (global_get o s ls vs)
  global_get_spares None s ls vs = tt
  global_get_spares (Some g) s ls vs = refl

  global_set_spares : (o : Option (ℕ × Global)) (s : Store) (ls vs : List ℕ) → EffectSpares s (global_set o s ls vs)
  global_set_spares None s ls vs = tt
  global_set_spares (Some g) s ls [] = tt
  global_set_spares (Some g) s ls (x ∷ vs) = refl

  by_load_spares : (o : Option ℕ) (s : Store) (ls vs : List ℕ) → EffectSpares s (by_load o s ls vs)
  by_load_spares None s ls vs = tt
  by_load_spares (Some value) s ls vs = refl

  bounds_spares : (inside : Bool) (m : ℕ × MemoryState) (bytes : List ℕ) (s : Store) (ls vs : List ℕ) → (m.0 ≡ a → ⊥) → EffectSpares s (by_bounds inside m bytes s ls vs)
  bounds_spares true m bytes s ls vs h = set_other s.memories m.0 a (with_bytes m.1 bytes) h
  bounds_spares false m bytes s ls vs h = tt

  growth_spares : (o : Option ℕ) (address : ℕ) (m : MemoryState) (s : Store) (ls vs : List ℕ) → (address ≡ a → ⊥) → EffectSpares s (by_growth o address m s ls vs)
  growth_spares None address m s ls vs h = refl
  growth_spares (Some pages) address m s ls vs h = set_other s.memories address a m h

  load_spares : (op : LoadOp) (offset : ℕ) (o : Option (ℕ × MemoryState)) (s : Store) (ls vs : List ℕ) → EffectSpares s (load op offset o s ls vs)
  load_spares op offset None s ls vs = tt
  load_spares op offset (Some m) s ls [] = tt
  load_spares op offset (Some m) s ls (x ∷ vs) = by_load_spares (option_map (as_word op) (loaded op (x + offset) m.1.bytes)) s ls vs

  store_spares : (op : StoreOp) (offset : ℕ) (o : Option (ℕ × MemoryState)) (s : Store) (ls vs : List ℕ) → ((m : ℕ × MemoryState) → o ≡ Some m → m.0 ≡ a → ⊥) → EffectSpares s (store op offset o s ls vs)
  store_spares op offset None s ls vs h = tt
  store_spares op offset (Some m) s ls [] h = tt
  store_spares op offset (Some m) s ls (b ∷ []) h = tt
  store_spares op offset (Some m) s ls (b ∷ at ∷ vs) h =
      bounds_spares (is_inside (at + offset) (length (stored_bytes op b)) m.1.bytes) m (put (at + offset) (stored_bytes op b) m.1.bytes) s ls vs
      (h m refl)

  size_spares : (o : Option (ℕ × MemoryState)) (s : Store) (ls vs : List ℕ) → EffectSpares s (memory_size o s ls vs)
  size_spares None s ls vs = tt
  size_spares (Some m) s ls vs = refl

  grow_spares : (o : Option (ℕ × MemoryState)) (s : Store) (ls vs : List ℕ) → ((m : ℕ × MemoryState) → o ≡ Some m → m.0 ≡ a → ⊥) → EffectSpares s (memory_grow o s ls vs)
  grow_spares None s ls vs h = tt
  grow_spares (Some m) s ls [] h = tt
  grow_spares (Some m) s ls (more ∷ vs) h = growth_spares (growth m.1 more) m.0 (grown m.1 more) s ls vs (h m refl)

  fill_spares : (o : Option (ℕ × MemoryState)) (s : Store) (ls vs : List ℕ) → ((m : ℕ × MemoryState) → o ≡ Some m → m.0 ≡ a → ⊥) → EffectSpares s (memory_fill o s ls vs)
  fill_spares None s ls vs h = tt
  fill_spares (Some m) s ls [] h = tt
  fill_spares (Some m) s ls (count ∷ []) h = tt
  fill_spares (Some m) s ls (count ∷ value ∷ []) h = tt
  fill_spares (Some m) s ls (count ∷ value ∷ at ∷ vs) h =
      bounds_spares (is_inside at count m.1.bytes) m (filled at (value % 256) count m.1.bytes) s ls vs (h m refl)

  copy_spares : (o : Option (ℕ × MemoryState)) (s : Store) (ls vs : List ℕ) → ((m : ℕ × MemoryState) → o ≡ Some m → m.0 ≡ a → ⊥) → EffectSpares s (memory_copy o s ls vs)
  copy_spares None s ls vs h = tt
  copy_spares (Some m) s ls [] h = tt
  copy_spares (Some m) s ls (count ∷ []) h = tt
  copy_spares (Some m) s ls (count ∷ from ∷ []) h = tt
  copy_spares (Some m) s ls (count ∷ from ∷ to ∷ vs) h =
      bounds_spares (is_inside to count m.1.bytes && is_inside from count m.1.bytes) m (copied to from count m.1.bytes) s ls vs (h m refl)

  -- the memory that an instruction finds is another one
  memory_none : (i : Instance) (s : Store) → (slice_get i.memories 0 ≡ Some a → ⊥) → (m : ℕ × MemoryState) → memory_at 0 i s ≡ Some m → m.0 ≡ a → ⊥
  memory_none i s h m e same = h ((found_there s.memories (slice_get i.memories 0) m e).0 ∙ ap (λ (n : ℕ). Some n) same)

  effect_spares : (p : Instr) (i : Instance) (s : Store) (ls vs : List ℕ) → (slice_get i.memories 0 ≡ Some a → ⊥) → EffectSpares s (effect p i s ls vs)
  effect_spares instr.Nop i s ls vs h = refl
  effect_spares instr.Drop i s ls vs h = dropped_spares s ls vs
  effect_spares instr.Select i s ls vs h = selected_spares s ls vs
  effect_spares (instr.SelectTyped types) i s ls vs h = selected_spares s ls vs
  effect_spares (instr.LocalGet index) i s ls vs h = local_get_spares (slice_get ls index) s ls vs
  effect_spares (instr.LocalSet index) i s ls vs h = local_set_spares index s ls vs
  effect_spares (instr.LocalTee index) i s ls vs h = local_tee_spares index s ls vs
  effect_spares (instr.GlobalGet index) i s ls vs h = global_get_spares (global_at index i s) s ls vs
  effect_spares (instr.GlobalSet index) i s ls vs h = global_set_spares (global_at index i s) s ls vs
  effect_spares (instr.Load op arg) i s ls vs h = load_spares op arg.offset (memory_at 0 i s) s ls vs
  effect_spares (instr.Store op arg) i s ls vs h = store_spares op arg.offset (memory_at 0 i s) s ls vs (λ m e same. memory_none i s h m e same)
  effect_spares instr.MemorySize i s ls vs h = size_spares (memory_at 0 i s) s ls vs
  effect_spares instr.MemoryGrow i s ls vs h = grow_spares (memory_at 0 i s) s ls vs (λ m e same. memory_none i s h m e same)
  effect_spares instr.MemoryCopy i s ls vs h = copy_spares (memory_at 0 i s) s ls vs (λ m e same. memory_none i s h m e same)
  effect_spares instr.MemoryFill i s ls vs h = fill_spares (memory_at 0 i s) s ls vs (λ m e same. memory_none i s h m e same)
  effect_spares (instr.I32Const value) i s ls vs h = refl
  effect_spares (instr.I64Const value) i s ls vs h = refl
  effect_spares (instr.Numeric op) i s ls vs h = number_spares (applied op vs) s ls
  effect_spares control i s ls vs h = tt

  -- moves

  leaving_spares : (e : Effect) (s : Store) (f : Frame) (fs : List Frame) → EffectSpares s e → MoveSpares s (by_effect e f fs)
  leaving_spares (Leaves t ls vs) s f fs h = h
  leaving_spares (Fails why) s f fs h = tt
  leaving_spares NoRule s f fs h = tt

  branch_spares : (o : Option Label) (depth : ℕ) (vs : List ℕ) (s : Store) (f : Frame) (fs : List Frame) → MoveSpares s (branched_to o depth vs s f fs)
  branch_spares None depth vs s f fs = tt
  branch_spares (Some l) depth vs s f fs = refl

  if_spares : (depth : ℕ) (vs : List ℕ) (s : Store) (f : Frame) (fs : List Frame) → MoveSpares s (branched_if depth vs s f fs)
  if_spares depth [] s f fs = tt
  if_spares depth (zero ∷ vs) s f fs = refl
  if_spares depth (suc n ∷ vs) s f fs = branch_spares (slice_get f.labels depth) depth vs s f fs

  by_spares : (others : List ℕ) (last : ℕ) (vs : List ℕ) (s : Store) (f : Frame) (fs : List Frame) → MoveSpares s (branched_by others last vs s f fs)
  by_spares others last [] s f fs = tt
  by_spares others last (n ∷ vs) s f fs = branch_spares (slice_get f.labels (table_label (slice_get others n) last)) (table_label (slice_get others n) last) vs s f fs

  invoked_spares : (address : ℕ) (function : Function) (vs : List ℕ) (s : Store) (f : Frame) (fs : List Frame) → MoveSpares s (invoked address function vs s f fs)
  invoked_spares address (Own type instance locals body) vs s f fs =
      if_both (MoveSpares s) (nat_le frame_limit (suc (length fs))) _ _ (λ t. tt) (λ t. refl)
  invoked_spares address (Host type) vs s f fs = tt

  called_spares : (o : Option (ℕ × Function)) (vs : List ℕ) (s : Store) (f : Frame) (fs : List Frame) → MoveSpares s (called o vs s f fs)
  called_spares None vs s f fs = tt
  called_spares (Some p) vs s f fs = invoked_spares p.0 p.1 vs s f fs

  as_spares : (type : FuncType) (o : Option (ℕ × Function)) (vs : List ℕ) (s : Store) (f : Frame) (fs : List Frame) → MoveSpares s (called_as type o vs s f fs)
  as_spares type None vs s f fs = tt
  as_spares type (Some p) vs s f fs = if_both (MoveSpares s) (same_signature type (type_of p.1)) _ _ (λ t. invoked_spares p.0 p.1 vs s f fs) (λ t. tt)

  entry_spares : (type : FuncType) (o : Option (Option ℕ)) (vs : List ℕ) (s : Store) (f : Frame) (fs : List Frame) → MoveSpares s (called_entry type o vs s f fs)
  entry_spares type None vs s f fs = tt
  entry_spares type (Some None) vs s f fs = tt
  entry_spares type (Some (Some address)) vs s f fs = as_spares type (found_at s.funcs (Some address)) vs s f fs

  through_spares : (o : Option FuncType) (t : Option (ℕ × Table)) (vs : List ℕ) (s : Store) (f : Frame) (fs : List Frame) → MoveSpares s (called_through o t vs s f fs)
  through_spares None t vs s f fs = tt
  through_spares (Some type) None vs s f fs = tt
  through_spares (Some type) (Some t) [] s f fs = tt
  through_spares (Some type) (Some t) (n ∷ vs) s f fs = entry_spares type (slice_get t.1.entries n) vs s f fs

  instr_spares : (p : Instr) (i : Instance) (s : Store) (f : Frame) (fs : List Frame) → (slice_get i.memories 0 ≡ Some a → ⊥) → MoveSpares s (moved p i s f fs)
  instr_spares instr.Unreachable i s f fs h = tt
  instr_spares (instr.Br depth) i s f fs h = branch_spares (slice_get f.labels depth) depth f.values s f fs
  instr_spares (instr.BrIf depth) i s f fs h = if_spares depth f.values s f fs
  instr_spares (instr.BrTable others last) i s f fs h = by_spares others last f.values s f fs
  instr_spares instr.Return i s f fs h = refl
  instr_spares (instr.Call index) i s f fs h = called_spares (func_at index i s) f.values s f fs
  instr_spares (instr.CallIndirect index table) i s f fs h = through_spares (slice_get i.types index) (table_at table i s) f.values s f fs
  instr_spares other i s f fs h = leaving_spares (effect other i s f.locals f.values) s f fs (effect_spares other i s f.locals f.values h)

  chosen_spares : (t : BlockType) (first second after : Expr) (vs : List ℕ) (i : Instance) (s : Store) (f : Frame) (fs : List Frame) → MoveSpares s (chosen t first second after vs i s f fs)
  chosen_spares t first second after [] i s f fs = tt
  chosen_spares t first second after (zero ∷ vs) i s f fs = refl
  chosen_spares t first second after (suc n ∷ vs) i s f fs = refl

  ended_spares : (ls : List Label) (s : Store) (f : Frame) (fs : List Frame) → MoveSpares s (ended ls s f fs)
  ended_spares [] s f [] = tt
  ended_spares [] s f (g ∷ fs) = refl
  ended_spares (l ∷ ls) s f fs = refl

  rest_spares : (e : Expr) (i : Instance) (s : Store) (f : Frame) (fs : List Frame) → (slice_get i.memories 0 ≡ Some a → ⊥) → MoveSpares s (move_at e i s f fs)
  rest_spares End i s f fs h = ended_spares f.labels s f fs
  rest_spares (Plain p e) i s f fs h = instr_spares p i s (record f { rest = e }) fs h
  rest_spares (Block t b e) i s f fs h = refl
  rest_spares (Loop t b e) i s f fs h = refl
  rest_spares (If t a e) i s f fs h = chosen_spares t a End e f.values i s f fs
  rest_spares (IfElse t a b e) i s f fs h = chosen_spares t a b e f.values i s f fs

  in_spares : (o : Option Instance) (s : Store) (f : Frame) (fs : List Frame) → ((i : Instance) → o ≡ Some i → slice_get i.memories 0 ≡ Some a → ⊥) → MoveSpares s (move_in o s f fs)
  in_spares None s f fs h = tt
  in_spares (Some i) s f fs h = rest_spares f.rest i s f fs (h i refl)

  -- the instance whose code a stack runs has it at no index
  abbrev pub HasNot : Store → Stack → Type 0
  HasNot s (Running f fs) = (i : Instance) → slice_get s.instances f.instance ≡ Some i → slice_get i.memories 0 ≡ Some a → ⊥
  HasNot s (AtHost address words) = Unit {0}
  HasNot s (Given words) = Unit {0}

  pub next_spares : (s : Store) (k : Stack) → HasNot s k → MoveSpares s (next s k)
  next_spares s (Running f fs) h = in_spares (slice_get s.instances f.instance) s f fs h
  next_spares s (AtHost address words) h = tt
  next_spares s (Given words) h = tt
