-- What the instantiation of a module leaves of a store: its functions and instances, and memories of bytes.
use Rattle.std.proofs.Common.{◌≡◌, ◌+◌, ℕ, Bool, true, false, if◌then◌else◌, nat_le, List, [], ◌∷◌, length, map, refl, ◌∙◌, subst, Option, Some, None, ◌*◌}
use Rattle.std.specs.List.{slice_get, AllByRecursion}
use Rattle.std.specs.Option.{option_map}
use Rattle.syntax_trees.specs.declared.module.ElementSegment.{ElementSegment}
use Rattle.syntax_trees.specs.declared.module.DataSegment.{DataSegment}
use Rattle.syntax_trees.specs.declared.module.ModuleTree.{ModuleTree}
use Rattle.syntax_trees.specs.declared.module_types.Limits.{Limits}
use Rattle.wasm_typing.specs.Modules.{Typed, ElementTyped}
use Rattle.wasm_memory.specs.Bytes.{is_inside, put}
use Rattle.wasm_memory.specs.Memories.{MemoryState, with_bytes}
use Rattle.wasm_store.specs.Effects.{with_memory}
use Rattle.wasm_store.specs.Store.{Table, Instance, Store, found_at, table_at, memory_at}
use Rattle.wasm_store.specs.Instantiation.{External, new_memory, allocated, into_table, into_memory, element_written, data_written, init_value, Instantiation, Makes, SegmentBounds, written_then, all_written, instance_of, instantiated, ImportsMatch, InRange}
use Rattle.wasm_store.specs.Typed.{StoreTyped}
use Rattle.wasm_store.proofs.Lists.{all_at, all_set, all_append}
use Rattle.wasm_store.proofs.Stores.{store_same, further}
use Rattle.wasm_store.proofs.AddedModules.{Behind, allocated_typed, into_table_typed, into_memory_typed, entries_typed}
use Rattle.lowering_laws.specs.Values.{AreBytes}
use Rattle.lowering_laws.specs.StoreBytes.{HasBytes, HasBytesAlone}
use Rattle.lowering_laws.proofs.Bytes.{put_bytes, zeros_are_bytes}

-- what holds of the store that is left
abbrev pub LeavesWith : (Store → Type 0) → Instantiation → Type 0
LeavesWith P (Makes t) = P t
LeavesWith P (SegmentBounds t) = P t

pub leaves_map : (P Q : Store → Type 0) → ((t : Store) → P t → Q t) → (r : Instantiation) → LeavesWith P r → LeavesWith Q r
leaves_map P Q f (Makes t) h = f t h
leaves_map P Q f (SegmentBounds t) h = f t h

-- It holds where it holds before the segments, and each segment that is written keeps it.
pub written_leaves : {A : Type 0} (P : Store → Type 0) (Q : A → Type 0) (f : Store → A → Option Store) → ((u v : Store) (x : A) → Q x → P u → f u x ≡ Some v → P v) → (more : Store → Instantiation) → ((u : Store) → P u → LeavesWith P (more u)) → (xs : List A) → AllByRecursion Q xs → (u : Store) → P u → LeavesWith P (all_written f xs u more)
written_leaves P Q f step more last [] q u h = last u h
written_leaves P Q f step more last (x ∷ xs) q u h = by (f u x) refl (λ v k. written_leaves P Q f step more last xs q.1 v k)
  where
    by : (o : Option Store) → f u x ≡ o → ((v : Store) → P v → LeavesWith P (all_written f xs v more)) → LeavesWith P (written_then o u (λ t. all_written f xs t more))
    by None e others = h
    by (Some v) e others = others v (step u v x q.0 h e)

-- Segments leave the functions and the instances as they are, and memories of bytes where what is written is bytes.
pub record IsWritten (u v : Store) : Type 0 where
  pub funcs : v.funcs ≡ u.funcs
  pub instances : v.instances ≡ u.instances
  pub bytes : HasBytesAlone u → HasBytesAlone v

some_same : {A : Type 0} (x y : A) → Some x ≡ Some y → x ≡ y
some_same x y h = cc

pub table_keeps : (at : ℕ) (entries : List (Option ℕ)) (o : Option (ℕ × Table)) (u v : Store) → into_table at entries o u ≡ Some v → IsWritten u v
table_keeps at entries None u v h = cc
table_keeps at entries (Some t) u v h =
    by (nat_le (at + length entries) (length t.1.entries)) _ h (record { funcs = refl; instances = refl; bytes = λ all. all })
  where
    by : (b : Bool) (w : Store) → (if b then Some w else None) ≡ Some v → IsWritten u w → IsWritten u v
    by true w h k = subst (IsWritten u) (some_same w v h) k
    by false w h k = cc

pub bytes_keep : (at : ℕ) (bytes : List ℕ) (index : Option ℕ) (u v : Store) → AreBytes bytes → into_memory at bytes (found_at u.memories index) u ≡ Some v → IsWritten u v
bytes_keep at bytes None u v all h = cc
bytes_keep at bytes (Some address) u v all h = of (slice_get u.memories address) refl h
  where
    by : (m : MemoryState) (b : Bool) → slice_get u.memories address ≡ Some m
        → (if b then Some (with_memory address (with_bytes m (put at bytes m.bytes)) u) else None) ≡ Some v → IsWritten u v
    by m true e h =
        subst (IsWritten u) (some_same (with_memory address (with_bytes m (put at bytes m.bytes)) u) v h)
        (record {
          funcs = refl;
          instances = refl;
          bytes = λ old.
              all_set (λ (memory : MemoryState). AreBytes memory.bytes) u.memories address (with_bytes m (put at bytes m.bytes)) old
              (put_bytes at bytes m.bytes all (all_at (λ (memory : MemoryState). AreBytes memory.bytes) u.memories address m old e));
        })
    by m false e h = cc

    of : (o : Option MemoryState) → slice_get u.memories address ≡ o → into_memory at bytes (option_map (λ x. (address, x)) o) u ≡ Some v → IsWritten u v
    of None e h = cc
    of (Some m) e h = by m (is_inside at (length bytes) m.bytes) e h

-- a store behind the one with the module's parts, with its functions and instances, and with memories of bytes
pub record IsLeft (t u : Store) : Type 0 where
  pub behind : Behind t u
  pub funcs : u.funcs ≡ t.funcs
  pub instances : u.instances ≡ t.instances
  pub bytes : HasBytesAlone u

pub left_further : (t u v : Store) → IsLeft t u → Behind u v → IsWritten u v → IsLeft t v
left_further t u v h k e = record {
  behind = (further t u v h.behind.0 k.0, k.1);
  funcs = e.funcs ∙ h.funcs;
  instances = e.instances ∙ h.instances;
  bytes = e.bytes h.bytes;
}

new_bytes : (limits : List Limits) → AllByRecursion (λ (memory : MemoryState). AreBytes memory.bytes) (map new_memory limits)
new_bytes [] = tt
new_bytes (l ∷ limits) = (zeros_are_bytes (l.min * 65536), new_bytes limits)

pub leaves_behind : (s : Store) (m : ModuleTree) (imports : List External) → StoreTyped s → HasBytesAlone s → Typed m → InRange m → HasBytes m → ImportsMatch s m imports
    → LeavesWith (IsLeft (allocated m imports s)) (instantiated m imports s)
leaves_behind s m imports st all typed range segments match =
    let t : Store = allocated m imports s in
    let i : Instance = instance_of m imports s in
    let begin : IsLeft t t = record {
      behind = (store_same t, allocated_typed s m imports st typed range match);
      funcs = refl;
      instances = refl;
      bytes = all_append (λ (memory : MemoryState). AreBytes memory.bytes) s.memories (map new_memory m.memories) all (new_bytes m.memories);
    } in
    let bytes : (u v : Store) (d : DataSegment) → AreBytes d.bytes → IsLeft t u → data_written i u d ≡ Some v → IsLeft t v =
    λ u v d own h e. left_further t u v h
    (into_memory_typed u v (init_value u i.globals d.offset) d.bytes (memory_at d.memory i u) (slice_get i.memories d.memory) h.behind.1 refl e)
    (bytes_keep (init_value u i.globals d.offset) d.bytes (slice_get i.memories d.memory) u v own e) in
    let element : (u v : Store) (d : ElementSegment) → ElementTyped m d → IsLeft t u → element_written i u d ≡ Some v → IsLeft t v =
    λ u v d own h e. left_further t u v h
    (into_table_typed u v (init_value u i.globals d.offset) (map (λ index. slice_get i.funcs index) d.funcs) (table_at d.table i u) (slice_get i.tables d.table) h.behind.1 refl
    (entries_typed s m imports u typed match h.behind.0 d.funcs own.2) e)
    (table_keeps (init_value u i.globals d.offset) (map (λ index. slice_get i.funcs index) d.funcs) (table_at d.table i u) u v e) in
    written_leaves (IsLeft t) (ElementTyped m) (element_written i) element (λ u. all_written (data_written i) m.data_segments u Makes)
    (λ u h. written_leaves (IsLeft t) (λ (d : DataSegment). AreBytes d.bytes) (data_written i) bytes Makes (λ v k. k) m.data_segments segments u h) m.element_segments typed.element_segments t begin
