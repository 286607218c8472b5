-- A core instance that is made: where it stands, its start function, and what its imports are, on both sides.
use Rattle.std.proofs.Common.{◌≡◌, ◌≤◌, ℕ, ◌+◌, Bool, true, false, nat_le, if◌then◌else◌, List, [], ◌∷◌, ◌++◌, map, length, refl, sym, ap, ◌∙◌, subst, Option, Some, None}
use Rattle.std.specs.List.{slice_get}
use Rattle.std.specs.Option.{option_map, option_and_then}
use Rattle.wasm_memory.specs.Bytes.{is_inside}
use Rattle.wasm_memory.specs.Memories.{MemoryState}
use Rattle.wasm_store.specs.Store.{Function, Table, Instance, Store, found_at, table_at, memory_at}
use Rattle.wasm_store.specs.Stack.{Stack}
use Rattle.wasm_store.specs.Step.{start}
use Rattle.wasm_store.specs.Instantiation.{External, FuncAddress, Instantiation, Makes, SegmentBounds, instance_of, allocated, init_value, into_table, into_memory, element_written, data_written, written_then, all_written, instantiated, start_call}
use Rattle.wasm_store.proofs.Zips.{get_behind}
use Rattle.comp_graph.specs.declared.graph.CoreExtern.{CoreExtern}
use Rattle.comp_graph.specs.declared.graph.CoreExtern.TheVariants as extern
use Rattle.comp_graph.specs.Graph.{CoreMake}
use Rattle.world_stacks.specs.Addresses as kept
use Rattle.world_stacks.specs.Instantiating.{start_of}
use Rattle.abi_machine.specs.Canons as machine
use Rattle.abi_machine.proofs.sound.Found.{some_same}
use Rattle.standing.proofs.PostReturns.{address_same}

-- Segments leave the instances of a store as they are.
abbrev HasInstances : List Instance → Instantiation → Type 0
HasInstances all (Makes t) = t.instances ≡ all
HasInstances all (SegmentBounds t) = t.instances ≡ all

all_keep : {A : Type 0} (all : List Instance) (f : Store → A → Option Store) (more : Store → Instantiation)
    → ((u v : Store) (x : A) → f u x ≡ Some v → v.instances ≡ u.instances) → ((u : Store) → u.instances ≡ all → HasInstances all (more u))
    → (xs : List A) (u : Store) → u.instances ≡ all → HasInstances all (all_written f xs u more)
all_keep all f more keeps last [] u e = last u e
all_keep all f more keeps last (x ∷ xs) u e = by (f u x) refl (λ v same. all_keep all f more keeps last xs v same)
  where
    by : (o : Option Store) → f u x ≡ o → ((v : Store) → v.instances ≡ all → HasInstances all (all_written f xs v more)) → HasInstances all (written_then o u (λ t. all_written f xs t more))
    by None is rest = e
    by (Some v) is rest = rest v (keeps u v x is ∙ e)

table_keeps : (at : ℕ) (entries : List (Option ℕ)) (o : Option (ℕ × Table)) (u v : Store) → into_table at entries o u ≡ Some v → v.instances ≡ u.instances
table_keeps at entries None u v h = absurd (cc)
table_keeps at entries (Some t) u v h = by (nat_le (at + length entries) (length t.1.entries)) _ refl h
  where
    by : (b : Bool) (w : Store) → w.instances ≡ u.instances → (if b then Some w else None) ≡ Some v → v.instances ≡ u.instances
    by true w same e = ap (λ (x : Store). x.instances) (sym (some_same e)) ∙ same
    by false w same e = absurd (cc)

memory_keeps : (at : ℕ) (bytes : List ℕ) (o : Option (ℕ × MemoryState)) (u v : Store) → into_memory at bytes o u ≡ Some v → v.instances ≡ u.instances
memory_keeps at bytes None u v h = absurd (cc)
memory_keeps at bytes (Some m) u v h = by (is_inside at (length bytes) m.1.bytes) _ refl h
  where
    by : (b : Bool) (w : Store) → w.instances ≡ u.instances → (if b then Some w else None) ≡ Some v → v.instances ≡ u.instances
    by true w same e = ap (λ (x : Store). x.instances) (sym (some_same e)) ∙ same
    by false w same e = absurd (cc)

made_behind : (c : CoreMake) (imports : List External) (s : Store) → HasInstances (s.instances ++ instance_of c.of_module imports s ∷ []) (instantiated c.of_module imports s)
made_behind c imports s =
    let i : Instance = instance_of c.of_module imports s in
    let all : List Instance = s.instances ++ i ∷ [] in
    all_keep all (element_written i) (λ t. all_written (data_written i) c.of_module.data_segments t Makes) (λ u v x e. table_keeps (init_value u i.globals x.offset) (map (λ index. slice_get i.funcs index) x.funcs) (table_at x.table i u) u v e)
    (λ u e. all_keep all (data_written i) Makes (λ u v x e. memory_keeps (init_value u i.globals x.offset) x.bytes (memory_at x.memory i u) u v e) (λ t e. e) c.of_module.data_segments u e)
    c.of_module.element_segments (allocated c.of_module imports s) refl

-- It stands last.
pub instance_made : (c : CoreMake) (imports : List External) (s t : Store) → instantiated c.of_module imports s ≡ Makes t
    → slice_get t.instances (length s.instances) ≡ Some (instance_of c.of_module imports s)
instance_made c imports s t e =
    let same : t.instances ≡ s.instances ++ instance_of c.of_module imports s ∷ [] =
    subst (HasInstances (s.instances ++ instance_of c.of_module imports s ∷ [])) e (made_behind c imports s) in
    ap (λ (xs : List Instance). slice_get xs (length s.instances)) same ∙ get_behind s.instances (instance_of c.of_module imports s) []

-- Its start function, by its address.
abbrev pub call_at : Store → Option ℕ → Option Stack
call_at s o = option_map (λ (p : ℕ × Function). start p.1 p.0 []) (found_at s.funcs o)

start_by : (i : Instance) (s : Store) (o : Option ℕ)
    → option_map (λ (p : ℕ × Function). start p.1 p.0 []) (option_and_then (λ index. found_at s.funcs (slice_get i.funcs index)) o)
    ≡ call_at s (option_and_then (λ index. slice_get i.funcs index) o)
start_by i s None = refl
start_by i s (Some index) = refl

pub start_is : (c : CoreMake) (i : Instance) (s : Store) → start_call c.of_module i s ≡ call_at s (start_of c.of_module i)
start_is c i s = start_by i s c.of_module.start

-- Imports.
external_same : (s : Store) (e : CoreExtern) → kept.external_of s e ≡ machine.external_of s e
external_same s (extern.Func f) = ap (λ (o : Option ℕ). option_map FuncAddress o) (address_same s f)
external_same s (extern.Table t) = refl
external_same s (extern.Memory m) = refl
external_same s (extern.Global g) = refl

pub externals_same : (s : Store) (imports : List CoreExtern) → kept.externals s imports ≡ machine.externals s imports
externals_same s [] = refl
externals_same s (e ∷ others) =
    ap (λ (o : Option External). option_and_then (λ (first : External). option_map (λ (more : List External). first ∷ more) (kept.externals s others)) o) (external_same s e)
    ∙ ap (λ (o : Option (List External)). option_and_then (λ (first : External). option_map (λ (more : List External). first ∷ more) o) (machine.external_of s e)) (externals_same s others)
