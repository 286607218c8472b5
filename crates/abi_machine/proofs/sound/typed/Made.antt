-- Core instances that were made stay so, and one more is made.
use Rattle.std.proofs.Common.{◌≡◌, inl, inr, ◌+◌, ℕ, zero, suc, List, [], ◌∷◌, ◌++◌, drop, length, map, refl, sym, ap, ◌∙◌, subst, arith, append_assoc, length-append, Some}
use Rattle.std.specs.List.{slice_get}
use Rattle.syntax_trees.specs.declared.module.DataSegment.{DataSegment}
use Rattle.syntax_trees.specs.declared.module.ElementSegment.{ElementSegment}
use Rattle.syntax_trees.specs.declared.module.Func.{Func}
use Rattle.syntax_trees.specs.declared.module.ModuleTree.{ModuleTree}
use Rattle.syntax_trees.specs.declared.module_types.FuncType.{FuncType}
use Rattle.wasm_typing.specs.Modules.{Typed, ElementTyped}
use Rattle.wasm_store.specs.Store.{Function, Host as HostFunction, Instance, Store, table_at, memory_at}
use Rattle.wasm_store.specs.Instantiation.{External, new_func, allocated, element_written, data_written, init_value, Makes as IsMade, all_written, instance_of, instantiated, ImportsMatch, InRange}
use Rattle.wasm_store.specs.Typed.{StoreTyped, Extends}
use Rattle.wasm_store.proofs.AddedModules.{Behind, allocated_typed, into_table_typed, into_memory_typed, entries_typed}
use Rattle.wasm_store.proofs.Stores.{store_same, further, still}
use Rattle.wasm_store.proofs.Zips.{get_behind, all_true}
use Rattle.comp_graph.specs.Graph.{CoreMake, Graph, canon_type}
use Rattle.abi_machine.specs.sound.Owners.{Makes, HasCanons}
use Rattle.abi_machine.specs.sound.TypedStacks.{HostsAreCanons}
use Rattle.abi_machine.specs.sound.MadeInstances.{IsMadeOf, WereMade, WereMadeSoFar}
use Rattle.abi_machine.proofs.sound.own.Lists.{get_front, get_last, LeavesWith, written_leaves}
use Rattle.abi_machine.proofs.sound.typed.Limits.{made_of, made_later}

pub made_still : (s t : Store) (cores : List CoreMake) → Extends s t → t.instances ≡ s.instances → WereMade s cores → WereMade t cores
made_still s t cores x e h = record {
  count = ap length e ∙ h.count;
  each = λ n c k. (let i = h.each n c k in (i.0, still s.instances t.instances n i.0 x.instances i.1, made_later c.of_module s t i.0 x i.2));
}

pub so_far_later : (g : Graph) (s t : Store) (n : ℕ) → Extends s t → t.instances ≡ s.instances → WereMadeSoFar g s n → WereMadeSoFar g t n
so_far_later g s t n x e h = record { before = h.before; after = h.after; cores_are = h.cores_are; made = made_still s t h.before x e h.made; left = h.left }

pub none_made : (s : Store) → s.instances ≡ [] → WereMade s []
none_made s e = record { count = ap length e; each = λ n c h. cc }

-- One more is made: its segments leave the functions and the instances as its parts have left them.
pub made_more : (s t : Store) (c : CoreMake) (imports : List External) (before : List CoreMake) → Typed c.of_module → ImportsMatch s c.of_module imports → WereMade s before
    → Extends s t → Extends (allocated c.of_module imports s) t → t.instances ≡ (allocated c.of_module imports s).instances → WereMade t (before ++ c ∷ [])
made_more s t c imports before typed match h x y same =
    let i : Instance = instance_of c.of_module imports s in
    let mid : Store = allocated c.of_module imports s in
    let there : slice_get t.instances (length s.instances) ≡ Some i = ap (λ (is : List Instance). slice_get is (length s.instances)) same ∙ get_behind s.instances i [] in
    let own : IsMadeOf c.of_module t i = made_later c.of_module mid t i y (made_of s c.of_module imports typed match) in
    record {
      count = ap length same ∙ (length-append s.instances (i ∷ []) ∙ (ap (λ (n : ℕ). n + 1) h.count ∙ sym (length-append before (c ∷ []))));
      each = λ n k found. elim (get_last before c n k found) [
        | inl old ↦ (let j = h.each n k old in (j.0, still s.instances t.instances n j.0 x.instances j.1, made_later k.of_module s t j.0 x j.2))
        | inr new ↦ (i, subst (λ (n : ℕ). slice_get t.instances n ≡ Some i) (h.count ∙ sym new.0) there, subst (λ (k : CoreMake). IsMadeOf k.of_module t i) new.1 own)
      ];
    }

pub one_more : (g : Graph) (s t : Store) (n : ℕ) (c : CoreMake) (cores : List CoreMake) (so : WereMadeSoFar g s n) → so.after ≡ c ∷ cores → WereMade t (so.before ++ c ∷ [])
    → Makes (suc (length so.before)) (drop (n + 1) g.plan) cores → WereMadeSoFar g t (n + 1)
one_more g s t n c cores so e made left =
    let count : length (so.before ++ c ∷ []) ≡ length so.before + 1 = length-append so.before (c ∷ []) in
    let next : suc (length so.before) ≡ length (so.before ++ c ∷ []) = omega (arith, count) in
    record {
      before = so.before ++ c ∷ [];
      after = cores;
      cores_are = so.cores_are ∙ (ap (λ (cs : List CoreMake). so.before ++ cs) e ∙ sym (append_assoc so.before (c ∷ []) cores));
      made = made;
      left = subst (λ (number : ℕ). Makes number (drop (n + 1) g.plan) cores) next left;
    }

-- Segments leave a store that extends the one with its parts.
pub leaves_behind : (s : Store) (m : ModuleTree) (imports : List External) → StoreTyped s → Typed m → InRange m → ImportsMatch s m imports → LeavesWith (Behind (allocated m imports s)) (instantiated m imports s)
leaves_behind s m imports st typed range match =
    let t : Store = allocated m imports s in
    let i : Instance = instance_of m imports s in
    let begin : Behind t t = (store_same t, allocated_typed s m imports st typed range match) in
    let bytes : (u v : Store) (d : DataSegment) → Unit {0} → Behind t u → data_written i u d ≡ Some v → Behind t v =
    λ u v d any h e.
    (let k : Behind u v = into_memory_typed u v (init_value u i.globals d.offset) d.bytes (memory_at d.memory i u) (slice_get i.memories d.memory) h.1 refl e in (further t u v h.0 k.0, k.1)) in
    let element : (u v : Store) (d : ElementSegment) → ElementTyped m d → Behind t u → element_written i u d ≡ Some v → Behind t v =
    λ u v d own h e.
    (let k : Behind u v = into_table_typed u v (init_value u i.globals d.offset) (map (λ index. slice_get i.funcs index) d.funcs) (table_at d.table i u) (slice_get i.tables d.table) h.1 refl
    (entries_typed s m imports u typed match h.0 d.funcs own.2) e in (further t u v h.0 k.0, k.1)) in
    written_leaves (Behind t) (ElementTyped m) (element_written i) element (λ u. all_written (data_written i) m.data_segments u IsMade)
    (λ u h. written_leaves (Behind t) (λ (d : DataSegment). Unit {0}) (data_written i) bytes IsMade (λ v k. k) m.data_segments (all_true m.data_segments) u h) m.element_segments typed.element_segments t begin

-- Its functions are its own.

no_host : (m : ModuleTree) (instance : ℕ) (fs : List Func) (n : ℕ) (type : FuncType) → slice_get (map (new_func m instance) fs) n ≡ Some (HostFunction type) → ⊥
no_host m instance [] n type e = cc
no_host m instance (f ∷ fs) zero type e = cc
no_host m instance (f ∷ fs) (suc n) type e = no_host m instance fs n type e

host_before : (m : ModuleTree) (instance : ℕ) (old : List Function) (fs : List Func) (n : ℕ) (type : FuncType) → slice_get (old ++ map (new_func m instance) fs) n ≡ Some (HostFunction type)
    → slice_get old n ≡ Some (HostFunction type)
host_before m instance [] fs n type e = absurd (no_host m instance fs n type e)
host_before m instance (x ∷ old) fs zero type e = e
host_before m instance (x ∷ old) fs (suc n) type e = host_before m instance old fs n type e

pub hosts_more : (g : Graph) (s t : Store) (m : ModuleTree) (imports : List External) → t.funcs ≡ (allocated m imports s).funcs → HostsAreCanons g s → HostsAreCanons g t
hosts_more g s t m imports same h address type there =
    h address type (host_before m (length s.instances) s.funcs m.funcs address type (ap (λ (fs : List Function). slice_get fs address) (sym same) ∙ there))

pub canons_more : (g : Graph) (s t : Store) (m : ModuleTree) (imports : List External) → t.funcs ≡ (allocated m imports s).funcs → HasCanons g s → HasCanons g t
canons_more g s t m imports same h number c there =
    ap (λ (fs : List Function). slice_get fs number) same
    ∙ get_front s.funcs (map (new_func m (length s.instances)) m.funcs) number (HostFunction (canon_type c)) (h number c there)
