-- Instances of modules: the parts of a module and then its segments.
use Rattle.std.proofs.Common.{◌≡◌, ℕ, List, [], ◌∷◌, length, map, ap, sym, ◌∙◌, subst, Result, Ok, Err, Option, Some}
use Rattle.std.specs.List.{slice_get, AllByRecursion}
use Rattle.syntax_trees.specs.declared.module.ElementSegment.{ElementSegment}
use Rattle.syntax_trees.specs.declared.module.ModuleTree.{ModuleTree}
use Rattle.wasm_typing.specs.Modules.{Typed, ElementTyped}
use Rattle.wasm_store.specs.Store.{Instance, Store}
use Rattle.wasm_store.specs.Instantiation.{External as Address, ImportsMatch, SegmentBounds, Makes, instance_of, allocated, element_written, data_written, all_written, instantiated}
use Rattle.wasm_store.specs.Typed.{EntryTyped}
use Rattle.wasm_store.proofs.AddedModules.{entries_typed}
use Rattle.wasm_store.proofs.Lists.{all_map}
use Rattle.wasm_store.proofs.Stores.{store_same}
use Rattle.wasm_store.proofs.Zips.{get_behind}
use Rattle.wasm_store.specs.declared.adding.AddFault.{AddFault}
use Rattle.wasm_store.specs.declared.adding.AddFault.TheVariants as fault
use Rattle.wasm_store.specs.Parts.{ElementsFit, Written, IsBounds}

unmapped : {X Y : Type 0} (Q : Y → Type 0) (g : X → Y) (xs : List X) → AllByRecursion Q (map g xs) → AllByRecursion (λ x. Q (g x)) xs
unmapped Q g [] h = tt
unmapped Q g (x ∷ xs) h = (h.0, unmapped Q g xs h.1)

-- the new instance
owner_new : (m : ModuleTree) (imports : List Address) (s t : Store) (address : ℕ) → t ≡ allocated m imports s → address ≡ length s.instances → slice_get t.instances address ≡ Some (instance_of m imports s)
owner_new m imports s t address e f =
    ap (λ (u : Store). slice_get u.instances address) e ∙ ap (λ (a : ℕ). slice_get (allocated m imports s).instances a) f ∙ get_behind s.instances (instance_of m imports s) []

-- The entries of a module's segments are functions of the store that has its parts.
pub elements_fit : (m : ModuleTree) (imports : List Address) (s t : Store) (address : ℕ) (i : Instance) → Typed m → ImportsMatch s m imports → t ≡ allocated m imports s → address ≡ length s.instances → slice_get t.instances address ≡ Some i → ElementsFit t i m.element_segments
elements_fit m imports s t address i typed match e f there =
    let both : (let o : Option Instance = Some (instance_of m imports s) in o) ≡ Some i = sym (owner_new m imports s t address e f) ∙ there in
    let same : instance_of m imports s ≡ i = cc in
    let own : ElementsFit (allocated m imports s) (instance_of m imports s) m.element_segments =
    all_map (ElementTyped m) (λ (segment : ElementSegment). AllByRecursion (λ (index : ℕ). EntryTyped (allocated m imports s) (slice_get (instance_of m imports s).funcs index)) segment.funcs)
    (λ segment k. unmapped (EntryTyped (allocated m imports s)) (λ (index : ℕ). slice_get (instance_of m imports s).funcs index) segment.funcs
    (entries_typed s m imports (allocated m imports s) typed match (store_same (allocated m imports s)) segment.funcs k.2)) m.element_segments typed.element_segments in
    subst (λ (i : Instance). ElementsFit t i m.element_segments) same (subst (λ (u : Store). ElementsFit u (instance_of m imports s) m.element_segments) (sym e) own)

-- Segments of functions that don't all fit end it.
pub elements_stop : (m : ModuleTree) (imports : List Address) (s t u : Store) (address : ℕ) (r : Result (Unit {0}) AddFault) (why : AddFault) → t ≡ allocated m imports s → address ≡ length s.instances → r ≡ Err why → ((i : Instance) → slice_get t.instances address ≡ Some i → Written {E = AddFault} (element_written i) m.element_segments t r u) → instantiated m imports s ≡ SegmentBounds u
elements_stop m imports s t u address r why e f g w =
    let i : Instance = instance_of m imports s in
    let first : Written {E = AddFault} (element_written i) m.element_segments t (Err why) u = subst (λ (r : Result (Unit {0}) AddFault). Written {E = AddFault} (element_written i) m.element_segments t r u) g (w i (owner_new m imports s t address e f)) in
    subst (λ (t : Store). Written {E = AddFault} (element_written i) m.element_segments t (Err why) u) e first (λ v. all_written (data_written i) m.data_segments v Makes)

-- Where they fit, segments of bytes come next.
elements_go : (m : ModuleTree) (imports : List Address) (s t u : Store) (address : ℕ) (r : Result (Unit {0}) AddFault) (done : Unit {0}) → t ≡ allocated m imports s → address ≡ length s.instances → r ≡ Ok done → ((i : Instance) → slice_get t.instances address ≡ Some i → Written {E = AddFault} (element_written i) m.element_segments t r u) → instantiated m imports s ≡ all_written (data_written (instance_of m imports s)) m.data_segments u Makes
elements_go m imports s t u address r done e f g w =
    let i : Instance = instance_of m imports s in
    let first : Written {E = AddFault} (element_written i) m.element_segments t (Ok done) u = subst (λ (r : Result (Unit {0}) AddFault). Written {E = AddFault} (element_written i) m.element_segments t r u) g (w i (owner_new m imports s t address e f)) in
    subst (λ (t : Store). Written {E = AddFault} (element_written i) m.element_segments t (Ok done) u) e first (λ v. all_written (data_written i) m.data_segments v Makes)

owner_still : (m : ModuleTree) (imports : List Address) (s t u : Store) (address : ℕ) → t ≡ allocated m imports s → address ≡ length s.instances → u.instances ≡ t.instances → slice_get u.instances address ≡ Some (instance_of m imports s)
owner_still m imports s t u address e f g = ap (λ (is : List Instance). slice_get is address) g ∙ owner_new m imports s t address e f

pub data_stop : (m : ModuleTree) (imports : List Address) (s t u v : Store) (address : ℕ) (r q : Result (Unit {0}) AddFault) (done : Unit {0}) (why : AddFault) → t ≡ allocated m imports s → address ≡ length s.instances → r ≡ Ok done → ((i : Instance) → slice_get t.instances address ≡ Some i → Written {E = AddFault} (element_written i) m.element_segments t r u) → u.instances ≡ t.instances → q ≡ Err why → ((i : Instance) → slice_get u.instances address ≡ Some i → Written {E = AddFault} (data_written i) m.data_segments u q v) → instantiated m imports s ≡ SegmentBounds v
data_stop m imports s t u v address r q done why e f g w still h k =
    let i : Instance = instance_of m imports s in
    let second : Written {E = AddFault} (data_written i) m.data_segments u (Err why) v = subst (λ (q : Result (Unit {0}) AddFault). Written {E = AddFault} (data_written i) m.data_segments u q v) h (k i (owner_still m imports s t u address e f still)) in
    elements_go m imports s t u address r done e f g w ∙ second Makes

pub data_done : (m : ModuleTree) (imports : List Address) (s t u v : Store) (address : ℕ) (r q : Result (Unit {0}) AddFault) (done end : Unit {0}) → t ≡ allocated m imports s → address ≡ length s.instances → r ≡ Ok done → ((i : Instance) → slice_get t.instances address ≡ Some i → Written {E = AddFault} (element_written i) m.element_segments t r u) → u.instances ≡ t.instances → q ≡ Ok end → ((i : Instance) → slice_get u.instances address ≡ Some i → Written {E = AddFault} (data_written i) m.data_segments u q v) → instantiated m imports s ≡ Makes v
data_done m imports s t u v address r q done end e f g w still h k =
    let i : Instance = instance_of m imports s in
    let second : Written {E = AddFault} (data_written i) m.data_segments u (Ok end) v = subst (λ (q : Result (Unit {0}) AddFault). Written {E = AddFault} (data_written i) m.data_segments u q v) h (k i (owner_still m imports s t u address e f still)) in
    elements_go m imports s t u address r done e f g w ∙ second Makes

-- The fault of segments is the one that says so.
pub bounds_is : (r : Result (Unit {0}) AddFault) (why : AddFault) → r ≡ Err why → IsBounds r → why ≡ fault.SegmentBounds
bounds_is r why e h = subst IsBounds e h
