-- What instructions make of a store, by what they make of its parts.
use Rattle.std.proofs.Common.{◌≡◌, ℕ, zero, suc, List, [], ◌∷◌, set, get_or, map, ap, sym, ◌∙◌, subst, Option, Some, None, Result, Ok, Err}
use Rattle.std.specs.List.{slice_get}
use Rattle.std.specs.Result.{IfOk, OnErr}
use Rattle.std.proofs.lemmas.List.{map-set}
use Rattle.std.proofs.lemmas.Option.{get_or_from_slice_get}
use Rattle.faults.specs.declared.memory.Memory.{Memory}
use Rattle.syntax_trees.specs.declared.instr.Instr.{Instr}
use Rattle.syntax_trees.specs.declared.instr.Instr.TheVariants as instr
use Rattle.syntax_trees.specs.declared.instr.LoadOp.{LoadOp}
use Rattle.syntax_trees.specs.declared.instr.MemArg.{MemArg}
use Rattle.wasm_memory.specs.Memories.{MemoryState}
use Rattle.wasm_store.specs.declared.trap.Trap.{Trap}
use Rattle.wasm_store.specs.Store.{Global, Instance, Store, memory_at, global_at}
use Rattle.wasm_store.specs.Effects.{Effect, Leaves, effect, with_memory, global_get, global_set, load, memory_size}
use Rattle.wasm_store.specs.Typed.{StoreTyped}
use Rattle.wasm_store.proofs.Lists.{found_there}
use Rattle.wasm_code.specs.declared.instance.GlobalInstance.{GlobalInstance}
use Rattle.wasm_store.specs.Fits.{Keeps, Gives}
use Rattle.wasm_store.specs.Views.{global_of}
use Rattle.wasm_store.proofs.Making.{same_memory}

-- What an instruction leaves is typed.
pub given_typed : (s : Store) (e : Effect) (trap : Option Trap) (t : Store) (ls vs : List ℕ) → StoreTyped s → Keeps e → Gives s e trap t ls vs → StoreTyped t
given_typed s e None t ls vs h k g = subst Keeps g k
given_typed s e (Some why) t ls vs h k g = subst StoreTyped (sym g.1) h

-- Of a memory that is only read.
pub load_given : (code : Instr) (op : LoadOp) (arg : MemArg) (i : Instance) (address : ℕ) (m : MemoryState) (s : Store) (ls vs ws : List ℕ) (trap : Option Trap) → code ≡ instr.Load op arg → memory_at 0 i s ≡ Some (address, m) → Gives s (load op arg.offset (Some (address, m)) s ls vs) trap s ls ws → Gives s (effect code i s ls vs) trap (with_memory address m s) ls ws
load_given code op arg i address m s ls vs ws trap is there g =
    let same : with_memory address m s ≡ s = same_memory address m s (found_there s.memories (slice_get i.memories 0) (address, m) there).1 in
    subst (λ (k : Instr). Gives s (effect k i s ls vs) trap (with_memory address m s) ls ws) (sym is)
    (subst (λ (o : Option (ℕ × MemoryState)). Gives s (load op arg.offset o s ls vs) trap (with_memory address m s) ls ws) (sym there)
    (subst (λ (t : Store). Gives s (load op arg.offset (Some (address, m)) s ls vs) trap t ls ws) (sym same) g))

pub size_given : (code : Instr) (i : Instance) (address : ℕ) (m : MemoryState) (s : Store) (ls vs ws : List ℕ) → code ≡ instr.MemorySize → memory_at 0 i s ≡ Some (address, m) → memory_size (Some (address, m)) s ls vs ≡ Leaves s ls ws → effect code i s ls vs ≡ Leaves (with_memory address m s) ls ws
size_given code i address m s ls vs ws is there g =
    let same : with_memory address m s ≡ s = same_memory address m s (found_there s.memories (slice_get i.memories 0) (address, m) there).1 in
    subst (λ (k : Instr). effect k i s ls vs ≡ Leaves (with_memory address m s) ls ws) (sym is)
    (subst (λ (o : Option (ℕ × MemoryState)). memory_size o s ls vs ≡ Leaves (with_memory address m s) ls ws) (sym there)
    (subst (λ (t : Store). memory_size (Some (address, m)) s ls vs ≡ Leaves t ls ws) (sym same) g))

-- Of the memory that stands at an address, of a store t that is seen as s.
abbrev Access : Result (Option Trap) Memory → Instr → MemoryState → MemoryState → List ℕ → List ℕ → Type 0
Access r code old new vs ws =
    (i : Instance) (address : ℕ) (s : Store) (ls : List ℕ) → memory_at 0 i s ≡ Some (address, old) → IfOk r (λ trap. Gives s (effect code i s ls vs) trap (with_memory address new s) ls ws)

pub access_given : (r : Result (Option Trap) Memory) (code : Instr) (i : Instance) (s t : Store) (address : ℕ) (m old new : MemoryState) (ls vs ws : List ℕ) → s ≡ t → slice_get t.memories address ≡ Some m → memory_at 0 i t ≡ Some (address, m) → old ≡ get_or s.memories address old → Access r code old new vs ws → IfOk r (λ trap. Gives t (effect code i t ls vs) trap (with_memory address new s) ls ws)
access_given r code i s t address m old new ls vs ws view at there value gives =
    let found : slice_get s.memories address ≡ Some m = subst (λ (u : Store). slice_get u.memories address ≡ Some m) (sym view) at in
    let is : m ≡ old = sym (value ∙ get_or_from_slice_get s.memories address m old found) in
    let known : memory_at 0 i s ≡ Some (address, old) = subst (λ (k : MemoryState). memory_at 0 i s ≡ Some (address, k)) is (subst (λ (u : Store). memory_at 0 i u ≡ Some (address, m)) (sym view) there) in
    subst (λ (u : Store). IfOk r (λ trap. Gives u (effect code i u ls vs) trap (with_memory address new s) ls ws)) view (gives i address s ls known)

-- After an access the store is typed, also where memory ran out.
typed_by : (r : Result (Option Trap) Memory) (e : Effect) (s t u : Store) (ls ws : List ℕ) → StoreTyped t → Keeps e → IfOk r (λ trap. Gives t e trap u ls ws) → OnErr r (u ≡ s) → StoreTyped s → StoreTyped u
typed_by (Ok trap) e s t u ls ws h k g same l = given_typed t e trap u ls ws h k g
typed_by (Err why) e s t u ls ws h k g same l = subst StoreTyped (sym same) l

unchanged : (r : Result (Option Trap) Memory) (address : ℕ) (s : Store) (old new : MemoryState) → slice_get s.memories address ≡ Some old → OnErr r (new ≡ old) → OnErr r (with_memory address new s ≡ s)
unchanged (Ok trap) address s old new there same = tt
unchanged (Err why) address s old new there same = subst (λ (k : MemoryState). with_memory address k s ≡ s) (sym same) (same_memory address old s there)

pub access_typed : (r : Result (Option Trap) Memory) (code : Instr) (i : Instance) (s t : Store) (address : ℕ) (m old new : MemoryState) (ls vs ws : List ℕ) → s ≡ t → StoreTyped s → Keeps (effect code i t ls vs) → slice_get t.memories address ≡ Some m → memory_at 0 i t ≡ Some (address, m) → old ≡ get_or s.memories address old → Access r code old new vs ws → OnErr r (new ≡ old) → StoreTyped (with_memory address new s)
access_typed r code i s t address m old new ls vs ws view h keeps at there value gives same =
    let found : slice_get s.memories address ≡ Some m = subst (λ (u : Store). slice_get u.memories address ≡ Some m) (sym view) at in
    let is : m ≡ old = sym (value ∙ get_or_from_slice_get s.memories address m old found) in
    typed_by r (effect code i t ls vs) s t (with_memory address new s) ls ws (subst StoreTyped view h) keeps
    (access_given r code i s t address m old new ls vs ws view at there value gives)
    (unchanged r address s old new (subst (λ (k : MemoryState). slice_get s.memories address ≡ Some k) is found) same) h

-- Globals.
item_of : {X Y : Type 0} (f : X → Y) (xs : List X) (a : ℕ) (y : Y) (r : X) → slice_get (map f xs) a ≡ Some y → r ≡ get_or xs a r → f r ≡ y
item_of f [] a y r e v = cc
item_of f (x ∷ xs) zero y r e v = let same : f x ≡ y = cc in ap f v ∙ same
item_of f (x ∷ xs) (suc a) y r e v = item_of f xs a y r e v

pub global_given : (code : Instr) (index : ℕ) (i : Instance) (s t : Store) (gs : List GlobalInstance) (address : ℕ) (g : Global) (r : GlobalInstance) (ls vs ws : List ℕ) → s ≡ t → s.globals ≡ map global_of gs → code ≡ instr.GlobalGet index → slice_get t.globals address ≡ Some g → global_at index i t ≡ Some (address, g) → r ≡ get_or gs address r → global_get (Some (address, global_of r)) t ls vs ≡ Leaves t ls ws → effect code i t ls vs ≡ Leaves t ls ws
global_given code index i s t gs address g r ls vs ws view globals is at there value given =
    let seen : slice_get (map global_of gs) address ≡ Some g = subst (λ (hs : List Global). slice_get hs address ≡ Some g) globals (subst (λ (u : Store). slice_get u.globals address ≡ Some g) (sym view) at) in
    let same : global_of r ≡ g = item_of global_of gs address g r seen value in
    subst (λ (k : Instr). effect k i t ls vs ≡ Leaves t ls ws) (sym is)
    (subst (λ (o : Option (ℕ × Global)). global_get o t ls vs ≡ Leaves t ls ws) (sym there)
    (subst (λ (k : Global). global_get (Some (address, k)) t ls vs ≡ Leaves t ls ws) same given))

pub global_put : (code : Instr) (index : ℕ) (i : Instance) (s t : Store) (gs : List GlobalInstance) (address : ℕ) (g : Global) (r new : GlobalInstance) (ls vs ws : List ℕ) → s ≡ t → s.globals ≡ map global_of gs → code ≡ instr.GlobalSet index → slice_get t.globals address ≡ Some g → global_at index i t ≡ Some (address, g) → r ≡ get_or gs address r → global_set (Some (address, global_of r)) s ls vs ≡ Leaves (record s { globals = set s.globals address (global_of new) }) ls ws → effect code i t ls vs ≡ Leaves (record s { globals = map global_of (set gs address new) }) ls ws
global_put code index i s t gs address g r new ls vs ws view globals is at there value given =
    let seen : slice_get (map global_of gs) address ≡ Some g = subst (λ (hs : List Global). slice_get hs address ≡ Some g) globals (subst (λ (u : Store). slice_get u.globals address ≡ Some g) (sym view) at) in
    let same : global_of r ≡ g = item_of global_of gs address g r seen value in
    let put : set s.globals address (global_of new) ≡ map global_of (set gs address new) = ap (λ (hs : List Global). set hs address (global_of new)) globals ∙ sym (map-set global_of gs address new) in
    let there_s : global_at index i s ≡ Some (address, g) = subst (λ (u : Store). global_at index i u ≡ Some (address, g)) (sym view) there in
    let at_s : effect code i s ls vs ≡ Leaves (record s { globals = map global_of (set gs address new) }) ls ws =
    subst (λ (k : Instr). effect k i s ls vs ≡ Leaves (record s { globals = map global_of (set gs address new) }) ls ws) (sym is)
    (subst (λ (o : Option (ℕ × Global)). global_set o s ls vs ≡ Leaves (record s { globals = map global_of (set gs address new) }) ls ws) (sym there_s)
    (subst (λ (k : Global). global_set (Some (address, k)) s ls vs ≡ Leaves (record s { globals = map global_of (set gs address new) }) ls ws) same
    (subst (λ (hs : List Global). global_set (Some (address, global_of r)) s ls vs ≡ Leaves (record s { globals = hs }) ls ws) put given))) in
    subst (λ (u : Store). effect code i u ls vs ≡ Leaves (record s { globals = map global_of (set gs address new) }) ls ws) view at_s
