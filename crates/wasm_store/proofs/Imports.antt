-- The tests of imports hold where what these bring is of the types that are asked for.
use Rattle.std.proofs.Common.{◌≡◌, ◌≤◌, ℕ, suc, nat_le, Bool, true, false, cond, List, [], ◌∷◌, length, map, refl, ap, ap₂, sym, ◌∙◌, subst, Option, Some, None}
use Rattle.std.specs.List.{slice_get, AllZip}
use Rattle.std.specs.Option.{IfSome, IsSomeAnd}
use Rattle.std.proofs.lemmas.List.{length-map}
use Rattle.std.proofs.lemmas.Bool.{leb-true, le-leb}
use Rattle.syntax_trees.specs.declared.module_types.ValType.{ValType}
use Rattle.syntax_trees.specs.declared.module_types.ValType.TheVariants.{I32, I64}
use Rattle.syntax_trees.specs.declared.module_types.FuncType.{FuncType}
use Rattle.syntax_trees.specs.declared.module_types.Limits.{Limits}
use Rattle.syntax_trees.specs.declared.module_types.GlobalType.{GlobalType}
use Rattle.syntax_trees.specs.declared.module_types.Mutability.{Mutability}
use Rattle.syntax_trees.specs.declared.module_types.Mutability.TheVariants.{Constant, Variable}
use Rattle.syntax_trees.specs.declared.module.Import.{Import}
use Rattle.syntax_trees.specs.declared.module.ImportDesc.{ImportDesc}
use Rattle.syntax_trees.specs.declared.module.ImportDesc.TheVariants as import
use Rattle.syntax_trees.specs.SameTypes as module_types
use Rattle.wasm_memory.specs.Memories.{MemoryState, page_count}
use Rattle.wasm_store.specs.Store.{Function, type_of, Table, Global, Store}
use Rattle.wasm_store.specs.Instantiation.{External, FuncAddress, TableAddress, MemoryAddress, GlobalAddress, LimitsMatch, ImportMatches}
use Rattle.wasm_store.proofs.Moving.{signature_same}
use Rattle.wasm_store.proofs.Signatures.{signature_self}
use Rattle.wasm_store.specs.Matching.{func_fits, max_fits, limits_fit, table_fits, memory_fits, same_mutability, global_fits, import_fits, imports_fit}

both : (a b : Bool) → cond a b false ≡ true → (a ≡ true) × (b ≡ true)
both true b h = (refl, h)
both false b h = cc

joined : (a b : Bool) → a ≡ true → b ≡ true → cond a b false ≡ true
joined true b h k = k
joined false b h k = cc

-- lists of other lengths don't fit
cond_false : (b c : Bool) → false ≡ c → false ≡ cond b c false
cond_false true c h = h
cond_false false c h = refl

others_differ : (s : Store) (types : List FuncType) (is : List Import) (es : List External) → (length is ≡ length es → ⊥) → false ≡ imports_fit s types is es
others_differ s types [] [] h = absurd (h refl)
others_differ s types [] (e ∷ es) h = refl
others_differ s types (i ∷ is) [] h = refl
others_differ s types (i ∷ is) (e ∷ es) h =
    cond_false (import_fits s types i.desc e) (imports_fit s types is es) (others_differ s types is es (λ k. h (ap suc k)))

pub others_differ_from : {X : Type 0} (f : X → External) (s : Store) (types : List FuncType) (is : List Import) (xs : List X) → (length is ≡ length xs → ⊥) → false ≡ imports_fit s types is (map f xs)
others_differ_from f s types is xs h = others_differ s types is (map f xs) (λ e. h (e ∙ length-map xs f))

-- types

type_is : (t u : ValType) → module_types.same_type t u ≡ true → t ≡ u
type_is I32 I32 h = refl
type_is I32 I64 h = cc
type_is I64 I32 h = cc
type_is I64 I64 h = refl

type_self : (t : ValType) → module_types.same_type t t ≡ true
type_self I32 = refl
type_self I64 = refl

mutability_is : (m n : Mutability) → same_mutability m n ≡ true → m ≡ n
mutability_is Constant Constant h = refl
mutability_is Constant Variable h = cc
mutability_is Variable Constant h = cc
mutability_is Variable Variable h = refl

mutability_self : (m : Mutability) → same_mutability m m ≡ true
mutability_self Constant = refl
mutability_self Variable = refl

-- functions

func_sound : (o : Option FuncType) (p : Option Function) → func_fits o p ≡ true → (f : Function) × (p ≡ Some f) × (o ≡ Some (type_of f))
func_sound None p h = cc
func_sound (Some type) None h = cc
func_sound (Some type) (Some f) h = (f, refl, ap (λ (t : FuncType). Some t) (signature_same type (type_of f) h))

func_complete : (o : Option FuncType) (p : Option Function) (f : Function) → p ≡ Some f → o ≡ Some (type_of f) → func_fits o p ≡ true
func_complete o p f there is =
    subst (λ (p : Option Function). func_fits o p ≡ true) (sym there)
    (subst (λ (o : Option FuncType). func_fits o (Some f) ≡ true) (sym is) (signature_self (type_of f)))

-- tables and memories

max_sound : (wanted max : Option ℕ) → max_fits wanted max ≡ true → IfSome wanted (λ wanted. IsSomeAnd max (λ most. most ≤ wanted))
max_sound None max h = tt
max_sound (Some wanted) None h = cc
max_sound (Some wanted) (Some most) h = leb-true most wanted h

max_complete : (wanted max : Option ℕ) → IfSome wanted (λ wanted. IsSomeAnd max (λ most. most ≤ wanted)) → max_fits wanted max ≡ true
max_complete None max h = refl
max_complete (Some wanted) None h = absurd h
max_complete (Some wanted) (Some most) h = le-leb most wanted h

limits_sound : (limits : Limits) (size : ℕ) (max : Option ℕ) → limits_fit limits size max ≡ true → LimitsMatch size max limits
limits_sound limits size max h =
    let k = both (nat_le limits.min size) (max_fits limits.max max) h in
    (leb-true limits.min size k.0, max_sound limits.max max k.1)

limits_complete : (limits : Limits) (size : ℕ) (max : Option ℕ) → LimitsMatch size max limits → limits_fit limits size max ≡ true
limits_complete limits size max h = joined (nat_le limits.min size) (max_fits limits.max max) (le-leb limits.min size h.0) (max_complete limits.max max h.1)

table_sound : (limits : Limits) (o : Option Table) → table_fits limits o ≡ true → (t : Table) × (o ≡ Some t) × LimitsMatch (length t.entries) t.max limits
table_sound limits None h = cc
table_sound limits (Some t) h = (t, refl, limits_sound limits (length t.entries) t.max h)

table_complete : (limits : Limits) (o : Option Table) (t : Table) → o ≡ Some t → LimitsMatch (length t.entries) t.max limits → table_fits limits o ≡ true
table_complete limits o t there h = subst (λ (o : Option Table). table_fits limits o ≡ true) (sym there) (limits_complete limits (length t.entries) t.max h)

memory_sound : (limits : Limits) (o : Option MemoryState) → memory_fits limits o ≡ true → (m : MemoryState) × (o ≡ Some m) × LimitsMatch (page_count m) m.maximum limits
memory_sound limits None h = cc
memory_sound limits (Some m) h = (m, refl, limits_sound limits (page_count m) m.maximum h)

memory_complete : (limits : Limits) (o : Option MemoryState) (m : MemoryState) → o ≡ Some m → LimitsMatch (page_count m) m.maximum limits → memory_fits limits o ≡ true
memory_complete limits o m there h = subst (λ (o : Option MemoryState). memory_fits limits o ≡ true) (sym there) (limits_complete limits (page_count m) m.maximum h)

-- globals

global_sound : (type : GlobalType) (o : Option Global) → global_fits type o ≡ true → (g : Global) × (o ≡ Some g) × (g.type ≡ type)
global_sound type None h = cc
global_sound type (Some g) h =
    let k = both (module_types.same_type type.val_type g.type.val_type) (same_mutability type.mutability g.type.mutability) h in
    (g, refl, ap₂ (λ (t : ValType) (m : Mutability). (let type : GlobalType = record { val_type = t; mutability = m } in type)) (sym (type_is type.val_type g.type.val_type k.0)) (sym (mutability_is type.mutability g.type.mutability k.1)))

global_complete : (type : GlobalType) (o : Option Global) (g : Global) → o ≡ Some g → g.type ≡ type → global_fits type o ≡ true
global_complete type o g there is =
    subst (λ (o : Option Global). global_fits type o ≡ true) (sym there)
    (subst (λ (type : GlobalType). global_fits type (Some g) ≡ true) is
    (joined (module_types.same_type g.type.val_type g.type.val_type) (same_mutability g.type.mutability g.type.mutability) (type_self g.type.val_type) (mutability_self g.type.mutability)))

-- imports

one_sound : (s : Store) (types : List FuncType) (d : ImportDesc) (e : External) → import_fits s types d e ≡ true → ImportMatches s types d e
one_sound s types (import.Func index) (FuncAddress a) h = func_sound (slice_get types index) (slice_get s.funcs a) h
one_sound s types (import.Table limits) (TableAddress a) h = table_sound limits (slice_get s.tables a) h
one_sound s types (import.Memory limits) (MemoryAddress a) h = memory_sound limits (slice_get s.memories a) h
one_sound s types (import.Global type) (GlobalAddress a) h = global_sound type (slice_get s.globals a) h
one_sound s types d e h = cc

one_complete : (s : Store) (types : List FuncType) (d : ImportDesc) (e : External) → ImportMatches s types d e → import_fits s types d e ≡ true
one_complete s types (import.Func index) (FuncAddress a) h = func_complete (slice_get types index) (slice_get s.funcs a) h.0 h.1 h.2
one_complete s types (import.Table limits) (TableAddress a) h = table_complete limits (slice_get s.tables a) h.0 h.1 h.2
one_complete s types (import.Memory limits) (MemoryAddress a) h = memory_complete limits (slice_get s.memories a) h.0 h.1 h.2
one_complete s types (import.Global type) (GlobalAddress a) h = global_complete type (slice_get s.globals a) h.0 h.1 h.2
one_complete s types d e h = absurd h

pub fits_sound : (s : Store) (types : List FuncType) (is : List Import) (es : List External) → imports_fit s types is es ≡ true → AllZip (λ i e. ImportMatches s types i.desc e) is es
fits_sound s types [] [] h = tt
fits_sound s types [] (e ∷ es) h = cc
fits_sound s types (i ∷ is) [] h = cc
fits_sound s types (i ∷ is) (e ∷ es) h =
    let k = both (import_fits s types i.desc e) (imports_fit s types is es) h in (one_sound s types i.desc e k.0, fits_sound s types is es k.1)

pub fits_complete : (s : Store) (types : List FuncType) (is : List Import) (es : List External) → AllZip (λ i e. ImportMatches s types i.desc e) is es → imports_fit s types is es ≡ true
fits_complete s types [] [] h = refl
fits_complete s types [] (e ∷ es) h = absurd h
fits_complete s types (i ∷ is) [] h = absurd h
fits_complete s types (i ∷ is) (e ∷ es) h =
    joined (import_fits s types i.desc e) (imports_fit s types is es) (one_complete s types i.desc e h.0) (fits_complete s types is es h.1)
