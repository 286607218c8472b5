-- The rules on whole sections, against those on their items.
use Rattle.std.proofs.Common.{◌≡◌, ◌<◌, ◌≤◌, ◌+◌, ℕ, Bool, true, false, cond, List, [], ◌∷◌, ◌++◌, length, map, refl, ap, sym, ◌∙◌, subst, Some, None, Option, arith, append_assoc, append-nil, length-append}
use Rattle.std.specs.Prelude.{not, nat_lt, is_none}
use Rattle.std.specs.List.{slice_get, AllByRecursion, flat_map}
use Rattle.std.specs.Option.{option_or, IfSome}
use Rattle.std.proofs.lemmas.Grind.{flat_map-append}
use Rattle.std.proofs.lemmas.List.{map-append}
use Rattle.syntax_trees.specs.Names.{is_among, twice_behind}
use Rattle.syntax_trees.proofs.Distinct.{distinct_law}
use Rattle.syntax_trees.specs.declared.module_types.ValType.TheVariants.{I32}
use Rattle.syntax_trees.specs.declared.module_types.FuncType.{FuncType}
use Rattle.syntax_trees.specs.declared.module_types.Limits.{Limits}
use Rattle.syntax_trees.specs.declared.module.ImportDesc.{ImportDesc}
use Rattle.syntax_trees.specs.declared.module.ImportDesc.TheVariants as import
use Rattle.syntax_trees.specs.declared.module.Import.{Import}
use Rattle.syntax_trees.specs.declared.module.Export.{Export}
use Rattle.syntax_trees.specs.declared.module.Func.{Func}
use Rattle.syntax_trees.specs.declared.module.Global.{Global}
use Rattle.syntax_trees.specs.declared.module.ElementSegment.{ElementSegment}
use Rattle.syntax_trees.specs.declared.module.DataSegment.{DataSegment}
use Rattle.syntax_trees.specs.declared.module.ModuleTree.{ModuleTree}
use Rattle.wasm_typing.specs.declared.why.ValidWhy.TheVariants as why
use Rattle.wasm_typing.specs.declared.spot.Spot.{Spot}
use Rattle.wasm_typing.specs.declared.spot.Spot.TheVariants as spot
use Rattle.wasm_typing.specs.declared.fault.Fault.{Fault}
use Rattle.wasm_typing.specs.declared.fault.PartFault.{PartFault}
use Rattle.wasm_typing.specs.Typing.{BodyTyped}
use Rattle.wasm_typing.specs.Modules.{func_context, tables_of, memories_of, imported_tables, imported_memories, imported_globals, func_space, table_count, memory_count, TableTyped, MemoryTyped, ImportTyped, FuncTyped, GlobalTyped, ExportTyped, StartTyped, ElementTyped, DataTyped, Typed}
use Rattle.wasm_typing.specs.Items.{fault, where_so, at_spot, at_part, table_fits, memory_fits, limits_why, import_why, is_there, export_why, const_fault, funcs_fault, start_why}
use Rattle.wasm_typing.specs.Untyped.{Item, ImportItem, FuncItem, TableItem, MemoryItem, GlobalItem, ExportItem, StartItem, ElementItem, CodeItem, DataItem, behind, items, BodyPasses, ItemPasses}
use Rattle.wasm_typing.proofs.Options.{map_none, or_none}
use Rattle.wasm_typing.proofs.Singles.{none_or, none_map, so_none, none_so, not_false, true_not, lt_is, is_lt, table_typed, typed_table, memory_typed, typed_memory, limits_none, none_limits, some_there, there_some, is_some_there, some_not_none, const_typed, typed_const, export_typed, typed_export, start_typed, typed_start, funcs_typed, typed_funcs}

abbrev Passing : ModuleTree → List Item → Type 0
Passing m xs = AllByRecursion (ItemPasses m) xs

-- a rule on each item alone
each : {A : Type 0} (m : ModuleTree) (item : List A → A → Item) (P : A → Type 0) → ((before : List A) (x : A) → ItemPasses m (item before x) → P x) → (before xs : List A) → Passing m (behind item before xs) → AllByRecursion P xs
each m item P f before [] h = tt
each m item P f before (x ∷ xs) h = (f before x h.0, each m item P f (before ++ x ∷ []) xs h.1)

all_pass : {A : Type 0} (m : ModuleTree) (item : List A → A → Item) (P : A → Type 0) → ((before : List A) (x : A) → P x → ItemPasses m (item before x)) → (before xs : List A) → AllByRecursion P xs → Passing m (behind item before xs)
all_pass m item P f before [] h = tt
all_pass m item P f before (x ∷ xs) h = (f before x h.0, all_pass m item P f (before ++ x ∷ []) xs h.1)

-- imports
more_tables : (before : List Import) (x : Import) → length (imported_tables (before ++ x ∷ [])) ≡ length (imported_tables before) + length (tables_of x.desc)
more_tables before x =
    let f : Import → List Limits = λ i. tables_of i.desc in
    ap length (flat_map-append f before (x ∷ [])) ∙ length-append (flat_map f before) (tables_of x.desc ++ [])
    ∙ ap (λ (ls : List Limits). length (flat_map f before) + length ls) (append-nil (tables_of x.desc))

more_memories : (before : List Import) (x : Import) → length (imported_memories (before ++ x ∷ [])) ≡ length (imported_memories before) + length (memories_of x.desc)
more_memories before x =
    let f : Import → List Limits = λ i. memories_of i.desc in
    ap length (flat_map-append f before (x ∷ [])) ∙ length-append (flat_map f before) (memories_of x.desc ++ [])
    ∙ ap (λ (ls : List Limits). length (flat_map f before) + length ls) (append-nil (memories_of x.desc))

-- what an import adds
abbrev ImportAdds : ModuleTree → List Import → ImportDesc → Type 0
ImportAdds m before desc =
    ImportTyped m desc × (length (imported_tables before) + length (tables_of desc) ≤ 1) × (length (imported_memories before) + length (memories_of desc) ≤ 1)

import_adds : (m : ModuleTree) (before : List Import) (desc : ImportDesc) → length (imported_tables before) ≤ 1 → length (imported_memories before) ≤ 1 → import_why m before desc ≡ None → ImportAdds m before desc
import_adds m before (import.Func index) a b h =
    let p = some_there (slice_get m.types index) (so_none (is_none (slice_get m.types index)) why.Index h) in
    (is_some_there (slice_get m.types index) p.0 p.1, omega (arith, a), omega (arith, b))
import_adds m before (import.Table limits) a b h =
    let p = limits_none (table_fits limits) (length (imported_tables before)) h in
    (table_typed limits p.0, omega (arith, p.1), omega (arith, b))
import_adds m before (import.Memory limits) a b h =
    let p = limits_none (memory_fits limits) (length (imported_memories before)) h in
    (memory_typed limits p.0, omega (arith, a), omega (arith, p.1))
import_adds m before (import.Global type) a b h = (tt, omega (arith, a), omega (arith, b))

adds_import : (m : ModuleTree) (before : List Import) (desc : ImportDesc) → ImportAdds m before desc → import_why m before desc ≡ None
adds_import m before (import.Func index) h = none_so (is_none (slice_get m.types index)) why.Index (some_not_none (slice_get m.types index) h.0)
adds_import m before (import.Table limits) h = none_limits (table_fits limits) (length (imported_tables before)) (typed_table limits h.0) (omega (arith, h.1))
adds_import m before (import.Memory limits) h = none_limits (memory_fits limits) (length (imported_memories before)) (typed_memory limits h.0) (omega (arith, h.2))
adds_import m before (import.Global type) h = refl

abbrev FewImports : List Import → Type 0
FewImports imports = (length (imported_tables imports) ≤ 1) × (length (imported_memories imports) ≤ 1)

few_more : (before : List Import) (x : Import) (xs : List Import) → FewImports ((before ++ x ∷ []) ++ xs) → FewImports (before ++ x ∷ xs)
few_more before x xs h = subst FewImports (append_assoc before (x ∷ []) xs) h

pub imports_typed : (m : ModuleTree) (before xs : List Import) → Passing m (behind ImportItem before xs) → FewImports before → AllByRecursion (λ i. ImportTyped m i.desc) xs × FewImports (before ++ xs)
imports_typed m before [] h few = (tt, subst FewImports (sym (append-nil before)) few)
imports_typed m before (x ∷ xs) h few =
    let a = import_adds m before x.desc few.0 few.1 (map_none (fault (spot.Import (length before))) (import_why m before x.desc) h.0) in
    let t : length (imported_tables (before ++ x ∷ [])) ≤ 1 = omega (arith, more_tables before x, a.1) in
    let n : length (imported_memories (before ++ x ∷ [])) ≤ 1 = omega (arith, more_memories before x, a.2) in
    let rest = imports_typed m (before ++ x ∷ []) xs h.1 (t, n) in
    ((a.0, rest.0), few_more before x xs rest.1)

-- there are no fewer with further ones
fewer : (before xs : List Import) → FewImports (before ++ xs) → FewImports before
fewer before xs h =
    let f : Import → List Limits = λ i. tables_of i.desc in
    let g : Import → List Limits = λ i. memories_of i.desc in
    let t : length (imported_tables (before ++ xs)) ≡ length (imported_tables before) + length (imported_tables xs) =
    ap length (flat_map-append f before xs) ∙ length-append (flat_map f before) (flat_map f xs) in
    let n : length (imported_memories (before ++ xs)) ≡ length (imported_memories before) + length (imported_memories xs) =
    ap length (flat_map-append g before xs) ∙ length-append (flat_map g before) (flat_map g xs) in
    (omega (arith, t, h.0), omega (arith, n, h.1))

pub typed_imports : (m : ModuleTree) (before xs : List Import) → AllByRecursion (λ i. ImportTyped m i.desc) xs → FewImports (before ++ xs) → Passing m (behind ImportItem before xs)
typed_imports m before [] h few = tt
typed_imports m before (x ∷ xs) h few =
    let all : FewImports ((before ++ x ∷ []) ++ xs) = subst FewImports (sym (append_assoc before (x ∷ []) xs)) few in
    let here = fewer (before ++ x ∷ []) xs all in
    let t : length (imported_tables before) + length (tables_of x.desc) ≤ 1 = omega (arith, more_tables before x, here.0) in
    let n : length (imported_memories before) + length (memories_of x.desc) ≤ 1 = omega (arith, more_memories before x, here.1) in
    (none_map (fault (spot.Import (length before))) (import_why m before x.desc) (adds_import m before x.desc (h.0, t, n)), typed_imports m (before ++ x ∷ []) xs h.1 all)

-- tables and memories behind imported ones
one_more : (before : List Limits) (x : Limits) (n : ℕ) → n + length (before ++ x ∷ []) ≡ (n + length before) + 1
one_more before x n = omega (arith, length-append before (x ∷ []))

pub limits_typed : (m : ModuleTree) (item : List Limits → Limits → Item) (fits : Limits → Bool) (P : Limits → Type 0) (n : ℕ) → ((l : Limits) → fits l ≡ true → P l) → ((before : List Limits) (l : Limits) → ItemPasses m (item before l) → limits_why (fits l) (n + length before) ≡ None) → (before xs : List Limits) → Passing m (behind item before xs) → n + length before ≤ 1 → AllByRecursion P xs × (n + length (before ++ xs) ≤ 1)
limits_typed m item fits P n f g before [] h few = (tt, subst (λ (ls : List Limits). n + length ls ≤ 1) (sym (append-nil before)) few)
limits_typed m item fits P n f g before (x ∷ xs) h few =
    let p = limits_none (fits x) (n + length before) (g before x h.0) in
    let more : n + length (before ++ x ∷ []) ≤ 1 = omega (arith, one_more before x n, p.1) in
    let rest = limits_typed m item fits P n f g (before ++ x ∷ []) xs h.1 more in
    ((f x p.0, rest.0), subst (λ (ls : List Limits). n + length ls ≤ 1) (append_assoc before (x ∷ []) xs) rest.1)

pub typed_limits : (m : ModuleTree) (item : List Limits → Limits → Item) (fits : Limits → Bool) (P : Limits → Type 0) (n : ℕ) → ((l : Limits) → P l → fits l ≡ true) → ((before : List Limits) (l : Limits) → limits_why (fits l) (n + length before) ≡ None → ItemPasses m (item before l)) → (before xs : List Limits) → AllByRecursion P xs → n + length (before ++ xs) ≤ 1 → Passing m (behind item before xs)
typed_limits m item fits P n f g before [] h few = tt
typed_limits m item fits P n f g before (x ∷ xs) h few =
    let none : n + length before ≡ 0 = omega (arith, few, length-append before (x ∷ xs)) in (
      g before x (none_limits (fits x) (n + length before) (f x h.0) none),
      typed_limits m item fits P n f g (before ++ x ∷ []) xs h.1 (subst (λ (ls : List Limits). n + length ls ≤ 1) (sym (append_assoc before (x ∷ []) xs)) few),
    )

-- exports
abbrev name_of : Export → List ℕ
name_of e = e.name

cond_none : (b : Bool) (n : ℕ) (o : Option ℕ) → b ≡ false → cond b (Some n) o ≡ o
cond_none b n o e = ap (λ (b : Bool). cond b (Some n) o) e

none_cond : (b : Bool) (n : ℕ) (o : Option ℕ) → cond b (Some n) o ≡ None → (b ≡ false) × (o ≡ None)
none_cond true n o h = cc
none_cond false n o h = (refl, h)

export_none : (m : ModuleTree) (named : Bool) (e : Export) → export_why m named e.desc ≡ None → ExportTyped m e.desc × (named ≡ false)
export_none m named e h =
    let p = or_none (where_so (not (is_there m e.desc)) why.Index) (where_so named why.Name) h in
    (export_typed m e.desc (not_false (is_there m e.desc) (so_none (not (is_there m e.desc)) why.Index p.0)), so_none named why.Name p.1)

none_export : (m : ModuleTree) (named : Bool) (e : Export) → ExportTyped m e.desc → named ≡ false → export_why m named e.desc ≡ None
none_export m named e t n =
    none_or (where_so (not (is_there m e.desc)) why.Index) (where_so named why.Name) (none_so (not (is_there m e.desc)) why.Index (true_not (is_there m e.desc) (typed_export m e.desc t))) (none_so named why.Name n)

names_more : (before : List Export) (e : Export) → map name_of (before ++ e ∷ []) ≡ map name_of before ++ e.name ∷ []
names_more before e = map-append name_of before (e ∷ [])

pub exports_typed : (m : ModuleTree) (before xs : List Export) → Passing m (behind ExportItem before xs) → AllByRecursion (λ e. ExportTyped m e.desc) xs × (twice_behind (map name_of before) (map name_of xs) ≡ None)
exports_typed m before [] h = (tt, refl)
exports_typed m before (e ∷ xs) h =
    let named : Bool = is_among e.name (map name_of before) in
    let p = export_none m named e (map_none (fault (spot.Export (length before))) (export_why m named e.desc) h.0) in
    let rest = exports_typed m (before ++ e ∷ []) xs h.1 in (
      (p.0, rest.0),
      cond_none named (length (map name_of before)) (twice_behind (map name_of before ++ e.name ∷ []) (map name_of xs)) p.1
          ∙ ap (λ (names : List (List ℕ)). twice_behind names (map name_of xs)) (sym (names_more before e)) ∙ rest.1,
    )

pub typed_exports : (m : ModuleTree) (before xs : List Export) → AllByRecursion (λ e. ExportTyped m e.desc) xs → twice_behind (map name_of before) (map name_of xs) ≡ None → Passing m (behind ExportItem before xs)
typed_exports m before [] h d = tt
typed_exports m before (e ∷ xs) h d =
    let named : Bool = is_among e.name (map name_of before) in
    let p = none_cond named (length (map name_of before)) (twice_behind (map name_of before ++ e.name ∷ []) (map name_of xs)) d in (
      none_map (fault (spot.Export (length before))) (export_why m named e.desc) (none_export m named e h.0 p.0),
      typed_exports m (before ++ e ∷ []) xs h.1 (ap (λ (names : List (List ℕ)). twice_behind names (map name_of xs)) (names_more before e) ∙ p.1),
    )

-- parts of items
part_none : (place : ℕ → Spot) (o : Option PartFault) → at_part place o ≡ None → o ≡ None
part_none place None h = refl
part_none place (Some f) h = cc

none_part : (place : ℕ → Spot) (o : Option PartFault) → o ≡ None → at_part place o ≡ None
none_part place o e = ap (at_part place) e

global_passes : (m : ModuleTree) (before : List Global) (g : Global) → ItemPasses m (GlobalItem before g) → GlobalTyped m g
global_passes m before g h = const_typed (imported_globals m.imports) g.global_type.val_type g.init (part_none (spot.Global (length before)) (const_fault (imported_globals m.imports) g.global_type.val_type g.init) h)

passes_global : (m : ModuleTree) (before : List Global) (g : Global) → GlobalTyped m g → ItemPasses m (GlobalItem before g)
passes_global m before g t = none_part (spot.Global (length before)) (const_fault (imported_globals m.imports) g.global_type.val_type g.init) (typed_const (imported_globals m.imports) g.global_type.val_type g.init t)

there_none : (s : Spot) (index count : ℕ) → at_spot s (where_so (not (nat_lt index count)) why.Index) ≡ None → index < count
there_none s index count h =
    lt_is index count (not_false (nat_lt index count) (so_none (not (nat_lt index count)) why.Index (map_none (fault s) (where_so (not (nat_lt index count)) why.Index) h)))

none_there : (s : Spot) (index count : ℕ) → index < count → at_spot s (where_so (not (nat_lt index count)) why.Index) ≡ None
none_there s index count h =
    none_map (fault s) (where_so (not (nat_lt index count)) why.Index) (none_so (not (nat_lt index count)) why.Index (true_not (nat_lt index count) (is_lt index count h)))

element_passes : (m : ModuleTree) (before : List ElementSegment) (s : ElementSegment) → ItemPasses m (ElementItem before s) → ElementTyped m s
element_passes m before s h =
    let offset : Option Fault = at_part (spot.ElementOffset (length before)) (const_fault (imported_globals m.imports) I32 s.offset) in
    let funcs : Option Fault = at_part (spot.ElementFunc (length before)) (funcs_fault (length (func_space m)) 0 s.funcs) in
    let p = or_none (at_spot (spot.Element (length before)) (where_so (not (nat_lt s.table (table_count m))) why.Index)) (option_or offset funcs) h in
    let q = or_none offset funcs p.1 in (
      there_none (spot.Element (length before)) s.table (table_count m) p.0,
      const_typed (imported_globals m.imports) I32 s.offset (part_none (spot.ElementOffset (length before)) (const_fault (imported_globals m.imports) I32 s.offset) q.0),
      funcs_typed (length (func_space m)) 0 s.funcs (part_none (spot.ElementFunc (length before)) (funcs_fault (length (func_space m)) 0 s.funcs) q.1),
    )

passes_element : (m : ModuleTree) (before : List ElementSegment) (s : ElementSegment) → ElementTyped m s → ItemPasses m (ElementItem before s)
passes_element m before s t =
    let offset : Option Fault = at_part (spot.ElementOffset (length before)) (const_fault (imported_globals m.imports) I32 s.offset) in
    let funcs : Option Fault = at_part (spot.ElementFunc (length before)) (funcs_fault (length (func_space m)) 0 s.funcs) in
    none_or (at_spot (spot.Element (length before)) (where_so (not (nat_lt s.table (table_count m))) why.Index)) (option_or offset funcs)
    (none_there (spot.Element (length before)) s.table (table_count m) t.0)
    (none_or offset funcs (none_part (spot.ElementOffset (length before)) (const_fault (imported_globals m.imports) I32 s.offset) (typed_const (imported_globals m.imports) I32 s.offset t.1))
    (none_part (spot.ElementFunc (length before)) (funcs_fault (length (func_space m)) 0 s.funcs) (typed_funcs (length (func_space m)) 0 s.funcs t.2)))

data_passes : (m : ModuleTree) (before : List DataSegment) (s : DataSegment) → ItemPasses m (DataItem before s) → DataTyped m s
data_passes m before s h =
    let offset : Option Fault = at_part (spot.DataOffset (length before)) (const_fault (imported_globals m.imports) I32 s.offset) in
    let p = or_none (at_spot (spot.Data (length before)) (where_so (not (nat_lt s.memory (memory_count m))) why.Index)) offset h in (
      there_none (spot.Data (length before)) s.memory (memory_count m) p.0,
      const_typed (imported_globals m.imports) I32 s.offset (part_none (spot.DataOffset (length before)) (const_fault (imported_globals m.imports) I32 s.offset) p.1),
    )

passes_data : (m : ModuleTree) (before : List DataSegment) (s : DataSegment) → DataTyped m s → ItemPasses m (DataItem before s)
passes_data m before s t =
    none_or (at_spot (spot.Data (length before)) (where_so (not (nat_lt s.memory (memory_count m))) why.Index)) (at_part (spot.DataOffset (length before)) (const_fault (imported_globals m.imports) I32 s.offset))
    (none_there (spot.Data (length before)) s.memory (memory_count m) t.0)
    (none_part (spot.DataOffset (length before)) (const_fault (imported_globals m.imports) I32 s.offset) (typed_const (imported_globals m.imports) I32 s.offset t.1))

start_passes : (m : ModuleTree) (start : Option ℕ) → ItemPasses m (StartItem start) → IfSome start (StartTyped m)
start_passes m None h = tt
start_passes m (Some index) h = start_typed m index (map_none (fault spot.Start) (start_why m index) h)

passes_start : (m : ModuleTree) (start : Option ℕ) → IfSome start (StartTyped m) → ItemPasses m (StartItem start)
passes_start m None h = refl
passes_start m (Some index) h = none_map (fault spot.Start) (start_why m index) (typed_start m index h)

-- functions
abbrev HasType : ModuleTree → Func → Type 0
HasType m f = (type : FuncType) × (slice_get m.types f.type_index ≡ Some type)

type_passes : (m : ModuleTree) (before : List Func) (f : Func) → ItemPasses m (FuncItem before f) → HasType m f
type_passes m before f h =
    some_there (slice_get m.types f.type_index) (so_none (is_none (slice_get m.types f.type_index)) why.Index (map_none (fault (spot.Func (length before))) (where_so (is_none (slice_get m.types f.type_index)) why.Index) h))

passes_type : (m : ModuleTree) (before : List Func) (f : Func) → FuncTyped m f → ItemPasses m (FuncItem before f)
passes_type m before f t =
    none_map (fault (spot.Func (length before))) (where_so (is_none (slice_get m.types f.type_index)) why.Index) (none_so (is_none (slice_get m.types f.type_index)) why.Index (there_some (slice_get m.types f.type_index) t.0 t.1))

both_typed : (m : ModuleTree) (fs : List Func) → AllByRecursion (HasType m) fs → AllByRecursion (BodyPasses m) fs → AllByRecursion (FuncTyped m) fs
both_typed m [] h k = tt
both_typed m (f ∷ fs) h k = ((h.0.0, h.0.1, k.0 h.0.0 h.0.1), both_typed m fs h.1 k.1)

some_same : (a b : FuncType) → Some a ≡ Some b → a ≡ b
some_same a b e = cc

body_of : (m : ModuleTree) (f : Func) (a b : FuncType) → a ≡ b → BodyTyped (func_context m f a) f.body → BodyTyped (func_context m f b) f.body
body_of m f a b e t = subst (λ (type : FuncType). BodyTyped (func_context m f type) f.body) e t

passes_body : (m : ModuleTree) (before : List Func) (f : Func) → FuncTyped m f → ItemPasses m (CodeItem before f)
passes_body m before f t type e = body_of m f t.0 type (some_same t.0 type (sym t.1 ∙ e)) t.2

-- all sections
split : (m : ModuleTree) (xs ys : List Item) → Passing m (xs ++ ys) → Passing m xs × Passing m ys
split m [] ys h = (tt, h)
split m (x ∷ xs) ys h = let p = split m xs ys h.1 in ((h.0, p.0), p.1)

join : (m : ModuleTree) (xs ys : List Item) → Passing m xs → Passing m ys → Passing m (xs ++ ys)
join m [] ys h k = k
join m (x ∷ xs) ys h k = (h.0, join m xs ys h.1 k)

-- a module whose items pass is typed
pub passing_typed : (m : ModuleTree) → Passing m (items m) → Typed m
passing_typed m h =
    let a = split m (behind ImportItem [] m.imports) _ h in
    let b = split m (behind FuncItem [] m.funcs) _ a.1 in
    let c = split m (behind TableItem [] m.tables) _ b.1 in
    let d = split m (behind MemoryItem [] m.memories) _ c.1 in
    let e = split m (behind GlobalItem [] m.globals) _ d.1 in
    let f = split m (behind ExportItem [] m.exports) _ e.1 in
    let g = split m (behind ElementItem [] m.element_segments) _ f.1.1 in
    let i = split m (behind CodeItem [] m.funcs) _ g.1 in
    let imports = imports_typed m [] m.imports a.0 (omega arith, omega arith) in
    let tables = limits_typed m TableItem table_fits TableTyped (length (imported_tables m.imports)) table_typed (λ before l k. map_none (fault (spot.Table (length before))) (limits_why (table_fits l) (length (imported_tables m.imports) + length before)) k) [] m.tables c.0 (omega (arith, imports.1.0)) in
    let memories = limits_typed m MemoryItem memory_fits MemoryTyped (length (imported_memories m.imports)) memory_typed (λ before l k. map_none (fault (spot.Memory (length before))) (limits_why (memory_fits l) (length (imported_memories m.imports) + length before)) k) [] m.memories d.0 (omega (arith, imports.1.1)) in
    let exports = exports_typed m [] m.exports f.0 in
    record {
      imports = imports.0;
      funcs = both_typed m m.funcs (each m FuncItem (HasType m) (type_passes m) [] m.funcs b.0) (each m CodeItem (BodyPasses m) (λ before f k. k) [] m.funcs i.0);
      tables = tables.0;
      memories = memories.0;
      globals = each m GlobalItem (GlobalTyped m) (global_passes m) [] m.globals e.0;
      exports = exports.0;
      names = (distinct_law (map name_of m.exports)).0 exports.1;
      start = start_passes m m.start f.1.0;
      element_segments = each m ElementItem (ElementTyped m) (element_passes m) [] m.element_segments g.0;
      data_segments = each m DataItem (DataTyped m) (data_passes m) [] m.data_segments i.1;
      one_table = tables.1;
      one_memory = memories.1;
    }

-- the items of a typed module pass
pub typed_passing : (m : ModuleTree) → Typed m → Passing m (items m)
typed_passing m t =
    let t0 : length (imported_tables m.imports) ≤ 1 = omega (arith, t.one_table) in
    let n0 : length (imported_memories m.imports) ≤ 1 = omega (arith, t.one_memory) in
    join m (behind ImportItem [] m.imports) _ (typed_imports m [] m.imports t.imports (t0, n0))
    (join m (behind FuncItem [] m.funcs) _ (all_pass m FuncItem (FuncTyped m) (passes_type m) [] m.funcs t.funcs)
    (join m (behind TableItem [] m.tables) _ (typed_limits m TableItem table_fits TableTyped (length (imported_tables m.imports)) typed_table (λ before l k. none_map (fault (spot.Table (length before))) (limits_why (table_fits l) (length (imported_tables m.imports) + length before)) k) [] m.tables t.tables t.one_table)
    (join m (behind MemoryItem [] m.memories) _ (typed_limits m MemoryItem memory_fits MemoryTyped (length (imported_memories m.imports)) typed_memory (λ before l k. none_map (fault (spot.Memory (length before))) (limits_why (memory_fits l) (length (imported_memories m.imports) + length before)) k) [] m.memories t.memories t.one_memory)
    (join m (behind GlobalItem [] m.globals) _ (all_pass m GlobalItem (GlobalTyped m) (passes_global m) [] m.globals t.globals)
    (join m (behind ExportItem [] m.exports) _ (typed_exports m [] m.exports t.exports ((distinct_law (map name_of m.exports)).1 t.names)) (
      passes_start m m.start t.start,
      join m (behind ElementItem [] m.element_segments) _ (all_pass m ElementItem (ElementTyped m) (passes_element m) [] m.element_segments t.element_segments)
          (join m (behind CodeItem [] m.funcs) _ (all_pass m CodeItem (FuncTyped m) (passes_body m) [] m.funcs t.funcs)
          (all_pass m DataItem (DataTyped m) (passes_data m) [] m.data_segments t.data_segments)),
    ))))))
