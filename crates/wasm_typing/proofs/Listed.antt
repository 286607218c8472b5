-- The first fault of a list of items, in any of its forms.
use Rattle.std.proofs.Common.{◌≡◌, List, [], ◌∷◌, ◌++◌, length, refl, ap, ap₂, sym, ◌∙◌, subst, Some, None, Option}
use Rattle.std.specs.Prelude.{◌↔◌}
use Rattle.std.specs.List.{slice_get, AllByRecursion}
use Rattle.std.specs.Option.{option_or, option_map, option_and_then}
use Rattle.faults.specs.Faults.{first_in}
use Rattle.syntax_trees.specs.declared.module_types.FuncType.{FuncType}
use Rattle.syntax_trees.specs.declared.instr.BlockType.TheVariants.{TypeIndex}
use Rattle.syntax_trees.specs.declared.module.Func.{Func}
use Rattle.syntax_trees.specs.declared.module.ModuleTree.{ModuleTree}
use Rattle.wasm_typing.specs.declared.spot.Spot.TheVariants as spot
use Rattle.wasm_typing.specs.declared.fault.Fault.{Fault}
use Rattle.wasm_typing.specs.declared.fault.PartFault.{PartFault}
use Rattle.wasm_typing.specs.Context.{results, found_type}
use Rattle.wasm_typing.specs.Faults.{BodyStops}
use Rattle.wasm_typing.specs.Checking.{body_fault}
use Rattle.wasm_typing.specs.Modules.{func_context}
use Rattle.wasm_typing.specs.Items.{fault, import_fault, type_fault, table_fault, memory_fault, global_fault, export_fault, start_fault, element_fault, data_fault}
use Rattle.wasm_typing.specs.Untyped.{Item, ImportItem, FuncItem, TableItem, MemoryItem, GlobalItem, ExportItem, ElementItem, CodeItem, DataItem, behind, items, item_fault, BodyPasses, ItemPasses, CodeStops, ItemStops, StopsAt}
use Rattle.wasm_typing.specs.Finding.{code_fault, first_fault}
use Rattle.wasm_typing.proofs.Options.{map_none, or_none}
use Rattle.wasm_typing.proofs.Singles.{none_or, none_map}
use Rattle.wasm_typing.proofs.Trees.{typed_law, fault_law}

-- the fault of an item, of a body too
abbrev pub whole_fault : ModuleTree → Item → Option Fault
whole_fault m (CodeItem before func) = code_fault m before func
whole_fault m item = item_fault m item

-- the type of a body
own_results : (m : ModuleTree) (func : Func) (type : FuncType) → slice_get m.types func.type_index ≡ Some type → results m.types (TypeIndex func.type_index) ≡ type.results
own_results m func type e = ap (λ (o : Option FuncType). (found_type o).results) e

abbrev found_at : List Func → PartFault → Fault
found_at before found = fault (spot.Op (length before) found.at) found.why

abbrev code_by : ModuleTree → List Func → Func → Option FuncType → Option Fault
code_by m before func o = option_map (found_at before) (option_and_then (λ type. body_fault (func_context m func type) (TypeIndex func.type_index) func.body) o)

code_passes : (m : ModuleTree) (before : List Func) (func : Func) → code_fault m before func ≡ None → BodyPasses m func
code_passes m before func h type e =
    let body : option_map (found_at before) (body_fault (func_context m func type) (TypeIndex func.type_index) func.body) ≡ None = sym (ap (code_by m before func) e) ∙ h in
    (typed_law (func_context m func type) (TypeIndex func.type_index) func.body (own_results m func type e)).0
    (map_none (found_at before) (body_fault (func_context m func type) (TypeIndex func.type_index) func.body) body)

passes_code_by : (m : ModuleTree) (before : List Func) (func : Func) (o : Option FuncType) → slice_get m.types func.type_index ≡ o → BodyPasses m func → code_by m before func o ≡ None
passes_code_by m before func None e p = refl
passes_code_by m before func (Some type) e p =
    none_map (found_at before) (body_fault (func_context m func type) (TypeIndex func.type_index) func.body)
    ((typed_law (func_context m func type) (TypeIndex func.type_index) func.body (own_results m func type e)).1 (p type e))

passes_code : (m : ModuleTree) (before : List Func) (func : Func) → BodyPasses m func → code_fault m before func ≡ None
passes_code m before func p = passes_code_by m before func (slice_get m.types func.type_index) refl p

pub map_some : {A B : Type 0} (f : A → B) (o : Option A) (y : B) → option_map f o ≡ Some y → (x : A) × (o ≡ Some x) × (f x ≡ y)
map_some f None y h = cc
map_some f (Some x) y h = (x, refl, cc)

code_stops_by : (m : ModuleTree) (before : List Func) (func : Func) (o : Option FuncType) (found : Fault) → slice_get m.types func.type_index ≡ o → code_by m before func o ≡ Some found → CodeStops m before func found
code_stops_by m before func None found e h = cc
code_stops_by m before func (Some type) found e h =
    let p = map_some (found_at before) (body_fault (func_context m func type) (TypeIndex func.type_index) func.body) found h in
    let w : p.0.why ≡ found.why = ap (λ (f : Fault). f.why) p.2 in
    let stops = (fault_law (func_context m func type) (TypeIndex func.type_index) func.body p.0.at p.0.why).0 p.1 in
    (type, e, (p.0.at, subst (BodyStops (func_context m func type) (TypeIndex func.type_index) func.body p.0.at) w stops, sym (ap (λ (f : Fault). f.spot) p.2)))

pub code_stops : (m : ModuleTree) (before : List Func) (func : Func) (found : Fault) → code_fault m before func ≡ Some found → CodeStops m before func found
code_stops m before func found h = code_stops_by m before func (slice_get m.types func.type_index) found refl h

stops_code : (m : ModuleTree) (before : List Func) (func : Func) (found : Fault) → CodeStops m before func found → code_fault m before func ≡ Some found
stops_code m before func found s =
    let body = (fault_law (func_context m func s.0) (TypeIndex func.type_index) func.body s.2.0 found.why).1 s.2.1 in
    ap (code_by m before func) s.1 ∙ ap (option_map (found_at before)) body
    ∙ ap (λ (at : _). (let o : Option Fault = Some (fault at found.why) in o)) (sym s.2.2)

pub passes_none : (m : ModuleTree) (item : Item) → ItemPasses m item → whole_fault m item ≡ None
passes_none m (CodeItem before func) h = passes_code m before func h
passes_none m item h = h

pub none_passes : (m : ModuleTree) (item : Item) → whole_fault m item ≡ None → ItemPasses m item
none_passes m (CodeItem before func) h = code_passes m before func h
none_passes m item h = h

pub stops_some : (m : ModuleTree) (item : Item) (found : Fault) → ItemStops m item found → whole_fault m item ≡ Some found
stops_some m (CodeItem before func) found h = stops_code m before func found h
stops_some m item found h = h

pub some_stops : (m : ModuleTree) (item : Item) (found : Fault) → whole_fault m item ≡ Some found → ItemStops m item found
some_stops m (CodeItem before func) found h = code_stops m before func found h
some_stops m item found h = h

-- the first fault of items
abbrev pub first_of : (Item → Option Fault) → List Item → Option Fault
first_of f [] = None
first_of f (x ∷ xs) = option_or (f x) (first_of f xs)

or_assoc : {A : Type 0} (a b c : Option A) → option_or a (option_or b c) ≡ option_or (option_or a b) c
or_assoc None b c = refl
or_assoc (Some x) b c = refl

first_append : (f : Item → Option Fault) (xs ys : List Item) → first_of f (xs ++ ys) ≡ option_or (first_of f xs) (first_of f ys)
first_append f [] ys = refl
first_append f (x ∷ xs) ys = ap (option_or (f x)) (first_append f xs ys) ∙ or_assoc (f x) (first_of f xs) (first_of f ys)

first_behind : {A : Type 0} (f : Item → Option Fault) (item : List A → A → Item) (rule : List A → A → Option Fault) → ((before : List A) (x : A) → f (item before x) ≡ rule before x) → (before xs : List A) → first_of f (behind item before xs) ≡ first_in rule before xs
first_behind f item rule same before [] = refl
first_behind f item rule same before (x ∷ xs) = ap₂ option_or (same before x) (first_behind f item rule same (before ++ x ∷ []) xs)

section : {A : Type 0} (f : Item → Option Fault) (item : List A → A → Item) (rule : List A → A → Option Fault) → ((before : List A) (x : A) → f (item before x) ≡ rule before x) → (xs : List A) (rest : List Item) (r : Option Fault) → first_of f rest ≡ r → first_of f (behind item [] xs ++ rest) ≡ option_or (first_in rule [] xs) r
section f item rule same xs rest r e = first_append f (behind item [] xs) rest ∙ ap₂ option_or (first_behind f item rule same [] xs) e

pub first_is : (m : ModuleTree) → first_of (whole_fault m) (items m) ≡ first_fault m
first_is m =
    let f = whole_fault m in
    section f ImportItem (import_fault m) (λ before x. refl) m.imports _ _
    (section f FuncItem (type_fault m) (λ before x. refl) m.funcs _ _
    (section f TableItem (table_fault m) (λ before x. refl) m.tables _ _
    (section f MemoryItem (memory_fault m) (λ before x. refl) m.memories _ _
    (section f GlobalItem (global_fault m) (λ before x. refl) m.globals _ _
    (section f ExportItem (export_fault m) (λ before x. refl) m.exports _ _
    (ap (option_or (start_fault m m.start))
    (section f ElementItem (element_fault m) (λ before x. refl) m.element_segments _ _
    (section f CodeItem (code_fault m) (λ before x. refl) m.funcs _ _
    (first_behind f DataItem (data_fault m) (λ before x. refl) [] m.data_segments)))))))))

-- a list of which no item has a fault
pub none_all : (m : ModuleTree) (xs : List Item) → first_of (whole_fault m) xs ≡ None → AllByRecursion (ItemPasses m) xs
none_all m [] h = tt
none_all m (x ∷ xs) h = let p = or_none (whole_fault m x) (first_of (whole_fault m) xs) h in (none_passes m x p.0, none_all m xs p.1)

pub all_none : (m : ModuleTree) (xs : List Item) → AllByRecursion (ItemPasses m) xs → first_of (whole_fault m) xs ≡ None
all_none m [] h = refl
all_none m (x ∷ xs) h = none_or (whole_fault m x) (first_of (whole_fault m) xs) (passes_none m x h.0) (all_none m xs h.1)

-- the first item that has one
abbrev pub FirstStops : ModuleTree → List Item → Fault → Type 0
FirstStops m xs found = (before : List Item) × (item : Item) × (after : List Item) × (xs ≡ before ++ item ∷ after) × AllByRecursion (ItemPasses m) before × ItemStops m item found

stop_later : (m : ModuleTree) (x : Item) (xs : List Item) (found : Fault) → whole_fault m x ≡ None → FirstStops m xs found → FirstStops m (x ∷ xs) found
stop_later m x xs found e s = (x ∷ s.0, s.1, s.2, ap (λ (xs : List Item). x ∷ xs) s.3, (none_passes m x e, s.4), s.5)

some_first_on : (m : ModuleTree) (x : Item) (xs : List Item) (o : Option Fault) (found : Fault) → whole_fault m x ≡ o → option_or o (first_of (whole_fault m) xs) ≡ Some found → (first_of (whole_fault m) xs ≡ Some found → FirstStops m xs found) → FirstStops m (x ∷ xs) found
some_first_on m x xs None found e h rest = stop_later m x xs found e (rest h)
some_first_on m x xs (Some f) found e h rest = ([], x, xs, refl, tt, some_stops m x found (e ∙ h))

pub some_first : (m : ModuleTree) (xs : List Item) (found : Fault) → first_of (whole_fault m) xs ≡ Some found → FirstStops m xs found
some_first m [] found h = cc
some_first m (x ∷ xs) found h = some_first_on m x xs (whole_fault m x) found refl h (λ k. some_first m xs found k)

first_some_in : (m : ModuleTree) (before : List Item) (item : Item) (after : List Item) (found : Fault) → AllByRecursion (ItemPasses m) before → ItemStops m item found → first_of (whole_fault m) (before ++ item ∷ after) ≡ Some found
first_some_in m [] item after found a s = ap (λ (o : Option Fault). option_or o (first_of (whole_fault m) after)) (stops_some m item found s)
first_some_in m (x ∷ before) item after found a s =
    ap (λ (o : Option Fault). option_or o (first_of (whole_fault m) (before ++ item ∷ after))) (passes_none m x a.0) ∙ first_some_in m before item after found a.1 s

pub first_some : (m : ModuleTree) (xs : List Item) (found : Fault) → FirstStops m xs found → first_of (whole_fault m) xs ≡ Some found
first_some m xs found s = ap (first_of (whole_fault m)) s.3 ∙ first_some_in m s.0 s.1 s.2 found s.4 s.5

pub first_stops : (m : ModuleTree) (found : Fault) → (first_fault m ≡ Some found) ↔ StopsAt m found
first_stops m found = (λ h. some_first m (items m) found (first_is m ∙ h), λ s. sym (first_is m) ∙ first_some m (items m) found s)
