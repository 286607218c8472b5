-- Where each part of a module has a place, the first fault has one, and is told there.
use Rattle.std.proofs.Common.{◌≡◌, ◌<◌, ◌+◌, ℕ, List, [], ◌∷◌, ◌++◌, length, map, refl, ap, sym, ◌∙◌, subst, Some, None, Option, inl, inr, arith, length-append, append_assoc, append-nil}
use Rattle.std.specs.Prelude.{not, nat_lt, is_none, is_some, ◌⊎◌}
use Rattle.std.specs.List.{slice_get}
use Rattle.std.specs.Option.{option_or, option_map, option_and_then, IsSome}
use Rattle.std.proofs.lemmas.Option.{slice_get_within, slice_get-map}
use Rattle.faults.specs.Faults.{first_in, IfFault}
use Rattle.faults.specs.declared.memory.MemoryOr.{MemoryOr}
use Rattle.faults.specs.declared.memory.MemoryOr.TheVariants as or
use Rattle.syntax_trees.specs.declared.module_types.ValType.{ValType}
use Rattle.syntax_trees.specs.declared.module_types.ValType.TheVariants.{I32}
use Rattle.syntax_trees.specs.declared.module_types.GlobalType.{GlobalType}
use Rattle.syntax_trees.specs.declared.instr.ConstInstr.{ConstInstr}
use Rattle.syntax_trees.specs.declared.module.ModuleTree.{ModuleTree}
use Rattle.wasm_typing.specs.declared.module_places.ModulePlaces.{ModulePlaces}
use Rattle.wasm_typing.specs.declared.module_places.ModuleParts.{ModuleParts}
use Rattle.wasm_typing.specs.Places.{Fits}
use Rattle.syntax_trees.specs.Expr.{op_count}
use Rattle.wasm_typing.specs.declared.why.ValidWhy.{ValidWhy}
use Rattle.wasm_typing.specs.declared.spot.Spot.{Spot}
use Rattle.wasm_typing.specs.declared.spot.Spot.TheVariants as spot
use Rattle.wasm_typing.specs.declared.fault.Fault.{Fault}
use Rattle.wasm_typing.specs.declared.fault.PartFault.{PartFault}
use Rattle.wasm_typing.specs.declared.fault.ValidFault.{ValidFault}
use Rattle.wasm_typing.specs.Checking.{part_fault}
use Rattle.wasm_typing.specs.Modules.{imported_globals, imported_tables, imported_memories, func_space, table_count, memory_count, Typed}
use Rattle.wasm_typing.specs.Items.{fault, where_so, at_spot, at_part, const_why, end_why, instrs_fault, const_fault, funcs_fault, import_why, export_why, limits_why, table_fits, memory_fits, start_why, import_fault, type_fault, table_fault, memory_fault, global_fault, export_fault, start_fault, element_fault, data_fault}
use Rattle.wasm_typing.specs.Untyped.{place_of, func_of, StopsAt, Untyped}
use Rattle.wasm_typing.specs.Finding.{code_fault, first_fault, told, untyped}
use Rattle.wasm_typing.specs.Laws.{ToldWhereUntyped, ToldOrTyped, OneFault, TypedOrOneFault}
use Rattle.wasm_typing.proofs.Options.{get_within, get_behind}
use Rattle.wasm_typing.proofs.Listed.{map_some, code_stops, first_stops}
use Rattle.wasm_typing.proofs.Deciding.{module_typed, typed_module, faulty_untyped}

or_some : {A : Type 0} (a b : Option A) (x : A) → option_or a b ≡ Some x → (a ≡ Some x) ⊎ (b ≡ Some x)
or_some None b x h = inr h
or_some (Some y) b x h = inl h

-- the item of the first fault of a section
abbrev Found : {A : Type 0} → (List A → A → Option Fault) → List A → List A → Fault → Type 0
Found {A} rule before xs f = (pre : List A) × (x : A) × (post : List A) × (xs ≡ pre ++ x ∷ post) × (rule (before ++ pre) x ≡ Some f)

found_later : {A : Type 0} (rule : List A → A → Option Fault) (before : List A) (x : A) (xs : List A) (f : Fault) → Found rule (before ++ x ∷ []) xs f → Found rule before (x ∷ xs) f
found_later rule before x xs f p =
    (x ∷ p.0, p.1, p.2, ap (λ (xs : List _). x ∷ xs) p.3, ap (λ (b : List _). rule b p.1) (sym (append_assoc before (x ∷ []) p.0)) ∙ p.4)

found_on : {A : Type 0} (rule : List A → A → Option Fault) (before : List A) (x : A) (xs : List A) (o : Option Fault) (f : Fault) → rule before x ≡ o → option_or o (first_in rule (before ++ x ∷ []) xs) ≡ Some f → (first_in rule (before ++ x ∷ []) xs ≡ Some f → Found rule (before ++ x ∷ []) xs f) → Found rule before (x ∷ xs) f
found_on rule before x xs None f e h rest = found_later rule before x xs f (rest h)
found_on rule before x xs (Some g) f e h rest = ([], x, xs, refl, ap (λ (b : List _). rule b x) (append-nil before) ∙ e ∙ h)

found_in : {A : Type 0} (rule : List A → A → Option Fault) (before xs : List A) (f : Fault) → first_in rule before xs ≡ Some f → Found rule before xs f
found_in rule before [] f h = cc
found_in rule before (x ∷ xs) f h = found_on rule before x xs (rule before x) f refl h (λ k. found_in rule (before ++ x ∷ []) xs f k)

within : {A : Type 0} (xs pre : List A) (x : A) (post : List A) → xs ≡ pre ++ x ∷ post → length pre < length xs
within xs pre x post e = let n = ap length e in omega (arith, n, length-append pre (x ∷ post))

some_is : {A : Type 0} (o : Option A) (x : A) → o ≡ Some x → IsSome o
some_is o x e = ap is_some e

get_is : {A : Type 0} (xs : List A) (i : ℕ) → i < length xs → IsSome (slice_get xs i)
get_is xs i h = let p = get_within xs i h in some_is (slice_get xs i) p.0 p.1

-- the places of an item that has several
part_place : {P X : Type 0} (ps : List P) (xs : List X) (f : P → ℕ) (g : X → ℕ) (pre : List X) (x : X) (post : List X) → map f ps ≡ map g xs → xs ≡ pre ++ x ∷ post → (p : P) × (slice_get ps (length pre) ≡ Some p) × (f p ≡ g x)
part_place ps xs f g pre x post m e =
    let here : slice_get xs (length pre) ≡ Some x = ap (λ (xs : List _). slice_get xs (length pre)) e ∙ get_behind pre x post in
    let same : option_map f (slice_get ps (length pre)) ≡ Some (g x) =
    sym (slice_get-map f ps (length pre)) ∙ ap (λ (ns : List ℕ). slice_get ns (length pre)) m ∙ slice_get-map g xs (length pre) ∙ ap (option_map g) here in
    map_some f (slice_get ps (length pre)) (g x) same

at_spot_is : (s : Spot) (o : Option ValidWhy) (f : Fault) → at_spot s o ≡ Some f → s ≡ f.spot
at_spot_is s o f h = let p = map_some (fault s) o f h in ap (λ (f : Fault). f.spot) p.2

at_part_is : (place : ℕ → Spot) (o : Option PartFault) (f : Fault) → at_part place o ≡ Some f → (p : PartFault) × (o ≡ Some p) × (place p.at ≡ f.spot)
at_part_is place o f h = let p = map_some (λ (p : PartFault). fault (place p.at) p.why) o f h in (p.0, p.1, ap (λ (f : Fault). f.spot) p.2)

-- the number of the part
instr_at : (globals : List GlobalType) (at : ℕ) (instrs : List ConstInstr) (f : PartFault) → instrs_fault globals at instrs ≡ Some f → f.at < at + length instrs
instr_at globals at [] f h = cc
instr_at globals at (i ∷ instrs) f h =
    elim (or_some (option_map (part_fault at) (const_why globals i)) (instrs_fault globals (at + 1) instrs) f h) [
      | inl a ↦ (let p = map_some (part_fault at) (const_why globals i) f a in let e : at ≡ f.at = ap (λ (f : PartFault). f.at) p.2 in omega (arith, e))
      | inr b ↦ (let k = instr_at globals (at + 1) instrs f b in omega (arith, k))
    ]

const_at : (globals : List GlobalType) (type : ValType) (instrs : List ConstInstr) (f : PartFault) → const_fault globals type instrs ≡ Some f → f.at < length instrs + 1
const_at globals type instrs f h =
    elim (or_some (instrs_fault globals 0 instrs) (option_map (part_fault (length instrs)) (end_why globals type instrs)) f h) [
      | inl a ↦ (let k = instr_at globals 0 instrs f a in omega (arith, k))
      | inr b ↦ (let p = map_some (part_fault (length instrs)) (end_why globals type instrs) f b in let e : length instrs ≡ f.at = ap (λ (f : PartFault). f.at) p.2 in omega (arith, e))
    ]

func_at : (count at : ℕ) (indices : List ℕ) (f : PartFault) → funcs_fault count at indices ≡ Some f → f.at < at + length indices
func_at count at [] f h = cc
func_at count at (index ∷ indices) f h =
    elim (or_some (option_map (part_fault at) (where_so (not (nat_lt index count)) _)) (funcs_fault count (at + 1) indices) f h) [
      | inl a ↦ (let p = map_some (part_fault at) (where_so (not (nat_lt index count)) _) f a in let e : at ≡ f.at = ap (λ (f : PartFault). f.at) p.2 in omega (arith, e))
      | inr b ↦ (let k = func_at count (at + 1) indices f b in omega (arith, k))
    ]

abbrev HasPlace : ModulePlaces → Spot → Type 0
HasPlace places s = IsSome (place_of places s)

placed_at : (places : ModulePlaces) (s : Spot) (f : Fault) → s ≡ f.spot → HasPlace places s → HasPlace places f.spot
placed_at places s f e h = subst (HasPlace places) e h

-- a place in a list of an item's
inner : {P : Type 0} (ps : List P) (n : ℕ) (list : P → List ℕ) (p : P) (k : ℕ) → slice_get ps n ≡ Some p → k < length (list p) → IsSome (option_and_then (λ p. slice_get (list p) k) (slice_get ps n))
inner ps n list p k e h = subst (λ (o : Option _). IsSome (option_and_then (λ p. slice_get (list p) k) o)) (sym e) (get_is (list p) k h)

outer : {P : Type 0} (ps : List P) (n : ℕ) (place : P → ℕ) (p : P) → slice_get ps n ≡ Some p → IsSome (option_map place (slice_get ps n))
outer ps n place p e = subst (λ (o : Option _). IsSome (option_map place o)) (sym e) refl

import_placed : (m : ModuleTree) (places : ModulePlaces) (f : Fault) → Fits m places → first_in (import_fault m) [] m.imports ≡ Some f → HasPlace places f.spot
import_placed m places f fits h =
    let p = found_in (import_fault m) [] m.imports f h in
    placed_at places (spot.Import (length p.0)) f (at_spot_is (spot.Import (length p.0)) (import_why m p.0 p.1.desc) f p.4)
    (get_is places.imports (length p.0) (omega (arith, within m.imports p.0 p.1 p.2 p.3, fits.imports)))

func_placed : (m : ModuleTree) (places : ModulePlaces) (f : Fault) → Fits m places → first_in (type_fault m) [] m.funcs ≡ Some f → HasPlace places f.spot
func_placed m places f fits h =
    let p = found_in (type_fault m) [] m.funcs f h in
    let q = part_place places.funcs m.funcs (λ p. length p.ops) (λ f. op_count f.body) p.0 p.1 p.2 fits.funcs p.3 in
    placed_at places (spot.Func (length p.0)) f (at_spot_is (spot.Func (length p.0)) (where_so (is_none (slice_get m.types p.1.type_index)) _) f p.4)
    (outer places.funcs (length p.0) (λ p. p.place) q.0 q.1)

table_placed : (m : ModuleTree) (places : ModulePlaces) (f : Fault) → Fits m places → first_in (table_fault m) [] m.tables ≡ Some f → HasPlace places f.spot
table_placed m places f fits h =
    let p = found_in (table_fault m) [] m.tables f h in
    placed_at places (spot.Table (length p.0)) f (at_spot_is (spot.Table (length p.0)) (limits_why (table_fits p.1) (length (imported_tables m.imports) + length p.0)) f p.4)
    (get_is places.tables (length p.0) (omega (arith, within m.tables p.0 p.1 p.2 p.3, fits.tables)))

memory_placed : (m : ModuleTree) (places : ModulePlaces) (f : Fault) → Fits m places → first_in (memory_fault m) [] m.memories ≡ Some f → HasPlace places f.spot
memory_placed m places f fits h =
    let p = found_in (memory_fault m) [] m.memories f h in
    placed_at places (spot.Memory (length p.0)) f (at_spot_is (spot.Memory (length p.0)) (limits_why (memory_fits p.1) (length (imported_memories m.imports) + length p.0)) f p.4)
    (get_is places.memories (length p.0) (omega (arith, within m.memories p.0 p.1 p.2 p.3, fits.memories)))

global_placed : (m : ModuleTree) (places : ModulePlaces) (f : Fault) → Fits m places → first_in (global_fault m) [] m.globals ≡ Some f → HasPlace places f.spot
global_placed m places f fits h =
    let p = found_in (global_fault m) [] m.globals f h in
    let q = part_place places.globals m.globals (λ p. length p.init) (λ g. length g.init + 1) p.0 p.1 p.2 fits.globals p.3 in
    let k = at_part_is (spot.Global (length p.0)) (const_fault (imported_globals m.imports) p.1.global_type.val_type p.1.init) f p.4 in
    placed_at places (spot.Global (length p.0) k.0.at) f k.2
    (inner places.globals (length p.0) (λ p. p.init) q.0 k.0.at q.1 (omega (arith, q.2, const_at (imported_globals m.imports) p.1.global_type.val_type p.1.init k.0 k.1)))

export_placed : (m : ModuleTree) (places : ModulePlaces) (f : Fault) → Fits m places → first_in (export_fault m) [] m.exports ≡ Some f → HasPlace places f.spot
export_placed m places f fits h =
    let p = found_in (export_fault m) [] m.exports f h in
    placed_at places (spot.Export (length p.0)) f (at_spot_is (spot.Export (length p.0)) (export_why m _ p.1.desc) f p.4)
    (get_is places.exports (length p.0) (omega (arith, within m.exports p.0 p.1 p.2 p.3, fits.exports)))

start_placed_on : (m : ModuleTree) (places : ModulePlaces) (f : Fault) (o : Option ℕ) → is_some places.start ≡ is_some o → start_fault m o ≡ Some f → HasPlace places f.spot
start_placed_on m places f None e h = cc
start_placed_on m places f (Some index) e h = placed_at places spot.Start f (at_spot_is spot.Start (start_why m index) f h) e

element_placed : (m : ModuleTree) (places : ModulePlaces) (f : Fault) → Fits m places → first_in (element_fault m) [] m.element_segments ≡ Some f → HasPlace places f.spot
element_placed m places f fits h =
    let p = found_in (element_fault m) [] m.element_segments f h in
    let n : ℕ = length p.0 in
    let q = part_place places.element_segments m.element_segments (λ p. length p.offset) (λ s. length s.offset + 1) p.0 p.1 p.2 fits.element_offsets p.3 in
    let r = part_place places.element_segments m.element_segments (λ p. length p.funcs) (λ s. length s.funcs) p.0 p.1 p.2 fits.element_funcs p.3 in
    let table : Option Fault = at_spot (spot.Element n) (where_so (not (nat_lt p.1.table (table_count m))) _) in
    let offset : Option Fault = at_part (spot.ElementOffset n) (const_fault (imported_globals m.imports) I32 p.1.offset) in
    let funcs : Option Fault = at_part (spot.ElementFunc n) (funcs_fault (length (func_space m)) 0 p.1.funcs) in
    elim (or_some table (option_or offset funcs) f p.4) [
      | inl a ↦ placed_at places (spot.Element n) f (at_spot_is (spot.Element n) (where_so (not (nat_lt p.1.table (table_count m))) _) f a) (outer places.element_segments n (λ p. p.place) q.0 q.1)
      | inr b ↦ elim (or_some offset funcs f b) [
        | inl c ↦ (let k = at_part_is (spot.ElementOffset n) (const_fault (imported_globals m.imports) I32 p.1.offset) f c in
            placed_at places (spot.ElementOffset n k.0.at) f k.2 (inner places.element_segments n (λ p. p.offset) q.0 k.0.at q.1 (omega (arith, q.2, const_at (imported_globals m.imports) I32 p.1.offset k.0 k.1))))
        | inr d ↦ (let k = at_part_is (spot.ElementFunc n) (funcs_fault (length (func_space m)) 0 p.1.funcs) f d in
            placed_at places (spot.ElementFunc n k.0.at) f k.2 (inner places.element_segments n (λ p. p.funcs) r.0 k.0.at r.1 (omega (arith, r.2, func_at (length (func_space m)) 0 p.1.funcs k.0 k.1))))
      ]
    ]

code_placed : (m : ModuleTree) (places : ModulePlaces) (f : Fault) → Fits m places → first_in (code_fault m) [] m.funcs ≡ Some f → HasPlace places f.spot
code_placed m places f fits h =
    let p = found_in (code_fault m) [] m.funcs f h in
    let q = part_place places.funcs m.funcs (λ p. length p.ops) (λ f. op_count f.body) p.0 p.1 p.2 fits.funcs p.3 in
    let s = code_stops m p.0 p.1 f p.4 in
    let k = slice_get_within _ s.2.0 s.2.1.0 s.2.1.1 in
    placed_at places (spot.Op (length p.0) s.2.0) f (sym s.2.2) (inner places.funcs (length p.0) (λ p. p.ops) q.0 s.2.0 q.1 (omega (arith, q.2, k)))

data_placed : (m : ModuleTree) (places : ModulePlaces) (f : Fault) → Fits m places → first_in (data_fault m) [] m.data_segments ≡ Some f → HasPlace places f.spot
data_placed m places f fits h =
    let p = found_in (data_fault m) [] m.data_segments f h in
    let n : ℕ = length p.0 in
    let q = part_place places.data_segments m.data_segments (λ p. length p.offset) (λ s. length s.offset + 1) p.0 p.1 p.2 fits.data_offsets p.3 in
    let memory : Option Fault = at_spot (spot.Data n) (where_so (not (nat_lt p.1.memory (memory_count m))) _) in
    let offset : Option Fault = at_part (spot.DataOffset n) (const_fault (imported_globals m.imports) I32 p.1.offset) in
    elim (or_some memory offset f p.4) [
      | inl a ↦ placed_at places (spot.Data n) f (at_spot_is (spot.Data n) (where_so (not (nat_lt p.1.memory (memory_count m))) _) f a) (outer places.data_segments n (λ p. p.place) q.0 q.1)
      | inr c ↦ (let k = at_part_is (spot.DataOffset n) (const_fault (imported_globals m.imports) I32 p.1.offset) f c in
          placed_at places (spot.DataOffset n k.0.at) f k.2 (inner places.data_segments n (λ p. p.offset) q.0 k.0.at q.1 (omega (arith, q.2, const_at (imported_globals m.imports) I32 p.1.offset k.0 k.1))))
    ]

-- the fault of one of two
either : {P : Type 0} (a b : Option Fault) (f : Fault) → (a ≡ Some f → P) → (b ≡ Some f → P) → option_or a b ≡ Some f → P
either None b f g k h = k h
either (Some x) b f g k h = g h

pub fault_placed : (m : ModuleTree) (places : ModulePlaces) → Fits m places → (f : Fault) → first_fault m ≡ Some f → IsSome (place_of places f.spot)
fault_placed m places fits f h =
    either (first_in (import_fault m) [] m.imports) _ f (import_placed m places f fits)
    (either (first_in (type_fault m) [] m.funcs) _ f (func_placed m places f fits)
    (either (first_in (table_fault m) [] m.tables) _ f (table_placed m places f fits)
    (either (first_in (memory_fault m) [] m.memories) _ f (memory_placed m places f fits)
    (either (first_in (global_fault m) [] m.globals) _ f (global_placed m places f fits)
    (either (first_in (export_fault m) [] m.exports) _ f (export_placed m places f fits)
    (either (start_fault m m.start) _ f (start_placed_on m places f m.start fits.start)
    (either (first_in (element_fault m) [] m.element_segments) _ f (element_placed m places f fits)
    (either (first_in (code_fault m) [] m.funcs) (first_in (data_fault m) [] m.data_segments) f (code_placed m places f fits) (data_placed m places f fits))))))))) h

-- what is told
abbrev told_of : Fault → ℕ → ValidFault
told_of f place = record { func = func_of f.spot; place = place; why = f.why }

pub told_untyped : (m : ModuleTree) (places : ModulePlaces) (f : Fault) (t : ValidFault) → first_fault m ≡ Some f → told places f ≡ Some t → Untyped m places t.func t.place t.why
told_untyped m places f t h e =
    let p = map_some (told_of f) (place_of places f.spot) t e in
    let w : f.why ≡ t.why = ap (λ (t : ValidFault). t.why) p.2 in
    let place : p.0 ≡ t.place = ap (λ (t : ValidFault). t.place) p.2 in (
      f.spot,
      subst (λ (w : ValidWhy). StopsAt m (fault f.spot w)) w ((first_stops m f).0 h),
      ap (λ (t : ValidFault). t.func) p.2,
      p.1 ∙ ap (λ (n : ℕ). (let o : Option ℕ = Some n in o)) place,
    )

pub told_where : (m : ModuleTree) (places : ModulePlaces) (f : Fault) (t : ValidFault) → first_fault m ≡ Some f → told places f ≡ Some t → untyped m places ≡ Some t
told_where m places f t h e = ap (option_and_then (told places)) h ∙ e

untyped_on : (m : ModuleTree) (places : ModulePlaces) (t : ValidFault) (o : Option Fault) → first_fault m ≡ o → option_and_then (told places) o ≡ Some t → Untyped m places t.func t.place t.why
untyped_on m places t None e h = cc
untyped_on m places t (Some f) e h = told_untyped m places f t e h

untyped_told : (m : ModuleTree) (places : ModulePlaces) (t : ValidFault) → Untyped m places t.func t.place t.why → untyped m places ≡ Some t
untyped_told m places t u =
    told_where m places (fault u.0 t.why) t ((first_stops m (fault u.0 t.why)).1 u.1)
    (ap (option_map (told_of (fault u.0 t.why))) u.3 ∙ ap (λ (func : Option ℕ). (let o : Option ValidFault = Some (record { func = func; place = t.place; why = t.why }) in o)) u.2)

pub told_where_untyped : ToldWhereUntyped
told_where_untyped m places t = (untyped_on m places t (first_fault m) refl, untyped_told m places t)

told_some_on : (f : Fault) (o : Option ℕ) → IsSome o → (t : ValidFault) × (option_map (told_of f) o ≡ Some t)
told_some_on f None h = cc
told_some_on f (Some place) h = (told_of f place, refl)

told_some : (m : ModuleTree) (places : ModulePlaces) (f : Fault) → IsSome (place_of places f.spot) → (t : ValidFault) × (told places f ≡ Some t)
told_some m places f h = told_some_on f (place_of places f.spot) h

none_typed_on : (m : ModuleTree) (places : ModulePlaces) (o : Option Fault) → Fits m places → first_fault m ≡ o → option_and_then (told places) o ≡ None → Typed m
none_typed_on m places None fits e h = module_typed m e
none_typed_on m places (Some f) fits e h = let p = told_some m places f (fault_placed m places fits f e) in let n : Some p.0 ≡ None = sym p.1 ∙ h in cc

typed_none : (m : ModuleTree) (places : ModulePlaces) → Typed m → untyped m places ≡ None
typed_none m places t = ap (option_and_then (told places)) (typed_module m t)

pub told_or_typed : ToldOrTyped
told_or_typed m places fits = (none_typed_on m places (first_fault m) fits refl, typed_none m places)

some_one : (a b : ValidFault) → Some a ≡ Some b → a ≡ b
some_one a b e = cc

one_on : (m : ModuleTree) (places : ModulePlaces) (o : Option Fault) → Fits m places → first_fault m ≡ o → (Typed m × (untyped m places ≡ None)) ⊎ (OneFault m places × ¬ Typed m)
one_on m places None fits e = let t = module_typed m e in inl (t, typed_none m places t)
one_on m places (Some f) fits e =
    let p = told_some m places f (fault_placed m places fits f e) in
    let here : untyped m places ≡ Some p.0 = told_where m places f p.0 e p.1 in
    inr ((p.0, told_untyped m places f p.0 e p.1, λ other u. some_one other p.0 (sym (untyped_told m places other u) ∙ here)), faulty_untyped m f e)

pub typed_or_one : TypedOrOneFault
typed_or_one m places fits = one_on m places (first_fault m) fits refl

-- what a refused module is told
pub error_untyped : (p q : ModuleParts) (f : Fault) (e : MemoryOr ValidFault) → p ≡ q → first_fault p.tree ≡ Some f → IfFault e (λ t. told p.places f ≡ Some t) → IfFault e (λ t. Untyped q.tree q.places t.func t.place t.why)
error_untyped p q f or.Memory same h k = tt
error_untyped p q f (or.Fault t) same h k = subst (λ (q : ModuleParts). Untyped q.tree q.places t.func t.place t.why) same (told_untyped p.tree p.places f t h k)

pub error_ill : (p q : ModuleParts) (f : Fault) (e : MemoryOr ValidFault) → p ≡ q → first_fault p.tree ≡ Some f → IfFault e (λ (t : ValidFault). Typed q.tree → ⊥)
error_ill p q f or.Memory same h = tt
error_ill p q f (or.Fault t) same h = subst (λ (q : ModuleParts). Typed q.tree → ⊥) same (faulty_untyped p.tree f h)
