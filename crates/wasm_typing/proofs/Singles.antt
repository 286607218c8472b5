-- What the rules on single items say, where no fact breaks them.
use Rattle.std.proofs.Common.{◌≡◌, ◌<◌, ◌≤◌, ◌+◌, ℕ, zero, suc, Bool, true, false, List, [], ◌∷◌, length, refl, ap, sym, ◌∙◌, subst, Some, None, Option, arith}
use Rattle.std.specs.Prelude.{not, ◌&&◌, nat_lt, nat_le, is_none}
use Rattle.std.specs.List.{slice_get, AllByRecursion}
use Rattle.std.specs.Option.{option_or, option_map, option_and_then, IfSome, IsSome, is_some}
use Rattle.std.proofs.lemmas.Bool.Decides.{nat_tests}
use Rattle.syntax_trees.specs.declared.module_types.ValType.{ValType}
use Rattle.syntax_trees.specs.declared.module_types.FuncType.{FuncType}
use Rattle.syntax_trees.specs.declared.module_types.Limits.{Limits}
use Rattle.syntax_trees.specs.declared.module_types.GlobalType.{GlobalType}
use Rattle.syntax_trees.specs.declared.module_types.Mutability.{Mutability}
use Rattle.syntax_trees.specs.declared.module_types.Mutability.TheVariants.{Constant, Variable}
use Rattle.syntax_trees.specs.declared.instr.ConstInstr.{ConstInstr}
use Rattle.syntax_trees.specs.declared.instr.ConstInstr.TheVariants as const
use Rattle.syntax_trees.specs.declared.module.ExportDesc.{ExportDesc}
use Rattle.syntax_trees.specs.declared.module.ExportDesc.TheVariants as export
use Rattle.syntax_trees.specs.declared.module.ModuleTree.{ModuleTree}
use Rattle.wasm_typing.specs.declared.why.ValidWhy.{ValidWhy}
use Rattle.wasm_typing.specs.declared.why.ValidWhy.TheVariants as why
use Rattle.wasm_typing.specs.Checking.{part_fault}
use Rattle.wasm_typing.specs.Modules.{TableTyped, MemoryTyped, entry_limit, page_limit, const_type, constant_of, ConstTyped, ExportTyped, StartTyped, func_space, table_count, memory_count, global_space, type_of_func}
use Rattle.wasm_typing.specs.Instrs.{is_constant}
use Rattle.wasm_typing.specs.Items.{where_so, max_fits, table_fits, memory_fits, limits_why, global_why, const_why, has_type, end_why, instrs_fault, const_fault, is_there, is_empty, is_start, start_why, funcs_fault}
use Rattle.wasm_typing.proofs.Knowing.{same_is, same_self}
use Rattle.wasm_typing.proofs.Options.{map_none, or_none}

pub none_or : {A : Type 0} (a b : Option A) → a ≡ None → b ≡ None → option_or a b ≡ None
none_or None b e f = f
none_or (Some x) b e f = cc

pub none_map : {A B : Type 0} (f : A → B) (o : Option A) → o ≡ None → option_map f o ≡ None
none_map f o e = ap (option_map f) e

pub so_none : (b : Bool) (w : ValidWhy) → where_so b w ≡ None → b ≡ false
so_none true w h = cc
so_none false w h = refl

pub none_so : (b : Bool) (w : ValidWhy) → b ≡ false → where_so b w ≡ None
none_so b w e = ap (λ (b : Bool). where_so b w) e

pub not_false : (b : Bool) → not b ≡ false → b ≡ true
not_false true h = refl
not_false false h = cc

pub true_not : (b : Bool) → b ≡ true → not b ≡ false
true_not b e = ap not e

le_is : (m n : ℕ) → nat_le m n ≡ true → m ≤ n
le_is m n h = grind (arith, nat_tests)

is_le : (m n : ℕ) → m ≤ n → nat_le m n ≡ true
is_le m n h = grind (arith, nat_tests)

pub lt_is : (m n : ℕ) → nat_lt m n ≡ true → m < n
lt_is m n h = grind (arith, nat_tests)

pub is_lt : (m n : ℕ) → m < n → nat_lt m n ≡ true
is_lt m n h = grind (arith, nat_tests)

zero_is : (n : ℕ) → nat_lt 0 n ≡ false → n ≡ 0
zero_is n h = grind (arith, nat_tests)

is_zero : (n : ℕ) → n ≡ 0 → nat_lt 0 n ≡ false
is_zero n h = grind (arith, nat_tests)

and_both : (a b : Bool) → (a && b) ≡ true → (a ≡ true) × (b ≡ true)
and_both true b h = (refl, h)
and_both false b h = cc

both_and : (a b : Bool) → a ≡ true → b ≡ true → (a && b) ≡ true
both_and true b e f = f
both_and false b e f = cc

-- limits
max_in : (range min : ℕ) (max : Option ℕ) → max_fits (λ max. nat_le max range && nat_le min max) max ≡ true → IfSome max (λ max. (max ≤ range) × (min ≤ max))
max_in range min None h = tt
max_in range min (Some max) h = let p = and_both (nat_le max range) (nat_le min max) h in (le_is max range p.0, le_is min max p.1)

in_max : (range min : ℕ) (max : Option ℕ) → IfSome max (λ max. (max ≤ range) × (min ≤ max)) → max_fits (λ max. nat_le max range && nat_le min max) max ≡ true
in_max range min None h = refl
in_max range min (Some max) h = both_and (nat_le max range) (nat_le min max) (is_le max range h.0) (is_le min max h.1)

limits_in : (range min : ℕ) (max : Option ℕ) → (nat_le min range && max_fits (λ max. nat_le max range && nat_le min max) max) ≡ true → (min ≤ range) × IfSome max (λ max. (max ≤ range) × (min ≤ max))
limits_in range min max h =
    let p = and_both (nat_le min range) (max_fits (λ max. nat_le max range && nat_le min max) max) h in
    (le_is min range p.0, max_in range min max p.1)

in_limits : (range min : ℕ) (max : Option ℕ) → (min ≤ range) × IfSome max (λ max. (max ≤ range) × (min ≤ max)) → (nat_le min range && max_fits (λ max. nat_le max range && nat_le min max) max) ≡ true
in_limits range min max h =
    both_and (nat_le min range) (max_fits (λ max. nat_le max range && nat_le min max) max) (is_le min range h.0) (in_max range min max h.1)

pub table_typed : (limits : Limits) → table_fits limits ≡ true → TableTyped limits
table_typed limits h = limits_in entry_limit limits.min limits.max h

pub typed_table : (limits : Limits) → TableTyped limits → table_fits limits ≡ true
typed_table limits h = in_limits entry_limit limits.min limits.max h

pub memory_typed : (limits : Limits) → memory_fits limits ≡ true → MemoryTyped limits
memory_typed limits h = limits_in page_limit limits.min limits.max h

pub typed_memory : (limits : Limits) → MemoryTyped limits → memory_fits limits ≡ true
typed_memory limits h = in_limits page_limit limits.min limits.max h

pub limits_none : (fits : Bool) (count : ℕ) → limits_why fits count ≡ None → (fits ≡ true) × (count ≡ 0)
limits_none fits count h =
    let p = or_none (where_so (not fits) why.Typing) (where_so (nat_lt 0 count) why.Limit) h in
    (not_false fits (so_none (not fits) why.Typing p.0), zero_is count (so_none (nat_lt 0 count) why.Limit p.1))

pub none_limits : (fits : Bool) (count : ℕ) → fits ≡ true → count ≡ 0 → limits_why fits count ≡ None
none_limits fits count e f =
    none_or (where_so (not fits) why.Typing) (where_so (nat_lt 0 count) why.Limit) (none_so (not fits) why.Typing (true_not fits e)) (none_so (nat_lt 0 count) why.Limit (is_zero count f))

-- what is there
pub some_there : {A : Type 0} (o : Option A) → is_none o ≡ false → (x : A) × (o ≡ Some x)
some_there None h = cc
some_there (Some x) h = (x, refl)

pub there_some : {A : Type 0} (o : Option A) (x : A) → o ≡ Some x → is_none o ≡ false
there_some o x e = ap is_none e

pub is_some_there : {A : Type 0} (o : Option A) (x : A) → o ≡ Some x → IsSome o
is_some_there o x e = ap is_some e

pub some_not_none : {A : Type 0} (o : Option A) → IsSome o → is_none o ≡ false
some_not_none None h = cc
some_not_none (Some x) h = refl

-- constant expressions
has_is : (type : ValType) (o : Option ValType) → has_type type o ≡ true → o ≡ Some type
has_is type None h = cc
has_is type (Some found) h = let e = same_is found type h in ap (λ (t : ValType). Some t) e

is_has : (type : ValType) (o : Option ValType) → o ≡ Some type → has_type type o ≡ true
is_has type o e = ap (has_type type) e ∙ same_self type

end_typed : (globals : List GlobalType) (type : ValType) (instrs : List ConstInstr) → end_why globals type instrs ≡ None → ConstTyped globals type instrs
end_typed globals type [] h = cc
end_typed globals type (i ∷ []) h =
    (i, refl, has_is type (const_type globals i) (not_false (has_type type (const_type globals i)) (so_none (not (has_type type (const_type globals i))) why.Typing h)))
end_typed globals type (i ∷ j ∷ instrs) h = cc

pub const_typed : (globals : List GlobalType) (type : ValType) (instrs : List ConstInstr) → const_fault globals type instrs ≡ None → ConstTyped globals type instrs
const_typed globals type instrs h =
    let p = or_none (instrs_fault globals 0 instrs) (option_map (part_fault (length instrs)) (end_why globals type instrs)) h in
    end_typed globals type instrs (map_none (part_fault (length instrs)) (end_why globals type instrs) p.1)

constant_is : (g : GlobalType) (m : Mutability) (type : ValType) → constant_of g m ≡ Some type → is_constant m ≡ true
constant_is g Constant type h = refl
constant_is g Variable type h = cc

global_none : (o : Option GlobalType) (type : ValType) → option_and_then (λ g. constant_of g g.mutability) o ≡ Some type → global_why o ≡ None
global_none None type h = cc
global_none (Some g) type h = none_so (not (is_constant g.mutability)) why.Typing (true_not (is_constant g.mutability) (constant_is g g.mutability type h))

const_none : (globals : List GlobalType) (i : ConstInstr) (type : ValType) → const_type globals i ≡ Some type → const_why globals i ≡ None
const_none globals (const.I32Const value) type h = refl
const_none globals (const.I64Const value) type h = refl
const_none globals (const.GlobalGet index) type h = global_none (slice_get globals index) type h

typed_one : (globals : List GlobalType) (type : ValType) (i : ConstInstr) → const_type globals i ≡ Some type → const_fault globals type (i ∷ []) ≡ None
typed_one globals type i h =
    let first : instrs_fault globals 0 (i ∷ []) ≡ None = none_or (option_map (part_fault 0) (const_why globals i)) None (none_map (part_fault 0) (const_why globals i) (const_none globals i type h)) refl in
    let end : end_why globals type (i ∷ []) ≡ None = none_so (not (has_type type (const_type globals i))) why.Typing (true_not (has_type type (const_type globals i)) (is_has type (const_type globals i) h)) in
    none_or (instrs_fault globals 0 (i ∷ [])) (option_map (part_fault 1) (end_why globals type (i ∷ []))) first (none_map (part_fault 1) (end_why globals type (i ∷ [])) end)

pub typed_const : (globals : List GlobalType) (type : ValType) (instrs : List ConstInstr) → ConstTyped globals type instrs → const_fault globals type instrs ≡ None
typed_const globals type instrs t = subst (λ (instrs : List ConstInstr). const_fault globals type instrs ≡ None) (sym t.1) (typed_one globals type t.0 t.2)

-- exports
pub export_typed : (m : ModuleTree) (desc : ExportDesc) → is_there m desc ≡ true → ExportTyped m desc
export_typed m (export.Func index) h = lt_is index (length (func_space m)) h
export_typed m (export.Table index) h = lt_is index (table_count m) h
export_typed m (export.Memory index) h = lt_is index (memory_count m) h
export_typed m (export.Global index) h = lt_is index (length (global_space m)) h

pub typed_export : (m : ModuleTree) (desc : ExportDesc) → ExportTyped m desc → is_there m desc ≡ true
typed_export m (export.Func index) h = is_lt index (length (func_space m)) h
typed_export m (export.Table index) h = is_lt index (table_count m) h
typed_export m (export.Memory index) h = is_lt index (memory_count m) h
typed_export m (export.Global index) h = is_lt index (length (global_space m)) h

-- the function that runs first
empty_is : (types : List ValType) → is_empty types ≡ true → types ≡ []
empty_is [] h = refl
empty_is (type ∷ types) h = cc

start_is : (o : Option FuncType) → is_start o ≡ true → (type : FuncType) × (o ≡ Some type) × (type.params ≡ []) × (type.results ≡ [])
start_is None h = cc
start_is (Some type) h = let p = and_both (is_empty type.params) (is_empty type.results) h in (type, refl, empty_is type.params p.0, empty_is type.results p.1)

pub start_typed : (m : ModuleTree) (index : ℕ) → start_why m index ≡ None → StartTyped m index
start_typed m index h =
    let p = or_none (where_so (not (nat_lt index (length (func_space m)))) why.Index) (where_so (not (is_start (type_of_func m index))) why.Typing) h in
    start_is (type_of_func m index) (not_false (is_start (type_of_func m index)) (so_none (not (is_start (type_of_func m index))) why.Typing p.1))

within_some : {A B : Type 0} (f : A → Option B) (xs : List A) (i : ℕ) (y : B) → option_and_then f (slice_get xs i) ≡ Some y → i < length xs
within_some f [] i y h = cc
within_some f (x ∷ xs) zero y h = omega arith
within_some f (x ∷ xs) (suc i) y h = let k = within_some f xs i y h in omega (arith, k)

is_start_of : (type : FuncType) → type.params ≡ [] → type.results ≡ [] → is_start (Some type) ≡ true
is_start_of type p r = both_and (is_empty type.params) (is_empty type.results) (ap is_empty p) (ap is_empty r)

pub typed_start : (m : ModuleTree) (index : ℕ) → StartTyped m index → start_why m index ≡ None
typed_start m index t =
    let there = within_some (λ (type : ℕ). slice_get m.types type) (func_space m) index t.0 t.1 in
    let runs : is_start (type_of_func m index) ≡ true = ap is_start t.1 ∙ is_start_of t.0 t.2 t.3 in
    none_or (where_so (not (nat_lt index (length (func_space m)))) why.Index) (where_so (not (is_start (type_of_func m index))) why.Typing)
    (none_so (not (nat_lt index (length (func_space m)))) why.Index (true_not (nat_lt index (length (func_space m))) (is_lt index (length (func_space m)) there)))
    (none_so (not (is_start (type_of_func m index))) why.Typing (true_not (is_start (type_of_func m index)) runs))

-- the indices of a segment
pub funcs_typed : (count at : ℕ) (indices : List ℕ) → funcs_fault count at indices ≡ None → AllByRecursion (λ index. index < count) indices
funcs_typed count at [] h = tt
funcs_typed count at (index ∷ indices) h =
    let p = or_none (option_map (part_fault at) (where_so (not (nat_lt index count)) why.Index)) (funcs_fault count (at + 1) indices) h in
    let fits = so_none (not (nat_lt index count)) why.Index (map_none (part_fault at) (where_so (not (nat_lt index count)) why.Index) p.0) in
    (lt_is index count (not_false (nat_lt index count) fits), funcs_typed count (at + 1) indices p.1)

pub typed_funcs : (count at : ℕ) (indices : List ℕ) → AllByRecursion (λ index. index < count) indices → funcs_fault count at indices ≡ None
typed_funcs count at [] h = refl
typed_funcs count at (index ∷ indices) h =
    none_or (option_map (part_fault at) (where_so (not (nat_lt index count)) why.Index)) (funcs_fault count (at + 1) indices)
    (none_map (part_fault at) (where_so (not (nat_lt index count)) why.Index) (none_so (not (nat_lt index count)) why.Index (true_not (nat_lt index count) (is_lt index count h.0))))
    (typed_funcs count (at + 1) indices h.1)
