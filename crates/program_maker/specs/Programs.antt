-- The program of a graph and a script (Component Model, CanonicalABI.md, "Lifting and Lowering Values"; Concurrency.md, "Summary"): with the numbers,
-- among the graph's types of values, of what its functions and built-ins pass; of each call of the script the number of the export that it names;
-- and the resources that each component instance defines.
use Rattle.std.specs.Prelude.{◌≡◌, ℕ, zero, suc, nat_eq, if◌then◌else◌, List, [], ◌∷◌, ◌++◌, length, Option, Some, None}
use Rattle.std.specs.List.{slice_get, AllZip}
use Rattle.std.specs.Option.{option_map_or}
use Rattle.syntax_trees.specs.Names.{first_named}
use Rattle.syntax_trees.specs.declared.exports.Export.{Export}
use Rattle.syntax_trees.specs.declared.types.FuncType.{FuncType}
use Rattle.syntax_trees.specs.declared.types.ValType.{ValType}
use Rattle.laid_types.specs.SameTypes.{AreDistinct}
use Rattle.comp_graph.specs.declared.graph.CanonFunc.{CanonFunc}
use Rattle.comp_graph.specs.declared.graph.CanonFunc.TheVariants as canon
use Rattle.comp_graph.specs.declared.graph.Resource.{Resource}
use Rattle.comp_graph.specs.Graph.{Graph, names, passed_value}
use Rattle.comp_graph.specs.Passed.{params_type, MayBeAt, AreCanonTypes}
use Rattle.script_reader.specs.declared.script.Item.{Item}
use Rattle.script_reader.specs.declared.script.Item.TheVariants as item
use Rattle.script_reader.specs.Script.{Script}
use Rattle.programs.specs.declared.program.CallNumbers.{CallNumbers}
use Rattle.programs.specs.declared.program.FuncNumbers.{FuncNumbers}
use Rattle.programs.specs.declared.program.Program.{Program}

-- The numbers of what a function passes: of the tuple type of its parameters' types, and of its result, where it has one.
pub record PassesFunc (values : List ValType) (numbers : FuncNumbers) (type : FuncType) : Type 0 where
  pub params : slice_get values numbers.params ≡ Some (params_type type)
  pub returned : MayBeAt values numbers.returned type.result

-- Only a canonical function that lowers a function has such.
abbrev pub PassesCanon : List ValType → Option FuncNumbers → CanonFunc → Type 0
PassesCanon values (Some numbers) (canon.Lower l) = PassesFunc values numbers l.func_type
PassesCanon values None (canon.Lower l) = ⊥
PassesCanon values numbers (canon.Builtin b) = numbers ≡ None

-- The number of the type of the result or of the elements of a built-in, where it has one.
abbrev pub PassesValue : List ValType → Option ℕ → CanonFunc → Type 0
PassesValue values number (canon.Lower l) = number ≡ None
PassesValue values number (canon.Builtin b) = MayBeAt values number (passed_value b.kind)

-- The script's calls, each with the number of its item, counted from this one, and that of the first export of its name.
abbrev pub call_numbers : List Export → ℕ → List Item → List CallNumbers
call_numbers exports n [] = []
call_numbers exports n (item.Call call ∷ items) =
    option_map_or (λ (export : ℕ). record { item = n; export = export } ∷ []) (first_named call.name (names exports)) [] ++ call_numbers exports (suc n) items
call_numbers exports n (item.Cancel number ∷ items) = call_numbers exports (suc n) items

-- The number of a resource, behind so many, where it is of an instance; the resources that an instance defines, in order of making, behind so many.
abbrev pub defined_as : ℕ → ℕ → Resource → List ℕ
defined_as instance n r = if nat_eq r.instance instance then suc n ∷ [] else []

abbrev pub defined_by : ℕ → ℕ → List Resource → List ℕ
defined_by instance n [] = []
defined_by instance n (r ∷ resources) = defined_as instance n r ++ defined_by instance (suc n) resources

-- These are the resources of each of so many instances.
pub record AreDefined (instances : ℕ) (resources : List Resource) (all : List (List ℕ)) : Type 0 where
  pub count : length all ≡ instances
  pub each : (instance : ℕ) (numbers : List ℕ) → slice_get all instance ≡ Some numbers → numbers ≡ defined_by instance 0 resources

-- The numbers that canonical functions have in the graph name types of some list of types of functions, and types of values: of results, and of ends.
pub record IsProgram (g : Graph) (s : Script) (p : Program) : Type 0 where
  pub graph : p.graph.now ≡ g
  pub script : p.script.now ≡ s
  pub distinct : AreDistinct p.types.now
  pub exports : AllZip (λ (numbers : FuncNumbers) (e : Export). PassesFunc p.types.now numbers e.func_type) p.exports.items g.exports
  pub canons : AllZip (PassesCanon p.types.now) p.canons.items g.canons
  pub values : AllZip (PassesValue p.types.now) p.values.items g.canons
  pub funcs : List FuncType
  pub ends : AreCanonTypes (record { funcs = funcs; values = p.types.now }) p.ends.now g.canons
  pub calls : p.calls.items ≡ call_numbers g.exports 0 s.items
  pub resources : AreDefined g.instance_count g.resources p.resources.items
