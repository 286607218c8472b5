-- Graphs: what a component is linked to (Component Model, Explainer.md, "Instance Definitions"; CanonicalABI.md, `canon lift`, `canon
-- lower` and the built-ins). Component instances begin and core instances are made of core modules, in file order, functions are
-- lowered to core functions, built-ins are core functions, resources are defined, and the exports can be called: each lifts a core
-- function. What all these stand on is there, of the types that they ask for, and was made before them (Core 2.0, section 4.5.4).
use Rattle.std.specs.Prelude.{◌≡◌, ◌<◌, ℕ, suc, Bool, true, false, List, [], ◌∷◌, ◌++◌, map, Option, None, Some, IfSome, IsSome}
use Rattle.std.specs.List.{slice_get, AllByRecursion, AllZip}
use Rattle.std.specs.Option.{option_map, option_and_then}
use Rattle.syntax_trees.specs.Names.{first_named}
use Rattle.syntax_trees.specs.declared.types.FuncType.{FuncType}
use Rattle.syntax_trees.specs.declared.exports.Export.{Export}
use Rattle.syntax_trees.specs.declared.module_types.FuncType as core
use Rattle.syntax_trees.specs.declared.module.Import.{Import}
use Rattle.syntax_trees.specs.declared.module.ModuleTree.{ModuleTree}
use Rattle.wasm_typing.specs.Spaces.{global_space, type_of_func}
use Rattle.comp_graph.specs.declared.graph.CoreRef.{CoreRef}
use Rattle.comp_graph.specs.declared.graph.FuncRef.{FuncRef}
use Rattle.comp_graph.specs.declared.graph.FuncRef.TheVariants as func_ref
use Rattle.comp_graph.specs.declared.graph.CoreExtern.{CoreExtern}
use Rattle.comp_graph.specs.declared.graph.Action.{Action}
use Rattle.comp_graph.specs.declared.graph.Options.{Options}
use Rattle.comp_graph.specs.declared.graph.Lift.{Lift}
use Rattle.comp_graph.specs.declared.graph.Lower.{Lower}
use Rattle.comp_graph.specs.declared.graph.Resource.{Resource}
use Rattle.comp_graph.specs.declared.graph.BuiltinKind.{BuiltinKind}
use Rattle.comp_graph.specs.declared.graph.BuiltinKind.TheVariants as builtin
use Rattle.comp_graph.specs.declared.graph.EndOp.{EndOp}
use Rattle.comp_graph.specs.declared.graph.EndOp.TheVariants as end_op
use Rattle.builtin_kinds.specs.declared.ResourceOp.{ResourceOp}
use Rattle.builtin_kinds.specs.declared.ResourceOp.TheVariants as resource_op
use Rattle.builtin_kinds.specs.declared.PlainBuiltin.{PlainBuiltin}
use Rattle.builtin_kinds.specs.declared.PlainBuiltin.TheVariants as plain
use Rattle.builtin_kinds.specs.declared.ContextOp.{ContextOp}
use Rattle.builtin_kinds.specs.declared.ContextOp.TheVariants as context_op
use Rattle.builtin_kinds.specs.declared.EndKind.{EndKind}
use Rattle.builtin_kinds.specs.declared.EndKind.TheVariants as end_kind
use Rattle.builtin_kinds.specs.declared.EndSide.{EndSide}
use Rattle.builtin_kinds.specs.declared.EndSide.TheVariants as end_side
use Rattle.syntax_trees.specs.declared.types.ValType.{ValType}
use Rattle.syntax_trees.specs.declared.types.ValType.TheViews as val_type
use Rattle.laid_types.specs.Lists.{held_list}
use Rattle.syntax_trees.specs.declared.module_types.ValType.TheVariants.{I64}
use Rattle.comp_graph.specs.declared.graph.CanonFunc.{CanonFunc}
use Rattle.comp_graph.specs.declared.graph.CanonFunc.TheVariants as canon_func
use Rattle.comp_graph.specs.CoreItems.{CoreItem, Func, Table, Memory, Global, extern_of, table_space, memory_space, CoreFits}
use Rattle.comp_graph.specs.Needs.{lift_type, lower_type, taking, word, task_return_type, callback_type, destructor_type, realloc_type, post_return_type, lift_needs_memory, lift_needs_realloc, lower_needs_memory, lower_needs_realloc, task_return_needs_memory}

-- a core instance: its module, what its module's imports are, in order, and the component instance that makes it
pub record CoreMake : Type 0 where
  pub of_module : ModuleTree
  pub imports : List CoreExtern
  pub owner : ℕ

-- What is made, in file order; how many component instances begin; the core instances, the core functions that the Canonical ABI
-- makes and the resources, each in order of making; the functions that can be called, in order, and of each the core function that
-- it lifts; the types of streams and futures, in order of linking, of equal ones the first. A resource's number is its place, counted
-- from 1.
pub record Graph : Type 0 where
  pub plan : List Action
  pub instance_count : ℕ
  pub cores : List CoreMake
  pub canons : List CanonFunc
  pub resources : List Resource
  pub exports : List Export
  pub lifts : List Lift
  pub end_types : List ValType

-- how many component instances a component may make, and how many core instances
abbrev pub instance_limit : ℕ
instance_limit = 256

abbrev pub core_instance_limit : ℕ
core_instance_limit = 256

-- no memory and no functions
abbrev pub no_options : Options
no_options = record { memory = None; realloc = None; post_return = None; callback = None; is_async = false }

-- a function: the component instance that lifts it, the core function that it lifts, what else the lift uses, and its type
pub record Lifted : Type 0 where
  pub instance : ℕ
  pub core : FuncRef
  pub options : Options
  pub func_type : FuncType

-- the names of exports
abbrev pub names : List Export → List (List ℕ)
names exports = map (λ e. e.name) exports

-- the function of the export of a number
abbrev pub lifted_as : Option Export → Option Lift → Option Lifted
lifted_as (Some e) (Some lift) = Some (record { instance = lift.instance; core = lift.core; options = lift.options; func_type = e.func_type })
lifted_as e lift = None

abbrev pub func_at : Graph → ℕ → Option Lifted
func_at g number = lifted_as (slice_get g.exports number) (slice_get g.lifts number)

-- the function that is exported under a name
abbrev pub func_named : Graph → List ℕ → Option Lifted
func_named g name = option_and_then (func_at g) (first_named name (names g.exports))

-- the types of built-ins as core functions
abbrev pub resource_type : ResourceOp → core.FuncType
resource_type resource_op.New = taking 1 word
resource_type resource_op.Drop = taking 1 []
resource_type resource_op.Rep = taking 1 word

abbrev pub plain_type : PlainBuiltin → core.FuncType
plain_type plain.TaskCancel = taking 0 []
plain_type plain.BackpressureSet = taking 1 []
plain_type plain.BackpressureInc = taking 0 []
plain_type plain.BackpressureDec = taking 0 []
plain_type (plain.SubtaskCancel is_async) = taking 1 word
plain_type plain.SubtaskDrop = taking 1 []
plain_type (plain.Yield cancellable) = taking 0 word
plain_type plain.WaitableSetNew = taking 0 word
plain_type plain.WaitableSetDrop = taking 1 []
plain_type plain.WaitableJoin = taking 2 []

abbrev pub context_type : ContextOp → core.FuncType
context_type context_op.Get = taking 0 word
context_type context_op.Set = taking 1 []

-- of an index and a place, and of a stream of a number of elements too
abbrev pub copy_type : EndKind → core.FuncType
copy_type end_kind.Stream = taking 3 word
copy_type end_kind.Future = taking 2 word

abbrev pub end_type : EndKind → EndOp → core.FuncType
end_type kind end_op.New = taking 0 (I64 ∷ [])
end_type kind (end_op.Copy side options) = copy_type kind
end_type kind (end_op.Cancel side is_async) = taking 1 word
end_type kind (end_op.Drop side) = taking 1 []

abbrev pub builtin_type : BuiltinKind → core.FuncType
builtin_type (builtin.Resource op resource) = resource_type op
builtin_type (builtin.TaskReturn result options) = task_return_type result
builtin_type (builtin.Plain b) = plain_type b
builtin_type (builtin.Context op slot) = context_type op
builtin_type (builtin.Wait op cancellable memory) = taking 2 word
builtin_type (builtin.End kind element op) = end_type kind op

-- the type of the core function that the Canonical ABI makes
abbrev pub canon_type : CanonFunc → core.FuncType
canon_type (canon_func.Lower l) = lower_type l.options.is_async l.func_type
canon_type (canon_func.Builtin b) = builtin_type b.kind

-- whether it calls a function
abbrev pub is_lower : Option CanonFunc → Bool
is_lower (Some (canon_func.Lower l)) = true
is_lower (Some (canon_func.Builtin b)) = false
is_lower None = false

-- the type of the result or of the elements of a built-in, where it has one
abbrev pub passed_value : BuiltinKind → Option ValType
passed_value (builtin.TaskReturn result options) = result
passed_value (builtin.End kind element op) = element
passed_value other = None

-- the type of the ends of a stream or a future of these elements, as a type of values
abbrev pub ends_type : EndKind → Option ValType → ValType
ends_type end_kind.Stream element = val_type.Stream element
ends_type end_kind.Future element = val_type.Future element

-- the type by whose number it is known what a built-in passes: that of its result, or of the ends that it is of
abbrev pub numbered_value : BuiltinKind → Option ValType
numbered_value (builtin.TaskReturn result options) = result
numbered_value (builtin.End kind element op) = Some (ends_type kind element)
numbered_value other = None

-- the type of a core function, where it is there: that which its module gives it, or what makes it
abbrev pub core_type : List CoreMake → List CanonFunc → FuncRef → Option core.FuncType
core_type cores canons (func_ref.Instance f) = option_and_then (λ c. type_of_func c.of_module f.index) (slice_get cores f.instance)
core_type cores canons (func_ref.Canon number) = option_map canon_type (slice_get canons number)

-- A core item is there, among these core instances, with the type that its module gives it.
pub record IsIn (cores : List CoreMake) (f : CoreRef) (P : ModuleTree → Type 0) : Type 0 where
  pub core : CoreMake
  pub there : slice_get cores f.instance ≡ Some core
  pub holds : P core.of_module

-- the memory that is used is there, where one is
abbrev pub IsMemoryThere : List CoreMake → Option CoreRef → Type 0
IsMemoryThere cores memory = IfSome memory (λ f. IsIn cores f (λ m. IsSome (slice_get (memory_space m) f.index)))

-- A function that gives places is there, where one is used.
abbrev pub IsReallocThere : List CoreMake → List CanonFunc → Option FuncRef → Type 0
IsReallocThere cores canons realloc = IfSome realloc (λ f. core_type cores canons f ≡ Some realloc_type)

-- The core function of a lift is there, and so is what else it uses, with the types that lifts to this function type ask for. Only
-- without `async` the result is lifted where the core function has returned, and only with it there is a callback.
pub record IsLiftThere (cores : List CoreMake) (canons : List CanonFunc) (func_type : FuncType) (lift : Lift) : Type 0 where
  pub core : core_type cores canons lift.core ≡ Some (lift_type lift.options func_type)
  pub memory : IsMemoryThere cores lift.options.memory
  pub realloc : IsReallocThere cores canons lift.options.realloc
  pub post_return : IfSome lift.options.post_return (λ f. (core_type cores canons f ≡ Some (post_return_type func_type)) × (lift.options.is_async ≡ false))
  pub callback : IfSome lift.options.callback (λ f. (core_type cores canons f ≡ Some callback_type) × (lift.options.is_async ≡ true))
  pub memory_given : lift_needs_memory lift.options.is_async func_type ≡ true → IsSome lift.options.memory
  pub realloc_given : lift_needs_realloc func_type ≡ true → IsSome lift.options.realloc

-- What a built-in or a lower uses is there: it has no post-return and no callback.
pub record AreOptionsThere (cores : List CoreMake) (canons : List CanonFunc) (options : Options) : Type 0 where
  pub memory : IsMemoryThere cores options.memory
  pub realloc : IsReallocThere cores canons options.realloc
  pub post_return : options.post_return ≡ None
  pub callback : options.callback ≡ None

-- The function that is lowered is there, and so is what the lowering uses, with the types that it asks for.
pub record IsLowerThere (cores : List CoreMake) (canons : List CanonFunc) (l : Lower) : Type 0 where
  pub lift : IsLiftThere cores canons l.func_type l.lift
  pub options : AreOptionsThere cores canons l.options
  pub memory_given : lower_needs_memory l.options.is_async l.func_type ≡ true → IsSome l.options.memory
  pub realloc_given : lower_needs_realloc l.func_type ≡ true → IsSome l.options.realloc

-- A resource is there, of the component instance that makes handles of it.
pub record IsDefinedHere (resources : List Resource) (instance number : ℕ) : Type 0 where
  pub place : ℕ
  pub resource : Resource
  pub counted : number ≡ suc place
  pub there : slice_get resources place ≡ Some resource
  pub defined : resource.instance ≡ instance

abbrev pub IsResourceThere : List Resource → ℕ → ResourceOp → ℕ → Type 0
IsResourceThere resources instance resource_op.New number = IsDefinedHere resources instance number
IsResourceThere resources instance resource_op.Rep number = IsDefinedHere resources instance number
IsResourceThere resources instance resource_op.Drop number = (place : ℕ) × (number ≡ suc place) × IsSome (slice_get resources place)

-- What `task.return` uses is there.
pub record IsReturnThere (cores : List CoreMake) (canons : List CanonFunc) (result : Option ValType) (given : Options) : Type 0 where
  pub options : AreOptionsThere cores canons given
  pub memory_given : task_return_needs_memory result ≡ true → IsSome given.memory

-- What a read or a write uses is there: a memory where there are elements, and a function that gives places where a read lowers a
-- string or a list.
abbrev pub lowers_list : EndSide → Option ValType → Bool
lowers_list end_side.Readable element = held_list element
lowers_list end_side.Writable element = false

pub record IsCopyThere (cores : List CoreMake) (canons : List CanonFunc) (side : EndSide) (element : Option ValType) (given : Options) : Type 0 where
  pub options : AreOptionsThere cores canons given
  pub memory_given : IsSome element → IsSome given.memory
  pub realloc_given : lowers_list side element ≡ true → IsSome given.realloc

abbrev pub IsEndThere : List CoreMake → List CanonFunc → Option ValType → EndOp → Type 0
IsEndThere cores canons element (end_op.Copy side options) = IsCopyThere cores canons side element options
IsEndThere cores canons element other = Unit {0}

-- what a built-in of a component instance uses is there
abbrev pub IsBuiltinThere : List CoreMake → List CanonFunc → List Resource → ℕ → BuiltinKind → Type 0
IsBuiltinThere cores canons resources instance (builtin.Resource op number) = IsResourceThere resources instance op number
IsBuiltinThere cores canons resources instance (builtin.TaskReturn result options) = IsReturnThere cores canons result options
IsBuiltinThere cores canons resources instance (builtin.Plain b) = Unit {0}
IsBuiltinThere cores canons resources instance (builtin.Context op slot) = slot < 2
IsBuiltinThere cores canons resources instance (builtin.Wait op cancellable memory) = IsMemoryThere cores (Some memory)
IsBuiltinThere cores canons resources instance (builtin.End kind element op) = IsEndThere cores canons element op

-- what a core function that the Canonical ABI makes stands on is there
abbrev pub IsCanonThere : List CoreMake → List CanonFunc → List Resource → CanonFunc → Type 0
IsCanonThere cores canons resources (canon_func.Lower l) = IsLowerThere cores canons l
IsCanonThere cores canons resources (canon_func.Builtin b) = IsBuiltinThere cores canons resources b.instance b.kind

-- the destructor of a resource is there, where it has one
abbrev pub IsDestructorThere : List CoreMake → List CanonFunc → Resource → Type 0
IsDestructorThere cores canons r = IfSome r.destructor (λ f. core_type cores canons f ≡ Some destructor_type)

abbrev pub IsItem : List CoreMake → List CanonFunc → CoreItem → Type 0
IsItem cores canons (Func (func_ref.Instance f) type) = IsIn cores f (λ m. type_of_func m f.index ≡ Some type)
IsItem cores canons (Func (func_ref.Canon number) type) = option_map canon_type (slice_get canons number) ≡ Some type
IsItem cores canons (Table t limits) = IsIn cores t (λ m. slice_get (table_space m) t.index ≡ Some limits)
IsItem cores canons (Memory memory limits) = IsIn cores memory (λ m. slice_get (memory_space m) memory.index ≡ Some limits)
IsItem cores canons (Global g type) = IsIn cores g (λ m. slice_get (global_space m) g.index ≡ Some type)

-- The imports of a core instance are items of core instances before it, or core functions that the Canonical ABI makes, each of
-- which is what is asked for.
pub record HasImports (before : List CoreMake) (canons : List CanonFunc) (core : CoreMake) : Type 0 where
  pub items : List CoreItem
  pub are : core.imports ≡ map extern_of items
  pub there : AllByRecursion (IsItem before canons) items
  pub fit : AllZip (λ (i : Import) (item : CoreItem). CoreFits core.of_module item i.desc) core.of_module.imports items

-- So it is for each core instance behind some others.
abbrev pub AreImported : List CanonFunc → List CoreMake → List CoreMake → Type 0
AreImported canons before [] = Unit {0}
AreImported canons before (core ∷ cores) = HasImports before canons core × AreImported canons (before ++ core ∷ []) cores

-- Core instances, core functions of the Canonical ABI and resources that are made one behind the other: each stands on those alone
-- that were made before it.
pub data AreMade : List CoreMake → List CanonFunc → List Resource → Type 0 where
  none_made : AreMade [] [] []
  instance_made : (cores : List CoreMake) (canons : List CanonFunc) (resources : List Resource) (core : CoreMake)
      → AreMade cores canons resources → HasImports cores canons core → AreMade (cores ++ core ∷ []) canons resources
  canon_made : (cores : List CoreMake) (canons : List CanonFunc) (resources : List Resource) (f : CanonFunc)
      → AreMade cores canons resources → IsCanonThere cores canons resources f → AreMade cores (canons ++ f ∷ []) resources
  resource_made : (cores : List CoreMake) (canons : List CanonFunc) (resources : List Resource) (r : Resource)
      → AreMade cores canons resources → IsDestructorThere cores canons r → AreMade cores canons (resources ++ r ∷ [])
