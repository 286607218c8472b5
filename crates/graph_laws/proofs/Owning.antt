-- Index spaces whose core definitions are of their own component instance, and linkings of which all are so. What a function lifts with
-- is of the component instance that lifts it, wherever the function is passed.
use Rattle.std.proofs.Common.{◌≡◌, ℕ, List, [], Some}
use Rattle.std.specs.List.{slice_get, AllByRecursion}
use Rattle.std.specs.Option.{IfSome}
use Rattle.comp_graph.specs.declared.graph.Options.{Options}
use Rattle.comp_graph.specs.declared.graph.Lift.{Lift}
use Rattle.comp_graph.specs.declared.graph.Resource.{Resource}
use Rattle.comp_graph.specs.declared.graph.EndOp.{EndOp}
use Rattle.comp_graph.specs.declared.graph.EndOp.TheVariants as end_op
use Rattle.comp_graph.specs.declared.graph.BuiltinKind.{BuiltinKind}
use Rattle.comp_graph.specs.declared.graph.BuiltinKind.TheVariants as builtin
use Rattle.comp_graph.specs.declared.graph.CanonFunc.{CanonFunc}
use Rattle.comp_graph.specs.declared.graph.CanonFunc.TheVariants as canon_func
use Rattle.comp_graph.specs.Graph.{CoreMake, Graph}
use Rattle.link_spec.specs.Definitions.{CoreItem, extern_of, CoreExport, Lifted, Definition, AFunc, AType, AComponent, AnInstance, AModule, Exports, EmptyInstance, WithExport}
use Rattle.link_spec.specs.Spaces.{Spaces, Linking}
use Rattle.abi_machine.specs.sound.Owners.{Makes}
use Rattle.abi_machine.specs.sound.Owners.{owner_of_core, owner_of_canon, owner_of_func, owner_of_extern}

-- what a linking has made so far, as a graph
abbrev pub made_by : Linking → Graph
made_by l = record { plan = []; instance_count = 0; cores = l.cores; canons = l.canons; resources = []; exports = []; lifts = []; end_types = [] }

-- What a component instance owns in one graph it owns in the other.
pub record KeepsOwners (g h : Graph) : Type 0 where
  pub cores : (number owner : ℕ) → owner_of_core g number ≡ Some owner → owner_of_core h number ≡ Some owner
  pub canons : (number owner : ℕ) → owner_of_canon g number ≡ Some owner → owner_of_canon h number ≡ Some owner

-- a core item that a component instance made, and exports of a core instance that are such
abbrev pub IsItemOf : Graph → ℕ → CoreItem → Type 0
IsItemOf g owner item = owner_of_extern g (extern_of item) ≡ Some owner

abbrev pub AreExportsOf : Graph → ℕ → List CoreExport → Type 0
AreExportsOf g owner exports = AllByRecursion (λ (e : CoreExport). IsItemOf g owner e.item) exports

-- The memory and the functions that options give, callbacks too, are this component instance's.
pub record OwnsOptions (g : Graph) (owner : ℕ) (options : Options) : Type 0 where
  pub memory : IfSome options.memory (λ m. owner_of_core g m.instance ≡ Some owner)
  pub realloc : IfSome options.realloc (λ f. owner_of_func g f ≡ Some owner)
  pub post_return : IfSome options.post_return (λ f. owner_of_func g f ≡ Some owner)
  pub callback : IfSome options.callback (λ f. owner_of_func g f ≡ Some owner)

-- So is what a lift, a lower and a built-in of it use.
abbrev pub OwnsLift : Graph → Lift → Type 0
OwnsLift g lift = (owner_of_func g lift.core ≡ Some lift.instance) × OwnsOptions g lift.instance lift.options

abbrev pub OwnsEnd : Graph → ℕ → EndOp → Type 0
OwnsEnd g owner (end_op.Copy side options) = OwnsOptions g owner options
OwnsEnd g owner op = Unit {0}

abbrev pub OwnsKind : Graph → ℕ → BuiltinKind → Type 0
OwnsKind g owner (builtin.TaskReturn result options) = OwnsOptions g owner options
OwnsKind g owner (builtin.Wait op cancellable memory) = owner_of_core g memory.instance ≡ Some owner
OwnsKind g owner (builtin.End what element op) = OwnsEnd g owner op
OwnsKind g owner kind = Unit {0}

abbrev pub OwnsCanon : Graph → CanonFunc → Type 0
OwnsCanon g (canon_func.Lower l) = OwnsOptions g l.instance l.options × OwnsLift g l.lift
OwnsCanon g (canon_func.Builtin b) = OwnsKind g b.instance b.kind

-- a function whose core function and options are of the component instance that lifts it
abbrev pub IsFuncApart : Graph → Lifted → Type 0
IsFuncApart g f = (owner_of_func g f.core ≡ Some f.instance) × OwnsOptions g f.instance f.options

abbrev mutual
  pub IsDefinedApart : Graph → Definition → Type 0
  IsDefinedApart g (AFunc f) = IsFuncApart g f
  IsDefinedApart g (AType type) = Unit {0}
  IsDefinedApart g (AComponent c) = Unit {0}
  IsDefinedApart g (AnInstance exports) = AreDefinedApart g exports
  IsDefinedApart g (AModule m) = Unit {0}

  pub AreDefinedApart : Graph → Exports → Type 0
  AreDefinedApart g EmptyInstance = Unit {0}
  AreDefinedApart g (WithExport others name d) = AreDefinedApart g others × IsDefinedApart g d

pub record AreCoreOf (g : Graph) (owner : ℕ) (instances : List (List CoreExport)) (funcs tables memories globals : List CoreItem) : Type 0 where
  pub instances_of : AllByRecursion (AreExportsOf g owner) instances
  pub funcs_of : AllByRecursion (IsItemOf g owner) funcs
  pub tables_of : AllByRecursion (IsItemOf g owner) tables
  pub memories_of : AllByRecursion (IsItemOf g owner) memories
  pub globals_of : AllByRecursion (IsItemOf g owner) globals

-- The index spaces of the component instance of a number.
pub record AreSpacesApart (g : Graph) (owner : ℕ) (s : Spaces) : Type 0 where
  pub core : AreCoreOf g owner s.core_instances s.core_funcs s.core_tables s.core_memories s.core_globals
  pub instances : AllByRecursion (AreDefinedApart g) s.instances
  pub funcs : AllByRecursion (IsFuncApart g) s.funcs
  pub exported : AreDefinedApart g s.exports
  pub passed : IfSome s.arguments (AreDefinedApart g)

abbrev pub AreImportsOf : Graph → CoreMake → Type 0
AreImportsOf g c = AllByRecursion (λ e. owner_of_extern g e ≡ Some c.owner) c.imports

-- the destructor of a type of resources is of the component instance that defines it
abbrev pub OwnsDestructor : Graph → Resource → Type 0
OwnsDestructor g r = IfSome r.destructor (λ f. owner_of_func g f ≡ Some r.instance)

pub record IsLinkingApart (l : Linking) : Type 0 where
  pub scopes : (n : ℕ) (s : Spaces) → slice_get l.scopes n ≡ Some s → AreSpacesApart (made_by l) n s
  pub imports : AllByRecursion (AreImportsOf (made_by l)) l.cores
  pub lowers : AllByRecursion (OwnsCanon (made_by l)) l.canons
  pub destructors : AllByRecursion (OwnsDestructor (made_by l)) l.resources
  pub planned : Makes 0 l.plan l.cores

-- A graph each component instance of which owns what its core instances import, what its lifts and its canonical functions use, and destructors.
pub record IsOwnGraph (g : Graph) : Type 0 where
  pub imports : AllByRecursion (AreImportsOf g) g.cores
  pub lifts : AllByRecursion (OwnsLift g) g.lifts
  pub canons : AllByRecursion (OwnsCanon g) g.canons
  pub resources : AllByRecursion (OwnsDestructor g) g.resources

-- A linking behind another one, in which each keeps what it owns.
pub record IsReachedApart (l new : Linking) : Type 0 where
  pub apart : IsLinkingApart new
  pub keeps : KeepsOwners (made_by l) (made_by new)
