-- The functions that tasks run (Component Model, CanonicalABI.md, `canon lift`, `canon lower` and `canon resource.drop`), and resources, which
-- are counted from 1.
use Rattle.std.specs.Prelude.{ℕ, ◌-◌, nat_eq, is_some, if◌then◌else◌, Option, Some, None}
use Rattle.std.specs.List.{slice_get}
use Rattle.entry_gate.specs.declared.kind.Kind.{Kind}
use Rattle.entry_gate.specs.declared.kind.Kind.TheVariants.{Sync, Callback, Stackful}
use Rattle.task_table.specs.declared.errand.Callee.{Callee}
use Rattle.task_table.specs.declared.errand.Callee.TheVariants as callee
use Rattle.comp_graph.specs.declared.graph.FuncRef.{FuncRef}
use Rattle.comp_graph.specs.declared.graph.Options.{Options}
use Rattle.comp_graph.specs.declared.graph.Lift.{Lift}
use Rattle.comp_graph.specs.declared.graph.Resource.{Resource}
use Rattle.comp_graph.specs.declared.graph.CanonFunc.{CanonFunc}
use Rattle.comp_graph.specs.declared.graph.CanonFunc.TheVariants as canon
use Rattle.comp_graph.specs.Graph.{Graph, no_options}
use Rattle.graph_views.specs.Canons.{canon_at}

-- how a function is lifted
abbrev pub kind_of : Options → Kind
kind_of options = if options.is_async then (if is_some options.callback then Callback else Stackful) else Sync

abbrev pub resource_at : Graph → ℕ → Option Resource
resource_at g number = if nat_eq number 0 then None else slice_get g.resources (number - 1)

-- the function that a canonical function lowers, as it is lifted
abbrev pub lowered_lift : CanonFunc → Option Lift
lowered_lift (canon.Lower l) = Some l.lift
lowered_lift (canon.Builtin b) = None

abbrev pub lifted_in : Option CanonFunc → Option Lift
lifted_in None = None
lifted_in (Some c) = lowered_lift c

abbrev pub lifted_at : Graph → ℕ → Option Lift
lifted_at g number = lifted_in (canon_at g number)

-- a destructor as a function of a component instance, and that of a resource
abbrev pub destructor_lift : ℕ → FuncRef → Lift
destructor_lift instance core = record { instance = instance; core = core; options = no_options }

abbrev pub destructor_by : ℕ → Option FuncRef → Option Lift
destructor_by instance None = None
destructor_by instance (Some core) = Some (destructor_lift instance core)

abbrev pub destructor_in : Option Resource → Option Lift
destructor_in None = None
destructor_in (Some r) = destructor_by r.instance r.destructor

abbrev pub destructor_at : Graph → ℕ → Option Lift
destructor_at g number = destructor_in (resource_at g number)

-- the function that a task runs; one that instantiates runs none
abbrev pub lift_of : Graph → Callee → Option Lift
lift_of g callee.Init = None
lift_of g (callee.Export number) = slice_get g.lifts number
lift_of g (callee.Lowered number) = lifted_at g number
lift_of g (callee.Destroys resource) = destructor_at g resource
