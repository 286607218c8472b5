-- A graph each component instance of which owns what it uses has definitions that stay apart.
use Rattle.std.proofs.Common.{◌≡◌, ℕ}
use Rattle.comp_graph.specs.declared.graph.Options.{Options}
use Rattle.comp_graph.specs.declared.graph.Lift.{Lift}
use Rattle.comp_graph.specs.declared.graph.EndOp.{EndOp}
use Rattle.comp_graph.specs.declared.graph.EndOp.TheVariants as end_op
use Rattle.comp_graph.specs.declared.graph.BuiltinKind.{BuiltinKind}
use Rattle.comp_graph.specs.declared.graph.BuiltinKind.TheVariants as builtin
use Rattle.comp_graph.specs.declared.graph.CanonFunc.{CanonFunc}
use Rattle.comp_graph.specs.declared.graph.CanonFunc.TheVariants as canon_func
use Rattle.comp_graph.specs.Graph.{Graph, no_options}
use Rattle.link_spec.proofs.Holding.{all_weaker}
use Rattle.abi_machine.specs.Canons.{options_of_end, options_of_kind}
use Rattle.abi_machine.specs.sound.Owners.{AreOptionsOf, IsLiftApart, IsCanonApart}
use Rattle.graph_laws.proofs.Owning.{OwnsOptions, OwnsLift, OwnsEnd, OwnsKind, OwnsCanon, IsOwnGraph}
use Rattle.graph_laws.proofs.GraphsApart.{linked_graphs_own, plans_make_in_order}
use Rattle.async_graph_laws.specs.Laws.{LinkedDefinitionsAreApart}

module _ (g : Graph) where
  own_options : (owner : ℕ) (options : Options) → OwnsOptions g owner options → AreOptionsOf g owner options
  own_options owner options k = record { memory = k.memory; realloc = k.realloc; post_return = k.post_return; callback = k.callback }

  own_lift : (lift : Lift) → OwnsLift g lift → IsLiftApart g lift
  own_lift lift k = (k.0, own_options lift.instance lift.options k.1)

  none_own : (owner : ℕ) → AreOptionsOf g owner no_options
  none_own owner = record { memory = tt; realloc = tt; post_return = tt; callback = tt }

  own_end : (owner : ℕ) (op : EndOp) → OwnsEnd g owner op → AreOptionsOf g owner (options_of_end op)
  own_end owner (end_op.Copy side options) k = own_options owner options k
  own_end owner end_op.New k = none_own owner
  own_end owner (end_op.Cancel side is_async) k = none_own owner
  own_end owner (end_op.Drop side) k = none_own owner

  own_kind : (owner : ℕ) (kind : BuiltinKind) → OwnsKind g owner kind → AreOptionsOf g owner (options_of_kind kind)
  own_kind owner (builtin.Resource op resource) k = none_own owner
  own_kind owner (builtin.TaskReturn result options) k = own_options owner options k
  own_kind owner (builtin.Plain op) k = none_own owner
  own_kind owner (builtin.Context op slot) k = none_own owner
  own_kind owner (builtin.Wait op cancellable memory) k = record { memory = k; realloc = tt; post_return = tt; callback = tt }
  own_kind owner (builtin.End what element op) k = own_end owner op k

  own_canon : (c : CanonFunc) → OwnsCanon g c → IsCanonApart g c
  own_canon (canon_func.Lower l) k = (own_options l.instance l.options k.0, own_lift l.lift k.1)
  own_canon (canon_func.Builtin b) k = (own_kind b.instance b.kind k, tt)

pub linked_definitions_are_apart : LinkedDefinitionsAreApart
linked_definitions_are_apart c g linked =
    let own : IsOwnGraph g = linked_graphs_own c g linked in
    record {
      imports = own.imports;
      lifts = all_weaker (OwnsLift g) (IsLiftApart g) (own_lift g) g.lifts own.lifts;
      canons = all_weaker (OwnsCanon g) (IsCanonApart g) (own_canon g) g.canons own.canons;
      resources = own.resources;
      planned = plans_make_in_order c g linked;
    }
