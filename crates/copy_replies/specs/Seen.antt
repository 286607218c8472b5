-- What the parts of a step ask of a graph (Component Model, CanonicalABI.md, "Canonical ABI Options"), as it is told.
use Rattle.comp_graph.specs.Graph.{Graph}
use Rattle.graph_views.specs.Canons.{flag_at, is_async, options_at, is_made_in}
use Rattle.graph_views.specs.Callees.{lift_of, resource_at}
use Rattle.world_parts.specs.Views.{Views}

abbrev pub seen : Graph → Views
seen g = record {
  flag = λ canon. flag_at g canon;
  is_async = λ canon. is_async g canon;
  options = λ canon. options_at g canon;
  made_in = λ canon instance. is_made_in g canon instance;
  lift = λ callee. lift_of g callee;
  resource = λ number. resource_at g number;
}
