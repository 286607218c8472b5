-- Pairs of an instance and a type that is asked of it (Component Model, Explainer.md, "Import and Export Definitions").
use Rattle.std.specs.Prelude.{Bool}
use Rattle.std.specs.declared.cmp.Ordering.{Ordering}
use Rattle.std.specs.Ordering.{is_eq}
use Rattle.std.specs.BTreeSet.{BTreeSet, contains}
use Rattle.comp_graph.specs.Closed.{Externs}
use Rattle.link_spec.specs.Definitions.{Exports, FitAll}
use Rattle.link_instances.specs.declared.pairs.Pair.{Pair}
use Rattle.link_instances.specs.contracts.pairs.PairOrd.TheImpl as order
use Rattle.link_types.specs.Table.{Table}
use Rattle.link_types.specs.Table.{IsInstanceType}
use Rattle.link_instances.specs.References.{World, IsInstance}

abbrev pub pair_cmp : Pair → Pair → Ordering
pair_cmp = (order.ghosts).cmp

-- whether a pair is among some
abbrev pub has_pair : BTreeSet Pair → Pair → Bool
has_pair pairs p = contains pair_cmp pairs p

abbrev pub same_pair : Pair → Pair → Bool
same_pair p q = is_eq (pair_cmp p q)

-- A pair that fits.
pub record IsKnown (t : Table) (w : World) (p : Pair) : Type 0 where
  pub given : Exports
  pub asked : Externs
  pub instance : IsInstance t w p.given given
  pub type : IsInstanceType t p.asked asked
  pub fits : FitAll given asked
