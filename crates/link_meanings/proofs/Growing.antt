-- References stand for what they stood for, where the table grows.
use Rattle.std.proofs.Common.{List, Option}
use Rattle.comp_graph.specs.Closed.{Closed, Externs}
use Rattle.link_values.specs.declared.refs.TypeRef.{TypeRef}
use Rattle.link_types.specs.declared.maker.InstanceTypeMaker.{InstanceTypeMaker}
use Rattle.link_types.specs.Table.{Table, IsType, Grows}
use Rattle.link_types.specs.Begun.{IsBegun}
use Rattle.link_types.proofs.TypesGrow.{type_stays, externs_layer_stays, listed_stays}
use Rattle.link_types.proofs.Zips.{all_stay}
use Rattle.link_meanings.specs.Meant.{IsFoundAs}
use Rattle.link_meanings.specs.Levels.{AreTypes}
use Rattle.link_meanings.proofs.Lists.{found_stays}

module _ (t u : Table) (g : Grows t u) where
  pub types_stay : (refs : List (Option TypeRef)) (types : List (Option Closed)) → AreTypes t refs types → AreTypes u refs types
  types_stay = all_stay (IsFoundAs (IsType t)) (IsFoundAs (IsType u)) (found_stays (IsType t) (IsType u) (type_stays t u g))

  pub begun_stays : (maker : InstanceTypeMaker) (externs : Externs) → IsBegun t maker externs → IsBegun u maker externs
  begun_stays maker externs h = (externs_layer_stays t u g maker.layer externs h.0, listed_stays t u g maker.externs externs h.1, h.2)
