-- What stands around a type, and what declarations tell, stays where the table grows.
use Rattle.std.proofs.Common.{ℕ, List, Option}
use Rattle.std.specs.List.{AllZip}
use Rattle.comp_graph.specs.Closed.{Externs}
use Rattle.link_spec.specs.Definitions.{Closure}
use Rattle.link_spec.specs.Spaces as spaces
use Rattle.link_spec.specs.Types as types_read
use Rattle.link_spec.specs.Types.{Meaning}
use Rattle.link_values.specs.declared.refs.TypeRef.{TypeRef}
use Rattle.link_types.specs.Table.{Table, IsInstanceType, Grows}
use Rattle.link_types.specs.Begun.{IsBegun}
use Rattle.link_types.proofs.TypesGrow.{instance_type_stays}
use Rattle.link_types.proofs.Zips.{all_stay}
use Rattle.link_meanings.specs.declared.levels.Enclosing.{Enclosing}
use Rattle.link_meanings.specs.Meant.{IsFoundAs}
use Rattle.link_meanings.specs.Levels.{IsSeenAs, IsEnclosing, enclosed_types, enclosed_components}
use Rattle.link_meanings.proofs.Growing.{types_stay, begun_stays}
use Rattle.link_meanings.proofs.Lists.{found_stays}
use Rattle.link_instance_types.specs.declared.so_far.SoFar.{SoFar}
use Rattle.link_instance_types.specs.declared.declaring.Declared.{Declared}
use Rattle.link_instance_types.specs.Declaring.{IsSoFar, IsDeclared}

module _ (t u : Table) (g : Grows t u) where
  pub seen_stays : (closures : List Closure) (refs : List (Option TypeRef)) (numbers : List (Option ℕ)) (l : spaces.Level) → IsSeenAs t closures refs numbers l → IsSeenAs u closures refs numbers l
  seen_stays closures refs numbers l h = record { types = types_stay t u g refs l.types h.types; components = h.components }

  pub enclosing_stay : (closures : List Closure) (around : List Enclosing) (levels : List spaces.Level) → AllZip (IsEnclosing t closures) around levels → AllZip (IsEnclosing u closures) around levels
  enclosing_stay closures = all_stay (IsEnclosing t closures) (IsEnclosing u closures) (λ e l. seen_stays closures (enclosed_types e) (enclosed_components e) l)

  pub so_far_stays : (s : SoFar) (m : Meaning Externs) → IsSoFar t s m → IsSoFar u s m
  so_far_stays s m h = record {
    is_there = h.is_there;
    missing = h.missing;
    deep = h.deep;
    has_room = h.has_room;
    means = found_stays (IsBegun t) (IsBegun u) (begun_stays t u g) s.means m.means h.means;
  }

  pub declared_stays : (closures : List Closure) (d : Declared) (defined : types_read.Declared) → IsDeclared t closures d defined → IsDeclared u closures d defined
  declared_stays closures d defined h = record {
    types = types_stay t u g d.types.items defined.types h.types;
    components = h.components;
    instances = all_stay (IsFoundAs (IsInstanceType t)) (IsFoundAs (IsInstanceType u)) (found_stays (IsInstanceType t) (IsInstanceType u) (instance_type_stays t u g)) d.instances.items defined.instances h.instances;
    names = h.names;
    resources = h.resources;
    so_far = so_far_stays d.so_far defined.so_far h.so_far;
  }
