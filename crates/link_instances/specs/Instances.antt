-- A table of instances (Component Model, Explainer.md, "Index Spaces") stands for the bases of a world, the pairs that it knows
-- fit, and the bases that it keeps for instance types have the types that these ask for.
use Rattle.std.specs.Prelude.{◌≡◌, ◌⊎◌, ℕ, true, Some}
use Rattle.link_spec.specs.Definitions.{Exports}
use Rattle.link_values.specs.declared.refs.InstanceTypeRef.{InstanceTypeRef}
use Rattle.link_instances.specs.declared.references.InstanceRef.{InstanceRef}
use Rattle.link_instances.specs.declared.pairs.Pair.{Pair}
use Rattle.link_instances.specs.declared.instances.Instances.{Instances}
use Rattle.link_types.specs.Table.{Table}
use Rattle.link_instances.specs.References.{World, IsInstance, AreBases, with_base}
use Rattle.link_instances.specs.Pairs.{has_pair, IsKnown}
use Rattle.link_instances.specs.OfTypes.{base_of, HasTypes}

pub record AreInstances (t : Table) (w : World) (i : Instances) : Type 0 where
  pub bases : AreBases t w i.bases.items
  pub known : (p : Pair) → has_pair i.known p ≡ true → IsKnown t w p
  pub of_types : (type : InstanceTypeRef) (base : ℕ) → base_of i.of_types type ≡ Some base → HasTypes t w type base

-- One of them has these exports.
pub record HasInstance (t : Table) (w : World) (instances : Instances) (i : InstanceRef) (exports : Exports) : Type 0 where
  pub are : AreInstances t w instances
  pub is : IsInstance t w i exports

-- One of them has these exports, which was there, or whose base is one more.
abbrev pub GivesInstance : Table → World → Instances → InstanceRef → Exports → Type 0
GivesInstance t w instances i exports = HasInstance t w instances i exports ⊎ HasInstance t (with_base w exports) instances i exports
