-- A reference is of the sort of its definition.
use Rattle.std.proofs.Common.{◌≡◌, refl}
use Rattle.comp_tree.specs.declared.core_instances.CoreSort.TheVariants as core_sort
use Rattle.comp_tree.specs.declared.instances.Sort.{Sort}
use Rattle.comp_tree.specs.declared.instances.Sort.TheVariants as sorts
use Rattle.link_spec.specs.Definitions.{Definition, AFunc, AType, AComponent, AnInstance, AModule}
use Rattle.link_spec.specs.Tests.{is_of_sort}
use Rattle.link_types.specs.Table.{Table}
use Rattle.link_instances.specs.declared.references.DefinitionRef.{DefinitionRef}
use Rattle.link_instances.specs.declared.references.DefinitionRef.TheVariants as ref
use Rattle.link_instances.specs.References.{World, Stands}
use Rattle.link_instances.specs.Sorts.{is_of}

pub of_sort : (t : Table) (w : World) (r : DefinitionRef) (sort : Sort) (d : Definition) → Stands t w r d → is_of r sort ≡ is_of_sort d sort
of_sort t w (ref.Func f) sort (AFunc g) h = by sort
  where
    by : (sort : Sort) → is_of (ref.Func f) sort ≡ is_of_sort (AFunc g) sort
    by sorts.Func = refl
    by sort = refl
of_sort t w (ref.Type r) sort (AType c) h = by sort
  where
    by : (sort : Sort) → is_of (ref.Type r) sort ≡ is_of_sort (AType c) sort
    by sorts.Type = refl
    by sort = refl
of_sort t w (ref.Component k) sort (AComponent c) h = by sort
  where
    by : (sort : Sort) → is_of (ref.Component k) sort ≡ is_of_sort (AComponent c) sort
    by sorts.Component = refl
    by sort = refl
of_sort t w (ref.Instance i) sort (AnInstance e) h = by sort
  where
    by : (sort : Sort) → is_of (ref.Instance i) sort ≡ is_of_sort (AnInstance e) sort
    by sorts.Instance = refl
    by sort = refl
of_sort t w (ref.Module k) sort (AModule m) h = by sort
  where
    by : (sort : Sort) → is_of (ref.Module k) sort ≡ is_of_sort (AModule m) sort
    by (sorts.Core core_sort.Module) = refl
    by sort = refl
of_sort t w r sort d h = absurd h
