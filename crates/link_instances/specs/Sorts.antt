-- Whether a reference is to a definition of a sort (Component Model, Binary.md, "Instance Definitions").
use Rattle.std.specs.Prelude.{Bool, true, false}
use Rattle.comp_tree.specs.declared.core_instances.CoreSort.TheVariants as core_sort
use Rattle.comp_tree.specs.declared.instances.Sort.{Sort}
use Rattle.comp_tree.specs.declared.instances.Sort.TheVariants as sorts
use Rattle.link_instances.specs.declared.references.DefinitionRef.{DefinitionRef}
use Rattle.link_instances.specs.declared.references.DefinitionRef.TheVariants as ref

abbrev pub is_of : DefinitionRef → Sort → Bool
is_of (ref.Module m) (sorts.Core core_sort.Module) = true
is_of (ref.Func f) sorts.Func = true
is_of (ref.Type type) sorts.Type = true
is_of (ref.Component c) sorts.Component = true
is_of (ref.Instance i) sorts.Instance = true
is_of r sort = false
