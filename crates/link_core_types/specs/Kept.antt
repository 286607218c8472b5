-- What is kept of the types of core modules (Core 2.0, section 2.5.2) that were asked for.
use Rattle.std.specs.Prelude.{◌≡◌, List, Some}
use Rattle.std.specs.declared.cmp.Ordering.{Ordering}
use Rattle.std.specs.BTreeMap.{BTreeMap, get}
use Rattle.syntax_trees.specs.declared.module_types.FuncType.{FuncType}
use Rattle.link_core_types.specs.declared.module_type.ModuleType.{ModuleType}
use Rattle.link_core_types.specs.contracts.module_type.ModuleTypeOrd.TheImpl as order
use Rattle.link_core_types.specs.Types.{type_at, AreSame}

abbrev pub type_cmp : ModuleType → ModuleType → Ordering
type_cmp = (order.ghosts).cmp

-- What is kept of each type is a type that is there too and the same.
abbrev pub AreKept : BTreeMap ModuleType ModuleType → List (List FuncType) → Type 0
AreKept kept modules = (at first : ModuleType) → get type_cmp kept at ≡ Some first → AreSame (type_at modules at) (type_at modules first)
