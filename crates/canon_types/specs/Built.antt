-- Built-ins on their way (Component Model, Explainer.md, "Canonical Built-ins"): what one is, with the type of its core function, and
-- what one comes to as it is written.
use Rattle.std.specs.Prelude.{◌≡◌, List, IfSome}
use Rattle.std.specs.Option.{option_map}
use Rattle.syntax_trees.specs.declared.types.ValType.{ValType}
use Rattle.comp_graph.specs.Graph.{builtin_type, numbered_value}
use Rattle.comp_graph.specs.Passed.{MayBeAt}
use Rattle.link_spec.specs.Builtins.{BuiltinMeaning}
use Rattle.canon_types.specs.declared.builtins.Built.{Built}
use Rattle.canon_types.specs.declared.builtins.BuiltinMeant.{BuiltinMeant}

-- The type is that of the built-in as a core function, and the number is that of the type of its result, or of the ends that it is of, if
-- it has one.
pub record IsBuilt (values : List ValType) (b : Built) : Type 0 where
  pub typed : b.core_type ≡ builtin_type b.kind
  pub passes : MayBeAt values b.passed (numbered_value b.kind)

-- A built-in comes to what is defined.
pub record IsBuiltinMeaning (values : List ValType) (m : BuiltinMeant) (meaning : BuiltinMeaning) : Type 0 where
  pub is_there : m.is_there ≡ meaning.is_there
  pub means : option_map (λ (b : Built). b.kind) m.means ≡ meaning.means
  pub serves : m.serves ≡ meaning.serves
  pub built : IfSome m.means (IsBuilt values)
