-- What tasks are called by, and copies (Component Model, CanonicalABI.md, `canon lower`, `canon resource.drop`, `canon stream.{read,write}`, `canon
-- future.{read,write}`): the script calls what its next item says; a canonical function calls the function that it lowers, or a destructor where
-- it drops handles; and a read or a write is of a built-in of streams or of futures, as the end is, that reads or writes elements of the same type.
-- Of which resource a destructor is, is not told.
use Rattle.std.specs.Prelude.{◌≡◌, ℕ, true, List, Option, Some}
use Rattle.std.specs.List.{slice_get}
use Rattle.syntax_trees.specs.declared.types.ValType.{ValType}
use Rattle.syntax_trees.specs.declared.value.Value.{Value}
use Rattle.builtin_kinds.specs.declared.EndKind.{EndKind}
use Rattle.builtin_kinds.specs.declared.EndSide.{EndSide}
use Rattle.stream_ends.specs.declared.side.Side.{Side}
use Rattle.comp_graph.specs.declared.graph.Builtin.{Builtin}
use Rattle.builtin_kinds.specs.declared.ResourceOp.TheVariants as resource_op
use Rattle.comp_graph.specs.declared.graph.BuiltinKind.{BuiltinKind}
use Rattle.comp_graph.specs.declared.graph.BuiltinKind.TheVariants as kind
use Rattle.comp_graph.specs.declared.graph.EndOp.TheVariants as end_op
use Rattle.comp_graph.specs.declared.graph.Options.{Options}
use Rattle.comp_graph.specs.declared.graph.CanonFunc.{CanonFunc}
use Rattle.comp_graph.specs.declared.graph.CanonFunc.TheVariants as canon
use Rattle.comp_graph.specs.Graph.{Graph, Lifted, func_named}
use Rattle.script_reader.specs.declared.script.Call.{Call}
use Rattle.script_reader.specs.declared.script.Item.TheVariants as item
use Rattle.script_reader.specs.Script.{Script}
use Rattle.abi_machine.specs.Control.{EndRef}
use Rattle.abi_machine.specs.World.{Callee, Init, Func, Destroys, Channel, World}
use Rattle.abi_machine.specs.Canons.{canon_at, lifted_of}
use Rattle.abi_machine.specs.SameTypes.{same_held}
use Rattle.abi_machine.specs.Reply.{side_of}
use Rattle.abi_machine.specs.sound.Agreeing.{channel_in}

-- The next item of the script calls this function with these values.
pub record IsNextCall (g : Graph) (s : Script) (w : World) (callee : Callee) (values : List Value) : Type 0 where
  pub call : Call
  pub func : Lifted
  pub next : slice_get s.items w.taken ≡ Some (item.Call call)
  pub named : func_named g call.name ≡ Some func
  pub runs : callee ≡ Func func
  pub passed : values ≡ call.values

-- What a canonical function calls.
abbrev pub IsDestroying : Callee → Type 0
IsDestroying Init = ⊥
IsDestroying (Func f) = ⊥
IsDestroying (Destroys resource f) = Unit {0}

-- a built-in that drops handles
abbrev pub IsDrop : BuiltinKind → Type 0
IsDrop (kind.Resource resource_op.Drop resource) = Unit {0}
IsDrop other = ⊥

abbrev pub CallsSo : CanonFunc → Callee → Type 0
CallsSo (canon.Lower l) callee = callee ≡ Func (lifted_of l)
CallsSo (canon.Builtin b) callee = IsDestroying callee × IsDrop b.kind

abbrev pub IsCalledBy : Graph → ℕ → Callee → Type 0
IsCalledBy g number callee = (c : CanonFunc) × (canon_at g number ≡ Some c) × CallsSo c callee

-- The canonical function of a number reads or writes at ends of this kind and side, by their elements.
pub record IsCopyBy (g : Graph) (what : EndKind) (side : Side) (element : Option ValType) (number : ℕ) : Type 0 where
  pub builtin : Builtin
  pub of_element : Option ValType
  pub at_side : EndSide
  pub options : Options
  pub there : canon_at g number ≡ Some (canon.Builtin builtin)
  pub copies : builtin.kind ≡ kind.End what of_element (end_op.Copy at_side options)
  pub same_side : side_of at_side ≡ side
  pub same_elements : same_held element of_element ≡ true

-- at an end
abbrev pub CopiesAt : Graph → List Channel → List Channel → EndRef → ℕ → Type 0
CopiesAt g streams futures e number = (c : Channel) × (channel_in e.kind e.number streams futures ≡ Some c) × IsCopyBy g e.kind e.side c.element number
