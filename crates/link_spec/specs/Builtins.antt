-- Built-ins as they are written (Component Model, Explainer.md, "Canonical Built-ins"; CanonicalABI.md, `canon task.return` and its
-- fellows): what one comes to in the index spaces of a component instance.
use Rattle.std.specs.Prelude.{ℕ, Bool, true, false, ◌&&◌, nat_lt, is_some, List, length, map, Option, Some, None}
use Rattle.std.specs.Option.{option_map, option_map_or, option_and_then}
use Rattle.std.specs.List.{slice_get, list_all}
use Rattle.syntax_trees.specs.declared.types.ValType.{ValType, out-ValType}
use Rattle.syntax_trees.specs.declared.types.ValType.TheOpen.{ValType-F}
use Rattle.builtin_kinds.specs.declared.ResourceOp.{ResourceOp}
use Rattle.builtin_kinds.specs.declared.ContextOp.{ContextOp}
use Rattle.builtin_kinds.specs.declared.WaitOp.{WaitOp}
use Rattle.builtin_kinds.specs.declared.EndKind.{EndKind}
use Rattle.builtin_kinds.specs.declared.EndKind.TheVariants as end_kind
use Rattle.comp_tree.specs.declared.builtins.CanonBuiltin.{CanonBuiltin}
use Rattle.comp_tree.specs.declared.builtins.CanonBuiltin.TheVariants as read_builtin
use Rattle.comp_tree.specs.declared.builtins.CanonEndOp.{CanonEndOp}
use Rattle.comp_tree.specs.declared.builtins.CanonEndOp.TheVariants as read_op
use Rattle.comp_tree.specs.declared.items.CanonOption.{CanonOption}
use Rattle.comp_graph.specs.CoreItems.{core_memory_of}
use Rattle.comp_graph.specs.Closed.{value_of, resource_of}
use Rattle.comp_graph.specs.Graph.{lowers_list}
use Rattle.comp_graph.specs.Needs.{task_return_needs_memory}
use Rattle.comp_graph.specs.declared.graph.CoreRef.{CoreRef}
use Rattle.comp_graph.specs.declared.graph.Resource.{Resource}
use Rattle.comp_graph.specs.declared.graph.EndOp.{EndOp}
use Rattle.comp_graph.specs.declared.graph.EndOp.TheVariants as end_op
use Rattle.comp_graph.specs.declared.graph.BuiltinKind.{BuiltinKind}
use Rattle.comp_graph.specs.declared.graph.BuiltinKind.TheVariants as builtin
use Rattle.link_spec.specs.Canons.{Given, given_by, options_of, stand_once, is_option_there, can_be_used}
use Rattle.link_spec.specs.Resources.{resource_numbered, resource_serves}
use Rattle.link_spec.specs.Spaces.{Spaces, Linking}
use Rattle.link_spec.specs.ValueTypes.{held_within, close_passed}

-- What a built-in comes to: whether all indices that it names are there; what it is, where its types are such as it asks for; and
-- whether its options, its word of the task, or its resource serve it.
pub record BuiltinMeaning : Type 0 where
  pub is_there : Bool
  pub means : Option BuiltinKind
  pub serves : Bool

-- one that asks for nothing
abbrev pub of_kind : BuiltinKind → BuiltinMeaning
of_kind kind = record { is_there = true; means = Some kind; serves = true }

-- One of a word of the task, which has two.
abbrev pub context_meaning : ContextOp → ℕ → BuiltinMeaning
context_meaning op slot = record { is_there = true; means = Some (builtin.Context op slot); serves = nat_lt slot 2 }

-- One that asks for an event, which goes into a memory, if that is there.
abbrev pub wait_meaning : Bool → WaitOp → Bool → Option CoreRef → BuiltinMeaning
wait_meaning is_there op cancellable memory = record { is_there = is_there; means = option_map (λ m. builtin.Wait op cancellable m) memory; serves = true }

-- whether what options name is there
abbrev pub are_options_there : Spaces → List CanonOption → Bool
are_options_there s options = list_all (is_option_there s) options

-- One that returns a result, of this type where it has one, with what options give. It uses a memory where the result is passed in one, and
-- lowers nothing.
abbrev pub return_meaning : Bool → Option (Option ValType) → List CanonOption → Given → BuiltinMeaning
return_meaning is_there result options given = record {
  is_there = is_there;
  means = option_map (λ type. builtin.TaskReturn type (options_of given)) result;
  serves = option_map_or (λ type. can_be_used (task_return_needs_memory type) false given) result true && stand_once options;
}

-- whether what options name is there that a built-in of ends has
abbrev pub are_end_options_there : Spaces → CanonEndOp → Bool
are_end_options_there s (read_op.Copy side options) = are_options_there s options
are_end_options_there s other = true

-- What passes in the streams or the futures of a type, where it is one of these.
abbrev pub elements_in : {A B C : Type 0} → EndKind → ValType-F A B C → Option (Option A)
elements_in end_kind.Stream (ValType-F.Stream element) = Some element
elements_in end_kind.Future (ValType-F.Future element) = Some element
elements_in kind other = None

abbrev pub elements_of : EndKind → ValType → Option (Option ValType)
elements_of kind type = elements_in kind (out-ValType type)

-- the same of the type of an index
abbrev pub elements_at : Spaces → EndKind → ℕ → Option (Option ValType)
elements_at s kind index = option_and_then (elements_of kind) (option_and_then value_of (slice_get s.types index))

-- what is done with an end, without the types of what options name
abbrev pub end_op_of : (List CanonOption → Given) → CanonEndOp → EndOp
end_op_of given read_op.New = end_op.New
end_op_of given (read_op.Copy side options) = end_op.Copy side (options_of (given options))
end_op_of given (read_op.Cancel side is_async) = end_op.Cancel side is_async
end_op_of given (read_op.Drop side) = end_op.Drop side

-- Whether options serve one that passes these elements. A read and a write use a memory where anything passes, and a read one that gives
-- places where it lowers a string or a list.
abbrev pub end_serves : (List CanonOption → Given) → Option ValType → CanonEndOp → Bool
end_serves given element (read_op.Copy side options) = can_be_used (is_some element) (lowers_list side element) (given options) && stand_once options
end_serves given element other = true

-- One of the ends of streams or of futures, in which these elements pass, where the type is such.
abbrev pub end_meaning : Bool → EndKind → Option (Option ValType) → (List CanonOption → Given) → CanonEndOp → BuiltinMeaning
end_meaning is_there kind elements given op = record {
  is_there = is_there;
  means = option_map (λ element. builtin.End kind element (end_op_of given op)) elements;
  serves = option_map_or (λ element. end_serves given element op) elements true;
}

-- One of the resource of a number, where the type is one of resources.
abbrev pub resource_meaning : List Resource → ℕ → Bool → ResourceOp → Option ℕ → BuiltinMeaning
resource_meaning resources n is_there op number = record {
  is_there = is_there;
  means = option_map (λ number. builtin.Resource op number) number;
  serves = option_map_or (λ number. option_map_or (resource_serves n op) (resource_numbered resources number) false) number true;
}

-- A built-in of the component instance of a number.
abbrev pub builtin_meaning : Linking → ℕ → Spaces → CanonBuiltin → BuiltinMeaning
builtin_meaning l n s (read_builtin.Plain b) = of_kind (builtin.Plain b)
builtin_meaning l n s (read_builtin.Context op slot) = context_meaning op slot
builtin_meaning l n s (read_builtin.Wait op cancellable memory) =
    wait_meaning (nat_lt memory (length s.core_memories)) op cancellable (option_and_then core_memory_of (slice_get s.core_memories memory))
builtin_meaning l n s (read_builtin.TaskReturn result options) =
    return_meaning (held_within (length s.types) result && are_options_there s options) (close_passed (map Some s.types) result) options (given_by s options)
builtin_meaning l n s (read_builtin.Resource op resource) =
    resource_meaning l.resources n (nat_lt resource (length s.types)) op (option_and_then resource_of (slice_get s.types resource))
builtin_meaning l n s (read_builtin.End kind end_type op) =
    end_meaning (nat_lt end_type (length s.types) && are_end_options_there s op) kind (elements_at s kind end_type) (given_by s) op
