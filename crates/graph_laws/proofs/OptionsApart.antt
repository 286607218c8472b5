-- What the options of canonical definitions give, and what built-ins use, is of the component instance whose index spaces it is found in.
use Rattle.std.proofs.Common.{◌≡◌, ℕ, List, map, Option, Some}
use Rattle.std.specs.List.{slice_get}
use Rattle.std.specs.Option.{option_and_then, IfSome}
use Rattle.syntax_trees.specs.declared.types.ValType.{ValType}
use Rattle.comp_tree.specs.declared.builtins.CanonEndOp.{CanonEndOp}
use Rattle.comp_tree.specs.declared.builtins.CanonEndOp.TheVariants as read_op
use Rattle.comp_tree.specs.declared.builtins.CanonBuiltin.{CanonBuiltin}
use Rattle.comp_tree.specs.declared.builtins.CanonBuiltin.TheVariants as read_builtin
use Rattle.comp_tree.specs.declared.items.CanonOption.{CanonOption}
use Rattle.comp_graph.specs.declared.graph.CoreRef.{CoreRef}
use Rattle.comp_graph.specs.declared.graph.FuncRef.{FuncRef}
use Rattle.comp_graph.specs.declared.graph.BuiltinKind.{BuiltinKind}
use Rattle.comp_graph.specs.declared.graph.BuiltinKind.TheVariants as builtin
use Rattle.comp_graph.specs.CoreItems.{core_func_of, core_memory_of}
use Rattle.comp_graph.specs.Closed.{resource_of}
use Rattle.comp_graph.specs.Graph.{Graph}
use Rattle.link_spec.specs.Definitions.{CoreItem, Func, Table, Memory, Global}
use Rattle.link_spec.specs.Spaces.{Spaces, Linking}
use Rattle.link_spec.specs.Canons.{memory_index, realloc_index, post_return_index, callback_index, first_index, given_by, options_of}
use Rattle.link_spec.specs.Builtins.{elements_at, end_op_of, builtin_meaning}
use Rattle.link_spec.specs.ValueTypes.{close_passed}
use Rattle.link_spec.proofs.Holding.{all_at, holds_at, if_weaker, if_mapped, if_found, if_each}
use Rattle.abi_machine.specs.sound.Owners.{owner_of_core, owner_of_func}
use Rattle.graph_laws.proofs.Owning.{OwnsOptions, OwnsEnd, OwnsKind, IsItemOf, AreSpacesApart}
use Rattle.graph_laws.proofs.SpacesApart.{if_always}

module _ (g : Graph) (owner : ℕ) (s : Spaces) (apart : AreSpacesApart g owner s) where
  pub func_own : (item : CoreItem) → IsItemOf g owner item → IfSome (core_func_of item) (λ f. owner_of_func g f ≡ Some owner)
  func_own (Func f type) h = h
  func_own (Table t limits) h = tt
  func_own (Memory m limits) h = tt
  func_own (Global global type) h = tt

  given_own : (given : Option CoreItem) → IfSome given (IsItemOf g owner) → IfSome (option_and_then core_func_of given) (λ f. owner_of_func g f ≡ Some owner)
  given_own given h = if_found core_func_of (IsItemOf g owner) (λ (f : FuncRef). owner_of_func g f ≡ Some owner) func_own given h

  memory_own : (item : CoreItem) → IsItemOf g owner item → IfSome (core_memory_of item) (λ m. owner_of_core g m.instance ≡ Some owner)
  memory_own (Func f type) h = tt
  memory_own (Table t limits) h = tt
  memory_own (Memory m limits) h = h
  memory_own (Global global type) h = tt

  pub options_own : (options : List CanonOption) → OwnsOptions g owner (options_of (given_by s options))
  options_own options = record {
    memory =
        if_found core_memory_of (IsItemOf g owner) (λ (m : CoreRef). owner_of_core g m.instance ≡ Some owner) memory_own (option_and_then (slice_get s.core_memories) (first_index memory_index options))
        (if_each (slice_get s.core_memories) (IsItemOf g owner) (λ index. all_at (IsItemOf g owner) s.core_memories index apart.core.memories_of) (first_index memory_index options));
    realloc =
        given_own (option_and_then (slice_get s.core_funcs) (first_index realloc_index options))
        (if_each (slice_get s.core_funcs) (IsItemOf g owner) (λ index. all_at (IsItemOf g owner) s.core_funcs index apart.core.funcs_of) (first_index realloc_index options));
    post_return =
        given_own (option_and_then (slice_get s.core_funcs) (first_index post_return_index options))
        (if_each (slice_get s.core_funcs) (IsItemOf g owner) (λ index. all_at (IsItemOf g owner) s.core_funcs index apart.core.funcs_of) (first_index post_return_index options));
    callback =
        given_own (option_and_then (slice_get s.core_funcs) (first_index callback_index options))
        (if_each (slice_get s.core_funcs) (IsItemOf g owner) (λ index. all_at (IsItemOf g owner) s.core_funcs index apart.core.funcs_of) (first_index callback_index options));
  }

  -- Built-ins.
  memory_at : (index : ℕ) → IfSome (option_and_then core_memory_of (slice_get s.core_memories index)) (λ (m : CoreRef). owner_of_core g m.instance ≡ Some owner)
  memory_at index =
      if_found core_memory_of (IsItemOf g owner) (λ (m : CoreRef). owner_of_core g m.instance ≡ Some owner) memory_own (slice_get s.core_memories index)
      (all_at (IsItemOf g owner) s.core_memories index apart.core.memories_of)

  end_own : (op : CanonEndOp) → OwnsEnd g owner (end_op_of (given_by s) op)
  end_own read_op.New = tt
  end_own (read_op.Copy side options) = options_own options
  end_own (read_op.Cancel side is_async) = tt
  end_own (read_op.Drop side) = tt

  builtin_uses : (l : Linking) (n : ℕ) (b : CanonBuiltin) → IfSome (builtin_meaning l n s b).means (OwnsKind g owner)
  builtin_uses l n (read_builtin.Plain b) = tt
  builtin_uses l n (read_builtin.Context op slot) = tt
  builtin_uses l n (read_builtin.TaskReturn result options) =
      if_mapped (λ (type : Option ValType). builtin.TaskReturn type (options_of (given_by s options))) (OwnsKind g owner) (close_passed (map Some s.types) result)
      (if_always (λ (type : Option ValType). OwnsKind g owner (builtin.TaskReturn type (options_of (given_by s options)))) (close_passed (map Some s.types) result) (λ type. options_own options))
  builtin_uses l n (read_builtin.Wait op cancellable memory) =
      if_mapped (λ (m : CoreRef). builtin.Wait op cancellable m) (OwnsKind g owner) (option_and_then core_memory_of (slice_get s.core_memories memory))
      (if_weaker (λ (m : CoreRef). owner_of_core g m.instance ≡ Some owner) (λ (m : CoreRef). OwnsKind g owner (builtin.Wait op cancellable m)) (λ m e. e) (option_and_then core_memory_of (slice_get s.core_memories memory)) (memory_at memory))
  builtin_uses l n (read_builtin.End kind end_type op) =
      if_mapped (λ (element : Option ValType). builtin.End kind element (end_op_of (given_by s) op)) (OwnsKind g owner) (elements_at s kind end_type)
      (if_always (λ (element : Option ValType). OwnsKind g owner (builtin.End kind element (end_op_of (given_by s) op))) (elements_at s kind end_type) (λ element. end_own op))
  builtin_uses l n (read_builtin.Resource op resource) =
      if_mapped (λ (number : ℕ). builtin.Resource op number) (OwnsKind g owner) (option_and_then resource_of (slice_get s.types resource))
      (if_always (λ (number : ℕ). OwnsKind g owner (builtin.Resource op number)) (option_and_then resource_of (slice_get s.types resource)) (λ number. tt))

  pub builtin_own : (l : Linking) (n : ℕ) (b : CanonBuiltin) (kind : BuiltinKind) → (builtin_meaning l n s b).means ≡ Some kind → OwnsKind g owner kind
  builtin_own l n b kind is = holds_at (OwnsKind g owner) (builtin_meaning l n s b).means kind (builtin_uses l n b) is
