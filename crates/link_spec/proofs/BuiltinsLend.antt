-- No built-in passes a borrowed handle, where the types of its component instance are apart.
use Rattle.std.proofs.Common.{◌≡◌, ℕ, false, map, refl, Option, Some, None}
use Rattle.std.specs.Prelude.{IfSome}
use Rattle.std.specs.Option.{option_map, option_and_then}
use Rattle.std.specs.List.{slice_get, AllByRecursion}
use Rattle.syntax_trees.specs.declared.types.ValType.{ValType}
use Rattle.laid_types.specs.Handles.{held_borrow}
use Rattle.builtin_kinds.specs.declared.EndKind.{EndKind}
use Rattle.comp_tree.specs.declared.builtins.CanonBuiltin.{CanonBuiltin}
use Rattle.comp_tree.specs.declared.builtins.CanonBuiltin.TheVariants as read_builtin
use Rattle.comp_graph.specs.declared.graph.BuiltinKind.{BuiltinKind}
use Rattle.comp_graph.specs.declared.graph.BuiltinKind.TheVariants as builtin
use Rattle.comp_graph.specs.CoreItems.{core_memory_of}
use Rattle.comp_graph.specs.declared.graph.CoreRef.{CoreRef}
use Rattle.comp_graph.specs.Closed.{Closed, Value, Func, Resource, Instance, value_of, resource_of}
use Rattle.comp_graph.specs.Graph.{passed_value}
use Rattle.link_spec.specs.Lending.{lends}
use Rattle.link_spec.specs.Canons.{given_by, options_of}
use Rattle.link_spec.specs.Builtins.{elements_of, elements_at, end_op_of, builtin_meaning}
use Rattle.link_spec.specs.Spaces.{Spaces, Linking}
use Rattle.link_spec.specs.ValueTypes.{close_held, close_passed}
use Rattle.link_spec.proofs.Holding.{all_at, if_mapped, if_found}
use Rattle.link_spec.proofs.Apart.{IsApart}
use Rattle.link_spec.proofs.Lending.{passed_none, elements_lend}

abbrev LendsNone : ValType → Type 0
LendsNone type = lends type ≡ false

abbrev PassesNone : BuiltinKind → Type 0
PassesNone kind = held_borrow (passed_value kind) ≡ false

of_value_lends : (type : Closed) → IsApart type → IfSome (value_of type) LendsNone
of_value_lends (Value type) h = h.1
of_value_lends (Func type) h = tt
of_value_lends (Resource number) h = tt
of_value_lends (Instance externs) h = tt

-- one that passes nothing, whatever it names
names_alone : {A : Type 0} (f : A → BuiltinKind) (o : Option A) → ((x : A) → PassesNone (f x)) → IfSome (option_map f o) PassesNone
names_alone f None h = tt
names_alone f (Some x) h = h x

elements_at_lend : (s : Spaces) (kind : EndKind) (index : ℕ) → AllByRecursion IsApart s.types → IfSome (elements_at s kind index) (λ element. held_borrow element ≡ false)
elements_at_lend s kind index h =
    if_found (elements_of kind) LendsNone (λ element. held_borrow element ≡ false) (elements_lend kind) (option_and_then value_of (slice_get s.types index))
    (if_found value_of IsApart LendsNone of_value_lends (slice_get s.types index) (all_at IsApart s.types index h))

pub builtin_lends : (l : Linking) (n : ℕ) (s : Spaces) (b : CanonBuiltin) → AllByRecursion IsApart s.types → IfSome (builtin_meaning l n s b).means PassesNone
builtin_lends l n s (read_builtin.Plain b) h = refl
builtin_lends l n s (read_builtin.Context op slot) h = refl
builtin_lends l n s (read_builtin.Wait op cancellable memory) h =
    names_alone (λ (m : CoreRef). builtin.Wait op cancellable m) (option_and_then core_memory_of (slice_get s.core_memories memory)) (λ m. refl)
builtin_lends l n s (read_builtin.TaskReturn result options) h =
    if_mapped (λ (type : Option ValType). builtin.TaskReturn type (options_of (given_by s options))) PassesNone (close_passed (map Some s.types) result) (passed_none (close_held (map Some s.types) result))
builtin_lends l n s (read_builtin.Resource op resource) h =
    names_alone (λ (number : ℕ). builtin.Resource op number) (option_and_then resource_of (slice_get s.types resource)) (λ number. refl)
builtin_lends l n s (read_builtin.End kind end_type op) h =
    if_mapped (λ (element : Option ValType). builtin.End kind element (end_op_of (given_by s) op)) PassesNone (elements_at s kind end_type) (elements_at_lend s kind end_type h)
