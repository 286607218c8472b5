-- What is lifted is there, and what is lowered: the core function, or the function, and what options give, with the types that the
-- lift or the lower needs. What built-ins use is there.
use Rattle.std.proofs.Common.{◌≡◌, ℕ, zero, suc, Bool, true, false, List, map, refl, ap, subst, Option, Some, None}
use Rattle.std.specs.Prelude.{IfSome, IsSome, is_some}
use Rattle.std.specs.Option.{option_and_then, option_map_or}
use Rattle.std.specs.List.{slice_get, AllByRecursion}
use Rattle.std.proofs.lemmas.Bool.Decides.{Decides-eqb}
use Rattle.syntax_trees.specs.declared.types.FuncType.{FuncType}
use Rattle.syntax_trees.specs.declared.types.ValType.{ValType}
use Rattle.syntax_trees.specs.declared.module_types.Limits.{Limits}
use Rattle.syntax_trees.specs.declared.module_types.FuncType as core
use Rattle.builtin_kinds.specs.declared.EndKind.{EndKind}
use Rattle.builtin_kinds.specs.declared.ResourceOp.{ResourceOp}
use Rattle.builtin_kinds.specs.declared.ResourceOp.TheVariants as resource_op
use Rattle.comp_graph.specs.declared.graph.FuncRef.{FuncRef}
use Rattle.comp_graph.specs.declared.graph.CanonFunc.{CanonFunc}
use Rattle.comp_graph.specs.declared.graph.Resource.{Resource}
use Rattle.comp_graph.specs.Closed.{resource_of}
use Rattle.comp_graph.specs.CoreItems.{CoreItem, Func, Table, Memory, Global, core_func_of, core_memory_of}
use Rattle.comp_graph.specs.Graph.{CoreMake, core_type, IsIn, IsItem, IsMemoryThere, IsLiftThere, AreOptionsThere, IsResourceThere, IsBuiltinThere, IsCanonThere, lowers_list}
use Rattle.comp_graph.specs.Needs.{lift_type, realloc_type, callback_type, post_return_type, lower_needs_memory, lower_needs_realloc, task_return_needs_memory}
use Rattle.comp_graph.specs.declared.graph.BuiltinKind.{BuiltinKind}
use Rattle.comp_graph.specs.declared.graph.BuiltinKind.TheVariants as builtin
use Rattle.comp_tree.specs.declared.builtins.CanonBuiltin.{CanonBuiltin}
use Rattle.comp_tree.specs.declared.builtins.CanonBuiltin.TheVariants as read_builtin
use Rattle.comp_tree.specs.declared.builtins.CanonEndOp.{CanonEndOp}
use Rattle.comp_tree.specs.declared.builtins.CanonEndOp.TheVariants as read_op
use Rattle.comp_tree.specs.declared.items.CanonOption.{CanonOption}
use Rattle.link_spec.specs.Definitions.{Lifted}
use Rattle.link_spec.specs.Canons.{Given, given_by, options_of, IsOfCoreType, CanBeLifted, CanBeUsed, CanBeLowered, stand_once, can_be_used}
use Rattle.link_spec.specs.ValueTypes.{close_passed}
use Rattle.link_spec.specs.Builtins.{return_meaning, elements_at, end_meaning, resource_meaning, builtin_meaning}
use Rattle.link_spec.specs.Resources.{resource_numbered, resource_serves}
use Rattle.link_spec.specs.Items.{lifted_with, lowered_with}
use Rattle.link_spec.specs.Spaces.{Spaces, Linking}
use Rattle.link_spec.proofs.Holding.{all_at, holds_at, if_weaker, if_mapped, if_then, if_both}
use Rattle.link_spec.proofs.Kept.{IsMemoryOf, type_there}
use Rattle.link_spec.proofs.Lifting.{used_told}
use Rattle.link_spec.proofs.SameValues.{never, both}
use Rattle.link_spec.proofs.Soundness.{lift_for, IsMemoryItem}
use Rattle.link_spec.proofs.Telling.{less}

-- a core function that is there, of a type
pub item_type : (cores : List CoreMake) (canons : List CanonFunc) (item : CoreItem) (type : core.FuncType) → IsItem cores canons item → IsOfCoreType type item → IfSome (core_func_of item) (λ f. core_type cores canons f ≡ Some type)
item_type cores canons (Func f other) type h e = let same : other ≡ type = cc in type_there cores canons f type (subst (λ (type : core.FuncType). IsItem cores canons (Func f type)) same h)
item_type cores canons (Table t limits) type h e = tt
item_type cores canons (Memory memory limits) type h e = tt
item_type cores canons (Global g of_core) type h e = tt

memory_there : (cores : List CoreMake) (canons : List CanonFunc) (item : CoreItem) → IsMemoryItem cores canons item → IsMemoryThere cores (core_memory_of item)
memory_there cores canons (Memory memory limits) h = record { core = h.core; there = h.there; holds = ap (λ (o : Option Limits). is_some o) h.holds }
memory_there cores canons (Func f type) h = absurd h
memory_there cores canons (Table t limits) h = absurd h
memory_there cores canons (Global g type) h = absurd h

-- a core function that an option gives
given_there : (cores : List CoreMake) (canons : List CanonFunc) (type : core.FuncType) (given : Option CoreItem) → IfSome given (IsItem cores canons) → IfSome given (IsOfCoreType type)
    → IfSome (option_and_then core_func_of given) (λ f. core_type cores canons f ≡ Some type)
given_there cores canons type given h k =
    if_then core_func_of (λ (f : FuncRef). core_type cores canons f ≡ Some type) given
    (if_both (IsItem cores canons) (IsOfCoreType type) (λ (item : CoreItem). IfSome (core_func_of item) (λ f. core_type cores canons f ≡ Some type)) (λ item h k. item_type cores canons item type h k) given h k)

-- the same, beside what holds of the options
given_there_and : (cores : List CoreMake) (canons : List CanonFunc) (type : core.FuncType) (P : Type 0) (f : Option FuncRef) → P → IfSome f (λ f. core_type cores canons f ≡ Some type) → IfSome f (λ f. (core_type cores canons f ≡ Some type) × P)
given_there_and cores canons type P f p h = if_weaker (λ f. core_type cores canons f ≡ Some type) (λ f. (core_type cores canons f ≡ Some type) × P) (λ f k. (k, p)) f h

given_there_if : (cores : List CoreMake) (canons : List CanonFunc) (type : core.FuncType) (P : Type 0) (given : Option CoreItem) → (IsSome given → P)
    → IfSome (option_and_then core_func_of given) (λ f. core_type cores canons f ≡ Some type) → IfSome (option_and_then core_func_of given) (λ f. (core_type cores canons f ≡ Some type) × P)
given_there_if cores canons type P None p h = tt
given_there_if cores canons type P (Some item) p h = given_there_and cores canons type P (core_func_of item) (p refl) h

-- what is given is a function, and a memory
func_given : (type : core.FuncType) (given : Option CoreItem) → IfSome given (IsOfCoreType type) → IsSome given → IsSome (option_and_then core_func_of given)
func_given type None h k = k
func_given type (Some (Func f other)) h k = refl
func_given type (Some (Table t limits)) h k = cc
func_given type (Some (Memory memory limits)) h k = cc
func_given type (Some (Global g of_core)) h k = cc

memory_given : (cores : List CoreMake) (canons : List CanonFunc) (given : Option CoreItem) → IfSome given (IsMemoryItem cores canons) → IsSome given → IsSome (option_and_then core_memory_of given)
memory_given cores canons None h k = k
memory_given cores canons (Some (Memory memory limits)) h k = refl
memory_given cores canons (Some (Func f type)) h k = absurd h
memory_given cores canons (Some (Table t limits)) h k = absurd h
memory_given cores canons (Some (Global g type)) h k = absurd h

-- what options give is there
pub record IsGiven (cores : List CoreMake) (canons : List CanonFunc) (given : Given) : Type 0 where
  pub memory : IfSome given.memory (IsMemoryItem cores canons)
  pub realloc : IfSome given.realloc (IsItem cores canons)
  pub post_return : IfSome given.post_return (IsItem cores canons)
  pub callback : IfSome given.callback (IsItem cores canons)

given_memory : (cores : List CoreMake) (canons : List CanonFunc) (given : Option CoreItem) → IfSome given (IsMemoryItem cores canons) → IsMemoryThere cores (option_and_then core_memory_of given)
given_memory cores canons given h =
    if_then core_memory_of (λ f. IsIn cores f (IsMemoryOf f)) given
    (if_weaker (IsMemoryItem cores canons) (λ (item : CoreItem). IsMemoryThere cores (core_memory_of item)) (memory_there cores canons) given h)

pub lift_there : (cores : List CoreMake) (canons : List CanonFunc) (n : ℕ) (type : FuncType) (item : CoreItem) (core : FuncRef) (given : Given) → core_func_of item ≡ Some core → IsItem cores canons item → IsGiven cores canons given → CanBeLifted type item given
    → IsLiftThere cores canons type (lift_for (lifted_with n type core given))
lift_there cores canons n type item core given is h k fits = record {
  core = holds_at (λ f. core_type cores canons f ≡ Some (lift_type (options_of given) type)) (core_func_of item) core (item_type cores canons item (lift_type (options_of given) type) h fits.core) is;
  memory = given_memory cores canons given.memory k.memory;
  realloc = given_there cores canons realloc_type given.realloc k.realloc fits.realloc;
  post_return = given_there_if cores canons (post_return_type type) (given.is_async ≡ false) given.post_return fits.returns (given_there cores canons (post_return_type type) given.post_return k.post_return fits.post_return);
  callback = given_there_if cores canons callback_type (given.is_async ≡ true) given.callback fits.called_back (given_there cores canons callback_type given.callback k.callback fits.callback);
  memory_given = λ needs. memory_given cores canons given.memory k.memory (fits.memory_given needs);
  realloc_given = λ needs. func_given realloc_type given.realloc fits.realloc (fits.realloc_given needs);
}

-- what a lower or a built-in uses is there
used_there : (cores : List CoreMake) (canons : List CanonFunc) (memory_used realloc_used : Bool) (given : Given) → IsGiven cores canons given → CanBeUsed memory_used realloc_used given → AreOptionsThere cores canons (options_of given)
used_there cores canons memory_used realloc_used given k fits = record {
  memory = given_memory cores canons given.memory k.memory;
  realloc = given_there cores canons realloc_type given.realloc k.realloc fits.realloc;
  post_return = ap (λ o. option_and_then core_func_of o) fits.post_return;
  callback = ap (λ o. option_and_then core_func_of o) fits.callback;
}

pub lower_there : (cores : List CoreMake) (canons : List CanonFunc) (resources : List Resource) (n : ℕ) (func : Lifted) (given : Given) → IsLiftThere cores canons func.func_type (lift_for func) → IsGiven cores canons given → CanBeLowered func.func_type given
    → IsCanonThere cores canons resources (lowered_with n func given)
lower_there cores canons resources n func given h k fits = record {
  lift = h;
  options = used_there cores canons (lower_needs_memory given.is_async func.func_type) (lower_needs_realloc func.func_type) given k fits;
  memory_given = λ needs. memory_given cores canons given.memory k.memory (fits.memory_given needs);
  realloc_given = λ needs. func_given realloc_type given.realloc fits.realloc (fits.realloc_given needs);
}

-- Built-ins.

return_there : (cores : List CoreMake) (canons : List CanonFunc) (resources : List Resource) (n : ℕ) (result : Option (Option ValType)) (options : List CanonOption) (given : Given) → IsGiven cores canons given → (return_meaning true result options given).serves ≡ true
    → IfSome (return_meaning true result options given).means (IsBuiltinThere cores canons resources n)
return_there cores canons resources n None options given k serves = tt
return_there cores canons resources n (Some type) options given k serves =
    let fits = (used_told (task_return_needs_memory type) false given).0 (both (can_be_used (task_return_needs_memory type) false given) (stand_once options) serves).0 in
    record {
      options = used_there cores canons (task_return_needs_memory type) false given k fits;
      memory_given = λ needs. memory_given cores canons given.memory k.memory (fits.memory_given needs);
    }

end_there : (cores : List CoreMake) (canons : List CanonFunc) (resources : List Resource) (n : ℕ) (kind : EndKind) (elements : Option (Option ValType)) (given : List CanonOption → Given) (op : CanonEndOp) → ((options : List CanonOption) → IsGiven cores canons (given options))
    → (end_meaning true kind elements given op).serves ≡ true → IfSome (end_meaning true kind elements given op).means (IsBuiltinThere cores canons resources n)
end_there cores canons resources n kind None given op k serves = tt
end_there cores canons resources n kind (Some element) given read_op.New k serves = tt
end_there cores canons resources n kind (Some element) given (read_op.Copy side options) k serves =
    let fits = (used_told (is_some element) (lowers_list side element) (given options)).0 (both (can_be_used (is_some element) (lowers_list side element) (given options)) (stand_once options) serves).0 in
    record {
      options = used_there cores canons (is_some element) (lowers_list side element) (given options) (k options) fits;
      memory_given = λ needs. memory_given cores canons (given options).memory (k options).memory (fits.memory_given needs);
      realloc_given = λ needs. func_given realloc_type (given options).realloc fits.realloc (fits.realloc_given needs);
    }
end_there cores canons resources n kind (Some element) given (read_op.Cancel side is_async) k serves = tt
end_there cores canons resources n kind (Some element) given (read_op.Drop side) k serves = tt

-- the resource of a number that serves a built-in
place_there : (resources : List Resource) (n : ℕ) (op : ResourceOp) (place : ℕ) (o : Option Resource) → slice_get resources place ≡ o → option_map_or (resource_serves n op) o false ≡ true → IsResourceThere resources n op (suc place)
place_there resources n op place None e h = never h
place_there resources n resource_op.New place (Some r) e h = record { place = place; resource = r; counted = refl; there = e; defined = (Decides-eqb r.instance n).0 h }
place_there resources n resource_op.Rep place (Some r) e h = record { place = place; resource = r; counted = refl; there = e; defined = (Decides-eqb r.instance n).0 h }
place_there resources n resource_op.Drop place (Some r) e h = (place, refl, ap (λ (o : Option Resource). is_some o) e)

number_there : (resources : List Resource) (n : ℕ) (op : ResourceOp) (number : ℕ) → option_map_or (resource_serves n op) (resource_numbered resources number) false ≡ true → IsResourceThere resources n op number
number_there resources n op zero h = never h
number_there resources n op (suc place) h = place_there resources n op place (slice_get resources place) refl h

resource_there : (cores : List CoreMake) (canons : List CanonFunc) (resources : List Resource) (n : ℕ) (op : ResourceOp) (number : Option ℕ) → (resource_meaning resources n true op number).serves ≡ true
    → IfSome (resource_meaning resources n true op number).means (IsBuiltinThere cores canons resources n)
resource_there cores canons resources n op None serves = tt
resource_there cores canons resources n op (Some number) serves = number_there resources n op number serves

builtin_is : (cores : List CoreMake) (canons : List CanonFunc) (l : Linking) (n : ℕ) (s : Spaces) (b : CanonBuiltin) → AllByRecursion (IsMemoryItem cores canons) s.core_memories → ((options : List CanonOption) → IsGiven cores canons (given_by s options))
    → (builtin_meaning l n s b).serves ≡ true → IfSome (builtin_meaning l n s b).means (IsBuiltinThere cores canons l.resources n)
builtin_is cores canons l n s (read_builtin.Plain b) h g serves = tt
builtin_is cores canons l n s (read_builtin.Context op slot) h g serves = less slot 2 serves
builtin_is cores canons l n s (read_builtin.Wait op cancellable memory) h g serves =
    if_mapped (λ m. builtin.Wait op cancellable m) (IsBuiltinThere cores canons l.resources n) (option_and_then core_memory_of (slice_get s.core_memories memory))
    (given_memory cores canons (slice_get s.core_memories memory) (all_at (IsMemoryItem cores canons) s.core_memories memory h))
builtin_is cores canons l n s (read_builtin.TaskReturn result options) h g serves =
    return_there cores canons l.resources n (close_passed (map Some s.types) result) options (given_by s options) (g options) serves
builtin_is cores canons l n s (read_builtin.End kind end_type op) h g serves = end_there cores canons l.resources n kind (elements_at s kind end_type) (given_by s) op g serves
builtin_is cores canons l n s (read_builtin.Resource op resource) h g serves = resource_there cores canons l.resources n op (option_and_then resource_of (slice_get s.types resource)) serves

pub builtin_there : (cores : List CoreMake) (canons : List CanonFunc) (l : Linking) (n : ℕ) (s : Spaces) (b : CanonBuiltin) (kind : BuiltinKind) → AllByRecursion (IsMemoryItem cores canons) s.core_memories
    → ((options : List CanonOption) → IsGiven cores canons (given_by s options)) → (builtin_meaning l n s b).means ≡ Some kind → (builtin_meaning l n s b).serves ≡ true → IsBuiltinThere cores canons l.resources n kind
builtin_there cores canons l n s b kind h g is serves = holds_at (IsBuiltinThere cores canons l.resources n) (builtin_meaning l n s b).means kind (builtin_is cores canons l n s b h g serves) is
