-- What `task.return` comes to, by the number of the type of its result.
use Rattle.std.proofs.Common.{◌≡◌, ◌∙◌, ℕ, Bool, false, ◌&&◌, List, refl, sym, ap, subst, Option, Some, None}
use Rattle.syntax_trees.specs.declared.types.ValType.{ValType}
use Rattle.laid_types.specs.Layers.{tree_of}
use Rattle.comp_graph.specs.Graph.{builtin_type, numbered_value}
use Rattle.comp_graph.specs.Needs.{task_return_needs_memory}
use Rattle.comp_graph.specs.Passed.{MayBeAt}
use Rattle.comp_graph.specs.declared.graph.BuiltinKind.{BuiltinKind}
use Rattle.comp_graph.specs.declared.graph.BuiltinKind.TheVariants as builtin
use Rattle.comp_tree.specs.declared.items.CanonOption.{CanonOption}
use Rattle.link_spec.specs.Canons.{Given, options_of, stand_once, can_be_used}
use Rattle.link_spec.specs.Builtins.{return_meaning}
use Rattle.canon_types.specs.declared.builtins.Built.{Built}
use Rattle.canon_types.specs.Built.{IsBuiltinMeaning}

-- the type of a number
pub type_is : (values : List ValType) (number : Option ℕ) (type : Option ValType) → MayBeAt values number type → tree_of values number ≡ type
type_is values None None h = refl
type_is values None (Some x) h = absurd h
type_is values (Some n) None h = absurd h
type_is values (Some n) (Some x) h = h

module _ (values : List ValType) (is_there : Bool) (options : List CanonOption) (given : Given) where
  -- no type of values
  pub returns_none : (once : Bool) (result : Option (Option ValType)) → once ≡ stand_once options → result ≡ None
      → IsBuiltinMeaning values (record { is_there = is_there; means = None; serves = once }) (return_meaning is_there result options given)
  returns_none once result h e = rw e (record { is_there = refl; means = refl; serves = h; built = tt })

  -- one, or none
  pub returns_some : (number : Option ℕ) (held : Option ValType) (serves : Bool) (made : Built) (result : Option (Option ValType)) (type : Option ValType)
      → result ≡ Some type → MayBeAt values number type → held ≡ tree_of values number
      → serves ≡ (can_be_used (task_return_needs_memory held) false given && stand_once options)
      → made.kind ≡ builtin.TaskReturn held (options_of given) → made.core_type ≡ builtin_type made.kind → made.passed ≡ number
      → IsBuiltinMeaning values (record { is_there = is_there; means = Some made; serves = serves }) (return_meaning is_there result options given)
  returns_some number held serves made result type is at h s k typed p =
      let same : held ≡ type = h ∙ type_is values number type at in
      let kind : made.kind ≡ builtin.TaskReturn type (options_of given) = k ∙ ap (λ (t : Option ValType). builtin.TaskReturn t (options_of given)) same in
      let passes : MayBeAt values made.passed (numbered_value made.kind) =
      subst (λ (n : Option ℕ). MayBeAt values n (numbered_value made.kind)) (sym p) (subst (λ (x : BuiltinKind). MayBeAt values number (numbered_value x)) (sym kind) at) in
      rw is (record {
        is_there = refl;
        means = ap Some kind;
        serves = s ∙ ap (λ (t : Option ValType). can_be_used (task_return_needs_memory t) false given && stand_once options) same;
        built = record { typed = typed; passes = passes };
      })
