-- Lifts: what they come to, by what is found of their parts.
use Rattle.std.proofs.Common.{◌≡◌, ℕ, true, false, List, refl, Some, None}
use Rattle.std.specs.Prelude.{Err}
use Rattle.std.specs.List.{slice_get, list_all}
use Rattle.syntax_trees.specs.declared.types.FuncType.{FuncType}
use Rattle.comp_tree.specs.declared.items.CanonOption.{CanonOption}
use Rattle.comp_graph.specs.Closed.{Closed, Value, Func, Resource, Instance}
use Rattle.link_spec.specs.declared.fault.LinkWhy.TheVariants as why
use Rattle.link_spec.specs.Definitions.{CoreItem}
use Rattle.link_spec.specs.Spaces.{Spaces}
use Rattle.link_spec.specs.Canons.{given_by, is_option_there}
use Rattle.link_spec.specs.Computed.{lifted_to, lifted_of}
use Rattle.link_values.specs.declared.refs.FuncTypeRef.{FuncTypeRef}
use Rattle.link_values.specs.declared.refs.TypeRef.{TypeRef}
use Rattle.link_values.specs.declared.refs.TypeRef.TheVariants as type_ref
use Rattle.link_types.specs.Table.{Table, IsFunc, IsType}

-- What a lift comes to where its parts are there or not.
module _ (n : ℕ) (s : Spaces) (f : ℕ) (options : List CanonOption) (t : ℕ) where
  pub no_item : slice_get s.core_funcs f ≡ None → lifted_of n s f options t ≡ Err why.Index
  no_item h = rw h refl

  module _ (item : CoreItem) (is : slice_get s.core_funcs f ≡ Some item) where
    pub no_option : list_all (is_option_there s) options ≡ false → lifted_of n s f options t ≡ Err why.Index
    no_option h = rw (is, h) refl

    module _ (are : list_all (is_option_there s) options ≡ true) where
      pub no_type : slice_get s.types t ≡ None → lifted_of n s f options t ≡ Err why.Index
      no_type h = rw (is, are, h) refl

      -- of a reference to another type than one of functions, and to one of functions
      pub other_type : (table : Table) (ref : TypeRef) (type : Closed) → ((g : FuncTypeRef) → ref ≡ type_ref.Func g → ⊥) → slice_get s.types t ≡ Some type → IsType table ref type
          → lifted_of n s f options t ≡ Err why.Typing
      other_type table (type_ref.Value val) (Value type) other h of = rw (is, are, h) refl
      other_type table (type_ref.Instance ref) (Instance type) other h of = rw (is, are, h) refl
      other_type table (type_ref.Resource number) (Resource own) other h of = rw (is, are, h) refl
      other_type table (type_ref.Func ref) type other h of = absurd (other ref refl)
      other_type table (type_ref.Value val) (Func type) other h of = absurd of
      other_type table (type_ref.Value val) (Instance type) other h of = absurd of
      other_type table (type_ref.Value val) (Resource own) other h of = absurd of
      other_type table (type_ref.Resource number) (Value type) other h of = absurd of
      other_type table (type_ref.Resource number) (Func type) other h of = absurd of
      other_type table (type_ref.Resource number) (Instance type) other h of = absurd of
      other_type table (type_ref.Instance ref) (Value type) other h of = absurd of
      other_type table (type_ref.Instance ref) (Func type) other h of = absurd of
      other_type table (type_ref.Instance ref) (Resource own) other h of = absurd of

      pub of_parts : (type : Closed) (of_func : FuncType) → slice_get s.types t ≡ Some type → type ≡ Func of_func → lifted_of n s f options t ≡ lifted_to n of_func item options (given_by s options)
      of_parts type of_func h e = rw (is, are, h, e) refl

pub of_func_type : (table : Table) (ref : FuncTypeRef) (type : Closed) → IsType table (type_ref.Func ref) type → (f : FuncType) × (type ≡ Func f) × IsFunc table ref f
of_func_type table ref (Func f) is = (f, refl, is)
of_func_type table ref (Value type) is = absurd is
of_func_type table ref (Resource number) is = absurd is
of_func_type table ref (Instance type) is = absurd is
