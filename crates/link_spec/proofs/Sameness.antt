-- The tests say whether types of functions and closed types are the same.
use Rattle.std.proofs.Common.{◌≡◌, true, ◌&&◌, map, refl, ap, subst, Option, Some, None}
use Rattle.std.specs.Str.{bytes_eq}
use Rattle.std.proofs.lemmas.Bool.Decides.{Decides-eqb}
use Rattle.std.proofs.lemmas.Slice.Eq.{bytes_eq-Decides}
use Rattle.syntax_trees.specs.declared.types.ValType.{ValType}
use Rattle.syntax_trees.specs.declared.types.Param.{Param}
use Rattle.syntax_trees.specs.declared.types.FuncType.{FuncType}
use Rattle.comp_graph.specs.Closed.{Closed, Value, Func, Resource, Instance, Extern, OfFunc, OfType, OfInstance, Externs, EmptyType, WithExtern}
use Rattle.link_spec.specs.Same.{all_pass, same_val, same_param, same_result, same_func, same_closed, same_extern, same_externs}
use Rattle.link_spec.proofs.SameValues.{Tells, never, and, both, name_told, every, none_told, some_told, list_told, both_told, both_self, val_told}

-- Function types, and closed types.

param_told : (p : Param) → Tells (same_param p) p
param_told p other = (
  λ h. both_told (λ label val_type. (let p : Param = record { label = label; val_type = val_type } in p)) (bytes_eq p.label) (same_val p.val_type) p.label p.val_type (name_told p.label) (val_told p.val_type) other.label other.val_type h,
  λ e. subst (λ (other : Param). same_param p other ≡ true) e (both_self (bytes_eq p.label) (same_val p.val_type) p.label p.val_type (name_told p.label) (val_told p.val_type)),
)

result_told : (o : Option ValType) → Tells (same_result o) o
result_told None = none_told
result_told (Some t) = some_told (same_val t) t (val_told t)

pub func_told : (type : FuncType) → Tells (same_func type) type
func_told type other = (
  λ h. both_told (λ params returned. (let f : FuncType = record { params = params; result = returned } in f)) (all_pass (map same_param type.params)) (same_result type.result) type.params type.result params_told (result_told type.result) other.params other.result h,
  λ e. subst (λ (other : FuncType). same_func type other ≡ true) e (both_self (all_pass (map same_param type.params)) (same_result type.result) type.params type.result params_told (result_told type.result)),
)
  where
    params_told : Tells (all_pass (map same_param type.params)) type.params
    params_told = list_told same_param type.params (every (λ p. Tells (same_param p) p) param_told type.params)

mutual
  closed_same : (a b : Closed) → same_closed a b ≡ true → a ≡ b
  closed_same (Value type) (Value other) h = ap Value ((val_told type other).0 h)
  closed_same (Func type) (Func other) h = ap Func ((func_told type other).0 h)
  closed_same (Resource number) (Resource other) h = ap Resource ((Decides-eqb number other).0 h)
  closed_same (Instance externs) (Instance others) h = ap Instance (externs_same externs others h)
  closed_same a b h = never h

  extern_same : (a b : Extern) → same_extern a b ≡ true → a ≡ b
  extern_same (OfFunc type) (OfFunc other) h = ap OfFunc ((func_told type other).0 h)
  extern_same (OfType type) (OfType other) h = ap OfType (closed_same type other h)
  extern_same (OfInstance externs) (OfInstance others) h = ap OfInstance (externs_same externs others h)
  extern_same a b h = never h

  externs_same : (a b : Externs) → same_externs a b ≡ true → a ≡ b
  externs_same EmptyType EmptyType h = refl
  externs_same EmptyType (WithExtern others name extern) h = never h
  externs_same (WithExtern before name extern) EmptyType h = never h
  externs_same (WithExtern before name extern) (WithExtern others other_name other) h =
      let p = both (same_externs before others && bytes_eq name other_name) (same_extern extern other) h in
      let q = both (same_externs before others) (bytes_eq name other_name) p.0 in
      let first : before ≡ others = externs_same before others q.0 in
      let second : name ≡ other_name = (bytes_eq-Decides name other_name).0 q.1 in
      let third : extern ≡ other = extern_same extern other p.1 in
      cc (first, second, third)

mutual
  closed_self : (a : Closed) → same_closed a a ≡ true
  closed_self (Value type) = (val_told type type).1 refl
  closed_self (Func type) = (func_told type type).1 refl
  closed_self (Resource number) = (Decides-eqb number number).1 refl
  closed_self (Instance externs) = externs_self externs

  extern_self : (a : Extern) → same_extern a a ≡ true
  extern_self (OfFunc type) = (func_told type type).1 refl
  extern_self (OfType type) = closed_self type
  extern_self (OfInstance externs) = externs_self externs

  externs_self : (a : Externs) → same_externs a a ≡ true
  externs_self EmptyType = refl
  externs_self (WithExtern before name extern) =
      and (same_externs before before && bytes_eq name name) (same_extern extern extern) (and (same_externs before before) (bytes_eq name name) (externs_self before) ((bytes_eq-Decides name name).1 refl)) (extern_self extern)

pub closed_told : (a : Closed) → Tells (same_closed a) a
closed_told a b = (closed_same a b, λ e. subst (λ (b : Closed). same_closed a b ≡ true) e (closed_self a))
