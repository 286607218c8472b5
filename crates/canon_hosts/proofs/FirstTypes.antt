-- The first core types of what a function or a built-in passes tell the type of the core function.
use Rattle.std.proofs.Common.{◌≡◌, ◌<◌, ◌≤◌, ◌++◌, ℕ, Bool, true, false, List, [], ◌∷◌, length, take, map, refl, ap, ◌∙◌, arith, Option}
use Rattle.std.specs.Prelude.{nat_le, if◌then◌else◌}
use Rattle.std.specs.List.{flat_map}
use Rattle.std.proofs.lemmas.List.{length-take, take_all}
use Rattle.std.proofs.lemmas.Bool.{leb-true, leb-false, lt-leb}
use Rattle.syntax_trees.specs.declared.core_type.CoreType.{CoreType}
use Rattle.syntax_trees.specs.declared.core_type.CoreType.TheVariants.{I32}
use Rattle.syntax_trees.specs.declared.types.FuncType.{FuncType}
use Rattle.syntax_trees.specs.declared.types.Param.{Param}
use Rattle.syntax_trees.specs.declared.types.ValType.{ValType}
use Rattle.syntax_trees.specs.Flat.{flat, all_of, at_most, out_place, returned, flat_params, flat_payload}
use Rattle.syntax_trees.proofs.FlatEquations.{flat_of_tuple}
use Rattle.comp_graph.specs.declared.func_types.PassedTypes.{PassedTypes}
use Rattle.comp_graph.specs.Needs.{core_val, lower_type, task_return_type}
use Rattle.comp_graph.specs.Passed.{ArePassed, params_type}

-- what the first tell, where more than so many tell nothing
first_tell : (n m : ℕ) (told : List CoreType → List CoreType) (many : List CoreType) (ts : List CoreType) → n < m
    → (if nat_le (length (take m ts)) n then told (take m ts) else many) ≡ (if nat_le (length ts) n then told ts else many)
first_tell n m told many ts h = by (nat_le (length ts) n) refl
  where
    by : (b : Bool) → nat_le (length ts) n ≡ b → (if nat_le (length (take m ts)) n then told (take m ts) else many) ≡ (if nat_le (length ts) n then told ts else many)
    by true e =
        let few : length ts ≤ m = omega (arith, leb-true (length ts) n e) in
        ap (λ (ts : List CoreType). if nat_le (length ts) n then told ts else many) (take_all m ts few)
    by false e =
        let more : n < length ts = leb-false (length ts) n e in
        let long : n < length (take m ts) = omega (arith, length-take m ts) in
        rw (lt-leb (length (take m ts)) n long, e) refl

-- which are passed, whether there is a place for them, and which are returned
first_passed : (n m : ℕ) (ts : List CoreType) → n < m → at_most n (take m ts) ≡ at_most n ts
first_passed n m ts h = first_tell n m (λ ts. ts) (I32 ∷ []) ts h

first_placed : (n m : ℕ) (ts : List CoreType) → n < m → out_place n (take m ts) ≡ out_place n ts
first_placed n m ts h = first_tell n m (λ ts. []) (I32 ∷ []) ts h

first_returned : (m : ℕ) (ts : List CoreType) → 1 < m → returned (take m ts) ≡ returned ts
first_returned m ts h = first_tell 1 m (λ ts. ts) [] ts h

-- The core types of arguments, as one tuple, are those of the parameters.
all_flat : (params : List Param) → all_of (map flat (map (λ (p : Param). p.val_type) params)) ≡ flat_map (λ (p : Param). flat p.val_type) params
all_flat [] = refl
all_flat (p ∷ params) = ap (λ (ts : List CoreType). flat p.val_type ++ ts) (all_flat params)

flat_is_params : (f : FuncType) → flat (params_type f) ≡ flat_params f
flat_is_params f = flat_of_tuple (map (λ (p : Param). p.val_type) f.params) ∙ all_flat f.params

-- parameters, of which so many are passed as core values, and the place of a result of which so many are
both_passed : (most held : ℕ) (types : PassedTypes) (f : FuncType) → most < 17 → held < 17 → ArePassed types f
    → at_most most (take 17 (flat types.params)) ++ out_place held (take 17 (flat_payload types.returned)) ≡ at_most most (flat_params f) ++ out_place held (flat_payload f.result)
both_passed most held types f m h are =
    ap (λ (ts : List CoreType). ts ++ out_place held (take 17 (flat_payload types.returned))) (first_passed most 17 (flat types.params) m)
    ∙ ap (λ (ts : List CoreType). at_most most (flat types.params) ++ ts) (first_placed held 17 (flat_payload types.returned) h)
    ∙ ap (λ (t : ValType). at_most most (flat t) ++ out_place held (flat_payload types.returned)) are.params
    ∙ ap (λ (ts : List CoreType). at_most most ts ++ out_place held (flat_payload types.returned)) (flat_is_params f)
    ∙ ap (λ (t : Option ValType). at_most most (flat_params f) ++ out_place held (flat_payload t)) are.returned

pub lowered_params_are : (types : PassedTypes) (f : FuncType) → ArePassed types f
    → map core_val (at_most 16 (take 17 (flat types.params)) ++ out_place 1 (take 17 (flat_payload types.returned))) ≡ (lower_type false f).params
lowered_params_are types f h = ap (map core_val) (both_passed 16 1 types f (omega arith) (omega arith) h)

pub lowered_results_are : (types : PassedTypes) (f : FuncType) → ArePassed types f
    → map core_val (returned (take 17 (flat_payload types.returned))) ≡ (lower_type false f).results
lowered_results_are types f h =
    ap (map core_val) (first_returned 17 (flat_payload types.returned) (omega arith))
    ∙ ap (λ (t : Option ValType). map core_val (returned (flat_payload t))) h.returned

pub async_params_are : (types : PassedTypes) (f : FuncType) → ArePassed types f
    → map core_val (at_most 4 (take 17 (flat types.params)) ++ out_place 0 (take 17 (flat_payload types.returned))) ≡ (lower_type true f).params
async_params_are types f h = ap (map core_val) (both_passed 4 0 types f (omega arith) (omega arith) h)

-- a result that is passed
pub return_params_are : (t : Option ValType) → map core_val (at_most 16 (take 17 (flat_payload t))) ≡ (task_return_type t).params
return_params_are t = ap (map core_val) (first_passed 16 17 (flat_payload t) (omega arith))
