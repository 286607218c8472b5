-- The first core types of a function type tell what its lift needs, and its lower.
use Rattle.std.proofs.Common.{◌≡◌, ◌<◌, ◌≤◌, ◌++◌, ℕ, Bool, true, false, List, [], ◌∷◌, length, take, map, refl, ap, ◌∙◌, arith}
use Rattle.std.specs.Prelude.{nat_le, nat_lt, if◌then◌else◌, is_some}
use Rattle.std.proofs.lemmas.List.{length-take, take_all}
use Rattle.std.proofs.lemmas.Bool.{leb-true, leb-false, lt-leb}
use Rattle.std.proofs.lemmas.Bool.Decides.{nat_tests}
use Rattle.syntax_trees.specs.declared.core_type.CoreType.{CoreType}
use Rattle.syntax_trees.specs.declared.core_type.CoreType.TheVariants.{I32}
use Rattle.syntax_trees.specs.declared.types.FuncType.{FuncType}
use Rattle.syntax_trees.specs.declared.types.ValType.{ValType}
use Rattle.syntax_trees.specs.Flat.{flat, at_most, out_place, returned, flat_params, flat_payload, flat_func}
use Rattle.syntax_trees.specs.declared.core_type.FlatKind.{FlatKind}
use Rattle.syntax_trees.specs.declared.core_type.FlatKind.TheVariants.{SyncLift, AsyncLift, CallbackLift}
use Rattle.comp_graph.specs.declared.graph.Options.{Options}
use Rattle.comp_graph.specs.Needs.{core_val, core_func, lift_type, lifted_type, lower_type}
use Rattle.canon_types.specs.Results.{lift_results}
use Rattle.link_types.specs.declared.laid_func.LaidFunc.{LaidFunc}
use Rattle.link_types.specs.Laid.{IsLaid}

-- whether there are more than so many
more_than : (n m : ℕ) (ts : List CoreType) → n < m → nat_lt n (length (take m ts)) ≡ nat_lt n (length ts)
more_than n m ts h = let e = length-take m ts in grind (arith, nat_tests)

-- what the first tell, where more than so many tell nothing
first_tell : (n m : ℕ) (told : List CoreType → List CoreType) (many : List CoreType) (ts : List CoreType) → n < m
    → (if nat_le (length (take m ts)) n then told (take m ts) else many) ≡ (if nat_le (length ts) n then told ts else many)
first_tell n m told many ts h = by (nat_le (length ts) n) refl
  where
    by : (b : Bool) → nat_le (length ts) n ≡ b → (if nat_le (length (take m ts)) n then told (take m ts) else many) ≡ (if nat_le (length ts) n then told ts else many)
    by true e =
        let few : length ts ≤ m = omega (arith, leb-true (length ts) n e) in
        ap (λ (ts : List CoreType). if nat_le (length ts) n then told ts else many) (take_all m ts few)
    by false e =
        let more : n < length ts = leb-false (length ts) n e in
        let long : n < length (take m ts) = omega (arith, length-take m ts) in
        rw (lt-leb (length (take m ts)) n long, e) refl

-- which are passed, whether there is a place for them, and which are returned
first_passed : (n m : ℕ) (ts : List CoreType) → n < m → at_most n (take m ts) ≡ at_most n ts
first_passed n m ts h = first_tell n m (λ ts. ts) (I32 ∷ []) ts h

first_placed : (n m : ℕ) (ts : List CoreType) → n < m → out_place n (take m ts) ≡ out_place n ts
first_placed n m ts h = first_tell n m (λ ts. []) (I32 ∷ []) ts h

first_returned : (m : ℕ) (ts : List CoreType) → 1 < m → returned (take m ts) ≡ returned ts
first_returned m ts h = first_tell 1 m (λ ts. ts) [] ts h

pub params_are : (laid : LaidFunc) (f : FuncType) → IsLaid laid f → map core_val (at_most 16 laid.params) ≡ (lifted_type f).params
params_are laid f h = ap (λ (ts : List CoreType). map core_val (at_most 16 ts)) h.params ∙ ap (map core_val) (first_passed 16 17 (flat_params f) (omega arith))

pub results_are : (laid : LaidFunc) (f : FuncType) → IsLaid laid f → map core_val (at_most 1 laid.returned) ≡ (lifted_type f).results
results_are laid f h = ap (λ (ts : List CoreType). map core_val (at_most 1 ts)) h.returned ∙ ap (map core_val) (first_passed 1 17 (flat_payload f.result) (omega arith))

pub many_params : (laid : LaidFunc) (f : FuncType) → IsLaid laid f → nat_lt 16 (length laid.params) ≡ nat_lt 16 (length (flat_params f))
many_params laid f h = ap (λ (ts : List CoreType). nat_lt 16 (length ts)) h.params ∙ more_than 16 17 (flat_params f) (omega arith)

pub many_results : (laid : LaidFunc) (f : FuncType) → IsLaid laid f → nat_lt 1 (length laid.returned) ≡ nat_lt 1 (length (flat_payload f.result))
many_results laid f h = ap (λ (ts : List CoreType). nat_lt 1 (length ts)) h.returned ∙ more_than 1 17 (flat_payload f.result) (omega arith)

pub lowered_params_are : (laid : LaidFunc) (f : FuncType) → IsLaid laid f → map core_val (at_most 16 laid.params ++ out_place 1 laid.returned) ≡ (lower_type false f).params
lowered_params_are laid f h =
    ap (λ (ts : List CoreType). map core_val (at_most 16 ts ++ out_place 1 laid.returned)) h.params
    ∙ ap (λ (ts : List CoreType). map core_val (ts ++ out_place 1 laid.returned)) (first_passed 16 17 (flat_params f) (omega arith))
    ∙ ap (λ (ts : List CoreType). map core_val (at_most 16 (flat_params f) ++ out_place 1 ts)) h.returned
    ∙ ap (λ (ts : List CoreType). map core_val (at_most 16 (flat_params f) ++ ts)) (first_placed 1 17 (flat_payload f.result) (omega arith))

pub lowered_results_are : (laid : LaidFunc) (f : FuncType) → IsLaid laid f → map core_val (returned laid.returned) ≡ (lower_type false f).results
lowered_results_are laid f h = ap (λ (ts : List CoreType). map core_val (returned ts)) h.returned ∙ ap (map core_val) (first_returned 17 (flat_payload f.result) (omega arith))

-- The same by the kinds of lifts.
abbrev kind_of : Bool → Bool → FlatKind
kind_of is_async has_callback = if is_async then (if has_callback then CallbackLift else AsyncLift) else SyncLift

kind_params : (laid : LaidFunc) (f : FuncType) → IsLaid laid f → (is_async has_callback : Bool) → map core_val (at_most 16 laid.params) ≡ (core_func (flat_func (kind_of is_async has_callback) f)).params
kind_params laid f h true true = params_are laid f h
kind_params laid f h true false = params_are laid f h
kind_params laid f h false has_callback = params_are laid f h

pub lift_params_are : (laid : LaidFunc) (f : FuncType) (options : Options) → IsLaid laid f → map core_val (at_most 16 laid.params) ≡ (lift_type options f).params
lift_params_are laid f options h = kind_params laid f h options.is_async (is_some options.callback)

kind_results : (laid : LaidFunc) (f : FuncType) → IsLaid laid f → (is_async has_callback : Bool)
    → map core_val (if is_async then (if has_callback then (I32 ∷ []) else []) else at_most 1 laid.returned) ≡ (core_func (flat_func (kind_of is_async has_callback) f)).results
kind_results laid f h true true = refl
kind_results laid f h true false = refl
kind_results laid f h false has_callback = results_are laid f h

pub lift_results_are : (laid : LaidFunc) (f : FuncType) (options : Options) → IsLaid laid f → map core_val (lift_results options laid.returned) ≡ (lift_type options f).results
lift_results_are laid f options h = kind_results laid f h options.is_async (is_some options.callback)

-- The same of lowers with `async`, which pass four core values of parameters and none of a result.
pub more_params : (laid : LaidFunc) (f : FuncType) → IsLaid laid f → nat_lt 4 (length laid.params) ≡ nat_lt 4 (length (flat_params f))
more_params laid f h = ap (λ (ts : List CoreType). nat_lt 4 (length ts)) h.params ∙ more_than 4 17 (flat_params f) (omega arith)

pub some_results : (laid : LaidFunc) (f : FuncType) → IsLaid laid f → nat_lt 0 (length laid.returned) ≡ nat_lt 0 (length (flat_payload f.result))
some_results laid f h = ap (λ (ts : List CoreType). nat_lt 0 (length ts)) h.returned ∙ more_than 0 17 (flat_payload f.result) (omega arith)

pub async_params_are : (laid : LaidFunc) (f : FuncType) → IsLaid laid f → map core_val (at_most 4 laid.params ++ out_place 0 laid.returned) ≡ (lower_type true f).params
async_params_are laid f h =
    ap (λ (ts : List CoreType). map core_val (at_most 4 ts ++ out_place 0 laid.returned)) h.params
    ∙ ap (λ (ts : List CoreType). map core_val (ts ++ out_place 0 laid.returned)) (first_passed 4 17 (flat_params f) (omega arith))
    ∙ ap (λ (ts : List CoreType). map core_val (at_most 4 (flat_params f) ++ out_place 0 ts)) h.returned
    ∙ ap (λ (ts : List CoreType). map core_val (at_most 4 (flat_params f) ++ ts)) (first_placed 0 17 (flat_payload f.result) (omega arith))

-- The same of one type.
pub type_params_are : (t : ValType) → map core_val (at_most 16 (take 17 (flat t))) ≡ map core_val (at_most 16 (flat t))
type_params_are t = ap (map core_val) (first_passed 16 17 (flat t) (omega arith))

pub many_values : (t : ValType) → nat_lt 16 (length (take 17 (flat t))) ≡ nat_lt 16 (length (flat t))
many_values t = more_than 16 17 (flat t) (omega arith)
