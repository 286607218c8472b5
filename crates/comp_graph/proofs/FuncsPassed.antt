-- What functions pass, by numbers.
use Rattle.std.proofs.Common.{◌≡◌, ◌<◌, ◌∙◌, ℕ, zero, suc, List, [], ◌∷◌, length, map, get_or, refl, ap, sym, subst, arith, Option, Some, None, true}
use Rattle.std.specs.List.{slice_get, AllZip}
use Rattle.std.specs.Option.{option_map, option_and_then}
use Rattle.std.proofs.lemmas.Option.{slice_get_within, slice_get-map, slice_get_read}
use Rattle.std.proofs.lemmas.List.{length-map}
use Rattle.std.proofs.lemmas.Slice.Zip.{AllZip-long}
use Rattle.syntax_trees.specs.declared.types.ValType.{ValType}
use Rattle.syntax_trees.specs.declared.types.FuncType.{FuncType}
use Rattle.comp_graph.specs.declared.func_types.NumberedFunc.{NumberedFunc}
use Rattle.comp_graph.specs.declared.func_types.PassedTypes.{PassedTypes}
use Rattle.comp_graph.specs.declared.graph.Builtin.{Builtin}
use Rattle.comp_graph.specs.declared.graph.CanonFunc.{CanonFunc}
use Rattle.comp_graph.specs.declared.graph.CanonFunc.TheVariants as canon_func
use Rattle.comp_graph.specs.declared.graph.Lower.{Lower}
use Rattle.builtin_kinds.specs.declared.EndKind.{EndKind}
use Rattle.builtin_kinds.specs.declared.EndKind.TheVariants as end_kind
use Rattle.syntax_trees.specs.declared.types.ValType.TheViews.{outs-Stream, outs-Future}
use Rattle.laid_types.specs.Parts.{part_at, parts_case}
use Rattle.comp_graph.specs.declared.graph.EndOp.{EndOp}
use Rattle.comp_graph.specs.declared.graph.BuiltinKind.TheVariants as builtin
use Rattle.comp_graph.specs.Graph.{is_lower, numbered_value, passed_value}
use Rattle.comp_graph.specs.Passed.{TypeTable, params_type, MayBeAt, IsNumbered, ArePassed, HaveNumbers, HasCanonType, AreCanonTypes}

pub may_be_read : {A : Type 0} (values : List A) (number : Option ℕ) (type : Option A) → MayBeAt values number type → option_and_then (λ n. slice_get values n) number ≡ type
may_be_read values None None h = refl
may_be_read values (Some number) (Some type) h = h
may_be_read values None (Some type) h = absurd h
may_be_read values (Some number) None h = absurd h

pub passed_told : (values : List ValType) (f : NumberedFunc) (types : PassedTypes) → IsNumbered values f → slice_get values f.params ≡ Some types.params → types.returned ≡ option_and_then (λ n. slice_get values n) f.returned → ArePassed types f.func_type
passed_told values f types h params returned = record {
  params = (let both : Some types.params ≡ Some (params_type f.func_type) = sym params ∙ h.params in cc);
  returned = returned ∙ may_be_read values f.returned f.func_type.result h.returned;
}

-- What stands beside a number, and the number that stands beside a thing.
pub beside_number : {A : Type 0} (types : List FuncType) (of : A → FuncType) (numbers : List ℕ) (xs : List A) → AllZip (λ (n : ℕ) (x : A). slice_get types n ≡ Some (of x)) numbers xs → HaveNumbers types numbers
beside_number types of [] [] h at n is = cc
beside_number types of [] (x ∷ xs) h at n is = absurd h
beside_number types of (m ∷ numbers) [] h at n is = absurd h
beside_number types of (m ∷ numbers) (x ∷ xs) h zero n is = let same : m ≡ n = cc in slice_get_within types n (of x) (ap (λ (n : ℕ). slice_get types n) (sym same) ∙ h.0)
beside_number types of (m ∷ numbers) (x ∷ xs) h (suc at) n is = beside_number types of numbers xs h.1 at n is

pub number_beside : {A : Type 0} (types : List FuncType) (of : A → FuncType) (numbers : List ℕ) (xs : List A) → AllZip (λ (n : ℕ) (x : A). slice_get types n ≡ Some (of x)) numbers xs
    → (at : ℕ) (x : A) → slice_get xs at ≡ Some x → (n : ℕ) × (slice_get numbers at ≡ Some n) × (slice_get types n ≡ Some (of x))
number_beside types of [] [] h at x is = cc
number_beside types of [] (y ∷ xs) h at x is = absurd h
number_beside types of (m ∷ numbers) [] h at x is = absurd h
number_beside types of (m ∷ numbers) (y ∷ xs) h zero x is = let same : y ≡ x = cc in (m, refl, h.0 ∙ ap (λ y. Some (of y)) same)
number_beside types of (m ∷ numbers) (y ∷ xs) h (suc at) x is = number_beside types of numbers xs h.1 at x is

pub passed_by : {A : Type 0} (types : List FuncType) (of : A → FuncType) (numbers : List ℕ) (xs : List A) (at : ℕ) (passed : PassedTypes) → AllZip (λ (n : ℕ) (x : A). slice_get types n ≡ Some (of x)) numbers xs
    → ((n : ℕ) (f : FuncType) → slice_get numbers at ≡ Some n → slice_get types n ≡ Some f → ArePassed passed f) → (x : A) → slice_get xs at ≡ Some x → ArePassed passed (of x)
passed_by types of numbers xs at passed h told x is =
    let p = number_beside types of numbers xs h at x is in
    told p.0 (of x) p.1 p.2

pub func_read : (funcs : List NumberedFunc) (types : List FuncType) (number : ℕ) (f : NumberedFunc) → map (λ (f : NumberedFunc). f.func_type) funcs ≡ types → number < length types → f ≡ get_or funcs number f
    → (slice_get funcs number ≡ Some f) × (slice_get types number ≡ Some f.func_type)
func_read funcs types number f view within is =
    let long : length types ≡ length funcs = ap length (sym view) ∙ length-map funcs (λ (f : NumberedFunc). f.func_type) in
    let there = slice_get_read funcs (length funcs) number f refl (omega (arith, within, long)) is in
    (there, ap (λ (types : List FuncType). slice_get types number) (sym view) ∙ slice_get-map (λ (f : NumberedFunc). f.func_type) funcs number ∙ ap (option_map (λ (f : NumberedFunc). f.func_type)) there)

pub passed_of : (types : List FuncType) (number : ℕ) (made : FuncType) (passed : PassedTypes) → slice_get types number ≡ Some made → ArePassed passed made → (f : FuncType) → slice_get types number ≡ Some f → ArePassed passed f
passed_of types number made passed there h f is = subst (λ (f : FuncType). ArePassed passed f) (let both : Some made ≡ Some f = sym there ∙ is in cc) h

pub number_within : {A B : Type 0} (R : A → B → Type 0) (numbers : List A) (xs : List B) → AllZip R numbers xs → (at : ℕ) → at < length xs → at < length numbers
number_within R numbers xs h at within =
    let long : length xs ≡ length numbers = AllZip-long R numbers xs h in
    omega (arith, long, within)

-- The number of a lower is that of the type of the function which it calls.
pub record Lowers (types : TypeTable) (numbers : List (Option ℕ)) (canons : List CanonFunc) (at : ℕ) : Type 0 where
  pub number : ℕ
  pub lower : Lower
  pub numbered : slice_get numbers at ≡ Some (Some number)
  pub there : slice_get canons at ≡ Some (canon_func.Lower lower)
  pub typed : slice_get types.funcs number ≡ Some lower.func_type

lowers_behind : (types : TypeTable) (number : Option ℕ) (numbers : List (Option ℕ)) (canon : CanonFunc) (canons : List CanonFunc) (at : ℕ) → Lowers types numbers canons at → Lowers types (number ∷ numbers) (canon ∷ canons) (suc at)
lowers_behind types number numbers canon canons at h = record { number = h.number; lower = h.lower; numbered = h.numbered; there = h.there; typed = h.typed }

pub lowers_at : (types : TypeTable) (numbers : List (Option ℕ)) (canons : List CanonFunc) (at : ℕ) → AreCanonTypes types numbers canons → is_lower (slice_get canons at) ≡ true → Lowers types numbers canons at
lowers_at types [] [] at h is = cc
lowers_at types [] (c ∷ canons) at h is = absurd h
lowers_at types (n ∷ numbers) [] at h is = absurd h
lowers_at types (Some n ∷ numbers) (canon_func.Lower l ∷ canons) zero h is = record { number = n; lower = l; numbered = refl; there = refl; typed = h.0 }
lowers_at types (None ∷ numbers) (canon_func.Lower l ∷ canons) zero h is = absurd h.0
lowers_at types (n ∷ numbers) (canon_func.Builtin b ∷ canons) zero h is = cc
lowers_at types (n ∷ numbers) (c ∷ canons) (suc at) h is = lowers_behind types n numbers c canons at (lowers_at types numbers canons at h.1 is)

pub lower_number : (types : TypeTable) (numbers seen : List (Option ℕ)) (canons : List CanonFunc) (at : ℕ) (found : Option ℕ) (h : Lowers types numbers canons at) → seen ≡ numbers → slice_get seen at ≡ Some found → found ≡ Some h.number
lower_number types numbers seen canons at found h same is =
    let both : ◌≡◌ {A = Option (Option ℕ)} (Some found) (Some (Some h.number)) = sym is ∙ ap (λ (ns : List (Option ℕ)). slice_get ns at) same ∙ h.numbered in
    cc

pub lower_passed : (types : TypeTable) (numbers : List (Option ℕ)) (canons : List CanonFunc) (at func : ℕ) (passed : PassedTypes) (h : Lowers types numbers canons at) → func ≡ h.number
    → ((f : FuncType) → slice_get types.funcs func ≡ Some f → ArePassed passed f) → (l : Lower) → slice_get canons at ≡ Some (canon_func.Lower l) → ArePassed passed l.func_type
lower_passed types numbers canons at func passed h same told l is =
    let both : ◌≡◌ {A = Option CanonFunc} (Some (canon_func.Lower h.lower)) (Some (canon_func.Lower l)) = sym h.there ∙ is in
    let one : h.lower ≡ l = cc in
    told l.func_type (ap (slice_get types.funcs) same ∙ h.typed ∙ ap (λ (l : Lower). Some l.func_type) one)

-- The number of a built-in is that of the type of its result, or of the ends that it is of, where it has one.
pub built_at : (types : TypeTable) (numbers : List (Option ℕ)) (canons : List CanonFunc) (at : ℕ) (number : Option ℕ) (b : Builtin) → AreCanonTypes types numbers canons
    → slice_get numbers at ≡ Some number → slice_get canons at ≡ Some (canon_func.Builtin b) → MayBeAt types.values number (numbered_value b.kind)
built_at types [] [] at number b h is there = cc
built_at types [] (c ∷ canons) at number b h is there = absurd h
built_at types (n ∷ numbers) [] at number b h is there = absurd h
built_at types (n ∷ numbers) (c ∷ canons) zero number b h is there =
    subst (λ (number : Option ℕ). HasCanonType types number (canon_func.Builtin b)) (let same : n ≡ number = cc in same)
    (subst (λ (c : CanonFunc). HasCanonType types n c) (let same : c ≡ canon_func.Builtin b = cc in same) h.0)
built_at types (n ∷ numbers) (c ∷ canons) (suc at) number b h is there = built_at types numbers canons at number b h.1 is there

first_part : {parts others : List (Option ValType)} → parts ≡ others → option_and_then (λ (part : Option ValType). part) (slice_get parts 0) ≡ option_and_then (λ (part : Option ValType). part) (slice_get others 0)
first_part {parts} {others} same = ap (λ (all : List (Option ValType)). option_and_then (λ (part : Option ValType). part) (slice_get all 0)) same

-- The elements of ends are the one part of their type.
pub element_read : (kind : EndKind) (element : Option ValType) (op : EndOp)
    → option_and_then (λ (t : ValType). part_at t 0) (numbered_value (builtin.End kind element op)) ≡ passed_value (builtin.End kind element op)
element_read end_kind.Stream element op = first_part (ap parts_case (outs-Stream element))
element_read end_kind.Future element op = first_part (ap parts_case (outs-Future element))
