-- What lifts and lowers ask of a function type, parameter by parameter.
use Rattle.std.proofs.Common.{◌≡◌, ◌∙◌, ◌<◌, ◌≤◌, ◌+◌, ℕ, Bool, true, false, ◌||◌, List, [], ◌∷◌, ◌++◌, length, map, take, drop, get_or, ap, sym, Option, Some}
use Rattle.std.specs.List.{slice_get, AllZip, flat_map}
use Rattle.syntax_trees.specs.declared.core_type.CoreType.{CoreType}
use Rattle.syntax_trees.specs.declared.types.ValType.{ValType}
use Rattle.syntax_trees.specs.declared.types.Param.{Param}
use Rattle.syntax_trees.specs.Ends.{some_true}
use Rattle.syntax_trees.specs.Flat.{flat}
use Rattle.laid_types.proofs.Kept.{row_more, row_kept, row_end}
use Rattle.link_types.specs.declared.labels.LabelledType.{LabelledType}
use Rattle.link_types.specs.Labels.{IsParam}
use Rattle.link_types.proofs.Zips.{one_left, none_left}

-- the core types of parameters, and whether one of them passes a test
abbrev pub flat_of : List Param → List CoreType
flat_of params = flat_map (λ (p : Param). flat p.val_type) params

abbrev pub some_in : (ValType → Bool) → List Param → Bool
some_in test params = some_true (map (λ (p : Param). test p.val_type) params)

module _ (values : List ValType) (params : List LabelledType) where
  -- What is known of all parameters by those that are left, whichever the labels stand for.
  abbrev pub ByRest : {A : Type 0} → ℕ → (List Param → A) → (List Param → A) → Type 0
  ByRest n whole rest = (all : List Param) → AllZip (IsParam values) params all → whole all ≡ rest (drop n all)

  -- the core types so far, behind which those of the parameters that are left stand
  pub record FlatSoFar (n : ℕ) (types : List CoreType) : Type 0 where
    pub kept : types ≡ take 17 types
    pub told : ByRest n (λ all. take 17 (flat_of all)) (λ rest. take 17 (types ++ flat_of rest))

  -- No parameter so far passes a test.
  abbrev pub NoneSoFar : (ValType → Bool) → ℕ → Type 0
  NoneSoFar test n = ByRest n (some_in test) (some_in test)

  rest_more : {A : Type 0} (whole rest : List Param → A) (n : ℕ) (d : LabelledType) (t : ValType) → n < length params → slice_get values (get_or params n d).val_type ≡ Some t → ByRest n whole rest
      → (all : List Param) → AllZip (IsParam values) params all → (p : Param) × (t ≡ p.val_type) × (whole all ≡ rest (p ∷ drop (n + 1) all))
  rest_more whole rest n d t within there so_far all zip =
      let one = one_left (IsParam values) params all n d zip within in
      let same : ◌≡◌ {A = Option ValType} (Some t) (Some one.0.val_type) = sym there ∙ one.2.1 in
      (one.0, cc, so_far all zip ∙ ap rest one.1)

  rest_none : {A : Type 0} (whole rest : List Param → A) (n : ℕ) → length params ≤ n → ByRest n whole rest → (all : List Param) → AllZip (IsParam values) params all → whole all ≡ rest []
  rest_none whole rest n past so_far all zip = so_far all zip ∙ ap rest (none_left (IsParam values) params all n zip past)

  -- One parameter more, and none more.
  pub flat_more : (n : ℕ) (d : LabelledType) (t : ValType) (types next : List CoreType) → n < length params → slice_get values (get_or params n d).val_type ≡ Some t → next ≡ take 17 (types ++ take 17 (flat t)) → FlatSoFar n types → FlatSoFar (n + 1) next
  flat_more n d t types next within there more so_far = record {
    kept = row_kept 17 types (flat t) next more;
    told = λ all zip.
        let one = rest_more (λ all. take 17 (flat_of all)) (λ rest. take 17 (types ++ flat_of rest)) n d t within there so_far.told all zip in
        let more_is : next ≡ take 17 (types ++ take 17 (flat one.0.val_type)) = more ∙ ap (λ (t : ValType). take 17 (types ++ take 17 (flat t))) one.1 in
        one.2 ∙ row_more 17 types (flat one.0.val_type) (flat_of (drop (n + 1) all)) next more_is;
  }

  pub flat_all : (n : ℕ) (types : List CoreType) → length params ≤ n → FlatSoFar n types → (all : List Param) → AllZip (IsParam values) params all → types ≡ take 17 (flat_of all)
  flat_all n types past so_far all zip =
      sym (rest_none (λ all. take 17 (flat_of all)) (λ rest. take 17 (types ++ flat_of rest)) n past so_far.told all zip ∙ row_end 17 types so_far.kept)

  pub none_more : (test : ValType → Bool) (n : ℕ) (d : LabelledType) (t : ValType) → n < length params → slice_get values (get_or params n d).val_type ≡ Some t → test t ≡ false → NoneSoFar test n → NoneSoFar test (n + 1)
  none_more test n d t within there none so_far all zip =
      let one = rest_more (some_in test) (some_in test) n d t within there so_far all zip in
      one.2 ∙ ap (λ (b : Bool). b || some_in test (drop (n + 1) all)) (ap test (sym one.1) ∙ none)

  pub one_found : (test : ValType → Bool) (n : ℕ) (d : LabelledType) (t : ValType) → n < length params → slice_get values (get_or params n d).val_type ≡ Some t → test t ≡ true → NoneSoFar test n → (all : List Param) → AllZip (IsParam values) params all → true ≡ some_in test all
  one_found test n d t within there some so_far all zip =
      let one = rest_more (some_in test) (some_in test) n d t within there so_far all zip in
      sym (one.2 ∙ ap (λ (b : Bool). b || some_in test (drop (n + 1) all)) (ap test (sym one.1) ∙ some))

  pub none_found : (test : ValType → Bool) (n : ℕ) → length params ≤ n → NoneSoFar test n → (all : List Param) → AllZip (IsParam values) params all → false ≡ some_in test all
  none_found test n past so_far all zip = sym (rest_none (some_in test) (some_in test) n past so_far all zip)
