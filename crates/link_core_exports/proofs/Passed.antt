-- The argument of a name.
use Rattle.std.proofs.Common.{◌≡◌, ℕ, Bool, true, false, cond, List, [], ◌∷◌, refl, Option, Some, None}
use Rattle.std.specs.List.{slice_get, find}
use Rattle.std.specs.Option.{option_map}
use Rattle.std.specs.Str.{bytes_eq}
use Rattle.comp_tree.specs.declared.core_instances.CoreArgument.{CoreArgument}
use Rattle.link_spec.specs.Definitions.{CoreExport}
use Rattle.link_spec.specs.Items.{argument_named}

found_none : (b : Bool) (a : CoreArgument) (o : Option CoreArgument) (r at : Option (List CoreExport)) → option_map (λ (a : CoreArgument). a.instance) (cond b (Some a) o) ≡ None → (option_map (λ (a : CoreArgument). a.instance) o ≡ None → r ≡ None) → cond b at r ≡ None
found_none true a o r at h f = cc
found_none false a o r at h f = f h

pub named_none : (instances : List (List CoreExport)) (q : List ℕ) (arguments : List CoreArgument) → option_map (λ (a : CoreArgument). a.instance) (find (λ (a : CoreArgument). bytes_eq a.name q) arguments) ≡ None
    → argument_named instances q arguments ≡ None
named_none instances q [] h = refl
named_none instances q (a ∷ arguments) h = found_none (bytes_eq a.name q) a (find (λ (a : CoreArgument). bytes_eq a.name q) arguments) (argument_named instances q arguments) (slice_get instances a.instance) h (named_none instances q arguments)

found_some : (instances : List (List CoreExport)) (b : Bool) (a : CoreArgument) (o : Option CoreArgument) (i : ℕ) (r : Option (List CoreExport)) → option_map (λ (a : CoreArgument). a.instance) (cond b (Some a) o) ≡ Some i
    → (option_map (λ (a : CoreArgument). a.instance) o ≡ Some i → r ≡ slice_get instances i) → cond b (slice_get instances a.instance) r ≡ slice_get instances i
found_some instances true a o i r h f = let same : a.instance ≡ i = cc in rw same refl
found_some instances false a o i r h f = f h

pub named_some : (instances : List (List CoreExport)) (q : List ℕ) (arguments : List CoreArgument) (i : ℕ) → option_map (λ (a : CoreArgument). a.instance) (find (λ (a : CoreArgument). bytes_eq a.name q) arguments) ≡ Some i
    → argument_named instances q arguments ≡ slice_get instances i
named_some instances q [] i h = cc
named_some instances q (a ∷ arguments) i h = found_some instances (bytes_eq a.name q) a (find (λ (a : CoreArgument). bytes_eq a.name q) arguments) i (argument_named instances q arguments) h (named_some instances q arguments i)
