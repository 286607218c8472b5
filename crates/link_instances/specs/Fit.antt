-- Whether a definition is what is asked for, as an answer (Component Model, Explainer.md, "Instance Definitions").
use Rattle.std.specs.Prelude.{◌≡◌, ℕ, Bool, true, false, List, None, Some}
use Rattle.std.specs.List.{slice_get}
use Rattle.comp_graph.specs.Closed.{Extern}
use Rattle.link_spec.specs.Definitions.{Definition, Fits, lacks}
use Rattle.link_instances.specs.declared.fitting.Fit.{Fit}
use Rattle.link_instances.specs.declared.fitting.Fit.TheVariants as answer
use Rattle.link_types.specs.Table.{Table}

abbrev pub IsFit : Table → Definition → Extern → Fit → Type 0
IsFit t d x answer.Fits = Fits d x
IsFit t d x (answer.Missing number) =
    (missing : List ℕ) × (slice_get t.texts number ≡ Some missing) × ((name : List ℕ) → lacks (Some d) name x ≡ Some missing)
IsFit t d x answer.Differs = ((name : List ℕ) → lacks (Some d) name x ≡ None) × (Fits d x → ⊥)

-- where nothing is missing
abbrev pub fit_of : Bool → Fit
fit_of true = answer.Fits
fit_of false = answer.Differs
