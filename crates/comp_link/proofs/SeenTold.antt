-- A definition as it is asked for, by what the table of instances answers.
use Rattle.std.proofs.Common.{◌≡◌, ℕ, Bool, true, false, List, refl, subst, Option, Some, None}
use Rattle.std.specs.Prelude.{Result, Ok, IfOk}
use Rattle.faults.specs.declared.memory.MemoryOr.{MemoryOr}
use Rattle.faults.specs.declared.memory.MemoryOr.TheVariants as memory
use Rattle.faults.specs.Faults.{IfFault}
use Rattle.comp_graph.specs.Closed.{Extern}
use Rattle.link_spec.specs.declared.fault.LinkWhy.{LinkWhy}
use Rattle.link_spec.specs.declared.fault.LinkWhy.TheVariants as why
use Rattle.link_spec.specs.Definitions.{Definition, Fits, seen_as}
use Rattle.link_spec.specs.Brought.{asked_of}
use Rattle.link_spec.specs.Items.{lacking}
use Rattle.link_spec.specs.Tests.{fits}
use Rattle.link_spec.specs.Computed.{none_missing}
use Rattle.link_spec.proofs.Fitting.{fits_lacks}
use Rattle.link_spec.proofs.Telling.{fits_told}
use Rattle.link_types.specs.Table.{Table, IsName}
use Rattle.link_instances.specs.declared.references.DefinitionRef.{DefinitionRef}
use Rattle.link_instances.specs.declared.fitting.Fit.{Fit}
use Rattle.link_instances.specs.declared.fitting.Fit.TheVariants as answer
use Rattle.link_instances.specs.References.{World, Stands}
use Rattle.link_instances.specs.Fit.{IsFit}
use Rattle.link_parts.specs.Told.{IsReason, IsTold}
use Rattle.link_state.proofs.Steps.{missing_told}
use Rattle.comp_link.specs.Ready.{as_wanted, IsSeen}

-- an answer that is there
pub fit_of_ok : {E : Type 0} (t : Table) (d : Definition) (x : Extern) (result : Result Fit E) (fit : Fit) → result ≡ Ok fit → IfOk result (IsFit t d x) → IsFit t d x fit
fit_of_ok {E} t d x result fit is h = let k : IfOk {E = E} (Ok fit) (IsFit t d x) = subst (λ (r : Result Fit E). IfOk r (IsFit t d x)) is h in k

not_fitting : (d : Definition) (x : Extern) → (Fits d x → ⊥) → fits d x ≡ false
not_fitting d x never = by (fits d x) refl
  where
    by : (b : Bool) → fits d x ≡ b → fits d x ≡ false
    by true is = absurd (never ((fits_told d x).0 is))
    by false is = is

known_missing : (t : Table) (number : ℕ) (missing : List ℕ) → IsName t number missing → (e : MemoryOr LinkWhy) → IfFault e (λ w. (name : List ℕ) → IsName t number name → w ≡ why.Missing name) → IfFault e (λ w. w ≡ why.Missing missing)
known_missing t number missing named memory.Memory told = tt
known_missing t number missing named (memory.Fault w) told = told missing named

module _ (t : Table) (w : World) (d : Definition) (asked : Extern) (name : List ℕ) (wanted : Option Extern) (is : wanted ≡ Some asked) (o : Fit) (fit : IsFit t d (asked_of d asked) o) where
  pub seen_fits : (ref : DefinitionRef) → o ≡ answer.Fits → (Fits d (asked_of d asked) → Stands t w ref (seen_as d (asked_of d asked)))
      → IsTold (IsSeen t w) (Ok (Some ref)) (none_missing (lacking (Some d) name wanted) (Ok (as_wanted d wanted)))
  seen_fits ref same stands =
      let fitting : Fits d (asked_of d asked) = subst (λ (o : Fit). IsFit t d (asked_of d asked) o) same fit in
      rw (is, fits_lacks d name (asked_of d asked) fitting, (fits_told d (asked_of d asked)).1 fitting) (stands fitting)

  pub seen_differs : o ≡ answer.Differs → IsTold (IsSeen t w) (Ok None) (none_missing (lacking (Some d) name wanted) (Ok (as_wanted d wanted)))
  seen_differs same =
      let differs = subst (λ (o : Fit). IsFit t d (asked_of d asked) o) same fit in
      rw (is, differs.0 name, not_fitting d (asked_of d asked) differs.1) refl

  pub seen_missing : (number : ℕ) (e : MemoryOr LinkWhy) → o ≡ answer.Missing number → IfFault e (λ w. (name : List ℕ) → IsName t number name → w ≡ why.Missing name)
      → IsReason e (none_missing {A = Result Definition LinkWhy} (lacking (Some d) name wanted) (Ok (as_wanted d wanted)))
  seen_missing number e same told =
      let lacking = subst (λ (o : Fit). IsFit t d (asked_of d asked) o) same fit in
      rw (is, lacking.2 name) (missing_told (Result Definition LinkWhy) e lacking.0 lacking.0 refl (known_missing t number lacking.0 lacking.1 e told))
