-- What the steps of a walk that compares an instance with a type leave.
use Rattle.link_types.specs.Table.{in_order}
use Rattle.std.proofs.Common.{◌≡◌, ℕ, Bool, true, false, ◌&&◌, List, [], ◌∷◌, refl, sym, ◌∙◌, subst, Option, Some, None}
use Rattle.std.specs.List.{list_all}
use Rattle.comp_graph.specs.Closed.{Extern, OfInstance, Externs, first_of}
use Rattle.link_spec.specs.Definitions.{AnInstance, Exports, export_named, lacks, first_lacking}
use Rattle.link_spec.specs.Items.{first_told}
use Rattle.link_spec.specs.Tests.{fit_all}
use Rattle.link_instances.specs.Views.{extern_lacks, extern_fits}
use Rattle.link_instances.specs.Fitting.{Frame, frame_lacks, frame_fits, Says, Holds}
use Rattle.link_spec.proofs.SameValues.{never}
use Rattle.link_instances.proofs.Views.{lacking_listed, fit_listed}

abbrev pub whole : Exports → Externs → Frame
whole given asked = record { given = given; asked = asked; rest = in_order asked }

abbrev pub with_rest : Frame → List (List ℕ × Extern) → Frame
with_rest f rest = record { given = f.given; asked = f.asked; rest = rest }

pub begins : (given : Exports) (asked : Externs) → Holds given asked true None true (whole given asked ∷ [])
begins given asked = (listed, (listed, λ (e : true ≡ false). cc))
  where
    listed : Says true given asked (first_told (extern_lacks given) (in_order asked)) (list_all (extern_fits given) (in_order asked))
    listed = record { lacking = lacking_listed given asked; fitting = λ _. fit_listed given asked }

-- where a name is missing above
missing_below : (given : Exports) (asked : Externs) (agrees : Bool) (name : List ℕ) (fit : Bool) (fs : List Frame)
    → Holds given asked agrees (Some name) fit fs → first_lacking given asked ≡ Some name
missing_below given asked agrees name fit [] h = h.0.lacking
missing_below given asked agrees name fit (f ∷ fs) h = missing_below given asked agrees name (fit && frame_fits f) fs h.1

-- where something above does not agree
and_false : (a b : Bool) → a ≡ false → (a && b) ≡ false
and_false a b h = rw h refl

disagrees_below : (given : Exports) (asked : Externs) (agrees : Bool) (missing : Option (List ℕ)) (fit other : Bool) (fs : List Frame)
    → (agrees ≡ true → fit ≡ false) → Holds given asked agrees missing fit fs → Holds given asked false missing other fs
disagrees_below given asked agrees missing fit other [] k h = (record { lacking = h.0.lacking; fitting = λ e. never e }, λ _. by agrees refl)
  where
    by : (b : Bool) → agrees ≡ b → fit_all given asked ≡ false
    by true e = h.0.fitting e ∙ k e
    by false e = h.1 e
disagrees_below given asked agrees missing fit other (f ∷ fs) k h = (
  record { lacking = h.0.lacking; fitting = λ e. never e },
  disagrees_below given asked agrees (first_of missing (frame_lacks f)) (fit && frame_fits f) (other && frame_fits f) fs (λ e. and_false fit (frame_fits f) (k e)) h.1,
)

-- The steps: on the top pair, something is left.

-- what a stack says where the next export of its top lacks and fits so
abbrev Next : Exports → Externs → Bool → Frame → List (List ℕ × Extern) → List Frame → Option (List ℕ) → Bool → Type 0
Next given asked agrees f more fs missing fit =
    Says agrees f.given f.asked (first_of missing (first_told (extern_lacks f.given) more)) (fit && list_all (extern_fits f.given) more)
    × Holds given asked agrees (first_of missing (first_told (extern_lacks f.given) more)) (fit && list_all (extern_fits f.given) more) fs

next : (given : Exports) (asked : Externs) (agrees : Bool) (f : Frame) (e : List ℕ × Extern) (more : List (List ℕ × Extern)) (fs : List Frame)
    → f.rest ≡ e ∷ more → Holds given asked agrees None true (f ∷ fs) → Next given asked agrees f more fs (extern_lacks f.given e) (extern_fits f.given e)
next given asked agrees f e more fs is h = subst (λ (rest : List (List ℕ × Extern)). Holds given asked agrees None true (with_rest f rest ∷ fs)) is h

next_is : (given : Exports) (asked : Externs) (agrees : Bool) (f : Frame) (more : List (List ℕ × Extern)) (fs : List Frame) (a b : Option (List ℕ)) (s t : Bool)
    → a ≡ b → s ≡ t → Next given asked agrees f more fs a s → Next given asked agrees f more fs b t
next_is given asked agrees f more fs a b s t e k h =
    subst (λ (t : Bool). Next given asked agrees f more fs b t) k (subst (λ (b : Option (List ℕ)). Next given asked agrees f more fs b s) e h)

-- it is missing, or something in it is
pub misses : (given : Exports) (asked : Externs) (agrees : Bool) (f : Frame) (e : List ℕ × Extern) (more : List (List ℕ × Extern)) (fs : List Frame) (name : List ℕ)
    → f.rest ≡ e ∷ more → extern_lacks f.given e ≡ Some name → Holds given asked agrees None true (f ∷ fs) → first_lacking given asked ≡ Some name
misses given asked agrees f e more fs name is lacks h =
    missing_below given asked agrees name (extern_fits f.given e && list_all (extern_fits f.given) more) fs
    (next_is given asked agrees f more fs (extern_lacks f.given e) (Some name) (extern_fits f.given e) (extern_fits f.given e) lacks refl (next given asked agrees f e more fs is h)).1

-- it fits, as far as all agrees
pub passes : (given : Exports) (asked : Externs) (agrees : Bool) (f : Frame) (e : List ℕ × Extern) (more : List (List ℕ × Extern)) (fs : List Frame)
    → f.rest ≡ e ∷ more → extern_lacks f.given e ≡ None → (agrees ≡ true → extern_fits f.given e ≡ true)
    → Holds given asked agrees None true (f ∷ fs) → Holds given asked agrees None true (with_rest f more ∷ fs)
passes given asked agrees f e more fs is lacks fit h = by agrees fit (next given asked agrees f e more fs is h)
  where
    by : (b : Bool) → (b ≡ true → extern_fits f.given e ≡ true) → Next given asked b f more fs (extern_lacks f.given e) (extern_fits f.given e) → Next given asked b f more fs None true
    by true fit n = next_is given asked true f more fs (extern_lacks f.given e) None (extern_fits f.given e) true lacks (fit refl) n
    by false fit n =
        let m = next_is given asked false f more fs (extern_lacks f.given e) None (extern_fits f.given e) (extern_fits f.given e) lacks refl n in (
          record { lacking = m.0.lacking; fitting = λ e. never e },
          disagrees_below given asked false (first_told (extern_lacks f.given) more) (extern_fits f.given e && list_all (extern_fits f.given) more) (list_all (extern_fits f.given) more) fs (λ e. never e) m.1,
        )

-- it does not agree
pub differs : (given : Exports) (asked : Externs) (agrees : Bool) (f : Frame) (e : List ℕ × Extern) (more : List (List ℕ × Extern)) (fs : List Frame)
    → f.rest ≡ e ∷ more → extern_lacks f.given e ≡ None → extern_fits f.given e ≡ false
    → Holds given asked agrees None true (f ∷ fs) → Holds given asked false None true (with_rest f more ∷ fs)
differs given asked agrees f e more fs is lacks fit h =
    let m = next_is given asked agrees f more fs (extern_lacks f.given e) None (extern_fits f.given e) false lacks fit (next given asked agrees f e more fs is h) in (
      record { lacking = m.0.lacking; fitting = λ e. never e },
      disagrees_below given asked agrees (first_told (extern_lacks f.given) more) false (list_all (extern_fits f.given) more) fs (λ _. refl) m.1,
    )

-- it is a pair of its own
pub goes_inside : (given : Exports) (asked : Externs) (agrees : Bool) (f : Frame) (e : List ℕ × Extern) (more : List (List ℕ × Extern)) (fs : List Frame) (inner : Exports) (wanted : Externs)
    → f.rest ≡ e ∷ more → export_named e.0 f.given ≡ Some (AnInstance inner) → e.1 ≡ OfInstance wanted
    → Holds given asked agrees None true (f ∷ fs) → Holds given asked agrees None true (whole inner wanted ∷ with_rest f more ∷ fs)
goes_inside given asked agrees f e more fs inner wanted is found asks h = (
  record { lacking = lacking_listed inner wanted; fitting = λ _. fit_listed inner wanted },
  next_is given asked agrees f more fs (extern_lacks f.given e) (first_told (extern_lacks inner) (in_order wanted)) (extern_fits f.given e) (list_all (extern_fits inner) (in_order wanted))
      (rw (found, asks) (lacking_listed inner wanted)) (rw (found, asks) (fit_listed inner wanted)) (next given asked agrees f e more fs is h),
)

-- Nothing is left of the top pair, or of all.
pub done : (given : Exports) (asked : Externs) (agrees : Bool) (f : Frame) (fs : List Frame) → f.rest ≡ [] → Holds given asked agrees None true (f ∷ fs)
    → Says agrees f.given f.asked None true × Holds given asked agrees None true fs
done given asked agrees f fs is h = subst (λ (rest : List (List ℕ × Extern)). Holds given asked agrees None true (with_rest f rest ∷ fs)) is h

pub ends : (given : Exports) (asked : Externs) (agrees : Bool) → Holds given asked agrees None true [] → (first_lacking given asked ≡ None) × (fit_all given asked ≡ agrees)
ends given asked agrees h = (h.0.lacking, by agrees refl)
  where
    by : (b : Bool) → agrees ≡ b → fit_all given asked ≡ agrees
    by true e = h.0.fitting e ∙ sym e
    by false e = h.1 e ∙ sym e

-- a pair that is known stays known
pub less_is_said : (agrees : Bool) (given : Exports) (asked : Externs) (missing : Option (List ℕ)) (fit : Bool) → Says agrees given asked missing fit → Says false given asked missing fit
less_is_said agrees given asked missing fit h = record { lacking = h.lacking; fitting = λ e. never e }
