-- A definition that fits lacks no name.
use Rattle.std.proofs.Common.{◌≡◌, ℕ, List, refl, Some, None}
use Rattle.comp_graph.specs.Closed.{Extern, OfFunc, OfType, OfInstance, Externs, EmptyType, WithExtern}
use Rattle.link_spec.specs.Definitions.{Definition, AFunc, AType, AComponent, AnInstance, AModule, Exports, Fits, FitAll, lacks, first_lacking}

mutual
  pub fits_lacks : (d : Definition) (name : List ℕ) (extern : Extern) → Fits d extern → lacks (Some d) name extern ≡ None
  fits_lacks (AFunc f) name extern h = refl
  fits_lacks (AType type) name extern h = refl
  fits_lacks (AComponent c) name extern h = refl
  fits_lacks (AModule m) name extern h = refl
  fits_lacks (AnInstance given) name (OfFunc type) h = refl
  fits_lacks (AnInstance given) name (OfType type) h = refl
  fits_lacks (AnInstance given) name (OfInstance asked) h = all_fit_lacks given asked h

  pub all_fit_lacks : (given : Exports) (asked : Externs) → FitAll given asked → first_lacking given asked ≡ None
  all_fit_lacks given EmptyType h = refl
  all_fit_lacks given (WithExtern others name extern) h =
      rw (all_fit_lacks given others h.0, h.1.1) (fits_lacks h.1.0 name extern h.1.2)
