-- What outer aliases see of component instances.
use Rattle.std.proofs.Common.{◌≡◌, ℕ, List, [], ◌∷◌, ◌++◌, map, refl, sym, ap, subst, ◌∙◌, Some, None}
use Rattle.std.specs.Option.{option_map}
use Rattle.std.specs.List.{slice_get, AllZip}
use Rattle.std.proofs.lemmas.List.Concat.{flat_map-append}
use Rattle.link_spec.specs.Spaces as spaces
use Rattle.link_spec.specs.Spaces.{Spaces, Linking, level_of, listed_level, levels_at}
use Rattle.link_types.specs.Table.{Table, IsType}
use Rattle.link_instances.specs.References.{World}
use Rattle.link_meanings.specs.declared.levels.Level.{Level}
use Rattle.link_meanings.specs.Meant as meant
use Rattle.link_meanings.specs.Levels.{IsLevel, AreLevels}
use Rattle.link_meanings.specs.Levels as levels
use Rattle.link_state.specs.declared.scope.Scope.{Scope}
use Rattle.link_state.specs.State.{IsKept}
use Rattle.link_state.proofs.Zips.{zips_more}

-- what stands beside one another has a meaning
all_there : {A B : Type 0} (R : B → A → Type 0) (xs : List B) (ys : List A) → AllZip R xs ys → AllZip (meant.IsFoundAs R) (map Some xs) (map Some ys)
all_there R [] [] h = tt
all_there R [] (y ∷ ys) h = absurd h
all_there R (x ∷ xs) [] h = absurd h
all_there R (x ∷ xs) (y ∷ ys) h = ((y, refl, h.0), all_there R xs ys h.1)

level_seen : (t : Table) (w : World) (scope : Scope) (s : Spaces) (level : Level) → level.types.now ≡ scope.types.items → level.components.now ≡ scope.components.items → IsKept t w scope s → IsLevel t w.components level (level_of s)
level_seen t w scope s level types components h = record {
  types = rw types (all_there (IsType t) scope.types.items s.types h.types);
  components = rw components (all_there (levels.IsClosure w.components) scope.components.items s.components h.components);
}

more_levels : (l : Linking) (numbers : List ℕ) (number : ℕ) → levels_at l (numbers ++ number ∷ []) ≡ levels_at l numbers ++ (listed_level (option_map level_of (slice_get l.scopes number)) ++ [])
more_levels l numbers number = flat_map-append (λ (n : ℕ). listed_level (option_map level_of (slice_get l.scopes n))) numbers (number ∷ [])

append_none : {A : Type 0} (xs : List A) → xs ++ [] ≡ xs
append_none [] = refl
append_none (x ∷ xs) = ap (λ zs. x ∷ zs) (append_none xs)

module _ (t : Table) (w : World) (l : Linking) (levels : List Level) (numbers : List ℕ) (number : ℕ) (are : AreLevels t w.components levels (levels_at l numbers)) where
  -- one that has not begun
  pub level_none : slice_get l.scopes number ≡ None → AreLevels t w.components levels (levels_at l (numbers ++ number ∷ []))
  level_none none =
      let same : levels_at l (numbers ++ number ∷ []) ≡ levels_at l numbers = more_levels l numbers number ∙ rw none (append_none (levels_at l numbers)) in
      subst (λ (ls : List spaces.Level). AreLevels t w.components levels ls) (sym same) are

  -- one that has
  pub level_more : (scope : Scope) (s : Spaces) (level : Level) → slice_get l.scopes number ≡ Some s → IsKept t w scope s
      → level.types.now ≡ scope.types.items → level.components.now ≡ scope.components.items → AreLevels t w.components (levels ++ level ∷ []) (levels_at l (numbers ++ number ∷ []))
  level_more scope s level there h types components =
      let same : levels_at l (numbers ++ number ∷ []) ≡ levels_at l numbers ++ level_of s ∷ [] = more_levels l numbers number ∙ rw there refl in
      subst (λ (ls : List spaces.Level). AreLevels t w.components (levels ++ level ∷ []) ls) (sym same)
      (zips_more (IsLevel t w.components) levels (levels_at l numbers) level (level_of s) are (level_seen t w scope s level types components h))
