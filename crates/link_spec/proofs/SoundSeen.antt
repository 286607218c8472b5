-- What is seen of a sound definition is sound, and so are an instance of types and definitions under names.
use Rattle.std.proofs.Common.{◌≡◌, ℕ, Bool, true, false, ◌||◌, cond, List, [], ◌∷◌, ◌++◌, length, map, refl, sym, ◌∙◌, subst, Option, Some, None}
use Rattle.std.specs.Prelude.{IfSome}
use Rattle.std.specs.Option.{option_map}
use Rattle.std.specs.Str.{bytes_eq}
use Rattle.syntax_trees.specs.Names.{AreDistinct, is_among, twice_behind}
use Rattle.syntax_trees.proofs.Seen.{among_more}
use Rattle.syntax_trees.proofs.Distinct.{distinct_law}
use Rattle.syntax_trees.specs.declared.module.ModuleTree.{ModuleTree}
use Rattle.comp_graph.specs.declared.graph.CanonFunc.{CanonFunc}
use Rattle.comp_tree.specs.declared.instances.NamedDefinition.{NamedDefinition}
use Rattle.comp_graph.specs.Closed.{Extern, OfFunc, OfType, OfInstance, Externs, EmptyType, WithExtern, extern_names}
use Rattle.link_spec.specs.Definitions.{Definition, AnInstance, Exports, EmptyInstance, WithExport, export_names, export_named, with_seen, seen_as, seen_exports, types_of}
use Rattle.link_spec.specs.Spaces.{CoreMake, Spaces, definition_at}
use Rattle.link_spec.specs.Items.{AreNamed}
use Rattle.link_spec.proofs.Holding.{holds_at, if_weaker, if_mapped}
use Rattle.link_spec.proofs.Apart.{IsExternApart, AreApart}
use Rattle.link_spec.proofs.Soundness.{IsSound, AreSound, AreSpacesSound}
use Rattle.link_spec.proofs.SoundSpaces.{definition_sound, named_sound}

pub neither : (a b : Bool) → (a || b) ≡ false → (a ≡ false) × (b ≡ false)
neither true b h = cc
neither false b h = (refl, h)

-- a name that is not among some, and one of them less
pub fresh_before : (q : List ℕ) (names : List (List ℕ)) (name : List ℕ) → is_among q (names ++ name ∷ []) ≡ false → (is_among q names ≡ false) × (bytes_eq name q ≡ false)
fresh_before q names name h = neither (is_among q names) (bytes_eq name q) (sym (among_more q names name) ∙ h)

fresh_behind : (q : List ℕ) (names : List (List ℕ)) (name : List ℕ) → is_among q names ≡ false → bytes_eq name q ≡ false → is_among q (names ++ name ∷ []) ≡ false
fresh_behind q names name h k = among_more q names name ∙ rw (h, k) refl

not_twice : (b : Bool) (k : ℕ) (r : Option ℕ) → cond b (Some k) r ≡ None → (b ≡ false) × (r ≡ None)
not_twice true k r h = cc
not_twice false k r h = (refl, h)

-- No name is among what is seen that is not among what is asked for.
fresh_with : (q : List ℕ) (o : Option Definition) (name : List ℕ) (seen : Exports) → is_among q (export_names seen) ≡ false → bytes_eq name q ≡ false → is_among q (export_names (with_seen o name seen)) ≡ false
fresh_with q None name seen h k = h
fresh_with q (Some d) name seen h k = fresh_behind q (export_names seen) name h k

fresh_seen : (q : List ℕ) (given : Exports) (asked : Externs) → is_among q (extern_names asked) ≡ false → is_among q (export_names (seen_exports given asked)) ≡ false
fresh_seen q given EmptyType h = refl
fresh_seen q given (WithExtern others name extern) h =
    let p = fresh_before q (extern_names others) name h in
    fresh_with q (option_map (λ d. seen_as d extern) (export_named name given)) name (seen_exports given others) (fresh_seen q given others p.0) p.1

fresh_types : (q : List ℕ) (externs : Externs) → is_among q (extern_names externs) ≡ false → is_among q (export_names (types_of externs)) ≡ false
fresh_types q EmptyType h = refl
fresh_types q (WithExtern others name (OfFunc type)) h = fresh_types q others (fresh_before q (extern_names others) name h).0
fresh_types q (WithExtern others name (OfType type)) h =
    let p = fresh_before q (extern_names others) name h in
    fresh_behind q (export_names (types_of others)) name (fresh_types q others p.0) p.1
fresh_types q (WithExtern others name (OfInstance inner)) h = fresh_types q others (fresh_before q (extern_names others) name h).0

module _ (R : ModuleTree → Type 0) (cores : List CoreMake) (canons : List CanonFunc) where
  with_sound : (o : Option Definition) (name : List ℕ) (seen : Exports) → IfSome o (IsSound R cores canons) → AreSound R cores canons seen → is_among name (export_names seen) ≡ false → AreSound R cores canons (with_seen o name seen)
  with_sound None name seen h k fresh = k
  with_sound (Some d) name seen h k fresh = (k, h, fresh)

  mutual
    pub seen_sound : (d : Definition) (extern : Extern) → IsSound R cores canons d → IsExternApart extern → IsSound R cores canons (seen_as d extern)
    seen_sound (AnInstance given) (OfInstance asked) h k = seen_all_sound given asked h k
    seen_sound d extern h k = h

    seen_all_sound : (given : Exports) (asked : Externs) → AreSound R cores canons given → AreApart asked → AreSound R cores canons (seen_exports given asked)
    seen_all_sound given EmptyType h k = tt
    seen_all_sound given (WithExtern others name extern) h k =
        with_sound (option_map (λ d. seen_as d extern) (export_named name given)) name (seen_exports given others)
        (if_mapped (λ d. seen_as d extern) (IsSound R cores canons) (export_named name given) (if_weaker (IsSound R cores canons) (λ (d : Definition). IsSound R cores canons (seen_as d extern)) (λ d j. seen_sound d extern j k.1) (export_named name given) (named_sound R cores canons name given h)))
        (seen_all_sound given others h k.0) (fresh_seen name given others k.2)

  pub types_sound : (externs : Externs) → AreApart externs → AreSound R cores canons (types_of externs)
  types_sound EmptyType h = tt
  types_sound (WithExtern others name (OfFunc type)) h = types_sound others h.0
  types_sound (WithExtern others name (OfType type)) h = (types_sound others h.0, h.1, fresh_types name others h.2)
  types_sound (WithExtern others name (OfInstance inner)) h = types_sound others h.0

  -- Definitions under distinct names.
  behind_sound : (s : Spaces) (before : Exports) (named : List NamedDefinition) (exports : Exports) → AreSpacesSound R cores canons s → AreSound R cores canons before
      → twice_behind (export_names before) (map (λ (d : NamedDefinition). d.name) named) ≡ None → AreNamed s before named exports → AreSound R cores canons exports
  behind_sound s before [] exports h k distinct are = subst (AreSound R cores canons) (sym are) k
  behind_sound s before (d ∷ named) exports h k distinct are =
      let p = not_twice (is_among d.name (export_names before)) (length (export_names before)) (twice_behind (export_names before ++ d.name ∷ []) (map (λ (d : NamedDefinition). d.name) named)) distinct in
      behind_sound s (WithExport before d.name are.0) named exports h
      (k, holds_at (IsSound R cores canons) (definition_at s d.sort d.index) are.0 (definition_sound R cores canons s d.sort d.index h) are.1, p.0) p.1 are.2

  pub are_named_sound : (s : Spaces) (named : List NamedDefinition) (exports : Exports) → AreSpacesSound R cores canons s → AreDistinct (map (λ (d : NamedDefinition). d.name) named) → AreNamed s EmptyInstance named exports → AreSound R cores canons exports
  are_named_sound s named exports h distinct are = behind_sound s EmptyInstance named exports h tt ((distinct_law (map (λ (d : NamedDefinition). d.name) named)).1 distinct) are
