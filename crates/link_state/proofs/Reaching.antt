-- What linking comes to is sound, and what it comes to from there is come to.
use Rattle.std.proofs.Common.{◌≡◌, ℕ, zero, suc, List, [], ◌∷◌, length, refl, subst, Option, Some, None}
use Rattle.std.specs.Prelude.{Result, Ok, Err}
use Rattle.std.specs.List.{slice_get, AllByRecursion}
use Rattle.std.proofs.lemmas.Option.{slice_get_within}
use Rattle.ca_base.specs.declared.placed.Placed.{Placed}
use Rattle.comp_graph.specs.Graph.{IsItem}
use Rattle.comp_tree.specs.declared.items.Item.{Item, out-Item}
use Rattle.link_spec.specs.declared.fault.LinkWhy.{LinkWhy}
use Rattle.link_spec.specs.declared.fault.LinkFault.{LinkFault}
use Rattle.link_spec.specs.Definitions.{CoreExport, Closure, Exports, AnInstance}
use Rattle.link_spec.specs.Spaces.{Spaces, Linking, new_spaces, with_definition}
use Rattle.link_spec.specs.Linked.{begun, with_instance, exports_at, no_items, root_begun}
use Rattle.link_spec.specs.Computed.{after, Outcome, Makes, Starts, item_outcome, Run, behind, placed_at, step, run, run_within}
use Rattle.link_spec.proofs.Holding.{all_push, all_at, holds_at}
use Rattle.link_spec.proofs.Modules.{shape_has}
use Rattle.link_spec.proofs.Outcomes.{outcome_computed}
use Rattle.link_spec.proofs.Soundness.{AreSpacesSound, IsLinkingSound}
use Rattle.link_spec.proofs.SoundSpaces.{sound_new, sound_definition}
use Rattle.link_spec.proofs.SoundSeen.{are_named_sound}
use Rattle.link_spec.proofs.SoundItems.{with_spaces_sound, case_reached}
use Rattle.link_spec.proofs.SoundGraphs.{AnyModule, any_sound, exports_sound}
use Rattle.link_state.specs.Reached.{IsReached, root_begins, item_makes, component_begins, instance_ends}
use Rattle.link_state.specs.Running.{inside}
use Rattle.link_state.proofs.Keeping.{maker_stays}

-- a linking that is sound as far as it goes
abbrev IsSoundSoFar : Linking → Type 0
IsSoundSoFar l = IsLinkingSound AnyModule l

spaces_sound : (l : Linking) (n : ℕ) (s : Spaces) → IsSoundSoFar l → slice_get l.scopes n ≡ Some s → AreSpacesSound AnyModule l.cores l.canons s
spaces_sound l n s h e = holds_at (AreSpacesSound AnyModule l.cores l.canons) (slice_get l.scopes n) s (all_at (AreSpacesSound AnyModule l.cores l.canons) l.scopes n h.scopes) e

root_sound : IsSoundSoFar root_begun
root_sound = any_sound (record { items = [] }) root_begun (no_items root_begun 0)

made_sound : (l new : Linking) (n : ℕ) (s : Spaces) (item : Item) → IsSoundSoFar l → slice_get l.scopes n ≡ Some s → item_outcome l n s item ≡ Ok (Makes new) → IsSoundSoFar new
made_sound l new n s item h there e =
    let makes = (outcome_computed l n s item (Makes new)).0 e in
    let placed : Placed Item = record { place = 0; item = item } in
    (case_reached AnyModule l n s (out-Item item) new (shape_has AnyModule placed [] (λ m k. tt) (out-Item item) refl) h (spaces_sound l n s h there) makes).sound

begun_sound : (l : Linking) (n : ℕ) (s : Spaces) (item : Item) (c : Closure) (given : Exports) → IsSoundSoFar l → slice_get l.scopes n ≡ Some s → item_outcome l n s item ≡ Ok (Starts c given) → IsSoundSoFar (begun l c given)
begun_sound l n s item c given h there e =
    let begins = (outcome_computed l n s item (Starts c given)).0 e in
    let sound = are_named_sound AnyModule l.cores l.canons s begins.named given (spaces_sound l n s h there) begins.distinct begins.given in
    record {
      scopes = all_push (AreSpacesSound AnyModule l.cores l.canons) l.scopes (new_spaces (Some given) c.around) h.scopes (sound_new AnyModule l.cores l.canons (Some given) c.around sound);
      imported = h.imported;
      made = h.made;
      called = h.called;
      modules_have = h.modules_have;
    }

ended_sound : (l : Linking) (n : ℕ) (s : Spaces) (instance : ℕ) → IsSoundSoFar l → slice_get l.scopes n ≡ Some s → IsSoundSoFar (with_instance l n s instance)
ended_sound l n s instance h there =
    with_spaces_sound AnyModule l n (with_definition s (AnInstance (exports_at l instance))) h
    (sound_definition AnyModule l.cores l.canons s (AnInstance (exports_at l instance)) (spaces_sound l n s h there) (exports_sound AnyModule l instance h))

reached_sound : (l : Linking) → IsReached l → IsSoundSoFar l
reached_sound l root_begins = root_sound
reached_sound l (item_makes before new n s item h there e) = made_sound before new n s item (reached_sound before h) there e
reached_sound l (component_begins before n s item c given h there e) = begun_sound before n s item c given (reached_sound before h) there e
reached_sound l (instance_ends before n s instance h there) = ended_sound before n s instance (reached_sound before h) there

-- what the core instances of a component instance export is there
pub instances_there : (l : Linking) (n : ℕ) (s : Spaces) → IsReached l → slice_get l.scopes n ≡ Some s
    → AllByRecursion (λ (exports : List CoreExport). AllByRecursion (λ (e : CoreExport). IsItem l.cores l.canons e.item) exports) s.core_instances
instances_there l n s h there = (spaces_sound l n s (reached_sound l h) there).core.instances_there

-- Items that are gone through.

abbrev Reaches : Run → Type 0
Reaches within = (l : Linking) (n : ℕ) (items : List (Placed Item)) (last : Linking) → IsReached l → within l n items ≡ Ok last → IsReached last

same_ok : {A E : Type 0} (a b : A) → ◌≡◌ {A = Result A E} (Ok a) (Ok b) → a ≡ b
same_ok a b e = cc

module _ (depth : ℕ) (reaches : Reaches (inside depth)) where
  behind_reached : (l : Linking) (n : ℕ) (s : Spaces) (item : Item) (o : Outcome) (next : Linking) → IsReached l → slice_get l.scopes n ≡ Some s → item_outcome l n s item ≡ Ok o → behind (inside depth) l n s o ≡ Ok next → IsReached next
  behind_reached l n s item (Makes new) next h there is e = subst IsReached (same_ok new next e) (item_makes l new n s item h there is)
  behind_reached l n s item (Starts c given) next h there is e = by (inside depth (begun l c given) (length l.scopes) c.items) refl e
    where
      by : (r : Result Linking LinkFault) → inside depth (begun l c given) (length l.scopes) c.items ≡ r → after r (λ inner. Ok (with_instance inner n s (length l.scopes))) ≡ Ok next → IsReached next
      by (Ok inner) told e =
          subst IsReached (same_ok (with_instance inner n s (length l.scopes)) next e)
          (instance_ends inner n s (length l.scopes)
          (reaches (begun l c given) (length l.scopes) c.items inner (component_begins l n s item c given h there is) told)
          (maker_stays depth l n s c given c.items inner there (slice_get_within l.scopes n s there) told))
      by (Err fault) told e = cc

  step_by : (l : Linking) (n : ℕ) (s : Spaces) (placed : Placed Item) (next : Linking) → IsReached l → slice_get l.scopes n ≡ Some s → step (inside depth) l n placed (Some s) ≡ Ok next → IsReached next
  step_by l n s placed next h there e = by (item_outcome l n s placed.item) refl e
    where
      by : (r : Result Outcome LinkWhy) → item_outcome l n s placed.item ≡ r → after (placed_at placed.place r) (behind (inside depth) l n s) ≡ Ok next → IsReached next
      by (Ok o) is e = behind_reached l n s placed.item o next h there is e
      by (Err w) is e = cc

  any_step : (l : Linking) (n : ℕ) (placed : Placed Item) (o : Option Spaces) (next : Linking) → IsReached l → slice_get l.scopes n ≡ o → step (inside depth) l n placed o ≡ Ok next → IsReached next
  any_step l n placed None next h there e = subst IsReached (same_ok l next e) h
  any_step l n placed (Some s) next h there e = step_by l n s placed next h there e

  behind_one : (items : List (Placed Item)) (l : Linking) (n : ℕ) (last : Linking) (placed : Placed Item) → IsReached l → ((next : Linking) → IsReached next → run (inside depth) next n items ≡ Ok last → IsReached last)
      → (r : Result Linking LinkFault) → step (inside depth) l n placed (slice_get l.scopes n) ≡ r → after r (λ next. run (inside depth) next n items) ≡ Ok last → IsReached last
  behind_one items l n last placed h rest (Ok next) is e = rest next (any_step l n placed (slice_get l.scopes n) next h refl is) e
  behind_one items l n last placed h rest (Err fault) is e = cc

  run_reached : (items : List (Placed Item)) (l : Linking) (n : ℕ) (last : Linking) → IsReached l → run (inside depth) l n items ≡ Ok last → IsReached last
  run_reached [] l n last h e = subst IsReached (same_ok l last e) h
  run_reached (placed ∷ items) l n last h e =
      behind_one items l n last placed h (λ next reached e. run_reached items next n last reached e) (step (inside depth) l n placed (slice_get l.scopes n)) refl e

within_reached : (depth : ℕ) → Reaches (run_within depth)
within_reached zero l n items last h e = run_reached zero (λ l n items last h e. subst IsReached (same_ok l last e) h) items l n last h e
within_reached (suc depth) l n items last h e = run_reached (suc depth) (within_reached depth) items l n last h e

inside_reached : (depth : ℕ) → Reaches (inside depth)
inside_reached zero l n items last h e = subst IsReached (same_ok l last e) h
inside_reached (suc depth) l n items last h e = within_reached depth l n items last h e

-- what an item leads to is come to, from what is
pub step_reached : (depth : ℕ) (l : Linking) (n : ℕ) (s : Spaces) (placed : Placed Item) (next : Linking) → IsReached l → slice_get l.scopes n ≡ Some s → step (inside depth) l n placed (Some s) ≡ Ok next → IsReached next
step_reached depth = step_by depth (inside_reached depth)
