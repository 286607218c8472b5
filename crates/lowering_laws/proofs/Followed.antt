-- A plan that is followed in a room settles over what was answered.
use Rattle.std.proofs.Common.{ℕ, suc, List, [], ◌∷◌, length, refl, ap, sym, subst, inl, inr}
use Rattle.value_lower.specs.Plan.{Plan, Gives, Fails, Asks, Size, Put, Adds}
use Rattle.value_lower.specs.Following.{Rooms, Came, Words, Failed, Ended}
use Rattle.lowering_laws.specs.Settling.{Answer, Settles}
use Rattle.lowering_laws.specs.ValueRooms.{FollowedOver, FollowedSettle, Leaves, StoredStand, ListsStand, PlacedStand, LoweredStand, LoweredAreTyped, PlacedAreTyped}
use Rattle.lowering_laws.specs.Values.{AllInRange, none_in, more_in, AllAre, none_are, more_are}
use Rattle.syntax_trees.specs.declared.types.ValType.{ValType}
use Rattle.syntax_trees.specs.declared.value.Value.{Value}
use Rattle.value_lower.specs.Fitting.{AllFit}
use Rattle.lowering_laws.specs.ApartPlaces.{Region, Apart}
use Rattle.lowering_laws.specs.ValueLaws.{target, list_target, IsPlaced}
use Rattle.value_lower.specs.Lowering.{stored, all_stored, placed, flat_lowered}
use Rattle.value_lift.specs.Stored.{IsStored, AreStored, IsFlattened}
use Rattle.syntax_trees.specs.declared.core_type.CoreType.TheVariants.{I32}
use Rattle.syntax_trees.specs.Flat.{flat}
use Rattle.value_lower.proofs.Giving.{given}
use Rattle.value_lift.specs.WordStanding.{AreWords}
use Rattle.lowering_laws.proofs.Fitted.{fitted}
use Rattle.lowering_laws.proofs.Widths.{flat_gives, placed_gives}
use Rattle.lowering_laws.proofs.Standing.{stored_values_stand, stored_lists_stand, placed_values_stand, lowered_words_stand}

-- the core values that a plan came to
abbrev words_of : {T : Type 0} → List ℕ → Came T → List ℕ
words_of other (Words words) = words
words_of other (Failed why) = other
words_of other (Ended end) = other

abbrev are_words : {T : Type 0} → Came T → Type 0
are_words (Words words) = Unit {0}
are_words (Failed why) = ⊥
are_words (Ended end) = ⊥

-- values that fit are of the type
each_fits : {all : List Value} → AllInRange all → (type : ValType) → AllFit all type → AllAre type all
each_fits none_in type fit = none_are type
each_fits (more_in v all is are) type fit = more_are type v all (fitted is type (fit 0 v refl)) (each_fits are type (λ n w h. fit (suc n) w h))

module _ {R T : Type 0} (rooms : Rooms R T) where
  pub followed_over : FollowedOver rooms
  followed_over (Gives words) r s given h = ([], (refl, ap (words_of given) h.0, h.1))
  followed_over (Fails why) r s given h = absurd (subst are_words h.0 tt)
  followed_over (Asks ask k) r s given (inl h) =
      let w = followed_over (k h.0) h.1 s given h.3 in
      (record { asked = ask; place = h.0; before = rooms.memory r; after = rooms.memory h.1 } ∷ w.0, (h.0, h.1, w.0, refl, h.2, w.1))
  followed_over (Asks ask k) r s given (inr h) = absurd (subst are_words h.2 tt)
  followed_over (Size k) r s given h = followed_over (k (length (rooms.memory r))) r s given h
  followed_over (Put place bytes k) r s given h =
      let w = followed_over k h.0 s given h.2 in
      (w.0, (h.0, h.1, w.1))
  followed_over (Adds entry k) r s given h =
      let w = followed_over (k h.0) h.1 s given h.3 in
      (w.0, (h.0, h.1, h.2, w.1))

  pub followed_settle : FollowedSettle rooms
  followed_settle (Gives words) r s over given h = (h.0, ap rooms.memory h.2, h.1)
  followed_settle (Fails why) r s over given h = h
  followed_settle (Asks ask k) r s over given h =
      let e : Answer = record { asked = ask; place = h.0; before = rooms.memory r; after = rooms.memory h.1 } in
      subst (λ (es : List Answer). Settles (Asks ask k) (rooms.memory r) es (rooms.memory s) given) (sym h.3)
      (record { asked = refl; before = refl; low = h.4.1; grows = h.4.2 }, followed_settle (k h.0) h.1 s h.2 given h.5)
  followed_settle (Size k) r s over given h = followed_settle (k (length (rooms.memory r))) r s over given h
  followed_settle (Put place bytes k) r s over given h =
      subst (λ (m : List ℕ). Settles k m over (rooms.memory s) given) h.1.1 (followed_settle k h.0 s over given h.2)
  followed_settle (Adds entry k) r s over given h =
      (h.0, subst (λ (m : List ℕ). Settles (k h.0) m over (rooms.memory s) given) h.2.1 (followed_settle (k h.0) h.1 s over given h.3))

  leaves : (plan : Plan) (regions : List Region) (Holds : List ℕ → List ℕ → Type 0)
      → ((before after given : List ℕ) (over : List Answer) → Settles plan before over after given → Apart regions over → Holds after given) → Leaves rooms plan regions Holds
  leaves plan regions Holds law r s over given h apart = law (rooms.memory r) (rooms.memory s) given over (followed_settle plan r s over given h) apart

  pub stored_stand : StoredStand rooms
  stored_stand type v place ranged fit =
      leaves (stored type v place) (target type place ∷ []) (λ after given. IsStored after place type v)
      (λ before after given over settles apart. stored_values_stand type v place before after given over (fitted ranged type fit) settles apart)

  pub lists_stand : ListsStand rooms
  lists_stand type all place some ranged fit =
      leaves (all_stored type all place) (list_target type place all ∷ []) (λ after given. AreStored after place type all)
      (λ before after given over settles apart. stored_lists_stand type all place before after given over some (each_fits ranged type fit) settles apart)

  pub placed_stand : PlacedStand rooms
  placed_stand type v ranged fit =
      leaves (placed type v) [] (λ after given. IsPlaced type v after given)
      (λ before after given over settles apart. placed_values_stand type v before after given over (fitted ranged type fit) settles apart)

  pub lowered_stand : LoweredStand rooms
  lowered_stand type v ranged fit =
      leaves (flat_lowered type v) [] (λ after given. IsFlattened after type v given)
      (λ before after given over settles apart. lowered_words_stand type v before after given over (fitted ranged type fit) settles apart)

  pub lowered_are_typed : LoweredAreTyped rooms
  lowered_are_typed type v r s words ranged fit h =
      given (λ (ws : List ℕ). AreWords (flat type) ws) rooms (flat_lowered type v) r s words h (flat_gives type v (fitted ranged type fit))

  pub placed_are_typed : PlacedAreTyped rooms
  placed_are_typed type v r s words h = given (λ (ws : List ℕ). AreWords (I32 ∷ []) ws) rooms (placed type v) r s words h (placed_gives type v)
