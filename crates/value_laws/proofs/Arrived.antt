-- What is lowered beside a table arrives.
use Rattle.std.proofs.Common.{◌≡◌, ◌*◌, ◌<◌, ℕ, suc, List, [], ◌∷◌, map, length, Some, refl, ap, sym, subst, arith}
use Rattle.syntax_trees.specs.declared.types.ValType.{ValType}
use Rattle.syntax_trees.specs.declared.value.Value.{Value}
use Rattle.laid_types.specs.Layout.{laid}
use Rattle.handle_table.specs.Slots.{Slots, entry_at}
use Rattle.handle_table.specs.Sound.{IsSound}
use Rattle.value_lift.specs.Stored.{AreStored}
use Rattle.value_lower.specs.Following.{Rooms}
use Rattle.value_lower.specs.Plan.{New, Plan, Gives}
use Rattle.value_lower.specs.Storing.{tested, asked, elements_from}
use Rattle.value_lower.specs.Entering.{lowered, store, flat_words, all_stored}
use Rattle.value_lower.specs.Fitting.{AllFit}
use Rattle.value_lower.specs.Lowering.{plainly}
use Rattle.value_lower.specs.Tables.{entered}
use Rattle.lowering_laws.specs.Settling.{Answer, Settles}
use Rattle.lowering_laws.specs.ApartPlaces.{Apart}
use Rattle.lowering_laws.specs.Values.{AllInRange, none_in, more_in, AllAre, none_are, more_are}
use Rattle.lowering_laws.specs.ValueLaws.{list_target}
use Rattle.lowering_laws.specs.ValueRooms.{FollowsOver}
use Rattle.lowering_laws.proofs.Fitted.{fitted}
use Rattle.lowering_laws.proofs.Standing.{stored_values_stand, stored_lists_stand, placed_values_stand, lowered_words_stand}
use Rattle.value_laws.specs.Arriving.{HasTable, AllArrive, StoredArrive, ListsArrive, PlacedArrive, LoweredArrive}
use Rattle.value_laws.proofs.Slots.{slots_sound}
use Rattle.value_laws.proofs.Going.{Goes, goes_giving, goes_tested, goes_asked}
use Rattle.value_laws.proofs.Stores.{AsMany, Arrived, Then, AllArrived, stored_goes, all_go}
use Rattle.value_laws.proofs.Flats.{flat_goes}

-- values in their ranges that fit are of the type
each_fits : {all : List Value} → AllInRange all → (type : ValType) → AllFit all type → AllAre type all
each_fits none_in type fit = none_are type
each_fits (more_in v all is are) type fit = more_are type v all (fitted is type (fit 0 v refl)) (each_fits are type (λ n w h. fit (suc n) w h))

module _ {R T E : Type 0} (rooms : Rooms R T) (slots : R → Slots E) where
  -- A piece behind which nothing is left: what was found holds of the slots then, and the plain piece goes so over the memory.
  record Ended {A X : Type 0} (Q : X → (A → Plan) → Plan) (Post : X → Slots E → Type 0) (words : A → List ℕ) (r : R) (over : List Answer) (given : List ℕ) (s : R) : Type 0 where
    pub found : X
    pub holds : Post found (slots s)
    pub settles : Settles (Q found (λ a. Gives (words a))) (rooms.memory r) over (rooms.memory s) given

  ended : {A X : Type 0} (P : (A → Plan) → Plan) (Q : X → (A → Plan) → Plan) (Post : X → Slots E → Type 0) (words : A → List ℕ) (r s : R) (over : List Answer) (given : List ℕ)
      → Goes rooms slots P Q Post → IsSound (slots r) → FollowsOver rooms (P (λ a. Gives (words a))) r over given s → Ended Q Post words r over given s
  ended P Q Post words r s over given go sound h =
      let w = go (λ a. Gives (words a)) r s over given sound h in
      let same : slots s ≡ slots w.now = ap slots w.goes.2 in
      record {
        found = w.found;
        holds = w.holds (slots s) (λ i e there. subst (λ (t : Slots E). entry_at t i ≡ Some e) (sym same) there);
        settles = w.settles (λ a. Gives (words a)) (rooms.memory s) given (w.goes.0, ap rooms.memory w.goes.2, w.goes.1);
      }

  module _ (is : New → E → Type 0) (table : HasTable rooms slots is) (home : List ℕ) where
    pub stored_arrive : StoredArrive rooms slots is home
    stored_arrive type u place ranged fit h r s over given stands follows apart =
        let of = fitted ranged type fit in
        let e : Ended (λ (v : Value) (J : Then). tested place (laid type).align (laid type).size (store plainly type v place (J tt))) (Arrived is home type u) (λ (a : Unit {0}). []) r over given s =
        ended (λ (J : Then). tested place (laid type).align (laid type).size (store (entered home) type u place (J tt)))
        (λ (v : Value) (J : Then). tested place (laid type).align (laid type).size (store plainly type v place (J tt))) (Arrived is home type u) (λ (a : Unit {0}). []) r s over given
        (goes_tested rooms slots place (laid type).align (laid type).size (λ (J : Then). store (entered home) type u place (J tt)) (λ (v : Value) (J : Then). store plainly type v place (J tt))
        (Arrived is home type u) (stored_goes rooms slots is table home of place))
        (slots_sound h (slots r) stands) follows in
        record {
          value = e.found;
          stands = stored_values_stand type e.found place (rooms.memory r) (rooms.memory s) given over e.holds.0 e.settles apart;
          carries = e.holds.1;
        }

    pub placed_arrive : PlacedArrive rooms slots is home
    placed_arrive type u ranged fit h r s over given stands follows apart =
        let of = fitted ranged type fit in
        let e : Ended (λ (v : Value) (J : ℕ → Plan). asked 1 (laid type).align (laid type).size (λ at. store plainly type v at (J at))) (Arrived is home type u) (λ (at : ℕ). at ∷ []) r over given s =
        ended (λ (J : ℕ → Plan). asked 1 (laid type).align (laid type).size (λ at. store (entered home) type u at (J at)))
        (λ (v : Value) (J : ℕ → Plan). asked 1 (laid type).align (laid type).size (λ at. store plainly type v at (J at))) (Arrived is home type u) (λ (at : ℕ). at ∷ []) r s over given
        (goes_asked rooms slots is table 1 (laid type).align (laid type).size (λ at (J : ℕ → Plan). store (entered home) type u at (J at))
        (λ at (v : Value) (J : ℕ → Plan). store plainly type v at (J at)) (Arrived is home type u)
        (λ at.
        goes_giving rooms slots (λ (J : Then). store (entered home) type u at (J tt)) (λ (v : Value) (J : Then). store plainly type v at (J tt)) (Arrived is home type u) (λ (a : Unit {0}). at)
        (stored_goes rooms slots is table home of at)))
        (slots_sound h (slots r) stands) follows in
        record {
          value = e.found;
          stands = placed_values_stand type e.found (rooms.memory r) (rooms.memory s) given over e.holds.0 e.settles apart;
          carries = e.holds.1;
        }

    pub lowered_arrive : LoweredArrive rooms slots is home
    lowered_arrive type u ranged fit h r s over given stands follows apart =
        let of = fitted ranged type fit in
        let e : Ended (λ (v : Value) (J : List ℕ → Plan). flat_words plainly type v [] J) (Arrived is home type u) (λ (words : List ℕ). words) r over given s =
        ended (λ (J : List ℕ → Plan). flat_words (entered home) type u [] J) (λ (v : Value) (J : List ℕ → Plan). flat_words plainly type v [] J) (Arrived is home type u)
        (λ (words : List ℕ). words) r s over given (flat_goes rooms slots is table home of []) (slots_sound h (slots r) stands) follows in
        record {
          value = e.found;
          stands = lowered_words_stand type e.found (rooms.memory r) (rooms.memory s) given over e.holds.0 e.settles apart;
          carries = e.holds.1;
        }

    -- Values one after the other, of which there is one at least.
    more_stored : (type : ValType) (values : List Value) (place n : ℕ) (memory after words : List ℕ) (over : List Answer) → length values ≡ n → 0 < n
        → Settles (tested place (laid type).align (n * (laid type).size) (elements_from type place (map (lowered plainly) values) (Gives []))) memory over after words
        → Settles (all_stored plainly type values place) memory over after words
    more_stored type [] place n memory after words over many some h = absurd (omega (arith, many, some))
    more_stored type (v ∷ values) place n memory after words over many some h =
        subst (λ (k : ℕ). Settles (tested place (laid type).align (k * (laid type).size) (elements_from type place (map (lowered plainly) (v ∷ values)) (Gives []))) memory over after words) (sym many) h

    all_arrive : (type : ValType) (u : Value) (all : List Value) (place : ℕ) → AllAre type (u ∷ all) → (r s : R) (over : List Answer) (given : List ℕ) → IsSound (slots r)
        → FollowsOver rooms (all_stored (entered home) type (u ∷ all) place) r over given s → Apart (list_target type place (u ∷ all) ∷ []) over
        → AllArrive is home type (u ∷ all) (λ values. AreStored (rooms.memory s) place type values) (slots s)
    all_arrive type u all place are r s over given sound follows apart =
        let n : ℕ = length (u ∷ all) in
        let e : Ended (λ (x : AsMany (u ∷ all)) (J : Then). tested place (laid type).align (n * (laid type).size) (elements_from type place (map (lowered plainly) x.values) (J tt)))
        (AllArrived is home type (u ∷ all)) (λ (a : Unit {0}). []) r over given s =
        ended (λ (J : Then). tested place (laid type).align (n * (laid type).size) (elements_from type place (map (lowered (entered home)) (u ∷ all)) (J tt)))
        (λ (x : AsMany (u ∷ all)) (J : Then). tested place (laid type).align (n * (laid type).size) (elements_from type place (map (lowered plainly) x.values) (J tt)))
        (AllArrived is home type (u ∷ all)) (λ (a : Unit {0}). []) r s over given
        (goes_tested rooms slots place (laid type).align (n * (laid type).size) (λ (J : Then). elements_from type place (map (lowered (entered home)) (u ∷ all)) (J tt))
        (λ (x : AsMany (u ∷ all)) (J : Then). elements_from type place (map (lowered plainly) x.values) (J tt)) (AllArrived is home type (u ∷ all))
        (all_go rooms slots is table home are place)) sound follows in
        let x : AsMany (u ∷ all) = e.found in
        let many : length x.values ≡ n = x.many in
        let some : 0 < n = omega arith in
        let few : 0 < length x.values = omega (arith, many) in
        record {
          values = x.values;
          stand =
              stored_lists_stand type x.values place (rooms.memory r) (rooms.memory s) given over few e.holds.0
              (more_stored type x.values place n (rooms.memory r) (rooms.memory s) given over many some e.settles)
              (subst (λ (k : ℕ). Apart (record { place = place; size = k * (laid type).size } ∷ []) over) (sym many) apart);
          carry = e.holds.1;
        }

    pub these_arrive : (type : ValType) (all : List Value) (place : ℕ) → AllAre type all → 0 < length all → (r s : R) (over : List Answer) (given : List ℕ) → IsSound (slots r)
        → FollowsOver rooms (all_stored (entered home) type all place) r over given s → Apart (list_target type place all ∷ []) over
        → AllArrive is home type all (λ values. AreStored (rooms.memory s) place type values) (slots s)
    these_arrive type [] place are some r s over given sound follows apart = absurd (omega (arith, some))
    these_arrive type (u ∷ all) place are some r s over given sound follows apart = all_arrive type u all place are r s over given sound follows apart

    pub lists_arrive : ListsArrive rooms slots is home
    lists_arrive type all place some ranged fit h r s over given stands follows apart =
        these_arrive type all place (each_fits ranged type fit) some r s over given (slots_sound h (slots r) stands) follows apart
