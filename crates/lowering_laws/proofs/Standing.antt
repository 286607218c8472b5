-- What was stored stands at its place.
use Rattle.std.proofs.Common.{◌≡◌, ◌∙◌, ◌≤◌, ◌<◌, ◌+◌, ◌*◌, ℕ, List, [], ◌∷◌, map, length, get_or, refl, ap, sym, subst, arith, inl, inr}
use Rattle.syntax_trees.specs.declared.types.ValType.{ValType}
use Rattle.syntax_trees.specs.declared.value.Value.{Value}
use Rattle.laid_types.specs.Layout.{laid}
use Rattle.value_lower.specs.Plan.{Plan, Gives}
use Rattle.value_lower.specs.Lowering.{lowered, store, stored, all_stored, placed, flat_lowered, elements_from}
use Rattle.value_lift.specs.Standing.{Stands, AreElements}
use Rattle.value_lift.specs.Stored.{IsStored, AreStored, IsFlattened}
use Rattle.value_lift.proofs.Loaded.{loaded_values_stand, loaded_lists_stand, lifted_words_stand}
use Rattle.lowering_laws.specs.Settling.{Answer, Settles}
use Rattle.lowering_laws.specs.ApartPlaces.{Region, Within, In, Apart, region_of}
use Rattle.lowering_laws.specs.Values.{IsOf, AllAre}
use Rattle.lowering_laws.specs.ValueLaws.{StoredValuesStand, StoredListsStand, PlacedValuesStand, IsPlaced, StoresLeaveOthers, ListsLeaveOthers, PlacedLeaveOthers, WordsLeaveOthers, StoredValuesAreLoaded, StoredListsAreLoaded, LoweredWordsStand, LoweredWordsAreLifted, target, list_target}
use Rattle.lowering_laws.proofs.Going.{Went, was_tested, region}
use Rattle.lowering_laws.proofs.Asking.{was_asked}
use Rattle.lowering_laws.proofs.Sounding.{sound, elements_go}
use Rattle.lowering_laws.proofs.WordsSounding.{flattened}

-- A piece behind which the plan ends.
record Ended (words : List ℕ) (target : Region) (regions : List Region) (memory after given : List ℕ) (Post : List ℕ → Type 0) : Type 0 where
  pub words_are : given ≡ words
  pub grown : length memory ≤ length after
  pub post : Post after
  pub frame : (a : ℕ) → In regions a → (Within target a → ⊥) → get_or after a 0 ≡ get_or memory a 0

ended : (words : List ℕ) (target : Region) (regions : List Region) (memory after given : List ℕ) (Post : List ℕ → Type 0) → Went (Gives words) target regions memory after given Post
    → Ended words target regions memory after given Post
ended words target regions memory after given Post w =
    let same : after ≡ w.now = w.settles.1 in
    let grown : length after ≡ length w.now = ap (λ (m : List ℕ). length m) same in
    let byte : (a : ℕ) → get_or after a 0 ≡ get_or w.now a 0 = λ a. ap (λ (m : List ℕ). get_or m a 0) same in
    record {
      words_are = w.settles.2;
      grown = omega (arith, grown, w.grown);
      post = w.holds after (omega (arith, grown)) (λ a i. byte a) (λ a i. byte a);
      frame = λ a i j. byte a ∙ w.frame a i j;
    }

-- the region itself is among some
abbrev holds : List Region → Region → Type 0
holds regions r = (a : ℕ) → Within r a → In regions a

record WasStored (type : ValType) (v : Value) (place : ℕ) (regions : List Region) (memory after : List ℕ) : Type 0 where
  pub is : IsStored after place type v
  pub frame : (a : ℕ) → In regions a → (Within (target type place) a → ⊥) → get_or after a 0 ≡ get_or memory a 0

was_stored : (type : ValType) (v : Value) (place : ℕ) (r : List Region) (memory after words : List ℕ) (answers : List Answer) → IsOf type v
    → Settles (stored type v place) memory answers after words → holds r (target type place) → Apart r answers → WasStored type v place r memory after
was_stored type v place r memory after words answers is settles within apart =
    let t = was_tested place (laid type).align (laid type).size memory (store type v place (Gives [])) answers after words settles in
    let e =
    ended [] (target type place) r memory after words (λ m. Stands m place type v)
    (sound is place (Gives []) r memory answers after words t.inside within apart t.settles) in
    record { is = record { aligned = t.aligned; inside = omega (arith, t.inside, e.grown); stands = e.post }; frame = e.frame }

pub stored_values_stand : StoredValuesStand
stored_values_stand type v place memory after words answers is settles apart =
    (was_stored type v place (target type place ∷ []) memory after words answers is settles (λ a w. inl w) apart).is

pub stores_leave_others : StoresLeaveOthers
stores_leave_others type v place memory after words answers is settles other disjoint apart a (inl w) =
    (was_stored type v place (other ∷ target type place ∷ []) memory after words answers is settles (λ a w. inr (inl w)) apart).frame a (inl w) (λ i. disjoint a (inl i) w)
stores_leave_others type v place memory after words answers is settles other disjoint apart a (inr w) = absurd w

record WereStored (type : ValType) (all : List Value) (place : ℕ) (regions : List Region) (memory after : List ℕ) : Type 0 where
  pub are : AreStored after place type all
  pub frame : (a : ℕ) → In regions a → (Within (list_target type place all) a → ⊥) → get_or after a 0 ≡ get_or memory a 0

were_stored : (type : ValType) (v : Value) (all : List Value) (place : ℕ) (r : List Region) (memory after words : List ℕ) (answers : List Answer) → AllAre type (v ∷ all)
    → Settles (all_stored type (v ∷ all) place) memory answers after words → holds r (list_target type place (v ∷ all)) → Apart r answers → WereStored type (v ∷ all) place r memory after
were_stored type v all place r memory after words answers are settles within apart =
    let bytes : ℕ = length (v ∷ all) * (laid type).size in
    let k : Plan = elements_from type place (map lowered (v ∷ all)) (Gives []) in
    let t = was_tested place (laid type).align bytes memory k answers after words settles in
    let e =
    ended [] (list_target type place (v ∷ all)) r memory after words (λ m. AreElements m place type (v ∷ all))
    (elements_go are place (Gives []) r memory answers after words t.inside within apart t.settles) in
    record { are = record { aligned = t.aligned; inside = omega (arith, t.inside, e.grown); stand = e.post }; frame = e.frame }

pub stored_lists_stand : StoredListsStand
stored_lists_stand type [] place memory after words answers some are settles apart = absurd (omega arith)
stored_lists_stand type (v ∷ all) place memory after words answers some are settles apart =
    (were_stored type v all place (list_target type place (v ∷ all) ∷ []) memory after words answers are settles (λ a w. inl w) apart).are

pub lists_leave_others : ListsLeaveOthers
lists_leave_others type [] place memory after words answers are settles other disjoint apart a w = ap (λ (m : List ℕ). get_or m a 0) settles.1
lists_leave_others type (v ∷ all) place memory after words answers are settles other disjoint apart a (inl w) =
    (were_stored type v all place (other ∷ list_target type place (v ∷ all) ∷ []) memory after words answers are settles (λ a w. inr (inl w)) apart).frame a (inl w) (λ i. disjoint a (inl i) w)
lists_leave_others type (v ∷ all) place memory after words answers are settles other disjoint apart a (inr w) = absurd w

record WasPlaced (type : ValType) (v : Value) (regions : List Region) (memory after words : List ℕ) : Type 0 where
  pub is : IsPlaced type v after words
  pub frame : (a : ℕ) → In regions a → get_or after a 0 ≡ get_or memory a 0

was_placed : (type : ValType) (v : Value) (r : List Region) (memory after words : List ℕ) (answers : List Answer) → IsOf type v → Settles (placed type v) memory answers after words
    → Apart r answers → WasPlaced type v r memory after words
was_placed type v r memory after words answers is settles apart =
    let w = was_asked 1 (laid type).align (laid type).size memory (λ place. store type v place (Gives (place ∷ []))) answers after words settles in
    let p : ℕ = w.answer.place in
    let h : Apart r (w.answer ∷ w.rest) = subst (λ (es : List Answer). Apart r es) w.all apart in
    let size : w.answer.asked.size ≡ (laid type).size = ap (λ q. q.size) w.is.asked in
    let e =
    ended (p ∷ []) (target type p) (region_of w.answer ∷ r) w.answer.after after words (λ m. Stands m p type v)
    (sound is p (Gives (p ∷ [])) (region_of w.answer ∷ r) w.answer.after w.rest after words w.tested.inside
    (λ a i. inl (i.0, (let n : a < w.answer.place + w.answer.asked.size = omega (arith, i.1, size) in n))) h.2 w.tested.settles) in
    record {
      is = record { place = p; words_are = e.words_are; low = w.is.low; stored = record { aligned = w.tested.aligned; inside = omega (arith, w.tested.inside, e.grown); stands = e.post } };
      frame = λ a i.
          e.frame a (inr i) (λ j. h.0 a i (j.0, (let n : a < w.answer.place + w.answer.asked.size = omega (arith, j.1, size) in n)))
          ∙ h.1 a i
          ∙ ap (λ (m : List ℕ). get_or m a 0) w.is.before;
    }

pub placed_values_stand : PlacedValuesStand
placed_values_stand type v memory after words answers is settles apart = (was_placed type v [] memory after words answers is settles apart).is

pub placed_leave_others : PlacedLeaveOthers
placed_leave_others type v memory after words answers is settles other disjoint apart a w = (was_placed type v (other ∷ []) memory after words answers is settles apart).frame a w

pub stored_values_are_loaded : StoredValuesAreLoaded
stored_values_are_loaded what type v place memory after words answers is settles apart few =
    (loaded_values_stand what type after place v).1 (record { stored = stored_values_stand type v place memory after words answers is settles apart; few = few })

pub stored_lists_are_loaded : StoredListsAreLoaded
stored_lists_are_loaded type all place memory after words answers some are settles apart few =
    (loaded_lists_stand type after place (length all) all some).1
    (record { many = refl; stored = stored_lists_stand type all place memory after words answers some are settles apart; few = few })

record WereLowered (type : ValType) (v : Value) (regions : List Region) (memory after words : List ℕ) : Type 0 where
  pub are : IsFlattened after type v words
  pub frame : (a : ℕ) → In regions a → get_or after a 0 ≡ get_or memory a 0

were_lowered : (type : ValType) (v : Value) (r : List Region) (memory after words : List ℕ) (answers : List Answer) → IsOf type v → Settles (flat_lowered type v) memory answers after words
    → Apart r answers → WereLowered type v r memory after words
were_lowered type v r memory after words answers is settles apart =
    let w = flattened is [] (λ ws. Gives ws) r memory answers after words apart settles in
    let e = ended w.words (region 0 0) r memory after words (λ m. IsFlattened m type v w.words) w.went in
    record {
      are = subst (λ (ws : List ℕ). IsFlattened after type v ws) (sym e.words_are) e.post;
      frame = λ a i. e.frame a i (λ h. (let n : ⊥ = omega (arith, h.0, h.1) in n));
    }

pub lowered_words_stand : LoweredWordsStand
lowered_words_stand type v memory after words answers is settles apart = (were_lowered type v [] memory after words answers is settles apart).are

pub words_leave_others : WordsLeaveOthers
words_leave_others type v memory after words answers is settles other disjoint apart a w = (were_lowered type v (other ∷ []) memory after words answers is settles apart).frame a w

pub lowered_words_are_lifted : LoweredWordsAreLifted
lowered_words_are_lifted what type v memory after words answers is settles apart few =
    let f = lowered_words_stand type v memory after words answers is settles apart in
    (lifted_words_stand what type after words v f.typed).1 (record { flattened = f; few = few })
