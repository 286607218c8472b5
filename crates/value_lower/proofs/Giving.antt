-- What holds of all core values that a plan may give.
use Rattle.std.proofs.Common.{◌≡◌, ◌<◌, ◌+◌, ◌%◌, ◌^◌, ◌==◌, ◌&&◌, cond, nat_lt, nat_le, ℕ, Bool, true, false, List, length, Option, Some, None, Result, Ok, Err, refl, sym, subst, inl, inr}
use Rattle.std.specs.Prelude.{IfOk}
use Rattle.std.proofs.lemmas.Bool.{cond_both, ltb-true}
use Rattle.value_lower.specs.declared.ends.LowerWhy.TheVariants.{Misaligned, Bounds}
use Rattle.res_handles.specs.Calls.{is_defined}
use Rattle.value_lower.specs.declared.ends.LowerError.{LowerError}
use Rattle.value_lower.specs.Plan.{New, NewOwn, NewBorrow, NewEnd, Plan, Gives, Fails, Asks, Size, Put, Adds}
use Rattle.value_lower.specs.Following.{Rooms, Came, Words, Failed, Ended, Follows, Comes}
use Rattle.value_lower.specs.Tables.{with_index, entered}
use Rattle.value_lower.specs.Lowering.{tested, asked, text_in}

left_true : (a b : Bool) → (a && b) ≡ true → a ≡ true
left_true true b h = refl
left_true false b h = cc

-- where a count and a size are both below 2^32
first_low : (count size : ℕ) → (nat_lt count (2 ^ 32) && nat_lt size (2 ^ 32)) ≡ true → count < 2 ^ 32
first_low count size h = ltb-true count (2 ^ 32) (left_true (nat_lt count (2 ^ 32)) (nat_lt size (2 ^ 32)) h)

module _ (Q : List ℕ → Type 0) where
  abbrev pub AllGive : Plan → Type 0
  AllGive (Gives words) = Q words
  AllGive (Fails why) = Unit {0}
  AllGive (Asks ask k) = (place : ℕ) → place < 2 ^ 32 → AllGive (k place)
  AllGive (Size k) = (there : ℕ) → AllGive (k there)
  AllGive (Put place bytes k) = AllGive k
  AllGive (Adds entry k) = (given : Option ℕ) → AllGive (k given)

  pub tested_gives : (place align size : ℕ) (k : Plan) → AllGive k → AllGive (tested place align size k)
  tested_gives place align size k h =
      cond_both (place % align == 0) (Size (λ there. cond (nat_le (place + size) there) k (Fails Bounds))) (Fails Misaligned) AllGive
      (λ e. λ there. cond_both (nat_le (place + size) there) k (Fails Bounds) AllGive (λ f. h) (λ f. tt)) (λ e. tt)

  pub asked_gives : (count align size : ℕ) (k : ℕ → Plan) → ((place : ℕ) → place < 2 ^ 32 → count < 2 ^ 32 → AllGive (k place)) → AllGive (asked count align size k)
  asked_gives count align size k h =
      cond_both (nat_lt count (2 ^ 32) && nat_lt size (2 ^ 32)) (Asks (record { old = 0; old_size = 0; align = align; size = size }) (λ place. tested place align size (k place))) (Fails Bounds) AllGive
      (λ e. λ place low. tested_gives place align size (k place) (h place low (first_low count size e))) (λ e. tt)

  pub text_gives : (text : List ℕ) (k : ℕ → Plan) → ((place : ℕ) → place < 2 ^ 32 → length text < 2 ^ 32 → AllGive (k place)) → AllGive (text_in text k)
  text_gives text k h = asked_gives (length text) 1 (length text) (λ place. Put place text (k place)) h

  -- what is entered into a table gives what follows with any index
  index_gives : (k : ℕ → Plan) → ((index : ℕ) → AllGive (k index)) → (given : Option ℕ) → AllGive (with_index k given)
  index_gives k h (Some index) = h index
  index_gives k h None = tt

  pub entered_gives : (home : List ℕ) (entry : New) (k : ℕ → Plan) → ((index : ℕ) → AllGive (k index)) → AllGive (entered home entry k)
  entered_gives home (NewOwn resource rep) k h = index_gives k h
  entered_gives home (NewBorrow resource rep) k h =
      cond_both (is_defined resource home) (k rep) (Adds (NewBorrow resource rep) (with_index k)) AllGive (λ e. h rep) (λ e. index_gives k h)
  entered_gives home (NewEnd type number) k h = index_gives k h

  module _ {R T : Type 0} (rooms : Rooms R T) where
    abbrev came_words : List ℕ → Came T
    came_words words = Words words

    same_words : (words others : List ℕ) → came_words words ≡ came_words others → words ≡ others
    same_words words others h = cc

    pub given : (plan : Plan) (r s : R) (words : List ℕ) → Follows rooms plan r (Words words) s → AllGive plan → Q words
    given (Gives others) r s words h q = subst Q (sym (same_words words others h.0)) q
    given (Fails why) r s words h q =
        let e : came_words words ≡ Failed why = h.0 in
        cc
    given (Asks ask k) r s words (inl h) q = given (k h.0) h.1 s words h.3 (q h.0 h.2.1)
    given (Asks ask k) r s words (inr h) q =
        let e : came_words words ≡ Ended h.0 = h.2 in
        cc
    given (Size k) r s words h q = given (k (length (rooms.memory r))) r s words h (q (length (rooms.memory r)))
    given (Put place bytes k) r s words h q = given k h.0 s words h.2 q
    given (Adds entry k) r s words h q = given (k h.0) h.1 s words h.3 (q h.0)

    -- where the words of a call are those of its plan
    pub given_ok : (plan : Plan) (r s : R) (result : Result (List ℕ) (LowerError T)) → Comes rooms plan (λ words. words) r result s → AllGive plan → IfOk result Q
    given_ok plan r s (Ok words) h q = given plan r s words h q
    given_ok plan r s (Err e) h q = tt
