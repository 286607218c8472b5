-- Plans that are followed step by step.
use Rattle.std.proofs.Common.{◌≡◌, ◌+◌, ◌%◌, ◌==◌, ◌≤◌, cond, nat_le, length, ℕ, List, Result, Ok, Err, subst, sym, refl}
use Rattle.std.proofs.lemmas.Bool.{cond-true, le-leb, eq-eqb}
use Rattle.value_lower.specs.declared.ends.LowerWhy.TheVariants.{Bounds}
use Rattle.value_lower.specs.declared.ends.RoomEnd.TheVariants.{Trapped, NoFuel, Memory}
use Rattle.value_lower.specs.declared.ends.LowerError.{LowerError}
use Rattle.value_lower.specs.declared.ends.LowerError.TheVariants as error
use Rattle.value_lower.specs.Plan.{Plan, Gives, Fails, Size}
use Rattle.value_lower.specs.Lowering.{tested}
use Rattle.value_lower.specs.Following.{Rooms, Words, Failed, Ended, Follows, Leads, Runs, Comes}

module _ {R T : Type 0} (rooms : Rooms R T) where
  abbrev Goes : Plan → R → Plan → R → Type 0
  Goes whole r part m = Leads rooms whole r part m

  -- an equal plan
  pub same : (whole part : Plan) (r : R) → whole ≡ part → Goes whole r part r
  same whole part r e = λ came after f. subst (λ (p : Plan). Follows rooms p r came after) (sym e) f

  -- first to one plan, then to another
  pub further : (whole part rest : Plan) (r m s : R) → Goes whole r part m → Goes part m rest s → Goes whole r rest s
  further whole part rest r m s h i = λ came after f. h came after (i came after f)

  -- a call that goes on
  pub goes : {A : Type 0} (whole part : Plan) (left : A → Plan) (r m s : R) (result : Result A (LowerError T))
      → Goes whole r part m → Runs rooms part left m result s → Runs rooms whole left r result s
  goes whole part left r m s (Ok x) h i = λ came after f. h came after (i came after f)
  goes whole part left r m s (Err (error.Failed why)) h i = h (Failed why) s i
  goes whole part left r m s (Err (error.Ended (Trapped why))) h i = h (Ended (Trapped why)) s i
  goes whole part left r m s (Err (error.Ended NoFuel)) h i = h (Ended NoFuel) s i
  goes whole part left r m s (Err (error.Ended Memory)) h i = tt

  -- a call that ends
  pub stops : {A B : Type 0} (whole part : Plan) (left : A → Plan) (other : B → Plan) (r m s : R) (e : LowerError T)
      → Goes whole r part m → Runs rooms part left m (Err e) s → Runs rooms whole other r (Err e) s
  stops whole part left other r m s (error.Failed why) h i = h (Failed why) s i
  stops whole part left other r m s (error.Ended (Trapped why)) h i = h (Ended (Trapped why)) s i
  stops whole part left other r m s (error.Ended NoFuel) h i = h (Ended NoFuel) s i
  stops whole part left other r m s (error.Ended Memory) h i = tt

  -- a call that follows a plan to its end
  pub comes : {A : Type 0} (whole : Plan) (left : A → Plan) (words : A → List ℕ) (r s : R) (result : Result A (LowerError T))
      → ((x : A) → left x ≡ Gives (words x)) → Runs rooms whole left r result s → Comes rooms whole words r result s
  comes whole left words r s (Ok x) e h =
      h (Words (words x)) s (subst (λ (p : Plan). Follows rooms p s (Words (words x)) s) (sym (e x)) (refl, refl))
  comes whole left words r s (Err (error.Failed why)) e h = h
  comes whole left words r s (Err (error.Ended (Trapped why))) e h = h
  comes whole left words r s (Err (error.Ended NoFuel)) e h = h
  comes whole left words r s (Err (error.Ended Memory)) e h = tt

  -- a place that passes its tests
  pub tested_goes : (place align size : ℕ) (k : Plan) (r : R) → place % align ≡ 0 → place + size ≤ length (rooms.memory r) → Goes (tested place align size k) r k r
  tested_goes place align size k r h b = λ came after f.
      same (tested place align size k) (Size (λ there. cond (nat_le (place + size) there) k (Fails Bounds))) r (cond-true (place % align == 0) _ _ (eq-eqb (place % align) 0 h)) came after
      (same (cond (nat_le (place + size) (length (rooms.memory r))) k (Fails Bounds)) k r (cond-true (nat_le (place + size) (length (rooms.memory r))) _ _ (le-leb (place + size) (length (rooms.memory r)) b)) came after f)
