-- What is followed with the setting kept beside is followed in the room of the setting, which stays.
use Rattle.std.proofs.Common.{◌≡◌, ◌≤◌, ℕ, List, length, refl, sym, ap, ◌∙◌, subst, inl, inr, Some, None, Result, Ok, Err}
use Rattle.std.specs.Prelude.{IfOk}
use Rattle.faults.specs.declared.memory.Memory.{Memory as Want}
use Rattle.handle_table.specs.Slots.{Slots}
use Rattle.res_handles.specs.declared.entry.EntryView.{EntryView}
use Rattle.res_handles.specs.declared.refusal.LowerError.{LowerError as HandleError}
use Rattle.res_handles.specs.declared.refusal.LowerError.TheVariants as handle_error
use Rattle.value_lower.specs.declared.ends.LowerWhy.TheVariants.{TableFull}
use Rattle.value_lower.specs.declared.ends.LowerError.{LowerError}
use Rattle.value_lower.specs.declared.ends.LowerError.TheVariants as error
use Rattle.value_lower.specs.declared.ends.RoomEnd.TheVariants.{Trapped, NoFuel, Memory}
use Rattle.value_lower.specs.Plan.{New, Plan, Gives, Fails, Asks, Size, Put, Adds}
use Rattle.value_lower.specs.Following.{Came, Words, Failed, Ended, Follows, Leads, Comes, written}
use Rattle.value_lower.specs.Tables as tables
use Rattle.value_lower.specs.Tables.{entered}
use Rattle.copy_engine.specs.declared.hosted.HostedRoom.{HostedRoom}
use Rattle.copy_engine.specs.declared.hosted.HostedTrap.{HostedTrap}
use Rattle.copy_engine.specs.declared.lower_values.Lowered.{Lowered}
use Rattle.copy_engine.specs.Nested.{bytes_in}
use Rattle.copy_engine.specs.Answering.{Setting}
use Rattle.copy_engine.specs.Hosted.{Placed, hosted_rooms, Set, set_at, set_rooms, PlanComesTo, IsLowered}

module _ {E : Type 0} (seen : E → EntryView) (is : New → E → Type 0) where
  -- a plan goes on with the index that an entry gets
  pub entry_goes : (home : List ℕ) (entry : New) (k : ℕ → Plan) (to : Setting) (r : HostedRoom) (s t : Slots E) (index : ℕ) → tables.IsLowered is home entry s (Ok index) t
      → Leads (set_rooms seen is) (entered home entry k) (set_at to r s) (k index) (set_at to r t)
  entry_goes home entry k to r s t index (inl h) = λ came after f.
      subst (λ (p : Plan). Follows (set_rooms seen is) p (set_at to r s) came after) (sym (h.0 k)) (subst (λ (u : Slots E). Follows (set_rooms seen is) (k index) (set_at to r u) came after) h.1 f)
  entry_goes home entry k to r s t index (inr h) = λ came after f.
      subst (λ (p : Plan). Follows (set_rooms seen is) p (set_at to r s) came after) (sym (h.0 k)) (Some index, set_at to r t, ((h.1, refl, refl), refl), f)

  -- where the table is full it fails
  pub entry_fails : (home : List ℕ) (entry : New) (k : ℕ → Plan) (to : Setting) (r : HostedRoom) (s t : Slots E) (e : HandleError) → e ≡ handle_error.TableFull → tables.IsLowered is home entry s (Err e) t
      → Follows (set_rooms seen is) (entered home entry k) (set_at to r s) (Failed TableFull) (set_at to r t)
  entry_fails home entry k to r s t e none h =
      let f : tables.IsLowered is home entry s (Err handle_error.TableFull) t = subst (λ (x : HandleError). tables.IsLowered is home entry s (Err x) t) none h in
      subst (λ (p : Plan). Follows (set_rooms seen is) p (set_at to r s) (Failed TableFull) (set_at to r t)) (sym (f.0 k)) (None, set_at to r t, ((f.1, refl, refl), refl), (refl, refl))

  abbrev In : Setting → Plan → Placed E → Came HostedTrap → Placed E → Type 0
  In to plan p came q = Follows (hosted_rooms seen is to) plan p came q

  abbrev bytes_with : Setting → Set E → List ℕ
  bytes_with to p = bytes_in to.options.memory p.at.room.store

  follows_set : (plan : Plan) (p q : Set E) (came : Came HostedTrap) → Follows (set_rooms seen is) plan p came q → In p.to plan p.at came q.at × (q.to ≡ p.to)
  follows_set (Gives words) p q came f = ((f.0, ap (λ (x : Set E). x.at) f.1), ap (λ (x : Set E). x.to) f.1)
  follows_set (Fails why) p q came f = ((f.0, ap (λ (x : Set E). x.at) f.1), ap (λ (x : Set E). x.to) f.1)
  follows_set (Asks ask k) p q came (inl f) =
      let mid : Set E = f.1 in
      let rest : In mid.to (k f.0) mid.at came q.at × (q.to ≡ mid.to) = follows_set (k f.0) mid q came f.3 in
      let same : mid.to ≡ p.to = f.2.0.3 in (
        inl (
          f.0,
          mid.at,
          ((f.2.0.0, f.2.0.1, f.2.0.2), f.2.1, subst (λ (to : Setting). length (bytes_with p.to p) ≤ length (bytes_with to mid)) same f.2.2),
          subst (λ (to : Setting). In to (k f.0) mid.at came q.at) same rest.0,
        ),
        rest.1 ∙ same,
      )
  follows_set (Asks ask k) p q came (inr f) = (inr (f.0, (f.1.0, f.1.1, f.1.2), f.2), f.1.3)
  follows_set (Size k) p q came f = follows_set (k (length (bytes_with p.to p))) p q came f
  follows_set (Put place bytes k) p q came f =
      let mid : Set E = f.0 in
      let rest : In mid.to k mid.at came q.at × (q.to ≡ mid.to) = follows_set k mid q came f.2 in
      let same : mid.to ≡ p.to = f.1.0.3 in (
        (
          mid.at,
          ((f.1.0.0, f.1.0.1, f.1.0.2), subst (λ (to : Setting). bytes_with to mid ≡ written place bytes (bytes_with p.to p)) same f.1.1),
          subst (λ (to : Setting). In to k mid.at came q.at) same rest.0,
        ),
        rest.1 ∙ same,
      )
  follows_set (Adds entry k) p q came f =
      let mid : Set E = f.1 in
      let rest : In mid.to (k f.0) mid.at came q.at × (q.to ≡ mid.to) = follows_set (k f.0) mid q came f.3 in
      let same : mid.to ≡ p.to = f.2.0.2 in (
        (
          f.0,
          mid.at,
          ((f.2.0.0, f.2.0.1), subst (λ (to : Setting). bytes_with to mid ≡ bytes_with p.to p) same f.2.1),
          subst (λ (to : Setting). In to (k f.0) mid.at came q.at) same rest.0,
        ),
        rest.1 ∙ same,
      )

  comes_to : (plan : Plan) (p q : Set E) (words : Result (List ℕ) (LowerError HostedTrap)) (result : Result Lowered Want)
      → Comes (set_rooms seen is) plan (λ (ws : List ℕ). ws) p words q → IsLowered words result → IfOk result (λ came. PlanComesTo seen is p.to plan p.at came q.at)
  comes_to plan p q (Ok words) result h e =
      subst (λ (r : Result Lowered Want). IfOk r (λ came. PlanComesTo seen is p.to plan p.at came q.at)) (sym e) (follows_set plan p q (Words words) h).0
  comes_to plan p q (Err (error.Failed why)) result h e =
      subst (λ (r : Result Lowered Want). IfOk r (λ came. PlanComesTo seen is p.to plan p.at came q.at)) (sym e) (follows_set plan p q (Failed why) h).0
  comes_to plan p q (Err (error.Ended (Trapped why))) result h e =
      subst (λ (r : Result Lowered Want). IfOk r (λ came. PlanComesTo seen is p.to plan p.at came q.at)) (sym e) (follows_set plan p q (Ended (Trapped why)) h).0
  comes_to plan p q (Err (error.Ended NoFuel)) result h e =
      subst (λ (r : Result Lowered Want). IfOk r (λ came. PlanComesTo seen is p.to plan p.at came q.at)) (sym e) (follows_set plan p q (Ended NoFuel) h).0
  comes_to plan p q (Err (error.Ended Memory)) (Ok came) h e = absurd e
  comes_to plan p q (Err (error.Ended Memory)) (Err want) h e = tt

  -- What a call comes to whose room is taken out of what it works on, and put back.
  pub lowers_to : (plan : Plan) (to later : Setting) (r s old new : HostedRoom) (first before after : Slots E) (words : Result (List ℕ) (LowerError HostedTrap)) (result : Result Lowered Want)
      → r ≡ old → s ≡ new → first ≡ before → Comes (set_rooms seen is) plan (λ (ws : List ℕ). ws) (set_at to r first) words (set_at later s after) → IsLowered words result
      → IfOk result (λ came. PlanComesTo seen is to plan (record { room = old; slots = before }) came (record { room = new; slots = after }))
  lowers_to plan to later r s old new first before after words result a b same h e =
      comes_to plan (set_at to old before) (set_at later new after) words result
      (subst (λ (x : HostedRoom). Comes (set_rooms seen is) plan (λ (ws : List ℕ). ws) (set_at to old before) words (set_at later x after)) b
      (subst (λ (x : HostedRoom). Comes (set_rooms seen is) plan (λ (ws : List ℕ). ws) (set_at to x before) words (set_at later s after)) a
      (subst (λ (x : Slots E). Comes (set_rooms seen is) plan (λ (ws : List ℕ). ws) (set_at to r x) words (set_at later s after)) same h))) e
