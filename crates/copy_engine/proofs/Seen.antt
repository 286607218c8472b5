-- What is followed in a room is followed over what the room works on, and the room keeps its references.
use Rattle.std.proofs.Common.{◌≡◌, ◌≤◌, ℕ, List, length, ap, ◌∙◌, subst, inl, inr, Result, Ok, Err}
use Rattle.value_lower.specs.Plan.{Plan, Gives, Fails, Asks, Size, Put, Adds}
use Rattle.value_lower.specs.declared.ends.RoomEnd.TheVariants.{Trapped, NoFuel, Memory}
use Rattle.value_lower.specs.declared.ends.LowerError.{LowerError}
use Rattle.value_lower.specs.declared.ends.LowerError.TheVariants as error
use Rattle.value_lower.specs.Following.{Rooms, untabled, Came, Words, Failed, Ended, Follows, Comes, written}
use Rattle.copy_engine.specs.declared.store_room.LowerOptions.{LowerOptions}
use Rattle.copy_engine.specs.declared.store_room.StoreRoom.{StoreRoom}
use Rattle.copy_engine.specs.declared.nested.NestedTrap.{NestedTrap}
use Rattle.copy_engine.specs.Nested.{RoomState, memory_with, rooms_with}
use Rattle.copy_engine.specs.Rooms.{Same, IfTold, state_of, memory_of, answers_of, wrote_of}

abbrev pub seen_rooms : Rooms StoreRoom NestedTrap
seen_rooms = untabled memory_of answers_of wrote_of

same_self : (r s : StoreRoom) → s ≡ r → Same r s
same_self r s e = record {
  store = ap (λ (x : StoreRoom). x.store.ghost_name) e;
  fuel = ap (λ (x : StoreRoom). x.fuel.ghost_name) e;
  call = ap (λ (x : StoreRoom). x.call.ghost_name) e;
  options = ap (λ (x : StoreRoom). x.options) e;
}

same_join : (r s t : StoreRoom) → Same r s → Same s t → Same r t
same_join r s t a b = record { store = b.store ∙ a.store; fuel = b.fuel ∙ a.fuel; call = b.call ∙ a.call; options = b.options ∙ a.options }

pub follows_same : (plan : Plan) (r s : StoreRoom) (came : Came NestedTrap) → Follows seen_rooms plan r came s → Same r s
follows_same (Gives words) r s came f = same_self r s f.1
follows_same (Fails why) r s came f = same_self r s f.1
follows_same (Asks ask k) r s came (inl f) = same_join r f.1 s f.2.0.1 (follows_same (k f.0) f.1 s came f.3)
follows_same (Asks ask k) r s came (inr f) = f.1.1
follows_same (Size k) r s came f = follows_same (k (length (memory_of r))) r s came f
follows_same (Put place bytes k) r s came f = same_join r f.0 s f.1.0.1 (follows_same k f.0 s came f.2)
follows_same (Adds entry k) r s came f = subst (λ (m : StoreRoom). Same m s) f.2.0.1 (follows_same (k f.0) f.1 s came f.3)

abbrev With : LowerOptions → Plan → RoomState → Came NestedTrap → RoomState → Type 0
With options plan r came s = Follows (rooms_with options) plan r came s

pub follows_seen : (plan : Plan) (r s : StoreRoom) (came : Came NestedTrap) → Follows seen_rooms plan r came s
    → Follows (rooms_with r.options) plan (state_of r) came (state_of s)
follows_seen (Gives words) r s came f = (f.0, ap state_of f.1)
follows_seen (Fails why) r s came f = (f.0, ap state_of f.1)
follows_seen (Asks ask k) r s came (inl f) =
    let mid : StoreRoom = f.1 in
    let same : mid.options ≡ r.options = f.2.0.1.options in
    inl (
      f.0,
      state_of mid,
      (f.2.0.0, f.2.1, subst (λ (o : LowerOptions). length (memory_of r) ≤ length (memory_with o (state_of mid))) same f.2.2),
      subst (λ (o : LowerOptions). With o (k f.0) (state_of mid) came (state_of s)) same (follows_seen (k f.0) mid s came f.3),
    )
follows_seen (Asks ask k) r s came (inr f) = inr (f.0, f.1.0, f.2)
follows_seen (Size k) r s came f = follows_seen (k (length (memory_of r))) r s came f
follows_seen (Put place bytes k) r s came f =
    let mid : StoreRoom = f.0 in
    let same : mid.options ≡ r.options = f.1.0.1.options in (
      state_of mid,
      (f.1.0.0, subst (λ (o : LowerOptions). memory_with o (state_of mid) ≡ written place bytes (memory_of r)) same f.1.1),
      subst (λ (o : LowerOptions). With o k (state_of mid) came (state_of s)) same (follows_seen k mid s came f.2),
    )
follows_seen (Adds entry k) r s came f =
    let mid : StoreRoom = f.1 in
    let same : mid ≡ r = f.2.0.1 in
    let options : mid.options ≡ r.options = ap (λ (x : StoreRoom). x.options) same in (
      f.0,
      state_of mid,
      ((f.2.0.0, ap state_of same), ap (λ (x : StoreRoom). memory_with r.options (state_of x)) same),
      subst (λ (o : LowerOptions). With o (k f.0) (state_of mid) came (state_of s)) options (follows_seen (k f.0) mid s came f.3),
    )

-- The same of what a call comes to.
pub comes_seen : {A : Type 0} (plan : Plan) (words : A → List ℕ) (r s : StoreRoom) (result : Result A (LowerError NestedTrap))
    → Comes seen_rooms plan words r result s
    → Comes (rooms_with r.options) plan words (state_of r) result (state_of s)
comes_seen plan words r s (Ok x) h = follows_seen plan r s (Words (words x)) h
comes_seen plan words r s (Err (error.Failed why)) h = follows_seen plan r s (Failed why) h
comes_seen plan words r s (Err (error.Ended (Trapped why))) h = follows_seen plan r s (Ended (Trapped why)) h
comes_seen plan words r s (Err (error.Ended NoFuel)) h = follows_seen plan r s (Ended NoFuel) h
comes_seen plan words r s (Err (error.Ended Memory)) h = tt

pub comes_same : {A : Type 0} (plan : Plan) (words : A → List ℕ) (r s : StoreRoom) (result : Result A (LowerError NestedTrap))
    → Comes seen_rooms plan words r result s → IfTold result (Same r s)
comes_same plan words r s (Ok x) h = follows_same plan r s (Words (words x)) h
comes_same plan words r s (Err (error.Failed why)) h = follows_same plan r s (Failed why) h
comes_same plan words r s (Err (error.Ended (Trapped why))) h = follows_same plan r s (Ended (Trapped why)) h
comes_same plan words r s (Err (error.Ended NoFuel)) h = follows_same plan r s (Ended NoFuel) h
comes_same plan words r s (Err (error.Ended Memory)) h = tt
