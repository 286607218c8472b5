-- Values that are lowered come to one thing, where no type stands twice among those by which ends are told.
use Rattle.std.proofs.Common.{◌≡◌, ◌∙◌, ℕ, List, length, refl, sym, ap, subst, arith, Option, Some, None, Result, Ok, Err, inl, inr}
use Rattle.syntax_trees.specs.declared.types.ValType.{ValType}
use Rattle.syntax_trees.specs.declared.value.Value.{Value}
use Rattle.syntax_trees.specs.Fits.{fits}
use Rattle.laid_types.specs.Known.{Numbered}
use Rattle.laid_types.specs.SameTypes.{AreDistinct}
use Rattle.handle_table.specs.Slots.{Slots, added}
use Rattle.res_handles.specs.Calls.{view_at}
use Rattle.value_lower.specs.declared.ends.RoomEnd.{RoomEnd}
use Rattle.value_lower.specs.declared.ends.RoomEnd.TheVariants.{Trapped, NoFuel, Memory}
use Rattle.value_lower.specs.Plan.{Ask, New, NewOwn, NewBorrow, NewEnd, Plan, Gives as Given, Fails, Asks, Size, Put, Adds}
use Rattle.value_lower.specs.Following.{Came, Words, Failed, Ended, Follows}
use Rattle.value_lower.specs.Tables.{IsEntry, gets}
use Rattle.comp_graph.specs.Graph.{Graph}
use Rattle.copy_engine.specs.declared.hosted.HostedRoom.{HostedRoom}
use Rattle.copy_engine.specs.declared.hosted.HostedTrap.{HostedTrap}
use Rattle.copy_engine.specs.declared.lower_values.Lowered.{Lowered}
use Rattle.copy_engine.specs.declared.lower_values.Lowered.TheVariants as lowered
use Rattle.copy_engine.specs.declared.lower_values.Target.{Target}
use Rattle.copy_engine.specs.Answering.{Setting}
use Rattle.copy_engine.specs.Copying.{all_fit}
use Rattle.copy_engine.specs.Nested.{bytes_in}
use Rattle.copy_engine.specs.Hosted.{Placed, answers_of, hosted_rooms, as_plan, plan_to, plan_all}
use Rattle.instances.specs.declared.entry.WorldEntry.{WorldEntry}
use Rattle.instances.specs.Entries.{seen_as, of_handle, of_end}
use Rattle.programs.specs.declared.program.Program.{Program}
use Rattle.world_parts.specs.Held.{Held, Done}
use Rattle.one_run_laws.proofs.Behind.{once_behind}
use Rattle.value_moves.specs.declared.lowering.Destination.{Destination}
use Rattle.value_moves.specs.Lowering.{Site, site_found, finished, setting_in, begun_at, left_at, LowersAt, LowersInto, LowersAll}
use Rattle.one_run_laws.proofs.Hosting.{ResultTold, answers_once}

placed_same : (p q : Placed WorldEntry) → p.room ≡ q.room → p.slots ≡ q.slots → p ≡ q
placed_same p q e f =
    ap (λ (x : HostedRoom). (let y : Placed WorldEntry = record { room = x; slots = p.slots } in y)) e
    ∙ ap (λ (x : Slots WorldEntry). (let y : Placed WorldEntry = record { room = q.room; slots = x } in y)) f

-- What is told of a plan: want of memory is not.
abbrev EndTold : RoomEnd HostedTrap → Type 0
EndTold (Trapped why) = Unit {0}
EndTold NoFuel = Unit {0}
EndTold Memory = ⊥

abbrev CameTold : Came HostedTrap → Type 0
CameTold (Words words) = Unit {0}
CameTold (Failed why) = Unit {0}
CameTold (Ended end) = EndTold end

result_told : (end : RoomEnd HostedTrap) → EndTold end → ResultTold (Err end)
result_told (Trapped why) told = tt
result_told NoFuel told = tt
result_told Memory told = absurd told

ended_told : (came : Came HostedTrap) (end : RoomEnd HostedTrap) → CameTold came → came ≡ Ended end → EndTold end
ended_told came end told is = subst CameTold is told

places_same : (a b : ℕ) → ◌≡◌ {A = Result ℕ (RoomEnd HostedTrap)} (Ok a) (Ok b) → b ≡ a
places_same a b e = cc e

ends_same : (a b : RoomEnd HostedTrap) → ◌≡◌ {A = Result ℕ (RoomEnd HostedTrap)} (Err a) (Err b) → a ≡ b
ends_same a b e = cc e

place_or_end : (a : ℕ) (b : RoomEnd HostedTrap) → ◌≡◌ {A = Result ℕ (RoomEnd HostedTrap)} (Ok a) (Err b) → ⊥
place_or_end a b e = cc e

-- Over these types, for a task:
module _ (task : ℕ) (types : List ValType) (distinct : AreDistinct types) (to : Setting) where
  -- An entry gets one index, or none.
  entry_once : (entry : New) (e f : WorldEntry) → IsEntry of_handle of_end task types entry e → IsEntry of_handle of_end task types entry f → e ≡ f
  entry_once (NewOwn resource rep) e f h i = h ∙ sym i
  entry_once (NewBorrow resource rep) e f h i = h ∙ sym i
  entry_once (NewEnd type number) e f h i =
      let same : h.0 ≡ i.0 = distinct h.0 i.0 type h.1 i.1 in
      h.2 ∙ ap (λ (at : ℕ). of_end at number) same ∙ sym i.2

  gets_once : (entry : New) (s t u : Slots WorldEntry) (o p : Option ℕ) → gets (IsEntry of_handle of_end task types) s entry o t → gets (IsEntry of_handle of_end task types) s entry p u
      → (o ≡ p) × (t ≡ u)
  gets_once entry s t u (Some a) (Some b) h i =
      let same : h.0 ≡ i.0 = entry_once entry h.0 i.0 h.1 i.1 in
      let index : a ≡ b = h.3 ∙ sym i.3 in
      (ap (λ (n : ℕ). Some n) index, h.4 ∙ ap (λ (e : WorldEntry). added e s) same ∙ sym i.4)
  gets_once entry s t u (Some a) None h i = absurd (omega (arith, h.2, i.0))
  gets_once entry s t u None (Some b) h i = absurd (omega (arith, i.2, h.0))
  gets_once entry s t u None None h i = (refl, h.1 ∙ sym i.1)

  abbrev Plans : Plan → Placed WorldEntry → Came HostedTrap → Placed WorldEntry → Type 0
  Plans plan p came q = Follows (hosted_rooms seen_as (IsEntry of_handle of_end task types) to) plan p came q

  -- A realloc gives one answer.
  asked_once : (ask : Ask) (p q q' : Placed WorldEntry) (r r' : Result ℕ (RoomEnd HostedTrap)) → ResultTold r → ResultTold r' → answers_of seen_as (IsEntry of_handle of_end task types) to p ask r q
      → answers_of seen_as (IsEntry of_handle of_end task types) to p ask r' q' → (r ≡ r') × (q ≡ q')
  asked_once ask p q q' r r' told also h i =
      let same = answers_once to (view_at seen_as p.slots) p.room ask r r' q.room q'.room told also h.0 i.0 in
      (same.0, placed_same q q' same.1 (h.2 ∙ sym i.2))

  -- A plan comes to one thing.
  abbrev One : Plan → Type 0
  One plan = (p : Placed WorldEntry) (one other : Came HostedTrap) (q q' : Placed WorldEntry) → CameTold one → CameTold other → Plans plan p one q → Plans plan p other q' → (one ≡ other) × (q ≡ q')

  asks_once : (ask : Ask) (k : ℕ → Plan) → ((place : ℕ) → One (k place)) → One (Asks ask k)
  asks_once ask k once p one other q q' told also (inl (place, mid, (answers, low, longer), rest)) (inl (place', mid', (answers', low', longer'), rest')) =
      let same = asked_once ask p mid mid' (Ok place) (Ok place') tt tt answers answers' in
      let places : place' ≡ place = places_same place place' same.0 in
      once place mid one other q q' told also rest
      (subst (λ (m : Placed WorldEntry). Plans (k place) m other q') (sym same.1) (subst (λ (n : ℕ). Plans (k n) mid' other q') places rest'))
  asks_once ask k once p one other q q' told also (inl (place, mid, (answers, low, longer), rest)) (inr (end, answers', is)) =
      let same = asked_once ask p mid q' (Ok place) (Err end) tt (result_told end (ended_told other end also is)) answers answers' in
      absurd (place_or_end place end same.0)
  asks_once ask k once p one other q q' told also (inr (end, answers, is)) (inl (place', mid', (answers', low', longer'), rest')) =
      let same = asked_once ask p q mid' (Err end) (Ok place') (result_told end (ended_told one end told is)) tt answers answers' in
      absurd (place_or_end place' end (sym same.0))
  asks_once ask k once p one other q q' told also (inr (end, answers, is)) (inr (end', answers', is')) =
      let same = asked_once ask p q q' (Err end) (Err end') (result_told end (ended_told one end told is)) (result_told end' (ended_told other end' also is')) answers answers' in
      (is ∙ ap (λ (e : RoomEnd HostedTrap). Ended e) (ends_same end end' same.0) ∙ sym is', same.1)

  put_once : (place : ℕ) (bytes : List ℕ) (k : Plan) → One k → One (Put place bytes k)
  put_once place bytes k once p one other q q' told also (mid, ((inside, room, slots), memory), rest) (mid', ((inside', room', slots'), memory'), rest') =
      let same : mid ≡ mid' = placed_same mid mid' (room ∙ sym room') (slots ∙ sym slots') in
      once mid one other q q' told also rest (subst (λ (m : Placed WorldEntry). Plans k m other q') (sym same) rest')

  adds_once : (entry : New) (k : Option ℕ → Plan) → ((given : Option ℕ) → One (k given)) → One (Adds entry k)
  adds_once entry k once p one other q q' told also (given, mid, ((got, room), memory), rest) (given', mid', ((got', room'), memory'), rest') =
      let index = gets_once entry p.slots mid.slots mid'.slots given given' got got' in
      let same : mid ≡ mid' = placed_same mid mid' (room ∙ sym room') index.1 in
      once given mid one other q q' told also rest
      (subst (λ (m : Placed WorldEntry). Plans (k given) m other q') (sym same) (subst (λ (o : Option ℕ). Plans (k o) mid' other q') (sym index.0) rest'))

  pub plan_once : (plan : Plan) → One plan
  plan_once (Given words) p one other q q' told also h i = (h.0 ∙ sym i.0, h.1 ∙ sym i.1)
  plan_once (Fails why) p one other q q' told also h i = (h.0 ∙ sym i.0, h.1 ∙ sym i.1)
  plan_once (Asks ask k) p one other q q' told also h i = asks_once ask k (λ place. plan_once (k place)) p one other q q' told also h i
  plan_once (Size k) p one other q q' told also h i =
      plan_once (k (length (bytes_in to.options.memory p.room.store))) p one other q q' told also h i
  plan_once (Put place bytes k) p one other q q' told also h i = put_once place bytes k (plan_once k) p one other q q' told also h i
  plan_once (Adds entry k) p one other q q' told also h i = adds_once entry k (λ given. plan_once (k given)) p one other q q' told also h i

-- What a lowering comes to is told.
lowered_told : (came : Lowered) → CameTold (as_plan came)
lowered_told (lowered.Words words) = tt
lowered_told (lowered.Failed why) = tt
lowered_told (lowered.Trapped why) = tt
lowered_told lowered.NoFuel = tt

abbrev ended_as : RoomEnd HostedTrap → Option Lowered
ended_as (Trapped why) = Some (lowered.Trapped why)
ended_as NoFuel = Some lowered.NoFuel
ended_as Memory = None

abbrev as_lowered : Came HostedTrap → Option Lowered
as_lowered (Words words) = Some (lowered.Words words)
as_lowered (Failed why) = Some (lowered.Failed why)
as_lowered (Ended end) = ended_as end

lowered_back : (came : Lowered) → as_lowered (as_plan came) ≡ Some came
lowered_back (lowered.Words words) = refl
lowered_back (lowered.Failed why) = refl
lowered_back (lowered.Trapped why) = refl
lowered_back lowered.NoFuel = refl

some_same : (a b : Lowered) → ◌≡◌ {A = Option Lowered} (Some a) (Some b) → a ≡ b
some_same a b e = cc e

lowered_same : (a b : Lowered) → as_plan a ≡ as_plan b → a ≡ b
lowered_same a b e = some_same a b (sym (lowered_back a) ∙ ap as_lowered e ∙ lowered_back b)

-- So a lowering comes to one thing.
lowers_once : (g : Graph) (to : Destination) (types : List ValType) (plan : Plan) (s : Site) (h : Held) (d e : Done (List ℕ)) → AreDistinct types → LowersAt g to types plan s h d
    → LowersAt g to types plan s h e → d ≡ e
lowers_once g to types plan s h d e distinct (came, placed, follows, is) (came', placed', follows', is') =
    let same =
    plan_once to.task types distinct (setting_in g to) plan (begun_at s h) (as_plan came) (as_plan came') placed placed' (lowered_told came) (lowered_told came') follows follows' in
    is
    ∙ ap (λ (c : Lowered). finished g to.task placed.room.acts c (left_at to s placed h)) (lowered_same came came' same.0)
    ∙ ap (λ (q : Placed WorldEntry). finished g to.task q.room.acts came' (left_at to s q h)) same.1
    ∙ sym is'

pub lowers_into_once : (p : Program) (to : Destination) (t : Numbered) (v : Value) (target : Target) (h : Held) (d e : Done (List ℕ)) → AreDistinct t.types → LowersInto p to t v target h d
    → LowersInto p to t v target h e → d ≡ e
lowers_into_once p to t v target h d e distinct b c =
    once_behind (site_found p to (fits v t.val_type) h) (λ s k e. LowersAt p.graph.now to t.types (plan_to target t.val_type v s.resources) s k e) d e
    (λ s k x y. lowers_once p.graph.now to t.types (plan_to target t.val_type v s.resources) s k d e distinct x y) b c

pub lowers_all_once : (p : Program) (to : Destination) (t : Numbered) (values : List Value) (place : ℕ) (h : Held) (d e : Done (List ℕ)) → AreDistinct t.types
    → LowersAll p to t values place h d → LowersAll p to t values place h e → d ≡ e
lowers_all_once p to t values place h d e distinct b c =
    once_behind (site_found p to (all_fit t.val_type values) h) (λ s k e. LowersAt p.graph.now to t.types (plan_all t.val_type values place s.resources) s k e) d e
    (λ s k x y. lowers_once p.graph.now to t.types (plan_all t.val_type values place s.resources) s k d e distinct x y) b c
