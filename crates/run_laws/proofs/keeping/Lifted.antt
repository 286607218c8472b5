-- Values that are lifted from the table of an instance: handles and ends that leave it, and handles that are lent for the call of a task, keep what is kept.
use Rattle.std.proofs.Common.{◌≡◌, ◌⊎◌, inl, inr, ℕ, ◌+◌, nat_eq, Bool, true, false, if◌then◌else◌, List, [], ◌∷◌, ◌++◌, slice_set, refl, sym, ap, ◌∙◌, subst, Option, Some, None}
use Rattle.std.specs.Prelude.{Result, Ok, Err}
use Rattle.std.specs.List.{slice_get}
use Rattle.std.specs.Option.{option_map}
use Rattle.std.proofs.lemmas.Bool.Decides.{Decides-eqb}
use Rattle.syntax_trees.specs.declared.types.ValType.{ValType}
use Rattle.handle_table.specs.Slots.{entry_at, removed}
use Rattle.res_handles.specs.declared.handle.Handle.{Handle}
use Rattle.res_handles.specs.declared.handle.Ownership.{Ownership}
use Rattle.res_handles.specs.declared.handle.Ownership.TheVariants.{Own, Borrow}
use Rattle.res_handles.specs.declared.entry.EntryView.{EntryView}
use Rattle.res_handles.specs.declared.entry.EntryView.TheVariants as seen
use Rattle.res_handles.specs.declared.refusal.Refusal.{Refusal}
use Rattle.res_handles.specs.declared.refusal.Refusal.TheVariants as refusal
use Rattle.res_handles.specs.Refusals.{handle_in, own_in, owned, owned_by, that_is}
use Rattle.res_handles.specs.Ends.{end_in}
use Rattle.res_handles.specs.Calls as handles
use Rattle.waitables.specs.Sets.{left}
use Rattle.stream_ends.specs.declared.side.Side.{Side}
use Rattle.stream_ends.specs.declared.side.Side.TheVariants.{Reader, Writer}
use Rattle.value_lift.specs.declared.moved.Moved.TheVariants.{Lent, Taken}
use Rattle.value_lift.specs.Ledger.{Use, What, AnOwn, ABorrow, AnEnd, Came, counting}
use Rattle.value_lift.specs.Settled.{Listed, applied, applied_by, uses_in}
use Rattle.value_lift.specs.Settled as listed
use Rattle.value_lift.specs.declared.trap.LiftTrap.{LiftTrap}
use Rattle.value_lift.specs.Tables.{Kept, Stop, is_end_at, taken_own, taken_end, taken_borrow, taken_as, at_first}
use Rattle.value_lift.specs.Tables as tables
use Rattle.value_lift.proofs.Uses.{EndFound, own_found, handle_found, end_found}
use Rattle.instances.specs.declared.entry.EndEntry.{EndEntry}
use Rattle.instances.specs.declared.entry.WorldEntry.{WorldEntry}
use Rattle.instances.specs.declared.entry.WorldEntry.TheVariants as entry
use Rattle.instances.specs.Entries.{seen_as, seen_by, of_handle, end_type_of}
use Rattle.instances.specs.Instances as instance
use Rattle.instances.specs.Instances.{InstanceView, entry_of, with_slots, with_sets}
use Rattle.task_table.specs.declared.caller.Called.{Called}
use Rattle.task_table.specs.declared.caller.Caller.{Caller}
use Rattle.task_table.specs.declared.caller.Caller.TheVariants.{Nobody, Host, Guest}
use Rattle.task_table.specs.declared.slot.TaskSlot.{TaskSlot}
use Rattle.task_table.specs.Callers.{called_of, changed, with_lend}
use Rattle.trace_labels.specs.declared.label.Label.TheVariants as line
use Rattle.world_parts.specs.Held.{Held, Done, Gives, Traps, Stuck, after}
use Rattle.world_parts.specs.Entries.{with_instance}
use Rattle.world_parts.specs.Slots.{with_task}
use Rattle.value_parts.specs.declared.lifting.Origin.{Origin}
use Rattle.value_parts.specs.Loans.{may_lend, lent_slot, all_moved}
use Rattle.value_parts.specs.Names.{lift_name}
use Rattle.value_parts.specs.Lifting.{settled}
use Rattle.abi_machine.proofs.sound.Found.{some_same, ok_same}
use Rattle.standing.specs.KeptMarks.{borrows_by}
use Rattle.standing.proofs.Agreeing.{get_set}
use Rattle.standing.proofs.Lists.{set_same}
use Rattle.run_laws.specs.keeping.Kept.{CalledFrom}
use Rattle.run_laws.proofs.Moved.{slotted, slotted_is, over, moved_over, moved_to, moved_stuck, lent_to, not_lent, taken_to}
use Rattle.run_laws.proofs.keeping.Alike.{guest_same, set_twice}
use Rattle.run_laws.proofs.keeping.But.{HasBut, LeavesSo, but_as, right_at}
use Rattle.run_laws.proofs.keeping.Prior.{Prior, prior_all, prior_task, prior_further}
use Rattle.run_laws.proofs.keeping.Changing.{entry_leaves, set_leaves}
use Rattle.run_laws.proofs.keeping.Lent.{lent_as, handle_lent, from_lent}

-- What stands where something is seen.
end_no_handle : (e : EndEntry) (side : Side) (x : Handle) (A : Type 0) → (let v : Option EntryView = Some (seen_by side e) in v) ≡ Some (seen.Handle x) → A
end_no_handle e Reader x A is = absurd (cc)
end_no_handle e Writer x A is = absurd (cc)

pub handle_stands : (o : Option WorldEntry) (x : Handle) → option_map seen_as o ≡ Some (seen.Handle x) → o ≡ Some (entry.Handle x)
handle_stands None x is = absurd (cc)
handle_stands (Some (entry.Handle y)) x is = ap (λ (v : Handle). Some (entry.Handle v)) (let same : y ≡ x = cc in same)
handle_stands (Some (entry.Subtask callee)) x is = absurd (cc)
handle_stands (Some (entry.Set set)) x is = absurd (cc)
handle_stands (Some (entry.End e)) x is = end_no_handle e e.side x (Some (entry.End e) ≡ Some (entry.Handle x)) is

pub record EndStands (o : Option WorldEntry) : Type 0 where
  pub end : EndEntry
  pub is : o ≡ Some (entry.End end)

pub end_stands : (o : Option WorldEntry) (number : ℕ) (is_idle : Bool) → option_map seen_as o ≡ Some (seen.ReadableEnd (record { number = number; is_idle = is_idle })) → EndStands o
end_stands None number is_idle is = absurd (cc)
end_stands (Some (entry.Handle y)) number is_idle is = absurd (cc)
end_stands (Some (entry.Subtask callee)) number is_idle is = absurd (cc)
end_stands (Some (entry.Set set)) number is_idle is = absurd (cc)
end_stands (Some (entry.End e)) number is_idle is = record { end = e; is = refl }

-- An own handle that is lifted is not lent.
pub record IsOwnUnlent (x : Handle) : Type 0 where
  pub own : x.ownership ≡ Own
  pub unlent : x.lends ≡ 0

tested_unlent : (b : Bool) (y x : Handle) → nat_eq y.lends 0 ≡ b → ◌≡◌ {A = Result Handle Refusal} (if b then Ok y else Err refusal.Lent) (Ok x) → (y.lends ≡ 0) × (y ≡ x)
tested_unlent true y x told is = ((Decides-eqb y.lends 0).0 told, ok_same is)
tested_unlent false y x told is = absurd (cc)

owned_so : (o : Ownership) (y x : Handle) → y.ownership ≡ o → owned_by o y ≡ Ok x → IsOwnUnlent x
owned_so Own y x owner is =
    let p : (y.lends ≡ 0) × (y ≡ x) = tested_unlent (nat_eq y.lends 0) y x refl is in
    record { own = ap (λ (z : Handle). z.ownership) (sym p.1) ∙ owner; unlent = ap (λ (z : Handle). z.lends) (sym p.1) ∙ p.0 }
owned_so (Borrow task) y x owner is = absurd (cc)

own_so : (b : Bool) (y x : Handle) → that_is owned (if b then Ok y else Err refusal.OtherType) ≡ Ok x → IsOwnUnlent x
own_so true y x is = owned_so y.ownership y x refl is
own_so false y x is = absurd (cc)

pub own_unlent : (o : Option EntryView) (resource : ℕ) (x : Handle) → own_in o resource ≡ Ok x → IsOwnUnlent x
own_unlent None resource x is = absurd (cc)
own_unlent (Some seen.Other) resource x is = absurd (cc)
own_unlent (Some (seen.ReadableEnd e)) resource x is = absurd (cc)
own_unlent (Some (seen.Handle y)) resource x is = own_so (nat_eq y.resource resource) y x is

-- Who may be lent to was called.
pub record WasCalled (c : Caller) : Type 0 where
  pub called : Called
  pub is : called_of c ≡ Some called

pub lender_called : (c : Caller) → may_lend c ≡ true → WasCalled c
lender_called Nobody may = absurd (cc)
lender_called (Host call) may = absurd (cc)
lender_called (Guest called) may = record { called = called; is = refl }

lent_calls : (handle : ℕ) (c : Caller) (called : Called) → changed (with_lend handle) c ≡ Guest called
    → (prior : Called) × (c ≡ Guest prior) × (called.by ≡ prior.by) × (called.canon ≡ prior.canon) × (called.words ≡ prior.words)
lent_calls handle Nobody called e = absurd (cc)
lent_calls handle (Host call) called e = absurd (cc)
lent_calls handle (Guest x) called e =
    let same : with_lend handle x ≡ called = guest_same e in
    (x, refl, ap (λ (c : Called). c.by) (sym same), ap (λ (c : Called). c.canon) (sym same), ap (λ (c : Called). c.words) (sym same))

-- An index is used to lend a handle.
abbrev pub Borrows : What → Type 0
Borrows (AnOwn resource) = ⊥
Borrows (ABorrow resource) = Unit {0}
Borrows (AnEnd type) = ⊥

abbrev pub LendOnly : Type 0 → List Use → Type 0
LendOnly B [] = Unit {0}
LendOnly B (u ∷ uses) = (Borrows u.what → B) × LendOnly B uses

module _ (C : Type 0) (t n : ℕ) (B : Type 0) (h : Held) (at callee : ℕ) where
  -- What is kept, behind what moved, with these slots in the table.
  pub record Goes (k : Kept WorldEntry) : Type 0 where
    pub base : Held
    pub inst : InstanceView
    pub moved : all_moved at callee k.moved h ≡ Gives tt base
    pub there : slice_get base.instances at ≡ Some inst
    pub but : HasBut C t n (with_instance at (with_slots k.slots inst) base)
    pub prior : Prior h base
    pub from : B → CalledFrom base at callee

  -- Or what moved came to no rule.
  abbrev pub MayGo : Kept WorldEntry → Type 0
  MayGo k = Goes k ⊎ (all_moved at callee k.moved h ≡ Stuck)

  abbrev here_now : (k : Kept WorldEntry) → Goes k → InstanceView
  here_now k g = with_slots k.slots g.inst

  -- with an instance there
  stands_now : (k : Kept WorldEntry) (g : Goes k) → slice_get (slice_set g.base.instances at (with_slots k.slots g.inst)) at ≡ Some (with_slots k.slots g.inst)
  stands_now k g = get_set g.base.instances at g.inst (with_slots k.slots g.inst) g.there

  -- An instance that is put twice.
  put_twice : (base : Held) (x y : InstanceView) → HasBut C t n (with_instance at y (with_instance at x base)) → HasBut C t n (with_instance at y base)
  put_twice base x y but =
      but_as C t n (with_instance at y (with_instance at x base)) (with_instance at y base) refl (sym (set_twice base.instances at x y)) refl refl but

  -- An own handle leaves the table.
  own_leaves : (k : Kept WorldEntry) (left index : ℕ) (x : Handle) → handles.view_at seen_as k.slots index ≡ Some (seen.Handle x) → IsOwnUnlent x → MayGo k
      → MayGo (record { left = left; slots = removed index k.slots; moved = k.moved })
  own_leaves k left index x is own (inr stuck) = inr stuck
  own_leaves k left index x is own (inl g) =
      let i : InstanceView = with_slots k.slots g.inst in
      inl (record {
        base = g.base;
        inst = g.inst;
        moved = g.moved;
        there = g.there;
        but = put_twice g.base i (instance.entry_removed index i)
            (entry_leaves C t n (with_instance at i g.base) at i (stands_now k g) g.but index (entry.Handle x) (handle_stands (entry_at k.slots index) x is) own.unlent
            (λ m. ap (borrows_by m) own.own));
        prior = g.prior;
        from = g.from;
      })

  -- An end does, and its set.
  end_goes : (k : Kept WorldEntry) (left_over index number : ℕ) (is_idle : Bool)
      → handles.view_at seen_as k.slots index ≡ Some (seen.ReadableEnd (record { number = number; is_idle = is_idle })) → MayGo k
      → MayGo (record { left = left_over; slots = removed index k.slots; moved = k.moved ++ Taken index ∷ [] })
  end_goes k left_over index number is_idle is (inr stuck) = inr (moved_stuck at callee k.moved (Taken index) h stuck)
  end_goes k left_over index number is_idle is (inl g) =
      let i : InstanceView = with_slots k.slots g.inst in
      let j : InstanceView = instance.entry_removed index i in
      let out : InstanceView = with_sets (left index g.inst.sets) g.inst in
      let e : EndStands (entry_at k.slots index) = end_stands (entry_at k.slots index) number is_idle is in
      let gone : HasBut C t n (with_instance at j g.base) = put_twice g.base i j
      (entry_leaves C t n (with_instance at i g.base) at i (stands_now k g) g.but index (entry.End e.end) e.is refl (λ m. refl)) in
      let both : HasBut C t n (with_instance at (with_sets (left index j.sets) j) g.base) = put_twice g.base j (with_sets (left index j.sets) j)
      (set_leaves C t n (with_instance at j g.base) at j (get_set g.base.instances at g.inst j g.there) gone index) in
      inl (record {
        base = with_instance at out g.base;
        inst = out;
        moved = moved_to at callee k.moved (Taken index) h g.base g.moved ∙ taken_to at callee index g.base g.inst g.there;
        there = get_set g.base.instances at g.inst out g.there;
        but = but_as C t n (with_instance at (with_sets (left index j.sets) j) g.base) (with_instance at (with_slots (removed index k.slots) out) (with_instance at out g.base)) refl
            (set_twice g.base.instances at out (with_slots (removed index k.slots) out)) refl refl both;
        prior = g.prior;
        from = g.from;
      })

  -- A handle is lent.
  lends_by_slot : (k : Kept WorldEntry) (left_over index : ℕ) (x : Handle) (g : Goes k) (slot : TaskSlot) → entry_at k.slots index ≡ Some (entry.Handle x)
      → slice_get g.base.tasks callee ≡ Some slot → B → (b : Bool) → may_lend slot.caller ≡ b
      → MayGo (record { left = left_over; slots = handles.lent seen_as of_handle index k.slots; moved = k.moved ++ Lent index ∷ [] })
  lends_by_slot k left_over index x g slot stood is used false may =
      inr (moved_to at callee k.moved (Lent index) h g.base g.moved
      ∙ not_lent at callee index g.base (slice_get g.base.tasks callee) refl (λ s found. ap (λ (v : TaskSlot). may_lend v.caller) (some_same (sym found ∙ is)) ∙ may))
  lends_by_slot k left_over index x g slot stood is used true may =
      let i : InstanceView = with_slots k.slots g.inst in
      let c : WasCalled slot.caller = lender_called slot.caller may in
      let lent : HasBut C t n (with_task callee (lent_slot index slot) (with_instance at (with_slots (handles.lent seen_as of_handle index k.slots) g.inst) (with_instance at i g.base))) =
      subst (λ (z : InstanceView). HasBut C t n (with_task callee (lent_slot index slot) (with_instance at z (with_instance at i g.base)))) (sym (lent_as i index x stood))
      (handle_lent C t n (with_instance at i g.base) at index callee i x slot c.called (stands_now k g) stood is c.is (g.from used slot c.called is c.is) g.but) in
      let base : Held = record (with_task callee (lent_slot index slot) g.base) { labels = g.base.labels ++ line.Lend (at + 1) index callee ∷ [] } in
      inl (record {
        base = base;
        inst = g.inst;
        moved = moved_to at callee k.moved (Lent index) h g.base g.moved ∙ lent_to at callee index g.base slot is may;
        there = g.there;
        but = but_as C t n (with_task callee (lent_slot index slot) (with_instance at (with_slots (handles.lent seen_as of_handle index k.slots) g.inst) (with_instance at i g.base)))
            (with_instance at (with_slots (handles.lent seen_as of_handle index k.slots) g.inst) base) refl
            (sym (set_twice g.base.instances at i (with_slots (handles.lent seen_as of_handle index k.slots) g.inst))) refl refl lent;
        prior =
            prior_further h g.base base g.prior
            (prior_task g.base callee slot (lent_slot index slot) is (λ n. refl)
            (record { instance = refl; callee = refl; calls = λ called e. lent_calls index slot.caller called e }));
        from = λ used. from_lent g.base at index callee slot is (g.from used);
      })

  lends_if : (k : Kept WorldEntry) (left_over index : ℕ) (x : Handle) (g : Goes k) (o : Option TaskSlot) → entry_at k.slots index ≡ Some (entry.Handle x)
      → slice_get g.base.tasks callee ≡ o → B → MayGo (record { left = left_over; slots = handles.lent seen_as of_handle index k.slots; moved = k.moved ++ Lent index ∷ [] })
  lends_if k left_over index x g None stood is used =
      inr (moved_to at callee k.moved (Lent index) h g.base g.moved
      ∙ not_lent at callee index g.base (slice_get g.base.tasks callee) refl (λ s found. absurd (no_slot s (sym found ∙ is))))
    where
      no_slot : (s : TaskSlot) → Some s ≡ None → ⊥
      no_slot s e = cc
  lends_if k left_over index x g (Some slot) stood is used = lends_by_slot k left_over index x g slot stood is used (may_lend slot.caller) refl

  handle_goes : (k : Kept WorldEntry) (left_over index : ℕ) (x : Handle) → handles.view_at seen_as k.slots index ≡ Some (seen.Handle x) → B → MayGo k
      → MayGo (record { left = left_over; slots = handles.lent seen_as of_handle index k.slots; moved = k.moved ++ Lent index ∷ [] })
  handle_goes k left_over index x is used (inr stuck) = inr (moved_stuck at callee k.moved (Lent index) h stuck)
  handle_goes k left_over index x is used (inl g) = lends_if k left_over index x g (slice_get g.base.tasks callee) (handle_stands (entry_at k.slots index) x is) refl used

  -- One use, by what is found.
  abbrev Took : Result (ℕ × Kept WorldEntry) (Stop WorldEntry) → Type 0
  Took (Ok x) = MayGo x.1
  Took (Err stop) = MayGo (record { left = 0; slots = stop.slots; moved = stop.moved })

  -- Where it stops so it is of the table as it is then.
  at_stop : (k : Kept WorldEntry) (left : ℕ) → MayGo k → MayGo (record { left = left; slots = k.slots; moved = k.moved })
  at_stop k left (inr stuck) = inr stuck
  at_stop k left (inl g) = inl (record { base = g.base; inst = g.inst; moved = g.moved; there = g.there; but = g.but; prior = g.prior; from = g.from })

  own_took : (u : Use) (resource : ℕ) (k : Kept WorldEntry) (r : Result Handle Refusal) → own_in (handles.view_at seen_as k.slots u.index) resource ≡ r → MayGo k → Took (taken_own r u k)
  own_took u resource k (Ok x) is g =
      own_leaves k k.left u.index x (own_found (handles.view_at seen_as k.slots u.index) resource x is) (own_unlent (handles.view_at seen_as k.slots u.index) resource x is) g
  own_took u resource k (Err why) is g = at_stop k 0 g

  borrow_took : (u : Use) (resource : ℕ) (k : Kept WorldEntry) (r : Result Handle Refusal) → handle_in (handles.view_at seen_as k.slots u.index) resource ≡ r → B → MayGo k
      → Took (taken_borrow seen_as of_handle r u k)
  borrow_took u resource k (Ok x) is used g = handle_goes k k.left u.index x (handle_found (handles.view_at seen_as k.slots u.index) resource x is) used g
  borrow_took u resource k (Err why) is used g = at_stop k 0 g

  end_took : (u : Use) (of : Bool) (k : Kept WorldEntry) (r : Result ℕ Refusal) → end_in (handles.view_at seen_as k.slots u.index) of ≡ r → MayGo k → Took (taken_end r u k)
  end_took u of k (Ok number) is g =
      let f : EndFound (handles.view_at seen_as k.slots u.index) number = end_found (handles.view_at seen_as k.slots u.index) of number is in
      end_goes k k.left u.index f.found.number f.found.is_idle f.is g
  end_took u of k (Err why) is g = at_stop k 0 g

  module _ (types : List ValType) where
    took : (w : What) (u : Use) (k : Kept WorldEntry) → (Borrows w → B) → MayGo k → Took (taken_as seen_as of_handle end_type_of types w u k)
    took (AnOwn resource) u k used g = own_took u resource k (own_in (handles.view_at seen_as k.slots u.index) resource) refl g
    took (ABorrow resource) u k used g = borrow_took u resource k (handle_in (handles.view_at seen_as k.slots u.index) resource) refl (used tt) g
    took (AnEnd type) u k used g =
        end_took u (is_end_at end_type_of types k.slots u.index type) k (end_in (handles.view_at seen_as k.slots u.index) (is_end_at end_type_of types k.slots u.index type)) refl g

    -- Uses, one after the other.
    abbrev AllTook : Result (Kept WorldEntry) (Stop WorldEntry) → Type 0
    AllTook (Ok k) = MayGo k
    AllTook (Err stop) = MayGo (record { left = 0; slots = stop.slots; moved = stop.moved })

    more_took : (r : Result (ℕ × Kept WorldEntry) (Stop WorldEntry)) (f : Kept WorldEntry → Result (Kept WorldEntry) (Stop WorldEntry)) → Took r
        → ((k : Kept WorldEntry) → MayGo k → AllTook (f k)) → AllTook (applied_by r f)
    more_took (Ok x) f g more = more x.1 g
    more_took (Err stop) f g more = g

    pub uses_took : (uses : List Use) (k : Kept WorldEntry) → LendOnly B uses → MayGo k → AllTook (applied seen_as of_handle end_type_of types uses k)
    uses_took [] k used g = g
    uses_took (u ∷ uses) k used g =
        more_took (taken_as seen_as of_handle end_type_of types u.what u k) (λ now. applied seen_as of_handle end_type_of types uses now) (took u.what u k used.0 g)
        (λ now m. uses_took uses now used.1 m)

-- What lifting gives.
abbrev pub LiftsSo : Type 0 → ℕ → ℕ → Held → Held → Type 0
LiftsSo C t n h k = HasBut C t n k × Prior h k

abbrev Comes : Type 0 → Type 0
Comes A = Came (Kept WorldEntry) (Stop WorldEntry) A

module _ (A : Type 0) (C : Type 0) (t n : ℕ) (B : Type 0) (h : Held) (from : Origin) (i : InstanceView) (there : slice_get h.instances from.at ≡ Some i) (types : List ValType) where
  -- What moved is done over what is kept with the slots.
  given_so : (k : Kept WorldEntry) (v : A) → MayGo C t n B h from.at from.callee k
      → LeavesSo C (LiftsSo C t n h) (let d : Done A = after (all_moved from.at from.callee k.moved (with_instance from.at (with_slots k.slots i) h)) (λ done l. Gives v l) in d)
  given_so k v (inl g) =
      let same : (let d : Done A = after (all_moved from.at from.callee k.moved (with_instance from.at (with_slots k.slots i) h)) (λ done l. Gives v l) in d) ≡ Gives v (slotted from.at k.slots g.base) =
      ap (λ (l : Held). after (all_moved from.at from.callee k.moved l) (λ (done : Unit {0}) m. Gives v m)) (slotted_is from.at k.slots h i there)
      ∙ ap (λ (d : Done (Unit {0})). after d (λ (done : Unit {0}) m. Gives v m)) (moved_over from.at from.callee k.slots k.moved h)
      ∙ ap (λ (d : Done (Unit {0})). after (over from.at k.slots d) (λ (done : Unit {0}) m. Gives v m)) g.moved in
      subst (λ (d : Done A). LeavesSo C (LiftsSo C t n h) d) (sym same)
      (subst (λ (l : Held). HasBut C t n l) (slotted_is from.at k.slots g.base g.inst g.there) g.but, g.prior)
  given_so k v (inr stuck) =
      let same : (let d : Done A = after (all_moved from.at from.callee k.moved (with_instance from.at (with_slots k.slots i) h)) (λ done l. Gives v l) in d) ≡ Stuck =
      ap (λ (l : Held). after (all_moved from.at from.callee k.moved l) (λ (done : Unit {0}) m. Gives v m)) (slotted_is from.at k.slots h i there)
      ∙ ap (λ (d : Done (Unit {0})). after d (λ (done : Unit {0}) m. Gives v m)) (moved_over from.at from.callee k.slots k.moved h)
      ∙ ap (λ (d : Done (Unit {0})). after (over from.at k.slots d) (λ (done : Unit {0}) m. Gives v m)) stuck in
      subst (λ (d : Done A). LeavesSo C (LiftsSo C t n h) d) (sym same) tt

  stopped_so : (stop : Stop WorldEntry) → MayGo C t n B h from.at from.callee (record { left = 0; slots = stop.slots; moved = stop.moved })
      → LeavesSo C (LiftsSo C t n h) (settled from i (tables.given (let c : Comes A = Err stop in c)) h)
  stopped_so stop (inl g) =
      let same : (let d : Done A = after (all_moved from.at from.callee stop.moved (with_instance from.at (with_slots stop.slots i) h)) (λ done l. Traps (lift_name stop.trap.why) l) in d)
      ≡ Traps (lift_name stop.trap.why) (slotted from.at stop.slots g.base) =
      ap (λ (l : Held). after (all_moved from.at from.callee stop.moved l) (λ (done : Unit {0}) m. Traps (lift_name stop.trap.why) m)) (slotted_is from.at stop.slots h i there)
      ∙ ap (λ (d : Done (Unit {0})). after d (λ (done : Unit {0}) m. Traps (lift_name stop.trap.why) m)) (moved_over from.at from.callee stop.slots stop.moved h)
      ∙ ap (λ (d : Done (Unit {0})). after (over from.at stop.slots d) (λ (done : Unit {0}) m. Traps (lift_name stop.trap.why) m)) g.moved in
      subst (λ (d : Done A). LeavesSo C (LiftsSo C t n h) d) (sym same)
      (right_at C t n (slotted from.at stop.slots g.base) (subst (λ (l : Held). HasBut C t n l) (slotted_is from.at stop.slots g.base g.inst g.there) g.but))
  stopped_so stop (inr stuck) =
      let same : (let d : Done A = after (all_moved from.at from.callee stop.moved (with_instance from.at (with_slots stop.slots i) h)) (λ done l. Traps (lift_name stop.trap.why) l) in d) ≡ Stuck =
      ap (λ (l : Held). after (all_moved from.at from.callee stop.moved l) (λ (done : Unit {0}) m. Traps (lift_name stop.trap.why) m)) (slotted_is from.at stop.slots h i there)
      ∙ ap (λ (d : Done (Unit {0})). after d (λ (done : Unit {0}) m. Traps (lift_name stop.trap.why) m)) (moved_over from.at from.callee stop.slots stop.moved h)
      ∙ ap (λ (d : Done (Unit {0})). after (over from.at stop.slots d) (λ (done : Unit {0}) m. Traps (lift_name stop.trap.why) m)) stuck in
      subst (λ (d : Done A). LeavesSo C (LiftsSo C t n h) d) (sym same) tt

  value_so : (v : A) (left : ℕ) (r : Result (Kept WorldEntry) (Stop WorldEntry)) → AllTook C t n B h from.at from.callee types r
      → LeavesSo C (LiftsSo C t n h) (settled from i (tables.given (let c : Comes A = counting r (λ now. Ok (v, record { left = left; slots = now.slots; moved = now.moved })) in c)) h)
  value_so v left (Ok k) g = given_so k v g
  value_so v left (Err stop) g = stopped_so stop g

  fault_so : (fault : LiftTrap) (r : Result (Kept WorldEntry) (Stop WorldEntry)) → AllTook C t n B h from.at from.callee types r
      → LeavesSo C (LiftsSo C t n h) (settled from i (tables.given (let c : Comes A = counting r (λ now. Err (tables.stopped fault now)) in c)) h)
  fault_so fault (Ok k) g = stopped_so (tables.stopped fault k) (at_stop C t n B h from.at from.callee k 0 g)
  fault_so fault (Err stop) g = stopped_so stop g

  came_so : (carry : (ℕ → ℕ) → A → A) (first : Kept WorldEntry) (r : Came Listed (LiftTrap × List Use) A)
      → AllTook C t n B h from.at from.callee types (applied seen_as of_handle end_type_of types (uses_in r) first)
      → LeavesSo C (LiftsSo C t n h) (settled from i (tables.given (listed.settled seen_as of_handle end_type_of types carry first r)) h)
  came_so carry first (Ok x) done = value_so (carry (listed.names_in seen_as first.slots) x.0) x.1.left (applied seen_as of_handle end_type_of types x.1.uses first) done
  came_so carry first (Err x) done = fault_so x.0 (applied seen_as of_handle end_type_of types x.1 first) done

  -- A lifting that settles so, from the table as it is.
  pub lifting_but : (carry : (ℕ → ℕ) → A → A) (left : ℕ) (r : Came Listed (LiftTrap × List Use) A) (came : Comes A)
      → came ≡ listed.settled seen_as of_handle end_type_of types carry (at_first left i.slots []) r → LendOnly B (uses_in r) → (B → CalledFrom h from.at from.callee) → HasBut C t n h
      → LeavesSo C (LiftsSo C t n h) (settled from i (tables.given came) h)
  lifting_but carry left r came is lends called but =
      let first : Kept WorldEntry = at_first left i.slots [] in
      let goes : Goes C t n B h from.at from.callee first = record {
        base = h;
        inst = i;
        moved = refl;
        there = there;
        but = but_as C t n h (with_instance from.at i h) refl (set_same h.instances from.at i there) refl refl but;
        prior = prior_all h h refl;
        from = called;
      } in
      subst (λ (c : Comes A). LeavesSo C (LiftsSo C t n h) (settled from i (tables.given c) h)) (sym is)
      (came_so carry first r (uses_took C t n B h from.at from.callee types (uses_in r) first lends (inl goes)))
