-- A copy transports its elements.
use Rattle.std.proofs.Common.{◌≡◌, ◌∙◌, ℕ, Bool, true, false, List, length, Option, Ok, Err, refl, ap, sym, subst, arith}
use Rattle.std.proofs.lemmas.List.{length-map}
use Rattle.syntax_trees.specs.declared.types.ValType.{ValType}
use Rattle.syntax_trees.specs.declared.value.Value.{Value}
use Rattle.res_handles.specs.declared.handle.Handle.{Handle}
use Rattle.res_handles.specs.declared.entry.EntryView.{EntryView}
use Rattle.res_handles.specs.declared.entry.EntryView.TheVariants as seen
use Rattle.value_lift.specs.Ledger.{Came}
use Rattle.value_lift.specs.Laws.{AreLoaded}
use Rattle.value_lift.specs.Lifting.{load_list}
use Rattle.value_lift.specs.Over.{load_list_by}
use Rattle.value_lift.specs.Tables.{Kept, Stop, by_table, at_first, given}
use Rattle.value_lift.specs.Settled.{listing, none_listed, names_in, carried, all_carried}
use Rattle.value_lift.proofs.Loaded.{loaded_lists_stand}
use Rattle.value_lift.proofs.Settling.{list_settled}
use Rattle.value_lift.proofs.Unlisted.{lists_plain}
use Rattle.value_lower.specs.Following.{Follows, Words}
use Rattle.value_lower.specs.Plan.{New}
use Rattle.value_lower.specs.Tables.{IsEntry}
use Rattle.copy_engine.specs.declared.copying.Copied.{Copied}
use Rattle.copy_engine.specs.declared.copying.Copied.TheVariants as copied
use Rattle.copy_engine.specs.declared.lower_values.Lowered.{Lowered}
use Rattle.copy_engine.specs.declared.lower_values.Lowered.TheVariants as lowered
use Rattle.copy_engine.specs.Answering.{Setting}
use Rattle.copy_engine.specs.Copying.{CopyState, as_copied, all_fit, LowersFitting, CopiesBy}
use Rattle.copy_engine.specs.Hosted.{Placed, plan_all, PlanComesTo, hosted_rooms}
use Rattle.copy_engine.specs.Nested.{bytes_in}
use Rattle.lowering_laws.specs.Values.{AllAre}
use Rattle.lowering_laws.specs.ValueRooms.{FollowsOver}
use Rattle.lowering_laws.proofs.Followed.{followed_over}
use Rattle.lowering_laws.proofs.LiftedValues.{loaded_lists_are}
use Rattle.value_laws.specs.Transport.{CopiesTransport}
use Rattle.value_laws.proofs.Arrived.{these_arrive}
use Rattle.value_laws.proofs.Lifted.{was_plain}
use Rattle.value_laws.proofs.Ranged.{all_carried_are}
use Rattle.value_laws.proofs.Slots.{slots_sound}
use Rattle.value_laws.proofs.Tables.{store_has}

-- what a copy comes to has these values
abbrev values_of : List Value → Copied → List Value
values_of other (copied.Values values) = values
values_of other c = other

abbrev are_values : Copied → Type 0
are_values (copied.Values values) = Unit {0}
are_values c = ⊥

-- The plan of elements that are copied is followed to its end.
record WasFollowed {E : Type 0} (view : E → EntryView) (is : New → E → Type 0) (to : Setting) (home : List ℕ) (type : ValType) (place : ℕ) (all values : List Value) (before after : Placed E) : Type 0 where
  pub same : all ≡ values
  pub words : List ℕ
  pub follows : Follows (hosted_rooms view is to) (plan_all type all place home) before (Words words) after

module _ {E : Type 0} (view : E → EntryView) (is : New → E → Type 0) (to : Setting) (home : List ℕ) (type : ValType) (place : ℕ) where
  was_lowered : (all values : List Value) (came : Lowered) (before after : Placed E) → PlanComesTo view is to (plan_all type all place home) before came after
      → copied.Values values ≡ as_copied all came → WasFollowed view is to home type place all values before after
  was_lowered all values (lowered.Words words) before after h e = record {
    same = sym (ap (λ (c : Copied). values_of all c) e);
    words = words;
    follows = h;
  }
  was_lowered all values (lowered.Failed why) before after h e = absurd (subst are_values e tt)
  was_lowered all values (lowered.Trapped why) before after h e = absurd (subst are_values e tt)
  was_lowered all values lowered.NoFuel before after h e = absurd (subst are_values e tt)

  was_fitting : (b : Bool) (all values : List Value) (before after : Placed E) → LowersFitting view is to home type place b all before (copied.Values values) after
      → WasFollowed view is to home type place all values before after
  was_fitting true all values before after h = was_lowered all values h.0 before after h.1 h.2
  was_fitting false all values before after h = absurd (subst are_values h.0 tt)

  -- The elements that were lifted, and the plan of them.
  record WasCopied (r : Came (Kept E) (Stop E) (List Value)) (values : List Value) (before after : Placed E) : Type 0 where
    pub all : List Value
    pub now : Kept E
    pub is_lifted : r ≡ Ok (all, now)
    pub followed : WasFollowed view is to home type place all values before after

  was_copied : (r : Came (Kept E) (Stop E) (List Value)) (values : List Value) (before after : CopyState E) → CopiesBy view is to home type place (given r) before (copied.Values values) after
      → WasCopied r values before.placed after.placed
  was_copied (Ok x) values before after h = record { all = x.0; now = x.1; is_lifted = refl; followed = was_fitting (all_fit type x.0) x.0 values before.placed after.placed h.2 }
  was_copied (Err stop) values before after h = absurd (subst are_values h.0 tt)

-- As many are copied as were loaded, which is one at least.
many_carried : (names : ℕ → ℕ) (plain : List Value) → length (all_carried names plain) ≡ length plain
many_carried names plain = length-map plain (carried names)

module _ {E : Type 0} (view : E → EntryView) (made : Handle → E) (made_end : ℕ → ℕ → E) (end_type : E → Option ℕ) (law : (x : Handle) → view (made x) ≡ seen.Handle x) where
  pub copies_transport : CopiesTransport view made made_end end_type
  copies_transport t from count to task home place before after values h some bytes low stands copies =
      let is : New → E → Type 0 = IsEntry made made_end task t.types in
      let type : ValType = t.val_type in
      let memory : List ℕ = bytes_in from.memory before.placed.room.store in
      let k : Kept E = at_first 134217728 before.out before.moved in
      let c = was_copied view is to home type place (load_list_by (by_table view made end_type t.types) type memory from.place count k) values before after copies in
      let w = was_plain view made end_type t.types all_carried k (load_list_by listing type memory from.place count (none_listed 134217728)) c.all c.now
      (sym (list_settled view made end_type t.types k law type memory from.place count) ∙ c.is_lifted) in
      let e : load_list type memory from.place count ≡ Ok w.plain = sym (lists_plain type memory from.place count) ∙ w.is in
      let named : all_carried (names_in view before.out) w.plain ≡ values = w.named ∙ c.followed.same in
      let are : AllAre type values =
      subst (λ (l : List Value). AllAre type l) named (all_carried_are (names_in view before.out) low (loaded_lists_are type memory from.place count w.plain bytes e)) in
      let f = followed_over (hosted_rooms view is to) (plan_all type c.all place home) before.placed after.placed c.followed.words c.followed.follows in
      let follows : FollowsOver (hosted_rooms view is to) (plan_all type values place home) before.placed f.0 c.followed.words after.placed =
      subst (λ (l : List Value). FollowsOver (hosted_rooms view is to) (plan_all type l place home) before.placed f.0 c.followed.words after.placed) c.followed.same f.1 in
      let stood : AreLoaded type memory from.place count w.plain = (loaded_lists_stand type memory from.place count w.plain some).0 e in
      let many : length values ≡ count = ap (λ (l : List Value). length l) (sym named) ∙ many_carried (names_in view before.out) w.plain ∙ stood.many in
      record {
        plain = w.plain;
        stood = stood;
        named = named;
        over = f.0;
        given = c.followed.words;
        follows = follows;
        arrive =
            λ apart.
            these_arrive (hosted_rooms view is to) (λ (p : Placed E). p.slots) is (store_has view is to) home type values place are (omega (arith, many, some)) before.placed
            after.placed f.0 c.followed.words (slots_sound h before.placed.slots stands) follows apart;
      }
