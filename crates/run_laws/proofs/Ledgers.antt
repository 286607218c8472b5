-- The machine's ledger over a world, with ends told by their types, and one that stops where a borrow is lent.
use Rattle.std.proofs.Common.{◌≡◌, ◌∙◌, ℕ, Bool, true, false, List, refl, ap, subst, Option, Some, None, Result, Ok, Err}
use Rattle.syntax_trees.specs.declared.types.ValType.{ValType}
use Rattle.laid_types.specs.Handles.{has_borrow}
use Rattle.builtin_kinds.specs.declared.EndKind.{EndKind}
use Rattle.res_handles.specs.declared.entry.EntryView.{EntryView}
use Rattle.res_handles.specs.declared.entry.EntryView.TheVariants as seen
use Rattle.res_handles.specs.declared.refusal.Refusal.{Refusal}
use Rattle.res_handles.specs.Refusals.{handle_in, own_in}
use Rattle.res_handles.specs.Ends.{end_of, end_in}
use Rattle.comp_graph.specs.Graph.{ends_type}
use Rattle.value_lift.specs.declared.trap.LiftTrap.{LiftTrap}
use Rattle.value_lift.specs.Answers.{counted}
use Rattle.value_lift.specs.Ledger.{Ledger, What, AnOwn, ABorrow, AnEnd, counting, reached}
use Rattle.value_lift.proofs.Both.{stop_of, on_with, Both, Spent}
use Rattle.value_lift.proofs.Beside.{AreBeside}
use Rattle.abi_machine.specs.LiftingOver as machine
use Rattle.abi_machine.specs.World.{World}
use Rattle.abi_machine.specs.Reading.{entry_at}
use Rattle.abi_machine.specs.Counting.{view_at}
use Rattle.abi_machine.specs.Traps.{lift_name}
use Rattle.abi_machine.specs.Lifting.{Kept, Stopped, spent_so, stopped, own_taken, borrow_taken, end_taken, end_seen, taken_as, by_world}
use Rattle.abi_machine.proofs.sound.Lifts as lifts
use Rattle.run_laws.proofs.LiftedLayers.{AreSame, WhatAgrees}
use Rattle.run_laws.proofs.Taking.{is_typed_end, typed_same}

-- What an index names, with ends told by their types.
abbrev pub world_taken : ℕ → ℕ → What → ℕ → Kept → Result (ℕ × Kept) Stopped
world_taken at callee (AnOwn resource) index k = own_taken at index (own_in (view_at k.world at index) resource) k
world_taken at callee (ABorrow resource) index k = borrow_taken at callee index (handle_in (view_at k.world at index) resource) k
world_taken at callee (AnEnd type) index k = end_taken at index (end_in (view_at k.world at index) (is_typed_end k.world type (entry_at k.world at index))) k

abbrev pub by_types : ℕ → ℕ → Ledger Kept Stopped
by_types at callee = record {
  spend = λ many place k. spent_so (counted many place k.left) k;
  stop = λ fault k. stopped (lift_name fault.why) k;
  take = λ u k. world_taken at callee u.what u.index k;
}

end_same : (w : World) (at index : ℕ) (kind : EndKind) (element : Option ValType) (type : ValType) (v : Option EntryView) → type ≡ ends_type kind element
    → end_seen v kind element w at index ≡ end_in v (is_typed_end w type (entry_at w at index))
end_same w at index kind element type None of = refl
end_same w at index kind element type (Some seen.Other) of = refl
end_same w at index kind element type (Some (seen.Handle x)) of = refl
end_same w at index kind element type (Some (seen.ReadableEnd x)) of = ap (λ (b : Bool). end_of b x) (typed_same w kind element type (entry_at w at index) of)

taken_alike : (at callee : ℕ) (a : What) (b : machine.What) (index : ℕ) (k : Kept) → WhatAgrees a b → taken_as at callee b index k ≡ world_taken at callee a index k
taken_alike at callee (AnOwn resource) b index k w = ap (λ (c : machine.What). taken_as at callee c index k) w
taken_alike at callee (ABorrow resource) b index k w = ap (λ (c : machine.What). taken_as at callee c index k) w
taken_alike at callee (AnEnd type) b index k (kind, element, is, of) =
    ap (λ (c : machine.What). taken_as at callee c index k) is
    ∙ ap (λ (r : Result ℕ Refusal). end_taken at index r k) (end_same k.world at index kind element type (view_at k.world at index) of)

pub types_same : (at callee : ℕ) → AreSame (by_types at callee) (by_world at callee)
types_same at callee = record { spend = λ many place k. refl; stop = λ fault k. refl; take = λ a b index place k w. taken_alike at callee a b index k w }

-- It stops, for no fault, where a borrow is lent, unless borrows may be lent.
abbrev pub Halted : Type 0
Halted = Option Stopped

abbrev pub faulted : {A : Type 0} → Result A Stopped → Result A Halted
faulted (Ok x) = Ok x
faulted (Err stop) = Err (Some stop)

abbrev pub halted : {A : Type 0} → Bool → Result A Halted → Result A Halted
halted true r = r
halted false (Ok x) = Err None
halted false (Err stop) = Err stop

abbrev pub unless_lent : {A : Type 0} → Bool → What → Result A Halted → Result A Halted
unless_lent lends (AnOwn resource) r = r
unless_lent lends (ABorrow resource) r = halted lends r
unless_lent lends (AnEnd type) r = r

abbrev pub halting : Bool → ℕ → ℕ → Ledger Kept Halted
halting lends at callee = record {
  spend = λ many place k. faulted ((by_types at callee).spend many place k);
  stop = λ fault k. Some ((by_types at callee).stop fault k);
  take = λ u k. unless_lent lends u.what (faulted (world_taken at callee u.what u.index k));
}

-- the same as the machine's, by kinds of ends
abbrev pub unless_borrowed : {A : Type 0} → Bool → machine.What → Result A Halted → Result A Halted
unless_borrowed lends (machine.AnOwn resource) r = r
unless_borrowed lends (machine.ABorrow resource) r = halted lends r
unless_borrowed lends (machine.AnEnd kind element) r = r

abbrev pub halting_world : Bool → ℕ → ℕ → machine.Ledger Kept Halted
halting_world lends at callee = record {
  spend = λ many place k. faulted ((by_types at callee).spend many place k);
  stop = λ fault k. Some ((by_types at callee).stop fault k);
  take = λ u k. unless_borrowed lends u.what (faulted (taken_as at callee u.what u.index k));
}

halts_alike : (lends : Bool) (at callee : ℕ) (a : What) (b : machine.What) (index : ℕ) (k : Kept) → WhatAgrees a b
    → unless_borrowed lends b (faulted (taken_as at callee b index k)) ≡ unless_lent lends a (faulted (world_taken at callee a index k))
halts_alike lends at callee (AnOwn resource) b index k w = ap (λ (c : machine.What). unless_borrowed lends c (faulted (taken_as at callee c index k))) w
halts_alike lends at callee (ABorrow resource) b index k w = ap (λ (c : machine.What). unless_borrowed lends c (faulted (taken_as at callee c index k))) w
halts_alike lends at callee (AnEnd type) b index k (kind, element, is, of) =
    ap (λ (c : machine.What). unless_borrowed lends c (faulted (taken_as at callee c index k))) is
    ∙ ap (λ (r : Result ℕ Refusal). faulted (end_taken at index r k)) (end_same k.world at index kind element type (view_at k.world at index) of)

pub halts_same : (lends : Bool) (at callee : ℕ) → AreSame (halting lends at callee) (halting_world lends at callee)
halts_same lends at callee = record { spend = λ many place k. refl; stop = λ fault k. refl; take = λ a b index place k w. halts_alike lends at callee a b index k w }

-- Beside the one that goes on, it keeps and lifts the same as long as it goes on.
abbrev pub GoesWith : Kept → Result Kept Halted → Type 0
GoesWith k (Ok t) = k ≡ t
GoesWith k (Err None) = Unit {0}
GoesWith k (Err (Some stop)) = ⊥

abbrev pub StopsWith : Stopped → Halted → Type 0
StopsWith stop None = Unit {0}
StopsWith stop (Some other) = stop ≡ other

abbrev pub itself : ℕ → ℕ
itself n = n

module _ (lends : Bool) (at callee : ℕ) where
  spent_with : (r : Result Kept Stopped) → Spent GoesWith StopsWith r (faulted r)
  spent_with (Ok k) = refl
  spent_with (Err stop) = refl

  spent_late : (r : Result Kept Stopped) → Spent GoesWith StopsWith r (Err None)
  spent_late (Ok k) = tt
  spent_late (Err stop) = tt

  abbrev SameNumber : ℕ → ℕ → Type 0
  SameNumber a b = itself a ≡ b

  both_with : (r : Result (ℕ × Kept) Stopped) → Both GoesWith StopsWith SameNumber r (faulted r)
  both_with (Ok x) = (refl, refl)
  both_with (Err stop) = refl

  both_late : (r : Result (ℕ × Kept) Stopped) → Both GoesWith StopsWith SameNumber r (Err None)
  both_late (Ok x) = tt
  both_late (Err stop) = tt

  both_halted : (b : Bool) (r : Result (ℕ × Kept) Stopped) → Both GoesWith StopsWith SameNumber r (halted b (faulted r))
  both_halted true r = both_with r
  both_halted false (Ok x) = tt
  both_halted false (Err stop) = refl

  both_taken : (what : What) (r : Result (ℕ × Kept) Stopped) → Both GoesWith StopsWith SameNumber r (unless_lent lends what (faulted r))
  both_taken (AnOwn resource) r = both_with r
  both_taken (ABorrow resource) r = both_halted lends r
  both_taken (AnEnd type) r = both_with r

  both_reached : (what : What) (index place : ℕ) (r : Result Kept Stopped)
      → Both GoesWith StopsWith SameNumber (counting r (λ k. (by_types at callee).take (record { what = what; index = index; place = place }) k))
      (counting (faulted r) (λ k. (halting lends at callee).take (record { what = what; index = index; place = place }) k))
  both_reached what index place (Ok k) = both_taken what (world_taken at callee what index k)
  both_reached what index place (Err stop) = refl

  with_spends : (many place : ℕ) (k : Kept) (q : Result Kept Halted) → GoesWith k q
      → Spent GoesWith StopsWith ((by_types at callee).spend many place k) (on_with q (λ t. (halting lends at callee).spend many place t))
  with_spends many place k (Ok t) same =
      subst (λ (t : Kept). Spent GoesWith StopsWith ((by_types at callee).spend many place k) (faulted ((by_types at callee).spend many place t))) same
      (spent_with ((by_types at callee).spend many place k))
  with_spends many place k (Err None) same = spent_late ((by_types at callee).spend many place k)
  with_spends many place k (Err (Some stop)) same = absurd same

  with_stops : (fault : LiftTrap) (k : Kept) (q : Result Kept Halted) → GoesWith k q → StopsWith ((by_types at callee).stop fault k) (stop_of (halting lends at callee) fault q)
  with_stops fault k (Ok t) same = ap (λ (t : Kept). (by_types at callee).stop fault t) same
  with_stops fault k (Err None) same = tt
  with_stops fault k (Err (Some stop)) same = absurd same

  with_reaches : (what : What) (index place : ℕ) (k : Kept) (q : Result Kept Halted) → GoesWith k q
      → Both GoesWith StopsWith SameNumber (reached (by_types at callee) what index place k) (counting q (λ t. reached (halting lends at callee) what index place t))
  with_reaches what index place k (Ok t) same =
      subst (λ (t : Kept). Both GoesWith StopsWith SameNumber (reached (by_types at callee) what index place k) (reached (halting lends at callee) what index place t)) same
      (both_reached what index place ((by_types at callee).spend 1 place k))
  with_reaches what index place k (Err None) same = both_late (reached (by_types at callee) what index place k)
  with_reaches what index place k (Err (Some stop)) same = absurd same

  pub halting_beside : AreBeside (by_types at callee) (halting lends at callee) itself GoesWith StopsWith
  halting_beside = record { spends = with_spends; stops = with_stops; reaches = with_reaches }

-- It stops for no fault only where the type holds a borrow.
module _ (B : Type 0) (lends : Bool) (at callee : ℕ) where
  abbrev pub OnlyLent : Halted → Type 0
  OnlyLent None = B
  OnlyLent (Some stop) = Unit {0}

  abbrev Any : Kept → Type 0
  Any k = Unit {0}

  spends_only : (r : Result Kept Stopped) → lifts.Spent Any OnlyLent (faulted r)
  spends_only (Ok k) = tt
  spends_only (Err stop) = tt

  taken_only : (r : Result (ℕ × Kept) Stopped) → lifts.Leaves Any OnlyLent (faulted r)
  taken_only (Ok x) = tt
  taken_only (Err stop) = tt

  halted_only : (b : Bool) (r : Result (ℕ × Kept) Stopped) → B → lifts.Leaves Any OnlyLent (halted b (faulted r))
  halted_only true r used = taken_only r
  halted_only false (Ok x) used = used
  halted_only false (Err stop) used = tt

  takes_only : (what : machine.What) (r : Result (ℕ × Kept) Stopped) → lifts.IsUsed B what → lifts.Leaves Any OnlyLent (unless_borrowed lends what (faulted r))
  takes_only (machine.AnOwn resource) r used = taken_only r
  takes_only (machine.ABorrow resource) r used = halted_only lends r used
  takes_only (machine.AnEnd kind element) r used = taken_only r

  pub load_only : (t : ValType) → (has_borrow t ≡ true → B) → (memory : List ℕ) (place : ℕ) (k : Kept) → lifts.Leaves Any OnlyLent (machine.load_by (halting_world lends at callee) t memory place k)
  load_only t may memory place k =
      lifts.load_uses (halting_world lends at callee) Any OnlyLent B (λ many place k any. spends_only ((by_types at callee).spend many place k)) (λ fault k any. tt)
      (λ u k used any. takes_only u.what (taken_as at callee u.what u.index k) used) t may memory place k tt

  pub load_list_only : (t : ValType) → (has_borrow t ≡ true → B) → (memory : List ℕ) (place count : ℕ) (k : Kept)
      → lifts.Leaves Any OnlyLent (machine.load_list_by (halting_world lends at callee) t memory place count k)
  load_list_only t may memory place count k =
      lifts.load_list_uses (halting_world lends at callee) Any OnlyLent B (λ many place k any. spends_only ((by_types at callee).spend many place k)) (λ fault k any. tt)
      (λ u k used any. takes_only u.what (taken_as at callee u.what u.index k) used) t may memory place count k tt

  pub lift_flat_only : (t : ValType) → (has_borrow t ≡ true → B) → (memory words : List ℕ) (k : Kept)
      → lifts.Leaves Any OnlyLent (machine.lift_flat_by (halting_world lends at callee) t memory words k)
  lift_flat_only t may memory words k =
      lifts.lift_flat_uses (halting_world lends at callee) Any OnlyLent B (λ many place k any. spends_only ((by_types at callee).spend many place k)) (λ fault k any. tt)
      (λ u k used any. takes_only u.what (taken_as at callee u.what u.index k) used) t may memory words k tt
