-- What is lifted: the readable ends in it stood in tables, and stand in none any more; what stands stood before.
use Rattle.std.proofs.Common.{◌≡◌, inl, inr, ℕ, zero, suc, Bool, true, false, nat_eq, List, [], ◌∷◌, ◌++◌, refl, sym, ap, ◌∙◌, subst, arith, Option, Some, None, Result, Ok, Err, if◌then◌else◌}
use Rattle.std.proofs.lemmas.Bool.Decides.{nat_tests}
use Rattle.std.specs.Option.{option_map}
use Rattle.handle_table.specs.History.{Remove, live}
use Rattle.syntax_trees.specs.declared.types.ValType.{ValType}
use Rattle.builtin_kinds.specs.declared.EndKind.{EndKind}
use Rattle.res_handles.specs.declared.handle.Handle.{Handle}
use Rattle.res_handles.specs.declared.refusal.Refusal.{Refusal}
use Rattle.res_handles.specs.declared.readable_end.ReadableEnd.{ReadableEnd}
use Rattle.res_handles.specs.declared.refusal.Refusal.TheVariants.{NotIdle}
use Rattle.res_handles.specs.Ends as readable_ends
use Rattle.res_handles.specs.Refusals.{handle_in, own_in}
use Rattle.stream_ends.specs.declared.side.Side.{Side}
use Rattle.stream_ends.specs.declared.side.Side.TheVariants.{Reader, Writer}
use Rattle.stream_ends.specs.Ends.{is_idle}
use Rattle.waitables.specs.Sets as sets
use Rattle.abi_machine.specs.SameTypes.{same_held}
use Rattle.abi_machine.specs.LiftingOver.{What, AnOwn, ABorrow, AnEnd}
use Rattle.abi_machine.specs.Control.{EndRef}
use Rattle.abi_machine.specs.World.{Entry, OwnHandle, BorrowHandle, OfSubtask, OfSet, OfEnd, Inst, Subtask, Caller, Nobody, Host, Guest, Task, Channel, World}
use Rattle.abi_machine.specs.Edits.{changed_at, by_views, entry_removed, left_set, lent, caller_changed}
use Rattle.abi_machine.specs.Reading.{table_in, entry_at, channel_at}
use Rattle.abi_machine.specs.Counting.{passes, entry_view, view_at, end_of, end_view}
use Rattle.abi_machine.specs.Finding.{is_end_of}
use Rattle.abi_machine.specs.Lifting.{Kept, Came, own_taken, borrow_taken, end_taken, taken_as}
use Rattle.abi_machine.specs.Lifting as lifting
use Rattle.abi_machine.specs.sound.EndPlaces.{EndStandsAt, EndStandsNowhere, WritersStand}
use Rattle.abi_machine.specs.sound.EndsPassed.{readable, AreApart, EndStands, IsOnTheWay, ReadersStand, PassesNoEnd, HostPassesNoEnd, ReadersPass}
use Rattle.abi_machine.proofs.sound.Found.{ok_same}
use Rattle.abi_machine.proofs.sound.OnePlace.{table_back, none_same, remove_none, AddsNone}
use Rattle.abi_machine.proofs.sound.Takeable.{same_kind_is}
use Rattle.abi_machine.proofs.sound.ends.Apart.{apart_as, apart_both, besides_other}

-- The ends stood in the first world, and are on their way in the second.
abbrev pub IsBrought : World → World → EndRef → Type 0
IsBrought w v e = EndStands w.insts e × IsOnTheWay v.insts v.streams v.futures e

pub record Brings (w : World) (ends : List EndRef) (v : World) : Type 0 where
  pub streams : v.streams ≡ w.streams
  pub futures : v.futures ≡ w.futures
  pub hosts : HostPassesNoEnd v.tasks → HostPassesNoEnd w.tasks
  pub back : (i index : ℕ) (e : EndRef) → EndStandsAt v.insts i index e → EndStandsAt w.insts i index e
  pub brought : ReadersStand w.insts w.streams w.futures → AreApart ends (IsBrought w v) × ReadersStand v.insts v.streams v.futures

pub nothing_brought : (w : World) → Brings w [] w
nothing_brought w = record { streams = refl; futures = refl; hosts = λ none. none; back = λ i index e there. there; brought = λ h. (tt, h) }

-- One behind the other.

brought_on : (w u v : World) (xs ys : List EndRef) → Brings w xs u → Brings u ys v → (e : EndRef) → IsBrought w u e → IsBrought w v e
brought_on w u v xs ys a b e h = (
  h.0,
  subst (λ (all : List Channel). IsOnTheWay v.insts all v.futures e) (sym b.streams)
      (subst (λ (all : List Channel). IsOnTheWay v.insts u.streams all e) (sym b.futures) (h.1.0, λ i index there. h.1.1 i index (b.back i index e there))),
)

brought_before : (w u v : World) (xs : List EndRef) → Brings w xs u → (e : EndRef) → IsBrought u v e → IsBrought w v e
brought_before w u v xs a e h = ((h.0.0, h.0.1, a.back h.0.0 h.0.1 e h.0.2), h.1)

-- an end that still stood is none of those that stand no more
no_two : (w u v : World) (e x : EndRef) → IsBrought u v e → IsBrought w u x → e ≡ x → ⊥
no_two w u v e x h k same = k.1.1 h.0.0 h.0.1 (subst (EndStandsAt u.insts h.0.0 h.0.1) same h.0.2)

pub then_brought : (w u v : World) (xs ys : List EndRef) → Brings w xs u → Brings u ys v → Brings w (xs ++ ys) v
then_brought w u v xs ys a b = record {
  streams = b.streams ∙ a.streams;
  futures = b.futures ∙ a.futures;
  hosts = λ none. a.hosts (b.hosts none);
  back = λ i index e there. a.back i index e (b.back i index e there);
  brought = λ h.
      let first = a.brought h in
      let second = b.brought first.1 in (
        apart_both xs ys (IsBrought w v) (apart_as xs (IsBrought w u) (IsBrought w v) (λ e k. brought_on w u v xs ys a b e k) first.0)
            (apart_as ys (IsBrought u v) _ (λ e k. besides_other xs (IsBrought w v) (IsBrought w u) first.0 e (brought_before w u v xs a e k) (λ x q. no_two w u v e x k q)) second.0),
        second.1,
      );
}

-- Tables from which something is removed, and sets that are left.

pub stand_less : (insts others : List Inst) (streams futures : List Channel) → ((i index : ℕ) (e : EndRef) → EndStandsAt others i index e → EndStandsAt insts i index e) → ReadersStand insts streams futures
    → ReadersStand others streams futures
stand_less insts others streams futures back h = record {
  once = λ i index j other e side a b. h.once i index j other e side (back i index e a) (back j other e b);
  live = λ i index e side a. h.live i index e side (back i index e a);
}

pub none_back : (insts : List Inst) (i : ℕ) (f : Inst → Inst) → AddsNone f → (j index : ℕ) (e : EndRef) → EndStandsAt (changed_at i f insts) j index e → EndStandsAt insts j index e
none_back insts i f none j index e there = elim (table_back insts i f j index (OfEnd e) there) [
  | inl new ↦ subst (λ (o : Option Inst). live (table_in o) index ≡ Some (OfEnd e)) (sym new.1.1) (none new.1.0 index (OfEnd e) new.1.2)
  | inr old ↦ old
]

removed_back : (i gone : ℕ) (w : World) (j index : ℕ) (e : EndRef) → EndStandsAt (entry_removed i gone w).insts j index e → EndStandsAt w.insts j index e
removed_back i gone w j index e there = none_back w.insts i (λ inst. record inst { table = Remove gone ∷ inst.table }) (remove_none gone) j index e there

left_back : (i gone : ℕ) (w : World) (j index : ℕ) (e : EndRef) → EndStandsAt (left_set i gone w).insts j index e → EndStandsAt w.insts j index e
left_back i gone w j index e there = none_back w.insts i leaves (none_same leaves (λ x. refl)) j index e there
  where
    leaves : Inst → Inst
    leaves inst = record inst { sets = by_views (sets.left gone) inst.sets }

pub handle_brought : (i index : ℕ) (w : World) → Brings w [] (entry_removed i index w)
handle_brought i index w = record {
  streams = refl;
  futures = refl;
  hosts = λ none. none;
  back = removed_back i index w;
  brought = λ h. (tt, stand_less w.insts (entry_removed i index w).insts w.streams w.futures (removed_back i index w) h);
}

-- Callers' sides of calls are changed.

guest_before : (f : Subtask → Subtask) (c : Caller) → PassesNoEnd (caller_changed f c) → PassesNoEnd c
guest_before f Nobody h = tt
guest_before f (Host call values) h = h
guest_before f (Guest subtask) h = tt

pub hosts_before : (t : ℕ) (f : Task → Task) (tasks : List Task) → ((x : Task) → PassesNoEnd (f x).caller → PassesNoEnd x.caller) → HostPassesNoEnd (changed_at t f tasks) → HostPassesNoEnd tasks
hosts_before t f [] keeps h = tt
hosts_before zero f (x ∷ tasks) keeps h = (keeps x h.0, h.1)
hosts_before (suc t) f (x ∷ tasks) keeps h = (h.0, hosts_before t f tasks keeps h.1)

pub hosts_caller : (t : ℕ) (f : Subtask → Subtask) (tasks : List Task) → HostPassesNoEnd (changed_at t (λ task. record task { caller = caller_changed f task.caller }) tasks) → HostPassesNoEnd tasks
hosts_caller t f tasks h = hosts_before t (λ task. record task { caller = caller_changed f task.caller }) tasks (λ x k. guest_before f x.caller k) h

pub lent_brought : (callee index : ℕ) (w : World) → Brings w [] (lent callee index w)
lent_brought callee index w = record {
  streams = refl;
  futures = refl;
  hosts = hosts_caller callee _ w.tasks;
  back = λ i index e there. there;
  brought = λ h. (tt, h);
}

-- An end that is taken.

kind_is : (w : World) (kind : EndKind) (element : Option ValType) (r : EndRef) (x : ReadableEnd) (n : ℕ) → readable_ends.end_of (is_end_of w kind element (Some (OfEnd r))) x ≡ Ok n → r.kind ≡ kind
kind_is w kind element r x n e = same_kind_is r.kind kind (passes (λ c. same_held c.element element) (channel_at w r.kind r.number)) (typed _ e)
  where
    typed : (b : Bool) → readable_ends.end_of b x ≡ Ok n → b ≡ true
    typed true e = refl
    typed false e = cc

number_is : (of_type : Bool) (x : ReadableEnd) (n : ℕ) → readable_ends.end_of of_type x ≡ Ok n → x.number ≡ n
number_is false x n e = cc
number_is true x n e = by x.is_idle e
  where
    by : (idle : Bool) → (let r : Result ℕ Refusal = if idle then Ok x.number else Err NotIdle in r) ≡ Ok n → x.number ≡ n
    by true k = ok_same k
    by false k = cc

-- it is the readable end of its number
pub lifted_is : (w : World) (i index : ℕ) (kind : EndKind) (element : Option ValType) (n : ℕ) → lifting.end_seen (view_at w i index) kind element w i index ≡ Ok n
    → entry_at w i index ≡ Some (OfEnd (readable kind n))
lifted_is w i index kind element n h = by (entry_at w i index) refl h
  where
    as_readable : (r : EndRef) (side : Side) → r.side ≡ side → entry_at w i index ≡ Some (OfEnd r) → lifting.end_seen (Some (end_view w r side)) kind element w i index ≡ Ok n
        → entry_at w i index ≡ Some (OfEnd (readable kind n))
    as_readable r Writer is there k = cc
    as_readable r Reader is there k =
        let x : ReadableEnd = record { number = r.number; is_idle = is_idle (end_of w r) } in
        let typed : readable_ends.end_of (is_end_of w kind element (Some (OfEnd r))) x ≡ Ok n = subst (λ (o : Option Entry). readable_ends.end_of (is_end_of w kind element o) x ≡ Ok n) there k in
        there ∙ ap (λ (e : EndRef). Some (OfEnd e))
        (ap (λ (s : Side). (let e : EndRef = record { kind = r.kind; number = r.number; side = s } in e)) is
        ∙ ap (λ (number : ℕ). (let e : EndRef = record { kind = r.kind; number = number; side = Reader } in e)) (number_is (is_end_of w kind element (Some (OfEnd r))) x n typed)
        ∙ ap (λ (k : EndKind). readable k n) (kind_is w kind element r x n typed))

    by : (o : Option Entry) → entry_at w i index ≡ o → lifting.end_seen (option_map (entry_view w i index) o) kind element w i index ≡ Ok n → entry_at w i index ≡ Some (OfEnd (readable kind n))
    by None e k = cc
    by (Some (OwnHandle of_type rep)) e k = cc
    by (Some (BorrowHandle of_type rep task)) e k = cc
    by (Some (OfSubtask callee)) e k = cc
    by (Some (OfSet set)) e k = cc
    by (Some (OfEnd r)) e k = as_readable r r.side refl e k

-- and stands nowhere behind it
removed_none : (i gone : ℕ) (insts : List Inst) (e : EndRef) → EndStandsAt (changed_at i (λ inst. record inst { table = Remove gone ∷ inst.table }) insts) i gone e → ⊥
removed_none i gone [] e h = (let clash : None ≡ Some (OfEnd e) = h in cc)
removed_none zero gone (x ∷ insts) e h = by (nat_eq gone gone) same h
  where
    same : nat_eq gone gone ≡ true
    same = grind (arith, nat_tests)

    by : (b : Bool) → b ≡ true → (if b then None else live x.table gone) ≡ Some (OfEnd e) → ⊥
    by true f k = cc
    by false f k = cc
removed_none (suc i) gone (x ∷ insts) e h = removed_none i gone insts e h

pub removed_nowhere : (i index : ℕ) (e : EndRef) (w : World) → ((j other : ℕ) → EndStandsAt w.insts j other e → (j ≡ i) × (other ≡ index))
    → EndStandsNowhere (left_set i index (entry_removed i index w)).insts e
removed_nowhere i index e w once j other k =
    let there : EndStandsAt (entry_removed i index w).insts j other e = left_back i index (entry_removed i index w) j other e k in
    let place = once j other (removed_back i index w j other e there) in
    removed_none i index w.insts e
    (subst (λ (m : ℕ). EndStandsAt (entry_removed i index w).insts i m e) place.1 (subst (λ (m : ℕ). EndStandsAt (entry_removed i index w).insts m other e) place.0 there))

-- Each end stands in one place, where both the readable and the writable ones do.
pub both_once : (insts : List Inst) (streams futures : List Channel) → WritersStand insts streams futures → ReadersStand insts streams futures → (i index j other : ℕ) (e : EndRef)
    → EndStandsAt insts i index e → EndStandsAt insts j other e → (i ≡ j) × (index ≡ other)
both_once insts streams futures writers readers i index j other e a b = by e.side refl
  where
    by : (s : Side) → e.side ≡ s → (i ≡ j) × (index ≡ other)
    by Reader is = readers.once i index j other e is a b
    by Writer is = writers.once i index j other e is a b

pub end_brought : (i index : ℕ) (kind : EndKind) (n : ℕ) (w : World) → entry_at w i index ≡ Some (OfEnd (readable kind n)) → Brings w (readable kind n ∷ []) (left_set i index (entry_removed i index w))
end_brought i index kind n w there = record {
  streams = refl;
  futures = refl;
  hosts = λ none. none;
  back = back;
  brought = λ h. ((((i, index, there), (h.live i index (readable kind n) refl there, removed_nowhere i index (readable kind n) w (λ j other a. h.once j other i index (readable kind n) refl a there))), tt), stand_less w.insts v.insts w.streams w.futures back h);
}
  where
    v : World
    v = left_set i index (entry_removed i index w)

    back : (j other : ℕ) (e : EndRef) → EndStandsAt v.insts j other e → EndStandsAt w.insts j other e
    back j other e h = removed_back i index w j other e (left_back i index (entry_removed i index w) j other e h)

-- What an index that is used brings.

abbrev pub BringsSo : {A : Type 0} → World → (A → List EndRef) → Came A → Type 0
BringsSo w ends (Ok x) = Brings w (ends x.0) x.1.world
BringsSo w ends (Err stop) = Unit {0}

abbrev pub ends_named : What → ℕ → List EndRef
ends_named (AnOwn resource) n = []
ends_named (ABorrow resource) n = []
ends_named (AnEnd kind element) n = readable kind n ∷ []

own_brings : (i index : ℕ) (r : Result Handle Refusal) (k : Kept) → BringsSo k.world (λ n. []) (own_taken i index r k)
own_brings i index (Ok x) k = handle_brought i index k.world
own_brings i index (Err why) k = tt

borrow_brings : (i callee index : ℕ) (r : Result Handle Refusal) (k : Kept) → BringsSo k.world (λ n. []) (borrow_taken i callee index r k)
borrow_brings i callee index (Ok x) k = lent_brought callee index k.world
borrow_brings i callee index (Err why) k = tt

end_brings : (i index : ℕ) (kind : EndKind) (r : Result ℕ Refusal) (k : Kept) → ((n : ℕ) → r ≡ Ok n → entry_at k.world i index ≡ Some (OfEnd (readable kind n)))
    → BringsSo k.world (λ n. readable kind n ∷ []) (end_taken i index r k)
end_brings i index kind (Ok n) k there = end_brought i index kind n k.world (there n refl)
end_brings i index kind (Err why) k there = tt

pub taken_brings : (i callee : ℕ) (what : What) (index : ℕ) (k : Kept) → BringsSo k.world (ends_named what) (taken_as i callee what index k)
taken_brings i callee (AnOwn resource) index k = own_brings i index (own_in (view_at k.world i index) resource) k
taken_brings i callee (ABorrow resource) index k = borrow_brings i callee index (handle_in (view_at k.world i index) resource) k
taken_brings i callee (AnEnd kind element) index k =
    end_brings i index kind (lifting.end_seen (view_at k.world i index) kind element k.world i index) k (λ n e. lifted_is k.world i index kind element n e)

-- What was lifted is on its way, where the script passes no end.
pub came_passes : {A : Type 0} (w : World) (ends : A → List EndRef) (came : Came A) (x : A) (k : Kept) → BringsSo w ends came → came ≡ Ok (x, k) → ReadersPass w → HostPassesNoEnd k.world.tasks
    → AreApart (ends x) (IsOnTheWay k.world.insts k.world.streams k.world.futures)
came_passes {A} w ends came x k brings comes h none =
    let b : Brings w (ends x) k.world = subst (λ (c : Came A). BringsSo w ends c) comes brings in
    apart_as (ends x) (IsBrought w k.world) (IsOnTheWay k.world.insts k.world.streams k.world.futures) (λ e o. o.1) (b.brought (h (b.hosts none))).0
