-- No task waits for a copy that is told to another one, by what held at the start of a turn.
use Rattle.std.proofs.Common.{◌≡◌, inl, inr, ℕ, ◌&&◌, true, false, nat_eq, List, refl, sym, ap, ◌∙◌, subst, Option, Some, None}
use Rattle.stream_ends.specs.declared.open_copy.OpenCopy.{OpenCopy}
use Rattle.stream_ends.specs.declared.stream_end.End.{End}
use Rattle.builtin_kinds.specs.declared.EndKind.{EndKind}
use Rattle.builtin_kinds.specs.declared.EndKind.TheVariants.{Stream, Future}
use Rattle.comp_graph.specs.Graph.{Graph, Lifted}
use Rattle.abi_machine.specs.Control.{EndRef}
use Rattle.abi_machine.specs.World.{Entry, OwnHandle, BorrowHandle, OfSubtask, OfSet, OfEnd, Inst, ForCopy, Acting, InBuiltin, Task, Channel, World}
use Rattle.abi_machine.specs.Edits.{in_state, with_channel, offered_by, offered}
use Rattle.abi_machine.specs.Canons.{options_at}
use Rattle.abi_machine.specs.Reading.{entry_at, func_of, is_in, runs_in}
use Rattle.abi_machine.specs.Counting.{passes, end_of, waits_at, is_waited_for}
use Rattle.abi_machine.specs.Finding.{any_end_in, found_end}
use Rattle.abi_machine.specs.Copying.{AtOnce, Stands, met_by, task_by}
use Rattle.abi_machine.specs.replies.Streams.{is_async_copy}
use Rattle.abi_machine.specs.sound.EndPlaces.{EndStandsAt, channel_in}
use Rattle.abi_machine.specs.sound.CopyWaits.{IsUnderWay, AwaitsCopy}
use Rattle.abi_machine.specs.sound.Acting.{Outline, outline_of}
use Rattle.abi_machine.specs.sound.Owners.{owner_of_canon}
use Rattle.abi_machine.proofs.sound.Found.{some_same}
use Rattle.abi_machine.proofs.sound.Chained.{changed_apart}
use Rattle.abi_machine.proofs.sound.Outlines.{outline_there, Is, is_what}
use Rattle.abi_machine.proofs.sound.Copied.{end_there}
use Rattle.abi_machine.proofs.sound.acts.Keeping.{IsIn}
use Rattle.abi_machine.proofs.sound.OpenStay.{stands_offered, at_once_leaves, channel_now}
use Rattle.abi_machine.proofs.sound.known.Unawaited.{acts_again, in_this_state}
use Rattle.abi_machine.proofs.sound.known.Asking.{any_passes, both_true, equal_self, none_both}
use Rattle.abi_machine.proofs.sound.known.Copying.{NoneAwaits, BlocksCopying, CopyFacts}

-- ends that stand at one index are one
one_end : (a b : EndRef) → OfEnd a ≡ OfEnd b → a ≡ b
one_end a b e = ap end_in e
  where
    end_in : Entry → EndRef
    end_in (OfEnd x) = x
    end_in entry = a

-- the copy under way at an end
copy_at : (w : World) (e : EndRef) (copy : OpenCopy) → IsUnderWay w.streams w.futures e copy → (end_of w e).copy ≡ Some copy
copy_at w e copy under = ap (λ (x : End). x.copy) (end_there w e under.0 under.1) ∙ under.2

-- of a task that waits for it
pub awaited_at : (g : Graph) (w : World) (t number index i : ℕ) (e : EndRef) (a : AwaitsCopy g w.insts w.streams w.futures t number index i) → EndStandsAt w.insts i index e → (end_of w e).copy ≡ Some a.copy
awaited_at g w t number index i e a at =
    let same : a.end ≡ e = one_end a.end e (some_same (sym a.stands ∙ at)) in
    subst (λ (x : EndRef). (end_of w x).copy ≡ Some a.copy) same (copy_at w a.end a.copy a.under)

runs_there : (i : ℕ) (o : Option Lifted) (f : Lifted) → o ≡ Some f → f.instance ≡ i → is_in i o ≡ true
runs_there i o f e at = ap (is_in i) e ∙ (ap (λ (n : ℕ). nat_eq n i) at ∙ equal_self i)

-- An event of a member that no task waits for directly.
pub member_alone : (g : Graph) (w : World) (i index : ℕ) (e : EndRef) → CopyFacts g w → entry_at w i index ≡ Some (OfEnd e) → is_waited_for w i index ≡ false → NoneAwaits w e
member_alone g w i index e facts here unwaited u number other x f there runs waits at =
    let place = facts.once f.instance other i index e at here in
    let is : runs_in i x ≡ true = runs_there i (func_of x.callee) f runs place.0 in
    let waited : waits_at index x.state ≡ true = ap (waits_at index) waits.1 ∙ (ap (λ (n : ℕ). nat_eq n index) place.1 ∙ equal_self index) in
    none_both (is_waited_for w i index) ⊥ (any_passes (λ task. runs_in i task && waits_at index task.state) w.tasks u x there (both_true (runs_in i x) (waits_at index x.state) is waited)) unwaited

-- The copy of a call that does not wait.
pub cancel_alone : (g : Graph) (w : World) (e : EndRef) → CopyFacts g w → passes (is_async_copy g) (end_of w e).copy ≡ true → NoneAwaits w e
cancel_alone g w e facts async u number index x f there runs waits at =
    let a : AwaitsCopy g w.insts w.streams w.futures u number index f.instance = facts.awaits u number index x f there runs waits in
    let is : passes (is_async_copy g) (Some a.copy) ≡ true = ap (passes (is_async_copy g)) (sym (awaited_at g w u number index f.instance e a at)) ∙ async in
    none_both (options_at g number).is_async ⊥ (ap (λ (n : ℕ). (options_at g n).is_async) (sym a.of_canon) ∙ is) a.waits

-- The copy for which a task waited that goes on.
pub found_there : (w : World) (i index : ℕ) (e : EndRef) → found_end w i index ≡ Some e → entry_at w i index ≡ Some (OfEnd e)
found_there w i index e h = by (entry_at w i index) refl h
  where
    by : (o : Option Entry) → entry_at w i index ≡ o → any_end_in o ≡ Some e → entry_at w i index ≡ Some (OfEnd e)
    by None k l = cc
    by (Some (OwnHandle resource rep)) k l = cc
    by (Some (BorrowHandle resource rep task)) k l = cc
    by (Some (OfSubtask callee)) k l = cc
    by (Some (OfSet set)) k l = cc
    by (Some (OfEnd x)) k l = k ∙ ap (λ (y : EndRef). Some (OfEnd y)) (some_same l)

pub again_alone : (g : Graph) (w : World) (t number : ℕ) (words : List ℕ) (index : ℕ) (f : Lifted) (e : EndRef) → CopyFacts g w → Is (IsIn (InBuiltin number words (ForCopy index))) t w
    → Is (λ (o : Outline). func_of o.callee ≡ Some f) t w → found_end w f.instance index ≡ Some e → NoneAwaits (in_state t Acting w) e
again_alone g w t number words index f e facts a mine found u other place x l there runs waits at = elim (changed_apart t acts_again w.tasks u x there) [
  | inl o ↦ (let clash : Acting ≡ InBuiltin other waits.0 (ForCopy place) = sym (ap (λ (z : Task). z.state) o.1.2) ∙ waits.1 in cc)
  | inr old ↦ (
      let y = in_this_state w t (InBuiltin number words (ForCopy index)) a in
      let own : func_of y.0.callee ≡ Some f = is_what (λ (o : Outline). func_of o.callee ≡ Some f) t w (outline_of y.0) mine (outline_there w.tasks t y.0 y.1) in
      let b : AwaitsCopy g w.insts w.streams w.futures t number index f.instance = facts.awaits t number index y.0 f y.1 own (words, y.2) in
      let c : AwaitsCopy g w.insts w.streams w.futures u other place l.instance = facts.awaits u other place x l old.1 runs waits in
      let same : b.copy ≡ c.copy = some_same (sym (awaited_at g w t number index f.instance e b (found_there w f.instance index e found)) ∙ awaited_at g w u other place l.instance e c at) in
      old.0 (sym b.of_task ∙ (ap (λ (z : OpenCopy). task_by z.by) same ∙ c.of_task))
      )
]

-- A call that is answered at once leaves no copy at its end.
pub over_at_once : (e : EndRef) (call : OpenCopy) (c : Channel) (w : World) → (end_of w e).copy ≡ None → channel_in e.kind e.number w.streams w.futures ≡ Some c
    → (payload : ℕ) → met_by e.kind e.side call c.ends.view ≡ AtOnce payload → (end_of (offered e call w) e).copy ≡ None
over_at_once e call c w quiet there payload met =
    let f : Channel → Channel = λ x. record x { ends = offered_by e.kind e.side call x.ends } in
    ap (λ (x : End). x.copy) (end_there (offered e call w) e (f c) (channel_now e.kind e.number f w c there))
    ∙ (at_once_leaves e.kind e.side call c.ends payload met ∙ (ap (λ (x : End). x.copy) (sym (end_there w e c there)) ∙ quiet))

-- A call that stands is what its task blocks for.

offered_insts : (e : EndRef) (call : OpenCopy) (w : World) → (offered e call w).insts ≡ w.insts
offered_insts e call w = by e.kind
  where
    by : (k : EndKind) → (with_channel k e.number (λ c. record c { ends = offered_by e.kind e.side call c.ends }) w).insts ≡ w.insts
    by Stream = refl
    by Future = refl

pub blocks_copying : (g : Graph) (w : World) (t i index : ℕ) (words : List ℕ) (e : EndRef) (call : OpenCopy) (c : Channel) → owner_of_canon g call.canon ≡ Some i → entry_at w i index ≡ Some (OfEnd e)
    → channel_in e.kind e.number w.streams w.futures ≡ Some c → met_by e.kind e.side call c.ends.view ≡ Stands → task_by call.by ≡ t → (options_at g call.canon).is_async ≡ false
    → BlocksCopying g t (InBuiltin call.canon words (ForCopy index)) (offered e call w)
blocks_copying g w t i index words e call c own here there stands of_task sync = (
  i,
  own,
  record {
    end = e;
    copy = call;
    stands = subst (λ (insts : List Inst). EndStandsAt insts i index e) (sym (offered_insts e call w)) here;
    under = (
      record c { ends = offered_by e.kind e.side call c.ends },
      channel_now e.kind e.number (λ x. record x { ends = offered_by e.kind e.side call x.ends }) w c there,
      stands_offered e.kind e.side call c.ends stands,
    );
    of_task = of_task;
    of_canon = refl;
    waits = sync;
  },
)
