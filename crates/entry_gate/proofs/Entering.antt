-- Runs of tasks at an instance.
use Rattle.std.proofs.Common.{◌≡◌, ℕ, ◌+◌, ◌≤◌, ap, refl, ◌∙◌, arith, Bool, true, false, not, ◌&&◌, ◌||◌, nat_eq, is_none, IsTrue, List, [], ◌∷◌, Option, None, inl, inr}
use Rattle.std.proofs.lemmas.Bool.Decides.{eqb_tells}
use Rattle.std.specs.List.{count_by}
use Rattle.entry_gate.specs.declared.kind.Kind.{Kind}
use Rattle.entry_gate.specs.Kinds.{needs_entry}
use Rattle.entry_gate.specs.Gates.{GateView, is_open, may_enter}
use Rattle.entry_gate.specs.Stays.{Outside, Stay, Instance, is_inside, holds, is_of, holder_of, StandsFor}
use Rattle.entry_gate.specs.Runs.{Act, Comes, BeginsToWait, Withdraws, GoesIn, Leaves, Pauses, TakesBack, from_of, to_of, gate_of, lets, Happens, Event, Does, Makes, Presses, Made, Run}
use Rattle.entry_gate.proofs.Changes.{one_if, stay_at, counted, none_holds, free_none, not_inside}

-- the parts of a test
and_first : (a b : Bool) → IsTrue (a && b) → IsTrue a
and_first true b h = refl
and_first false b h = cc

and_last : (a b : Bool) → IsTrue (a && b) → IsTrue b
and_last true b h = h
and_last false b h = cc

pub may_open : (kind : Kind) (newcomer : Bool) (gate : GateView) → IsTrue (may_enter kind newcomer gate) → IsTrue (is_open kind gate)
may_open kind newcomer gate h =
    and_last (nat_eq gate.pressure 0) (is_open kind gate) (and_first (nat_eq gate.pressure 0 && is_open kind gate) (not newcomer || nat_eq gate.waiting 0) h)

-- who comes to a place inside finds the gate open
lets_open : (act : Act) (kind : Kind) (gate : GateView) → is_inside (to_of act) ≡ true → IsTrue (lets act kind gate) → IsTrue (is_open kind gate)
lets_open Comes kind gate i h = may_open kind true gate h
lets_open BeginsToWait kind gate i h = cc
lets_open Withdraws kind gate i h = cc
lets_open GoesIn kind gate i h = may_open kind false gate h
lets_open Leaves kind gate i h = cc
lets_open Pauses kind gate i h = cc
lets_open TakesBack kind gate i h = h

open_free : (b : Bool) (o : Option ℕ) → b ≡ true → IsTrue (not b || is_none o) → o ≡ None
open_free true o e h = free_none o h
open_free false o e h = cc

pub exclusive : (act : Act) (old new : Instance) → is_inside (to_of act) ≡ true → (h : Happens act old new) → needs_entry h.kind ≡ true → count_by holds old.stays ≡ 0
exclusive act old new i h k =
    none_holds old.stays (open_free (needs_entry h.kind) (holder_of old.stays) k (lets_open act h.kind (gate_of old) i h.may))

-- the counts before and after an act
count_was : (p : Stay → Bool) (act : Act) (old new : Instance) (h : Happens act old new) → count_by p old.stays ≡ count_by p h.before + (one_if (p (stay_at h.task h.kind (from_of act))) + count_by p h.after)
count_was p act old new h =
    ap (λ (i : Instance). count_by p i.stays) h.was ∙ counted p h.before h.after (stay_at h.task h.kind (from_of act))

count_now : (p : Stay → Bool) (act : Act) (old new : Instance) (h : Happens act old new) → count_by p new.stays ≡ count_by p h.before + (one_if (p (stay_at h.task h.kind (to_of act))) + count_by p h.after)
count_now p act old new h =
    ap (λ (i : Instance). count_by p i.stays) h.now ∙ counted p h.before h.after (stay_at h.task h.kind (to_of act))

one_more : (k i : Bool) (n m : ℕ) → n ≤ 1 → (i ≡ true → k ≡ true → n ≡ 0) → m ≡ one_if (k && i) + n → m ≤ 1
one_more true true n m l h w = let none : n ≡ 0 = h refl refl in omega arith
one_more true false n m l h w = omega arith
one_more false i n m l h w = omega arith

still_one : (act : Act) (old new : Instance) → Happens act old new → count_by holds old.stays ≤ 1 → count_by holds new.stays ≤ 1
still_one act old new h l =
    let was : count_by holds old.stays ≡ count_by holds h.before + (one_if (holds (stay_at h.task h.kind (from_of act))) + count_by holds h.after) = count_was holds act old new h in
    let now : count_by holds new.stays ≡ count_by holds h.before + (one_if (holds (stay_at h.task h.kind (to_of act))) + count_by holds h.after) = count_now holds act old new h in
    one_more (needs_entry h.kind) (is_inside (to_of act)) (count_by holds h.before + count_by holds h.after) (count_by holds new.stays)
    (omega arith)
    (λ i k. let none : count_by holds old.stays ≡ 0 = exclusive act old new i h k in omega arith)
    (omega arith)

still_once : (act : Act) (old new : Instance) → Happens act old new → (t : ℕ) → count_by (is_of t) old.stays ≤ 1 → count_by (is_of t) new.stays ≤ 1
still_once act old new h t l = omega (arith, l, count_was (is_of t) act old new h, count_now (is_of t) act old new h)

-- a task that is made
made_count : (p : Stay → Bool) (task : ℕ) (kind : Kind) (old new : Instance) → Made task kind old new → count_by p new.stays ≡ count_by p old.stays + (one_if (p (stay_at task kind Outside)) + 0)
made_count p task kind old new h = ap (λ (i : Instance). count_by p i.stays) h.now ∙ counted p old.stays [] (stay_at task kind Outside)

made_one : (task : ℕ) (kind : Kind) (old new : Instance) → Made task kind old new → count_by holds old.stays ≤ 1 → count_by holds new.stays ≤ 1
made_one task kind old new h l = omega (arith, l, ap one_if (not_inside kind), made_count holds task kind old new h)

made_once_by : (t task n m : ℕ) → n ≤ 1 → (t ≡ task → n ≡ 0) → m ≡ n + (one_if (nat_eq t task) + 0) → m ≤ 1
made_once_by t task n m l h w = elim (eqb_tells t task) [ inl same ↦ (let none : n ≡ 0 = h same.1 in omega (arith, l, w, ap one_if same.0)) | inr other ↦ omega (arith, l, w, ap one_if other.0) ]

made_once : (task : ℕ) (kind : Kind) (old new : Instance) → Made task kind old new → (t : ℕ) → count_by (is_of t) old.stays ≤ 1 → count_by (is_of t) new.stays ≤ 1
made_once task kind old new h t l =
    made_once_by t task (count_by (is_of t) old.stays) (count_by (is_of t) new.stays) l (λ e. ap (λ (k : ℕ). count_by (is_of k) old.stays) e ∙ h.first) (made_count (is_of t) task kind old new h)

-- every run
one_holds : (events : List Event) (i : Instance) → Run events i → count_by holds i.stays ≤ 1
one_holds [] i h = let none : count_by holds i.stays ≡ 0 = ap (λ (x : Instance). count_by holds x.stays) h in omega arith
one_holds (Does act ∷ events) i h = still_one act h.0 i h.2 (one_holds events h.0 h.1)
one_holds (Makes task kind ∷ events) i h = made_one task kind h.0 i h.2 (one_holds events h.0 h.1)
one_holds (Presses pressure ∷ events) i h =
    let same : count_by holds i.stays ≡ count_by holds (h.0).stays = ap (λ (x : Instance). count_by holds x.stays) h.2 in
    omega (arith, same, one_holds events h.0 h.1)

each_once : (events : List Event) (i : Instance) → Run events i → (t : ℕ) → count_by (is_of t) i.stays ≤ 1
each_once [] i h t = let none : count_by (is_of t) i.stays ≡ 0 = ap (λ (x : Instance). count_by (is_of t) x.stays) h in omega arith
each_once (Does act ∷ events) i h t = still_once act h.0 i h.2 t (each_once events h.0 h.1 t)
each_once (Makes task kind ∷ events) i h t = made_once task kind h.0 i h.2 t (each_once events h.0 h.1 t)
each_once (Presses pressure ∷ events) i h t =
    let same : count_by (is_of t) i.stays ≡ count_by (is_of t) (h.0).stays = ap (λ (x : Instance). count_by (is_of t) x.stays) h.2 in
    omega (arith, same, each_once events h.0 h.1 t)

pub has_gate : (events : List Event) (i : Instance) → Run events i → StandsFor i (gate_of i)
has_gate events i h = record { pressure = refl; holder = refl; waiting = refl; one_holds = one_holds events i h; each_once = each_once events i h }

pub at_most_one : (events : List Event) (i : Instance) → Run events i → count_by holds i.stays ≤ 1
at_most_one events i h = one_holds events i h
