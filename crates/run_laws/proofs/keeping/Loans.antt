-- Handles that were lent for a call are given back: each is lent once less for each time that it stands among them.
use Rattle.std.proofs.Common.{◌≡◌, inl, inr, ℕ, zero, suc, ◌+◌, ◌-◌, ◌<◌, nat_eq, nat_lt, Bool, true, false, if◌then◌else◌, List, [], ◌∷◌, ◌++◌, slice_set, slice_index_or, refl, sym, ap, ◌∙◌, arith, eq-eqb, Option, Some, None}
use Rattle.std.specs.List.{slice_get, count_by}
use Rattle.std.proofs.lemmas.Bool.{cases_eq, ne_eqb, ltb-true}
use Rattle.std.proofs.lemmas.List.Sums.{sum_by-cons}
use Rattle.handle_table.specs.Slots.{slot_at, with_slot, with_entry}
use Rattle.res_handles.specs.declared.handle.Handle.{Handle}
use Rattle.res_handles.specs.declared.entry.EntryView.{EntryView}
use Rattle.res_handles.specs.declared.entry.EntryView.TheVariants as seen
use Rattle.res_handles.specs.Calls.{view_at, relent_by, with_lends, lends_in}
use Rattle.instances.specs.declared.entry.WorldEntry.{WorldEntry}
use Rattle.instances.specs.declared.entry.WorldEntry.TheVariants as entry
use Rattle.instances.specs.Entries.{seen_as, of_handle}
use Rattle.instances.specs.Instances as instance
use Rattle.instances.specs.Instances.{InstanceView, entry_of, lends_of, with_slots}
use Rattle.trace_labels.specs.declared.label.Label.TheVariants as line
use Rattle.world_parts.specs.Held.{Held, Done, Gives, Traps, Spent, Stuck, after, given}
use Rattle.world_parts.specs.Entries.{with_instance}
use Rattle.world_parts.specs.Feed.{told}
use Rattle.world_parts.specs.Calls.{all_unlent}
use Rattle.abi_machine.proofs.sound.Found.{some_same}
use Rattle.standing.specs.KeptMarks.{is_borrow_of, borrows_in}
use Rattle.standing.proofs.marks.Tables.{put_same, put_other}
use Rattle.run_laws.proofs.keeping.Sums.{count_written}
use Rattle.run_laws.proofs.keeping.Changes.{borrows_of, borrows_same}
use Rattle.run_laws.proofs.keeping.Tables.{handle_there}

-- How often an index stands among these.
pub among : ℕ → List ℕ → ℕ
among index handles = count_by (λ handle. nat_eq handle index) handles

pub among_none : (index : ℕ) → among index [] ≡ 0
unfolding among
among_none index = refl

pub among_front : (index handle : ℕ) (handles : List ℕ) → among index (handle ∷ handles) ≡ (if nat_eq handle index then 1 else 0) + among index handles
unfolding among
among_front index handle handles = sum_by-cons (λ k. if nat_eq k index then 1 else 0) handle handles

pub among_as : (index : ℕ) (handles : List ℕ) → among index handles ≡ count_by (λ handle. nat_eq handle index) handles
unfolding among
among_as index handles = refl

-- In the table of one instance each handle is lent so many times less. All else in tables is as it was.
pub record PriorHandle (h : Held) (at index more : ℕ) (z : Handle) : Type 0 where
  pub inst : InstanceView
  pub here : slice_get h.instances at ≡ Some inst
  pub prior : Handle
  pub stood : entry_of inst index ≡ Some (entry.Handle prior)
  pub lent : z.lends + more ≡ prior.lends

pub record PriorSubtask (h : Held) (at index callee : ℕ) : Type 0 where
  pub inst : InstanceView
  pub here : slice_get h.instances at ≡ Some inst
  pub stood : entry_of inst index ≡ Some (entry.Subtask callee)

pub record GaveBack (h k : Held) (at : ℕ) (handles : List ℕ) : Type 0 where
  pub tasks : k.tasks ≡ h.tasks
  pub lent : (index : ℕ) (i : InstanceView) (z : Handle) → slice_get k.instances at ≡ Some i → entry_of i index ≡ Some (entry.Handle z) → PriorHandle h at index (among index handles) z
  pub others : (n : ℕ) (i : InstanceView) → (n ≡ at → ⊥) → slice_get k.instances n ≡ Some i → slice_get h.instances n ≡ Some i
  pub subtasks : (n index callee : ℕ) (i : InstanceView) → slice_get k.instances n ≡ Some i → entry_of i index ≡ Some (entry.Subtask callee) → PriorSubtask h n index callee
  pub borrows : (t : ℕ) → borrows_in k.instances t ≡ borrows_in h.instances t

abbrev pub BackBy : {A : Type 0} → Held → ℕ → List ℕ → Done A → Type 0
BackBy h at handles (Gives x k) = GaveBack h k at handles
BackBy h at handles (Traps why k) = ⊥
BackBy h at handles (Spent k) = Unit {0}
BackBy h at handles Stuck = Unit {0}

none_given : (h : Held) (at : ℕ) → GaveBack h h at []
none_given h at = record {
  tasks = refl;
  lent = λ index i z here stood. record { inst = i; here = here; prior = z; stood = stood; lent = plus_none (among_none index) };
  others = λ n i other there. there;
  subtasks = λ n index callee i there stood. record { inst = i; here = there; stood = stood };
  borrows = λ t. refl;
}
  where
    plus_none : {a b : ℕ} → b ≡ 0 → a + b ≡ a
    plus_none e = omega (arith, e)

one_more : (h k l : Held) (at handle : ℕ) (handles : List ℕ) → GaveBack h k at (handle ∷ []) → GaveBack k l at handles → GaveBack h l at (handle ∷ handles)
one_more h k l at handle handles p q = record {
  tasks = q.tasks ∙ p.tasks;
  lent = λ index i z here stood.
      let b : PriorHandle k at index (among index handles) z = q.lent index i z here stood in
      let a : PriorHandle h at index (among index (handle ∷ [])) b.prior = p.lent index b.inst b.prior b.here b.stood in
      record {
        inst = a.inst;
        here = a.here;
        prior = a.prior;
        stood = a.stood;
        lent = added z.lends (among index handles) (if nat_eq handle index then 1 else 0) (among_front index handle handles) (among_front index handle []) (among_none index) b.lent a.lent;
      };
  others = λ n i other there. p.others n i other (q.others n i other there);
  subtasks = λ n index callee i there stood.
      let b : PriorSubtask k n index callee = q.subtasks n index callee i there stood in
      p.subtasks n index callee b.inst b.here b.stood;
  borrows = λ t. q.borrows t ∙ p.borrows t;
}
  where
    added : (z m one : ℕ) {l none more first : ℕ} → more ≡ one + m → first ≡ one + none → none ≡ 0 → z + m ≡ l → {p : ℕ} → l + first ≡ p → z + more ≡ p
    added z m one e f g a b = omega (arith, e, f, g, a, b)

further : {A : Type 0} (h k : Held) (at handle : ℕ) (handles : List ℕ) (d : Done A) → GaveBack h k at (handle ∷ []) → BackBy k at handles d → BackBy h at (handle ∷ handles) d
further h k at handle handles (Gives x l) p q = one_more h k l at handle handles p q
further h k at handle handles (Traps why l) p q = q
further h k at handle handles (Spent l) p q = tt
further h k at handle handles Stuck p q = tt

-- One handle is given back.
written_there : {A : Type 0} (xs : List (Option A)) (place : ℕ) (x : A) (o : Option A) → slice_index_or xs place None ≡ Some x → slice_index_or (slice_set xs place o) place None ≡ o
written_there [] place x o e = absurd (cc)
written_there (y ∷ xs) zero x o e = refl
written_there (y ∷ xs) (suc place) x o e = written_there xs place x o e

written_elsewhere : {A : Type 0} (xs : List (Option A)) (place n : ℕ) (o : Option A) → (n ≡ place → ⊥) → slice_index_or (slice_set xs place o) n None ≡ slice_index_or xs n None
written_elsewhere [] place n o other = refl
written_elsewhere (y ∷ xs) zero zero o other = absurd (other refl)
written_elsewhere (y ∷ xs) zero (suc n) o other = refl
written_elsewhere (y ∷ xs) (suc place) zero o other = refl
written_elsewhere (y ∷ xs) (suc place) (suc n) o other = written_elsewhere xs place n o (λ e. other (ap suc e))

pub slot_there : {A : Type 0} (entries : List (Option A)) (at : ℕ) (x : A) (o : Option A) → slot_at entries at ≡ Some x → slot_at (with_slot entries at o) at ≡ o
slot_there entries zero x o e = absurd (cc)
slot_there entries (suc place) x o e = written_there entries place x o e

pub slot_elsewhere : {A : Type 0} (entries : List (Option A)) (at index : ℕ) (o : Option A) → (index ≡ at → ⊥) → slot_at (with_slot entries at o) index ≡ slot_at entries index
slot_elsewhere entries zero index o other = refl
slot_elsewhere entries (suc place) zero o other = refl
slot_elsewhere entries (suc place) (suc n) o other = written_elsewhere entries place n o (λ e. other (ap suc e))

-- A table in which one handle is lent once less.
record OneLess (x y : InstanceView) (handle : ℕ) : Type 0 where
  lent : (index : ℕ) (z : Handle) → entry_of y index ≡ Some (entry.Handle z) → (prior : Handle) × (entry_of x index ≡ Some (entry.Handle prior)) × (z.lends + (if nat_eq handle index then 1 else 0) ≡ prior.lends)
  subtasks : (index callee : ℕ) → entry_of y index ≡ Some (entry.Subtask callee) → entry_of x index ≡ Some (entry.Subtask callee)
  borrows : (t : ℕ) → borrows_of t y ≡ borrows_of t x

pub relent_borrows : (t : ℕ) (i : InstanceView) (handle : ℕ) (x : Handle) (n : ℕ) → entry_of i handle ≡ Some (entry.Handle x)
    → borrows_of t (with_slots (with_entry handle (of_handle (with_lends n x)) i.slots) i) ≡ borrows_of t i
unfolding borrows_of
relent_borrows t i handle x n stood = same_count (is_borrow_of t) i.slots.entries handle (Some (entry.Handle (with_lends n x))) (ap (is_borrow_of t) (sym stood))
  where
    same_count : (p : Option WorldEntry → Bool) (entries : List (Option WorldEntry)) (index : ℕ) (o : Option WorldEntry) → p o ≡ p (slot_at entries index)
        → count_by p (with_slot entries index o) ≡ count_by p entries
    same_count p entries zero o same = refl
    same_count p entries (suc place) o same = count_written p entries place o same

one_less : (i : InstanceView) (handle : ℕ) (x : Handle) → entry_of i handle ≡ Some (entry.Handle x) → 0 < x.lends
    → OneLess i (with_slots (with_entry handle (of_handle (with_lends (x.lends - 1) x)) i.slots) i) handle
one_less i handle x stood some = record {
  lent = λ index z found. elim (cases_eq index handle) [
    | inl e ↦
        let now : slot_at (with_slot i.slots.entries handle (Some (entry.Handle (with_lends (x.lends - 1) x)))) handle ≡ Some (entry.Handle (with_lends (x.lends - 1) x))
        = slot_there i.slots.entries handle (entry.Handle x) (Some (entry.Handle (with_lends (x.lends - 1) x))) stood in
        let there : slot_at (with_slot i.slots.entries handle (Some (entry.Handle (with_lends (x.lends - 1) x)))) handle ≡ Some (entry.Handle z)
        = ap (λ (n : ℕ). slot_at (with_slot i.slots.entries handle (Some (entry.Handle (with_lends (x.lends - 1) x)))) n) (sym e) ∙ found in
        let both : entry.Handle (with_lends (x.lends - 1) x) ≡ entry.Handle z = some_same (sym now ∙ there) in
        let same : with_lends (x.lends - 1) x ≡ z = cc in
        (x, ap (λ (n : ℕ). entry_of i n) e ∙ stood, once_less (ap (λ (y : Handle). y.lends) same) some (ap (λ (b : Bool). if b then 1 else 0) (eq-eqb handle index (sym e))))
    | inr other ↦ (
      z,
      sym (slot_elsewhere i.slots.entries handle index (Some (entry.Handle (with_lends (x.lends - 1) x))) other) ∙ found,
      plus_none (ap (λ (b : Bool). if b then 1 else 0) (ne_eqb handle index (λ e. other (sym e)))),
    )
  ];
  subtasks = λ index callee found. elim (cases_eq index handle) [
    | inl e ↦
        let now : slot_at (with_slot i.slots.entries handle (Some (entry.Handle (with_lends (x.lends - 1) x)))) handle ≡ Some (entry.Handle (with_lends (x.lends - 1) x))
        = slot_there i.slots.entries handle (entry.Handle x) (Some (entry.Handle (with_lends (x.lends - 1) x))) stood in
        let there : slot_at (with_slot i.slots.entries handle (Some (entry.Handle (with_lends (x.lends - 1) x)))) handle ≡ Some (entry.Subtask callee)
        = ap (λ (n : ℕ). slot_at (with_slot i.slots.entries handle (Some (entry.Handle (with_lends (x.lends - 1) x)))) n) (sym e) ∙ found in
        let both : entry.Handle (with_lends (x.lends - 1) x) ≡ entry.Subtask callee = some_same (sym now ∙ there) in
        absurd (cc)
    | inr other ↦ sym (slot_elsewhere i.slots.entries handle index (Some (entry.Handle (with_lends (x.lends - 1) x))) other) ∙ found
  ];
  borrows = λ t. relent_borrows t i handle x (x.lends - 1) stood;
}
  where
    once_less : {a z one : ℕ} → a - 1 ≡ z → 0 < a → one ≡ 1 → z + one ≡ a
    once_less e p f = omega (arith, e, p, f)

    plus_none : {a b : ℕ} → b ≡ 0 → a + b ≡ a
    plus_none e = omega (arith, e)

given_one : (handle : ℕ) (i : InstanceView) (o : Option EntryView) → view_at seen_as i.slots handle ≡ o → nat_lt 0 (lends_in o) ≡ true
    → OneLess i (with_slots (relent_by o of_handle (λ n. n - 1) handle i.slots) i) handle
given_one handle i None is some = absurd (cc)
given_one handle i (Some seen.Other) is some = absurd (cc)
given_one handle i (Some (seen.ReadableEnd x)) is some = absurd (cc)
given_one handle i (Some (seen.Handle x)) is some = one_less i handle x (handle_there (entry_of i handle) x is) (ltb-true 0 x.lends some)

put_back : (h : Held) (at handle : ℕ) (x y : InstanceView) → slice_get h.instances at ≡ Some x → OneLess x y handle → GaveBack h (with_instance at y h) at (handle ∷ [])
put_back h at handle x y is less = record {
  tasks = refl;
  lent = λ index i z here stood.
      let same : i ≡ y = put_same h.instances at at x y i is here refl in
      let p : (prior : Handle) × (entry_of x index ≡ Some (entry.Handle prior)) × (z.lends + (if nat_eq handle index then 1 else 0) ≡ prior.lends)
      = less.lent index z (ap (λ (j : InstanceView). entry_of j index) (sym same) ∙ stood) in
      record { inst = x; here = is; prior = p.0; stood = p.1; lent = as_one z.lends (if nat_eq handle index then 1 else 0) (among_front index handle []) (among_none index) p.2 };
  others = λ n i other there. put_other h.instances at n y i there other;
  subtasks = λ n index callee i there stood. elim (cases_eq n at) [
    | inl e ↦
        let same : i ≡ y = put_same h.instances at n x y i is there e in
        record { inst = x; here = ap (λ (k : ℕ). slice_get h.instances k) e ∙ is; stood = less.subtasks index callee (ap (λ (j : InstanceView). entry_of j index) (sym same) ∙ stood) }
    | inr other ↦ record { inst = i; here = put_other h.instances at n y i there other; stood = stood }
  ];
  borrows = λ t. borrows_same h.instances at x y t is (less.borrows t);
}
  where
    as_one : (z one : ℕ) {none more p : ℕ} → more ≡ one + none → none ≡ 0 → z + one ≡ p → z + more ≡ p
    as_one z one e f g = omega (arith, e, f, g)

-- All of them are.
on_given : {A B C : Type 0} (h : Held) (at : ℕ) (handles : List ℕ) (o : Option A) (f : A → Done B) (c : B → Held → Done C) → ((x : A) → o ≡ Some x → BackBy h at handles (after (f x) c))
    → BackBy h at handles (after (given o f) c)
on_given h at handles None f c p = tt
on_given h at handles (Some x) f c p = p x refl

on_test : {A B : Type 0} (h : Held) (at : ℕ) (handles : List ℕ) (b : Bool) (d : Done A) (c : A → Held → Done B) → (b ≡ true → BackBy h at handles (after d c))
    → BackBy h at handles (after (if b then d else Stuck) c)
on_test h at handles true d c p = p refl
on_test h at handles false d c p = tt

shown_back : (h k l : Held) (at : ℕ) (handles : List ℕ) → l.tasks ≡ k.tasks → l.instances ≡ k.instances → GaveBack h k at handles → GaveBack h l at handles
shown_back h k l at handles tasks insts g = record {
  tasks = tasks ∙ g.tasks;
  lent = λ index i z here stood. g.lent index i z (ap (λ (is : List InstanceView). slice_get is at) (sym insts) ∙ here) stood;
  others = λ n i other there. g.others n i other (ap (λ (is : List InstanceView). slice_get is n) (sym insts) ∙ there);
  subtasks = λ n index callee i there stood. g.subtasks n index callee i (ap (λ (is : List InstanceView). slice_get is n) (sym insts) ∙ there) stood;
  borrows = λ t. ap (λ (is : List InstanceView). borrows_in is t) insts ∙ g.borrows t;
}

pub all_given_back : (at callee : ℕ) (handles : List ℕ) (h : Held) → BackBy h at handles (all_unlent at callee handles h)
all_given_back at callee [] h = none_given h at
all_given_back at callee (handle ∷ handles) h =
    behind_looks h at (handle ∷ handles) (slice_get h.instances at)
    (λ i. if nat_lt 0 (lends_of i handle) then Gives (tt {0}) (with_instance at (instance.given_back handle i) h) else Stuck)
    (λ done k. told (line.Unlend (at + 1) handle callee) k) (λ done k. all_unlent at callee handles k)
    (λ i is.
    behind_test h at (handle ∷ handles) (nat_lt 0 (lends_of i handle)) (Gives (tt {0}) (with_instance at (instance.given_back handle i) h))
    (λ done k. told (line.Unlend (at + 1) handle callee) k) (λ done k. all_unlent at callee handles k)
    (λ some.
    let y : InstanceView = instance.given_back handle i in
    let k : Held = with_instance at y h in
    let l : Held = record k { labels = k.labels ++ line.Unlend (at + 1) handle callee ∷ [] } in
    further h l at handle handles (all_unlent at callee handles l)
    (shown_back h k l at (handle ∷ []) refl refl (put_back h at handle i y is (given_one handle i (view_at seen_as i.slots handle) refl some)))
    (all_given_back at callee handles l)))
  where
    behind_looks : {A B C D : Type 0} (h : Held) (at : ℕ) (handles : List ℕ) (o : Option A) (f : A → Done B) (c : B → Held → Done C) (d : C → Held → Done D)
        → ((x : A) → o ≡ Some x → BackBy h at handles (after (after (f x) c) d)) → BackBy h at handles (after (after (given o f) c) d)
    behind_looks h at handles None f c d p = tt
    behind_looks h at handles (Some x) f c d p = p x refl

    behind_test : {A B C : Type 0} (h : Held) (at : ℕ) (handles : List ℕ) (b : Bool) (e : Done A) (c : A → Held → Done B) (d : B → Held → Done C)
        → (b ≡ true → BackBy h at handles (after (after e c) d)) → BackBy h at handles (after (after (if b then e else Stuck) c) d)
    behind_test h at handles true e c d p = p refl
    behind_test h at handles false e c d p = tt
