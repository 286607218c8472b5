-- Subtasks of tables that are changed: those that stood there stand there, and the one that is added is called without waiting.
use Rattle.std.proofs.Common.{◌≡◌, ◌⊎◌, inl, inr, ℕ, zero, suc, Bool, true, false, nat_eq, List, [], ◌∷◌, ◌++◌, refl, sym, ap, ◌∙◌, subst, arith, Option, Some, None, if◌then◌else◌}
use Rattle.std.proofs.lemmas.Bool.Decides.{nat_tests}
use Rattle.std.specs.List.{slice_get}
use Rattle.handle_table.specs.History.{Event, Remove, live, next_index}
use Rattle.comp_graph.specs.Graph.{Graph}
use Rattle.abi_machine.specs.World.{Entry, OwnHandle, BorrowHandle, OfSubtask, OfSet, OfEnd, Inst, Task, World, new_inst}
use Rattle.abi_machine.specs.Edits.{changed_at, added}
use Rattle.abi_machine.specs.Reading.{table_in}
use Rattle.abi_machine.specs.sound.Changes.{AddsEntry, after}
use Rattle.abi_machine.specs.sound.Called.{CalledBy}
use Rattle.abi_machine.specs.sound.Subtasks.{StandsAt, StandsNowhere, CallIs, IsAsync, IsUnawaited, AreSubtasks, HasSubtasks}
use Rattle.abi_machine.proofs.sound.Lists.{more_either}
use Rattle.abi_machine.proofs.sound.Found.{some_same}
use Rattle.abi_machine.proofs.sound.Numbered.{added_either, removed_before}
use Rattle.abi_machine.proofs.sound.known.Keeping.{IsNewEntry}

-- Tables.

-- the table of an instance where one is changed
table_either : (insts : List Inst) (i : ℕ) (f : Inst → Inst) (j : ℕ)
    → (table_in (slice_get (changed_at i f insts) j) ≡ table_in (slice_get insts j)) ⊎ ((j ≡ i) × ((x : Inst) × (slice_get insts i ≡ Some x) × (slice_get (changed_at i f insts) j ≡ Some (f x))))
table_either [] i f j = inl refl
table_either (x ∷ insts) zero f zero = inr (refl, (x, refl, refl))
table_either (x ∷ insts) zero f (suc j) = inl refl
table_either (x ∷ insts) (suc i) f zero = inl refl
table_either (x ∷ insts) (suc i) f (suc j) = elim (table_either insts i f j) [
  | inl same ↦ inl same
  | inr new ↦ inr (ap suc new.0, new.1)
]

-- what stood there before
abbrev StoodBefore : List Inst → ℕ → (Inst → Inst) → ℕ → ℕ → ℕ → Type 0
StoodBefore insts i f j index callee =
    (StandsAt insts j index callee) ⊎ ((j ≡ i) × ((x : Inst) × (slice_get insts i ≡ Some x) × (live (f x).table index ≡ Some (OfSubtask callee))))

stood : (insts : List Inst) (i : ℕ) (f : Inst → Inst) (j index callee : ℕ) → StandsAt (changed_at i f insts) j index callee → StoodBefore insts i f j index callee
stood insts i f j index callee h = elim (table_either insts i f j) [
  | inl same ↦ inl (ap (λ (t : List (Event Entry)). live t index) (sym same) ∙ h)
  | inr new ↦ inr (new.0, (new.1.0, new.1.1, ap (λ (o : Option Inst). live (table_in o) index) (sym new.1.2) ∙ h))
]

-- it stands in that instance
stands_in : (insts : List Inst) (i j index callee : ℕ) (x : Inst) → j ≡ i → slice_get insts i ≡ Some x → live x.table index ≡ Some (OfSubtask callee) → StandsAt insts j index callee
stands_in insts i j index callee x same there h =
    ap (λ (n : ℕ). live (table_in (slice_get insts n)) index) same ∙ (ap (λ (o : Option Inst). live (table_in o) index) there ∙ h)

-- Tables with no subtask more.
abbrev pub NoneMore : List Inst → List Inst → Type 0
NoneMore insts others = (j index callee : ℕ) → StandsAt others j index callee → StandsAt insts j index callee

changed_no_more : (insts : List Inst) (i : ℕ) (f : Inst → Inst) → ((x : Inst) (index callee : ℕ) → live (f x).table index ≡ Some (OfSubtask callee) → live x.table index ≡ Some (OfSubtask callee)) → NoneMore insts (changed_at i f insts)
changed_no_more insts i f less j index callee h = elim (stood insts i f j index callee h) [
  | inl old ↦ old
  | inr new ↦ stands_in insts i j index callee new.1.0 new.0 new.1.1 (less new.1.0 index callee new.1.2)
]

pub both_no_more : (insts mid others : List Inst) → NoneMore insts mid → NoneMore mid others → NoneMore insts others
both_no_more insts mid others h k j index callee stands = h j index callee (k j index callee stands)

pub begun_no_more : (insts : List Inst) → NoneMore insts (insts ++ new_inst ∷ [])
begun_no_more insts j index callee h = by (slice_get (insts ++ new_inst ∷ []) j) refl h
  where
    by : (o : Option Inst) → slice_get (insts ++ new_inst ∷ []) j ≡ o → live (table_in o) index ≡ Some (OfSubtask callee) → StandsAt insts j index callee
    by None e k = cc
    by (Some x) e k = elim (more_either insts new_inst j x e) [
      | inl old ↦ ap (λ (o : Option Inst). live (table_in o) index) old ∙ k
      | inr last ↦ (let clash : None ≡ Some (OfSubtask callee) = subst (λ (y : Inst). live y.table index ≡ Some (OfSubtask callee)) last.1 k in cc)
    ]

pub fewer : (g : Graph) (tasks : List Task) (insts others : List Inst) → NoneMore insts others → AreSubtasks g tasks insts → AreSubtasks g tasks others
fewer g tasks insts others less h = record {
  async = λ i index callee stands. h.async i index callee (less i index callee stands);
  once = λ i index j other callee one two. h.once i index j other callee (less i index callee one) (less j other callee two);
  awaited = λ t callee number task e c. (let k = h.awaited t callee number task e c in (k.0, λ i index stands. k.1 i index (less i index callee stands)));
  sync = h.sync;
  cancelled = h.cancelled;
}

-- an entry that is no subtask
abbrev pub IsOther : Entry → Type 0
IsOther (OfSubtask callee) = ⊥
IsOther entry = Unit {0}

pub other_no_more : (insts : List Inst) (i : ℕ) (entry : Entry) → IsOther entry → NoneMore insts (changed_at i (λ inst. record inst { table = added entry inst.table }) insts)
other_no_more insts i entry other =
    changed_no_more insts i (λ inst. record inst { table = added entry inst.table }) (λ x index callee h. elim (added_either (nat_eq (next_index x.table) index) entry (OfSubtask callee) (live x.table index) h) [
      | inl same ↦ absurd (subst IsOther same other)
      | inr old ↦ old
    ])

pub removed_no_more : (insts : List Inst) (i gone : ℕ) → NoneMore insts (changed_at i (λ inst. record inst { table = Remove gone ∷ inst.table }) insts)
removed_no_more insts i gone =
    changed_no_more insts i (λ inst. record inst { table = Remove gone ∷ inst.table }) (λ x index callee h. removed_before (nat_eq gone index) (OfSubtask callee) (live x.table index) h)

pub same_no_more : (insts : List Inst) (i : ℕ) (f : Inst → Inst) → ((x : Inst) → (f x).table ≡ x.table) → NoneMore insts (changed_at i f insts)
same_no_more insts i f same = changed_no_more insts i f (λ x index callee h. subst (λ (t : List (Event Entry)). live t index ≡ Some (OfSubtask callee)) (same x) h)

-- The subtask of a call that does not wait is added.
abbrev WasAdded : List Inst → ℕ → ℕ → ℕ → ℕ → ℕ → Type 0
WasAdded insts i callee j index other =
    (StandsAt insts j index other) ⊎ ((other ≡ callee) × (j ≡ i) × ((x : Inst) × (slice_get insts i ≡ Some x) × (index ≡ next_index x.table)))

index_is : (b : Bool) (next index : ℕ) (o : Option Entry) (entry other : Entry) → nat_eq next index ≡ b → (if b then Some entry else o) ≡ Some other → ((index ≡ next) × (entry ≡ other)) ⊎ (o ≡ Some other)
index_is true next index o entry other e h = inl (grind (arith, nat_tests), some_same h)
index_is false next index o entry other e h = inr h

pub subtask_same : (a b : ℕ) → OfSubtask a ≡ OfSubtask b → b ≡ a
subtask_same a b h = cc

pub was_added : (insts : List Inst) (i callee j index other : ℕ) → StandsAt (changed_at i (λ inst. record inst { table = added (OfSubtask callee) inst.table }) insts) j index other → WasAdded insts i callee j index other
was_added insts i callee j index other h = elim (stood insts i (λ inst. record inst { table = added (OfSubtask callee) inst.table }) j index other h) [
  | inl old ↦ inl old
  | inr new ↦ elim (index_is (nat_eq (next_index new.1.0.table) index) (next_index new.1.0.table) index (live new.1.0.table index) (OfSubtask callee) (OfSubtask other) refl new.1.2) [
    | inl now ↦ inr (subtask_same callee other now.1, new.0, (new.1.0, new.1.1, now.0))
    | inr old ↦ inl (stands_in insts i j index other new.1.0 new.0 new.1.1 old)
  ]
]

subtask_added : (g : Graph) (tasks : List Task) (insts : List Inst) (i callee : ℕ) → CallIs tasks callee (IsAsync g) → IsUnawaited tasks callee → StandsNowhere insts callee → AreSubtasks g tasks insts
    → AreSubtasks g tasks (changed_at i (λ inst. record inst { table = added (OfSubtask callee) inst.table }) insts)
subtask_added g tasks insts i callee async alone nowhere h = record {
  async = λ j index other stands. elim (was_added insts i callee j index other stands) [
    | inl old ↦ h.async j index other old
    | inr new ↦ subst (λ (n : ℕ). CallIs tasks n (IsAsync g)) (sym new.0) async
  ];
  once = λ j index k at other one two. elim (was_added insts i callee j index other one) [
    | inl old ↦ elim (was_added insts i callee k at other two) [
      | inl before ↦ h.once j index k at other old before
      | inr new ↦ absurd (nowhere j index (subst (λ (n : ℕ). StandsAt insts j index n) new.0 old))
    ]
    | inr now ↦ elim (was_added insts i callee k at other two) [
      | inl before ↦ absurd (nowhere k at (subst (λ (n : ℕ). StandsAt insts k at n) now.0 before))
      | inr new ↦ (
        now.1 ∙ sym new.1,
        (let same : now.2.0 ≡ new.2.0 = some_same (sym now.2.1 ∙ new.2.1) in now.2.2 ∙ (ap (λ (x : Inst). next_index x.table) same ∙ sym new.2.2)),
      )
    ]
  ];
  awaited = λ t other number task e c. (
      let k = h.awaited t other number task e c in (
        k.0,
        λ j index stands. elim (was_added insts i callee j index other stands) [
          | inl old ↦ k.1 j index old
          | inr new ↦ alone t number task e (subst (λ (n : ℕ). CalledBy task.state n number) new.0 c)
        ],
      )
      );
  sync = h.sync;
  cancelled = h.cancelled;
}

pub entry_added : (g : Graph) (w : World) (i : ℕ) (entry : Entry) → IsNewEntry g w i entry → HasSubtasks g w → HasSubtasks g (after (AddsEntry i entry) w)
entry_added g w i (OfSubtask callee) new h = subtask_added g w.tasks w.insts i callee new.0 new.1 new.2 h
entry_added g w i (OwnHandle resource rep) new h = fewer g w.tasks w.insts _ (other_no_more w.insts i (OwnHandle resource rep) tt) h
entry_added g w i (BorrowHandle resource rep task) new h = fewer g w.tasks w.insts _ (other_no_more w.insts i (BorrowHandle resource rep task) tt) h
entry_added g w i (OfSet set) new h = fewer g w.tasks w.insts _ (other_no_more w.insts i (OfSet set) tt) h
entry_added g w i (OfEnd e) new h = fewer g w.tasks w.insts _ (other_no_more w.insts i (OfEnd e) tt) h
