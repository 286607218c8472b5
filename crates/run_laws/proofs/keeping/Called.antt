-- A call of a canonical function, with those that are answered at once, keeps all marks.
use Rattle.std.proofs.Common.{◌≡◌, refl, sym, ap, ◌∙◌, subst}
use Rattle.std.specs.Prelude.{ℕ, ◌-◌, Bool, true, false, if◌then◌else◌, List, [], ◌∷◌, ◌++◌, length, Option, Some, None, IsSome, Result, Ok, Err}
use Rattle.std.specs.List.{slice_get}
use Rattle.builtin_kinds.specs.declared.ContextOp.TheVariants as context_op
use Rattle.builtin_kinds.specs.declared.ResourceOp.TheVariants as resource_op
use Rattle.comp_graph.specs.declared.graph.BuiltinKind.{BuiltinKind}
use Rattle.comp_graph.specs.declared.graph.BuiltinKind.TheVariants as kind
use Rattle.comp_graph.specs.declared.graph.CanonFunc.{CanonFunc}
use Rattle.comp_graph.specs.declared.graph.CanonFunc.TheVariants as canon
use Rattle.comp_graph.specs.Graph.{Graph}
use Rattle.graph_views.specs.Canons.{canon_at}
use Rattle.graph_views.specs.Names.{builtin_of}
use Rattle.res_handles.specs.declared.refusal.Refusal.{Refusal}
use Rattle.res_handles.specs.Refusals.{handle_in, rep_of}
use Rattle.instances.specs.Instances.{InstanceView, view_of}
use Rattle.task_table.specs.declared.slot.TaskSlot.{TaskSlot}
use Rattle.task_table.specs.Slots.{word_at, with_word}
use Rattle.trace_labels.specs.declared.label.Label.{Label}
use Rattle.trace_labels.specs.declared.label.Label.TheVariants as line
use Rattle.trace_labels.specs.declared.trap.TrapName.TheVariants as trap
use Rattle.world_parts.specs.declared.parts.Flow.{Flow}
use Rattle.world_parts.specs.Held.{Held, Done, Gives, Traps, after, given}
use Rattle.world_parts.specs.Entries.{named, rep_found}
use Rattle.world_parts.specs.Feed.{got}
use Rattle.world_parts.specs.Slots.{with_task, context_set, words_of}
use Rattle.world_stacks.specs.Exempt.{first_word, builtin_answer}
use Rattle.replies.specs.Replies.{may_leave, begun}
use Rattle.machine_runs.specs.Calling.{canon_answered, allowed_by, allowed, calls}
use Rattle.standing.proofs.marks.Feed.{got_stays}
use Rattle.standing.proofs.marks.Inside.{same_seen}
use Rattle.standing.proofs.marks.Tasks.{task_stays}
use Rattle.run_laws.specs.keeping.Kept.{KeepsMarks, NumbersThere}
use Rattle.run_laws.specs.keeping.Answers.{CallsWell, MayAnswer}
use Rattle.run_laws.specs.keeping.Acting.{MayCall}
use Rattle.run_laws.proofs.keeping.Every.{all_marks, all_by, every_through, every_from, every_given, look_every, further_every}
use Rattle.run_laws.proofs.keeping.Changes.{task_keeps}
use Rattle.run_laws.proofs.keeping.Alike.{same_task}
use Rattle.run_laws.proofs.keeping.Answers.{answers_keep_all}
use Rattle.run_laws.proofs.keeping.parts.Feed.{got_keeps}

-- What is asked is of tasks and instances alone.
pub numbers_beside : (h k : Held) → k.tasks ≡ h.tasks → k.instances ≡ h.instances → NumbersThere h → NumbersThere k
numbers_beside h k tasks_are insts_are n = record {
  callers = λ t slot called found by.
      subst (λ (ts : List TaskSlot). IsSome (slice_get ts called.by)) (sym tasks_are) (n.callers t slot called (ap (λ (ts : List TaskSlot). slice_get ts t) (sym tasks_are) ∙ found) by);
  borrowers = λ at index task i x here stood by.
      subst (λ (ts : List TaskSlot). IsSome (slice_get ts task)) (sym tasks_are) (n.borrowers at index task i x (ap (λ (is : List InstanceView). slice_get is at) (sym insts_are) ∙ here) stood by);
  subtasks = λ at index callee i here stood.
      subst (λ (ts : List TaskSlot). IsSome (slice_get ts callee)) (sym tasks_are) (n.subtasks at index callee i (ap (λ (is : List InstanceView). slice_get is at) (sym insts_are) ∙ here) stood);
}

-- A line more.
with_line : Label → Held → Held
with_line label h = record h { labels = h.labels ++ label ∷ [] }

calls_line : (label : Label) (h : Held) (t at : ℕ) → CallsWell h t at → CallsWell (with_line label h) t at
unfolding with_line
calls_line label h t at well = record {
  calls = record {
    sets = λ i here. well.calls.sets i here;
    next = λ i here. well.calls.next i here;
    subtasks = λ i index callee slot here stood found. well.calls.subtasks i index callee slot here stood found;
    caller = λ slot found. well.calls.caller slot found;
  };
  numbers = numbers_beside h (record h { labels = h.labels ++ label ∷ [] }) refl refl well.numbers;
  sound = λ i here. well.sound i here;
  unlent = λ i here. well.unlent i here;
  own = λ index callee i here stood. well.own index callee i here stood;
  gave = λ n slot called found by told. well.gave n slot called found by told;
  asked = λ n slot found resolved. well.asked n slot found resolved;
}

answer_line : (label : Label) (h : Held) (t : ℕ) (c : CanonFunc) → MayAnswer h t c → MayAnswer (with_line label h) t c
unfolding with_line
answer_line label h t (canon.Lower l) may = numbers_beside h (record h { labels = h.labels ++ label ∷ [] }) refl refl may
answer_line label h t (canon.Builtin b) may = calls_line label h t b.instance may

-- What is answered at once.
got_every : (t : ℕ) (words : List ℕ) (h : Held) → KeepsMarks h (got t words h)
got_every t words h = all_by h (got t words h) (got_stays t words h) (got_keeps t words h)

if_so : (h : Held) (b : Bool) (d e : Done Flow) → (b ≡ true → KeepsMarks h d) → KeepsMarks h e → KeepsMarks h (if b then d else e)
if_so h true d e p q = p refl
if_so h false d e p q = q

named_every : {A B : Type 0} (h : Held) (r : Result A Refusal) (c : A → Held → Done B) (d : B → Held → Done Flow) → ((x : A) → KeepsMarks h (after (c x h) d))
    → KeepsMarks h (after (after (named r h) c) d)
named_every h (Ok x) c d p = p x
named_every h (Err why) c d p = λ marks. marks.lends

leaves_every : (g : Graph) (types : List (Option ℕ)) (t number : ℕ) (c : CanonFunc) (words : List ℕ) (h : Held) → (may_leave h ≡ true → KeepsMarks h (canon_answered g types t number c words h))
    → KeepsMarks h (allowed_by g types t number c words None h)
leaves_every g types t number c words h p = if_so h (may_leave h) (canon_answered g types t number c words h) (Traps trap.CannotLeave h) p (λ marks. marks.lends)

by_kind : (g : Graph) (types : List (Option ℕ)) (t number : ℕ) (c : CanonFunc) (words : List ℕ) (h : Held) (at : ℕ) (k : BuiltinKind)
    → (may_leave h ≡ true → KeepsMarks h (canon_answered g types t number c words h))
    → KeepsMarks h (after (builtin_answer t words at k h) (λ answer l. allowed_by g types t number c words answer l))
by_kind g types t number c words h at (kind.Resource resource_op.New resource) p = leaves_every g types t number c words h p
by_kind g types t number c words h at (kind.Resource resource_op.Drop resource) p = leaves_every g types t number c words h p
by_kind g types t number c words h at (kind.Resource resource_op.Rep resource) p =
    look_every h (first_word words) (λ index. after (rep_found at index resource h) (λ rep k. Gives (Some (rep ∷ [])) k)) (λ answer l. allowed_by g types t number c words answer l)
    (λ index found.
    further_every h (slice_get h.instances at) (λ i. named (rep_of (handle_in (view_of i index) resource)) h) (λ rep k. Gives (Some (rep ∷ [])) k)
    (λ answer l. allowed_by g types t number c words answer l)
    (λ i here.
    named_every h (rep_of (handle_in (view_of i index) resource)) (λ rep k. Gives (Some (rep ∷ [])) k) (λ answer l. allowed_by g types t number c words answer l)
    (λ rep. got_every t (rep ∷ []) h)))
by_kind g types t number c words h at (kind.TaskReturn result options) p = leaves_every g types t number c words h p
by_kind g types t number c words h at (kind.Plain op) p = leaves_every g types t number c words h p
by_kind g types t number c words h at (kind.Context context_op.Get slot) p =
    further_every h (slice_get h.tasks t) (λ x. Gives (word_at slot x.context) h) (λ word k. Gives (Some (word ∷ [])) k) (λ answer l. allowed_by g types t number c words answer l)
    (λ x is. got_every t (word_at slot x.context ∷ []) h)
by_kind g types t number c words h at (kind.Context context_op.Set slot) p =
    look_every h (first_word words) (λ word. after (context_set t slot word h) (λ done k. Gives (Some []) k)) (λ answer l. allowed_by g types t number c words answer l)
    (λ word found.
    further_every h (slice_get h.tasks t) (λ x. Gives (tt {0}) (with_task t (with_word slot word x) h)) (λ done k. Gives (Some []) k)
    (λ answer l. allowed_by g types t number c words answer l)
    (λ x is.
    let y : TaskSlot = with_word slot word x in
    every_through h (with_task t y h) (got t [] (with_task t y h))
    (all_marks h (with_task t y h) (task_stays h t x y is (same_seen x y refl refl refl refl)) (task_keeps h t x y is (same_task x y refl refl refl refl refl) (λ m. m)))
    (got_every t [] (with_task t y h))))
by_kind g types t number c words h at (kind.Wait op cancellable memory) p = leaves_every g types t number c words h p
by_kind g types t number c words h at (kind.End of_what element op) p = leaves_every g types t number c words h p

by_canon : (g : Graph) (types : List (Option ℕ)) (t number : ℕ) (c : CanonFunc) (words : List ℕ) (h : Held) → (may_leave h ≡ true → KeepsMarks h (canon_answered g types t number c words h))
    → KeepsMarks h (allowed g types t number c words h)
unfolding allowed
by_canon g types t number (canon.Lower l) words h p = leaves_every g types t number (canon.Lower l) words h p
by_canon g types t number (canon.Builtin b) words h p = by_kind g types t number (canon.Builtin b) words h b.instance b.kind p

-- The acting task calls the function of a number.
pub calls_marks : (g : Graph) (types : List (Option ℕ)) (number : ℕ) (h : Held) → MayCall g h number → KeepsMarks h (calls g types number h)
unfolding calls with_line
calls_marks g types number h may =
    look_every h (slice_get h.chain (length h.chain - 1)) (λ t. Gives t h)
    (λ t k. given (canon_at g number) (λ c. after (words_of t k) (λ words l. after (begun t c words l) (λ done m. allowed g types t number c words m))))
    (λ t acts.
    every_given h (canon_at g number) (λ c. after (words_of t h) (λ words l. after (begun t c words l) (λ done m. allowed g types t number c words m)))
    (λ c made.
    look_every h (slice_get h.tasks t) (λ x. Gives x.at_words h) (λ words l. after (begun t c words l) (λ done m. allowed g types t number c words m))
    (λ x is.
    let label : Label = line.Do t (builtin_of c) x.at_words in
    let m : Held = record h { labels = h.labels ++ label ∷ [] } in
    every_from h m (allowed g types t number c x.at_words m) refl refl
    (by_canon g types t number c x.at_words m
    (λ leave. answers_keep_all g types t number c x.at_words m made (answer_line label h t c (may t c acts made leave)))))))
