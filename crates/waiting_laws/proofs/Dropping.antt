-- `subtask.drop` takes out only a subtask of which its caller was told before that the task has resolved.
use Rattle.std.proofs.Common.{◌≡◌, ◌⊎◌, inl, inr, ℕ, Bool, true, false, not, if◌then◌else◌, List, [], ◌∷◌, refl, sym, ap, ◌∙◌, subst, Option, Some, Result, Ok, Err}
use Rattle.std.specs.Prelude.{slice_index}
use Rattle.std.specs.List.{slice_get}
use Rattle.tasks.specs.Subtasks.{is_over}
use Rattle.handle_table.specs.History.{live}
use Rattle.builtin_kinds.specs.declared.PlainBuiltin.TheVariants.{SubtaskDrop}
use Rattle.comp_graph.specs.declared.graph.BuiltinKind.{BuiltinKind}
use Rattle.comp_graph.specs.declared.graph.BuiltinKind.TheVariants.{Plain}
use Rattle.comp_graph.specs.declared.graph.CanonFunc.{CanonFunc}
use Rattle.comp_graph.specs.declared.graph.CanonFunc.TheVariants.{Builtin, Lower}
use Rattle.comp_graph.specs.Graph.{Graph}
use Rattle.trace_labels.specs.declared.label.Label.{Label}
use Rattle.trace_labels.specs.declared.label.Label.TheVariants as line
use Rattle.trace_labels.specs.declared.trap.TrapName.{TrapName}
use Rattle.trace_labels.specs.declared.trap.TrapName.TheVariants as trap
use Rattle.abi_machine.specs.Control.{Control, Free}
use Rattle.abi_machine.specs.World.{OfSubtask, Inst, Subtask, Task, World}
use Rattle.abi_machine.specs.Edits.{with_control, entry_removed, left_set}
use Rattle.abi_machine.specs.Canons.{builtin_of, canon_at}
use Rattle.abi_machine.specs.Reading.{table_in, task_at, acting, may_leave, subtask_of}
use Rattle.abi_machine.specs.Finding.{subtask_at}
use Rattle.abi_machine.specs.Calling.{with_subtask_of}
use Rattle.abi_machine.specs.replies.Context.{exempt_of}
use Rattle.abi_machine.specs.replies.Subtasks.{subtask_drop_turn}
use Rattle.abi_machine.specs.Reply.{plain_turn, builtin_turn, reply, allowed, calling_turn}
use Rattle.abi_machine.specs.Turn.{Turn, doomed, replied, unless, unless_refused}
use Rattle.abi_machine.specs.Next.{next_by}
use Rattle.abi_machine.specs.sound.Subtasks.{StandsAt, CallIs}
use Rattle.abi_machine.specs.sound.Cancels.{IsOver}
use Rattle.abi_machine.proofs.sound.Found.{some_same}
use Rattle.abi_machine.proofs.sound.Chained.{same_or_not}
use Rattle.abi_machine.proofs.sound.Joined.{live_removed}
use Rattle.abi_machine.proofs.sound.Holding.{live_changed}
use Rattle.abi_machine.proofs.sound.known.Handles.{subtask_there}
use Rattle.waiting_laws.specs.Telling.{IsDrop, DropsWhatWasTold}
use Rattle.waiting_laws.proofs.Events.{Tells, given_tells, behind_tells}

same_subtask : (a b : ℕ) → OfSubtask a ≡ OfSubtask b → a ≡ b
same_subtask a b k = cc

not_false : (b : Bool) → not b ≡ false → b ≡ true
not_false true e = refl
not_false false e = cc

-- Where one subtask is taken out another one stays.
another_stays : (w : World) (i gone other j index callee : ℕ) → StandsAt w.insts i gone other → (other ≡ callee → ⊥) → StandsAt w.insts j index callee
    → StandsAt (left_set i gone (entry_removed i gone w)).insts j index callee
another_stays w i gone other j index callee there differs h =
    live_changed (entry_removed i gone w).insts i _ j index (OfSubtask callee) (λ inst same found k. k)
    (live_changed w.insts i _ j index (OfSubtask callee)
    (λ inst same found k.
    live_removed inst.table gone index (OfSubtask callee)
    (λ here.
    let at_gone : live inst.table gone ≡ Some (OfSubtask other) = subst (λ (o : Option Inst). live (table_in o) gone ≡ Some (OfSubtask other)) found there in
    differs (same_subtask other callee (some_same (sym at_gone ∙ (ap (live inst.table) here ∙ k))))) k) h)

module _ (g : Graph) (w : World) (j index callee : ℕ) where
  abbrev Drops : List Label → World → Type 0
  Drops labels v = StandsAt w.insts j index callee → CallIs w.tasks callee IsOver ⊎ StandsAt v.insts j index callee

  drop_tells : (t i gone : ℕ) → Tells Drops (subtask_drop_turn t i gone w)
  unfolding subtask_drop_turn
  drop_tells t i gone = by (subtask_at w i gone) refl
    where
      taken : World
      taken = left_set i gone (entry_removed i gone w)

      answers : Task → Subtask → Turn
      answers task subtask = unless t (not (is_over subtask.told)) trap.NotDelivered w (replied t [] taken)

      told : (other : ℕ) (task : Task) (subtask : Subtask) → StandsAt w.insts i gone other → slice_get w.tasks other ≡ Some task → subtask_of task.caller ≡ Some subtask
          → (b : Bool) → not (is_over subtask.told) ≡ b → Tells Drops (unless t b trap.NotDelivered w (replied t [] taken))
      told other task subtask there at guest true e = λ h. inr h
      told other task subtask there at guest false e = λ h. elim (same_or_not other callee) [
        | inl same ↦ inl (subst (λ (n : ℕ). CallIs w.tasks n IsOver) same (task, at, (subtask, guest, not_false (is_over subtask.told) e)))
        | inr differs ↦ inr (another_stays w i gone other j index callee there differs h)
      ]

      by : (r : Result ℕ TrapName) → subtask_at w i gone ≡ r → Tells Drops (unless_refused t r w (λ other. with_subtask_of w other answers))
      by (Err why) e = λ h. inr h
      by (Ok other) e =
          given_tells Drops (task_at w other) _ (λ task at. given_tells Drops (subtask_of task.caller) _ (λ subtask guest.
          told other task subtask (subtask_there w i gone other e) at guest (not (is_over subtask.told)) refl))

  reply_tells : (t : ℕ) (task : Task) (number i : ℕ) (words : List ℕ) → Tells Drops (builtin_turn g t task i number (Plain SubtaskDrop) words w)
  unfolding builtin_turn plain_turn
  reply_tells t task number i words = drop_tells t i (slice_index words 0)

  allowed_tells : (t : ℕ) (task : Task) (number : ℕ) (c : CanonFunc) (words : List ℕ) → IsDrop (Some c) → Tells Drops (allowed g t task number c words (exempt_of t words c) w)
  unfolding allowed reply
  allowed_tells t task number (Lower l) words is = absurd is
  allowed_tells t task number (Builtin b) words is =
      subst (λ (of_kind : BuiltinKind). Tells Drops (let c : CanonFunc = Builtin (record b { kind = of_kind }) in allowed g t task number c words (exempt_of t words c) w)) (sym is) (by (may_leave w))
    where
      by : (free : Bool) → Tells Drops (if free then builtin_turn g t task b.instance number (Plain SubtaskDrop) words w else doomed t trap.CannotLeave w)
      by true = reply_tells t task number b.instance words
      by false = λ h. inr h

  calling_tells : (number : ℕ) (words : List ℕ) → IsDrop (canon_at g number) → Tells Drops (calling_turn g number words w)
  unfolding calling_turn
  calling_tells number words is =
      given_tells Drops (acting w) _ (λ a e. given_tells Drops (canon_at g number) _ (λ c at.
      behind_tells Drops (line.Do a.0 (builtin_of c) words ∷ []) (allowed g a.0 a.1 number c words (exempt_of a.0 words c) w)
      (allowed_tells a.0 a.1 number c words (subst IsDrop at is))))

pub drops_what_was_told : DropsWhatWasTold
drops_what_was_told g s w v labels number words control is e j index callee =
    let free : World = with_control Free w in
    subst (Tells (Drops g free j index callee)) (ap (λ (c : Control). next_by g s free c) (sym control) ∙ e) (calling_tells g free j index callee number words is)
