-- Calls that are answered in the turn of their line, though values are to be passed: `task.return`, and built-ins of ends.
use Rattle.std.proofs.Common.{◌≡◌, ◌<◌, ℕ, true, if◌then◌else◌, List, [], ◌∷◌, ◌++◌, refl, sym, ap, ◌∙◌, subst, is_some, Option, Some, None}
use Rattle.std.specs.Prelude.{IsSome}
use Rattle.std.specs.List.{slice_get}
use Rattle.wasm_store.specs.Stack.{Stack}
use Rattle.syntax_trees.specs.declared.types.FuncType.{FuncType}
use Rattle.syntax_trees.specs.declared.types.ValType.{ValType}
use Rattle.comp_graph.specs.declared.graph.Builtin.{Builtin}
use Rattle.comp_graph.specs.declared.graph.BuiltinKind.{BuiltinKind}
use Rattle.comp_graph.specs.declared.graph.BuiltinKind.TheVariants as kind
use Rattle.comp_graph.specs.declared.graph.CanonFunc.{CanonFunc}
use Rattle.comp_graph.specs.declared.graph.CanonFunc.TheVariants as canon
use Rattle.comp_graph.specs.Graph.{Graph, Lifted}
use Rattle.script_reader.specs.Script.{Script}
use Rattle.trace_labels.specs.declared.builtin.Builtin as shown
use Rattle.trace_labels.specs.declared.label.Label.TheVariants as line
use Rattle.trace_labels.specs.declared.trap.TrapName.TheVariants as trap
use Rattle.world_parts.specs.declared.parts.Flow.{Flow}
use Rattle.world_parts.specs.declared.parts.Rest.TheVariants as rest
use Rattle.world_parts.specs.Held.{Held, Done, Gives, Traps, after}
use Rattle.world_parts.specs.Plain.{return_asked}
use Rattle.world_parts.specs.Slots.{words_of}
use Rattle.copy_replies.specs.Replies.{end_reply}
use Rattle.replies.specs.Replies.{may_leave, begun, builtin_reply}
use Rattle.world_stacks.specs.Exempt.{builtin_answer}
use Rattle.machine_runs.specs.Calling.{canon_answered, kind_answered, allowed, calls}
use Rattle.abi_machine.specs.Canons.{builtin_of, canon_at, options_at}
use Rattle.abi_machine.specs.Reading as reading
use Rattle.abi_machine.specs.Reply as machine
use Rattle.abi_machine.specs.Reply.{builtin_turn, reply, calling_turn}
use Rattle.abi_machine.specs.replies.Context.{Exempt, exempt_kind, exempt_of}
use Rattle.abi_machine.specs.replies.Tasks.{return_turn}
use Rattle.abi_machine.specs.Turn as turns
use Rattle.abi_machine.specs.Turn.{Turn, behind, doomed}
use Rattle.abi_machine.specs.World.{Task, World}
use Rattle.standing.specs.Agreeing.{Agrees}
use Rattle.standing.specs.Stands.{Stands}
use Rattle.standing.specs.Tasks.{TaskStands}
use Rattle.standing.proofs.Agreeing.{on_trap}
use Rattle.standing.proofs.Blocking.{on_test}
use Rattle.standing.proofs.EndReplies.{end_is_answered}
use Rattle.standing.proofs.Going.{acting_there}
use Rattle.standing.proofs.Lists.{IsFound, found_both}
use Rattle.standing.proofs.Resolved.{task_returns}
use Rattle.standing.proofs.Steps.{via, found, turn_found, both_as, acting_is, words_are}
use Rattle.run_laws.specs.Answering.{words_of_kind, HasWordsFor, CallsOwn, IsSoundAt, IsBeside, HasTypes}
use Rattle.run_laws.specs.Dispatch.{line_told, KeepsWords}
use Rattle.run_laws.proofs.Answering.{end_words, memory_told}
use Rattle.run_laws.proofs.Calls.{agrees_behind}
use Rattle.run_laws.proofs.Canons.{names_are_alike, leave_is_alike}

-- Which built-ins these are.
abbrev pub IsOnce : BuiltinKind → Type 0
IsOnce (kind.Resource op resource) = ⊥
IsOnce (kind.TaskReturn result options) = Unit {0}
IsOnce (kind.Plain op) = ⊥
IsOnce (kind.Context op slot) = ⊥
IsOnce (kind.Wait op cancellable memory) = ⊥
IsOnce (kind.End of_what element op) = Unit {0}

-- None of them is answered where the instance may not be left.
kept_none : (t at : ℕ) (words : List ℕ) (h : Held) (k : BuiltinKind) → IsOnce k → builtin_answer t words at k h ≡ Gives None h
kept_none t at words h (kind.Resource op resource) once = absurd once
kept_none t at words h (kind.TaskReturn result options) once = refl
kept_none t at words h (kind.Plain op) once = absurd once
kept_none t at words h (kind.Context op slot) once = absurd once
kept_none t at words h (kind.Wait op cancellable memory) once = absurd once
kept_none t at words h (kind.End of_what element op) once = refl

machine_none : (t at : ℕ) (words : List ℕ) (k : BuiltinKind) → IsOnce k → exempt_kind t words at k ≡ None
machine_none t at words (kind.Resource op resource) once = absurd once
machine_none t at words (kind.TaskReturn result options) once = refl
machine_none t at words (kind.Plain op) once = absurd once
machine_none t at words (kind.Context op slot) once = absurd once
machine_none t at words (kind.Wait op cancellable memory) once = absurd once
machine_none t at words (kind.End of_what element op) once = refl

module _ (g : Graph) (values : List ValType) (s : Script) (funcs : List FuncType) (types : List (Option ℕ)) (h : Held) (stacks : List (List Stack)) (w : World) (t : ℕ) (task : Task)
    (f : Lifted) (number : ℕ) (words : List ℕ) (b : Builtin) (typed : HasTypes g values funcs types) (made : canon_at g number ≡ Some (canon.Builtin b)) (rests : h.rest ≡ rest.Calls number)
    (keeps : KeepsWords h t words) (has : HasWordsFor (canon.Builtin b) words) (first : slice_get w.chain 0 ≡ Some t) (there : slice_get w.tasks t ≡ Some task)
    (own : reading.may_leave w ≡ true → CallsOwn w t task f (canon.Builtin b)) (inside : IsSome (slice_get w.insts b.instance)) (sound : IsSoundAt g w t b.instance)
    (beside : IsBeside g h w t b.instance) (st : Stands g values s h stacks w) where
  abbrev c : CanonFunc
  c = canon.Builtin b

  abbrev told : Held
  told = line_told t c words h

  abbrev Agreed : Done Flow → Turn → Type 0
  Agreed d turn = Agrees g values s t told.labels stacks d turn

  -- What each of them answers.
  row : (k : BuiltinKind) → b.kind ≡ k → IsOnce k → reading.may_leave w ≡ true → Agreed (canon_answered g types t number c words told) (reply g t task number c words w)
  unfolding reply builtin_turn
  row (kind.Resource op resource) is once free = absurd once
  row (kind.TaskReturn result options) is once free =
      both_as g values s t told.labels stacks _ (return_asked t told) _ (return_turn g t task b.instance result options words w)
      (ap (λ (x : BuiltinKind). kind_answered g types t number c b.instance x words told) is ∙ ap (λ (x : BuiltinKind). builtin_reply g t b.instance number x words told) is)
      (ap (λ (x : BuiltinKind). builtin_turn g t task b.instance number x words w) is)
      (task_returns g values s told stacks w t number task b options words result first there (own free).state made is rests keeps st)
  row (kind.Plain op) is once free = absurd once
  row (kind.Context op slot) is once free = absurd once
  row (kind.Wait op cancellable memory) is once free = absurd once
  row (kind.End of_what element op) is once free =
      both_as g values s t told.labels stacks _ (end_reply g types t number words told) _ (builtin_turn g t task b.instance number b.kind words w)
      (ap (λ (x : BuiltinKind). kind_answered g types t number c b.instance x words told) is) refl
      (end_is_answered g values s told stacks w t number task b of_what element op funcs types words typed.distinct typed.canons made is
      (end_words of_what op words (λ n less. has n (subst (λ (x : BuiltinKind). n < words_of_kind x) (sym is) less)))
      (memory_told t c words h (options_at g number).memory ∙ beside.memories number) beside.ends sound.ends inside first there (own free).state st)

  allowed_once : (k : BuiltinKind) → b.kind ≡ k → IsOnce k → Agreed (allowed g types t number c words told) (machine.allowed g t task number c words (exempt_of t words c) w)
  unfolding allowed machine.allowed
  allowed_once k is once =
      let same : may_leave told ≡ reading.may_leave w = leave_is_alike g values s told stacks w st in
      both_as g values s t told.labels stacks _ (if may_leave told then canon_answered g types t number c words told else Traps trap.CannotLeave told) _
      (if reading.may_leave w then reply g t task number c words w else doomed t trap.CannotLeave w)
      (via _ _ _ _ (ap (λ (x : BuiltinKind). builtin_answer t words b.instance x told) is ∙ kept_none t b.instance words told k once))
      (ap (λ (o : Option Exempt). machine.allowed g t task number c words o w) (ap (λ (x : BuiltinKind). exempt_kind t words b.instance x) is ∙ machine_none t b.instance words k once))
      (on_test g values s t told.labels stacks (may_leave told) (reading.may_leave w) _ _ _ _ same (λ free. row k is once (sym same ∙ free))
      (λ no. on_trap g values s t told.labels stacks told w trap.CannotLeave refl st))

  pub called_once : (k : BuiltinKind) → b.kind ≡ k → IsOnce k → Agrees g values s t h.labels stacks (calls g types number h) (calling_turn g number words w)
  unfolding calls calling_turn
  called_once k is once =
      let one : IsFound (TaskStands g s) (slice_get h.tasks t) (slice_get w.tasks t) = found_both (TaskStands g s) h.tasks w.tasks t st.are_tasks (ap is_some there) in
      both_as g values s t h.labels stacks _ _ _ _
      (via _ _ _ _ (acting_is g values s h stacks w t first st) ∙ found (slice_get g.canons number) c (λ c. after (words_of t h) (λ words l. after (begun t c words l) (λ done m. allowed g types t number c words m))) made
      ∙ via _ _ _ _ (words_are t h one.left one.is_left ∙ ap (λ (words : List ℕ). Gives words h) (keeps one.left one.is_left))
      ∙ ap (λ (name : shown.Builtin). allowed g types t number c words (record h { labels = h.labels ++ line.Do t name words ∷ [] })) (names_are_alike c))
      (turn_found (reading.acting w) (t, task) (λ a. turns.given (canon_at g number) (λ c. behind (line.Do a.0 (builtin_of c) words ∷ [])
      (machine.allowed g a.0 a.1 number c words (exempt_of a.0 words c) w))) (acting_there w t task first there)
      ∙ turn_found (canon_at g number) c (λ c. behind (line.Do t (builtin_of c) words ∷ []) (machine.allowed g t task number c words (exempt_of t words c) w)) made)
      (agrees_behind g values s t h.labels stacks (line.Do t (builtin_of c) words) _ _ (allowed_once k is once))
