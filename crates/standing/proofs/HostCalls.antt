-- Calls by code that gives out places, as the code of a lowering answers them and as the machine does.
use Rattle.std.proofs.Common.{◌≡◌, ℕ, zero, suc, Bool, true, false, nat_eq, if◌then◌else◌, List, [], ◌∷◌, ◌++◌, length, slice_index, refl, sym, ap, ◌∙◌, subst, append_assoc, append-nil, eqb-true, Option, Some, None, Result, Ok, Err}
use Rattle.std.specs.List.{slice_get}
use Rattle.std.specs.Option.{option_map}
use Rattle.wasm_store.specs.Stack.{Stack}
use Rattle.wasm_store.specs.Step.{resume}
use Rattle.wasm_execution.specs.Waiting.{Waiting}
use Rattle.syntax_trees.specs.declared.types.ValType.{ValType}
use Rattle.handle_table.specs.History.{Event, live}
use Rattle.handle_table.specs.Slots.{Slots, entry_at}
use Rattle.handle_table.specs.Alike.{StandsBy}
use Rattle.handle_table.proofs.Alike.{slot_shown}
use Rattle.res_handles.specs.declared.entry.EntryView.{EntryView}
use Rattle.res_handles.specs.declared.refusal.Refusal.{Refusal}
use Rattle.res_handles.specs.Calls as handles
use Rattle.res_handles.specs.Refusals.{handle_in, rep_of}
use Rattle.builtin_kinds.specs.declared.ContextOp.{ContextOp}
use Rattle.builtin_kinds.specs.declared.ContextOp.TheVariants as context_op
use Rattle.builtin_kinds.specs.declared.ResourceOp.{ResourceOp}
use Rattle.builtin_kinds.specs.declared.ResourceOp.TheVariants as resource_op
use Rattle.comp_graph.specs.declared.graph.BuiltinKind.{BuiltinKind}
use Rattle.comp_graph.specs.declared.graph.BuiltinKind.TheVariants as kind
use Rattle.comp_graph.specs.declared.graph.CanonFunc.{CanonFunc}
use Rattle.comp_graph.specs.declared.graph.CanonFunc.TheVariants as canon
use Rattle.comp_graph.specs.Graph.{Graph}
use Rattle.copy_engine.specs.declared.acts.Act.{Act}
use Rattle.copy_engine.specs.declared.acts.Acts.{Acts}
use Rattle.copy_engine.specs.declared.answering.Answer.{Answer}
use Rattle.copy_engine.specs.declared.answering.Answer.TheVariants as answer
use Rattle.copy_engine.specs.declared.answering.CallRefusal.{CallRefusal}
use Rattle.copy_engine.specs.declared.answering.CallRefusal.TheVariants as refusal
use Rattle.copy_engine.specs.declared.hosted.HostedRoom.{HostedRoom}
use Rattle.copy_engine.specs.Answering as code
use Rattle.copy_engine.specs.Answering.{first_word, kind_answer, canon_answer, maker_of, found_answer, resource_answer}
use Rattle.copy_engine.specs.Hosting as hosting
use Rattle.copy_engine.specs.Hosting.{with_act, reply_words, Going, GoesOn, Stops, goes_on}
use Rattle.instances.specs.declared.entry.WorldEntry.{WorldEntry}
use Rattle.instances.specs.Entries.{seen_as}
use Rattle.trace_labels.specs.declared.label.Label.{Label}
use Rattle.trace_labels.specs.declared.label.Label.TheVariants as line
use Rattle.trace_labels.specs.declared.trap.TrapName.{TrapName}
use Rattle.trace_labels.specs.declared.trap.TrapName.TheVariants as trap
use Rattle.abi_machine.specs.Control as control
use Rattle.abi_machine.specs.Control.{Control, Free, Lowering, Nested, Behind, Quiet, Doomed}
use Rattle.abi_machine.specs.World.{Entry, Inst, Task, World}
use Rattle.abi_machine.specs.Canons.{builtin_of, inst_of_canon, canon_at}
use Rattle.abi_machine.specs.Counting.{entry_view}
use Rattle.abi_machine.specs.Edits.{changed_at, with_control, word_changed, word_set}
use Rattle.abi_machine.specs.Reading.{table_in, table_of}
use Rattle.abi_machine.specs.Traps.{renamed, refusal_name}
use Rattle.abi_machine.specs.Turn as turns
use Rattle.abi_machine.specs.Turn.{Turn, Steps, behind}
use Rattle.abi_machine.specs.Nested.{answered_in_place, answered_or_refused, calls_host}
use Rattle.abi_machine.specs.replies.Context as context
use Rattle.abi_machine.specs.replies.Context.{Answers, Exempt, word_of, rep_answered, rep_answer, exempt_kind, exempt_of}
use Rattle.abi_machine.proofs.sound.Found.{changed_there}
use Rattle.standing.specs.Instances.{EntryStands}
use Rattle.standing.specs.Lowers.{got_lines, act_lines, all_lines, room_at}
use Rattle.standing.proofs.Agreeing.{changed_twice}
use Rattle.standing.proofs.Found.{rep_alike, word_is}

makers_same : (c : CanonFunc) → maker_of c ≡ inst_of_canon c
makers_same (canon.Lower l) = refl
makers_same (canon.Builtin b) = refl

word_at_same : (slot : ℕ) (c : ℕ × ℕ) → code.word_at slot c ≡ context.word_at slot c
word_at_same zero c = refl
word_at_same (suc slot) c = refl

changed_as : (slot word : ℕ) (c : ℕ × ℕ) → word_changed slot word c ≡ code.word_changed slot word c
changed_as zero word c = refl
changed_as (suc slot) word c = refl

-- The lines of one call more.
pub lines_more : (g : Graph) (t : ℕ) (acts : List Act) (act : Act) → all_lines g t (acts ++ act ∷ []) ≡ all_lines g t acts ++ act_lines t act (canon_at g act.canon)
lines_more g t [] act = append-nil (act_lines t act (canon_at g act.canon))
lines_more g t (a ∷ acts) act =
    ap (λ (ls : List Label). act_lines t a (canon_at g a.canon) ++ ls) (lines_more g t acts act)
    ∙ sym (append_assoc (act_lines t a (canon_at g a.canon)) (all_lines g t acts) (act_lines t act (canon_at g act.canon)))

-- what code has of a task, with other words of context
abbrev with_context : ℕ × ℕ → HostedRoom → HostedRoom
with_context c r = record r { acts = record r.acts { context = c } }

-- In a world of a lowering, whose table these slots stand for.
module _ (g : Graph) (values : List ValType) (w : World) (l : Lowering) (task : Task) (inst : Inst) (r : HostedRoom) (units : ℕ) (table : List (Event Entry)) (slots : Slots WorldEntry)
    (there : slice_get w.tasks l.acts_for ≡ Some task) (inst_there : slice_get w.insts l.inst ≡ Some inst) (stands : StandsBy (EntryStands values) table slots) where
  abbrev here : World
  here = room_at w l r units table Free

  abbrev seen : ℕ → Option EntryView
  seen = handles.view_at seen_as slots

  -- An answer of code is that of the machine.
  abbrev AnswerAgrees : Answer → Option Exempt → Type 0
  AnswerAgrees (answer.Replies reply c) o =
      (exempt : Exempt) × (o ≡ Some exempt) × (exempt here ≡ Ok (record { words = reply_words reply; world = room_at w l (with_context c r) units table Free }))
  AnswerAgrees (answer.Refuses refusal.CannotLeave) o = o ≡ None
  AnswerAgrees (answer.Refuses (refusal.Refused why)) o = (exempt : Exempt) × (o ≡ Some exempt) × (exempt here ≡ Err (refusal_name why))
  AnswerAgrees (answer.Refuses refusal.NoRule) o = Unit {0}

  task_is : slice_get (here).tasks l.acts_for ≡ Some (record task { context = r.acts.context })
  task_is = changed_there l.acts_for (λ x. record x { context = r.acts.context }) w.tasks task there

  get_agrees : (words : List ℕ) (slot : ℕ) → AnswerAgrees (code.context_answer context_op.Get slot r.acts.context words) (Some (context.context_answer l.acts_for words context_op.Get slot))
  get_agrees words slot = (
    context.context_answer l.acts_for words context_op.Get slot,
    refl,
    ap (λ (o : Option Task). Ok (let a : Answers = record { words = word_of slot o ∷ []; world = here } in a)) task_is
        ∙ ap (λ (n : ℕ). Ok (let a : Answers = record { words = n ∷ []; world = here } in a)) (sym (word_at_same slot r.acts.context)),
  )

  word_world : (slot word : ℕ) → word_set l.acts_for slot word here ≡ room_at w l (with_context (code.word_changed slot word r.acts.context) r) units table Free
  word_world slot word =
      ap (λ (tasks : List Task). record here { tasks = tasks })
      (changed_twice l.acts_for (λ x. record x { context = word_changed slot word x.context }) (λ x. record x { context = r.acts.context }) w.tasks)
      ∙ ap (λ (c : ℕ × ℕ). room_at w l (with_context c r) units table Free) (changed_as slot word r.acts.context)

  set_agrees : (words : List ℕ) (slot : ℕ) (o : Option ℕ) → first_word words ≡ o
      → AnswerAgrees (code.set_answer slot r.acts.context o) (Some (context.context_answer l.acts_for words context_op.Set slot))
  set_agrees words slot None e = tt
  set_agrees words slot (Some word) e = (
    context.context_answer l.acts_for words context_op.Set slot,
    refl,
    ap (λ (n : ℕ). Ok (let a : Answers = record { words = []; world = word_set l.acts_for slot n here } in a)) (word_is words 0 word e)
        ∙ ap (λ (v : World). Ok (let a : Answers = record { words = []; world = v } in a)) (word_world slot word),
  )

  context_agrees : (words : List ℕ) (op : ContextOp) (slot : ℕ)
      → AnswerAgrees (code.context_answer op slot r.acts.context words) (Some (context.context_answer l.acts_for words op slot))
  context_agrees words context_op.Get slot = get_agrees words slot
  context_agrees words context_op.Set slot = set_agrees words slot (first_word words) refl

  by_rep : (exempt : Exempt) (found : Result ℕ Refusal) → exempt here ≡ rep_answered here (renamed refusal_name found)
      → AnswerAgrees (code.rep_answer found r.acts.context) (Some exempt)
  by_rep exempt (Ok rep) e = (exempt, refl, e)
  by_rep exempt (Err why) e = (exempt, refl, e)

  inst_is : table_of here l.inst ≡ table
  inst_is = ap table_in (changed_there l.inst (λ x. record x { table = table }) w.insts inst inst_there)

  rep_agrees : (words : List ℕ) (at resource : ℕ) (o : Option ℕ) → at ≡ l.inst → first_word words ≡ o
      → AnswerAgrees (code.rep_at seen resource r.acts.context o) (Some (rep_answer at resource (slice_index words 0)))
  rep_agrees words at resource None same e = tt
  rep_agrees words at resource (Some index) same e =
      by_rep (rep_answer at resource (slice_index words 0)) (rep_of (handle_in (seen index) resource))
      (ap (λ (n : ℕ). rep_answer at resource n here) (word_is words 0 index e)
      ∙ ap (λ (i : ℕ). rep_answer i resource index here) same
      ∙ ap (λ (t : List (Event Entry)). rep_answered here (renamed refusal_name (rep_of (handle_in (option_map (entry_view here l.inst index) (live t index)) resource)))) inst_is
      ∙ ap (λ (x : Result ℕ Refusal). rep_answered here (renamed refusal_name x))
      (rep_alike values here l.inst index resource (entry_at slots index) (live table index) (slot_shown (EntryStands values) table slots index stands)))

  resource_agrees : (words : List ℕ) (at : ℕ) (op : ResourceOp) (resource : ℕ) → at ≡ l.inst
      → AnswerAgrees (resource_answer seen op resource r.acts.context words) (exempt_kind l.acts_for words at (kind.Resource op resource))
  resource_agrees words at resource_op.New resource same = refl
  resource_agrees words at resource_op.Drop resource same = refl
  resource_agrees words at resource_op.Rep resource same = rep_agrees words at resource (first_word words) same refl

  kind_agrees : (words : List ℕ) (at : ℕ) (k : BuiltinKind) → at ≡ l.inst → AnswerAgrees (kind_answer seen k r.acts.context words) (exempt_kind l.acts_for words at k)
  kind_agrees words at (kind.Resource op resource) same = resource_agrees words at op resource same
  kind_agrees words at (kind.TaskReturn result options) same = refl
  kind_agrees words at (kind.Plain op) same = refl
  kind_agrees words at (kind.Context op slot) same = context_agrees words op slot
  kind_agrees words at (kind.Wait op cancellable memory) same = refl
  kind_agrees words at (kind.End of element op) same = refl

  canon_agrees : (words : List ℕ) (c : CanonFunc) → inst_of_canon c ≡ l.inst → AnswerAgrees (canon_answer seen c r.acts.context words) (exempt_of l.acts_for words c)
  canon_agrees words (canon.Lower x) same = refl
  canon_agrees words (canon.Builtin b) same = kind_agrees words b.instance b.kind same

  -- What follows a call: the code goes on, or comes to a trap, with the lines of what it did.
  pub record CallTurns (acts : Acts) (turn : Turn) (c : Control) : Type 0 where
    pub lines : List Label
    pub told : all_lines g l.acts_for acts.calls ≡ all_lines g l.acts_for r.acts.calls ++ lines
    pub is : turn ≡ Steps lines (room_at w l (record r { acts = acts }) units table c)

  abbrev pub GoingAgrees : Nested → Behind → Going → Turn → Type 0
  GoingAgrees n b (GoesOn k acts) turn = CallTurns acts turn (Quiet (record n { state = control.Going k }) b)
  GoingAgrees n b (Stops refusal.CannotLeave acts) turn = CallTurns acts turn (Doomed n.blame trap.CannotLeave)
  GoingAgrees n b (Stops (refusal.Refused why) acts) turn = CallTurns acts turn (Doomed n.blame (refusal_name why))
  GoingAgrees n b (Stops refusal.NoRule acts) turn = Unit {0}

  module _ (n : Nested) (b : Behind) (number : ℕ) (words : List ℕ) (waits : Waiting) (acts_for : n.acts_for ≡ l.acts_for) where
    abbrev asks : CanonFunc → Label
    asks c = line.Do l.acts_for (builtin_of c) words

    abbrev turn_of : CanonFunc → Option Exempt → Turn
    turn_of c o = behind (line.Do n.acts_for (builtin_of c) words ∷ []) (answered_or_refused n b waits.stack o here)

    told_so : (c : CanonFunc) (got : Option (List ℕ)) (context : ℕ × ℕ) → canon_at g number ≡ Some c
        → all_lines g l.acts_for (with_act context number words got r.acts).calls ≡ all_lines g l.acts_for r.acts.calls ++ asks c ∷ got_lines l.acts_for got
    told_so c got context e =
        lines_more g l.acts_for r.acts.calls (record { canon = number; words = words; got = got })
        ∙ ap (λ (o : Option CanonFunc). all_lines g l.acts_for r.acts.calls ++ act_lines l.acts_for (record { canon = number; words = words; got = got }) o) e

    replies : (c : CanonFunc) (reply : Option ℕ) (context : ℕ × ℕ) (is_count : Bool) (o : Option Exempt) → canon_at g number ≡ Some c → AnswerAgrees (answer.Replies reply context) o
        → GoingAgrees n b
        (if is_count then GoesOn (resume (reply_words reply) waits.stack) (with_act context number words (Some (reply_words reply)) r.acts)
        else Stops refusal.NoRule (with_act r.acts.context number words None r.acts)) (turn_of c o)
    unfolding answered_or_refused answered_in_place
    replies c reply context false o e a = tt
    replies c reply context true o e a = record {
      lines = asks c ∷ line.Got l.acts_for (reply_words reply) ∷ [];
      told = told_so c (Some (reply_words reply)) context e;
      is = ap (λ (p : Option Exempt). turn_of c p) a.1
          ∙ ap (λ (x : Result Answers TrapName). behind (line.Do n.acts_for (builtin_of c) words ∷ []) (answered_in_place n b waits.stack x here)) a.2
          ∙ ap
          (λ (t : ℕ). Steps (line.Do t (builtin_of c) words ∷ line.Got t (reply_words reply) ∷ [])
          (room_at w l (with_context context r) units table (Quiet (record n { state = control.Going (resume (reply_words reply) waits.stack) }) b))) acts_for;
    }

    refuses : (c : CanonFunc) (why : CallRefusal) (o : Option Exempt) → canon_at g number ≡ Some c → AnswerAgrees (answer.Refuses why) o
        → GoingAgrees n b (Stops why (with_act r.acts.context number words None r.acts)) (turn_of c o)
    unfolding answered_or_refused answered_in_place
    refuses c refusal.CannotLeave o e a = record {
      lines = asks c ∷ [];
      told = told_so c None r.acts.context e;
      is = ap (λ (p : Option Exempt). turn_of c p) a
          ∙ ap (λ (t : ℕ). Steps (line.Do t (builtin_of c) words ∷ []) (room_at w l r units table (Doomed n.blame trap.CannotLeave))) acts_for;
    }
    refuses c (refusal.Refused why) o e a = record {
      lines = asks c ∷ [];
      told = told_so c None r.acts.context e;
      is = ap (λ (p : Option Exempt). turn_of c p) a.1
          ∙ ap (λ (x : Result Answers TrapName). behind (line.Do n.acts_for (builtin_of c) words ∷ []) (answered_in_place n b waits.stack x here)) a.2
          ∙ ap (λ (t : ℕ). Steps (line.Do t (builtin_of c) words ∷ []) (room_at w l r units table (Doomed n.blame (refusal_name why)))) acts_for;
    }
    refuses c refusal.NoRule o e a = tt

    answered : (c : CanonFunc) (a : Answer) (o : Option Exempt) → canon_at g number ≡ Some c → AnswerAgrees a o → GoingAgrees n b (goes_on number words waits a r.acts) (turn_of c o)
    answered c (answer.Replies reply context) o e a = replies c reply context (nat_eq waits.count (length (reply_words reply))) o e a
    answered c (answer.Refuses why) o e a = refuses c why o e a

    by_own : (c : CanonFunc) (own : Bool) → canon_at g number ≡ Some c → nat_eq (inst_of_canon c) l.inst ≡ own
        → GoingAgrees n b (goes_on number words waits (if own then canon_answer seen c r.acts.context words else answer.Refuses refusal.NoRule) r.acts)
        (if own then turn_of c (exempt_of n.acts_for words c) else turns.Stuck)
    by_own c false e own = tt
    by_own c true e own =
        subst (λ (t : ℕ). GoingAgrees n b (goes_on number words waits (canon_answer seen c r.acts.context words) r.acts) (turn_of c (exempt_of t words c))) (sym acts_for)
        (answered c (canon_answer seen c r.acts.context words) (exempt_of l.acts_for words c) e (canon_agrees words c (eqb-true (inst_of_canon c) l.inst own)))

    host_is : (c : CanonFunc) → n.inst ≡ l.inst → (if nat_eq (inst_of_canon c) l.inst then turn_of c (exempt_of n.acts_for words c) else turns.Stuck) ≡ calls_host n b waits.stack words c here
    unfolding calls_host
    host_is c inst = ap (λ (i : ℕ). if nat_eq (inst_of_canon c) i then turn_of c (exempt_of n.acts_for words c) else turns.Stuck) (sym inst)

    pub host_agrees : (o : Option CanonFunc) → canon_at g number ≡ o → n.inst ≡ l.inst
        → GoingAgrees n b (goes_on number words waits (found_answer o l.inst seen r.acts.context words) r.acts) (turns.given o (λ c. calls_host n b waits.stack words c here))
    host_agrees None e inst = tt
    host_agrees (Some c) e inst =
        subst (λ (turn : Turn). GoingAgrees n b (goes_on number words waits (found_answer (Some c) l.inst seen r.acts.context words) r.acts) turn) (host_is c inst)
        (subst
        (λ (i : ℕ). GoingAgrees n b (goes_on number words waits (if nat_eq i l.inst then canon_answer seen c r.acts.context words else answer.Refuses refusal.NoRule) r.acts)
        (if nat_eq (inst_of_canon c) l.inst then turn_of c (exempt_of n.acts_for words c) else turns.Stuck)) (sym (makers_same c))
        (by_own c (nat_eq (inst_of_canon c) l.inst) e refl))
