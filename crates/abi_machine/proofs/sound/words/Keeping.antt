-- What a turn keeps of words, and of where the elements of copies stand: tasks, tables, streams and futures that are changed, steps, answers, blocked
-- tasks and what is lifted.
use Rattle.std.proofs.Common.{◌≡◌, inl, inr, ℕ, ◌+◌, Bool, true, false, nat_eq, nat_lt, List, [], ◌∷◌, ◌++◌, length, drop, refl, sym, ap, ◌∙◌, subst, arith, Option, Some, None, Result, Ok, Err, if◌then◌else◌}
use Rattle.std.specs.Prelude.{slice_index}
use Rattle.std.specs.List.{slice_get}
use Rattle.handle_table.specs.History.{live, next_index, live_count, most_live}
use Rattle.wasm_store.proofs.Lists.{all_at}
use Rattle.syntax_trees.specs.declared.types.ValType.{ValType}
use Rattle.builtin_kinds.specs.declared.EndKind.{EndKind}
use Rattle.builtin_kinds.specs.declared.EndKind.TheVariants.{Stream, Future}
use Rattle.builtin_kinds.specs.declared.EndSide.{EndSide}
use Rattle.syntax_trees.specs.declared.value.Value.{Value}
use Rattle.stream_ends.specs.declared.open_copy.By.TheVariants as by
use Rattle.stream_ends.specs.declared.open_copy.OpenCopy.{OpenCopy}
use Rattle.stream_ends.specs.Ends.{new_copy, end_at}
use Rattle.comp_graph.specs.declared.graph.Options.{Options}
use Rattle.comp_graph.specs.declared.graph.BuiltinKind.TheVariants as builtin
use Rattle.comp_graph.specs.declared.graph.EndOp.TheVariants as end_op
use Rattle.wasm_store.specs.Store.{Store}
use Rattle.wasm_numbers.specs.Types.{AreWords}
use Rattle.tasks.specs.declared.subtask_state.SubtaskState.{SubtaskState}
use Rattle.tasks.specs.Subtasks.{delivered, with_lend}
use Rattle.comp_graph.specs.Graph.{Graph, copy_type}
use Rattle.script_reader.specs.Script.{Script}
use Rattle.trace_labels.specs.declared.label.Label.{Label}
use Rattle.trace_labels.specs.declared.label.BlockReason.{BlockReason}
use Rattle.trace_labels.specs.declared.trap.TrapName.{TrapName}
use Rattle.trace_labels.specs.declared.trap.TrapName.TheVariants as trap
use Rattle.abi_machine.specs.declared.run_end.RunEnd.TheVariants.{Fuel}
use Rattle.abi_machine.specs.Control.{EndRef}
use Rattle.abi_machine.specs.World.{Entry, Inst, Callee, Subtask, Caller, Nobody, Host, Guest, TaskState, Channel, Task, World, new_inst, new_task, New}
use Rattle.abi_machine.specs.Edits.{changed_at, added, with_channel, channel_made, carried, offered_by, offered, transferred, concluded, end_dropped, entry_added, entry_removed, left_set, unit_spent, in_state, caller_changed, by_view, control_behind, lent, told, with_subtask}
use Rattle.abi_machine.specs.Reading.{table_in, table_of, task_at, subtask_of}
use Rattle.abi_machine.specs.Lifting.{Kept, Stopped, Came, once_lifted}
use Rattle.abi_machine.specs.Turn.{Turn, Steps, Ends, Stuck, doomed, behind, given, unless_refused, unless, unless_fault, goes_on_with, blocked, charged, with_entry}
use Rattle.abi_machine.specs.Calling.{with_subtask_of}
use Rattle.abi_machine.specs.Reply.{copy_size}
use Rattle.abi_machine.specs.sound.Agreeing.{channel_in}
use Rattle.abi_machine.specs.sound.CopyPlaces.{IsTested}
use Rattle.abi_machine.specs.sound.Changes.{Stands}
use Rattle.abi_machine.specs.sound.Premises.{IsHandle, IsFree, IsTaken}
use Rattle.abi_machine.specs.sound.Answers.{HasRep}
use Rattle.abi_machine.specs.sound.Words.{IsPassed, WaitsWithWords, WasPassed, KeepsWords, HaveReps, ControlAdds, HoldsWords}
use Rattle.abi_machine.proofs.sound.Lists.{all_changed, all_more, more_either}
use Rattle.abi_machine.proofs.sound.Lifts.{Leaves as LeavesWith}
use Rattle.abi_machine.proofs.sound.OnePlace.{table_back, added_so}
use Rattle.abi_machine.proofs.sound.CopyEdits.{Before, same_comes, AllCome, conclude_come, drop_come, transfer_come, OfCall, offered_copies, channel_either, made_copies}
use Rattle.abi_machine.proofs.sound.CopyKinds.{IsKind}
use Rattle.abi_machine.proofs.sound.words.Lifted.{reps_same, reps_removed, reps_left, ComesSmall}

-- Tables to which an entry is added, and one more instance.
pub reps_added : (insts : List Inst) (i : ℕ) (entry : Entry) → HasRep entry → HaveReps insts → HaveReps (changed_at i (λ inst. record inst { table = added entry inst.table }) insts)
reps_added insts i entry new h j index x there = elim (table_back insts i (λ inst. record inst { table = added entry inst.table }) j index x there) [
  | inl at ↦ elim (added_so (nat_eq (next_index at.1.0.table) index) entry x (live at.1.0.table index) at.1.2) [
    | inl same ↦ subst HasRep same.1 new
    | inr old ↦ h j index x (subst (λ (o : Option Inst). live (table_in o) index ≡ Some x) (sym at.1.1) old)
  ]
  | inr old ↦ h j index x old
]

nothing_new : (index : ℕ) (x : Entry) (y : Inst) → y ≡ new_inst → live y.table index ≡ Some x → ⊥
nothing_new index x y same k = (let clash : None ≡ Some x = subst (λ (z : Inst). live z.table index ≡ Some x) same k in cc)

pub reps_begun : (insts : List Inst) → HaveReps insts → HaveReps (insts ++ new_inst ∷ [])
reps_begun insts h i index x there = by (slice_get (insts ++ new_inst ∷ []) i) refl there
  where
    by : (o : Option Inst) → slice_get (insts ++ new_inst ∷ []) i ≡ o → live (table_in o) index ≡ Some x → HasRep x
    by None e k = cc
    by (Some y) e k = elim (more_either insts new_inst i y e) [
      | inl old ↦ h i index x (subst (λ (o : Option Inst). live (table_in o) index ≡ Some x) (sym old) k)
      | inr last ↦ absurd (nothing_new index x y last.1 k)
    ]

-- What is to be so of each copy under way, at an end of elements of this type: it is so of each read or write that is tested, where the store is the one
-- at the start of the step; and it stays so where as many elements are to stand at the same place, for the same canonical function.
pub record Ground (g : Graph) : Type 1 where
  pub Placed : Option ValType → OpenCopy → Type 0
  pub same : (o : Option ValType) (x y : OpenCopy) → y.canon ≡ x.canon → y.place ≡ x.place → y.length ≡ x.length → Placed o x → Placed o y
  pub store : Store
  pub offers : (t number : ℕ) (what : EndKind) (side : EndSide) (element : Option ValType) (options : Options) (words : List ℕ) → IsKind g number (builtin.End what element (end_op.Copy side options))
      → AreWords (copy_type what).params words → IsTested store options element (slice_index words 1) (copy_size what words) → Placed element (new_copy (by.Task t) number (slice_index words 1) (copy_size what words))

module _ {g : Graph} (ground : Ground g) where
  abbrev pub ArePlaced : List Channel → List Channel → Type 0
  ArePlaced streams futures =
      (e : EndRef) (c : Channel) (copy : OpenCopy) → channel_in e.kind e.number streams futures ≡ Some c → (end_at e.side c.ends.view).copy ≡ Some copy → ground.Placed c.element copy

  abbrev pub Holds : World → Type 0
  Holds w = HoldsWords g w.tasks w.insts × ArePlaced w.streams w.futures

  abbrev pub KeepsOf : Task → Type 0
  KeepsOf task = KeepsWords g task.state task.caller task.context

  pub task_keeps : (w : World) (t : ℕ) (task : Task) → slice_get w.tasks t ≡ Some task → Holds w → KeepsOf task
  task_keeps w t task there h = all_at KeepsOf w.tasks t task h.0.keep there

  -- Tasks that are changed: but for its state, its caller and its words; its state; and the caller's side of its call.
  pub task_so : (w : World) (t : ℕ) (f : Task → Task) → ((x : Task) → KeepsOf x → KeepsOf (f x)) → Holds w → HoldsWords g (changed_at t f w.tasks) w.insts × ArePlaced w.streams w.futures
  task_so w t f keeps h = (record { keep = all_changed KeepsOf t f w.tasks (λ x e k. keeps x k) h.0.keep; reps = h.0.reps }, h.1)

  pub state_so : (w : World) (t : ℕ) (state : TaskState) → WaitsWithWords g state → Holds w → Holds (in_state t state w)
  state_so w t state waits h = task_so w t (λ task. record task { state = state }) (λ x k. record { waits = waits; passed = k.passed; first = k.first; second = k.second }) h

  passed_same : (f : Subtask → Subtask) → ((x : Subtask) → (f x).canon ≡ x.canon) → ((x : Subtask) → (f x).words ≡ x.words) → (c : Caller) → WasPassed g c → WasPassed g (caller_changed f c)
  passed_same f canon words Nobody h = h
  passed_same f canon words (Host call values) h = h
  passed_same f canon words (Guest subtask) h =
      subst (λ (n : ℕ). IsPassed g n (f subtask).words) (sym (canon subtask)) (subst (λ (ws : List ℕ). IsPassed g subtask.canon ws) (sym (words subtask)) h)

  pub subtask_so : (w : World) (t : ℕ) (f : Subtask → Subtask) → ((x : Subtask) → (f x).canon ≡ x.canon) → ((x : Subtask) → (f x).words ≡ x.words) → Holds w → Holds (with_subtask t f w)
  subtask_so w t f canon words h =
      task_so w t (λ task. record task { caller = caller_changed f task.caller })
      (λ x k. record { waits = k.waits; passed = passed_same f canon words x.caller k.passed; first = k.first; second = k.second }) h

  pub told_so : (w : World) (t : ℕ) (state : SubtaskState) → Holds w → Holds (told t state w)
  told_so w t state h = subtask_so w t (by_view delivered t state) (λ x. refl) (λ x. refl) h

  pub more_so : (w : World) (callee : Callee) (caller : Caller) → WasPassed g caller → Holds w → HoldsWords g (w.tasks ++ new_task callee caller New ∷ []) w.insts × ArePlaced w.streams w.futures
  more_so w callee caller passed h = (
    record {
      keep = all_more KeepsOf w.tasks (new_task callee caller New) h.0.keep (record { waits = tt; passed = passed; first = omega arith; second = omega arith });
      reps = h.0.reps;
    },
    h.1,
  )

  -- Tables that are changed.
  pub insts_so : (w : World) (insts : List Inst) → HaveReps insts → Holds w → HoldsWords g w.tasks insts × ArePlaced w.streams w.futures
  insts_so w insts reps h = (record { keep = h.0.keep; reps = reps }, h.1)

  pub added_keeps : (i : ℕ) (entry : Entry) (w : World) → HasRep entry → Holds w → Holds (entry_added i entry w)
  added_keeps i entry w new h = insts_so w _ (reps_added w.insts i entry new h.0.reps) h

  pub inst_so : (w : World) (i : ℕ) (f : Inst → Inst) → ((x : Inst) → (f x).table ≡ x.table) → Holds w → HoldsWords g w.tasks (changed_at i f w.insts) × ArePlaced w.streams w.futures
  inst_so w i f same h = insts_so w (changed_at i f w.insts) (reps_same w.insts i f same h.0.reps) h

  pub removed_keeps : (i index : ℕ) (w : World) → Holds w → Holds (entry_removed i index w)
  removed_keeps i index w h = insts_so w _ (reps_removed i index w h.0.reps) h

  pub left_keeps : (i index : ℕ) (w : World) → Holds w → Holds (left_set i index (entry_removed i index w))
  left_keeps i index w h = insts_so w _ (reps_left i index w h.0.reps) h

  -- Streams and futures that are changed: copies are those that were under way, or the one of a read or write.
  copy_as : (o p : Option ValType) (x y : OpenCopy) → y.canon ≡ x.canon → y.place ≡ x.place → y.length ≡ x.length → o ≡ p → ground.Placed p x → ground.Placed o y
  copy_as o p x y canon place long same h = subst (λ (q : Option ValType). ground.Placed q y) (sym same) (ground.same p x y canon place long h)

  abbrev PlacedIn : World → Type 0
  PlacedIn w = ArePlaced w.streams w.futures

  edit_placed : (kind : EndKind) (number : ℕ) (f : Channel → Channel) (w : World) → ((c : Channel) → AllCome c.ends.view (f c).ends.view) → ((c : Channel) → (f c).element ≡ c.element) → PlacedIn w
      → PlacedIn (with_channel kind number f w)
  edit_placed kind number f w comes same h e c copy there under = elim (channel_either kind e.kind number e.number f w c there) [
    | inl new ↦ (
        let b : Before (end_at e.side new.2.0.ends.view).copy copy = comes new.2.0 e.side copy (ap (λ (x : Channel). (end_at e.side x.ends.view).copy) (sym new.2.2) ∙ under) in
        copy_as c.element new.2.0.element b.0 copy b.3 b.4 b.5 (ap (λ (x : Channel). x.element) new.2.2 ∙ same new.2.0) (h e new.2.0 b.0 new.2.1 b.1)
        )
    | inr old ↦ h e c copy old under
  ]

  beside : (kind : EndKind) (number : ℕ) (f : Channel → Channel) (w : World) → PlacedIn (with_channel kind number f w) → Holds w → Holds (with_channel kind number f w)
  beside Stream number f w placed h = (h.0, placed)
  beside Future number f w placed h = (h.0, placed)

  edit_so : (kind : EndKind) (number : ℕ) (f : Channel → Channel) (w : World) → ((c : Channel) → AllCome c.ends.view (f c).ends.view) → ((c : Channel) → (f c).element ≡ c.element) → Holds w → Holds (with_channel kind number f w)
  edit_so kind number f w comes same h = beside kind number f w (edit_placed kind number f w comes same h.1) h

  pub concluded_so : (e : EndRef) (w : World) → Holds w → Holds (concluded e w)
  concluded_so e w h = edit_so e.kind e.number _ w (λ c. conclude_come e.kind e.side c.ends) (λ c. refl) h

  pub dropped_so : (e : EndRef) (w : World) → Holds w → Holds (end_dropped e w)
  dropped_so e w h = edit_so e.kind e.number _ w (λ c. drop_come e.side c.ends.view) (λ c. refl) h

  pub transferred_so : (e : EndRef) (size : ℕ) (values : List (Option Value)) (w : World) → Holds w → Holds (transferred e size values w)
  transferred_so e size values w h =
      edit_so e.kind e.number _ _ (λ c. transfer_come e.kind e.side size (length values) c.ends) (λ c. refl)
      (edit_so e.kind e.number (carried values) w (λ c side. same_comes (end_at side c.ends.view).copy) (λ c. refl) h)

  pub made_so : (kind : EndKind) (element : Option ValType) (w : World) → Holds w → Holds (channel_made kind element w)
  made_so kind element w h = by kind (λ e c copy there under. h.1 e c copy (made_copies kind element w e c copy there under) under)
    where
      by : (k : EndKind) → PlacedIn (channel_made k element w) → Holds (channel_made k element w)
      by Stream placed = (h.0, placed)
      by Future placed = (h.0, placed)

  -- a read or write at an end, which is so
  abbrev pub CallPlaced : EndRef → OpenCopy → World → Type 0
  CallPlaced e call w = (x : Channel) → channel_in e.kind e.number w.streams w.futures ≡ Some x → ground.Placed x.element call

  call_placed : (w : World) (d e : EndRef) (call copy : OpenCopy) (x : Channel) → CallPlaced d call w → e.kind ≡ d.kind → e.number ≡ d.number → channel_in e.kind e.number w.streams w.futures ≡ Some x → copy ≡ call
      → ground.Placed x.element copy
  call_placed w d e call copy x fits kind number found same =
      let at : channel_in d.kind d.number w.streams w.futures ≡ Some x = subst (λ (k : EndKind). channel_in k d.number w.streams w.futures ≡ Some x) kind (subst (λ (n : ℕ). channel_in e.kind n w.streams w.futures ≡ Some x) number found) in
      subst (ground.Placed x.element) (sym same) (fits x at)

  pub offered_so : (d : EndRef) (call : OpenCopy) (w : World) → CallPlaced d call w → Holds w → Holds (offered d call w)
  offered_so d call w fits h = beside d.kind d.number (λ c. record c { ends = offered_by d.kind d.side call c.ends }) w placed h
    where
      by_case : (e : EndRef) (c : Channel) (copy : OpenCopy) (x : Channel) → e.kind ≡ d.kind → e.number ≡ d.number → channel_in e.kind e.number w.streams w.futures ≡ Some x
          → c ≡ record x { ends = offered_by d.kind d.side call x.ends } → OfCall d.side call x.ends e.side copy → ground.Placed c.element copy
      by_case e c copy x kind number found is (inl own) =
          subst (λ (y : Option ValType). ground.Placed y copy) (sym (ap (λ (y : Channel). y.element) is)) (call_placed w d e call copy x fits kind number found own.1)
      by_case e c copy x kind number found is (inr b) = copy_as c.element x.element b.0 copy b.3 b.4 b.5 (ap (λ (y : Channel). y.element) is) (h.1 e x b.0 found b.1)

      placed : PlacedIn (offered d call w)
      placed e c copy there under = elim (channel_either d.kind e.kind d.number e.number (λ c. record c { ends = offered_by d.kind d.side call c.ends }) w c there) [
        | inl new ↦ by_case e c copy new.2.0 new.0 new.1 new.2.1 new.2.2
            (offered_copies d.kind d.side call new.2.0.ends e.side copy (ap (λ (x : Channel). (end_at e.side x.ends.view).copy) (sym new.2.2) ∙ under))
        | inr old ↦ h.1 e c copy old under
      ]

  -- A turn whose step leaves it so.
  abbrev pub Keeps : Turn → Type 0
  Keeps (Steps labels v) = Holds v × ControlAdds v.control
  Keeps (Ends end) = Unit {0}
  Keeps Stuck = Unit {0}

  pub given_keeps : {A : Type 0} (o : Option A) (f : A → Turn) → ((x : A) → o ≡ Some x → Keeps (f x)) → Keeps (given o f)
  given_keeps None f h = tt
  given_keeps (Some x) f h = h x refl

  pub behind_keeps : (lines : List Label) (t : Turn) → Keeps t → Keeps (behind lines t)
  behind_keeps lines (Steps labels v) h = h
  behind_keeps lines (Ends end) h = tt
  behind_keeps lines Stuck h = tt

  pub either_keeps : (b : Bool) (t u : Turn) → Keeps t → Keeps u → Keeps (if b then t else u)
  either_keeps true t u h i = h
  either_keeps false t u h i = i

  pub refused_keeps : {A : Type 0} (t : ℕ) (r : Result A TrapName) (w : World) (f : A → Turn) → Holds w → ((x : A) → r ≡ Ok x → Keeps (f x)) → Keeps (unless_refused t r w f)
  refused_keeps t (Err why) w f h more = (h, tt)
  refused_keeps t (Ok x) w f h more = more x refl

  pub unless_keeps : (t : ℕ) (b : Bool) (why : TrapName) (w : World) (more : Turn) → Holds w → Keeps more → Keeps (unless t b why w more)
  unless_keeps t true why w more h keeps = (h, tt)
  unless_keeps t false why w more h keeps = keeps

  pub fault_keeps : {F : Type 0} (t : ℕ) (name : F → TrapName) (o : Option F) (w : World) (more : Turn) → Holds w → Keeps more → Keeps (unless_fault t name o w more)
  fault_keeps t name None w more h keeps = keeps
  fault_keeps t name (Some fault) w more h keeps = (h, tt)

  pub charged_keeps : (costs : Bool) (s : Script) (w : World) (f : World → Turn) → ((units : ℕ) → Keeps (f (record w { units = units }))) → Keeps (charged costs s w f)
  charged_keeps false s w f keeps = keeps w.units
  charged_keeps true s w f keeps = either_keeps (nat_lt w.units s.fuel) (f (unit_spent w)) (Ends Fuel) (keeps (w.units + 1)) tt

  pub subtask_keeps : (w : World) (callee : ℕ) (more : Task → Subtask → Turn) → ((task : Task) (subtask : Subtask) → Keeps (more task subtask)) → Keeps (with_subtask_of w callee more)
  subtask_keeps w callee more h = given_keeps (task_at w callee) _ (λ task e. given_keeps (subtask_of task.caller) _ (λ subtask i. h task subtask))

  pub entry_keeps : (t i : ℕ) (entry : Entry) (w : World) (more : ℕ → World → Turn) → Holds w → Keeps (more (next_index (table_of w i)) (entry_added i entry w)) → Keeps (with_entry t i entry w more)
  entry_keeps t i entry w more h keeps =
      either_keeps (nat_lt (live_count (table_of w i)) most_live) (more (next_index (table_of w i)) (entry_added i entry w)) (doomed t trap.TableFull w) keeps (h, tt)

  -- Control goes to the task before one that blocks or exits.
  pub behind_adds : (chain : List ℕ) → ControlAdds (control_behind chain)
  behind_adds [] = tt
  behind_adds (t ∷ below) = tt

  pub blocked_keeps : (t : ℕ) (state : TaskState) (reason : BlockReason) (w : World) → WaitsWithWords g state → Holds w → Keeps (blocked t state reason w)
  blocked_keeps t state reason w waits h = (state_so w t state waits h, behind_adds (drop 1 w.chain))

  pub on_keeps : (t : ℕ) (words : List ℕ) (w : World) → Holds w → Holds (goes_on_with t words w)
  on_keeps t words w h = task_so w t _ (λ x k. k) h

  -- Lifting.
  pub removes : (j index : ℕ) (w : World) → Stands w j index (IsFree w j index) → Holds w → Holds (entry_removed j index w)
  removes j index w may h = removed_keeps j index w h

  pub waits : (j index : ℕ) (w : World) → Stands w j index (IsTaken w) → Holds w → Holds (left_set j index (entry_removed j index w))
  waits j index w may h = left_keeps j index w h

  pub lends : (i callee index : ℕ) (w : World) → Unit {0} → Stands w i index IsHandle → Holds w → Holds (lent callee index w)
  lends i callee index w used there h = subtask_so w callee (λ subtask. by_view (with_lend index) callee subtask.told subtask) (λ x. refl) (λ x. refl) h

  pub came_keeps : {A : Type 0} (P : A → Type 0) (t : ℕ) (came : Came A) (more : A → World → Turn) → LeavesWith (λ (k : Kept). Holds k.world) (λ (stop : Stopped). Holds stop.world) came → ComesSmall P came
      → ((x : A) (v : World) → P x → Holds v → Keeps (more x v)) → Keeps (once_lifted t came more)
  came_keeps P t (Ok x) more h small keeps = behind_keeps x.1.lines (more x.0 x.1.world) (keeps x.0 x.1.world small.0 h)
  came_keeps P t (Err stop) more h small keeps = (h, tt)
