-- A lowering over a store, beside a table.
use Rattle.std.proofs.Common.{◌≡◌, ◌≤◌, ◌+◌, ℕ, zero, suc, Bool, true, false, if◌then◌else◌, List, [], ◌∷◌, ◌++◌, length, refl, sym, ap, ◌∙◌, subst, append-nil, inl, inr, Option, Some, None, Result, Ok, Err}
use Rattle.std.specs.List.{slice_get}
use Rattle.std.specs.Option.{option_map}
use Rattle.wasm_store.specs.Store.{Function, Store, found_at}
use Rattle.wasm_store.specs.Stack.{Stack}
use Rattle.wasm_execution.specs.Waiting.{Waiting}
use Rattle.wasm_execution.specs.Run.{RunGives}
use Rattle.wasm_execution.specs.declared.running.Outcome.{Outcome}
use Rattle.wasm_execution.specs.declared.running.Outcome.TheVariants as outcome
use Rattle.syntax_trees.specs.declared.types.ValType.{ValType}
use Rattle.handle_table.specs.History.{Event}
use Rattle.handle_table.specs.Slots.{Slots}
use Rattle.handle_table.specs.Alike.{StandsBy}
use Rattle.res_handles.specs.Calls as handles
use Rattle.value_lower.specs.declared.ends.LowerWhy.{LowerWhy}
use Rattle.value_lower.specs.declared.ends.RoomEnd.{RoomEnd}
use Rattle.value_lower.specs.declared.ends.RoomEnd.TheVariants.{Trapped, NoFuel, Memory}
use Rattle.value_lower.specs.Plan as lower
use Rattle.value_lower.specs.Plan.{Ask}
use Rattle.value_lower.specs.Following.{Rooms, Came, Words, Failed, Ended, Follows, written}
use Rattle.value_lower.specs.Tables.{IsEntry}
use Rattle.copy_engine.specs.declared.acts.Act.{Act}
use Rattle.copy_engine.specs.declared.acts.Acts.{Acts}
use Rattle.copy_engine.specs.declared.answering.Answer.{Answer}
use Rattle.copy_engine.specs.declared.answering.CallRefusal.{CallRefusal}
use Rattle.copy_engine.specs.declared.answering.CallRefusal.TheVariants as refusal
use Rattle.copy_engine.specs.declared.hosted.HostedRoom.{HostedRoom}
use Rattle.copy_engine.specs.declared.hosted.HostedTrap.{HostedTrap}
use Rattle.copy_engine.specs.declared.hosted.HostedTrap.TheVariants as hosted
use Rattle.copy_engine.specs.declared.lower_values.Lowered.{Lowered}
use Rattle.copy_engine.specs.declared.lower_values.Lowered.TheVariants as lowered
use Rattle.copy_engine.specs.Nested.{bytes_in, with_bytes_in, is_realloc, if_realloc, realloc_in, begun}
use Rattle.copy_engine.specs.Answering.{Setting, found_answer, host_answer}
use Rattle.copy_engine.specs.Hosting as hosting
use Rattle.copy_engine.specs.Hosting.{Point, Runs, Going, GoesOn, Stops, goes_on, GoesFurther, GoOn, Gone, Ends, HostedGives, AnswersBy}
use Rattle.copy_engine.specs.Hosted.{Placed, hosted_rooms, as_plan}
use Rattle.comp_graph.specs.declared.graph.CanonFunc.{CanonFunc}
use Rattle.comp_graph.specs.Graph.{Graph}
use Rattle.script_reader.specs.Script.{Script}
use Rattle.trace_labels.specs.declared.label.Label.{Label}
use Rattle.trace_labels.specs.declared.trap.TrapName.TheVariants as trap
use Rattle.instances.specs.declared.entry.WorldEntry.{WorldEntry}
use Rattle.instances.specs.Entries.{seen_as, of_handle, of_end}
use Rattle.abi_machine.specs.declared.run_end.RunEnd.TheVariants.{Fuel}
use Rattle.abi_machine.specs.LoweringOver as machine
use Rattle.abi_machine.specs.Traps.{core_name, lower_name, refusal_name}
use Rattle.abi_machine.specs.Control as control
use Rattle.abi_machine.specs.Control.{Control, Free, Lowering, Nested, Behind, InLowering, Lowers, Quiet, Doomed}
use Rattle.abi_machine.specs.World.{Entry, Inst, Task, World}
use Rattle.abi_machine.specs.Canons as canons
use Rattle.abi_machine.specs.Canons.{canon_at}
use Rattle.abi_machine.specs.Edits.{changed_at, rewritten}
use Rattle.abi_machine.specs.Reading.{table_in, table_of}
use Rattle.abi_machine.specs.Pausing as pause
use Rattle.abi_machine.specs.Pausing.{Paused, Settled, settle, entry_of, with_new}
use Rattle.abi_machine.specs.Turn.{Turn, Steps, given, silent}
use Rattle.abi_machine.specs.Lowering.{nested_of, paused, settled_turn, lowers_turn}
use Rattle.abi_machine.specs.Run.{RunsFrom}
use Rattle.abi_machine.specs.Nested.{nested_ended, calls_host}
use Rattle.abi_machine.specs.Next.{next, next_by}
use Rattle.abi_machine.proofs.sound.Found.{some_same, changed_there}
use Rattle.standing.specs.Instances.{EntryStands}
use Rattle.standing.specs.Reaching.{GoesTo, Meets, with_room}
use Rattle.standing.specs.Nested.{nested_at, NestedLeads}
use Rattle.standing.specs.Lowers.{why_as, PlanAgrees, all_lines, room_at, IsMemory, IsPlacedIn, LoweringLeads, LowersTo, LoweringsLead}
use Rattle.standing.proofs.Agreeing.{changed_twice}
use Rattle.standing.proofs.Reaching.{goes_same, goes_step, goes_then, goes_lines, meets_step, ends_behind}
use Rattle.standing.proofs.Acting.{changed_none}
use Rattle.standing.proofs.Nesting.{nested_runs_lead, calls_are_made}
use Rattle.standing.proofs.LoweredEntries.{AddsSo, adds_so}
use Rattle.standing.proofs.LoweredMemories.{HasAsMany, moves_keep, put_again, put_own, put_funcs, put_count, same_bytes, same_put, memory_kept}
use Rattle.standing.proofs.HostCalls.{CallTurns, GoingAgrees, host_agrees}

-- Want of memory of the program is not told.
abbrev IsTold : RoomEnd HostedTrap → Type 0
IsTold (Trapped why) = Unit {0}
IsTold NoFuel = Unit {0}
IsTold Memory = ⊥

abbrev Counts : Came HostedTrap → Type 0
Counts (Words words) = Unit {0}
Counts (Failed why) = Unit {0}
Counts (Ended end) = IsTold end

ok_err : {E : Type 0} (a : ℕ) (b : E) → (let r : Result ℕ E = Ok a in r) ≡ Err b → ⊥
ok_err a b e = absurd (cc)

err_same : {E : Type 0} (a b : E) → (let r : Result ℕ E = Err a in r) ≡ Err b → a ≡ b
err_same a b e = cc

-- A run that ends or calls leaves as many memories as there were.
done_keeps : (s t : Store) (k : Stack) (left after : ℕ) (words : List ℕ) → RunGives s k left (outcome.Done words) t after → HasAsMany s t
done_keeps s t k left after words h = moves_keep h.steps.0 h.spent s t k h.last h.steps.1

call_keeps : (s t : Store) (k : Stack) (left after number : ℕ) (words : List ℕ) (waits : Waiting) → RunGives s k left (outcome.Calls number words waits) t after → HasAsMany s t
call_keeps s t k left after number words waits h = moves_keep h.comes.steps.0 h.comes.spent s t k h.comes.last h.comes.steps.1

module _ (g : Graph) (values : List ValType) (s : Script) (w : World) (l : Lowering) (to : Setting) (task : Task) (inst : Inst)
    (realloc : to.options.realloc ≡ l.realloc) (same_canons : to.canons ≡ g.canons) (instance : to.instance ≡ l.inst)
    (task_there : slice_get w.tasks l.acts_for ≡ Some task) (inst_there : slice_get w.insts l.inst ≡ Some inst) where
  abbrev lines : HostedRoom → List Label
  lines r = all_lines g l.acts_for r.acts.calls

  abbrev memory_of : Placed WorldEntry → List ℕ
  memory_of p = bytes_in to.options.memory p.room.store

  abbrev rooms : Rooms (Placed WorldEntry) HostedTrap
  rooms = hosted_rooms seen_as (IsEntry of_handle of_end l.acts_for values) to

  -- What is left of a plan stands for the whole plan with which its last part began: it pauses where that does, over what is worked on now.
  record IsLeft (p0 : Placed WorldEntry) (n : ℕ) (table0 : List (Event Entry)) (whole : machine.Plan) (plan : lower.Plan) (m : machine.Plan) (p : Placed WorldEntry) (table : List (Event Entry)) : Type 0 where
    reached : GoesTo g s w (lines p0.room) (room_at w l p0.room n table0 (Lowers l whole))
    agrees : PlanAgrees plan m
    settles : settle l.acts_for whole (canons.bytes_of p0.room.store l.memory) table0 ≡ settle l.acts_for m (memory_of p) table
    puts : (x : List ℕ) → rewritten (found_at p0.room.store.memories l.memory) x p0.room.store ≡ with_bytes_in to.options.memory x p.room.store
    memory : IsMemory l.memory to.options.memory p.room.store
    fuel : n + p.room.fuel ≡ s.fuel
    acts : p.room.acts ≡ p0.room.acts
    stands : StandsBy (EntryStands values) table p.slots

  -- where a part begins
  is_left : (p : Placed WorldEntry) (n : ℕ) (table : List (Event Entry)) (plan : lower.Plan) (m : machine.Plan) → GoesTo g s w (lines p.room) (room_at w l p.room n table (Lowers l m))
      → PlanAgrees plan m → IsMemory l.memory to.options.memory p.room.store → n + p.room.fuel ≡ s.fuel → StandsBy (EntryStands values) table p.slots
      → IsLeft p n table m plan m p table
  is_left p n table plan m reached agrees memory fuel stands = record {
    reached = reached;
    agrees = agrees;
    settles = ap (λ (x : List ℕ). settle l.acts_for m x table) (same_bytes l.memory to.options.memory p.room.store memory);
    puts = λ x. same_put l.memory to.options.memory p.room.store x memory;
    memory = memory;
    fuel = fuel;
    acts = refl;
    stands = stands;
  }

  table_is : (r : HostedRoom) (n : ℕ) (table : List (Event Entry)) (c : Control) → table_of (room_at w l r n table c) l.inst ≡ table
  table_is r n table c = ap table_in (changed_there l.inst (λ x. record x { table = table }) w.insts inst inst_there)

  -- what comes next, by where the plan pauses
  turn_at : (p0 : Placed WorldEntry) (n : ℕ) (table0 : List (Event Entry)) (whole : machine.Plan) (plan : lower.Plan) (m : machine.Plan) (p : Placed WorldEntry) (table : List (Event Entry)) (at : Paused)
      → IsLeft p0 n table0 whole plan m p table → settle l.acts_for m (memory_of p) table ≡ (record { paused = at; bytes = memory_of p; table = table })
      → next g s (room_at w l p0.room n table0 (Lowers l whole)) ≡ paused l at (room_at w l p.room n table Free)
  unfolding lowers_turn settled_turn
  turn_at p0 n table0 whole plan m p table at h e =
      let here : World = room_at w l p0.room n table0 Free in
      let store : rewritten (found_at p0.room.store.memories l.memory) (memory_of p) p0.room.store ≡ p.room.store = h.puts (memory_of p) ∙ put_own to.options.memory p.room.store in
      ap (λ (t : List (Event Entry)). settled_turn l (settle l.acts_for whole (canons.bytes_of p0.room.store l.memory) t) here) (table_is p0.room n table0 Free)
      ∙ ap (λ (x : Settled). settled_turn l x here) (h.settles ∙ e)
      ∙ ap (λ (a : Store). paused l at (record here { store = a; insts = changed_at l.inst (λ x. record x { table = table }) (here).insts })) store
      ∙ ap (λ (insts : List Inst). paused l at (record here { store = p.room.store; insts = insts })) (changed_twice l.inst (λ x. record x { table = table }) (λ x. record x { table = table0 }) w.insts)
      ∙ ap (λ (a : Acts). paused l at (room_at w l (record p.room { acts = a }) n table Free)) (sym h.acts)

  -- steps up to there have the lines of the calls so far
  abbrev lines_now : (p0 p : Placed WorldEntry) → p.room.acts ≡ p0.room.acts → lines p0.room ≡ lines p.room
  lines_now p0 p e = ap (λ (a : Acts). all_lines g l.acts_for a.calls) (sym e)

  -- A plan that has come to its end.
  abbrev End : Came HostedTrap → Placed WorldEntry → Type 0
  End came after = LowersTo g values s w l came after

  at_end : (came end : Came HostedTrap) (p after : Placed WorldEntry) → came ≡ end → after ≡ p → End end p → End came after
  at_end came end p after is same h = subst (λ (x : Came HostedTrap). End x after) (sym is) (subst (End end) (sym same) h)

  words_end : (p0 : Placed WorldEntry) (n : ℕ) (table0 : List (Event Entry)) (whole : machine.Plan) (m : machine.Plan) (p : Placed WorldEntry) (table : List (Event Entry)) (words : List ℕ)
      → IsLeft p0 n table0 whole (lower.Gives words) m p table → End (Words words) p
  unfolding paused
  words_end p0 n table0 whole m p table words h =
      let e : settle l.acts_for m (memory_of p) table ≡ (record { paused = pause.Words words; bytes = memory_of p; table = table }) =
      ap (λ (x : machine.Plan). settle l.acts_for x (memory_of p) table) h.agrees in
      record {
        used = n;
        units = h.fuel;
        table = table;
        stands = h.stands;
        leads = (
          room_at w l p0.room n table0 (Lowers l whole),
          goes_lines g s w (room_at w l p0.room n table0 (Lowers l whole)) (lines p0.room) (lines p.room) (lines_now p0 p h.acts) h.reached,
          turn_at p0 n table0 whole (lower.Gives words) m p table (pause.Words words) h e,
        );
      }

  fails_end : (p0 : Placed WorldEntry) (n : ℕ) (table0 : List (Event Entry)) (whole : machine.Plan) (m : machine.Plan) (p : Placed WorldEntry) (table : List (Event Entry)) (why : LowerWhy)
      → IsLeft p0 n table0 whole (lower.Fails why) m p table → End (Failed why) p
  unfolding paused
  fails_end p0 n table0 whole m p table why h =
      let e : settle l.acts_for m (memory_of p) table ≡ (record { paused = pause.Failed (why_as why); bytes = memory_of p; table = table }) =
      ap (λ (x : machine.Plan). settle l.acts_for x (memory_of p) table) h.agrees in
      let start : World = room_at w l p0.room n table0 (Lowers l whole) in
      let last : World = room_at w l p.room n table (Doomed l.blame (lower_name (why_as why))) in
      record {
        used = n;
        units = h.fuel;
        table = table;
        stands = h.stands;
        leads = goes_lines g s w last (lines p0.room) (lines p.room) (lines_now p0 p h.acts)
            (subst (λ (ls : List Label). GoesTo g s w ls last) (append-nil (lines p0.room))
            (goes_then g s w start last (lines p0.room) [] h.reached (goes_step g s start last [] (turn_at p0 n table0 whole (lower.Fails why) m p table (pause.Failed (why_as why)) h e))));
      }

  -- Code that gives out the place for what a plan asks.
  module _ (slots : Slots WorldEntry) (table : List (Event Entry)) (stands : StandsBy (EntryStands values) table slots) (ask : Ask) (f : ℕ × Function) (k : ℕ → machine.Plan) where
    abbrev nested : control.HostedState → Nested
    nested state = record (nested_of l ask f) { state = state }

    abbrev code_at : Point → ℕ → World
    code_at x units = room_at w l x.room units table (Quiet (nested (control.Going x.stack)) (InLowering l k))

    pub record IsAt (x : Point) : Type 0 where
      pub units : ℕ
      pub fuel : units + x.room.fuel ≡ s.fuel
      pub reached : GoesTo g s w (lines x.room) (code_at x units)
      pub memory : IsMemory l.memory to.options.memory x.room.store

    run_to : (x : Point) (o : Outcome) (r : HostedRoom) → (at : IsAt x) → Runs x o r
        → (used : ℕ) × (used + r.fuel ≡ s.fuel) × NestedLeads g s (code_at x at.units) (nested (control.Going x.stack)) (InLowering l k) o r.store used
    run_to x o r at runs =
        nested_runs_lead g s (code_at x at.units) (nested (control.Going x.stack)) (InLowering l k) x.stack o r.store x.room.fuel r.fuel refl refl at.fuel runs

    -- what a call comes to, with the room as the run left it
    abbrev ran : Point → HostedRoom → HostedRoom
    ran x r = record r { acts = x.room.acts }

    abbrev CallAgrees : Point → HostedRoom → ℕ → Going → Turn → Type 0
    CallAgrees x r used going turn =
        GoingAgrees g values w l task inst (ran x r) used table slots task_there inst_there stands (nested (control.Going x.stack)) (InLowering l k) going turn

    called_at : (x : Point) (r : HostedRoom) (number : ℕ) (words : List ℕ) (waits : Waiting) → IsAt x → Runs x (outcome.Calls number words waits) r
        → (used : ℕ) × (used + r.fuel ≡ s.fuel) × (v : World) × GoesTo g s w (lines x.room) v
        × CallAgrees x r used (goes_on number words waits (host_answer to (handles.view_at seen_as slots) x.room.acts.context number words) x.room.acts) (next g s v)
    called_at x r number words waits at runs =
        let run = run_to x (outcome.Calls number words waits) r at runs in
        let n : Nested = nested (control.AtCall number words waits.stack) in
        let v : World = room_at w l (ran x r) run.0 table (Quiet n (InLowering l k)) in
        let reached : GoesTo g s w (lines x.room) v =
        subst (λ (ls : List Label). GoesTo g s w ls v) (append-nil (lines x.room)) (goes_then g s w (code_at x at.units) v (lines x.room) [] at.reached run.2) in
        let agrees : CallAgrees x r run.0 (goes_on number words waits (found_answer (canon_at g number) l.inst (handles.view_at seen_as slots) x.room.acts.context words) x.room.acts)
        (given (canon_at g number) (λ c. calls_host n (InLowering l k) waits.stack words c (room_at w l (ran x r) run.0 table Free))) =
        host_agrees g values w l task inst (ran x r) run.0 table slots task_there inst_there stands n (InLowering l k) number words waits refl (canon_at g number) refl refl in
        let answer : found_answer (canon_at g number) l.inst (handles.view_at seen_as slots) x.room.acts.context words
        ≡ host_answer to (handles.view_at seen_as slots) x.room.acts.context number words =
        ap (λ (cs : List CanonFunc). found_answer (slice_get cs number) l.inst (handles.view_at seen_as slots) x.room.acts.context words) (sym same_canons)
        ∙ ap (λ (i : ℕ). found_answer (slice_get to.canons number) i (handles.view_at seen_as slots) x.room.acts.context words) (sym instance) in (
          run.0,
          run.1,
          v,
          reached,
          subst (λ (turn : Turn). CallAgrees x r run.0 (goes_on number words waits (host_answer to (handles.view_at seen_as slots) x.room.acts.context number words) x.room.acts) turn)
              (sym (calls_are_made g s v n (InLowering l k) number words waits.stack refl refl))
              (subst (λ (a : Answer). CallAgrees x r run.0 (goes_on number words waits a x.room.acts)
              (given (canon_at g number) (λ c. calls_host n (InLowering l k) waits.stack words c (room_at w l (ran x r) run.0 table Free)))) answer agrees),
        )

    goes_further : (x y : Point) → IsAt x → GoesFurther to (handles.view_at seen_as slots) x y → IsAt y
    goes_further x y at step =
        let call = called_at x y.room step.0 step.1 step.2 at step.3 in
        let c : CallAgrees x y.room call.0 (GoesOn y.stack y.room.acts) (next g s call.2) =
        subst (λ (going : Going). CallAgrees x y.room call.0 going (next g s call.2)) step.4 call.4 in
        record {
          units = call.0;
          fuel = call.1;
          reached = subst (λ (ls : List Label). GoesTo g s w ls (code_at y call.0)) (sym c.told)
              (goes_then g s w call.2 (code_at y call.0) (lines x.room) c.lines call.3 (goes_step g s call.2 (code_at y call.0) c.lines c.is));
          memory = memory_kept l.memory to.options.memory x.room.store y.room.store
              (call_keeps x.room.store y.room.store x.stack x.room.fuel y.room.fuel step.0 step.1 step.2 step.3) at.memory;
        }

    go_on : (count : ℕ) (x y : Point) → IsAt x → GoOn to (handles.view_at seen_as slots) count x y → IsAt y
    go_on zero x y at e = subst IsAt (sym e) at
    go_on (suc count) x y at calls = goes_further calls.0 y (go_on count x calls.0 at calls.1) calls.2

    -- It ends with a place, with which the plan goes on.
    pub places : (x : Point) (place : ℕ) (r : HostedRoom) → IsAt x → Ends to (handles.view_at seen_as slots) x (Ok place) r
        → (used : ℕ) × (used + r.fuel ≡ s.fuel) × GoesTo g s w (lines r) (room_at w l r used table (Lowers l (k place))) × IsMemory l.memory to.options.memory r.store
    unfolding nested_ended
    places x place r at e =
        let run = run_to x (outcome.Done (place ∷ [])) r at e.0 in
        let v : World = room_at w l (ran x r) run.0 table (Lowers l (k place)) in
        let reached : GoesTo g s w (lines x.room) v =
        subst (λ (ls : List Label). GoesTo g s w ls v) (append-nil (lines x.room))
        (goes_then g s w (code_at x at.units) v (lines x.room) [] at.reached (meets_step g s (code_at x at.units) v [] [] run.2)) in (
          run.0,
          run.1,
          subst (λ (a : Acts). GoesTo g s w (all_lines g l.acts_for a.calls) (room_at w l (record r { acts = a }) run.0 table (Lowers l (k place)))) (sym e.1) reached,
          memory_kept l.memory to.options.memory x.room.store r.store (done_keeps x.room.store r.store x.stack x.room.fuel r.fuel (place ∷ []) e.0) at.memory,
        )

    -- It ends otherwise.
    abbrev left : HostedRoom → Placed WorldEntry
    left r = record { room = r; slots = slots }

    refused : (x : Point) (r : HostedRoom) (used : ℕ) (v : World) (why : CallRefusal) → used + r.fuel ≡ s.fuel → GoesTo g s w (lines x.room) v
        → CallAgrees x r used (Stops why r.acts) (next g s v) → End (Ended (Trapped (hosted.Call why))) (left r)
    refused x r used v refusal.CannotLeave sum reached c =
        let last : World = room_at w l r used table (Doomed l.blame trap.CannotLeave) in
        record {
          used = used;
          units = sum;
          table = table;
          stands = stands;
          leads = subst (λ (ls : List Label). GoesTo g s w ls last) (sym c.told) (goes_then g s w v last (lines x.room) c.lines reached (goes_step g s v last c.lines c.is));
        }
    refused x r used v (refusal.Refused why) sum reached c =
        let last : World = room_at w l r used table (Doomed l.blame (refusal_name why)) in
        record {
          used = used;
          units = sum;
          table = table;
          stands = stands;
          leads = subst (λ (ls : List Label). GoesTo g s w ls last) (sym c.told) (goes_then g s w v last (lines x.room) c.lines reached (goes_step g s v last c.lines c.is));
        }
    refused x r used v refusal.NoRule sum reached c = record { used = used; units = sum; table = table; stands = stands; leads = tt }

    pub stops : (x : Point) (end : RoomEnd HostedTrap) (r : HostedRoom) → IsTold end → IsAt x → Ends to (handles.view_at seen_as slots) x (Err end) r → End (Ended end) (left r)
    stops x (Trapped (hosted.Core why)) r told at e =
        let run = run_to x (outcome.Trapped why) r at e.0 in
        let last : World = room_at w l (ran x r) run.0 table (Doomed l.blame (core_name why)) in
        let reached : GoesTo g s w (lines x.room) last =
        subst (λ (ls : List Label). GoesTo g s w ls last) (append-nil (lines x.room)) (goes_then g s w (code_at x at.units) last (lines x.room) [] at.reached run.2) in
        record {
          used = run.0;
          units = run.1;
          table = table;
          stands = stands;
          leads = subst (λ (a : Acts). GoesTo g s w (all_lines g l.acts_for a.calls) (room_at w l (record r { acts = a }) run.0 table (Doomed l.blame (core_name why)))) (sym e.1) reached;
        }
    stops x (Trapped (hosted.Call why)) r told at e =
        let call = called_at x r e.0 e.1 e.2 at e.3 in
        refused x r call.0 call.2 why call.1 call.3 (subst (λ (going : Going). CallAgrees x r call.0 going (next g s call.2)) e.4 call.4)
    stops x (Trapped hosted.NoRealloc) r told at e = absurd e
    stops x NoFuel r told at e =
        let run = run_to x (outcome.NoFuel e.0) r at e.1 in
        let last : World = room_at w l (ran x r) run.0 table (Quiet (nested (control.Going e.0)) (InLowering l k)) in
        let reached : RunsFrom g s w (lines x.room) last Fuel =
        subst (λ (ls : List Label). RunsFrom g s w ls last Fuel) (append-nil (lines x.room)) (ends_behind g s w (code_at x at.units) last (lines x.room) [] Fuel at.reached run.2) in
        record {
          used = run.0;
          units = run.1;
          table = table;
          stands = stands;
          leads = (
            Quiet (nested (control.Going e.0)) (InLowering l k),
            subst (λ (a : Acts). RunsFrom g s w (all_lines g l.acts_for a.calls) (room_at w l (record r { acts = a }) run.0 table (Quiet (nested (control.Going e.0)) (InLowering l k))) Fuel) (sym e.2) reached,
          );
        }
    stops x Memory r told at e = absurd told

    -- up to its last run
    pub goes_along : (x y : Point) → IsAt x → Gone to (handles.view_at seen_as slots) x y → IsAt y
    goes_along x y at gone = go_on gone.count x y at gone.calls

  -- The function that a realloc calls is there.
  if_found : (o : Option (ℕ × Function)) (f : ℕ × Function) → if_realloc o ≡ Some f → o ≡ Some f
  if_found None f e = absurd (cc)
  if_found (Some x) f e = by (is_realloc x.1) e
    where
      by : (b : Bool) → (if b then Some x else None) ≡ Some f → Some x ≡ Some f
      by true e = e
      by false e = absurd (cc)

  abbrev asked_world : (p : Placed WorldEntry) → ℕ → List (Event Entry) → Ask → ℕ × Function → (ℕ → machine.Plan) → World
  asked_world p n table ask f k = room_at w l p.room n table (Quiet (nested_of l ask f) (InLowering l k))

  -- A realloc begins.
  asked_turn : (p0 : Placed WorldEntry) (n : ℕ) (table0 : List (Event Entry)) (whole : machine.Plan) (m : machine.Plan) (p : Placed WorldEntry) (table : List (Event Entry)) (ask : Ask)
      (k : ℕ → lower.Plan) (f : ℕ × Function) → (h : IsLeft p0 n table0 whole (lower.Asks ask k) m p table) → realloc_in to.options.realloc p.room.store ≡ Some f
      → GoesTo g s w (lines p.room) (asked_world p n table ask f h.agrees.0)
  unfolding paused
  asked_turn p0 n table0 whole m p table ask k f h e =
      let at : settle l.acts_for m (memory_of p) table ≡ (record { paused = pause.Asked ask h.agrees.0; bytes = memory_of p; table = table }) =
      ap (λ (x : machine.Plan). settle l.acts_for x (memory_of p) table) h.agrees.1 in
      let found : found_at p.room.store.funcs l.realloc ≡ Some f =
      ap (λ (o : Option ℕ). found_at p.room.store.funcs o) (sym realloc) ∙ if_found (found_at p.room.store.funcs to.options.realloc) f e in
      let start : World = room_at w l p0.room n table0 (Lowers l whole) in
      let last : World = asked_world p n table ask f h.agrees.0 in
      let turn : next g s start ≡ Steps [] last =
      turn_at p0 n table0 whole (lower.Asks ask k) m p table (pause.Asked ask h.agrees.0) h at
      ∙ ap (λ (o : Option (ℕ × Function)). given o (λ x. silent (Quiet (nested_of l ask x) (InLowering l h.agrees.0)) (room_at w l p.room n table Free))) found in
      goes_lines g s w last (lines p0.room) (lines p.room) (lines_now p0 p h.acts)
      (subst (λ (ls : List Label). GoesTo g s w ls last) (append-nil (lines p0.room)) (goes_then g s w start last (lines p0.room) [] h.reached (goes_step g s start last [] turn)))

  code_begins : (p0 : Placed WorldEntry) (n : ℕ) (table0 : List (Event Entry)) (whole : machine.Plan) (m : machine.Plan) (p : Placed WorldEntry) (table : List (Event Entry)) (ask : Ask)
      (k : ℕ → lower.Plan) (f : ℕ × Function) → (h : IsLeft p0 n table0 whole (lower.Asks ask k) m p table) → realloc_in to.options.realloc p.room.store ≡ Some f
      → IsAt p.slots table h.stands ask f h.agrees.0 (record { room = p.room; stack = begun f ask })
  code_begins p0 n table0 whole m p table ask k f h e =
      record { units = n; fuel = h.fuel; reached = asked_turn p0 n table0 whole m p table ask k f h e; memory = h.memory }

  -- A plan that asks, where what is left of it behind each place leads on.
  asked_leads : (p0 : Placed WorldEntry) (n : ℕ) (table0 : List (Event Entry)) (whole : machine.Plan) (m : machine.Plan) (p : Placed WorldEntry) (table : List (Event Entry)) (ask : Ask)
      (k : ℕ → lower.Plan) (came : Came HostedTrap) (after : Placed WorldEntry) (o : Option (ℕ × Function)) → Counts came → (h : IsLeft p0 n table0 whole (lower.Asks ask k) m p table)
      → realloc_in to.options.realloc p.room.store ≡ o
      → ((place now : ℕ) (mid : Placed WorldEntry) (later : List (Event Entry)) → IsLeft mid now later (h.agrees.0 place) (k place) (h.agrees.0 place) mid later
      → Follows rooms (k place) mid came after → End came after)
      → Follows rooms (lower.Asks ask k) p came after → End came after
  asked_leads p0 n table0 whole m p table ask k came after None counts h e more (inl x) =
      let answers = subst (λ (o : Option (ℕ × Function)). AnswersBy to (handles.view_at seen_as p.slots) o p.room ask (Ok x.0) (x.1).room) e x.2.0.0 in
      absurd (ok_err x.0 (Trapped hosted.NoRealloc) answers.0)
  asked_leads p0 n table0 whole m p table ask k came after None counts h e more (inr x) =
      let answers = subst (λ (o : Option (ℕ × Function)). AnswersBy to (handles.view_at seen_as p.slots) o p.room ask (Err x.0) after.room) e x.1.0 in
      let is : came ≡ Ended (Trapped hosted.NoRealloc) = x.2 ∙ ap (λ (end : RoomEnd HostedTrap). Ended end) (err_same x.0 (Trapped hosted.NoRealloc) answers.0) in
      at_end came (Ended (Trapped hosted.NoRealloc)) p after is
      (ap (λ (r : HostedRoom). (let q : Placed WorldEntry = record { room = r; slots = after.slots } in q)) answers.1
      ∙ ap (λ (sl : Slots WorldEntry). (let q : Placed WorldEntry = record { room = p.room; slots = sl } in q)) x.1.2)
      (record { used = n; units = h.fuel; table = table; stands = h.stands; leads = tt })
  asked_leads p0 n table0 whole m p table ask k came after (Some f) counts h e more (inl x) =
      let mid : Placed WorldEntry = x.1 in
      let gives = subst (λ (o : Option (ℕ × Function)). AnswersBy to (handles.view_at seen_as p.slots) o p.room ask (Ok x.0) mid.room) e x.2.0.0 in
      let last = goes_along p.slots table h.stands ask f h.agrees.0 (record { room = p.room; stack = begun f ask }) gives.0 (code_begins p0 n table0 whole m p table ask k f h e) gives.1 in
      let placed = places p.slots table h.stands ask f h.agrees.0 gives.0 x.0 mid.room last gives.2 in
      more x.0 placed.0 mid table
      (is_left mid placed.0 table (k x.0) (h.agrees.0 x.0) placed.2 (h.agrees.2 x.0) placed.3 placed.1
      (subst (λ (sl : Slots WorldEntry). StandsBy (EntryStands values) table sl) (sym x.2.0.2) h.stands)) x.3
  asked_leads p0 n table0 whole m p table ask k came after (Some f) counts h e more (inr x) =
      let gives = subst (λ (o : Option (ℕ × Function)). AnswersBy to (handles.view_at seen_as p.slots) o p.room ask (Err x.0) after.room) e x.1.0 in
      let last = goes_along p.slots table h.stands ask f h.agrees.0 (record { room = p.room; stack = begun f ask }) gives.0 (code_begins p0 n table0 whole m p table ask k f h e) gives.1 in
      let told : IsTold x.0 = subst Counts x.2 counts in
      let end : End (Ended x.0) (record { room = after.room; slots = p.slots }) = stops p.slots table h.stands ask f h.agrees.0 gives.0 x.0 after.room told last gives.2 in
      subst (λ (c : Came HostedTrap). End c after) (sym x.2)
      (subst (λ (sl : Slots WorldEntry). End (Ended x.0) (record { room = after.room; slots = sl })) (sym x.1.2) end)

  -- A plan, up to its end.
  plan_leads : (plan : lower.Plan) (p0 : Placed WorldEntry) (n : ℕ) (table0 : List (Event Entry)) (whole : machine.Plan) (m : machine.Plan) (p : Placed WorldEntry) (table : List (Event Entry))
      (came : Came HostedTrap) (after : Placed WorldEntry) → Counts came → IsLeft p0 n table0 whole plan m p table → Follows rooms plan p came after → End came after
  plan_leads (lower.Gives words) p0 n table0 whole m p table came after counts h f = at_end came (Words words) p after f.0 f.1 (words_end p0 n table0 whole m p table words h)
  plan_leads (lower.Fails why) p0 n table0 whole m p table came after counts h f = at_end came (Failed why) p after f.0 f.1 (fails_end p0 n table0 whole m p table why h)
  plan_leads (lower.Asks ask k) p0 n table0 whole m p table came after counts h f =
      asked_leads p0 n table0 whole m p table ask k came after (realloc_in to.options.realloc p.room.store) counts h refl
      (λ place now mid later left follows. plan_leads (k place) mid now later (h.agrees.0 place) (h.agrees.0 place) mid later came after counts left follows) f
  plan_leads (lower.Size k) p0 n table0 whole m p table came after counts h f =
      plan_leads (k (length (memory_of p))) p0 n table0 whole (h.agrees.0 (length (memory_of p))) p table came after counts
      (record {
        reached = h.reached;
        agrees = h.agrees.2 (length (memory_of p));
        settles = h.settles ∙ ap (λ (x : machine.Plan). settle l.acts_for x (memory_of p) table) h.agrees.1;
        puts = h.puts;
        memory = h.memory;
        fuel = h.fuel;
        acts = h.acts;
        stands = h.stands;
      }) f
  plan_leads (lower.Put place bytes k) p0 n table0 whole m p table came after counts h f =
      let mid : Placed WorldEntry = f.0 in
      let put : List ℕ = written place bytes (memory_of p) in
      let store : mid.room.store ≡ with_bytes_in to.options.memory put p.room.store = ap (λ (x : HostedRoom). x.store) f.1.0.1 in
      let many : HasAsMany p.room.store mid.room.store = subst (λ (b : Store). HasAsMany p.room.store b) (sym store) (put_count to.options.memory put p.room.store) in
      plan_leads k p0 n table0 whole h.agrees.0 mid table came after counts
      (record {
        reached = h.reached;
        agrees = h.agrees.2;
        settles = h.settles ∙ ap (λ (x : machine.Plan). settle l.acts_for x (memory_of p) table) h.agrees.1 ∙ ap (λ (x : List ℕ). settle l.acts_for h.agrees.0 x table) (sym f.1.1);
        puts = λ x. h.puts x ∙ sym (put_again to.options.memory x put p.room.store) ∙ ap (λ (b : Store). with_bytes_in to.options.memory x b) (sym store);
        memory = memory_kept l.memory to.options.memory p.room.store mid.room.store many h.memory;
        fuel = ap (λ (x : HostedRoom). n + x.fuel) f.1.0.1 ∙ h.fuel;
        acts = ap (λ (x : HostedRoom). x.acts) f.1.0.1 ∙ h.acts;
        stands = subst (λ (x : Slots WorldEntry). StandsBy (EntryStands values) table x) (sym f.1.0.2) h.stands;
      }) f.2
  plan_leads (lower.Adds entry k) p0 n table0 whole m p table came after counts h f =
      let mid : Placed WorldEntry = f.1 in
      let new : machine.New = h.agrees.0 in
      let table_then : List (Event Entry) = with_new (entry_of l.acts_for new) table in
      let adds : AddsSo values (entry_of l.acts_for new) f.0 table mid.slots = adds_so values l.acts_for entry new f.0 table p.slots mid.slots h.agrees.3 h.stands f.2.0.0 in
      let room : mid.room ≡ p.room = f.2.0.1 in
      plan_leads (k f.0) p0 n table0 whole (h.agrees.1 f.0) mid table_then came after counts
      (record {
        reached = h.reached;
        agrees = h.agrees.4 f.0;
        settles = h.settles ∙ ap (λ (x : machine.Plan). settle l.acts_for x (memory_of p) table) h.agrees.2
            ∙ ap (λ (i : Option ℕ). settle l.acts_for (h.agrees.1 i) (memory_of p) table_then) adds.index_is
            ∙ ap (λ (x : List ℕ). settle l.acts_for (h.agrees.1 f.0) x table_then) (sym f.2.1);
        puts = λ x. h.puts x ∙ ap (λ (r : HostedRoom). with_bytes_in to.options.memory x r.store) (sym room);
        memory = subst (λ (r : HostedRoom). IsMemory l.memory to.options.memory r.store) (sym room) h.memory;
        fuel = ap (λ (r : HostedRoom). n + r.fuel) room ∙ h.fuel;
        acts = ap (λ (r : HostedRoom). r.acts) room ∙ h.acts;
        stands = adds.stands_then;
      }) f.3

counted : (came : Lowered) → Counts (as_plan came)
counted (lowered.Words words) = tt
counted (lowered.Failed why) = tt
counted (lowered.Trapped why) = tt
counted lowered.NoFuel = tt

pub lowerings_lead : LoweringsLead
lowerings_lead g values s w l to task inst plan m before after came control agrees h follows =
    let tasks : changed_at l.acts_for (λ x. record x { context = before.room.acts.context }) w.tasks ≡ w.tasks =
    changed_none l.acts_for (λ x. record x { context = before.room.acts.context }) w.tasks task h.task_there (ap (λ (c : ℕ × ℕ). (let x : Task = record task { context = c } in x)) h.context) in
    let insts : changed_at l.inst (λ x. record x { table = inst.table }) w.insts ≡ w.insts = changed_none l.inst (λ x. record x { table = inst.table }) w.insts inst h.inst_there refl in
    let same : room_at w l before.room w.units inst.table (Lowers l m) ≡ w =
    ap (λ (ts : List Task). record w { store = before.room.store; control = Lowers l m; insts = changed_at l.inst (λ x. record x { table = inst.table }) w.insts; tasks = ts }) tasks
    ∙ ap (λ (is : List Inst). record w { store = before.room.store; control = Lowers l m; insts = is }) insts
    ∙ ap (λ (a : Store). record w { store = a; control = Lowers l m }) h.store
    ∙ ap (λ (c : Control). record w { control = c }) (sym control) in
    let reached : GoesTo g s w (all_lines g l.acts_for before.room.acts.calls) (room_at w l before.room w.units inst.table (Lowers l m)) =
    goes_lines g s w (room_at w l before.room w.units inst.table (Lowers l m)) [] (all_lines g l.acts_for before.room.acts.calls)
    (sym (ap (λ (acts : List Act). all_lines g l.acts_for acts) h.untold)) (goes_same g s w (room_at w l before.room w.units inst.table (Lowers l m)) same) in
    let memory : IsMemory l.memory to.options.memory before.room.store = subst (λ (a : Store). IsMemory l.memory to.options.memory a) (sym h.store) h.memory in
    plan_leads g values s w l to task inst h.realloc h.canons h.instance h.task_there h.inst_there plan before w.units inst.table m m before inst.table (as_plan came) after (counted came)
    (is_left g values s w l to task inst h.realloc h.canons h.instance h.task_there h.inst_there before w.units inst.table plan m reached agrees memory h.units h.table) follows
