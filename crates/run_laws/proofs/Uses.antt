-- Lifting over the table of an instance, beside lifting in a world: behind each use of an index what is kept stands for the world then.
use Rattle.std.proofs.Common.{◌≡◌, ◌∙◌, ◌+◌, ◌-◌, ℕ, Bool, true, false, ◌&&◌, if◌then◌else◌, List, [], ◌∷◌, ◌++◌, slice_set, refl, sym, ap, subst, append_assoc, Option, Some, None, Result, Ok, Err}
use Rattle.std.specs.Prelude.{nat_le, IsSome}
use Rattle.std.specs.List.{slice_get}
use Rattle.std.specs.Option.{option_map}
use Rattle.wasm_store.specs.Stack.{Stack}
use Rattle.syntax_trees.specs.declared.types.ValType.{ValType}
use Rattle.handle_table.specs.Slots.{Slots, removed, entry_at}
use Rattle.res_handles.specs.declared.handle.Handle.{Handle}
use Rattle.res_handles.specs.declared.entry.EntryView.{EntryView}
use Rattle.res_handles.specs.declared.entry.EntryView.TheVariants as seen
use Rattle.res_handles.specs.declared.refusal.Refusal.{Refusal}
use Rattle.res_handles.specs.Refusals.{handle_in, own_in}
use Rattle.res_handles.specs.Ends.{end_in}
use Rattle.res_handles.specs.Calls as handles
use Rattle.waitables.specs.Sets.{left}
use Rattle.comp_graph.specs.Graph.{Graph}
use Rattle.script_reader.specs.Script.{Script}
use Rattle.trace_labels.specs.declared.label.Label.{Label}
use Rattle.trace_labels.specs.declared.label.Label.TheVariants as line
use Rattle.value_lift.specs.declared.moved.Moved.{Moved}
use Rattle.value_lift.specs.declared.moved.Moved.TheVariants.{Lent, Taken}
use Rattle.value_lift.specs.declared.trap.LiftTrap.{LiftTrap}
use Rattle.value_lift.specs.declared.trap.LiftWhy.{LiftWhy}
use Rattle.value_lift.specs.declared.trap.LiftWhy.TheVariants as lift_why
use Rattle.value_lift.specs.Leaves.{trap}
use Rattle.value_lift.specs.Ledger.{Use, What, AnOwn, ABorrow, AnEnd, counting, reached}
use Rattle.value_lift.specs.Tables as tables
use Rattle.value_lift.proofs.Both.{stop_of, on_with, Both, Spent}
use Rattle.value_lift.proofs.Beside.{AreBeside}
use Rattle.value_lift.proofs.Uses.{EndFound, own_found, handle_found, end_found}
use Rattle.instances.specs.declared.entry.WorldEntry.{WorldEntry}
use Rattle.instances.specs.declared.entry.WorldEntry.TheVariants as entry
use Rattle.instances.specs.declared.entry.EndEntry.{EndEntry}
use Rattle.stream_ends.specs.declared.side.Side.{Side}
use Rattle.stream_ends.specs.declared.side.Side.TheVariants.{Reader, Writer}
use Rattle.instances.specs.Entries.{seen_as, seen_by, of_handle, end_type_of}
use Rattle.instances.specs.Instances as instance
use Rattle.instances.specs.Instances.{InstanceView, with_slots, with_sets, entry_of}
use Rattle.task_table.specs.declared.caller.Caller as kept_caller
use Rattle.task_table.specs.declared.caller.Caller.TheVariants as by
use Rattle.task_table.specs.declared.slot.TaskSlot.{TaskSlot}
use Rattle.task_table.specs.Callers as callers
use Rattle.world_parts.specs.Held.{Held, Gives, Stuck}
use Rattle.world_parts.specs.Entries.{with_instance}
use Rattle.world_parts.specs.Slots.{with_task}
use Rattle.value_parts.specs.Loans.{may_lend, lent_slot, all_moved}
use Rattle.value_parts.specs.Lifting.{over_table}
use Rattle.value_parts.specs.Names as part_names
use Rattle.abi_machine.specs.World.{Subtask, Caller, Nobody, Host, Guest, Task, World}
use Rattle.abi_machine.specs.Edits as world
use Rattle.abi_machine.specs.Edits.{changed_at, caller_changed}
use Rattle.abi_machine.specs.Reading as reading
use Rattle.abi_machine.specs.Counting.{passes, view_at}
use Rattle.abi_machine.specs.Traps.{refusal_name, lift_name}
use Rattle.abi_machine.specs.Lifting.{Kept, Stopped, spent_so, stopped, own_taken, borrow_taken, end_taken, lend_line}
use Rattle.abi_machine.proofs.sound.Found.{some_same}
use Rattle.standing.proofs.Agreeing.{get_set}
use Rattle.standing.proofs.Found.{names_same}
use Rattle.run_laws.specs.Taking.{StandsMarked, CalledFrom}
use Rattle.run_laws.specs.Lifted.{TaskStays, Leaves}
use Rattle.run_laws.proofs.Lending.{lend_side, lend_in, lent_stays, here_kept}
use Rattle.run_laws.proofs.Taking.{views_are_alike, end_answer, handle_leaves, end_leaves, handle_is_lent}
use Rattle.run_laws.proofs.Moved.{set_is_change, get_changed, get_changed_none, set_on_change, change_on_set, seen_set, right_changed, slotted, moved_to, moved_stuck, lent_to, not_lent, taken_to}
use Rattle.run_laws.proofs.Ledgers.{Halted, faulted, halted, unless_lent, halting, world_taken, itself}

pub lifts_same : (why : LiftWhy) → lift_name why ≡ part_names.lift_name why
lifts_same lift_why.Misaligned = refl
lifts_same lift_why.Bounds = refl
lifts_same lift_why.BadChar = refl
lifts_same lift_why.BadUtf8 = refl
lifts_same lift_why.BadCase = refl
lifts_same lift_why.TooLarge = refl
lifts_same (lift_why.Refused why) = sym (names_same why)

-- whether handles may be lent for the call of a task, where it is there
abbrev pub may_lend_in : Option TaskSlot → Bool
may_lend_in None = false
may_lend_in (Some slot) = may_lend slot.caller

still_lends : (handle : ℕ) (c : kept_caller.Caller) → may_lend (callers.changed (callers.with_lend handle) c) ≡ may_lend c
still_lends handle by.Nobody = refl
still_lends handle (by.Host call) = refl
still_lends handle (by.Guest called) = refl

record MayLend (o : Option TaskSlot) : Type 0 where
  slot : TaskSlot
  is : o ≡ Some slot
  may : may_lend slot.caller ≡ true

lender_of : (o : Option TaskSlot) → may_lend_in o ≡ true → MayLend o
lender_of None may = absurd (cc)
lender_of (Some slot) may = record { slot = slot; is = refl; may = may }

-- What is there where a handle or an end is seen.
some_there : (o : Option WorldEntry) (v : EntryView) → option_map seen_as o ≡ Some v → IsSome o
some_there None v is = absurd (cc)
some_there (Some e) v is = refl

end_is_no_handle : (e : EndEntry) (side : Side) (x : Handle) (A : Type 0) → (let v : Option EntryView = Some (seen_by side e) in v) ≡ Some (seen.Handle x) → A
end_is_no_handle e Reader x A is = absurd (cc)
end_is_no_handle e Writer x A is = absurd (cc)

handle_there : (o : Option WorldEntry) (x : Handle) → option_map seen_as o ≡ Some (seen.Handle x) → o ≡ Some (entry.Handle x)
handle_there None x is = absurd (cc)
handle_there (Some (entry.Handle y)) x is = ap (λ (z : Handle). Some (entry.Handle z)) (let same : y ≡ x = cc in same)
handle_there (Some (entry.Subtask callee)) x is = absurd (cc)
handle_there (Some (entry.Set set)) x is = absurd (cc)
handle_there (Some (entry.End e)) x is = end_is_no_handle e e.side x _ is

-- The caller of a task for whose call a handle is lent.
guest_before : (callee handle : ℕ) (c : Caller) (subtask : Subtask) → caller_changed (lend_side callee handle) c ≡ Guest subtask → (old : Subtask) × (c ≡ Guest old) × (old.by ≡ subtask.by)
guest_before callee handle Nobody subtask is = absurd (cc)
guest_before callee handle (Host call values) subtask is = absurd (cc)
guest_before callee handle (Guest old) subtask is =
    let same : lend_side callee handle old ≡ subtask = cc in
    (old, refl, ap (λ (x : Subtask). x.by) same)

task_before : (callee handle : ℕ) (tasks : List Task) (task : Task) (o : Option Task) → slice_get tasks callee ≡ o → slice_get (changed_at callee (lend_in callee handle) tasks) callee ≡ Some task
    → (old : Task) × (slice_get tasks callee ≡ Some old) × (lend_in callee handle old ≡ task)
task_before callee handle tasks task None e is =
    let none : slice_get (changed_at callee (lend_in callee handle) tasks) callee ≡ None = get_changed_none (lend_in callee handle) tasks callee e in
    absurd (cc)
task_before callee handle tasks task (Some old) e is = (old, e, some_same (sym (get_changed (lend_in callee handle) tasks callee old e) ∙ is))

called_lent : (w : World) (at callee handle : ℕ) → CalledFrom w at callee → CalledFrom (world.lent callee handle w) at callee
called_lent w at callee handle from task subtask there guest =
    let old = task_before callee handle w.tasks task (slice_get w.tasks callee) refl there in
    let before = guest_before callee handle old.0.caller subtask (ap (λ (t : Task). t.caller) old.2 ∙ guest) in
    here_kept w callee handle at subtask.by
    ∙ ap (λ (n : ℕ). passes (reading.runs_in at) (reading.task_at w n)) (sym before.2)
    ∙ from old.0 before.0 old.1 before.1

module _ (g : Graph) (values : List ValType) (s : Script) (h : Held) (stacks : List (List Stack)) (w : World) (at callee : ℕ) (c may : Bool) where
  -- Lifting came to no rule, where the type holds a borrow.
  abbrev pub Late : List Moved → Type 0
  Late moved = c ≡ true → all_moved at callee moved h ≡ Stuck

  -- What is kept, with these slots in the table and behind what moved, stands for the world.
  pub record Goes (k : tables.Kept WorldEntry) (t : Kept) : Type 0 where
    pub left_same : k.left ≡ t.left
    pub base : Held
    pub inst : InstanceView
    pub moved : all_moved at callee k.moved h ≡ Gives tt base
    pub there : slice_get base.instances at ≡ Some inst
    pub leaves : Leaves g values s h stacks w (slotted at k.slots base) t.lines t.world
    pub lender : may_lend_in (slice_get base.tasks callee) ≡ may
    pub from : c ≡ true → CalledFrom t.world at callee

  pub record Halts (stop : tables.Stop WorldEntry) (other : Stopped) : Type 0 where
    pub why : other.why ≡ part_names.lift_name stop.trap.why
    pub base : Held
    pub moved : all_moved at callee stop.moved h ≡ Gives tt base
    pub leaves : Leaves g values s h stacks w (slotted at stop.slots base) other.lines other.world

  abbrev pub BesideWorld : tables.Kept WorldEntry → Result Kept Halted → Type 0
  BesideWorld k (Ok t) = Goes k t
  BesideWorld k (Err None) = Late k.moved
  BesideWorld k (Err (Some stop)) = ⊥

  abbrev pub EndsBeside : tables.Stop WorldEntry → Halted → Type 0
  EndsBeside stop None = Late stop.moved
  EndsBeside stop (Some other) = Halts stop other

  abbrev SameNumber : ℕ → ℕ → Type 0
  SameNumber a b = itself a ≡ b

  abbrev flag : Bool
  flag = c && may

  stops_at : (fault : LiftTrap) (k : tables.Kept WorldEntry) (t : Kept) → Goes k t → Halts (tables.stopped fault k) (stopped (lift_name fault.why) t)
  stops_at fault k t b = record { why = lifts_same fault.why; base = b.base; moved = b.moved; leaves = b.leaves }

  -- Counting.
  spent_goes : (has_room : Bool) (many place : ℕ) (k : tables.Kept WorldEntry) (t : Kept) → Goes k t
      → Spent BesideWorld EndsBeside
      (if has_room then Ok (record { left = k.left - many; slots = k.slots; moved = k.moved }) else Err (tables.stopped (trap lift_why.TooLarge place) k))
      (faulted (spent_so (if has_room then Ok (t.left - many) else Err (trap lift_why.TooLarge place)) t))
  spent_goes true many place k t b = record {
    left_same = ap (λ (n : ℕ). n - many) b.left_same;
    base = b.base;
    inst = b.inst;
    moved = b.moved;
    there = b.there;
    leaves = b.leaves;
    lender = b.lender;
    from = b.from;
  }
  spent_goes false many place k t b = stops_at (trap lift_why.TooLarge place) k t b

  spent_late : (has_room : Bool) (many place : ℕ) (k : tables.Kept WorldEntry) → Late k.moved
      → Spent BesideWorld EndsBeside
      (if has_room then Ok (record { left = k.left - many; slots = k.slots; moved = k.moved }) else Err (tables.stopped (trap lift_why.TooLarge place) k)) (Err None)
  spent_late true many place k late = late
  spent_late false many place k late = late

  spends : (many place : ℕ) (k : tables.Kept WorldEntry) (q : Result Kept Halted) → BesideWorld k q
      → Spent BesideWorld EndsBeside ((over_table values).spend many place k) (on_with q (λ t. (halting flag at callee).spend many place t))
  spends many place k (Ok t) b =
      subst
      (λ (n : ℕ). Spent BesideWorld EndsBeside
      (if nat_le many n then Ok (record { left = k.left - many; slots = k.slots; moved = k.moved }) else Err (tables.stopped (trap lift_why.TooLarge place) k))
      ((halting flag at callee).spend many place t))
      (sym b.left_same) (spent_goes (nat_le many t.left) many place k t b)
  spends many place k (Err None) b = spent_late (nat_le many k.left) many place k b
  spends many place k (Err (Some stop)) b = absurd b

  stops : (fault : LiftTrap) (k : tables.Kept WorldEntry) (q : Result Kept Halted) → BesideWorld k q → EndsBeside ((over_table values).stop fault k) (stop_of (halting flag at callee) fault q)
  stops fault k (Ok t) b = stops_at fault k t b
  stops fault k (Err None) b = b
  stops fault k (Err (Some stop)) b = absurd b

  -- What else stays where it is.
  rest_kept : (n : Held) (instances : List InstanceView) (tasks : List TaskSlot) (labels : List Label) → n ≡ record h { instances = n.instances; tasks = n.tasks; labels = n.labels }
      → record n { instances = instances; tasks = tasks; labels = labels } ≡ record h { instances = instances; tasks = tasks; labels = labels }
  rest_kept n instances tasks labels e = ap (λ (m : Held). record m { instances = instances; tasks = tasks; labels = labels }) e

  -- The instance, with the slots of its table, as it is kept and as the machine has it.
  module _ (k : tables.Kept WorldEntry) (t : Kept) (b : Goes k t) where
    abbrev now : Held
    now = slotted at k.slots b.base

    abbrev here : InstanceView
    here = with_slots k.slots b.inst

    here_there : slice_get now.instances at ≡ Some here
    here_there = get_changed (with_slots k.slots) b.base.instances at b.inst b.there

    view_same : (index : ℕ) → handles.view_at seen_as k.slots index ≡ view_at t.world at index
    view_same index = views_are_alike g values s now stacks t.world at index here here_there b.leaves.stands

    reslotted : (slots : Slots WorldEntry) → slice_set now.instances at (with_slots slots here) ≡ changed_at at (with_slots slots) b.base.instances
    reslotted slots =
        set_on_change (with_slots k.slots) b.base.instances at (with_slots slots b.inst) ∙ set_is_change (with_slots slots) b.base.instances at b.inst b.there

    handle_is : (index : ℕ) (x : Handle) → handles.view_at seen_as k.slots index ≡ Some (seen.Handle x) → entry_at k.slots index ≡ Some (entry.Handle x)
    handle_is index x is = handle_there (entry_at k.slots index) x is

    -- An own handle leaves.
    own_leaves : (index : ℕ) (x : Handle) → handles.view_at seen_as k.slots index ≡ Some (seen.Handle x)
        → Goes (record { left = k.left; slots = removed index k.slots; moved = k.moved }) (record t { world = world.entry_removed at index t.world })
    own_leaves index x is =
        let slots : Slots WorldEntry = removed index k.slots in
        let some : IsSome (entry_of here index) = some_there (entry_at k.slots index) (seen.Handle x) is in
        record {
          left_same = b.left_same;
          base = b.base;
          inst = b.inst;
          moved = b.moved;
          there = b.there;
          leaves = record {
            stands = subst (λ (all : List InstanceView). StandsMarked g values s (record b.base { instances = all }) stacks (world.entry_removed at index t.world)) (reslotted slots)
                (handle_leaves g values s now stacks t.world at index here here_there some b.leaves.stands);
            told = b.leaves.told;
            kept_rest = rest_kept now (changed_at at (with_slots slots) b.base.instances) b.base.tasks b.base.labels b.leaves.kept_rest;
            world_rest = ap (λ (v : World). world.entry_removed at index v) b.leaves.world_rest;
            same_tasks = b.leaves.same_tasks;
            tasks_stay = b.leaves.tasks_stay;
          };
          lender = b.lender;
          from = b.from;
        }

    -- A readable end leaves, and its set.
    end_goes : (index : ℕ) (v : EntryView) → handles.view_at seen_as k.slots index ≡ Some v
        → Goes (record { left = k.left; slots = removed index k.slots; moved = k.moved ++ Taken index ∷ [] })
        (record t { world = world.left_set at index (world.entry_removed at index t.world) })
    end_goes index v is =
        let slots : Slots WorldEntry = removed index k.slots in
        let out : InstanceView = with_sets (left index b.inst.sets) b.inst in
        let base : Held = with_instance at out b.base in
        let some : IsSome (entry_of here index) = some_there (entry_at k.slots index) v is in
        let placed : slice_set now.instances at (with_slots slots out) ≡ changed_at at (with_slots slots) base.instances =
        set_on_change (with_slots k.slots) b.base.instances at (with_slots slots out) ∙ sym (change_on_set (with_slots slots) b.base.instances at out) in
        record {
          left_same = b.left_same;
          base = base;
          inst = out;
          moved = moved_to at callee k.moved (Taken index) h b.base b.moved ∙ taken_to at callee index b.base b.inst b.there;
          there = get_set b.base.instances at b.inst out b.there;
          leaves = record {
            stands = subst (λ (all : List InstanceView). StandsMarked g values s (record b.base { instances = all }) stacks (world.left_set at index (world.entry_removed at index t.world))) placed
                (end_leaves g values s now stacks t.world at index here here_there some b.leaves.stands);
            told = b.leaves.told;
            kept_rest = rest_kept now (changed_at at (with_slots slots) base.instances) b.base.tasks b.base.labels b.leaves.kept_rest;
            world_rest = ap (λ (v : World). world.left_set at index (world.entry_removed at index v)) b.leaves.world_rest;
            same_tasks = b.leaves.same_tasks;
            tasks_stay = b.leaves.tasks_stay;
          };
          lender = b.lender;
          from = b.from;
        }

    -- A handle is lent.
    handle_lent : (index : ℕ) (x : Handle) → handles.view_at seen_as k.slots index ≡ Some (seen.Handle x) → c ≡ true → may ≡ true
        → Goes (record { left = k.left; slots = handles.lent seen_as of_handle index k.slots; moved = k.moved ++ Lent index ∷ [] })
        (record t { lines = t.lines ++ lend_line at index callee ∷ []; world = world.lent callee index t.world })
    handle_lent index x is borrows may_so =
        let slots : Slots WorldEntry = handles.lent seen_as of_handle index k.slots in
        let lender : MayLend (slice_get b.base.tasks callee) = lender_of (slice_get b.base.tasks callee) (b.lender ∙ may_so) in
        let tasks : List TaskSlot = slice_set b.base.tasks callee (lent_slot index lender.slot) in
        let labels : List Label = b.base.labels ++ line.Lend (at + 1) index callee ∷ [] in
        let marked : StandsMarked g values s (with_task callee (lent_slot index lender.slot) (with_instance at (instance.lent index here) now)) stacks (world.lent callee index t.world) =
        handle_is_lent g values s now stacks t.world at index callee here x lender.slot here_there (handle_is index x is) lender.is lender.may (b.from borrows) b.leaves.stands in
        let placed : StandsMarked g values s (record b.base { tasks = tasks; instances = changed_at at (with_slots slots) b.base.instances }) stacks (world.lent callee index t.world) =
        subst (λ (all : List InstanceView). StandsMarked g values s (record b.base { tasks = tasks; instances = all }) stacks (world.lent callee index t.world)) (reslotted slots) marked in
        record {
          left_same = b.left_same;
          base = record b.base { tasks = tasks; labels = labels };
          inst = b.inst;
          moved = moved_to at callee k.moved (Lent index) h b.base b.moved ∙ lent_to at callee index b.base lender.slot lender.is lender.may;
          there = b.there;
          leaves = record {
            stands = record { stands = placed.stands; ends = placed.ends; lends = placed.lends };
            told = ap (λ (ls : List Label). ls ++ line.Lend (at + 1) index callee ∷ []) b.leaves.told
                ∙ append_assoc h.labels t.lines (line.Lend (at + 1) index callee ∷ []);
            kept_rest = rest_kept now (changed_at at (with_slots slots) b.base.instances) tasks labels b.leaves.kept_rest;
            world_rest = ap (λ (v : World). world.lent callee index v) b.leaves.world_rest;
            same_tasks = seen_set (λ (slot : TaskSlot). slot.callee) b.base.tasks callee lender.slot (lent_slot index lender.slot) lender.is refl ∙ b.leaves.same_tasks;
            tasks_stay = right_changed TaskStays w.tasks t.world.tasks callee (lend_in callee index) (λ x y stays. lent_stays callee index x y stays) b.leaves.tasks_stay;
          };
          lender = ap (λ (o : Option TaskSlot). may_lend_in o) (get_set b.base.tasks callee lender.slot (lent_slot index lender.slot) lender.is)
              ∙ still_lends index lender.slot.caller ∙ ap (λ (o : Option TaskSlot). may_lend_in o) (sym lender.is) ∙ b.lender;
          from = λ borrows. called_lent t.world at callee index (b.from borrows);
        }

    -- It can't be.
    lent_late : (index : ℕ) → may ≡ false → Late (k.moved ++ Lent index ∷ [])
    lent_late index may_not borrows =
        moved_to at callee k.moved (Lent index) h b.base b.moved
        ∙ not_lent at callee index b.base (slice_get b.base.tasks callee) refl
        (λ slot is. ap (λ (o : Option TaskSlot). may_lend_in o) (sym is) ∙ b.lender ∙ may_not)

    -- Uses by what is found.
    refused : (why : Refusal) (place : ℕ) → Halts (tables.stopped (trap (lift_why.Refused why) place) k) (stopped (refusal_name why) t)
    refused why place = stops_at (trap (lift_why.Refused why) place) k t b

    own_taken_so : (u : Use) (resource : ℕ) (r : Result Handle Refusal) → own_in (handles.view_at seen_as k.slots u.index) resource ≡ r
        → Both BesideWorld EndsBeside SameNumber (tables.taken_own r u k) (faulted (own_taken at u.index r t))
    own_taken_so u resource (Ok x) is = (refl, own_leaves u.index x (own_found (handles.view_at seen_as k.slots u.index) resource x is))
    own_taken_so u resource (Err why) is = refused why u.place

    end_taken_so : (u : Use) (of : Bool) (r : Result ℕ Refusal) → end_in (handles.view_at seen_as k.slots u.index) of ≡ r
        → Both BesideWorld EndsBeside SameNumber (tables.taken_end r u k) (faulted (end_taken at u.index r t))
    end_taken_so u of (Ok number) is =
        let f : EndFound (handles.view_at seen_as k.slots u.index) number = end_found (handles.view_at seen_as k.slots u.index) of number is in
        (refl, end_goes u.index (seen.ReadableEnd f.found) f.is)
    end_taken_so u of (Err why) is = refused why u.place

    borrow_by : (u : Use) (x : Handle) (d e : Bool) → handles.view_at seen_as k.slots u.index ≡ Some (seen.Handle x) → c ≡ d → may ≡ e
        → Both BesideWorld EndsBeside SameNumber (tables.taken_borrow seen_as of_handle (Ok x) u k) (halted (d && e) (faulted (borrow_taken at callee u.index (Ok x) t)))
    borrow_by u x true true is borrows may_so = (refl, handle_lent u.index x is borrows may_so)
    borrow_by u x true false is borrows may_not = lent_late u.index may_not
    borrow_by u x false e is none asked = λ borrows. absurd (let w : ⊥ = cc in w)

    halted_refused : (d : Bool) (u : Use) (why : Refusal)
        → Both BesideWorld EndsBeside SameNumber (tables.taken_borrow seen_as of_handle (Err why) u k) (halted d (faulted (borrow_taken at callee u.index (Err why) t)))
    halted_refused true u why = refused why u.place
    halted_refused false u why = refused why u.place

    borrow_taken_so : (u : Use) (resource : ℕ) (r : Result Handle Refusal) → handle_in (handles.view_at seen_as k.slots u.index) resource ≡ r
        → Both BesideWorld EndsBeside SameNumber (tables.taken_borrow seen_as of_handle r u k) (halted flag (faulted (borrow_taken at callee u.index r t)))
    borrow_taken_so u resource (Ok x) is = borrow_by u x c may (handle_found (handles.view_at seen_as k.slots u.index) resource x is) refl refl
    borrow_taken_so u resource (Err why) is = halted_refused flag u why

    taken_so : (what : What) (u : Use)
        → Both BesideWorld EndsBeside SameNumber (tables.taken_as seen_as of_handle end_type_of values what u k) (unless_lent flag what (faulted (world_taken at callee what u.index t)))
    taken_so (AnOwn resource) u =
        subst (λ (r : Result Handle Refusal). Both BesideWorld EndsBeside SameNumber (tables.taken_own (own_in (handles.view_at seen_as k.slots u.index) resource) u k) (faulted (own_taken at u.index r t)))
        (ap (λ (v : Option EntryView). own_in v resource) (view_same u.index)) (own_taken_so u resource (own_in (handles.view_at seen_as k.slots u.index) resource) refl)
    taken_so (ABorrow resource) u =
        subst
        (λ (r : Result Handle Refusal). Both BesideWorld EndsBeside SameNumber (tables.taken_borrow seen_as of_handle (handle_in (handles.view_at seen_as k.slots u.index) resource) u k)
        (halted flag (faulted (borrow_taken at callee u.index r t))))
        (ap (λ (v : Option EntryView). handle_in v resource) (view_same u.index)) (borrow_taken_so u resource (handle_in (handles.view_at seen_as k.slots u.index) resource) refl)
    taken_so (AnEnd type) u =
        let of : Bool = tables.is_end_at end_type_of values k.slots u.index type in
        subst
        (λ (r : Result ℕ Refusal). Both BesideWorld EndsBeside SameNumber (tables.taken_end (end_in (handles.view_at seen_as k.slots u.index) of) u k) (faulted (end_taken at u.index r t)))
        (end_answer g values s now stacks t.world at u.index here here_there b.leaves.stands type)
        (end_taken_so u of (end_in (handles.view_at seen_as k.slots u.index) of) refl)

  -- A value is counted, and its index used.
  took_late : (what : What) (u : Use) (k : tables.Kept WorldEntry) → Late k.moved
      → Both BesideWorld EndsBeside SameNumber (tables.taken_as seen_as of_handle end_type_of values what u k) (Err None)
  took_late (AnOwn resource) u k late = own_late (own_in (handles.view_at seen_as k.slots u.index) resource)
    where
      own_late : (r : Result Handle Refusal) → Both BesideWorld EndsBeside SameNumber (tables.taken_own r u k) (Err None)
      own_late (Ok x) = late
      own_late (Err why) = late
  took_late (ABorrow resource) u k late = borrow_late (handle_in (handles.view_at seen_as k.slots u.index) resource)
    where
      borrow_late : (r : Result Handle Refusal) → Both BesideWorld EndsBeside SameNumber (tables.taken_borrow seen_as of_handle r u k) (Err None)
      borrow_late (Ok x) = λ borrows. moved_stuck at callee k.moved (Lent u.index) h (late borrows)
      borrow_late (Err why) = late
  took_late (AnEnd type) u k late = end_late (end_in (handles.view_at seen_as k.slots u.index) (tables.is_end_at end_type_of values k.slots u.index type))
    where
      end_late : (r : Result ℕ Refusal) → Both BesideWorld EndsBeside SameNumber (tables.taken_end r u k) (Err None)
      end_late (Ok number) = λ borrows. moved_stuck at callee k.moved (Taken u.index) h (late borrows)
      end_late (Err why) = late

  reached_goes : (what : What) (index place : ℕ) (r : Result (tables.Kept WorldEntry) (tables.Stop WorldEntry)) (q : Result Kept Halted) → Spent BesideWorld EndsBeside r q
      → Both BesideWorld EndsBeside SameNumber (counting r (λ k. (over_table values).take (record { what = what; index = index; place = place }) k))
      (counting q (λ t. (halting flag at callee).take (record { what = what; index = index; place = place }) t))
  reached_goes what index place (Ok k) (Ok t) b = taken_so k t b what (record { what = what; index = index; place = place })
  reached_goes what index place (Ok k) (Err None) b = took_late what (record { what = what; index = index; place = place }) k b
  reached_goes what index place (Ok k) (Err (Some stop)) b = absurd b
  reached_goes what index place (Err stop) (Ok t) b = absurd b
  reached_goes what index place (Err stop) (Err other) b = b

  reached_late : (what : What) (index place : ℕ) (r : Result (tables.Kept WorldEntry) (tables.Stop WorldEntry)) → Spent BesideWorld EndsBeside r (Err None)
      → Both BesideWorld EndsBeside SameNumber (counting r (λ k. (over_table values).take (record { what = what; index = index; place = place }) k)) (Err None)
  reached_late what index place (Ok k) b = took_late what (record { what = what; index = index; place = place }) k b
  reached_late what index place (Err stop) b = b

  reaches : (what : What) (index place : ℕ) (k : tables.Kept WorldEntry) (q : Result Kept Halted) → BesideWorld k q
      → Both BesideWorld EndsBeside SameNumber (reached (over_table values) what index place k) (counting q (λ t. reached (halting flag at callee) what index place t))
  reaches what index place k (Ok t) b = reached_goes what index place ((over_table values).spend 1 place k) ((halting flag at callee).spend 1 place t) (spends 1 place k (Ok t) b)
  reaches what index place k (Err None) b = reached_late what index place ((over_table values).spend 1 place k) (spends 1 place k (Err None) b)
  reaches what index place k (Err (Some stop)) b = absurd b

  pub beside_world : AreBeside (over_table values) (halting flag at callee) itself BesideWorld EndsBeside
  beside_world = record { spends = spends; stops = stops; reaches = reaches }
