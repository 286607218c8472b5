-- A subtask that may be asked to come to an end: its gate is kept as it follows from the tasks, also where the task that asks waits for control.
use Rattle.std.proofs.Common.{◌≡◌, ◌≤◌, ℕ, zero, suc, ◌+◌, Bool, true, false, nat_lt, if◌then◌else◌, List, [], ◌∷◌, refl, sym, ap, ◌∙◌, subst, arith, Option, Some, None}
use Rattle.std.specs.Prelude.{IsSome}
use Rattle.std.specs.List.{slice_get, count_by}
use Rattle.std.proofs.lemmas.Bool.{lt-ltb, eq-eqb}
use Rattle.std.proofs.lemmas.List.Sums.{sum_by-cons}
use Rattle.syntax_trees.specs.declared.types.ValType.{ValType}
use Rattle.wasm_store.specs.Stack.{Stack}
use Rattle.handle_table.specs.History.{live}
use Rattle.handle_table.specs.Alike.{SlotAlike}
use Rattle.entry_gate.specs.Gates.{GateView}
use Rattle.entry_gate.specs.Stays.{Place, Stay, waits, holder_of}
use Rattle.comp_graph.specs.Graph.{Graph, Lifted}
use Rattle.script_reader.specs.Script.{Script}
use Rattle.instances.specs.declared.entry.WorldEntry.{WorldEntry}
use Rattle.instances.specs.declared.entry.WorldEntry.TheVariants as entry
use Rattle.instances.specs.Instances.{entry_of}
use Rattle.world_parts.specs.Held.{Held}
use Rattle.abi_machine.specs.World.{Entry, OfSubtask, TaskState, Acting, AfterCancel, WaitsToEnter, Inst, Task, World}
use Rattle.abi_machine.specs.Edits.{changed_at, in_state}
use Rattle.abi_machine.specs.Gate.{place_of, stays_of, gate_of}
use Rattle.abi_machine.specs.Reading.{table_in, entry_at, backpressure_of, func_of, kind_of_func, is_in, runs_in}
use Rattle.abi_machine.proofs.sound.Acted.{in_front, stays_from, front_is}
use Rattle.abi_machine.proofs.sound.Found.{some_same}
use Rattle.standing.specs.Instances.{EntryStands, InstStands}
use Rattle.standing.specs.Marks.{StatesMarked}
use Rattle.standing.specs.Moves.{KeepsGate, StandsAt}
use Rattle.standing.specs.Resolutions.{WaitIsCounted, MayBeAsked}
use Rattle.standing.specs.Stands.{Stands}
use Rattle.standing.proofs.Lists.{IsFound, found_both}
use Rattle.standing.proofs.Steps.{other_changed}
use Rattle.standing.proofs.Tables.{entries_are_alike}
use Rattle.run_laws.specs.Answering.{RunsThere, IsOther}

-- A state at the same place leaves a gate as it is.
abbrev placed : ℕ → Task → List Stay → Place → ℕ → List Stay
placed number x stays place i =
    if is_in i (func_of x.callee) then (let stay : Stay = record { task = number; kind = kind_of_func (func_of x.callee); place = place } in stay) ∷ stays else stays

stays_same : (i number n : ℕ) (tasks : List Task) (task : Task) (state : TaskState) → slice_get tasks n ≡ Some task → place_of state ≡ place_of task.state
    → stays_from i number (changed_at n (λ (x : Task). record x { state = state }) tasks) ≡ stays_from i number tasks
stays_same i number n [] task state e same = absurd (cc)
stays_same i number zero (x ∷ tasks) task state e same =
    front_is i number (record x { state = state }) tasks
    ∙ ap (λ (p : Place). placed number x (stays_from i (number + 1) tasks) p i) (same ∙ ap (λ (y : Task). place_of y.state) (sym (some_same e)))
    ∙ sym (front_is i number x tasks)
stays_same i number (suc n) (x ∷ tasks) task state e same =
    front_is i number x (changed_at n (λ (y : Task). record y { state = state }) tasks)
    ∙ ap (in_front i number x.callee x.state) (stays_same i (number + 1) n tasks task state e same)
    ∙ sym (front_is i number x tasks)

gate_same : (w : World) (i n : ℕ) (task : Task) (state : TaskState) → slice_get w.tasks n ≡ Some task → place_of state ≡ place_of task.state
    → gate_of (in_state n state w) i ≡ gate_of w i
gate_same w i n task state there same =
    ap (λ (l : List Stay). (let v : GateView = record { pressure = backpressure_of w i; holder = holder_of l; waiting = count_by waits l } in v))
    (stays_same i 0 n w.tasks task state there same)

-- A task that waits to enter is counted.
one_more : (b : Bool) (stay : Stay) (stays : List Stay) → 1 ≤ count_by waits stays → 1 ≤ count_by waits (if b then stay ∷ stays else stays)
one_more true stay stays h =
    let both : count_by waits (stay ∷ stays) ≡ (if waits stay then 1 else 0) + count_by waits stays = sum_by-cons (λ (x : Stay). if waits x then 1 else 0) stay stays in
    omega (arith, both, h)
one_more false stay stays h = h

counts_one : (i number n : ℕ) (tasks : List Task) (task : Task) → slice_get tasks n ≡ Some task → runs_in i task ≡ true → task.state ≡ WaitsToEnter
    → 1 ≤ count_by waits (stays_from i number tasks)
counts_one i number n [] task e here at = absurd (cc)
counts_one i number zero (x ∷ tasks) task e here at =
    let same : x ≡ task = some_same e in
    let rest : List Stay = stays_from i (number + 1) tasks in
    let first : stays_from i number (x ∷ tasks) ≡ placed number x rest (place_of WaitsToEnter) i =
    front_is i number x tasks ∙ ap (λ (p : Place). placed number x rest p i) (ap (λ (y : Task). place_of y.state) same ∙ ap place_of at) in
    let waits_first : Stay = record { task = number; kind = kind_of_func (func_of x.callee); place = place_of WaitsToEnter } in
    let is : stays_from i number (x ∷ tasks) ≡ waits_first ∷ rest =
    first ∙ ap (λ (b : Bool). if b then waits_first ∷ rest else rest) (ap (runs_in i) same ∙ here) in
    let more : count_by waits (waits_first ∷ rest) ≡ 1 + count_by waits rest = sum_by-cons (λ (x : Stay). if waits x then 1 else 0) waits_first rest in
    subst (λ (l : List Stay). 1 ≤ count_by waits l) (sym is) (omega (arith, more))
counts_one i number (suc n) (x ∷ tasks) task e here at =
    subst (λ (l : List Stay). 1 ≤ count_by waits l) (sym (front_is i number x tasks))
    (one_more (runs_in i x) _ (stays_from i (number + 1) tasks) (counts_one i (number + 1) n tasks task e here at))

pub wait_is_counted : (h : Held) (w : World) (callee : ℕ) (task : Task) (f : Lifted) → slice_get w.tasks callee ≡ Some task → func_of task.callee ≡ Some f → KeepsGate h w f.instance
    → WaitIsCounted h f.instance task
wait_is_counted h w callee task f there runs keeps waits_so i at =
    let here : runs_in f.instance task ≡ true = ap (is_in f.instance) runs ∙ eq-eqb f.instance f.instance refl in
    let one : 1 ≤ count_by waits (stays_of w f.instance) = counts_one f.instance 0 callee w.tasks task there here waits_so in
    ap (λ (v : GateView). nat_lt 0 v.waiting) (keeps i at) ∙ lt-ltb 0 (count_by waits (stays_of w f.instance)) (omega (arith, one))

pub may_be_asked : (h : Held) (w : World) (t callee number : ℕ) (words : List ℕ) (task : Task) → slice_get w.tasks t ≡ Some task → task.state ≡ Acting → IsOther w t callee
    → ((i : ℕ) → KeepsGate h w i) → StatesMarked h.tasks → MayBeAsked h (in_state t (AfterCancel callee number words) w) t callee
may_be_asked h w t callee number words task there acts other gates states = record {
  apart = other.apart;
  state = λ slot is. states callee slot is;
  func = λ x x_is.
      let x_there : slice_get w.tasks callee ≡ Some x = sym (other_changed w.tasks t callee (λ (y : Task). record y { state = AfterCancel callee number words }) other.apart) ∙ x_is in
      let runs : RunsThere w x = other.runs x x_there in (
        runs.0,
        runs.1,
        runs.2,
        λ i at. gates runs.0.instance i at ∙ sym (gate_same w runs.0.instance t task (AfterCancel callee number words) there (sym (ap place_of acts))),
        wait_is_counted h w callee x runs.0 x_there runs.1 (gates runs.0.instance),
      );
}

-- A subtask that is kept at an index stands there.
subtask_live : (values : List ValType) (o : Option WorldEntry) (p : Option Entry) (callee : ℕ) → o ≡ Some (entry.Subtask callee) → SlotAlike (EntryStands values) o p → p ≡ Some (OfSubtask callee)
subtask_live values None p callee is h = absurd (cc)
subtask_live values (Some e) None callee is h = absurd h
subtask_live values (Some e) (Some a) callee is h = ap (λ (x : Entry). Some x) (subst (λ (x : WorldEntry). EntryStands values x a) (some_same is) h)

pub subtask_stands : (g : Graph) (values : List ValType) (s : Script) (h : Held) (stacks : List (List Stack)) (w : World) (at word callee : ℕ) → IsSome (slice_get w.insts at)
    → Stands g values s h stacks w → StandsAt h at word (entry.Subtask callee) → entry_at w at word ≡ Some (OfSubtask callee)
subtask_stands g values s h stacks w at word callee inside st stood =
    let one : IsFound (InstStands values) (slice_get h.instances at) (slice_get w.insts at) = found_both (InstStands values) h.instances w.insts at st.are_instances inside in
    ap (λ (o : Option Inst). live (table_in o) word) one.is_right
    ∙ subtask_live values (entry_of one.left word) (live one.right.table word) callee (stood one.left one.is_left) (entries_are_alike values one.left one.right word one.alike)
