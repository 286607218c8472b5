-- What a part comes to, and a turn: what is looked up on both sides, tests, and answers.
use Rattle.std.proofs.Common.{◌≡◌, ℕ, zero, suc, Bool, true, false, nat_lt, if◌then◌else◌, List, [], ◌∷◌, ◌++◌, refl, sym, ap, ◌∙◌, subst, append-nil, slice_set, Option, Some, None, Result, Ok, Err}
use Rattle.std.specs.Prelude.{IsSome}
use Rattle.std.specs.List.{slice_get}
use Rattle.syntax_trees.specs.declared.types.ValType.{ValType}
use Rattle.wasm_store.specs.Stack.{Stack}
use Rattle.handle_table.specs.History.{Event, next_index, live_count, most_live}
use Rattle.handle_table.specs.Slots.{count, next_of}
use Rattle.comp_graph.specs.Graph.{Graph}
use Rattle.script_reader.specs.Script.{Script}
use Rattle.trace_labels.specs.declared.label.Label.{Label}
use Rattle.trace_labels.specs.declared.label.Label.TheVariants as line
use Rattle.trace_labels.specs.declared.trap.TrapName.{TrapName}
use Rattle.trace_labels.specs.declared.trap.TrapName.TheVariants as trap
use Rattle.instances.specs.declared.entry.WorldEntry.{WorldEntry}
use Rattle.instances.specs.Instances as instance
use Rattle.instances.specs.Instances.{InstanceView}
use Rattle.task_table.specs.declared.caller.Called.{Called}
use Rattle.task_table.specs.declared.caller.Caller as kept
use Rattle.task_table.specs.declared.caller.Caller.TheVariants as by
use Rattle.task_table.specs.Callers.{called_of}
use Rattle.task_table.specs.declared.slot.TaskSlot.{TaskSlot}
use Rattle.world_parts.specs.declared.parts.Flow.{Flow}
use Rattle.world_parts.specs.Held.{Held, Done, Gives, Traps, after, given}
use Rattle.res_handles.specs.declared.refusal.Refusal.{Refusal}
use Rattle.world_parts.specs.Names as names
use Rattle.world_parts.specs.Entries.{with_instance, entry_added, named}
use Rattle.world_parts.specs.Feed.{got}
use Rattle.abi_machine.specs.World.{Entry, Inst, Subtask, Caller, Nobody, Host, Guest, Task, World}
use Rattle.abi_machine.specs.Edits as world
use Rattle.abi_machine.specs.Edits.{changed_at}
use Rattle.abi_machine.specs.Reading.{table_in, subtask_of}
use Rattle.abi_machine.specs.Calling.{with_subtask_of}
use Rattle.abi_machine.specs.Turn as turns
use Rattle.abi_machine.specs.Traps.{refusal_name, renamed}
use Rattle.abi_machine.specs.Turn.{Turn, doomed, replied, with_entry, unless_refused}
use Rattle.abi_machine.proofs.sound.Found.{there_changed}
use Rattle.standing.specs.Instances.{EntryStands, InstStands}
use Rattle.standing.specs.Tasks.{TaskStands, CallerStands, SubtaskStands}
use Rattle.standing.specs.Stands.{Stands}
use Rattle.standing.specs.Agreeing.{Agrees}
use Rattle.standing.proofs.Lists.{BothAt, at_both, IsFound, found_both}
use Rattle.standing.proofs.Tables.{next_is_alike, room_is_alike, entries_are_added}
use Rattle.standing.proofs.Found.{names_same}
use Rattle.standing.proofs.Changes.{instances_change, refusals_change_nothing}

pub turn_as : (g : Graph) (values : List ValType) (s : Script) (t : ℕ) (before : List Label) (stacks : List (List Stack)) (d : Done Flow) (u v : Turn) → u ≡ v
    → Agrees g values s t before stacks d v → Agrees g values s t before stacks d u
turn_as g values s t before stacks d u v e a = subst (λ (x : Turn). Agrees g values s t before stacks d x) (sym e) a

-- An instance, or a task, that is there.
pub on_instance : {A : Type 0} (g : Graph) (values : List ValType) (s : Script) (t : ℕ) (before : List Label) (stacks : List (List Stack)) (h : Held) (w : World) (at : ℕ)
    (F : InstanceView → Done A) (G : A → Held → Done Flow) (u : Turn)
    → IsSome (slice_get w.insts at) → Stands g values s h stacks w
    → ((x : InstanceView) (y : Inst) → slice_get h.instances at ≡ Some x → slice_get w.insts at ≡ Some y → InstStands values x y → Agrees g values s t before stacks (after (F x) G) u)
    → Agrees g values s t before stacks (after (given (slice_get h.instances at) F) G) u
on_instance g values s t before stacks h w at F G u there st k =
    let f : IsFound (InstStands values) (slice_get h.instances at) (slice_get w.insts at) = found_both (InstStands values) h.instances w.insts at st.are_instances there in
    subst (λ (o : Option InstanceView). Agrees g values s t before stacks (after (given o F) G) u) (sym f.is_left) (k f.left f.right f.is_left f.is_right f.alike)

pub on_slot : {A : Type 0} (g : Graph) (values : List ValType) (s : Script) (t : ℕ) (before : List Label) (stacks : List (List Stack)) (h : Held) (w : World) (number : ℕ)
    (F : TaskSlot → Done A) (G : A → Held → Done Flow) (u : Turn)
    → IsSome (slice_get w.tasks number) → Stands g values s h stacks w
    → ((x : TaskSlot) (y : Task) → slice_get h.tasks number ≡ Some x → slice_get w.tasks number ≡ Some y → TaskStands g s x y → Agrees g values s t before stacks (after (F x) G) u)
    → Agrees g values s t before stacks (after (given (slice_get h.tasks number) F) G) u
on_slot g values s t before stacks h w number F G u there st k =
    let f : IsFound (TaskStands g s) (slice_get h.tasks number) (slice_get w.tasks number) = found_both (TaskStands g s) h.tasks w.tasks number st.are_tasks there in
    subst (λ (o : Option TaskSlot). Agrees g values s t before stacks (after (given o F) G) u) (sym f.is_left) (k f.left f.right f.is_left f.is_right f.alike)

-- An answer, and a trap.
pub on_got : (g : Graph) (values : List ValType) (s : Script) (t : ℕ) (before : List Label) (stacks : List (List Stack)) (h : Held) (w : World) (words : List ℕ)
    → h.labels ≡ before → Stands g values s h stacks w → Agrees g values s t before stacks (got t words h) (replied t words w)
on_got g values s t before stacks h w words same st = record {
  lines = line.Got t words ∷ [];
  world = w;
  stands = st;
  told = ap (λ (ls : List Label). ls ++ line.Got t words ∷ []) same;
  ends = (refl, refl);
}

pub on_trap : (g : Graph) (values : List ValType) (s : Script) (t : ℕ) (before : List Label) (stacks : List (List Stack)) (h : Held) (w : World) (why : TrapName)
    → h.labels ≡ before → Stands g values s h stacks w → Agrees g values s t before stacks (Traps why h) (doomed t why w)
on_trap g values s t before stacks h w why same st = record {
  lines = [];
  world = w;
  stands = st;
  told = same ∙ sym (append-nil before);
  ends = refl;
}

-- A test.
pub on_if : (g : Graph) (values : List ValType) (s : Script) (t : ℕ) (before : List Label) (stacks : List (List Stack)) (b c : Bool) (d e : Done Flow) (u v : Turn) → b ≡ c
    → Agrees g values s t before stacks d u → Agrees g values s t before stacks e v → Agrees g values s t before stacks (if b then d else e) (if c then u else v)
on_if g values s t before stacks true true d e u v same p q = p
on_if g values s t before stacks false false d e u v same p q = q
on_if g values s t before stacks true false d e u v same p q = absurd (cc)
on_if g values s t before stacks false true d e u v same p q = absurd (cc)

-- One more entry.
pub on_add : (g : Graph) (values : List ValType) (s : Script) (t : ℕ) (before : List Label) (stacks : List (List Stack)) (h : Held) (w : World) (at : ℕ) (e : WorldEntry) (a : Entry)
    (G : ℕ → Held → Done Flow) (K : ℕ → World → Turn)
    → IsSome (slice_get w.insts at) → h.labels ≡ before → EntryStands values e a → Stands g values s h stacks w
    → ((index : ℕ) (k : Held) (v : World) → IsSome (slice_get v.insts at) → k.labels ≡ before → Stands g values s k stacks v → Agrees g values s t before stacks (G index k) (K index v))
    → Agrees g values s t before stacks (after (entry_added at e h) G) (with_entry t at a w K)
on_add g values s t before stacks h w at e a G K there same stands st more =
    on_instance g values s t before stacks h w at
    (λ i. if nat_lt (count i.slots) most_live then Gives (next_of i.slots) (with_instance at (instance.entry_added e i) h) else Traps trap.TableFull (with_instance at i h))
    G (with_entry t at a w K) there st at_one
  where
    by : (x : InstanceView) (b : Bool) → slice_get h.instances at ≡ Some x → nat_lt (count x.slots) most_live ≡ b
        → Agrees g values s t before stacks (after (if b then Gives (next_of x.slots) (with_instance at (instance.entry_added e x) h) else Traps trap.TableFull (with_instance at x h)) G)
        (if b then K (next_of x.slots) (world.entry_added at a w) else doomed t trap.TableFull w)
    by x true is room =
        more (next_of x.slots) (with_instance at (instance.entry_added e x) h) (world.entry_added at a w)
        (there_changed w.insts at at (λ inst. record inst { table = world.added a inst.table }) there) same
        (instances_change g values s h stacks w at x (instance.entry_added e x) (λ inst. record inst { table = world.added a inst.table }) is
        (λ y is_right alike. entries_are_added values x y e a room stands alike) st)
    by x false is room =
        on_trap g values s t before stacks (with_instance at x h) w trap.TableFull same (refusals_change_nothing g values s h stacks w at x is st)

    at_one : (x : InstanceView) (y : Inst) → slice_get h.instances at ≡ Some x → slice_get w.insts at ≡ Some y → InstStands values x y
        → Agrees g values s t before stacks (after (if nat_lt (count x.slots) most_live then Gives (next_of x.slots) (with_instance at (instance.entry_added e x) h) else Traps trap.TableFull (with_instance at x h)) G)
        (with_entry t at a w K)
    at_one x y is is_right alike =
        turn_as g values s t before stacks _ (with_entry t at a w K) (if nat_lt (count x.slots) most_live then K (next_of x.slots) (world.entry_added at a w) else doomed t trap.TableFull w)
        (ap (λ (table : List (Event Entry)). if nat_lt (live_count table) most_live then K (next_index table) (world.entry_added at a w) else doomed t trap.TableFull w) (ap table_in is_right)
        ∙ ap (λ (b : Bool). if b then K (next_index y.table) (world.entry_added at a w) else doomed t trap.TableFull w) (sym (room_is_alike values x y alike))
        ∙ ap (λ (n : ℕ). if nat_lt (count x.slots) most_live then K n (world.entry_added at a w) else doomed t trap.TableFull w) (sym (next_is_alike values x y alike)))
        (by x (nat_lt (count x.slots) most_live) is refl)

-- What is found at an index, or refused.
pub on_named : {A : Type 0} (g : Graph) (values : List ValType) (s : Script) (t : ℕ) (before : List Label) (stacks : List (List Stack)) (h : Held) (w : World) (r : Result A Refusal)
    (G : A → Held → Done Flow) (K : A → Turn)
    → h.labels ≡ before → Stands g values s h stacks w → ((x : A) → r ≡ Ok x → Agrees g values s t before stacks (G x h) (K x))
    → Agrees g values s t before stacks (after (named r h) G) (unless_refused t (renamed refusal_name r) w K)
on_named g values s t before stacks h w (Ok x) G K same st k = k x refl
on_named g values s t before stacks h w (Err why) G K same st k =
    subst (λ (name : TrapName). Agrees g values s t before stacks (Traps (names.refusal_name why) h) (doomed t name w)) (names_same why)
    (on_trap g values s t before stacks h w (names.refusal_name why) same st)

-- What was written at a place stands there.
pub get_set : {A : Type 0} (xs : List A) (n : ℕ) (x z : A) → slice_get xs n ≡ Some x → slice_get (slice_set xs n z) n ≡ Some z
get_set [] n x z e = absurd (cc)
get_set (a ∷ xs) zero x z e = refl
get_set (a ∷ xs) (suc n) x z e = get_set xs n x z e

pub changed_twice : {A : Type 0} (n : ℕ) (f g : A → A) (xs : List A) → changed_at n f (changed_at n g xs) ≡ changed_at n (λ x. f (g x)) xs
changed_twice n f g [] = refl
changed_twice zero f g (x ∷ xs) = refl
changed_twice (suc n) f g (x ∷ xs) = ap (λ ys. x ∷ ys) (changed_twice n f g xs)

-- A word of a call.
pub on_word : (g : Graph) (values : List ValType) (s : Script) (t : ℕ) (before : List Label) (stacks : List (List Stack)) (o : Option ℕ) (word : ℕ) (F : ℕ → Done Flow) (u : Turn)
    → o ≡ Some word → Agrees g values s t before stacks (F word) u → Agrees g values s t before stacks (given o F) u
on_word g values s t before stacks o word F u is a = subst (λ (p : Option ℕ). Agrees g values s t before stacks (given p F) u) (sym is) a

-- The task that another one called, with the caller's side of the call, where it is there.
pub on_subtask : {A : Type 0} (g : Graph) (values : List ValType) (s : Script) (t : ℕ) (before : List Label) (stacks : List (List Stack)) (h : Held) (w : World) (callee : ℕ)
    (F : Called → Done A) (G : A → Held → Done Flow) (K : Task → Subtask → Turn)
    → Stands g values s h stacks w
    → ((slot : TaskSlot) (task : Task) (called : Called) (subtask : Subtask) → slice_get h.tasks callee ≡ Some slot → slice_get w.tasks callee ≡ Some task
    → slot.caller ≡ by.Guest called → task.caller ≡ Guest subtask → TaskStands g s slot task → SubtaskStands called subtask → Agrees g values s t before stacks (after (F called) G) (K task subtask))
    → Agrees g values s t before stacks (after (given (slice_get h.tasks callee) (λ slot. given (called_of slot.caller) F)) G) (with_subtask_of w callee K)
on_subtask g values s t before stacks h w callee F G K st k =
    go (slice_get h.tasks callee) (slice_get w.tasks callee) (at_both (TaskStands g s) h.tasks w.tasks callee st.are_tasks) refl refl
  where
    of_caller : (slot : TaskSlot) (task : Task) (c : kept.Caller) (d : Caller) → slice_get h.tasks callee ≡ Some slot → slice_get w.tasks callee ≡ Some task
        → slot.caller ≡ c → task.caller ≡ d → TaskStands g s slot task → CallerStands s c d
        → Agrees g values s t before stacks (after (given (called_of c) F) G) (turns.given (subtask_of d) (λ subtask. K task subtask))
    of_caller slot task by.Nobody Nobody e f c d stands b = refl
    of_caller slot task by.Nobody (Host call values) e f c d stands b = absurd b
    of_caller slot task by.Nobody (Guest subtask) e f c d stands b = absurd b
    of_caller slot task (by.Host number) Nobody e f c d stands b = absurd b
    of_caller slot task (by.Host number) (Host call values) e f c d stands b = refl
    of_caller slot task (by.Host number) (Guest subtask) e f c d stands b = absurd b
    of_caller slot task (by.Guest one) Nobody e f c d stands b = absurd b
    of_caller slot task (by.Guest one) (Host call values) e f c d stands b = absurd b
    of_caller slot task (by.Guest one) (Guest subtask) e f c d stands b = k slot task one subtask e f c d stands b

    go : (o : Option TaskSlot) (p : Option Task) → BothAt (TaskStands g s) o p → slice_get h.tasks callee ≡ o → slice_get w.tasks callee ≡ p
        → Agrees g values s t before stacks (after (given o (λ slot. given (called_of slot.caller) F)) G)
        (turns.given p (λ task. turns.given (subtask_of task.caller) (λ subtask. K task subtask)))
    go None None b e f = refl
    go None (Some task) b e f = absurd b
    go (Some slot) None b e f = absurd b
    go (Some slot) (Some task) b e f = of_caller slot task slot.caller task.caller e f refl refl b b.called
