-- An event comes to a task: at its wait as eight bytes and an answer, at its callback as arguments.
use Rattle.std.proofs.Common.{◌≡◌, ◌≤◌, ℕ, ◌+◌, Bool, true, nat_le, is_some, if◌then◌else◌, List, [], ◌∷◌, ◌++◌, length, slice_index, refl, sym, ap, ◌∙◌, subst, append_assoc, arith, Option, Some, None}
use Rattle.std.specs.List.{slice_get}
use Rattle.std.specs.Option.{option_map, option_and_then}
use Rattle.std.proofs.lemmas.Bool.{le-leb}
use Rattle.syntax_trees.specs.declared.types.ValType.{ValType}
use Rattle.wasm_memory.specs.Memories.{MemoryState, with_bytes}
use Rattle.wasm_store.specs.Store.{Store, found_at}
use Rattle.wasm_store.specs.Stack.{Stack}
use Rattle.wasm_store.specs.Effects as core
use Rattle.tasks.specs.declared.event.TaskEvent.TheVariants as event
use Rattle.tasks.specs.declared.phase.Cancellation.TheVariants.{Delivered}
use Rattle.tasks.specs.Tasks.{is_asked}
use Rattle.comp_graph.specs.declared.graph.CoreRef.{CoreRef}
use Rattle.comp_graph.specs.declared.graph.FuncRef.{FuncRef}
use Rattle.comp_graph.specs.declared.graph.Lift.{Lift}
use Rattle.comp_graph.specs.declared.graph.Options.{Options}
use Rattle.comp_graph.specs.Graph.{Graph, Lifted}
use Rattle.script_reader.specs.Script.{Script}
use Rattle.trace_labels.specs.declared.label.Label.{Label}
use Rattle.trace_labels.specs.declared.label.Label.TheVariants as line
use Rattle.task_table.specs.declared.slot.TaskSlot.{TaskSlot}
use Rattle.task_table.specs.Slots as slots
use Rattle.world_parts.specs.declared.parts.Flow.TheVariants as flow
use Rattle.world_parts.specs.declared.parts.Receiver as kept
use Rattle.world_parts.specs.declared.parts.Receiver.TheVariants as receiver
use Rattle.world_parts.specs.declared.parts.Rest.TheVariants as rest
use Rattle.world_parts.specs.Views.{Views}
use Rattle.world_parts.specs.Held as held
use Rattle.world_parts.specs.Held.{Held, Done, Gives, after, given}
use Rattle.world_parts.specs.Places as places
use Rattle.world_parts.specs.Places.{bytes_of, bytes_in, bytes_at, rewritten_at, with_bytes_in, written, bytes_put}
use Rattle.world_parts.specs.Feed.{at_rest, got}
use Rattle.world_parts.specs.Slots.{with_task}
use Rattle.world_parts.specs.Events.{event_bytes, callback_of, callback_started, wait_answered, received, received_none, received_cancel}
use Rattle.abi_machine.specs.Control.{EventCode, NoEvent, TaskCancelled, Receiver, InWait, InCallback}
use Rattle.abi_machine.specs.World.{Callee, Task, World}
use Rattle.abi_machine.specs.Edits as world
use Rattle.abi_machine.specs.Edits.{with_memory, with_cancellation}
use Rattle.abi_machine.specs.Canons as canons
use Rattle.abi_machine.specs.Canons.{options_at, memory_of}
use Rattle.abi_machine.specs.Reading.{func_of}
use Rattle.abi_machine.specs.Turn as turns
use Rattle.abi_machine.specs.Turn.{Turn, Steps, behind, goes_on_with}
use Rattle.abi_machine.specs.Delivering as machine
use Rattle.abi_machine.specs.Delivering.{number_of, event_put, event_line}
use Rattle.abi_machine.proofs.sound.Found.{some_same, changed_there}
use Rattle.standing.specs.Tasks.{callee_of, TaskStands}
use Rattle.standing.specs.Stands.{Stands}
use Rattle.standing.specs.Agreeing.{starts, Agrees}
use Rattle.standing.specs.Events.{callback_in, HasPlace, Hears, NothingIsHeard, CancelIsHeard}
use Rattle.standing.proofs.Lists.{IsFound, found_both}
use Rattle.standing.proofs.Found.{word_is}
use Rattle.standing.proofs.Agreeing.{turn_as}
use Rattle.standing.proofs.Changes.{stores_change, tasks_change}
use Rattle.standing.proofs.Blocking as blocking
use Rattle.standing.proofs.Blocking.{happens_when}
use Rattle.standing.proofs.Steps.{via}
use Rattle.standing.proofs.Going.{done_as}
use Rattle.standing.proofs.Memories.{bytes_alike}

-- Eight bytes are put where they are inside: into a memory that is there.
put_there : (address place : ℕ) (bytes : List ℕ) (h : Held) (s : Store) (o : Option MemoryState) → slice_get h.store.memories address ≡ o → h.store ≡ s
    → place + length bytes ≤ length (bytes_of o)
    → bytes_put (Some address) place bytes h
    ≡ Gives tt (record h { store = world.rewritten (option_map (λ x. (address, x)) o) (written place bytes (bytes_of o)) s })
put_there address place bytes h s None is same fits =
    ap (λ (p : Option MemoryState).
    if nat_le (place + length bytes) (length (bytes_of p)) then Gives tt (record h { store = rewritten_at address (written place bytes (bytes_of p)) p h.store }) else held.Stuck) is
    ∙ ap (λ (b : Bool). if b then Gives tt (record h { store = h.store }) else held.Stuck) (le-leb (place + length bytes) 0 fits)
    ∙ ap (λ (x : Store). Gives tt (record h { store = x })) same
put_there address place bytes h s (Some m) is same fits =
    ap (λ (p : Option MemoryState).
    if nat_le (place + length bytes) (length (bytes_of p)) then Gives tt (record h { store = rewritten_at address (written place bytes (bytes_of p)) p h.store }) else held.Stuck) is
    ∙ ap (λ (b : Bool). if b then Gives tt (record h { store = core.with_memory address (with_bytes m (written place bytes m.bytes)) h.store }) else held.Stuck)
    (le-leb (place + length bytes) (length m.bytes) fits)
    ∙ ap (λ (x : Store). Gives tt (record h { store = core.with_memory address (with_bytes m (written place bytes m.bytes)) x })) same

put_at : (memory : Option ℕ) (place : ℕ) (bytes : List ℕ) (h : Held) (s : Store) → h.store ≡ s → 1 ≤ length bytes → place + length bytes ≤ length (canons.bytes_of s memory)
    → bytes_put memory place bytes h
    ≡ Gives tt (record h { store = world.rewritten (found_at s.memories memory) (written place bytes (canons.bytes_of s memory)) s })
put_at None place bytes h s same some fits = absurd (omega (arith, some, fits))
put_at (Some address) place bytes h s same some fits =
    let o : Option MemoryState = slice_get s.memories address in
    let alike : bytes_of o ≡ canons.bytes_of s (Some address) = bytes_alike (Some address) s in
    put_there address place bytes h s o (ap (λ (x : Store). slice_get x.memories address) same) same
    (subst (λ (all : List ℕ). place + length bytes ≤ length all) (sym alike) fits)
    ∙ ap (λ (all : List ℕ). Gives tt (record h { store = world.rewritten (found_at s.memories (Some address)) (written place bytes all) s })) alike

-- An event that is told reaches its task.
callback_same : (o : Option Lift) (code index payload : ℕ) (h : Held)
    → callback_of o code index payload h ≡ given (callback_in o) (λ ref. Gives (flow.Starts ref (code ∷ index ∷ payload ∷ [])) (at_rest rest.Runs h))
callback_same None code index payload h = refl
callback_same (Some lift) code index payload h = refl

started_by : (g : Graph) (values : List ValType) (s : Script) (t : ℕ) (before lines : List Label) (stacks : List (List Stack)) (h : Held) (w : World) (words : List ℕ) (o : Option FuncRef)
    → h.labels ≡ before ++ lines → Stands g values s h stacks w
    → Agrees g values s t before stacks (given o (λ ref. Gives (flow.Starts ref words) (at_rest rest.Runs h))) (behind lines (turns.given o (λ ref. starts t ref words w)))
started_by g values s t before lines stacks h w words None same st = refl
started_by g values s t before lines stacks h w words (Some ref) same st = record { lines = lines; world = w; stands = st; told = same; ends = (refl, refl) }

pub on_received : (g : Graph) (values : List ValType) (s : Script) (v : Views) (h : Held) (stacks : List (List Stack)) (w : World) (t : ℕ) (f : Lifted) (r : kept.Receiver) (to : Receiver)
    (code : EventCode) (index payload : ℕ) (before lines : List Label)
    → Hears g v h w t f r to → h.labels ≡ before ++ event_line t code index payload ∷ lines → Stands g values s h stacks w
    → Agrees g values s t before stacks (received v t r (number_of code) index payload h)
    (machine.received g t f to code index (record { lines = lines; payload = payload; world = w }))
unfolding machine.received machine.callback_started wait_answered callback_started
on_received g values s v h stacks w t f (receiver.InWait canon place) InCallback code index payload before lines a same st = absurd a.receives
on_received g values s v h stacks w t f receiver.InCallback (InWait number words) code index payload before lines a same st = absurd a.receives
on_received g values s v h stacks w t f (receiver.InWait canon place) (InWait number words) code index payload before lines a same st =
    let answer : List ℕ = number_of code ∷ [] in
    let all : List Label = event_line t code index payload ∷ lines ++ line.Got t answer ∷ [] in
    let turn : ℕ → ℕ → Turn = λ n p. Steps all (goes_on_with t answer (event_put g n p index payload w)) in
    let memory : Option ℕ = memory_of w.store (options_at g canon) in
    let put : Store = world.rewritten (found_at w.store.memories memory) (written place (event_bytes index payload) (canons.bytes_of w.store memory)) w.store in
    done_as g values s t before stacks _ (got t answer (record h { store = put })) _
    (via _ _ _ _
    (ap (λ (o : Options). bytes_put (places.memory_of o h) place (event_bytes index payload) h) (a.sees.options canon)
    ∙ ap (λ (m : Option ℕ). bytes_put m place (event_bytes index payload) h) a.place.0
    ∙ put_at memory place (event_bytes index payload) h w.store st.same_store (omega arith) a.place.1))
    (turn_as g values s t before stacks (got t answer (record h { store = put })) (turn number (slice_index words 1)) (turn canon place)
    (ap (λ (n : ℕ). turn n (slice_index words 1)) (sym a.receives.0) ∙ ap (λ (p : ℕ). turn canon p) (word_is words 1 place a.receives.1))
    (record {
      lines = all;
      world = event_put g canon place index payload w;
      stands = stores_change g values s h stacks w put st;
      told = ap (λ (ls : List Label). ls ++ line.Got t answer ∷ []) same ∙ append_assoc before (event_line t code index payload ∷ lines) (line.Got t answer ∷ []);
      ends = (refl, refl);
    }))
on_received g values s v h stacks w t f receiver.InCallback InCallback code index payload before lines a same st =
    let one : IsFound (TaskStands g s) (slice_get h.tasks t) (slice_get w.tasks t) = found_both (TaskStands g s) h.tasks w.tasks t st.are_tasks (ap is_some a.there) in
    let x : TaskSlot = one.left in
    let does : callee_of g x.callee ≡ Some a.task.callee = one.alike.does ∙ ap (λ (y : Task). Some y.callee) (some_same (sym one.is_right ∙ a.there)) in
    let words : List ℕ = number_of code ∷ index ∷ payload ∷ [] in
    done_as g values s t before stacks _ (given f.options.callback (λ ref. Gives (flow.Starts ref words) (at_rest rest.Runs h))) _
    (ap (λ (o : Option TaskSlot). after (given o (λ slot. Gives slot.callee h)) (λ callee k. callback_of (v.lift callee) (number_of code) index payload k)) one.is_left
    ∙ callback_same (v.lift x.callee) (number_of code) index payload h
    ∙ ap (λ (o : Option FuncRef). given o (λ ref. Gives (flow.Starts ref words) (at_rest rest.Runs h)))
    (a.callbacks x.callee f (ap (λ (o : Option Callee). option_and_then func_of o) does ∙ a.runs)))
    (started_by g values s t before (event_line t code index payload ∷ lines) stacks h w words f.options.callback same st)

-- What is known of a task stays known where memories and the task's function do.
memory_kept : (o : Option CoreRef) (h k : Held) → k.memories ≡ h.memories → places.memory_by o k ≡ places.memory_by o h
memory_kept None h k same = refl
memory_kept (Some m) h k same = ap (λ (all : List (Option ℕ)). places.memory_in (slice_get all m.instance)) same

place_kept : (g : Graph) (h k : Held) (w u : World) (r : kept.Receiver) → k.memories ≡ h.memories → u.store ≡ w.store → HasPlace g h w r → HasPlace g k u r
place_kept g h k w u (receiver.InWait canon place) same store a =
    let o : Options = options_at g canon in (
      memory_kept o.memory h k same ∙ a.0 ∙ ap (λ (x : Store). memory_of x o) (sym store),
      subst (λ (x : Store). place + 8 ≤ length (canons.bytes_of x (memory_of x o))) (sym store) a.1,
    )
place_kept g h k w u receiver.InCallback same store a = tt

pub hears_then : (g : Graph) (v : Views) (h k : Held) (w u : World) (t : ℕ) (f : Lifted) (r : kept.Receiver) (to : Receiver) (task : Task)
    → Hears g v h w t f r to → k.memories ≡ h.memories → u.store ≡ w.store → slice_get u.tasks t ≡ Some task → func_of task.callee ≡ Some f → Hears g v k u t f r to
hears_then g v h k w u t f r to task a same store there runs = record {
  sees = a.sees;
  callbacks = a.callbacks;
  task = task;
  there = there;
  runs = runs;
  receives = a.receives;
  place = place_kept g h k w u r same store a.place;
}

pub nothing_is_heard : NothingIsHeard
unfolding received_none machine.received_none
nothing_is_heard g values s v h stacks w t f r to a st =
    let k : Held = record h { labels = h.labels ++ event_line t NoEvent 0 0 ∷ [] } in
    on_received g values s v k stacks w t f r to NoEvent 0 0 h.labels [] (hears_then g v h k w w t f r to a.task a refl refl a.there a.runs) refl st

pub cancel_is_heard : CancelIsHeard
unfolding received_cancel machine.received_cancel
cancel_is_heard g values s v h stacks w t f r to task a there asked st =
    let one : IsFound (TaskStands g s) (slice_get h.tasks t) (slice_get w.tasks t) = found_both (TaskStands g s) h.tasks w.tasks t st.are_tasks (ap is_some there) in
    let x : TaskSlot = one.left in
    let same : one.right ≡ task = some_same (sym one.is_right ∙ there) in
    let may : is_asked x.task.cancellation ≡ true = ap is_asked (one.alike.cancelled ∙ ap (λ (y : Task). y.cancellation) same) ∙ asked in
    let told_one : TaskSlot = slots.with_task (record x.task { cancellation = Delivered }) x in
    let u : World = with_cancellation t Delivered w in
    let k : Held = record (with_task t told_one h) { labels = h.labels ++ event_line t TaskCancelled 0 0 ∷ [] } in
    done_as g values s t h.labels stacks _ (received v t r 6 0 0 k) _
    (via _ _ _ _ (happens_when event.ToldCancel x t h one.is_left may refl))
    (on_received g values s v k stacks u t f r to TaskCancelled 0 0 h.labels []
    (hears_then g v h k w u t f r to (record a.task { cancellation = Delivered }) a refl refl
    (changed_there t (λ (y : Task). record y { cancellation = Delivered }) w.tasks a.task a.there) a.runs) refl
    (tasks_change g values s h stacks w t x told_one (λ y. record y { cancellation = Delivered }) one.is_left (λ y e now. blocking.told_stands g s x y now) (λ y. refl) st))
