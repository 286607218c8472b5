-- What a turn keeps that every change keeps: where a task acts and where none does, steps to a control, answers, blocked tasks and what is
-- lifted.
use Rattle.std.proofs.Common.{◌≡◌, ◌<◌, ◌⊎◌, ℕ, ◌+◌, Bool, true, false, nat_lt, List, [], ◌∷◌, drop, refl, arith, Option, Some, None, Result, Ok, Err, if◌then◌else◌, ◌++◌, ap, ◌∙◌, sym, subst, append_assoc, append-nil}
use Rattle.std.proofs.lemmas.Bool.Decides.{nat_tests}
use Rattle.std.specs.List.{slice_get}
use Rattle.wasm_store.specs.Stack.{Stack}
use Rattle.builtin_kinds.specs.declared.EndKind.{EndKind}
use Rattle.choices.specs.Drawing.{drawn, drawn_answer}
use Rattle.handle_table.specs.History.{live_count, most_live, next_index}
use Rattle.comp_graph.specs.Graph.{Graph}
use Rattle.script_reader.specs.Script.{Script}
use Rattle.trace_labels.specs.declared.label.Label.{Label}
use Rattle.trace_labels.specs.declared.label.BlockReason.{BlockReason}
use Rattle.trace_labels.specs.declared.trap.TrapName.{TrapName}
use Rattle.trace_labels.specs.declared.trap.TrapName.TheVariants as trap
use Rattle.abi_machine.specs.declared.run_end.RunEnd.TheVariants.{Fuel}
use Rattle.abi_machine.specs.Control.{Control, Free, Chosen, Instantiates, Runs, Arrives, Lowers, Quiet, Back, Goes as GoesOn, Resumes, Delivers, Leaves, Doomed}
use Rattle.abi_machine.specs.Control as control
use Rattle.abi_machine.specs.World.{Entry, Init, TaskState, Acting, Begins, Channel, Task, World}
use Rattle.abi_machine.specs.World as world
use Rattle.abi_machine.specs.Edits.{with_control, with_channel, entry_added, entry_removed, left_set, unit_spent, control_behind, lent}
use Rattle.abi_machine.specs.Reading.{table_of, may_leave}
use Rattle.abi_machine.specs.Lifting.{Kept, Stopped, Came, once_lifted}
use Rattle.abi_machine.specs.Choosing.{picks_of, chosen}
use Rattle.abi_machine.specs.Turn.{Turn, Steps, Ends, Stuck, doomed, behind, given, unless_refused, unless, unless_fault, goes_on_with, blocked, charged, with_entry}
use Rattle.abi_machine.specs.sound.Firsts.{TaskIs, IsActing, MayBeInside}
use Rattle.abi_machine.specs.sound.Changes.{IsFirst}
use Rattle.abi_machine.specs.sound.Changes.{Change, GoesTo, HasStore, SpendsUnit, UsesPicks, TakesItem, BeginsInstance, AddsEntry, MakesSet, RemovesEntry, RemovesWaitable, LeavesSet, JoinsSet, HasBackpressure, IsCalled, Calls, ComesBack, Acts, Begins as IsBegun, Cancels, Blocks, Exits, IsRemoved, Resolves, IsCancelled, HasWord, HasNewStack, HasStack, LosesStack, IsAnswered, IsTold, IsLent, HasResult, MakesChannel, Offers, Transfers, Concludes, DropsEnd, after, Stands, HasFunc, IsBlocked}
use Rattle.abi_machine.specs.sound.Premises.{IsFree, IsTaken, MayBeLent, BlocksFrom, Comes}
use Rattle.abi_machine.specs.sound.Entering.{EntersUnresolved}
use Rattle.abi_machine.specs.sound.EndPlaces.{WritersStandOnce}
use Rattle.abi_machine.specs.sound.Entered.{HaveEntered}
use Rattle.abi_machine.specs.sound.EndsPassed.{ReadersPass}
use Rattle.abi_machine.specs.sound.Agreeing.{FirstActs, Agrees}
use Rattle.tasks.specs.declared.phase.Resolution.{Resolution}
use Rattle.trace_labels.specs.declared.label.Label.TheVariants as line
use Rattle.abi_machine.specs.Calling.{replied_behind}
use Rattle.abi_machine.specs.sound.Entering.{HasNotEntered, HasEntered}
use Rattle.abi_machine.specs.sound.Lines as mark
use Rattle.abi_machine.specs.sound.Lines.{Mark, marks_of}
use Rattle.abi_machine.proofs.sound.Marks.{marks_both, unmarked_front, marks_by, entry_none, entry_one, resolved_mark}
use Rattle.abi_machine.proofs.sound.Lifts.{Leaves as LeavesWith}
use Rattle.abi_machine.proofs.sound.Takeable.{behind_agrees}
use Rattle.abi_machine.proofs.sound.Acted.{now_is, first_still, first_now}
use Rattle.abi_machine.proofs.sound.Aside.{channel_kept, made_kept}

-- what every change keeps, where task 0 instantiates, a task that runs a start function runs alone, and one that has not entered has not resolved
-- It holds behind marks, by which lines told what tasks did.
pub record Invariant (g : Graph) (s : Script) : Type 1 where
  pub Holds : List Mark → World → Type 0
  pub stays : (marks : List Mark) (c : Change) (w : World) → Comes g s c w → Holds marks w → Holds (marks ++ marks_by c w) (after c w)
  pub there : (marks : List Mark) (w : World) → Holds marks w → TaskIs w.tasks 0 (λ task. task.callee ≡ Init)
  pub alone : (marks : List Mark) (w : World) (t : ℕ) (task : Task) (n : ℕ) → Holds marks w → IsFirst t w.chain → slice_get w.tasks t ≡ Some task → task.state ≡ Begins n → w.chain ≡ 0 ∷ []
  pub enters : (marks : List Mark) (w : World) (t : ℕ) (task : Task) → Holds marks w → slice_get w.tasks t ≡ Some task → EntersUnresolved task
  pub writers : (marks : List Mark) (w : World) → Holds marks w → WritersStandOnce w
  pub entered : (marks : List Mark) (w : World) → Holds marks w → HaveEntered w
  pub readers : (marks : List Mark) (w : World) → Holds marks w → ReadersPass w

-- the same behind marks
abbrev pub ahead : {g : Graph} {s : Script} → List Mark → Invariant g s → Invariant g s
ahead front inv = record {
  Holds = λ marks w. inv.Holds (front ++ marks) w;
  stays = λ marks c w may h. subst (λ (all : List Mark). inv.Holds all (after c w)) (append_assoc front marks (marks_by c w)) (inv.stays (front ++ marks) c w may h);
  there = λ marks w h. inv.there (front ++ marks) w h;
  alone = λ marks w t task n h first there is. inv.alone (front ++ marks) w t task n h first there is;
  enters = λ marks w t task h there. inv.enters (front ++ marks) w t task h there;
  writers = λ marks w h. inv.writers (front ++ marks) w h;
  entered = λ marks w h. inv.entered (front ++ marks) w h;
  readers = λ marks w h. inv.readers (front ++ marks) w h;
}

pub less : (a b : ℕ) → nat_lt a b ≡ true → a < b
less a b h = grind (arith, nat_tests)

abbrev pub HasActing : World → Type 0
HasActing w = FirstActs w.tasks w.chain

-- Where a task acts, a change leaves it acting, but where the chain or a state is changed.

channel_acts : (kind : EndKind) (number : ℕ) (f : Channel → Channel) (w : World) → HasActing w → HasActing (with_channel kind number f w)
channel_acts kind number f w h = channel_kept HasActing (λ v x k. k) (λ v x k. k) kind number f w h

abbrev pub IsSteady : Change → Type 0
IsSteady (IsCalled callee call values) = ⊥
IsSteady (Calls number callee subtask words) = ⊥
IsSteady (ComesBack t) = ⊥
IsSteady (Cancels t callee number words) = ⊥
IsSteady (Blocks t state) = ⊥
IsSteady (Exits t) = ⊥
IsSteady (IsRemoved t) = ⊥
IsSteady (Acts t) = ⊥
IsSteady (Resolves t resolution) = ⊥
IsSteady other = Unit {0}

steady : (c : Change) (w : World) → IsSteady c → HasActing w → HasActing (after c w)
steady (IsCalled callee call values) w is h = absurd is
steady (Calls number callee subtask words) w is h = absurd is
steady (ComesBack t) w is h = absurd is
steady (Cancels t callee number words) w is h = absurd is
steady (Blocks t state) w is h = absurd is
steady (Exits t) w is h = absurd is
steady (IsRemoved t) w is h = absurd is
steady (Acts t) w is h = absurd is
steady (IsBegun n) w is h = first_still w.tasks w.chain 0 (λ task. record task { state = world.Begins n }) IsActing (λ x k. tt) h
steady (Resolves t resolution) w is h = absurd is
steady (IsCancelled t cancellation) w is h = first_still w.tasks w.chain t _ IsActing (λ x k. k) h
steady (HasWord t slot word) w is h = first_still w.tasks w.chain t _ IsActing (λ x k. k) h
steady (HasNewStack t k) w is h = first_still w.tasks w.chain t _ IsActing (λ x k. k) h
steady (HasStack t k) w is h = first_still w.tasks w.chain t _ IsActing (λ x k. k) h
steady (LosesStack t) w is h = first_still w.tasks w.chain t _ IsActing (λ x k. k) h
steady (IsAnswered t words) w is h = first_still w.tasks w.chain t _ IsActing (λ x k. k) h
steady (IsTold t state) w is h = first_still w.tasks w.chain t _ IsActing (λ x k. k) h
steady (IsLent t handle) w is h = first_still w.tasks w.chain t _ IsActing (λ x k. k) h
steady (HasResult t words) w is h = first_still w.tasks w.chain t _ IsActing (λ x k. k) h
steady (MakesChannel kind element) w is h = made_kept HasActing (λ v x k. k) (λ v x k. k) kind element w h
steady (Offers e call) w is h = channel_acts e.kind e.number _ w h
steady (Transfers e size values) w is h = channel_acts e.kind e.number _ _ (channel_acts e.kind e.number _ w h)
steady (Concludes e) w is h = channel_acts e.kind e.number _ w h
steady (DropsEnd e) w is h = channel_acts e.kind e.number _ w h
steady (GoesTo control) w is h = h
steady (HasStore store) w is h = h
steady SpendsUnit w is h = h
steady (UsesPicks picks) w is h = h
steady TakesItem w is h = h
steady BeginsInstance w is h = h
steady (AddsEntry i entry) w is h = h
steady (MakesSet i set) w is h = h
steady (RemovesEntry i index) w is h = h
steady (RemovesWaitable i index) w is h = h
steady (LeavesSet i index) w is h = h
steady (JoinsSet i index set) w is h = h
steady (HasBackpressure i backpressure) w is h = h

-- It tells nothing of tasks.
steady_unmarked : (c : Change) (w : World) → IsSteady c → marks_by c w ≡ []
steady_unmarked (IsCalled callee call values) w is = absurd is
steady_unmarked (Calls number callee subtask words) w is = absurd is
steady_unmarked (ComesBack t) w is = absurd is
steady_unmarked (Cancels t callee number words) w is = absurd is
steady_unmarked (Blocks t state) w is = absurd is
steady_unmarked (Exits t) w is = absurd is
steady_unmarked (IsRemoved t) w is = absurd is
steady_unmarked (Acts t) w is = absurd is
steady_unmarked (IsBegun n) w is = refl
steady_unmarked (Resolves t resolution) w is = absurd is
steady_unmarked (IsCancelled t cancellation) w is = refl
steady_unmarked (HasWord t slot word) w is = refl
steady_unmarked (HasNewStack t k) w is = refl
steady_unmarked (HasStack t k) w is = refl
steady_unmarked (LosesStack t) w is = refl
steady_unmarked (IsAnswered t words) w is = refl
steady_unmarked (IsTold t state) w is = refl
steady_unmarked (IsLent t handle) w is = refl
steady_unmarked (HasResult t words) w is = refl
steady_unmarked (MakesChannel kind element) w is = refl
steady_unmarked (Offers e call) w is = refl
steady_unmarked (Transfers e size values) w is = refl
steady_unmarked (Concludes e) w is = refl
steady_unmarked (DropsEnd e) w is = refl
steady_unmarked (GoesTo control) w is = refl
steady_unmarked (HasStore store) w is = refl
steady_unmarked SpendsUnit w is = refl
steady_unmarked (UsesPicks picks) w is = refl
steady_unmarked TakesItem w is = refl
steady_unmarked BeginsInstance w is = refl
steady_unmarked (AddsEntry i entry) w is = refl
steady_unmarked (MakesSet i set) w is = refl
steady_unmarked (RemovesEntry i index) w is = refl
steady_unmarked (RemovesWaitable i index) w is = refl
steady_unmarked (LeavesSet i index) w is = refl
steady_unmarked (JoinsSet i index set) w is = refl
steady_unmarked (HasBackpressure i backpressure) w is = refl

-- what control says where a task acts and nothing more has to be known
abbrev pub IsOfActing : Control → Type 0
IsOfActing Runs = Unit {0}
IsOfActing (control.Calls number words) = Unit {0}
IsOfActing (Delivers set receiver pick) = Unit {0}
IsOfActing (Doomed t why) = Unit {0}
IsOfActing other = ⊥

module _ {g : Graph} {s : Script} (inv : Invariant g s) where
  -- a turn whose step leaves it so
  abbrev pub Keeps : Turn → Type 0
  Keeps (Steps labels v) = inv.Holds (marks_of labels) v × Agrees v.control v
  Keeps (Ends end) = Unit {0}
  Keeps Stuck = Unit {0}

  -- it holds where a task acts
  abbrev pub Acted : World → Type 0
  Acted w = inv.Holds [] w × HasActing w

  pub given_keeps : {A : Type 0} (o : Option A) (f : A → Turn) → ((x : A) → o ≡ Some x → Keeps (f x)) → Keeps (given o f)
  given_keeps None f h = tt
  given_keeps (Some x) f h = h x refl

  pub behind_keeps : (lines : List Label) (t : Turn) → marks_of lines ≡ [] → Keeps t → Keeps (behind lines t)
  behind_keeps lines (Steps labels v) none h = (subst (λ (marks : List Mark). inv.Holds marks v) (sym (unmarked_front lines labels none)) h.0, h.1)
  behind_keeps lines (Ends end) none h = tt
  behind_keeps lines Stuck none h = tt

  pub either_keeps : (b : Bool) (t u : Turn) → (b ≡ true → Keeps t) → (b ≡ false → Keeps u) → Keeps (if b then t else u)
  either_keeps true t u h i = h refl
  either_keeps false t u h i = i refl

  -- A change where a task acts, the change by which one acts, and a step to a control.
  pub stay : (c : Change) (w : World) → IsSteady c → Comes g s c w → Acted w → Acted (after c w)
  stay c w is may h = (subst (λ (marks : List Mark). inv.Holds marks (after c w)) (steady_unmarked c w is) (inv.stays [] c w may h.0), steady c w is h.1)

  acting_now : (t : ℕ) (w : World) → Comes g s (Acts t) w → HasActing (after (Acts t) w)
  acting_now t w may = first_now _ w.chain t IsActing may.0 (now_is w.tasks t (λ task. record task { state = Acting }) (MayBeInside w.tasks) IsActing (λ x k. tt) may.1)

  pub acts : (t : ℕ) (w : World) → Comes g s (Acts t) w → HasEntered w.tasks t → inv.Holds [] w → Acted (after (Acts t) w)
  acts t w may entered h = (subst (λ (marks : List Mark). inv.Holds marks (after (Acts t) w)) (entry_none w t entered) (inv.stays [] (Acts t) w may h), acting_now t w may)

  -- One that enters does so by its line, and one that resolves too.
  pub acts_first : (t : ℕ) (w : World) (task : Task) → Comes g s (Acts t) w → slice_get w.tasks t ≡ Some task → HasNotEntered task.state → inv.Holds [] w
      → inv.Holds (mark.Enters t ∷ []) (after (Acts t) w) × HasActing (after (Acts t) w)
  acts_first t w task may there new h = (subst (λ (marks : List Mark). inv.Holds marks (after (Acts t) w)) (entry_one w t task there new) (inv.stays [] (Acts t) w may h), acting_now t w may)

  pub resolves_now : (t : ℕ) (resolution : Resolution) (w : World) → Comes g s (Resolves t resolution) w → Acted w
      → inv.Holds (resolved_mark t resolution ∷ []) (after (Resolves t resolution) w) × HasActing (after (Resolves t resolution) w)
  resolves_now t resolution w may h = (inv.stays [] (Resolves t resolution) w may h.0, first_still w.tasks w.chain t _ IsActing (λ x k. k) h.1)

  pub goes : (c : Control) (w : World) → Agrees c w → inv.Holds [] w → inv.Holds [] (with_control c w) × Agrees c w
  goes c w says h = (inv.stays [] (GoesTo c) w tt h, says)

  pub goes_behind : (marks : List Mark) (c : Control) (w : World) → Agrees c w → inv.Holds marks w → inv.Holds marks (with_control c w) × Agrees c w
  goes_behind marks c w says h = (subst (λ (all : List Mark). inv.Holds all (with_control c w)) (append-nil marks) (inv.stays marks (GoesTo c) w tt h), says)

  acting_says : (c : Control) (w : World) → IsOfActing c → HasActing w → Agrees c w
  acting_says Runs w is h = h
  acting_says (control.Calls number words) w is h = h
  acting_says (Delivers set receiver pick) w is h = h
  acting_says Leaves w is h = absurd is
  acting_says (Doomed t why) w is h = tt
  acting_says Free w is h = absurd is
  acting_says (Chosen k) w is h = absurd is
  acting_says (Instantiates n) w is h = absurd is
  acting_says Arrives w is h = absurd is
  acting_says (Lowers l plan) w is h = absurd is
  acting_says (Quiet n b) w is h = absurd is
  acting_says Back w is h = absurd is
  acting_says GoesOn w is h = absurd is
  acting_says Resumes w is h = absurd is

  pub goes_on : (c : Control) (w : World) → IsOfActing c → Acted w → inv.Holds [] (with_control c w) × Agrees c w
  goes_on c w is h = goes c w (acting_says c w is h.1) h.0

  pub refused_keeps : {A : Type 0} (t : ℕ) (r : Result A TrapName) (w : World) (f : A → Turn) → Acted w → ((x : A) → r ≡ Ok x → Keeps (f x)) → Keeps (unless_refused t r w f)
  refused_keeps t (Err why) w f h more = goes_on (Doomed t why) w tt h
  refused_keeps t (Ok x) w f h more = more x refl

  pub unless_keeps : (t : ℕ) (b : Bool) (why : TrapName) (w : World) (more : Turn) → Acted w → (b ≡ false → Keeps more) → Keeps (unless t b why w more)
  unless_keeps t true why w more h keeps = goes_on (Doomed t why) w tt h
  unless_keeps t false why w more h keeps = keeps refl

  pub fault_keeps : {F : Type 0} (t : ℕ) (name : F → TrapName) (o : Option F) (w : World) (more : Turn) → Acted w → (o ≡ None → Keeps more) → Keeps (unless_fault t name o w more)
  fault_keeps t name None w more h keeps = keeps refl
  fault_keeps t name (Some fault) w more h keeps = goes_on (Doomed t (name fault)) w tt h

  pub charged_keeps : (costs : Bool) (w : World) (f : World → Turn) → inv.Holds [] w → ((units : ℕ) → inv.Holds [] (record w { units = units }) → Keeps (f (record w { units = units }))) → Keeps (charged costs s w f)
  charged_keeps false w f h keeps = keeps w.units h
  charged_keeps true w f h keeps =
      either_keeps (nat_lt w.units s.fuel) (f (unit_spent w)) (Ends Fuel) (λ e. keeps (w.units + 1) (inv.stays [] SpendsUnit w (less w.units s.fuel e) h)) (λ e. tt)

  pub chosen_keeps : (count : ℕ) (c : ℕ → Control) (w : World) → ((k : ℕ) → Agrees (c k) w) → inv.Holds [] w → Keeps (chosen s count c w)
  unfolding chosen
  chosen_keeps count c w says h =
      goes (c (drawn_answer count (picks_of s w))) (after (UsesPicks (drawn count (picks_of s w)).used) w) (says (drawn_answer count (picks_of s w)))
      (inv.stays [] (UsesPicks (drawn count (picks_of s w)).used) w (count, refl) h)

  pub on_keeps : (t : ℕ) (words : List ℕ) (w : World) → Acted w → inv.Holds [] (goes_on_with t words w) × Agrees Runs (goes_on_with t words w)
  on_keeps t words w h = goes_on Runs (after (IsAnswered t words) w) tt (stay (IsAnswered t words) w tt tt h)

  pub told_keeps : (t : ℕ) (lines : List Label) (words : List ℕ) (w : World) → marks_of lines ≡ [] → Acted w → Keeps (replied_behind t lines words w)
  told_keeps t lines words w none h =
      (let k : inv.Holds [] (goes_on_with t words w) × Agrees Runs (goes_on_with t words w) = on_keeps t words w h in (
        subst (λ (marks : List Mark). inv.Holds marks (goes_on_with t words w)) (sym (unmarked_front lines (line.Got t words ∷ []) none)) k.0,
        k.1,
      ))

  pub blocked_keeps : (t : ℕ) (state : TaskState) (reason : BlockReason) (w : World) → IsFirst t w.chain → IsBlocked state → (may_leave w ≡ true) ⊎ HasFunc w.tasks t → TaskIs w.tasks t (BlocksFrom state)
      → inv.Holds [] w → Keeps (blocked t state reason w)
  blocked_keeps t state reason w first is may from h =
      goes (control_behind (drop 1 w.chain)) (after (Blocks t state) w) (behind_agrees (drop 1 w.chain) (after (Blocks t state) w) refl) (inv.stays [] (Blocks t state) w (first, is, may, from) h)

  pub entry_keeps : (t i : ℕ) (entry : Entry) (w : World) (more : ℕ → World → Turn) → Acted w
      → (live_count (table_of w i) < most_live → Keeps (more (next_index (table_of w i)) (entry_added i entry w))) → Keeps (with_entry t i entry w more)
  entry_keeps t i entry w more h keeps =
      either_keeps (nat_lt (live_count (table_of w i)) most_live) (more (next_index (table_of w i)) (entry_added i entry w)) (doomed t trap.TableFull w)
      (λ e. keeps (less (live_count (table_of w i)) most_live e)) (λ e. goes_on (Doomed t trap.TableFull) w tt h)

  pub new_stack_keeps : (t : ℕ) (k : Stack) (w : World) → Acted w → inv.Holds [] (with_control Runs (after (HasNewStack t k) w)) × Agrees Runs (after (HasNewStack t k) w)
  new_stack_keeps t k w h = goes_on Runs (after (HasNewStack t k) w) tt (stay (HasNewStack t k) w tt tt h)

  -- Lifting, with what else it leaves alone.

  pub removes : (i index : ℕ) (w : World) → Stands w i index (IsFree w i index) → Acted w → Acted (entry_removed i index w)
  removes i index w may h = stay (RemovesEntry i index) w tt may h

  pub waits : (i index : ℕ) (w : World) → Stands w i index (IsTaken w) → Acted w → Acted (left_set i index (entry_removed i index w))
  waits i index w may h = stay (RemovesWaitable i index) w tt may h

  pub lends : (callee index : ℕ) (w : World) → MayBeLent g w callee index → Acted w → Acted (lent callee index w)
  lends callee index w may h = stay (IsLent callee index) w tt may h

  pub came_keeps : {A : Type 0} (P : World → Type 0) (t : ℕ) (came : Came A) (more : A → World → Turn) → ((w : World) → P w → Acted w)
      → LeavesWith (λ (k : Kept). P k.world) (λ (stop : Stopped). P stop.world) came → LeavesWith (λ (k : Kept). marks_of k.lines ≡ []) (λ (stop : Stopped). marks_of stop.lines ≡ []) came → ((x : A) (k : Kept) → came ≡ Ok (x, k) → P k.world → Keeps (more x k.world)) → Keeps (once_lifted t came more)
  came_keeps P t (Ok x) more acted h none keeps = behind_keeps x.1.lines (more x.0 x.1.world) none (keeps x.0 x.1 refl h)
  came_keeps P t (Err stop) more acted h none keeps = behind_keeps stop.lines (doomed t stop.why stop.world) none (goes_on (Doomed t stop.why) stop.world tt (acted stop.world h))

-- lines that tell of tasks, in front
pub marked_keeps : {g : Graph} {s : Script} (inv : Invariant g s) (marks : List Mark) (lines : List Label) (t : Turn) → marks_of lines ≡ marks → Keeps (ahead marks inv) t → Keeps inv (behind lines t)
marked_keeps inv marks lines (Steps labels v) is h =
    (subst (λ (all : List Mark). inv.Holds all v) (sym (marks_both lines labels ∙ ap (λ (l : List Mark). l ++ marks_of labels) is)) h.0, h.1)
marked_keeps inv marks lines (Ends end) is h = tt
marked_keeps inv marks lines Stuck is h = tt
