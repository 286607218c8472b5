-- What control says of the rest (Component Model, Concurrency.md, "Summary"; CanonicalABI.md, "Stream State"): where a turn begins no task
-- runs, and while a graph is instantiated task 0 alone runs; what the acting task is at; where elements are copied, that there is room for
-- them at the other end; that the task for which values are lowered has entered; that a task that is to exit has resolved; and, where the script
-- passes no end, that what is left of a plan adds readable ends that stand nowhere, each once.
use Rattle.std.specs.Prelude.{◌≡◌, ◌≤◌, ℕ, ◌-◌, List, [], ◌∷◌, length, Some, None, IsSome}
use Rattle.builtin_kinds.specs.declared.EndKind.{EndKind}
use Rattle.builtin_kinds.specs.declared.EndKind.TheVariants.{Stream, Future}
use Rattle.stream_ends.specs.declared.side.Side.{Side}
use Rattle.stream_ends.specs.declared.open_copy.OpenCopy.{OpenCopy}
use Rattle.stream_ends.specs.Ends.{EndsView, other_side, end_at, standing_of}
use Rattle.abi_machine.specs.Control.{EndRef, After, Replies, Finishes, Then, Starts, Resolves, Transfers, Behind, InLowering, BeforeLeaving, Control, Free, Chosen, Instantiates, Runs, Calls, Arrives, Lowers, Quiet, Goes, Resumes, Delivers, Leaves}
use Rattle.abi_machine.specs.World.{New, Inst, Channel, Task, World}
use Rattle.abi_machine.specs.sound.Firsts.{FirstIs, IsActing, MayBeInside}
use Rattle.abi_machine.specs.sound.Entering.{HasEntered}
pub use Rattle.abi_machine.specs.sound.EndPlaces.{channel_in}
use Rattle.abi_machine.specs.sound.EndsPassed.{PassesBehind, PassesOnce, HostPassesNoEnd}

-- So many elements are to go over, to or from the end of a call: nothing is under way there, and an offer with room for them stands at the
-- other end. A future has one value.
abbrev pub FitsIn : EndKind → ℕ → OpenCopy → Type 0
FitsIn Stream count offer = count ≤ offer.length - offer.copied
FitsIn Future count offer = count ≡ 1

pub record IsDue (kind : EndKind) (side : Side) (count : ℕ) (ends : EndsView) : Type 0 where
  pub quiet : (end_at side ends).copy ≡ None
  pub offer : OpenCopy
  pub stands : standing_of (end_at (other_side side) ends).copy ≡ Some offer
  pub room : FitsIn kind count offer

abbrev pub IsDueAt : EndRef → ℕ → List Channel → List Channel → Type 0
IsDueAt e count streams futures =
    (c : Channel) × (channel_in e.kind e.number streams futures ≡ Some c) × IsDue e.kind e.side count c.ends.view

-- the same of what follows a lowering, and of what follows nested code
abbrev pub IsDueBehind : Then → List Channel → List Channel → Type 0
IsDueBehind Starts streams futures = Unit {0}
IsDueBehind (Resolves to after) streams futures = Unit {0}
IsDueBehind (Transfers copying) streams futures = IsDueAt copying.end (length copying.values) streams futures

abbrev pub IsDueAfter : Behind → List Channel → List Channel → Type 0
IsDueAfter (InLowering l k) streams futures = IsDueBehind l.next streams futures
IsDueAfter BeforeLeaving streams futures = Unit {0}

-- the task for which values are lowered behind nested code
abbrev pub LowersForEntered : Behind → List Task → Type 0
LowersForEntered (InLowering l k) tasks = HasEntered tasks l.acts_for
LowersForEntered BeforeLeaving tasks = Unit {0}

-- The acting task has resolved, where it is to exit: after a result, behind a lowering, and behind nested code.
abbrev pub FirstHasResolved : List Task → List ℕ → Type 0
FirstHasResolved tasks chain = FirstIs tasks chain (λ task. IsSome task.resolution)

abbrev pub HasResolvedFor : After → List Task → List ℕ → Type 0
HasResolvedFor Replies tasks chain = Unit {0}
HasResolvedFor (Finishes ended) tasks chain = FirstHasResolved tasks chain

abbrev pub HasResolvedThen : Then → List Task → List ℕ → Type 0
HasResolvedThen Starts tasks chain = Unit {0}
HasResolvedThen (Resolves to after) tasks chain = HasResolvedFor after tasks chain
HasResolvedThen (Transfers copying) tasks chain = Unit {0}

abbrev pub HasResolvedBehind : Behind → List Task → List ℕ → Type 0
HasResolvedBehind (InLowering l k) tasks chain = HasResolvedThen l.next tasks chain
HasResolvedBehind BeforeLeaving tasks chain = FirstHasResolved tasks chain

-- The acting task acts; it is new; it may be inside its instance.
abbrev pub FirstActs : List Task → List ℕ → Type 0
FirstActs tasks chain = FirstIs tasks chain IsActing

abbrev pub FirstIsNew : List Task → List ℕ → Type 0
FirstIsNew tasks chain = FirstIs tasks chain (λ task. task.state ≡ New)

abbrev pub FirstIsLetIn : List Task → List ℕ → Type 0
FirstIsLetIn tasks chain = FirstIs tasks chain (MayBeInside tasks)

abbrev pub Tells : Control → List Task → List ℕ → List Channel → List Channel → List Inst → Type 0
Tells Free tasks chain streams futures insts = chain ≡ []
Tells (Chosen k) tasks chain streams futures insts = chain ≡ []
Tells (Instantiates n) tasks chain streams futures insts = chain ≡ 0 ∷ []
Tells Runs tasks chain streams futures insts = FirstActs tasks chain
Tells (Calls number words) tasks chain streams futures insts = FirstActs tasks chain
Tells Arrives tasks chain streams futures insts = FirstIsNew tasks chain
Tells (Lowers l plan) tasks chain streams futures insts = FirstActs tasks chain × IsDueBehind l.next streams futures × HasEntered tasks l.acts_for × HasResolvedThen l.next tasks chain × (HostPassesNoEnd tasks → PassesOnce (Lowers l plan) insts streams futures)
Tells (Quiet n b) tasks chain streams futures insts = FirstActs tasks chain × IsDueAfter b streams futures × LowersForEntered b tasks × HasResolvedBehind b tasks chain × (HostPassesNoEnd tasks → PassesBehind b insts streams futures)
Tells Goes tasks chain streams futures insts = FirstIsLetIn tasks chain
Tells Resumes tasks chain streams futures insts = FirstIsLetIn tasks chain
Tells (Delivers set receiver pick) tasks chain streams futures insts = FirstActs tasks chain
Tells Leaves tasks chain streams futures insts = FirstActs tasks chain × FirstHasResolved tasks chain
Tells other tasks chain streams futures insts = Unit {0}

-- what this control says of a world
abbrev pub Agrees : Control → World → Type 0
Agrees control w = Tells control w.tasks w.chain w.streams w.futures w.insts
