-- Entry (Component Model, CanonicalABI.md, "Task State": `Task.enter`; `canon lift`): the acting task enters, its arguments are lifted from its
-- caller as they are then and lowered into its own instance, and its core function starts. A destructor is passed the words of its call.
use Rattle.std.specs.Prelude.{◌≡◌, ℕ, List}
use Rattle.std.specs.List.{slice_get}
use Rattle.task_table.specs.declared.errand.Callee.{Callee}
use Rattle.task_table.specs.declared.errand.Callee.TheVariants as callee
use Rattle.task_table.specs.Callers.{called_of}
use Rattle.graph_views.specs.Callees.{lift_of}
use Rattle.programs.specs.declared.program.Program.{Program}
use Rattle.world_parts.specs.declared.parts.Flow.{Flow}
use Rattle.world_parts.specs.declared.parts.Flow.TheVariants as flow
use Rattle.world_parts.specs.declared.parts.Rest.TheVariants as rest
use Rattle.world_parts.specs.Held.{Held, Done, Gives, after, given}
use Rattle.world_parts.specs.Feed.{at_rest}
use Rattle.world_parts.specs.Slots.{callee_of}
use Rattle.world_parts.specs.Going.{enters}
use Rattle.value_parts.specs.Passing.{arguments_lifted}
use Rattle.value_parts.specs.Coming.{Behind, Then}
use Rattle.value_moves.specs.Lowered.{LowersArguments}

-- The words with which the core function of a task starts.
abbrev pub words_passed : ℕ → Held → Done (List ℕ)
words_passed t h = given (slice_get h.tasks t) (λ slot. given (called_of slot.caller) (λ called. Gives called.words h))

abbrev pub ValuesCome : Program → ℕ → Held → Done (List ℕ) → Type 0
ValuesCome p t h d = Behind (arguments_lifted p t h) (λ v k e. LowersArguments p t v k e) d

abbrev pub ArgumentsCome : Program → ℕ → Callee → Held → Done (List ℕ) → Type 0
ArgumentsCome p t callee.Init h d = ValuesCome p t h d
ArgumentsCome p t (callee.Export number) h d = ValuesCome p t h d
ArgumentsCome p t (callee.Lowered number) h d = ValuesCome p t h d
ArgumentsCome p t (callee.Destroys resource) h d = d ≡ words_passed t h

-- A task enters, and its core function is to start with them.
abbrev pub entered : ℕ → Held → Done Callee
entered t h = after (enters t h) (λ done k. callee_of t k)

abbrev pub started_by : Program → Callee → List ℕ → Held → Done Flow
started_by p callee words h = given (lift_of p.graph.now callee) (λ lift. Gives (flow.Starts lift.core words) (at_rest rest.Runs h))

abbrev pub Enters : Program → ℕ → Held → Done Flow → Type 0
Enters p t h d =
    Behind (entered t h) (λ callee k e. Then (ArgumentsCome p t callee k) (λ words l f. f ≡ started_by p callee words l) e) d
