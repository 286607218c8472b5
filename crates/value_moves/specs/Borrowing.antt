-- Borrow handles that a task gets with its arguments (Component Model, CanonicalABI.md, `lower_borrow`, "Task State"): each counts for the task,
-- until it is dropped. In an instance that defines the resource the representation stands for it, and nothing counts.
use Rattle.std.specs.Prelude.{ℕ, if◌then◌else◌, List, [], ◌∷◌, Option, Some, None}
use Rattle.syntax_trees.specs.declared.value.Value.{Value, fold-Value}
use Rattle.syntax_trees.specs.declared.value.Value.TheOpen.{Value-F}
use Rattle.res_handles.specs.Calls.{is_defined}
use Rattle.tasks.specs.declared.event.TaskEvent.TheVariants as event
use Rattle.world_parts.specs.Held.{Held, Done, Gives, after}
use Rattle.world_parts.specs.Slots.{happens}

-- what is done for a value
abbrev pub Act : Type 0
Act = Held → Done (Unit {0})

abbrev pub all_done : List Act → Held → Done (Unit {0})
all_done [] h = Gives tt h
all_done (act ∷ acts) h = after (act h) (λ done k. all_done acts k)

abbrev pub payload_done : Option Act → Held → Done (Unit {0})
payload_done None h = Gives tt h
payload_done (Some act) h = act h

abbrev pub borrow_counted : List ℕ → ℕ → ℕ → Held → Done (Unit {0})
borrow_counted home t resource h = if is_defined resource home then Gives tt h else happens t event.Borrow h

abbrev pub borrow_step : List ℕ → ℕ → Value-F Act → Act
borrow_step home t (Value-F.List acts) h = all_done acts h
borrow_step home t (Value-F.Record acts) h = all_done acts h
borrow_step home t (Value-F.Variant n payload) h = payload_done payload h
borrow_step home t (Value-F.Borrow x) h = borrow_counted home t x.resource h
borrow_step home t other h = Gives tt h

abbrev pub borrows_counted : List ℕ → ℕ → Value → Act
borrows_counted home t = fold-Value Act (borrow_step home t)
