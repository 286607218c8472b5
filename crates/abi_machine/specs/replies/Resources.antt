-- Resources (Component Model, CanonicalABI.md, `canon resource.new` and `canon resource.drop`): a new own handle, and the drop of a handle, which
-- runs the destructor where it owns what it names: in the resource's own instance on a further stack of the task, else by a call.
use Rattle.std.specs.Prelude.{ℕ, nat_eq, not, ◌&&◌, slice_index, if◌then◌else◌, List, [], ◌∷◌, Option, Some, None}
use Rattle.wasm_store.specs.Store.{found_at}
use Rattle.wasm_store.specs.Step.{start}
use Rattle.res_handles.specs.declared.handle.Handle.{Handle}
use Rattle.res_handles.specs.declared.handle.Ownership.{Ownership}
use Rattle.res_handles.specs.declared.handle.Ownership.TheVariants.{Own, Borrow}
use Rattle.res_handles.specs.Refusals.{dropped_in}
use Rattle.comp_graph.specs.declared.graph.FuncRef.{FuncRef}
use Rattle.comp_graph.specs.declared.graph.Resource.{Resource}
use Rattle.comp_graph.specs.Graph.{Graph}
use Rattle.trace_labels.specs.declared.trap.TrapName.TheVariants as trap
use Rattle.abi_machine.specs.Traps.{renamed, refusal_name}
use Rattle.abi_machine.specs.Control.{Runs}
use Rattle.abi_machine.specs.World.{OwnHandle, Destroys, World}
use Rattle.abi_machine.specs.Edits.{entry_removed, stacked}
use Rattle.abi_machine.specs.Canons.{func_address, resource_at, destructor_of}
use Rattle.abi_machine.specs.Reading.{is_reentrant}
use Rattle.abi_machine.specs.Counting.{view_at}
use Rattle.abi_machine.specs.Turn.{Turn, silent, given, unless, unless_refused, with_entry, replied}
use Rattle.abi_machine.specs.Calling.{call_begun}

unfoldable pub resource_new_turn : ℕ → ℕ → ℕ → ℕ → World → Turn
resource_new_turn t i resource rep w = with_entry t i (OwnHandle resource rep) w (λ index v. replied t (index ∷ []) v)

-- The destructor runs on a further stack, which ends with the answer.
unfoldable pub destroyed_here : ℕ → FuncRef → ℕ → World → Turn
destroyed_here t ref rep w =
    given (found_at w.store.funcs (func_address w.store ref)) (λ function. silent Runs (stacked t (start function.1 function.0 (rep ∷ [])) w))

-- What an own handle names is destroyed, by a canonical function with words. Without a destructor nothing is, but also then
-- the instance of the resource must not wait for this one.
unfoldable pub destroyed : ℕ → ℕ → ℕ → List ℕ → ℕ → Resource → Option FuncRef → ℕ → World → Turn
destroyed t i number words resource r None rep w =
    unless t (not (nat_eq r.instance i) && is_reentrant w r.instance t) trap.Reentrant w (replied t [] w)
destroyed t i number words resource r (Some ref) rep w =
    if nat_eq r.instance i then destroyed_here t ref rep w
    else call_begun t number words (Destroys resource (destructor_of r.instance ref)) (destructor_of r.instance ref) (rep ∷ []) w

unfoldable pub dropped : Graph → ℕ → ℕ → ℕ → List ℕ → Handle → Ownership → World → Turn
dropped g t i number words x (Borrow task) w = replied t [] w
dropped g t i number words x Own w =
    given (resource_at g x.resource) (λ r. destroyed t i number words x.resource r r.destructor x.rep w)

unfoldable pub resource_drop_turn : Graph → ℕ → ℕ → ℕ → ℕ → List ℕ → World → Turn
resource_drop_turn g t i number resource words w =
    unless_refused t (renamed refusal_name (dropped_in (view_at w i (slice_index words 0)) resource)) w (λ x.
    dropped g t i number words x x.ownership (entry_removed i (slice_index words 0) w))
