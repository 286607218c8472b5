-- What the next item of a script for a graph names is there.
use Rattle.std.proofs.Common.{◌≡◌, ◌≤◌, ℕ, zero, suc, ◌+◌, List, [], ◌∷◌, take, refl, sym, subst, arith, Option, Some}
use Rattle.std.proofs.lemmas.List.Sums.{sum_by-cons}
use Rattle.std.specs.Prelude.{IsSome, if◌then◌else◌}
use Rattle.std.specs.List.{slice_get, count_by}
use Rattle.comp_graph.specs.Graph.{Graph, Lifted}
use Rattle.script_reader.specs.declared.script.Call.{Call}
use Rattle.script_reader.specs.declared.script.Item.{Item}
use Rattle.script_reader.specs.declared.script.Item.TheVariants as item
use Rattle.script_reader.specs.Script.{Script}
use Rattle.abi_machine.specs.Control.{Control, Free, Chosen, Instantiates, Runs, Arrives, Lowers, Quiet, Back, Goes as GoesOn, Resumes, Delivers, Leaves, Doomed}
use Rattle.abi_machine.specs.Control as control
use Rattle.abi_machine.specs.World.{World}
use Rattle.abi_machine.specs.Edits.{with_control}
use Rattle.abi_machine.specs.Scheduling.{is_call, calls_taken}
use Rattle.abi_machine.specs.sound.GoingOn.{IsItemThere}
use Rattle.abi_machine.specs.sound.Functions.{IsFedThen}
use Rattle.abi_machine.specs.sound.Scripts.{IsCallFor, AreItemsFor, IsScriptFor, ItemsAreThere, IsFedStill, ScriptsGoOn}
use Rattle.abi_machine.proofs.sound.Found.{some_same}
use Rattle.abi_machine.proofs.sound.Functions.{used_go_on}

-- behind so many calls, of which more were taken since
abbrev IsThereBehind : Graph → ℕ → Item → Type 0
IsThereBehind g calls (item.Call call) = IsCallFor g call
IsThereBehind g calls (item.Cancel call) = (1 ≤ call) × (call ≤ calls)

abbrev count : Item → ℕ
count i = if is_call i then 1 else 0

call_next : (call : Call) (calls n : ℕ) (items : List Item) → calls + 1 + count_by is_call (take n items) ≡ calls + count_by is_call (take (suc n) (item.Call call ∷ items))
call_next call calls n items =
    let more : count_by is_call (item.Call call ∷ take n items) ≡ 1 + count_by is_call (take n items) = sum_by-cons count (item.Call call) (take n items) in
    omega (arith, more)

cancel_next : (call calls n : ℕ) (items : List Item) → calls + count_by is_call (take n items) ≡ calls + count_by is_call (take (suc n) (item.Cancel call ∷ items))
cancel_next call calls n items =
    let more : count_by is_call (item.Cancel call ∷ take n items) ≡ 0 + count_by is_call (take n items) = sum_by-cons count (item.Cancel call) (take n items) in
    omega (arith, more)

none_yet : (calls : ℕ) (items : List Item) → calls ≡ calls + count_by is_call (take 0 items)
none_yet calls items = omega arith

items_there : (g : Graph) (calls : ℕ) (items : List Item) (n : ℕ) (i : Item) → AreItemsFor g calls items → slice_get items n ≡ Some i → IsThereBehind g (calls + count_by is_call (take n items)) i
items_there g calls [] n i h there = cc
items_there g calls (item.Call call ∷ items) zero i h there = subst (IsThereBehind g (calls + count_by is_call (take 0 (item.Call call ∷ items)))) (some_same there) h.0
items_there g calls (item.Cancel call ∷ items) zero i h there =
    subst (λ (x : Item). IsThereBehind g (calls + count_by is_call (take 0 (item.Cancel call ∷ items))) x) (some_same there)
    (h.0, subst (λ (n : ℕ). call ≤ n) (none_yet calls (item.Cancel call ∷ items)) h.1)
items_there g calls (item.Call call ∷ items) (suc n) i h there = subst (λ (m : ℕ). IsThereBehind g m i) (call_next call calls n items) (items_there g (calls + 1) items n i h.1 there)
items_there g calls (item.Cancel call ∷ items) (suc n) i h there = subst (λ (m : ℕ). IsThereBehind g m i) (cancel_next call calls n items) (items_there g calls items n i h.2 there)

as_item : (g : Graph) (s : Script) (w : World) (i : Item) → IsThereBehind g (0 + calls_taken s w) i → IsItemThere g s i w
as_item g s w (item.Call call) h = subst (λ (o : Option Lifted). IsSome o) (sym h.named) refl
as_item g s w (item.Cancel call) h = (h.0, (let few : call ≤ 0 + calls_taken s w = h.1 in omega (arith, few)))

pub items_are_there : ItemsAreThere
items_are_there g s w h i there = as_item g s w i (items_there g 0 s.items w.taken i h there)

-- So of what rules look up less is left.
fed_still : (g : Graph) (s : Script) (w : World) → IsScriptFor g s → (c : Control) → IsFedStill c w → IsFedThen g s c w
fed_still g s w h Free fed = items_are_there g s w h
fed_still g s w h (Chosen k) fed = items_are_there g s w h
fed_still g s w h (Instantiates n) fed = tt
fed_still g s w h Runs fed = fed
fed_still g s w h (control.Calls number words) fed = tt
fed_still g s w h Arrives fed = tt
fed_still g s w h (Lowers l plan) fed = fed
fed_still g s w h (Quiet n b) fed = fed
fed_still g s w h Back fed = tt
fed_still g s w h GoesOn fed = tt
fed_still g s w h Resumes fed = tt
fed_still g s w h (Delivers set receiver pick) fed = tt
fed_still g s w h Leaves fed = tt
fed_still g s w h (Doomed t why) fed = tt

pub scripts_go_on : ScriptsGoOn
scripts_go_on g s steps w apart sound used h r fed = used_go_on g s steps w apart sound used r (λ done. fed_still g s (with_control Free w) h w.control (fed done))
