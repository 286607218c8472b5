-- A script whose items call exports of a graph is for it.
use Rattle.std.proofs.Common.{◌≡◌, ◌∙◌, ◌+◌, ℕ, suc, zero, List, [], ◌∷◌, map, Option, Some, None, refl, ap}
use Rattle.std.specs.List.{slice_get, AllZip}
use Rattle.std.specs.Option.{option_and_then}
use Rattle.syntax_trees.specs.Names.{first_named}
use Rattle.syntax_trees.proofs.FirstNamed.{found_by_name}
use Rattle.syntax_trees.specs.declared.exports.Export.{Export}
use Rattle.comp_graph.specs.declared.graph.Lift.{Lift}
use Rattle.comp_graph.specs.Graph as graph
use Rattle.comp_graph.specs.Graph.{Graph, Lifted, lifted_as, func_named, names, IsLiftThere}
use Rattle.script_reader.specs.declared.script.Call.{Call}
use Rattle.script_reader.specs.declared.script.Item.{Item}
use Rattle.script_reader.specs.declared.script.Item.TheVariants as item
use Rattle.script_reader.specs.Script.{export_named, CallsExport, AreItems}
use Rattle.script_reader.specs.Laws.{ScriptsCallExports}
use Rattle.abi_machine.specs.sound.Callees.{IsUsedGraph}
use Rattle.abi_machine.specs.sound.Scripts.{IsCallFor, AreItemsFor}
use Rattle.async_graph_laws.specs.Laws.{LinkedGraphsAreUsed, CallsAreForGraphs, ReadScriptsAreForGraphs}

-- what stands behind a look-up
pub then_some : {A B : Type 0} (f : A → Option B) (o : Option A) (y : B) → option_and_then f o ≡ Some y → (x : A) × (o ≡ Some x) × (f x ≡ Some y)
then_some f None y h = cc
then_some f (Some x) y h = (x, refl, h)

-- Each export is lifted.
lifted_there : (R : Export → Lift → Type 0) (xs : List Export) (cs : List Lift) (n : ℕ) (e : Export) → AllZip R xs cs → slice_get xs n ≡ Some e → (c : Lift) × (slice_get cs n ≡ Some c)
lifted_there R [] [] n e all h = cc
lifted_there R [] (c ∷ cs) n e all h = absurd all
lifted_there R (x ∷ xs) [] n e all h = absurd all
lifted_there R (x ∷ xs) (c ∷ cs) zero e all h = (c, refl)
lifted_there R (x ∷ xs) (c ∷ cs) (suc n) e all h = lifted_there R xs cs n e all.1 h

call_for : (g : Graph) (call : Call) → IsUsedGraph g → CallsExport g.exports call → IsCallFor g call
call_for g call used h =
    let found = found_by_name (λ (e : Export). e.name) g.exports call.name ∙ h.1 in
    let number = then_some (λ (k : ℕ). slice_get g.exports k) (first_named call.name (names g.exports)) h.0 found in
    let c = lifted_there (λ (e : Export) lift. IsLiftThere g.cores g.canons e.func_type lift) g.exports g.lifts number.0 h.0 used.lifts number.2 in
    let f : Lifted = record { instance = c.0.instance; core = c.0.core; options = c.0.options; func_type = h.0.func_type } in
    record {
      func = f;
      named = ap (option_and_then (graph.func_at g)) number.1 ∙ (ap (λ (o : Option Export). lifted_as o (slice_get g.lifts number.0)) number.2 ∙ ap (λ (o : Option Lift). lifted_as (Some h.0) o) c.1);
      values = h.2;
    }

items_for : (g : Graph) (calls : ℕ) (items : List Item) → IsUsedGraph g → AreItems g.exports calls items → AreItemsFor g calls items
items_for g calls [] used h = tt
items_for g calls (item.Cancel number ∷ items) used h = (h.0, h.1, items_for g calls items used h.2)
items_for g calls (item.Call call ∷ items) used h = (call_for g call used h.0, items_for g (calls + 1) items used h.1)

pub calls_are_for_graphs : CallsAreForGraphs
calls_are_for_graphs g s used h = items_for g 0 s.items used h

pub read_scripts_are_for_graphs : LinkedGraphsAreUsed → ScriptsCallExports → ReadScriptsAreForGraphs
read_scripts_are_for_graphs used calls c g bytes s linked read = calls_are_for_graphs g s (used c g linked) (calls g.exports bytes s read).0
