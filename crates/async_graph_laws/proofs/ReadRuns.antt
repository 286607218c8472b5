-- What is read and linked, and a script that is read for it, is what the laws of reached worlds ask for.
use Rattle.std.proofs.Common.{◌≡◌, ℕ, List, Some}
use Rattle.std.specs.List.{slice_get, AllByRecursion}
use Rattle.comp_graph.specs.Graph.{Graph, CoreMake}
use Rattle.script_reader.specs.declared.script.Call.{Call}
use Rattle.script_reader.specs.declared.script.Item.{Item}
use Rattle.script_reader.specs.declared.script.Item.TheVariants as item
use Rattle.script_reader.specs.Script.{Script}
use Rattle.link_spec.specs.Standing.{StandsIn}
use Rattle.link_spec.specs.Laws.{ModulesStand}
use Rattle.link_spec.proofs.Holding.{all_weaker}
use Rattle.lowering_laws.specs.StoreBytes.{HasBytes}
use Rattle.lowering_laws.specs.Values.{AllInRange}
use Rattle.abi_machine.specs.sound.Scripts.{IsScriptFor}
use Rattle.abi_machine.specs.sound.TypedSteps.{PassesTyped}
use Rattle.graph_laws.specs.Laws.{ReadDataAreBytes, ReadTypesAreLabelled, ReadScriptsPassInRange}
use Rattle.reach_laws.specs.Going.{ExactlyOneNext, NoneIsStuck, OneRunComes}
use Rattle.reach_laws.specs.Runnable.{PassesInRange, ScriptsPassTyped}
use Rattle.async_graph_laws.specs.Laws.{LinkedDefinitionsAreApart, ReadGraphsAreTyped, LinkedGraphsAreUsed, ReadScriptsAreForGraphs}
use Rattle.async_graph_laws.specs.ReadRuns.{AreRead, ReadRunsAreRunnable, ReadRunsHaveOneNext, NoReadRunIsStuck, ReadRunsAreOne}

item_in_range : (items : List Item) (n : ℕ) → ((call : Call) → slice_get items n ≡ Some (item.Call call) → AllInRange call.values) → (i : Item) → slice_get items n ≡ Some i → PassesInRange i
item_in_range items n calls (item.Call call) e = calls call e
item_in_range items n calls (item.Cancel number) e = tt

-- What each part of it gives.
pub record Given : Type 0 where
  pub apart : LinkedDefinitionsAreApart
  pub typed : ReadGraphsAreTyped
  pub stand : ModulesStand
  pub bytes : ReadDataAreBytes
  pub used : LinkedGraphsAreUsed
  pub scripts : ReadScriptsAreForGraphs
  pub labels : ReadTypesAreLabelled
  pub in_range : ReadScriptsPassInRange
  pub pass_typed : ScriptsPassTyped

cores_have_bytes : Given → (file text : List ℕ) (g : Graph) (s : Script) → AreRead file text g s → AllByRecursion (λ (core : CoreMake). HasBytes core.of_module) g.cores
cores_have_bytes given file text g s h =
    all_weaker (λ (core : CoreMake). StandsIn core.of_module h.component.items) (λ (core : CoreMake). HasBytes core.of_module)
    (λ core stands. given.bytes file h.component core.of_module h.bytes h.read stands) g.cores (given.stand h.component g h.linked)

is_script_for : Given → (file text : List ℕ) (g : Graph) (s : Script) → AreRead file text g s → IsScriptFor g s
is_script_for given file text g s h = given.scripts h.component g text s h.linked h.script

passes_typed : Given → (file text : List ℕ) (g : Graph) (s : Script) → AreRead file text g s → PassesTyped g s
passes_typed given file text g s h =
    let labels = given.labels file h.component g h.bytes h.read h.linked in
    given.pass_typed g s (is_script_for given file text g s h)
    (λ n i e. item_in_range s.items n (λ call there. given.in_range g.exports text s n call labels.exports h.script there) i e)

pub read_runs_are_runnable : Given → ReadRunsAreRunnable
read_runs_are_runnable given file text g s h = record {
  apart = given.apart h.component g h.linked;
  typed = given.typed file h.component g h.read h.linked;
  bytes = cores_have_bytes given file text g s h;
  used = given.used h.component g h.linked;
  script = is_script_for given file text g s h;
  passes = passes_typed given file text g s h;
}

-- So their laws hold.
pub read_runs_have_one_next : ReadRunsAreRunnable → ExactlyOneNext → ReadRunsHaveOneNext
read_runs_have_one_next runnable one file text g s steps w h r = one g s steps w (runnable file text g s h) r

pub no_read_run_is_stuck : ReadRunsAreRunnable → NoneIsStuck → NoReadRunIsStuck
no_read_run_is_stuck runnable none file text g s h = none g s (runnable file text g s h)

pub read_runs_are_one : ReadRunsAreRunnable → OneRunComes → ReadRunsAreOne
read_runs_are_one runnable one file text g s h = one g s (runnable file text g s h)
