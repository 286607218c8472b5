-- The modules of a component that is read and linked are valid, what is read as a script is one of some text, and each answer of a command has a status that the
-- files decide.
use Rattle.std.proofs.Common.{◌≡◌, ℕ, List, Option, Some, Result, Ok, subst}
use Rattle.std.specs.Prelude.{IfOk}
use Rattle.std.specs.List.{slice_get}
use Rattle.syntax_trees.specs.declared.exports.Export.{Export}
use Rattle.comp_tree.specs.declared.items.Component.{Component}
use Rattle.comp_graph.specs.Graph.{Graph, CoreMake}
use Rattle.script_reader.specs.declared.fault.ScriptFault.{ScriptFault}
use Rattle.script_reader.specs.Script.{Script}
use Rattle.abi_machine.specs.declared.run_end.RunEnd.{RunEnd}
use Rattle.abi_machine.specs.declared.run_end.RunEnd.TheVariants as ends
use Rattle.machine_runs.specs.Fit.{ModulesFit}
use Rattle.link_spec.specs.Standing.{StandsIn}
use Rattle.link_spec.specs.Laws.{ModulesStand}
use Rattle.link_spec.proofs.Holding.{all_at, holds_at}
use Rattle.graph_laws.specs.Laws.{ReadModulesAreTyped}
use Rattle.command_words.specs.Words.{Command}
use Rattle.wcm.specs.declared.answer.Answer.{Answer}
use Rattle.wcm.specs.Status.{status_of, IsAnswered}
use Rattle.wcm.specs.Files.{IsOfComponent, IsOfText, IsScriptFile, IsScriptFileRefused}
use Rattle.wcm.specs.Answers.{Answers, file_refused, not_linked, accepted, shown, script_refused, ran}

pub modules_fit : ReadModulesAreTyped → ModulesStand → (g : Graph) → IsOfComponent g → ModulesFit g
modules_fit typed stand g of = λ n core there.
    typed of.1.0 of.0 core.of_module of.1.2
    (holds_at (λ (core : CoreMake). StandsIn core.of_module of.0.items) (slice_get g.cores n) core
    (all_at (λ (core : CoreMake). StandsIn core.of_module of.0.items) g.cores n (stand of.0 g of.2)) there)

-- What is read as a script for a graph.
pub said_of : (g : Graph) (exports : List Export) (r : Result Script ScriptFault) (script : Script) → exports ≡ g.exports → r ≡ Ok script → IfOk r (λ s. IsOfText exports s)
    → IsOfText g.exports script
said_of g exports r script e h said =
    subst (λ (es : List Export). IsOfText es script) e (subst (λ (r : Result Script ScriptFault). IfOk r (λ (s : Script). IsOfText exports s)) h said)

given_end : (end : RunEnd) → IsAnswered (status_of end)
given_end ends.Done = tt
given_end (ends.Trapped task why) = tt
given_end (ends.Deadlock tasks) = tt
given_end ends.Fuel = tt

pub answered : (held : List ℕ → Option (List ℕ)) (command : Command) (a : Answer) → Answers held (Some command) a → IsAnswered a.status
answered held command a (file_refused c refusal f) = tt
answered held command a (not_linked c fault f) = tt
answered held command a (accepted file g f) = tt
answered held command a (shown file g f) = tt
answered held command a (script_refused file name dump g fault f s) = tt
answered held command a (ran file name dump g calls labels last end left f s comes leaves) = given_end end
