-- Answers to what words ask for.
use Rattle.std.proofs.Common.{◌≡◌, ℕ, Bool, List, [], sym, ap, ◌∙◌, subst, Option, Some, None, Result, Ok, Err}
use Rattle.std.specs.Prelude.{IfOk}
use Rattle.ca_base.specs.declared.refusal.Refusal.{Refusal}
use Rattle.syntax_trees.specs.declared.exports.Export.{Export}
use Rattle.part_reader.specs.declared.fault.ComponentWhy.{ComponentWhy}
use Rattle.comp_tree.specs.declared.items.Component.{Component}
use Rattle.comp_reader.specs.Binary.{IsComponent, IsRefused}
use Rattle.link_spec.specs.declared.fault.LinkFault.{LinkFault}
use Rattle.link_spec.specs.Linked.{IsLinked, IsLinkRefused}
use Rattle.comp_graph.specs.Graph.{Graph}
use Rattle.script_reader.specs.declared.fault.ScriptFault.{ScriptFault}
use Rattle.script_reader.specs.Script.{Script, IsScript, IsScriptRefused}
use Rattle.programs.specs.declared.program.Program.{Program}
use Rattle.program_maker.specs.Programs.{IsProgram}
use Rattle.trace_labels.specs.declared.label.Label.{Label}
use Rattle.trace_show.specs.Tally.{Tally, counted, nothing, tally_of, with_lines, without_feed}
use Rattle.world_parts.specs.Held.{Held}
use Rattle.value_moves.specs.Passing.{Passes}
use Rattle.machine_runs.specs.declared.ending.RunEnd.{RunEnd}
use Rattle.machine_runs.specs.declared.fault.RunFault.{RunFault}
use Rattle.machine_runs.specs.declared.running_script.Ran.{Ran}
use Rattle.machine_runs.specs.Worlds.{Point, first_point, IsRun}
use Rattle.machine_runs.specs.Playing.{ScriptRuns}
use Rattle.command_words.specs.Words.{Request, OfFile, Pipe}
use Rattle.wcm.specs.declared.answer.Answer.{Answer}
use Rattle.wcm.specs.declared.status.Status.{Status}
use Rattle.wcm.specs.declared.status.Status.TheVariants.{Done, Trap, Deadlock, Fuel}
use Rattle.async_graph_laws.specs.ReadFits.{ReadRunsFit}
use Rattle.abi_machine.specs.Run.{trace_of}
use Rattle.abi_machine.specs.sound.Unique.{OneRun}
use Rattle.run_laws.specs.Carried.{RunsAreOfMachine}
use Rattle.run_laws.specs.Whole.{IsOfMachine}
use Rattle.wcm.specs.Files.{IsOfComponent, IsOfText}
use Rattle.wcm.specs.Status.{IsAnswered, status_of, status_of_run}
use Rattle.machine_runs.specs.declared.ending.RunEnd.TheVariants as run
use Rattle.wcm.specs.Answers.{usage_answer, no_command, refused_answer, link_refused_answer, script_refused_answer}
use Rattle.wcm.specs.Piped.{Answered, IsAskedFor, PipeAnswers, pipe_answer, pipe_bytes, pipe_script, pipe_refused, pipe_not_linked, pipe_script_refused, piped, tally_text}
use Rattle.wcm.proofs.Caused.{caused}
use Rattle.wcm.proofs.RunRows.{fits_machine, own, same_status}

-- An answer to what words ask for is one for the words, and so is the text where they ask for nothing.
pub asked_for : (held : List ℕ → Option (List ℕ)) (words : Option Request) (request : Request) (a : Answer) → words ≡ Some request → Answered held (Some request) a → Answered held words a
asked_for held words request a e h = subst (λ (o : Option Request). Answered held o a) (sym e) h

pub asked_none : (held : List ℕ → Option (List ℕ)) (words : Option Request) (text : List ℕ) → words ≡ None → Answered held words (usage_answer text)
asked_none held words text e = subst (λ (o : Option Request). Answered held o (usage_answer text)) (sym e) (no_command text)

-- The status of an answer is the one that is come to.
pub asked_caused : OneRun → (held : List ℕ → Option (List ℕ)) (words : Option Request) (a : Answer) (status : Status) → Answered held words a → status ≡ a.status → IsAskedFor held words status
asked_caused one_run held None a status h e = caused one_run held None a status h e
asked_caused one_run held (Some (OfFile command)) a status h e = caused one_run held (Some command) a status h e
asked_caused one_run held (Some (Pipe seed count)) a status h e = (a, h, sym e)

-- A status of a run is one that the files decide.
pub run_answered : (end : RunEnd) (status : Status) → status ≡ status_of_run end → IsAnswered status
run_answered end status e = subst (λ (s : Status). IsAnswered s) (sym e) (by_end end)
  where
    by_end : (end : RunEnd) → IsAnswered (status_of_run end)
    by_end run.Done = tt
    by_end run.Trap = tt
    by_end run.Deadlock = tt
    by_end run.Fuel = tt

-- a text that is told of a run from this world on
abbrev pub IsToldOf : Program → Point → ℕ → RunEnd → List ℕ → Type 0
IsToldOf p a seed end text = (lines : List Label) × (last : Held) × IsRun Passes p a end lines last × (text ≡ tally_text seed (counted lines))

-- What is told of what a run's trace counted is told of its lines.
pub told_of : (p : Program) (a : Point) (dumps : Bool) (start taken : Option (List ℕ)) (kept last shown text : List ℕ) (t : Tally) (elements sum count number seed : ℕ) (ran : Ran)
    → (let r : Result Ran RunFault = Ok ran in ScriptRuns Passes p a dumps start kept t r taken (tally_of elements sum last)) → t ≡ nothing
    → ((lines : List Label) → with_lines nothing lines ≡ counted lines) → count ≡ elements → number ≡ sum → shown ≡ without_feed last
    → ((feed : List ℕ) → shown ≡ without_feed feed → text ≡ tally_text seed (tally_of count number feed)) → IsToldOf p a seed ran.end text
told_of p a dumps start taken kept last shown text t elements sum count number seed ran runs none law same_count same_number same_last told =
    let all : tally_of elements sum last ≡ counted runs.0 = runs.5 ∙ ap (λ (u : Tally). with_lines u runs.0) none ∙ law runs.0 in
    let both : tally_of count number last ≡ tally_of elements sum last =
    ap (λ (n : ℕ). tally_of n number last) same_count ∙ ap (λ (n : ℕ). tally_of elements n last) same_number in
    (runs.0, runs.1, runs.2, told last same_last ∙ ap (λ (u : Tally). tally_text seed u) (both ∙ all))

-- The answer of a pipe's run.
pub piped_row : ReadRunsFit → RunsAreOfMachine → (c : Component) (g : Graph) (s : Script) (p : Program) (seed count : ℕ) (end : RunEnd) (text : List ℕ) (a : Answer)
    → IsOfComponent g → IsOfText g.exports s → IsProgram g s p → IsToldOf p (first_point p.graph.now p.script.now) seed end text
    → a ≡ record { status = status_of_run end; out = text; err = [] }
    → IsComponent (pipe_bytes seed count) c → IsLinked c g → IsScript g.exports pipe_script s → PipeAnswers seed count a
piped_row fit of_machine c g s p seed count end text a of said is_of told e read linked script =
    let m = own g s p is_of (λ h t. IsOfMachine h t told.0 end) (of_machine p end told.0 told.1 (fits_machine fit g s p of said is_of) told.2) in
    let out : text ≡ tally_text seed (counted (trace_of m.told m.by)) = told.3 ∙ ap (λ (lines : List Label). tally_text seed (counted lines)) m.same_lines in
    let status : status_of_run end ≡ status_of m.by = ap (λ (e : RunEnd). status_of_run e) m.same_end ∙ same_status m.by in
    let same : a ≡ pipe_answer seed m.told m.by =
    e ∙ (ap (λ (out : List ℕ). (let b : Answer = record { status = status_of_run end; out = out; err = [] } in b)) out
    ∙ ap (λ (status : Status). (let b : Answer = record { status = status; out = tally_text seed (counted (trace_of m.told m.by)); err = [] } in b)) status) in
    subst (λ (b : Answer). PipeAnswers seed count b) (sym same) (piped c g s m.told m.last m.by read linked script m.runs)

-- The answer of a pipe whose script is read.
pub script_row : {E : Type 0} (c : Component) (g : Graph) (exports : List Export) (text : List ℕ) (s : Script) (seed : ℕ) (r : Result Answer E) → IsLinked c g
    → exports ≡ g.exports → text ≡ pipe_script → IsScript exports text s
    → IfOk r (λ a. (count : ℕ) → IsComponent (pipe_bytes seed count) c → IsLinked c g → IsScript g.exports pipe_script s → PipeAnswers seed count a)
    → IfOk r (λ a. (count : ℕ) → IsComponent (pipe_bytes seed count) c → PipeAnswers seed count a)
script_row c g exports text s seed (Ok a) linked same is said h = λ count read.
    h count read linked (subst (λ (es : List Export). IsScript es pipe_script s) same (subst (λ (bytes : List ℕ). IsScript exports bytes s) is said))
script_row c g exports text s seed (Err e) linked same is said h = tt

-- The answer of a pipe whose component is read.
pub component_row : {E : Type 0} (bytes : List ℕ) (c : Component) (seed count : ℕ) (r : Result Answer E) → bytes ≡ pipe_bytes seed count → IsComponent bytes c
    → IfOk r (λ a. (n : ℕ) → IsComponent (pipe_bytes seed n) c → PipeAnswers seed n a) → IfOk r (PipeAnswers seed count)
component_row bytes c seed count (Ok a) is read h = h count (subst (λ (file : List ℕ). IsComponent file c) is read)
component_row bytes c seed count (Err e) is read h = tt

-- The rows of a pipe that need no run.
pub pipe_refused_row : (bytes : List ℕ) (refusal : Refusal ComponentWhy) (seed count : ℕ) (a : Answer) → bytes ≡ pipe_bytes seed count → IsRefused bytes refusal
    → a ≡ refused_answer refusal → PipeAnswers seed count a
pipe_refused_row bytes refusal seed count a is refused e =
    subst (λ (b : Answer). PipeAnswers seed count b) (sym e) (pipe_refused refusal (subst (λ (file : List ℕ). IsRefused file refusal) is refused))

pub pipe_not_linked_row : (c : Component) (fault : LinkFault) (seed : ℕ) (a : Answer) → IsLinkRefused c fault → a ≡ link_refused_answer fault
    → (count : ℕ) → IsComponent (pipe_bytes seed count) c → PipeAnswers seed count a
pipe_not_linked_row c fault seed a refused e count read = subst (λ (b : Answer). PipeAnswers seed count b) (sym e) (pipe_not_linked c fault read refused)

pub pipe_script_row : (c : Component) (g : Graph) (exports : List Export) (text : List ℕ) (fault : ScriptFault) (seed : ℕ) (a : Answer) → IsLinked c g → exports ≡ g.exports
    → text ≡ pipe_script → IsScriptRefused exports text fault → a ≡ script_refused_answer fault → (count : ℕ) → IsComponent (pipe_bytes seed count) c → PipeAnswers seed count a
pipe_script_row c g exports text fault seed a linked same is refused e count read =
    subst (λ (b : Answer). PipeAnswers seed count b) (sym e)
    (pipe_script_refused c g fault read linked
    (subst (λ (es : List Export). IsScriptRefused es pipe_script fault) same (subst (λ (bytes : List ℕ). IsScriptRefused exports bytes fault) is refused)))
