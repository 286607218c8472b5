-- What of a run goes out as it goes (Component Model, Concurrency.md, "Summary"): the lines of each step behind those before, and the last line.
-- Where a write fails, or memory is wanting, the sink has taken some front of the text so far.
use Rattle.std.specs.Prelude.{◌≡◌, ◌⊎◌, ℕ, ◌≤◌, Bool, if◌then◌else◌, List, [], ◌++◌, take, Option, Some, None, Result, Ok, Err}
use Rattle.std.specs.Option.{option_map}
use Rattle.faults.specs.declared.memory.MemoryOr.{MemoryOr}
use Rattle.faults.specs.declared.memory.MemoryOr.TheVariants as or
use Rattle.ca_io.specs.Bytes.{grown, TookFront}
use Rattle.ca_io.specs.Causes.{Rose}
use Rattle.programs.specs.declared.program.Program.{Program}
use Rattle.trace_labels.specs.declared.label.Label.{Label}
use Rattle.trace_show.specs.LabelText.{trace_text}
use Rattle.trace_show.specs.Tally.{Tally, with_lines}
use Rattle.world_parts.specs.declared.parts.Flow.{Flow}
use Rattle.world_parts.specs.Held.{Held, Done}
use Rattle.world_dumps.specs.Tables.{dump_of}
use Rattle.value_parts.specs.declared.to_pass.Passing.{Passing}
use Rattle.machine_runs.specs.declared.ending.RunEnd.{RunEnd}
use Rattle.machine_runs.specs.declared.ending.LastLine.{LastLine}
use Rattle.machine_runs.specs.declared.fault.RunFault.{RunFault}
use Rattle.machine_runs.specs.declared.fault.RunFault.TheVariants as fault
use Rattle.machine_runs.specs.declared.running_script.Ran.{Ran}
use Rattle.machine_runs.specs.Worlds.{Point, with_last, StepGives, Goes, EndsBy, IsRun, StepTells, SoFarTells}
use Rattle.machine_runs.specs.Beyond.{StepIsLost, IsBeyond}

-- What was taken is some front of a text, where the sink tells it.
abbrev pub Took : Option (List ℕ) → Option (List ℕ) → Type 0
Took taken text = (count : ℕ) × (taken ≡ option_map (take count) text)

-- What was taken grew, where the sink tells it.
abbrev pub Grew : Option (List ℕ) → Option (List ℕ) → Type 0
Grew before now = (more : List ℕ) × (now ≡ grown before more)

-- What lines that are put come to.
abbrev pub Puts : {E : Type 0} → Option (List ℕ) → List Label → Result (Unit {0}) (MemoryOr E) → Option (List ℕ) → Option (List ℕ) → Type 0
Puts before lines (Ok done) so_far taken = so_far ≡ grown before (trace_text lines)
Puts before lines (Err e) so_far taken = Took taken (grown before (trace_text lines))

-- The same with the last line of a run, if it is there: behind it all is written.
abbrev pub TellsAll : {E : Type 0} → Option (List ℕ) → List Label → Option LastLine → Result (Unit {0}) (MemoryOr E) → Option (List ℕ) → Option (List ℕ) → Type 0
TellsAll before lines None (Ok done) so_far taken = so_far ≡ grown before (trace_text lines)
TellsAll before lines (Some last) (Ok done) so_far taken = taken ≡ grown before (trace_text (with_last lines (Some last)))
TellsAll before lines None (Err e) so_far taken = Took taken (grown before (trace_text lines))
TellsAll before lines (Some last) (Err e) so_far taken = Took taken (grown before (trace_text (with_last lines (Some last))))

-- Why lines were not put, as a fault of a run.
abbrev pub put_fault : {E : Type 0} → MemoryOr E → RunFault
put_fault or.Memory = fault.Memory
put_fault (or.Fault e) = fault.Write

-- What a step comes to, without its lines: where it is the last one, with the last line. Of want of memory nothing is said.
abbrev pub StepComes : (Program → Passing → Held → Done Flow → Type 0) → Program → Point → Result (Option LastLine) RunFault → Point → Type 0
StepComes may_pass p a (Ok last) b = StepGives may_pass p a last b
StepComes may_pass p a (Err fault.Write) b = ⊥
StepComes may_pass p a (Err fault.Memory) b = Unit {0}
StepComes may_pass p a (Err fault.Beyond) b = StepIsLost may_pass p a

-- A step stopped, at a write that failed or for want of memory: none of its lines was told, or some front of them.
abbrev pub StepStops : (Program → Passing → Held → Done Flow → Type 0) → Program → Point → Option (List ℕ) → Option (List ℕ) → Type 0
StepStops may_pass p a before taken = (lines : List Label) × ((lines ≡ []) ⊎ StepTells may_pass p a lines) × Took taken (grown before (trace_text lines))

-- What a step comes to, with its lines: the text so far, what the sink took, what is counted of the lines, and the world behind it.
abbrev pub Plays : (Program → Passing → Held → Done Flow → Type 0) → Program → Point → Option (List ℕ) → Tally → Result (Option RunEnd) RunFault → Point → Option (List ℕ)
    → Option (List ℕ) → Tally → Type 0
Plays may_pass p a before t (Ok None) c so_far taken u =
    (lines : List Label) × Goes may_pass p a lines c × (so_far ≡ grown before (trace_text lines)) × (u ≡ with_lines t lines)
Plays may_pass p a before t (Ok (Some end)) c so_far taken u =
    (lines : List Label) × EndsBy may_pass p a end lines c.held × (taken ≡ grown before (trace_text lines)) × (u ≡ with_lines t lines)
Plays may_pass p a before t (Err fault.Write) c so_far taken u = StepStops may_pass p a before taken
Plays may_pass p a before t (Err fault.Memory) c so_far taken u = StepStops may_pass p a before taken
Plays may_pass p a before t (Err fault.Beyond) c so_far taken u = StepIsLost may_pass p a × Took taken before

-- A run stopped, at a write that failed or for want of memory; or it went beyond what is run. The sink took some front of the text of its lines.
abbrev pub StopsOn : (Program → Passing → Held → Done Flow → Type 0) → Program → Point → Option (List ℕ) → Option (List ℕ) → Type 0
StopsOn may_pass p a before taken = (lines : List Label) × SoFarTells may_pass p a lines × Took taken (grown before (trace_text lines))

abbrev pub IsLostOn : (Program → Passing → Held → Done Flow → Type 0) → Program → Point → Option (List ℕ) → Option (List ℕ) → Type 0
IsLostOn may_pass p a before taken = (lines : List Label) × IsBeyond may_pass p a lines × Took taken (grown before (trace_text lines))

-- What a run from a world on comes to.
abbrev pub PlaysOn : (Program → Passing → Held → Done Flow → Type 0) → Program → Point → Option (List ℕ) → Tally → Result RunEnd RunFault → Point → Option (List ℕ) → Tally → Type 0
PlaysOn may_pass p a before t (Ok end) b taken u =
    (lines : List Label) × IsRun may_pass p a end lines b.held × (taken ≡ grown before (trace_text lines)) × (u ≡ with_lines t lines)
PlaysOn may_pass p a before t (Err fault.Write) b taken u = StopsOn may_pass p a before taken
PlaysOn may_pass p a before t (Err fault.Memory) b taken u = StopsOn may_pass p a before taken
PlaysOn may_pass p a before t (Err fault.Beyond) b taken u = IsLostOn may_pass p a before taken

-- The same with the text of what it left, where that is asked for.
abbrev pub dump_if : Bool → Held → Option (List ℕ)
dump_if dumps h = if dumps then Some (dump_of h) else None

abbrev pub WorldRuns : (Program → Passing → Held → Done Flow → Type 0) → Program → Point → Bool → Option (List ℕ) → Tally → Result Ran RunFault → Option (List ℕ) → Tally → Type 0
WorldRuns may_pass p a dumps before t (Ok ran) taken u =
    (lines : List Label) × (h : Held) × IsRun may_pass p a ran.end lines h × (taken ≡ grown before (trace_text lines)) × (ran.dump ≡ dump_if dumps h) × (u ≡ with_lines t lines)
WorldRuns may_pass p a dumps before t (Err fault.Write) taken u = StopsOn may_pass p a before taken
WorldRuns may_pass p a dumps before t (Err fault.Memory) taken u = StopsOn may_pass p a before taken
WorldRuns may_pass p a dumps before t (Err fault.Beyond) taken u = IsLostOn may_pass p a before taken

-- What the run of a script comes to, where the sink had taken `start`, this was kept back, and `t` was counted of the lines before: all of it is
-- written, its lines are counted, and the text of what it left is there, where that is asked for. Where it stopped, or went beyond what is run, the sink took some front of the text of its lines, and nothing else.
abbrev pub ScriptRuns : (Program → Passing → Held → Done Flow → Type 0) → Program → Point → Bool → Option (List ℕ) → List ℕ → Tally → Result Ran RunFault → Option (List ℕ) → Tally
    → Type 0
ScriptRuns may_pass p a dumps start kept t (Ok ran) taken u =
    (lines : List Label) × (h : Held) × IsRun may_pass p a ran.end lines h × (taken ≡ grown start (kept ++ trace_text lines)) × (ran.dump ≡ dump_if dumps h) × (u ≡ with_lines t lines)
ScriptRuns may_pass p a dumps start kept t (Err fault.Write) taken u = (lines : List Label) × SoFarTells may_pass p a lines × TookFront start taken (kept ++ trace_text lines)
ScriptRuns may_pass p a dumps start kept t (Err fault.Memory) taken u = (lines : List Label) × SoFarTells may_pass p a lines × TookFront start taken (kept ++ trace_text lines)
ScriptRuns may_pass p a dumps start kept t (Err fault.Beyond) taken u = (lines : List Label) × IsBeyond may_pass p a lines × TookFront start taken (kept ++ trace_text lines)

-- The count of the sink's faults never falls; it rose where a write failed, and is as before with every other answer.
abbrev pub RunTold : {T : Type 0} → ℕ → ℕ → Result T RunFault → Type 0
RunTold before now (Ok x) = now ≡ before
RunTold before now (Err fault.Write) = Rose before now
RunTold before now (Err fault.Memory) = now ≡ before
RunTold before now (Err fault.Beyond) = now ≡ before

pub record HasRunCause {T : Type 0} (before now : ℕ) (result : Result T RunFault) : Type 0 where
  pub later : before ≤ now
  pub told : RunTold before now result
