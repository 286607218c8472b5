-- The text of a run of the program's own steps makes the answer of the machine's run, and what went out of it so far is a front of the trace of that.
use Rattle.std.proofs.Common.{◌≡◌, ◌⊎◌, inl, inr, ℕ, Bool, true, false, if◌then◌else◌, List, [], ◌++◌, Option, Some, Result, Ok, Err, refl, ap, sym, ◌∙◌, subst}
use Rattle.std.proofs.lemmas.Grind.{flat_map-append}
use Rattle.script_reader.specs.Script.{Script}
use Rattle.comp_graph.specs.Graph.{Graph}
use Rattle.link_spec.specs.Laws.{ModulesStand}
use Rattle.graph_laws.specs.Laws.{ReadModulesAreTyped}
use Rattle.async_graph_laws.specs.ReadRuns.{AreRead, ReadRunsAreOne}
use Rattle.async_graph_laws.specs.ReadFits.{ReadRunsFit}
use Rattle.trace_labels.specs.declared.label.Label.{Label}
use Rattle.trace_show.specs.LabelText.{label_text, trace_text}
use Rattle.trace_show.specs.Tally.{Tally}
use Rattle.ca_io.specs.Bytes.{TookFront}
use Rattle.programs.specs.declared.program.Program.{Program}
use Rattle.program_maker.specs.Programs.{IsProgram}
use Rattle.world_parts.specs.Held.{Held}
use Rattle.world_dumps.specs.Tables as kept
use Rattle.value_moves.specs.Passing.{Passes}
use Rattle.machine_runs.specs.declared.ending.RunEnd.{RunEnd}
use Rattle.machine_runs.specs.declared.ending.RunEnd.TheVariants as run
use Rattle.machine_runs.specs.Fit.{ModulesFit}
use Rattle.machine_runs.specs.declared.fault.RunFault.{RunFault}
use Rattle.machine_runs.specs.declared.fault.RunFault.TheVariants as fault
use Rattle.machine_runs.specs.declared.running_script.Ran.{Ran}
use Rattle.machine_runs.specs.Beyond.{IsBeyond}
use Rattle.machine_runs.specs.Playing.{dump_if, ScriptRuns}
use Rattle.machine_runs.specs.Worlds.{Point, first_point, IsRun, SoFarTells}
use Rattle.abi_machine.specs.declared.run_end.RunEnd as machine_end
use Rattle.abi_machine.specs.declared.run_end.RunEnd.TheVariants as ends
use Rattle.abi_machine.specs.World.{World}
use Rattle.abi_machine.specs.Run.{Runs, trace_of}
use Rattle.abi_machine.specs.Dump as machine
use Rattle.reach_laws.specs.Fits.{Fits}
use Rattle.run_laws.specs.Carried.{IsFit, RunsAreOfMachine}
use Rattle.run_laws.specs.Fronts.{SoFarIsOfMachine}
use Rattle.run_laws.specs.Left.{EndsFree, RunsLeaveDumps}
use Rattle.run_laws.specs.Whole.{end_of, IsOfMachine}
use Rattle.command_words.specs.Words.{OfFile, Run}
use Rattle.wcm.specs.declared.answer.Answer.{Answer}
use Rattle.wcm.specs.declared.status.Status.{Status}
use Rattle.wcm.specs.Status.{status_of, status_of_run}
use Rattle.wcm.specs.Files.{IsOfComponent, IsOfText, IsFileLinked, IsScriptFile}
use Rattle.wcm.specs.Leaving.{IsOver, EndsWith, Leaves, not_asked, of_world, of_kept, kept_text, dumped}
use Rattle.wcm.specs.Answers.{Answers, ran, run_answer}
use Rattle.wcm.specs.Coming.{WentOut, ComesToAnswer, RunComes}
use Rattle.wcm.proofs.Sounds.{modules_fit}
use Rattle.wcm.proofs.Taken.{took_longer}

-- a text of a run from this world on
abbrev pub IsTextOf : Program → Point → Bool → RunEnd → List ℕ → Type 0
IsTextOf p a dump end text = (lines : List Label) × (last : Held) × IsRun Passes p a end lines last × (text ≡ kept_text dump lines last)

-- The modules of a program of a graph that is read and linked are valid.
pub program_fits : ReadModulesAreTyped → ModulesStand → (g : Graph) (s : Script) (p : Program) → IsOfComponent g → IsProgram g s p → ModulesFit p.graph.now
program_fits typed stand g s p of is_of = subst (λ (h : Graph). ModulesFit h) (sym is_of.graph) (modules_fit typed stand g of)

-- It is one of a graph and a script that fit the machine.
is_read : (g : Graph) (s : Script) (of : IsOfComponent g) (said : IsOfText g.exports s) → AreRead of.1.0 said.0 g s
is_read g s of said = record { bytes = of.1.1; component = of.0; read = of.1.2; linked = of.2; script = said.1 }

pub fits_machine : ReadRunsFit → (g : Graph) (s : Script) (p : Program) → IsOfComponent g → IsOfText g.exports s → IsProgram g s p → IsFit p
fits_machine fit g s p of said is_of =
    let fits = fit of.1.0 said.0 g s (is_read g s of said) in
    record {
      made = subst (λ (h : Graph). IsProgram h p.script.now p) (sym is_of.graph) (subst (λ (t : Script). IsProgram g t p) (sym is_of.script) is_of);
      fits = subst (λ (h : Graph). Fits h p.script.now) (sym is_of.graph) (subst (λ (t : Script). Fits g t) (sym is_of.script) fits);
    }

-- the machine's run of the program's own graph and script is that of these
pub own : (g : Graph) (s : Script) (p : Program) → IsProgram g s p → (P : Graph → Script → Type 0) → P p.graph.now p.script.now → P g s
own g s p is_of P x = subst (λ (h : Graph). P h s) is_of.graph (subst (λ (t : Script). P p.graph.now t) is_of.script x)

pub same_status : (by : machine_end.RunEnd) → status_of_run (end_of by) ≡ status_of by
same_status ends.Done = refl
same_status (ends.Trapped task why) = refl
same_status (ends.Deadlock tasks) = refl
same_status ends.Fuel = refl

is_free : (end : RunEnd) → EndsFree end ⊎ (EndsFree end → ⊥)
is_free run.Done = inl tt
is_free run.Trap = inl tt
is_free run.Deadlock = inl tt
is_free run.Fuel = inr (λ x. x)

is_over : (by : machine_end.RunEnd) → EndsFree (end_of by) → IsOver by
is_over ends.Done h = tt
is_over (ends.Trapped task why) h = tt
is_over (ends.Deadlock tasks) h = tt
is_over ends.Fuel h = absurd h

is_free_too : (by : machine_end.RunEnd) → IsOver by → EndsFree (end_of by)
is_free_too ends.Done h = tt
is_free_too (ends.Trapped task why) h = tt
is_free_too (ends.Deadlock tasks) h = tt
is_free_too ends.Fuel h = absurd h

-- What stands behind the trace, by what was asked for and how the run ended.
record IsTold (g : Graph) (s : Script) (dump : Bool) (end : RunEnd) (lines : List Label) (last : Held) : Type 0 where
  m : IsOfMachine g s lines end
  left : List ℕ
  leaves : Leaves g s m.told m.last m.by dump left
  same : kept_text dump lines last ≡ trace_text lines ++ left

beyond : (g : Graph) (s : Script) (p : Program) (end : RunEnd) (lines : List Label) (last : Held) → IsProgram g s p → IsRun Passes p (first_point g s) end lines last
    → (EndsFree end → ⊥) → IsOfMachine g s lines end → IsTold g s true end lines last
beyond g s p end lines last is_of goes free m =
    let over : IsOver m.by → ⊥ = λ x. free (subst (λ (e : RunEnd). EndsFree e) (sym m.same_end) (is_free_too m.by x)) in
    let goes_so : IsRun Passes p (first_point g s) (end_of m.by) (trace_of m.told m.by) last =
    subst (λ (e : RunEnd). IsRun Passes p (first_point g s) e (trace_of m.told m.by) last) m.same_end
    (subst (λ (ls : List Label). IsRun Passes p (first_point g s) end ls last) m.same_lines goes) in
    record { m = m; left = kept.dump_of last; leaves = of_kept p last over (record { is_of = is_of; goes = goes_so }); same = refl }

finished : (g : Graph) (s : Script) (end : RunEnd) (lines : List Label) (last : Held) → EndsFree end → (m : IsOfMachine g s lines end) → kept.dump_of last ≡ machine.dump_of m.last
    → IsTold g s true end lines last
finished g s end lines last free m same =
    record {
      m = m;
      left = machine.dump_of m.last;
      leaves = of_world (is_over m.by (subst (λ (e : RunEnd). EndsFree e) m.same_end free));
      same = ap (λ (text : List ℕ). trace_text lines ++ text) same;
    }

told_so : RunsAreOfMachine → RunsLeaveDumps → (g : Graph) (s : Script) (p : Program) (dump : Bool) (end : RunEnd) (lines : List Label) (last : Held) → IsFit p → IsProgram g s p
    → IsRun Passes p (first_point p.graph.now p.script.now) end lines last → IsTold g s dump end lines last
told_so of_machine dumps g s p false end lines last fit is_of goes =
    record { m = own g s p is_of (λ h t. IsOfMachine h t lines end) (of_machine p end lines last fit goes); left = []; leaves = not_asked; same = refl }
told_so of_machine dumps g s p true end lines last fit is_of goes =
    elim (is_free end) [
      | inl free ↦
          let left = own g s p is_of (λ h t. (m : IsOfMachine h t lines end) × (kept.dump_of last ≡ machine.dump_of m.last)) (dumps p end lines last fit goes free) in
          finished g s end lines last free left.0 left.1
      | inr none ↦
          beyond g s p end lines last is_of (own g s p is_of (λ h t. IsRun Passes p (first_point h t) end lines last) goes) none
          (own g s p is_of (λ h t. IsOfMachine h t lines end) (of_machine p end lines last fit goes))
    ]

-- The answer of a run.
pub run_row : ReadRunsFit → RunsAreOfMachine → RunsLeaveDumps → (g : Graph) (s : Script) (p : Program) (dump : Bool) (end : RunEnd) (text : List ℕ) (a : Answer)
    → IsOfComponent g → IsOfText g.exports s → IsProgram g s p → IsTextOf p (first_point p.graph.now p.script.now) dump end text
    → a ≡ record { status = status_of_run end; out = text; err = [] }
    → (held : List ℕ → Option (List ℕ)) (file name : List ℕ) → IsFileLinked held file g → IsScriptFile held name g.exports s → Answers held (Some (Run file name dump)) a
run_row fit of_machine dumps g s p dump end text a of said is_of run e held file name linked read =
    let told = told_so of_machine dumps g s p dump end run.0 run.1 (fits_machine fit g s p of said is_of) is_of run.2 in
    let m = told.m in
    let out : text ≡ trace_text (trace_of m.told m.by) ++ told.left =
    run.3 ∙ (told.same ∙ ap (λ (lines : List Label). trace_text lines ++ told.left) m.same_lines) in
    let same : a ≡ run_answer m.told m.by told.left =
    e ∙ (ap (λ (out : List ℕ). (let b : Answer = record { status = status_of_run end; out = out; err = [] } in b)) out
    ∙ ap (λ (status : Status). (let b : Answer = record { status = status; out = trace_text (trace_of m.told m.by) ++ told.left; err = [] } in b))
    (ap (λ (e : RunEnd). status_of_run e) m.same_end ∙ same_status m.by)) in
    subst (λ (b : Answer). Answers held (Some (Run file name dump)) b) (sym same)
    (ran file name dump g s m.told m.last m.by told.left linked read m.runs told.leaves)

-- What is counted of the lines is left out.
pub uncounted : (p : Program) (a : Point) (dumps : Bool) (start taken : Option (List ℕ)) (kept : List ℕ) (t u : Tally) (r : Result Ran RunFault) → kept ≡ []
    → ScriptRuns Passes p a dumps start kept t r taken u → (t : Tally) × (u : Tally) × ScriptRuns Passes p a dumps start [] t r taken u
uncounted p a dumps start taken kept t u r none runs = (t, u, subst (λ (k : List ℕ). ScriptRuns Passes p a dumps start k t r taken u) none runs)

dumped_if : (dump : Bool) (last : Held) → (if dump then kept.dump_of last else []) ≡ dumped (dump_if dump last)
dumped_if true last = refl
dumped_if false last = refl

-- A run came to its end: its trace has gone out, and what it left is to be written.
pub run_comes : ReadRunsFit → RunsAreOfMachine → RunsLeaveDumps → (g : Graph) (s : Script) (p : Program) (dump : Bool) (before now : Option (List ℕ)) (end : Ran) (left : Answer)
    → IsOfComponent g → IsOfText g.exports s → IsProgram g s p
    → (t : Tally) × (u : Tally) × (let r : Result Ran RunFault = Ok end in ScriptRuns Passes p (first_point p.graph.now p.script.now) dump before [] t r now u)
    → left ≡ record { status = status_of_run end.end; out = dumped end.dump; err = [] }
    → (held : List ℕ → Option (List ℕ)) (file name : List ℕ) → IsFileLinked held file g → IsScriptFile held name g.exports s
    → ComesToAnswer held (Some (OfFile (Run file name dump))) before now left
run_comes fit of_machine dumps g s p dump before now end left of said is_of goes e held file name linked read =
    let h = goes.2 in
    let text : List ℕ = kept_text dump h.0 h.1 in
    let a : Answer = record { status = status_of_run end.end; out = text; err = [] } in
    let rest : (if dump then kept.dump_of h.1 else []) ≡ left.out = dumped_if dump h.1 ∙ (sym (ap dumped h.4) ∙ sym (ap (λ (b : Answer). b.out) e)) in (
      a,
      run_row fit of_machine dumps g s p dump end.end text a of said is_of (h.0, h.1, h.2, refl) refl held file name linked read,
      record {
        front = trace_text h.0;
        out = ap (λ (t : List ℕ). trace_text h.0 ++ t) rest;
        taken = h.3;
        err = ap (λ (b : Answer). b.err) e;
        status = ap (λ (b : Answer). b.status) e;
      },
    )

-- What is told of it so far is a front of the trace of the machine's run.
so_far_trace : ReadRunsFit → ReadRunsAreOne → SoFarIsOfMachine → (g : Graph) (s : Script) (p : Program) (dump : Bool) (before now : Option (List ℕ)) (lines : List Label)
    → IsOfComponent g → IsOfText g.exports s → IsProgram g s p → SoFarTells Passes p (first_point p.graph.now p.script.now) lines → TookFront before now (trace_text lines)
    → (held : List ℕ → Option (List ℕ)) (file name : List ℕ) → IsFileLinked held file g → IsScriptFile held name g.exports s
    → WentOut held (Some (OfFile (Run file name dump))) before now
so_far_trace fit runs_are_one so_far g s p dump before now lines of said is_of tells took held file name linked read =
    let m = runs_are_one of.1.0 said.0 g s (is_read g s of said) in
    let runs : Runs p.graph.now p.script.now m.labels m.last m.end =
    subst (λ (h : Graph). Runs h p.script.now m.labels m.last m.end) (sym is_of.graph) (subst (λ (t : Script). Runs g t m.labels m.last m.end) (sym is_of.script) m.runs) in
    let rest = so_far p lines m.labels m.last m.end (fits_machine fit g s p of said is_of) tells runs in
    let text : trace_text (trace_of m.labels m.end) ≡ trace_text lines ++ trace_text rest.0 =
    ap (λ (ls : List Label). trace_text ls) rest.1 ∙ flat_map-append label_text lines rest.0 in
    record {
      dump = dump;
      end = m.end;
      text = trace_text (trace_of m.labels m.end);
      trace = record {
        file = file;
        script = name;
        graph = g;
        calls = s;
        labels = m.labels;
        last = m.last;
        named = refl;
        linked = linked;
        read = read;
        runs = m.runs;
        same = refl;
      };
      front = took_longer before now (trace_text lines) (trace_text rest.0) (trace_text (trace_of m.labels m.end)) text took;
    }

is_so_far : (p : Program) (a : Point) (lines : List Label) → IsBeyond Passes p a lines → SoFarTells Passes p a lines
is_so_far p a lines lost = inl (lost.last, record { count = lost.count; steps = lost.steps })

-- It stopped, or goes beyond what is run.
pub run_stops : ReadRunsFit → ReadRunsAreOne → SoFarIsOfMachine → (g : Graph) (s : Script) (p : Program) (dump : Bool) (before now : Option (List ℕ)) (why : RunFault)
    → IsOfComponent g → IsOfText g.exports s → IsProgram g s p
    → (t : Tally) × (u : Tally) × (let r : Result Ran RunFault = Err why in ScriptRuns Passes p (first_point p.graph.now p.script.now) dump before [] t r now u)
    → (held : List ℕ → Option (List ℕ)) (file name : List ℕ) → IsFileLinked held file g → IsScriptFile held name g.exports s
    → (let r : Result Answer RunFault = Err why in RunComes held (Some (OfFile (Run file name dump))) before now r)
run_stops fit runs_are_one so_far g s p dump before now fault.Write of said is_of goes held file name linked read =
    let h = goes.2 in so_far_trace fit runs_are_one so_far g s p dump before now h.0 of said is_of h.1 h.2 held file name linked read
run_stops fit runs_are_one so_far g s p dump before now fault.Memory of said is_of goes held file name linked read =
    let h = goes.2 in inr (so_far_trace fit runs_are_one so_far g s p dump before now h.0 of said is_of h.1 h.2 held file name linked read)
run_stops fit runs_are_one so_far g s p dump before now fault.Beyond of said is_of goes held file name linked read =
    let h = goes.2 in
    inr (so_far_trace fit runs_are_one so_far g s p dump before now h.0 of said is_of (is_so_far p (first_point p.graph.now p.script.now) h.0 h.1) h.2 held file name linked read)
