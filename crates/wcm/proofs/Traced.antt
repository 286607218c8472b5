-- The trace of a run that went out is a front of what each answer has for the output, where the files are told; and where a write of it failed there is such an answer,
-- but where what the run leaves is told of what the program keeps at its end.
use Rattle.std.proofs.Common.{◌≡◌, ◌⊎◌, inl, inr, ℕ, Bool, true, false, List, [], ◌++◌, refl, ap, sym, ◌∙◌, subst, Option, Some, Result, Ok}
use Rattle.std.specs.Option.{IsSome}
use Rattle.script_reader.specs.declared.fault.ScriptFault.{ScriptFault}
use Rattle.script_reader.specs.Script.{Script, script}
use Rattle.comp_graph.specs.Graph.{Graph}
use Rattle.trace_labels.specs.declared.label.Label.{Label}
use Rattle.trace_show.specs.LabelText.{trace_text}
use Rattle.programs.specs.declared.program.Program.{Program}
use Rattle.abi_machine.specs.declared.run_end.RunEnd.{RunEnd}
use Rattle.abi_machine.specs.declared.run_end.RunEnd.TheVariants as ends
use Rattle.abi_machine.specs.World.{World}
use Rattle.abi_machine.specs.Run.{Runs, trace_of}
use Rattle.abi_machine.specs.Dump.{dump_of}
use Rattle.abi_machine.specs.sound.Unique.{OneRun}
use Rattle.ca_io.specs.Bytes.{TookFront}
use Rattle.command_words.specs.Words.{Request, OfFile, Run}
use Rattle.wcm.specs.declared.answer.Answer.{Answer}
use Rattle.wcm.specs.Answers.{ran, run_answer}
use Rattle.wcm.specs.Coming.{IsTrace, WentOut}
use Rattle.wcm.specs.Files.{IsFileLinked, IsScriptFile, AreTold}
use Rattle.wcm.specs.Laws.{program_in}
use Rattle.wcm.specs.Leaving.{IsOver, Leaves, not_asked, of_world}
use Rattle.wcm.specs.Piped.{Answered, IsAskedTold}
use Rattle.wcm.specs.Traced.{WroteTrace}
use Rattle.wcm.specs.Written.{WroteFront, WroteFrontOrLine}
use Rattle.wcm.proofs.Held.{same_bytes}
use Rattle.wcm.proofs.Found.{Found, GoodFile, Finds, one_found}
use Rattle.wcm.proofs.Rows.{BehindScript, ByScript, Behind, ByFile, by_file}
use Rattle.wcm.proofs.Taken.{took_none, took_longer}

-- What is answered for this run begins with its trace.
front_behind : OneRun → (g : Graph) (dump : Bool) (s : Script) (q : Option Program) (a : Answer) (labels : List Label) (last : World) (end : RunEnd) → Runs g s labels last end
    → BehindScript g dump q (Ok s) a → (rest : List ℕ) × (a.out ≡ trace_text (trace_of labels end) ++ rest)
front_behind one_run g dump s q a labels last end runs h =
    let one = one_run g s h.labels labels h.last last h.end end h.runs runs in
    let out_of : Answer → List ℕ = λ b. b.out in (
      h.at.left,
      ap out_of h.at.answer ∙ (ap (λ (ls : List Label). trace_text (trace_of ls h.end) ++ h.at.left) one.0 ∙ ap (λ (e : RunEnd). trace_text (trace_of labels e) ++ h.at.left) one.2),
    )

front_by_script : OneRun → (held : List ℕ → Option (List ℕ)) (name : List ℕ) (dump : Bool) (g : Graph) (s : Script) (q : Option Program) (a : Answer) (labels : List Label)
    (last : World) (end : RunEnd) → IsSome (held name) → IsScriptFile held name g.exports s → Runs g s labels last end → ByScript held name dump g q a
    → (rest : List ℕ) × (a.out ≡ trace_text (trace_of labels end) ++ rest)
front_by_script one_run held name dump g s q a labels last end told read runs h =
    let texts : h.text ≡ read.text = same_bytes (held name) h.text read.text told h.holds read.holds in
    let said : h.said ≡ Ok s = sym h.says ∙ (ap (λ (text : List ℕ). script g.exports text) texts ∙ read.read) in
    front_behind one_run g dump s q a labels last end runs (subst (λ (r : Result Script ScriptFault). BehindScript g dump q r a) said h.behind)

front_by_file : OneRun → (held : List ℕ → Option (List ℕ)) (file name : List ℕ) (dump : Bool) (g : Graph) (s : Script) (q : Option Program) (a : Answer) (labels : List Label)
    (last : World) (end : RunEnd) → AreTold held (Run file name dump) → IsFileLinked held file g → IsScriptFile held name g.exports s → Runs g s labels last end
    → ByFile held (Run file name dump) q a → (rest : List ℕ) × (a.out ≡ trace_text (trace_of labels end) ++ rest)
front_by_file one_run held file name dump g s q a labels last end told linked read runs h =
    let bytes : h.bytes ≡ linked.bytes = same_bytes (held file) h.bytes linked.bytes told.component h.holds linked.holds in
    let finds : Finds linked.bytes h.found = subst (λ (bytes : List ℕ). Finds bytes h.found) bytes h.finds in
    let found : h.found ≡ GoodFile linked.component g = one_found linked.bytes h.found (GoodFile linked.component g) finds (linked.read, linked.linked) in
    front_by_script one_run held name dump g s q a labels last end (told.script g linked) read runs
    (subst (λ (f : Found). Behind held (Run file name dump) f q a) found h.behind)

pub trace_is_front : OneRun → (held : List ℕ → Option (List ℕ)) (words : Option Request) (dump : Bool) (end : RunEnd) (text : List ℕ) (a : Answer) → IsAskedTold held words
    → Answered held words a → IsTrace held words dump end text → (rest : List ℕ) × (a.out ≡ text ++ rest)
trace_is_front one_run held words dump end text a told h t =
    let asks : AreTold held (Run t.file t.script dump) = subst (λ (w : Option Request). IsAskedTold held w) t.named told in
    let row : Answered held (Some (OfFile (Run t.file t.script dump))) a = subst (λ (w : Option Request). Answered held w a) t.named h in
    let front = front_by_file one_run held t.file t.script dump t.graph t.calls (program_in held (Some (Run t.file t.script dump)) a row) a t.labels t.last end asks t.linked t.read t.runs
    (by_file held (Run t.file t.script dump) a row) in
    (front.0, front.1 ∙ ap (λ (x : List ℕ). x ++ front.0) (sym t.same))

-- So what went out is a front of what the answer has.
pub sent_is_front : OneRun → (held : List ℕ → Option (List ℕ)) (words : Option Request) (line : List ℕ) (before now err_before err_now : Option (List ℕ)) → IsAskedTold held words
    → (a : Answer) → Answered held words a → (now ≡ before) ⊎ WentOut held words before now → TookFront err_before err_now line
    → WroteFrontOrLine a line before now err_before err_now
sent_is_front one_run held words line before now err_before err_now told a h sent err = record {
  out = elim sent [
    | inl none ↦ took_none before now a.out none
    | inr went ↦
        let rest = trace_is_front one_run held words went.dump went.end went.text a told h went.trace in
        took_longer before now went.text rest.0 a.out rest.1 went.front
  ];
  err = inr err;
}

-- Where a write of the trace failed, the answer of the run, if what it leaves is told of its last world or not asked for,
is_over : (end : RunEnd) → IsOver end ⊎ (IsOver end → ⊥)
is_over ends.Done = inl tt
is_over (ends.Trapped task why) = inl tt
is_over (ends.Deadlock tasks) = inl tt
is_over ends.Fuel = inr (λ x. x)

front_of_row : (held : List ℕ → Option (List ℕ)) (words : Option Request) (dump : Bool) (end : RunEnd) (text left : List ℕ) (before now err : Option (List ℕ))
    → (t : IsTrace held words dump end text) → TookFront before now text → Leaves t.graph t.calls t.labels t.last end dump left
    → (a : Answer) × Answered held words a × WroteFront a before now err err
front_of_row held words dump end text left before now err t front leaves =
    let a : Answer = run_answer t.labels end left in
    let row : Answered held (Some (OfFile (Run t.file t.script dump))) a = ran t.file t.script dump t.graph t.calls t.labels t.last end left t.linked t.read t.runs leaves in (
      a,
      subst (λ (w : Option Request). Answered held w a) (sym t.named) row,
      record { out = took_longer before now text left a.out (ap (λ (x : List ℕ). x ++ left) (sym t.same)) front; err = took_none err err [] refl },
    )

-- and else the trace alone.
stopped : (held : List ℕ → Option (List ℕ)) (words : Option Request) (dump : Bool) (end : RunEnd) (text : List ℕ) (before now err : Option (List ℕ))
    → IsTrace held words dump end text → TookFront before now text
    → ((a : Answer) × Answered held words a × WroteFront a before now err err) ⊎ WroteTrace held words before now err err
stopped held words false end text before now err t front = inl (front_of_row held words false end text [] before now err t front not_asked)
stopped held words true end text before now err t front =
    elim (is_over end) [
      | inl over ↦ inl (front_of_row held words true end text (dump_of t.last) before now err t front (of_world over))
      | inr beyond ↦ inr (record { end = end; text = text; trace = t; beyond = beyond; out = front; err = refl })
    ]

pub write_stopped : (held : List ℕ → Option (List ℕ)) (words : Option Request) (before now err : Option (List ℕ)) → WentOut held words before now
    → ((a : Answer) × Answered held words a × WroteFront a before now err err) ⊎ WroteTrace held words before now err err
write_stopped held words before now err w = stopped held words w.dump w.end w.text before now err w.trace w.front
