-- The status of an answer has its cause, each cause has an answer, and where the files are told no other status has one.
use Rattle.std.proofs.Common.{◌≡◌, ◌⊎◌, inl, inr, ℕ, Bool, true, false, List, [], refl, ap, sym, ◌∙◌, subst, Option, Some, None}
use Rattle.std.specs.Option.{IsSome, option_map}
use Rattle.ca_base.specs.declared.refusal.Refusal.{Refusal}
use Rattle.part_reader.specs.declared.fault.ComponentWhy.{ComponentWhy}
use Rattle.link_spec.specs.declared.fault.LinkFault.{LinkFault}
use Rattle.comp_graph.specs.Graph.{Graph}
use Rattle.abi_machine.specs.declared.run_end.RunEnd.{RunEnd}
use Rattle.abi_machine.specs.declared.run_end.RunEnd.TheVariants as ends
use Rattle.command_words.specs.Words.{Command, Run, Check, Show, component_file}
use Rattle.wcm.specs.declared.answer.Answer.{Answer}
use Rattle.wcm.specs.declared.status.Status.{Status}
use Rattle.wcm.specs.declared.status.Status.TheVariants.{Done, Trap, Usage, Refused, ScriptRefused, Deadlock, Fuel, ReadFault, WriteFault, Memory, LinkRefused}
use Rattle.wcm.specs.Status.{status_of}
use Rattle.wcm.specs.Files.{IsFileRefused, IsFileNotLinked, IsFileLinked, IsTold}
use Rattle.wcm.specs.Causes.{asks_of_graph, HasRun, HasCause, IsCaused}
use Rattle.wcm.specs.Answers.{Answers, no_command, file_refused, not_linked, accepted, shown, script_refused, ran, usage_answer, refused_answer, link_refused_answer, script_refused_answer, accepted_answer, shown_answer, run_answer}
use Rattle.wcm.specs.Laws.{IsToldOfWorlds, LeavesWorlds, StatusesHaveCauses, CausesHaveAnswers, RefusedFilesTellAll}
use Rattle.wcm.proofs.Held.{same_bytes}
use Rattle.wcm.proofs.Found.{Found, BadFile, BadLinks, GoodFile, Finds, one_found}
use Rattle.abi_machine.specs.sound.Unique.{OneRun}
use Rattle.wcm.proofs.Rows.{one_status}
use Rattle.wcm.proofs.Existing.{left_so}

run_cause : (held : List ℕ → Option (List ℕ)) (words : Option Command) (end : RunEnd) → HasRun held words end → HasCause held words (status_of end)
run_cause held words ends.Done r = inr r
run_cause held words (ends.Trapped task why) r = (task, why, r)
run_cause held words (ends.Deadlock tasks) r = (tasks, r)
run_cause held words ends.Fuel r = r

pub statuses_have_causes : StatusesHaveCauses
statuses_have_causes held words a (no_command text) = refl
statuses_have_causes held words a (file_refused command refusal f) = (command, refusal, refl, f)
statuses_have_causes held words a (not_linked command fault f) = record { command = command; fault = fault; named = refl; refused = f }
statuses_have_causes held words a (accepted file g f) = inl (record { command = Check file; graph = g; named = refl; asks = refl; linked = f })
statuses_have_causes held words a (shown file g f) = inl (record { command = Show file; graph = g; named = refl; asks = refl; linked = f })
statuses_have_causes held words a (script_refused file name dump g fault f s) =
    record { file = file; script = name; dump = dump; graph = g; fault = fault; named = refl; linked = f; refused = s }
statuses_have_causes held words a (ran file name dump g calls labels last end left f s runs leaves) =
    run_cause held (Some (Run file name dump)) end
    (record {
      file = file;
      script = name;
      dump = dump;
      graph = g;
      calls = calls;
      labels = labels;
      last = last;
      named = refl;
      linked = f;
      read = s;
      runs = runs;
    })

-- an answer for the command that words lead to is one for the words, and so is the text where they lead to none
pub for_words : (held : List ℕ → Option (List ℕ)) (words : Option Command) (command : Command) (a : Answer) → words ≡ Some command → Answers held (Some command) a → Answers held words a
for_words held words command a e h = subst (λ (o : Option Command). Answers held o a) (sym e) h

pub for_none : (held : List ℕ → Option (List ℕ)) (words : Option Command) (text : List ℕ) → words ≡ None → Answers held words (usage_answer text)
for_none held words text e = subst (λ (o : Option Command). Answers held o (usage_answer text)) (sym e) (no_command text)

-- what is told behind a trace for the command of a run
worlds_told : (held : List ℕ → Option (List ℕ)) (words : Option Command) (file name : List ℕ) (dump : Bool) → words ≡ Some (Run file name dump) → LeavesWorlds held words
    → IsToldOfWorlds held (Run file name dump)
worlds_told held words file name dump e h = subst (λ (o : Option Command). LeavesWorlds held o) e h

run_answers : (held : List ℕ → Option (List ℕ)) (words : Option Command) (end : RunEnd) → LeavesWorlds held words → HasRun held words end
    → (a : Answer) × Answers held words a × (a.status ≡ status_of end)
run_answers held words end worlds r =
    let told = worlds_told held words r.file r.script r.dump r.named worlds in
    let left = left_so r.graph r.calls r.labels r.last end r.dump (told r.graph r.calls r.labels r.last end r.linked r.read r.runs) in
    let a : Answer = run_answer r.labels end left.0 in
    (a, for_words held words (Run r.file r.script r.dump) a r.named (ran r.file r.script r.dump r.graph r.calls r.labels r.last end left.0 r.linked r.read r.runs left.1), refl)

graph_answers : (held : List ℕ → Option (List ℕ)) (words : Option Command) (command : Command) (g : Graph) → words ≡ Some command → asks_of_graph command ≡ true → IsFileLinked held (component_file command) g → (a : Answer) × Answers held words a × (a.status ≡ Done)
graph_answers held words (Run file name dump) g e asks f = cc
graph_answers held words (Check file) g e asks f = (accepted_answer, for_words held words (Check file) accepted_answer e (accepted file g f), refl)
graph_answers held words (Show file) g e asks f = (shown_answer g, for_words held words (Show file) (shown_answer g) e (shown file g f), refl)

pub causes_have_answers : CausesHaveAnswers
causes_have_answers held words Done worlds c =
    elim c [
      | inl m ↦ graph_answers held words m.command m.graph m.named m.asks m.linked
      | inr r ↦ run_answers held words ends.Done worlds r
    ]
causes_have_answers held words Trap worlds c = run_answers held words (ends.Trapped c.0 c.1) worlds c.2
causes_have_answers held words Usage worlds e = (usage_answer [], for_none held words [] e, refl)
causes_have_answers held words Refused worlds c =
    (refused_answer c.1, for_words held words c.0 (refused_answer c.1) c.2 (file_refused c.0 c.1 c.3), refl)
causes_have_answers held words ScriptRefused worlds n =
    (script_refused_answer n.fault, for_words held words (Run n.file n.script n.dump) (script_refused_answer n.fault) n.named (script_refused n.file n.script n.dump n.graph n.fault n.linked n.refused), refl)
causes_have_answers held words Deadlock worlds c = run_answers held words (ends.Deadlock c.0) worlds c.1
causes_have_answers held words Fuel worlds c = run_answers held words ends.Fuel worlds c
causes_have_answers held words ReadFault worlds c = absurd c
causes_have_answers held words WriteFault worlds c = absurd c
causes_have_answers held words Memory worlds c = absurd c
causes_have_answers held words LinkRefused worlds n =
    (link_refused_answer n.fault, for_words held words n.command (link_refused_answer n.fault) n.named (not_linked n.command n.fault n.refused), refl)

-- The same command without a dump: it has the same causes, and what it runs leaves nothing to be told.
abbrev without_dump : Command → Command
without_dump (Run file script dump) = Run file script false
without_dump (Check file) = Check file
without_dump (Show file) = Show file

abbrev words_without : Option Command → Option Command
words_without words = option_map without_dump words

same_file : (c : Command) → component_file (without_dump c) ≡ component_file c
same_file (Run file script dump) = refl
same_file (Check file) = refl
same_file (Show file) = refl

same_asks : (c : Command) → asks_of_graph (without_dump c) ≡ asks_of_graph c
same_asks (Run file script dump) = refl
same_asks (Check file) = refl
same_asks (Show file) = refl

named_too : (words : Option Command) (c : Command) → words ≡ Some c → words_without words ≡ Some (without_dump c)
named_too words c e = ap words_without e

-- so it is of the file that it names
of_file : (c : Command) (P : List ℕ → Type 0) → P (component_file c) → P (component_file (without_dump c))
of_file c P h = subst P (sym (same_file c)) h

run_without : (held : List ℕ → Option (List ℕ)) (words : Option Command) (end : RunEnd) → HasRun held words end → HasRun held (words_without words) end
run_without held words end r =
    record {
      file = r.file;
      script = r.script;
      dump = false;
      graph = r.graph;
      calls = r.calls;
      labels = r.labels;
      last = r.last;
      named = named_too words (Run r.file r.script r.dump) r.named;
      linked = r.linked;
      read = r.read;
      runs = r.runs;
    }

cause_without : (held : List ℕ → Option (List ℕ)) (words : Option Command) (status : Status) → HasCause held words status → HasCause held (words_without words) status
cause_without held words Done c =
    elim c [
      | inl m ↦
          inl (record {
            command = without_dump m.command;
            graph = m.graph;
            named = named_too words m.command m.named;
            asks = same_asks m.command ∙ m.asks;
            linked = of_file m.command (λ file. IsFileLinked held file m.graph) m.linked;
          })
      | inr r ↦ inr (run_without held words ends.Done r)
    ]
cause_without held words Trap c = (c.0, c.1, run_without held words (ends.Trapped c.0 c.1) c.2)
cause_without held words Usage e = ap words_without e
cause_without held words Refused c = (without_dump c.0, c.1, named_too words c.0 c.2, of_file c.0 (λ file. IsFileRefused held file c.1) c.3)
cause_without held words ScriptRefused n =
    record {
      file = n.file;
      script = n.script;
      dump = false;
      graph = n.graph;
      fault = n.fault;
      named = named_too words (Run n.file n.script n.dump) n.named;
      linked = n.linked;
      refused = n.refused;
    }
cause_without held words Deadlock c = (c.0, run_without held words (ends.Deadlock c.0) c.1)
cause_without held words Fuel c = run_without held words ends.Fuel c
cause_without held words ReadFault c = absurd c
cause_without held words WriteFault c = absurd c
cause_without held words Memory c = absurd c
cause_without held words LinkRefused n =
    record {
      command = without_dump n.command;
      fault = n.fault;
      named = named_too words n.command n.named;
      refused = of_file n.command (λ file. IsFileNotLinked held file n.fault) n.refused;
    }

told_without : (held : List ℕ → Option (List ℕ)) (words : Option Command) → IsTold held words → IsTold held (words_without words)
told_without held None told = tt
told_without held (Some (Run file script dump)) told = record { component = told.component; script = λ g linked. told.script g linked }
told_without held (Some (Check file)) told = told
told_without held (Some (Show file)) told = told

worlds_without : (held : List ℕ → Option (List ℕ)) (words : Option Command) → LeavesWorlds held (words_without words)
worlds_without held None = tt
worlds_without held (Some (Run file script dump)) = λ g calls labels last end linked read runs. inl refl
worlds_without held (Some (Check file)) = tt
worlds_without held (Some (Show file)) = tt

-- Where the files are told, one status has a cause.
one_cause : OneRun → (held : List ℕ → Option (List ℕ)) (words : Option Command) (status other : Status) → IsTold held words → HasCause held words status
    → HasCause held words other → other ≡ status
one_cause one_run held words status other told c d =
    let plain = words_without words in
    let worlds = worlds_without held words in
    let a = causes_have_answers held plain status worlds (cause_without held words status c) in
    let b = causes_have_answers held plain other worlds (cause_without held words other d) in
    sym b.2 ∙ (one_status one_run held plain a.0 b.0 (told_without held words told) a.1 b.1 ∙ a.2)

-- the status of an answer is the one that is come to
pub caused : OneRun → (held : List ℕ → Option (List ℕ)) (words : Option Command) (a : Answer) (status : Status) → Answers held words a → status ≡ a.status → IsCaused held words status
caused one_run held words a status h e =
    let cause : HasCause held words status = subst (λ (s : Status). HasCause held words s) (sym e) (statuses_have_causes held words a h) in
    record { cause = cause; only = λ told other c. one_cause one_run held words status other told cause c }

-- A component file that is told is not linked where it is refused,
refused_or_linked : (held : List ℕ → Option (List ℕ)) (name : List ℕ) (refusal : Refusal ComponentWhy) (g : Graph) → IsSome (held name) → IsFileRefused held name refusal → IsFileLinked held name g → ⊥
refused_or_linked held name refusal g told f l =
    let bytes : l.bytes ≡ f.bytes = same_bytes (held name) l.bytes f.bytes told l.holds f.holds in
    let good : Finds f.bytes (GoodFile l.component g) = subst (λ (bytes : List ℕ). Finds bytes (GoodFile l.component g)) bytes (l.read, l.linked) in
    let one : ◌≡◌ {A = Found} (BadFile refusal) (GoodFile l.component g) = one_found f.bytes (BadFile refusal) (GoodFile l.component g) f.refused good in
    cc

not_linked_or_linked : (held : List ℕ → Option (List ℕ)) (name : List ℕ) (fault : LinkFault) (g : Graph) → IsSome (held name) → IsFileNotLinked held name fault → IsFileLinked held name g → ⊥
not_linked_or_linked held name fault g told f l =
    let bytes : l.bytes ≡ f.bytes = same_bytes (held name) l.bytes f.bytes told l.holds f.holds in
    let good : Finds f.bytes (GoodFile l.component g) = subst (λ (bytes : List ℕ). Finds bytes (GoodFile l.component g)) bytes (l.read, l.linked) in
    let one : ◌≡◌ {A = Found} (BadLinks fault) (GoodFile l.component g) = one_found f.bytes (BadLinks fault) (GoodFile l.component g) (f.component, f.read, f.refused) good in
    cc

same_command : (c d : Command) → ◌≡◌ {A = Option Command} (Some c) (Some d) → d ≡ c
same_command c d e = cc

-- So there is no graph.
linked_too : (held : List ℕ → Option (List ℕ)) (command : Command) (g : Graph) → IsSome (held (component_file command)) → IsFileLinked held (component_file command) g
    → HasCause held (Some command) Refused ⊎ HasCause held (Some command) LinkRefused → ⊥
linked_too held command g told linked causes =
    elim causes [
      | inl r ↦
          refused_or_linked held (component_file command) r.1 g told
          (subst (λ (c : Command). IsFileRefused held (component_file c) r.1) (same_command command r.0 r.2) r.3) linked
      | inr n ↦
          not_linked_or_linked held (component_file command) n.fault g told
          (subst (λ (c : Command). IsFileNotLinked held (component_file c) n.fault) (same_command command n.command n.named) n.refused) linked
    ]

pub refused_files_tell_all : RefusedFilesTellAll
refused_files_tell_all held None told causes = tt
refused_files_tell_all held (Some command) told causes = record { component = told; script = λ g linked. absurd (linked_too held command g told linked causes) }
