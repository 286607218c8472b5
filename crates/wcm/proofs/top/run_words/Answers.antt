use Rattle.std.proofs.Common.{◌≡◌, [], Option, Some, None, false, refl, sym, subst, map, string_bytes, inl}
use Rattle.faults.specs.Faults.{IfFault}
use Rattle.faults.specs.declared.memory.MemoryOr.{MemoryOr}
use Rattle.faults.specs.declared.memory.MemoryOr.TheVariants.{Fault}
use Rattle.command_words.specs.Words.{Request, asked, request_of, is_taken}
use Rattle.command_words.proofs.Plain.{plain_is}
use Rattle.wcm.specs.declared.answer.Stop.TheVariants as stop
use Rattle.wcm.specs.Answers.{usage_answer}
use Rattle.wcm.proofs.Taken.{grown_nil, took, took_none, wrote_left, wrote_front_left}
use Rattle.wcm.proofs.Requests.{asked_for, asked_none, asked_caused}
use Rattle.wcm.proofs.Coming.{came, went_for, sent_for}
use Rattle.wcm.proofs.Traced.{write_stopped, sent_is_front}
use Rattle.wcm.proofs.top.run_words.Goals as goal

-- what is said of a fault, where this is the error
of_fault : {F : Type 0} (P : Type 0) (e : MemoryOr F) (f : F) → e ≡ Fault f → IfFault e (λ f. P) → P
of_fault P e f is h = subst (λ x. IfFault x (λ f. P)) is h

some_or_none : (command : Request) (o : Option Request) → o ≡ Some command → o ≡ None → ⊥
some_or_none command o e f = cc

pub returns-in-Ok-write_answer-clause-written : goal.returns-in-Ok-write_answer-clause-written
returns-in-Ok-write_answer-clause-written g c = λ final.
    let held = g.F.Files.held c.args.files.now in
    let taken = g.K.Sink.taken in
    let comes = c.in-Ok-answer_to.ensures.comes in (
      comes.0,
      asked_for held (request_of (map string_bytes c.args.words.now)) _ comes.0 c.in-Ok.ensures.ok.0 comes.1,
      comes.2.status,
      wrote_left comes.0 c.in-Ok-answer_to.answer (taken c.args.out.now) (taken c.answer_to.new.out) (taken c.write_answer.new.out) (taken c.args.err.now) (taken c.write_answer.new.err) comes.2
          c.in-Ok-write_answer.ensures.ok,
    )

pub returns-in-Ok-write_answer-clause-headline : goal.returns-in-Ok-write_answer-clause-headline
returns-in-Ok-write_answer-clause-headline g c = λ files out err memory.
    let held = g.F.Files.held c.args.files.now in
    let taken = g.K.Sink.taken in
    let comes = c.in-Ok-answer_to.ensures.comes in (
      comes.0,
      asked_for held (request_of (map string_bytes c.args.words.now)) _ comes.0 c.in-Ok.ensures.ok.0 comes.1,
      comes.2.status,
      wrote_left comes.0 c.in-Ok-answer_to.answer (taken c.args.out.now) (taken c.answer_to.new.out) (taken c.write_answer.new.out) (taken c.args.err.now) (taken c.write_answer.new.err) comes.2
          c.in-Ok-write_answer.ensures.ok,
    )

pub returns-in-Ok-write_answer-clause-status : goal.returns-in-Ok-write_answer-clause-status
returns-in-Ok-write_answer-clause-status g c = λ final.
    let held = g.F.Files.held c.args.files.now in
    let comes = c.in-Ok-answer_to.ensures.comes in
    asked_caused c.one_run.ensures.one held (request_of (map string_bytes c.args.words.now)) comes.0 _
    (asked_for held (request_of (map string_bytes c.args.words.now)) _ comes.0 c.in-Ok.ensures.ok.0 comes.1) comes.2.status

pub returns-in-Ok-answer_to-clause-write_fault_front : goal.returns-in-Ok-answer_to-clause-write_fault_front
returns-in-Ok-answer_to-clause-write_fault_front g c = λ fault.
    let held = g.F.Files.held c.args.files.now in
    let taken = g.K.Sink.taken in
    let comes = c.in-Ok-answer_to.ensures.comes in
    inl (inl (
      comes.0,
      asked_for held (request_of (map string_bytes c.args.words.now)) _ comes.0 c.in-Ok.ensures.ok.0 comes.1,
      wrote_front_left comes.0 c.in-Ok-answer_to.answer (taken c.args.out.now) (taken c.answer_to.new.out) (taken c.write_answer.new.out) (taken c.args.err.now) (taken c.write_answer.new.err) comes.2
          c.in-Err.ensures.failed,
    ))

pub returns-in-Err-Write-clause-write_fault_front : goal.returns-in-Err-Write-clause-write_fault_front
returns-in-Err-Write-clause-write_fault_front g c = λ fault.
    let held = g.F.Files.held c.args.files.now in
    let taken = g.K.Sink.taken in
    inl (write_stopped held (request_of (map string_bytes c.args.words.now)) (taken c.args.out.now) (taken c.answer_to.new.out) (taken c.args.err.now)
    (went_for held (request_of (map string_bytes c.args.words.now)) (asked c.in-Ok.request) (taken c.args.out.now) (taken c.answer_to.new.out) c.in-Ok.ensures.ok.0
    (came held (Some (asked c.in-Ok.request)) (taken c.args.out.now) (taken c.answer_to.new.out) c.in-Err-Write.field-0 stop.Write c.in-Err-Write.field-0-is c.in-Err-Write.ensures.comes)))

pub returns-in-Ok-clause-memory : goal.returns-in-Ok-clause-memory
returns-in-Ok-clause-memory g c = λ told a answered memory.
    let held = g.F.Files.held c.args.files.now in
    let taken = g.K.Sink.taken in
    sent_is_front c.one_run.ensures.one held (request_of (map string_bytes c.args.words.now)) _ (taken c.args.out.now) (taken c.answer_to.new.out) (taken c.args.err.now)
    (taken c.write_all-in-Err-Memory-answer_to.new.sink) told a answered
    (sent_for held (request_of (map string_bytes c.args.words.now)) (asked c.in-Ok.request) (taken c.args.out.now) (taken c.answer_to.new.out) c.in-Ok.ensures.ok.0
    (came held (Some (asked c.in-Ok.request)) (taken c.args.out.now) (taken c.answer_to.new.out) c.in-Err-Memory-answer_to.field-0 stop.Memory c.in-Err-Memory-answer_to.field-0-is
    c.in-Err-Memory-answer_to.ensures.comes))
    (took c.write_all-in-Err-Memory-answer_to.result (taken c.args.err.now) (taken c.write_all-in-Err-Memory-answer_to.new.sink) _ c.write_all-in-Err-Memory-answer_to.ensures.ok
    c.write_all-in-Err-Memory-answer_to.ensures.failed)

pub returns-in-Ok-answer_to-clause-plain : goal.returns-in-Ok-answer_to-clause-plain
returns-in-Ok-answer_to-clause-plain g c = λ command h. (plain_is (map string_bytes c.args.words.now) command h, λ usage. cc)

pub returns-in-Err-Fault-answer_to-clause-plain : goal.returns-in-Err-Fault-answer_to-clause-plain
returns-in-Err-Fault-answer_to-clause-plain g c = λ command h. (plain_is (map string_bytes c.args.words.now) command h, λ usage. cc)

pub returns-in-Ok-write_all-2-clause-headline : goal.returns-in-Ok-write_all-2-clause-headline
returns-in-Ok-write_all-2-clause-headline g c = λ files out err memory. (usage_answer c.as_slice.result.now, asked_none (g.F.Files.held c.args.files.now) (request_of (map string_bytes c.args.words.now)) c.as_slice.result.now (of_fault ((request_of (map string_bytes c.args.words.now) ≡ None) × (is_taken (map string_bytes c.args.words.now) ≡ false)) c.in-Err-Fault.field-0 _ c.in-Err-Fault.field-0-is c.in-Err-Fault.ensures.refused).0, refl, record { out = sym (grown_nil _); err = c.in-Ok-write_all-2.ensures.ok })

pub returns-in-Ok-write_all-2-clause-written : goal.returns-in-Ok-write_all-2-clause-written
returns-in-Ok-write_all-2-clause-written g c = λ final. (usage_answer c.as_slice.result.now, asked_none (g.F.Files.held c.args.files.now) (request_of (map string_bytes c.args.words.now)) c.as_slice.result.now (of_fault ((request_of (map string_bytes c.args.words.now) ≡ None) × (is_taken (map string_bytes c.args.words.now) ≡ false)) c.in-Err-Fault.field-0 _ c.in-Err-Fault.field-0-is c.in-Err-Fault.ensures.refused).0, refl, record { out = sym (grown_nil _); err = c.in-Ok-write_all-2.ensures.ok })

pub returns-in-Ok-write_all-2-clause-status : goal.returns-in-Ok-write_all-2-clause-status
returns-in-Ok-write_all-2-clause-status g c = λ final. asked_caused c.one_run.ensures.one (g.F.Files.held c.args.files.now) (request_of (map string_bytes c.args.words.now)) (usage_answer c.as_slice.result.now) _ (asked_none (g.F.Files.held c.args.files.now) (request_of (map string_bytes c.args.words.now)) c.as_slice.result.now (of_fault ((request_of (map string_bytes c.args.words.now) ≡ None) × (is_taken (map string_bytes c.args.words.now) ≡ false)) c.in-Err-Fault.field-0 _ c.in-Err-Fault.field-0-is c.in-Err-Fault.ensures.refused).0) refl

pub returns-in-Ok-write_all-2-clause-plain : goal.returns-in-Ok-write_all-2-clause-plain
returns-in-Ok-write_all-2-clause-plain g c = λ command h. let named = plain_is (map string_bytes c.args.words.now) command h in (named, λ usage. some_or_none command (request_of (map string_bytes c.args.words.now)) named (of_fault ((request_of (map string_bytes c.args.words.now) ≡ None) × (is_taken (map string_bytes c.args.words.now) ≡ false)) c.in-Err-Fault.field-0 _ c.in-Err-Fault.field-0-is c.in-Err-Fault.ensures.refused).0)

pub returns-in-Err-Fault-clause-write_fault_front : goal.returns-in-Err-Fault-clause-write_fault_front
returns-in-Err-Fault-clause-write_fault_front g c = λ fault. inl (inl (usage_answer c.as_slice.result.now, asked_none (g.F.Files.held c.args.files.now) (request_of (map string_bytes c.args.words.now)) c.as_slice.result.now (of_fault ((request_of (map string_bytes c.args.words.now) ≡ None) × (is_taken (map string_bytes c.args.words.now) ≡ false)) c.in-Err-Fault.field-0 _ c.in-Err-Fault.field-0-is c.in-Err-Fault.ensures.refused).0, record { out = took_none _ _ [] refl; err = took c.write_all-in-Err-Fault.result (g.K.Sink.taken c.args.err.now) (g.K.Sink.taken c.write_all-in-Err-Fault.new.sink) c.as_slice.result.now c.write_all-in-Err-Fault.ensures.ok c.write_all-in-Err-Fault.ensures.failed }))

pub returns-clause-plain : goal.returns-clause-plain
returns-clause-plain g c = λ command h. (plain_is (map string_bytes c.args.words.now) command h, λ usage. cc)
