-- Where the files are told that a command asks for, it has one answer: of dumps for want of fuel, for each program.
use Rattle.std.proofs.Common.{◌≡◌, ◌⊎◌, inl, inr, ℕ, Bool, true, false, List, [], refl, ap, sym, ◌∙◌, subst, Option, Some, None, Result, Ok, Err}
use Rattle.std.specs.Option.{IfSome, IsSome}
use Rattle.comp_tree.specs.declared.items.Component.{Component}
use Rattle.script_reader.specs.declared.fault.ScriptFault.{ScriptFault}
use Rattle.script_reader.specs.Script.{Script, script}
use Rattle.comp_graph.specs.Graph.{Graph}
use Rattle.trace_labels.specs.declared.label.Label.{Label}
use Rattle.abi_machine.specs.declared.run_end.RunEnd.{RunEnd}
use Rattle.abi_machine.specs.World.{World}
use Rattle.abi_machine.specs.Run.{Runs, trace_of}
use Rattle.abi_machine.specs.Dump.{dump_of}
use Rattle.abi_machine.specs.sound.Unique.{OneRun}
use Rattle.programs.specs.declared.program.Program.{Program}
use Rattle.world_parts.specs.Held.{Held}
use Rattle.world_dumps.specs.Tables as kept
use Rattle.value_moves.specs.Passing.{Passes}
use Rattle.machine_runs.specs.Worlds.{first_point, IsRun}
use Rattle.run_laws.specs.Whole.{end_of}
use Rattle.one_run_laws.specs.Once.{RunsAreOne}
use Rattle.command_words.specs.Words.{Command, Run, Check, Show, component_file}
use Rattle.wcm.specs.declared.answer.Answer.{Answer}
use Rattle.wcm.specs.declared.status.Status.{Status}
use Rattle.wcm.specs.declared.status.Status.TheVariants.{Usage}
use Rattle.wcm.specs.Status.{status_of}
use Rattle.wcm.specs.Files.{MayHold, IsFileLinked, IsScriptFile, IsScriptTold, AreTold, IsTold}
use Rattle.wcm.specs.Leaving.{IsOver, EndsWith, Leaves, not_asked, of_world, of_kept}
use Rattle.wcm.specs.Answers.{Answers, no_command, file_refused, not_linked, accepted, shown, script_refused, ran, refused_answer, link_refused_answer, script_refused_answer, accepted_answer, shown_answer, run_answer}
use Rattle.wcm.specs.Laws.{program_left, program_in, IsOneProgram, IsSameAnswer, OneAnswer}
use Rattle.wcm.proofs.Held.{same_bytes}
use Rattle.wcm.proofs.Found.{Found, BadFile, BadLinks, GoodFile, Finds, one_found}

-- What is answered for what a script file comes to: by one run's lines, last world and end, and the program of what stands behind the trace, if it is told of one.
pub record RunsAt (g : Graph) (dump : Bool) (s : Script) (program : Option Program) (a : Answer) (labels : List Label) (last : World) (end : RunEnd) : Type 0 where
  pub left : List ℕ
  pub leaves : Leaves g s labels last end dump left
  pub is_program : program ≡ program_left g s labels last end dump left leaves
  pub answer : a ≡ run_answer labels end left

pub record RunsSo (g : Graph) (dump : Bool) (s : Script) (program : Option Program) (a : Answer) : Type 0 where
  pub labels : List Label
  pub last : World
  pub end : RunEnd
  pub runs : Runs g s labels last end
  pub at : RunsAt g dump s program a labels last end

abbrev pub BehindScript : Graph → Bool → Option Program → Result Script ScriptFault → Answer → Type 0
BehindScript g dump program (Ok s) a = RunsSo g dump s program a
BehindScript g dump program (Err fault) a = a ≡ script_refused_answer fault

pub record ByScript (held : List ℕ → Option (List ℕ)) (name : List ℕ) (dump : Bool) (g : Graph) (program : Option Program) (a : Answer) : Type 0 where
  pub text : List ℕ
  pub holds : MayHold held name text
  pub said : Result Script ScriptFault
  pub says : script g.exports text ≡ said
  pub behind : BehindScript g dump program said a

-- what is answered behind a graph, and for what a component file comes to
abbrev pub BehindGraph : (List ℕ → Option (List ℕ)) → Command → Component → Graph → Option Program → Answer → Type 0
BehindGraph held (Run file name dump) c g program a = ByScript held name dump g program a
BehindGraph held (Check file) c g program a = a ≡ accepted_answer
BehindGraph held (Show file) c g program a = a ≡ shown_answer g

abbrev pub Behind : (List ℕ → Option (List ℕ)) → Command → Found → Option Program → Answer → Type 0
Behind held command (BadFile refusal) program a = a ≡ refused_answer refusal
Behind held command (BadLinks fault) program a = a ≡ link_refused_answer fault
Behind held command (GoodFile c g) program a = BehindGraph held command c g program a

pub record ByFile (held : List ℕ → Option (List ℕ)) (command : Command) (program : Option Program) (a : Answer) : Type 0 where
  pub bytes : List ℕ
  pub holds : MayHold held (component_file command) bytes
  pub found : Found
  pub finds : Finds bytes found
  pub behind : Behind held command found program a

pub by_file : (held : List ℕ → Option (List ℕ)) (command : Command) (a : Answer) (h : Answers held (Some command) a) → ByFile held command (program_in held (Some command) a h) a
by_file held command a (file_refused c refusal f) =
    record { bytes = f.bytes; holds = f.holds; found = BadFile refusal; finds = f.refused; behind = refl }
by_file held command a (not_linked c fault f) =
    record { bytes = f.bytes; holds = f.holds; found = BadLinks fault; finds = (f.component, f.read, f.refused); behind = refl }
by_file held command a (accepted file g f) =
    record { bytes = f.bytes; holds = f.holds; found = GoodFile f.component g; finds = (f.read, f.linked); behind = refl }
by_file held command a (shown file g f) =
    record { bytes = f.bytes; holds = f.holds; found = GoodFile f.component g; finds = (f.read, f.linked); behind = refl }
by_file held command a (script_refused file name dump g fault f s) =
    record {
      bytes = f.bytes;
      holds = f.holds;
      found = GoodFile f.component g;
      finds = (f.read, f.linked);
      behind = record { text = s.text; holds = s.holds; said = Err fault; says = s.refused; behind = refl };
    }
by_file held command a (ran file name dump g calls labels last end left f s comes leaves) =
    record {
      bytes = f.bytes;
      holds = f.holds;
      found = GoodFile f.component g;
      finds = (f.read, f.linked);
      behind = record {
        text = s.text;
        holds = s.holds;
        said = Ok calls;
        says = s.read;
        behind = record { labels = labels; last = last; end = end; runs = comes; at = record { left = left; leaves = leaves; is_program = refl; answer = refl } };
      };
    }

-- What stands behind one run is one text, where it is told of one program if of any.
module _ (once : RunsAreOne) (g : Graph) (s : Script) (labels : List Label) (last : World) (end : RunEnd) where
  one_kept : (p q : Program) (h k : Held) → p ≡ q → EndsWith g s (trace_of labels end) end p h → EndsWith g s (trace_of labels end) end q k → kept.dump_of k ≡ kept.dump_of h
  one_kept p q h k same x y =
      let goes : IsRun Passes p (first_point g s) (end_of end) (trace_of labels end) k = subst (λ (r : Program). IsRun Passes r (first_point g s) (end_of end) (trace_of labels end) k) (sym same) y.goes in
      let one = once p (first_point g s) (end_of end) (end_of end) (trace_of labels end) (trace_of labels end) h k x.is_of.distinct x.goes goes in
      ap (λ (held : Held). kept.dump_of held) (sym one.2)

  one_left : (dump : Bool) (left more : List ℕ) (x : Leaves g s labels last end dump left) (y : Leaves g s labels last end dump more)
      → IsOneProgram (program_left g s labels last end dump left x) (program_left g s labels last end dump more y) → more ≡ left
  one_left dump left more not_asked not_asked same = refl
  one_left dump left more (of_world over) (of_world again) same = refl
  one_left dump left more (of_world over) (of_kept q k beyond goes) same = absurd (beyond over)
  one_left dump left more (of_kept p h beyond goes) (of_world over) same = absurd (beyond over)
  one_left dump left more (of_kept p h beyond goes) (of_kept q k other comes) same = one_kept p q h k same goes comes

  one_at : (dump : Bool) (p q : Option Program) (a b : Answer) → IsOneProgram p q → RunsAt g dump s p a labels last end → RunsAt g dump s q b labels last end → b ≡ a
  one_at dump p q a b same x y =
      let both : IsOneProgram p (program_left g s labels last end dump y.left y.leaves) = subst (λ (o : Option Program). IsOneProgram p o) y.is_program same in
      let told : IsOneProgram (program_left g s labels last end dump x.left x.leaves) (program_left g s labels last end dump y.left y.leaves) =
      subst (λ (o : Option Program). IsOneProgram o (program_left g s labels last end dump y.left y.leaves)) x.is_program both in
      y.answer ∙ (ap (λ (text : List ℕ). run_answer labels end text) (one_left dump x.left y.left x.leaves y.leaves told) ∙ sym x.answer)

-- Two answers are alike, where those of runs are, by what is known of their programs, and where each is like itself.
module _ (Same : Option Program → Option Program → Type 0) (Alike : Answer → Answer → Type 0) (same : (a b : Answer) → b ≡ a → Alike a b)
    (runs_alike : (g : Graph) (dump : Bool) (s : Script) (p q : Option Program) (a b : Answer) → Same p q → RunsSo g dump s p a → RunsSo g dump s q b → Alike a b) where
  alike_behind_script : (g : Graph) (dump : Bool) (p q : Option Program) (said : Result Script ScriptFault) (a b : Answer) → Same p q
      → BehindScript g dump p said a → BehindScript g dump q said b → Alike a b
  alike_behind_script g dump p q (Ok s) a b known h k = runs_alike g dump s p q a b known h k
  alike_behind_script g dump p q (Err fault) a b known h k = same a b (k ∙ sym h)

  alike_by_script : (held : List ℕ → Option (List ℕ)) (name : List ℕ) (dump : Bool) (g : Graph) (p q : Option Program) (a b : Answer) → Same p q → IsSome (held name)
      → ByScript held name dump g p a → ByScript held name dump g q b → Alike a b
  alike_by_script held name dump g p q a b known told h k =
      let texts : k.text ≡ h.text = same_bytes (held name) k.text h.text told k.holds h.holds in
      let said : k.said ≡ h.said = sym k.says ∙ (ap (λ (text : List ℕ). script g.exports text) texts ∙ h.says) in
      alike_behind_script g dump p q h.said a b known h.behind (subst (λ (r : Result Script ScriptFault). BehindScript g dump q r b) said k.behind)

  alike_behind_graph : (held : List ℕ → Option (List ℕ)) (command : Command) (c : Component) (g : Graph) (p q : Option Program) (a b : Answer) → Same p q
      → IsScriptTold held command → BehindGraph held command c g p a → BehindGraph held command c g q b → Alike a b
  alike_behind_graph held (Run file name dump) c g p q a b known told h k = alike_by_script held name dump g p q a b known told h k
  alike_behind_graph held (Check file) c g p q a b known told h k = same a b (k ∙ sym h)
  alike_behind_graph held (Show file) c g p q a b known told h k = same a b (k ∙ sym h)

  alike_behind : (held : List ℕ → Option (List ℕ)) (command : Command) (bytes : List ℕ) (found : Found) (p q : Option Program) (a b : Answer) → Same p q → AreTold held command
      → MayHold held (component_file command) bytes → Finds bytes found → Behind held command found p a → Behind held command found q b → Alike a b
  alike_behind held command bytes (BadFile refusal) p q a b known told holds finds h k = same a b (k ∙ sym h)
  alike_behind held command bytes (BadLinks fault) p q a b known told holds finds h k = same a b (k ∙ sym h)
  alike_behind held command bytes (GoodFile c g) p q a b known told holds finds h k =
      let linked : IsFileLinked held (component_file command) g = record { bytes = bytes; component = c; holds = holds; read = finds.0; linked = finds.1 } in
      alike_behind_graph held command c g p q a b known (told.script g linked) h k

  alike_by_file : (held : List ℕ → Option (List ℕ)) (command : Command) (p q : Option Program) (a b : Answer) → Same p q → AreTold held command → ByFile held command p a
      → ByFile held command q b → Alike a b
  alike_by_file held command p q a b known told h k =
      let bytes : k.bytes ≡ h.bytes = same_bytes (held (component_file command)) k.bytes h.bytes told.component k.holds h.holds in
      let finds : Finds h.bytes k.found = subst (λ (bytes : List ℕ). Finds bytes k.found) bytes k.finds in
      let found : k.found ≡ h.found = one_found h.bytes k.found h.found finds h.finds in
      alike_behind held command h.bytes h.found p q a b known told h.holds h.finds h.behind (subst (λ (f : Found). Behind held command f q b) found k.behind)

-- They are the same, where what stands behind the trace is told of one program if of any,
one_run_so : OneRun → RunsAreOne → (g : Graph) (dump : Bool) (s : Script) (p q : Option Program) (a b : Answer) → IsOneProgram p q → RunsSo g dump s p a → RunsSo g dump s q b → b ≡ a
one_run_so one_run once g dump s p q a b same x y =
    let one = one_run g s y.labels x.labels y.last x.last y.end x.end y.runs x.runs in
    let at : RunsAt g dump s q b x.labels x.last x.end =
    subst (λ (labels : List Label). RunsAt g dump s q b labels x.last x.end) one.0
    (subst (λ (last : World). RunsAt g dump s q b y.labels last x.end) one.1 (subst (λ (end : RunEnd). RunsAt g dump s q b y.labels y.last end) one.2 y.at)) in
    one_at once g s x.labels x.last x.end dump p q a b same x.at at

-- and have one status whatever is told behind it.
abbrev HaveOneStatus : Answer → Answer → Type 0
HaveOneStatus a b = b.status ≡ a.status

abbrev Whatever : Option Program → Option Program → Type 0
Whatever p q = Unit {0}

status_so : OneRun → (g : Graph) (dump : Bool) (s : Script) (p q : Option Program) (a b : Answer) → Whatever p q → RunsSo g dump s p a → RunsSo g dump s q b → HaveOneStatus a b
status_so one_run g dump s p q a b known x y =
    let one = one_run g s y.labels x.labels y.last x.last y.end x.end y.runs x.runs in
    let status_in : Answer → Status = λ c. c.status in
    ap status_in y.at.answer ∙ (ap (λ (end : RunEnd). status_of end) one.2 ∙ sym (ap status_in x.at.answer))

no_text : (held : List ℕ → Option (List ℕ)) (a : Answer) → Answers held None a → (a.status ≡ Usage) × (a.out ≡ [])
no_text held a (no_command text) = (refl, refl)

same_text : (held : List ℕ → Option (List ℕ)) (a b : Answer) → Answers held None a → Answers held None b → (b.status ≡ a.status) × (b.out ≡ a.out)
same_text held a b h k =
    let x = no_text held a h in
    let y = no_text held b k in
    (y.0 ∙ sym x.0, y.1 ∙ sym x.1)

pub one_answer : OneRun → RunsAreOne → OneAnswer
one_answer one_run once held None a b h k told same = same_text held a b h k
one_answer one_run once held (Some command) a b h k told same =
    alike_by_file IsOneProgram (λ a b. b ≡ a) (λ a b e. e) (one_run_so one_run once) held command (program_in held (Some command) a h) (program_in held (Some command) b k) a b same told
    (by_file held command a h) (by_file held command b k)

pub one_status : OneRun → (held : List ℕ → Option (List ℕ)) (words : Option Command) (a b : Answer) → IsTold held words → Answers held words a → Answers held words b
    → b.status ≡ a.status
one_status one_run held None a b told h k = (same_text held a b h k).0
one_status one_run held (Some command) a b told h k =
    alike_by_file Whatever HaveOneStatus (λ a b e. ap (λ (x : Answer). x.status) e) (status_so one_run) held command (program_in held (Some command) a h)
    (program_in held (Some command) b k) a b tt told (by_file held command a h) (by_file held command b k)
