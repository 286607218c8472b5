-- What a call comes to where nothing has gone out yet, and where its run was under way.
use Rattle.std.proofs.Common.{◌≡◌, ◌⊎◌, inl, ℕ, Bool, List, [], refl, sym, subst, Option, Some, Result, Ok, Err, MatchResult}
use Rattle.std.specs.Prelude.{IfOk}
use mathlib.Core.Path.{fun_ext}
use Rattle.comp_tree.specs.declared.items.Component.{Component}
use Rattle.syntax_trees.specs.declared.exports.Export.{Export}
use Rattle.comp_graph.specs.Graph.{Graph}
use Rattle.script_reader.specs.declared.fault.ScriptFault.{ScriptFault}
use Rattle.script_reader.specs.Script.{Script}
use Rattle.machine_runs.specs.declared.fault.RunFault.{RunFault}
use Rattle.command_words.specs.Words.{Command, Request, OfFile, Run, component_file}
use Rattle.wcm.specs.declared.answer.Answer.{Answer}
use Rattle.wcm.specs.declared.answer.Stop.{Stop}
use Rattle.wcm.specs.Coming.{WentOut, ComesToAnswer, RunComes, Comes}
use Rattle.wcm.specs.Piped.{Answered}
use Rattle.wcm.specs.Files.{IsFileRead, IsFileLinked, IsScriptFile, IsScriptFileRefused}
use Rattle.wcm.specs.Status.{IsAnswered}
use Rattle.wcm.specs.Written.{IsLeft}
use Rattle.wcm.proofs.Reading.{of_ok}
use Rattle.wcm.proofs.Sounds.{answered}
use Rattle.wcm.proofs.Taken.{grown_nil}

-- all of an answer is left
pub all_left : (a : Answer) (taken : Option (List ℕ)) → IsLeft a a taken taken
all_left a taken = record { front = []; out = refl; taken = sym (grown_nil taken); err = refl; status = refl }

pub comes_whole : (held : List ℕ → Option (List ℕ)) (words : Option Request) (taken : Option (List ℕ)) (a : Answer) → Answered held words a
    → ComesToAnswer held words taken taken a
comes_whole held words taken a h = (a, h, all_left a taken)

-- nothing has gone out
pub sent_none : (held : List ℕ → Option (List ℕ)) (words : Option Request) (taken : Option (List ℕ)) → (taken ≡ taken) ⊎ WentOut held words taken taken
sent_none held words taken = inl refl

-- Each answer of a command has a status that the files decide.
pub answered_comes : (held : List ℕ → Option (List ℕ)) (command : Command) (before now : Option (List ℕ)) (r : Result Answer Stop) → Comes held (Some (OfFile command)) before now r
    → IfOk r (λ a. IsAnswered a.status)
answered_comes held command before now (Ok left) h = subst IsAnswered (sym h.2.status) (answered held command h.0 h.1)
answered_comes held command before now (Err e) h = tt

-- What is said where a file was read, and all files hold what they held.
pub comes_after : (held later : List ℕ → Option (List ℕ)) (command : Command) (c : Component) (before now : Option (List ℕ)) (r : Result Answer Stop)
    → ((name : List ℕ) → later name ≡ held name) → IsFileRead held (component_file command) c
    → (IsFileRead later (component_file command) c → Comes later (Some (OfFile command)) before now r) → Comes held (Some (OfFile command)) before now r
comes_after held later command c before now r same read h =
    let one : later ≡ held = fun_ext same in
    subst (λ (f : List ℕ → Option (List ℕ)). Comes f (Some (OfFile command)) before now r) one
    (h (subst (λ (f : List ℕ → Option (List ℕ)). IsFileRead f (component_file command) c) (sym one) read))

-- What is said of a call that came to no answer, where this is why.
pub came : (held : List ℕ → Option (List ℕ)) (words : Option Request) (before now : Option (List ℕ)) (e why : Stop) → e ≡ why
    → (let r : Result Answer Stop = Err e in Comes held words before now r) → (let r : Result Answer Stop = Err why in Comes held words before now r)
came held words before now e why is h = subst (λ (s : Stop). (let r : Result Answer Stop = Err s in Comes held words before now r)) is h

-- The same of a run of a script that a file was read for.
pub run_came : (held : List ℕ → Option (List ℕ)) (file name : List ℕ) (dump : Bool) (g : Graph) (exports : List Export) (found : Result Script ScriptFault) (s : Script)
    (before now : Option (List ℕ)) (e why : RunFault) → exports ≡ g.exports → found ≡ Ok s
    → MatchResult found (IsScriptFile held name exports) (IsScriptFileRefused held name exports) → e ≡ why → IsFileLinked held file g
    → (IsScriptFile held name g.exports s → (let r : Result Answer RunFault = Err e in RunComes held (Some (OfFile (Run file name dump))) before now r))
    → (let r : Result Answer RunFault = Err why in RunComes held (Some (OfFile (Run file name dump))) before now r)
run_came held file name dump g exports found s before now e why same is read because linked h =
    subst (λ (f : RunFault). (let r : Result Answer RunFault = Err f in RunComes held (Some (OfFile (Run file name dump))) before now r)) because
    (h (subst (λ (es : List Export). IsScriptFile held name es s) same (of_ok (IsScriptFile held name exports) (IsScriptFileRefused held name exports) found s is read)))

-- What is said of the words, where they lead to this.
pub went_for : (held : List ℕ → Option (List ℕ)) (words : Option Request) (request : Request) (before now : Option (List ℕ)) → words ≡ Some request
    → WentOut held (Some request) before now → WentOut held words before now
went_for held words request before now e h = subst (λ (w : Option Request). WentOut held w before now) (sym e) h

pub sent_for : (held : List ℕ → Option (List ℕ)) (words : Option Request) (request : Request) (before now : Option (List ℕ)) → words ≡ Some request
    → (now ≡ before) ⊎ WentOut held (Some request) before now → (now ≡ before) ⊎ WentOut held words before now
sent_for held words request before now e h = subst (λ (w : Option Request). (now ≡ before) ⊎ WentOut held w before now) (sym e) h
