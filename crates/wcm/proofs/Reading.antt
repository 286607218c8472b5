-- What files may hold that are too long, and the rows of answers that need no run.
use Rattle.std.proofs.Common.{◌≡◌, ◌<◌, ℕ, Bool, List, length, Option, Some, Result, Ok, Err, IsErrOf, MatchResult, inl, refl, sym, subst}
use Rattle.std.proofs.lemmas.Bool.{lt-ltb}
use Rattle.std.specs.Option.{IfSome}
use Rattle.ca_base.specs.declared.refusal.Refusal.{Refusal}
use Rattle.syntax_trees.specs.declared.exports.Export.{Export}
use Rattle.comp_tree.specs.declared.items.Component.{Component}
use Rattle.part_reader.specs.declared.fault.ComponentWhy.{ComponentWhy}
use Rattle.script_reader.specs.declared.fault.ScriptFault.{ScriptFault}
use Rattle.script_reader.specs.Script as text_of
use Rattle.script_reader.specs.Script.{size_limit, IsScriptRefused}
use Rattle.link_spec.specs.declared.fault.LinkFault.{LinkFault}
use Rattle.link_spec.specs.Linked.{IsLinked, IsLinkRefused}
use Rattle.comp_graph.specs.Graph.{Graph}
use Rattle.command_words.specs.Words.{Command, Run, Check, Show, component_file}
use Rattle.wcm.specs.declared.answer.Answer.{Answer}
use Rattle.wcm.specs.Files.{component_limit, too_long, IsFileRead, IsFileRefused, IsFileLinked, IsScriptFileRefused}
use Rattle.wcm.specs.Answers.{Answers, file_refused, not_linked, accepted, shown, script_refused, refused_answer, link_refused_answer, accepted_answer, shown_answer, script_refused_answer}
use Rattle.wcm.proofs.Held.{too_many}

-- A file that is too long.
pub long_file : {X E : Type 0} (r : Result X E) (e : E) (held : List ℕ → Option (List ℕ)) (name : List ℕ) → r ≡ Err e
    → IfSome (held name) (λ bytes. IsErrOf r e → component_limit < length bytes) → IsFileRefused held name too_long
long_file r e held name is h =
    let long = too_many r e (held name) component_limit is h in
    record { bytes = long.0; holds = long.1; refused = inl (long.2, refl) }

long_text : (exports : List Export) (bytes : List ℕ) → size_limit < length bytes → IsScriptRefused exports bytes text_of.too_long
long_text exports bytes h = rw (lt-ltb size_limit (length bytes) h) refl

pub long_script : {X E : Type 0} (r : Result X E) (e : E) (held : List ℕ → Option (List ℕ)) (name : List ℕ) (exports : List Export) → r ≡ Err e
    → IfSome (held name) (λ bytes. IsErrOf r e → size_limit < length bytes) → IsScriptFileRefused held name exports text_of.too_long
long_script r e held name exports is h =
    let long = too_many r e (held name) size_limit is h in
    record { text = long.0; holds = long.1; refused = long_text exports long.0 long.2 }

-- what is said of a result that is this
pub of_ok : {X E : Type 0} (P : X → Type 0) (Q : E → Type 0) (r : Result X E) (x : X) → r ≡ Ok x → MatchResult r P Q → P x
of_ok P Q r x is h = subst (λ r. MatchResult r P Q) is h

pub of_err : {X E : Type 0} (P : X → Type 0) (Q : E → Type 0) (r : Result X E) (e : E) → r ≡ Err e → MatchResult r P Q → Q e
of_err P Q r e is h = subst (λ r. MatchResult r P Q) is h

-- a file of which a component is read that is linked
pub linked_file : (held : List ℕ → Option (List ℕ)) (name : List ℕ) (c : Component) (g : Graph) → IsFileRead held name c → IsLinked c g → IsFileLinked held name g
linked_file held name c g f linked = record { bytes = f.bytes; component = c; holds = f.holds; read = f.read; linked = linked }

-- The rows that need no run.
pub refused_row : (held : List ℕ → Option (List ℕ)) (command : Command) (refusal : Refusal ComponentWhy) (a : Answer) → IsFileRefused held (component_file command) refusal → a ≡ refused_answer refusal → Answers held (Some command) a
refused_row held command refusal a f e = subst (λ (b : Answer). Answers held (Some command) b) (sym e) (file_refused command refusal f)

pub not_linked_row : (held : List ℕ → Option (List ℕ)) (command : Command) (c : Component) (fault : LinkFault) (a : Answer) → IsFileRead held (component_file command) c → IsLinkRefused c fault → a ≡ link_refused_answer fault → Answers held (Some command) a
not_linked_row held command c fault a f refused e =
    subst (λ (b : Answer). Answers held (Some command) b) (sym e)
    (not_linked command fault (record { bytes = f.bytes; component = c; holds = f.holds; read = f.read; refused = refused }))

pub accepted_row : (held : List ℕ → Option (List ℕ)) (command : Command) (file : List ℕ) (g : Graph) (a : Answer) → command ≡ Check file → IsFileLinked held (component_file command) g → a ≡ accepted_answer → Answers held (Some command) a
accepted_row held command file g a same linked e =
    let row : Answers held (Some (Check file)) accepted_answer = accepted file g (subst (λ (c : Command). IsFileLinked held (component_file c) g) same linked) in
    subst (λ (b : Answer). Answers held (Some command) b) (sym e) (subst (λ (c : Command). Answers held (Some c) accepted_answer) (sym same) row)

pub shown_row : (held : List ℕ → Option (List ℕ)) (command : Command) (file : List ℕ) (g : Graph) (a : Answer) → command ≡ Show file → IsFileLinked held (component_file command) g → a ≡ shown_answer g → Answers held (Some command) a
shown_row held command file g a same linked e =
    let row : Answers held (Some (Show file)) (shown_answer g) = shown file g (subst (λ (c : Command). IsFileLinked held (component_file c) g) same linked) in
    subst (λ (b : Answer). Answers held (Some command) b) (sym e) (subst (λ (c : Command). Answers held (Some c) (shown_answer g)) (sym same) row)

pub script_refused_row : (held : List ℕ → Option (List ℕ)) (file name : List ℕ) (dump : Bool) (g : Graph) (exports : List Export) (fault : ScriptFault) (a : Answer) → IsFileLinked held file g → exports ≡ g.exports → IsScriptFileRefused held name exports fault → a ≡ script_refused_answer fault → Answers held (Some (Run file name dump)) a
script_refused_row held file name dump g exports fault a linked same s e =
    subst (λ (b : Answer). Answers held (Some (Run file name dump)) b) (sym e)
    (script_refused file name dump g fault linked (subst (λ (es : List Export). IsScriptFileRefused held name es fault) same s))
