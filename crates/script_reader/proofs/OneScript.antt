-- A text is one script, or is refused in one way.
use Rattle.std.proofs.Common.{◌≡◌, ◌⊎◌, inl, inr, ℕ, List, refl, sym, ◌∙◌, Result, Ok, Err}
use Rattle.syntax_trees.specs.declared.exports.Export.{Export}
use Rattle.script_reader.specs.declared.fault.ScriptFault.{ScriptFault}
use Rattle.script_reader.specs.Script.{Script, script, IsScript, IsScriptRefused}
use Rattle.script_reader.specs.Laws.{OneScript}

same_script : (exports : List Export) (bytes : List ℕ) (s t : Script) → IsScript exports bytes s → IsScript exports bytes t → t ≡ s
same_script exports bytes s t i j =
    let both : ◌≡◌ {A = Result Script ScriptFault} (Ok s) (Ok t) = sym i ∙ j in
    cc

same_fault : (exports : List Export) (bytes : List ℕ) (e f : ScriptFault) → IsScriptRefused exports bytes e → IsScriptRefused exports bytes f → f ≡ e
same_fault exports bytes e f i j =
    let both : ◌≡◌ {A = Result Script ScriptFault} (Err e) (Err f) = sym i ∙ j in
    cc

not_both : (exports : List Export) (bytes : List ℕ) (s : Script) (f : ScriptFault) → IsScript exports bytes s → IsScriptRefused exports bytes f → ⊥
not_both exports bytes s f i j =
    let both : ◌≡◌ {A = Result Script ScriptFault} (Ok s) (Err f) = sym i ∙ j in
    cc

told : (exports : List Export) (bytes : List ℕ) (r : Result Script ScriptFault) → script exports bytes ≡ r
    → ((s : Script) × IsScript exports bytes s × ((other : Script) → IsScript exports bytes other → other ≡ s) × ((fault : ScriptFault) → IsScriptRefused exports bytes fault → ⊥))
    ⊎ ((fault : ScriptFault) × IsScriptRefused exports bytes fault × ((other : ScriptFault) → IsScriptRefused exports bytes other → other ≡ fault) × ((s : Script) → IsScript exports bytes s → ⊥))
told exports bytes (Ok s) h = inl (s, h, (λ other i. same_script exports bytes s other h i), (λ fault i. not_both exports bytes s fault h i))
told exports bytes (Err fault) h = inr (fault, h, (λ other i. same_fault exports bytes fault other h i), (λ s i. not_both exports bytes s fault i h))

pub one_script : OneScript
one_script exports bytes = told exports bytes (script exports bytes) refl
