-- A text is a script exactly where it is written as one.
use Rattle.std.proofs.Common.{◌≡◌, ℕ, List, [], ◌∷◌, length, cond, Result, Ok, Err, nat_eq, nat_lt, refl, sym, ap, ◌∙◌, subst}
use Rattle.std.proofs.lemmas.Bool.{ltb-false}
use Rattle.std.specs.Str.Lossy.{utf8_valid_len}
use Rattle.syntax_trees.specs.declared.exports.Export.{Export}
use Rattle.script_reader.specs.declared.fault.ScriptFault.{ScriptFault}
use Rattle.script_reader.specs.Script.{Script, Draft, empty_draft, add_lines, line_text, lines, script_of, script_or, size_limit, too_long, not_utf8, IsScript}
use Rattle.script_reader.specs.Syntax.{IsLineOf, ArePaired, SayScript, IsScriptText}
use Rattle.script_reader.specs.Laws.{ScriptsAreTexts}
use Rattle.script_reader.proofs.Cases.{ok_inj, passed_ok, failed_ok}
use Rattle.script_reader.proofs.WholeUtf8.{whole_is}
use Rattle.script_reader.proofs.LineTexts.{line_told, line_tells}
use Rattle.script_reader.proofs.LineFeeds.{lines_told, lines_tell}
use Rattle.script_reader.proofs.FirstFault.{is_read}
use Rattle.script_reader.proofs.DraftLines.{texts_of, script_told, script_tells}

-- the texts of lines, in order
pub paired_told : (ls : List (List ℕ)) → ArePaired IsLineOf (texts_of ls) ls
paired_told [] = tt
paired_told (line ∷ ls) = (line_told line, paired_told ls)

pub paired_tells : (texts ls : List (List ℕ)) → ArePaired IsLineOf texts ls → texts ≡ texts_of ls
paired_tells [] [] i = refl
paired_tells [] (line ∷ ls) i = absurd i
paired_tells (text ∷ texts) [] i = absurd i
paired_tells (text ∷ texts) (line ∷ ls) i =
    let first = sym (line_tells text line i.0) in
    let others = paired_tells texts ls i.1 in
    ap (λ (l : List ℕ). l ∷ texts) first ∙ ap (λ (l : List (List ℕ)). line_text line ∷ l) others

-- what all lines say, where it is a script
script_said : (r : Result Draft ScriptFault) (s : Script) → script_or r ≡ Ok s → (t : Draft) × (r ≡ Ok t) × (script_of t ≡ s)
script_said (Ok t) s h = (t, refl, ok_inj h)
script_said (Err fault) s h =
    let other : ◌≡◌ {A = Result Script ScriptFault} (Err fault) (Ok s) = h in
    cc

text_told : (exports : List Export) (bytes : List ℕ) (s : Script) → IsScript exports bytes s → IsScriptText exports bytes s
text_told exports bytes s h =
    let said = add_lines exports empty_draft 1 (lines bytes) in
    let whole = nat_eq (utf8_valid_len bytes) (length bytes) in
    let rest = failed_ok (nat_lt size_limit (length bytes)) (cond whole (script_or said) (Err (not_utf8 bytes))) too_long s h in
    let good = passed_ok whole (script_or said) (not_utf8 bytes) s rest.1 in
    let all = script_said said s good.1 in
    let texts = script_told exports 1 (lines bytes) all.0 all.1 in (
      ltb-false size_limit (length bytes) rest.0,
      whole_is bytes good.0,
      (lines bytes, texts_of (lines bytes), lines_told bytes, paired_told (lines bytes), subst (λ (u : Script). SayScript exports (texts_of (lines bytes)) u) all.2 texts),
    )

text_tells : (exports : List Export) (bytes : List ℕ) (s : Script) → IsScriptText exports bytes s → IsScript exports bytes s
text_tells exports bytes s i =
    let w = i.2 in
    let same : lines bytes ≡ w.0 = lines_tell bytes w.0 w.2 in
    let texts : w.1 ≡ texts_of (lines bytes) = paired_tells w.1 w.0 w.3 ∙ ap (λ (l : List (List ℕ)). texts_of l) (sym same) in
    let says : SayScript exports (texts_of (lines bytes)) s = subst (λ (l : List (List ℕ)). SayScript exports l s) texts w.4 in
    let found = script_tells exports 1 (lines bytes) s says in
    is_read exports bytes i.0 i.1
    ∙ (ap (λ (r : Result Draft ScriptFault). script_or r) found.1
    ∙ ap (λ (u : Script). (let r : Result Script ScriptFault = Ok u in r)) found.2)

pub scripts_are_texts : ScriptsAreTexts
scripts_are_texts exports bytes s = (λ h. text_told exports bytes s h, λ i. text_tells exports bytes s i)
