-- A text is refused exactly at the first line that is not well said.
use Rattle.std.proofs.Common.{◌≡◌, inl, inr, ℕ, ◌+◌, List, [], ◌∷◌, ◌++◌, length, true, refl, sym, ap, ◌∙◌, subst}
use Rattle.std.proofs.lemmas.List.{length-map, map-append}
use Rattle.std.proofs.lemmas.Str.{utf8_valid_len-IsValidUpTo}
use Rattle.std.specs.Str.Lossy.{utf8_valid_len}
use Rattle.syntax_trees.specs.declared.exports.Export.{Export}
use Rattle.script_reader.specs.declared.fault.ScriptWhy.{ScriptWhy}
use Rattle.script_reader.specs.declared.fault.ScriptWhy.TheVariants as why
use Rattle.script_reader.specs.declared.fault.ScriptFault.{ScriptFault}
use Rattle.script_reader.specs.Script.{empty_draft, is_begun, calls_in, line_at, line_text, lines}
use Rattle.script_reader.specs.Syntax.{SaySomething, calls_among, IsLineOf, ArePaired, IsNoLine, AreLines, HasFirstFault, IsNoScriptText}
use Rattle.script_reader.specs.Laws.{FirstFaultIsTold}
use Rattle.script_reader.proofs.WholeUtf8.{cut_at, not_whole}
use Rattle.script_reader.proofs.LineFeeds.{lines_told, lines_tell}
use Rattle.script_reader.proofs.FirstFault.{Faulty, IsFirstFault, first_told, first_tells}
use Rattle.script_reader.proofs.DraftLines.{texts_of, cons_parts, no_parts}
use Rattle.script_reader.proofs.WholeTexts.{paired_told, paired_tells}
use Rattle.script_reader.proofs.OtherLines.{line_refused, refuses_line}
use Rattle.script_reader.proofs.AreLines.{none_told, lines_said, lines_read, follow_told, follow_tells}

-- a fault by its parts
same_fault : (fault : ScriptFault) (n : ℕ) (w : ScriptWhy) → fault.line ≡ n → fault.why ≡ w → fault ≡ record { line = n; why = w }
same_fault fault n w e h =
    ap (λ (k : ℕ). (let f : ScriptFault = record { line = k; why = fault.why } in f)) e
    ∙ ap (λ (u : ScriptWhy). (let f : ScriptFault = record { line = n; why = u } in f)) h

-- a line is refused alike where the same is known of those before it
begun_alike : (exports : List Export) (P Q : Type 0) (calls : ℕ) (text : List ℕ) (w : ScriptWhy) → (P → Q) → (Q → P) → IsNoLine exports P calls text w → IsNoLine exports Q calls text w
begun_alike exports P Q calls text w f g (inl i) = inl i
begun_alike exports P Q calls text w f g (inr (inl (written, e, inl both))) = inr (inl (written, e, inl (f both.0, both.1)))
begun_alike exports P Q calls text w f g (inr (inl (written, e, inr both))) = inr (inl (written, e, inr ((λ q. both.0 (g q)), both.1)))
begun_alike exports P Q calls text w f g (inr (inr i)) = inr (inr i)

refused_alike : (exports : List Export) (P Q : Type 0) (n m : ℕ) (text : List ℕ) (w : ScriptWhy) → (P → Q) → (Q → P) → n ≡ m → IsNoLine exports P n text w → IsNoLine exports Q m text w
refused_alike exports P Q n m text w f g e i = subst (λ (k : ℕ). IsNoLine exports Q k text w) e (begun_alike exports P Q n text w f g i)

-- what refuses a line behind these
abbrev Bad : List Export → List (List ℕ) → List ℕ → ScriptWhy → Type 0
Bad exports before text w = IsNoLine exports (SaySomething before) (calls_among before) text w

-- the lines of these texts
parts_of : (ls before : List (List ℕ)) (text : List ℕ) (behind : List (List ℕ)) → texts_of ls ≡ before ++ text ∷ behind
    → (front : List (List ℕ)) × (line : List ℕ) × (others : List (List ℕ)) × (ls ≡ front ++ line ∷ others) × (texts_of front ≡ before) × (line_text line ≡ text)
parts_of [] before text behind e = absurd (no_parts before text behind e)
parts_of (line ∷ ls) [] text behind e =
    let both = cons_parts (line_text line) text (texts_of ls) behind e in
    ([], line, ls, refl, refl, both.0)
parts_of (line ∷ ls) (first ∷ before) text behind e =
    let both = cons_parts (line_text line) first (texts_of ls) (before ++ text ∷ behind) e in
    let rest = parts_of ls before text behind both.1 in (
      line ∷ rest.0,
      rest.1,
      rest.2,
      ap (λ (l : List (List ℕ)). line ∷ l) rest.3,
      ap (λ (l : List ℕ). l ∷ texts_of rest.0) both.0 ∙ ap (λ (l : List (List ℕ)). first ∷ l) rest.4,
      rest.5,
    )

fault_found : (exports : List Export) (bytes : List ℕ) (fault : ScriptFault) → Faulty exports empty_draft 1 (lines bytes) fault → HasFirstFault exports bytes fault
fault_found exports bytes fault f =
    let said = lines_said exports empty_draft [] 1 f.0 f.3 none_told f.6 in
    let parts : texts_of (lines bytes) ≡ texts_of f.0 ++ line_text f.1 ∷ texts_of f.2 = ap (λ (l : List (List ℕ)). texts_of l) f.4 ∙ map-append line_text f.0 (f.1 ∷ f.2) in
    let long : length (texts_of f.0) ≡ length f.0 = length-map f.0 line_text in
    let told = said.1 in
    record {
      lines = lines bytes;
      before = texts_of f.0;
      text = line_text f.1;
      behind = texts_of f.2;
      parted = lines_told bytes;
      paired = subst (λ (l : List (List ℕ)). ArePaired IsLineOf l (lines bytes)) parts (paired_told (lines bytes));
      good = follow_told exports (texts_of f.0) said.0;
      place = f.5 ∙ ap (λ (n : ℕ). n + 1) (sym long);
      bad = refused_alike exports (is_begun f.3 ≡ true) (SaySomething (texts_of f.0)) (calls_in f.3.items) (calls_among (texts_of f.0)) (line_text f.1) fault.why told.0 told.1 told.2 (line_refused exports f.3 (line_text f.1) fault.why f.7);
    }

fault_finds : (exports : List Export) (bytes : List ℕ) (fault : ScriptFault) → HasFirstFault exports bytes fault → Faulty exports empty_draft 1 (lines bytes) fault
fault_finds exports bytes fault f =
    let same : lines bytes ≡ f.lines = lines_tell bytes f.lines f.parted in
    let texts : texts_of (lines bytes) ≡ f.before ++ f.text ∷ f.behind = ap (λ (l : List (List ℕ)). texts_of l) same ∙ sym (paired_tells (f.before ++ f.text ∷ f.behind) f.lines f.paired) in
    let parts = parts_of (lines bytes) f.before f.text f.behind texts in
    let good : AreLines exports (texts_of parts.0) = subst (λ (l : List (List ℕ)). AreLines exports l) (sym parts.4) f.good in
    let read = lines_read exports empty_draft [] 1 parts.0 none_told (follow_tells exports (texts_of parts.0) good) in
    let told = (lines_said exports empty_draft [] 1 parts.0 read.0 none_told read.1).1 in
    let here : Bad exports (texts_of parts.0) f.text fault.why = subst (λ (l : List (List ℕ)). Bad exports l f.text fault.why) (sym parts.4) f.bad in
    let bad : Bad exports (texts_of parts.0) (line_text parts.1) fault.why = subst (λ (l : List ℕ). Bad exports (texts_of parts.0) l fault.why) (sym parts.5) here in
    let alike = refused_alike exports (SaySomething (texts_of parts.0)) (is_begun read.0 ≡ true) (calls_among (texts_of parts.0)) (calls_in read.0.items) (line_text parts.1) fault.why told.1 told.0 (sym told.2) bad in
    let long : length f.before ≡ length parts.0 = ap (λ (l : List (List ℕ)). length l) (sym parts.4) ∙ length-map parts.0 line_text in (
      parts.0,
      parts.1,
      parts.2,
      read.0,
      parts.3,
      f.place ∙ ap (λ (n : ℕ). n + 1) long,
      read.1,
      refuses_line exports read.0 (line_text parts.1) fault.why alike,
    )

fault_told : (exports : List Export) (bytes : List ℕ) (fault : ScriptFault) → IsFirstFault exports bytes fault → IsNoScriptText exports bytes fault
fault_told exports bytes fault (inl long) =
    inl (long.0, ap (λ (f : ScriptFault). f.line) long.1, ap (λ (f : ScriptFault). f.why) long.1)
fault_told exports bytes fault (inr (inl cut)) =
    inr (inl (cut.0, (utf8_valid_len bytes, cut_at bytes cut.1, ap (λ (f : ScriptFault). f.line) cut.2, ap (λ (f : ScriptFault). f.why) cut.2)))
fault_told exports bytes fault (inr (inr at)) = inr (inr (at.0, at.1, fault_found exports bytes fault at.2))

fault_tells : (exports : List Export) (bytes : List ℕ) (fault : ScriptFault) → IsNoScriptText exports bytes fault → IsFirstFault exports bytes fault
fault_tells exports bytes fault (inl long) = inl (long.0, same_fault fault 0 why.Size long.1 long.2)
fault_tells exports bytes fault (inr (inl cut)) =
    let at = cut.1 in
    let place : utf8_valid_len bytes ≡ at.0 = utf8_valid_len-IsValidUpTo bytes at.0 at.1 in
    let line : fault.line ≡ line_at (utf8_valid_len bytes) bytes = at.2 ∙ ap (λ (n : ℕ). line_at n bytes) (sym place) in
    inr (inl (cut.0, not_whole bytes at.0 at.1, same_fault fault (line_at (utf8_valid_len bytes) bytes) why.Utf8 line at.3))
fault_tells exports bytes fault (inr (inr at)) = inr (inr (at.0, at.1, fault_finds exports bytes fault at.2))

pub first_fault_is_told : FirstFaultIsTold
first_fault_is_told exports bytes fault = (
  λ h. fault_told exports bytes fault (first_told exports bytes fault h),
  λ i. first_tells exports bytes fault (fault_tells exports bytes fault i),
)
