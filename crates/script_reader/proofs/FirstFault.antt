-- A text is refused where its lines, read one after the other, have their first fault.
use Rattle.std.proofs.Common.{◌≡◌, ◌⊎◌, inl, inr, ℕ, ◌+◌, ◌<◌, ◌≤◌, List, [], ◌∷◌, ◌++◌, length, false, cond, Result, Ok, Err, nat_eq, nat_lt, refl, sym, ap, ◌∙◌, subst, arith}
use Rattle.std.proofs.lemmas.Bool.{ltb-true, ltb-false, lt-ltb, le-ltb, cond-true, cond-false}
use Rattle.std.specs.Str.{IsUtf8}
use Rattle.std.specs.Str.Lossy.{utf8_valid_len}
use Rattle.syntax_trees.specs.declared.exports.Export.{Export}
use Rattle.script_reader.specs.declared.fault.ScriptWhy.{ScriptWhy}
use Rattle.script_reader.specs.declared.fault.ScriptFault.{ScriptFault}
use Rattle.script_reader.specs.Script.{Script, Draft, empty_draft, add_line, add_others, add_lines, line_text, lines, script_of, script_or, script, size_limit, too_long, not_utf8, IsScriptRefused}
use Rattle.script_reader.proofs.Cases.{ok_inj, err_inj, failed_err, passed_err}
use Rattle.script_reader.proofs.WholeUtf8.{whole_is, is_whole, is_cut}

-- what is said behind a line
pub on_ok : (others : Draft → Result Draft ScriptFault) (number : ℕ) (r : Result Draft ScriptWhy) (t : Draft) → add_others others number r ≡ Ok t → (u : Draft) × (r ≡ Ok u) × (others u ≡ Ok t)
on_ok others number (Ok u) t h = (u, refl, h)
on_ok others number (Err w) t h =
    let other : ◌≡◌ {A = Result Draft ScriptFault} (Err (record { line = number; why = w })) (Ok t) = h in
    cc

on_err : (others : Draft → Result Draft ScriptFault) (number : ℕ) (r : Result Draft ScriptWhy) (fault : ScriptFault) → add_others others number r ≡ Err fault
    → ((u : Draft) × (r ≡ Ok u) × (others u ≡ Err fault)) ⊎ ((fault.line ≡ number) × (r ≡ Err fault.why))
on_err others number (Ok u) fault h = inl (u, refl, h)
on_err others number (Err w) fault h =
    let same : ◌≡◌ {A = ScriptFault} (record { line = number; why = w }) fault = err_inj h in
    inr (sym (ap (λ (f : ScriptFault). f.line) same), ap (λ (f : ScriptFault). Err f.why) same)

-- the lines before a fault, and the line that it is in
abbrev pub Faulty : List Export → Draft → ℕ → List (List ℕ) → ScriptFault → Type 0
Faulty exports s number ls fault =
    (before : List (List ℕ)) × (line : List ℕ) × (behind : List (List ℕ)) × (so_far : Draft)
    × (ls ≡ before ++ line ∷ behind) × (fault.line ≡ length before + number)
    × (add_lines exports s number before ≡ Ok so_far) × (add_line exports so_far (line_text line) ≡ Err fault.why)

fault_told : (exports : List Export) (s : Draft) (number : ℕ) (ls : List (List ℕ)) (fault : ScriptFault) → add_lines exports s number ls ≡ Err fault → Faulty exports s number ls fault
fault_told exports s number [] fault h =
    let other : ◌≡◌ {A = Result Draft ScriptFault} (Ok s) (Err fault) = h in
    cc
fault_told exports s number (line ∷ ls) fault h =
    elim (on_err (λ t. add_lines exports t (number + 1) ls) number (add_line exports s (line_text line)) fault h) [
      | inl on ↦
          let found = fault_told exports on.0 (number + 1) ls fault on.2 in
          let place : fault.line ≡ length (line ∷ found.0) + number = omega (arith, found.5) in (
            line ∷ found.0,
            found.1,
            found.2,
            found.3,
            ap (λ (l : List (List ℕ)). line ∷ l) found.4,
            place,
            ap (λ (r : Result Draft ScriptWhy). add_others (λ t. add_lines exports t (number + 1) found.0) number r) on.1 ∙ found.6,
            found.7,
          )
      | inr here ↦
          let place : fault.line ≡ 0 + number = omega (arith, here.0) in
          ([], line, ls, s, refl, place, refl, here.1)
    ]

on_here : (exports : List Export) (so_far : Draft) (number : ℕ) (line : List ℕ) (behind : List (List ℕ)) (fault : ScriptFault)
    → fault.line ≡ number → add_line exports so_far (line_text line) ≡ Err fault.why → add_lines exports so_far number (line ∷ behind) ≡ Err fault
on_here exports so_far number line behind fault n h =
    let same : ◌≡◌ {A = ScriptFault} (record { line = number; why = fault.why }) fault = ap (λ (k : ℕ). (let f : ScriptFault = record { line = k; why = fault.why } in f)) (sym n) in
    ap (λ (r : Result Draft ScriptWhy). add_others (λ t. add_lines exports t (number + 1) behind) number r) h ∙ ap (λ (f : ScriptFault). Err f) same

fault_tells : (exports : List Export) (s : Draft) (number : ℕ) (before : List (List ℕ)) (line : List ℕ) (behind : List (List ℕ)) (so_far : Draft) (fault : ScriptFault)
    → fault.line ≡ length before + number → add_lines exports s number before ≡ Ok so_far → add_line exports so_far (line_text line) ≡ Err fault.why
    → add_lines exports s number (before ++ line ∷ behind) ≡ Err fault
fault_tells exports s number [] line behind so_far fault n e h =
    let start : s ≡ so_far = ok_inj e in
    let place : fault.line ≡ number = omega (arith, n) in
    subst (λ (t : Draft). add_lines exports t number (line ∷ behind) ≡ Err fault) (sym start) (on_here exports so_far number line behind fault place h)
fault_tells exports s number (first ∷ before) line behind so_far fault n e h =
    let on = on_ok (λ t. add_lines exports t (number + 1) before) number (add_line exports s (line_text first)) so_far e in
    let place : fault.line ≡ length before + (number + 1) = omega (arith, n) in
    let found = fault_tells exports on.0 (number + 1) before line behind so_far fault place on.2 h in
    ap (λ (r : Result Draft ScriptWhy). add_others (λ t. add_lines exports t (number + 1) (before ++ line ∷ behind)) number r) on.1 ∙ found

-- the script of what is said
script_refused : (r : Result Draft ScriptFault) (fault : ScriptFault) → script_or r ≡ Err fault → r ≡ Err fault
script_refused (Ok s) fault h =
    let other : ◌≡◌ {A = Result Script ScriptFault} (Ok (script_of s)) (Err fault) = h in
    cc
script_refused (Err f) fault h = ap (λ (g : ScriptFault). Err g) (err_inj h)

-- the two tests of a whole text
pub not_long : (bytes : List ℕ) → length bytes ≤ size_limit → nat_lt size_limit (length bytes) ≡ false
not_long bytes h = le-ltb size_limit (length bytes) h

pub is_read : (exports : List Export) (bytes : List ℕ) → length bytes ≤ size_limit → IsUtf8 bytes → script exports bytes ≡ script_or (add_lines exports empty_draft 1 (lines bytes))
is_read exports bytes small u =
    let all = script_or (add_lines exports empty_draft 1 (lines bytes)) in
    let cut = Err (not_utf8 bytes) in
    cond-false (nat_lt size_limit (length bytes)) (Err too_long) (cond (nat_eq (utf8_valid_len bytes) (length bytes)) all cut) (not_long bytes small)
    ∙ cond-true (nat_eq (utf8_valid_len bytes) (length bytes)) all cut (is_whole bytes u)

-- where and why a text is refused, by its lines as they are read
abbrev pub IsFirstFault : List Export → List ℕ → ScriptFault → Type 0
IsFirstFault exports bytes fault =
    ((size_limit < length bytes) × (fault ≡ too_long))
    ⊎ ((length bytes ≤ size_limit) × (IsUtf8 bytes → ⊥) × (fault ≡ not_utf8 bytes))
    ⊎ ((length bytes ≤ size_limit) × IsUtf8 bytes × Faulty exports empty_draft 1 (lines bytes) fault)

pub first_told : (exports : List Export) (bytes : List ℕ) (fault : ScriptFault) → IsScriptRefused exports bytes fault → IsFirstFault exports bytes fault
first_told exports bytes fault h =
    let all = script_or (add_lines exports empty_draft 1 (lines bytes)) in
    let whole = nat_eq (utf8_valid_len bytes) (length bytes) in
    elim (failed_err (nat_lt size_limit (length bytes)) (cond whole all (Err (not_utf8 bytes))) too_long fault h) [
      | inl long ↦ inl (ltb-true size_limit (length bytes) long.0, sym long.1)
      | inr rest ↦
          let small : length bytes ≤ size_limit = ltb-false size_limit (length bytes) rest.0 in
          elim (passed_err whole all (not_utf8 bytes) fault rest.1) [
            | inl good ↦ inr (inr (small, whole_is bytes good.0, fault_told exports empty_draft 1 (lines bytes) fault (script_refused (add_lines exports empty_draft 1 (lines bytes)) fault good.1)))
            | inr cut ↦ inr (inl (small, (λ u. (let one = is_whole bytes u in let other = cut.0 in cc)), sym cut.1))
          ]
    ]

pub first_tells : (exports : List Export) (bytes : List ℕ) (fault : ScriptFault) → IsFirstFault exports bytes fault → IsScriptRefused exports bytes fault
first_tells exports bytes fault (inl long) =
    cond-true (nat_lt size_limit (length bytes)) (Err too_long) (cond (nat_eq (utf8_valid_len bytes) (length bytes)) (script_or (add_lines exports empty_draft 1 (lines bytes))) (Err (not_utf8 bytes))) (lt-ltb size_limit (length bytes) long.0)
    ∙ ap (λ (f : ScriptFault). Err f) (sym long.1)
first_tells exports bytes fault (inr (inl cut)) =
    let all = script_or (add_lines exports empty_draft 1 (lines bytes)) in
    let whole = nat_eq (utf8_valid_len bytes) (length bytes) in
    cond-false (nat_lt size_limit (length bytes)) (Err too_long) (cond whole all (Err (not_utf8 bytes))) (not_long bytes cut.0)
    ∙ (cond-false whole all (Err (not_utf8 bytes)) (is_cut bytes cut.1)
    ∙ ap (λ (f : ScriptFault). Err f) (sym cut.2))
first_tells exports bytes fault (inr (inr at)) =
    let f = at.2 in
    let there = fault_tells exports empty_draft 1 f.0 f.1 f.2 f.3 fault f.5 f.6 f.7 in
    let same : add_lines exports empty_draft 1 (lines bytes) ≡ Err fault = ap (λ (l : List (List ℕ)). add_lines exports empty_draft 1 l) f.4 ∙ there in
    is_read exports bytes at.0 at.1 ∙ ap (λ (r : Result Draft ScriptFault). script_or r) same
