-- The text of a line is refused exactly where it says nothing that a line may say, and for the reason that it has.
use Rattle.std.proofs.Common.{◌≡◌, IsTrue, inl, inr, ℕ, List, ◌++◌, codes, Option, Some, None, Result, Ok, Err, refl, sym, ap, ◌∙◌}
use Rattle.std.proofs.lemmas.Bool.{cases_Bool, cond-true, cond-false, both_ways, false_from_ne_true}
use Rattle.syntax_trees.specs.declared.exports.Export.{Export}
use Rattle.script_reader.specs.declared.script.Call.{Call}
use Rattle.script_reader.specs.declared.fault.ScriptWhy.{ScriptWhy}
use Rattle.script_reader.specs.declared.fault.ScriptWhy.TheVariants as why
use Rattle.script_reader.specs.Script.{Draft, is_begun, after, call_of, cancel_of, fuel_of, picks_of, calls_in, with_fuel, with_call, with_cancel, with_picks, is_skipped, add_by_word, add_by_text, add_line}
use Rattle.script_reader.specs.Syntax.{SaysNothing, HasNoWord, IsNoFuelOf, IsNoLine}
use Rattle.script_reader.specs.Laws.{OtherLinesAreRefused}
use Rattle.script_reader.proofs.Cases.{err_inj, failed_err, cases_Option}
use Rattle.script_reader.proofs.Marks.{after_told}
use Rattle.script_reader.proofs.OtherNumbers.{other_fuel_is_refused, other_cancels_are_refused}
use Rattle.script_reader.proofs.Picks.{other_picks_are_refused}
use Rattle.script_reader.proofs.OtherCalls.{other_calls_are_refused}
use Rattle.script_reader.proofs.DraftLines.{skipped_told, nothing_tells}

-- what refuses a line is what stands behind its word
fuel_alone : (s : Draft) (r : Result ℕ ScriptWhy) (w : ScriptWhy) → with_fuel s r ≡ Err w → r ≡ Err w
fuel_alone s (Ok n) w h = cc
fuel_alone s (Err v) w h = ap (λ (u : ScriptWhy). Err u) (err_inj h)

call_alone : (s : Draft) (r : Result Call ScriptWhy) (w : ScriptWhy) → with_call s r ≡ Err w → r ≡ Err w
call_alone s (Ok call) w h = cc
call_alone s (Err v) w h = ap (λ (u : ScriptWhy). Err u) (err_inj h)

cancel_alone : (s : Draft) (r : Result ℕ ScriptWhy) (w : ScriptWhy) → with_cancel s r ≡ Err w → r ≡ Err w
cancel_alone s (Ok n) w h = cc
cancel_alone s (Err v) w h = ap (λ (u : ScriptWhy). Err u) (err_inj h)

picks_alone : (s : Draft) (r : Result (List ℕ) ScriptWhy) (w : ScriptWhy) → with_picks s r ≡ Err w → r ≡ Err w
picks_alone s (Ok picks) w h = cc
picks_alone s (Err v) w h = ap (λ (u : ScriptWhy). Err u) (err_inj h)

-- a text that begins with no such word
not_fuel : (text written : List ℕ) → after (codes "fuel ") text ≡ None → text ≡ codes "fuel " ++ written → ⊥
not_fuel text written h e =
    let some : after (codes "fuel ") text ≡ Some written = ap (λ (l : List ℕ). after (codes "fuel ") l) e in
    cc

not_call : (text written : List ℕ) → after (codes "call ") text ≡ None → text ≡ codes "call " ++ written → ⊥
not_call text written h e =
    let some : after (codes "call ") text ≡ Some written = ap (λ (l : List ℕ). after (codes "call ") l) e in
    cc

not_cancel : (text written : List ℕ) → after (codes "cancel ") text ≡ None → text ≡ codes "cancel " ++ written → ⊥
not_cancel text written h e =
    let some : after (codes "cancel ") text ≡ Some written = ap (λ (l : List ℕ). after (codes "cancel ") l) e in
    cc

not_pick : (text written : List ℕ) → after (codes "pick ") text ≡ None → text ≡ codes "pick " ++ written → ⊥
not_pick text written h e =
    let some : after (codes "pick ") text ≡ Some written = ap (λ (l : List ℕ). after (codes "pick ") l) e in
    cc

no_word_told : (text : List ℕ) → after (codes "fuel ") text ≡ None → after (codes "call ") text ≡ None
    → after (codes "cancel ") text ≡ None → after (codes "pick ") text ≡ None → HasNoWord text
no_word_told text f c k p = record {
  no_fuel = λ written e. not_fuel text written f e;
  no_call = λ written e. not_call text written c e;
  no_cancel = λ written e. not_cancel text written k e;
  no_pick = λ written e. not_pick text written p e;
}

-- none stands behind a word that the text does not begin with
none_behind : (word text : List ℕ) → ((written : List ℕ) → text ≡ word ++ written → ⊥) → after word text ≡ None
none_behind word text never =
    elim (cases_Option (after word text)) [
      | inl none ↦ none
      | inr some ↦ absurd (never some.0 (after_told word text some.0 some.1))
    ]

-- why a line is refused
words_refused : (exports : List Export) (s : Draft) (text : List ℕ) (fuel call cancel pick : Option (List ℕ)) (w : ScriptWhy) → (SaysNothing text → ⊥)
    → after (codes "fuel ") text ≡ fuel → after (codes "call ") text ≡ call → after (codes "cancel ") text ≡ cancel → after (codes "pick ") text ≡ pick
    → add_by_word exports s fuel call cancel pick ≡ Err w → IsNoLine exports (IsTrue (is_begun s)) (calls_in s.items) text w
words_refused exports s text (Some written) call cancel pick w n f c k p h =
    let whole = after_told (codes "fuel ") text written f in
    elim (failed_err (is_begun s) (with_fuel s (fuel_of written)) why.Form w h) [
      | inl both ↦ inr (inl (written, whole, inl (both.0, sym both.1)))
      | inr both ↦
          let is : IsNoFuelOf written w = (other_fuel_is_refused written w).0 (fuel_alone s (fuel_of written) w both.1) in
          inr (inl (written, whole, inr ((λ e. both_ways (is_begun s) both.0 e), is)))
    ]
words_refused exports s text None (Some written) cancel pick w n f c k p h =
    let is = (other_calls_are_refused exports written w).0 (call_alone s (call_of exports written) w h) in
    inr (inr (inl (written, after_told (codes "call ") text written c, is)))
words_refused exports s text None None (Some written) pick w n f c k p h =
    let is = (other_cancels_are_refused (calls_in s.items) written w).0 (cancel_alone s (cancel_of (calls_in s.items) written) w h) in
    inr (inr (inr (inl (written, after_told (codes "cancel ") text written k, is))))
words_refused exports s text None None None (Some written) w n f c k p h =
    let is = (other_picks_are_refused written w).0 (picks_alone s (picks_of written) w h) in
    inr (inr (inr (inr (written, after_told (codes "pick ") text written p, is.0, is.1))))
words_refused exports s text None None None None w n f c k p h =
    let same : why.Form ≡ w = err_inj h in
    inl (sym same, n, no_word_told text f c k p)

pub line_refused : (exports : List Export) (s : Draft) (text : List ℕ) (w : ScriptWhy) → add_line exports s text ≡ Err w → IsNoLine exports (IsTrue (is_begun s)) (calls_in s.items) text w
line_refused exports s text w h =
    let never : SaysNothing text → ⊥ = λ n. (let read = nothing_tells exports s text n in cc) in
    elim (cases_Bool (is_skipped text)) [
      | inl e ↦ absurd (never (skipped_told text e))
      | inr e ↦
          words_refused
          exports
          s
          text
          (after (codes "fuel ") text)
          (after (codes "call ") text)
          (after (codes "cancel ") text)
          (after (codes "pick ") text)
          w
          never
          refl
          refl
          refl
          refl
          (sym (cond-false (is_skipped text) (Ok s) (add_by_text exports s text) e) ∙ h)
    ]

-- what is no line is refused
no_word : (exports : List Export) (s : Draft) (text : List ℕ) → (SaysNothing text → ⊥) → HasNoWord text → add_line exports s text ≡ Err why.Form
no_word exports s text n i =
    elim (cases_Bool (is_skipped text)) [
      | inl e ↦ absurd (n (skipped_told text e))
      | inr e ↦
          let fuel = after (codes "fuel ") text in
          let call = after (codes "call ") text in
          let cancel = after (codes "cancel ") text in
          let pick = after (codes "pick ") text in
          cond-false (is_skipped text) (Ok s) (add_by_text exports s text) e
          ∙ (ap (λ (o : Option (List ℕ)). add_by_word exports s o call cancel pick) (none_behind (codes "fuel ") text i.no_fuel)
          ∙ (ap (λ (o : Option (List ℕ)). add_by_word exports s None o cancel pick) (none_behind (codes "call ") text i.no_call)
          ∙ (ap (λ (o : Option (List ℕ)). add_by_word exports s None None o pick) (none_behind (codes "cancel ") text i.no_cancel)
          ∙ ap (λ (o : Option (List ℕ)). add_by_word exports s None None None o) (none_behind (codes "pick ") text i.no_pick))))
    ]

pub refuses_line : (exports : List Export) (s : Draft) (text : List ℕ) (w : ScriptWhy) → IsNoLine exports (IsTrue (is_begun s)) (calls_in s.items) text w → add_line exports s text ≡ Err w
refuses_line exports s text w (inl i) = no_word exports s text i.1 i.2 ∙ ap (λ (u : ScriptWhy). Err u) (sym i.0)
refuses_line exports s text w (inr (inl i)) =
    let behind : add_line exports s (codes "fuel " ++ i.0) ≡ Err w =
    elim i.2 [
      | inl both ↦ cond-true (is_begun s) (Err why.Form) (with_fuel s (fuel_of i.0)) both.0 ∙ ap (λ (u : ScriptWhy). Err u) (sym both.1)
      | inr both ↦
          cond-false (is_begun s) (Err why.Form) (with_fuel s (fuel_of i.0)) (false_from_ne_true (is_begun s) both.0)
          ∙ ap (λ (r : Result ℕ ScriptWhy). with_fuel s r) ((other_fuel_is_refused i.0 w).1 both.1)
    ] in
    ap (λ (l : List ℕ). add_line exports s l) i.1 ∙ behind
refuses_line exports s text w (inr (inr (inl i))) =
    ap (λ (l : List ℕ). add_line exports s l) i.1
    ∙ ap (λ (r : Result Call ScriptWhy). with_call s r) ((other_calls_are_refused exports i.0 w).1 i.2)
refuses_line exports s text w (inr (inr (inr (inl i)))) =
    ap (λ (l : List ℕ). add_line exports s l) i.1
    ∙ ap (λ (r : Result ℕ ScriptWhy). with_cancel s r) ((other_cancels_are_refused (calls_in s.items) i.0 w).1 i.2)
refuses_line exports s text w (inr (inr (inr (inr i)))) =
    ap (λ (l : List ℕ). add_line exports s l) i.1
    ∙ ap (λ (r : Result (List ℕ) ScriptWhy). with_picks s r) ((other_picks_are_refused i.0 w).1 (i.2, i.3))

pub other_lines_are_refused : OtherLinesAreRefused
other_lines_are_refused exports s text w = (λ h. line_refused exports s text w h, λ i. refuses_line exports s text w i)
