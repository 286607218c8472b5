-- Each item of a script calls an export, with values of its parameters' types, or cancels a call before it; its picks are below 2^32.
use Rattle.std.proofs.Common.{◌≡◌, ◌≤◌, ◌+◌, ℕ, suc, arith, Bool, true, false, List, [], ◌∷◌, ◌++◌, length, codes, Option, Some, None, Result, Ok, Err, refl, ap, subst, ◌⊎◌, inl, inr}
use Rattle.std.specs.Bool.{if◌then◌else◌}
use Rattle.std.specs.Str.{bytes_eq}
use Rattle.std.proofs.lemmas.Slice.Eq.{bytes_eq-Decides}
use Rattle.std.proofs.lemmas.Option.{none-some, same_Some}
use Rattle.syntax_trees.specs.declared.types.ValType.{ValType}
use Rattle.syntax_trees.specs.declared.value.Value.{Value}
use Rattle.syntax_trees.specs.declared.exports.Export.{Export}
use Rattle.value_reader.proofs.ReadFits.{read_arguments_fit}
use Rattle.script_reader.specs.declared.script.Call.{Call}
use Rattle.script_reader.specs.declared.script.Item.{Item}
use Rattle.script_reader.specs.declared.script.Item.TheVariants as item
use Rattle.script_reader.specs.declared.fault.ScriptWhy.{ScriptWhy}
use Rattle.script_reader.specs.declared.fault.ScriptWhy.TheVariants as why
use Rattle.script_reader.specs.declared.fault.ScriptFault.{ScriptFault}
use Rattle.script_reader.specs.Laws.{ScriptsCallExports}
use Rattle.script_reader.specs.Script.{Script, Draft, AreOfTypes, export_named, param_types, arguments_of, call_of_values, call_of_export, call_of_name, call_of, name_of, behind_name, after_mark, after, is_begun, with_fuel, with_call, with_cancel, with_picks, fuel_of, cancel_of, picks_of, calls_in, is_skipped, add_by_word, add_by_text, add_line, add_others, add_lines, line_text, lines, empty_draft, script_or, too_long, not_utf8, CallsExport, AreItems, ArePicks}
use Rattle.script_reader.specs.Syntax.{ArePaired, IsPick}
use Rattle.script_reader.proofs.CallLines.{arguments_told}
use Rattle.script_reader.proofs.Numbers.{cancel_is_a_line}
use Rattle.script_reader.proofs.Picks.{picks_are_a_line}

ok_inj : {A E : Type 0} {x y : A} → ◌≡◌ {A = Result A E} (Ok x) (Ok y) → x ≡ y
ok_inj h = cc

err_not_ok : {A E : Type 0} {e : E} {x : A} → ◌≡◌ {A = Result A E} (Err e) (Ok x) → ⊥
err_not_ok h = cc

-- There are as many values as types.
pub as_many : (types : List ValType) (values : List Value) → AreOfTypes types values → length values ≡ length types
as_many [] [] h = refl
as_many [] (v ∷ values) h = absurd h
as_many (t ∷ types) [] h = absurd h
as_many (t ∷ types) (v ∷ values) h = ap suc (as_many types values h.2)

-- a call
of_values : (exports : List Export) (name : List ℕ) (e : Export) (r : Result (List Value) ScriptWhy) (call : Call) → export_named exports name ≡ Some e → ((values : List Value) → r ≡ Ok values → AreOfTypes (param_types e) values) → call_of_values name r ≡ Ok call → CallsExport exports call
of_values exports name e (Err w) call named count h = absurd (err_not_ok h)
of_values exports name e (Ok values) call named count h = subst (λ c. CallsExport exports c) (ok_inj h) (e, named, count values refl)

of_export : (exports : List Export) (name : List ℕ) (o : Option Export) (text : List ℕ) (call : Call) → export_named exports name ≡ o → call_of_export name o text ≡ Ok call → CallsExport exports call
of_export exports name None text call named h = absurd (err_not_ok h)
of_export exports name (Some e) text call named h = of_values exports name e (arguments_of e text) call named (λ values r. read_arguments_fit (param_types e) values text (arguments_told e text values r).1) h

of_name : (exports : List Export) (name text : List ℕ) (o : Option (List ℕ)) (call : Call) → call_of_name exports name text o ≡ Ok call → CallsExport exports call
of_name exports name text None call h = absurd (err_not_ok h)
of_name exports name text (Some inner) call h = of_export exports name (export_named exports name) text call refl h

calls_export : (exports : List Export) (text : List ℕ) (call : Call) → call_of exports text ≡ Ok call → CallsExport exports call
calls_export exports text call h = of_name exports (name_of text) (behind_name text) (after_mark 40 (behind_name text)) call h

-- one item more
push_call : (exports : List Export) (calls : ℕ) (items : List Item) (call : Call) → AreItems exports calls items → CallsExport exports call → AreItems exports calls (items ++ item.Call call ∷ [])
push_call exports calls [] call a c = (c, tt)
push_call exports calls (item.Call other ∷ items) call a c = (a.0, push_call exports (calls + 1) items call a.1 c)
push_call exports calls (item.Cancel number ∷ items) call a c = (a.0, a.1, push_call exports calls items call a.2 c)

push_cancel : (exports : List Export) (calls : ℕ) (items : List Item) (n : ℕ) → AreItems exports calls items → 1 ≤ n → n ≤ calls + calls_in items → AreItems exports calls (items ++ item.Cancel n ∷ [])
push_cancel exports calls [] n a some low = (some, omega (arith, low), tt)
push_cancel exports calls (item.Call other ∷ items) n a some low = (a.0, push_cancel exports (calls + 1) items n a.1 some (omega (arith, low)))
push_cancel exports calls (item.Cancel number ∷ items) n a some low = (a.0, a.1, push_cancel exports calls items n a.2 some low)

-- more picks
push_picks : (picks more : List ℕ) → ArePicks picks → ArePicks more → ArePicks (picks ++ more)
push_picks [] more a b = b
push_picks (n ∷ picks) more a b = (a.0, push_picks picks more a.1 b)

paired_picks : (texts : List (List ℕ)) (picks : List ℕ) → ArePaired IsPick texts picks → ArePicks picks
paired_picks [] [] i = tt
paired_picks [] (n ∷ picks) i = absurd i
paired_picks (text ∷ texts) [] i = absurd i
paired_picks (text ∷ texts) (n ∷ picks) i = (i.0.1, paired_picks texts picks i.1)

are_picks : (text picks : List ℕ) → picks_of text ≡ Ok picks → ArePicks picks
are_picks text picks h =
    let i = (picks_are_a_line text picks).0 h in
    paired_picks i.0 picks i.3

-- what the lines so far say
abbrev IsSound : List Export → Draft → Type 0
IsSound exports s = AreItems exports 0 s.items × ArePicks s.picks

by_call : (exports : List Export) (s t : Draft) (r : Result Call ScriptWhy) → ((call : Call) → r ≡ Ok call → CallsExport exports call) → with_call s r ≡ Ok t → IsSound exports s → IsSound exports t
by_call exports s t (Err w) f h all = absurd (err_not_ok h)
by_call exports s t (Ok call) f h all = subst (λ u. IsSound exports u) (ok_inj h) (push_call exports 0 s.items call all.0 (f call refl), all.1)

by_cancel : (exports : List Export) (s t : Draft) (text : List ℕ) (r : Result ℕ ScriptWhy) → cancel_of (calls_in s.items) text ≡ r → with_cancel s r ≡ Ok t → IsSound exports s → IsSound exports t
by_cancel exports s t text (Err w) e h all = absurd (err_not_ok h)
by_cancel exports s t text (Ok n) e h all =
    let i = (cancel_is_a_line (calls_in s.items) text n).0 e in
    subst (λ u. IsSound exports u) (ok_inj h) (push_cancel exports 0 s.items n all.0 i.1 (omega (arith, i.2)), all.1)

by_picks : (exports : List Export) (s t : Draft) (text : List ℕ) (r : Result (List ℕ) ScriptWhy) → picks_of text ≡ r → with_picks s r ≡ Ok t → IsSound exports s → IsSound exports t
by_picks exports s t text (Err w) e h all = absurd (err_not_ok h)
by_picks exports s t text (Ok picks) e h all = subst (λ u. IsSound exports u) (ok_inj h) (all.0, push_picks s.picks picks all.1 (are_picks text picks e))

by_fuel : (exports : List Export) (s t : Draft) (b : Bool) (r : Result ℕ ScriptWhy) → (if b then Err why.Form else with_fuel s r) ≡ Ok t → IsSound exports s → IsSound exports t
by_fuel exports s t true r h all = absurd (err_not_ok h)
by_fuel exports s t false (Err w) h all = absurd (err_not_ok h)
by_fuel exports s t false (Ok n) h all = subst (λ u. IsSound exports u) (ok_inj h) all

by_words : (exports : List Export) (s t : Draft) (fuel call cancel pick : Option (List ℕ)) → add_by_word exports s fuel call cancel pick ≡ Ok t → IsSound exports s → IsSound exports t
by_words exports s t (Some fuel) call cancel pick h all = by_fuel exports s t (is_begun s) (fuel_of fuel) h all
by_words exports s t None (Some call) cancel pick h all = by_call exports s t (call_of exports call) (calls_export exports call) h all
by_words exports s t None None (Some cancel) pick h all = by_cancel exports s t cancel (cancel_of (calls_in s.items) cancel) refl h all
by_words exports s t None None None (Some pick) h all = by_picks exports s t pick (picks_of pick) refl h all
by_words exports s t None None None None h all = absurd (err_not_ok h)

by_text : (exports : List Export) (s t : Draft) (text : List ℕ) → add_by_text exports s text ≡ Ok t → IsSound exports s → IsSound exports t
by_text exports s t text h all = by_words exports s t (after (codes "fuel ") text) (after (codes "call ") text) (after (codes "cancel ") text) (after (codes "pick ") text) h all

by_line : (exports : List Export) (s t : Draft) (b : Bool) (text : List ℕ) → (if b then Ok s else add_by_text exports s text) ≡ Ok t → IsSound exports s → IsSound exports t
by_line exports s t true text h all = subst (λ u. IsSound exports u) (ok_inj h) all
by_line exports s t false text h all = by_text exports s t text h all

-- all lines
said_on : (others : Draft → Result Draft ScriptFault) (number : ℕ) (r : Result Draft ScriptWhy) (t : Draft) → add_others others number r ≡ Ok t → (u : Draft) × (r ≡ Ok u) × (others u ≡ Ok t)
said_on others number (Ok u) t h = (u, refl, h)
said_on others number (Err w) t h = absurd (err_not_ok h)

by_lines : (exports : List Export) (s t : Draft) (number : ℕ) (lines : List (List ℕ)) → add_lines exports s number lines ≡ Ok t → IsSound exports s → IsSound exports t
by_lines exports s t number [] h all = subst (λ u. IsSound exports u) (ok_inj h) all
by_lines exports s t number (line ∷ lines) h all =
    let p = said_on (λ u. add_lines exports u (number + 1) lines) number (add_line exports s (line_text line)) t h in
    let first = by_line exports s p.0 (is_skipped (line_text line)) (line_text line) p.1 all in
    by_lines exports p.0 t (number + 1) lines p.2 first

of_said : (exports : List Export) (bytes : List ℕ) (r : Result Draft ScriptFault) (s : Script) → add_lines exports empty_draft 1 (lines bytes) ≡ r → script_or r ≡ Ok s → AreItems exports 0 s.items × ArePicks s.picks
of_said exports bytes (Err fault) s e h = absurd (err_not_ok h)
of_said exports bytes (Ok said) s e h = subst (λ u. AreItems exports 0 u.items × ArePicks u.picks) (ok_inj h) (by_lines exports empty_draft said 1 (lines bytes) e (tt, tt))

of_tests : (exports : List Export) (bytes : List ℕ) (long whole : Bool) (s : Script) → (if long then Err too_long else if whole then script_or (add_lines exports empty_draft 1 (lines bytes)) else Err (not_utf8 bytes)) ≡ Ok s → AreItems exports 0 s.items × ArePicks s.picks
of_tests exports bytes true whole s h = absurd (err_not_ok h)
of_tests exports bytes false false s h = absurd (err_not_ok h)
of_tests exports bytes false true s h = of_said exports bytes (add_lines exports empty_draft 1 (lines bytes)) s refl h

pub scripts_call_exports : ScriptsCallExports
scripts_call_exports exports bytes s h = of_tests exports bytes _ _ s h

-- the export that is found has the name
found_by : {A : Type 0} (b : Bool) (x y : A) (o : Option A) → (if b then Some y else o) ≡ Some x → ((b ≡ true) × (y ≡ x)) ⊎ (o ≡ Some x)
found_by true x y o h = inl (refl, same_Some y x h)
found_by false x y o h = inr h

pub named : (exports : List Export) (name : List ℕ) (e : Export) → export_named exports name ≡ Some e → e.name ≡ name
named [] name e h = absurd (none-some e h)
named (d ∷ exports) name e h =
    elim (found_by (bytes_eq d.name name) e d (export_named exports name) h) [
      | inl a ↦ subst (λ x. x.name ≡ name) a.1 ((bytes_eq-Decides d.name name).0 a.0)
      | inr r ↦ named exports name e r
    ]
