-- A call is read exactly where its line is the name of an export with its arguments in parentheses.
use Rattle.std.proofs.Common.{◌≡◌, ◌↔◌, ℕ, List, [], ◌∷◌, ◌++◌, Bool, false, not, Option, Some, None, Result, Ok, Err, nat_eq, refl, sym, ap, ◌∙◌, subst}
use Rattle.std.specs.List.{AllByRecursion}
use Rattle.std.proofs.lemmas.Bool.{not-true, not_from_false, not_from_true, or_left, cond-false}
use Rattle.syntax_trees.specs.declared.value.Value.{Value}
use Rattle.syntax_trees.specs.declared.exports.Export.{Export}
use Rattle.value_reader.specs.Values.{arguments}
use Rattle.value_reader.specs.Host.{func_has_host_type}
use Rattle.script_reader.specs.declared.script.Call.{Call}
use Rattle.script_reader.specs.declared.fault.ScriptWhy.{ScriptWhy}
use Rattle.script_reader.specs.declared.fault.ScriptWhy.TheVariants as why
use Rattle.script_reader.specs.Script.{is_blank, ends_name, name_of, behind_name, after_mark, export_named, param_types, values_or, arguments_of, call_of_values, call_of_export, call_of_name, call_of}
use Rattle.script_reader.specs.Syntax.{AreBlanks, HasName, IsCallOf}
use Rattle.script_reader.proofs.Fronts.{Pass, Stops, front_taken, front_dropped, front_passes, front_and_rest}
use Rattle.script_reader.proofs.Cases.{ok_inj, failed_ok}
use Rattle.script_reader.proofs.Marks.{mark_told, mark_tells}
use Rattle.value_reader.proofs.Wholes.{arguments_are_texts}

-- the parts of a call that is read
values_told : (name : List ℕ) (r : Result (List Value) ScriptWhy) (call : Call) → call_of_values name r ≡ Ok call → (values : List Value) × (r ≡ Ok values) × (record { name = name; values = values } ≡ call)
values_told name (Err w) call h = cc
values_told name (Ok values) call h = (values, refl, ok_inj h)

some_told : (o : Option (List Value)) (values : List Value) → values_or o ≡ Ok values → o ≡ Some values
some_told None values h = cc
some_told (Some read) values h = ap (λ (l : List Value). Some l) (ok_inj h)

pub arguments_told : (e : Export) (text : List ℕ) (values : List Value) → arguments_of e text ≡ Ok values → (func_has_host_type e.func_type ≡ false) × (arguments (param_types e) text ≡ Some values)
arguments_told e text values h =
    let both = failed_ok (func_has_host_type e.func_type) (values_or (arguments (param_types e) text)) why.HostType values h in
    (both.0, some_told (arguments (param_types e) text) values both.1)

export_told : (name : List ℕ) (o : Option Export) (text : List ℕ) (call : Call) → call_of_export name o text ≡ Ok call → (e : Export) × (o ≡ Some e) × (call_of_values name (arguments_of e text) ≡ Ok call)
export_told name None text call h = cc
export_told name (Some e) text call h = (e, refl, h)

name_told : (exports : List Export) (name text : List ℕ) (o : Option (List ℕ)) (call : Call) → call_of_name exports name text o ≡ Ok call → (inner : List ℕ) × (o ≡ Some inner) × (call_of_export name (export_named exports name) text ≡ Ok call)
name_told exports name text None call h = cc
name_told exports name text (Some inner) call h = (inner, refl, h)

-- the bytes of a name
abbrev pub in_name : ℕ → Bool
in_name b = not (ends_name b)

pub passes_told : (name : List ℕ) → Pass in_name name → AllByRecursion (λ b. ends_name b ≡ false) name
passes_told [] a = tt
passes_told (b ∷ name) a = (not-true (ends_name b) a.0, passes_told name a.1)

pub passes_tell : (name : List ℕ) → AllByRecursion (λ b. ends_name b ≡ false) name → Pass in_name name
passes_tell [] a = tt
passes_tell (b ∷ name) a = (not_from_false (ends_name b) a.0, passes_tell name a.1)

-- a name ends where blanks and an opening parenthesis stand
pub name_stops : (blanks written : List ℕ) → AreBlanks blanks → Stops in_name (blanks ++ 40 ∷ written)
name_stops [] written a = refl
name_stops (b ∷ blanks) written a = not_from_true (ends_name b) (or_left (is_blank b) (nat_eq b 40) a.0)

-- a name with what stands behind it
pub has_name : (text inner : List ℕ) → after_mark 40 (behind_name text) ≡ Some inner → HasName text (name_of text) (behind_name text)
has_name text inner h =
    let mark = mark_told 40 (behind_name text) inner h in
    (mark.0, inner, front_and_rest in_name text, mark.1, passes_told (name_of text) (front_passes in_name text), mark.2)

-- the name that a text has is read, and what stands behind it
pub name_tells : (text name behind : List ℕ) → (i : HasName text name behind) → (name_of text ≡ name) × (behind_name text ≡ behind) × (after_mark 40 behind ≡ Some i.1)
name_tells text name behind i =
    let passes = passes_tell name i.4 in
    let stops : Stops in_name behind = subst (λ l. Stops in_name l) (sym i.3) (name_stops i.0 i.1 i.5) in (
      ap (λ l. name_of l) i.2 ∙ front_taken in_name name behind passes stops,
      ap (λ l. behind_name l) i.2 ∙ front_dropped in_name name behind passes stops,
      ap (λ l. after_mark 40 l) i.3 ∙ mark_tells 40 i.0 i.1 refl i.5,
    )

call_told : (exports : List Export) (text : List ℕ) (call : Call) → call_of exports text ≡ Ok call → IsCallOf exports text call
call_told exports text call h =
    let named = name_told exports (name_of text) (behind_name text) (after_mark 40 (behind_name text)) call h in
    let e = export_told (name_of text) (export_named exports (name_of text)) (behind_name text) call named.2 in
    let v = values_told (name_of text) (arguments_of e.0 (behind_name text)) call e.2 in
    let a = arguments_told e.0 (behind_name text) v.0 v.1 in
    let is : IsCallOf exports text (record { name = name_of text; values = v.0 }) = (
      behind_name text,
      e.0,
      has_name text named.0 named.1,
      e.1,
      a.0,
      (arguments_are_texts (param_types e.0) v.0 (behind_name text)).0 a.1,
    ) in
    subst (λ (c : Call). IsCallOf exports text c) v.2 is

-- what a call is by its name
pub at_name : (exports : List Export) (text name behind : List ℕ) → HasName text name behind → call_of exports text ≡ call_of_export name (export_named exports name) behind
at_name exports text name behind i =
    let n = name_tells text name behind i in
    ap (λ (l : List ℕ). call_of_name exports l (behind_name text) (after_mark 40 (behind_name text))) n.0
    ∙ (ap (λ (l : List ℕ). call_of_name exports name l (after_mark 40 l)) n.1
    ∙ ap (λ (o : Option (List ℕ)). call_of_name exports name behind o) n.2)

arguments_tell : (e : Export) (text : List ℕ) (values : List Value) → func_has_host_type e.func_type ≡ false → arguments (param_types e) text ≡ Some values → arguments_of e text ≡ Ok values
arguments_tell e text values h k =
    cond-false (func_has_host_type e.func_type) (Err why.HostType) (values_or (arguments (param_types e) text)) h ∙ ap values_or k

call_tells : (exports : List Export) (text : List ℕ) (call : Call) → IsCallOf exports text call → call_of exports text ≡ Ok call
call_tells exports text call i =
    let read : arguments (param_types i.1) i.0 ≡ Some call.values = (arguments_are_texts (param_types i.1) call.values i.0).1 i.5 in
    let named : call_of_export call.name (export_named exports call.name) i.0 ≡ call_of_values call.name (arguments_of i.1 i.0) = ap (λ (o : Option Export). call_of_export call.name o i.0) i.3 in
    at_name exports text call.name i.0 i.2 ∙ (named ∙ ap (λ (r : Result (List Value) ScriptWhy). call_of_values call.name r) (arguments_tell i.1 i.0 call.values i.4 read))

pub calls_are_lines : (exports : List Export) (text : List ℕ) (call : Call) → (call_of exports text ≡ Ok call) ↔ IsCallOf exports text call
calls_are_lines exports text call = (λ h. call_told exports text call h, λ i. call_tells exports text call i)
