-- A text is refused as a call exactly where it is none, and for the first reason that it has.
use Rattle.std.proofs.Common.{◌≡◌, ◌↔◌, inl, inr, ℕ, List, Option, Some, None, Result, Ok, Err, refl, ap, ◌∙◌, subst}
use Rattle.std.proofs.lemmas.Bool.{cond-true, cond-false}
use Rattle.syntax_trees.specs.declared.types.ValType.{ValType}
use Rattle.syntax_trees.specs.declared.value.Value.{Value}
use Rattle.syntax_trees.specs.declared.exports.Export.{Export}
use Rattle.value_reader.specs.Values.{arguments}
use Rattle.value_reader.specs.Host.{func_has_host_type}
use Rattle.script_reader.specs.declared.script.Call.{Call}
use Rattle.script_reader.specs.declared.fault.ScriptWhy.{ScriptWhy}
use Rattle.script_reader.specs.declared.fault.ScriptWhy.TheVariants as why
use Rattle.script_reader.specs.Script.{name_of, behind_name, after_mark, export_named, param_types, values_or, arguments_of, call_of_values, call_of_export, call_of_name, call_of}
use Rattle.script_reader.specs.Syntax.{AreArguments, HasName, IsNoCallOf}
use Rattle.script_reader.proofs.Cases.{err_inj, cases_Option, failed_err}
use Rattle.value_reader.proofs.Wholes.{arguments_are_texts}
use Rattle.script_reader.proofs.CallLines.{has_name, name_tells, at_name}

-- why a call is refused
values_refused : (name : List ℕ) (r : Result (List Value) ScriptWhy) (w : ScriptWhy) → call_of_values name r ≡ Err w → r ≡ Err w
values_refused name (Err v) w h = ap (λ (u : ScriptWhy). Err u) (err_inj h)
values_refused name (Ok values) w h =
    let other : ◌≡◌ {A = Result Call ScriptWhy} (Ok (record { name = name; values = values })) (Err w) = h in
    cc

none_refused : (o : Option (List Value)) (w : ScriptWhy) → values_or o ≡ Err w → (o ≡ None) × (why.Value ≡ w)
none_refused None w h = (refl, err_inj h)
none_refused (Some values) w h = cc

arguments_refused : (exports : List Export) (text : List ℕ) (e : Export) (w : ScriptWhy)
    → HasName text (name_of text) (behind_name text) → export_named exports (name_of text) ≡ Some e
    → arguments_of e (behind_name text) ≡ Err w → IsNoCallOf exports text w
arguments_refused exports text e w i x h =
    elim (failed_err (func_has_host_type e.func_type) (values_or (arguments (param_types e) (behind_name text))) why.HostType w h) [
      | inl host ↦
          let is : IsNoCallOf exports text why.HostType = (name_of text, behind_name text, e, i, x, host.0) in
          subst (λ (u : ScriptWhy). IsNoCallOf exports text u) host.1 is
      | inr read ↦
          let refused = none_refused (arguments (param_types e) (behind_name text)) w read.1 in
          let none : (values : List Value) → AreArguments (param_types e) values (behind_name text) → ⊥ =
          λ values a. (let some : arguments (param_types e) (behind_name text) ≡ Some values = (arguments_are_texts (param_types e) values (behind_name text)).1 a in
          let no : arguments (param_types e) (behind_name text) ≡ None = refused.0 in cc) in
          let is : IsNoCallOf exports text why.Value = (name_of text, behind_name text, e, i, x, read.0, none) in
          subst (λ (u : ScriptWhy). IsNoCallOf exports text u) refused.1 is
    ]

export_refused : (exports : List Export) (text : List ℕ) (o : Option Export) (w : ScriptWhy)
    → HasName text (name_of text) (behind_name text) → export_named exports (name_of text) ≡ o
    → call_of_export (name_of text) o (behind_name text) ≡ Err w → IsNoCallOf exports text w
export_refused exports text None w i x h =
    let is : IsNoCallOf exports text why.Export = (name_of text, behind_name text, i, x) in
    subst (λ (u : ScriptWhy). IsNoCallOf exports text u) (err_inj h) is
export_refused exports text (Some e) w i x h =
    arguments_refused exports text e w i x (values_refused (name_of text) (arguments_of e (behind_name text)) w h)

name_refused : (exports : List Export) (text : List ℕ) (o : Option (List ℕ)) (w : ScriptWhy)
    → after_mark 40 (behind_name text) ≡ o → call_of_name exports (name_of text) (behind_name text) o ≡ Err w → IsNoCallOf exports text w
name_refused exports text None w m h =
    let none : (name : List ℕ) (behind : List ℕ) → HasName text name behind → ⊥ =
    λ name behind i. (let n = name_tells text name behind i in
    let some : after_mark 40 (behind_name text) ≡ Some i.1 = ap (λ l. after_mark 40 l) n.1 ∙ n.2 in
    cc) in
    let is : IsNoCallOf exports text why.Form = none in
    subst (λ (u : ScriptWhy). IsNoCallOf exports text u) (err_inj h) is
name_refused exports text (Some inner) w m h =
    export_refused exports text (export_named exports (name_of text)) w (has_name text inner m) refl h

-- what is no call is refused
no_name : (exports : List Export) (text : List ℕ) → ((name : List ℕ) (behind : List ℕ) → HasName text name behind → ⊥) → call_of exports text ≡ Err why.Form
no_name exports text never =
    elim (cases_Option (after_mark 40 (behind_name text))) [
      | inl e ↦ ap (λ (o : Option (List ℕ)). call_of_name exports (name_of text) (behind_name text) o) e
      | inr some ↦ absurd (never (name_of text) (behind_name text) (has_name text some.0 some.1))
    ]

no_values : (types : List ValType) (text : List ℕ) → ((values : List Value) → AreArguments types values text → ⊥) → arguments types text ≡ None
no_values types text never =
    elim (cases_Option (arguments types text)) [
      | inl e ↦ e
      | inr some ↦ absurd (never some.0 ((arguments_are_texts types some.0 text).0 some.1))
    ]

refuses_call : (exports : List Export) (text : List ℕ) (w : ScriptWhy) → IsNoCallOf exports text w → call_of exports text ≡ Err w
refuses_call exports text why.Form never = no_name exports text never
refuses_call exports text why.Export i =
    at_name exports text i.0 i.1 i.2 ∙ ap (λ (o : Option Export). call_of_export i.0 o i.1) i.3
refuses_call exports text why.HostType i =
    at_name exports text i.0 i.1 i.3
    ∙ (ap (λ (o : Option Export). call_of_export i.0 o i.1) i.4
    ∙ ap (λ (r : Result (List Value) ScriptWhy). call_of_values i.0 r) (cond-true (func_has_host_type i.2.func_type) (Err why.HostType) (values_or (arguments (param_types i.2) i.1)) i.5))
refuses_call exports text why.Value i =
    at_name exports text i.0 i.1 i.3
    ∙ (ap (λ (o : Option Export). call_of_export i.0 o i.1) i.4
    ∙ ap (λ (r : Result (List Value) ScriptWhy). call_of_values i.0 r)
    (cond-false (func_has_host_type i.2.func_type) (Err why.HostType) (values_or (arguments (param_types i.2) i.1)) i.5 ∙ ap values_or (no_values (param_types i.2) i.1 i.6)))
refuses_call exports text why.Size i = absurd i
refuses_call exports text why.Utf8 i = absurd i
refuses_call exports text why.Fuel i = absurd i
refuses_call exports text why.CallNumber i = absurd i

pub other_calls_are_refused : (exports : List Export) (text : List ℕ) (w : ScriptWhy) → (call_of exports text ≡ Err w) ↔ IsNoCallOf exports text w
other_calls_are_refused exports text w = (
  λ h. name_refused exports text (after_mark 40 (behind_name text)) w refl h,
  λ i. refuses_call exports text w i,
)
