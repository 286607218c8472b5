-- Lowers and built-ins: what they come to, by what is found of their parts.
use Rattle.std.proofs.Common.{◌≡◌, ◌∙◌, ℕ, Bool, true, false, List, refl, ap, Option, Some, None}
use Rattle.std.specs.Prelude.{Result, Ok, Err}
use Rattle.std.specs.List.{slice_get, list_all}
use Rattle.comp_tree.specs.declared.items.CanonOption.{CanonOption}
use Rattle.comp_graph.specs.declared.graph.BuiltinKind.{BuiltinKind}
use Rattle.link_spec.specs.declared.fault.LinkWhy.{LinkWhy}
use Rattle.link_spec.specs.declared.fault.LinkWhy.TheVariants as why
use Rattle.link_spec.specs.Definitions.{Lifted}
use Rattle.link_spec.specs.Spaces.{Spaces, Linking}
use Rattle.link_spec.specs.Canons.{given_by, is_option_there}
use Rattle.link_spec.specs.Builtins.{BuiltinMeaning}
use Rattle.link_spec.specs.Items.{lower_made, builtin_made}
use Rattle.link_spec.specs.Computed.{Outcome, Makes, after, there_or, only_if, lowered_from, lower_outcome, builtin_outcome}

-- What a lower comes to where its parts are there or not.
module _ (l : Linking) (n : ℕ) (s : Spaces) (f : ℕ) (options : List CanonOption) where
  pub no_func : slice_get s.funcs f ≡ None → lower_outcome l n s f options ≡ Err why.Index
  no_func h = rw h refl

  module _ (func : Lifted) (is : slice_get s.funcs f ≡ Some func) where
    pub no_option : list_all (is_option_there s) options ≡ false → lower_outcome l n s f options ≡ Err why.Index
    no_option h = rw (is, h) refl

    pub of_parts : list_all (is_option_there s) options ≡ true
        → lower_outcome l n s f options ≡ after (lowered_from func.func_type options (given_by s options)) (λ given. Ok (Makes (lower_made l n s func given)))
    of_parts h = rw (is, h) refl

-- A built-in, by what it comes to.
abbrev builtin_steps : Linking → ℕ → Spaces → Bool → Option BuiltinKind → Bool → Result Outcome LinkWhy
builtin_steps l n s there means serves = only_if there why.Index (after (there_or why.Typing means) (λ kind. only_if serves why.Canon (Ok (Makes (builtin_made l n s kind)))))

module _ (l : Linking) (n : ℕ) (s : Spaces) (meaning : BuiltinMeaning) where
  steps_are : (there : Bool) (means : Option BuiltinKind) (serves : Bool) → meaning.is_there ≡ there → meaning.means ≡ means → meaning.serves ≡ serves → builtin_outcome l n s meaning ≡ builtin_steps l n s there means serves
  steps_are there means serves h is e =
      ap (λ (b : Bool). builtin_steps l n s b meaning.means meaning.serves) h
      ∙ (ap (λ (o : Option BuiltinKind). builtin_steps l n s there o meaning.serves) is ∙ ap (λ (b : Bool). builtin_steps l n s there means b) e)

  pub not_there : meaning.is_there ≡ false → builtin_outcome l n s meaning ≡ Err why.Index
  not_there h = steps_are false meaning.means meaning.serves h refl refl

  pub none_such : meaning.is_there ≡ true → meaning.means ≡ None → builtin_outcome l n s meaning ≡ Err why.Typing
  none_such h none = steps_are true None meaning.serves h none refl

  pub not_served : (kind : BuiltinKind) → meaning.is_there ≡ true → meaning.means ≡ Some kind → meaning.serves ≡ false → builtin_outcome l n s meaning ≡ Err why.Canon
  not_served kind h is e = steps_are true (Some kind) false h is e

  pub is_made : (kind : BuiltinKind) → meaning.is_there ≡ true → meaning.means ≡ Some kind → meaning.serves ≡ true → builtin_outcome l n s meaning ≡ Ok (Makes (builtin_made l n s kind))
  is_made kind h is e = steps_are true (Some kind) true h is e
