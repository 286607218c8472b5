-- Texts in entries, as clap's getters give them.
use Rattle.std.proofs.Common.{◌≡◌, ◌∙◌, ℕ, List, [], Option, Some, None, option_map, ap, refl, subst}
use Rattle.std.specs.Prelude.{unwrap_or}
use Rattle.std.specs.Borrow.{Bor}
use Rattle.clap.specs.Words.{first_value, found_of, rows_of}
use Rattle.clap.specs.declared.parser.matches.ArgMatches.{ArgMatches}
use Rattle.clap.proofs.WalkLemmas.{first_value-rows}
use Rattle.std.specs.Option.{IsSome, MatchOption}
use Rattle.command_words.specs.declared.words.Request as of_source
use Rattle.command_words.specs.Words.{Request, text_in, asked}

pub text_of : (r : Option (Bor (List ℕ))) (d : Bor (List ℕ)) (m : ArgMatches) (id : List ℕ) → d.now ≡ [] → option_map (λ s. s.now) r ≡ first_value (found_of m) id → (unwrap_or r d).now ≡ text_in id (rows_of (found_of m))
text_of None d m id e h = e ∙ ap (λ (o : Option (List ℕ)). unwrap_or o []) (h ∙ first_value-rows (found_of m) id)
text_of (Some x) d m id e h = ap (λ (o : Option (List ℕ)). unwrap_or o []) (h ∙ first_value-rows (found_of m) id)

-- the program's own request, where the entries lead to one
pub is_found : (r : Option of_source.Request) (o : Option Request) → MatchOption r (o ≡ None) (λ c. o ≡ Some (asked c)) → IsSome o → IsSome r
is_found None o h i = absurd (none_is_none o h i)
  where
    none_is_none : (o : Option Request) → o ≡ None → IsSome o → ⊥
    none_is_none None h i = cc
    none_is_none (Some c) h i = cc
is_found (Some c) o h i = refl

pub is_said : (r : Option of_source.Request) (o : Option Request) (x : of_source.Request) → r ≡ Some x → MatchOption r (o ≡ None) (λ c. o ≡ Some (asked c)) → o ≡ Some (asked x)
is_said r o x e h = subst (λ (s : Option of_source.Request). MatchOption s (o ≡ None) (λ c. o ≡ Some (asked c))) e h
