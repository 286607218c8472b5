-- What is found, or told of a part of a type (Component Model, Explainer.md, "Type Definitions"), beside what is defined.
use Rattle.std.specs.Prelude.{◌≡◌, ℕ, true, List, Option, Some, None}
use Rattle.std.specs.Option.{option_map}
use denote.Ref.{Bor}
use Rattle.link_spec.specs.Types.{Meaning}
use Rattle.link_values.specs.declared.meant.Meant.{Meant}

-- What is found stands for what is defined, as R says, and nothing is found where nothing is defined.
abbrev pub IsFoundAs : {A B : Type 0} → (B → A → Type 0) → Option B → Option A → Type 0
IsFoundAs R None found = found ≡ None
IsFoundAs {A} R (Some b) found = (a : A) × (found ≡ Some a) × R b a

-- the name's text
abbrev pub text_of : Bor (List ℕ) → List ℕ
text_of name = name.now

-- What a part of a type comes to: its indices are there, its names are missing and it is too deep as it is defined, there are numbers for
-- all resources that types of instances in it bring, and what it means stands for what is defined, as R says.
pub record IsMeaning {A B : Type 0} (R : B → A → Type 0) (m : Meant B) (meaning : Meaning A) : Type 0 where
  pub is_there : m.is_there ≡ meaning.is_there
  pub missing : option_map text_of m.missing ≡ meaning.missing
  pub deep : m.deep ≡ meaning.deep
  pub has_room : meaning.has_room ≡ true
  pub means : IsFoundAs R m.means meaning.means
