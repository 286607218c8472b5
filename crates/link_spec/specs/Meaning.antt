-- What a part of a type comes to (Component Model, Explainer.md, "Type Definitions"): its meaning, and what stands against it, by
-- its reason: an index that is not there, the first name that is missing, a value type that is too deep, or, where it has no
-- meaning, the rest. Beside these it tells whether there are numbers for all resources that types of instances in it bring: where there
-- are not, the meaning is none, whatever stands for it.
use Rattle.std.specs.Prelude.{ℕ, Bool, true, false, ◌&&◌, ◌||◌, List, Option, Some, None}
use Rattle.std.specs.Option.{option_and_then}
use Rattle.comp_graph.specs.Closed.{first_of}

-- Whether all its indices are there, the first name that is missing, whether a value type in it is too deep, whether no type of instances
-- in it brings more resources than there are numbers for, and its meaning. What is too deep has a meaning all the same, so that the other
-- reasons are looked for in what stands on it.
pub record Meaning (A : Type 0) : Type 0 where
  pub is_there : Bool
  pub missing : Option (List ℕ)
  pub deep : Bool
  pub has_room : Bool
  pub means : Option A

-- one that is not there, and one that stands for this or has no meaning
abbrev pub absent : {A : Type 0} → Meaning A
absent = record { is_there = false; missing = None; deep = false; has_room = true; means = None }

abbrev pub meant : {A : Type 0} → Option A → Meaning A
meant means = record { is_there = true; missing = None; deep = false; has_room = true; means = means }

-- one that looks up a name which is missing
abbrev pub lacking_name : {A : Type 0} → List ℕ → Meaning A
lacking_name name = record { is_there = true; missing = Some name; deep = false; has_room = true; means = None }

-- one that is too deep, with what stands in its place
abbrev pub too_deep : {A : Type 0} → A → Meaning A
too_deep in_place = record { is_there = true; missing = None; deep = true; has_room = true; means = Some in_place }

-- what is made of one that is there
abbrev pub found : {A B : Type 0} → (A → Option B) → Option (Option A) → Meaning B
found f None = absent
found f (Some a) = meant (option_and_then f a)

-- One behind another: what it tells comes behind what was told, and without a meaning the whole has none.
abbrev pub kept_if : {A B : Type 0} → Option B → Option A → Option A
kept_if None a = None
kept_if (Some b) a = a

abbrev pub and_told : {A B : Type 0} → Meaning A → Meaning B → Meaning A
and_told before now = record {
  is_there = before.is_there && now.is_there;
  missing = first_of before.missing now.missing;
  deep = before.deep || now.deep;
  has_room = before.has_room && now.has_room;
  means = kept_if now.means before.means;
}
