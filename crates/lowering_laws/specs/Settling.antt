-- How a lowering goes over a memory alone (Component Model, CanonicalABI.md, "Storing", "Flat Lowering"): what a realloc answered, with
-- the memory as it found and as it left it, and the core values and the memory that a plan comes to over such answers.
use Rattle.std.specs.Prelude.{◌≡◌, ◌≤◌, ◌<◌, ◌^◌, ℕ, List, [], ◌∷◌, length, Option}
use Rattle.value_lower.specs.Plan.{Ask, Plan, Gives, Fails, Asks, Size, Put, Adds}
use Rattle.value_lower.specs.Following.{written}

-- One answer: what was asked, the place, and the memory before and after.
pub record Answer : Type 0 where
  pub asked : Ask
  pub place : ℕ
  pub before : List ℕ
  pub after : List ℕ

-- To this question, in this memory, came this answer. The place is an i32, and memories get no shorter.
pub record IsAnswer (ask : Ask) (memory : List ℕ) (answer : Answer) : Type 0 where
  pub asked : answer.asked ≡ ask
  pub before : answer.before ≡ memory
  pub low : answer.place < 2 ^ 32
  pub grows : length memory ≤ length answer.after

-- From this memory, over these answers and no others, the plan comes to these core values, and leaves that memory. An entry gets any
-- index, or none.
abbrev pub Settles : Plan → List ℕ → List Answer → List ℕ → List ℕ → Type 0
Settles (Gives words) memory answers after given = (answers ≡ []) × (after ≡ memory) × (given ≡ words)
Settles (Fails why) memory answers after given = ⊥
Settles (Asks ask k) memory [] after given = ⊥
Settles (Asks ask k) memory (answer ∷ answers) after given = IsAnswer ask memory answer × Settles (k answer.place) answer.after answers after given
Settles (Size k) memory answers after given = Settles (k (length memory)) memory answers after given
Settles (Put place bytes k) memory answers after given = Settles k (written place bytes memory) answers after given
Settles (Adds entry k) memory answers after given = (index : Option ℕ) × Settles (k index) memory answers after given
