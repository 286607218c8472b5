-- What code comes to, by what a part comes to (Component Model, Concurrency.md, "Summary"; Core 2.0, section 4.4): where core code runs in its
-- midst, a relation says what a part may come to.
use Rattle.std.specs.Prelude.{◌≡◌, Result, Ok, Err}
use Rattle.world_parts.specs.declared.parts.Parts.{Parts}
use Rattle.world_parts.specs.declared.parts.Stop.{Stop}
use Rattle.world_parts.specs.declared.parts.Stop.TheVariants as stop
use Rattle.world_parts.specs.Held.{Held, held, Done, Gives, Traps, Spent, Stuck}

-- Of want of memory nothing is said.
abbrev pub Comes : {A : Type 0} → Done A → Result A Stop → Parts → Type 0
Comes d (Ok x) new = d ≡ Gives x (held new)
Comes d (Err (stop.Trap why)) new = d ≡ Traps why (held new)
Comes d (Err stop.NoFuel) new = d ≡ Spent (held new)
Comes d (Err stop.Stuck) new = d ≡ Stuck
Comes d (Err stop.Memory) new = Unit {0}

-- The code comes to something that a part may come to. Of want of memory nothing is said.
abbrev pub ComesToOne : {A : Type 0} → (Done A → Type 0) → Result A Stop → Parts → Type 0
ComesToOne {A} R result new = (d : Done A) × R d × Comes d result new

abbrev pub May : {A : Type 0} → (Done A → Type 0) → Result A Stop → Parts → Type 0
May R (Ok x) new = ComesToOne R (Ok x) new
May R (Err (stop.Trap why)) new = ComesToOne R (Err (stop.Trap why)) new
May R (Err stop.NoFuel) new = ComesToOne R (Err stop.NoFuel) new
May R (Err stop.Stuck) new = ComesToOne R (Err stop.Stuck) new
May R (Err stop.Memory) new = Unit {0}

-- What a part may come to behind one that came to this.
abbrev pub Behind : {A B : Type 0} → Done A → (A → Held → Done B → Type 0) → Done B → Type 0
Behind (Gives x h) F d = F x h d
Behind (Traps why h) F d = d ≡ Traps why h
Behind (Spent h) F d = d ≡ Spent h
Behind Stuck F d = d ≡ Stuck

-- What it may come to behind one that may come to several things.
abbrev pub Then : {A B : Type 0} → (Done A → Type 0) → (A → Held → Done B → Type 0) → Done B → Type 0
Then {A} R F d = (first : Done A) × R first × Behind first F d
