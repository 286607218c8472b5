-- What a step leaves as it was (Core 2.0, section 4.2.14; Component Model, CanonicalABI.md, "Lifting and Lowering Values"): the store stays typed and
-- grows as code that runs lets it grow, so that each stack stays typed; and a handle is lent more often only by lifting, which counts what it meets.
use Rattle.std.specs.Prelude.{◌≡◌, ℕ, ◌+◌, Some}
use Rattle.std.specs.List.{slice_get}
use Rattle.wasm_store.specs.Typed.{StoreTyped, Extends}
use Rattle.value_lift.specs.Tables.{MostLends}
use Rattle.programs.specs.declared.program.Program.{Program}
use Rattle.instances.specs.Entries.{seen_as}
use Rattle.instances.specs.Instances.{InstanceView}
use Rattle.world_parts.specs.declared.parts.Flow.{Flow}
use Rattle.world_parts.specs.Held.{Held, Done, Gives}
use Rattle.value_parts.specs.declared.to_pass.Passing.{Passing}

-- No handle of any instance is lent more often than this.
abbrev pub LentAtMost : ℕ → Held → Type 0
LentAtMost most h = (at : ℕ) (i : InstanceView) → slice_get h.instances at ≡ Some i → MostLends seen_as most i.slots

-- how much more often than before a handle is lent at most behind a step
abbrev pub most_more : ℕ
most_more = 268435456

pub record StaysFit (h k : Held) : Type 0 where
  pub grows : Extends h.store k.store
  pub typed : StoreTyped k.store
  pub lends : (most : ℕ) → LentAtMost most h → LentAtMost (most + most_more) k

-- So it is wherever values are passed.
abbrev pub PassesStayFit : (Program → Passing → Held → Done Flow → Type 0) → Program → Type 0
PassesStayFit may_pass p = (x : Passing) (h k : Held) (f : Flow) → StoreTyped h.store → may_pass p x h (Gives f k) → StaysFit h k
