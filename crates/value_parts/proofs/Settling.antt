-- What comes of a call that lifts over the table of an instance.
use Rattle.std.proofs.Common.{◌≡◌, ◌<◌, ℕ, List, [], length, get_or, sym, ap, ◌∙◌, subst, Option, Some, Result, Ok, Err}
use Rattle.std.proofs.lemmas.Option.{get_or_from_slice_get}
use Rattle.std.specs.List.{slice_get}
use Rattle.faults.specs.declared.memory.MemoryOr.{MemoryOr}
use Rattle.faults.specs.declared.memory.MemoryOr.TheVariants.{Memory, Fault}
use Rattle.handle_table.specs.Slots.{Slots}
use Rattle.value_lift.specs.declared.moved.Moved.{Moved}
use Rattle.value_lift.specs.declared.trap.LiftTrap.{LiftTrap}
use Rattle.value_lift.specs.Ledger.{Came}
use Rattle.value_lift.specs.Tables.{Kept, Stop, MayGive, given as lifted_given}
use Rattle.instances.specs.declared.entry.WorldEntry.{WorldEntry}
use Rattle.instances.specs.Instances.{InstanceView, with_slots}
use Rattle.world_parts.specs.declared.parts.Parts.{Parts}
use Rattle.world_parts.specs.declared.parts.Stop as stops
use Rattle.world_parts.specs.Held.{Held, held, Done, given, Does}
use Rattle.world_parts.specs.Entries.{with_instance}
use Rattle.value_parts.specs.declared.lifting.Origin.{Origin}
use Rattle.value_parts.specs.Coming.{Comes}
use Rattle.value_parts.specs.Lifting.{settled, SettlesFor}
use Rattle.value_parts.proofs.Bytes.{item}
use Rattle.value_parts.proofs.Coming.{does_so}

-- An item that is read at a place stands there.
pub read_at : {X : Type 0} (xs : List X) (at : ℕ) (x : X) → at < length xs → x ≡ get_or xs at x → slice_get xs at ≡ Some x
read_at {X} xs at x within is =
    let found = item xs at within in
    found.1 ∙ ap (λ (y : X). Some y) (sym (is ∙ get_or_from_slice_get xs at found.0 x found.1))

-- The instance is as the call left it.
pub settled_so : {A : Type 0} (from : Origin) (came : Came (Kept WorldEntry) (Stop WorldEntry) A) (i j : InstanceView) (moved : List Moved) (r : Result A (MemoryOr LiftTrap))
    (h : Held) (result : Result A stops.Stop) (new : Parts) → MayGive came j.slots moved r → j ≡ with_slots j.slots i
    → SettlesFor from moved r (with_instance from.at j h) result new → Comes (settled from i (lifted_given came) h) result new
settled_so {A} from came i j moved (Ok x) h result new gives rest settles =
    subst (λ (s : Result (A × Slots WorldEntry × List Moved) (Stop WorldEntry)). Comes (settled from i s h) result new) (sym gives)
    (subst (λ (k : InstanceView). SettlesFor from moved (Ok x) (with_instance from.at k h) result new) rest settles)
settled_so {A} from came i j moved (Err (Fault fault)) h result new gives rest settles =
    subst (λ (s : Came (Kept WorldEntry) (Stop WorldEntry) A). Comes (settled from i (lifted_given s) h) result new) (sym gives)
    (subst (λ (k : InstanceView). SettlesFor from moved (Err (Fault fault)) (with_instance from.at k h) result new) rest settles)
settled_so {A} from came i j moved (Err Memory) h result new gives rest settles =
    subst (λ (r : Result A stops.Stop). Comes (settled from i (lifted_given came) h) r new) (sym settles) tt

pub lifted_so : {A : Type 0} (from : Origin) (come : List Moved → Held → InstanceView → Came (Kept WorldEntry) (Stop WorldEntry) A) (old new : Parts) (i j : InstanceView)
    (first moved seen : List Moved) (r : Result A (MemoryOr LiftTrap)) (result : Result A stops.Stop) → slice_get (held old).instances from.at ≡ Some i → first ≡ [] → seen ≡ moved
    → MayGive (come first (held old) i) j.slots moved r → j ≡ with_slots j.slots i → SettlesFor from seen r (with_instance from.at j (held old)) result new
    → Does (λ h. given (slice_get h.instances from.at) (λ k. settled from k (lifted_given (come [] h k)) h)) old result new
lifted_so {A} from come old new i j first moved seen r result found none same gives rest settles =
    let f : Held → Done A = λ h. given (slice_get h.instances from.at) (λ k. settled from k (lifted_given (come [] h k)) h) in
    let given_first : MayGive (come [] (held old) i) j.slots moved r = subst (λ (m : List Moved). MayGive (come m (held old) i) j.slots moved r) none gives in
    let told : SettlesFor from moved r (with_instance from.at j (held old)) result new =
    subst (λ (m : List Moved). SettlesFor from m r (with_instance from.at j (held old)) result new) same settles in
    does_so f old new result
    (subst (λ (o : Option InstanceView). Comes (given o (λ k. settled from k (lifted_given (come [] (held old) k)) (held old))) result new) (sym found)
    (settled_so from (come [] (held old) i) i j moved r (held old) result new given_first rest told))
