-- What a type of instances asks for at a place.
use Rattle.std.proofs.Common.{◌≡◌, ℕ, List, refl, subst, Option, Some, None}
use Rattle.std.specs.List.{slice_get}
use Rattle.comp_graph.specs.Closed.{Extern, Externs}
use Rattle.link_values.specs.declared.refs.ExternRef.{ExternRef}
use Rattle.link_types.specs.Table.{Table, IsName, IsExtern, MayBeEntry, in_order}

from_entry : (t : Table) (name : ℕ) (item : ExternRef) (p : Option (List ℕ × Extern)) → MayBeEntry t (Some (name, item)) p
    → (e : List ℕ × Extern) × (p ≡ Some e) × IsName t name e.0 × IsExtern t item e.1
from_entry t name item None h = absurd h
from_entry t name item (Some e) h = (e, refl, h.0, h.1)

pub asked_here : (t : Table) (externs : Externs) (at name : ℕ) (item : ExternRef) (o : Option (ℕ × ExternRef)) → o ≡ Some (name, item) → MayBeEntry t o (slice_get (in_order externs) at)
    → (e : List ℕ × Extern) × (slice_get (in_order externs) at ≡ Some e) × IsName t name e.0 × IsExtern t item e.1
asked_here t externs at name item o is h =
    from_entry t name item (slice_get (in_order externs) at) (subst (λ (o : Option (ℕ × ExternRef)). MayBeEntry t o (slice_get (in_order externs) at)) is h)
