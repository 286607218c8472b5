-- What a type of instances asks for, under a name and at a place.
use Rattle.std.proofs.Common.{◌≡◌, ℕ, List, refl, Option, Some, None}
use Rattle.std.specs.List.{slice_get}
use Rattle.comp_graph.specs.Closed.{Extern, Externs}
use Rattle.link_values.specs.declared.refs.ExternRef.{ExternRef}
use Rattle.link_types.specs.Table.{Table, IsExtern, MayBeExtern, MayBeEntry, in_order}

abbrev pub IsAsked : Table → Option ExternRef → Option Extern → Type 0
IsAsked t None asked = asked ≡ None
IsAsked t (Some ref) asked = (x : Extern) × (asked ≡ Some x) × IsExtern t ref x

abbrev pub IsAskedAt : Table → Option (ℕ × ExternRef) → Option (List ℕ × Extern) → Type 0
IsAskedAt t None asked = asked ≡ None
IsAskedAt t (Some entry) asked = (e : List ℕ × Extern) × (asked ≡ Some e) × (slice_get t.texts entry.0 ≡ Some e.0) × IsExtern t entry.1 e.1

pub is_asked : (t : Table) (o : Option ExternRef) (asked : Option Extern) → MayBeExtern t o asked → IsAsked t o asked
is_asked t None None h = refl
is_asked t None (Some x) h = absurd h
is_asked t (Some ref) None h = absurd h
is_asked t (Some ref) (Some x) h = (x, refl, h)

entry_asked : (t : Table) (o : Option (ℕ × ExternRef)) (asked : Option (List ℕ × Extern)) → MayBeEntry t o asked → IsAskedAt t o asked
entry_asked t None None h = refl
entry_asked t None (Some x) h = absurd h
entry_asked t (Some entry) None h = absurd h
entry_asked t (Some entry) (Some x) h = (x, refl, h.0, h.1)

pub is_asked_at : (t : Table) (o : Option (ℕ × ExternRef)) (asked : Externs) (at : ℕ) → MayBeEntry t o (slice_get (in_order asked) at) → IsAskedAt t o (slice_get (in_order asked) at)
is_asked_at t o asked at h = entry_asked t o (slice_get (in_order asked) at) h
