-- Types of ends that are compared by their numbers, and the end that is lifted.
use Rattle.std.proofs.Common.{◌≡◌, ◌↔◌, ℕ, ap, refl, Bool, true, false, ◌&&◌, if◌then◌else◌, nat_eq, IsTrue, Option, Some, None, Ok, Err}
use Rattle.std.proofs.lemmas.Bool.Decides.{Decides-eqb}
use Rattle.std.proofs.lemmas.Option.{same_Some}
use Rattle.std.specs.Option.{option_map, option_and_then}
use Rattle.stream_ends.specs.declared.side.Side.{Side}
use Rattle.stream_ends.specs.declared.side.Side.TheVariants.{Reader, Writer}
use Rattle.res_handles.specs.declared.refusal.Refusal.TheVariants.{OtherKind, OtherType}
use Rattle.res_handles.specs.Ends as ends
use Rattle.instances.specs.declared.entry.EndEntry.{EndEntry}
use Rattle.instances.specs.declared.entry.WorldEntry.{WorldEntry}
use Rattle.instances.specs.declared.entry.WorldEntry.TheVariants as entry
use Rattle.instances.specs.Entries.{same_side, typed_end, seen_by, seen_as, readable_type, end_type_of, end_in, idle_in, lifted_end}

pub tells_apart : ends.TellsApart nat_eq
tells_apart a b = ((Decides-eqb a b).0, (Decides-eqb a b).1)

-- the end that is lifted
of_type_is : (b : Bool) (e : EndEntry) → ends.end_of b (record { number = e.number; is_idle = e.is_idle }) ≡ idle_in (if b then Ok e else Err OtherType)
of_type_is true e = refl
of_type_is false e = refl

lifted_side : (wanted : ℕ) (side : Side) (e : EndEntry) → ends.end_in (Some (seen_by side e)) (ends.is_of_by nat_eq (readable_type side e) wanted) ≡ idle_in (if same_side side Reader then typed_end wanted e else Err OtherKind)
lifted_side wanted Reader e = of_type_is (nat_eq e.end_type wanted) e
lifted_side wanted Writer e = refl

pub lifted_is : (wanted : ℕ) (found : Option WorldEntry) → ends.end_in (option_map seen_as found) (ends.is_of_by nat_eq (option_and_then end_type_of found) wanted) ≡ lifted_end wanted found
lifted_is wanted None = refl
lifted_is wanted (Some (entry.Handle x)) = refl
lifted_is wanted (Some (entry.Subtask callee)) = refl
lifted_is wanted (Some (entry.Set set)) = refl
lifted_is wanted (Some (entry.End e)) = lifted_side wanted e.side e

-- an entry is the readable end of the type of a number
pub readable_told : (side : Side) (e : EndEntry) (wanted : ℕ) → IsTrue (same_side side Reader && nat_eq e.end_type wanted) ↔ (readable_type side e ≡ Some wanted)
readable_told Reader e wanted =
    (λ h. ap (λ (t : ℕ). Some t) ((Decides-eqb e.end_type wanted).0 h), λ p. (Decides-eqb e.end_type wanted).1 (same_Some e.end_type wanted p))
readable_told Writer e wanted = (λ (h : false ≡ true). absurd (let w : ⊥ = cc in w), λ p. absurd (let w : ⊥ = cc in w))
