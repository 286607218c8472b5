-- Room for payloads, and what stands before it.
use Rattle.std.proofs.Common.{◌≡◌, ◌∙◌, ℕ, ◌≤◌, max, List, [], ◌∷◌, map, Some, ap, sym, refl, arith}
use Rattle.laid_types.specs.Layout.{Laid, aligned, tag_size, there, top_align}
use Rattle.laid_types.specs.Layout as layout
use Rattle.layouts.specs.Limited.{limited, nothing, joined, tagged}
use Rattle.layouts.proofs.Layouts.{tagged_behind, tagged_behind_all}
use Rattle.laid_types.specs.Gathered.{room_for}

there_all : (payloads : List Laid) → there (map Some payloads) ≡ payloads
there_all [] = refl
there_all (p ∷ payloads) = ap (λ (ps : List Laid). p ∷ ps) (there_all payloads)

behind_room : (count : ℕ) (room : Laid) (payloads : List Laid) → tagged_behind count room (map Some payloads) ≡ tagged count (room_for room payloads)
behind_room count room [] = refl
behind_room count room (p ∷ payloads) = behind_room count (joined room (limited p)) payloads

-- A number for the case, and room for the payloads.
pub tagged_room : (count : ℕ) (payloads : List Laid) → tagged count (room_for nothing payloads) ≡ limited (layout.tagged count payloads)
tagged_room count payloads =
    sym (behind_room count nothing payloads)
    ∙ tagged_behind_all count (map Some payloads)
    ∙ ap (λ (ps : List Laid). limited (layout.tagged count ps)) (there_all payloads)

top_align_low : (payloads : List Laid) → 1 ≤ top_align payloads
top_align_low [] = omega arith
top_align_low (p ∷ payloads) = omega (arith, top_align_low payloads)

room_align_from : (room : Laid) (payloads : List Laid) → 1 ≤ room.align → (room_for room payloads).align ≡ max room.align (top_align payloads)
room_align_from room [] h = omega arith
room_align_from room (p ∷ payloads) h =
    let more = room_align_from (joined room (limited p)) payloads (omega arith) in
    omega (arith, more)

pub room_align : (payloads : List Laid) → (room_for nothing payloads).align ≡ top_align payloads
room_align payloads = omega (arith, room_align_from nothing payloads (omega arith), top_align_low payloads)
