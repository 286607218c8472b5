-- A component that is read is read to its end, and matches.
use Rattle.std.proofs.Common.{◌≡◌, ℕ, ◌+◌, List, [], length, arith, sym, ◌∙◌, subst}
use Rattle.ca_base.specs.Span.{Span}
use Rattle.ca_base.specs.Grammar.{Matches}
use Rattle.ca_base.proofs.Laws.{matches_past, decided}
use Rattle.ca_base.proofs.Places.{matches_end, at_end_matches, at_its_end}
use Rattle.ca_base.proofs.Whole.{whole_decided}
use Rattle.comp_tree.specs.declared.items.Component.{Component}
use Rattle.part_reader.specs.declared.fault.ComponentWhy.{ComponentWhy}
use Rattle.part_reader.specs.declared.fault.ComponentWhy.TheVariants.{Truncated}
use Rattle.comp_reader.specs.Binary.{component, component_of, component_within, file, file_end}
use Rattle.part_reader.specs.Reasons.{reasons}
use Rattle.comp_reader.specs.Laws.{OneReading}

pub matches_whole : (bytes : List ℕ) (c : Component) (t : Span ComponentWhy) → Matches component (file bytes) c t → t ≡ file_end bytes
unfolding component_within component_of
matches_whole bytes c t h =
    let tail = h.3.3 in
    let e = at_end_matches reasons h.3.1 tail.0 tail.1 tail.2 in
    let left : t.bytes ≡ [] = subst (λ (u : Span ComponentWhy). u.bytes ≡ []) (sym e.1 ∙ sym tail.3.1) e.0 in
    let ended = at_its_end (file bytes) t (matches_end component (file bytes) c t h) (matches_past component (file bytes) c t h) left in
    let from_zero : 0 + length bytes ≡ length bytes = omega arith in
    subst (λ (n : ℕ). ◌≡◌ {A = Span ComponentWhy} t (record { bytes = []; at = n; past = Truncated })) from_zero ended

pub one_reading : OneReading
one_reading bytes = whole_decided component (file bytes) (file_end bytes) (matches_whole bytes) (decided component (file bytes))
