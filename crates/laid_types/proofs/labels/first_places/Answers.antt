-- Each label is one that stands before, or is put into the map.
use Rattle.std.proofs.Common.{◌∙◌, ℕ, List, Some, get_or, ap, sym, refl, []}
use Rattle.std.specs.BTreeMap.{get_by_text}
use Rattle.std.specs.Map.{update}
use Rattle.std.specs.Str.{bytes_eq}
use Rattle.std.specs.String.{string_bytes}
use Rattle.std.proofs.lemmas.Map.Text.{btree_map_updates_text}
use Rattle.laid_types.proofs.FirstPlaces.{old_label, new_label}
use Rattle.laid_types.proofs.labels.first_places.Goals as goal

pub loop-at-preserved-then-contains_key : goal.loop-at-preserved-then-contains_key
loop-at-preserved-then-contains_key c =
    old_label (get_by_text c.loop-at.places) c.args.labels.now c.loop-at.at (get_or c.args.labels.now c.loop-at.at (record { ref_ptr = (0, 0); now = [] })) (record { ref_ptr = (0, 0); now = [] }) c.loop-at.invariant c.loop-at-test.true refl (sym c.contains_key.ensures ∙ c.if-contains_key.true)

pub loop-at-preserved : goal.loop-at-preserved
loop-at-preserved c =
    new_label (get_by_text c.loop-at.places) (get_by_text c.insert.new.self) c.args.labels.now c.loop-at.at (get_or c.args.labels.now c.loop-at.at (record { ref_ptr = (0, 0); now = [] })) (record { ref_ptr = (0, 0); now = [] }) c.loop-at.invariant c.loop-at-test.true refl (sym c.contains_key.ensures ∙ c.if-contains_key.false)
    (λ q. btree_map_updates_text (string_bytes c.in_ok-from_str.field-0) c.loop-at.places c.insert.new.self (Some c.loop-at.at) c.in_ok-insert.ensures.updates q
    ∙ ap (λ (bs : List ℕ). update bytes_eq (get_by_text c.loop-at.places) bs (Some c.loop-at.at) q) c.in_ok-from_str.ensures.ok)
