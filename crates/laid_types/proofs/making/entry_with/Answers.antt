-- What was gathered is what is to be known of the type.
use Rattle.std.proofs.Common.{◌∙◌, List, Option, take, min, ap, sym, refl}
use Rattle.syntax_trees.specs.declared.types.ValType.{ValType, out-ValType}
use Rattle.layouts.specs.Limited.{as_laid, limited, nothing}
use Rattle.laid_types.specs.Parts.{case_count, layouts, parts_of}
use Rattle.laid_types.specs.Gathered.{room_for, laid_over, flats, flat_over, ends, handles, borrows, lists, end_over, handle_over, borrow_over, list_over, depths, depth_over, tops, top_over}
use Rattle.laid_types.proofs.ByParts.{laid_by_parts, flat_by_parts}
use Rattle.laid_types.proofs.HeldByParts.{end_by_parts, handle_by_parts, borrow_by_parts, list_by_parts}
use Rattle.laid_types.proofs.DepthByParts.{depth_by_parts}
use Rattle.laid_types.proofs.TopByParts.{top_by_parts}
use Rattle.laid_types.proofs.Told.{over_parts, place_told}
use Rattle.laid_types.proofs.making.entry_with.Goals as goal

pub invariant_of-result : goal.invariant_of-result
invariant_of-result c =
    let types = c.args.types.now in
    let numbers = c.args.parts.items in
    let t = c.args.val_type in
    let parts = c.requires.parts in
    record {
      laid_is =
          over_parts types numbers t parts (λ (u : ValType) (ps : List (Option ValType)). limited (laid_over (out-ValType u) (layouts ps))) c.get.result.now c.deref.result.now _ c.get.ensures c.deref.ensures.value c.laying_of-laying.ensures.value
          ∙ ap limited (sym (laid_by_parts t));
      reach = c.laying_of-laying.ensures.reach;
      place_is =
          place_told c.case_count.result (case_count t) c.behind_tag-payload_place.result (as_laid c.payload_laying-payload.result) (layouts (parts_of t))
          (c.case_count.ensures ∙ ap case_count c.get-2.ensures)
          (over_parts types numbers t parts (λ (u : ValType) (ps : List (Option ValType)). room_for nothing (layouts ps)) t c.deref-2.result.now _ refl c.deref-2.ensures.value c.payload_laying-payload.ensures.value)
          c.behind_tag-payload_place.ensures;
      flat_is =
          over_parts types numbers t parts (λ (u : ValType) (ps : List (Option ValType)). take 17 (flat_over (out-ValType u) (flats ps))) c.get-3.result.now c.deref-3.result.now _ c.get-3.ensures c.deref-3.ensures.value c.in_ok-flat.ensures
          ∙ ap (take 17) (sym (flat_by_parts t));
      end_is =
          over_parts types numbers t parts (λ (u : ValType) (ps : List (Option ValType)). end_over (out-ValType u) (ends ps)) c.get-4.result.now c.deref-4.result.now _ c.get-4.ensures c.deref-4.ensures.value c.holding_of-holding.ensures.end
          ∙ sym (end_by_parts t);
      handle_is =
          over_parts types numbers t parts (λ (u : ValType) (ps : List (Option ValType)). handle_over (out-ValType u) (handles ps)) c.get-4.result.now c.deref-4.result.now _ c.get-4.ensures c.deref-4.ensures.value c.holding_of-holding.ensures.handle
          ∙ sym (handle_by_parts t);
      borrow_is =
          over_parts types numbers t parts (λ (u : ValType) (ps : List (Option ValType)). borrow_over (out-ValType u) (borrows ps)) c.get-4.result.now c.deref-4.result.now _ c.get-4.ensures c.deref-4.ensures.value c.holding_of-holding.ensures.borrow
          ∙ sym (borrow_by_parts t);
      list_is =
          over_parts types numbers t parts (λ (u : ValType) (ps : List (Option ValType)). list_over (out-ValType u) (lists ps)) c.get-4.result.now c.deref-4.result.now _ c.get-4.ensures c.deref-4.ensures.value c.holding_of-holding.ensures.list
          ∙ sym (list_by_parts t);
      depth_is =
          over_parts types numbers t parts (λ (u : ValType) (ps : List (Option ValType)). min (depth_over (depths ps)) 33) t c.deref-5.result.now _ refl c.deref-5.ensures.value c.depth_of-depth.ensures
          ∙ ap (λ d. min d 33) (sym (depth_by_parts t));
      top_is =
          over_parts types numbers t parts (λ (u : ValType) (ps : List (Option ValType)). top_over (out-ValType u) (tops ps)) c.get-5.result.now c.deref-6.result.now _ c.get-5.ensures c.deref-6.ensures.value c.top_of-top.ensures
          ∙ sym (top_by_parts t);
      labels_are = c.requires.labels;
    }
