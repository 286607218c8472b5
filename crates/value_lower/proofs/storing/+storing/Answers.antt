-- Each part goes on with the plan that is left.
use Rattle.std.proofs.Common.{rules, ◌≡◌, ◌∙◌, ◌+◌, ◌*◌, ◌^◌, ℕ, List, Option, Some, Err, map, length, drop, get_or, min, ◌<◌, refl, ap, sym, subst, arith}
use Rattle.std.proofs.lemmas.Result.{err_from_is_err_and}
use Rattle.std.proofs.lemmas.List.{length-map}
use denote.Param.Weighed.{most, at_most}
use Rattle.syntax_trees.proofs.value.Value.TheLaws.{the_size}
use Rattle.std.specs.List.{slice_get}
use Rattle.std.specs.Option.{option_map}
use Rattle.std.specs.Int.{byte_len}
use Rattle.syntax_trees.specs.declared.types.ValType.{ValType, out-ValType}
use Rattle.syntax_trees.specs.declared.value.Value.{Value, out-Value}
use Rattle.syntax_trees.specs.declared.value.Value.TheViews.{the_lemmas}
use Rattle.syntax_trees.specs.declared.value.Value.TheOpen as V
use Rattle.laid_types.specs.Layout.{laid, aligned, tag_size}
use Rattle.laid_types.specs.Parts.{part_at, parts_of, case_count, payload_place}
use Rattle.value_lower.specs.declared.ends.LowerWhy.TheVariants.{Bounds}
use Rattle.value_lower.specs.Plan.{New, NewOwn, NewBorrow, NewEnd, Plan, Put}
use Rattle.value_lower.specs.Following.{rooms_of, Failed, Follows}
use Rattle.value_lower.specs.Storing.{Lowered, elements_from, asked, list_in, pointed, fields_from, case_from, number_bytes, plain_bytes, text_in, width_of, flags_number}
use Rattle.value_lower.specs.Entering.{lowered, layer_of, store, store_case, index_at}
use Rattle.value_lower.specs.Fitting.{HasBytes, end_behind}
use Rattle.value_lower.proofs.Going.{same, further, goes, stops}
use Rattle.value_lower.proofs.Views.{out_string, out_list, out_record, out_variant, out_flags, out_own, out_borrow, out_stream, out_future, layer_string, layer_list, layer_record, layer_variant, layer_flags, layer_own, layer_borrow, layer_stream, layer_future}
use Rattle.value_lower.proofs.Numbered.{part_type, no_part_type, part_among, leads_among, runs_among}
use Rattle.value_lower.proofs.Plans.{list_asked, elements_at, elements_one, got, fields_left, fields_one, fields_none, fields_done, none_behind, field_at, case_plan, fewer}
use Rattle.value_lower.proofs.Bytes.{is_plain, case_bytes, row_size, plain_size, list_size, text_size, flags_size, flag_bytes, end_up}
use Rattle.value_lower.proofs.Fitted.{field_fits, element_fits, payload_fits, by_layers}
use Rattle.value_lower.proofs.storing.+storing.Goals as goal

-- Lists.
pub list_in-returns-in_default-clause-follows : goal.list_in-returns-in_default-clause-follows
list_in-returns-in_default-clause-follows g t c = λ k.
    let enter : New → (ℕ → Plan) → Plan = g.B.Beside.entering c.args.home.now.resources.now in
    let start = g.B.Beside.state c.args.room.now c.args.beside.now in
    let rooms = rooms_of g.B.Beside.memory g.B.Beside.answers g.B.Beside.wrote (g.B.Beside.adds c.args.home.now.task c.args.t.now.types) in
    let none = no_part_type c.part.result (part_at c.args.t.now.val_type 0) c.part.ensures.value c.in_default.is in
    subst (λ (o : Option ValType). Follows rooms (list_in o (map (lowered enter) c.args.values.now) k) start (Failed Bounds) start) (sym none) (refl, refl)

pub list_in-returns-in_err-place-clause-follows : goal.list_in-returns-in_err-place-clause-follows
list_in-returns-in_err-place-clause-follows g t c = λ k.
    let enter : New → (ℕ → Plan) → Plan = g.B.Beside.entering c.args.home.now.resources.now in
    let start = g.B.Beside.state c.args.room.now c.args.beside.now in
    let rooms = rooms_of g.B.Beside.memory g.B.Beside.answers g.B.Beside.wrote (g.B.Beside.adds c.args.home.now.task c.args.t.now.types) in
    let p = err_from_is_err_and c.from_residual.result c.from_residual.ensures.1 in
    let all = c.args.values.now in
    let e = c.in-Some.element.val_type in
    let there = part_type c.part.result (part_at c.args.t.now.val_type 0) c.in-Some.element c.part.ensures.value c.in-Some.is in
    let align = c.align.ensures.value ∙ ap (λ (u : ValType). (laid u).align) c.laid-laid.ensures in
    let size = c.size.ensures ∙ ap (λ (u : ValType). min (laid u).size (2 ^ 64)) c.laid-laid.ensures in
    let plan : Plan = asked (length all) c.align.result (length all * c.size.result) (elements_at enter e all k) in
    rw (p.1, p.2)
    (stops rooms (list_in (part_at c.args.t.now.val_type 0) (map (lowered enter) all) k) plan (elements_at enter e all k) k start start (g.B.Beside.state c.ask.new.room c.args.beside.now) c.in_err-place.field-0.0
    (same rooms _ plan start (list_asked enter (part_at c.args.t.now.val_type 0) e all c.align.result c.size.result k there align size))
    (c.in_err-place.ensures.follows c.args.home.now.task c.args.t.now.types (elements_at enter e all k)))

pub list_in-returns-in_err-store_elements-clause-follows : goal.list_in-returns-in_err-store_elements-clause-follows
list_in-returns-in_err-store_elements-clause-follows g t c = λ k.
    let enter : New → (ℕ → Plan) → Plan = g.B.Beside.entering c.args.home.now.resources.now in
    let start = g.B.Beside.state c.args.room.now c.args.beside.now in
    let rooms = rooms_of g.B.Beside.memory g.B.Beside.answers g.B.Beside.wrote (g.B.Beside.adds c.args.home.now.task c.args.t.now.types) in
    let p = err_from_is_err_and c.from_residual-in_err-store_elements.result c.from_residual-in_err-store_elements.ensures.1 in
    let all = c.args.values.now in
    let e = c.in-Some.element.val_type in
    let there = part_type c.part.result (part_at c.args.t.now.val_type 0) c.in-Some.element c.part.ensures.value c.in-Some.is in
    let among = part_among c.part.result c.args.t.now.types c.in-Some.element c.part.ensures.types c.in-Some.is in
    let align = c.align.ensures.value ∙ ap (λ (u : ValType). (laid u).align) c.laid-laid.ensures in
    let size = c.size.ensures ∙ ap (λ (u : ValType). min (laid u).size (2 ^ 64)) c.laid-laid.ensures in
    let plan : Plan = asked (length all) c.align.result (length all * c.size.result) (elements_at enter e all k) in
    let whole : Plan = list_in (part_at c.args.t.now.val_type 0) (map (lowered enter) all) k in
    let rest : Plan = elements_from e c.from-at.result (map (lowered enter) all) (k c.in_ok-place.place) in
    rw (p.1, p.2)
    (stops rooms {A = Unit {0}} whole rest (λ x. k c.in_ok-place.place) k start (g.B.Beside.state c.ask.new.room c.args.beside.now) (g.B.Beside.state c.store_elements.new.room c.store_elements.new.beside) c.in_err-store_elements.field-0.0
    (λ came after f.
    same rooms whole plan start (list_asked enter (part_at c.args.t.now.val_type 0) e all c.align.result c.size.result k there align size) came after
    (c.in_ok-place.ensures.follows c.args.home.now.task c.args.t.now.types (elements_at enter e all k) came after
    (same rooms (elements_at enter e all k c.in_ok-place.place) rest (g.B.Beside.state c.ask.new.room c.args.beside.now)
    (ap (λ (n : ℕ). elements_from e n (map (lowered enter) all) (k c.in_ok-place.place)) (sym c.from-at.ensures)) came after f)))
    (runs_among g.B.Beside.memory g.B.Beside.answers g.B.Beside.wrote (g.B.Beside.adds c.args.home.now.task) c.in-Some.element.types c.args.t.now.types among {A = Unit {0}} rest (λ x. k c.in_ok-place.place) (g.B.Beside.state c.ask.new.room c.args.beside.now) (g.B.Beside.state c.store_elements.new.room c.store_elements.new.beside)
    (Err c.in_err-store_elements.field-0.0) (c.in_err-store_elements.ensures.follows (k c.in_ok-place.place))))

pub list_in-returns-clause-follows : goal.list_in-returns-clause-follows
list_in-returns-clause-follows g t c = λ k came after f.
    let enter : New → (ℕ → Plan) → Plan = g.B.Beside.entering c.args.home.now.resources.now in
    let start = g.B.Beside.state c.args.room.now c.args.beside.now in
    let rooms = rooms_of g.B.Beside.memory g.B.Beside.answers g.B.Beside.wrote (g.B.Beside.adds c.args.home.now.task c.args.t.now.types) in
    let all = c.args.values.now in
    let e = c.in-Some.element.val_type in
    let there = part_type c.part.result (part_at c.args.t.now.val_type 0) c.in-Some.element c.part.ensures.value c.in-Some.is in
    let among = part_among c.part.result c.args.t.now.types c.in-Some.element c.part.ensures.types c.in-Some.is in
    let align = c.align.ensures.value ∙ ap (λ (u : ValType). (laid u).align) c.laid-laid.ensures in
    let size = c.size.ensures ∙ ap (λ (u : ValType). min (laid u).size (2 ^ 64)) c.laid-laid.ensures in
    let plan : Plan = asked (length all) c.align.result (length all * c.size.result) (elements_at enter e all k) in
    let whole : Plan = list_in (part_at c.args.t.now.val_type 0) (map (lowered enter) all) k in
    let rest : Plan = elements_from e c.from-at.result (map (lowered enter) all) (k c.in_ok-place.place) in
    same rooms whole plan start (list_asked enter (part_at c.args.t.now.val_type 0) e all c.align.result c.size.result k there align size) came after
    (c.in_ok-place.ensures.follows c.args.home.now.task c.args.t.now.types (elements_at enter e all k) came after
    (same rooms (elements_at enter e all k c.in_ok-place.place) rest (g.B.Beside.state c.ask.new.room c.args.beside.now)
    (ap (λ (n : ℕ). elements_from e n (map (lowered enter) all) (k c.in_ok-place.place)) (sym c.from-at.ensures)) came after
    (leads_among g.B.Beside.memory g.B.Beside.answers g.B.Beside.wrote (g.B.Beside.adds c.args.home.now.task) c.in-Some.element.types c.args.t.now.types among rest (k c.in_ok-place.place) (g.B.Beside.state c.ask.new.room c.args.beside.now) (g.B.Beside.state c.store_elements.new.room c.store_elements.new.beside)
    (c.in_ok-store_elements.ensures.follows (k c.in_ok-place.place)) came after f)))

pub store_elements-returns-in_err-store_value-clause-follows : goal.store_elements-returns-in_err-store_value-clause-follows
store_elements-returns-in_err-store_value-clause-follows g t c = λ k.
    let enter : New → (ℕ → Plan) → Plan = g.B.Beside.entering c.args.home.now.resources.now in
    let start = g.B.Beside.state c.args.room.now c.args.beside.now in
    let rooms = rooms_of g.B.Beside.memory g.B.Beside.answers g.B.Beside.wrote (g.B.Beside.adds c.args.home.now.task c.args.t.now.types) in
    let p = err_from_is_err_and c.from_residual.result c.from_residual.ensures.1 in
    let l = c.loop-value in
    let e = c.args.t.now.val_type in
    let all = c.args.values.now in
    let rest : Plan = elements_from e (l.at + (laid e).size) (map (lowered enter) (drop (l.value-index + 1) all)) k in
    let left : Plan = elements_from e l.at (map (lowered enter) (drop l.value-index all)) k in
    let part : Plan = store enter e c.value-item.result l.at rest in
    let whole : Plan = elements_from e c.args.place (map (lowered enter) all) k in
    rw (p.1, p.2)
    (stops rooms {A = Unit {0}} {B = Unit {0}} whole part (λ x. rest) (λ x. k) start (g.B.Beside.state l.room l.beside) (g.B.Beside.state c.store_value.new.room c.store_value.new.beside) c.in_err-store_value.field-0.0
    (further rooms whole left part start (g.B.Beside.state l.room l.beside) (g.B.Beside.state l.room l.beside) (l.invariant.leads k)
    (same rooms left part (g.B.Beside.state l.room l.beside) (elements_one enter e l.at l.value-index all c.value-item.result k c.loop-value-test.true c.value-item.is)))
    (c.in_err-store_value.ensures.follows rest))

-- Records.
pub store_fields-loop-index-preserved-in_default : goal.store_fields-loop-index-preserved-in_default
store_fields-loop-index-preserved-in_default g t c =
    let enter : New → (ℕ → Plan) → Plan = g.B.Beside.entering c.args.home.now.resources.now in
    let start = g.B.Beside.state c.args.room.now c.args.beside.now in
    let rooms = rooms_of g.B.Beside.memory g.B.Beside.answers g.B.Beside.wrote (g.B.Beside.adds c.args.home.now.task c.args.t.now.types) in
    let l = c.loop-index in
    let all = c.args.values.now in
    let types = parts_of c.args.t.now.val_type in
    let none = no_part_type c.part.result (part_at c.args.t.now.val_type l.index) c.part.ensures.value c.in_default.is in
    record {
      leads = λ k.
          further rooms (fields_from c.args.place 0 types (map (lowered enter) all) k) (fields_left enter c.args.place l.end l.index types all k)
          (fields_left enter c.args.place l.end (l.index + 1) types all k) start (g.B.Beside.state l.room l.beside) (g.B.Beside.state l.room l.beside) (l.invariant.leads k)
          (same rooms (fields_left enter c.args.place l.end l.index types all k) (fields_left enter c.args.place l.end (l.index + 1) types all k) (g.B.Beside.state l.room l.beside)
          (fields_none enter c.args.place l.end l.index types all c.index-values-index.result k none c.loop-index-test.true c.index-values-index.is));
      bytes = subst (λ (n : ℕ). HasBytes c.args.place n (length (g.B.Beside.memory (g.B.Beside.state l.room l.beside)))) (none_behind l.end l.index types none) l.invariant.bytes;
      grows = l.invariant.grows;
    }

pub store_fields-aligned-start-requires-clause-place : goal.store_fields-aligned-start-requires-clause-place
store_fields-aligned-start-requires-clause-place g t c =
    let l = c.loop-index in
    omega (arith, c.from.ensures, l.invariant.bytes.reach, end_up (drop l.index (parts_of c.args.t.now.val_type)) l.end)

pub store_fields-overflow_cast-start : goal.store_fields-overflow_cast-start
store_fields-overflow_cast-start g t c =
    let l = c.loop-index in
    let there = part_type c.part.result (part_at c.args.t.now.val_type l.index) c.in-Some.part c.part.ensures.value c.in-Some.is in
    let align = c.align.ensures.value ∙ ap (λ (u : ValType). (laid u).align) c.laid-laid.ensures in
    let f =
    field_at c.args.place l.end (length (g.B.Beside.memory (g.B.Beside.state l.room l.beside))) l.index (parts_of c.args.t.now.val_type) c.in-Some.part.val_type c.align.result c.from.result c.aligned-start.result there
    l.invariant.bytes align c.from.ensures c.aligned-start.ensures.value in
    omega (arith, f.bytes.reach)

pub store_fields-overflow_add-place : goal.store_fields-overflow_add-place
store_fields-overflow_add-place g t c =
    let l = c.loop-index in
    let there = part_type c.part.result (part_at c.args.t.now.val_type l.index) c.in-Some.part c.part.ensures.value c.in-Some.is in
    let align = c.align.ensures.value ∙ ap (λ (u : ValType). (laid u).align) c.laid-laid.ensures in
    let f =
    field_at c.args.place l.end (length (g.B.Beside.memory (g.B.Beside.state l.room l.beside))) l.index (parts_of c.args.t.now.val_type) c.in-Some.part.val_type c.align.result c.from.result c.aligned-start.result there
    l.invariant.bytes align c.from.ensures c.aligned-start.ensures.value in
    omega (arith, f.bytes.reach)

pub store_fields-store_value-requires : goal.store_fields-store_value-requires
store_fields-store_value-requires g t c κs within =
    let l = c.loop-index in
    let there = part_type c.part.result (part_at c.args.t.now.val_type l.index) c.in-Some.part c.part.ensures.value c.in-Some.is in
    let align = c.align.ensures.value ∙ ap (λ (u : ValType). (laid u).align) c.laid-laid.ensures in
    let f =
    field_at c.args.place l.end (length (g.B.Beside.memory (g.B.Beside.state l.room l.beside))) l.index (parts_of c.args.t.now.val_type) c.in-Some.part.val_type c.align.result c.from.result c.aligned-start.result there
    l.invariant.bytes align c.from.ensures c.aligned-start.ensures.value in
    let v = c.index-values-index.result in
    let all = c.args.values.now in
    let measure : 5 * most the_size all + 2 ≡ t = c.decreases in
    let one : the_size v ≡ the_size (get_or all l.index v) = ap the_size c.index-values-index.is in
    let below : 5 * the_size v + 1 < t = omega (arith, measure, one, at_most the_size all l.index v c.loop-index-test.true) in
    (below, (search rules, (search rules, (search rules, (c.requires.fit l.index v c.in-Some.part.val_type (got all l.index v c.loop-index-test.true c.index-values-index.is) there, f.bytes)))))

pub store_fields-returns-in_err-store_value-clause-follows : goal.store_fields-returns-in_err-store_value-clause-follows
store_fields-returns-in_err-store_value-clause-follows g t c = λ k.
    let enter : New → (ℕ → Plan) → Plan = g.B.Beside.entering c.args.home.now.resources.now in
    let start = g.B.Beside.state c.args.room.now c.args.beside.now in
    let rooms = rooms_of g.B.Beside.memory g.B.Beside.answers g.B.Beside.wrote (g.B.Beside.adds c.args.home.now.task c.args.t.now.types) in
    let p = err_from_is_err_and c.from_residual.result c.from_residual.ensures.1 in
    let l = c.loop-index in
    let there = part_type c.part.result (part_at c.args.t.now.val_type l.index) c.in-Some.part c.part.ensures.value c.in-Some.is in
    let align = c.align.ensures.value ∙ ap (λ (u : ValType). (laid u).align) c.laid-laid.ensures in
    let f =
    field_at c.args.place l.end (length (g.B.Beside.memory (g.B.Beside.state l.room l.beside))) l.index (parts_of c.args.t.now.val_type) c.in-Some.part.val_type c.align.result c.from.result c.aligned-start.result there
    l.invariant.bytes align c.from.ensures c.aligned-start.ensures.value in
    let all = c.args.values.now in
    let types = parts_of c.args.t.now.val_type in
    let among = part_among c.part.result c.args.t.now.types c.in-Some.part c.part.ensures.types c.in-Some.is in
    let q = c.in-Some.part.val_type in
    let v = c.index-values-index.result in
    let place = c.args.place in
    let rest : Plan = fields_left enter place (aligned l.end (laid q).align + (laid q).size) (l.index + 1) types all k in
    let left : Plan = fields_left enter place l.end l.index types all k in
    let part : Plan = store enter q v (place + c.aligned-start.result) rest in
    let whole : Plan = fields_from place 0 types (map (lowered enter) all) k in
    rw (p.1, p.2)
    (stops rooms {A = Unit {0}} {B = Unit {0}} whole part (λ x. rest) (λ x. k) start (g.B.Beside.state l.room l.beside) (g.B.Beside.state c.store_value.new.room c.store_value.new.beside) c.in_err-store_value.field-0.0
    (further rooms whole left part start (g.B.Beside.state l.room l.beside) (g.B.Beside.state l.room l.beside) (l.invariant.leads k)
    (same rooms left part (g.B.Beside.state l.room l.beside)
    (fields_one enter place l.end l.index types all q v k there c.loop-index-test.true c.index-values-index.is ∙ ap (λ (n : ℕ). store enter q v (place + n) rest) (sym f.start_is))))
    (runs_among g.B.Beside.memory g.B.Beside.answers g.B.Beside.wrote (g.B.Beside.adds c.args.home.now.task) c.in-Some.part.types c.args.t.now.types among {A = Unit {0}} part (λ x. rest) (g.B.Beside.state l.room l.beside) (g.B.Beside.state c.store_value.new.room c.store_value.new.beside)
    (Err c.in_err-store_value.field-0.0) (c.in_err-store_value.ensures.follows rest)))

pub store_fields-overflow_cast-end : goal.store_fields-overflow_cast-end
store_fields-overflow_cast-end g t c =
    let l = c.loop-index in
    let there = part_type c.part.result (part_at c.args.t.now.val_type l.index) c.in-Some.part c.part.ensures.value c.in-Some.is in
    let align = c.align.ensures.value ∙ ap (λ (u : ValType). (laid u).align) c.laid-laid.ensures in
    let f =
    field_at c.args.place l.end (length (g.B.Beside.memory (g.B.Beside.state l.room l.beside))) l.index (parts_of c.args.t.now.val_type) c.in-Some.part.val_type c.align.result c.from.result c.aligned-start.result there
    l.invariant.bytes align c.from.ensures c.aligned-start.ensures.value in
    omega (arith, f.bytes.reach, c.size.ensures, ap (λ (u : ValType). (laid u).size) c.laid-laid.ensures)

pub store_fields-overflow_add-end : goal.store_fields-overflow_add-end
store_fields-overflow_add-end g t c =
    let l = c.loop-index in
    let there = part_type c.part.result (part_at c.args.t.now.val_type l.index) c.in-Some.part c.part.ensures.value c.in-Some.is in
    let align = c.align.ensures.value ∙ ap (λ (u : ValType). (laid u).align) c.laid-laid.ensures in
    let f =
    field_at c.args.place l.end (length (g.B.Beside.memory (g.B.Beside.state l.room l.beside))) l.index (parts_of c.args.t.now.val_type) c.in-Some.part.val_type c.align.result c.from.result c.aligned-start.result there
    l.invariant.bytes align c.from.ensures c.aligned-start.ensures.value in
    omega (arith, f.bytes.reach, c.size.ensures, ap (λ (u : ValType). (laid u).size) c.laid-laid.ensures)

pub store_fields-loop-index-preserved : goal.store_fields-loop-index-preserved
store_fields-loop-index-preserved g t c =
    let enter : New → (ℕ → Plan) → Plan = g.B.Beside.entering c.args.home.now.resources.now in
    let start = g.B.Beside.state c.args.room.now c.args.beside.now in
    let rooms = rooms_of g.B.Beside.memory g.B.Beside.answers g.B.Beside.wrote (g.B.Beside.adds c.args.home.now.task c.args.t.now.types) in
    let l = c.loop-index in
    let there = part_type c.part.result (part_at c.args.t.now.val_type l.index) c.in-Some.part c.part.ensures.value c.in-Some.is in
    let align = c.align.ensures.value ∙ ap (λ (u : ValType). (laid u).align) c.laid-laid.ensures in
    let f =
    field_at c.args.place l.end (length (g.B.Beside.memory (g.B.Beside.state l.room l.beside))) l.index (parts_of c.args.t.now.val_type) c.in-Some.part.val_type c.align.result c.from.result c.aligned-start.result there
    l.invariant.bytes align c.from.ensures c.aligned-start.ensures.value in
    let all = c.args.values.now in
    let types = parts_of c.args.t.now.val_type in
    let among = part_among c.part.result c.args.t.now.types c.in-Some.part c.part.ensures.types c.in-Some.is in
    let q = c.in-Some.part.val_type in
    let v = c.index-values-index.result in
    let place = c.args.place in
    let limited : c.size.result ≡ min (laid q).size (2 ^ 64) = c.size.ensures ∙ ap (λ (u : ValType). min (laid u).size (2 ^ 64)) c.laid-laid.ensures in
    let size : c.size.result ≡ (laid q).size = omega (arith, limited, f.bytes.reach) in
    let end : aligned l.end (laid q).align + (laid q).size ≡ c.aligned-start.result + c.size.result = omega (arith, size, f.start_is) in
    let left : end_behind l.end (drop l.index types) ≡ end_behind (c.aligned-start.result + c.size.result) (drop (l.index + 1) types) =
    f.next ∙ ap (λ (n : ℕ). end_behind (c.aligned-start.result + n) (drop (l.index + 1) types)) (sym size) in
    record {
      leads = λ k.
          let rest : Plan = fields_left enter place (aligned l.end (laid q).align + (laid q).size) (l.index + 1) types all k in
          let left : Plan = fields_left enter place l.end l.index types all k in
          let part : Plan = store enter q v (place + c.aligned-start.result) rest in
          let whole : Plan = fields_from place 0 types (map (lowered enter) all) k in
          further rooms whole left (fields_left enter place (c.aligned-start.result + c.size.result) (l.index + 1) types all k) start (g.B.Beside.state l.room l.beside) (g.B.Beside.state c.store_value.new.room c.store_value.new.beside) (l.invariant.leads k)
          (λ came after h.
          same rooms left part (g.B.Beside.state l.room l.beside)
          (fields_one enter place l.end l.index types all q v k there c.loop-index-test.true c.index-values-index.is ∙ ap (λ (n : ℕ). store enter q v (place + n) rest) (sym f.start_is)) came after
          (leads_among g.B.Beside.memory g.B.Beside.answers g.B.Beside.wrote (g.B.Beside.adds c.args.home.now.task) c.in-Some.part.types c.args.t.now.types among part rest (g.B.Beside.state l.room l.beside) (g.B.Beside.state c.store_value.new.room c.store_value.new.beside) (c.in_ok-store_value.ensures.follows rest) came after
          (same rooms rest (fields_left enter place (c.aligned-start.result + c.size.result) (l.index + 1) types all k) (g.B.Beside.state c.store_value.new.room c.store_value.new.beside)
          (ap (λ (n : ℕ). fields_left enter place n (l.index + 1) types all k) end) came after h)));
      bytes = record { inside = omega (arith, left, l.invariant.bytes.inside, c.in_ok-store_value.ensures.grows); reach = omega (arith, left, l.invariant.bytes.reach) };
      grows = omega (arith, l.invariant.grows, c.in_ok-store_value.ensures.grows);
    }

pub store_fields-returns-clause-follows : goal.store_fields-returns-clause-follows
store_fields-returns-clause-follows g t c = λ k.
    let enter : New → (ℕ → Plan) → Plan = g.B.Beside.entering c.args.home.now.resources.now in
    let start = g.B.Beside.state c.args.room.now c.args.beside.now in
    let rooms = rooms_of g.B.Beside.memory g.B.Beside.answers g.B.Beside.wrote (g.B.Beside.adds c.args.home.now.task c.args.t.now.types) in
    let l = c.loop-index in
    let all = c.args.values.now in
    let types = parts_of c.args.t.now.val_type in
    further rooms (fields_from c.args.place 0 types (map (lowered enter) all) k) (fields_left enter c.args.place l.end l.index types all k) k start (g.B.Beside.state l.room l.beside) (g.B.Beside.state l.room l.beside)
    (l.invariant.leads k)
    (same rooms (fields_left enter c.args.place l.end l.index types all k) k (g.B.Beside.state l.room l.beside) (fields_done enter c.args.place l.end l.index types all k (omega arith)))

-- Cases.
pub store_case-returns-clause-follows : goal.store_case-returns-clause-follows
store_case-returns-clause-follows g t c = λ k.
    let enter : New → (ℕ → Plan) → Plan = g.B.Beside.entering c.args.home.now.resources.now in
    let start = g.B.Beside.state c.args.room.now c.args.beside.now in
    let rooms = rooms_of g.B.Beside.memory g.B.Beside.answers g.B.Beside.wrote (g.B.Beside.adds c.args.home.now.task c.args.t.now.types) in
    let n = c.args.case in
    let o = c.args.payload.now in
    let v = c.get.result.now in
    let type = c.args.t.now.val_type in
    let there = part_type c.part.result (part_at type n) c.in-Some-part.part c.part.ensures.value c.in-Some-part.is in
    let among = part_among c.part.result c.args.t.now.types c.in-Some-part.part c.part.ensures.types c.in-Some-part.is in
    let q = c.in-Some-part.part.val_type in
    let whole : Plan = case_from type n (option_map (lowered enter) o) c.args.place k in
    let part : Plan = store enter q v (c.args.place + c.from.result) k in
    goes rooms whole part (λ x. k) start (g.B.Beside.state c.put_number.new.room c.args.beside.now) (g.B.Beside.state c.store_value.new.room c.store_value.new.beside) c.store_value.result
    (λ came after f.
    same rooms whole (Put c.args.place (number_bytes c.tag_size.result n) part) start
    (case_plan enter type n o v q c.args.place c.tag_size.result c.from.result k (c.in-Some.is ∙ ap (λ (x : Value). Some x) (sym c.get.ensures)) there
    (c.tag_size.ensures.value ∙ ap (λ (u : ValType). tag_size (case_count u)) c.laid-laid.ensures)
    (c.from.ensures ∙ c.payload_place.ensures ∙ ap payload_place c.laid-laid.ensures)) came after (c.put_number.ensures.leads c.args.home.now.task c.args.t.now.types part came after f))
    (runs_among g.B.Beside.memory g.B.Beside.answers g.B.Beside.wrote (g.B.Beside.adds c.args.home.now.task) c.in-Some-part.part.types c.args.t.now.types among {A = Unit {0}} part (λ x. k) (g.B.Beside.state c.put_number.new.room c.args.beside.now) (g.B.Beside.state c.store_value.new.room c.store_value.new.beside) c.store_value.result
    (c.store_value.ensures.follows k))

-- Values.
pub store_layer-store_text-requires : goal.store_layer-store_text-requires
store_layer-store_text-requires g t c =
    let type = c.args.t.now.val_type in
    let h = by_layers type c.args.value.now (V.String c.in-String.text) c.requires.fits (out_string c.args.value.now c.in-String.text c.in-String.is) in
    let e = text_size type c.in-String.text h in
    fewer c.args.place (laid type).size 8 (length (g.B.Beside.memory (g.B.Beside.state c.args.room.now c.args.beside.now))) (omega (arith, e)) c.requires.bytes

pub store_layer-store_list-requires : goal.store_layer-store_list-requires
store_layer-store_list-requires g t c κs within =
    let type = c.args.t.now.val_type in
    let all = c.in-List.values in
    let h = by_layers type c.args.value.now (V.List all) c.requires.fits (out_list c.args.value.now all c.in-List.is) in
    let e = list_size type all h in
    (search (rules, the_lemmas), (search rules, (search rules, (search rules, (λ p i n v j. element_fits (out-ValType type) all p n v h i (sym (ap (λ (xs : List Value). slice_get xs n) c.as_slice.ensures) ∙ j), fewer c.args.place (laid type).size 8 (length (g.B.Beside.memory (g.B.Beside.state c.args.room.now c.args.beside.now))) (omega (arith, e)) c.requires.bytes)))))

pub store_layer-store_fields-requires : goal.store_layer-store_fields-requires
store_layer-store_fields-requires g t c κs within =
    let type = c.args.t.now.val_type in
    let all = c.in-Record.values in
    let h = by_layers type c.args.value.now (V.Record all) c.requires.fits (out_record c.args.value.now all c.in-Record.is) in
    (search (rules, the_lemmas), (search rules, (search rules, (search rules, (λ n v p i j. field_fits (out-ValType type) all n v p h (sym (ap (λ (xs : List Value). slice_get xs n) c.as_slice-in-Record.ensures) ∙ i) j, fewer c.args.place (laid type).size (end_behind 0 (parts_of type)) (length (g.B.Beside.memory (g.B.Beside.state c.args.room.now c.args.beside.now))) (row_size type all h) c.requires.bytes)))))

pub store_layer-store_case-requires : goal.store_layer-store_case-requires
store_layer-store_case-requires g t c κs within =
    let type = c.args.t.now.val_type in
    let n = c.in-Variant.case in
    let o = c.in-Variant.payload in
    let w = out_variant c.args.value.now n o c.in-Variant.is in
    let h = by_layers type c.args.value.now (V.Variant n o) c.requires.fits w in
    (search (rules, the_lemmas), (search rules, (search rules, (search rules, (λ v p i j. payload_fits (out-ValType type) n v p (by_layers type c.args.value.now (V.Variant n (Some v)) c.requires.fits (w ∙ ap (λ (x : Option Value). (let y : V.Value-F Value = V.Variant n x in y)) i)) j, case_bytes type c.args.place (length (g.B.Beside.memory (g.B.Beside.state c.args.room.now c.args.beside.now))) n o h c.requires.bytes)))))

pub store_layer-put_number-requires : goal.store_layer-put_number-requires
store_layer-put_number-requires g t c =
    let type = c.args.t.now.val_type in
    let flags = c.in-Flags.flags in
    let h = by_layers type c.args.value.now (V.Flags flags) c.requires.fits (out_flags c.args.value.now flags c.in-Flags.is) in
    let s = flags_size type flags h in
    let e : byte_len (width_of c.align.result) ≡ (laid type).size =
    ap (λ (n : ℕ). byte_len (width_of n)) (c.align.ensures.value ∙ ap (λ (u : ValType). (laid u).align) c.laid-laid.ensures ∙ s.1) ∙ flag_bytes (length flags) ∙ sym s.0 in
    fewer c.args.place (laid type).size (byte_len (width_of c.align.result)) (length (g.B.Beside.memory (g.B.Beside.state c.args.room.now c.args.beside.now))) (omega (arith, e)) c.requires.bytes

pub store_layer-store_index-requires : goal.store_layer-store_index-requires
store_layer-store_index-requires g t c =
    let type = c.args.t.now.val_type in
    let w : V.Value-F Value = V.Own c.in-Own.handle in
    let h = by_layers type c.args.value.now w c.requires.fits (out_own c.args.value.now c.in-Own.handle c.in-Own.is) in
    let s = plain_size type w h tt in
    let e : 4 ≡ (laid type).size = s.1 in
    fewer c.args.place (laid type).size 4 (length (g.B.Beside.memory (g.B.Beside.state c.args.room.now c.args.beside.now))) (omega (arith, e)) c.requires.bytes

pub store_layer-store_index-requires-in-Borrow : goal.store_layer-store_index-requires-in-Borrow
store_layer-store_index-requires-in-Borrow g t c =
    let type = c.args.t.now.val_type in
    let w : V.Value-F Value = V.Borrow c.in-Borrow.handle in
    let h = by_layers type c.args.value.now w c.requires.fits (out_borrow c.args.value.now c.in-Borrow.handle c.in-Borrow.is) in
    let s = plain_size type w h tt in
    let e : 4 ≡ (laid type).size = s.1 in
    fewer c.args.place (laid type).size 4 (length (g.B.Beside.memory (g.B.Beside.state c.args.room.now c.args.beside.now))) (omega (arith, e)) c.requires.bytes

pub store_layer-store_index-requires-in-Stream : goal.store_layer-store_index-requires-in-Stream
store_layer-store_index-requires-in-Stream g t c =
    let type = c.args.t.now.val_type in
    let w : V.Value-F Value = V.Stream c.in-Stream.number in
    let h = by_layers type c.args.value.now w c.requires.fits (out_stream c.args.value.now c.in-Stream.number c.in-Stream.is) in
    let s = plain_size type w h tt in
    let e : 4 ≡ (laid type).size = s.1 in
    fewer c.args.place (laid type).size 4 (length (g.B.Beside.memory (g.B.Beside.state c.args.room.now c.args.beside.now))) (omega (arith, e)) c.requires.bytes

pub store_layer-store_index-requires-in-Future : goal.store_layer-store_index-requires-in-Future
store_layer-store_index-requires-in-Future g t c =
    let type = c.args.t.now.val_type in
    let w : V.Value-F Value = V.Future c.in-Future.number in
    let h = by_layers type c.args.value.now w c.requires.fits (out_future c.args.value.now c.in-Future.number c.in-Future.is) in
    let s = plain_size type w h tt in
    let e : 4 ≡ (laid type).size = s.1 in
    fewer c.args.place (laid type).size 4 (length (g.B.Beside.memory (g.B.Beside.state c.args.room.now c.args.beside.now))) (omega (arith, e)) c.requires.bytes

pub store_layer-put_plain-requires : goal.store_layer-put_plain-requires
store_layer-put_plain-requires g t c =
    let v = c.args.value.now in
    let d = c.in_default in
    let i = is_plain v d.not-String d.not-List d.not-Record d.not-Variant d.not-Flags in
    let s = plain_size c.args.t.now.val_type (out-Value v) (by_layers c.args.t.now.val_type v (out-Value v) c.requires.fits refl) i in
    record {
      some = s.0;
      bytes = fewer c.args.place (laid c.args.t.now.val_type).size (length (plain_bytes (out-Value v))) (length (g.B.Beside.memory (g.B.Beside.state c.args.room.now c.args.beside.now))) (omega (arith, s.1)) c.requires.bytes;
    }

pub store_layer-returns-in-String-clause-follows : goal.store_layer-returns-in-String-clause-follows
store_layer-returns-in-String-clause-follows g t c = λ k.
    let enter : New → (ℕ → Plan) → Plan = g.B.Beside.entering c.args.home.now.resources.now in
    let start = g.B.Beside.state c.args.room.now c.args.beside.now in
    let rooms = rooms_of g.B.Beside.memory g.B.Beside.answers g.B.Beside.wrote (g.B.Beside.adds c.args.home.now.task c.args.t.now.types) in
    let type = c.args.t.now.val_type in
    let text = c.in-String.text in
    let whole : Plan = store_case enter (layer_of enter c.args.value.now) type c.args.place k in
    let part : List ℕ → Plan = λ (bytes : List ℕ). text_in bytes (λ to. pointed c.args.place to (length bytes) k) in
    goes rooms whole (part c.as_str.result.now) (λ x. k) start start (g.B.Beside.state c.store_text.new.room c.args.beside.now) c.store_text.result
    (same rooms whole (part c.as_str.result.now) start
    (ap (λ (w : V.Value-F Lowered). store_case enter w type c.args.place k) (layer_string enter c.args.value.now text c.in-String.is) ∙ ap part (sym c.as_str.ensures)))
    (c.store_text.ensures.follows c.args.home.now.task c.args.t.now.types k)

pub store_layer-returns-in-List-clause-follows : goal.store_layer-returns-in-List-clause-follows
store_layer-returns-in-List-clause-follows g t c = λ k.
    let enter : New → (ℕ → Plan) → Plan = g.B.Beside.entering c.args.home.now.resources.now in
    let start = g.B.Beside.state c.args.room.now c.args.beside.now in
    let rooms = rooms_of g.B.Beside.memory g.B.Beside.answers g.B.Beside.wrote (g.B.Beside.adds c.args.home.now.task c.args.t.now.types) in
    let type = c.args.t.now.val_type in
    let all = c.in-List.values in
    let whole : Plan = store_case enter (layer_of enter c.args.value.now) type c.args.place k in
    let part : List Value → Plan = λ (vs : List Value). list_in (part_at type 0) (map (lowered enter) vs) (λ to. pointed c.args.place to (length vs) k) in
    goes rooms whole (part c.as_slice.result.now) (λ x. k) start start (g.B.Beside.state c.store_list.new.room c.store_list.new.beside) c.store_list.result
    (same rooms whole (part c.as_slice.result.now) start
    (ap (λ (w : V.Value-F Lowered). store_case enter w type c.args.place k) (layer_list enter c.args.value.now all c.in-List.is)
    ∙ ap (λ (n : ℕ). list_in (part_at type 0) (map (lowered enter) all) (λ to. pointed c.args.place to n k)) (length-map all (lowered enter))
    ∙ ap part (sym c.as_slice.ensures)))
    (c.store_list.ensures.follows k)

pub store_layer-returns-in-Record-clause-follows : goal.store_layer-returns-in-Record-clause-follows
store_layer-returns-in-Record-clause-follows g t c = λ k.
    let enter : New → (ℕ → Plan) → Plan = g.B.Beside.entering c.args.home.now.resources.now in
    let start = g.B.Beside.state c.args.room.now c.args.beside.now in
    let rooms = rooms_of g.B.Beside.memory g.B.Beside.answers g.B.Beside.wrote (g.B.Beside.adds c.args.home.now.task c.args.t.now.types) in
    let type = c.args.t.now.val_type in
    let all = c.in-Record.values in
    let whole : Plan = store_case enter (layer_of enter c.args.value.now) type c.args.place k in
    let part : List Value → Plan = λ (vs : List Value). fields_from c.args.place 0 (parts_of type) (map (lowered enter) vs) k in
    goes rooms whole (part c.as_slice-in-Record.result.now) (λ x. k) start start (g.B.Beside.state c.store_fields.new.room c.store_fields.new.beside) c.store_fields.result
    (same rooms whole (part c.as_slice-in-Record.result.now) start
    (ap (λ (w : V.Value-F Lowered). store_case enter w type c.args.place k) (layer_record enter c.args.value.now all c.in-Record.is) ∙ ap part (sym c.as_slice-in-Record.ensures)))
    (c.store_fields.ensures.follows k)

pub store_layer-returns-in-Variant-clause-follows : goal.store_layer-returns-in-Variant-clause-follows
store_layer-returns-in-Variant-clause-follows g t c = λ k.
    let enter : New → (ℕ → Plan) → Plan = g.B.Beside.entering c.args.home.now.resources.now in
    let start = g.B.Beside.state c.args.room.now c.args.beside.now in
    let rooms = rooms_of g.B.Beside.memory g.B.Beside.answers g.B.Beside.wrote (g.B.Beside.adds c.args.home.now.task c.args.t.now.types) in
    let type = c.args.t.now.val_type in
    let whole : Plan = store_case enter (layer_of enter c.args.value.now) type c.args.place k in
    let part : Plan = case_from type c.in-Variant.case (option_map (lowered enter) c.in-Variant.payload) c.args.place k in
    goes rooms whole part (λ x. k) start start (g.B.Beside.state c.store_case.new.room c.store_case.new.beside) c.store_case.result
    (same rooms whole part start
    (ap (λ (w : V.Value-F Lowered). store_case enter w type c.args.place k) (layer_variant enter c.args.value.now c.in-Variant.case c.in-Variant.payload c.in-Variant.is)))
    (c.store_case.ensures.follows k)

pub store_layer-returns-in-Flags-clause-follows : goal.store_layer-returns-in-Flags-clause-follows
store_layer-returns-in-Flags-clause-follows g t c = λ k came after f.
    let enter : New → (ℕ → Plan) → Plan = g.B.Beside.entering c.args.home.now.resources.now in
    let start = g.B.Beside.state c.args.room.now c.args.beside.now in
    let rooms = rooms_of g.B.Beside.memory g.B.Beside.answers g.B.Beside.wrote (g.B.Beside.adds c.args.home.now.task c.args.t.now.types) in
    let type = c.args.t.now.val_type in
    let flags = c.in-Flags.flags in
    let h = by_layers type c.args.value.now (V.Flags flags) c.requires.fits (out_flags c.args.value.now flags c.in-Flags.is) in
    let s = flags_size type flags h in
    same rooms (store_case enter (layer_of enter c.args.value.now) type c.args.place k) (Put c.args.place (number_bytes c.align.result c.flags_number-number.result) k) start
    (ap (λ (w : V.Value-F Lowered). store_case enter w type c.args.place k) (layer_flags enter c.args.value.now flags c.in-Flags.is)
    ∙ ap (λ (n : ℕ). Put c.args.place (number_bytes n (flags_number flags)) k) (sym (c.align.ensures.value ∙ ap (λ (u : ValType). (laid u).align) c.laid-laid.ensures ∙ s.1))
    ∙ ap (λ (n : ℕ). Put c.args.place (number_bytes c.align.result n) k) (sym (c.flags_number-number.ensures ∙ ap flags_number c.as_slice-in-Flags.ensures))) came after
    (c.put_number.ensures.leads c.args.home.now.task c.args.t.now.types k came after f)

pub store_layer-returns-in-Own-clause-follows : goal.store_layer-returns-in-Own-clause-follows
store_layer-returns-in-Own-clause-follows g t c = λ k.
    let enter : New → (ℕ → Plan) → Plan = g.B.Beside.entering c.args.home.now.resources.now in
    let start = g.B.Beside.state c.args.room.now c.args.beside.now in
    let rooms = rooms_of g.B.Beside.memory g.B.Beside.answers g.B.Beside.wrote (g.B.Beside.adds c.args.home.now.task c.args.t.now.types) in
    let type = c.args.t.now.val_type in
    let whole : Plan = store_case enter (layer_of enter c.args.value.now) type c.args.place k in
    let part : Plan = index_at enter (NewOwn c.in-Own.handle.resource c.in-Own.handle.rep) c.args.place k in
    goes rooms whole part (λ x. k) start start (g.B.Beside.state c.store_index.new.room c.store_index.new.beside) c.store_index.result
    (same rooms whole part start (ap (λ (w : V.Value-F Lowered). store_case enter w type c.args.place k) (layer_own enter c.args.value.now c.in-Own.handle c.in-Own.is)))
    (c.store_index.ensures.follows k)

pub store_layer-returns-in-Borrow-clause-follows : goal.store_layer-returns-in-Borrow-clause-follows
store_layer-returns-in-Borrow-clause-follows g t c = λ k.
    let enter : New → (ℕ → Plan) → Plan = g.B.Beside.entering c.args.home.now.resources.now in
    let start = g.B.Beside.state c.args.room.now c.args.beside.now in
    let rooms = rooms_of g.B.Beside.memory g.B.Beside.answers g.B.Beside.wrote (g.B.Beside.adds c.args.home.now.task c.args.t.now.types) in
    let type = c.args.t.now.val_type in
    let whole : Plan = store_case enter (layer_of enter c.args.value.now) type c.args.place k in
    let part : Plan = index_at enter (NewBorrow c.in-Borrow.handle.resource c.in-Borrow.handle.rep) c.args.place k in
    goes rooms whole part (λ x. k) start start (g.B.Beside.state c.store_index-in-Borrow.new.room c.store_index-in-Borrow.new.beside) c.store_index-in-Borrow.result
    (same rooms whole part start (ap (λ (w : V.Value-F Lowered). store_case enter w type c.args.place k) (layer_borrow enter c.args.value.now c.in-Borrow.handle c.in-Borrow.is)))
    (c.store_index-in-Borrow.ensures.follows k)

pub store_layer-returns-in-Stream-clause-follows : goal.store_layer-returns-in-Stream-clause-follows
store_layer-returns-in-Stream-clause-follows g t c = λ k.
    let enter : New → (ℕ → Plan) → Plan = g.B.Beside.entering c.args.home.now.resources.now in
    let start = g.B.Beside.state c.args.room.now c.args.beside.now in
    let rooms = rooms_of g.B.Beside.memory g.B.Beside.answers g.B.Beside.wrote (g.B.Beside.adds c.args.home.now.task c.args.t.now.types) in
    let type = c.args.t.now.val_type in
    let whole : Plan = store_case enter (layer_of enter c.args.value.now) type c.args.place k in
    let part : Plan = index_at enter (NewEnd type c.in-Stream.number) c.args.place k in
    goes rooms whole part (λ x. k) start start (g.B.Beside.state c.store_index-in-Stream.new.room c.store_index-in-Stream.new.beside) c.store_index-in-Stream.result
    (same rooms whole part start (ap (λ (w : V.Value-F Lowered). store_case enter w type c.args.place k) (layer_stream enter c.args.value.now c.in-Stream.number c.in-Stream.is)))
    (c.store_index-in-Stream.ensures.follows k)

pub store_layer-returns-in-Future-clause-follows : goal.store_layer-returns-in-Future-clause-follows
store_layer-returns-in-Future-clause-follows g t c = λ k.
    let enter : New → (ℕ → Plan) → Plan = g.B.Beside.entering c.args.home.now.resources.now in
    let start = g.B.Beside.state c.args.room.now c.args.beside.now in
    let rooms = rooms_of g.B.Beside.memory g.B.Beside.answers g.B.Beside.wrote (g.B.Beside.adds c.args.home.now.task c.args.t.now.types) in
    let type = c.args.t.now.val_type in
    let whole : Plan = store_case enter (layer_of enter c.args.value.now) type c.args.place k in
    let part : Plan = index_at enter (NewEnd type c.in-Future.number) c.args.place k in
    goes rooms whole part (λ x. k) start start (g.B.Beside.state c.store_index-in-Future.new.room c.store_index-in-Future.new.beside) c.store_index-in-Future.result
    (same rooms whole part start (ap (λ (w : V.Value-F Lowered). store_case enter w type c.args.place k) (layer_future enter c.args.value.now c.in-Future.number c.in-Future.is)))
    (c.store_index-in-Future.ensures.follows k)
