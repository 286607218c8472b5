-- One step of each loop, and values by the forms of their types.
use Rattle.std.proofs.Common.{rules, min, ◌^◌, ◌-◌, ◌≡◌, ◌∙◌, [], length, ℕ, ◌<◌, List, ◌+◌, Some, ap, sym, subst, arith, Ok, Err}
use Rattle.std.proofs.lemmas.Result.{err_from_is_err_and}
use Rattle.faults.specs.declared.memory.MemoryOr.{MemoryOr}
use Rattle.syntax_trees.specs.declared.types.ValType.{ValType, out-ValType}
use Rattle.syntax_trees.specs.declared.types.ValType.TheOpen as F
use Rattle.syntax_trees.specs.declared.value.Value.{Value}
use Rattle.syntax_trees.specs.declared.value.Value.TheViews as values
use Rattle.laid_types.specs.Layout.{laid, tag_size}
use Rattle.laid_types.specs.Parts.{parts_of, part_at, case_count, payload_place}
use Rattle.value_lift.specs.declared.trap.LiftTrap.{LiftTrap}
use Rattle.value_lift.specs.Bytes.{number, width_of}
use Rattle.value_lift.specs.Ledger.{Came, MayTake, made, reached}
use Rattle.value_lift.specs.Named.{named_in, what_named, value_named}
use Rattle.value_lift.specs.Over.{part, parts, lift, lift_case, layer_of, string_of, list_of, elements_of, elements_from, fields_from, case_of}
use Rattle.value_lift.proofs.Depth.{deeper}
use Rattle.value_lift.proofs.Inside.{part_type, no_part_type, part_among, list_some, case_some, field_at, size_at, field_next, field_stops}
use Rattle.value_lift.proofs.OverForms.{IsRow, HasCases, is_row, has_cases, row_lift_over, cases_lift_over, string_lift_over, index_lift}
use Rattle.value_lift.proofs.Rooms.{row_room, case_room}
use Rattle.value_lift.proofs.Views.{out_string}
use Rattle.value_lift.proofs.Steps.{same_taken, value_goes, made_stops, case_none, list_none, elements_next, elements_stops, fields_skip, skip_room}
use Rattle.value_lift.proofs.lifting.+lifting.Goals as goal

-- Cases.
pub case_at-returns-in_default : goal.case_at-returns-in_default
case_at-returns-in_default g t c =
    let type = c.args.t.now.val_type in
    let n = c.number_of-case.result in
    let tag : c.tag_size.result ≡ tag_size (case_count type) = c.tag_size.ensures.value ∙ ap (λ (u : ValType). tag_size (case_count u)) c.laid-laid.ensures in
    let told : number (width_of (tag_size (case_count type))) c.args.place c.args.memory.now ≡ n =
    ap (λ (n : ℕ). number (width_of n) c.args.place c.args.memory.now) (sym tag) ∙ sym c.number_of-case.ensures in
    case_none (g.L.Ledger.ledger c.args.t.now.types) (case_count type) n (parts_of type) c.args.memory.now c.args.place (g.L.Ledger.kept c.args.ledger.now) told
    (omega (arith, ap case_count c.laid-laid.ensures)) (no_part_type c.part.result (part_at type n) c.part.ensures.value c.in_default.is)

pub case_at-value_at-requires : goal.case_at-value_at-requires
case_at-value_at-requires g t c κs within =
    let type = c.args.t.now.val_type in
    let there = part_type c.part.result (part_at type c.number_of-case.result) c.in-Some.part c.part.ensures.value c.in-Some.is in
    let known : g.L.Ledger.knows c.in-Some.part.types = subst g.L.Ledger.knows (sym (part_among c.part.result c.args.t.now.types c.in-Some.part c.part.ensures.types c.in-Some.is)) c.requires.known in (
      search (rules, arith, c.decreases, deeper type c.in-Some.part.val_type c.number_of-case.result there),
      (search rules, (known, omega (arith, c.requires.room.payload c.number_of-case.result c.in-Some.part.val_type there, c.payload_place.ensures, ap payload_place c.laid-laid.ensures))),
    )

pub case_at-returns : goal.case_at-returns
case_at-returns g t c =
    let type = c.args.t.now.val_type in
    let part = c.in-Some.part in
    let n = c.number_of-case.result in
    let memory = c.args.memory.now in
    let before = g.L.Ledger.kept c.args.ledger.now in
    let led = g.L.Ledger.ledger c.args.t.now.types in
    let behind : c.payload_place.result ≡ payload_place type = c.payload_place.ensures ∙ ap payload_place c.laid-laid.ensures in
    let tag : c.tag_size.result ≡ tag_size (case_count type) = c.tag_size.ensures.value ∙ ap (λ (u : ValType). tag_size (case_count u)) c.laid-laid.ensures in
    let told : number (width_of (tag_size (case_count type))) c.args.place memory ≡ n = ap (λ (n : ℕ). number (width_of n) c.args.place memory) (sym tag) ∙ sym c.number_of-case.ensures in
    let there = part_type c.part.result (part_at type n) part c.part.ensures.value c.in-Some.is in
    let lifted : lift led part.val_type memory (c.args.place + payload_place type) before ≡ Ok (c.in_ok-new.field-0, g.L.Ledger.kept c.value_at.new.ledger) =
    ap (λ (k : ℕ). lift led part.val_type memory (c.args.place + k) before) (sym behind)
    ∙ ap (λ (types : List ValType). lift (g.L.Ledger.ledger types) part.val_type memory (c.args.place + c.payload_place.result) before)
    (sym (part_among c.part.result c.args.t.now.types part c.part.ensures.types c.in-Some.is))
    ∙ c.in_ok-payload.ensures
    ∙ ap (λ (v : Value). Ok (v, g.L.Ledger.kept c.value_at.new.ledger)) (sym c.in_ok-new.ensures) in
    case_some led type part.val_type n memory c.args.place before told (omega (arith, ap case_count c.laid-laid.ensures)) there
    ∙ ap (λ (l : Came g.L.Ledger.Kept g.L.Ledger.Stop Value). made (values.Variant n) (made (λ v. Some v) l)) lifted

pub case_at-returns-in_err-payload : goal.case_at-returns-in_err-payload
case_at-returns-in_err-payload g t c =
    let type = c.args.t.now.val_type in
    let part = c.in-Some.part in
    let n = c.number_of-case.result in
    let memory = c.args.memory.now in
    let before = g.L.Ledger.kept c.args.ledger.now in
    let after = g.L.Ledger.kept c.value_at.new.ledger in
    let led = g.L.Ledger.ledger c.args.t.now.types in
    let fault = c.in_err-payload.field-0.0 in
    let behind : c.payload_place.result ≡ payload_place type = c.payload_place.ensures ∙ ap payload_place c.laid-laid.ensures in
    let tag : c.tag_size.result ≡ tag_size (case_count type) = c.tag_size.ensures.value ∙ ap (λ (u : ValType). tag_size (case_count u)) c.laid-laid.ensures in
    let told : number (width_of (tag_size (case_count type))) c.args.place memory ≡ n = ap (λ (n : ℕ). number (width_of n) c.args.place memory) (sym tag) ∙ sym c.number_of-case.ensures in
    let there = part_type c.part.result (part_at type n) part c.part.ensures.value c.in-Some.is in
    let part_lifted = lift led part.val_type memory (c.args.place + payload_place type) before in
    let here : MayTake led (lift led part.val_type memory (c.args.place + c.payload_place.result) before) after (Err fault) =
    subst (λ (types : List ValType). MayTake (g.L.Ledger.ledger types) (lift (g.L.Ledger.ledger types) part.val_type memory (c.args.place + c.payload_place.result) before) after (Err fault))
    (part_among c.part.result c.args.t.now.types part c.part.ensures.types c.in-Some.is) c.in_err-payload.ensures in
    let stops : MayTake led part_lifted after (Err fault) =
    subst (λ (k : ℕ). MayTake led (lift led part.val_type memory (c.args.place + k) before) after (Err fault)) behind here in
    let whole = case_some led type part.val_type n memory c.args.place before told (omega (arith, ap case_count c.laid-laid.ensures)) there in
    let p = err_from_is_err_and c.from_residual.result c.from_residual.ensures.1 in
    rw (p.1, p.2)
    (subst (λ (l : Came g.L.Ledger.Kept g.L.Ledger.Stop Value). MayTake led l after (Err fault)) (sym whole)
    (made_stops led (values.Variant n) (made (λ v. Some v) part_lifted) after fault (made_stops led (λ v. Some v) part_lifted after fault stops)))

-- Values by the forms of their types.
pub counted_at-case_at-requires : goal.counted_at-case_at-requires
counted_at-case_at-requires g t c κs within =
    (search rules, (search rules, (c.requires.known, case_room c.args.t.now.val_type c.args.place c.args.memory.now (has_cases c.val_type.result.now c.args.t.now.val_type c.in-Variant.is (c.val_type.ensures ∙ c.laid-laid.ensures)) c.requires.room)))

pub counted_at-fields_at-requires : goal.counted_at-fields_at-requires
counted_at-fields_at-requires g t c κs within =
    (search rules, (search rules, (c.requires.known, omega (arith, c.requires.room, row_room c.args.t.now.val_type (is_row c.val_type.result.now c.args.t.now.val_type c.in-Record.is (c.val_type.ensures ∙ c.laid-laid.ensures))))))

pub counted_at-returns-in-Variant : goal.counted_at-returns-in-Variant
counted_at-returns-in-Variant g t c =
    let led = g.L.Ledger.ledger c.args.t.now.types in
    let before = g.L.Ledger.kept c.args.ledger.now in
    let kind : HasCases (out-ValType c.args.t.now.val_type) = has_cases c.val_type.result.now c.args.t.now.val_type c.in-Variant.is (c.val_type.ensures ∙ c.laid-laid.ensures) in
    same_taken led (case_of led (case_count c.args.t.now.val_type) (parts led (parts_of c.args.t.now.val_type)) c.args.memory.now c.args.place before)
    (lift_case led (layer_of led c.args.t.now.val_type) c.args.memory.now c.args.place before) (g.L.Ledger.kept c.case_at.new.ledger) c.case_at.result
    (cases_lift_over led c.args.memory.now c.args.place before c.args.t.now.val_type kind) c.case_at.ensures

pub counted_at-returns-in_ok-fields_at-in-Record : goal.counted_at-returns-in_ok-fields_at-in-Record
counted_at-returns-in_ok-fields_at-in-Record g t c =
    let kind : IsRow (out-ValType c.args.t.now.val_type) = is_row c.val_type.result.now c.args.t.now.val_type c.in-Record.is (c.val_type.ensures ∙ c.laid-laid.ensures) in
    row_lift_over (g.L.Ledger.ledger c.args.t.now.types) c.args.memory.now c.args.place (g.L.Ledger.kept c.args.ledger.now) c.args.t.now.val_type kind
    ∙ ap (λ (l : Came g.L.Ledger.Kept g.L.Ledger.Stop (List Value)). made values.Record l) c.in_ok-fields_at-in-Record.ensures

pub counted_at-returns-in_err-fields_at-in-Record : goal.counted_at-returns-in_err-fields_at-in-Record
counted_at-returns-in_err-fields_at-in-Record g t c =
    let led = g.L.Ledger.ledger c.args.t.now.types in
    let before = g.L.Ledger.kept c.args.ledger.now in
    let after = g.L.Ledger.kept c.fields_at.new.ledger in
    let kind : IsRow (out-ValType c.args.t.now.val_type) = is_row c.val_type.result.now c.args.t.now.val_type c.in-Record.is (c.val_type.ensures ∙ c.laid-laid.ensures) in
    let row = fields_from led c.args.memory.now c.args.place [] 0 (parts led (parts_of c.args.t.now.val_type)) before in
    let stops = made_stops led values.Record row after c.in_err-fields_at-in-Record.field-0.0 c.in_err-fields_at-in-Record.ensures in
    let p = err_from_is_err_and c.from_residual-in_err-fields_at-in-Record.result c.from_residual-in_err-fields_at-in-Record.ensures.1 in
    rw (p.1, p.2)
    (same_taken led (made values.Record row) (lift_case led (layer_of led c.args.t.now.val_type) c.args.memory.now c.args.place before) after (Err c.in_err-fields_at-in-Record.field-0.0)
    (row_lift_over led c.args.memory.now c.args.place before c.args.t.now.val_type kind) stops)

-- Elements.
pub elements_from-loop-index-preserved : goal.elements_from-loop-index-preserved
elements_from-loop-index-preserved g t c =
    let l = c.loop-index in
    let type = c.args.element.now.val_type in
    let size = c.size.ensures ∙ ap (λ (u : ValType). min (laid u).size (2 ^ 64)) c.laid-laid.ensures in
    let next =
    elements_next (g.L.Ledger.ledger c.args.element.now.types) type c.args.memory.now l.values c.push.new.self c.in_ok-value.value c.args.count l._index l.at c.size.result
    (g.L.Ledger.kept l.ledger) (g.L.Ledger.kept c.value_at.new.ledger) (omega arith) size (omega arith) l.invariant.room c.in_ok-value.ensures c.in_ok-push.ensures.ok in
    record { same = l.invariant.same ∙ next.0; room = next.1 }

-- Fields.
pub fields_at-loop-at-preserved-in_default : goal.fields_at-loop-at-preserved-in_default
fields_at-loop-at-preserved-in_default g t c =
    let types = parts_of c.args.t.now.val_type in
    let l = c.loop-at in
    let none = no_part_type c.part.result (part_at c.args.t.now.val_type l.at) c.part.ensures.value c.in_default.is in
    let low : l.at < length types = omega (arith, c.part_count-count.ensures, ap (λ (u : ValType). length (parts_of u)) c.laid.ensures) in
    record {
      same = l.invariant.same ∙ fields_skip (g.L.Ledger.ledger c.args.t.now.types) c.args.memory.now c.args.place l.end (g.L.Ledger.kept l.ledger) l.values types l.at low none;
      room = omega (arith, l.invariant.room, skip_room l.end types l.at low none);
    }

pub fields_at-overflow_cast-start : goal.fields_at-overflow_cast-start
fields_at-overflow_cast-start g t c =
    let l = c.loop-at in
    let type = c.args.t.now.val_type in
    let there = part_type c.part.result (part_at type l.at) c.in-Some.part c.part.ensures.value c.in-Some.is in
    let align = c.align.ensures.value ∙ ap (λ (u : ValType). (laid u).align) c.laid-laid.ensures in
    let f = field_at c.args.memory.now c.args.place l.end l.at (parts_of type) c.in-Some.part.val_type c.align.result c.aligned-start.result there l.invariant.room align c.aligned-start.ensures.value in
    omega (arith, f.inside)

pub fields_at-overflow_add-place : goal.fields_at-overflow_add-place
fields_at-overflow_add-place g t c =
    let l = c.loop-at in
    let type = c.args.t.now.val_type in
    let there = part_type c.part.result (part_at type l.at) c.in-Some.part c.part.ensures.value c.in-Some.is in
    let align = c.align.ensures.value ∙ ap (λ (u : ValType). (laid u).align) c.laid-laid.ensures in
    let f = field_at c.args.memory.now c.args.place l.end l.at (parts_of type) c.in-Some.part.val_type c.align.result c.aligned-start.result there l.invariant.room align c.aligned-start.ensures.value in
    omega (arith, f.inside)

pub fields_at-value_at-requires : goal.fields_at-value_at-requires
fields_at-value_at-requires g t c κs within =
    let l = c.loop-at in
    let type = c.args.t.now.val_type in
    let there = part_type c.part.result (part_at type l.at) c.in-Some.part c.part.ensures.value c.in-Some.is in
    let align = c.align.ensures.value ∙ ap (λ (u : ValType). (laid u).align) c.laid-laid.ensures in
    let f = field_at c.args.memory.now c.args.place l.end l.at (parts_of type) c.in-Some.part.val_type c.align.result c.aligned-start.result there l.invariant.room align c.aligned-start.ensures.value in
    let known : g.L.Ledger.knows c.in-Some.part.types = subst g.L.Ledger.knows (sym (part_among c.part.result c.args.t.now.types c.in-Some.part c.part.ensures.types c.in-Some.is)) c.requires.known in
    (search (rules, arith, c.decreases, deeper type c.in-Some.part.val_type l.at there), (search rules, (known, f.inside)))

pub fields_at-overflow_cast-end-in-loop-at : goal.fields_at-overflow_cast-end-in-loop-at
fields_at-overflow_cast-end-in-loop-at g t c =
    let l = c.loop-at in
    let type = c.args.t.now.val_type in
    let there = part_type c.part.result (part_at type l.at) c.in-Some.part c.part.ensures.value c.in-Some.is in
    let align = c.align.ensures.value ∙ ap (λ (u : ValType). (laid u).align) c.laid-laid.ensures in
    let f = field_at c.args.memory.now c.args.place l.end l.at (parts_of type) c.in-Some.part.val_type c.align.result c.aligned-start.result there l.invariant.room align c.aligned-start.ensures.value in
    omega (arith, f.inside, c.size.ensures, ap (λ (u : ValType). (laid u).size) c.laid-laid.ensures)

pub fields_at-overflow_add-end : goal.fields_at-overflow_add-end
fields_at-overflow_add-end g t c =
    let l = c.loop-at in
    let type = c.args.t.now.val_type in
    let there = part_type c.part.result (part_at type l.at) c.in-Some.part c.part.ensures.value c.in-Some.is in
    let align = c.align.ensures.value ∙ ap (λ (u : ValType). (laid u).align) c.laid-laid.ensures in
    let f = field_at c.args.memory.now c.args.place l.end l.at (parts_of type) c.in-Some.part.val_type c.align.result c.aligned-start.result there l.invariant.room align c.aligned-start.ensures.value in
    omega (arith, f.inside, c.size.ensures, ap (λ (u : ValType). (laid u).size) c.laid-laid.ensures)

pub fields_at-loop-at-preserved : goal.fields_at-loop-at-preserved
fields_at-loop-at-preserved g t c =
    let l = c.loop-at in
    let type = c.args.t.now.val_type in
    let types = parts_of type in
    let part = c.in-Some.part in
    let led = g.L.Ledger.ledger c.args.t.now.types in
    let there = part_type c.part.result (part_at type l.at) part c.part.ensures.value c.in-Some.is in
    let align = c.align.ensures.value ∙ ap (λ (u : ValType). (laid u).align) c.laid-laid.ensures in
    let f = field_at c.args.memory.now c.args.place l.end l.at types part.val_type c.align.result c.aligned-start.result there l.invariant.room align c.aligned-start.ensures.value in
    let limited = c.size.ensures ∙ ap (λ (u : ValType). min (laid u).size (2 ^ 64)) c.laid-laid.ensures in
    let size = size_at c.args.memory.now c.args.place l.end l.at types part.val_type c.aligned-start.result c.size.result f limited (omega arith) in
    let lifted : lift led part.val_type c.args.memory.now (c.args.place + c.aligned-start.result) (g.L.Ledger.kept l.ledger) ≡ Ok (c.in_ok-value.value, g.L.Ledger.kept c.value_at.new.ledger) =
    ap (λ (types : List ValType). lift (g.L.Ledger.ledger types) part.val_type c.args.memory.now (c.args.place + c.aligned-start.result) (g.L.Ledger.kept l.ledger))
    (sym (part_among c.part.result c.args.t.now.types part c.part.ensures.types c.in-Some.is))
    ∙ c.in_ok-value.ensures in
    let next =
    field_next led c.args.memory.now c.args.place l.end (g.L.Ledger.kept l.ledger) (g.L.Ledger.kept c.value_at.new.ledger) l.at types part.val_type c.aligned-start.result c.size.result l.values c.push.new.self
    c.in_ok-value.value there l.invariant.room f size lifted c.in_ok-push.ensures.ok in
    record { same = l.invariant.same ∙ next.0; room = next.1 }

pub fields_at-returns-in_err-value : goal.fields_at-returns-in_err-value
fields_at-returns-in_err-value g t c =
    let l = c.loop-at in
    let type = c.args.t.now.val_type in
    let types = parts_of type in
    let part = c.in-Some.part in
    let led = g.L.Ledger.ledger c.args.t.now.types in
    let now = g.L.Ledger.kept l.ledger in
    let after = g.L.Ledger.kept c.value_at.new.ledger in
    let fault = c.in_err-value.field-0.0 in
    let there = part_type c.part.result (part_at type l.at) part c.part.ensures.value c.in-Some.is in
    let align = c.align.ensures.value ∙ ap (λ (u : ValType). (laid u).align) c.laid-laid.ensures in
    let f = field_at c.args.memory.now c.args.place l.end l.at types part.val_type c.align.result c.aligned-start.result there l.invariant.room align c.aligned-start.ensures.value in
    let stops : MayTake led (lift led part.val_type c.args.memory.now (c.args.place + c.aligned-start.result) now) after (Err fault) =
    subst (λ (types : List ValType). MayTake (g.L.Ledger.ledger types) (lift (g.L.Ledger.ledger types) part.val_type c.args.memory.now (c.args.place + c.aligned-start.result) now) after (Err fault))
    (part_among c.part.result c.args.t.now.types part c.part.ensures.types c.in-Some.is) c.in_err-value.ensures in
    let p = err_from_is_err_and c.from_residual.result c.from_residual.ensures.1 in
    rw (p.1, p.2)
    (field_stops led (fields_from led c.args.memory.now c.args.place [] 0 (parts led types) (g.L.Ledger.kept c.args.ledger.now)) c.args.memory.now c.args.place l.end now after l.at types part.val_type
    c.aligned-start.result l.values fault l.invariant.same there f stops)

-- Lists.
pub list_of-elements_of-requires : goal.list_of-elements_of-requires
list_of-elements_of-requires g t c κs within =
    let type = c.args.t.now.val_type in
    let there = part_type c.part.result (part_at type 0) c.in-Some.element c.part.ensures.value c.in-Some.is in
    let known : g.L.Ledger.knows c.in-Some.element.types = subst g.L.Ledger.knows (sym (part_among c.part.result c.args.t.now.types c.in-Some.element c.part.ensures.types c.in-Some.is)) c.requires in
    (search (rules, arith, c.decreases, deeper type c.in-Some.element.val_type 0 there), (search rules, known))

pub list_of-returns : goal.list_of-returns
list_of-returns g t c =
    let type = c.args.t.now.val_type in
    let element = c.in-Some.element in
    let led = g.L.Ledger.ledger c.args.t.now.types in
    let before = g.L.Ledger.kept c.args.ledger.now in
    let there = part_type c.part.result (part_at type 0) element c.part.ensures.value c.in-Some.is in
    list_some led (parts_of type) element.val_type c.args.at c.args.count c.args.memory.now c.args.place before there
    ∙ ap (λ (types : List ValType). made values.List (elements_of (g.L.Ledger.ledger types) (part (g.L.Ledger.ledger types) element.val_type) c.args.at c.args.count c.args.memory.now c.args.place before))
    (sym (part_among c.part.result c.args.t.now.types element c.part.ensures.types c.in-Some.is))
    ∙ ap (λ (l : Came g.L.Ledger.Kept g.L.Ledger.Stop (List Value)). made values.List l) c.in_ok-elements.ensures

pub list_of-returns-in_err-elements : goal.list_of-returns-in_err-elements
list_of-returns-in_err-elements g t c =
    let type = c.args.t.now.val_type in
    let element = c.in-Some.element in
    let led = g.L.Ledger.ledger c.args.t.now.types in
    let before = g.L.Ledger.kept c.args.ledger.now in
    let after = g.L.Ledger.kept c.elements_of.new.ledger in
    let fault = c.in_err-elements.field-0.0 in
    let there = part_type c.part.result (part_at type 0) element c.part.ensures.value c.in-Some.is in
    let elements = elements_of led (part led element.val_type) c.args.at c.args.count c.args.memory.now c.args.place before in
    let stops : MayTake led elements after (Err fault) =
    subst (λ (types : List ValType). MayTake (g.L.Ledger.ledger types) (elements_of (g.L.Ledger.ledger types) (part (g.L.Ledger.ledger types) element.val_type) c.args.at c.args.count c.args.memory.now c.args.place before) after (Err fault))
    (part_among c.part.result c.args.t.now.types element c.part.ensures.types c.in-Some.is) c.in_err-elements.ensures in
    let p = err_from_is_err_and c.from_residual.result c.from_residual.ensures.1 in
    rw (p.1, p.2)
    (same_taken led (made values.List elements) (list_of led (parts led (parts_of type)) c.args.at c.args.count c.args.memory.now c.args.place before) after (Err fault)
    (list_some led (parts_of type) element.val_type c.args.at c.args.count c.args.memory.now c.args.place before there) (made_stops led values.List elements after fault stops))

pub list_of-returns-in_default : goal.list_of-returns-in_default
list_of-returns-in_default g t c =
    let type = c.args.t.now.val_type in
    let led = g.L.Ledger.ledger c.args.t.now.types in
    let before = g.L.Ledger.kept c.args.ledger.now in
    let none = no_part_type c.part.result (part_at type 0) c.part.ensures.value c.in_default.is in
    let whole = list_of led (parts led (parts_of type)) c.args.at c.args.count c.args.memory.now c.args.place before in
    subst (λ (e : MemoryOr LiftTrap). MayTake led whole before (Err e)) (sym c.into.ensures)
    (list_none led (parts_of type) c.args.at c.args.count c.args.memory.now c.args.place before none ∙ ap (λ (fault : LiftTrap). Err (led.stop fault before)) (sym c.at.ensures))

pub elements_from-returns-in_err-value : goal.elements_from-returns-in_err-value
elements_from-returns-in_err-value g t c =
    let l = c.loop-index in
    let type = c.args.element.now.val_type in
    let led = g.L.Ledger.ledger c.args.element.now.types in
    let whole = elements_from led (part led type) c.args.memory.now [] c.args.count c.args.start (g.L.Ledger.kept c.args.ledger.now) in
    let p = err_from_is_err_and c.from_residual.result c.from_residual.ensures.1 in
    rw (p.1, p.2)
    (elements_stops led whole (part led type) c.args.memory.now l.values (c.args.count - l._index) l.at (g.L.Ledger.kept l.ledger) (g.L.Ledger.kept c.value_at.new.ledger) c.in_err-value.field-0.0 l.invariant.same
    (omega arith) c.in_err-value.ensures)

-- Texts.
pub counted_at-returns-in-String : goal.counted_at-returns-in-String
counted_at-returns-in-String g t c =
    let type = c.args.t.now.val_type in
    let led = g.L.Ledger.ledger c.args.t.now.types in
    let before = g.L.Ledger.kept c.args.ledger.now in
    let is : out-ValType type ≡ F.String = ap out-ValType (sym (c.val_type.ensures ∙ c.laid-laid.ensures) ∙ c.in-String.is) ∙ out_string in
    same_taken led (string_of led c.number32-at.result c.number32-length.result c.args.memory.now c.args.place before) (lift_case led (layer_of led type) c.args.memory.now c.args.place before)
    (g.L.Ledger.kept c.string_of.new.ledger) c.string_of.result
    (string_lift_over led c.args.memory.now c.args.place before type c.number32-at.result c.number32-length.result is c.number32-at.ensures c.number32-length.ensures) (c.string_of.ensures c.args.t.now.types)

-- Values that are reached.
pub value_at-returns-in_default : goal.value_at-returns-in_default
value_at-returns-in_default g t c =
    value_goes (g.L.Ledger.ledger c.args.t.now.types) c.args.t.now.val_type c.args.memory.now c.args.place (g.L.Ledger.kept c.args.ledger.now) (g.L.Ledger.kept c.count.new.self)
    (g.L.Ledger.kept c.counted_at.new.ledger) c.counted_at.result (c.in_ok-count.ensures c.args.t.now.types) c.counted_at.ensures

pub value_at-returns : goal.value_at-returns
value_at-returns g t c =
    let type = c.args.t.now.val_type in
    let n = c.in-Some.named in
    let led = g.L.Ledger.ledger c.args.t.now.types in
    let before = g.L.Ledger.kept c.args.ledger.now in
    let told : named_in (out-ValType type) ≡ Some n = ap (λ (u : ValType). named_in (out-ValType u)) (sym (c.val_type.ensures ∙ c.laid-laid.ensures)) ∙ sym c.of.ensures ∙ c.in-Some.is in
    same_taken led (made (value_named n) (reached led (what_named n type) c.number32.result c.args.place before)) (lift led type c.args.memory.now c.args.place before) (g.L.Ledger.kept c.value_by.new.ledger)
    c.value_by.result
    (index_lift led type n c.args.memory.now c.args.place before told ∙ ap (λ (i : ℕ). made (value_named n) (reached led (what_named n type) i c.args.place before)) (sym c.number32.ensures)) c.value_by.ensures
