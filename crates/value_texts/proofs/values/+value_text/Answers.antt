-- Each value's text is made of the pieces that are written.
use Rattle.std.proofs.Common.{◌≡◌, ◌∙◌, ◌++◌, ap, subst, sym, map, List, Some, None, append-nil}
use Rattle.std.specs.Prelude.{codes, OnOk}
use Rattle.std.specs.List.{slice_get}
use Rattle.syntax_trees.specs.declared.types.ValType.{ValType}
use Rattle.syntax_trees.specs.declared.types.Field.{Field}
use Rattle.syntax_trees.specs.declared.value.Value.{Value}
use Rattle.syntax_trees.specs.NameText.{name_text}
use Rattle.syntax_trees.specs.TypeText.{Chars, listed}
use Rattle.syntax_trees.specs.ValueText.{writer, field_writer, by_label, by_each, set_labels, payload_text}
use Rattle.value_texts.proofs.Separated.{two_pieces, three_pieces}
use Rattle.syntax_trees.proofs.WriterEquations.{write_record, write_tuple, write_list, write_flags, write_variant, write_option, write_enum, write_err, writes_case, writes_no_case, writes_label, writes_no_label}
use Rattle.value_texts.proofs.values.+value_text.Goals as goal

pub push_value-returns-in_ok-push_word-in-Record-value-2 : goal.push_value-returns-in_ok-push_word-in-Record-value-2
push_value-returns-in_ok-push_word-in-Record-value-2 t c =
    three_pieces _ _ _ _ _ _ _ _ c.in_ok-push_word-in-Record-value.ensures c.in_ok-push_fields-in-Record-value.ensures c.in_ok-push_word-in-Record-value-2.ensures
    (write_record c.args.val_type.now c.args.value.now c.in-Record.fields c.in-Record-value.values c.in-Record.is c.in-Record-value.is
    ∙ ap (λ (vs : List Value). codes "{" ++ listed (by_label vs (map field_writer c.in-Record.fields)) ++ codes "}") (sym c.as_slice.ensures)
    ∙ ap (λ (fs : List Field). codes "{" ++ listed (by_label c.as_slice.result.now (map field_writer fs)) ++ codes "}") (sym c.as_slice-in-Record-value.ensures))

pub push_value-returns-in_ok-push_word-in-Record-value-2-3 : goal.push_value-returns-in_ok-push_word-in-Record-value-2-3
push_value-returns-in_ok-push_word-in-Record-value-2-3 t c =
    three_pieces _ _ _ _ _ _ _ _ c.in_ok-push_word-in-Record-value-2-2.ensures c.in_ok-push_parts-in-Record-value-2.ensures c.in_ok-push_word-in-Record-value-2-3.ensures
    (write_tuple c.args.val_type.now c.args.value.now c.in-Tuple.parts c.in-Record-value-2.values c.in-Tuple.is c.in-Record-value-2.is
    ∙ ap (λ (vs : List Value). codes "(" ++ listed (by_each vs (map writer c.in-Tuple.parts)) ++ codes ")") (sym c.as_slice-in-Record-value-2.ensures)
    ∙ ap (λ (ps : List ValType). codes "(" ++ listed (by_each c.as_slice-in-Record-value-2.result.now (map writer ps)) ++ codes ")") (sym c.as_slice-in-Record-value-2-2.ensures))

pub push_value-returns-in_ok-push_word-in-List-value-2 : goal.push_value-returns-in_ok-push_word-in-List-value-2
push_value-returns-in_ok-push_word-in-List-value-2 t c =
    three_pieces _ _ _ _ _ _ _ _ c.in_ok-push_word-in-List-value.ensures c.in_ok-push_elements-in-List-value.ensures c.in_ok-push_word-in-List-value-2.ensures
    (write_list c.args.val_type.now c.args.value.now c.in-List.element c.in-List-value.values c.in-List.is c.in-List-value.is
    ∙ ap (λ (vs : List Value). codes "[" ++ listed (map (writer c.in-List.element) vs) ++ codes "]") (sym c.as_slice-in-List-value.ensures)
    ∙ ap (λ (e : ValType). codes "[" ++ listed (map (writer e) c.as_slice-in-List-value.result.now) ++ codes "]") (sym c.get.ensures))

pub push_value-returns-in_ok-push_word-in-Flags-value-2 : goal.push_value-returns-in_ok-push_word-in-Flags-value-2
push_value-returns-in_ok-push_word-in-Flags-value-2 t c =
    three_pieces _ _ _ _ _ _ _ _ c.in_ok-push_word-in-Flags-value.ensures c.in_ok-push_flags-in-Flags-value.ensures c.in_ok-push_word-in-Flags-value-2.ensures
    (write_flags c.args.val_type.now c.args.value.now c.in-Flags.labels c.in-Flags-value.flags c.in-Flags.is c.in-Flags-value.is
    ∙ ap (λ (ls : List Chars). codes "{" ++ listed (set_labels (map name_text ls) c.in-Flags-value.flags) ++ codes "}") (sym c.as_slice-in-Flags-value.ensures)
    ∙ ap (λ fs. codes "{" ++ listed (set_labels (map name_text c.as_slice-in-Flags-value.result.now) fs) ++ codes "}") (sym c.as_slice-in-Flags-value-2.ensures))

pub push_value-returns-in_ok-push_payload-in-Variant-value-3 : goal.push_value-returns-in_ok-push_payload-in-Variant-value-3
push_value-returns-in_ok-push_payload-in-Variant-value-3 t c =
    two_pieces _ _ _ _ _ _ c.in_ok-push_word-in-Variant-value-3.ensures c.in_ok-push_payload-in-Variant-value-3.ensures
    (write_option c.args.val_type.now c.args.value.now c.in-Option.part c.in-Variant-value-3.case c.in-Variant-value-3.payload c.in-Option.is c.in-Variant-value-3.is c.if-case-eq0.false
    ∙ ap (λ (e : ValType). codes "some" ++ payload_text (writer e) c.in-Variant-value-3.payload) (sym c.get-in-Variant-value-3.ensures))

pub push_value-returns-in_ok-push_rest-in-Variant-value-4 : goal.push_value-returns-in_ok-push_rest-in-Variant-value-4
push_value-returns-in_ok-push_rest-in-Variant-value-4 t c =
    two_pieces _ _ _ _ _ _ c.in_ok-push_word-in-Variant-value-4-2.ensures c.in_ok-push_rest-in-Variant-value-4.ensures
    (write_err c.args.val_type.now c.args.value.now c.in-Result.ok c.in-Result.err c.in-Variant-value-4.case c.in-Variant-value-4.payload c.in-Result.is c.in-Variant-value-4.is c.if-case-eq0-2.false)

pub push_value-returns-in_ok-push_rest-in-Some : goal.push_value-returns-in_ok-push_rest-in-Some
push_value-returns-in_ok-push_rest-in-Some t c =
    let h : slice_get c.in-Variant.cases c.in-Variant-value.case ≡ Some c.in-Some.case.now =
    sym (ap (λ cs. slice_get cs c.in-Variant-value.case) c.as_slice-in-Variant-value.ensures) ∙ c.in-Some.ensures in
    two_pieces _ _ _ _ _ _ c.in_ok-push_name-in-Some.ensures c.in_ok-push_rest-in-Some.ensures
    (write_variant c.args.val_type.now c.args.value.now c.in-Variant.cases c.in-Variant-value.case c.in-Variant-value.payload c.in-Variant.is c.in-Variant-value.is
    ∙ writes_case c.in-Variant.cases c.in-Variant-value.case c.in-Variant-value.payload c.in-Some.case.now h)

pub push_value-returns-in-None : goal.push_value-returns-in-None
push_value-returns-in-None t c =
    let h : slice_get c.in-Variant.cases c.in-Variant-value.case ≡ None =
    sym (ap (λ cs. slice_get cs c.in-Variant-value.case) c.as_slice-in-Variant-value.ensures) ∙ c.in-None.ensures in
    sym (ap (λ (w : Chars). c.args.to.now.items ++ w)
    (write_variant c.args.val_type.now c.args.value.now c.in-Variant.cases c.in-Variant-value.case c.in-Variant-value.payload c.in-Variant.is c.in-Variant-value.is
    ∙ writes_no_case c.in-Variant.cases c.in-Variant-value.case c.in-Variant-value.payload h)
    ∙ append-nil c.args.to.now.items)

pub push_value-returns-in-Some-item_at : goal.push_value-returns-in-Some-item_at
push_value-returns-in-Some-item_at t c =
    let h : slice_get c.in-Enum.labels c.in-Variant-value-2.case ≡ Some c.in-Some-item_at.label.now =
    sym (ap (λ ls. slice_get ls c.in-Variant-value-2.case) c.as_slice-in-Variant-value-2.ensures) ∙ c.in-Some-item_at.ensures in
    let written : writer c.args.val_type.now c.args.value.now ≡ name_text c.in-Some-item_at.label.now =
    write_enum c.args.val_type.now c.args.value.now c.in-Enum.labels c.in-Variant-value-2.case c.in-Variant-value-2.field-1 c.in-Enum.is c.in-Variant-value-2.is
    ∙ writes_label c.in-Enum.labels c.in-Variant-value-2.case c.in-Some-item_at.label.now h in
    subst (λ (w : Chars). OnOk c.push_name-in-Some-item_at.result (c.push_name-in-Some-item_at.new.text.items ≡ c.args.to.now.items ++ w)) (sym written) c.push_name-in-Some-item_at.ensures

pub push_value-returns-in-None-item_at : goal.push_value-returns-in-None-item_at
push_value-returns-in-None-item_at t c =
    let h : slice_get c.in-Enum.labels c.in-Variant-value-2.case ≡ None =
    sym (ap (λ ls. slice_get ls c.in-Variant-value-2.case) c.as_slice-in-Variant-value-2.ensures) ∙ c.in-None-item_at.ensures in
    sym (ap (λ (w : Chars). c.args.to.now.items ++ w)
    (write_enum c.args.val_type.now c.args.value.now c.in-Enum.labels c.in-Variant-value-2.case c.in-Variant-value-2.field-1 c.in-Enum.is c.in-Variant-value-2.is
    ∙ writes_no_label c.in-Enum.labels c.in-Variant-value-2.case h)
    ∙ append-nil c.args.to.now.items)
