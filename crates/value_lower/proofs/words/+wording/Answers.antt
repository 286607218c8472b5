-- Each part goes on with the plan that is left.
use Rattle.std.proofs.Common.{rules, ◌≡◌, ◌∙◌, ◌+◌, ◌*◌, ◌<◌, ◌++◌, ◌∷◌, [], ℕ, List, Option, Some, Err, map, length, get_or, ap, sym, arith}
use Rattle.std.proofs.lemmas.Result.{err_from_is_err_and}
use Rattle.std.proofs.lemmas.List.{length-map}
use denote.Param.Weighed.{most, at_most}
use Rattle.std.specs.List.{slice_get}
use Rattle.std.specs.Option.{option_map}
use Rattle.syntax_trees.proofs.value.Value.TheLaws.{the_size}
use Rattle.syntax_trees.specs.declared.types.ValType.{ValType, out-ValType}
use Rattle.syntax_trees.specs.declared.value.Value.{Value}
use Rattle.syntax_trees.specs.declared.value.Value.TheOpen as V
use Rattle.syntax_trees.specs.declared.value.Value.TheViews.{the_lemmas}
use Rattle.laid_types.specs.Parts.{part_at, parts_of}
use Rattle.value_lower.specs.Plan.{New, NewOwn, NewBorrow, NewEnd, Plan}
use Rattle.value_lower.specs.Following.{rooms_of}
use Rattle.value_lower.specs.Storing.{Lowered, text_in, list_in, field_words, payload_words, case_words}
use Rattle.value_lower.specs.Entering.{lowered, layer_of, flat_words, words_case, index_word}
use Rattle.value_lower.proofs.Going.{same, further, goes, stops}
use Rattle.value_lower.proofs.Views.{out_list, out_record, out_variant, layer_string, layer_list, layer_record, layer_variant, layer_own, layer_borrow, layer_stream, layer_future}
use Rattle.value_lower.proofs.Numbered.{part_type, no_part_type, part_among, leads_among, runs_among}
use Rattle.value_lower.proofs.Plans.{got}
use Rattle.value_lower.proofs.FlatWords.{few_fields, few_payloads, words_left, words_one, words_none, words_done}
use Rattle.value_lower.proofs.Fitted.{field_fits, element_fits, payload_fits, by_layers}
use Rattle.value_lower.proofs.words.+wording.Goals as goal

-- Records.
pub push_fields-loop-index-preserved-in_default : goal.push_fields-loop-index-preserved-in_default
push_fields-loop-index-preserved-in_default g t c = λ k.
    let enter : New → (ℕ → Plan) → Plan = g.B.Beside.entering c.args.home.now.resources.now in
    let start = g.B.Beside.state c.args.room.now c.args.beside.now in
    let rooms = rooms_of g.B.Beside.memory g.B.Beside.answers g.B.Beside.wrote (g.B.Beside.adds c.args.home.now.task c.args.t.now.types) in
    let l = c.loop-index in
    let all = c.args.values.now in
    let types = parts_of c.args.t.now.val_type in
    let none = no_part_type c.part.result (part_at c.args.t.now.val_type l.index) c.part.ensures.value c.in_default.is in
    further rooms (field_words types (map (lowered enter) all) c.args.words.now k) (words_left enter l.index types all l.words k) (words_left enter (l.index + 1) types all l.words k)
    start (g.B.Beside.state l.room l.beside) (g.B.Beside.state l.room l.beside) (l.invariant k)
    (same rooms (words_left enter l.index types all l.words k) (words_left enter (l.index + 1) types all l.words k) (g.B.Beside.state l.room l.beside)
    (words_none enter l.index types all c.index-values-index.result l.words k none c.loop-index-test.true c.index-values-index.is))

pub push_fields-push_value-requires : goal.push_fields-push_value-requires
push_fields-push_value-requires g t c κs within =
    let l = c.loop-index in
    let there = part_type c.part.result (part_at c.args.t.now.val_type l.index) c.in-Some.part c.part.ensures.value c.in-Some.is in
    let v = c.index-values-index.result in
    let all = c.args.values.now in
    let measure : 4 * most the_size all + 2 ≡ t = c.decreases in
    let one : the_size v ≡ the_size (get_or all l.index v) = ap the_size c.index-values-index.is in
    let below : 4 * the_size v + 1 < t = omega (arith, measure, one, at_most the_size all l.index v c.loop-index-test.true) in
    (below, (search rules, (search rules, (search rules, (c.requires.fit l.index v c.in-Some.part.val_type (got all l.index v c.loop-index-test.true c.index-values-index.is) there, c.requires.few l.index c.in-Some.part.val_type there)))))

pub push_fields-returns-in_err-push_value : goal.push_fields-returns-in_err-push_value
push_fields-returns-in_err-push_value g t c = λ k.
    let enter : New → (ℕ → Plan) → Plan = g.B.Beside.entering c.args.home.now.resources.now in
    let start = g.B.Beside.state c.args.room.now c.args.beside.now in
    let rooms = rooms_of g.B.Beside.memory g.B.Beside.answers g.B.Beside.wrote (g.B.Beside.adds c.args.home.now.task c.args.t.now.types) in
    let p = err_from_is_err_and c.from_residual.result c.from_residual.ensures.1 in
    let l = c.loop-index in
    let all = c.args.values.now in
    let types = parts_of c.args.t.now.val_type in
    let there = part_type c.part.result (part_at c.args.t.now.val_type l.index) c.in-Some.part c.part.ensures.value c.in-Some.is in
    let among = part_among c.part.result c.args.t.now.types c.in-Some.part c.part.ensures.types c.in-Some.is in
    let q = c.in-Some.part.val_type in
    let rest : List ℕ → Plan = λ (words : List ℕ). words_left enter (l.index + 1) types all words k in
    let left : Plan = words_left enter l.index types all l.words k in
    let part : Plan = flat_words enter q c.index-values-index.result l.words rest in
    let whole : Plan = field_words types (map (lowered enter) all) c.args.words.now k in
    rw (p.1, p.2)
    (stops rooms {A = Unit {0}} {B = Unit {0}} whole part (λ x. rest c.push_value.new.words) (λ x. k c.push_value.new.words) start (g.B.Beside.state l.room l.beside) (g.B.Beside.state c.push_value.new.room c.push_value.new.beside)
    c.in_err-push_value.field-0.0
    (further rooms whole left part start (g.B.Beside.state l.room l.beside) (g.B.Beside.state l.room l.beside) (l.invariant k)
    (same rooms left part (g.B.Beside.state l.room l.beside) (words_one enter l.index types all q c.index-values-index.result l.words k there c.loop-index-test.true c.index-values-index.is)))
    (runs_among g.B.Beside.memory g.B.Beside.answers g.B.Beside.wrote (g.B.Beside.adds c.args.home.now.task) c.in-Some.part.types c.args.t.now.types among {A = Unit {0}} part (λ x. rest c.push_value.new.words) (g.B.Beside.state l.room l.beside) (g.B.Beside.state c.push_value.new.room c.push_value.new.beside)
    (Err c.in_err-push_value.field-0.0) (c.in_err-push_value.ensures rest)))

pub push_fields-loop-index-preserved : goal.push_fields-loop-index-preserved
push_fields-loop-index-preserved g t c = λ k.
    let enter : New → (ℕ → Plan) → Plan = g.B.Beside.entering c.args.home.now.resources.now in
    let start = g.B.Beside.state c.args.room.now c.args.beside.now in
    let rooms = rooms_of g.B.Beside.memory g.B.Beside.answers g.B.Beside.wrote (g.B.Beside.adds c.args.home.now.task c.args.t.now.types) in
    let l = c.loop-index in
    let all = c.args.values.now in
    let types = parts_of c.args.t.now.val_type in
    let there = part_type c.part.result (part_at c.args.t.now.val_type l.index) c.in-Some.part c.part.ensures.value c.in-Some.is in
    let among = part_among c.part.result c.args.t.now.types c.in-Some.part c.part.ensures.types c.in-Some.is in
    let q = c.in-Some.part.val_type in
    let rest : List ℕ → Plan = λ (words : List ℕ). words_left enter (l.index + 1) types all words k in
    let left : Plan = words_left enter l.index types all l.words k in
    let part : Plan = flat_words enter q c.index-values-index.result l.words rest in
    let whole : Plan = field_words types (map (lowered enter) all) c.args.words.now k in
    further rooms whole left (rest c.push_value.new.words) start (g.B.Beside.state l.room l.beside) (g.B.Beside.state c.push_value.new.room c.push_value.new.beside) (l.invariant k)
    (λ came after h.
    same rooms left part (g.B.Beside.state l.room l.beside) (words_one enter l.index types all q c.index-values-index.result l.words k there c.loop-index-test.true c.index-values-index.is) came after
    (leads_among g.B.Beside.memory g.B.Beside.answers g.B.Beside.wrote (g.B.Beside.adds c.args.home.now.task) c.in-Some.part.types c.args.t.now.types among part (rest c.push_value.new.words) (g.B.Beside.state l.room l.beside) (g.B.Beside.state c.push_value.new.room c.push_value.new.beside) (c.in_ok-push_value.ensures rest) came after h))

pub push_fields-returns : goal.push_fields-returns
push_fields-returns g t c = λ k.
    let enter : New → (ℕ → Plan) → Plan = g.B.Beside.entering c.args.home.now.resources.now in
    let start = g.B.Beside.state c.args.room.now c.args.beside.now in
    let rooms = rooms_of g.B.Beside.memory g.B.Beside.answers g.B.Beside.wrote (g.B.Beside.adds c.args.home.now.task c.args.t.now.types) in
    let l = c.loop-index in
    let all = c.args.values.now in
    let types = parts_of c.args.t.now.val_type in
    further rooms (field_words types (map (lowered enter) all) c.args.words.now k) (words_left enter l.index types all l.words k) (k l.words) start (g.B.Beside.state l.room l.beside) (g.B.Beside.state l.room l.beside)
    (l.invariant k)
    (same rooms (words_left enter l.index types all l.words k) (k l.words) (g.B.Beside.state l.room l.beside) (words_done enter l.index types all l.words k (omega arith)))

-- Payloads.
pub push_payload-returns : goal.push_payload-returns
push_payload-returns g t c = λ k.
    let enter : New → (ℕ → Plan) → Plan = g.B.Beside.entering c.args.home.now.resources.now in
    let start = g.B.Beside.state c.args.room.now c.args.beside.now in
    let rooms = rooms_of g.B.Beside.memory g.B.Beside.answers g.B.Beside.wrote (g.B.Beside.adds c.args.home.now.task c.args.t.now.types) in
    let n = c.args.case in
    let o = c.args.payload.now in
    let v = c.get.result.now in
    let type = c.args.t.now.val_type in
    let there = part_type c.part.result (part_at type n) c.in-Some-part.part c.part.ensures.value c.in-Some-part.is in
    let among = part_among c.part.result c.args.t.now.types c.in-Some-part.part c.part.ensures.types c.in-Some-part.is in
    let q = c.in-Some-part.part.val_type in
    let whole : Plan = payload_words (part_at type n) (option_map (lowered enter) o) c.args.words.now k in
    let part : Plan = flat_words enter q v c.args.words.now k in
    goes rooms whole part (λ x. k c.push_value.new.words) start start (g.B.Beside.state c.push_value.new.room c.push_value.new.beside) c.push_value.result
    (same rooms whole part start
    (ap (λ (x : Option Value). payload_words (part_at type n) (option_map (lowered enter) x) c.args.words.now k) (c.in-Some.is ∙ ap (λ (x : Value). Some x) (sym c.get.ensures))
    ∙ ap (λ (x : Option ValType). payload_words x (Some (lowered enter v)) c.args.words.now k) there))
    (runs_among g.B.Beside.memory g.B.Beside.answers g.B.Beside.wrote (g.B.Beside.adds c.args.home.now.task) c.in-Some-part.part.types c.args.t.now.types among {A = Unit {0}} part (λ x. k c.push_value.new.words) start (g.B.Beside.state c.push_value.new.room c.push_value.new.beside) c.push_value.result
    (c.push_value.ensures k))

-- Values.
pub push_layer-push_list-requires : goal.push_layer-push_list-requires
push_layer-push_list-requires g t c =
    let type = c.args.t.now.val_type in
    let all = c.in-List.values in
    let h = by_layers type c.args.value.now (V.List all) c.requires.fits (out_list c.args.value.now all c.in-List.is) in
    λ p i n v j. element_fits (out-ValType type) all p n v h i (sym (ap (λ (xs : List Value). slice_get xs n) c.as_slice.ensures) ∙ j)

pub push_layer-push_fields-requires : goal.push_layer-push_fields-requires
push_layer-push_fields-requires g t c κs within =
    let type = c.args.t.now.val_type in
    let all = c.in-Record.values in
    let h = by_layers type c.args.value.now (V.Record all) c.requires.fits (out_record c.args.value.now all c.in-Record.is) in
    (search (rules, the_lemmas), (search rules, (search rules, (search rules, (λ n v p i j. field_fits (out-ValType type) all n v p h (sym (ap (λ (xs : List Value). slice_get xs n) c.as_slice-in-Record.ensures) ∙ i) j, few_fields type all h c.requires.most)))))

pub push_layer-push_case-requires : goal.push_layer-push_case-requires
push_layer-push_case-requires g t c κs within =
    let type = c.args.t.now.val_type in
    let n = c.in-Variant.case in
    let o = c.in-Variant.payload in
    let w = out_variant c.args.value.now n o c.in-Variant.is in
    let h = by_layers type c.args.value.now (V.Variant n o) c.requires.fits w in
    (search (rules, the_lemmas), (search rules, (search rules, (search rules, (λ v p i j. payload_fits (out-ValType type) n v p (by_layers type c.args.value.now (V.Variant n (Some v)) c.requires.fits (w ∙ ap (λ (x : Option Value). (let y : V.Value-F Value = V.Variant n x in y)) i)) j, (few_payloads type n o h c.requires.most, c.requires.most))))))

pub push_layer-returns-in-String : goal.push_layer-returns-in-String
push_layer-returns-in-String g t c = λ k.
    let enter : New → (ℕ → Plan) → Plan = g.B.Beside.entering c.args.home.now.resources.now in
    let start = g.B.Beside.state c.args.room.now c.args.beside.now in
    let rooms = rooms_of g.B.Beside.memory g.B.Beside.answers g.B.Beside.wrote (g.B.Beside.adds c.args.home.now.task c.args.t.now.types) in
    let type = c.args.t.now.val_type in
    let text = c.in-String.text in
    let before = c.args.words.now in
    let part : List ℕ → Plan = λ (bytes : List ℕ). text_in bytes (λ to. k (before ++ to ∷ length bytes ∷ [])) in
    let whole : Plan = words_case enter (layer_of enter c.args.value.now) type before k in
    goes rooms whole (part c.as_str.result.now) (λ x. k c.push_text.new.words) start start (g.B.Beside.state c.push_text.new.room c.args.beside.now) c.push_text.result
    (same rooms whole (part c.as_str.result.now) start
    (ap (λ (w : V.Value-F Lowered). words_case enter w type before k) (layer_string enter c.args.value.now text c.in-String.is) ∙ ap part (sym c.as_str.ensures)))
    (c.push_text.ensures c.args.home.now.task c.args.t.now.types k)

pub push_layer-returns-in-List : goal.push_layer-returns-in-List
push_layer-returns-in-List g t c = λ k.
    let enter : New → (ℕ → Plan) → Plan = g.B.Beside.entering c.args.home.now.resources.now in
    let start = g.B.Beside.state c.args.room.now c.args.beside.now in
    let rooms = rooms_of g.B.Beside.memory g.B.Beside.answers g.B.Beside.wrote (g.B.Beside.adds c.args.home.now.task c.args.t.now.types) in
    let type = c.args.t.now.val_type in
    let all = c.in-List.values in
    let before = c.args.words.now in
    let part : List Value → Plan = λ (vs : List Value). list_in (part_at type 0) (map (lowered enter) vs) (λ to. k (before ++ to ∷ length vs ∷ [])) in
    let whole : Plan = words_case enter (layer_of enter c.args.value.now) type before k in
    goes rooms whole (part c.as_slice.result.now) (λ x. k c.push_list.new.words) start start (g.B.Beside.state c.push_list.new.room c.push_list.new.beside) c.push_list.result
    (same rooms whole (part c.as_slice.result.now) start
    (ap (λ (w : V.Value-F Lowered). words_case enter w type before k) (layer_list enter c.args.value.now all c.in-List.is)
    ∙ ap (λ (n : ℕ). list_in (part_at type 0) (map (lowered enter) all) (λ to. k (before ++ to ∷ n ∷ []))) (length-map all (lowered enter))
    ∙ ap part (sym c.as_slice.ensures)))
    (c.push_list.ensures k)

pub push_layer-returns-in-Record : goal.push_layer-returns-in-Record
push_layer-returns-in-Record g t c = λ k.
    let enter : New → (ℕ → Plan) → Plan = g.B.Beside.entering c.args.home.now.resources.now in
    let start = g.B.Beside.state c.args.room.now c.args.beside.now in
    let rooms = rooms_of g.B.Beside.memory g.B.Beside.answers g.B.Beside.wrote (g.B.Beside.adds c.args.home.now.task c.args.t.now.types) in
    let type = c.args.t.now.val_type in
    let all = c.in-Record.values in
    let before = c.args.words.now in
    let part : List Value → Plan = λ (vs : List Value). field_words (parts_of type) (map (lowered enter) vs) before k in
    let whole : Plan = words_case enter (layer_of enter c.args.value.now) type before k in
    goes rooms whole (part c.as_slice-in-Record.result.now) (λ x. k c.push_fields.new.words) start start (g.B.Beside.state c.push_fields.new.room c.push_fields.new.beside) c.push_fields.result
    (same rooms whole (part c.as_slice-in-Record.result.now) start
    (ap (λ (w : V.Value-F Lowered). words_case enter w type before k) (layer_record enter c.args.value.now all c.in-Record.is) ∙ ap part (sym c.as_slice-in-Record.ensures)))
    (c.push_fields.ensures k)

pub push_layer-returns-in-Variant : goal.push_layer-returns-in-Variant
push_layer-returns-in-Variant g t c = λ k.
    let enter : New → (ℕ → Plan) → Plan = g.B.Beside.entering c.args.home.now.resources.now in
    let start = g.B.Beside.state c.args.room.now c.args.beside.now in
    let rooms = rooms_of g.B.Beside.memory g.B.Beside.answers g.B.Beside.wrote (g.B.Beside.adds c.args.home.now.task c.args.t.now.types) in
    let type = c.args.t.now.val_type in
    let before = c.args.words.now in
    let part : Plan = case_words type c.in-Variant.case (option_map (lowered enter) c.in-Variant.payload) before k in
    let whole : Plan = words_case enter (layer_of enter c.args.value.now) type before k in
    goes rooms whole part (λ x. k c.push_case.new.words) start start (g.B.Beside.state c.push_case.new.room c.push_case.new.beside) c.push_case.result
    (same rooms whole part start
    (ap (λ (w : V.Value-F Lowered). words_case enter w type before k) (layer_variant enter c.args.value.now c.in-Variant.case c.in-Variant.payload c.in-Variant.is)))
    (c.push_case.ensures k)

pub push_layer-returns-in-Own : goal.push_layer-returns-in-Own
push_layer-returns-in-Own g t c = λ k.
    let enter : New → (ℕ → Plan) → Plan = g.B.Beside.entering c.args.home.now.resources.now in
    let start = g.B.Beside.state c.args.room.now c.args.beside.now in
    let rooms = rooms_of g.B.Beside.memory g.B.Beside.answers g.B.Beside.wrote (g.B.Beside.adds c.args.home.now.task c.args.t.now.types) in
    let type = c.args.t.now.val_type in
    let before = c.args.words.now in
    let whole : Plan = words_case enter (layer_of enter c.args.value.now) type before k in
    let part : Plan = index_word enter (NewOwn c.in-Own.handle.resource c.in-Own.handle.rep) before k in
    goes rooms whole part (λ x. k c.push_index.new.words) start start (g.B.Beside.state c.args.room.now c.push_index.new.beside) c.push_index.result
    (same rooms whole part start (ap (λ (w : V.Value-F Lowered). words_case enter w type before k) (layer_own enter c.args.value.now c.in-Own.handle c.in-Own.is)))
    (c.push_index.ensures k)

pub push_layer-returns-in-Borrow : goal.push_layer-returns-in-Borrow
push_layer-returns-in-Borrow g t c = λ k.
    let enter : New → (ℕ → Plan) → Plan = g.B.Beside.entering c.args.home.now.resources.now in
    let start = g.B.Beside.state c.args.room.now c.args.beside.now in
    let rooms = rooms_of g.B.Beside.memory g.B.Beside.answers g.B.Beside.wrote (g.B.Beside.adds c.args.home.now.task c.args.t.now.types) in
    let type = c.args.t.now.val_type in
    let before = c.args.words.now in
    let whole : Plan = words_case enter (layer_of enter c.args.value.now) type before k in
    let part : Plan = index_word enter (NewBorrow c.in-Borrow.handle.resource c.in-Borrow.handle.rep) before k in
    goes rooms whole part (λ x. k c.push_index-in-Borrow.new.words) start start (g.B.Beside.state c.args.room.now c.push_index-in-Borrow.new.beside) c.push_index-in-Borrow.result
    (same rooms whole part start (ap (λ (w : V.Value-F Lowered). words_case enter w type before k) (layer_borrow enter c.args.value.now c.in-Borrow.handle c.in-Borrow.is)))
    (c.push_index-in-Borrow.ensures k)

pub push_layer-returns-in-Stream : goal.push_layer-returns-in-Stream
push_layer-returns-in-Stream g t c = λ k.
    let enter : New → (ℕ → Plan) → Plan = g.B.Beside.entering c.args.home.now.resources.now in
    let start = g.B.Beside.state c.args.room.now c.args.beside.now in
    let rooms = rooms_of g.B.Beside.memory g.B.Beside.answers g.B.Beside.wrote (g.B.Beside.adds c.args.home.now.task c.args.t.now.types) in
    let type = c.args.t.now.val_type in
    let before = c.args.words.now in
    let whole : Plan = words_case enter (layer_of enter c.args.value.now) type before k in
    let part : Plan = index_word enter (NewEnd type c.in-Stream.number) before k in
    goes rooms whole part (λ x. k c.push_index-in-Stream.new.words) start start (g.B.Beside.state c.args.room.now c.push_index-in-Stream.new.beside) c.push_index-in-Stream.result
    (same rooms whole part start (ap (λ (w : V.Value-F Lowered). words_case enter w type before k) (layer_stream enter c.args.value.now c.in-Stream.number c.in-Stream.is)))
    (c.push_index-in-Stream.ensures k)

pub push_layer-returns-in-Future : goal.push_layer-returns-in-Future
push_layer-returns-in-Future g t c = λ k.
    let enter : New → (ℕ → Plan) → Plan = g.B.Beside.entering c.args.home.now.resources.now in
    let start = g.B.Beside.state c.args.room.now c.args.beside.now in
    let rooms = rooms_of g.B.Beside.memory g.B.Beside.answers g.B.Beside.wrote (g.B.Beside.adds c.args.home.now.task c.args.t.now.types) in
    let type = c.args.t.now.val_type in
    let before = c.args.words.now in
    let whole : Plan = words_case enter (layer_of enter c.args.value.now) type before k in
    let part : Plan = index_word enter (NewEnd type c.in-Future.number) before k in
    goes rooms whole part (λ x. k c.push_index-in-Future.new.words) start start (g.B.Beside.state c.args.room.now c.push_index-in-Future.new.beside) c.push_index-in-Future.result
    (same rooms whole part start (ap (λ (w : V.Value-F Lowered). words_case enter w type before k) (layer_future enter c.args.value.now c.in-Future.number c.in-Future.is)))
    (c.push_index-in-Future.ensures k)
