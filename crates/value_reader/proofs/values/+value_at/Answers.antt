-- What stands behind the label of the case that it chooses.
use Rattle.std.proofs.Common.{◌≡◌, ◌∙◌, sym, ap, subst, map, Option, Some, None, List, ℕ, MatchOption, Bor}
use Rattle.std.specs.List.{slice_get}
use Rattle.syntax_trees.specs.declared.types.Case.{Case}
use Rattle.syntax_trees.specs.declared.value.Value.{Value}
use Rattle.value_reader.specs.Tokens.{label_of}
use Rattle.value_reader.specs.Reads.{MayRead}
use Rattle.value_reader.specs.Values.{place_of, case_at, payload_reader}
use Rattle.value_reader.proofs.Chosen.{reads_case}
use Rattle.value_reader.proofs.values.+value_at.Goals as goal

pub variant_at-returns : goal.variant_at-returns
variant_at-returns t c =
    let cases = c.args.cases.now in
    let text = c.args.text.now in
    let n = c.in_ok-place.place in
    let case = c.in_ok-case.case.now in
    let place : place_of (label_of text) (map (λ (k : Case). k.label) cases) ≡ Some n =
    ap (λ (l : List ℕ). place_of l (map (λ (k : Case). k.label) cases)) (sym c.label.ensures.label) ∙ (sym c.place_of_case.ensures ∙ c.in_ok-place.ensures.ok_part) in
    let there : slice_get cases n ≡ Some case =
    subst (λ (o : Option (Bor Case)). MatchOption o (slice_get cases n ≡ None) (λ k. slice_get cases n ≡ Some k.now)) c.in_ok-case.ensures.ok_part c.case_of.ensures in
    let behind =
    ap (λ (k : ℕ). case_at k (payload_reader case.payload) c.label.new.self) c.in_ok-number.ensures
    ∙ ap (λ (l : List ℕ). case_at n (payload_reader case.payload) l) c.label.ensures.rest
    ∙ sym (reads_case cases text n case place there) in
    subst (λ (found : Option (Value × List ℕ)). MayRead found c.case_at.new.text c.case_at.result) behind c.case_at.ensures
