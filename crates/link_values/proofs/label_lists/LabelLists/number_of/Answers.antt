use Rattle.std.proofs.Common.{◌≡◌, ◌∙◌, ◌+◌, ℕ, List, length, Option, Some, None, Vec, Global, Bor, ap, sym}
use Rattle.link_values.specs.Labels.{list_number, texts}
use Rattle.link_values.proofs.LabelsAdded.{shown, looked_up, one_longer, put_listed, put_stays, put_here}
use Rattle.link_values.proofs.label_lists.LabelLists.number_of.Goals as goal

abbrev items_of : Vec (Bor (List ℕ)) Global → List (Bor (List ℕ))
items_of v = v.items

pub returns-in-Some-clause-ok : goal.returns-in-Some-clause-ok
returns-in-Some-clause-ok c =
    ap (λ (es : List (List (List ℕ) × ℕ)). list_number es (texts c.args.labels.items)) (sym c.self.view_is)
    ∙ ap (λ (ls : List (Bor (List ℕ))). list_number (shown items_of c.self.inside.numbers.entries) (texts ls)) (sym c.as_slice.ensures.value)
    ∙ sym (looked_up items_of c.as_slice.result.now c.self.inside.numbers.entries)
    ∙ sym c.get.ensures.value
    ∙ sym c.copied.ensures
    ∙ c.in-Some.is

seen_none : (c : goal.In_ok-insert) → c.copied.result ≡ None
seen_none c = c.in_default.is

absent : (c : goal.In_ok-insert) → list_number (shown items_of c.self.inside.numbers.entries) (texts c.args.labels.items) ≡ None
absent c =
    ap (λ (ls : List (Bor (List ℕ))). list_number (shown items_of c.self.inside.numbers.entries) (texts ls)) (sym c.as_slice.ensures.value)
    ∙ sym (looked_up items_of c.as_slice.result.now c.self.inside.numbers.entries)
    ∙ sym c.get.ensures.value
    ∙ sym c.copied.ensures
    ∙ seen_none c

long : (c : goal.In_ok-insert) → length c.insert.new.self.entries ≡ length c.self.inside.numbers.entries + 1
long c =
    one_longer items_of c.in_ok-insert.field-0 (length c.insert.new.self.entries) (length c.self.inside.numbers.entries)
    (c.in_ok-insert.ensures.old ∙ looked_up items_of c.args.labels.items c.self.inside.numbers.entries ∙ absent c) c.in_ok-insert.ensures.len

pub invariant_of-self-2 : goal.invariant_of-self-2
invariant_of-self-2 c =
    put_listed items_of c.self.inside.numbers.entries c.insert.new.self.entries c.args.self.now c.args.labels c.len-number.result c.self.invariant c.self.view_is (absent c) c.len-number.ensures.len (long c) c.in_ok-insert.ensures.entries

pub returns-clause-ok : goal.returns-clause-ok
returns-clause-ok c =
    put_here items_of c.self.inside.numbers.entries c.insert.new.self.entries c.args.self.now c.args.labels c.len-number.result c.self.invariant c.self.view_is (absent c) c.len-number.ensures.len (long c) c.in_ok-insert.ensures.entries

pub returns-clause-stays : goal.returns-clause-stays
returns-clause-stays c =
    put_stays items_of c.self.inside.numbers.entries c.insert.new.self.entries c.args.self.now c.args.labels c.len-number.result c.self.invariant c.self.view_is (absent c) c.len-number.ensures.len (long c) c.in_ok-insert.ensures.entries

pub returns-clause-listed : goal.returns-clause-listed
returns-clause-listed c = invariant_of-self-2 c
