use Rattle.std.proofs.Common.{◌≡◌, ◌∙◌, ℕ, List, inl}
use Rattle.syntax_trees.specs.declared.types.ValType.{ValType}
use Rattle.laid_types.specs.Layers.{type_of}
use Rattle.link_values.specs.Labels.{texts}
use Rattle.link_values.proofs.KeyOfType.{key_now, found_now, added_now}
use Rattle.link_values.proofs.value_types.ValueTypes.number_of.Goals as goal

pub returns-in-Some-clause-ok : goal.returns-in-Some-clause-ok
returns-in-Some-clause-ok c =
    let seen = c.args.self.now in
    let now = c.list_number.new.self in
    let same : now.types ≡ seen = c.list_number.ensures.types ∙ c.self.view_is in
    let k = key_now seen now c.args.layer.now same c.in_ok-labels-2.labels (texts c.in_ok-labels.field-0.items) c.in_ok-key.key c.requires c.in_ok-labels.ensures c.in_ok-labels-2.ensures.ok c.in_ok-key.ensures in
    (found_now seen now c.args.layer.now same c.in-Some.number (c.in-Some.ensures (type_of now.types c.args.layer.now) k), inl same)

pub add-requires-clause-absent : goal.add-requires-clause-absent
add-requires-clause-absent c =
    let seen = c.args.self.now in
    let now = c.list_number.new.self in
    let same : now.types ≡ seen = c.list_number.ensures.types ∙ c.self.view_is in
    let k = key_now seen now c.args.layer.now same c.in_ok-labels-2.labels (texts c.in_ok-labels.field-0.items) c.in_ok-key.key c.requires c.in_ok-labels.ensures c.in_ok-labels-2.ensures.ok c.in_ok-key.ensures in
    c.in-None.ensures (type_of now.types c.args.layer.now) k

pub returns-clause-ok : goal.returns-clause-ok
returns-clause-ok c =
    let same : c.list_number.new.self.types ≡ c.args.self.now = c.list_number.ensures.types ∙ c.self.view_is in
    added_now c.args.self.now c.list_number.new.self c.args.layer.now same c.in_ok-add-in-None.field-0 c.add.new.self.types c.in_ok-add-in-None.ensures.number c.in_ok-add-in-None.ensures.ok
