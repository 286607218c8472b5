use Rattle.std.proofs.Common.{ap, ◌∙◌, ℕ, List}
use Rattle.syntax_trees.specs.Names.{is_among}
use Rattle.link_parts.proofs.name_list.NameList.has.Goals as goal

pub returns : goal.returns
returns c = c.contains.ensures ∙ c.self.invariant c.args.name.now ∙ ap (λ (names : List (List ℕ)). is_among c.args.name.now names) c.self.view_is
