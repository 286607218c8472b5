use Rattle.std.proofs.Common.{◌∙◌, ap, List, ℕ, Option}
use Rattle.std.specs.List.{slice_get, find}
use Rattle.std.specs.Option.{option_and_then, option_map}
use Rattle.std.specs.Str.{bytes_eq}
use Rattle.syntax_trees.proofs.FirstNamed.{found_by_name}
use Rattle.comp_tree.specs.declared.core_instances.CoreArgument.{CoreArgument}
use Rattle.link_core_exports.proofs.arguments.Arguments.instance.Goals as goal

pub returns : goal.returns
returns c =
    let read : List CoreArgument = c.self.inside.read.now in
    let q = c.args.name.now in
    c.instance_at.ensures
    ∙ ap (λ (at : Option ℕ). option_map (λ (a : CoreArgument). a.instance) (option_and_then (λ k. slice_get read k) at)) (c.find-number.ensures ∙ c.self.invariant q)
    ∙ ap (option_map (λ (a : CoreArgument). a.instance)) (found_by_name (λ (a : CoreArgument). a.name) read q)
    ∙ ap (λ (as_read : List CoreArgument). option_map (λ (a : CoreArgument). a.instance) (find (λ (a : CoreArgument). bytes_eq a.name q) as_read)) c.self.view_is
