use Rattle.std.proofs.Common.{◌∙◌, ap, List}
use Rattle.std.specs.List.{slice_get}
use Rattle.std.specs.Option.{option_and_then, option_map}
use Rattle.link_spec.specs.Definitions.{CoreExport, core_named}
use Rattle.link_core_exports.proofs.Named.{inline_named}
use Rattle.link_core_exports.proofs.inline_exports.InlineExports.exported.Goals as goal

pub returns : goal.returns
returns c =
    c.item_at.ensures
    ∙ ap (λ (es : List CoreExport). option_map (λ (e : CoreExport). e.item) (option_and_then (λ k. slice_get es k) c.find-number.result)) c.deref.ensures.value
    ∙ inline_named c.self.inside.exports.items c.args.name.now c.find-number.result (c.find-number.ensures ∙ c.self.invariant c.args.name.now)
    ∙ ap (core_named c.args.name.now) c.self.view_is
