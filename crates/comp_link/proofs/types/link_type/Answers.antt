use Rattle.std.proofs.Common.{◌∙◌, sym}
use Rattle.comp_link.proofs.ResourceParts.{of_resource, of_other}
use Rattle.comp_link.proofs.types.link_type.Goals as goal

pub returns-in-Some-clause-made : goal.returns-in-Some-clause-made
returns-in-Some-clause-made c = λ bases l s at. of_resource l c.args.n s c.args.def_type.now c.in-Some.destructor c.link_resource.new.linker c.link_resource.result (sym c.resource_written.ensures ∙ c.in-Some.is) (c.link_resource.ensures.made bases l s at)

pub returns-in-None-clause-made : goal.returns-in-None-clause-made
returns-in-None-clause-made c = λ bases l s at. of_other l c.args.n s c.args.def_type.now c.link_closed.new.linker c.link_closed.result (sym c.resource_written.ensures ∙ c.in-None.is) (c.link_closed.ensures.made bases l s at)
