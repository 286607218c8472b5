use Rattle.comp_link.proofs.linking.link_component.Goals as goal

pub returns-clause-made : goal.returns-clause-made
returns-clause-made c = λ bases l s at. (bases, c.in_ok-add_component.ensures.ok bases l s at)
