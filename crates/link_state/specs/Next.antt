-- What an instance comes to (Component Model, Explainer.md, "Instance Definitions"): it is made, or the items of a component come
-- next, in an instance of their own.
use Rattle.std.specs.Prelude.{◌≡◌, List}
use Rattle.link_spec.specs.Definitions.{Exports}
use Rattle.link_spec.specs.Spaces.{Linking}
use Rattle.link_spec.specs.Computed.{Outcome, Makes, Starts}
use Rattle.link_instances.specs.References.{IsInstance}
use Rattle.link_state.specs.declared.linker.Linker.{Linker}
use Rattle.link_state.specs.declared.instances.Next.{Next}
use Rattle.link_state.specs.declared.instances.Next.TheVariants as next
use Rattle.link_state.specs.State.{world_of, IsState, Stands}

abbrev pub IsNext : Linker → Linking → Next → Outcome → Type 0
IsNext k l next.Made (Makes new) = Stands k new
IsNext k l (next.Begins component around arguments) (Starts c given) =
    (c ≡ record { items = component.now.items; around = around })
    × ((bases : List Exports) × IsState bases k l × IsInstance k.types (world_of bases k) arguments given)
IsNext k l n outcome = ⊥
