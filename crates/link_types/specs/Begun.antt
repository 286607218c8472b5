-- Types of instances (Component Model, Explainer.md, "Type Definitions") that are being made.
use Rattle.std.specs.Prelude.{◌≡◌}
use Rattle.comp_graph.specs.Closed.{Externs, names_in_externs}
use Rattle.link_types.specs.declared.maker.InstanceTypeMaker.{InstanceTypeMaker}
use Rattle.link_types.specs.Layered.{IsExternsLayer}
use Rattle.link_types.specs.Table.{Table, AreListed}

-- The exports so far.
abbrev pub IsBegun : Table → InstanceTypeMaker → Externs → Type 0
IsBegun t maker externs =
    IsExternsLayer t.texts t.values t.layers maker.layer externs × AreListed t maker.externs externs × (maker.names_resource ≡ names_in_externs externs)
