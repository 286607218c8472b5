-- The parameters so far are made again, over a table that has grown.
use Rattle.std.proofs.Common.{take}
use Rattle.std.specs.List.{AllZip}
use Rattle.link_types.specs.Changes.{change_of}
use Rattle.link_types.specs.Table.{Grows}
use Rattle.link_types.proofs.Renumbered.{IsNewParam}
use Rattle.link_types.proofs.renumbering.changed_params.Given as goal

abbrev pub invariant-loop-param : goal.invariant-loop-param
invariant-loop-param l =
    Grows l.fn.types l.types × AllZip (IsNewParam (change_of l.how.change l.how.depth) l.types.values) l.all.items (take l.param-index l.params)
