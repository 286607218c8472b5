use Rattle.async_graph_laws.proofs.ReadWorlds.{read_worlds_are_known}
use Rattle.async_graph_laws.proofs.laws.read_worlds_are_known.Goals as goal

pub returns : goal.returns
returns c =
    read_worlds_are_known c.linked_definitions_are_apart.ensures c.read_scripts_pass_no_handles.ensures.ends
    c.calls_are_known.ensures c.ends_are_known.ensures c.copies_are_known.ensures
