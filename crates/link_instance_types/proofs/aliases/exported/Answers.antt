use Rattle.link_instance_types.proofs.Declares.{export_there, export_missing}
use Rattle.link_instance_types.proofs.aliases.exported.Goals as goal

pub returns-in-Some : goal.returns-in-Some
returns-in-Some c = λ all i n.
    rw c.there.ensures (export_there c.args.types.now c.args.sort c.args.name.now all c.in-Some.item c.of_sort.result (c.in-Some.ensures all c.args.name.now i n) c.of_sort.ensures)

pub returns-in-None : goal.returns-in-None
returns-in-None c = λ all i n. export_missing c.args.types.now c.args.sort c.args.name all (c.in-None.ensures all c.args.name.now i n)
