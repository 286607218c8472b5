use Rattle.link_instances.proofs.Calling.{lists_grow, listed_there}
use Rattle.link_instances.proofs.func_lists.FuncLists.list.Goals as goal

pub returns-clause-lists : goal.returns-clause-lists
returns-clause-lists c =
    lists_grow c.args.types.now c.args.instances.now c.args.self.now (record { lists = c.insert.new.self }) c.args.instance c.in_ok-funcs.funcs c.requires c.in_ok-insert.ensures.updates c.in_ok-funcs.ensures

pub returns-clause-there : goal.returns-clause-there
returns-clause-there c = listed_there c.args.self.now (record { lists = c.insert.new.self }) c.args.instance c.in_ok-funcs.funcs c.in_ok-insert.ensures.updates
