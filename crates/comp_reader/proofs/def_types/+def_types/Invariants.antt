-- Each instance type leaves fewer that may be opened; its declarations, each of them, a type and an instance type hold one another
-- in this order. The declarations so far and what is left to read are the whole reading.
use Rattle.std.proofs.Common.{◌≡◌, ◌-◌, ◌+◌, ◌*◌}
use Rattle.ca_base.specs.Grammar.{read, times}
use Rattle.ca_base.proofs.Times.{preceded}
use Rattle.comp_reader.specs.Binary.{instance_decl, def_type}
use Rattle.comp_reader.proofs.def_types.+def_types.Given as goal

abbrev pub decreases-read_decl : goal.decreases-read_decl
decreases-read_decl l = 5 * l.more + 3

abbrev pub decreases-read_declarations : goal.decreases-read_declarations
decreases-read_declarations l = 5 * l.more + 5

abbrev pub decreases-read_decls : goal.decreases-read_decls
decreases-read_decls l = 5 * l.more + 4

abbrev pub decreases-read_def_type : goal.decreases-read_def_type
decreases-read_def_type l = 5 * l.more + 2

abbrev pub decreases-read_instance_type : goal.decreases-read_instance_type
decreases-read_instance_type l = 5 * l.allowed + 1

abbrev pub invariant-read_decls-loop-index : goal.invariant-read_decls-loop-index
invariant-read_decls-loop-index l =
    read (times l.count (instance_decl (def_type l.more))) l.initial.window ≡ preceded l.decls (read (times (l.count - l._index) (instance_decl (def_type l.more))) l.window)
