-- The declarations so far, over a table that has grown.
use Rattle.std.proofs.Common.{List, map, take}
use Rattle.std.specs.List.{AllZip}
use Rattle.link_spec.specs.Definitions.{Closure}
use Rattle.link_spec.specs.Spaces as spaces
use Rattle.link_spec.specs.Types.{nothing_declared, declared_by}
use Rattle.link_types.specs.Table.{Grows}
use Rattle.link_meanings.specs.Levels.{IsEnclosing}
use Rattle.link_instance_types.specs.Declaring.{IsDeclared, decl_makes}
use Rattle.link_instance_types.proofs.meanings.+meanings.Given as goal

abbrev pub invariant-instance_meaning-loop-decl : goal.invariant-instance_meaning-loop-decl
invariant-instance_meaning-loop-decl l =
    Grows l.fn.types l.types
    × ((closures : List Closure) (levels : List spaces.Level) → AllZip (IsEnclosing l.fn.types closures) l.around levels → IsDeclared l.types closures l.declared (declared_by levels nothing_declared (map decl_makes (take l.decl-index l.decls))))
