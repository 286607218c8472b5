-- The groups so far and what is left to read are the whole reading, and there are not too many locals so far.
use Rattle.std.proofs.Common.{◌≡◌, ◌≤◌, ◌-◌}
use Rattle.ca_base.specs.Grammar.{read}
use Rattle.ca_base.proofs.Times.{preceded}
use Rattle.wasm_code_reader.specs.Bodies.{locals}
use Rattle.syntax_trees.specs.Locals.{local_count}
use Rattle.wasm_code_reader.proofs.bodies.read_locals.Given as goal

abbrev pub invariant-loop-index : goal.invariant-loop-index
invariant-loop-index l = record {
  limit : l.before ≤ 50000;
  counted : local_count l.read ≡ l.before;
  same : read (locals l.groups 0) l.initial.window ≡ preceded l.read (read (locals (l.groups - l._index) l.before) l.window);
}
