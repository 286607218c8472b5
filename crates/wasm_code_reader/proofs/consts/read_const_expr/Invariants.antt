-- The instructions so far and what is left to read are the whole reading.
use Rattle.std.proofs.Common.{◌≡◌, ◌-◌}
use Rattle.ca_base.specs.Grammar.{read}
use Rattle.wasm_code_reader.specs.Consts.{consts}
use Rattle.wasm_code_reader.proofs.ConstExprs.{preceded}
use Rattle.wasm_code_reader.proofs.consts.read_const_expr.Given as goal

abbrev pub invariant-loop-index : goal.invariant-loop-index
invariant-loop-index l =
    read (consts l.count) l.initial.window ≡ preceded l.instrs l.places (read (consts (l.count - l._index)) l.window)
