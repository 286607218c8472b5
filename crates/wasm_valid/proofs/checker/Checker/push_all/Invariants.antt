-- So many are on top.
use Rattle.std.proofs.Common.{◌≡◌, ◌++◌, take}
use Rattle.wasm_typing.specs.Typing.{operands_of}
use Rattle.wasm_typing.specs.Checking.{known}
use Rattle.wasm_valid.specs.State.{with_top}
use Rattle.wasm_valid.proofs.checker.Checker.push_all.Given as goal

abbrev pub invariant-loop-val_type : goal.invariant-loop-val_type
invariant-loop-val_type l =
    l.self ≡ with_top (known (operands_of (take l.val_type-index l.types) ++ l.initial.self.0.known.types) l.initial.self.0.known.any) l.initial.self
