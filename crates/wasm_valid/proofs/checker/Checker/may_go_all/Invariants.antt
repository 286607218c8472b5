-- They may go to all labels where they may go to those that are left.
use Rattle.std.proofs.Common.{◌≡◌, drop}
use Rattle.wasm_typing.specs.Checking.{labels_in, may_go_all}
use Rattle.wasm_valid.specs.State.{all_of}
use Rattle.wasm_valid.proofs.checker.Checker.may_go_all.Given as goal

abbrev pub invariant-loop-label : goal.invariant-loop-label
invariant-loop-label l =
    may_go_all (labels_in l.context (all_of l.self)) l.labels l.count l.self.0.known
    ≡ may_go_all (labels_in l.context (all_of l.self)) (drop l.label-index l.labels) l.count l.self.0.known
