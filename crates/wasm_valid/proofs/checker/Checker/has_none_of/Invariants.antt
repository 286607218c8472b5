-- One of all labels is not there where one of those that are left is not.
use Rattle.std.proofs.Common.{◌≡◌, drop}
use Rattle.std.specs.List.{list_any}
use Rattle.wasm_typing.specs.Checking.{labels_in}
use Rattle.wasm_typing.specs.Faults.{no_label}
use Rattle.wasm_valid.specs.State.{all_of}
use Rattle.wasm_valid.proofs.checker.Checker.has_none_of.Given as goal

abbrev pub invariant-loop-label : goal.invariant-loop-label
invariant-loop-label l =
    list_any (no_label (labels_in l.context (all_of l.self))) l.labels ≡ list_any (no_label (labels_in l.context (all_of l.self))) (drop l.label-index l.labels)
