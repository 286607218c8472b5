-- The functions so far stand behind those that stood there.
use Rattle.std.proofs.Common.{◌≡◌, ◌++◌, take}
use Rattle.std.specs.List.{flat_map}
use Rattle.link_spec.specs.Definitions.{Exports}
use Rattle.link_instances.specs.Called.{AreFuncs, funcs_of, named_behind}
use Rattle.link_instances.specs.Typed.{AreTyped}
use Rattle.link_instances.proofs.called.push_funcs.Given as goal

abbrev pub invariant-loop-entry : goal.invariant-loop-entry
invariant-loop-entry l = record {
  funcs : (given : Exports) → AreFuncs l.types l.entries given → l.funcs.funcs.items ≡ l.fn.funcs.funcs.items ++ flat_map (named_behind l.front) (take l.entry-index (funcs_of given));
  typed : AreTyped l.types.funcs l.fn.funcs → AreTyped l.types.funcs l.funcs;
}
