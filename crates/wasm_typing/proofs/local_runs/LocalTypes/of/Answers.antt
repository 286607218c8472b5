use Rattle.std.proofs.Common.{◌<◌, ◌≤◌, ◌++◌, ◌∙◌, List, length, refl, subst, sym, ap, arith}
use Rattle.syntax_trees.specs.declared.module_types.ValType.{ValType}
use Rattle.wasm_typing.specs.Runs.{run_types, Rising}
use Rattle.wasm_typing.proofs.Running.{runs_types, runs_rise, runs_whole, next_run, next_count}
use Rattle.wasm_typing.proofs.local_runs.LocalTypes.of.Goals as goal

pub loop-group-preserved : goal.loop-group-preserved
loop-group-preserved c =
    let within : c.loop-group.group-index < length c.args.groups.now = omega arith in
    record {
      whole = rw c.in_ok-push.ensures.items (next_run _ _ _ _ _ _ _ refl within c.loop-group.invariant.whole);
      count = next_count _ _ _ _ _ _ refl within c.loop-group.invariant.count;
    }

pub invariant_of-result : goal.invariant_of-result
invariant_of-result c =
    let past : length c.args.groups.now ≤ c.loop-group.group-index = omega arith in
    subst (Rising 0) (sym (runs_whole _ _ _ _ c.loop-group.invariant.whole past)) (runs_rise 0 c.args.groups.now)

pub returns : goal.returns
returns c =
    let past : length c.args.groups.now ≤ c.loop-group.group-index = omega arith in
    ap (λ (ts : List ValType). c.args.params.now ++ ts)
    (ap (run_types 0) (runs_whole _ _ _ _ c.loop-group.invariant.whole past) ∙ runs_types 0 c.args.groups.now)
