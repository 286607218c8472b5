use Rattle.std.proofs.Common.{◌≡◌, ◌<◌, ◌+◌, ◌-◌, ◌/◌, length, arith}
use Rattle.wasm_typing.proofs.Running.{low_more, run_none, run_some}
use Rattle.wasm_typing.proofs.local_runs.run_at.Goals as goal

pub loop-low-preserved-then-runs-middle : goal.loop-low-preserved-then-runs-middle
loop-low-preserved-then-runs-middle c =
    let within : c.loop-low.low + (c.loop-low.high - c.loop-low.low) / 2 < length c.args.runs.now = omega (arith, c.loop-low.invariant.within) in
    record {
      ordered = omega (arith, c.loop-low.invariant.ordered);
      within = c.loop-low.invariant.within;
      low = low_more _ _ _ _ within c.if-runs-middle.true;
      high = c.loop-low.invariant.high;
    }

pub returns-then-low-runs : goal.returns-then-low-runs
returns-then-low-runs c = run_none c.args.index c.loop-low.low c.args.runs.now c.requires c.if-low-runs.true c.loop-low.invariant.low

pub returns : goal.returns
returns c =
    let same : c.loop-low.low ≡ c.loop-low.high = omega (arith, c.loop-low.invariant.ordered) in
    let within : c.loop-low.high < length c.args.runs.now = omega (arith, c.loop-low.invariant.within) in
    let low : c.loop-low.low < length c.args.runs.now = omega (arith, within) in
    run_some c.args.index c.loop-low.low c.args.runs.now _ c.requires low c.loop-low.invariant.low
    (rw same (c.loop-low.invariant.high _ within))
