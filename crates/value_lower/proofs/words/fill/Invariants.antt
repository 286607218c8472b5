-- So many zeros stand behind the core values.
use Rattle.std.proofs.Common.{◌≡◌, ◌++◌, ◌-◌, ◌≤◌, max, replicate}
use Rattle.value_lower.proofs.words.fill.Given as goal

abbrev pub invariant-loop-index : goal.invariant-loop-index
invariant-loop-index l = record {
  same : l.words ≡ l.fn.words ++ replicate (l._index - l.there) 0;
  low : l.there ≤ l._index;
  high : l._index ≤ max l.there l.count;
}
