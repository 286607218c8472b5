-- What is read fits, by each of its parts.
use Rattle.reach_laws.specs.ReadScripts.{ReadScriptsPassNoEnd}
use Rattle.async_graph_laws.specs.Laws.{LinkedGraphsPassNoBorrow}
use Rattle.async_graph_laws.specs.Plans.{LinkedInstancesBegin, LinkedMakesFollow}
use Rattle.async_graph_laws.specs.ReadRuns.{ReadRunsAreRunnable}
use Rattle.async_graph_laws.specs.ReadFits.{ReadRunsFit}

pub read_runs_fit : ReadRunsAreRunnable → LinkedInstancesBegin → LinkedMakesFollow → LinkedGraphsPassNoBorrow → ReadScriptsPassNoEnd → ReadRunsFit
read_runs_fit runnable begin follow no_borrow no_end file text g s read = record {
  runs = runnable file text g s read;
  begin = begin read.component g read.linked;
  follow = follow read.component g read.linked;
  no_borrow = no_borrow read.component g read.linked;
  no_end = no_end g.exports text s read.script;
}
