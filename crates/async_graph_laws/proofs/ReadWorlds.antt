-- The graph and the script of what is read have what the laws of reached worlds ask of them.
use Rattle.reach_laws.specs.KnownCalls.{ReachedCallsAreKnown}
use Rattle.reach_laws.specs.KnownEnds.{ReachedEndsAreKnown}
use Rattle.reach_laws.specs.KnownCopies.{ReachedCopiesAreKnown}
use Rattle.reach_laws.specs.ReadScripts.{ReadScriptsPassNoEnd}
use Rattle.async_graph_laws.specs.Laws.{LinkedDefinitionsAreApart}
use Rattle.async_graph_laws.specs.ReadWorlds.{ReadWorldsAreKnown}

pub read_worlds_are_known : LinkedDefinitionsAreApart → ReadScriptsPassNoEnd → ReachedCallsAreKnown → ReachedEndsAreKnown → ReachedCopiesAreKnown → ReadWorldsAreKnown
read_worlds_are_known apart none calls ends copies file text g s steps w read reached =
    let kept = apart read.component g read.linked in
    let no_end = none g.exports text s read.script in
    record { calls = calls g s steps w kept reached; ends = ends g s steps w kept no_end reached; copies = copies g s steps w kept no_end reached }
