-- Those so far that have news.
use Rattle.std.proofs.Common.{◌≡◌, take}
use Rattle.std.specs.List.{filter}
use Rattle.world_parts.specs.Held.{held}
use Rattle.world_parts.specs.News.{news_at}
use Rattle.event_replies.specs.Seen.{seen}
use Rattle.event_replies.proofs.news.ready_among.Given as goal

abbrev pub invariant-loop-index : goal.invariant-loop-index
invariant-loop-index l = l.ready ≡ filter (news_at (seen l.graph) (held l.parts) l.at) (take l.index-index l.members)
