-- None so far has news.
use Rattle.std.proofs.Common.{◌≡◌, take, false}
use Rattle.std.specs.List.{list_any}
use Rattle.world_parts.specs.Held.{held}
use Rattle.world_parts.specs.News.{news_at}
use Rattle.event_replies.specs.Seen.{seen}
use Rattle.event_replies.proofs.news.any_ready.Given as goal

abbrev pub invariant-loop-index : goal.invariant-loop-index
invariant-loop-index l = list_any (news_at (seen l.graph) (held l.parts) l.at) (take l.index-index l.members) ≡ false
