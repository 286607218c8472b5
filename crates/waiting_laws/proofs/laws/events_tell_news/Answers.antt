use Rattle.waiting_laws.proofs.Events.{events_tell_news, no_event_comes_behind}
use Rattle.waiting_laws.proofs.laws.events_tell_news.Goals as goal

pub returns : goal.returns
returns c = record { news = events_tell_news; none = no_event_comes_behind }
