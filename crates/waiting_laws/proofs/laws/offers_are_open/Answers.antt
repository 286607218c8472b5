use Rattle.waiting_laws.proofs.Offers.{first_has_open_offers, offers_stay_open, reached_offers_are_open}
use Rattle.waiting_laws.proofs.laws.offers_are_open.Goals as goal

pub returns : goal.returns
returns c = record { first = first_has_open_offers; stays = offers_stay_open; reached = reached_offers_are_open }
