use Rattle.lowering_laws.proofs.Standing.{stores_leave_others, lists_leave_others, placed_leave_others, words_leave_others}
use Rattle.lowering_laws.proofs.laws.other_bytes_stay.Goals as goal

pub returns : goal.returns
returns c = record { stores = stores_leave_others; lists = lists_leave_others; placed = placed_leave_others; words = words_leave_others }
