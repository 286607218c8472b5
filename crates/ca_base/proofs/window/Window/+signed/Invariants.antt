-- Each byte leaves fewer that may follow.
use Rattle.ca_base.proofs.window.Window.+signed.Given as goal

abbrev pub decreases-signed : goal.decreases-signed
decreases-signed g l = l.more
