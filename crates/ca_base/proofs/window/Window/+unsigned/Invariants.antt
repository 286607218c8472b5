-- Each byte leaves fewer that may follow.
use Rattle.ca_base.proofs.window.Window.+unsigned.Given as goal

abbrev pub decreases-unsigned : goal.decreases-unsigned
decreases-unsigned g l = l.more
