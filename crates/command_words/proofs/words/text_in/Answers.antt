use Rattle.std.proofs.Common.{rules}
use Rattle.command_words.proofs.Entries.{text_of}
use Rattle.command_words.proofs.words.text_in.Goals as goal

pub returns : goal.returns
returns c = rw c.unwrap_or.ensures (text_of _ _ c.args.matches.now c.args.id.now (search rules) c.get_str.ensures)
