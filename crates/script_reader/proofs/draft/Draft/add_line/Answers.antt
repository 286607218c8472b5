use Rattle.std.proofs.Common.{rules}
use Rattle.script_reader.proofs.Pieces.{call_is_utf8}
use Rattle.script_reader.proofs.draft.Draft.add_line.Goals as goal

pub add_call-requires : goal.add_call-requires
add_call-requires c = call_is_utf8 c.args.text.now c.in-Some-after.call.now c.requires (search rules)
