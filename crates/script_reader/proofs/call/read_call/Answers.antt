use Rattle.std.proofs.Common.{rules, sym, subst}
use Rattle.std.specs.Str.{IsUtf8}
use Rattle.script_reader.proofs.Pieces.{name_is_utf8}
use Rattle.script_reader.proofs.call.read_call.Goals as goal

pub export_named-requires : goal.export_named-requires
export_named-requires c = subst IsUtf8 (sym c.name_and_rest.ensures.name) (name_is_utf8 c.args.text.now c.in_ok-_opened._opened.now c.requires (search rules))
