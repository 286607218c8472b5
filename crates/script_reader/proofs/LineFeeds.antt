-- The lines of a text are what its line feeds part.
use Rattle.std.proofs.Common.{◌≡◌, ℕ, List}
use Rattle.script_reader.specs.Script.{lines}
use Rattle.script_reader.specs.Syntax.{AreLinesOf}
use Rattle.script_reader.proofs.Parted.{parts_told, parts_tell}

pub lines_told : (bytes : List ℕ) → AreLinesOf bytes (lines bytes)
lines_told bytes = parts_told 10 bytes

pub lines_tell : (bytes : List ℕ) (ls : List (List ℕ)) → AreLinesOf bytes ls → lines bytes ≡ ls
lines_tell bytes ls i = parts_tell 10 bytes ls i
