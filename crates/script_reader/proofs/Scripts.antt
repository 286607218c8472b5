-- The script of a text that is UTF-8 and not too long.
use Rattle.std.proofs.Common.{◌≡◌, ◌≤◌, ℕ, List, length, Ok, Err, refl}
use Rattle.std.proofs.lemmas.Bool.{le-ltb, eq-eqb}
use Rattle.std.proofs.lemmas.Str.{utf8_valid_len-IsUtf8}
use Rattle.std.specs.Str.{IsUtf8}
use Rattle.syntax_trees.specs.declared.exports.Export.{Export}
use Rattle.script_reader.specs.declared.fault.ScriptFault.{ScriptFault}
use Rattle.script_reader.specs.Script.{Draft, size_limit, lines, add_lines, empty_draft, script_of, script_or, script}

of_lines : (exports : List Export) (bytes : List ℕ) → length bytes ≤ size_limit → IsUtf8 bytes → script exports bytes ≡ script_or (add_lines exports empty_draft 1 (lines bytes))
of_lines exports bytes short whole = rw (le-ltb size_limit (length bytes) short) (rw (eq-eqb _ _ (utf8_valid_len-IsUtf8 bytes whole)) refl)

pub is_script : (exports : List Export) (bytes : List ℕ) (s : Draft) → length bytes ≤ size_limit → IsUtf8 bytes → add_lines exports empty_draft 1 (lines bytes) ≡ Ok s → script exports bytes ≡ Ok (script_of s)
is_script exports bytes s short whole said = rw (of_lines exports bytes short whole) (rw said refl)

pub is_refused : (exports : List Export) (bytes : List ℕ) (fault : ScriptFault) → length bytes ≤ size_limit → IsUtf8 bytes → add_lines exports empty_draft 1 (lines bytes) ≡ Err fault → script exports bytes ≡ Err fault
is_refused exports bytes fault short whole said = rw (of_lines exports bytes short whole) (rw said refl)
