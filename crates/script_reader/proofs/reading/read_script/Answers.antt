-- The items of what is read are those of a script.
use Rattle.std.proofs.Common.{rules}
use Rattle.script_reader.proofs.Called.{scripts_call_exports}
use Rattle.script_reader.proofs.Scripts.{is_script}
use Rattle.script_reader.proofs.reading.read_script.Goals as goal

pub returns-clause-items : goal.returns-clause-items
returns-clause-items c = (scripts_call_exports c.args.exports.now c.args.bytes.now c.into_script.result (search (rules, is_script))).0
