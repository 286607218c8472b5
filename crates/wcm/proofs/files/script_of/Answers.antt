use Rattle.std.proofs.Common.{◌≡◌, Err}
use Rattle.ca_io.specs.declared.reading.FileError.TheVariants.{Limit}
use Rattle.wcm.proofs.Reading.{long_script}
use Rattle.wcm.proofs.files.script_of.Goals as goal

pub returns-in-Err-Limit-clause-file : goal.returns-in-Err-Limit-clause-file
returns-in-Err-Limit-clause-file g c =
    let is : c.read_all.result ≡ Err Limit = cc in
    long_script c.read_all.result Limit (g.F.Files.held c.args.files.now) c.args.name.now c.args.exports.now is c.read_all.ensures.limit
