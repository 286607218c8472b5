use Rattle.std.proofs.Common.{refl, inl, inr, arith, rules}
use Rattle.std.proofs.lemmas.Grind.{common_steps}
use Rattle.ca_io.proofs.mem_files.MemFilesFiles.read.Goals as goal
use Rattle.ca_io.proofs.mem_files.MemFilesFiles.read.Goals.{in_default-via-in-Some+else-not-contains, in_default-via-in_default}

pub returns-in_default-clause-fails : goal.returns-in_default-clause-fails
returns-in_default-clause-fails c = (
  λ failed. elim c.in_default.branch [ in_default-via-in-Some+else-not-contains w ↦ inl (grind (arith, common_steps)) | in_default-via-in_default w ↦ inr (search rules) ],
  λ why. refl,
)
