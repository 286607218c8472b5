use Rattle.wcm.proofs.Caused.{statuses_have_causes, causes_have_answers, refused_files_tell_all}
use Rattle.wcm.proofs.laws.statuses_have_causes.Goals as goal

pub returns : goal.returns
returns c = record { causes = statuses_have_causes; answers = causes_have_answers; told = refused_files_tell_all }
