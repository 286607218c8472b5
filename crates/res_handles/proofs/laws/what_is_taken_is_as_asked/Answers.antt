use Rattle.res_handles.proofs.Staying.{lifted_own, lifted_borrow, dropped}
use Rattle.res_handles.proofs.laws.what_is_taken_is_as_asked.Goals as goal

pub returns : goal.returns
returns c = λ run index resource. (lifted_own run index resource, lifted_borrow run index resource, dropped run index resource)
