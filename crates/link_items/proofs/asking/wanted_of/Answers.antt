use Rattle.link_items.proofs.asking.wanted_of.Goals as goal

pub returns-in-Resource : goal.returns-in-Resource
returns-in-Resource c = λ t w closed d zips h. rw c.in-Resource.is (c.resource_wanted.ensures t w d h)

pub returns-in-Func : goal.returns-in-Func
returns-in-Func c = λ t w closed d zips h. rw c.in-Func.is (rw c.in-Func.is at (c.wanted.ensures t closed zips))

pub returns-in-TypeEq : goal.returns-in-TypeEq
returns-in-TypeEq c = λ t w closed d zips h. rw c.in-TypeEq.is (rw c.in-TypeEq.is at (c.wanted-in-TypeEq.ensures t closed zips))

pub returns-in-Instance : goal.returns-in-Instance
returns-in-Instance c = λ t w closed d zips h. rw c.in-Instance.is (rw c.in-Instance.is at (c.wanted-in-Instance.ensures t closed zips))
