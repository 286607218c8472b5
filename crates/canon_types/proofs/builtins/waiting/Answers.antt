use Rattle.canon_types.proofs.builtins.waiting.Goals as goal

pub returns-clause-built : goal.returns-clause-built
returns-clause-built c = λ values. record { typed = c.wait_type.ensures; passes = tt }
