-- What a program that fits has of types (Component Model, CanonicalABI.md, "Canonical Definitions").
use Rattle.programs.specs.declared.program.Program.{Program}
use Rattle.run_laws.specs.Answering.{HasTypes}
use Rattle.run_laws.specs.Carried.{IsFit}

pub types_fit : (p : Program) (fit : IsFit p) → HasTypes p.graph.now p.types.now fit.made.funcs p.ends.now
types_fit p fit = record { distinct = fit.made.distinct; canons = fit.made.ends }
