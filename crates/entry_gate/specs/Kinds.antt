-- Which tasks need exclusive entry to their instance (Component Model, CanonicalABI.md, "Task State": `needs_exclusive`).
use Rattle.std.specs.Prelude.{Bool, true, false}
use Rattle.entry_gate.specs.declared.kind.Kind.{Kind}
use Rattle.entry_gate.specs.declared.kind.Kind.TheVariants.{Sync, Callback, Stackful}

-- a task of this kind needs exclusive entry
abbrev pub needs_entry : Kind → Bool
needs_entry Sync = true
needs_entry Callback = true
needs_entry Stackful = false
