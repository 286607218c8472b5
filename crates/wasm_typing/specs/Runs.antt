-- Runs of locals of one type, each told by its end, and the types of all.
use Rattle.std.specs.Prelude.{◌≤◌, ◌-◌, ℕ, List, [], ◌∷◌, ◌++◌, replicate}
use Rattle.syntax_trees.specs.declared.module_types.ValType.{ValType}
use Rattle.wasm_typing.specs.declared.local_runs.Run.{Run}

-- the types of runs that begin behind so many locals
abbrev pub run_types : ℕ → List Run → List ValType
run_types start [] = []
run_types start (run ∷ runs) = replicate (run.end - start) run.val_type ++ run_types run.end runs

-- Each run ends where the one before it ended, or behind that.
abbrev pub Rising : ℕ → List Run → Type 0
Rising start [] = Unit {0}
Rising start (run ∷ runs) = (start ≤ run.end) × Rising run.end runs
