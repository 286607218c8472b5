-- All imports are what was found and what is left of them.
use Rattle.std.proofs.Common.{◌≡◌, ◌++◌, drop, map}
use Rattle.std.specs.Option.{option_map}
use Rattle.wasm_store.specs.Views.{address_of}
use Rattle.world_stacks.specs.Addresses.{externals}
use Rattle.world_stacks.proofs.externals.externals_of.Given as goal

abbrev pub invariant-loop-import : goal.invariant-loop-import
invariant-loop-import l =
    externals l.store l.imports ≡ option_map (λ more. map address_of l.found ++ more) (externals l.store (drop l.import-index l.imports))
