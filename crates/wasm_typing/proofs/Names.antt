-- The exports' names, of which a set tells whether they stood before.
use Rattle.std.proofs.Common.{◌≡◌, ℕ, ◌+◌, ◌<◌, List, [], length, map, take, drop, get_or, Option, Err, Bor, refl, ap, ◌∙◌, arith, length-take-le}
use Rattle.std.specs.Option.{option_or}
use Rattle.std.specs.BTreeSet.{BTreeSet}
use Rattle.faults.specs.Faults.{first_in, MayFind}
use Rattle.faults.specs.declared.memory.MemoryOr.{MemoryOr}
use Rattle.faults.specs.declared.memory.MemoryOr.TheVariants as or
use Rattle.syntax_trees.specs.Names.{has, is_among}
use Rattle.syntax_trees.proofs.Seen.{take_one, drop_one}
use Rattle.syntax_trees.specs.declared.module.Export.{Export}
use Rattle.syntax_trees.specs.declared.module.ModuleTree.{ModuleTree}
use Rattle.wasm_typing.specs.declared.spot.Spot.TheVariants as spot
use Rattle.wasm_typing.specs.declared.fault.Fault.{Fault}
use Rattle.wasm_typing.specs.Items.{at_spot, export_why, export_fault}

abbrev name_of : Export → List ℕ
name_of export = export.name

-- the fault of an export, by what the set tells
abbrev told_by : ModuleTree → ℕ → BTreeSet (Bor (List ℕ)) → Export → Option Fault
told_by m number seen export = at_spot (spot.Export number) (export_why m (has seen export.name) export.desc)

-- the fault of the next export is the one that the set tells
next_fault : (m : ModuleTree) (exports : List Export) (number : ℕ) (export : Export) (seen : BTreeSet (Bor (List ℕ))) → first_in (export_fault m) [] exports ≡ first_in (export_fault m) (take number exports) (drop number exports) → ((q : List ℕ) → has seen q ≡ is_among q (map name_of (take number exports))) → number < length exports → export ≡ get_or exports number export → first_in (export_fault m) [] exports ≡ option_or (told_by m number seen export) (first_in (export_fault m) (take (number + 1) exports) (drop (number + 1) exports))
next_fault m exports number export seen rest all within there =
    let long : length (take number exports) ≡ number = length-take-le number exports (omega arith) in
    rest
    ∙ ap (first_in (export_fault m) (take number exports)) (drop_one exports number export within there)
    ∙ rw (take_one exports number export within there, all export.name, long) refl

pub seen_wrong : (m : ModuleTree) (exports : List Export) (number : ℕ) (export : Export) (seen : BTreeSet (Bor (List ℕ))) (e : MemoryOr Fault) → first_in (export_fault m) [] exports ≡ first_in (export_fault m) (take number exports) (drop number exports) → ((q : List ℕ) → has seen q ≡ is_among q (map name_of (take number exports))) → number < length exports → export ≡ get_or exports number export → MayFind {X = Unit {0}} (told_by m number seen export) (Err e) → MayFind {X = Unit {0}} (first_in (export_fault m) [] exports) (Err e)
seen_wrong m exports number export seen or.Memory rest all within there wrong = tt
seen_wrong m exports number export seen (or.Fault fault) rest all within there wrong =
    next_fault m exports number export seen rest all within there ∙ rw wrong refl
