-- What a script for a graph passes is typed where it is in range.
use Rattle.std.proofs.Common.{◌≡◌, ◌∙◌, ◌+◌, ℕ, zero, suc, List, [], ◌∷◌, refl, sym, subst, Some}
use Rattle.std.specs.List.{slice_get}
use Rattle.comp_graph.specs.Graph.{Graph, Lifted}
use Rattle.script_reader.specs.declared.script.Item.{Item}
use Rattle.script_reader.specs.declared.script.Item.TheVariants as item
use Rattle.script_reader.specs.Script.{AreOfTypes}
use Rattle.abi_machine.specs.sound.Scripts.{AreItemsFor}
use Rattle.abi_machine.specs.sound.TypedSteps.{PassesFit}
use Rattle.abi_machine.specs.sound.TypedWorlds.{types_of}
use Rattle.abi_machine.proofs.sound.Found.{some_same}
use Rattle.abi_machine.proofs.sound.planned.Given.{script_values_are_typed}
use Rattle.reach_laws.specs.Runnable.{PassesInRange, ScriptsPassTyped}

none_there : {A : Type 0} (n : ℕ) (x : A) (P : Type 0) → slice_get [] n ≡ Some x → P
none_there zero x P e = cc
none_there (suc n) x P e = cc

items_typed : (g : Graph) (calls : ℕ) (items : List Item) → AreItemsFor g calls items → ((n : ℕ) (i : Item) → slice_get items n ≡ Some i → PassesInRange i) → (n : ℕ) (i : Item) → slice_get items n ≡ Some i → PassesFit g i
items_typed g calls [] h range n i e = none_there n i (PassesFit g i) e
items_typed g calls (item.Call call ∷ items) h range zero i e =
    subst (PassesFit g) (some_same e) (λ f named.
    script_values_are_typed (types_of f) call.values (subst (λ (x : Lifted). AreOfTypes (types_of x) call.values) (some_same (sym h.0.named ∙ named)) h.0.values) (range 0 (item.Call call) refl))
items_typed g calls (item.Call call ∷ items) h range (suc n) i e = items_typed g (calls + 1) items h.1 (λ m j k. range (suc m) j k) n i e
items_typed g calls (item.Cancel call ∷ items) h range zero i e = subst (PassesFit g) (some_same e) tt
items_typed g calls (item.Cancel call ∷ items) h range (suc n) i e = items_typed g calls items h.2 (λ m j k. range (suc m) j k) n i e

pub scripts_pass_typed : ScriptsPassTyped
scripts_pass_typed g s fits range = items_typed g 0 s.items fits range
