-- The functions that a script can call: each was lifted by the component instance that made what it lifts.
use Rattle.std.proofs.Common.{◌≡◌, ℕ, List, refl, subst, Option, Some, None}
use Rattle.std.specs.List.{slice_get}
use Rattle.syntax_trees.specs.Names.{first_named}
use Rattle.syntax_trees.specs.declared.exports.Export.{Export}
use Rattle.wasm_store.proofs.Lists.{all_at}
use Rattle.comp_graph.specs.declared.graph.Lift.{Lift}
use Rattle.comp_graph.specs.Graph.{Graph, Lifted, func_at, func_named, lifted_as, names}
use Rattle.abi_machine.specs.sound.Owners.{IsLiftApart, IsApart, IsLiftedApart}
use Rattle.abi_machine.proofs.sound.own.Lists.{then_some}

pub named_apart : (g : Graph) (name : List ℕ) (f : Lifted) → IsApart g → func_named g name ≡ Some f → IsLiftedApart g (Some f)
named_apart g name f a e =
    let n = then_some (func_at g) (first_named name (names g.exports)) f e in
    by n.0 (slice_get g.exports n.0) (slice_get g.lifts n.0) refl n.2
  where
    by : (n : ℕ) (e : Option Export) (l : Option Lift) → slice_get g.lifts n ≡ l → lifted_as e l ≡ Some f → IsLiftedApart g (Some f)
    by n None None b h = cc
    by n None (Some l) b h = cc
    by n (Some e) None b h = cc
    by n (Some e) (Some l) b h =
        let k : Lifted = record { instance = l.instance; core = l.core; options = l.options; func_type = e.func_type } in
        subst (IsLiftedApart g) h (let own : IsLiftedApart g (Some k) = all_at (IsLiftApart g) g.lifts n l a.lifts b in own)
