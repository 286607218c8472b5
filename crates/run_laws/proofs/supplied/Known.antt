-- What is known of each world that a run reaches.
use Rattle.std.proofs.Common.{List, [], ◌∷◌, sym, subst}
use Rattle.syntax_trees.specs.declared.types.ValType.{ValType}
use Rattle.wasm_store.specs.Stack.{Stack}
use Rattle.comp_graph.specs.Graph.{Graph}
use Rattle.script_reader.specs.Script.{Script}
use Rattle.trace_labels.specs.declared.label.Label.{Label}
use Rattle.world_parts.specs.Held.{Held}
use Rattle.abi_machine.specs.World.{World, first_world}
use Rattle.abi_machine.specs.Run.{Reaches}
use Rattle.abi_machine.specs.sound.CopyWaits.{AwaitCopies}
use Rattle.abi_machine.specs.sound.GoingOn.{IsStanding}
use Rattle.abi_machine.specs.sound.Holders.{HaveOneHolder}
use Rattle.abi_machine.specs.sound.LoansReached.{HoldsLent}
use Rattle.abi_machine.specs.sound.Owners.{IsApart}
use Rattle.abi_machine.proofs.sound.Held.{first_has_one_holder, one_holder_stays}
use Rattle.abi_machine.proofs.sound.CopiesReached.{reached_await}
use Rattle.abi_machine.proofs.sound.LoansReached.{reached_hold_loans}
use Rattle.abi_machine.proofs.sound.Reached.{first_stands, standing_stays, reached_stand}
use Rattle.run_laws.specs.Reached.{StandsReached}

pub record Known (g : Graph) (s : Script) (w : World) : Type 0 where
  pub standing : IsStanding g s w
  pub lent : HoldsLent g w
  pub holder : HaveOneHolder w.tasks
  pub awaited : AwaitCopies g w

holder_from : (g : Graph) (s : Script) (steps : List (List Label)) (w v : World) → IsApart g → IsStanding g s w → HaveOneHolder w.tasks → Reaches g s w steps v → HaveOneHolder v.tasks
holder_from g s [] w v apart h one r = subst (λ (x : World). HaveOneHolder x.tasks) (sym r) one
holder_from g s (labels ∷ steps) w v apart h one r =
    holder_from g s steps r.0 v apart (standing_stays g s w r.0 labels apart h r.1) (one_holder_stays g s w r.0 labels h.alone one r.1) r.2

pub known : (g : Graph) (values : List ValType) (s : Script) (h : Held) (stacks : List (List Stack)) (w : World) → StandsReached g values s h stacks w → Known g s w
known g values s h stacks w r = record {
  standing = reached_stand g s r.steps w r.apart r.reached;
  lent = reached_hold_loans g s r.steps w r.apart r.no_borrow r.reached;
  holder = holder_from g s r.steps (first_world g) w r.apart (first_stands g s r.apart) (first_has_one_holder g) r.reached;
  awaited = (reached_await g s r.steps w r.apart r.no_end r.reached).0;
}
