-- What leads on behind lines, and behind something that is lifted.
use Rattle.std.proofs.Common.{◌≡◌, ◌-◌, ℕ, List, [], ◌++◌, length, refl, sym, ap, ◌∙◌, subst, append_assoc, append-nil, Some, Ok}
use Rattle.std.specs.List.{slice_get}
use Rattle.wasm_store.specs.Stack.{Stack}
use Rattle.syntax_trees.specs.declared.types.ValType.{ValType}
use Rattle.comp_graph.specs.Graph.{Graph}
use Rattle.script_reader.specs.Script.{Script}
use Rattle.trace_labels.specs.declared.label.Label.{Label}
use Rattle.trace_labels.specs.declared.trap.TrapName.{TrapName}
use Rattle.world_parts.specs.declared.parts.Flow.{Flow}
use Rattle.world_parts.specs.Held as kept
use Rattle.world_parts.specs.Held.{Held, Done, Gives, Traps, Spent}
use Rattle.value_parts.specs.Coming.{Behind}
use Rattle.abi_machine.specs.declared.run_end.RunEnd.TheVariants.{Fuel}
use Rattle.abi_machine.specs.Control.{Doomed}
use Rattle.abi_machine.specs.World.{World}
use Rattle.abi_machine.specs.Edits.{with_control}
use Rattle.abi_machine.specs.Lifting as lifting
use Rattle.abi_machine.specs.Lifting.{Came, once_lifted}
use Rattle.abi_machine.specs.Turn.{Turn, behind}
use Rattle.standing.specs.Leading.{ComesBy, EndsBy, IsDoomed}
use Rattle.standing.specs.Stands.{Stands}
use Rattle.standing.proofs.Changes.{acting_is_alike}
use Rattle.standing.proofs.Reaching.{goes_same}
use Rattle.run_laws.specs.Lifted.{Leaves, LiftAgrees}
use Rattle.run_laws.specs.Copied.{FlowFollows, TurnLeads}

-- Lines in front.
pub behind_leads : (g : Graph) (values : List ValType) (s : Script) (t : ℕ) (before lines : List Label) (stacks : List (List Stack)) (d : Done Flow) (turn : Turn)
    → TurnLeads g values s t (before ++ lines) stacks d turn → TurnLeads g values s t before stacks d (behind lines turn)
behind_leads g values s t before lines stacks (Gives flow k) turn l = record {
  lines = lines ++ l.lines;
  world = l.world;
  is = ap (λ (u : Turn). behind lines u) l.is;
  leads = subst (λ (ls : List Label). FlowFollows g values s t ls stacks (Gives flow k) l.world) (append_assoc before lines l.lines) l.leads;
}
behind_leads g values s t before lines stacks (Traps why k) turn l = record {
  lines = lines ++ l.lines;
  world = l.world;
  is = ap (λ (u : Turn). behind lines u) l.is;
  leads = subst (λ (ls : List Label). ComesBy g values s l.world ls k stacks (IsDoomed t why)) (append_assoc before lines l.lines) l.leads;
}
behind_leads g values s t before lines stacks (Spent k) turn l = record {
  lines = lines ++ l.lines;
  world = l.world;
  is = ap (λ (u : Turn). behind lines u) l.is;
  leads = subst (λ (ls : List Label). EndsBy g values s l.world ls k stacks Fuel) (append_assoc before lines l.lines) l.leads;
}
behind_leads g values s t before lines stacks kept.Stuck turn l = tt

-- The acting task is the same where the chain is.
pub acts_still : (g : Graph) (values : List ValType) (s : Script) (t : ℕ) (h k : Held) (stacks : List (List Stack)) (w v : World) → Stands g values s h stacks w → Stands g values s k stacks v
    → k.chain ≡ h.chain → slice_get w.chain 0 ≡ Some t → slice_get v.chain 0 ≡ Some t
acts_still g values s t h k stacks w v st now same first =
    sym (acting_is_alike g values s k stacks v now) ∙ ap (λ (chain : List ℕ). slice_get chain (length chain - 1)) same ∙ acting_is_alike g values s h stacks w st ∙ first

-- A trap of the acting task.
pub doomed_still : (g : Graph) (values : List ValType) (s : Script) (t : ℕ) (h k : Held) (stacks : List (List Stack)) (w u : World) (before now : List Label) (why : TrapName)
    → Stands g values s h stacks w → k.chain ≡ h.chain → slice_get w.chain 0 ≡ Some t → before ≡ now → ComesBy g values s u before k stacks (λ v. v.control ≡ Doomed t why)
    → ComesBy g values s u now k stacks (IsDoomed t why)
doomed_still g values s t h k stacks w u before now why st same first lines c = record {
  lines = c.lines;
  world = c.world;
  goes = c.goes;
  stands = c.stands;
  told = c.told ∙ ap (λ (ls : List Label). ls ++ c.lines) lines;
  ends = (c.ends, acts_still g values s t h k stacks w c.world st c.stands same first);
}

-- Something is lifted, and what follows leads on.
module _ (g : Graph) (values : List ValType) (s : Script) (t : ℕ) (h : Held) (stacks : List (List Stack)) (w : World) (first : slice_get w.chain 0 ≡ Some t) where
  abbrev Leads : Done Flow → Turn → Type 0
  Leads d turn = TurnLeads g values s t h.labels stacks d turn

  pub lifted_leads : {A : Type 0} (e : Done A) (came : Came A) (more : A → World → Turn) (F : A → Held → Done Flow → Type 0) (d : Done Flow) → LiftAgrees (Leaves g values s h stacks w) e came
      → ((x : A) (k : Held) (now : lifting.Kept) → came ≡ Ok (x, now) → Leaves g values s h stacks w k now.lines now.world → F x k d → Leads d (behind now.lines (more x now.world)))
      → Behind e F d → Leads d (once_lifted t came more)
  lifted_leads {A} (Gives x k) came more F d agrees goes follows =
      subst (λ (c : Came A). Leads d (once_lifted t c more)) (sym agrees.is) (goes x k agrees.now agrees.is agrees.leaves follows)
  lifted_leads {A} (Traps why k) came more F d agrees goes follows =
      let lines : List Label = agrees.stop.lines ++ [] in
      let last : World = with_control (Doomed t agrees.stop.why) agrees.stop.world in
      subst (λ (f : Done Flow). Leads f (once_lifted t came more)) (sym follows)
      (record {
        lines = lines;
        world = last;
        is = ap (λ (c : Came A). once_lifted t c more) agrees.is;
        leads = record {
          lines = [];
          world = last;
          goes = goes_same g s last last refl;
          stands = agrees.leaves.stands.stands;
          told = agrees.leaves.told ∙ ap (λ (ls : List Label). h.labels ++ ls) (sym (append-nil agrees.stop.lines)) ∙ sym (append-nil (h.labels ++ lines));
          ends = (ap (λ (y : TrapName). Doomed t y) agrees.same_why, ap (λ (z : World). slice_get z.chain 0) agrees.leaves.world_rest ∙ first);
        };
      })
  lifted_leads (Spent k) came more F d agrees goes follows = absurd agrees
  lifted_leads kept.Stuck came more F d agrees goes follows = subst (λ (f : Done Flow). Leads f (once_lifted t came more)) (sym follows) tt
