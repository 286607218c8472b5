-- Lines that were told before change nothing of what a part leads to, behind them.
use Rattle.std.proofs.Common.{◌≡◌, inl, ℕ, List, [], ◌++◌, sym, ap, ◌∙◌, subst, append_assoc}
use Rattle.wasm_store.specs.Stack.{Stack}
use Rattle.syntax_trees.specs.declared.types.ValType.{ValType}
use Rattle.comp_graph.specs.Graph.{Graph}
use Rattle.script_reader.specs.Script.{Script}
use Rattle.trace_labels.specs.declared.label.Label.{Label}
use Rattle.world_parts.specs.declared.parts.Flow.{Flow}
use Rattle.world_parts.specs.declared.parts.Flow.TheVariants as flow
use Rattle.world_parts.specs.Held as kept
use Rattle.world_parts.specs.Held.{Held, Done, Gives, Traps, Spent}
use Rattle.abi_machine.specs.declared.run_end.RunEnd.TheVariants.{Fuel}
use Rattle.abi_machine.specs.Turn.{Turn, behind}
use Rattle.abi_machine.specs.World.{World}
use Rattle.standing.specs.Agreeing.{Agrees, Follows}
use Rattle.standing.specs.Reaching.{GoesTo, Meets}
use Rattle.standing.proofs.Reaching.{goes_then, meets_step, meets_behind, ends_behind}
use Rattle.run_laws.specs.Copied.{TurnLeads}
use Rattle.run_laws.specs.Passings.{HasCome}
use Rattle.run_laws.specs.Results.{LeadsOnBy}
use Rattle.run_laws.proofs.Relabelled.{redone}
use Rattle.run_laws.proofs.Stacking.{over}

module _ (g : Graph) (t : ℕ) (k : Held) (ahead lines : List Label) (v : World) (turn : Turn) where
  follows_over : (what : Flow) → Follows g t k what lines v turn → Follows g t (over ahead k) what lines v turn
  follows_over (flow.Now words) f = f
  follows_over flow.Rests f = f
  follows_over (flow.Starts ref words) f = f
  follows_over flow.Enters f = f
  follows_over flow.Returns f = f
  follows_over (flow.Copies copying) f = f
  follows_over (flow.Delivers r set) f = f
  follows_over (flow.Polls r set) f = f
  follows_over (flow.HearsNone r) f = f
  follows_over (flow.HearsCancel r) f = f

module _ (g : Graph) (values : List ValType) (s : Script) (t : ℕ) (u : World) (stacks : List (List Stack)) (ahead : List Label) where
  -- What agrees behind lines, and behind these too.
  agrees_over : (before : List Label) (what : Flow) (k : Held) (turn : Turn) → Agrees g values s t before stacks (Gives what k) turn → Agrees g values s t (ahead ++ before) stacks (Gives what (over ahead k)) turn
  agrees_over before what k turn a = record {
    lines = a.lines;
    world = a.world;
    stands = a.stands;
    told = ap (λ (ls : List Label). ahead ++ ls) a.told ∙ sym (append_assoc ahead before a.lines);
    ends = follows_over g t k ahead a.lines a.world turn what a.ends;
  }

  told_over : (k : Held) (first more : List Label) → k.labels ≡ first ++ more → ahead ++ k.labels ≡ (ahead ++ first) ++ more
  told_over k first more told = ap (λ (ls : List Label). ahead ++ ls) told ∙ sym (append_assoc ahead first more)

  -- Where the turn in whose midst the machine is leads on.
  pub turn_over : (turn : Turn) (d : Done Flow) → Meets g s u [] (behind ahead turn) → TurnLeads g values s t [] stacks d turn → LeadsOnBy g values s t u [] stacks (HasCome g values s t u [] stacks) (redone ahead d)
  turn_over turn (Gives what k) meets l =
      let goes : GoesTo g s u (ahead ++ l.lines) l.world =
      meets_step g s u l.world [] (ahead ++ l.lines) (subst (λ (x : Turn). Meets g s u [] (behind ahead x)) l.is meets) in
      inl
      (record {
        lines = (ahead ++ l.lines) ++ l.leads.lines;
        next = l.leads.next;
        meets = meets_behind g s u l.world (ahead ++ l.lines) l.leads.lines l.leads.next goes l.leads.meets;
        agrees = subst (λ (ls : List Label). Agrees g values s t ls stacks (Gives what (over ahead k)) l.leads.next) (sym (append_assoc ahead l.lines l.leads.lines))
            (agrees_over (l.lines ++ l.leads.lines) what k l.leads.next l.leads.agrees);
      })
  turn_over turn (Traps why k) meets l =
      let goes : GoesTo g s u (ahead ++ l.lines) l.world =
      meets_step g s u l.world [] (ahead ++ l.lines) (subst (λ (x : Turn). Meets g s u [] (behind ahead x)) l.is meets) in
      record {
        lines = (ahead ++ l.lines) ++ l.leads.lines;
        world = l.leads.world;
        goes = goes_then g s u l.world l.leads.world (ahead ++ l.lines) l.leads.lines goes l.leads.goes;
        stands = l.leads.stands;
        told = told_over k l.lines l.leads.lines l.leads.told;
        ends = l.leads.ends.0;
      }
  turn_over turn (Spent k) meets l =
      let goes : GoesTo g s u (ahead ++ l.lines) l.world =
      meets_step g s u l.world [] (ahead ++ l.lines) (subst (λ (x : Turn). Meets g s u [] (behind ahead x)) l.is meets) in
      record {
        lines = (ahead ++ l.lines) ++ l.leads.lines;
        last = l.leads.last;
        runs = ends_behind g s u l.world l.leads.last (ahead ++ l.lines) l.leads.lines Fuel goes l.leads.runs;
        stands = l.leads.stands;
        told = told_over k l.lines l.leads.lines l.leads.told;
      }
  turn_over turn kept.Stuck meets l = tt
