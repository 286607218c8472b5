-- Parts behind parts that lead on by steps from one world.
use Rattle.std.proofs.Common.{◌≡◌, ℕ, List, [], ◌++◌, refl, sym, ap, ◌∙◌, subst, append_assoc, append-nil, Ok}
use Rattle.wasm_store.specs.Stack.{Stack}
use Rattle.syntax_trees.specs.declared.types.ValType.{ValType}
use Rattle.comp_graph.specs.Graph.{Graph}
use Rattle.script_reader.specs.Script.{Script}
use Rattle.trace_labels.specs.declared.label.Label.{Label}
use Rattle.trace_labels.specs.declared.trap.TrapName.{TrapName}
use Rattle.world_parts.specs.Held as kept
use Rattle.world_parts.specs.Held.{Held, Done, Gives, Traps, Spent}
use Rattle.value_parts.specs.Coming.{Behind}
use Rattle.abi_machine.specs.Control.{Doomed}
use Rattle.abi_machine.specs.World.{World}
use Rattle.abi_machine.specs.Edits.{with_control}
use Rattle.abi_machine.specs.Lifting as lifting
use Rattle.abi_machine.specs.Lifting.{Came, once_lifted}
use Rattle.abi_machine.specs.Turn as turns
use Rattle.abi_machine.specs.Turn.{Turn, Steps, behind, doomed}
use Rattle.standing.specs.Stands.{Stands}
use Rattle.standing.specs.Reaching.{Meets}
use Rattle.standing.specs.Leading.{ComesBy}
use Rattle.standing.proofs.Reaching.{meets_step}
use Rattle.run_laws.specs.Lifted.{Leaves, LiftAgrees}
use Rattle.run_laws.specs.Results.{LeadsOnBy}

-- Lines in front of lines.
pub behind_both : (first more : List Label) (turn : Turn) → behind first (behind more turn) ≡ behind (first ++ more) turn
behind_both first more (Steps lines w) = ap (λ (ls : List Label). Steps ls w) (sym (append_assoc first more lines))
behind_both first more (turns.Ends end) = refl
behind_both first more turns.Stuck = refl

-- lines that were told behind all others
pub told_more : (before lines ahead more now after : List Label) → now ≡ before ++ (lines ++ ahead) → after ≡ now ++ more → after ≡ before ++ (lines ++ (ahead ++ more))
told_more before lines ahead more now after first last =
    last ∙ ap (λ (ls : List Label). ls ++ more) first ∙ append_assoc before (lines ++ ahead) more ∙ ap (λ (ls : List Label). before ++ ls) (append_assoc lines ahead more)

module _ (g : Graph) (values : List ValType) (s : Script) (t : ℕ) (u : World) (before : List Label) (stacks : List (List Stack)) where
  abbrev Leads : {A : Type 0} → (A → Held → Type 0) → Done A → Type 0
  Leads G d = LeadsOnBy g values s t u before stacks G d

  pub leads_then : {A B : Type 0} (G : A → Held → Type 0) (H : B → Held → Type 0) (d : Done A) (F : A → Held → Done B → Type 0) (e : Done B) → Leads G d
      → ((x : A) (k : Held) → d ≡ Gives x k → G x k → F x k e → Leads H e) → Behind d F e → Leads H e
  leads_then G H (Gives x k) F e leads more follows = more x k refl leads follows
  leads_then G H (Traps why k) F e leads more follows = subst (Leads H) (sym follows) leads
  leads_then G H (Spent k) F e leads more follows = subst (Leads H) (sym follows) leads
  leads_then G H kept.Stuck F e leads more follows = subst (Leads H) (sym follows) tt

  -- A trap of the task is the next step.
  pub doom : (h : Held) (w : World) (lines ahead : List Label) (why : TrapName) → h.labels ≡ before ++ (lines ++ ahead) → Stands g values s h stacks w
      → Meets g s u lines (behind ahead (doomed t why w)) → ComesBy g values s u before h stacks (λ v. v.control ≡ Doomed t why)
  doom h w lines ahead why told st meets = record {
    lines = lines ++ (ahead ++ []);
    world = with_control (Doomed t why) w;
    goes = meets_step g s u (with_control (Doomed t why) w) lines (ahead ++ []) meets;
    stands = st;
    told = told ∙ ap (λ (ls : List Label). before ++ (lines ++ ls)) (sym (append-nil ahead));
    ends = refl;
  }

  -- Something is lifted, and then this comes.
  pub record IsLifted {A : Type 0} (h : Held) (w : World) (came : Came A) (more : A → World → Turn) (lines ahead : List Label) (x : A) (k : Held) : Type 0 where
    pub now : lifting.Kept
    pub is : came ≡ Ok (x, now)
    pub leaves : Leaves g values s h stacks w k now.lines now.world
    pub meets : Meets g s u lines (behind (ahead ++ now.lines) (more x now.world))
    pub told : k.labels ≡ before ++ (lines ++ (ahead ++ now.lines))

  pub lifted_on : {A : Type 0} (h : Held) (w : World) (e : Done A) (came : Came A) (more : A → World → Turn) (lines ahead : List Label) → h.labels ≡ before ++ (lines ++ ahead)
      → Meets g s u lines (behind ahead (once_lifted t came more)) → LiftAgrees (Leaves g values s h stacks w) e came → Leads (λ x k. IsLifted h w came more lines ahead x k) e
  lifted_on {A} h w (Gives x k) came more lines ahead told meets agrees = record {
    now = agrees.now;
    is = agrees.is;
    leaves = agrees.leaves;
    meets = subst (λ (turn : Turn). Meets g s u lines turn) (behind_both ahead agrees.now.lines (more x agrees.now.world))
        (subst (λ (c : Came A). Meets g s u lines (behind ahead (once_lifted t c more))) agrees.is meets);
    told = told_more before lines ahead agrees.now.lines h.labels k.labels told agrees.leaves.told;
  }
  lifted_on {A} h w (Traps why k) came more lines ahead told meets agrees =
      let all : List Label = agrees.stop.lines in
      let stop : Meets g s u lines (behind ahead (behind all (doomed t agrees.stop.why agrees.stop.world))) =
      subst (λ (c : Came A). Meets g s u lines (behind ahead (once_lifted t c more))) agrees.is meets in
      subst (λ (name : TrapName). ComesBy g values s u before k stacks (λ v. v.control ≡ Doomed t name)) agrees.same_why
      (doom k agrees.stop.world lines (ahead ++ all) agrees.stop.why (told_more before lines ahead all h.labels k.labels told agrees.leaves.told) agrees.leaves.stands.stands
      (subst (λ (turn : Turn). Meets g s u lines turn) (behind_both ahead all (doomed t agrees.stop.why agrees.stop.world)) stop))
  lifted_on h w (Spent k) came more lines ahead told meets agrees = absurd agrees
  lifted_on h w kept.Stuck came more lines ahead told meets agrees = tt
