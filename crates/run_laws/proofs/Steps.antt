-- A step as a whole.
use Rattle.std.proofs.Common.{◌≡◌, ◌⊎◌, inl, inr, ◌-◌, ℕ, List, [], ◌++◌, ◌∷◌, length, refl, sym, ap, ◌∙◌, subst, is_some, append-nil, Option, Some}
use Rattle.std.specs.List.{slice_get}
use Rattle.wasm_store.specs.Stack.{Stack}
use Rattle.syntax_trees.specs.declared.types.ValType.{ValType}
use Rattle.comp_graph.specs.Graph.{Graph, Lifted}
use Rattle.script_reader.specs.Script.{Script}
use Rattle.trace_labels.specs.declared.label.Label.{Label}
use Rattle.trace_labels.specs.declared.typed.TypedValue.{TypedValue}
use Rattle.programs.specs.declared.program.Program.{Program}
use Rattle.world_parts.specs.declared.parts.Copying.{Copying}
use Rattle.world_parts.specs.declared.parts.Flow.{Flow}
use Rattle.world_parts.specs.declared.parts.Flow.TheVariants as flow
use Rattle.world_parts.specs.declared.parts.Rest.{Rest}
use Rattle.world_parts.specs.declared.parts.Rest.TheVariants as rest
use Rattle.world_parts.specs.Held as kept
use Rattle.world_parts.specs.Held.{Held, Done, Gives, Traps, Spent, after}
use Rattle.world_stacks.specs.Views.{PileView}
use Rattle.replies.specs.Seen.{seen}
use Rattle.value_parts.specs.declared.to_pass.Passing.{Passing}
use Rattle.value_parts.specs.declared.to_pass.Passing.TheVariants as passing
use Rattle.value_parts.specs.Coming.{Behind}
use Rattle.value_parts.specs.Passing.{returned_lifted}
use Rattle.value_moves.specs.Passing as value_moves
use Rattle.value_moves.specs.Passing.{call_at, PassesFor, Passes}
use Rattle.machine_runs.specs.declared.stepping.Step.{Step}
use Rattle.machine_runs.specs.Following.{with_piles, heard, stacked, followed}
use Rattle.machine_runs.specs.Moving.{woken, moves}
use Rattle.machine_runs.specs.Stepping.{turn_steps, RestSteps, PassSteps, follow_steps}
use Rattle.abi_machine.specs.Canons.{options_at}
use Rattle.abi_machine.specs.Control.{Free}
use Rattle.abi_machine.specs.Next.{next}
use Rattle.abi_machine.specs.Reading as reading
use Rattle.abi_machine.specs.Turn.{Turn, behind}
use Rattle.abi_machine.specs.World.{Task, World, first_world}
use Rattle.abi_machine.specs.Run.{Reaches}
use Rattle.abi_machine.specs.sound.Acting.{IsOrdered}
use Rattle.abi_machine.specs.sound.Initial.{RunsAlone}
use Rattle.abi_machine.proofs.sound.Alone.{first_runs_alone, stays_alone}
use Rattle.abi_machine.proofs.sound.Ordered.{first_ordered, order_stays}
use Rattle.standing.specs.Stands.{Stands}
use Rattle.standing.specs.Agreeing.{enters, returns, copies, acting_words, control_of, control_at, Agrees}
use Rattle.standing.specs.KeptMarks.{HasMarks}
use Rattle.standing.specs.Leading.{ComesBy}
use Rattle.standing.specs.Moves.{Acts}
use Rattle.standing.proofs.Changes.{acting_is_alike}
use Rattle.standing.proofs.Members.{agrees_behind}
use Rattle.standing.proofs.Reaching.{meets_here}
use Rattle.standing.proofs.Steps.{turn_found, acting_is, acting_task}
use Rattle.run_laws.specs.Copied.{FlowFollows, TurnLeads}
use Rattle.run_laws.specs.Passings.{HasCome, MayPass}
use Rattle.run_laws.specs.Points.{pending, AtRest, stacks_at}
use Rattle.run_laws.specs.Results.{LeadsOnBy, PassesResult, MarksBehind}
use Rattle.run_laws.specs.Runs.{RuleAgrees}
use Rattle.run_laws.specs.Steps.{IsReached, TaskWell, MayMove, PassesThere, RestWell, StepIsMade}
use Rattle.run_laws.specs.Taking.{StandsMarked}
use Rattle.run_laws.proofs.Chosen.{turns_agree}
use Rattle.run_laws.proofs.Destructors.{destructor_enters}
use Rattle.run_laws.proofs.Entered.{task_enters}
use Rattle.run_laws.proofs.Flows.{stacks_long, trap_so, stacked_so}
use Rattle.run_laws.proofs.Instantiation.{instantiation_agrees}
use Rattle.run_laws.proofs.Moves.{by_rule, moves_so}
use Rattle.run_laws.proofs.OverLeads.{turn_over}
use Rattle.run_laws.proofs.PassedFlows.{GivesBy, IsRest, ended_rests, entered_plain, returned_plain, transferred_plain}
use Rattle.run_laws.proofs.Passings.{passes_lead}
use Rattle.run_laws.proofs.Relabelled.{redone, lifts_over, returns_over, memory_over}
use Rattle.run_laws.proofs.Results.{task_returns_result}
use Rattle.run_laws.proofs.Runs.{run_steps_agree}
use Rattle.run_laws.proofs.Stacking.{over, AtFlow, go_on, rests_so}
use Rattle.run_laws.proofs.Transfers.{copies_transfer}
use Rattle.run_laws.proofs.Turned.{piles_grow}
use Rattle.run_laws.proofs.Woken.{IsMove}
use Rattle.run_laws.proofs.chains.By.{ChainBy}
use Rattle.run_laws.proofs.chains.Passed.{enters_chain_for, returned_by_chain, transfers_chain}
use Rattle.run_laws.proofs.plain.Only.{IsPlain}
use Rattle.run_laws.proofs.stays.Same.{Same}

-- Where no line was told before nothing changes.
redone_none : (d : Done Flow) → redone [] d ≡ d
redone_none (Gives x k) = refl
redone_none (Traps why k) = refl
redone_none (Spent k) = refl
redone_none kept.Stuck = refl

-- Marks are the same where lines were told before.
kept_in : {A : Type 0} → Held → Done A → Held
kept_in h (Gives x k) = k
kept_in h (Traps why k) = h
kept_in h (Spent k) = h
kept_in h kept.Stuck = h

marks_over : (ahead : List Label) (d : Done (Option TypedValue)) → MarksBehind d → MarksBehind (redone ahead d)
unfolding kept_in
marks_over ahead (Gives x l) marks value k is =
    subst (λ (h : Held). HasMarks h) (ap (λ (d : Done (Option TypedValue)). kept_in l d) is) (marks x l refl)
marks_over ahead (Traps why l) marks value k is = absurd (let w : ⊥ = cc in w)
marks_over ahead (Spent l) marks value k is = absurd (let w : ⊥ = cc in w)
marks_over ahead kept.Stuck marks value k is = absurd (let w : ⊥ = cc in w)

-- A rest is plain.
rest_plain : (x : Flow) → IsRest x → IsPlain x
rest_plain x is = subst IsPlain (sym is) tt

-- What this gives.
given_by : (P : Flow → Type 0) (d : Done Flow) (what : Flow) (k : Held) → d ≡ Gives what k → GivesBy P d → P what
given_by P d what k is holds = subst (λ (x : Done Flow). GivesBy P x) is holds

-- Where values are to be passed.
module _ (p : Program) (values : List ValType) (s : Script) (h : Held) (piles : List PileView) (ahead : List Label) (w v : World) (t : ℕ) (task : Task) (f : Lifted) (reached : IsReached p.graph.now s w)
    (none : h.labels ≡ []) (acts : Acts v t task f) (marked : StandsMarked p.graph.now values s h (stacks_at piles) v) where
  abbrev g : Graph
  g = p.graph.now

  abbrev stacks : List (List Stack)
  stacks = stacks_at piles

  abbrev Leads : Done Flow → Type 0
  Leads d = LeadsOnBy g values s t w [] stacks (HasCome g values s t w [] stacks) d

  abbrev Agreed : Done (Step × List PileView) → Type 0
  Agreed d = RuleAgrees g values s ahead w d

  abbrev Stays : Flow → Held → Type 0
  Stays what k = (what ≡ flow.Rests) ⊎ Same h k

  last_acts : slice_get h.chain (length h.chain - 1) ≡ Some t
  last_acts = acting_is_alike g values s h stacks v marked.stands ∙ acts.first

  -- What follows them.
  rests_on : (what : Flow) (k : Held) → what ≡ flow.Rests → ComesBy g values s w [] (over ahead k) stacks (λ z. z.control ≡ control_at (over ahead k)) → Agreed (follow_steps p what piles k)
  unfolding followed
  rests_on what k is c =
      let long : length stacks ≡ length k.tasks = stacks_long g values s (over ahead k) stacks c.world c.stands in
      subst (λ (x : Flow). Agreed (after (after (heard (seen g) x k) (λ e l. stacked e piles l)) (go_on g values s t ahead w piles))) (sym is)
      (rests_so g values s t ahead w piles k (with_piles (length k.tasks) piles) c.lines c.world c.goes
      (subst (λ (xs : List (List Stack)). Stands g values s k xs c.world) (sym (piles_grow piles stacks (length k.tasks) (inl refl) long)) c.stands) c.ends c.told)

  flows_by : (what : Flow) (k : Held) → IsPlain what → Stays what k → AtFlow g values s t ahead w what k stacks → Agreed (follow_steps p what piles k)
  unfolding followed
  flows_by (flow.Now words) k plain stays a = stacked_so p values s h piles w t ahead v marked.stands last_acts (ap is_some acts.there) (flow.Now words) k stacks (inl refl) stays a
  flows_by flow.Rests k plain stays a = stacked_so p values s h piles w t ahead v marked.stands last_acts (ap is_some acts.there) flow.Rests k stacks (inl refl) stays a
  flows_by (flow.Starts ref words) k plain stays a =
      stacked_so p values s h piles w t ahead v marked.stands last_acts (ap is_some acts.there) (flow.Starts ref words) k stacks (inl refl) stays a
  flows_by flow.Enters k plain stays a = absurd plain
  flows_by flow.Returns k plain stays a = absurd plain
  flows_by (flow.Copies copying) k plain stays a = absurd plain
  flows_by (flow.Delivers r set) k plain stays a = absurd plain
  flows_by (flow.Polls r set) k plain stays a = absurd plain
  flows_by (flow.HearsNone r) k plain stays a = absurd plain
  flows_by (flow.HearsCancel r) k plain stays a = absurd plain

  flows_on : (what : Flow) (k : Held) → IsPlain what → Stays what k → FlowFollows g values s t [] stacks (Gives what (over ahead k)) w → Agreed (follow_steps p what piles k)
  flows_on what k plain stays l =
      flows_by what k plain stays
      (record {
        first = l.lines;
        mid = l.meets.0;
        goes = l.meets.1;
        agrees = agrees_behind g values s t [] l.lines stacks (Gives what (over ahead k)) (next g s l.meets.0)
            (subst (λ (turn : Turn). Agrees g values s t l.lines stacks (Gives what (over ahead k)) turn) (sym l.meets.2) l.agrees);
        at_once = inl plain;
      })

  passed_so : (first : Done Flow) (d : Done (Step × List PileView)) → Leads (redone ahead first) → GivesBy IsPlain first → ((what : Flow) (k : Held) → first ≡ Gives what k → Stays what k)
      → Behind first (λ f k e. e ≡ follow_steps p f piles k) d → Agreed d
  passed_so (Gives what k) d leads plain stays follows =
      subst (λ (x : Done (Step × List PileView)). Agreed x) (sym follows)
      (elim leads [
        | inl l ↦ flows_on what k plain (stays what k refl) l
        | inr l ↦ rests_on what k l.0 l.1
      ])
  passed_so (Traps why k) d leads plain stays follows =
      subst (λ (x : Done (Step × List PileView)). Agreed x) (sym follows)
      (trap_so p values s h piles w t ahead k stacks leads.world leads.world leads.lines why reached leads.goes leads.ends refl leads.stands leads.told)
  passed_so (Spent k) d leads plain stays follows =
      subst (λ (x : Done (Step × List PileView)). Agreed x) (sym follows)
      (record { steps = leads.runs.0; world = leads.last; reached = leads.runs.1; same_lines = leads.told ∙ leads.runs.3; is_next = leads.runs.2 })
  passed_so kept.Stuck d leads plain stays follows = subst (λ (x : Done (Step × List PileView)). Agreed x) (sym follows) tt

  -- What passing them leads to, of each kind.
  abbrev marked_over : StandsMarked g values s (over ahead h) stacks v
  marked_over = record { stands = marked.stands; ends = marked.ends; lends = marked.lends }

  arguments_lead : (first : Done Flow) → next g s w ≡ behind ahead (pending g h passing.Arguments v) → MayPass p values s h v t task f passing.Arguments → PassesFor p t passing.Arguments h first → Leads (redone ahead first)
  arguments_lead first turn may passes =
      turn_over g values s t w stacks ahead (enters g t v) first
      (meets_here g s w (behind ahead (enters g t v)) (turn ∙ ap (λ (x : Turn). behind ahead x) (turn_found (reading.acting v) (t, task) (λ a. enters g a.0 v) (acting_task v t task f acts))))
      (subst (λ (ls : List Label). TurnLeads g values s t ls stacks first (enters g t v)) none
      (elim may.well [
        | inl lifted ↦ task_enters p values s h stacks v t task f first lifted marked passes
        | inr destructor ↦ destructor_enters p values s h stacks v t task f first destructor.0 destructor.1 marked passes
      ]))

  elements_lead : (copying : Copying) (first : Done Flow) → next g s w ≡ behind ahead (pending g h (passing.Elements copying) v) → MayPass p values s h v t task f (passing.Elements copying)
      → PassesFor p t (passing.Elements copying) h first → Leads (redone ahead first)
  elements_lead copying first turn may passes =
      turn_over g values s t w stacks ahead (copies g t copying v) first
      (meets_here g s w (behind ahead (copies g t copying v))
      (turn ∙ ap (λ (x : Turn). behind ahead x) (turn_found (reading.acting v) (t, task) (λ a. copies g a.0 copying v) (acting_task v t task f acts))))
      (subst (λ (ls : List Label). TurnLeads g values s t ls stacks first (copies g t copying v)) none (copies_transfer p values s h stacks v t copying first may.well marked passes))

  result_over : PassesResult p values h v t task f → PassesResult p values (over ahead h) v t task f
  result_over x = record {
    types = x.types;
    acts = x.acts;
    runs = x.runs;
    returned = x.returned;
    no_borrow = x.no_borrow;
    memory = memory_over ahead f.options.memory h ∙ x.memory;
    memories = λ number. memory_over ahead (options_at p.graph.now number).memory h ∙ x.memories number;
    own = x.own;
  }

  returned_leads : (first : Done Flow) → next g s w ≡ behind ahead (pending g h passing.Returned v) → MayPass p values s h v t task f passing.Returned → PassesFor p t passing.Returned h first → Leads (redone ahead first)
  returned_leads first turn may passes =
      let x = may.well in
      let l = task_returns_result p values s (over ahead h) stacks w v t x.number task f x.builtin x.result x.options [] [] ahead (redone ahead first) (result_over x.passes)
      (record {
        there = x.calls.there;
        is = x.calls.is;
        own = x.calls.own;
        typed = x.calls.typed;
        calls = x.calls.calls;
        marks = subst (λ (d : Done (Option TypedValue)). MarksBehind d) (sym (lifts_over ahead p t x.number h)) (marks_over ahead (returned_lifted p t x.number h) x.calls.marks);
      })
      marked_over (ap (λ (ls : List Label). ahead ++ ls) none ∙ append-nil ahead)
      (meets_here g s w (behind ahead (returns g t (control_at h) v))
      (turn ∙ ap (λ (x : Turn). behind ahead x) (turn_found (reading.acting v) (t, task) (λ a. returns g a.0 (control_at h) v) (acting_task v t task f acts))))
      (returns_over ahead p t x.number h first (subst (λ (r : Rest). value_moves.ReturnsBy p t (call_at r) h first) x.calls.calls passes)) in
      so (redone ahead first) l
    where
      so : (d : Done Flow) → LeadsOnBy g values s t w [] stacks (λ what k. FlowFollows g values s t [] stacks (Gives what k) w) d → Leads d
      so (Gives what k) l = inl l
      so (Traps why k) l = l
      so (Spent k) l = l
      so kept.Stuck l = tt

  -- Who runs stays.
  same_by : (first : Done Flow) (what : Flow) (k : Held) → first ≡ Gives what k → ChainBy h first → Stays what k
  same_by first what k is same = inr (subst (λ (q : Done Flow). ChainBy h q) is same)

  -- Together.
  abbrev Goes : Passing → Type 0
  Goes x =
      (first : Done Flow) → next g s w ≡ behind ahead (pending g h x v) → MayPass p values s h v t task f x → PassesFor p t x h first → Leads (redone ahead first)

  pub all_passed : (x : Passing) (d : Done (Step × List PileView)) → Goes x → ((first : Done Flow) → PassesFor p t x h first → GivesBy IsPlain first)
      → ((first : Done Flow) → PassesFor p t x h first → ChainBy h first) → next g s w ≡ behind ahead (pending g h x v) → MayPass p values s h v t task f x
      → PassSteps Passes p x piles h d → Agreed d
  all_passed x d goes plain stays turn may steps =
      let passes : PassesFor p t x h steps.0 = subst (λ (q : Done ℕ). Behind q (λ n k e. PassesFor p n x k e) steps.0) (acting_is g values s h stacks v t acts.first marked.stands) steps.1 in
      passed_so steps.0 d (goes steps.0 turn may passes) (plain steps.0 passes) (λ what k is. same_by steps.0 what k is (stays steps.0 passes)) steps.2

  pub arguments_passed : (d : Done (Step × List PileView)) → next g s w ≡ behind ahead (pending g h passing.Arguments v) → MayPass p values s h v t task f passing.Arguments → PassSteps Passes p passing.Arguments piles h d → Agreed d
  arguments_passed d turn may steps = all_passed passing.Arguments d arguments_lead (λ first passes. entered_plain p t h first passes) (λ first passes. enters_chain_for p t h first passes) turn may steps

  pub returned_passed : (d : Done (Step × List PileView)) → next g s w ≡ behind ahead (pending g h passing.Returned v) → MayPass p values s h v t task f passing.Returned → PassSteps Passes p passing.Returned piles h d → Agreed d
  returned_passed d turn may steps = all_passed passing.Returned d returned_leads (λ first passes. returned_plain p t (call_at h.rest) h first passes) (λ first passes. returned_by_chain p t (call_at h.rest) h first passes) turn may steps

  pub elements_passed : (copying : Copying) (d : Done (Step × List PileView)) → next g s w ≡ behind ahead (pending g h (passing.Elements copying) v) → MayPass p values s h v t task f (passing.Elements copying) → PassSteps Passes p (passing.Elements copying) piles h d
      → Agreed d
  elements_passed copying d turn may steps = all_passed (passing.Elements copying) d (elements_lead copying) (λ first passes. transferred_plain p t copying h first passes) (λ first passes. transfers_chain p t copying h first passes) turn may steps

  pub ended_passed : (words : List ℕ) (d : Done (Step × List PileView)) → ahead ≡ [] → next g s w ≡ behind ahead (pending g h (passing.Ended words) v) → MayPass p values s h v t task f (passing.Ended words) → PassSteps Passes p (passing.Ended words) piles h d → Agreed d
  ended_passed words d no_lines turn may steps =
      let rests : GivesBy IsRest steps.0 =
      ended_rests p t words h steps.0 (subst (λ (q : Done ℕ). Behind q (λ n k e. PassesFor p n (passing.Ended words) k e) steps.0) (acting_is g values s h stacks v t acts.first marked.stands) steps.1) in
      passed_so steps.0 d
      (subst (λ (ls : List Label). Leads (redone ls steps.0)) (sym no_lines)
      (subst Leads (sym (redone_none steps.0))
      (passes_lead p values s h stacks w v t task f (passing.Ended words) [] [] [] steps.0 may marked none
      (meets_here g s w (behind [] (pending g h (passing.Ended words) v)) (turn ∙ ap (λ (ls : List Label). behind ls (pending g h (passing.Ended words) v)) no_lines)) steps.1)))
      (rests_plain steps.0 rests) (λ what k is. inl (given_by IsRest steps.0 what k is rests)) steps.2
    where
      rests_plain : (q : Done Flow) → GivesBy IsRest q → GivesBy IsPlain q
      rests_plain (Gives x k) is = rest_plain x is
      rests_plain (Traps why k) is = tt
      rests_plain (Spent k) is = tt
      rests_plain kept.Stuck is = tt

-- Who acts is as the control says, in each world that is reached.
pub ordered_from : (g : Graph) (s : Script) (steps : List (List Label)) (w v : World) → RunsAlone w → IsOrdered w → Reaches g s w steps v → IsOrdered v
ordered_from g s [] w v alone ordered r = subst IsOrdered (sym r) ordered
ordered_from g s (labels ∷ steps) w v alone ordered r =
    ordered_from g s steps r.0 v (stays_alone g s w r.0 labels alone r.1) (order_stays g s w r.0 labels alone ordered r.1) r.2

-- Where the run is at a rest.
module _ (p : Program) (values : List ValType) (s : Script) (h : Held) (piles : List PileView) (w : World) (reached : IsReached p.graph.now s w) (none : h.labels ≡ [])
    (at : AtRest p.graph.now values s h (stacks_at piles) [] w) where
  abbrev graph : Graph
  graph = p.graph.now

  abbrev Rested : Done (Step × List PileView) → Type 0
  Rested d = RuleAgrees graph values s [] w d

  moved : (r : Rest) (d : Done (Step × List PileView)) → IsMove r → h.rest ≡ r → (m : MayMove p values s h w) → d ≡ after (moves graph p.ends.now h.rest piles h) (go_on graph values s m.number [] w piles) → Rested d
  moved r d is_move is m same =
      subst (λ (x : Done (Step × List PileView)). Rested x)
      (sym (same ∙ ap (λ (x : Rest). after (moves graph p.ends.now x piles h) (go_on graph values s m.number [] w piles)) is))
      (moves_so p values s h piles w m.number m.task m.first m.there reached at.stands r is_move is at.control none (subst (λ (x : Rest). TaskWell p values h w m.number m.task x) is m.well)
      (λ what k now v gives stands. m.hears what k now v (ap (λ (x : Rest). woken graph p.ends.now x h) is ∙ gives) stands))

  pub rested : (r : Rest) (d : Done (Step × List PileView)) → h.rest ≡ r → RestWell p values s h piles w r → RestSteps p r piles h d → Rested d
  rested (rest.Instantiates number) d is m steps =
      let well = subst (λ (x : Rest). TaskWell p values h w m.number m.task x) is m.well in
      subst (λ (x : Done (Step × List PileView)). Rested x) (sym steps) (instantiation_agrees graph values s p h piles w number m.task refl none is well.1 at)
  rested rest.Free d is m steps =
      subst (λ (x : Done (Step × List PileView)). Rested x) (sym steps)
      (by_rule graph values s [] w (turn_steps p piles h) (turns_agree graph values s p h piles w m.named none (at.control ∙ free is) m.turns m.cancels at.stands))
    where
      free : h.rest ≡ rest.Free → control_at h ≡ Free
      free e = ap (λ (r : Rest). control_of (acting_words h) r) e
  rested rest.Arrives d is m steps = moved rest.Arrives d tt is m steps
  rested rest.Goes d is m steps = moved rest.Goes d tt is m steps
  rested rest.Resumes d is m steps = moved rest.Resumes d tt is m steps
  rested rest.Back d is m steps = moved rest.Back d tt is m steps
  rested rest.Runs d is m steps = run_steps_agree graph values s h piles w d (ordered_from graph s reached.0 (first_world graph) w (first_runs_alone graph) (first_ordered graph) reached.1) none is at steps
  rested (rest.Calls number) d is m steps = moved (rest.Calls number) d tt is m steps
  rested rest.Leaves d is m steps = moved rest.Leaves d tt is m steps

abbrev Marked : Program → List ValType → Script → Held → List PileView → World → Type 0
Marked p values s h piles v = StandsMarked p.graph.now values s h (stacks_at piles) v

pub step_is_made : StepIsMade
step_is_made p values s h piles passing.Nothing ahead w d reached none at may steps =
    subst (λ (ls : List Label). RuleAgrees p.graph.now values s ls w d) (sym at.none_ahead)
    (rested p values s h piles w reached none (record { stands = at.stands; control = at.control; none_ahead = refl }) h.rest d refl may steps)
step_is_made p values s h piles passing.Arguments ahead w d reached none at may steps =
    let marked : Marked p values s h piles at.world = record { stands = at.stands; ends = may.ends; lends = may.lends } in
    arguments_passed p values s h piles ahead w at.world may.number may.task may.func reached none may.may.acts marked d at.turn may.may steps
step_is_made p values s h piles passing.Returned ahead w d reached none at may steps =
    let marked : Marked p values s h piles at.world = record { stands = at.stands; ends = may.ends; lends = may.lends } in
    returned_passed p values s h piles ahead w at.world may.number may.task may.func reached none may.may.acts marked d at.turn may.may steps
step_is_made p values s h piles (passing.Ended words) ahead w d reached none at may steps =
    let there : PassesThere p values s h at.world (passing.Ended words) = may.1 in
    let marked : Marked p values s h piles at.world = record { stands = at.stands; ends = there.ends; lends = there.lends } in
    ended_passed p values s h piles ahead w at.world there.number there.task there.func reached none there.may.acts marked words d may.0 at.turn there.may steps
step_is_made p values s h piles (passing.Elements copying) ahead w d reached none at may steps =
    let marked : Marked p values s h piles at.world = record { stands = at.stands; ends = may.ends; lends = may.lends } in
    elements_passed p values s h piles ahead w at.world may.number may.task may.func reached none may.may.acts marked copying d at.turn may.may steps
