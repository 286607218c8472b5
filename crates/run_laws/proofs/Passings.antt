-- Values that are passed, of every kind.
use Rattle.std.proofs.Common.{◌≡◌, inl, inr, ℕ, List, [], ◌++◌, refl, sym, ap, ◌∙◌, subst, append_assoc, append-nil}
use Rattle.wasm_store.specs.Stack.{Stack}
use Rattle.syntax_trees.specs.declared.types.ValType.{ValType}
use Rattle.entry_gate.specs.declared.kind.Kind.{Kind}
use Rattle.entry_gate.specs.declared.kind.Kind.TheVariants.{Sync, Callback, Stackful}
use Rattle.comp_graph.specs.Graph.{Graph, Lifted}
use Rattle.script_reader.specs.Script.{Script}
use Rattle.trace_labels.specs.declared.label.Label.{Label}
use Rattle.programs.specs.declared.program.Program.{Program}
use Rattle.world_parts.specs.declared.parts.Flow.{Flow}
use Rattle.world_parts.specs.declared.parts.Flow.TheVariants as flow
use Rattle.world_parts.specs.declared.parts.Rest.{Rest}
use Rattle.world_parts.specs.declared.parts.Rest.TheVariants as rest
use Rattle.world_parts.specs.Held as kept
use Rattle.world_parts.specs.Held.{Held, Done, Gives, Traps, Spent}
use Rattle.world_parts.specs.Going.{loops}
use Rattle.world_parts.specs.Slots.{word_in}
use Rattle.value_parts.specs.declared.to_pass.Passing.{Passing}
use Rattle.value_parts.specs.declared.to_pass.Passing.TheVariants as passing
use Rattle.value_parts.specs.Coming.{Behind}
use Rattle.value_moves.specs.Passing as moves
use Rattle.value_moves.specs.Passing.{async_ended, SyncEnds, KindEnds, call_at, PassesFor}
use Rattle.abi_machine.specs.declared.run_end.RunEnd.TheVariants.{Fuel}
use Rattle.abi_machine.specs.Control.{Doomed, Leaves}
use Rattle.abi_machine.specs.CoreSteps.{func_ended}
use Rattle.abi_machine.specs.Edits.{with_control}
use Rattle.abi_machine.specs.Reading as reading
use Rattle.abi_machine.specs.Reading.{func_of, kind_of}
use Rattle.abi_machine.specs.Turn as turns
use Rattle.abi_machine.specs.Turn.{Turn, Steps, behind}
use Rattle.abi_machine.specs.World.{Task, World}
use Rattle.standing.specs.Agreeing.{control_at, acting_words, control_of, enters, returns, copies, Agrees}
use Rattle.standing.specs.Leading.{ComesBy, EndsBy, IsDoomed}
use Rattle.standing.specs.Moves.{Acts}
use Rattle.standing.specs.Reaching.{GoesTo, Meets}
use Rattle.standing.proofs.Members.{agrees_behind}
use Rattle.standing.proofs.PostReturns.{comes_behind, ends_by_behind}
use Rattle.standing.proofs.Reaching.{meets_step, meets_behind}
use Rattle.standing.proofs.Steps.{turn_found, acting_is, acting_task, IsKept, is_kept, kind_is}
use Rattle.run_laws.specs.Copied.{TurnLeads}
use Rattle.run_laws.specs.Passings.{EndsWell, MayPass, HasCome, PassesLead}
use Rattle.run_laws.specs.Points.{pending}
use Rattle.run_laws.specs.Results.{LeadsOnBy, LeadsOn}
use Rattle.run_laws.specs.Taking.{StandsMarked}
use Rattle.run_laws.proofs.AsyncEnds.{async_function_ends}
use Rattle.run_laws.proofs.Destructors.{destructor_enters, destructor_ends}
use Rattle.run_laws.proofs.Entered.{task_enters}
use Rattle.run_laws.proofs.LeadsOn.{told_more}
use Rattle.run_laws.proofs.Results.{task_returns_result, task_ends_with_result}
use Rattle.run_laws.proofs.SyncRests.{sync_rests}
use Rattle.run_laws.proofs.Transfers.{copies_transfer}
use Rattle.run_laws.proofs.stays.Going.{loops_stays, ending_stays}
use Rattle.run_laws.proofs.stays.Same.{FlowsBy, flows_given}

-- What the end of a function that is lifted with `async` leaves.
async_stays : (t : ℕ) (kind : Kind) (words : List ℕ) (h : Held) → FlowsBy h (async_ended t kind words h)
async_stays t Sync words h = tt
async_stays t Callback words h = flows_given h (word_in words 0) (λ word. loops t word h) (λ word is. loops_stays t word h)
async_stays t Stackful words h = ending_stays t h

module _ (g : Graph) (values : List ValType) (s : Script) (h : Held) (stacks : List (List Stack)) (u w : World) (t : ℕ) (before lines ahead : List Label) (labels : h.labels ≡ before ++ (lines ++ ahead)) where
  abbrev Leads : Done Flow → Type 0
  Leads d = LeadsOnBy g values s t u before stacks (HasCome g values s t u before stacks) d

  follows : (d : Done Flow) → LeadsOn g values s t u before stacks d → Leads d
  follows (Gives what k) l = inl l
  follows (Traps why k) l = l
  follows (Spent k) l = l
  follows kept.Stuck l = tt

  rests : (d : Done Flow) → ((what : Flow) (k : Held) → d ≡ Gives what k → k.rest ≡ rest.Leaves)
      → LeadsOnBy g values s t u before stacks (λ what k. (what ≡ flow.Rests) × ComesBy g values s u before k stacks (λ v. v.control ≡ Leaves)) d → Leads d
  rests (Gives what k) leaves l =
      let c : ComesBy g values s u before k stacks (λ v. v.control ≡ Leaves) = l.1 in
      inr (
        l.0,
        record {
          lines = c.lines;
          world = c.world;
          goes = c.goes;
          stands = c.stands;
          told = c.told;
          ends = c.ends ∙ sym (ap (λ (r : Rest). control_of (acting_words k) r) (leaves what k refl));
        },
      )
  rests (Traps why k) leaves l = l
  rests (Spent k) leaves l = l
  rests kept.Stuck leaves l = tt

  -- What leads on behind a step.
  module _ (turn : Turn) (meets : Meets g s u lines (behind ahead turn)) where
    abbrev all : List Label → List Label
    all more = lines ++ (ahead ++ more)

    goes : (more : List Label) (v : World) → turn ≡ Steps more v → GoesTo g s u (all more) v
    goes more v is = meets_step g s u v lines (ahead ++ more) (subst (λ (x : Turn). Meets g s u lines (behind ahead x)) is meets)

    told : (more : List Label) → h.labels ++ more ≡ before ++ all more
    told more = told_more before lines ahead more h.labels (h.labels ++ more) labels refl

    turn_on : (d : Done Flow) → TurnLeads g values s t h.labels stacks d turn → Leads d
    turn_on (Gives what k) l =
        inl
        (record {
          lines = all l.lines ++ l.leads.lines;
          next = l.leads.next;
          meets = meets_behind g s u l.world (all l.lines) l.leads.lines l.leads.next (goes l.lines l.world l.is) l.leads.meets;
          agrees = subst (λ (ls : List Label). Agrees g values s t ls stacks (Gives what k) l.leads.next)
              (ap (λ (ls : List Label). ls ++ l.leads.lines) (told l.lines) ∙ append_assoc before (all l.lines) l.leads.lines) l.leads.agrees;
        })
    turn_on (Traps why k) l =
        let c : ComesBy g values s u before k stacks (IsDoomed t why) =
        comes_behind g values s u l.world before (all l.lines) k stacks (IsDoomed t why) (goes l.lines l.world l.is)
        (subst (λ (ls : List Label). ComesBy g values s l.world ls k stacks (IsDoomed t why)) (told l.lines) l.leads) in
        record { lines = c.lines; world = c.world; goes = c.goes; stands = c.stands; told = c.told; ends = c.ends.0 }
    turn_on (Spent k) l =
        ends_by_behind g values s u l.world before (all l.lines) k stacks Fuel (goes l.lines l.world l.is)
        (subst (λ (ls : List Label). EndsBy g values s l.world ls k stacks Fuel) (told l.lines) l.leads)
    turn_on kept.Stuck l = tt

    -- What agrees with the turn.
    agrees_on : (d : Done Flow) → FlowsBy h d → Agrees g values s t h.labels stacks d turn → Leads d
    agrees_on (Gives what k) stays a =
        inl
        (record {
          lines = lines;
          next = behind ahead turn;
          meets = meets;
          agrees = agrees_behind g values s t (before ++ lines) ahead stacks (Gives what k) turn
              (subst (λ (ls : List Label). Agrees g values s t ls stacks (Gives what k) turn) (labels ∙ sym (append_assoc before lines ahead)) a);
        })
    agrees_on (Traps why k) stays a = record {
      lines = all a.lines;
      world = with_control (Doomed t why) a.world;
      goes = goes a.lines (with_control (Doomed t why) a.world) a.ends;
      stands = a.stands;
      told = a.told ∙ told a.lines;
      ends = refl;
    }
    agrees_on (Spent k) stays a = absurd stays
    agrees_on kept.Stuck stays a = tt

module _ (p : Program) (values : List ValType) (s : Script) (h : Held) (stacks : List (List Stack)) (u w : World) (t : ℕ) (task : Task) (f : Lifted) (before lines ahead : List Label)
    (acts : Acts w t task f) (marked : StandsMarked p.graph.now values s h stacks w) (labels : h.labels ≡ before ++ (lines ++ ahead)) where
  abbrev graph : Graph
  graph = p.graph.now

  abbrev LeadsSo : Done Flow → Type 0
  LeadsSo d = LeadsOnBy graph values s t u before stacks (HasCome graph values s t u before stacks) d

  -- The core function or the callback has ended.
  by_kind : (words : List ℕ) (d : Done Flow) (kind : Kind) → EndsWell p values h w t task f words kind → Meets graph s u lines (behind ahead (func_ended graph t task f kind words w))
      → KindEnds p t words kind h d → LeadsSo d
  by_kind words d Sync well meets ends =
      rests graph values s h stacks u w t before lines ahead labels d (λ what k gives. sync_rests p t words h k what (subst (λ (x : Done Flow). SyncEnds p t words h x) gives ends))
      (elim well.0 [
        | inl result ↦ task_ends_with_result p values s h stacks u w t task f words before lines ahead d result well.1 marked labels meets ends
        | inr destructor ↦ destructor_ends p values s h stacks u w t task f words before lines ahead d destructor well.1 marked labels meets ends
      ])
  by_kind words d Callback well meets ends =
      subst (λ (x : Done Flow). LeadsSo x) (sym ends)
      (agrees_on graph values s h stacks u w t before lines ahead labels (func_ended graph t task f Callback words w) meets (async_ended t Callback words h) (async_stays t Callback words h)
      (async_function_ends graph values s h stacks w t task f Callback words tt well marked.stands))
  by_kind words d Stackful well meets ends =
      subst (λ (x : Done Flow). LeadsSo x) (sym ends)
      (agrees_on graph values s h stacks u w t before lines ahead labels (func_ended graph t task f Stackful words w) meets (async_ended t Stackful words h) (async_stays t Stackful words h)
      (async_function_ends graph values s h stacks w t task f Stackful words tt well marked.stands))

  kept_task : IsKept graph values s h w t task f
  kept_task = is_kept graph values s h stacks w t task f acts marked.stands

  by_passing : (x : Passing) (d : Done Flow) → MayPass p values s h w t task f x → Meets graph s u lines (behind ahead (pending graph h x w)) → PassesFor p t x h d → LeadsSo d
  by_passing passing.Nothing d may meets passes =
      subst (λ (y : Done Flow). LeadsSo y) (sym passes)
      (inl
      (record {
        lines = lines;
        next = Steps (ahead ++ []) (with_control (control_at h) w);
        meets = meets;
        agrees = record {
          lines = ahead ++ [];
          world = w;
          stands = marked.stands;
          told = labels ∙ sym (append_assoc before lines ahead) ∙ ap (λ (ls : List Label). (before ++ lines) ++ ls) (sym (append-nil ahead));
          ends = refl;
        };
      }))
  by_passing passing.Arguments d may meets passes =
      turn_on graph values s h stacks u w t before lines ahead labels (enters graph t w)
      (subst (λ (turn : Turn). Meets graph s u lines (behind ahead turn)) (turn_found (reading.acting w) (t, task) (λ a. enters graph a.0 w) (acting_task w t task f acts)) meets) d
      (elim may.well [
        | inl lifted ↦ task_enters p values s h stacks w t task f d lifted marked passes
        | inr destructor ↦ destructor_enters p values s h stacks w t task f d destructor.0 destructor.1 marked passes
      ])
  by_passing passing.Returned d may meets passes =
      let well = may.well in
      follows graph values s h stacks u w t before lines ahead labels d
      (task_returns_result p values s h stacks u w t well.number task f well.builtin well.result well.options before lines ahead d well.passes well.calls marked labels
      (subst (λ (turn : Turn). Meets graph s u lines (behind ahead turn)) (turn_found (reading.acting w) (t, task) (λ a. returns graph a.0 (control_at h) w) (acting_task w t task f acts)) meets)
      (subst (λ (r : Rest). moves.ReturnsBy p t (call_at r) h d) well.calls.calls passes))
  by_passing (passing.Ended words) d may meets passes =
      by_kind words d (kind_of task) may.well
      (subst (λ (turn : Turn). Meets graph s u lines (behind ahead turn))
      (turn_found (reading.acting w) (t, task) (λ a. turns.given (func_of a.1.callee) (λ f. func_ended graph a.0 a.1 f (kind_of a.1) words w)) (acting_task w t task f acts)
      ∙ turn_found (func_of task.callee) f (λ f. func_ended graph t task f (kind_of task) words w) acts.runs) meets)
      (subst (λ (kind : Kind). KindEnds p t words kind h d) kept_task.alike.lifted
      (subst (λ (q : Done Kind). Behind q (λ kind k e. KindEnds p t words kind k e) d) (kind_is t h kept_task.slot kept_task.is) passes))
  by_passing (passing.Elements copying) d may meets passes =
      turn_on graph values s h stacks u w t before lines ahead labels (copies graph t copying w)
      (subst (λ (turn : Turn). Meets graph s u lines (behind ahead turn)) (turn_found (reading.acting w) (t, task) (λ a. copies graph a.0 copying w) (acting_task w t task f acts)) meets) d
      (copies_transfer p values s h stacks w t copying d may.well marked passes)

pub passes_lead : PassesLead
passes_lead p values s h stacks u w t task f x before lines ahead d may marked labels meets passes =
    by_passing p values s h stacks u w t task f before lines ahead may.acts marked labels x d may meets
    (subst (λ (q : Done ℕ). Behind q (λ n k e. PassesFor p n x k e) d) (acting_is p.graph.now values s h stacks w t may.acts.first marked.stands) passes)
