-- Moves of tasks as steps: what follows a part is heard, where an event is to come, and the stacks follow.
use Rattle.std.proofs.Common.{◌≡◌, ◌⊎◌, inl, inr, ◌-◌, nat_lt, if◌then◌else◌, Bool, true, false, ℕ, List, [], length, refl, sym, ap, ◌∙◌, subst, is_some, Option, Some}
use Rattle.std.specs.List.{slice_get}
use Rattle.wasm_store.specs.Stack.{Stack}
use Rattle.syntax_trees.specs.declared.types.ValType.{ValType}
use Rattle.comp_graph.specs.Graph.{Graph}
use Rattle.script_reader.specs.Script.{Script}
use Rattle.trace_labels.specs.declared.label.Label.{Label}
use Rattle.trace_labels.specs.declared.label.Label.TheVariants as line
use Rattle.programs.specs.declared.program.Program.{Program}
use Rattle.world_parts.specs.declared.parts.Flow.{Flow}
use Rattle.world_parts.specs.declared.parts.Flow.TheVariants as flow
use Rattle.world_parts.specs.declared.parts.Receiver as kept_receiver
use Rattle.world_parts.specs.declared.parts.Receiver.TheVariants as receiver
use Rattle.world_parts.specs.declared.parts.Rest.{Rest}
use Rattle.world_parts.specs.declared.parts.Rest.TheVariants as rest
use Rattle.world_parts.specs.Held as kept
use Rattle.world_parts.specs.Held.{Held, Done, Gives, Traps, Spent, after, given}
use Rattle.world_parts.specs.Events.{delivers, polls, received_none, received_cancel}
use Rattle.world_parts.specs.Feed.{acting, told, at_rest, spent}
use Rattle.world_parts.specs.Slots.{instance_of}
use Rattle.world_parts.specs.Turning.{goes}
use Rattle.world_stacks.specs.Views.{PileView}
use Rattle.replies.specs.Seen.{seen}
use Rattle.value_parts.specs.declared.to_pass.Passing.{Passing}
use Rattle.value_parts.specs.declared.to_pass.Passing.TheVariants as passing
use Rattle.machine_runs.specs.declared.stepping.Step.{Step}
use Rattle.machine_runs.specs.declared.stepping.Step.TheVariants as step
use Rattle.machine_runs.specs.Following.{with_piles, heard, stacked, followed}
use Rattle.machine_runs.specs.Moving.{woken, moved_on, moves}
use Rattle.abi_machine.specs.Control.{Receiver, InCallback, Control, Doomed}
use Rattle.abi_machine.specs.Counting.{ready}
use Rattle.abi_machine.specs.Delivering.{set_polled}
use Rattle.abi_machine.specs.Edits.{with_control}
use Rattle.abi_machine.specs.Next.{next, next_by}
use Rattle.abi_machine.specs.Scheduling.{going_turn}
use Rattle.abi_machine.specs.Turn.{Turn, behind}
use Rattle.abi_machine.specs.World.{Task, World}
use Rattle.standing.specs.Stands.{Stands}
use Rattle.standing.specs.Agreeing.{Agrees, Receives, control_at}
use Rattle.standing.specs.Agreeing as turn_of
use Rattle.standing.specs.Callings.{MayGrow}
use Rattle.standing.specs.Events.{Behind, AgreesOn}
use Rattle.standing.specs.Hearing.{ComesTo}
use Rattle.standing.specs.Waits.{HasNews}
use Rattle.standing.proofs.Changes.{acting_is_alike}
use Rattle.standing.proofs.Going.{after_after, acting_goes_on}
use Rattle.standing.proofs.Hearing.{delivery_follows, poll_follows, nothing_follows, cancel_follows}
use Rattle.standing.proofs.News.{ready_is_alike}
use Rattle.standing.proofs.Reaching.{goes_none}
use Rattle.standing.proofs.Seen.{graph_is_seen}
use Rattle.standing.proofs.Steps.{behind_none}
use Rattle.run_laws.specs.Points.{stacks_at, StepAgrees}
use Rattle.run_laws.specs.Runs.{RuleAgrees}
use Rattle.run_laws.specs.Steps.{IsReached, HearsWell, NewsWell, HearsBy, TaskWell}
use Rattle.run_laws.proofs.Costs.{Costs}
use Rattle.run_laws.proofs.Flows.{AtTurns, turns_on, trap_so, stacked_so}
use Rattle.run_laws.proofs.Freed.{freed}
use Rattle.run_laws.proofs.Stacking.{step_behind, go_on}
use Rattle.run_laws.proofs.Turned.{rest_step, piles_grow}
use Rattle.run_laws.proofs.Woken.{Wakes, IsMove, wakes, woken_stays}
use Rattle.run_laws.proofs.plain.Events.{delivers_plain, polls_plain, received_none_plain, received_cancel_plain}
use Rattle.run_laws.proofs.plain.Only.{PlainBy, plain_after}
use Rattle.run_laws.proofs.stays.Events.{delivers_stays, polls_stays, received_none_stays, received_cancel_stays}
use Rattle.run_laws.proofs.stays.Feed.{acting_stays}
use Rattle.run_laws.proofs.stays.Same.{Same, FlowsBy, flows_after, flows_behind}
use Rattle.run_laws.proofs.stays.Slots.{instance_of_stays}

-- A step that agrees does so where a rule applies.
pub by_rule : (g : Graph) (values : List ValType) (s : Script) (ahead : List Label) (w : World) (d : Done (Step × List PileView)) → StepAgrees g values s ahead w d → RuleAgrees g values s ahead w d
by_rule g values s ahead w (Gives r k) a = a
by_rule g values s ahead w (Traps why k) a = a
by_rule g values s ahead w (Spent k) a = a
by_rule g values s ahead w kept.Stuck a = tt

-- What is heard, and what it leaves.
pub heard_plain : (g : Graph) (r : kept_receiver.Receiver) (set : ℕ) (h : Held) → PlainBy (heard (seen g) (flow.Delivers r set) h)
heard_plain g r set h =
    plain_after (acting h) (λ t k. after (instance_of t k) (λ at l. delivers (seen g) t at r set l))
    (λ t k. plain_after (instance_of t k) (λ at l. delivers (seen g) t at r set l) (λ at l. delivers_plain (seen g) t at r set l))

pub polled_plain : (g : Graph) (r : kept_receiver.Receiver) (set : ℕ) (h : Held) → PlainBy (heard (seen g) (flow.Polls r set) h)
polled_plain g r set h =
    plain_after (acting h) (λ t k. after (instance_of t k) (λ at l. polls (seen g) t at r set l))
    (λ t k. plain_after (instance_of t k) (λ at l. polls (seen g) t at r set l) (λ at l. polls_plain (seen g) t at r set l))

pub none_plain : (g : Graph) (r : kept_receiver.Receiver) (h : Held) → PlainBy (heard (seen g) (flow.HearsNone r) h)
none_plain g r h = plain_after (acting h) (λ t k. received_none (seen g) t r k) (λ t k. received_none_plain (seen g) t r k)

pub cancel_plain : (g : Graph) (r : kept_receiver.Receiver) (h : Held) → PlainBy (heard (seen g) (flow.HearsCancel r) h)
cancel_plain g r h = plain_after (acting h) (λ t k. received_cancel (seen g) t r k) (λ t k. received_cancel_plain (seen g) t r k)

heard_same : (g : Graph) (f : Flow) (h k : Held) → (f ≡ flow.Rests → ⊥) → (f ≡ flow.Rests) ⊎ Same h k → FlowsBy k (heard (seen g) f k) → FlowsBy h (heard (seen g) f k)
heard_same g f h k apart stays more = elim stays [
  | inl rests ↦ absurd (apart rests)
  | inr same ↦ flows_behind h k (heard (seen g) f k) same more
]

pub heard_stays : (g : Graph) (f : Flow) (h k : Held) → (f ≡ flow.Rests) ⊎ Same h k → FlowsBy h (heard (seen g) f k)
heard_stays g (flow.Now words) h k stays = stays
heard_stays g flow.Rests h k stays = stays
heard_stays g (flow.Starts ref words) h k stays = stays
heard_stays g flow.Enters h k stays = stays
heard_stays g flow.Returns h k stays = stays
heard_stays g (flow.Copies copying) h k stays = stays
heard_stays g (flow.Delivers r set) h k stays =
    heard_same g (flow.Delivers r set) h k (λ is. let x : ⊥ = cc in x) stays
    (flows_after k (acting k) (λ t l. after (instance_of t l) (λ at m. delivers (seen g) t at r set m)) (acting_stays k)
    (λ t l. flows_after l (instance_of t l) (λ at m. delivers (seen g) t at r set m) (instance_of_stays t l) (λ at m. delivers_stays (seen g) t at r set m)))
heard_stays g (flow.Polls r set) h k stays =
    heard_same g (flow.Polls r set) h k (λ is. let x : ⊥ = cc in x) stays
    (flows_after k (acting k) (λ t l. after (instance_of t l) (λ at m. polls (seen g) t at r set m)) (acting_stays k)
    (λ t l. flows_after l (instance_of t l) (λ at m. polls (seen g) t at r set m) (instance_of_stays t l) (λ at m. polls_stays (seen g) t at r set m)))
heard_stays g (flow.HearsNone r) h k stays =
    heard_same g (flow.HearsNone r) h k (λ is. let x : ⊥ = cc in x) stays
    (flows_after k (acting k) (λ t l. received_none (seen g) t r l) (acting_stays k) (λ t l. received_none_stays (seen g) t r l))
heard_stays g (flow.HearsCancel r) h k stays =
    heard_same g (flow.HearsCancel r) h k (λ is. let x : ⊥ = cc in x) stays
    (flows_after k (acting k) (λ t l. received_cancel (seen g) t r l) (acting_stays k) (λ t l. received_cancel_stays (seen g) t r l))

-- A move, as it is put together.
pub moved_is : (g : Graph) (types : List (Option ℕ)) (r : Rest) (piles : List PileView) (h : Held) → IsMove r → moves g types r piles h ≡ after (woken g types r h) (λ f k. followed (seen g) f piles k)
unfolding moved_on
moved_is g types (rest.Instantiates number) piles h moves = absurd moves
moved_is g types rest.Free piles h moves = absurd moves
moved_is g types rest.Arrives piles h moves = refl
moved_is g types rest.Goes piles h moves = refl
moved_is g types rest.Resumes piles h moves = refl
moved_is g types rest.Back piles h moves = refl
moved_is g types rest.Runs piles h moves = absurd moves
moved_is g types (rest.Calls number) piles h moves = refl
moved_is g types rest.Leaves piles h moves = refl

kept_labels : Done (Unit {0}) → List Label
kept_labels (Gives x k) = k.labels
kept_labels (Traps why k) = k.labels
kept_labels (Spent k) = k.labels
kept_labels kept.Stuck = []

module _ (p : Program) (values : List ValType) (s : Script) (h : Held) (piles : List PileView) (w z : World) (t : ℕ) (task : Task) (first : slice_get z.chain 0 ≡ Some t)
    (there : slice_get z.tasks t ≡ Some task) (reached : IsReached p.graph.now s w) (st : Stands p.graph.now values s h (stacks_at piles) z) where
  abbrev g : Graph
  g = p.graph.now

  abbrev stacks : List (List Stack)
  stacks = stacks_at piles

  abbrev Agreed : Done (Step × List PileView) → Type 0
  Agreed d = RuleAgrees g values s [] w d

  abbrev pub Heard : List (List Stack) → Done Flow → Type 0
  Heard now d = (AgreesOn g values s t [] now d (next g s w) × PlainBy d) ⊎ Agrees g values s t [] now d (next g s w)

  -- Where an event is to come.
  comes : (r : kept_receiver.Receiver) (to : Receiver) (k : Held) (now : List (List Stack)) (v : World) (lines : List Label) (x : HearsWell g k v t r) → Receives r to → Stands g values s k now v → k.labels ≡ lines
      → ComesTo g values s (seen g) [] lines now k v t x.func r to
  comes r to k now v lines x receives stands told = record {
    stands = stands;
    told = told;
    first = x.acts.first;
    who = record {
      sees = (graph_is_seen g).0;
      callbacks = (graph_is_seen g).1;
      task = x.task;
      there = x.acts.there;
      runs = x.acts.runs;
      receives = receives;
      place = x.place;
    };
  }

  news : (r : kept_receiver.Receiver) (set : ℕ) (k : Held) (now : List (List Stack)) (v : World) (x : HearsWell g k v t r) → NewsWell g k v x.func.instance → Stands g values s k now v
      → HasNews values (seen g) k v x.func.instance set
  news r set k now v x n stands = record {
    inside = x.acts.inside;
    ready = ready_is_alike g values s (seen g) k now v x.func.instance set (graph_is_seen g).0 x.acts.inside n.ends n.who n.copies stands;
    ends = n.ends;
    calls = n.calls;
  }

  polls_so : (r : kept_receiver.Receiver) (set : ℕ) (k : Held) (now : List (List Stack)) (v : World) (lines : List Label) → r ≡ receiver.InCallback → (x : HearsWell g k v t r) → NewsWell g k v x.func.instance
      → Stands g values s k now v → k.labels ≡ lines → next g s w ≡ behind lines (turn_of.hears t v (λ f. set_polled g t f set (ready v f.instance set) v))
      → AgreesOn g values s t [] now (heard (seen g) (flow.Polls r set) k) (next g s w)
  polls_so (receiver.InWait canon place) set k now v lines is x n stands told turn = absurd (let y : ⊥ = cc in y)
  polls_so receiver.InCallback set k now v lines is x n stands told turn =
      poll_follows g values s (seen g) [] lines now k v t set x.func (next g s w) (comes receiver.InCallback InCallback k now v lines x tt stands told) (news receiver.InCallback set k now v x n stands) turn

  pub heard_so : (f : Flow) (k : Held) (now : List (List Stack)) → (a : Agrees g values s t [] now (Gives f k) (next g s w)) → HearsBy g k a.world t f → Heard now (heard (seen g) f k)
  heard_so (flow.Now words) k now a hears = inr a
  heard_so flow.Rests k now a hears = inr a
  heard_so (flow.Starts ref words) k now a hears = inr a
  heard_so flow.Enters k now a hears = inr a
  heard_so flow.Returns k now a hears = inr a
  heard_so (flow.Copies copying) k now a hears = inr a
  heard_so (flow.Delivers r set) k now a hears =
      inl (
        delivery_follows g values s (seen g) [] a.lines now k a.world t set hears.0.func r a.ends.0 (next g s w) (comes r a.ends.0 k now a.world a.lines hears.0 a.ends.1 a.stands a.told)
            (news r set k now a.world hears.0 hears.1 a.stands) a.ends.2,
        heard_plain g r set k,
      )
  heard_so (flow.Polls r set) k now a hears = inl (polls_so r set k now a.world a.lines a.ends.0 hears.0 hears.1 a.stands a.told a.ends.1, polled_plain g r set k)
  heard_so (flow.HearsNone r) k now a hears =
      inl (
        nothing_follows g values s (seen g) [] a.lines now k a.world t hears.func r a.ends.0 (next g s w) (comes r a.ends.0 k now a.world a.lines hears a.ends.1 a.stands a.told) a.ends.2,
        none_plain g r k,
      )
  heard_so (flow.HearsCancel r) k now a hears =
      inl (
        cancel_follows g values s (seen g) [] a.lines now k a.world t hears.0.func r a.ends.0 hears.0.task (next g s w) (comes r a.ends.0 k now a.world a.lines hears.0 a.ends.1 a.stands a.told)
            hears.0.acts.there hears.1 a.ends.2,
        cancel_plain g r k,
      )

  -- It agrees behind steps.
  record AtDone (d : Done Flow) (now : List (List Stack)) : Type 0 where
    pub turns : AtTurns g s w (λ turn. Agrees g values s t [] now d turn)
    pub at_once : PlainBy d ⊎ (turns.first ≡ [])

  at_done : (d : Done Flow) (now : List (List Stack)) → Heard now d → AtDone d now
  at_done d now heard = elim heard [
    | inl on ↦
        record {
          turns = turns_on g s w (λ turn. Agrees g values s t [] now d turn) on.0.0 [] w (goes_none g s w)
              (subst (λ (turn : Turn). Behind g s (λ u. Agrees g values s t [] now d u) on.0.0 turn) (sym (behind_none (next g s w))) on.0.1);
          at_once = inl on.1;
        }
    | inr a ↦
        record {
          turns = record { first = []; mid = w; goes = goes_none g s w; holds = subst (λ (turn : Turn). Agrees g values s t [] now d turn) (sym (behind_none (next g s w))) a };
          at_once = inr refl;
        }
  ]

  last_acts : slice_get h.chain (length h.chain - 1) ≡ Some t
  last_acts = acting_is_alike g values s h stacks z st ∙ first

  done_so : (d : Done Flow) (now : List (List Stack)) → MayGrow stacks now → FlowsBy h d → AtDone d now → Agreed (after (after d (λ e l. stacked e piles l)) (go_on g values s t [] w piles))
  done_so (Gives e l) now grow stays a =
      stacked_so p values s h piles w t [] z st last_acts (ap is_some there) e l now grow stays
      (record { first = a.turns.first; mid = a.turns.mid; goes = a.turns.goes; agrees = a.turns.holds; at_once = a.at_once })
  done_so (Traps why l) now grow stays a =
      let x = a.turns.holds in
      trap_so p values s h piles w t [] l now x.world (with_control (Doomed t why) x.world) x.lines why reached
      (step_behind g s w a.turns.mid (with_control (Doomed t why) x.world) a.turns.first x.lines (next g s a.turns.mid) refl a.turns.goes x.ends) refl refl x.stands x.told
  done_so (Spent l) now grow stays a = absurd stays
  done_so kept.Stuck now grow stays a = tt

  -- The first part.
  pub woken_so : (d : Done Flow) → Wakes g values s t [] stacks d (next g s w) → FlowsBy h d
      → ((what : Flow) (k : Held) (now : List (List Stack)) (v : World) → d ≡ Gives what k → Stands g values s k now v → HearsBy g k v t what)
      → Agreed (after d (λ f k. after (followed (seen g) f piles k) (go_on g values s t [] w piles)))
  unfolding followed
  woken_so (Gives f k) wakes stays hears = elim wakes.2 [
    | inl on ↦ plain_so f k wakes.0 wakes.1 stays on.0 on.1
    | inr a ↦
        done_so (heard (seen g) f k) wakes.0 wakes.1 (heard_stays g f h k stays) (at_done (heard (seen g) f k) wakes.0 (heard_so f k wakes.0 a (hears f k wakes.0 a.world refl a.stands)))
  ]
    where
      plain_so : (f : Flow) (k : Held) (now : List (List Stack)) → MayGrow stacks now → FlowsBy h (Gives f k) → AgreesOn g values s t [] now (Gives f k) (next g s w) → PlainBy (Gives f k)
          → Agreed (after (after (heard (seen g) f k) (λ e l. stacked e piles l)) (go_on g values s t [] w piles))
      plain_so (flow.Now words) k now grow stays on plain = done_so (Gives (flow.Now words) k) now grow stays (at_done (Gives (flow.Now words) k) now (inl (on, plain)))
      plain_so flow.Rests k now grow stays on plain = done_so (Gives flow.Rests k) now grow stays (at_done (Gives flow.Rests k) now (inl (on, plain)))
      plain_so (flow.Starts ref words) k now grow stays on plain = done_so (Gives (flow.Starts ref words) k) now grow stays (at_done (Gives (flow.Starts ref words) k) now (inl (on, plain)))
      plain_so flow.Enters k now grow stays on plain = absurd plain
      plain_so flow.Returns k now grow stays on plain = absurd plain
      plain_so (flow.Copies copying) k now grow stays on plain = absurd plain
      plain_so (flow.Delivers r set) k now grow stays on plain = absurd plain
      plain_so (flow.Polls r set) k now grow stays on plain = absurd plain
      plain_so (flow.HearsNone r) k now grow stays on plain = absurd plain
      plain_so (flow.HearsCancel r) k now grow stays on plain = absurd plain
  woken_so (Traps why k) wakes stays hears =
      done_so (Traps why k) wakes.0 wakes.1 stays
      (at_done (Traps why k) wakes.0
      (elim wakes.2 [
        | inl on ↦ inl on
        | inr a ↦ inr a
      ]))
  woken_so (Spent k) wakes stays hears = absurd stays
  woken_so kept.Stuck wakes stays hears = tt

module _ (p : Program) (values : List ValType) (s : Script) (h : Held) (piles : List PileView) (w : World) (t : ℕ) (task : Task) (first : slice_get w.chain 0 ≡ Some t)
    (there : slice_get w.tasks t ≡ Some task) (reached : IsReached p.graph.now s w) (st : Stands p.graph.now values s h (stacks_at piles) w) where
  abbrev graph : Graph
  graph = p.graph.now

  abbrev all : List (List Stack)
  all = stacks_at piles

  abbrev Done_so : Done (Step × List PileView) → Type 0
  Done_so d = RuleAgrees graph values s [] w d

  -- A task goes on, which costs a unit.
  abbrev go_behind : ℕ → Unit {0} → Held → Done (Unit {0})
  go_behind n done l = after (told (line.Go n) l) (λ done m. Gives tt (at_rest rest.Resumes m))

  unit_costs : (b : Bool) (n : ℕ) → Costs h.labels (after (let d : Done (Unit {0}) = if b then Gives tt (record h { left = h.left - 1 }) else Spent (record h { left = h.left - 1 }) in d) (go_behind n))
  unfolding kept_labels
  unit_costs true n = record { spent = λ k e. absurd (let x : ⊥ = cc in x); no_trap = λ why k e. let x : ⊥ = cc in x }
  unit_costs false n = record { spent = λ k e. ap kept_labels (sym e); no_trap = λ why k e. let x : ⊥ = cc in x }

  goes_costs : Costs h.labels (goes h)
  unfolding goes
  goes_costs =
      subst (λ (o : Option ℕ). Costs h.labels (after (given o (λ n. Gives n h)) (λ n k. after (spent k) (λ done l. after (told (line.Go n) l) (λ done m. Gives tt (at_rest rest.Resumes m))))))
      (sym (acting_is_alike graph values s h all w st ∙ first)) (unit_costs (nat_lt 0 h.left) t)

  goes_so : h.rest ≡ rest.Goes → w.control ≡ control_at h → h.labels ≡ [] → Done_so (after (woken graph p.ends.now rest.Goes h) (λ f k. after (followed (seen graph) f piles k) (go_on graph values s t [] w piles)))
  unfolding followed
  goes_so is control none =
      let turn : next graph s w ≡ going_turn s (freed w) =
      ap (λ (c : Control). next_by graph s (freed w) c) (control ∙ ap (λ (x : Rest). turn_of.control_of (turn_of.acting_words h) x) is) in
      let a : Agrees graph values s t h.labels all (after (goes h) (λ x k. Gives flow.Rests k)) (going_turn s (freed w)) = acting_goes_on graph values s h all (freed w) t task first there st in
      subst (λ (d : Done (Step × List PileView)). Done_so d)
      (sym (after_after (goes h) (λ done k. Gives flow.Rests k) (λ f k. after (followed (seen graph) f piles k) (go_on graph values s t [] w piles))))
      (by_rule graph values s [] w (after (goes h) (λ x k. Gives (step.GoesOn passing.Nothing, with_piles (length k.tasks) piles) k))
      (rest_step graph values s t piles w w [] [] (goes h) (going_turn s (freed w)) (λ k. with_piles (length k.tasks) piles)
      (all, inl refl, subst (λ (ls : List Label). Agrees graph values s t ls all (after (goes h) (λ x k. Gives flow.Rests k)) (going_turn s (freed w))) none a) refl refl turn
      (subst (λ (ls : List Label). Costs ls (goes h)) none goes_costs) (λ k long. piles_grow piles all (length k.tasks) (inl refl) long)))

  -- Any of them.
  pub moves_so : (r : Rest) → IsMove r → h.rest ≡ r → w.control ≡ control_at h → h.labels ≡ [] → TaskWell p values h w t task r
      → ((what : Flow) (k : Held) (now : List (List Stack)) (v : World) → woken graph p.ends.now r h ≡ Gives what k → Stands graph values s k now v → HearsBy graph k v t what)
      → Done_so (after (moves graph p.ends.now r piles h) (go_on graph values s t [] w piles))
  moves_so r moves is control none well hears =
      subst (λ (d : Done (Step × List PileView)). Done_so d)
      (sym (ap (λ (d : Done (Passing × List PileView)). after d (go_on graph values s t [] w piles)) (moved_is graph p.ends.now r piles h moves)
      ∙ after_after (woken graph p.ends.now r h) (λ f k. followed (seen graph) f piles k) (go_on graph values s t [] w piles)))
      (by r moves is well hears)
    where
      other : (r : Rest) → IsMove r → (r ≡ rest.Goes → ⊥) → h.rest ≡ r → TaskWell p values h w t task r
          → ((what : Flow) (k : Held) (now : List (List Stack)) (v : World) → woken graph p.ends.now r h ≡ Gives what k → Stands graph values s k now v → HearsBy graph k v t what)
          → Done_so (after (woken graph p.ends.now r h) (λ f k. after (followed (seen graph) f piles k) (go_on graph values s t [] w piles)))
      other r moves apart is well hears =
          woken_so p values s h piles w w t task first there reached st (woken graph p.ends.now r h)
          (subst (λ (ls : List Label). Wakes graph values s t ls all (woken graph p.ends.now r h) (next graph s w)) none (wakes p values s h all w t task first there st r moves is control well))
          (woken_stays graph p.ends.now r h moves apart) hears

      by : (r : Rest) → IsMove r → h.rest ≡ r → TaskWell p values h w t task r
          → ((what : Flow) (k : Held) (now : List (List Stack)) (v : World) → woken graph p.ends.now r h ≡ Gives what k → Stands graph values s k now v → HearsBy graph k v t what)
          → Done_so (after (woken graph p.ends.now r h) (λ f k. after (followed (seen graph) f piles k) (go_on graph values s t [] w piles)))
      by (rest.Instantiates number) moves is well hears = absurd moves
      by rest.Free moves is well hears = absurd moves
      by rest.Arrives moves is well hears = other rest.Arrives moves (λ e. let x : ⊥ = cc in x) is well hears
      by rest.Goes moves is well hears = goes_so is control none
      by rest.Resumes moves is well hears = other rest.Resumes moves (λ e. let x : ⊥ = cc in x) is well hears
      by rest.Back moves is well hears = other rest.Back moves (λ e. let x : ⊥ = cc in x) is well hears
      by rest.Runs moves is well hears = absurd moves
      by (rest.Calls number) moves is well hears = other (rest.Calls number) moves (λ e. let x : ⊥ = cc in x) is well hears
      by rest.Leaves moves is well hears = other rest.Leaves moves (λ e. let x : ⊥ = cc in x) is well hears
