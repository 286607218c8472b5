-- Where a run goes beyond what is run: a step that is lost would be one at which the machine is stuck, which it never is; but where a stack does not go on.
use Rattle.std.proofs.Common.{◌≡◌, ◌⊎◌, inl, inr, ◌-◌, ℕ, Bool, true, false, nat_lt, if◌then◌else◌, List, [], ◌++◌, length, take, refl, sym, ap, ◌∙◌, subst, Option, Some, None}
use Rattle.wasm_store.specs.Stack.{Stack}
use Rattle.syntax_trees.specs.declared.types.ValType.{ValType}
use Rattle.entry_gate.specs.declared.kind.Kind.{Kind}
use Rattle.entry_gate.specs.declared.kind.Kind.TheVariants.{Sync, Callback, Stackful}
use Rattle.tasks.specs.declared.event.BlockedAt.{BlockedAt}
use Rattle.tasks.specs.declared.event.BlockedAt.TheVariants as blocked_at
use Rattle.tasks.specs.declared.event.TaskEvent.TheVariants as event
use Rattle.comp_graph.specs.Graph.{Graph, Lifted}
use Rattle.script_reader.specs.Script.{Script}
use Rattle.trace_labels.specs.declared.label.BlockReason.{BlockReason}
use Rattle.trace_labels.specs.declared.label.BlockReason.TheVariants as reason
use Rattle.trace_labels.specs.declared.label.Label.{Label}
use Rattle.trace_labels.specs.declared.label.Label.TheVariants as line
use Rattle.trace_labels.specs.declared.trap.TrapName.{TrapName}
use Rattle.programs.specs.declared.program.Program.{Program}
use Rattle.world_parts.specs.declared.parts.Flow.{Flow}
use Rattle.world_parts.specs.declared.parts.Flow.TheVariants as flow
use Rattle.world_parts.specs.declared.parts.Rest.{Rest}
use Rattle.world_parts.specs.declared.parts.Rest.TheVariants as rest
use Rattle.world_parts.specs.Calls.{blocked}
use Rattle.world_parts.specs.Feed.{acting, at_rest, left_chain, told, unchained, rest_behind}
use Rattle.world_parts.specs.Gates.{may_enter, gate_waited, gate_given_up}
use Rattle.world_parts.specs.Going.{arrives, leaves}
use Rattle.world_parts.specs.Held as kept
use Rattle.world_parts.specs.Held.{Held, Done, Gives, Traps, Spent, after}
use Rattle.world_parts.specs.Slots.{closed, happens, instance_of, kind_of, parked}
use Rattle.world_parts.specs.Turning.{goes}
use Rattle.world_stacks.specs.Instantiating.{instantiates}
use Rattle.world_stacks.specs.Views.{PileView}
use Rattle.replies.specs.Seen.{seen}
use Rattle.value_parts.specs.declared.to_pass.Passing.{Passing}
use Rattle.value_parts.specs.declared.to_pass.Passing.TheVariants as passing
use Rattle.value_parts.specs.Coming as coming
use Rattle.value_moves.specs.Passing.{async_ended, FuncEnds, KindEnds, Passes, PassesFor}
use Rattle.machine_runs.specs.declared.stepping.Step.{Step}
use Rattle.machine_runs.specs.declared.stepping.Step.TheVariants as step
use Rattle.machine_runs.specs.Beyond.{IsLost}
use Rattle.machine_runs.specs.Following.{heard, stacked, followed}
use Rattle.machine_runs.specs.Moving.{woken, instantiated, moves, acting_of}
use Rattle.machine_runs.specs.Stepping.{PassSteps, RestSteps, Steps, follow_steps, move_steps}
use Rattle.machine_runs.specs.Worlds.{Point, StepsTo}
use Rattle.abi_machine.specs.Control.{Free, Instantiates}
use Rattle.abi_machine.specs.CoreSteps.{func_ended}
use Rattle.abi_machine.specs.Next.{next}
use Rattle.abi_machine.specs.Reading as reading
use Rattle.abi_machine.specs.Run.{Reaches}
use Rattle.abi_machine.specs.Turn as turns
use Rattle.abi_machine.specs.Turn.{Turn, behind}
use Rattle.abi_machine.specs.World.{Task, World, first_world}
use Rattle.abi_machine.specs.sound.GoingOn.{HasNext}
use Rattle.abi_machine.specs.sound.Acting.{IsOrdered}
use Rattle.abi_machine.specs.sound.TypedStacks.{IsTyped}
use Rattle.abi_machine.proofs.sound.Alone.{first_runs_alone}
use Rattle.abi_machine.proofs.sound.Ordered.{first_ordered}
use Rattle.reach_laws.specs.Going.{NoneIsStuck}
use Rattle.reach_laws.specs.Reached.{StartsTyped}
use Rattle.standing.specs.Instantiates.{InitActs}
use Rattle.standing.specs.Agreeing.{Agrees, acting_words, control_of, control_at}
use Rattle.standing.specs.Events.{Behind, AgreesOn}
use Rattle.standing.specs.Moves.{Acts}
use Rattle.standing.specs.Stands.{Stands}
use Rattle.standing.proofs.Changes.{acting_is_alike}
use Rattle.standing.proofs.Reaching.{goes_none}
use Rattle.standing.proofs.Steps.{IsKept, acting_is, acting_task, behind_none, is_kept, kind_is, turn_found}
use Rattle.run_laws.specs.AsyncEnds.{EndsAsync, IsAsync}
use Rattle.run_laws.specs.Beyond.{EndsSync, IsOfStack, StackIsLost, RestMayLose, MayLose, TrapsAreOfTasks, StepsAreLostThere, RunsGoBeyondThere}
use Rattle.run_laws.specs.Carried.{IsCarried, IsFit}
use Rattle.run_laws.specs.Passings.{EndsWell}
use Rattle.run_laws.specs.Points.{AtRest, InTurn, pending, stacks_at, StepAgrees}
use Rattle.run_laws.specs.Runs.{RuleAgrees}
use Rattle.run_laws.specs.Steps.{IsReached, TaskWell, MayMove, PassesThere, RestWell}
use Rattle.run_laws.proofs.AsyncEnds.{async_function_ends}
use Rattle.run_laws.proofs.Chosen.{turns_agree}
use Rattle.run_laws.proofs.Flows.{AtTurns, turns_on}
use Rattle.run_laws.proofs.Moves.{heard_plain, polled_plain, none_plain, cancel_plain, moved_is, heard_so}
use Rattle.run_laws.proofs.LostMakes.{Applies, applies_after, gives_applies, instantiation_applies, starting_bare, starting_typed}
use Rattle.run_laws.proofs.LostRuns.{run_lost}
use Rattle.run_laws.proofs.PassedFlows.{GivesBy, IsRest, ended_rests}
use Rattle.run_laws.proofs.Steps.{ordered_from, step_is_made}
use Rattle.run_laws.proofs.Whole.{reaches_on}
use Rattle.run_laws.proofs.Woken.{IsMove, Wakes, wakes}
use Rattle.run_laws.proofs.onward.LedBy.{By, by_after}
use Rattle.run_laws.proofs.onward.Whole.{IsGiven, carried_at, carried_may_step}
use Rattle.run_laws.proofs.plain.Only.{IsPlain, PlainBy}

-- Where no rule applies to a part behind a part, none does to one of the two.
pub record LostBehind {A B : Type 0} (d : Done A) (f : A → Held → Done B) : Type 0 where
  pub what : A
  pub mid : Held
  pub gives : d ≡ Gives what mid
  pub lost : f what mid ≡ kept.Stuck

pub lost_after : {A B : Type 0} (d : Done A) (f : A → Held → Done B) → after d f ≡ kept.Stuck → (d ≡ kept.Stuck) ⊎ LostBehind d f
lost_after (Gives x k) f e = inr (record { what = x; mid = k; gives = refl; lost = e })
lost_after (Traps why k) f e = absurd (let w : ⊥ = cc in w)
lost_after (Spent k) f e = absurd (let w : ⊥ = cc in w)
lost_after kept.Stuck f e = inl refl

-- What a move of a task that is new, is woken by its cancellation or exits comes to is a rest, or that it enters.
abbrev IsCalm : Flow → Held → Type 0
IsCalm (flow.Now words) k = ⊥
IsCalm flow.Rests k = Unit {0}
IsCalm (flow.Starts ref words) k = ⊥
IsCalm flow.Enters k = Unit {0}
IsCalm flow.Returns k = ⊥
IsCalm (flow.Copies copying) k = ⊥
IsCalm (flow.Delivers r set) k = ⊥
IsCalm (flow.Polls r set) k = ⊥
IsCalm (flow.HearsNone r) k = ⊥
IsCalm (flow.HearsCancel r) k = ⊥

left_by : (b : Bool) (x : Held) → By IsCalm (let d : Done Flow = if b then Gives flow.Rests x else kept.Stuck in d)
left_by true x = tt
left_by false x = tt

left_calm : (h : Held) → By IsCalm (left_chain h)
left_calm h = left_by (nat_lt 0 (length h.chain)) (at_rest (rest_behind (take (length h.chain - 1) h.chain)) (unchained h))

blocked_calm : (t : ℕ) (why : BlockedAt) (flag : Bool) (r : BlockReason) (h : Held) → By IsCalm (blocked t why flag r h)
unfolding blocked
blocked_calm t why flag r h =
    by_after IsCalm (happens t (event.Block why flag) h) (λ done k. after (told (line.Block t r) k) (λ done l. left_chain l))
    (λ done k e. by_after IsCalm (told (line.Block t r) k) (λ done l. left_chain l) (λ done l f. left_calm l))

enters_or : (b : Bool) (n : Held) (d : Done Flow) → By IsCalm d → By IsCalm (if b then Gives flow.Enters n else d)
enters_or true n d calm = tt
enters_or false n d calm = calm

arrives_calm : (h : Held) → By IsCalm (arrives h)
unfolding arrives
arrives_calm h =
    let waits : ℕ → ℕ → Kind → Held → Done Flow = λ t at kind n. after (gate_waited at n) (λ done o. after (parked t kind o) (λ done p. blocked t blocked_at.Entry false reason.Entry p)) in
    by_after IsCalm (acting h)
    (λ t k. after (instance_of t k) (λ at l. after (kind_of t l) (λ kind m. after (may_enter at kind true m) (λ may n. if may then Gives flow.Enters n else waits t at kind n))))
    (λ t k a.
    by_after IsCalm (instance_of t k) (λ at l. after (kind_of t l) (λ kind m. after (may_enter at kind true m) (λ may n. if may then Gives flow.Enters n else waits t at kind n)))
    (λ at l b.
    by_after IsCalm (kind_of t l) (λ kind m. after (may_enter at kind true m) (λ may n. if may then Gives flow.Enters n else waits t at kind n))
    (λ kind m c.
    by_after IsCalm (may_enter at kind true m) (λ may n. if may then Gives flow.Enters n else waits t at kind n)
    (λ may n d.
    enters_or may n (waits t at kind n)
    (by_after IsCalm (gate_waited at n) (λ done o. after (parked t kind o) (λ done p. blocked t blocked_at.Entry false reason.Entry p))
    (λ done o e. by_after IsCalm (parked t kind o) (λ done p. blocked t blocked_at.Entry false reason.Entry p) (λ done p f. blocked_calm t blocked_at.Entry false reason.Entry p)))))))

leaves_calm : (h : Held) → By IsCalm (leaves h)
unfolding leaves
leaves_calm h =
    let out : ℕ → Held → Done Flow = λ t n. after (closed t n) (λ done o. after (told (line.Exit t) o) (λ done p. left_chain p)) in
    by_after IsCalm (acting h) (λ t k. after (instance_of t k) (λ at l. after (happens t event.Exit l) (λ done m. after (gate_given_up at t m) (λ done n. out t n))))
    (λ t k a.
    by_after IsCalm (instance_of t k) (λ at l. after (happens t event.Exit l) (λ done m. after (gate_given_up at t m) (λ done n. out t n)))
    (λ at l b.
    by_after IsCalm (happens t event.Exit l) (λ done m. after (gate_given_up at t m) (λ done n. out t n))
    (λ done m c.
    by_after IsCalm (gate_given_up at t m) (λ done n. out t n)
    (λ done n d.
    by_after IsCalm (closed t n) (λ done o. after (told (line.Exit t) o) (λ done p. left_chain p))
    (λ done o e. by_after IsCalm (told (line.Exit t) o) (λ done p. left_chain p) (λ done p f. left_calm p))))))

goes_calm : (h : Held) → By IsCalm (after (goes h) (λ done k. Gives flow.Rests k))
goes_calm h = by_after IsCalm (goes h) (λ done k. Gives flow.Rests k) (λ done k e. tt)

-- Words, a rest and the like are all that comes behind an event.
rest_is : (h k : Held) (what : Flow) → (let d : Done Flow = Gives flow.Rests h in d) ≡ Gives what k → flow.Rests ≡ what
rest_is h k what e = cc

enters_is : (h k : Held) (what : Flow) → (let d : Done Flow = Gives flow.Enters h in d) ≡ Gives what k → flow.Enters ≡ what
enters_is h k what e = cc

calm_is_none : (g : Graph) (x what : Flow) (h k : Held) → IsCalm x h → heard (seen g) x h ≡ Gives what k → IsOfStack what → ⊥
calm_is_none g (flow.Now words) what h k calm hears of = calm
calm_is_none g flow.Rests what h k calm hears of = subst IsOfStack (sym (rest_is h k what hears)) of
calm_is_none g (flow.Starts ref words) what h k calm hears of = calm
calm_is_none g flow.Enters what h k calm hears of = subst IsOfStack (sym (enters_is h k what hears)) of
calm_is_none g flow.Returns what h k calm hears of = calm
calm_is_none g (flow.Copies copying) what h k calm hears of = calm
calm_is_none g (flow.Delivers r set) what h k calm hears of = calm
calm_is_none g (flow.Polls r set) what h k calm hears of = calm
calm_is_none g (flow.HearsNone r) what h k calm hears of = calm
calm_is_none g (flow.HearsCancel r) what h k calm hears of = calm

-- No event is to come behind one.
abbrev IsNoEvent : Flow → Held → Type 0
IsNoEvent (flow.Now words) k = Unit {0}
IsNoEvent flow.Rests k = Unit {0}
IsNoEvent (flow.Starts ref words) k = Unit {0}
IsNoEvent flow.Enters k = Unit {0}
IsNoEvent flow.Returns k = Unit {0}
IsNoEvent (flow.Copies copying) k = Unit {0}
IsNoEvent (flow.Delivers r set) k = ⊥
IsNoEvent (flow.Polls r set) k = ⊥
IsNoEvent (flow.HearsNone r) k = ⊥
IsNoEvent (flow.HearsCancel r) k = ⊥

plain_is_none : (x : Flow) (k : Held) → IsPlain x → IsNoEvent x k
plain_is_none (flow.Now words) k plain = tt
plain_is_none flow.Rests k plain = tt
plain_is_none (flow.Starts ref words) k plain = tt
plain_is_none flow.Enters k plain = tt
plain_is_none flow.Returns k plain = tt
plain_is_none (flow.Copies copying) k plain = tt
plain_is_none (flow.Delivers r set) k plain = plain
plain_is_none (flow.Polls r set) k plain = plain
plain_is_none (flow.HearsNone r) k plain = plain
plain_is_none (flow.HearsCancel r) k plain = plain

plain_no_event : (d : Done Flow) → PlainBy d → By IsNoEvent d
plain_no_event (Gives x k) plain = plain_is_none x k plain
plain_no_event (Traps why k) plain = tt
plain_no_event (Spent k) plain = tt
plain_no_event kept.Stuck plain = tt

heard_no_event : (g : Graph) (x : Flow) (h : Held) → By IsNoEvent (heard (seen g) x h)
heard_no_event g (flow.Now words) h = tt
heard_no_event g flow.Rests h = tt
heard_no_event g (flow.Starts ref words) h = tt
heard_no_event g flow.Enters h = tt
heard_no_event g flow.Returns h = tt
heard_no_event g (flow.Copies copying) h = tt
heard_no_event g (flow.Delivers r set) h = plain_no_event (heard (seen g) (flow.Delivers r set) h) (heard_plain g r set h)
heard_no_event g (flow.Polls r set) h = plain_no_event (heard (seen g) (flow.Polls r set) h) (polled_plain g r set h)
heard_no_event g (flow.HearsNone r) h = plain_no_event (heard (seen g) (flow.HearsNone r) h) (none_plain g r h)
heard_no_event g (flow.HearsCancel r) h = plain_no_event (heard (seen g) (flow.HearsCancel r) h) (cancel_plain g r h)

lost_of_stack : (x : Flow) (k : Held) (piles : List PileView) → IsNoEvent x k → stacked x piles k ≡ kept.Stuck → IsOfStack x
lost_of_stack (flow.Now words) k piles none e = tt
lost_of_stack flow.Rests k piles none e = absurd (let w : ⊥ = cc in w)
lost_of_stack (flow.Starts ref words) k piles none e = tt
lost_of_stack flow.Enters k piles none e = absurd (let w : ⊥ = cc in w)
lost_of_stack flow.Returns k piles none e = absurd (let w : ⊥ = cc in w)
lost_of_stack (flow.Copies copying) k piles none e = absurd (let w : ⊥ = cc in w)
lost_of_stack (flow.Delivers r set) k piles none e = none
lost_of_stack (flow.Polls r set) k piles none e = none
lost_of_stack (flow.HearsNone r) k piles none e = none
lost_of_stack (flow.HearsCancel r) k piles none e = none

plain_is_heard : (g : Graph) (x : Flow) (k : Held) → IsPlain x → heard (seen g) x k ≡ kept.Stuck → ⊥
plain_is_heard g (flow.Now words) k plain e = (let w : ⊥ = cc in w)
plain_is_heard g flow.Rests k plain e = (let w : ⊥ = cc in w)
plain_is_heard g (flow.Starts ref words) k plain e = (let w : ⊥ = cc in w)
plain_is_heard g flow.Enters k plain e = plain
plain_is_heard g flow.Returns k plain e = plain
plain_is_heard g (flow.Copies copying) k plain e = plain
plain_is_heard g (flow.Delivers r set) k plain e = plain
plain_is_heard g (flow.Polls r set) k plain e = plain
plain_is_heard g (flow.HearsNone r) k plain e = plain
plain_is_heard g (flow.HearsCancel r) k plain e = plain

behind_stuck : (first : List Label) (turn : Turn) → behind first turn ≡ turns.Stuck → turn ≡ turns.Stuck
behind_stuck first (turns.Steps more v) e = absurd (let w : ⊥ = cc in w)
behind_stuck first (turns.Ends end) e = absurd (let w : ⊥ = cc in w)
behind_stuck first turns.Stuck e = refl

-- From a world that is reached the machine comes to none in which it is stuck.
module _ (p : Program) (fit : IsFit p) (starts : StartsTyped) (going : NoneIsStuck) where
  abbrev g : Graph
  g = p.graph.now

  abbrev s : Script
  s = p.script.now

  abbrev values : List ValType
  values = p.types.now

  never : (w v : World) → IsReached g s w → (steps : List (List Label)) → Reaches g s w steps v → next g s v ≡ turns.Stuck → ⊥
  never w v reached steps more stuck =
      subst HasNext stuck (going g s fit.fits.runs (reached.0 ++ steps) v (reaches_on g s (first_world g) w v reached.0 steps reached.1 more))

  abbrev Comes : World → ℕ → List (List Stack) → Done Flow → Type 0
  Comes w t now d = (AgreesOn g values s t [] now d (next g s w) × PlainBy d) ⊎ Agrees g values s t [] now d (next g s w)

  never_comes : (w : World) (t : ℕ) (now : List (List Stack)) (d : Done Flow) → IsReached g s w → d ≡ kept.Stuck → Comes w t now d → ⊥
  never_comes w t now d reached is comes = by (subst (λ (x : Done Flow). Comes w t now x) is comes)
    where
      on : AgreesOn g values s t [] now kept.Stuck (next g s w) → ⊥
      on a =
          let at : AtTurns g s w (λ turn. Agrees g values s t [] now kept.Stuck turn) =
          turns_on g s w (λ turn. Agrees g values s t [] now kept.Stuck turn) a.0 [] w (goes_none g s w)
          (subst (λ (turn : Turn). Behind g s (λ u. Agrees g values s t [] now kept.Stuck u) a.0 turn) (sym (behind_none (next g s w))) a.1) in
          never w at.mid reached at.goes.0 at.goes.1 (behind_stuck at.first (next g s at.mid) at.holds)

      by : Comes w t now kept.Stuck → ⊥
      by c = elim c [
        | inl a ↦ on a.0
        | inr a ↦ never w w reached [] refl a
      ]

  -- Where a task moves.
  module _ (h : Held) (piles : List PileView) (w : World) (reached : IsReached g s w) (none : h.labels ≡ []) (at : AtRest g values s h (stacks_at piles) [] w) where
    module _ (r : Rest) (is_move : IsMove r) (is : h.rest ≡ r) (m : MayMove p values s h w) where
      woke : Wakes g values s m.number [] (stacks_at piles) (woken g p.ends.now h.rest h) (next g s w)
      woke =
          subst (λ (x : Rest). Wakes g values s m.number [] (stacks_at piles) (woken g p.ends.now x h) (next g s w)) (sym is)
          (subst (λ (ls : List Label). Wakes g values s m.number ls (stacks_at piles) (woken g p.ends.now r h) (next g s w)) none
          (wakes p values s h (stacks_at piles) w m.number m.task m.first m.there at.stands r is_move is at.control (subst (λ (x : Rest). TaskWell p values h w m.number m.task x) is m.well)))

      hears_so : (x : Flow) (k : Held) → woken g p.ends.now h.rest h ≡ Gives x k → heard (seen g) x k ≡ kept.Stuck → ⊥
      hears_so x k gives lost = by (subst (λ (d : Done Flow). Wakes g values s m.number [] (stacks_at piles) d (next g s w)) gives woke)
        where
          by : Wakes g values s m.number [] (stacks_at piles) (Gives x k) (next g s w) → ⊥
          by c = elim c.2 [
            | inl on ↦ plain_is_heard g x k on.1 lost
            | inr a ↦
                never_comes w m.number c.0 (heard (seen g) x k) reached lost
                (heard_so p values s h piles w w m.number m.task m.first m.there reached at.stands x k c.0 a (m.hears x k c.0 a.world gives a.stands))
          ]

      stack_lost : (x : Flow) (k : Held) → woken g p.ends.now h.rest h ≡ Gives x k → followed (seen g) x piles k ≡ kept.Stuck → StackIsLost p piles h
      unfolding followed
      stack_lost x k gives lost = elim (lost_after (heard (seen g) x k) (λ e l. stacked e piles l) lost) [
        | inl stuck ↦ absurd (hears_so x k gives stuck)
        | inr b ↦
            record {
              first = x;
              mid = k;
              wakes = gives;
              what = b.what;
              later = b.mid;
              hears = b.gives;
              of_stack = lost_of_stack b.what b.mid piles (subst (λ (d : Done Flow). By IsNoEvent d) b.gives (heard_no_event g x k)) b.lost;
              lost = b.lost;
            }
      ]

      by_woken : moves g p.ends.now h.rest piles h ≡ kept.Stuck → StackIsLost p piles h
      by_woken lost =
          let one : after (woken g p.ends.now h.rest h) (λ f k. followed (seen g) f piles k) ≡ kept.Stuck = sym (moved_is g p.ends.now h.rest piles h (subst IsMove (sym is) is_move)) ∙ lost in
          elim (lost_after (woken g p.ends.now h.rest h) (λ f k. followed (seen g) f piles k) one) [
            | inl stuck ↦ absurd (never_comes w m.number woke.0 (woken g p.ends.now h.rest h) reached stuck woke.2)
            | inr b ↦ stack_lost b.what b.mid b.gives b.lost
          ]

      pub move_lost : (let d : Done (Step × List PileView) = kept.Stuck in d) ≡ move_steps p piles h → StackIsLost p piles h
      move_lost lost = elim (lost_after (moves g p.ends.now h.rest piles h) (λ r k. Gives (let y : Step × List PileView = (step.GoesOn r.0, r.1) in y) k) (sym lost)) [
        | inl stuck ↦ by_woken stuck
        | inr b ↦ absurd (let e : (let d : Done (Step × List PileView) = Gives (step.GoesOn b.what.0, b.what.1) b.mid in d) ≡ kept.Stuck = b.lost in let w : ⊥ = cc in w)
      ]

      calm_found : By IsCalm (woken g p.ends.now r h) → (let d : Done (Step × List PileView) = kept.Stuck in d) ≡ move_steps p piles h → ⊥
      calm_found calm lost =
          let x : StackIsLost p piles h = move_lost lost in
          calm_is_none g x.first x.what x.mid x.later
          (subst (λ (d : Done Flow). By IsCalm d) x.wakes (subst (λ (y : Rest). By IsCalm (woken g p.ends.now y h)) (sym is) calm)) x.hears x.of_stack

    -- Where task 0 instantiates.
    making_found : (n : ℕ) → h.rest ≡ rest.Instantiates n → MayMove p values s h w → (let d : Done (Step × List PileView) = kept.Stuck in d) ≡ move_steps p piles h → ⊥
    unfolding instantiated
    making_found n is m lost =
        let well : (m.number ≡ 0) × InitActs w m.task = subst (λ (x : Rest). TaskWell p values h w m.number m.task x) is m.well in
        let control : w.control ≡ Instantiates n = at.control ∙ ap (λ (r : Rest). control_of (acting_words h) r) is in
        let ordered : IsOrdered w = ordered_from g s reached.0 (first_world g) w (first_runs_alone g) (first_ordered g) reached.1 in
        let typed : IsTyped g w = starting_typed g w m.task n control well.1 (λ not. starts g s reached.0 w fit.fits.runs reached.1 not) in
        let applies : Applies (instantiates g n piles h) =
        instantiation_applies g values s h piles w m.task well.1 (starting_bare w m.task n ordered control well.1) at.stands fit.fits.runs.typed typed n control in
        applies_after (after (instantiates g n piles h) (λ r k. Gives (let y : Passing × List PileView = (passing.Nothing, r.1) in y) k)) (λ r k. Gives (let y : Step × List PileView = (step.GoesOn r.0, r.1) in y) k)
        (applies_after (instantiates g n piles h) (λ r k. Gives (let y : Passing × List PileView = (passing.Nothing, r.1) in y) k) applies (λ r k e. gives_applies (passing.Nothing, r.1) k))
        (λ r k e. gives_applies (step.GoesOn r.0, r.1) k)
        (sym (ap (λ (r : Rest). after (moves g p.ends.now r piles h) (λ r k. Gives (let y : Step × List PileView = (step.GoesOn r.0, r.1) in y) k)) is) ∙ sym lost)

    -- Where the run is at a rest.
    free : h.rest ≡ rest.Free → control_at h ≡ Free
    free e = ap (λ (r : Rest). control_of (acting_words h) r) e

    never_free : StepAgrees g values s [] w kept.Stuck → ⊥
    never_free a = never w a.1.world reached a.1.steps a.1.reached a.1.is_next

    pub rest_lost : (r : Rest) → h.rest ≡ r → RestWell p values s h piles w r → RestSteps p r piles h kept.Stuck → RestMayLose p piles h r
    rest_lost (rest.Instantiates number) is m lost = making_found number is m lost
    rest_lost rest.Free is m lost =
        never_free (subst (λ (d : Done (Step × List PileView)). StepAgrees g values s [] w d) (sym lost) (turns_agree g values s p h piles w m.named none (at.control ∙ free is) m.turns m.cancels at.stands))
    rest_lost rest.Arrives is m lost = calm_found rest.Arrives tt is m (arrives_calm h) lost
    rest_lost rest.Goes is m lost = calm_found rest.Goes tt is m (goes_calm h) lost
    rest_lost rest.Resumes is m lost = move_lost rest.Resumes tt is m lost
    rest_lost rest.Back is m lost = move_lost rest.Back tt is m lost
    rest_lost rest.Runs is m lost =
        run_lost g values s h piles w (ordered_from g s reached.0 (first_world g) w (first_runs_alone g) (first_ordered g) reached.1) (at.control ∙ ap (λ (r : Rest). control_of (acting_words h) r) is) at.stands lost
    rest_lost (rest.Calls number) is m lost = move_lost (rest.Calls number) tt is m lost
    rest_lost rest.Leaves is m lost = calm_found rest.Leaves tt is m (leaves_calm h) lost

  -- Where a core function or a callback has ended.
  module _ (h : Held) (piles : List PileView) (ahead : List Label) (w v : World) (t : ℕ) (task : Task) (f : Lifted) (words : List ℕ) (reached : IsReached g s w) (acts : Acts v t task f)
      (st : Stands g values s h (stacks_at piles) v) (turn : next g s w ≡ behind ahead (pending g h (passing.Ended words) v)) where
    kept_task : IsKept g values s h v t task f
    kept_task = is_kept g values s h (stacks_at piles) v t task f acts st

    turn_is : next g s w ≡ behind ahead (func_ended g t task f (reading.kind_of task) words v)
    turn_is =
        turn
        ∙ ap (λ (x : Turn). behind ahead x)
        (turn_found (reading.acting v) (t, task) (λ a. turns.given (reading.func_of a.1.callee) (λ f. func_ended g a.0 a.1 f (reading.kind_of a.1) words v)) (acting_task v t task f acts)
        ∙ turn_found (reading.func_of task.callee) f (λ f. func_ended g t task f (reading.kind_of task) words v) acts.runs)

    async_found : (kind : Kind) → IsAsync kind → reading.kind_of task ≡ kind → EndsAsync v t task f words → async_ended t kind words h ≡ kept.Stuck → ⊥
    async_found kind is_async is ends stuck =
        let a : Agrees g values s t h.labels (stacks_at piles) kept.Stuck (func_ended g t task f kind words v) =
        subst (λ (d : Done Flow). Agrees g values s t h.labels (stacks_at piles) d (func_ended g t task f kind words v)) stuck
        (async_function_ends g values s h (stacks_at piles) v t task f kind words is_async ends st) in
        never w w reached [] refl (turn_is ∙ ap (λ (k : Kind). behind ahead (func_ended g t task f k words v)) is ∙ ap (λ (x : Turn). behind ahead x) a)

    rests_follow : (k : Held) → follow_steps p flow.Rests piles k ≡ kept.Stuck → ⊥
    unfolding followed
    rests_follow k e = (let x : ⊥ = cc in x)

    first_found : (first : Done Flow) → GivesBy IsRest first → (first ≡ kept.Stuck → ⊥) → coming.Behind first (λ f k e. e ≡ follow_steps p f piles k) kept.Stuck → ⊥
    first_found (Gives x k) rests found e = rests_follow k (sym (e ∙ ap (λ (y : Flow). follow_steps p y piles k) rests))
    first_found (Traps why k) rests found e = (let x : ⊥ = cc in x)
    first_found (Spent k) rests found e = (let x : ⊥ = cc in x)
    first_found kept.Stuck rests found e = found refl

    passes_for : (first : Done Flow) → Passes p (passing.Ended words) h first → FuncEnds p t words h first
    passes_for first passes =
        subst (λ (q : Done ℕ). coming.Behind q (λ n k e. PassesFor p n (passing.Ended words) k e) first) (acting_is g values s h (stacks_at piles) v t acts.first st) passes

    ended_so : (kind : Kind) → reading.kind_of task ≡ kind → EndsWell p values h v t task f words kind → PassSteps Passes p (passing.Ended words) piles h kept.Stuck → EndsSync h
    ended_so kind is well steps =
        by kind is well
        (subst (λ (k : Kind). KindEnds p t words k h steps.0) (kept_task.alike.lifted ∙ is)
        (subst (λ (q : Done Kind). coming.Behind q (λ kind k e. KindEnds p t words kind k e) steps.0) (kind_is t h kept_task.slot kept_task.is) (passes_for steps.0 steps.1)))
      where
        by : (kind : Kind) → reading.kind_of task ≡ kind → EndsWell p values h v t task f words kind → KindEnds p t words kind h steps.0 → EndsSync h
        by Sync is well ends = (
          t,
          acting_is_alike g values s h (stacks_at piles) v st ∙ acts.first,
          kind_is t h kept_task.slot kept_task.is ∙ ap (λ (k : Kind). Gives k h) (kept_task.alike.lifted ∙ is),
        )
        by Callback is well ends =
            absurd (first_found steps.0 (ended_rests p t words h steps.0 (passes_for steps.0 steps.1)) (λ e. async_found Callback tt is well (sym ends ∙ e)) steps.2)
        by Stackful is well ends =
            absurd (first_found steps.0 (ended_rests p t words h steps.0 (passes_for steps.0 steps.1)) (λ e. async_found Stackful tt is well (sym ends ∙ e)) steps.2)

-- At each point that steps of a program reach.
module _ (laws : IsGiven) (p : Program) (fit : IsFit p) where
  agrees : (lines : List Label) (b : Point) (c : IsCarried p lines b) (d : Done (Step × List PileView)) → StepsTo Passes p b d
      → RuleAgrees p.graph.now p.types.now p.script.now c.come.ahead c.come.world d
  agrees lines b c d taken =
      step_is_made p p.types.now p.script.now b.held b.piles b.passing c.come.ahead c.come.world d (c.come.steps, c.come.reached) c.come.none c.come.point (carried_may_step laws p lines b fit c) taken

  trap_of_task : (lines : List Label) (b : Point) (why : TrapName) (k : Held) → IsCarried p lines b → StepsTo Passes p b (Traps why k) → (t : ℕ) × (acting_of k ≡ Some t)
  trap_of_task lines b why k c taken =
      let a : StepAgrees p.graph.now p.types.now p.script.now c.come.ahead c.come.world (let d : Done (Step × List PileView) = Traps why k in d) = agrees lines b c (Traps why k) taken in
      (a.0, a.1)

  abbrev point : Held → List PileView → Passing → Point
  point h piles x = record { held = h; piles = piles; passing = x }

  stuck_so : NoneIsStuck → (lines : List Label) (h : Held) (piles : List PileView) (x : Passing) → IsCarried p lines (point h piles x) → Steps Passes p x piles h kept.Stuck → MayLose p piles h x
  stuck_so going lines h piles passing.Nothing c lost =
      let at : AtRest p.graph.now p.types.now p.script.now h (stacks_at piles) c.come.ahead c.come.world = c.come.point in
      rest_lost p fit laws.starts going h piles c.come.world (c.come.steps, c.come.reached) c.come.none
      (record { stands = at.stands; control = at.control; none_ahead = refl }) h.rest refl (carried_may_step laws p lines (point h piles passing.Nothing) fit c) lost
  stuck_so going lines h piles passing.Arguments c lost = tt
  stuck_so going lines h piles passing.Returned c lost = tt
  stuck_so going lines h piles (passing.Ended words) c lost =
      let at : InTurn p.graph.now p.types.now p.script.now h (stacks_at piles) (passing.Ended words) c.come.ahead c.come.world = c.come.point in
      let may : (c.come.ahead ≡ []) × PassesThere p p.types.now p.script.now h at.world (passing.Ended words) = carried_may_step laws p lines (point h piles (passing.Ended words)) fit c in
      let there : PassesThere p p.types.now p.script.now h at.world (passing.Ended words) = may.1 in
      ended_so p fit laws.starts going h piles c.come.ahead c.come.world at.world there.number there.task there.func words (c.come.steps, c.come.reached) there.may.acts at.stands at.turn
      (reading.kind_of there.task) refl there.may.well lost
  stuck_so going lines h piles (passing.Elements copying) c lost = tt

  none_is : (k : Held) (t : ℕ) → acting_of k ≡ None → acting_of k ≡ Some t → ⊥
  none_is k t none some = (let e : (let o : Option ℕ = None in o) ≡ Some t = sym none ∙ some in let w : ⊥ = cc in w)

  lost_so : NoneIsStuck → (lines : List Label) (b : Point) (d : Done (Step × List PileView)) → IsCarried p lines b → StepsTo Passes p b d → IsLost d → MayLose p b.piles b.held b.passing
  lost_so going lines b (Gives r k) c taken lost = absurd lost
  lost_so going lines b (Traps why k) c taken lost = let a = trap_of_task lines b why k c taken in absurd (none_is k a.0 lost a.1)
  lost_so going lines b (Spent k) c taken lost = absurd lost
  lost_so going lines b kept.Stuck c taken lost = stuck_so going lines b.held b.piles b.passing c taken

pub traps_are_of_tasks : IsGiven → TrapsAreOfTasks
traps_are_of_tasks laws p count lines b why k fit goes taken = trap_of_task laws p fit lines b why k (carried_at laws p fit count lines b goes) taken

pub steps_are_lost_there : IsGiven → NoneIsStuck → StepsAreLostThere
steps_are_lost_there laws going p count lines b fit goes lost = lost_so laws p fit going lines b lost.0 (carried_at laws p fit count lines b goes) lost.1 lost.2

pub runs_go_beyond_there : IsGiven → NoneIsStuck → RunsGoBeyondThere
runs_go_beyond_there laws going p lines fit x = elim x.behind [
  | inl lost ↦ inl (steps_are_lost_there laws going p x.count lines x.last fit x.steps lost)
  | inr all ↦ inr all
]
