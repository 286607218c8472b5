-- What is carried from point to point of a run: the first point has it, it gives all that is fit of a step, each step leaves it, and so each run is the machine's.
use Rattle.std.proofs.Common.{◌≡◌, ◌⊎◌, inl, inr, ℕ, zero, suc, List, [], ◌∷◌, ◌++◌, refl, sym, ap, ◌∙◌, subst, Option, Some}
use Rattle.std.specs.List.{slice_get}
use Rattle.syntax_trees.specs.declared.types.ValType.{ValType}
use Rattle.wasm_store.specs.Stack.{Stack}
use Rattle.entry_gate.specs.declared.kind.Kind.{Kind}
use Rattle.entry_gate.specs.declared.kind.Kind.TheVariants.{Sync, Callback, Stackful}
use Rattle.comp_graph.specs.Graph.{Graph}
use Rattle.comp_graph.specs.Passed.{MayBeAt}
use Rattle.copy_replies.specs.Moves.{element_at}
use Rattle.script_reader.specs.Script.{Script}
use Rattle.trace_labels.specs.declared.label.Label.{Label}
use Rattle.task_table.specs.declared.slot.TaskSlot.{TaskSlot}
use Rattle.programs.specs.declared.program.Program.{Program}
use Rattle.programs.specs.Program.{value_of}
use Rattle.world_parts.specs.declared.parts.Copying.{Copying}
use Rattle.world_parts.specs.declared.parts.Flow.{Flow}
use Rattle.world_parts.specs.declared.parts.Flow.TheVariants as flow
use Rattle.world_parts.specs.declared.parts.Rest.{Rest}
use Rattle.world_parts.specs.declared.parts.Rest.TheVariants as rest
use Rattle.world_parts.specs.Calls.{back}
use Rattle.world_parts.specs.Going.{leaves}
use Rattle.world_parts.specs.Held.{Held, Done, Gives}
use Rattle.world_parts.specs.Turning.{goes}
use Rattle.replies.specs.Seen.{seen}
use Rattle.world_stacks.specs.Views.{PileView}
use Rattle.value_parts.specs.declared.to_pass.Passing.{Passing}
use Rattle.value_parts.specs.declared.to_pass.Passing.TheVariants as passing
use Rattle.value_moves.specs.Passing.{Passes}
use Rattle.machine_runs.specs.declared.ending.RunEnd.{RunEnd}
use Rattle.machine_runs.specs.declared.stepping.Step.{Step}
use Rattle.machine_runs.specs.declared.stepping.Step.TheVariants as step
use Rattle.machine_runs.specs.Beginning.{first_slot}
use Rattle.machine_runs.specs.Calling.{calls}
use Rattle.machine_runs.specs.Moving.{acting_of, woken}
use Rattle.machine_runs.specs.Stepping.{RunSteps, Steps}
use Rattle.machine_runs.specs.Worlds.{Point, EndsBy, GoOn, Goes, IsRun, StepsTo, handed, handed_on}
use Rattle.abi_machine.specs.World.{World, first_world}
use Rattle.abi_machine.specs.Canons.{options_at}
use Rattle.abi_machine.specs.Run.{lines_of}
use Rattle.abi_machine.proofs.sound.Found.{some_same}
use Rattle.reach_laws.specs.Reached.{CodePassesWords, ReachedAreTyped, ReachedStandInside, StartsTyped}
use Rattle.standing.specs.Channels.{HasMarkedEnds}
use Rattle.standing.specs.Stands.{Stands}
use Rattle.standing.proofs.KeptMarks.{first_is_marked}
use Rattle.run_laws.specs.Carried.{HasCome, IsRight, ComesFrom, IsCarried, IsFit, CarriedStepsSo, CarriedMayStep, FirstIsCarried, RunsAreOfMachine, StepsCarry}
use Rattle.run_laws.specs.Left.{RunsLeaveWorlds}
use Rattle.run_laws.specs.Passings.{EntersWell}
use Rattle.run_laws.specs.Points.{AtRest, InPassing, ReachesPoint, stacks_at}
use Rattle.run_laws.specs.Runs.{RuleAgrees}
use Rattle.run_laws.specs.Steps.{IsReached, MayStep, PassesThere, RestWell}
use Rattle.run_laws.specs.Supplied.{DestructorsPassReps, MayArrive, PlacesAreKept, RestsReached}
use Rattle.run_laws.specs.SuppliedPassings.{IsBehind, IsProgramOf}
use Rattle.run_laws.specs.Whole.{LeavesWorld, start_of}
use Rattle.run_laws.specs.Transfers.{HasEndOf}
use Rattle.run_laws.specs.keeping.Kept.{RunsFunction}
use Rattle.run_laws.specs.keeping.Passings.{EndsBy as EndsByKind, EntersSo, PassesSo, ReturnsSo}
use Rattle.run_laws.specs.keeping.Stepping.{KeepsAll}
use Rattle.run_laws.specs.keeping.Steps.{GoesSo, PassesWell, StepsSo}
use Rattle.run_laws.specs.keeping.Still.{EndsKept, PassesValues, kind_among, IsOfTask}
use Rattle.run_laws.specs.keeping.Tables.{HandlesAloneLent}
use Rattle.run_laws.specs.keeping.Well.{KeptWell}
use Rattle.run_laws.proofs.Steps.{step_is_made}
use Rattle.run_laws.proofs.Whole.{Arrives, OfMachine, first_arrives, in_handed, last_agrees, lines_on, reaches_on, rejoined}
use Rattle.run_laws.proofs.keeping.Sound.{tables_are_sound}
use Rattle.run_laws.proofs.keeping.Steps.{step_keeps_all}
use Rattle.run_laws.proofs.keeping.still.EndsStep.{passing_keeps_ends, elements_keep_ends, scripts_pass_none}
use Rattle.run_laws.proofs.keeping.still.AloneLent.{handles_are_alone_lent}
use Rattle.run_laws.proofs.keeping.still.Kinds.{ends_stand_kept, types_tell_kinds}
use Rattle.run_laws.proofs.keeping.still.Passing.{move_keeps_lent}
use Rattle.run_laws.proofs.keeping.still.Placed.{places_stand_kept}
use Rattle.run_laws.proofs.keeping.still.Steps.{first_keeps_memories, move_keeps_ends, memories_are_first, step_keeps_memories}
use Rattle.run_laws.proofs.lists.Keeping.{first_has_lists}
use Rattle.run_laws.proofs.lists.Steps.{steps_keep_lists}
use Rattle.run_laws.proofs.onward.Backward.{back_plain, leaves_plain}
use Rattle.run_laws.proofs.onward.Behind.{ends_so, enters_so, result_none, value_none}
use Rattle.run_laws.proofs.onward.Elements.{elements_supplied}
use Rattle.run_laws.proofs.onward.Ended.{ended_function, ended_supplied}
use Rattle.run_laws.proofs.onward.Flowing.{CameBy, came_by, pass_nothing}
use Rattle.run_laws.proofs.onward.Freed.{LetsIn, OnEntry, WaitedToEnter, arrives_let_in, by_plain, resumes_waited}
use Rattle.run_laws.proofs.onward.Knowing.{known_world}
use Rattle.run_laws.proofs.onward.Led.{By, CallLed, IsLed, ReturnsLed, by_after, calls_led, led_same}
use Rattle.run_laws.proofs.onward.Moving.{goes_so}
use Rattle.run_laws.proofs.onward.Ran.{HasEnded, has_ended}
use Rattle.run_laws.proofs.onward.Resting.{insts_there, memories_named, program_of, rests_reached, rests_well}
use Rattle.run_laws.proofs.onward.Returned.{returned_supplied}
use Rattle.run_laws.proofs.onward.Tested.{places_supplied}
use Rattle.run_laws.proofs.supplied.Arguments.{arguments_supplied, same_kept}
use Rattle.run_laws.proofs.supplied.Hears.{memory_alike}
use Rattle.run_laws.proofs.well.Woken.{first_well}
use Rattle.run_laws.proofs.onward.Fitting.{types_fit}

-- Which rests a task enters from, and which one it returns or copies from.
entry_by : (g : Graph) (types : List (Option ℕ)) (h later : Held) (x : Flow) (r : Rest) → h.rest ≡ r → woken g types r h ≡ Gives x later → OnEntry ⊥ x later ⊎ (MayArrive h.rest ⊎ ((number : ℕ) × (h.rest ≡ rest.Calls number)))
entry_by g types h later x (rest.Instantiates number) is gives = absurd (cc)
entry_by g types h later x rest.Free is gives = absurd (cc)
entry_by g types h later x rest.Arrives is gives = inr (inl (inl is))
entry_by g types h later x rest.Goes is gives = inl (subst (λ (d : Done Flow). By (OnEntry ⊥) d) gives (by_after (OnEntry ⊥) (goes h) (λ done k. Gives flow.Rests k) (λ done k e. tt)))
entry_by g types h later x rest.Resumes is gives = inr (inl (inr is))
entry_by g types h later x rest.Back is gives = inl (subst (λ (d : Done Flow). By (OnEntry ⊥) d) gives (by_plain ⊥ (back (seen g) h) (back_plain (seen g) h)))
entry_by g types h later x rest.Runs is gives = absurd (cc)
entry_by g types h later x (rest.Calls number) is gives = inr (inr (number, is))
entry_by g types h later x rest.Leaves is gives = inl (subst (λ (d : Done Flow). By (OnEntry ⊥) d) gives (by_plain ⊥ (leaves h) (leaves_plain h)))

no_entry : (g : Graph) (types : List (Option ℕ)) (h later : Held) (number : ℕ) → h.rest ≡ rest.Calls number → woken g types h.rest h ≡ Gives flow.Enters later → ⊥
no_entry g types h later number is gives =
    (subst (λ (d : Done Flow). By (CallLed g types number h) d) (ap (λ (r : Rest). woken g types r h) (sym is) ∙ gives) (calls_led g types number h)).2

arrive_from : (g : Graph) (types : List (Option ℕ)) (h later : Held) → woken g types h.rest h ≡ Gives flow.Enters later → MayArrive h.rest
arrive_from g types h later gives = elim (entry_by g types h later flow.Enters h.rest refl gives) [
  | inl none ↦ absurd none
  | inr some ↦ elim some [
    | inl may ↦ may
    | inr calls ↦ absurd (no_entry g types h later calls.0 calls.1 gives)
  ]
]

-- A task that is new or goes on doesn't return at once, nor do elements go over.
called_from : (g : Graph) (types : List (Option ℕ)) (h later : Held) (x : Flow) → ((P : Type 0) → OnEntry P x later → ⊥) → woken g types h.rest h ≡ Gives x later → (number : ℕ) × (h.rest ≡ rest.Calls number)
called_from g types h later x none gives = elim (entry_by g types h later x h.rest refl gives) [
  | inl never ↦ absurd (none ⊥ never)
  | inr some ↦ elim some [
    | inl may ↦ absurd (elim may [
      | inl arriving ↦ none (LetsIn h) (subst (λ (d : Done Flow). By (OnEntry (LetsIn h)) d) (ap (λ (r : Rest). woken g types r h) (sym arriving) ∙ gives) (arrives_let_in h))
      | inr resuming ↦ none (WaitedToEnter h) (subst (λ (d : Done Flow). By (OnEntry (WaitedToEnter h)) d) (ap (λ (r : Rest). woken g types r h) (sym resuming) ∙ gives) (resumes_waited h))
    ])
    | inr calls ↦ calls
  ]
]

-- Of lines passing says nothing.
enters_handed : (p : Program) (values : List ValType) (s : Script) (h : Held) (v : World) → PassesThere p values s h v passing.Arguments → PassesThere p values s (handed h) v passing.Arguments
enters_handed p values s h v x = record {
  number = x.number;
  task = x.task;
  func = x.func;
  may = record { acts = x.may.acts; well = by x.may.well };
  ends = x.ends;
  lends = x.lends;
}
  where
    by : EntersWell p values s h v x.number x.task x.func → EntersWell p values s (handed h) v x.number x.task x.func
    by (inl m) = inl (record {
      types = m.types;
      acts = m.acts;
      runs = m.runs;
      params = m.params;
      given = m.given;
      lends = m.lends;
      memory = memory_alike x.func.options.memory h (handed h) refl ∙ m.memory;
      memories = λ number. memory_alike (options_at p.graph.now number).memory h (handed h) refl ∙ m.memories number;
      own = m.own;
    })
    by (inr m) = inr m

-- Ends where the machine rests.
pub ends_at : (p : Program) → IsFit p → (h : Held) (stacks : List (List Stack)) (w : World) → IsReached p.graph.now p.script.now w → Stands p.graph.now p.types.now p.script.now h stacks w
    → HasMarkedEnds h → EndsKept (kind_among p.types.now) h
ends_at p fit h stacks w reached stands ends = ends_stand_kept p.graph.now p.types.now p.script.now h stacks w stands (known_world p w fit reached).worlds.once ends

ends_moved : (p : Program) → IsFit p → (piles more : List PileView) (h later : Held) (x : Passing) → Steps Passes p passing.Nothing piles h (Gives (step.GoesOn x, more) later)
    → EndsKept (kind_among p.types.now) h → EndsKept (kind_among p.types.now) later
ends_moved p fit piles more h later x taken =
    move_keeps_ends p (kind_among p.types.now) piles h (Gives (step.GoesOn x, more) later) (types_tell_kinds p.graph.now p.types.now fit.made.funcs p.ends.now (types_fit p fit)) taken

abbrev point : Held → List PileView → Passing → Point
point h piles x = record { held = h; piles = piles; passing = x }

pub ends_passed : (p : Program) → IsFit p → (h : Held) (piles : List PileView) (x : Passing) (ahead : List Label) → ComesFrom p (point h piles x) ahead → EndsKept (kind_among p.types.now) h
ends_passed p fit h piles x ahead f =
    subst (λ (z : Held). EndsKept (kind_among p.types.now) z) (sym f.same)
    (ends_moved p fit f.before.piles piles f.before.held f.later x
    (subst (λ (y : Passing). Steps Passes p y f.before.piles f.before.held (Gives (step.GoesOn x, piles) f.later)) f.nothing f.step)
    (ends_at p fit f.before.held (stacks_at f.before.piles) f.world f.reached f.rests.stands f.right.ends))

-- What laws of worlds that a run reaches give.
pub record IsGiven : Type 0 where
  pub passes : CodePassesWords
  pub typed : ReachedAreTyped
  pub starts : StartsTyped
  pub reps : DestructorsPassReps
  pub inside : ReachedStandInside

pub given : CodePassesWords → ReachedAreTyped → StartsTyped → DestructorsPassReps → ReachedStandInside → IsGiven
given passes typed starts reps inside = record { passes = passes; typed = typed; starts = starts; reps = reps; inside = inside }

-- Something is to be passed.
abbrev IsPassed : Passing → Type 0
IsPassed passing.Nothing = ⊥
IsPassed passing.Arguments = Unit {0}
IsPassed passing.Returned = Unit {0}
IsPassed (passing.Ended words) = Unit {0}
IsPassed (passing.Elements copying) = Unit {0}

nothing_else : (a b : List Label) → a ++ b ≡ [] → b ≡ []
nothing_else [] b e = e
nothing_else (x ∷ a) b e = absurd (cc)

module _ (laws : IsGiven) (p : Program) (fit : IsFit p) where
  abbrev g : Graph
  g = p.graph.now

  abbrev s : Script
  s = p.script.now

  abbrev values : List ValType
  values = p.types.now

  -- At a rest.
  module _ (lines : List Label) (h : Held) (piles : List PileView) (c : IsCarried p lines (point h piles passing.Nothing)) where
    abbrev w : World
    w = c.come.world

    reached : IsReached g s w
    reached = (c.come.steps, c.come.reached)

    rests : AtRest g values s h (stacks_at piles) [] w
    rests = record { stands = c.come.point.stands; control = c.come.point.control; none_ahead = refl }

    places : PlacesAreKept h w
    places = places_stand_kept g values s h (stacks_at piles) w rests.stands

    rest_so : GoesSo p h
    rest_so = goes_so p h piles w fit reached rests c.right (known_world p w fit reached) laws.passes laws.typed laws.starts places

    rest_may : RestWell p values s h piles w h.rest
    rest_may = rests_well p h piles w fit reached rests c.right laws.passes laws.typed laws.starts (known_world p w fit reached) places

  -- Where values are to be passed.
  module _ (lines : List Label) (h : Held) (piles : List PileView) (x : Passing) (c : IsCarried p lines (point h piles x)) (f : ComesFrom p (point h piles x) c.come.ahead) (world : World)
      (stands : Stands g values s h (stacks_at piles) world) where
    abbrev before : Held
    before = f.before.held

    abbrev later : Held
    later = f.later

    came : CameBy p f.before.piles before x piles later
    came = came_by p f.before.piles piles before later x (subst (λ (y : Passing). Steps Passes p y f.before.piles before (Gives (step.GoesOn x, piles) later)) f.nothing f.step)

    right : IsRight s (handed later)
    right = subst (λ (z : Held). IsRight s z) f.same c.right

    stands_later : Stands g values s later (stacks_at piles) world
    stands_later = subst (λ (z : Held). Stands g values s z (stacks_at piles) world) f.same stands

    behind : IsBehind p values s later (stacks_at piles) world
    behind = record {
      stands = stands_later;
      marks = right.marks;
      ends = right.ends;
      tables = record { sound = λ n. tables_are_sound g values s later (stacks_at piles) world n stands_later; lent = right.lent };
      memories = memories_are_first later right.memories;
    }

    abbrev rested : RestsReached p values s before (stacks_at f.before.piles) f.world
    rested = rests_reached p before f.before.piles f.world fit f.reached f.rests f.right

    prog : IsProgramOf p values s
    prog = program_of p fit

    passes_well : ((t : ℕ) → acting_of later ≡ Some t → PassesSo p t (handed later) x) → PassesWell p x h
    passes_well now =
        subst (λ (z : Held). PassesWell p x z) (sym f.same)
        (record { now = now; tables = record { sound = λ n. tables_are_sound g values s later (stacks_at piles) world n stands_later; lent = right.lent }; well = right.well })

    passes_there : PassesThere p values s (handed later) world x → PassesThere p values s h world x
    passes_there t = subst (λ (z : Held). PassesThere p values s z world x) (sym f.same) t

    -- A task enters.
    enters_well : woken g p.ends.now before.rest before ≡ Gives flow.Enters later → (t : ℕ) → acting_of later ≡ Some t → EntersSo p t (handed later)
    enters_well gives t acts =
        let may : MayArrive before.rest = arrive_from g p.ends.now before later gives in
        let same : later ≡ before = same_kept p before later may gives in
        let e : EntersSo p t before = enters_so p before f.before.piles f.world fit f.reached f.rests f.right later may gives t (ap acting_of (sym same) ∙ acts) in
        subst (λ (z : Held). EntersSo p t (handed z)) (sym same) (record { runs = e.runs; free = e.free; lends = e.lends; own = e.own })

    enters_there : woken g p.ends.now before.rest before ≡ Gives flow.Enters later → PassesThere p values s (handed later) world passing.Arguments
    enters_there gives =
        enters_handed p values s later world
        (arguments_supplied p values s before (stacks_at f.before.piles) f.world rested (insts_there p before f.before.piles f.world fit f.reached f.rests f.right) prog.fits
        (memories_named p before f.before.piles f.world fit f.reached f.rests f.right) (laws.reps g values s before (stacks_at f.before.piles) f.world fit.fits.runs rested.there)
        (arrive_from g p.ends.now before later gives) later (stacks_at piles) world gives stands_later)

    -- A task returns.
    abbrev call_led : (number : ℕ) (y : Flow) → before.rest ≡ rest.Calls number → woken g p.ends.now before.rest before ≡ Gives y later → CallLed g p.ends.now number before y later
    call_led number y is gives =
        subst (λ (d : Done Flow). By (CallLed g p.ends.now number before) d) (ap (λ (r : Rest). woken g p.ends.now r before) (sym is) ∙ gives) (calls_led g p.ends.now number before)

    returns_well : woken g p.ends.now before.rest before ≡ Gives flow.Returns later → (t : ℕ) → acting_of later ≡ Some t → ReturnsSo p t (handed later)
    returns_well gives t acts =
        let calls = called_from g p.ends.now before later flow.Returns (λ P none. none) gives in
        let led : CallLed g p.ends.now calls.0 before flow.Returns later = call_led calls.0 flow.Returns calls.1 gives in
        let l : ReturnsLed g calls.0 led.0 before later = led.2 in (
          λ number at. value_none p before f.before.piles f.world fit f.reached f.rests f.right number,
          result_none p before f.before.piles f.world fit f.reached f.rests f.right later l.led t,
        )

    returns_there : woken g p.ends.now before.rest before ≡ Gives flow.Returns later → PassesThere p values s (handed later) world passing.Returned
    returns_there gives =
        let calls = called_from g p.ends.now before later flow.Returns (λ P none. none) gives in
        returned_supplied p values s before (stacks_at f.before.piles) f.world calls.0 prog rested calls.1 later (stacks_at piles) world gives behind

    -- Elements go over.
    elements_there : (copying : Copying) → woken g p.ends.now before.rest before ≡ Gives (flow.Copies copying) later → PassesThere p values s (handed later) world (passing.Elements copying)
    elements_there copying gives =
        let calls = called_from g p.ends.now before later (flow.Copies copying) (λ P none. none) gives in
        elements_supplied p values s before (stacks_at f.before.piles) f.world calls.0 copying prog rested calls.1 later (stacks_at piles) world gives
        (places_supplied laws.inside p values s before (stacks_at f.before.piles) f.world calls.0 copying fit.fits.runs prog rested calls.1 later (stacks_at piles) world gives behind) behind

    -- A core function or a callback has ended.
    ends_well : (words : List ℕ) → before.rest ≡ rest.Runs → RunSteps f.before.piles before (Gives (step.GoesOn (passing.Ended words), piles) later) → (t : ℕ) → acting_of later ≡ Some t
        → (slot : TaskSlot) → slice_get later.tasks t ≡ Some slot → EndsByKind p t (handed later) slot.task.kind
    ends_well words runs steps t acts slot there =
        let e : HasEnded before f.before.piles words later = has_ended before f.before.piles piles words later steps in
        let chain : acting_of later ≡ acting_of before = ap acting_of e.ran.same in
        let same : e.number ≡ t = some_same (sym e.acts ∙ sym chain ∙ acts) in
        let led : IsLed before later =
        led_same before later (ap (λ (z : Held). z.chain) e.ran.same) (ap (λ (z : Held). z.rest) e.ran.same) (ap (λ (z : Held). z.instances) e.ran.same) (ap (λ (z : Held). z.tasks) e.ran.same) in
        by_kind t slot.task.kind
        (ends_so p before f.before.piles f.world fit f.reached f.rests f.right later (ap (λ (z : Held). z.tasks) e.ran.same) (ap (λ (z : Held). z.instances) e.ran.same) led t
        (subst (λ (n : ℕ). RunsFunction before n) same
        (ended_function p values s before f.before.piles piles f.world words laws.typed fit.fits.runs prog rested runs later world behind e)) slot.task.kind)
      where
        by_kind : (t : ℕ) (kind : Kind) → EndsByKind p t later kind → EndsByKind p t (handed later) kind
        by_kind t Sync e = e
        by_kind t Callback e = record { runs = e.runs; one = e.one; once = e.once }
        by_kind t Stackful e = e

    ends_there : (words : List ℕ) → before.rest ≡ rest.Runs → RunSteps f.before.piles before (Gives (step.GoesOn (passing.Ended words), piles) later)
        → (c.come.ahead ≡ []) × PassesThere p values s (handed later) world (passing.Ended words)
    ends_there words runs steps =
        let e : HasEnded before f.before.piles words later = has_ended before f.before.piles piles words later steps in (
          f.told (ap (λ (z : Held). z.labels) e.ran.same ∙ f.none),
          ended_supplied laws.typed p values s before f.before.piles piles f.world words fit.fits.runs prog rested runs later world steps behind,
        )

  -- All that a step asks, by what is to be passed.
  pub from_rest : (lines : List Label) (h : Held) (piles : List PileView) (x : Passing) (c : IsCarried p lines (point h piles x)) → (x ≡ passing.Nothing → ⊥) → ComesFrom p (point h piles x) c.come.ahead
  from_rest lines h piles x c some = elim c.from [
    | inl none ↦ absurd (some none)
    | inr f ↦ f
  ]

  steps_so : (lines : List Label) (h : Held) (piles : List PileView) (x : Passing) → IsCarried p lines (point h piles x) → StepsSo p h x
  steps_so lines h piles passing.Nothing c = rest_so lines h piles c
  steps_so lines h piles passing.Arguments c =
      let f = from_rest lines h piles passing.Arguments c (λ e. cc) in
      passes_well lines h piles passing.Arguments c f c.come.point.world c.come.point.stands
      (enters_well lines h piles passing.Arguments c f c.come.point.world c.come.point.stands (came lines h piles passing.Arguments c f c.come.point.world c.come.point.stands))
  steps_so lines h piles passing.Returned c =
      let f = from_rest lines h piles passing.Returned c (λ e. cc) in
      passes_well lines h piles passing.Returned c f c.come.point.world c.come.point.stands
      (returns_well lines h piles passing.Returned c f c.come.point.world c.come.point.stands (came lines h piles passing.Returned c f c.come.point.world c.come.point.stands))
  steps_so lines h piles (passing.Ended words) c =
      let f = from_rest lines h piles (passing.Ended words) c (λ e. cc) in
      let by = came lines h piles (passing.Ended words) c f c.come.point.world c.come.point.stands in
      passes_well lines h piles (passing.Ended words) c f c.come.point.world c.come.point.stands
      (ends_well lines h piles (passing.Ended words) c f c.come.point.world c.come.point.stands words by.0 by.1)
  steps_so lines h piles (passing.Elements copying) c =
      let f = from_rest lines h piles (passing.Elements copying) c (λ e. cc) in
      passes_well lines h piles (passing.Elements copying) c f c.come.point.world c.come.point.stands
      (λ t acts. value_none p f.before.held f.before.piles f.world fit f.reached f.rests f.right copying.canon)

  may_step : (lines : List Label) (h : Held) (piles : List PileView) (x : Passing) (c : IsCarried p lines (point h piles x)) → MayStep p values s h piles x c.come.ahead c.come.world c.come.point
  may_step lines h piles passing.Nothing c = rest_may lines h piles c
  may_step lines h piles passing.Arguments c =
      let f = from_rest lines h piles passing.Arguments c (λ e. cc) in
      passes_there lines h piles passing.Arguments c f c.come.point.world c.come.point.stands
      (enters_there lines h piles passing.Arguments c f c.come.point.world c.come.point.stands (came lines h piles passing.Arguments c f c.come.point.world c.come.point.stands))
  may_step lines h piles passing.Returned c =
      let f = from_rest lines h piles passing.Returned c (λ e. cc) in
      passes_there lines h piles passing.Returned c f c.come.point.world c.come.point.stands
      (returns_there lines h piles passing.Returned c f c.come.point.world c.come.point.stands (came lines h piles passing.Returned c f c.come.point.world c.come.point.stands))
  may_step lines h piles (passing.Ended words) c =
      let f = from_rest lines h piles (passing.Ended words) c (λ e. cc) in
      let by = came lines h piles (passing.Ended words) c f c.come.point.world c.come.point.stands in
      let both = ends_there lines h piles (passing.Ended words) c f c.come.point.world c.come.point.stands words by.0 by.1 in
      (both.0, passes_there lines h piles (passing.Ended words) c f c.come.point.world c.come.point.stands both.1)
  may_step lines h piles (passing.Elements copying) c =
      let f = from_rest lines h piles (passing.Elements copying) c (λ e. cc) in
      passes_there lines h piles (passing.Elements copying) c f c.come.point.world c.come.point.stands
      (elements_there lines h piles (passing.Elements copying) c f c.come.point.world c.come.point.stands copying (came lines h piles (passing.Elements copying) c f c.come.point.world c.come.point.stands))

  -- Where elements go over, the end of the call is of the type of the built-in, whose elements have the type of a number.
  pub elements_typed : (lines : List Label) (h : Held) (piles : List PileView) (copying : Copying) → IsCarried p lines (point h piles (passing.Elements copying))
      → HasEndOf p values h copying × MayBeAt values (value_of p copying.canon) (element_at g copying.canon)
  elements_typed lines h piles copying c =
      let there : PassesThere p values s h c.come.point.world (passing.Elements copying) = may_step lines h piles (passing.Elements copying) c in
      (there.may.well.end, there.may.well.typed)

  -- A step that goes on leaves it.
  module _ (lines : List Label) (b to : Point) (c : IsCarried p lines b) (taken : StepsTo Passes p b (Gives (step.GoesOn to.passing, to.piles) to.held)) where
    abbrev so : StepsSo p b.held b.passing
    so = steps_so lines b.held b.piles b.passing c

    agrees : ReachesPoint g values s c.come.ahead c.come.world to
    agrees =
        step_is_made p values s b.held b.piles b.passing c.come.ahead c.come.world (Gives (step.GoesOn to.passing, to.piles) to.held) (c.come.steps, c.come.reached) c.come.none c.come.point
        (may_step lines b.held b.piles b.passing c) taken

    keeps : KeepsAll b.held (let d : Done (Step × List PileView) = Gives (step.GoesOn to.passing, to.piles) to.held in d)
    keeps = step_keeps_all p b.passing b.piles b.held (Gives (step.GoesOn to.passing, to.piles) to.held) so taken

    comes : HasCome p (lines ++ to.held.labels) (handed_on to)
    comes = record {
      steps = c.come.steps ++ agrees.steps;
      world = agrees.world;
      ahead = agrees.now_ahead;
      reached = reaches_on g s (first_world g) c.come.world agrees.world c.come.steps agrees.steps c.come.reached agrees.reached;
      point = in_handed g values s to.held to.piles to.passing agrees.now_ahead agrees.world agrees.point;
      same_lines =
          rejoined lines c.come.ahead to.held.labels (lines_of c.come.steps) (lines_of agrees.steps) agrees.now_ahead agrees.same_lines c.come.same_lines
          ∙ ap (λ (ls : List Label). ls ++ agrees.now_ahead) (sym (lines_on c.come.steps agrees.steps));
      none = refl;
    }

    taken_from : (x : Passing) → b.passing ≡ x → Steps Passes p x b.piles b.held (Gives (step.GoesOn to.passing, to.piles) to.held)
    taken_from x is = subst (λ (y : Passing). Steps Passes p y b.piles b.held (Gives (step.GoesOn to.passing, to.piles) to.held)) is taken

    lent_by : (y : Passing) → to.passing ≡ y → b.passing ≡ passing.Nothing → PassesValues (step.GoesOn y) → HandlesAloneLent to.held.instances to.held.tasks
    lent_by y is rested some =
        move_keeps_lent p b.piles b.held (Gives (step.GoesOn to.passing, to.piles) to.held) (taken_from passing.Nothing rested) (subst (λ (z : Passing). PassesValues (step.GoesOn z)) (sym is) some) c.right.lent

    passed_nothing : (x : Passing) → b.passing ≡ x → IsPassed x → to.passing ≡ passing.Nothing
    passed_nothing passing.Nothing is some = absurd some
    passed_nothing passing.Arguments is some = pass_nothing p passing.Arguments to.passing b.piles to.piles b.held to.held (taken_from passing.Arguments is)
    passed_nothing passing.Returned is some = pass_nothing p passing.Returned to.passing b.piles to.piles b.held to.held (taken_from passing.Returned is)
    passed_nothing (passing.Ended words) is some = pass_nothing p (passing.Ended words) to.passing b.piles to.piles b.held to.held (taken_from (passing.Ended words) is)
    passed_nothing (passing.Elements copying) is some = pass_nothing p (passing.Elements copying) to.passing b.piles to.piles b.held to.held (taken_from (passing.Elements copying) is)

    -- Where the run rests then, and where values are to be passed, which they are behind a rest alone.
    lent_resting : to.passing ≡ passing.Nothing → HandlesAloneLent to.held.instances to.held.tasks
    lent_resting is =
        let at : AtRest g values s to.held (stacks_at to.piles) agrees.now_ahead agrees.world =
        subst (λ (y : Passing). InPassing g values s to.held (stacks_at to.piles) y agrees.now_ahead agrees.world) is agrees.point in
        handles_are_alone_lent g values s to.held (stacks_at to.piles) agrees.world
        (record {
          apart = fit.fits.runs.apart;
          no_borrow = fit.fits.no_borrow;
          no_end = fit.fits.no_end;
          steps = c.come.steps ++ agrees.steps;
          reached = reaches_on g s (first_world g) c.come.world agrees.world c.come.steps agrees.steps c.come.reached agrees.reached;
          stands = at.stands;
        })

    lent_moved : (y : Passing) → to.passing ≡ y → b.passing ≡ passing.Nothing → HandlesAloneLent to.held.instances to.held.tasks
    lent_moved passing.Nothing is rested = lent_resting is
    lent_moved passing.Arguments is rested = lent_by passing.Arguments is rested tt
    lent_moved passing.Returned is rested = lent_by passing.Returned is rested tt
    lent_moved (passing.Ended words) is rested = lent_by (passing.Ended words) is rested tt
    lent_moved (passing.Elements copying) is rested = lent_by (passing.Elements copying) is rested tt

    lent_on : (x : Passing) → b.passing ≡ x → HandlesAloneLent to.held.instances to.held.tasks
    lent_on passing.Nothing is = lent_moved to.passing refl is
    lent_on passing.Arguments is = lent_resting (passed_nothing passing.Arguments is tt)
    lent_on passing.Returned is = lent_resting (passed_nothing passing.Returned is tt)
    lent_on (passing.Ended words) is = lent_resting (passed_nothing (passing.Ended words) is tt)
    lent_on (passing.Elements copying) is = lent_resting (passed_nothing (passing.Elements copying) is tt)

    ends_kept_here : (b.passing ≡ passing.Nothing → ⊥) → EndsKept (kind_among p.types.now) b.held
    ends_kept_here some = ends_passed p fit b.held b.piles b.passing c.come.ahead (from_rest lines b.held b.piles b.passing c some)

    ends_behind : (x : Passing) → b.passing ≡ x → IsOfTask x → (b.passing ≡ passing.Nothing → ⊥) → HasMarkedEnds to.held
    ends_behind x is of some =
        passing_keeps_ends p (kind_among p.types.now) x b.piles b.held (Gives (step.GoesOn to.passing, to.piles) to.held) fit.made.distinct (scripts_pass_none p fit.fits.no_end) of
        (subst (λ (y : Passing). StepsSo p b.held y) is so) c.right.marks (ends_kept_here some) (taken_from x is)

    ends_over : (copying : Copying) → b.passing ≡ passing.Elements copying → (b.passing ≡ passing.Nothing → ⊥) → HasMarkedEnds to.held
    ends_over copying is some =
        let now : IsCarried p lines (point b.held b.piles (passing.Elements copying)) = subst (λ (y : Passing). IsCarried p lines (point b.held b.piles y)) is c in
        let typed = elements_typed lines b.held b.piles copying now in
        elements_keep_ends p (kind_among p.types.now) copying b.piles b.held (Gives (step.GoesOn to.passing, to.piles) to.held) fit.made.distinct typed.0 typed.1
        (subst (λ (y : Passing). StepsSo p b.held y) is so) c.right.marks (ends_kept_here some) (taken_from (passing.Elements copying) is)

    ends_resting : b.passing ≡ passing.Nothing → HasMarkedEnds to.held
    ends_resting is =
        let at : AtRest g values s b.held (stacks_at b.piles) c.come.ahead c.come.world =
        subst (λ (y : Passing). InPassing g values s b.held (stacks_at b.piles) y c.come.ahead c.come.world) is c.come.point in
        let k : EndsKept (kind_among values) to.held =
        ends_moved p fit b.piles to.piles b.held to.held to.passing (taken_from passing.Nothing is)
        (ends_at p fit b.held (stacks_at b.piles) c.come.world (c.come.steps, c.come.reached) at.stands c.right.ends) in
        k.marked

    ends_on : (x : Passing) → b.passing ≡ x → HasMarkedEnds to.held
    ends_on passing.Nothing is = ends_resting is
    ends_on passing.Arguments is = ends_behind passing.Arguments is tt (λ e. (let none : passing.Arguments ≡ passing.Nothing = sym is ∙ e in cc))
    ends_on passing.Returned is = ends_behind passing.Returned is tt (λ e. (let none : passing.Returned ≡ passing.Nothing = sym is ∙ e in cc))
    ends_on (passing.Ended words) is = ends_behind (passing.Ended words) is tt (λ e. (let none : passing.Ended words ≡ passing.Nothing = sym is ∙ e in cc))
    ends_on (passing.Elements copying) is = ends_over copying is (λ e. (let none : passing.Elements copying ≡ passing.Nothing = sym is ∙ e in cc))

    right_on : IsRight s (handed to.held)
    right_on =
        let well : KeptWell to.held = keeps.1 c.right.well in
        record {
          marks = keeps.0 c.right.marks;
          well = record { gave = well.gave; over = well.over; asked = well.asked; unawaited = well.unawaited };
          lists = steps_keep_lists s p b.passing b.piles b.held (Gives (step.GoesOn to.passing, to.piles) to.held) refl taken c.right.lists;
          ends = ends_on b.passing refl;
          lent = lent_on b.passing refl;
          memories = step_keeps_memories p b.passing b.piles b.held (Gives (step.GoesOn to.passing, to.piles) to.held) taken c.right.memories;
        }

    came_on : (x : Passing) → b.passing ≡ x → (to.passing ≡ passing.Nothing) ⊎ ComesFrom p (handed_on to) agrees.now_ahead
    came_on passing.Nothing is =
        let at : AtRest g values s b.held (stacks_at b.piles) c.come.ahead c.come.world =
        subst (λ (y : Passing). InPassing g values s b.held (stacks_at b.piles) y c.come.ahead c.come.world) is c.come.point in
        inr (record {
          before = b;
          world = c.come.world;
          reached = (c.come.steps, c.come.reached);
          rests = record { stands = at.stands; control = at.control; none_ahead = refl };
          nothing = is;
          none = c.come.none;
          right = c.right;
          later = to.held;
          step = taken;
          same = refl;
          told = λ none. nothing_else (lines_of agrees.steps) agrees.now_ahead (sym agrees.same_lines ∙ ap (λ (ls : List Label). ls ++ to.held.labels) at.none_ahead ∙ none);
        })
    came_on passing.Arguments is = inl (passed_nothing passing.Arguments is tt)
    came_on passing.Returned is = inl (passed_nothing passing.Returned is tt)
    came_on (passing.Ended words) is = inl (passed_nothing (passing.Ended words) is tt)
    came_on (passing.Elements copying) is = inl (passed_nothing (passing.Elements copying) is tt)

    carried_on : IsCarried p (lines ++ to.held.labels) (handed_on to)
    unfolding comes agrees
    carried_on = record { come = comes; right = right_on; from = came_on b.passing refl }

  carry : (lines more : List Label) (b c : Point) → IsCarried p lines b → Goes Passes p b more c → IsCarried p (lines ++ more) c
  carry lines more b c carried (to, taken, told, is) =
      subst (λ (x : Point). IsCarried p (lines ++ more) x) (sym is)
      (subst (λ (ls : List Label). IsCarried p (lines ++ ls) (handed_on to)) (sym told) (carried_on lines b to carried taken))

pub first_carried : FirstIsCarried
first_carried p =
    let a : Arrives p p.types.now [] (start_of p) = first_arrives p p.types.now in
    record {
      come = record { steps = a.steps; world = a.world; ahead = a.ahead; reached = a.reached; point = a.point; same_lines = a.same_lines; none = a.none };
      right = record {
        marks = first_is_marked (first_slot) refl refl;
        well = first_well p.graph.now p.script.now;
        lists = first_has_lists p.graph.now p.script.now;
        ends = λ at index i e here stands. absurd (cc);
        lent = λ at index i here none. absurd (cc);
        memories = first_keeps_memories p.graph.now p.script.now;
      };
      from = inl refl;
    }

pub carried_steps_so : IsGiven → CarriedStepsSo
carried_steps_so laws p lines b fit c = steps_so laws p fit lines b.held b.piles b.passing c

pub carried_may_step : IsGiven → CarriedMayStep
carried_may_step laws p lines b fit c = may_step laws p fit lines b.held b.piles b.passing c

pub steps_carry : IsGiven → StepsCarry
steps_carry laws p lines more b to fit c goes = carry laws p fit lines more b to c goes

module _ (laws : IsGiven) (p : Program) (fit : IsFit p) where
  pub carried_at : (count : ℕ) (lines : List Label) (b : Point) → GoOn Passes p count (start_of p) lines b → IsCarried p lines b
  carried_at zero lines b (none, is) =
      subst (λ (x : Point). IsCarried p lines x) (sym is) (subst (λ (ls : List Label). IsCarried p ls (start_of p)) (sym none) (first_carried p))
  carried_at (suc count) lines b (mid, before, more, goes, further, is) =
      subst (λ (ls : List Label). IsCarried p ls b) (sym is) (carry laws p fit before more mid b (carried_at count before mid goes) further)

  abbrev arrived : (lines : List Label) (b : Point) → IsCarried p lines b → Arrives p p.types.now lines b
  arrived lines b c = record {
    steps = c.come.steps;
    world = c.come.world;
    ahead = c.come.ahead;
    reached = c.come.reached;
    point = c.come.point;
    same_lines = c.come.same_lines;
    none = c.come.none;
  }

  of_machine : (end : RunEnd) (lines : List Label) (h : Held) → IsRun Passes p (start_of p) end lines h → LeavesWorld p.graph.now p.types.now p.script.now lines end h
  of_machine end lines h run = by_last (carried_at run.goes.count run.before run.last run.goes.steps) run.ends
    where
      by_last : IsCarried p run.before run.last → EndsBy Passes p run.last end run.more h → LeavesWorld p.graph.now p.types.now p.script.now lines end h
      by_last c (last, b, (d, taken, is, kept_so), same_end, told, left) =
          let a : Arrives p p.types.now run.before run.last = arrived run.before run.last c in
          let agreed : RuleAgrees p.graph.now p.types.now p.script.now a.ahead a.world d =
          step_is_made p p.types.now p.script.now run.last.held run.last.piles run.last.passing a.ahead a.world d (a.steps, a.reached) a.none a.point
          (may_step laws p fit run.before run.last.held run.last.piles run.last.passing c) taken in
          let m : OfMachine p p.types.now run.before b.held last = last_agrees p p.types.now run.before run.last a d last b.held agreed is kept_so in
          subst (λ (x : Held). LeavesWorld p.graph.now p.types.now p.script.now lines end x) (sym left)
          (subst (λ (x : RunEnd). LeavesWorld p.graph.now p.types.now p.script.now lines x (handed b.held)) (sym same_end)
          (subst (λ (ls : List Label). LeavesWorld p.graph.now p.types.now p.script.now ls last.end (handed b.held)) (sym (run.lines_are ∙ ap (λ (ls : List Label). run.before ++ ls) told))
          (record { run = m.run; stands = m.stands })))

pub runs_leave_worlds : IsGiven → RunsLeaveWorlds
runs_leave_worlds laws p end lines h fit run = of_machine laws p fit end lines h run

pub runs_are_of_machine : IsGiven → RunsAreOfMachine
runs_are_of_machine laws p end lines h fit run = (of_machine laws p fit end lines h run).run
