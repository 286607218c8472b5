-- What follows a part of a move: an event comes where one is to come, and then the acting task's stack goes on, or values are to be passed.
use Rattle.std.proofs.Common.{◌≡◌, ◌⊎◌, inl, inr, ◌+◌, ◌-◌, ℕ, zero, suc, List, [], ◌∷◌, ◌++◌, length, refl, sym, ap, ◌∙◌, subst, arith, Option, Some}
use Rattle.std.specs.Prelude.{IsSome}
use Rattle.std.specs.List.{slice_get}
use Rattle.std.proofs.lemmas.List.{length-map}
use Rattle.wasm_store.specs.Stack.{Stack}
use Rattle.syntax_trees.specs.declared.types.ValType.{ValType}
use Rattle.comp_graph.specs.Graph.{Graph}
use Rattle.script_reader.specs.Script.{Script}
use Rattle.trace_labels.specs.declared.label.Label.{Label}
use Rattle.trace_labels.specs.declared.trap.TrapName.{TrapName}
use Rattle.programs.specs.declared.program.Program.{Program}
use Rattle.world_parts.specs.declared.parts.Flow.{Flow}
use Rattle.world_parts.specs.declared.parts.Flow.TheVariants as flow
use Rattle.world_parts.specs.Held.{Held, Done, Gives, Traps, after, given}
use Rattle.world_parts.specs.Feed.{acting}
use Rattle.world_stacks.specs.Views.{PileView}
use Rattle.machine_runs.specs.declared.stepping.Step.{Step}
use Rattle.machine_runs.specs.Following.{stacked}
use Rattle.abi_machine.specs.declared.run_end.RunEnd.TheVariants.{Trapped}
use Rattle.abi_machine.specs.Control.{Control, Free, Doomed}
use Rattle.abi_machine.specs.Edits.{with_control}
use Rattle.abi_machine.specs.Next.{next, next_by}
use Rattle.abi_machine.specs.Run.{lines_of}
use Rattle.abi_machine.specs.Turn.{Turn, Ends, behind}
use Rattle.abi_machine.specs.World.{Task, World, first_world}
use Rattle.abi_machine.proofs.sound.Ordered.{traps_name_the_acting_task}
use Rattle.standing.specs.Stands.{Stands}
use Rattle.standing.specs.Callings.{MayGrow}
use Rattle.standing.specs.Events.{Behind}
use Rattle.standing.specs.Reaching.{GoesTo}
use Rattle.standing.specs.Tasks.{TaskStands}
use Rattle.standing.proofs.Changes.{acting_is_alike}
use Rattle.standing.proofs.Lists.{both_long}
use Rattle.standing.proofs.Reaching.{goes_then}
use Rattle.run_laws.specs.Points.{stacks_at}
use Rattle.run_laws.specs.Runs.{RuleAgrees}
use Rattle.run_laws.specs.Steps.{IsReached}
use Rattle.run_laws.proofs.Stacking.{over, step_behind, AtFlow, go_on, rests_agree, now_agrees, starts_agree, enters_agree, returns_agree, copies_agree}
use Rattle.run_laws.proofs.stays.Same.{Same}

-- What comes some turns behind one comes behind steps.
pub record AtTurns (g : Graph) (s : Script) (w : World) (P : Turn → Type 0) : Type 0 where
  pub first : List Label
  pub mid : World
  pub goes : GoesTo g s w first mid
  pub holds : P (behind first (next g s mid))

pub turns_on : (g : Graph) (s : Script) (w : World) (P : Turn → Type 0) (n : ℕ) (first : List Label) (v : World) → GoesTo g s w first v → Behind g s P n (behind first (next g s v)) → AtTurns g s w P
turns_on g s w P zero first v goes b = record { first = first; mid = v; goes = goes; holds = b }
turns_on g s w P (suc n) first v goes b = turns_on g s w P n b.0 b.1 (step_behind g s w v b.1 first b.0 (next g s v) refl goes b.2) b.3

-- A list that did not get longer is the same one.
one_longer : {A : Type 0} (xs : List A) (x : A) → length (xs ++ x ∷ []) ≡ length xs + 1
one_longer [] x = refl
one_longer (y ∷ xs) x = let more : length (xs ++ x ∷ []) ≡ length xs + 1 = one_longer xs x in omega (arith, more)

longer_not : (xs now : List (List Stack)) → now ≡ xs ++ [] ∷ [] → length now ≡ length xs → ⊥
longer_not xs now more same =
    let a : length now ≡ length (xs ++ [] ∷ []) = ap (λ (ys : List (List Stack)). length ys) more in
    let b : length (xs ++ [] ∷ []) ≡ length xs + 1 = one_longer xs [] in
    omega (arith, a, b, same)

not_grown : (xs now : List (List Stack)) → MayGrow xs now → length now ≡ length xs → now ≡ xs
not_grown xs now grow same = elim grow [
  | inl one ↦ one
  | inr more ↦ absurd (longer_not xs now more same)
]

-- How many stacks there are.
pub stacks_long : (g : Graph) (values : List ValType) (s : Script) (l : Held) (now : List (List Stack)) (v : World) → Stands g values s l now v → length now ≡ length l.tasks
stacks_long g values s l now v st =
    ap (λ (xs : List (List Stack)). length xs) st.same_stacks ∙ length-map v.tasks (λ (task : Task). task.stacks) ∙ sym (both_long (TaskStands g s) l.tasks v.tasks st.are_tasks)

-- The machine is to end in a trap, of the acting task.
pub doomed_next : (g : Graph) (s : Script) (z : World) (t : ℕ) (why : TrapName) → z.control ≡ Doomed t why → next g s z ≡ Ends (Trapped t why)
doomed_next g s z t why is = ap (λ (c : Control). next_by g s (with_control Free z) c) is

module _ (p : Program) (values : List ValType) (s : Script) (h : Held) (piles : List PileView) (w : World) (t : ℕ) (ahead : List Label) where
  abbrev g : Graph
  g = p.graph.now

  abbrev stacks : List (List Stack)
  stacks = stacks_at piles

  abbrev Agreed : Done (Step × List PileView) → Type 0
  Agreed d = RuleAgrees g values s ahead w d

  -- A trap that the machine comes to.
  pub trap_so : (l : Held) (now : List (List Stack)) (v z : World) (lines : List Label) (why : TrapName) → IsReached g s w → GoesTo g s w lines z → z.control ≡ Doomed t why → z.chain ≡ v.chain
      → Stands g values s l now z → ahead ++ l.labels ≡ lines → Agreed (Traps why l)
  trap_so l now v z lines why reached goes doomed chain st told =
      let all = goes_then g s (first_world g) w z (lines_of reached.0) lines (reached.0, reached.1, refl) goes in
      let first : slice_get z.chain 0 ≡ Some t = traps_name_the_acting_task g s all.0 z t why all.1 (doomed_next g s z t why doomed) in (
        t,
        acting_is_alike g values s l now z st ∙ first,
        record { steps = goes.0; world = z; reached = goes.1; same_lines = told ∙ goes.2; is_next = doomed_next g s z t why doomed; stacks = now; stands = st },
      )

  -- Where what is kept stands for a world before the part, in which this task acts.
  module _ (z : World) (st : Stands g values s h stacks z) (last_acts : slice_get h.chain (length h.chain - 1) ≡ Some t) (there : IsSome (slice_get z.tasks t)) where
    acts_still : (l : Held) → l.chain ≡ h.chain → acting l ≡ Gives t l
    acts_still l same = ap (λ (o : Option ℕ). given o (λ n. Gives n l)) (ap (λ (c : List ℕ). slice_get c (length c - 1)) same ∙ last_acts)

    now_same : (l : Held) (now : List (List Stack)) (v : World) → MayGrow stacks now → Stands g values s l now v → length l.tasks ≡ length h.tasks → now ≡ stacks
    now_same l now v grow there same =
        not_grown stacks now grow (stacks_long g values s l now v there ∙ same ∙ sym (stacks_long g values s h stacks z st))

    stays_one : (e : Flow) (l : Held) → (e ≡ flow.Rests) ⊎ Same h l → (e ≡ flow.Rests → ⊥) → Same h l
    stays_one e l stays apart = elim stays [
      | inl rests ↦ absurd (apart rests)
      | inr same ↦ same
    ]

    same_flow : (e : Flow) (l : Held) (now : List (List Stack)) → MayGrow stacks now → Same h l → AtFlow g values s t ahead w e l now → AtFlow g values s t ahead w e l stacks
    same_flow e l now grow same a =
        subst (λ (xs : List (List Stack)). AtFlow g values s t ahead w e l xs) (now_same (over ahead l) now a.agrees.world grow a.agrees.stands same.1) a

    pub stacked_so : (e : Flow) (l : Held) (now : List (List Stack)) → MayGrow stacks now → (e ≡ flow.Rests) ⊎ Same h l → AtFlow g values s t ahead w e l now
        → Agreed (after (stacked e piles l) (go_on g values s t ahead w piles))
    stacked_so (flow.Now words) l now grow stays a =
        let same : Same h l = stays_one (flow.Now words) l stays (λ is. let x : ⊥ = cc in x) in
        now_agrees g values s t ahead w piles l (acts_still l same.0) words (same_flow (flow.Now words) l now grow same a)
    stacked_so flow.Rests l now grow stays a = rests_agree g values s t ahead w piles l now grow a
    stacked_so (flow.Starts ref words) l now grow stays a =
        let same : Same h l = stays_one (flow.Starts ref words) l stays (λ is. let x : ⊥ = cc in x) in
        starts_agree g values s t ahead w piles l (acts_still l same.0) ref words (same_flow (flow.Starts ref words) l now grow same a)
    stacked_so flow.Enters l now grow stays a =
        let same : Same h l = stays_one flow.Enters l stays (λ is. let x : ⊥ = cc in x) in
        enters_agree g values s t ahead w piles l (acts_still l same.0) h z st there (same_flow flow.Enters l now grow same a)
    stacked_so flow.Returns l now grow stays a =
        let same : Same h l = stays_one flow.Returns l stays (λ is. let x : ⊥ = cc in x) in
        returns_agree g values s t ahead w piles l (acts_still l same.0) h z st there (same_flow flow.Returns l now grow same a)
    stacked_so (flow.Copies copying) l now grow stays a =
        let same : Same h l = stays_one (flow.Copies copying) l stays (λ is. let x : ⊥ = cc in x) in
        copies_agree g values s t ahead w piles l (acts_still l same.0) copying h z st there (same_flow (flow.Copies copying) l now grow same a)
    stacked_so (flow.Delivers r set) l now grow stays a = tt
    stacked_so (flow.Polls r set) l now grow stays a = tt
    stacked_so (flow.HearsNone r) l now grow stays a = tt
    stacked_so (flow.HearsCancel r) l now grow stays a = tt
