-- What follows a part of a step: the acting task's stack goes on, or a further one begins; or values are to be passed.
use Rattle.std.proofs.Common.{◌≡◌, ◌⊎◌, inl, inr, ◌-◌, ℕ, zero, suc, Bool, true, false, nat_eq, if◌then◌else◌, List, [], ◌∷◌, ◌++◌, length, map, slice_set, refl, sym, ap, ◌∙◌, subst, append-nil, Option, Some, None}
use Rattle.std.specs.Prelude.{IsSome}
use Rattle.std.specs.List.{slice_get}
use Rattle.std.specs.Option.{option_map, option_and_then}
use Rattle.std.proofs.lemmas.List.{length-map}
use Rattle.wasm_store.specs.Store.{Store, Function, type_of, found_at}
use Rattle.wasm_store.specs.Stack.{Stack}
use Rattle.wasm_store.specs.Step.{start, resume}
use Rattle.syntax_trees.specs.declared.types.ValType.{ValType}
use Rattle.comp_graph.specs.declared.graph.FuncRef.{FuncRef}
use Rattle.comp_graph.specs.Graph.{Graph}
use Rattle.script_reader.specs.Script.{Script}
use Rattle.trace_labels.specs.declared.label.Label.{Label}
use Rattle.world_parts.specs.declared.parts.Copying.{Copying}
use Rattle.world_parts.specs.declared.parts.Flow.{Flow}
use Rattle.world_parts.specs.declared.parts.Flow.TheVariants as flow
use Rattle.world_parts.specs.declared.parts.Rest.{Rest}
use Rattle.world_parts.specs.declared.parts.Rest.TheVariants as rest
use Rattle.world_parts.specs.Held as kept
use Rattle.world_parts.specs.Held.{Held, Done, Gives, after, given}
use Rattle.world_parts.specs.Feed.{acting, at_rest}
use Rattle.world_stacks.specs.declared.host_call.HostCall.{HostCall}
use Rattle.world_stacks.specs.declared.top.Top.{Top}
use Rattle.world_stacks.specs.declared.top.Top.TheVariants as top
use Rattle.world_stacks.specs.Moving.{started_on}
use Rattle.world_stacks.specs.Piles.{with_top, resumed_at, gone_on_from, gone_on, stacked_on, put_back, at_found, at_pile}
use Rattle.world_stacks.specs.Piles as piles_of
use Rattle.world_stacks.specs.Starting.{are_words, called_with, started, call_of, gives_words}
use Rattle.world_stacks.specs.Views.{PileView, stacks_of}
use Rattle.value_parts.specs.declared.to_pass.Passing.{Passing}
use Rattle.value_parts.specs.declared.to_pass.Passing.TheVariants as passing
use Rattle.machine_runs.specs.declared.stepping.Step.{Step}
use Rattle.machine_runs.specs.declared.stepping.Step.TheVariants as step
use Rattle.machine_runs.specs.Following.{with_piles, stacked}
use Rattle.abi_machine.specs.Canons.{func_address}
use Rattle.abi_machine.specs.Control.{Runs}
use Rattle.abi_machine.specs.Edits as world
use Rattle.abi_machine.specs.Edits.{with_control, answered_stacks}
use Rattle.abi_machine.specs.Next.{next}
use Rattle.abi_machine.specs.Reading as reading
use Rattle.abi_machine.specs.Run.{lines_of}
use Rattle.abi_machine.specs.Turn as turns
use Rattle.abi_machine.specs.Turn.{Turn, Steps, silent, behind, goes_on_with}
use Rattle.abi_machine.specs.World.{Task, World}
use Rattle.abi_machine.proofs.sound.Found.{some_same}
use Rattle.standing.specs.Stands.{Stands}
use Rattle.standing.specs.Agreeing.{acting_words, control_of, control_at, starts, enters, returns, copies, Agrees}
use Rattle.standing.specs.Callings.{MayGrow}
use Rattle.standing.specs.Reaching.{GoesTo}
use Rattle.standing.specs.Tasks.{TaskStands}
use Rattle.standing.proofs.Changes.{stacks_are_answered, acting_is_alike}
use Rattle.standing.proofs.Lists.{both_long}
use Rattle.standing.proofs.PostReturns.{address_same}
use Rattle.standing.proofs.Reaching.{goes_then, goes_step, goes_lines}
use Rattle.standing.proofs.Restacking.{set_changed, stacks_stand}
use Rattle.standing.proofs.Steps.{turn_found, behind_none}
use Rattle.run_laws.specs.Points.{pending, InTurn, stacks_at}
use Rattle.run_laws.specs.Runs.{RuleAgrees}
use Rattle.run_laws.proofs.Runs.{map_set, map_at}
use Rattle.run_laws.proofs.Turned.{piles_grow}
use Rattle.run_laws.proofs.plain.Only.{IsPlain}

-- What is kept, where these lines were told before and handed on.
abbrev pub over : List Label → Held → Held
over ahead k = record k { labels = ahead ++ k.labels }

-- A step with lines in front is the next one behind them.
pub step_behind : (g : Graph) (s : Script) (u v z : World) (first lines : List Label) (turn : Turn) → next g s v ≡ turn → GoesTo g s u first v → behind first turn ≡ Steps lines z → GoesTo g s u lines z
step_behind g s u v z first lines (Steps more x) is goes same =
    subst (λ (y : World). GoesTo g s u lines y) (steps_world same)
    (goes_lines g s u x (first ++ more) lines (steps_lines same) (goes_then g s u v x first more goes (goes_step g s v x more is)))
  where
    steps_of : Turn → List Label × World
    steps_of (Steps a b) = (a, b)
    steps_of (turns.Ends end) = (first, u)
    steps_of turns.Stuck = (first, u)

    steps_world : (let turn : Turn = Steps (first ++ more) x in turn) ≡ Steps lines z → x ≡ z
    steps_world e = ap (λ (turn : Turn). (steps_of turn).1) e

    steps_lines : (let turn : Turn = Steps (first ++ more) x in turn) ≡ Steps lines z → first ++ more ≡ lines
    steps_lines e = ap (λ (turn : Turn). (steps_of turn).0) e
step_behind g s u v z first lines (turns.Ends end) is goes same = absurd (let w : ⊥ = cc in w)
step_behind g s u v z first lines turns.Stuck is goes same = absurd (let w : ⊥ = cc in w)

-- A task is there where as many are.
as_long : {A B : Type 0} (xs : List A) (ys : List B) (n : ℕ) → length ys ≡ length xs → IsSome (slice_get xs n) → IsSome (slice_get ys n)
as_long [] ys n same there = absurd (let w : ⊥ = cc in w)
as_long (x ∷ xs) [] n same there = absurd (let w : ⊥ = cc in w)
as_long (x ∷ xs) (y ∷ ys) zero same there = refl
as_long (x ∷ xs) (y ∷ ys) (suc n) same there = as_long xs ys n (let e : length ys ≡ length xs = cc in e) there

some_task : (o : Option Task) → IsSome o → (x : Task) × (o ≡ Some x)
some_task None there = absurd (let w : ⊥ = cc in w)
some_task (Some x) there = (x, refl)

-- A core function that starts, as it is kept.
called_is : (fits : Bool) (f : Function) (address : ℕ) (words : List ℕ) (k : Stack) → (if fits then Some (start f address words) else None) ≡ Some k → start f address words ≡ k
called_is true f address words k e = some_same e
called_is false f address words k e = absurd (let w : ⊥ = cc in w)

begun_turn : (store : Store) (o : Option ℕ) (words : List ℕ) (k : Stack) (F : Stack → Turn) → option_and_then (λ address. started store address words) o ≡ Some k
    → turns.given (found_at store.funcs o) (λ x. F (start x.1 x.0 words)) ≡ F k
begun_turn store None words k F e = absurd (let w : ⊥ = cc in w)
begun_turn store (Some address) words k F e = by (slice_get store.funcs address) e
  where
    by : (q : Option Function) → called_with q address words ≡ Some k → turns.given {A = ℕ × Function} (option_map (λ f. (address, f)) q) (λ x. F (start x.1 x.0 words)) ≡ F k
    by None e = absurd (let w : ⊥ = cc in w)
    by (Some f) e = ap F (called_is (are_words (type_of f).params words) f address words k e)

-- What is known behind a part: where the machine is, and what agrees.
pub record AtFlow (g : Graph) (values : List ValType) (s : Script) (t : ℕ) (ahead : List Label) (u : World) (e : Flow) (l : Held) (now : List (List Stack)) : Type 0 where
  pub first : List Label
  pub mid : World
  pub goes : GoesTo g s u first mid
  pub agrees : Agrees g values s t [] now (Gives e (over ahead l)) (behind first (next g s mid))
  pub at_once : IsPlain e ⊎ (first ≡ [])

module _ (g : Graph) (values : List ValType) (s : Script) (t : ℕ) (ahead : List Label) (u : World) (piles : List PileView) where
  abbrev pub go_on : Passing × List PileView → Held → Done (Step × List PileView)
  go_on r k = Gives (step.GoesOn r.0, r.1) k

  abbrev Agreed : Done (Step × List PileView) → Type 0
  Agreed d = RuleAgrees g values s ahead u d

  -- At a rest of the machine.
  pub rests_so : (l : Held) (next_piles : List PileView) (lines : List Label) (z : World) → GoesTo g s u lines z → Stands g values s l (stacks_at next_piles) z → z.control ≡ control_at l
      → ahead ++ l.labels ≡ lines → Agreed (Gives (step.GoesOn passing.Nothing, next_piles) l)
  rests_so l next_piles lines z goes st control told = record {
    steps = goes.0;
    world = z;
    reached = goes.1;
    now_ahead = [];
    point = record { stands = st; control = control; none_ahead = refl };
    same_lines = told ∙ goes.2 ∙ sym (append-nil (lines_of goes.0));
  }

  -- a task may have been made
  pub rests_agree : (l : Held) (now : List (List Stack)) → MayGrow (stacks_at piles) now → AtFlow g values s t ahead u flow.Rests l now → Agreed (after (stacked flow.Rests piles l) go_on)
  rests_agree l now grow a =
      let long : length now ≡ length l.tasks =
      ap (λ (xs : List (List Stack)). length xs) a.agrees.stands.same_stacks ∙ length-map a.agrees.world.tasks (λ (task : Task). task.stacks)
      ∙ sym (both_long (TaskStands g s) l.tasks a.agrees.world.tasks a.agrees.stands.are_tasks) in
      rests_so l (with_piles (length l.tasks) piles) a.agrees.lines (with_control (control_at l) a.agrees.world)
      (step_behind g s u a.mid (with_control (control_at l) a.agrees.world) a.first a.agrees.lines (next g s a.mid) refl a.goes a.agrees.ends)
      (subst (λ (stacks : List (List Stack)). Stands g values s l stacks a.agrees.world) (sym (piles_grow piles now (length l.tasks) grow long)) a.agrees.stands) refl a.agrees.told

  -- Where the acting task is known, and no task was made.
  module _ (l : Held) (acts : acting l ≡ Gives t l) where
    abbrev stacks : List (List Stack)
    stacks = stacks_at piles

    via_acting : {A : Type 0} (F : ℕ → Held → Done A) → after (acting l) F ≡ F t l
    via_acting {A} F = ap (λ (d : Done ℕ). after d F) acts

    -- Its stack goes on with words.
    resumed_so : (words : List ℕ) (c : HostCall) (k : Stack) → resumed_at l.store words c ≡ Some k → k ≡ resume words c.waiting.stack
    resumed_so words c k e = by (gives_words l.store c.address words) (nat_eq c.waiting.count (length words)) e
      where
        by : (a b : Bool) → (if a then (if b then Some (resume words c.waiting.stack) else None) else None) ≡ Some k → k ≡ resume words c.waiting.stack
        by true true e = sym (some_same e)
        by true false e = absurd (let w : ⊥ = cc in w)
        by false b e = absurd (let w : ⊥ = cc in w)

    answered : (words : List ℕ) (p : PileView) (c : HostCall) (k : Stack) → slice_get piles t ≡ Some p → p.top ≡ top.Waits c → k ≡ resume words c.waiting.stack → AtFlow g values s t ahead u (flow.Now words) l stacks
        → Agreed (Gives (step.GoesOn passing.Nothing, slice_set piles t (with_top (top.Goes k) p)) l)
    answered words p c k there waits is a =
        let q : PileView = with_top (top.Goes k) p in
        let v : World = a.agrees.world in
        let z : World = goes_on_with t words v in
        let was : stacks_of p ≡ c.waiting.stack ∷ map (λ (x : HostCall). x.waiting.stack) p.under = ap (λ (x : Top). stacks_of (with_top x p)) waits in
        let so : answered_stacks words (stacks_of p) ≡ stacks_of q =
        ap (answered_stacks words) was ∙ ap (λ (x : Stack). x ∷ map (λ (y : HostCall). y.waiting.stack) p.under) (sym is) in
        rests_so l (slice_set piles t q) a.agrees.lines z
        (step_behind g s u a.mid z a.first a.agrees.lines (next g s a.mid) refl a.goes a.agrees.ends.1)
        (subst (λ (ss : List (List Stack)). Stands g values s l ss z)
        (set_changed stacks t (stacks_of p) (stacks_of q) (answered_stacks words) (map_at stacks_of piles t p there) so ∙ map_set stacks_of piles t q)
        (stacks_are_answered g values s l stacks v t words a.agrees.stands))
        (sym (ap (λ (r : Rest). control_of (acting_words l) r) a.agrees.ends.0)) a.agrees.told

    pub now_agrees : (words : List ℕ) → AtFlow g values s t ahead u (flow.Now words) l stacks → Agreed (after (stacked (flow.Now words) piles l) go_on)
    now_agrees words a =
        subst (λ (d : Done (Passing × List PileView)). Agreed (after d go_on))
        (sym (via_acting (λ n k. given (at_pile (gone_on k.store words) n piles) (λ r. Gives (let one : Passing × List PileView = (passing.Nothing, r.1) in one) k))))
        (by_pile (slice_get piles t) refl)
      where
        by_stack : (p : PileView) (c : HostCall) (o : Option Stack) → slice_get piles t ≡ Some p → p.top ≡ top.Waits c → resumed_at l.store words c ≡ o
            → Agreed (after (given (put_back t piles (piles_of.going o p)) (λ r. Gives (let one : Passing × List PileView = (passing.Nothing, r.1) in one) l)) go_on)
        by_stack p c None there waits is = tt
        by_stack p c (Some k) there waits is = answered words p c k there waits (resumed_so words c k is) a

        by_top : (p : PileView) (x : Top) → slice_get piles t ≡ Some p → p.top ≡ x
            → Agreed (after (given (put_back t piles (gone_on_from l.store x words p)) (λ r. Gives (let one : Passing × List PileView = (passing.Nothing, r.1) in one) l)) go_on)
        by_top p top.Empty there is = tt
        by_top p (top.Waits c) there is = by_stack p c (resumed_at l.store words c) there is refl
        by_top p (top.Goes k) there is = tt

        by_pile : (o : Option PileView) → slice_get piles t ≡ o
            → Agreed (after (given (at_found (gone_on l.store words) t piles o) (λ r. Gives (let one : Passing × List PileView = (passing.Nothing, r.1) in one) l)) go_on)
        by_pile None there = tt
        by_pile (Some p) there = by_top p p.top there refl

    -- A further one begins.
    starts_so : (ref : FuncRef) (words : List ℕ) (k : Stack) (v : World) → call_of l.store ref words ≡ Some k → l.store ≡ v.store → starts t ref words v ≡ Steps [] (with_control Runs (world.stacked t k v))
    starts_so ref words k v e same =
        begun_turn v.store (func_address v.store ref) words k (λ x. silent Runs (world.stacked t x v))
        (ap (λ (o : Option ℕ). option_and_then (λ address. started v.store address words) o) (sym (address_same v.store ref)) ∙ ap (λ (store : Store). call_of store ref words) (sym same) ∙ e)

    begun : (ref : FuncRef) (words : List ℕ) (k : Stack) (p q : PileView) → call_of l.store ref words ≡ Some k → slice_get piles t ≡ Some p → stacks_of q ≡ k ∷ stacks_of p
        → AtFlow g values s t ahead u (flow.Starts ref words) l stacks → Agreed (Gives (step.GoesOn passing.Nothing, slice_set piles t q) (at_rest rest.Runs l))
    begun ref words k p q called there is a =
        let v : World = a.agrees.world in
        let z : World = with_control Runs (world.stacked t k v) in
        rests_so (at_rest rest.Runs l) (slice_set piles t q) (a.agrees.lines ++ []) z
        (step_behind g s u a.mid z a.first (a.agrees.lines ++ []) (next g s a.mid) refl a.goes
        (a.agrees.ends.1 ∙ ap (λ (turn : Turn). behind a.agrees.lines turn) (starts_so ref words k v called a.agrees.stands.same_store)))
        (subst (λ (ss : List (List Stack)). Stands g values s l ss z)
        (set_changed stacks t (stacks_of p) (stacks_of q) (λ (xs : List Stack). k ∷ xs) (map_at stacks_of piles t p there) (sym is) ∙ map_set stacks_of piles t q)
        (stacks_stand g values s l stacks v t (λ (xs : List Stack). k ∷ xs) a.agrees.stands))
        refl (a.agrees.told ∙ sym (append-nil a.agrees.lines))

    pub starts_agree : (ref : FuncRef) (words : List ℕ) → AtFlow g values s t ahead u (flow.Starts ref words) l stacks → Agreed (after (stacked (flow.Starts ref words) piles l) go_on)
    starts_agree ref words a =
        subst (λ (d : Done (Passing × List PileView)). Agreed (after d go_on))
        (sym (via_acting (λ n k. after (started_on n ref words piles k) (λ r j. Gives (let one : Passing × List PileView = (passing.Nothing, r.1) in one) j))))
        (by_call (call_of l.store ref words) refl)
      where
        by_top : (k : Stack) (p : PileView) (x : Top) → call_of l.store ref words ≡ Some k → slice_get piles t ≡ Some p → p.top ≡ x
            → Agreed (after (after (given (put_back t piles (stacked_on x k p)) (λ r. Gives r (at_rest rest.Runs l))) (λ r j. Gives (let one : Passing × List PileView = (passing.Nothing, r.1) in one) j)) go_on)
        by_top k p top.Empty called there is =
            begun ref words k p (with_top (top.Goes k) p) called there (ap (λ (xs : List Stack). k ∷ xs) (sym (ap (λ (x : Top). stacks_of (with_top x p)) is))) a
        by_top k p (top.Waits c) called there is =
            begun ref words k p (record { top = top.Goes k; under = c ∷ p.under }) called there (ap (λ (xs : List Stack). k ∷ xs) (sym (ap (λ (x : Top). stacks_of (with_top x p)) is))) a
        by_top k p (top.Goes other) called there is = tt

        by_pile : (k : Stack) (o : Option PileView) → call_of l.store ref words ≡ Some k → slice_get piles t ≡ o
            → Agreed (after (after (given (at_found (piles_of.stacked k) t piles o) (λ r. Gives r (at_rest rest.Runs l))) (λ r j. Gives (let one : Passing × List PileView = (passing.Nothing, r.1) in one) j)) go_on)
        by_pile k None called there = tt
        by_pile k (Some p) called there = by_top k p p.top called there refl

        by_call : (o : Option Stack) → call_of l.store ref words ≡ o
            → Agreed (after (after (given o (λ k. given (at_pile (piles_of.stacked k) t piles) (λ r. Gives r (at_rest rest.Runs l)))) (λ r j. Gives (let one : Passing × List PileView = (passing.Nothing, r.1) in one) j)) go_on)
        by_call None called = tt
        by_call (Some k) called = by_pile k (slice_get piles t) called refl

    -- Values are to be passed, in the midst of the machine's next turn.
    acts_there : (h : Held) (z v : World) → Stands g values s l stacks v → Stands g values s h stacks z → IsSome (slice_get z.tasks t) → (task : Task) × (reading.acting v ≡ Some (t, task))
    acts_there h z v st before there =
        let one : length v.tasks ≡ length z.tasks =
        sym (length-map v.tasks (λ (task : Task). task.stacks)) ∙ sym (ap (λ (xs : List (List Stack)). length xs) st.same_stacks)
        ∙ ap (λ (xs : List (List Stack)). length xs) before.same_stacks ∙ length-map z.tasks (λ (task : Task). task.stacks) in
        let task : (x : Task) × (slice_get v.tasks t ≡ Some x) = some_task (slice_get v.tasks t) (as_long z.tasks v.tasks t one there) in
        let first : slice_get v.chain 0 ≡ Some t = sym (acting_is_alike g values s l stacks v st) ∙ acts_last (slice_get l.chain (length l.chain - 1)) acts in
        (task.0, ap (found_at v.tasks) first ∙ ap (option_map (λ (x : Task). (t, x))) task.1)
      where
        number_in : Done ℕ → Option ℕ
        number_in (Gives n k) = Some n
        number_in (kept.Traps why k) = None
        number_in (kept.Spent k) = None
        number_in kept.Stuck = None

        acts_last : (o : Option ℕ) → given o (λ n. Gives n l) ≡ Gives t l → o ≡ Some t
        acts_last None e = absurd (let w : ⊥ = cc in w)
        acts_last (Some n) e = ap number_in e

    passes_so : (e : Flow) (x : Passing) (F : ℕ → World → Turn) (h : Held) (z : World) (a : AtFlow g values s t ahead u e l stacks) → a.first ≡ [] → Stands g values s h stacks z → IsSome (slice_get z.tasks t)
        → behind a.first (next g s a.mid) ≡ behind a.agrees.lines (F t a.agrees.world)
        → pending g l x a.agrees.world ≡ turns.given (reading.acting a.agrees.world) (λ y. F y.0 a.agrees.world) → InTurn g values s l stacks x a.agrees.lines a.mid
    passes_so e x F h z a none before there follows is =
        let acts = acts_there h z a.agrees.world a.agrees.stands before there in
        record {
          world = a.agrees.world;
          stands = a.agrees.stands;
          turn = sym (behind_none (next g s a.mid)) ∙ ap (λ (ls : List Label). behind ls (next g s a.mid)) (sym none) ∙ follows
              ∙ ap (λ (turn : Turn). behind a.agrees.lines turn) (sym (is ∙ turn_found (reading.acting a.agrees.world) (t, acts.0) (λ y. F y.0 a.agrees.world) acts.1));
        }

    once : (e : Flow) (a : AtFlow g values s t ahead u e l stacks) → (IsPlain e → ⊥) → a.first ≡ []
    once e a apart =
        elim a.at_once [
          | inl plain ↦ absurd (apart plain)
          | inr none ↦ none
        ]

    reaches : (e : Flow) (a : AtFlow g values s t ahead u e l stacks) → a.first ≡ [] → ahead ++ l.labels ≡ lines_of a.goes.0 ++ a.agrees.lines
    reaches e a none = a.agrees.told ∙ ap (λ (ls : List Label). ls ++ a.agrees.lines) (sym none ∙ a.goes.2)

    pub enters_agree : (h : Held) (z : World) → Stands g values s h stacks z → IsSome (slice_get z.tasks t) → AtFlow g values s t ahead u flow.Enters l stacks → Agreed (after (stacked flow.Enters piles l) go_on)
    enters_agree h z before there a =
        let none : a.first ≡ [] = once flow.Enters a (λ plain. plain) in
        record {
          steps = a.goes.0;
          world = a.mid;
          reached = a.goes.1;
          now_ahead = a.agrees.lines;
          point = passes_so flow.Enters passing.Arguments (λ n w. enters g n w) h z a none before there a.agrees.ends refl;
          same_lines = reaches flow.Enters a none;
        }

    pub returns_agree : (h : Held) (z : World) → Stands g values s h stacks z → IsSome (slice_get z.tasks t) → AtFlow g values s t ahead u flow.Returns l stacks → Agreed (after (stacked flow.Returns piles l) go_on)
    returns_agree h z before there a =
        let none : a.first ≡ [] = once flow.Returns a (λ plain. plain) in
        record {
          steps = a.goes.0;
          world = a.mid;
          reached = a.goes.1;
          now_ahead = a.agrees.lines;
          point = passes_so flow.Returns passing.Returned (λ n w. returns g n (control_at l) w) h z a none before there a.agrees.ends refl;
          same_lines = reaches flow.Returns a none;
        }

    pub copies_agree : (copying : Copying) (h : Held) (z : World) → Stands g values s h stacks z → IsSome (slice_get z.tasks t) → AtFlow g values s t ahead u (flow.Copies copying) l stacks
        → Agreed (after (stacked (flow.Copies copying) piles l) go_on)
    copies_agree copying h z before there a =
        let none : a.first ≡ [] = once (flow.Copies copying) a (λ plain. plain) in
        record {
          steps = a.goes.0;
          world = a.mid;
          reached = a.goes.1;
          now_ahead = a.agrees.lines;
          point = passes_so (flow.Copies copying) (passing.Elements copying) (λ n w. copies g n copying w) h z a none before there a.agrees.ends refl;
          same_lines = reaches (flow.Copies copying) a none;
        }
