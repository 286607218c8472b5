-- A task that enters: its arguments come, and its core function starts.
use Rattle.std.proofs.Common.{◌≡◌, ◌-◌, ℕ, zero, suc, Bool, true, false, nat_lt, if◌then◌else◌, List, [], ◌∷◌, ◌++◌, length, refl, sym, ap, ◌∙◌, subst, append-nil, Option, Some, None}
use Rattle.std.specs.List.{slice_get}
use Rattle.std.specs.Option.{option_map}
use Rattle.wasm_store.specs.Stack.{Stack}
use Rattle.wasm_store.specs.Store.{Store, found_at}
use Rattle.syntax_trees.specs.declared.types.FuncType.{FuncType}
use Rattle.syntax_trees.specs.declared.types.ValType.{ValType}
use Rattle.syntax_trees.specs.declared.value.Value.{Value}
use Rattle.syntax_trees.specs.declared.value.Value.TheVariants as value
use Rattle.syntax_trees.specs.Fits.{fits}
use Rattle.syntax_trees.specs.Flat.{flat_params}
use Rattle.syntax_trees.specs.declared.core_type.CoreType.{CoreType}
use Rattle.laid_types.specs.Known.{Numbered}
use Rattle.copy_engine.specs.declared.lower_values.Target.TheVariants as target
use Rattle.copy_engine.specs.Hosted.{plan_to}
use Rattle.comp_graph.specs.declared.graph.CanonFunc.{CanonFunc}
use Rattle.comp_graph.specs.declared.graph.CanonFunc.TheVariants as canon
use Rattle.comp_graph.specs.declared.graph.CoreRef.{CoreRef}
use Rattle.comp_graph.specs.declared.graph.FuncRef.{FuncRef}
use Rattle.comp_graph.specs.declared.graph.Lift.{Lift}
use Rattle.comp_graph.specs.declared.graph.Options.{Options}
use Rattle.comp_graph.specs.declared.graph.Resource.{Resource}
use Rattle.comp_graph.specs.Graph.{Graph, Lifted, lifted_as}
use Rattle.syntax_trees.specs.declared.exports.Export.{Export}
use Rattle.graph_views.specs.Callees as seen
use Rattle.graph_views.specs.Callees.{lift_of}
use Rattle.script_reader.specs.Script.{Script}
use Rattle.trace_labels.specs.declared.label.Label.{Label}
use Rattle.trace_labels.specs.declared.label.Label.TheVariants as line
use Rattle.task_table.specs.declared.caller.Caller as kept_caller
use Rattle.task_table.specs.declared.caller.Caller.TheVariants as by
use Rattle.task_table.specs.declared.errand.Callee as kept_callee
use Rattle.task_table.specs.declared.errand.Callee.TheVariants as callee
use Rattle.task_table.specs.declared.slot.TaskSlot.{TaskSlot}
use Rattle.programs.specs.declared.program.Program.{Program}
use Rattle.programs.specs.declared.program.FuncNumbers.{FuncNumbers}
use Rattle.programs.specs.Program.{numbers_of, params_in, params_of, resources_of}
use Rattle.world_parts.specs.declared.parts.Flow.{Flow}
use Rattle.world_parts.specs.declared.parts.Flow.TheVariants as flow
use Rattle.world_parts.specs.declared.parts.Rest.TheVariants as rest
use Rattle.world_parts.specs.Held as kept
use Rattle.world_parts.specs.Held.{Held, Done, Gives, Traps, Spent, after, given}
use Rattle.world_parts.specs.Feed.{at_rest}
use Rattle.world_parts.specs.Places as places
use Rattle.world_parts.specs.Slots as kept_slots
use Rattle.value_parts.specs.Coming.{Behind}
use Rattle.value_parts.specs.Passing as kept_passing
use Rattle.value_parts.specs.Passing.{arguments_lifted, arguments_by}
use Rattle.value_moves.specs.declared.lowering.Destination.{Destination}
use Rattle.value_moves.specs.Borrowing.{borrows_counted}
use Rattle.value_moves.specs.Lowering.{Site, destination_of, LowersAt, LowersInto}
use Rattle.value_moves.specs.Lowered.{Way, arguments_target, arguments_way, LowersPassed, arguments_entered, LowersArguments}
use Rattle.value_moves.specs.Entering.{ValuesCome, ArgumentsCome, started_by}
use Rattle.abi_machine.specs.LoweringOver as plans
use Rattle.abi_machine.specs.Pausing.{entries_by}
use Rattle.abi_machine.specs.declared.run_end.RunEnd.TheVariants.{Fuel}
use Rattle.abi_machine.specs.Control.{Starts, Lowering, Lowers}
use Rattle.abi_machine.specs.World.{Func, Acting, Nobody, Host, Guest, Callee, Caller, Subtask, Task, World}
use Rattle.abi_machine.specs.Edits.{with_control, in_state}
use Rattle.abi_machine.specs.Canons.{memory_of, canon_at, options_at, options_in, inst_of_canon, options_of_canon, defines}
use Rattle.abi_machine.specs.Reading as reading
use Rattle.abi_machine.specs.Reading.{func_of, task_at}
use Rattle.abi_machine.specs.Lifting.{once_lifted}
use Rattle.abi_machine.specs.Passing.{params_type, arguments_plan}
use Rattle.abi_machine.specs.Entering as entering
use Rattle.abi_machine.specs.Entering.{arguments_lowering, with_arguments, arguments_turn, entered}
use Rattle.abi_machine.specs.Lowering.{lowered, started}
use Rattle.abi_machine.specs.Turn as turns
use Rattle.abi_machine.specs.Turn.{Turn, Steps, behind}
use Rattle.abi_machine.proofs.sound.Found.{some_same}
use Rattle.standing.specs.Tasks as standing_tasks
use Rattle.standing.specs.Tasks.{CallerStands, TaskStands}
use Rattle.standing.specs.Stands.{Stands}
use Rattle.standing.specs.Agreeing.{starts, enters}
use Rattle.standing.specs.Ends.{HasMemory}
use Rattle.standing.specs.Leading.{EndsBy}
use Rattle.standing.specs.Lowers.{PlanAgrees}
use Rattle.standing.specs.Plans.{AreOwn}
use Rattle.standing.proofs.Lists.{IsFound, found_left}
use Rattle.standing.proofs.Changes.{acting_is_alike}
use Rattle.standing.proofs.Steps.{turn_found, behind_none, changed_there}
use Rattle.standing.proofs.Plans.{flat_agrees, placed_agrees}
use Rattle.run_laws.specs.Taking.{StandsMarked}
use Rattle.run_laws.specs.Lifted.{callees_of, LendsFrom}
use Rattle.run_laws.specs.Lowered.{IsSiteOf, WordsFollow, LoweredLeads}
use Rattle.run_laws.specs.Copied.{TurnLeads}
use Rattle.run_laws.specs.Entered.{MayEnter, TaskEnters}
use Rattle.run_laws.proofs.Lending.{here_in_state}
use Rattle.run_laws.proofs.Liftings.{flat_is_params, arguments_lift}
use Rattle.run_laws.proofs.Lowered.{lowers_at_leads}
use Rattle.run_laws.proofs.BesideElements.{IsBeside, KeepsBeside, lowers_beside}
use Rattle.run_laws.proofs.Giving.{AllGive, after_gives, given_gives, behind_gives}
use Rattle.run_laws.proofs.OnceLifted.{behind_leads, doomed_still, lifted_leads}
use Rattle.run_laws.proofs.Sites.{memory_there, realloc_there, at_site}
use Rattle.run_laws.proofs.Borrowed.{Counts, borrows_count}
use Rattle.run_laws.proofs.Entering.{EntersAs, entered_so}

-- The function that a task runs, as it is lifted.
pub record IsLift (g : Graph) (o : Option Lift) (f : Lifted) : Type 0 where
  pub lift : Lift
  pub is : o ≡ Some lift
  pub core : lift.core ≡ f.core
  pub options : lift.options ≡ f.options
  pub instance : lift.instance ≡ f.instance

func_same : (f k : Lifted) → (let c : Option Callee = Some (Func f) in c) ≡ Some (Func k) → f ≡ k
func_same f k e = cc

as_lift : (g : Graph) (f k : Lifted) (lift : Lift) → lift.core ≡ k.core → lift.options ≡ k.options → lift.instance ≡ k.instance → k ≡ f → IsLift g (Some lift) f
as_lift g f k lift core options instance same = record {
  lift = lift;
  is = refl;
  core = core ∙ ap (λ (x : Lifted). x.core) same;
  options = options ∙ ap (λ (x : Lifted). x.options) same;
  instance = instance ∙ ap (λ (x : Lifted). x.instance) same;
}

by_export : (g : Graph) (o : Option Export) (q : Option Lift) (f : Lifted) → option_map Func (lifted_as o q) ≡ Some (Func f) → IsLift g q f
by_export g None None f is = absurd (let w : ⊥ = cc in w)
by_export g None (Some lift) f is = absurd (let w : ⊥ = cc in w)
by_export g (Some e) None f is = absurd (let w : ⊥ = cc in w)
by_export g (Some e) (Some lift) f is =
    let k : Lifted = record { instance = lift.instance; core = lift.core; options = lift.options; func_type = e.func_type } in
    as_lift g f k lift refl refl refl (func_same k f is)

by_lower : (g : Graph) (o : Option CanonFunc) (f : Lifted) → standing_tasks.lowered_in o ≡ Some (Func f) → IsLift g (seen.lifted_in o) f
by_lower g None f is = absurd (let w : ⊥ = cc in w)
by_lower g (Some (canon.Lower l)) f is =
    let k : Lifted = record { instance = l.lift.instance; core = l.lift.core; options = l.lift.options; func_type = l.func_type } in
    as_lift g f k l.lift refl refl refl (func_same k f is)
by_lower g (Some (canon.Builtin b)) f is = absurd (let w : ⊥ = cc in w)

no_func : (resource instance : ℕ) (o : Option FuncRef) (f : Lifted) → standing_tasks.destroyed_by resource instance o ≡ Some (Func f) → ⊥
no_func resource instance None f is = cc
no_func resource instance (Some core) f is = cc

no_destructor : (resource : ℕ) (o : Option Resource) (f : Lifted) → standing_tasks.destroyed_in resource o ≡ Some (Func f) → ⊥
no_destructor resource None f is = cc
no_destructor resource (Some r) f is = no_func resource r.instance r.destructor f is

pub lift_is : (g : Graph) (c : kept_callee.Callee) (f : Lifted) → standing_tasks.callee_of g c ≡ Some (Func f) → IsLift g (lift_of g c) f
lift_is g callee.Init f is = absurd (let w : ⊥ = cc in w)
lift_is g (callee.Export number) f is = by_export g (slice_get g.exports number) (slice_get g.lifts number) f is
lift_is g (callee.Lowered number) f is = by_lower g (canon_at g number) f is
lift_is g (callee.Destroys resource) f is = absurd (no_destructor resource _ f is)

-- The plan of arguments, as core values or at a new place.
plan_by : (home : List ℕ) (is_own : ℕ → Bool) (type : ValType) (v : Value) (b : Bool) → AreOwn home is_own → fits v type ≡ true
    → PlanAgrees (plan_to (if b then target.NewPlace else target.Flat) type v home)
    (if b then plans.placed (entries_by is_own) type v else plans.flat_lowered (entries_by is_own) type v)
plan_by home is_own type v true own fit = placed_agrees home is_own type v own fit
plan_by home is_own type v false own fit = flat_agrees home is_own type v own fit

arguments_agree : (home : List ℕ) (is_own : ℕ → Bool) (f : FuncType) (v : Value) → AreOwn home is_own → fits v (params_type f) ≡ true
    → PlanAgrees (plan_to (arguments_target (params_type f)) (params_type f) v home) (arguments_plan (entries_by is_own) f v)
unfolding arguments_plan
arguments_agree home is_own f v own fit =
    let type : ValType = params_type f in
    subst (λ (n : ℕ). PlanAgrees (plan_to (if nat_lt 16 n then target.NewPlace else target.Flat) type v home) (arguments_plan (entries_by is_own) f v))
    (sym (ap (λ (c : List CoreType). length c) (flat_is_params f))) (plan_by home is_own type v (nat_lt 16 (length (flat_params f))) own fit)

-- What a number names is among the types.
numbered_in : (types : List ValType) (number : ℕ) (x : Numbered) (o : Option ValType) → option_map (λ type. (let y : Numbered = record { types = types; number = number; val_type = type } in y)) o ≡ Some x
    → x.types ≡ types
numbered_in types number x None is = absurd (let w : ⊥ = cc in w)
numbered_in types number x (Some type) is = ap (λ (y : Numbered). y.types) (sym (some_same is))

types_of_params : (p : Program) (o : Option FuncNumbers) (x : Numbered) → params_in p o ≡ Some x → x.types ≡ p.types.now
types_of_params p None x is = absurd (let w : ⊥ = cc in w)
types_of_params p (Some numbers) x is = numbered_in p.types.now numbers.params x (slice_get p.types.now numbers.params) is

-- What is kept of memories names the same.
pub memory_kept : (o : Option CoreRef) (h k : Held) → k.memories ≡ h.memories → places.memory_by o k ≡ places.memory_by o h
memory_kept None h k same = refl
memory_kept (Some m) h k same = ap (λ (all : List (Option ℕ)). places.memory_in (slice_get all m.instance)) same

-- What a task does is told by what tasks do.
pub callee_there : (all : List TaskSlot) (n : ℕ) (c : kept_callee.Callee) → slice_get (callees_of all) n ≡ Some c → (slot : TaskSlot) × (slice_get all n ≡ Some slot) × (slot.callee ≡ c)
callee_there [] n c is = absurd (let w : ⊥ = cc in w)
callee_there (x ∷ all) zero c is = (x, refl, some_same is)
callee_there (x ∷ all) (suc n) c is = callee_there all n c is

pub there_callee : (all : List TaskSlot) (n : ℕ) (slot : TaskSlot) → slice_get all n ≡ Some slot → slice_get (callees_of all) n ≡ Some slot.callee
there_callee [] n slot is = absurd (let w : ⊥ = cc in w)
there_callee (x ∷ all) zero slot is = ap (λ (y : TaskSlot). Some y.callee) (some_same is)
there_callee (x ∷ all) (suc n) slot is = there_callee all n slot is

module _ (p : Program) (values : List ValType) (s : Script) (stacks : List (List Stack)) (t : ℕ) (f : Lifted) (c : kept_callee.Callee) (runs : standing_tasks.callee_of p.graph.now c ≡ Some (Func f))
    (types : p.types.now ≡ values) (params : (x : Numbered) → params_of p c ≡ Some x → x.val_type ≡ params_type f.func_type)
    (own : (resources : List ℕ) → resources_of p f.instance ≡ Some resources → AreOwn resources (defines p.graph.now f.instance)) where
  abbrev g : Graph
  g = p.graph.now

  abbrev Leads : List Label → Done Flow → Turn → Type 0
  Leads before d turn = TurnLeads g values s t before stacks d turn

  lift : IsLift g (lift_of g c) f
  lift = lift_is g c f runs

  -- The core function of the task starts.
  started_so : (k : Held) (w : World) (words : List ℕ) → slice_get w.chain 0 ≡ Some t → slice_get (callees_of k.tasks) t ≡ Some c → Stands g values s k stacks w
      → lowered Starts words w ≡ starts t f.core words w
  unfolding lowered started
  started_so k w words first does st =
      let slot = callee_there k.tasks t c does in
      let both : IsFound (TaskStands g s) (slice_get k.tasks t) (slice_get w.tasks t) = found_left (TaskStands g s) k.tasks w.tasks t slot.0 st.are_tasks slot.1 in
      let runs_so : (let o : Option Callee = Some both.right.callee in o) ≡ Some (Func f) =
      sym both.alike.does
      ∙ ap (λ (x : TaskSlot). standing_tasks.callee_of g x.callee) (some_same (sym both.is_left ∙ slot.1))
      ∙ ap (λ (x : kept_callee.Callee). standing_tasks.callee_of g x) slot.2 ∙ runs in
      turn_found (reading.acting w) (t, both.right) _ (ap (found_at w.tasks) first ∙ ap (option_map (λ (x : Task). (t, x))) both.is_right)
      ∙ turn_found (func_of both.right.callee) f _ (ap func_of (some_same runs_so))

  -- The arguments are lowered, behind a step.
  module _ (k : Held) (w : World) (v : Value) (before first : List Label) (marked : StandsMarked g values s k stacks w) (memory : HasMemory k w f.options) (chain : slice_get w.chain 0 ≡ Some t)
      (does : slice_get (callees_of k.tasks) t ≡ Some c) (labels : k.labels ≡ before ++ first) (d : Done Flow) where
    abbrev l : Lowering
    l = arguments_lowering w.store t f

    abbrev plan : plans.Plan
    plan = arguments_plan (entries_by (defines g f.instance)) f.func_type v

    abbrev u : World
    u = with_control (Lowers l plan) w

    abbrev type : ValType
    type = params_type f.func_type

    abbrev to : Destination
    to = destination_of lift.lift.instance t lift.lift.options k

    abbrev IsLowered : Done (List ℕ) → Type 0
    IsLowered mid = LoweredLeads g values s u k.labels stacks l mid × KeepsBeside k mid

    memory_so : places.memory_of lift.lift.options k ≡ memory_of w.store f.options
    memory_so = ap (λ (options : Options). places.memory_of options k) lift.options ∙ memory

    site_of : (site : Site) (slot : TaskSlot) → slice_get k.instances to.instance ≡ Some site.instance → slice_get k.tasks t ≡ Some slot → site.context ≡ slot.context
        → IsSiteOf g values s u k stacks l to site slot
    site_of site slot inst task context = record {
      stands = marked.stands;
      instance = lift.instance;
      task = refl;
      memory = memory_there (places.memory_of lift.lift.options k) (memory_of w.store f.options) k.store w.store memory_so marked.stands.same_store;
      realloc = realloc_there k.store w.store lift.lift.options f.options marked.stands.same_store lift.options;
      inst_there = subst (λ (i : ℕ). slice_get k.instances i ≡ Some site.instance) lift.instance inst;
      task_there = task;
      context = context;
    }

    into : (x : Numbered) → params_of p c ≡ Some x → (mid : Done (List ℕ)) → LowersInto p to x v (arguments_target x.val_type) k mid → IsLowered mid
    into x is mid lowers =
        let typed : x.val_type ≡ type = params x is in
        let among : x.types ≡ values = types_of_params p (numbers_of p c) x is ∙ types in
        at_site p to k (λ site j e. LowersAt g to x.types (plan_to (arguments_target x.val_type) x.val_type v site.resources) site j e) IsLowered mid (tt, tt) (fits v x.val_type)
        (λ i slot resources inst task own_is fits_so comes.
        (let site : Site = record { instance = i; context = slot.context; resources = resources } in
        let now : LowersAt g to values (plan_to (arguments_target type) type v resources) site k mid =
        subst (λ (y : ValType). LowersAt g to values (plan_to (arguments_target y) y v resources) site k mid) typed
        (subst (λ (ts : List ValType). LowersAt g to ts (plan_to (arguments_target x.val_type) x.val_type v resources) site k mid) among comes) in
        let fit : fits v type ≡ true = subst (λ (y : ValType). fits v y ≡ true) typed fits_so in
        let mine : AreOwn resources (defines g f.instance) = own resources (subst (λ (n : ℕ). resources_of p n ≡ Some resources) lift.instance own_is) in (
          lowers_at_leads g values s u k stacks l to site slot (plan_to (arguments_target type) type v resources) plan mid refl (arguments_agree resources (defines g f.instance) f.func_type v mine fit)
              (site_of site slot inst task refl) now,
          lowers_beside g to values (plan_to (arguments_target type) type v resources) site k mid now,
        ))) lowers

    abbrev way_of : Numbered → Way
    way_of x = record { to = to; type = x; target = arguments_target x.val_type }

    way_is : arguments_way p t k ≡ given (params_of p c) (λ x. Gives (way_of x) k)
    way_is =
        let slot = callee_there k.tasks t c does in
        let by : kept_callee.Callee → Held → Done Way = λ one j.
        given (lift_of g one) (λ q. given (params_of p one) (λ x. Gives (record { to = destination_of q.instance t q.options j; type = x; target = arguments_target x.val_type }) j)) in
        ap (λ (q : Option TaskSlot). after (given q (λ slot. Gives slot.callee k)) by) slot.1
        ∙ ap (λ (one : kept_callee.Callee). by one k) slot.2
        ∙ ap (λ (q : Option Lift). given q (λ y. given (params_of p c) (λ x.
        Gives (let one : Way = record { to = destination_of y.instance t y.options k; type = x; target = arguments_target x.val_type } in one) k))) lift.is

    passed : (mid : Done (List ℕ)) → LowersPassed p t v k mid → IsLowered mid
    passed mid lowers =
        by (params_of p c) refl (subst (λ (q : Done Way). Behind q (λ way j e. LowersInto p way.to way.type v way.target j e) mid) way_is lowers)
      where
        by : (q : Option Numbered) → params_of p c ≡ q → Behind (given q (λ x. Gives (way_of x) k)) (λ way j e. LowersInto p way.to way.type v way.target j e) mid → IsLowered mid
        by None none comes = subst IsLowered (sym comes) (tt, tt)
        by (Some x) is comes = into x is mid comes

    -- Its borrow handles are counted.
    counted : (words : List ℕ) (j : Held) → AllGive (λ (all : List ℕ) q. (all ≡ words) × Counts g values s j q) (arguments_entered p t v words j)
    counted words j =
        let Q : List ℕ → Held → Type 0 = λ all q. (all ≡ words) × Counts g values s j q in
        after_gives (λ (at : ℕ) q. q ≡ j) Q (kept_slots.instance_of t j) _ (given_gives (λ (at : ℕ) q. q ≡ j) (slice_get j.tasks t) (λ slot. Gives slot.instance j) (λ slot there. refl))
        (λ at q same. given_gives Q (resources_of p at) (λ home. after (borrows_counted home t v q) (λ done r. Gives words r))
        (λ home is. after_gives (λ (done : Unit {0}) r. Counts g values s j r) Q (borrows_counted home t v q) (λ done r. Gives words r)
        (subst (λ (z : Held). AllGive (λ (done : Unit {0}) r. Counts g values s j r) (borrows_counted home t v z)) (sym same) (borrows_count g values s home t v j))
        (λ done r now. (refl, now))))

    abbrev Starting : List ℕ → Held → Done Flow → Type 0
    Starting words j e = e ≡ started_by p c words j

    -- Then its core function starts.
    starts_lead : (turn : Turn) (j q : Held) (words : List ℕ) → turn ≡ Steps first u → WordsFollow g values s u k.labels j stacks l words → IsBeside k j → Counts g values s j q
        → Leads before (Gives (flow.Starts f.core words) (at_rest rest.Runs q)) turn
    starts_lead turn j q words step follows beside counts =
        let z : World = follows.world in
        let acts : slice_get z.chain 0 ≡ Some t =
        sym (acting_is_alike g values s j stacks z follows.stands)
        ∙ ap (λ (all : List ℕ). slice_get all (length all - 1)) beside.chain ∙ acting_is_alike g values s k stacks w marked.stands ∙ chain in
        let now : lowered Starts words z ≡ starts t f.core words z = started_so j z words acts (ap (λ (all : List kept_callee.Callee). slice_get all t) beside.same_tasks ∙ does) follows.stands in
        record {
          lines = first;
          world = u;
          is = step;
          leads = record {
            lines = follows.lines;
            next = lowered Starts words z;
            meets = follows.meets;
            agrees = record {
              lines = [];
              world = z;
              stands = counts.stands stacks z follows.stands;
              told = counts.told ∙ follows.told ∙ ap (λ (ls : List Label). ls ++ follows.lines) labels ∙ sym (append-nil ((before ++ first) ++ follows.lines));
              ends = (refl, now ∙ sym (behind_none (starts t f.core words z)));
            };
          };
        }

    by_mid : (turn : Turn) → turn ≡ Steps first u → (mid : Done (List ℕ)) → IsLowered mid → (e : Done (List ℕ)) → Behind mid (λ words j e. e ≡ arguments_entered p t v words j) e → Behind e Starting d
        → Leads before d turn
    by_mid turn step (Gives words j) is e comes follows =
        behind_gives (λ (all : List ℕ) q. (all ≡ words) × Counts g values s j q) (λ (x : Done Flow). Leads before x turn) (arguments_entered p t v words j) Starting d (counted words j) tt
        (λ all q ok starts.
        subst (λ (x : Done Flow). Leads before x turn)
        (sym (starts
        ∙ ap (λ (y : Option Lift). given y (λ one. Gives (flow.Starts one.core all) (at_rest rest.Runs q))) lift.is
        ∙ ap (λ (core : FuncRef). Gives (flow.Starts core all) (at_rest rest.Runs q)) lift.core
        ∙ ap (λ (ws : List ℕ). Gives (flow.Starts f.core ws) (at_rest rest.Runs q)) ok.0))
        (starts_lead turn j q words step is.0 is.1 ok.1)) (subst (λ (x : Done (List ℕ)). Behind x Starting d) comes follows)
    by_mid turn step (Traps why j) is e comes follows =
        let same : d ≡ Traps why j = subst (λ (x : Done (List ℕ)). Behind x Starting d) comes follows in
        subst (λ (x : Done Flow). Leads before x turn) (sym same)
        (record { lines = first; world = u; is = step; leads = doomed_still g values s t k j stacks w u k.labels (before ++ first) why marked.stands is.1.chain chain labels is.0 })
    by_mid turn step (Spent j) is e comes follows =
        let same : d ≡ Spent j = subst (λ (x : Done (List ℕ)). Behind x Starting d) comes follows in
        subst (λ (x : Done Flow). Leads before x turn) (sym same)
        (record { lines = first; world = u; is = step; leads = subst (λ (ls : List Label). EndsBy g values s u ls j stacks Fuel) labels is.0 })
    by_mid turn step kept.Stuck is e comes follows =
        let same : d ≡ kept.Stuck = subst (λ (x : Done (List ℕ)). Behind x Starting d) comes follows in
        subst (λ (x : Done Flow). Leads before x turn) (sym same) tt

    arguments_lead : (turn : Turn) → turn ≡ Steps first u → (e : Done (List ℕ)) → LowersArguments p t v k e → Behind e Starting d → Leads before d turn
    arguments_lead turn step e lowers follows = by_mid turn step lowers.0 (passed lowers.0 lowers.1) e lowers.2 follows

-- The arguments are lifted, by who called.
module _ (p : Program) (values : List ValType) (s : Script) (h k : Held) (stacks : List (List Stack)) (w : World) (t : ℕ) (task : Task) (f : Lifted) (c : kept_callee.Callee)
    (o : MayEnter p values s h w t task f) (runs : standing_tasks.callee_of p.graph.now c ≡ Some (Func f)) (a : EntersAs p.graph.now values s stacks h w t c k) (d : Done Flow) where
  abbrev graph : Graph
  graph = p.graph.now

  abbrev v : World
  v = in_state t Acting w

  abbrev Continues : Value → Held → Done Flow → Type 0
  Continues x j e = (mid : Done (List ℕ)) × LowersArguments p t x j mid × Behind mid (λ words l f. f ≡ started_by p c words l) e

  memory_now : (options : Options) → HasMemory h w options → HasMemory k v options
  memory_now options has = memory_kept options.memory h k a.stage.memories ∙ has

  does_now : slice_get (callees_of k.tasks) t ≡ Some c
  does_now = there_callee k.tasks t a.slot a.there ∙ ap (λ (x : kept_callee.Callee). Some x) a.runs

  lends_now : (subtask : Subtask) (z : CanonFunc) → task.caller ≡ Guest subtask → canon_at graph subtask.canon ≡ Some z → LendsFrom v (inst_of_canon z) t (Some (params_type f.func_type))
  lends_now subtask z is found borrows =
      λ one sub there guest.
      (let same : record task { state = Acting } ≡ one = some_same (sym (changed_there t (λ (x : Task). record x { state = Acting }) w.tasks task o.acts.there) ∙ there) in
      here_in_state w t Acting (inst_of_canon z) sub.by ∙ o.lends subtask z is found borrows task sub o.acts.there (ap (λ (x : Task). x.caller) same ∙ guest))

  abbrev LeadsOn : Turn → Type 0
  LeadsOn turn = TurnLeads graph values s t k.labels stacks d turn

  lowers_lead : (x : Value) (j : Held) (later : World) (first : List Label) → StandsMarked graph values s j stacks later → HasMemory j later f.options → slice_get later.chain 0 ≡ Some t
      → slice_get (callees_of j.tasks) t ≡ Some c → j.labels ≡ k.labels ++ first → (turn : Turn)
      → turn ≡ Steps first (with_control (Lowers (arguments_lowering later.store t f) (arguments_plan (entries_by (defines graph f.instance)) f.func_type x)) later) → Continues x j d → LeadsOn turn
  lowers_lead x j later first marked memory chain does labels turn step lowers =
      arguments_lead p values s stacks t f c runs o.types (λ x is. o.params c x runs is) o.own j later x k.labels first marked memory chain does labels d turn step lowers.0 lowers.1 lowers.2

  none : d ≡ kept.Stuck → (turn : Turn) → LeadsOn turn
  none is turn = subst (λ (x : Done Flow). TurnLeads graph values s t k.labels stacks x turn) (sym is) tt

  by_guest : (x : Numbered) (subtask : Subtask) (z : CanonFunc) → params_of p c ≡ Some x → task.caller ≡ Guest subtask → canon_at graph subtask.canon ≡ Some z
      → Behind (kept_passing.arguments_passed t z x subtask.words k) Continues d
      → LeadsOn (once_lifted t (entering.arguments_passed t f subtask z v) (λ y later. with_arguments graph t f y later))
  unfolding with_arguments
  by_guest x subtask z is guest found comes =
      let among : x.types ≡ values = types_of_params p (numbers_of p c) x is ∙ o.types in
      let options : options_at graph subtask.canon ≡ options_of_canon z = ap options_in found in
      let has : HasMemory k v (options_of_canon z) = memory_now (options_of_canon z) (subst (λ (y : Options). HasMemory h w y) options (o.memories subtask.canon)) in
      let lends : LendsFrom v (inst_of_canon z) t (Some x.val_type) =
      subst (λ (y : ValType). LendsFrom v (inst_of_canon z) t (Some y)) (sym (o.params c x runs is)) (lends_now subtask z guest found) in
      lifted_leads graph values s t k stacks v o.acts.first (kept_passing.arguments_passed t z x subtask.words k) (entering.arguments_passed t f subtask z v) (λ y later. with_arguments graph t f y later) Continues d
      (arguments_lift graph values s k stacks v t f subtask z x among (o.params c x runs is) has lends a.stage.marked)
      (λ y j now came left lowers.
      lowers_lead y j now.world (now.lines ++ []) left.stands
      (memory_kept f.options.memory k j (ap (λ (q : Held). q.memories) left.kept_rest) ∙ memory_now f.options o.memory
      ∙ ap (λ (store : Store). memory_of store f.options) (sym (ap (λ (q : World). q.store) left.world_rest)))
      (ap (λ (q : World). slice_get q.chain 0) left.world_rest ∙ o.acts.first) (ap (λ (all : List kept_callee.Callee). slice_get all t) left.same_tasks ∙ does_now)
      (left.told ∙ ap (λ (ls : List Label). k.labels ++ ls) (sym (append-nil now.lines))) (behind now.lines (with_arguments graph t f y now.world)) refl lowers)
      comes

  by_caller : (x : Numbered) (q : kept_caller.Caller) (y : Caller) → params_of p c ≡ Some x → task.caller ≡ y → CallerStands s q y → Behind (arguments_by p t x q k) Continues d
      → LeadsOn (arguments_turn graph t f y v)
  unfolding arguments_turn with_arguments
  by_caller x by.Nobody Nobody is same st comes = none comes _
  by_caller x by.Nobody (Host call all) is same st comes = absurd st
  by_caller x by.Nobody (Guest subtask) is same st comes = absurd st
  by_caller x (by.Host number) Nobody is same st comes = absurd st
  by_caller x (by.Host number) (Host call all) is same st comes =
      let lowers : Continues (value.Record all) k d = subst (λ (o : Option (List Value)). Behind (given o (λ vs. Gives (value.Record vs) k)) Continues d) (o.given number all st.1) comes in
      lowers_lead (value.Record all) k v [] a.stage.marked (memory_now f.options o.memory) o.acts.first does_now (sym (append-nil k.labels)) _ refl lowers
  by_caller x (by.Host number) (Guest subtask) is same st comes = absurd st
  by_caller x (by.Guest called) Nobody is same st comes = absurd st
  by_caller x (by.Guest called) (Host call all) is same st comes = absurd st
  by_caller x (by.Guest called) (Guest subtask) is same st comes =
      by_canon (canon_at graph subtask.canon) refl
      (subst (λ (words : List ℕ). Behind (given (canon_at graph subtask.canon) (λ z. kept_passing.arguments_passed t z x words k)) Continues d) st.passed
      (subst (λ (n : ℕ). Behind (given (canon_at graph n) (λ z. kept_passing.arguments_passed t z x called.words k)) Continues d) st.by_canon comes))
    where
      by_canon : (z : Option CanonFunc) → canon_at graph subtask.canon ≡ z → Behind (given z (λ z. kept_passing.arguments_passed t z x subtask.words k)) Continues d
          → LeadsOn (turns.given z (λ z. once_lifted t (entering.arguments_passed t f subtask z v) (λ y later. with_arguments graph t f y later)))
      by_canon None found comes = none comes _
      by_canon (Some z) found comes = by_guest x subtask z is same found comes

  joined : (e : Done Value) (mid : Done (List ℕ)) → Behind e (λ x j mid. LowersArguments p t x j mid) mid → Behind mid (λ words l f. f ≡ started_by p c words l) d → Behind e Continues d
  joined (Gives x j) mid lowers follows = (mid, lowers, follows)
  joined (Traps why j) mid lowers follows = subst (λ (q : Done (List ℕ)). Behind q (λ words l f. f ≡ started_by p c words l) d) lowers follows
  joined (Spent j) mid lowers follows = subst (λ (q : Done (List ℕ)). Behind q (λ words l f. f ≡ started_by p c words l) d) lowers follows
  joined kept.Stuck mid lowers follows = subst (λ (q : Done (List ℕ)). Behind q (λ words l f. f ≡ started_by p c words l) d) lowers follows

  values_lead : (mid : Done (List ℕ)) → CallerStands s a.slot.caller task.caller → ValuesCome p t k mid → Behind mid (λ words l f. f ≡ started_by p c words l) d
      → LeadsOn (arguments_turn graph t f task.caller v)
  unfolding arguments_lifted
  values_lead mid called comes follows =
      by_params (params_of p c) refl
      (subst (λ (q : Done Value). Behind q Continues d)
      (ap (λ (q : Option TaskSlot). given q (λ slot. given (params_of p slot.callee) (λ x. arguments_by p t x slot.caller k))) a.there
      ∙ ap (λ (q : kept_callee.Callee). given (params_of p q) (λ x. arguments_by p t x a.slot.caller k)) a.runs)
      (joined (arguments_lifted p t k) mid comes follows))
    where
      by_params : (q : Option Numbered) → params_of p c ≡ q → Behind (given q (λ x. arguments_by p t x a.slot.caller k)) Continues d → LeadsOn (arguments_turn graph t f task.caller v)
      by_params None is comes = none comes _
      by_params (Some x) is comes = by_caller x a.slot.caller task.caller is refl called comes

-- It runs a lifted function.
values_so : (p : Program) (t : ℕ) (f : Lifted) (k : Held) (c : kept_callee.Callee) (mid : Done (List ℕ)) → standing_tasks.callee_of p.graph.now c ≡ Some (Func f) → ArgumentsCome p t c k mid → ValuesCome p t k mid
values_so p t f k callee.Init mid is comes = comes
values_so p t f k (callee.Export number) mid is comes = comes
values_so p t f k (callee.Lowered number) mid is comes = comes
values_so p t f k (callee.Destroys resource) mid is comes = absurd (no_destructor resource _ f is)

pub task_enters : TaskEnters
unfolding entered
task_enters p values s h stacks w t task f d o marked all =
    let g : Graph = p.graph.now in
    let v : World = in_state t Acting w in
    let turn : enters g t w ≡ behind (line.Enter t ∷ []) (arguments_turn g t f task.caller v) =
    turn_found (reading.task_at w t) task (λ task. turns.given (func_of task.callee) (λ f. entered g t task f w)) o.acts.there
    ∙ turn_found (func_of task.callee) f (λ f. entered g t task f w) o.acts.runs in
    subst (λ (q : Turn). TurnLeads g values s t h.labels stacks d q) (sym turn)
    (behind_leads g values s t h.labels (line.Enter t ∷ []) stacks d (arguments_turn g t f task.caller v)
    (behind_gives (λ c k. EntersAs g values s stacks h w t c k) (λ (x : Done Flow). TurnLeads g values s t (h.labels ++ line.Enter t ∷ []) stacks x (arguments_turn g t f task.caller v)) _ _ d
    (entered_so g values s stacks h w t marked) tt
    (λ c k a comes.
    (let both : IsFound (TaskStands g s) (slice_get k.tasks t) (slice_get v.tasks t) = found_left (TaskStands g s) k.tasks v.tasks t a.slot a.stage.marked.stands.are_tasks a.there in
    let left : both.left ≡ a.slot = some_same (sym both.is_left ∙ a.there) in
    let right : both.right ≡ record task { state = Acting } = some_same (sym both.is_right ∙ changed_there t (λ (x : Task). record x { state = Acting }) w.tasks task o.acts.there) in
    let alike : TaskStands g s a.slot (record task { state = Acting }) =
    subst (λ (x : Task). TaskStands g s a.slot x) right (subst (λ (x : TaskSlot). TaskStands g s x both.right) left both.alike) in
    let runs : standing_tasks.callee_of g c ≡ Some (Func f) =
    ap (λ (x : kept_callee.Callee). standing_tasks.callee_of g x) (sym a.runs) ∙ alike.does ∙ ap (λ (x : Callee). Some x) o.runs in
    subst (λ (ls : List Label). TurnLeads g values s t ls stacks d (arguments_turn g t f task.caller v)) a.stage.told
    (values_lead p values s h k stacks w t task f c o runs a d comes.0 alike.called (values_so p t f k c comes.0 runs comes.1) comes.2))) all))
