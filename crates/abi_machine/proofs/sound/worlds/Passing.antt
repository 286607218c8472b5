-- Arguments and results that tasks pass leave typed worlds.
use Rattle.std.proofs.Common.{◌≡◌, ◌∙◌, inl, inr, ℕ, List, [], ◌∷◌, refl, sym, ap, subst, Option, Some, None, Ok, Err}
use Rattle.std.specs.List.{slice_get}
use Rattle.std.specs.Option.{option_map, option_and_then, IfSome}
use Rattle.syntax_trees.specs.declared.module_types.FuncType as core
use Rattle.wasm_numbers.specs.Types.{AreWords}
use Rattle.wasm_store.specs.Store.{Function, type_of, Store, found_at}
use Rattle.wasm_store.specs.Step.{start}
use Rattle.wasm_store.specs.Typed.{StoreTyped, StackTyped}
use Rattle.syntax_trees.specs.declared.value.Value.{Value}
use Rattle.syntax_trees.specs.declared.value.Value.TheViews as value
use Rattle.tasks.specs.declared.phase.Resolution.{Resolution}
use Rattle.tasks.specs.Subtasks.{with_lend}
use Rattle.comp_graph.specs.declared.graph.FuncRef.{FuncRef}
use Rattle.comp_graph.specs.declared.graph.Options.{Options}
use Rattle.comp_graph.specs.Needs.{lift_type, post_return_type, realloc_type}
use Rattle.comp_graph.specs.Graph.{Graph, Lifted, core_type, IsReallocThere}
use Rattle.trace_labels.specs.declared.label.Label.TheVariants as line
use Rattle.lowering_laws.proofs.Bytes.{each_byte}
use Rattle.lowering_laws.proofs.Stores.{typed_start}
use Rattle.abi_machine.specs.Control.{After, Replies, Finishes}
use Rattle.abi_machine.specs.World.{Callee, Init, Func, Destroys, Subtask, Caller, Nobody, Host, Guest, Acting, Task, World}
use Rattle.abi_machine.specs.Edits.{caller_changed, by_view, entry_removed, left_set, in_state}
use Rattle.abi_machine.specs.Canons.{func_address, memory_of, realloc_of, options_of_canon, inst_of_canon, canon_at, defines}
use Rattle.abi_machine.specs.Reading.{acting, func_of, subtask_of}
use Rattle.abi_machine.specs.Lifting.{Came, once_lifted}
use Rattle.abi_machine.specs.Pausing.{entries_by}
use Rattle.abi_machine.specs.Passing.{arguments_plan, params_type}
use Rattle.abi_machine.specs.Turn.{Turn, doomed}
use Rattle.abi_machine.specs.Entering.{with_arguments, arguments_passed, arguments_turn, entered}
use Rattle.abi_machine.specs.Returning.{post_return, finished}
use Rattle.abi_machine.specs.sound.Changes.{IsFirst}
use Rattle.abi_machine.specs.sound.Firsts.{TaskIs, FirstIs}
use Rattle.abi_machine.specs.sound.GraphFuncs.{IsOfGraph}
use Rattle.abi_machine.specs.sound.Callees.{IsUsedGraph, CoreThere}
use Rattle.abi_machine.specs.sound.Owners.{HasCanons}
use Rattle.abi_machine.specs.sound.MadeInstances.{WereMade}
use Rattle.abi_machine.specs.sound.Planned.{IsPlanned}
use Rattle.abi_machine.specs.sound.TypedStacks.{core_results}
use Rattle.abi_machine.specs.sound.TypedWorlds.{GuestIs, IsGiven, types_of, memory_size, core_params, ResolvesAt, GivesPlaces}
use Rattle.abi_machine.specs.sound.Values.{IsOf, tuple_is}
use Rattle.abi_machine.proofs.sound.Found.{some_same, acting_first, acting_is}
use Rattle.abi_machine.proofs.sound.Acted.{still_is, now_is, is_as}
use Rattle.abi_machine.proofs.sound.Callees.{callee_types, core_there}
use Rattle.abi_machine.proofs.sound.places.Givers.{callee_gives}
use Rattle.abi_machine.proofs.sound.planned.Passing.{arguments_planned}
use Rattle.abi_machine.proofs.sound.planned.Reps.{reps_changed, memory_bytes}
use Rattle.abi_machine.proofs.sound.worlds.Grounds.{ground_insts, ground_state, ground_called}
use Rattle.abi_machine.proofs.sound.worlds.Turns.{IsGround, Good, behind_good, given_good, func_good, At, replied_good}
use Rattle.abi_machine.proofs.sound.planned.Lifted.{IsLifting, Gives, arguments_come}

-- Functions of the store.

pub found_there : {A : Type 0} (xs : List A) (o : Option ℕ) (n : ℕ) (x : A) → o ≡ Some n → slice_get xs n ≡ Some x → found_at xs o ≡ Some (n, x)
found_there {A} xs o n x e there = ap (found_at xs) e ∙ ap (option_map (λ (y : A). (n, y))) there

-- what is found is what is there
pub found_of : {A : Type 0} (xs : List A) (o : Option ℕ) (n : ℕ) (x : A) (p : ℕ × A) → o ≡ Some n → slice_get xs n ≡ Some x → found_at xs o ≡ Some p → p ≡ (n, x)
found_of {A} xs o n x p e there k = some_same (sym k ∙ found_there xs o n x e there)

-- a call of a function that is there, with words of its parameters
pub starts_there : (s : Store) (f : FuncRef) (type : core.FuncType) (p : ℕ × Function) (words : List ℕ) → StoreTyped s → CoreThere s f type → found_at s.funcs (func_address s f) ≡ Some p → AreWords type.params words
    → StackTyped s type.results (start p.1 p.0 words)
starts_there s f type p words typed c k fits =
    subst (λ (q : ℕ × Function). StackTyped s type.results (start q.1 q.0 words)) (sym (found_of s.funcs (func_address s f) c.address c.function p c.at c.there k))
    (typed_start s c.address c.function type words typed c.there c.of_type fits)

pub gives_places : (g : Graph) (s : Store) (options : Options) → HasCanons g s → WereMade s g.cores → IsReallocThere g.cores g.canons options.realloc → GivesPlaces s (realloc_of s options)
gives_places g s options canons made there address e = by options.realloc there e
  where
    by : (o : Option FuncRef) → IsReallocThere g.cores g.canons o → option_and_then (func_address s) o ≡ Some address → (f : Function) × (slice_get s.funcs address ≡ Some f) × (type_of f ≡ realloc_type)
    by None h k = cc
    by (Some r) h k =
        let c : CoreThere s r realloc_type = core_there g s r realloc_type canons made h in
        let same : c.address ≡ address = some_same (sym c.at ∙ k) in
        (c.function, subst (λ (n : ℕ). slice_get s.funcs n ≡ Some c.function) same c.there, c.of_type)

-- What the core function of a callee takes and gives.
pub callee_params : (callee : Callee) (f : Lifted) → func_of callee ≡ Some f → core_params callee ≡ (lift_type f.options f.func_type).params
callee_params Init f e = cc
callee_params (Func x) f e = ap (λ (y : Lifted). (lift_type y.options y.func_type).params) (some_same e)
callee_params (Destroys resource x) f e = ap (λ (y : Lifted). (lift_type y.options y.func_type).params) (some_same e)

pub callee_results : (callee : Callee) (f : Lifted) → func_of callee ≡ Some f → core_results callee ≡ (lift_type f.options f.func_type).results
callee_results Init f e = cc
callee_results (Func x) f e = ap (λ (y : Lifted). (lift_type y.options y.func_type).results) (some_same e)
callee_results (Destroys resource x) f e = ap (λ (y : Lifted). (lift_type y.options y.func_type).results) (some_same e)

-- What may be beside a lifting: the acting task, of which something holds that says nothing of its caller.
pub record Beside (g : Graph) (t : ℕ) (Q : Store → Task → Type 0) (w : World) : Type 0 where
  pub ground : IsGround g w
  pub first : IsFirst t w.chain
  pub is : TaskIs w.tasks t (Q w.store)

pub beside_lifts : (g : Graph) (t : ℕ) (Q : Store → Task → Type 0) → ((s : Store) (x : Task) (F : Subtask → Subtask) → ((y : Subtask) → (F y).canon ≡ y.canon) → Q s x → Q s (record x { caller = caller_changed F x.caller })) → IsLifting (Beside g t Q)
beside_lifts g t Q keeps = record {
  reps = λ w h. h.ground.reps;
  removed = λ i index w h. record { ground = ground_insts g w.store w.tasks w.insts (entry_removed i index w).insts None (reps_changed i _ w.insts (λ x k. (tt, k)) h.ground.reps) h.ground; first = h.first; is = h.is };
  left = λ i index w h. record { ground = ground_insts g w.store w.tasks w.insts (left_set i index w).insts None (reps_changed i _ w.insts (λ x k. k) h.ground.reps) h.ground; first = h.first; is = h.is };
  lent_so = λ n handle w h. (let F : Subtask → Subtask = λ subtask. by_view (with_lend handle) n subtask.told subtask in record {
    ground = ground_called g w.store n F w.tasks w.insts None (λ x. refl) (λ x. refl) h.ground;
    first = h.first;
    is = still_is w.tasks n t (λ x. record x { caller = caller_changed F x.caller }) (Q w.store) (λ x k. keeps w.store x F (λ y. refl) k) h.is;
  });
}

module _ (g : Graph) (P : List ℕ → Type 0) where
  -- behind what was lifted
  pub lifted_good : {A : Type 0} (R : World → Type 0) (keeps : IsLifting R) (i callee : ℕ) (So : A → Type 0) (t : ℕ) (came : Came A) (more : A → World → Turn) → Gives R keeps i callee So came
      → ((x : A) (u : World) → So x → R u → Good g P (more x u)) → Good g P (once_lifted t came more)
  lifted_good R keeps i callee So t (Ok x) more h so = behind_good g P x.1.lines (more x.0 x.1.world) (so x.0 x.1.world h.0 h.1)
  lifted_good R keeps i callee So t (Err stop) more h so = behind_good g P stop.lines (doomed t stop.why stop.world) (λ a inside. inl tt)

-- By whom a task was called.
abbrev pub canon_of : Caller → Option ℕ
canon_of caller = option_map (λ (x : Subtask). x.canon) (subtask_of caller)

canon_changed : (F : Subtask → Subtask) (c : Caller) → ((y : Subtask) → (F y).canon ≡ y.canon) → canon_of (caller_changed F c) ≡ canon_of c
canon_changed F Nobody same = refl
canon_changed F (Host call values) same = refl
canon_changed F (Guest subtask) same = ap (λ (n : ℕ). Some n) (same subtask)

pub guest_by : (Q : ℕ → Type 0) (o : Option ℕ) (c : Caller) → canon_of c ≡ o → ((n : ℕ) → o ≡ Some n → Q n) → GuestIs (λ subtask. Q subtask.canon) c
guest_by Q o Nobody e h = tt
guest_by Q o (Host call values) e h = tt
guest_by Q o (Guest subtask) e h = h subtask.canon (sym e)

-- the acting task, while it resolves
abbrev pub Resolving : Graph → Callee → Lifted → After → Option ℕ → Option Resolution → Store → Task → Type 0
Resolving g callee f follows number resolution s x = (x.state ≡ Acting) × (func_of x.callee ≡ Some f) × IsOfGraph g x.callee × ResolvesAt s follows x × (canon_of x.caller ≡ number) × (x.resolution ≡ resolution)

resolves_same : (follows : After) (s : Store) (x : Task) (F : Subtask → Subtask) → ResolvesAt s follows x → ResolvesAt s follows (record x { caller = caller_changed F x.caller })
resolves_same Replies s x F h = h
resolves_same (Finishes ended) s x F h = h

pub resolving_lifts : (g : Graph) (t : ℕ) (callee : Callee) (f : Lifted) (follows : After) (number : Option ℕ) (resolution : Option Resolution) → IsLifting (Beside g t (Resolving g callee f follows number resolution))
resolving_lifts g t callee f follows number resolution =
    beside_lifts g t (Resolving g callee f follows number resolution) (λ s x F same k. (k.0, k.1, k.2, resolves_same follows s x F k.3, canon_changed F x.caller same ∙ k.4, k.5))

abbrev pub Finishing : Graph → Lifted → After → Store → Task → Type 0
Finishing g f follows s x = (x.state ≡ Acting) × (func_of x.callee ≡ Some f) × IsOfGraph g x.callee × ResolvesAt s follows x

-- Arguments.
abbrev RunsFunc : Lifted → Store → Task → Type 0
RunsFunc f s x = func_of x.callee ≡ Some f

module _ (g : Graph) (P : List ℕ → Type 0) (used : IsUsedGraph g) where
  with_arguments_good : (t : ℕ) (callee : Callee) (f : Lifted) (v : Value) (w : World) → IsOfGraph g callee → func_of callee ≡ Some f → Beside g t (RunsFunc f) w → IsOf (params_type f.func_type) v → Good g P (with_arguments g t f v w)
  unfolding with_arguments
  with_arguments_good t callee f v w of_graph runs h is =
      λ a inside. inr (record {
        ground = h.ground;
        acts = (
          t,
          h.first,
          is_as w.tasks t (RunsFunc f w.store) _
              (λ x own. (
                (tt, gives_places g w.store f.options h.ground.canons h.ground.made (callee_gives g used callee f of_graph runs).1),
                subst (λ ts. IsPlanned (λ words. AreWords ts words) (memory_size w.store (memory_of w.store f.options)) (arguments_plan (entries_by (defines g f.instance)) f.func_type v)) (sym (callee_params x.callee f own))
                    (arguments_planned f.options f.func_type (defines g f.instance) v (memory_size w.store (memory_of w.store f.options)) is),
              )) h.is,
        );
      })

  arguments_good : (t : ℕ) (task : Task) (f : Lifted) (caller : Caller) (w : World) → IsOfGraph g task.callee → func_of task.callee ≡ Some f → IsGiven task.callee caller → Beside g t (RunsFunc f) w → Good g P (arguments_turn g t f caller w)
  unfolding arguments_turn arguments_passed
  arguments_good t task f Nobody w of_graph runs args h = tt
  arguments_good t task f (Host call values) w of_graph runs args h = with_arguments_good t task.callee f (value.Record values) w of_graph runs h (tuple_is (types_of f) values (args f runs))
  arguments_good t task f (Guest subtask) w of_graph runs args h =
      let keeps : IsLifting (Beside g t (RunsFunc f)) = beside_lifts g t (RunsFunc f) (λ s x F same k. k) in
      given_good g P (canon_at g subtask.canon) _ (λ c e.
      lifted_good g P (Beside g t (RunsFunc f)) keeps (inst_of_canon c) t (IsOf (params_type f.func_type)) t (arguments_passed t f subtask c w) (λ v later. with_arguments g t f v later)
      (arguments_come (Beside g t (RunsFunc f)) keeps (inst_of_canon c) t (options_of_canon c).is_async f.func_type _ subtask.words w (each_byte _ (memory_bytes w.store (memory_of w.store (options_of_canon c)) h.ground.bytes)) h)
      (λ v later is k. with_arguments_good t task.callee f v later of_graph runs k is))

  pub entered_good : (t : ℕ) (task : Task) (f : Lifted) (w : World) → IsGround g w → IsFirst t w.chain → slice_get w.tasks t ≡ Some task → IsOfGraph g task.callee → func_of task.callee ≡ Some f → Good g P (entered g t task f w)
  unfolding entered
  entered_good t task f w ground first there of_graph runs =
      behind_good g P (line.Enter t ∷ []) (arguments_turn g t f task.caller (in_state t Acting w))
      (arguments_good t task f task.caller (in_state t Acting w) of_graph runs (ground.tasks_are t task there).given
      (record {
        ground = ground_state g w.store t Acting w.tasks w.insts None (λ x k. tt) tt ground;
        first = first;
        is = now_is w.tasks t (λ x. record x { state = Acting }) (λ (x : Task). func_of x.callee ≡ Some f) (RunsFunc f w.store) (λ x k. k) (task, there, runs);
      }))

  -- what follows a result that reached its caller
  post_return_good : (t : ℕ) (f : Lifted) (ended : List ℕ) (ref : Option FuncRef) (w : World) → IsGround g w → FirstIs w.tasks w.chain (λ x. Unit {0}) → AreWords (post_return_type f.func_type).params ended
      → IfSome ref (λ r. CoreThere w.store r (post_return_type f.func_type)) → Good g P (post_return t f ended ref w)
  unfolding post_return
  post_return_good t f ended None w ground first fits there = λ a inside. inr (record { ground = ground; acts = tt })
  post_return_good t f ended (Some ref) w ground first fits there =
      given_good g P (found_at w.store.funcs (func_address w.store ref)) _ (λ function e.
      λ a inside. inr (record { ground = ground; acts = (starts_there w.store ref (post_return_type f.func_type) function ended ground.store there e fits, first) }))

  -- the post-return of a function that a task runs
  post_there : (w : World) (callee : Callee) (f : Lifted) → IsGround g w → IsOfGraph g callee → func_of callee ≡ Some f → IfSome f.options.post_return (λ r. CoreThere w.store r (post_return_type f.func_type))
  post_there w callee f ground of_graph runs = by f.options.post_return (callee_types g used callee f of_graph runs).post_return
    where
      by : (o : Option FuncRef) → IfSome o (λ r. core_type g.cores g.canons r ≡ Some (post_return_type f.func_type)) → IfSome o (λ r. CoreThere w.store r (post_return_type f.func_type))
      by None h = tt
      by (Some r) h = core_there g w.store r (post_return_type f.func_type) ground.canons ground.made h

  abbrev pub IsEmptyWhere : After → Type 0
  IsEmptyWhere Replies = (words : List ℕ) → P words → AreWords [] words
  IsEmptyWhere (Finishes ended) = Unit {0}

  pub finished_good : (t : ℕ) (f : Lifted) (follows : After) (w : World) → IsEmptyWhere follows → Beside g t (Finishing g f follows) w → Good g P (finished follows w)
  unfolding finished
  finished_good t f Replies w empty h =
      given_good g P (acting w) _ (λ a e.
      let same : t ≡ a.0 = some_same (sym h.first ∙ acting_first w a e) in
      replied_good g P a.0 [] w (subst (At g P w) same (record { ground = h.ground; first = h.first; is = is_as w.tasks t (Finishing g f Replies w.store) _ (λ x k. (k.0, record { asked = []; top = k.3; takes = empty })) h.is })))
  finished_good t f (Finishes ended) w empty h =
      func_good g P w _ (λ a other e k.
      let same : t ≡ a.0 = some_same (sym h.first ∙ acting_first w a e) in
      let one : h.is.0 ≡ a.1 = some_same (sym (subst (λ (n : ℕ). slice_get w.tasks n ≡ Some h.is.0) same h.is.1) ∙ acting_is w a e) in
      let runs : func_of h.is.0.callee ≡ Some other = subst (λ (x : Task). func_of x.callee ≡ Some other) (sym one) k in
      post_return_good a.0 other ended other.options.post_return w h.ground (t, h.first, (h.is.0, h.is.1, tt)) (h.is.2.3 other runs) (post_there w h.is.0.callee other h.ground h.is.2.2 runs))
