-- Where arguments, results and elements are passed, their lowering asks for places only where a function gives them.
use Rattle.std.proofs.Common.{◌≡◌, ◌∙◌, ◌||◌, ℕ, Bool, true, false, List, [], ◌∷◌, map, refl, sym, ap, subst, Option, Some, None, Ok, Err, if◌then◌else◌}
use Rattle.std.specs.Prelude.{IsSome}
use Rattle.wasm_store.specs.Store.{Store, found_at}
use Rattle.syntax_trees.specs.declared.types.ValType.{ValType}
use Rattle.syntax_trees.specs.declared.types.Param.{Param}
use Rattle.syntax_trees.specs.declared.types.FuncType.{FuncType}
use Rattle.syntax_trees.specs.declared.value.Value.{Value}
use Rattle.syntax_trees.specs.declared.value.Value.TheViews as value
use Rattle.laid_types.specs.Lists.{has_list, held_list}
use Rattle.stream_ends.specs.declared.side.Side.TheVariants.{Reader}
use Rattle.stream_ends.specs.declared.open_copy.OpenCopy.{OpenCopy}
use Rattle.tasks.specs.declared.phase.Resolution.TheVariants.{Returned}
use Rattle.tasks.specs.Tasks.{resolving_fault}
use Rattle.builtin_kinds.specs.declared.EndKind.{EndKind}
use Rattle.comp_graph.specs.declared.graph.FuncRef.{FuncRef}
use Rattle.comp_graph.specs.declared.graph.Lower.{Lower}
use Rattle.comp_graph.specs.declared.graph.Options.{Options}
use Rattle.comp_graph.specs.declared.graph.CanonFunc.{CanonFunc}
use Rattle.comp_graph.specs.declared.graph.CanonFunc.TheVariants as canon
use Rattle.comp_graph.specs.Needs.{flat_param_limit, flat_result_limit, lift_needs_realloc, lower_needs_realloc, hold_list}
use Rattle.comp_graph.specs.Graph.{Graph, Lifted}
use Rattle.trace_labels.specs.declared.label.Label.{Label}
use Rattle.trace_labels.specs.declared.label.Label.TheVariants as line
use Rattle.trace_labels.specs.declared.trap.TrapName.{TrapName}
use Rattle.trace_labels.specs.declared.typed.TypedValue.{TypedValue}
use Rattle.abi_machine.specs.Traps.{task_name}
use Rattle.abi_machine.specs.LoweringOver.{stored, flat_lowered, placed}
use Rattle.abi_machine.specs.Control.{EndRef, After, Replies, Finishes}
use Rattle.abi_machine.specs.World.{Callee, Init, Func, Destroys, Subtask, Caller, Nobody, Host, Guest, Acting, Task, World}
use Rattle.abi_machine.specs.Edits.{in_state, resolved}
use Rattle.abi_machine.specs.Canons.{func_address, realloc_of, canon_at, inst_of_canon, options_of_canon, lifted_of, destructor_of, defines}
use Rattle.abi_machine.specs.Reading.{acting, func_of}
use Rattle.abi_machine.specs.Counting.{task_view}
use Rattle.abi_machine.specs.Lifting.{Kept, Stopped, Came, by_world, once_lifted}
use Rattle.abi_machine.specs.LiftingOver as over
use Rattle.abi_machine.specs.Pausing.{entries_by}
use Rattle.abi_machine.specs.Passing.{params_type, params_pass, result_passes, passed_limit, arguments_lifted, result_lifted, elements_lifted, arguments_plan, result_plan, elements_plan, last_of}
use Rattle.abi_machine.specs.Turn.{Turn, Steps, Ends, Stuck, behind, given, unless_fault}
use Rattle.abi_machine.specs.Entering.{with_arguments, arguments_passed, arguments_turn, entered}
use Rattle.abi_machine.specs.Returning.{typed_result, result_passed, post_return, finished, passed_to, passed_on, resolves_to, resolves}
use Rattle.abi_machine.specs.Copying.{next_place, elements_written, elements_read, moved_by}
use Rattle.abi_machine.specs.sound.GraphFuncs.{IsOfGraph}
use Rattle.abi_machine.specs.sound.CallsFit.{IsDestroying, CallsSo, IsCopyBy}
use Rattle.script_reader.specs.Script.{AreOfTypes}
use Rattle.abi_machine.specs.sound.Fitting.{FitsCall}
use Rattle.abi_machine.specs.sound.Places.{AsksWell}
use Rattle.abi_machine.proofs.sound.Found.{some_same}
use Rattle.abi_machine.proofs.sound.Lifts.{Leaves as LeavesWith}
use Rattle.abi_machine.proofs.sound.Lifted.{arguments_keep, result_keeps, elements_keep}
use Rattle.abi_machine.proofs.sound.places.Plans.{left_one, right_one, either_asks, flat_asks, stored_asks, placed_asks, each_asks, entries_ask}
use Rattle.abi_machine.proofs.sound.places.Texts.{Comes, Says, SayAll, load_says, load_list_says, lift_flat_says}
use Rattle.abi_machine.proofs.sound.places.Fits.{params_list, record_says}

-- A step after which what comes next asks only where it may.
abbrev pub GoesWell : Turn → Type 0
GoesWell (Steps labels v) = AsksWell v.control
GoesWell (Ends end) = Unit {0}
GoesWell Stuck = Unit {0}

pub either_well : (b : Bool) (t u : Turn) → GoesWell t → GoesWell u → GoesWell (if b then t else u)
either_well true t u h i = h
either_well false t u h i = i

pub given_well : {A : Type 0} (o : Option A) (f : A → Turn) → ((x : A) → o ≡ Some x → GoesWell (f x)) → GoesWell (given o f)
given_well None f h = tt
given_well (Some x) f h = h x refl

pub behind_well : (lines : List Label) (t : Turn) → GoesWell t → GoesWell (behind lines t)
behind_well lines (Steps labels w) h = h
behind_well lines (Ends end) h = tt
behind_well lines Stuck h = tt

pub fault_well : {F : Type 0} (t : ℕ) (name : F → TrapName) (o : Option F) (w : World) (more : Turn) → GoesWell more → GoesWell (unless_fault t name o w more)
fault_well t name None w more h = h
fault_well t name (Some fault) w more h = tt

-- the functions that give places, of a graph in a store
pub record HasGivers (g : Graph) (st : Store) : Type 0 where
  pub lifts : (callee : Callee) (f : Lifted) → IsOfGraph g callee → func_of callee ≡ Some f → lift_needs_realloc f.func_type ≡ true → IsSome (realloc_of st f.options)
  pub lowers : (number : ℕ) (l : Lower) → canon_at g number ≡ Some (canon.Lower l) → lower_needs_realloc l.func_type ≡ true → IsSome (realloc_of st l.options)
  pub copies : (number : ℕ) (what : EndKind) (element : Option ValType) (c : CanonFunc) → IsCopyBy g what Reader element number → canon_at g number ≡ Some c → held_list element ≡ true → IsSome (realloc_of st (options_of_canon c))

abbrev pub IsKnown : Graph → Task → Type 0
IsKnown g task = FitsCall g task.callee task.caller × IsOfGraph g task.callee

-- what a result holds
abbrev pub ResultSays : Type 0 → Option TypedValue → Type 0
ResultSays B None = Unit {0}
ResultSays B (Some r) = Says B r.value

made_says : {A C : Type 0} (P : A → Type 0) (Q : C → Type 0) (f : A → C) (came : Came A) → ((x : A) → P x → Q (f x)) → Comes P came → Comes Q (over.made f came)
made_says P Q f (Ok x) keeps h = keeps x.0 h
made_says P Q f (Err stop) keeps h = tt

either_says : {A : Type 0} (P : A → Type 0) (b : Bool) (x y : Came A) → Comes P x → Comes P y → Comes P (if b then x else y)
either_says P true x y h i = h
either_says P false x y h i = i

pub arguments_say : (i callee : ℕ) (B : Type 0) (is_async : Bool) (f : FuncType) → (has_list (params_type f) ≡ true → B) → (bytes words : List ℕ) (w : World) → Comes (Says B) (arguments_lifted i callee is_async f bytes words w)
unfolding arguments_lifted
arguments_say i callee B is_async f may bytes words w =
    either_says (Says B) (params_pass (passed_limit is_async) f) _ _ (load_says (by_world i callee) B (params_type f) may bytes _ _) (lift_flat_says (by_world i callee) B (params_type f) may bytes words _)

value_says : (i t limit : ℕ) (B : Type 0) (type : ValType) → (has_list type ≡ true → B) → (bytes words : List ℕ) (w : World) → Comes (Says B) (result_lifted i t limit type bytes words w)
unfolding result_lifted
value_says i t limit B type may bytes words w =
    either_says (Says B) (result_passes limit (Some type)) _ _ (load_says (by_world i t) B type may bytes _ _) (lift_flat_says (by_world i t) B type may bytes words _)

pub result_says : (i t limit : ℕ) (B : Type 0) (type : Option ValType) → (held_list type ≡ true → B) → (options : Options) (words : List ℕ) (w : World) → Comes (ResultSays B) (result_passed i t limit type options words w)
unfolding result_passed
result_says i t limit B None may options words w = tt
result_says i t limit B (Some type) may options words w = made_says (Says B) (ResultSays B) (typed_result type) _ (λ v k. k) (value_says i t limit B type may _ words w)

elements_say : (i t : ℕ) (B : Type 0) (type : ValType) → (has_list type ≡ true → B) → (bytes : List ℕ) (place count : ℕ) (w : World) → Comes (SayAll B) (elements_lifted i t type bytes place count w)
unfolding elements_lifted
elements_say i t B type may bytes place count w = load_list_says (by_world i t) B type may bytes place count _

-- What follows a result.
post_return_well : (t : ℕ) (f : Lifted) (ended : List ℕ) (ref : Option FuncRef) (u : World) → GoesWell (post_return t f ended ref u)
unfolding post_return
post_return_well t f ended None u = tt
post_return_well t f ended (Some ref) u = given_well (found_at u.store.funcs (func_address u.store ref)) _ (λ function e. tt)

pub finished_well : (follows : After) (u : World) → GoesWell (finished follows u)
unfolding finished
finished_well Replies u = given_well (acting u) _ (λ a e. tt)
finished_well (Finishes ended) u = given_well (acting u) _ (λ a e. given_well (func_of a.1.callee) _ (λ f k. post_return_well a.0 f ended f.options.post_return u))

module _ (g : Graph) (st : Store) where
  -- what is lifted leaves the store
  abbrev pub SameStore : {A : Type 0} → Came A → Type 0
  SameStore came = LeavesWith (λ (k : Kept). k.world.store ≡ st) (λ (stop : Stopped). stop.world.store ≡ st) came

  pub lifted_well : {A : Type 0} (P : A → Type 0) (t : ℕ) (came : Came A) (more : A → World → Turn) → Comes P came → SameStore came → ((x : A) (u : World) → P x → u.store ≡ st → GoesWell (more x u)) → GoesWell (once_lifted t came more)
  lifted_well P t (Ok x) more says same h = behind_well x.1.lines (more x.0 x.1.world) (h x.0 x.1.world says same)
  lifted_well P t (Err stop) more says same h = tt

  -- Arguments.
  with_arguments_well : (t : ℕ) (f : Lifted) (v : Value) (u : World) → u.store ≡ st → (lift_needs_realloc f.func_type ≡ true → IsSome (realloc_of st f.options)) → Says (IsSome (realloc_of st f.options)) v
      → GoesWell (with_arguments g t f v u)
  unfolding with_arguments arguments_plan
  with_arguments_well t f v u same given says =
      let A : Type 0 = IsSome (realloc_of u.store f.options) in
      let as_is : IsSome (realloc_of st f.options) → A = λ k. subst (λ (s : Store). IsSome (realloc_of s f.options)) (sym same) k in
      either_asks A (params_pass flat_param_limit f.func_type) (placed (entries_by (defines g f.instance)) (params_type f.func_type) v) (flat_lowered (entries_by (defines g f.instance)) (params_type f.func_type) v)
      (λ e. placed_asks (entries_by (defines g f.instance)) A (entries_ask (defines g f.instance) A) (params_type f.func_type) v (as_is (given (left_one (params_pass flat_param_limit f.func_type) (hold_list f.func_type) e))))
      (λ e. flat_asks (entries_by (defines g f.instance)) A (entries_ask (defines g f.instance) A) (params_type f.func_type) v (λ k. as_is (says k)))

  list_given : (f : FuncType) (B : Type 0) → (lift_needs_realloc f ≡ true → B) → has_list (params_type f) ≡ true → B
  list_given f B given e = given (right_one (params_pass flat_param_limit f) (hold_list f) (params_list f e))

  abbrev types_of : Lifted → List ValType
  types_of f = map (λ (p : Param). p.val_type) f.func_type.params

  arguments_well : (t : ℕ) (f : Lifted) (caller : Caller) (u : World) → u.store ≡ st → (lift_needs_realloc f.func_type ≡ true → IsSome (realloc_of st f.options)) → (callee : Callee) → func_of callee ≡ Some f → FitsCall g callee caller
      → GoesWell (arguments_turn g t f caller u)
  unfolding arguments_turn arguments_passed
  arguments_well t f Nobody u same given callee runs fits = tt
  arguments_well t f (Host call values) u same given callee runs fits =
      let one : fits.0 ≡ f = some_same (sym (ap func_of fits.1) ∙ runs) in
      with_arguments_well t f (value.Record values) u same given
      (record_says (IsSome (realloc_of st f.options)) (types_of f) values (subst (λ (x : Lifted). AreOfTypes (types_of x) values) one fits.2) (list_given f.func_type (IsSome (realloc_of st f.options)) given))
  arguments_well t f (Guest subtask) u same given callee runs fits =
      given_well (canon_at g subtask.canon) _ (λ c e.
      lifted_well (Says (IsSome (realloc_of st f.options))) t (arguments_passed t f subtask c u) (λ v later. with_arguments g t f v later)
      (arguments_say (inst_of_canon c) t (IsSome (realloc_of st f.options)) (options_of_canon c).is_async f.func_type (list_given f.func_type (IsSome (realloc_of st f.options)) given) _ subtask.words u)
      (arguments_keep (inst_of_canon c) t (λ (x : World). x.store ≡ st) (Unit {0}) (λ i index v may k. k) (λ i index v may k. k) (λ index v used there k. k) (options_of_canon c).is_async f.func_type (λ b. tt) _ subtask.words u same)
      (λ v later says still. with_arguments_well t f v later still given says))

  pub entered_well : (t : ℕ) (task : Task) (f : Lifted) (u : World) → u.store ≡ st → HasGivers g st → IsKnown g task → func_of task.callee ≡ Some f → GoesWell (entered g t task f u)
  unfolding entered
  entered_well t task f u same givers known runs =
      behind_well (line.Enter t ∷ []) (arguments_turn g t f task.caller (in_state t Acting u))
      (arguments_well t f task.caller (in_state t Acting u) same (givers.lifts task.callee f known.1 runs) task.callee runs known.0)

  -- Results. A destructor has none.
  no_result : (callee : Callee) (f : Lifted) → IsOfGraph g callee → IsDestroying callee → func_of callee ≡ Some f → held_list f.func_type.result ≡ true → ⊥
  no_result Init f of_graph destroys runs e = destroys
  no_result (Func x) f of_graph destroys runs e = destroys
  no_result (Destroys resource x) f of_graph destroys runs e =
      (let none : held_list (destructor_of of_graph.0.instance of_graph.1).func_type.result ≡ true = subst (λ (y : Lifted). held_list y.func_type.result ≡ true) (sym (of_graph.4 ∙ some_same runs)) e in cc)

  -- the canonical function by which a task was called has a function that gives places, where the result asks for one
  result_given : (number : ℕ) (c : CanonFunc) (callee : Callee) (f : Lifted) → HasGivers g st → canon_at g number ≡ Some c → CallsSo c callee → IsOfGraph g callee → func_of callee ≡ Some f → held_list f.func_type.result ≡ true
      → IsSome (realloc_of st (options_of_canon c))
  result_given number (canon.Lower l) callee f givers at calls of_graph runs e =
      let one : lifted_of l ≡ f = some_same (sym (ap func_of calls) ∙ runs) in
      givers.lowers number l at (subst (λ (x : Lifted). held_list x.func_type.result ≡ true) (sym one) e)
  result_given number (canon.Builtin b) callee f givers at calls of_graph runs e = absurd (no_result callee f of_graph calls.0 runs e)

  passed_to_well : (t : ℕ) (subtask : Subtask) (c : CanonFunc) (follows : After) (r : TypedValue) (u : World) → u.store ≡ st → Says (IsSome (realloc_of st (options_of_canon c))) r.value → GoesWell (passed_to g t subtask c follows r u)
  unfolding passed_to result_plan
  passed_to_well t subtask c follows r u same says =
      let A : Type 0 = IsSome (realloc_of u.store (options_of_canon c)) in
      let as_is : IsSome (realloc_of st (options_of_canon c)) → A = λ k. subst (λ (s : Store). IsSome (realloc_of s (options_of_canon c))) (sym same) k in
      let own : ℕ → Bool = defines g (inst_of_canon c) in
      either_asks A ((options_of_canon c).is_async || result_passes flat_result_limit (Some r.val_type)) (stored (entries_by own) r.val_type r.value (last_of subtask.words)) (flat_lowered (entries_by own) r.val_type r.value)
      (λ e. stored_asks (entries_by own) A (entries_ask own A) r.val_type r.value (last_of subtask.words) (λ k. as_is (says k)))
      (λ e. flat_asks (entries_by own) A (entries_ask own A) r.val_type r.value (λ k. as_is (says k)))

  passed_on_well : (t : ℕ) (caller : Caller) (follows : After) (result : Option TypedValue) (u : World) → u.store ≡ st → HasGivers g st → (callee : Callee) (f : Lifted) → func_of callee ≡ Some f → IsOfGraph g callee → FitsCall g callee caller
      → ResultSays (held_list f.func_type.result ≡ true) result → GoesWell (passed_on g t caller follows result u)
  unfolding passed_on
  passed_on_well t (Guest subtask) follows (Some r) u same givers callee f runs of_graph fits says =
      given_well (canon_at g subtask.canon) _ (λ c e.
      let calls : CallsSo c callee = subst (λ (x : CanonFunc). CallsSo x callee) (some_same (sym fits.1 ∙ e)) fits.2 in
      passed_to_well t subtask c follows r u same (λ k. result_given subtask.canon c callee f givers e calls of_graph runs (says k)))
  passed_on_well t (Guest subtask) follows None u same givers callee f runs of_graph fits says = finished_well follows u
  passed_on_well t Nobody follows result u same givers callee f runs of_graph fits says = finished_well follows u
  passed_on_well t (Host call values) follows result u same givers callee f runs of_graph fits says = finished_well follows u

  pub resolves_well : (t : ℕ) (task : Task) (f : Lifted) (follows : After) (came : Came (Option TypedValue)) → HasGivers g st → IsKnown g task → func_of task.callee ≡ Some f
      → Comes (ResultSays (held_list f.func_type.result ≡ true)) came → SameStore came → GoesWell (resolves g t task follows came)
  unfolding resolves resolves_to
  resolves_well t task f follows came givers known runs says same =
      lifted_well (ResultSays (held_list f.func_type.result ≡ true)) t came _ says same (λ result u holds still.
      fault_well t task_name (resolving_fault (task_view g u t task)) u _
      (behind_well (line.Return t result ∷ []) (passed_on g t task.caller follows result (resolved t Returned u))
      (passed_on_well t task.caller follows result (resolved t Returned u) still givers task.callee f runs known.1 known.0 holds)))

  -- of a result that is lifted
  pub result_same : (i t limit : ℕ) (type : Option ValType) (options : Options) (words : List ℕ) (u : World) → u.store ≡ st → SameStore (result_passed i t limit type options words u)
  result_same i t limit type options words u same =
      result_keeps i t (λ (x : World). x.store ≡ st) (Unit {0}) (λ i index v may k. k) (λ i index v may k. k) (λ index v used there k. k) limit type (λ b. tt) options words u same

  -- Elements.
  elements_read_well : (t : ℕ) (e : EndRef) (size : ℕ) (read : OpenCopy) (c : CanonFunc) (element : ValType) (all : List Value) (u : World) → u.store ≡ st → SayAll (IsSome (realloc_of st (options_of_canon c))) all
      → GoesWell (elements_read g t e size read c element all u)
  unfolding elements_read elements_plan
  elements_read_well t e size read c element all u same says =
      let A : Type 0 = IsSome (realloc_of u.store (options_of_canon c)) in
      let as_is : IsSome (realloc_of st (options_of_canon c)) → A = λ k. subst (λ (s : Store). IsSome (realloc_of s (options_of_canon c))) (sym same) k in
      let own : ℕ → Bool = defines g (inst_of_canon c) in
      each_asks (entries_by own) A (entries_ask own A) element all (next_place element read) (λ k. as_is (says k))

  pub moved_by_well : (t : ℕ) (e : EndRef) (call read write : OpenCopy) (reading writing : CanonFunc) (count : ℕ) (element : Option ValType) (u : World) → u.store ≡ st → HasGivers g st → IsCopyBy g e.kind Reader element read.canon
      → canon_at g read.canon ≡ Some reading → GoesWell (moved_by g t e call read write reading writing count element u)
  unfolding moved_by elements_written
  moved_by_well t e call read write reading writing count None u same givers by at = tt
  moved_by_well t e call read write reading writing count (Some element) u same givers by at =
      lifted_well (SayAll (IsSome (realloc_of st (options_of_canon reading)))) t (elements_written t write writing count element u) _
      (elements_say (inst_of_canon writing) t (IsSome (realloc_of st (options_of_canon reading))) element (givers.copies read.canon e.kind (Some element) reading by at) _ _ count u)
      (elements_keep (inst_of_canon writing) t (λ (x : World). x.store ≡ st) (Unit {0}) (λ i index v may k. k) (λ i index v may k. k) (λ index v used there k. k) element (λ b. tt) _ _ count u same)
      (λ all later says still. elements_read_well t e call.length read reading element all later still says)
