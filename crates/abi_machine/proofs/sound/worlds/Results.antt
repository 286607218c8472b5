-- Tasks that resolve leave typed worlds: their results go into what called them.
use Rattle.std.proofs.Common.{◌≡◌, ◌∙◌, inl, inr, ◌||◌, ℕ, Bool, true, false, nat_lt, List, [], ◌∷◌, map, length, refl, sym, ap, subst, Option, Some, None}
use Rattle.syntax_trees.specs.declared.module_types.ValType as core_type
use Rattle.wasm_numbers.specs.Types.{AreWords}
use Rattle.wasm_store.specs.Store.{Store}
use Rattle.wasm_store.proofs.Lists.{all_at}
use Rattle.syntax_trees.specs.declared.core_type.CoreType.{CoreType}
use Rattle.syntax_trees.specs.declared.types.ValType.{ValType}
use Rattle.syntax_trees.specs.declared.value.Value.{Value}
use Rattle.syntax_trees.specs.Flat.{flat, flat_payload, returned}
use Rattle.tasks.specs.declared.phase.Resolution.{Resolution}
use Rattle.tasks.specs.declared.phase.Resolution.TheVariants.{Returned}
use Rattle.tasks.specs.declared.phase.Cancellation.TheVariants.{NotAsked}
use Rattle.tasks.specs.declared.event.TaskTrap.{TaskTrap}
use Rattle.tasks.specs.Views.{TaskView}
use Rattle.tasks.specs.Tasks.{resolving_fault}
use Rattle.builtin_kinds.specs.declared.ResourceOp.TheVariants as resource_op
use Rattle.comp_graph.specs.declared.graph.BuiltinKind.{BuiltinKind}
use Rattle.comp_graph.specs.declared.graph.BuiltinKind.TheVariants as kind
use Rattle.comp_graph.specs.declared.graph.Lower.{Lower}
use Rattle.comp_graph.specs.declared.graph.Options.{Options}
use Rattle.comp_graph.specs.declared.graph.CanonFunc.{CanonFunc}
use Rattle.comp_graph.specs.declared.graph.CanonFunc.TheVariants as canon
use Rattle.comp_graph.specs.Needs.{core_val, lower_type, flat_result_limit}
use Rattle.comp_graph.specs.Graph.{Graph, Lifted, builtin_type, canon_type, IsReallocThere}
use Rattle.trace_labels.specs.declared.label.Label.TheVariants as line
use Rattle.trace_labels.specs.declared.typed.TypedValue.{TypedValue}
use Rattle.abi_machine.specs.Traps.{task_name}
use Rattle.abi_machine.specs.LoweringOver.{Plan, Gives, Fails, Asks, Size, Put, Adds}
use Rattle.abi_machine.specs.Control.{After, Replies, Finishes}
use Rattle.abi_machine.specs.World.{Callee, Init, Func, Destroys, Subtask, Caller, Nobody, Host, Guest, Task, World}
use Rattle.abi_machine.specs.Edits.{resolved}
use Rattle.abi_machine.specs.Canons.{memory_of, options_in, options_of_canon, inst_of_canon, options_at, canon_at, defines, lifted_of, destructor_of}
use Rattle.abi_machine.specs.Reading.{func_of}
use Rattle.abi_machine.specs.Counting.{task_view}
use Rattle.abi_machine.specs.Lifting.{Came}
use Rattle.abi_machine.specs.Pausing.{entries_by}
use Rattle.abi_machine.specs.Passing.{result_passes, result_plan}
use Rattle.abi_machine.specs.Turn.{Turn, unless_fault}
use Rattle.abi_machine.specs.Returning.{finished, passed_to, passed_on, resolves_to, resolves}
use Rattle.abi_machine.specs.sound.Answers.{IsOfCanon}
use Rattle.abi_machine.specs.sound.CallsFit.{IsDestroying, IsDrop, CallsSo}
use Rattle.abi_machine.specs.sound.Fitting.{FitsCall}
use Rattle.abi_machine.specs.sound.GraphFuncs.{IsOfGraph}
use Rattle.abi_machine.specs.sound.Callees.{IsUsedGraph}
use Rattle.abi_machine.specs.sound.Planned.{IsPlanned}
use Rattle.abi_machine.specs.sound.TypedPlans.{IsResultOf}
use Rattle.abi_machine.specs.sound.TypedWorlds.{IsSync, IsFair, HasResult, memory_size, IsResultFor, ResolvesAt}
use Rattle.abi_machine.specs.sound.Values.{IsOf}
use Rattle.abi_machine.proofs.sound.Found.{some_same}
use Rattle.abi_machine.proofs.sound.Acted.{now_is}
use Rattle.abi_machine.proofs.sound.turns.Moving.{no_fault}
use Rattle.abi_machine.proofs.sound.places.Givers.{CanonGives, all_give}
use Rattle.abi_machine.proofs.sound.planned.Passing.{core_words, returned_many, returned_few, result_planned}
use Rattle.abi_machine.proofs.sound.worlds.Grounds.{ground_pending, ground_resolved, guest_both}
use Rattle.abi_machine.proofs.sound.worlds.Turns.{Good, behind_good, given_good}
use Rattle.abi_machine.proofs.sound.planned.Lifted.{Gives as LiftGives}
use Rattle.abi_machine.proofs.sound.worlds.Passing.{Beside, lifted_good, gives_places, canon_of, guest_by, Resolving, resolving_lifts, Finishing, IsEmptyWhere, finished_good}

-- the options of the canonical function of a number
options_are : (g : Graph) (number : ℕ) (c : CanonFunc) → canon_at g number ≡ Some c → options_at g number ≡ options_of_canon c
options_are g number c e = ap options_in e

module _ (g : Graph) where
  no_destructor_result : (callee : Callee) (f : Lifted) (type : ValType) → IsOfGraph g callee → IsDestroying callee → func_of callee ≡ Some f → f.func_type.result ≡ Some type → ⊥
  no_destructor_result Init f type of_graph destroys runs e = destroys
  no_destructor_result (Func x) f type of_graph destroys runs e = destroys
  no_destructor_result (Destroys resource x) f type of_graph destroys runs e =
      (let some : (destructor_of of_graph.0.instance of_graph.1).func_type.result ≡ Some type = ap (λ (y : Lifted). y.func_type.result) (of_graph.4 ∙ some_same runs) ∙ e in cc)

  drop_results : (k : BuiltinKind) → IsDrop k → (builtin_type k).results ≡ []
  drop_results (kind.Resource resource_op.Drop resource) h = refl
  drop_results (kind.Resource resource_op.New resource) h = absurd h
  drop_results (kind.Resource resource_op.Rep resource) h = absurd h
  drop_results (kind.TaskReturn result options) h = absurd h
  drop_results (kind.Plain op) h = absurd h
  drop_results (kind.Context op slot) h = absurd h
  drop_results (kind.Wait op cancellable memory) h = absurd h
  drop_results (kind.End of_what element op) h = absurd h

  -- what a lower without `async` gives back
  sync_results : (number : ℕ) (l : Lower) → canon_at g number ≡ Some (canon.Lower l) → (options_at g number).is_async ≡ false → (canon_type (canon.Lower l)).results ≡ map core_val (returned (flat_payload l.func_type.result))
  sync_results number l at sync =
      let own : l.options.is_async ≡ false = ap (λ (o : Options). o.is_async) (sym (options_are g number (canon.Lower l) at)) ∙ sync in
      ap (λ (b : Bool). (lower_type b l.func_type).results) own

  of_canon : (number : ℕ) (c : CanonFunc) (words : List ℕ) → canon_at g number ≡ Some c → AreWords (canon_type c).results words → IsOfCanon g number words
  of_canon number c words at h other there = subst (λ (x : CanonFunc). AreWords (canon_type x).results words) (some_same (sym at ∙ there)) h

  -- a result of a function that has none
  none_result : (number : ℕ) (c : CanonFunc) (callee : Callee) (f : Lifted) → canon_at g number ≡ Some c → CallsSo c callee → func_of callee ≡ Some f → f.func_type.result ≡ None → (options_at g number).is_async ≡ false → IsOfCanon g number []
  none_result number (canon.Lower l) callee f at calls runs none sync =
      let one : lifted_of l ≡ f = some_same (sym (ap func_of calls) ∙ runs) in
      let empty : l.func_type.result ≡ None = ap (λ (x : Lifted). x.func_type.result) one ∙ none in
      of_canon number (canon.Lower l) [] at
      (subst (λ (ts : List core_type.ValType). AreWords ts []) (sym (sync_results number l at sync ∙ ap (λ (o : Option ValType). map core_val (returned (flat_payload o))) empty)) tt)
  none_result number (canon.Builtin b) callee f at calls runs none sync =
      of_canon number (canon.Builtin b) [] at (subst (λ (ts : List core_type.ValType). AreWords ts []) (sym (drop_results b.kind calls.1)) tt)

  -- the plan of one
  abbrev pub IsTaken : ℕ → List ℕ → Type 0
  IsTaken number words = (options_at g number).is_async ≡ false → IsOfCanon g number words

  plan_taken : (number : ℕ) (c : CanonFunc) (callee : Callee) (f : Lifted) (type : ValType) (v : Value) (words : List ℕ) (n : ℕ) → canon_at g number ≡ Some c → CallsSo c callee → IsOfGraph g callee → func_of callee ≡ Some f
      → f.func_type.result ≡ Some type → IsOf type v → IsPlanned (IsTaken number) n (result_plan (entries_by (defines g (inst_of_canon c))) (options_of_canon c).is_async type v words)
  plan_taken number (canon.Lower l) callee f type v words n at calls of_graph runs has is =
      let one : lifted_of l ≡ f = some_same (sym (ap func_of calls) ∙ runs) in
      let result : l.func_type.result ≡ Some type = ap (λ (x : Lifted). x.func_type.result) one ∙ has in
      let passes : Bool = result_passes flat_result_limit (Some type) in
      let not_async : (options_at g number).is_async ≡ false → l.options.is_async ≡ false = λ sync. ap (λ (o : Options). o.is_async) (sym (options_are g number (canon.Lower l) at)) ∙ sync in
      let gives : (options_at g number).is_async ≡ false → (canon_type (canon.Lower l)).results ≡ map core_val (returned (flat type)) =
      λ sync. sync_results number l at sync ∙ ap (λ (o : Option ValType). map core_val (returned (flat_payload o))) result in
      result_planned (IsTaken number) (defines g l.instance) l.options.is_async type v words n is
      (λ e sync.
      let many : nat_lt 1 (length (flat type)) ≡ true = subst (λ (b : Bool). (b || passes) ≡ true) (not_async sync) e in
      of_canon number (canon.Lower l) [] at (subst (λ (ts : List core_type.ValType). AreWords ts []) (sym (gives sync ∙ ap (λ (ts : List CoreType). map core_val ts) (returned_many (flat type) many))) tt))
      (λ e ws a sync.
      let few : nat_lt 1 (length (flat type)) ≡ false = subst (λ (b : Bool). (b || passes) ≡ false) (not_async sync) e in
      of_canon number (canon.Lower l) ws at (subst (λ (ts : List core_type.ValType). AreWords ts ws) (sym (gives sync ∙ ap (λ (ts : List CoreType). map core_val ts) (returned_few (flat type) few))) (core_words (flat type) ws a)))
  plan_taken number (canon.Builtin b) callee f type v words n at calls of_graph runs has is = absurd (no_destructor_result callee f type of_graph calls.0 runs has)

  -- the function that gives places, of a canonical function that calls one with a result
  places_given : IsUsedGraph g → (number : ℕ) (c : CanonFunc) (callee : Callee) (f : Lifted) (type : ValType) → canon_at g number ≡ Some c → CallsSo c callee → IsOfGraph g callee → func_of callee ≡ Some f
      → f.func_type.result ≡ Some type → IsReallocThere g.cores g.canons (options_of_canon c).realloc
  places_given used number (canon.Lower l) callee f type at calls of_graph runs has = (all_at (CanonGives g.cores g.canons) g.canons number (canon.Lower l) (all_give used.made) at).1
  places_given used number (canon.Builtin b) callee f type at calls of_graph runs has = absurd (no_destructor_result callee f type of_graph calls.0 runs has)

-- what a plan gives is also of a weaker property
pub planned_as : (Q R : List ℕ → Type 0) → ((ws : List ℕ) → Q ws → R ws) → (n : ℕ) (plan : Plan) → IsPlanned Q n plan → IsPlanned R n plan
planned_as Q R f n (Gives words) h = f words h
planned_as Q R f n (Fails why) h = tt
planned_as Q R f n (Asks ask k) h = (h.0, λ place later small more. planned_as Q R f later (k place) (h.1 place later small more))
planned_as Q R f n (Size k) h = planned_as Q R f n (k n) h
planned_as Q R f n (Put place bytes k) h = (h.0, h.1, planned_as Q R f n k h.2)
planned_as Q R f n (Adds entry k) h = (h.0, planned_as Q R f n (k None) h.1, λ index small. planned_as Q R f n (k (Some index)) (h.2 index small))

module _ (g : Graph) (P : List ℕ → Type 0) (used : IsUsedGraph g) where
  -- a task that resolves without a lowering
  result_now : (x : Task) (number : Option ℕ) → canon_of x.caller ≡ number → x.resolution ≡ None → ((n : ℕ) → number ≡ Some n → IsTaken g n []) → IsFair g x → HasResult g (record x { resolution = Some Returned })
  result_now x number by none taken fair =
      guest_both (λ subtask. (IsSync g subtask → x.cancellation ≡ NotAsked) × (x.resolution ≡ None → subtask.result ≡ [])) (λ subtask. IsTaken g subtask.canon []) _ x.caller
      (λ subtask own given some sync. subst (IsOfCanon g subtask.canon) (sym (own.1 none)) (given sync)) fair (guest_by (λ n. IsTaken g n []) number x.caller by taken)

  finished_so : (t : ℕ) (callee : Callee) (f : Lifted) (follows : After) (number : Option ℕ) (resolution : Option Resolution) (w : World) → IsEmptyWhere g P used follows → resolution ≡ None → ((n : ℕ) → number ≡ Some n → IsTaken g n [])
      → Beside g t (Resolving g callee f follows number resolution) w → Good g P (finished follows (resolved t Returned w))
  finished_so t callee f follows number resolution w empty none taken h =
      finished_good g P used t f follows (resolved t Returned w) empty (record {
        ground = ground_resolved g w.store t Returned w.tasks w.insts None (λ x there fair. (let same : h.is.0 ≡ x = some_same (sym h.is.1 ∙ there) in
            subst (λ (y : Task). IsFair g y → HasResult g (record y { resolution = Some Returned })) same (result_now h.is.0 number h.is.2.4 (h.is.2.5 ∙ none) taken) fair)) h.ground;
        first = h.first;
        is = now_is w.tasks t (λ x. record x { resolution = Some Returned }) (Resolving g callee f follows number resolution w.store) (Finishing g f follows w.store) (λ x k. (k.0, k.1, k.2, still_resolves follows w.store x k.3)) h.is;
      })
    where
      still_resolves : (a : After) (s : Store) (x : Task) → ResolvesAt s a x → ResolvesAt s a (record x { resolution = Some Returned })
      still_resolves Replies s x k = k
      still_resolves (Finishes ended) s x k = k

  passed_to_good : (t : ℕ) (callee : Callee) (f : Lifted) (subtask : Subtask) (c : CanonFunc) (follows : After) (r : TypedValue) (resolution : Option Resolution) (w : World) → canon_at g subtask.canon ≡ Some c → CallsSo c callee → IsOfGraph g callee → func_of callee ≡ Some f
      → f.func_type.result ≡ Some r.val_type → IsOf r.val_type r.value → Beside g t (Resolving g callee f follows (Some subtask.canon) resolution) w → Good g P (passed_to g t subtask c follows r (resolved t Returned w))
  unfolding passed_to
  passed_to_good t callee f subtask c follows r resolution w at calls of_graph runs has is h =
      λ a inside. inr (record {
        ground = ground_pending g w.store t Returned w.tasks w.insts h.ground;
        acts = (
          t,
          h.first,
          now_is w.tasks t (λ x. record x { resolution = Some Returned }) (Resolving g callee f follows (Some subtask.canon) resolution w.store) _
              (λ x k. (
                ((refl, still_resolves follows w.store x k.3), gives_places g w.store (options_of_canon c) h.ground.canons h.ground.made (places_given g used subtask.canon c callee f r.val_type at calls of_graph runs has)),
                planned_as (IsTaken g subtask.canon) (IsResultFor g (record x { resolution = Some Returned }))
                    (λ ws taken. guest_by (λ n. IsTaken g n ws) (Some subtask.canon) x.caller k.4 (λ n e. subst (λ (m : ℕ). IsTaken g m ws) (some_same e) taken))
                    (memory_size w.store (memory_of w.store (options_of_canon c))) (result_plan (entries_by (defines g (inst_of_canon c))) (options_of_canon c).is_async r.val_type r.value subtask.words)
                    (plan_taken g subtask.canon c callee f r.val_type r.value subtask.words (memory_size w.store (memory_of w.store (options_of_canon c))) at calls of_graph runs has is),
              )) h.is,
        );
      })
    where
      still_resolves : (a : After) (s : Store) (x : Task) → ResolvesAt s a x → ResolvesAt s a (record x { resolution = Some Returned })
      still_resolves Replies s x k = k
      still_resolves (Finishes ended) s x k = k

  has_result : (o : Option ValType) (r : TypedValue) → IsResultOf o (Some r) → (o ≡ Some r.val_type) × IsOf r.val_type r.value
  has_result None r h = absurd h
  has_result (Some type) r h = (ap (λ (x : ValType). Some x) (sym h.0), subst (λ (x : ValType). IsOf x r.value) (sym h.0) h.1)

  has_none : (o : Option ValType) → IsResultOf o None → o ≡ None
  has_none None h = refl
  has_none (Some type) h = absurd h

  -- how its caller called a callee of this function
  passed_on_good : (t : ℕ) (f : Lifted) (callee : Callee) (caller : Caller) (follows : After) (result : Option TypedValue) (resolution : Option Resolution) (w : World) → IsEmptyWhere g P used follows → IsOfGraph g callee → func_of callee ≡ Some f
      → FitsCall g callee caller → resolution ≡ None → IsResultOf f.func_type.result result → Beside g t (Resolving g callee f follows (canon_of caller) resolution) w → Good g P (passed_on g t caller follows result (resolved t Returned w))
  unfolding passed_on
  passed_on_good t f callee Nobody follows result resolution w empty of_graph runs fits none so h = finished_so t callee f follows None resolution w empty none (λ n e. cc) h
  passed_on_good t f callee (Host call values) follows result resolution w empty of_graph runs fits none so h =
      finished_so t callee f follows None resolution w empty none (λ n e. cc) h
  passed_on_good t f callee (Guest subtask) follows None resolution w empty of_graph runs fits none so h =
      finished_so t callee f follows (Some subtask.canon) resolution w empty none
      (λ n e sync. subst (λ (m : ℕ). IsOfCanon g m []) (some_same e) (none_result g subtask.canon fits.0 callee f fits.1 fits.2 runs (has_none f.func_type.result so) (subst (λ (m : ℕ). (options_at g m).is_async ≡ false) (sym (some_same e)) sync)))
      h
  passed_on_good t f callee (Guest subtask) follows (Some r) resolution w empty of_graph runs fits none so h =
      given_good g P (canon_at g subtask.canon) _ (λ c e.
      let result = has_result f.func_type.result r so in
      let calls : CallsSo c callee = subst (λ (x : CanonFunc). CallsSo x callee) (some_same (sym fits.1 ∙ e)) fits.2 in
      passed_to_good t callee f subtask c follows r resolution w e calls of_graph runs result.0 result.1 h)

  pub resolves_good : (t : ℕ) (task : Task) (f : Lifted) (follows : After) (came : Came (Option TypedValue)) (i : ℕ) → IsEmptyWhere g P used follows → IsOfGraph g task.callee → func_of task.callee ≡ Some f → FitsCall g task.callee task.caller
      → LiftGives (Beside g t (Resolving g task.callee f follows (canon_of task.caller) task.resolution)) (resolving_lifts g t task.callee f follows (canon_of task.caller) task.resolution) i t (IsResultOf f.func_type.result) came
      → Good g P (resolves g t task follows came)
  unfolding resolves resolves_to
  resolves_good t task f follows came i empty of_graph runs fits comes =
      lifted_good g P (Beside g t (Resolving g task.callee f follows (canon_of task.caller) task.resolution)) (resolving_lifts g t task.callee f follows (canon_of task.caller) task.resolution) i t (IsResultOf f.func_type.result) t came _ comes
      (λ result w so h.
      fault_so t (task_view g w t task) w _ (λ none.
      behind_good g P (line.Return t result ∷ []) (passed_on g t task.caller follows result (resolved t Returned w))
      (passed_on_good t f task.callee task.caller follows result task.resolution w empty of_graph runs fits (no_fault (task_view g w t task) none) so h)))
    where
      fault_so : (n : ℕ) (v : TaskView) (u : World) (more : Turn) → (resolving_fault v ≡ None → Good g P more) → Good g P (unless_fault n task_name (resolving_fault v) u more)
      fault_so n v u more k = by (resolving_fault v) refl
        where
          by : (o : Option TaskTrap) → resolving_fault v ≡ o → Good g P (unless_fault n task_name o u more)
          by None e = k e
          by (Some fault) e = λ a inside. inl tt
