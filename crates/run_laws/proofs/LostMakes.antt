-- Where task 0 instantiates a rule applies: what the plan makes is there, what it imports is of the types that its module asks for, its start function takes no words, and task 0 has no stack.
use Rattle.std.proofs.Common.{◌≡◌, ◌⊎◌, inl, inr, ◌+◌, ◌-◌, ◌&&◌, ◌||◌, ℕ, zero, suc, Bool, true, false, nat_lt, is_some, if◌then◌else◌, List, [], ◌∷◌, ◌++◌, drop, length, map, slice_set, take, refl, sym, ap, ◌∙◌, subst, Option, Some, None}
use Rattle.std.specs.Prelude.{IfSome}
use Rattle.std.specs.List.{slice_get}
use Rattle.std.specs.Option.{option_and_then}
use Rattle.syntax_trees.specs.declared.module.ModuleTree.{ModuleTree}
use Rattle.syntax_trees.specs.declared.module_types.FuncType.{FuncType}
use Rattle.syntax_trees.specs.declared.module_types.ValType as core_type
use Rattle.syntax_trees.specs.declared.types.ValType.{ValType}
use Rattle.wasm_typing.specs.Modules.{Typed, StartTyped}
use Rattle.wasm_store.specs.Store.{Function, Instance, Store, type_of}
use Rattle.wasm_store.specs.Stack.{Stack}
use Rattle.wasm_store.specs.Step.{start}
use Rattle.wasm_store.specs.Instantiation.{External, Instantiation, instance_of, instantiated, InRange}
use Rattle.wasm_store.specs.Instantiation as core
use Rattle.wasm_store.specs.Laws.{AddedTyped}
use Rattle.wasm_store.specs.Matching.{imports_fit}
use Rattle.wasm_store.specs.Typed.{HasContext, StoreTyped, module_context}
use Rattle.wasm_store.proofs.AddedModules.{adds_typed}
use Rattle.wasm_store.proofs.Imports.{fits_complete}
use Rattle.wasm_store.proofs.Lists.{all_at, found_there}
use Rattle.wasm_store.proofs.Zips.{get_behind}
use Rattle.tasks.specs.declared.event.TaskEvent.TheVariants as event
use Rattle.tasks.specs.declared.phase.Phase.TheVariants as phase
use Rattle.tasks.specs.Tasks.{may_happen, is_acting, is_nobody}
use Rattle.comp_graph.specs.declared.graph.Action.{Action}
use Rattle.comp_graph.specs.declared.graph.Action.TheVariants.{Begin, Make}
use Rattle.comp_graph.specs.Graph.{CoreMake, Graph, HasImports, AreImported}
use Rattle.script_reader.specs.Script.{Script}
use Rattle.task_table.specs.declared.errand.Errand.TheVariants as errand
use Rattle.task_table.specs.declared.slot.TaskSlot.{TaskSlot}
use Rattle.task_table.specs.Slots as slots
use Rattle.task_table.specs.Tasks.{without, unwatched}
use Rattle.world_parts.specs.declared.parts.Flow.{Flow}
use Rattle.world_parts.specs.declared.parts.Flow.TheVariants as flow
use Rattle.world_parts.specs.declared.parts.Rest.TheVariants as rest
use Rattle.world_parts.specs.Held as kept
use Rattle.world_parts.specs.Held.{Held, Done, Gives, Traps, Spent, after, given}
use Rattle.world_parts.specs.Feed.{at_rest, rest_behind, unchained, left_chain}
use Rattle.world_parts.specs.Slots.{closed, errand_set, happens, with_task}
use Rattle.world_stacks.specs.declared.top.Top.{Top}
use Rattle.world_stacks.specs.declared.top.Top.TheVariants as top
use Rattle.world_stacks.specs.Views.{PileView, stacks_of}
use Rattle.world_stacks.specs.Piles.{stacked, stacked_on, with_top, at_pile, at_found, put_back}
use Rattle.world_stacks.specs.Starting.{are_words, called_with, started}
use Rattle.world_stacks.specs.Addresses.{externals}
use Rattle.world_stacks.specs.Instantiating.{init_exits, core_made, core_added, started_by, started_up, start_of, made, acted, instantiates}
use Rattle.abi_machine.specs.Canons.{flag_at}
use Rattle.abi_machine.specs.Control.{Control, Instantiates}
use Rattle.abi_machine.specs.Counting.{phase_of, caller_view}
use Rattle.abi_machine.specs.Reading.{is_instantiated, has_exited}
use Rattle.abi_machine.specs.World.{Acting, Caller, Task, World}
use Rattle.abi_machine.specs.sound.Acting.{outline_of, outlines_of, IsStarting, IsOrdered, OneActs, ActsBy}
use Rattle.abi_machine.specs.sound.MadeInstances.{IsTypedGraph, WereMadeSoFar}
use Rattle.abi_machine.specs.sound.Owners as owners
use Rattle.abi_machine.specs.sound.Starting.{IsDoomed}
use Rattle.abi_machine.specs.sound.TypedStacks.{ActsTyped, IsTyped}
use Rattle.abi_machine.proofs.sound.Found.{some_same}
use Rattle.abi_machine.proofs.sound.own.Lists.{drop_next}
use Rattle.abi_machine.proofs.sound.typed.Imports.{ImportsAreThere, imports_match, imported_behind}
use Rattle.standing.specs.Instantiates.{InitActs}
use Rattle.standing.specs.Stands.{Stands}
use Rattle.standing.specs.Tasks.{TaskStands}
use Rattle.standing.proofs.Blocking.{happens_when, some_acts}
use Rattle.standing.proofs.Lists.{IsFound, found_both}
use Rattle.standing.proofs.MadeInstances.{instance_made, externals_same}
use Rattle.standing.proofs.Steps.{via, found, errand_put}
use Rattle.run_laws.specs.Points.{stacks_at}
use Rattle.run_laws.proofs.Reached.{outline_at}

-- A rule applies to a part; and so to one behind another, and to what follows what is looked up and is there.
abbrev pub Applies : {A : Type 0} → Done A → Type 0
Applies d = d ≡ kept.Stuck → ⊥

pub applies_after : {A B : Type 0} (d : Done A) (f : A → Held → Done B) → Applies d → ((x : A) (k : Held) → d ≡ Gives x k → Applies (f x k)) → Applies (after d f)
applies_after (Gives x k) f first next = next x k refl
applies_after (Traps why k) f first next = λ e. let w : ⊥ = cc in w
applies_after (Spent k) f first next = λ e. let w : ⊥ = cc in w
applies_after kept.Stuck f first next = absurd (first refl)

pub applies_given : {A B : Type 0} (o : Option A) (x : A) (f : A → Done B) → o ≡ Some x → Applies (f x) → Applies (given o f)
applies_given o x f is next = λ e. next (sym (found o x f is) ∙ e)

pub gives_applies : {A : Type 0} (x : A) (k : Held) → Applies (let d : Done A = Gives x k in d)
gives_applies x k e = let w : ⊥ = cc in w

-- The stacks of a task of which none is there.
under_none : (t : Top) (p : PileView) → p.top ≡ t → stacks_of p ≡ [] → p.top ≡ top.Empty
under_none top.Empty p is none = is
under_none (top.Waits c) p is none =
    absurd (let e : stacks_of (record p { top = top.Waits c }) ≡ [] = ap (λ (t : Top). stacks_of (record p { top = t })) (sym is) ∙ none in let w : ⊥ = cc in w)
under_none (top.Goes k) p is none =
    absurd (let e : stacks_of (record p { top = top.Goes k }) ≡ [] = ap (λ (t : Top). stacks_of (record p { top = t })) (sym is) ∙ none in let w : ⊥ = cc in w)

pub pile_there : (piles : List PileView) (n : ℕ) (stacks : List Stack) → slice_get (stacks_at piles) n ≡ Some stacks → (p : PileView) × (slice_get piles n ≡ Some p) × (stacks_of p ≡ stacks)
pile_there [] n stacks e = absurd (let w : ⊥ = cc in w)
pile_there (p ∷ piles) zero stacks e = (p, refl, some_same e)
pile_there (p ∷ piles) (suc n) stacks e = pile_there piles n stacks e

pub stacks_there : (tasks : List Task) (n : ℕ) (task : Task) → slice_get tasks n ≡ Some task → slice_get (map (λ (x : Task). x.stacks) tasks) n ≡ Some task.stacks
stacks_there [] n task e = absurd (let w : ⊥ = cc in w)
stacks_there (x ∷ tasks) zero task e = ap (λ (y : Task). Some y.stacks) (some_same e)
stacks_there (x ∷ tasks) (suc n) task e = stacks_there tasks n task e

-- While task 0 acts not all is instantiated.
not_yet : (tasks : List Task) (task : Task) → slice_get tasks 0 ≡ Some task → task.state ≡ Acting → is_instantiated tasks ≡ false
not_yet [] task there acts = refl
not_yet (x ∷ tasks) task there acts = ap has_exited (ap (λ (y : Task). y.state) (some_same there) ∙ acts)

or_true : (b : Bool) → (b || true) ≡ true
or_true true = refl
or_true false = refl

exits_with : (a b c : Bool) → a ≡ true → c ≡ true → (a && (b || c)) ≡ true
exits_with a b c x y = ap (λ (d : Bool). d && (b || c)) x ∙ ap (λ (d : Bool). b || d) y ∙ or_true b

module _ (g : Graph) (values : List ValType) (s : Script) (h : Held) (piles : List PileView) (w : World) (task : Task) (init : InitActs w task) (bare : task.stacks ≡ [])
    (st : Stands g values s h (stacks_at piles) w) where
  slot : IsFound (TaskStands g s) (slice_get h.tasks 0) (slice_get w.tasks 0)
  slot = found_both (TaskStands g s) h.tasks w.tasks 0 st.are_tasks (ap is_some init.there)

  alike : TaskStands g s slot.left task
  alike = subst (λ (a : Task). TaskStands g s slot.left a) (some_same (sym slot.is_right ∙ init.there)) slot.alike

  -- No action is left.
  left_by : (b : Bool) (d : Held) → b ≡ true → Applies (after (let l : Done Flow = if b then Gives flow.Rests d else kept.Stuck in l) (λ flow m. Gives (let u : Unit {0} = tt in u) (at_rest rest.Free m)))
  left_by true d is = λ e. let w : ⊥ = cc in w
  left_by false d is = absurd (let w : ⊥ = cc in w)

  exits_applies : Applies (init_exits h)
  exits_applies =
      let x : TaskSlot = slot.left in
      let may : may_happen event.Exit x.task ≡ true =
      exits_with (is_acting x.task.phase) (is_some x.task.resolution) (is_nobody x.task.caller) (ap is_acting (alike.far ∙ ap (phase_of (flag_at g)) init.acts))
      (ap is_nobody (alike.seen ∙ ap (λ (c : Caller). caller_view c) init.alone)) in
      let some : nat_lt 0 (length h.chain) ≡ true = ap (λ (chain : List ℕ). nat_lt 0 (length chain)) st.same_chain ∙ some_acts w.chain 0 init.first in
      let exited : Held = with_task 0 (slots.with_task (record x.task { phase = phase.Exited }) x) h in
      let behind : Held = record exited { live = without 0 exited.live; watched = unwatched 0 exited.watched } in
      λ e.
      left_by (nat_lt 0 (length h.chain)) (at_rest (rest_behind (take (length h.chain - 1) h.chain)) (unchained behind)) some
      (sym (via (happens 0 event.Exit h) tt exited (λ done k. after (closed 0 k) (λ done l. after (left_chain l) (λ flow m. Gives (let u : Unit {0} = tt in u) (at_rest rest.Free m))))
      (happens_when event.Exit x 0 h slot.is_left may refl)) ∙ e)

  -- A start function begins, where task 0 has no stack.
  module _ (k : Held) (n : ℕ) (tasks : k.tasks ≡ h.tasks) where
    abbrev begins : Unit {0} × List PileView → Done (Unit {0} × List PileView)
    begins r = after (errand_set 0 (errand.Begins n) k) (λ (done : Unit {0}) l. Gives r (at_rest rest.Runs l))

    begins_applies : (r : Unit {0} × List PileView) → Applies (begins r)
    begins_applies r =
        applies_after (errand_set 0 (errand.Begins n) k) (λ (done : Unit {0}) l. Gives r (at_rest rest.Runs l))
        (λ e.
        let put : errand_set 0 (errand.Begins n) k ≡ Gives tt (with_task 0 (slots.at_errand (errand.Begins n) slot.left) k) =
        errand_put 0 (errand.Begins n) k slot.left (ap (λ (ts : List TaskSlot). slice_get ts 0) tasks ∙ slot.is_left) in
        gives_applies tt (with_task 0 (slots.at_errand (errand.Begins n) slot.left) k) (sym put ∙ e))
        (λ done l is. gives_applies r (at_rest rest.Runs l))

    on_pile : (c : Stack) → Applies (given (at_pile (stacked c) 0 piles) begins)
    on_pile c =
        let there = pile_there piles 0 task.stacks (ap (λ (ss : List (List Stack)). slice_get ss 0) st.same_stacks ∙ stacks_there w.tasks 0 task init.there) in
        let p : PileView = there.0 in
        let empty : p.top ≡ top.Empty = under_none p.top p refl (there.2 ∙ bare) in
        let at : at_pile (stacked c) 0 piles ≡ Some (tt, slice_set piles 0 (with_top (top.Goes c) p)) =
        ap (at_found (stacked c) 0 piles) there.1 ∙ ap (λ (t : Top). put_back 0 piles (stacked_on t c p)) empty in
        applies_given (at_pile (stacked c) 0 piles) (tt, slice_set piles 0 (with_top (top.Goes c) p)) begins at (begins_applies (tt, slice_set piles 0 (with_top (top.Goes c) p)))

    -- It takes no words.
    by_function : (address : ℕ) (f : Function) → slice_get k.store.funcs address ≡ Some f → (type_of f).params ≡ [] → Applies (started_by n (Some address) piles k)
    by_function address f there none =
        let call : started k.store address [] ≡ Some (start f address []) =
        ap (λ (o : Option Function). called_with o address []) there
        ∙ ap (λ (ts : List core_type.ValType). (let o : Option Stack = if are_words ts [] then Some (start f address []) else None in o)) none in
        applies_given (started k.store address []) (start f address []) (λ c. given (at_pile (stacked c) 0 piles) begins) call (on_pile (start f address []))

    starts_apply : (m : ModuleTree) (i : Instance) → HasContext k.store i (module_context m) → (o : Option ℕ) → m.start ≡ o → IfSome o (StartTyped m) → Applies (started_by n (start_of m i) piles k)
    starts_apply m i has None is typed =
        subst (λ (o : Option ℕ). Applies (started_by n (option_and_then (λ index. slice_get i.funcs index) o) piles k)) (sym is) (gives_applies (tt, piles) (at_rest (rest.Instantiates n) k))
    starts_apply m i has (Some index) is (type, there, params, results) =
        let p = has.funcs index type there in
        let both = found_there k.store.funcs (slice_get i.funcs index) p.0 p.1 in
        subst (λ (o : Option ℕ). Applies (started_by n o piles k)) (sym (ap (λ (o : Option ℕ). option_and_then (λ index. slice_get i.funcs index) o) is ∙ both.0))
        (by_function p.0.0 p.0.1 both.1 (ap (λ (t : FuncType). t.params) p.2 ∙ params))

  -- A core instance is made.
  module _ (n : ℕ) (c : CoreMake) (imports : List External) (valid : Typed c.of_module) where
    abbrev behind_made : ℕ → Held → Done (Unit {0} × List PileView)
    behind_made number k = started_up n c.of_module number piles k

    by_made : (r : Instantiation) → instantiated c.of_module imports h.store ≡ r → AddedTyped h.store c.of_module imports r → Applies (after (core_made r h) behind_made)
    by_made (core.SegmentBounds t) is added = λ e. let w : ⊥ = cc in w
    by_made (core.Makes t) is added =
        let i : Instance = instance_of c.of_module imports h.store in
        let at : slice_get t.instances (length h.store.instances) ≡ Some i = instance_made c imports h.store t is in
        let now : Held = record h { store = t; memories = h.memories ++ slice_get i.memories 0 ∷ [] } in
        let kept_so : core_made (core.Makes t) h ≡ Gives (length h.store.instances) now =
        ap (λ (o : Option Instance). after (given o (λ j. Gives (let u : Unit {0} = tt in u) (record h { store = t; memories = h.memories ++ slice_get j.memories 0 ∷ [] }))) (λ done k. Gives (length h.store.instances) k)) at in
        λ e.
        applies_given (slice_get t.instances (length h.store.instances)) i (λ j. started_by n (start_of c.of_module j) piles now) at
        (starts_apply now n refl c.of_module i added.2.1 c.of_module.start refl valid.start)
        (sym (via (core_made (core.Makes t) h) (length h.store.instances) now behind_made kept_so) ∙ e)

    core_applies : AddedTyped h.store c.of_module imports (instantiated c.of_module imports h.store) → imports_fit h.store c.of_module.types c.of_module.imports imports ≡ true
        → Applies (after (core_added c.of_module imports h) behind_made)
    core_applies added fit =
        subst (λ (b : Bool). Applies (after (let d : Done ℕ = if b then core_made (instantiated c.of_module imports h.store) h else kept.Stuck in d) behind_made)) (sym fit)
        (by_made (instantiated c.of_module imports h.store) refl added)

  -- The action of a number, where the machine's world is typed, and the graph too.
  module _ (sound : IsTypedGraph g) (typed : IsTyped g w) where
    making : (n number : ℕ) (so : WereMadeSoFar g w.store n) (after_these : List CoreMake) → so.after ≡ after_these → owners.Makes (length so.before) (Make number ∷ drop (n + 1) g.plan) after_these
        → Applies (acted g n (Some (Make number)) piles h)
    making n number so [] is left = absurd left
    making n number so (c ∷ cores) is left =
        let all : g.cores ≡ so.before ++ c ∷ cores = so.cores_are ∙ ap (λ (cs : List CoreMake). so.before ++ cs) is in
        let at : slice_get g.cores (length so.before) ≡ Some c = ap (λ (cs : List CoreMake). slice_get cs (length so.before)) all ∙ get_behind so.before c cores in
        let there : slice_get g.cores number ≡ Some c = ap (λ (i : ℕ). slice_get g.cores i) left.0 ∙ at in
        let valid : Typed c.of_module = all_at (λ (c : CoreMake). Typed c.of_module) g.cores (length so.before) c sound.valid at in
        let range : InRange c.of_module = all_at (λ (c : CoreMake). InRange c.of_module) g.cores (length so.before) c sound.in_range at in
        let imported : HasImports so.before g.canons c = imported_behind g.canons [] so.before cores c (subst (AreImported g.canons []) all sound.imported) in
        let found : ImportsAreThere w.store c = imports_match w.store g.canons so.before c typed.canons imported so.made in
        let here : ImportsAreThere h.store c = subst (λ (x : Store). ImportsAreThere x c) (sym st.same_store) found in
        let store_typed : StoreTyped h.store = subst StoreTyped (sym st.same_store) typed.store in
        applies_given (slice_get g.cores number) c (λ x. made (n + 1) x piles h) there
        (applies_given (externals h.store c.imports) here.0 (λ imports. after (core_added c.of_module imports h) (λ number k. started_up (n + 1) c.of_module number piles k))
        (externals_same h.store c.imports ∙ here.1)
        (core_applies (n + 1) c here.0 valid (adds_typed h.store c.of_module here.0 store_typed valid range here.2) (fits_complete h.store c.of_module.types c.of_module.imports here.0 here.2)))

    by_action : (n : ℕ) (o : Option Action) → slice_get g.plan n ≡ o → WereMadeSoFar g w.store n → Applies (acted g n o piles h)
    by_action n None is so = applies_after (init_exits h) (λ done k. Gives (let r : Unit {0} × List PileView = (tt, piles) in r) k) exits_applies (λ done k e. gives_applies (tt, piles) k)
    by_action n (Some (Begin number)) is so = λ e. let w : ⊥ = cc in w
    by_action n (Some (Make number)) is so =
        making n number so so.after refl (subst (λ (actions : List Action). owners.Makes (length so.before) actions so.after) (drop_next g.plan n (Make number) is) so.left)

    pub instantiation_applies : (n : ℕ) → w.control ≡ Instantiates n → Applies (instantiates g n piles h)
    instantiation_applies n is = by_action n (slice_get g.plan n) refl (subst (λ (c : Control). ActsTyped g c w.store w.tasks w.chain) is typed.acts)

-- The acting task has no stack there, and the world is typed.
pub starting_bare : (w : World) (task : Task) (n : ℕ) → IsOrdered w → w.control ≡ Instantiates n → InitActs w task → task.stacks ≡ []
starting_bare w task n ordered is init =
    let acts : OneActs IsStarting (outlines_of w.tasks) w.chain = subst (λ (x : Control). ActsBy x (outlines_of w.tasks) w.chain) is ordered.2 in
    let same : acts.0 ≡ 0 = some_same (sym acts.1.0 ∙ init.first) in
    let outline : _ = acts.1.1 in
    let one : outline.0 ≡ outline_of task = outline_at w.tasks 0 task outline.0 init.there (ap (λ (n : ℕ). slice_get (outlines_of w.tasks) n) (sym same) ∙ outline.1) in
    let starting : IsStarting (outline_of task) = subst IsStarting one outline.2 in
    starting.1

pub starting_typed : (g : Graph) (w : World) (task : Task) (n : ℕ) {B : Type 0} → w.control ≡ Instantiates n → InitActs w task
    → (is_instantiated w.tasks ≡ false → IsDoomed w.control ⊎ (IsTyped g w × B)) → IsTyped g w
starting_typed g w task n is init typed =
    elim (typed (not_yet w.tasks task init.there init.acts)) [
      | inl doomed ↦ absurd (subst IsDoomed is doomed)
      | inr t ↦ t.0
    ]
