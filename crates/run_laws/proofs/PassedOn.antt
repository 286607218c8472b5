-- A result goes to the task that called, where there is one and a task called.
use Rattle.std.proofs.Common.{◌≡◌, ◌-◌, ℕ, suc, nat_lt, Bool, true, false, ◌||◌, ◌^◌, if◌then◌else◌, List, [], ◌∷◌, ◌++◌, length, refl, sym, ap, ◌∙◌, subst, arith, append_assoc, append-nil, Option, Some, None}
use Rattle.std.specs.List.{slice_get}
use Rattle.std.specs.Option.{option_map, option_and_then}
use Rattle.wasm_store.specs.Stack.{Stack}
use Rattle.syntax_trees.specs.declared.types.ValType.{ValType}
use Rattle.syntax_trees.specs.declared.value.Value.{Value}
use Rattle.syntax_trees.specs.Fits.{fits}
use Rattle.syntax_trees.specs.Flat.{flat}
use Rattle.laid_types.specs.Known.{Numbered, numbered_at}
use Rattle.copy_engine.specs.declared.lower_values.Target.{Target}
use Rattle.copy_engine.specs.declared.lower_values.Target.TheVariants as target
use Rattle.copy_engine.specs.Hosted.{plan_to}
use Rattle.comp_graph.specs.declared.graph.CanonFunc.{CanonFunc}
use Rattle.comp_graph.specs.declared.graph.Options.{Options}
use Rattle.comp_graph.specs.Graph.{Graph, Lifted}
use Rattle.comp_graph.specs.Passed.{MayBeAt}
use Rattle.graph_views.specs.Canons as seen
use Rattle.script_reader.specs.Script.{Script}
use Rattle.trace_labels.specs.declared.label.Label.{Label}
use Rattle.trace_labels.specs.declared.typed.TypedValue.{TypedValue}
use Rattle.task_table.specs.declared.caller.Called.{Called}
use Rattle.task_table.specs.declared.caller.Caller as kept_caller
use Rattle.task_table.specs.declared.caller.Caller.TheVariants as by
use Rattle.task_table.specs.declared.errand.Callee as kept_callee
use Rattle.task_table.specs.declared.slot.TaskSlot.{TaskSlot}
use Rattle.task_table.specs.Callers as kept_callers
use Rattle.task_table.specs.Callers.{may_keep}
use Rattle.task_table.specs.Slots.{kept_slot}
use Rattle.programs.specs.declared.program.Program.{Program}
use Rattle.programs.specs.Program.{returned_of, resources_of}
use Rattle.world_parts.specs.Held as kept
use Rattle.world_parts.specs.Held.{Held, Done, Gives, Traps, Spent, given}
use Rattle.world_parts.specs.Places as places
use Rattle.world_parts.specs.Slots.{with_task, result_kept}
use Rattle.value_parts.specs.Coming.{Behind}
use Rattle.value_moves.specs.declared.lowering.Destination.{Destination}
use Rattle.value_moves.specs.Lowering.{Site, destination_of, LowersAt, LowersInto}
use Rattle.value_moves.specs.Lowered.{Way, place_in, last_place, result_target, LowersKept, LowersFor}
use Rattle.value_moves.specs.Resolving.{PassesOn}
use Rattle.abi_machine.specs.declared.run_end.RunEnd.TheVariants.{Fuel}
use Rattle.abi_machine.specs.LoweringOver as plans
use Rattle.abi_machine.specs.Pausing.{entries_by}
use Rattle.abi_machine.specs.Control.{After, Lowering, Lowers, Doomed}
use Rattle.abi_machine.specs.World.{Func, Nobody, Host, Guest, Callee, Caller, Subtask, Task, World}
use Rattle.abi_machine.specs.Edits as world
use Rattle.abi_machine.specs.Edits.{with_control, caller_changed}
use Rattle.abi_machine.specs.Canons.{memory_of, canon_at, options_at, options_in, inst_of_canon, options_of_canon, defines}
use Rattle.abi_machine.specs.Counting as counting
use Rattle.abi_machine.specs.Passing.{last_of, result_plan}
use Rattle.abi_machine.specs.Returning.{result_lowering, finished, passed_to, passed_on}
use Rattle.abi_machine.specs.Lowering.{lowered}
use Rattle.abi_machine.specs.Turn as turns
use Rattle.abi_machine.specs.Turn.{Turn, silent, behind}
use Rattle.abi_machine.proofs.sound.Found.{some_same}
use Rattle.standing.specs.Tasks as standing_tasks
use Rattle.standing.specs.Tasks.{CallerStands, TaskStands}
use Rattle.standing.specs.Stands.{Stands}
use Rattle.standing.specs.Ends.{HasMemory}
use Rattle.standing.specs.Leading.{ComesBy, EndsBy}
use Rattle.standing.specs.Lowers.{PlanAgrees}
use Rattle.standing.specs.Plans.{AreOwn}
use Rattle.standing.specs.Reaching.{GoesTo, Meets}
use Rattle.standing.proofs.Lists.{IsFound, found_left}
use Rattle.standing.proofs.Changes.{tasks_change}
use Rattle.standing.proofs.InPlace.{makers_alike}
use Rattle.standing.proofs.Plans.{flat_agrees, stored_agrees}
use Rattle.standing.proofs.PostReturns.{comes_behind, ends_by_behind}
use Rattle.standing.proofs.Reaching.{meets_step, meets_behind}
use Rattle.standing.proofs.Steps.{behind_none, changed_there}
use Rattle.run_laws.specs.Lifted.{SameCaller}
use Rattle.run_laws.specs.Lowered.{IsSiteOf, WordsFollow, LoweredLeads}
use Rattle.run_laws.specs.Results.{LeadsOnBy}
use Rattle.run_laws.proofs.BesideElements.{IsBeside, KeepsBeside, lowers_beside}
use Rattle.run_laws.proofs.Canons.{options_same}
use Rattle.run_laws.proofs.Lowered.{lowers_at_leads}
use Rattle.run_laws.proofs.OnceLifted.{acts_still}
use Rattle.run_laws.proofs.Entered.{there_callee}
use Rattle.run_laws.proofs.Sites.{memory_there, realloc_there, at_site}

-- The place of a result is the last of the words that the caller passed.
last_is : (words : List ℕ) (word : ℕ) → slice_get words (length words - 1) ≡ Some word → last_of words ≡ word
last_is [] word is = absurd (let w : ⊥ = cc in w)
last_is (x ∷ []) word is = some_same is
last_is (x ∷ y ∷ more) word is =
    last_is (y ∷ more) word
    (ap (λ (n : ℕ). slice_get (y ∷ more) n) (let less : length (y ∷ more) - 1 ≡ length more = omega (arith) in less)
    ∙ sym (ap (λ (n : ℕ). slice_get (x ∷ y ∷ more) n) (let less : length (x ∷ y ∷ more) - 1 ≡ suc (length more) = omega (arith) in less)) ∙ is)

small_place : (word : ℕ) (to : Target) → place_in word ≡ Some to → to ≡ target.Place word
small_place word to is = by (nat_lt word (2 ^ 32)) is
  where
    by : (b : Bool) → option_map target.Place (if b then Some word else None) ≡ Some to → to ≡ target.Place word
    by true e = sym (some_same e)
    by false e = absurd (let w : ⊥ = cc in w)

place_by : (o : Option ℕ) (words : List ℕ) (to : Target) → slice_get words (length words - 1) ≡ o → option_and_then place_in o ≡ Some to → to ≡ target.Place (last_of words)
place_by None words to is e = absurd (let w : ⊥ = cc in w)
place_by (Some word) words to is e = small_place word to e ∙ ap (λ (n : ℕ). target.Place n) (sym (last_is words word is))

last_place_is : (words : List ℕ) (to : Target) → last_place words ≡ Some to → to ≡ target.Place (last_of words)
last_place_is words to e = place_by (slice_get words (length words - 1)) words to refl e

-- The plan of a result, at that place or as core values.
plan_by : (home : List ℕ) (is_own : ℕ → Bool) (type : ValType) (v : Value) (words : List ℕ) (b : Bool) (to : Target) → (if b then last_place words else Some target.Flat) ≡ Some to
    → AreOwn home is_own → fits v type ≡ true
    → PlanAgrees (plan_to to type v home) (if b then plans.stored (entries_by is_own) type v (last_of words) else plans.flat_lowered (entries_by is_own) type v)
plan_by home is_own type v words true to is own fit =
    subst (λ (x : Target). PlanAgrees (plan_to x type v home) (plans.stored (entries_by is_own) type v (last_of words))) (sym (last_place_is words to is))
    (stored_agrees home is_own type v (last_of words) own fit)
plan_by home is_own type v words false to is own fit =
    subst (λ (x : Target). PlanAgrees (plan_to x type v home) (plans.flat_lowered (entries_by is_own) type v)) (some_same is) (flat_agrees home is_own type v own fit)

result_agrees : (home : List ℕ) (is_own : ℕ → Bool) (is_async : Bool) (type : ValType) (v : Value) (words : List ℕ) (to : Target) → result_target is_async type words ≡ Some to
    → AreOwn home is_own → fits v type ≡ true → PlanAgrees (plan_to to type v home) (result_plan (entries_by is_own) is_async type v words)
unfolding result_plan
result_agrees home is_own is_async type v words to is own fit = plan_by home is_own type v words (is_async || nat_lt 1 (length (flat type))) to is own fit

-- The words of a result are kept for its caller.
kept_stands : (g : Graph) (s : Script) (words : List ℕ) (x : TaskSlot) (a : Task) → may_keep x.caller ≡ true → TaskStands g s x a
    → TaskStands g s (kept_slot words x) (record a { caller = caller_changed (λ (subtask : Subtask). record subtask { result = words }) a.caller })
kept_stands g s words x a may st = record {
  does = st.does;
  place = st.place;
  lifted = st.lifted;
  called = called_so x.caller a.caller may st.called;
  seen = st.seen ∙ seen_so a.caller;
  far = st.far;
  at = st.at;
  resolved = st.resolved;
  cancelled = st.cancelled;
  words = st.words;
  placed = st.placed;
}
  where
    called_so : (q : kept_caller.Caller) (b : Caller) → may_keep q ≡ true → CallerStands s q b
        → CallerStands s (kept_callers.changed (λ (called : Called). record called { result = words }) q) (caller_changed (λ (subtask : Subtask). record subtask { result = words }) b)
    called_so by.Nobody b may st = absurd (let w : ⊥ = cc in w)
    called_so (by.Host call) b may st = absurd (let w : ⊥ = cc in w)
    called_so (by.Guest called) Nobody may st = absurd st
    called_so (by.Guest called) (Host call all) may st = absurd st
    called_so (by.Guest called) (Guest subtask) may st = record { caller = st.caller; by_canon = st.by_canon; passed = st.passed; was_told = st.was_told; lent = st.lent; kept = refl }

    seen_so : (b : Caller) → counting.caller_view b ≡ counting.caller_view (caller_changed (λ (subtask : Subtask). record subtask { result = words }) b)
    seen_so Nobody = refl
    seen_so (Host call all) = refl
    seen_so (Guest subtask) = refl

module _ (p : Program) (values : List ValType) (s : Script) (t : ℕ) (u : World) (before : List Label) (stacks : List (List Stack)) (next : After) (f : Lifted) (types : p.types.now ≡ values)
    (own : (at : ℕ) (resources : List ℕ) → resources_of p at ≡ Some resources → AreOwn resources (defines p.graph.now at)) where
  abbrev g : Graph
  g = p.graph.now

  abbrev Leads : {A : Type 0} → (A → Held → Type 0) → Done A → Type 0
  Leads G d = LeadsOnBy g values s t u before stacks G d

  -- The result has reached its caller.
  pub record Reached (k : Held) : Type 0 where
    pub lines : List Label
    pub ahead : List Label
    pub world : World
    pub meets : Meets g s u lines (behind ahead (finished next world))
    pub stands : Stands g values s k stacks world
    pub told : k.labels ≡ before ++ (lines ++ ahead)
    pub first : slice_get world.chain 0 ≡ Some t
    pub task : Task
    pub there : slice_get world.tasks t ≡ Some task
    pub runs : task.callee ≡ Func f

  module _ (j : Held) (z : World) (task : Task) (original : Caller) (y : TaskSlot) (lines ahead : List Label) (st : Stands g values s j stacks z) (told : j.labels ≡ before ++ (lines ++ ahead))
      (first : slice_get z.chain 0 ≡ Some t) (there : slice_get z.tasks t ≡ Some task) (runs : task.callee ≡ Func f) (same : SameCaller original task.caller)
      (y_there : slice_get j.tasks t ≡ Some y) (alike : TaskStands g s y task) (memories : (number : ℕ) → HasMemory j z (options_at g number)) where
    abbrev Goal : Done (Unit {0}) → Type 0
    Goal e = Leads (λ done k. Reached k) e

    here : Meets g s u lines (behind ahead (finished next z)) → Reached j
    here meets = record { lines = lines; ahead = ahead; world = z; meets = meets; stands = st; told = told; first = first; task = task; there = there; runs = runs }

    stuck : (e : Done (Unit {0})) → e ≡ kept.Stuck → Goal e
    stuck e is = subst Goal (sym is) tt

    gives : (e : Done (Unit {0})) → e ≡ Gives tt j → Meets g s u lines (behind ahead (finished next z)) → Goal e
    gives e is meets = subst Goal (sym is) (here meets)

    -- It is lowered for a task that called by a canonical function.
    module _ (v : TypedValue) (subtask : Subtask) (c : CanonFunc) (found : canon_at g subtask.canon ≡ Some c) where
      abbrev l : Lowering
      l = result_lowering z t subtask c next

      abbrev plan : plans.Plan
      plan = result_plan (entries_by (defines g (inst_of_canon c))) (options_of_canon c).is_async v.val_type v.value subtask.words

      abbrev w : World
      w = with_control (Lowers l plan) z

      abbrev to : Destination
      to = destination_of (seen.instance_of c) subtask.by (seen.options_of c) j

      abbrev IsLowered : Done (List ℕ) → Type 0
      IsLowered mid = LoweredLeads g values s w j.labels stacks l mid × KeepsBeside j mid

      memory_so : places.memory_of (seen.options_of c) j ≡ memory_of z.store (options_of_canon c)
      memory_so =
          let options : options_at g subtask.canon ≡ options_of_canon c = ap options_in found in
          ap (λ (x : Options). places.memory_of x j) (options_same c ∙ sym options) ∙ memories subtask.canon ∙ ap (λ (x : Options). memory_of z.store x) options

      site_of : (site : Site) (slot : TaskSlot) → slice_get j.instances to.instance ≡ Some site.instance → slice_get j.tasks subtask.by ≡ Some slot → site.context ≡ slot.context
          → IsSiteOf g values s w j stacks l to site slot
      site_of site slot inst by_there context = record {
        stands = st;
        instance = makers_alike c;
        task = refl;
        memory = memory_there (places.memory_of (seen.options_of c) j) (memory_of z.store (options_of_canon c)) j.store z.store memory_so st.same_store;
        realloc = realloc_there j.store z.store (seen.options_of c) (options_of_canon c) st.same_store (options_same c);
        inst_there = subst (λ (i : ℕ). slice_get j.instances i ≡ Some site.instance) (makers_alike c) inst;
        task_there = by_there;
        context = context;
      }

      into : (x : Numbered) (way : Target) → x.types ≡ values → x.val_type ≡ v.val_type → result_target (seen.options_of c).is_async x.val_type subtask.words ≡ Some way → (mid : Done (List ℕ))
          → LowersInto p to x v.value way j mid → IsLowered mid
      into x way among typed aims mid lowers =
          at_site p to j (λ site k e. LowersAt g to x.types (plan_to way x.val_type v.value site.resources) site k e) IsLowered mid (tt, tt) (fits v.value x.val_type)
          (λ i slot resources inst by_there own_is fits_so comes.
          (let site : Site = record { instance = i; context = slot.context; resources = resources } in
          let now : LowersAt g to values (plan_to way v.val_type v.value resources) site j mid =
          subst (λ (q : ValType). LowersAt g to values (plan_to way q v.value resources) site j mid) typed
          (subst (λ (ts : List ValType). LowersAt g to ts (plan_to way x.val_type v.value resources) site j mid) among comes) in
          let fit : fits v.value v.val_type ≡ true = subst (λ (q : ValType). fits v.value q ≡ true) typed fits_so in
          let mine : AreOwn resources (defines g (inst_of_canon c)) = own (inst_of_canon c) resources (subst (λ (n : ℕ). resources_of p n ≡ Some resources) (makers_alike c) own_is) in
          let aimed : result_target (options_of_canon c).is_async v.val_type subtask.words ≡ Some way =
          subst (λ (q : ValType). result_target (options_of_canon c).is_async q subtask.words ≡ Some way) typed
          (subst (λ (q : Options). result_target q.is_async x.val_type subtask.words ≡ Some way) (options_same c) aims) in (
            lowers_at_leads g values s w j stacks l to site slot (plan_to way v.val_type v.value resources) plan mid refl
                (result_agrees resources (defines g (inst_of_canon c)) (options_of_canon c).is_async v.val_type v.value subtask.words way aimed mine fit) (site_of site slot inst by_there refl) now,
            lowers_beside g to values (plan_to way v.val_type v.value resources) site j mid now,
          ))) lowers

      -- The words are kept, and it has reached the caller.
      module _ (meets : Meets g s u lines (behind ahead (silent (Lowers l plan) z))) where
        abbrev all : List Label
        all = lines ++ (ahead ++ [])

        goes : GoesTo g s u all w
        goes = meets_step g s u w lines (ahead ++ []) meets

        all_told : j.labels ≡ before ++ all
        all_told = told ∙ ap (λ (ls : List Label). before ++ (lines ++ ls)) (sym (append-nil ahead))

        keeps : (words : List ℕ) (m : Held) (x : TaskSlot) (b : Bool) → WordsFollow g values s w j.labels m stacks l words → IsBeside j m → slice_get m.tasks t ≡ Some x → may_keep x.caller ≡ b
            → Goal (if b then Gives (tt {0}) (with_task t (kept_slot words x) m) else kept.Stuck)
        unfolding lowered
        keeps words m x true follows beside x_there may =
            let q : World = follows.world in
            let both : IsFound (TaskStands g s) (slice_get m.tasks t) (slice_get q.tasks t) = found_left (TaskStands g s) m.tasks q.tasks t x follows.stands.are_tasks x_there in
            let does : (let o : Option Callee = Some both.right.callee in o) ≡ Some task.callee =
            sym both.alike.does
            ∙ ap (λ (o : TaskSlot). standing_tasks.callee_of g o.callee) (some_same (sym both.is_left ∙ x_there))
            ∙ ap (λ (o : kept_callee.Callee). standing_tasks.callee_of g o)
            (some_same (sym (there_callee m.tasks t x x_there) ∙ ap (λ (cs : List kept_callee.Callee). slice_get cs t) beside.same_tasks ∙ there_callee j.tasks t y y_there))
            ∙ alike.does in
            let change : Task → Task = λ a. record a { caller = caller_changed (λ (one : Subtask). record one { result = words }) a.caller } in
            record {
              lines = all ++ follows.lines;
              ahead = [];
              world = world.result_kept t words q;
              meets = meets_behind g s u w all follows.lines (behind [] (finished next (world.result_kept t words q))) goes
                  (subst (λ (turn : Turn). Meets g s w follows.lines turn) (sym (behind_none (finished next (world.result_kept t words q)))) follows.meets);
              stands = tasks_change g values s m stacks q t x (kept_slot words x) change x_there (λ a found now. kept_stands g s words x a may now) (λ a. refl) follows.stands;
              told = follows.told ∙ ap (λ (ls : List Label). ls ++ follows.lines) all_told ∙ append_assoc before all follows.lines
                  ∙ ap (λ (ls : List Label). before ++ ls) (sym (append-nil (all ++ follows.lines)));
              first = acts_still g values s t j m stacks z q st follows.stands beside.chain first;
              task = change both.right;
              there = changed_there t change q.tasks both.right both.is_right;
              runs = some_same does ∙ runs;
            }
        keeps words m x false follows beside x_there may = tt

        by_words : (mid : Done (List ℕ)) → IsLowered mid → (e : Done (Unit {0})) → Behind mid (λ results m e. e ≡ result_kept t results m) e → Goal e
        by_words (Gives words m) is e comes =
            subst Goal (sym comes) (by_slot (slice_get m.tasks t) refl)
          where
            by_slot : (o : Option TaskSlot) → slice_get m.tasks t ≡ o → Goal (given o (λ slot. if may_keep slot.caller then Gives (tt {0}) (with_task t (kept_slot words slot) m) else kept.Stuck))
            by_slot None none = tt
            by_slot (Some x) x_there = keeps words m x (may_keep x.caller) is.0 is.1 x_there refl
        by_words (Traps why m) is e comes =
            subst Goal (sym comes)
            (comes_behind g values s u w before all m stacks (λ q. q.control ≡ Doomed t why) goes
            (subst (λ (ls : List Label). ComesBy g values s w ls m stacks (λ q. q.control ≡ Doomed t why)) all_told is.0))
        by_words (Spent m) is e comes =
            subst Goal (sym comes)
            (ends_by_behind g values s u w before all m stacks Fuel goes (subst (λ (ls : List Label). EndsBy g values s w ls m stacks Fuel) all_told is.0))
        by_words kept.Stuck is e comes = subst Goal (sym comes) tt

    -- It is of the type that the function returns.
    numbered_so : (n : ℕ) (x : Numbered) (type : ValType) → slice_get values n ≡ Some type → numbered_at p.types.now n ≡ Some x → (x.types ≡ values) × (x.val_type ≡ type)
    numbered_so n x type is found =
        let same_one : (let one : Numbered = record { types = values; number = n; val_type = type } in one) ≡ x =
        some_same
        (sym (ap (λ (ts : List ValType). numbered_at ts n) types ∙ ap (option_map (λ (q : ValType). (let one : Numbered = record { types = values; number = n; val_type = q } in one))) is) ∙ found) in
        (ap (λ (q : Numbered). q.types) (sym same_one), ap (λ (q : Numbered). q.val_type) (sym same_one))

    way_lowers : (v : TypedValue) (subtask : Subtask) (c : CanonFunc) (found : canon_at g subtask.canon ≡ Some c) (callee : kept_callee.Callee) → MayBeAt values (returned_of p callee) (Some v.val_type)
        → (mid : Done (List ℕ))
        → Behind (given (returned_of p callee) (λ n. given (numbered_at p.types.now n) (λ x. given (result_target (seen.options_of c).is_async x.val_type subtask.words) (λ way.
        Gives (let one : Way = record { to = destination_of (seen.instance_of c) subtask.by (seen.options_of c) j; type = x; target = way } in one) j))))
        (λ way k e. LowersInto p way.to way.type v.value way.target k e) mid → IsLowered v subtask c found mid
    way_lowers v subtask c found callee typed mid comes = by_number (returned_of p callee) typed comes
      where
        none : mid ≡ kept.Stuck → IsLowered v subtask c found mid
        none is = subst (IsLowered v subtask c found) (sym is) (tt, tt)

        by_target : (x : Numbered) → x.types ≡ values → x.val_type ≡ v.val_type → (o : Option Target) → result_target (seen.options_of c).is_async x.val_type subtask.words ≡ o
            → Behind (given o (λ way. Gives (let one : Way = record { to = destination_of (seen.instance_of c) subtask.by (seen.options_of c) j; type = x; target = way } in one) j))
            (λ way k e. LowersInto p way.to way.type v.value way.target k e) mid → IsLowered v subtask c found mid
        by_target x among same_type None aims comes = none comes
        by_target x among same_type (Some way) aims comes = into v subtask c found x way among same_type aims mid comes

        by_type : (n : ℕ) → slice_get values n ≡ Some v.val_type → (o : Option Numbered) → numbered_at p.types.now n ≡ o
            → Behind (given o (λ x. given (result_target (seen.options_of c).is_async x.val_type subtask.words) (λ way.
            Gives (let one : Way = record { to = destination_of (seen.instance_of c) subtask.by (seen.options_of c) j; type = x; target = way } in one) j)))
            (λ way k e. LowersInto p way.to way.type v.value way.target k e) mid → IsLowered v subtask c found mid
        by_type n is None missing comes = none comes
        by_type n is (Some x) one comes =
            let so = numbered_so n x v.val_type is one in
            by_target x so.0 so.1 (result_target (seen.options_of c).is_async x.val_type subtask.words) refl comes

        by_number : (o : Option ℕ) → MayBeAt values o (Some v.val_type)
            → Behind (given o (λ n. given (numbered_at p.types.now n) (λ x. given (result_target (seen.options_of c).is_async x.val_type subtask.words) (λ way.
            Gives (let one : Way = record { to = destination_of (seen.instance_of c) subtask.by (seen.options_of c) j; type = x; target = way } in one) j))))
            (λ way k e. LowersInto p way.to way.type v.value way.target k e) mid → IsLowered v subtask c found mid
        by_number None typed comes = absurd typed
        by_number (Some n) typed comes = by_type n typed (numbered_at p.types.now n) refl comes

    -- By who called.
    for_guest : (v : TypedValue) (subtask : Subtask) (callee : kept_callee.Callee) → MayBeAt values (returned_of p callee) (Some v.val_type) → (e : Done (Unit {0}))
        → LowersKept p t v.value callee subtask.by subtask.canon subtask.words j e
        → Meets g s u lines (behind ahead (turns.given (canon_at g subtask.canon) (λ c. passed_to g t subtask c next v z))) → Goal e
    unfolding passed_to
    for_guest v subtask callee typed e lowers meets = by_canon (canon_at g subtask.canon) refl lowers.1 meets
      where
        by_canon : (o : Option CanonFunc) → canon_at g subtask.canon ≡ o
            → Behind (given o (λ c. given (returned_of p callee) (λ n. given (numbered_at p.types.now n) (λ x. given (result_target (seen.options_of c).is_async x.val_type subtask.words) (λ way.
            Gives (let one : Way = record { to = destination_of (seen.instance_of c) subtask.by (seen.options_of c) j; type = x; target = way } in one) j)))))
            (λ way k e. LowersInto p way.to way.type v.value way.target k e) lowers.0
            → Meets g s u lines (behind ahead (turns.given o (λ c. passed_to g t subtask c next v z))) → Goal e
        by_canon None found comes meets = stuck e (subst (λ (mid : Done (List ℕ)). Behind mid (λ results m e. e ≡ result_kept t results m) e) comes lowers.2)
        by_canon (Some c) found comes meets =
            by_words v subtask c found meets lowers.0 (way_lowers v subtask c found callee typed lowers.0 comes) e lowers.2

    for_caller : (v : TypedValue) (q : kept_caller.Caller) (a b : Caller) → CallerStands s q b → SameCaller a b → MayBeAt values (returned_of p y.callee) (Some v.val_type) → (e : Done (Unit {0}))
        → LowersFor p t v.value y.callee q j e → Meets g s u lines (behind ahead (passed_on g t a next (Some v) z)) → Goal e
    unfolding passed_on
    for_caller v by.Nobody Nobody b called alike typed e is meets = gives e is meets
    for_caller v by.Nobody (Host call vs) b called alike typed e is meets = gives e is meets
    for_caller v by.Nobody (Guest sub) Nobody called alike typed e is meets = absurd alike
    for_caller v by.Nobody (Guest sub) (Host call vs) called alike typed e is meets = absurd alike
    for_caller v by.Nobody (Guest sub) (Guest one) called alike typed e is meets = absurd called
    for_caller v (by.Host number) Nobody b called alike typed e is meets = gives e is meets
    for_caller v (by.Host number) (Host call vs) b called alike typed e is meets = gives e is meets
    for_caller v (by.Host number) (Guest sub) Nobody called alike typed e is meets = absurd alike
    for_caller v (by.Host number) (Guest sub) (Host call vs) called alike typed e is meets = absurd alike
    for_caller v (by.Host number) (Guest sub) (Guest one) called alike typed e is meets = absurd called
    for_caller v (by.Guest k) Nobody b called alike typed e is meets = absurd (subst (λ (x : Caller). CallerStands s (by.Guest k) x) alike called)
    for_caller v (by.Guest k) (Host call vs) b called alike typed e is meets = absurd (subst (λ (x : Caller). CallerStands s (by.Guest k) x) alike called)
    for_caller v (by.Guest k) (Guest sub) Nobody called alike typed e is meets = absurd alike
    for_caller v (by.Guest k) (Guest sub) (Host call vs) called alike typed e is meets = absurd alike
    for_caller v (by.Guest k) (Guest sub) (Guest one) called alike typed e is meets =
        for_guest v sub y.callee typed e
        (subst (λ (n : ℕ). LowersKept p t v.value y.callee n sub.canon sub.words j e) (called.caller ∙ alike.0)
        (subst (λ (n : ℕ). LowersKept p t v.value y.callee k.by n sub.words j e) (called.by_canon ∙ alike.1)
        (subst (λ (ws : List ℕ). LowersKept p t v.value y.callee k.by k.canon ws j e) (called.passed ∙ alike.2) is))) meets

    no_value : (a : Caller) → passed_on g t a next None z ≡ finished next z
    unfolding passed_on
    no_value Nobody = refl
    no_value (Host call vs) = refl
    no_value (Guest sub) = refl

    pub passes_on : (value : Option TypedValue) → ((v : TypedValue) → value ≡ Some v → MayBeAt values (returned_of p y.callee) (Some v.val_type)) → (e : Done (Unit {0})) → PassesOn p t value j e
        → Meets g s u lines (behind ahead (passed_on g t original next value z)) → Goal e
    passes_on None typed e is meets = gives e is (subst (λ (turn : Turn). Meets g s u lines (behind ahead turn)) (no_value original) meets)
    passes_on (Some v) typed e is meets =
        for_caller v y.caller original task.caller alike.called same (typed v refl) e
        (subst (λ (o : Option TaskSlot). Behind (given o (λ slot. Gives slot j)) (λ slot k e. LowersFor p t v.value slot.callee slot.caller k e) e) y_there is) meets
