-- Values that are lowered over what is kept.
use Rattle.std.proofs.Common.{◌≡◌, ◌⊎◌, inl, inr, ℕ, zero, suc, List, [], ◌∷◌, ◌++◌, slice_set, refl, sym, ap, ◌∙◌, subst, arith, append_assoc, append-nil, Option, Some, None}
use Rattle.std.specs.List.{slice_get, AllZip}
use Rattle.wasm_store.specs.Stack.{Stack}
use Rattle.syntax_trees.specs.declared.types.ValType.{ValType}
use Rattle.value_lower.specs.declared.ends.LowerWhy.{LowerWhy}
use Rattle.value_lower.specs.declared.ends.LowerWhy.TheVariants as lower_why
use Rattle.value_lower.specs.Plan as lower
use Rattle.value_lower.specs.Tables.{IsEntry}
use Rattle.copy_engine.specs.declared.acts.Act.{Act}
use Rattle.copy_engine.specs.declared.answering.CallRefusal.TheVariants as refusal
use Rattle.copy_engine.specs.declared.hosted.HostedTrap.TheVariants as hosted
use Rattle.copy_engine.specs.declared.lower_values.Lowered.{Lowered}
use Rattle.copy_engine.specs.declared.lower_values.Lowered.TheVariants as lowered
use Rattle.copy_engine.specs.Hosted.{Placed, as_plan, PlanComesTo}
use Rattle.comp_graph.specs.declared.graph.CanonFunc.{CanonFunc}
use Rattle.comp_graph.specs.Graph.{Graph}
use Rattle.graph_views.specs.Names as names
use Rattle.script_reader.specs.Script.{Script}
use Rattle.trace_labels.specs.declared.builtin.Builtin.{Builtin}
use Rattle.trace_labels.specs.declared.label.Label.{Label}
use Rattle.trace_labels.specs.declared.label.Label.TheVariants as line
use Rattle.trace_labels.specs.declared.trap.TrapName.{TrapName}
use Rattle.trace_labels.specs.declared.trap.TrapName.TheVariants as trap
use Rattle.instances.specs.declared.entry.WorldEntry.{WorldEntry}
use Rattle.instances.specs.Entries.{seen_as, of_handle, of_end}
use Rattle.instances.specs.Instances.{with_slots}
use Rattle.task_table.specs.declared.slot.TaskSlot.{TaskSlot}
use Rattle.task_table.specs.Slots.{with_word}
use Rattle.world_parts.specs.Held as kept
use Rattle.world_parts.specs.Held.{Held, Done, Gives, Traps, Spent, after, given}
use Rattle.world_parts.specs.Entries.{with_instance}
use Rattle.world_parts.specs.Feed.{told}
use Rattle.world_parts.specs.Names as kept_names
use Rattle.world_parts.specs.Slots.{with_task, context_set}
use Rattle.world_stacks.specs.Names as stack_names
use Rattle.value_moves.specs.declared.lowering.Destination.{Destination}
use Rattle.value_moves.specs.Lowering as moves
use Rattle.value_moves.specs.Lowering.{Site, begun_at, left_at, setting_in, got_told, all_told, lowered_by, finished, LowersAt}
use Rattle.abi_machine.specs.LoweringOver as machine
use Rattle.abi_machine.specs.Traps.{core_name, lower_name, refusal_name}
use Rattle.abi_machine.specs.Control.{Control, Free, Lowering, Lowers, Doomed}
use Rattle.abi_machine.specs.World.{World}
use Rattle.abi_machine.specs.Canons.{builtin_of, canon_at}
use Rattle.standing.specs.Instances.{InstStands}
use Rattle.standing.specs.Tasks.{TaskStands}
use Rattle.standing.specs.Stands.{Stands}
use Rattle.standing.specs.Reaching.{GoesTo}
use Rattle.standing.specs.Lowers.{why_as, got_lines, act_lines, all_lines, room_at, lowered_held, PlanAgrees, LowersTo}
use Rattle.standing.proofs.Lists.{BothAt, at_both}
use Rattle.standing.proofs.Agreeing.{get_set}
use Rattle.standing.proofs.Found.{names_same}
use Rattle.standing.proofs.Restacking.{lowered_stands}
use Rattle.standing.proofs.TaskRuns.{traps_alike}
use Rattle.standing.proofs.InPlace.{builtins_alike}
use Rattle.standing.proofs.Lowers.{lowerings_lead}
use Rattle.run_laws.specs.Lowered.{IsSiteOf, LoweredLeads, LowersAtLeads}

-- What stands for something that is kept at a place.
pub record IsThere {A B : Type 0} (R : A → B → Type 0) (x : A) (o : Option B) : Type 0 where
  pub right : B
  pub is : o ≡ Some right
  pub alike : R x right

there : {A B : Type 0} (R : A → B → Type 0) (x : A) (o : Option B) → BothAt R (Some x) o → IsThere R x o
there R x None b = absurd b
there R x (Some y) b = record { right = y; is = refl; alike = b }

by_left : {A B : Type 0} (R : A → B → Type 0) (xs : List A) (ys : List B) (n : ℕ) (x : A) → AllZip R xs ys → slice_get xs n ≡ Some x → IsThere R x (slice_get ys n)
by_left R xs ys n x all e = there R x (slice_get ys n) (subst (λ o. BothAt R o (slice_get ys n)) e (at_both R xs ys n all))

-- What is written twice is written once.
set_twice : {A : Type 0} (xs : List A) (n : ℕ) (x y : A) → slice_set (slice_set xs n x) n y ≡ slice_set xs n y
set_twice [] n x y = refl
set_twice (a ∷ xs) zero x y = refl
set_twice (a ∷ xs) (suc n) x y = ap (λ zs. a ∷ zs) (set_twice xs n x y)

lower_same : (why : LowerWhy) → lower_name (why_as why) ≡ moves.lower_name why
lower_same lower_why.Misaligned = refl
lower_same lower_why.Bounds = refl
lower_same lower_why.TableFull = refl

-- with lines behind those that were told
abbrev and_told : List Label → Held → Held
and_told lines h = record h { labels = h.labels ++ lines }

-- The calls of code are told, or no rule applies.
one_told : (g : Graph) (t : ℕ) (act : Act) (h : Held) (c : CanonFunc)
    → after (told (line.Do t (names.builtin_of c) act.words) h) (λ done k. got_told t act.got k) ≡ Gives tt (and_told (act_lines t act (Some c)) h)
one_told g t act h c = by act.got
  where
    by : (got : Option (List ℕ)) → after (told (line.Do t (names.builtin_of c) act.words) h) (λ done k. got_told t got k) ≡ Gives tt (and_told (line.Do t (builtin_of c) act.words ∷ got_lines t got) h)
    by None = ap (λ (name : Builtin). Gives tt (and_told (line.Do t name act.words ∷ []) h)) (builtins_alike c)
    by (Some words) =
        ap (λ (name : Builtin). Gives tt (record h { labels = (h.labels ++ line.Do t name act.words ∷ []) ++ line.Got t words ∷ [] })) (builtins_alike c)
        ∙ ap (λ (ls : List Label). Gives tt (record h { labels = ls })) (append_assoc h.labels (line.Do t (builtin_of c) act.words ∷ []) (line.Got t words ∷ []))

abbrev ToldOr : Graph → ℕ → List Act → Held → Type 0
ToldOr g t acts h = (all_told g t acts h ≡ Gives tt (and_told (all_lines g t acts) h)) ⊎ (all_told g t acts h ≡ kept.Stuck)

more_told : (g : Graph) (t : ℕ) (act : Act) (acts : List Act) (h : Held) (o : Option CanonFunc) → ((k : Held) → ToldOr g t acts k)
    → (after (given o (λ c. after (told (line.Do t (names.builtin_of c) act.words) h) (λ done k. got_told t act.got k))) (λ (done : Unit {0}) k. all_told g t acts k)
    ≡ Gives tt (and_told (act_lines t act o ++ all_lines g t acts) h))
    ⊎ (after (given o (λ c. after (told (line.Do t (names.builtin_of c) act.words) h) (λ done k. got_told t act.got k))) (λ (done : Unit {0}) k. all_told g t acts k) ≡ kept.Stuck)
more_told g t act acts h None more = inr refl
more_told g t act acts h (Some c) more =
    let first = ap (λ (d : Done (Unit {0})). after d (λ (done : Unit {0}) k. all_told g t acts k)) (one_told g t act h c) in
    elim (more (and_told (act_lines t act (Some c)) h)) [
      | inl e ↦ inl (first ∙ e ∙ ap (λ (ls : List Label). Gives tt (record h { labels = ls })) (append_assoc h.labels (act_lines t act (Some c)) (all_lines g t acts)))
      | inr e ↦ inr (first ∙ e)
    ]

told_or : (g : Graph) (t : ℕ) (acts : List Act) (h : Held) → ToldOr g t acts h
told_or g t [] h = inl (ap (λ (ls : List Label). Gives tt (record h { labels = ls })) (sym (append-nil h.labels)))
told_or g t (act ∷ acts) h = more_told g t act acts h (canon_at g act.canon) (λ k. told_or g t acts k)

-- The words of context are those that are left.
set_both : (h : Held) (t : ℕ) (slot : TaskSlot) (c : ℕ × ℕ) (G : Held → Done (List ℕ)) → slice_get h.tasks t ≡ Some slot
    → after (context_set t 0 c.0 h) (λ done k. after (context_set t 1 c.1 k) (λ done l. G l)) ≡ G (with_task t (record slot { context = c }) h)
set_both h t slot c G e =
    let one : TaskSlot = with_word 0 c.0 slot in
    ap (λ (o : Option TaskSlot). after (given o (λ x. Gives tt (with_task t (with_word 0 c.0 x) h))) (λ (done : Unit {0}) k. after (context_set t 1 c.1 k) (λ done l. G l))) e
    ∙ ap (λ (o : Option TaskSlot). after (given o (λ x. Gives tt (with_task t (with_word 1 c.1 x) (with_task t one h)))) (λ (done : Unit {0}) l. G l)) (get_set h.tasks t slot one e)
    ∙ ap (λ (tasks : List TaskSlot). G (record h { tasks = tasks })) (set_twice h.tasks t one (record slot { context = c }))

-- What a lowering that leads comes to over what is kept.
module _ (g : Graph) (values : List ValType) (s : Script) (w : World) (h : Held) (stacks : List (List Stack)) (l : Lowering) (to : Destination) (site : Site) (slot : TaskSlot)
    (at : IsSiteOf g values s w h stacks l to site slot) where
  abbrev Leads : Done (List ℕ) → Type 0
  Leads d = LoweredLeads g values s w h.labels stacks l d

  abbrev behind : Placed WorldEntry → Held
  behind p = lowered_held l p.room p.slots site.instance slot h

  abbrev lines : Placed WorldEntry → List Label
  lines p = all_lines g l.acts_for p.room.acts.calls

  stands_at : (came : Lowered) (p : Placed WorldEntry) → (to : LowersTo g values s w l (as_plan came) p) → (c : Control)
      → Stands g values s (behind p) stacks (room_at w l p.room to.used to.table c)
  stands_at came p to c =
      lowered_stands g values s h stacks w l p.room p.slots to.table to.used c site.instance slot at.inst_there at.task_there to.stands to.units at.stands

  doomed_by : (came : Lowered) (p : Placed WorldEntry) (why name : TrapName) → (to : LowersTo g values s w l (as_plan came) p) → why ≡ name
      → GoesTo g s w (lines p) (room_at w l p.room to.used to.table (Doomed l.blame why)) → Leads (Traps name (and_told (lines p) (behind p)))
  doomed_by came p why name to same goes = record {
    lines = lines p;
    world = room_at w l p.room to.used to.table (Doomed l.blame why);
    goes = goes;
    stands = stands_at came p to (Doomed l.blame why);
    told = refl;
    ends = ap (Doomed l.blame) same;
  }

  by_came : (came : Lowered) (p : Placed WorldEntry) → LowersTo g values s w l (as_plan came) p → Leads (lowered_by came (and_told (lines p) (behind p)))
  by_came (lowered.Words words) p to = record {
    lines = lines p;
    world = room_at w l p.room to.used to.table Free;
    meets = to.leads;
    stands = stands_at (lowered.Words words) p to Free;
    told = refl;
  }
  by_came (lowered.Failed why) p to = doomed_by (lowered.Failed why) p (lower_name (why_as why)) (moves.lower_name why) to (lower_same why) to.leads
  by_came (lowered.Trapped (hosted.Core why)) p to = doomed_by (lowered.Trapped (hosted.Core why)) p (core_name why) (stack_names.core_name why) to (traps_alike why) to.leads
  by_came (lowered.Trapped (hosted.Call refusal.CannotLeave)) p to = doomed_by (lowered.Trapped (hosted.Call refusal.CannotLeave)) p trap.CannotLeave trap.CannotLeave to refl to.leads
  by_came (lowered.Trapped (hosted.Call (refusal.Refused why))) p to =
      doomed_by (lowered.Trapped (hosted.Call (refusal.Refused why))) p (refusal_name why) (kept_names.refusal_name why) to (sym (names_same why)) to.leads
  by_came (lowered.Trapped (hosted.Call refusal.NoRule)) p to = tt
  by_came (lowered.Trapped hosted.NoRealloc) p to = tt
  by_came lowered.NoFuel p to = record {
    lines = lines p;
    last = room_at w l p.room to.used to.table to.leads.0;
    runs = to.leads.1;
    stands = stands_at lowered.NoFuel p to to.leads.0;
    told = refl;
  }

  told_leads : (came : Lowered) (p : Placed WorldEntry) → LowersTo g values s w l (as_plan came) p → ToldOr g l.acts_for p.room.acts.calls (behind p)
      → Leads (after (all_told g l.acts_for p.room.acts.calls (behind p)) (λ (done : Unit {0}) m. lowered_by came m))
  told_leads came p to (inl e) = subst (λ (d : Done (Unit {0})). Leads (after d (λ (done : Unit {0}) m. lowered_by came m))) (sym e) (by_came came p to)
  told_leads came p to (inr e) = subst (λ (d : Done (Unit {0})). Leads (after d (λ (done : Unit {0}) m. lowered_by came m))) (sym e) tt

  finished_is : (came : Lowered) (p : Placed WorldEntry)
      → finished g to.task p.room.acts came (left_at to site p h) ≡ after (all_told g l.acts_for p.room.acts.calls (behind p)) (λ (done : Unit {0}) m. lowered_by came m)
  unfolding finished
  finished_is came p =
      ap (λ (t : ℕ). finished g t p.room.acts came (left_at to site p h)) at.task
      ∙ ap (λ (i : ℕ). finished g l.acts_for p.room.acts came (moves.with_room p.room (with_instance i (with_slots p.slots site.instance) h))) at.instance
      ∙ set_both (moves.with_room p.room (with_instance l.inst (with_slots p.slots site.instance) h)) l.acts_for slot p.room.acts.context
      (λ k. after (all_told g l.acts_for p.room.acts.calls k) (λ (done : Unit {0}) m. lowered_by came m)) at.task_there

  comes : (plan : lower.Plan) (m : machine.Plan) (came : Lowered) (p : Placed WorldEntry) → w.control ≡ Lowers l m → PlanAgrees plan m
      → PlanComesTo seen_as (IsEntry of_handle of_end to.task values) (setting_in g to) plan (begun_at site h) came p → LowersTo g values s w l (as_plan came) p
  comes plan m came p control agrees follows =
      let task : IsThere (TaskStands g s) slot (slice_get w.tasks l.acts_for) = by_left (TaskStands g s) h.tasks w.tasks l.acts_for slot at.stands.are_tasks at.task_there in
      let inst : IsThere (InstStands values) site.instance (slice_get w.insts l.inst) = by_left (InstStands values) h.instances w.insts l.inst site.instance at.stands.are_instances at.inst_there in
      lowerings_lead g values s w l (setting_in g to) task.right inst.right plan m (begun_at site h) p came control agrees
      (record {
        memory = at.memory;
        realloc = at.realloc;
        canons = refl;
        instance = at.instance;
        store = at.stands.same_store;
        units = (let sum = at.stands.fuel in omega (arith, sum));
        untold = refl;
        task_there = task.is;
        context = at.context ∙ task.alike.words;
        inst_there = inst.is;
        table = inst.alike.table;
      })
      (subst (λ (t : ℕ). PlanComesTo seen_as (IsEntry of_handle of_end t values) (setting_in g to) plan (begun_at site h) came p) at.task follows)

pub lowers_at_leads : LowersAtLeads
lowers_at_leads g values s w h stacks l to site slot plan m d control agrees at lowers =
    subst (LoweredLeads g values s w h.labels stacks l) (sym lowers.3)
    (subst (LoweredLeads g values s w h.labels stacks l) (sym (finished_is g values s w h stacks l to site slot at lowers.0 lowers.1))
    (told_leads g values s w h stacks l to site slot at lowers.0 lowers.1 (comes g values s w h stacks l to site slot at plan m lowers.0 lowers.1 control agrees lowers.2)
    (told_or g l.acts_for lowers.1.room.acts.calls (lowered_held l lowers.1.room lowers.1.slots site.instance slot h))))
