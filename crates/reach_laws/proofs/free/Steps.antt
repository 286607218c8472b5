-- What a turn leads to, where from each world that it may lead to finitely many steps lead to one behind which none comes that costs nothing.
use Rattle.std.proofs.Common.{◌≡◌, ◌<◌, ℕ, Bool, true, false, nat_lt, List, [], ◌∷◌, ◌++◌, refl, ap, sym, ◌∙◌, subst, arith, Option, Some, None, Result, Ok, Err, if◌then◌else◌}
use Rattle.std.proofs.lemmas.Bool.Decides.{nat_tests}
use Rattle.handle_table.specs.History.{live_count, most_live, next_index}
use Rattle.comp_graph.specs.Graph.{Graph, Lifted}
use Rattle.script_reader.specs.Script.{Script}
use Rattle.trace_labels.specs.declared.label.Label.{Label}
use Rattle.trace_labels.specs.declared.trap.TrapName.{TrapName}
use Rattle.trace_labels.specs.declared.trap.TrapName.TheVariants as trap
use Rattle.abi_machine.specs.declared.run_end.RunEnd.TheVariants.{Fuel}
use Rattle.abi_machine.specs.Control.{Doomed}
use Rattle.abi_machine.specs.World.{Entry, Subtask, Task, World, first_world}
use Rattle.abi_machine.specs.Edits.{with_control, entry_added, unit_spent}
use Rattle.abi_machine.specs.Reading.{table_of, acting, func_of, task_at, subtask_of}
use Rattle.abi_machine.specs.Lifting.{Kept, Stopped, Came, once_lifted}
use Rattle.abi_machine.specs.Calling.{with_subtask_of}
use Rattle.abi_machine.specs.Turn.{Turn, Steps, Ends, Stuck, doomed, behind, given, unless_refused, unless, unless_fault, with_func, charged, with_entry}
use Rattle.abi_machine.specs.Next.{next}
use Rattle.abi_machine.specs.Run.{Reaches}
use Rattle.abi_machine.specs.sound.Initial.{RunsAlone}
use Rattle.abi_machine.specs.sound.RunsEnd.{IsFree, ComesToCost}
use Rattle.abi_machine.proofs.sound.Alone.{first_runs_alone, stays_alone}
use Rattle.abi_machine.proofs.sound.Lifts.{Leaves as LeavesWith}

less : (a b : ℕ) → nat_lt a b ≡ true → a < b
less a b h = grind (arith, nat_tests)

module _ (g : Graph) (s : Script) where
  -- a world that a run reaches
  abbrev pub IsReached : World → Type 0
  IsReached w = (steps : List (List Label)) × Reaches g s (first_world g) steps w

  -- Each world that is reached from this one comes to a step that costs, or to no step.
  abbrev pub ComesOn : World → Type 0
  ComesOn w = (steps : List (List Label)) (v : World) → Reaches g s w steps v → ComesToCost g s v

  -- So does each world to which a turn leads.
  abbrev pub Soon : Turn → Type 0
  Soon (Steps labels v) = IsReached v → ComesOn v
  Soon (Ends end) = Unit {0}
  Soon Stuck = Unit {0}

  one_more : (steps : List (List Label)) (labels : List Label) (w v u : World) → Reaches g s w steps v → next g s v ≡ Steps labels u → Reaches g s w (steps ++ labels ∷ []) u
  one_more [] labels w v u r e = (u, ap (λ (x : World). next g s x) (sym r) ∙ e, refl)
  one_more (first ∷ steps) labels w v u r e = (r.0, r.1, one_more steps labels r.0 v u r.2 e)

  before : (w u : World) (labels : List Label) → next g s w ≡ Steps labels u → ComesToCost g s u → ComesToCost g s w
  before w u labels e c = record { steps = labels ∷ c.steps; last = c.last; reached = (u, e, c.reached); costs = c.costs }

  behind_step : (w u : World) (labels : List Label) → next g s w ≡ Steps labels u → ComesOn u → ComesOn w
  behind_step w u labels e more [] v r = subst (λ (x : World). ComesToCost g s x) (sym r) (before w u labels e (more [] u refl))
  behind_step w u labels e more (first ∷ steps) v r =
      let mid : r.0 ≡ u = cc (r.1, e) in
      more steps v (subst (λ (m : World). Reaches g s m steps v) mid r.2)

  pub at_end : (w : World) → ((labels : List Label) (u : World) → next g s w ≡ Steps labels u → ⊥) → ComesOn w
  at_end w none [] v r =
      let here : ComesToCost g s w = record { steps = []; last = w; reached = refl; costs = λ (free : IsFree g s w). none free.labels free.behind free.comes } in
      subst (λ (x : World). ComesToCost g s x) (sym r) here
  at_end w none (labels ∷ steps) v r = absurd (none labels r.0 r.1)

  pub goes_on : (w : World) → IsReached w → Soon (next g s w) → ComesOn w
  goes_on w k h = by (next g s w) refl h
    where
      by : (t : Turn) → next g s w ≡ t → Soon t → ComesOn w
      by (Steps labels u) e more = behind_step w u labels e (more (k.0 ++ labels ∷ [], one_more k.0 labels (first_world g) w u k.1 e))
      by (Ends end) e more = at_end w (λ labels u f. cc (e, f))
      by Stuck e more = at_end w (λ labels u f. cc (e, f))

  -- A trap ends the run.
  pub doomed_comes : (w : World) (t : ℕ) (why : TrapName) → ComesOn (with_control (Doomed t why) w)
  doomed_comes w t why = at_end (with_control (Doomed t why) w) (λ labels u e. cc)

  pub soon_doomed : (w : World) (t : ℕ) (why : TrapName) → Soon (doomed t why w)
  soon_doomed w t why = λ kept. doomed_comes w t why

  pub soon_given : {A : Type 0} (o : Option A) (f : A → Turn) → ((x : A) → o ≡ Some x → Soon (f x)) → Soon (given o f)
  soon_given None f h = tt
  soon_given (Some x) f h = h x refl

  pub soon_found : {A : Type 0} (o : Option A) (x : A) (f : A → Turn) → o ≡ Some x → Soon (f x) → Soon (given o f)
  soon_found {A} o x f e h = subst (λ (o : Option A). Soon (given o f)) (sym e) h

  pub soon_none : {A : Type 0} (o : Option A) (f : A → Turn) → o ≡ None → Soon (given o f)
  soon_none {A} o f e = subst (λ (o : Option A). Soon (given o f)) (sym e) tt

  pub soon_behind : (lines : List Label) (t : Turn) → Soon t → Soon (behind lines t)
  soon_behind lines (Steps labels v) h = h
  soon_behind lines (Ends end) h = tt
  soon_behind lines Stuck h = tt

  pub soon_either : (b : Bool) (t u : Turn) → (b ≡ true → Soon t) → (b ≡ false → Soon u) → Soon (if b then t else u)
  soon_either true t u h k = h refl
  soon_either false t u h k = k refl

  pub soon_unless : (t : ℕ) (b : Bool) (why : TrapName) (w : World) (more : Turn) → (b ≡ false → Soon more) → Soon (unless t b why w more)
  soon_unless t true why w more h = soon_doomed w t why
  soon_unless t false why w more h = h refl

  pub soon_refused : {A : Type 0} (t : ℕ) (r : Result A TrapName) (w : World) (f : A → Turn) → ((x : A) → r ≡ Ok x → Soon (f x)) → Soon (unless_refused t r w f)
  soon_refused t (Err why) w f h = soon_doomed w t why
  soon_refused t (Ok x) w f h = h x refl

  pub soon_fault : {F : Type 0} (t : ℕ) (name : F → TrapName) (o : Option F) (w : World) (more : Turn) → Soon more → Soon (unless_fault t name o w more)
  soon_fault t name None w more h = h
  soon_fault t name (Some fault) w more h = soon_doomed w t (name fault)

  pub soon_entry : (t i : ℕ) (entry : Entry) (w : World) (more : ℕ → World → Turn) → Soon (more (next_index (table_of w i)) (entry_added i entry w)) → Soon (with_entry t i entry w more)
  soon_entry t i entry w more h =
      soon_either (nat_lt (live_count (table_of w i)) most_live) (more (next_index (table_of w i)) (entry_added i entry w)) (doomed t trap.TableFull w) (λ e. h) (λ e. soon_doomed w t trap.TableFull)

  pub soon_came : {A : Type 0} (P : World → Type 0) (t : ℕ) (came : Came A) (more : A → World → Turn) → LeavesWith (λ (k : Kept). P k.world) (λ (stop : Stopped). P stop.world) came
      → ((x : A) (v : World) → P v → Soon (more x v)) → Soon (once_lifted t came more)
  soon_came P t (Ok x) more h next = soon_behind x.1.lines (more x.0 x.1.world) (next x.0 x.1.world h)
  soon_came P t (Err stop) more h next = soon_behind stop.lines (doomed t stop.why stop.world) (soon_doomed stop.world t stop.why)

  pub soon_func : (w : World) (more : ℕ → Task → Lifted → Turn) → ((t : ℕ) (task : Task) (f : Lifted) → acting w ≡ Some (t, task) → func_of task.callee ≡ Some f → Soon (more t task f)) → Soon (with_func w more)
  soon_func w more h = soon_given (acting w) _ (λ a e. soon_given (func_of a.1.callee) (λ f. more a.0 a.1 f) (λ f k. h a.0 a.1 f e k))

  pub soon_subtask : (w : World) (callee : ℕ) (more : Task → Subtask → Turn) → ((task : Task) (subtask : Subtask) → Soon (more task subtask)) → Soon (with_subtask_of w callee more)
  soon_subtask w callee more h = soon_given (task_at w callee) _ (λ task e. soon_given (subtask_of task.caller) (λ subtask. more task subtask) (λ subtask k. h task subtask))

  -- A step that costs comes where a unit is left.
  pub soon_paid : (w : World) (f : World → Turn) → (w.units < s.fuel → Soon (f (unit_spent w))) → Soon (charged true s w f)
  soon_paid w f h = soon_either (nat_lt w.units s.fuel) (f (unit_spent w)) (Ends Fuel) (λ t. h (less w.units s.fuel t)) (λ t. tt)

  -- Task 0 runs alone in each world that is reached.
  alone_from : (steps : List (List Label)) (w v : World) → RunsAlone w → Reaches g s w steps v → RunsAlone v
  alone_from [] w v h r = subst RunsAlone (sym r) h
  alone_from (labels ∷ steps) w v h r = alone_from steps r.0 v (stays_alone g s w r.0 labels h r.1) r.2

  pub reached_alone : (w : World) → IsReached w → RunsAlone w
  reached_alone w k = alone_from k.0 (first_world g) w (first_runs_alone g) k.1
