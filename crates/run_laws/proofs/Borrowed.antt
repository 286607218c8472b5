-- Borrow handles that a task gets are counted: what is kept stands for the same world, in which they are counted where they are looked at.
use Rattle.std.proofs.Common.{◌≡◌, ℕ, List, [], ◌∷◌, map, Some, None, refl, sym, ◌∙◌, subst}
use Rattle.wasm_store.specs.Stack.{Stack}
use Rattle.syntax_trees.specs.declared.types.ValType.{ValType}
use Rattle.syntax_trees.specs.declared.value.Value.{Value}
use Rattle.syntax_trees.specs.declared.value.Value.TheOpen as V
use Rattle.syntax_trees.specs.declared.value.Value.TheViews.{roll-Value}
use Rattle.syntax_trees.specs.declared.value.Value.TheFolds.{map-Value, ind-Value, fold-roll-Value}
use Rattle.res_handles.specs.Calls.{is_defined}
use Rattle.tasks.specs.declared.event.TaskEvent.TheVariants as event
use Rattle.tasks.specs.Tasks as task_of
use Rattle.comp_graph.specs.Graph.{Graph}
use Rattle.script_reader.specs.Script.{Script}
use Rattle.task_table.specs.declared.slot.TaskSlot.{TaskSlot}
use Rattle.task_table.specs.Slots as slots
use Rattle.world_parts.specs.Held as kept
use Rattle.world_parts.specs.Held.{Held, Done, Gives, after}
use Rattle.world_parts.specs.Slots.{happens}
use Rattle.value_moves.specs.Borrowing.{Act, all_done, borrow_counted, borrow_step, borrows_counted}
use Rattle.abi_machine.specs.World.{World}
use Rattle.standing.specs.Stands.{Stands}
use Rattle.standing.proofs.Backing.{tasks_stay}
use Rattle.run_laws.specs.Lifted.{callees_of}
use Rattle.run_laws.proofs.Moved.{seen_set}
use Rattle.run_laws.proofs.Giving.{AllGive, after_gives, either_gives, happens_gives}

module _ (g : Graph) (values : List ValType) (s : Script) where
  pub record Counts (h k : Held) : Type 0 where
    pub stands : (stacks : List (List Stack)) (w : World) → Stands g values s h stacks w → Stands g values s k stacks w
    pub told : k.labels ≡ h.labels
    pub same_tasks : callees_of k.tasks ≡ callees_of h.tasks

  counts_none : (h : Held) → Counts h h
  counts_none h = record { stands = λ stacks w st. st; told = refl; same_tasks = refl }

  counts_then : (h k l : Held) → Counts h k → Counts k l → Counts h l
  counts_then h k l first more = record {
    stands = λ stacks w st. more.stands stacks w (first.stands stacks w st);
    told = more.told ∙ first.told;
    same_tasks = more.same_tasks ∙ first.same_tasks;
  }

  abbrev CountsBy : Held → Done (Unit {0}) → Type 0
  CountsBy h d = AllGive (λ done k. Counts h k) d

  then_counts : (h k : Held) (d : Done (Unit {0})) → Counts h k → CountsBy k d → CountsBy h d
  then_counts h k d first more = behind d more
    where
      behind : (e : Done (Unit {0})) → CountsBy k e → CountsBy h e
      behind (Gives done l) more = counts_then h k l first more
      behind (kept.Traps why l) more = absurd more
      behind (kept.Spent l) more = absurd more
      behind kept.Stuck more = tt

  after_counts : (h : Held) (d : Done (Unit {0})) (F : Unit {0} → Held → Done (Unit {0})) → CountsBy h d → ((done : Unit {0}) (k : Held) → CountsBy k (F done k)) → CountsBy h (after d F)
  after_counts h d F first more = after_gives (λ done k. Counts h k) (λ done k. Counts h k) d F first (λ done k now. then_counts h k (F done k) now (more done k))

  -- One more handle counts for a task.
  borrow_counts : (t : ℕ) (h : Held) → CountsBy h (happens t event.Borrow h)
  borrow_counts t h =
      happens_gives (λ done k. Counts h k) event.Borrow t h (λ x. refl)
      (λ x there may.
      (let y : TaskSlot = slots.with_task (task_of.after event.Borrow x.task) x in
      record {
        stands = λ stacks w st. tasks_stay g values s h stacks w t x y there (λ a now. record {
          does = now.does;
          place = now.place;
          lifted = now.lifted;
          called = now.called;
          seen = now.seen;
          far = now.far;
          at = now.at;
          resolved = now.resolved;
          cancelled = now.cancelled;
          words = now.words;
          placed = now.placed;
        }) st;
        told = refl;
        same_tasks = seen_set (λ (slot : TaskSlot). slot.callee) h.tasks t x y there refl;
      }))

  module _ (home : List ℕ) (t : ℕ) where
    abbrev CountsOn : Act → Type 0
    CountsOn act = (h : Held) → CountsBy h (act h)

    abbrev Good : Value → Type 0
    Good v = CountsOn (borrows_counted home t v)

    abbrev Goods : Type 0
    Goods = (v : Value) × Good v

    abbrev these : List Goods → List Value
    these es = map (λ (e : Goods). e.0) es

    all_count : (es : List Goods) → CountsOn (all_done (map (borrows_counted home t) (these es)))
    all_count [] h = counts_none h
    all_count (e ∷ es) h =
        after_counts h (borrows_counted home t e.0 h) (λ done k. all_done (map (borrows_counted home t) (these es)) k) (e.1 h) (λ done k. all_count es k)

    one_counts : (resource : ℕ) → CountsOn (borrow_counted home t resource)
    one_counts resource h =
        either_gives (λ done k. Counts h k) (is_defined resource home) (Gives (tt {0}) h) (happens t event.Borrow h) (counts_none h) (borrow_counts t h)

    abbrev layer : V.Value-F Goods → V.Value-F Value
    layer w = map-Value Goods Value (λ (e : Goods). e.0) w

    abbrev in_layer : V.Value-F Value → V.Value-F Act
    in_layer w = map-Value Value Act (borrows_counted home t) w

    step_counts : (w : V.Value-F Goods) → CountsOn (borrow_step home t (in_layer (layer w)))
    step_counts (V.List es) h = all_count es h
    step_counts (V.Record es) h = all_count es h
    step_counts (V.Variant n (Some e)) h = e.1 h
    step_counts (V.Variant n None) h = counts_none h
    step_counts (V.Borrow x) h = one_counts x.resource h
    step_counts (V.String text) h = counts_none h
    step_counts (V.Flags flags) h = counts_none h
    step_counts (V.Own x) h = counts_none h
    step_counts (V.Stream x) h = counts_none h
    step_counts (V.Future x) h = counts_none h
    step_counts (V.Bool b) h = counts_none h
    step_counts (V.S8 n) h = counts_none h
    step_counts (V.U8 n) h = counts_none h
    step_counts (V.S16 n) h = counts_none h
    step_counts (V.U16 n) h = counts_none h
    step_counts (V.S32 n) h = counts_none h
    step_counts (V.U32 n) h = counts_none h
    step_counts (V.S64 n) h = counts_none h
    step_counts (V.U64 n) h = counts_none h
    step_counts (V.Char c) h = counts_none h

    good_step : (w : V.Value-F Goods) → Good (roll-Value (layer w))
    good_step w = subst CountsOn (sym (fold-roll-Value Act (borrow_step home t) (layer w))) (step_counts w)

    good : (v : Value) → Good v
    good = ind-Value Good (λ x y e. subst (λ (z : V.Value-F Value). Good (roll-Value z)) e (good_step y))

    pub borrows_count : (v : Value) (h : Held) → CountsBy h (borrows_counted home t v h)
    borrows_count v h = good v h
