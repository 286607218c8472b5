-- The script's next call is taken.
use Rattle.std.proofs.Common.{◌≡◌, ℕ, zero, suc, ◌+◌, ◌-◌, if◌then◌else◌, List, [], ◌∷◌, ◌++◌, length, take, refl, sym, ap, ◌∙◌, subst, arith, Option, Some}
use Rattle.std.specs.Option.{option_map}
use Rattle.std.specs.List.{slice_get, count_by}
use Rattle.std.proofs.lemmas.List.Sums.{sum_by-cons}
use Rattle.entry_gate.specs.declared.kind.Kind.{Kind}
use Rattle.comp_graph.specs.Graph.{Graph, Lifted, func_at}
use Rattle.script_reader.specs.declared.script.Call.{Call}
use Rattle.script_reader.specs.declared.script.Item.{Item}
use Rattle.script_reader.specs.declared.script.Item.TheVariants as item
use Rattle.script_reader.specs.Script.{Script}
use Rattle.trace_labels.specs.declared.label.Label.TheVariants as line
use Rattle.trace_labels.specs.declared.typed.TypedValue.{TypedValue}
use Rattle.task_table.specs.declared.caller.Caller.TheVariants as by
use Rattle.task_table.specs.declared.errand.Callee.TheVariants as callee
use Rattle.task_table.specs.Slots.{new_slot}
use Rattle.world_parts.specs.declared.parts.Flow.TheVariants as flow
use Rattle.world_parts.specs.declared.parts.Rest.TheVariants as rest
use Rattle.world_parts.specs.Held.{Gives, after}
use Rattle.world_parts.specs.Feed.{told, at_rest, chained, item_taken}
use Rattle.world_parts.specs.Slots.{next_task, task_made, call_made}
use Rattle.world_parts.specs.Turning.{call_taken}
use Rattle.abi_machine.specs.World as machine
use Rattle.abi_machine.specs.World.{Func, New, new_task}
use Rattle.abi_machine.specs.Edits as world
use Rattle.abi_machine.specs.Edits.{with_control, unit_spent}
use Rattle.abi_machine.specs.Turn as turns
use Rattle.abi_machine.specs.Turn.{Steps}
use Rattle.abi_machine.specs.Control.{Arrives}
use Rattle.abi_machine.specs.Canons.{kind_of_options}
use Rattle.abi_machine.specs.Reading.{numbered}
use Rattle.abi_machine.specs.Calling.{begun}
use Rattle.abi_machine.specs.Scheduling as scheduler
use Rattle.abi_machine.specs.Scheduling.{is_call, calls_taken, arguments_typed, item_turn, alternative_turn}
use Rattle.standing.specs.Tasks.{calls_of, TaskStands}
use Rattle.standing.specs.Rows.{CallIsTaken}
use Rattle.standing.proofs.Lists.{both_long}
use Rattle.standing.proofs.Changes.{tasks_are_made, tasks_come_to_the_chain, items_are_taken}
use Rattle.standing.proofs.Going.{on_spent}

-- The call of an item is the next one behind those before it.
calls_at : (items : List Item) (n : ℕ) (call : Call) → slice_get items n ≡ Some (item.Call call)
    → slice_get (calls_of items) (count_by is_call (take n items)) ≡ Some call
calls_at [] n call e = absurd (cc)
calls_at (item.Call other ∷ items) zero call e = cc
calls_at (item.Cancel number ∷ items) zero call e = absurd (cc)
calls_at (item.Call other ∷ items) (suc n) call e =
    let more : count_by is_call (item.Call other ∷ take n items) ≡ suc (count_by is_call (take n items)) =
    omega (arith, sum_by-cons (λ (x : Item). if is_call x then 1 else 0) (item.Call other) (take n items)) in
    ap (λ (k : ℕ). slice_get (other ∷ calls_of items) k) more ∙ calls_at items n call e
calls_at (item.Cancel number ∷ items) (suc n) call e =
    let same : count_by is_call (item.Cancel number ∷ take n items) ≡ count_by is_call (take n items) =
    omega (arith, sum_by-cons (λ (x : Item). if is_call x then 1 else 0) (item.Cancel number) (take n items)) in
    ap (λ (k : ℕ). slice_get (calls_of items) k) same ∙ calls_at items n call e

new_stands : (g : Graph) (s : Script) (export instance number count : ℕ) (kind : Kind) (f : Lifted) (call : Call)
    → func_at g export ≡ Some f → instance ≡ f.instance → kind ≡ kind_of_options f.options → number ≡ suc count → slice_get (calls_of s.items) count ≡ Some call
    → TaskStands g s (new_slot instance kind (callee.Export export) (by.Host number)) (new_task (Func f) (machine.Host number call.values) New)
new_stands g s export instance number count kind f call is place_is lifted_is next found = record {
  does = ap (λ (o : Option Lifted). option_map Func o) is;
  place = place_is;
  lifted = lifted_is;
  called = (refl, (call, subst (λ (n : ℕ). numbered (calls_of s.items) n ≡ Some call) (sym next) found, refl));
  seen = refl;
  far = refl;
  at = refl;
  resolved = refl;
  cancelled = refl;
  words = refl;
  placed = tt;
}

pub call_is_taken : CallIsTaken
unfolding call_taken alternative_turn item_turn scheduler.call_taken
call_is_taken g values s h stacks w call export instance kind args f item_is named is place_is lifted_is typed_is counted st =
    let many : length h.tasks ≡ length w.tasks = both_long (TaskStands g s) h.tasks w.tasks st.are_tasks in
    let found : slice_get (calls_of s.items) (length h.calls) ≡ Some call =
    ap (λ (n : ℕ). slice_get (calls_of s.items) n) counted ∙ calls_at s.items w.taken call item_is in
    let number : ℕ = length h.calls + 1 in
    let stands : TaskStands g s (new_slot instance kind (callee.Export export) (by.Host number)) (new_task (Func f) (machine.Host number call.values) New) =
    new_stands g s export instance number (length h.calls) kind f call is place_is lifted_is (omega arith) found in
    on_spent g values s (length h.tasks) h.labels (stacks ++ [] ∷ []) stacks h w
    (λ done k. after (item_taken k) (λ done l. after (next_task l) (λ t m. after (told (line.Take (length m.calls + 1) t call.name args) m) (λ done n.
    after (task_made (new_slot instance kind (callee.Export export) (by.Host (length m.calls + 1))) n) (λ made o.
    after (call_made t o) (λ done p. after (chained t p) (λ done q. Gives flow.Rests (at_rest rest.Arrives q))))))))
    (λ v. item_turn g s (item.Call call) v) st
    (λ now. record {
      lines = line.Take number (length h.tasks) call.name args ∷ [];
      world = world.chained (length h.tasks) (world.task_made (Func f) (machine.Host number call.values) (world.item_taken (unit_spent w)));
      stands = tasks_come_to_the_chain g values s (record h { left = h.left - 1; taken = h.taken + 1; tasks = h.tasks ++ new_slot instance kind (callee.Export export) (by.Host number) ∷ [] })
          (stacks ++ [] ∷ []) (world.task_made (Func f) (machine.Host number call.values) (world.item_taken (unit_spent w))) (length h.tasks)
          (tasks_are_made g values s (record h { left = h.left - 1; taken = h.taken + 1 }) stacks (world.item_taken (unit_spent w))
          (new_slot instance kind (callee.Export export) (by.Host number)) (new_task (Func f) (machine.Host number call.values) New) stands
          (items_are_taken g values s (record h { left = h.left - 1 }) stacks (unit_spent w) now));
      told = refl;
      ends =
          ap (λ (o : Option Lifted). turns.given o (λ e. scheduler.call_taken (calls_taken s (unit_spent w) + 1) call e (unit_spent w))) named
          ∙ ap (λ (n : ℕ). Steps (line.Take (n + 1) (length w.tasks) call.name (arguments_typed f call.values) ∷ [])
          (begun (Func f) (machine.Host (n + 1) call.values) (world.item_taken (unit_spent w)))) (sym counted)
          ∙ ap (λ (n : ℕ). Steps (line.Take number n call.name (arguments_typed f call.values) ∷ [])
          (with_control Arrives (world.chained n (world.task_made (Func f) (machine.Host number call.values) (world.item_taken (unit_spent w)))))) (sym many)
          ∙ ap (λ (xs : List TypedValue). Steps (line.Take number (length h.tasks) call.name xs ∷ [])
          (with_control Arrives (world.chained (length h.tasks) (world.task_made (Func f) (machine.Host number call.values) (world.item_taken (unit_spent w)))))) (sym typed_is);
    })
