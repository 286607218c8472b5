-- How often a handle is lent is what the machine counts, where marks of handles that are lent are right.
use Rattle.std.proofs.Common.{◌≡◌, ℕ, Bool, ◌&&◌, nat_eq, ◌+◌, List, [], ◌∷◌, refl, sym, ap, ◌∙◌, Option, Some, None}
use Rattle.std.specs.List.{slice_get, AllZip, count_by, sum_by}
use Rattle.std.proofs.lemmas.List.Sums.{sum_by-cons}
use Rattle.syntax_trees.specs.declared.types.ValType.{ValType}
use Rattle.wasm_store.specs.Stack.{Stack}
use Rattle.comp_graph.specs.Graph.{Graph}
use Rattle.script_reader.specs.Script.{Script}
use Rattle.task_table.specs.declared.caller.Caller as kept_caller
use Rattle.task_table.specs.declared.caller.Caller.TheVariants as caller
use Rattle.task_table.specs.declared.slot.TaskSlot.{TaskSlot}
use Rattle.task_table.specs.Callers.{called_of}
use Rattle.world_parts.specs.Held.{Held}
use Rattle.abi_machine.specs.World.{Caller, Nobody, Host, Guest, Task, World}
use Rattle.abi_machine.specs.Reading.{subtask_of, runs_in, task_at}
use Rattle.abi_machine.specs.Counting.{passes, lends_for, lends_of}
use Rattle.standing.specs.Tasks.{CallerStands, TaskStands}
use Rattle.standing.specs.Stands.{Stands}
use Rattle.standing.specs.KeptMarks.{runs_at, lends_by, is_task_at, lends_at}
use Rattle.standing.proofs.Lists.{BothAt, at_both}
use Rattle.standing.proofs.KeptMarks.{runs_alike}

sums_alike : {A B : Type 0} (R : A → B → Type 0) (f : A → ℕ) (g : B → ℕ) → ((x : A) (y : B) → R x y → f x ≡ g y) → (xs : List A) (ys : List B) → AllZip R xs ys → sum_by f xs ≡ sum_by g ys
sums_alike R f g same [] [] h = refl
sums_alike R f g same [] (y ∷ ys) h = absurd h
sums_alike R f g same (x ∷ xs) [] h = absurd h
sums_alike R f g same (x ∷ xs) (y ∷ ys) h =
    sum_by-cons f x xs ∙ ap (λ (n : ℕ). n + sum_by f xs) (same x y h.0) ∙ ap (λ (n : ℕ). g y + n) (sums_alike R f g same xs ys h.1) ∙ sym (sum_by-cons g y ys)

task_there : (g : Graph) (s : Script) (at : ℕ) (o : Option TaskSlot) (p : Option Task) → BothAt (TaskStands g s) o p → passes (runs_at at) o ≡ passes (runs_in at) p
task_there g s at None None b = refl
task_there g s at None (Some a) b = absurd b
task_there g s at (Some k) None b = absurd b
task_there g s at (Some k) (Some a) b = runs_alike g s at k a b

lent_same : (g : Graph) (values : List ValType) (s : Script) (h : Held) (stacks : List (List Stack)) (w : World) (at index : ℕ) (c : kept_caller.Caller) (d : Caller)
    → Stands g values s h stacks w → CallerStands s c d
    → lends_by (is_task_at h.tasks at) index (called_of c) ≡ lends_for (λ t. passes (runs_in at) (task_at w t)) index (subtask_of d)
lent_same g values s h stacks w at index caller.Nobody Nobody st c = refl
lent_same g values s h stacks w at index caller.Nobody (Host call vs) st c = absurd c
lent_same g values s h stacks w at index caller.Nobody (Guest subtask) st c = absurd c
lent_same g values s h stacks w at index (caller.Host number) Nobody st c = absurd c
lent_same g values s h stacks w at index (caller.Host number) (Host call vs) st c = refl
lent_same g values s h stacks w at index (caller.Host number) (Guest subtask) st c = absurd c
lent_same g values s h stacks w at index (caller.Guest called) Nobody st c = absurd c
lent_same g values s h stacks w at index (caller.Guest called) (Host call vs) st c = absurd c
lent_same g values s h stacks w at index (caller.Guest called) (Guest subtask) st c =
    ap (λ (t : ℕ). count_by (λ handle. is_task_at h.tasks at t && nat_eq handle index) called.subtask.lends) c.caller
    ∙ ap (λ (b : Bool). count_by (λ handle. b && nat_eq handle index) called.subtask.lends)
    (task_there g s at (slice_get h.tasks subtask.by) (slice_get w.tasks subtask.by) (at_both (TaskStands g s) h.tasks w.tasks subtask.by st.are_tasks))
    ∙ ap (λ (lends : List ℕ). count_by (λ handle. passes (runs_in at) (task_at w subtask.by) && nat_eq handle index) lends) c.lent

pub lends_are_same : (g : Graph) (values : List ValType) (s : Script) (h : Held) (stacks : List (List Stack)) (w : World) (at index : ℕ) → Stands g values s h stacks w
    → lends_at h.tasks at index ≡ lends_of w at index
lends_are_same g values s h stacks w at index st =
    sums_alike (TaskStands g s) (λ (slot : TaskSlot). lends_by (is_task_at h.tasks at) index (called_of slot.caller))
    (λ (task : Task). lends_for (λ t. passes (runs_in at) (task_at w t)) index (subtask_of task.caller))
    (λ k a alike. lent_same g values s h stacks w at index k.caller a.caller st alike.called) h.tasks w.tasks st.are_tasks
