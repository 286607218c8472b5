-- Tasks go on, and come to their end.
use Rattle.std.proofs.Common.{◌≡◌, ℕ, ◌-◌, Bool, true, false, is_none, nat_lt, is_some, if◌then◌else◌, List, [], ◌∷◌, refl, sym, ap, ◌∙◌, subst, append-nil, Option, Some}
use Rattle.std.specs.Option.{option_map}
use Rattle.std.specs.List.{slice_get}
use Rattle.syntax_trees.specs.declared.types.ValType.{ValType}
use Rattle.wasm_store.specs.Store.{found_at}
use Rattle.wasm_store.specs.Stack.{Stack}
use Rattle.tasks.specs.declared.phase.Resolution.{Resolution}
use Rattle.comp_graph.specs.Graph.{Graph}
use Rattle.script_reader.specs.Script.{Script}
use Rattle.trace_labels.specs.declared.label.Label.{Label}
use Rattle.trace_labels.specs.declared.label.Label.TheVariants as line
use Rattle.trace_labels.specs.declared.trap.TrapName.TheVariants as trap
use Rattle.world_parts.specs.declared.parts.Flow.{Flow}
use Rattle.world_parts.specs.declared.parts.Flow.TheVariants as flow
use Rattle.world_parts.specs.declared.parts.Rest.TheVariants as rest
use Rattle.world_parts.specs.declared.parts.Turned.TheVariants as turned
use Rattle.world_parts.specs.Held as kept
use Rattle.world_parts.specs.Held.{Held, Done, Gives, Traps, Spent, after, given}
use Rattle.world_parts.specs.Feed.{spent, told, at_rest, chained}
use Rattle.world_parts.specs.Going.{ending}
use Rattle.world_parts.specs.Turning as kept_turns
use Rattle.world_parts.specs.Turning.{goes}
use Rattle.abi_machine.specs.declared.run_end.RunEnd.TheVariants.{Fuel}
use Rattle.abi_machine.specs.World.{Task, World}
use Rattle.abi_machine.specs.Edits as world
use Rattle.abi_machine.specs.Edits.{unit_spent}
use Rattle.abi_machine.specs.Reading.{acting}
use Rattle.abi_machine.specs.Turn as turns
use Rattle.abi_machine.specs.Turn.{Turn, Ends, charged}
use Rattle.abi_machine.specs.Returning.{ending_turn}
use Rattle.abi_machine.specs.Scheduling.{gone, going_turn, alternative_turn}
use Rattle.abi_machine.proofs.sound.Found.{some_same}
use Rattle.standing.specs.Stands.{Stands}
use Rattle.standing.specs.Agreeing.{Agrees}
use Rattle.standing.specs.Rows.{resting, TaskGoesOn, ActingGoesOn, TaskEnds}
use Rattle.standing.proofs.Changes.{tasks_come_to_the_chain, acting_is_alike, fuel_is_alike, units_are_spent}
use Rattle.standing.proofs.Agreeing.{turn_as, on_slot, on_trap, on_if}

pub done_as : (g : Graph) (values : List ValType) (s : Script) (t : ℕ) (before : List Label) (stacks : List (List Stack)) (d e : Done Flow) (u : Turn) → d ≡ e
    → Agrees g values s t before stacks e u → Agrees g values s t before stacks d u
done_as g values s t before stacks d e u same a = subst (λ (x : Done Flow). Agrees g values s t before stacks x u) (sym same) a

-- Parts behind parts, behind a part.
pub after_after : {A B C : Type 0} (d : Done A) (f : A → Held → Done B) (k : B → Held → Done C) → after (after d f) k ≡ after d (λ x h. after (f x h) k)
after_after (Gives x h) f k = refl
after_after (Traps why h) f k = refl
after_after (Spent h) f k = refl
after_after kept.Stuck f k = refl

-- A unit is spent where one is left.
pub on_spent : (g : Graph) (values : List ValType) (s : Script) (t : ℕ) (before : List Label) (stacks from : List (List Stack)) (h : Held) (w : World) (G : Unit {0} → Held → Done Flow) (F : World → Turn)
    → Stands g values s h from w
    → (Stands g values s (record h { left = h.left - 1 }) from (unit_spent w) → Agrees g values s t before stacks (G tt (record h { left = h.left - 1 })) (F (unit_spent w)))
    → Agrees g values s t before stacks (after (spent h) G) (charged true s w F)
on_spent g values s t before stacks from h w G F st more =
    turn_as g values s t before stacks (after (spent h) G) (charged true s w F) (if nat_lt 0 h.left then F (unit_spent w) else Ends Fuel)
    (ap (λ (b : Bool). if b then F (unit_spent w) else Ends Fuel) (sym (fuel_is_alike g values s h from w st))) (by (nat_lt 0 h.left) refl)
  where
    by : (b : Bool) → nat_lt 0 h.left ≡ b
        → Agrees g values s t before stacks (after (if b then Gives tt (record h { left = h.left - 1 }) else Spent (record h { left = h.left - 1 })) G)
        (if b then F (unit_spent w) else Ends Fuel)
    by true e = more (units_are_spent g values s h from w e st)
    by false e = refl

pub task_goes_on : TaskGoesOn
unfolding kept_turns.gone alternative_turn gone
task_goes_on g values s h stacks w t st =
    done_as g values s t h.labels stacks _ _ _
    (after_after (spent h) (λ done k. after (told (line.Go t) k) (λ done l. after (chained t l) (λ done m. Gives turned.GoesOn (at_rest rest.Resumes m)))) (λ x k. Gives flow.Rests k))
    (on_spent g values s t h.labels stacks stacks h w
    (λ done k. after (after (told (line.Go t) k) (λ done l. after (chained t l) (λ done m. Gives turned.GoesOn (at_rest rest.Resumes m)))) (λ x k. Gives flow.Rests k))
    (λ v. gone t (world.chained t v)) st
    (λ now. record {
      lines = line.Go t ∷ [];
      world = world.chained t (unit_spent w);
      stands = tasks_come_to_the_chain g values s (record h { left = h.left - 1 }) stacks (unit_spent w) t now;
      told = refl;
      ends = refl;
    }))

pub acting_there : (w : World) (t : ℕ) (task : Task) → slice_get w.chain 0 ≡ Some t → slice_get w.tasks t ≡ Some task → acting w ≡ Some (t, task)
acting_there w t task first there = ap (found_at w.tasks) first ∙ ap (option_map (λ (x : Task). (t, x))) there

pub acting_goes_on : ActingGoesOn
unfolding goes going_turn gone
acting_goes_on g values s h stacks w t task first there st =
    turn_as g values s t h.labels stacks (resting (goes h)) (going_turn s w) (charged true s w (λ v. gone t v))
    (ap (λ (o : Option (ℕ × Task)). turns.given o (λ a. charged true s w (λ v. gone a.0 v))) (acting_there w t task first there))
    (subst (λ (o : Option ℕ). Agrees g values s t h.labels stacks
    (resting {A = Unit {0}} (after (given o (λ n. Gives n h)) (λ n k. after (spent k) (λ done l. after (told (line.Go n) l) (λ done m. Gives tt (at_rest rest.Resumes m))))))
    (charged true s w (λ v. gone t v)))
    (sym (acting_is_alike g values s h stacks w st ∙ first))
    (done_as g values s t h.labels stacks _ _ _
    (after_after (spent h) (λ done l. after (told (line.Go t) l) (λ done m. Gives tt (at_rest rest.Resumes m))) (λ (x : Unit {0}) k. Gives flow.Rests k))
    (on_spent g values s t h.labels stacks stacks h w (λ done l. after (after (told (line.Go t) l) (λ done m. Gives tt (at_rest rest.Resumes m))) (λ (x : Unit {0}) k. Gives flow.Rests k))
    (λ v. gone t v) st
    (λ now. record { lines = line.Go t ∷ []; world = unit_spent w; stands = now; told = refl; ends = refl }))))

pub task_ends : TaskEnds
unfolding ending ending_turn
task_ends g values s h stacks w t task there st =
    on_slot g values s t h.labels stacks h w t (λ x. Gives x.task.resolution h)
    (λ resolution k. if is_none resolution then Traps trap.Unresolved k else Gives flow.Rests (at_rest rest.Leaves k)) (ending_turn t task w)
    (ap is_some there) st
    (λ x y is_left is_right alike.
    on_if g values s t h.labels stacks (is_none x.task.resolution) (is_none task.resolution) _ _ _ _
    (ap (λ (r : Option Resolution). is_none r) (alike.resolved ∙ ap (λ (a : Task). a.resolution) (some_same (sym is_right ∙ there))))
    (on_trap g values s t h.labels stacks h w trap.Unresolved refl st)
    (record { lines = []; world = w; stands = st; told = sym (append-nil h.labels); ends = refl }))
