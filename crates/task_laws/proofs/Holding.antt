-- One task at most of a component instance holds exclusive entry, in each world that is reached.
use Rattle.std.proofs.Common.{◌≡◌, ◌&&◌, ℕ, nat_eq, Bool, true, false, List, [], ◌∷◌, refl, sym, ap, ◌∙◌, subst, arith, Option}
use Rattle.std.proofs.lemmas.Bool.Decides.{nat_tests}
use Rattle.entry_gate.specs.declared.kind.Kind.{Kind}
use Rattle.entry_gate.specs.declared.kind.Kind.TheVariants.{Sync, Callback, Stackful}
use Rattle.entry_gate.specs.Kinds.{needs_entry}
use Rattle.entry_gate.specs.Stays.{is_inside}
use Rattle.comp_graph.specs.Graph.{Graph, Lifted}
use Rattle.script_reader.specs.Script.{Script}
use Rattle.trace_labels.specs.declared.label.Label.{Label}
use Rattle.abi_machine.specs.World.{TaskState, New, Acting, AfterCall, AfterCancel, Begins, WaitsToEnter, InLoop, InBuiltin, Exited, Task, World, first_world}
use Rattle.abi_machine.specs.Reading.{kind_of, kind_of_func, is_in}
use Rattle.abi_machine.specs.Gate.{place_of}
use Rattle.abi_machine.specs.Run.{Reaches}
use Rattle.abi_machine.specs.sound.Initial.{RunsAlone}
use Rattle.abi_machine.specs.sound.Holders.{IsHolder, HaveOneHolder}
use Rattle.abi_machine.proofs.sound.Alone.{first_runs_alone, stays_alone}
use Rattle.abi_machine.proofs.sound.Held.{first_has_one_holder, one_holder_stays}
use Rattle.task_laws.specs.Holders.{NeedsEntry, IsInside, HoldsEntry, ReachedHaveOneHolder}

needs_so : (kind : Kind) → NeedsEntry kind → needs_entry kind ≡ true
needs_so Sync h = refl
needs_so Callback h = refl
needs_so Stackful h = absurd h

inside_so : (state : TaskState) → IsInside state → is_inside (place_of state) ≡ true
inside_so New h = absurd h
inside_so WaitsToEnter h = absurd h
inside_so (InLoop word) h = absurd h
inside_so Exited h = absurd h
inside_so Acting h = refl
inside_so (AfterCall callee number words) h = refl
inside_so (AfterCancel callee number words) h = refl
inside_so (Begins n) h = refl
inside_so (InBuiltin number words wait) h = refl

both_true : (a b : Bool) → a ≡ true → b ≡ true → (a && b) ≡ true
both_true true b e f = f
both_true false b e f = cc

same_number : (a b : ℕ) → a ≡ b → nat_eq a b ≡ true
same_number a b same = grind (arith, nat_tests)

holder_is : (i n : ℕ) (x : Task) → HoldsEntry i x → IsHolder i n x
holder_is i n x h = (
  ap (is_in i) h.runs ∙ same_number h.func.instance i h.of_instance,
  both_true (needs_entry (kind_of x)) (is_inside (place_of x.state)) (ap (λ (o : Option Lifted). needs_entry (kind_of_func o)) h.runs ∙ needs_so _ h.needs) (inside_so x.state h.inside),
)

held_from : (g : Graph) (s : Script) (steps : List (List Label)) (w v : World) → RunsAlone w → HaveOneHolder w.tasks → Reaches g s w steps v → HaveOneHolder v.tasks
held_from g s [] w v alone h r = subst (λ (u : World). HaveOneHolder u.tasks) (sym r) h
held_from g s (labels ∷ steps) w v alone h r =
    held_from g s steps r.0 v (stays_alone g s w r.0 labels alone r.1) (one_holder_stays g s w r.0 labels alone h r.1) r.2

pub reached_have_one_holder : ReachedHaveOneHolder
reached_have_one_holder g s steps w r i n m x y a b h k =
    held_from g s steps (first_world g) w (first_runs_alone g) (first_has_one_holder g) r i n m x y a b (holder_is i n x h) (holder_is i m y k)
