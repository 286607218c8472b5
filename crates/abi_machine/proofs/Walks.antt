-- Runs in pieces: so many steps, as they are computed, or a step that is known, one piece behind the other; and what stands in the place of
-- a plan that is stuck.
use Rattle.std.proofs.Common.{◌≡◌, ◌∙◌, ℕ, zero, suc, List, [], ◌∷◌, ◌++◌, None, refl, sym, ap, subst}
use Rattle.std.specs.Prelude.{unwrap_or}
use Rattle.std.proofs.lemmas.Grind.{flat_map-append}
use Rattle.comp_graph.specs.declared.graph.FuncRef.TheVariants as func_ref
use Rattle.comp_graph.specs.Graph.{Graph, Lifted, no_options}
use Rattle.script_reader.specs.Script.{Script}
use Rattle.trace_labels.specs.declared.label.Label.{Label}
use Rattle.trace_labels.specs.declared.dump.LiveEntry.{LiveEntry}
use Rattle.abi_machine.specs.declared.run_end.RunEnd.{RunEnd}
use Rattle.abi_machine.specs.LoweringOver.{Plan}
use Rattle.abi_machine.specs.Control.{Control, Lowering, Lowers, Starts}
use Rattle.abi_machine.specs.World.{Init, Nobody, New, Task, World, new_task}
use Rattle.abi_machine.specs.Edits.{with_control}
use Rattle.abi_machine.specs.Reading.{acting, func_of}
use Rattle.abi_machine.specs.Turn.{Turn, Steps, Ends, Stuck}
use Rattle.abi_machine.specs.Next.{next}
use Rattle.abi_machine.specs.Run.{Reaches, lines_of}
use Rattle.abi_machine.specs.Dump.{dumped_instances, dumped_memories}
use Rattle.abi_machine.specs.examples.Parts.{Shows, Leaves}

-- Steps with these lines lead from the one world to the other.
pub record Goes (g : Graph) (s : Script) (w : World) (labels : List Label) (v : World) : Type 0 where
  pub steps : List (List Label)
  pub reaches : Reaches g s w steps v
  pub lines : labels ≡ lines_of steps

pub begun : (g : Graph) (s : Script) (w : World) → Goes g s w [] w
begun g s w = record { steps = []; reaches = refl; lines = refl }

first : (g : Graph) (s : Script) (w v u : World) (labels more : List Label) → next g s w ≡ Steps labels v → Goes g s v more u → Goes g s w (labels ++ more) u
first g s w v u labels more e a =
    record { steps = labels ∷ a.steps; reaches = (v, e, a.reaches); lines = ap (λ (l : List Label). labels ++ l) a.lines }

joined : (g : Graph) (s : Script) (xs ys : List (List Label)) (w v u : World) → Reaches g s w xs v → Reaches g s v ys u → Reaches g s w (xs ++ ys) u
joined g s [] ys w v u r q = subst (λ (m : World). Reaches g s m ys u) r q
joined g s (x ∷ xs) ys w v u r q = (r.0, r.1, joined g s xs ys r.0 v u r.2 q)

-- one piece behind another
pub goes_on : (g : Graph) (s : Script) (w v u : World) (labels more : List Label) → Goes g s w labels v → Goes g s v more u → Goes g s w (labels ++ more) u
goes_on g s w v u labels more a b = record {
  steps = a.steps ++ b.steps;
  reaches = joined g s a.steps b.steps w v u a.reaches b.reaches;
  lines = ap (λ (l : List Label). l ++ more) a.lines ∙ (ap (λ (l : List Label). lines_of a.steps ++ l) b.lines ∙ sym (flat_map-append (λ (step : List Label). step) a.steps b.steps));
}

-- what so many steps come to, or fewer where no more come: their lines, and the world behind them
abbrev far_behind : (World → List Label × World) → World → Turn → List Label × World
far_behind more w (Steps labels v) = (let r : List Label × World = more v in (labels ++ r.0, r.1))
far_behind more w (Ends end) = ([], w)
far_behind more w Stuck = ([], w)

abbrev pub far : ℕ → Graph → Script → World → List Label × World
far zero g s w = ([], w)
far (suc n) g s w = far_behind (λ v. far n g s v) w (next g s w)

far_by : (g : Graph) (s : Script) (w : World) (t : Turn) (more : World → List Label × World) → ((v : World) → Goes g s v (more v).0 (more v).1) → next g s w ≡ t
    → Goes g s w (far_behind more w t).0 (far_behind more w t).1
far_by g s w (Steps labels v) more h e = first g s w v (more v).1 labels (more v).0 e (h v)
far_by g s w (Ends end) more h e = begun g s w
far_by g s w Stuck more h e = begun g s w

goes_far : (n : ℕ) (g : Graph) (s : Script) (w : World) → Goes g s w (far n g s w).0 (far n g s w).1
goes_far zero g s w = begun g s w
goes_far (suc n) g s w = far_by g s w (next g s w) (λ v. far n g s v) (λ v. goes_far n g s v) refl

-- a piece of so many steps
pub walked : (n : ℕ) (g : Graph) (s : Script) (w v : World) (labels : List Label) → far n g s w ≡ (labels, v) → Goes g s w labels v
walked n g s w v labels e = subst (λ (r : List Label × World). Goes g s w r.0 r.1) e (goes_far n g s w)

-- a piece of a step that is known
nothing_behind : (l : List Label) → l ++ [] ≡ l
nothing_behind [] = refl
nothing_behind (x ∷ xs) = ap (λ (l : List Label). x ∷ l) (nothing_behind xs)

pub stepped : (g : Graph) (s : Script) (w v : World) (labels : List Label) → next g s w ≡ Steps labels v → Goes g s w labels v
stepped g s w v labels e = subst (λ (l : List Label). Goes g s w l v) (nothing_behind labels) (first g s w v v labels [] e (begun g s v))

-- the end
pub shows : (g : Graph) (s : Script) (w v : World) (labels : List Label) (end : RunEnd) (units : ℕ)
    → Goes g s w labels v → next g s v ≡ Ends end → v.units ≡ units → Shows g s w labels end units
shows g s w v labels end units a e used = record { last = v; runs = (a.steps, a.reaches, e, a.lines); used = used }

pub leaves : (g : Graph) (s : Script) (w v : World) (labels : List Label) (end : RunEnd) (units : ℕ) (instances : List (List LiveEntry)) (memories : List (List ℕ))
    → Goes g s w labels v → next g s v ≡ Ends end → v.units ≡ units → dumped_instances v ≡ instances → dumped_memories v ≡ memories
    → Leaves g s w labels end units instances memories
leaves g s w v labels end units instances memories a e used tables bytes =
    record { last = v; runs = (a.steps, a.reaches, e, a.lines); used = used; tables = tables; bytes = bytes }

-- What is found in a world, or something in its place.
abbrev the_acting : World → ℕ × Task
the_acting w = unwrap_or (acting w) (0, new_task Init Nobody New)

abbrev pub the_number : World → ℕ
the_number w = (the_acting w).0

abbrev pub the_task : World → Task
the_task w = (the_acting w).1

abbrev pub the_func : World → Lifted
the_func w =
    unwrap_or (func_of (the_task w).callee) (record { instance = 0; core = func_ref.Canon 0; options = no_options; func_type = record { params = []; result = None } })

abbrev the_lowering : Control → Lowering
the_lowering (Lowers l plan) = l
the_lowering control = record { inst = 0; memory = None; realloc = None; acts_for = 0; blame = 0; next = Starts }

-- a world whose lowering has this left
abbrev pub planned : Plan → World → World
planned plan w = with_control (Lowers (the_lowering w.control) plan) w
