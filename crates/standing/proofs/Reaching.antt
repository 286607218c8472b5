-- Parts of runs, one behind the other.
use Rattle.std.proofs.Common.{◌≡◌, List, [], ◌∷◌, ◌++◌, refl, sym, ap, ◌∙◌, subst, append_assoc, append-nil}
use Rattle.comp_graph.specs.Graph.{Graph}
use Rattle.script_reader.specs.Script.{Script}
use Rattle.trace_labels.specs.declared.label.Label.{Label}
use Rattle.abi_machine.specs.declared.run_end.RunEnd.{RunEnd}
use Rattle.abi_machine.specs.World.{World}
use Rattle.abi_machine.specs.Turn.{Turn, Steps, Ends}
use Rattle.abi_machine.specs.Next.{next}
use Rattle.abi_machine.specs.Run.{Reaches, lines_of, RunsFrom}
use Rattle.standing.specs.Reaching.{GoesTo, Meets, PartsJoin, MeetsBehind, EndsBehind, StepFollows, EndFollows}

-- no step, and one step
pub goes_none : (g : Graph) (s : Script) (w : World) → GoesTo g s w [] w
goes_none g s w = ([], refl, refl)

pub goes_same : (g : Graph) (s : Script) (w v : World) → v ≡ w → GoesTo g s w [] v
goes_same g s w v e = ([], e, refl)

pub goes_step : (g : Graph) (s : Script) (w v : World) (lines : List Label) → next g s w ≡ Steps lines v → GoesTo g s w lines v
goes_step g s w v lines t = (lines ∷ [], (v, t, refl), sym (append-nil lines))

-- parts behind a part
joined : (g : Graph) (s : Script) (steps : List (List Label)) (w v u : World) (more : List Label) → Reaches g s w steps v → GoesTo g s v more u
    → GoesTo g s w (lines_of steps ++ more) u
joined g s [] w v u more r l = subst (λ (x : World). GoesTo g s x more u) r l
joined g s (labels ∷ steps) w v u more r l =
    let behind = joined g s steps r.0 v u more r.2 l in
    (labels ∷ behind.0, (r.0, r.1, behind.1), append_assoc labels (lines_of steps) more ∙ ap (λ (ls : List Label). labels ++ ls) behind.2)

pub goes_then : PartsJoin
goes_then g s w v u lines more l k = subst (λ (ls : List Label). GoesTo g s w (ls ++ more) u) (sym l.2) (joined g s l.0 w v u more l.1 k)

pub meets_behind : MeetsBehind
meets_behind g s w v lines more turn l m = (m.0, goes_then g s w v m.0 lines more l m.1, m.2)

pub ends_behind : EndsBehind
ends_behind g s w v last lines more end l r =
    let all = goes_then g s w v last lines more l (r.0, r.1, r.3) in
    (all.0, all.1, r.2, all.2)

-- what comes next, as a part
pub meets_here : (g : Graph) (s : Script) (w : World) (turn : Turn) → next g s w ≡ turn → Meets g s w [] turn
meets_here g s w turn t = (w, goes_none g s w, t)

pub meets_step : StepFollows
meets_step g s w v lines more m = goes_then g s w m.0 v lines more m.1 (goes_step g s m.0 v more m.2)

pub ends_here : (g : Graph) (s : Script) (w : World) (end : RunEnd) → next g s w ≡ Ends end → RunsFrom g s w [] w end
ends_here g s w end t = ([], refl, t, refl)

pub meets_end : EndFollows
meets_end g s w lines end m = (m.0, (m.1.0, m.1.1, m.2, m.1.2))

-- the same lines, and the same world
pub goes_lines : (g : Graph) (s : Script) (w v : World) (lines more : List Label) → lines ≡ more → GoesTo g s w lines v → GoesTo g s w more v
goes_lines g s w v lines more e l = subst (λ (ls : List Label). GoesTo g s w ls v) e l
