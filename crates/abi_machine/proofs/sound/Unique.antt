-- At most one run.
use Rattle.std.proofs.Common.{◌≡◌, ◌≤◌, List, [], ◌∷◌, length, refl, sym, ap, ◌∙◌, subst, arith}
use Rattle.comp_graph.specs.Graph.{Graph}
use Rattle.script_reader.specs.Script.{Script}
use Rattle.trace_labels.specs.declared.label.Label.{Label}
use Rattle.abi_machine.specs.declared.run_end.RunEnd.{RunEnd}
use Rattle.abi_machine.specs.World.{World, first_world}
use Rattle.abi_machine.specs.Turn.{Ends}
use Rattle.abi_machine.specs.Next.{next}
use Rattle.abi_machine.specs.Run.{Reaches, lines_of}
use Rattle.abi_machine.specs.sound.Unique.{OneRun, OneRunFrom, FewerAreAFront}

-- Two runs from a world have the same steps and the same last world.
same_last : (g : Graph) (s : Script) (xs ys : List (List Label)) (w v u : World) (end other : RunEnd) → Reaches g s w xs v → next g s v ≡ Ends end
    → Reaches g s w ys u → next g s u ≡ Ends other → (xs ≡ ys) × (v ≡ u)
same_last g s [] [] w v u end other r e q o = (refl, r ∙ sym q)
same_last g s [] (y ∷ ys) w v u end other r e q o =
    let a : next g s v ≡ next g s w = ap (next g s) r in
    cc (a, e, q.1)
same_last g s (x ∷ xs) [] w v u end other r e q o =
    let b : next g s u ≡ next g s w = ap (next g s) q in
    cc (b, o, r.1)
same_last g s (x ∷ xs) (y ∷ ys) w v u end other r e q o =
    let labels : x ≡ y = cc (r.1, q.1) in
    let mid : q.0 ≡ r.0 = cc (r.1, q.1) in
    let more = same_last g s xs ys r.0 v u end other r.2 e (subst (λ (m : World). Reaches g s m ys u) mid q.2) o in
    (cc (labels, more.0), more.1)

pub one_run_from : OneRunFrom
one_run_from g s w labels others v u end other r q =
    let h = same_last g s r.0 q.0 w v u end other r.1 r.2 q.1 q.2 in
    let here : next g s v ≡ next g s u = ap (next g s) h.1 in
    let same : end ≡ other = cc (here, r.2, q.2) in
    (r.3 ∙ (ap lines_of h.0 ∙ sym q.3), h.1, same)

pub one_run : OneRun
one_run g s labels others v u end other r q = one_run_from g s (first_world g) labels others v u end other r q

pub fewer_are_a_front : FewerAreAFront
fewer_are_a_front g s w v u [] more r q h = (more, refl, subst (λ (m : World). Reaches g s m more u) (sym r) q)
fewer_are_a_front g s w v u (x ∷ xs) [] r q h = absurd (omega arith)
fewer_are_a_front g s w v u (x ∷ xs) (y ∷ ys) r q h =
    let labels : x ≡ y = cc (r.1, q.1) in
    let mid : q.0 ≡ r.0 = cc (r.1, q.1) in
    let fewer : length xs ≤ length ys = omega arith in
    let rest = fewer_are_a_front g s r.0 v u xs ys r.2 (subst (λ (m : World). Reaches g s m ys u) mid q.2) fewer in
    (rest.0, cc (labels, rest.1), rest.2)
