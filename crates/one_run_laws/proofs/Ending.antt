-- Two runs from a world are one, where passing values comes to one thing.
use Rattle.std.proofs.Common.{◌≡◌, ◌∙◌, ℕ, zero, suc, List, [], ◌++◌, append_assoc, append-nil, refl, sym, ap, subst, Option, Some, None, inl, inr}
use Rattle.programs.specs.declared.program.Program.{Program}
use Rattle.trace_labels.specs.declared.label.Label.{Label}
use Rattle.world_parts.specs.declared.parts.Flow.{Flow}
use Rattle.world_parts.specs.Held.{Held, Done, Gives, Traps, Spent, Stuck}
use Rattle.world_stacks.specs.Views.{PileView}
use Rattle.value_parts.specs.declared.to_pass.Passing.{Passing}
use Rattle.one_run_laws.specs.Once.{PassesOnce}
use Rattle.machine_runs.specs.declared.stepping.Step.{Step}
use Rattle.machine_runs.specs.declared.stepping.Step.TheVariants as step
use Rattle.machine_runs.specs.declared.ending.RunEnd.{RunEnd}
use Rattle.machine_runs.specs.declared.ending.LastLine.{LastLine}
use Rattle.machine_runs.specs.Worlds.{Point, last_line, kept_behind, with_last, handed, handed_on, Goes, GoOn, EndsBy, Reached, IsRun, StepGives, SoFarTells}
use Rattle.one_run_laws.proofs.Stepping.{steps_once}

-- The world to which a step leads that goes on.
abbrev point_by : Step → List PileView → Held → Option Point
point_by step.Ends piles h = None
point_by (step.GoesOn x) piles h = Some (record { held = h; piles = piles; passing = x })

abbrev point_in : Done (Step × List PileView) → Option Point
point_in (Gives r h) = point_by r.0 r.1 h
point_in (Traps why h) = None
point_in (Spent h) = None
point_in Stuck = None

abbrev onward : Point → Done (Step × List PileView)
onward b = Gives (step.GoesOn b.passing, b.piles) b.held

points_same : (a b : Point) → ◌≡◌ {A = Option Point} (Some a) (Some b) → a ≡ b
points_same a b e = cc e

onward_same : (a b : Point) → onward a ≡ onward b → a ≡ b
onward_same a b e = points_same a b (ap point_in e)

last_same : (x y : LastLine) → ◌≡◌ {A = Option LastLine} (Some x) (Some y) → x ≡ y
last_same x y e = cc e

held_same : (h k : Held) → ◌≡◌ {A = Option Held} (Some h) (Some k) → h ≡ k
held_same h k e = cc e

no_last : (last : LastLine) → ◌≡◌ {A = Option LastLine} None (Some last) → ⊥
no_last last e = cc e

module _ (R : Program → Passing → Held → Done Flow → Type 0) (p : Program) (once : PassesOnce R p) where
  -- A run goes on in one way, or ends in one.
  one_onward : (a c d : Point) (lines more : List Label) → Goes R p a lines c → Goes R p a more d → (lines ≡ more) × (c ≡ d)
  one_onward a c d lines more (b, gives, told, is) (x, others, tell, are) =
      let same : b ≡ x = onward_same b x (steps_once R p once a.passing a.piles a.held (onward b) (onward x) gives others) in
      (told ∙ ap (λ (y : Point). y.held.labels) same ∙ sym tell, is ∙ ap handed_on same ∙ sym are)

  one_end : (a : Point) (end other : RunEnd) (lines more : List Label) (h k : Held) → EndsBy R p a end lines h → EndsBy R p a other more k → (end ≡ other) × (lines ≡ more) × (h ≡ k)
  one_end a end other lines more h k (last, b, (d, steps, lasts, keeps), ends, told, is) (line, x, (e, moves, stops, leaves), other_ends, tell, are) =
      let same : d ≡ e = steps_once R p once a.passing a.piles a.held d e steps moves in
      let lines_same : last ≡ line = last_same last line (sym lasts ∙ ap last_line same ∙ stops) in
      let left : b.held ≡ x.held = held_same b.held x.held (sym keeps ∙ ap kept_behind same ∙ leaves) in
      let first : with_last b.held.labels (Some last) ≡ with_last x.held.labels (Some last) = ap (λ (y : Held). with_last y.labels (Some last)) left in
      let second : with_last x.held.labels (Some last) ≡ with_last x.held.labels (Some line) = ap (λ (y : LastLine). with_last x.held.labels (Some y)) lines_same in
      (ends ∙ ap (λ (y : LastLine). y.end) lines_same ∙ sym other_ends, told ∙ first ∙ second ∙ sym tell, is ∙ ap handed left ∙ sym are)

  not_both : (a c : Point) (end : RunEnd) (lines more : List Label) (h : Held) → EndsBy R p a end lines h → Goes R p a more c → ⊥
  not_both a c end lines more h (last, b, (d, steps, lasts, keeps), ends, told, is) (x, gives, tell, are) =
      let same : onward x ≡ d = steps_once R p once a.passing a.piles a.held (onward x) d gives steps in
      no_last last (ap last_line same ∙ lasts)

  -- So many steps, seen from the first one on.
  abbrev GoFrom : ℕ → Point → List Label → Point → Type 0
  GoFrom zero a lines b = (lines ≡ []) × (b ≡ a)
  GoFrom (suc count) a lines c = (b : Point) × (first : List Label) × (rest : List Label) × Goes R p a first b × GoFrom count b rest c × (lines ≡ first ++ rest)

  one_more : (count : ℕ) (a b c : Point) (before more : List Label) → GoFrom count a before b → Goes R p b more c → GoFrom (suc count) a (before ++ more) c
  one_more zero a b c before more (none, is) goes =
      let here : Goes R p a more c = subst (λ (x : Point). Goes R p x more c) is goes in
      let lines : before ++ more ≡ more = ap (λ (x : List Label). x ++ more) none in
      let nothing : List Label = [] in
      (c, more, nothing, here, (refl, refl), lines ∙ sym (append-nil more))
  one_more (suc count) a b c before more (x, first, rest, goes, go, is) last =
      let lines : before ++ more ≡ first ++ (rest ++ more) = ap (λ (y : List Label). y ++ more) is ∙ append_assoc first rest more in
      (x, first, rest ++ more, goes, one_more count x b c rest more go last, lines)

  from_first : (count : ℕ) (a b : Point) (lines : List Label) → GoOn R p count a lines b → GoFrom count a lines b
  from_first zero a b lines go = go
  from_first (suc count) a b lines (mid, before, more, steps, goes, is) =
      subst (λ (l : List Label). GoFrom (suc count) a l b) (sym is) (one_more count a mid b before more (from_first count a mid before steps) goes)

  -- Both come to one world, with the same lines.
  record Ends (a : Point) (end : RunEnd) (lines : List Label) (h : Held) : Type 0 where
    pub count : ℕ
    pub before : List Label
    pub last : Point
    pub more : List Label
    pub go : GoFrom count a before last
    pub ends : EndsBy R p last end more h
    pub lines_are : lines ≡ before ++ more

  as_ends : (a : Point) (end : RunEnd) (lines : List Label) (h : Held) → IsRun R p a end lines h → Ends a end lines h
  as_ends a end lines h r = record {
    count = r.goes.count;
    before = r.before;
    last = r.last;
    more = r.more;
    go = from_first r.goes.count a r.last r.before r.goes.steps;
    ends = r.ends;
    lines_are = r.lines_are;
  }

  moved_end : (a b : Point) (end : RunEnd) (lines : List Label) (h : Held) → b ≡ a → EndsBy R p b end lines h → EndsBy R p a end lines h
  moved_end a b end lines h is ends = subst (λ (x : Point). EndsBy R p x end lines h) is ends

  same_last : (m n : ℕ) (a b c : Point) (before others lines more : List Label) (end other : RunEnd) (h k : Held) → GoFrom m a before b → GoFrom n a others c → EndsBy R p b end lines h
      → EndsBy R p c other more k → (end ≡ other) × (before ++ lines ≡ others ++ more) × (h ≡ k)
  same_last zero zero a b c before others lines more end other h k (none, is) (nothing, at) ends stops =
      let same = one_end a end other lines more h k (moved_end a b end lines h is ends) (moved_end a c other more k at stops) in
      let first : before ++ lines ≡ others ++ lines = ap (λ (x : List Label). x ++ lines) (none ∙ sym nothing) in
      (same.0, first ∙ ap (λ (x : List Label). others ++ x) same.1, same.2)
  same_last zero (suc n) a b c before others lines more end other h k (none, is) (x, first, rest, goes, go, are) ends stops =
      absurd (not_both a x end lines first h (moved_end a b end lines h is ends) goes)
  same_last (suc m) zero a b c before others lines more end other h k (x, first, rest, goes, go, are) (none, is) ends stops =
      absurd (not_both a x other more first k (moved_end a c other more k is stops) goes)
  same_last (suc m) (suc n) a b c before others lines more end other h k (x, first, rest, goes, go, are) (y, begin, later, leads, on, is) ends stops =
      let both = one_onward a x y first begin goes leads in
      let further : GoFrom n x later c = subst (λ (z : Point). GoFrom n z later c) (sym both.1) on in
      let same = same_last m n x b c rest later lines more end other h k go further ends stops in
      let left : before ++ lines ≡ first ++ (rest ++ lines) = ap (λ (z : List Label). z ++ lines) are ∙ append_assoc first rest lines in
      let right : others ++ more ≡ begin ++ (later ++ more) = ap (λ (z : List Label). z ++ more) is ∙ append_assoc begin later more in
      let mid : first ++ (rest ++ lines) ≡ begin ++ (later ++ more) = ap (λ (z : List Label). z ++ (rest ++ lines)) both.0 ∙ ap (λ (z : List Label). begin ++ z) same.1 in
      (same.0, left ∙ mid ∙ sym right, same.2)

  pub one_run : (a : Point) (end other : RunEnd) (lines more : List Label) (h k : Held) → IsRun R p a end lines h → IsRun R p a other more k → (end ≡ other) × (lines ≡ more) × (h ≡ k)
  one_run a end other lines more h k r q =
      let x = as_ends a end lines h r in
      let y = as_ends a other more k q in
      let same = same_last x.count y.count a x.last y.last x.before y.before x.more y.more end other h k x.go y.go x.ends y.ends in
      (same.0, x.lines_are ∙ same.1 ∙ sym y.lines_are, same.2)

  -- What steps tell is a front of what a run tells.
  front : (m n : ℕ) (a b c : Point) (lines others more : List Label) (end : RunEnd) (h : Held) → GoFrom m a lines b → GoFrom n a others c → EndsBy R p c end more h
      → (rest : List Label) × (others ++ more ≡ lines ++ rest)
  front zero n a b c lines others more end h (none, is) go ends = (others ++ more, ap (λ (x : List Label). x ++ (others ++ more)) (sym none))
  front (suc m) zero a b c lines others more end h (x, first, rest, goes, go, are) (none, is) ends =
      absurd (not_both a x end more first h (moved_end a c end more h is ends) goes)
  front (suc m) (suc n) a b c lines others more end h (x, first, rest, goes, go, are) (y, begin, later, leads, on, is) ends =
      let both = one_onward a x y first begin goes leads in
      let further : GoFrom n x later c = subst (λ (z : Point). GoFrom n z later c) (sym both.1) on in
      let behind = front m n x b c rest later more end h go further ends in
      let left : others ++ more ≡ begin ++ (later ++ more) = ap (λ (z : List Label). z ++ more) is ∙ append_assoc begin later more in
      let mid : begin ++ (later ++ more) ≡ first ++ (rest ++ behind.0) = ap (λ (z : List Label). z ++ (later ++ more)) (sym both.0) ∙ ap (λ (z : List Label). first ++ z) behind.1 in
      let right : lines ++ behind.0 ≡ first ++ (rest ++ behind.0) = ap (λ (z : List Label). z ++ behind.0) are ∙ append_assoc first rest behind.0 in
      (behind.0, left ∙ mid ∙ sym right)

  reached_front : (a b : Point) (end : RunEnd) (lines so_far : List Label) (h : Held) → IsRun R p a end lines h → Reached R p a so_far b → (rest : List Label) × (lines ≡ so_far ++ rest)
  reached_front a b end lines so_far h r reached =
      let x = as_ends a end lines h r in
      let found = front reached.count x.count a b x.last so_far x.before x.more end h (from_first reached.count a b so_far reached.steps) x.go x.ends in
      (found.0, x.lines_are ∙ found.1)

  -- The next step, whether or not it ends the run.
  step_front : (a b c : Point) (end : RunEnd) (lines before more all : List Label) (h : Held) (last : Option LastLine) → IsRun R p a end lines h → Reached R p a before b
      → StepGives R p b last c → more ≡ with_last c.held.labels last → all ≡ before ++ more → (rest : List Label) × (lines ≡ all ++ rest)
  step_front a b c end lines before more all h None r reached gives told is =
      let steps : GoOn R p (suc reached.count) a all (handed_on c) = (b, before, more, reached.steps, (c, gives, told, refl), is) in
      reached_front a (handed_on c) end lines all h r (record { count = suc reached.count; steps = steps })
  step_front a b c end lines before more all h (Some last) r reached gives told is =
      let ends : EndsBy R p b last.end more (handed c.held) = (last, c, gives, refl, told, refl) in
      let other : IsRun R p a last.end all (handed c.held) = record { before = before; last = b; more = more; goes = reached; ends = ends; lines_are = is } in
      let same = one_run a end last.end lines all h (handed c.held) r other in
      let nothing : List Label = [] in
      (nothing, same.1 ∙ sym (append-nil all))

  pub so_far_front : (a : Point) (end : RunEnd) (lines so_far : List Label) (h : Held) → IsRun R p a end lines h → SoFarTells R p a so_far → (rest : List Label) × (lines ≡ so_far ++ rest)
  so_far_front a end lines so_far h r (inl (b, reached)) = reached_front a b end lines so_far h r reached
  so_far_front a end lines so_far h r (inr (b, before, more, reached, (last, c, gives, told), is)) = step_front a b c end lines before more so_far h last r reached gives told is

pub runs_are_one : (R : Program → Passing → Held → Done Flow → Type 0) (p : Program) (a : Point) (end other : RunEnd) (lines more : List Label) (h k : Held) → PassesOnce R p
    → IsRun R p a end lines h → IsRun R p a other more k → (end ≡ other) × (lines ≡ more) × (h ≡ k)
runs_are_one R p a end other lines more h k once r q = one_run R p once a end other lines more h k r q

pub so_far_are_fronts : (R : Program → Passing → Held → Done Flow → Type 0) (p : Program) (a : Point) (end : RunEnd) (lines so_far : List Label) (h : Held) → PassesOnce R p
    → IsRun R p a end lines h → SoFarTells R p a so_far → (rest : List Label) × (lines ≡ so_far ++ rest)
so_far_are_fronts R p a end lines so_far h once r tells = so_far_front R p once a end lines so_far h r tells
