-- Ends of blocks and of functions, as moves.
use Rattle.std.proofs.Common.{◌≡◌, ◌+◌, ◌-◌, ◌<◌, ℕ, zero, suc, Bool, true, false, IsTrue, List, [], ◌∷◌, refl, ap, sym, ◌∙◌, subst, arith, Some}
use Rattle.std.specs.List.{slice_get}
use Rattle.syntax_trees.specs.Expr.{End}
use Rattle.wasm_store.specs.Store.{Instance, Store}
use Rattle.wasm_store.specs.Stack.{Label, Frame, Stack, Running}
use Rattle.wasm_store.specs.Step.{Move, Goes, with_more, returned, ended, next, units, Moves, Steps}
use Rattle.wasm_execution.specs.Shape.{Leaves}
use Rattle.wasm_execution.specs.Stepping.{LeavesTo}
use Rattle.wasm_execution.proofs.Going.{next_at}

-- Moves after moves.
moves_after : (count : ℕ) (more first second : ℕ) (s t u : Store) (k l m : Stack) → Moves count first s k t l → Moves more second t l u m → Moves (count + more) (first + second) s k u m
moves_after zero more first second s t u k l m (none, same, alike) h =
    let rest : Moves more second s k u m = subst (λ (k : Stack). Moves more second s k u m) alike (subst (λ (t : Store). Moves more second t l u m) same h) in
    let fuel : second ≡ first + second = omega (arith, none) in
    let long : more ≡ 0 + more = omega arith in
    subst (λ (n : ℕ). Moves n (first + second) s k u m) long (subst (λ (n : ℕ). Moves more n s k u m) fuel rest)
moves_after (suc count) more first second s t u k l m (costs, left, v, n, goes, paid, others) h =
    let long : suc (count + more) ≡ suc count + more = omega arith in
    let fuel : first + second ≡ units costs + (left + second) = omega (arith, paid) in
    subst (λ (n : ℕ). Moves n (first + second) s k u m) long (costs, left + second, v, n, goes, fuel, moves_after count more left second v t u n l m others h)

pub steps_after : (first second : ℕ) (s t u : Store) (k l m : Stack) → Steps first s k t l → Steps second t l u m → Steps (first + second) s k u m
steps_after first second s t u k l m (count, h) (more, j) = (count + more, moves_after count more first second s t u k l m h j)

pub no_steps : (s : Store) (k : Stack) → Steps 0 s k s k
no_steps s k = (0, (refl, refl, refl))

-- one move
pub one_step : (costs : Bool) (s t : Store) (k l : Stack) → next s k ≡ Goes costs t l → Steps (units costs) s k t l
one_step costs s t k l goes = (1, (costs, 0, t, l, goes, omega arith, (refl, refl, refl)))

-- An end of a block costs nothing.
pub leaves_goes : (f g : Frame) → f.rest ≡ End → Leaves f true g → LeavesTo f g
leaves_goes f g e (l, ls, labels, new) s i fs there =
    one_step false s s (Running f fs) (Running g fs)
    (next_at s f fs i End there e ∙ ap (λ (ls : List Label). ended ls s f fs) labels ∙ ap (λ (g : Frame). let m : Move = Goes false s (Running g fs) in m) (sym new))

pub leaves_none : (f : Frame) → LeavesTo f f
leaves_none f s i fs there = no_steps s (Running f fs)

pub leaves_after : (f g h : Frame) → f.instance ≡ g.instance → LeavesTo f g → LeavesTo g h → LeavesTo f h
leaves_after f g h same one two s i fs there =
    steps_after 0 0 s s s (Running f fs) (Running g fs) (Running h fs) (one s i fs there)
    (two s i fs (subst (λ (n : ℕ). slice_get s.instances n ≡ Some i) same there))

-- what a function that has ended does
pub ended_next : (s : Store) (f : Frame) (fs : List Frame) (i : Instance) → slice_get s.instances f.instance ≡ Some i → f.rest ≡ End → f.labels ≡ [] → next s (Running f fs) ≡ returned s f fs
ended_next s f fs i there e none = next_at s f fs i End there e ∙ ap (λ (ls : List Label). ended ls s f fs) none

pub ended_back : (s : Store) (f g k : Frame) (fs : List Frame) (i : Instance) → slice_get s.instances f.instance ≡ Some i → f.rest ≡ End → f.labels ≡ [] → g ≡ with_more f.values k → Steps 0 s (Running f (k ∷ fs)) s (Running g fs)
ended_back s f g k fs i there e none new =
    one_step false s s (Running f (k ∷ fs)) (Running g fs) (ended_next s f (k ∷ fs) i there e none ∙ ap (λ (g : Frame). let m : Move = Goes false s (Running g fs) in m) (sym new))

-- One end more is left, or none was.
pub left_on : (f g h : Frame) (b : Bool) → b ≡ true → Leaves g b h → g.rest ≡ End → f.instance ≡ g.instance → LeavesTo f g → LeavesTo f h × (f.instance ≡ h.instance)
left_on f g h b is left e same before =
    let l : Leaves g true h = subst (λ (b : Bool). Leaves g b h) is left in
    (leaves_after f g h same before (leaves_goes g h e l), same ∙ sym (ap (λ (k : Frame). k.instance) l.3))

pub left_off : (f g h : Frame) (b : Bool) → b ≡ false → Leaves g b h → LeavesTo f g → LeavesTo f h
left_off f g h b is left before =
    let l : Leaves g false h = subst (λ (b : Bool). Leaves g b h) is left in subst (LeavesTo f) (sym l.1) before

-- what is left of a budget where a unit could be spent, and where none could
pub none_left : (units : ℕ) (b : Bool) → (0 < units → IsTrue b) → b ≡ false → units ≡ 0
none_left zero b h e = refl
none_left (suc n) b h e = let some : 0 < suc n = omega arith in let t : b ≡ true = h some in let q : true ≡ false = sym t ∙ e in cc

pub one_less : (units left : ℕ) (b : Bool) → (IsTrue b → 0 < units) → b ≡ true → left ≡ units - 1 → units ≡ left + 1
one_less units left b h e is = let some : 0 < units = h e in omega (arith, some, is)
