-- A post-return comes to one thing.
use Rattle.std.proofs.Common.{◌≡◌, ◌∙◌, ℕ, zero, suc, List, refl, sym, ap, subst, Option, Some, None, Result, Ok, Err}
use Rattle.wasm_store.specs.Store.{Store}
use Rattle.wasm_store.specs.Stack.{Stack}
use Rattle.wasm_execution.specs.declared.running.Outcome.{Outcome}
use Rattle.wasm_execution.specs.declared.running.Outcome.TheVariants as outcome
use Rattle.comp_graph.specs.declared.graph.FuncRef.{FuncRef}
use Rattle.comp_graph.specs.Graph.{Graph}
use Rattle.programs.specs.declared.program.Program.{Program}
use Rattle.trace_labels.specs.declared.trap.TrapName.{TrapName}
use Rattle.world_parts.specs.declared.parts.Parts.{Parts}
use Rattle.world_parts.specs.declared.parts.Rest.TheVariants as rest
use Rattle.world_parts.specs.declared.parts.Stop.{Stop}
use Rattle.world_parts.specs.declared.parts.Stop.TheVariants as stop
use Rattle.world_parts.specs.Held.{Held, held, Done, Gives, Traps, Spent, Stuck}
use Rattle.world_parts.specs.Feed.{at_rest}
use Rattle.world_stacks.specs.Names.{core_name}
use Rattle.world_stacks.specs.Starting.{call_of}
use Rattle.world_stacks.specs.PostReturns.{answered_in_place, Point, Runs, GoesOn, GoOn, Comes, EndsWith, NestedEnds, NestedGives, NoRule, BeginsNested, PostReturns, instance_at}
use Rattle.one_run_laws.proofs.Running.{IsTold, runs_once}
use Rattle.value_moves.specs.Resolving.{Settles, PostReturnsTo}

-- What a run leads to: the code goes on, or has come to its end.
data Led : Type 0 where
  On : Stack → Held → Led
  Over : Done (Unit {0}) → Led
  Nowhere : Led

abbrev led_by : Done Stack → Led
led_by (Gives k h) = On k h
led_by (Traps why h) = Over (Traps why h)
led_by (Spent h) = Over (Spent h)
led_by Stuck = Over Stuck

over_same : (d e : Done (Unit {0})) → Over d ≡ Over e → d ≡ e
over_same d e is = cc is

on_or_over : (k : Stack) (h : Held) (d : Done (Unit {0})) → On k h ≡ Over d → ⊥
on_or_over k h d is = cc is

on_same : (a b : Point) → On a.stack a.held ≡ On b.stack b.held → a ≡ b
on_same a b is =
    let stacks : a.stack ≡ b.stack = cc is in
    let helds : a.held ≡ b.held = cc is in
    ap (λ (x : Held). (let y : Point = record { held = x; stack = a.stack } in y)) helds ∙ ap (λ (x : Stack). (let y : Point = record { held = b.held; stack = x } in y)) stacks

-- A run comes to one thing, and so much is kept.
abbrev ran : Held → Store → ℕ → Held
ran h s left = record h { store = s; left = left }

ran_same : (h : Held) (s t : Store) (m n : ℕ) → s ≡ t → m ≡ n → ran h s m ≡ ran h t n
ran_same h s t m n e f = ap (λ (u : Store). ran h u m) e ∙ ap (λ (l : ℕ). ran h t l) f

run_once : (a : Point) (o p : Outcome) (h k : Held) → IsTold o → IsTold p → Runs a o h → Runs a p k → (o ≡ p) × (h ≡ k)
run_once a o p h k told also (s, left, gives, is) (t, spare, more, are) =
    let same = runs_once a.held.store s t a.stack a.held.left left spare o p told also gives more in
    (same.0, is ∙ ran_same a.held s t left spare same.1 same.2 ∙ sym are)

-- What follows an end.
over_done : (d : Done (Unit {0})) (h : Held) (result : Result (Unit {0}) Stop) (new : Parts) → result ≡ Ok tt → held new ≡ h → Settles d result new → d ≡ Gives tt h
over_done d h (Ok done) new is kept settles =
    let same : done ≡ tt = cc is in
    settles ∙ ap (λ (u : Unit {0}). Gives u (held new)) same ∙ ap (λ (k : Held). Gives (tt {0}) k) kept
over_done d h (Err why) new is kept settles = cc is

over_trapped : (d : Done (Unit {0})) (h : Held) (why : TrapName) (result : Result (Unit {0}) Stop) (new : Parts) → result ≡ Err (stop.Trap why) → held new ≡ h → Settles d result new
    → d ≡ Traps why h
over_trapped d h why result new is kept settles =
    let so : Settles d (Err (stop.Trap why)) new = subst (λ (r : Result (Unit {0}) Stop). Settles d r new) is settles in
    so ∙ ap (λ (k : Held). Traps why k) kept

over_spent : (d : Done (Unit {0})) (h : Held) (result : Result (Unit {0}) Stop) (new : Parts) → result ≡ Err stop.NoFuel → held new ≡ h → Settles d result new → d ≡ Spent h
over_spent d h result new is kept settles =
    let so : Settles d (Err stop.NoFuel) new = subst (λ (r : Result (Unit {0}) Stop). Settles d r new) is settles in
    so ∙ ap (λ (k : Held). Spent k) kept

over_called : (d : Done (Unit {0})) (answer : Done Stack) (result : Result (Unit {0}) Stop) (new : Parts) → Comes answer result new → Settles d result new → led_by answer ≡ Over d
over_called d answer (Ok done) new comes settles = absurd comes
over_called d answer (Err (stop.Trap why)) new comes settles = ap led_by comes ∙ ap (λ (x : Done (Unit {0})). Over x) (sym settles)
over_called d answer (Err stop.NoFuel) new comes settles = ap led_by comes ∙ ap (λ (x : Done (Unit {0})). Over x) (sym settles)
over_called d answer (Err stop.Stuck) new comes settles = ap led_by comes ∙ ap (λ (x : Done (Unit {0})). Over x) (sym settles)
over_called d answer (Err stop.Memory) new comes settles = absurd settles

-- Code of an instance, for a task:
module _ (g : Graph) (t at : ℕ) where
  abbrev led : Outcome → Held → Led
  led (outcome.Done words) h = Over (Gives tt (at_rest rest.Leaves h))
  led (outcome.Calls number words w) h = led_by (answered_in_place g t at number words w h)
  led (outcome.Trapped why) h = Over (Traps (core_name why) h)
  led (outcome.NoFuel later) h = Over (Spent h)
  led outcome.Memory h = Nowhere

  -- It runs, and what it comes to leads so far.
  record Leads (a : Point) (next : Led) : Type 0 where
    pub came : Outcome
    pub kept : Held
    pub runs : Runs a came kept
    pub leads : led came kept ≡ next

  on_told : (o : Outcome) (h : Held) (k : Stack) (l : Held) → led o h ≡ On k l → IsTold o
  on_told (outcome.Done words) h k l e = tt
  on_told (outcome.Calls number words w) h k l e = tt
  on_told (outcome.Trapped why) h k l e = tt
  on_told (outcome.NoFuel later) h k l e = tt
  on_told outcome.Memory h k l e = cc e

  over_told : (o : Outcome) (h : Held) (d : Done (Unit {0})) → led o h ≡ Over d → IsTold o
  over_told (outcome.Done words) h d e = tt
  over_told (outcome.Calls number words w) h d e = tt
  over_told (outcome.Trapped why) h d e = tt
  over_told (outcome.NoFuel later) h d e = tt
  over_told outcome.Memory h d e = cc e

  led_once : (a : Point) (x y : Led) (h : Leads a x) (i : Leads a y) → IsTold h.came → IsTold i.came → x ≡ y
  led_once a x y h i told also =
      let same = run_once a h.came i.came h.kept i.kept told also h.runs i.runs in
      sym h.leads ∙ ap (λ (o : Outcome). led o h.kept) same.0 ∙ ap (λ (k : Held). led i.came k) same.1 ∙ i.leads

  goes_lead : (a b : Point) → GoesOn g t at a b → Leads a (On b.stack b.held)
  goes_lead a b (number, words, w, h, runs, answers) = record { came = outcome.Calls number words w; kept = h; runs = runs; leads = ap led_by answers }

  ended : (d : Done (Unit {0})) (o : Outcome) (h : Held) (result : Result (Unit {0}) Stop) (new : Parts) → EndsWith g t at o h result new → Settles d result new → led o h ≡ Over d
  ended d (outcome.Done words) h result new (is, kept) settles = ap (λ (x : Done (Unit {0})). Over x) (sym (over_done d (at_rest rest.Leaves h) result new is kept settles))
  ended d (outcome.Calls number words w) h result new comes settles = over_called d (answered_in_place g t at number words w h) result new comes settles
  ended d (outcome.Trapped why) h result new (is, kept) settles = ap (λ (x : Done (Unit {0})). Over x) (sym (over_trapped d h (core_name why) result new is kept settles))
  ended d (outcome.NoFuel later) h result new (is, kept) settles = ap (λ (x : Done (Unit {0})). Over x) (sym (over_spent d h result new is kept settles))
  ended d outcome.Memory h result new is settles = absurd (subst (λ (r : Result (Unit {0}) Stop). Settles d r new) is settles)

  -- It goes on in one way, or ends in one.
  one_further : (a b c : Point) → GoesOn g t at a b → GoesOn g t at a c → b ≡ c
  one_further a b c h i =
      let p = goes_lead a b h in
      let q = goes_lead a c i in
      on_same b c (led_once a (On b.stack b.held) (On c.stack c.held) p q (on_told p.came p.kept b.stack b.held p.leads) (on_told q.came q.kept c.stack c.held q.leads))

  one_end : (a : Point) (d e : Done (Unit {0})) → Leads a (Over d) → Leads a (Over e) → d ≡ e
  one_end a d e h i = over_same d e (led_once a (Over d) (Over e) h i (over_told h.came h.kept d h.leads) (over_told i.came i.kept e i.leads))

  no_further : (a b : Point) (d : Done (Unit {0})) → Leads a (Over d) → GoesOn g t at a b → ⊥
  no_further a b d h i =
      let y = goes_lead a b i in
      on_or_over b.stack b.held d (sym (led_once a (Over d) (On b.stack b.held) h y (over_told h.came h.kept d h.leads) (on_told y.came y.kept b.stack b.held y.leads)))

  -- So many times, seen from the first one on.
  abbrev GoFrom : ℕ → Point → Point → Type 0
  GoFrom zero a b = b ≡ a
  GoFrom (suc count) a c = (b : Point) × GoesOn g t at a b × GoFrom count b c

  one_more : (count : ℕ) (a b c : Point) → GoFrom count a b → GoesOn g t at b c → GoFrom (suc count) a c
  one_more zero a b c is goes = (c, subst (λ (x : Point). GoesOn g t at x c) is goes, refl)
  one_more (suc count) a b c (x, first, later) goes = (x, first, one_more count x b c later goes)

  from_first : (count : ℕ) (a b : Point) → GoOn g t at count a b → GoFrom count a b
  from_first zero a b is = is
  from_first (suc count) a b (mid, calls, goes) = one_more count a mid b (from_first count a mid calls) goes

  same_last : (m n : ℕ) (a b c : Point) (d e : Done (Unit {0})) → GoFrom m a b → GoFrom n a c → Leads b (Over d) → Leads c (Over e) → d ≡ e
  same_last zero zero a b c d e h i ends others = one_end a d e (subst (λ (x : Point). Leads x (Over d)) h ends) (subst (λ (x : Point). Leads x (Over e)) i others)
  same_last zero (suc n) a b c d e h (x, first, later) ends others = absurd (no_further a x d (subst (λ (y : Point). Leads y (Over d)) h ends) first)
  same_last (suc m) zero a b c d e (x, first, later) i ends others = absurd (no_further a x e (subst (λ (y : Point). Leads y (Over e)) i others) first)
  same_last (suc m) (suc n) a b c d e (x, first, later) (y, other, more) ends others =
      same_last m n x b c d e later (subst (λ (z : Point). GoFrom n z c) (one_further a y x other first) more) ends others

  -- What nested code comes to.
  record NestedLeads (a : Point) (d : Done (Unit {0})) : Type 0 where
    pub last : Point
    pub count : ℕ
    pub goes : GoFrom count a last
    pub ends : Leads last (Over d)

  nested_ends : (a : Point) (d : Done (Unit {0})) (result : Result (Unit {0}) Stop) (new : Parts) → NestedEnds g t at a result new → Settles d result new → NestedLeads a d
  nested_ends a d result new (mid, gone, (o, h, runs, ends)) settles = record {
    last = mid;
    count = gone.count;
    goes = from_first gone.count a mid gone.calls;
    ends = record { came = o; kept = h; runs = runs; leads = ended d o h result new ends settles };
  }

  nested_leads : (a : Point) (d : Done (Unit {0})) (result : Result (Unit {0}) Stop) (new : Parts) → NestedGives g t at a result new → Settles d result new → NestedLeads a d
  nested_leads a d (Ok done) new gives settles = nested_ends a d (Ok done) new gives settles
  nested_leads a d (Err (stop.Trap why)) new gives settles = nested_ends a d (Err (stop.Trap why)) new gives settles
  nested_leads a d (Err stop.NoFuel) new gives settles = nested_ends a d (Err stop.NoFuel) new gives settles
  nested_leads a d (Err stop.Stuck) new gives settles = nested_ends a d (Err stop.Stuck) new gives settles
  nested_leads a d (Err stop.Memory) new gives settles = absurd settles

  nested_once : (a : Point) (d e : Done (Unit {0})) → NestedLeads a d → NestedLeads a e → d ≡ e
  nested_once a d e h i = same_last h.count i.count a h.last i.last d e h.goes i.goes h.ends i.ends

-- Where it does not begin no rule applies.
no_rule : (d : Done (Unit {0})) (result : Result (Unit {0}) Stop) (new : Parts) → NoRule result → Settles d result new → d ≡ Stuck
no_rule d (Ok done) new none settles = absurd none
no_rule d (Err (stop.Trap why)) new none settles = absurd none
no_rule d (Err stop.NoFuel) new none settles = absurd none
no_rule d (Err stop.Stuck) new none settles = settles
no_rule d (Err stop.Memory) new none settles = absurd settles

begins_once : (g : Graph) (t : ℕ) (at : Option ℕ) (call : Option Stack) (h : Held) (d e : Done (Unit {0})) (r q : Result (Unit {0}) Stop) (new later : Parts)
    → BeginsNested g t at call h r new → Settles d r new → BeginsNested g t at call h q later → Settles e q later → d ≡ e
begins_once g t None call h d e r q new later b settles c others = no_rule d r new b settles ∙ sym (no_rule e q later c others)
begins_once g t (Some at) None h d e r q new later b settles c others = no_rule d r new b settles ∙ sym (no_rule e q later c others)
begins_once g t (Some at) (Some k) h d e r q new later b settles c others =
    let a : Point = record { held = h; stack = k } in
    nested_once g t at a d e (nested_leads g t at a d r new b settles) (nested_leads g t at a e q later c others)

post_once : (g : Graph) (t : ℕ) (post : Option FuncRef) (words : List ℕ) (h : Held) (d e : Done (Unit {0})) (r q : Result (Unit {0}) Stop) (new later : Parts)
    → PostReturns g t post words h r new → Settles d r new → PostReturns g t post words h q later → Settles e q later → d ≡ e
post_once g t None words h d e r q new later b settles c others =
    over_done d (at_rest rest.Leaves h) r new b.0 b.1 settles ∙ sym (over_done e (at_rest rest.Leaves h) q later c.0 c.1 others)
post_once g t (Some func) words h d e r q new later b settles c others =
    begins_once g t (instance_at t h) (call_of h.store func words) h d e r q new later b settles c others

pub post_returns_once : (p : Program) (t : ℕ) (post : Option FuncRef) (words : List ℕ) (h : Held) (d e : Done (Unit {0})) → PostReturnsTo p t post words h d → PostReturnsTo p t post words h e
    → d ≡ e
post_returns_once p t post words h d e (r, new, returns, settles) (q, later, others, settle) =
    post_once p.graph.now t post words h d e r q new later returns settles others settle
