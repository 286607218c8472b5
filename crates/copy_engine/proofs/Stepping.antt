-- What a plan comes to is a list of steps.
use Rattle.std.proofs.Common.{◌≡◌, ◌<◌, ◌≤◌, ◌+◌, ◌-◌, ℕ, zero, suc, Bool, true, false, nat_le, if◌then◌else◌, [], ◌∷◌, length, refl, sym, ap, ◌∙◌, subst, arith, inl, inr, Option, Some, None, Ok, Err}
use Rattle.std.proofs.lemmas.Bool.Decides.{nat_tests}
use Rattle.wasm_store.specs.Store.{Function, Store}
use Rattle.wasm_store.specs.Stack.{Stack}
use Rattle.wasm_store.specs.Step.{Move, Goes, Calls, Ends, Traps, next, cost, units, Moves}
use Rattle.wasm_execution.specs.Run.{Comes}
use Rattle.value_lower.specs.declared.ends.RoomEnd.{RoomEnd}
use Rattle.value_lower.specs.declared.ends.RoomEnd.TheVariants.{Trapped, NoFuel, Memory}
use Rattle.value_lower.specs.Plan.{Ask, Plan, Gives, Fails, Asks, Size, Put, Adds}
use Rattle.value_lower.specs.Following.{Came, Ended, Follows}
use Rattle.copy_engine.specs.declared.store_room.LowerOptions.{LowerOptions}
use Rattle.copy_engine.specs.declared.nested.HostCall.{HostCall}
use Rattle.copy_engine.specs.declared.nested.NestedTrap.{NestedTrap}
use Rattle.copy_engine.specs.declared.nested.NestedTrap.TheVariants.{Core, CannotLeave, NoRealloc}
use Rattle.copy_engine.specs.Nested.{RoomState, memory_with, realloc_in, begun, rooms_with, NestedGives, ReallocGives}
use Rattle.copy_engine.specs.Turns.{Plans, Runs, Conf, Turn, On, Over, paid, moved, ran, asks, turn, Turns, ComesTo, Counts, FollowsBySteps}

abbrev state : Store → ℕ → Option HostCall → RoomState
state s left call = record { store = s; units = left; call = call }

abbrev running : Stack → (ℕ → Plan) → RoomState → Conf
running k plan r = record { doing = Runs k plan; room = r }

abbrev planned : Plan → RoomState → Conf
planned plan r = record { doing = Plans plan; room = r }

enough : (n u : ℕ) → n ≤ u → nat_le n u ≡ true
enough n u h = grind (arith, nat_tests)

short : (n u : ℕ) → u < n → nat_le n u ≡ false
short n u h = grind (arith, nat_tests)

-- a step whose units are left, and one whose are not
paid_for : (n after : ℕ) (r : RoomState) (f : RoomState → Turn) → r.units ≡ after + n → paid n r f ≡ f (state r.store after r.call)
paid_for n after r f h =
    let left : r.units - n ≡ after = omega (arith, h) in
    ap (λ (b : Bool). if b then f (state r.store (r.units - n) r.call) else Over (Ended NoFuel) r) (enough n r.units (omega (arith, h)))
    ∙ ap (λ (m : ℕ). f (state r.store m r.call)) left

not_paid : (n : ℕ) (r : RoomState) (f : RoomState → Turn) → r.units < n → paid n r f ≡ Over (Ended NoFuel) r
not_paid n r f h = ap (λ (b : Bool). if b then f (state r.store (r.units - n) r.call) else Over (Ended NoFuel) r) (short n r.units h)

-- the step of a stack whose next move this is
steps_by : (options : LowerOptions) (m : Move) (k : Stack) (plan : ℕ → Plan) (r : RoomState) (after : ℕ) → next r.store k ≡ m → r.units ≡ after + cost k m
    → turn options (running k plan r) ≡ moved m plan (state r.store after r.call)
steps_by options m k plan r after e h =
    ap (λ (m : Move). ran m k plan r) e ∙ paid_for (cost k m) after r (λ left. moved m plan left) h

-- Moves are steps.
moves_turn : (options : LowerOptions) (plan : ℕ → Plan) (call : Option HostCall) (count spent : ℕ) (s t : Store) (k l : Stack) (before after : ℕ)
    → Moves count spent s k t l → before ≡ after + spent → Turns options count (running k plan (state s before call)) (running l plan (state t after call))
moves_turn options plan call zero spent s t k l before after m h =
    let none : after ≡ before = (let z = m.0 in omega arith) in
    ap (λ (n : ℕ). running l plan (state t n call)) none ∙ ap (λ (u : Store). running l plan (state u before call)) m.1 ∙ ap (λ (j : Stack). running j plan (state s before call)) m.2
moves_turn options plan call (suc count) spent s t k l before after m h =
    let split : before ≡ (after + m.1) + units m.0 = (let p = m.5 in omega arith) in (
      running m.3 plan (state m.2 (after + m.1) call),
      steps_by options (Goes m.0 m.2 m.3) k plan (state s before call) (after + m.1) m.4 split,
      moves_turn options plan call count m.1 m.2 t m.3 l (after + m.1) after m.6 refl,
    )

-- Steps before others.
joined : (options : LowerOptions) (count : ℕ) (c d : Conf) (came : Came NestedTrap) (s : RoomState) → Turns options count c d → ComesTo options d came s → ComesTo options c came s
joined options zero c d came s h rest = subst (λ (x : Conf). ComesTo options x came s) h rest
joined options (suc count) c d came s h rest =
    let more = joined options count h.0 d came s h.2 rest in
    record { count = suc more.count; last = more.last; turns = (h.0, h.1, more.turns); over = more.over }

one_more : (options : LowerOptions) (c d : Conf) (came : Came NestedTrap) (s : RoomState) → turn options c ≡ On d → ComesTo options d came s → ComesTo options c came s
one_more options c d came s h rest = joined options 1 c d came s (d, h, refl) rest

at_once : (options : LowerOptions) (c : Conf) (came : Came NestedTrap) (s : RoomState) → turn options c ≡ Over came s → ComesTo options c came s
at_once options c came s h = record { count = 0; last = c; turns = refl; over = h }

-- Steps of a stack up to its last move.
up_to : (options : LowerOptions) (plan : ℕ → Plan) (r : RoomState) (k : Stack) (t : Store) (after : ℕ) (m : Move) (came : Came NestedTrap) (s : RoomState)
    → (c : Comes r.store k r.units t after m) → ComesTo options (running c.last plan (state t (after + cost c.last m) r.call)) came s
    → ComesTo options (running k plan r) came s
up_to options plan r k t after m came s c rest =
    let paid_then : r.units ≡ (after + cost c.last m) + c.spent = (let p = c.paid in omega arith) in
    joined options c.steps.0 (running k plan r) (running c.last plan (state t (after + cost c.last m) r.call)) came s
    (moves_turn options plan r.call c.steps.0 c.spent r.store t k c.last r.units (after + cost c.last m) c.steps.1 paid_then) rest

state_is : (r : RoomState) (t : Store) (after : ℕ) (call : Option HostCall) → t ≡ r.store → after ≡ r.units → call ≡ r.call → state t after call ≡ r
state_is r t after call a b c = ap (λ (u : Store). state u after call) a ∙ ap (λ (n : ℕ). state r.store n call) b ∙ ap (λ (o : Option HostCall). state r.store r.units o) c

-- A realloc that answers a place.
nested_answers : (options : LowerOptions) (plan : ℕ → Plan) (r mid : RoomState) (k : Stack) (place : ℕ) (came : Came NestedTrap) (s : RoomState)
    → NestedGives r k (Ok place) mid → ComesTo options (planned (plan place) mid) came s → ComesTo options (running k plan r) came s
nested_answers options plan r mid k place came s h rest =
    let c = h.0 in
    let here : state mid.store mid.units r.call ≡ mid = state_is mid mid.store mid.units r.call refl refl (sym h.1) in
    up_to options plan r k mid.store mid.units (Ends (place ∷ [])) came s c
    (one_more options (running c.last plan (state mid.store (mid.units + 0) r.call)) (planned (plan place) mid) came s
    (steps_by options (Ends (place ∷ [])) c.last plan (state mid.store (mid.units + 0) r.call) mid.units c.moves refl ∙ ap (λ (q : RoomState). On (planned (plan place) q)) here) rest)

-- A realloc that gives none.
nested_ends : (options : LowerOptions) (plan : ℕ → Plan) (r s : RoomState) (k : Stack) (end : RoomEnd NestedTrap) → Counts (Ended end)
    → NestedGives r k (Err end) s → ComesTo options (running k plan r) (Ended end) s
nested_ends options plan r s k (Trapped (Core why)) counts h =
    let c = h.0 in
    let here : state s.store s.units r.call ≡ s = state_is s s.store s.units r.call refl refl (sym h.1) in
    up_to options plan r k s.store s.units (Traps why) (Ended (Trapped (Core why))) s c
    (at_once options (running c.last plan (state s.store (s.units + 1) r.call)) (Ended (Trapped (Core why))) s
    (steps_by options (Traps why) c.last plan (state s.store (s.units + 1) r.call) s.units c.moves refl ∙ ap (λ (q : RoomState). Over (Ended (Trapped (Core why))) q) here))
nested_ends options plan r s k (Trapped CannotLeave) counts h =
    let c = h.2 in
    let here : state s.store s.units (Some h.0) ≡ s = state_is s s.store s.units (Some h.0) refl refl (sym h.3) in
    up_to options plan r k s.store s.units (Calls h.0.address h.0.words h.1) (Ended (Trapped CannotLeave)) s c
    (at_once options (running c.last plan (state s.store (s.units + cost c.last (Calls h.0.address h.0.words h.1)) r.call)) (Ended (Trapped CannotLeave)) s
    (steps_by options (Calls h.0.address h.0.words h.1) c.last plan (state s.store (s.units + cost c.last (Calls h.0.address h.0.words h.1)) r.call) s.units c.moves refl ∙ ap (λ (q : RoomState). Over (Ended (Trapped CannotLeave)) q) here))
nested_ends options plan r s k (Trapped NoRealloc) counts h = absurd h
nested_ends options plan r s k NoFuel counts h =
    let later : Stack = h.0 in
    let w = h.1 in
    let none : s.units ≡ 0 = w.none in
    let here : state s.store 0 r.call ≡ s = state_is s s.store 0 r.call refl (sym none) (sym h.2) in
    let costs : 0 < cost later (next s.store later) = (let c = w.costs in omega arith) in
    joined options w.steps.0 (running k plan r) (running later plan (state s.store 0 r.call)) (Ended NoFuel) s
    (moves_turn options plan r.call w.steps.0 r.units r.store s.store k later r.units 0 w.steps.1 (omega arith))
    (at_once options (running later plan (state s.store 0 r.call)) (Ended NoFuel) s
    (not_paid (cost later (next s.store later)) (state s.store 0 r.call) (λ left. moved (next s.store later) plan left) costs ∙ ap (λ (q : RoomState). Over (Ended NoFuel) q) here))
nested_ends options plan r s k Memory counts h = absurd counts

-- A realloc begins, or there is none.
asked_answers : (options : LowerOptions) (ask : Ask) (plan : ℕ → Plan) (r mid : RoomState) (place : ℕ) (came : Came NestedTrap) (s : RoomState) (o : Option (ℕ × Function))
    → realloc_in options.realloc r.store ≡ o → ReallocGives o r ask (Ok place) mid → ComesTo options (planned (plan place) mid) came s
    → ComesTo options (planned (Asks ask plan) r) came s
asked_answers options ask plan r mid place came s None e h rest = absurd (let differ = h.0 in cc)
asked_answers options ask plan r mid place came s (Some f) e h rest =
    one_more options (planned (Asks ask plan) r) (running (begun f ask) plan r) came s (ap (λ (o : Option (ℕ × Function)). asks o ask plan r) e)
    (nested_answers options plan r mid (begun f ask) place came s h rest)

asked_ends : (options : LowerOptions) (ask : Ask) (plan : ℕ → Plan) (r s : RoomState) (end : RoomEnd NestedTrap) (o : Option (ℕ × Function)) → Counts (Ended end)
    → realloc_in options.realloc r.store ≡ o → ReallocGives o r ask (Err end) s → ComesTo options (planned (Asks ask plan) r) (Ended end) s
asked_ends options ask plan r s end None counts e h =
    let same : Trapped NoRealloc ≡ end = (let e = h.0 in cc) in
    at_once options (planned (Asks ask plan) r) (Ended end) s
    (ap (λ (o : Option (ℕ × Function)). asks o ask plan r) e ∙ ap (λ (x : RoomEnd NestedTrap). Over (Ended x) r) same ∙ ap (λ (q : RoomState). Over (Ended end) q) (sym h.1))
asked_ends options ask plan r s end (Some f) counts e h =
    one_more options (planned (Asks ask plan) r) (running (begun f ask) plan r) (Ended end) s (ap (λ (o : Option (ℕ × Function)). asks o ask plan r) e)
    (nested_ends options plan r s (begun f ask) end counts h)

pub follows_by_steps : FollowsBySteps
follows_by_steps options (Gives words) r s came counts f =
    at_once options (planned (Gives words) r) came s (ap (λ (x : Came NestedTrap). Over x r) (sym f.0) ∙ ap (λ (q : RoomState). Over came q) (sym f.1))
follows_by_steps options (Fails why) r s came counts f =
    at_once options (planned (Fails why) r) came s (ap (λ (x : Came NestedTrap). Over x r) (sym f.0) ∙ ap (λ (q : RoomState). Over came q) (sym f.1))
follows_by_steps options (Asks ask k) r s came counts (inl f) =
    asked_answers options ask k r f.1 f.0 came s (realloc_in options.realloc r.store) refl f.2.0 (follows_by_steps options (k f.0) f.1 s came counts f.3)
follows_by_steps options (Asks ask k) r s came counts (inr f) =
    let ended : ComesTo options (planned (Asks ask k) r) (Ended f.0) s =
    asked_ends options ask k r s f.0 (realloc_in options.realloc r.store) (subst Counts f.2 counts) refl f.1 in
    subst (λ (x : Came NestedTrap). ComesTo options (planned (Asks ask k) r) x s) (sym f.2) ended
follows_by_steps options (Size k) r s came counts f =
    one_more options (planned (Size k) r) (planned (k (length (memory_with options r))) r) came s refl
    (follows_by_steps options (k (length (memory_with options r))) r s came counts f)
follows_by_steps options (Put place bytes k) r s came counts f =
    one_more options (planned (Put place bytes k) r) (planned k f.0) came s (ap (λ (q : RoomState). On (planned k q)) (sym f.1.0))
    (follows_by_steps options k f.0 s came counts f.2)
follows_by_steps options (Adds entry k) r s came counts f =
    let here : Follows (rooms_with options) (k f.0) r came s = subst (λ (m : RoomState). Follows (rooms_with options) (k f.0) m came s) f.2.0.1 f.3 in
    one_more options (planned (Adds entry k) r) (planned (k None) r) came s refl
    (follows_by_steps options (k None) r s came counts (subst (λ (o : Option ℕ). Follows (rooms_with options) (k o) r came s) f.2.0.0 here))
