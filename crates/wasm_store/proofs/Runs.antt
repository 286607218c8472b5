-- Moves are determined by the store and the stack, and steps are joined.
use Rattle.std.proofs.Common.{◌≡◌, ◌+◌, ℕ, zero, suc, Bool, ap, sym, subst, arith}
use Rattle.wasm_store.specs.Store.{Store}
use Rattle.wasm_store.specs.Stack.{Stack}
use Rattle.wasm_store.specs.Step.{Goes, next, units, Moves, Steps}
use Rattle.wasm_store.specs.Laws.{OneNext, StepsJoin, FewerAreFront}

-- Moves from the same store and stack, whose first units are of the same move.
same_first : (count b : ℕ) (c d : Bool) (s u v : Store) (k m n : Stack) (t : Store) (l : Stack) → next s k ≡ Goes c u m → next s k ≡ Goes d v n → Moves count b v n t l → (c ≡ d) × Moves count b u m t l
same_first count b c d s u v k m n t l e h moves =
    let stores : v ≡ u = cc in
    let stacks : n ≡ m = cc in
    let costs : c ≡ d = cc in
    (costs, subst (λ (m : Stack). Moves count b u m t l) stacks (subst (λ (u : Store). Moves count b u n t l) stores moves))

pub fewer_are_front : FewerAreFront
fewer_are_front zero more a b s t u k l m (none, stores, stacks) moves =
    (b, omega arith, subst (λ (l : Stack). Moves more b t l u m) (sym stacks) (subst (λ (t : Store). Moves more b t k u m) (sym stores) (subst (λ (n : ℕ). Moves n b s k u m) (let zeros : 0 + more ≡ more = omega arith in zeros) moves)))
fewer_are_front (suc count) more a b s t u k l m (costs, left, v, n, goes, fuel_is, others) moves =
    let longer : suc count + more ≡ suc (count + more) = omega arith in
    let second : Moves (suc (count + more)) b s k u m = subst (λ (n : ℕ). Moves n b s k u m) longer moves in
    let first = same_first (count + more) second.1 costs second.0 s v second.2 k n second.3 u m goes second.4 second.6 in
    let rest = fewer_are_front count more left second.1 v t u n l m others first.1 in
    let cost : units costs ≡ units second.0 = ap units first.0 in
    (rest.0, omega (arith, rest.1, second.5), rest.2)

pub one_next : OneNext
one_next count a b s t u k l m first second =
    let front = fewer_are_front count 0 a b s t u k l m first (subst (λ (n : ℕ). Moves n b s k u m) (let zeros : count ≡ count + 0 = omega arith in zeros) second) in
    (omega (arith, front.1, front.2.0), sym front.2.1, sym front.2.2)

moves_join : (count a b : ℕ) (s t u : Store) (k l m : Stack) → Moves count a s k t l → Steps b t l u m → Steps (a + b) s k u m
moves_join zero a b s t u k l m (none, stores, stacks) (count, moves) =
    (count, subst (λ (k : Stack). Moves count (a + b) s k u m) stacks (subst (λ (s : Store). Moves count (a + b) s l u m) stores (subst (λ (n : ℕ). Moves count n t l u m) (let same : b ≡ a + b = omega arith in same) moves)))
moves_join (suc count) a b s t u k l m (costs, left, v, n, goes, fuel_is, others) steps =
    let rest = moves_join count left b v t u n l m others steps in
    (suc rest.0, (costs, left + b, v, n, goes, omega arith, rest.1))

pub steps_join : StepsJoin
steps_join a b s t u k l m first second = moves_join first.0 a b s t u k l m first.1 second
