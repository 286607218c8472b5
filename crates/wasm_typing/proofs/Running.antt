-- Runs of locals, and the search in them.
use Rattle.std.proofs.Common.{◌≡◌, ◌<◌, ◌≤◌, ◌+◌, ◌-◌, ℕ, zero, suc, List, [], ◌∷◌, ◌++◌, length, get_or, replicate, drop, refl, ap, sym, ◌∙◌, subst, Some, None, arith, append-nil, append_assoc, add-one, drop-cons}
use Rattle.std.specs.List.{slice_get, fold}
use Rattle.syntax_trees.specs.declared.module_types.ValType.{ValType}
use Rattle.syntax_trees.specs.declared.module_types.Locals.{Locals}
use Rattle.syntax_trees.specs.Locals.{declared_locals, local_count}
use Rattle.wasm_typing.specs.declared.local_runs.Run.{Run}
use Rattle.wasm_typing.specs.Runs.{run_types, Rising}

abbrev run : ℕ → ValType → Run
run end type = record { end = end; val_type = type }

-- the runs of groups, behind so many locals
abbrev pub runs_of : ℕ → List Locals → List Run
runs_of start [] = []
runs_of start (g ∷ gs) = run (start + g.count) g.val_type ∷ runs_of (start + g.count) gs

added : (s n : ℕ) → (s + n) - s ≡ n
added s n = omega arith

pub runs_types : (start : ℕ) (gs : List Locals) → run_types start (runs_of start gs) ≡ declared_locals gs
runs_types start [] = refl
runs_types start (g ∷ gs) = rw (added start g.count, runs_types (start + g.count) gs) refl

pub runs_rise : (start : ℕ) (gs : List Locals) → Rising start (runs_of start gs)
runs_rise start [] = tt
runs_rise start (g ∷ gs) = (omega arith, runs_rise (start + g.count) gs)

pub next_run : (gs : List Locals) (at e : ℕ) (d g : Locals) (xs w : List Run) → g ≡ get_or gs at d → at < length gs → xs ++ runs_of e (drop at gs) ≡ w → (xs ++ run (e + g.count) g.val_type ∷ []) ++ runs_of (e + g.count) (drop (at + 1) gs) ≡ w
next_run gs at e d g xs w is h whole =
    let here : drop at gs ≡ g ∷ drop (at + 1) gs = rw (add-one, is) (drop-cons gs at d h) in
    append_assoc xs (run (e + g.count) g.val_type ∷ []) (runs_of (e + g.count) (drop (at + 1) gs)) ∙ ap (λ (gs : List Locals). xs ++ runs_of e gs) (sym here) ∙ whole

counts_in : (a k b m n : ℕ) → m ≡ (a + k) + b → n ≡ (0 + k) + b → m ≡ a + n
counts_in a k b m n h w = omega (arith, h, w)

next_count_in : (e k a b n : ℕ) → a ≡ 0 + k + b → e + a ≡ n → (e + k) + b ≡ n
next_count_in e k a b n h w = omega (arith, h, w)

counts_from : (a : ℕ) (gs : List Locals) → fold (λ (a : ℕ) (g : Locals). a + g.count) a gs ≡ a + local_count gs
counts_from a [] = omega arith
counts_from a (g ∷ gs) =
    let one = counts_from (a + g.count) gs in
    let other = counts_from (0 + g.count) gs in
    counts_in a g.count (local_count gs) (fold (λ (a : ℕ) (g : Locals). a + g.count) (a + g.count) gs) (fold (λ (a : ℕ) (g : Locals). a + g.count) (0 + g.count) gs) one other

pub next_count : (gs : List Locals) (at e n : ℕ) (d g : Locals) → g ≡ get_or gs at d → at < length gs → e + local_count (drop at gs) ≡ n → (e + g.count) + local_count (drop (at + 1) gs) ≡ n
next_count gs at e n d g is h whole =
    let here : drop at gs ≡ g ∷ drop (at + 1) gs = rw (add-one, is) (drop-cons gs at d h) in
    let count : local_count (drop at gs) ≡ 0 + g.count + local_count (drop (at + 1) gs) = ap local_count here ∙ counts_from (0 + g.count) (drop (at + 1) gs) in
    next_count_in e g.count (local_count (drop at gs)) (local_count (drop (at + 1) gs)) n count whole

-- where the run of an index begins
abbrev pub start_of : ℕ → ℕ → List Run → ℕ
start_of s zero rs = s
start_of s (suc k) [] = s
start_of s (suc k) (r ∷ rs) = start_of r.end k rs

rising_start : (s k : ℕ) (rs : List Run) → Rising s rs → s ≤ start_of s k rs
rising_start s zero rs h = omega arith
rising_start s (suc k) [] h = omega arith
rising_start s (suc k) (r ∷ rs) h = omega (arith, rising_start r.end k rs h.1, h.0)

get_in : (n : ℕ) (t : ValType) (ys : List ValType) (i : ℕ) → i < n → slice_get (replicate n t ++ ys) i ≡ Some t
get_in zero t ys i h = absurd (omega arith)
get_in (suc n) t ys zero h = refl
get_in (suc n) t ys (suc i) h = get_in n t ys i (omega arith)

get_past : (n : ℕ) (t : ValType) (ys : List ValType) (i j : ℕ) → i ≡ n + j → slice_get (replicate n t ++ ys) i ≡ slice_get ys j
get_past zero t ys i j h = let e : i ≡ j = omega arith in ap (slice_get ys) e
get_past (suc n) t ys zero j h = absurd (omega arith)
get_past (suc n) t ys (suc i) j h = get_past n t ys i j (omega arith)

pub found_run : (s k i : ℕ) (rs : List Run) (d : Run) → Rising s rs → k < length rs → start_of s k rs ≤ s + i → s + i < (get_or rs k d).end → slice_get (run_types s rs) i ≡ Some (get_or rs k d).val_type
found_run s k i [] d r h a b = absurd (omega arith)
found_run s zero i (x ∷ rs) d r h a b = get_in (x.end - s) x.val_type (run_types x.end rs) i (omega arith)
found_run s (suc k) i (x ∷ rs) d r h a b =
    let from : x.end ≤ s + i = omega (arith, rising_start x.end k rs r.1, a) in
    let low : s ≤ x.end = r.0 in
    let rest : ℕ = (s + i) - x.end in
    let split : i ≡ (x.end - s) + rest = omega arith in
    let same : x.end + rest ≡ s + i = omega arith in
    get_past (x.end - s) x.val_type (run_types x.end rs) i rest split
    ∙ found_run x.end k rest rs d r.1 (omega arith) (subst (λ (n : ℕ). start_of x.end k rs ≤ n) (sym same) a) (subst (λ (n : ℕ). n < (get_or rs k d).end) (sym same) b)

pub no_run : (s i : ℕ) (rs : List Run) → Rising s rs → start_of s (length rs) rs ≤ s + i → slice_get (run_types s rs) i ≡ None
no_run s i [] r a = refl
no_run s i (x ∷ rs) r a =
    let from : x.end ≤ s + i = omega (arith, rising_start x.end (length rs) rs r.1, a) in
    let low : s ≤ x.end = r.0 in
    let rest : ℕ = (s + i) - x.end in
    let split : i ≡ (x.end - s) + rest = omega arith in
    let same : x.end + rest ≡ s + i = omega arith in
    get_past (x.end - s) x.val_type (run_types x.end rs) i rest split ∙ no_run x.end rest rs r.1 (subst (λ (n : ℕ). start_of x.end (length rs) rs ≤ n) (sym same) a)

-- where a run ends, the next one begins
pub next_start : (s k : ℕ) (rs : List Run) (d : Run) → k < length rs → start_of s (k + 1) rs ≡ (get_or rs k d).end
next_start s k [] d h = absurd (omega arith)
next_start s zero (x ∷ rs) d h = refl
next_start s (suc k) (x ∷ rs) d h =
    let e : suc k + 1 ≡ suc (k + 1) = omega arith in
    ap (λ (n : ℕ). start_of s n (x ∷ rs)) e ∙ next_start x.end k rs d (omega arith)

pub low_more : (middle i : ℕ) (rs : List Run) (d : Run) → middle < length rs → (get_or rs middle d).end ≤ i → start_of 0 (middle + 1) rs ≤ i
low_more middle i rs d h a = subst (λ (n : ℕ). n ≤ i) (sym (next_start 0 middle rs d h)) a

pub run_none : (i low : ℕ) (rs : List Run) → Rising 0 rs → low ≡ length rs → start_of 0 low rs ≤ i → None ≡ slice_get (run_types 0 rs) i
run_none i low rs r e a =
    let z : 0 + i ≡ i = omega arith in
    let at : start_of 0 (length rs) rs ≤ 0 + i = subst (λ (n : ℕ). n ≤ 0 + i) (ap (λ (k : ℕ). start_of 0 k rs) e) (subst (λ (n : ℕ). start_of 0 low rs ≤ n) (sym z) a) in
    sym (no_run 0 i rs r at)

pub run_some : (i low : ℕ) (rs : List Run) (d : Run) → Rising 0 rs → low < length rs → start_of 0 low rs ≤ i → i < (get_or rs low d).end → Some (get_or rs low d).val_type ≡ slice_get (run_types 0 rs) i
run_some i low rs d r h a b =
    let z : 0 + i ≡ i = omega arith in
    sym (found_run 0 low i rs d r h (subst (λ (n : ℕ). start_of 0 low rs ≤ n) (sym z) a) (subst (λ (n : ℕ). n < (get_or rs low d).end) (sym z) b))

drop_past : (n : ℕ) (gs : List Locals) → length gs ≤ n → drop n gs ≡ []
drop_past zero [] h = refl
drop_past zero (x ∷ gs) h = absurd (omega arith)
drop_past (suc n) [] h = refl
drop_past (suc n) (x ∷ gs) h = drop_past n gs (omega arith)

-- behind the last group
pub runs_whole : (xs : List Run) (e at : ℕ) (gs : List Locals) → xs ++ runs_of e (drop at gs) ≡ runs_of 0 gs → length gs ≤ at → xs ≡ runs_of 0 gs
runs_whole xs e at gs whole h = sym (append-nil xs) ∙ ap (λ (gs : List Locals). xs ++ runs_of e gs) (sym (drop_past at gs h)) ∙ whole
