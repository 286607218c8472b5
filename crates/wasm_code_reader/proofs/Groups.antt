-- Groups of locals that are read one after the other, behind those that are read already.
use Rattle.std.proofs.Common.{◌≡◌, ◌<◌, ◌≤◌, ◌+◌, ℕ, zero, suc, List, [], ◌∷◌, ◌++◌, refl, append-nil, append_assoc, arith, Result, Ok, Err}
use Rattle.std.proofs.lemmas.Bool.{lt-ltb, le-ltb}
use Rattle.std.proofs.lemmas.List.Sums.{sum_by-append}
use Rattle.ca_base.specs.Span.{Span}
use Rattle.ca_base.specs.declared.refusal.Refusal.{Refusal}
use Rattle.ca_base.specs.Grammar.{read, and_then}
use Rattle.ca_base.specs.Items.{u32}
use Rattle.ca_base.proofs.Times.{preceded}
use Rattle.wasm_code_reader.specs.declared.fault.ModuleWhy.{ModuleWhy}
use Rattle.wasm_code_reader.specs.declared.fault.ModuleWhy.TheVariants.{Limit}
use Rattle.syntax_trees.specs.declared.module_types.ValType.{ValType}
use Rattle.syntax_trees.specs.declared.module_types.Locals.{Locals}
use Rattle.wasm_code_reader.specs.Reasons.{numbers}
use Rattle.wasm_code_reader.specs.Types.{val_type}
use Rattle.wasm_code_reader.specs.Bodies.{locals}
use Rattle.syntax_trees.specs.Locals.{local_count}

one_more : (groups : List Locals) (g : Locals) (r : Result (List Locals × Span ModuleWhy) (Refusal ModuleWhy)) → preceded groups (and_then r (λ others u. Ok (g ∷ others, u))) ≡ preceded (groups ++ g ∷ []) r
one_more groups g (Ok x) = simp append_assoc
one_more groups g (Err e) = refl

-- no groups are left to be read
pub locals_none : (groups : List Locals) (n before : ℕ) (s : Span ModuleWhy) → n ≡ 0 → preceded groups (read (locals n before) s) ≡ Ok (groups, s)
unfolding locals
locals_none groups zero before s h = simp append-nil
locals_none groups (suc n) before s h = cc

-- a group is read
pub locals_go : (groups : List Locals) (n k before count total : ℕ) (type : ValType) (s u t : Span ModuleWhy) → n ≡ suc k → read (u32 numbers) s ≡ Ok (count, u) → total ≡ before + count → total ≤ 50000 → read val_type u ≡ Ok (type, t) → preceded groups (read (locals n before) s) ≡ preceded (groups ++ record { count = count; val_type = type } ∷ []) (read (locals k total) t)
unfolding locals
locals_go groups zero k before count total type s u t h c e l r = cc
locals_go groups (suc m) k before count total type s u t h c e l r =
    let same : m ≡ k = cc in
    let within : before + count ≤ 50000 = omega arith in
    rw (c, le-ltb 50000 (before + count) within, r, same, e) (one_more groups (record { count = count; val_type = type }) (read (locals k (before + count)) t))

-- there are too many locals
pub locals_past : (groups : List Locals) (n before count : ℕ) (s u : Span ModuleWhy) → 0 < n → read (u32 numbers) s ≡ Ok (count, u) → 50000 < before + count → preceded groups (read (locals n before) s) ≡ Err (record { place = s.at; why = Limit })
unfolding locals
locals_past groups zero before count s u h c l = absurd (omega arith)
locals_past groups (suc m) before count s u h c l = rw (c, lt-ltb 50000 (before + count) l) refl

-- a number of locals is refused
pub locals_uncounted : (groups : List Locals) (n before : ℕ) (s : Span ModuleWhy) (e : Refusal ModuleWhy) → 0 < n → read (u32 numbers) s ≡ Err e → preceded groups (read (locals n before) s) ≡ Err e
unfolding locals
locals_uncounted groups zero before s e h c = absurd (omega arith)
locals_uncounted groups (suc m) before s e h c = rw c refl

-- a type of locals is refused
pub locals_untyped : (groups : List Locals) (n before count : ℕ) (s u : Span ModuleWhy) (e : Refusal ModuleWhy) → 0 < n → read (u32 numbers) s ≡ Ok (count, u) → before + count ≤ 50000 → read val_type u ≡ Err e → preceded groups (read (locals n before) s) ≡ Err e
unfolding locals
locals_untyped groups zero before count s u e h c l r = absurd (omega arith)
locals_untyped groups (suc m) before count s u e h c l r = rw (c, le-ltb 50000 (before + count) l, r) refl

-- the locals of one group more
pub one_counted : (groups : List Locals) (g : Locals) → local_count (groups ++ g ∷ []) ≡ local_count groups + g.count
one_counted groups g = rw (sum_by-append (λ (h : Locals). h.count) groups (g ∷ [])) (omega arith)
