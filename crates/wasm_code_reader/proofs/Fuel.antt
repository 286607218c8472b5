-- An expression is read alike with any bound that is no less than the bytes.
use Rattle.std.proofs.Common.{◌≡◌, ◌≤◌, ◌+◌, ℕ, zero, suc, List, [], ◌∷◌, ◌++◌, length, refl, arith, Result, Ok, Err, Bool, true, false, cond, nat_eq, ap, ◌∙◌}
use Rattle.std.specs.Prelude.{◌&&◌}
use Rattle.ca_base.specs.Span.{Span}
use Rattle.ca_base.specs.declared.refusal.Refusal.{Refusal}
use Rattle.ca_base.specs.Grammar.{read, first_byte, and_then}
use Rattle.wasm_code_reader.specs.declared.fault.ModuleWhy.{ModuleWhy}
use Rattle.syntax_trees.specs.declared.instr.Instr.{Instr}
use Rattle.syntax_trees.specs.declared.instr.BlockType.{BlockType}
use Rattle.syntax_trees.specs.Expr.{Expr, End, Plain, Block, Loop, If, IfElse, Piece}
use Rattle.wasm_code_reader.specs.Instrs.{instr, block_type}
use Rattle.wasm_code_reader.specs.Bodies.{expr}
use Rattle.ca_base.proofs.Left.{reads_left, byte_left}

abbrev pub One : Type 0
One = Piece × List ℕ

abbrev pub Read : Type 0
Read = Result (One × Span ModuleWhy) (Refusal ModuleWhy)

-- what each item gives
abbrev pub make_block : (BlockType → Expr → Expr → Expr) → ℕ → BlockType → One → One → One
make_block make place t b e = ((e.0.0, make t b.0.1 e.0.1), place ∷ b.1 ++ e.1)

abbrev pub make_both : ℕ → BlockType → One → One → One → One
make_both place t a b e = ((e.0.0, IfElse t a.0.1 b.0.1 e.0.1), place ∷ a.1 ++ b.1 ++ e.1)

abbrev pub make_plain : ℕ → Instr → One → One
make_plain place i e = ((e.0.0, Plain i e.0.1), place ∷ e.1)

-- what each opcode leads to
abbrev pub one_block : Bool → ℕ → ℕ → (BlockType → Expr → Expr → Expr) → Span ModuleWhy → Read
one_block m n place make u = and_then (read block_type u) (λ t v. and_then (read (expr false n) v) (λ b w. and_then (read (expr m n) w) (λ e x. Ok (make_block make place t b e, x))))

abbrev pub behind_first : Bool → ℕ → ℕ → BlockType → One → Span ModuleWhy → Read
behind_first m n place t a w =
    cond a.0.0 (and_then (read (expr false n) w) (λ b x. and_then (read (expr m n) x) (λ e y. Ok (make_both place t a b e, y)))) (and_then (read (expr m n) w) (λ e x. Ok (make_block If place t a e, x)))

abbrev pub one_if : Bool → ℕ → ℕ → Span ModuleWhy → Read
one_if m n place u = and_then (read block_type u) (λ t v. and_then (read (expr true n) v) (λ a w. behind_first m n place t a w))

abbrev pub one_plain : Bool → ℕ → ℕ → ℕ → Span ModuleWhy → Read
one_plain m n place opcode u = and_then (read (instr place opcode) u) (λ i t. and_then (read (expr m n) t) (λ e v. Ok (make_plain place i e, v)))

abbrev pub behind_opcode : Bool → ℕ → ℕ → ℕ → Span ModuleWhy → Read
behind_opcode m n place opcode u =
    cond (nat_eq opcode 11) (Ok (((false, End), place ∷ []), u)) (cond (m && nat_eq opcode 5) (Ok (((true, End), place ∷ []), u)) (cond (nat_eq opcode 2) (one_block m n place Block u) (cond (nat_eq opcode 3) (one_block m n place Loop u) (cond (nat_eq opcode 4) (one_if m n place u) (one_plain m n place opcode u)))))

-- two readings that go on alike
same_then : {W A B : Type 0} (r q : Result (A × Span W) (Refusal W)) (f g : A → Span W → Result (B × Span W) (Refusal W)) → r ≡ q → ((x : A) (t : Span W) → r ≡ Ok (x, t) → f x t ≡ g x t) → and_then r f ≡ and_then q g
same_then (Ok x) q f g e h = h x.0 x.1 refl ∙ ap (λ r. and_then r g) e
same_then (Err d) q f g e h = ap (λ r. and_then r g) e

-- Two bounds read alike what is no longer than this.
abbrev Alike : ℕ → ℕ → ℕ → Type 0
Alike long n k = (m : Bool) (t : Span ModuleWhy) → length t.bytes ≤ long → read (expr m n) t ≡ read (expr m k) t

same_block : (m : Bool) (n k place : ℕ) (make : BlockType → Expr → Expr → Expr) (u : Span ModuleWhy) → Alike (length u.bytes) n k → one_block m n place make u ≡ one_block m k place make u
same_block m n k place make u same =
    same_then (read block_type u) _ _ _ refl
    (λ t v r. let l = reads_left block_type u t v r in
    same_then (read (expr false n) v) _ _ _ (same false v l)
    (λ b w q. let j = reads_left (expr false n) v b w q in
    same_then (read (expr m n) w) _ _ _ (same m w (omega arith)) (λ e x p. refl)))

same_both : (m : Bool) (n k place : ℕ) (t : BlockType) (a : One) (w : Span ModuleWhy) → Alike (length w.bytes) n k → and_then (read (expr false n) w) (λ b x. and_then (read (expr m n) x) (λ e y. Ok (make_both place t a b e, y))) ≡ and_then (read (expr false k) w) (λ b x. and_then (read (expr m k) x) (λ e y. Ok (make_both place t a b e, y)))
same_both m n k place t a w same =
    same_then (read (expr false n) w) _ _ _ (same false w (omega arith))
    (λ b x p. let i = reads_left (expr false n) w b x p in
    same_then (read (expr m n) x) _ _ _ (same m x (omega arith)) (λ e y o. refl))

same_short : (m : Bool) (n k place : ℕ) (t : BlockType) (a : One) (w : Span ModuleWhy) → Alike (length w.bytes) n k → and_then (read (expr m n) w) (λ e x. Ok (make_block If place t a e, x)) ≡ and_then (read (expr m k) w) (λ e x. Ok (make_block If place t a e, x))
same_short m n k place t a w same = same_then (read (expr m n) w) _ _ _ (same m w (omega arith)) (λ e y o. refl)

same_if : (m : Bool) (n k place : ℕ) (u : Span ModuleWhy) → Alike (length u.bytes) n k → one_if m n place u ≡ one_if m k place u
same_if m n k place u same =
    same_then (read block_type u) _ _ _ refl
    (λ t v r. let l = reads_left block_type u t v r in
    same_then (read (expr true n) v) _ _ _ (same true v l)
    (λ a w q. let j = reads_left (expr true n) v a w q in
    rw (same_both m n k place t a w (λ m s h. same m s (omega arith)), same_short m n k place t a w (λ m s h. same m s (omega arith))) refl))

same_plain : (m : Bool) (n k place opcode : ℕ) (u : Span ModuleWhy) → Alike (length u.bytes) n k → one_plain m n place opcode u ≡ one_plain m k place opcode u
same_plain m n k place opcode u same =
    same_then (read (instr place opcode) u) _ _ _ refl
    (λ i t r. let l = reads_left (instr place opcode) u i t r in
    same_then (read (expr m n) t) _ _ _ (same m t l) (λ e x p. refl))

same_behind : (m : Bool) (n k place opcode : ℕ) (u : Span ModuleWhy) → Alike (length u.bytes) n k → behind_opcode m n place opcode u ≡ behind_opcode m k place opcode u
same_behind m n k place opcode u same =
    rw (same_block m n k place Block u same, same_block m n k place Loop u same, same_if m n k place u same, same_plain m n k place opcode u same) refl

fuel_at : (m : Bool) (n k : ℕ) (bytes : List ℕ) (at : ℕ) (past : ModuleWhy) → length bytes ≤ n → length bytes ≤ k → read (expr m n) (record { bytes = bytes; at = at; past = past }) ≡ read (expr m k) (record { bytes = bytes; at = at; past = past })
unfolding expr
fuel_at m zero zero bytes at past h i = refl
fuel_at m zero (suc k) [] at past h i = refl
fuel_at m zero (suc k) (b ∷ rest) at past h i = absurd (omega arith)
fuel_at m (suc n) zero [] at past h i = refl
fuel_at m (suc n) zero (b ∷ rest) at past h i = absurd (omega arith)
fuel_at m (suc n) (suc k) [] at past h i = refl
fuel_at m (suc n) (suc k) (b ∷ rest) at past h i =
    same_behind m n k at b (record { bytes = rest; at = at + 1; past = past }) (λ l t j. fuel_at l n k t.bytes t.at t.past (omega arith) (omega arith))

pub fuel : (m : Bool) (n k : ℕ) (s : Span ModuleWhy) → length s.bytes ≤ n → length s.bytes ≤ k → read (expr m n) s ≡ read (expr m k) s
fuel m n k s h i = fuel_at m n k s.bytes s.at s.past h i

-- an expression by its first opcode, where the bound is no less than the bytes
pub unrolls : (m : Bool) (n opcode : ℕ) (s u : Span ModuleWhy) → length s.bytes ≤ n → first_byte s s.bytes ≡ Ok (opcode, u) → read (expr m n) s ≡ behind_opcode m n s.at opcode u
unfolding expr
unrolls m zero opcode s u h b = let less = byte_left s opcode u b in absurd (omega arith)
unrolls m (suc k) opcode s u h b =
    let less = byte_left s opcode u b in
    rw b (same_behind m k (suc k) s.at opcode u (λ l t i. fuel l k (suc k) t (omega arith) (omega arith)))
