-- The places at which blocks go on, from the end of the code on.
use Rattle.std.proofs.Common.{◌≡◌, ◌≤◌, ◌<◌, ◌+◌, ℕ, zero, suc, Bool, true, false, List, [], ◌∷◌, length, reverse, refl, ap, sym, ◌∙◌, arith, Some, None, Option, get_or, set, inl, inr, add-one, subst}
use Rattle.std.proofs.Math.Nat.{eq-or-lt_of_le}
use Rattle.std.proofs.Math.ListN.{length-set}
use Rattle.std.proofs.lemmas.Option.{slice_get_past, slice_get_read}
use Rattle.std.specs.List.{slice_get}
use Rattle.syntax_trees.specs.declared.instr.Op.{Op}
use Rattle.syntax_trees.specs.Expr.{Expr, End, Plain, Block, Loop, If, IfElse, Piece, flat, first_op, behind_op, behind_ops, left_at}
use Rattle.syntax_trees.proofs.Walking.{left_more, left_none, op_there}
use Rattle.wasm_code.specs.declared.jumps.Jump.{Jump}
use Rattle.wasm_code.specs.Jumps.{Opens, OpensIf, IsJump, AreJumps, behind_block, second_part}
use Rattle.wasm_code.specs.Ends.{ends_before, jump_of}

-- An `else` ends a part behind which the second one stands.
abbrev pub Formed : List Piece → Type 0
Formed [] = Unit {0}
Formed ((false, x) ∷ ps) = Formed ps
Formed ((true, x) ∷ []) = ⊥
Formed ((true, x) ∷ (true, y) ∷ ps) = ⊥
Formed ((true, x) ∷ (false, y) ∷ ps) = Formed ps

-- The open ends of pieces, one for a part and its second one together.
abbrev pub AreEnds : Expr → List Jump → List Piece → Type 0
AreEnds e [] [] = Unit {0}
AreEnds e [] (p ∷ ps) = ⊥
AreEnds e (j ∷ js) [] = ⊥
AreEnds e (j ∷ js) ((false, x) ∷ ps) = (left_at j.behind e ≡ ps) × (left_at j.second e ≡ (false, End) ∷ ps) × AreEnds e js ps
AreEnds e (j ∷ js) ((true, x) ∷ []) = ⊥
AreEnds e (j ∷ js) ((true, x) ∷ (true, y) ∷ ps) = ⊥
AreEnds e (j ∷ js) ((true, x) ∷ (false, y) ∷ ps) = (left_at j.behind e ≡ ps) × (left_at j.second e ≡ (false, y) ∷ ps) × AreEnds e js ps

formed_same : (m : Bool) (x y : Expr) (ps : List Piece) → Formed ((m, x) ∷ ps) → Formed ((m, y) ∷ ps)
formed_same false x y ps h = h
formed_same true x y [] h = h
formed_same true x y ((true, z) ∷ ps) h = h
formed_same true x y ((false, z) ∷ ps) h = h

formed_more : (ps : List Piece) → Formed ps → Formed (behind_op ps)
formed_more [] h = h
formed_more ((false, End) ∷ ps) h = h
formed_more ((true, End) ∷ []) h = absurd h
formed_more ((true, End) ∷ (true, y) ∷ ps) h = absurd h
formed_more ((true, End) ∷ (false, y) ∷ ps) h = h
formed_more ((m, Plain i e) ∷ ps) h = formed_same m (Plain i e) e ps h
formed_more ((m, Block t b e) ∷ ps) h = formed_same m (Block t b e) e ps h
formed_more ((m, Loop t b e) ∷ ps) h = formed_same m (Loop t b e) e ps h
formed_more ((m, If t a e) ∷ ps) h = formed_same m (If t a e) e ps h
formed_more ((m, IfElse t a b e) ∷ ps) h = formed_same m (IfElse t a b e) e ps h

formed_on : (at : ℕ) (ps : List Piece) → Formed ps → Formed (behind_ops at ps)
formed_on zero ps h = h
formed_on (suc at) ps h = formed_on at (behind_op ps) (formed_more ps h)

pub formed_at : (at : ℕ) (e : Expr) → Formed (left_at at e)
formed_at at e = formed_on at ((false, e) ∷ []) tt

ends_same : (e : Expr) (js : List Jump) (m : Bool) (x y : Expr) (ps : List Piece) → AreEnds e js ((m, x) ∷ ps) → AreEnds e js ((m, y) ∷ ps)
ends_same e [] m x y ps h = h
ends_same e (j ∷ js) false x y ps h = h
ends_same e (j ∷ js) true x y [] h = h
ends_same e (j ∷ js) true x y ((true, z) ∷ ps) h = h
ends_same e (j ∷ js) true x y ((false, z) ∷ ps) h = h

abbrev pub ends_by : Option Op → ℕ → List Jump → List Jump
ends_by None at js = js
ends_by (Some op) at js = ends_before op at js

-- The open ends before the operation at a place.
ends_over : (e : Expr) (at : ℕ) (js : List Jump) (ps : List Piece) → Formed ps → left_at at e ≡ ps → left_at (at + 1) e ≡ behind_op ps → AreEnds e js (behind_op ps) → AreEnds e (ends_by (first_op ps) at js) ps
ends_over e at js [] f here next h = h
ends_over e at js ((false, End) ∷ ps) f here next h = (next, here, h)
ends_over e at js ((true, End) ∷ []) f here next h = absurd f
ends_over e at js ((true, End) ∷ (true, y) ∷ ps) f here next h = absurd f
ends_over e at [] ((true, End) ∷ (false, y) ∷ ps) f here next h = absurd h
ends_over e at (j ∷ js) ((true, End) ∷ (false, y) ∷ ps) f here next h = (h.0, next, h.2)
ends_over e at js ((m, Plain i x) ∷ ps) f here next h = ends_same e js m x (Plain i x) ps h
ends_over e at [] ((m, Block t b x) ∷ ps) f here next h = absurd h
ends_over e at (j ∷ js) ((m, Block t b x) ∷ ps) f here next h = ends_same e js m x (Block t b x) ps h.2
ends_over e at [] ((m, Loop t b x) ∷ ps) f here next h = absurd h
ends_over e at (j ∷ js) ((m, Loop t b x) ∷ ps) f here next h = ends_same e js m x (Loop t b x) ps h.2
ends_over e at [] ((m, If t a x) ∷ ps) f here next h = absurd h
ends_over e at (j ∷ js) ((m, If t a x) ∷ ps) f here next h = ends_same e js m x (If t a x) ps h.2
ends_over e at [] ((m, IfElse t a b x) ∷ ps) f here next h = absurd h
ends_over e at (j ∷ js) ((m, IfElse t a b x) ∷ ps) f here next h = ends_same e js m x (IfElse t a b x) ps h.2

abbrev pub JumpHere : List Piece → Expr → Jump → Type 0
JumpHere ps e j = (left_at j.behind e ≡ behind_block ps) × (OpensIf (first_op ps) → left_at j.second e ≡ second_part ps)

abbrev pub jump_by : Option Op → List Jump → Option Jump
jump_by None js = None
jump_by (Some op) js = jump_of op js

-- The innermost open end is the jump of the block that begins.
jump_over : (e : Expr) (js : List Jump) (ps : List Piece) (j : Jump) → AreEnds e js (behind_op ps) → jump_by (first_op ps) js ≡ Some j → JumpHere ps e j
jump_over e js [] j h i = cc
jump_over e js ((false, End) ∷ ps) j h i = cc
jump_over e js ((true, End) ∷ ps) j h i = cc
jump_over e js ((m, Plain p x) ∷ ps) j h i = cc
jump_over e [] ((m, Block t b x) ∷ ps) j h i = absurd h
jump_over e (k ∷ js) ((m, Block t b x) ∷ ps) j h i =
    let same : k ≡ j = cc in
    subst (JumpHere ((m, Block t b x) ∷ ps) e) same (h.0, λ o. absurd o)
jump_over e [] ((m, Loop t b x) ∷ ps) j h i = absurd h
jump_over e (k ∷ js) ((m, Loop t b x) ∷ ps) j h i =
    let same : k ≡ j = cc in
    subst (JumpHere ((m, Loop t b x) ∷ ps) e) same (h.0, λ o. absurd o)
jump_over e [] ((m, If t a x) ∷ ps) j h i = absurd h
jump_over e (k ∷ js) ((m, If t a x) ∷ ps) j h i =
    let same : k ≡ j = cc in
    subst (JumpHere ((m, If t a x) ∷ ps) e) same (h.0, λ o. h.1)
jump_over e [] ((m, IfElse t a b x) ∷ ps) j h i = absurd h
jump_over e (k ∷ js) ((m, IfElse t a b x) ∷ ps) j h i =
    let same : k ≡ j = cc in
    subst (JumpHere ((m, IfElse t a b x) ∷ ps) e) same (h.0, λ o. h.1)

-- Where a block begins, an end is open.
jump_there : (e : Expr) (js : List Jump) (ps : List Piece) → AreEnds e js (behind_op ps) → jump_by (first_op ps) js ≡ None → Opens (first_op ps) → ⊥
jump_there e js [] h i o = o
jump_there e js ((false, End) ∷ ps) h i o = o
jump_there e js ((true, End) ∷ ps) h i o = o
jump_there e js ((m, Plain p x) ∷ ps) h i o = o
jump_there e [] ((m, Block t b x) ∷ ps) h i o = h
jump_there e (k ∷ js) ((m, Block t b x) ∷ ps) h i o = cc
jump_there e [] ((m, Loop t b x) ∷ ps) h i o = h
jump_there e (k ∷ js) ((m, Loop t b x) ∷ ps) h i o = cc
jump_there e [] ((m, If t a x) ∷ ps) h i o = h
jump_there e (k ∷ js) ((m, If t a x) ∷ ps) h i o = cc
jump_there e [] ((m, IfElse t a b x) ∷ ps) h i o = h
jump_there e (k ∷ js) ((m, IfElse t a b x) ∷ ps) h i o = cc

-- The table has the jump of each block from a place on.
abbrev pub JumpsFrom : Expr → List Jump → ℕ → Type 0
JumpsFrom e table from =
    (k : ℕ) → from ≤ k → Opens (first_op (left_at k e)) → (j : Jump) × (slice_get table k ≡ Some j) × IsJump e k j

-- The table is right from this place on, and these are the ends that are open there.
pub record IsRight (e : Expr) (at : ℕ) (ends table : List Jump) : Type 0 where
  pub open_ends : AreEnds e ends (left_at at e)
  pub jumps : JumpsFrom e table at
  pub long : length table ≡ length (flat e)
  pub within : at ≤ length (flat e)

no_op : (e : Expr) (k : ℕ) → length (flat e) ≤ k → Opens (first_op (left_at k e)) → ⊥
no_op e k h o = subst Opens (sym (op_there k e) ∙ slice_get_past (flat e) k h) o

begins : (e : Expr) (table : List Jump) → length table ≡ length (flat e) → IsRight e (length (flat e)) [] table
begins e table h =
    record {
      open_ends = subst (AreEnds e []) (sym (left_none e)) tt;
      jumps = λ k i o. absurd (no_op e k i o);
      long = h;
      within = omega arith;
    }

-- At the end of the code none is open.
pub at_end : (e : Expr) (ops : List Op) (ends table : List Jump) → ops ≡ flat e → ends ≡ [] → length table ≡ length ops → IsRight e (length ops) (reverse ends) table
at_end e ops ends table o n h =
    let there : IsRight e (length ops) [] table = subst (λ (at : ℕ). IsRight e at [] table) (sym (ap length o)) (begins e table (h ∙ ap length o)) in
    subst (λ (js : List Jump). IsRight e (length ops) (reverse js) table) (sym n) there

pub op_read : (e : Expr) (ops : List Op) (i : ℕ) (op : Op) → ops ≡ flat e → i < length ops → op ≡ get_or ops i op → slice_get (flat e) i ≡ Some op
op_read e ops i op o h r = ap (λ (ops : List Op). slice_get ops i) (sym o) ∙ slice_get_read ops (length ops) i op refl h r

set_get_same : (xs : List Jump) (i : ℕ) (j : Jump) → i < length xs → slice_get (set xs i j) i ≡ Some j
set_get_same [] i j h = absurd (omega arith)
set_get_same (x ∷ xs) zero j h = refl
set_get_same (x ∷ xs) (suc i) j h = set_get_same xs i j (omega arith)

set_get_behind : (xs : List Jump) (i k : ℕ) (j : Jump) → i < k → slice_get (set xs i j) k ≡ slice_get xs k
set_get_behind [] i k j h = refl
set_get_behind (x ∷ xs) i zero j h = absurd (omega arith)
set_get_behind (x ∷ xs) zero (suc k) j h = refl
set_get_behind (x ∷ xs) (suc i) (suc k) j h = set_get_behind xs i k j (omega arith)

next_left : (e : Expr) (i : ℕ) → left_at (i + 1) e ≡ behind_op (left_at i e)
next_left e i = rw add-one (left_more i ((false, e) ∷ []))

behind_ends : (e : Expr) (n i : ℕ) (ends : List Jump) → n ≡ suc i → AreEnds e ends (left_at n e) → AreEnds e ends (behind_op (left_at i e))
behind_ends e n i ends s h = subst (AreEnds e ends) (ap (λ (n : ℕ). left_at n e) s ∙ left_more i ((false, e) ∷ [])) h

op_first : (e : Expr) (i : ℕ) (op : Op) → slice_get (flat e) i ≡ Some op → first_op (left_at i e) ≡ Some op
op_first e i op h = sym (op_there i e) ∙ h

before_ends : (e : Expr) (n i : ℕ) (op : Op) (ends left : List Jump) → n ≡ suc i → slice_get (flat e) i ≡ Some op → left ≡ ends_before op i ends → AreEnds e ends (left_at n e) → AreEnds e left (left_at i e)
before_ends e n i op ends left s g l h =
    let there = ends_over e i ends (left_at i e) (formed_at i e) refl (next_left e i) (behind_ends e n i ends s h) in
    subst (λ (js : List Jump). AreEnds e js (left_at i e)) (ap (λ (o : Option Op). ends_by o i ends) (op_first e i op g) ∙ sym l) there

-- A jump more, where a block begins.
pub one_jump : (e : Expr) (n i : ℕ) (op : Op) (ends left table : List Jump) (j : Jump) → IsRight e n ends table → n ≡ suc i → slice_get (flat e) i ≡ Some op → Some j ≡ jump_of op ends → left ≡ ends_before op i ends → IsRight e i left (set table i j)
one_jump e n i op ends left table j right s g is l =
    let long = right.long in
    let within = right.within in
    let inside : i < length table = omega arith in
    let found : jump_by (first_op (left_at i e)) ends ≡ Some j = ap (λ (o : Option Op). jump_by o ends) (op_first e i op g) ∙ sym is in
    let here = jump_over e ends (left_at i e) j (behind_ends e n i ends s right.open_ends) found in
    record {
      open_ends = before_ends e n i op ends left s g l right.open_ends;
      jumps = λ k f o.
          elim (eq-or-lt_of_le f) [
            | inl q ↦ subst (λ (k : ℕ). (x : Jump) × (slice_get (set table i j) k ≡ Some x) × IsJump e k x) q (j, set_get_same table i j inside, record { behind = here.0; second = here.1 })
            | inr q ↦
                let old = right.jumps k (omega arith) o in
                (old.0, set_get_behind table i k j q ∙ old.1, old.2)
          ];
      long = length-set table i j ∙ right.long;
      within = omega arith;
    }

-- No jump more, where none begins.
pub no_jump : (e : Expr) (n i : ℕ) (op : Op) (ends left table : List Jump) → IsRight e n ends table → n ≡ suc i → slice_get (flat e) i ≡ Some op → None ≡ jump_of op ends → left ≡ ends_before op i ends → IsRight e i left table
no_jump e n i op ends left table right s g is l =
    let within = right.within in
    let none : jump_by (first_op (left_at i e)) ends ≡ None = ap (λ (o : Option Op). jump_by o ends) (op_first e i op g) ∙ sym is in
    record {
      open_ends = before_ends e n i op ends left s g l right.open_ends;
      jumps = λ k f o.
          elim (eq-or-lt_of_le f) [
            | inl q ↦ absurd (jump_there e ends (left_at i e) (behind_ends e n i ends s right.open_ends) none (subst (λ (k : ℕ). Opens (first_op (left_at k e))) (sym q) o))
            | inr q ↦ right.jumps k (omega arith) o
          ];
      long = right.long;
      within = omega arith;
    }

pub all_jumps : (e : Expr) (ends table : List Jump) (at : ℕ) → at ≤ 0 → IsRight e at ends table → AreJumps e table
all_jumps e ends table at z right k o = right.jumps k (omega arith) o
