-- Expressions that are read by a loop, as flat code.
use Rattle.std.proofs.Common.{◌≡◌, ◌≤◌, ◌+◌, ℕ, zero, suc, List, [], ◌∷◌, ◌++◌, length, reverse, refl, arith, append_assoc, Result, Ok, Err, Some, None, Bool, true, false, cond, nat_eq, ap, ◌∙◌, subst, ◌⊎◌, inl, inr}
use Rattle.std.specs.Prelude.{◌&&◌}
use Rattle.std.proofs.lemmas.Bool.{eq-eqb}
use Rattle.std.proofs.lemmas.Bool.Decides.{eqb_tells}
use Rattle.std.proofs.lemmas.List.{reverse-append}
use Rattle.ca_base.specs.Span.{Span}
use Rattle.ca_base.specs.declared.refusal.Refusal.{Refusal}
use Rattle.faults.specs.declared.memory.MemoryOr.{MemoryOr}
use Rattle.faults.specs.declared.memory.MemoryOr.TheVariants.{Memory, Fault}
use Rattle.ca_base.specs.Grammar.{Grammar, MayRead, read, first_byte, and_then, Give, Choose, ◌>>=◌}
use Rattle.wasm_code_reader.specs.declared.fault.ModuleWhy.{ModuleWhy}
use Rattle.syntax_trees.specs.declared.instr.Op.{Op}
use Rattle.syntax_trees.specs.declared.instr.Op.TheVariants.{Plain as PlainOp, OpenBlock, OpenLoop, OpenIf, Else, End as EndOp}
use Rattle.wasm_code_reader.specs.declared.parts.Part.{Part}
use Rattle.wasm_code_reader.specs.declared.bodies.PlacedBody.{PlacedBody}
use Rattle.wasm_code_reader.specs.declared.parts.Part.TheVariants.{First, Other}
use Rattle.syntax_trees.specs.declared.instr.Instr.{Instr}
use Rattle.syntax_trees.specs.declared.instr.BlockType.{BlockType}
use Rattle.syntax_trees.specs.Expr.{End, Block, Loop, If, IfElse, Piece, before, op_on, tree_of, unflat}
use Rattle.wasm_code_reader.specs.Parts.{Leaves, may_else}
use Rattle.wasm_code_reader.specs.Instrs.{instr, block_type}
use Rattle.wasm_code_reader.specs.Bodies.{expr, body}
use Rattle.ca_base.proofs.Left.{reads_left, byte_left}
use Rattle.wasm_code_reader.proofs.Fuel.{One, Read, make_block, make_both, make_plain, behind_first, unrolls}
use Rattle.wasm_code_reader.proofs.Back.{Back, before-append, back_none, back_plain, back_block, back_loop, back_if, back_else, back_end}

abbrev pub Some_ : Type 0
Some_ = List Piece × List ℕ

abbrev pub Reads : Type 0
Reads = Result (Some_ × Span ModuleWhy) (Refusal ModuleWhy)

-- What is left of these parts, and the places of its operations. Where `else` ends the first part of an `if`, its second part follows.
abbrev pub rests : ℕ → List Part → Grammar ModuleWhy Some_
rests n [] = Give ([], [])
rests n (part ∷ parts) = do
  e ← expr (may_else part) n
  es ← Choose (may_else part && e.0.0) (do
    second ← expr false n
    others ← rests n parts
    Give (second.0 ∷ others.0, second.1 ++ others.1)) (rests n parts)
  Give (e.0 ∷ es.0, e.1 ++ es.1)

abbrev pub Whole : Type 0
Whole = Result (PlacedBody × Span ModuleWhy) (Refusal ModuleWhy)

-- The whole, of the code and the places that were read and the pieces behind them.
abbrev pub built : List Op → List ℕ → Reads → Whole
built code places (Ok x) = Ok (record { body = tree_of (before code x.0.0); ops = places ++ x.0.1 }, x.1)
built code places (Err e) = Err e

-- one operation before pieces, at its place
abbrev pub op_before : Op → ℕ → Reads → Reads
op_before op place (Ok x) = Ok ((op_on op x.0.0, place ∷ x.0.1), x.1)
op_before op place (Err e) = Err e

-- a piece before others
abbrev pub joins : One → Reads → Reads
joins e q = and_then q (λ es v. Ok ((e.0 ∷ es.0, e.1 ++ es.1), v))

-- After so many opcodes this code was read, and these parts are open, the innermost first.
pub record IsReading (n index : ℕ) (parts : List Part) (code : List Op) (places : List ℕ) (start s : Span ModuleWhy) : Type 0 where
  pub whole : read body start ≡ built code places (read (rests n parts) s)
  pub enough : length s.bytes + index ≤ n
  pub back : Back code parts

append_one : (xs : List ℕ) (x : ℕ) (ys : List ℕ) → (xs ++ x ∷ []) ++ ys ≡ xs ++ x ∷ ys
append_one [] x ys = refl
append_one (y ∷ xs) x ys = ap (λ (zs : List ℕ). y ∷ zs) (append_one xs x ys)

one_more : (code : List Op) (places : List ℕ) (op : Op) (place : ℕ) (r : Reads) → built code places (op_before op place r) ≡ built (code ++ op ∷ []) (places ++ place ∷ []) r
one_more code places op place (Ok x) = rw (before-append code (op ∷ []) x.0.0, append_one places place x.0.1) refl
one_more code places op place (Err e) = refl

append_none : (xs : List ℕ) → xs ++ [] ≡ xs
append_none [] = refl
append_none (x ∷ xs) = ap (λ (zs : List ℕ). x ∷ zs) (append_none xs)

differs : (a b : ℕ) → (a ≡ b → ⊥) → nat_eq a b ≡ false
differs a b h = elim (eqb_tells a b) [ inl x ↦ absurd (h x.1) | inr x ↦ x.0 ]

one_left : (r : Read) → and_then r (λ e t. Ok (record { body = e.0.1; ops = e.1 }, t)) ≡ built [] [] (and_then r (λ e t. Ok ((e.0 ∷ [], e.1 ++ []), t)))
one_left (Ok x) = rw append_none refl
one_left (Err e) = refl

pub starts : (n : ℕ) (s : Span ModuleWhy) → n ≡ length s.bytes → IsReading n 0 (Other ∷ []) [] [] s s
unfolding body
starts n s h = record { whole = rw h (one_left (read (expr false (length s.bytes)) s)); enough = omega arith; back = back_none }

-- a piece before others, which are read by whether it ends in `else`
abbrev before_others : (Bool → Span ModuleWhy → Reads) → One → Span ModuleWhy → Reads
before_others f e t = joins e (f e.0.0 t)

plain_in : (place : ℕ) (i : Instr) (e : One) (q : Reads) → joins (make_plain place i e) q ≡ op_before (PlainOp i) place (joins e q)
plain_in place i e (Ok y) = refl
plain_in place i e (Err d) = refl

plain_first : (place : ℕ) (i : Instr) (r : Read) (f : Bool → Span ModuleWhy → Reads) → and_then (and_then r (λ e v. Ok (make_plain place i e, v))) (before_others f) ≡ op_before (PlainOp i) place (and_then r (before_others f))
plain_first place i (Ok x) f = plain_in place i x.0 (f x.0.0.0 x.1)
plain_first place i (Err d) f = refl

block_in : (place : ℕ) (ty : BlockType) (b e : One) (q : Reads) → joins (make_block Block place ty b e) q ≡ op_before (OpenBlock ty) place (joins b (joins e q))
block_in place ty b e (Ok y) = rw append_assoc refl
block_in place ty b e (Err d) = refl

block_rest : (place : ℕ) (ty : BlockType) (b : One) (r : Read) (f : Bool → Span ModuleWhy → Reads) → and_then (and_then r (λ e v. Ok (make_block Block place ty b e, v))) (before_others f) ≡ op_before (OpenBlock ty) place (joins b (and_then r (before_others f)))
block_rest place ty b (Ok x) f = block_in place ty b x.0 (f x.0.0.0 x.1)
block_rest place ty b (Err d) f = refl

block_first : (place : ℕ) (ty : BlockType) (r : Read) (g : Span ModuleWhy → Read) (f : Bool → Span ModuleWhy → Reads) → and_then (and_then r (λ b t. and_then (g t) (λ e v. Ok (make_block Block place ty b e, v)))) (before_others f) ≡ op_before (OpenBlock ty) place (and_then r (λ b t. joins b (and_then (g t) (before_others f))))
block_first place ty (Ok x) g f = block_rest place ty x.0 (g x.1) f
block_first place ty (Err d) g f = refl

loop_in : (place : ℕ) (ty : BlockType) (b e : One) (q : Reads) → joins (make_block Loop place ty b e) q ≡ op_before (OpenLoop ty) place (joins b (joins e q))
loop_in place ty b e (Ok y) = rw append_assoc refl
loop_in place ty b e (Err d) = refl

loop_rest : (place : ℕ) (ty : BlockType) (b : One) (r : Read) (f : Bool → Span ModuleWhy → Reads) → and_then (and_then r (λ e v. Ok (make_block Loop place ty b e, v))) (before_others f) ≡ op_before (OpenLoop ty) place (joins b (and_then r (before_others f)))
loop_rest place ty b (Ok x) f = loop_in place ty b x.0 (f x.0.0.0 x.1)
loop_rest place ty b (Err d) f = refl

loop_first : (place : ℕ) (ty : BlockType) (r : Read) (g : Span ModuleWhy → Read) (f : Bool → Span ModuleWhy → Reads) → and_then (and_then r (λ b t. and_then (g t) (λ e v. Ok (make_block Loop place ty b e, v)))) (before_others f) ≡ op_before (OpenLoop ty) place (and_then r (λ b t. joins b (and_then (g t) (before_others f))))
loop_first place ty (Ok x) g f = loop_rest place ty x.0 (g x.1) f
loop_first place ty (Err d) g f = refl

both_places : (xs ys zs ws : List ℕ) → (xs ++ ys ++ zs) ++ ws ≡ xs ++ (ys ++ (zs ++ ws))
both_places xs ys zs ws = simp append_assoc

-- an `if` whose first part has an `else`
if_in : (place : ℕ) (ty : BlockType) (a b e : One) (q : Reads) → a.0.0 ≡ true → joins (make_both place ty a b e) q ≡ op_before (OpenIf ty) place (joins a (joins b (joins e q)))
if_in place ty a b e (Ok y) h =
    rw h (ap (λ (xs : List ℕ). (let r : Reads = Ok (((e.0.0, IfElse ty a.0.1 b.0.1 e.0.1) ∷ y.0.0, place ∷ xs), y.1) in r)) (both_places a.1 b.1 e.1 y.0.1))
if_in place ty a b e (Err d) h = refl

if_rest : (place : ℕ) (ty : BlockType) (a b : One) (r : Read) (f : Bool → Span ModuleWhy → Reads) → a.0.0 ≡ true → and_then (and_then r (λ e v. Ok (make_both place ty a b e, v))) (before_others f) ≡ op_before (OpenIf ty) place (joins a (joins b (and_then r (before_others f))))
if_rest place ty a b (Ok x) f h = if_in place ty a b x.0 (f x.0.0.0 x.1) h
if_rest place ty a b (Err d) f h = refl

abbrev then_others : (Span ModuleWhy → Reads) → One → Span ModuleWhy → Reads
then_others k b t = and_then (k t) (λ es v. Ok ((b.0 ∷ es.0, b.1 ++ es.1), v))

if_second : (place : ℕ) (ty : BlockType) (a : One) (q : Read) (k : Span ModuleWhy → Read) (f : Bool → Span ModuleWhy → Reads) → a.0.0 ≡ true → and_then (and_then q (λ b v. and_then (k v) (λ e w. Ok (make_both place ty a b e, w)))) (before_others f) ≡ op_before (OpenIf ty) place (joins a (and_then q (then_others (λ v. and_then (k v) (before_others f)))))
if_second place ty a (Ok x) k f h = if_rest place ty a x.0 (k x.1) f h
if_second place ty a (Err d) k f h = refl

-- one without
short_in : (place : ℕ) (ty : BlockType) (a e : One) (q : Reads) → a.0.0 ≡ false → joins (make_block If place ty a e) q ≡ op_before (OpenIf ty) place (joins a (joins e q))
short_in place ty a e (Ok y) h = rw (h, append_assoc a.1 e.1 y.0.1) refl
short_in place ty a e (Err d) h = refl

short_rest : (place : ℕ) (ty : BlockType) (a : One) (r : Read) (f : Bool → Span ModuleWhy → Reads) → a.0.0 ≡ false → and_then (and_then r (λ e v. Ok (make_block If place ty a e, v))) (before_others f) ≡ op_before (OpenIf ty) place (joins a (and_then r (before_others f)))
short_rest place ty a (Ok x) f h = short_in place ty a x.0 (f x.0.0.0 x.1) h
short_rest place ty a (Err d) f h = refl

-- either
abbrev both_or_short : ℕ → BlockType → One → (Span ModuleWhy → Read) → (Span ModuleWhy → Read) → Bool → Span ModuleWhy → Read
both_or_short place ty a g k c t = cond c (and_then (g t) (λ b v. and_then (k v) (λ e w. Ok (make_both place ty a b e, w)))) (and_then (k t) (λ e w. Ok (make_block If place ty a e, w)))

if_either : (place : ℕ) (ty : BlockType) (a : One) (t : Span ModuleWhy) (c : Bool) (g k : Span ModuleWhy → Read) (f : Bool → Span ModuleWhy → Reads) → a.0.0 ≡ c → and_then (both_or_short place ty a g k c t) (before_others f) ≡ op_before (OpenIf ty) place (joins a (cond c (and_then (g t) (then_others (λ v. and_then (k v) (before_others f)))) (and_then (k t) (before_others f))))
if_either place ty a t true g k f h = if_second place ty a (g t) k f h
if_either place ty a t false g k f h = short_rest place ty a (k t) f h

if_first : (place : ℕ) (ty : BlockType) (r : Read) (g k : Span ModuleWhy → Read) (f : Bool → Span ModuleWhy → Reads) → and_then (and_then r (λ a t. both_or_short place ty a g k a.0.0 t)) (before_others f) ≡ op_before (OpenIf ty) place (and_then r (λ a t. joins a (cond a.0.0 (and_then (g t) (then_others (λ v. and_then (k v) (before_others f)))) (and_then (k t) (before_others f)))))
if_first place ty (Ok x) g k f = if_either place ty x.0 x.1 x.0.0.0 g k f refl
if_first place ty (Err d) g k f = refl

end_first : (place : ℕ) (q : Reads) → joins ((false, End), place ∷ []) q ≡ op_before EndOp place q
end_first place (Ok y) = refl
end_first place (Err d) = refl

else_first : (place : ℕ) (q : Reads) → joins ((true, End), place ∷ []) q ≡ op_before Else place q
else_first place (Ok y) = refl
else_first place (Err d) = refl

-- how the others are read
abbrev others : ℕ → Part → List Part → Bool → Span ModuleWhy → Reads
others n part parts b t =
    cond (may_else part && b) (and_then (read (expr false n) t) (λ second v. and_then (read (rests n parts) v) (λ es w. Ok ((second.0 ∷ es.0, second.1 ++ es.1), w)))) (read (rests n parts) t)

-- what is left, by the next opcode
rests_plain : (n opcode : ℕ) (i : Instr) (part : Part) (parts : List Part) (s u t : Span ModuleWhy) → length s.bytes ≤ n → first_byte s s.bytes ≡ Ok (opcode, u) → nat_eq opcode 11 ≡ false → (may_else part && nat_eq opcode 5) ≡ false → nat_eq opcode 2 ≡ false → nat_eq opcode 3 ≡ false → nat_eq opcode 4 ≡ false → read (instr s.at opcode) u ≡ Ok (i, t) → read (rests n (part ∷ parts)) s ≡ op_before (PlainOp i) s.at (read (rests n (part ∷ parts)) t)
rests_plain n opcode i part parts s u t h b no1 no2 no3 no4 no5 r =
    let m : Bool = may_else part in
    let one : read (expr m n) s ≡ and_then (read (expr m n) t) (λ e v. Ok (make_plain s.at i e, v)) = unrolls m n opcode s u h b ∙ rw (no1, no2, no3, no4, no5, r) refl in
    rw one (plain_first s.at i (read (expr m n) t) (others n part parts))

rests_block : (n : ℕ) (ty : BlockType) (opcode : ℕ) (part : Part) (parts : List Part) (s u t : Span ModuleWhy) → length s.bytes ≤ n → first_byte s s.bytes ≡ Ok (opcode, u) → nat_eq opcode 11 ≡ false → (may_else part && nat_eq opcode 5) ≡ false → nat_eq opcode 2 ≡ true → read block_type u ≡ Ok (ty, t) → read (rests n (part ∷ parts)) s ≡ op_before (OpenBlock ty) s.at (read (rests n (Other ∷ part ∷ parts)) t)
rests_block n ty opcode part parts s u t h b no1 no2 so r =
    let m : Bool = may_else part in
    let one : read (expr m n) s ≡ and_then (read (expr false n) t) (λ b w. and_then (read (expr m n) w) (λ e x. Ok (make_block Block s.at ty b e, x))) = unrolls m n opcode s u h b ∙ rw (no1, no2, so, r) refl in
    rw one (block_first s.at ty (read (expr false n) t) (read (expr m n)) (others n part parts))

rests_loop : (n : ℕ) (ty : BlockType) (opcode : ℕ) (part : Part) (parts : List Part) (s u t : Span ModuleWhy) → length s.bytes ≤ n → first_byte s s.bytes ≡ Ok (opcode, u) → nat_eq opcode 11 ≡ false → (may_else part && nat_eq opcode 5) ≡ false → nat_eq opcode 2 ≡ false → nat_eq opcode 3 ≡ true → read block_type u ≡ Ok (ty, t) → read (rests n (part ∷ parts)) s ≡ op_before (OpenLoop ty) s.at (read (rests n (Other ∷ part ∷ parts)) t)
rests_loop n ty opcode part parts s u t h b no1 no2 no3 so r =
    let m : Bool = may_else part in
    let one : read (expr m n) s ≡ and_then (read (expr false n) t) (λ b w. and_then (read (expr m n) w) (λ e x. Ok (make_block Loop s.at ty b e, x))) = unrolls m n opcode s u h b ∙ rw (no1, no2, no3, so, r) refl in
    rw one (loop_first s.at ty (read (expr false n) t) (read (expr m n)) (others n part parts))

rests_if : (n : ℕ) (ty : BlockType) (opcode : ℕ) (part : Part) (parts : List Part) (s u t : Span ModuleWhy) → length s.bytes ≤ n → first_byte s s.bytes ≡ Ok (opcode, u) → nat_eq opcode 11 ≡ false → (may_else part && nat_eq opcode 5) ≡ false → nat_eq opcode 2 ≡ false → nat_eq opcode 3 ≡ false → nat_eq opcode 4 ≡ true → read block_type u ≡ Ok (ty, t) → read (rests n (part ∷ parts)) s ≡ op_before (OpenIf ty) s.at (read (rests n (First ∷ part ∷ parts)) t)
rests_if n ty opcode part parts s u t h b no1 no2 no3 no4 so r =
    let m : Bool = may_else part in
    let one : read (expr m n) s ≡ and_then (read (expr true n) t) (λ a w. behind_first m n s.at ty a w) = unrolls m n opcode s u h b ∙ rw (no1, no2, no3, no4, so, r) refl in
    rw one (if_first s.at ty (read (expr true n) t) (read (expr false n)) (read (expr m n)) (others n part parts))

no_other : (n : ℕ) (part : Part) (parts : List Part) (u : Span ModuleWhy) → others n part parts false u ≡ read (rests n parts) u
no_other n First parts u = refl
no_other n Other parts u = refl

rests_end : (n opcode : ℕ) (part : Part) (parts : List Part) (s u : Span ModuleWhy) → length s.bytes ≤ n → first_byte s s.bytes ≡ Ok (opcode, u) → nat_eq opcode 11 ≡ true → read (rests n (part ∷ parts)) s ≡ op_before EndOp s.at (read (rests n parts) u)
rests_end n opcode part parts s u h b end =
    let one : read (expr (may_else part) n) s ≡ Ok (((false, End), s.at ∷ []), u) = unrolls (may_else part) n opcode s u h b ∙ rw end refl in
    rw one (end_first s.at (others n part parts false u) ∙ ap (op_before EndOp s.at) (no_other n part parts u))

rests_else : (n opcode : ℕ) (parts : List Part) (s u : Span ModuleWhy) → length s.bytes ≤ n → first_byte s s.bytes ≡ Ok (opcode, u) → nat_eq opcode 11 ≡ false → nat_eq opcode 5 ≡ true → read (rests n (First ∷ parts)) s ≡ op_before Else s.at (read (rests n (Other ∷ parts)) u)
rests_else n opcode parts s u h b nay so =
    let one : read (expr true n) s ≡ Ok (((true, End), s.at ∷ []), u) = unrolls true n opcode s u h b ∙ rw (nay, so) refl in
    rw one (else_first s.at (read (rests n (Other ∷ parts)) u))

-- an opcode that neither ends a part nor parts an `if`
pub record IsOther (part : Part) (opcode : ℕ) : Type 0 where
  pub end : opcode ≡ 11 → ⊥
  pub middle : (may_else part && nat_eq opcode 5) ≡ false

pub goes : (n index opcode : ℕ) (i : Instr) (place : ℕ) (part : Part) (parts : List Part) (code : List Op) (places : List ℕ) (start s u t : Span ModuleWhy) → IsReading n index (part ∷ parts) code places start s → place ≡ s.at → first_byte s s.bytes ≡ Ok (opcode, u) → IsOther part opcode → (opcode ≡ 2 → ⊥) → (opcode ≡ 3 → ⊥) → (opcode ≡ 4 → ⊥) → read (instr place opcode) u ≡ Ok (i, t) → IsReading n (index + 1) (part ∷ parts) (code ++ PlainOp i ∷ []) (places ++ s.at ∷ []) start t
goes n index opcode i place part parts code places start s u t is there b o block loop cond r' =
    let r : read (instr s.at opcode) u ≡ Ok (i, t) = rw there at r' in
    let less = byte_left s opcode u b in
    let left = reads_left (instr s.at opcode) u i t r in
    let enough = is.enough in
    let within : length s.bytes ≤ n = omega arith in
    record {
      whole =
          is.whole
          ∙ ap (built code places) (rests_plain n opcode i part parts s u t within b (differs opcode 11 o.end) o.middle (differs opcode 2 block) (differs opcode 3 loop) (differs opcode 4 cond) r)
          ∙ one_more code places (PlainOp i) s.at (read (rests n (part ∷ parts)) t);
      enough = omega arith;
      back = back_plain code i part parts is.back;
    }

-- a block, a loop or an `if` begins
began : (n index opcode : ℕ) (ty : BlockType) (op : Op) (inner part : Part) (parts : List Part) (code : List Op) (places : List ℕ) (start s u t : Span ModuleWhy) → IsReading n index (part ∷ parts) code places start s → first_byte s s.bytes ≡ Ok (opcode, u) → read block_type u ≡ Ok (ty, t) → (length s.bytes ≤ n → read (rests n (part ∷ parts)) s ≡ op_before op s.at (read (rests n (inner ∷ part ∷ parts)) t)) → (Back code (part ∷ parts) → Back (code ++ op ∷ []) (inner ∷ part ∷ parts)) → IsReading n (index + 1) (inner ∷ part ∷ parts) (code ++ op ∷ []) (places ++ s.at ∷ []) start t
began n index opcode ty op inner part parts code places start s u t is b r one back =
    let less = byte_left s opcode u b in
    let left = reads_left block_type u ty t r in
    let enough = is.enough in
    let within : length s.bytes ≤ n = omega arith in
    record { whole = is.whole ∙ ap (built code places) (one within) ∙ one_more code places op s.at (read (rests n (inner ∷ part ∷ parts)) t); enough = omega arith; back = back is.back }

pub begins_block : (n index opcode : ℕ) (ty : BlockType) (part : Part) (parts : List Part) (code : List Op) (places : List ℕ) (start s u t : Span ModuleWhy) → IsReading n index (part ∷ parts) code places start s → first_byte s s.bytes ≡ Ok (opcode, u) → IsOther part opcode → opcode ≡ 2 → read block_type u ≡ Ok (ty, t) → IsReading n (index + 1) (Other ∷ part ∷ parts) (code ++ OpenBlock ty ∷ []) (places ++ s.at ∷ []) start t
begins_block n index opcode ty part parts code places start s u t is b o so r =
    began n index opcode ty (OpenBlock ty) Other part parts code places start s u t is b r
    (λ h. rests_block n ty opcode part parts s u t h b (differs opcode 11 o.end) o.middle (eq-eqb opcode 2 so) r)
    (back_block code ty part parts)

pub begins_loop : (n index opcode : ℕ) (ty : BlockType) (part : Part) (parts : List Part) (code : List Op) (places : List ℕ) (start s u t : Span ModuleWhy) → IsReading n index (part ∷ parts) code places start s → first_byte s s.bytes ≡ Ok (opcode, u) → IsOther part opcode → (opcode ≡ 2 → ⊥) → opcode ≡ 3 → read block_type u ≡ Ok (ty, t) → IsReading n (index + 1) (Other ∷ part ∷ parts) (code ++ OpenLoop ty ∷ []) (places ++ s.at ∷ []) start t
begins_loop n index opcode ty part parts code places start s u t is b o nay so r =
    began n index opcode ty (OpenLoop ty) Other part parts code places start s u t is b r
    (λ h. rests_loop n ty opcode part parts s u t h b (differs opcode 11 o.end) o.middle (differs opcode 2 nay) (eq-eqb opcode 3 so) r)
    (back_loop code ty part parts)

pub begins_if : (n index opcode : ℕ) (ty : BlockType) (part : Part) (parts : List Part) (code : List Op) (places : List ℕ) (start s u t : Span ModuleWhy) → IsReading n index (part ∷ parts) code places start s → first_byte s s.bytes ≡ Ok (opcode, u) → IsOther part opcode → (opcode ≡ 2 → ⊥) → (opcode ≡ 3 → ⊥) → opcode ≡ 4 → read block_type u ≡ Ok (ty, t) → IsReading n (index + 1) (First ∷ part ∷ parts) (code ++ OpenIf ty ∷ []) (places ++ s.at ∷ []) start t
begins_if n index opcode ty part parts code places start s u t is b o nay no2 so r =
    began n index opcode ty (OpenIf ty) First part parts code places start s u t is b r
    (λ h. rests_if n ty opcode part parts s u t h b (differs opcode 11 o.end) o.middle (differs opcode 2 nay) (differs opcode 3 no2) (eq-eqb opcode 4 so) r)
    (back_if code ty part parts)

-- an `else`
pub goes_else : (n index opcode : ℕ) (part : Part) (parts : List Part) (code : List Op) (places : List ℕ) (start s u : Span ModuleWhy) → IsReading n index (part ∷ parts) code places start s → first_byte s s.bytes ≡ Ok (opcode, u) → (opcode ≡ 11 → ⊥) → (may_else part && nat_eq opcode 5) ≡ true → IsReading n (index + 1) (Other ∷ parts) (code ++ Else ∷ []) (places ++ s.at ∷ []) start u
goes_else n index opcode Other parts code places start s u is b nay so = cc
goes_else n index opcode First parts code places start s u is b nay so =
    let less = byte_left s opcode u b in
    let enough = is.enough in
    let within : length s.bytes ≤ n = omega arith in
    record {
      whole = is.whole ∙ ap (built code places) (rests_else n opcode parts s u within b (differs opcode 11 nay) so) ∙ one_more code places Else s.at (read (rests n (Other ∷ parts)) u);
      enough = omega arith;
      back = back_else code parts is.back;
    }

-- a part ends, and the part around goes on
pub ends_part : (n index opcode : ℕ) (part : Part) (parts : List Part) (code : List Op) (places : List ℕ) (start s u : Span ModuleWhy) → IsReading n index (part ∷ parts) code places start s → first_byte s s.bytes ≡ Ok (opcode, u) → opcode ≡ 11 → IsReading n (index + 1) parts (code ++ EndOp ∷ []) (places ++ s.at ∷ []) start u
ends_part n index opcode part parts code places start s u is b end =
    let less = byte_left s opcode u b in
    let enough = is.enough in
    let within : length s.bytes ≤ n = omega arith in
    record { whole = is.whole ∙ ap (built code places) (rests_end n opcode part parts s u within b (eq-eqb opcode 11 end)) ∙ one_more code places EndOp s.at (read (rests n parts) u); enough = omega arith; back = back_end code part parts is.back }

pub left_with : (outer : Part) (parts left : List Part) → Leaves parts (Some outer) left → parts ≡ outer ∷ left
left_with outer [] left h = cc
left_with outer (part ∷ parts) left h = cc

pub left_none : (parts left : List Part) → Leaves parts None left → parts ≡ []
left_none [] left h = refl
left_none (part ∷ parts) left h = cc

-- no part is left
pub ends_all : (n index : ℕ) (parts : List Part) (code : List Op) (places : List ℕ) (start s : Span ModuleWhy) → IsReading n index parts code places start s → parts ≡ [] → read body start ≡ Ok (record { body = unflat code; ops = places }, s)
ends_all n index [] code places start s is h = is.whole ∙ rw append_none refl
ends_all n index (part ∷ parts) code places start s is h = cc

-- what is refused
pub refused : (n index : ℕ) (part : Part) (parts : List Part) (code : List Op) (places : List ℕ) (start s : Span ModuleWhy) (e : Refusal ModuleWhy) → IsReading n index (part ∷ parts) code places start s → read (expr (may_else part) n) s ≡ Err e → read body start ≡ Err e
refused n index part parts code places start s e is r = is.whole ∙ rw r refl

pub refused_instr : (n index opcode place : ℕ) (part : Part) (parts : List Part) (code : List Op) (places : List ℕ) (start s u : Span ModuleWhy) (e : Refusal ModuleWhy) → IsReading n index (part ∷ parts) code places start s → place ≡ s.at → first_byte s s.bytes ≡ Ok (opcode, u) → IsOther part opcode → (opcode ≡ 2 → ⊥) → (opcode ≡ 3 → ⊥) → (opcode ≡ 4 → ⊥) → read (instr place opcode) u ≡ Err e → read body start ≡ Err e
refused_instr n index opcode place part parts code places start s u e is there b o block loop cond r' =
    let r : read (instr s.at opcode) u ≡ Err e = rw there at r' in
    let enough = is.enough in
    let within : length s.bytes ≤ n = omega arith in
    refused n index part parts code places start s e is (unrolls (may_else part) n opcode s u within b ∙ rw (differs opcode 11 o.end, o.middle, differs opcode 2 block, differs opcode 3 loop, differs opcode 4 cond, r) refl)

pub refused_instr_may : (n index opcode place : ℕ) (part : Part) (parts : List Part) (code : List Op) (places : List ℕ) (start s u t w : Span ModuleWhy) (e : MemoryOr (Refusal ModuleWhy)) → IsReading n index (part ∷ parts) code places start s → place ≡ s.at → first_byte s s.bytes ≡ Ok (opcode, u) → IsOther part opcode → (opcode ≡ 2 → ⊥) → (opcode ≡ 3 → ⊥) → (opcode ≡ 4 → ⊥) → MayRead {X = Instr} (λ i. i) (instr place opcode) u t (Err e) → MayRead {X = PlacedBody} (λ i. i) body start w (Err e)
refused_instr_may n index opcode place part parts code places start s u t w Memory is there b o block loop cond r = tt
refused_instr_may n index opcode place part parts code places start s u t w (Fault e) is there b o block loop cond r = refused_instr n index opcode place part parts code places start s u e is there b o block loop cond r

pub refused_type : (n index opcode : ℕ) (part : Part) (parts : List Part) (code : List Op) (places : List ℕ) (start s u : Span ModuleWhy) (e : Refusal ModuleWhy) → IsReading n index (part ∷ parts) code places start s → first_byte s s.bytes ≡ Ok (opcode, u) → IsOther part opcode → ((opcode ≡ 2) ⊎ (opcode ≡ 3) ⊎ (opcode ≡ 4)) → read block_type u ≡ Err e → read body start ≡ Err e
refused_type n index opcode part parts code places start s u e is b o which r =
    let enough = is.enough in
    let within : length s.bytes ≤ n = omega arith in
    refused n index part parts code places start s e is (unrolls (may_else part) n opcode s u within b ∙ elim which [
      | inl so ↦ rw so (rw (subst (λ (n : ℕ). (may_else part && nat_eq n 5) ≡ false) so o.middle, r) refl)
      | inr more ↦ elim more [
        | inl so ↦ rw so (rw (subst (λ (n : ℕ). (may_else part && nat_eq n 5) ≡ false) so o.middle, r) refl)
        | inr so ↦ rw so (rw (subst (λ (n : ℕ). (may_else part && nat_eq n 5) ≡ false) so o.middle, r) refl)
      ]
    ])

-- there is no byte
no_byte : (m : Bool) (n : ℕ) (s : Span ModuleWhy) (e : Refusal ModuleWhy) → first_byte s s.bytes ≡ Err e → read (expr m n) s ≡ Err e
unfolding expr
no_byte m zero s e b = rw b refl
no_byte m (suc n) s e b = rw b refl

pub short : (n index : ℕ) (part : Part) (parts : List Part) (code : List Op) (places : List ℕ) (start s : Span ModuleWhy) (e : Refusal ModuleWhy) → IsReading n index (part ∷ parts) code places start s → first_byte s s.bytes ≡ Err e → read body start ≡ Err e
short n index part parts code places start s e is b = refused n index part parts code places start s e is (no_byte (may_else part) n s e b)

-- With so many opcodes no byte is left.
pub none_left : (n index opcode : ℕ) (parts : List Part) (code : List Op) (places : List ℕ) (start s u : Span ModuleWhy) → IsReading n index parts code places start s → first_byte s s.bytes ≡ Ok (opcode, u) → n ≤ index → ⊥
none_left n index opcode parts code places start s u is b h =
    let enough = is.enough in
    let less = byte_left s opcode u b in
    omega arith

pub reverse_push : (parts : List Part) (part : Part) → reverse (parts ++ part ∷ []) ≡ part ∷ reverse parts
reverse_push parts part = reverse-append parts (part ∷ [])
