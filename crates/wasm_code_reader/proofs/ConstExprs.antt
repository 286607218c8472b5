-- Constant instructions that are read one after the other, behind those that are read already.
use Rattle.std.proofs.Common.{◌≡◌, ◌<◌, ℕ, zero, suc, List, [], ◌∷◌, ◌++◌, refl, arith, append-nil, append_assoc, true, false, nat_eq, Result, Ok, Err}
use Rattle.std.proofs.Common.{inl, inr}
use Rattle.std.proofs.lemmas.Bool.{eq-eqb}
use Rattle.std.proofs.lemmas.Bool.Decides.{eqb_tells}
use Rattle.ca_base.specs.Span.{Span}
use Rattle.ca_base.specs.declared.refusal.Refusal.{Refusal}
use Rattle.ca_base.specs.Grammar.{read, first_byte, and_then}
use Rattle.syntax_trees.specs.declared.instr.ConstInstr.{ConstInstr}
use Rattle.wasm_code_reader.specs.declared.fault.ModuleWhy.{ModuleWhy}
use Rattle.wasm_code_reader.specs.declared.fault.ModuleWhy.TheVariants.{Unsupported}
use Rattle.wasm_code_reader.specs.declared.consts.PlacedConst.{PlacedConst}
use Rattle.wasm_code_reader.specs.Consts.{consts, const_instr}

-- the instructions before a reading's own
abbrev pub preceded : List ConstInstr → List ℕ → Result (PlacedConst × Span ModuleWhy) (Refusal ModuleWhy) → Result (PlacedConst × Span ModuleWhy) (Refusal ModuleWhy)
preceded instrs places (Ok x) = Ok (record { instrs = instrs ++ x.0.instrs; places = places ++ x.0.places }, x.1)
preceded instrs places (Err e) = Err e

one_more : (instrs : List ConstInstr) (places : List ℕ) (i : ConstInstr) (place : ℕ) (r : Result (PlacedConst × Span ModuleWhy) (Refusal ModuleWhy)) → preceded instrs places (and_then r (λ b u. Ok (record { instrs = i ∷ b.instrs; places = place ∷ b.places }, u))) ≡ preceded (instrs ++ i ∷ []) (places ++ place ∷ []) r
one_more instrs places i place (Ok x) = rw (append_assoc instrs (i ∷ []) x.0.instrs, append_assoc places (place ∷ []) x.0.places) refl
one_more instrs places i place (Err e) = refl

-- nothing stands before a reading
pub none_before : (r : Result (PlacedConst × Span ModuleWhy) (Refusal ModuleWhy)) → r ≡ preceded [] [] r
none_before (Ok x) = refl
none_before (Err e) = refl

differs : (opcode : ℕ) → (opcode ≡ 11 → ⊥) → nat_eq opcode 11 ≡ false
differs opcode h = elim (eqb_tells opcode 11) [ inl a ↦ absurd (h a.1) | inr a ↦ a.0 ]

-- an instruction is read
pub consts_go : (instrs : List ConstInstr) (places : List ℕ) (i : ConstInstr) (n k opcode : ℕ) (s u t : Span ModuleWhy) → n ≡ suc k → first_byte s s.bytes ≡ Ok (opcode, u) → (opcode ≡ 11 → ⊥) → read (const_instr s.at opcode) u ≡ Ok (i, t) → preceded instrs places (read (consts n) s) ≡ preceded (instrs ++ i ∷ []) (places ++ s.at ∷ []) (read (consts k) t)
unfolding consts
consts_go instrs places i zero k opcode s u t h b test r = cc
consts_go instrs places i (suc m) k opcode s u t h b test r =
    let e : m ≡ k = cc in
    let no : nat_eq opcode 11 ≡ false = differs opcode test in
    rw (b, no, r, e) (one_more instrs places i s.at (read (consts k) t))

-- the end is read
pub consts_end : (instrs : List ConstInstr) (places : List ℕ) (n opcode : ℕ) (s u : Span ModuleWhy) → 0 < n → first_byte s s.bytes ≡ Ok (opcode, u) → opcode ≡ 11 → preceded instrs places (read (consts n) s) ≡ Ok (record { instrs = instrs; places = places ++ s.at ∷ [] }, u)
unfolding consts
consts_end instrs places zero opcode s u h b test = absurd (omega arith)
consts_end instrs places (suc m) opcode s u h b test = let yes : nat_eq opcode 11 ≡ true = eq-eqb opcode 11 test in rw (b, yes, append-nil instrs) refl

-- an instruction is refused
pub consts_refused : (instrs : List ConstInstr) (places : List ℕ) (n opcode : ℕ) (s u : Span ModuleWhy) (e : Refusal ModuleWhy) → 0 < n → first_byte s s.bytes ≡ Ok (opcode, u) → (opcode ≡ 11 → ⊥) → read (const_instr s.at opcode) u ≡ Err e → preceded instrs places (read (consts n) s) ≡ Err e
unfolding consts
consts_refused instrs places zero opcode s u e h b test r = absurd (omega arith)
consts_refused instrs places (suc m) opcode s u e h b test r = let no : nat_eq opcode 11 ≡ false = differs opcode test in rw (b, no, r) (refl {a = Err e})

-- there is no byte
pub consts_short : (instrs : List ConstInstr) (places : List ℕ) (n : ℕ) (s : Span ModuleWhy) (e : Refusal ModuleWhy) → first_byte s s.bytes ≡ Err e → preceded instrs places (read (consts n) s) ≡ Err e
unfolding consts
consts_short instrs places zero s e b = rw b refl
consts_short instrs places (suc m) s e b = rw b refl

-- no byte may be left
pub consts_long : (instrs : List ConstInstr) (places : List ℕ) (n opcode : ℕ) (s u : Span ModuleWhy) → n ≡ 0 → first_byte s s.bytes ≡ Ok (opcode, u) → preceded instrs places (read (consts n) s) ≡ Err (record { place = s.at; why = Unsupported opcode })
unfolding consts
consts_long instrs places zero opcode s u h b = rw b refl
consts_long instrs places (suc m) opcode s u h b = cc
