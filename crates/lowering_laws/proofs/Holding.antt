-- Stacks behind a move are at no function of the host that runs alone, and moves without cost end.
use Rattle.std.proofs.Common.{◌≡◌, ◌≢◌, ℕ, zero, suc, ◌+◌, true, false, nat_le, List, [], ◌∷◌, length, refl, ap, sym, ◌∙◌, subst, arith, Option, Some, None}
use Rattle.std.specs.List.{slice_get}
use Rattle.syntax_trees.specs.declared.module_types.FuncType.{FuncType}
use Rattle.syntax_trees.specs.declared.instr.BlockType.{BlockType}
use Rattle.syntax_trees.specs.declared.instr.Instr.{Instr}
use Rattle.syntax_trees.specs.declared.instr.Instr.TheVariants as instr
use Rattle.syntax_trees.specs.Expr.{Expr, End, Plain, Block, Loop, If, IfElse}
use Rattle.wasm_store.specs.Store.{Function, Own, Host, type_of, Table, Instance, Store, found_at, func_at, table_at}
use Rattle.wasm_store.specs.Stack.{Label, Frame, Stack, Running, AtHost, Given}
use Rattle.wasm_store.specs.Effects.{Effect, Leaves, Fails, NoRule, effect}
use Rattle.wasm_store.specs.Step.{Move, Goes, Calls, Ends, Traps, Stuck, ended, branched_to, branched_if, branched_by, table_label, frame_limit, invoked, called, same_signature, called_as, called_entry, called_through, by_effect, moved, chosen, move_at, move_in, next, resume, Moves}
use Rattle.wasm_store.proofs.Lists.{if_both}
use Rattle.wasm_store.proofs.Settling.{free_moves_end}

-- a stack that is at no call of a function of the host without a frame
abbrev pub IsHeld : Stack → Type 0
IsHeld (Running f fs) = Unit {0}
IsHeld (AtHost address words) = ⊥
IsHeld (Given words) = Unit {0}

abbrev pub MoveHolds : Move → Type 0
MoveHolds (Goes costs t l) = IsHeld l
MoveHolds (Calls address words l) = IsHeld l
MoveHolds (Ends words) = Unit {0}
MoveHolds (Traps why) = Unit {0}
MoveHolds Stuck = Unit {0}

effect_holds : (e : Effect) (f : Frame) (fs : List Frame) → MoveHolds (by_effect e f fs)
effect_holds (Leaves t ls vs) f fs = tt
effect_holds (Fails why) f fs = tt
effect_holds NoRule f fs = tt

branch_holds : (o : Option Label) (depth : ℕ) (vs : List ℕ) (s : Store) (f : Frame) (fs : List Frame) → MoveHolds (branched_to o depth vs s f fs)
branch_holds None depth vs s f fs = tt
branch_holds (Some l) depth vs s f fs = tt

if_holds : (depth : ℕ) (vs : List ℕ) (s : Store) (f : Frame) (fs : List Frame) → MoveHolds (branched_if depth vs s f fs)
if_holds depth [] s f fs = tt
if_holds depth (zero ∷ vs) s f fs = tt
if_holds depth (suc n ∷ vs) s f fs = branch_holds (slice_get f.labels depth) depth vs s f fs

by_holds : (others : List ℕ) (last : ℕ) (vs : List ℕ) (s : Store) (f : Frame) (fs : List Frame) → MoveHolds (branched_by others last vs s f fs)
by_holds others last [] s f fs = tt
by_holds others last (n ∷ vs) s f fs = branch_holds (slice_get f.labels (table_label (slice_get others n) last)) (table_label (slice_get others n) last) vs s f fs

invoked_holds : (address : ℕ) (function : Function) (vs : List ℕ) (s : Store) (f : Frame) (fs : List Frame) → MoveHolds (invoked address function vs s f fs)
invoked_holds address (Own type instance locals body) vs s f fs = if_both MoveHolds (nat_le frame_limit (suc (length fs))) _ _ (λ t. tt) (λ t. tt)
invoked_holds address (Host type) vs s f fs = tt

called_holds : (o : Option (ℕ × Function)) (vs : List ℕ) (s : Store) (f : Frame) (fs : List Frame) → MoveHolds (called o vs s f fs)
called_holds None vs s f fs = tt
called_holds (Some p) vs s f fs = invoked_holds p.0 p.1 vs s f fs

as_holds : (type : FuncType) (o : Option (ℕ × Function)) (vs : List ℕ) (s : Store) (f : Frame) (fs : List Frame) → MoveHolds (called_as type o vs s f fs)
as_holds type None vs s f fs = tt
as_holds type (Some p) vs s f fs = if_both MoveHolds (same_signature type (type_of p.1)) _ _ (λ t. invoked_holds p.0 p.1 vs s f fs) (λ t. tt)

entry_holds : (type : FuncType) (o : Option (Option ℕ)) (vs : List ℕ) (s : Store) (f : Frame) (fs : List Frame) → MoveHolds (called_entry type o vs s f fs)
entry_holds type None vs s f fs = tt
entry_holds type (Some None) vs s f fs = tt
entry_holds type (Some (Some address)) vs s f fs = as_holds type (found_at s.funcs (Some address)) vs s f fs

through_holds : (o : Option FuncType) (t : Option (ℕ × Table)) (vs : List ℕ) (s : Store) (f : Frame) (fs : List Frame) → MoveHolds (called_through o t vs s f fs)
through_holds None t vs s f fs = tt
through_holds (Some type) None vs s f fs = tt
through_holds (Some type) (Some t) [] s f fs = tt
through_holds (Some type) (Some t) (n ∷ vs) s f fs = entry_holds type (slice_get t.1.entries n) vs s f fs

instr_holds : (p : Instr) (i : Instance) (s : Store) (f : Frame) (fs : List Frame) → MoveHolds (moved p i s f fs)
instr_holds instr.Unreachable i s f fs = tt
instr_holds (instr.Br depth) i s f fs = branch_holds (slice_get f.labels depth) depth f.values s f fs
instr_holds (instr.BrIf depth) i s f fs = if_holds depth f.values s f fs
instr_holds (instr.BrTable others last) i s f fs = by_holds others last f.values s f fs
instr_holds instr.Return i s f fs = tt
instr_holds (instr.Call index) i s f fs = called_holds (func_at index i s) f.values s f fs
instr_holds (instr.CallIndirect index table) i s f fs = through_holds (slice_get i.types index) (table_at table i s) f.values s f fs
instr_holds other i s f fs = effect_holds (effect other i s f.locals f.values) f fs

chosen_holds : (t : BlockType) (first second after : Expr) (vs : List ℕ) (i : Instance) (s : Store) (f : Frame) (fs : List Frame) → MoveHolds (chosen t first second after vs i s f fs)
chosen_holds t first second after [] i s f fs = tt
chosen_holds t first second after (zero ∷ vs) i s f fs = tt
chosen_holds t first second after (suc n ∷ vs) i s f fs = tt

ended_holds : (ls : List Label) (s : Store) (f : Frame) (fs : List Frame) → MoveHolds (ended ls s f fs)
ended_holds [] s f [] = tt
ended_holds [] s f (g ∷ fs) = tt
ended_holds (l ∷ ls) s f fs = tt

rest_holds : (e : Expr) (i : Instance) (s : Store) (f : Frame) (fs : List Frame) → MoveHolds (move_at e i s f fs)
rest_holds End i s f fs = ended_holds f.labels s f fs
rest_holds (Plain p e) i s f fs = instr_holds p i s (record f { rest = e }) fs
rest_holds (Block t b e) i s f fs = tt
rest_holds (Loop t b e) i s f fs = tt
rest_holds (If t a e) i s f fs = chosen_holds t a End e f.values i s f fs
rest_holds (IfElse t a b e) i s f fs = chosen_holds t a b e f.values i s f fs

in_holds : (o : Option Instance) (s : Store) (f : Frame) (fs : List Frame) → MoveHolds (move_in o s f fs)
in_holds None s f fs = tt
in_holds (Some i) s f fs = rest_holds f.rest i s f fs

pub next_holds : (s : Store) (k : Stack) → MoveHolds (next s k)
next_holds s (Running f fs) = in_holds (slice_get s.instances f.instance) s f fs
next_holds s (AtHost address words) = tt
next_holds s (Given words) = tt

-- Words that are answered leave it so.
pub resume_holds : (words : List ℕ) (k : Stack) → IsHeld k → IsHeld (resume words k)
resume_holds words (Running f fs) h = tt
resume_holds words (AtHost address args) h = absurd h
resume_holds words (Given none) h = tt

-- What holds of a store and a stack, where it holds behind each move without cost, holds of all.
module _ (C : Store → Stack → Type 0) (more : (s : Store) (k : Stack) → ((t : Store) (l : Stack) → next s k ≡ Goes false t l → C t l) → C s k) where
  on_moves : (count fuel : ℕ) (s t : Store) (k l : Stack) → fuel ≡ 0 → Moves count fuel s k t l → ((u : Store) (m : Stack) → next t l ≢ Goes false u m) → C s k
  on_moves zero fuel s t k l none moves settled =
      more s k (λ u m e. absurd (settled u m (ap (λ (t : Store). next t l) moves.1 ∙ (ap (λ (l : Stack). next s l) moves.2 ∙ e))))
  on_moves (suc count) fuel s t k l none (true, left, u, m, goes, fuel_is, moves) settled =
      let e : fuel ≡ 1 + left = fuel_is in absurd (omega (arith, none, e))
  on_moves (suc count) fuel s t k l none (false, left, u, m, goes, fuel_is, moves) settled =
      let e : fuel ≡ 0 + left = fuel_is in
      let behind : C u m = on_moves count left u t m l (omega (arith, none, e)) moves settled in
      more s k (λ v n f.
      let same : Goes false u m ≡ Goes false v n = sym goes ∙ f in
      let stores : u ≡ v = cc in
      let stacks : m ≡ n = cc in
      subst (λ (n : Stack). C v n) stacks (subst (λ (v : Store). C v m) stores behind))

  pub by_free_moves : (s : Store) (k : Stack) → C s k
  by_free_moves s k = (let h = free_moves_end s k in on_moves h.0 0 s s k h.1 refl h.2 h.3)
