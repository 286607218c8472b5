-- Each instruction costs a unit of fuel.
use Rattle.std.proofs.Common.{◌≡◌, ◌≢◌, ℕ, zero, suc, true, false, nat_le, List, [], ◌∷◌, length, refl, sym, subst, Option, Some, None}
use Rattle.std.specs.List.{slice_get}
use Rattle.syntax_trees.specs.declared.module_types.FuncType.{FuncType}
use Rattle.syntax_trees.specs.declared.instr.BlockType.{BlockType}
use Rattle.syntax_trees.specs.declared.instr.Instr.{Instr}
use Rattle.syntax_trees.specs.declared.instr.Instr.TheVariants as instr
use Rattle.syntax_trees.specs.Expr.{Expr, End, Plain, Block, Loop, If, IfElse}
use Rattle.wasm_store.specs.Store.{Function, Own, Host, type_of, Table, Instance, Store, found_at, func_at, table_at}
use Rattle.wasm_store.specs.Stack.{Label, Frame, Running}
use Rattle.wasm_store.specs.Effects.{Effect, Leaves, Fails, NoRule, effect}
use Rattle.wasm_store.specs.Step.{Move, Goes, Calls, Ends, Traps, Stuck, branched_to, branched_if, branched_by, table_label, frame_limit, invoked, called, same_signature, called_as, called_entry, called_through, by_effect, moved, chosen, move_at, next, cost}
use Rattle.wasm_store.proofs.Lists.{if_both}
use Rattle.wasm_execution.specs.Stepping.{HasNext}
use Rattle.wasm_execution.proofs.Going.{next_at}

-- a move that costs a unit, or none at all
abbrev Pays : Move → Type 0
Pays (Goes true s k) = Unit {0}
Pays (Goes false s k) = ⊥
Pays (Calls address words k) = Unit {0}
Pays (Ends words) = ⊥
Pays (Traps why) = Unit {0}
Pays Stuck = Unit {0}

pays_branch : (o : Option Label) (depth : ℕ) (vs : List ℕ) (s : Store) (f : Frame) (fs : List Frame) → Pays (branched_to o depth vs s f fs)
pays_branch None depth vs s f fs = tt
pays_branch (Some l) depth vs s f fs = tt

pays_if : (depth : ℕ) (vs : List ℕ) (s : Store) (f : Frame) (fs : List Frame) → Pays (branched_if depth vs s f fs)
pays_if depth [] s f fs = tt
pays_if depth (zero ∷ vs) s f fs = tt
pays_if depth (suc n ∷ vs) s f fs = pays_branch (slice_get f.labels depth) depth vs s f fs

pays_by : (others : List ℕ) (last : ℕ) (vs : List ℕ) (s : Store) (f : Frame) (fs : List Frame) → Pays (branched_by others last vs s f fs)
pays_by others last [] s f fs = tt
pays_by others last (n ∷ vs) s f fs = pays_branch (slice_get f.labels (table_label (slice_get others n) last)) (table_label (slice_get others n) last) vs s f fs

pays_invoked : (address : ℕ) (function : Function) (vs : List ℕ) (s : Store) (f : Frame) (fs : List Frame) → Pays (invoked address function vs s f fs)
pays_invoked address (Own type instance locals body) vs s f fs = if_both Pays (nat_le frame_limit (suc (length fs))) _ _ (λ t. tt) (λ t. tt)
pays_invoked address (Host type) vs s f fs = tt

pays_called : (o : Option (ℕ × Function)) (vs : List ℕ) (s : Store) (f : Frame) (fs : List Frame) → Pays (called o vs s f fs)
pays_called None vs s f fs = tt
pays_called (Some p) vs s f fs = pays_invoked p.0 p.1 vs s f fs

pays_as : (type : FuncType) (o : Option (ℕ × Function)) (vs : List ℕ) (s : Store) (f : Frame) (fs : List Frame) → Pays (called_as type o vs s f fs)
pays_as type None vs s f fs = tt
pays_as type (Some p) vs s f fs = if_both Pays (same_signature type (type_of p.1)) _ _ (λ t. pays_invoked p.0 p.1 vs s f fs) (λ t. tt)

pays_entry : (type : FuncType) (o : Option (Option ℕ)) (vs : List ℕ) (s : Store) (f : Frame) (fs : List Frame) → Pays (called_entry type o vs s f fs)
pays_entry type None vs s f fs = tt
pays_entry type (Some None) vs s f fs = tt
pays_entry type (Some (Some address)) vs s f fs = pays_as type (found_at s.funcs (Some address)) vs s f fs

pays_through : (o : Option FuncType) (t : Option (ℕ × Table)) (vs : List ℕ) (s : Store) (f : Frame) (fs : List Frame) → Pays (called_through o t vs s f fs)
pays_through None t vs s f fs = tt
pays_through (Some type) None vs s f fs = tt
pays_through (Some type) (Some t) [] s f fs = tt
pays_through (Some type) (Some t) (n ∷ vs) s f fs = pays_entry type (slice_get t.1.entries n) vs s f fs

pays_effect : (e : Effect) (f : Frame) (fs : List Frame) → Pays (by_effect e f fs)
pays_effect (Leaves s ls vs) f fs = tt
pays_effect (Fails why) f fs = tt
pays_effect NoRule f fs = tt

pays_moved : (p : Instr) (i : Instance) (s : Store) (f : Frame) (fs : List Frame) → Pays (moved p i s f fs)
pays_moved instr.Unreachable i s f fs = tt
pays_moved (instr.Br depth) i s f fs = pays_branch (slice_get f.labels depth) depth f.values s f fs
pays_moved (instr.BrIf depth) i s f fs = pays_if depth f.values s f fs
pays_moved (instr.BrTable others last) i s f fs = pays_by others last f.values s f fs
pays_moved instr.Return i s f fs = tt
pays_moved (instr.Call index) i s f fs = pays_called (func_at index i s) f.values s f fs
pays_moved (instr.CallIndirect index table) i s f fs = pays_through (slice_get i.types index) (table_at table i s) f.values s f fs
pays_moved other i s f fs = pays_effect (effect other i s f.locals f.values) f fs

pays_chosen : (t : BlockType) (first second after : Expr) (vs : List ℕ) (i : Instance) (s : Store) (f : Frame) (fs : List Frame) → Pays (chosen t first second after vs i s f fs)
pays_chosen t first second after [] i s f fs = tt
pays_chosen t first second after (zero ∷ vs) i s f fs = tt
pays_chosen t first second after (suc n ∷ vs) i s f fs = tt

pays_at : (e : Expr) (i : Instance) (s : Store) (f : Frame) (fs : List Frame) → HasNext e → Pays (move_at e i s f fs)
pays_at End i s f fs h = absurd h
pays_at (Plain p e) i s f fs h = pays_moved p i s (record f { rest = e }) fs
pays_at (Block t b e) i s f fs h = tt
pays_at (Loop t b e) i s f fs h = tt
pays_at (If t a e) i s f fs h = pays_chosen t a End e f.values i s f fs
pays_at (IfElse t a b e) i s f fs h = pays_chosen t a b e f.values i s f fs

pays_cost : (m : Move) (f : Frame) (fs : List Frame) → Pays m → m ≢ Stuck → cost (Running f fs) m ≡ 1
pays_cost (Goes true s k) f fs p n = refl
pays_cost (Goes false s k) f fs p n = absurd p
pays_cost (Calls address words k) f fs p n = refl
pays_cost (Ends words) f fs p n = absurd p
pays_cost (Traps why) f fs p n = refl
pays_cost Stuck f fs p n = absurd (n refl)

pub next_costs : (s : Store) (f : Frame) (fs : List Frame) (i : Instance) → slice_get s.instances f.instance ≡ Some i → HasNext f.rest → next s (Running f fs) ≢ Stuck → cost (Running f fs) (next s (Running f fs)) ≡ 1
next_costs s f fs i there h moving =
    pays_cost (next s (Running f fs)) f fs (subst Pays (sym (next_at s f fs i f.rest there refl)) (pays_at f.rest i s f fs h)) moving
