-- Instructions cost a unit, and leave at most one frame more, where there may be one more. So few frames stay few.
use Rattle.std.proofs.Common.{◌≡◌, ◌≤◌, ℕ, zero, suc, Bool, true, false, nat_le, List, [], ◌∷◌, length, refl, sym, subst, arith, Option, Some, None}
use Rattle.std.specs.List.{slice_get}
use Rattle.std.proofs.lemmas.Bool.Decides.{nat_tests}
use Rattle.syntax_trees.specs.declared.module_types.FuncType.{FuncType}
use Rattle.syntax_trees.specs.declared.instr.BlockType.{BlockType}
use Rattle.syntax_trees.specs.declared.instr.Instr.{Instr}
use Rattle.syntax_trees.specs.declared.instr.Instr.TheVariants as instr
use Rattle.syntax_trees.specs.Expr.{Expr, End, Plain, Block, Loop, If, IfElse}
use Rattle.wasm_store.specs.Store.{Function, Own, Host, type_of, Table, Instance, Store, found_at, func_at, table_at}
use Rattle.wasm_store.specs.Stack.{Label, Frame, Stack, Running, AtHost, Given}
use Rattle.wasm_store.specs.Effects.{Effect, Leaves, Fails, NoRule, effect}
use Rattle.wasm_store.specs.Step.{Move, Goes, Calls, Ends, Traps, Stuck, ended, branched_to, branched_if, branched_by, table_label, frame_limit, invoked, called, same_signature, called_as, called_entry, called_through, by_effect, moved, chosen, move_at, move_in, next, Moves}
use Rattle.wasm_store.specs.Laws.{FewFrames, StartsFew, StepsFew, WaitsFew, ResumesFew}
use Rattle.wasm_store.proofs.Lists.{if_both}

-- a move that leaves few frames of a frame that runs and those of its callers, where they are few
abbrev LeavesFew : List Frame → Move → Type 0
LeavesFew fs (Goes costs t l) = suc (length fs) ≤ frame_limit → FewFrames l
LeavesFew fs (Calls address words l) = suc (length fs) ≤ frame_limit → FewFrames l
LeavesFew fs (Ends words) = Unit {0}
LeavesFew fs (Traps why) = Unit {0}
LeavesFew fs Stuck = Unit {0}

-- such a move that isn't free
abbrev pub Onward : List Frame → Move → Type 0
Onward fs (Goes true t l) = suc (length fs) ≤ frame_limit → FewFrames l
Onward fs (Goes false t l) = ⊥
Onward fs (Calls address words l) = suc (length fs) ≤ frame_limit → FewFrames l
Onward fs (Ends words) = Unit {0}
Onward fs (Traps why) = Unit {0}
Onward fs Stuck = Unit {0}

onward_few : (fs : List Frame) (m : Move) → Onward fs m → LeavesFew fs m
onward_few fs (Goes true t l) h = h
onward_few fs (Goes false t l) h = absurd h
onward_few fs (Calls address words l) h = h
onward_few fs (Ends words) h = tt
onward_few fs (Traps why) h = tt
onward_few fs Stuck h = tt

branch_onward : (o : Option Label) (depth : ℕ) (vs : List ℕ) (s : Store) (f : Frame) (fs : List Frame) → Onward fs (branched_to o depth vs s f fs)
branch_onward None depth vs s f fs = tt
branch_onward (Some l) depth vs s f fs = λ h. h

if_onward : (depth : ℕ) (vs : List ℕ) (s : Store) (f : Frame) (fs : List Frame) → Onward fs (branched_if depth vs s f fs)
if_onward depth [] s f fs = tt
if_onward depth (zero ∷ vs) s f fs = λ h. h
if_onward depth (suc n ∷ vs) s f fs = branch_onward (slice_get f.labels depth) depth vs s f fs

by_onward : (others : List ℕ) (last : ℕ) (vs : List ℕ) (s : Store) (f : Frame) (fs : List Frame) → Onward fs (branched_by others last vs s f fs)
by_onward others last [] s f fs = tt
by_onward others last (n ∷ vs) s f fs = branch_onward (slice_get f.labels (table_label (slice_get others n) last)) (table_label (slice_get others n) last) vs s f fs

room : (n : ℕ) → nat_le frame_limit n ≡ false → suc n ≤ frame_limit
room n h = grind (arith, nat_tests)

invoked_onward : (address : ℕ) (function : Function) (vs : List ℕ) (s : Store) (f : Frame) (fs : List Frame) → Onward fs (invoked address function vs s f fs)
invoked_onward address (Own type instance locals body) vs s f fs =
    if_both (Onward fs) (nat_le frame_limit (suc (length fs))) _ _ (λ t. tt) (λ t h. room (suc (length fs)) t)
invoked_onward address (Host type) vs s f fs = λ h. h

called_onward : (o : Option (ℕ × Function)) (vs : List ℕ) (s : Store) (f : Frame) (fs : List Frame) → Onward fs (called o vs s f fs)
called_onward None vs s f fs = tt
called_onward (Some p) vs s f fs = invoked_onward p.0 p.1 vs s f fs

as_onward : (type : FuncType) (o : Option (ℕ × Function)) (vs : List ℕ) (s : Store) (f : Frame) (fs : List Frame) → Onward fs (called_as type o vs s f fs)
as_onward type None vs s f fs = tt
as_onward type (Some p) vs s f fs = if_both (Onward fs) (same_signature type (type_of p.1)) _ _ (λ t. invoked_onward p.0 p.1 vs s f fs) (λ t. tt)

entry_onward : (type : FuncType) (o : Option (Option ℕ)) (vs : List ℕ) (s : Store) (f : Frame) (fs : List Frame) → Onward fs (called_entry type o vs s f fs)
entry_onward type None vs s f fs = tt
entry_onward type (Some None) vs s f fs = tt
entry_onward type (Some (Some address)) vs s f fs = as_onward type (found_at s.funcs (Some address)) vs s f fs

through_onward : (o : Option FuncType) (t : Option (ℕ × Table)) (vs : List ℕ) (s : Store) (f : Frame) (fs : List Frame) → Onward fs (called_through o t vs s f fs)
through_onward None t vs s f fs = tt
through_onward (Some type) None vs s f fs = tt
through_onward (Some type) (Some t) [] s f fs = tt
through_onward (Some type) (Some t) (n ∷ vs) s f fs = entry_onward type (slice_get t.1.entries n) vs s f fs

effect_onward : (e : Effect) (f : Frame) (fs : List Frame) → Onward fs (by_effect e f fs)
effect_onward (Leaves s ls vs) f fs = λ h. h
effect_onward (Fails why) f fs = tt
effect_onward NoRule f fs = tt

instr_onward : (p : Instr) (i : Instance) (s : Store) (f : Frame) (fs : List Frame) → Onward fs (moved p i s f fs)
instr_onward instr.Unreachable i s f fs = tt
instr_onward (instr.Br depth) i s f fs = branch_onward (slice_get f.labels depth) depth f.values s f fs
instr_onward (instr.BrIf depth) i s f fs = if_onward depth f.values s f fs
instr_onward (instr.BrTable others last) i s f fs = by_onward others last f.values s f fs
instr_onward instr.Return i s f fs = λ h. h
instr_onward (instr.Call index) i s f fs = called_onward (func_at index i s) f.values s f fs
instr_onward (instr.CallIndirect index table) i s f fs = through_onward (slice_get i.types index) (table_at table i s) f.values s f fs
instr_onward other i s f fs = effect_onward (effect other i s f.locals f.values) f fs

chosen_onward : (t : BlockType) (first second after : Expr) (vs : List ℕ) (i : Instance) (s : Store) (f : Frame) (fs : List Frame) → Onward fs (chosen t first second after vs i s f fs)
chosen_onward t first second after [] i s f fs = tt
chosen_onward t first second after (zero ∷ vs) i s f fs = λ h. h
chosen_onward t first second after (suc n ∷ vs) i s f fs = λ h. h

-- What is left of a frame is at its end, or goes onward.
pub data Left (e : Expr) : Type 0 where
  AtEnd : e ≡ End → Left e
  GoesOnward : ((i : Instance) (s : Store) (f : Frame) (fs : List Frame) → Onward fs (move_at e i s f fs)) → Left e

pub what_is_left : (e : Expr) → Left e
what_is_left End = AtEnd refl
what_is_left (Plain p e) = GoesOnward (λ i s f fs. instr_onward p i s (record f { rest = e }) fs)
what_is_left (Block t b e) = GoesOnward (λ i s f fs h. h)
what_is_left (Loop t b e) = GoesOnward (λ i s f fs h. h)
what_is_left (If t a e) = GoesOnward (λ i s f fs. chosen_onward t a End e f.values i s f fs)
what_is_left (IfElse t a b e) = GoesOnward (λ i s f fs. chosen_onward t a b e f.values i s f fs)

-- Few frames stay few.

ended_few : (ls : List Label) (s : Store) (f : Frame) (fs : List Frame) → LeavesFew fs (ended ls s f fs)
ended_few [] s f [] = tt
ended_few [] s f (g ∷ fs) = λ h. omega arith
ended_few (l ∷ ls) s f fs = λ h. h

rest_few : (e : Expr) (i : Instance) (s : Store) (f : Frame) (fs : List Frame) → LeavesFew fs (move_at e i s f fs)
rest_few e i s f fs = elim (what_is_left e) [
  | AtEnd h ↦ subst (λ (e : Expr). LeavesFew fs (move_at e i s f fs)) (sym h) (ended_few f.labels s f fs)
  | GoesOnward h ↦ onward_few fs (move_at e i s f fs) (h i s f fs)
]

in_few : (o : Option Instance) (s : Store) (f : Frame) (fs : List Frame) → LeavesFew fs (move_in o s f fs)
in_few None s f fs = tt
in_few (Some i) s f fs = rest_few f.rest i s f fs

goes_few : (s t : Store) (k l : Stack) (costs : Bool) → FewFrames k → next s k ≡ Goes costs t l → FewFrames l
goes_few s t (Running f fs) l costs few h =
    let left : LeavesFew fs (Goes costs t l) = subst (LeavesFew fs) h (in_few (slice_get s.instances f.instance) s f fs) in left few
goes_few s t (AtHost address words) l costs few h = cc
goes_few s t (Given words) l costs few h = cc

moves_few : (count fuel : ℕ) (s t : Store) (k l : Stack) → FewFrames k → Moves count fuel s k t l → FewFrames l
moves_few zero fuel s t k l few m = subst FewFrames (sym m.2) few
moves_few (suc count) fuel s t k l few (costs, left, u, m, goes, fuel_is, more) =
    moves_few count left u t m l (goes_few s u k m costs few goes) more

pub steps_few : StepsFew
steps_few fuel s t k l few m = moves_few m.0 fuel s t k l few m.1

pub starts_few : StartsFew
starts_few (Own type instance locals body) address args = omega arith
starts_few (Host type) address args = omega arith

pub waits_few : WaitsFew
waits_few s address words (Running f fs) l few h =
    let left : LeavesFew fs (Calls address words l) = subst (LeavesFew fs) h (in_few (slice_get s.instances f.instance) s f fs) in left few
waits_few s address words (AtHost a args) l few h = let none : Given [] ≡ l = cc in subst FewFrames none (omega arith)
waits_few s address words (Given none) l few h = cc

pub resumes_few : ResumesFew
resumes_few answers (Running f fs) few = few
resumes_few answers (AtHost address args) few = few
resumes_few answers (Given none) few = few
