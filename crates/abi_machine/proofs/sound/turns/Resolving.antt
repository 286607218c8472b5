-- Tasks that have resolved, where they are to exit: what a change leaves alone.
use Rattle.std.proofs.Common.{◌≡◌, ℕ, false, List, refl, sym, subst, Option, Some, None}
use Rattle.std.specs.Prelude.{IsSome, is_none}
use Rattle.tasks.specs.declared.phase.Resolution.{Resolution}
use Rattle.abi_machine.specs.Control.{After, Replies, Finishes, Then, Starts, Resolves, Transfers, Behind, InLowering, BeforeLeaving}
use Rattle.abi_machine.specs.World.{Callee, Init, Task}
use Rattle.abi_machine.specs.Edits.{changed_at}
use Rattle.abi_machine.specs.Reading.{func_of}
use Rattle.abi_machine.specs.sound.Agreeing.{FirstHasResolved, HasResolvedFor, HasResolvedThen, HasResolvedBehind}
use Rattle.abi_machine.proofs.sound.Acted.{first_still}

-- The acting task that has resolved has done so for what follows, and still where a change leaves what tasks resolved to.
pub has_resolved_for : (follows : After) (tasks : List Task) (chain : List ℕ) → FirstHasResolved tasks chain → HasResolvedFor follows tasks chain
has_resolved_for Replies tasks chain h = tt
has_resolved_for (Finishes ended) tasks chain h = h

first_resolved_still : (tasks : List Task) (chain : List ℕ) (n : ℕ) (f : Task → Task) → ((x : Task) → (f x).resolution ≡ x.resolution) → FirstHasResolved tasks chain
    → FirstHasResolved (changed_at n f tasks) chain
first_resolved_still tasks chain n f same h =
    first_still tasks chain n f (λ task. IsSome task.resolution) (λ x k. subst (λ (o : Option Resolution). IsSome o) (sym (same x)) k) h

pub resolved_still_for : (follows : After) (tasks : List Task) (chain : List ℕ) (n : ℕ) (f : Task → Task) → ((x : Task) → (f x).resolution ≡ x.resolution) → HasResolvedFor follows tasks chain
    → HasResolvedFor follows (changed_at n f tasks) chain
resolved_still_for Replies tasks chain n f same h = tt
resolved_still_for (Finishes ended) tasks chain n f same h = first_resolved_still tasks chain n f same h

resolved_still_then : (follows : Then) (tasks : List Task) (chain : List ℕ) (n : ℕ) (f : Task → Task) → ((x : Task) → (f x).resolution ≡ x.resolution) → HasResolvedThen follows tasks chain
    → HasResolvedThen follows (changed_at n f tasks) chain
resolved_still_then Starts tasks chain n f same h = tt
resolved_still_then (Resolves to after) tasks chain n f same h = resolved_still_for after tasks chain n f same h
resolved_still_then (Transfers copying) tasks chain n f same h = tt

pub resolved_still_behind : (b : Behind) (tasks : List Task) (chain : List ℕ) (n : ℕ) (f : Task → Task) → ((x : Task) → (f x).resolution ≡ x.resolution) → HasResolvedBehind b tasks chain
    → HasResolvedBehind b (changed_at n f tasks) chain
resolved_still_behind (InLowering l k) tasks chain n f same h = resolved_still_then l.next tasks chain n f same h
resolved_still_behind BeforeLeaving tasks chain n f same h = first_resolved_still tasks chain n f same h

pub resolution_there : (o : Option Resolution) → is_none o ≡ false → IsSome o
resolution_there None e = cc
resolution_there (Some r) e = refl

-- Task 0 runs no function.
pub init_no_func : (x : Task) → x.callee ≡ Init → IsSome (func_of x.callee) → IsSome x.resolution
init_no_func x e func = absurd (no_func (subst (λ (c : Callee). IsSome (func_of c)) e func))
  where
    no_func : IsSome (func_of Init) → ⊥
    no_func h = cc
