-- Definitions under names, one after the other.
use Rattle.std.proofs.Common.{◌≡◌, ◌<◌, ◌+◌, ◌↔◌, IsTrue, ℕ, Bool, true, false, nat_lt, List, length, map, drop, refl, sym, ◌∙◌, Some, None}
use Rattle.std.specs.Prelude.{Result, Ok, Err}
use Rattle.std.specs.List.{slice_get, list_all}
use Rattle.syntax_trees.specs.Names.{AreDistinct}
use Rattle.faults.specs.declared.memory.MemoryOr.{MemoryOr}
use Rattle.faults.specs.declared.memory.MemoryOr.TheVariants as memory
use Rattle.comp_tree.specs.declared.instances.NamedDefinition.{NamedDefinition}
use Rattle.link_spec.specs.declared.fault.LinkWhy.{LinkWhy}
use Rattle.link_spec.specs.declared.fault.LinkWhy.TheVariants as why
use Rattle.comp_tree.specs.declared.instances.Instance.TheVariants as made
use Rattle.link_spec.specs.Definitions.{Definition, AnInstance, Closure, Exports, EmptyInstance, WithExport}
use Rattle.link_spec.specs.Spaces.{Spaces, Linking, size_of, definition_at}
use Rattle.link_spec.specs.Items.{instance_limit}
use Rattle.link_spec.specs.Tests.{are_distinct}
use Rattle.link_spec.specs.Computed.{Outcome, Starts, one_more, after, there_or, only_if, exports_behind, named_exports, instance_outcome}
use Rattle.link_spec.proofs.Telling.{distinct_told}
use Rattle.link_parts.specs.Told.{IsReason}
use Rattle.link_state.specs.declared.linker.Linker.{Linker}
use Rattle.link_instances.proofs.Places.{drop_at, drop_past}

-- a reason before others
pub reason_after : (A B : Type 0) (e : MemoryOr LinkWhy) (x : Result A LinkWhy) (f : A → Result B LinkWhy) → IsReason e x → IsReason e (after x f)
reason_after A B memory.Memory x f h = tt
reason_after A B (memory.Fault v) (Ok a) f h = absurd h
reason_after A B (memory.Fault v) (Err w) f h = h

-- the next definition
pub named_next : (s : Spaces) (before : Exports) (read : List NamedDefinition) (k : ℕ) (d : NamedDefinition) → slice_get read k ≡ Some d
    → exports_behind s before (drop k read) ≡ after (there_or why.Typing (definition_at s d.sort d.index)) (λ x. exports_behind s (WithExport before d.name x) (drop (k + 1) read))
named_next s before read k d there = rw (drop_at read k d there) refl

pub named_last : (s : Spaces) (before : Exports) (read : List NamedDefinition) (k : ℕ) → slice_get read k ≡ None → exports_behind s before (drop k read) ≡ Ok before
named_last s before read k past = rw (drop_past read k past) refl

pub next_is : (s : Spaces) (before : Exports) (read : List NamedDefinition) (k : ℕ) (d : NamedDefinition) (x : Definition) → slice_get read k ≡ Some d → there_or why.Typing (definition_at s d.sort d.index) ≡ Ok x
    → exports_behind s before (drop k read) ≡ exports_behind s (WithExport before d.name x) (drop (k + 1) read)
next_is s before read k d x there is = rw (drop_at read k d there, is) refl

-- a number within the component instances
pub scopes_same : (n : ℕ) (k m : Linker) → k.scopes ≡ m.scopes → n < length m.scopes.items → n < length k.scopes.items
scopes_same n k m same h = rw same h

-- two tests of the same
pub same_distinct : (b : Bool) (names : List (List ℕ)) → (IsTrue b ↔ AreDistinct names) → are_distinct names ≡ b
same_distinct true names h = (distinct_told names).1 (h.0 refl)
same_distinct false names h = by (are_distinct names) refl
  where
    by : (t : Bool) → are_distinct names ≡ t → are_distinct names ≡ false
    by true is = let no : false ≡ true = h.1 ((distinct_told names).0 is) in is ∙ sym no
    by false is = is

-- definitions under names, all of whose indices are there
module _ (s : Spaces) (read : List NamedDefinition) (there : list_all (λ (d : NamedDefinition). nat_lt d.index (size_of s d.sort)) read ≡ true) where
  pub named_twice : are_distinct (map (λ (d : NamedDefinition). d.name) read) ≡ false → named_exports s read ≡ Err why.Typing
  named_twice twice = rw (there, twice) refl

  pub named_once : are_distinct (map (λ (d : NamedDefinition). d.name) read) ≡ true → named_exports s read ≡ exports_behind s EmptyInstance read
  named_once once = rw (there, once) refl

-- Instances.

pub inline_made : (l : Linking) (n : ℕ) (s : Spaces) (read : List NamedDefinition) (exports : Exports) → named_exports s read ≡ Ok exports → instance_outcome l n s (made.Inline read) ≡ Ok (one_more l n s (AnInstance exports))
inline_made l n s read exports is = rw is refl

module _ (l : Linking) (n : ℕ) (s : Spaces) (index : ℕ) (read : List NamedDefinition) (c : Closure) (there : slice_get s.components index ≡ Some c) where
  -- a reason of its arguments
  pub arguments_first : (e : MemoryOr LinkWhy) → IsReason e (named_exports s read) → IsReason e (instance_outcome l n s (made.Instantiate index read))
  arguments_first e h = rw there (reason_after Exports Outcome e (named_exports s read) (λ given. only_if (nat_lt (length l.scopes) instance_limit) why.Limit (Ok (Starts c given))) h)

  pub instance_limited : (given : Exports) → named_exports s read ≡ Ok given → nat_lt (length l.scopes) instance_limit ≡ false → instance_outcome l n s (made.Instantiate index read) ≡ Err why.Limit
  instance_limited given is many = rw (there, is, many) refl

  pub instance_begins : (given : Exports) → named_exports s read ≡ Ok given → nat_lt (length l.scopes) instance_limit ≡ true → instance_outcome l n s (made.Instantiate index read) ≡ Ok (Starts c given)
  instance_begins given is few = rw (there, is, few) refl
