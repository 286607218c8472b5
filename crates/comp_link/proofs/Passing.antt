-- What is told of items that are gone through.
use Rattle.std.proofs.Common.{◌≡◌, ◌<◌, ◌≤◌, ◌+◌, ℕ, zero, suc, List, ◌∷◌, length, drop, get_or, Bor, refl, sym, ◌∙◌, ap, subst, Option, Some}
use Rattle.std.specs.Prelude.{Result, Ok, Err, OnOk}
use Rattle.std.specs.List.{slice_get}
use Rattle.std.proofs.lemmas.List.{drop_more, drop_all}
use Rattle.ca_base.specs.declared.placed.Placed.{Placed}
use Rattle.faults.specs.declared.memory.MemoryOr.{MemoryOr}
use Rattle.faults.specs.declared.memory.MemoryOr.TheVariants.{Memory, Fault}
use Rattle.comp_tree.specs.declared.items.Item.{Item, out-Item}
use Rattle.comp_tree.specs.declared.items.Item.TheOpen.{Item-F}
use Rattle.comp_tree.specs.declared.items.Component.{Component}
use Rattle.link_spec.specs.declared.fault.LinkWhy.{LinkWhy}
use Rattle.link_spec.specs.declared.fault.LinkFault.{LinkFault}
use Rattle.link_spec.specs.Definitions.{Closure, Exports}
use Rattle.link_spec.specs.Spaces.{Spaces, Linking}
use Rattle.link_spec.specs.Linked.{begun, with_instance}
use Rattle.link_spec.specs.Computed.{after, Outcome, Makes, Starts, outcome_case, item_outcome, Run, behind, placed_at, step, run, run_within}
use Rattle.link_instances.specs.References.{IsInstance}
use Rattle.link_instances.specs.declared.references.InstanceRef.{InstanceRef}
use Rattle.link_parts.specs.Told.{IsReason, IsTold}
use Rattle.link_state.specs.declared.linker.Linker.{Linker}
use Rattle.link_state.specs.declared.instances.Next.{Next}
use Rattle.link_state.specs.declared.instances.Next.TheVariants as next
use Rattle.link_state.specs.State.{world_of, IsLive, Stands, IsAt, IsMade}
use Rattle.link_state.specs.Next.{IsNext}
use Rattle.link_state.specs.Reached.{IsReached, component_begins}
use Rattle.link_state.specs.Running.{inside}
use Rattle.link_state.proofs.Keeping.{maker_stays}
use Rattle.link_state.proofs.Reaching.{step_reached}
use Rattle.link_state.proofs.States.{spaces_at}
use Rattle.comp_link.specs.Placed.{next_of}

-- what calls answer that go on
abbrev pub done : Result (Unit {0}) (MemoryOr LinkFault)
done = Ok tt

abbrev pub comes : Next → Result Next (MemoryOr LinkWhy)
comes x = Ok x

-- what follows from what is said where a call goes on
pub on_ok : {X E P Q : Type 0} (r : Result X E) → (P → Q) → OnOk r P → OnOk r Q
on_ok (Ok x) f h = f h
on_ok (Err e) f h = tt

-- What is refused stays refused behind it.
pub reason_after : {A B W : Type 0} (e : MemoryOr W) (r : Result A W) (f : A → Result B W) → IsReason e r → IsReason e (after r f)
reason_after Memory r f h = tt
reason_after (Fault w) (Ok a) f h = absurd h
reason_after (Fault w) (Err v) f h = h

-- An item that made what it makes.
pub next_told : (k : Linker) (l : Linking) (made : Result (Unit {0}) (MemoryOr LinkWhy)) (r : Result Outcome LinkWhy) → IsTold (λ _ outcome. IsMade k outcome) made r → IsTold (IsNext k l) (next_of made) r
next_told k l (Ok _) (Ok (Makes new)) h = h
next_told k l (Ok _) (Ok (Starts c given)) h = absurd h
next_told k l (Ok _) (Err w) h = absurd h
next_told k l (Err e) r h = h

pub item_told : (k : Linker) (l : Linking) (n : ℕ) (s : Spaces) (item : Item) (shape : Item-F Item Component) → out-Item item ≡ shape → (made : Result (Unit {0}) (MemoryOr LinkWhy)) (x : Result Next (MemoryOr LinkWhy)) → x ≡ next_of made
    → IsTold (λ _ outcome. IsMade k outcome) made (outcome_case l n s shape) → IsTold (IsNext k l) x (item_outcome l n s item)
item_told k l n s item shape is made x e h =
    subst (λ (x : Result Next (MemoryOr LinkWhy)). IsTold (IsNext k l) x (item_outcome l n s item)) (sym e)
    (subst (λ (f : Item-F Item Component). IsTold (IsNext k l) (next_of made) (outcome_case l n s f)) (sym is) (next_told k l made (outcome_case l n s shape) h))

-- One item.

module _ (within : Run) (k : Linker) (l : Linking) (n : ℕ) (s : Spaces) (place : ℕ) where
  pub placed_begins : (new : Linker) (answer : Result (Unit {0}) (MemoryOr LinkFault)) (item : Item) (component : Bor Component) (around : List ℕ) (arguments : InstanceRef) → slice_get l.scopes n ≡ Some s → IsLive k n → IsReached l
      → ((bases : List Exports) (given : Exports) → IsAt bases k n l s → IsReached (begun l (record { items = component.now.items; around = around }) given) → IsInstance k.types (world_of bases k) arguments given
      → IsTold (λ _ next. Stands new next) answer (after (within (begun l (record { items = component.now.items; around = around }) given) (length l.scopes) component.now.items) (λ inner. Ok (with_instance inner n s (length l.scopes)))))
      → IsTold (IsNext k l) (comes (next.Begins component around arguments)) (item_outcome l n s item) → IsTold (λ _ next. Stands new next) answer (after (placed_at place (item_outcome l n s item)) (behind within l n s))
  placed_begins new answer item component around arguments there live reached nested told = by (item_outcome l n s item) refl told
    where
      by : (r : Result Outcome LinkWhy) → item_outcome l n s item ≡ r → IsTold (IsNext k l) (comes (next.Begins component around arguments)) r → IsTold (λ _ next. Stands new next) answer (after (placed_at place r) (behind within l n s))
      by (Ok (Makes made)) is h = absurd h
      by (Ok (Starts c given)) is (same, (bases, state, instance)) =
          let begins : IsReached (begun l (record { items = component.now.items; around = around }) given) = subst (λ (c : Closure). IsReached (begun l c given)) same (component_begins l n s item c given reached there is) in
          subst (λ (c : Closure). IsTold (λ _ next. Stands new next) answer (behind within l n s (Starts c given))) (sym same)
          (nested bases given (record { state = state; there = there; live = live }) begins instance)
      by (Err w) is h = absurd h

-- The items of a component that begins, and its instance.

module _ (depth : ℕ) (l : Linking) (n : ℕ) (s : Spaces) (c : Closure) (given : Exports) (mid new : Linker) where
  pub nested_told : slice_get l.scopes n ≡ Some s → IsLive mid n → n < length l.scopes → (instance : ℕ) → instance ≡ length l.scopes
      → IsTold (λ _ last. Stands mid last) done (inside depth (begun l c given) instance c.items)
      → ((bases : List Exports) (last : Linking) → IsAt bases mid n last s → Stands new (with_instance last n s instance))
      → IsTold (λ _ next. Stands new next) done (after (inside depth (begun l c given) (length l.scopes) c.items) (λ inner. Ok (with_instance inner n s (length l.scopes))))
  nested_told there live below instance is told ends =
      by (inside depth (begun l c given) (length l.scopes) c.items) refl
      (subst (λ (m : ℕ). IsTold (λ _ last. Stands mid last) done (inside depth (begun l c given) m c.items)) is told)
    where
      by : (r : Result Linking LinkFault) → inside depth (begun l c given) (length l.scopes) c.items ≡ r → IsTold (λ _ last. Stands mid last) done r
          → IsTold (λ _ next. Stands new next) done (after r (λ inner. Ok (with_instance inner n s (length l.scopes))))
      by (Ok inner) e (bases, state) =
          subst (λ (m : ℕ). Stands new (with_instance inner n s m)) is
          (ends bases inner (record { state = state; there = maker_stays depth l n s c given c.items inner there below e; live = live }))
      by (Err fault) e h = absurd h

  pub nested_refused : (instance : ℕ) → instance ≡ length l.scopes → (e : MemoryOr LinkFault) → IsReason e (inside depth (begun l c given) instance c.items)
      → IsReason e (after (inside depth (begun l c given) (length l.scopes) c.items) (λ inner. Ok (with_instance inner n s (length l.scopes))))
  nested_refused instance is e h =
      reason_after e (inside depth (begun l c given) (length l.scopes) c.items) (λ inner. Ok (with_instance inner n s (length l.scopes)))
      (subst (λ (m : ℕ). IsReason e (inside depth (begun l c given) m c.items)) is h)

-- Items one behind the other.

run_is : (depth : ℕ) (l : Linking) (n : ℕ) (items : List (Placed Item)) → run_within depth l n items ≡ run (inside depth) l n items
run_is zero l n items = refl
run_is (suc depth) l n items = refl

-- What is behind some items is what is behind those that are left, of a linking that is come to.
pub record Goes (depth n : ℕ) (first : Linking) (items rest : List (Placed Item)) (k : Linker) : Type 0 where
  pub last : Linking
  pub stands : Stands k last
  pub reached : IsReached last
  pub same : run_within depth first n items ≡ run_within depth last n rest

module _ (depth n : ℕ) (first : Linking) (items : List (Placed Item)) (at : ℕ) (placed : Placed Item) (within : at < length items) (is : placed ≡ get_or items at placed) (old : Linker) (here : n < length old.scopes.items) (live : IsLive old n) where
  left : (last : Linking) (s : Spaces) → slice_get last.scopes n ≡ Some s → run_within depth first n items ≡ run_within depth last n (drop at items)
      → run_within depth first n items ≡ after (step (inside depth) last n placed (Some s)) (λ next. run (inside depth) next n (drop (at + 1) items))
  left last s there e =
      e ∙ run_is depth last n (drop at items)
      ∙ ap (run (inside depth) last n) (drop_more items at placed within ∙ ap (λ (p : Placed Item). p ∷ drop (at + 1) items) (sym is))
      ∙ ap (λ (o : Option Spaces). after (step (inside depth) last n placed o) (λ next. run (inside depth) next n (drop (at + 1) items))) there

  pub goes_on : (new : Linker) → Goes depth n first items (drop at items) old
      → ((bases : List Exports) (l : Linking) (s : Spaces) → IsAt bases old n l s → IsReached l → IsTold (λ _ next. Stands new next) done (step (inside depth) l n placed (Some s)))
      → Goes depth n first items (drop (at + 1) items) new
  goes_on new goes told =
      let s = spaces_at goes.stands.0 old goes.last n goes.stands.1 here live in
      by s.0 s.1.there (step (inside depth) goes.last n placed (Some s.0)) refl (told goes.stands.0 goes.last s.0 s.1 goes.reached)
    where
      by : (s : Spaces) → slice_get goes.last.scopes n ≡ Some s → (r : Result Linking LinkFault) → step (inside depth) goes.last n placed (Some s) ≡ r
          → IsTold (λ _ next. Stands new next) done r → Goes depth n first items (drop (at + 1) items) new
      by s there (Ok next) does h = record {
        last = next;
        stands = h;
        reached = step_reached depth goes.last n s placed next goes.reached there does;
        same =
            left goes.last s there goes.same ∙ ap (λ (r : Result Linking LinkFault). after r (λ next. run (inside depth) next n (drop (at + 1) items))) does
            ∙ sym (run_is depth next n (drop (at + 1) items));
      }
      by s there (Err fault) does h = absurd h

  pub goes_wrong : (e : MemoryOr LinkFault) → Goes depth n first items (drop at items) old
      → ((bases : List Exports) (l : Linking) (s : Spaces) → IsAt bases old n l s → IsReached l → IsReason e (step (inside depth) l n placed (Some s)))
      → IsReason e (run_within depth first n items)
  goes_wrong error goes told =
      let s = spaces_at goes.stands.0 old goes.last n goes.stands.1 here live in
      subst (λ (r : Result Linking LinkFault). IsReason error r) (sym (left goes.last s.0 s.1.there goes.same))
      (reason_after error (step (inside depth) goes.last n placed (Some s.0)) (λ next. run (inside depth) next n (drop (at + 1) items)) (told goes.stands.0 goes.last s.0 s.1 goes.reached))

pub goes_last : (depth n : ℕ) (first : Linking) (items : List (Placed Item)) (at : ℕ) (k : Linker) → length items ≤ at → Goes depth n first items (drop at items) k
    → IsTold (λ _ last. Stands k last) done (run_within depth first n items)
goes_last depth n first items at k past goes =
    subst (λ (r : Result Linking LinkFault). IsTold (λ _ last. Stands k last) done r)
    (sym (goes.same ∙ run_is depth goes.last n (drop at items) ∙ ap (run (inside depth) goes.last n) (drop_all at items past))) goes.stands
