-- The ends in values that are lifted are readable and idle, by what is kept of their streams and futures, which lifting leaves as they were.
use Rattle.std.proofs.Common.{◌≡◌, ◌∙◌, ◌+◌, ◌≤◌, nat_lt, ℕ, Bool, true, false, if◌then◌else◌, List, [], ◌∷◌, length, take, refl, subst, arith, Option, Some, None, Ok, Err}
use Rattle.std.specs.List.{slice_get}
use Rattle.std.proofs.lemmas.Bool.{ltb-false}
use Rattle.std.proofs.lemmas.List.{length-take-le}
use Rattle.syntax_trees.specs.declared.types.ValType.{ValType}
use Rattle.syntax_trees.specs.declared.value.Value.{Value}
use Rattle.syntax_trees.specs.Flat.{flat}
use Rattle.laid_types.specs.Known.{Numbered}
use Rattle.laid_types.specs.SameTypes.{AreDistinct}
use Rattle.value_lift.specs.declared.counting.LiftOf.{LiftOf}
use Rattle.value_lift.specs.declared.counting.LiftOf.TheVariants as whole
use Rattle.value_lift.specs.declared.moved.Moved.{Moved}
use Rattle.value_lift.specs.declared.moved.Moved.TheVariants.{Lent, Taken}
use Rattle.value_lift.specs.Ledger.{Came}
use Rattle.value_lift.specs.Lifting.{most}
use Rattle.value_lift.specs.Over.{load_by, load_list_by, lift_flat_by}
use Rattle.value_lift.specs.Tables.{Kept, Stop, at_first}
use Rattle.value_lift.specs.Tables as tables
use Rattle.waitables.specs.Sets.{left}
use Rattle.instances.specs.declared.entry.WorldEntry.{WorldEntry}
use Rattle.instances.specs.Instances.{InstanceView, with_slots, with_sets}
use Rattle.world_parts.specs.Held.{Held, Done, Gives, Traps, Spent, Stuck, after, given}
use Rattle.world_parts.specs.Entries.{with_instance}
use Rattle.world_parts.specs.Feed.{told}
use Rattle.world_parts.specs.Places.{bytes_at}
use Rattle.world_parts.specs.Slots.{word_in, with_task}
use Rattle.trace_labels.specs.declared.label.Label.TheVariants as line
use Rattle.value_parts.specs.Names.{lift_name}
use Rattle.value_parts.specs.declared.lifting.Origin.{Origin}
use Rattle.value_parts.specs.Loans.{lend_kept, one_moved, all_moved, may_lend, lent_slot}
use Rattle.value_parts.specs.Lifting.{over_table, settled, loaded, elements_lifted, flat_lifted, words_lifted, value_lifted}
use Rattle.abi_machine.specs.LiftingOver as machine
use Rattle.standing.specs.Channels.{HasMarkedEnds}
use Rattle.run_laws.proofs.LiftedOver.{every, load_same, load_list_same, lift_flat_same}
use Rattle.run_laws.proofs.keeping.still.EndsLifted.{Comes, IsOf, AllAre, load_gives, load_list_gives, lift_flat_gives}
use Rattle.run_laws.proofs.keeping.still.EndsTaken.{by_kinds, kinds_same, Comes_so, Marked, spends, takes}

-- Streams and futures stay.
abbrev pub Alike : Held → Held → Type 0
Alike h k = (k.streams ≡ h.streams) × (k.futures ≡ h.futures)

abbrev pub AlikeBy : {A : Type 0} → (A → Type 0) → Held → Done A → Type 0
AlikeBy V h (Gives x k) = V x × Alike h k
AlikeBy V h (Traps why k) = Unit {0}
AlikeBy V h (Spent k) = Unit {0}
AlikeBy V h Stuck = Unit {0}

abbrev pub Anything : {A : Type 0} → A → Type 0
Anything x = Unit {0}

alike_through : {A : Type 0} (V : A → Type 0) (h k : Held) (d : Done A) → Alike h k → AlikeBy V k d → AlikeBy V h d
alike_through V h k (Gives x l) p q = (q.0, (q.1.0 ∙ p.0, q.1.1 ∙ p.1))
alike_through V h k (Traps why l) p q = tt
alike_through V h k (Spent l) p q = tt
alike_through V h k Stuck p q = tt

pub alike_after : {A B : Type 0} (V : A → Type 0) (W : B → Type 0) (h : Held) (d : Done A) (f : A → Held → Done B) → AlikeBy V h d → ((x : A) (k : Held) → V x → Alike h k → AlikeBy W k (f x k))
    → AlikeBy W h (after d f)
alike_after V W h (Gives x k) f p q = alike_through W h k (f x k) p.1 (q x k p.0 p.1)
alike_after V W h (Traps why k) f p q = tt
alike_after V W h (Spent k) f p q = tt
alike_after V W h Stuck f p q = tt

pub alike_given : {A B : Type 0} (V : B → Type 0) (h : Held) (o : Option A) (f : A → Done B) → ((x : A) → o ≡ Some x → AlikeBy V h (f x)) → AlikeBy V h (given o f)
alike_given V h None f p = tt
alike_given V h (Some x) f p = p x refl

pub alike_if : {A : Type 0} (V : A → Type 0) (h : Held) (b : Bool) (d e : Done A) → (b ≡ true → AlikeBy V h d) → (b ≡ false → AlikeBy V h e) → AlikeBy V h (if b then d else e)
alike_if V h true d e p q = p refl
alike_if V h false d e p q = q refl

-- What moved.
one_alike : (at callee : ℕ) (one : Moved) (h : Held) → AlikeBy Anything h (one_moved at callee one h)
one_alike at callee (Lent handle) h =
    alike_after Anything Anything h (lend_kept callee handle h) (λ done k. told (line.Lend (at + 1) handle callee) k)
    (alike_given Anything h (slice_get h.tasks callee) (λ slot. if may_lend slot.caller then Gives (tt {0}) (with_task callee (lent_slot handle slot) h) else Stuck)
    (λ slot is. alike_if Anything h (may_lend slot.caller) (Gives (tt {0}) (with_task callee (lent_slot handle slot) h)) Stuck (λ e. (tt, (refl, refl))) (λ e. tt)))
    (λ done k v a. (tt, (refl, refl)))
one_alike at callee (Taken index) h =
    alike_given Anything h (slice_get h.instances at) (λ i. Gives (tt {0}) (with_instance at (with_sets (left index i.sets) i) h)) (λ i is. (tt, (refl, refl)))

all_alike : (at callee : ℕ) (moved : List Moved) (h : Held) → AlikeBy Anything h (all_moved at callee moved h)
all_alike at callee [] h = (tt, (refl, refl))
all_alike at callee (one ∷ moved) h =
    alike_after Anything Anything h (one_moved at callee one h) (λ done k. all_moved at callee moved k) (one_alike at callee one h) (λ done k v a. all_alike at callee moved k)

module _ (h : Held) (from : Origin) (t : Numbered) (distinct : AreDistinct t.types) (marked : HasMarkedEnds h) where
  abbrev Good : ValType → ℕ → Type 0
  Good type number = Comes_so h.streams h.futures t.types distinct type number

  abbrev Over : machine.Ledger (Kept WorldEntry) (Stop WorldEntry)
  Over = by_kinds t.types

  typed : (u : ValType) → (machine.part Over u).type ≡ u
  typed u = (every (over_table t.types) Over (kinds_same t.types) u).type_same

  -- What came, behind what moved.
  settles : {A : Type 0} (V : A → Type 0) (i : InstanceView) (came : Came (Kept WorldEntry) (Stop WorldEntry) A)
      → Comes Good Over (Marked h.streams h.futures t.types distinct) V came → AlikeBy V h (settled from i (tables.given came) h)
  settles V i (Ok x) v =
      alike_after Anything V h (all_moved from.at from.callee x.1.moved (with_instance from.at (with_slots x.1.slots i) h)) (λ done k. Gives x.0 k)
      (all_alike from.at from.callee x.1.moved (with_instance from.at (with_slots x.1.slots i) h)) (λ done k w a. (v.0, (refl, refl)))
  settles V i (Err stop) v =
      alike_after Anything V h (all_moved from.at from.callee stop.moved (with_instance from.at (with_slots stop.slots i) h)) (λ done k. Traps (lift_name stop.trap.why) k)
      (all_alike from.at from.callee stop.moved (with_instance from.at (with_slots stop.slots i) h)) (λ done k w a. tt)

  first : (i : InstanceView) (n : ℕ) → slice_get h.instances from.at ≡ Some i → Marked h.streams h.futures t.types distinct (at_first n i.slots [])
  first i n here index e stood = marked from.at index i e here stood

  loads : (what : LiftOf) (place : ℕ) → AlikeBy (IsOf Good t.val_type) h (loaded from what t place h)
  loads what place =
      alike_given (IsOf Good t.val_type) h (slice_get h.instances from.at)
      (λ i. settled from i (tables.given (load_by (over_table t.types) t.val_type (bytes_at from.memory h.store) place (at_first (most what) i.slots []))) h)
      (λ i here.
      settles (IsOf Good t.val_type) i (load_by (over_table t.types) t.val_type (bytes_at from.memory h.store) place (at_first (most what) i.slots []))
      (subst (λ (c : Came (Kept WorldEntry) (Stop WorldEntry) Value). Comes Good Over (Marked h.streams h.futures t.types distinct) (IsOf Good t.val_type) c)
      (load_same (over_table t.types) Over (kinds_same t.types) t.val_type (bytes_at from.memory h.store) place (at_first (most what) i.slots []))
      (load_gives Good Over (Marked h.streams h.futures t.types distinct) (spends h.streams h.futures t.types distinct) (takes h.streams h.futures t.types distinct) typed t.val_type
      (bytes_at from.memory h.store) place (at_first (most what) i.slots []) tt (first i (most what) here))))

  pub elements_come : (place count : ℕ) → AlikeBy (AllAre Good t.val_type) h (elements_lifted from t place count h)
  elements_come place count =
      alike_given (AllAre Good t.val_type) h (slice_get h.instances from.at)
      (λ i. settled from i (tables.given (load_list_by (over_table t.types) t.val_type (bytes_at from.memory h.store) place count (at_first (most whole.Value) i.slots []))) h)
      (λ i here.
      settles (AllAre Good t.val_type) i (load_list_by (over_table t.types) t.val_type (bytes_at from.memory h.store) place count (at_first (most whole.Value) i.slots []))
      (subst (λ (c : Came (Kept WorldEntry) (Stop WorldEntry) (List Value)). Comes Good Over (Marked h.streams h.futures t.types distinct) (AllAre Good t.val_type) c)
      (load_list_same (over_table t.types) Over (kinds_same t.types) t.val_type (bytes_at from.memory h.store) place count (at_first (most whole.Value) i.slots []))
      (load_list_gives Good Over (Marked h.streams h.futures t.types distinct) (spends h.streams h.futures t.types distinct) (takes h.streams h.futures t.types distinct) typed t.val_type
      (bytes_at from.memory h.store) place count (at_first (most whole.Value) i.slots []) tt (first i (most whole.Value) here))))

  flats : (what : LiftOf) (words : List ℕ) → length (flat t.val_type) ≤ length words → AlikeBy (IsOf Good t.val_type) h (flat_lifted from what t words h)
  flats what words room =
      alike_given (IsOf Good t.val_type) h (slice_get h.instances from.at)
      (λ i. settled from i (tables.given (lift_flat_by (over_table t.types) t.val_type (bytes_at from.memory h.store) words (at_first (most what) i.slots []))) h)
      (λ i here.
      settles (IsOf Good t.val_type) i (lift_flat_by (over_table t.types) t.val_type (bytes_at from.memory h.store) words (at_first (most what) i.slots []))
      (subst (λ (c : Came (Kept WorldEntry) (Stop WorldEntry) Value). Comes Good Over (Marked h.streams h.futures t.types distinct) (IsOf Good t.val_type) c)
      (lift_flat_same (over_table t.types) Over (kinds_same t.types) t.val_type (bytes_at from.memory h.store) words words (at_first (most what) i.slots []) (λ n less. refl) room)
      (lift_flat_gives Good Over (Marked h.streams h.futures t.types distinct) (spends h.streams h.futures t.types distinct) (takes h.streams h.futures t.types distinct) typed t.val_type
      (bytes_at from.memory h.store) words (at_first (most what) i.slots []) tt (first i (most what) here))))

  words_come : (what : LiftOf) (words : List ℕ) → AlikeBy (IsOf Good t.val_type) h (words_lifted from what t words h)
  words_come what words =
      alike_if (IsOf Good t.val_type) h (nat_lt (length words) (length (flat t.val_type))) Stuck (flat_lifted from what t (take (length (flat t.val_type)) words) h) (λ few. tt)
      (λ few.
      (let enough : length (flat t.val_type) ≤ length words = ltb-false (length words) (length (flat t.val_type)) few in
      let same : length (take (length (flat t.val_type)) words) ≡ length (flat t.val_type) = length-take-le (length (flat t.val_type)) words enough in
      flats what (take (length (flat t.val_type)) words) (omega (arith, same))))

  pub value_comes : (what : LiftOf) (limit : ℕ) (words : List ℕ) → AlikeBy (IsOf Good t.val_type) h (value_lifted from what limit t words h)
  unfolding value_lifted
  value_comes what limit words =
      alike_if (IsOf Good t.val_type) h (nat_lt limit (length (flat t.val_type))) (given (word_in words 0) (λ place. loaded from what t place h)) (words_lifted from what t words h)
      (λ e. alike_given (IsOf Good t.val_type) h (word_in words 0) (λ place. loaded from what t place h) (λ place is. loads what place)) (λ e. words_come what words)
