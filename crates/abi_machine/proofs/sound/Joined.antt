-- Members of sets stay members.
use Rattle.std.proofs.Common.{◌≡◌, ◌≢◌, ◌≤◌, ◌⊎◌, inl, inr, ℕ, zero, suc, ◌+◌, Bool, true, false, not, nat_eq, List, [], ◌∷◌, ◌++◌, refl, sym, ap, ◌∙◌, subst, arith, Option, Some, None, if◌then◌else◌}
use Rattle.std.proofs.lemmas.Bool.Decides.{nat_tests}
use Rattle.std.specs.Prelude.{◌==◌}
use Rattle.std.specs.List.{slice_get, AllByRecursion}
use Rattle.handle_table.specs.History.{Event, Remove, IsHistory, live, next_index}
use Rattle.handle_table.proofs.Freed.{not_live}
use Rattle.waitables.specs.Sets.{without}
use Rattle.waitables.specs.Sets as views
use Rattle.comp_graph.specs.Graph.{Graph}
use Rattle.script_reader.specs.Script.{Script}
use Rattle.abi_machine.specs.World.{Entry, OwnHandle, BorrowHandle, OfSubtask, OfSet, OfEnd, Inst, World, new_inst}
use Rattle.abi_machine.specs.Edits.{changed_at, added, by_views}
use Rattle.abi_machine.specs.Reading.{table_in, sets_in, members_in}
use Rattle.abi_machine.specs.sound.Changes.{Change, GoesTo, HasStore, SpendsUnit, UsesPicks, TakesItem, BeginsInstance, AddsEntry, MakesSet, RemovesEntry, RemovesWaitable, LeavesSet, JoinsSet, HasBackpressure, IsCalled, Calls, ComesBack, Acts, Begins, Cancels, Blocks, Exits, IsRemoved, Resolves, IsCancelled, HasWord, HasNewStack, HasStack, LosesStack, IsAnswered, IsTold, IsLent, HasResult, MakesChannel, Offers, Transfers, Concludes, DropsEnd, after, IsWaitable, IsLeft, MayCome}
use Rattle.abi_machine.specs.sound.Tables.{HaveHistories}
use Rattle.abi_machine.specs.sound.Members.{IsMember, times, times_in, HasMembers, HaveMembers, FirstHasMembers, MembersStay}
use Rattle.abi_machine.proofs.sound.Lists.{all_changed, all_more, all_as}
use Rattle.abi_machine.proofs.sound.Numbered.{changed_twice}
use Rattle.abi_machine.proofs.sound.Histories.{histories_kept}
use Rattle.abi_machine.proofs.sound.Sets.{left_sets, left_is, joined_is}
use Rattle.abi_machine.proofs.sound.Alone.{kept_alone}
use Rattle.abi_machine.proofs.sound.Aside.{channel_kept, made_kept}

-- What is live stays so where another entry is added or removed.

if_other : {A : Type 0} (b : Bool) (x y : A) → b ≡ false → (if b then x else y) ≡ y
if_other true x y e = cc
if_other false x y e = refl

not_same : (i j : ℕ) → i ≢ j → nat_eq i j ≡ false
not_same i j h = by (nat_eq i j) refl
  where
    by : (b : Bool) → nat_eq i j ≡ b → nat_eq i j ≡ false
    by true e = absurd (h (grind (arith, nat_tests)))
    by false e = e

pub live_added : (table : List (Event Entry)) (entry other : Entry) (index : ℕ) → IsHistory table → live table index ≡ Some other → live (added entry table) index ≡ Some other
live_added table entry other index history there =
    if_other (nat_eq (next_index table) index) (Some entry) (live table index)
    (not_same (next_index table) index (λ same. let none : live table index ≡ None = subst (λ (k : ℕ). live table k ≡ None) same (not_live table history) in cc)) ∙ there

pub live_removed : (table : List (Event Entry)) (gone index : ℕ) (other : Entry) → gone ≢ index → live table index ≡ Some other → live (Remove gone ∷ table) index ≡ Some other
live_removed table gone index other apart there = if_other (nat_eq gone index) None (live table index) (not_same gone index apart) ∙ there

-- The members of a set, and how often an index is one.

times_step : (index m other : ℕ) (rest : ℕ) (members : List ℕ) (b : Bool) → times index (without other members) ≤ rest
    → times index (if not b then m ∷ without other members else without other members) ≤ (if nat_eq index m then 1 else 0) + rest
times_step index m other rest members true less = omega (arith, less)
times_step index m other rest members false less = omega (arith, less)

times_without : (index other : ℕ) (members : List ℕ) → times index (without other members) ≤ times index members
times_without index other [] = omega arith
times_without index other (m ∷ members) = times_step index m other (times index members) members (m == other) (times_without index other members)

unequal : (m index : ℕ) → (m == index) ≡ false → nat_eq index m ≡ false
unequal m index e = not_same index m (λ same. let equal : (m == index) ≡ true = grind (arith, nat_tests, same) in cc)

gone_step : (m index : ℕ) (members : List ℕ) (b : Bool) → (m == index) ≡ b → times index (without index members) ≡ 0 → times index (if not b then m ∷ without index members else without index members) ≡ 0
gone_step m index members true e none = none
gone_step m index members false e none =
    let zero_plus : 0 + times index (without index members) ≡ 0 = omega (arith, none) in
    ap (λ (c : Bool). (if c then 1 else 0) + times index (without index members)) (unequal m index e) ∙ zero_plus

times_gone : (index : ℕ) (members : List ℕ) → times index (without index members) ≡ 0
times_gone index [] = refl
times_gone index (m ∷ members) = gone_step m index members (m == index) refl (times_gone index members)

times_more : (index other : ℕ) (members : List ℕ) → times index (members ++ other ∷ []) ≡ times index members + (if nat_eq index other then 1 else 0)
times_more index other [] = omega arith
times_more index other (m ∷ members) =
    let more : times index (members ++ other ∷ []) ≡ times index members + (if nat_eq index other then 1 else 0) = times_more index other members in
    omega (arith, more)

in_less : (index other : ℕ) (sets : List (List ℕ)) → times_in index (left_sets other sets) ≤ times_in index sets
in_less index other [] = omega arith
in_less index other (members ∷ sets) =
    let first : times index (without other members) ≤ times index members = times_without index other members in
    let rest : times_in index (left_sets other sets) ≤ times_in index sets = in_less index other sets in
    omega (arith, first, rest)

in_none : (index : ℕ) (sets : List (List ℕ)) → times_in index (left_sets index sets) ≡ 0
in_none index [] = refl
in_none index (members ∷ sets) =
    let first : times index (without index members) ≡ 0 = times_gone index members in
    let rest : times_in index (left_sets index sets) ≡ 0 = in_none index sets in
    omega (arith, first, rest)

in_more : (index other set : ℕ) (sets : List (List ℕ))
    → times_in index (changed_at set (λ members. members ++ other ∷ []) sets) ≤ times_in index sets + (if nat_eq index other then 1 else 0)
in_more index other set [] = omega arith
in_more index other zero (members ∷ sets) =
    let more : times index (members ++ other ∷ []) ≡ times index members + (if nat_eq index other then 1 else 0) = times_more index other members in
    omega (arith, more)
in_more index other (suc set) (members ∷ sets) =
    let rest : times_in index (changed_at set (λ members. members ++ other ∷ []) sets) ≤ times_in index sets + (if nat_eq index other then 1 else 0) = in_more index other set sets in
    omega (arith, rest)

in_last : (index : ℕ) (sets : List (List ℕ)) → times_in index (sets ++ [] ∷ []) ≡ times_in index sets
in_last index [] = refl
in_last index (members ∷ sets) = ap (λ (n : ℕ). times index members + n) (in_last index sets)

joined_once : (index other set : ℕ) (sets : List (List ℕ)) → times_in index sets ≤ 1 → times_in index (changed_at set (λ members. members ++ other ∷ []) (left_sets other sets)) ≤ 1
joined_once index other set sets once = by (nat_eq index other) refl
  where
    more : times_in index (changed_at set (λ members. members ++ other ∷ []) (left_sets other sets)) ≤ times_in index (left_sets other sets) + (if nat_eq index other then 1 else 0)
    more = in_more index other set (left_sets other sets)

    by : (b : Bool) → nat_eq index other ≡ b → times_in index (changed_at set (λ members. members ++ other ∷ []) (left_sets other sets)) ≤ 1
    by true e =
        let same : index ≡ other = grind (arith, nat_tests) in
        let none : times_in index (left_sets other sets) ≡ 0 = ap (λ (k : ℕ). times_in index (left_sets k sets)) (sym same) ∙ in_none index sets in
        let one : times_in index (changed_at set (λ members. members ++ other ∷ []) (left_sets other sets)) ≤ times_in index (left_sets other sets) + 1 =
        subst (λ (c : Bool). times_in index (changed_at set (λ members. members ++ other ∷ []) (left_sets other sets)) ≤ times_in index (left_sets other sets) + (if c then 1 else 0)) e more in
        omega (arith, none, one)
    by false e =
        let less : times_in index (left_sets other sets) ≤ times_in index sets = in_less index other sets in
        let zero_more : times_in index (changed_at set (λ members. members ++ other ∷ []) (left_sets other sets)) ≤ times_in index (left_sets other sets) + 0 =
        subst (λ (c : Bool). times_in index (changed_at set (λ members. members ++ other ∷ []) (left_sets other sets)) ≤ times_in index (left_sets other sets) + (if c then 1 else 0)) e more in
        omega (arith, less, zero_more, once)

-- Members.

abbrev All : List (Event Entry) → List ℕ → Type 0
All table members = AllByRecursion (IsMember table) members

abbrev AllIn : List (Event Entry) → List (List ℕ) → Type 0
AllIn table sets = AllByRecursion (All table) sets

all_in_as : (table other : List (Event Entry)) → ((index : ℕ) → IsMember table index → IsMember other index) → (sets : List (List ℕ)) → AllIn table sets → AllIn other sets
all_in_as table other f sets h = all_as (All table) (All other) (λ members k. all_as (IsMember table) (IsMember other) f members k) sets h

without_step : (table other : List (Event Entry)) (gone m : ℕ) (members : List ℕ) (b : Bool) → (m == gone) ≡ b → ((index : ℕ) → gone ≢ index → IsMember table index → IsMember other index)
    → IsMember table m → All other (without gone members) → All other (if not b then m ∷ without gone members else without gone members)
without_step table other gone m members true e f h rest = rest
without_step table other gone m members false e f h rest = (f m (λ same. let equal : (m == gone) ≡ true = grind (arith, nat_tests, same) in cc) h, rest)

all_without : (table other : List (Event Entry)) (gone : ℕ) (members : List ℕ) → ((index : ℕ) → gone ≢ index → IsMember table index → IsMember other index) → All table members → All other (without gone members)
all_without table other gone [] f h = tt
all_without table other gone (m ∷ members) f h = without_step table other gone m members (m == gone) refl f h.0 (all_without table other gone members f h.1)

all_left : (table other : List (Event Entry)) (gone : ℕ) (sets : List (List ℕ)) → ((index : ℕ) → gone ≢ index → IsMember table index → IsMember other index) → AllIn table sets → AllIn other (left_sets gone sets)
all_left table other gone [] f h = tt
all_left table other gone (members ∷ sets) f h = (all_without table other gone members f h.0, all_left table other gone sets f h.1)

-- a set with members had some before a waitable left it
some_before : (gone first : ℕ) (members rest : List ℕ) → without gone members ≡ first ∷ rest → (f : ℕ) × ((r : List ℕ) × (members ≡ f ∷ r))
some_before gone first [] rest e = cc
some_before gone first (m ∷ members) rest e = (m, (members, refl))

left_before : (gone : ℕ) (sets : List (List ℕ)) (n first : ℕ) (rest : List ℕ) → slice_get (left_sets gone sets) n ≡ Some (first ∷ rest) → (f : ℕ) × ((r : List ℕ) × (slice_get sets n ≡ Some (f ∷ r)))
left_before gone [] n first rest e = cc
left_before gone (members ∷ sets) zero first rest e =
    let b = some_before gone first members rest cc in (b.0, (b.1.0, ap (λ (l : List ℕ). Some l) b.1.1))
left_before gone (members ∷ sets) (suc n) first rest e = left_before gone sets n first rest e

last_before : (sets : List (List ℕ)) (n first : ℕ) (rest : List ℕ) → slice_get (sets ++ [] ∷ []) n ≡ Some (first ∷ rest) → slice_get sets n ≡ Some (first ∷ rest)
last_before [] zero first rest e = cc
last_before [] (suc n) first rest e = cc
last_before (members ∷ sets) zero first rest e = e
last_before (members ∷ sets) (suc n) first rest e = last_before sets n first rest e

joined_before : (set : ℕ) (f : List ℕ → List ℕ) (sets : List (List ℕ)) (n : ℕ) (members : List ℕ) → slice_get (changed_at set f sets) n ≡ Some members → (n ≡ set) ⊎ (slice_get sets n ≡ Some members)
joined_before set f [] n members e = inr e
joined_before zero f (x ∷ sets) zero members e = inl refl
joined_before zero f (x ∷ sets) (suc n) members e = inr e
joined_before (suc set) f (x ∷ sets) zero members e = inr e
joined_before (suc set) f (x ∷ sets) (suc n) members e = elim (joined_before set f sets n members e) [
  | inl same ↦ inl (ap suc same)
  | inr old ↦ inr old
]

waitable_is_no_set : (entry : Entry) (set : ℕ) → IsWaitable entry → entry ≢ OfSet set
waitable_is_no_set (OwnHandle resource rep) set h e = absurd h
waitable_is_no_set (BorrowHandle resource rep task) set h e = absurd h
waitable_is_no_set (OfSubtask callee) set h e = cc
waitable_is_no_set (OfSet other) set h e = absurd h
waitable_is_no_set (OfEnd r) set h e = cc

-- A member goes on being one: at another index than what is removed.
still_member : (table : List (Event Entry)) (gone index : ℕ) → gone ≢ index → IsMember table index → IsMember (Remove gone ∷ table) index
still_member table gone index apart m = (m.0, live_removed table gone index m.0 apart m.1, m.2)

members_added : (table : List (Event Entry)) (sets : List (List ℕ)) (entry : Entry) → IsHistory table → HasMembers table sets → HasMembers (added entry table) sets
members_added table sets entry history h = record {
  waitable = all_in_as table (added entry table) (λ index m. (m.0, live_added table entry m.0 index history m.1, m.2)) sets h.waitable;
  once = h.once;
  held = λ set first members e. (let held = h.held set first members e in (held.0, live_added table entry (OfSet set) held.0 history held.1));
}

members_set : (table : List (Event Entry)) (sets : List (List ℕ)) (entry : Entry) → IsHistory table → HasMembers table sets → HasMembers (added entry table) (sets ++ [] ∷ [])
members_set table sets entry history h =
    let more = members_added table sets entry history h in
    record {
      waitable = all_more (All (added entry table)) sets [] more.waitable tt;
      once = λ index. subst (λ (n : ℕ). n ≤ 1) (sym (in_last index sets)) (h.once index);
      held = λ set first members e. more.held set first members (last_before sets set first members e);
    }

-- what is taken out by itself is no waitable, and no set with members
abbrev IsLeftIn : List (List ℕ) → Entry → Type 0
IsLeftIn sets (OwnHandle resource rep) = Unit {0}
IsLeftIn sets (BorrowHandle resource rep task) = Unit {0}
IsLeftIn sets (OfSubtask callee) = ⊥
IsLeftIn sets (OfSet set) = members_in (slice_get sets set) ≡ []
IsLeftIn sets (OfEnd e) = ⊥

left_is_no_member : (sets : List (List ℕ)) (entry : Entry) → IsLeftIn sets entry → IsWaitable entry → ⊥
left_is_no_member sets (OwnHandle resource rep) h k = k
left_is_no_member sets (BorrowHandle resource rep task) h k = k
left_is_no_member sets (OfSubtask callee) h k = h
left_is_no_member sets (OfSet set) h k = k
left_is_no_member sets (OfEnd r) h k = h

left_is_no_set : (sets : List (List ℕ)) (entry : Entry) (set first : ℕ) (members : List ℕ) → IsLeftIn sets entry → slice_get sets set ≡ Some (first ∷ members) → entry ≢ OfSet set
left_is_no_set sets (OwnHandle resource rep) set first members h there e = cc
left_is_no_set sets (BorrowHandle resource rep task) set first members h there e = cc
left_is_no_set sets (OfSubtask callee) set first members h there e = h
left_is_no_set sets (OfSet other) set first members h there e =
    let same : other ≡ set = cc in
    let none : members_in (slice_get sets set) ≡ [] = subst (λ (k : ℕ). members_in (slice_get sets k) ≡ []) same h in
    let some : members_in (slice_get sets set) ≡ first ∷ members = ap members_in there in
    let both : first ∷ members ≡ [] = sym some ∙ none in cc
left_is_no_set sets (OfEnd r) set first members h there e = h

-- two indices at which different entries stand
other_index : (table : List (Event Entry)) (one other : ℕ) (x y : Entry) → live table one ≡ Some x → live table other ≡ Some y → x ≢ y → one ≢ other
other_index table one other x y e f differ same =
    differ (let there : live table one ≡ Some y = ap (λ (k : ℕ). live table k) same ∙ f in cc)

members_removed : (table : List (Event Entry)) (sets : List (List ℕ)) (gone : ℕ) (entry : Entry) → live table gone ≡ Some entry → IsLeftIn sets entry → HasMembers table sets → HasMembers (Remove gone ∷ table) sets
members_removed table sets gone entry there left h = record {
  waitable =
      all_in_as table (Remove gone ∷ table)
      (λ index m.
      still_member table gone index
      (other_index table gone index entry m.0 there m.1 (λ same. left_is_no_member sets entry left (subst IsWaitable (sym same) m.2))) m) sets h.waitable;
  once = h.once;
  held = λ set first members e. (
      let held = h.held set first members e in
      (held.0, live_removed table gone held.0 (OfSet set) (other_index table gone held.0 entry (OfSet set) there held.1 (left_is_no_set sets entry set first members left e)) held.1)
      );
}

members_left : (table : List (Event Entry)) (sets : List (List ℕ)) (gone : ℕ) → HasMembers table sets → HasMembers table (left_sets gone sets)
members_left table sets gone h = record {
  waitable = all_left table table gone sets (λ index apart m. m) h.waitable;
  once = λ index. (let less : times_in index (left_sets gone sets) ≤ times_in index sets = in_less index gone sets in let one : times_in index sets ≤ 1 = h.once index in omega (arith, less, one));
  held = λ set first members e. (let b = left_before gone sets set first members e in h.held set b.0 b.1.0 b.1.1);
}

members_gone : (table : List (Event Entry)) (sets : List (List ℕ)) (gone : ℕ) (entry : Entry) → live table gone ≡ Some entry → IsWaitable entry → HasMembers table sets
    → HasMembers (Remove gone ∷ table) (left_sets gone sets)
members_gone table sets gone entry there waits h =
    let left = members_left table sets gone h in
    record {
      waitable = all_left table (Remove gone ∷ table) gone sets (λ index apart m. still_member table gone index apart m) h.waitable;
      once = left.once;
      held = λ set first members e. (
          let held = left.held set first members e in
          (held.0, live_removed table gone held.0 (OfSet set) (other_index table gone held.0 entry (OfSet set) there held.1 (waitable_is_no_set entry set waits)) held.1)
          );
    }

members_joined : (table : List (Event Entry)) (sets : List (List ℕ)) (index set other : ℕ) → IsMember table index → live table other ≡ Some (OfSet set) → HasMembers table sets
    → HasMembers table (changed_at set (λ members. members ++ index ∷ []) (left_sets index sets))
members_joined table sets index set other member there h =
    let left = members_left table sets index h in
    record {
      waitable =
          all_changed (All table) set (λ members. members ++ index ∷ []) (left_sets index sets) (λ members e k. all_more (IsMember table) members index k member) left.waitable;
      once = λ k. joined_once k index set sets (h.once k);
      held = λ n first members e. elim (joined_before set (λ members. members ++ index ∷ []) (left_sets index sets) n (first ∷ members) e) [
        | inl same ↦ (other, subst (λ (k : ℕ). live table other ≡ Some (OfSet k)) (sym same) there)
        | inr old ↦ left.held n first members old
      ];
    }

no_members : HasMembers [] []
no_members = record { waitable = tt; once = λ index. omega arith; held = λ set first members e. cc }

-- Instances.

abbrev Has : Inst → Type 0
Has inst = HasMembers inst.table inst.sets

abbrev HasBoth : Inst → Type 0
HasBoth inst = IsHistory inst.table × HasMembers inst.table inst.sets

both : (insts : List Inst) → HaveHistories insts → HaveMembers insts → AllByRecursion HasBoth insts
both [] h k = tt
both (x ∷ insts) h k = ((h.0, k.0), both insts h.1 k.1)

-- a change of an instance that keeps its members, where its table has a history
inst_changed : (i : ℕ) (f : Inst → Inst) (insts : List Inst) → ((x : Inst) → slice_get insts i ≡ Some x → IsHistory x.table → Has x → Has (f x)) → HaveHistories insts → HaveMembers insts → HaveMembers (changed_at i f insts)
inst_changed i f [] keeps h k = tt
inst_changed zero f (x ∷ insts) keeps h k = (keeps x refl h.0 k.0, k.1)
inst_changed (suc i) f (x ∷ insts) keeps h k = (k.0, inst_changed i f insts keeps h.1 k.1)

left_in : (w : World) (i : ℕ) (x : Inst) (entry : Entry) → slice_get w.insts i ≡ Some x → IsLeft w i entry → IsLeftIn x.sets entry
left_in w i x (OwnHandle resource rep) e h = tt
left_in w i x (BorrowHandle resource rep task) e h = tt
left_in w i x (OfSubtask callee) e h = h
left_in w i x (OfSet set) e h = subst (λ (o : Option Inst). members_in (slice_get (sets_in o) set) ≡ []) e h
left_in w i x (OfEnd r) e h = h

pub live_in : (insts : List Inst) (i index : ℕ) (x : Inst) (entry : Entry) → slice_get insts i ≡ Some x → live (table_in (slice_get insts i)) index ≡ Some entry → live x.table index ≡ Some entry
live_in insts i index x entry e h = subst (λ (o : Option Inst). live (table_in o) index ≡ Some entry) e h

abbrev Kept : World → Type 0
Kept w = HaveHistories w.insts × HaveMembers w.insts

members_kept : (g : Graph) (s : Script) (c : Change) (w : World) → MayCome g s c w → Kept w → HaveMembers (after c w).insts
members_kept g s BeginsInstance w may h = all_more Has w.insts new_inst h.1 no_members
members_kept g s (AddsEntry i entry) w may h = inst_changed i _ w.insts (λ x e history p. members_added x.table x.sets entry history p) h.0 h.1
members_kept g s (MakesSet i set) w may h =
    subst HaveMembers
    (sym (changed_twice i (λ (inst : Inst). record inst { table = added (OfSet set) inst.table }) (λ (inst : Inst). record inst { sets = inst.sets ++ [] ∷ [] }) w.insts))
    (inst_changed i (λ inst. record inst { table = added (OfSet set) inst.table; sets = inst.sets ++ [] ∷ [] }) w.insts (λ x e history p. members_set x.table x.sets (OfSet set) history p) h.0 h.1)
members_kept g s (RemovesEntry i index) w may h =
    inst_changed i _ w.insts (λ x e history p. members_removed x.table x.sets index may.0 (live_in w.insts i index x may.0 e may.1) (left_in w i x may.0 e may.2) p) h.0 h.1
members_kept g s (RemovesWaitable i index) w may h =
    subst HaveMembers
    (sym (changed_twice i (λ (inst : Inst). record inst { table = Remove index ∷ inst.table }) (λ (inst : Inst). record inst { sets = by_views (views.left index) inst.sets }) w.insts))
    (inst_changed i (λ inst. record inst { table = Remove index ∷ inst.table; sets = by_views (views.left index) inst.sets }) w.insts
    (λ x e history p.
    subst (HasMembers (Remove index ∷ x.table)) (sym (left_is index x.sets)) (members_gone x.table x.sets index may.0 (live_in w.insts i index x may.0 e may.1) may.2 p)) h.0 h.1)
members_kept g s (LeavesSet i index) w may h = inst_changed i _ w.insts (λ x e history p. subst (HasMembers x.table) (sym (left_is index x.sets)) (members_left x.table x.sets index p)) h.0 h.1
members_kept g s (JoinsSet i index set) w may h =
    inst_changed i _ w.insts
    (λ x e history p.
    subst (HasMembers x.table) (sym (joined_is index set x.sets))
    (members_joined x.table x.sets index set may.1.0 (may.0.0, live_in w.insts i index x may.0.0 e may.0.1, may.0.2) (live_in w.insts i may.1.0 x (OfSet set) e may.1.1) p)) h.0 h.1
members_kept g s (HasBackpressure i pressure) w may h = inst_changed i _ w.insts (λ x e history p. p) h.0 h.1
members_kept g s (MakesChannel kind element) w may h = made_kept (λ v. HaveMembers v.insts) (λ v x k. k) (λ v x k. k) kind element w h.1
members_kept g s (Offers e call) w may h = channel_kept (λ v. HaveMembers v.insts) (λ v x k. k) (λ v x k. k) e.kind e.number _ w h.1
members_kept g s (Transfers e size values) w may h =
    channel_kept (λ v. HaveMembers v.insts) (λ v x k. k) (λ v x k. k) e.kind e.number _ _ (channel_kept (λ v. HaveMembers v.insts) (λ v x k. k) (λ v x k. k) e.kind e.number _ w h.1)
members_kept g s (Concludes e) w may h = channel_kept (λ v. HaveMembers v.insts) (λ v x k. k) (λ v x k. k) e.kind e.number _ w h.1
members_kept g s (DropsEnd e) w may h = channel_kept (λ v. HaveMembers v.insts) (λ v x k. k) (λ v x k. k) e.kind e.number _ w h.1
members_kept g s (GoesTo control) w may h = h.1
members_kept g s (HasStore store) w may h = h.1
members_kept g s SpendsUnit w may h = h.1
members_kept g s (UsesPicks picks) w may h = h.1
members_kept g s TakesItem w may h = h.1
members_kept g s (IsCalled callee call values) w may h = h.1
members_kept g s (Calls number callee subtask words) w may h = h.1
members_kept g s (ComesBack t) w may h = h.1
members_kept g s (Acts t) w may h = h.1
members_kept g s (Begins n) w may h = h.1
members_kept g s (Cancels t callee number words) w may h = h.1
members_kept g s (Blocks t state) w may h = h.1
members_kept g s (Exits t) w may h = h.1
members_kept g s (IsRemoved t) w may h = h.1
members_kept g s (Resolves t resolution) w may h = h.1
members_kept g s (IsCancelled t cancellation) w may h = h.1
members_kept g s (HasWord t slot word) w may h = h.1
members_kept g s (HasNewStack t k) w may h = h.1
members_kept g s (HasStack t k) w may h = h.1
members_kept g s (LosesStack t) w may h = h.1
members_kept g s (IsAnswered t words) w may h = h.1
members_kept g s (IsTold t state) w may h = h.1
members_kept g s (IsLent t handle) w may h = h.1
members_kept g s (HasResult t words) w may h = h.1

pub first_has_members : FirstHasMembers
first_has_members g = tt

pub members_stay : MembersStay
members_stay g s w v labels alone history h e =
    (kept_alone g s Kept (λ c u may k. (histories_kept g s c u may k.0, members_kept g s c u may k)) w v labels alone (history, h) e).1
