-- Values that are lifted over what is kept.
use Rattle.std.proofs.Common.{◌≡◌, ◌∙◌, ◌≤◌, ℕ, zero, suc, Bool, true, false, ◌&&◌, nat_lt, if◌then◌else◌, List, [], ◌∷◌, ◌++◌, map, take, length, slice_index, refl, sym, ap, subst, arith, append-nil, length-take, Option, Some, None, Result, Ok, Err}
use Rattle.std.proofs.lemmas.Bool.{ltb-false}
use Rattle.std.specs.List.{slice_get, flat_map}
use Rattle.std.specs.Option.{option_map}
use Rattle.wasm_store.specs.Stack.{Stack}
use Rattle.wasm_store.specs.Store.{Store}
use Rattle.syntax_trees.specs.declared.core_type.CoreType.{CoreType}
use Rattle.syntax_trees.specs.declared.types.ValType.{ValType, out-ValType}
use Rattle.syntax_trees.specs.declared.types.FuncType.{FuncType}
use Rattle.syntax_trees.specs.declared.types.Param.{Param}
use Rattle.syntax_trees.specs.declared.value.Value.{Value}
use Rattle.syntax_trees.specs.Flat.{flat, flat_params, all_of}
use Rattle.laid_types.specs.Handles.{has_borrow}
use Rattle.laid_types.specs.Known.{Numbered}
use Rattle.handle_table.specs.Slots.{Slots}
use Rattle.value_lift.specs.declared.counting.LiftOf.{LiftOf}
use Rattle.value_lift.specs.declared.counting.LiftOf.TheVariants as whole
use Rattle.value_lift.specs.declared.moved.Moved.{Moved}
use Rattle.value_lift.specs.Lifting.{most, tuple_case}
use Rattle.value_lift.specs.Over as code
use Rattle.value_lift.specs.Tables as tables
use Rattle.value_lift.proofs.Both.{Both}
use Rattle.value_lift.proofs.WordStood.{flat_of_tuple}
use Rattle.value_lift.proofs.BesideTypes.{loads_alike, lists_alike, words_alike}
use Rattle.value_lift.proofs.Beside.{Carries, AllCarry}
use Rattle.value_lift.proofs.Carried.{carried_same, all_carried_same}
use Rattle.comp_graph.specs.declared.graph.Options.{Options}
use Rattle.comp_graph.specs.Graph.{Graph}
use Rattle.graph_views.specs.Canons as seen_canons
use Rattle.script_reader.specs.Script.{Script}
use Rattle.trace_labels.specs.declared.label.Label.{Label}
use Rattle.trace_labels.specs.declared.typed.TypedValue.{TypedValue}
use Rattle.instances.specs.declared.entry.WorldEntry.{WorldEntry}
use Rattle.instances.specs.Instances.{InstanceView, with_slots}
use Rattle.task_table.specs.declared.slot.TaskSlot.{TaskSlot}
use Rattle.world_parts.specs.Held as kept
use Rattle.world_parts.specs.Held.{Held, Done, Gives, Traps, Spent, after, given}
use Rattle.world_parts.specs.Entries.{with_instance}
use Rattle.world_parts.specs.Places as places
use Rattle.world_parts.specs.Places.{bytes_at}
use Rattle.world_parts.specs.Slots as slots
use Rattle.world_parts.specs.Slots.{word_in}
use Rattle.value_parts.specs.declared.lifting.Origin.{Origin}
use Rattle.value_parts.specs.Loans.{all_moved}
use Rattle.value_parts.specs.Names as part_names
use Rattle.value_parts.specs.Lifting.{over_table, settled, loaded, elements_lifted, flat_lifted, words_lifted, value_lifted}
use Rattle.value_parts.specs.Passing as part_passing
use Rattle.abi_machine.specs.LiftingOver as machine
use Rattle.abi_machine.specs.World.{World}
use Rattle.abi_machine.specs.Canons.{memory_of, bytes_of, inst_of_canon, options_of_canon}
use Rattle.abi_machine.specs.Lifting.{Kept, Stopped, Came, by_world, nothing_lifted}
use Rattle.abi_machine.specs.Passing as passing
use Rattle.abi_machine.specs.Passing.{params_type, passed_limit}
use Rattle.abi_machine.specs.Entering as entering
use Rattle.abi_machine.specs.Returning as returning
use Rattle.abi_machine.proofs.sound.Lifts as lifts
use Rattle.standing.proofs.InPlace.{makers_alike}
use Rattle.standing.proofs.Lists.{set_same}
use Rattle.standing.proofs.Found.{word_is}
use Rattle.standing.proofs.Memories.{bytes_alike}
use Rattle.run_laws.specs.Taking.{StandsMarked, CalledFrom}
use Rattle.run_laws.specs.Lifted.{TaskStays, Leaves, LiftAgrees, LendsFrom, ArgumentsLift, ResultsLift, ElementsLift}
use Rattle.run_laws.proofs.Canons.{options_same}
use Rattle.run_laws.proofs.Lending.{itself_stays}
use Rattle.run_laws.proofs.Moved.{all_same, slotted, over, slotted_is, moved_over}
use Rattle.run_laws.proofs.LiftedLayers.{IsFront}
use Rattle.run_laws.proofs.LiftedOver.{load_same, load_list_same, lift_flat_same}
use Rattle.run_laws.proofs.Ledgers.{Halted, by_types, types_same, halting, halting_world, halts_same, GoesWith, StopsWith, itself, halting_beside, OnlyLent, load_only, load_list_only, lift_flat_only}
use Rattle.run_laws.proofs.Uses.{may_lend_in, Goes, BesideWorld, EndsBeside, beside_world}

-- What is kept behind what lifting moved.
settled_stuck : {A : Type 0} (at callee : ℕ) (h : Held) (i : InstanceView) (s : Slots WorldEntry) (moved : List Moved) (f : Held → Done A) → slice_get h.instances at ≡ Some i
    → all_moved at callee moved h ≡ kept.Stuck → after (all_moved at callee moved (with_instance at (with_slots s i) h)) (λ (done : Unit {0}) k. f k) ≡ kept.Stuck
settled_stuck at callee h i s moved f there stuck =
    ap (λ (k : Held). after (all_moved at callee moved k) (λ (done : Unit {0}) k. f k)) (slotted_is at s h i there)
    ∙ ap (λ (d : Done (Unit {0})). after d (λ (done : Unit {0}) k. f k)) (moved_over at callee s moved h)
    ∙ ap (λ (d : Done (Unit {0})). after (over at s d) (λ (done : Unit {0}) k. f k)) stuck

settled_to : {A : Type 0} (at callee : ℕ) (h base : Held) (i : InstanceView) (s : Slots WorldEntry) (moved : List Moved) (f : Held → Done A) → slice_get h.instances at ≡ Some i
    → all_moved at callee moved h ≡ Gives tt base → after (all_moved at callee moved (with_instance at (with_slots s i) h)) (λ (done : Unit {0}) k. f k) ≡ f (slotted at s base)
settled_to at callee h base i s moved f there is =
    ap (λ (k : Held). after (all_moved at callee moved k) (λ (done : Unit {0}) k. f k)) (slotted_is at s h i there)
    ∙ ap (λ (d : Done (Unit {0})). after d (λ (done : Unit {0}) k. f k)) (moved_over at callee s moved h)
    ∙ ap (λ (d : Done (Unit {0})). after (over at s d) (λ (done : Unit {0}) k. f k)) is

module _ (g : Graph) (values : List ValType) (s : Script) (h : Held) (stacks : List (List Stack)) (w : World) (from : Origin) (i : InstanceView)
    (there : slice_get h.instances from.at ≡ Some i) (marked : StandsMarked g values s h stacks w) where
  abbrev L : Held → List Label → World → Type 0
  L = Leaves g values s h stacks w

  abbrev may : Bool
  may = may_lend_in (slice_get h.tasks from.callee)

  -- before anything is lifted
  slotted_first : slotted from.at i.slots h ≡ h
  slotted_first = sym (slotted_is from.at i.slots h i there) ∙ ap (λ (all : List InstanceView). record h { instances = all }) (set_same h.instances from.at i there)

  first_leaves : L (slotted from.at i.slots h) [] w
  first_leaves = record {
    stands = subst (λ (k : Held). StandsMarked g values s k stacks w) (sym slotted_first) marked;
    told = sym (append-nil h.labels);
    kept_rest = refl;
    world_rest = refl;
    same_tasks = refl;
    tasks_stay = all_same TaskStays w.tasks itself_stays;
  }

  module _ (c : Bool) (lends : c ≡ true → CalledFrom w from.at from.callee) where
    abbrev flag : Bool
    flag = c && may

    abbrev Kind : tables.Kept WorldEntry → Result Kept Halted → Type 0
    Kind = BesideWorld g values s h stacks w from.at from.callee c may

    abbrev Ends : tables.Stop WorldEntry → Halted → Type 0
    Ends = EndsBeside g values s h stacks w from.at from.callee c may

    first_goes : (many : ℕ) → Goes g values s h stacks w from.at from.callee c may (tables.at_first many i.slots []) (nothing_lifted many w)
    first_goes many = record {
      left_same = refl;
      base = h;
      inst = i;
      moved = refl;
      there = there;
      leaves = first_leaves;
      lender = refl;
      from = lends;
    }

    -- What code comes to over the table agrees with what the machine lifts.
    abbrev CodeCame : Type 0 → Type 0
    CodeCame A = Result (A × tables.Kept WorldEntry) (tables.Stop WorldEntry)

    abbrev HaltCame : Type 0 → Type 0
    HaltCame A = Result (A × Kept) Halted

    stuck_agrees : {A : Type 0} (d : Done A) (came : Came A) → d ≡ kept.Stuck → LiftAgrees L d came
    stuck_agrees d came e = subst (λ d. LiftAgrees L d came) (sym e) tt

    late_value : {A : Type 0} (x : A × tables.Kept WorldEntry) (came : Came A) → c ≡ true → Kind x.1 (Err None) → LiftAgrees L (settled from i (tables.given (let k : CodeCame A = Ok x in k)) h) came
    late_value {A} x came borrows late =
        stuck_agrees (settled from i (tables.given (let k : CodeCame A = Ok x in k)) h) came (settled_stuck from.at from.callee h i x.1.slots x.1.moved (λ k. Gives x.0 k) there (late borrows))

    late_stop : {A : Type 0} (stop : tables.Stop WorldEntry) (came : Came A) → c ≡ true → Ends stop None → LiftAgrees L (settled from i (tables.given (let k : CodeCame A = Err stop in k)) h) came
    late_stop {A} stop came borrows late =
        stuck_agrees (settled from i (tables.given (let k : CodeCame A = Err stop in k)) h) came
        (settled_stuck from.at from.callee h i stop.slots stop.moved (λ k. (let d : Done A = Traps (part_names.lift_name stop.trap.why) k in d)) there (late borrows))

    value_agrees : {A : Type 0} (x : A × tables.Kept WorldEntry) (y z : A × Kept) → z.0 ≡ x.0 → z.1 ≡ y.1 → Kind x.1 (Ok y.1)
        → LiftAgrees L (settled from i (tables.given (let k : CodeCame A = Ok x in k)) h) (let came : Came A = Ok z in came)
    value_agrees {A} x y z same kept_same b =
        subst (λ (d : Done A). LiftAgrees L d (let came : Came A = Ok z in came))
        (sym (settled_to from.at from.callee h b.base i x.1.slots x.1.moved (λ k. Gives x.0 k) there b.moved))
        (record {
          now = y.1;
          is = ap (λ (v : A). (let came : Came A = Ok (v, z.1) in came)) same ∙ ap (λ (k : Kept). (let came : Came A = Ok (x.0, k) in came)) kept_same;
          leaves = b.leaves;
        })

    stop_agrees : (A : Type 0) (stop : tables.Stop WorldEntry) (other machine_stop : Stopped) → machine_stop ≡ other → Ends stop (Some other)
        → LiftAgrees L (settled from i (tables.given (let k : CodeCame A = Err stop in k)) h) (let came : Came A = Err machine_stop in came)
    stop_agrees A stop other machine_stop same b =
        subst (λ (d : Done A). LiftAgrees L d (let came : Came A = Err machine_stop in came))
        (sym (settled_to from.at from.callee h b.base i stop.slots stop.moved (λ k. (let d : Done A = Traps (part_names.lift_name stop.trap.why) k in d)) there b.moved))
        (record {
          stop = other;
          is = ap (λ (f : Stopped). (let came : Came A = Err f in came)) same;
          same_why = b.why;
          leaves = b.leaves;
        })

    came_agrees : {A : Type 0} (V : A → A → Type 0) → ((x y : A) → V x y → x ≡ y) → (k : CodeCame A) (q : HaltCame A) (p : Came A)
        → Both Kind Ends V k q → Both GoesWith StopsWith V p q → lifts.Leaves (λ (t : Kept). Unit {0}) (OnlyLent (c ≡ true) flag from.at from.callee) q
        → LiftAgrees L (settled from i (tables.given k) h) p
    came_agrees V same (Ok x) (Ok y) (Ok z) b d only = value_agrees x y z (same z.0 y.0 d.0 ∙ sym (same x.0 y.0 b.0)) d.1 b.1
    came_agrees V same (Ok x) (Ok y) (Err f) b d only = absurd d
    came_agrees V same (Ok x) (Err None) p b d only = late_value x p only b
    came_agrees V same (Ok x) (Err (Some g)) p b d only = absurd b
    came_agrees V same (Err f) (Ok y) p b d only = absurd b
    came_agrees V same (Err f) (Err None) p b d only = late_stop f p only b
    came_agrees V same (Err f) (Err (Some other)) (Ok z) b d only = absurd d
    came_agrees V same (Err f) (Err (Some other)) (Err stop) b d only = stop_agrees _ f other stop d b

    -- Values and elements are the same.
    abbrev SameValue : Value → Value → Type 0
    SameValue = Carries (over_table values) (halting flag from.at from.callee) itself Kind Ends

    abbrev SameValues : List Value → List Value → Type 0
    SameValues = AllCarry (over_table values) (halting flag from.at from.callee) itself Kind Ends

    value_is : (x y : Value) → SameValue x y → x ≡ y
    value_is x y e = sym (carried_same x) ∙ e

    values_are : (xs ys : List Value) → SameValues xs ys → xs ≡ ys
    values_are xs ys e = sym (all_carried_same xs) ∙ e

    load_agrees : (t : ValType) → (has_borrow t ≡ true → c ≡ true) → (bytes : List ℕ) (place many : ℕ)
        → LiftAgrees L (settled from i (tables.given (code.load_by (over_table values) t bytes place (tables.at_first many i.slots []))) h)
        (machine.load_by (by_world from.at from.callee) t bytes place (nothing_lifted many w))
    load_agrees t may_borrow bytes place many =
        let k : tables.Kept WorldEntry = tables.at_first many i.slots [] in
        let m : Kept = nothing_lifted many w in
        let q : HaltCame Value = code.load_by (halting flag from.at from.callee) t bytes place m in
        let same : machine.load_by (by_world from.at from.callee) t bytes place m ≡ code.load_by (by_types from.at from.callee) t bytes place m =
        load_same (by_types from.at from.callee) (by_world from.at from.callee) (types_same from.at from.callee) t bytes place m in
        let halts : machine.load_by (halting_world flag from.at from.callee) t bytes place m ≡ q =
        load_same (halting flag from.at from.callee) (halting_world flag from.at from.callee) (halts_same flag from.at from.callee) t bytes place m in
        subst (λ (p : Came Value). LiftAgrees L (settled from i (tables.given (code.load_by (over_table values) t bytes place k)) h) p) (sym same)
        (came_agrees SameValue value_is (code.load_by (over_table values) t bytes place k) q (code.load_by (by_types from.at from.callee) t bytes place m)
        (loads_alike (over_table values) (halting flag from.at from.callee) itself Kind Ends (beside_world g values s h stacks w from.at from.callee c may) t bytes place k m (first_goes many))
        (loads_alike (by_types from.at from.callee) (halting flag from.at from.callee) itself GoesWith StopsWith (halting_beside flag from.at from.callee) t bytes place m m refl)
        (subst (λ (r : HaltCame Value). lifts.Leaves (λ (u : Kept). Unit {0}) (OnlyLent (c ≡ true) flag from.at from.callee) r) halts
        (load_only (c ≡ true) flag from.at from.callee t may_borrow bytes place m)))

    list_agrees : (t : ValType) → (has_borrow t ≡ true → c ≡ true) → (bytes : List ℕ) (place count many : ℕ)
        → LiftAgrees L (settled from i (tables.given (code.load_list_by (over_table values) t bytes place count (tables.at_first many i.slots []))) h)
        (machine.load_list_by (by_world from.at from.callee) t bytes place count (nothing_lifted many w))
    list_agrees t may_borrow bytes place count many =
        let k : tables.Kept WorldEntry = tables.at_first many i.slots [] in
        let m : Kept = nothing_lifted many w in
        let q : HaltCame (List Value) = code.load_list_by (halting flag from.at from.callee) t bytes place count m in
        let same : machine.load_list_by (by_world from.at from.callee) t bytes place count m ≡ code.load_list_by (by_types from.at from.callee) t bytes place count m =
        load_list_same (by_types from.at from.callee) (by_world from.at from.callee) (types_same from.at from.callee) t bytes place count m in
        let halts : machine.load_list_by (halting_world flag from.at from.callee) t bytes place count m ≡ q =
        load_list_same (halting flag from.at from.callee) (halting_world flag from.at from.callee) (halts_same flag from.at from.callee) t bytes place count m in
        subst (λ (p : Came (List Value)). LiftAgrees L (settled from i (tables.given (code.load_list_by (over_table values) t bytes place count k)) h) p) (sym same)
        (came_agrees SameValues values_are (code.load_list_by (over_table values) t bytes place count k) q (code.load_list_by (by_types from.at from.callee) t bytes place count m)
        (lists_alike (over_table values) (halting flag from.at from.callee) itself Kind Ends (beside_world g values s h stacks w from.at from.callee c may) t bytes place count k m (first_goes many))
        (lists_alike (by_types from.at from.callee) (halting flag from.at from.callee) itself GoesWith StopsWith (halting_beside flag from.at from.callee) t bytes place count m m refl)
        (subst (λ (r : HaltCame (List Value)). lifts.Leaves (λ (u : Kept). Unit {0}) (OnlyLent (c ≡ true) flag from.at from.callee) r) halts
        (load_list_only (c ≡ true) flag from.at from.callee t may_borrow bytes place count m)))

    words_agree : (t : ValType) → (has_borrow t ≡ true → c ≡ true) → (bytes few all : List ℕ) (many : ℕ) → IsFront few all → length (flat t) ≤ length few
        → LiftAgrees L (settled from i (tables.given (code.lift_flat_by (over_table values) t bytes few (tables.at_first many i.slots []))) h)
        (machine.lift_flat_by (by_world from.at from.callee) t bytes all (nothing_lifted many w))
    words_agree t may_borrow bytes few all many front room =
        let k : tables.Kept WorldEntry = tables.at_first many i.slots [] in
        let m : Kept = nothing_lifted many w in
        let q : HaltCame Value = code.lift_flat_by (halting flag from.at from.callee) t bytes few m in
        let same : machine.lift_flat_by (by_world from.at from.callee) t bytes all m ≡ code.lift_flat_by (by_types from.at from.callee) t bytes few m =
        lift_flat_same (by_types from.at from.callee) (by_world from.at from.callee) (types_same from.at from.callee) t bytes few all m front room in
        let halts : machine.lift_flat_by (halting_world flag from.at from.callee) t bytes all m ≡ q =
        lift_flat_same (halting flag from.at from.callee) (halting_world flag from.at from.callee) (halts_same flag from.at from.callee) t bytes few all m front room in
        subst (λ (p : Came Value). LiftAgrees L (settled from i (tables.given (code.lift_flat_by (over_table values) t bytes few k)) h) p) (sym same)
        (came_agrees SameValue value_is (code.lift_flat_by (over_table values) t bytes few k) q (code.lift_flat_by (by_types from.at from.callee) t bytes few m)
        (words_alike (over_table values) (halting flag from.at from.callee) itself Kind Ends (beside_world g values s h stacks w from.at from.callee c may) t bytes few k m (first_goes many))
        (words_alike (by_types from.at from.callee) (halting flag from.at from.callee) itself GoesWith StopsWith (halting_beside flag from.at from.callee) t bytes few m m refl)
        (subst (λ (r : HaltCame Value). lifts.Leaves (λ (u : Kept). Unit {0}) (OnlyLent (c ≡ true) flag from.at from.callee) r) halts
        (lift_flat_only (c ≡ true) flag from.at from.callee t may_borrow bytes all m)))

-- The first of some words.
front_of : (n : ℕ) (words : List ℕ) → IsFront (take n words) words
front_of zero words k less = absurd (omega (arith, less))
front_of (suc n) [] k less = refl
front_of (suc n) (x ∷ words) zero less = refl
front_of (suc n) (x ∷ words) (suc k) less = front_of n words k (omega (arith, less))

-- What is looked up, and tests, on the kept side alone or on both.
module _ (L : Held → List Label → World → Type 0) where
  on_found : {A B : Type 0} (o : Option B) (F : B → Done A) (came : Came A) → ((x : B) → o ≡ Some x → LiftAgrees L (F x) came) → LiftAgrees L (given o F) came
  on_found None F came more = tt
  on_found (Some x) F came more = more x refl

  on_both : {A : Type 0} (b : Bool) (d e : Done A) (p q : Came A) → (b ≡ true → LiftAgrees L d p) → (b ≡ false → LiftAgrees L e q) → LiftAgrees L (if b then d else e) (if b then p else q)
  on_both true d e p q on_true on_false = on_true refl
  on_both false d e p q on_true on_false = on_false refl

  unless : {A : Type 0} (b : Bool) (d : Done A) (came : Came A) → (b ≡ false → LiftAgrees L d came) → LiftAgrees L (if b then kept.Stuck else d) came
  unless true d came more = tt
  unless false d came more = more refl

  only_if : {A : Type 0} (b : Bool) (d : Done A) (came : Came A) → LiftAgrees L d came → LiftAgrees L (if b then d else kept.Stuck) came
  only_if true d came more = more
  only_if false d came more = tt

  made_agrees : {A B : Type 0} (f : A → B) (d : Done A) (came : Came A) → LiftAgrees L d came → LiftAgrees L (after d (λ v k. Gives (f v) k)) (machine.made f came)
  made_agrees {A} {B} f (Gives x k) came h = record { now = h.now; is = ap (λ (c : Came A). machine.made f c) h.is; leaves = h.leaves }
  made_agrees {A} {B} f (Traps why k) came h = record { stop = h.stop; is = ap (λ (c : Came A). machine.made f c) h.is; same_why = h.same_why; leaves = h.leaves }
  made_agrees f (Spent k) came h = absurd h
  made_agrees f kept.Stuck came h = tt

-- The core values of the parameters are those of their tuple.
all_flat : (params : List Param) → all_of (map flat (map (λ (p : Param). p.val_type) params)) ≡ flat_map (λ (p : Param). flat p.val_type) params
all_flat [] = refl
all_flat (p ∷ params) = ap (λ (ts : List CoreType). flat p.val_type ++ ts) (all_flat params)

pub flat_is_params : (f : FuncType) → flat (params_type f) ≡ flat_params f
flat_is_params f = flat_of_tuple (map (λ (p : Param). p.val_type) f.params) ∙ all_flat f.params

module _ (g : Graph) (values : List ValType) (s : Script) (h : Held) (stacks : List (List Stack)) (w : World) (marked : StandsMarked g values s h stacks w) where
  abbrev Left : Held → List Label → World → Type 0
  Left = Leaves g values s h stacks w

  same_bytes : (memory : Option ℕ) → bytes_at memory h.store ≡ bytes_of w.store memory
  same_bytes memory = bytes_alike memory h.store ∙ ap (λ (store : Store). bytes_of store memory) marked.stands.same_store

  -- nothing was lifted
  nothing_left : Left h [] w
  nothing_left = record { stands = marked; told = sym (append-nil h.labels); kept_rest = refl; world_rest = refl; same_tasks = refl; tasks_stay = all_same TaskStays w.tasks itself_stays }

  module _ (from : Origin) (t : Numbered) (same : t.types ≡ values) (lends : LendsFrom w from.at from.callee (Some t.val_type)) where
    abbrev bytes : List ℕ
    bytes = bytes_at from.memory h.store

    abbrev there_bytes : List ℕ
    there_bytes = bytes_of w.store from.memory

    loaded_agrees : (what : LiftOf) (place : ℕ)
        → LiftAgrees Left (loaded from what t place h) (machine.load_by (by_world from.at from.callee) t.val_type there_bytes place (nothing_lifted (most what) w))
    loaded_agrees what place =
        on_found Left (slice_get h.instances from.at) (λ i. settled from i (tables.given (code.load_by (over_table t.types) t.val_type bytes place (tables.at_first (most what) i.slots []))) h)
        (machine.load_by (by_world from.at from.callee) t.val_type there_bytes place (nothing_lifted (most what) w))
        (λ i there.
        subst
        (λ (types : List ValType). LiftAgrees Left (settled from i (tables.given (code.load_by (over_table types) t.val_type bytes place (tables.at_first (most what) i.slots []))) h)
        (machine.load_by (by_world from.at from.callee) t.val_type there_bytes place (nothing_lifted (most what) w))) (sym same)
        (subst
        (λ (bs : List ℕ). LiftAgrees Left (settled from i (tables.given (code.load_by (over_table values) t.val_type bytes place (tables.at_first (most what) i.slots []))) h)
        (machine.load_by (by_world from.at from.callee) t.val_type bs place (nothing_lifted (most what) w))) (same_bytes from.memory)
        (load_agrees g values s h stacks w from i there marked (has_borrow t.val_type) lends t.val_type (λ borrows. borrows) bytes place (most what))))

    elements_agree : (place count : ℕ)
        → LiftAgrees Left (elements_lifted from t place count h)
        (machine.load_list_by (by_world from.at from.callee) t.val_type there_bytes place count (nothing_lifted (most whole.Value) w))
    elements_agree place count =
        on_found Left (slice_get h.instances from.at)
        (λ i. settled from i (tables.given (code.load_list_by (over_table t.types) t.val_type bytes place count (tables.at_first (most whole.Value) i.slots []))) h)
        (machine.load_list_by (by_world from.at from.callee) t.val_type there_bytes place count (nothing_lifted (most whole.Value) w))
        (λ i there.
        subst
        (λ (types : List ValType). LiftAgrees Left
        (settled from i (tables.given (code.load_list_by (over_table types) t.val_type bytes place count (tables.at_first (most whole.Value) i.slots []))) h)
        (machine.load_list_by (by_world from.at from.callee) t.val_type there_bytes place count (nothing_lifted (most whole.Value) w))) (sym same)
        (subst
        (λ (bs : List ℕ). LiftAgrees Left
        (settled from i (tables.given (code.load_list_by (over_table values) t.val_type bytes place count (tables.at_first (most whole.Value) i.slots []))) h)
        (machine.load_list_by (by_world from.at from.callee) t.val_type bs place count (nothing_lifted (most whole.Value) w))) (same_bytes from.memory)
        (list_agrees g values s h stacks w from i there marked (has_borrow t.val_type) lends t.val_type (λ borrows. borrows) bytes place count (most whole.Value))))

    flat_agrees : (what : LiftOf) (few all : List ℕ) → IsFront few all → length (flat t.val_type) ≤ length few
        → LiftAgrees Left (flat_lifted from what t few h) (machine.lift_flat_by (by_world from.at from.callee) t.val_type there_bytes all (nothing_lifted (most what) w))
    flat_agrees what few all front room =
        on_found Left (slice_get h.instances from.at) (λ i. settled from i (tables.given (code.lift_flat_by (over_table t.types) t.val_type bytes few (tables.at_first (most what) i.slots []))) h)
        (machine.lift_flat_by (by_world from.at from.callee) t.val_type there_bytes all (nothing_lifted (most what) w))
        (λ i there.
        subst
        (λ (types : List ValType). LiftAgrees Left (settled from i (tables.given (code.lift_flat_by (over_table types) t.val_type bytes few (tables.at_first (most what) i.slots []))) h)
        (machine.lift_flat_by (by_world from.at from.callee) t.val_type there_bytes all (nothing_lifted (most what) w))) (sym same)
        (subst
        (λ (bs : List ℕ). LiftAgrees Left (settled from i (tables.given (code.lift_flat_by (over_table values) t.val_type bytes few (tables.at_first (most what) i.slots []))) h)
        (machine.lift_flat_by (by_world from.at from.callee) t.val_type bs all (nothing_lifted (most what) w))) (same_bytes from.memory)
        (words_agree g values s h stacks w from i there marked (has_borrow t.val_type) lends t.val_type (λ borrows. borrows) bytes few all (most what) front room)))

    -- what the machine lifts of words, where so many are passed as core values
    abbrev passed_by : LiftOf → ℕ → ValType → List ℕ → List ℕ → Came Value
    passed_by what limit type memory words =
        if nat_lt limit (length (flat type)) then machine.load_by (by_world from.at from.callee) type memory (slice_index words 0) (nothing_lifted (most what) w)
        else machine.lift_flat_by (by_world from.at from.callee) type memory words (nothing_lifted (most what) w)

    passed_agrees : (what : LiftOf) (limit : ℕ) (words : List ℕ) → LiftAgrees Left (value_lifted from what limit t words h) (passed_by what limit t.val_type there_bytes words)
    unfolding value_lifted
    passed_agrees what limit words =
        let many : ℕ = length (flat t.val_type) in
        on_both Left (nat_lt limit many) (given (word_in words 0) (λ place. loaded from what t place h)) (words_lifted from what t words h)
        (machine.load_by (by_world from.at from.callee) t.val_type there_bytes (slice_index words 0) (nothing_lifted (most what) w))
        (machine.lift_flat_by (by_world from.at from.callee) t.val_type there_bytes words (nothing_lifted (most what) w))
        (λ more.
        on_found Left (word_in words 0) (λ place. loaded from what t place h)
        (machine.load_by (by_world from.at from.callee) t.val_type there_bytes (slice_index words 0) (nothing_lifted (most what) w))
        (λ place is.
        subst (λ (n : ℕ). LiftAgrees Left (loaded from what t place h) (machine.load_by (by_world from.at from.callee) t.val_type there_bytes n (nothing_lifted (most what) w)))
        (sym (word_is words 0 place is)) (loaded_agrees what place)))
        (λ few.
        unless Left (nat_lt (length words) many) (flat_lifted from what t (take many words) h)
        (machine.lift_flat_by (by_world from.at from.callee) t.val_type there_bytes words (nothing_lifted (most what) w))
        (λ enough.
        (let least : many ≤ length words = ltb-false (length words) many enough in
        let taken = length-take many words in
        flat_agrees what (take many words) words (front_of many words) (omega (arith, least, taken)))))

pub elements_lift : ElementsLift
unfolding passing.elements_lifted
elements_lift g values s h stacks w from type place count same lends marked = elements_agree g values s h stacks w marked from type same lends place count

pub arguments_lift : ArgumentsLift
unfolding part_passing.arguments_passed entering.arguments_passed passing.arguments_lifted
arguments_lift g values s h stacks w t f subtask c type same is_params memory lends marked =
    let L : Held → List Label → World → Type 0 = Leaves g values s h stacks w in
    let options : Options = options_of_canon c in
    let limit : ℕ = passed_limit options.is_async in
    let at : ℕ = inst_of_canon c in
    let from : Origin = record { at = at; callee = t; memory = places.memory_of options h } in
    let bytes : List ℕ = bytes_of w.store (memory_of w.store options) in
    let lifted : ValType → ℕ → List ℕ → Came Value = λ u many memory.
    if nat_lt limit many then machine.load_by (by_world at t) u memory (slice_index subtask.words 0) (nothing_lifted (most whole.Arguments) w)
    else machine.lift_flat_by (by_world at t) u memory subtask.words (nothing_lifted (most whole.Arguments) w) in
    let passed : LiftAgrees L (value_lifted from whole.Arguments limit type subtask.words h) (lifted (params_type f.func_type) (length (flat_params f.func_type)) bytes) =
    subst (λ (n : ℕ). LiftAgrees L (value_lifted from whole.Arguments limit type subtask.words h) (lifted (params_type f.func_type) n bytes))
    (ap (λ (ts : List CoreType). length ts) (flat_is_params f.func_type))
    (subst (λ (u : ValType). LiftAgrees L (value_lifted from whole.Arguments limit type subtask.words h) (lifted u (length (flat u)) bytes)) is_params
    (subst (λ (m : Option ℕ). LiftAgrees L (value_lifted from whole.Arguments limit type subtask.words h) (lifted type.val_type (length (flat type.val_type)) (bytes_of w.store m))) memory
    (passed_agrees g values s h stacks w marked from type same lends whole.Arguments limit subtask.words))) in
    subst
    (λ (o : Options). LiftAgrees L
    (if tuple_case (out-ValType type.val_type)
    then value_lifted (record { at = seen_canons.instance_of c; callee = t; memory = places.memory_of o h }) whole.Arguments (part_passing.passed_limit o.is_async) type subtask.words h
    else kept.Stuck) (lifted (params_type f.func_type) (length (flat_params f.func_type)) bytes)) (sym (options_same c))
    (subst
    (λ (i : ℕ). LiftAgrees L
    (if tuple_case (out-ValType type.val_type)
    then value_lifted (record { at = i; callee = t; memory = places.memory_of options h }) whole.Arguments limit type subtask.words h
    else kept.Stuck) (lifted (params_type f.func_type) (length (flat_params f.func_type)) bytes)) (sym (makers_alike c))
    (only_if L (tuple_case (out-ValType type.val_type)) (value_lifted from whole.Arguments limit type subtask.words h)
    (lifted (params_type f.func_type) (length (flat_params f.func_type)) bytes) passed))

-- The result of a type.
typed_agrees : (g : Graph) (values : List ValType) (s : Script) (h : Held) (stacks : List (List Stack)) (w : World) (from : Origin) (limit : ℕ) (type : Numbered) (options : Options) (words : List ℕ)
    → type.types ≡ values → from.memory ≡ memory_of w.store options → LendsFrom w from.at from.callee (Some type.val_type) → StandsMarked g values s h stacks w
    → LiftAgrees (Leaves g values s h stacks w) (part_passing.result_of_type from limit type words h)
    (returning.result_passed from.at from.callee limit (Some type.val_type) options words w)
unfolding part_passing.result_of_type returning.result_passed passing.result_lifted
typed_agrees g values s h stacks w from limit type options words same memory lends marked =
    let L : Held → List Label → World → Type 0 = Leaves g values s h stacks w in
    let lifted : List ℕ → Came Value = λ bytes.
    if nat_lt limit (length (flat type.val_type)) then machine.load_by (by_world from.at from.callee) type.val_type bytes (slice_index words 0) (nothing_lifted (most whole.Value) w)
    else machine.lift_flat_by (by_world from.at from.callee) type.val_type bytes words (nothing_lifted (most whole.Value) w) in
    made_agrees L (part_passing.typed_result type.val_type) (value_lifted from whole.Value limit type words h) (lifted (bytes_of w.store (memory_of w.store options)))
    (subst (λ (m : Option ℕ). LiftAgrees L (value_lifted from whole.Value limit type words h) (lifted (bytes_of w.store m))) memory
    (passed_agrees g values s h stacks w marked from type same lends whole.Value limit words))

-- No result.
none_agrees : (g : Graph) (values : List ValType) (s : Script) (h : Held) (stacks : List (List Stack)) (w : World) (at t limit : ℕ) (options : Options) (words : List ℕ) → StandsMarked g values s h stacks w
    → LiftAgrees (Leaves g values s h stacks w) (let d : Done (Option TypedValue) = Gives None h in d) (returning.result_passed at t limit None options words w)
unfolding returning.result_passed
none_agrees g values s h stacks w at t limit options words marked = record { now = nothing_lifted 0 w; is = refl; leaves = nothing_left g values s h stacks w marked }

-- The instance of a task.
task_agrees : {A : Type 0} (L : Held → List Label → World → Type 0) (o : Option TaskSlot) (h : Held) (F : ℕ → Held → Done A) (came : Came A)
    → ((slot : TaskSlot) → o ≡ Some slot → LiftAgrees L (F slot.instance h) came) → LiftAgrees L (after (given o (λ slot. Gives slot.instance h)) F) came
task_agrees L None h F came more = tt
task_agrees L (Some slot) h F came more = more slot refl

pub results_lift : ResultsLift
unfolding part_passing.result_lifted
results_lift g values s h stacks w p t at limit None memory None options words types numbered same_memory instance lends marked =
    none_agrees g values s h stacks w at t limit options words marked
results_lift g values s h stacks w p t at limit None memory (Some type) options words types numbered same_memory instance lends marked = absurd numbered
results_lift g values s h stacks w p t at limit (Some number) memory None options words types numbered same_memory instance lends marked = absurd numbered
results_lift g values s h stacks w p t at limit (Some number) memory (Some type) options words types numbered same_memory instance lends marked =
    let L : Held → List Label → World → Type 0 = Leaves g values s h stacks w in
    let came : Came (Option TypedValue) = returning.result_passed at t limit (Some type) options words w in
    let there : slice_get p.types.now number ≡ Some type = ap (λ (ts : List ValType). slice_get ts number) types ∙ numbered in
    let numbered_as : ValType → Numbered = λ u. record { types = p.types.now; number = number; val_type = u } in
    let result : ℕ → Numbered → Done (Option TypedValue) = λ i n. part_passing.result_of_type (record { at = i; callee = t; memory = memory }) limit n words h in
    subst
    (λ (o : Option ValType). LiftAgrees L
    (given (option_map numbered_as o) (λ n. after (slots.instance_of t h) (λ i k. part_passing.result_of_type (record { at = i; callee = t; memory = memory }) limit n words k))) came)
    (sym there)
    (task_agrees L (slice_get h.tasks t) h (λ i k. part_passing.result_of_type (record { at = i; callee = t; memory = memory }) limit (numbered_as type) words k) came
    (λ slot is.
    subst (λ (i : ℕ). LiftAgrees L (result i (numbered_as type)) came) (sym (instance slot is))
    (typed_agrees g values s h stacks w (record { at = at; callee = t; memory = memory }) limit (numbered_as type) options words types same_memory lends marked)))
