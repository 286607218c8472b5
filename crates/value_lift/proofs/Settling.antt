-- Lifting over a table is what the table makes of the indices that are listed.
use Rattle.std.proofs.Common.{◌≡◌, ◌∙◌, ◌+◌, ◌-◌, ◌≤◌, ℕ, Bool, true, false, if◌then◌else◌, List, [], ◌∷◌, ◌++◌, length, Option, Some, None, Result, Ok, Err, refl, ap, sym, subst, arith, length-append}
use Rattle.std.specs.Prelude.{nat_le}
use Rattle.std.proofs.lemmas.Bool.{leb-true}
use Rattle.syntax_trees.specs.declared.types.ValType.{ValType}
use Rattle.syntax_trees.specs.declared.value.Value.{Value}
use Rattle.handle_table.specs.Slots.{Slots}
use Rattle.res_handles.specs.declared.handle.Handle.{Handle}
use Rattle.res_handles.specs.declared.entry.EntryView.{EntryView}
use Rattle.res_handles.specs.declared.entry.EntryView.TheVariants as seen
use Rattle.res_handles.specs.declared.refusal.Refusal.{Refusal}
use Rattle.res_handles.specs.Refusals.{handle_in, own_in}
use Rattle.res_handles.specs.Calls.{view_at}
use Rattle.res_handles.specs.Ends.{end_in}
use Rattle.value_lift.specs.declared.trap.LiftTrap.{LiftTrap}
use Rattle.value_lift.specs.declared.trap.LiftWhy.TheVariants.{TooLarge}
use Rattle.value_lift.specs.Leaves.{trap}
use Rattle.value_lift.specs.Ledger.{Came, Use, What, AnOwn, ABorrow, AnEnd, counting, reached}
use Rattle.value_lift.specs.Over.{load_by, load_list_by, lift_flat_by}
use Rattle.value_lift.specs.Tables.{Kept, Stop, stopped, spent, taken_own, taken_borrow, taken_end, taken_as, is_end_at, by_table}
use Rattle.value_lift.specs.Settled.{Listed, listed_spent, listing, none_listed, uses_in, name_of, names_in, carried, all_carried, slots_behind, applied, settled}
use Rattle.value_lift.proofs.Both.{stop_of, on_with, Both, Spent}
use Rattle.value_lift.proofs.Beside.{AreBeside, Carries, AllCarry}
use Rattle.value_lift.proofs.BesideTypes.{loads_alike, lists_alike, words_alike}
use Rattle.value_lift.proofs.Growing.{applied_one, applied_stopped}
use Rattle.value_lift.proofs.Uses.{NamedAs, EndFound, own_found, handle_found, end_found, removed_named, lent_named}

-- the fault that uses come to, or else this one
abbrev fault_in : {E : Type 0} → LiftTrap → Result (Kept E) (Stop E) → Stop E
fault_in fault (Ok now) = stopped fault now
fault_in fault (Err stop) = stop

one_more : (uses : List Use) (u : Use) → length (uses ++ u ∷ []) ≡ length uses + 1
one_more uses u = length-append uses (u ∷ [])

fault_slots : {E : Type 0} (fault : LiftTrap) (r : Result (Kept E) (Stop E)) → (fault_in fault r).slots ≡ slots_behind r
fault_slots fault (Ok now) = refl
fault_slots fault (Err stop) = refl

-- the slots where a lifting ends
abbrev pub end_of : {E A : Type 0} → Came (Kept E) (Stop E) A → Slots E
end_of (Ok x) = x.1.slots
end_of (Err stop) = stop.slots

module _ {E : Type 0} (view : E → EntryView) (made : Handle → E) (end_type : E → Option ℕ) (types : List ValType) (first : Kept E) where
  -- Slots that these uses leave, which are no more than could be counted.
  pub record Ends (uses : List Use) (now : Slots E) : Type 0 where
    pub slots : now ≡ slots_behind (applied view made end_type types uses first)
    pub paid : length uses ≤ first.left

  -- The table took all that is listed. Each use is paid by what is counted, and what is there names what it named at first.
  record Goes (s : Listed) (k : Kept E) : Type 0 where
    pub took : applied view made end_type types s.uses first ≡ Ok (record { left = first.left; slots = k.slots; moved = k.moved })
    pub left : k.left ≡ s.left
    pub named : (index : ℕ) → NamedAs (view_at view k.slots index) (names_in view first.slots index)
    pub paid : length s.uses + s.left ≤ first.left

  -- It refused something that is listed.
  record Refuses (s : Listed) (stop : Stop E) : Type 0 where
    pub refused : applied view made end_type types s.uses first ≡ Err stop
    pub paid : length s.uses + s.left ≤ first.left

  abbrev Beside : Listed → Result (Kept E) (Stop E) → Type 0
  Beside s (Ok k) = Goes s k
  Beside s (Err stop) = Refuses s stop

  -- Lifting stopped, and the table with it, or for something that is listed before.
  record Ended (f : LiftTrap × List Use) (stop : Stop E) : Type 0 where
    pub is : fault_in f.0 (applied view made end_type types f.1 first) ≡ stop
    pub paid : length f.1 ≤ first.left

  goes_ended : (fault : LiftTrap) (s : Listed) (k : Kept E) → Goes s k → Ended (fault, s.uses) (stopped fault k)
  goes_ended fault s k b = record {
    is = ap (λ (r : Result (Kept E) (Stop E)). fault_in fault r) b.took;
    paid = (let p : length s.uses + s.left ≤ first.left = b.paid in omega (arith, p));
  }

  refuses_ended : (fault : LiftTrap) (s : Listed) (stop : Stop E) → Refuses s stop → Ended (fault, s.uses) stop
  refuses_ended fault s stop b = record {
    is = ap (λ (r : Result (Kept E) (Stop E)). fault_in fault r) b.refused;
    paid = (let p : length s.uses + s.left ≤ first.left = b.paid in omega (arith, p));
  }

  -- Counting.
  goes_spent : (c : Bool) (many place : ℕ) (s : Listed) (k : Kept E) → Goes s k
      → Spent Beside Ended (if c then Ok (record { left = s.left - many; uses = s.uses }) else Err (trap TooLarge place, s.uses))
      (if c then Ok (record { left = k.left - many; slots = k.slots; moved = k.moved }) else Err (stopped (trap TooLarge place) k))
  goes_spent true many place s k b = record {
    took = b.took;
    left = ap (λ (n : ℕ). n - many) b.left;
    named = b.named;
    paid = (let p : length s.uses + s.left ≤ first.left = b.paid in omega (arith, p));
  }
  goes_spent false many place s k b = goes_ended (trap TooLarge place) s k b

  refuses_spent : (c : Bool) (many place : ℕ) (s : Listed) (stop : Stop E) → Refuses s stop
      → Spent Beside Ended (if c then Ok (record { left = s.left - many; uses = s.uses }) else Err (trap TooLarge place, s.uses)) (Err stop)
  refuses_spent true many place s stop b = record { refused = b.refused; paid = (let p : length s.uses + s.left ≤ first.left = b.paid in omega (arith, p)) }
  refuses_spent false many place s stop b = refuses_ended (trap TooLarge place) s stop b

  spends : (many place : ℕ) (s : Listed) (q : Result (Kept E) (Stop E)) → Beside s q → Spent Beside Ended (listed_spent many place s) (on_with q (λ k. spent many place k))
  spends many place s (Ok k) b =
      subst
      (λ (n : ℕ). Spent Beside Ended (listed_spent many place s)
      (if nat_le many n then Ok (record { left = k.left - many; slots = k.slots; moved = k.moved }) else Err (stopped (trap TooLarge place) k)))
      (sym b.left) (goes_spent (nat_le many s.left) many place s k b)
  spends many place s (Err stop) b = refuses_spent (nat_le many s.left) many place s stop b

  stops : (fault : LiftTrap) (s : Listed) (q : Result (Kept E) (Stop E)) → Beside s q → Ended (fault, s.uses) (stop_of (by_table view made end_type types) fault q)
  stops fault s (Ok k) b = goes_ended fault s k b
  stops fault s (Err stop) b = refuses_ended fault s stop b

  -- what is kept once a value is counted
  abbrev less : Kept E → Kept E
  less k = record { left = k.left - 1; slots = k.slots; moved = k.moved }

  abbrev as_first : Kept E → Kept E
  as_first k = record { left = first.left; slots = k.slots; moved = k.moved }

  abbrev listed_more : Listed → Use → Listed
  listed_more s u = record { left = s.left - 1; uses = s.uses ++ u ∷ [] }

  paid_more : (s : Listed) (u : Use) → 1 ≤ s.left → length s.uses + s.left ≤ first.left → length (s.uses ++ u ∷ []) + (s.left - 1) ≤ first.left
  paid_more s u low p =
      let n : length (s.uses ++ u ∷ []) ≡ length s.uses + 1 = one_more s.uses u in
      omega (arith, n, low, p)

  abbrev Leaf : Listed → Use → Result (ℕ × Kept E) (Stop E) → Type 0
  Leaf s u r = Both Beside Ended (λ (a b : ℕ). names_in view first.slots a ≡ b) (Ok (u.index, listed_more s u)) r

  name_found : (o : Option EntryView) (e : EntryView) (n : ℕ) → NamedAs o n → o ≡ Some e → NamedAs (Some e) n
  name_found o e n h is = subst (λ (o : Option EntryView). NamedAs o n) is h

  module _ (law : (x : Handle) → view (made x) ≡ seen.Handle x) where
    own_leaf : (resource : ℕ) (s : Listed) (k : Kept E) (u : Use) (o : Result Handle Refusal) → u.what ≡ AnOwn resource → own_in (view_at view k.slots u.index) resource ≡ o
        → Goes s k → 1 ≤ s.left → Leaf s u (taken_own o u (less k))
    own_leaf resource s k u (Ok x) w e b low =
        let named : x.rep ≡ names_in view first.slots u.index =
        name_found (view_at view k.slots u.index) (seen.Handle x) (names_in view first.slots u.index) (b.named u.index) (own_found (view_at view k.slots u.index) resource x e) in (
          sym named,
          record {
            took = applied_one view made end_type types s.uses u first (as_first k) (taken_own (Ok x) u (as_first k)) b.took
                (ap (λ (w : What). taken_as view made end_type types w u (as_first k)) w ∙ ap (λ (o : Result Handle Refusal). taken_own o u (as_first k)) e);
            left = ap (λ (n : ℕ). n - 1) b.left;
            named = λ j. removed_named view made law k.slots u.index j (names_in view first.slots j) (b.named j);
            paid = paid_more s u low b.paid;
          },
        )
    own_leaf resource s k u (Err why) w e b low = record {
      refused = applied_one view made end_type types s.uses u first (as_first k) (taken_own (Err why) u (as_first k)) b.took
          (ap (λ (w : What). taken_as view made end_type types w u (as_first k)) w ∙ ap (λ (o : Result Handle Refusal). taken_own o u (as_first k)) e);
      paid = paid_more s u low b.paid;
    }

    borrow_leaf : (resource : ℕ) (s : Listed) (k : Kept E) (u : Use) (o : Result Handle Refusal) → u.what ≡ ABorrow resource → handle_in (view_at view k.slots u.index) resource ≡ o
        → Goes s k → 1 ≤ s.left → Leaf s u (taken_borrow view made o u (less k))
    borrow_leaf resource s k u (Ok x) w e b low =
        let named : x.rep ≡ names_in view first.slots u.index =
        name_found (view_at view k.slots u.index) (seen.Handle x) (names_in view first.slots u.index) (b.named u.index) (handle_found (view_at view k.slots u.index) resource x e) in (
          sym named,
          record {
            took = applied_one view made end_type types s.uses u first (as_first k) (taken_borrow view made (Ok x) u (as_first k)) b.took
                (ap (λ (w : What). taken_as view made end_type types w u (as_first k)) w ∙ ap (λ (o : Result Handle Refusal). taken_borrow view made o u (as_first k)) e);
            left = ap (λ (n : ℕ). n - 1) b.left;
            named = λ j. lent_named view made law k.slots u.index j (names_in view first.slots j) (b.named j);
            paid = paid_more s u low b.paid;
          },
        )
    borrow_leaf resource s k u (Err why) w e b low = record {
      refused = applied_one view made end_type types s.uses u first (as_first k) (taken_borrow view made (Err why) u (as_first k)) b.took
          (ap (λ (w : What). taken_as view made end_type types w u (as_first k)) w ∙ ap (λ (o : Result Handle Refusal). taken_borrow view made o u (as_first k)) e);
      paid = paid_more s u low b.paid;
    }

    end_leaf : (type : ValType) (s : Listed) (k : Kept E) (u : Use) (o : Result ℕ Refusal) → u.what ≡ AnEnd type
        → end_in (view_at view k.slots u.index) (is_end_at end_type types k.slots u.index type) ≡ o → Goes s k → 1 ≤ s.left → Leaf s u (taken_end o u (less k))
    end_leaf type s k u (Ok number) w e b low =
        let f : EndFound (view_at view k.slots u.index) number = end_found (view_at view k.slots u.index) (is_end_at end_type types k.slots u.index type) number e in
        let named : f.found.number ≡ names_in view first.slots u.index =
        name_found (view_at view k.slots u.index) (seen.ReadableEnd f.found) (names_in view first.slots u.index) (b.named u.index) f.is in (
          sym named ∙ f.same,
          record {
            took = applied_one view made end_type types s.uses u first (as_first k) (taken_end (Ok number) u (as_first k)) b.took
                (ap (λ (w : What). taken_as view made end_type types w u (as_first k)) w ∙ ap (λ (o : Result ℕ Refusal). taken_end o u (as_first k)) e);
            left = ap (λ (n : ℕ). n - 1) b.left;
            named = λ j. removed_named view made law k.slots u.index j (names_in view first.slots j) (b.named j);
            paid = paid_more s u low b.paid;
          },
        )
    end_leaf type s k u (Err why) w e b low = record {
      refused = applied_one view made end_type types s.uses u first (as_first k) (taken_end (Err why) u (as_first k)) b.took
          (ap (λ (w : What). taken_as view made end_type types w u (as_first k)) w ∙ ap (λ (o : Result ℕ Refusal). taken_end o u (as_first k)) e);
      paid = paid_more s u low b.paid;
    }

    leaf : (what : What) (index place : ℕ) (s : Listed) (k : Kept E) → Goes s k → 1 ≤ s.left
        → Leaf s (record { what = what; index = index; place = place }) (taken_as view made end_type types what (record { what = what; index = index; place = place }) (less k))
    leaf (AnOwn resource) index place s k b low = own_leaf resource s k (record { what = AnOwn resource; index = index; place = place }) (own_in (view_at view k.slots index) resource) refl refl b low
    leaf (ABorrow resource) index place s k b low =
        borrow_leaf resource s k (record { what = ABorrow resource; index = index; place = place }) (handle_in (view_at view k.slots index) resource) refl refl b low
    leaf (AnEnd type) index place s k b low =
        end_leaf type s k (record { what = AnEnd type; index = index; place = place }) (end_in (view_at view k.slots index) (is_end_at end_type types k.slots index type)) refl refl b low

    -- A value is counted, and its index used.
    goes_reached : (c : Bool) (what : What) (index place : ℕ) (s : Listed) (k : Kept E) → (c ≡ true → 1 ≤ s.left) → Goes s k
        → Both Beside Ended (λ (a b : ℕ). names_in view first.slots a ≡ b)
        (counting (if c then Ok (record { left = s.left - 1; uses = s.uses }) else Err (trap TooLarge place, s.uses)) (λ kept. listing.take (record { what = what; index = index; place = place }) kept))
        (counting (if c then Ok (record { left = k.left - 1; slots = k.slots; moved = k.moved }) else Err (stopped (trap TooLarge place) k))
        (λ kept. taken_as view made end_type types what (record { what = what; index = index; place = place }) kept))
    goes_reached true what index place s k low b = leaf what index place s k b (low refl)
    goes_reached false what index place s k low b = goes_ended (trap TooLarge place) s k b

    refuses_reached : (c : Bool) (what : What) (index place : ℕ) (s : Listed) (stop : Stop E) → (c ≡ true → 1 ≤ s.left) → Refuses s stop
        → Both Beside Ended (λ (a b : ℕ). names_in view first.slots a ≡ b)
        (counting (if c then Ok (record { left = s.left - 1; uses = s.uses }) else Err (trap TooLarge place, s.uses)) (λ kept. listing.take (record { what = what; index = index; place = place }) kept))
        (let r : Came (Kept E) (Stop E) ℕ = Err stop in r)
    refuses_reached true what index place s stop low b =
        let u : Use = record { what = what; index = index; place = place } in
        record { refused = applied_stopped view made end_type types s.uses (u ∷ []) first stop b.refused; paid = paid_more s u (low refl) b.paid }
    refuses_reached false what index place s stop low b = refuses_ended (trap TooLarge place) s stop b

    reaches : (what : What) (index place : ℕ) (s : Listed) (q : Result (Kept E) (Stop E)) → Beside s q
        → Both Beside Ended (λ (a b : ℕ). names_in view first.slots a ≡ b) (reached listing what index place s) (counting q (λ k. reached (by_table view made end_type types) what index place k))
    reaches what index place s (Ok k) b =
        subst
        (λ (n : ℕ). Both Beside Ended (λ (a b : ℕ). names_in view first.slots a ≡ b) (reached listing what index place s)
        (counting (if nat_le 1 n then Ok (record { left = k.left - 1; slots = k.slots; moved = k.moved }) else Err (stopped (trap TooLarge place) k))
        (λ kept. taken_as view made end_type types what (record { what = what; index = index; place = place }) kept)))
        (sym b.left) (goes_reached (nat_le 1 s.left) what index place s k (λ e. leb-true 1 s.left e) b)
    reaches what index place s (Err stop) b = refuses_reached (nat_le 1 s.left) what index place s stop (λ e. leb-true 1 s.left e) b

    beside : AreBeside listing (by_table view made end_type types) (names_in view first.slots) Beside Ended
    beside = record {
      spends = λ many place s q b. spends many place s q b;
      stops = λ fault s q b. stops fault s q b;
      reaches = λ what index place s q b. reaches what index place s q b;
    }

    named_first : (o : Option EntryView) → NamedAs o (name_of o)
    named_first None = tt
    named_first (Some e) = refl

    begins : Goes (none_listed first.left) first
    begins = record { took = refl; left = refl; named = λ index. named_first (view_at view first.slots index); paid = (let p : 0 + first.left ≤ first.left = omega arith in p) }

    -- What both come to is what the table makes of the list,
    came_settled : {A : Type 0} (V : A → A → Type 0) (carry : (ℕ → ℕ) → A → A) (r : Came Listed (LiftTrap × List Use) A) (u : Came (Kept E) (Stop E) A)
        → ((x y : A) → V x y → carry (names_in view first.slots) x ≡ y) → Both Beside Ended V r u → u ≡ settled view made end_type types carry first r
    came_settled {A} V carry (Ok x) (Ok y) same b =
        let f : A → ℕ → Came (Kept E) (Stop E) A = λ v n. Ok (v, record { left = n; slots = y.1.slots; moved = y.1.moved }) in
        ap (λ (v : A). f v y.1.left) (sym (same x.0 y.0 b.0))
        ∙ ap (λ (n : ℕ). f (carry (names_in view first.slots) x.0) n) b.1.left
        ∙ sym (ap (λ (r : Result (Kept E) (Stop E)). counting r (λ now. (let c : Came (Kept E) (Stop E) A = Ok (carry (names_in view first.slots) x.0, record { left = x.1.left; slots = now.slots; moved = now.moved }) in c))) b.1.took)
    came_settled {A} V carry (Ok x) (Err stop) same b =
        sym (ap (λ (r : Result (Kept E) (Stop E)). counting r (λ now. (let c : Came (Kept E) (Stop E) A = Ok (carry (names_in view first.slots) x.0, record { left = x.1.left; slots = now.slots; moved = now.moved }) in c))) b.refused)
    came_settled V carry (Err f) (Ok y) same b = absurd b
    came_settled {A} V carry (Err f) (Err stop) same b = ended_settled f.0 (applied view made end_type types f.1 first) stop b.is
      where
        ended_settled : (fault : LiftTrap) (r : Result (Kept E) (Stop E)) (stop : Stop E) → fault_in fault r ≡ stop
            → ◌≡◌ {A = Came (Kept E) (Stop E) A} (Err stop) (counting r (λ now. Err (stopped fault now)))
        ended_settled fault (Ok now) stop e = ap (λ (s : Stop E). (let c : Came (Kept E) (Stop E) A = Err s in c)) (sym e)
        ended_settled fault (Err other) stop e = ap (λ (s : Stop E). (let c : Came (Kept E) (Stop E) A = Err s in c)) (sym e)

    -- and where it ends the table is as the uses leave it, each of which is paid by what is counted.
    came_ends : {A : Type 0} (V : A → A → Type 0) (r : Came Listed (LiftTrap × List Use) A) (u : Came (Kept E) (Stop E) A) → Both Beside Ended V r u
        → Ends (uses_in r) (end_of u)
    came_ends V (Ok x) (Ok y) b = record {
      slots = sym (ap slots_behind b.1.took);
      paid = (let p : length x.1.uses + x.1.left ≤ first.left = b.1.paid in omega (arith, p));
    }
    came_ends V (Ok x) (Err stop) b = record {
      slots = sym (ap slots_behind b.refused);
      paid = (let p : length x.1.uses + x.1.left ≤ first.left = b.paid in omega (arith, p));
    }
    came_ends V (Err f) (Ok y) b = absurd b
    came_ends V (Err f) (Err stop) b = record {
      slots = sym (ap (λ (s : Stop E). s.slots) b.is) ∙ fault_slots f.0 (applied view made end_type types f.1 first);
      paid = b.paid;
    }

    -- A whole lifting.
    abbrev CarriedSo : Value → Value → Type 0
    CarriedSo = Carries listing (by_table view made end_type types) (names_in view first.slots) Beside Ended

    abbrev AllCarriedSo : List Value → List Value → Type 0
    AllCarriedSo = AllCarry listing (by_table view made end_type types) (names_in view first.slots) Beside Ended

    module _ (type : ValType) (memory : List ℕ) (place : ℕ) where
      load_both : Both Beside Ended CarriedSo (load_by listing type memory place (none_listed first.left)) (load_by (by_table view made end_type types) type memory place first)
      load_both = loads_alike listing (by_table view made end_type types) (names_in view first.slots) Beside Ended beside type memory place (none_listed first.left) first begins

      pub load_settled : load_by (by_table view made end_type types) type memory place first
          ≡ settled view made end_type types carried first (load_by listing type memory place (none_listed first.left))
      load_settled =
          came_settled CarriedSo carried (load_by listing type memory place (none_listed first.left)) (load_by (by_table view made end_type types) type memory place first)
          (λ v w e. e) load_both

      pub load_ends : Ends (uses_in (load_by listing type memory place (none_listed first.left)))
          (end_of (load_by (by_table view made end_type types) type memory place first))
      load_ends = came_ends CarriedSo (load_by listing type memory place (none_listed first.left)) (load_by (by_table view made end_type types) type memory place first) load_both

    module _ (type : ValType) (memory : List ℕ) (place count : ℕ) where
      list_both : Both Beside Ended AllCarriedSo (load_list_by listing type memory place count (none_listed first.left))
          (load_list_by (by_table view made end_type types) type memory place count first)
      list_both = lists_alike listing (by_table view made end_type types) (names_in view first.slots) Beside Ended beside type memory place count (none_listed first.left) first begins

      pub list_settled : load_list_by (by_table view made end_type types) type memory place count first
          ≡ settled view made end_type types all_carried first (load_list_by listing type memory place count (none_listed first.left))
      list_settled =
          came_settled AllCarriedSo all_carried (load_list_by listing type memory place count (none_listed first.left))
          (load_list_by (by_table view made end_type types) type memory place count first) (λ v w e. e) list_both

      pub list_ends : Ends (uses_in (load_list_by listing type memory place count (none_listed first.left)))
          (end_of (load_list_by (by_table view made end_type types) type memory place count first))
      list_ends =
          came_ends AllCarriedSo (load_list_by listing type memory place count (none_listed first.left)) (load_list_by (by_table view made end_type types) type memory place count first) list_both

    module _ (type : ValType) (memory words : List ℕ) where
      words_both : Both Beside Ended CarriedSo (lift_flat_by listing type memory words (none_listed first.left)) (lift_flat_by (by_table view made end_type types) type memory words first)
      words_both = words_alike listing (by_table view made end_type types) (names_in view first.slots) Beside Ended beside type memory words (none_listed first.left) first begins

      pub words_settled : lift_flat_by (by_table view made end_type types) type memory words first
          ≡ settled view made end_type types carried first (lift_flat_by listing type memory words (none_listed first.left))
      words_settled =
          came_settled CarriedSo carried (lift_flat_by listing type memory words (none_listed first.left)) (lift_flat_by (by_table view made end_type types) type memory words first)
          (λ v w e. e) words_both

      pub words_end : Ends (uses_in (lift_flat_by listing type memory words (none_listed first.left)))
          (end_of (lift_flat_by (by_table view made end_type types) type memory words first))
      words_end = came_ends CarriedSo (lift_flat_by listing type memory words (none_listed first.left)) (lift_flat_by (by_table view made end_type types) type memory words first) words_both
