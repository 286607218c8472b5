-- Over a table the first use that is refused is the fault, and else it is what lifting comes to without a table.
use Rattle.std.proofs.Common.{◌≡◌, ◌∙◌, ℕ, List, [], ◌∷◌, Option, Result, Ok, Err, refl, ap, sym, subst, inl, inr}
use Rattle.syntax_trees.specs.declared.types.ValType.{ValType}
use Rattle.syntax_trees.specs.declared.value.Value.{Value}
use Rattle.res_handles.specs.declared.handle.Handle.{Handle}
use Rattle.res_handles.specs.declared.entry.EntryView.{EntryView}
use Rattle.res_handles.specs.declared.entry.EntryView.TheVariants as seen
use Rattle.res_handles.specs.declared.refusal.Refusal.{Refusal}
use Rattle.res_handles.specs.Refusals.{handle_in, own_in}
use Rattle.res_handles.specs.Calls.{view_at}
use Rattle.res_handles.specs.Ends.{end_in}
use Rattle.value_lift.specs.declared.trap.LiftTrap.{LiftTrap}
use Rattle.value_lift.specs.declared.trap.LiftWhy.{LiftWhy}
use Rattle.value_lift.specs.declared.trap.LiftWhy.TheVariants.{Refused}
use Rattle.value_lift.specs.Leaves.{trap}
use Rattle.value_lift.specs.Ledger.{Came, Use, What, AnOwn, ABorrow, AnEnd, counting}
use Rattle.value_lift.specs.Over.{load_by, load_list_by, lift_flat_by}
use Rattle.value_lift.specs.Lifting.{load, load_list, lift_flat, most}
use Rattle.value_lift.specs.Failing.{LoadFails, LoadListFails}
use Rattle.value_lift.specs.WordFailing.{LiftFlatFails}
use Rattle.value_lift.specs.Laws.{IsLoaded, AreLoaded, IsLifted}
use Rattle.value_lift.specs.Tables.{Kept, Stop, stopped, taken_own, taken_borrow, taken_end, taken_as, is_end_at, at_first}
use Rattle.value_lift.specs.Settled.{Listed, listing, none_listed, uses_in, unlisted, names_in, carried, all_carried, applied_by, applied, settled}
use Rattle.value_lift.specs.Taken.{FirstRefused, ComesTo, LoadsComeTo, ListsComeTo, WordsComeTo}
use Rattle.value_lift.proofs.Faults.{failing_loads_stop, failing_lists_stop, failing_words_stop}
use Rattle.value_lift.proofs.Loaded.{loaded_values_stand, loaded_lists_stand, lifted_words_stand}
use Rattle.value_lift.proofs.Settling.{load_settled, list_settled, words_settled}
use Rattle.value_lift.proofs.Unlisted.{loads_plain, lists_plain, words_plain}

-- why a use is refused
record RefusedSo {E : Type 0} (u : Use) (k : Kept E) (stop : Stop E) : Type 0 where
  pub why : Refusal
  pub is : stop ≡ stopped (trap (Refused why) u.place) k

module _ {E : Type 0} (view : E → EntryView) (made : Handle → E) where
  own_refused : (o : Result Handle Refusal) (u : Use) (k : Kept E) (stop : Stop E) → taken_own o u k ≡ Err stop → RefusedSo u k stop
  own_refused (Ok x) u k stop h = cc
  own_refused (Err why) u k stop h =
      let e : stopped (trap (Refused why) u.place) k ≡ stop = cc in
      record { why = why; is = sym e }

  borrow_refused : (o : Result Handle Refusal) (u : Use) (k : Kept E) (stop : Stop E) → taken_borrow view made o u k ≡ Err stop → RefusedSo u k stop
  borrow_refused (Ok x) u k stop h = cc
  borrow_refused (Err why) u k stop h =
      let e : stopped (trap (Refused why) u.place) k ≡ stop = cc in
      record { why = why; is = sym e }

  end_refused : (o : Result ℕ Refusal) (u : Use) (k : Kept E) (stop : Stop E) → taken_end o u k ≡ Err stop → RefusedSo u k stop
  end_refused (Ok x) u k stop h = cc
  end_refused (Err why) u k stop h =
      let e : stopped (trap (Refused why) u.place) k ≡ stop = cc in
      record { why = why; is = sym e }

  module _ (end_type : E → Option ℕ) (types : List ValType) where
    use_refused : (w : What) (u : Use) (k : Kept E) (stop : Stop E) → taken_as view made end_type types w u k ≡ Err stop → RefusedSo u k stop
    use_refused (AnOwn resource) u k stop h = own_refused (own_in (view_at view k.slots u.index) resource) u k stop h
    use_refused (ABorrow resource) u k stop h = borrow_refused (handle_in (view_at view k.slots u.index) resource) u k stop h
    use_refused (AnEnd type) u k stop h = end_refused (end_in (view_at view k.slots u.index) (is_end_at end_type types k.slots u.index type)) u k stop h

    refused_by : (u : Use) (uses : List Use) (k : Kept E) (stop : Stop E) (o : Result (ℕ × Kept E) (Stop E)) → taken_as view made end_type types u.what u k ≡ o
        → ((now : Kept E) → applied view made end_type types uses now ≡ Err stop → FirstRefused view made end_type types uses now stop)
        → applied_by o (λ now. applied view made end_type types uses now) ≡ Err stop → FirstRefused view made end_type types (u ∷ uses) k stop
    refused_by u uses k stop (Ok x) e on h =
        let r : FirstRefused view made end_type types uses x.1 stop = on x.1 h in
        record {
          before = u ∷ r.before;
          refused = r.refused;
          behind = r.behind;
          are = ap (λ (us : List Use). u ∷ us) r.are;
          left = r.left;
          taken = ap (λ (o : Result (ℕ × Kept E) (Stop E)). applied_by o (λ now. applied view made end_type types r.before now)) e ∙ r.taken;
          why = r.why;
          refusal = r.refusal;
          stops = r.stops;
        }
    refused_by u uses k stop (Err other) e on h =
        let r : RefusedSo u k other = use_refused u.what u k other e in
        let same : other ≡ stop = cc in
        record {
          before = [];
          refused = u;
          behind = uses;
          are = refl;
          left = k;
          taken = refl;
          why = r.why;
          refusal = e ∙ ap (λ (s : Stop E). (let c : Result (ℕ × Kept E) (Stop E) = Err s in c)) r.is;
          stops = sym same ∙ r.is;
        }

    first_refused : (uses : List Use) (k : Kept E) (stop : Stop E) → applied view made end_type types uses k ≡ Err stop → FirstRefused view made end_type types uses k stop
    first_refused [] k stop h = absurd (let w : ⊥ = cc in w)
    first_refused (u ∷ uses) k stop h =
        refused_by u uses k stop (taken_as view made end_type types u.what u k) refl (λ now h. first_refused uses now stop h) h

    module _ {A : Type 0} (carry : (ℕ → ℕ) → A → A) (Is : A → Type 0) (Faults : LiftWhy → ℕ → Type 0) (first : Kept E) where
      value_by : (v : A) (left : ℕ) (uses : List Use) (o : Result (Kept E) (Stop E)) → applied view made end_type types uses first ≡ o → Is v
          → ComesTo view made end_type types uses first carry Is Faults
          (counting o (λ now. Ok (carry (names_in view first.slots) v, record { left = left; slots = now.slots; moved = now.moved })))
      value_by v left uses (Ok now) e is = record { plain = v; is = is; named = refl; left = now; taken = e; slots = refl; moved = refl }
      value_by v left uses (Err stop) e is = inl (first_refused uses first stop e)

      fault_by : (fault : LiftTrap) (uses : List Use) (o : Result (Kept E) (Stop E)) → applied view made end_type types uses first ≡ o → Faults fault.why fault.place
          → ComesTo view made end_type types uses first carry Is Faults (counting o (λ now. Err (stopped fault now)))
      fault_by fault uses (Ok now) e fails = inr (record { why = fault.why; spot = fault.place; fails = fails; left = now; taken = e; stops = refl })
      fault_by fault uses (Err stop) e fails = inl (first_refused uses first stop e)

      comes_to : (r : Came Listed (LiftTrap × List Use) A) (plain : Result A LiftTrap) → unlisted r ≡ plain → ((v : A) → plain ≡ Ok v → Is v)
          → ((why : LiftWhy) (spot : ℕ) → plain ≡ Err (trap why spot) → Faults why spot)
          → ComesTo view made end_type types (uses_in r) first carry Is Faults (settled view made end_type types carry first r)
      comes_to (Ok x) plain e is fails = value_by x.0 x.1.left x.1.uses (applied view made end_type types x.1.uses first) refl (is x.0 (sym e))
      comes_to (Err x) plain e is fails = fault_by x.0 x.1 (applied view made end_type types x.1 first) refl (fails x.0.why x.0.place (sym e))

module _ {E : Type 0} (view : E → EntryView) (made : Handle → E) (end_type : E → Option ℕ) (types : List ValType) (law : (x : Handle) → view (made x) ≡ seen.Handle x) where
  pub loads_come_to : LoadsComeTo view made end_type types
  loads_come_to what type memory place slots moved =
      let r : Came Listed (LiftTrap × List Use) Value = load_by listing type memory place (none_listed (most what)) in
      subst
      (λ (c : Came (Kept E) (Stop E) Value).
      ComesTo view made end_type types (uses_in r) (at_first (most what) slots moved) carried (IsLoaded what type memory place) (LoadFails what type memory place) c)
      (sym (load_settled view made end_type types (at_first (most what) slots moved) law type memory place))
      (comes_to view made end_type types carried (IsLoaded what type memory place) (LoadFails what type memory place) (at_first (most what) slots moved) r
      (load what type memory place) (loads_plain what type memory place) (λ v e. (loaded_values_stand what type memory place v).0 e)
      (λ why spot e. (failing_loads_stop what type memory place why spot).0 e))

  pub lists_come_to : ListsComeTo view made end_type types
  lists_come_to type memory place count slots moved some =
      let r : Came Listed (LiftTrap × List Use) (List Value) = load_list_by listing type memory place count (none_listed 134217728) in
      subst
      (λ (c : Came (Kept E) (Stop E) (List Value)).
      ComesTo view made end_type types (uses_in r) (at_first 134217728 slots moved) all_carried (AreLoaded type memory place count) (LoadListFails type memory place count) c)
      (sym (list_settled view made end_type types (at_first 134217728 slots moved) law type memory place count))
      (comes_to view made end_type types all_carried (AreLoaded type memory place count) (LoadListFails type memory place count) (at_first 134217728 slots moved) r
      (load_list type memory place count) (lists_plain type memory place count) (λ all e. (loaded_lists_stand type memory place count all some).0 e)
      (λ why spot e. (failing_lists_stop type memory place count why spot).0 e))

  pub words_come_to : WordsComeTo view made end_type types
  words_come_to what type memory words slots moved typed =
      let r : Came Listed (LiftTrap × List Use) Value = lift_flat_by listing type memory words (none_listed (most what)) in
      subst
      (λ (c : Came (Kept E) (Stop E) Value).
      ComesTo view made end_type types (uses_in r) (at_first (most what) slots moved) carried (IsLifted what type memory words) (LiftFlatFails what type memory words) c)
      (sym (words_settled view made end_type types (at_first (most what) slots moved) law type memory words))
      (comes_to view made end_type types carried (IsLifted what type memory words) (LiftFlatFails what type memory words) (at_first (most what) slots moved) r
      (lift_flat what type memory words) (words_plain what type memory words) (λ v e. (lifted_words_stand what type memory words v typed).0 e)
      (λ why spot e. (failing_words_stop what type memory words why spot typed).0 e))
