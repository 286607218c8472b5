-- What is lifted over a table fits its type, and no copy comes to elements that don't.
use Rattle.std.proofs.Common.{◌≡◌, ◌∙◌, ℕ, zero, suc, Bool, true, false, List, [], ◌∷◌, map, Option, Some, None, Result, Ok, Err, refl, ap, sym, arith}
use Rattle.syntax_trees.specs.declared.types.ValType.{ValType}
use Rattle.syntax_trees.specs.declared.value.Value.{Value}
use Rattle.syntax_trees.specs.Fits.{fits, test_of, all_pass}
use Rattle.res_handles.specs.declared.handle.Handle.{Handle}
use Rattle.res_handles.specs.declared.entry.EntryView.{EntryView}
use Rattle.res_handles.specs.declared.entry.EntryView.TheVariants as seen
use Rattle.value_lift.specs.declared.trap.LiftTrap.{LiftTrap}
use Rattle.value_lift.specs.Answers.{Lifted, value_of}
use Rattle.value_lift.specs.Ledger.{Came, Use, counting}
use Rattle.value_lift.specs.Lifting.{load, load_list, lift_flat, lift_words, most}
use Rattle.value_lift.specs.Over.{load_by, load_list_by, lift_flat_by}
use Rattle.value_lift.specs.Tables.{Kept, Stop, by_table, at_first, given}
use Rattle.value_lift.specs.Settled.{Listed, listing, none_listed, unlisted, names_in, carried, all_carried, applied, settled}
use Rattle.value_lift.specs.Standing.{Stands}
use Rattle.value_lift.proofs.Loaded.{loaded_values_stand, loaded_lists_stand}
use Rattle.value_lift.proofs.Passing.{ok_same}
use Rattle.value_lift.proofs.Settling.{load_settled, list_settled, words_settled}
use Rattle.value_lift.proofs.Unlisted.{loads_plain, lists_plain, words_plain}
use Rattle.value_lift.proofs.WordTypes.{word_told_type}
use Rattle.copy_engine.specs.declared.copying.Copied.{Copied}
use Rattle.copy_engine.specs.declared.copying.Copied.TheVariants as copied
use Rattle.copy_engine.specs.declared.lower_values.Lowered.{Lowered}
use Rattle.copy_engine.specs.declared.lower_values.Lowered.TheVariants as lowered
use Rattle.copy_engine.specs.Answering.{Setting}
use Rattle.copy_engine.specs.Hosted.{Placed}
use Rattle.copy_engine.specs.Nested.{bytes_in}
use Rattle.copy_engine.specs.Copying.{CopyState, as_copied, all_fit, LowersFitting, CopiesBy}
use Rattle.value_lower.specs.Plan.{New}
use Rattle.value_lower.specs.Tables.{IsEntry}
use Rattle.value_laws.specs.Fitting.{LoadsFit, ListsFit, WordsFit, CopiesFit}
use Rattle.lowering_laws.proofs.Asking.{both_true}
use Rattle.value_laws.proofs.Fitting.{both, standing_fits, elements_fit, flat_fits}

-- The value that lifting comes to without the list.
value_was : (l : Lifted Value) (v : Value) → value_of l ≡ Ok v → (rest : ℕ) × (l ≡ Ok (v, rest))
value_was (Ok x) v h = (x.1, ap (λ (w : Value). (let r : Lifted Value = Ok (w, x.1) in r)) (ok_same x.0 v h))
value_was (Err e) v h = cc

-- Values that all pass, in both forms.
each_passes_too : (names : ℕ → ℕ) (type : ValType) (all : List Value) → all_pass (test_of type) (map (carried names) all) ≡ true → all_fit type (map (carried names) all) ≡ true
each_passes_too names type [] h = refl
each_passes_too names type (v ∷ all) h =
    let w = both_true (test_of type (carried names v)) (all_pass (test_of type) (map (carried names) all)) h in
    both (test_of type (carried names v)) (all_fit type (map (carried names) all)) w.0 (each_passes_too names type all w.1)

-- What elements that are lowered come to.
no_misfit : (values : List Value) (came : Lowered) → as_copied values came ≡ copied.Misfit → ⊥
no_misfit values (lowered.Words words) h = cc
no_misfit values (lowered.Failed why) h = cc
no_misfit values (lowered.Trapped why) h = cc
no_misfit values lowered.NoFuel h = cc

-- what was lifted, or something else
abbrev first_of : {S F A : Type 0} → A → Came S F A → A
first_of other (Ok x) = x.0
first_of other (Err fault) = other

-- A plain value that fits with each index replaced.
pub record WasPlain {E A : Type 0} (view : E → EntryView) (carry : (ℕ → ℕ) → A → A) (k : Kept E) (r : Result A LiftTrap) (v : A) : Type 0 where
  pub plain : A
  pub is : r ≡ Ok plain
  pub named : carry (names_in view k.slots) plain ≡ v

module _ {E : Type 0} (view : E → EntryView) (made : Handle → E) (end_type : E → Option ℕ) (types : List ValType) where
  counted : {A : Type 0} (o : Result (Kept E) (Stop E)) (w v : A) (f : Kept E → Kept E) (now : Kept E)
      → counting o (λ (n : Kept E). (let r : Came (Kept E) (Stop E) A = Ok (w, f n) in r)) ≡ Ok (v, now) → w ≡ v
  counted {A} (Ok n) w v f now h = ap (λ (r : Came (Kept E) (Stop E) A). first_of w r) h
  counted (Err stop) w v f now h = cc

  stopped_not : {A : Type 0} (o : Result (Kept E) (Stop E)) (f : Kept E → Stop E) (v : A) (now : Kept E)
      → counting o (λ (n : Kept E). (let r : Came (Kept E) (Stop E) A = Err (f n) in r)) ≡ Ok (v, now) → ⊥
  stopped_not (Ok n) f v now h = cc
  stopped_not (Err stop) f v now h = cc

  pub was_plain : {A : Type 0} (carry : (ℕ → ℕ) → A → A) (k : Kept E) (r : Came Listed (LiftTrap × List Use) A) (v : A) (now : Kept E)
      → settled view made end_type types carry k r ≡ Ok (v, now) → WasPlain view carry k (unlisted r) v
  was_plain carry k (Ok x) v now h = record {
    plain = x.0;
    is = refl;
    named =
        counted (applied view made end_type types x.1.uses k) (carry (names_in view k.slots) x.0) v
        (λ (n : Kept E). record { left = x.1.left; slots = n.slots; moved = n.moved }) now h;
  }
  was_plain {A} carry k (Err x) v now h =
      absurd (stopped_not {A = A} (applied view made end_type types x.1 k) (λ (n : Kept E). record { trap = x.0; slots = n.slots; moved = n.moved }) v now h)

  module _ (law : (x : Handle) → view (made x) ≡ seen.Handle x) where
    pub loads_fit : LoadsFit view made end_type types
    loads_fit what type memory place slots moved v now h =
        let k : Kept E = at_first (most what) slots moved in
        let w : WasPlain view carried k (unlisted (load_by listing type memory place (none_listed (most what)))) v =
        was_plain carried k (load_by listing type memory place (none_listed (most what))) v now (sym (load_settled view made end_type types k law type memory place) ∙ h) in
        let e : load what type memory place ≡ Ok w.plain = sym (loads_plain what type memory place) ∙ w.is in
        let s : Stands memory place type w.plain = ((loaded_values_stand what type memory place w.plain).0 e).stored.stands in
        ap (λ (x : Value). fits x type) (sym w.named) ∙ standing_fits (names_in view k.slots) s

    pub words_fit : WordsFit view made end_type types
    words_fit what type memory words slots moved v now many h =
        let k : Kept E = at_first (most what) slots moved in
        let w : WasPlain view carried k (unlisted (lift_flat_by listing type memory words (none_listed (most what)))) v =
        was_plain carried k (lift_flat_by listing type memory words (none_listed (most what))) v now (sym (words_settled view made end_type types k law type memory words) ∙ h) in
        let e : lift_flat what type memory words ≡ Ok w.plain = sym (words_plain what type memory words) ∙ w.is in
        let p = value_was (lift_words type memory words 0 (most what)) w.plain e in
        let f = word_told_type type memory words 0 (most what) p.0 w.plain (omega (arith, many)) p.1 in
        ap (λ (x : Value). fits x type) (sym w.named) ∙ flat_fits (names_in view k.slots) f.stands

    pub lists_fit : ListsFit view made end_type types
    lists_fit type memory place count slots moved all now h =
        let k : Kept E = at_first 134217728 slots moved in
        let w : WasPlain view all_carried k (unlisted (load_list_by listing type memory place count (none_listed 134217728))) all =
        was_plain all_carried k (load_list_by listing type memory place count (none_listed 134217728)) all now (sym (list_settled view made end_type types k law type memory place count) ∙ h) in
        let e : load_list type memory place count ≡ Ok w.plain = sym (lists_plain type memory place count) ∙ w.is in
        ap (λ (x : List Value). all_fit type x) (sym w.named) ∙ passes count w.plain e k
      where
        passes : (count : ℕ) (plain : List Value) → load_list type memory place count ≡ Ok plain → (k : Kept E) → all_fit type (all_carried (names_in view k.slots) plain) ≡ true
        passes zero plain e k = ap (λ (x : List Value). all_fit type (all_carried (names_in view k.slots) x)) (sym (ok_same [] plain e))
        passes (suc n) plain e k =
            each_passes_too (names_in view k.slots) type plain
            (elements_fit (names_in view k.slots) ((loaded_lists_stand type memory place (suc n) plain (omega arith)).0 e).stored.stand)

    -- Copies.
    fitting_lowered : (is : New → E → Type 0) (to : Setting) (home : List ℕ) (type : ValType) (place : ℕ) (b : Bool) (values : List Value) (before after : Placed E) (c : Copied) → b ≡ true
        → LowersFitting view is to home type place b values before c after → c ≡ copied.Misfit → ⊥
    fitting_lowered is to home type place true values before after c e h m = no_misfit values h.0 (sym h.2 ∙ m)
    fitting_lowered is to home type place false values before after c e h m = cc

    lifted_copied : (is : New → E → Type 0) (to : Setting) (home : List ℕ) (type : ValType) (place : ℕ) (r : Came (Kept E) (Stop E) (List Value))
        → ((all : List Value) (now : Kept E) → r ≡ Ok (all, now) → all_fit type all ≡ true) → (before after : CopyState E) (c : Copied)
        → CopiesBy view is to home type place (given r) before c after → c ≡ copied.Misfit → ⊥
    lifted_copied is to home type place (Ok x) fit before after c h m =
        fitting_lowered is to home type place (all_fit type x.0) x.0 before.placed after.placed c (fit x.0 x.1 refl) h.2 m
    lifted_copied is to home type place (Err stop) fit before after c h m =
        let e : copied.NotLifted stop.trap ≡ copied.Misfit = sym h.0 ∙ m in
        cc

module _ {E : Type 0} (view : E → EntryView) (made : Handle → E) (made_end : ℕ → ℕ → E) (end_type : E → Option ℕ) (law : (x : Handle) → view (made x) ≡ seen.Handle x) where
  pub copies_fit : CopiesFit view made made_end end_type
  copies_fit None from count to task home place before after c h m =
      let e : copied.Values [] ≡ copied.Misfit = sym h.0 ∙ m in
      cc
  copies_fit (Some t) from count to task home place before after c h m =
      lifted_copied view made end_type t.types law (IsEntry made made_end task t.types) to home t.val_type place
      (load_list_by (by_table view made end_type t.types) t.val_type (bytes_in from.memory before.placed.room.store) from.place count (at_first 134217728 before.out before.moved))
      (λ all now e.
      lists_fit view made end_type t.types law t.val_type (bytes_in from.memory before.placed.room.store) from.place count before.out before.moved all now e)
      before after c h m
