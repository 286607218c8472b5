-- What is lifted over a table is in its ranges.
use Rattle.std.proofs.Common.{◌≡◌, ◌∙◌, ◌<◌, ◌^◌, ℕ, List, Option, Ok, sym, subst}
use Rattle.syntax_trees.specs.declared.types.ValType.{ValType}
use Rattle.syntax_trees.specs.declared.value.Value.{Value}
use Rattle.res_handles.specs.declared.handle.Handle.{Handle}
use Rattle.res_handles.specs.declared.entry.EntryView.{EntryView}
use Rattle.res_handles.specs.declared.entry.EntryView.TheVariants as seen
use Rattle.value_lift.specs.Over.{load_by, load_list_by, lift_flat_by}
use Rattle.value_lift.specs.Lifting.{most}
use Rattle.value_lift.specs.Tables.{Kept, at_first}
use Rattle.value_lift.specs.Settled.{listing, none_listed, unlisted, names_in, carried, all_carried}
use Rattle.value_lift.proofs.Settling.{load_settled, list_settled, words_settled}
use Rattle.value_lift.proofs.Unlisted.{loads_plain, lists_plain, words_plain}
use Rattle.lowering_laws.specs.Values.{InRange, AllInRange}
use Rattle.lowering_laws.proofs.LiftedValues.{loaded_values_are, loaded_lists_are, lifted_values_are}
use Rattle.lowering_laws.proofs.Ranged.{ranged, all_ranged}
use Rattle.value_laws.specs.Fitting.{LoadsAreInRange, ListsAreInRange, WordsAreInRange}
use Rattle.value_laws.proofs.Lifted.{WasPlain, was_plain}
use Rattle.value_laws.proofs.Ranged.{carried_is, all_carried_are}

module _ {E : Type 0} (view : E → EntryView) (made : Handle → E) (end_type : E → Option ℕ) (types : List ValType) (law : (x : Handle) → view (made x) ≡ seen.Handle x) where
  pub loads_in_range : LoadsAreInRange view made end_type types
  loads_in_range what type memory place slots moved v now bytes low h =
      let k : Kept E = at_first (most what) slots moved in
      let w : WasPlain view carried k (unlisted (load_by listing type memory place (none_listed (most what)))) v =
      was_plain view made end_type types carried k (load_by listing type memory place (none_listed (most what))) v now (sym (load_settled view made end_type types k law type memory place) ∙ h) in
      subst (λ (x : Value). InRange x) w.named
      (ranged (carried_is (names_in view slots) low (loaded_values_are what type memory place w.plain bytes (sym (loads_plain what type memory place) ∙ w.is))))

  pub lists_in_range : ListsAreInRange view made end_type types
  lists_in_range type memory place count slots moved all now bytes low h =
      let k : Kept E = at_first 134217728 slots moved in
      let w : WasPlain view all_carried k (unlisted (load_list_by listing type memory place count (none_listed 134217728))) all =
      was_plain view made end_type types all_carried k (load_list_by listing type memory place count (none_listed 134217728)) all now
      (sym (list_settled view made end_type types k law type memory place count) ∙ h) in
      subst (λ (x : List Value). AllInRange x) w.named
      (all_ranged (all_carried_are (names_in view slots) low (loaded_lists_are type memory place count w.plain bytes (sym (lists_plain type memory place count) ∙ w.is))))

  pub words_in_range : WordsAreInRange view made end_type types
  words_in_range what type memory words slots moved v now bytes low many h =
      let k : Kept E = at_first (most what) slots moved in
      let w : WasPlain view carried k (unlisted (lift_flat_by listing type memory words (none_listed (most what)))) v =
      was_plain view made end_type types carried k (lift_flat_by listing type memory words (none_listed (most what))) v now (sym (words_settled view made end_type types k law type memory words) ∙ h) in
      subst (λ (x : Value). InRange x) w.named
      (ranged (carried_is (names_in view slots) low (lifted_values_are what type memory words w.plain bytes many (sym (words_plain what type memory words) ∙ w.is))))
