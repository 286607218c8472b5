-- A plain value that carries another one is that with each index replaced by what it names.
use Rattle.std.proofs.Common.{◌≡◌, ◌∙◌, ℕ, Bool, true, false, List, ◌∷◌, map, Option, Some, None, refl, ap, sym}
use Rattle.std.specs.Prelude.{if◌then◌else◌, option_map}
use Rattle.syntax_trees.specs.declared.types.ValType.{ValType}
use Rattle.syntax_trees.specs.declared.value.Handle.{Handle}
use Rattle.syntax_trees.specs.declared.value.Value.{Value, roll-Value}
use Rattle.syntax_trees.specs.declared.value.Value.TheOpen as V
use Rattle.syntax_trees.specs.declared.value.Value.TheViews as values
use Rattle.syntax_trees.specs.declared.value.Value.TheVariants as plain
use Rattle.syntax_trees.specs.declared.value.Value.TheFolds.{map-Value, fold-roll-Value}
use Rattle.handle_table.specs.Slots.{Slots}
use Rattle.res_handles.specs.declared.handle.Handle as Handles
use Rattle.res_handles.specs.declared.entry.EntryView.{EntryView}
use Rattle.res_handles.specs.declared.entry.EntryView.TheVariants as seen
use Rattle.res_handles.specs.Calls.{own_handle, borrow_handle, is_defined}
use Rattle.res_handles.specs.Ends.{idle_end}
use Rattle.value_lift.specs.Settled.{carried_handle, name_of, names_in}
use Rattle.value_lower.specs.Plan.{New, NewOwn, NewBorrow, NewEnd, number_of}
use Rattle.value_lower.specs.Tables.{IsEntry}
use Rattle.value_laws.specs.Carrying.{Names, IsTold, own_told, home_told, borrow_told, end_told, Carries, AllCarry, EachCarries, PayloadCarries, bool_carries, s8_carries, u8_carries, s16_carries, u16_carries, s32_carries, u32_carries, s64_carries, u64_carries, char_carries, string_carries, flags_carry, own_carries, borrow_carries, stream_carries, future_carries, list_carries, record_carries, tuple_carries, case_carries, enum_carries, none_carries, some_carries, ok_carries, err_carries, none_carry, more_carry, no_carries, more_carries, no_payload_carries, payload_carries, named_borrow, named_step, named, CarriedAreNamed}

abbrev handle : ℕ → ℕ → Handle
handle resource n = record { resource = resource; rep = n }

module _ (home : List ℕ) (names : ℕ → ℕ) where
  named_by : (v w : Value) (o : V.Value-F Value) → roll-Value o ≡ v → named_step home names (map-Value Value Value (named home names) o) ≡ w → named home names v ≡ w
  named_by v w o e f = ap (named home names) (sym e) ∙ fold-roll-Value Value (named_step home names) o ∙ f

  named_list : (all : List Value) → named home names (values.List all) ≡ values.List (map (named home names) all)
  named_list all = named_by (values.List all) (values.List (map (named home names) all)) (V.List all) (plain.rolls-List all) (plain.rolls-List (map (named home names) all))

  named_record : (all : List Value) → named home names (values.Record all) ≡ values.Record (map (named home names) all)
  named_record all = named_by (values.Record all) (values.Record (map (named home names) all)) (V.Record all) (plain.rolls-Record all) (plain.rolls-Record (map (named home names) all))

  named_variant : (n : ℕ) (payload : Option Value) → named home names (values.Variant n payload) ≡ values.Variant n (option_map (named home names) payload)
  named_variant n (Some v) =
      named_by (values.Variant n (Some v)) (values.Variant n (Some (named home names v))) (V.Variant n (Some v)) (plain.rolls-Variant n (Some v)) (plain.rolls-Variant n (Some (named home names v)))
  named_variant n None = named_by (values.Variant n None) (values.Variant n None) (V.Variant n None) (plain.rolls-Variant n None) (plain.rolls-Variant n None)

  same : (v : Value) (o : V.Value-F Value) → roll-Value o ≡ v → named_step home names (map-Value Value Value (named home names) o) ≡ roll-Value o → named home names v ≡ v
  same v o e f = named_by v v o e (f ∙ e)

  home_borrow : (b : Bool) (h : Handle) → is_defined h.resource home ≡ b → b ≡ true → named_borrow home names h ≡ h
  home_borrow b h e f = ap (λ (c : Bool). if c then h else carried_handle names h) (e ∙ f)

  other_borrow : (h : Handle) → is_defined h.resource home ≡ false → named_borrow home names h ≡ carried_handle names h
  other_borrow h e = ap (λ (c : Bool). if c then h else carried_handle names h) e

module _ {E : Type 0} (view : E → EntryView) (made : Handles.Handle → E) (made_end : ℕ → ℕ → E) (handles : (x : Handles.Handle) → view (made x) ≡ seen.Handle x)
    (ends : (t n : ℕ) → view (made_end t n) ≡ seen.ReadableEnd (idle_end n)) (task : ℕ) (types : List ValType) (home : List ℕ) (s : Slots E) where
  abbrev is : New → E → Type 0
  is = IsEntry made made_end task types

  -- An index names what is new.
  number_named : (entry : New) (e : E) → is entry e → name_of (Some (view e)) ≡ number_of entry
  number_named (NewOwn resource rep) e h = ap (λ (x : E). name_of (Some (view x))) h ∙ ap (λ (x : EntryView). name_of (Some x)) (handles (own_handle resource rep))
  number_named (NewBorrow resource rep) e h = ap (λ (x : E). name_of (Some (view x))) h ∙ ap (λ (x : EntryView). name_of (Some x)) (handles (borrow_handle resource rep task))
  number_named (NewEnd type number) e h = ap (λ (x : E). name_of (Some (view x))) h.2 ∙ ap (λ (x : EntryView). name_of (Some x)) (ends h.0 number)

  index_named : (entry : New) (index : ℕ) → Names is s entry index → names_in view s index ≡ number_of entry
  index_named entry index n = ap (λ (o : Option E). name_of (option_map view o)) n.there ∙ number_named entry n.made n.of_it

  abbrev Says : New → ℕ → Type 0
  Says (NewOwn resource rep) index = names_in view s index ≡ rep
  Says (NewBorrow resource rep) index = named_borrow home (names_in view s) (handle resource index) ≡ handle resource rep
  Says (NewEnd type number) index = names_in view s index ≡ number

  says : {entry : New} {index : ℕ} → IsTold is home s entry index → Says entry index
  says (own_told resource rep index n) = index_named (NewOwn resource rep) index n
  says (home_told resource rep e) = home_borrow home (names_in view s) (is_defined resource home) (handle resource rep) refl e
  says (borrow_told resource rep index e n) =
      other_borrow home (names_in view s) (handle resource index) e ∙ ap (λ (k : ℕ). handle resource k) (index_named (NewBorrow resource rep) index n)
  says (end_told type number index n) = index_named (NewEnd type number) index n

  mutual
    carries_named : {t : ValType} {v u : Value} → Carries is home s t v u → named home (names_in view s) v ≡ u
    carries_named (bool_carries b) = same home (names_in view s) (plain.Bool b) (V.Bool b) (plain.rolls-Bool b) refl
    carries_named (s8_carries n) = same home (names_in view s) (plain.S8 n) (V.S8 n) (plain.rolls-S8 n) refl
    carries_named (u8_carries n) = same home (names_in view s) (plain.U8 n) (V.U8 n) (plain.rolls-U8 n) refl
    carries_named (s16_carries n) = same home (names_in view s) (plain.S16 n) (V.S16 n) (plain.rolls-S16 n) refl
    carries_named (u16_carries n) = same home (names_in view s) (plain.U16 n) (V.U16 n) (plain.rolls-U16 n) refl
    carries_named (s32_carries n) = same home (names_in view s) (plain.S32 n) (V.S32 n) (plain.rolls-S32 n) refl
    carries_named (u32_carries n) = same home (names_in view s) (plain.U32 n) (V.U32 n) (plain.rolls-U32 n) refl
    carries_named (s64_carries n) = same home (names_in view s) (plain.S64 n) (V.S64 n) (plain.rolls-S64 n) refl
    carries_named (u64_carries n) = same home (names_in view s) (plain.U64 n) (V.U64 n) (plain.rolls-U64 n) refl
    carries_named (char_carries c) = same home (names_in view s) (plain.Char c) (V.Char c) (plain.rolls-Char c) refl
    carries_named (string_carries text) = same home (names_in view s) (plain.String text) (V.String text) (plain.rolls-String text) refl
    carries_named (flags_carry labels flags) = same home (names_in view s) (plain.Flags flags) (V.Flags flags) (plain.rolls-Flags flags) refl
    carries_named (own_carries resource rep index h) =
        named_by home (names_in view s) (plain.Own (handle resource index)) (plain.Own (handle resource rep)) (V.Own (handle resource index)) (plain.rolls-Own (handle resource index))
        (ap (λ (k : ℕ). plain.Own (handle resource k)) (says h))
    carries_named (borrow_carries resource rep index h) =
        named_by home (names_in view s) (plain.Borrow (handle resource index)) (plain.Borrow (handle resource rep)) (V.Borrow (handle resource index)) (plain.rolls-Borrow (handle resource index))
        (ap (λ (x : Handle). plain.Borrow x) (says h))
    carries_named (stream_carries element number index h) =
        named_by home (names_in view s) (plain.Stream index) (plain.Stream number) (V.Stream index) (plain.rolls-Stream index) (ap (λ (k : ℕ). plain.Stream k) (says h))
    carries_named (future_carries element number index h) =
        named_by home (names_in view s) (plain.Future index) (plain.Future number) (V.Future index) (plain.rolls-Future index) (ap (λ (k : ℕ). plain.Future k) (says h))
    carries_named (list_carries element all others h) = named_list home (names_in view s) all ∙ ap (λ (l : List Value). values.List l) (all_named h)
    carries_named (record_carries fields all others h) = named_record home (names_in view s) all ∙ ap (λ (l : List Value). values.Record l) (each_named h)
    carries_named (tuple_carries parts all others h) = named_record home (names_in view s) all ∙ ap (λ (l : List Value). values.Record l) (each_named h)
    carries_named (case_carries n cases c payload other there h) = named_variant home (names_in view s) n payload ∙ ap (λ (o : Option Value). values.Variant n o) (payload_named h)
    carries_named (enum_carries n labels) = named_variant home (names_in view s) n None
    carries_named (none_carries part) = named_variant home (names_in view s) 0 None
    carries_named (some_carries part payload other h) = named_variant home (names_in view s) 1 payload ∙ ap (λ (o : Option Value). values.Variant 1 o) (payload_named h)
    carries_named (ok_carries ok err payload other h) = named_variant home (names_in view s) 0 payload ∙ ap (λ (o : Option Value). values.Variant 0 o) (payload_named h)
    carries_named (err_carries ok err payload other h) = named_variant home (names_in view s) 1 payload ∙ ap (λ (o : Option Value). values.Variant 1 o) (payload_named h)

    all_named : {t : ValType} {all others : List Value} → AllCarry is home s t all others → map (named home (names_in view s)) all ≡ others
    all_named (none_carry t) = refl
    all_named (more_carry t v u all others h are) =
        ap (λ (w : Value). w ∷ map (named home (names_in view s)) all) (carries_named h) ∙ ap (λ (l : List Value). u ∷ l) (all_named are)

    each_named : {ts : List ValType} {all others : List Value} → EachCarries is home s ts all others → map (named home (names_in view s)) all ≡ others
    each_named no_carries = refl
    each_named (more_carries t ts v u all others h are) =
        ap (λ (w : Value). w ∷ map (named home (names_in view s)) all) (carries_named h) ∙ ap (λ (l : List Value). u ∷ l) (each_named are)

    payload_named : {p : Option ValType} {payload other : Option Value} → PayloadCarries is home s p payload other → option_map (named home (names_in view s)) payload ≡ other
    payload_named no_payload_carries = refl
    payload_named (payload_carries t v u h) = ap (λ (w : Value). (let o : Option Value = Some w in o)) (carries_named h)

module _ {E : Type 0} (view : E → EntryView) (made : Handles.Handle → E) (made_end : ℕ → ℕ → E) (handles : (x : Handles.Handle) → view (made x) ≡ seen.Handle x)
    (ends : (t n : ℕ) → view (made_end t n) ≡ seen.ReadableEnd (idle_end n)) where
  pub carried_are_named : CarriedAreNamed view made made_end
  carried_are_named task types home s type v u h = carries_named view made made_end handles ends task types home s h
