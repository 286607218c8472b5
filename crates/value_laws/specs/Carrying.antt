-- Which value a plain one carries, whose indices stand in a table (Component Model, CanonicalABI.md, "Storing", "Flat Lowering",
-- `lower_own`, `lower_borrow`, `lower_stream` and `lower_future`), by cases on the value: both are the same but for handles and ends, and
-- there the index of the plain one names what the other one has.
use Rattle.std.specs.Prelude.{◌≡◌, if◌then◌else◌, ℕ, ℤ, Bool, true, false, List, [], ◌∷◌, map, Option, Some, None}
use Rattle.std.specs.List.{slice_get}
use Rattle.syntax_trees.specs.declared.types.ValType.{ValType}
use Rattle.syntax_trees.specs.declared.types.Field.{Field}
use Rattle.syntax_trees.specs.declared.types.Case.{Case}
use Rattle.syntax_trees.specs.declared.types.ValType.TheViews as types
use Rattle.syntax_trees.specs.declared.types.ValType.TheVariants as leaves
use Rattle.syntax_trees.specs.declared.value.Handle.{Handle}
use Rattle.syntax_trees.specs.declared.value.Value.{Value, fold-Value, roll-Value}
use Rattle.syntax_trees.specs.declared.value.Value.TheOpen.{Value-F}
use Rattle.syntax_trees.specs.declared.value.Value.TheViews as values
use Rattle.syntax_trees.specs.declared.value.Value.TheVariants as plain
use Rattle.handle_table.specs.Slots.{Slots, entry_at}
use Rattle.res_handles.specs.declared.handle.Handle as Handles
use Rattle.res_handles.specs.declared.entry.EntryView.{EntryView}
use Rattle.res_handles.specs.Calls.{is_defined}
use Rattle.value_lift.specs.Settled.{carried_handle, names_in}
use Rattle.value_lower.specs.Plan.{New, NewOwn, NewBorrow, NewEnd}
use Rattle.value_lower.specs.Tables.{IsEntry}

-- By which entries are of what is new, its entry stands at this index.
pub record Names {E : Type 0} (is : New → E → Type 0) (s : Slots E) (entry : New) (index : ℕ) : Type 0 where
  pub made : E
  pub of_it : is entry made
  pub there : entry_at s index ≡ Some made

-- A borrow of a resource that the instance defines is told by its representation, and all else by an index.
pub data IsTold {E : Type 0} (is : New → E → Type 0) (home : List ℕ) (s : Slots E) : New → ℕ → Type 0 where
  own_told : (resource rep index : ℕ) → Names is s (NewOwn resource rep) index → IsTold is home s (NewOwn resource rep) index
  home_told : (resource rep : ℕ) → is_defined resource home ≡ true → IsTold is home s (NewBorrow resource rep) rep
  borrow_told : (resource rep index : ℕ) → is_defined resource home ≡ false → Names is s (NewBorrow resource rep) index → IsTold is home s (NewBorrow resource rep) index
  end_told : (type : ValType) (number index : ℕ) → Names is s (NewEnd type number) index → IsTold is home s (NewEnd type number) index

mutual
  -- A plain value of a type carries another one.
  pub data Carries {E : Type 0} (is : New → E → Type 0) (home : List ℕ) (s : Slots E) : ValType → Value → Value → Type 0 where
    bool_carries : (b : Bool) → Carries is home s leaves.Bool (plain.Bool b) (plain.Bool b)
    s8_carries : (n : ℤ) → Carries is home s leaves.S8 (plain.S8 n) (plain.S8 n)
    u8_carries : (n : ℕ) → Carries is home s leaves.U8 (plain.U8 n) (plain.U8 n)
    s16_carries : (n : ℤ) → Carries is home s leaves.S16 (plain.S16 n) (plain.S16 n)
    u16_carries : (n : ℕ) → Carries is home s leaves.U16 (plain.U16 n) (plain.U16 n)
    s32_carries : (n : ℤ) → Carries is home s leaves.S32 (plain.S32 n) (plain.S32 n)
    u32_carries : (n : ℕ) → Carries is home s leaves.U32 (plain.U32 n) (plain.U32 n)
    s64_carries : (n : ℤ) → Carries is home s leaves.S64 (plain.S64 n) (plain.S64 n)
    u64_carries : (n : ℕ) → Carries is home s leaves.U64 (plain.U64 n) (plain.U64 n)
    char_carries : (c : ℕ) → Carries is home s leaves.Char (plain.Char c) (plain.Char c)
    string_carries : (text : List ℕ) → Carries is home s leaves.String (plain.String text) (plain.String text)
    flags_carry : (labels : List (List ℕ)) (flags : List Bool) → Carries is home s (leaves.Flags labels) (plain.Flags flags) (plain.Flags flags)
    own_carries : (resource rep index : ℕ) → IsTold is home s (NewOwn resource rep) index
        → Carries is home s (leaves.Own resource) (plain.Own (record { resource = resource; rep = index })) (plain.Own (record { resource = resource; rep = rep }))
    borrow_carries : (resource rep index : ℕ) → IsTold is home s (NewBorrow resource rep) index
        → Carries is home s (leaves.Borrow resource) (plain.Borrow (record { resource = resource; rep = index })) (plain.Borrow (record { resource = resource; rep = rep }))
    stream_carries : (element : Option ValType) (number index : ℕ) → IsTold is home s (NewEnd (types.Stream element) number) index
        → Carries is home s (types.Stream element) (plain.Stream index) (plain.Stream number)
    future_carries : (element : Option ValType) (number index : ℕ) → IsTold is home s (NewEnd (types.Future element) number) index
        → Carries is home s (types.Future element) (plain.Future index) (plain.Future number)
    list_carries : (element : ValType) (all others : List Value) → AllCarry is home s element all others → Carries is home s (types.List element) (values.List all) (values.List others)
    record_carries : (fields : List Field) (all others : List Value) → EachCarries is home s (map (λ (f : Field). f.val_type) fields) all others
        → Carries is home s (types.Record fields) (values.Record all) (values.Record others)
    tuple_carries : (parts : List ValType) (all others : List Value) → EachCarries is home s parts all others → Carries is home s (types.Tuple parts) (values.Record all) (values.Record others)
    case_carries : (n : ℕ) (cases : List Case) (c : Case) (payload other : Option Value) → slice_get cases n ≡ Some c → PayloadCarries is home s c.payload payload other
        → Carries is home s (types.Variant cases) (values.Variant n payload) (values.Variant n other)
    enum_carries : (n : ℕ) (labels : List (List ℕ)) → Carries is home s (leaves.Enum labels) (values.Variant n None) (values.Variant n None)
    none_carries : (part : ValType) → Carries is home s (types.Option part) (values.Variant 0 None) (values.Variant 0 None)
    some_carries : (part : ValType) (payload other : Option Value) → PayloadCarries is home s (Some part) payload other
        → Carries is home s (types.Option part) (values.Variant 1 payload) (values.Variant 1 other)
    ok_carries : (ok err : Option ValType) (payload other : Option Value) → PayloadCarries is home s ok payload other
        → Carries is home s (types.Result ok err) (values.Variant 0 payload) (values.Variant 0 other)
    err_carries : (ok err : Option ValType) (payload other : Option Value) → PayloadCarries is home s err payload other
        → Carries is home s (types.Result ok err) (values.Variant 1 payload) (values.Variant 1 other)

  -- values of one type, in order
  pub data AllCarry {E : Type 0} (is : New → E → Type 0) (home : List ℕ) (s : Slots E) : ValType → List Value → List Value → Type 0 where
    none_carry : (element : ValType) → AllCarry is home s element [] []
    more_carry : (element : ValType) (v u : Value) (all others : List Value) → Carries is home s element v u → AllCarry is home s element all others
        → AllCarry is home s element (v ∷ all) (u ∷ others)

  -- values of these types, in order
  pub data EachCarries {E : Type 0} (is : New → E → Type 0) (home : List ℕ) (s : Slots E) : List ValType → List Value → List Value → Type 0 where
    no_carries : EachCarries is home s [] [] []
    more_carries : (t : ValType) (types : List ValType) (v u : Value) (all others : List Value) → Carries is home s t v u → EachCarries is home s types all others
        → EachCarries is home s (t ∷ types) (v ∷ all) (u ∷ others)

  -- a payload exactly where there is one
  pub data PayloadCarries {E : Type 0} (is : New → E → Type 0) (home : List ℕ) (s : Slots E) : Option ValType → Option Value → Option Value → Type 0 where
    no_payload_carries : PayloadCarries is home s None None None
    payload_carries : (t : ValType) (v u : Value) → Carries is home s t v u → PayloadCarries is home s (Some t) (Some v) (Some u)

-- A plain value with each index replaced by what it names. A borrow of a resource that the instance defines is told by its representation,
-- and stays.
abbrev pub named_borrow : List ℕ → (ℕ → ℕ) → Handle → Handle
named_borrow home names h = if is_defined h.resource home then h else carried_handle names h

abbrev pub named_step : List ℕ → (ℕ → ℕ) → Value-F Value → Value
named_step home names (Value-F.Own h) = plain.Own (carried_handle names h)
named_step home names (Value-F.Borrow h) = plain.Borrow (named_borrow home names h)
named_step home names (Value-F.Stream n) = plain.Stream (names n)
named_step home names (Value-F.Future n) = plain.Future (names n)
named_step home names other = roll-Value other

abbrev pub named : List ℕ → (ℕ → ℕ) → Value → Value
named home names = fold-Value Value (named_step home names)

-- So a plain value is the one that it carries, with its indices in place of what they name.
abbrev pub CarriedAreNamed : {E : Type 0} → (E → EntryView) → (Handles.Handle → E) → (ℕ → ℕ → E) → Type 0
CarriedAreNamed {E} view made made_end =
    (task : ℕ) (types : List ValType) (home : List ℕ) (s : Slots E) (type : ValType) (v u : Value) → Carries (IsEntry made made_end task types) home s type v u
    → named home (names_in view s) v ≡ u
