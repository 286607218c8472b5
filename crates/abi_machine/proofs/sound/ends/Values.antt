-- The readable ends in values, by their kinds.
use Rattle.std.proofs.Common.{◌≡◌, ◌∙◌, ℕ, ℤ, Bool, true, false, not, ◌==◌, if◌then◌else◌, List, [], ◌∷◌, ◌++◌, map, refl, sym, ap, append-nil, append_assoc, Option, Some, None, Result, Ok, Err}
use Rattle.std.specs.List.{flat_map}
use Rattle.std.specs.Int.{Width, w8, w16, w32, w64, cast_signed}
use Rattle.std.specs.Str.{is_utf8}
use Rattle.syntax_trees.specs.declared.types.ValType.TheOpen as F
use Rattle.syntax_trees.specs.declared.value.Value.{Value, roll-Value}
use Rattle.syntax_trees.specs.declared.value.Handle.{Handle}
use Rattle.syntax_trees.specs.declared.value.Value.TheOpen as V
use Rattle.syntax_trees.specs.declared.value.Value.TheViews as values
use Rattle.syntax_trees.specs.declared.value.Value.TheVariants as plain
use Rattle.syntax_trees.specs.declared.value.Value.TheFolds.{fold-roll-Value}
use Rattle.builtin_kinds.specs.declared.EndKind.TheVariants.{Stream, Future}
use Rattle.value_lift.specs.declared.trap.LiftTrap.{LiftTrap}
use Rattle.value_lift.specs.declared.trap.LiftWhy.TheVariants.{BadChar, BadUtf8}
use Rattle.value_lift.specs.Bytes.{is_scalar, flags_from}
use Rattle.value_lift.specs.Answers.{trap}
use Rattle.value_lift.specs.Pieces.{plain_of, text_of, flags_of}
use Rattle.abi_machine.specs.Control.{EndRef}
use Rattle.abi_machine.specs.sound.EndsPassed.{readable, ends_step, ends_in, ends_of}

abbrev ends_by : V.Value-F Value → List EndRef
ends_by y = ends_in (roll-Value y)

-- a value of a layer
of_layer : (y : V.Value-F Value) (v : Value) → roll-Value y ≡ v → (ends : List EndRef) → ends_by y ≡ ends → ends_in v ≡ ends
of_layer y v rolls ends e = ap ends_in (sym rolls) ∙ e

pub bool_ends : (b : Bool) → ends_in (plain.Bool b) ≡ []
bool_ends b = of_layer (V.Bool b) (plain.Bool b) (plain.rolls-Bool b) [] (fold-roll-Value (List EndRef) ends_step (V.Bool b))

pub s8_ends : (n : ℤ) → ends_in (plain.S8 n) ≡ []
s8_ends n = of_layer (V.S8 n) (plain.S8 n) (plain.rolls-S8 n) [] (fold-roll-Value (List EndRef) ends_step (V.S8 n))

pub u8_ends : (n : ℕ) → ends_in (plain.U8 n) ≡ []
u8_ends n = of_layer (V.U8 n) (plain.U8 n) (plain.rolls-U8 n) [] (fold-roll-Value (List EndRef) ends_step (V.U8 n))

pub s16_ends : (n : ℤ) → ends_in (plain.S16 n) ≡ []
s16_ends n = of_layer (V.S16 n) (plain.S16 n) (plain.rolls-S16 n) [] (fold-roll-Value (List EndRef) ends_step (V.S16 n))

pub u16_ends : (n : ℕ) → ends_in (plain.U16 n) ≡ []
u16_ends n = of_layer (V.U16 n) (plain.U16 n) (plain.rolls-U16 n) [] (fold-roll-Value (List EndRef) ends_step (V.U16 n))

pub s32_ends : (n : ℤ) → ends_in (plain.S32 n) ≡ []
s32_ends n = of_layer (V.S32 n) (plain.S32 n) (plain.rolls-S32 n) [] (fold-roll-Value (List EndRef) ends_step (V.S32 n))

pub u32_ends : (n : ℕ) → ends_in (plain.U32 n) ≡ []
u32_ends n = of_layer (V.U32 n) (plain.U32 n) (plain.rolls-U32 n) [] (fold-roll-Value (List EndRef) ends_step (V.U32 n))

pub s64_ends : (n : ℤ) → ends_in (plain.S64 n) ≡ []
s64_ends n = of_layer (V.S64 n) (plain.S64 n) (plain.rolls-S64 n) [] (fold-roll-Value (List EndRef) ends_step (V.S64 n))

pub u64_ends : (n : ℕ) → ends_in (plain.U64 n) ≡ []
u64_ends n = of_layer (V.U64 n) (plain.U64 n) (plain.rolls-U64 n) [] (fold-roll-Value (List EndRef) ends_step (V.U64 n))

pub char_ends : (n : ℕ) → ends_in (plain.Char n) ≡ []
char_ends n = of_layer (V.Char n) (plain.Char n) (plain.rolls-Char n) [] (fold-roll-Value (List EndRef) ends_step (V.Char n))

pub string_ends : (text : List ℕ) → ends_in (plain.String text) ≡ []
string_ends text = of_layer (V.String text) (plain.String text) (plain.rolls-String text) [] (fold-roll-Value (List EndRef) ends_step (V.String text))

pub flags_ends : (flags : List Bool) → ends_in (plain.Flags flags) ≡ []
flags_ends flags = of_layer (V.Flags flags) (plain.Flags flags) (plain.rolls-Flags flags) [] (fold-roll-Value (List EndRef) ends_step (V.Flags flags))

pub own_ends : (h : Handle) → ends_in (plain.Own h) ≡ []
own_ends h = of_layer (V.Own h) (plain.Own h) (plain.rolls-Own h) [] (fold-roll-Value (List EndRef) ends_step (V.Own h))

pub borrow_ends : (h : Handle) → ends_in (plain.Borrow h) ≡ []
borrow_ends h = of_layer (V.Borrow h) (plain.Borrow h) (plain.rolls-Borrow h) [] (fold-roll-Value (List EndRef) ends_step (V.Borrow h))

pub stream_ends : (n : ℕ) → ends_in (plain.Stream n) ≡ readable Stream n ∷ []
stream_ends n = of_layer (V.Stream n) (plain.Stream n) (plain.rolls-Stream n) (readable Stream n ∷ []) (fold-roll-Value (List EndRef) ends_step (V.Stream n))

pub future_ends : (n : ℕ) → ends_in (plain.Future n) ≡ readable Future n ∷ []
future_ends n = of_layer (V.Future n) (plain.Future n) (plain.rolls-Future n) (readable Future n ∷ []) (fold-roll-Value (List EndRef) ends_step (V.Future n))

-- Values of several.

flat_mapped : (all : List Value) → flat_map (λ (ends : List EndRef). ends) (map ends_in all) ≡ ends_of all
flat_mapped [] = refl
flat_mapped (v ∷ all) = ap (λ (more : List EndRef). ends_in v ++ more) (flat_mapped all)

pub list_ends : (all : List Value) → ends_in (values.List all) ≡ ends_of all
list_ends all = of_layer (V.List all) (values.List all) (plain.rolls-List all) (ends_of all) (fold-roll-Value (List EndRef) ends_step (V.List all) ∙ flat_mapped all)

pub record_ends : (all : List Value) → ends_in (values.Record all) ≡ ends_of all
record_ends all = of_layer (V.Record all) (values.Record all) (plain.rolls-Record all) (ends_of all) (fold-roll-Value (List EndRef) ends_step (V.Record all) ∙ flat_mapped all)

abbrev pub ends_held : Option Value → List EndRef
ends_held None = []
ends_held (Some v) = ends_in v

pub variant_ends : (n : ℕ) (payload : Option Value) → ends_in (values.Variant n payload) ≡ ends_held payload
variant_ends n None = of_layer (V.Variant n None) (values.Variant n None) (plain.rolls-Variant n None) [] (fold-roll-Value (List EndRef) ends_step (V.Variant n None))
variant_ends n (Some v) =
    of_layer (V.Variant n (Some v)) (values.Variant n (Some v)) (plain.rolls-Variant n (Some v)) (ends_in v) (fold-roll-Value (List EndRef) ends_step (V.Variant n (Some v)))

-- one more behind others
pub more_ends : (before : List Value) (v : Value) → ends_of (before ++ v ∷ []) ≡ ends_of before ++ ends_in v
more_ends [] v = append-nil (ends_in v)
more_ends (u ∷ before) v = ap (λ (ends : List EndRef). ends_in u ++ ends) (more_ends before v) ∙ sym (append_assoc (ends_in u) (ends_of before) (ends_in v))

-- What is lifted without indices holds none.

abbrev pub HoldsNone : Result Value LiftTrap → Type 0
HoldsNone (Ok v) = ends_in v ≡ []
HoldsNone (Err fault) = Unit {0}

if_none : (b : Bool) (x y : Result Value LiftTrap) → HoldsNone x → HoldsNone y → HoldsNone (if b then x else y)
if_none true x y h k = h
if_none false x y h k = k

pub text_none : (bytes : List ℕ) (place : ℕ) → HoldsNone (text_of bytes place)
text_none bytes place = if_none (is_utf8 bytes) (Ok (plain.String bytes)) (Err (trap BadUtf8 place)) (string_ends bytes) tt

pub flags_none : (labels : List (List ℕ)) (bits : ℕ) → ends_in (flags_of labels bits) ≡ []
flags_none labels bits = flags_ends (flags_from [] labels bits)

-- types without parts and without an index
abbrev pub HasNoIndex : {A B C : Type 0} → F.ValType-F A B C → Type 0
HasNoIndex F.Bool = Unit {0}
HasNoIndex F.S8 = Unit {0}
HasNoIndex F.U8 = Unit {0}
HasNoIndex F.S16 = Unit {0}
HasNoIndex F.U16 = Unit {0}
HasNoIndex F.S32 = Unit {0}
HasNoIndex F.U32 = Unit {0}
HasNoIndex F.S64 = Unit {0}
HasNoIndex F.U64 = Unit {0}
HasNoIndex F.Char = Unit {0}
HasNoIndex other = ⊥

pub plain_none : {A B C : Type 0} (y : F.ValType-F A B C) (w : Width) (n : Width → ℕ) (place : ℕ) → HasNoIndex y → HoldsNone (plain_of y w n place)
plain_none F.Bool w n place is = bool_ends (not (n w == 0))
plain_none F.S8 w n place is = s8_ends (cast_signed w8 (n w8))
plain_none F.U8 w n place is = u8_ends (n w8)
plain_none F.S16 w n place is = s16_ends (cast_signed w16 (n w16))
plain_none F.U16 w n place is = u16_ends (n w16)
plain_none F.S32 w n place is = s32_ends (cast_signed w32 (n w32))
plain_none F.U32 w n place is = u32_ends (n w32)
plain_none F.S64 w n place is = s64_ends (cast_signed w64 (n w64))
plain_none F.U64 w n place is = u64_ends (n w64)
plain_none F.Char w n place is = if_none (is_scalar (n w32)) (Ok (plain.Char (n w32))) (Err (trap BadChar place)) (char_ends (n w32)) tt
plain_none other w n place is = absurd is
