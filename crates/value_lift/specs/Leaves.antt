-- Values without parts, texts and flags, of numbers and bytes (Component Model, CanonicalABI.md, "Loading", "Flat Lifting").
use Rattle.std.specs.Prelude.{ℕ, ◌==◌, not, if◌then◌else◌, List, [], Option, Result, Ok, Err}
use Rattle.std.specs.List.{slice_get}
use Rattle.std.specs.Option.{option_and_then}
use Rattle.std.specs.Int.{Width, w8, w16, w32, w64, cast_signed}
use Rattle.std.specs.Str.{is_utf8}
use Rattle.syntax_trees.specs.declared.types.ValType.TheOpen.{ValType-F}
use Rattle.syntax_trees.specs.declared.value.Value.{Value}
use Rattle.syntax_trees.specs.declared.value.Value.TheVariants as plain
use Rattle.value_lift.specs.declared.trap.LiftTrap.{LiftTrap}
use Rattle.value_lift.specs.declared.trap.LiftWhy.{LiftWhy}
use Rattle.value_lift.specs.declared.trap.LiftWhy.TheVariants.{BadChar, BadUtf8, BadCase}
use Rattle.value_lift.specs.Bytes.{is_scalar, flags_from}

abbrev pub trap : LiftWhy → ℕ → LiftTrap
trap why place = record { why = why; place = place }

-- the part at a place, none where no part stands there
abbrev pub part_in : {A : Type 0} → List (Option A) → ℕ → Option A
part_in parts n = option_and_then (λ part. part) (slice_get parts n)

-- the character with this number
abbrev pub char_of : ℕ → ℕ → Result Value LiftTrap
char_of n place = if is_scalar n then Ok (plain.Char n) else Err (trap BadChar place)

-- A value without parts at a place, by the number of a width that stands there. A truth value is told by a number of its own
-- width. A plain handle and a plain end have their index for what it names.
abbrev pub plain_of : {A B C : Type 0} → ValType-F A B C → Width → (Width → ℕ) → ℕ → Result Value LiftTrap
plain_of ValType-F.Bool w n place = Ok (plain.Bool (not (n w == 0)))
plain_of ValType-F.S8 w n place = Ok (plain.S8 (cast_signed w8 (n w8)))
plain_of ValType-F.U8 w n place = Ok (plain.U8 (n w8))
plain_of ValType-F.S16 w n place = Ok (plain.S16 (cast_signed w16 (n w16)))
plain_of ValType-F.U16 w n place = Ok (plain.U16 (n w16))
plain_of ValType-F.S32 w n place = Ok (plain.S32 (cast_signed w32 (n w32)))
plain_of ValType-F.U32 w n place = Ok (plain.U32 (n w32))
plain_of ValType-F.S64 w n place = Ok (plain.S64 (cast_signed w64 (n w64)))
plain_of ValType-F.U64 w n place = Ok (plain.U64 (n w64))
plain_of ValType-F.Char w n place = char_of (n w32) place
plain_of (ValType-F.Own resource) w n place = Ok (plain.Own (record { resource = resource; rep = n w32 }))
plain_of (ValType-F.Borrow resource) w n place = Ok (plain.Borrow (record { resource = resource; rep = n w32 }))
plain_of (ValType-F.Stream element) w n place = Ok (plain.Stream (n w32))
plain_of (ValType-F.Future element) w n place = Ok (plain.Future (n w32))
plain_of _ w n place = Err (trap BadCase place)

-- bytes as a text, where they are one
abbrev pub text_of : List ℕ → ℕ → Result Value LiftTrap
text_of bytes place = if is_utf8 bytes then Ok (plain.String bytes) else Err (trap BadUtf8 place)

-- the flags whose bits a number has
abbrev pub flags_of : List (List ℕ) → ℕ → Value
flags_of labels bits = plain.Flags (flags_from [] labels bits)
