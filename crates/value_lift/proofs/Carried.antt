-- Values with each index replaced by what it names, by the kind of the value.
use Rattle.std.proofs.Common.{◌≡◌, ◌∙◌, ℕ, ℤ, Bool, true, false, not, if◌then◌else◌, ◌==◌, List, [], ◌∷◌, map, Option, Some, None, Ok, Err, Result, refl, ap, sym, subst}
use Rattle.std.specs.Option.{option_map}
use Rattle.std.specs.Int.{Width, w8, w16, w32, w64, cast_signed}
use Rattle.std.specs.Str.{is_utf8}
use Rattle.syntax_trees.specs.declared.types.ValType.{ValType}
use Rattle.syntax_trees.specs.declared.types.Case.{Case}
use Rattle.syntax_trees.specs.declared.types.Field.{Field}
use Rattle.syntax_trees.specs.declared.types.ValType.TheOpen as F
use Rattle.syntax_trees.specs.declared.value.Value.{Value, roll-Value}
use Rattle.syntax_trees.specs.declared.value.Handle.{Handle}
use Rattle.syntax_trees.specs.declared.value.Value.TheOpen as V
use Rattle.syntax_trees.specs.declared.value.Value.TheViews as values
use Rattle.syntax_trees.specs.declared.value.Value.TheVariants as plain
use Rattle.syntax_trees.specs.declared.value.Value.TheFolds.{map-Value, ind-Value, fold-roll-Value}
use Rattle.value_lift.specs.declared.trap.LiftTrap.{LiftTrap}
use Rattle.value_lift.specs.declared.trap.LiftWhy.TheVariants.{BadChar, BadUtf8}
use Rattle.value_lift.specs.declared.named.Named.{Named}
use Rattle.value_lift.specs.declared.named.Named.TheVariants as named
use Rattle.value_lift.specs.Bytes.{is_scalar, flags_from}
use Rattle.value_lift.specs.Leaves.{trap, plain_of, text_of, flags_of}
use Rattle.value_lift.specs.Named.{named_in, value_named}
use Rattle.value_lift.specs.Over.{own_of, borrow_of, stream_of, future_of}
use Rattle.value_lift.specs.Settled.{carried_handle, carried_step, carried}
use Rattle.value_lift.proofs.OverForms.{IsPlain}

module _ (names : ℕ → ℕ) where
  carried_bool : (b : Bool) → carried names (plain.Bool b) ≡ plain.Bool b
  carried_bool b = ap (carried names) (sym (plain.rolls-Bool b)) ∙ fold-roll-Value Value (carried_step names) (V.Bool b) ∙ plain.rolls-Bool b

  carried_s8 : (n : ℤ) → carried names (plain.S8 n) ≡ plain.S8 n
  carried_s8 n = ap (carried names) (sym (plain.rolls-S8 n)) ∙ fold-roll-Value Value (carried_step names) (V.S8 n) ∙ plain.rolls-S8 n

  carried_u8 : (n : ℕ) → carried names (plain.U8 n) ≡ plain.U8 n
  carried_u8 n = ap (carried names) (sym (plain.rolls-U8 n)) ∙ fold-roll-Value Value (carried_step names) (V.U8 n) ∙ plain.rolls-U8 n

  carried_s16 : (n : ℤ) → carried names (plain.S16 n) ≡ plain.S16 n
  carried_s16 n = ap (carried names) (sym (plain.rolls-S16 n)) ∙ fold-roll-Value Value (carried_step names) (V.S16 n) ∙ plain.rolls-S16 n

  carried_u16 : (n : ℕ) → carried names (plain.U16 n) ≡ plain.U16 n
  carried_u16 n = ap (carried names) (sym (plain.rolls-U16 n)) ∙ fold-roll-Value Value (carried_step names) (V.U16 n) ∙ plain.rolls-U16 n

  carried_s32 : (n : ℤ) → carried names (plain.S32 n) ≡ plain.S32 n
  carried_s32 n = ap (carried names) (sym (plain.rolls-S32 n)) ∙ fold-roll-Value Value (carried_step names) (V.S32 n) ∙ plain.rolls-S32 n

  carried_u32 : (n : ℕ) → carried names (plain.U32 n) ≡ plain.U32 n
  carried_u32 n = ap (carried names) (sym (plain.rolls-U32 n)) ∙ fold-roll-Value Value (carried_step names) (V.U32 n) ∙ plain.rolls-U32 n

  carried_s64 : (n : ℤ) → carried names (plain.S64 n) ≡ plain.S64 n
  carried_s64 n = ap (carried names) (sym (plain.rolls-S64 n)) ∙ fold-roll-Value Value (carried_step names) (V.S64 n) ∙ plain.rolls-S64 n

  carried_u64 : (n : ℕ) → carried names (plain.U64 n) ≡ plain.U64 n
  carried_u64 n = ap (carried names) (sym (plain.rolls-U64 n)) ∙ fold-roll-Value Value (carried_step names) (V.U64 n) ∙ plain.rolls-U64 n

  carried_char : (n : ℕ) → carried names (plain.Char n) ≡ plain.Char n
  carried_char n = ap (carried names) (sym (plain.rolls-Char n)) ∙ fold-roll-Value Value (carried_step names) (V.Char n) ∙ plain.rolls-Char n

  carried_string : (s : List ℕ) → carried names (plain.String s) ≡ plain.String s
  carried_string s = ap (carried names) (sym (plain.rolls-String s)) ∙ fold-roll-Value Value (carried_step names) (V.String s) ∙ plain.rolls-String s

  carried_flags : (flags : List Bool) → carried names (plain.Flags flags) ≡ plain.Flags flags
  carried_flags flags = ap (carried names) (sym (plain.rolls-Flags flags)) ∙ fold-roll-Value Value (carried_step names) (V.Flags flags) ∙ plain.rolls-Flags flags

  carried_own : (h : Handle) → carried names (plain.Own h) ≡ plain.Own (carried_handle names h)
  carried_own h = ap (carried names) (sym (plain.rolls-Own h)) ∙ fold-roll-Value Value (carried_step names) (V.Own h)

  carried_borrow : (h : Handle) → carried names (plain.Borrow h) ≡ plain.Borrow (carried_handle names h)
  carried_borrow h = ap (carried names) (sym (plain.rolls-Borrow h)) ∙ fold-roll-Value Value (carried_step names) (V.Borrow h)

  carried_stream : (n : ℕ) → carried names (plain.Stream n) ≡ plain.Stream (names n)
  carried_stream n = ap (carried names) (sym (plain.rolls-Stream n)) ∙ fold-roll-Value Value (carried_step names) (V.Stream n)

  carried_future : (n : ℕ) → carried names (plain.Future n) ≡ plain.Future (names n)
  carried_future n = ap (carried names) (sym (plain.rolls-Future n)) ∙ fold-roll-Value Value (carried_step names) (V.Future n)

  pub carried_list : (all : List Value) → carried names (values.List all) ≡ values.List (map (carried names) all)
  carried_list all =
      ap (carried names) (sym (plain.rolls-List all)) ∙ fold-roll-Value Value (carried_step names) (V.List all) ∙ plain.rolls-List (map (carried names) all)

  pub carried_record : (all : List Value) → carried names (values.Record all) ≡ values.Record (map (carried names) all)
  carried_record all =
      ap (carried names) (sym (plain.rolls-Record all)) ∙ fold-roll-Value Value (carried_step names) (V.Record all) ∙ plain.rolls-Record (map (carried names) all)

  pub carried_variant : (n : ℕ) (payload : Option Value) → carried names (values.Variant n payload) ≡ values.Variant n (option_map (carried names) payload)
  carried_variant n (Some v) =
      ap (carried names) (sym (plain.rolls-Variant n (Some v))) ∙ fold-roll-Value Value (carried_step names) (V.Variant n (Some v)) ∙ plain.rolls-Variant n (Some (carried names v))
  carried_variant n None =
      ap (carried names) (sym (plain.rolls-Variant n None)) ∙ fold-roll-Value Value (carried_step names) (V.Variant n None) ∙ plain.rolls-Variant n None

  -- a value that is told by an index
  pub carried_named : (n : Named) (x y : ℕ) → names x ≡ y → carried names (value_named n x) ≡ value_named n y
  carried_named (named.Own r) x y e = carried_own (record { resource = r; rep = x }) ∙ ap (λ (k : ℕ). own_of r k) e
  carried_named (named.Borrow r) x y e = carried_borrow (record { resource = r; rep = x }) ∙ ap (λ (k : ℕ). borrow_of r k) e
  carried_named named.Stream x y e = carried_stream x ∙ ap (λ (k : ℕ). stream_of k) e
  carried_named named.Future x y e = carried_future x ∙ ap (λ (k : ℕ). future_of k) e

  -- what has no index stays
  abbrev pub Keeps : Result Value LiftTrap → Type 0
  Keeps (Ok v) = carried names v ≡ v
  Keeps (Err fault) = Unit {0}

  if_keeps : (b : Bool) (x y : Result Value LiftTrap) → Keeps x → Keeps y → Keeps (if b then x else y)
  if_keeps true x y h k = h
  if_keeps false x y h k = k

  pub text_keeps : (bytes : List ℕ) (place : ℕ) → Keeps (text_of bytes place)
  text_keeps bytes place = if_keeps (is_utf8 bytes) (Ok (plain.String bytes)) (Err (trap BadUtf8 place)) (carried_string bytes) tt

  pub plain_keeps : (y : F.ValType-F ValType Case Field) (w : Width) (n : Width → ℕ) (place : ℕ) → IsPlain y → named_in y ≡ None → Keeps (plain_of y w n place)
  plain_keeps F.Bool w n place h e = carried_bool (not (n w == 0))
  plain_keeps F.S8 w n place h e = carried_s8 (cast_signed w8 (n w8))
  plain_keeps F.U8 w n place h e = carried_u8 (n w8)
  plain_keeps F.S16 w n place h e = carried_s16 (cast_signed w16 (n w16))
  plain_keeps F.U16 w n place h e = carried_u16 (n w16)
  plain_keeps F.S32 w n place h e = carried_s32 (cast_signed w32 (n w32))
  plain_keeps F.U32 w n place h e = carried_u32 (n w32)
  plain_keeps F.S64 w n place h e = carried_s64 (cast_signed w64 (n w64))
  plain_keeps F.U64 w n place h e = carried_u64 (n w64)
  plain_keeps F.Char w n place h e = if_keeps (is_scalar (n w32)) (Ok (plain.Char (n w32))) (Err (trap BadChar place)) (carried_char (n w32)) tt
  plain_keeps (F.Own r) w n place h e = cc
  plain_keeps (F.Borrow r) w n place h e = cc
  plain_keeps (F.Stream p) w n place h e = cc
  plain_keeps (F.Future p) w n place h e = cc
  plain_keeps other w n place h e = absurd h

  pub flags_keep : (labels : List (List ℕ)) (bits : ℕ) → carried names (flags_of labels bits) ≡ flags_of labels bits
  flags_keep labels bits = carried_flags (flags_from [] labels bits)

-- Where each index names itself, a value stays.
abbrev Good : Value → Type 0
Good v = carried (λ n. n) v ≡ v

abbrev Goods : Type 0
Goods = (v : Value) × Good v

abbrev layer : V.Value-F Goods → V.Value-F Value
layer w = map-Value Goods Value (λ (e : Goods). e.0) w

all_good : (es : List Goods) → map (carried (λ n. n)) (map (λ (e : Goods). e.0) es) ≡ map (λ (e : Goods). e.0) es
all_good [] = refl
all_good (e ∷ es) =
    ap (λ (v : Value). v ∷ map (carried (λ n. n)) (map (λ (e : Goods). e.0) es)) e.1 ∙ ap (λ (vs : List Value). e.0 ∷ vs) (all_good es)

same_layer : (w : V.Value-F Goods) → carried_step (λ n. n) (map-Value Value Value (carried (λ n. n)) (layer w)) ≡ roll-Value (layer w)
same_layer (V.List es) = ap (λ (vs : List Value). roll-Value (V.List vs)) (all_good es)
same_layer (V.Record es) = ap (λ (vs : List Value). roll-Value (V.Record vs)) (all_good es)
same_layer (V.Variant n (Some e)) = ap (λ (v : Value). roll-Value (V.Variant n (Some v))) e.1
same_layer (V.Variant n None) = refl
same_layer (V.Own h) = sym (plain.rolls-Own h)
same_layer (V.Borrow h) = sym (plain.rolls-Borrow h)
same_layer (V.Stream n) = sym (plain.rolls-Stream n)
same_layer (V.Future n) = sym (plain.rolls-Future n)
same_layer other = refl

pub carried_same : (v : Value) → carried (λ n. n) v ≡ v
carried_same =
    ind-Value Good
    (λ x y e. subst (λ (z : V.Value-F Value). Good (roll-Value z)) e (fold-roll-Value Value (carried_step (λ n. n)) (layer y) ∙ same_layer y))

pub all_carried_same : (all : List Value) → map (carried (λ n. n)) all ≡ all
all_carried_same [] = refl
all_carried_same (v ∷ all) =
    ap (λ (w : Value). w ∷ map (carried (λ n. n)) all) (carried_same v) ∙ ap (λ (vs : List Value). v ∷ vs) (all_carried_same all)
