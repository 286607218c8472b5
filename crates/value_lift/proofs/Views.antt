-- Types and values by their outer layers, and how much values count.
use Rattle.std.proofs.Common.{◌≡◌, ◌∙◌, ℕ, ℤ, suc, Bool, List, map, length, Option, Some, None, ap, sym, rules}
use Rattle.syntax_trees.specs.declared.types.ValType.{ValType, out-ValType}
use Rattle.syntax_trees.specs.declared.types.Case.{Case}
use Rattle.syntax_trees.specs.declared.types.Field.{Field}
use Rattle.syntax_trees.specs.declared.types.ValType.TheOpen as F
use Rattle.syntax_trees.specs.declared.types.ValType.TheViews as types
use Rattle.syntax_trees.specs.declared.types.ValType.TheViews.{the_lemmas}
use Rattle.syntax_trees.specs.declared.types.ValType.TheVariants as leaves
use Rattle.syntax_trees.specs.declared.value.Value.{Value}
use Rattle.syntax_trees.specs.declared.value.Handle.{Handle}
use Rattle.syntax_trees.specs.declared.value.Value.TheOpen as V
use Rattle.syntax_trees.specs.declared.value.Value.TheViews as values
use Rattle.syntax_trees.specs.declared.value.Value.TheVariants as plain
use Rattle.syntax_trees.specs.declared.value.Value.TheFolds.{fold-roll-Value}
use Rattle.value_lift.specs.Standing.{count_step, total, counts}

pub out_bool : out-ValType leaves.Bool ≡ F.Bool
out_bool = search (rules, the_lemmas)

pub out_s8 : out-ValType leaves.S8 ≡ F.S8
out_s8 = search (rules, the_lemmas)

pub out_u8 : out-ValType leaves.U8 ≡ F.U8
out_u8 = search (rules, the_lemmas)

pub out_s16 : out-ValType leaves.S16 ≡ F.S16
out_s16 = search (rules, the_lemmas)

pub out_u16 : out-ValType leaves.U16 ≡ F.U16
out_u16 = search (rules, the_lemmas)

pub out_s32 : out-ValType leaves.S32 ≡ F.S32
out_s32 = search (rules, the_lemmas)

pub out_u32 : out-ValType leaves.U32 ≡ F.U32
out_u32 = search (rules, the_lemmas)

pub out_s64 : out-ValType leaves.S64 ≡ F.S64
out_s64 = search (rules, the_lemmas)

pub out_u64 : out-ValType leaves.U64 ≡ F.U64
out_u64 = search (rules, the_lemmas)

pub out_char : out-ValType leaves.Char ≡ F.Char
out_char = search (rules, the_lemmas)

pub out_string : out-ValType leaves.String ≡ F.String
out_string = search (rules, the_lemmas)

pub out_flags : (labels : List (List ℕ)) → out-ValType (leaves.Flags labels) ≡ F.Flags labels
out_flags labels = search (rules, the_lemmas)

pub out_enum : (labels : List (List ℕ)) → out-ValType (leaves.Enum labels) ≡ F.Enum labels
out_enum labels = search (rules, the_lemmas)

pub out_own : (resource : ℕ) → out-ValType (leaves.Own resource) ≡ F.Own resource
out_own resource = search (rules, the_lemmas)

pub out_borrow : (resource : ℕ) → out-ValType (leaves.Borrow resource) ≡ F.Borrow resource
out_borrow resource = search (rules, the_lemmas)

pub out_stream : (element : Option ValType) → out-ValType (types.Stream element) ≡ F.Stream element
out_stream element = search (rules, the_lemmas)

pub out_future : (element : Option ValType) → out-ValType (types.Future element) ≡ F.Future element
out_future element = search (rules, the_lemmas)

pub out_record : (fields : List Field) → out-ValType (types.Record fields) ≡ F.Record fields
out_record fields = search (rules, the_lemmas)

pub out_tuple : (parts : List ValType) → out-ValType (types.Tuple parts) ≡ F.Tuple parts
out_tuple parts = search (rules, the_lemmas)

pub out_list : (element : ValType) → out-ValType (types.List element) ≡ F.List element
out_list element = search (rules, the_lemmas)

pub out_variant : (cases : List Case) → out-ValType (types.Variant cases) ≡ F.Variant cases
out_variant cases = search (rules, the_lemmas)

pub out_option : (part : ValType) → out-ValType (types.Option part) ≡ F.Option part
out_option part = search (rules, the_lemmas)

pub out_result : (ok err : Option ValType) → out-ValType (types.Result ok err) ≡ F.Result ok err
out_result ok err = search (rules, the_lemmas)

-- how much values count
pub count_bool : (b : Bool) → counts (plain.Bool b) ≡ 1
count_bool b = ap counts (sym (plain.rolls-Bool b)) ∙ fold-roll-Value ℕ count_step (V.Bool b)

pub count_s8 : (n : ℤ) → counts (plain.S8 n) ≡ 1
count_s8 n = ap counts (sym (plain.rolls-S8 n)) ∙ fold-roll-Value ℕ count_step (V.S8 n)

pub count_u8 : (n : ℕ) → counts (plain.U8 n) ≡ 1
count_u8 n = ap counts (sym (plain.rolls-U8 n)) ∙ fold-roll-Value ℕ count_step (V.U8 n)

pub count_s16 : (n : ℤ) → counts (plain.S16 n) ≡ 1
count_s16 n = ap counts (sym (plain.rolls-S16 n)) ∙ fold-roll-Value ℕ count_step (V.S16 n)

pub count_u16 : (n : ℕ) → counts (plain.U16 n) ≡ 1
count_u16 n = ap counts (sym (plain.rolls-U16 n)) ∙ fold-roll-Value ℕ count_step (V.U16 n)

pub count_s32 : (n : ℤ) → counts (plain.S32 n) ≡ 1
count_s32 n = ap counts (sym (plain.rolls-S32 n)) ∙ fold-roll-Value ℕ count_step (V.S32 n)

pub count_u32 : (n : ℕ) → counts (plain.U32 n) ≡ 1
count_u32 n = ap counts (sym (plain.rolls-U32 n)) ∙ fold-roll-Value ℕ count_step (V.U32 n)

pub count_s64 : (n : ℤ) → counts (plain.S64 n) ≡ 1
count_s64 n = ap counts (sym (plain.rolls-S64 n)) ∙ fold-roll-Value ℕ count_step (V.S64 n)

pub count_u64 : (n : ℕ) → counts (plain.U64 n) ≡ 1
count_u64 n = ap counts (sym (plain.rolls-U64 n)) ∙ fold-roll-Value ℕ count_step (V.U64 n)

pub count_char : (n : ℕ) → counts (plain.Char n) ≡ 1
count_char n = ap counts (sym (plain.rolls-Char n)) ∙ fold-roll-Value ℕ count_step (V.Char n)

pub count_string : (s : List ℕ) → counts (plain.String s) ≡ suc (length s)
count_string s = ap counts (sym (plain.rolls-String s)) ∙ fold-roll-Value ℕ count_step (V.String s)

pub count_flags : (flags : List Bool) → counts (plain.Flags flags) ≡ 1
count_flags flags = ap counts (sym (plain.rolls-Flags flags)) ∙ fold-roll-Value ℕ count_step (V.Flags flags)

pub count_own : (handle : Handle) → counts (plain.Own handle) ≡ 1
count_own handle = ap counts (sym (plain.rolls-Own handle)) ∙ fold-roll-Value ℕ count_step (V.Own handle)

pub count_borrow : (handle : Handle) → counts (plain.Borrow handle) ≡ 1
count_borrow handle = ap counts (sym (plain.rolls-Borrow handle)) ∙ fold-roll-Value ℕ count_step (V.Borrow handle)

pub count_stream : (n : ℕ) → counts (plain.Stream n) ≡ 1
count_stream n = ap counts (sym (plain.rolls-Stream n)) ∙ fold-roll-Value ℕ count_step (V.Stream n)

pub count_future : (n : ℕ) → counts (plain.Future n) ≡ 1
count_future n = ap counts (sym (plain.rolls-Future n)) ∙ fold-roll-Value ℕ count_step (V.Future n)

pub count_list : (all : List Value) → counts (values.List all) ≡ suc (total (map counts all))
count_list all = ap counts (sym (plain.rolls-List all)) ∙ fold-roll-Value ℕ count_step (V.List all)

pub count_record : (all : List Value) → counts (values.Record all) ≡ suc (total (map counts all))
count_record all = ap counts (sym (plain.rolls-Record all)) ∙ fold-roll-Value ℕ count_step (V.Record all)

-- how much a payload counts, where there is one
abbrev pub payload_counts : Option Value → ℕ
payload_counts (Some v) = counts v
payload_counts None = 0

pub count_variant : (n : ℕ) (payload : Option Value) → counts (values.Variant n payload) ≡ suc (payload_counts payload)
count_variant n (Some v) = ap counts (sym (plain.rolls-Variant n (Some v))) ∙ fold-roll-Value ℕ count_step (V.Variant n (Some v))
count_variant n None = ap counts (sym (plain.rolls-Variant n None)) ∙ fold-roll-Value ℕ count_step (V.Variant n None)
