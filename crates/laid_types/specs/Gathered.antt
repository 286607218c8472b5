-- What is computed of a type from what is computed of its parts (Component Model, CanonicalABI.md, "Alignment", "Element Size" and
-- "Flattening"): layouts, core types, what values hold, depths, and the resources that types name.
use Rattle.std.specs.Prelude.{ℕ, suc, Bool, true, false, List, [], ◌∷◌, map, length, Option}
use Rattle.syntax_trees.specs.declared.types.ValType.{ValType}
use Rattle.syntax_trees.specs.declared.types.ValType.TheOpen.{ValType-F}
use Rattle.syntax_trees.specs.declared.core_type.CoreType.{CoreType}
use Rattle.syntax_trees.specs.declared.core_type.CoreType.TheVariants.{I32, I64}
use Rattle.laid_types.specs.Layout.{Laid, scalar, bits_size, record_laid, tagged}
use Rattle.layouts.specs.Limited.{limited, joined}
use Rattle.syntax_trees.specs.Flat.{flat_payload, all_of, joined_all}
use Rattle.syntax_trees.specs.Ends.{held_end, some_true}
use Rattle.laid_types.specs.Handles.{held_handle, held_borrow, held_top}
use Rattle.laid_types.specs.Lists.{held_list}
use Rattle.laid_types.specs.Depth.{held_depth, greatest}

-- room for what there was room for, and for payloads, as far as memory can reach
abbrev pub room_for : Laid → List Laid → Laid
room_for room [] = room
room_for room (p ∷ payloads) = room_for (joined room (limited p)) payloads

-- a layer of a type, whose parts have these layouts
abbrev pub laid_over : {A B C : Type 0} → ValType-F A B C → List Laid → Laid
laid_over ValType-F.Bool parts = scalar 1
laid_over ValType-F.S8 parts = scalar 1
laid_over ValType-F.U8 parts = scalar 1
laid_over ValType-F.S16 parts = scalar 2
laid_over ValType-F.U16 parts = scalar 2
laid_over ValType-F.S32 parts = scalar 4
laid_over ValType-F.U32 parts = scalar 4
laid_over ValType-F.S64 parts = scalar 8
laid_over ValType-F.U64 parts = scalar 8
laid_over ValType-F.Char parts = scalar 4
laid_over ValType-F.String parts = record { size = 8; align = 4 }
laid_over (ValType-F.Record fields) parts = record_laid parts
laid_over (ValType-F.Variant cases) parts = tagged (length cases) parts
laid_over (ValType-F.List element) parts = record { size = 8; align = 4 }
laid_over (ValType-F.Tuple places) parts = record_laid parts
laid_over (ValType-F.Flags labels) parts = scalar (bits_size (length labels))
laid_over (ValType-F.Enum labels) parts = tagged (length labels) parts
laid_over (ValType-F.Option payload) parts = tagged 2 parts
laid_over (ValType-F.Result ok err) parts = tagged 2 parts
laid_over (ValType-F.Own resource) parts = scalar 4
laid_over (ValType-F.Borrow resource) parts = scalar 4
laid_over (ValType-F.Stream element) parts = scalar 4
laid_over (ValType-F.Future element) parts = scalar 4

-- the core types of parts
abbrev pub flats : List (Option ValType) → List (List CoreType)
flats parts = map flat_payload parts

-- a layer of a type, whose parts have these core types
abbrev pub flat_over : {A B C : Type 0} → ValType-F A B C → List (List CoreType) → List CoreType
flat_over ValType-F.S64 parts = I64 ∷ []
flat_over ValType-F.U64 parts = I64 ∷ []
flat_over ValType-F.String parts = I32 ∷ I32 ∷ []
flat_over (ValType-F.List element) parts = I32 ∷ I32 ∷ []
flat_over (ValType-F.Record fields) parts = all_of parts
flat_over (ValType-F.Tuple places) parts = all_of parts
flat_over (ValType-F.Variant cases) parts = I32 ∷ joined_all parts
flat_over (ValType-F.Enum labels) parts = I32 ∷ joined_all parts
flat_over (ValType-F.Option payload) parts = I32 ∷ joined_all parts
flat_over (ValType-F.Result ok err) parts = I32 ∷ joined_all parts
flat_over _ parts = I32 ∷ []

-- whether parts hold the end of a stream or a future, a handle, a borrowed one, or a string or a list
abbrev pub ends : List (Option ValType) → List Bool
ends parts = map held_end parts

abbrev pub handles : List (Option ValType) → List Bool
handles parts = map held_handle parts

abbrev pub borrows : List (Option ValType) → List Bool
borrows parts = map held_borrow parts

abbrev pub lists : List (Option ValType) → List Bool
lists parts = map held_list parts

-- a layer of a type, where it is known of its parts whether they hold an end, a handle, a borrowed one, or a string or a list
abbrev pub end_over : {A B C : Type 0} → ValType-F A B C → List Bool → Bool
end_over (ValType-F.Stream element) parts = true
end_over (ValType-F.Future element) parts = true
end_over _ parts = some_true parts

abbrev pub handle_over : {A B C : Type 0} → ValType-F A B C → List Bool → Bool
handle_over (ValType-F.Own resource) parts = true
handle_over (ValType-F.Borrow resource) parts = true
handle_over (ValType-F.Stream element) parts = false
handle_over (ValType-F.Future element) parts = false
handle_over _ parts = some_true parts

abbrev pub borrow_over : {A B C : Type 0} → ValType-F A B C → List Bool → Bool
borrow_over (ValType-F.Borrow resource) parts = true
borrow_over (ValType-F.Stream element) parts = false
borrow_over (ValType-F.Future element) parts = false
borrow_over _ parts = some_true parts

abbrev pub list_over : {A B C : Type 0} → ValType-F A B C → List Bool → Bool
list_over ValType-F.String parts = true
list_over (ValType-F.List element) parts = true
list_over (ValType-F.Stream element) parts = false
list_over (ValType-F.Future element) parts = false
list_over _ parts = some_true parts

-- the depths of parts, 0 where no type stands
abbrev pub depths : List (Option ValType) → List ℕ
depths parts = map held_depth parts

-- a type whose parts have these depths
abbrev pub depth_over : List ℕ → ℕ
depth_over parts = suc (greatest parts)

-- the greatest numbers of resources that parts name, 0 where no type stands
abbrev pub tops : List (Option ValType) → List ℕ
tops parts = map held_top parts

-- a layer of a type whose parts name these
abbrev pub top_over : {A B C : Type 0} → ValType-F A B C → List ℕ → ℕ
top_over (ValType-F.Own resource) parts = resource
top_over (ValType-F.Borrow resource) parts = resource
top_over _ parts = greatest parts
