-- What a value type means as it is written, over the types before it (Component Model, Explainer.md, "Type Definitions"; Binary.md,
-- `defvaltype`). Its parts are primitive types or indices of value types, and handles are of the index of a type of resources. A record,
-- a variant, flags and an enum have a label at least, and no two equal ones, and flags at most 32; a tuple has a place at least.
use Rattle.std.specs.Prelude.{ℕ, Bool, true, false, not, ◌&&◌, nat_lt, nat_le, is_none, cond, List, [], ◌∷◌, length, map, Option, Some, None}
use Rattle.std.specs.Option.{option_map, option_and_then}
use Rattle.std.specs.List.{slice_get, list_all}
use Rattle.syntax_trees.specs.Names.{first_twice}
use Rattle.syntax_trees.specs.declared.types.ValType.{ValType}
use Rattle.syntax_trees.specs.declared.types.ValType.TheVariants as leaves
use Rattle.syntax_trees.specs.declared.types.ValType.TheViews as val_type
use Rattle.syntax_trees.specs.declared.types.Field.{Field}
use Rattle.syntax_trees.specs.declared.types.Case.{Case}
use Rattle.laid_types.specs.Depth.{depth}
use Rattle.laid_types.specs.Handles.{held_borrow}
use Rattle.comp_tree.specs.declared.types.PrimValType.{PrimValType}
use Rattle.comp_tree.specs.declared.types.PrimValType.TheVariants as prim
use Rattle.comp_tree.specs.declared.types.ValTypeRef.{ValTypeRef}
use Rattle.comp_tree.specs.declared.types.ValTypeRef.TheVariants as type_ref
use Rattle.comp_tree.specs.declared.types.Field as read_field
use Rattle.comp_tree.specs.declared.types.Case as read_case
use Rattle.comp_tree.specs.declared.types.DefValType.{DefValType}
use Rattle.comp_tree.specs.declared.types.DefValType.TheVariants as written
use Rattle.comp_graph.specs.Closed.{Closed, Value, value_of, resource_of}
use Rattle.link_spec.specs.Meaning.{Meaning, absent, meant, too_deep}
use Rattle.link_spec.specs.Shallow.{depth_limit}

-- a primitive type
abbrev pub primitive : PrimValType → ValType
primitive prim.Bool = leaves.Bool
primitive prim.S8 = leaves.S8
primitive prim.U8 = leaves.U8
primitive prim.S16 = leaves.S16
primitive prim.U16 = leaves.U16
primitive prim.S32 = leaves.S32
primitive prim.U32 = leaves.U32
primitive prim.S64 = leaves.S64
primitive prim.U64 = leaves.U64
primitive prim.Char = leaves.Char
primitive prim.String = leaves.String

-- Parts.

-- whether a part's index is among so many, and the same where there may be no part
abbrev pub is_within : ℕ → ValTypeRef → Bool
is_within count (type_ref.Primitive type) = true
is_within count (type_ref.Index index) = nat_lt index count

abbrev pub held_within : ℕ → Option ValTypeRef → Bool
held_within count None = true
held_within count (Some type) = is_within count type

-- the closed type of a part, where its index is that of a value type, and the same where there may be no part
abbrev pub close_val : List (Option Closed) → ValTypeRef → Option ValType
close_val types (type_ref.Primitive type) = Some (primitive type)
close_val types (type_ref.Index index) = option_and_then (option_and_then value_of) (slice_get types index)

abbrev pub close_held : List (Option Closed) → Option ValTypeRef → Option (Option ValType)
close_held types None = Some None
close_held types (Some type) = option_map (λ t. Some t) (close_val types type)

-- What passes in a stream or a future, or is a result, if anything is: it holds no borrowed handle.
abbrev pub without_borrow : Option ValType → Option (Option ValType)
without_borrow held = cond (held_borrow held) None (Some held)

abbrev pub close_passed : List (Option Closed) → Option ValTypeRef → Option (Option ValType)
close_passed types type = option_and_then without_borrow (close_held types type)

-- the resource of an index, where that is one of a type of resources
abbrev pub close_resource : List (Option Closed) → ℕ → Option ℕ
close_resource types index = option_and_then (option_and_then resource_of) (slice_get types index)

-- all of some, where each one is closed
abbrev pub close_all : {A B : Type 0} → (A → Option B) → List A → Option (List B)
close_all close [] = Some []
close_all close (x ∷ xs) = option_and_then (λ closed. option_map (λ others. closed ∷ others) (close_all close xs)) (close x)

abbrev pub close_field : List (Option Closed) → read_field.Field → Option Field
close_field types f = option_map (λ type. record { label = f.label; val_type = type }) (close_val types f.val_type)

abbrev pub close_case : List (Option Closed) → read_case.Case → Option Case
close_case types c = option_map (λ payload. record { label = c.label; payload = payload }) (close_held types c.payload)

-- Value types.

-- whether the indices of all parts are among so many
abbrev pub parts_within : ℕ → DefValType → Bool
parts_within count (written.Record fields) = list_all (λ (f : read_field.Field). is_within count f.val_type) fields
parts_within count (written.Variant cases) = list_all (λ (c : read_case.Case). held_within count c.payload) cases
parts_within count (written.List element) = is_within count element
parts_within count (written.Tuple places) = list_all (is_within count) places
parts_within count (written.Option payload) = is_within count payload
parts_within count (written.Result ok err) = held_within count ok && held_within count err
parts_within count (written.Own resource) = nat_lt resource count
parts_within count (written.Borrow resource) = nat_lt resource count
parts_within count (written.Stream element) = held_within count element
parts_within count (written.Future element) = held_within count element
parts_within count type = true

abbrev pub is_empty : {A : Type 0} → List A → Bool
is_empty [] = true
is_empty (x ∷ xs) = false

-- at least one label, and no two of them equal
abbrev pub are_labels : List (List ℕ) → Bool
are_labels labels = not (is_empty labels) && is_none (first_twice labels)

-- how many labels flags may have
abbrev pub flags_limit : ℕ
flags_limit = 32

-- whether it has the labels or places that it needs
abbrev pub is_well_made : DefValType → Bool
is_well_made (written.Record fields) = are_labels (map (λ (f : read_field.Field). f.label) fields)
is_well_made (written.Variant cases) = are_labels (map (λ (c : read_case.Case). c.label) cases)
is_well_made (written.Tuple places) = not (is_empty places)
is_well_made (written.Flags labels) = are_labels labels && nat_le (length labels) flags_limit
is_well_made (written.Enum labels) = are_labels labels
is_well_made type = true

-- The closed type, where each part is one of values, and handles are of a type of resources.
abbrev pub close_parts : List (Option Closed) → DefValType → Option ValType
close_parts types (written.Primitive type) = Some (primitive type)
close_parts types (written.Record fields) = option_map val_type.Record (close_all (close_field types) fields)
close_parts types (written.Variant cases) = option_map val_type.Variant (close_all (close_case types) cases)
close_parts types (written.List element) = option_map val_type.List (close_val types element)
close_parts types (written.Tuple places) = option_map val_type.Tuple (close_all (close_val types) places)
close_parts types (written.Flags labels) = Some (leaves.Flags labels)
close_parts types (written.Enum labels) = Some (leaves.Enum labels)
close_parts types (written.Option payload) = option_map val_type.Option (close_val types payload)
close_parts types (written.Result ok err) =
    option_and_then (λ ok. option_map (λ err. val_type.Result ok err) (close_held types err)) (close_held types ok)
close_parts types (written.Own resource) = option_map leaves.Own (close_resource types resource)
close_parts types (written.Borrow resource) = option_map leaves.Borrow (close_resource types resource)
close_parts types (written.Stream element) = option_map val_type.Stream (close_passed types element)
close_parts types (written.Future element) = option_map val_type.Future (close_passed types element)

abbrev pub close_def : List (Option Closed) → DefValType → Option ValType
close_def types type = cond (is_well_made type) (close_parts types type) None

-- What a closed value type means. In the place of one that is too deep `bool` stands: that it is a value type is all that other
-- reasons ask of it.
abbrev pub capped : Option ValType → Meaning Closed
capped None = meant None
capped (Some type) = cond (nat_le (depth type) depth_limit) (meant (Some (Value type))) (too_deep (Value leaves.Bool))

abbrev pub value_meaning : List (Option Closed) → DefValType → Meaning Closed
value_meaning types type = cond (parts_within (length types) type) (capped (close_def types type)) absent
