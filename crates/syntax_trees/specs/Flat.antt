-- The core values that stand for a value (Component Model, CanonicalABI.md, "Flattening").
use Rattle.std.specs.Prelude.{ℕ, nat_le, length, if◌then◌else◌, List, [], ◌∷◌, ◌++◌, Option, Some, None}
use Rattle.std.specs.List.{flat_map}
use Rattle.syntax_trees.specs.declared.core_type.CoreType.{CoreType}
use Rattle.syntax_trees.specs.declared.core_type.CoreType.TheVariants.{I32, I64}
use Rattle.syntax_trees.specs.declared.core_type.CoreFunc.{CoreFunc}
use Rattle.syntax_trees.specs.declared.core_type.FlatKind.{FlatKind}
use Rattle.syntax_trees.specs.declared.core_type.FlatKind.TheVariants.{SyncLift, AsyncLift, CallbackLift, SyncLower, AsyncLower}
use Rattle.syntax_trees.specs.declared.types.FuncType.{FuncType}
use Rattle.syntax_trees.specs.declared.types.ValType.{ValType, fold-ValType}
use Rattle.syntax_trees.specs.declared.types.ValType.TheOpen.{ValType-F, Field-F, Case-F}

-- a core type that holds what either of two holds
abbrev pub joined : CoreType → CoreType → CoreType
joined I32 I32 = I32
joined I32 I64 = I64
joined I64 t = I64

-- core types that hold what either of two lists holds, place by place
abbrev pub joined_lists : List CoreType → List CoreType → List CoreType
joined_lists [] us = us
joined_lists (t ∷ ts) [] = t ∷ ts
joined_lists (t ∷ ts) (u ∷ us) = joined t u ∷ joined_lists ts us

-- core types for any of several payloads
abbrev pub joined_all : List (List CoreType) → List CoreType
joined_all [] = []
joined_all (p ∷ payloads) = joined_lists p (joined_all payloads)

abbrev pub all_of : List (List CoreType) → List CoreType
all_of [] = []
all_of (p ∷ parts) = p ++ all_of parts

abbrev pub held_flat : Option (List CoreType) → List CoreType
held_flat (Some p) = p
held_flat None = []

-- A type, where the core types of its parts are known.
abbrev pub flat_step : ValType-F (List CoreType) (List CoreType) (List CoreType) → List CoreType
flat_step ValType-F.S64 = I64 ∷ []
flat_step ValType-F.U64 = I64 ∷ []
flat_step ValType-F.String = I32 ∷ I32 ∷ []
flat_step (ValType-F.List element) = I32 ∷ I32 ∷ []
flat_step (ValType-F.Record fields) = all_of fields
flat_step (ValType-F.Tuple parts) = all_of (parts)
flat_step (ValType-F.Variant cases) = I32 ∷ joined_all cases
flat_step (ValType-F.Option payload) = I32 ∷ payload
flat_step (ValType-F.Result ok err) = I32 ∷ joined_lists (held_flat ok) (held_flat err)
flat_step _ = I32 ∷ []

abbrev pub flat_case : Case-F (List CoreType) (List CoreType) (List CoreType) → List CoreType
flat_case c = held_flat c.payload

abbrev pub flat_field : Field-F (List CoreType) (List CoreType) (List CoreType) → List CoreType
flat_field f = f.val_type

-- the core types of a type's values
abbrev pub flat : ValType → List CoreType
flat = fold-ValType (List CoreType) (List CoreType) (List CoreType) flat_step flat_case flat_field

-- the core types of a payload or a result, none where there is none
abbrev pub flat_payload : Option ValType → List CoreType
flat_payload (Some p) = flat p
flat_payload None = []

-- core types, or one place in memory where they are more than so many
abbrev pub at_most : ℕ → List CoreType → List CoreType
at_most most types = if nat_le (length types) most then types else (I32 ∷ [])

abbrev pub flat_params : FuncType → List CoreType
flat_params f = flat_map (λ p. flat p.val_type) f.params

-- a place for what a function returns, where the result is more than so many core types
abbrev pub out_place : ℕ → List CoreType → List CoreType
out_place most types = if nat_le (length types) most then [] else (I32 ∷ [])

-- the core types that are returned, none where there are more than one
abbrev pub returned : List CoreType → List CoreType
returned types = if nat_le (length types) 1 then types else []

-- The core function for a function that is lifted or lowered in one of the five ways.
abbrev pub flat_func : FlatKind → FuncType → CoreFunc
flat_func SyncLift f = record { params = at_most 16 (flat_params f); results = at_most 1 (flat_payload f.result) }
flat_func AsyncLift f = record { params = at_most 16 (flat_params f); results = [] }
flat_func CallbackLift f = record { params = at_most 16 (flat_params f); results = I32 ∷ [] }
flat_func SyncLower f = record { params = at_most 16 (flat_params f) ++ out_place 1 (flat_payload f.result); results = returned (flat_payload f.result) }
flat_func AsyncLower f = record { params = at_most 4 (flat_params f) ++ out_place 0 (flat_payload f.result); results = I32 ∷ [] }
