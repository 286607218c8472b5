-- Whether types are the same, as tests: value types by a fold over the one, which gives a test of the other.
use Rattle.std.specs.Prelude.{ℕ, Bool, true, false, ◌&&◌, ◌==◌, List, [], ◌∷◌, map, Option, Some, None}
use Rattle.std.specs.Str.{bytes_eq}
use Rattle.syntax_trees.specs.declared.types.ValType.{ValType, out-ValType, fold-ValType}
use Rattle.syntax_trees.specs.declared.types.ValType.TheOpen.{ValType-F, Field-F, Case-F}
use Rattle.syntax_trees.specs.declared.types.Case.{Case}
use Rattle.syntax_trees.specs.declared.types.Field.{Field}
use Rattle.syntax_trees.specs.declared.types.Param.{Param}
use Rattle.syntax_trees.specs.declared.types.FuncType.{FuncType}
use Rattle.comp_graph.specs.Closed.{Closed, Value, Func, Resource, Instance, Extern, OfFunc, OfType, OfInstance, Externs, EmptyType, WithExtern}

-- as many items as tests, each of which passes its own
abbrev pub all_pass : {A : Type 0} → List (A → Bool) → List A → Bool
all_pass [] [] = true
all_pass [] (x ∷ xs) = false
all_pass (test ∷ tests) [] = false
all_pass (test ∷ tests) (x ∷ xs) = test x && all_pass tests xs

-- a part that is there passes its test, and one is there where there is a test
abbrev pub held_passes : {A : Type 0} → Option (A → Bool) → Option A → Bool
held_passes None None = true
held_passes None (Some x) = false
held_passes (Some test) None = false
held_passes (Some test) (Some x) = test x

abbrev pub same_names : List (List ℕ) → List (List ℕ) → Bool
same_names labels others = all_pass (map bytes_eq labels) others

-- a layer of a type, with tests in place of its parts, and one of the other type
abbrev pub same_layer : ValType-F (ValType → Bool) (Case → Bool) (Field → Bool) → ValType-F ValType Case Field → Bool
same_layer ValType-F.Bool ValType-F.Bool = true
same_layer ValType-F.S8 ValType-F.S8 = true
same_layer ValType-F.U8 ValType-F.U8 = true
same_layer ValType-F.S16 ValType-F.S16 = true
same_layer ValType-F.U16 ValType-F.U16 = true
same_layer ValType-F.S32 ValType-F.S32 = true
same_layer ValType-F.U32 ValType-F.U32 = true
same_layer ValType-F.S64 ValType-F.S64 = true
same_layer ValType-F.U64 ValType-F.U64 = true
same_layer ValType-F.Char ValType-F.Char = true
same_layer ValType-F.String ValType-F.String = true
same_layer (ValType-F.Record fields) (ValType-F.Record others) = all_pass fields others
same_layer (ValType-F.Variant cases) (ValType-F.Variant others) = all_pass cases others
same_layer (ValType-F.List element) (ValType-F.List other) = element other
same_layer (ValType-F.Tuple parts) (ValType-F.Tuple others) = all_pass parts others
same_layer (ValType-F.Flags labels) (ValType-F.Flags others) = same_names labels others
same_layer (ValType-F.Enum labels) (ValType-F.Enum others) = same_names labels others
same_layer (ValType-F.Option payload) (ValType-F.Option other) = payload other
same_layer (ValType-F.Result ok err) (ValType-F.Result other_ok other_err) = held_passes ok other_ok && held_passes err other_err
same_layer (ValType-F.Own number) (ValType-F.Own other) = number == other
same_layer (ValType-F.Borrow number) (ValType-F.Borrow other) = number == other
same_layer (ValType-F.Stream element) (ValType-F.Stream other) = held_passes element other
same_layer (ValType-F.Future value) (ValType-F.Future other) = held_passes value other
same_layer layer other = false

abbrev pub same_step : ValType-F (ValType → Bool) (Case → Bool) (Field → Bool) → ValType → Bool
same_step layer other = same_layer layer (out-ValType other)

abbrev pub same_case : Case-F (ValType → Bool) (Case → Bool) (Field → Bool) → Case → Bool
same_case c other = bytes_eq c.label other.label && held_passes c.payload other.payload

abbrev pub same_field : Field-F (ValType → Bool) (Case → Bool) (Field → Bool) → Field → Bool
same_field f other = bytes_eq f.label other.label && f.val_type other.val_type

abbrev pub same_val : ValType → ValType → Bool
same_val = fold-ValType (ValType → Bool) (Case → Bool) (Field → Bool) same_step same_case same_field

abbrev pub same_param : Param → Param → Bool
same_param p other = bytes_eq p.label other.label && same_val p.val_type other.val_type

abbrev pub same_result : Option ValType → Option ValType → Bool
same_result None other = held_passes None other
same_result (Some type) other = held_passes (Some (same_val type)) other

abbrev pub same_func : FuncType → FuncType → Bool
same_func type other = all_pass (map same_param type.params) other.params && same_result type.result other.result

abbrev mutual
  pub same_closed : Closed → Closed → Bool
  same_closed (Value type) (Value other) = same_val type other
  same_closed (Func type) (Func other) = same_func type other
  same_closed (Resource number) (Resource other) = number == other
  same_closed (Instance externs) (Instance others) = same_externs externs others
  same_closed type other = false

  pub same_extern : Extern → Extern → Bool
  same_extern (OfFunc type) (OfFunc other) = same_func type other
  same_extern (OfType type) (OfType other) = same_closed type other
  same_extern (OfInstance externs) (OfInstance others) = same_externs externs others
  same_extern extern other = false

  pub same_externs : Externs → Externs → Bool
  same_externs EmptyType EmptyType = true
  same_externs EmptyType (WithExtern others name extern) = false
  same_externs (WithExtern before name extern) EmptyType = false
  same_externs (WithExtern before name extern) (WithExtern others other_name other) =
      same_externs before others && bytes_eq name other_name && same_extern extern other
