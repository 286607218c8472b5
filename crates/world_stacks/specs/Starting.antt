-- Calls of functions of a store with words that are tested (Core 2.0, sections 4.2.1 and 4.5.5).
use Rattle.std.specs.Prelude.{ℕ, nat_lt, ◌^◌, Bool, true, false, cond, if◌then◌else◌, List, [], ◌∷◌, Option, Some, None}
use Rattle.std.specs.List.{slice_get}
use Rattle.std.specs.Option.{option_and_then}
use Rattle.syntax_trees.specs.declared.module_types.ValType.{ValType}
use Rattle.syntax_trees.specs.declared.module_types.ValType.TheVariants.{I32, I64}
use Rattle.wasm_store.specs.Store.{Function, type_of, Store}
use Rattle.wasm_store.specs.Stack.{Stack}
use Rattle.wasm_store.specs.Step.{start}
use Rattle.comp_graph.specs.declared.graph.FuncRef.{FuncRef}
use Rattle.world_stacks.specs.Addresses.{func_address}

-- whether a word is a value of a type, and words are values of types, one of each
abbrev pub is_word : ValType → ℕ → Bool
is_word I32 word = nat_lt word (2 ^ 32)
is_word I64 word = nat_lt word (2 ^ 64)

abbrev pub are_words : List ValType → List ℕ → Bool
are_words [] [] = true
are_words [] (word ∷ words) = false
are_words (type ∷ types) [] = false
are_words (type ∷ types) (word ∷ words) = cond (is_word type word) (are_words types words) false

-- a call of the function at an address, where one is there that takes these words
abbrev pub called_with : Option Function → ℕ → List ℕ → Option Stack
called_with None address words = None
called_with (Some f) address words = if are_words (type_of f).params words then Some (start f address words) else None

abbrev pub started : Store → ℕ → List ℕ → Option Stack
started s address words = called_with (slice_get s.funcs address) address words

abbrev pub call_of : Store → FuncRef → List ℕ → Option Stack
call_of s func words = option_and_then (λ address. started s address words) (func_address s func)

-- whether the function at an address gives such words
abbrev pub given_by : Option Function → List ℕ → Bool
given_by None words = false
given_by (Some f) words = are_words (type_of f).results words

abbrev pub gives_words : Store → ℕ → List ℕ → Bool
gives_words s address words = given_by (slice_get s.funcs address) words
