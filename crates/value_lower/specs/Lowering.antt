-- Lowering where a handle and the end of a stream or a future are told by the numbers that they have (Component Model, CanonicalABI.md,
-- "Storing", "Flat Lowering").
use Rattle.std.specs.Prelude.{ℕ, List}
use Rattle.syntax_trees.specs.declared.types.ValType.{ValType}
use Rattle.syntax_trees.specs.declared.value.Value.{Value}
use Rattle.syntax_trees.specs.declared.value.Value.TheOpen.{Value-F}
use Rattle.value_lower.specs.Plan.{New, number_of, Plan}
use Rattle.value_lower.specs.Storing.{Lowered}
pub use Rattle.value_lower.specs.Storing.{Lowered, plain_bytes, plain_word, width_of, number_bytes, bits_of, flags_number, tested, asked, text_in, elements_from, list_in, pointed, fields_from, payload_at, case_from, field_words, payload_words, filled, case_words}
use Rattle.value_lower.specs.Entering as entering

-- Nothing is entered: what follows goes on with the number.
abbrev pub plainly : New → (ℕ → Plan) → Plan
plainly entry k = k (number_of entry)

abbrev pub store_case : Value-F Lowered → ValType → ℕ → Plan → Plan
store_case = entering.store_case plainly

abbrev pub words_case : Value-F Lowered → ValType → List ℕ → (List ℕ → Plan) → Plan
words_case = entering.words_case plainly

abbrev pub lower_step : Value-F Lowered → Lowered
lower_step = entering.lower_step plainly

abbrev pub lowered : Value → Lowered
lowered = entering.lowered plainly

abbrev pub layer_of : Value → Value-F Lowered
layer_of = entering.layer_of plainly

abbrev pub store : ValType → Value → ℕ → Plan → Plan
store = entering.store plainly

abbrev pub flat_words : ValType → Value → List ℕ → (List ℕ → Plan) → Plan
flat_words = entering.flat_words plainly

abbrev pub stored : ValType → Value → ℕ → Plan
stored = entering.stored plainly

abbrev pub all_stored : ValType → List Value → ℕ → Plan
all_stored = entering.all_stored plainly

abbrev pub flat_lowered : ValType → Value → Plan
flat_lowered = entering.flat_lowered plainly

abbrev pub placed : ValType → Value → Plan
placed = entering.placed plainly
