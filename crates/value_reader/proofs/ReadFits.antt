-- What is read of a type is a value of the type, and sound.
use Rattle.std.proofs.Common.{◌≡◌, ◌∙◌, ◌<◌, ◌^◌, rules, ℕ, List, [], ◌∷◌, map, Bool, true, Option, refl, ap, sym, arith}
use Rattle.std.proofs.lemmas.Bool.{and_parts, leb-true}
use Rattle.syntax_trees.specs.declared.types.ValType.{ValType, out-ValType}
use Rattle.syntax_trees.specs.declared.types.ValType.TheOpen as F
use Rattle.syntax_trees.specs.declared.types.ValType.TheFolds.{fold_out-ValType}
use Rattle.syntax_trees.specs.declared.value.Value.{Value, roll-Value, out-Value}
use Rattle.syntax_trees.specs.declared.value.Value.TheOpen as V
use Rattle.syntax_trees.specs.declared.value.Value.TheViews.{the_lemmas}
use Rattle.syntax_trees.specs.declared.value.Value.TheVariants as plain
use Rattle.syntax_trees.specs.declared.value.Value.TheFolds.{fold_out-Value}
use Rattle.syntax_trees.specs.Fits.{Test, test_of, fits_step, fits_case, fits_field, each_passes, is_u32}
use Rattle.value_reader.specs.Writable.{all_true, sound_step, is_sound}
use Rattle.value_reader.specs.Typed.{AreOfTypes}
use Rattle.value_reader.specs.Laws.{ReadValuesFit, ReadArgumentsFit, SoundValuesAreSmall}
use Rattle.value_reader.proofs.TypesTold.{told_type}
use Rattle.value_reader.proofs.Wholes.{arguments_are_texts}
use Rattle.value_reader.proofs.WritingLeaves.{sound_layer}
use Rattle.value_reader.proofs.TextsFit.{fit_text, fit_all, tests_of_parts}

pub read_values_fit : ReadValuesFit
read_values_fit type v text rest h = fit_text (told_type type text rest v h).2

are_of_types : (types : List ValType) (all : List Value) → each_passes (map test_of types) all ≡ true → all_true (map is_sound all) ≡ true → AreOfTypes types all
are_of_types [] [] h s = tt
are_of_types [] (v ∷ all) h s = cc
are_of_types (t ∷ types) [] h s = cc
are_of_types (t ∷ types) (v ∷ all) h s =
    let first = and_parts (test_of t v) (each_passes (map test_of types) all) h in
    let sound = and_parts (is_sound v) (all_true (map is_sound all)) s in
    (first.0, sound.0, are_of_types types all first.1 sound.1)

pub read_arguments_fit : ReadArgumentsFit
read_arguments_fit types all text h =
    let a = fit_all ((arguments_are_texts types all text).0 h).4 in
    are_of_types types all (ap (λ (l : List Test). each_passes l all) (sym (tests_of_parts types)) ∙ a.0) a.1

-- A number of 32 bits.
u32_layer : (o : V.Value-F Value) → is_u32 o ≡ true → sound_layer o ≡ true → (n : ℕ) × (plain.U32 n ≡ roll-Value o) × (n < 2 ^ 32)
u32_layer (V.U32 n) h s =
    let low = leb-true n 0xFFFFFFFF s in
    (n, sym (plain.rolls-U32 n), omega (arith, low))
u32_layer o h s = cc

layer_of : (v : Value) → roll-Value (out-Value v) ≡ v
layer_of v = search (rules, the_lemmas)

u32_test : (t : ValType) (v : Value) → out-ValType t ≡ F.U32 → test_of t v ≡ is_u32 (out-Value v)
u32_test t v e = ap (λ (test : Test). test v) (fold_out-ValType Test (Option Test) Test fits_step fits_case fits_field t) ∙ rw e refl

pub sound_values_are_small : SoundValuesAreSmall
sound_values_are_small type v e h s =
    let found = u32_layer (out-Value v) (sym (u32_test type v e) ∙ h) (sym (fold_out-Value Bool sound_step v) ∙ s) in
    (found.0, found.1 ∙ layer_of v, found.2)
