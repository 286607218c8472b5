-- What is written for a value of any type is read as that value.
use Rattle.std.proofs.Common.{◌≡◌, ◌∙◌, rules, List, [], ◌∷◌, ◌++◌, map, codes, Bool, true, IsTrue, Some, refl, sym, ap, subst, append-nil}
use Rattle.std.specs.List.{AllByRecursion}
use Rattle.syntax_trees.specs.declared.types.ValType.{ValType}
use Rattle.syntax_trees.specs.declared.types.ValType.TheViews as types
use Rattle.syntax_trees.specs.declared.value.Value.{Value, out-Value}
use Rattle.syntax_trees.specs.declared.value.Value.TheOpen as V
use Rattle.syntax_trees.specs.declared.value.Value.TheVariants as plain
use Rattle.syntax_trees.specs.declared.value.Value.TheViews.{the_lemmas}
use Rattle.syntax_trees.specs.declared.value.Value.TheFolds.{fold-roll-Value}
use Rattle.syntax_trees.specs.declared.value.Value.TheViews as values
use Rattle.syntax_trees.specs.TypeText.{listed}
use Rattle.syntax_trees.specs.Fits.{Test, test_of, fits, is_record, each_passes}
use Rattle.syntax_trees.specs.ValueText.{writer, value_text, by_each}
use Rattle.syntax_trees.proofs.FitsEquations.{fits_of_tuple}
use Rattle.syntax_trees.proofs.WriterEquations.{write_tuple}
use Rattle.value_reader.specs.Values.{read_value, arguments}
use Rattle.value_reader.specs.Writable.{all_true, is_writable, is_sound, sound_step}
use Rattle.value_reader.specs.Written.{bare, IsSpacedText, spaced_text, bare_text}
use Rattle.value_reader.proofs.Wholes.{values_are_texts, arguments_are_texts}
use Rattle.value_reader.proofs.WritableEquations.{writable_of_tuple}
use Rattle.value_reader.proofs.Writing.{Writes, listed_texts, parts_written}
use Rattle.value_reader.proofs.TypesWritten.{writes_type}

pub read_back : (t : ValType) (v : Value) → IsTrue (is_writable t) → IsTrue (fits v t) → IsTrue (is_sound v) → read_value t (value_text v t) ≡ Some v
read_back t v w h s =
    let text = writer t v in
    let is : IsSpacedText (bare t) v text =
    subst (λ (l : List _). IsSpacedText (bare t) v l) (append-nil text) (spaced_text (bare t) v [] text [] tt (bare_text t v text (writes_type t v h s w)) tt) in
    (values_are_texts t v text).1 is

-- Arguments.
record_out : (tests : List Test) (all : List Value) → is_record tests (out-Value (values.Record all)) ≡ each_passes tests all
record_out tests all = search (rules, the_lemmas)

sound_of_record : (all : List Value) → is_sound (values.Record all) ≡ all_true (map is_sound all)
sound_of_record all = ap is_sound (sym (plain.rolls-Record all)) ∙ fold-roll-Value Bool sound_step (V.Record all)

all_write : (types : List ValType) → AllByRecursion Writes types
all_write [] = tt
all_write (t ∷ types) = (writes_type t, all_write types)

pub call_read_back : (parts : List ValType) (all : List Value) → IsTrue (is_writable (types.Tuple parts)) → IsTrue (fits (values.Record all) (types.Tuple parts)) → IsTrue (is_sound (values.Record all))
    → arguments parts (value_text (values.Record all) (types.Tuple parts)) ≡ Some all
call_read_back parts all w h s =
    let passes : each_passes (map test_of parts) all ≡ true = sym (record_out (map test_of parts) all) ∙ (sym (fits_of_tuple parts (values.Record all)) ∙ h) in
    let sound : all_true (map is_sound all) ≡ true = sym (sound_of_record all) ∙ s in
    let texts = by_each all (map writer parts) in
    let is = listed_texts (map bare parts) all texts (parts_written parts all (all_write parts) passes sound (sym (writable_of_tuple parts) ∙ w)) in
    ap (arguments parts) (write_tuple (types.Tuple parts) (values.Record all) parts all refl refl)
    ∙ (arguments_are_texts parts all (codes "(" ++ listed texts ++ codes ")")).1 ([], listed texts, refl, tt, is)
