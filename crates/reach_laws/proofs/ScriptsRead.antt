-- What is written as an argument holds no handle and no end.
use Rattle.std.proofs.Common.{◌≡◌, ◌∙◌, inl, inr, ◌+◌, ℕ, Bool, true, false, List, [], ◌∷◌, ◌++◌, map, refl, sym, ap, subst, Option, Some, None}
use Rattle.std.specs.List.{flat_map, AllByRecursion}
use Rattle.syntax_trees.specs.declared.types.ValType.{ValType}
use Rattle.syntax_trees.specs.declared.value.Value.{Value}
use Rattle.syntax_trees.specs.declared.value.Value.TheOpen as V
use Rattle.syntax_trees.specs.declared.value.Value.TheViews as values
use Rattle.syntax_trees.specs.declared.value.Value.TheViews.{roll-Value}
use Rattle.syntax_trees.specs.declared.value.Value.TheVariants as plain
use Rattle.syntax_trees.specs.declared.value.Value.TheFolds.{map-Value, fold-roll-Value}
use Rattle.syntax_trees.specs.declared.exports.Export.{Export}
use Rattle.value_reader.specs.Written.{Place, IsText, IsPayload, IsPlacedText, IsSpacedText, AreTexts, true_text, false_text, s8_text, u8_text, s16_text, u16_text, s32_text, u32_text, s64_text, u64_text, char_text, string_text, record_text, tuple_text, list_text, flags_text, enum_text, case_text, none_text, some_text, ok_text, err_text, no_payload, payload_text, bare_text, labelled_text, spaced_text, no_texts, one_text, more_texts}
use Rattle.script_reader.specs.declared.script.Call.{Call}
use Rattle.script_reader.specs.declared.script.Item.{Item}
use Rattle.script_reader.specs.Laws.{ScriptsAreTexts}
use Rattle.script_reader.specs.Script.{Script}
use Rattle.script_reader.specs.Syntax.{IsCallOf, SayItems, SayScript, IsScriptText}
use Rattle.abi_machine.specs.Control.{EndRef}
use Rattle.abi_machine.specs.sound.EndsPassed.{ends_step, ends_in, ends_of, ItemPassesNoEnd}
use Rattle.abi_machine.specs.sound.Words.{big_step, has_big, AreSmall, ItemPassesSmall}
use Rattle.abi_machine.proofs.sound.words.Values.{IsSmall, small_leaf, none_small, small_record, small_list, small_variant}
use Rattle.reach_laws.specs.ReadScripts.{ReadScriptsPassSmall, ReadScriptsPassNoEnd}
use Rattle.reach_laws.proofs.SmallValues.{one_before}

-- a value without handles that are too large and without ends, one that may be there, and several
abbrev HasNoEnd : Value → Type 0
HasNoEnd v = ends_in v ≡ []

abbrev IsFree : Value → Type 0
IsFree v = IsSmall v × HasNoEnd v

abbrev IsFreeAny : Option Value → Type 0
IsFreeAny None = Unit {0}
IsFreeAny (Some v) = IsFree v

abbrev AreFree : List Value → Type 0
AreFree all = AreSmall all × AllByRecursion HasNoEnd all

-- by the outer layer
ends_are : (w : V.Value-F Value) (v : Value) → roll-Value w ≡ v → ends_in v ≡ ends_step (map-Value Value (List EndRef) ends_in w)
ends_are w v e = ap ends_in (sym e) ∙ fold-roll-Value (List EndRef) ends_step w

free_leaf : (w : V.Value-F Value) (v : Value) → roll-Value w ≡ v → big_step (map-Value Value Bool has_big w) ≡ false → ends_step (map-Value Value (List EndRef) ends_in w) ≡ [] → IsFree v
free_leaf w v e small none = (small_leaf w v e small, ends_are w v e ∙ none)

none_among : (all : List Value) → AllByRecursion HasNoEnd all → flat_map (λ (ends : List EndRef). ends) (map ends_in all) ≡ []
none_among [] h = refl
none_among (v ∷ all) h = ap (λ (ends : List EndRef). ends ++ flat_map (λ (ends : List EndRef). ends) (map ends_in all)) h.0 ∙ none_among all h.1

none_of : (all : List Value) → AllByRecursion HasNoEnd all → ends_of all ≡ []
none_of [] h = refl
none_of (v ∷ all) h = ap (λ (ends : List EndRef). ends ++ ends_of all) h.0 ∙ none_of all h.1

free_record : (all : List Value) → AreFree all → IsFree (values.Record all)
free_record all h = (small_record all h.0, ends_are (V.Record all) (values.Record all) (plain.rolls-Record all) ∙ none_among all h.1)

free_list : (all : List Value) → AreFree all → IsFree (values.List all)
free_list all h = (small_list all h.0, ends_are (V.List all) (values.List all) (plain.rolls-List all) ∙ none_among all h.1)

free_variant : (n : ℕ) (payload : Option Value) → IsFreeAny payload → IsFree (values.Variant n payload)
free_variant n None h = (small_variant n None tt, ends_are (V.Variant n None) (values.Variant n None) (plain.rolls-Variant n None))
free_variant n (Some v) h = (small_variant n (Some v) h.0, ends_are (V.Variant n (Some v)) (values.Variant n (Some v)) (plain.rolls-Variant n (Some v)) ∙ h.1)

mutual
  text_free : {t : ValType} {v : Value} {text : List ℕ} → IsText t v text → IsFree v
  text_free true_text = free_leaf (V.Bool true) (plain.Bool true) (plain.rolls-Bool true) refl refl
  text_free false_text = free_leaf (V.Bool false) (plain.Bool false) (plain.rolls-Bool false) refl refl
  text_free (s8_text n text h r) = free_leaf (V.S8 n) (plain.S8 n) (plain.rolls-S8 n) refl refl
  text_free (u8_text n text h r) = free_leaf (V.U8 n) (plain.U8 n) (plain.rolls-U8 n) refl refl
  text_free (s16_text n text h r) = free_leaf (V.S16 n) (plain.S16 n) (plain.rolls-S16 n) refl refl
  text_free (u16_text n text h r) = free_leaf (V.U16 n) (plain.U16 n) (plain.rolls-U16 n) refl refl
  text_free (s32_text n text h r) = free_leaf (V.S32 n) (plain.S32 n) (plain.rolls-S32 n) refl refl
  text_free (u32_text n text h r) = free_leaf (V.U32 n) (plain.U32 n) (plain.rolls-U32 n) refl refl
  text_free (s64_text n text h r) = free_leaf (V.S64 n) (plain.S64 n) (plain.rolls-S64 n) refl refl
  text_free (u64_text n text h r) = free_leaf (V.U64 n) (plain.U64 n) (plain.rolls-U64 n) refl refl
  text_free (char_text c text h r) = free_leaf (V.Char c) (plain.Char c) (plain.rolls-Char c) refl refl
  text_free (string_text s text h r) = free_leaf (V.String s) (plain.String s) (plain.rolls-String s) refl refl
  text_free (record_text fields all text h) = free_record all (texts_free h)
  text_free (tuple_text parts all text h) = free_record all (texts_free h)
  text_free (list_text element all text h e) = free_list all (texts_free h)
  text_free (flags_text labels flags text f l e) = free_leaf (V.Flags flags) (plain.Flags flags) (plain.rolls-Flags flags) refl refl
  text_free (enum_text labels n label l e) = free_variant n None tt
  text_free (case_text cases n c payload text l e f h) = free_variant n payload (payload_free h)
  text_free (none_text part) = free_variant 0 None tt
  text_free (some_text part payload text h) = free_variant 1 payload (payload_free h)
  text_free (ok_text ok err payload text h) = free_variant 0 payload (payload_free h)
  text_free (err_text ok err payload text h) = free_variant 1 payload (payload_free h)

  payload_free : {type : Option ValType} {payload : Option Value} {text : List ℕ} → IsPayload type payload text → IsFreeAny payload
  payload_free no_payload = tt
  payload_free (payload_text t v blanks text b h) = spaced_free h

  placed_free : {p : Place} {v : Value} {text : List ℕ} → IsPlacedText p v text → IsFree v
  placed_free (bare_text t v text h) = text_free h
  placed_free (labelled_text label t v before between text l b k h) = text_free h

  spaced_free : {p : Place} {v : Value} {text : List ℕ} → IsSpacedText p v text → IsFree v
  spaced_free (spaced_text p v before text behind b h k) = placed_free h

  texts_free : {places : List Place} {all : List Value} {text : List ℕ} → AreTexts places all text → AreFree all
  texts_free (no_texts blanks b) = (none_small, tt)
  texts_free (one_text p v text h) = let first : IsFree v = spaced_free h in (one_before v [] first.0 none_small, (first.1, tt))
  texts_free (more_texts p q places v w all text others h k) =
      let first : IsFree v = spaced_free h in
      let more : AreFree (w ∷ all) = texts_free k in
      (one_before v (w ∷ all) first.0 more.0, (first.1, more.1))

-- items of a script that is written
abbrev PassFree : List Item → Type 0
PassFree items = AllByRecursion ItemPassesSmall items × AllByRecursion ItemPassesNoEnd items

call_free : (exports : List Export) (written : List ℕ) (call : Call) → IsCallOf exports written call → AreFree call.values
call_free exports written call h = texts_free h.5.4

items_free : (exports : List Export) (calls : ℕ) (texts : List (List ℕ)) (picks : List ℕ) (items : List Item) → SayItems exports calls texts picks items → PassFree items
items_free exports calls [] picks items h = subst PassFree (sym h.1) (tt, tt)
items_free exports calls (text ∷ texts) picks items (inl h) = items_free exports calls texts picks items h.1
items_free exports calls (text ∷ texts) picks items (inr (inl h)) =
    let values : AreFree h.1.values = call_free exports h.0 h.1 h.4 in
    let rest : PassFree h.2 = items_free exports (calls + 1) texts picks h.2 h.6 in
    subst PassFree (sym h.5) ((values.0, rest.0), (none_of h.1.values values.1, rest.1))
items_free exports calls (text ∷ texts) picks items (inr (inr (inl h))) =
    let rest : PassFree h.2 = items_free exports calls texts picks h.2 h.6 in subst PassFree (sym h.5) ((tt, rest.0), (tt, rest.1))
items_free exports calls (text ∷ texts) picks items (inr (inr (inr h))) = items_free exports calls texts h.2 items h.6

script_free : (exports : List Export) (texts : List (List ℕ)) (s : Script) → SayScript exports texts s → PassFree s.items
script_free exports texts s (inl h) = items_free exports 0 texts s.picks s.items h.1
script_free exports texts s (inr h) = items_free exports 0 h.2 s.picks s.items h.6

written_free : (exports : List Export) (bytes : List ℕ) (s : Script) → IsScriptText exports bytes s → PassFree s.items
written_free exports bytes s h = script_free exports h.2.1 s h.2.4

pub read_scripts_pass_small : ScriptsAreTexts → ReadScriptsPassSmall
read_scripts_pass_small texts exports bytes s h = (written_free exports bytes s ((texts exports bytes s).0 h)).0

pub read_scripts_pass_no_end : ScriptsAreTexts → ReadScriptsPassNoEnd
read_scripts_pass_no_end texts exports bytes s h = (written_free exports bytes s ((texts exports bytes s).0 h)).1
