-- Whole texts: a value, and the arguments of a call.
use Rattle.std.proofs.Common.{◌≡◌, ◌↔◌, ◌∙◌, ℕ, List, [], ◌∷◌, ◌++◌, length, map, codes, cond, nat_eq, Option, Some, None, true, refl, sym, ap, subst, append_assoc, append-nil}
use Rattle.std.specs.Option.{option_and_then}
use Rattle.std.specs.List.{AllByRecursion}
use Rattle.std.proofs.lemmas.Bool.{eqb-true}
use Rattle.std.proofs.lemmas.List.{nil_from_length}
use Rattle.syntax_trees.specs.declared.types.ValType.{ValType}
use Rattle.syntax_trees.specs.declared.value.Value.{Value}
use Rattle.value_reader.specs.Tokens.{without_blanks, after_mark}
use Rattle.value_reader.specs.Values.{Reader, reader, values_at, whole, read_value, whole_list, arguments}
use Rattle.value_reader.specs.Written.{AreBlanks, bare, IsSpacedText, AreTexts, spaced_text, bare_text, IsWholeText, AreArguments}
use Rattle.value_reader.proofs.Cases.{some_inj, passed_some, chained_some}
use Rattle.value_reader.proofs.Marks.{blanks_before, mark_told, mark_tells}
use Rattle.value_reader.proofs.Sequences.{values_tell}
use Rattle.value_reader.proofs.TextsRead.{place_reader, readers_of_parts, tells_spaced, tells_all}
use Rattle.value_reader.proofs.SequencesTold.{values_told}
use Rattle.value_reader.proofs.Telling.{Told, places_of_parts}
use Rattle.value_reader.proofs.TypesTold.{told_type}

-- A value.
blank_rest : (rest : List ℕ) → nat_eq (length (without_blanks rest)) 0 ≡ true → AreBlanks rest
blank_rest rest h =
    let none : without_blanks rest ≡ [] = nil_from_length (without_blanks rest) (eqb-true (length (without_blanks rest)) 0 h) in
    let start = blanks_before rest in
    let same : start.0 ≡ rest = sym (append-nil start.0) ∙ ap (λ (l : List ℕ). start.0 ++ l) (sym none) ∙ sym start.1 in
    subst AreBlanks same start.2

whole_parts : (text before word written rest : List ℕ) → text ≡ before ++ word → word ≡ written ++ rest → before ++ written ++ rest ≡ text
whole_parts text before word written rest e f = sym (e ∙ ap (λ (l : List ℕ). before ++ l) f ∙ sym (append_assoc before written rest))

value_told : (t : ValType) (v : Value) (text : List ℕ) → read_value t text ≡ Some v → IsWholeText t v text
value_told t v text h =
    let k = chained_some {B = Value} (λ (q : Value × List ℕ). cond (nat_eq (length (without_blanks q.1)) 0) (Some q.0) None) (reader t (without_blanks text)) v h in
    let passed = passed_some (nat_eq (length (without_blanks k.0.1)) 0) (Some k.0.0) v k.2 in
    let same : k.0.0 ≡ v = some_inj passed.1 in
    let u = told_type t (without_blanks text) k.0.1 k.0.0 k.1 in
    let start = blanks_before text in
    let is : IsSpacedText (bare t) k.0.0 (start.0 ++ u.0 ++ k.0.1) = spaced_text (bare t) k.0.0 start.0 u.0 k.0.1 start.2 (bare_text t k.0.0 u.0 u.2) (blank_rest k.0.1 passed.0) in
    subst (λ (x : Value). IsSpacedText (bare t) x text) same (subst (λ (l : List ℕ). IsSpacedText (bare t) k.0.0 l) (whole_parts text start.0 (without_blanks text) u.0 k.0.1 start.1 u.1) is)

value_tells : (t : ValType) (v : Value) (text : List ℕ) → IsWholeText t v text → read_value t text ≡ Some v
value_tells t v text i =
    let u = tells_spaced i [] tt in
    let none : without_blanks u.0 ≡ [] = u.2 in
    ap (λ (l : List ℕ). whole (reader t (without_blanks l))) (sym (append-nil text))
    ∙ ap whole u.1
    ∙ ap (λ (l : List ℕ). cond (nat_eq (length l) 0) (Some v) None) none

pub values_are_texts : (t : ValType) (v : Value) (text : List ℕ) → (read_value t text ≡ Some v) ↔ IsWholeText t v text
values_are_texts t v text = (λ h. value_told t v text h, λ i. value_tells t v text i)

pub one_value : (t : ValType) (v w : Value) (text : List ℕ) → IsWholeText t v text → IsWholeText t w text → v ≡ w
one_value t v w text i j = some_inj (sym (value_tells t v text i) ∙ value_tells t w text j)

-- The arguments of a call.
all_told : (types : List ValType) → AllByRecursion Told types
all_told [] = tt
all_told (t ∷ types) = (told_type t, all_told types)

argument_parts : (text blanks inner between rest : List ℕ) → text ≡ blanks ++ 40 ∷ inner → inner ≡ between ++ 41 ∷ rest → rest ≡ [] → text ≡ blanks ++ codes "(" ++ between ++ codes ")"
argument_parts text blanks inner between rest e f g = rw (e, f, g) (simp append_assoc)

abbrev Pair : Type 0
Pair = List Value × List ℕ

told_arguments : (types : List ValType) (all : List Value) (text : List ℕ) → arguments types text ≡ Some all → AreArguments types all text
told_arguments types all text h =
    let k = chained_some {B = List Value} (λ (q : Pair). cond (nat_eq (length q.1) 0) (Some q.0) None) (option_and_then (values_at 41 (map reader types)) (after_mark 40 text)) all h in
    let passed = passed_some (nat_eq (length k.0.1) 0) (Some k.0.0) all k.2 in
    let same : k.0.0 ≡ all = some_inj passed.1 in
    let none : k.0.1 ≡ [] = nil_from_length k.0.1 (eqb-true (length k.0.1) 0 passed.0) in
    let begun = chained_some {B = Pair} (values_at 41 (map reader types)) (after_mark 40 text) k.0 k.1 in
    let read : values_at 41 (map place_reader (map bare types)) begun.0 ≡ Some (k.0.0, k.0.1) = ap (λ (l : List Reader). values_at 41 l begun.0) (readers_of_parts types) ∙ begun.2 in
    let j = values_told 41 k.0.1 (map bare types) (places_of_parts types (all_told types)) begun.0 k.0.0 read in
    let mark = mark_told 40 text begun.0 begun.1 in
    (mark.0, j.0, argument_parts text mark.0 begun.0 j.0 k.0.1 mark.1 j.1 none, mark.2, subst (λ (x : List Value). AreTexts (map bare types) x j.0) same j.2)

inner_parts : (text blanks inner : List ℕ) → text ≡ blanks ++ codes "(" ++ inner ++ codes ")" → text ≡ blanks ++ (40 ∷ (inner ++ 41 ∷ []))
inner_parts text blanks inner e = rw e (simp append_assoc)

arguments_tell : (types : List ValType) (all : List Value) (text : List ℕ) → AreArguments types all text → arguments types text ≡ Some all
arguments_tell types all text i =
    let begins : after_mark 40 text ≡ Some (i.1 ++ 41 ∷ []) = ap (after_mark 40) (inner_parts text i.0 i.1 i.2) ∙ mark_tells 40 i.0 (i.1 ++ 41 ∷ []) refl i.3 in
    let read : values_at 41 (map reader types) (i.1 ++ 41 ∷ []) ≡ Some (all, []) =
    ap (λ (l : List Reader). values_at 41 l (i.1 ++ 41 ∷ [])) (sym (readers_of_parts types)) ∙ values_tell 41 refl refl (map place_reader (map bare types)) all i.1 [] (tells_all i.4) in
    ap (λ (o : Option (List ℕ)). whole_list (option_and_then (values_at 41 (map reader types)) o)) begins ∙ ap whole_list read

pub arguments_are_texts : (types : List ValType) (all : List Value) (text : List ℕ) → (arguments types text ≡ Some all) ↔ AreArguments types all text
arguments_are_texts types all text = (λ h. told_arguments types all text h, λ i. arguments_tell types all text i)

pub one_list : (types : List ValType) (all others : List Value) (text : List ℕ) → AreArguments types all text → AreArguments types others text → all ≡ others
one_list types all others text i j = some_inj (sym (arguments_tell types all text i) ∙ arguments_tell types others text j)
