-- Texts of values one after the other are read as these.
use Rattle.std.proofs.Common.{◌≡◌, ◌∙◌, ◌⊎◌, inl, inr, ℕ, zero, suc, ◌≤◌, ◌+◌, List, [], ◌∷◌, ◌++◌, length, map, Option, Some, None, true, false, refl, sym, ap, append_assoc, append-nil, length-append, arith}
use Rattle.std.specs.Option.{option_map, option_and_then}
use Rattle.syntax_trees.specs.declared.value.Value.{Value}
use Rattle.value_reader.specs.Tokens.{is_blank, ends_label, without_blanks, after_mark}
use Rattle.value_reader.specs.Values.{Reader, separated, values_from, values_at, elements_from, elements_at, closed_or}
use Rattle.value_reader.specs.Written.{AreBlanks}
use Rattle.value_reader.proofs.Marks.{Alike, Ends, ends_mark, mark_tells, mark_missing, mark_behind, same_mark}
use Rattle.value_reader.proofs.Elements.{elements_close, elements_go}

-- A text is read as this, whatever ends it, with or without blanks before it. What is left is what stands behind it, but for
-- blanks.
abbrev pub Tells : {A : Type 0} → (List ℕ → Option (A × List ℕ)) → A → List ℕ → Type 0
Tells r v text = (rest : List ℕ) → Ends rest → (left : List ℕ) × (r (without_blanks (text ++ rest)) ≡ Some (v, left)) × Alike left rest

-- values of readers, with a comma between two
abbrev pub Items : List Reader → List Value → List ℕ → Type 0
Items [] [] text = AreBlanks text
Items [] (v ∷ all) text = ⊥
Items (r ∷ readers) [] text = ⊥
Items (r ∷ []) (v ∷ []) text = Tells r v text
Items (r ∷ []) (v ∷ w ∷ all) text = ⊥
Items (r ∷ q ∷ readers) (v ∷ []) text = ⊥
Items (r ∷ q ∷ readers) (v ∷ w ∷ all) text =
    (first : List ℕ) × (others : List ℕ) × (text ≡ first ++ 44 ∷ others) × Tells r v first × Items (q ∷ readers) (w ∷ all) others

-- The readers go on where a value may stand: at the first one, and behind a comma.
abbrev entry : ℕ → List Value → List Reader → List ℕ → Option (List Value × List ℕ)
entry close before [] text = option_map (λ (rest : List ℕ). (before, rest)) (after_mark close text)
entry close before (r ∷ readers) text = option_and_then (λ (p : Value × List ℕ). values_from close (before ++ p.0 ∷ []) readers p.1) (r (without_blanks text))

first_entry : (close : ℕ) (readers : List Reader) (text : List ℕ) → values_at close readers text ≡ entry close [] readers text
first_entry close [] text = refl
first_entry close (r ∷ readers) text = refl

separated_behind : (before : List Value) (v : Value) (text : List ℕ) → separated (before ++ v ∷ []) text ≡ after_mark 44 text
separated_behind [] v text = refl
separated_behind (u ∷ before) v text = refl

behind_entry : (close : ℕ) (before : List Value) (v : Value) (q : Reader) (readers : List Reader) (left others : List ℕ) → Alike left (44 ∷ others)
    → values_from close (before ++ v ∷ []) (q ∷ readers) left ≡ entry close (before ++ v ∷ []) (q ∷ readers) others
behind_entry close before v q readers left others e =
    ap (λ (o : Option (List ℕ)). option_and_then (λ (p : Value × List ℕ). values_from close ((before ++ v ∷ []) ++ p.0 ∷ []) readers p.1) (option_and_then (λ (rest : List ℕ). q (without_blanks rest)) o))
    (separated_behind before v left ∙ mark_behind 44 left others refl e)

-- a value that is read, and what follows it
after_value : (close : ℕ) (before : List Value) (r : Reader) (readers : List Reader) (v : Value) (text left : List ℕ) → r (without_blanks text) ≡ Some (v, left)
    → entry close before (r ∷ readers) text ≡ values_from close (before ++ v ∷ []) readers left
after_value close before r readers v text left h =
    ap (λ (o : Option (Value × List ℕ)). option_and_then (λ (p : Value × List ℕ). values_from close (before ++ p.0 ∷ []) readers p.1) o) h

-- how a text is parted at its first comma
parted : (text first others : List ℕ) (close : ℕ) (rest : List ℕ) → text ≡ first ++ 44 ∷ others → text ++ close ∷ rest ≡ first ++ (44 ∷ (others ++ close ∷ rest))
parted text first others close rest e = ap (λ (l : List ℕ). l ++ close ∷ rest) e ∙ append_assoc first (44 ∷ others) (close ∷ rest)

entry_tells : (close : ℕ) → is_blank close ≡ false → ends_label close ≡ true → (readers : List Reader) (all before : List Value) (text rest : List ℕ) → Items readers all text
    → entry close before readers (text ++ close ∷ rest) ≡ Some (before ++ all, rest)
entry_tells close b e [] [] before text rest i =
    ap (option_map (λ (rest : List ℕ). (before, rest))) (mark_tells close text rest b i) ∙ ap (λ (l : List Value). Some (l, rest)) (sym (append-nil before))
entry_tells close b e [] (v ∷ all) before text rest i = absurd i
entry_tells close b e (r ∷ readers) [] before text rest i = absurd i
entry_tells close b e (r ∷ []) (v ∷ []) before text rest i =
    let t = i (close ∷ rest) (ends_mark close rest b e) in
    after_value close before r [] v (text ++ close ∷ rest) t.0 t.1
    ∙ ap (option_map (λ (rest : List ℕ). (before ++ v ∷ [], rest))) (mark_behind close t.0 rest b t.2)
entry_tells close b e (r ∷ []) (v ∷ w ∷ all) before text rest i = absurd i
entry_tells close b e (r ∷ q ∷ readers) (v ∷ []) before text rest i = absurd i
entry_tells close b e (r ∷ q ∷ readers) (v ∷ w ∷ all) before text rest i =
    let more = i.1 ++ close ∷ rest in
    let t = i.3 (44 ∷ more) (ends_mark 44 more refl refl) in
    ap (λ (l : List ℕ). entry close before (r ∷ q ∷ readers) l) (parted text i.0 i.1 close rest i.2)
    ∙ after_value close before r (q ∷ readers) v (i.0 ++ (44 ∷ more)) t.0 t.1
    ∙ behind_entry close before v q readers t.0 more t.2
    ∙ entry_tells close b e (q ∷ readers) (w ∷ all) (before ++ v ∷ []) i.1 rest i.4
    ∙ ap (λ (l : List Value). Some (l, rest)) (append_assoc before (v ∷ []) (w ∷ all))

pub values_tell : (close : ℕ) → is_blank close ≡ false → ends_label close ≡ true → (readers : List Reader) (all : List Value) (text rest : List ℕ) → Items readers all text
    → values_at close readers (text ++ close ∷ rest) ≡ Some (all, rest)
values_tell close b e readers all text rest i = first_entry close readers (text ++ close ∷ rest) ∙ entry_tells close b e readers all [] text rest i

-- The elements of a list.
elements_tell : (r : Reader) (v : Value) (all before : List Value) (n : ℕ) (text rest : List ℕ) → Items (map (λ (v : Value). r) (v ∷ all)) (v ∷ all) text → length (v ∷ all) ≤ n
    → elements_from r n before (text ++ 93 ∷ rest) ≡ Some (before ++ v ∷ all, rest)
elements_tell r v [] before n text rest i low =
    let t = i (93 ∷ rest) (ends_mark 93 rest refl refl) in
    elements_close r n before v (text ++ 93 ∷ rest) t.0 rest (omega (arith, low)) t.1 (mark_behind 93 t.0 rest refl t.2)
elements_tell r v (w ∷ all) before zero text rest i low = absurd (omega (arith, low))
elements_tell r v (w ∷ all) before (suc n) text rest i low =
    let more = i.1 ++ 93 ∷ rest in
    let t = i.3 (44 ∷ more) (ends_mark 44 more refl refl) in
    let goes : after_mark 93 t.0 ≡ None = same_mark 93 t.0 (44 ∷ more) t.2 ∙ mark_missing 93 44 more refl (λ e. absurd (omega (arith, e))) in
    ap (λ (l : List ℕ). elements_from r (suc n) before l) (parted text i.0 i.1 93 rest i.2)
    ∙ elements_go r (suc n) n before v (i.0 ++ (44 ∷ more)) t.0 more refl t.1 goes (mark_behind 44 t.0 more refl t.2)
    ∙ elements_tell r w all (before ++ v ∷ []) n i.1 rest i.4 (omega (arith, low))
    ∙ ap (λ (l : List Value). Some (l, rest)) (append_assoc before (v ∷ []) (w ∷ all))

-- there are not many more values than bytes
few_items : (readers : List Reader) (all : List Value) (text : List ℕ) → Items readers all text → length all ≤ suc (length text)
few_items [] [] text i = omega arith
few_items [] (v ∷ all) text i = absurd i
few_items (r ∷ readers) [] text i = absurd i
few_items (r ∷ []) (v ∷ []) text i = omega arith
few_items (r ∷ []) (v ∷ w ∷ all) text i = absurd i
few_items (r ∷ q ∷ readers) (v ∷ []) text i = absurd i
few_items (r ∷ q ∷ readers) (v ∷ w ∷ all) text i =
    let others = few_items (q ∷ readers) (w ∷ all) i.1 i.4 in
    let long : length text ≡ length i.0 + suc (length i.1) = ap length i.2 ∙ length-append i.0 (44 ∷ i.1) in
    omega (arith, others, long)

-- a text at which this mark does not stand, whatever follows
abbrev pub Hides : ℕ → List ℕ → Type 0
Hides mark text = (rest : List ℕ) → after_mark mark (text ++ rest) ≡ None

pub list_tells : (r : Reader) (all : List Value) (text rest : List ℕ) → Items (map (λ (v : Value). r) all) all text → (all ≡ []) ⊎ Hides 93 text
    → elements_at r (text ++ 93 ∷ rest) ≡ Some (all, rest)
list_tells r [] text rest i h =
    ap (λ (o : Option (List ℕ)). closed_or [] o (elements_from r (length (text ++ 93 ∷ rest)) [] (text ++ 93 ∷ rest))) (mark_tells 93 text rest refl i)
list_tells r (v ∷ all) text rest i (inl e) = cc
list_tells r (v ∷ all) text rest i (inr h) =
    let few = few_items (map (λ (v : Value). r) (v ∷ all)) (v ∷ all) text i in
    let long : length (text ++ 93 ∷ rest) ≡ length text + suc (length rest) = length-append text (93 ∷ rest) in
    ap (λ (o : Option (List ℕ)). closed_or [] o (elements_from r (length (text ++ 93 ∷ rest)) [] (text ++ 93 ∷ rest))) (h (93 ∷ rest))
    ∙ elements_tell r v all [] (length (text ++ 93 ∷ rest)) text rest i (omega (arith, few, long))
