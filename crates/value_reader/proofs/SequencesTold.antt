-- Values that are read one after the other are written there.
use Rattle.std.proofs.Common.{◌≡◌, ◌∙◌, inl, inr, ℕ, zero, suc, List, [], ◌∷◌, ◌++◌, length, map, codes, Option, Some, None, refl, sym, ap, subst, append_assoc, append-nil}
use Rattle.std.specs.Option.{option_and_then}
use Rattle.std.specs.List.{AllByRecursion}
use Rattle.syntax_trees.specs.declared.types.ValType.{ValType}
use Rattle.syntax_trees.specs.declared.value.Value.{Value}
use Rattle.value_reader.specs.Tokens.{without_blanks, after_mark}
use Rattle.value_reader.specs.Values.{reader, values_from, values_at, elements_from, elements_at, closed_or}
use Rattle.value_reader.specs.Written.{AreBlanks, Place, bare, IsPlacedText, AreTexts, spaced_text, no_texts, one_text, more_texts}
use Rattle.value_reader.proofs.Cases.{some_inj, cases_Option, mapped_some, chained_some}
use Rattle.value_reader.proofs.Marks.{blanks_before, mark_told}
use Rattle.value_reader.proofs.Hiding.{not_blank}
use Rattle.value_reader.proofs.TextsRead.{place_reader}

-- What is read in a place is written there.
abbrev pub ToldPlace : Place → Type 0
ToldPlace p = (text rest : List ℕ) (v : Value) → place_reader p text ≡ Some (v, rest) → (written : List ℕ) × (text ≡ written ++ rest) × IsPlacedText p v written

abbrev Pair : Type 0
Pair = List Value × List ℕ

abbrev Found : Type 0
Found = Value × List ℕ

-- what stands behind a value: the mark that closes, or a comma and the other values
abbrev Behind : ℕ → List ℕ → List Place → List Value → List ℕ → Type 0
Behind close rest [] [] text = (blanks : List ℕ) × (text ≡ blanks ++ close ∷ rest) × AreBlanks blanks
Behind close rest [] (v ∷ all) text = ⊥
Behind close rest (p ∷ places) [] text = ⊥
Behind close rest (p ∷ places) (v ∷ all) text =
    (blanks : List ℕ) × (inner : List ℕ) × (text ≡ blanks ++ 44 ∷ (inner ++ close ∷ rest)) × AreBlanks blanks × AreTexts (p ∷ places) (v ∷ all) inner

last_parts : (text blanks word written left behind rest : List ℕ) (close : ℕ) → text ≡ blanks ++ word → word ≡ written ++ left → left ≡ behind ++ close ∷ rest
    → text ≡ (blanks ++ written ++ behind) ++ close ∷ rest
last_parts text blanks word written left behind rest close e f g = rw (e, f, g) (simp append_assoc)

more_parts : (text blanks word written left behind others rest : List ℕ) (close : ℕ) → text ≡ blanks ++ word → word ≡ written ++ left → left ≡ behind ++ 44 ∷ (others ++ close ∷ rest)
    → text ≡ ((blanks ++ written ++ behind) ++ codes "," ++ others) ++ close ∷ rest
more_parts text blanks word written left behind others rest close e f g = rw (e, f, g) (simp append_assoc)

-- a value and what stands behind it
abbrev Joined : ℕ → List ℕ → List Place → List Value → List ℕ → Type 0
Joined close rest places all text = (inner : List ℕ) × (text ≡ inner ++ close ∷ rest) × AreTexts places all inner

joined : (close : ℕ) (rest : List ℕ) (p : Place) (places : List Place) (v : Value) (all : List Value) (text written left : List ℕ) → IsPlacedText p v written
    → without_blanks text ≡ written ++ left → Behind close rest places all left → Joined close rest (p ∷ places) (v ∷ all) text
joined close rest p [] v [] text written left i e b =
    let start = blanks_before text in (
      start.0 ++ written ++ b.0,
      last_parts text start.0 (without_blanks text) written left b.0 rest close start.1 e b.1,
      one_text p v (start.0 ++ written ++ b.0) (spaced_text p v start.0 written b.0 start.2 i b.2),
    )
joined close rest p [] v (w ∷ all) text written left i e b = absurd b
joined close rest p (q ∷ places) v [] text written left i e b = absurd b
joined close rest p (q ∷ places) v (w ∷ all) text written left i e b =
    let start = blanks_before text in (
      (start.0 ++ written ++ b.0) ++ codes "," ++ b.1,
      more_parts text start.0 (without_blanks text) written left b.0 b.1 rest close start.1 e b.2,
      more_texts p q places v w all (start.0 ++ written ++ b.0) b.1 (spaced_text p v start.0 written b.0 start.2 i b.3) b.4,
    )

-- the values behind others
others_told : (close : ℕ) (rest : List ℕ) (places : List Place) → AllByRecursion ToldPlace places → (u : Value) (before : List Value) (text : List ℕ) (all : List Value)
    → values_from close (u ∷ before) (map place_reader places) text ≡ Some (all, rest) → (more : List Value) × (all ≡ (u ∷ before) ++ more) × Behind close rest places more text
others_told close rest [] told u before text all h =
    let found = mapped_some {B = Pair} (λ (r : List ℕ). (u ∷ before, r)) (after_mark close text) (all, rest) h in
    let same : u ∷ before ≡ all = ap (λ (p : Pair). p.0) found.2 in
    let there : found.0 ≡ rest = ap (λ (p : Pair). p.1) found.2 in
    ([], sym same ∙ sym (append-nil (u ∷ before)), mark_told close text rest (found.1 ∙ ap (λ (l : List ℕ). Some l) there))
others_told close rest (p ∷ places) told u before text all h =
    let found = chained_some {B = Pair} (λ (q : Found). values_from close ((u ∷ before) ++ q.0 ∷ []) (map place_reader places) q.1) (option_and_then (λ (r : List ℕ). place_reader p (without_blanks r)) (after_mark 44 text)) (all, rest) h in
    let v = found.0.0 in
    let left = found.0.1 in
    let comma = chained_some {B = Found} (λ (r : List ℕ). place_reader p (without_blanks r)) (after_mark 44 text) (v, left) found.1 in
    let here = told.0 (without_blanks comma.0) left v comma.2 in
    let others = others_told close rest places told.1 u (before ++ v ∷ []) left all found.2 in
    let both = joined close rest p places v others.0 comma.0 here.0 left here.2 here.1 others.2 in
    let mark = mark_told 44 text comma.0 comma.1 in (
      v ∷ others.0,
      others.1 ∙ append_assoc (u ∷ before) (v ∷ []) others.0,
      (mark.0, both.0, mark.1 ∙ ap (λ (l : List ℕ). mark.0 ++ 44 ∷ l) both.1, mark.2, both.2),
    )

pub values_told : (close : ℕ) (rest : List ℕ) (places : List Place) → AllByRecursion ToldPlace places → (text : List ℕ) (all : List Value)
    → values_at close (map place_reader places) text ≡ Some (all, rest) → Joined close rest places all text
values_told close rest [] told text all h =
    let found = mapped_some {B = Pair} (λ (r : List ℕ). ([], r)) (after_mark close text) (all, rest) h in
    let same : [] ≡ all = ap (λ (p : Pair). p.0) found.2 in
    let there : found.0 ≡ rest = ap (λ (p : Pair). p.1) found.2 in
    let mark = mark_told close text rest (found.1 ∙ ap (λ (l : List ℕ). Some l) there) in
    (mark.0, mark.1, subst (λ (x : List Value). AreTexts [] x mark.0) same (no_texts mark.0 mark.2))
values_told close rest (p ∷ places) told text all h =
    let found = chained_some {B = Pair} (λ (q : Found). values_from close (q.0 ∷ []) (map place_reader places) q.1) (place_reader p (without_blanks text)) (all, rest) h in
    let v = found.0.0 in
    let left = found.0.1 in
    let here = told.0 (without_blanks text) left v found.1 in
    let others = others_told close rest places told.1 v [] left all found.2 in
    let both = joined close rest p places v others.0 text here.0 left here.2 here.1 others.2 in
    (both.0, both.1, subst (λ (x : List Value). AreTexts (p ∷ places) x both.0) (sym others.1) both.2)

-- The elements of a list.
abbrev places_of : ValType → List Value → List Place
places_of element all = map (λ (v : Value). bare element) all

elements_told : (element : ValType) → ToldPlace (bare element) → (n : ℕ) (before : List Value) (text rest : List ℕ) (all : List Value)
    → elements_from (reader element) n before text ≡ Some (all, rest)
    → (v : Value) × (more : List Value) × (all ≡ before ++ v ∷ more) × Joined 93 rest (places_of element (v ∷ more)) (v ∷ more) text
elements_told element told zero before text rest all h = cc
elements_told element told (suc n) before text rest all h =
    let found = chained_some {B = Pair} (λ (p : Found). closed_or (before ++ p.0 ∷ []) (after_mark 93 p.1) (option_and_then (λ (r : List ℕ). elements_from (reader element) n (before ++ p.0 ∷ []) r) (after_mark 44 p.1))) (reader element (without_blanks text)) (all, rest) h in
    let v = found.0.0 in
    let left = found.0.1 in
    let here = told (without_blanks text) left v found.1 in
    let others = option_and_then (λ (r : List ℕ). elements_from (reader element) n (before ++ v ∷ []) r) (after_mark 44 left) in
    elim (cases_Option (after_mark 93 left)) [
      | inl none ↦
          let goes : others ≡ Some (all, rest) = ap (λ (o : Option (List ℕ)). closed_or (before ++ v ∷ []) o others) (sym none) ∙ found.2 in
          let comma = chained_some {B = Pair} (λ (r : List ℕ). elements_from (reader element) n (before ++ v ∷ []) r) (after_mark 44 left) (all, rest) goes in
          let next = elements_told element told n (before ++ v ∷ []) comma.0 rest all comma.2 in
          let mark = mark_told 44 left comma.0 comma.1 in
          let behind : Behind 93 rest (places_of element (next.0 ∷ next.1)) (next.0 ∷ next.1) left =
          (mark.0, next.3.0, mark.1 ∙ ap (λ (l : List ℕ). mark.0 ++ 44 ∷ l) next.3.1, mark.2, next.3.2) in (
            v,
            next.0 ∷ next.1,
            next.2 ∙ append_assoc before (v ∷ []) (next.0 ∷ next.1),
            joined 93 rest (bare element) (places_of element (next.0 ∷ next.1)) v (next.0 ∷ next.1) text here.0 left here.2 here.1 behind,
          )
      | inr some ↦
          let closed : ◌≡◌ {A = Option Pair} (Some (before ++ v ∷ [], some.0)) (Some (all, rest)) = ap (λ (o : Option (List ℕ)). closed_or (before ++ v ∷ []) o others) (sym some.1) ∙ found.2 in
          let both = some_inj closed in
          let same : before ++ v ∷ [] ≡ all = ap (λ (p : Pair). p.0) both in
          let there : some.0 ≡ rest = ap (λ (p : Pair). p.1) both in
          let behind : Behind 93 rest [] [] left = mark_told 93 left rest (some.1 ∙ ap (λ (l : List ℕ). Some l) there) in
          (v, [], sym same, joined 93 rest (bare element) [] v [] text here.0 left here.2 here.1 behind)
    ]

abbrev Elements : ValType → List Value → List ℕ → List ℕ → Type 0
Elements element all text rest = (inner : List ℕ) × (text ≡ inner ++ 93 ∷ rest) × AreTexts (places_of element all) all inner × (AreBlanks inner → all ≡ [])

pub list_told : (element : ValType) → ToldPlace (bare element) → (text rest : List ℕ) (all : List Value) → elements_at (reader element) text ≡ Some (all, rest) → Elements element all text rest
list_told element told text rest all h =
    let others = elements_from (reader element) (length text) [] text in
    elim (cases_Option (after_mark 93 text)) [
      | inl none ↦
          let goes : others ≡ Some (all, rest) = ap (λ (o : Option (List ℕ)). closed_or [] o others) (sym none) ∙ h in
          let some = elements_told element told (length text) [] text rest all goes in
          let inner = some.3.0 in
          let open1 : after_mark 93 (inner ++ 93 ∷ rest) ≡ None = ap (after_mark 93) (sym some.3.1) ∙ none in
          (inner, some.3.1, subst (λ (x : List Value). AreTexts (places_of element x) x inner) (sym some.2) some.3.2, λ b. absurd (not_blank 93 inner rest refl open1 b))
      | inr some ↦
          let closed : ◌≡◌ {A = Option Pair} (Some ([], some.0)) (Some (all, rest)) = ap (λ (o : Option (List ℕ)). closed_or [] o others) (sym some.1) ∙ h in
          let both = some_inj closed in
          let same : [] ≡ all = ap (λ (p : Pair). p.0) both in
          let there : some.0 ≡ rest = ap (λ (p : Pair). p.1) both in
          let mark = mark_told 93 text rest (some.1 ∙ ap (λ (l : List ℕ). Some l) there) in
          (mark.0, mark.1, subst (λ (x : List Value). AreTexts (places_of element x) x mark.0) same (no_texts mark.0 mark.2), λ b. sym same)
    ]
