-- Flags are read exactly where they are written.
use Rattle.std.proofs.Common.{◌≡◌, ◌≢◌, ◌∙◌, ◌⊎◌, inl, inr, ℕ, List, [], ◌∷◌, ◌++◌, Bool, true, false, Option, Some, None, refl, sym, ap, subst, append_assoc, append-nil, arith}
use Rattle.std.specs.Option.{option_map, option_and_then}
use Rattle.std.proofs.lemmas.Bool.{cases_Bool}
use Rattle.std.proofs.lemmas.Slice.Eq.{bytes_eq-Decides}
use Rattle.syntax_trees.specs.ValueText.{set_labels}
use Rattle.value_reader.specs.Tokens.{ends_label, without_blanks, after, after_mark, label_of, behind_label, is_next, behind_next}
use Rattle.value_reader.specs.Values.{behind_flag, closed_or_more, flags_from, flags_within, flags_in}
use Rattle.value_reader.specs.Written.{AreBlanks, IsLabel, IsSpacedLabel, AreLabels, IsNotNext, AreFlags}
use Rattle.value_reader.proofs.Cases.{some_inj, branch_true, branch_false, chained_some, mapped_some, cases_Option, cases_List}
use Rattle.value_reader.proofs.Words.{after_told, after_byte}
use Rattle.value_reader.proofs.Marks.{Alike, Ends, blanks_passed, blanks_before, mark_told, mark_tells, mark_missing, mark_behind, same_mark, ends_blanks, ends_mark}
use Rattle.value_reader.proofs.LabelTexts.{label_is, label_and_rest, label_passed}
use Rattle.value_reader.proofs.Sequences.{Hides}
use Rattle.value_reader.proofs.Hiding.{Opens, opens_label, opens_both, hides_comma, not_blank}

-- A label with blanks around it.
spaced_parts : (l text tail before behind : List ℕ) → text ≡ before ++ l ++ behind → text ++ tail ≡ before ++ (l ++ (behind ++ tail))
spaced_parts l text tail before behind e = rw e (simp append_assoc)

spaced_label : (l text tail : List ℕ) → IsSpacedLabel l text → Ends tail
    → (label_of (without_blanks (text ++ tail)) ≡ l) × Alike (behind_label (without_blanks (text ++ tail))) tail
spaced_label l text tail i e =
    let more = i.1 ++ tail in
    let here : without_blanks (text ++ tail) ≡ without_blanks (l ++ more) = ap without_blanks (spaced_parts l text tail i.0 i.1 i.2) ∙ blanks_passed i.0 (l ++ more) i.3 in
    let passed = label_passed l more i.4 (ends_blanks i.1 tail i.5 e) in
    (ap label_of here ∙ passed.0, ap (λ (x : List ℕ). without_blanks (behind_label x)) here ∙ (passed.1 ∙ blanks_passed i.1 tail i.5))

is_next_true : (l text : List ℕ) → label_of (without_blanks text) ≡ l → is_next l text ≡ true
is_next_true l text e = (bytes_eq-Decides (label_of (without_blanks text)) l).1 e

is_next_false : (l text : List ℕ) → label_of (without_blanks text) ≢ l → is_next l text ≡ false
is_next_false l text e =
    elim (cases_Bool (is_next l text)) [
      | inl h ↦ absurd (e ((bytes_eq-Decides (label_of (without_blanks text)) l).0 h))
      | inr h ↦ h
    ]

-- what stands behind a flag
behind_closed : (x rest : List ℕ) → Alike x (125 ∷ rest) → behind_flag x ≡ Some (false, rest)
behind_closed x rest e = ap (λ (o : Option (List ℕ)). closed_or_more o (after_mark 44 x)) (mark_behind 125 x rest refl e)

behind_more : (x rest : List ℕ) → Alike x (44 ∷ rest) → behind_flag x ≡ Some (true, rest)
behind_more x rest e =
    let goes : after_mark 125 x ≡ None = same_mark 125 x (44 ∷ rest) e ∙ mark_missing 125 44 rest refl (λ e. absurd (omega (arith, e))) in
    ap (λ (o : Option (List ℕ)). closed_or_more o (after_mark 44 x)) goes
    ∙ ap (option_map (λ (rest : List ℕ). (true, rest))) (mark_behind 44 x rest refl e)

behind_told : (x left : List ℕ) (o : Bool) → behind_flag x ≡ Some (o, left)
    → ((o ≡ false) × (blanks : List ℕ) × (x ≡ blanks ++ 125 ∷ left) × AreBlanks blanks) ⊎ ((o ≡ true) × (blanks : List ℕ) × (x ≡ blanks ++ 44 ∷ left) × AreBlanks blanks)
behind_told x left o h =
    elim (cases_Option (after_mark 125 x)) [
      | inl none ↦
          let more : option_map (λ (rest : List ℕ). (true, rest)) (after_mark 44 x) ≡ Some (o, left) =
          ap (λ (m : Option (List ℕ)). closed_or_more m (after_mark 44 x)) (sym none) ∙ h in
          let found = mapped_some (λ (rest : List ℕ). (true, rest)) (after_mark 44 x) (o, left) more in
          let is : true ≡ o = ap (λ (p : Bool × List ℕ). p.0) found.2 in
          let there : found.0 ≡ left = ap (λ (p : Bool × List ℕ). p.1) found.2 in
          let told = mark_told 44 x left (found.1 ∙ ap (λ (l : List ℕ). Some l) there) in
          inr (sym is, told.0, told.1, told.2)
      | inr some ↦
          let closed : ◌≡◌ {A = Option (Bool × List ℕ)} (Some (false, some.0)) (Some (o, left)) =
          ap (λ (m : Option (List ℕ)). closed_or_more m (after_mark 44 x)) (sym some.1) ∙ h in
          let both = some_inj closed in
          let is : false ≡ o = ap (λ (p : Bool × List ℕ). p.0) both in
          let there : some.0 ≡ left = ap (λ (p : Bool × List ℕ). p.1) both in
          let told = mark_told 125 x left (some.1 ∙ ap (λ (l : List ℕ). Some l) there) in
          inl (sym is, told.0, told.1, told.2)
    ]

-- one flag that is set, and one that is not
set_next : (l : List ℕ) (labels : List (List ℕ)) (before : List Bool) (text left : List ℕ) (o : Bool) → is_next l text ≡ true → behind_flag (behind_next text) ≡ Some (o, left)
    → flags_from true before (l ∷ labels) text ≡ flags_from o (before ++ true ∷ []) labels left
set_next l labels before text left o h k = rw (h, k) refl

unset_next : (l : List ℕ) (labels : List (List ℕ)) (before : List Bool) (text : List ℕ) → is_next l text ≡ false
    → flags_from true before (l ∷ labels) text ≡ flags_from true (before ++ false ∷ []) labels text
unset_next l labels before text h = rw h refl

-- Flags that are written are read.
closed_tell : (labels : List (List ℕ)) (flags before : List Bool) (rest : List ℕ) → AreFlags labels flags → set_labels labels flags ≡ []
    → flags_from false before labels rest ≡ Some (before ++ flags, rest)
closed_tell [] [] before rest a e = ap (λ (l : List Bool). Some (l, rest)) (sym (append-nil before))
closed_tell [] (f ∷ flags) before rest a e = absurd a
closed_tell (l ∷ labels) [] before rest a e = absurd a
closed_tell (l ∷ labels) (true ∷ flags) before rest a e = cc
closed_tell (l ∷ labels) (false ∷ flags) before rest a e =
    closed_tell labels flags (before ++ false ∷ []) rest a.1 e ∙ ap (λ (l : List Bool). Some (l, rest)) (append_assoc before (false ∷ []) flags)

more_parts : (first others text rest : List ℕ) → text ≡ first ++ (44 ∷ []) ++ others → text ++ 125 ∷ rest ≡ first ++ (44 ∷ (others ++ 125 ∷ rest))
more_parts first others text rest e = rw e (simp append_assoc)

-- the first label of a text
labels_front : (m : List ℕ) (ms : List (List ℕ)) (text rest : List ℕ) → AreLabels (m ∷ ms) text → label_of (without_blanks (text ++ 125 ∷ rest)) ≡ m
labels_front m [] text rest i = (spaced_label m text (125 ∷ rest) i (ends_mark 125 rest refl refl)).0
labels_front m (n ∷ ms) text rest i =
    let more = i.1 ++ 125 ∷ rest in
    ap (λ (l : List ℕ). label_of (without_blanks l)) (more_parts i.0 i.1 text rest i.2)
    ∙ (spaced_label m i.0 (44 ∷ more) i.3 (ends_mark 44 more refl refl)).0

open_tell : (labels : List (List ℕ)) (flags before : List Bool) (m : List ℕ) (ms : List (List ℕ)) (text rest : List ℕ) → AreFlags labels flags
    → set_labels labels flags ≡ m ∷ ms → AreLabels (m ∷ ms) text → flags_from true before labels (text ++ 125 ∷ rest) ≡ Some (before ++ flags, rest)
open_tell [] [] before m ms text rest a e i = cc
open_tell [] (f ∷ flags) before m ms text rest a e i = absurd a
open_tell (l ∷ labels) [] before m ms text rest a e i = absurd a
open_tell (l ∷ labels) (true ∷ flags) before m ms text rest a e i =
    let first : l ≡ m = ap (λ (x : List (List ℕ)). elim x [ [] ↦ l | y ∷ ys ↦ y ]) e in
    let others : set_labels labels flags ≡ ms = ap (λ (x : List (List ℕ)). elim x [ [] ↦ ms | y ∷ ys ↦ ys ]) e in
    elim (cases_List ms) [
      | inl none ↦
          let here : IsSpacedLabel m text = subst (λ (x : List (List ℕ)). AreLabels (m ∷ x) text) none i in
          let spaced = spaced_label m text (125 ∷ rest) here (ends_mark 125 rest refl refl) in
          set_next l labels before (text ++ 125 ∷ rest) rest false (is_next_true l (text ++ 125 ∷ rest) (spaced.0 ∙ sym first)) (behind_closed (behind_next (text ++ 125 ∷ rest)) rest spaced.1)
          ∙ closed_tell labels flags (before ++ true ∷ []) rest a (others ∙ none)
          ∙ ap (λ (l : List Bool). Some (l, rest)) (append_assoc before (true ∷ []) flags)
      | inr some ↦
          let both : AreLabels (m ∷ some.0 ∷ some.1) text = subst (λ (x : List (List ℕ)). AreLabels (m ∷ x) text) some.2 i in
          let more = both.1 ++ 125 ∷ rest in
          let spaced = spaced_label m both.0 (44 ∷ more) both.3 (ends_mark 44 more refl refl) in
          ap (λ (x : List ℕ). flags_from true before (l ∷ labels) x) (more_parts both.0 both.1 text rest both.2)
          ∙ set_next l labels before (both.0 ++ (44 ∷ more)) more true (is_next_true l (both.0 ++ (44 ∷ more)) (spaced.0 ∙ sym first)) (behind_more (behind_next (both.0 ++ (44 ∷ more))) more spaced.1)
          ∙ open_tell labels flags (before ++ true ∷ []) some.0 some.1 both.1 rest a (others ∙ some.2) both.4
          ∙ ap (λ (l : List Bool). Some (l, rest)) (append_assoc before (true ∷ []) flags)
    ]
open_tell (l ∷ labels) (false ∷ flags) before m ms text rest a e i =
    let other : l ≢ m = subst (λ (x : List (List ℕ)). IsNotNext l x) e a.0 in
    let front = labels_front m ms text rest i in
    unset_next l labels before (text ++ 125 ∷ rest) (is_next_false l (text ++ 125 ∷ rest) (λ h. other (sym h ∙ front)))
    ∙ open_tell labels flags (before ++ false ∷ []) m ms text rest a.1 e i
    ∙ ap (λ (l : List Bool). Some (l, rest)) (append_assoc before (false ∷ []) flags)

spaced_opens : (mark : ℕ) (l text : List ℕ) → ends_label mark ≡ true → IsSpacedLabel l text → Opens mark text
spaced_opens mark l text e i =
    subst (λ (x : List ℕ). Opens mark x) (sym i.2) (opens_both mark (i.0 ++ l) i.1 (opens_both mark i.0 l (inr i.3) (opens_label mark l e i.4)) (inr i.5))

labels_open : (labels : List (List ℕ)) (text : List ℕ) → AreLabels labels text → Opens 125 text
labels_open [] text i = inr i
labels_open (l ∷ []) text i = spaced_opens 125 l text refl i
labels_open (l ∷ m ∷ labels) text i =
    let comma : text ≡ i.0 ++ 44 ∷ i.1 = i.2 ∙ append_assoc i.0 (44 ∷ []) i.1 in
    inl (subst (λ (x : List ℕ). Hides 125 x) (sym comma) (hides_comma 125 i.0 i.1 (λ e. absurd (omega (arith, e))) (spaced_opens 125 l i.0 refl i.3)))

flags_begin : (labels : List (List ℕ)) (inner : List ℕ) (o : Option (List ℕ)) → after_mark 125 inner ≡ o → flags_in labels (123 ∷ inner) ≡ flags_within labels inner o
flags_begin labels inner o h =
    ap (option_and_then (λ (l : List ℕ). flags_within labels l (after_mark 125 l))) (after_byte 123 inner) ∙ ap (flags_within labels inner) h

flags_tell_open : (labels : List (List ℕ)) (flags : List Bool) (m : List ℕ) (ms : List (List ℕ)) (text rest : List ℕ) → AreFlags labels flags → set_labels labels flags ≡ m ∷ ms
    → AreLabels (set_labels labels flags) text → (AreBlanks text → set_labels labels flags ≡ []) → Opens 125 text → flags_in labels (123 ∷ (text ++ 125 ∷ rest)) ≡ Some (flags, rest)
flags_tell_open labels flags m ms text rest a e i f (inl h) =
    flags_begin labels (text ++ 125 ∷ rest) None (h (125 ∷ rest)) ∙ open_tell labels flags [] m ms text rest a e (subst (λ (x : List (List ℕ)). AreLabels x text) e i)
flags_tell_open labels flags m ms text rest a e i f (inr b) =
    let none = f b in
    cc

pub flags_tell : (labels : List (List ℕ)) (flags : List Bool) (text rest : List ℕ) → AreFlags labels flags → AreLabels (set_labels labels flags) text
    → (AreBlanks text → set_labels labels flags ≡ []) → flags_in labels (123 ∷ (text ++ 125 ∷ rest)) ≡ Some (flags, rest)
flags_tell labels flags text rest a i f =
    elim (cases_List (set_labels labels flags)) [
      | inl none ↦
          let blanks : AreBlanks text = subst (λ (x : List (List ℕ)). AreLabels x text) none i in
          flags_begin labels (text ++ 125 ∷ rest) (Some rest) (mark_tells 125 text rest refl blanks) ∙ closed_tell labels flags [] rest a none
      | inr some ↦ flags_tell_open labels flags some.0 some.1 text rest a some.2 i f (labels_open (set_labels labels flags) text i)
    ]

-- What is read are flags.
not_next : (l : List ℕ) (labels : List (List ℕ)) → labels ≡ [] → IsNotNext l labels
not_next l labels e = subst (λ (x : List (List ℕ)). IsNotNext l x) (sym e) tt

closed_told : (labels : List (List ℕ)) (before all : List Bool) (text rest : List ℕ) → flags_from false before labels text ≡ Some (all, rest)
    → (flags : List Bool) × (all ≡ before ++ flags) × (text ≡ rest) × AreFlags labels flags × (set_labels labels flags ≡ [])
closed_told [] before all text rest h =
    let both = some_inj h in
    ([], sym (ap (λ (p : List Bool × List ℕ). p.0) both) ∙ sym (append-nil before), ap (λ (p : List Bool × List ℕ). p.1) both, tt, refl)
closed_told (l ∷ labels) before all text rest h =
    let told = closed_told labels (before ++ false ∷ []) all text rest h in
    (false ∷ told.0, told.1 ∙ append_assoc before (false ∷ []) told.0, told.2, (not_next l (set_labels labels told.0) told.4, told.3), told.4)

abbrev OpenFlags : List (List ℕ) → List Bool → List Bool → List ℕ → List ℕ → Type 0
OpenFlags labels before all text rest =
    (flags : List Bool) × (inner : List ℕ) × (all ≡ before ++ flags) × (text ≡ inner ++ 125 ∷ rest) × AreFlags labels flags
    × AreLabels (set_labels labels flags) inner × (m : List ℕ) × (ms : List (List ℕ)) × (set_labels labels flags ≡ m ∷ ms)

flag_parts : (text blanks word rest l between left : List ℕ) (mark : ℕ) → text ≡ blanks ++ word → word ≡ l ++ rest → rest ≡ between ++ mark ∷ left
    → text ≡ (blanks ++ l ++ between) ++ mark ∷ left
flag_parts text blanks word rest l between left mark e f g = rw (e, f, g) (simp append_assoc)

flag_joined : (text first inner left rest : List ℕ) → text ≡ first ++ 44 ∷ left → left ≡ inner ++ 125 ∷ rest → text ≡ (first ++ (44 ∷ []) ++ inner) ++ 125 ∷ rest
flag_joined text first inner left rest e f = rw (e, f) (simp append_assoc)

open_told : (labels : List (List ℕ)) (before all : List Bool) (text rest : List ℕ) → flags_from true before labels text ≡ Some (all, rest) → OpenFlags labels before all text rest
open_told [] before all text rest h = cc
open_told (l ∷ labels) before all text rest h =
    elim (cases_Bool (is_next l text)) [
      | inl next ↦
          let chosen = branch_true (is_next l text) (option_and_then (λ (p : Bool × List ℕ). flags_from p.0 (before ++ true ∷ []) labels p.1) (behind_flag (behind_next text))) (flags_from true (before ++ false ∷ []) labels text) (Some (all, rest)) next h in
          let found = chained_some (λ (p : Bool × List ℕ). flags_from p.0 (before ++ true ∷ []) labels p.1) (behind_flag (behind_next text)) (all, rest) chosen in
          let o = found.0.0 in
          let left = found.0.1 in
          let start = blanks_before text in
          let word = without_blanks text in
          let is : label_of word ≡ l = (bytes_eq-Decides (label_of word) l).0 next in
          let parted : word ≡ l ++ behind_next text = label_and_rest word ∙ ap (λ (x : List ℕ). x ++ behind_next text) is in
          let label : IsLabel l = subst IsLabel is (label_is word) in
          elim (behind_told (behind_next text) left o found.1) [
            | inl w ↦
                let told = closed_told labels (before ++ true ∷ []) all left rest (subst (λ (b : Bool). flags_from b (before ++ true ∷ []) labels left ≡ Some (all, rest)) w.0 found.2) in
                let spaced = start.0 ++ l ++ w.1 in
                let here : IsSpacedLabel l spaced = (start.0, w.1, refl, start.2, label, w.3) in (
                  true ∷ told.0,
                  spaced,
                  told.1 ∙ append_assoc before (true ∷ []) told.0,
                  flag_parts text start.0 word (behind_next text) l w.1 left 125 start.1 parted w.2 ∙ ap (λ (x : List ℕ). spaced ++ 125 ∷ x) told.2,
                  told.3,
                  subst (λ (x : List (List ℕ)). AreLabels (l ∷ x) spaced) (sym told.4) here,
                  l,
                  set_labels labels told.0,
                  refl,
                )
            | inr w ↦
                let told = open_told labels (before ++ true ∷ []) all left rest (subst (λ (b : Bool). flags_from b (before ++ true ∷ []) labels left ≡ Some (all, rest)) w.0 found.2) in
                let spaced = start.0 ++ l ++ w.1 in
                let here : IsSpacedLabel l spaced = (start.0, w.1, refl, start.2, label, w.3) in
                let others : AreLabels (told.6 ∷ told.7) told.1 = subst (λ (x : List (List ℕ)). AreLabels x told.1) told.8 told.5 in
                let all_labels : AreLabels (l ∷ told.6 ∷ told.7) (spaced ++ (44 ∷ []) ++ told.1) = (spaced, told.1, refl, here, others) in (
                  true ∷ told.0,
                  spaced ++ (44 ∷ []) ++ told.1,
                  told.2 ∙ append_assoc before (true ∷ []) told.0,
                  flag_joined text spaced told.1 left rest (flag_parts text start.0 word (behind_next text) l w.1 left 44 start.1 parted w.2) told.3,
                  told.4,
                  subst (λ (x : List (List ℕ)). AreLabels (l ∷ x) (spaced ++ (44 ∷ []) ++ told.1)) (sym told.8) all_labels,
                  l,
                  set_labels labels told.0,
                  refl,
                )
          ]
      | inr other ↦
          let chosen = branch_false (is_next l text) (option_and_then (λ (p : Bool × List ℕ). flags_from p.0 (before ++ true ∷ []) labels p.1) (behind_flag (behind_next text))) (flags_from true (before ++ false ∷ []) labels text) (Some (all, rest)) other h in
          let told = open_told labels (before ++ false ∷ []) all text rest chosen in
          let others : AreLabels (told.6 ∷ told.7) told.1 = subst (λ (x : List (List ℕ)). AreLabels x told.1) told.8 told.5 in
          let front : label_of (without_blanks text) ≡ told.6 = ap (λ (x : List ℕ). label_of (without_blanks x)) told.3 ∙ labels_front told.6 told.7 told.1 rest others in
          let differs : l ≢ told.6 = λ e. (let next = is_next_true l text (front ∙ sym e) in cc) in (
            false ∷ told.0,
            told.1,
            told.2 ∙ append_assoc before (false ∷ []) told.0,
            told.3,
            (subst (λ (x : List (List ℕ)). IsNotNext l x) (sym told.8) differs, told.4),
            told.5,
            told.6,
            told.7,
            told.8,
          )
    ]

abbrev Flags : List (List ℕ) → List Bool → List ℕ → List ℕ → Type 0
Flags labels flags text rest =
    (inner : List ℕ) × (text ≡ 123 ∷ (inner ++ 125 ∷ rest)) × AreFlags labels flags × AreLabels (set_labels labels flags) inner × (AreBlanks inner → set_labels labels flags ≡ [])

flags_told_by : (labels : List (List ℕ)) (flags : List Bool) (inner rest : List ℕ) (o : Option (List ℕ)) → after_mark 125 inner ≡ o → flags_within labels inner o ≡ Some (flags, rest)
    → Flags labels flags (123 ∷ inner) rest
flags_told_by labels flags inner rest (Some left) e h =
    let told = closed_told labels [] flags left rest h in
    let mark = mark_told 125 inner left e in
    let same : told.0 ≡ flags = sym told.1 in
    let none : set_labels labels flags ≡ [] = subst (λ (x : List Bool). set_labels labels x ≡ []) same told.4 in (
      mark.0,
      ap (λ (l : List ℕ). 123 ∷ l) (mark.1 ∙ ap (λ (l : List ℕ). mark.0 ++ 125 ∷ l) told.2),
      subst (λ (x : List Bool). AreFlags labels x) same told.3,
      subst (λ (x : List (List ℕ)). AreLabels x mark.0) (sym none) mark.2,
      λ b. none,
    )
flags_told_by labels flags inner rest None e h =
    let told = open_told labels [] flags inner rest h in
    let same : told.0 ≡ flags = sym told.2 in
    let goes : after_mark 125 (told.1 ++ 125 ∷ rest) ≡ None = ap (after_mark 125) (sym told.3) ∙ e in (
      told.1,
      ap (λ (l : List ℕ). 123 ∷ l) told.3,
      subst (λ (x : List Bool). AreFlags labels x) same told.4,
      subst (λ (x : List Bool). AreLabels (set_labels labels x) told.1) same told.5,
      λ b. absurd (not_blank 125 told.1 rest refl goes b),
    )

pub flags_told : (labels : List (List ℕ)) (flags : List Bool) (text rest : List ℕ) → flags_in labels text ≡ Some (flags, rest) → Flags labels flags text rest
flags_told labels flags text rest h =
    let found = chained_some (λ (inner : List ℕ). flags_within labels inner (after_mark 125 inner)) (after (123 ∷ []) text) (flags, rest) h in
    let begins : text ≡ 123 ∷ found.0 = after_told (123 ∷ []) text found.0 found.1 in
    subst (λ (l : List ℕ). Flags labels flags l rest) (sym begins) (flags_told_by labels flags found.0 rest (after_mark 125 found.0) refl found.2)
