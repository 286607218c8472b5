-- Picks are numbers with one space between two.
use Rattle.std.proofs.Common.{◌≡◌, ◌≢◌, ◌↔◌, inl, inr, ℕ, List, [], ◌∷◌, ◌++◌, true, Option, Some, None, option_map, Ok, Err, refl, sym, ap, ◌∙◌, subst}
use Rattle.std.specs.List.{AllByRecursion}
use Rattle.std.proofs.lemmas.Bool.{cond-true}
use Rattle.std.proofs.lemmas.List.{append-nil, append_assoc}
use Rattle.script_reader.specs.declared.fault.ScriptWhy.{ScriptWhy}
use Rattle.script_reader.specs.declared.fault.ScriptWhy.TheVariants as why
use Rattle.script_reader.specs.Script.{is_digit, is_number, number_up_to, pick_limit, pick_of, pick_before, all_picks, picks_or, picks_of}
use Rattle.script_reader.specs.Syntax.{IsPick, ArePaired, ArePicksOf}
use Rattle.script_reader.proofs.Cases.{ok_inj, err_inj, some_inj, passed_some, cases_Option}
use Rattle.script_reader.proofs.Fronts.{Pass}
use Rattle.script_reader.proofs.Numbers.{digits_told, digits_tell, up_to_told, up_to_tell}
use Rattle.script_reader.proofs.Parted.{IsOnePart, parts, parts_told, parts_tell}

-- one pick
pick_told : (text : List ℕ) (n : ℕ) → pick_of text ≡ Some n → IsPick text n
pick_told text n h =
    let both = passed_some (is_number text) (number_up_to pick_limit text) n h in
    let small = up_to_told pick_limit n text both.1 in
    let is = digits_told text both.0 in
    ((is.0, is.1, small.0), small.1)

pick_tells : (text : List ℕ) (n : ℕ) → IsPick text n → pick_of text ≡ Some n
pick_tells text n i =
    cond-true (is_number text) (number_up_to pick_limit text) None (digits_tell text n i.0) ∙ up_to_tell pick_limit n text i.0.2 i.1

-- picks one behind the other
before_told : (o : Option ℕ) (others : Option (List ℕ)) (picks : List ℕ) → pick_before o others ≡ Some picks
    → (n : ℕ) × (more : List ℕ) × (o ≡ Some n) × (others ≡ Some more) × (picks ≡ n ∷ more)
before_told None others picks h = cc
before_told (Some n) None picks h = cc
before_told (Some n) (Some more) picks h = (n, more, refl, refl, sym (some_inj h))

all_told : (texts : List (List ℕ)) (picks : List ℕ) → all_picks texts ≡ Some picks → ArePaired IsPick texts picks
all_told [] picks h = subst (λ (l : List ℕ). ArePaired IsPick [] l) (some_inj h) tt
all_told (text ∷ texts) picks h =
    let first = before_told (pick_of text) (all_picks texts) picks h in
    subst (λ (l : List ℕ). ArePaired IsPick (text ∷ texts) l) (sym first.4) (pick_told text first.0 first.2, all_told texts first.1 first.3)

all_tell : (texts : List (List ℕ)) (picks : List ℕ) → ArePaired IsPick texts picks → all_picks texts ≡ Some picks
all_tell [] [] i = refl
all_tell [] (n ∷ picks) i = absurd i
all_tell (text ∷ texts) [] i = absurd i
all_tell (text ∷ texts) (n ∷ picks) i = rw (pick_tells text n i.0, all_tell texts picks i.1) refl

-- no space stands in a number
no_space : (text : List ℕ) → Pass is_digit text → IsOnePart 32 text
no_space [] a = tt
no_space (b ∷ text) a =
    let other : b ≢ 32 = λ e. (let digit : is_digit 32 ≡ true = subst (λ (c : ℕ). is_digit c ≡ true) e a.0 in cc) in
    (other, no_space text a.1)

no_spaces : (texts : List (List ℕ)) (picks : List ℕ) → ArePaired IsPick texts picks → AllByRecursion (IsOnePart 32) texts
no_spaces [] picks i = tt
no_spaces (text ∷ texts) [] i = absurd i
no_spaces (text ∷ texts) (n ∷ picks) i = (no_space text i.0.0.1, no_spaces texts picks i.1)

-- the picks of a line
or_told : (o : Option (List ℕ)) (picks : List ℕ) → picks_or o ≡ Ok picks → o ≡ Some picks
or_told None picks h = cc
or_told (Some other) picks h = ap (λ (l : List ℕ). Some l) (ok_inj h)

picks_told : (text picks : List ℕ) → picks_of text ≡ Ok picks → ArePicksOf text picks
picks_told text picks h =
    let parted = parts_told 32 text in
    (parts 32 text, parted.0, parted.1, all_told (parts 32 text) picks (or_told (all_picks (parts 32 text)) picks h))

picks_tell : (text picks : List ℕ) → ArePicksOf text picks → picks_of text ≡ Ok picks
picks_tell text picks i =
    let same : parts 32 text ≡ i.0 = parts_tell 32 text i.0 (i.1, i.2, no_spaces i.0 picks i.3) in
    ap (λ (l : List (List ℕ)). picks_or (all_picks l)) same ∙ ap picks_or (all_tell i.0 picks i.3)

pub picks_are_a_line : (text picks : List ℕ) → (picks_of text ≡ Ok picks) ↔ ArePicksOf text picks
picks_are_a_line text picks = (λ h. picks_told text picks h, λ i. picks_tell text picks i)

behind : (picks : List ℕ) (n : ℕ) (o : Option (List ℕ)) → option_map (λ (more : List ℕ). picks ++ more) (pick_before (Some n) o) ≡ option_map (λ (more : List ℕ). (picks ++ n ∷ []) ++ more) o
behind picks n None = refl
behind picks n (Some more) = ap (λ (l : List ℕ). Some l) (sym (append_assoc picks (n ∷ []) more))

-- parts that are read one after the other, behind picks
pub all_read : (text picks : List ℕ) (texts : List (List ℕ)) → all_picks (parts 32 text) ≡ option_map (λ (more : List ℕ). picks ++ more) (all_picks texts) → texts ≡ [] → picks_of text ≡ Ok picks
all_read text picks texts same none =
    ap picks_or (same ∙ ap (λ (l : List (List ℕ)). option_map (λ (more : List ℕ). picks ++ more) (all_picks l)) none) ∙ ap (λ (l : List ℕ). picks_or (Some l)) (append-nil picks)

pub one_read : (text picks : List ℕ) (texts : List (List ℕ)) (first : List ℕ) (others : List (List ℕ)) (n : ℕ)
    → all_picks (parts 32 text) ≡ option_map (λ (more : List ℕ). picks ++ more) (all_picks texts) → texts ≡ first ∷ others → pick_of first ≡ Some n
    → all_picks (parts 32 text) ≡ option_map (λ (more : List ℕ). (picks ++ n ∷ []) ++ more) (all_picks others)
one_read text picks texts first others n same e h =
    same ∙ (ap (λ (l : List (List ℕ)). option_map (λ (more : List ℕ). picks ++ more) (all_picks l)) e
    ∙ (ap (λ (o : Option ℕ). option_map (λ (more : List ℕ). picks ++ more) (pick_before o (all_picks others))) h ∙ behind picks n (all_picks others)))

pub one_refused : (text picks : List ℕ) (texts : List (List ℕ)) (first : List ℕ) (others : List (List ℕ))
    → all_picks (parts 32 text) ≡ option_map (λ (more : List ℕ). picks ++ more) (all_picks texts) → texts ≡ first ∷ others → pick_of first ≡ None
    → picks_of text ≡ Err why.Form
one_refused text picks texts first others same e h =
    let none : all_picks (parts 32 text) ≡ None =
    same ∙ (ap (λ (l : List (List ℕ)). option_map (λ (more : List ℕ). picks ++ more) (all_picks l)) e
    ∙ ap (λ (o : Option ℕ). option_map (λ (more : List ℕ). picks ++ more) (pick_before o (all_picks others))) h) in
    ap picks_or none

-- a text that is refused
or_refused : (o : Option (List ℕ)) (w : ScriptWhy) → picks_or o ≡ Err w → (w ≡ why.Form) × (o ≡ None)
or_refused None w h = (sym (err_inj h), refl)
or_refused (Some picks) w h = cc

picks_refused : (text : List ℕ) (w : ScriptWhy) → picks_of text ≡ Err w → (w ≡ why.Form) × ((picks : List ℕ) → ArePicksOf text picks → ⊥)
picks_refused text w h =
    let both = or_refused (all_picks (parts 32 text)) w h in
    (both.0, λ picks i. (let read : picks_of text ≡ Ok picks = picks_tell text picks i in let other = h in cc))

refuses_picks : (text : List ℕ) (w : ScriptWhy) → w ≡ why.Form → ((picks : List ℕ) → ArePicksOf text picks → ⊥) → picks_of text ≡ Err w
refuses_picks text w e never =
    elim (cases_Option (all_picks (parts 32 text))) [
      | inl none ↦ ap picks_or none ∙ ap (λ (v : ScriptWhy). Err v) (sym e)
      | inr some ↦ absurd (never some.0 (picks_told text some.0 (ap picks_or some.1)))
    ]

pub other_picks_are_refused : (text : List ℕ) (w : ScriptWhy) → (picks_of text ≡ Err w) ↔ ((w ≡ why.Form) × ((picks : List ℕ) → ArePicksOf text picks → ⊥))
other_picks_are_refused text w = (λ h. picks_refused text w h, λ i. refuses_picks text w i.0 i.1)
