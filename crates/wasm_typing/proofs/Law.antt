-- The check finds exactly the first fault.
use Rattle.std.proofs.Common.{◌≡◌, ◌<◌, ℕ, zero, suc, Bool, true, false, List, [], ◌∷◌, ◌++◌, length, replicate, refl, ap, ap₂, sym, ◌∙◌, subst, Some, None, Option, inl, inr, arith, nat_lt, length-append}
use Rattle.std.specs.Prelude.{◌⊎◌, ◌||◌}
use Rattle.std.proofs.lemmas.Bool.Decides.{nat_tests}
use Rattle.std.proofs.lemmas.List.{length-replicate}
use Rattle.syntax_trees.specs.declared.module_types.ValType.{ValType}
use Rattle.syntax_trees.specs.declared.instr.Op.{Op}
use Rattle.wasm_typing.specs.declared.why.ValidWhy.{ValidWhy}
use Rattle.wasm_typing.specs.declared.why.ValidWhy.TheVariants.{Index, Label, Align, Stack, Typing, Name, Limit}
use Rattle.wasm_typing.specs.declared.fault.PartFault.{PartFault}
use Rattle.wasm_typing.specs.Context.{Context}
use Rattle.wasm_typing.specs.Typing.{Operands}
use Rattle.wasm_typing.specs.Faults.{Frame, frame, labels_of, ends_of, Passes, Behind, ReachFrom, bad_index, bad_label, misaligned, need, TooShort, ends_short, second_of, Lacks, WhyIs, StopsFrom}
use Rattle.wasm_typing.specs.Checking.{Control, labels_in, ends_in, step, short_of, too_short, second_in, lacks, why_by, why_of, part_fault, later, fault_on, first_fault}
use Rattle.wasm_typing.proofs.Knowing.{Fits, fits_own, same_length, fits_any}
use Rattle.wasm_typing.proofs.Steps.{FitsAll, FitsOpt, same_labels, same_ends, some_all, step_down, step_up}

-- Where the operands that are known are too few, all are; and where not, some are enough.
lt_is : (m n : ℕ) → nat_lt m n ≡ true → m < n
lt_is m n h = grind (arith, nat_tests)

lt_not : (m n : ℕ) → nat_lt m n ≡ false → m < n → ⊥
lt_not m n h k = grind (arith, nat_tests)

short_all_in : (n : ℕ) (any : Bool) (types os : Operands) → Fits types any os → short_of n any types ≡ true → length os < n
short_all_in n true types os fit h = cc
short_all_in n false types os fit h = rw (same_length types os fit) (lt_is (length types) n h)

short_all : (n : ℕ) (cs : List Control) (fs : List Frame) → FitsAll cs fs → too_short n cs ≡ true → TooShort n fs
short_all n [] fs fit h = cc
short_all n (c ∷ cs) [] fit h = absurd fit
short_all n (c ∷ cs) (f ∷ fs) fit h = short_all_in n c.known.any c.known.types f.operands fit.2 h

long_some_in : (n : ℕ) (any : Bool) (types : Operands) → short_of n any types ≡ false → (os : Operands) × Fits types any os × (length os < n → ⊥)
long_some_in n true types h =
    let bottom : Option ValType = None in
    (types ++ replicate n bottom, fits_any types (replicate n bottom), λ k. omega (arith, length-append types (replicate n bottom), length-replicate n bottom))
long_some_in n false types h = (types, fits_own types, lt_not (length types) n h)

long_some : (n : ℕ) (cs : List Control) → too_short n cs ≡ false → (fs : List Frame) × FitsAll cs fs × (TooShort n fs → ⊥)
long_some n [] h = ([], tt, λ k. k)
long_some n (c ∷ cs) h =
    let p = long_some_in n c.known.any c.known.types h in
    let q = some_all cs in
    (frame c.kind c.type p.0 ∷ q.0, (refl, refl, p.1, q.1), p.2)

-- a test is not both
not_both : {A : Type 0} (b : Bool) → b ≡ true → b ≡ false → A
not_both b h k = let n : true ≡ false = sym h ∙ k in cc

-- These are all that fit.
pub record Are (cs : List Control) (S : List Frame → Type 0) : Type 0 where
  pub to : (fs : List Frame) → S fs → FitsAll cs fs
  pub from : (fs : List Frame) → FitsAll cs fs → S fs

same_need : (x : Context) (op : Op) (cs : List Control) (fs : List Frame) → FitsAll cs fs → need x (labels_of x fs) (ends_of x fs) op ≡ need x (labels_in x cs) (ends_in x cs) op
same_need x op cs fs h = ap₂ (λ (ls : List (List ValType)) (ends : List ValType). need x ls ends op) (same_labels x cs fs h) (same_ends x cs fs h)

label_same : (x : Context) (op : Op) (cs : List Control) (fs : List Frame) (b : Bool) → FitsAll cs fs → bad_label (labels_in x cs) op ≡ b → bad_label (labels_of x fs) op ≡ b
label_same x op cs fs b h e = ap (λ (ls : List (List ValType)). bad_label ls op) (same_labels x cs fs h) ∙ e

same_second : (x : Context) (op : Op) (cs : List Control) (fs : List Frame) → FitsAll cs fs → second_of x op fs ≡ second_in x op cs
same_second x op [] [] h = refl
same_second x op [] (f ∷ fs) h = absurd h
same_second x op (c ∷ cs) [] h = absurd h
same_second x op (c ∷ cs) (f ∷ fs) h = ap₂ (ends_short x op) h.0 h.1

or_one : (a b : Bool) → (a || b) ≡ true → (a ≡ true) ⊎ (b ≡ true)
or_one true b h = inl refl
or_one false b h = inr h

or_neither : (a b : Bool) → (a || b) ≡ false → (a ≡ false) × (b ≡ false)
or_neither true b h = cc
or_neither false b h = (refl, h)

lacks_all : (x : Context) (op : Op) (cs : List Control) (fs : List Frame) → FitsAll cs fs → lacks x op cs ≡ true → Lacks x op fs
lacks_all x op cs fs h e =
    let n : ℕ = need x (labels_in x cs) (ends_in x cs) op in
    elim (or_one (too_short n cs) (second_in x op cs) e) [
      | inl a ↦ inl (subst (λ (n : ℕ). TooShort n fs) (sym (same_need x op cs fs h)) (short_all n cs fs h a))
      | inr b ↦ inr (same_second x op cs fs h ∙ b)
    ]

-- some lack none
lacks_none : (x : Context) (op : Op) (cs : List Control) → lacks x op cs ≡ false → (fs : List Frame) × FitsAll cs fs × (Lacks x op fs → ⊥)
lacks_none x op cs e =
    let n : ℕ = need x (labels_in x cs) (ends_in x cs) op in
    let both = or_neither (too_short n cs) (second_in x op cs) e in
    let p = long_some n cs both.0 in (
      p.0,
      p.1,
      λ l. elim l [
        | inl a ↦ p.2 (subst (λ (n : ℕ). TooShort n p.0) (same_need x op cs p.0 p.1) a)
        | inr b ↦ not_both (second_of x op p.0) b (same_second x op cs p.0 p.1 ∙ both.1)
      ],
    )

why_sound_by : (x : Context) (op : Op) (cs : List Control) (S : List Frame → Type 0) (index label align short : Bool) → Are cs S → bad_index x op ≡ index → bad_label (labels_in x cs) op ≡ label → misaligned op ≡ align → lacks x op cs ≡ short → WhyIs x op S (why_by index label align short)
why_sound_by x op cs S true label align short are i l a s = i
why_sound_by x op cs S false true align short are i l a s = (i, λ fs y. label_same x op cs fs true (are.to fs y) l)
why_sound_by x op cs S false false true short are i l a s = (i, λ fs y. label_same x op cs fs false (are.to fs y) l, a)
why_sound_by x op cs S false false false true are i l a s =
    (i, λ fs y. label_same x op cs fs false (are.to fs y) l, a, λ fs y. lacks_all x op cs fs (are.to fs y) s)
why_sound_by x op cs S false false false false are i l a s =
    let p = lacks_none x op cs s in
    (i, λ fs y. label_same x op cs fs false (are.to fs y) l, a, (p.0, are.from p.0 p.1, p.2))

why_sound : (x : Context) (op : Op) (cs : List Control) (S : List Frame → Type 0) → Are cs S → WhyIs x op S (why_of x op cs)
why_sound x op cs S are =
    why_sound_by x op cs S (bad_index x op) (bad_label (labels_in x cs) op) (misaligned op) (lacks x op cs) are refl refl refl refl

-- There is one reason.
why_unique : (x : Context) (op : Op) (S : List Frame → Type 0) (w v : ValidWhy) (fs : List Frame) → S fs → WhyIs x op S w → WhyIs x op S v → w ≡ v
why_unique x op S Name v fs y h k = absurd h
why_unique x op S Limit v fs y h k = absurd h
why_unique x op S w Name fs y h k = absurd k
why_unique x op S w Limit fs y h k = absurd k
why_unique x op S Index Index fs y h k = refl
why_unique x op S Index Label fs y h k = not_both (bad_index x op) h k.0
why_unique x op S Index Align fs y h k = not_both (bad_index x op) h k.0
why_unique x op S Index Stack fs y h k = not_both (bad_index x op) h k.0
why_unique x op S Index Typing fs y h k = not_both (bad_index x op) h k.0
why_unique x op S Label Index fs y h k = not_both (bad_index x op) k h.0
why_unique x op S Label Label fs y h k = refl
why_unique x op S Label Align fs y h k = not_both (bad_label (labels_of x fs) op) (h.1 fs y) (k.1 fs y)
why_unique x op S Label Stack fs y h k = not_both (bad_label (labels_of x fs) op) (h.1 fs y) (k.1 fs y)
why_unique x op S Label Typing fs y h k = not_both (bad_label (labels_of x fs) op) (h.1 fs y) (k.1 fs y)
why_unique x op S Align Index fs y h k = not_both (bad_index x op) k h.0
why_unique x op S Align Label fs y h k = not_both (bad_label (labels_of x fs) op) (k.1 fs y) (h.1 fs y)
why_unique x op S Align Align fs y h k = refl
why_unique x op S Align Stack fs y h k = not_both (misaligned op) h.2 k.2
why_unique x op S Align Typing fs y h k = not_both (misaligned op) h.2 k.2
why_unique x op S Stack Index fs y h k = not_both (bad_index x op) k h.0
why_unique x op S Stack Label fs y h k = not_both (bad_label (labels_of x fs) op) (k.1 fs y) (h.1 fs y)
why_unique x op S Stack Align fs y h k = not_both (misaligned op) k.2 h.2
why_unique x op S Stack Stack fs y h k = refl
why_unique x op S Stack Typing fs y h k = absurd (k.3.2 (h.3 k.3.0 k.3.1))
why_unique x op S Typing Index fs y h k = not_both (bad_index x op) k h.0
why_unique x op S Typing Label fs y h k = not_both (bad_label (labels_of x fs) op) (k.1 fs y) (h.1 fs y)
why_unique x op S Typing Align fs y h k = not_both (misaligned op) k.2 h.2
why_unique x op S Typing Stack fs y h k = absurd (h.3.2 (k.3 h.3.0 h.3.1))
why_unique x op S Typing Typing fs y h k = refl

-- What is known behind an item are all that it makes of what was known.
behind_are : (x : Context) (op : Op) (cs ds : List Control) (S : List Frame → Type 0) → Are cs S → step x op cs ≡ Some ds → Are ds (Behind x op S)
behind_are x op cs ds S are e = record {
  to = λ gs b. subst (λ (o : Option (List Control)). FitsOpt o gs) e (step_down x op cs b.0 gs (are.to b.0 b.1) b.2);
  from = λ gs fit. let b = step_up x op cs gs (subst (λ (o : Option (List Control)). FitsOpt o gs) (sym e) fit) in (b.0, are.from b.0 b.1, b.2);
}

-- none passes
none_behind : (x : Context) (op : Op) (cs : List Control) (S : List Frame → Type 0) → Are cs S → step x op cs ≡ None → (fs gs : List Frame) → S fs → Passes x op fs gs → ⊥
none_behind x op cs S are e fs gs y p = subst (λ (o : Option (List Control)). FitsOpt o gs) e (step_down x op cs fs gs (are.to fs y) p)

reach_some : (x : Context) (S : List Frame → Type 0) (ops : List Op) (k : ℕ) (gs : List Frame) → ReachFrom x S ops k gs → (fs : List Frame) × S fs
reach_some x S ops zero gs r = (gs, r)
reach_some x S [] (suc k) gs r = absurd r
reach_some x S (op ∷ ops) (suc k) gs r = let p = reach_some x (Behind x op S) ops k gs r in (p.1.0, p.1.1)

-- what a found fault says
abbrev pub Says : Context → (List Frame → Type 0) → List Op → Option PartFault → Type 0
Says x S ops None = (gs : List Frame) × ReachFrom x S ops (length ops) gs
Says x S ops (Some f) = StopsFrom x S ops f.at f.why

later_says : (x : Context) (S : List Frame → Type 0) (op : Op) (ops : List Op) (r : Option PartFault) → Says x (Behind x op S) ops r → Says x S (op ∷ ops) (later r)
later_says x S op ops None h = h
later_says x S op ops (Some f) h = h

says_on : (x : Context) (op : Op) (ops : List Op) (cs : List Control) (S : List Frame → Type 0) (o : Option (List Control)) → Are cs S → step x op cs ≡ o → ((ds : List Control) → Are ds (Behind x op S) → Says x (Behind x op S) ops (first_fault x ops ds)) → Says x S (op ∷ ops) (fault_on (why_of x op cs) o (first_fault x ops))
says_on x op ops cs S None are e f =
    let p = some_all cs in
    (op, refl, (p.0, are.from p.0 p.1), none_behind x op cs S are e, why_sound x op cs S are)
says_on x op ops cs S (Some ds) are e f = later_says x S op ops (first_fault x ops ds) (f ds (behind_are x op cs ds S are e))

pub sound : (x : Context) (ops : List Op) (cs : List Control) (S : List Frame → Type 0) → Are cs S → Says x S ops (first_fault x ops cs)
sound x [] cs S are = let p = some_all cs in (p.0, are.from p.0 p.1)
sound x (op ∷ ops) cs S are = says_on x op ops cs S (step x op cs) are refl (λ ds a. sound x ops ds (Behind x op S) a)

found_on : (x : Context) (op : Op) (ops : List Op) (cs : List Control) (S : List Frame → Type 0) (o : Option (List Control)) (w : ValidWhy) → Are cs S → step x op cs ≡ o → StopsFrom x S (op ∷ ops) 0 w → fault_on (why_of x op cs) o (first_fault x ops) ≡ Some (part_fault 0 w)
found_on x op ops cs S None w are e u =
    let same : op ≡ u.0 = cc in
    let is : WhyIs x op S w = subst (λ (op : Op). WhyIs x op S w) (sym same) u.4 in
    ap (λ (w : ValidWhy). (let f : Option PartFault = Some (part_fault 0 w) in f)) (why_unique x op S (why_of x op cs) w u.2.0 u.2.1 (why_sound x op cs S are) is)
found_on x op ops cs S (Some ds) w are e u =
    let same : op ≡ u.0 = cc in
    let p = some_all ds in
    let b = step_up x op cs p.0 (subst (λ (o : Option (List Control)). FitsOpt o p.0) (sym e) p.1) in
    absurd (u.3 b.0 p.0 (are.from b.0 b.1) (subst (λ (op : Op). Passes x op b.0 p.0) same b.2))

later_on : (x : Context) (op : Op) (ops : List Op) (cs : List Control) (S : List Frame → Type 0) (o : Option (List Control)) (k : ℕ) (w : ValidWhy) → Are cs S → step x op cs ≡ o → StopsFrom x S (op ∷ ops) (suc k) w → ((ds : List Control) → Are ds (Behind x op S) → first_fault x ops ds ≡ Some (part_fault k w)) → fault_on (why_of x op cs) o (first_fault x ops) ≡ Some (part_fault (suc k) w)
later_on x op ops cs S None k w are e u f =
    let p = reach_some x (Behind x op S) ops k u.2.0 u.2.1 in
    absurd (none_behind x op cs S are e p.1.0 p.0 p.1.1 p.1.2)
later_on x op ops cs S (Some ds) k w are e u f = ap later (f ds (behind_are x op cs ds S are e))

pub complete : (x : Context) (ops : List Op) (cs : List Control) (S : List Frame → Type 0) (k : ℕ) (w : ValidWhy) → Are cs S → StopsFrom x S ops k w → first_fault x ops cs ≡ Some (part_fault k w)
complete x [] cs S k w are u = let no : None ≡ Some u.0 = u.1 in cc
complete x (op ∷ ops) cs S zero w are u = found_on x op ops cs S (step x op cs) w are refl u
complete x (op ∷ ops) cs S (suc k) w are u =
    later_on x op ops cs S (step x op cs) k w are refl u (λ ds a. complete x ops ds (Behind x op S) k w a u)

whole_on : (x : Context) (op : Op) (ops : List Op) (cs : List Control) (S : List Frame → Type 0) (o : Option (List Control)) (gs : List Frame) → Are cs S → step x op cs ≡ o → ReachFrom x (Behind x op S) ops (length ops) gs → ((ds : List Control) → Are ds (Behind x op S) → first_fault x ops ds ≡ None) → fault_on (why_of x op cs) o (first_fault x ops) ≡ None
whole_on x op ops cs S None gs are e r f =
    let p = reach_some x (Behind x op S) ops (length ops) gs r in
    absurd (none_behind x op cs S are e p.1.0 p.0 p.1.1 p.1.2)
whole_on x op ops cs S (Some ds) gs are e r f = ap later (f ds (behind_are x op cs ds S are e))

pub whole : (x : Context) (ops : List Op) (cs : List Control) (S : List Frame → Type 0) (gs : List Frame) → Are cs S → ReachFrom x S ops (length ops) gs → first_fault x ops cs ≡ None
whole x [] cs S gs are r = refl
whole x (op ∷ ops) cs S gs are r = whole_on x op ops cs S (step x op cs) gs are refl r (λ ds a. whole x ops ds (Behind x op S) gs a r)
