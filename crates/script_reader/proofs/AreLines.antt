-- Lines are read exactly where each is well said behind those before it.
use Rattle.std.proofs.Common.{◌≡◌, inl, inr, ℕ, ◌+◌, List, [], ◌∷◌, ◌++◌, codes, Bool, true, false, cond, Result, Ok, refl, sym, ap, ◌∙◌, subst, arith}
use Rattle.std.specs.Option.{is_some}
use Rattle.std.proofs.lemmas.Bool.{both_ways, false_from_ne_true}
use Rattle.std.proofs.lemmas.List.{append-nil, append_assoc}
use Rattle.std.proofs.lemmas.List.Sums.{sum_by_push}
use Rattle.syntax_trees.specs.declared.exports.Export.{Export}
use Rattle.script_reader.specs.declared.script.Item.TheVariants as item
use Rattle.script_reader.specs.declared.fault.ScriptWhy.{ScriptWhy}
use Rattle.script_reader.specs.Script.{Draft, empty_draft, is_begun, after, calls_in, is_skipped, add_line, add_others, add_lines, line_text}
use Rattle.script_reader.specs.Syntax.{SaysNothing, SaySomething, IsCancelOf, calls_among, IsLine, AreLines}
use Rattle.script_reader.proofs.Cases.{ok_inj}
use Rattle.script_reader.proofs.Counted.{one_call, no_call}
use Rattle.script_reader.proofs.FirstFault.{on_ok}
use Rattle.script_reader.proofs.DraftLines.{texts_of, Says, more_fuel, more_call, more_cancel, more_picks, say_told, nothing_tells, fuel_tells, call_tells, cancel_tells, picks_tell, said_item, said_picks, cons_parts, no_parts}

-- a text with a word says something
nothing_skipped : (text : List ℕ) → SaysNothing text → is_skipped text ≡ true
nothing_skipped text (inl e) = ap (λ (l : List ℕ). is_skipped l) e
nothing_skipped text (inr c) = ap (λ (l : List ℕ). is_skipped l) c.1

says : (text same : List ℕ) → text ≡ same → is_skipped same ≡ false → SaysNothing text → ⊥
says text same e h n = both_ways (is_skipped text) (ap (λ (l : List ℕ). is_skipped l) e ∙ h) (nothing_skipped text n)

-- one text more
more_say : (before : List (List ℕ)) (text : List ℕ) → SaySomething before → SaySomething (before ++ text ∷ [])
more_say [] text m = absurd m
more_say (first ∷ before) text (inl m) = inl m
more_say (first ∷ before) text (inr m) = inr (more_say before text m)

last_says : (before : List (List ℕ)) (text : List ℕ) → (SaysNothing text → ⊥) → SaySomething (before ++ text ∷ [])
last_says [] text n = inl n
last_says (first ∷ before) text n = inr (last_says before text n)

others_say : (before : List (List ℕ)) (text : List ℕ) → SaysNothing text → SaySomething (before ++ text ∷ []) → SaySomething before
others_say [] text n (inl m) = absurd (m n)
others_say [] text n (inr m) = absurd m
others_say (first ∷ before) text n (inl m) = inl m
others_say (first ∷ before) text n (inr m) = inr (others_say before text n m)

-- whether a text calls, and how many of some texts do, with one text more
abbrev calls : List ℕ → Bool
calls text = is_some (after (codes "call ") text)

among_more : (before : List (List ℕ)) (text : List ℕ) (b : Bool) → calls text ≡ b → calls_among (before ++ text ∷ []) ≡ calls_among before + cond b 1 0
among_more before text b e =
    sum_by_push (λ (l : List ℕ). cond (calls l) 1 0) before text ∙ ap (λ (c : Bool). calls_among before + cond c 1 0) e

among_call : (before : List (List ℕ)) (text : List ℕ) → calls text ≡ true → calls_among (before ++ text ∷ []) ≡ calls_among before + 1
among_call before text e = among_more before text true e

among_other : (before : List (List ℕ)) (text : List ℕ) → calls text ≡ false → calls_among (before ++ text ∷ []) ≡ calls_among before
among_other before text e = omega (arith, among_more before text false e)

calls_alike : (text same : List ℕ) (b : Bool) → text ≡ same → calls same ≡ b → calls text ≡ b
calls_alike text same b e h = ap (λ (l : List ℕ). calls l) e ∙ h

nothing_calls : (text : List ℕ) → SaysNothing text → calls text ≡ false
nothing_calls text (inl e) = calls_alike text [] false e refl
nothing_calls text (inr c) = calls_alike text (codes "#" ++ c.0) false c.1 refl

-- Something is said so far exactly where one of these texts says something, and as many items are calls as texts call.
abbrev pub Tells : Draft → List (List ℕ) → Type 0
Tells s before = (is_begun s ≡ true → SaySomething before) × (SaySomething before → is_begun s ≡ true) × (calls_in s.items ≡ calls_among before)

pub none_told : Tells empty_draft []
none_told = ((λ e. (let never : false ≡ true = e in cc)), (λ m. absurd m), refl)

skipped_more : (s : Draft) (before : List (List ℕ)) (text : List ℕ) → Tells s before → SaysNothing text → Tells s (before ++ text ∷ [])
skipped_more s before text i n = (
  (λ e. more_say before text (i.0 e)),
  (λ m. i.1 (others_say before text n m)),
  i.2 ∙ sym (among_other before text (nothing_calls text n)),
)

said_more : (t : Draft) (before : List (List ℕ)) (text : List ℕ) → is_begun t ≡ true → (SaysNothing text → ⊥) → calls_in t.items ≡ calls_among (before ++ text ∷ []) → Tells t (before ++ text ∷ [])
said_more t before text e n c = ((λ b. last_says before text n), (λ m. e), c)

-- a line
abbrev Line : List Export → List (List ℕ) → List ℕ → Type 0
Line exports before text = IsLine exports (SaySomething before) (calls_among before) text

told : (exports : List Export) (s : Draft) (before : List (List ℕ)) (text : List ℕ) (t : Draft)
    → Tells s before → Says exports s text t → Line exports before text × Tells t (before ++ text ∷ [])
told exports s before text t i (inl nothing) =
    (inl nothing.0, subst (λ (u : Draft). Tells u (before ++ text ∷ [])) nothing.1 (skipped_more s before text i nothing.0))
told exports s before text t i (inr (inl fuel)) =
    let w = fuel.1 in
    let whole = codes "fuel " ++ w.0 in
    let count : calls_in s.items ≡ calls_among (before ++ text ∷ []) = i.2 ∙ sym (among_other before text (calls_alike text whole false w.1 refl)) in
    let more : Tells (more_fuel s fuel.0) (before ++ text ∷ []) = said_more (more_fuel s fuel.0) before text refl (says text whole w.1 refl) count in
    (inr (inl (w.0, fuel.0, w.1, (λ m. both_ways (is_begun s) fuel.2 (i.1 m)), w.2)), subst (λ (u : Draft). Tells u (before ++ text ∷ [])) fuel.3 more)
told exports s before text t i (inr (inr (inl call))) =
    let w = call.1 in
    let whole = codes "call " ++ w.0 in
    let u = more_call s call.0 in
    let count : calls_in u.items ≡ calls_among (before ++ text ∷ []) =
    one_call s.items call.0 ∙ (ap (λ (n : ℕ). n + 1) i.2 ∙ sym (among_call before text (calls_alike text whole true w.1 refl))) in
    let more : Tells u (before ++ text ∷ []) = said_more u before text (said_item s (item.Call call.0)) (says text whole w.1 refl) count in
    (inr (inr (inl (w.0, call.0, w.1, w.2))), subst (λ (v : Draft). Tells v (before ++ text ∷ [])) call.2 more)
told exports s before text t i (inr (inr (inr (inl cancel)))) =
    let w = cancel.1 in
    let whole = codes "cancel " ++ w.0 in
    let u = more_cancel s cancel.0 in
    let count : calls_in u.items ≡ calls_among (before ++ text ∷ []) =
    no_call s.items cancel.0 ∙ (i.2 ∙ sym (among_other before text (calls_alike text whole false w.1 refl))) in
    let more : Tells u (before ++ text ∷ []) = said_more u before text (said_item s (item.Cancel cancel.0)) (says text whole w.1 refl) count in
    let is : IsCancelOf (calls_among before) w.0 cancel.0 = subst (λ (n : ℕ). IsCancelOf n w.0 cancel.0) i.2 w.2 in
    (inr (inr (inr (inl (w.0, cancel.0, w.1, is)))), subst (λ (v : Draft). Tells v (before ++ text ∷ [])) cancel.2 more)
told exports s before text t i (inr (inr (inr (inr pick)))) =
    let w = pick.1 in
    let whole = codes "pick " ++ w.0 in
    let u = more_picks s pick.0 in
    let count : calls_in s.items ≡ calls_among (before ++ text ∷ []) = i.2 ∙ sym (among_other before text (calls_alike text whole false w.1 refl)) in
    let more : Tells u (before ++ text ∷ []) = said_more u before text (said_picks s w.0 pick.0 w.2) (says text whole w.1 refl) count in
    (inr (inr (inr (inr (w.0, pick.0, w.1, w.2)))), subst (λ (v : Draft). Tells v (before ++ text ∷ [])) pick.2 more)

line_said : (exports : List Export) (s : Draft) (before : List (List ℕ)) (text : List ℕ) (t : Draft)
    → Tells s before → add_line exports s text ≡ Ok t → Line exports before text × Tells t (before ++ text ∷ [])
line_said exports s before text t i h = told exports s before text t i (say_told exports s text t h)

line_reads : (exports : List Export) (s : Draft) (before : List (List ℕ)) (text : List ℕ)
    → Tells s before → Line exports before text → (t : Draft) × (add_line exports s text ≡ Ok t)
line_reads exports s before text i (inl nothing) = (s, nothing_tells exports s text nothing)
line_reads exports s before text i (inr (inl f)) =
    let first : is_begun s ≡ false = false_from_ne_true (is_begun s) (λ e. f.3 (i.0 e)) in
    (more_fuel s f.1, fuel_tells exports s text f.1 first (f.0, f.2, f.4))
line_reads exports s before text i (inr (inr (inl c))) = (more_call s c.1, call_tells exports s text c.1 (c.0, c.2, c.3))
line_reads exports s before text i (inr (inr (inr (inl k)))) =
    let is : IsCancelOf (calls_in s.items) k.0 k.1 = subst (λ (n : ℕ). IsCancelOf n k.0 k.1) (sym i.2) k.3 in
    (more_cancel s k.1, cancel_tells exports s text k.1 (k.0, k.2, is))
line_reads exports s before text i (inr (inr (inr (inr p)))) = (more_picks s p.1, picks_tell exports s text p.1 (p.0, p.2, p.3))

-- lines, each behind those before it
abbrev pub Follow : List Export → List (List ℕ) → List (List ℕ) → Type 0
Follow exports before [] = Unit {0}
Follow exports before (text ∷ texts) = Line exports before text × Follow exports (before ++ text ∷ []) texts

pub lines_said : (exports : List Export) (s : Draft) (before : List (List ℕ)) (number : ℕ) (ls : List (List ℕ)) (t : Draft)
    → Tells s before → add_lines exports s number ls ≡ Ok t → Follow exports before (texts_of ls) × Tells t (before ++ texts_of ls)
lines_said exports s before number [] t i h =
    let same : s ≡ t = ok_inj h in
    let told : Tells t before = subst (λ (u : Draft). Tells u before) same i in
    (tt, subst (λ (l : List (List ℕ)). Tells t l) (sym (append-nil before)) told)
lines_said exports s before number (line ∷ ls) t i h =
    let on = on_ok (λ u. add_lines exports u (number + 1) ls) number (add_line exports s (line_text line)) t h in
    let first = line_said exports s before (line_text line) on.0 i on.1 in
    let rest = lines_said exports on.0 (before ++ line_text line ∷ []) (number + 1) ls t first.1 on.2 in
    ((first.0, rest.0), subst (λ (l : List (List ℕ)). Tells t l) (append_assoc before (line_text line ∷ []) (texts_of ls)) rest.1)

pub lines_read : (exports : List Export) (s : Draft) (before : List (List ℕ)) (number : ℕ) (ls : List (List ℕ))
    → Tells s before → Follow exports before (texts_of ls) → (t : Draft) × (add_lines exports s number ls ≡ Ok t)
lines_read exports s before number [] i w = (s, refl)
lines_read exports s before number (line ∷ ls) i w =
    let one = line_reads exports s before (line_text line) i w.0 in
    let told = line_said exports s before (line_text line) one.0 i one.1 in
    let rest = lines_read exports one.0 (before ++ line_text line ∷ []) (number + 1) ls told.1 w.1 in
    (rest.0, ap (λ (r : Result Draft ScriptWhy). add_others (λ u. add_lines exports u (number + 1) ls) number r) one.1 ∙ rest.1)

each_told : (exports : List Export) (before texts : List (List ℕ)) → Follow exports before texts
    → (front : List (List ℕ)) (text : List ℕ) (behind : List (List ℕ)) → texts ≡ front ++ text ∷ behind → Line exports (before ++ front) text
each_told exports before [] w front text behind e = absurd (no_parts front text behind e)
each_told exports before (first ∷ texts) w [] text behind e =
    let both = cons_parts first text texts behind e in
    let here : Line exports before text = subst (λ (l : List ℕ). Line exports before l) both.0 w.0 in
    subst (λ (l : List (List ℕ)). Line exports l text) (sym (append-nil before)) here
each_told exports before (first ∷ texts) w (next ∷ front) text behind e =
    let both = cons_parts first next texts (front ++ text ∷ behind) e in
    let rest = each_told exports (before ++ first ∷ []) texts w.1 front text behind both.1 in
    let same : (before ++ first ∷ []) ++ front ≡ before ++ next ∷ front = append_assoc before (first ∷ []) front ∙ ap (λ (l : List ℕ). before ++ l ∷ front) both.0 in
    subst (λ (l : List (List ℕ)). Line exports l text) same rest

each_tells : (exports : List Export) (before texts : List (List ℕ))
    → ((front : List (List ℕ)) (text : List ℕ) (behind : List (List ℕ)) → texts ≡ front ++ text ∷ behind → Line exports (before ++ front) text)
    → Follow exports before texts
each_tells exports before [] f = tt
each_tells exports before (first ∷ texts) f = (
  subst (λ (l : List (List ℕ)). Line exports l first) (append-nil before) (f [] first texts refl),
  each_tells exports (before ++ first ∷ []) texts (λ front text behind e.
      subst (λ (l : List (List ℕ)). Line exports l text) (sym (append_assoc before (first ∷ []) front))
      (f (first ∷ front) text behind (ap (λ (l : List (List ℕ)). first ∷ l) e))),
)

pub follow_told : (exports : List Export) (texts : List (List ℕ)) → Follow exports [] texts → AreLines exports texts
follow_told exports texts w = each_told exports [] texts w

pub follow_tells : (exports : List Export) (texts : List (List ℕ)) → AreLines exports texts → Follow exports [] texts
follow_tells exports texts f = each_tells exports [] texts f
