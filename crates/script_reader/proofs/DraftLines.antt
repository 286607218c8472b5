-- What lines say, one after the other, and how they are written.
use Rattle.std.proofs.Common.{◌≡◌, ◌⊎◌, inl, inr, ℕ, ◌+◌, ◌≤◌, List, [], ◌∷◌, ◌++◌, length, map, codes, true, false, not, ◌||◌, Option, Some, None, Result, Ok, Err, nat_eq, refl, sym, ap, ◌∙◌, subst, arith}
use Rattle.std.specs.List.{AllByRecursion}
use Rattle.std.specs.Option.{unwrap_or, is_some}
use Rattle.std.proofs.lemmas.Bool.{cases_Bool, eqb-true, ne_eqb, cond-true, cond-false, both_ways, or_left, or_right, not_from_false}
use Rattle.std.proofs.lemmas.List.{append_assoc, append-nil, length-append}
use Rattle.syntax_trees.specs.declared.exports.Export.{Export}
use Rattle.script_reader.specs.declared.script.Call.{Call}
use Rattle.script_reader.specs.declared.script.Item.{Item}
use Rattle.script_reader.specs.declared.script.Item.TheVariants as item
use Rattle.script_reader.specs.declared.fault.ScriptWhy.{ScriptWhy}
use Rattle.script_reader.specs.declared.fault.ScriptWhy.TheVariants as why
use Rattle.script_reader.specs.declared.fault.ScriptFault.{ScriptFault}
use Rattle.script_reader.specs.Script.{Script, Draft, empty_draft, is_begun, after, call_of, cancel_of, fuel_of, picks_of, calls_in, and_item, with_fuel, with_call, with_cancel, with_picks, is_skipped, add_by_word, add_by_text, add_line, add_others, add_lines, line_text, script_of, default_fuel}
use Rattle.script_reader.specs.Syntax.{IsCallOf, IsCancelOf, IsFuelOf, IsPick, ArePaired, ArePicksOf, SaysNothing, SayItems, SayScript}
use Rattle.script_reader.proofs.Cases.{ok_inj, failed_ok}
use Rattle.script_reader.proofs.Marks.{after_told}
use Rattle.script_reader.proofs.Numbers.{fuel_is_a_line, cancel_is_a_line}
use Rattle.script_reader.proofs.Picks.{picks_are_a_line}
use Rattle.script_reader.proofs.Counted.{one_call, no_call}
use Rattle.script_reader.proofs.CallLines.{calls_are_lines}
use Rattle.script_reader.proofs.FirstFault.{on_ok}

-- behind one more call or cancellation, behind more picks, and behind an amount of fuel
abbrev pub more_call : Draft → Call → Draft
more_call s call = and_item s (item.Call call)

abbrev pub more_cancel : Draft → ℕ → Draft
more_cancel s n = and_item s (item.Cancel n)

abbrev pub more_picks : Draft → List ℕ → Draft
more_picks s picks = record { fuel = s.fuel; picks = s.picks ++ picks; items = s.items }

abbrev pub more_fuel : Draft → ℕ → Draft
more_fuel s n = record { fuel = Some n; picks = s.picks; items = s.items }

-- what one text says
abbrev pub SaysCall : List Export → List ℕ → Call → Type 0
SaysCall exports text call = (written : List ℕ) × (text ≡ codes "call " ++ written) × IsCallOf exports written call

abbrev pub SaysCancel : ℕ → List ℕ → ℕ → Type 0
SaysCancel calls text n = (written : List ℕ) × (text ≡ codes "cancel " ++ written) × IsCancelOf calls written n

abbrev pub SaysPicks : List ℕ → List ℕ → Type 0
SaysPicks text picks = (written : List ℕ) × (text ≡ codes "pick " ++ written) × ArePicksOf written picks

abbrev pub SaysFuel : List ℕ → ℕ → Type 0
SaysFuel text n = (written : List ℕ) × (text ≡ codes "fuel " ++ written) × IsFuelOf written n

abbrev pub Says : List Export → Draft → List ℕ → Draft → Type 0
Says exports s text t =
    (SaysNothing text × (s ≡ t))
    ⊎ ((n : ℕ) × SaysFuel text n × (is_begun s ≡ false) × (more_fuel s n ≡ t))
    ⊎ ((call : Call) × SaysCall exports text call × (more_call s call ≡ t))
    ⊎ ((n : ℕ) × SaysCancel (calls_in s.items) text n × (more_cancel s n ≡ t))
    ⊎ ((picks : List ℕ) × SaysPicks text picks × (more_picks s picks ≡ t))

pub skipped_told : (text : List ℕ) → is_skipped text ≡ true → SaysNothing text
skipped_told [] h = inl refl
skipped_told (b ∷ text) h = inr (text, ap (λ (k : ℕ). k ∷ text) (eqb-true b 35 h))

with_fuel_told : (s : Draft) (r : Result ℕ ScriptWhy) (t : Draft) → with_fuel s r ≡ Ok t → (n : ℕ) × (r ≡ Ok n) × (more_fuel s n ≡ t)
with_fuel_told s (Ok n) t h = (n, refl, ok_inj h)
with_fuel_told s (Err w) t h =
    let other : ◌≡◌ {A = Result Draft ScriptWhy} (Err w) (Ok t) = h in
    cc

with_call_told : (s : Draft) (r : Result Call ScriptWhy) (t : Draft) → with_call s r ≡ Ok t → (call : Call) × (r ≡ Ok call) × (more_call s call ≡ t)
with_call_told s (Ok call) t h = (call, refl, ok_inj h)
with_call_told s (Err w) t h =
    let other : ◌≡◌ {A = Result Draft ScriptWhy} (Err w) (Ok t) = h in
    cc

with_cancel_told : (s : Draft) (r : Result ℕ ScriptWhy) (t : Draft) → with_cancel s r ≡ Ok t → (n : ℕ) × (r ≡ Ok n) × (more_cancel s n ≡ t)
with_cancel_told s (Ok n) t h = (n, refl, ok_inj h)
with_cancel_told s (Err w) t h =
    let other : ◌≡◌ {A = Result Draft ScriptWhy} (Err w) (Ok t) = h in
    cc

with_picks_told : (s : Draft) (r : Result (List ℕ) ScriptWhy) (t : Draft) → with_picks s r ≡ Ok t → (picks : List ℕ) × (r ≡ Ok picks) × (more_picks s picks ≡ t)
with_picks_told s (Ok picks) t h = (picks, refl, ok_inj h)
with_picks_told s (Err w) t h =
    let other : ◌≡◌ {A = Result Draft ScriptWhy} (Err w) (Ok t) = h in
    cc

words_told : (exports : List Export) (s : Draft) (text : List ℕ) (fuel call cancel pick : Option (List ℕ)) (t : Draft)
    → after (codes "fuel ") text ≡ fuel → after (codes "call ") text ≡ call → after (codes "cancel ") text ≡ cancel → after (codes "pick ") text ≡ pick
    → add_by_word exports s fuel call cancel pick ≡ Ok t → Says exports s text t
words_told exports s text (Some written) call cancel pick t f c k p h =
    let first = failed_ok (is_begun s) (with_fuel s (fuel_of written)) why.Form t h in
    let found = with_fuel_told s (fuel_of written) t first.1 in
    inr (inl (found.0, (written, after_told (codes "fuel ") text written f, (fuel_is_a_line written found.0).0 found.1), first.0, found.2))
words_told exports s text None (Some written) cancel pick t f c k p h =
    let found = with_call_told s (call_of exports written) t h in
    inr (inr (inl (found.0, (written, after_told (codes "call ") text written c, (calls_are_lines exports written found.0).0 found.1), found.2)))
words_told exports s text None None (Some written) pick t f c k p h =
    let found = with_cancel_told s (cancel_of (calls_in s.items) written) t h in
    inr (inr (inr (inl (found.0, (written, after_told (codes "cancel ") text written k, (cancel_is_a_line (calls_in s.items) written found.0).0 found.1), found.2))))
words_told exports s text None None None (Some written) t f c k p h =
    let found = with_picks_told s (picks_of written) t h in
    inr (inr (inr (inr (found.0, (written, after_told (codes "pick ") text written p, (picks_are_a_line written found.0).0 found.1), found.2))))
words_told exports s text None None None None t f c k p h =
    let other : ◌≡◌ {A = Result Draft ScriptWhy} (Err why.Form) (Ok t) = h in
    cc

pub say_told : (exports : List Export) (s : Draft) (text : List ℕ) (t : Draft) → add_line exports s text ≡ Ok t → Says exports s text t
say_told exports s text t h =
    elim (cases_Bool (is_skipped text)) [
      | inl e ↦
          let same : s ≡ t = ok_inj (sym (cond-true (is_skipped text) (Ok s) (add_by_text exports s text) e) ∙ h) in
          inl (skipped_told text e, same)
      | inr e ↦
          words_told
          exports
          s
          text
          (after (codes "fuel ") text)
          (after (codes "call ") text)
          (after (codes "cancel ") text)
          (after (codes "pick ") text)
          t
          refl
          refl
          refl
          refl
          (sym (cond-false (is_skipped text) (Ok s) (add_by_text exports s text) e) ∙ h)
    ]

-- texts that say so are read so
pub nothing_tells : (exports : List Export) (s : Draft) (text : List ℕ) → SaysNothing text → add_line exports s text ≡ Ok s
nothing_tells exports s text (inl e) = ap (λ (l : List ℕ). add_line exports s l) e
nothing_tells exports s text (inr e) = ap (λ (l : List ℕ). add_line exports s l) e.1

pub fuel_tells : (exports : List Export) (s : Draft) (text : List ℕ) (n : ℕ) → is_begun s ≡ false → SaysFuel text n → add_line exports s text ≡ Ok (more_fuel s n)
fuel_tells exports s text n e i =
    ap (λ (l : List ℕ). add_line exports s l) i.1
    ∙ (cond-false (is_begun s) (Err why.Form) (with_fuel s (fuel_of i.0)) e
    ∙ ap (λ (r : Result ℕ ScriptWhy). with_fuel s r) ((fuel_is_a_line i.0 n).1 i.2))

pub call_tells : (exports : List Export) (s : Draft) (text : List ℕ) (call : Call) → SaysCall exports text call → add_line exports s text ≡ Ok (more_call s call)
call_tells exports s text call i =
    ap (λ (l : List ℕ). add_line exports s l) i.1
    ∙ ap (λ (r : Result Call ScriptWhy). with_call s r) ((calls_are_lines exports i.0 call).1 i.2)

pub cancel_tells : (exports : List Export) (s : Draft) (text : List ℕ) (n : ℕ) → SaysCancel (calls_in s.items) text n → add_line exports s text ≡ Ok (more_cancel s n)
cancel_tells exports s text n i =
    ap (λ (l : List ℕ). add_line exports s l) i.1
    ∙ ap (λ (r : Result ℕ ScriptWhy). with_cancel s r) ((cancel_is_a_line (calls_in s.items) i.0 n).1 i.2)

pub picks_tell : (exports : List Export) (s : Draft) (text picks : List ℕ) → SaysPicks text picks → add_line exports s text ≡ Ok (more_picks s picks)
picks_tell exports s text picks i =
    ap (λ (l : List ℕ). add_line exports s l) i.1
    ∙ ap (λ (r : Result (List ℕ) ScriptWhy). with_picks s r) ((picks_are_a_line i.0 picks).1 i.2)

-- the texts of lines
abbrev pub texts_of : List (List ℕ) → List (List ℕ)
texts_of ls = map line_text ls

-- what is said behind lines that say something
pub said_item : (s : Draft) (i : Item) → is_begun (and_item s i) ≡ true
said_item s i =
    let n = length (s.items ++ i ∷ []) in
    let some : nat_eq n 0 ≡ false = ne_eqb n 0 (λ e. omega (arith, e, length-append s.items (i ∷ []))) in
    or_right (is_some s.fuel || not (nat_eq (length s.picks) 0)) (not (nat_eq n 0)) (not_from_false (nat_eq n 0) some)

some_paired : (texts : List (List ℕ)) (picks : List ℕ) → 1 ≤ length texts → ArePaired IsPick texts picks → 1 ≤ length picks
some_paired [] picks n i = absurd (omega (arith, n))
some_paired (text ∷ texts) [] n i = absurd i
some_paired (text ∷ texts) (pick ∷ picks) n i = omega arith

pub said_picks : (s : Draft) (text picks : List ℕ) → ArePicksOf text picks → is_begun (more_picks s picks) ≡ true
said_picks s text picks i =
    let n = length (s.picks ++ picks) in
    let one = some_paired i.0 picks i.2 i.3 in
    let some : nat_eq n 0 ≡ false = ne_eqb n 0 (λ e. omega (arith, e, one, length-append s.picks picks)) in
    or_left
    (is_some s.fuel || not (nat_eq n 0))
    (not (nat_eq (length s.items) 0))
    (or_right (is_some s.fuel) (not (nat_eq n 0)) (not_from_false (nat_eq n 0) some))

-- Lines behind others that say something say items and picks alone.
abbrev SaidItems : List Export → Draft → List (List ℕ) → Draft → Type 0
SaidItems exports s texts t =
    (picks : List ℕ) × (items : List Item) × (t.fuel ≡ s.fuel) × (t.picks ≡ s.picks ++ picks) × (t.items ≡ s.items ++ items)
    × SayItems exports (calls_in s.items) texts picks items

called : (exports : List Export) (s : Draft) (text : List ℕ) (texts : List (List ℕ)) (call : Call) (t : Draft)
    → SaysCall exports text call → SaidItems exports (more_call s call) texts t → SaidItems exports s (text ∷ texts) t
called exports s text texts call t i found =
    let others = subst (λ (n : ℕ). SayItems exports n texts found.0 found.1) (one_call s.items call) found.5 in (
      found.0,
      item.Call call ∷ found.1,
      found.2,
      found.3,
      found.4 ∙ append_assoc s.items (item.Call call ∷ []) found.1,
      inr (inl (i.0, call, found.1, i.1, i.2, refl, others)),
    )

cancelled : (exports : List Export) (s : Draft) (text : List ℕ) (texts : List (List ℕ)) (n : ℕ) (t : Draft)
    → SaysCancel (calls_in s.items) text n → SaidItems exports (more_cancel s n) texts t → SaidItems exports s (text ∷ texts) t
cancelled exports s text texts n t i found =
    let others = subst (λ (k : ℕ). SayItems exports k texts found.0 found.1) (no_call s.items n) found.5 in (
      found.0,
      item.Cancel n ∷ found.1,
      found.2,
      found.3,
      found.4 ∙ append_assoc s.items (item.Cancel n ∷ []) found.1,
      inr (inr (inl (i.0, n, found.1, i.1, i.2, refl, others))),
    )

picked : (exports : List Export) (s : Draft) (text : List ℕ) (texts : List (List ℕ)) (picks : List ℕ) (t : Draft)
    → SaysPicks text picks → SaidItems exports (more_picks s picks) texts t → SaidItems exports s (text ∷ texts) t
picked exports s text texts picks t i found = (
  picks ++ found.0,
  found.1,
  found.2,
  found.3 ∙ append_assoc s.picks picks found.0,
  found.4,
  inr (inr (inr (i.0, picks, found.0, i.1, i.2, refl, found.5))),
)

one_told : (exports : List Export) (s : Draft) (text : List ℕ) (texts : List (List ℕ)) (u t : Draft)
    → is_begun s ≡ true → Says exports s text u → (is_begun u ≡ true → SaidItems exports u texts t) → SaidItems exports s (text ∷ texts) t
one_told exports s text texts u t a (inl nothing) f =
    let said : SaidItems exports u texts t = f (subst (λ (v : Draft). is_begun v ≡ true) nothing.1 a) in
    let rest : SaidItems exports s texts t = subst (λ (v : Draft). SaidItems exports v texts t) (sym nothing.1) said in
    (rest.0, rest.1, rest.2, rest.3, rest.4, inl (nothing.0, rest.5))
one_told exports s text texts u t a (inr (inl fuel)) f = absurd (both_ways (is_begun s) fuel.2 a)
one_told exports s text texts u t a (inr (inr (inl call))) f =
    let said : SaidItems exports u texts t = f (subst (λ (v : Draft). is_begun v ≡ true) call.2 (said_item s (item.Call call.0))) in
    called exports s text texts call.0 t call.1 (subst (λ (v : Draft). SaidItems exports v texts t) (sym call.2) said)
one_told exports s text texts u t a (inr (inr (inr (inl cancel)))) f =
    let said : SaidItems exports u texts t = f (subst (λ (v : Draft). is_begun v ≡ true) cancel.2 (said_item s (item.Cancel cancel.0))) in
    cancelled exports s text texts cancel.0 t cancel.1 (subst (λ (v : Draft). SaidItems exports v texts t) (sym cancel.2) said)
one_told exports s text texts u t a (inr (inr (inr (inr pick)))) f =
    let said : SaidItems exports u texts t = f (subst (λ (v : Draft). is_begun v ≡ true) pick.2 (said_picks s pick.1.0 pick.0 pick.1.2)) in
    picked exports s text texts pick.0 t pick.1 (subst (λ (v : Draft). SaidItems exports v texts t) (sym pick.2) said)

items_told : (exports : List Export) (s : Draft) (number : ℕ) (ls : List (List ℕ)) (t : Draft)
    → is_begun s ≡ true → add_lines exports s number ls ≡ Ok t → SaidItems exports s (texts_of ls) t
items_told exports s number [] t a h =
    let same : s ≡ t = ok_inj h in
    subst (λ (u : Draft). SaidItems exports s [] u) same ([], [], refl, sym (append-nil s.picks), sym (append-nil s.items), (refl, refl))
items_told exports s number (line ∷ ls) t a h =
    let on = on_ok (λ u. add_lines exports u (number + 1) ls) number (add_line exports s (line_text line)) t h in
    one_told exports s (line_text line) (texts_of ls) on.0 t a (say_told exports s (line_text line) on.0 on.1) (λ e. items_told exports on.0 (number + 1) ls t e on.2)

-- these picks and these items are said, behind this fuel
abbrev pub ok_said : Option ℕ → List ℕ → List Item → Result Draft ScriptFault
ok_said fuel picks items = Ok (record { fuel = fuel; picks = picks; items = items })

-- the others behind a line that is read
read_on : (exports : List Export) (s : Draft) (number : ℕ) (line : List ℕ) (ls : List (List ℕ)) (t : Draft)
    → add_line exports s (line_text line) ≡ Ok t → add_lines exports s number (line ∷ ls) ≡ add_lines exports t (number + 1) ls
read_on exports s number line ls t h = ap (λ (r : Result Draft ScriptWhy). add_others (λ u. add_lines exports u (number + 1) ls) number r) h

items_tell : (exports : List Export) (s : Draft) (number : ℕ) (ls : List (List ℕ)) (picks : List ℕ) (items : List Item)
    → SayItems exports (calls_in s.items) (texts_of ls) picks items → add_lines exports s number ls ≡ ok_said s.fuel (s.picks ++ picks) (s.items ++ items)
items_tell exports s number [] picks items i =
    let first : s.picks ≡ s.picks ++ picks = sym (append-nil s.picks) ∙ ap (λ (l : List ℕ). s.picks ++ l) (sym i.0) in
    let second : s.items ≡ s.items ++ items = sym (append-nil s.items) ∙ ap (λ (l : List Item). s.items ++ l) (sym i.1) in
    ap (λ (l : List ℕ). ok_said s.fuel l s.items) first ∙ ap (λ (l : List Item). ok_said s.fuel (s.picks ++ picks) l) second
items_tell exports s number (line ∷ ls) picks items (inl nothing) =
    read_on exports s number line ls s (nothing_tells exports s (line_text line) nothing.0) ∙ items_tell exports s (number + 1) ls picks items nothing.1
items_tell exports s number (line ∷ ls) picks items (inr (inl more)) =
    let t = more_call s more.1 in
    let others : SayItems exports (calls_in t.items) (texts_of ls) picks more.2 = subst (λ (n : ℕ). SayItems exports n (texts_of ls) picks more.2) (sym (one_call s.items more.1)) more.6 in
    let same : t.items ++ more.2 ≡ s.items ++ items = append_assoc s.items (item.Call more.1 ∷ []) more.2 ∙ ap (λ (l : List Item). s.items ++ l) (sym more.5) in
    read_on exports s number line ls t (call_tells exports s (line_text line) more.1 (more.0, more.3, more.4))
    ∙ (items_tell exports t (number + 1) ls picks more.2 others
    ∙ ap (λ (l : List Item). ok_said s.fuel (s.picks ++ picks) l) same)
items_tell exports s number (line ∷ ls) picks items (inr (inr (inl more))) =
    let t = more_cancel s more.1 in
    let others : SayItems exports (calls_in t.items) (texts_of ls) picks more.2 = subst (λ (n : ℕ). SayItems exports n (texts_of ls) picks more.2) (sym (no_call s.items more.1)) more.6 in
    let same : t.items ++ more.2 ≡ s.items ++ items = append_assoc s.items (item.Cancel more.1 ∷ []) more.2 ∙ ap (λ (l : List Item). s.items ++ l) (sym more.5) in
    read_on exports s number line ls t (cancel_tells exports s (line_text line) more.1 (more.0, more.3, more.4))
    ∙ (items_tell exports t (number + 1) ls picks more.2 others
    ∙ ap (λ (l : List Item). ok_said s.fuel (s.picks ++ picks) l) same)
items_tell exports s number (line ∷ ls) picks items (inr (inr (inr more))) =
    let t = more_picks s more.1 in
    let same : t.picks ++ more.2 ≡ s.picks ++ picks = append_assoc s.picks more.1 more.2 ∙ ap (λ (l : List ℕ). s.picks ++ l) (sym more.5) in
    read_on exports s number line ls t (picks_tell exports s (line_text line) more.1 (more.0, more.3, more.4))
    ∙ (items_tell exports t (number + 1) ls more.2 items more.6
    ∙ ap (λ (l : List ℕ). ok_said s.fuel l (s.items ++ items)) same)

-- All lines say a script.
skip_first : (exports : List Export) (text : List ℕ) (texts : List (List ℕ)) (s : Script) → SaysNothing text → SayScript exports texts s → SayScript exports (text ∷ texts) s
skip_first exports text texts s n (inl items) = inl (items.0, inl (n, items.1))
skip_first exports text texts s n (inr fuel) =
    inr (text ∷ fuel.0, fuel.1, fuel.2, ap (λ (l : List (List ℕ)). text ∷ l) fuel.3, (n, fuel.4), fuel.5, fuel.6)

-- what is said behind nothing is all that is said
items_first : (exports : List Export) (texts : List (List ℕ)) (t : Draft) → SaidItems exports empty_draft texts t → SayScript exports texts (script_of t)
items_first exports texts t found =
    let amount : unwrap_or t.fuel default_fuel ≡ default_fuel = ap (λ (o : Option ℕ). unwrap_or o default_fuel) found.2 in
    let some : SayItems exports 0 texts t.picks found.1 = subst (λ (l : List ℕ). SayItems exports 0 texts l found.1) (sym found.3) found.5 in
    inl (amount, subst (λ (l : List Item). SayItems exports 0 texts t.picks l) (sym found.4) some)

fuel_first : (exports : List Export) (text : List ℕ) (texts : List (List ℕ)) (n : ℕ) (t : Draft)
    → SaysFuel text n → SaidItems exports (more_fuel empty_draft n) texts t → SayScript exports (text ∷ texts) (script_of t)
fuel_first exports text texts n t i found =
    let amount : n ≡ unwrap_or t.fuel default_fuel = sym (ap (λ (o : Option ℕ). unwrap_or o default_fuel) found.2) in
    let some : SayItems exports 0 texts t.picks found.1 = subst (λ (l : List ℕ). SayItems exports 0 texts l found.1) (sym found.3) found.5 in
    inr (
      [],
      i.0,
      texts,
      ap (λ (l : List ℕ). l ∷ texts) i.1,
      tt,
      subst (λ (k : ℕ). IsFuelOf i.0 k) amount i.2,
      subst (λ (l : List Item). SayItems exports 0 texts t.picks l) (sym found.4) some,
    )

-- a line that says something, before all others
first_told : (exports : List Export) (text : List ℕ) (texts : List (List ℕ)) (u t : Draft)
    → Says exports empty_draft text u → ((v : Draft) → u ≡ v → is_begun v ≡ true → SaidItems exports v texts t) → (empty_draft ≡ u → SayScript exports texts (script_of t))
    → SayScript exports (text ∷ texts) (script_of t)
first_told exports text texts u t (inl nothing) f g = skip_first exports text texts (script_of t) nothing.0 (g nothing.1)
first_told exports text texts u t (inr (inl fuel)) f g =
    fuel_first exports text texts fuel.0 t fuel.1 (f (more_fuel empty_draft fuel.0) (sym fuel.3) refl)
first_told exports text texts u t (inr (inr (inl call))) f g =
    items_first exports (text ∷ texts) t (called exports empty_draft text texts call.0 t call.1 (f (more_call empty_draft call.0) (sym call.2) refl))
first_told exports text texts u t (inr (inr (inr (inl cancel)))) f g =
    items_first exports (text ∷ texts) t (cancelled exports empty_draft text texts cancel.0 t cancel.1 (f (more_cancel empty_draft cancel.0) (sym cancel.2) refl))
first_told exports text texts u t (inr (inr (inr (inr pick)))) f g =
    let begun = said_picks empty_draft pick.1.0 pick.0 pick.1.2 in
    items_first exports (text ∷ texts) t (picked exports empty_draft text texts pick.0 t pick.1 (f (more_picks empty_draft pick.0) (sym pick.2) begun))

pub script_told : (exports : List Export) (number : ℕ) (ls : List (List ℕ)) (t : Draft) → add_lines exports empty_draft number ls ≡ Ok t → SayScript exports (texts_of ls) (script_of t)
script_told exports number [] t h =
    let same : empty_draft ≡ t = ok_inj h in
    subst (λ (u : Draft). SayScript exports [] (script_of u)) same (inl (refl, (refl, refl)))
script_told exports number (line ∷ ls) t h =
    let on = on_ok (λ u. add_lines exports u (number + 1) ls) number (add_line exports empty_draft (line_text line)) t h in
    first_told
    exports
    (line_text line)
    (texts_of ls)
    on.0
    t
    (say_told exports empty_draft (line_text line) on.0 on.1)
    (λ v e a. items_told exports v (number + 1) ls t a (ap (λ (u : Draft). add_lines exports u (number + 1) ls) (sym e) ∙ on.2))
    (λ e. script_told exports (number + 1) ls t (ap (λ (u : Draft). add_lines exports u (number + 1) ls) e ∙ on.2))

pub cons_parts : (x y : List ℕ) (xs ys : List (List ℕ)) → x ∷ xs ≡ y ∷ ys → (x ≡ y) × (xs ≡ ys)
cons_parts x y xs ys h = (cc, cc)

pub no_parts : (skipped : List (List ℕ)) (x : List ℕ) (others : List (List ℕ)) → [] ≡ skipped ++ x ∷ others → ⊥
no_parts [] x others h = cc
no_parts (y ∷ skipped) x others h = cc

fuel_said : (exports : List Export) (number : ℕ) (ls : List (List ℕ)) (skipped : List (List ℕ)) (written : List ℕ) (others : List (List ℕ)) (n : ℕ) (picks : List ℕ) (items : List Item)
    → texts_of ls ≡ skipped ++ (codes "fuel " ++ written) ∷ others → AllByRecursion SaysNothing skipped → IsFuelOf written n → SayItems exports 0 others picks items
    → add_lines exports empty_draft number ls ≡ ok_said (Some n) picks items
fuel_said exports number [] skipped written others n picks items e a f i = absurd (no_parts skipped (codes "fuel " ++ written) others e)
fuel_said exports number (line ∷ ls) [] written others n picks items e a f i =
    let both = cons_parts (line_text line) (codes "fuel " ++ written) (texts_of ls) others e in
    let t = more_fuel empty_draft n in
    read_on exports empty_draft number line ls t (fuel_tells exports empty_draft (line_text line) n refl (written, both.0, f))
    ∙ items_tell exports t (number + 1) ls picks items (subst (λ (l : List (List ℕ)). SayItems exports 0 l picks items) (sym both.1) i)
fuel_said exports number (line ∷ ls) (first ∷ skipped) written others n picks items e a f i =
    let both = cons_parts (line_text line) first (texts_of ls) (skipped ++ (codes "fuel " ++ written) ∷ others) e in
    read_on exports empty_draft number line ls empty_draft (nothing_tells exports empty_draft (line_text line) (subst SaysNothing (sym both.0) a.0))
    ∙ fuel_said exports (number + 1) ls skipped written others n picks items both.1 a.1 f i

-- the script of this fuel
abbrev giving : Script → ℕ → Script
giving s fuel = record { fuel = fuel; picks = s.picks; items = s.items }

pub script_tells : (exports : List Export) (number : ℕ) (ls : List (List ℕ)) (s : Script) → SayScript exports (texts_of ls) s
    → (t : Draft) × (add_lines exports empty_draft number ls ≡ Ok t) × (script_of t ≡ s)
script_tells exports number ls s (inl items) =
    let same : giving s default_fuel ≡ s = ap (λ (k : ℕ). giving s k) (sym items.0) in
    (record { fuel = None; picks = s.picks; items = s.items }, items_tell exports empty_draft number ls s.picks s.items items.1, same)
script_tells exports number ls s (inr f) =
    (record { fuel = Some s.fuel; picks = s.picks; items = s.items }, fuel_said exports number ls f.0 f.1 f.2 s.fuel s.picks s.items f.3 f.4 f.5 f.6, refl)
