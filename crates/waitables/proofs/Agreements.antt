-- Members and places agree after each call.
use Rattle.std.proofs.Common.{◌≡◌, ℕ, ◌+◌, ◌<◌, sym, ap, refl, ◌∙◌, subst, arith, List, [], ◌∷◌, ◌++◌, set, length, Option, Some, None, inl, inr}
use Rattle.std.proofs.lemmas.List.{length-set, get_or-set_same, get_or-set_other, set-set, set_comm, set-get_or}
use Rattle.std.proofs.lemmas.Option.{same_Some}
use Rattle.std.proofs.lemmas.Bool.{cases_eq}
use Rattle.std.specs.List.Sorted.{IsStrictlySortedBy}
use Rattle.std.specs.Ordering.{nat_cmp}
use Rattle.std.specs.BTreeMap.{is_at}
use Rattle.std.specs.Map.{keys_of, values_of, lookup, remove_entry}
use Rattle.waitables.specs.declared.place.Place.{Place}
use Rattle.waitables.specs.Sets.{without}
use Rattle.waitables.specs.Placing.{timed_at, times_out, times_without, times_with, AtHome, StandsAt, Agree}
use Rattle.waitables.proofs.Placements.{SameElse, Stayed, others_stay, out_stay, rise_out, lookup_out, Before, put_last, home_last, rise_last, lookup_last, lookup_first, out_last, out_append}

pub length_out : (o : Option Place) (all : List (List (ℕ × ℕ))) → length (times_out o all) ≡ length all
length_out None all = refl
length_out (Some p) all = length-set all p.set (remove_entry (is_at (nat_cmp p.time)) (timed_at all p.set))

out_here : (p : Place) (all : List (List (ℕ × ℕ))) (n : ℕ) → p.set < length all → n ≡ p.set → timed_at (times_without p all) n ≡ remove_entry (is_at (nat_cmp p.time)) (timed_at all n)
out_here p all n h e = subst (λ (m : ℕ). timed_at (times_without p all) m ≡ remove_entry (is_at (nat_cmp p.time)) (timed_at all m)) (sym e) (get_or-set_same all p.set (remove_entry (is_at (nat_cmp p.time)) (timed_at all p.set)) [] h)

out_there : (p : Place) (all : List (List (ℕ × ℕ))) (n : ℕ) → (n ≡ p.set → ⊥) → timed_at (times_without p all) n ≡ timed_at all n
out_there p all n h = get_or-set_other all p.set n (remove_entry (is_at (nat_cmp p.time)) (timed_at all p.set)) [] h

-- each set, once a waitable left
set_stays : (w : ℕ) (f g : ℕ → Option Place) (all : List (List (ℕ × ℕ))) (clock : ℕ) (o : Option Place) → Agree all f clock → f w ≡ o → SameElse w f g → (n : ℕ) → n < length all → Stayed w n g (timed_at all n) (timed_at (times_out o all) n)
set_stays w f g all clock None a is same n h =
    others_stay w n f g (timed_at all n) same (λ t e. let q : ◌≡◌ {A = Option Place} None (Some (record { set = n; time = t })) = sym is ∙ e in cc) (a.homes n h)
set_stays w f g all clock (Some p) a is same n h =
    elim (cases_eq n p.set) [
      | inl e ↦ subst (λ (es : List (ℕ × ℕ)). Stayed w n g (timed_at all n) es) (sym (out_here p all n (a.places w p is).there e))
          (out_stay w n p.time f g (timed_at all n) same (is ∙ ap (λ (k : ℕ). (let q : Place = record { set = k; time = p.time } in Some q)) (sym e)) (a.homes n h) (a.rise n h) (subst (λ (k : ℕ). lookup (is_at (nat_cmp p.time)) (timed_at all k) ≡ Some w) (sym e) (a.places w p is).member))
      | inr apart ↦ subst (λ (es : List (ℕ × ℕ)). Stayed w n g (timed_at all n) es) (sym (out_there p all n apart))
          (others_stay w n f g (timed_at all n) same (λ t e. let q : ◌≡◌ {A = Option Place} (Some p) (Some (record { set = n; time = t })) = sym is ∙ e in apart (sym (ap (λ (x : Place). x.set) (same_Some p (record { set = n; time = t }) q)))) (a.homes n h))
    ]

rise_stays : (w : ℕ) (f : ℕ → Option Place) (all : List (List (ℕ × ℕ))) (clock : ℕ) (o : Option Place) → Agree all f clock → f w ≡ o → (n : ℕ) → n < length all → IsStrictlySortedBy nat_cmp (keys_of (timed_at (times_out o all) n))
rise_stays w f all clock None a is n h = a.rise n h
rise_stays w f all clock (Some p) a is n h =
    elim (cases_eq n p.set) [
      | inl e ↦ subst (λ (es : List (ℕ × ℕ)). IsStrictlySortedBy nat_cmp (keys_of es)) (sym (out_here p all n (a.places w p is).there e)) (rise_out (is_at (nat_cmp p.time)) (timed_at all n) (a.rise n h))
      | inr apart ↦ subst (λ (es : List (ℕ × ℕ)). IsStrictlySortedBy nat_cmp (keys_of es)) (sym (out_there p all n apart)) (a.rise n h)
    ]

-- another waitable's place
place_stays : (w v : ℕ) (f : ℕ → Option Place) (all : List (List (ℕ × ℕ))) (clock : ℕ) (o : Option Place) (q : Place) → Agree all f clock → f w ≡ o → (v ≡ w → ⊥) → StandsAt all clock v q → StandsAt (times_out o all) clock v q
place_stays w v f all clock None q a is apart s = s
place_stays w v f all clock (Some p) q a is apart s =
    let same : length (times_without p all) ≡ length all = length_out (Some p) all in
    let there : q.set < length all = s.there in
    record {
      there = omega arith;
      past = s.past;
      member = elim (cases_eq q.set p.set) [
        | inl e ↦ ap (lookup (is_at (nat_cmp q.time))) (out_here p all q.set (a.places w p is).there e)
            ∙ lookup_out q.time p.time (timed_at all q.set) (λ t. apart (same_Some v w (sym s.member ∙ ap (λ (k : ℕ). lookup (is_at (nat_cmp k)) (timed_at all q.set)) t ∙ ap (λ (k : ℕ). lookup (is_at (nat_cmp p.time)) (timed_at all k)) e ∙ (a.places w p is).member)))
            ∙ s.member
        | inr other ↦ ap (lookup (is_at (nat_cmp q.time))) (out_there p all q.set other) ∙ s.member
      ];
    }

pub out_agrees : (w : ℕ) (f g : ℕ → Option Place) (all : List (List (ℕ × ℕ))) (clock : ℕ) (o : Option Place) → Agree all f clock → f w ≡ o → SameElse w f g → g w ≡ None → Agree (times_out o all) g clock
out_agrees w f g all clock o a is same gone =
    let long : length (times_out o all) ≡ length all = length_out o all in
    record {
      rise = λ n h. rise_stays w f all clock o a is n (omega arith);
      homes = λ n h. (set_stays w f g all clock o a is same n (omega arith)).home;
      places = λ v p at. elim (cases_eq v w) [
        | inl e ↦ let q : ◌≡◌ {A = Option Place} None (Some p) = sym gone ∙ ap g (sym e) ∙ at in cc
        | inr apart ↦ place_stays w v f all clock o p a is apart (a.places v p (sym (same.others v apart) ∙ at))
      ];
    }

pub out_members : (w : ℕ) (f g : ℕ → Option Place) (all : List (List (ℕ × ℕ))) (clock : ℕ) (o : Option Place) → Agree all f clock → f w ≡ o → SameElse w f g → (n : ℕ) → n < length all → without w (values_of (timed_at all n)) ≡ values_of (timed_at (times_out o all) n)
out_members w f g all clock o a is same n h = (set_stays w f g all clock o a is same n h).members

-- All members joined before now.
before_by : (f : ℕ → Option Place) (n clock : ℕ) (es : List (ℕ × ℕ)) → ((v : ℕ) (p : Place) → f v ≡ Some p → p.time < clock) → AtHome f n es → Before clock es
before_by f n clock [] past h = tt
before_by f n clock (x ∷ es) past h = (past x.1 (record { set = n; time = x.0 }) h.0, before_by f n clock es past h.1)

pub all_before : (f : ℕ → Option Place) (all : List (List (ℕ × ℕ))) (clock n : ℕ) → Agree all f clock → n < length all → Before clock (timed_at all n)
all_before f all clock n a h = before_by f n clock (timed_at all n) (λ v p e. (a.places v p e).past) (a.homes n h)

-- A waitable joins as the last member.
abbrev pub put : ℕ → ℕ → ℕ → List (List (ℕ × ℕ)) → List (List (ℕ × ℕ))
put k t w all = set all k (timed_at all k ++ (t, w) ∷ [])

pub put_is : (f : ℕ → Option Place) (all : List (List (ℕ × ℕ))) (clock w k : ℕ) → Agree all f clock → k < length all → times_with (record { set = k; time = clock }) w all ≡ put k clock w all
put_is f all clock w k a h = ap (λ (es : List (ℕ × ℕ)). set all k es) (put_last clock w (timed_at all k) (all_before f all clock k a h))

pub put_here : (k t w : ℕ) (all : List (List (ℕ × ℕ))) (n : ℕ) → k < length all → n ≡ k → timed_at (put k t w all) n ≡ timed_at all n ++ (t, w) ∷ []
put_here k t w all n h e = subst (λ (m : ℕ). timed_at (put k t w all) m ≡ timed_at all m ++ (t, w) ∷ []) (sym e) (get_or-set_same all k (timed_at all k ++ (t, w) ∷ []) [] h)

pub put_there : (k t w : ℕ) (all : List (List (ℕ × ℕ))) (n : ℕ) → (n ≡ k → ⊥) → timed_at (put k t w all) n ≡ timed_at all n
put_there k t w all n h = get_or-set_other all k n (timed_at all k ++ (t, w) ∷ []) [] h

put_agrees_home : (f g : ℕ → Option Place) (w k t : ℕ) (all : List (List (ℕ × ℕ))) → f w ≡ None → SameElse w f g → g w ≡ Some (record { set = k; time = t }) → k < length all → (n : ℕ) → n < length all → AtHome f n (timed_at all n) → AtHome g n (timed_at (put k t w all) n)
put_agrees_home f g w k t all none same at h n in' home =
    let s : Stayed w n g (timed_at all n) (timed_at all n) = others_stay w n f g (timed_at all n) same (λ u e. let q : ◌≡◌ {A = Option Place} None (Some (record { set = n; time = u })) = sym none ∙ e in cc) home in
    elim (cases_eq n k) [
      | inl e ↦ subst (λ (es : List (ℕ × ℕ)). AtHome g n es) (sym (put_here k t w all n h e)) (home_last g n t w (timed_at all n) s.home (at ∙ ap (λ (m : ℕ). (let q : Place = record { set = m; time = t } in Some q)) (sym e)))
      | inr apart ↦ subst (λ (es : List (ℕ × ℕ)). AtHome g n es) (sym (put_there k t w all n apart)) s.home
    ]

put_rises : (f : ℕ → Option Place) (all : List (List (ℕ × ℕ))) (clock w k : ℕ) → Agree all f clock → k < length all → (n : ℕ) → n < length all → IsStrictlySortedBy nat_cmp (keys_of (timed_at (put k clock w all) n))
put_rises f all clock w k a h n in' =
    elim (cases_eq n k) [
      | inl e ↦ subst (λ (es : List (ℕ × ℕ)). IsStrictlySortedBy nat_cmp (keys_of es)) (sym (put_here k clock w all n h e)) (rise_last clock w (timed_at all n) (a.rise n in') (all_before f all clock n a in'))
      | inr apart ↦ subst (λ (es : List (ℕ × ℕ)). IsStrictlySortedBy nat_cmp (keys_of es)) (sym (put_there k clock w all n apart)) (a.rise n in')
    ]

put_place : (v w k clock : ℕ) (all : List (List (ℕ × ℕ))) (q : Place) → k < length all → StandsAt all clock v q → StandsAt (put k clock w all) (clock + 1) v q
put_place v w k clock all q h s =
    let same : length (put k clock w all) ≡ length all = length-set all k (timed_at all k ++ (clock, w) ∷ []) in
    let there : q.set < length all = s.there in
    let past : q.time < clock = s.past in
    record {
      there = omega arith;
      past = omega arith;
      member = elim (cases_eq q.set k) [
        | inl e ↦ ap (lookup (is_at (nat_cmp q.time))) (put_here k clock w all q.set h e) ∙ lookup_first q.time v (timed_at all q.set) ((clock, w) ∷ []) s.member
        | inr apart ↦ ap (lookup (is_at (nat_cmp q.time))) (put_there k clock w all q.set apart) ∙ s.member
      ];
    }

new_place : (f : ℕ → Option Place) (all : List (List (ℕ × ℕ))) (clock w k : ℕ) → Agree all f clock → k < length all → StandsAt (put k clock w all) (clock + 1) w (record { set = k; time = clock })
new_place f all clock w k a h =
    let same : length (put k clock w all) ≡ length all = length-set all k (timed_at all k ++ (clock, w) ∷ []) in
    record {
      there = omega arith;
      past = omega arith;
      member = ap (lookup (is_at (nat_cmp clock))) (put_here k clock w all k h refl) ∙ lookup_last clock w (timed_at all k) (all_before f all clock k a h);
    }

pub put_agrees : (f g : ℕ → Option Place) (all : List (List (ℕ × ℕ))) (clock w k : ℕ) → Agree all f clock → f w ≡ None → SameElse w f g → g w ≡ Some (record { set = k; time = clock }) → k < length all → Agree (put k clock w all) g (clock + 1)
put_agrees f g all clock w k a none same at h =
    let long : length (put k clock w all) ≡ length all = length-set all k (timed_at all k ++ (clock, w) ∷ []) in
    record {
      rise = λ n in'. put_rises f all clock w k a h n (omega arith);
      homes = λ n in'. put_agrees_home f g w k clock all none same at h n (omega arith) (a.homes n (omega arith));
      places = λ v p is. elim (cases_eq v w) [
        | inl e ↦ subst (λ (q : Place). StandsAt (put k clock w all) (clock + 1) v q) (same_Some (record { set = k; time = clock }) p (sym at ∙ ap g (sym e) ∙ is))
            (subst (λ (u : ℕ). StandsAt (put k clock w all) (clock + 1) u (record { set = k; time = clock })) (sym e) (new_place f all clock w k a h))
        | inr apart ↦ put_place v w k clock all p h (a.places v p (sym (same.others v apart) ∙ is))
      ];
    }

-- One that joined last can be taken out again.
pub out_of_put : (f : ℕ → Option Place) (all : List (List (ℕ × ℕ))) (clock w k : ℕ) → Agree all f clock → k < length all → times_without (record { set = k; time = clock }) (put k clock w all) ≡ all
out_of_put f all clock w k a h =
    set-set all k (timed_at all k ++ (clock, w) ∷ []) (remove_entry (is_at (nat_cmp clock)) (timed_at (put k clock w all) k))
    ∙ ap (λ (es : List (ℕ × ℕ)). set all k (remove_entry (is_at (nat_cmp clock)) es)) (put_here k clock w all k h refl)
    ∙ ap (λ (es : List (ℕ × ℕ)). set all k es) (out_last clock w (timed_at all k) (all_before f all clock k a h))
    ∙ set-get_or all k []

-- It is taken out of its old set before or after it is put into the new one.
put_then_out_same : (k t w u : ℕ) (all : List (List (ℕ × ℕ))) → (t ≡ u → ⊥) → k < length all → times_without (record { set = k; time = t }) (put k u w all) ≡ put k u w (times_without (record { set = k; time = t }) all)
put_then_out_same k t w u all apart h =
    let r : List (ℕ × ℕ) = remove_entry (is_at (nat_cmp t)) (timed_at all k) in
    set-set all k (timed_at all k ++ (u, w) ∷ []) (remove_entry (is_at (nat_cmp t)) (timed_at (put k u w all) k))
    ∙ ap (λ (es : List (ℕ × ℕ)). set all k (remove_entry (is_at (nat_cmp t)) es)) (put_here k u w all k h refl)
    ∙ ap (λ (es : List (ℕ × ℕ)). set all k es) (out_append t u w (timed_at all k) apart)
    ∙ ap (λ (es : List (ℕ × ℕ)). set all k (es ++ (u, w) ∷ [])) (sym (get_or-set_same all k r [] h))
    ∙ sym (set-set all k r (timed_at (set all k r) k ++ (u, w) ∷ []))

put_then_out : (p : Place) (k w u : ℕ) (all : List (List (ℕ × ℕ))) → p.time < u → k < length all → times_without p (put k u w all) ≡ put k u w (times_without p all)
put_then_out p k w u all past h =
    let r : List (ℕ × ℕ) = remove_entry (is_at (nat_cmp p.time)) (timed_at all p.set) in
    let x : List (ℕ × ℕ) = timed_at all k ++ (u, w) ∷ [] in
    elim (cases_eq p.set k) [
      | inl e ↦ subst (λ (m : ℕ). times_without (record { set = m; time = p.time }) (put k u w all) ≡ put k u w (times_without (record { set = m; time = p.time }) all)) (sym e) (put_then_out_same k p.time w u all (λ t. omega arith) h)
      | inr apart ↦ ap (λ (es : List (ℕ × ℕ)). set (set all k x) p.set (remove_entry (is_at (nat_cmp p.time)) es)) (put_there k u w all p.set apart)
          ∙ set_comm all k p.set x r (λ e. apart (sym e))
          ∙ ap (λ (es : List (ℕ × ℕ)). set (set all p.set r) k (es ++ (u, w) ∷ [])) (sym (get_or-set_other all p.set k r [] (λ e. apart (sym e))))
    ]

pub put_out : (f : ℕ → Option Place) (all : List (List (ℕ × ℕ))) (clock w k : ℕ) (o : Option Place) → Agree all f clock → f w ≡ o → k < length all → times_out o (put k clock w all) ≡ put k clock w (times_out o all)
put_out f all clock w k None a is h = refl
put_out f all clock w k (Some p) a is h = put_then_out p k w clock all (a.places w p is).past h
