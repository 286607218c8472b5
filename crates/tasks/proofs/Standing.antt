-- What each event makes of a task that stands for a history.
use Rattle.std.proofs.Common.{◌≡◌, ℕ, ◌+◌, ◌<◌, sym, ap, refl, ◌∙◌, arith, Bool, true, false, ◌||◌, nat_lt, if◌then◌else◌, is_some, is_none, IsTrue, List, [], ◌∷◌, ◌++◌, Option, Some, None}
use Rattle.std.proofs.lemmas.List.{append-nil, append_assoc}
use Rattle.std.proofs.lemmas.List.Sums.{sum_by-append}
use Rattle.std.proofs.lemmas.List.Folds.{list_any-append}
use Rattle.std.proofs.lemmas.Bool.{ltb-true, and_parts}
use Rattle.std.specs.List.{count_by, list_any}
use Rattle.std.specs.Option.{option_to_list}
use Rattle.tasks.specs.declared.event.TaskEvent.{TaskEvent}
use Rattle.tasks.specs.declared.event.TaskEvent.TheVariants.{Enter, Block, Go, AskReturn, Return, Cancel, Borrow, Unborrow, ToldCancel, Exit}
use Rattle.tasks.specs.declared.event.TaskTrap.{TaskTrap}
use Rattle.tasks.specs.declared.event.TaskTrap.TheVariants.{SyncTask, NotAsked as NeverTold, Resolved, BorrowLives}
use Rattle.tasks.specs.declared.event.Asked.{Asked}
use Rattle.tasks.specs.declared.event.Asked.TheVariants.{Removed, ResumeNow, Pending}
use Rattle.tasks.specs.declared.phase.Phase.{Phase}
use Rattle.tasks.specs.declared.phase.Phase.TheVariants.{New, Exited}
use Rattle.tasks.specs.declared.phase.Resolution.{Resolution}
use Rattle.tasks.specs.declared.phase.Resolution.TheVariants.{Returned, Cancelled}
use Rattle.tasks.specs.declared.phase.Cancellation.{Cancellation}
use Rattle.tasks.specs.declared.phase.Cancellation.TheVariants.{Asked as WasAsked}
use Rattle.tasks.specs.Views.{TaskView}
use Rattle.tasks.specs.Tasks.{is_sync, is_told, is_unasked, may_happen, may_cancel, fault, resolving_fault, after, cancelled}
use Rattle.tasks.specs.History.{Happening, Did, AskedToCancel, WasRemoved, History, and_then, happened, asked_for, phase_after, phase_once, phase_by, resolves, resolution_at, resolutions, is_borrow, is_unborrow, asks, tells, far, StandsFor}

resolutions_more : (hs : List Happening) (x : Happening) → resolutions (hs ++ x ∷ []) ≡ resolutions hs ++ option_to_list (resolution_at x)
resolutions_more [] x = append-nil (option_to_list (resolution_at x))
resolutions_more (y ∷ hs) x =
    ap (λ (rs : List Resolution). option_to_list (resolution_at y) ++ rs) (resolutions_more hs x)
    ∙ sym (append_assoc (option_to_list (resolution_at y)) (resolutions hs) (option_to_list (resolution_at x)))

phase_more : (p : Phase) (hs : List Happening) (x : Happening) → phase_by p (hs ++ x ∷ []) ≡ phase_once x (phase_by p hs)
phase_more p [] x = refl
phase_more p (y ∷ hs) x = phase_more (phase_once y p) hs x

any_more : (p : Happening → Bool) (hs : List Happening) (x : Happening) → list_any p (hs ++ x ∷ []) ≡ (list_any p hs || (p x || false))
any_more p hs x = list_any-append p hs (x ∷ [])

count_more : (p : Happening → Bool) (hs : List Happening) (x : Happening) → count_by p (hs ++ x ∷ []) ≡ count_by p hs + count_by p (x ∷ [])
count_more p hs x = sum_by-append (λ y. if p y then 1 else 0) hs (x ∷ [])

-- a task that may be resolved isn't yet
unresolved_if : (r : Option Resolution) (lives : Bool) → ◌≡◌ {A = Option TaskTrap} (if is_some r then Some Resolved else (if lives then Some BorrowLives else None)) None → r ≡ None
unresolved_if None lives h = refl
unresolved_if (Some r) lives h = cc

no_borrow_if : (some lives : Bool) → ◌≡◌ {A = Option TaskTrap} (if some then Some Resolved else (if lives then Some BorrowLives else None)) None → lives ≡ false
no_borrow_if true lives h = cc
no_borrow_if false true h = cc
no_borrow_if false false h = refl

pub unresolved : (t : TaskView) → resolving_fault t ≡ None → t.resolution ≡ None
unresolved t h = unresolved_if t.resolution (nat_lt 0 t.borrows) h

pub no_borrow : (t : TaskView) → resolving_fault t ≡ None → nat_lt 0 t.borrows ≡ false
no_borrow t h = no_borrow_if (is_some t.resolution) (nat_lt 0 t.borrows) h

last_test : (s told : Bool) (o : Option TaskTrap) → ◌≡◌ {A = Option TaskTrap} (if s then Some SyncTask else (if told then o else Some NeverTold)) None → o ≡ None
last_test true told o h = cc
last_test false true o h = h
last_test false false o h = cc

pub cancel_resolving : (t : TaskView) → fault Cancel t ≡ None → resolving_fault t ≡ None
cancel_resolving t h = last_test (is_sync t.kind) (is_told t.cancellation) (resolving_fault t) h

-- An event resolves a task that isn't resolved.
pub once_resolved : (e : TaskEvent) (t : TaskView) → fault e t ≡ None → option_to_list t.resolution ++ option_to_list (resolves e) ≡ option_to_list (after e t).resolution
once_resolved Enter t h = append-nil (option_to_list t.resolution)
once_resolved (Block why flag) t h = append-nil (option_to_list t.resolution)
once_resolved Go t h = append-nil (option_to_list t.resolution)
once_resolved AskReturn t h = append-nil (option_to_list t.resolution)
once_resolved Return t h = ap (λ (r : Option Resolution). option_to_list r ++ Returned ∷ []) (unresolved t h)
once_resolved Cancel t h = ap (λ (r : Option Resolution). option_to_list r ++ Cancelled ∷ []) (unresolved t (cancel_resolving t h))
once_resolved Borrow t h = append-nil (option_to_list t.resolution)
once_resolved Unborrow t h = append-nil (option_to_list t.resolution)
once_resolved ToldCancel t h = append-nil (option_to_list t.resolution)
once_resolved Exit t h = append-nil (option_to_list t.resolution)

or_no : (b : Bool) → (b || (false || false)) ≡ b
or_no true = refl
or_no false = refl

or_yes : (b : Bool) → (b || (true || false)) ≡ true
or_yes true = refl
or_yes false = refl

-- neither asked nor told
far_same : (c : Cancellation) (a b : Bool) → c ≡ far a b → c ≡ far (a || (false || false)) (b || (false || false))
far_same c a b h = h ∙ sym (ap (λ (x : Bool). far x (b || (false || false))) (or_no a) ∙ ap (far a) (or_no b))

cancel_did : (e : TaskEvent) (t : TaskView) (a b : Bool) → t.cancellation ≡ far a b → (after e t).cancellation ≡ far (a || (asks (Did e) || false)) (b || (tells (Did e) || false))
cancel_did Enter t a b h = far_same t.cancellation a b h
cancel_did (Block why flag) t a b h = far_same t.cancellation a b h
cancel_did Go t a b h = far_same t.cancellation a b h
cancel_did AskReturn t a b h = far_same t.cancellation a b h
cancel_did Return t a b h = far_same t.cancellation a b h
cancel_did Cancel t a b h = far_same t.cancellation a b h
cancel_did Borrow t a b h = far_same t.cancellation a b h
cancel_did Unborrow t a b h = far_same t.cancellation a b h
cancel_did ToldCancel t a b h = sym (ap (far (a || (false || false))) (or_yes b))
cancel_did Exit t a b h = far_same t.cancellation a b h

borrow_did : (e : TaskEvent) (t : TaskView) (u b : ℕ) → may_happen e t ≡ true → t.borrows + u ≡ b → (after e t).borrows + (u + count_by is_unborrow (Did e ∷ [])) ≡ b + count_by is_borrow (Did e ∷ [])
borrow_did Enter t u b may h = omega arith
borrow_did (Block why flag) t u b may h = omega arith
borrow_did Go t u b may h = omega arith
borrow_did AskReturn t u b may h = omega arith
borrow_did Return t u b may h = omega arith
borrow_did Cancel t u b may h = omega arith
borrow_did Borrow t u b may h = omega arith
borrow_did Unborrow t u b may h = let some : 0 < t.borrows = ltb-true 0 t.borrows may in omega arith
borrow_did ToldCancel t u b may h = omega arith
borrow_did Exit t u b may h = omega arith

after_kind : (e : TaskEvent) (t : TaskView) → (after e t).kind ≡ t.kind
after_kind Enter t = refl
after_kind (Block why flag) t = refl
after_kind Go t = refl
after_kind AskReturn t = refl
after_kind Return t = refl
after_kind Cancel t = refl
after_kind Borrow t = refl
after_kind Unborrow t = refl
after_kind ToldCancel t = refl
after_kind Exit t = refl

after_caller : (e : TaskEvent) (t : TaskView) → (after e t).caller ≡ t.caller
after_caller Enter t = refl
after_caller (Block why flag) t = refl
after_caller Go t = refl
after_caller AskReturn t = refl
after_caller Return t = refl
after_caller Cancel t = refl
after_caller Borrow t = refl
after_caller Unborrow t = refl
after_caller ToldCancel t = refl
after_caller Exit t = refl

after_phase : (e : TaskEvent) (t : TaskView) → (after e t).phase ≡ phase_after e t.phase
after_phase Enter t = refl
after_phase (Block why flag) t = refl
after_phase Go t = refl
after_phase AskReturn t = refl
after_phase Return t = refl
after_phase Cancel t = refl
after_phase Borrow t = refl
after_phase Unborrow t = refl
after_phase ToldCancel t = refl
after_phase Exit t = refl

did_stands : (e : TaskEvent) (h : History) (t : TaskView) → may_happen e t ≡ true → fault e t ≡ None → StandsFor h t → StandsFor (and_then (Did e) h) (after e t)
did_stands e h t may ok s = record {
  kind = after_kind e t ∙ s.kind;
  caller = after_caller e t ∙ s.caller;
  phase = after_phase e t ∙ ap (phase_after e) s.phase ∙ sym (phase_more New h.happenings (Did e));
  resolution = resolutions_more h.happenings (Did e) ∙ ap (λ (rs : List Resolution). rs ++ option_to_list (resolves e)) s.resolution ∙ once_resolved e t ok;
  cancellation = cancel_did e t (list_any asks h.happenings) (list_any tells h.happenings) s.cancellation
      ∙ sym (ap (λ (x : Bool). far x (list_any tells (h.happenings ++ Did e ∷ []))) (any_more asks h.happenings (Did e)) ∙ ap (far (list_any asks h.happenings || (asks (Did e) || false))) (any_more tells h.happenings (Did e)));
  borrows = ap (λ (n : ℕ). (after e t).borrows + n) (count_more is_unborrow h.happenings (Did e))
      ∙ borrow_did e t (count_by is_unborrow h.happenings) (count_by is_borrow h.happenings) may s.borrows
      ∙ sym (count_more is_borrow h.happenings (Did e));
}

pub advanced_stands : (e : TaskEvent) (h : History) (t later : TaskView) → IsTrue (may_happen e t) → fault e t ≡ None → later ≡ after e t → StandsFor h t → StandsFor (happened (fault e t) e h) later
advanced_stands e h t later may ok is s = rw (ok, is) (did_stands e h t may ok s)

-- a cancellation
none_is : (r : Option Resolution) → is_none r ≡ true → r ≡ None
none_is None h = refl
none_is (Some r) h = cc

unasked_far : (a b : Bool) → is_unasked (far a b) ≡ true → WasAsked ≡ far (a || (true || false)) (b || (false || false))
unasked_far true true h = cc
unasked_far true false h = refl
unasked_far false true h = cc
unasked_far false false h = refl

still_far : (h : History) (t : TaskView) → StandsFor h t → t.cancellation ≡ far (list_any asks (h.happenings ++ WasRemoved ∷ [])) (list_any tells (h.happenings ++ WasRemoved ∷ []))
still_far h t s =
    far_same t.cancellation (list_any asks h.happenings) (list_any tells h.happenings) s.cancellation
    ∙ sym (ap (λ (x : Bool). far x (list_any tells (h.happenings ++ WasRemoved ∷ []))) (any_more asks h.happenings WasRemoved) ∙ ap (far (list_any asks h.happenings || (false || false))) (any_more tells h.happenings WasRemoved))

asked_stands : (h : History) (t : TaskView) → may_cancel t ≡ true → StandsFor h t → StandsFor (and_then AskedToCancel h) (record t { cancellation = WasAsked })
asked_stands h t may s = record {
  kind = s.kind;
  caller = s.caller;
  phase = s.phase ∙ sym (phase_more New h.happenings AskedToCancel);
  resolution = resolutions_more h.happenings AskedToCancel ∙ append-nil (resolutions h.happenings) ∙ s.resolution;
  cancellation = unasked_far (list_any asks h.happenings) (list_any tells h.happenings) (sym (ap is_unasked s.cancellation) ∙ (and_parts (is_none t.resolution) (is_unasked t.cancellation) may).1)
      ∙ sym (ap (λ (x : Bool). far x (list_any tells (h.happenings ++ AskedToCancel ∷ []))) (any_more asks h.happenings AskedToCancel) ∙ ap (far (list_any asks h.happenings || (true || false))) (any_more tells h.happenings AskedToCancel));
  borrows = omega (arith, s.borrows, count_more is_unborrow h.happenings AskedToCancel, count_more is_borrow h.happenings AskedToCancel);
}

removed_stands : (h : History) (t : TaskView) → may_cancel t ≡ true → StandsFor h t → StandsFor (and_then WasRemoved h) (record t { phase = Exited; resolution = Some Cancelled })
removed_stands h t may s = record {
  kind = s.kind;
  caller = s.caller;
  phase = sym (phase_more New h.happenings WasRemoved);
  resolution = resolutions_more h.happenings WasRemoved ∙ ap (λ (rs : List Resolution). rs ++ Cancelled ∷ []) (s.resolution ∙ ap option_to_list (none_is t.resolution (and_parts (is_none t.resolution) (is_unasked t.cancellation) may).0));
  cancellation = still_far h t s;
  borrows = omega (arith, s.borrows, count_more is_unborrow h.happenings WasRemoved, count_more is_borrow h.happenings WasRemoved);
}

pub cancelled_stands : (case : Asked) (h : History) (t : TaskView) → IsTrue (may_cancel t) → StandsFor h t → StandsFor (asked_for case h) (cancelled case t)
cancelled_stands Removed h t may s = removed_stands h t may s
cancelled_stands ResumeNow h t may s = asked_stands h t may s
cancelled_stands Pending h t may s = asked_stands h t may s
