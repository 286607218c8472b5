-- The lines of a run tell of a task in order: the stage that each line begins at is the one behind the line before it.
use Rattle.std.proofs.Common.{◌≡◌, ◌⊎◌, ◌≤◌, ◌+◌, inl, inr, ℕ, zero, suc, Bool, true, false, cond, nat_eq, List, [], ◌∷◌, ◌++◌, length, filter, refl, sym, ap, ◌∙◌, subst, arith, Option, Some, None, if◌then◌else◌}
use Rattle.std.proofs.lemmas.Bool.Decides.{nat_tests}
use Rattle.trace_labels.specs.declared.label.Label.{Label}
use Rattle.trace_labels.specs.declared.label.Label.TheVariants as line
use Rattle.abi_machine.specs.Run.{lines_of}
use Rattle.abi_machine.specs.sound.Lines.{Mark, Stage, Unmade, Made, Entered, Resolved, Gone, marks_of, stage_at, made_from, entered_from, returned_from, cancelled_from, exited_from, stage_along}
use Rattle.abi_machine.proofs.sound.TaskLines.{reached_lines_tell}
use Rattle.task_laws.specs.TaskLines.{Milestone, IsMade, Enters, Returns, IsCancelled, Exits, told_of, MayFollow, AreInOrder, LinesAreInOrder, RunsAreInOrder, is_making, is_entry, is_resolution, is_exit, EachIsToldOnce}
use Rattle.task_laws.specs.TasksTold.{last_of}

-- the stage behind what was told last
abbrev pub stage_after : Option Milestone → Stage
stage_after None = Unmade
stage_after (Some IsMade) = Made
stage_after (Some Enters) = Entered
stage_after (Some Returns) = Resolved
stage_after (Some IsCancelled) = Resolved
stage_after (Some Exits) = Gone

abbrev from_by : Milestone → Stage → Option Stage
from_by IsMade stage = made_from stage
from_by Enters stage = entered_from stage
from_by Returns stage = returned_from stage
from_by IsCancelled stage = cancelled_from stage
from_by Exits stage = exited_from stage

abbrev Goes : Option Milestone → Milestone → Type 0
Goes last m = (from_by m (stage_after last) ≡ None) ⊎ (MayFollow last m × (from_by m (stage_after last) ≡ Some (stage_after (Some m))))

goes : (last : Option Milestone) (m : Milestone) → Goes last m
goes None IsMade = inr (tt, refl)
goes None Enters = inl refl
goes None Returns = inl refl
goes None IsCancelled = inl refl
goes None Exits = inl refl
goes (Some IsMade) IsMade = inl refl
goes (Some IsMade) Enters = inr (tt, refl)
goes (Some IsMade) Returns = inl refl
goes (Some IsMade) IsCancelled = inr (tt, refl)
goes (Some IsMade) Exits = inl refl
goes (Some Enters) IsMade = inl refl
goes (Some Enters) Enters = inl refl
goes (Some Enters) Returns = inr (tt, refl)
goes (Some Enters) IsCancelled = inr (tt, refl)
goes (Some Enters) Exits = inl refl
goes (Some Returns) IsMade = inl refl
goes (Some Returns) Enters = inl refl
goes (Some Returns) Returns = inl refl
goes (Some Returns) IsCancelled = inl refl
goes (Some Returns) Exits = inr (tt, refl)
goes (Some IsCancelled) IsMade = inl refl
goes (Some IsCancelled) Enters = inl refl
goes (Some IsCancelled) Returns = inl refl
goes (Some IsCancelled) IsCancelled = inl refl
goes (Some IsCancelled) Exits = inr (tt, refl)
goes (Some Exits) IsMade = inl refl
goes (Some Exits) Enters = inl refl
goes (Some Exits) Returns = inl refl
goes (Some Exits) IsCancelled = inl refl
goes (Some Exits) Exits = inl refl

module _ (t : ℕ) (late : 1 ≤ t) (stage : Stage) where
  none_along : (marks : List Mark) → stage_along t marks None ≡ None
  none_along [] = refl
  none_along (mark ∷ marks) = none_along marks

  -- In order behind what was told last, and the last line tells the stage.
  abbrev pub Tracks : Option Milestone → List Milestone → Type 0
  Tracks last told = AreInOrder last told × (stage_after (last_of last told) ≡ stage)

  abbrev pub ComesTo : List Mark → Option Milestone → Type 0
  ComesTo marks last = stage_along t marks (Some (stage_after last)) ≡ Some stage

  marked : (mine : Bool) (m : Milestone) (last : Option Milestone) (marks : List Mark) (more : List Milestone) → ((later : Option Milestone) → ComesTo marks later → Tracks later more)
      → stage_along t marks (if mine then from_by m (stage_after last) else Some (stage_after last)) ≡ Some stage → Tracks last ((if mine then m ∷ [] else []) ++ more)
  marked false m last marks more rest e = rest last e
  marked true m last marks more rest e = elim (goes last m) [
    | inl stuck ↦ (let clash : None ≡ Some stage = sym (none_along marks) ∙ (sym (ap (stage_along t marks) stuck) ∙ e) in cc)
    | inr goes ↦ (let k : Tracks (Some m) more = rest (Some m) (sym (ap (stage_along t marks) goes.1) ∙ e) in ((goes.0, k.0), k.1))
  ]

  not_first : nat_eq 0 t ≡ false
  not_first = grind (arith, nat_tests)

  pub tracks : (labels : List Label) (last : Option Milestone) → ComesTo (marks_of labels) last → Tracks last (told_of t labels)
  tracks [] last e = (tt, (let same : Some (stage_after last) ≡ Some stage = e in cc))
  tracks (line.Take call n name values ∷ labels) last e = marked (nat_eq n t) IsMade last (marks_of labels) (told_of t labels) (tracks labels) e
  tracks (line.Call caller n instance ∷ labels) last e = marked (nat_eq n t) IsMade last (marks_of labels) (told_of t labels) (tracks labels) e
  tracks (line.Enter n ∷ labels) last e = marked (nat_eq n t) Enters last (marks_of labels) (told_of t labels) (tracks labels) e
  tracks (line.Return n value ∷ labels) last e = marked (nat_eq n t) Returns last (marks_of labels) (told_of t labels) (tracks labels) e
  tracks (line.Cancelled n ∷ labels) last e = marked (nat_eq n t) IsCancelled last (marks_of labels) (told_of t labels) (tracks labels) e
  tracks (line.Exit zero ∷ labels) last e =
      subst (λ (mine : Bool). Tracks last ((if mine then Exits ∷ [] else []) ++ told_of t labels)) (sym not_first) (tracks labels last e)
  tracks (line.Exit (suc n) ∷ labels) last e = marked (nat_eq (suc n) t) Exits last (marks_of labels) (told_of t labels) (tracks labels) e
  tracks (line.Cancel call ∷ labels) last e = tracks labels last e
  tracks (line.Choose alternatives chosen ∷ labels) last e = tracks labels last e
  tracks (line.Do n builtin words ∷ labels) last e = tracks labels last e
  tracks (line.Got n words ∷ labels) last e = tracks labels last e
  tracks (line.Block n reason ∷ labels) last e = tracks labels last e
  tracks (line.Go n ∷ labels) last e = tracks labels last e
  tracks (line.Event n code index payload ∷ labels) last e = tracks labels last e
  tracks (line.Copy channel copied ∷ labels) last e = tracks labels last e
  tracks (line.Lend instance handle n ∷ labels) last e = tracks labels last e
  tracks (line.Unlend instance handle n ∷ labels) last e = tracks labels last e
  tracks (line.Done ∷ labels) last e = tracks labels last e
  tracks (line.Trap n why ∷ labels) last e = tracks labels last e
  tracks (line.Deadlock tasks ∷ labels) last e = tracks labels last e
  tracks (line.Fuel ∷ labels) last e = tracks labels last e

pub lines_are_in_order : LinesAreInOrder
lines_are_in_order g s steps w r t late = (tracks t late (stage_at w t) (lines_of steps) None (reached_lines_tell g s steps w r t late)).0

pub runs_are_in_order : RunsAreInOrder
runs_are_in_order g s labels last end r t late =
    subst (λ (lines : List Label). AreInOrder None (told_of t lines)) (sym r.3) (lines_are_in_order g s r.0 last r.1 t late)

-- Each at most once.

each_follow : (P : Option Milestone → Milestone → Type 0) → P None IsMade → P (Some IsMade) Enters → P (Some Enters) Returns → P (Some Enters) IsCancelled → P (Some IsMade) IsCancelled → P (Some Returns) Exits → P (Some IsCancelled) Exits
    → (last : Option Milestone) (m : Milestone) → MayFollow last m → P last m
each_follow P a b c d e f k None IsMade h = a
each_follow P a b c d e f k None Enters h = absurd h
each_follow P a b c d e f k None Returns h = absurd h
each_follow P a b c d e f k None IsCancelled h = absurd h
each_follow P a b c d e f k None Exits h = absurd h
each_follow P a b c d e f k (Some IsMade) IsMade h = absurd h
each_follow P a b c d e f k (Some IsMade) Enters h = b
each_follow P a b c d e f k (Some IsMade) Returns h = absurd h
each_follow P a b c d e f k (Some IsMade) IsCancelled h = e
each_follow P a b c d e f k (Some IsMade) Exits h = absurd h
each_follow P a b c d e f k (Some Enters) IsMade h = absurd h
each_follow P a b c d e f k (Some Enters) Enters h = absurd h
each_follow P a b c d e f k (Some Enters) Returns h = c
each_follow P a b c d e f k (Some Enters) IsCancelled h = d
each_follow P a b c d e f k (Some Enters) Exits h = absurd h
each_follow P a b c d e f k (Some Returns) IsMade h = absurd h
each_follow P a b c d e f k (Some Returns) Enters h = absurd h
each_follow P a b c d e f k (Some Returns) Returns h = absurd h
each_follow P a b c d e f k (Some Returns) IsCancelled h = absurd h
each_follow P a b c d e f k (Some Returns) Exits h = f
each_follow P a b c d e f k (Some IsCancelled) IsMade h = absurd h
each_follow P a b c d e f k (Some IsCancelled) Enters h = absurd h
each_follow P a b c d e f k (Some IsCancelled) Returns h = absurd h
each_follow P a b c d e f k (Some IsCancelled) IsCancelled h = absurd h
each_follow P a b c d e f k (Some IsCancelled) Exits h = k
each_follow P a b c d e f k (Some Exits) IsMade h = absurd h
each_follow P a b c d e f k (Some Exits) Enters h = absurd h
each_follow P a b c d e f k (Some Exits) Returns h = absurd h
each_follow P a b c d e f k (Some Exits) IsCancelled h = absurd h
each_follow P a b c d e f k (Some Exits) Exits h = absurd h

-- how often something may still be told behind what was told last
abbrev making_left : Option Milestone → ℕ
making_left None = 1
making_left (Some m) = 0

abbrev entry_left : Option Milestone → ℕ
entry_left None = 1
entry_left (Some IsMade) = 1
entry_left (Some m) = 0

abbrev resolution_left : Option Milestone → ℕ
resolution_left None = 1
resolution_left (Some IsMade) = 1
resolution_left (Some Enters) = 1
resolution_left (Some m) = 0

abbrev exit_left : Option Milestone → ℕ
exit_left (Some Exits) = 0
exit_left last = 1

abbrev counted : Bool → ℕ
counted b = if b then 1 else 0

module _ (test : Milestone → Bool) (left : Option Milestone → ℕ) (less : (last : Option Milestone) (m : Milestone) → MayFollow last m → counted (test m) + left (Some m) ≤ left last) where
  one_more : (b : Bool) (m : Milestone) (ms : List Milestone) (most now : ℕ) → length ms ≤ most → counted b + most ≤ now → length (cond b (m ∷ ms) ms) ≤ now
  one_more true m ms most now h k = omega (arith, h, k)
  one_more false m ms most now h k = omega (arith, h, k)

  few : (last : Option Milestone) (ms : List Milestone) → AreInOrder last ms → length (filter test ms) ≤ left last
  few last [] h = omega arith
  few last (m ∷ ms) h = one_more (test m) m (filter test ms) (left (Some m)) (left last) (few (Some m) ms h.1) (less last m h.0)

pub each_is_told_once : EachIsToldOnce
each_is_told_once g s steps w r t late =
    let h : AreInOrder None (told_of t (lines_of steps)) = lines_are_in_order g s steps w r t late in
    record {
      made = few is_making making_left (each_follow (λ last m. counted (is_making m) + making_left (Some m) ≤ making_left last) (omega arith) (omega arith) (omega arith) (omega arith) (omega arith) (omega arith) (omega arith)) None _ h;
      entered = few is_entry entry_left (each_follow (λ last m. counted (is_entry m) + entry_left (Some m) ≤ entry_left last) (omega arith) (omega arith) (omega arith) (omega arith) (omega arith) (omega arith) (omega arith)) None _ h;
      resolved = few is_resolution resolution_left (each_follow (λ last m. counted (is_resolution m) + resolution_left (Some m) ≤ resolution_left last) (omega arith) (omega arith) (omega arith) (omega arith) (omega arith) (omega arith) (omega arith)) None _ h;
      exited = few is_exit exit_left (each_follow (λ last m. counted (is_exit m) + exit_left (Some m) ≤ exit_left last) (omega arith) (omega arith) (omega arith) (omega arith) (omega arith) (omega arith) (omega arith)) None _ h;
    }
