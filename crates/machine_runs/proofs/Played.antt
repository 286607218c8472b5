-- Runs whose trace goes out as they go.
use Rattle.std.proofs.Common.{◌≡◌, ◌<◌, ◌≤◌, ◌+◌, arith, slice_index_or, ℕ, zero, suc, List, [], ◌∷◌, ◌++◌, length, length-append, take, drop, refl, sym, ap, ◌∙◌, subst, append_assoc, append-nil, Option, Some, None, Result, Ok, Err, OnOk, OnErr, ◌⊎◌, inl, inr, Bool}
use Rattle.std.proofs.lemmas.Grind.{flat_map-append}
use Rattle.std.proofs.Math.Seq.{take-append-add, take-length}
use Rattle.std.specs.Option.{option_map}
use Rattle.faults.specs.declared.memory.MemoryOr.{MemoryOr}
use Rattle.faults.specs.declared.memory.MemoryOr.TheVariants as or
use Rattle.ca_io.specs.Bytes.{grown, TookFront}
use Rattle.programs.specs.declared.program.Program.{Program}
use Rattle.trace_labels.specs.declared.label.Label.{Label}
use Rattle.trace_show.specs.LabelText.{label_text, trace_text}
use Rattle.trace_show.specs.Trace.{put_so_far, HasPutCause}
use Rattle.trace_show.specs.Tally.{Tally, with_line, with_lines}
use Rattle.world_parts.specs.declared.parts.Flow.{Flow}
use Rattle.world_parts.specs.declared.parts.Parts.{Parts}
use Rattle.world_parts.specs.declared.parts.Stop.{Stop}
use Rattle.world_parts.specs.declared.parts.Stop.TheVariants as stop
use Rattle.trace_labels.specs.declared.trap.TrapName.{TrapName}
use Rattle.world_parts.specs.Held.{Held, held, Done}
use Rattle.world_stacks.specs.Views.{PileView}
use Rattle.value_parts.specs.declared.to_pass.Passing.{Passing}
use Rattle.machine_runs.specs.declared.stepping.Step.{Step}
use Rattle.machine_runs.specs.declared.stepping.Step.TheVariants as step
use Rattle.machine_runs.specs.declared.ending.RunEnd.{RunEnd}
use Rattle.machine_runs.specs.declared.ending.LastLine.{LastLine}
use Rattle.machine_runs.specs.declared.fault.RunFault.{RunFault}
use Rattle.machine_runs.specs.declared.fault.RunFault.TheVariants as fault
use Rattle.machine_runs.specs.declared.running_script.Ran.{Ran}
use Rattle.machine_runs.specs.Leading.{LeadsToOne}
use Rattle.machine_runs.specs.Moving.{acting_of}
use Rattle.machine_runs.specs.Worlds.{Point, StepsOn, StepsTo, StepGives, free_line, trap_line, fuel_line, last_line, kept_behind, with_last, handed_on, Goes, GoOn, Reached, most_steps}
use Rattle.machine_runs.specs.Beyond.{IsLost, StepIsLost, IsBeyond}
use Rattle.machine_runs.specs.Playing.{Took, Grew, Puts, TellsAll, put_fault, StepComes, StepStops, Plays, StopsOn, IsLostOn, PlaysOn, WorldRuns, ScriptRuns, HasRunCause}

-- Texts that go out one behind the other.
pub grown_twice : (s : Option (List ℕ)) (a b : List ℕ) → grown (grown s a) b ≡ grown s (a ++ b)
grown_twice None a b = refl
grown_twice (Some t) a b = ap (λ (xs : List ℕ). Some xs) (append_assoc t a b)

pub grown_none : (s : Option (List ℕ)) → grown s [] ≡ s
grown_none None = refl
grown_none (Some t) = ap (λ (xs : List ℕ). Some xs) (append-nil t)

pub text_more : (s : Option (List ℕ)) (before more : List Label) → grown (grown s (trace_text before)) (trace_text more) ≡ grown s (trace_text (before ++ more))
text_more s before more = grown_twice s (trace_text before) (trace_text more) ∙ ap (grown s) (sym (flat_map-append label_text before more))

text_last : (s : Option (List ℕ)) (lines : List Label) (last : Label) → grown (grown s (trace_text lines)) (label_text last) ≡ grown s (trace_text (lines ++ last ∷ []))
text_last s lines last = ap (grown (grown s (trace_text lines))) (sym (append-nil (label_text last))) ∙ text_more s lines (last ∷ [])

-- A front of a text is one of the text with more behind.
front : (n : ℕ) (ys rest : List ℕ) → (m : ℕ) × (take m (ys ++ rest) ≡ take n ys)
front zero ys rest = (0, refl)
front (suc n) [] rest = (0, refl)
front (suc n) (y ∷ ys) rest = let m = front n ys rest in (suc m.0, ap (λ (xs : List ℕ). y ∷ xs) m.1)

pub took_more : (taken text : Option (List ℕ)) (more : List ℕ) → Took taken text → Took taken (grown text more)
took_more taken None more h = h
took_more taken (Some xs) more h = let m = front h.0 xs more in (m.0, h.1 ∙ ap (λ (ys : List ℕ). Some ys) (sym m.1))

-- What a put or a flush took that failed is a front of the text so far.
pub took_front : (before taken : Option (List ℕ)) (kept line : List ℕ) → TookFront before taken (kept ++ line) → Took taken (grown (grown before kept) line)
took_front None taken kept line h = (0, h.1)
took_front (Some t) taken kept line h =
    (length t + h.0, h.1 ∙ ap (λ (xs : List ℕ). Some xs) (sym (take-append-add t (kept ++ line) h.0) ∙ ap (take (length t + h.0)) (sym (append_assoc t kept line))))

pub took_kept : (before taken : Option (List ℕ)) (kept : List ℕ) → TookFront before taken kept → Took taken (grown before kept)
took_kept None taken kept h = (0, h.1)
took_kept (Some t) taken kept h = (length t + h.0, h.1 ∙ ap (λ (xs : List ℕ). Some xs) (sym (take-append-add t kept h.0)))

-- A put or a flush fails.
pub put_fails : (before taken : Option (List ℕ)) (kept line : List ℕ) → TookFront before taken (kept ++ line) → Took taken (grown (put_so_far before kept) line)
put_fails before taken kept line h = took_front before taken kept line h

-- What was taken is a front of the text so far.
took_same : (taken : Option (List ℕ)) → Took taken taken
took_same None = (0, refl)
took_same (Some t) = (length t, ap (λ (xs : List ℕ). Some xs) (sym (take-length t)))

pub took_so_far : (taken : Option (List ℕ)) (kept : List ℕ) → Took taken (put_so_far taken kept)
took_so_far taken kept = took_more taken taken kept (took_same taken)

pub took_all : (taken text : Option (List ℕ)) → taken ≡ text → Took taken text
took_all taken text e = subst (Took taken) e (took_same taken)

pub flush_fails : (before mid taken : Option (List ℕ)) (kept held line : List ℕ) → put_so_far mid held ≡ grown (put_so_far before kept) line → TookFront mid taken held
    → Took taken (grown (put_so_far before kept) line)
flush_fails before mid taken kept held line e h = subst (Took taken) e (took_kept mid taken held h)

-- What was taken grew.
pub grew_none : (s : Option (List ℕ)) → Grew s s
grew_none s = ([], sym (grown_none s))

pub grew_then : (s t u : Option (List ℕ)) → Grew s t → Grew t u → Grew s u
grew_then s t u h k = (h.0 ++ k.0, k.1 ∙ ap (λ (o : Option (List ℕ)). grown o k.0) h.1 ∙ grown_twice s h.0 k.0)

pub grew_front : (before now : Option (List ℕ)) (text : List ℕ) → TookFront before now text → Grew before now
grew_front before now text h = (take h.0 text, h.1)

tails : (x y : ℕ) (xs ys : List ℕ) → x ∷ xs ≡ y ∷ ys → xs ≡ ys
tails x y xs ys e = cc

heads : (x y : ℕ) (xs ys : List ℕ) → x ∷ xs ≡ y ∷ ys → x ≡ y
heads x y xs ys e = cc

some_inj : (xs ys : List ℕ) → ◌≡◌ {A = Option (List ℕ)} (Some xs) (Some ys) → xs ≡ ys
some_inj xs ys e = cc

-- A longer front of one text goes on behind a shorter one.
longer : (t u xs ys : List ℕ) → u ++ ys ≡ t ++ xs → length t ≤ length u → (more : List ℕ) × (u ≡ t ++ more)
longer [] u xs ys e h = (u, refl)
longer (x ∷ t) [] xs ys e h = absurd (omega (arith, h))
longer (x ∷ t) (y ∷ u) xs ys e h =
    let rest = longer t u xs ys (tails y x (u ++ ys) (t ++ xs) e) (omega (arith, h)) in
    (rest.0, ap (λ (z : ℕ). z ∷ u) (heads y x (u ++ ys) (t ++ xs) e) ∙ ap (λ (us : List ℕ). x ∷ us) rest.1)

-- Whole rooms were taken.
pub grew_put : (start taken : Option (List ℕ)) (kept held line : List ℕ) (rooms : ℕ) → put_so_far taken held ≡ grown (put_so_far start kept) line
    → length held + rooms ≡ length kept + length line → Grew start taken
grew_put None None kept held line rooms e h = ([], refl)
grew_put None (Some u) kept held line rooms e h = cc
grew_put (Some t) None kept held line rooms e h = cc
grew_put (Some t) (Some u) kept held line rooms e h =
    let same : u ++ held ≡ t ++ (kept ++ line) = some_inj (u ++ held) ((t ++ kept) ++ line) e ∙ append_assoc t kept line in
    let long : length u + length held ≡ length t + (length kept + length line) =
    sym (length-append u held) ∙ ap length same ∙ length-append t (kept ++ line) ∙ ap (λ (n : ℕ). length t + n) (length-append kept line) in
    let more = longer t u (kept ++ line) held same (omega (arith, long, h)) in
    (more.0, ap (λ (us : List ℕ). Some us) more.1)

-- What was taken is a front of what stood there with a text behind, and grew: so it grew by a front of that text.
behind_front : (t more xs : List ℕ) (n : ℕ) → take n (t ++ xs) ≡ t ++ more → (k : ℕ) × (more ≡ take k xs)
behind_front [] more xs n e = (n, sym e)
behind_front (x ∷ t) more xs zero e = cc
behind_front (x ∷ t) more xs (suc n) e = behind_front t more xs n (tails x x (take n (t ++ xs)) (t ++ more) e)

pub front_of : (start taken : Option (List ℕ)) (kept text : List ℕ) → Took taken (grown (put_so_far start kept) text) → Grew start taken → TookFront start taken (kept ++ text)
front_of None taken kept text h g = (0, g.1)
front_of (Some t) taken kept text h g =
    let both : ◌≡◌ {A = Option (List ℕ)} (Some (take h.0 ((t ++ kept) ++ text))) (Some (t ++ g.0)) = sym h.1 ∙ g.1 in
    let same : take h.0 (t ++ (kept ++ text)) ≡ t ++ g.0 = ap (take h.0) (sym (append_assoc t kept text)) ∙ some_inj (take h.0 ((t ++ kept) ++ text)) (t ++ g.0) both in
    let k = behind_front t g.0 (kept ++ text) h.0 same in
    (k.0, g.1 ∙ ap (λ (m : List ℕ). Some (t ++ m)) k.1)

-- Lines that are put, one behind the other: the text of the others is to follow.
pub line_at : (lines : List Label) (k : ℕ) (line : Label) → k < length lines → line ≡ slice_index_or lines k line → drop k lines ≡ line ∷ drop (suc k) lines
line_at [] k line h e = absurd (omega (arith, h))
line_at (first ∷ lines) zero line h e = ap (λ (l : Label). l ∷ lines) (sym e)
line_at (first ∷ lines) (suc k) line h e = line_at lines k line (omega (arith, h)) e

line_told : (s : Option (List ℕ)) (line : Label) (some others : List Label) (all : Option (List ℕ)) → some ≡ line ∷ others → grown s (trace_text some) ≡ all
    → grown (grown s (label_text line)) (trace_text others) ≡ all
line_told s line some others all e h = grown_twice s (label_text line) (trace_text others) ∙ sym (ap (λ (ls : List Label). grown s (trace_text ls)) e) ∙ h

pub puts_more : (s next : Option (List ℕ)) (lines : List Label) (k : ℕ) (line : Label) (all : Option (List ℕ)) → grown s (trace_text (drop k lines)) ≡ all → next ≡ grown s (label_text line)
    → k < length lines → line ≡ slice_index_or lines k line → grown next (trace_text (drop (k + 1) lines)) ≡ all
puts_more s next lines k line all h e within is =
    let one : suc k ≡ k + 1 = omega arith in
    subst (λ (n : ℕ). grown next (trace_text (drop n lines)) ≡ all) one (ap (λ (t : Option (List ℕ)). grown t (trace_text (drop (suc k) lines))) e ∙ line_told s line (drop k lines) (drop (suc k) lines) all (line_at lines k line within is) h)

pub puts_end : {E : Type 0} (before mid taken so_far : Option (List ℕ)) (kept : List ℕ) (lines : List Label) (k : ℕ) (line : Label) (e : MemoryOr E)
    → grown (put_so_far mid kept) (trace_text (drop k lines)) ≡ grown before (trace_text lines) → TookFront mid taken (kept ++ label_text line)
    → k < length lines → line ≡ slice_index_or lines k line → (let r : Result (Unit {0}) (MemoryOr E) = Err e in Puts before lines r so_far taken)
puts_end before mid taken so_far kept lines k line e h t within is =
    subst (Took taken) (line_told (put_so_far mid kept) line (drop k lines) (drop (suc k) lines) (grown before (trace_text lines)) (line_at lines k line within is) h)
    (took_more taken (grown (put_so_far mid kept) (label_text line)) (trace_text (drop (suc k) lines)) (took_front mid taken kept (label_text line) t))

-- What is counted of lines that are put, one behind the other.
tally_told : (t m u : Tally) (line : Label) (some others lines : List Label) → some ≡ line ∷ others → with_lines m some ≡ with_lines t lines → u ≡ with_line m line
    → with_lines u others ≡ with_lines t lines
tally_told t m u line some others lines is told one =
    ap (λ (n : Tally). with_lines n others) one ∙ sym (ap (λ (ls : List Label). with_lines m ls) is) ∙ told

pub tally_put : (t m u : Tally) (lines : List Label) (k : ℕ) (line : Label) → with_lines m (drop k lines) ≡ with_lines t lines → u ≡ with_line m line → k < length lines
    → line ≡ slice_index_or lines k line → with_lines u (drop (k + 1) lines) ≡ with_lines t lines
tally_put t m u lines k line told one within is =
    let next : suc k ≡ k + 1 = omega arith in
    subst (λ (n : ℕ). with_lines u (drop n lines) ≡ with_lines t lines) next
    (tally_told t m u line (drop k lines) (drop (suc k) lines) lines (line_at lines k line within is) told one)

none_left : (lines : List Label) (k : ℕ) → length lines ≤ k → drop k lines ≡ []
none_left [] zero h = refl
none_left [] (suc k) h = refl
none_left (line ∷ lines) zero h = absurd (omega (arith, h))
none_left (line ∷ lines) (suc k) h = none_left lines k (omega (arith, h))

pub tally_end : (t m : Tally) (lines : List Label) (k : ℕ) → with_lines m (drop k lines) ≡ with_lines t lines → length lines ≤ k → m ≡ with_lines t lines
tally_end t m lines k told none = sym (ap (λ (ls : List Label). with_lines m ls) (none_left lines k none)) ∙ told

-- What is counted of lines, one behind the other.
pub tally_more : (t : Tally) (before more : List Label) → with_lines t (before ++ more) ≡ with_lines (with_lines t before) more
tally_more t [] more = refl
tally_more t (line ∷ before) more = tally_more (with_line t line) before more

pub tally_last : {E : Type 0} (t m u : Tally) (lines : List Label) (last : LastLine) (r : Result (Unit {0}) E) → m ≡ with_lines t lines → OnOk r (u ≡ with_line m last.line)
    → OnOk r (u ≡ with_lines t (with_last lines (Some last)))
tally_last t m u lines last (Ok done) told one = one ∙ ap (λ (n : Tally). with_line n last.line) told ∙ sym (tally_more t lines (last.line ∷ []))
tally_last t m u lines last (Err e) told one = tt

-- Causes, one behind the other.
pub cause_then : {T U E : Type 0} (a b c : ℕ) (x : T) (r : Result U (MemoryOr E)) → (let s : Result T (MemoryOr E) = Ok x in HasPutCause a b s) → HasPutCause b c r → HasPutCause a c r
cause_then {T} {U} {E} a b c x r h k = subst (λ (n : ℕ). HasPutCause n c r) h.told k

-- The last line goes out behind others.
pub told_end : {E : Type 0} (before : Option (List ℕ)) (lines : List Label) (last : Option LastLine) (e : MemoryOr E) (mid so_far taken : Option (List ℕ))
    → (let r : Result (Unit {0}) (MemoryOr E) = Err e in Puts before lines r mid taken) → (let r : Result (Unit {0}) (MemoryOr E) = Err e in TellsAll before lines last r so_far taken)
told_end before lines None e mid so_far taken h = h
told_end before lines (Some last) e mid so_far taken h =
    subst (Took taken) (text_last before lines last.line) (took_more taken (grown before (trace_text lines)) (label_text last.line) h)

pub told_last : {E : Type 0} (before : Option (List ℕ)) (lines : List Label) (last : LastLine) (r : Result (Unit {0}) (MemoryOr E)) (mid so_far taken : Option (List ℕ))
    → mid ≡ grown before (trace_text lines) → OnOk r (taken ≡ grown mid (label_text last.line)) → OnErr r (Took taken (grown mid (label_text last.line)))
    → TellsAll before lines (Some last) r so_far taken
told_last before lines last (Ok done) mid so_far taken e h f = h ∙ ap (λ (s : Option (List ℕ)). grown s (label_text last.line)) e ∙ text_last before lines last.line
told_last before lines last (Err x) mid so_far taken e h f =
    subst (Took taken) (ap (λ (s : Option (List ℕ)). grown s (label_text last.line)) e ∙ text_last before lines last.line) f

none_acts : (why : TrapName) (o : Option ℕ) → trap_line why o ≡ None → o ≡ None
none_acts why None e = refl
none_acts why (Some t) e = cc

module _ (R : Program → Passing → Held → Done Flow → Type 0) (p : Program) (a : Point) where
  -- What a step came to.
  pub next_goes : (x : Passing) (new : Parts) (piles : List PileView) → LeadsToOne (StepsTo R p a) (Ok (step.GoesOn x)) new piles
      → StepGives R p a None (record { held = held new; piles = piles; passing = x })
  next_goes x new piles m = subst (StepsTo R p a) m.2 m.1

  pub next_ends : (b : Point) (new : Parts) (piles : List PileView) (last : LastLine) → LeadsToOne (StepsTo R p a) (Ok step.Ends) new piles → last ≡ free_line (held new).live
      → b.held ≡ held new → StepGives R p a (Some last) b
  next_ends b new piles last m e same =
      (m.0, m.1, ap last_line m.2 ∙ ap (λ (l : LastLine). Some l) (sym e), ap kept_behind m.2 ∙ ap (λ (h : Held). Some h) (sym same))

  pub next_traps : (b : Point) (why : TrapName) (new : Parts) (piles : List PileView) (last : LastLine)
      → (let r : Result Step Stop = Err (stop.Trap why) in LeadsToOne (StepsTo R p a) r new piles) → trap_line why (acting_of (held new)) ≡ Some last → b.held ≡ held new → StepGives R p a (Some last) b
  next_traps b why new piles last m e same = (m.0, m.1, ap last_line m.2 ∙ e, ap kept_behind m.2 ∙ ap (λ (h : Held). Some h) (sym same))

  pub next_wants : (b : Point) (new : Parts) (piles : List PileView) (last : LastLine)
      → (let r : Result Step Stop = Err stop.NoFuel in LeadsToOne (StepsTo R p a) r new piles) → last ≡ fuel_line → b.held ≡ held new → StepGives R p a (Some last) b
  next_wants b new piles last m e same =
      (m.0, m.1, ap last_line m.2 ∙ ap (λ (l : LastLine). Some l) (sym e), ap kept_behind m.2 ∙ ap (λ (h : Held). Some h) (sym same))

  pub next_lost : (new : Parts) (piles : List PileView) → (let r : Result Step Stop = Err stop.Stuck in LeadsToOne (StepsTo R p a) r new piles) → StepIsLost R p a
  next_lost new piles m = (m.0, m.1, subst IsLost (sym m.2) tt)

  pub next_lost_trap : (why : TrapName) (new : Parts) (piles : List PileView) → (let r : Result Step Stop = Err (stop.Trap why) in LeadsToOne (StepsTo R p a) r new piles)
      → trap_line why (acting_of (held new)) ≡ None → StepIsLost R p a
  next_lost_trap why new piles m e = (m.0, m.1, subst IsLost (sym m.2) (none_acts why (acting_of (held new)) e))

  -- A step, with its lines.
  pub plays_none : (taken : Option (List ℕ)) (kept : List ℕ) (t u : Tally) (b c : Point) (e : RunFault) (so_far : Option (List ℕ))
      → (let r : Result (Option LastLine) RunFault = Err e in StepComes R p a r b) → (let r : Result (Option RunEnd) RunFault = Err e in Plays R p a (put_so_far taken kept) t r c so_far taken u)
  plays_none taken kept t u b c fault.Write so_far h = absurd h
  plays_none taken kept t u b c fault.Memory so_far h = ([], inl refl, took_more taken (put_so_far taken kept) [] (took_so_far taken kept))
  plays_none taken kept t u b c fault.Beyond so_far h = (h, took_so_far taken kept)

  pub none_caused : (n : ℕ) (b : Point) (e : RunFault) → (let r : Result (Option LastLine) RunFault = Err e in StepComes R p a r b)
      → (let r : Result (Option RunEnd) RunFault = Err e in HasRunCause n n r)
  none_caused n b fault.Write h = absurd h
  none_caused n b fault.Memory h = record { later = omega arith; told = refl }
  none_caused n b fault.Beyond h = record { later = omega arith; told = refl }

  told_stops : {E : Type 0} (before : Option (List ℕ)) (lines : List Label) (last : Option LastLine) (b : Point) (e : MemoryOr E) (mid taken : Option (List ℕ)) → StepGives R p a last b
      → lines ≡ b.held.labels → (let r : Result (Unit {0}) (MemoryOr E) = Err e in TellsAll before lines last r mid taken) → StepStops R p a before taken
  told_stops before lines None b e mid taken g is t = (lines, inr (None, b, g, is), t)
  told_stops before lines (Some last) b e mid taken g is t =
      (with_last lines (Some last), inr (Some last, b, g, ap (λ (ls : List Label). with_last ls (Some last)) is), t)

  put_stops : {E : Type 0} (before : Option (List ℕ)) (t u : Tally) (e : MemoryOr E) (c : Point) (so_far taken : Option (List ℕ)) → StepStops R p a before taken
      → (let r : Result (Option RunEnd) RunFault = Err (put_fault e) in Plays R p a before t r c so_far taken u)
  put_stops before t u or.Memory c so_far taken h = h
  put_stops before t u (or.Fault f) c so_far taken h = h

  pub plays_end : {E : Type 0} (before : Option (List ℕ)) (lines : List Label) (last : Option LastLine) (b c : Point) (e : MemoryOr E) (x : RunFault) (t u : Tally) (mid so_far taken : Option (List ℕ))
      → StepGives R p a last b → lines ≡ b.held.labels → (let r : Result (Unit {0}) (MemoryOr E) = Err e in TellsAll before lines last r mid taken) → x ≡ put_fault e
      → (let r : Result (Option RunEnd) RunFault = Err x in Plays R p a before t r c so_far taken u)
  plays_end before lines last b c e x t u mid so_far taken g is told same =
      subst (λ (y : RunFault). let r : Result (Option RunEnd) RunFault = Err y in Plays R p a before t r c so_far taken u) (sym same)
      (put_stops before t u e c so_far taken (told_stops before lines last b e mid taken g is told))

  pub plays_ok : (E : Type 0) (before : Option (List ℕ)) (lines : List Label) (last : Option LastLine) (b c : Point) (o : Option RunEnd) (t u : Tally) (so_far taken : Option (List ℕ)) → StepGives R p a last b
      → lines ≡ b.held.labels → u ≡ with_lines t (with_last lines last) → c ≡ handed_on b → o ≡ option_map (λ (l : LastLine). l.end) last
      → (let r : Result (Unit {0}) (MemoryOr E) = Ok tt in TellsAll before lines last r so_far taken)
      → (let r : Result (Option RunEnd) RunFault = Ok o in Plays R p a before t r c so_far taken u)
  plays_ok E before lines None b c o t u so_far taken g e count same is told =
      subst (λ (x : Option RunEnd). let r : Result (Option RunEnd) RunFault = Ok x in Plays R p a before t r c so_far taken u) (sym is) (lines, (b, g, e, same), told, count)
  plays_ok E before lines (Some last) b c o t u so_far taken g e count same is told =
      subst (λ (x : Option RunEnd). let r : Result (Option RunEnd) RunFault = Ok x in Plays R p a before t r c so_far taken u) (sym is)
      (with_last lines (Some last), (last, b, g, refl, ap (λ (ls : List Label). with_last ls (Some last)) e, ap (λ (q : Point). q.held) same), told, count)

  -- Steps behind steps.
  pub reached_none : Reached R p a [] a
  reached_none = record { count = zero; steps = (refl, refl) }

  -- So many steps have led to a world, and their lines have gone out.
  abbrev pub At : ℕ → Option (List ℕ) → Tally → Option (List ℕ) → Tally → Point → Type 0
  At count start t so_far u b = (lines : List Label) × GoOn R p count a lines b × (so_far ≡ grown start (trace_text lines)) × (u ≡ with_lines t lines)

  pub on_first : (start : Option (List ℕ)) (t : Tally) → At 0 start t start t a
  on_first start t = ([], (refl, refl), sym (grown_none start), refl)

  reached_by : (count : ℕ) (lines : List Label) (b : Point) → GoOn R p count a lines b → Reached R p a lines b
  reached_by count lines b h = record { count = count; steps = h }

  one_more : (count : ℕ) (before more : List Label) (b c : Point) → GoOn R p count a before b → Goes R p b more c → GoOn R p (count + 1) a (before ++ more) c
  one_more count before more b c h g =
      let one : suc count ≡ count + 1 = omega arith in
      subst (λ (n : ℕ). GoOn R p n a (before ++ more) c) one (b, before, more, h, g, refl)

  pub on_more : (count : ℕ) (start mid so_far taken : Option (List ℕ)) (t m u : Tally) (b c : Point) (o : Option RunEnd) → At count start t mid m b → o ≡ None
      → (let r : Result (Option RunEnd) RunFault = Ok o in Plays R p b mid m r c so_far taken u) → At (count + 1) start t so_far u c
  on_more count start mid so_far taken t m u b c o at is told =
      let x : (let r : Result (Option RunEnd) RunFault = Ok None in Plays R p b mid m r c so_far taken u)
      = subst (λ (x : Option RunEnd). let r : Result (Option RunEnd) RunFault = Ok x in Plays R p b mid m r c so_far taken u) is told in (
        at.0 ++ x.0,
        one_more count at.0 x.0 b c at.1 x.1,
        x.2 ∙ ap (λ (s : Option (List ℕ)). grown s (trace_text x.0)) at.2 ∙ text_more start at.0 x.0,
        x.3 ∙ ap (λ (n : Tally). with_lines n x.0) at.3 ∙ sym (tally_more t at.0 x.0),
      )

  pub on_ends : (count : ℕ) (start mid so_far taken : Option (List ℕ)) (t m u : Tally) (b c : Point) (end : RunEnd) (o : Option RunEnd) → At count start t mid m b → o ≡ Some end
      → (let r : Result (Option RunEnd) RunFault = Ok o in Plays R p b mid m r c so_far taken u) → (let r : Result RunEnd RunFault = Ok end in PlaysOn R p a start t r c taken u)
  on_ends count start mid so_far taken t m u b c end o at is told =
      let x : (let r : Result (Option RunEnd) RunFault = Ok (Some end) in Plays R p b mid m r c so_far taken u)
      = subst (λ (x : Option RunEnd). let r : Result (Option RunEnd) RunFault = Ok x in Plays R p b mid m r c so_far taken u) is told in (
        at.0 ++ x.0,
        record { before = at.0; last = b; more = x.0; goes = reached_by count at.0 b at.1; ends = x.1; lines_are = refl },
        x.2 ∙ ap (λ (s : Option (List ℕ)). grown s (trace_text x.0)) at.2 ∙ text_more start at.0 x.0,
        x.3 ∙ ap (λ (n : Tally). with_lines n x.0) at.3 ∙ sym (tally_more t at.0 x.0),
      )

  stops_on : (count : ℕ) (start mid taken : Option (List ℕ)) (t m : Tally) (b : Point) → At count start t mid m b → StepStops R p b mid taken → StopsOn R p a start taken
  stops_on count start mid taken t m b at (lines, inl none, took) =
      (at.0, inl (b, reached_by count at.0 b at.1), subst (Took taken) (ap (λ (ls : List Label). grown mid (trace_text ls)) none ∙ grown_none mid ∙ at.2) took)
  stops_on count start mid taken t m b at (lines, inr told, took) =
      (at.0 ++ lines, inr (b, at.0, lines, reached_by count at.0 b at.1, told, refl), subst (Took taken) (ap (λ (s : Option (List ℕ)). grown s (trace_text lines)) at.2 ∙ text_more start at.0 lines) took)

  pub on_fails : (count : ℕ) (start mid so_far taken : Option (List ℕ)) (t m u : Tally) (b c : Point) (x : RunFault) → At count start t mid m b
      → (let r : Result (Option RunEnd) RunFault = Err x in Plays R p b mid m r c so_far taken u) → (let r : Result RunEnd RunFault = Err x in PlaysOn R p a start t r c taken u)
  on_fails count start mid so_far taken t m u b c fault.Write at h = stops_on count start mid taken t m b at h
  on_fails count start mid so_far taken t m u b c fault.Memory at h = stops_on count start mid taken t m b at h
  on_fails count start mid so_far taken t m u b c fault.Beyond at h =
      (at.0, record { count = count; last = b; steps = at.1; behind = inl h.0 }, subst (Took taken) at.2 h.1)

  pub on_out : (count : ℕ) (start taken : Option (List ℕ)) (t m u : Tally) (kept : List ℕ) (b : Point) → At count start t (put_so_far taken kept) m b → count ≡ most_steps
      → (let r : Result RunEnd RunFault = Err fault.Beyond in PlaysOn R p a start t r b taken u)
  on_out count start taken t m u kept b at e =
      (at.0, record { count = count; last = b; steps = at.1; behind = inr e }, subst (Took taken) at.2 (took_so_far taken kept))

  -- A run that came to its end, of which no dump is made; and one that did not begin.
  pub no_dump : (start taken : Option (List ℕ)) (t u : Tally) (b : Point) (end : RunEnd) (dumps : Bool)
      → (let r : Result RunEnd RunFault = Ok end in PlaysOn R p a start t r b taken u) → (let r : Result Ran RunFault = Err fault.Memory in WorldRuns R p a dumps start t r taken u)
  no_dump start taken t u b end dumps h =
      (h.0, inr (h.1.last, h.1.before, h.1.more, h.1.goes, (Some h.1.ends.0, h.1.ends.1, h.1.ends.2, h.1.ends.4), h.1.lines_are), took_all taken (grown start (trace_text h.0)) h.2)

  pub world_ends : (start taken : Option (List ℕ)) (t u : Tally) (b : Point) (dumps : Bool) (e : RunFault) → (let r : Result RunEnd RunFault = Err e in PlaysOn R p a start t r b taken u)
      → (let r : Result Ran RunFault = Err e in WorldRuns R p a dumps start t r taken u)
  world_ends start taken t u b dumps fault.Write h = h
  world_ends start taken t u b dumps fault.Memory h = h
  world_ends start taken t u b dumps fault.Beyond h = h

  pub no_world : (taken : Option (List ℕ)) (t u : Tally) (kept : List ℕ) (dumps : Bool) → (let r : Result Ran RunFault = Err fault.Memory in ScriptRuns R p a dumps taken kept t r taken u)
  no_world taken t u kept dumps = ([], inl (a, reached_none), (0, sym (grown_none taken)))

  -- What went out is told behind what the sink had taken.
  pub script_runs : (dumps : Bool) (start taken : Option (List ℕ)) (t u : Tally) (kept : List ℕ) (r : Result Ran RunFault) → WorldRuns R p a dumps (put_so_far start kept) t r taken u → Grew start taken
      → ScriptRuns R p a dumps start kept t r taken u
  script_runs dumps start taken t u kept (Ok ran) h g = (h.0, h.1, h.2, h.3 ∙ grown_twice start kept (trace_text h.0), h.4, h.5)
  script_runs dumps start taken t u kept (Err fault.Write) h g = (h.0, h.1, front_of start taken kept (trace_text h.0) h.2 g)
  script_runs dumps start taken t u kept (Err fault.Memory) h g = (h.0, h.1, front_of start taken kept (trace_text h.0) h.2 g)
  script_runs dumps start taken t u kept (Err fault.Beyond) h g = (h.0, h.1, front_of start taken kept (trace_text h.0) h.2 g)

-- Causes of what ends a step are those of what was put.
pub put_caused : {E : Type 0} (before now : ℕ) (e : MemoryOr E) (x : RunFault) → (let r : Result (Unit {0}) (MemoryOr E) = Err e in HasPutCause before now r) → x ≡ put_fault e
    → (let r : Result (Option RunEnd) RunFault = Err x in HasRunCause before now r)
put_caused before now or.Memory x h same =
    subst (λ (y : RunFault). let r : Result (Option RunEnd) RunFault = Err y in HasRunCause before now r) (sym same) (record { later = h.later; told = h.told })
put_caused before now (or.Fault f) x h same =
    subst (λ (y : RunFault). let r : Result (Option RunEnd) RunFault = Err y in HasRunCause before now r) (sym same) (record { later = h.later; told = h.told })

-- What holds of a world holds of the same one.
pub sound_at : (R : Program → Passing → Held → Done Flow → Type 0) (p : Program) (a b : Point) → a ≡ b → StepsOn R p b → StepsOn R p a
sound_at R p a b e h = subst (StepsOn R p) (sym e) h
