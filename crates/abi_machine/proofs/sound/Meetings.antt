-- What reads and writes leave of both ends: counts in their ranges, and one offer that stands. Nothing is asked of whether an end is dropped.
use Rattle.std.proofs.Common.{◌≡◌, ◌≤◌, ◌<◌, ◌^◌, ℕ, true, false, is_some, nat_lt, refl, sym, ap, ◌∙◌, subst, arith, Option, Some, None, if◌then◌else◌}
use Rattle.builtin_kinds.specs.declared.EndKind.{EndKind}
use Rattle.builtin_kinds.specs.declared.EndKind.TheVariants.{Stream, Future}
use Rattle.stream_ends.specs.declared.side.Side.{Side}
use Rattle.stream_ends.specs.declared.side.Side.TheVariants.{Reader, Writer}
use Rattle.stream_ends.specs.declared.open_copy.By.{By}
use Rattle.stream_ends.specs.declared.open_copy.OpenCopy.{OpenCopy}
use Rattle.stream_ends.specs.declared.stream_end.End.{End}
use Rattle.stream_ends.specs.declared.meet.Meet.TheVariants.{Dropped, Displaces, ZeroDone}
use Rattle.stream_ends.specs.Ends.{EndsView, no_end, end_at, other_side, new_copy, standing_of, room_of, leaves}
use Rattle.stream_ends.specs.Meeting.{Meeting, met, met_at, met_offer, met_full, room_meet, is_empty_pair, with_offer, made_done, after, stands, standing_side, after_copy, EndSound, Sound}
use Rattle.stream_ends.proofs.Meetings.{if_holds, none_sound, Gone, leaves_gone, Keeps, one_turned}
use Rattle.stream_ends.proofs.Keeping.{grown_sound}
use Rattle.future_ends.specs.declared.meet.Meet.TheVariants as future_case
use Rattle.future_ends.specs.Meeting as future
use Rattle.future_ends.proofs.Meetings as future_meetings
use Rattle.future_ends.proofs.Keeping.{copied_from_sound}
use Rattle.abi_machine.specs.sound.Agreeing.{IsDue}

-- Streams: a call at an end that is not done and has no copy.

abbrev KeepsBoth : Meeting → Type 0
KeepsBoth m = Keeps m.own m.other

call_sound : (by : By) (canon place length : ℕ) (own : End) → own.done ≡ false → length < 2 ^ 28 → EndSound (with_offer (new_copy by canon place length) own)
call_sound by canon place length own going short =
    record {
      copied = omega arith;
      length = short;
      over = λ done. absurd (let clash : false ≡ true = sym going ∙ done in let none : ⊥ = cc in none);
      fresh = λ _. refl;
      waits = λ _. refl;
    }

offer_keeps : (side : Side) (call : OpenCopy) (own other : End) (o : Option OpenCopy) → Keeps (record own { copy = None }) other → EndSound (with_offer call own) → standing_of other.copy ≡ o
    → KeepsBoth (met_offer side call (record own { copy = None }) other o)
offer_keeps side call own other None keeps new h = record { own_fits = new; other_fits = keeps.other_fits; one = λ _. ap is_some h }
offer_keeps side call own other (Some offer) keeps new h =
    let bare : End = record own { copy = None } in
    let gone : Gone (leaves other) = leaves_gone other keeps.other_fits in
    if_holds KeepsBoth (nat_lt offer.copied offer.length) (record { meet = room_meet call offer; own = bare; other = other }) (met_full side call bare other offer) (λ _. keeps)
    (λ _.
    if_holds KeepsBoth (is_empty_pair side call offer) (record { meet = ZeroDone; own = bare; other = other }) (record { meet = Displaces; own = with_offer call bare; other = leaves other }) (λ _. keeps)
    (λ _. record { own_fits = new; other_fits = gone.fits; one = λ _. gone.gone }))

bare_keeps : (side : Side) (call : OpenCopy) (own other : End) → EndSound (with_offer call own) → EndSound other → KeepsBoth (met side call (record own { copy = None }) other)
unfolding met
bare_keeps side call own other new other_fits =
    let bare : End = record own { copy = None } in
    let keeps : Keeps bare other = record { own_fits = none_sound own.dropped own.done; other_fits = other_fits; one = λ (h : false ≡ true). absurd (let none : ⊥ = cc in none) } in
    if_holds KeepsBoth other.dropped (record { meet = Dropped; own = made_done bare; other = other }) (met_offer side call bare other (standing_of other.copy))
    (λ _. record { own_fits = none_sound own.dropped true; other_fits = other_fits; one = λ (h : false ≡ true). absurd (let none : ⊥ = cc in none) })
    (λ _. offer_keeps side call own other (standing_of other.copy) keeps new refl)

pub bare_is : (own : End) → own.copy ≡ None → record own { copy = None } ≡ own
bare_is own none = ap (λ (c : Option OpenCopy). (let e : End = record own { copy = c } in e)) (sym none)

met_keeps : (side : Side) (call : OpenCopy) (own other : End) → own.copy ≡ None → EndSound (with_offer call own) → EndSound other → KeepsBoth (met side call own other)
met_keeps side call own other none new other_fits = subst (λ (e : End). KeepsBoth (met side call e other)) (bare_is own none) (bare_keeps side call own other new other_fits)

pub stream_call_sound : (side : Side) (by : By) (canon place length : ℕ) (ends : EndsView) → Sound ends → (end_at side ends).copy ≡ None → (end_at side ends).done ≡ false → length < 2 ^ 28
    → Sound (after side (met_at side (new_copy by canon place length) ends))
stream_call_sound Reader by canon place length ends sound none going short =
    let call : OpenCopy = new_copy by canon place length in
    let k : Keeps (met Reader call ends.reader ends.writer).own (met Reader call ends.reader ends.writer).other =
    met_keeps Reader call ends.reader ends.writer none (call_sound by canon place length ends.reader going short) sound.writer in
    record { reader = k.own_fits; writer = k.other_fits; one = k.one }
stream_call_sound Writer by canon place length ends sound none going short =
    let call : OpenCopy = new_copy by canon place length in
    let k : Keeps (met Writer call ends.writer ends.reader).own (met Writer call ends.writer ends.reader).other =
    met_keeps Writer call ends.writer ends.reader none (call_sound by canon place length ends.writer going short) sound.reader in
    record {
      reader = k.other_fits;
      writer = k.own_fits;
      one = one_turned (stands (met Writer call ends.writer ends.reader).own) (stands (met Writer call ends.writer ends.reader).other) k.one;
    }

-- Futures.

future_call : (by : By) (canon place : ℕ) (own : End) → own.done ≡ false → future.EndSound (with_offer (new_copy by canon place 1) own)
future_call by canon place own going =
    record {
      over = λ done. absurd (let clash : false ≡ true = sym going ∙ done in let none : ⊥ = cc in none);
      length = λ _. refl;
      copied = omega arith;
      fresh = refl;
      waits = λ _. refl;
    }

abbrev KeepsOwn : End → future.Meeting → Type 0
KeepsOwn other m = future_meetings.Keeps other m.own

future_offer : (call : OpenCopy) (own other : End) (o : Option OpenCopy) → future.EndSound (with_offer call own) → standing_of other.copy ≡ o → KeepsOwn other (future.met_offer call (record own { copy = None }) o)
future_offer call own other None new h = record { own = new; one = λ _. ap is_some h }
future_offer call own other (Some offer) new h =
    record { own = future_meetings.none_sound own.dropped own.done; one = λ (e : false ≡ true). absurd (let none : ⊥ = cc in none) }

future_bare : (call : OpenCopy) (own other : End) → future.EndSound (with_offer call own) → KeepsOwn other (future.met call (record own { copy = None }) other)
unfolding future.met
future_bare call own other new =
    let bare : End = record own { copy = None } in
    future_meetings.if_holds (KeepsOwn other) other.dropped (record { meet = future_case.Dropped; own = made_done bare }) (future.met_offer call bare (standing_of other.copy))
    (record { own = future_meetings.none_sound own.dropped true; one = λ (e : false ≡ true). absurd (let none : ⊥ = cc in none) })
    (future_offer call own other (standing_of other.copy) new refl)

future_met : (call : OpenCopy) (own other : End) → own.copy ≡ None → future.EndSound (with_offer call own) → KeepsOwn other (future.met call own other)
future_met call own other none new = subst (λ (e : End). KeepsOwn other (future.met call e other)) (bare_is own none) (future_bare call own other new)

pub future_call_sound : (side : Side) (by : By) (canon place : ℕ) (ends : EndsView) → future.Sound ends → (end_at side ends).copy ≡ None → (end_at side ends).done ≡ false
    → future.Sound (future.after side (new_copy by canon place 1) ends)
future_call_sound Reader by canon place ends sound none going =
    let call : OpenCopy = new_copy by canon place 1 in
    let k : future_meetings.Keeps ends.writer (future.met call ends.reader ends.writer).own = future_met call ends.reader ends.writer none (future_call by canon place ends.reader going) in
    record { reader = k.own; writer = sound.writer; one = k.one }
future_call_sound Writer by canon place ends sound none going =
    let call : OpenCopy = new_copy by canon place 1 in
    let k : future_meetings.Keeps ends.reader (future.met call ends.writer ends.reader).own = future_met call ends.writer ends.reader none (future_call by canon place ends.writer going) in
    record { reader = sound.reader; writer = k.own; one = one_turned (stands (future.met call ends.writer ends.reader).own) (stands ends.reader) k.one }

-- Elements go over.

pub offer_side : (kind : EndKind) (side : Side) (count : ℕ) (ends : EndsView) → IsDue kind side count ends → standing_side ends ≡ other_side side
offer_side kind Reader count ends due = ap (λ (o : Option OpenCopy). if is_some (standing_of o) then Reader else Writer) due.quiet
offer_side kind Writer count ends due = ap (λ (o : Option OpenCopy). if is_some o then Reader else Writer) due.stands

pub stream_copy_sound : (side : Side) (count : ℕ) (ends : EndsView) → IsDue Stream side count ends → Sound ends → Sound (after_copy count ends)
stream_copy_sound side count ends due sound =
    grown_sound (standing_side ends) count ends sound
    (subst (λ (s : Side). count ≤ room_of (standing_of (end_at s ends).copy)) (sym (offer_side Stream side count ends due))
    (subst (λ (o : Option OpenCopy). count ≤ room_of o) (sym due.stands) due.room))

-- an end that has no copy is sound once its call is completed, and so is the other one, whatever was at this one
quiet_done : (e : End) → e.copy ≡ None → future.EndSound (made_done e)
quiet_done e none = subst (λ (x : End). future.EndSound (made_done x)) (bare_is e none) (future_meetings.none_sound e.dropped true)

quiet_stands : (e : End) → e.copy ≡ None → stands (made_done e) ≡ false
quiet_stands e none = ap (λ (o : Option OpenCopy). is_some (standing_of o)) none

taken_reader : (e : End) → future.EndSound e → future.EndSound (future.taken e)
taken_reader e sound =
    (copied_from_sound Reader (record { reader = e; writer = no_end })
    (record { reader = sound; writer = future_meetings.none_sound false false; one = λ _. refl }) refl).reader

future_copied : (side : Side) (ends : EndsView) → future.Sound ends → (end_at (other_side side) ends).copy ≡ None → future.Sound (future.copied_from side ends)
future_copied Reader ends sound none =
    record { reader = taken_reader ends.reader sound.reader; writer = quiet_done ends.writer none; one = λ _. quiet_stands ends.writer none }
future_copied Writer ends sound none =
    record {
      reader = quiet_done ends.reader none;
      writer = taken_reader ends.writer sound.writer;
      one = λ h. absurd (let clash : false ≡ true = sym (quiet_stands ends.reader none) ∙ h in let no : ⊥ = cc in no);
    }

back_again : (side : Side) → other_side (other_side side) ≡ side
back_again Reader = refl
back_again Writer = refl

pub future_copy_sound : (side : Side) (count : ℕ) (ends : EndsView) → IsDue Future side count ends → future.Sound ends → future.Sound (future.after_copy ends)
future_copy_sound side count ends due sound =
    subst (λ (s : Side). future.Sound (future.copied_from s ends)) (sym (offer_side Future side count ends due))
    (future_copied (other_side side) ends sound (subst (λ (s : Side). (end_at s ends).copy ≡ None) (sym (back_again side)) due.quiet))
