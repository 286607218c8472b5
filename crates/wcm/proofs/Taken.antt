-- What a sink took, and what is left to be written of an answer.
use Rattle.std.proofs.Common.{◌≡◌, ℕ, zero, suc, ◌+◌, List, [], ◌∷◌, ◌++◌, length, take, refl, ap, sym, ◌∙◌, subst, append-nil, append_assoc, Option, Some, None, Result, Ok, Err}
use Rattle.std.proofs.Math.Seq.{take-length, take-append-add}
use Rattle.std.specs.Result.{OnOk, OnErr}
use Rattle.ca_io.specs.Bytes.{grown, TookFront}
use Rattle.wcm.specs.declared.answer.Answer.{Answer}
use Rattle.wcm.specs.Written.{WroteAll, WroteFront, IsLeft}

-- a text that was taken whole
pub took_all : (before now : Option (List ℕ)) (text : List ℕ) → now ≡ grown before text → TookFront before now text
took_all before now text h = (length text, h ∙ ap (grown before) (sym (take-length text)))

-- no more was taken
pub grown_nil : (before : Option (List ℕ)) → grown before [] ≡ before
grown_nil None = refl
grown_nil (Some taken) = ap (λ (t : List ℕ). Some t) (append-nil taken)

-- a text of which nothing was to be taken
pub took_none : (before now : Option (List ℕ)) (text : List ℕ) → now ≡ before → TookFront before now text
took_none before now text h = (0, h ∙ sym (grown_nil before))

-- a text that was taken whole, or in part with an error
pub took : {X E : Type 0} (r : Result X E) (before now : Option (List ℕ)) (text : List ℕ) → OnOk r (now ≡ grown before text) → OnErr r (TookFront before now text) → TookFront before now text
took (Ok x) before now text h e = took_all before now text h
took (Err x) before now text h e = e

-- a front of a text is one of the text with more behind it
front : (n : ℕ) (text rest : List ℕ) → (m : ℕ) × (take m (text ++ rest) ≡ take n text)
front zero text rest = (0, refl)
front (suc n) [] rest = (0, refl)
front (suc n) (x ∷ text) rest = let m = front n text rest in (suc m.0, ap (λ (t : List ℕ). x ∷ t) m.1)

pub took_longer : (before now : Option (List ℕ)) (text rest whole : List ℕ) → whole ≡ text ++ rest → TookFront before now text → TookFront before now whole
took_longer before now text rest whole e h =
    let m = front h.0 text rest in
    (m.0, h.1 ∙ ap (grown before) (sym m.1 ∙ ap (take m.0) (sym e)))

-- texts that were taken one behind the other
grown_twice : (before : Option (List ℕ)) (front rest : List ℕ) → grown (grown before front) rest ≡ grown before (front ++ rest)
grown_twice None front rest = refl
grown_twice (Some taken) front rest = ap (λ (t : List ℕ). Some t) (append_assoc taken front rest)

took_behind : (before now : Option (List ℕ)) (front rest : List ℕ) → TookFront (grown before front) now rest → TookFront before now (front ++ rest)
took_behind before now front rest h =
    (length front + h.0, h.1 ∙ grown_twice before front (take h.0 rest) ∙ ap (grown before) (sym (take-append-add front rest h.0)))

-- What is left of an answer was written, or a front of it: so was the answer.
pub wrote_left : (a left : Answer) (before mid now err_before err_now : Option (List ℕ)) → IsLeft a left before mid → WroteAll left mid now err_before err_now
    → WroteAll a before now err_before err_now
wrote_left a left before mid now err_before err_now l w = record {
  out = w.out ∙ ap (λ (s : Option (List ℕ)). grown s left.out) l.taken ∙ grown_twice before l.front left.out ∙ ap (grown before) (sym l.out);
  err = w.err ∙ ap (grown err_before) l.err;
}

pub wrote_front_left : (a left : Answer) (before mid now err_before err_now : Option (List ℕ)) → IsLeft a left before mid → WroteFront left mid now err_before err_now
    → WroteFront a before now err_before err_now
wrote_front_left a left before mid now err_before err_now l w = record {
  out = subst (TookFront before now) (sym l.out) (took_behind before now l.front left.out (subst (λ (s : Option (List ℕ)). TookFront s now left.out) l.taken w.out));
  err = subst (TookFront err_before err_now) l.err w.err;
}
