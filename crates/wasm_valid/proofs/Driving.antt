-- The check, item by item.
use Rattle.std.proofs.Common.{◌≡◌, ◌<◌, ◌≤◌, ◌+◌, ℕ, zero, suc, List, [], ◌∷◌, length, get_or, drop, refl, ap, sym, ◌∙◌, Some, None, Option, arith, add-one, drop-cons}
use Rattle.syntax_trees.specs.declared.instr.Op.{Op}
use Rattle.wasm_typing.specs.declared.why.ValidWhy.{ValidWhy}
use Rattle.wasm_typing.specs.declared.fault.PartFault.{PartFault}
use Rattle.wasm_valid.specs.declared.body.Stepped.TheVariants.{Stops, Goes, Ends}
use Rattle.wasm_typing.specs.Context.{Context}
use Rattle.wasm_typing.specs.Checking.{Control, step, part_fault, later, why_of, fault_on, first_fault}
use Rattle.wasm_valid.specs.State.{State, all_of, Closed}

abbrev pub shifted : ℕ → Option PartFault → Option PartFault
shifted n None = None
shifted n (Some f) = Some (part_fault (f.at + n) f.why)

-- So many items passed, and the fault of what is left is that of all.
pub record IsChecking (c : Context) (code : List Op) (start : List Control) (at : ℕ) (s : List Control) : Type 0 where
  pub rest : first_fault c code start ≡ shifted at (first_fault c (drop at code) s)

at_same : (m n : ℕ) (w : ValidWhy) → m ≡ n → (let o : Option PartFault = Some (part_fault m w) in o) ≡ Some (part_fault n w)
at_same m n w e = ap (λ (n : ℕ). (let o : Option PartFault = Some (part_fault n w) in o)) e

shifted_none : (o : Option PartFault) → o ≡ shifted 0 o
shifted_none None = refl
shifted_none (Some f) = let e : f.at ≡ f.at + 0 = omega arith in at_same f.at (f.at + 0) f.why e

shifted_later : (n : ℕ) (o : Option PartFault) → shifted n (later o) ≡ shifted (n + 1) o
shifted_later n None = refl
shifted_later n (Some f) = let e : suc f.at + n ≡ f.at + (n + 1) = omega arith in at_same (suc f.at + n) (f.at + (n + 1)) f.why e

closed_none : (o : Option (List Control)) (t : State) → Closed o Stops t → o ≡ None
closed_none None t h = refl
closed_none (Some []) t h = cc
closed_none (Some (c ∷ cs)) t h = let k = h.0 in cc

closed_on : (o : Option (List Control)) (t : State) → Closed o Goes t → o ≡ Some (all_of t)
closed_on None t h = cc
closed_on (Some []) t h = cc
closed_on (Some (c ∷ cs)) t h = ap (λ (t : State). (let o : Option (List Control) = Some (all_of t) in o)) (sym h.1)

closed_all : (o : Option (List Control)) (t : State) → Closed o Ends t → o ≡ Some []
closed_all None t h = cc
closed_all (Some []) t h = refl
closed_all (Some (c ∷ cs)) t h = let k = h.0 in cc

pub starts : (c : Context) (code : List Op) (start s : List Control) → s ≡ start → IsChecking c code start 0 s
starts c code start s h = record { rest = rw h (shifted_none (first_fault c code start)) }

next : (c : Context) (code : List Op) (start s : List Control) (at : ℕ) (op d : Op) → IsChecking c code start at s → at < length code → op ≡ get_or code at d → first_fault c code start ≡ shifted at (fault_on (why_of c op s) (step c op s) (first_fault c (drop (at + 1) code)))
next c code start s at op d is h i =
    let here : drop at code ≡ op ∷ drop (at + 1) code = rw (add-one, i) (drop-cons code at d h) in
    is.rest ∙ ap (λ (ops : List Op). shifted at (first_fault c ops s)) here

-- where an item stops, its fault is the first
pub stops : (c : Context) (code : List Op) (start : List Control) (s t : State) (at : ℕ) (op d : Op) (w : ValidWhy) → IsChecking c code start at (all_of s) → at < length code → op ≡ get_or code at d → w ≡ why_of c op (all_of s) → Closed (step c op (all_of s)) Stops t → Some (part_fault at w) ≡ first_fault c code start
stops c code start s t at op d w is h i e k =
    let z : 0 + at ≡ at = omega arith in
    sym (next c code start (all_of s) at op d is h i ∙ ap (λ (o : Option (List Control)). shifted at (fault_on (why_of c op (all_of s)) o (first_fault c (drop (at + 1) code)))) (closed_none (step c op (all_of s)) t k)
    ∙ ap (λ (w : ValidWhy). (let o : Option PartFault = Some (part_fault (0 + at) w) in o)) (sym e) ∙ at_same (0 + at) at w z)

pub goes_on : (c : Context) (code : List Op) (start : List Control) (s t : State) (at : ℕ) (op d : Op) → IsChecking c code start at (all_of s) → at < length code → op ≡ get_or code at d → Closed (step c op (all_of s)) Goes t → IsChecking c code start (at + 1) (all_of t)
goes_on c code start s t at op d is h i k = record {
  rest =
      next c code start (all_of s) at op d is h i
      ∙ ap (λ (o : Option (List Control)). shifted at (fault_on (why_of c op (all_of s)) o (first_fault c (drop (at + 1) code)))) (closed_on (step c op (all_of s)) t k)
      ∙ shifted_later at (first_fault c (drop (at + 1) code) (all_of t));
}

pub ends_all : (c : Context) (code : List Op) (start : List Control) (s t : State) (at : ℕ) (op d : Op) → IsChecking c code start at (all_of s) → at < length code → op ≡ get_or code at d → Closed (step c op (all_of s)) Ends t → IsChecking c code start (at + 1) []
ends_all c code start s t at op d is h i k = record {
  rest =
      next c code start (all_of s) at op d is h i
      ∙ ap (λ (o : Option (List Control)). shifted at (fault_on (why_of c op (all_of s)) o (first_fault c (drop (at + 1) code)))) (closed_all (step c op (all_of s)) t k)
      ∙ shifted_later at (first_fault c (drop (at + 1) code) []);
}

drop_all : (n : ℕ) (code : List Op) → length code ≤ n → drop n code ≡ []
drop_all zero [] h = refl
drop_all zero (x ∷ code) h = absurd (omega arith)
drop_all (suc n) [] h = refl
drop_all (suc n) (x ∷ code) h = drop_all n code (omega arith)

pub no_fault : (c : Context) (code : List Op) (start s : List Control) (at : ℕ) → IsChecking c code start at s → length code ≤ at → None ≡ first_fault c code start
no_fault c code start s at is h = sym (is.rest ∙ ap (λ (ops : List Op). shifted at (first_fault c ops s)) (drop_all at code h))

pub more_code : (c : Context) (code : List Op) (start : List Control) (at : ℕ) (op d : Op) (w : ValidWhy) → IsChecking c code start at [] → at < length code → op ≡ get_or code at d → w ≡ why_of c op [] → Some (part_fault at w) ≡ first_fault c code start
more_code c code start at op d w is h i e =
    let z : 0 + at ≡ at = omega arith in
    sym (next c code start [] at op d is h i ∙ ap (λ (w : ValidWhy). (let o : Option PartFault = Some (part_fault (0 + at) w) in o)) (sym e) ∙ at_same (0 + at) at w z)

pub op_in : (code flat : List Op) (at : ℕ) (op d : Op) → code ≡ flat → op ≡ get_or code at d → op ≡ get_or flat at d
op_in code flat at op d e i = i ∙ ap (λ (code : List Op). get_or code at d) e
