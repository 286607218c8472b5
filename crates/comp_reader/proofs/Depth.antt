-- How deep components and instance types stand.
use Rattle.std.proofs.Common.{◌≡◌, ◌<◌, ◌-◌, ℕ, zero, suc, refl, arith, subst, Result, Err}
use Rattle.ca_base.specs.Span.{Span}
use Rattle.ca_base.specs.declared.refusal.Refusal.{Refusal}
use Rattle.faults.specs.declared.memory.MemoryOr.{MemoryOr}
use Rattle.ca_base.specs.Grammar.{read, MayRead}
use Rattle.comp_tree.specs.declared.types.DefType.{DefType}
use Rattle.comp_tree.specs.declared.items.Component.{Component}
use Rattle.part_reader.specs.declared.fault.ComponentWhy.{ComponentWhy}
use Rattle.part_reader.specs.declared.fault.ComponentWhy.TheVariants.{Limit}
use Rattle.comp_reader.specs.Binary.{def_type, declarations, instance_type, component_of, component_within}

-- no instance type may be opened
pub instance_type_none : (n place : ℕ) (s : Span ComponentWhy) → n ≡ 0 → read (instance_type n place) s ≡ Err (record { place = place; why = Limit })
unfolding instance_type
instance_type_none zero place s h = refl
instance_type_none (suc n) place s h = cc

-- one may be opened
pub instance_type_more : (n place : ℕ) (s t : Span ComponentWhy) (r : Result DefType (MemoryOr (Refusal ComponentWhy))) → 0 < n → MayRead (λ d. d) (declarations (def_type (n - 1))) s t r → MayRead (λ d. d) (instance_type n place) s t r
unfolding instance_type
instance_type_more zero place s t r h m = absurd (omega arith)
instance_type_more (suc n) place s t r h m =
    let e : suc n - 1 ≡ n = omega arith in
    subst (λ (k : ℕ). MayRead (λ (d : DefType). d) (declarations (def_type k)) s t r) e m

-- no component may be opened
pub component_none : (n : ℕ) (s : Span ComponentWhy) → n ≡ 0 → read (component_within n) s ≡ Err (record { place = s.at; why = Limit })
unfolding component_within
component_none zero s h = refl
component_none (suc n) s h = cc

-- one may be opened
pub component_more : (n : ℕ) (s t : Span ComponentWhy) (r : Result Component (MemoryOr (Refusal ComponentWhy))) → 0 < n → MayRead (λ c. c) (component_of (component_within (n - 1))) s t r → MayRead (λ c. c) (component_within n) s t r
unfolding component_within
component_more zero s t r h m = absurd (omega arith)
component_more (suc n) s t r h m =
    let e : suc n - 1 ≡ n = omega arith in
    subst (λ (k : ℕ). MayRead (λ (c : Component). c) (component_of (component_within k)) s t r) e m
