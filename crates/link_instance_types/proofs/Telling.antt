-- What declarations tell, one behind the others, and the exports that are made.
use Rattle.std.proofs.Common.{◌≡◌, ◌∙◌, ℕ, List, refl, ap, ap₂, Option, Some, None}
use Rattle.std.specs.Prelude.{◌&&◌, ◌||◌}
use Rattle.std.specs.Option.{option_map}
use denote.Ref.{Bor}
use Rattle.comp_graph.specs.Closed.{Instance, Extern, Externs, WithExtern, first_of}
use Rattle.link_spec.specs.Types.{Meaning, kept_if, and_told, extended}
use Rattle.link_values.specs.declared.refs.InstanceTypeRef.{InstanceTypeRef}
use Rattle.link_values.specs.declared.refs.TypeRef.TheVariants as type_ref
use Rattle.link_values.specs.declared.refs.ExternRef.{ExternRef}
use Rattle.link_types.specs.declared.maker.InstanceTypeMaker.{InstanceTypeMaker}
use Rattle.link_types.specs.Table.{Table, IsName, IsExtern, IsInstanceType, IsType}
use Rattle.link_types.specs.Begun.{IsBegun}
use Rattle.link_values.specs.declared.meant.Meant.{Meant}
use Rattle.link_instance_types.specs.declared.so_far.SoFar.{SoFar}
use Rattle.link_meanings.specs.Meant.{IsFoundAs, IsMeaning, text_of}
use Rattle.link_instance_types.specs.Declaring.{IsSoFar, told_more}

first_named : (a b : Option (Bor (List ℕ))) → option_map text_of (first_of a b) ≡ first_of (option_map text_of a) (option_map text_of b)
first_named None b = refl
first_named (Some name) b = refl

means_kept : {A B : Type 0} (t : Table) (R : B → A → Type 0) (m : Option InstanceTypeMaker) (before : Option Externs) (b : Option B) (a : Option A) → IsFoundAs (IsBegun t) m before → IsFoundAs R b a
    → IsFoundAs (IsBegun t) (kept_if b m) (kept_if a before)
means_kept t R m before None a h k = rw k refl
means_kept t R m before (Some x) a h k = rw k.1 h

-- One declaration more tells what its meaning tells.
pub told_stands : {A B : Type 0} (t : Table) (R : B → A → Type 0) (s new : SoFar) (m : Meaning Externs) (r : Meant B) (now : Meaning A) → IsSoFar t s m → IsMeaning R r now → new ≡ told_more s r → IsSoFar t new (and_told m now)
told_stands {A} {B} t R s new m r now h k e = rw e (record {
  is_there = ap (λ b. b && r.is_there) h.is_there ∙ ap (λ b. m.is_there && b) k.is_there;
  missing = first_named s.missing r.missing ∙ ap (λ (o : Option (List ℕ)). first_of o (option_map text_of r.missing)) h.missing ∙ ap (λ (o : Option (List ℕ)). first_of m.missing o) k.missing;
  deep = ap (λ b. b || r.deep) h.deep ∙ ap (λ b. m.deep || b) k.deep;
  has_room = ap₂ (λ b c. b && c) h.has_room k.has_room;
  means = means_kept {A = A} {B = B} t R s.means m.means r.means now.means h.means k.means;
})

-- Exports with one more behind them.
pub extended_some : (t u : Table) (old new : InstanceTypeMaker) (number : ℕ) (item : ExternRef) (name : List ℕ) (extern : Option Extern) (others : Option Externs)
    → ((externs : Externs) (text : List ℕ) (x : Extern) → IsBegun t old externs → IsName t number text → IsExtern t item x → IsBegun u new (WithExtern externs text x))
    → IsFoundAs (IsBegun t) (Some old) others → IsName t number name → IsFoundAs (IsExtern t) (Some item) extern → IsFoundAs (IsBegun u) (Some new) (extended name extern others)
extended_some t u old new number item name extern others f h n k = rw (k.1, h.1) (WithExtern h.0 name k.0, refl, f h.0 name k.0 h.2 n k.2)

-- Told before it was extended, or not, it is the same.
pub kept_before : (name : List ℕ) (extern : Option Extern) (before : Option Externs) → extended name extern (kept_if extern before) ≡ extended name extern before
kept_before name None before = refl
kept_before name (Some extern) before = refl

-- the type of instances with these exports
pub made_some : (t u : Table) (maker : InstanceTypeMaker) (ref : InstanceTypeRef) (externs : Option Externs) → ((all : Externs) → IsBegun t maker all → IsInstanceType u ref all) → IsFoundAs (IsBegun t) (Some maker) externs
    → IsFoundAs (IsType u) (Some (type_ref.Instance ref)) (option_map Instance externs)
made_some t u maker ref externs f h = rw h.1 (Instance h.0, refl, f h.0 h.2)
