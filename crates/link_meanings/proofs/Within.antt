-- What a type means: one whose indices are not all there, and one whose indices are.
use Rattle.std.proofs.Common.{◌≡◌, ◌∙◌, ℕ, Bool, true, false, cond, List, length, refl, ap, sym, Option, None}
use Rattle.comp_graph.specs.Closed.{Closed}
use Rattle.link_spec.specs.Types.{Meaning, absent}
use Rattle.link_values.specs.declared.refs.TypeRef.{TypeRef}
use Rattle.link_types.specs.Table.{Table, IsType}
use Rattle.link_values.specs.declared.meant.Meant.{Meant}
use Rattle.link_meanings.specs.Meant.{IsFoundAs, IsMeaning}
use Rattle.link_meanings.specs.Levels.{AreTypes}
use Rattle.link_meanings.proofs.Lists.{as_many}

cond_absent : (t : Table) (within : Bool) (whole : Meaning Closed) → within ≡ false → IsMeaning (IsType t) (record { is_there = false; missing = None; deep = false; means = None }) (cond within whole absent)
cond_absent t within whole h = rw h (record { is_there = refl; missing = refl; deep = refl; has_room = refl; means = refl })

cond_whole : (t : Table) (within : Bool) (m : Meant TypeRef) (whole : Meaning Closed) → within ≡ true → IsMeaning (IsType t) m whole → IsMeaning (IsType t) m (cond within whole absent)
cond_whole t within m whole h is = rw h is

module _ (t u : Table) (refs : List (Option TypeRef)) (closed : List (Option Closed)) (within : ℕ → Bool) (whole : Meaning Closed) (n : ℕ) (b : Bool) (h : AreTypes t refs closed) (e : n ≡ length refs) (is : b ≡ within n) where
  as_within : within (length closed) ≡ b
  as_within = ap within (sym (e ∙ as_many (IsFoundAs (IsType t)) refs closed h)) ∙ sym is

  pub absent_past : b ≡ false → IsMeaning (IsType u) (record { is_there = false; missing = None; deep = false; means = None }) (cond (within (length closed)) whole absent)
  absent_past outside = cond_absent u (within (length closed)) whole (as_within ∙ outside)

  pub whole_within : b ≡ true → (m : Meant TypeRef) → IsMeaning (IsType u) m whole → IsMeaning (IsType u) m (cond (within (length closed)) whole absent)
  whole_within inside m means = cond_whole u (within (length closed)) m whole (as_within ∙ inside) means
