-- Which indices lifting lends: none, where a type holds no borrow.
use Rattle.std.proofs.Common.{◌≡◌, ◌∙◌, ◌≤◌, ℕ, Bool, true, false, if◌then◌else◌, List, [], ◌∷◌, ◌++◌, length, refl, ap, sym, subst}
use Rattle.std.specs.Prelude.{nat_le, ◌-◌, Result, Ok, Err}
use Rattle.syntax_trees.specs.declared.types.ValType.{ValType}
use Rattle.syntax_trees.specs.Flat.{flat}
use Rattle.laid_types.specs.Handles.{has_borrow}
use Rattle.builtin_kinds.specs.declared.EndKind.{EndKind}
use Rattle.comp_graph.specs.Graph.{ends_type}
use Rattle.value_lift.specs.declared.trap.LiftTrap.{LiftTrap}
use Rattle.value_lift.specs.declared.trap.LiftWhy.TheVariants.{TooLarge}
use Rattle.value_lift.specs.Leaves.{trap}
use Rattle.value_lift.specs.Ledger.{Use, What, AnOwn, ABorrow, AnEnd, Came}
use Rattle.value_lift.specs.Over.{load_by, load_list_by, lift_flat_by}
use Rattle.value_lift.specs.Settled.{Listed, listed_spent, listing, none_listed, uses_in}
use Rattle.abi_machine.specs.LiftingOver as machine
use Rattle.abi_machine.proofs.sound.Lifts as lifts
use Rattle.run_laws.proofs.LiftedLayers.{AreSame, WhatAgrees, IsFront}
use Rattle.run_laws.proofs.LiftedOver.{load_same, load_list_same, lift_flat_same}
use Rattle.run_laws.proofs.keeping.Lifted.{Borrows, LendOnly}

-- Indices are listed as by the machine, where an end is wanted by its kind and its elements.
abbrev what_of : machine.What → What
what_of (machine.AnOwn resource) = AnOwn resource
what_of (machine.ABorrow resource) = ABorrow resource
what_of (machine.AnEnd kind element) = AnEnd (ends_type kind element)

abbrev used_as : machine.Use → Use
used_as u = record { what = what_of u.what; index = u.index; place = u.place }

abbrev listing_world : machine.Ledger Listed (LiftTrap × List Use)
listing_world = record {
  spend = listed_spent;
  stop = λ fault k. (fault, k.uses);
  take = λ u k. Ok (u.index, record { left = k.left; uses = k.uses ++ used_as u ∷ [] });
}

what_same : (a : What) (b : machine.What) → WhatAgrees a b → what_of b ≡ a
what_same (AnOwn resource) b w = ap what_of w
what_same (ABorrow resource) b w = ap what_of w
what_same (AnEnd type) b (kind, element, is, of) = ap what_of is ∙ ap (λ (t : ValType). AnEnd t) (sym of)

listed_same : AreSame listing listing_world
listed_same = record {
  spend = λ many place k. refl;
  stop = λ fault k. refl;
  take = λ a b index place k w.
      ap (λ (v : What). (let r : Result (ℕ × Listed) (LiftTrap × List Use) = Ok (index, record { left = k.left; uses = k.uses ++ (record { what = v; index = index; place = place }) ∷ [] }) in r))
      (what_same a b w);
}

module _ (B : Type 0) where
  lend_more : (uses : List Use) (u : Use) → LendOnly B uses → (Borrows u.what → B) → LendOnly B (uses ++ u ∷ [])
  lend_more [] u p q = (q, tt)
  lend_more (v ∷ uses) u p q = (p.0, lend_more uses u p.1 q)

  used_lends : (w : machine.What) → lifts.IsUsed B w → Borrows (what_of w) → B
  used_lends (machine.AnOwn resource) used q = absurd q
  used_lends (machine.ABorrow resource) used q = used
  used_lends (machine.AnEnd kind element) used q = absurd q

  abbrev Lends : Listed → Type 0
  Lends k = LendOnly B k.uses

  abbrev Lent : LiftTrap × List Use → Type 0
  Lent f = LendOnly B f.1

  spends_by : (c : Bool) (many place : ℕ) (k : Listed) → Lends k
      → lifts.Spent Lends Lent (let r : Result Listed (LiftTrap × List Use) = if c then Ok (record { left = k.left - many; uses = k.uses }) else Err (trap TooLarge place, k.uses) in r)
  spends_by true many place k p = p
  spends_by false many place k p = p

  abbrev LendsIn : {A : Type 0} → Came Listed (LiftTrap × List Use) A → Type 0
  LendsIn c = LendOnly B (uses_in c)

  in_uses : {A : Type 0} (c : Came Listed (LiftTrap × List Use) A) → lifts.Leaves Lends Lent c → LendsIn c
  in_uses (Ok x) p = p
  in_uses (Err f) p = p

  pub load_lends : (t : ValType) → (has_borrow t ≡ true → B) → (memory : List ℕ) (place left : ℕ) → LendsIn (load_by listing t memory place (none_listed left))
  load_lends t may memory place left =
      let k : Listed = none_listed left in
      in_uses (load_by listing t memory place k)
      (subst (λ c. lifts.Leaves Lends Lent c) (load_same listing listing_world listed_same t memory place k)
      (lifts.load_uses listing_world Lends Lent B (λ many place k p. spends_by (nat_le many k.left) many place k p) (λ fault k p. p)
      (λ u k used p. lend_more k.uses (used_as u) p (used_lends u.what used)) t may memory place k tt))

  pub load_list_lends : (t : ValType) → (has_borrow t ≡ true → B) → (memory : List ℕ) (place count left : ℕ) → LendsIn (load_list_by listing t memory place count (none_listed left))
  load_list_lends t may memory place count left =
      let k : Listed = none_listed left in
      in_uses (load_list_by listing t memory place count k)
      (subst (λ c. lifts.Leaves Lends Lent c) (load_list_same listing listing_world listed_same t memory place count k)
      (lifts.load_list_uses listing_world Lends Lent B (λ many place k p. spends_by (nat_le many k.left) many place k p) (λ fault k p. p)
      (λ u k used p. lend_more k.uses (used_as u) p (used_lends u.what used)) t may memory place count k tt))

  pub lift_flat_lends : (t : ValType) → (has_borrow t ≡ true → B) → (memory words : List ℕ) (left : ℕ) → IsFront words words → length (flat t) ≤ length words
      → LendsIn (lift_flat_by listing t memory words (none_listed left))
  lift_flat_lends t may memory words left front room =
      let k : Listed = none_listed left in
      in_uses (lift_flat_by listing t memory words k)
      (subst (λ c. lifts.Leaves Lends Lent c) (lift_flat_same listing listing_world listed_same t memory words words k front room)
      (lifts.lift_flat_uses listing_world Lends Lent B (λ many place k p. spends_by (nat_le many k.left) many place k p) (λ fault k p. p)
      (λ u k used p. lend_more k.uses (used_as u) p (used_lends u.what used)) t may memory words k tt))
