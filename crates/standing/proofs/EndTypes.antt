-- Types of streams and futures, by their numbers among types of which none stands twice.
use Rattle.std.proofs.Common.{◌≡◌, ℕ, Bool, true, false, nat_eq, ◌&&◌, List, refl, sym, ap, ◌∙◌, subst, Option, Some, None}
use Rattle.std.proofs.lemmas.Bool.{eqb-true, eq-eqb, and_parts, and_from}
use Rattle.syntax_trees.specs.declared.types.ValType.{ValType, out-ValType}
use Rattle.syntax_trees.specs.declared.types.ValType.TheOpen.{ValType-F}
use Rattle.syntax_trees.specs.declared.types.ValType.TheViews.{outs-Stream, outs-Future}
use Rattle.syntax_trees.specs.declared.types.Case.{Case}
use Rattle.syntax_trees.specs.declared.types.Field.{Field}
use Rattle.laid_types.specs.SameTypes.{same_val, AreDistinct}
use Rattle.laid_types.proofs.SameTypes.{none_told, some_told, val_told}
use Rattle.builtin_kinds.specs.declared.EndKind.{EndKind}
use Rattle.builtin_kinds.specs.declared.EndKind.TheVariants.{Stream, Future}
use Rattle.comp_graph.specs.Graph.{ends_type}
use Rattle.abi_machine.specs.SameTypes.{same_held}
use Rattle.abi_machine.specs.Finding.{same_kind}
use Rattle.abi_machine.proofs.sound.Found.{some_same}
use Rattle.standing.specs.Channels.{IsEndsType}

-- Tests each of which passes where the other does.
pub same_test : (b c : Bool) → (b ≡ true → c ≡ true) → (c ≡ true → b ≡ true) → b ≡ c
same_test true true p q = refl
same_test true false p q = sym (p refl)
same_test false true p q = q refl
same_test false false p q = refl

-- Kinds, and elements.
pub kind_self : (k : EndKind) → same_kind k k ≡ true
kind_self Stream = refl
kind_self Future = refl

pub kind_told : (k l : EndKind) → same_kind k l ≡ true → k ≡ l
kind_told Stream Stream h = refl
kind_told Stream Future h = absurd (cc)
kind_told Future Stream h = absurd (cc)
kind_told Future Future h = refl

held_told : (a b : Option ValType) → same_held a b ≡ true → a ≡ b
held_told None b h = (none_told b).0 h
held_told (Some t) b h = (some_told (same_val t) t (val_told t) b).0 h

held_self : (a : Option ValType) → same_held a a ≡ true
held_self None = refl
held_self (Some t) = (val_told t t).1 refl

-- What a type of ends is of.
shown : ValType-F ValType Case Field → Option (EndKind × Option ValType)
shown (ValType-F.Stream element) = Some (Stream, element)
shown (ValType-F.Future element) = Some (Future, element)
shown layer = None

shown_ends : (k : EndKind) (a : Option ValType) → shown (out-ValType (ends_type k a)) ≡ Some (k, a)
unfolding shown
shown_ends Stream a = ap shown (outs-Stream a)
shown_ends Future a = ap shown (outs-Future a)

same_ends : (k l : EndKind) (a b : Option ValType) → ends_type k a ≡ ends_type l b → (let p : EndKind × Option ValType = (k, a) in p) ≡ (l, b)
same_ends k l a b h = some_same (sym (shown_ends k a) ∙ ap (λ (t : ValType). shown (out-ValType t)) h ∙ shown_ends l b)

pub same_kinds : (k l : EndKind) (a b : Option ValType) → ends_type k a ≡ ends_type l b → k ≡ l
same_kinds k l a b h = ap (λ (p : EndKind × Option ValType). p.0) (same_ends k l a b h)

pub same_elements : (k l : EndKind) (a b : Option ValType) → ends_type k a ≡ ends_type l b → a ≡ b
same_elements k l a b h = ap (λ (p : EndKind × Option ValType). p.1) (same_ends k l a b h)

-- One number names one type.
pub one_kind : (values : List ValType) (type : ℕ) (k l : EndKind) (a b : Option ValType) → IsEndsType values k a type → IsEndsType values l b type → k ≡ l
one_kind values type k l a b p q = same_kinds k l a b (some_same (sym p ∙ q))

pub one_element : (values : List ValType) (type : ℕ) (k l : EndKind) (a b : Option ValType) → IsEndsType values k a type → IsEndsType values l b type → a ≡ b
one_element values type k l a b p q = same_elements k l a b (some_same (sym p ∙ q))

-- Numbers are the same exactly where the types are.
pub numbers_alike : (values : List ValType) (m n : ℕ) (k l : EndKind) (a b : Option ValType) → AreDistinct values → IsEndsType values k a m → IsEndsType values l b n
    → nat_eq m n ≡ (same_kind k l && same_held a b)
numbers_alike values m n k l a b once p q = same_test (nat_eq m n) (same_kind k l && same_held a b) there back
  where
    there : nat_eq m n ≡ true → (same_kind k l && same_held a b) ≡ true
    there h =
        let at : IsEndsType values k a n = subst (λ (x : ℕ). IsEndsType values k a x) (eqb-true m n h) p in
        and_from (same_kind k l) (same_held a b) (subst (λ (x : EndKind). same_kind k x ≡ true) (one_kind values n k l a b at q) (kind_self k))
        (subst (λ (x : Option ValType). same_held a x ≡ true) (one_element values n k l a b at q) (held_self a))

    back : (same_kind k l && same_held a b) ≡ true → nat_eq m n ≡ true
    back h =
        let parts = and_parts (same_kind k l) (same_held a b) h in
        let at : IsEndsType values l b m =
        subst (λ (x : EndKind). IsEndsType values x b m) (kind_told k l parts.0) (subst (λ (x : Option ValType). IsEndsType values k x m) (held_told a b parts.1) p) in
        eq-eqb m n (once m n (ends_type l b) at q)
