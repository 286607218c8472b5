-- What the bytes of a component file come to is one: a refusal, a fault of linking, or a component and its graph.
use Rattle.std.proofs.Common.{◌≡◌, inl, inr, ℕ, List, ap, sym, ◌∙◌, subst, arith, Result, Ok, Err}
use Rattle.ca_base.specs.Span.{Span}
use Rattle.ca_base.specs.declared.refusal.Refusal.{Refusal}
use Rattle.ca_base.specs.Grammar.{Grammar, Matches, Refuses}
use Rattle.ca_base.proofs.Laws.{matches_reads, refuses_reads}
use Rattle.comp_tree.specs.declared.items.Component.{Component}
use Rattle.part_reader.specs.declared.fault.ComponentWhy.{ComponentWhy}
use Rattle.comp_reader.specs.Binary.{component, file, file_end}
use Rattle.link_spec.specs.declared.fault.LinkFault.{LinkFault}
use Rattle.link_spec.specs.Linked.{IsLinked, IsLinkRefused}
use Rattle.link_spec.proofs.Following as following
use Rattle.link_spec.proofs.Following.{one_graph, linked_is_not_refused}
use Rattle.comp_graph.specs.Graph.{Graph}
use Rattle.wcm.specs.Files.{IsComponentFile, IsRefusedFile}

-- what matches is not refused, and matches nothing else
ok_inj : {A E : Type 0} {x y : A} → ◌≡◌ {A = Result A E} (Ok x) (Ok y) → x ≡ y
ok_inj h = cc

err_inj : {A E : Type 0} {x y : E} → ◌≡◌ {A = Result A E} (Err x) (Err y) → x ≡ y
err_inj h = cc

pub matches_once : {W A : Type 0} (g : Grammar W A) (s : Span W) (x y : A) (t u : Span W) → Matches g s x t → Matches g s y u → x ≡ y
matches_once g s x y t u m n =
    ap (λ p. p.0) (ok_inj (sym (matches_reads g s x t m) ∙ matches_reads g s y u n))

pub refuses_once : {W A : Type 0} (g : Grammar W A) (s : Span W) (e d : Refusal W) → Refuses g s e → Refuses g s d → e ≡ d
refuses_once g s e d r q =
    err_inj (sym (refuses_reads g s e r) ∙ refuses_reads g s d q)

pub not_refused : {W A : Type 0} (g : Grammar W A) (s : Span W) (x : A) (t : Span W) (e : Refusal W) → Matches g s x t → Refuses g s e → ⊥
not_refused g s x t e m r =
    let both : ◌≡◌ {A = Result (_ × Span _) (Refusal _)} (Ok (x, t)) (Err e) = sym (matches_reads g s x t m) ∙ refuses_reads g s e r in
    cc

-- The component of a file is one, and so is its refusal.
one_component : (bytes : List ℕ) (c d : Component) → IsComponentFile bytes c → IsComponentFile bytes d → c ≡ d
one_component bytes c d h k = matches_once component (file bytes) c d (file_end bytes) (file_end bytes) h.1 k.1

one_refusal : (bytes : List ℕ) (e d : Refusal ComponentWhy) → IsRefusedFile bytes e → IsRefusedFile bytes d → e ≡ d
one_refusal bytes e d h k =
    elim h [
      | inl long ↦ elim k [
        | inl too ↦ long.1 ∙ sym too.1
        | inr short ↦ absurd (omega (arith, long.0, short.0))
      ]
      | inr short ↦ elim k [
        | inl long ↦ absurd (omega (arith, long.0, short.0))
        | inr too ↦ refuses_once component (file bytes) e d short.1 too.1
      ]
    ]

component_or_not : (bytes : List ℕ) (c : Component) (e : Refusal ComponentWhy) → IsComponentFile bytes c → IsRefusedFile bytes e → ⊥
component_or_not bytes c e h k =
    elim k [ inl long ↦ omega (arith, h.0, long.0) | inr refused ↦ not_refused component (file bytes) c (file_end bytes) e h.1 refused.1 ]

-- what is found in a component file
pub data Found : Type 0 where
  BadFile : Refusal ComponentWhy → Found
  BadLinks : LinkFault → Found
  GoodFile : Component → Graph → Found

abbrev pub Finds : List ℕ → Found → Type 0
Finds bytes (BadFile refusal) = IsRefusedFile bytes refusal
Finds bytes (BadLinks fault) = (c : Component) × IsComponentFile bytes c × IsLinkRefused c fault
Finds bytes (GoodFile c g) = IsComponentFile bytes c × IsLinked c g

pub one_found : (bytes : List ℕ) (x y : Found) → Finds bytes x → Finds bytes y → x ≡ y
one_found bytes (BadFile r) (BadFile q) h k = ap (λ (e : Refusal ComponentWhy). BadFile e) (one_refusal bytes r q h k)
one_found bytes (BadFile r) (BadLinks f) h k = absurd (component_or_not bytes k.0 r k.1 h)
one_found bytes (BadFile r) (GoodFile c g) h k = absurd (component_or_not bytes c r k.0 h)
one_found bytes (BadLinks f) (BadFile r) h k = absurd (component_or_not bytes h.0 r h.1 k)
one_found bytes (BadLinks f) (BadLinks e) h k =
    ap (λ (e : LinkFault). BadLinks e) (following.one_refusal h.0 f e h.2 (subst (λ (c : Component). IsLinkRefused c e) (one_component bytes k.0 h.0 k.1 h.1) k.2))
one_found bytes (BadLinks f) (GoodFile c g) h k =
    absurd (linked_is_not_refused h.0 g f (subst (λ (c : Component). IsLinked c g) (one_component bytes c h.0 k.0 h.1) k.1) h.2)
one_found bytes (GoodFile c g) (BadFile r) h k = absurd (component_or_not bytes c r h.0 k)
one_found bytes (GoodFile c g) (BadLinks f) h k =
    absurd (linked_is_not_refused c g f h.1 (subst (λ (c : Component). IsLinkRefused c f) (one_component bytes k.0 c k.1 h.0) k.2))
one_found bytes (GoodFile c g) (GoodFile d e) h k =
    let same : d ≡ c = one_component bytes d c k.0 h.0 in
    let graphs : g ≡ e = one_graph c g e h.1 (subst (λ (c : Component). IsLinked c e) same k.1) in
    ap (λ (g : Graph). GoodFile c g) graphs ∙ ap (λ (c : Component). GoodFile c e) (sym same)
