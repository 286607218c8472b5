-- Items lead to one linking, or to one fault.
use Rattle.std.proofs.Common.{◌≡◌, ◌⊎◌, inl, inr, ℕ, List, [], ◌∷◌, length, refl, sym, ◌∙◌, ap, subst, Some}
use Rattle.std.specs.List.{slice_get}
use Rattle.ca_base.specs.declared.placed.Placed.{Placed}
use Rattle.comp_tree.specs.declared.items.Item.{Item}
use Rattle.link_spec.specs.declared.fault.LinkWhy.{LinkWhy}
use Rattle.link_spec.specs.declared.fault.LinkFault.{LinkFault}
use Rattle.link_spec.specs.Definitions.{Closure, Exports}
use Rattle.link_spec.specs.Spaces.{Spaces, Linking}
use Rattle.link_spec.specs.Items.{item_makes, item_has}
use Rattle.link_spec.specs.Linked.{IsFirst, Begins, begun, with_instance, Leads, leads_by_making, leads_by_instance, Links, no_items, item_links, IsRefusedAt, refused_here, refused_inside, refused_later, root_begun, graph_of}
use Rattle.link_spec.specs.Laws.{OneLinking, LinksExcludesFaults, OneFault, OneGraph, LinkedIsNotRefused, OneRefusal}
use Rattle.link_spec.proofs.Excluding.{makes_excludes_reasons, begins_excludes_reasons, makes_excludes_begins}
use Rattle.link_spec.proofs.Making.{makes_once, begins_once}
use Rattle.link_spec.proofs.Naming.{one_first}

-- How items lead to a linking: there are none, or the first leads to another one, and others are behind it.
record ByItem (l : Linking) (n : ℕ) (s : Spaces) (placed : Placed Item) (items : List (Placed Item)) (last : Linking) : Type 0 where
  next : Linking
  leads : Leads l n s placed next
  behind : Links next n items last

abbrev Ways : Linking → ℕ → List (Placed Item) → Linking → Type 0
Ways l n [] last = l ≡ last
Ways l n (placed ∷ items) last = (s : Spaces) × (slice_get l.scopes n ≡ Some s) × ByItem l n s placed items last

ways : (l : Linking) (n : ℕ) (items : List (Placed Item)) (last : Linking) → Links l n items last → Ways l n items last
ways l n items last (no_items m k) = refl
ways l n items last (item_links m next end k s placed others there leads behind) = (s, there, record { next = next; leads = leads; behind = behind })

-- How an item leads to a linking: it makes something, or it instantiates a component.
record ByBeginning (l : Linking) (n : ℕ) (s : Spaces) (placed : Placed Item) (next : Linking) : Type 0 where
  component : Closure
  arguments : Exports
  inner : Linking
  begins : Begins l n s placed.item component arguments
  inside : Links (begun l component arguments) (length l.scopes) component.items inner
  ends : with_instance inner n s (length l.scopes) ≡ next

led : (l : Linking) (n : ℕ) (s : Spaces) (placed : Placed Item) (next : Linking) → Leads l n s placed next → item_makes l n s placed.item next ⊎ ByBeginning l n s placed next
led l n s placed next (leads_by_making m other k t p made) = inl made
led l n s placed next (leads_by_instance m inner k t c arguments p begins inside) =
    inr (record { component = c; arguments = arguments; inner = inner; begins = begins; inside = inside; ends = refl })

-- How items are refused: the first has a reason, or one of the component that it instantiates, or one behind it.
record ByReason (l : Linking) (n : ℕ) (s : Spaces) (placed : Placed Item) (fault : LinkFault) : Type 0 where
  reason : LinkWhy
  is_first : IsFirst l n s placed.item reason
  is : (record { place = placed.place; why = reason }) ≡ fault

record Inside (l : Linking) (n : ℕ) (s : Spaces) (placed : Placed Item) (fault : LinkFault) : Type 0 where
  component : Closure
  arguments : Exports
  begins : Begins l n s placed.item component arguments
  inside : IsRefusedAt (begun l component arguments) (length l.scopes) component.items fault

record Later (l : Linking) (n : ℕ) (s : Spaces) (placed : Placed Item) (items : List (Placed Item)) (fault : LinkFault) : Type 0 where
  next : Linking
  leads : Leads l n s placed next
  behind : IsRefusedAt next n items fault

data Refusal (l : Linking) (n : ℕ) (s : Spaces) (placed : Placed Item) (items : List (Placed Item)) (fault : LinkFault) : Type 0 where
  by_reason : ByReason l n s placed fault → Refusal l n s placed items fault
  inside_instance : Inside l n s placed fault → Refusal l n s placed items fault
  behind_item : Later l n s placed items fault → Refusal l n s placed items fault

abbrev Refusals : Linking → ℕ → List (Placed Item) → LinkFault → Type 0
Refusals l n [] fault = ⊥
Refusals l n (placed ∷ items) fault = (s : Spaces) × (slice_get l.scopes n ≡ Some s) × Refusal l n s placed items fault

refusals : (l : Linking) (n : ℕ) (items : List (Placed Item)) (fault : LinkFault) → IsRefusedAt l n items fault → Refusals l n items fault
refusals l n items fault (refused_here m k s placed others w there is_first) = (s, there, by_reason (record { reason = w; is_first = is_first; is = refl }))
refusals l n items fault (refused_inside m k s c arguments placed others other there begins inside) =
    (s, there, inside_instance (record { component = c; arguments = arguments; begins = begins; inside = inside }))
refusals l n items fault (refused_later m next k s placed others other there leads behind) = (s, there, behind_item (record { next = next; leads = leads; behind = behind }))

-- What two derivations say of one linking is of the same spaces, the same items and the same instances.
same_spaces : (l : Linking) (n : ℕ) (s t : Spaces) → slice_get l.scopes n ≡ Some s → slice_get l.scopes n ≡ Some t → t ≡ s
same_spaces l n s t h k = cc

leads_in : (l : Linking) (n : ℕ) (s t : Spaces) (placed : Placed Item) (next : Linking) → t ≡ s → Leads l n t placed next → Leads l n s placed next
leads_in l n s t placed next e h = subst (λ (s : Spaces). Leads l n s placed next) e h

begins_in : (l : Linking) (n : ℕ) (s t : Spaces) (item : Item) (c : Closure) (arguments : Exports) → t ≡ s → Begins l n t item c arguments → Begins l n s item c arguments
begins_in l n s t item c arguments e b = subst (λ (s : Spaces). Begins l n s item c arguments) e b

first_in : (l : Linking) (n : ℕ) (s t : Spaces) (item : Item) (w : LinkWhy) → t ≡ s → IsFirst l n t item w → IsFirst l n s item w
first_in l n s t item w e f = subst (λ (s : Spaces). IsFirst l n s item w) e f

links_at : (l m : Linking) (n : ℕ) (items : List (Placed Item)) (last : Linking) → m ≡ l → Links m n items last → Links l n items last
links_at l m n items last e h = subst (λ (l : Linking). Links l n items last) e h

refused_at : (l m : Linking) (n : ℕ) (items : List (Placed Item)) (fault : LinkFault) → m ≡ l → IsRefusedAt m n items fault → IsRefusedAt l n items fault
refused_at l m n items fault e h = subst (λ (l : Linking). IsRefusedAt l n items fault) e h

inside_at : (l : Linking) (c d : Closure) (given passed : Exports) (inner : Linking) → (d ≡ c) × (passed ≡ given) → Links (begun l d passed) (length l.scopes) d.items inner → Links (begun l c given) (length l.scopes) c.items inner
inside_at l c d given passed inner e h =
    subst (λ (c : Closure). Links (begun l c given) (length l.scopes) c.items inner) e.0 (subst (λ (given : Exports). Links (begun l d given) (length l.scopes) d.items inner) e.1 h)

fault_at : (l : Linking) (c d : Closure) (given passed : Exports) (fault : LinkFault) → (d ≡ c) × (passed ≡ given) → IsRefusedAt (begun l d passed) (length l.scopes) d.items fault → IsRefusedAt (begun l c given) (length l.scopes) c.items fault
fault_at l c d given passed fault e h =
    subst (λ (c : Closure). IsRefusedAt (begun l c given) (length l.scopes) c.items fault) e.0 (subst (λ (given : Exports). IsRefusedAt (begun l d given) (length l.scopes) d.items fault) e.1 h)

with_same : (n : ℕ) (s : Spaces) (count : ℕ) (a b : Linking) → a ≡ b → with_instance a n s count ≡ with_instance b n s count
with_same n s count a b e = ap (λ (l : Linking). with_instance l n s count) e

mutual
  pub one_linking : OneLinking
  one_linking l n items a b (no_items m k) h = ways m k [] b h
  one_linking l n items a b (item_links m next end k s placed others there leads behind) h =
      let w = ways m k (placed ∷ others) b h in
      let one = one_lead m k s placed next w.2.next leads (leads_in m k s w.0 placed w.2.next (same_spaces m k s w.0 there w.1) w.2.leads) in
      one_linking next k others end b behind (links_at next w.2.next k others b (sym one) w.2.behind)

  one_lead : (l : Linking) (n : ℕ) (s : Spaces) (placed : Placed Item) (a b : Linking) → Leads l n s placed a → Leads l n s placed b → a ≡ b
  one_lead l n s placed a b (leads_by_making m next k t p made) h =
      elim (led m k t p b h) [
        | inl other ↦ makes_once m k t p.item next b made other
        | inr v ↦ absurd (makes_excludes_begins m k t p.item next v.component v.arguments made v.begins)
      ]
  one_lead l n s placed a b (leads_by_instance m inner k t c arguments p begins inside) h =
      elim (led m k t p b h) [
        | inl other ↦ absurd (makes_excludes_begins m k t p.item b c arguments other begins)
        | inr v ↦
            (let one = begins_once m k t p.item v.component c v.arguments arguments v.begins begins in
            let inners = one_linking (begun m c arguments) (length m.scopes) c.items inner v.inner inside (inside_at m c v.component arguments v.arguments v.inner one v.inside) in
            with_same k t (length m.scopes) inner v.inner inners ∙ v.ends)
      ]

-- an item that leads somewhere has no reason
leads_excludes_reasons : (l : Linking) (n : ℕ) (s : Spaces) (placed : Placed Item) (next : Linking) (w : LinkWhy) → Leads l n s placed next → item_has l n s placed.item w → ⊥
leads_excludes_reasons l n s placed next w (leads_by_making m other k t p made) h = makes_excludes_reasons m k t p.item other w made h
leads_excludes_reasons l n s placed next w (leads_by_instance m inner k t c arguments p begins inside) h = begins_excludes_reasons m k t p.item c arguments w begins h

mutual
  pub links_excludes_faults : LinksExcludesFaults
  links_excludes_faults l n items last fault (no_items m k) h = refusals m k [] fault h
  links_excludes_faults l n items last fault (item_links m next end k s placed others there leads behind) h =
      let r = refusals m k (placed ∷ others) fault h in
      let same = same_spaces m k s r.0 there r.1 in
      elim r.2 [
        | by_reason v ↦ leads_excludes_reasons m k s placed next v.reason leads (first_in m k s r.0 placed.item v.reason same v.is_first).has
        | inside_instance v ↦ leads_excludes_inside m k s placed next v.component v.arguments fault leads (begins_in m k s r.0 placed.item v.component v.arguments same v.begins) v.inside
        | behind_item v ↦ links_excludes_faults next k others end fault behind
            (refused_at next v.next k others fault (sym (one_lead m k s placed next v.next leads (leads_in m k s r.0 placed v.next same v.leads))) v.behind)
      ]

  -- and no item of the component that it instantiates is refused
  leads_excludes_inside : (l : Linking) (n : ℕ) (s : Spaces) (placed : Placed Item) (next : Linking) (d : Closure) (passed : Exports) (fault : LinkFault)
      → Leads l n s placed next → Begins l n s placed.item d passed → IsRefusedAt (begun l d passed) (length l.scopes) d.items fault → ⊥
  leads_excludes_inside l n s placed next d passed fault (leads_by_making m other k t p made) begins h = makes_excludes_begins m k t p.item other d passed made begins
  leads_excludes_inside l n s placed next d passed fault (leads_by_instance m inner k t c arguments p begins inside) others h =
      let one = begins_once m k t p.item d c passed arguments others begins in
      links_excludes_faults (begun m c arguments) (length m.scopes) c.items inner fault inside (fault_at m c d arguments passed fault one h)

pub one_fault : OneFault
one_fault l n items a b (refused_here m k s placed others w there is_first) h =
    let r = refusals m k (placed ∷ others) b h in
    let same = same_spaces m k s r.0 there r.1 in
    elim r.2 [
      | by_reason v ↦
          (let why : w ≡ v.reason = one_first m k s placed.item w v.reason is_first (first_in m k s r.0 placed.item v.reason same v.is_first) in
          ap (λ (w : LinkWhy). (let f : LinkFault = record { place = placed.place; why = w } in f)) why ∙ v.is)
      | inside_instance v ↦ absurd (begins_excludes_reasons m k s placed.item v.component v.arguments w (begins_in m k s r.0 placed.item v.component v.arguments same v.begins) is_first.has)
      | behind_item v ↦ absurd (leads_excludes_reasons m k s placed v.next w (leads_in m k s r.0 placed v.next same v.leads) is_first.has)
    ]
one_fault l n items a b (refused_inside m k s c arguments placed others fault there begins inside) h =
    let r = refusals m k (placed ∷ others) b h in
    let same = same_spaces m k s r.0 there r.1 in
    elim r.2 [
      | by_reason v ↦ absurd (begins_excludes_reasons m k s placed.item c arguments v.reason begins (first_in m k s r.0 placed.item v.reason same v.is_first).has)
      | inside_instance v ↦
          (let one = begins_once m k s placed.item v.component c v.arguments arguments (begins_in m k s r.0 placed.item v.component v.arguments same v.begins) begins in
          one_fault (begun m c arguments) (length m.scopes) c.items fault b inside (fault_at m c v.component arguments v.arguments b one v.inside))
      | behind_item v ↦ absurd (leads_excludes_inside m k s placed v.next c arguments fault (leads_in m k s r.0 placed v.next same v.leads) begins inside)
    ]
one_fault l n items a b (refused_later m next k s placed others fault there leads behind) h =
    let r = refusals m k (placed ∷ others) b h in
    let same = same_spaces m k s r.0 there r.1 in
    elim r.2 [
      | by_reason v ↦ absurd (leads_excludes_reasons m k s placed next v.reason leads (first_in m k s r.0 placed.item v.reason same v.is_first).has)
      | inside_instance v ↦ absurd (leads_excludes_inside m k s placed next v.component v.arguments b leads (begins_in m k s r.0 placed.item v.component v.arguments same v.begins) v.inside)
      | behind_item v ↦ one_fault next k others fault b behind
          (refused_at next v.next k others b (sym (one_lead m k s placed next v.next leads (leads_in m k s r.0 placed v.next same v.leads))) v.behind)
    ]

-- Components.

pub one_graph : OneGraph
one_graph c g h (l, links, is) (m, others, are) = is ∙ (ap graph_of (one_linking root_begun 0 c.items l m links others) ∙ sym are)

pub linked_is_not_refused : LinkedIsNotRefused
linked_is_not_refused c g fault (l, links, is) refused = links_excludes_faults root_begun 0 c.items l fault links refused

pub one_refusal : OneRefusal
one_refusal c a b h k = one_fault root_begun 0 c.items a b h k
