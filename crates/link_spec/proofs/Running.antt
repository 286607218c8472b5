-- What is computed of a component is its graph, or its fault.
use Rattle.std.proofs.Common.{◌≡◌, ◌⊎◌, inl, inr, ◌<◌, ◌≤◌, ◌+◌, ℕ, zero, suc, List, [], ◌∷◌, length, refl, sym, ap, subst, arith, Option, Some}
use Rattle.std.specs.Prelude.{Result, Ok, Err}
use Rattle.std.specs.List.{slice_get}
use Rattle.ca_base.specs.declared.placed.Placed.{Placed}
use Rattle.comp_graph.specs.Graph.{Graph}
use Rattle.comp_tree.specs.declared.items.Item.{Item}
use Rattle.comp_tree.specs.declared.items.Component.{Component}
use Rattle.link_spec.specs.declared.fault.LinkWhy.{LinkWhy}
use Rattle.link_spec.specs.declared.fault.LinkFault.{LinkFault}
use Rattle.link_spec.specs.Definitions.{Closure, Exports}
use Rattle.link_spec.specs.Spaces.{Spaces, Linking}
use Rattle.link_spec.specs.Items.{instance_limit, item_has}
use Rattle.link_spec.specs.Linked.{Begins, begun, with_instance, Leads, leads_by_making, leads_by_instance, Links, no_items, item_links, IsRefusedAt, refused_here, refused_inside, refused_later, root_begun, IsLinked, IsLinkRefused}
use Rattle.link_spec.specs.Computed.{after, Outcome, Makes, Starts, item_outcome, Run, behind, placed_at, step, run, run_within, answer_of, linked}
use Rattle.link_spec.specs.Laws.{IsOutcome, GraphComputed, FaultComputed, LinkedOrRefused}
use Rattle.link_spec.proofs.Sounding.{Sound}
use Rattle.link_spec.proofs.Outcomes.{item_sound, is_first}
use Rattle.link_spec.proofs.Lengths.{makes_length, begun_length, instance_length_same, links_length}
use Rattle.link_spec.proofs.Following.{one_graph, linked_is_not_refused, one_refusal}

-- what is computed of items leads to this linking, or is their fault
abbrev Ends : Linking → ℕ → List (Placed Item) → Result Linking LinkFault → Type 0
Ends l n items (Ok last) = Links l n items last
Ends l n items (Err fault) = IsRefusedAt l n items fault

-- what is computed of the items of a component that begins, where so many more instances may begin
abbrev ToldInside : Run → ℕ → Type 0
ToldInside inside budget =
    (l : Linking) (c : Closure) (arguments : Exports) → length l.scopes < instance_limit → instance_limit ≤ length l.scopes + budget
    → Ends (begun l c arguments) (length l.scopes) c.items (inside (begun l c arguments) (length l.scopes) c.items)

-- an item that is there
there_at : {A : Type 0} (xs : List A) (n : ℕ) → n < length xs → (x : A) × (slice_get xs n ≡ Some x)
there_at [] n h = absurd (omega arith)
there_at (x ∷ xs) zero h = (x, refl)
there_at (x ∷ xs) (suc n) h = there_at xs n (omega arith)

-- what is computed of items behind one, in every linking
abbrev ToldBehind : Run → ℕ → ℕ → List (Placed Item) → Type 0
ToldBehind inside budget n items =
    (next : Linking) → n < length next.scopes → instance_limit ≤ length next.scopes + budget → Ends next n items (run inside next n items)

behind_item : (l next : Linking) (n : ℕ) (s : Spaces) (placed : Placed Item) (items : List (Placed Item)) → slice_get l.scopes n ≡ Some s → Leads l n s placed next → (r : Result Linking LinkFault) → Ends next n items r → Ends l n (placed ∷ items) r
behind_item l next n s placed items there leads (Ok last) h = item_links l next last n s placed items there leads h
behind_item l next n s placed items there leads (Err fault) h = refused_later l next n s placed items fault there leads h

-- the items of a component that begins, and those behind its instance
through_instance : (inside : Run) (budget : ℕ) (l : Linking) (n : ℕ) (s : Spaces) (c : Closure) (arguments : Exports) (placed : Placed Item) (items : List (Placed Item)) → slice_get l.scopes n ≡ Some s → Begins l n s placed.item c arguments
    → n < length l.scopes → instance_limit ≤ length l.scopes + budget → ToldBehind inside budget n items
    → (r : Result Linking LinkFault) → Ends (begun l c arguments) (length l.scopes) c.items r
    → Ends l n (placed ∷ items) (after (after r (λ inner. Ok (with_instance inner n s (length l.scopes)))) (λ next. run inside next n items))
through_instance inside budget l n s c arguments placed items there begins here enough rest (Err fault) h = refused_inside l n s c arguments placed items fault there begins h
through_instance inside budget l n s c arguments placed items there begins here enough rest (Ok inner) h =
    let more = begun_length l c arguments in
    let longer = links_length (begun l c arguments) (length l.scopes) c.items inner h in
    let same = instance_length_same inner n s (length l.scopes) in
    behind_item l (with_instance inner n s (length l.scopes)) n s placed items there (leads_by_instance l inner n s c arguments placed begins h) (run inside (with_instance inner n s (length l.scopes)) n items)
    (rest (with_instance inner n s (length l.scopes)) (omega (arith, more, longer, same)) (omega (arith, more, longer, same)))

through_item : (inside : Run) (budget : ℕ) (l : Linking) (n : ℕ) (s : Spaces) (placed : Placed Item) (items : List (Placed Item)) → ToldInside inside budget → slice_get l.scopes n ≡ Some s
    → n < length l.scopes → instance_limit ≤ length l.scopes + budget → ToldBehind inside budget n items
    → (r : Result Outcome LinkWhy) → Sound (item_has l n s placed.item) (IsOutcome l n s placed.item) r
    → Ends l n (placed ∷ items) (after (after (placed_at placed.place r) (behind inside l n s)) (λ next. run inside next n items))
through_item inside budget l n s placed items inner there here enough rest (Err w) h = refused_here l n s placed items w there (is_first l n s placed.item w h)
through_item inside budget l n s placed items inner there here enough rest (Ok (Makes next)) h =
    let same = makes_length l n s placed.item next h in
    behind_item l next n s placed items there (leads_by_making l next n s placed h) (run inside next n items) (rest next (omega (arith, same)) (omega (arith, same)))
through_item inside budget l n s placed items inner there here enough rest (Ok (Starts c arguments)) h =
    through_instance inside budget l n s c arguments placed items there h here enough rest (inside (begun l c arguments) (length l.scopes) c.items) (inner l c arguments h.few enough)

run_told : (inside : Run) (budget : ℕ) → ToldInside inside budget → (items : List (Placed Item)) (n : ℕ) → ToldBehind inside budget n items
run_told inside budget inner [] n l here enough = no_items l n
run_told inside budget inner (placed ∷ items) n l here enough =
    let s = there_at l.scopes n here in
    subst (λ (o : Option Spaces). Ends l n (placed ∷ items) (after (step inside l n placed o) (λ next. run inside next n items))) (sym s.1)
    (through_item inside budget l n s.0 placed items inner s.1 here enough (λ next h k. run_told inside budget inner items n next h k) (item_outcome l n s.0 placed.item) (item_sound l n s.0 placed.item))

within_told : (budget : ℕ) (items : List (Placed Item)) (n : ℕ) (l : Linking) → n < length l.scopes → instance_limit ≤ length l.scopes + budget → Ends l n items (run_within budget l n items)
within_told zero items n l here enough = run_told (λ l n items. Ok l) 0 (λ l c arguments few enough. absurd (omega arith)) items n l here enough
within_told (suc budget) items n l here enough =
    run_told (run_within budget) (suc budget)
    (λ l c arguments few enough. (let more = begun_length l c arguments in
    within_told budget c.items (length l.scopes) (begun l c arguments) (omega (arith, more)) (omega (arith, more))))
    items n l here enough

-- Components.

-- what is computed to be linked is linked
pub links_within : (c : Component) (l : Linking) → run_within instance_limit root_begun 0 c.items ≡ Ok l → Links root_begun 0 c.items l
links_within c l e = subst (λ (r : Result Linking LinkFault). Ends root_begun 0 c.items r) e (within_told instance_limit c.items 0 root_begun (omega arith) (omega arith))

abbrev Answers : Component → Result Graph LinkFault → Type 0
Answers c (Ok g) = IsLinked c g
Answers c (Err fault) = IsLinkRefused c fault

answer_is : (c : Component) (r : Result Linking LinkFault) → Ends root_begun 0 c.items r → Answers c (answer_of r)
answer_is c (Ok l) h = (l, h, refl)
answer_is c (Err fault) h = h

answers_within : (budget : ℕ) (c : Component) → instance_limit ≤ 1 + budget → Answers c (answer_of (run_within budget root_begun 0 c.items))
answers_within budget c enough =
    answer_is c (run_within budget root_begun 0 c.items) (within_told budget c.items 0 root_begun (omega arith) (omega arith))

answers : (c : Component) → Answers c (linked c)
answers c = answers_within instance_limit c (omega arith)

told : (c : Component) (r : Result Graph LinkFault) → linked c ≡ r → Answers c r
told c r e = subst (λ (r : Result Graph LinkFault). Answers c r) e (answers c)

pub graph_computed : GraphComputed
graph_computed c g = (λ e. told c (Ok g) e, back (linked c) (answers c))
  where
    back : (r : Result Graph LinkFault) → Answers c r → IsLinked c g → r ≡ Ok g
    back (Ok h) is k = ap Ok (one_graph c h g is k)
    back (Err fault) is k = absurd (linked_is_not_refused c g fault k is)

pub fault_computed : FaultComputed
fault_computed c fault = (λ e. told c (Err fault) e, back (linked c) (answers c))
  where
    back : (r : Result Graph LinkFault) → Answers c r → IsLinkRefused c fault → r ≡ Err fault
    back (Ok g) is k = absurd (linked_is_not_refused c g fault is k)
    back (Err other) is k = ap Err (one_refusal c other fault is k)

pub linked_or_refused : LinkedOrRefused
linked_or_refused c = by (linked c) (answers c)
  where
    by : (r : Result Graph LinkFault) → Answers c r → ((g : Graph) × IsLinked c g) ⊎ ((fault : LinkFault) × IsLinkRefused c fault)
    by (Ok g) h = inl (g, h)
    by (Err fault) h = inr (fault, h)
