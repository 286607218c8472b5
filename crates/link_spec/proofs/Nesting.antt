-- A component that instantiates itself, instance by instance.
use Rattle.std.proofs.Common.{◌≡◌, ◌<◌, ◌≤◌, ◌+◌, ℕ, zero, suc, true, false, nat_lt, List, [], ◌∷◌, ◌++◌, length, set, refl, ◌∙◌, arith, Some, None}
use Rattle.std.specs.Prelude.{Ok, Err}
use Rattle.std.specs.List.{slice_get}
use Rattle.std.proofs.Math.ListN.{length-set}
use Rattle.std.proofs.lemmas.Bool.Decides.{nat_tests}
use Rattle.ca_base.specs.declared.placed.Placed.{Placed}
use Rattle.comp_tree.specs.declared.instances.Sort.TheVariants as sorts
use Rattle.comp_tree.specs.declared.items.Item.{Item}
use Rattle.comp_tree.specs.declared.items.Item.TheViews.{outs-Alias, outs-Component, outs-Instance}
use Rattle.link_spec.specs.declared.fault.LinkWhy.TheVariants as why
use Rattle.link_spec.specs.declared.fault.LinkFault.{LinkFault}
use Rattle.link_spec.specs.Definitions.{Closure, AComponent, EmptyInstance}
use Rattle.link_spec.specs.Spaces.{Spaces, Linking, new_spaces, with_definition, with_spaces}
use Rattle.link_spec.specs.Items.{instance_limit}
use Rattle.link_spec.specs.Linked.{begun, leads_by_making, IsRefusedAt, refused_here, refused_inside, refused_later, root_begun}
use Rattle.link_spec.specs.Computed.{Makes, Starts, only_if, item_outcome, linked}
use Rattle.link_spec.specs.Examples.{root, fault, outer, instantiate, nesting}
use Rattle.link_spec.proofs.Holding.{last_there}
use Rattle.link_spec.proofs.Lengths.{begun_length}
use Rattle.link_spec.proofs.Outcomes.{outcome_computed, reason_computed}
use Rattle.link_spec.proofs.Running.{fault_computed}

get_set : {A : Type 0} (xs : List A) (n : ℕ) (x : A) → n < length xs → slice_get (set xs n x) n ≡ Some x
get_set [] n x h = absurd (omega arith)
get_set (y ∷ xs) zero x h = refl
get_set (y ∷ xs) (suc n) x h = get_set xs n x (omega arith)

first_kept : {A : Type 0} (xs : List A) (n : ℕ) (x y : A) → 0 < n → slice_get xs 0 ≡ Some y → slice_get (set xs n x) 0 ≡ Some y
first_kept [] n x y less h = cc
first_kept (z ∷ xs) zero x y less h = absurd (omega arith)
first_kept (z ∷ xs) (suc n) x y less h = h

first_before : {A : Type 0} (xs : List A) (x y : A) → slice_get xs 0 ≡ Some y → slice_get (xs ++ x ∷ []) 0 ≡ Some y
first_before [] x y h = cc
first_before (z ∷ xs) x y h = h

-- the items of the component, and it as it stands in the root
abbrev items : List (Placed Item)
items = record { place = 10; item = outer sorts.Component 1 0 } ∷ record { place = 11; item = instantiate } ∷ []

abbrev itself : Closure
itself = record { items = items; around = 0 ∷ [] }

-- the spaces of the root behind its first item, and those of an instance before its first item and behind it
abbrev of_root : Spaces
of_root = with_definition (new_spaces None []) (AComponent itself)

abbrev before : Spaces
before = new_spaces (Some EmptyInstance) (0 ∷ [])

abbrev behind : Spaces
behind = with_definition before (AComponent itself)

takes_itself : (l : Linking) (n : ℕ) → slice_get l.scopes 0 ≡ Some of_root → item_outcome l n before (outer sorts.Component 1 0) ≡ Ok (Makes (with_spaces l n behind))
takes_itself l n there = simp (outs-Alias, there) refl

begins_or_not : (l : Linking) (n : ℕ) (s : Spaces) → slice_get s.components 0 ≡ Some itself → item_outcome l n s instantiate ≡ only_if (nat_lt (length l.scopes) instance_limit) why.Limit (Ok (Starts itself EmptyInstance))
begins_or_not l n s there = simp (outs-Instance, there) refl

below : (a b : ℕ) → a < b → nat_lt a b ≡ true
below a b h = grind (arith, nat_tests)

not_below : (a b : ℕ) → b ≤ a → nat_lt a b ≡ false
not_below a b h = grind (arith, nat_tests)

begins_next : (l : Linking) (n : ℕ) (s : Spaces) → slice_get s.components 0 ≡ Some itself → length l.scopes < instance_limit → item_outcome l n s instantiate ≡ Ok (Starts itself EmptyInstance)
begins_next l n s there few = begins_or_not l n s there ∙ rw (below (length l.scopes) instance_limit few) refl

too_many : (l : Linking) (n : ℕ) (s : Spaces) → slice_get s.components 0 ≡ Some itself → instance_limit ≤ length l.scopes → item_outcome l n s instantiate ≡ Err why.Limit
too_many l n s there full = begins_or_not l n s there ∙ rw (not_below (length l.scopes) instance_limit full) refl

abbrev limit : LinkFault
limit = record { place = 11; why = why.Limit }

abbrev taken : Linking → ℕ → Linking
taken l n = with_spaces l n behind

-- what the second item comes to behind the first
behind_first : (l : Linking) (n : ℕ) → slice_get l.scopes 0 ≡ Some of_root → slice_get l.scopes n ≡ Some before → IsRefusedAt (taken l n) n (record { place = 11; item = instantiate } ∷ []) limit → IsRefusedAt l n items limit
behind_first l n first there h =
    refused_later l (taken l n) n before (record { place = 10; item = outer sorts.Component 1 0 }) (record { place = 11; item = instantiate } ∷ []) limit there
    (leads_by_making l (taken l n) n before (record { place = 10; item = outer sorts.Component 1 0 })
    ((outcome_computed l n before (outer sorts.Component 1 0) (Makes (taken l n))).0 (takes_itself l n first))) h

-- so many instances may still begin
refused : (more : ℕ) (l : Linking) (n : ℕ) → length l.scopes + more ≡ instance_limit → slice_get l.scopes 0 ≡ Some of_root → 0 < n → n < length l.scopes → slice_get l.scopes n ≡ Some before → IsRefusedAt l n items limit
refused zero l n count first above within there =
    let same : length (taken l n).scopes ≡ length l.scopes = length-set l.scopes n behind in
    behind_first l n first there
    (refused_here (taken l n) n behind (record { place = 11; item = instantiate }) [] why.Limit (get_set l.scopes n behind within)
    ((reason_computed (taken l n) n behind instantiate why.Limit).0 (too_many (taken l n) n behind refl (omega (arith, same)))))
refused (suc more) l n count first above within there =
    let same : length (taken l n).scopes ≡ length l.scopes = length-set l.scopes n behind in
    let longer : length (begun (taken l n) itself EmptyInstance).scopes ≡ length (taken l n).scopes + 1 = begun_length (taken l n) itself EmptyInstance in
    behind_first l n first there
    (refused_inside (taken l n) n behind itself EmptyInstance (record { place = 11; item = instantiate }) [] limit (get_set l.scopes n behind within)
    ((outcome_computed (taken l n) n behind instantiate (Starts itself EmptyInstance)).0 (begins_next (taken l n) n behind refl (omega (arith, same))))
    (refused more (begun (taken l n) itself EmptyInstance) (length (taken l n).scopes) (omega (arith, same, longer))
    (first_before (taken l n).scopes before of_root (first_kept l.scopes n behind of_root above first)) (omega (arith, same)) (omega (arith, longer)) (last_there (taken l n).scopes before)))

abbrev root_taken : Linking
root_taken = with_spaces root_begun 0 of_root

nests : item_outcome root_begun 0 (new_spaces None []) nesting ≡ Ok (Makes root_taken)
nests = simp outs-Component refl

root_refused : IsRefusedAt root_begun 0 (root (nesting ∷ instantiate ∷ [])).items limit
root_refused =
    refused_later root_begun root_taken 0 (new_spaces None []) (record { place = 0; item = nesting }) (record { place = 1; item = instantiate } ∷ []) limit refl
    (leads_by_making root_begun root_taken 0 (new_spaces None []) (record { place = 0; item = nesting })
    ((outcome_computed root_begun 0 (new_spaces None []) nesting (Makes root_taken)).0 nests))
    (refused_inside root_taken 0 of_root itself EmptyInstance (record { place = 1; item = instantiate }) [] limit refl
    ((outcome_computed root_taken 0 of_root instantiate (Starts itself EmptyInstance)).0 (begins_next root_taken 0 of_root refl (omega arith)))
    (refused 254 (begun root_taken itself EmptyInstance) 1 refl refl (omega arith) (omega arith) refl))

pub nested_too_often : linked (root (nesting ∷ instantiate ∷ [])) ≡ fault 11 why.Limit
nested_too_often = (fault_computed (root (nesting ∷ instantiate ∷ [])) limit).1 root_refused
