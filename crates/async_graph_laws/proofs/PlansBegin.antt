-- The plan of a linked graph begins each component instance before what it makes.
use Rattle.std.proofs.Common.{◌≡◌, inl, inr, ◌<◌, ◌≤◌, ◌+◌, ℕ, zero, suc, Bool, List, [], ◌∷◌, ◌++◌, length, set, refl, sym, ap, ◌∙◌, subst, arith, Option, Some, None}
use Rattle.std.specs.Prelude.{IsSome}
use Rattle.std.specs.List.{slice_get, AllByRecursion}
use Rattle.std.specs.Option.{IfSome}
use Rattle.ca_base.specs.declared.placed.Placed.{Placed}
use Rattle.syntax_trees.specs.declared.types.ValType.{ValType}
use Rattle.comp_tree.specs.declared.core_instances.CoreInstance.{CoreInstance}
use Rattle.comp_tree.specs.declared.core_instances.CoreInstance.TheVariants as made_core
use Rattle.comp_tree.specs.declared.instances.Instance as made_of
use Rattle.comp_tree.specs.declared.instances.Instance.TheVariants as made
use Rattle.comp_tree.specs.declared.instances.Sort.{Sort}
use Rattle.comp_tree.specs.declared.instances.AliasTarget.{AliasTarget}
use Rattle.comp_tree.specs.declared.instances.AliasTarget.TheVariants as target
use Rattle.comp_tree.specs.declared.types.DefType.{out-DefType}
use Rattle.comp_tree.specs.declared.items.Canon.TheVariants.{Lift, Lower, Builtin}
use Rattle.comp_tree.specs.declared.items.Item.{Item, out-Item}
use Rattle.comp_tree.specs.declared.items.Item.TheOpen.{Item-F}
use Rattle.comp_tree.specs.declared.items.Component.{Component}
use Rattle.comp_graph.specs.declared.graph.Action.{Action}
use Rattle.comp_graph.specs.declared.graph.Action.TheVariants.{Begin, Make}
use Rattle.comp_graph.specs.declared.graph.CanonFunc.{CanonFunc}
use Rattle.comp_graph.specs.declared.graph.CanonFunc.TheVariants as canon_func
use Rattle.comp_graph.specs.declared.graph.FuncRef.{FuncRef}
use Rattle.comp_graph.specs.declared.graph.FuncRef.TheVariants as func_ref
use Rattle.comp_graph.specs.declared.graph.Resource as graph_resource
use Rattle.comp_graph.specs.Graph.{CoreMake, Graph, Lifted}
use Rattle.link_spec.specs.Definitions.{Closure, AnInstance, Exports, exports_of}
use Rattle.link_spec.specs.Spaces.{Spaces, Linking, with_core_instance, with_definition, with_spaces, with_ends}
use Rattle.link_spec.specs.Ends.{noted_type}
use Rattle.link_spec.specs.Resources.{resource_written, with_resource, resource_makes}
use Rattle.link_spec.specs.Types.{Meaning}
use Rattle.comp_graph.specs.Closed.{Closed}
use Rattle.link_spec.specs.Items.{core_instance_makes, instance_makes, alias_makes, with_canon, defined_makes, type_meaning, makes_case, item_makes}
use Rattle.link_spec.specs.Linked.{IsLinked, begun, exports_at, with_instance, Links, leads_by_making, leads_by_instance, no_items, item_links, root_begun}
use Rattle.link_spec.proofs.Holding.{all_push, all_weaker, all_at}
use Rattle.abi_machine.specs.World.{Callee, Init, Func, Destroys}
use Rattle.abi_machine.specs.Canons.{canon_at, inst_of_canon}
use Rattle.abi_machine.specs.Reading.{func_of}
use Rattle.abi_machine.specs.sound.GraphFuncs.{IsOfGraph}
use Rattle.abi_machine.specs.sound.Owners.{owner_of_func, IsApart, Makes}
use Rattle.abi_machine.proofs.sound.Lists.{within}
use Rattle.abi_machine.proofs.sound.own.Belonging.{canon_apart, resource_apart}
use Rattle.abi_machine.proofs.sound.own.Exports.{named_apart}
use Rattle.abi_machine.proofs.sound.own.Lists.{map_some}
use Rattle.reach_laws.specs.KnownPlans.{begins, begins_to}
use Rattle.async_graph_laws.specs.Plans.{LinkedInstancesBegin, LinkedMakesFollow}
use Rattle.async_graph_laws.proofs.DefinitionsApart.{linked_definitions_are_apart}

-- The core instances of a plan, before which so many component instances have begun, are each of one that has.
abbrev MadeWithin : ℕ → List Action → List CoreMake → Type 0
MadeWithin count [] cores = cores ≡ []
MadeWithin count (Begin instance ∷ actions) cores = MadeWithin (suc count) actions cores
MadeWithin count (Make number ∷ actions) [] = ⊥
MadeWithin count (Make number ∷ actions) (c ∷ cores) = (c.owner < count) × MadeWithin count actions cores

begins_more : (plan : List Action) (instance : ℕ) → begins (plan ++ Begin instance ∷ []) ≡ suc (begins plan)
begins_more [] instance = refl
begins_more (Begin other ∷ plan) instance = ap suc (begins_more plan instance)
begins_more (Make number ∷ plan) instance = begins_more plan instance

begins_same : (plan : List Action) (number : ℕ) → begins (plan ++ Make number ∷ []) ≡ begins plan
begins_same [] number = refl
begins_same (Begin other ∷ plan) number = ap suc (begins_same plan number)
begins_same (Make other ∷ plan) number = begins_same plan number

begin_behind : (count instance : ℕ) (plan : List Action) (cores : List CoreMake) → MadeWithin count plan cores → MadeWithin count (plan ++ Begin instance ∷ []) cores
begin_behind count instance [] cores h = h
begin_behind count instance (Begin other ∷ plan) cores h = begin_behind (suc count) instance plan cores h
begin_behind count instance (Make number ∷ plan) [] h = absurd h
begin_behind count instance (Make number ∷ plan) (c ∷ cores) h = (h.0, begin_behind count instance plan cores h.1)

make_behind : (count number : ℕ) (plan : List Action) (cores : List CoreMake) (c : CoreMake) → c.owner < count + begins plan → MadeWithin count plan cores → MadeWithin count (plan ++ Make number ∷ []) (cores ++ c ∷ [])
make_behind count number [] [] c less h = ((let e : c.owner < count + 0 = less in omega (arith, e)), refl)
make_behind count number [] (other ∷ cores) c less h = cc
make_behind count number (Begin instance ∷ plan) cores c less h =
    make_behind (suc count) number plan cores c (let e : c.owner < count + suc (begins plan) = less in omega (arith, e)) h
make_behind count number (Make made ∷ plan) [] c less h = absurd h
make_behind count number (Make made ∷ plan) (other ∷ cores) c less h = (h.0, make_behind count number plan cores c less h.1)

-- So it is of a core instance that is made by an action; and of each.
make_is : (n m : ℕ) → Some (Make n) ≡ Some (Make m) → n ≡ m
make_is n m e = cc

begins_no_make : (instance number : ℕ) → Some (Begin instance) ≡ Some (Make number) → ⊥
begins_no_make instance number e = cc

nothing_there : {A : Type 0} (n : ℕ) (x : A) → slice_get [] n ≡ Some x → ⊥
nothing_there n x e = cc

same_core : (c d : CoreMake) → Some c ≡ Some d → c ≡ d
same_core c d e = cc

follow_at : (number count : ℕ) (plan : List Action) (cores : List CoreMake) → Makes number plan cores → MadeWithin count plan cores → (n k m : ℕ) (c : CoreMake) → slice_get plan n ≡ Some (Make k) → k ≡ number + m
    → slice_get cores m ≡ Some c → c.owner < count + begins_to n plan
follow_at number count [] cores h w n k m c e is f = absurd (nothing_there n (Make k) e)
follow_at number count (Begin instance ∷ plan) cores h w zero k m c e is f = absurd (begins_no_make instance k e)
follow_at number count (Begin instance ∷ plan) cores h w (suc n) k m c e is f =
    let later : c.owner < suc count + begins_to n plan = follow_at number (suc count) plan cores h w n k m c e is f in omega (arith, later)
follow_at number count (Make made ∷ plan) [] h w n k m c e is f = absurd h
follow_at number count (Make made ∷ plan) (d ∷ cores) h w zero k zero c e is f =
    let owner : d.owner ≡ c.owner = ap (λ (x : CoreMake). x.owner) (same_core d c f) in
    let less : d.owner < count = w.0 in omega (arith, owner, less)
follow_at number count (Make made ∷ plan) (d ∷ cores) h w zero k (suc m) c e is f =
    let first : made ≡ number = h.0 in
    let same : made ≡ k = make_is made k e in
    let other : k ≡ number + suc m = is in absurd (let none : ⊥ = omega (arith, first, same, other) in none)
follow_at number count (Make made ∷ plan) (d ∷ cores) h w (suc n) k zero c e is f =
    let owner : d.owner ≡ c.owner = ap (λ (x : CoreMake). x.owner) (same_core d c f) in
    let less : d.owner < count = w.0 in omega (arith, owner, less)
follow_at number count (Make made ∷ plan) (d ∷ cores) h w (suc n) k (suc m) c e is f =
    follow_at (suc number) count plan cores h.1 w.1 n k m c e (let so : k ≡ number + suc m = is in omega (arith, so)) f

each_begun : (count : ℕ) (plan : List Action) (cores : List CoreMake) → MadeWithin count plan cores → AllByRecursion (λ (c : CoreMake). c.owner < count + begins plan) cores
each_begun count [] cores h = subst (λ (all : List CoreMake). AllByRecursion (λ (c : CoreMake). c.owner < count + 0) all) (sym h) tt
each_begun count (Begin instance ∷ plan) cores h =
    all_weaker (λ (c : CoreMake). c.owner < suc count + begins plan) (λ (c : CoreMake). c.owner < count + suc (begins plan))
    (λ c less. (let e : c.owner < suc count + begins plan = less in omega (arith, e))) cores (each_begun (suc count) plan cores h)
each_begun count (Make number ∷ plan) [] h = absurd h
each_begun count (Make number ∷ plan) (c ∷ cores) h = ((let less : c.owner < count = h.0 in omega (arith, less)), each_begun count plan cores h.1)

-- A linking, of which as many component instances have begun as have index spaces.
record BeginsBy (plan : List Action) (cores : List CoreMake) (canons : List CanonFunc) (count : ℕ) : Type 0 where
  pub counted : count ≤ begins plan
  pub made : MadeWithin 0 plan cores
  pub within : AllByRecursion (λ (f : CanonFunc). inst_of_canon f < count) canons

abbrev BeginsWell : Linking → Type 0
BeginsWell l = BeginsBy l.plan l.cores l.canons (length l.scopes)

set_long : {A : Type 0} (xs : List A) (n : ℕ) (x : A) → length (set xs n x) ≡ length xs
set_long [] n x = refl
set_long (y ∷ xs) zero x = refl
set_long (y ∷ xs) (suc n) x = ap suc (set_long xs n x)

push_long : {A : Type 0} (xs : List A) (x : A) → length (xs ++ x ∷ []) ≡ suc (length xs)
push_long [] x = refl
push_long (y ∷ xs) x = ap suc (push_long xs x)

there_within : (l : Linking) (n : ℕ) (s : Spaces) → slice_get l.scopes n ≡ Some s → n < length l.scopes
there_within l n s there = within l.scopes n (subst (λ (o : Option Spaces). IsSome o) (sym there) refl)

-- as many as there are index spaces
same_count : (n m k : ℕ) → m ≡ n → n ≤ k → m ≤ k
same_count n m k same less = omega (arith, same, less)

-- a component instance has other index spaces
canons_as : (l : Linking) (scopes : List Spaces) (canons : List CanonFunc) → length scopes ≡ length l.scopes → AllByRecursion (λ (f : CanonFunc). inst_of_canon f < length l.scopes) canons
    → AllByRecursion (λ (f : CanonFunc). inst_of_canon f < length scopes) canons
canons_as l scopes canons same h = subst (λ (n : ℕ). AllByRecursion (λ (f : CanonFunc). inst_of_canon f < n) canons) (sym same) h

spaces_well : (l : Linking) (n : ℕ) (s : Spaces) → BeginsWell l → BeginsWell (with_spaces l n s)
spaces_well l n s h = record {
  counted = same_count (length l.scopes) (length (set l.scopes n s)) (begins l.plan) (set_long l.scopes n s) h.counted;
  made = h.made;
  within = canons_as l (set l.scopes n s) l.canons (set_long l.scopes n s) h.within;
}

spaces_so : (l : Linking) (n : ℕ) (s : Spaces) (new : Linking) → new ≡ with_spaces l n s → BeginsWell l → BeginsWell new
spaces_so l n s new e h = subst BeginsWell (sym e) (spaces_well l n s h)

ends_well : (l : Linking) (types : List ValType) (room : Bool) → BeginsWell l → BeginsWell (with_ends l types room)
ends_well l types room h = record { counted = h.counted; made = h.made; within = h.within }

make_count : (l : Linking) (n : ℕ) (s : Spaces) → BeginsWell l → length (set l.scopes n s) ≤ begins (l.plan ++ Make (length l.cores) ∷ [])
make_count l n s h =
    let many : length l.scopes ≤ begins l.plan = h.counted in
    let same : length (set l.scopes n s) ≡ length l.scopes = set_long l.scopes n s in
    let plan : begins (l.plan ++ Make (length l.cores) ∷ []) ≡ begins l.plan = begins_same l.plan (length l.cores) in omega (arith, many, same, plan)

core_instance_well : (l : Linking) (n : ℕ) (s : Spaces) (c : CoreInstance) (new : Linking) → BeginsWell l → n < length l.scopes → core_instance_makes l n s c new → BeginsWell new
core_instance_well l n s (made_core.Instantiate index arguments) new h less (m, imports, is, there, found, distinct, few, made) =
    subst BeginsWell (sym made) (record {
      counted = make_count l n (with_core_instance s (exports_of m (length l.cores))) h;
      made = make_behind 0 (length l.cores) l.plan l.cores _ (let many : length l.scopes ≤ begins l.plan = h.counted in omega (arith, many, less)) h.made;
      within = canons_as l (set l.scopes n _) l.canons (set_long l.scopes n _) h.within;
    })
core_instance_well l n s (made_core.Inline read) new h less (exports, are, distinct, made) = spaces_so l n _ new made h

instance_well : (l : Linking) (n : ℕ) (s : Spaces) (i : made_of.Instance) (new : Linking) → BeginsWell l → instance_makes l n s i new → BeginsWell new
instance_well l n s (made.Instantiate component arguments) new h makes = absurd makes
instance_well l n s (made.Inline read) new h (exports, are, distinct, made) = spaces_so l n _ new made h

alias_well : (l : Linking) (n : ℕ) (s : Spaces) (sort : Sort) (t : AliasTarget) (new : Linking) → BeginsWell l → alias_makes l n s sort t new → BeginsWell new
alias_well l n s sort (target.InstanceExport instance name) new h (d, is, of_sort, made) = spaces_so l n _ new made h
alias_well l n s sort (target.CoreInstanceExport instance name) new h (item, is, of_sort, made) = spaces_so l n _ new made h
alias_well l n s sort (target.Outer up index) new h (d, is, made) = spaces_so l n _ new made h

canon_well : (l : Linking) (n : ℕ) (s : Spaces) (f : CanonFunc) (new : Linking) → inst_of_canon f ≡ n → BeginsWell l → n < length l.scopes → new ≡ with_canon l n s f → BeginsWell new
canon_well l n s f new of_instance h less made =
    subst BeginsWell (sym made) (record {
      counted = same_count (length l.scopes) (length (set l.scopes n _)) (begins l.plan) (set_long l.scopes n _) h.counted;
      made = h.made;
      within = canons_as l (set l.scopes n _) (l.canons ++ f ∷ []) (set_long l.scopes n _)
          (all_push (λ (x : CanonFunc). inst_of_canon x < length l.scopes) l.canons f h.within (subst (λ (m : ℕ). m < length l.scopes) (sym of_instance) less));
    })

resource_well : (l : Linking) (n : ℕ) (s : Spaces) (core : Option FuncRef) (new : Linking) → BeginsWell l → new ≡ with_resource l n s core → BeginsWell new
resource_well l n s core new h made =
    subst BeginsWell (sym made) (record {
      counted = same_count (length l.scopes) (length (set l.scopes n _)) (begins l.plan) (set_long l.scopes n _) h.counted;
      made = h.made;
      within = canons_as l (set l.scopes n _) l.canons (set_long l.scopes n _) h.within;
    })

destructor_well : (l : Linking) (n : ℕ) (s : Spaces) (index : Option ℕ) (new : Linking) → BeginsWell l → resource_makes l n s index new → BeginsWell new
destructor_well l n s None new h made = resource_well l n s None new h made
destructor_well l n s (Some f) new h (item, core, is, of_item, fits, made) = resource_well l n s (Some core) new h made

type_well : (l : Linking) (n : ℕ) (s : Spaces) (written : Option (Option ℕ)) (meaning : Meaning Closed) (new : Linking) → BeginsWell l → defined_makes l n s written meaning new → BeginsWell new
type_well l n s (Some index) meaning new h makes = destructor_well l n s index new h makes
type_well l n s None meaning new h (closed, means, made) = spaces_so (with_ends l (noted_type l.end_types closed) meaning.has_room) n _ new made (ends_well l (noted_type l.end_types closed) meaning.has_room h)

case_well : (l : Linking) (n : ℕ) (s : Spaces) (shape : Item-F Item Component) (new : Linking) → BeginsWell l → n < length l.scopes → makes_case l n s shape new → BeginsWell new
case_well l n s (Item-F.CoreModule m) new h less made = spaces_so l n _ new made h
case_well l n s (Item-F.CoreInstance c) new h less makes = core_instance_well l n s c new h less makes
case_well l n s (Item-F.Component c) new h less made = spaces_so l n _ new made h
case_well l n s (Item-F.Instance i) new h less makes = instance_well l n s i new h makes
case_well l n s (Item-F.Alias alias) new h less makes = alias_well l n s alias.sort alias.target new h makes
case_well l n s (Item-F.Type type) new h less makes = type_well l n s (resource_written (out-DefType type)) (type_meaning l n s type) new h makes
case_well l n s (Item-F.Canon (Lift f options t)) new h less (item, core, type, is, of_item, there, of_type, once, fits, made) = spaces_so l n _ new made h
case_well l n s (Item-F.Canon (Lower f options)) new h less (func, is, there, once, fits, made) = canon_well l n s _ new refl h less made
case_well l n s (Item-F.Canon (Builtin b)) new h less (kind, there, is, serves, made) = canon_well l n s _ new refl h less made
case_well l n s (Item-F.Import i) new h less (extern, d, means, fresh, imported, made) = spaces_so l n _ new made h
case_well l n s (Item-F.Export e) new h less (d, x, is, fresh, exported, made) = spaces_so l n _ new made h

-- A component instance begins.
begun_well : (l : Linking) (c : Closure) (arguments : Exports) → BeginsWell l → BeginsWell (begun l c arguments)
begun_well l c arguments h = record {
  counted =
      (let many : length l.scopes ≤ begins l.plan = h.counted in
      let longer : length (begun l c arguments).scopes ≡ suc (length l.scopes) = push_long l.scopes _ in
      let more : begins (l.plan ++ Begin (length l.scopes) ∷ []) ≡ suc (begins l.plan) = begins_more l.plan (length l.scopes) in omega (arith, many, longer, more));
  made = begin_behind 0 (length l.scopes) l.plan l.cores h.made;
  within =
      subst (λ (n : ℕ). AllByRecursion (λ (f : CanonFunc). inst_of_canon f < n) l.canons) (sym (push_long l.scopes _))
      (all_weaker (λ (f : CanonFunc). inst_of_canon f < length l.scopes) (λ (f : CanonFunc). inst_of_canon f < suc (length l.scopes)) (λ f less. (let e : inst_of_canon f < length l.scopes = less in omega (arith, e))) l.canons h.within);
}

-- and ends
instance_ended : (inner : Linking) (n : ℕ) (s : Spaces) (number : ℕ) → BeginsWell inner → BeginsWell (with_instance inner n s number)
instance_ended inner n s number h = spaces_well inner n (with_definition s (AnInstance (exports_at inner number))) h

item_well : (l : Linking) (n : ℕ) (s : Spaces) (item : Item) (new : Linking) → BeginsWell l → slice_get l.scopes n ≡ Some s → item_makes l n s item new → BeginsWell new
item_well l n s item new h there makes = case_well l n s (out-Item item) new h (there_within l n s there) makes

links_well : (l : Linking) (n : ℕ) (items : List (Placed Item)) (last : Linking) → BeginsWell l → Links l n items last → BeginsWell last
links_well l n items last h (no_items m k) = h
links_well l n items last h (item_links m next end k s placed others there (leads_by_making o onto j t p made) behind) =
    let first : BeginsWell next = item_well m k s placed.item next h there made in
    links_well next k others end first behind
links_well l n items last h (item_links m next end k s placed others there (leads_by_instance o inner j t c arguments p start inside) behind) =
    let reached : BeginsWell inner = links_well (begun m c arguments) (length m.scopes) c.items inner (begun_well m c arguments h) inside in
    let ended : BeginsWell (with_instance inner k s (length m.scopes)) = instance_ended inner k s (length m.scopes) reached in
    links_well (with_instance inner k s (length m.scopes)) k others end ended behind

root_well : BeginsWell root_begun
root_well = record { counted = omega arith; made = refl; within = tt }

-- The graph.

abbrev PlanIs : Graph → Type 0
PlanIs g = MadeWithin 0 g.plan g.cores × AllByRecursion (λ (f : CanonFunc). inst_of_canon f < begins g.plan) g.canons

plan_is : (c : Component) (g : Graph) → IsLinked c g → PlanIs g
plan_is c g (l, links, is) =
    let h : BeginsWell l = links_well root_begun 0 c.items l root_well links in
    let many : length l.scopes ≤ begins l.plan = h.counted in
    subst PlanIs (sym is)
    (h.made, all_weaker (λ (f : CanonFunc). inst_of_canon f < length l.scopes) (λ (f : CanonFunc). inst_of_canon f < begins l.plan) (λ f less. (let e : inst_of_canon f < length l.scopes = less in omega (arith, e, many))) l.canons h.within)

pub linked_makes_follow : LinkedMakesFollow
linked_makes_follow c g linked n number core e f =
    let planned : Makes 0 g.plan g.cores = (linked_definitions_are_apart c g linked).planned in
    let less : core.owner < 0 + begins_to n g.plan = follow_at 0 0 g.plan g.cores planned (plan_is c g linked).0 n number number core e (omega arith) f in
    omega (arith, less)

module _ (g : Graph) (apart : IsApart g) (plan : PlanIs g) where
  -- what made a core function has begun
  owner_begun : (f : FuncRef) (o : ℕ) → owner_of_func g f ≡ Some o → o < begins g.plan
  owner_begun (func_ref.Instance f) o e =
      let made = map_some (λ (c : CoreMake). c.owner) (slice_get g.cores f.instance) o e in
      let each : IfSome (slice_get g.cores f.instance) (λ (c : CoreMake). c.owner < 0 + begins g.plan) = all_at (λ (c : CoreMake). c.owner < 0 + begins g.plan) g.cores f.instance (each_begun 0 g.plan g.cores plan.0) in
      let less : made.0.owner < 0 + begins g.plan = subst (λ (x : Option CoreMake). IfSome x (λ (c : CoreMake). c.owner < 0 + begins g.plan)) made.1 each in
      let same : made.0.owner ≡ o = made.2 in omega (arith, less, same)
  owner_begun (func_ref.Canon number) o e =
      let made = map_some inst_of_canon (slice_get g.canons number) o e in
      let each : IfSome (slice_get g.canons number) (λ (c : CanonFunc). inst_of_canon c < begins g.plan) = all_at (λ (c : CanonFunc). inst_of_canon c < begins g.plan) g.canons number plan.1 in
      let less : inst_of_canon made.0 < begins g.plan = subst (λ (x : Option CanonFunc). IfSome x (λ (c : CanonFunc). inst_of_canon c < begins g.plan)) made.1 each in
      subst (λ (n : ℕ). n < begins g.plan) made.2 less

  same_func : (f h : Lifted) → Some f ≡ Some h → f ≡ h
  same_func f h e = cc

  func_begun : (callee : Callee) (f : Lifted) → IsOfGraph g callee → func_of callee ≡ Some f → f.instance < begins g.plan
  func_begun Init f of runs = cc
  func_begun (Func x) f (inl exported) runs = subst (λ (h : Lifted). h.instance < begins g.plan) (same_func x f runs) (owner_begun x.core x.instance (named_apart g exported.0 x apart exported.1).0)
  func_begun (Func x) f (inr lowered) runs =
      let owner : owner_of_func g lowered.1.lift.core ≡ Some lowered.1.lift.instance = (canon_apart g lowered.0 (canon_func.Lower lowered.1) apart lowered.2).1.0 in
      let less : lowered.1.lift.instance < begins g.plan = owner_begun lowered.1.lift.core lowered.1.lift.instance owner in
      subst (λ (h : Lifted). h.instance < begins g.plan) (lowered.3 ∙ same_func x f runs) less
  func_begun (Destroys resource x) f of runs =
      let owner : owner_of_func g of.1 ≡ Some of.0.instance = subst (λ (o : Option FuncRef). IfSome o (λ (h : FuncRef). owner_of_func g h ≡ Some of.0.instance)) of.3 (resource_apart g resource of.0 apart of.2) in
      subst (λ (h : Lifted). h.instance < begins g.plan) (of.4 ∙ same_func x f runs) (owner_begun of.1 of.0.instance owner)

  canon_begun : (number : ℕ) (c : CanonFunc) → canon_at g number ≡ Some c → inst_of_canon c < begins g.plan
  canon_begun number c e =
      subst (λ (x : Option CanonFunc). IfSome x (λ (f : CanonFunc). inst_of_canon f < begins g.plan)) e (all_at (λ (f : CanonFunc). inst_of_canon f < begins g.plan) g.canons number plan.1)

pub linked_instances_begin : LinkedInstancesBegin
linked_instances_begin c g linked =
    let apart : IsApart g = linked_definitions_are_apart c g linked in
    let plan : PlanIs g = plan_is c g linked in
    record { canons = λ number f e. canon_begun g apart plan number f e; functions = λ callee f of runs. func_begun g apart plan callee f of runs }
