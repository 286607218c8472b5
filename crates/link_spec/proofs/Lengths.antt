-- No item takes a component instance away.
use Rattle.std.proofs.Common.{◌≡◌, ◌≤◌, ◌+◌, ℕ, List, [], ◌∷◌, length, ◌∙◌, ap, arith, length-append, Option, None, Some}
use Rattle.std.proofs.Math.ListN.{length-set}
use Rattle.ca_base.specs.declared.placed.Placed.{Placed}
use Rattle.comp_tree.specs.declared.core_instances.CoreInstance.{CoreInstance}
use Rattle.comp_tree.specs.declared.core_instances.CoreInstance.TheVariants as made_core
use Rattle.comp_tree.specs.declared.instances.Instance as made_of
use Rattle.comp_tree.specs.declared.instances.Instance.TheVariants as made
use Rattle.comp_tree.specs.declared.instances.Sort.{Sort}
use Rattle.comp_tree.specs.declared.instances.AliasTarget.{AliasTarget}
use Rattle.comp_tree.specs.declared.instances.AliasTarget.TheVariants as target
use Rattle.comp_tree.specs.declared.types.DefType.{out-DefType}
use Rattle.comp_tree.specs.declared.items.Canon.TheVariants.{Lift, Lower, Builtin}
use Rattle.comp_tree.specs.declared.items.Item.{Item, out-Item}
use Rattle.comp_tree.specs.declared.items.Item.TheOpen.{Item-F}
use Rattle.comp_tree.specs.declared.items.Component.{Component}
use Rattle.comp_graph.specs.Closed.{Closed}
use Rattle.link_spec.specs.Definitions.{Closure, Exports, exports_of}
use Rattle.link_spec.specs.Resources.{resource_written}
use Rattle.link_spec.specs.Types.{Meaning}
use Rattle.link_spec.specs.Ends.{noted_type}
use Rattle.link_spec.specs.Spaces.{Spaces, Linking, new_spaces, with_spaces, with_ends, with_core_instance}
use Rattle.link_spec.specs.Items.{core_instance_makes, instance_makes, alias_makes, defined_makes, type_meaning, makes_case, item_makes}
use Rattle.link_spec.specs.Linked.{begun, with_instance, Links, leads_by_making, leads_by_instance, no_items, item_links}

made_length : (l : Linking) (n : ℕ) (s : Spaces) (new : Linking) → new ≡ with_spaces l n s → length new.scopes ≡ length l.scopes
made_length l n s new e = ap (λ (l : Linking). length l.scopes) e ∙ length-set l.scopes n s

core_instance_length : (l : Linking) (n : ℕ) (s : Spaces) (c : CoreInstance) (new : Linking) → core_instance_makes l n s c new → length new.scopes ≡ length l.scopes
core_instance_length l n s (made_core.Instantiate index arguments) new (m, imports, is, there, found, distinct, few, made) =
    ap (λ (l : Linking). length l.scopes) made ∙ length-set l.scopes n (with_core_instance s (exports_of m (length l.cores)))
core_instance_length l n s (made_core.Inline read) new (exports, are, distinct, made) = made_length l n _ new made

instance_length : (l : Linking) (n : ℕ) (s : Spaces) (i : made_of.Instance) (new : Linking) → instance_makes l n s i new → length new.scopes ≡ length l.scopes
instance_length l n s (made.Instantiate component arguments) new k = absurd k
instance_length l n s (made.Inline read) new (exports, are, distinct, made) = made_length l n _ new made

alias_length : (l : Linking) (n : ℕ) (s : Spaces) (sort : Sort) (t : AliasTarget) (new : Linking) → alias_makes l n s sort t new → length new.scopes ≡ length l.scopes
alias_length l n s sort (target.InstanceExport instance name) new (d, is, of_sort, made) = made_length l n _ new made
alias_length l n s sort (target.CoreInstanceExport instance name) new (item, is, of_sort, made) = made_length l n _ new made
alias_length l n s sort (target.Outer up index) new (d, is, made) = made_length l n _ new made

type_length : (l : Linking) (n : ℕ) (s : Spaces) (destructor : Option (Option ℕ)) (meaning : Meaning Closed) (new : Linking) → defined_makes l n s destructor meaning new → length new.scopes ≡ length l.scopes
type_length l n s (Some None) meaning new made = ap (λ (l : Linking). length l.scopes) made ∙ length-set l.scopes n _
type_length l n s (Some (Some f)) meaning new (item, core, is, of_item, of_type, made) = ap (λ (l : Linking). length l.scopes) made ∙ length-set l.scopes n _
type_length l n s None meaning new (closed, is, made) = made_length (with_ends l (noted_type l.end_types closed) meaning.has_room) n _ new made

case_length : (l : Linking) (n : ℕ) (s : Spaces) (shape : Item-F Item Component) (new : Linking) → makes_case l n s shape new → length new.scopes ≡ length l.scopes
case_length l n s (Item-F.CoreModule m) new made = made_length l n _ new made
case_length l n s (Item-F.CoreInstance c) new made = core_instance_length l n s c new made
case_length l n s (Item-F.Component c) new made = made_length l n _ new made
case_length l n s (Item-F.Instance i) new made = instance_length l n s i new made
case_length l n s (Item-F.Alias alias) new made = alias_length l n s alias.sort alias.target new made
case_length l n s (Item-F.Type type) new makes = type_length l n s (resource_written (out-DefType type)) (type_meaning l n s type) new makes
case_length l n s (Item-F.Canon (Lift f options t)) new (item, core, type, is, of_item, there, of_type, once, fits, made) = made_length l n _ new made
case_length l n s (Item-F.Canon (Lower f options)) new (func, is, there, once, fits, made) = ap (λ (l : Linking). length l.scopes) made ∙ length-set l.scopes n _
case_length l n s (Item-F.Canon (Builtin b)) new (kind, there, is, serves, made) = ap (λ (l : Linking). length l.scopes) made ∙ length-set l.scopes n _
case_length l n s (Item-F.Import i) new (extern, d, is, fresh, imported, made) = made_length l n _ new made
case_length l n s (Item-F.Export e) new (d, x, is, fresh, exported, made) = made_length l n _ new made

pub makes_length : (l : Linking) (n : ℕ) (s : Spaces) (item : Item) (new : Linking) → item_makes l n s item new → length new.scopes ≡ length l.scopes
makes_length l n s item new h = case_length l n s (out-Item item) new h

pub begun_length : (l : Linking) (c : Closure) (arguments : Exports) → length (begun l c arguments).scopes ≡ length l.scopes + 1
begun_length l c arguments = length-append l.scopes (new_spaces (Some arguments) c.around ∷ [])

pub instance_length_same : (l : Linking) (n : ℕ) (s : Spaces) (count : ℕ) → length (with_instance l n s count).scopes ≡ length l.scopes
instance_length_same l n s count = length-set l.scopes n _

pub links_length : (l : Linking) (n : ℕ) (items : List (Placed Item)) (last : Linking) → Links l n items last → length l.scopes ≤ length last.scopes
links_length l n items last (no_items m k) = omega arith
links_length l n items last (item_links m next end k s placed others there (leads_by_making o onto j t p made) behind) =
    let same = makes_length m k s placed.item next made in
    let rest = links_length next k others end behind in
    omega (arith, same, rest)
links_length l n items last (item_links m next end k s placed others there (leads_by_instance o inner j t c arguments p begins inside) behind) =
    let more = begun_length m c arguments in
    let first = links_length (begun m c arguments) (length m.scopes) c.items inner inside in
    let same = instance_length_same inner k s (length m.scopes) in
    let rest = links_length (with_instance inner k s (length m.scopes)) k others end behind in
    omega (arith, more, first, same, rest)
