-- Instances stay few.
use Rattle.std.proofs.Common.{◌≡◌, ◌<◌, ◌≤◌, ℕ, [], ◌∷◌, length, set, sym, subst, arith, length-append, Option, None, Some, map}
use Rattle.std.proofs.Math.ListN.{length-set}
use Rattle.comp_graph.specs.Graph.{Graph}
use Rattle.comp_tree.specs.declared.core_instances.CoreInstance.{CoreInstance}
use Rattle.comp_tree.specs.declared.core_instances.CoreInstance.TheVariants as made_core
use Rattle.comp_tree.specs.declared.instances.Instance as made_of
use Rattle.comp_tree.specs.declared.instances.Instance.TheVariants as made
use Rattle.comp_tree.specs.declared.instances.Sort.{Sort}
use Rattle.comp_tree.specs.declared.instances.AliasTarget.{AliasTarget}
use Rattle.comp_tree.specs.declared.instances.AliasTarget.TheVariants as target
use Rattle.comp_tree.specs.declared.types.DefType.{out-DefType}
use Rattle.comp_tree.specs.declared.items.Canon.TheVariants.{Lift, Lower, Builtin}
use Rattle.comp_tree.specs.declared.items.Item.{Item, out-Item}
use Rattle.comp_tree.specs.declared.items.Item.TheOpen.{Item-F}
use Rattle.comp_tree.specs.declared.items.Component.{Component}
use Rattle.comp_graph.specs.Closed.{Closed}
use Rattle.link_spec.specs.Definitions.{extern_of, Closure, Exports, exports_of}
use Rattle.link_spec.specs.Resources.{resource_written}
use Rattle.link_spec.specs.Types.{Meaning}
use Rattle.link_spec.specs.Ends.{noted_type}
use Rattle.link_spec.specs.Spaces.{Spaces, Linking, new_spaces, with_spaces, with_ends, with_core_instance}
use Rattle.link_spec.specs.Items.{instance_limit, core_made, core_instance_makes, instance_makes, alias_makes, defined_makes, type_meaning, makes_case}
use Rattle.link_spec.specs.Linked.{begun, with_instance, leads_by_making, leads_by_instance, no_items, item_links, root_begun}
use Rattle.link_spec.specs.Laws.{IsFew, FewInstances, GraphsAreFew}

few_with : (l : Linking) (n : ℕ) (s : Spaces) → IsFew l → IsFew (with_spaces l n s)
few_with l n s h = let same : length (set l.scopes n s) ≡ length l.scopes = length-set l.scopes n s in (omega (arith, h.0), h.1)

few_made : (l : Linking) (n : ℕ) (s : Spaces) (new : Linking) → new ≡ with_spaces l n s → IsFew l → IsFew new
few_made l n s new e h = subst IsFew (sym e) (few_with l n s h)

core_instance_few : (l : Linking) (n : ℕ) (s : Spaces) (c : CoreInstance) (new : Linking) → core_instance_makes l n s c new → IsFew l → IsFew new
core_instance_few l n s (made_core.Instantiate index arguments) new (m, imports, is, there, found, distinct, few, made) h =
    subst IsFew (sym made) (few_set, few_cores)
  where
    few_set : length (core_made l n s m imports).scopes ≤ instance_limit
    few_set = let same = length-set l.scopes n (with_core_instance s (exports_of m (length l.cores))) in omega (arith, h.0, same)

    few_cores : length (core_made l n s m imports).cores ≤ instance_limit
    few_cores = let longer = length-append l.cores (record { of_module = m; imports = map extern_of imports; owner = n } ∷ []) in omega (arith, longer, few)
core_instance_few l n s (made_core.Inline read) new (exports, are, distinct, made) h = few_made l n _ new made h

instance_few : (l : Linking) (n : ℕ) (s : Spaces) (i : made_of.Instance) (new : Linking) → instance_makes l n s i new → IsFew l → IsFew new
instance_few l n s (made.Instantiate component arguments) new k h = absurd k
instance_few l n s (made.Inline read) new (exports, are, distinct, made) h = few_made l n _ new made h

alias_few : (l : Linking) (n : ℕ) (s : Spaces) (sort : Sort) (t : AliasTarget) (new : Linking) → alias_makes l n s sort t new → IsFew l → IsFew new
alias_few l n s sort (target.InstanceExport instance name) new (d, is, of_sort, made) h = few_made l n _ new made h
alias_few l n s sort (target.CoreInstanceExport instance name) new (item, is, of_sort, made) h = few_made l n _ new made h
alias_few l n s sort (target.Outer up index) new (d, is, made) h = few_made l n _ new made h

type_few : (l : Linking) (n : ℕ) (s : Spaces) (destructor : Option (Option ℕ)) (meaning : Meaning Closed) (new : Linking) → defined_makes l n s destructor meaning new → IsFew l → IsFew new
type_few l n s (Some None) meaning new made h = subst IsFew (sym made) (few_with l n _ h)
type_few l n s (Some (Some f)) meaning new (item, core, is, of_item, of_type, made) h = subst IsFew (sym made) (few_with l n _ h)
type_few l n s None meaning new (closed, is, made) h = few_made (with_ends l (noted_type l.end_types closed) meaning.has_room) n _ new made h

case_few : (l : Linking) (n : ℕ) (s : Spaces) (shape : Item-F Item Component) (new : Linking) → makes_case l n s shape new → IsFew l → IsFew new
case_few l n s (Item-F.CoreModule m) new made h = few_made l n _ new made h
case_few l n s (Item-F.CoreInstance c) new made h = core_instance_few l n s c new made h
case_few l n s (Item-F.Component c) new made h = few_made l n _ new made h
case_few l n s (Item-F.Instance i) new made h = instance_few l n s i new made h
case_few l n s (Item-F.Alias alias) new made h = alias_few l n s alias.sort alias.target new made h
case_few l n s (Item-F.Type type) new makes h = type_few l n s (resource_written (out-DefType type)) (type_meaning l n s type) new makes h
case_few l n s (Item-F.Canon (Lift f options t)) new (item, core, type, is, of_item, there, of_type, once, fits, made) h = few_made l n _ new made h
case_few l n s (Item-F.Canon (Lower f options)) new (func, is, there, once, fits, made) h = subst IsFew (sym made) (few_with l n _ h)
case_few l n s (Item-F.Canon (Builtin b)) new (kind, there, is, serves, made) h = subst IsFew (sym made) (few_with l n _ h)
case_few l n s (Item-F.Import i) new (extern, d, is, fresh, imported, made) h = few_made l n _ new made h
case_few l n s (Item-F.Export e) new (d, x, is, fresh, exported, made) h = few_made l n _ new made h

few_begun : (l : Linking) (c : Closure) (arguments : Exports) → length l.scopes < instance_limit → IsFew l → IsFew (begun l c arguments)
few_begun l c arguments few h = (few_scopes, h.1)
  where
    few_scopes : length (begun l c arguments).scopes ≤ instance_limit
    few_scopes = let longer = length-append l.scopes (new_spaces (Some arguments) c.around ∷ []) in omega (arith, longer, few)

pub few_instances : FewInstances
few_instances l n items last h (no_items m k) = h
few_instances l n items last h (item_links m next end k s placed others there (leads_by_making o onto j t p made) behind) =
    few_instances next k others end (case_few m k s (out-Item placed.item) next made h) behind
few_instances l n items last h (item_links m next end k s placed others there (leads_by_instance o inner j t c arguments p begins inside) behind) =
    few_instances (with_instance inner k s (length m.scopes)) k others end (few_with inner k _ (few_instances (begun m c arguments) (length m.scopes) c.items inner (few_begun m c arguments begins.few h) inside)) behind

pub graphs_are_few : GraphsAreFew
graphs_are_few c g (l, links, is) = subst (λ (g : Graph). (g.instance_count ≤ instance_limit) × (length g.cores ≤ instance_limit)) (sym is) (few_instances root_begun 0 c.items l (omega arith, omega arith) links)
