-- In linked graphs each component instance owns what it uses, and their plans make each core instance in order.
use Rattle.std.proofs.Common.{◌≡◌, ℕ, List, [], ◌++◌, length, map, refl, sym, subst, Option, Some, None}
use Rattle.std.specs.List.{slice_get, AllByRecursion}
use Rattle.ca_base.specs.declared.placed.Placed.{Placed}
use Rattle.comp_tree.specs.declared.items.Item.{Item, out-Item}
use Rattle.comp_tree.specs.declared.items.Component.{Component}
use Rattle.comp_graph.specs.Graph.{CoreMake, Graph}
use Rattle.link_spec.specs.Definitions.{Closure, AFunc, AnInstance, Exports, EmptyInstance, WithExport}
use Rattle.link_spec.specs.Spaces.{Spaces, Linking, new_spaces, with_definition}
use Rattle.link_spec.specs.Linked.{IsLinked, Begins, begun, exports_or, exports_at, with_instance, Links, leads_by_making, leads_by_instance, no_items, item_links, root_begun, Callable, funcs_behind, callables, lift_of, graph_of}
use Rattle.link_spec.proofs.Holding.{all_push, all_both, all_mapped}
use Rattle.abi_machine.specs.sound.Owners.{Makes}
use Rattle.graph_laws.specs.Laws.{PlansMakeInOrder}
use Rattle.graph_laws.proofs.Owning.{made_by, KeepsOwners, OwnsLift, IsOwnGraph, IsFuncApart, AreDefinedApart, AreSpacesApart, IsLinkingApart, IsReachedApart}
use Rattle.graph_laws.proofs.Keeping.{kept_canons, kept_destructors, kept_lifts, kept_imports, kept_spaces, keeps_itself, keeps_through}
use Rattle.graph_laws.proofs.Places.{at_push, begins_behind}
use Rattle.graph_laws.proofs.SpacesApart.{with_defined_apart, new_apart, are_named_apart}
use Rattle.graph_laws.proofs.ItemsApart.{with_spaces_apart, case_reached}

-- An instance of a component begins
begun_apart : (l : Linking) (n : ℕ) (s : Spaces) (item : Item) (c : Closure) (arguments : Exports) → IsLinkingApart l → AreSpacesApart (made_by l) n s → Begins l n s item c arguments → IsLinkingApart (begun l c arguments)
begun_apart l n s item c arguments h k b = record {
  scopes =
      at_push (AreSpacesApart (made_by l)) l.scopes (new_spaces (Some arguments) c.around)
      (new_apart (made_by l) (length l.scopes) (Some arguments) c.around (are_named_apart (made_by l) n s EmptyInstance b.named arguments k tt b.given)) h.scopes;
  imports = h.imports;
  lowers = h.lowers;
  destructors = h.destructors;
  planned = begins_behind (length l.scopes) 0 l.plan l.cores h.planned;
}

-- and ends.
exports_or_apart : (g : Graph) (n : ℕ) (o : Option Spaces) → ((s : Spaces) → o ≡ Some s → AreSpacesApart g n s) → AreDefinedApart g (exports_or o)
exports_or_apart g n None h = tt
exports_or_apart g n (Some s) h = (h s refl).exported

exports_apart : (l : Linking) (n : ℕ) → IsLinkingApart l → AreDefinedApart (made_by l) (exports_at l n)
exports_apart l n h = exports_or_apart (made_by l) n (slice_get l.scopes n) (h.scopes n)

instance_reached : (l inner : Linking) (n : ℕ) (s : Spaces) (number : ℕ) → KeepsOwners (made_by l) (made_by inner) → IsLinkingApart inner → AreSpacesApart (made_by l) n s → IsReachedApart l (with_instance inner n s number)
instance_reached l inner n s number keeps h k = record {
  apart =
      with_spaces_apart inner n (with_definition s (AnInstance (exports_at inner number))) h
      (with_defined_apart (made_by inner) n s (AnInstance (exports_at inner number)) (kept_spaces (made_by l) (made_by inner) keeps n s k) (exports_apart inner number h));
  keeps = keeps;
}

through : (l next last : Linking) → IsReachedApart l next → IsReachedApart next last → IsReachedApart l last
through l next last a b = record { apart = b.apart; keeps = keeps_through (made_by l) (made_by next) (made_by last) a.keeps b.keeps }

links_reached : (l : Linking) (n : ℕ) (items : List (Placed Item)) (last : Linking) → IsLinkingApart l → Links l n items last → IsReachedApart l last
links_reached l n items last h (no_items m k) = record { apart = h; keeps = keeps_itself (made_by m) }
links_reached l n items last h (item_links m next end k s placed others there (leads_by_making o onto j t p made) behind) =
    let first = case_reached m k s (out-Item placed.item) next h (h.scopes k s there) made in
    through m next end first (links_reached next k others end first.apart behind)
links_reached l n items last h (item_links m next end k s placed others there (leads_by_instance o inner j t c arguments p begins inside) behind) =
    let spaces = h.scopes k s there in
    let reached = links_reached (begun m c arguments) (length m.scopes) c.items inner (begun_apart m k s placed.item c arguments h spaces begins) inside in
    let ended = instance_reached m inner k s (length m.scopes) reached.keeps reached.apart spaces in
    through m (with_instance inner k s (length m.scopes)) end ended (links_reached (with_instance inner k s (length m.scopes)) k others end ended.apart behind)

root_apart : IsLinkingApart root_begun
root_apart = record {
  scopes = at_push (AreSpacesApart (made_by root_begun)) [] (new_spaces None []) (new_apart (made_by root_begun) 0 None [] tt) (λ k s e. cc);
  imports = tt;
  lowers = tt;
  destructors = tt;
  planned = refl;
}

linked_apart : (c : Component) (l : Linking) → Links root_begun 0 c.items l → IsLinkingApart l
linked_apart c l links = (links_reached root_begun 0 c.items l root_apart links).apart

-- The functions that can be called.
funcs_behind_apart : (g : Graph) (front : List ℕ) (exports : Exports) → AreDefinedApart g exports → AllByRecursion (λ (c : Callable). IsFuncApart g c.func) (funcs_behind front exports)
funcs_behind_apart g front EmptyInstance h = tt
funcs_behind_apart g front (WithExport others name (AFunc f)) h =
    all_push (λ (c : Callable). IsFuncApart g c.func) (funcs_behind front others) (record { name = front ++ name; func = f }) (funcs_behind_apart g front others h.0) h.1
funcs_behind_apart g front (WithExport others name d) h = all_both (λ (c : Callable). IsFuncApart g c.func) (funcs_behind front others) [] (funcs_behind_apart g front others h.0) tt

callables_apart : (g : Graph) (exports : Exports) → AreDefinedApart g exports → AllByRecursion (λ (c : Callable). IsFuncApart g c.func) (callables exports)
callables_apart g EmptyInstance h = tt
callables_apart g (WithExport others name (AFunc f)) h =
    all_push (λ (c : Callable). IsFuncApart g c.func) (callables others) (record { name = name; func = f }) (callables_apart g others h.0) h.1
callables_apart g (WithExport others name (AnInstance inner)) h =
    all_both (λ (c : Callable). IsFuncApart g c.func) (callables others) _ (callables_apart g others h.0) (funcs_behind_apart g _ inner h.1)
callables_apart g (WithExport others name d) h = all_both (λ (c : Callable). IsFuncApart g c.func) (callables others) [] (callables_apart g others h.0) tt

-- the graph owns what its linking made
keeps_graph : (l : Linking) → KeepsOwners (made_by l) (graph_of l)
keeps_graph l = record { cores = λ number owner e. e; canons = λ number owner e. e }

graph_own : (l : Linking) → IsLinkingApart l → IsOwnGraph (graph_of l)
graph_own l h = record {
  imports = kept_imports (made_by l) (graph_of l) (keeps_graph l) l.cores h.imports;
  lifts =
      kept_lifts (made_by l) (graph_of l) (keeps_graph l) (map lift_of (callables (exports_at l 0)))
      (all_mapped lift_of (OwnsLift (made_by l)) (callables (exports_at l 0)) (callables_apart (made_by l) (exports_at l 0) (exports_apart l 0 h)));
  canons = kept_canons (made_by l) (graph_of l) (keeps_graph l) l.canons h.lowers;
  resources = kept_destructors (made_by l) (graph_of l) (keeps_graph l) l.resources h.destructors;
}

pub linked_graphs_own : (c : Component) (g : Graph) → IsLinked c g → IsOwnGraph g
linked_graphs_own c g (l, links, is) = subst IsOwnGraph (sym is) (graph_own l (linked_apart c l links))

pub plans_make_in_order : PlansMakeInOrder
plans_make_in_order c g (l, links, is) = subst (λ (g : Graph). Makes 0 g.plan g.cores) (sym is) (linked_apart c l links).planned
