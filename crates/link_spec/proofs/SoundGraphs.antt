-- Linkings stay sound, and so graphs are.
use Rattle.std.proofs.Common.{◌≡◌, ℕ, List, [], ◌∷◌, ◌++◌, length, map, refl, sym, ◌∙◌, ap, subst, append_assoc, append-nil, Option, Some, None}
use Rattle.std.specs.Prelude.{IfSome}
use Rattle.std.specs.List.{slice_get, AllByRecursion, AllZip}
use Rattle.ca_base.specs.declared.placed.Placed.{Placed}
use Rattle.syntax_trees.specs.declared.exports.Export.{Export}
use Rattle.syntax_trees.specs.declared.module.ModuleTree.{ModuleTree}
use Rattle.comp_graph.specs.declared.graph.Lift.{Lift}
use Rattle.comp_graph.specs.declared.graph.CanonFunc.{CanonFunc}
use Rattle.comp_graph.specs.declared.graph.CanonFunc.TheVariants as canon_func
use Rattle.comp_graph.specs.Graph.{Graph, IsLiftThere, AreImported, AreMade, none_made}
use Rattle.comp_tree.specs.declared.items.Item.{Item, out-Item}
use Rattle.comp_tree.specs.declared.items.Component.{Component}
use Rattle.link_spec.specs.Definitions.{Closure, AFunc, AnInstance, Exports, EmptyInstance, WithExport}
use Rattle.link_spec.specs.Spaces.{CoreMake, Spaces, Linking, new_spaces, with_definition}
use Rattle.link_spec.specs.Linked.{Begins, begun, exports_or, exports_at, with_instance, Links, leads_by_making, leads_by_instance, no_items, item_links, root_begun, Callable, funcs_behind, callables, export_of, lift_of, IsLinked}
use Rattle.link_spec.specs.Distinct.{HasDistinctLabels}
use Rattle.link_spec.specs.Shallow.{HasShallowTypes}
use Rattle.link_spec.specs.Lending.{GivesNoBorrow, PassesNoBorrow}
use Rattle.link_spec.specs.Standing.{StandsIn, stands_behind}
use Rattle.link_spec.specs.Laws.{GraphsAreImported, LiftsAreThere, GraphsAreMade, LabelsAreDistinct, TypesAreShallow, HasSoundType, LoweredTypesAreSound, NoBorrowIsPassed, ModulesStand}
use Rattle.link_spec.proofs.Holding.{all_push, all_both, all_at, all_mapped, all_weaker, holds_at}
use Rattle.link_spec.proofs.Modules.{ModulesHave, shape_has}
use Rattle.link_spec.proofs.Soundness.{IsFuncSound, HasApartType, AreSound, AreSpacesSound, IsLinkingSound}
use Rattle.link_spec.proofs.SoundSpaces.{kept_spaces, sound_definition, sound_new}
use Rattle.link_spec.proofs.SoundSeen.{are_named_sound}
use Rattle.link_spec.proofs.SoundItems.{IsReached, with_spaces_sound, case_reached}

-- the functions that can be called, of sound exports
funcs_behind_sound : (R : ModuleTree → Type 0) (cores : List CoreMake) (canons : List CanonFunc) (front : List ℕ) (exports : Exports) → AreSound R cores canons exports → AllByRecursion (λ (c : Callable). IsFuncSound cores canons c.func) (funcs_behind front exports)
funcs_behind_sound R cores canons front EmptyInstance h = tt
funcs_behind_sound R cores canons front (WithExport others name (AFunc f)) h =
    all_push (λ (c : Callable). IsFuncSound cores canons c.func) (funcs_behind front others) (record { name = front ++ name; func = f }) (funcs_behind_sound R cores canons front others h.0) h.1
funcs_behind_sound R cores canons front (WithExport others name d) h = all_both (λ (c : Callable). IsFuncSound cores canons c.func) (funcs_behind front others) [] (funcs_behind_sound R cores canons front others h.0) tt

callables_sound : (R : ModuleTree → Type 0) (cores : List CoreMake) (canons : List CanonFunc) (exports : Exports) → AreSound R cores canons exports → AllByRecursion (λ (c : Callable). IsFuncSound cores canons c.func) (callables exports)
callables_sound R cores canons EmptyInstance h = tt
callables_sound R cores canons (WithExport others name (AFunc f)) h =
    all_push (λ (c : Callable). IsFuncSound cores canons c.func) (callables others) (record { name = name; func = f }) (callables_sound R cores canons others h.0) h.1
callables_sound R cores canons (WithExport others name (AnInstance inner)) h =
    all_both (λ (c : Callable). IsFuncSound cores canons c.func) (callables others) _ (callables_sound R cores canons others h.0) (funcs_behind_sound R cores canons _ inner h.1)
callables_sound R cores canons (WithExport others name d) h = all_both (λ (c : Callable). IsFuncSound cores canons c.func) (callables others) [] (callables_sound R cores canons others h.0) tt

all_there : (cores : List CoreMake) (canons : List CanonFunc) (cs : List Callable) → AllByRecursion (λ (c : Callable). IsFuncSound cores canons c.func) cs → AllZip (λ (e : Export) (lift : Lift). IsLiftThere cores canons e.func_type lift) (map export_of cs) (map lift_of cs)
all_there cores canons [] h = tt
all_there cores canons (c ∷ cs) h = (h.0.there, all_there cores canons cs h.1)

module _ (R : ModuleTree → Type 0) where
  reached_self : (l : Linking) → IsLinkingSound R l → IsReached R l l
  reached_self l h = record { sound = h; more = []; longer = sym (append-nil l.cores); others = []; wider = sym (append-nil l.canons) }

  through : (l next last : Linking) → IsReached R l next → IsReached R next last → IsReached R l last
  through l next last a b = record {
    sound = b.sound;
    more = a.more ++ b.more;
    longer = b.longer ∙ ap (λ (cores : List CoreMake). cores ++ b.more) a.longer ∙ append_assoc l.cores a.more b.more;
    others = a.others ++ b.others;
    wider = b.wider ∙ ap (λ (canons : List CanonFunc). canons ++ b.others) a.wider ∙ append_assoc l.canons a.others b.others;
  }

  -- an instance of a component begins
  arguments_sound : (l : Linking) (n : ℕ) (s : Spaces) (item : Item) (c : Closure) (arguments : Exports) → AreSpacesSound R l.cores l.canons s → Begins l n s item c arguments → AreSound R l.cores l.canons arguments
  arguments_sound l n s item c arguments k b = are_named_sound R l.cores l.canons s b.named arguments k b.distinct b.given

  begun_sound : (l : Linking) (c : Closure) (arguments : Exports) → IsLinkingSound R l → AreSound R l.cores l.canons arguments → IsLinkingSound R (begun l c arguments)
  begun_sound l c arguments h k = record {
    scopes = all_push (AreSpacesSound R l.cores l.canons) l.scopes (new_spaces (Some arguments) c.around) h.scopes (sound_new R l.cores l.canons (Some arguments) c.around k);
    imported = h.imported;
    made = h.made;
    called = h.called;
    modules_have = h.modules_have;
  }

  items_have : (l : Linking) (n : ℕ) (s : Spaces) (item : Item) (c : Closure) (arguments : Exports) → AreSpacesSound R l.cores l.canons s → Begins l n s item c arguments → ModulesHave R c.items
  items_have l n s item c arguments k b =
      holds_at (λ (c : Closure). ModulesHave R c.items) (slice_get s.components b.index) c (all_at (λ (c : Closure). ModulesHave R c.items) s.components b.index k.defined.components_have) b.component

  -- and ends
  exports_or_sound : (cores : List CoreMake) (canons : List CanonFunc) (o : Option Spaces) → IfSome o (AreSpacesSound R cores canons) → AreSound R cores canons (exports_or o)
  exports_or_sound cores canons None h = tt
  exports_or_sound cores canons (Some s) h = h.exports_sound

  pub exports_sound : (l : Linking) (n : ℕ) → IsLinkingSound R l → AreSound R l.cores l.canons (exports_at l n)
  exports_sound l n h = exports_or_sound l.cores l.canons (slice_get l.scopes n) (all_at (AreSpacesSound R l.cores l.canons) l.scopes n h.scopes)

  instance_reached : (l inner : Linking) (n : ℕ) (s : Spaces) (count : ℕ) (more : List CoreMake) (others : List CanonFunc) → inner.cores ≡ l.cores ++ more → inner.canons ≡ l.canons ++ others → IsLinkingSound R inner → AreSpacesSound R l.cores l.canons s → IsReached R l (with_instance inner n s count)
  instance_reached l inner n s count more others longer wider h k =
      let kept : AreSpacesSound R inner.cores inner.canons s = subst (λ (cores : List CoreMake). AreSpacesSound R cores inner.canons s) (sym longer)
      (subst (λ (canons : List CanonFunc). AreSpacesSound R (l.cores ++ more) canons s) (sym wider) (kept_spaces R l.cores more l.canons others s k)) in
      let of_instance : AreSpacesSound R inner.cores inner.canons (with_definition s (AnInstance (exports_at inner count))) = sound_definition R inner.cores inner.canons s (AnInstance (exports_at inner count)) kept (exports_sound inner count h) in
      record { sound = with_spaces_sound R inner n (with_definition s (AnInstance (exports_at inner count))) h of_instance; more = more; longer = longer; others = others; wider = wider }

  spaces_sound : (l : Linking) (n : ℕ) (s : Spaces) → IsLinkingSound R l → slice_get l.scopes n ≡ Some s → AreSpacesSound R l.cores l.canons s
  spaces_sound l n s h e = holds_at (AreSpacesSound R l.cores l.canons) (slice_get l.scopes n) s (all_at (AreSpacesSound R l.cores l.canons) l.scopes n h.scopes) e

  pub links_reached : (l : Linking) (n : ℕ) (items : List (Placed Item)) (last : Linking) → ModulesHave R items → IsLinkingSound R l → Links l n items last → IsReached R l last
  links_reached l n items last has h (no_items m k) = reached_self m h
  links_reached l n items last has h (item_links m next end k s placed others there (leads_by_making o onto j t p made) behind) =
      let first = case_reached R m k s (out-Item placed.item) next (shape_has R placed others has (out-Item placed.item) refl) h (spaces_sound m k s h there) made in
      through m next end first (links_reached next k others end (λ x y. has x (stands_behind placed others y)) first.sound behind)
  links_reached l n items last has h (item_links m next end k s placed others there (leads_by_instance o inner j t c arguments p begins inside) behind) =
      let spaces = spaces_sound m k s h there in
      let inner_reached = links_reached (begun m c arguments) (length m.scopes) c.items inner (items_have m k s placed.item c arguments spaces begins) (begun_sound m c arguments h (arguments_sound m k s placed.item c arguments spaces begins)) inside in
      let ended = instance_reached m inner k s (length m.scopes) inner_reached.more inner_reached.others inner_reached.longer inner_reached.wider inner_reached.sound spaces in
      through m (with_instance inner k s (length m.scopes)) end ended (links_reached (with_instance inner k s (length m.scopes)) k others end (λ x y. has x (stands_behind placed others y)) ended.sound behind)

  root_sound : IsLinkingSound R root_begun
  root_sound = record { scopes = (sound_new R [] [] None [] tt, tt); imported = tt; made = none_made; called = tt; modules_have = tt }

  pub linked_sound : (c : Component) (l : Linking) → ModulesHave R c.items → Links root_begun 0 c.items l → IsLinkingSound R l
  linked_sound c l has links = (links_reached root_begun 0 c.items l has root_sound links).sound

  -- The functions of a graph.
  pub root_callables : (l : Linking) → IsLinkingSound R l → AllByRecursion (λ (c : Callable). IsFuncSound l.cores l.canons c.func) (callables (exports_at l 0))
  root_callables l h = callables_sound R l.cores l.canons (exports_at l 0) (exports_sound l 0 h)

-- Where modules need not have anything, every linking is sound.
abbrev pub AnyModule : ModuleTree → Type 0
AnyModule m = Unit {0}

pub any_sound : (c : Component) (l : Linking) → Links root_begun 0 c.items l → IsLinkingSound AnyModule l
any_sound c l links = linked_sound AnyModule c l (λ m k. tt) links

pub graphs_are_imported : GraphsAreImported
graphs_are_imported c g (l, links, is) = subst (λ (g : Graph). AreImported g.canons [] g.cores) (sym is) (any_sound c l links).imported

pub lifts_are_there : LiftsAreThere
lifts_are_there c g (l, links, is) =
    subst (λ (g : Graph). AllZip (λ (e : Export) (lift : Lift). IsLiftThere g.cores g.canons e.func_type lift) g.exports g.lifts) (sym is)
    (all_there l.cores l.canons (callables (exports_at l 0)) (root_callables AnyModule l (any_sound c l links)))

pub graphs_are_made : GraphsAreMade
graphs_are_made c g (l, links, is) = subst (λ (g : Graph). AreMade g.cores g.canons g.resources) (sym is) (any_sound c l links).made

sound_type : (f : CanonFunc) → HasApartType f → HasSoundType f
sound_type (canon_func.Lower l) h = (h.0, h.1)
sound_type (canon_func.Builtin b) h = tt

pub lowered_types_are_sound : LoweredTypesAreSound
lowered_types_are_sound c g (l, links, is) =
    subst (λ (g : Graph). AllByRecursion HasSoundType g.canons) (sym is) (all_weaker HasApartType HasSoundType sound_type l.canons (any_sound c l links).called)

pub labels_are_distinct : LabelsAreDistinct
labels_are_distinct c g (l, links, is) =
    subst (λ (g : Graph). AllByRecursion (λ (e : Export). HasDistinctLabels e.func_type) g.exports) (sym is)
    (all_mapped export_of (λ (e : Export). HasDistinctLabels e.func_type) (callables (exports_at l 0))
    (all_weaker (λ (c : Callable). IsFuncSound l.cores l.canons c.func) (λ (c : Callable). HasDistinctLabels c.func.func_type) (λ c k. k.apart.0) (callables (exports_at l 0)) (root_callables AnyModule l (any_sound c l links))))

pub types_are_shallow : TypesAreShallow
types_are_shallow c g (l, links, is) =
    subst (λ (g : Graph). AllByRecursion (λ (e : Export). HasShallowTypes e.func_type) g.exports) (sym is)
    (all_mapped export_of (λ (e : Export). HasShallowTypes e.func_type) (callables (exports_at l 0))
    (all_weaker (λ (c : Callable). IsFuncSound l.cores l.canons c.func) (λ (c : Callable). HasShallowTypes c.func.func_type) (λ c k. k.apart.1) (callables (exports_at l 0)) (root_callables AnyModule l (any_sound c l links))))

-- Borrowed handles.
lends_none : (f : CanonFunc) → HasApartType f → PassesNoBorrow f
lends_none (canon_func.Lower l) h = h.2
lends_none (canon_func.Builtin b) h = h

pub no_borrow_is_passed : NoBorrowIsPassed
no_borrow_is_passed c g (l, links, is) = subst (λ (g : Graph). AllByRecursion (λ (e : Export). GivesNoBorrow e.func_type) g.exports × AllByRecursion PassesNoBorrow g.canons) (sym is) (
  all_mapped export_of (λ (e : Export). GivesNoBorrow e.func_type) (callables (exports_at l 0))
      (all_weaker (λ (c : Callable). IsFuncSound l.cores l.canons c.func) (λ (c : Callable). GivesNoBorrow c.func.func_type) (λ c k. k.apart.2) (callables (exports_at l 0)) (root_callables AnyModule l (any_sound c l links))),
  all_weaker HasApartType PassesNoBorrow lends_none l.canons (any_sound c l links).called,
)

-- Each core instance is of a module that has what all have that stand in the component.
pub modules_have : (R : ModuleTree → Type 0) (c : Component) (g : Graph) → IsLinked c g → ModulesHave R c.items → AllByRecursion (λ (core : CoreMake). R core.of_module) g.cores
modules_have R c g (l, links, is) has = subst (λ (g : Graph). AllByRecursion (λ (core : CoreMake). R core.of_module) g.cores) (sym is) (linked_sound R c l has links).modules_have

pub modules_stand : ModulesStand
modules_stand c g linked = modules_have (λ m. StandsIn m c.items) c g linked (λ m k. k)
