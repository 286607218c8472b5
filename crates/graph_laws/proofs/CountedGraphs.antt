-- What can be called of a component whose types are written so has marked types, with ends or without, with labels that are many or
-- counted. What is read has counted labels, and so has what passes no handle and no end.
use Rattle.std.proofs.Common.{◌≡◌, ℕ, Bool, true, false, List, ◌∷◌, ◌∙◌, map, sym, subst, Option, Some, None}
use Rattle.std.specs.List.{slice_get}
use Rattle.std.specs.Option.{option_map, option_and_then, IfSome}
use Rattle.syntax_trees.specs.declared.types.ValType.{ValType}
use Rattle.syntax_trees.specs.declared.types.Param.{Param}
use Rattle.syntax_trees.specs.declared.types.FuncType.{FuncType}
use Rattle.syntax_trees.specs.declared.exports.Export as exported_func
use Rattle.ca_base.specs.declared.placed.Placed.{Placed}
use Rattle.comp_tree.specs.declared.externs.ExternDesc.{ExternDesc}
use Rattle.comp_tree.specs.declared.types.DefType.{DefType}
use Rattle.comp_tree.specs.declared.items.Item.{Item}
use Rattle.comp_tree.specs.declared.items.Item.TheOpen.{Item-F}
use Rattle.comp_tree.specs.declared.items.Component.{Component}
use Rattle.comp_graph.specs.declared.graph.Resource as defined
use Rattle.comp_graph.specs.declared.graph.CanonFunc.{CanonFunc}
use Rattle.comp_graph.specs.Graph.{Graph}
use Rattle.comp_graph.specs.Closed.{Closed, OfFunc, OfType, OfInstance, Externs, EmptyType, WithExtern, func_of}
use Rattle.link_spec.specs.Definitions.{Lifted, types_of}
use Rattle.link_spec.specs.Spaces.{Spaces, Linking, Level, level_of, listed_level, levels_at}
use Rattle.link_spec.specs.Types.{meaning_of}
use Rattle.link_spec.specs.Items.{StandsFor, type_given, given_for, wanted}
use Rattle.link_spec.specs.Linked.{exports_at, Links, root_begun, callables, export_of, graph_of, IsLinked}
use Rattle.link_spec.proofs.Holding.{all_weaker, all_mapped, all_flat, all_at, holds_at, if_weaker, if_mapped, if_found}
use Rattle.comp_reader.specs.Binary.{IsComponent}
use Rattle.lowering_laws.specs.Values.{AreBytes}
use Rattle.graph_laws.specs.Laws.{ReadTypesAreLabelled}
use Rattle.graph_laws.proofs.ComponentTypes.{types_have}
use Rattle.graph_laws.specs.Counted.{called_type, is_labelled, HasLabelledTypes}
use Rattle.graph_laws.proofs.Marked.{is_marked, HasMarkedTypes, HasMarkedFuncs, marked_labelled}
use Rattle.graph_laws.proofs.TypesStand as stands
use Rattle.graph_laws.proofs.TypesStand.{shape_has, behind_have}
use Rattle.graph_laws.proofs.CountedTypes.{IsCounted, IsExternCounted, AreCounted, IsKnownCounted, of_func_counted, meant_counted}
use Rattle.graph_laws.proofs.CountedMeanings.{IsLevelCounted, AreLevelsCounted, meaning_counted}
use Rattle.graph_laws.proofs.SpacesHold.{Known, AreDefined, AreSpaces, IsLinking}
use Rattle.graph_laws.proofs.LinkingsHold.{AreSteps, called_held, linked_held}

module _ (ends many : Bool) where
  abbrev HasCountedTypes : FuncType → Type 0
  HasCountedTypes type = HasMarkedTypes ends many type

  abbrev ShapeHas : Item-F Item Component → Type 0
  ShapeHas shape = stands.ShapeHas ends many shape

  abbrev TypesHave : List (Placed Item) → Type 0
  TypesHave items = stands.TypesHave ends many items

  -- types with counted labels, and components that are written with few
  abbrev counted : Known
  counted = record {
    func = λ (f : Lifted). HasCountedTypes f.func_type;
    type = (IsCounted ends many);
    items = TypesHave;
    canon = λ (f : CanonFunc). HasCountedTypes (called_type f);
    resource = λ (r : defined.Resource). Unit {0};
  }

  -- Types.
  level_counted : (s : Spaces) → AreSpaces counted s → IsLevelCounted ends many (level_of s)
  level_counted s k = all_mapped Some (IsKnownCounted ends many) s.types k.types

  listed_counted : (o : Option Level) → IfSome o (IsLevelCounted ends many) → AreLevelsCounted ends many (listed_level o)
  listed_counted None h = tt
  listed_counted (Some level) h = (h, tt)

  levels_counted : (l : Linking) (numbers : List ℕ) → IsLinking counted l → AreLevelsCounted ends many (levels_at l numbers)
  levels_counted l numbers h =
      all_flat (λ n. listed_level (option_map level_of (slice_get l.scopes n))) (IsLevelCounted ends many)
      (λ n. listed_counted (option_map level_of (slice_get l.scopes n))
      (if_mapped level_of (IsLevelCounted ends many) (slice_get l.scopes n)
      (if_weaker (AreSpaces counted) (λ s. (IsLevelCounted ends many) (level_of s)) level_counted (slice_get l.scopes n) (all_at (AreSpaces counted) l.scopes n h.scopes)))) numbers

  type_counted : (l : Linking) (n : ℕ) (s : Spaces) (type : DefType) (closed : Closed) → ShapeHas (Item-F.Type type) → IsLinking counted l → StandsFor (meaning_of type (levels_at l (n ∷ s.around))) closed → IsCounted ends many closed
  type_counted l n s type closed has h means =
      holds_at (IsCounted ends many) (meaning_of type (levels_at l (n ∷ s.around))).means closed (meaning_counted ends many type (levels_at l (n ∷ s.around)) has (levels_counted l (n ∷ s.around) h)) means.0

  -- What the root imports.
  types_counted : (externs : Externs) → AreCounted ends many externs → AreDefined counted (types_of externs)
  types_counted EmptyType h = tt
  types_counted (WithExtern others name (OfFunc type)) h = types_counted others h.0
  types_counted (WithExtern others name (OfType type)) h = (types_counted others h.0, h.1)
  types_counted (WithExtern others name (OfInstance inner)) h = types_counted others h.0

  asked_counted : (s : Spaces) (name : List ℕ) (asked : ExternDesc) (externs : Externs) → AreSpaces counted s → (wanted s name asked).means ≡ Some (OfInstance externs) → AreDefined counted (types_of externs)
  asked_counted s name asked externs k means =
      types_counted externs (holds_at (IsExternCounted ends many) (wanted s name asked).means (OfInstance externs) (meant_counted ends many (map Some s.types) (type_given (given_for s name)) asked (level_counted s k)) means)

  func_counted : (s : Spaces) (t : ℕ) (type : FuncType) → AreSpaces counted s → option_and_then func_of (slice_get s.types t) ≡ Some type → HasCountedTypes type
  func_counted s t type k of_type =
      holds_at HasCountedTypes (option_and_then func_of (slice_get s.types t)) type (if_found func_of (IsCounted ends many) HasCountedTypes (of_func_counted ends many) (slice_get s.types t) (all_at (IsCounted ends many) s.types t k.types)) of_type

  steps : AreSteps counted ShapeHas
  steps = record {
    first = λ placed items shape h e. shape_has ends many placed items h shape e;
    others = λ placed items h. behind_have ends many placed items h;
    components = λ c h. h;
    types = type_counted;
    resources = λ l n type index core has is. (tt, tt);
    asked = asked_counted;
    lifts = λ n s f options t type core has k of_type. func_counted s t type k of_type;
    lowers = λ n s f options func has k. k;
    builtins = λ n b kind has. record { params = tt; returned = tt };
  }

  -- The functions that can be called.
  pub linked_counted : (c : Component) (l : Linking) → TypesHave c.items → Links root_begun 0 c.items l → HasMarkedFuncs ends many (graph_of l)
  linked_counted c l has links =
      let held = linked_held counted ShapeHas steps c l has links in
      record {
        exports = all_mapped export_of (λ (e : exported_func.Export). HasCountedTypes e.func_type) (callables (exports_at l 0)) (called_held counted l held);
        canons = held.canons;
      }

labelled_types : (f : FuncType) → HasMarkedTypes true false f → HasLabelledTypes f
labelled_types f h = record {
  params = all_weaker (λ (p : Param). is_marked true false p.val_type ≡ true) (λ (p : Param). is_labelled p.val_type ≡ true) (λ p k. sym (marked_labelled p.val_type) ∙ k) f.params h.params;
  returned = if_weaker (λ (t : ValType). is_marked true false t ≡ true) (λ (t : ValType). is_labelled t ≡ true) (λ t k. sym (marked_labelled t) ∙ k) f.result h.returned;
}

marked_read : (bytes : List ℕ) (c : Component) (g : Graph) → AreBytes bytes → IsComponent bytes c → IsLinked c g → HasMarkedFuncs true false g
marked_read bytes c g are read (l, links, is) = subst (HasMarkedFuncs true false) (sym is) (linked_counted true false c l (types_have bytes c are read) links)

pub read_types_are_labelled : ReadTypesAreLabelled
read_types_are_labelled bytes c g are read linked =
    let h = marked_read bytes c g are read linked in
    record {
      exports = all_weaker (λ (e : exported_func.Export). HasMarkedTypes true false e.func_type) (λ (e : exported_func.Export). HasLabelledTypes e.func_type) (λ e k. labelled_types e.func_type k) g.exports h.exports;
      canons = all_weaker (λ (f : CanonFunc). HasMarkedTypes true false (called_type f)) (λ (f : CanonFunc). HasLabelledTypes (called_type f)) (λ f k. labelled_types (called_type f) k) g.canons h.canons;
    }
