-- Every linked graph tells the types of streams and futures that its built-ins name, each once.
use Rattle.std.proofs.Common.{◌≡◌, ◌∙◌, ℕ, zero, suc, Bool, true, false, cond, not, ◌||◌, ◌&&◌, List, [], ◌∷◌, ◌++◌, length, refl, sym, ap, subst, Option, Some, None}
use Rattle.std.specs.List.{slice_get, AllByRecursion}
use Rattle.ca_base.specs.declared.placed.Placed.{Placed}
use Rattle.syntax_trees.specs.declared.types.ValType.{ValType}
use Rattle.syntax_trees.specs.declared.types.ValType.TheViews.{outs-Stream, outs-Future}
use Rattle.builtin_kinds.specs.declared.EndKind.{EndKind}
use Rattle.builtin_kinds.specs.declared.EndKind.TheVariants as end_kind
use Rattle.comp_graph.specs.Closed.{Closed, Value}
use Rattle.comp_graph.specs.declared.graph.BuiltinKind.{BuiltinKind}
use Rattle.comp_graph.specs.declared.graph.BuiltinKind.TheVariants as builtin
use Rattle.comp_graph.specs.declared.graph.CanonFunc.{CanonFunc}
use Rattle.comp_graph.specs.declared.graph.CanonFunc.TheVariants as canon_func
use Rattle.comp_graph.specs.Graph.{ends_type}
use Rattle.comp_tree.specs.declared.core_instances.CoreInstance.{CoreInstance}
use Rattle.comp_tree.specs.declared.core_instances.CoreInstance.TheVariants as made_core
use Rattle.comp_tree.specs.declared.instances.Instance as made_of
use Rattle.comp_tree.specs.declared.instances.Instance.TheVariants as made
use Rattle.comp_tree.specs.declared.instances.Sort.{Sort}
use Rattle.comp_tree.specs.declared.instances.AliasTarget.{AliasTarget}
use Rattle.comp_tree.specs.declared.instances.AliasTarget.TheVariants as target
use Rattle.comp_tree.specs.declared.types.DefType.{DefType, out-DefType}
use Rattle.comp_tree.specs.declared.items.Canon.TheVariants.{Lift, Lower, Builtin}
use Rattle.comp_tree.specs.declared.items.Item.{Item, out-Item}
use Rattle.comp_tree.specs.declared.items.Item.TheOpen.{Item-F}
use Rattle.comp_tree.specs.declared.items.Component.{Component}
use Rattle.link_spec.specs.Same.{same_val}
use Rattle.link_spec.specs.Ends.{ends_case, is_of_ends, is_type_among, noted, noted_type, noted_kind}
use Rattle.link_spec.specs.Spaces.{Spaces, Linking}
use Rattle.link_spec.specs.Resources.{resource_written}
use Rattle.link_spec.specs.Items.{core_instance_makes, instance_makes, alias_makes, type_meaning, defined_makes, makes_case}
use Rattle.link_spec.specs.Linked.{begun, with_instance, Links, leads_by_making, leads_by_instance, no_items, item_links, root_begun}
use Rattle.link_spec.proofs.Holding.{all_push, all_weaker, last_there}
use Rattle.link_spec.proofs.SameValues.{val_told}
use Rattle.async_graph_laws.specs.Ends.{IsKindTold, IsEndTold, TellsEnds}
use Rattle.async_graph_laws.specs.Laws.{LinkedGraphsTellEnds}

-- Types each of which is none of those before it.
abbrev AreOnce : List ValType → Type 0
AreOnce [] = Unit {0}
AreOnce (t ∷ types) = (is_type_among types t ≡ false) × AreOnce types

either_false : (a b : Bool) → (a || b) ≡ false → (a ≡ false) × (b ≡ false)
either_false true b h = cc
either_false false b h = (refl, h)

none_of : {A : Type 0} (b : Bool) → b ≡ false → b ≡ true → A
none_of true h k = cc
none_of false h k = cc

same_self : (t : ValType) → same_val t t ≡ true
same_self t = (val_told t t).1 refl

-- a type that stands at a place is among them, and one that is among them stands at a place
among_at : (types : List ValType) (n : ℕ) (t : ValType) → slice_get types n ≡ Some t → is_type_among types t ≡ true
among_at [] n t h = cc
among_at (u ∷ types) zero t h = let same : u ≡ t = cc in ap (λ (v : ValType). same_val v t || is_type_among types t) same ∙ ap (λ (b : Bool). b || is_type_among types t) (same_self t)
among_at (u ∷ types) (suc n) t h = by (same_val u t) (among_at types n t h)
  where
    by : (b : Bool) → is_type_among types t ≡ true → (b || is_type_among types t) ≡ true
    by true k = refl
    by false k = k

found_among : (types : List ValType) (t : ValType) → is_type_among types t ≡ true → (n : ℕ) × (slice_get types n ≡ Some t)
found_among [] t h = cc
found_among (u ∷ types) t h = by (same_val u t) refl (λ k. found_among types t k) h
  where
    by : (b : Bool) → same_val u t ≡ b → (is_type_among types t ≡ true → (n : ℕ) × (slice_get types n ≡ Some t)) → (b || is_type_among types t) ≡ true → (n : ℕ) × (slice_get (u ∷ types) n ≡ Some t)
    by true e others k = (zero, ap (λ (v : ValType). Some v) ((val_told u t).0 e))
    by false e others k = let rest = others k in (suc rest.0, rest.1)

-- no type stands at two places
one_place : (types : List ValType) → AreOnce types → (m n : ℕ) (t : ValType) → slice_get types m ≡ Some t → slice_get types n ≡ Some t → m ≡ n
one_place [] once m n t h k = cc
one_place (u ∷ types) once zero zero t h k = refl
one_place (u ∷ types) once zero (suc n) t h k = let same : t ≡ u = cc in none_of (is_type_among types u) once.0 (subst (λ (v : ValType). is_type_among types v ≡ true) same (among_at types n t k))
one_place (u ∷ types) once (suc m) zero t h k = let same : t ≡ u = cc in none_of (is_type_among types u) once.0 (subst (λ (v : ValType). is_type_among types v ≡ true) same (among_at types m t h))
one_place (u ∷ types) once (suc m) (suc n) t h k = ap suc (one_place types once.1 m n t h k)

-- One more, which is not among them.
not_more : (types : List ValType) (t u : ValType) → is_type_among types u ≡ false → same_val t u ≡ false → is_type_among (types ++ t ∷ []) u ≡ false
not_more [] t u h k = ap (λ (b : Bool). b || false) k
not_more (v ∷ types) t u h k =
    let parts = either_false (same_val v u) (is_type_among types u) h in
    ap (λ (b : Bool). b || is_type_among (types ++ t ∷ []) u) parts.0 ∙ not_more types t u parts.1 k

turned : (t u : ValType) → same_val u t ≡ false → same_val t u ≡ false
turned t u h = by (same_val t u) refl
  where
    by : (b : Bool) → same_val t u ≡ b → b ≡ false
    by true e = none_of (same_val u t) h ((val_told u t).1 (sym ((val_told t u).0 e)))
    by false e = refl

once_more : (types : List ValType) (t : ValType) → AreOnce types → is_type_among types t ≡ false → AreOnce (types ++ t ∷ [])
once_more [] t once none = (refl, tt)
once_more (u ∷ types) t once none =
    let parts = either_false (same_val u t) (is_type_among types t) none in
    (not_more types t u once.0 (turned t u parts.0), once_more types t once.1 parts.1)

at_front : (types : List ValType) (t u : ValType) (n : ℕ) → slice_get types n ≡ Some u → slice_get (types ++ t ∷ []) n ≡ Some u
at_front [] t u n h = cc
at_front (v ∷ types) t u zero h = h
at_front (v ∷ types) t u (suc n) h = at_front types t u n h

-- What is known of the types that linking has come to, and of the core functions.
record AreTold (types : List ValType) (canons : List CanonFunc) : Type 0 where
  of_ends : AllByRecursion (λ (t : ValType). is_of_ends t ≡ true) types
  once : AreOnce types
  named : AllByRecursion (IsEndTold types) canons

-- A type is noted: what was there is there, and it is told where it is one of streams or futures.
record IsNoted (types more : List ValType) (t : ValType) : Type 0 where
  of_ends : AllByRecursion (λ (t : ValType). is_of_ends t ≡ true) more
  once : AreOnce more
  stays : (n : ℕ) (u : ValType) → slice_get types n ≡ Some u → slice_get more n ≡ Some u
  told : is_of_ends t ≡ true → (n : ℕ) × (slice_get more n ≡ Some t)

one_noted : (types : List ValType) (t : ValType) → AllByRecursion (λ (t : ValType). is_of_ends t ≡ true) types → AreOnce types → IsNoted types (noted types t) t
one_noted types t ends once = by (is_of_ends t) refl (is_type_among types t) refl
  where
    by : (e : Bool) → is_of_ends t ≡ e → (a : Bool) → is_type_among types t ≡ a → IsNoted types (noted types t) t
    by e is a among =
        subst (λ (b : Bool). IsNoted types (cond (b && not (is_type_among types t)) (types ++ t ∷ []) types) t) (sym is)
        (subst (λ (b : Bool). IsNoted types (cond (e && not b) (types ++ t ∷ []) types) t) (sym among) (cases e is a among))
      where
        cases : (e : Bool) → is_of_ends t ≡ e → (a : Bool) → is_type_among types t ≡ a → IsNoted types (cond (e && not a) (types ++ t ∷ []) types) t
        cases true is false among = record {
          of_ends = all_push (λ (t : ValType). is_of_ends t ≡ true) types t ends is;
          once = once_more types t once among;
          stays = λ n u h. at_front types t u n h;
          told = λ h. (length types, last_there types t);
        }
        cases true is true among = record { of_ends = ends; once = once; stays = λ n u h. h; told = λ h. found_among types t among }
        cases false is a among = record { of_ends = ends; once = once; stays = λ n u h. h; told = λ h. none_of (is_of_ends t) is h }

kind_stays : (types more : List ValType) → ((n : ℕ) (u : ValType) → slice_get types n ≡ Some u → slice_get more n ≡ Some u) → (kind : BuiltinKind) → IsKindTold types kind → IsKindTold more kind
kind_stays types more stays (builtin.End kind element op) h = (h.0, stays h.0 (ends_type kind element) h.1)
kind_stays types more stays (builtin.Resource op resource) h = tt
kind_stays types more stays (builtin.TaskReturn result options) h = tt
kind_stays types more stays (builtin.Plain b) h = tt
kind_stays types more stays (builtin.Context op slot) h = tt
kind_stays types more stays (builtin.Wait op cancellable memory) h = tt

canon_stays : (types more : List ValType) → ((n : ℕ) (u : ValType) → slice_get types n ≡ Some u → slice_get more n ≡ Some u) → (f : CanonFunc) → IsEndTold types f → IsEndTold more f
canon_stays types more stays (canon_func.Lower l) h = tt
canon_stays types more stays (canon_func.Builtin b) h = kind_stays types more stays b.kind h

with_noted : (types : List ValType) (canons : List CanonFunc) (t : ValType) → AreTold types canons → AreTold (noted types t) canons
with_noted types canons t h =
    let more = one_noted types t h.of_ends h.once in
    record { of_ends = more.of_ends; once = more.once; named = all_weaker (IsEndTold types) (IsEndTold (noted types t)) (canon_stays types (noted types t) more.stays) canons h.named }

-- a type that a component defines
type_told : (types : List ValType) (canons : List CanonFunc) (closed : Closed) → AreTold types canons → AreTold (noted_type types closed) canons
type_told types canons (Value t) h = with_noted types canons t h
type_told types canons other h = h

ends_are : (kind : EndKind) (element : Option ValType) → is_of_ends (ends_type kind element) ≡ true
ends_are end_kind.Stream element = ap ends_case (outs-Stream element)
ends_are end_kind.Future element = ap ends_case (outs-Future element)

-- a core function of the Canonical ABI
one_more : (types : List ValType) (canons : List CanonFunc) (f : CanonFunc) → AreTold types canons → IsEndTold types f → AreTold types (canons ++ f ∷ [])
one_more types canons f h k = record { of_ends = h.of_ends; once = h.once; named = all_push (IsEndTold types) canons f h.named k }

kind_told : (types : List ValType) (canons : List CanonFunc) (instance : ℕ) (kind : BuiltinKind) → AreTold types canons → AreTold (noted_kind types kind) (canons ++ canon_func.Builtin (record { instance = instance; kind = kind }) ∷ [])
kind_told types canons instance (builtin.End kind element op) h =
    let t = ends_type kind element in
    one_more (noted types t) canons (canon_func.Builtin (record { instance = instance; kind = builtin.End kind element op })) (with_noted types canons t h)
    ((one_noted types t h.of_ends h.once).told (ends_are kind element))
kind_told types canons instance (builtin.Resource op resource) h = one_more types canons (canon_func.Builtin (record { instance = instance; kind = builtin.Resource op resource })) h tt
kind_told types canons instance (builtin.TaskReturn result options) h = one_more types canons (canon_func.Builtin (record { instance = instance; kind = builtin.TaskReturn result options })) h tt
kind_told types canons instance (builtin.Plain b) h = one_more types canons (canon_func.Builtin (record { instance = instance; kind = builtin.Plain b })) h tt
kind_told types canons instance (builtin.Context op slot) h = one_more types canons (canon_func.Builtin (record { instance = instance; kind = builtin.Context op slot })) h tt
kind_told types canons instance (builtin.Wait op cancellable memory) h = one_more types canons (canon_func.Builtin (record { instance = instance; kind = builtin.Wait op cancellable memory })) h tt

-- Items.
abbrev IsTold : Linking → Type 0
IsTold l = AreTold l.end_types l.canons

core_instance_told : (l : Linking) (n : ℕ) (s : Spaces) (c : CoreInstance) (new : Linking) → core_instance_makes l n s c new → IsTold l → IsTold new
core_instance_told l n s (made_core.Instantiate index arguments) new (m, imports, is, there, found, distinct, few, e) h = subst IsTold (sym e) h
core_instance_told l n s (made_core.Inline read) new (exports, are, distinct, e) h = subst IsTold (sym e) h

instance_told : (l : Linking) (n : ℕ) (s : Spaces) (i : made_of.Instance) (new : Linking) → instance_makes l n s i new → IsTold l → IsTold new
instance_told l n s (made.Instantiate component arguments) new k h = absurd k
instance_told l n s (made.Inline read) new (exports, are, distinct, e) h = subst IsTold (sym e) h

alias_told : (l : Linking) (n : ℕ) (s : Spaces) (sort : Sort) (t : AliasTarget) (new : Linking) → alias_makes l n s sort t new → IsTold l → IsTold new
alias_told l n s sort (target.InstanceExport instance name) new (d, is, of_sort, e) h = subst IsTold (sym e) h
alias_told l n s sort (target.CoreInstanceExport instance name) new (item, is, of_sort, e) h = subst IsTold (sym e) h
alias_told l n s sort (target.Outer up index) new (d, is, e) h = subst IsTold (sym e) h

defined_told : (l : Linking) (n : ℕ) (s : Spaces) (written : Option (Option ℕ)) (type : DefType) (new : Linking) → defined_makes l n s written (type_meaning l n s type) new → IsTold l → IsTold new
defined_told l n s (Some None) type new e h = subst IsTold (sym e) h
defined_told l n s (Some (Some f)) type new (item, core, is, of_item, fits, e) h = subst IsTold (sym e) h
defined_told l n s None type new (closed, is, e) h = subst IsTold (sym e) (type_told l.end_types l.canons closed h)

case_told : (l : Linking) (n : ℕ) (s : Spaces) (shape : Item-F Item Component) (new : Linking) → makes_case l n s shape new → IsTold l → IsTold new
case_told l n s (Item-F.CoreModule m) new e h = subst IsTold (sym e) h
case_told l n s (Item-F.CoreInstance c) new k h = core_instance_told l n s c new k h
case_told l n s (Item-F.Component c) new e h = subst IsTold (sym e) h
case_told l n s (Item-F.Instance i) new k h = instance_told l n s i new k h
case_told l n s (Item-F.Alias alias) new k h = alias_told l n s alias.sort alias.target new k h
case_told l n s (Item-F.Type type) new k h = defined_told l n s (resource_written (out-DefType type)) type new k h
case_told l n s (Item-F.Canon (Lift f options t)) new (item, core, type, is, of_item, there, of_type, once, fits, e) h = subst IsTold (sym e) h
case_told l n s (Item-F.Canon (Lower f options)) new (func, is, there, once, fits, e) h = subst IsTold (sym e) (one_more l.end_types l.canons _ h tt)
case_told l n s (Item-F.Canon (Builtin b)) new (kind, there, is, serves, e) h = subst IsTold (sym e) (kind_told l.end_types l.canons n kind h)
case_told l n s (Item-F.Import i) new (extern, d, is, fresh, imported, e) h = subst IsTold (sym e) h
case_told l n s (Item-F.Export x) new (d, y, is, fresh, exported, e) h = subst IsTold (sym e) h

links_told : (l : Linking) (n : ℕ) (items : List (Placed Item)) (last : Linking) → IsTold l → Links l n items last → IsTold last
links_told l n items last h (no_items m k) = h
links_told l n items last h (item_links m next end k s placed others there (leads_by_making o onto j t p made) behind) =
    links_told next k others end (case_told m k s (out-Item placed.item) next made h) behind
links_told l n items last h (item_links m next end k s placed others there (leads_by_instance o inner j t c arguments p begins inside) behind) =
    let reached = links_told (begun m c arguments) (length m.scopes) c.items inner h inside in
    links_told (with_instance inner k s (length m.scopes)) k others end reached behind

pub linked_graphs_tell_ends : LinkedGraphsTellEnds
linked_graphs_tell_ends c g (l, links, is) =
    let told = links_told root_begun 0 c.items l (record { of_ends = tt; once = tt; named = tt }) links in
    subst TellsEnds (sym is) (record { of_ends = told.of_ends; once = one_place l.end_types told.once; named = told.named })
