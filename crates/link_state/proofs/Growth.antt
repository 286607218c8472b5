-- Index spaces stand for what they stood for, where the tables grow.
use Rattle.std.proofs.Common.{◌≡◌, ℕ, List, [], ◌∷◌, ◌++◌, Option, Some, None}
use Rattle.std.specs.List.{slice_get}
use Rattle.syntax_trees.specs.declared.types.ValType.{ValType}
use Rattle.syntax_trees.specs.declared.module.ModuleTree.{ModuleTree}
use Rattle.comp_graph.specs.declared.graph.CanonFunc.{CanonFunc}
use Rattle.comp_graph.specs.declared.graph.CanonFunc.TheVariants as canon_func
use Rattle.comp_graph.specs.Closed.{Closed}
use Rattle.comp_graph.specs.Graph.{numbered_value}
use Rattle.comp_graph.specs.Passed.{TypeTable, MayBeAt, HasCanonType, AreCanonTypes}
use Rattle.canon_types.specs.EndNumbers.{AreEndTypes}
use Rattle.link_spec.specs.Definitions.{Lifted, Closure, Exports}
use Rattle.link_spec.specs.Spaces.{Spaces}
use Rattle.link_values.specs.declared.refs.TypeRef.{TypeRef}
use Rattle.link_values.specs.declared.refs.InstanceTypeRef.{InstanceTypeRef}
use Rattle.link_types.specs.Table.{Table, Grows, IsType}
use Rattle.link_types.proofs.TypesGrow.{func_stays, type_stays}
use Rattle.link_instances.specs.declared.references.InstanceRef.{InstanceRef}
use Rattle.link_instances.specs.declared.references.LiftedRef.{LiftedRef}
use Rattle.link_instances.specs.declared.pairs.Pair.{Pair}
use Rattle.link_instances.specs.declared.instances.Instances.{Instances}
use Rattle.link_instances.specs.References.{World, IsInstance, IsLifted, WorldStays}
use Rattle.link_instances.specs.Instances.{AreInstances}
use Rattle.link_instances.proofs.Growing.{instance_stays, listing_stays, bases_stay, known_stays, has_types_stays}
use Rattle.link_state.specs.declared.scope.Scope.{Scope}
use Rattle.link_meanings.specs.Levels.{IsClosure}
use Rattle.link_state.specs.State.{type_table, IsModule, AreGiven, IsScope, IsKept}
use Rattle.link_state.proofs.Zips.{zips_weaker, zips_more}

-- what is kept of a component instance that has not ended
pub kept_whole : (t : Table) (w : World) (scope : Scope) (s : Spaces) → IsScope t w scope s → IsKept t w scope s
kept_whole t w scope s h = record { types = h.types; components = h.components; whole = λ live. h }

-- the numbers of the types of what core functions pass
may_stay : {A : Type 0} (xs ys : List A) → ((k : ℕ) (x : A) → slice_get xs k ≡ Some x → slice_get ys k ≡ Some x) → (n : Option ℕ) (o : Option A) → MayBeAt xs n o → MayBeAt ys n o
may_stay xs ys stay None None h = tt
may_stay xs ys stay None (Some x) h = absurd h
may_stay xs ys stay (Some n) None h = absurd h
may_stay xs ys stay (Some n) (Some x) h = stay n x h

canon_stays : (t u : Table) → Grows t u → (n : Option ℕ) (f : CanonFunc) → HasCanonType (type_table t) n f → HasCanonType (type_table u) n f
canon_stays t u g n (canon_func.Lower l) h = may_stay t.funcs u.funcs g.funcs n (Some l.func_type) h
canon_stays t u g n (canon_func.Builtin b) h = may_stay t.values u.values g.values n (numbered_value b.kind) h

pub canons_stay : (t u : Table) → Grows t u → (numbers : List (Option ℕ)) (canons : List CanonFunc) → AreCanonTypes (type_table t) numbers canons → AreCanonTypes (type_table u) numbers canons
canons_stay t u g = zips_weaker (HasCanonType (type_table t)) (HasCanonType (type_table u)) (canon_stays t u g)

-- and those of the types of streams and futures
pub ends_stay : (t u : Table) → Grows t u → (numbers : List ℕ) (types : List ValType) → AreEndTypes t.values numbers types → AreEndTypes u.values numbers types
ends_stay t u g = zips_weaker (λ (n : ℕ) (x : ValType). slice_get t.values n ≡ Some x) (λ (n : ℕ) (x : ValType). slice_get u.values n ≡ Some x) g.values

pub canons_more : (types : TypeTable) (numbers : List (Option ℕ)) (canons : List CanonFunc) (n : Option ℕ) (f : CanonFunc) (more : List (Option ℕ)) (made : List CanonFunc) → AreCanonTypes types numbers canons
    → HasCanonType types n f → more ≡ numbers ++ n ∷ [] → made ≡ canons ++ f ∷ [] → AreCanonTypes types more made
canons_more types numbers canons n f more made h is put pushed = rw (put, pushed) (zips_more (HasCanonType types) numbers canons n f h is)

module _ (t u : Table) (v w : World) (types : Grows t u) (world : WorldStays v w) where
  lifted_stays : (ref : LiftedRef) (f : Lifted) → IsLifted t ref f → IsLifted u ref f
  lifted_stays ref f h = record { instance = h.instance; core = h.core; options = h.options; func_type = func_stays t u types ref.func_type f.func_type h.func_type }

  given_stays : (o : Option InstanceRef) (given : Option Exports) → AreGiven t v o given → AreGiven u w o given
  given_stays None None h = tt
  given_stays None (Some exports) h = absurd h
  given_stays (Some i) None h = absurd h
  given_stays (Some i) (Some exports) h = instance_stays t u v w types world i exports h

  scope_stays : (scope : Scope) (s : Spaces) → IsScope t v scope s → IsScope u w scope s
  scope_stays scope s h = record {
    core_modules = zips_weaker (IsModule v) (IsModule w) (λ (n : ℕ) (m : ModuleTree). world.modules n m) scope.core_modules.items s.core_modules h.core_modules;
    core_instances = h.core_instances;
    core_funcs = h.core_funcs;
    core_tables = h.core_tables;
    core_memories = h.core_memories;
    core_globals = h.core_globals;
    components = zips_weaker (IsClosure v.components) (IsClosure w.components) (λ (n : ℕ) (c : Closure). world.components n c) scope.components.items s.components h.components;
    instances = zips_weaker (IsInstance t v) (IsInstance u w) (λ (i : InstanceRef) (exports : Exports). instance_stays t u v w types world i exports) scope.instances.items s.instances h.instances;
    funcs = zips_weaker (IsLifted t) (IsLifted u) lifted_stays scope.funcs.items s.funcs h.funcs;
    types = zips_weaker (IsType t) (IsType u) (λ (ref : TypeRef) (type : Closed). type_stays t u types ref type) scope.types.items s.types h.types;
    imports = h.imports;
    exports = listing_stays t u v w types world scope.exports s.exports h.exports;
    export_names = h.export_names;
    arguments = given_stays scope.arguments s.arguments h.arguments;
    around = h.around;
  }

  pub kept_stays : (scope : Scope) (s : Spaces) → IsKept t v scope s → IsKept u w scope s
  kept_stays scope s h = record {
    types = zips_weaker (IsType t) (IsType u) (λ (ref : TypeRef) (type : Closed). type_stays t u types ref type) scope.types.items s.types h.types;
    components = zips_weaker (IsClosure v.components) (IsClosure w.components) (λ (n : ℕ) (c : Closure). world.components n c) scope.components.items s.components h.components;
    whole = λ live. scope_stays scope s (h.whole live);
  }

  pub instances_stay : (i : Instances) → w.bases ≡ v.bases → AreInstances t v i → AreInstances u w i
  instances_stay i same h = record {
    bases = bases_stay t u v w types world i.bases.items same h.bases;
    known = λ (p : Pair) has. known_stays t u v w types world p (h.known p has);
    of_types = λ (type : InstanceTypeRef) base found. has_types_stays t u v w types world type base (h.of_types type base found);
  }
