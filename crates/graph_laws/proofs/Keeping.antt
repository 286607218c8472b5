-- What a component instance made it keeps, where core instances are made or functions are lowered.
use Rattle.std.proofs.Common.{◌≡◌, ℕ, List, ◌++◌, ◌∙◌, ap, Some}
use Rattle.std.specs.List.{slice_get, AllByRecursion}
use Rattle.std.specs.Option.{option_map}
use Rattle.comp_graph.specs.declared.graph.CoreRef.{CoreRef}
use Rattle.comp_graph.specs.declared.graph.FuncRef.{FuncRef}
use Rattle.comp_graph.specs.declared.graph.FuncRef.TheVariants as func_ref
use Rattle.comp_graph.specs.declared.graph.CoreExtern.{CoreExtern}
use Rattle.comp_graph.specs.declared.graph.CoreExtern.TheVariants as extern
use Rattle.comp_graph.specs.declared.graph.Options.{Options}
use Rattle.comp_graph.specs.declared.graph.Lift.{Lift}
use Rattle.comp_graph.specs.declared.graph.Resource.{Resource}
use Rattle.comp_graph.specs.declared.graph.EndOp.{EndOp}
use Rattle.comp_graph.specs.declared.graph.EndOp.TheVariants as end_op
use Rattle.comp_graph.specs.declared.graph.BuiltinKind.{BuiltinKind}
use Rattle.comp_graph.specs.declared.graph.BuiltinKind.TheVariants as builtin
use Rattle.comp_graph.specs.declared.graph.CanonFunc.{CanonFunc}
use Rattle.comp_graph.specs.declared.graph.CanonFunc.TheVariants as canon_func
use Rattle.comp_graph.specs.Graph.{CoreMake, Graph}
use Rattle.link_spec.specs.Definitions.{CoreItem, extern_of, CoreExport, Lifted, Definition, AFunc, AType, AComponent, AnInstance, AModule, Exports, EmptyInstance, WithExport}
use Rattle.link_spec.specs.Spaces.{Spaces}
use Rattle.link_spec.proofs.Holding.{all_weaker, if_weaker, kept_at}
use Rattle.link_spec.proofs.Lists.{map_some}
use Rattle.abi_machine.specs.sound.Owners.{owner_of_core, owner_of_func, owner_of_extern}
use Rattle.graph_laws.proofs.Owning.{KeepsOwners, OwnsOptions, OwnsLift, OwnsEnd, OwnsKind, OwnsCanon, IsItemOf, AreExportsOf, IsFuncApart, IsDefinedApart, AreDefinedApart, AreSpacesApart, AreImportsOf, OwnsDestructor}

-- what is made of an item of a list, when others come behind
pub kept_mapped : {A B : Type 0} (f : A → B) (xs ys : List A) (n : ℕ) (y : B) → option_map f (slice_get xs n) ≡ Some y → option_map f (slice_get (xs ++ ys) n) ≡ Some y
kept_mapped f xs ys n y e = let x = map_some f (slice_get xs n) y e in ap (option_map f) (kept_at xs ys n x.0 x.1) ∙ ap (λ y. Some y) x.2

module _ (g h : Graph) (keeps : KeepsOwners g h) where
  kept_func : (f : FuncRef) (owner : ℕ) → owner_of_func g f ≡ Some owner → owner_of_func h f ≡ Some owner
  kept_func (func_ref.Instance f) owner e = keeps.cores f.instance owner e
  kept_func (func_ref.Canon number) owner e = keeps.canons number owner e

  kept_extern : (e : CoreExtern) (owner : ℕ) → owner_of_extern g e ≡ Some owner → owner_of_extern h e ≡ Some owner
  kept_extern (extern.Func f) owner is = kept_func f owner is
  kept_extern (extern.Table t) owner is = keeps.cores t.instance owner is
  kept_extern (extern.Memory m) owner is = keeps.cores m.instance owner is
  kept_extern (extern.Global global) owner is = keeps.cores global.instance owner is

  pub kept_options : (owner : ℕ) (options : Options) → OwnsOptions g owner options → OwnsOptions h owner options
  kept_options owner options k = record {
    memory = if_weaker (λ (m : CoreRef). owner_of_core g m.instance ≡ Some owner) (λ (m : CoreRef). owner_of_core h m.instance ≡ Some owner) (λ m e. keeps.cores m.instance owner e) options.memory k.memory;
    realloc = if_weaker (λ (f : FuncRef). owner_of_func g f ≡ Some owner) (λ (f : FuncRef). owner_of_func h f ≡ Some owner) (λ f e. kept_func f owner e) options.realloc k.realloc;
    post_return = if_weaker (λ (f : FuncRef). owner_of_func g f ≡ Some owner) (λ (f : FuncRef). owner_of_func h f ≡ Some owner) (λ f e. kept_func f owner e) options.post_return k.post_return;
    callback = if_weaker (λ (f : FuncRef). owner_of_func g f ≡ Some owner) (λ (f : FuncRef). owner_of_func h f ≡ Some owner) (λ f e. kept_func f owner e) options.callback k.callback;
  }

  kept_lift : (lift : Lift) → OwnsLift g lift → OwnsLift h lift
  kept_lift lift k = (kept_func lift.core lift.instance k.0, kept_options lift.instance lift.options k.1)

  kept_end : (owner : ℕ) (op : EndOp) → OwnsEnd g owner op → OwnsEnd h owner op
  kept_end owner (end_op.Copy side options) k = kept_options owner options k
  kept_end owner end_op.New k = tt
  kept_end owner (end_op.Cancel side is_async) k = tt
  kept_end owner (end_op.Drop side) k = tt

  kept_kind : (owner : ℕ) (kind : BuiltinKind) → OwnsKind g owner kind → OwnsKind h owner kind
  kept_kind owner (builtin.Resource op resource) k = tt
  kept_kind owner (builtin.TaskReturn result options) k = kept_options owner options k
  kept_kind owner (builtin.Plain op) k = tt
  kept_kind owner (builtin.Context op slot) k = tt
  kept_kind owner (builtin.Wait op cancellable memory) k = keeps.cores memory.instance owner k
  kept_kind owner (builtin.End what element op) k = kept_end owner op k

  pub kept_canon : (f : CanonFunc) → OwnsCanon g f → OwnsCanon h f
  kept_canon (canon_func.Builtin b) k = kept_kind b.instance b.kind k
  kept_canon (canon_func.Lower l) k = (kept_options l.instance l.options k.0, kept_lift l.lift k.1)

  pub kept_canons : (canons : List CanonFunc) → AllByRecursion (OwnsCanon g) canons → AllByRecursion (OwnsCanon h) canons
  kept_canons canons k = all_weaker (OwnsCanon g) (OwnsCanon h) kept_canon canons k

  pub kept_lifts : (lifts : List Lift) → AllByRecursion (OwnsLift g) lifts → AllByRecursion (OwnsLift h) lifts
  kept_lifts lifts k = all_weaker (OwnsLift g) (OwnsLift h) kept_lift lifts k

  kept_destructor : (r : Resource) → OwnsDestructor g r → OwnsDestructor h r
  kept_destructor r k = if_weaker (λ (f : FuncRef). owner_of_func g f ≡ Some r.instance) (λ (f : FuncRef). owner_of_func h f ≡ Some r.instance) (λ f e. kept_func f r.instance e) r.destructor k

  pub kept_destructors : (resources : List Resource) → AllByRecursion (OwnsDestructor g) resources → AllByRecursion (OwnsDestructor h) resources
  kept_destructors resources k = all_weaker (OwnsDestructor g) (OwnsDestructor h) kept_destructor resources k

  kept_imports_of : (c : CoreMake) → AreImportsOf g c → AreImportsOf h c
  kept_imports_of c k = all_weaker (λ (e : CoreExtern). owner_of_extern g e ≡ Some c.owner) (λ (e : CoreExtern). owner_of_extern h e ≡ Some c.owner) (λ e is. kept_extern e c.owner is) c.imports k

  pub kept_imports : (cores : List CoreMake) → AllByRecursion (AreImportsOf g) cores → AllByRecursion (AreImportsOf h) cores
  kept_imports cores k = all_weaker (AreImportsOf g) (AreImportsOf h) kept_imports_of cores k

  -- Index spaces.
  kept_item : (owner : ℕ) (item : CoreItem) → IsItemOf g owner item → IsItemOf h owner item
  kept_item owner item is = kept_extern (extern_of item) owner is

  kept_items : (owner : ℕ) (items : List CoreItem) → AllByRecursion (IsItemOf g owner) items → AllByRecursion (IsItemOf h owner) items
  kept_items owner items k = all_weaker (IsItemOf g owner) (IsItemOf h owner) (kept_item owner) items k

  kept_exports : (owner : ℕ) (exports : List CoreExport) → AreExportsOf g owner exports → AreExportsOf h owner exports
  kept_exports owner exports k = all_weaker (λ (e : CoreExport). IsItemOf g owner e.item) (λ (e : CoreExport). IsItemOf h owner e.item) (λ e is. kept_item owner e.item is) exports k

  pub kept_apart : (f : Lifted) → IsFuncApart g f → IsFuncApart h f
  kept_apart f k = (kept_func f.core f.instance k.0, kept_options f.instance f.options k.1)

  mutual
    kept_definition : (d : Definition) → IsDefinedApart g d → IsDefinedApart h d
    kept_definition (AFunc f) k = kept_apart f k
    kept_definition (AType type) k = tt
    kept_definition (AComponent c) k = tt
    kept_definition (AnInstance exports) k = kept_defined exports k
    kept_definition (AModule m) k = tt

    kept_defined : (exports : Exports) → AreDefinedApart g exports → AreDefinedApart h exports
    kept_defined EmptyInstance k = tt
    kept_defined (WithExport others name d) k = (kept_defined others k.0, kept_definition d k.1)

  pub kept_spaces : (owner : ℕ) (s : Spaces) → AreSpacesApart g owner s → AreSpacesApart h owner s
  kept_spaces owner s k = record {
    core = record {
      instances_of = all_weaker (AreExportsOf g owner) (AreExportsOf h owner) (kept_exports owner) s.core_instances k.core.instances_of;
      funcs_of = kept_items owner s.core_funcs k.core.funcs_of;
      tables_of = kept_items owner s.core_tables k.core.tables_of;
      memories_of = kept_items owner s.core_memories k.core.memories_of;
      globals_of = kept_items owner s.core_globals k.core.globals_of;
    };
    instances = all_weaker (AreDefinedApart g) (AreDefinedApart h) kept_defined s.instances k.instances;
    funcs = all_weaker (IsFuncApart g) (IsFuncApart h) kept_apart s.funcs k.funcs;
    exported = kept_defined s.exports k.exported;
    passed = if_weaker (AreDefinedApart g) (AreDefinedApart h) kept_defined s.arguments k.passed;
  }

pub keeps_itself : (g : Graph) → KeepsOwners g g
keeps_itself g = record { cores = λ number owner e. e; canons = λ number owner e. e }

pub keeps_through : (g h i : Graph) → KeepsOwners g h → KeepsOwners h i → KeepsOwners g i
keeps_through g h i a b = record { cores = λ number owner e. b.cores number owner (a.cores number owner e); canons = λ number owner e. b.canons number owner (a.canons number owner e) }
