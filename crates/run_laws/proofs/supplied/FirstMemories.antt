-- A module that is valid has one memory at most, so options of a graph that can run name the first one.
use Rattle.std.proofs.Common.{◌≡◌, inl, inr, ◌<◌, ◌≤◌, ◌+◌, ℕ, List, [], ◌∷◌, ◌++◌, length, length-append, refl, sym, ap, ◌∙◌, subst, arith, Option, Some, None}
use Rattle.std.specs.List.{slice_get, AllByRecursion}
use Rattle.syntax_trees.specs.Names.{first_named}
use Rattle.syntax_trees.specs.declared.exports.Export.{Export}
use Rattle.wasm_typing.specs.Spaces.{imported_memories}
use Rattle.wasm_typing.specs.Modules.{Typed}
use Rattle.wasm_store.proofs.Lists.{all_at}
use Rattle.wasm_store.proofs.Zips.{zip_at}
use Rattle.comp_graph.specs.declared.graph.BuiltinKind.{BuiltinKind}
use Rattle.comp_graph.specs.declared.graph.BuiltinKind.TheVariants as kind
use Rattle.comp_graph.specs.declared.graph.CanonFunc.{CanonFunc}
use Rattle.comp_graph.specs.declared.graph.CanonFunc.TheVariants as canon
use Rattle.comp_graph.specs.declared.graph.CoreRef.{CoreRef}
use Rattle.comp_graph.specs.declared.graph.EndOp.TheVariants as end_op
use Rattle.comp_graph.specs.declared.graph.Lift.{Lift}
use Rattle.comp_graph.specs.declared.graph.Resource.{Resource}
use Rattle.comp_graph.specs.CoreItems.{memory_space}
use Rattle.comp_graph.specs.Graph.{CoreMake, Graph, Lifted, no_options, func_at, lifted_as, names, IsMemoryThere, IsLiftThere, IsCanonThere, IsBuiltinThere, AreMade, none_made, instance_made, canon_made, resource_made}
use Rattle.abi_machine.specs.World.{Callee, Init, Func, Destroys}
use Rattle.abi_machine.specs.Canons.{canon_at, options_in, options_of_canon, options_of_kind}
use Rattle.abi_machine.specs.Reading.{func_of}
use Rattle.abi_machine.specs.sound.GraphFuncs.{IsExported, IsOfGraph}
use Rattle.abi_machine.specs.sound.Callees.{IsUsedGraph}
use Rattle.abi_machine.proofs.sound.Found.{some_same}
use Rattle.abi_machine.proofs.sound.Lists.{within}
use Rattle.abi_machine.proofs.sound.own.Lists.{then_some}
use Rattle.run_laws.specs.Supplied.{NamesFirst}
use Rattle.run_laws.specs.SuppliedMemories.{RunnableGraphsNameFirst}

abbrev AreTypedCores : List CoreMake → Type 0
AreTypedCores cores = AllByRecursion (λ (c : CoreMake). Typed c.of_module) cores

typed_before : (cores : List CoreMake) (core : CoreMake) → AreTypedCores (cores ++ core ∷ []) → AreTypedCores cores
typed_before [] core h = tt
typed_before (c ∷ cores) core h = (h.0, typed_before cores core h.1)

-- A memory that is there is the first.
memory_first : (cores : List CoreMake) → AreTypedCores cores → (memory : Option CoreRef) → IsMemoryThere cores memory → (m : CoreRef) → memory ≡ Some m → m.index ≡ 0
memory_first cores typed None there m e = cc
memory_first cores typed (Some f) there m e =
    let of_module = there.core.of_module in
    let one : length (imported_memories of_module.imports) + length of_module.memories ≤ 1 = (all_at (λ (c : CoreMake). Typed c.of_module) cores f.instance there.core typed there.there).one_memory in
    let count : length (memory_space of_module) ≡ length (imported_memories of_module.imports) + length of_module.memories = length-append (imported_memories of_module.imports) of_module.memories in
    let less : f.index < length (memory_space of_module) = within (memory_space of_module) f.index there.holds in
    let same : f.index ≡ m.index = ap (λ (r : CoreRef). r.index) (some_same e) in omega (arith, one, count, less, same)

none_first : NamesFirst no_options
none_first m e = cc

-- Of a canonical function, and of the function that it lowers.
abbrev LiftsFirst : CanonFunc → Type 0
LiftsFirst (canon.Lower l) = NamesFirst l.lift.options
LiftsFirst (canon.Builtin b) = Unit {0}

record CanonFirst (f : CanonFunc) : Type 0 where
  pub options : NamesFirst (options_of_canon f)
  pub lifts : LiftsFirst f

kind_first : (cores : List CoreMake) (canons : List CanonFunc) (resources : List Resource) (instance : ℕ) (k : BuiltinKind) → AreTypedCores cores → IsBuiltinThere cores canons resources instance k → NamesFirst (options_of_kind k)
kind_first cores canons resources instance (kind.Resource op number) typed there = none_first
kind_first cores canons resources instance (kind.TaskReturn result options) typed there = memory_first cores typed options.memory there.options.memory
kind_first cores canons resources instance (kind.Plain b) typed there = none_first
kind_first cores canons resources instance (kind.Context op slot) typed there = none_first
kind_first cores canons resources instance (kind.Wait op cancellable memory) typed there = memory_first cores typed (Some memory) there
kind_first cores canons resources instance (kind.End of_what element (end_op.Copy side options)) typed there = memory_first cores typed options.memory there.options.memory
kind_first cores canons resources instance (kind.End of_what element end_op.New) typed there = none_first
kind_first cores canons resources instance (kind.End of_what element (end_op.Cancel side is_async)) typed there = none_first
kind_first cores canons resources instance (kind.End of_what element (end_op.Drop side)) typed there = none_first

canon_first : (cores : List CoreMake) (canons : List CanonFunc) (resources : List Resource) (f : CanonFunc) → AreTypedCores cores → IsCanonThere cores canons resources f → CanonFirst f
canon_first cores canons resources (canon.Lower l) typed there = record {
  options = memory_first cores typed l.options.memory there.options.memory;
  lifts = memory_first cores typed l.lift.options.memory there.lift.memory;
}
canon_first cores canons resources (canon.Builtin b) typed there = record { options = kind_first cores canons resources b.instance b.kind typed there; lifts = tt }

all_push : {A : Type 0} (P : A → Type 0) (xs : List A) (x : A) → AllByRecursion P xs → P x → AllByRecursion P (xs ++ x ∷ [])
all_push P [] x h p = (p, tt)
all_push P (y ∷ xs) x h p = (h.0, all_push P xs x h.1 p)

canons_first : {cores : List CoreMake} {canons : List CanonFunc} {resources : List Resource} → AreMade cores canons resources → AreTypedCores cores → AllByRecursion CanonFirst canons
canons_first none_made typed = tt
canons_first (instance_made cores canons resources core made imports) typed = canons_first made (typed_before cores core typed)
canons_first (canon_made cores canons resources f made there) typed = all_push CanonFirst canons f (canons_first made typed) (canon_first cores canons resources f typed there)
canons_first (resource_made cores canons resources r made there) typed = canons_first made typed

-- Of an export, of a function that is lowered, and of a destructor.
export_first : (g : Graph) → IsUsedGraph g → AreTypedCores g.cores → (f : Lifted) → IsExported g f → NamesFirst f.options
export_first g used typed f (name, named) =
    let n = then_some (func_at g) (first_named name (names g.exports)) f named in
    by n.0 (slice_get g.exports n.0) (slice_get g.lifts n.0) refl refl n.2
  where
    by : (n : ℕ) (e : Option Export) (l : Option Lift) → slice_get g.exports n ≡ e → slice_get g.lifts n ≡ l → lifted_as e l ≡ Some f → NamesFirst f.options
    by n None None a b h = cc
    by n None (Some l) a b h = cc
    by n (Some e) None a b h = cc
    by n (Some e) (Some l) a b h =
        let z = zip_at (λ (e : Export) (lift : Lift). IsLiftThere g.cores g.canons e.func_type lift) g.exports g.lifts n e used.lifts a in
        let same : z.0 ≡ l = some_same (sym z.1 ∙ b) in
        let there : IsLiftThere g.cores g.canons e.func_type l = subst (λ (lift : Lift). IsLiftThere g.cores g.canons e.func_type lift) same z.2 in
        subst (λ (x : Lifted). NamesFirst x.options) (some_same h) (memory_first g.cores typed l.options.memory there.memory)

canon_so : (g : Graph) → AllByRecursion CanonFirst g.canons → (number : ℕ) (c : Option CanonFunc) → canon_at g number ≡ c → NamesFirst (options_in c)
canon_so g all number None e = none_first
canon_so g all number (Some c) e = (all_at CanonFirst g.canons number c all e).options

callee_first : (g : Graph) → IsUsedGraph g → AreTypedCores g.cores → AllByRecursion CanonFirst g.canons → (callee : Callee) (f : Lifted) → IsOfGraph g callee → func_of callee ≡ Some f → NamesFirst f.options
callee_first g used typed all Init f h e = cc
callee_first g used typed all (Func x) f (inl h) e = subst (λ (y : Lifted). NamesFirst y.options) (some_same e) (export_first g used typed x h)
callee_first g used typed all (Func x) f (inr (number, l, there, is)) e =
    subst (λ (y : Lifted). NamesFirst y.options) (is ∙ some_same e) (all_at CanonFirst g.canons number (canon.Lower l) all there).lifts
callee_first g used typed all (Destroys resource x) f (r, ref, at, has, is) e = subst (λ (y : Lifted). NamesFirst y.options) (is ∙ some_same e) none_first

pub runnable_graphs_name_first : RunnableGraphsNameFirst
runnable_graphs_name_first g s runs =
    let all = canons_first runs.used.made runs.typed.valid in
    record { canons = λ number. canon_so g all number (canon_at g number) refl; functions = callee_first g runs.used runs.typed.valid all }
