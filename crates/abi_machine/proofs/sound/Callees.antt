-- Tasks run functions of the graph, and so they do in every step; and their core functions are there.
use Rattle.std.proofs.Common.{◌≡◌, inl, inr, ℕ, zero, suc, true, false, List, [], ◌∷◌, ◌++◌, length, refl, sym, ap, ◌∙◌, subst, append-nil, Option, Some, None}
use Rattle.std.specs.List.{slice_get, AllByRecursion}
use Rattle.std.specs.Option.{option_map, option_and_then, IfSome}
use Rattle.syntax_trees.specs.Names.{first_named}
use Rattle.syntax_trees.specs.declared.exports.Export.{Export}
use Rattle.syntax_trees.specs.declared.types.FuncType.{FuncType}
use Rattle.syntax_trees.specs.declared.core_type.CoreType.{CoreType}
use Rattle.syntax_trees.specs.Flat.{flat_payload, at_most}
use Rattle.syntax_trees.specs.declared.module_types.FuncType as core
use Rattle.wasm_typing.specs.Spaces.{type_of_func}
use Rattle.wasm_store.specs.Store.{Host as HostFunction, Instance, Store}
use Rattle.wasm_store.proofs.Lists.{all_at, all_append, found_there}
use Rattle.wasm_store.proofs.Zips.{zip_at}
use Rattle.tasks.specs.declared.phase.Resolution.TheVariants.{Cancelled}
use Rattle.comp_graph.specs.declared.graph.FuncRef.{FuncRef}
use Rattle.comp_graph.specs.declared.graph.FuncRef.TheVariants as func_ref
use Rattle.comp_graph.specs.declared.graph.Lift.{Lift}
use Rattle.comp_graph.specs.declared.graph.Resource.{Resource}
use Rattle.comp_graph.specs.declared.graph.CanonFunc.{CanonFunc}
use Rattle.comp_graph.specs.declared.graph.CanonFunc.TheVariants as canon
use Rattle.comp_graph.specs.Needs.{lift_type, post_return_type, callback_type}
use Rattle.comp_graph.specs.Needs as needs
use Rattle.comp_graph.specs.Graph.{CoreMake, Graph, Lifted, no_options, canon_type, core_type, func_at, func_named, lifted_as, names, IsLiftThere, IsCanonThere, IsDestructorThere, AreMade, none_made, instance_made, canon_made, resource_made}
use Rattle.script_reader.specs.Script.{Script}
use Rattle.abi_machine.specs.World.{Callee, Init, Func, Destroys, Host, Guest, New, Exited, AfterCall, Task, World, new_task}
use Rattle.abi_machine.specs.Edits.{changed_at}
use Rattle.abi_machine.specs.Canons.{lifted_of, resource_at, destructor_type}
use Rattle.abi_machine.specs.Reading.{func_of}
use Rattle.abi_machine.specs.sound.Changes.{Change, GoesTo, HasStore, SpendsUnit, UsesPicks, TakesItem, BeginsInstance, AddsEntry, MakesSet, RemovesEntry, RemovesWaitable, LeavesSet, JoinsSet, HasBackpressure, IsCalled, Calls, ComesBack, Acts, Begins, Cancels, Blocks, Exits, IsRemoved, Resolves, IsCancelled, HasWord, HasNewStack, HasStack, LosesStack, IsAnswered, IsTold, IsLent, HasResult, MakesChannel, Offers, Transfers, Concludes, DropsEnd, after}
use Rattle.abi_machine.specs.sound.Premises.{Comes}
use Rattle.abi_machine.specs.sound.Owners.{HasCanons}
use Rattle.abi_machine.specs.sound.MadeInstances.{WereMade}
use Rattle.abi_machine.specs.sound.GraphFuncs.{IsLowered, IsDestructor, IsOfGraph, HaveCallees}
use Rattle.abi_machine.specs.sound.Callees.{FirstHasCallees, CalleesStay, IsUsedGraph, CoreThere, FunctionsAreThere, DestructorsAreThere}
use Rattle.abi_machine.proofs.Layers.{u32_flat}
use Rattle.abi_machine.proofs.sound.Lists.{all_changed, all_more, all_as}
use Rattle.abi_machine.proofs.sound.Found.{some_same}
use Rattle.abi_machine.proofs.sound.Aside.{channel_kept, made_kept}
use Rattle.abi_machine.proofs.sound.Alone.{kept_so}
use Rattle.abi_machine.proofs.sound.own.Lists.{get_front, map_some, then_some}

-- What a task runs stays.

left_so : (g : Graph) (tasks : List Task) (t : ℕ) (f : Task → Task) → ((x : Task) → (f x).callee ≡ x.callee) → HaveCallees g tasks → HaveCallees g (changed_at t f tasks)
left_so g tasks t f same h = all_changed (λ (x : Task). IsOfGraph g x.callee) t f tasks (λ x e k. subst (IsOfGraph g) (sym (same x)) k) h

abbrev Has : Graph → World → Type 0
Has g w = HaveCallees g w.tasks

callees_kept : (g : Graph) (s : Script) (c : Change) (w : World) → Comes g s c w → Has g w → Has g (after c w)
callees_kept g s (IsCalled callee call values) w may h = all_more (λ (x : Task). IsOfGraph g x.callee) w.tasks (new_task callee (Host call values) New) h may.3
callees_kept g s (Calls number callee subtask words) w may h =
    all_more (λ (x : Task). IsOfGraph g x.callee) (changed_at subtask.by (λ task. record task { state = AfterCall (length w.tasks) number words }) w.tasks) (new_task callee (Guest subtask) New)
    (left_so g w.tasks subtask.by _ (λ x. refl) h) may.7
callees_kept g s (ComesBack t) w may h = h
callees_kept g s (Acts t) w may h = left_so g w.tasks t _ (λ x. refl) h
callees_kept g s (Begins n) w may h = left_so g w.tasks 0 _ (λ x. refl) h
callees_kept g s (Cancels t callee number words) w may h = left_so g w.tasks t _ (λ x. refl) h
callees_kept g s (Blocks t state) w may h = left_so g w.tasks t _ (λ x. refl) h
callees_kept g s (Exits t) w may h = left_so g w.tasks t _ (λ x. refl) h
callees_kept g s (IsRemoved t) w may h =
    left_so g (changed_at t (λ x. record x { resolution = Some Cancelled }) w.tasks) t (λ x. record x { state = Exited }) (λ x. refl)
    (left_so g w.tasks t (λ x. record x { resolution = Some Cancelled }) (λ x. refl) h)
callees_kept g s (Resolves t resolution) w may h = left_so g w.tasks t _ (λ x. refl) h
callees_kept g s (IsCancelled t cancellation) w may h = left_so g w.tasks t _ (λ x. refl) h
callees_kept g s (HasWord t slot word) w may h = left_so g w.tasks t _ (λ x. refl) h
callees_kept g s (HasNewStack t k) w may h = left_so g w.tasks t _ (λ x. refl) h
callees_kept g s (HasStack t k) w may h = left_so g w.tasks t _ (λ x. refl) h
callees_kept g s (LosesStack t) w may h = left_so g w.tasks t _ (λ x. refl) h
callees_kept g s (IsAnswered t words) w may h = left_so g w.tasks t _ (λ x. refl) h
callees_kept g s (IsTold t state) w may h = left_so g w.tasks t _ (λ x. refl) h
callees_kept g s (IsLent t handle) w may h = left_so g w.tasks t _ (λ x. refl) h
callees_kept g s (HasResult t words) w may h = left_so g w.tasks t _ (λ x. refl) h
callees_kept g s (MakesChannel kind element) w may h = made_kept (Has g) (λ v x k. k) (λ v x k. k) kind element w h
callees_kept g s (Offers e call) w may h = channel_kept (Has g) (λ v x k. k) (λ v x k. k) e.kind e.number _ w h
callees_kept g s (Transfers e size values) w may h =
    channel_kept (Has g) (λ v x k. k) (λ v x k. k) e.kind e.number _ _ (channel_kept (Has g) (λ v x k. k) (λ v x k. k) e.kind e.number _ w h)
callees_kept g s (Concludes e) w may h = channel_kept (Has g) (λ v x k. k) (λ v x k. k) e.kind e.number _ w h
callees_kept g s (DropsEnd e) w may h = channel_kept (Has g) (λ v x k. k) (λ v x k. k) e.kind e.number _ w h
callees_kept g s (GoesTo control) w may h = h
callees_kept g s (HasStore store) w may h = h
callees_kept g s SpendsUnit w may h = h
callees_kept g s (UsesPicks picks) w may h = h
callees_kept g s TakesItem w may h = h
callees_kept g s BeginsInstance w may h = h
callees_kept g s (AddsEntry i entry) w may h = h
callees_kept g s (MakesSet i set) w may h = h
callees_kept g s (RemovesEntry i index) w may h = h
callees_kept g s (RemovesWaitable i index) w may h = h
callees_kept g s (LeavesSet i index) w may h = h
callees_kept g s (JoinsSet i index set) w may h = h
callees_kept g s (HasBackpressure i backpressure) w may h = h

pub first_has_callees : FirstHasCallees
first_has_callees g = (tt, tt)

pub callees_stay : CalleesStay
callees_stay g s w v labels alone h e = kept_so g s (Has g) (callees_kept g s) w v labels alone h e

-- What is there stays there where more is made.

pub if_map : {A : Type 0} (P Q : A → Type 0) (o : Option A) → ((x : A) → P x → Q x) → IfSome o P → IfSome o Q
if_map P Q None f h = tt
if_map P Q (Some x) f h = f x h

pub type_more : (cores more : List CoreMake) (canons others : List CanonFunc) (f : FuncRef) (type : core.FuncType) → core_type cores canons f ≡ Some type
    → core_type (cores ++ more) (canons ++ others) f ≡ Some type
type_more cores more canons others (func_ref.Instance f) type h =
    let c = then_some (λ (c : CoreMake). type_of_func c.of_module f.index) (slice_get cores f.instance) type h in
    ap (option_and_then (λ (c : CoreMake). type_of_func c.of_module f.index)) (get_front cores more f.instance c.0 c.1) ∙ c.2
type_more cores more canons others (func_ref.Canon number) type h =
    let c = map_some canon_type (slice_get canons number) type h in
    ap (option_map canon_type) (get_front canons others number c.0 c.1) ∙ ap Some c.2

-- the core functions that a lift uses
pub record AreTypes (cores : List CoreMake) (canons : List CanonFunc) (f : Lifted) : Type 0 where
  pub core_is : core_type cores canons f.core ≡ Some (lift_type f.options f.func_type)
  pub post_return : IfSome f.options.post_return (λ r. core_type cores canons r ≡ Some (post_return_type f.func_type))
  pub callback : IfSome f.options.callback (λ r. core_type cores canons r ≡ Some callback_type)

types_more : (cores more : List CoreMake) (canons others : List CanonFunc) (f : Lifted) → AreTypes cores canons f → AreTypes (cores ++ more) (canons ++ others) f
types_more cores more canons others f h = record {
  core_is = type_more cores more canons others f.core _ h.core_is;
  post_return =
      if_map (λ (r : FuncRef). core_type cores canons r ≡ Some (post_return_type f.func_type)) (λ (r : FuncRef). core_type (cores ++ more) (canons ++ others) r ≡ Some (post_return_type f.func_type))
      f.options.post_return (λ r e. type_more cores more canons others r (post_return_type f.func_type) e) h.post_return;
  callback =
      if_map (λ (r : FuncRef). core_type cores canons r ≡ Some callback_type) (λ (r : FuncRef). core_type (cores ++ more) (canons ++ others) r ≡ Some callback_type) f.options.callback
      (λ r e. type_more cores more canons others r callback_type e) h.callback;
}

abbrev lifted_by : FuncType → Lift → Lifted
lifted_by type lift = record { instance = lift.instance; core = lift.core; options = lift.options; func_type = type }

lift_types : (cores : List CoreMake) (canons : List CanonFunc) (type : FuncType) (lift : Lift) → IsLiftThere cores canons type lift → AreTypes cores canons (lifted_by type lift)
lift_types cores canons type lift h = record {
  core_is = h.core;
  post_return =
      if_map (λ (r : FuncRef). (core_type cores canons r ≡ Some (post_return_type type)) × (lift.options.is_async ≡ false)) (λ (r : FuncRef). core_type cores canons r ≡ Some (post_return_type type))
      lift.options.post_return (λ r e. e.0) h.post_return;
  callback =
      if_map (λ (r : FuncRef). (core_type cores canons r ≡ Some callback_type) × (lift.options.is_async ≡ true)) (λ (r : FuncRef). core_type cores canons r ≡ Some callback_type)
      lift.options.callback (λ r e. e.0) h.callback;
}

-- those of canonical functions, and destructors
abbrev pub CanonTypes : List CoreMake → List CanonFunc → CanonFunc → Type 0
CanonTypes cores canons (canon.Lower l) = AreTypes cores canons (lifted_of l)
CanonTypes cores canons (canon.Builtin b) = Unit {0}

canon_types : (cores : List CoreMake) (canons : List CanonFunc) (resources : List Resource) (c : CanonFunc) → IsCanonThere cores canons resources c → CanonTypes cores canons c
canon_types cores canons resources (canon.Lower l) h = lift_types cores canons l.func_type l.lift h.lift
canon_types cores canons resources (canon.Builtin b) h = tt

canon_more : (cores more : List CoreMake) (canons others : List CanonFunc) (c : CanonFunc) → CanonTypes cores canons c → CanonTypes (cores ++ more) (canons ++ others) c
canon_more cores more canons others (canon.Lower l) h = types_more cores more canons others (lifted_of l) h
canon_more cores more canons others (canon.Builtin b) h = tt

destructor_more : (cores more : List CoreMake) (canons others : List CanonFunc) (r : Resource) → IsDestructorThere cores canons r → IsDestructorThere (cores ++ more) (canons ++ others) r
destructor_more cores more canons others r h =
    if_map (λ (f : FuncRef). core_type cores canons f ≡ Some needs.destructor_type) (λ (f : FuncRef). core_type (cores ++ more) (canons ++ others) f ≡ Some needs.destructor_type) r.destructor
    (λ f e. type_more cores more canons others f needs.destructor_type e) h

pub record AllThere (cores : List CoreMake) (canons : List CanonFunc) (resources : List Resource) : Type 0 where
  pub lowers : AllByRecursion (CanonTypes cores canons) canons
  pub destructors : AllByRecursion (IsDestructorThere cores canons) resources

more_there : (cores more : List CoreMake) (canons others : List CanonFunc) (resources : List Resource) → AllThere cores canons resources
    → AllByRecursion (CanonTypes (cores ++ more) (canons ++ others)) canons × AllByRecursion (IsDestructorThere (cores ++ more) (canons ++ others)) resources
more_there cores more canons others resources h = (
  all_as (CanonTypes cores canons) (CanonTypes (cores ++ more) (canons ++ others)) (λ c k. canon_more cores more canons others c k) canons h.lowers,
  all_as (IsDestructorThere cores canons) (IsDestructorThere (cores ++ more) (canons ++ others)) (λ r k. destructor_more cores more canons others r k) resources h.destructors,
)

pub all_there : {cores : List CoreMake} {canons : List CanonFunc} {resources : List Resource} → AreMade cores canons resources → AllThere cores canons resources
all_there none_made = record { lowers = tt; destructors = tt }
all_there (instance_made cores canons resources c made h) =
    let k = more_there cores (c ∷ []) canons [] resources (all_there made) in
    record {
      lowers = subst (λ (cs : List CanonFunc). AllByRecursion (CanonTypes (cores ++ c ∷ []) cs) canons) (append-nil canons) k.0;
      destructors = subst (λ (cs : List CanonFunc). AllByRecursion (IsDestructorThere (cores ++ c ∷ []) cs) resources) (append-nil canons) k.1;
    }
all_there (canon_made cores canons resources f made h) =
    let k = more_there cores [] canons (f ∷ []) resources (all_there made) in
    record {
      lowers =
          subst (λ (cs : List CoreMake). AllByRecursion (CanonTypes cs (canons ++ f ∷ [])) (canons ++ f ∷ [])) (append-nil cores)
          (all_append (CanonTypes (cores ++ []) (canons ++ f ∷ [])) canons (f ∷ []) k.0 (canon_more cores [] canons (f ∷ []) f (canon_types cores canons resources f h), tt));
      destructors = subst (λ (cs : List CoreMake). AllByRecursion (IsDestructorThere cs (canons ++ f ∷ [])) resources) (append-nil cores) k.1;
    }
all_there (resource_made cores canons resources r made h) =
    let k = all_there made in
    record { lowers = k.lowers; destructors = all_append (IsDestructorThere cores canons) resources (r ∷ []) k.destructors (h, tt) }

-- The function that a task runs.

export_types : (g : Graph) → IsUsedGraph g → (name : List ℕ) (f : Lifted) → func_named g name ≡ Some f → AreTypes g.cores g.canons f
export_types g used name f e =
    let n = then_some (func_at g) (first_named name (names g.exports)) f e in
    by n.0 (slice_get g.exports n.0) (slice_get g.lifts n.0) refl refl n.2
  where
    by : (n : ℕ) (e : Option Export) (l : Option Lift) → slice_get g.exports n ≡ e → slice_get g.lifts n ≡ l → lifted_as e l ≡ Some f → AreTypes g.cores g.canons f
    by n None None a b h = cc
    by n None (Some l) a b h = cc
    by n (Some e) None a b h = cc
    by n (Some e) (Some l) a b h =
        let z = zip_at (λ (e : Export) (lift : Lift). IsLiftThere g.cores g.canons e.func_type lift) g.exports g.lifts n e used.lifts a in
        let same : z.0 ≡ l = some_same (sym z.1 ∙ b) in
        subst (AreTypes g.cores g.canons) (some_same h) (lift_types g.cores g.canons e.func_type l (subst (λ (lift : Lift). IsLiftThere g.cores g.canons e.func_type lift) same z.2))

lower_types : (g : Graph) → IsUsedGraph g → (f : Lifted) → IsLowered g f → AreTypes g.cores g.canons f
lower_types g used f h = subst (AreTypes g.cores g.canons) h.3 (all_at (CanonTypes g.cores g.canons) g.canons h.0 (canon.Lower h.1) (all_there used.made).lowers h.2)

pub resource_there : (g : Graph) (resource : ℕ) (r : Resource) → AllByRecursion (IsDestructorThere g.cores g.canons) g.resources → resource_at g resource ≡ Some r → IsDestructorThere g.cores g.canons r
resource_there g zero r h e = cc
resource_there g (suc place) r h e = all_at (IsDestructorThere g.cores g.canons) g.resources place r h e

-- It is lifted from a core function of one i32.
destructor_lift : needs.destructor_type ≡ lift_type no_options destructor_type
destructor_lift = ap (λ (c : List CoreType). needs.core_func (record { params = at_most 16 (c ++ []); results = at_most 1 (flat_payload None) })) (sym u32_flat)

destructor_types : (g : Graph) → IsUsedGraph g → (resource : ℕ) (f : Lifted) → IsDestructor g resource f → AreTypes g.cores g.canons f
destructor_types g used resource f h =
    let there : IsDestructorThere g.cores g.canons h.0 = resource_there g resource h.0 (all_there used.made).destructors h.2 in
    let core_is : core_type g.cores g.canons h.1 ≡ Some needs.destructor_type = subst (λ (o : Option FuncRef). IfSome o (λ f. core_type g.cores g.canons f ≡ Some needs.destructor_type)) h.3 there in
    subst (AreTypes g.cores g.canons) h.4 (record { core_is = core_is ∙ ap (λ (t : core.FuncType). Some t) destructor_lift; post_return = tt; callback = tt })

pub callee_types : (g : Graph) → IsUsedGraph g → (callee : Callee) (f : Lifted) → IsOfGraph g callee → func_of callee ≡ Some f → AreTypes g.cores g.canons f
callee_types g used Init f h e = cc
callee_types g used (Func x) f (inl h) e = subst (AreTypes g.cores g.canons) (some_same e) (export_types g used h.0 x h.1)
callee_types g used (Func x) f (inr h) e = subst (AreTypes g.cores g.canons) (some_same e) (lower_types g used x h)
callee_types g used (Destroys resource x) f h e = subst (AreTypes g.cores g.canons) (some_same e) (destructor_types g used resource x h)

-- Core functions in the store.

pub core_there : (g : Graph) (s : Store) (f : FuncRef) (type : core.FuncType) → HasCanons g s → WereMade s g.cores → core_type g.cores g.canons f ≡ Some type → CoreThere s f type
core_there g s (func_ref.Canon number) type canons made h =
    let c = map_some canon_type (slice_get g.canons number) type h in
    record { address = number; function = HostFunction (canon_type c.0); at = refl; there = canons number c.0 c.1; of_type = c.2 }
core_there g s (func_ref.Instance f) type canons made h =
    let c = then_some (λ (c : CoreMake). type_of_func c.of_module f.index) (slice_get g.cores f.instance) type h in
    let i = made.each f.instance c.0 c.1 in
    let p = i.2.has.funcs f.index type c.2 in
    let there = found_there s.funcs (slice_get i.0.funcs f.index) p.0 p.1 in
    record {
      address = p.0.0;
      function = p.0.1;
      at = ap (option_and_then (λ (x : Instance). slice_get x.funcs f.index)) i.1 ∙ there.0;
      there = there.1;
      of_type = p.2;
    }

pub functions_are_there : FunctionsAreThere
functions_are_there g s tasks t task f used canons made callees there runs =
    let h : AreTypes g.cores g.canons f = callee_types g used task.callee f (all_at (λ (x : Task). IsOfGraph g x.callee) tasks t task callees there) runs in
    record {
      core = core_there g s f.core (lift_type f.options f.func_type) canons made h.core_is;
      post_return =
          if_map (λ (r : FuncRef). core_type g.cores g.canons r ≡ Some (post_return_type f.func_type)) (λ (r : FuncRef). CoreThere s r (post_return_type f.func_type)) f.options.post_return
          (λ r e. core_there g s r (post_return_type f.func_type) canons made e) h.post_return;
      callback =
          if_map (λ (r : FuncRef). core_type g.cores g.canons r ≡ Some callback_type) (λ (r : FuncRef). CoreThere s r callback_type) f.options.callback
          (λ r e. core_there g s r callback_type canons made e) h.callback;
    }

pub destructors_are_there : DestructorsAreThere
destructors_are_there g s number r used canons made e =
    if_map (λ (f : FuncRef). core_type g.cores g.canons f ≡ Some needs.destructor_type) (λ (f : FuncRef). CoreThere s f needs.destructor_type) r.destructor
    (λ f h. core_there g s f needs.destructor_type canons made h) (resource_there g number r (all_there used.made).destructors e)
