-- Once all is instantiated core functions are in the store, and so of what rules look up little is left.
use Rattle.std.proofs.Common.{◌≡◌, ◌≤◌, ◌⊎◌, inl, inr, ℕ, zero, suc, Bool, true, false, List, [], ◌∷◌, ◌++◌, refl, sym, ap, ◌∙◌, subst, arith, Option, Some, None}
use Rattle.std.specs.Prelude.{IsSome}
use Rattle.std.specs.List.{slice_get, AllByRecursion}
use Rattle.std.specs.Option.{option_map, option_and_then}
use Rattle.wasm_store.proofs.Lists.{all_at, all_append}
use Rattle.syntax_trees.specs.declared.module_types.FuncType.{FuncType}
use Rattle.wasm_store.specs.Store.{Function, Instance, Store, found_at}
use Rattle.builtin_kinds.specs.declared.ResourceOp.TheVariants as resource_op
use Rattle.comp_graph.specs.declared.graph.BuiltinKind.{BuiltinKind}
use Rattle.comp_graph.specs.declared.graph.BuiltinKind.TheVariants as builtin
use Rattle.comp_graph.specs.declared.graph.CanonFunc.{CanonFunc}
use Rattle.comp_graph.specs.declared.graph.CanonFunc.TheVariants as canon
use Rattle.comp_graph.specs.declared.graph.FuncRef.{FuncRef}
use Rattle.comp_graph.specs.declared.graph.FuncRef.TheVariants as func_ref
use Rattle.comp_graph.specs.declared.graph.Resource.{Resource}
use Rattle.comp_graph.specs.Needs as needs
use Rattle.comp_graph.specs.Needs.{lift_type}
use Rattle.comp_graph.specs.Graph.{CoreMake, Graph, Lifted, core_type, IsCanonThere, IsBuiltinThere, AreMade, none_made, instance_made, canon_made, resource_made}
use Rattle.script_reader.specs.Script.{Script}
use Rattle.trace_labels.specs.declared.label.Label.{Label}
use Rattle.abi_machine.specs.Control.{Control, Free, Chosen, Instantiates, Runs, Arrives, Lowers, Quiet, Back, Goes as GoesOn, Resumes, Delivers, Leaves, Doomed}
use Rattle.abi_machine.specs.Control as control
use Rattle.abi_machine.specs.World.{Task, World, first_world}
use Rattle.abi_machine.specs.Edits.{with_control}
use Rattle.abi_machine.specs.Canons.{func_address, resource_at}
use Rattle.abi_machine.specs.Reading.{func_of, is_instantiated}
use Rattle.abi_machine.specs.Turn.{Steps}
use Rattle.abi_machine.specs.Next.{next}
use Rattle.abi_machine.specs.Run.{Reaches}
use Rattle.abi_machine.specs.sound.Changes.{IsFirst}
use Rattle.abi_machine.specs.sound.Controls.{Says}
use Rattle.abi_machine.specs.sound.Initial.{RunsAlone}
use Rattle.abi_machine.specs.sound.Acting.{IsOrdered}
use Rattle.abi_machine.specs.sound.Owners.{IsApart, HasCanons, IsOwnWorld, IsControlOwn}
use Rattle.abi_machine.specs.sound.Numbers.{IsCalledAs}
use Rattle.abi_machine.specs.sound.GraphFuncs.{IsOfGraph, HaveCallees}
use Rattle.abi_machine.specs.sound.MadeInstances.{IsTypedGraph, WereMade}
use Rattle.abi_machine.specs.sound.Callees.{IsUsedGraph}
use Rattle.abi_machine.specs.sound.TypedStacks.{IsTyped}
use Rattle.abi_machine.specs.sound.GoingOn.{HasNext, IsFuncThere, AreFuncsThere, HaveFuncs, IsResourceThere, NamesResource, NamesThere, IsFed, IsStanding}
use Rattle.abi_machine.specs.sound.Starting.{IsDoomed}
use Rattle.abi_machine.specs.sound.Functions.{HaveDestructors, ReachedFunctions, IsFedThen, UsedGoOn}
use Rattle.abi_machine.proofs.sound.Lists.{all_as, get_front}
use Rattle.abi_machine.proofs.sound.Found.{some_same}
use Rattle.abi_machine.proofs.sound.Alone.{acts_later, first_runs_alone, stays_alone}
use Rattle.abi_machine.proofs.sound.Started.{stays_started}
use Rattle.abi_machine.proofs.sound.Later.{code_stays}
use Rattle.abi_machine.proofs.sound.Ordered.{first_ordered, order_stays}
use Rattle.abi_machine.proofs.sound.own.Tasks.{HasSameCode}
use Rattle.abi_machine.proofs.sound.Owning.{first_is_own, own_stays}
use Rattle.abi_machine.proofs.sound.Callees.{AreTypes, callee_types, all_there, resource_there, core_there, if_map, first_has_callees, callees_stay}
use Rattle.abi_machine.proofs.sound.typed.Starting.{Phase, phase_goes, first_phase, doomed_ends, doomed_fed, starts_go_on}
use Rattle.abi_machine.proofs.sound.Reached.{reached_stand, reached_go_on}

-- Each core function of the graph is in a store.
abbrev pub AllMade : Graph → Store → Type 0
AllMade g s = (f : FuncRef) (type : FuncType) → core_type g.cores g.canons f ≡ Some type → IsFuncThere s f

found_some : {A : Type 0} (xs : List A) (o : Option ℕ) (n : ℕ) (x : A) → o ≡ Some n → slice_get xs n ≡ Some x → IsSome (found_at xs o)
found_some xs None n x e there = cc
found_some {A} xs (Some m) n x e there = by (slice_get xs m) (ap (λ (i : ℕ). slice_get xs i) (some_same e) ∙ there)
  where
    by : (p : Option A) → p ≡ Some x → IsSome (option_map (λ (y : A). (let q : ℕ × A = (m, y) in q)) p)
    by None k = cc
    by (Some y) k = refl

all_made : (g : Graph) (s : Store) → HasCanons g s → WereMade s g.cores → AllMade g s
all_made g s canons made f type e = (let c = core_there g s f type canons made e in found_some s.funcs (func_address s f) c.address c.function c.at c.there)

-- So it is in a store of the same code.
made_same : (s t : Store) (f : FuncRef) → HasSameCode s t → IsFuncThere s f → IsFuncThere t f
made_same s t (func_ref.Canon number) same h = subst (λ (fs : List Function). IsSome (found_at fs (Some number))) (sym same.0) h
made_same s t (func_ref.Instance f) same h =
    subst (λ (fs : List Function). IsSome (found_at fs (func_address t (func_ref.Instance f)))) (sym same.0)
    (subst (λ (is : List Instance). IsSome (found_at s.funcs (option_and_then (λ (i : Instance). slice_get i.funcs f.index) (slice_get is f.instance)))) (sym same.1) h)

-- What is kept in each step.
pub record Kept (g : Graph) (w : World) : Type 0 where
  pub alone : RunsAlone w
  pub ordered : IsOrdered w
  pub own : IsOwnWorld g w
  pub says : IsControlOwn g w.control w
  pub callees : HaveCallees g w.tasks
  pub before : is_instantiated w.tasks ≡ false → Phase g w
  pub then_made : is_instantiated w.tasks ≡ true → IsDoomed w.control ⊎ AllMade g w.store

pub first_kept : (g : Graph) → IsApart g → IsTypedGraph g → Kept g (first_world g)
first_kept g apart sound = record {
  alone = first_runs_alone g;
  ordered = first_ordered g;
  own = (first_is_own g apart).0;
  says = (first_is_own g apart).1;
  callees = first_has_callees g;
  before = λ yet. first_phase g sound;
  then_made = λ done. cc;
}

module _ (g : Graph) (s : Script) (w v : World) (labels : List Label) (apart : IsApart g) (sound : IsTypedGraph g) (h : Kept g w) (e : next g s w ≡ Steps labels v) where
  phase_then : is_instantiated w.tasks ≡ false → Phase g v
  phase_then yet = phase_goes g s w v labels sound h.alone h.ordered yet (h.before yet) e

  made_typed : IsTyped g v → is_instantiated v.tasks ≡ true → AllMade g v.store
  made_typed typed done = all_made g v.store typed.canons (typed.made done)

  made_of : Phase g v → is_instantiated v.tasks ≡ true → IsDoomed v.control ⊎ AllMade g v.store
  made_of (inl doomed) done = inl doomed
  made_of (inr typed) done = inr (made_typed typed.0 done)

  made_still : is_instantiated w.tasks ≡ true → IsDoomed w.control ⊎ AllMade g w.store → IsDoomed v.control ⊎ AllMade g v.store
  made_still done (inl doomed) = absurd (doomed_ends g s w v labels doomed e)
  made_still done (inr made) =
      inr (let same : HasSameCode w.store v.store = code_stays g s w v labels apart h.alone h.ordered h.own h.says done e in λ f type k. made_same w.store v.store f same (made f type k))

  made_then : is_instantiated v.tasks ≡ true → IsDoomed v.control ⊎ AllMade g v.store
  made_then now = by (is_instantiated w.tasks) refl
    where
      by : (b : Bool) → is_instantiated w.tasks ≡ b → IsDoomed v.control ⊎ AllMade g v.store
      by true done = made_still done (h.then_made done)
      by false yet = made_of (phase_then yet) now

  phase_still : is_instantiated v.tasks ≡ false → Phase g v
  phase_still not_yet = by (is_instantiated w.tasks) refl
    where
      by : (b : Bool) → is_instantiated w.tasks ≡ b → Phase g v
      by true done = absurd (let clash : true ≡ false = sym (stays_started g s w v labels h.alone done e) ∙ not_yet in let none : ⊥ = cc in none)
      by false yet = phase_then yet

  pub kept_on : Kept g v
  kept_on =
      let own = own_stays g s w v labels apart h.alone h.ordered h.own h.says e in
      record {
        alone = stays_alone g s w v labels h.alone e;
        ordered = order_stays g s w v labels h.alone h.ordered e;
        own = own.0;
        says = own.1;
        callees = callees_stay g s w v labels h.alone h.callees e;
        before = phase_still;
        then_made = made_then;
      }

kept_from : (g : Graph) (s : Script) (steps : List (List Label)) (w v : World) → IsApart g → IsTypedGraph g → Kept g w → Reaches g s w steps v → Kept g v
kept_from g s [] w v apart sound h r = subst (Kept g) (sym r) h
kept_from g s (labels ∷ steps) w v apart sound h r = kept_from g s steps r.0 v apart sound (kept_on g s w r.0 labels apart sound h r.1) r.2

reached_kept : (g : Graph) (s : Script) (steps : List (List Label)) (w : World) → IsApart g → IsTypedGraph g → Reaches g s (first_world g) steps w → Kept g w
reached_kept g s steps w apart sound r = kept_from g s steps (first_world g) w apart sound (first_kept g apart sound) r

-- Functions that tasks run, and destructors.
funcs_there : (g : Graph) (s : Store) (f : Lifted) → AreTypes g.cores g.canons f → AllMade g s → AreFuncsThere s f
funcs_there g s f types made = record {
  core = made f.core (lift_type f.options f.func_type) types.core_is;
  post_return = if_map (λ (r : FuncRef). core_type g.cores g.canons r ≡ Some (needs.post_return_type f.func_type)) (IsFuncThere s) f.options.post_return (λ r e. made r (needs.post_return_type f.func_type) e) types.post_return;
  callback = if_map (λ (r : FuncRef). core_type g.cores g.canons r ≡ Some needs.callback_type) (IsFuncThere s) f.options.callback (λ r e. made r needs.callback_type e) types.callback;
}

have_funcs : (g : Graph) (s : Store) (tasks : List Task) → IsUsedGraph g → HaveCallees g tasks → AllMade g s → HaveFuncs s tasks
have_funcs g s tasks used callees made t task f there runs =
    funcs_there g s f (callee_types g used task.callee f (all_at (λ (x : Task). IsOfGraph g x.callee) tasks t task callees there) runs) made

have_destructors : (g : Graph) (s : Store) → IsUsedGraph g → AllMade g s → HaveDestructors g s
have_destructors g s used made number r e =
    if_map (λ (f : FuncRef). core_type g.cores g.canons f ≡ Some needs.destructor_type) (IsFuncThere s) r.destructor (λ f k. made f needs.destructor_type k)
    (resource_there g number r (all_there used.made).destructors e)

pub reached_functions : ReachedFunctions
reached_functions g s steps w apart sound used r done = by (h.then_made done)
  where
    h : Kept g w
    h = reached_kept g s steps w apart sound r

    by : IsDoomed w.control ⊎ AllMade g w.store → IsDoomed w.control ⊎ (HaveFuncs w.store w.tasks × HaveDestructors g w.store)
    by (inl doomed) = inl doomed
    by (inr made) = inr (have_funcs g w.store w.tasks used h.callees made, have_destructors g w.store used made)

-- The resources of which handles are dropped.

abbrev DropsKind : List Resource → BuiltinKind → Type 0
DropsKind resources (builtin.Resource resource_op.Drop number) = (place : ℕ) × (number ≡ suc place) × IsSome (slice_get resources place)
DropsKind resources kind = Unit {0}

abbrev Drops : List Resource → CanonFunc → Type 0
Drops resources (canon.Lower l) = Unit {0}
Drops resources (canon.Builtin b) = DropsKind resources b.kind

some_more : (resources : List Resource) (r : Resource) (place : ℕ) → IsSome (slice_get resources place) → IsSome (slice_get (resources ++ r ∷ []) place)
some_more resources r place h = by (slice_get resources place) refl h
  where
    by : (o : Option Resource) → slice_get resources place ≡ o → IsSome o → IsSome (slice_get (resources ++ r ∷ []) place)
    by None e k = cc
    by (Some x) e k = subst (λ (o : Option Resource). IsSome o) (sym (get_front resources r place x e)) refl

kind_more : (resources : List Resource) (r : Resource) (kind : BuiltinKind) → DropsKind resources kind → DropsKind (resources ++ r ∷ []) kind
kind_more resources r (builtin.Resource resource_op.Drop number) h = (h.0, h.1, some_more resources r h.0 h.2)
kind_more resources r (builtin.Resource resource_op.New number) h = tt
kind_more resources r (builtin.Resource resource_op.Rep number) h = tt
kind_more resources r (builtin.TaskReturn result options) h = tt
kind_more resources r (builtin.Plain op) h = tt
kind_more resources r (builtin.Context op slot) h = tt
kind_more resources r (builtin.Wait op cancellable memory) h = tt
kind_more resources r (builtin.End of_what element op) h = tt

drops_more : (resources : List Resource) (r : Resource) (c : CanonFunc) → Drops resources c → Drops (resources ++ r ∷ []) c
drops_more resources r (canon.Lower l) h = tt
drops_more resources r (canon.Builtin b) h = kind_more resources r b.kind h

kind_drops : (cores : List CoreMake) (canons : List CanonFunc) (resources : List Resource) (instance : ℕ) (kind : BuiltinKind) → IsBuiltinThere cores canons resources instance kind → DropsKind resources kind
kind_drops cores canons resources instance (builtin.Resource resource_op.Drop number) h = h
kind_drops cores canons resources instance (builtin.Resource resource_op.New number) h = tt
kind_drops cores canons resources instance (builtin.Resource resource_op.Rep number) h = tt
kind_drops cores canons resources instance (builtin.TaskReturn result options) h = tt
kind_drops cores canons resources instance (builtin.Plain op) h = tt
kind_drops cores canons resources instance (builtin.Context op slot) h = tt
kind_drops cores canons resources instance (builtin.Wait op cancellable memory) h = tt
kind_drops cores canons resources instance (builtin.End of_what element op) h = tt

canon_drops : (cores : List CoreMake) (canons : List CanonFunc) (resources : List Resource) (c : CanonFunc) → IsCanonThere cores canons resources c → Drops resources c
canon_drops cores canons resources (canon.Lower l) h = tt
canon_drops cores canons resources (canon.Builtin b) h = kind_drops cores canons resources b.instance b.kind h

all_drop : {cores : List CoreMake} {canons : List CanonFunc} {resources : List Resource} → AreMade cores canons resources → AllByRecursion (Drops resources) canons
all_drop none_made = tt
all_drop (instance_made cores canons resources c made h) = all_drop made
all_drop (canon_made cores canons resources f made h) = all_append (Drops resources) canons (f ∷ []) (all_drop made) (canon_drops cores canons resources f h, tt)
all_drop (resource_made cores canons resources r made h) = all_as (Drops resources) (Drops (resources ++ r ∷ [])) (drops_more resources r) canons (all_drop made)

resource_dropped : (g : Graph) (s : Store) (number : ℕ) → HaveDestructors g s → (place : ℕ) × (number ≡ suc place) × IsSome (slice_get g.resources place) → IsResourceThere g s number
resource_dropped g s number destructors h = by (slice_get g.resources h.0) refl h.2
  where
    by : (o : Option Resource) → slice_get g.resources h.0 ≡ o → IsSome o → IsResourceThere g s number
    by None e k = cc
    by (Some r) e k = (let at : resource_at g number ≡ Some r = ap (resource_at g) h.1 ∙ e in (r, at, destructors number r at))

kind_named : (g : Graph) (s : Store) (kind : BuiltinKind) → HaveDestructors g s → DropsKind g.resources kind → NamesResource g s kind
kind_named g s (builtin.Resource resource_op.Drop number) destructors h = resource_dropped g s number destructors h
kind_named g s (builtin.Resource resource_op.New number) destructors h = tt
kind_named g s (builtin.Resource resource_op.Rep number) destructors h = tt
kind_named g s (builtin.TaskReturn result options) destructors h = tt
kind_named g s (builtin.Plain op) destructors h = tt
kind_named g s (builtin.Context op slot) destructors h = tt
kind_named g s (builtin.Wait op cancellable memory) destructors h = tt
kind_named g s (builtin.End of_what element op) destructors h = tt

canon_named : (g : Graph) (s : Store) (c : CanonFunc) → HaveDestructors g s → Drops g.resources c → NamesThere g s c
canon_named g s (canon.Lower l) destructors h = tt
canon_named g s (canon.Builtin b) destructors h = kind_named g s b.kind destructors h

-- What is left is fed.

none_some : (o : Option Lifted) → o ≡ None → IsSome o → ⊥
none_some None e h = cc
none_some (Some f) e h = cc

-- a task that acts once all is instantiated runs a function
acting_runs : (g : Graph) (s : Script) (w : World) → IsStanding g s w → is_instantiated w.tasks ≡ true → (t : ℕ) (task : Task) → IsFirst t w.chain → slice_get w.tasks t ≡ Some task → func_of task.callee ≡ None → ⊥
acting_runs g s w h done t task first there none = by t (acts_later w.tasks w.chain h.alone.0 t first done) (h.numbered.called t task there)
  where
    by : (n : ℕ) → 1 ≤ n → IsCalledAs n task → ⊥
    by zero late called = omega (arith, late)
    by (suc n) late called = none_some (func_of task.callee) none called.0

fed_then : (g : Graph) (s : Script) (w : World) → IsUsedGraph g → IsStanding g s w → is_instantiated w.tasks ≡ true → HaveFuncs w.store w.tasks → HaveDestructors g w.store → (c : Control) → w.control ≡ c → IsFedThen g s c (with_control Free w)
    → IsFed g s c (with_control Free w)
fed_then g s w used h done funcs destructors Free is fed = fed
fed_then g s w used h done funcs destructors (Chosen k) is fed = fed
fed_then g s w used h done funcs destructors (Instantiates n) is fed =
    let one : w.chain ≡ 0 ∷ [] = subst (λ (c : Control). Says c w.chain) is h.alone.1 in
    absurd (let late : 1 ≤ 0 = acts_later w.tasks w.chain h.alone.0 0 (ap (λ (l : List ℕ). slice_get l 0) one) done in omega (arith, late))
fed_then g s w used h done funcs destructors Runs is fed = (fed, funcs)
fed_then g s w used h done funcs destructors (control.Calls number words) is fed = record {
  made = λ t task first there none. absurd (acting_runs g s w h done t task first there none);
  names = λ free c at. canon_named g w.store c destructors (all_at (Drops g.resources) g.canons number c (all_drop used.made) at);
}
fed_then g s w used h done funcs destructors Arrives is fed = tt
fed_then g s w used h done funcs destructors (Lowers l plan) is fed = (fed, funcs)
fed_then g s w used h done funcs destructors (Quiet n b) is fed = fed
fed_then g s w used h done funcs destructors Back is fed = tt
fed_then g s w used h done funcs destructors GoesOn is fed = tt
fed_then g s w used h done funcs destructors Resumes is fed = funcs
fed_then g s w used h done funcs destructors (Delivers set receiver pick) is fed = funcs
fed_then g s w used h done funcs destructors Leaves is fed = tt
fed_then g s w used h done funcs destructors (Doomed t why) is fed = tt

pub used_go_on : UsedGoOn
used_go_on g s steps w apart sound used r fed = by (is_instantiated w.tasks) refl
  where
    later : is_instantiated w.tasks ≡ true → IsDoomed w.control ⊎ (HaveFuncs w.store w.tasks × HaveDestructors g w.store) → HasNext (next g s w)
    later done (inl doomed) = reached_go_on g s steps w apart r (doomed_fed g s w.control (with_control Free w) doomed)
    later done (inr funcs) = reached_go_on g s steps w apart r (fed_then g s w used (reached_stand g s steps w apart r) done funcs.0 funcs.1 w.control refl (fed done))

    by : (b : Bool) → is_instantiated w.tasks ≡ b → HasNext (next g s w)
    by true done = later done (reached_functions g s steps w apart sound used r done)
    by false yet = starts_go_on g s steps w apart sound r yet
