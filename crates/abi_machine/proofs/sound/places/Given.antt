-- In each world that a run reaches what is lowered asks for places only where a function gives them.
use Rattle.std.proofs.Common.{◌≡◌, ◌∙◌, ◌≤◌, ◌⊎◌, inl, inr, ℕ, true, List, [], ◌∷◌, refl, sym, ap, subst, arith, Some}
use Rattle.std.specs.List.{slice_get}
use Rattle.wasm_store.proofs.Lists.{all_at}
use Rattle.comp_graph.specs.Graph.{Graph, Lifted}
use Rattle.script_reader.specs.Script.{Script}
use Rattle.trace_labels.specs.declared.label.Label.{Label}
use Rattle.abi_machine.specs.Control.{Lowering, Control, Free, Chosen, Instantiates, Runs, Arrives, Lowers, Quiet, Back, Goes as GoesOn, Resumes, Delivers, Leaves, Doomed}
use Rattle.abi_machine.specs.Control as control
use Rattle.abi_machine.specs.World.{TaskState, New, Acting, AfterCall, AfterCancel, Begins, WaitsToEnter, InLoop, InBuiltin, Exited, Task, World, first_world}
use Rattle.abi_machine.specs.Edits.{with_control}
use Rattle.abi_machine.specs.Reading.{acting, func_of, has_exited, table_of, is_instantiated}
use Rattle.abi_machine.specs.Turn.{Steps}
use Rattle.abi_machine.specs.Next.{next}
use Rattle.abi_machine.specs.Run.{Reaches}
use Rattle.abi_machine.specs.sound.Changes.{IsFirst}
use Rattle.abi_machine.specs.sound.Initial.{IsInitial, RunsAlone}
use Rattle.abi_machine.specs.sound.Owners.{IsApart}
use Rattle.abi_machine.specs.sound.GraphFuncs.{IsOfGraph}
use Rattle.abi_machine.specs.sound.MadeInstances.{IsTypedGraph}
use Rattle.abi_machine.specs.sound.Callees.{IsUsedGraph}
use Rattle.abi_machine.specs.sound.Starting.{IsDoomed}
use Rattle.abi_machine.specs.sound.Scripts.{IsScriptFor, IsFedStill}
use Rattle.abi_machine.specs.sound.Fitting.{FitsCall, CallsFit, CopiesFit}
use Rattle.abi_machine.specs.sound.Places.{AsksWhere, AsksWell, PlacesAreGiven, IsCoreFed, PlacesGoOn}
use Rattle.abi_machine.specs.sound.GoingOn.{AsksAt, AsksOf}
use Rattle.abi_machine.specs.LoweringOver.{Plan}
use Rattle.abi_machine.specs.Pausing.{Paused, Words, Failed, Asked, settle}
use Rattle.abi_machine.specs.Canons.{bytes_of}
use Rattle.std.specs.Prelude.{IsSome}
use Rattle.abi_machine.proofs.sound.Found.{some_same, acting_first, acting_is, acting_func}
use Rattle.abi_machine.proofs.sound.Alone.{runs_later}
use Rattle.abi_machine.proofs.sound.Functions.{AllMade, Kept as HasMade, first_kept, kept_on}
use Rattle.abi_machine.proofs.sound.Fitted.{first_fits, calls_stay_fit, copies_stay_fit}
use Rattle.abi_machine.proofs.sound.Scripted.{scripts_go_on}
use Rattle.abi_machine.proofs.sound.typed.Starting.{doomed_ends}
use Rattle.abi_machine.proofs.sound.places.Plans.{PausesWhere, settled_asks}
use Rattle.abi_machine.proofs.sound.places.Passing.{GoesWell, HasGivers}
use Rattle.abi_machine.proofs.sound.places.Moving.{IsKnownIn}
use Rattle.abi_machine.proofs.sound.places.Givers.{has_givers}
use Rattle.abi_machine.proofs.sound.places.Answering.{each_so}

-- Where the acting task runs a function all is instantiated.
pub runs_done : (w : World) (a : ℕ × Task) (f : Lifted) → RunsAlone w → acting w ≡ Some a → func_of a.1.callee ≡ Some f → is_instantiated w.tasks ≡ true
runs_done w a f alone e runs = by alone.0.init.state refl alone.0.alone
  where
    late : 1 ≤ a.0
    late = runs_later w.tasks w.chain alone.0 a.0 (acting_func w a f e runs)

    first : IsFirst a.0 w.chain
    first = acting_first w a e

    not_alone : {P : Type 0} → w.chain ≡ 0 ∷ [] → P
    not_alone one = absurd (let same : 0 ≡ a.0 = some_same (sym (ap (λ (l : List ℕ). slice_get l 0) one) ∙ first) in omega (arith, same, late))

    exited : (tasks : List Task) (init : Task) → slice_get tasks 0 ≡ Some init → init.state ≡ Exited → is_instantiated tasks ≡ true
    exited [] init there is = cc
    exited (x ∷ tasks) init there is = ap has_exited (ap (λ (y : Task). y.state) (some_same there) ∙ is)

    by : (state : TaskState) → alone.0.init.state ≡ state → IsInitial state w.chain → is_instantiated w.tasks ≡ true
    by Acting is one = not_alone one
    by (Begins n) is one = not_alone one
    by Exited is others = exited w.tasks alone.0.init alone.0.there is
    by New is none = absurd none
    by (AfterCall callee number words) is none = absurd none
    by (AfterCancel callee number words) is none = absurd none
    by WaitsToEnter is none = absurd none
    by (InLoop said) is none = absurd none
    by (InBuiltin number words wait) is none = absurd none

record Kept (g : Graph) (w : World) : Type 0 where
  made : HasMade g w
  calls : CallsFit g w.tasks
  copies : CopiesFit g w.streams w.futures
  asks : AsksWell w.control

first_given : (g : Graph) → IsApart g → IsTypedGraph g → Kept g (first_world g)
first_given g apart sound = record { made = first_kept g apart sound; calls = (first_fits g).0; copies = (first_fits g).1; asks = tt }

module _ (g : Graph) (s : Script) (w v : World) (labels : List Label) (apart : IsApart g) (sound : IsTypedGraph g) (used : IsUsedGraph g) (fits : IsScriptFor g s) (h : Kept g w) (e : next g s w ≡ Steps labels v) where
  givers : is_instantiated w.tasks ≡ true → HasGivers g w.store
  givers done = by (h.made.then_made done)
    where
      by : IsDoomed w.control ⊎ AllMade g w.store → HasGivers g w.store
      by (inl doomed) = absurd (doomed_ends g s w v labels doomed e)
      by (inr made) = has_givers g w.store used made

  known : (a : ℕ × Task) → acting w ≡ Some a → IsKnownIn g w.store a.1
  known a i f runs = (
    givers (runs_done w a f h.made.alone i runs),
    (
      all_at (λ (x : Task). FitsCall g x.callee x.caller) w.tasks a.0 a.1 h.calls (acting_is w a i),
      all_at (λ (x : Task). IsOfGraph g x.callee) w.tasks a.0 a.1 h.made.callees (acting_is w a i),
    ),
  )

  given_on : Kept g v
  given_on = record {
    made = kept_on g s w v labels apart sound h.made e;
    calls = calls_stay_fit g s w v labels fits h.made.alone h.calls e;
    copies = copies_stay_fit g s w v labels h.made.alone h.copies e;
    asks = subst GoesWell e (each_so g s (with_control Free w) w.control givers h.copies known h.asks);
  }

given_from : (g : Graph) (s : Script) (steps : List (List Label)) (w v : World) → IsApart g → IsTypedGraph g → IsUsedGraph g → IsScriptFor g s → Kept g w → Reaches g s w steps v → Kept g v
given_from g s [] w v apart sound used fits h r = subst (Kept g) (sym r) h
given_from g s (labels ∷ steps) w v apart sound used fits h r = given_from g s steps r.0 v apart sound used fits (given_on g s w r.0 labels apart sound used fits h r.1) r.2

pub places_are_given : PlacesAreGiven
places_are_given g s steps w apart sound used fits r = (given_from g s steps (first_world g) w apart sound used fits (first_given g apart sound) r).asks

-- So a function is given where a lowering asks for a place.
at_given : (l : Lowering) (p : Paused) → PausesWhere (IsSome l.realloc) p → AsksAt l p
at_given l (Words words) h = tt
at_given l (Failed why) h = tt
at_given l (Asked ask k) h = h.0

asks_given : (l : Lowering) (plan : Plan) (w : World) → AsksWhere (IsSome l.realloc) plan → AsksOf l plan w
asks_given l plan w h = at_given l (settle l.acts_for plan (bytes_of w.store l.memory) (table_of w l.inst)).paused (settled_asks (IsSome l.realloc) l.acts_for plan (bytes_of w.store l.memory) (table_of w l.inst) h)

fed_given : (c : Control) (w : World) → AsksWell c → IsCoreFed c w → IsFedStill c w
fed_given (Lowers l plan) w h fed = asks_given l plan w h
fed_given Free w h fed = tt
fed_given (Chosen k) w h fed = tt
fed_given (Instantiates n) w h fed = tt
fed_given Runs w h fed = fed
fed_given (control.Calls number words) w h fed = tt
fed_given Arrives w h fed = tt
fed_given (Quiet n b) w h fed = fed
fed_given Back w h fed = tt
fed_given GoesOn w h fed = tt
fed_given Resumes w h fed = tt
fed_given (Delivers set receiver pick) w h fed = tt
fed_given Leaves w h fed = tt
fed_given (Doomed t why) w h fed = tt

pub places_go_on : PlacesGoOn
places_go_on g s steps w apart sound used fits r fed =
    scripts_go_on g s steps w apart sound used fits r (λ done. fed_given w.control (with_control Free w) (places_are_given g s steps w apart sound used fits r) (fed done))
