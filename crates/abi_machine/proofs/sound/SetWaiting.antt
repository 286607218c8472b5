-- Tasks wait on sets that are there, and so they do in every step.
use Rattle.std.proofs.Common.{◌≡◌, inl, inr, ℕ, zero, suc, true, ◌&&◌, nat_eq, List, [], ◌∷◌, ◌++◌, length, refl, sym, ap, ◌∙◌, subst, Option, Some, None}
use Rattle.std.specs.List.{slice_get}
use Rattle.wasm_store.proofs.Lists.{all_at}
use Rattle.handle_table.specs.History.{Event, IsHistory, live}
use Rattle.tasks.specs.declared.phase.Resolution.TheVariants.{Cancelled}
use Rattle.comp_graph.specs.Graph.{Graph, Lifted}
use Rattle.script_reader.specs.Script.{Script}
use Rattle.abi_machine.specs.World.{Entry, OfSet, Inst, Host, Guest, ForSet, TaskState, New, Acting, AfterCall, AfterCancel, InBuiltin, Exited, Task, World, new_inst, new_task}
use Rattle.abi_machine.specs.World as world
use Rattle.abi_machine.specs.Edits.{changed_at}
use Rattle.abi_machine.specs.Reading.{table_in, entry_at, func_of, runs_in}
use Rattle.abi_machine.specs.Counting.{waits_on}
use Rattle.abi_machine.specs.sound.Changes.{Change, GoesTo, HasStore, SpendsUnit, UsesPicks, TakesItem, BeginsInstance, AddsEntry, MakesSet, RemovesEntry, RemovesWaitable, LeavesSet, JoinsSet, HasBackpressure, IsCalled, Calls, ComesBack, Acts, Begins, Cancels, Blocks, Exits, IsRemoved, Resolves, IsCancelled, HasWord, HasNewStack, HasStack, LosesStack, IsAnswered, IsTold, IsLent, HasResult, MakesChannel, Offers, Transfers, Concludes, DropsEnd, after, MayCome}
use Rattle.abi_machine.specs.sound.Tables.{HaveHistories}
use Rattle.abi_machine.specs.sound.Acting.{Outline, outline_of}
use Rattle.abi_machine.specs.sound.Loops.{HasSetAt}
use Rattle.abi_machine.specs.sound.Owners.{owner_of_canon, CallsOwn, IsOwnWorld}
use Rattle.abi_machine.specs.sound.SetWaits.{WaitsOnSet, HaveSets, FirstHasSets, SetsStay}
use Rattle.abi_machine.proofs.sound.Lists.{more_either, get_front}
use Rattle.abi_machine.proofs.sound.Found.{some_same}
use Rattle.abi_machine.proofs.sound.Aside.{channel_kept, made_kept}
use Rattle.abi_machine.proofs.sound.Chained.{no_first, changed_here}
use Rattle.abi_machine.proofs.sound.Outlines.{outline_there, is_what}
use Rattle.abi_machine.proofs.sound.Histories.{histories_kept}
use Rattle.abi_machine.proofs.sound.Joined.{live_added, live_removed}
use Rattle.abi_machine.proofs.sound.Holding.{live_changed}
use Rattle.abi_machine.proofs.sound.Ordered.{in_order}
use Rattle.abi_machine.proofs.sound.Looping.{none_passes, equal, IsGone, runs_here, waits_here, waitable_gone}
use Rattle.abi_machine.proofs.sound.own.Kept.{own_kept, own_removed}
use Rattle.abi_machine.proofs.sound.known.Keeping.{BlocksAs, BlocksOwn, Besides, Owns}
use Rattle.abi_machine.proofs.sound.known.Beside.{beside}
use Rattle.abi_machine.proofs.sound.known.Turning.{step_known}

-- Tables in which all sets stay.
abbrev KeepSets : List Inst → List Inst → Type 0
KeepSets insts others = (j index set : ℕ) → live (table_in (slice_get insts j)) index ≡ Some (OfSet set) → live (table_in (slice_get others j)) index ≡ Some (OfSet set)

sets_stay : (tasks : List Task) (insts others : List Inst) → KeepSets insts others → HaveSets tasks insts → HaveSets tasks others
sets_stay tasks insts others keeps h t index task f e runs waits = let s = h t index task f e runs waits in (s.0, keeps f.instance index s.0 s.1)

tables_stay : (tasks : List Task) (insts : List Inst) (i : ℕ) (f : Inst → Inst) → ((x : Inst) → (f x).table ≡ x.table) → HaveSets tasks insts → HaveSets tasks (changed_at i f insts)
tables_stay tasks insts i f same h =
    sets_stay tasks insts (changed_at i f insts)
    (λ j index set there. live_changed insts i f j index (OfSet set) (λ inst at found k. subst (λ (t : List (Event Entry)). live t index ≡ Some (OfSet set)) (sym (same inst)) k) there) h

entry_stays : (tasks : List Task) (insts : List Inst) (i : ℕ) (f : Inst → Inst) → ((x : Inst) (index set : ℕ) → IsHistory x.table → live x.table index ≡ Some (OfSet set) → live (f x).table index ≡ Some (OfSet set))
    → HaveHistories insts → HaveSets tasks insts → HaveSets tasks (changed_at i f insts)
entry_stays tasks insts i f keeps history h =
    sets_stay tasks insts (changed_at i f insts)
    (λ j index set there.
    live_changed insts i f j index (OfSet set) (λ inst at found k. keeps inst index set (all_at (λ (x : Inst). IsHistory x.table) insts i inst history found) k) there) h

begun_stays : (tasks : List Task) (insts : List Inst) → HaveSets tasks insts → HaveSets tasks (insts ++ new_inst ∷ [])
begun_stays tasks insts h = sets_stay tasks insts (insts ++ new_inst ∷ []) (λ j index set there. by j index set (slice_get insts j) refl there) h
  where
    by : (j index set : ℕ) (o : Option Inst) → slice_get insts j ≡ o → live (table_in o) index ≡ Some (OfSet set) → live (table_in (slice_get (insts ++ new_inst ∷ []) j)) index ≡ Some (OfSet set)
    by j index set None k l = cc
    by j index set (Some inst) k l = subst (λ (o : Option Inst). live (table_in o) index ≡ Some (OfSet set)) (sym (get_front insts new_inst j inst k)) l

-- An entry is removed: no set, or one on which no task waits.
removed_stays : (w : World) (i gone : ℕ) → IsGone w i gone → HaveSets w.tasks w.insts → HaveSets w.tasks (after (RemovesEntry i gone) w).insts
removed_stays w i gone unwaited h t index task f e runs waits =
    let s : HasSetAt (table_in (slice_get w.insts f.instance)) index = h t index task f e runs waits in (
      s.0,
      live_changed w.insts i _ f.instance index (OfSet s.0)
          (λ inst at found k.
          live_removed inst.table gone index (OfSet s.0)
          (λ same.
          let here : entry_at w i gone ≡ Some (OfSet s.0) = ap (λ (o : Option Inst). live (table_in o) gone) found ∙ (ap (λ (n : ℕ). live inst.table n) same ∙ k) in
          let passes : (runs_in i task && waits_on gone task.state) ≡ true =
          waits_here (runs_in i task) (waits_on gone task.state) (runs_here i f.instance (func_of task.callee) f runs at)
          (ap (waits_on gone) waits.2 ∙ (ap (nat_eq index) same ∙ equal index)) in
          none_passes (λ x. runs_in i x && waits_on gone x.state) w.tasks t task e passes (unwaited s.0 here)) k) s.1,
    )

-- Tasks that are changed: the state of one is as it was, or it waits on no set, or on one that is there.
tasks_wait : (tasks : List Task) (insts : List Inst) (u : ℕ) (f : Task → Task)
    → ((x : Task) → slice_get tasks u ≡ Some x → (index : ℕ) (l : Lifted) → func_of (f x).callee ≡ Some l → WaitsOnSet (f x) index
    → (func_of x.callee ≡ Some l → WaitsOnSet x index → HasSetAt (table_in (slice_get insts l.instance)) index) → HasSetAt (table_in (slice_get insts l.instance)) index)
    → HaveSets tasks insts → HaveSets (changed_at u f tasks) insts
tasks_wait tasks insts u f says h t index task l e runs waits = elim (changed_here u f tasks t task e) [
  | inl o ↦
      says o.1.0 o.1.1 index l (subst (λ (x : Task). func_of x.callee ≡ Some l) o.1.2 runs) (subst (λ (x : Task). WaitsOnSet x index) o.1.2 waits)
      (λ r k. h u index o.1.0 l o.1.1 r k)
  | inr old ↦ h t index task l old runs waits
]

-- with the state as it was
abbrev AsItWas : (Task → Task) → Type 0
AsItWas f = (x : Task) → ((f x).callee ≡ x.callee) × ((f x).state ≡ x.state)

same_wait : (tasks : List Task) (insts : List Inst) (u : ℕ) (f : Task → Task) → AsItWas f → HaveSets tasks insts → HaveSets (changed_at u f tasks) insts
same_wait tasks insts u f same h =
    tasks_wait tasks insts u f
    (λ x e index l runs waits before.
    before (ap func_of (sym (same x).0) ∙ runs) (waits.0, waits.1, sym (same x).1 ∙ waits.2)) h

-- in a state in which it does not wait on a set
abbrev IsNoWait : TaskState → Type 0
IsNoWait state = (number index : ℕ) (words : List ℕ) → state ≡ InBuiltin number words (ForSet index) → ⊥

state_waits : (tasks : List Task) (insts : List Inst) (u : ℕ) (state : TaskState) → IsNoWait state → HaveSets tasks insts → HaveSets (changed_at u (λ task. record task { state = state }) tasks) insts
state_waits tasks insts u state not h = tasks_wait tasks insts u (λ task. record task { state = state }) (λ x e index l runs waits before. absurd (not waits.0 index waits.1 waits.2)) h

one_more : (tasks : List Task) (insts : List Inst) (new : Task) → IsNoWait new.state → HaveSets tasks insts → HaveSets (tasks ++ new ∷ []) insts
one_more tasks insts new not h t index task f e runs waits = elim (more_either tasks new t task e) [
  | inl old ↦ h t index task f old runs waits
  | inr last ↦ let k : WaitsOnSet new index = subst (λ (x : Task). WaitsOnSet x index) last.1 waits in absurd (not k.0 index k.1 k.2)
]

new_no_wait : IsNoWait New
new_no_wait number index words e = cc

acting_no_wait : IsNoWait Acting
acting_no_wait number index words e = cc

exited_no_wait : IsNoWait Exited
exited_no_wait number index words e = cc

called_no_wait : (callee canon : ℕ) (given : List ℕ) → IsNoWait (AfterCall callee canon given)
called_no_wait callee canon given number index words e = cc

cancels_no_wait : (callee canon : ℕ) (given : List ℕ) → IsNoWait (AfterCancel callee canon given)
cancels_no_wait callee canon given number index words e = cc

begins_no_wait : (n : ℕ) → IsNoWait (world.Begins n)
begins_no_wait n number index words e = cc

-- A task blocks on a set that stands in the table of the component instance that made what it calls, which is that of its function.
blocks_there : (g : Graph) (w : World) (t : ℕ) (state : TaskState) (x : Task) (index : ℕ) (l : Lifted) → slice_get w.tasks t ≡ Some x → func_of x.callee ≡ Some l → BlocksAs g t state w → BlocksOwn g t state w
    → (number : ℕ) (words : List ℕ) → state ≡ InBuiltin number words (ForSet index) → HasSetAt (table_in (slice_get w.insts l.instance)) index
blocks_there g w t state x index l e runs blocks own number words is =
    let there : BlocksAs g t (InBuiltin number words (ForSet index)) w = subst (λ (s : TaskState). BlocksAs g t s w) is blocks in
    let mine : BlocksOwn g t (InBuiltin number words (ForSet index)) w = subst (λ (s : TaskState). BlocksOwn g t s w) is own in
    let calls : CallsOwn g (func_of x.callee) number = is_what (λ (o : Outline). CallsOwn g (func_of o.callee) number) t w (outline_of x) mine (outline_there w.tasks t x e) in
    let here : owner_of_canon g number ≡ Some l.instance = subst (λ (o : Option Lifted). CallsOwn g o number) runs calls in
    subst (λ (i : ℕ). HasSetAt (table_in (slice_get w.insts i)) index) (some_same (sym there.1 ∙ here)) there.2

abbrev Sets : World → Type 0
Sets w = HaveSets w.tasks w.insts

abbrev Kept : Graph → World → Type 0
Kept g w = HaveHistories w.insts × IsOwnWorld g w × Sets w

sets_kept : (g : Graph) (s : Script) (c : Change) (w : World) → MayCome g s c w → Besides ⊥ ⊥ ⊥ ⊥ g c w → Owns g c w → HaveHistories w.insts → Sets w → Sets (after c w)
sets_kept g s BeginsInstance w may b own history h = begun_stays w.tasks w.insts h
sets_kept g s (AddsEntry i entry) w may b own history h = entry_stays w.tasks w.insts i _ (λ x index set old there. live_added x.table entry (OfSet set) index old there) history h
sets_kept g s (MakesSet i set) w may b own history h =
    tables_stay w.tasks (after (AddsEntry i (OfSet set)) w).insts i _ (λ x. refl)
    (entry_stays w.tasks w.insts i _ (λ x index other old there. live_added x.table (OfSet set) (OfSet other) index old there) history h)
sets_kept g s (RemovesEntry i index) w may b own history h = removed_stays w i index b h
sets_kept g s (RemovesWaitable i index) w may b own history h =
    tables_stay w.tasks (after (RemovesEntry i index) w).insts i _ (λ x. refl) (removed_stays w i index (waitable_gone w i index may) h)
sets_kept g s (LeavesSet i index) w may b own history h = tables_stay w.tasks w.insts i _ (λ x. refl) h
sets_kept g s (JoinsSet i index set) w may b own history h = tables_stay w.tasks w.insts i _ (λ x. refl) h
sets_kept g s (HasBackpressure i backpressure) w may b own history h = tables_stay w.tasks w.insts i _ (λ x. refl) h
sets_kept g s (IsCalled callee call values) w may b own history h = one_more w.tasks w.insts (new_task callee (Host call values) New) new_no_wait h
sets_kept g s (Calls number callee subtask words) w may b own history h =
    one_more _ w.insts (new_task callee (Guest subtask) New) new_no_wait (state_waits w.tasks w.insts subtask.by (AfterCall (length w.tasks) number words) (called_no_wait (length w.tasks) number words) h)
sets_kept g s (ComesBack t) w may b own history h = h
sets_kept g s (Acts t) w may b own history h = state_waits w.tasks w.insts t Acting acting_no_wait h
sets_kept g s (Begins n) w may b own history h = state_waits w.tasks w.insts 0 (world.Begins n) (begins_no_wait n) h
sets_kept g s (Cancels t callee number words) w may b own history h = state_waits w.tasks w.insts t (AfterCancel callee number words) (cancels_no_wait callee number words) h
sets_kept g s (Blocks t state) w may b own history h =
    tasks_wait w.tasks w.insts t (λ task. record task { state = state }) (λ x e index l runs waits before. blocks_there g w t state x index l e runs b.0 own waits.0 waits.1 waits.2) h
sets_kept g s (Exits t) w may b own history h = state_waits w.tasks w.insts t Exited exited_no_wait h
sets_kept g s (IsRemoved t) w may b own history h = absurd b
sets_kept g s (Resolves t resolution) w may b own history h = same_wait w.tasks w.insts t _ (λ x. (refl, refl)) h
sets_kept g s (IsCancelled t cancellation) w may b own history h = same_wait w.tasks w.insts t _ (λ x. (refl, refl)) h
sets_kept g s (HasWord t slot word) w may b own history h = same_wait w.tasks w.insts t _ (λ x. (refl, refl)) h
sets_kept g s (HasNewStack t k) w may b own history h = same_wait w.tasks w.insts t _ (λ x. (refl, refl)) h
sets_kept g s (HasStack t k) w may b own history h = same_wait w.tasks w.insts t _ (λ x. (refl, refl)) h
sets_kept g s (LosesStack t) w may b own history h = same_wait w.tasks w.insts t _ (λ x. (refl, refl)) h
sets_kept g s (IsAnswered t words) w may b own history h = same_wait w.tasks w.insts t _ (λ x. (refl, refl)) h
sets_kept g s (IsTold t state) w may b own history h = same_wait w.tasks w.insts t _ (λ x. (refl, refl)) h
sets_kept g s (IsLent t handle) w may b own history h = same_wait w.tasks w.insts t _ (λ x. (refl, refl)) h
sets_kept g s (HasResult t words) w may b own history h = same_wait w.tasks w.insts t _ (λ x. (refl, refl)) h
sets_kept g s (MakesChannel kind element) w may b own history h = made_kept Sets (λ v x k. k) (λ v x k. k) kind element w h
sets_kept g s (Offers e call) w may b own history h = channel_kept Sets (λ v x k. k) (λ v x k. k) e.kind e.number _ w h
sets_kept g s (Transfers e size values) w may b own history h = channel_kept Sets (λ v x k. k) (λ v x k. k) e.kind e.number _ _ (channel_kept Sets (λ v x k. k) (λ v x k. k) e.kind e.number _ w h)
sets_kept g s (Concludes e) w may b own history h = channel_kept Sets (λ v x k. k) (λ v x k. k) e.kind e.number _ w h
sets_kept g s (DropsEnd e) w may b own history h = channel_kept Sets (λ v x k. k) (λ v x k. k) e.kind e.number _ w h
sets_kept g s (GoesTo control) w may b own history h = h
sets_kept g s (HasStore store) w may b own history h = h
sets_kept g s SpendsUnit w may b own history h = h
sets_kept g s (UsesPicks picks) w may b own history h = h
sets_kept g s TakesItem w may b own history h = h

removed_sets : (g : Graph) (t : ℕ) (w : World) → Kept g w → Kept g (after (IsRemoved t) w)
removed_sets g t w h = (
  h.0,
  own_removed g t w h.1,
  state_waits _ w.insts t Exited exited_no_wait (same_wait w.tasks w.insts t (λ x. record x { resolution = Some Cancelled }) (λ x. (refl, refl)) h.2),
)

pub first_has_sets : FirstHasSets
first_has_sets g zero index task f e runs waits = let k : WaitsOnSet (new_task world.Init world.Nobody Acting) index = subst (λ (x : Task). WaitsOnSet x index) (sym (some_same e)) waits in cc
first_has_sets g (suc n) index task f e runs waits = absurd (no_first n task e)

pub sets_stay_there : SetsStay
unfolding beside in_order
sets_stay_there g s w v labels apart alone o history own says h e =
    (step_known
    (beside g s (in_order g s) ⊥ (Unit {0}) ⊥ ⊥ (Kept g) (λ a. apart) (λ event. absurd event) (λ a u k. k.1)
    (λ c u may b belongs k. (histories_kept g s c u may k.0, own_kept g s c u may (belongs tt) k.1, sets_kept g s c u may b (belongs tt) k.0 k.2)) (λ t u may k. k) (λ t u may k. removed_sets g t u k))
    w v labels (λ none. absurd none) (λ asks. absurd asks) (λ copies. absurd copies) (λ a. says) (λ event. absurd event) alone.1 o.2 ((alone.0, o.0, o.1), (history, own, h)) e).0.1.2
