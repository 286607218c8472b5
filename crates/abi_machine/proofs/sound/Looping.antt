-- Tasks in their loop wait on sets that are there, and so they do in every step.
use Rattle.std.proofs.Common.{◌≡◌, inl, inr, ℕ, zero, suc, ◌+◌, Bool, true, false, ◌&&◌, nat_eq, List, [], ◌∷◌, ◌++◌, length, refl, sym, ap, ◌∙◌, subst, arith, Option, Some, None, Result, Ok, Err, if◌then◌else◌}
use Rattle.std.proofs.lemmas.Bool.Decides.{nat_tests}
use Rattle.std.proofs.lemmas.List.Sums.{sum_by-cons}
use Rattle.std.specs.List.{slice_get, count_by}
use Rattle.wasm_store.proofs.Lists.{all_at}
use Rattle.handle_table.specs.History.{Event, IsHistory, live}
use Rattle.tasks.specs.declared.phase.Resolution.TheVariants.{Cancelled}
use Rattle.entry_gate.specs.Callbacks.{callback_of}
use Rattle.entry_gate.specs.declared.callback.BadCode.{BadCode}
use Rattle.entry_gate.specs.declared.callback.Next.{Next}
use Rattle.entry_gate.specs.declared.callback.Next.TheVariants as next
use Rattle.comp_graph.specs.Graph.{Graph, Lifted}
use Rattle.script_reader.specs.Script.{Script}
use Rattle.abi_machine.specs.World.{Entry, OfSet, Inst, Callee, Host, Guest, TaskState, New, Acting, AfterCall, AfterCancel, WaitsToEnter, InLoop, InBuiltin, Exited, Task, World, new_inst, new_task}
use Rattle.abi_machine.specs.World as world
use Rattle.abi_machine.specs.Edits.{changed_at}
use Rattle.abi_machine.specs.Reading.{table_in, entry_at, func_of, is_in, runs_in}
use Rattle.abi_machine.specs.Counting.{word_waits_on, waits_on, waiters_of}
use Rattle.abi_machine.specs.sound.Changes.{Change, GoesTo, HasStore, SpendsUnit, UsesPicks, TakesItem, BeginsInstance, AddsEntry, MakesSet, RemovesEntry, RemovesWaitable, LeavesSet, JoinsSet, HasBackpressure, IsCalled, Calls, ComesBack, Acts, Begins, Cancels, Blocks, Exits, IsRemoved, Resolves, IsCancelled, HasWord, HasNewStack, HasStack, LosesStack, IsAnswered, IsTold, IsLent, HasResult, MakesChannel, Offers, Transfers, Concludes, DropsEnd, after, Stands, IsWaitable, IsBlocked, MayCome}
use Rattle.abi_machine.specs.sound.Tables.{HaveHistories}
use Rattle.abi_machine.specs.sound.Acting.{Outline, outline_of}
use Rattle.abi_machine.specs.sound.Loops.{GoesOnBy, LoopsIn, LoopsSo, HaveLoops, FirstHasLoops, LoopsStay}
use Rattle.abi_machine.proofs.sound.Lists.{more_either, get_front}
use Rattle.abi_machine.proofs.sound.Found.{some_same}
use Rattle.abi_machine.proofs.sound.Aside.{channel_kept, made_kept}
use Rattle.abi_machine.proofs.sound.Chained.{no_first, changed_here}
use Rattle.abi_machine.proofs.sound.Outlines.{outline_there, is_what}
use Rattle.abi_machine.proofs.sound.Histories.{histories_kept}
use Rattle.abi_machine.proofs.sound.Joined.{live_added, live_removed}
use Rattle.abi_machine.proofs.sound.Holding.{live_changed}
use Rattle.abi_machine.proofs.sound.Ordered.{in_order}
use Rattle.abi_machine.proofs.sound.known.Keeping.{BlocksAs, Besides}
use Rattle.abi_machine.proofs.sound.known.Beside.{beside}
use Rattle.abi_machine.proofs.sound.known.Turning.{step_known}

-- Where no task passes a test, none that is there does.
one_passes : (b : Bool) (n : ℕ) → b ≡ true → (if b then 1 else 0) + n ≡ 0 → ⊥
one_passes true n e h = omega (arith, h)
one_passes false n e h = cc

pub none_passes : (test : Task → Bool) (tasks : List Task) (t : ℕ) (task : Task) → slice_get tasks t ≡ Some task → test task ≡ true → count_by test tasks ≡ 0 → ⊥
none_passes test [] t task there passes none = cc
none_passes test (x ∷ tasks) zero task there passes none =
    one_passes (test x) (count_by test tasks) (ap test (some_same there) ∙ passes) (sym (sum_by-cons (λ (y : Task). if test y then 1 else 0) x tasks) ∙ none)
none_passes test (x ∷ tasks) (suc t) task there passes none =
    none_passes test tasks t task there passes (let both : (if test x then 1 else 0) + count_by test tasks ≡ 0 = sym (sum_by-cons (λ (y : Task). if test y then 1 else 0) x tasks) ∙ none in omega (arith, both))

pub equal : (n : ℕ) → nat_eq n n ≡ true
equal n = grind (arith, nat_tests)

-- What a callback answered goes on where the sets that it names stay.
goes_on : (table other : List (Event Entry)) (r : Result Next BadCode)
    → ((index set : ℕ) → word_waits_on index r ≡ true → live table index ≡ Some (OfSet set) → live other index ≡ Some (OfSet set)) → GoesOnBy table r → GoesOnBy other r
goes_on table other (Ok next.Exit) keeps h = h
goes_on table other (Ok next.Yield) keeps h = tt
goes_on table other (Ok (next.Wait index)) keeps h = (h.0, keeps index h.0 (equal index) h.1)
goes_on table other (Ok (next.Poll index)) keeps h = (h.0, keeps index h.0 (equal index) h.1)
goes_on table other (Err why) keeps h = h

-- in the instance of the function that a task runs
abbrev KeepsSets : List Inst → List Inst → Option Lifted → TaskState → Type 0
KeepsSets insts others o state =
    (f : Lifted) (word index set : ℕ) → o ≡ Some f → state ≡ InLoop word → word_waits_on index (callback_of word) ≡ true → live (table_in (slice_get insts f.instance)) index ≡ Some (OfSet set)
    → live (table_in (slice_get others f.instance)) index ≡ Some (OfSet set)

loops_in : (insts others : List Inst) (o : Option Lifted) (word : ℕ) → KeepsSets insts others o (InLoop word) → LoopsIn insts o word → LoopsIn others o word
loops_in insts others None word keeps h = h
loops_in insts others (Some f) word keeps h =
    goes_on (table_in (slice_get insts f.instance)) (table_in (slice_get others f.instance)) (callback_of word) (λ index set waits there. keeps f word index set refl refl waits there) h

loops_so : (insts others : List Inst) (callee : Callee) (state : TaskState) → KeepsSets insts others (func_of callee) state → LoopsSo insts callee state → LoopsSo others callee state
loops_so insts others callee New keeps h = tt
loops_so insts others callee Acting keeps h = tt
loops_so insts others callee (AfterCall called number words) keeps h = tt
loops_so insts others callee (AfterCancel called number words) keeps h = tt
loops_so insts others callee (world.Begins n) keeps h = tt
loops_so insts others callee WaitsToEnter keeps h = tt
loops_so insts others callee (InLoop word) keeps h = loops_in insts others (func_of callee) word keeps h
loops_so insts others callee (InBuiltin number words wait) keeps h = tt
loops_so insts others callee Exited keeps h = tt

-- Tables in which the sets stay that tasks in their loop wait on.
insts_loop : (tasks : List Task) (insts others : List Inst) → ((t : ℕ) (task : Task) → slice_get tasks t ≡ Some task → KeepsSets insts others (func_of task.callee) task.state) → HaveLoops tasks insts → HaveLoops tasks others
insts_loop tasks insts others keeps h t task e = loops_so insts others task.callee task.state (keeps t task e) (h t task e)

sets_stay : (tasks : List Task) (insts others : List Inst) → ((j index set : ℕ) → live (table_in (slice_get insts j)) index ≡ Some (OfSet set) → live (table_in (slice_get others j)) index ≡ Some (OfSet set)) → HaveLoops tasks insts
    → HaveLoops tasks others
sets_stay tasks insts others keeps h = insts_loop tasks insts others (λ t task e f word index set runs is waits there. keeps f.instance index set there) h

tables_stay : (tasks : List Task) (insts : List Inst) (i : ℕ) (f : Inst → Inst) → ((x : Inst) → (f x).table ≡ x.table) → HaveLoops tasks insts → HaveLoops tasks (changed_at i f insts)
tables_stay tasks insts i f same h =
    sets_stay tasks insts (changed_at i f insts)
    (λ j index set there. live_changed insts i f j index (OfSet set) (λ inst at found k. subst (λ (t : List (Event Entry)). live t index ≡ Some (OfSet set)) (sym (same inst)) k) there) h

entry_stays : (tasks : List Task) (insts : List Inst) (i : ℕ) (f : Inst → Inst) (entry : Entry) → ((x : Inst) (index set : ℕ) → IsHistory x.table → live x.table index ≡ Some (OfSet set) → live (f x).table index ≡ Some (OfSet set))
    → HaveHistories insts → HaveLoops tasks insts → HaveLoops tasks (changed_at i f insts)
entry_stays tasks insts i f entry keeps history h =
    sets_stay tasks insts (changed_at i f insts)
    (λ j index set there.
    live_changed insts i f j index (OfSet set) (λ inst at found k. keeps inst index set (all_at (λ (x : Inst). IsHistory x.table) insts i inst history found) k) there) h

begun_stays : (tasks : List Task) (insts : List Inst) → HaveLoops tasks insts → HaveLoops tasks (insts ++ new_inst ∷ [])
begun_stays tasks insts h = sets_stay tasks insts (insts ++ new_inst ∷ []) (λ j index set there. by j index set (slice_get insts j) refl there) h
  where
    by : (j index set : ℕ) (o : Option Inst) → slice_get insts j ≡ o → live (table_in o) index ≡ Some (OfSet set) → live (table_in (slice_get (insts ++ new_inst ∷ []) j)) index ≡ Some (OfSet set)
    by j index set None k l = cc
    by j index set (Some inst) k l = subst (λ (o : Option Inst). live (table_in o) index ≡ Some (OfSet set)) (sym (get_front insts new_inst j inst k)) l

-- An entry is removed: no set, or one on which no task waits.
abbrev pub IsGone : World → ℕ → ℕ → Type 0
IsGone w i gone = (set : ℕ) → entry_at w i gone ≡ Some (OfSet set) → waiters_of w i gone ≡ 0

pub runs_here : (i j : ℕ) (o : Option Lifted) (f : Lifted) → o ≡ Some f → f.instance ≡ i → is_in i o ≡ true
runs_here i j o f e at =
    ap (is_in i) e ∙ (ap (λ (n : ℕ). nat_eq n i) at ∙ equal i)

pub waits_here : (b c : Bool) → b ≡ true → c ≡ true → (b && c) ≡ true
waits_here b c e k = ap (λ (x : Bool). x && c) e ∙ k

removed_stays : (w : World) (i gone : ℕ) → IsGone w i gone → HaveLoops w.tasks w.insts → HaveLoops w.tasks (after (RemovesEntry i gone) w).insts
removed_stays w i gone unwaited h =
    insts_loop w.tasks w.insts _ (λ t task e f word index set runs is waits there.
    live_changed w.insts i _ f.instance index (OfSet set)
    (λ inst at found k.
    live_removed inst.table gone index (OfSet set)
    (λ same.
    let here : entry_at w i gone ≡ Some (OfSet set) = ap (λ (o : Option Inst). live (table_in o) gone) found ∙ (ap (λ (n : ℕ). live inst.table n) same ∙ k) in
    let passes : (runs_in i task && waits_on gone task.state) ≡ true =
    waits_here (runs_in i task) (waits_on gone task.state) (runs_here i f.instance (func_of task.callee) f runs at)
    (ap (waits_on gone) is ∙ (ap (λ (n : ℕ). word_waits_on n (callback_of word)) same ∙ waits)) in
    none_passes (λ x. runs_in i x && waits_on gone x.state) w.tasks t task e passes (unwaited set here)) k) there) h

waitable_is_no_set : (entry : Entry) (set : ℕ) → IsWaitable entry → entry ≡ OfSet set → ⊥
waitable_is_no_set entry set h e = subst IsWaitable e h

pub waitable_gone : (w : World) (i gone : ℕ) → Stands w i gone IsWaitable → IsGone w i gone
waitable_gone w i gone h set e = absurd (waitable_is_no_set h.0 set h.2 (some_same (sym h.1 ∙ e)))

-- Tasks that are changed, so that what is said of them holds, and one more.
tasks_loop : (tasks : List Task) (insts : List Inst) (u : ℕ) (f : Task → Task) → ((x : Task) → slice_get tasks u ≡ Some x → LoopsSo insts x.callee x.state → LoopsSo insts (f x).callee (f x).state) → HaveLoops tasks insts
    → HaveLoops (changed_at u f tasks) insts
tasks_loop tasks insts u f says h t task e = elim (changed_here u f tasks t task e) [
  | inl o ↦ subst (λ (x : Task). LoopsSo insts x.callee x.state) (sym o.1.2) (says o.1.0 o.1.1 (h u o.1.0 o.1.1))
  | inr old ↦ h t task old
]

one_more : (tasks : List Task) (insts : List Inst) (new : Task) → new.state ≡ New → HaveLoops tasks insts → HaveLoops (tasks ++ new ∷ []) insts
one_more tasks insts new is h t task e = elim (more_either tasks new t task e) [
  | inl old ↦ h t task old
  | inr last ↦ subst (λ (x : Task). LoopsSo insts x.callee x.state) (sym last.1) (subst (LoopsSo insts new.callee) (sym is) tt)
]

blocks_so : (g : Graph) (w : World) (t : ℕ) (state : TaskState) (x : Task) → slice_get w.tasks t ≡ Some x → IsBlocked state → BlocksAs g t state w → LoopsSo w.insts x.callee state
blocks_so g w t New x e is b = tt
blocks_so g w t Acting x e is b = tt
blocks_so g w t (AfterCall callee number words) x e is b = tt
blocks_so g w t (AfterCancel callee number words) x e is b = tt
blocks_so g w t (world.Begins n) x e is b = tt
blocks_so g w t WaitsToEnter x e is b = tt
blocks_so g w t (InLoop word) x e is b = is_what (λ (o : Outline). LoopsIn w.insts (func_of o.callee) word) t w (outline_of x) b (outline_there w.tasks t x e)
blocks_so g w t (InBuiltin number words wait) x e is b = tt
blocks_so g w t Exited x e is b = tt

abbrev Loops : World → Type 0
Loops w = HaveLoops w.tasks w.insts

abbrev Kept : World → Type 0
Kept w = HaveHistories w.insts × Loops w

loops_kept : (g : Graph) (s : Script) (c : Change) (w : World) → MayCome g s c w → Besides ⊥ ⊥ ⊥ ⊥ g c w → Kept w → Loops (after c w)
loops_kept g s BeginsInstance w may b h = begun_stays w.tasks w.insts h.1
loops_kept g s (AddsEntry i entry) w may b h = entry_stays w.tasks w.insts i _ entry (λ x index set history there. live_added x.table entry (OfSet set) index history there) h.0 h.1
loops_kept g s (MakesSet i set) w may b h =
    tables_stay w.tasks (after (AddsEntry i (OfSet set)) w).insts i _ (λ x. refl)
    (entry_stays w.tasks w.insts i _ (OfSet set) (λ x index other history there. live_added x.table (OfSet set) (OfSet other) index history there) h.0 h.1)
loops_kept g s (RemovesEntry i index) w may b h = removed_stays w i index b h.1
loops_kept g s (RemovesWaitable i index) w may b h =
    tables_stay w.tasks (after (RemovesEntry i index) w).insts i _ (λ x. refl) (removed_stays w i index (waitable_gone w i index may) h.1)
loops_kept g s (LeavesSet i index) w may b h = tables_stay w.tasks w.insts i _ (λ x. refl) h.1
loops_kept g s (JoinsSet i index set) w may b h = tables_stay w.tasks w.insts i _ (λ x. refl) h.1
loops_kept g s (HasBackpressure i backpressure) w may b h = tables_stay w.tasks w.insts i _ (λ x. refl) h.1
loops_kept g s (IsCalled callee call values) w may b h = one_more w.tasks w.insts (new_task callee (Host call values) New) refl h.1
loops_kept g s (Calls number callee subtask words) w may b h =
    one_more _ w.insts (new_task callee (Guest subtask) New) refl (tasks_loop w.tasks w.insts subtask.by (λ task. record task { state = AfterCall (length w.tasks) number words }) (λ x e p. tt) h.1)
loops_kept g s (ComesBack t) w may b h = h.1
loops_kept g s (Acts t) w may b h = tasks_loop w.tasks w.insts t (λ task. record task { state = Acting }) (λ x e p. tt) h.1
loops_kept g s (Begins n) w may b h = tasks_loop w.tasks w.insts 0 (λ task. record task { state = world.Begins n }) (λ x e p. tt) h.1
loops_kept g s (Cancels t callee number words) w may b h = tasks_loop w.tasks w.insts t (λ task. record task { state = AfterCancel callee number words }) (λ x e p. tt) h.1
loops_kept g s (Blocks t state) w may b h = tasks_loop w.tasks w.insts t (λ task. record task { state = state }) (λ x e p. blocks_so g w t state x e may.1 b.0) h.1
loops_kept g s (Exits t) w may b h = tasks_loop w.tasks w.insts t (λ task. record task { state = Exited }) (λ x e p. tt) h.1
loops_kept g s (IsRemoved t) w may b h = absurd b
loops_kept g s (Resolves t resolution) w may b h = tasks_loop w.tasks w.insts t _ (λ x e p. p) h.1
loops_kept g s (IsCancelled t cancellation) w may b h = tasks_loop w.tasks w.insts t _ (λ x e p. p) h.1
loops_kept g s (HasWord t slot word) w may b h = tasks_loop w.tasks w.insts t _ (λ x e p. p) h.1
loops_kept g s (HasNewStack t k) w may b h = tasks_loop w.tasks w.insts t _ (λ x e p. p) h.1
loops_kept g s (HasStack t k) w may b h = tasks_loop w.tasks w.insts t _ (λ x e p. p) h.1
loops_kept g s (LosesStack t) w may b h = tasks_loop w.tasks w.insts t _ (λ x e p. p) h.1
loops_kept g s (IsAnswered t words) w may b h = tasks_loop w.tasks w.insts t _ (λ x e p. p) h.1
loops_kept g s (IsTold t state) w may b h = tasks_loop w.tasks w.insts t _ (λ x e p. p) h.1
loops_kept g s (IsLent t handle) w may b h = tasks_loop w.tasks w.insts t _ (λ x e p. p) h.1
loops_kept g s (HasResult t words) w may b h = tasks_loop w.tasks w.insts t _ (λ x e p. p) h.1
loops_kept g s (MakesChannel kind element) w may b h = made_kept Loops (λ v x k. k) (λ v x k. k) kind element w h.1
loops_kept g s (Offers e call) w may b h = channel_kept Loops (λ v x k. k) (λ v x k. k) e.kind e.number _ w h.1
loops_kept g s (Transfers e size values) w may b h = channel_kept Loops (λ v x k. k) (λ v x k. k) e.kind e.number _ _ (channel_kept Loops (λ v x k. k) (λ v x k. k) e.kind e.number _ w h.1)
loops_kept g s (Concludes e) w may b h = channel_kept Loops (λ v x k. k) (λ v x k. k) e.kind e.number _ w h.1
loops_kept g s (DropsEnd e) w may b h = channel_kept Loops (λ v x k. k) (λ v x k. k) e.kind e.number _ w h.1
loops_kept g s (GoesTo control) w may b h = h.1
loops_kept g s (HasStore store) w may b h = h.1
loops_kept g s SpendsUnit w may b h = h.1
loops_kept g s (UsesPicks picks) w may b h = h.1
loops_kept g s TakesItem w may b h = h.1

removed_loops : (t : ℕ) (w : World) → Kept w → Kept (after (IsRemoved t) w)
removed_loops t w h = (
  h.0,
  tasks_loop _ w.insts t (λ task. record task { state = Exited }) (λ x e p. tt) (tasks_loop w.tasks w.insts t (λ x. record x { resolution = Some Cancelled }) (λ x e p. p) h.1),
)

pub first_has_loops : FirstHasLoops
first_has_loops g zero task e = subst (λ (x : Task). LoopsSo [] x.callee x.state) (some_same e) tt
first_has_loops g (suc n) task e = absurd (no_first n task e)

pub loops_stay : LoopsStay
unfolding beside in_order
loops_stay g s w v labels alone o history h e =
    (step_known
    (beside g s (in_order g s) ⊥ ⊥ ⊥ ⊥ Kept (λ apart. absurd apart) (λ event. event) (λ apart u k. absurd apart) (λ c u may b belongs k. (histories_kept g s c u may k.0, loops_kept g s c u may b k)) (λ t u may k. k) (λ t u may k. removed_loops t u k))
    w v labels (λ none. absurd none) (λ asks. absurd asks) (λ copies. absurd copies) (λ apart. absurd apart) (λ event. absurd event) alone.1 o.2 ((alone.0, o.0, o.1), (history, h)) e).0.1.1
