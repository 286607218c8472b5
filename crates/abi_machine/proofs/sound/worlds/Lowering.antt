-- A plan is followed as far as it goes at once: a typed world is left.
use Rattle.std.proofs.Common.{◌≡◌, ◌∙◌, ◌≤◌, inl, inr, ℕ, List, [], ◌∷◌, length, refl, sym, ap, subst, arith, Option, Some, None}
use Rattle.std.specs.Prelude.{IsSome}
use Rattle.std.specs.List.{slice_get, AllByRecursion}
use Rattle.std.specs.Option.{option_map}
use Rattle.syntax_trees.specs.declared.module_types.ValType.TheVariants.{I32}
use Rattle.syntax_trees.specs.declared.module_types.ValType as core_val
use Rattle.wasm_numbers.specs.Types.{AreWords}
use Rattle.wasm_store.specs.Store.{Function, Store, type_of, found_at}
use Rattle.wasm_store.specs.Stack.{Stack}
use Rattle.wasm_store.specs.Step.{start}
use Rattle.wasm_store.specs.Typed.{StackTyped, Extends}
use Rattle.wasm_store.proofs.Lists.{all_at}
use Rattle.handle_table.specs.History.{Event, IsHistory}
use Rattle.comp_graph.specs.Graph.{Graph, Lifted}
use Rattle.comp_graph.specs.Needs.{lift_type, realloc_type}
use Rattle.trace_labels.specs.declared.label.Label.TheVariants as line
use Rattle.lowering_laws.proofs.Stores.{typed_start, GoesOn}
use Rattle.abi_machine.specs.LoweringOver.{Plan}
use Rattle.abi_machine.specs.Control.{After, Replies, Finishes, Then, Starts, Resolves, Transfers, Copying, Lowering}
use Rattle.abi_machine.specs.World.{Entry, Inst, Subtask, Acting, Task, World}
use Rattle.abi_machine.specs.Edits.{caller_changed, result_kept, with_channel, transferred}
use Rattle.abi_machine.specs.Canons.{func_address, bytes_of}
use Rattle.abi_machine.specs.Reading.{acting, func_of, table_in, table_of, channel_at}
use Rattle.abi_machine.specs.Pausing.{Paused, Words, Failed, Asked, Settled, settle, ask_words}
use Rattle.abi_machine.specs.Copying.{channel_of, completed, copied_of, transferring_turn}
use Rattle.abi_machine.specs.Lowering.{started, lowered, paused, left_by, settled_turn, lowers_turn}
use Rattle.abi_machine.specs.Returning.{finished}
use Rattle.abi_machine.specs.Turn.{replied}
use Rattle.abi_machine.specs.sound.Acting.{FollowsFor}
use Rattle.abi_machine.specs.sound.Changes.{IsFirst}
use Rattle.abi_machine.specs.sound.GraphFuncs.{IsOfGraph}
use Rattle.abi_machine.specs.sound.Callees.{IsUsedGraph, CoreThere}
use Rattle.abi_machine.specs.sound.Planned.{IsPlanned, EventHasRep, PausesAt, IsSettled}
use Rattle.abi_machine.specs.sound.Tables.{HaveHistories}
use Rattle.abi_machine.specs.sound.TypedStacks.{core_results, TopIs, RunsTyped}
use Rattle.abi_machine.specs.sound.TypedWorlds.{memory_size, core_params, IsResultFor, ResolvesAt, LowersAt, Takes, GivesPlaces, IsLoweringFor, pending_then, IsGrounded}
use Rattle.abi_machine.proofs.sound.Found.{some_same, acting_first, acting_is}
use Rattle.abi_machine.proofs.sound.Acted.{now_is}
use Rattle.abi_machine.proofs.sound.Callees.{callee_types, core_there}
use Rattle.abi_machine.proofs.sound.TypedMoves.{top_later}
use Rattle.abi_machine.proofs.sound.planned.Passing.{settles}
use Rattle.abi_machine.proofs.sound.planned.Reps.{reps_changed, memory_bytes}
use Rattle.abi_machine.proofs.sound.worlds.Grounds.{size_later, rewritten_goes_on, ground_later, ground_insts, ground_stacks, ground_kept}
use Rattle.abi_machine.proofs.sound.worlds.Turns.{IsGround, Good, behind_good, given_good, func_good, At, replied_good, at_channel}
use Rattle.abi_machine.proofs.sound.worlds.Passing.{Beside, Finishing, IsEmptyWhere, finished_good, callee_params, callee_results, starts_there}
use Rattle.abi_machine.proofs.sound.worlds.Called.{WaitsAs, at_of}

-- What a lowering is for, in later stores.
pub resolves_later : (s t : Store) (follows : After) (x : Task) → Extends s t → ResolvesAt s follows x → ResolvesAt t follows x
resolves_later s t Replies x e h = top_later s t [] x.callee x.stacks e h
resolves_later s t (Finishes ended) x e h = h

pub lowers_later : (s t : Store) (follows : Then) (x : Task) → Extends s t → LowersAt s follows x → LowersAt t follows x
lowers_later s t Starts x e h = tt
lowers_later s t (Resolves to follows) x e h = (h.0, resolves_later s t follows x e h.1)
lowers_later s t (Transfers copying) x e h = top_later s t (I32 ∷ []) x.callee x.stacks e h

pub places_later : (s t : Store) (realloc : Option ℕ) → t.funcs ≡ s.funcs → GivesPlaces s realloc → GivesPlaces t realloc
places_later s t realloc same h address e = (let f = h address e in (f.0, ap (λ (fs : List Function). slice_get fs address) same ∙ f.1, f.2))

pub lowering_later : (s t : Store) (l : Lowering) (x : Task) → GoesOn s t → IsLoweringFor s l x → IsLoweringFor t l x
lowering_later s t l x g h = (lowers_later s t l.next x g.extends h.0, places_later s t l.realloc g.funcs h.1)

table_history : (o : Option Inst) → ((x : Inst) → o ≡ Some x → IsHistory x.table) → IsHistory (table_in o)
table_history None h = tt
table_history (Some x) h = h x refl

table_reps : (o : Option Inst) → ((x : Inst) → o ≡ Some x → AllByRecursion EventHasRep x.table) → AllByRecursion EventHasRep (table_in o)
table_reps None h = tt
table_reps (Some x) h = h x refl

-- where a task starts it has no stack
abbrev pub StartsBare : Then → Task → Type 0
StartsBare Starts x = x.stacks ≡ []
StartsBare (Resolves to follows) x = Unit {0}
StartsBare (Transfers copying) x = Unit {0}

-- what is answered behind a lowering is what is taken
abbrev pub AnswersFit : (List ℕ → Type 0) → Then → Type 0
AnswersFit P Starts = Unit {0}
AnswersFit P (Resolves to Replies) = (words : List ℕ) → P words → AreWords [] words
AnswersFit P (Resolves to (Finishes ended)) = Unit {0}
AnswersFit P (Transfers copying) = (words : List ℕ) → P words → AreWords (I32 ∷ []) words

-- what is known of the task for which a lowering is
pub record IsLowered (g : Graph) (l : Lowering) (w : World) (t : ℕ) (x : Task) : Type 0 where
  pub first : IsFirst t w.chain
  pub there : slice_get w.tasks t ≡ Some x
  pub acts : x.state ≡ Acting
  pub of_graph : IsOfGraph g x.callee
  pub func : Lifted
  pub runs : func_of x.callee ≡ Some func
  pub bare : StartsBare l.next x
  pub follows : FollowsFor l.next w.chain

module _ (g : Graph) (P : List ℕ → Type 0) (used : IsUsedGraph g) where
  -- a core function starts
  started_good : (t : ℕ) (x : Task) (words : List ℕ) (w : World) → IsGround g w → IsFirst t w.chain → slice_get w.tasks t ≡ Some x → x.state ≡ Acting → IsOfGraph g x.callee → x.stacks ≡ [] → AreWords (core_params x.callee) words → Good g P (started words w)
  unfolding started
  started_good t x words w ground first there acts of_graph bare fits =
      func_good g P w _ (λ a f e runs. given_good g P (found_at w.store.funcs (func_address w.store f.core)) _ (λ function k.
      let same : t ≡ a.0 = some_same (sym first ∙ acting_first w a e) in
      let one : x ≡ a.1 = some_same (sym (subst (λ (n : ℕ). slice_get w.tasks n ≡ Some x) same there) ∙ acting_is w a e) in
      let f_runs : func_of x.callee ≡ Some f = ap (λ (y : Task). func_of y.callee) one ∙ runs in
      let core : CoreThere w.store f.core (lift_type f.options f.func_type) = core_there g w.store f.core (lift_type f.options f.func_type) ground.canons ground.made (callee_types g used x.callee f of_graph f_runs).core_is in
      let typed : StackTyped w.store (lift_type f.options f.func_type).results (start function.1 function.0 words) =
      starts_there w.store f.core (lift_type f.options f.func_type) function words ground.store core k (subst (λ (ts : List core_val.ValType). AreWords ts words) (callee_params x.callee f f_runs) fits) in
      let typed_so : StackTyped w.store (core_results x.callee) (start function.1 function.0 words) = subst (λ (ts : List core_val.ValType). StackTyped w.store ts (start function.1 function.0 words)) (sym (callee_results x.callee f f_runs)) typed in
      λ a0 inside. inr (record {
        ground = ground_stacks g w.store a.0 (λ ks. start function.1 function.0 words ∷ ks) w.tasks w.insts None (a.1, acting_is w a e, ap (λ (y : Task). y.state) (sym one) ∙ acts) ground;
        acts = (
          a.0,
          acting_first w a e,
          now_is w.tasks a.0 (λ y. record y { stacks = start function.1 function.0 words ∷ y.stacks }) (λ y. x ≡ y) (RunsTyped w.store)
              (λ y own. subst (λ (z : Task). RunsTyped w.store (record z { stacks = start function.1 function.0 words ∷ z.stacks })) own
              (subst (λ (ks : List Stack). TopIs (StackTyped w.store) w.store x.callee (start function.1 function.0 words ∷ ks)) (sym bare) (typed_so, tt))) (a.1, acting_is w a e, one),
        );
      })))

  transferring_good : (t : ℕ) (copying : Copying) (w : World) → ((words : List ℕ) → P words → AreWords (I32 ∷ []) words) → Beside g t (WaitsAs (I32 ∷ [])) w → Good g P (transferring_turn copying w)
  unfolding transferring_turn
  transferring_good t copying w takes h =
      given_good g P (acting w) _ (λ a e. given_good g P (channel_at w copying.end.kind copying.end.number) _ (λ c k.
      let same : t ≡ a.0 = some_same (sym h.first ∙ acting_first w a e) in
      let at : At g P w a.0 = subst (At g P w) same (at_of g P w t (I32 ∷ []) takes h) in
      behind_good g P (line.Copy (channel_of copying.end) (copied_of c.element copying.values) ∷ []) (replied a.0 (completed copying.end.kind (length copying.values) ∷ []) (transferred copying.end copying.length copying.values w))
      (replied_good g P a.0 _ (transferred copying.end copying.length copying.values w) (at_channel g P (with_channel copying.end.kind copying.end.number _ w) a.0 copying.end.kind copying.end.number _ (at_channel g P w a.0 copying.end.kind copying.end.number _ at)))))

  still_resolves : (a : After) (s : Store) (x : Task) (F : Subtask → Subtask) → ResolvesAt s a x → ResolvesAt s a (record x { caller = caller_changed F x.caller })
  still_resolves Replies s x F h = h
  still_resolves (Finishes ended) s x F h = h

  empty_of : (to : ℕ) (a : After) → AnswersFit P (Resolves to a) → IsEmptyWhere g P used a
  empty_of to Replies h = h
  empty_of to (Finishes ended) h = tt

  resulted_good : (l : Lowering) (a : After) (words : List ℕ) (w : World) (t : ℕ) (x : Task) → IsGrounded g w.store w.tasks w.insts (Some t) → IsLowered g l w t x → IsEmptyWhere g P used a → IsSome x.resolution → ResolvesAt w.store a x → IsResultFor g x words
      → Good g P (finished a (result_kept t words w))
  resulted_good l a words w t x ground h empty some at took =
      let F : Subtask → Subtask = λ subtask. record subtask { result = words } in
      finished_good g P used t h.func a (result_kept t words w) empty (record {
        ground = ground_kept g w.store t words w.tasks w.insts (λ z there. subst (λ (u : Task). IsSome u.resolution × IsResultFor g u words) (some_same (sym h.there ∙ there)) (some, took)) ground;
        first = h.first;
        is = now_is w.tasks t (λ z. record z { caller = caller_changed F z.caller }) (λ z. x ≡ z) (Finishing g h.func a w.store)
            (λ z own. subst (λ (u : Task). Finishing g h.func a w.store (record u { caller = caller_changed F u.caller })) own (h.acts, h.runs, h.of_graph, still_resolves a w.store x F at)) (x, h.there, refl);
      })

  -- by what follows
  lowered_good : (next : Then) (l : Lowering) (words : List ℕ) (w : World) (t : ℕ) (x : Task) → AnswersFit P next → IsGrounded g w.store w.tasks w.insts (pending_then next) → IsLowered g l w t x → StartsBare next x → FollowsFor next w.chain
      → LowersAt w.store next x → Takes g next x words → Good g P (lowered next words w)
  unfolding lowered
  lowered_good Starts l words w t x answers ground h bare follows at takes = started_good t x words w ground h.first h.there h.acts h.of_graph bare takes
  lowered_good (Transfers copying) l words w t x answers ground h bare follows at takes = transferring_good t copying w answers (record { ground = ground; first = h.first; is = (x, h.there, (h.acts, at)) })
  lowered_good (Resolves to after) l words w t x answers ground h bare follows at takes =
      let same : t ≡ to = some_same (sym h.first ∙ follows) in
      subst (λ (n : ℕ). IsGrounded g w.store w.tasks w.insts (Some n) → Good g P (finished after (result_kept n words w))) same
      (λ grounded. resulted_good l after words w t x grounded h (empty_of to after answers) at.0 at.1 takes) ground

  found_some : {A : Type 0} (xs : List A) (o : Option ℕ) (f : ℕ × A) → found_at xs o ≡ Some f → (o ≡ Some f.0) × (slice_get xs f.0 ≡ Some f.1)
  found_some xs None f e = cc
  found_some {A} xs (Some n) f e = by (slice_get xs n) refl e
    where
      by : (o : Option A) → slice_get xs n ≡ o → option_map (λ (y : A). (n, y)) o ≡ Some f → (Some n ≡ Some f.0) × (slice_get xs f.0 ≡ Some f.1)
      by None there k = cc
      by (Some y) there k = (let same : (n, y) ≡ f = some_same k in (ap (λ (p : ℕ × A). Some p.0) same, subst (λ (p : ℕ × A). slice_get xs p.0 ≡ Some p.1) same there))

  -- by where the plan pauses
  paused_good : (l : Lowering) (p : Paused) (count : ℕ) (w : World) (t : ℕ) (x : Task) → AnswersFit P l.next → IsGrounded g w.store w.tasks w.insts (pending_then l.next) → IsLowered g l w t x → IsLoweringFor w.store l x → count ≤ memory_size w.store l.memory
      → PausesAt (Takes g l.next x) count p → Good g P (paused l p w)
  unfolding paused
  paused_good l (Words words) count w t x answers ground h at more takes = lowered_good l.next l words w t x answers ground h h.bare h.follows at.0 takes
  paused_good l (Failed why) count w t x answers ground h at more takes = λ a inside. inl tt
  paused_good l (Asked ask k) count w t x answers ground h at more takes =
      given_good g P (found_at w.store.funcs l.realloc) _ (λ f e.
      let found = found_some w.store.funcs l.realloc f e in
      let gives_place = at.1 f.0 found.0 in
      let typed : type_of f.1 ≡ realloc_type = ap type_of (some_same (sym found.1 ∙ gives_place.1)) ∙ gives_place.2 in
      λ a inside. inr (record {
        ground = ground;
        acts = (
          typed_start w.store f.0 f.1 realloc_type (ask_words ask) ground.store found.1 typed takes.0,
          (t, h.first, (x, h.there, (at, λ place later small enough. takes.1 place later small (omega (arith, more, enough))))),
        );
      }))

  pub lowers_good : (l : Lowering) (plan : Plan) (w : World) (t : ℕ) (x : Task) → AnswersFit P l.next → HaveHistories w.insts → IsGrounded g w.store w.tasks w.insts (pending_then l.next) → IsLowered g l w t x → IsLoweringFor w.store l x
      → IsPlanned (Takes g l.next x) (memory_size w.store l.memory) plan → Good g P (lowers_turn l plan w)
  unfolding lowers_turn settled_turn
  lowers_good l plan w t x answers history ground h at planned =
      let old : List ℕ = bytes_of w.store l.memory in
      let table : List (Event Entry) = table_of w l.inst in
      let s : Settled = settle l.acts_for plan old table in
      let settled : IsSettled (Takes g l.next x) old s = settles (Takes g l.next x) l.acts_for plan old table planned (memory_bytes w.store l.memory ground.bytes)
      (table_reps (slice_get w.insts l.inst) (λ y e. all_at (λ (z : Inst). AllByRecursion EventHasRep z.table) w.insts l.inst y ground.reps e))
      (table_history (slice_get w.insts l.inst) (λ y e. all_at (λ (z : Inst). IsHistory z.table) w.insts l.inst y history e)) in
      let v : World = left_by l s w in
      let on : GoesOn w.store v.store = rewritten_goes_on w.store l.memory s.bytes ground.store ground.bytes settled.long settled.are in
      paused_good l s.paused (length old) v t x answers
      (ground_insts g v.store w.tasks w.insts v.insts (pending_then l.next) (reps_changed l.inst _ w.insts (λ y k. settled.reps) ground.reps) (ground_later g w.store v.store w.tasks w.insts (pending_then l.next) on ground))
      (record { first = h.first; there = h.there; acts = h.acts; of_graph = h.of_graph; func = h.func; runs = h.runs; bare = h.bare; follows = h.follows }) (lowering_later w.store v.store l x on at) (size_later w.store v.store l.memory on.extends) settled.pauses
