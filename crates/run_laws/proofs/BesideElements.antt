-- What a lowering over what is kept leaves as it was: the chain, streams and futures, and what tasks do. And how many elements are lifted.
use Rattle.std.proofs.Common.{◌≡◌, ◌+◌, ◌*◌, ◌==◌, ℕ, zero, suc, Bool, true, false, if◌then◌else◌, List, [], ◌∷◌, ◌++◌, map, length, replicate, refl, sym, ap, ◌∙◌, subst, arith, Option, Some, None, Result, Ok, Err}
use Rattle.std.specs.List.{slice_get, filter_map}
use Rattle.std.proofs.lemmas.Bool.{eqb-true}
use Rattle.syntax_trees.specs.declared.types.ValType.{ValType}
use Rattle.syntax_trees.specs.declared.value.Value.{Value}
use Rattle.copy_engine.specs.declared.acts.Act.{Act}
use Rattle.copy_engine.specs.declared.acts.Acts.{Acts}
use Rattle.copy_engine.specs.declared.answering.CallRefusal.TheVariants as refusal
use Rattle.copy_engine.specs.declared.hosted.HostedTrap.TheVariants as hosted
use Rattle.copy_engine.specs.declared.lower_values.Lowered.{Lowered}
use Rattle.copy_engine.specs.declared.lower_values.Lowered.TheVariants as lowered
use Rattle.value_lower.specs.Plan.{Plan}
use Rattle.value_lift.specs.Bytes.{is_inside, is_aligned}
use Rattle.builtin_kinds.specs.declared.EndKind.{EndKind}
use Rattle.builtin_kinds.specs.declared.EndKind.TheVariants as kind
use Rattle.channels.specs.declared.channel.Channel as kept_channel
use Rattle.comp_graph.specs.Graph.{Graph}
use Rattle.graph_views.specs.Canons.{canon_at}
use Rattle.graph_views.specs.Names.{builtin_of}
use Rattle.trace_labels.specs.declared.label.Label.{Label}
use Rattle.trace_labels.specs.declared.label.Label.TheVariants as line
use Rattle.task_table.specs.declared.errand.Callee.{Callee}
use Rattle.task_table.specs.declared.slot.TaskSlot.{TaskSlot}
use Rattle.task_table.specs.Slots.{with_word}
use Rattle.world_parts.specs.Held as kept
use Rattle.world_parts.specs.Held.{Held, Done, Gives, Traps, Spent, after, given}
use Rattle.world_parts.specs.Feed.{told}
use Rattle.world_parts.specs.Slots.{with_task, context_set}
use Rattle.world_parts.specs.Channels.{channel_at, numbered}
use Rattle.value_moves.specs.declared.lowering.Destination.{Destination}
use Rattle.value_moves.specs.Lowering.{Site, left_at, got_told, act_told, all_told, lowered_by, finished, LowersAt}
use Rattle.abi_machine.specs.LiftingOver as machine
use Rattle.abi_machine.specs.Lifting as lifting
use Rattle.abi_machine.specs.World.{World}
use Rattle.abi_machine.specs.Passing as passing
use Rattle.run_laws.specs.Lifted.{callees_of}
use Rattle.run_laws.proofs.Moved.{seen_set}

-- How many images there are.
pub map_long : {A B : Type 0} (f : A → B) (xs : List A) → length (map f xs) ≡ length xs
map_long f [] = refl
map_long f (x ∷ xs) = ap suc (map_long f xs)

-- What stays.
pub record IsBeside (h k : Held) : Type 0 where
  pub chain : k.chain ≡ h.chain
  pub streams : k.streams ≡ h.streams
  pub futures : k.futures ≡ h.futures
  pub same_tasks : callees_of k.tasks ≡ callees_of h.tasks

abbrev pub KeepsBeside : {A : Type 0} → Held → Done A → Type 0
KeepsBeside h (Gives x k) = IsBeside h k
KeepsBeside h (Traps why k) = IsBeside h k
KeepsBeside h (Spent k) = Unit {0}
KeepsBeside h kept.Stuck = Unit {0}

pub then_beside : (h k l : Held) → IsBeside h k → IsBeside k l → IsBeside h l
then_beside h k l first more = record {
  chain = more.chain ∙ first.chain;
  streams = more.streams ∙ first.streams;
  futures = more.futures ∙ first.futures;
  same_tasks = more.same_tasks ∙ first.same_tasks;
}

-- There are as many tasks.
pub as_many : (h k : Held) → IsBeside h k → length k.tasks ≡ length h.tasks
as_many h k same =
    sym (map_long (λ (slot : TaskSlot). slot.callee) k.tasks) ∙ ap (λ (all : List Callee). length all) same.same_tasks ∙ map_long (λ (slot : TaskSlot). slot.callee) h.tasks

keeps_then : {A : Type 0} (h k : Held) (d : Done A) → IsBeside h k → KeepsBeside k d → KeepsBeside h d
keeps_then h k (Gives x l) first more = then_beside h k l first more
keeps_then h k (Traps why l) first more = then_beside h k l first more
keeps_then h k (Spent l) first more = tt
keeps_then h k kept.Stuck first more = tt

after_beside : {A B : Type 0} (h : Held) (d : Done A) (F : A → Held → Done B) → KeepsBeside h d → ((x : A) (k : Held) → KeepsBeside k (F x k)) → KeepsBeside h (after d F)
after_beside h (Gives x k) F first more = keeps_then h k (F x k) first (more x k)
after_beside h (Traps why k) F first more = first
after_beside h (Spent k) F first more = tt
after_beside h kept.Stuck F first more = tt

given_beside : {A B : Type 0} (h : Held) (o : Option A) (F : A → Done B) → ((x : A) → o ≡ Some x → KeepsBeside h (F x)) → KeepsBeside h (given o F)
given_beside h None F more = tt
given_beside h (Some x) F more = more x refl

-- Words of context, and calls that are told.
context_beside : (t number word : ℕ) (h : Held) → KeepsBeside h (context_set t number word h)
context_beside t number word h =
    given_beside h (slice_get h.tasks t) (λ slot. Gives tt (with_task t (with_word number word slot) h))
    (λ slot there. record {
      chain = refl;
      streams = refl;
      futures = refl;
      same_tasks = seen_set (λ (x : TaskSlot). x.callee) h.tasks t slot (with_word number word slot) there refl;
    })

told_beside : (label : Label) (h : Held) → KeepsBeside h (told label h)
told_beside label h = record { chain = refl; streams = refl; futures = refl; same_tasks = refl }

nothing_beside : (h : Held) → IsBeside h h
nothing_beside h = record { chain = refl; streams = refl; futures = refl; same_tasks = refl }

got_beside : (t : ℕ) (got : Option (List ℕ)) (h : Held) → KeepsBeside h (got_told t got h)
got_beside t None h = nothing_beside h
got_beside t (Some words) h = told_beside (line.Got t words) h

act_beside : (g : Graph) (t : ℕ) (act : Act) (h : Held) → KeepsBeside h (act_told g t act h)
act_beside g t act h =
    given_beside h (canon_at g act.canon) (λ c. after (told (line.Do t (builtin_of c) act.words) h) (λ done k. got_told t act.got k))
    (λ c there. after_beside h (told (line.Do t (builtin_of c) act.words) h) (λ done k. got_told t act.got k) (told_beside (line.Do t (builtin_of c) act.words) h)
    (λ done k. got_beside t act.got k))

acts_beside : (g : Graph) (t : ℕ) (acts : List Act) (h : Held) → KeepsBeside h (all_told g t acts h)
acts_beside g t [] h = nothing_beside h
acts_beside g t (act ∷ acts) h =
    after_beside h (act_told g t act h) (λ done k. all_told g t acts k) (act_beside g t act h) (λ done k. acts_beside g t acts k)

lowered_beside : (came : Lowered) (h : Held) → KeepsBeside h (lowered_by came h)
lowered_beside (lowered.Words words) h = nothing_beside h
lowered_beside (lowered.Failed why) h = nothing_beside h
lowered_beside (lowered.Trapped (hosted.Core why)) h = nothing_beside h
lowered_beside (lowered.Trapped (hosted.Call refusal.CannotLeave)) h = nothing_beside h
lowered_beside (lowered.Trapped (hosted.Call (refusal.Refused why))) h = nothing_beside h
lowered_beside (lowered.Trapped (hosted.Call refusal.NoRule)) h = tt
lowered_beside (lowered.Trapped hosted.NoRealloc) h = tt
lowered_beside lowered.NoFuel h = tt

finished_beside : (g : Graph) (t : ℕ) (acts : Acts) (came : Lowered) (h : Held) → KeepsBeside h (finished g t acts came h)
unfolding finished
finished_beside g t acts came h =
    after_beside h (context_set t 0 acts.context.0 h) (λ done k. after (context_set t 1 acts.context.1 k) (λ done l. after (all_told g t acts.calls l) (λ done m. lowered_by came m)))
    (context_beside t 0 acts.context.0 h)
    (λ done k. after_beside k (context_set t 1 acts.context.1 k) (λ done l. after (all_told g t acts.calls l) (λ done m. lowered_by came m)) (context_beside t 1 acts.context.1 k)
    (λ done l. after_beside l (all_told g t acts.calls l) (λ done m. lowered_by came m) (acts_beside g t acts.calls l) (λ done m. lowered_beside came m)))

pub lowers_beside : (g : Graph) (to : Destination) (types : List ValType) (plan : Plan) (site : Site) (h : Held) (d : Done (List ℕ)) → LowersAt g to types plan site h d → KeepsBeside h d
lowers_beside g to types plan site h d lowers =
    subst (λ (e : Done (List ℕ)). KeepsBeside h e) (sym lowers.3)
    (keeps_then h (left_at to site lowers.1 h) (finished g to.task lowers.1.room.acts lowers.0 (left_at to site lowers.1 h)) (record { chain = refl; streams = refl; futures = refl; same_tasks = refl })
    (finished_beside g to.task lowers.1.room.acts lowers.0 (left_at to site lowers.1 h)))

-- The same stream or future is found, and the same places hold something.
pub channel_beside : (k : EndKind) (number : ℕ) (h l : Held) → IsBeside h l → channel_at k number l ≡ channel_at k number h
channel_beside kind.Stream number h l same = ap (λ (all : List kept_channel.Channel). numbered all number) same.streams
channel_beside kind.Future number h l same = ap (λ (all : List kept_channel.Channel). numbered all number) same.futures

-- How many elements are lifted.
abbrev pub AreCounted : {S J : Type 0} → ℕ → Result (List Value × S) J → Type 0
AreCounted n (Ok x) = length x.0 ≡ n
AreCounted n (Err stop) = Unit {0}

one_more : {A : Type 0} (xs : List A) (x : A) → length (xs ++ x ∷ []) ≡ suc (length xs)
one_more [] x = refl
one_more (y ∷ xs) x = ap suc (one_more xs x)

module _ {S J : Type 0} (m : machine.Ledger S J) where
  after_counted : {A : Type 0} (n : ℕ) (r : Result (A × S) J) (f : A → S → Result (List Value × S) J) → ((x : A) (k : S) → AreCounted n (f x k)) → AreCounted n (machine.after r f)
  after_counted n (Ok x) f more = more x.0 x.1
  after_counted n (Err stop) f more = tt

  if_counted : (n : ℕ) (b : Bool) (r q : Result (List Value × S) J) → (b ≡ true → AreCounted n r) → AreCounted n q → AreCounted n (if b then r else q)
  if_counted n true r q on_true on_false = on_true refl
  if_counted n false r q on_true on_false = on_false

  elements_counted : (p : machine.Part S J) (memory : List ℕ) (before : List Value) (count at : ℕ) (k : S) → AreCounted (length before + count) (machine.elements_from m p memory before count at k)
  elements_counted p memory before zero at k = omega (arith)
  elements_counted p memory before (suc count) at k =
      after_counted (length before + suc count) (p.lift memory at k) (λ v j. machine.elements_from m p memory (before ++ v ∷ []) count (at + p.laid.size) j)
      (λ v j.
      (let one : length (before ++ v ∷ []) ≡ suc (length before) = one_more before v in
      let sum : length (before ++ v ∷ []) + count ≡ length before + suc count = omega (arith, one) in
      subst (λ (n : ℕ). AreCounted n (machine.elements_from m p memory (before ++ v ∷ []) count (at + p.laid.size) j)) sum
      (elements_counted p memory (before ++ v ∷ []) count (at + p.laid.size) j)))

  list_counted : (t : ValType) (memory : List ℕ) (place count : ℕ) (k : S) → AreCounted count (machine.load_list_by m t memory place count k)
  list_counted t memory place count k =
      let p : machine.Part S J = machine.part m t in
      if_counted count (count == 0) (Ok ([], k)) (machine.elements_of m p place count memory place k) (λ none. sym (eqb-true count 0 none))
      (if_counted count (is_aligned place p.laid.align) (if is_inside place (count * p.laid.size) memory then machine.elements_from m p memory [] count place k else Err _) (Err _)
      (λ aligned. if_counted count (is_inside place (count * p.laid.size) memory) (machine.elements_from m p memory [] count place k) (Err _)
      (λ inside.
      (let none : 0 + count ≡ count = omega (arith) in
      subst (λ (n : ℕ). AreCounted n (machine.elements_from m p memory [] count place k)) none (elements_counted p memory [] count place k))) tt) tt)

pub lifted_counted : (at callee : ℕ) (type : ValType) (bytes : List ℕ) (place count : ℕ) (w : World) → AreCounted count (passing.elements_lifted at callee type bytes place count w)
unfolding passing.elements_lifted
lifted_counted at callee type bytes place count w = list_counted (lifting.by_world at callee) type bytes place count _

-- All of them are there.
pub all_there : {A : Type 0} (xs : List A) → filter_map (λ (v : Option A). v) (map Some xs) ≡ xs
all_there [] = refl
all_there (x ∷ xs) = ap (λ ys. x ∷ ys) (all_there xs)

pub copies_long : {A : Type 0} (n : ℕ) (x : A) → length (replicate n x) ≡ n
copies_long zero x = refl
copies_long (suc n) x = ap suc (copies_long n x)
