-- What is typed in a world stays so where tasks, tables and the store are changed.
use Rattle.std.proofs.Common.{◌≡◌, ◌∙◌, ◌<◌, ◌≤◌, ◌⊎◌, inl, inr, ◌+◌, ◌^◌, ℕ, zero, suc, false, List, [], ◌∷◌, ◌++◌, length, refl, sym, ap, subst, arith, Option, Some, None}
use Rattle.std.specs.Prelude.{IsSome, slice_index}
use Rattle.std.specs.List.{slice_get}
use Rattle.std.specs.Option.{option_map}
use Rattle.wasm_memory.specs.Memories.{MemoryState, with_bytes}
use Rattle.wasm_store.specs.Store.{Function, Instance, Store, found_at}
use Rattle.wasm_store.specs.Stack.{Stack}
use Rattle.wasm_store.specs.Typed.{StoreTyped, Extends}
use Rattle.wasm_store.proofs.Lists.{all_set}
use Rattle.wasm_store.proofs.Changing.{writes_typed}
use Rattle.wasm_store.proofs.Stores.{store_same}
use Rattle.tasks.specs.declared.phase.Cancellation.{Cancellation}
use Rattle.tasks.specs.declared.phase.Resolution.{Resolution}
use Rattle.comp_graph.specs.declared.graph.Options.{Options}
use Rattle.comp_graph.specs.Graph.{Graph, canon_type}
use Rattle.lowering_laws.specs.Values.{AreBytes}
use Rattle.lowering_laws.specs.StoreBytes.{HasBytesAlone}
use Rattle.lowering_laws.proofs.Stores.{GoesOn}
use Rattle.abi_machine.specs.World.{Inst, Callee, Subtask, Caller, Nobody, Host, Guest, Wait, ForYield, ForSet, ForCall, ForCopy, ForCancel, TaskState, New, Acting, AfterCall, AfterCancel, Begins, WaitsToEnter, InLoop, InBuiltin, Exited, Task, new_task}
use Rattle.abi_machine.specs.Edits.{changed_at, caller_changed, word_changed, rewritten}
use Rattle.abi_machine.specs.Canons.{memory_of, bytes_of_memory, bytes_of, options_at}
use Rattle.abi_machine.specs.sound.Answers.{IsOfCanon}
use Rattle.abi_machine.specs.sound.Firsts.{TaskIs}
use Rattle.abi_machine.specs.sound.TypedStacks.{IsWaiting, TopIs, WaitsTyped, StandsTyped}
use Rattle.abi_machine.specs.sound.Planned.{HaveReps}
use Rattle.abi_machine.specs.sound.TypedWorlds.{memory_size, HasEventRoom, WaitsFor, WaitsSo, GuestIs, IsSync, IsFair, HasResult, IsGiven, IsTypedTask, AreTypedTasks, IsResultFor, IsGrounded}
use Rattle.abi_machine.proofs.sound.Lists.{more_either}
use Rattle.abi_machine.proofs.sound.Found.{some_same}
use Rattle.abi_machine.proofs.sound.TypedMoves.{top_later, stand_later}
use Rattle.abi_machine.proofs.sound.typed.Made.{made_still}

-- A list in which an item is changed.
pub changed_split : {A : Type 0} (t : ℕ) (f : A → A) (xs : List A) (n : ℕ) (y : A) → slice_get (changed_at t f xs) n ≡ Some y
    → ((n ≡ t) × ((x : A) × (slice_get xs t ≡ Some x) × (y ≡ f x))) ⊎ ((n ≡ t → ⊥) × (slice_get xs n ≡ Some y))
changed_split t f [] n y h = cc
changed_split zero f (x ∷ xs) zero y h = inl (refl, (x, refl, sym (some_same h)))
changed_split zero f (x ∷ xs) (suc n) y h = inr (λ e. omega (arith, e), h)
changed_split (suc t) f (x ∷ xs) zero y h = inr (λ e. omega (arith, e), h)
changed_split (suc t) f (x ∷ xs) (suc n) y h = elim (changed_split t f xs n y h) [
  | inl new ↦ inl (ap suc new.0, new.1)
  | inr old ↦ inr (λ e. old.0 (omega (arith, e)), old.1)
]

-- The caller's side of a call.
pub guest_map : (P Q : Subtask → Type 0) (c : Caller) → ((x : Subtask) → P x → Q x) → GuestIs P c → GuestIs Q c
guest_map P Q Nobody f h = tt
guest_map P Q (Host call values) f h = tt
guest_map P Q (Guest subtask) f h = f subtask h

pub guest_both : (P R Q : Subtask → Type 0) (c : Caller) → ((x : Subtask) → P x → R x → Q x) → GuestIs P c → GuestIs R c → GuestIs Q c
guest_both P R Q Nobody f h k = tt
guest_both P R Q (Host call values) f h k = tt
guest_both P R Q (Guest subtask) f h k = f subtask h k

guest_changed : (P : Subtask → Type 0) (F : Subtask → Subtask) (c : Caller) → ((x : Subtask) → P x → P (F x)) → GuestIs P c → GuestIs P (caller_changed F c)
guest_changed P F Nobody f h = tt
guest_changed P F (Host call values) f h = tt
guest_changed P F (Guest subtask) f h = f subtask h

pub guest_all : (P : Subtask → Type 0) (c : Caller) → ((x : Subtask) → P x) → GuestIs P c
guest_all P Nobody f = tt
guest_all P (Host call values) f = tt
guest_all P (Guest subtask) f = f subtask

given_changed : (callee : Callee) (F : Subtask → Subtask) (c : Caller) → IsGiven callee c → IsGiven callee (caller_changed F c)
given_changed callee F Nobody h = tt
given_changed callee F (Host call values) h = h
given_changed callee F (Guest subtask) h = tt

abbrev pub NotSync : Graph → Task → Type 0
NotSync g task = GuestIs (λ subtask. IsSync g subtask → ⊥) task.caller

-- Later stores.
still_addressed : (s t : Store) (options : Options) → t.instances ≡ s.instances → memory_of t options ≡ memory_of s options
still_addressed s t options same = ap (λ (is : List Instance). memory_of (record s { instances = is }) options) same

pub size_later : (s t : Store) (memory : Option ℕ) → Extends s t → memory_size s memory ≤ memory_size t memory
size_later s t None x = omega arith
size_later s t (Some a) x = by (slice_get s.memories a) refl
  where
    by : (o : Option MemoryState) → slice_get s.memories a ≡ o → length (bytes_of_memory (option_map (λ m. (a, m)) o)) ≤ memory_size t (Some a)
    by None e = omega arith
    by (Some m) e =
        let n = x.memories a m e in
        subst (λ (o : Option MemoryState). length m.bytes ≤ length (bytes_of_memory (option_map (λ (m : MemoryState). (a, m)) o))) (sym n.1) n.2.1

pub rewritten_goes_on : (s : Store) (memory : Option ℕ) (bytes : List ℕ) → StoreTyped s → HasBytesAlone s → length bytes ≡ length (bytes_of s memory) → AreBytes bytes → GoesOn s (rewritten (found_at s.memories memory) bytes s)
rewritten_goes_on s None bytes typed all long are = record { extends = store_same s; typed = typed; funcs = refl; instances = refl; bytes = all }
rewritten_goes_on s (Some a) bytes typed all long are = by (slice_get s.memories a) refl long
  where
    by : (o : Option MemoryState) → slice_get s.memories a ≡ o → length bytes ≡ length (bytes_of_memory (option_map (λ m. (a, m)) o)) → GoesOn s (rewritten (option_map (λ m. (a, m)) o) bytes s)
    by None e h = record { extends = store_same s; typed = typed; funcs = refl; instances = refl; bytes = all }
    by (Some m) e h =
        let t = writes_typed s a m (with_bytes m bytes) typed e refl h in
        record { extends = t.0; typed = t.1; funcs = refl; instances = refl; bytes = all_set (λ (memory : MemoryState). AreBytes memory.bytes) s.memories a (with_bytes m bytes) all are }

room_later : (g : Graph) (s t : Store) (number : ℕ) (words : List ℕ) → Extends s t → t.instances ≡ s.instances → HasEventRoom g s number words → HasEventRoom g t number words
room_later g s t number words x same h =
    let there : memory_of t (options_at g number) ≡ memory_of s (options_at g number) = still_addressed s t (options_at g number) same in
    let more : memory_size s (memory_of s (options_at g number)) ≤ memory_size t (memory_of s (options_at g number)) = size_later s t (memory_of s (options_at g number)) x in
    subst (λ (m : Option ℕ). slice_index words 1 + 8 ≤ memory_size t m) (sym there) (omega (arith, h, more))

waits_for_later : (g : Graph) (s t : Store) (number : ℕ) (words : List ℕ) (wait : Wait) → Extends s t → t.instances ≡ s.instances → WaitsFor g s number words wait → WaitsFor g t number words wait
waits_for_later g s t number words ForYield x same h = h
waits_for_later g s t number words (ForSet index) x same h = (h.0, room_later g s t number words x same h.1)
waits_for_later g s t number words (ForCall callee) x same h = tt
waits_for_later g s t number words (ForCopy index) x same h = h
waits_for_later g s t number words (ForCancel index) x same h = h

waits_so_later : (g : Graph) (s t : Store) (state : TaskState) → Extends s t → t.instances ≡ s.instances → WaitsSo g s state → WaitsSo g t state
waits_so_later g s t (AfterCancel callee number words) x same h = h
waits_so_later g s t (InBuiltin number words wait) x same h = waits_for_later g s t number words wait x same h
waits_so_later g s t New x same h = tt
waits_so_later g s t Acting x same h = tt
waits_so_later g s t (AfterCall callee number words) x same h = tt
waits_so_later g s t (Begins n) x same h = tt
waits_so_later g s t WaitsToEnter x same h = tt
waits_so_later g s t (InLoop word) x same h = tt
waits_so_later g s t Exited x same h = tt

pub canon_waits_later : (g : Graph) (s t : Store) (number : ℕ) (task : Task) → Extends s t → WaitsTyped g s number task → WaitsTyped g t number task
canon_waits_later g s t number task x h = (h.0, h.1, top_later s t (canon_type h.0).results task.callee task.stacks x h.2)

module _ (g : Graph) where
  -- the store goes on
  pub ground_later : (s t : Store) (tasks : List Task) (insts : List Inst) (p : Option ℕ) → GoesOn s t → IsGrounded g s tasks insts p → IsGrounded g t tasks insts p
  ground_later s t tasks insts p x h = record {
    store = x.typed;
    canons = λ number c there. ap (λ (fs : List Function). slice_get fs number) x.funcs ∙ h.canons number c there;
    hosts = λ address type there. h.hosts address type (sym (ap (λ (fs : List Function). slice_get fs address) x.funcs) ∙ there);
    bytes = x.bytes;
    made = made_still s t g.cores x.extends x.instances h.made;
    tasks_are = λ n task there. (let k = h.tasks_are n task there in record {
      stands = (stand_later g s t (task ∷ []) x.extends x.instances (k.stands, tt)).0;
      waits = waits_so_later g s t task.state x.extends x.instances k.waits;
      context = k.context;
      fair = k.fair;
      given = k.given;
      result = k.result;
    });
    reps = h.reps;
  }

  module _ (s : Store) where
    -- tables, and tasks
    pub ground_insts : (tasks : List Task) (insts others : List Inst) (p : Option ℕ) → HaveReps others → IsGrounded g s tasks insts p → IsGrounded g s tasks others p
    ground_insts tasks insts others p reps h = record { store = h.store; canons = h.canons; hosts = h.hosts; bytes = h.bytes; made = h.made; tasks_are = h.tasks_are; reps = reps }

    ground_tasks : (tasks others : List Task) (insts : List Inst) (p q : Option ℕ) → AreTypedTasks g s q others → IsGrounded g s tasks insts p → IsGrounded g s others insts q
    ground_tasks tasks others insts p q are h = record { store = h.store; canons = h.canons; hosts = h.hosts; bytes = h.bytes; made = h.made; tasks_are = are; reps = h.reps }

    pending_as : (n : ℕ) (task : Task) (p q : Option ℕ) → (p ≡ Some n → q ≡ Some n) → IsTypedTask g s p n task → IsTypedTask g s q n task
    pending_as n task p q f h = record {
      stands = h.stands;
      waits = h.waits;
      context = h.context;
      fair = h.fair;
      given = h.given;
      result = elim h.result [ inl pending ↦ inl (f pending) | inr result ↦ inr result ];
    }

    -- one task is changed
    ground_changed : (t : ℕ) (f : Task → Task) (tasks : List Task) (insts : List Inst) (p q : Option ℕ) → ((n : ℕ) → (n ≡ t → ⊥) → p ≡ Some n → q ≡ Some n)
        → ((x : Task) → slice_get tasks t ≡ Some x → IsTypedTask g s p t x → IsTypedTask g s q t (f x)) → IsGrounded g s tasks insts p → IsGrounded g s (changed_at t f tasks) insts q
    ground_changed t f tasks insts p q others keeps h =
        ground_tasks tasks (changed_at t f tasks) insts p q
        (λ n y there. elim (changed_split t f tasks n y there) [
          | inl new ↦ subst (λ (z : Task). IsTypedTask g s q n z) (sym new.1.2) (subst (λ (m : ℕ). IsTypedTask g s q m (f new.1.0)) (sym new.0) (keeps new.1.0 new.1.1 (h.tasks_are t new.1.0 new.1.1)))
          | inr old ↦ pending_as n y p q (others n old.0) (h.tasks_are n y old.1)
        ]) h

    -- its state, and the stacks of one that acts
    pub ground_state : (t : ℕ) (state : TaskState) (tasks : List Task) (insts : List Inst) (p : Option ℕ) → ((x : Task) → slice_get tasks t ≡ Some x → StandsTyped g s state (record x { state = state })) → WaitsSo g s state
        → IsGrounded g s tasks insts p → IsGrounded g s (changed_at t (λ x. record x { state = state }) tasks) insts p
    ground_state t state tasks insts p stands waits h =
        ground_changed t (λ x. record x { state = state }) tasks insts p p (λ n other e. e)
        (λ x there k. record { stands = stands x there; waits = waits; context = k.context; fair = k.fair; given = k.given; result = k.result }) h

    acting_stands : (state : TaskState) (x : Task) → state ≡ Acting → StandsTyped g s state x
    acting_stands state x e = subst (λ (st : TaskState). StandsTyped g s st x) (sym e) tt

    pub ground_stacks : (t : ℕ) (F : List Stack → List Stack) (tasks : List Task) (insts : List Inst) (p : Option ℕ) → TaskIs tasks t (λ x. x.state ≡ Acting) → IsGrounded g s tasks insts p
        → IsGrounded g s (changed_at t (λ x. record x { stacks = F x.stacks }) tasks) insts p
    ground_stacks t F tasks insts p acts h =
        ground_changed t (λ x. record x { stacks = F x.stacks }) tasks insts p p (λ n other e. e)
        (λ x there k. record {
          stands = acting_stands x.state (record x { stacks = F x.stacks }) (ap (λ (y : Task). y.state) (some_same (sym there ∙ acts.1)) ∙ acts.2);
          waits = k.waits;
          context = k.context;
          fair = k.fair;
          given = k.given;
          result = k.result;
        }) h

    -- how far its cancellation is, and what it resolved to
    same_stands : (state : TaskState) (x y : Task) → x.callee ≡ y.callee → x.stacks ≡ y.stacks → StandsTyped g s state x → StandsTyped g s state y
    same_stands New x y callee stacks h = tt
    same_stands Acting x y callee stacks h = tt
    same_stands (AfterCall other number words) x y callee stacks h = (h.0, h.1, subst (λ (c : Callee). TopIs (IsWaiting s (canon_type h.0).results) s c y.stacks) callee (subst (λ (ks : List Stack). TopIs (IsWaiting s (canon_type h.0).results) s x.callee ks) stacks h.2))
    same_stands (AfterCancel other number words) x y callee stacks h = (h.0, h.1, subst (λ (c : Callee). TopIs (IsWaiting s (canon_type h.0).results) s c y.stacks) callee (subst (λ (ks : List Stack). TopIs (IsWaiting s (canon_type h.0).results) s x.callee ks) stacks h.2))
    same_stands (Begins n) x y callee stacks h = h
    same_stands WaitsToEnter x y callee stacks h = tt
    same_stands (InLoop word) x y callee stacks h = tt
    same_stands (InBuiltin number words wait) x y callee stacks h = (h.0, h.1, subst (λ (c : Callee). TopIs (IsWaiting s (canon_type h.0).results) s c y.stacks) callee (subst (λ (ks : List Stack). TopIs (IsWaiting s (canon_type h.0).results) s x.callee ks) stacks h.2))
    same_stands Exited x y callee stacks h = tt

    pub ground_cancelled : (t : ℕ) (c : Cancellation) (tasks : List Task) (insts : List Inst) (p : Option ℕ) → ((x : Task) → slice_get tasks t ≡ Some x → NotSync g x) → IsGrounded g s tasks insts p
        → IsGrounded g s (changed_at t (λ x. record x { cancellation = c }) tasks) insts p
    ground_cancelled t c tasks insts p apart h =
        ground_changed t (λ x. record x { cancellation = c }) tasks insts p p (λ n other e. e)
        (λ x there k. record {
          stands = same_stands x.state x (record x { cancellation = c }) refl refl k.stands;
          waits = k.waits;
          context = k.context;
          fair = guest_both _ _ _ x.caller (λ subtask not fair. (λ sync. absurd (not sync), fair.1)) (apart x there) k.fair;
          given = k.given;
          result = k.result;
        }) h

    resolved_fair : (x : Task) (r : Resolution) → IsFair g x → IsFair g (record x { resolution = Some r })
    resolved_fair x r h = guest_map _ _ x.caller (λ subtask fair. (fair.0, λ none. cc)) h

    pub ground_pending : (t : ℕ) (r : Resolution) (tasks : List Task) (insts : List Inst) → IsGrounded g s tasks insts None → IsGrounded g s (changed_at t (λ x. record x { resolution = Some r }) tasks) insts (Some t)
    ground_pending t r tasks insts h =
        ground_changed t (λ x. record x { resolution = Some r }) tasks insts None (Some t) (λ n other e. cc)
        (λ x there k. record {
          stands = same_stands x.state x (record x { resolution = Some r }) refl refl k.stands;
          waits = k.waits;
          context = k.context;
          fair = resolved_fair x r k.fair;
          given = k.given;
          result = inl refl;
        }) h

    pub ground_resolved : (t : ℕ) (r : Resolution) (tasks : List Task) (insts : List Inst) (p : Option ℕ) → ((x : Task) → slice_get tasks t ≡ Some x → IsFair g x → HasResult g (record x { resolution = Some r })) → IsGrounded g s tasks insts p
        → IsGrounded g s (changed_at t (λ x. record x { resolution = Some r }) tasks) insts p
    ground_resolved t r tasks insts p result h =
        ground_changed t (λ x. record x { resolution = Some r }) tasks insts p p (λ n other e. e)
        (λ x there k. record {
          stands = same_stands x.state x (record x { resolution = Some r }) refl refl k.stands;
          waits = k.waits;
          context = k.context;
          fair = resolved_fair x r k.fair;
          given = k.given;
          result = inr (result x there k.fair);
        }) h

    -- the caller's side of its call, of the same canonical function and with the same result
    pub ground_called : (t : ℕ) (F : Subtask → Subtask) (tasks : List Task) (insts : List Inst) (p : Option ℕ) → ((x : Subtask) → (F x).canon ≡ x.canon) → ((x : Subtask) → (F x).result ≡ x.result) → IsGrounded g s tasks insts p
        → IsGrounded g s (changed_at t (λ x. record x { caller = caller_changed F x.caller }) tasks) insts p
    ground_called t F tasks insts p canon result h =
        ground_changed t (λ x. record x { caller = caller_changed F x.caller }) tasks insts p p (λ n other e. e)
        (λ x there k. record {
          stands = same_stands x.state x (record x { caller = caller_changed F x.caller }) refl refl k.stands;
          waits = k.waits;
          context = k.context;
          fair = guest_changed _ F x.caller (λ subtask fair. (λ sync. fair.0 (subst (λ (n : ℕ). (options_at g n).is_async ≡ false) (canon subtask) sync), λ none. result subtask ∙ fair.1 none)) k.fair;
          given = given_changed x.callee F x.caller k.given;
          result = elim k.result [
            | inl pending ↦ inl pending
            | inr own ↦ inr (guest_changed _ F x.caller (λ subtask has some sync.
                subst (λ (words : List ℕ). IsOfCanon g (F subtask).canon words) (sym (result subtask)) (subst (λ (n : ℕ). IsOfCanon g n subtask.result) (sym (canon subtask)) (has some (subst (λ (n : ℕ). (options_at g n).is_async ≡ false) (canon subtask) sync)))) own)
          ];
        }) h

    -- what is kept of its result
    pub ground_kept : (t : ℕ) (words : List ℕ) (tasks : List Task) (insts : List Inst) → ((x : Task) → slice_get tasks t ≡ Some x → IsSome x.resolution × IsResultFor g x words) → IsGrounded g s tasks insts (Some t)
        → IsGrounded g s (changed_at t (λ x. record x { caller = caller_changed (λ subtask. record subtask { result = words }) x.caller }) tasks) insts None
    ground_kept t words tasks insts result h =
        ground_changed t (λ x. record x { caller = caller_changed (λ subtask. record subtask { result = words }) x.caller }) tasks insts (Some t) None (λ n other e. absurd (other (sym (some_same e))))
        (λ x there k. record {
          stands = same_stands x.state x (record x { caller = caller_changed (λ subtask. record subtask { result = words }) x.caller }) refl refl k.stands;
          waits = k.waits;
          context = k.context;
          fair = guest_changed _ (λ subtask. record subtask { result = words }) x.caller (λ subtask fair. (fair.0, λ none. absurd (unresolved x.resolution none (result x there).0))) k.fair;
          given = given_changed x.callee (λ subtask. record subtask { result = words }) x.caller k.given;
          result = inr (kept x.caller x.resolution (result x there).1);
        }) h
      where
        unresolved : (o : Option Resolution) → o ≡ None → IsSome o → ⊥
        unresolved None e some = cc
        unresolved (Some r) e some = cc

        kept : (c : Caller) (o : Option Resolution) → GuestIs (λ subtask. IsSync g subtask → IsOfCanon g subtask.canon words) c
            → GuestIs (λ subtask. IsSome o → IsSync g subtask → IsOfCanon g subtask.canon subtask.result) (caller_changed (λ subtask. record subtask { result = words }) c)
        kept Nobody o k = tt
        kept (Host call values) o k = tt
        kept (Guest subtask) o k = λ some sync. k sync

    -- a word of its context
    pub ground_word : (t slot word : ℕ) (tasks : List Task) (insts : List Inst) (p : Option ℕ) → word < 2 ^ 32 → IsGrounded g s tasks insts p
        → IsGrounded g s (changed_at t (λ x. record x { context = word_changed slot word x.context }) tasks) insts p
    ground_word t slot word tasks insts p small h =
        ground_changed t (λ x. record x { context = word_changed slot word x.context }) tasks insts p p (λ n other e. e)
        (λ x there k. record {
          stands = same_stands x.state x (record x { context = word_changed slot word x.context }) refl refl k.stands;
          waits = k.waits;
          context = by slot x.context k.context;
          fair = k.fair;
          given = k.given;
          result = k.result;
        }) h
      where
        by : (n : ℕ) (c : ℕ × ℕ) → (c.0 < 2 ^ 32) × (c.1 < 2 ^ 32) → ((word_changed n word c).0 < 2 ^ 32) × ((word_changed n word c).1 < 2 ^ 32)
        by zero c k = (small, k.1)
        by (suc n) c k = (k.0, small)

    -- one more
    pub ground_more : (callee : Callee) (caller : Caller) (tasks : List Task) (insts : List Inst) (p : Option ℕ) → GuestIs (λ subtask. subtask.result ≡ []) caller → IsGiven callee caller → IsGrounded g s tasks insts p
        → IsGrounded g s (tasks ++ new_task callee caller New ∷ []) insts p
    ground_more callee caller tasks insts p fresh given h =
        ground_tasks tasks (tasks ++ new_task callee caller New ∷ []) insts p p
        (λ n y there. elim (more_either tasks (new_task callee caller New) n y there) [
          | inl old ↦ h.tasks_are n y old
          | inr new ↦ subst (λ (z : Task). IsTypedTask g s p n z) (sym new.1) (record {
            stands = tt;
            waits = tt;
            context = (omega arith, omega arith);
            fair = guest_map _ _ caller (λ subtask empty. (λ sync. refl, λ none. empty)) fresh;
            given = given;
            result = inr (guest_all _ caller (λ subtask some sync. cc));
          })
        ]) h
