-- Elements that go over.
use Rattle.std.proofs.Common.{◌≡◌, ◌≤◌, ◌+◌, ◌-◌, ◌*◌, ℕ, zero, suc, true, false, is_some, List, [], ◌∷◌, ◌++◌, map, length, replicate, refl, sym, ap, ◌∙◌, subst, append-nil, arith, Option, Some, None, Ok}
use Rattle.std.specs.Prelude.{IsSome}
use Rattle.std.specs.List.{slice_get}
use Rattle.std.specs.Option.{option_map}
use Rattle.wasm_store.specs.Store.{Store, found_at}
use Rattle.wasm_store.specs.Stack.{Stack}
use Rattle.syntax_trees.specs.declared.types.ValType.{ValType}
use Rattle.syntax_trees.specs.declared.value.Value.{Value}
use Rattle.laid_types.specs.Layout.{laid}
use Rattle.laid_types.specs.Handles.{held_borrow}
use Rattle.laid_types.specs.Known.{Numbered, numbered_at}
use Rattle.copy_engine.specs.Copying.{all_fit}
use Rattle.copy_engine.specs.Hosted.{plan_all}
use Rattle.copy_engine.specs.Nested.{bytes_in, with_bytes_in}
use Rattle.stream_ends.specs.declared.open_copy.OpenCopy.{OpenCopy}
use Rattle.builtin_kinds.specs.declared.EndKind.{EndKind}
use Rattle.channels.specs.declared.channel.Channel as kept_channel
use Rattle.handle_table.specs.Alike.{SlotAlike}
use Rattle.comp_graph.specs.declared.graph.CanonFunc.{CanonFunc}
use Rattle.comp_graph.specs.Graph.{Graph}
use Rattle.comp_graph.specs.Passed.{MayBeAt}
use Rattle.script_reader.specs.Script.{Script}
use Rattle.trace_labels.specs.declared.label.Copied.TheVariants.{Units, Values}
use Rattle.trace_labels.specs.declared.label.Label.{Label}
use Rattle.task_table.specs.declared.slot.TaskSlot.{TaskSlot}
use Rattle.programs.specs.declared.program.Program.{Program}
use Rattle.copy_replies.specs.declared.moving.Moving.{Moving}
use Rattle.copy_replies.specs.Moves.{completed}
use Rattle.world_parts.specs.declared.parts.Flow.{Flow}
use Rattle.world_parts.specs.Held as kept
use Rattle.world_parts.specs.Held.{Held, Done, Gives, Traps, Spent, given}
use Rattle.world_parts.specs.Channels as kept_channels
use Rattle.value_parts.specs.Coming.{Behind}
use Rattle.value_parts.specs.Lifting as kept_lifting
use Rattle.value_moves.specs.declared.lowering.Destination.{Destination}
use Rattle.value_moves.specs.Lowering.{Site, address_or_none, destination_at, LowersAt, LowersAll}
use Rattle.value_moves.specs.Transferring.{origin_of, reader_of, copied_values, Reads, MovesElements, MovesOver}
use Rattle.abi_machine.specs.declared.run_end.RunEnd.TheVariants.{Fuel}
use Rattle.abi_machine.specs.LoweringOver as plans
use Rattle.abi_machine.specs.Pausing.{entries_by}
use Rattle.abi_machine.specs.Control.{Copying, Lowering, Lowers, Free}
use Rattle.abi_machine.specs.World.{Inst, Task, Channel, World}
use Rattle.abi_machine.specs.Edits.{changed_at, rewritten, with_control}
use Rattle.abi_machine.specs.Canons.{memory_of, bytes_of, inst_of_canon, options_of_canon, defines}
use Rattle.abi_machine.specs.Reading.{table_in, channel_at}
use Rattle.abi_machine.specs.Lifting as lifting
use Rattle.abi_machine.specs.Lifting.{Came}
use Rattle.abi_machine.specs.Lowering.{lowered, paused, settled_turn, lowers_turn}
use Rattle.abi_machine.specs.Next.{next}
use Rattle.abi_machine.specs.Passing as passing
use Rattle.abi_machine.specs.Passing.{elements_plan}
use Rattle.abi_machine.specs.Turn.{Turn, Steps, silent, behind}
use Rattle.abi_machine.specs.Copying.{next_place, copying_of, copied_of, elements_lowering, elements_written, elements_read, moved_by, transferring_turn}
use Rattle.standing.specs.Stands.{ChannelStands, Stands}
use Rattle.standing.specs.Channels.{IsEndsType}
use Rattle.standing.specs.Tasks.{TaskStands}
use Rattle.standing.specs.Agreeing.{Agrees}
use Rattle.standing.specs.Lowers.{IsMemory}
use Rattle.standing.specs.Reaching.{Meets}
use Rattle.standing.specs.Leading.{EndsBy}
use Rattle.standing.proofs.Changes.{acting_is_alike}
use Rattle.standing.proofs.Channels.{channels_are_alike}
use Rattle.standing.proofs.EndTypes.{one_element}
use Rattle.standing.proofs.Lists.{both_long}
use Rattle.standing.proofs.LoweredMemories.{put_own, same_bytes, same_put}
use Rattle.standing.proofs.Reaching.{meets_here}
use Rattle.run_laws.specs.Taking.{StandsMarked}
use Rattle.run_laws.specs.Lifted.{Leaves, LiftAgrees}
use Rattle.run_laws.specs.Lowered.{IsSiteOf, WordsFollow, LoweredLeads}
use Rattle.run_laws.specs.Completed.{IsRuled, end_of}
use Rattle.run_laws.specs.Copied.{TurnLeads, GoesOver, ElementsGoOver}
use Rattle.run_laws.proofs.Liftings.{elements_lift}
use Rattle.run_laws.proofs.Elements.{elements_lead}
use Rattle.run_laws.proofs.OnceLifted.{doomed_still, lifted_leads}
use Rattle.run_laws.proofs.Sites.{memory_is, memory_there, realloc_there, at_site}
use Rattle.run_laws.proofs.Completed.{Answers, completed_answers, copy_is_completed}
use Rattle.run_laws.proofs.BesideElements.{IsBeside, KeepsBeside, then_beside, as_many, lowers_beside, channel_beside, AreCounted, lifted_counted, all_there, map_long, copies_long}

-- What is written where it stands changes nothing.
own_memory : (memory : Option ℕ) (s : Store) → rewritten (found_at s.memories memory) (bytes_of s memory) s ≡ s
own_memory memory s =
    let address : ℕ = address_or_none memory s in
    let there : IsMemory memory address s = memory_is memory s in
    same_put memory address s (bytes_of s memory) there
    ∙ ap (λ (bytes : List ℕ). with_bytes_in address bytes s) (same_bytes memory address s there)
    ∙ put_own address s

own_table : (n : ℕ) (insts : List Inst) → changed_at n (λ inst. record inst { table = table_in (slice_get insts n) }) insts ≡ insts
own_table n [] = refl
own_table zero (inst ∷ insts) = refl
own_table (suc n) (inst ∷ insts) = ap (λ (all : List Inst). inst ∷ all) (own_table n insts)

-- A plan without a part.
nothing_lowered : (g : Graph) (s : Script) (w : World) (l : Lowering) (words : List ℕ) → next g s (with_control (Lowers l (plans.Gives words)) w) ≡ lowered l.next words (with_control Free w)
unfolding lowers_turn settled_turn paused
nothing_lowered g s w l words =
    ap (λ (store : Store). lowered l.next words (record w { control = Free; store = store; insts = changed_at l.inst (λ inst. record inst { table = table_in (slice_get w.insts l.inst) }) w.insts }))
    (own_memory l.memory w.store)
    ∙ ap (λ (insts : List Inst). lowered l.next words (record w { control = Free; insts = insts })) (own_table l.inst w.insts)

-- Something is there in lists of one length.
there_too : {A B : Type 0} (xs : List A) (ys : List B) (n : ℕ) → length xs ≡ length ys → IsSome (slice_get xs n) → IsSome (slice_get ys n)
there_too [] ys n same there = absurd (cc)
there_too (x ∷ xs) [] n same there = absurd (omega (arith, same))
there_too (x ∷ xs) (y ∷ ys) zero same there = refl
there_too (x ∷ xs) (y ∷ ys) (suc n) same there = there_too xs ys n (omega (arith, same)) there

what_there : {A : Type 0} (o : Option A) → IsSome o → (x : A) × (o ≡ Some x)
what_there None there = absurd (cc)
what_there (Some x) there = (x, refl)

-- A stream or a future on both sides.
record OnBoth (values : List ValType) (k : EndKind) (o : Option kept_channel.Channel) (p : Option Channel) : Type 0 where
  left : kept_channel.Channel
  right : Channel
  is_left : o ≡ Some left
  is_right : p ≡ Some right
  alike : ChannelStands values k left right

of_right : (values : List ValType) (k : EndKind) (o : Option kept_channel.Channel) (p : Option Channel) → IsSome p → SlotAlike (ChannelStands values k) o p → OnBoth values k o p
of_right values k o None there alike = absurd (cc)
of_right values k None (Some a) there alike = absurd alike
of_right values k (Some c) (Some a) there alike = record { left = c; right = a; is_left = refl; is_right = refl; alike = alike }

of_left : (values : List ValType) (k : EndKind) (o : Option kept_channel.Channel) (p : Option Channel) → IsSome o → SlotAlike (ChannelStands values k) o p → OnBoth values k o p
of_left values k None p there alike = absurd (cc)
of_left values k (Some c) None there alike = absurd alike
of_left values k (Some c) (Some a) there alike = record { left = c; right = a; is_left = refl; is_right = refl; alike = alike }

some_of : {A : Type 0} (o : Option A) (x : A) → o ≡ Some x → IsSome o
some_of o x is = ap is_some is

module _ (p : Program) (values : List ValType) (s : Script) (h : Held) (stacks : List (List Stack)) (w : World) (m : Moving) (number : Option ℕ) (a : Channel) (call read write : OpenCopy)
    (reading writing : CanonFunc) (o : GoesOver p values h w m number a read write reading writing) (marked : StandsMarked p.graph.now values s h stacks w) where
  abbrev g : Graph
  g = p.graph.now

  abbrev Leads : Done Flow → Turn → Type 0
  Leads d turn = TurnLeads g values s m.task h.labels stacks d turn

  abbrev copying : List (Option Value) → Copying
  copying all = copying_of (end_of m) call.length all

  -- The acting task and the stream or the future are there behind a lowering.
  record StillThere (v : World) : Type 0 where
    channel : Channel
    is : channel_at v m.kind m.number ≡ Some channel
    same : channel.element ≡ a.element
    first : slice_get v.chain 0 ≡ Some m.task
    task : Task
    acts : slice_get v.tasks m.task ≡ Some task

  still_there : (k : Held) (v : World) → IsBeside h k → Stands g values s k stacks v → StillThere v
  still_there k v beside st =
      let before : OnBoth values m.kind (kept_channels.channel_at m.kind m.number h) (channel_at w m.kind m.number) =
      of_right values m.kind (kept_channels.channel_at m.kind m.number h) (channel_at w m.kind m.number) (some_of (channel_at w m.kind m.number) a o.channel)
      (channels_are_alike g values s h stacks w m.kind m.number marked.stands) in
      let here : kept_channels.channel_at m.kind m.number k ≡ Some before.left = channel_beside m.kind m.number h k beside ∙ before.is_left in
      let now : OnBoth values m.kind (kept_channels.channel_at m.kind m.number k) (channel_at v m.kind m.number) =
      of_left values m.kind (kept_channels.channel_at m.kind m.number k) (channel_at v m.kind m.number) (some_of (kept_channels.channel_at m.kind m.number k) before.left here)
      (channels_are_alike g values s k stacks v m.kind m.number st) in
      let one : now.left ≡ before.left = some_one now.left before.left (sym now.is_left ∙ here) in
      let other : before.right ≡ a = some_one before.right a (sym before.is_right ∙ o.channel) in
      let typed : IsEndsType values m.kind now.right.element before.left.end_type =
      subst (λ (c : kept_channel.Channel). IsEndsType values m.kind now.right.element c.end_type) one now.alike.typed in
      let many : length w.tasks ≡ length v.tasks =
      sym (both_long (TaskStands g s) h.tasks w.tasks marked.stands.are_tasks) ∙ sym (as_many h k beside) ∙ both_long (TaskStands g s) k.tasks v.tasks st.are_tasks in
      let acts = what_there (slice_get v.tasks m.task) (there_too w.tasks v.tasks m.task many o.acts) in
      record {
        channel = now.right;
        is = now.is_right;
        same = one_element values before.left.end_type m.kind m.kind now.right.element before.right.element typed before.alike.typed ∙ ap (λ (c : Channel). c.element) other;
        first = sym (acting_is_alike g values s k stacks v st)
            ∙ ap (λ (chain : List ℕ). slice_get chain (length chain - 1)) beside.chain
            ∙ acting_is_alike g values s h stacks w marked.stands ∙ o.first;
        task = acts.0;
        acts = acts.1;
      }
    where
      some_one : {A : Type 0} (x y : A) → Some x ≡ Some y → x ≡ y
      some_one x y e = cc

  -- The call is completed behind steps.
  completed_leads : (k : Held) (v u : World) (turn : Turn) (first later : List Label) (all : List (Option Value)) (d : Done Flow)
      → turn ≡ Steps first u → Meets g s u later (transferring_turn (copying all) v) → k.labels ≡ (h.labels ++ first) ++ later → length all ≡ m.count
      → IsBeside h k → Stands g values s k stacks v → d ≡ completed m (copied_of a.element all) k → Leads d turn
  completed_leads k v u turn first later all d step meets told counted beside st is =
      let t : StillThere v = still_there k v beside st in
      let e : Done Flow = completed m (copied_of a.element all) k in
      let what : completed m (copied_of t.channel.element all) k ≡ e = ap (λ (element : Option ValType). completed m (copied_of element all) k) t.same in
      let agrees : IsRuled e → Agrees g values s m.task k.labels stacks e (transferring_turn (copying all) v) =
      λ ruled. subst (λ (x : Done Flow). Agrees g values s m.task k.labels stacks x (transferring_turn (copying all) v)) what
      (copy_is_completed g values s k stacks v m call.length all t.channel t.task counted t.is t.first t.acts st (subst (λ (x : Done Flow). IsRuled x) (sym what) ruled)) in
      subst (λ (x : Done Flow). Leads x turn) (sym is) (by e (completed_answers m (copied_of a.element all) k) agrees)
    where
      by : (e : Done Flow) → Answers e → (IsRuled e → Agrees g values s m.task k.labels stacks e (transferring_turn (copying all) v)) → Leads e turn
      by (Gives flow l) answers agrees = record {
        lines = first;
        world = u;
        is = step;
        leads = record {
          lines = later;
          next = transferring_turn (copying all) v;
          meets = meets;
          agrees = subst (λ (before : List Label). Agrees g values s m.task before stacks (Gives flow l) (transferring_turn (copying all) v)) told (agrees tt);
        };
      }
      by (Traps why l) answers agrees = absurd answers
      by (Spent l) answers agrees = absurd answers
      by kept.Stuck answers agrees = tt

  -- Elements that hold nothing.
  none_over : (d : Done Flow) → a.element ≡ None → d ≡ completed m (Units m.count) h → Leads d (moved_by g m.task (end_of m) call read write reading writing m.count None w)
  unfolding moved_by lowered
  none_over d none is =
      let all : List (Option Value) = replicate m.count None in
      let l : Lowering = elements_lowering w m.task read reading (copying all) in
      let u : World = with_control (Lowers l (plans.Gives [])) w in
      let long : length all ≡ m.count = copies_long m.count None in
      completed_leads h (with_control Free w) u (silent (Lowers l (plans.Gives [])) w) [] [] all d refl (meets_here g s u (transferring_turn (copying all) (with_control Free w)) (nothing_lowered g s w l []))
      (sym (append-nil (h.labels ++ []) ∙ append-nil h.labels)) long (record { chain = refl; streams = refl; futures = refl; same_tasks = refl }) marked.stands
      (is ∙ ap (λ (n : ℕ). completed m (Units n) h) (sym long) ∙ ap (λ (element : Option ValType). completed m (copied_of element all) h) (sym none))

  -- Elements of a type.
  module _ (type : ValType) (some : a.element ≡ Some type) (n : ℕ) (d : Done Flow) where
    abbrev x : Numbered
    x = record { types = values; number = n; val_type = type }

    -- They were lifted.
    module _ (k : Held) (now : lifting.Kept) (all : List Value) (left : Leaves g values s h stacks w k now.lines now.world) (counted : length all ≡ m.count) where
      abbrev v : World
      v = now.world

      abbrev l : Lowering
      l = elements_lowering v m.task read reading (copying (map (λ (y : Value). Some y) all))

      abbrev plan : plans.Plan
      plan = elements_plan (entries_by (defines g (inst_of_canon reading))) type all (next_place type read)

      abbrev u : World
      u = with_control (Lowers l plan) v

      abbrev to : Destination
      to = reader_of m k

      abbrev turn : Turn
      turn = behind now.lines (silent (Lowers l plan) v)

      store_kept : k.store ≡ h.store
      store_kept = ap (λ (j : Held). j.store) left.kept_rest

      machine_store_kept : v.store ≡ w.store
      machine_store_kept = ap (λ (z : World). z.store) left.world_rest

      beside : IsBeside h k
      beside = record {
        chain = ap (λ (j : Held). j.chain) left.kept_rest;
        streams = ap (λ (j : Held). j.streams) left.kept_rest;
        futures = ap (λ (j : Held). j.futures) left.kept_rest;
        same_tasks = left.same_tasks;
      }

      labels_so : k.labels ≡ h.labels ++ (now.lines ++ [])
      labels_so = left.told ∙ ap (λ (lines : List Label). h.labels ++ lines) (sym (append-nil now.lines))

      memory_same : m.reader.memory ≡ memory_of v.store (options_of_canon reading)
      memory_same = o.reader.memory ∙ ap (λ (store : Store). memory_of store (options_of_canon reading)) (sym machine_store_kept)

      is_memory : IsMemory l.memory to.options.memory u.store
      is_memory = memory_there m.reader.memory (memory_of v.store (options_of_canon reading)) k.store v.store memory_same left.stands.stands.same_store

      realloc_is : to.options.realloc ≡ l.realloc
      realloc_is = realloc_there k.store v.store m.reader.options (options_of_canon reading) left.stands.stands.same_store o.reader.options

      site_of : (site : Site) (slot : TaskSlot) → slice_get k.instances to.instance ≡ Some site.instance → slice_get k.tasks to.task ≡ Some slot → site.context ≡ slot.context
          → IsSiteOf g values s u k stacks l to site slot
      site_of site slot inst task context = record {
        stands = left.stands.stands;
        instance = o.reader.instance;
        task = o.reader.task;
        memory = is_memory;
        realloc = realloc_is;
        inst_there = subst (λ (i : ℕ). slice_get k.instances i ≡ Some site.instance) o.reader.instance inst;
        task_there = subst (λ (t : ℕ). slice_get k.tasks t ≡ Some slot) o.reader.task task;
        context = context;
      }

      control_is : u.control ≡ Lowers l (plans.all_stored (entries_by (defines g m.reader.instance)) type all m.reader.place)
      unfolding elements_plan
      control_is =
          ap (λ (i : ℕ). Lowers l (plans.all_stored (entries_by (defines g i)) type all (next_place type read))) (sym o.reader.instance)
          ∙ ap (λ (place : ℕ). Lowers l (plans.all_stored (entries_by (defines g m.reader.instance)) type all place)) (sym (o.reader.place type some))

      inside : m.reader.place + length all * (laid type).size ≤ length (bytes_in to.options.memory k.store)
      inside =
          subst (λ (store : Store). m.reader.place + length all * (laid type).size
          ≤ length (bytes_in (destination_at m.reader.instance m.reader.task m.reader.memory m.reader.options store).options.memory store)) (sym store_kept)
          (subst (λ (count : ℕ). m.reader.place + count * (laid type).size ≤ length (bytes_in (reader_of m h).options.memory h.store)) (sym counted) (o.placed type some).inside)

      -- The lowering, where its site is found.
      abbrev IsLowered : Done (List ℕ) → Type 0
      IsLowered mid = LoweredLeads g values s u k.labels stacks l mid × KeepsBeside k mid

      abbrev At : Site → Held → Done (List ℕ) → Type 0
      At site j e = LowersAt g to values (plan_all type all m.reader.place site.resources) site j e

      lowered_all : (mid : Done (List ℕ)) → LowersAll p to x all m.reader.place k mid → IsLowered mid
      lowered_all mid lowers =
          at_site p to k At IsLowered mid (tt, tt) (all_fit type all)
          (λ i slot resources inst task own fits comes.
          (let site : Site = record { instance = i; context = slot.context; resources = resources } in (
            elements_lead g values s u k stacks l to site slot (defines g m.reader.instance) type all m.reader.place mid control_is (o.own resources own) fits (o.placed type some).aligned inside
                (site_of site slot inst task refl) comes,
            lowers_beside g to values (plan_all type all m.reader.place resources) site k mid comes,
          ))) lowers

      -- What follows.
      behind_lowered : (mid : Done (List ℕ)) → IsLowered mid → Behind mid (λ words j e. e ≡ completed m (copied_values x all) j) d → Leads d turn
      unfolding lowered
      behind_lowered (Gives words j) is follows =
          let f : WordsFollow g values s u k.labels j stacks l words = is.0 in
          let some_all : List (Option Value) = map (λ (y : Value). Some y) all in
          completed_leads j f.world u turn (now.lines ++ []) f.lines some_all d refl f.meets (f.told ∙ ap (λ (ls : List Label). ls ++ f.lines) labels_so) (map_long (λ (y : Value). Some y) all ∙ counted)
          (then_beside h k j beside is.1) f.stands
          (follows
          ∙ ap (λ (ys : List Value). completed m (Values (record { values = ys; val_type = type })) j) (sym (all_there all))
          ∙ ap (λ (element : Option ValType). completed m (copied_of element some_all) j) (sym some))
      behind_lowered (Traps why j) is follows =
          subst (λ (e : Done Flow). Leads e turn) (sym follows)
          (record {
            lines = now.lines ++ [];
            world = u;
            is = refl;
            leads = doomed_still g values s m.task h j stacks w u k.labels (h.labels ++ (now.lines ++ [])) why marked.stands (is.1.chain ∙ beside.chain) o.first labels_so is.0;
          })
      behind_lowered (Spent j) is follows =
          subst (λ (e : Done Flow). Leads e turn) (sym follows)
          (record { lines = now.lines ++ []; world = u; is = refl; leads = subst (λ (before : List Label). EndsBy g values s u before j stacks Fuel) labels_so is.0 })
      behind_lowered kept.Stuck is follows = subst (λ (e : Done Flow). Leads e turn) (sym follows) tt

      reads_lead : Reads p m x all k d → Leads d turn
      reads_lead reads = behind_lowered reads.0 (lowered_all reads.0 reads.1) reads.2

    -- They are lifted.
    abbrev reading_turn : List Value → World → Turn
    reading_turn all later = elements_read g m.task (end_of m) call.length read reading type all later

    read_so : (came : Came (List Value)) → AreCounted m.count came → (all : List Value) (k : Held) (now : lifting.Kept) → came ≡ Ok (all, now) → Leaves g values s h stacks w k now.lines now.world
        → Reads p m x all k d → Leads d (behind now.lines (reading_turn all now.world))
    unfolding elements_read
    read_so came counted all k now is left reads = reads_lead k now all left (subst (λ (c : Came (List Value)). AreCounted m.count c) is counted) reads

    elements_over : MovesElements p m x h d → Leads d (moved_by g m.task (end_of m) call read write reading writing m.count (Some type) w)
    unfolding moved_by elements_written
    elements_over moves =
        let kept_came : Done (List Value) = kept_lifting.elements_lifted (origin_of m) x m.writer.place m.count h in
        let agrees : LiftAgrees (Leaves g values s h stacks w) kept_came
        (passing.elements_lifted m.writer.instance m.task type (bytes_of w.store m.writer.memory) m.writer.place m.count w) =
        elements_lift g values s h stacks w (origin_of m) x m.writer.place m.count refl (λ borrows. absurd (no_borrow borrows)) marked in
        let same : passing.elements_lifted m.writer.instance m.task type (bytes_of w.store m.writer.memory) m.writer.place m.count w ≡ elements_written m.task write writing m.count type w =
        ap (λ (i : ℕ). passing.elements_lifted i m.task type (bytes_of w.store m.writer.memory) m.writer.place m.count w) o.writer.instance
        ∙ ap (λ (memory : Option ℕ). passing.elements_lifted (inst_of_canon writing) m.task type (bytes_of w.store memory) m.writer.place m.count w) o.writer.memory
        ∙ ap (λ (place : ℕ). passing.elements_lifted (inst_of_canon writing) m.task type (bytes_of w.store (memory_of w.store (options_of_canon writing))) place m.count w) (o.writer.place type some) in
        lifted_leads g values s m.task h stacks w o.first kept_came (elements_written m.task write writing m.count type w) reading_turn (λ all k f. Reads p m x all k f) d
        (subst (λ (c : Came (List Value)). LiftAgrees (Leaves g values s h stacks w) kept_came c) same agrees)
        (read_so (elements_written m.task write writing m.count type w)
        (lifted_counted (inst_of_canon writing) m.task type (bytes_of w.store (memory_of w.store (options_of_canon writing))) (next_place type write) m.count w))
        moves
      where
        no_borrow : held_borrow (Some type) ≡ true → ⊥
        no_borrow borrows = (let none : held_borrow (Some type) ≡ false = ap held_borrow (sym some) ∙ o.no_borrow in cc)

  over : (d : Done Flow) (element : Option ValType) (known : Option ℕ) → a.element ≡ element → MayBeAt values known element → MovesOver p m known h d
      → Leads d (moved_by g m.task (end_of m) call read write reading writing m.count element w)
  over d None None is typed moves = none_over d is moves
  over d None (Some n) is typed moves = absurd typed
  over d (Some type) None is typed moves = absurd typed
  over d (Some type) (Some n) is typed moves =
      let known : numbered_at p.types.now n ≡ Some (x type is n d) =
      ap (λ (types : List ValType). numbered_at types n) o.types ∙ ap (option_map (λ (t : ValType). (let y : Numbered = record { types = values; number = n; val_type = t } in y))) typed in
      elements_over type is n d (subst (λ (q : Option Numbered). Behind (given q (λ y. Gives y h)) (λ y k e. MovesElements p m y k e) d) known moves)

pub elements_go_over : ElementsGoOver
elements_go_over p values s h stacks w m number a call read write reading writing d o marked moves =
    over p values s h stacks w m number a call read write reading writing o marked d a.element number refl o.typed moves
