-- Values that are lowered: the store grows and stays typed, and no handle is lent more often.
use Rattle.std.proofs.Common.{◌≡◌, ◌+◌, ◌-◌, ◌≤◌, ℕ, Bool, true, false, if◌then◌else◌, List, ◌++◌, length, take, drop, Option, Some, None, refl, ap, sym, subst, arith, inl, inr}
use Rattle.std.specs.List.{slice_get}
use Rattle.std.proofs.lemmas.List.{length-take-le, length-drop, length-append}
use Rattle.syntax_trees.specs.declared.types.ValType.{ValType}
use Rattle.syntax_trees.specs.declared.value.Value.{Value}
use Rattle.syntax_trees.specs.Fits.{fits}
use Rattle.laid_types.specs.Known.{Numbered}
use Rattle.handle_table.specs.Slots.{Slots}
use Rattle.res_handles.specs.Calls.{lends_in}
use Rattle.value_lift.specs.Tables.{MostLends}
use Rattle.value_lower.specs.Plan.{New, NewOwn, NewBorrow, NewEnd, Plan, Gives as Given, Fails, Asks, Size, Put, Adds}
use Rattle.value_lower.specs.Following.{Came, Follows, written}
use Rattle.value_lower.specs.Tables.{IsEntry, gets}
use Rattle.wasm_memory.specs.Memories.{MemoryState, with_bytes}
use Rattle.wasm_store.specs.Store.{Store}
use Rattle.wasm_store.specs.Typed.{StoreTyped, Extends}
use Rattle.wasm_store.proofs.Changing.{writes_typed}
use Rattle.wasm_store.proofs.Stores.{store_same, further}
use Rattle.comp_graph.specs.Graph.{Graph}
use Rattle.copy_engine.specs.declared.hosted.HostedRoom.{HostedRoom}
use Rattle.copy_engine.specs.declared.hosted.HostedTrap.{HostedTrap}
use Rattle.copy_engine.specs.declared.lower_values.Lowered.{Lowered}
use Rattle.copy_engine.specs.declared.lower_values.Target.{Target}
use Rattle.copy_engine.specs.Answering.{Setting}
use Rattle.copy_engine.specs.Copying.{all_fit}
use Rattle.copy_engine.specs.Nested.{bytes_of, bytes_in, rewritten_at, with_bytes_in}
use Rattle.copy_engine.specs.Hosted.{Placed, Grows, hosted_rooms, put_at, as_plan, plan_to, plan_all}
use Rattle.instances.specs.declared.entry.WorldEntry.{WorldEntry}
use Rattle.instances.specs.Entries.{seen_as, of_handle, of_end}
use Rattle.instances.specs.Instances.{InstanceView, with_slots}
use Rattle.programs.specs.declared.program.Program.{Program}
use Rattle.programs.specs.Program.{resources_of}
use Rattle.task_table.specs.declared.slot.TaskSlot.{TaskSlot}
use Rattle.world_parts.specs.Held.{Held, Done, Gives, Stuck, given}
use Rattle.value_parts.specs.Coming.{Behind}
use Rattle.value_parts.specs.Fit.{LentAtMost}
use Rattle.value_parts.proofs.fit.Keeps.{Keeps, KeepsBy, keeps_through, lent_instance}
use Rattle.value_parts.proofs.fit.Lends.{added_few}
use Rattle.value_moves.specs.declared.lowering.Destination.{Destination}
use Rattle.value_moves.specs.Lowering.{Site, site_found, finished, setting_in, begun_at, left_at, LowersAt, LowersInto, LowersAll}
use Rattle.value_moves.proofs.fit.Sites.{finished_keeps}

-- as many bytes as before
as_many : (place : ℕ) (bytes memory : List ℕ) → place + length bytes ≤ length memory → length (written place bytes memory) ≡ length memory
as_many place bytes memory h =
    let a : length (take place memory ++ bytes ++ drop (place + length bytes) memory) ≡ length (take place memory ++ bytes) + length (drop (place + length bytes) memory)
    = length-append (take place memory ++ bytes) (drop (place + length bytes) memory) in
    let b : length (take place memory ++ bytes) ≡ length (take place memory) + length bytes = length-append (take place memory) bytes in
    let c : length (take place memory) ≡ place = length-take-le place memory (omega (arith, h)) in
    let d : length (drop (place + length bytes) memory) ≡ length memory - (place + length bytes) = length-drop (place + length bytes) memory in
    omega (arith, a, b, c, d, h)

rewritten_grows : (address : ℕ) (bytes : List ℕ) (o : Option MemoryState) (s : Store) → slice_get s.memories address ≡ o → length bytes ≡ length (bytes_of o) → StoreTyped s
    → Grows s (rewritten_at address bytes o s)
rewritten_grows address bytes None s is same typed = (store_same s, typed)
rewritten_grows address bytes (Some m) s is same typed = writes_typed s address m (with_bytes m bytes) typed is refl same

put_grows : (address place : ℕ) (bytes : List ℕ) (s : Store) → place + length bytes ≤ length (bytes_in address s) → StoreTyped s
    → Grows s (with_bytes_in address (written place bytes (bytes_in address s)) s)
put_grows address place bytes s inside typed =
    rewritten_grows address (written place bytes (bytes_in address s)) (slice_get s.memories address) s refl (as_many place bytes (bytes_in address s) inside) typed

grows_further : (s t u : Store) → Grows s t → Grows t u → Grows s u
grows_further s t u p q = (further s t u p.0 q.0, q.1)

-- Each entry is of one that is not lent.
new_lends : (task : ℕ) (types : List ValType) (n : New) (e : WorldEntry) → IsEntry of_handle of_end task types n e → lends_in (Some (seen_as e)) ≡ 0
new_lends task types (NewOwn resource rep) e is = subst (λ (x : WorldEntry). lends_in (Some (seen_as x)) ≡ 0) (sym is) refl
new_lends task types (NewBorrow resource rep) e is = subst (λ (x : WorldEntry). lends_in (Some (seen_as x)) ≡ 0) (sym is) refl
new_lends task types (NewEnd type number) e (at, there, is) = subst (λ (x : WorldEntry). lends_in (Some (seen_as x)) ≡ 0) (sym is) refl

got_few : (task : ℕ) (types : List ValType) (s t : Slots WorldEntry) (n : New) (o : Option ℕ) (most : ℕ) → gets (IsEntry of_handle of_end task types) s n o t → MostLends seen_as most s → MostLends seen_as most t
got_few task types s t n (Some index) most (e, is, less, at, same) few = subst (MostLends seen_as most) (sym same) (added_few s e most (new_lends task types n e is) few)
got_few task types s t n None most (full, same) few = subst (MostLends seen_as most) (sym same) few

-- Whatever a plan comes to:
module _ (task : ℕ) (types : List ValType) (to : Setting) where
  record Leaves (p q : Placed WorldEntry) : Type 0 where
    pub store : StoreTyped p.room.store → Grows p.room.store q.room.store
    pub lends : (most : ℕ) → MostLends seen_as most p.slots → MostLends seen_as most q.slots

  same : (p q : Placed WorldEntry) → q ≡ p → Leaves p q
  same p q is = subst (Leaves p) (sym is) (record { store = λ typed. (store_same p.room.store, typed); lends = λ most few. few })

  onward : (p q r : Placed WorldEntry) → Leaves p q → Leaves q r → Leaves p r
  onward p q r a b = record {
    store = λ typed.
        let one = a.store typed in
        grows_further p.room.store q.room.store r.room.store one (b.store one.1);
    lends = λ most few. b.lends most (a.lends most few);
  }

  answered : (p q : Placed WorldEntry) → Grows p.room.store q.room.store → q.slots ≡ p.slots → Leaves p q
  answered p q grows is = record { store = λ typed. grows; lends = λ most few. subst (MostLends seen_as most) (sym is) few }

  put : (p q : Placed WorldEntry) (place : ℕ) (bytes : List ℕ) → place + length bytes ≤ length (bytes_in to.options.memory p.room.store) → q.room ≡ put_at to.options.memory place bytes p.room
      → q.slots ≡ p.slots → Leaves p q
  put p q place bytes inside room is = record {
    store = λ typed. subst (λ (r : HostedRoom). Grows p.room.store r.store) (sym room) (put_grows to.options.memory place bytes p.room.store inside typed);
    lends = λ most few. subst (MostLends seen_as most) (sym is) few;
  }

  added : (p q : Placed WorldEntry) (n : New) (o : Option ℕ) → gets (IsEntry of_handle of_end task types) p.slots n o q.slots → q.room ≡ p.room → Leaves p q
  added p q n o got room = record {
    store = λ typed. subst (λ (r : HostedRoom). Grows p.room.store r.store) (sym room) (store_same p.room.store, typed);
    lends = λ most few. got_few task types p.slots q.slots n o most got few;
  }

  plan_leaves : (plan : Plan) (p q : Placed WorldEntry) (came : Came HostedTrap) → Follows (hosted_rooms seen_as (IsEntry of_handle of_end task types) to) plan p came q → Leaves p q
  plan_leaves (Given words) p q came (is, left) = same p q left
  plan_leaves (Fails why) p q came (is, left) = same p q left
  plan_leaves (Asks ask k) p q came (inl (place, mid, ((gives, grows, slots), low, longer), rest)) = onward p mid q (answered p mid grows slots) (plan_leaves (k place) mid q came rest)
  plan_leaves (Asks ask k) p q came (inr (end, (gives, grows, slots), is)) = answered p q grows slots
  plan_leaves (Size k) p q came rest = plan_leaves (k (length (bytes_in to.options.memory p.room.store))) p q came rest
  plan_leaves (Put place bytes k) p q came (mid, ((inside, room, slots), memory), rest) = onward p mid q (put p mid place bytes inside room slots) (plan_leaves k mid q came rest)
  plan_leaves (Adds n k) p q came (o, mid, ((got, room), memory), rest) = onward p mid q (added p mid n o got room) (plan_leaves (k o) mid q came rest)

-- So a lowering from an instance as it is.
left_keeps : (g : Graph) (to : Destination) (types : List ValType) (plan : Plan) (s : Site) (h : Held) (came : Lowered) (placed : Placed WorldEntry) → slice_get h.instances to.instance ≡ Some s.instance
    → Follows (hosted_rooms seen_as (IsEntry of_handle of_end to.task types) (setting_in g to)) plan (begun_at s h) (as_plan came) placed → Keeps h (left_at to s placed h)
left_keeps g to types plan s h came placed found follows =
    let p = plan_leaves to.task types (setting_in g to) plan (begun_at s h) placed (as_plan came) follows in
    record {
      store = λ typed. p.store typed;
      lends = λ most few. lent_instance h to.instance (with_slots placed.slots s.instance) most (p.lends most (few to.instance s.instance found)) few;
    }

lowers_keep : (g : Graph) (to : Destination) (types : List ValType) (plan : Plan) (s : Site) (h : Held) (d : Done (List ℕ)) → slice_get h.instances to.instance ≡ Some s.instance → LowersAt g to types plan s h d → KeepsBy h d
lowers_keep g to types plan s h d found (came, placed, follows, is) =
    subst (KeepsBy h) (sym is)
    (keeps_through h (left_at to s placed h) (finished g to.task placed.room.acts came (left_at to s placed h)) (left_keeps g to types plan s h came placed found follows)
    (finished_keeps g to.task placed.room.acts came (left_at to s placed h)))

-- What a lowering begins with stands there.
from_site : (p : Program) (to : Destination) (is_fit : Bool) (h : Held) (F : Site → Held → Done (List ℕ) → Type 0) (d : Done (List ℕ))
    → ((s : Site) → slice_get h.instances to.instance ≡ Some s.instance → F s h d → KeepsBy h d) → Behind (site_found p to is_fit h) F d → KeepsBy h d
from_site p to is_fit h F d lowers b = by_instance (slice_get h.instances to.instance) refl b
  where
    by_fit : (i : InstanceView) (slot : TaskSlot) (resources : List ℕ) (fit : Bool) → slice_get h.instances to.instance ≡ Some i
        → Behind (let e : Done Site = if fit then Gives (record { instance = i; context = slot.context; resources = resources }) h else Stuck in e) F d → KeepsBy h d
    by_fit i slot resources true found b = lowers (record { instance = i; context = slot.context; resources = resources }) found b
    by_fit i slot resources false found b = subst (KeepsBy h) (sym b) tt

    by_resources : (i : InstanceView) (slot : TaskSlot) (o : Option (List ℕ)) → slice_get h.instances to.instance ≡ Some i
        → Behind (let e : Done Site = given o (λ resources. if is_fit then Gives (record { instance = i; context = slot.context; resources = resources }) h else Stuck) in e) F d → KeepsBy h d
    by_resources i slot None found b = subst (KeepsBy h) (sym b) tt
    by_resources i slot (Some resources) found b = by_fit i slot resources is_fit found b

    by_task : (i : InstanceView) (o : Option TaskSlot) → slice_get h.instances to.instance ≡ Some i
        → Behind (let e : Done Site = given o (λ slot. given (resources_of p to.instance) (λ resources. if is_fit then Gives (record { instance = i; context = slot.context; resources = resources }) h else Stuck)) in e) F d → KeepsBy h d
    by_task i None found b = subst (KeepsBy h) (sym b) tt
    by_task i (Some slot) found b = by_resources i slot (resources_of p to.instance) found b

    by_instance : (o : Option InstanceView) → slice_get h.instances to.instance ≡ o
        → Behind (let e : Done Site = given o (λ i. given (slice_get h.tasks to.task) (λ slot. given (resources_of p to.instance) (λ resources. if is_fit then Gives (record { instance = i; context = slot.context; resources = resources }) h else Stuck))) in e) F d
        → KeepsBy h d
    by_instance None found b = subst (KeepsBy h) (sym b) tt
    by_instance (Some i) found b = by_task i (slice_get h.tasks to.task) found b

pub lowers_into_keeps : (p : Program) (to : Destination) (t : Numbered) (v : Value) (target : Target) (h : Held) (d : Done (List ℕ)) → LowersInto p to t v target h d → KeepsBy h d
lowers_into_keeps p to t v target h d b =
    from_site p to (fits v t.val_type) h (λ s k e. LowersAt p.graph.now to t.types (plan_to target t.val_type v s.resources) s k e) d
    (λ s found is. lowers_keep p.graph.now to t.types (plan_to target t.val_type v s.resources) s h d found is) b

pub lowers_all_keeps : (p : Program) (to : Destination) (t : Numbered) (values : List Value) (place : ℕ) (h : Held) (d : Done (List ℕ)) → LowersAll p to t values place h d → KeepsBy h d
lowers_all_keeps p to t values place h d b =
    from_site p to (all_fit t.val_type values) h (λ s k e. LowersAt p.graph.now to t.types (plan_all t.val_type values place s.resources) s k e) d
    (λ s found is. lowers_keep p.graph.now to t.types (plan_all t.val_type values place s.resources) s h d found is) b
