-- A set leaves the table.
use Rattle.std.proofs.Common.{◌≡◌, ℕ, zero, suc, Bool, true, nat_lt, is_some, if◌then◌else◌, List, [], ◌∷◌, length, slice_index, slice_index_or, refl, sym, ap, ◌∙◌, subst, Option, Some, Result, Ok, Err}
use Rattle.std.specs.Prelude.{IsSome}
use Rattle.std.specs.List.{slice_get}
use Rattle.syntax_trees.specs.declared.types.ValType.{ValType}
use Rattle.wasm_store.specs.Stack.{Stack}
use Rattle.handle_table.specs.History.{Remove, live}
use Rattle.waitables.specs.Sets.{SetView, set_at, drop_answer}
use Rattle.waitables.specs.declared.refusal.SetRefusal.{SetRefusal}
use Rattle.waitables.specs.declared.refusal.SetRefusal.TheVariants as refusal
use Rattle.comp_graph.specs.Graph.{Graph}
use Rattle.script_reader.specs.Script.{Script}
use Rattle.trace_labels.specs.declared.trap.TrapName.{TrapName}
use Rattle.instances.specs.declared.entry.WorldEntry.{WorldEntry}
use Rattle.instances.specs.declared.entry.WorldEntry.TheVariants as entry
use Rattle.instances.specs.declared.refusal.DropSetError.TheVariants as drop_error
use Rattle.instances.specs.Entries as entries
use Rattle.instances.specs.Instances as instance
use Rattle.instances.specs.Instances.{InstanceView, entry_of}
use Rattle.instances.specs.Calls.{refused}
use Rattle.world_parts.specs.Names as names
use Rattle.world_parts.specs.Held.{Held, Traps, after, given}
use Rattle.world_parts.specs.Entries.{with_instance, named, set_gone, set_dropped, entry_removed, removed_of}
use Rattle.world_parts.specs.Feed.{got}
use Rattle.world_parts.specs.Slots.{word_in}
use Rattle.world_parts.specs.Waits.{set_drop}
use Rattle.abi_machine.specs.World.{Inst, World}
use Rattle.abi_machine.specs.Edits as world
use Rattle.abi_machine.specs.Traps.{renamed, refusal_name, set_name}
use Rattle.abi_machine.specs.Reading.{table_in, sets_in, members_in, members_of}
use Rattle.abi_machine.specs.Counting.{waiters_of}
use Rattle.abi_machine.specs.Finding as found
use Rattle.abi_machine.specs.Turn.{doomed, unless_refused, replied}
use Rattle.abi_machine.specs.replies.Waiting.{view_of_set, set_drop_turn}
use Rattle.abi_machine.proofs.sound.Found.{some_same}
use Rattle.standing.specs.Instances.{InstStands}
use Rattle.standing.specs.Stands.{Stands}
use Rattle.standing.specs.Agreeing.{Agrees}
use Rattle.standing.specs.Replies.{HasItsSets, SetIsDropped}
use Rattle.standing.proofs.Tables.{entries_are_alike, entries_are_removed, members_at}
use Rattle.standing.proofs.Changes.{instances_change, refusals_change_nothing}
use Rattle.standing.proofs.Found.{set_alike, word_is}
use Rattle.standing.proofs.Joining.{set_there, few_sets}
use Rattle.standing.proofs.Agreeing.{turn_as, on_word, on_instance, on_got, on_trap, on_named, get_set}

named_same : (why : SetRefusal) → names.set_name why ≡ set_name why
named_same refusal.Members = refl
named_same refusal.Waiters = refl

-- A set as it is kept, and as it is counted.
nth_members : (xs : List (List ℕ)) (n : ℕ) → slice_index_or xs n [] ≡ members_in (slice_get xs n)
nth_members [] n = refl
nth_members (x ∷ xs) zero = refl
nth_members (x ∷ xs) (suc n) = nth_members xs n

same_set : (v : SetView) (members : List ℕ) (waiters : ℕ) → v.members ≡ members → v.waiters ≡ waiters → v ≡ (let s : SetView = record { members = members; waiters = waiters } in s)
same_set v members waiters m n =
    ap (λ (xs : List ℕ). (let s : SetView = record { members = xs; waiters = v.waiters } in s)) m
    ∙ ap (λ (k : ℕ). (let s : SetView = record { members = members; waiters = k } in s)) n

set_seen : (values : List ValType) (w : World) (at index set : ℕ) (x : InstanceView) (y : Inst) → slice_get w.insts at ≡ Some y → InstStands values x y
    → (set_at x.sets set).waiters ≡ waiters_of w at index → set_at x.sets set ≡ view_of_set w at index set
set_seen values w at index set x y is alike marked =
    same_set (set_at x.sets set) (members_of w at set) (waiters_of w at index)
    (members_at x.sets set ∙ ap (λ (xs : List (List ℕ)). slice_index_or xs set []) alike.sets ∙ nth_members y.sets set
    ∙ ap (λ (o : Option Inst). members_in (slice_get (sets_in o) set)) (sym is)) marked

-- The set is dropped, or the call refused.
on_dropped : (g : Graph) (values : List ValType) (s : Script) (h : Held) (stacks : List (List Stack)) (w : World) (t at index set : ℕ) (x : InstanceView) (r : Result (Unit {0}) SetRefusal)
    → slice_get h.instances at ≡ Some x → entry_of x index ≡ Some (entry.Set set) → Stands g values s h stacks w
    → Agrees g values s t h.labels stacks (after (set_gone (refused r) (with_instance at x h)) (λ (done : Unit {0}) l. after (entry_removed at index l) (λ done m. got t [] m)))
    (unless_refused t (renamed set_name r) w (λ done. replied t [] (world.entry_removed at index w)))
on_dropped g values s h stacks w t at index set x (Err why) is there st =
    subst (λ (name : TrapName). Agrees g values s t h.labels stacks (Traps (names.set_name why) (with_instance at x h)) (doomed t name w)) (named_same why)
    (on_trap g values s t h.labels stacks (with_instance at x h) w (names.set_name why) refl (refusals_change_nothing g values s h stacks w at x is st))
on_dropped g values s h stacks w t at index set x (Ok done) is there st =
    let once : Held = with_instance at x h in
    let here : IsSome (entry_of x index) = ap is_some there in
    let stands : Stands g values s (with_instance at (instance.entry_removed index x) once) stacks (world.entry_removed at index w) =
    instances_change g values s once stacks w at x (instance.entry_removed index x) (λ inst. record inst { table = Remove index ∷ inst.table }) (get_set h.instances at x x is)
    (λ a e now. entries_are_removed values x a index here now) (refusals_change_nothing g values s h stacks w at x is st) in
    subst (λ (o : Option InstanceView). Agrees g values s t h.labels stacks (after (given o (λ i. removed_of (entry_of i index) at index i once)) (λ (done : Unit {0}) m. got t [] m))
    (replied t [] (world.entry_removed at index w)))
    (sym (get_set h.instances at x x is))
    (subst (λ (o : Option WorldEntry). Agrees g values s t h.labels stacks (after (removed_of o at index x once) (λ (done : Unit {0}) m. got t [] m))
    (replied t [] (world.entry_removed at index w)))
    (sym there)
    (on_got g values s t h.labels stacks (with_instance at (instance.entry_removed index x) once) (world.entry_removed at index w) [] refl stands))

pub set_is_dropped : SetIsDropped
unfolding set_drop set_drop_turn
set_is_dropped g values s h stacks w t at word words inst kept is there has here marked st =
    on_word g values s t h.labels stacks (word_in words 0) word
    (λ index. after (given (slice_get h.instances at) (λ i. named (entries.set_in (entry_of i index)) h)) (λ set k. after (set_dropped at set k) (λ done l.
    after (entry_removed at index l) (λ done m. got t [] m))))
    (set_drop_turn t at (slice_index words 0) w) is
    (turn_as g values s t h.labels stacks _ (set_drop_turn t at (slice_index words 0) w) (set_drop_turn t at word w)
    (ap (λ (n : ℕ). set_drop_turn t at n w) (word_is words 0 word is))
    (on_instance g values s t h.labels stacks h w at (λ i. named (entries.set_in (entry_of i word)) h)
    (λ set k. after (set_dropped at set k) (λ done l. after (entry_removed at word l) (λ done m. got t [] m)))
    (set_drop_turn t at word w) (ap is_some there) st
    (λ x y is_left is_right alike.
    turn_as g values s t h.labels stacks _ (set_drop_turn t at word w)
    (unless_refused t (renamed refusal_name (entries.set_in (entry_of x word))) w (λ set.
    unless_refused t (renamed set_name (drop_answer (view_of_set w at word set))) w (λ done. replied t [] (world.entry_removed at word w))))
    (ap (λ r. unless_refused t r w (λ set. unless_refused t (renamed set_name (drop_answer (view_of_set w at word set))) w (λ done. replied t [] (world.entry_removed at word w))))
    (ap (λ (o : Option Inst). found.set_in (live (table_in o) word)) is_right ∙ set_alike values (entry_of x word) (live y.table word) (entries_are_alike values x y word alike)))
    (on_named g values s t h.labels stacks h w (entries.set_in (entry_of x word))
    (λ set k. after (set_dropped at set k) (λ done l. after (entry_removed at word l) (λ done m. got t [] m)))
    (λ set. unless_refused t (renamed set_name (drop_answer (view_of_set w at word set))) w (λ done. replied t [] (world.entry_removed at word w))) refl st
    (λ set found_it.
    let entry_is : entry_of x word ≡ Some (entry.Set set) = set_there (entry_of x word) set found_it in
    let same : kept ≡ x = some_same (sym here ∙ is_left) in
    let waits : (set_at x.sets set).waiters ≡ waiters_of w at word =
    ap (λ (i : InstanceView). (set_at i.sets set).waiters) (sym same) ∙ marked word set (ap (λ (i : InstanceView). entry_of i word) same ∙ entry_is) in
    let few : nat_lt set (length x.sets) ≡ true = few_sets values x y word set alike (subst HasItsSets (some_same (sym there ∙ is_right)) has) found_it in
    turn_as g values s t h.labels stacks _ (unless_refused t (renamed set_name (drop_answer (view_of_set w at word set))) w (λ done. replied t [] (world.entry_removed at word w)))
    (unless_refused t (renamed set_name (drop_answer (set_at x.sets set))) w (λ done. replied t [] (world.entry_removed at word w)))
    (ap (λ (v : SetView). unless_refused t (renamed set_name (drop_answer v)) w (λ done. replied t [] (world.entry_removed at word w)))
    (sym (set_seen values w at word set x y is_right alike waits)))
    (subst (λ (o : Option InstanceView). Agrees g values s t h.labels stacks
    (after (given o (λ i. set_gone (if nat_lt set (length i.sets) then refused (drop_answer (set_at i.sets set)) else Err drop_error.NoSet) (with_instance at i h))) (λ (done : Unit {0}) l.
    after (entry_removed at word l) (λ done m. got t [] m)))
    (unless_refused t (renamed set_name (drop_answer (set_at x.sets set))) w (λ done. replied t [] (world.entry_removed at word w))))
    (sym is_left)
    (subst (λ (b : Bool). Agrees g values s t h.labels stacks
    (after (set_gone (if b then refused (drop_answer (set_at x.sets set)) else Err drop_error.NoSet) (with_instance at x h)) (λ (done : Unit {0}) l.
    after (entry_removed at word l) (λ done m. got t [] m)))
    (unless_refused t (renamed set_name (drop_answer (set_at x.sets set))) w (λ done. replied t [] (world.entry_removed at word w))))
    (sym few) (on_dropped g values s h stacks w t at word set x (drop_answer (set_at x.sets set)) is_left entry_is st))))))))
