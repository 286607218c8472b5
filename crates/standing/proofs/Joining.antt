-- A waitable leaves its set, and joins another one.
use Rattle.std.proofs.Common.{◌≡◌, ◌<◌, ℕ, zero, suc, Bool, true, nat_lt, is_some, if◌then◌else◌, List, [], length, slice_index, refl, sym, ap, ◌∙◌, subst, arith, Option, Some, None, Ok}
use Rattle.std.specs.List.{slice_get}
use Rattle.std.proofs.lemmas.Bool.{lt-ltb, ne_eqb}
use Rattle.std.proofs.lemmas.List.{length-map}
use Rattle.syntax_trees.specs.declared.types.ValType.{ValType}
use Rattle.wasm_store.specs.Stack.{Stack}
use Rattle.handle_table.specs.Alike.{SlotAlike}
use Rattle.handle_table.specs.History.{live}
use Rattle.waitables.specs.Sets as sets
use Rattle.waitables.specs.Sets.{SetView}
use Rattle.comp_graph.specs.Graph.{Graph}
use Rattle.script_reader.specs.Script.{Script}
use Rattle.instances.specs.declared.entry.WorldEntry.{WorldEntry}
use Rattle.instances.specs.declared.entry.WorldEntry.TheVariants as entry
use Rattle.instances.specs.Entries as entries
use Rattle.instances.specs.Instances.{InstanceView, entry_of, with_sets}
use Rattle.world_parts.specs.Held as kept
use Rattle.world_parts.specs.Held.{Held, Gives, after, given}
use Rattle.world_parts.specs.Entries.{with_instance, named, set_found, set_joined, set_left}
use Rattle.world_parts.specs.Feed.{got}
use Rattle.world_parts.specs.Slots.{word_in}
use Rattle.world_parts.specs.Waits.{joined_to, waitable_join}
use Rattle.abi_machine.specs.World.{OfSet, Entry, Inst, World}
use Rattle.abi_machine.specs.Edits.{by_views, left_set, joined}
use Rattle.abi_machine.specs.Traps.{renamed, refusal_name}
use Rattle.abi_machine.specs.Reading.{table_in}
use Rattle.abi_machine.specs.Finding as found
use Rattle.abi_machine.specs.Turn.{unless_refused, replied}
use Rattle.abi_machine.specs.replies.Waiting.{joins, join_turn}
use Rattle.abi_machine.proofs.sound.Found.{ok_same, some_same}
use Rattle.standing.specs.Instances.{EntryStands, InstStands}
use Rattle.standing.specs.Stands.{Stands}
use Rattle.standing.specs.Agreeing.{Agrees}
use Rattle.standing.specs.Replies.{HasItsSets, WaitableIsJoined}
use Rattle.standing.proofs.Tables.{entries_are_alike, waitables_leave, waitables_join}
use Rattle.standing.proofs.Changes.{instances_change}
use Rattle.standing.proofs.Found.{set_alike, waitable_alike, word_is}
use Rattle.standing.proofs.Agreeing.{turn_as, on_word, on_instance, on_got, on_named}

pub set_there : (o : Option WorldEntry) (set : ℕ) → entries.set_in o ≡ Ok set → o ≡ Some (entry.Set set)
set_there None set e = absurd (cc)
set_there (Some (entry.Handle x)) set e = absurd (cc)
set_there (Some (entry.Subtask callee)) set e = absurd (cc)
set_there (Some (entry.Set other)) set e = ap (λ (n : ℕ). Some (entry.Set n)) (ok_same e)
set_there (Some (entry.End x)) set e = absurd (cc)

set_stands : (values : List ValType) (o : Option WorldEntry) (p : Option Entry) (set : ℕ) → o ≡ Some (entry.Set set) → SlotAlike (EntryStands values) o p → p ≡ Some (OfSet set)
set_stands values None p set e h = absurd (cc)
set_stands values (Some x) None set e h = absurd h
set_stands values (Some x) (Some a) set e h = ap Some (subst (λ (y : WorldEntry). EntryStands values y a) (some_same e) h)

-- The set of an entry was made.
pub few_sets : (values : List ValType) (x : InstanceView) (y : Inst) (index set : ℕ) → InstStands values x y → HasItsSets y → entries.set_in (entry_of x index) ≡ Ok set
    → nat_lt set (length x.sets) ≡ true
few_sets values x y index set alike has e =
    let there : live y.table index ≡ Some (OfSet set) = set_stands values (entry_of x index) (live y.table index) set (set_there (entry_of x index) set e) (entries_are_alike values x y index alike) in
    let many : length x.sets ≡ length y.sets = sym (length-map x.sets (λ (v : SetView). v.members)) ∙ ap (λ (xs : List (List ℕ)). length xs) alike.sets in
    let less : set < length y.sets = has index set there in
    lt-ltb set (length x.sets) (omega (arith, many, less))

join_agrees : (g : Graph) (values : List ValType) (s : Script) (h : Held) (stacks : List (List Stack)) (w : World) (t at index : ℕ) (inst : Inst) (other : ℕ)
    → slice_get w.insts at ≡ Some inst → HasItsSets inst → Stands g values s h stacks w
    → Agrees g values s t h.labels stacks (joined_to t at index other h) (joins t at index other w)
unfolding joined_to joins
join_agrees g values s h stacks w t at index inst zero is has st =
    on_instance g values s t h.labels stacks h w at (λ i. Gives tt (with_instance at (with_sets (sets.left index i.sets) i) h)) (λ (done : Unit {0}) k. got t [] k)
    (replied t [] (left_set at index w)) (ap is_some is) st
    (λ x y is_left is_right alike.
    on_got g values s t h.labels stacks (with_instance at (with_sets (sets.left index x.sets) x) h) (left_set at index w) [] refl
    (instances_change g values s h stacks w at x (with_sets (sets.left index x.sets) x) (λ a. record a { sets = by_views (sets.left index) a.sets }) is_left
    (λ a e now. waitables_leave values x a index now) st))
join_agrees g values s h stacks w t at index inst (suc n) is has st =
    subst (λ (b : Bool). Agrees g values s t h.labels stacks
    (if b then after (set_left at index h) (λ done k. got t [] k) else after (set_found at (suc n) h) (λ set k. after (set_joined at index set k) (λ done l. got t [] l)))
    (unless_refused t (found.set_at w at (suc n)) w (λ set. replied t [] (joined at index set w))))
    (sym (ne_eqb (suc n) 0 (λ (e : suc n ≡ 0). omega (arith, e))))
    (on_instance g values s t h.labels stacks h w at (λ i. named (entries.set_in (entry_of i (suc n))) h) (λ set k. after (set_joined at index set k) (λ done l. got t [] l))
    (unless_refused t (found.set_at w at (suc n)) w (λ set. replied t [] (joined at index set w))) (ap is_some is) st
    (λ x y is_left is_right alike.
    turn_as g values s t h.labels stacks _ (unless_refused t (found.set_at w at (suc n)) w (λ set. replied t [] (joined at index set w)))
    (unless_refused t (renamed refusal_name (entries.set_in (entry_of x (suc n)))) w (λ set. replied t [] (joined at index set w)))
    (ap (λ r. unless_refused t r w (λ set. replied t [] (joined at index set w)))
    (ap (λ (o : Option Inst). found.set_in (live (table_in o) (suc n))) is_right ∙ set_alike values (entry_of x (suc n)) (live y.table (suc n)) (entries_are_alike values x y (suc n) alike)))
    (on_named g values s t h.labels stacks h w (entries.set_in (entry_of x (suc n))) (λ set k. after (set_joined at index set k) (λ done l. got t [] l))
    (λ set. replied t [] (joined at index set w)) refl st
    (λ set found_it.
    let few : nat_lt set (length x.sets) ≡ true =
    few_sets values x y (suc n) set alike (subst HasItsSets (some_same (sym is ∙ is_right)) has) found_it in
    subst (λ (o : Option InstanceView). Agrees g values s t h.labels stacks
    (after (given o (λ i. if nat_lt set (length i.sets) then Gives tt (with_instance at (with_sets (sets.joined index set i.sets) i) h) else kept.Stuck)) (λ (done : Unit {0}) l. got t [] l))
    (replied t [] (joined at index set w)))
    (sym is_left)
    (subst (λ (b : Bool). Agrees g values s t h.labels stacks
    (after (if b then Gives tt (with_instance at (with_sets (sets.joined index set x.sets) x) h) else kept.Stuck) (λ (done : Unit {0}) l. got t [] l))
    (replied t [] (joined at index set w)))
    (sym few)
    (on_got g values s t h.labels stacks (with_instance at (with_sets (sets.joined index set x.sets) x) h) (joined at index set w) [] refl
    (instances_change g values s h stacks w at x (with_sets (sets.joined index set x.sets) x) (λ a. record a { sets = by_views (sets.joined index set) a.sets }) is_left
    (λ a e now. waitables_join values x a index set now) st)))))))

pub waitable_is_joined : WaitableIsJoined
unfolding waitable_join join_turn
waitable_is_joined g values s h stacks w t at word other words inst is is_other there has st =
    on_word g values s t h.labels stacks (word_in words 0) word
    (λ index. given (word_in words 1) (λ to. after (given (slice_get h.instances at) (λ i. named (entries.waitable_in (entry_of i index)) h)) (λ found_it k. joined_to t at index to k)))
    (join_turn t at (slice_index words 0) (slice_index words 1) w) is
    (on_word g values s t h.labels stacks (word_in words 1) other
    (λ to. after (given (slice_get h.instances at) (λ i. named (entries.waitable_in (entry_of i word)) h)) (λ found_it k. joined_to t at word to k))
    (join_turn t at (slice_index words 0) (slice_index words 1) w) is_other
    (turn_as g values s t h.labels stacks _ (join_turn t at (slice_index words 0) (slice_index words 1) w) (join_turn t at word other w)
    (ap (λ (n : ℕ). join_turn t at n (slice_index words 1) w) (word_is words 0 word is) ∙ ap (λ (n : ℕ). join_turn t at word n w) (word_is words 1 other is_other))
    (on_instance g values s t h.labels stacks h w at (λ i. named (entries.waitable_in (entry_of i word)) h) (λ (found_it : Unit {0}) k. joined_to t at word other k)
    (join_turn t at word other w) (ap is_some there) st
    (λ x y is_left is_right alike.
    turn_as g values s t h.labels stacks _ (join_turn t at word other w)
    (unless_refused t (renamed refusal_name (entries.waitable_in (entry_of x word))) w (λ found_it. joins t at word other w))
    (ap (λ r. unless_refused t r w (λ found_it. joins t at word other w))
    (ap (λ (o : Option Inst). found.waitable_in (live (table_in o) word)) is_right ∙ waitable_alike values (entry_of x word) (live y.table word) (entries_are_alike values x y word alike)))
    (on_named g values s t h.labels stacks h w (entries.waitable_in (entry_of x word)) (λ found_it k. joined_to t at word other k) (λ found_it. joins t at word other w) refl st
    (λ found_it e. join_agrees g values s h stacks w t at word inst other there has st))))))
