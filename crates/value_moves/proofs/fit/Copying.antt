-- What is told of elements that go over, and of the copy behind them, leaves the store alone, and no handle is lent more often.
use Rattle.std.proofs.Common.{◌≡◌, refl}
use Rattle.std.specs.Prelude.{ℕ, ◌+◌, ◌*◌, [], ◌∷◌, Option, Some, None}
use Rattle.syntax_trees.specs.declared.types.ValType.{ValType}
use Rattle.laid_types.specs.Layout.{laid}
use Rattle.builtin_kinds.specs.declared.EndKind.{EndKind}
use Rattle.builtin_kinds.specs.declared.EndKind.TheVariants.{Stream, Future}
use Rattle.stream_ends.specs.declared.side.Side.{Side}
use Rattle.stream_ends.specs.declared.side.Side.TheVariants.{Reader, Writer}
use Rattle.stream_ends.specs.declared.open_copy.By.{By}
use Rattle.stream_ends.specs.declared.open_copy.By.TheVariants as by
use Rattle.stream_ends.specs.declared.open_copy.OpenCopy.{OpenCopy}
use Rattle.stream_ends.specs.Ends.{new_copy, other_side, standing_of}
use Rattle.channels.specs.declared.channel.Channel.{Channel}
use Rattle.channels.specs.Channels.{end_in}
use Rattle.instances.specs.declared.entry.EndEntry.{EndEntry}
use Rattle.instances.specs.Entries.{any_end_in}
use Rattle.comp_graph.specs.declared.graph.BuiltinKind.TheVariants as kind
use Rattle.comp_graph.specs.declared.graph.CanonFunc.{CanonFunc}
use Rattle.comp_graph.specs.declared.graph.CanonFunc.TheVariants as canon
use Rattle.comp_graph.specs.Graph.{Graph, passed_value}
use Rattle.graph_views.specs.Canons.{canon_at, instance_of, options_of}
use Rattle.trace_labels.specs.declared.label.Channel as labels
use Rattle.trace_labels.specs.declared.label.Channel.TheVariants as channel
use Rattle.trace_labels.specs.declared.label.Copied.{Copied}
use Rattle.trace_labels.specs.declared.label.Label.TheVariants as line
use Rattle.world_parts.specs.declared.parts.Copying.{Copying}
use Rattle.world_parts.specs.declared.parts.Flow.{Flow}
use Rattle.world_parts.specs.Held.{Held, Done, Gives, after, given}
use Rattle.world_parts.specs.Feed.{told, got}
use Rattle.world_parts.specs.Entries.{entry_found, end_idled}
use Rattle.world_parts.specs.Slots.{small}
use Rattle.world_parts.specs.Channels.{channel_of, kind_of_end, idle_seen, copied}
use Rattle.world_parts.specs.Places.{memory_of}
use Rattle.copy_replies.specs.declared.moving.CopySide.{CopySide}
use Rattle.copy_replies.specs.declared.moving.Moving.{Moving}
use Rattle.copy_replies.specs.Moves.{channel_named, completed, completed_payload, element_at, moving, moving_by, moving_in, next_place, other_offer, read_of, side_by, side_found, sides_found, task_by, value_in, write_of}
use Rattle.value_parts.proofs.fit.Keeps.{Keeps, KeepsBy, keeps_after, keeps_given, keeps_if, keeps_same, keeps_all, keeps_from}
use Rattle.value_parts.proofs.fit.Channels.{copied_keeps, idle_seen_keeps}
use Rattle.value_parts.proofs.fit.Entries.{end_idled_keeps, entry_found_keeps}
use Rattle.value_parts.proofs.fit.Feed.{got_keeps, told_keeps}

pub side_found_keeps : (g : Graph) (element : Option ValType) (copy : OpenCopy) (h : Held) → KeepsBy h (side_found g element copy h)
side_found_keeps g element copy h =
    keeps_given h (canon_at g copy.canon) (λ c. given (next_place element copy) (λ place. Gives (side_by copy c place h) h)) (λ c is. keeps_given h (next_place element copy) (λ place. Gives (side_by copy c place h) h) (λ place is. keeps_same h))

pub sides_found_keeps : (g : Graph) (element : Option ValType) (of_what : EndKind) (e : EndEntry) (t : ℕ) (at : ℕ) (x : Copying) (offer : OpenCopy) (h : Held) → KeepsBy h (sides_found g element of_what e t at x offer h)
unfolding sides_found
sides_found_keeps g element of_what e t at x offer h =
    keeps_after h (side_found g element (read_of e.side (new_copy (by.Task t) x.canon x.place x.length) offer) h) (λ reader k. after (side_found g element (write_of e.side (new_copy (by.Task t) x.canon x.place x.length) offer) k) (λ writer l. Gives (moving_by of_what e t at x reader writer) l)) (side_found_keeps g element (read_of e.side (new_copy (by.Task t) x.canon x.place x.length) offer) h) (λ reader k. keeps_after k (side_found g element (write_of e.side (new_copy (by.Task t) x.canon x.place x.length) offer) k) (λ writer l. Gives (moving_by of_what e t at x reader writer) l) (side_found_keeps g element (write_of e.side (new_copy (by.Task t) x.canon x.place x.length) offer) k) (λ writer l. keeps_same l))

pub moving_in_keeps : (g : Graph) (t : ℕ) (at : ℕ) (x : Copying) (h : Held) → KeepsBy h (moving_in g t at x h)
unfolding moving_in
moving_in_keeps g t at x h =
    keeps_after h (entry_found at x.index h) (λ found k. given (any_end_in found) (λ e. given (channel_of e k) (λ c. given (other_offer e.side c) (λ offer. sides_found g (element_at g x.canon) (kind_of_end e k) e t at x offer k)))) (entry_found_keeps at x.index h) (λ found k. keeps_given k (any_end_in found) (λ e. given (channel_of e k) (λ c. given (other_offer e.side c) (λ offer. sides_found g (element_at g x.canon) (kind_of_end e k) e t at x offer k))) (λ e is. keeps_given k (channel_of e k) (λ c. given (other_offer e.side c) (λ offer. sides_found g (element_at g x.canon) (kind_of_end e k) e t at x offer k)) (λ c is. keeps_given k (other_offer e.side c) (λ offer. sides_found g (element_at g x.canon) (kind_of_end e k) e t at x offer k) (λ offer is. sides_found_keeps g (element_at g x.canon) (kind_of_end e k) e t at x offer k))))

pub moving_keeps : (g : Graph) (t : ℕ) (x : Copying) (h : Held) → KeepsBy h (moving g t x h)
unfolding moving
moving_keeps g t x h =
    keeps_given h (canon_at g x.canon) (λ c. moving_in g t (instance_of c) x h) (λ c is. moving_in_keeps g t (instance_of c) x h)

pub completed_keeps : (m : Moving) (what : Copied) (h : Held) → KeepsBy h (completed m what h)
unfolding completed
completed_keeps m what h =
    keeps_after h (copied m.kind m.number m.count h) (λ done k. after (told (line.Copy (channel_named m.kind m.number) what) k) (λ done l. after (idle_seen m.kind m.side m.number l) (λ is_idle n. after (end_idled m.at m.index is_idle n) (λ done o. got m.task (completed_payload m.kind m.count ∷ []) o)))) (copied_keeps m.kind m.number m.count h) (λ done k. keeps_after k (told (line.Copy (channel_named m.kind m.number) what) k) (λ done l. after (idle_seen m.kind m.side m.number l) (λ is_idle n. after (end_idled m.at m.index is_idle n) (λ done o. got m.task (completed_payload m.kind m.count ∷ []) o))) (told_keeps (line.Copy (channel_named m.kind m.number) what) k) (λ done l. keeps_after l (idle_seen m.kind m.side m.number l) (λ is_idle n. after (end_idled m.at m.index is_idle n) (λ done o. got m.task (completed_payload m.kind m.count ∷ []) o)) (idle_seen_keeps m.kind m.side m.number l) (λ is_idle n. keeps_after n (end_idled m.at m.index is_idle n) (λ done o. got m.task (completed_payload m.kind m.count ∷ []) o) (end_idled_keeps m.at m.index is_idle n) (λ done o. got_keeps m.task (completed_payload m.kind m.count ∷ []) o))))
