-- Elements that go over: who runs, and how many tasks there are, stay.
use Rattle.std.specs.Prelude.{ℕ, [], ◌∷◌, Option}
use Rattle.syntax_trees.specs.declared.types.ValType.{ValType}
use Rattle.builtin_kinds.specs.declared.EndKind.{EndKind}
use Rattle.stream_ends.specs.declared.open_copy.By.TheVariants as by
use Rattle.stream_ends.specs.declared.open_copy.OpenCopy.{OpenCopy}
use Rattle.stream_ends.specs.Ends.{new_copy}
use Rattle.instances.specs.declared.entry.EndEntry.{EndEntry}
use Rattle.instances.specs.Entries.{any_end_in}
use Rattle.comp_graph.specs.Graph.{Graph}
use Rattle.graph_views.specs.Canons.{canon_at, instance_of}
use Rattle.trace_labels.specs.declared.label.Copied.{Copied}
use Rattle.trace_labels.specs.declared.label.Label.TheVariants as line
use Rattle.world_parts.specs.declared.parts.Copying.{Copying}
use Rattle.world_parts.specs.Held.{Held, Gives, after, given}
use Rattle.world_parts.specs.Feed.{told, got}
use Rattle.world_parts.specs.Entries.{entry_found, end_idled}
use Rattle.world_parts.specs.Channels.{channel_of, kind_of_end, idle_seen, copied}
use Rattle.copy_replies.specs.declared.moving.Moving.{Moving}
use Rattle.copy_replies.specs.Moves.{channel_named, completed, completed_payload, element_at, moving, moving_by, moving_in, next_place, other_offer, read_of, side_by, side_found, sides_found, write_of}
use Rattle.run_laws.proofs.chains.Parts.{copied_chain, end_idled_chain, entry_found_chain, idle_seen_chain, told_chain, got_chain}
use Rattle.run_laws.proofs.chains.By.{ChainBy, chain_after, chain_given, chain_same}

pub side_found_chain : (g : Graph) (element : Option ValType) (copy : OpenCopy) (h : Held) → ChainBy h (side_found g element copy h)
side_found_chain g element copy h =
    chain_given h (canon_at g copy.canon) (λ c. given (next_place element copy) (λ place. Gives (side_by copy c place h) h)) (λ c is. chain_given h (next_place element copy) (λ place. Gives (side_by copy c place h) h) (λ place is. chain_same h))

pub sides_found_chain : (g : Graph) (element : Option ValType) (of_what : EndKind) (e : EndEntry) (t : ℕ) (at : ℕ) (x : Copying) (offer : OpenCopy) (h : Held) → ChainBy h (sides_found g element of_what e t at x offer h)
unfolding sides_found
sides_found_chain g element of_what e t at x offer h =
    chain_after h (side_found g element (read_of e.side (new_copy (by.Task t) x.canon x.place x.length) offer) h) (λ reader k. after (side_found g element (write_of e.side (new_copy (by.Task t) x.canon x.place x.length) offer) k) (λ writer l. Gives (moving_by of_what e t at x reader writer) l)) (side_found_chain g element (read_of e.side (new_copy (by.Task t) x.canon x.place x.length) offer) h) (λ reader k. chain_after k (side_found g element (write_of e.side (new_copy (by.Task t) x.canon x.place x.length) offer) k) (λ writer l. Gives (moving_by of_what e t at x reader writer) l) (side_found_chain g element (write_of e.side (new_copy (by.Task t) x.canon x.place x.length) offer) k) (λ writer l. chain_same l))

pub moving_in_chain : (g : Graph) (t : ℕ) (at : ℕ) (x : Copying) (h : Held) → ChainBy h (moving_in g t at x h)
unfolding moving_in
moving_in_chain g t at x h =
    chain_after h (entry_found at x.index h) (λ found k. given (any_end_in found) (λ e. given (channel_of e k) (λ c. given (other_offer e.side c) (λ offer. sides_found g (element_at g x.canon) (kind_of_end e k) e t at x offer k)))) (entry_found_chain at x.index h) (λ found k. chain_given k (any_end_in found) (λ e. given (channel_of e k) (λ c. given (other_offer e.side c) (λ offer. sides_found g (element_at g x.canon) (kind_of_end e k) e t at x offer k))) (λ e is. chain_given k (channel_of e k) (λ c. given (other_offer e.side c) (λ offer. sides_found g (element_at g x.canon) (kind_of_end e k) e t at x offer k)) (λ c is. chain_given k (other_offer e.side c) (λ offer. sides_found g (element_at g x.canon) (kind_of_end e k) e t at x offer k) (λ offer is. sides_found_chain g (element_at g x.canon) (kind_of_end e k) e t at x offer k))))

pub moving_chain : (g : Graph) (t : ℕ) (x : Copying) (h : Held) → ChainBy h (moving g t x h)
unfolding moving
moving_chain g t x h =
    chain_given h (canon_at g x.canon) (λ c. moving_in g t (instance_of c) x h) (λ c is. moving_in_chain g t (instance_of c) x h)

pub completed_chain : (m : Moving) (what : Copied) (h : Held) → ChainBy h (completed m what h)
unfolding completed
completed_chain m what h =
    chain_after h (copied m.kind m.number m.count h) (λ done k. after (told (line.Copy (channel_named m.kind m.number) what) k) (λ done l. after (idle_seen m.kind m.side m.number l) (λ is_idle n. after (end_idled m.at m.index is_idle n) (λ done o. got m.task (completed_payload m.kind m.count ∷ []) o)))) (copied_chain m.kind m.number m.count h) (λ done k. chain_after k (told (line.Copy (channel_named m.kind m.number) what) k) (λ done l. after (idle_seen m.kind m.side m.number l) (λ is_idle n. after (end_idled m.at m.index is_idle n) (λ done o. got m.task (completed_payload m.kind m.count ∷ []) o))) (told_chain (line.Copy (channel_named m.kind m.number) what) k) (λ done l. chain_after l (idle_seen m.kind m.side m.number l) (λ is_idle n. after (end_idled m.at m.index is_idle n) (λ done o. got m.task (completed_payload m.kind m.count ∷ []) o)) (idle_seen_chain m.kind m.side m.number l) (λ is_idle n. chain_after n (end_idled m.at m.index is_idle n) (λ done o. got m.task (completed_payload m.kind m.count ∷ []) o) (end_idled_chain m.at m.index is_idle n) (λ done o. got_chain m.task (completed_payload m.kind m.count ∷ []) o))))
