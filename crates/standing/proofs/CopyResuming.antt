-- A task that waited for its copy goes on.
use Rattle.std.proofs.Common.{◌≡◌, ℕ, true, List, [], ◌∷◌, refl, sym, ap, ◌∙◌, subst, Option, Some, None}
use Rattle.syntax_trees.specs.declared.types.ValType.{ValType}
use Rattle.handle_table.specs.History.{live}
use Rattle.handle_table.specs.Alike.{SlotAlike}
use Rattle.builtin_kinds.specs.declared.EndKind.{EndKind}
use Rattle.builtin_kinds.specs.declared.EndKind.TheVariants as kind
use Rattle.stream_ends.specs.Ends.{is_copying}
use Rattle.tasks.specs.declared.event.BlockedAt.TheVariants as blocked_at
use Rattle.tasks.specs.declared.phase.Phase.TheVariants as phase
use Rattle.instances.specs.declared.entry.EndEntry.{EndEntry}
use Rattle.instances.specs.declared.entry.WorldEntry.{WorldEntry}
use Rattle.instances.specs.declared.entry.WorldEntry.TheVariants as entry
use Rattle.instances.specs.Instances.{InstanceView, entry_of}
use Rattle.channels.specs.Channels.{end_in}
use Rattle.world_parts.specs.Held.{Held, after, given, Gives}
use Rattle.world_parts.specs.Feed.{got}
use Rattle.world_parts.specs.Going.{copy_resumed_of, copy_resumed}
use Rattle.abi_machine.specs.World.{Entry, OfEnd, ForCopy, Acting, InBuiltin, Inst, Channel, World}
use Rattle.abi_machine.specs.Edits as world
use Rattle.abi_machine.specs.Edits.{in_state}
use Rattle.abi_machine.specs.Canons.{flag_at}
use Rattle.abi_machine.specs.Reading.{table_in, entry_at, channel_at}
use Rattle.abi_machine.specs.Counting.{channel_end, payload_of}
use Rattle.abi_machine.specs.Finding as found_there
use Rattle.abi_machine.specs.Turn as turns
use Rattle.abi_machine.specs.Turn.{replied}
use Rattle.abi_machine.specs.Delivering as machine
use Rattle.abi_machine.specs.Delivering.{told_payload, resumed}
use Rattle.abi_machine.proofs.sound.Found.{some_same}
use Rattle.standing.specs.Instances.{EntryStands}
use Rattle.standing.specs.Stands.{Stands}
use Rattle.standing.specs.Channels.{IsEndsType}
use Rattle.standing.specs.EndReplies.{CopyResumes}
use Rattle.standing.proofs.Tables.{entries_are_alike}
use Rattle.standing.proofs.Agreeing.{on_got}
use Rattle.standing.proofs.Steps.{via, both_as, IsKept, is_kept}
use Rattle.standing.proofs.Resuming.{resumes_is, resuming_is, far_is, gone_on, gone_stands, builtin_is, from_is}
use Rattle.standing.proofs.EndsFound.{EndFound, end_is_found, entry_there, ref_of}
use Rattle.standing.proofs.EndsDropped.{end_same}
use Rattle.standing.proofs.EndsTold.{once_told, once_told_stands}
use Rattle.standing.proofs.Delivering.{end_told_is}

channel_again : (t : ℕ) (w : World) (k : EndKind) (number : ℕ) → channel_at (in_state t Acting w) k number ≡ channel_at w k number
channel_again t w kind.Stream number = refl
channel_again t w kind.Future number = refl

-- The kind and the type of an end in a table.
record EndThere (values : List ValType) (e : EndEntry) : Type 0 where
  kind : EndKind
  element : Option ValType
  of : IsEndsType values kind element e.end_type

end_there : (values : List ValType) (e : EndEntry) (o : Option WorldEntry) (p : Option Entry) → o ≡ Some (entry.End e) → SlotAlike (EntryStands values) o p → EndThere values e
end_there values e None p is a = absurd (cc)
end_there values e (Some x) None is a = absurd a
end_there values e (Some x) (Some y) is a =
    let stands : EntryStands values (entry.End e) y = subst (λ (z : WorldEntry). EntryStands values z y) (some_same is) a in
    record { kind = stands.0; element = stands.1.0; of = stands.1.1 }

pub copy_resumes : CopyResumes
unfolding resumed machine.wait_resumed machine.told_payload copy_resumed
copy_resumes g values s h stacks w t task f number index words e acts is stands_at busy marks st =
    let k : IsKept g values s h w t task f = is_kept g values s h stacks w t task f acts st in
    let gone : Held = gone_on t k.slot h in
    let u : World = in_state t Acting w in
    let st_gone : Stands g values s gone stacks u = gone_stands g values s h stacks w t k.slot k.is st in
    let x : InstanceView = k.inst in
    let there : entry_of x index ≡ Some (entry.End e) = stands_at x k.here in
    let alike : SlotAlike (EntryStands values) (entry_of x index) (live k.machine_inst.table index) = entries_are_alike values x k.machine_inst index k.insts in
    let end : EndThere values e = end_there values e (entry_of x index) (live k.machine_inst.table index) there alike in
    let ef : EndFound values gone u end.kind e = end_is_found g values s gone stacks u end.kind end.element e (marks f.instance index x e k.here there) end.of st_gone in
    let beside : entry_at w f.instance index ≡ Some (OfEnd (ref_of end.kind e)) =
    ap (λ (o : Option Inst). live (table_in o) index) k.machine_here ∙ entry_there values end.kind end.element e (entry_of x index) (live k.machine_inst.table index) there end.of alike in
    let open_copy : is_copying (end_in e.side ef.channel.ends) ≡ true =
    ap is_copying (sym (end_same values gone u end.kind e ef) ∙ ap (λ (c : Option Channel). channel_end e.side c) (channel_again t w end.kind e.number)) ∙ busy (ref_of end.kind e) beside in
    both_as g values s t h.labels stacks _ (got t (payload_of u (ref_of end.kind e) ∷ []) (once_told f.instance index x end.kind e ef.channel gone)) _
    (replied t (payload_of u (ref_of end.kind e) ∷ []) (world.concluded (ref_of end.kind e) u))
    (resumes_is g values s h w t task f k (phase.Blocked (blocked_at.Copy index) (flag_at g number)) (far_is g values s h w t task f k (InBuiltin number words (ForCopy index)) is)
    ∙ from_is g values s h w t task f k number words (ForCopy index) is
    ∙ builtin_is g values s h w t task f k number 0 words (ForCopy index) is refl refl
    ∙ ap (λ (o : Option InstanceView). after (given o (λ i. Gives (entry_of i index) gone)) (λ found m. copy_resumed_of t f.instance index found m)) k.here
    ∙ ap (λ (o : Option WorldEntry). copy_resumed_of t f.instance index o gone) there
    ∙ via _ _ _ _ (end_told_is g values s gone stacks u f.instance index x end.kind e ef k.here there open_copy st_gone))
    (resuming_is g w t task f (InBuiltin number words (ForCopy index)) acts is
    ∙ ap (λ (o : Option Entry). turns.given (found_there.any_end_in o) (λ r. told_payload t (machine.end_told r u))) beside)
    (on_got g values s t h.labels stacks (once_told f.instance index x end.kind e ef.channel gone) (world.concluded (ref_of end.kind e) u) (payload_of u (ref_of end.kind e) ∷ []) refl
    (once_told_stands g values s gone stacks u f.instance index x end.kind e ef k.here there st_gone))
