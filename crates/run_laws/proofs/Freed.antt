-- What is asked of a world says nothing of its control.
use Rattle.std.proofs.Common.{◌≡◌, ℕ, List, refl, sym, ap, ◌∙◌}
use Rattle.builtin_kinds.specs.declared.EndKind.{EndKind}
use Rattle.builtin_kinds.specs.declared.EndKind.TheVariants.{Stream, Future}
use Rattle.stream_ends.specs.Ends.{is_pending, is_copying}
use Rattle.comp_graph.specs.declared.graph.CanonFunc.{CanonFunc}
use Rattle.comp_graph.specs.Graph.{Graph, Lifted}
use Rattle.world_parts.specs.Held.{Held}
use Rattle.abi_machine.specs.Control.{EndRef, Free}
use Rattle.abi_machine.specs.Counting.{passes, channel_end, end_of}
use Rattle.abi_machine.specs.Edits.{with_control}
use Rattle.abi_machine.specs.Reading.{numbered, channels}
use Rattle.abi_machine.specs.replies.Streams.{is_async_copy}
use Rattle.abi_machine.specs.World.{Channel, Task, World}
use Rattle.standing.specs.Ends.{HasLiveEnds}
use Rattle.standing.specs.EndReplies.{HasOpenCopy}
use Rattle.standing.specs.HandleDrops.{HandleKept}
use Rattle.standing.specs.Instantiates.{InitActs}
use Rattle.standing.specs.Moves.{Acts}
use Rattle.standing.specs.News.{CopiesWait}
use Rattle.run_laws.specs.Answering.{CallsOwn, IsOther, IsSoundAt, IsBeside}

abbrev pub freed : World → World
freed w = with_control Free w

-- Ends are the same ones.
channels_freed : (k : EndKind) (w : World) → channels k (freed w) ≡ channels k w
channels_freed Stream w = refl
channels_freed Future w = refl

end_freed : (w : World) (e : EndRef) → end_of (freed w) e ≡ end_of w e
end_freed w e = ap (λ (cs : List Channel). channel_end e.side (numbered cs e.number)) (channels_freed e.kind w)

live_freed : (w : World) (at : ℕ) → HasLiveEnds w at → HasLiveEnds (freed w) at
live_freed w at a index e is = ap (λ x. x.dropped) (end_freed w e) ∙ a index e is

copies_freed : (g : Graph) (w : World) (at : ℕ) → CopiesWait g w at → CopiesWait g (freed w) at
copies_freed g w at a index e is pending = ap (λ x. passes (is_async_copy g) x.copy) (end_freed w e) ∙ a index e is (sym (ap is_pending (end_freed w e)) ∙ pending)

pub open_freed : (w : World) (at index : ℕ) → HasOpenCopy w at index → HasOpenCopy (freed w) at index
open_freed w at index a e is = ap is_copying (end_freed w e) ∙ a e is

pub acts_freed : (w : World) (t : ℕ) (task : Task) (f : Lifted) → Acts w t task f → Acts (freed w) t task f
acts_freed w t task f a = record { first = a.first; there = a.there; runs = a.runs; inside = a.inside }

pub init_freed : (w : World) (task : Task) → InitActs w task → InitActs (freed w) task
init_freed w task a = record { first = a.first; there = a.there; alone = a.alone; acts = a.acts }

pub own_freed : (w : World) (t : ℕ) (task : Task) (f : Lifted) (c : CanonFunc) → CallsOwn w t task f c → CallsOwn (freed w) t task f c
own_freed w t task f c a = record { acts = acts_freed w t task f a.acts; state = a.state; own = a.own }

other_freed : (w : World) (t callee : ℕ) → IsOther w t callee → IsOther (freed w) t callee
other_freed w t callee a = record { apart = a.apart; runs = a.runs }

pub sound_freed : (g : Graph) (w : World) (t at : ℕ) → IsSoundAt g w t at → IsSoundAt g (freed w) t at
sound_freed g w t at a = record {
  callers = a.callers;
  sets = a.sets;
  ends = live_freed w at a.ends;
  subtasks = λ index callee stood. other_freed w t callee (a.subtasks index callee stood);
  copies = copies_freed g w at a.copies;
}

pub beside_freed : (g : Graph) (h : Held) (w : World) (t at : ℕ) → IsBeside g h w t at → IsBeside g h (freed w) t at
beside_freed g h w t at a = record {
  gates = a.gates;
  waiters = a.waiters;
  handles = λ index i x here stood.
      (let kept : HandleKept h.tasks w at index x = a.handles index i x here stood in
      record { counted = kept.counted; lends = kept.lends });
  borrows = a.borrows;
  states = a.states;
  calls = a.calls;
  who = a.who;
  ends = a.ends;
  memories = a.memories;
}
