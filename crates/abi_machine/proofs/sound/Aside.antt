-- Streams and futures are changed: what does not speak of them stays.
use Rattle.std.proofs.Common.{ℕ, List, Option}
use Rattle.syntax_trees.specs.declared.types.ValType.{ValType}
use Rattle.builtin_kinds.specs.declared.EndKind.{EndKind}
use Rattle.builtin_kinds.specs.declared.EndKind.TheVariants.{Stream, Future}
use Rattle.abi_machine.specs.World.{Channel, World}
use Rattle.abi_machine.specs.Edits.{with_channel, channel_made}

module _ (K : World → Type 0) (streams : (w : World) (all : List Channel) → K w → K (record w { streams = all })) (futures : (w : World) (all : List Channel) → K w → K (record w { futures = all })) where
  pub channel_kept : (kind : EndKind) (number : ℕ) (f : Channel → Channel) (w : World) → K w → K (with_channel kind number f w)
  channel_kept Stream number f w h = streams w _ h
  channel_kept Future number f w h = futures w _ h

  pub made_kept : (kind : EndKind) (element : Option ValType) (w : World) → K w → K (channel_made kind element w)
  made_kept Stream element w h = streams w _ h
  made_kept Future element w h = futures w _ h
