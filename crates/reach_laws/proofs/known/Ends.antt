-- Ends stand once, and were not dropped, in each world that a run reaches.
use Rattle.std.proofs.Common.{◌≡◌, ℕ, false, List, [], ◌∷◌, refl, sym, subst, Option}
use Rattle.builtin_kinds.specs.declared.EndKind.{EndKind}
use Rattle.builtin_kinds.specs.declared.EndKind.TheVariants.{Stream, Future}
use Rattle.stream_ends.specs.declared.side.Side.{Side}
use Rattle.stream_ends.specs.declared.side.Side.TheVariants.{Reader, Writer}
use Rattle.comp_graph.specs.Graph.{Graph}
use Rattle.script_reader.specs.Script.{Script}
use Rattle.trace_labels.specs.declared.label.Label.{Label}
use Rattle.abi_machine.specs.Control.{EndRef}
use Rattle.abi_machine.specs.World.{Channel, World, first_world}
use Rattle.abi_machine.specs.Reading.{channel_at}
use Rattle.abi_machine.specs.Counting.{channel_end, end_of}
use Rattle.abi_machine.specs.Run.{Reaches}
use Rattle.abi_machine.specs.sound.EndPlaces.{EndStandsAt, LiveAt, IsLive, WritersStand}
use Rattle.abi_machine.specs.sound.EndsPassed.{ReadersStand, ScriptPassesNoEnd}
use Rattle.abi_machine.specs.sound.Readers.{ReadersStandOnce}
use Rattle.abi_machine.specs.sound.Owners.{IsApart}
use Rattle.abi_machine.specs.sound.GoingOn.{IsStanding}
use Rattle.abi_machine.proofs.sound.ends.Live.{same_end}
use Rattle.abi_machine.proofs.sound.ends.Brought.{both_once}
use Rattle.abi_machine.proofs.sound.ends.Places.{first_has_readers, readers_stay}
use Rattle.abi_machine.proofs.sound.Reached.{first_stands, standing_stays}
use Rattle.reach_laws.specs.KnownEnds.{ReachedEndsAreKnown}

-- what is kept of readable ends
readers_from : (g : Graph) (s : Script) (steps : List (List Label)) (w v : World) → IsApart g → ScriptPassesNoEnd s → IsStanding g s w → ReadersStandOnce w → Reaches g s w steps v
    → IsStanding g s v × ReadersStandOnce v
readers_from g s [] w v apart clean k h r = subst (λ (x : World). IsStanding g s x × ReadersStandOnce x) (sym r) (k, h)
readers_from g s (labels ∷ steps) w v apart clean k h r =
    readers_from g s steps r.0 v apart clean (standing_stays g s w r.0 labels apart k r.1) (readers_stay g s w r.0 labels clean k.alone h r.1) r.2

pub readers_reached : (g : Graph) (s : Script) (steps : List (List Label)) (w : World) → IsApart g → ScriptPassesNoEnd s → Reaches g s (first_world g) steps w → IsStanding g s w × ReadersStandOnce w
readers_reached g s steps w apart clean r = readers_from g s steps (first_world g) w apart clean (first_stands g s apart) (first_has_readers g) r

-- an end that was not dropped
live_is : (w : World) (e : EndRef) → IsLive e w.streams w.futures → (end_of w e).dropped ≡ false
live_is w e h = by e.kind e.side h
  where
    by : (kind : EndKind) (side : Side) → LiveAt kind e.number side w.streams w.futures → (channel_end side (channel_at w kind e.number)).dropped ≡ false
    by Stream Reader l = subst (λ (o : Option Channel). (channel_end Reader o).dropped ≡ false) (sym l.1) l.2
    by Stream Writer l = subst (λ (o : Option Channel). (channel_end Writer o).dropped ≡ false) (sym l.1) l.2
    by Future Reader l = subst (λ (o : Option Channel). (channel_end Reader o).dropped ≡ false) (sym l.1) l.2
    by Future Writer l = subst (λ (o : Option Channel). (channel_end Writer o).dropped ≡ false) (sym l.1) l.2

pub stands_live : (w : World) → WritersStand w.insts w.streams w.futures → ReadersStand w.insts w.streams w.futures → (at index : ℕ) (e : EndRef) → EndStandsAt w.insts at index e → IsLive e w.streams w.futures
stands_live w writers readers at index e stands = by e.side refl
  where
    by : (s : Side) → e.side ≡ s → IsLive e w.streams w.futures
    by Reader is = readers.live at index e is stands
    by Writer is = writers.live at index e is stands

pub reached_ends_are_known : ReachedEndsAreKnown
reached_ends_are_known g s steps w apart clean r =
    let k = readers_reached g s steps w apart clean r in
    let writers : WritersStand w.insts w.streams w.futures = k.0.alone.4 in
    let readers : ReadersStand w.insts w.streams w.futures = k.0.alone.6 k.1.0 in
    record {
      once = λ at index n m e d here there kind number side.
          both_once w.insts w.streams w.futures writers readers at index n m e here (subst (EndStandsAt w.insts n m) (same_end d e kind number side) there);
      live = λ at index e here. live_is w e (stands_live w writers readers at index e here);
    }
