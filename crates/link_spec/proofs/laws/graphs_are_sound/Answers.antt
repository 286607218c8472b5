use Rattle.link_spec.proofs.SoundGraphs.{graphs_are_imported, lifts_are_there, graphs_are_made, labels_are_distinct, types_are_shallow, lowered_types_are_sound, no_borrow_is_passed, modules_stand}
use Rattle.link_spec.proofs.laws.graphs_are_sound.Goals as goal

pub returns : goal.returns
returns c = record { imported = graphs_are_imported; lifts = lifts_are_there; made = graphs_are_made; labels = labels_are_distinct; shallow = types_are_shallow; lowered = lowered_types_are_sound; lending = no_borrow_is_passed; modules = modules_stand }
