use Rattle.link_spec.proofs.Samples.{string_needs_memory, string_needs_no_place, string_needs_place, string_lowered, string_lifted}
use Rattle.link_spec.proofs.examples.types_of_lowers.Goals as goal

pub returns : goal.returns
returns c = record { memory = string_needs_memory; no_place = string_needs_no_place; lifted_place = string_needs_place; lowered = string_lowered; lifted = string_lifted }
