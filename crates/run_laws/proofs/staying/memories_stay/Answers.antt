-- Memories stay.
use Rattle.run_laws.proofs.keeping.still.Steps.{step_keeps_memories, first_keeps_memories, memories_are_first}
use Rattle.run_laws.proofs.staying.memories_stay.Goals as goal

pub returns : goal.returns
returns c = record {
  first = first_keeps_memories;
  steps = step_keeps_memories;
  kept = memories_are_first;
}
