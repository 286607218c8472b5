-- Each component leaves fewer that may be opened; its sections, each of them, its payload, the component in it and that with its
-- preamble hold one another in this order. The sections so far and what is left to read are the whole reading.
use Rattle.std.proofs.Common.{◌≡◌, ◌-◌, ◌+◌, ◌*◌}
use Rattle.ca_base.specs.Grammar.{read}
use Rattle.ca_base.specs.Items.{many}
use Rattle.ca_base.proofs.Times.{preceded}
use Rattle.comp_reader.specs.Binary.{section, component_within}
use Rattle.comp_reader.proofs.sections.+components.Given as goal

abbrev pub decreases-read_component_section : goal.decreases-read_component_section
decreases-read_component_section l = 6 * l.allowed + 2

abbrev pub decreases-read_component_within : goal.decreases-read_component_within
decreases-read_component_within l = 6 * l.allowed + 1

abbrev pub decreases-read_opened : goal.decreases-read_opened
decreases-read_opened l = 6 * l.more + 6

abbrev pub decreases-read_payload : goal.decreases-read_payload
decreases-read_payload l = 6 * l.more + 3

abbrev pub decreases-read_section : goal.decreases-read_section
decreases-read_section l = 6 * l.more + 4

abbrev pub decreases-read_sections : goal.decreases-read_sections
decreases-read_sections l = 6 * l.more + 5

abbrev pub invariant-read_sections-loop-index : goal.invariant-read_sections-loop-index
invariant-read_sections-loop-index l =
    read (many l.count (section (component_within l.more))) l.initial.window ≡ preceded l.sections (read (many (l.count - l._index) (section (component_within l.more))) l.window)
