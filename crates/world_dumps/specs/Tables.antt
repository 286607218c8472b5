-- What a run leaves (Component Model, CanonicalABI.md, "Component Instance State"; Core 2.0, section 4.2.8): the live entries of the tables of the
-- component instances that have begun, by their indices, and the memories with their bytes.
use Rattle.std.specs.Prelude.{ℕ, List, [], ◌∷◌, map, Option, Some, None}
use Rattle.std.specs.List.{flat_map}
use Rattle.std.specs.Option.{option_map}
use Rattle.handle_table.specs.Slots.{live_indices}
use Rattle.instances.specs.Instances.{InstanceView, entry_of}
use Rattle.trace_labels.specs.declared.dump.LiveEntry.{LiveEntry}
use Rattle.trace_show.specs.DumpText.{dump_text}
use Rattle.world_parts.specs.Held.{Held}
use Rattle.world_dumps.specs.Entries.{entry_shown}

abbrev pub shown_at : Held → InstanceView → ℕ → Option LiveEntry
shown_at h i index = option_map (λ e. record { index = index; entry = entry_shown e i h }) (entry_of i index)

abbrev pub listed : Option LiveEntry → List LiveEntry
listed None = []
listed (Some e) = e ∷ []

abbrev pub table_shown : Held → InstanceView → List LiveEntry
table_shown h i = flat_map (λ index. listed (shown_at h i index)) (live_indices i.slots)

-- the text
abbrev pub dump_of : Held → List ℕ
dump_of h = dump_text (map (table_shown h) h.instances) (map (λ m. m.bytes) h.store.memories)
