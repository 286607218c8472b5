-- Elements that go over (Component Model, CanonicalABI.md, `canon stream.{read,write}`, `canon future.{read,write}`): they are lifted from the side that
-- writes and lowered to the side that reads, for the task that reads; then the copy has its line and completes the call.
use Rattle.std.specs.Prelude.{◌≡◌, ℕ, List, Option, Some, None}
use Rattle.syntax_trees.specs.declared.value.Value.{Value}
use Rattle.laid_types.specs.Known.{Numbered, numbered_at}
use Rattle.copy_replies.specs.declared.moving.Moving.{Moving}
use Rattle.copy_replies.specs.Moves.{moving, completed}
use Rattle.trace_labels.specs.declared.label.Copied.{Copied}
use Rattle.trace_labels.specs.declared.label.Copied.TheVariants.{Units, Values}
use Rattle.programs.specs.declared.program.Program.{Program}
use Rattle.programs.specs.Program.{value_of}
use Rattle.value_parts.specs.declared.lifting.Origin.{Origin}
use Rattle.value_parts.specs.Lifting.{elements_lifted}
use Rattle.world_parts.specs.declared.parts.Copying.{Copying}
use Rattle.world_parts.specs.declared.parts.Flow.{Flow}
use Rattle.world_parts.specs.Held.{Held, Done, Gives, given}
use Rattle.value_moves.specs.declared.lowering.Destination.{Destination}
use Rattle.value_parts.specs.Coming.{Behind, Then}
use Rattle.value_moves.specs.Lowering.{destination_at, LowersAll}

-- from where, and to where
abbrev pub origin_of : Moving → Origin
origin_of m = record { at = m.writer.instance; callee = m.task; memory = m.writer.memory }

abbrev pub reader_of : Moving → Held → Destination
reader_of m h = destination_at m.reader.instance m.reader.task m.reader.memory m.reader.options h.store

abbrev pub copied_values : Numbered → List Value → Copied
copied_values t values = Values (record { values = values; val_type = t.val_type })

-- They are lowered, and the call is completed.
abbrev pub Reads : Program → Moving → Numbered → List Value → Held → Done Flow → Type 0
Reads p m t values h d =
    Then (λ e. LowersAll p (reader_of m h) t values m.reader.place h e) (λ words k e. e ≡ completed m (copied_values t values) k) d

abbrev pub MovesElements : Program → Moving → Numbered → Held → Done Flow → Type 0
MovesElements p m t h d = Behind (elements_lifted (origin_of m) t m.writer.place m.count h) (λ values k e. Reads p m t values k e) d

-- They are of the type of this number. Of elements that hold nothing none are lifted.
abbrev pub MovesOver : Program → Moving → Option ℕ → Held → Done Flow → Type 0
MovesOver p m None h d = d ≡ completed m (Units m.count) h
MovesOver p m (Some number) h d = Behind (given (numbered_at p.types.now number) (λ t. Gives t h)) (λ t k e. MovesElements p m t k e) d

abbrev pub Transfers : Program → ℕ → Copying → Held → Done Flow → Type 0
Transfers p t x h d = Behind (moving p.graph.now t x h) (λ m k e. MovesOver p m (value_of p x.canon) k e) d
