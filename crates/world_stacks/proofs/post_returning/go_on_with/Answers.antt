use Rattle.std.proofs.Common.{ℕ, List, ap, ◌∙◌}
use Rattle.world_parts.specs.Held.{held}
use Rattle.world_stacks.specs.Piles.{resumed}
use Rattle.world_stacks.specs.Starting.{gives_words}
use Rattle.world_stacks.proofs.Nested.{resumed_typed, told_store}
use Rattle.world_stacks.proofs.post_returning.go_on_with.Goals as goal

pub returns-in-Ok-clause-typed : goal.returns-in-Ok-clause-typed
returns-in-Ok-clause-typed c =
    resumed_typed c.args.parts.now.store c.tell.new.self.store c.args.address c.args.answer c.args.waiting c.gives_words.result c.resumed.result c.in-Some.running c.requires.waits
    (c.gives_words.ensures ∙ ap (λ (ws : List ℕ). gives_words c.args.parts.now.store c.args.address ws) c.as_slice.ensures) c.if-gives_words.true
    (c.resumed.ensures ∙ ap (λ (ws : List ℕ). resumed ws c.args.waiting) c.as_slice-then-gives_words.ensures) c.in-Some.is
    (told_store _ (held c.args.parts.now) (held c.tell.new.self) c.in-Ok.ensures)
