use Rattle.std.proofs.Common.{ℕ, ◌*◌, ◌++◌, List, take, ap, ◌∙◌}
use Rattle.std.proofs.lemmas.List.{take_rest}
use Rattle.trace_show.specs.DumpText.{row_text}
use Rattle.trace_show.proofs.dump_lines.push_row_of.Goals as goal

pub returns : goal.returns
returns c =
    c.in_ok-push_row.ensures
    ∙ ap (λ (bytes : List ℕ). c.args.to.now.items ++ row_text (32 * c.args.row) bytes)
    (c.first_row.ensures ∙ ap (λ (bytes : List ℕ). take 32 bytes) (take_rest c.args.memory.now (32 * c.args.row)))
