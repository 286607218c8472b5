use Rattle.std.proofs.Common.{◌∙◌, ap, ap₂}
use Rattle.std.proofs.lemmas.Result.{IfOk-weaker}
use Rattle.clap.specs.Words.{App, with_subcommand}
use Rattle.command_words.proofs.words.program.Goals as goal

pub returns : goal.returns
returns c =
    let top = λ (a : App). a.top in
    let run = c.in_ok-run.ensures in
    let check = c.in_ok-check.ensures in
    let show = c.in_ok-show.ensures in
    let pipe = c.in_ok-pipe.ensures in
    let one = c.in_ok-subcommand.ensures.shape run.1 ∙ ap₂ with_subcommand c.bare_program.ensures (ap top run.0) in
    let two = c.in_ok-subcommand-2.ensures.shape check.1 ∙ ap₂ with_subcommand one (ap top check.0) in
    let three = c.in_ok-subcommand-3.ensures.shape show.1 ∙ ap₂ with_subcommand two (ap top show.0) in
    IfOk-weaker c.subcommand-6.result _ _ (λ r h. h.shape pipe.1 ∙ ap₂ with_subcommand three (ap top pipe.0)) c.subcommand-6.ensures
