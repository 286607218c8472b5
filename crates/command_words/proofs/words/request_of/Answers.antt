use Rattle.std.proofs.Common.{◌∙◌, map, string_bytes}
use Rattle.clap.specs.Words.{app_of, subcommand_rows_of}
use Rattle.command_words.specs.Words.{request_of_rows}
use Rattle.command_words.proofs.Entries.{is_found, is_said}
use Rattle.command_words.proofs.Readings.{some_request, read_request, is_read, refused_words, not_taken}
use Rattle.command_words.proofs.words.request_of.Goals as goal

pub unwrap-requires : goal.unwrap-requires
unwrap-requires c =
    is_found c.request_in.result (request_of_rows (subcommand_rows_of c.in-Ok.matches)) c.request_in.ensures
    (some_request (app_of c.in_ok-program.field-0) (map string_bytes c.args.words.now) _ _ c.in_ok-program.ensures c.in-Ok.ensures.matches c.in-Ok.ensures.kinds)

pub returns-in-Ok-clause-ok : goal.returns-in-Ok-clause-ok
returns-in-Ok-clause-ok c =
    let words = map string_bytes c.args.words.now in (
      read_request (app_of c.in_ok-program.field-0) words (subcommand_rows_of c.in-Ok.matches) _ c.in_ok-program.ensures c.in-Ok.ensures.matches c.in-Ok.ensures.kinds
          ∙ is_said c.request_in.result (request_of_rows (subcommand_rows_of c.in-Ok.matches)) c.unwrap.result c.unwrap.ensures c.request_in.ensures,
      is_read (app_of c.in_ok-program.field-0) words (subcommand_rows_of c.in-Ok.matches) _ c.in_ok-program.ensures c.in-Ok.ensures.matches c.in-Ok.ensures.kinds,
    )

pub returns-clause-refused : goal.returns-clause-refused
returns-clause-refused c =
    let words = map string_bytes c.args.words.now in
    let none = not_taken (app_of c.in_ok-program.field-0) words c.in-Err.error c.in_ok-program.ensures
    (λ e. c.in_default.not-OutOfMemory (c.kind.ensures ∙ e)) c.in-Err.ensures.passes in
    (refused_words words none, none)
