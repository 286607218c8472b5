-- What stands in the output and the error output where a write of the trace of a run failed, and of what the run leaves no text is known: it is asked for, and the run
-- ends for want of fuel, so that it is told of what the program keeps at its end. A front of the trace was written, and nothing else. It is a front of what each answer
-- of that run has for the output.
use Rattle.std.specs.Prelude.{◌≡◌, ℕ, true, List, Option}
use Rattle.ca_io.specs.Bytes.{TookFront}
use Rattle.abi_machine.specs.declared.run_end.RunEnd.{RunEnd}
use Rattle.command_words.specs.Words.{Request}
use Rattle.wcm.specs.Coming.{IsTrace}
use Rattle.wcm.specs.Leaving.{IsOver}

pub record WroteTrace (held : List ℕ → Option (List ℕ)) (words : Option Request) (out_before out_now err_before err_now : Option (List ℕ)) : Type 0 where
  pub end : RunEnd
  pub text : List ℕ
  pub trace : IsTrace held words true end text
  pub beyond : IsOver end → ⊥
  pub out : TookFront out_before out_now text
  pub err : err_now ≡ err_before
