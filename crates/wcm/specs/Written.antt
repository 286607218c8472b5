-- What stands in the output and the error output after an answer was to be written.
use Rattle.std.specs.Prelude.{◌≡◌, ◌⊎◌, ℕ, List, ◌++◌, Option}
use Rattle.ca_io.specs.Bytes.{grown, TookFront}
use Rattle.wcm.specs.declared.answer.Answer.{Answer}

-- both texts, and nothing else
pub record WroteAll (a : Answer) (out_before out_now err_before err_now : Option (List ℕ)) : Type 0 where
  pub out : out_now ≡ grown out_before a.out
  pub err : err_now ≡ grown err_before a.err

-- a front of each text, and nothing else
pub record WroteFront (a : Answer) (out_before out_now err_before err_now : Option (List ℕ)) : Type 0 where
  pub out : TookFront out_before out_now a.out
  pub err : TookFront err_before err_now a.err

-- a front of the first text, and nothing else; a front of the second text or of this line, and nothing else
pub record WroteFrontOrLine (a : Answer) (line : List ℕ) (out_before out_now err_before err_now : Option (List ℕ)) : Type 0 where
  pub out : TookFront out_before out_now a.out
  pub err : TookFront err_before err_now a.err ⊎ TookFront err_before err_now line

-- what is left to be written of an answer, where a front of its text for the output has gone out, and nothing else
pub record IsLeft (a left : Answer) (out_before out_now : Option (List ℕ)) : Type 0 where
  pub front : List ℕ
  pub out : a.out ≡ front ++ left.out
  pub taken : out_now ≡ grown out_before front
  pub err : left.err ≡ a.err
  pub status : left.status ≡ a.status
