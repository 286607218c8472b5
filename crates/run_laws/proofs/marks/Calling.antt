-- Answers of canonical functions leave the marks of gates and of sets as they follow from the tasks.
use Rattle.std.proofs.Common.{◌≡◌}
use Rattle.std.specs.Prelude.{ℕ, if◌then◌else◌, List, Option}
use Rattle.comp_graph.specs.declared.graph.BuiltinKind.{BuiltinKind}
use Rattle.comp_graph.specs.declared.graph.BuiltinKind.TheVariants as kind
use Rattle.comp_graph.specs.declared.graph.CanonFunc.{CanonFunc}
use Rattle.comp_graph.specs.declared.graph.CanonFunc.TheVariants as canon
use Rattle.comp_graph.specs.Graph.{Graph}
use Rattle.world_parts.specs.Held.{Held}
use Rattle.replies.specs.Seen.{seen}
use Rattle.machine_runs.specs.Calling.{canon_answered, kind_answered}
use Rattle.standing.specs.MarksKept.{StayBy, CallsIn}
use Rattle.run_laws.specs.KeptMarks.{CalledIn, AnswersKeepMarks}
use Rattle.standing.proofs.marks.EndReplies.{end_reply_stays}
use Rattle.run_laws.proofs.marks.Replying.{answered_stays}
use Rattle.standing.proofs.marks.Waits.{set_wait_stays}

pub kind_answered_stays : (g : Graph) (types : List (Option ℕ)) (t : ℕ) (number : ℕ) (c : CanonFunc) (at : ℕ) (x : BuiltinKind) (words : List ℕ) (h : Held) → CalledIn h t c → CallsIn h t at → StayBy h (kind_answered g types t number c at x words h)
kind_answered_stays g types t number c at (kind.Resource op resource) words h called own =
    answered_stays g t number c words h called
kind_answered_stays g types t number c at (kind.TaskReturn result options) words h called own =
    answered_stays g t number c words h called
kind_answered_stays g types t number c at (kind.Plain op) words h called own =
    answered_stays g t number c words h called
kind_answered_stays g types t number c at (kind.Context op slot) words h called own =
    answered_stays g t number c words h called
kind_answered_stays g types t number c at (kind.Wait op cancellable memory) words h called own =
    set_wait_stays (seen g) t at number op words h own
kind_answered_stays g types t number c at (kind.End of_what element op) words h called own =
    end_reply_stays g types t number words h

pub canon_answered_stays : (g : Graph) (types : List (Option ℕ)) (t : ℕ) (number : ℕ) (x : CanonFunc) (words : List ℕ) (h : Held) → CalledIn h t x → StayBy h (canon_answered g types t number x words h)
canon_answered_stays g types t number (canon.Lower l) words h own =
    answered_stays g t number (canon.Lower l) words h own
canon_answered_stays g types t number (canon.Builtin b) words h own =
    kind_answered_stays g types t number (canon.Builtin b) b.instance b.kind words h own own

pub answers_keep_marks : AnswersKeepMarks
answers_keep_marks g types t number c words h own = canon_answered_stays g types t number c words h own
