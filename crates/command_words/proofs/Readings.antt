-- What a parse of the program's words gives.
use Rattle.std.proofs.Common.{◌≡◌, ◌∙◌, Bool, true, false, not, ◌||◌, cond, List, [], Option, Some, None, refl, ap, sym, subst, option_map, codes}
use Rattle.std.specs.Prelude.{is_some}
use Rattle.std.specs.Option.{IsSome}
use Rattle.clap.specs.Words.{App, Row, Shape, built, fault_of, is_simple, is_simple_and_free, kind_of, subcommand_of, takes}
use Rattle.std.specs.List.{list_all, list_any}
use Rattle.clap.specs.Facts.{explicit_source}
use Rattle.clap.specs.Takes.{default_passes, is_valid, level_passes, settle_passes, walk_passes}
use Rattle.clap.specs.Simple.{argument_words, built_leaf, entered, inherited, marked_built, names_of, on_top, rows_at, with_leaf_noted}
use Rattle.clap.specs.Walk.{Text, answers_to, finished, nothing_held, stop_after, walk, walk_from}
use Rattle.clap.specs.declared.error.Error.{Error}
use Rattle.clap.specs.declared.error.kind.ErrorKind.TheVariants.{OutOfMemory}
use Rattle.command_words.specs.Words.{Request, request_of, request_of_rows, is_taken, program_app, run_app, file_app, pipe_app}
use Rattle.command_words.specs.Laws.{TakenWordsAreRead}
use Rattle.command_words.proofs.Exact.{left, right, taken}

simple : is_simple program_app ≡ true
simple = refl

free : is_simple_and_free program_app ≡ true
free = refl

-- the program as it is built
abbrev ready : App
ready = built program_app

needs : (required has : Bool) → required ≡ true → (not required || has) ≡ true → has ≡ true
needs true has e f = f
needs false has e f = cc

-- a level that passes has the subcommand that is asked of it
wants : (s : Shape) (names : List (Text × List Text)) (words : List Text) (has : Bool) → s.subcommand_required ≡ true → level_passes s names nothing_held words has ≡ true → has ≡ true
wants s names words has asks e =
    let end = (walk s.rules names nothing_held words).held in
    let rows = finished s.rules end in
    let valid : is_valid s rows has ≡ true = right (list_all default_passes s.rules) _ (right (settle_passes s.rules s.args_override_self end) _ (right (walk_passes s names (walk_from nothing_held) words) _ e)) in
    needs s.subcommand_required has asks
    (left (not s.subcommand_required || has) _ (right (not s.arg_required_else_help || (has || list_any (λ r. explicit_source r.source) rows)) _ valid))

-- a subcommand as it is built
abbrev made : App → Shape
made a = built_leaf (inherited (on_top with_leaf_noted (on_top marked_built program_app)).top a.top)

abbrev first_of_four : Bool → Bool → Bool → Bool → Option Shape
first_of_four run check show pipe =
    cond run (Some (made run_app))
    (cond check (Some (made (file_app (codes "check")))) (cond show (Some (made (file_app (codes "show")))) (cond pipe (Some (made pipe_app)) None)))

-- the subcommand that a walk met is one of the program's
by_name : (words : List Text) (run check show pipe : Bool) → is_some (option_map (λ s. rows_at s words) (first_of_four run check show pipe)) ≡ true
    → IsSome (request_of_rows (option_map (λ s. rows_at s words) (first_of_four run check show pipe)))
by_name words true check show pipe e = refl
by_name words false true show pipe e = refl
by_name words false false true pipe e = refl
by_name words false false false true e = refl
by_name words false false false false e = cc

in_stop : (stop : Option (Text × List Text)) → is_some (entered ready stop) ≡ true → IsSome (request_of_rows (entered ready stop))
in_stop None e = cc
in_stop (Some p) e = by_name p.1 (answers_to p.0 (codes "run", [])) (answers_to p.0 (codes "check", [])) (answers_to p.0 (codes "show", [])) (answers_to p.0 (codes "pipe", [])) e

-- words that are taken have a request
has_request : (words : List Text) → takes program_app words ≡ true → IsSome (request_of_rows (subcommand_of program_app words))
has_request words e =
    let inner = argument_words program_app words in
    let stop = stop_after ready.top.rules (names_of ready) inner in
    in_stop stop (wants ready.top (names_of ready) inner (is_some (entered ready stop)) refl (right _ _ (right (is_simple program_app) _ e)))

has_taken : (words : List Text) → is_taken words ≡ true → IsSome (request_of_rows (subcommand_of program_app words))
unfolding is_taken
has_taken words e = has_request words e

-- their request
pub request_is : (words : List Text) → is_taken words ≡ true → request_of words ≡ request_of_rows (subcommand_of program_app words)
unfolding request_of
request_is words e = rw e refl

-- where a parse gives matches
module _ (a : App) (words : List Text) (rows : Option (Text × List Row)) (X : Type 0) (program_is : a ≡ program_app) (matches : is_simple a ≡ true → X × (rows ≡ subcommand_of a words)) (kinds : is_simple_and_free a ≡ true → fault_of a words ≡ []) where
  pub is_read : is_taken words ≡ true
  is_read = taken words (subst (λ (b : App). fault_of b words ≡ []) program_is (kinds (subst (λ (b : App). is_simple_and_free b ≡ true) (sym program_is) free)))

  rows_are : rows ≡ subcommand_of program_app words
  rows_are = (matches (subst (λ (b : App). is_simple b ≡ true) (sym program_is) simple)).1 ∙ ap (λ (b : App). subcommand_of b words) program_is

  pub some_request : IsSome (request_of_rows rows)
  some_request = subst (λ (r : Option (Text × List Row)). IsSome (request_of_rows r)) (sym rows_are) (has_taken words is_read)

  pub read_request : request_of words ≡ request_of_rows rows
  read_request = request_is words is_read ∙ ap request_of_rows (sym rows_are)

-- where it gives an error
false_if : (b : Bool) → (b ≡ true → ⊥) → b ≡ false
false_if true h = absurd (h refl)
false_if false h = refl

pub not_taken : (a : App) (words : List Text) (e : Error) → a ≡ program_app → (kind_of e ≡ OutOfMemory → ⊥)
    → (takes a words ≡ true → kind_of e ≡ OutOfMemory) → is_taken words ≡ false
unfolding is_taken
not_taken a words e program_is other passes =
    false_if (takes program_app words) (λ t. other (passes (subst (λ (b : App). takes b words ≡ true) (sym program_is) t)))

-- words that are not taken are no request, and others are one
pub refused_words : (words : List Text) → is_taken words ≡ false → request_of words ≡ None
unfolding request_of
refused_words words e = rw e refl

is_none : (o : Option Request) → o ≡ None → IsSome o → ⊥
is_none None e i = cc
is_none (Some c) e i = cc

pub taken_words : TakenWordsAreRead
taken_words words =
    (λ e. false_if (is_taken words) (λ t. is_none _ (sym (request_is words t) ∙ e) (has_taken words t)), refused_words words)
