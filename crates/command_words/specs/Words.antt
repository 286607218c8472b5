-- The words of the command line: `run FILE SCRIPT`, which `--dump` may stand behind or among, `check FILE`, `show FILE` or `pipe SEED N`,
-- behind the program's name. Which words are read, and as what, is said by what `clap` defines of its commands (`specs/Takes` and
-- `specs/Simple` of clap), for the command below.
use Rattle.std.specs.Prelude.{◌≡◌, ℕ, Bool, true, false, not, ◌&&◌, ◌||◌, ◌==◌, nat_le, List, [], ◌∷◌, length, Option, Some, None, if◌then◌else◌, codes, unwrap_or, option_and_then}
use Rattle.std.specs.Str.Parse.{digits_value, without_leading_plus}
use Rattle.std.specs.Str.{bytes_eq}
use Rattle.clap.specs.Words.{App, Row, Rule, app_of, first_of, new_app, new_rule, subcommand_of, takes, with_rule, with_subcommand}
use Rattle.clap.specs.Simple.{on_top}
use Rattle.clap.specs.ValueTests.{is_numeral, is_unsigned_in}
use Rattle.clap.specs.declared.builder.value_parser.ValueParser.TheVariants.{Unsigned}
use Rattle.clap.specs.declared.builder.action.ArgAction.TheVariants.{SetTrue}
use Rattle.clap.specs.declared.builder.command.Command as clap
use Rattle.clap.specs.declared.builder.command.Command.TheViews.{out-Command}
use Rattle.command_words.specs.declared.words.Command as of_source
use Rattle.command_words.specs.declared.words.Command.TheVariants as source
use Rattle.command_words.specs.declared.words.Request as request_of_source
use Rattle.command_words.specs.declared.words.Request.TheVariants as request_source

-- what the program is told to do
pub data Command : Type 0 where
  -- run the component of the first file under the script of the second, and tell what the run leaves where that is asked for
  Run : List ℕ → List ℕ → Bool → Command
  -- read and link the component of a file
  Check : List ℕ → Command
  -- read and link the component of a file, and tell what can be called
  Show : List ℕ → Command

-- the command of the program's own type, with the names that it borrows
abbrev pub said : of_source.Command → Command
said (source.Run file script dump) = Run file.now script.now dump
said (source.Check file) = Check file.now
said (source.Show file) = Show file.now

-- what the words ask for: a command over a component file, or a run of the pipe of a seed and a count
pub data Request : Type 0 where
  OfFile : Command → Request
  Pipe : ℕ → ℕ → Request

-- the request of the program's own type
abbrev pub asked : request_of_source.Request → Request
asked (request_source.OfFile command) = OfFile (said command)
asked (request_source.Pipe seed count) = Pipe seed count

-- the component file that a command names
abbrev pub component_file : Command → List ℕ
component_file (Run file script dump) = file
component_file (Check file) = file
component_file (Show file) = file

-- a file's name, which is required
abbrev pub file_rule : List ℕ → Rule
file_rule id = record (new_rule id) { required = true }

-- a number from 0 to this one, which is required
abbrev pub number_rule : List ℕ → ℕ → Rule
number_rule id most = record (new_rule id) { required = true; parser = Some (Unsigned 0 most) }

-- the greatest seed, and the greatest count
abbrev pub most_seed : ℕ
most_seed = 2147483647

abbrev pub most_count : ℕ
most_count = 1000000

-- the option `--dump`, which has no value and may stand once
abbrev pub dump_rule : Rule
dump_rule = record (new_rule (codes "dump")) { long = Some (codes "dump"); action = Some SetTrue }

-- a subcommand of this name over a component file
abbrev pub file_app : List ℕ → App
file_app name = with_rule (new_app name) (file_rule (codes "FILE"))

-- the subcommands
abbrev pub run_app : App
run_app = with_rule (with_rule (file_app (codes "run")) (file_rule (codes "SCRIPT"))) dump_rule

abbrev pub pipe_app : App
pipe_app = with_rule (with_rule (new_app (codes "pipe")) (number_rule (codes "SEED") most_seed)) (number_rule (codes "N") most_count)

-- the program alone: it wants a subcommand, and `help` is none
abbrev pub bare_app : App
bare_app = on_top (λ s. record s { subcommand_required = true; disable_help_subcommand = true }) (new_app (codes "wcm"))

-- the program with its subcommands
abbrev pub program_app : App
program_app =
    with_subcommand (with_subcommand (with_subcommand (with_subcommand bare_app run_app.top) (file_app (codes "check")).top) (file_app (codes "show")).top) pipe_app.top

-- a command of clap's that is read so, and whose arguments are its own
abbrev pub IsOf : App → clap.Command → Type 0
IsOf a c = (app_of c ≡ a) × ((out-Command c).has_globals ≡ false)

-- the text of an entry, and the empty one where there is none
abbrev pub text_in : List ℕ → List Row → List ℕ
text_in id rows = unwrap_or (first_of id rows) []

-- an option without a value is given
abbrev pub is_given : List ℕ → List Row → Bool
is_given id rows = bytes_eq (text_in id rows) (codes "true")

-- the command `run` of its entries
abbrev pub run_by : List Row → Command
run_by rows = Run (text_in (codes "FILE") rows) (text_in (codes "SCRIPT") rows) (is_given (codes "dump") rows)

-- the number of a text of decimal digits, which may stand behind a plus; 0 of another text, or where it is more than this one
abbrev pub number_up_to : ℕ → List ℕ → ℕ
number_up_to most text = if is_unsigned_in 0 most text then digits_value 10 (without_leading_plus text) else 0

-- the pipe of its entries
abbrev pub pipe_by : List Row → Request
pipe_by rows = Pipe (number_up_to most_seed (text_in (codes "SEED") rows)) (number_up_to most_count (text_in (codes "N") rows))

-- the request of a subcommand's name and its entries
abbrev pub request_by : List ℕ → List Row → Option Request
request_by name rows =
    if bytes_eq name (codes "run") then Some (OfFile (run_by rows))
    else (if bytes_eq name (codes "check") then Some (OfFile (Check (text_in (codes "FILE") rows)))
    else (if bytes_eq name (codes "show") then Some (OfFile (Show (text_in (codes "FILE") rows)))
    else (if bytes_eq name (codes "pipe") then Some (pipe_by rows) else None)))

abbrev pub request_of_rows : Option (List ℕ × List Row) → Option Request
request_of_rows = option_and_then (λ p. request_by p.0 p.1)

-- clap's command takes the words: reading them fails for want of memory alone
unfoldable pub is_taken : List (List ℕ) → Bool
is_taken words = takes program_app words

-- the request that the words lead to, if clap's command takes them
unfoldable pub request_of : List (List ℕ) → Option Request
request_of words = if is_taken words then request_of_rows (subcommand_of program_app words) else None

-- a file's name that is plain: it is not empty, and does not begin with a minus
abbrev pub is_plain_name : List ℕ → Bool
is_plain_name [] = false
is_plain_name (first ∷ more) = not (first == 45)

-- the command `run` over two plain names
abbrev pub plain_run : List ℕ → List ℕ → List ℕ → Bool → Option Command
plain_run command file script dump =
    if bytes_eq command (codes "run") && is_plain_name file && is_plain_name script then Some (Run file script dump) else None

-- the command that plain words name: `--dump` stands last
abbrev pub plain_command : List (List ℕ) → Option Command
plain_command (name ∷ command ∷ file ∷ []) =
    if is_plain_name file then
    (if bytes_eq command (codes "check") then Some (Check file) else (if bytes_eq command (codes "show") then Some (Show file) else None))
    else None
plain_command (name ∷ command ∷ file ∷ script ∷ []) = plain_run command file script false
plain_command (name ∷ command ∷ file ∷ script ∷ option ∷ []) =
    if bytes_eq option (codes "--dump") then plain_run command file script true else None
plain_command words = None

-- a number in plain decimal digits, without a sign and without leading zeros, that is at most this one
abbrev pub is_plain_number : ℕ → List ℕ → Bool
is_plain_number most [] = false
is_plain_number most (first ∷ more) =
    is_numeral (first ∷ more) && (not (first == 48) || length more == 0) && nat_le (digits_value 10 (first ∷ more)) most

-- the pipe that plain words name
abbrev pub plain_pipe : List (List ℕ) → Option Request
plain_pipe (name ∷ command ∷ seed ∷ count ∷ []) =
    if bytes_eq command (codes "pipe") && is_plain_number most_seed seed && is_plain_number most_count count
    then Some (Pipe (digits_value 10 seed) (digits_value 10 count)) else None
plain_pipe words = None

-- the request that plain words name: a command, or a pipe
abbrev pub command_or_pipe : Option Command → Option Request → Option Request
command_or_pipe (Some command) pipe = Some (OfFile command)
command_or_pipe None pipe = pipe

abbrev pub plain_request : List (List ℕ) → Option Request
plain_request words = command_or_pipe (plain_command words) (plain_pipe words)
