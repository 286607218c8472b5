-- Plain words are read as the commands that they name.
use Rattle.std.proofs.Common.{◌≡◌, ◌∙◌, ℕ, ◌==◌, ◌<◌, ◌^◌, Bool, true, false, not, ◌&&◌, ◌||◌, cond, if◌then◌else◌, List, [], ◌∷◌, length, drop, Option, Some, None, option_map, refl, sym, ap, ap₂, subst, codes, arith, lt_of_le_of_lt}
use Rattle.std.specs.Prelude.{nat_le, nat_lt}
use Rattle.std.specs.Char.{digit_value}
use Rattle.std.specs.Str.Parse.{digits_value, without_leading_plus}
use Rattle.std.proofs.lemmas.Bool.{eqb-true, leb-true, le-leb, lt-ltb}
use Rattle.std.specs.Str.{bytes_eq}
use Rattle.std.proofs.lemmas.Slice.Eq.{bytes_eq-Decides}
use Rattle.clap.proofs.OnLiterals.{clap_on_literals}
use Rattle.clap.specs.Words.{subcommand_of}
use Rattle.clap.specs.ValueTests.{is_numeral, is_unsigned_in}
use Rattle.command_words.specs.Words.{Command, Request, Run, Check, Show, OfFile, Pipe, number_up_to, is_plain_number, most_seed, most_count, plain_pipe, plain_request, request_of, request_of_rows, is_taken, is_plain_name, command_or_pipe, plain_command, plain_run, program_app}
use Rattle.command_words.specs.Laws.{PlainWordsAreTaken}
use Rattle.command_words.proofs.Exact.{left, right}
use Rattle.command_words.proofs.Readings.{request_is}

as_request : {c r : Command} → Some c ≡ Some r → Some (OfFile c) ≡ Some (OfFile r)
as_request h = ap (option_map OfFile) h

check_read : (p : List ℕ) (x : ℕ) (xs : List ℕ) → (x == 45) ≡ false → request_of (p ∷ codes "check" ∷ (x ∷ xs) ∷ []) ≡ Some (OfFile (Check (x ∷ xs)))
unfolding clap_on_literals request_of is_taken
check_read p x xs e = simp e refl

check_taken : (p : List ℕ) (x : ℕ) (xs : List ℕ) → (x == 45) ≡ false → is_taken (p ∷ codes "check" ∷ (x ∷ xs) ∷ []) ≡ true
unfolding clap_on_literals is_taken
check_taken p x xs e = simp e refl

show_read : (p : List ℕ) (x : ℕ) (xs : List ℕ) → (x == 45) ≡ false → request_of (p ∷ codes "show" ∷ (x ∷ xs) ∷ []) ≡ Some (OfFile (Show (x ∷ xs)))
unfolding clap_on_literals request_of is_taken
show_read p x xs e = simp e refl

show_taken : (p : List ℕ) (x : ℕ) (xs : List ℕ) → (x == 45) ≡ false → is_taken (p ∷ codes "show" ∷ (x ∷ xs) ∷ []) ≡ true
unfolding clap_on_literals is_taken
show_taken p x xs e = simp e refl

run_read : (p : List ℕ) (x y : ℕ) (xs ys : List ℕ) → (x == 45) ≡ false → (y == 45) ≡ false → request_of (p ∷ codes "run" ∷ (x ∷ xs) ∷ (y ∷ ys) ∷ []) ≡ Some (OfFile (Run (x ∷ xs) (y ∷ ys) false))
unfolding clap_on_literals request_of is_taken
run_read p x y xs ys e f = simp (e, f) refl

run_taken : (p : List ℕ) (x y : ℕ) (xs ys : List ℕ) → (x == 45) ≡ false → (y == 45) ≡ false → is_taken (p ∷ codes "run" ∷ (x ∷ xs) ∷ (y ∷ ys) ∷ []) ≡ true
unfolding clap_on_literals is_taken
run_taken p x y xs ys e f = simp (e, f) refl

dump_taken : (p : List ℕ) (x y : ℕ) (xs ys : List ℕ) → (x == 45) ≡ false → (y == 45) ≡ false → is_taken (p ∷ codes "run" ∷ (x ∷ xs) ∷ (y ∷ ys) ∷ codes "--dump" ∷ []) ≡ true
unfolding clap_on_literals is_taken
dump_taken p x y xs ys e f = simp (e, f) refl

-- the entries of such words
dump_entered : (p : List ℕ) (x y : ℕ) (xs ys : List ℕ) → (x == 45) ≡ false → (y == 45) ≡ false
    → request_of_rows (subcommand_of program_app (p ∷ codes "run" ∷ (x ∷ xs) ∷ (y ∷ ys) ∷ codes "--dump" ∷ [])) ≡ Some (OfFile (Run (x ∷ xs) (y ∷ ys) true))
unfolding clap_on_literals
dump_entered p x y xs ys e f = simp (e, f) refl

dump_read : (p : List ℕ) (x y : ℕ) (xs ys : List ℕ) → (x == 45) ≡ false → (y == 45) ≡ false → request_of (p ∷ codes "run" ∷ (x ∷ xs) ∷ (y ∷ ys) ∷ codes "--dump" ∷ []) ≡ Some (OfFile (Run (x ∷ xs) (y ∷ ys) true))
dump_read p x y xs ys e f = request_is _ (dump_taken p x y xs ys e f) ∙ dump_entered p x y xs ys e f

-- words with one file
by_one : (p c : List ℕ) (x : ℕ) (xs : List ℕ) (minus check show : Bool) (r : Command) → (x == 45) ≡ minus → bytes_eq c (codes "check") ≡ check → bytes_eq c (codes "show") ≡ show
    → (if not minus then (if check then Some (Check (x ∷ xs)) else (if show then Some (Show (x ∷ xs)) else None)) else None) ≡ Some r
    → (request_of (p ∷ c ∷ (x ∷ xs) ∷ []) ≡ Some (OfFile r)) × (is_taken (p ∷ c ∷ (x ∷ xs) ∷ []) ≡ true)
by_one p c x xs true check show r e f g h = cc
by_one p c x xs false true show r e f g h =
    let name : c ≡ codes "check" = (bytes_eq-Decides c (codes "check")).0 f in
    rw name (check_read p x xs e ∙ as_request h, check_taken p x xs e)
by_one p c x xs false false true r e f g h =
    let name : c ≡ codes "show" = (bytes_eq-Decides c (codes "show")).0 g in
    rw name (show_read p x xs e ∙ as_request h, show_taken p x xs e)
by_one p c x xs false false false r e f g h = cc

-- what words with two files come to, where this is what they are read as behind `run`
by_two : (rest : List (List ℕ)) (p c : List ℕ) (x y : ℕ) (xs ys : List ℕ) (run minus second dump : Bool) (r : Command)
    → ((x == 45) ≡ false → (y == 45) ≡ false → request_of (p ∷ codes "run" ∷ (x ∷ xs) ∷ (y ∷ ys) ∷ rest) ≡ Some (OfFile (Run (x ∷ xs) (y ∷ ys) dump)))
    → ((x == 45) ≡ false → (y == 45) ≡ false → is_taken (p ∷ codes "run" ∷ (x ∷ xs) ∷ (y ∷ ys) ∷ rest) ≡ true)
    → bytes_eq c (codes "run") ≡ run → (x == 45) ≡ minus → (y == 45) ≡ second
    → (if run && not minus && not second then Some (Run (x ∷ xs) (y ∷ ys) dump) else None) ≡ Some r
    → (request_of (p ∷ c ∷ (x ∷ xs) ∷ (y ∷ ys) ∷ rest) ≡ Some (OfFile r)) × (is_taken (p ∷ c ∷ (x ∷ xs) ∷ (y ∷ ys) ∷ rest) ≡ true)
by_two rest p c x y xs ys true false false dump r read taken f e g h =
    let name : c ≡ codes "run" = (bytes_eq-Decides c (codes "run")).0 f in
    rw name (read e g ∙ as_request h, taken e g)
by_two rest p c x y xs ys false minus second dump r read taken f e g h = cc
by_two rest p c x y xs ys true true second dump r read taken f e g h = cc
by_two rest p c x y xs ys true false true dump r read taken f e g h = cc

-- the same without an option behind them, and with the one word that may be one
without_option : (p c : List ℕ) (x y : ℕ) (xs ys : List ℕ) (r : Command) → plain_run c (x ∷ xs) (y ∷ ys) false ≡ Some r
    → (request_of (p ∷ c ∷ (x ∷ xs) ∷ (y ∷ ys) ∷ []) ≡ Some (OfFile r)) × (is_taken (p ∷ c ∷ (x ∷ xs) ∷ (y ∷ ys) ∷ []) ≡ true)
without_option p c x y xs ys r h =
    by_two [] p c x y xs ys (bytes_eq c (codes "run")) (x == 45) (y == 45) false r (run_read p x y xs ys) (run_taken p x y xs ys) refl refl refl h

with_option : (p c o : List ℕ) (x y : ℕ) (xs ys : List ℕ) (dump : Bool) (r : Command) → bytes_eq o (codes "--dump") ≡ dump
    → (if dump then plain_run c (x ∷ xs) (y ∷ ys) true else None) ≡ Some r
    → (request_of (p ∷ c ∷ (x ∷ xs) ∷ (y ∷ ys) ∷ o ∷ []) ≡ Some (OfFile r)) × (is_taken (p ∷ c ∷ (x ∷ xs) ∷ (y ∷ ys) ∷ o ∷ []) ≡ true)
with_option p c o x y xs ys true r e h =
    let option : o ≡ codes "--dump" = (bytes_eq-Decides o (codes "--dump")).0 e in
    rw option (by_two (codes "--dump" ∷ []) p c x y xs ys (bytes_eq c (codes "run")) (x == 45) (y == 45) true r (dump_read p x y xs ys) (dump_taken p x y xs ys) refl refl refl h)
with_option p c o x y xs ys false r e h = cc

-- an empty name
no_first : (run second : Bool) (r : Command) (d : Command) → (if run && false && second then Some d else None) ≡ Some r → ⊥
no_first true second r d h = cc
no_first false second r d h = cc

no_second : (run first : Bool) (r : Command) (d : Command) → (if run && first && false then Some d else None) ≡ Some r → ⊥
no_second true true r d h = cc
no_second true false r d h = cc
no_second false first r d h = cc

no_option : (dump : Bool) (r : Command) (o : Option Command) → ((r : Command) → o ≡ Some r → ⊥) → (if dump then o else None) ≡ Some r → ⊥
no_option true r o none h = none r h
no_option false r o none h = cc

plain_commands : (words : List (List ℕ)) (r : Command) → plain_command words ≡ Some r → (request_of words ≡ Some (OfFile r)) × (is_taken words ≡ true)
plain_commands [] r h = cc
plain_commands (p ∷ []) r h = cc
plain_commands (p ∷ c ∷ []) r h = cc
plain_commands (p ∷ c ∷ [] ∷ []) r h = cc
plain_commands (p ∷ c ∷ (x ∷ xs) ∷ []) r h = by_one p c x xs (x == 45) (bytes_eq c (codes "check")) (bytes_eq c (codes "show")) r refl refl refl h
plain_commands (p ∷ c ∷ [] ∷ s ∷ []) r h = absurd (no_first (bytes_eq c (codes "run")) (is_plain_name s) r _ h)
plain_commands (p ∷ c ∷ (x ∷ xs) ∷ [] ∷ []) r h = absurd (no_second (bytes_eq c (codes "run")) (not (x == 45)) r _ h)
plain_commands (p ∷ c ∷ (x ∷ xs) ∷ (y ∷ ys) ∷ []) r h = without_option p c x y xs ys r h
plain_commands (p ∷ c ∷ [] ∷ s ∷ o ∷ []) r h = absurd (no_option (bytes_eq o (codes "--dump")) r _ (λ r h. no_first (bytes_eq c (codes "run")) (is_plain_name s) r _ h) h)
plain_commands (p ∷ c ∷ (x ∷ xs) ∷ [] ∷ o ∷ []) r h = absurd (no_option (bytes_eq o (codes "--dump")) r _ (λ r h. no_second (bytes_eq c (codes "run")) (not (x == 45)) r _ h) h)
plain_commands (p ∷ c ∷ (x ∷ xs) ∷ (y ∷ ys) ∷ o ∷ []) r h = with_option p c o x y xs ys (bytes_eq o (codes "--dump")) r refl h
plain_commands (p ∷ c ∷ f ∷ s ∷ t ∷ u ∷ more) r h = cc

-- a number that is plain is one that clap's parser takes, and is what its digits say; it does not begin with a minus
record Reads (most x : ℕ) (xs : List ℕ) : Type 0 where
  taken : is_unsigned_in 0 most (x ∷ xs) ≡ true
  value : number_up_to most (x ∷ xs) ≡ digits_value 10 (x ∷ xs)
  minus : (x == 45) ≡ false

-- what is a digit is neither a plus nor a minus
is_no_sign : (x sign : ℕ) (b : Bool) → nat_lt (digit_value sign) 10 ≡ false → (x == sign) ≡ b → nat_lt (digit_value x) 10 ≡ true → (x == sign) ≡ false
is_no_sign x sign false h e digit = e
is_no_sign x sign true h e digit =
    let same : x ≡ sign = eqb-true x sign e in
    absurd (true_is_not_false (sym digit ∙ ap (λ (n : ℕ). nat_lt (digit_value n) 10) same ∙ h))
  where
    true_is_not_false : true ≡ false → ⊥
    true_is_not_false p = cc

-- a conjunction of what holds
all_hold : (a b c d : Bool) → a ≡ true → b ≡ true → c ≡ true → d ≡ true → (a && (b && (c && d))) ≡ true
all_hold a b c d e f g h = rw (e, f, g, h) refl

reads : (most x : ℕ) (xs : List ℕ) → most < 2 ^ 64 → is_plain_number most (x ∷ xs) ≡ true → Reads most x xs
reads most x xs bound e =
    let value : ℕ = digits_value 10 (x ∷ xs) in
    let front = left (is_numeral (x ∷ xs) && (not (x == 48) || length xs == 0)) (nat_le value most) e in
    let within = right (is_numeral (x ∷ xs) && (not (x == 48) || length xs == 0)) (nat_le value most) e in
    let numeral = left (is_numeral (x ∷ xs)) _ front in
    let digit = left (nat_lt (digit_value x) 10) _ (right (nat_lt 0 (length (x ∷ xs))) _ numeral) in
    let plus : (x == 43) ≡ false = is_no_sign x 43 (x == 43) refl refl digit in
    let same : without_leading_plus (x ∷ xs) ≡ x ∷ xs = ap (λ (b : Bool). drop (cond b 1 0) (x ∷ xs)) plus in
    let small : value < 2 ^ 64 = lt_of_le_of_lt (leb-true value most within) bound in
    let taken : is_unsigned_in 0 most (x ∷ xs) ≡ true
    = subst (λ (t : List ℕ). (is_numeral t && (nat_lt (digits_value 10 t) (2 ^ 64) && (nat_le 0 (digits_value 10 t) && nat_le (digits_value 10 t) most))) ≡ true) (sym same)
    (all_hold (is_numeral (x ∷ xs)) (nat_lt value (2 ^ 64)) (nat_le 0 value) (nat_le value most) numeral (lt-ltb value (2 ^ 64) small) (le-leb 0 value (omega arith)) within) in
    record {
      taken = taken;
      value = ap (λ (b : Bool). if b then digits_value 10 (without_leading_plus (x ∷ xs)) else 0) taken ∙ ap (digits_value 10) same;
      minus = is_no_sign x 45 (x == 45) refl refl digit;
    }

-- words that name a pipe
pipe_taken : (p : List ℕ) (x y : ℕ) (xs ys : List ℕ) → (x == 45) ≡ false → (y == 45) ≡ false → is_unsigned_in 0 most_seed (x ∷ xs) ≡ true → is_unsigned_in 0 most_count (y ∷ ys) ≡ true
    → is_taken (p ∷ codes "pipe" ∷ (x ∷ xs) ∷ (y ∷ ys) ∷ []) ≡ true
unfolding clap_on_literals is_taken
pipe_taken p x y xs ys e f a b = simp (e, f, a, b) refl

pipe_entered : (p : List ℕ) (x y : ℕ) (xs ys : List ℕ) → (x == 45) ≡ false → (y == 45) ≡ false
    → request_of_rows (subcommand_of program_app (p ∷ codes "pipe" ∷ (x ∷ xs) ∷ (y ∷ ys) ∷ [])) ≡ Some (Pipe (number_up_to most_seed (x ∷ xs)) (number_up_to most_count (y ∷ ys)))
unfolding clap_on_literals
pipe_entered p x y xs ys e f = simp (e, f) refl

pipe_plain : (p c seed count : List ℕ) → bytes_eq c (codes "pipe") ≡ true → is_plain_number most_seed seed ≡ true → is_plain_number most_count count ≡ true
    → (request_of (p ∷ c ∷ seed ∷ count ∷ []) ≡ Some (Pipe (digits_value 10 seed) (digits_value 10 count))) × (is_taken (p ∷ c ∷ seed ∷ count ∷ []) ≡ true)
pipe_plain p c [] count e f g = cc
pipe_plain p c (x ∷ xs) [] e f g = cc
pipe_plain p c (x ∷ xs) (y ∷ ys) e f g =
    let name : c ≡ codes "pipe" = (bytes_eq-Decides c (codes "pipe")).0 e in
    let a = reads most_seed x xs (omega arith) f in
    let b = reads most_count y ys (omega arith) g in
    let taken = pipe_taken p x y xs ys a.minus b.minus a.taken b.taken in
    rw name (request_is _ taken ∙ pipe_entered p x y xs ys a.minus b.minus ∙ ap₂ (λ (m n : ℕ). Some (Pipe m n)) a.value b.value, taken)

by_pipe : (p c seed count : List ℕ) (named first second : Bool) (r : Request) → bytes_eq c (codes "pipe") ≡ named → is_plain_number most_seed seed ≡ first → is_plain_number most_count count ≡ second
    → (if named && first && second then Some (Pipe (digits_value 10 seed) (digits_value 10 count)) else None) ≡ Some r
    → (request_of (p ∷ c ∷ seed ∷ count ∷ []) ≡ Some r) × (is_taken (p ∷ c ∷ seed ∷ count ∷ []) ≡ true)
by_pipe p c seed count true true true r e f g h = let plain = pipe_plain p c seed count e f g in (plain.0 ∙ h, plain.1)
by_pipe p c seed count false first second r e f g h = cc
by_pipe p c seed count true false second r e f g h = cc
by_pipe p c seed count true true false r e f g h = cc

plain_pipes : (words : List (List ℕ)) (r : Request) → plain_pipe words ≡ Some r → (request_of words ≡ Some r) × (is_taken words ≡ true)
plain_pipes [] r h = cc
plain_pipes (p ∷ []) r h = cc
plain_pipes (p ∷ c ∷ []) r h = cc
plain_pipes (p ∷ c ∷ s ∷ []) r h = cc
plain_pipes (p ∷ c ∷ s ∷ n ∷ []) r h = by_pipe p c s n (bytes_eq c (codes "pipe")) (is_plain_number most_seed s) (is_plain_number most_count n) r refl refl refl h
plain_pipes (p ∷ c ∷ s ∷ n ∷ t ∷ more) r h = cc

by_either : (words : List (List ℕ)) (c : Option Command) (r : Request) → plain_command words ≡ c → command_or_pipe c (plain_pipe words) ≡ Some r
    → (request_of words ≡ Some r) × (is_taken words ≡ true)
by_either words (Some c) r e h = let plain = plain_commands words c e in (plain.0 ∙ h, plain.1)
by_either words None r e h = plain_pipes words r h

pub plain_words : PlainWordsAreTaken
plain_words words r h = by_either words (plain_command words) r refl h

pub plain_is : (words : List (List ℕ)) (request : Request) → plain_request words ≡ Some request → request_of words ≡ Some request
plain_is words request h = (plain_words words request h).0
