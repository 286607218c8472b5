-- The characters of an escape are of ASCII.
use Rattle.std.proofs.Common.{◌<◌, ◌+◌, ◌/◌, ◌%◌, ℕ, Bool, true, false, List, [], ◌∷◌, All, cond, nat_lt, arith}
use Rattle.std.proofs.lemmas.List.Elements.{All-nil, All-cons}
use Rattle.std.specs.Char.Escape.{hex_digit_at, escape_unicode}

abbrev pub IsLetter : ℕ → Type 0
IsLetter letter = letter < 128

abbrev IsOfAscii : List ℕ → Type 0
IsOfAscii letters = All IsLetter letters

chosen_number : (b : Bool) (x y : ℕ) → x < 128 → y < 128 → cond b x y < 128
chosen_number true x y l r = l
chosen_number false x y l r = r

chosen_letters : (b : Bool) (xs ys : List ℕ) → IsOfAscii xs → IsOfAscii ys → IsOfAscii (cond b xs ys)
chosen_letters true xs ys l r = l
chosen_letters false xs ys l r = r

digit : (place c : ℕ) (xs : List ℕ) → IsOfAscii xs → IsOfAscii (hex_digit_at place c ∷ xs)
digit place c xs h =
    let d = c / place % 16 in
    All-cons IsLetter (hex_digit_at place c) xs (chosen_number (nat_lt d 10) (48 + d) (87 + d) (omega arith) (omega arith)) h

-- behind the opening
abbrev opening : List ℕ → List ℕ
opening xs = 92 ∷ 117 ∷ 123 ∷ xs

opened : (xs : List ℕ) → IsOfAscii xs → IsOfAscii (opening xs)
opened xs h = All-cons IsLetter 92 (117 ∷ 123 ∷ xs) (omega arith) (All-cons IsLetter 117 (123 ∷ xs) (omega arith) (All-cons IsLetter 123 xs (omega arith) h))

-- so many digits and the closing brace
abbrev one : ℕ → List ℕ
one c = hex_digit_at 1 c ∷ 125 ∷ []

abbrev two : ℕ → List ℕ
two c = hex_digit_at 0x10 c ∷ one c

abbrev three : ℕ → List ℕ
three c = hex_digit_at 0x100 c ∷ two c

abbrev four : ℕ → List ℕ
four c = hex_digit_at 0x1000 c ∷ three c

abbrev five : ℕ → List ℕ
five c = hex_digit_at 0x1_0000 c ∷ four c

abbrev six : ℕ → List ℕ
six c = hex_digit_at 0x10_0000 c ∷ five c

of_one : (c : ℕ) → IsOfAscii (one c)
of_one c = digit 1 c (125 ∷ []) (All-cons IsLetter 125 [] (omega arith) (All-nil IsLetter))

of_two : (c : ℕ) → IsOfAscii (two c)
of_two c = digit 0x10 c (one c) (of_one c)

of_three : (c : ℕ) → IsOfAscii (three c)
of_three c = digit 0x100 c (two c) (of_two c)

of_four : (c : ℕ) → IsOfAscii (four c)
of_four c = digit 0x1000 c (three c) (of_three c)

of_five : (c : ℕ) → IsOfAscii (five c)
of_five c = digit 0x1_0000 c (four c) (of_four c)

of_six : (c : ℕ) → IsOfAscii (six c)
of_six c = digit 0x10_0000 c (five c) (of_five c)

-- more digits than so many
abbrev past_four : ℕ → List ℕ
past_four c = cond (nat_lt c 0x10_0000) (opening (five c)) (opening (six c))

abbrev past_three : ℕ → List ℕ
past_three c = cond (nat_lt c 0x1_0000) (opening (four c)) (past_four c)

abbrev past_two : ℕ → List ℕ
past_two c = cond (nat_lt c 0x1000) (opening (three c)) (past_three c)

abbrev past_one : ℕ → List ℕ
past_one c = cond (nat_lt c 0x100) (opening (two c)) (past_two c)

pub escape_is_ascii : (c : ℕ) → All IsLetter (escape_unicode c)
escape_is_ascii c =
    chosen_letters (nat_lt c 0x10) (opening (one c)) (past_one c) (opened (one c) (of_one c))
    (chosen_letters (nat_lt c 0x100) (opening (two c)) (past_two c) (opened (two c) (of_two c))
    (chosen_letters (nat_lt c 0x1000) (opening (three c)) (past_three c) (opened (three c) (of_three c))
    (chosen_letters (nat_lt c 0x1_0000) (opening (four c)) (past_four c) (opened (four c) (of_four c))
    (chosen_letters (nat_lt c 0x10_0000) (opening (five c)) (opening (six c)) (opened (five c) (of_five c)) (opened (six c) (of_six c))))))
