-- What holds of the words of the command line by their definitions alone (`specs/Words`).
use Rattle.std.specs.Prelude.{◌≡◌, ◌↔◌, ℕ, true, false, List, Some, None}
use Rattle.command_words.specs.Words.{Request, request_of, is_taken, plain_request}

-- Words that clap's command takes are those that lead to a request.
abbrev pub TakenWordsAreRead : Type 0
TakenWordsAreRead = (words : List (List ℕ)) → (request_of words ≡ None) ↔ (is_taken words ≡ false)

-- Plain words are never refused, and lead to the request that they name.
abbrev pub PlainWordsAreTaken : Type 0
PlainWordsAreTaken =
    (words : List (List ℕ)) (request : Request) → plain_request words ≡ Some request
    → (request_of words ≡ Some request) × (is_taken words ≡ true)
