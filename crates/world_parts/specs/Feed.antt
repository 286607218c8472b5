-- What a script gives, lines and the chain (Component Model, Concurrency.md, "Summary"): fuel, choices, items, lines, and which tasks run.
use Rattle.std.specs.Prelude.{ℕ, ◌+◌, ◌-◌, nat_lt, nat_eq, if◌then◌else◌, List, [], ◌∷◌, ◌++◌, length, take}
use Rattle.std.specs.List.{slice_get}
use Rattle.choices.specs.Choosing.{picked, left}
use Rattle.trace_labels.specs.declared.label.Label.{Label}
use Rattle.trace_labels.specs.declared.label.Label.TheVariants as line
use Rattle.world_parts.specs.declared.parts.Rest.{Rest}
use Rattle.world_parts.specs.declared.parts.Rest.TheVariants as rest
use Rattle.world_parts.specs.declared.parts.Flow.{Flow}
use Rattle.world_parts.specs.declared.parts.Flow.TheVariants as flow
use Rattle.world_parts.specs.Held.{Held, Done, Gives, Spent, Stuck, after, given}

-- a line
abbrev pub told : Label → Held → Done (Unit {0})
told label h = Gives tt (record h { labels = h.labels ++ label ∷ [] })

-- where the run is then
abbrev pub at_rest : Rest → Held → Held
at_rest rest h = record h { rest = rest }

-- A unit is spent, where one is left. A move is counted, and an item taken.
abbrev pub spent : Held → Done (Unit {0})
spent h = if nat_lt 0 h.left then Gives tt (record h { left = h.left - 1 }) else Spent (record h { left = h.left - 1 })

abbrev pub moved : Held → Done (Unit {0})
moved h = Gives tt (record h { moves = h.moves + 1 })

abbrev pub item_taken : Held → Done (Unit {0})
item_taken h = Gives tt (record h { taken = h.taken + 1 })

-- One of so many alternatives. Among two or more a pick takes one, with a line.
abbrev pub chosen : ℕ → Held → Done ℕ
chosen count h =
    after (told (line.Choose count (picked count h.picks)) (record h { picks = left count h.picks })) (λ done k. Gives (picked count h.picks) k)

abbrev pub choice : ℕ → Held → Done ℕ
choice count h = if nat_lt 1 count then chosen count h else Gives 0 h

-- The acting task; one acts from now on; and it leaves the chain, after which the task before it acts, where there is one.
abbrev pub acting : Held → Done ℕ
acting h = given (slice_get h.chain (length h.chain - 1)) (λ t. Gives t h)

abbrev pub chained : ℕ → Held → Done (Unit {0})
chained t h = Gives tt (record h { chain = h.chain ++ t ∷ [] })

abbrev pub rest_behind : List ℕ → Rest
rest_behind [] = rest.Free
rest_behind (t ∷ chain) = rest.Back

abbrev pub unchained : Held → Held
unchained h = record h { chain = take (length h.chain - 1) h.chain }

abbrev pub left_chain : Held → Done Flow
left_chain h =
    if nat_lt 0 (length h.chain) then Gives flow.Rests (at_rest (rest_behind (take (length h.chain - 1) h.chain)) (unchained h)) else Stuck

-- The canonical function at which a task waits answers these words: the task goes on.
abbrev pub got : ℕ → List ℕ → Held → Done Flow
got t words h = after (told (line.Got t words) h) (λ done k. Gives (flow.Now words) (at_rest rest.Runs k))
