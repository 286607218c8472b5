use Rattle.std.proofs.Common.{rules, ◌≡◌, ◌<◌, ◌∙◌, ℕ, ◌+◌, ◌-◌, Bool, true, false, List, [], ◌∷◌, ◌++◌, length, take, get_or, set, replicate, sym, ap, subst, arith}
use Rattle.std.proofs.lemmas.List.{take_all}
use Rattle.canon_types.specs.EndNumbers.{is_number_among}
use Rattle.canon_types.proofs.Marks.{added_marked, more_unmarked}
use Rattle.canon_types.proofs.end_types.EndNumbers.add.Goals as goal
use Rattle.canon_types.proofs.end_types.EndNumbers.add.Goals.{then-at-len+in_ok-resize, else-at-len}

-- The marks are long enough, and the new ones are false.
pub invariant_of-self-2 : goal.invariant_of-self-2
invariant_of-self-2 c =
    let within : c.args.number < length c.if-at-len.self-inside.marks.items =
    elim c.if-at-len.branch [
      | then-at-len+in_ok-resize w ↦
          let long : length w.resize.new.self.items ≡ c.args.number + 1 = search rules in
          rw w.self-inside-is (omega arith)
      | else-at-len w ↦
          let long : c.args.number < length c.self.inside.marks.items = search rules in
          rw w.self-inside-is long
    ]
    in
    let told : (q : ℕ) → get_or c.if-at-len.self-inside.marks.items q false ≡ is_number_among c.if-at-len.self-inside.numbers.items q =
    elim c.if-at-len.branch [
      | then-at-len+in_ok-resize w ↦
          let k : ℕ = (c.args.number + 1) - c.self.inside.marks.len in
          let whole : take (c.args.number + 1) c.self.inside.marks.items ≡ c.self.inside.marks.items = search (rules, take_all) in
          let more : w.resize.new.self.items ≡ c.self.inside.marks.items ++ replicate k false = w.in_ok-resize.ensures.items ∙ ap (λ (l : List Bool). l ++ replicate k false) whole in
          let new : (q : ℕ) → get_or w.resize.new.self.items q false ≡ is_number_among c.self.inside.numbers.items q =
          λ q. ap (λ (l : List Bool). get_or l q false) more ∙ more_unmarked c.self.inside.marks.items k q ∙ c.self.invariant q
          in
          rw w.self-inside-is new
      | else-at-len w ↦ rw w.self-inside-is c.self.invariant
    ]
    in
    let all : c.push_reserved.new.self.items ≡ c.if-at-len.self-inside.numbers.items ++ c.args.number ∷ [] =
    c.push_reserved.ensures.items ∙ ap (λ (l : List ℕ). l ++ c.args.number ∷ []) c.in_ok-reserve.ensures.items
    in
    subst (λ (l : List ℕ). (q : ℕ) → get_or (set c.if-at-len.self-inside.marks.items c.args.number true) q false ≡ is_number_among l q) (sym all)
    (added_marked c.if-at-len.self-inside.marks.items c.if-at-len.self-inside.numbers.items c.args.number within told)
