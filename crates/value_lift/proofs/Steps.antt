-- One element of a list, and one part of a record, behind others, over any ledger.
use Rattle.std.proofs.Common.{◌≡◌, ◌∙◌, ◌+◌, ◌-◌, ◌*◌, ◌^◌, ◌<◌, ◌≤◌, min, suc-mul, subst, ℕ, zero, suc, List, [], ◌∷◌, ◌++◌, length, drop, Option, Some, None, Ok, Err, Result, refl, ap, sym, arith}
use Rattle.std.proofs.lemmas.List.{drop_all}
use Rattle.std.specs.Prelude.{nat_lt}
use Rattle.std.proofs.lemmas.Bool.{cond-true, lt-ltb}
use Rattle.std.specs.List.{slice_get}
use Rattle.std.specs.Option.{option_and_then, option_map}
use Rattle.std.specs.Int.{w32}
use Rattle.syntax_trees.specs.declared.types.ValType.{ValType}
use Rattle.syntax_trees.specs.declared.value.Value.{Value}
use Rattle.syntax_trees.specs.declared.value.Value.TheViews as values
use Rattle.laid_types.specs.Layout.{laid, aligned, tag_size}
use Rattle.syntax_trees.specs.Flat.{flat}
use Rattle.faults.specs.declared.memory.MemoryOr.{MemoryOr}
use Rattle.faults.specs.declared.memory.MemoryOr.TheVariants.{Memory, Fault}
use Rattle.value_lift.specs.declared.trap.LiftTrap.{LiftTrap}
use Rattle.value_lift.specs.declared.trap.LiftWhy.TheVariants.{BadCase}
use Rattle.value_lift.specs.Bytes.{number, width_of}
use Rattle.value_lift.specs.Leaves.{trap, part_in}
use Rattle.value_lift.specs.Ledger.{Ledger, Came, MayTake, made, after, counting}
use Rattle.value_lift.specs.Over.{Part, elements_from, list_of, chosen, part, parts, lift, lift_words, lift_case, lift_word_case, layer_of, fields_from, word_fields_from, payload_of, word_payload_of, case_told, case_of, word_case_of, behind_tag, low}
use Rattle.value_lift.specs.Room.{end_behind, words_behind}
use Rattle.value_lift.proofs.OverTypes.{lift_is_over, lift_words_is_over}
use Rattle.value_lift.proofs.Lists.{part_there, part_absent, part_image_over}
use Rattle.value_lift.proofs.Rooms.{end_up}
use Rattle.value_lift.proofs.WordRooms.{words_up}

module _ {S G : Type 0} (led : Ledger S G) where
  -- A value that is reached.
  reach_go : (t : ValType) (memory : List ℕ) (place : ℕ) (kept rest : S) → led.spend 1 place kept ≡ Ok rest → lift led t memory place kept ≡ lift_case led (layer_of led t) memory place rest
  reach_go t memory place kept rest h =
      lift_is_over led t memory place kept ∙ ap (λ (r : Result S G). counting r (λ kept. lift_case led (layer_of led t) memory place kept)) h

  reach_stop : (t : ValType) (memory : List ℕ) (place : ℕ) (kept : S) (fault : G) → led.spend 1 place kept ≡ Err fault → lift led t memory place kept ≡ Err fault
  reach_stop t memory place kept fault h =
      lift_is_over led t memory place kept ∙ ap (λ (r : Result S G). counting r (λ kept. lift_case led (layer_of led t) memory place kept)) h

  word_reach_go : (t : ValType) (memory words : List ℕ) (at : ℕ) (kept rest : S) → led.spend 1 at kept ≡ Ok rest
      → lift_words led t memory words at kept ≡ lift_word_case led (layer_of led t) memory words at rest
  word_reach_go t memory words at kept rest h =
      lift_words_is_over led t memory words at kept ∙ ap (λ (r : Result S G). counting r (λ kept. lift_word_case led (layer_of led t) memory words at kept)) h

  word_reach_stop : (t : ValType) (memory words : List ℕ) (at : ℕ) (kept : S) (fault : G) → led.spend 1 at kept ≡ Err fault → lift_words led t memory words at kept ≡ Err fault
  word_reach_stop t memory words at kept fault h =
      lift_words_is_over led t memory words at kept ∙ ap (λ (r : Result S G). counting r (λ kept. lift_word_case led (layer_of led t) memory words at kept)) h

  -- What a call answers holds of the same by another name.
  pub same_taken : {A : Type 0} (one other : Came S G A) (kept : S) (r : Result A (MemoryOr LiftTrap)) → other ≡ one → MayTake led one kept r → MayTake led other kept r
  same_taken {A} one other kept r e h = subst (λ (came : Came S G A). MayTake led came kept r) (sym e) h

  -- A value that is counted and then lifted.
  pub value_goes : (t : ValType) (memory : List ℕ) (place : ℕ) (kept rest now : S) (r : Result Value (MemoryOr LiftTrap)) → led.spend 1 place kept ≡ Ok rest
      → MayTake led (lift_case led (layer_of led t) memory place rest) now r → MayTake led (lift led t memory place kept) now r
  value_goes t memory place kept rest now r h took = same_taken _ _ now r (reach_go t memory place kept rest h) took

  pub value_stops : (t : ValType) (memory : List ℕ) (place : ℕ) (kept now : S) (fault : LiftTrap) → led.spend 1 place kept ≡ Err (led.stop fault now)
      → lift led t memory place kept ≡ Err (led.stop fault now)
  value_stops t memory place kept now fault h = reach_stop t memory place kept (led.stop fault now) h

  pub words_go : (t : ValType) (memory words : List ℕ) (at : ℕ) (kept rest now : S) (r : Result Value (MemoryOr LiftTrap)) → led.spend 1 at kept ≡ Ok rest
      → MayTake led (lift_word_case led (layer_of led t) memory words at rest) now r → MayTake led (lift_words led t memory words at kept) now r
  words_go t memory words at kept rest now r h took = same_taken _ _ now r (word_reach_go t memory words at kept rest h) took

  pub words_stop : (t : ValType) (memory words : List ℕ) (at : ℕ) (kept now : S) (fault : LiftTrap) → led.spend 1 at kept ≡ Err (led.stop fault now)
      → lift_words led t memory words at kept ≡ Err (led.stop fault now)
  words_stop t memory words at kept now fault h = word_reach_stop t memory words at kept (led.stop fault now) h

  -- A call that stops, whatever is made of what it lifts.
  pub made_stops : {A B : Type 0} (f : A → B) (l : Came S G A) (kept : S) (e : MemoryOr LiftTrap) → MayTake led l kept (Err e) → MayTake led (made f l) kept (Err e)
  made_stops f l kept Memory h = tt
  made_stops f l kept (Fault fault) h = ap (λ r. made f r) h

  -- A list of a type without a part, and a case without a payload.
  pub list_none : (types : List (Option ValType)) (at count : ℕ) (memory : List ℕ) (place : ℕ) (kept : S) → option_and_then (λ part. part) (slice_get types 0) ≡ None
      → list_of led (parts led types) at count memory place kept ≡ Err (led.stop (trap BadCase place) kept)
  list_none [] at count memory place kept h = refl
  list_none (None ∷ types) at count memory place kept h = refl
  list_none (Some t ∷ types) at count memory place kept h = cc

  pub case_none : (count n : ℕ) (types : List (Option ValType)) (memory : List ℕ) (place : ℕ) (kept : S) → number (width_of (tag_size count)) place memory ≡ n → n < count
      → option_and_then (λ part. part) (slice_get types n) ≡ None → case_of led count (parts led types) memory place kept ≡ Ok (values.Variant n None, kept)
  case_none count n types memory place kept e low h =
      ap (λ (k : ℕ). case_told led k count (parts led types) memory place kept) e
      ∙ ap (λ (o : Option (Part S G)). chosen led n count place kept (payload_of led o memory (place + behind_tag count (parts led types)) kept))
      (part_image_over led types n ∙ ap (λ (o : Option ValType). option_map (part led) o) h)
      ∙ cond-true (nat_lt n count) _ _ (lt-ltb n count low)

  pub word_case_none : (count n : ℕ) (types : List (Option ValType)) (memory words : List ℕ) (at : ℕ) (kept : S) → low w32 at words ≡ n → n < count
      → option_and_then (λ part. part) (slice_get types n) ≡ None → word_case_of led count (parts led types) memory words at kept ≡ Ok (values.Variant n None, kept)
  word_case_none count n types memory words at kept e below h =
      ap (λ (k : ℕ). chosen led k count at kept (word_payload_of led (part_in (parts led types) k) memory words (at + 1) kept)) e
      ∙ ap (λ (o : Option (Part S G)). chosen led n count at kept (word_payload_of led o memory words (at + 1) kept))
      (part_image_over led types n ∙ ap (λ (o : Option ValType). option_map (part led) o) h)
      ∙ cond-true (nat_lt n count) _ _ (lt-ltb n count below)

  -- Elements.
  pub elements_end : (p : Part S G) (memory : List ℕ) (before : List Value) (n at : ℕ) (kept : S) → n ≡ 0 → elements_from led p memory before n at kept ≡ Ok (before, kept)
  elements_end p memory before zero at kept e = refl
  elements_end p memory before (suc n) at kept e = cc

  elements_go : (p : Part S G) (memory : List ℕ) (before : List Value) (v : Value) (n k at : ℕ) (kept rest : S) → n ≡ suc k → p.lift memory at kept ≡ Ok (v, rest)
      → elements_from led p memory before n at kept ≡ elements_from led p memory (before ++ v ∷ []) k (at + p.laid.size) rest
  elements_go p memory before v zero k at kept rest e h = cc
  elements_go p memory before v (suc n) k at kept rest e h =
      let same : n ≡ k = cc in
      rw (h, same) refl

  pub elements_stop : (p : Part S G) (memory : List ℕ) (before : List Value) (fault : G) (n at : ℕ) (kept : S) → 0 < n → p.lift memory at kept ≡ Err fault
      → elements_from led p memory before n at kept ≡ Err fault
  elements_stop p memory before fault zero at kept e h = absurd (omega arith)
  elements_stop p memory before fault (suc n) at kept e h = rw h refl

  -- where an element stops
  pub elements_stops : (whole : Came S G (List Value)) (p : Part S G) (memory : List ℕ) (before : List Value) (n at : ℕ) (kept now : S) (e : MemoryOr LiftTrap) → whole ≡ elements_from led p memory before n at kept → 0 < n
      → MayTake led (p.lift memory at kept) now (Err e) → MayTake led whole now (Err e)
  elements_stops whole p memory before n at kept now Memory w some stops = tt
  elements_stops whole p memory before n at kept now (Fault fault) w some stops = w ∙ elements_stop p memory before (led.stop fault now) n at kept some stops

  -- one more of so many elements, whose size is limited
  pub elements_next : (t : ValType) (memory : List ℕ) (before now : List Value) (v : Value) (count index at size : ℕ) (kept rest : S) → index < count → size ≡ min (laid t).size (2 ^ 64)
      → length memory < 2 ^ 64 → at + (count - index) * (laid t).size ≤ length memory → lift led t memory at kept ≡ Ok (v, rest) → now ≡ before ++ v ∷ []
      → (elements_from led (part led t) memory before (count - index) at kept ≡ elements_from led (part led t) memory now (count - (index + 1)) (at + size) rest)
      × (at + size + (count - (index + 1)) * (laid t).size ≤ length memory)
  elements_next t memory before now v count index at size kept rest low limited short room lifted pushed =
      let k : ℕ = count - (index + 1) in
      let one : count - index ≡ suc k = omega arith in
      let all : at + (k * (laid t).size + (laid t).size) ≤ length memory =
      subst (λ (n : ℕ). at + n ≤ length memory) (ap (λ (n : ℕ). n * (laid t).size) one ∙ suc-mul k (laid t).size) room in
      let same : size ≡ (laid t).size = omega (arith, limited, short, all) in (
        elements_go (part led t) memory before v (count - index) k at kept rest one lifted
            ∙ ap (λ (values : List Value). elements_from led (part led t) memory values k (at + (laid t).size) rest) (sym pushed)
            ∙ ap (λ (n : ℕ). elements_from led (part led t) memory now k (at + n) rest) (sym same),
        omega (arith, same, all),
      )

-- the room of a part of a record, and of those behind it
pub field_room : (end : ℕ) (types : List (Option ValType)) (n : ℕ) (t : ValType) → option_and_then (λ part. part) (slice_get types n) ≡ Some t
    → (end_behind end (drop n types) ≡ end_behind (aligned end (laid t).align + (laid t).size) (drop (n + 1) types))
    × (aligned end (laid t).align + (laid t).size ≤ end_behind end (drop n types))
field_room end types n t e =
    let same : end_behind end (drop n types) ≡ end_behind (aligned end (laid t).align + (laid t).size) (drop (n + 1) types) =
    ap (λ (ts : List (Option ValType)). end_behind end ts) (part_there types n t e) in
    (same, omega (arith, same, end_up (drop (n + 1) types) (aligned end (laid t).align + (laid t).size)))

pub skip_room : (end : ℕ) (types : List (Option ValType)) (n : ℕ) → n < length types → option_and_then (λ part. part) (slice_get types n) ≡ None
    → end_behind end (drop n types) ≡ end_behind end (drop (n + 1) types)
skip_room end types n h e = ap (λ (ts : List (Option ValType)). end_behind end ts) (part_absent types n h e)

-- the core values of a part, and of those behind it
pub word_field_room : (at : ℕ) (types : List (Option ValType)) (n : ℕ) (t : ValType) → option_and_then (λ part. part) (slice_get types n) ≡ Some t
    → (words_behind at (drop n types) ≡ words_behind (at + length (flat t)) (drop (n + 1) types)) × (at + length (flat t) ≤ words_behind at (drop n types))
word_field_room at types n t e =
    let same : words_behind at (drop n types) ≡ words_behind (at + length (flat t)) (drop (n + 1) types) =
    ap (λ (ts : List (Option ValType)). words_behind at ts) (part_there types n t e) in
    (same, omega (arith, same, words_up (drop (n + 1) types) (at + length (flat t))))

pub word_skip_room : (at : ℕ) (types : List (Option ValType)) (n : ℕ) → n < length types → option_and_then (λ part. part) (slice_get types n) ≡ None
    → words_behind at (drop n types) ≡ words_behind at (drop (n + 1) types)
word_skip_room at types n h e = ap (λ (ts : List (Option ValType)). words_behind at ts) (part_absent types n h e)

-- Parts of a record.
module _ {S G : Type 0} (led : Ledger S G) (memory : List ℕ) (place end : ℕ) (kept : S) (before : List Value) (types : List (Option ValType)) (n : ℕ) where
  abbrev rest_of : List (Option ValType) → Came S G (List Value)
  rest_of ts = fields_from led memory place before end (parts led ts) kept

  pub fields_end : length types ≤ n → fields_from led memory place before end (parts led (drop n types)) kept ≡ Ok (before, kept)
  fields_end h = ap rest_of (drop_all n types h)

  pub fields_skip : n < length types → option_and_then (λ part. part) (slice_get types n) ≡ None
      → fields_from led memory place before end (parts led (drop n types)) kept ≡ fields_from led memory place before end (parts led (drop (n + 1) types)) kept
  fields_skip h e = ap rest_of (part_absent types n h e)

  pub fields_go : (t : ValType) (v : Value) (rest : S) → option_and_then (λ part. part) (slice_get types n) ≡ Some t
      → lift led t memory (place + aligned end (laid t).align) kept ≡ Ok (v, rest)
      → fields_from led memory place before end (parts led (drop n types)) kept
      ≡ fields_from led memory place (before ++ v ∷ []) (aligned end (laid t).align + (laid t).size) (parts led (drop (n + 1) types)) rest
  fields_go t v rest e h =
      ap rest_of (part_there types n t e)
      ∙ ap (λ (l : Came S G Value). after l (λ v kept. fields_from led memory place (before ++ v ∷ []) (aligned end (laid t).align + (laid t).size) (parts led (drop (n + 1) types)) kept)) h

  pub fields_stop : (t : ValType) (fault : G) → option_and_then (λ part. part) (slice_get types n) ≡ Some t
      → lift led t memory (place + aligned end (laid t).align) kept ≡ Err fault
      → fields_from led memory place before end (parts led (drop n types)) kept ≡ Err fault
  fields_stop t fault e h =
      ap rest_of (part_there types n t e)
      ∙ ap (λ (l : Came S G Value). after l (λ v kept. fields_from led memory place (before ++ v ∷ []) (aligned end (laid t).align + (laid t).size) (parts led (drop (n + 1) types)) kept)) h

-- Parts of a record in core values.
module _ {S G : Type 0} (led : Ledger S G) (memory words : List ℕ) (at : ℕ) (kept : S) (before : List Value) (types : List (Option ValType)) (n : ℕ) where
  abbrev word_rest_of : List (Option ValType) → Came S G (List Value)
  word_rest_of ts = word_fields_from led memory words before at (parts led ts) kept

  pub word_fields_end : length types ≤ n → word_fields_from led memory words before at (parts led (drop n types)) kept ≡ Ok (before, kept)
  word_fields_end h = ap word_rest_of (drop_all n types h)

  pub word_fields_skip : n < length types → option_and_then (λ part. part) (slice_get types n) ≡ None
      → word_fields_from led memory words before at (parts led (drop n types)) kept ≡ word_fields_from led memory words before at (parts led (drop (n + 1) types)) kept
  word_fields_skip h e = ap word_rest_of (part_absent types n h e)

  pub word_fields_go : (t : ValType) (v : Value) (rest : S) → option_and_then (λ part. part) (slice_get types n) ≡ Some t
      → lift_words led t memory words at kept ≡ Ok (v, rest)
      → word_fields_from led memory words before at (parts led (drop n types)) kept ≡ word_fields_from led memory words (before ++ v ∷ []) (at + length (flat t)) (parts led (drop (n + 1) types)) rest
  word_fields_go t v rest e h =
      ap word_rest_of (part_there types n t e)
      ∙ ap (λ (l : Came S G Value). after l (λ v kept. word_fields_from led memory words (before ++ v ∷ []) (at + length (flat t)) (parts led (drop (n + 1) types)) kept)) h

  pub word_fields_stop : (t : ValType) (fault : G) → option_and_then (λ part. part) (slice_get types n) ≡ Some t
      → lift_words led t memory words at kept ≡ Err fault
      → word_fields_from led memory words before at (parts led (drop n types)) kept ≡ Err fault
  word_fields_stop t fault e h =
      ap word_rest_of (part_there types n t e)
      ∙ ap (λ (l : Came S G Value). after l (λ v kept. word_fields_from led memory words (before ++ v ∷ []) (at + length (flat t)) (parts led (drop (n + 1) types)) kept)) h
