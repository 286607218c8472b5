-- One part: what lifts it, over any ledger, and where it lies.
use Rattle.std.proofs.Common.{◌≡◌, ◌∙◌, ◌+◌, ◌<◌, ◌≤◌, ◌^◌, min, ℕ, List, [], ◌∷◌, ◌++◌, length, take, drop, Option, Some, None, Ok, Err, ap, sym, subst, arith}
use Rattle.std.specs.Prelude.{nat_lt, IfSome}
use Rattle.std.specs.Option.{option_map}
use Rattle.std.specs.Int.{w32}
use Rattle.std.proofs.lemmas.Bool.{cond-true, lt-ltb}
use Rattle.faults.specs.declared.memory.MemoryOr.{MemoryOr}
use Rattle.faults.specs.declared.memory.MemoryOr.TheVariants.{Memory, Fault}
use Rattle.syntax_trees.specs.declared.types.ValType.{ValType}
use Rattle.syntax_trees.specs.declared.value.Value.{Value}
use Rattle.syntax_trees.specs.declared.value.Value.TheViews as values
use Rattle.laid_types.specs.Layout.{laid, aligned, tag_size}
use Rattle.syntax_trees.specs.Flat.{flat}
use Rattle.laid_types.specs.Parts.{parts_of, part_at, case_count, payload_place}
use Rattle.laid_types.specs.Known.{Numbered}
use Rattle.value_lift.specs.declared.trap.LiftTrap.{LiftTrap}
use Rattle.value_lift.specs.Bytes.{number, width_of}
use Rattle.value_lift.specs.Leaves.{part_in}
use Rattle.value_lift.specs.Ledger.{Ledger, Came, MayTake, made}
use Rattle.value_lift.specs.Over.{Part, list_of, elements_of, chosen, part, parts, lift, lift_words, low, fields_from, word_fields_from, payload_of, word_payload_of, case_of, case_told, word_case_of, behind_tag}
use Rattle.value_lift.specs.Room.{end_behind, words_behind}
use Rattle.value_lift.proofs.Lists.{part_image_over}
use Rattle.value_lift.proofs.Rooms.{payload_behind_over}
use Rattle.value_lift.proofs.WordRooms.{few_taken}
use Rattle.value_lift.proofs.Steps.{fields_go, fields_stop, field_room, word_fields_go, word_fields_stop, word_field_room}

-- The type of a part that is there.
pub part_type : (r : Option Numbered) (o : Option ValType) (p : Numbered) → option_map (λ (k : Numbered). k.val_type) r ≡ o → r ≡ Some p → o ≡ Some p.val_type
part_type r o p e h = sym e ∙ ap (λ (r : Option Numbered). option_map (λ (k : Numbered). k.val_type) r) h

pub no_part_type : (r : Option Numbered) (o : Option ValType) → option_map (λ (k : Numbered). k.val_type) r ≡ o → r ≡ None → o ≡ None
no_part_type r o e h = sym e ∙ ap (λ (r : Option Numbered). option_map (λ (k : Numbered). k.val_type) r) h

pub part_among : (r : Option Numbered) (types : List ValType) (p : Numbered) → IfSome r (λ (k : Numbered). k.types ≡ types) → r ≡ Some p → p.types ≡ types
part_among None types p h e = cc
part_among (Some q) types p h e =
    let same : q ≡ p = cc in
    ap (λ (k : Numbered). k.types) (sym same) ∙ h

module _ {S G : Type 0} (led : Ledger S G) where
  -- A list of a type with a part.
  pub list_some : (types : List (Option ValType)) (e : ValType) (at count : ℕ) (memory : List ℕ) (place : ℕ) (kept : S) → part_in types 0 ≡ Some e
      → list_of led (parts led types) at count memory place kept ≡ made values.List (elements_of led (part led e) at count memory place kept)
  list_some [] e at count memory place kept h = cc
  list_some (None ∷ types) e at count memory place kept h = cc
  list_some (Some t ∷ types) e at count memory place kept h =
      let same : t ≡ e = cc in
      ap (λ (t : ValType). made values.List (elements_of led (part led t) at count memory place kept)) same

  -- A case with a payload.
  pub case_some : (t p : ValType) (n : ℕ) (memory : List ℕ) (place : ℕ) (kept : S) → number (width_of (tag_size (case_count t))) place memory ≡ n → n < case_count t → part_at t n ≡ Some p
      → case_of led (case_count t) (parts led (parts_of t)) memory place kept ≡ made (values.Variant n) (made (λ v. Some v) (lift led p memory (place + payload_place t) kept))
  case_some t p n memory place kept e below h =
      ap (λ (k : ℕ). case_told led k (case_count t) (parts led (parts_of t)) memory place kept) e
      ∙ ap (λ (o : Option (Part S G)). chosen led n (case_count t) place kept (payload_of led o memory (place + behind_tag (case_count t) (parts led (parts_of t))) kept))
      (part_image_over led (parts_of t) n ∙ ap (λ (o : Option ValType). option_map (part led) o) h)
      ∙ ap (λ (k : ℕ). chosen led n (case_count t) place kept (payload_of led (Some (part led p)) memory (place + k) kept)) (payload_behind_over led t)
      ∙ cond-true (nat_lt n (case_count t)) _ _ (lt-ltb n (case_count t) below)

  pub word_case_some : (t p : ValType) (n : ℕ) (memory words : List ℕ) (at : ℕ) (kept : S) → low w32 at words ≡ n → n < case_count t → part_at t n ≡ Some p
      → word_case_of led (case_count t) (parts led (parts_of t)) memory words at kept ≡ made (values.Variant n) (made (λ v. Some v) (lift_words led p memory words (at + 1) kept))
  word_case_some t p n memory words at kept e below h =
      ap (λ (k : ℕ). chosen led k (case_count t) at kept (word_payload_of led (part_in (parts led (parts_of t)) k) memory words (at + 1) kept)) e
      ∙ ap (λ (o : Option (Part S G)). chosen led n (case_count t) at kept (word_payload_of led o memory words (at + 1) kept))
      (part_image_over led (parts_of t) n ∙ ap (λ (o : Option ValType). option_map (part led) o) h)
      ∙ cond-true (nat_lt n (case_count t)) _ _ (lt-ltb n (case_count t) below)

-- A part of a record, whose size is limited.
pub record FieldAt (memory : List ℕ) (place end n : ℕ) (types : List (Option ValType)) (t : ValType) (start : ℕ) : Type 0 where
  pub start_is : start ≡ aligned end (laid t).align
  pub inside : place + start + (laid t).size ≤ length memory

pub field_at : (memory : List ℕ) (place end n : ℕ) (types : List (Option ValType)) (t : ValType) (align start : ℕ) → part_in types n ≡ Some t
    → place + end_behind end (drop n types) ≤ length memory → align ≡ (laid t).align → start ≡ aligned end align → FieldAt memory place end n types t start
field_at memory place end n types t align start h room e f =
    let r = field_room end types n t h in
    let same : start ≡ aligned end (laid t).align = f ∙ ap (λ (a : ℕ). aligned end a) e in
    record { start_is = same; inside = omega (arith, room, same, r.1) }

pub size_at : (memory : List ℕ) (place end n : ℕ) (types : List (Option ValType)) (t : ValType) (start size : ℕ) → FieldAt memory place end n types t start → size ≡ min (laid t).size (2 ^ 64)
    → length memory < 2 ^ 64 → size ≡ (laid t).size
size_at memory place end n types t start size f e short = omega (arith, e, short, f.inside)

pub word_count : (t : ValType) (words : List ℕ) (at n : ℕ) (types : List (Option ValType)) (count : ℕ) → length words ≤ 16 → part_in types n ≡ Some t → words_behind at (drop n types) ≤ length words
    → count ≡ length (take 17 (flat t)) → count ≡ length (flat t)
word_count t words at n types count few h room e =
    let r = word_field_room at types n t h in
    e ∙ few_taken (flat t) (omega (arith, few, room, r.1))

pub word_inside : (t : ValType) (words : List ℕ) (at n : ℕ) (types : List (Option ValType)) → part_in types n ≡ Some t → words_behind at (drop n types) ≤ length words → at + length (flat t) ≤ length words
word_inside t words at n types h room =
    let r = word_field_room at types n t h in
    omega (arith, room, r.1)

module _ {S G : Type 0} (led : Ledger S G) where
  pub field_next : (memory : List ℕ) (place end : ℕ) (kept rest : S) (n : ℕ) (types : List (Option ValType)) (t : ValType) (start size : ℕ) (before now : List Value) (v : Value) → part_in types n ≡ Some t
      → place + end_behind end (drop n types) ≤ length memory → FieldAt memory place end n types t start → size ≡ (laid t).size → lift led t memory (place + start) kept ≡ Ok (v, rest) → now ≡ before ++ v ∷ []
      → (fields_from led memory place before end (parts led (drop n types)) kept ≡ fields_from led memory place now (start + size) (parts led (drop (n + 1) types)) rest)
      × (place + end_behind (start + size) (drop (n + 1) types) ≤ length memory)
  field_next memory place end kept rest n types t start size before now v h room f e lifted pushed =
      let r = field_room end types n t h in
      let here : aligned end (laid t).align + (laid t).size ≡ start + size = omega (arith, f.start_is, e) in
      let there : lift led t memory (place + aligned end (laid t).align) kept ≡ Ok (v, rest) = ap (λ (k : ℕ). lift led t memory (place + k) kept) (sym f.start_is) ∙ lifted in (
        fields_go led memory place end kept before types n t v rest h there
            ∙ ap (λ (l : List Value). fields_from led memory place l (aligned end (laid t).align + (laid t).size) (parts led (drop (n + 1) types)) rest) (sym pushed)
            ∙ ap (λ (k : ℕ). fields_from led memory place now k (parts led (drop (n + 1) types)) rest) here,
        subst (λ (k : ℕ). place + k ≤ length memory) (r.0 ∙ ap (λ (k : ℕ). end_behind k (drop (n + 1) types)) here) room,
      )

  -- where a part stops
  pub field_stops : (whole : Came S G (List Value)) (memory : List ℕ) (place end : ℕ) (kept now : S) (n : ℕ) (types : List (Option ValType)) (t : ValType) (start : ℕ) (before : List Value) (e : MemoryOr LiftTrap)
      → whole ≡ fields_from led memory place before end (parts led (drop n types)) kept → part_in types n ≡ Some t → FieldAt memory place end n types t start
      → MayTake led (lift led t memory (place + start) kept) now (Err e) → MayTake led whole now (Err e)
  field_stops whole memory place end kept now n types t start before Memory w h f stops = tt
  field_stops whole memory place end kept now n types t start before (Fault fault) w h f stops =
      w ∙ fields_stop led memory place end kept before types n t (led.stop fault now) h (ap (λ (k : ℕ). lift led t memory (place + k) kept) (sym f.start_is) ∙ stops)

  -- the same in core values
  pub word_stops : (whole : Came S G (List Value)) (memory words : List ℕ) (at : ℕ) (kept now : S) (n : ℕ) (types : List (Option ValType)) (t : ValType) (before : List Value) (e : MemoryOr LiftTrap)
      → whole ≡ word_fields_from led memory words before at (parts led (drop n types)) kept → part_in types n ≡ Some t → MayTake led (lift_words led t memory words at kept) now (Err e) → MayTake led whole now (Err e)
  word_stops whole memory words at kept now n types t before Memory w h stops = tt
  word_stops whole memory words at kept now n types t before (Fault fault) w h stops = w ∙ word_fields_stop led memory words at kept before types n t (led.stop fault now) h stops

  pub word_next : (memory words : List ℕ) (at : ℕ) (kept rest : S) (n : ℕ) (types : List (Option ValType)) (t : ValType) (count : ℕ) (before now : List Value) (v : Value) → part_in types n ≡ Some t
      → words_behind at (drop n types) ≤ length words → count ≡ length (flat t) → lift_words led t memory words at kept ≡ Ok (v, rest) → now ≡ before ++ v ∷ []
      → (word_fields_from led memory words before at (parts led (drop n types)) kept ≡ word_fields_from led memory words now (at + count) (parts led (drop (n + 1) types)) rest)
      × (words_behind (at + count) (drop (n + 1) types) ≤ length words)
  word_next memory words at kept rest n types t count before now v h room e lifted pushed =
      let r = word_field_room at types n t h in
      let here : at + length (flat t) ≡ at + count = ap (λ (k : ℕ). at + k) (sym e) in (
        word_fields_go led memory words at kept before types n t v rest h lifted
            ∙ ap (λ (l : List Value). word_fields_from led memory words l (at + length (flat t)) (parts led (drop (n + 1) types)) rest) (sym pushed)
            ∙ ap (λ (k : ℕ). word_fields_from led memory words now k (parts led (drop (n + 1) types)) rest) here,
        subst (λ (k : ℕ). k ≤ length words) (r.0 ∙ ap (λ (k : ℕ). words_behind k (drop (n + 1) types)) here) room,
      )
