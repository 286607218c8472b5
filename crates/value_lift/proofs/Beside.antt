-- Lifting over two ledgers, one beside the other. Where both count and use indices so that what they keep goes on to stand in a relation,
-- both lift the same value, but for what its indices name, or both stop.
use Rattle.std.proofs.Common.{◌≡◌, ◌∙◌, ◌+◌, ◌*◌, ℕ, zero, suc, if◌then◌else◌, ◌==◌, List, [], ◌∷◌, ◌++◌, map, length, Option, Some, None, Ok, Err, Result, refl, ap}
use Rattle.std.specs.Prelude.{nat_lt}
use Rattle.std.specs.List.{AllByRecursion}
use Rattle.std.specs.Option.{option_map}
use Rattle.std.specs.Int.{w8, w32}
use Rattle.syntax_trees.specs.declared.types.ValType.{ValType, out-ValType}
use Rattle.syntax_trees.specs.declared.types.Case.{Case}
use Rattle.syntax_trees.specs.declared.types.Field.{Field}
use Rattle.syntax_trees.specs.declared.types.ValType.TheOpen as F
use Rattle.syntax_trees.specs.declared.value.Value.{Value}
use Rattle.syntax_trees.specs.declared.value.Value.TheViews as values
use Rattle.laid_types.specs.Layout.{Laid, laid, aligned, tag_size, bits_size, top_align, there}
use Rattle.syntax_trees.specs.Flat.{flat}
use Rattle.laid_types.specs.Parts.{parts_of, case_count}
use Rattle.value_lift.specs.declared.trap.LiftTrap.{LiftTrap}
use Rattle.value_lift.specs.declared.trap.LiftWhy.TheVariants.{Misaligned, Bounds, BadCase}
use Rattle.value_lift.specs.declared.named.Named.{Named}
use Rattle.value_lift.specs.Bytes.{number, bytes_at, is_inside, is_aligned, width_of}
use Rattle.value_lift.specs.Leaves.{trap, part_in, plain_of, text_of, flags_of}
use Rattle.value_lift.specs.Named.{named_in, what_named, value_named}
use Rattle.value_lift.specs.Ledger.{Ledger, Came, What, made, counting, uncounted, reached}
use Rattle.value_lift.specs.Over.{Part, laid_of, behind_tag, low, fails, string_of, elements_from, elements_of, list_of, chosen, fields_from, payload_of, case_of, lift_case, word_fields_from, word_payload_of, word_case_of, lift_word_case, lift, lift_words, part, parts, layer_of, load_by, load_list_by}
use Rattle.value_lift.specs.Settled.{carried}
use Rattle.value_lift.proofs.Both.{stop_of, on_with, Both, Spent, after_on, made_on, counting_on, same_on, if_on, kept_on}
use Rattle.value_lift.proofs.Carried.{carried_list, carried_record, carried_variant, carried_named, Keeps, text_keeps, plain_keeps, flags_keep}
use Rattle.value_lift.proofs.Lists.{part_image_over}
use Rattle.value_lift.proofs.OverForms.{IsRow, HasCases, IsPlain, row_lift_over, cases_lift_over, plain_lift_over, index_lift, row_words_over, cases_words_over, plain_words_over, index_words}
use Rattle.value_lift.proofs.OverTypes.{parts_over, lift_is_over, lift_words_is_over}

map_snoc : {A B : Type 0} (f : A → B) (xs : List A) (x : A) → map f (xs ++ x ∷ []) ≡ map f xs ++ f x ∷ []
map_snoc f [] x = refl
map_snoc {A} {B} f (y ∷ xs) x = ap (λ (ys : List B). f y ∷ ys) (map_snoc f xs x)

-- where a payload stands, whatever the ledger is
abbrev behind_types : ℕ → List (Option ValType) → ℕ
behind_types count types = aligned (tag_size count) (top_align (there (map (option_map laid) types)))

module _ {S J : Type 0} (l : Ledger S J) where
  laids_are : (types : List (Option ValType)) → map laid_of (parts l types) ≡ map (option_map laid) types
  laids_are [] = refl
  laids_are (Some t ∷ types) = ap (λ (ls : List (Option Laid)). Some (laid t) ∷ ls) (laids_are types)
  laids_are (None ∷ types) = ap (λ (ls : List (Option Laid)). None ∷ ls) (laids_are types)

  behind_is : (count : ℕ) (types : List (Option ValType)) → behind_tag count (parts l types) ≡ behind_types count types
  behind_is count types = ap (λ (ls : List (Option Laid)). aligned (tag_size count) (top_align (there ls))) (laids_are types)

  payload_is : (count n : ℕ) (types : List (Option ValType)) (memory : List ℕ) (place : ℕ) (kept : S)
      → payload_of l (part_in (parts l types) n) memory (place + behind_tag count (parts l types)) kept
      ≡ payload_of l (option_map (part l) (part_in types n)) memory (place + behind_types count types) kept
  payload_is count n types memory place kept =
      ap (λ (p : Option (Part S J)). payload_of l p memory (place + behind_tag count (parts l types)) kept) (part_image_over l types n)
      ∙ ap (λ (k : ℕ). payload_of l (option_map (part l) (part_in types n)) memory (place + k) kept) (behind_is count types)

  word_payload_is : (n : ℕ) (types : List (Option ValType)) (memory words : List ℕ) (at : ℕ) (kept : S)
      → word_payload_of l (part_in (parts l types) n) memory words at kept ≡ word_payload_of l (option_map (part l) (part_in types n)) memory words at kept
  word_payload_is n types memory words at kept = ap (λ (p : Option (Part S J)). word_payload_of l p memory words at kept) (part_image_over l types n)

module _ {S J T G : Type 0} (l : Ledger S J) (m : Ledger T G) (names : ℕ → ℕ) (Beside : S → Result T G → Type 0) (Ended : J → G → Type 0) where
  abbrev pub Names : ℕ → ℕ → Type 0
  Names a b = names a ≡ b

  abbrev pub Carries : Value → Value → Type 0
  Carries v w = carried names v ≡ w

  abbrev pub AllCarry : List Value → List Value → Type 0
  AllCarry vs ws = map (carried names) vs ≡ ws

  abbrev HeldCarries : Option Value → Option Value → Type 0
  HeldCarries v w = option_map (carried names) v ≡ w

  -- Both count, stop and use indices alike.
  pub record AreBeside : Type 0 where
    pub spends : (many place : ℕ) (s : S) (q : Result T G) → Beside s q → Spent Beside Ended (l.spend many place s) (on_with q (λ t. m.spend many place t))
    pub stops : (fault : LiftTrap) (s : S) (q : Result T G) → Beside s q → Ended (l.stop fault s) (stop_of m fault q)
    pub reaches : (what : What) (index place : ℕ) (s : S) (q : Result T G) → Beside s q
        → Both Beside Ended Names (reached l what index place s) (counting q (λ t. reached m what index place t))

  -- a type whose values both lift alike, from a memory and from core values,
  pub record Alike (t : ValType) : Type 0 where
    pub lifts : (memory : List ℕ) (place : ℕ) (s : S) (q : Result T G) → Beside s q
        → Both Beside Ended Carries (lift l t memory place s) (counting q (λ k. lift m t memory place k))
    pub words : (memory words : List ℕ) (at : ℕ) (s : S) (q : Result T G) → Beside s q
        → Both Beside Ended Carries (lift_words l t memory words at s) (counting q (λ k. lift_words m t memory words at k))

  abbrev pub AlikeRest : Option ValType → Type 0
  AlikeRest p = (t : ValType) → p ≡ Some t → Alike t

  -- and the same for values that are counted already
  record AlikeCounted (t : ValType) : Type 0 where
    pub lifts : (memory : List ℕ) (place : ℕ) (s : S) (q : Result T G) → Beside s q
        → Both Beside Ended Carries (lift_case l (layer_of l t) memory place s) (counting q (λ k. lift_case m (layer_of m t) memory place k))
    pub words : (memory words : List ℕ) (at : ℕ) (s : S) (q : Result T G) → Beside s q
        → Both Beside Ended Carries (lift_word_case l (layer_of l t) memory words at s) (counting q (λ k. lift_word_case m (layer_of m t) memory words at k))

  module _ (beside : AreBeside) where
    fails_on : {A B : Type 0} (V : A → B → Type 0) (fault : LiftTrap) (s : S) (q : Result T G) → Beside s q
        → Both Beside Ended V (fails l fault s) (counting q (λ t. fails m fault t))
    fails_on V fault s (Ok t) b = beside.stops fault s (Ok t) b
    fails_on V fault s (Err g) b = beside.stops fault s (Err g) b

    uncounted_on : (r : Result Value LiftTrap) (s : S) (q : Result T G) → Keeps names r → Beside s q
        → Both Beside Ended Carries (uncounted l s r) (counting q (λ t. uncounted m t r))
    uncounted_on (Ok v) s q h b = kept_on Beside Ended Carries v v s q h b
    uncounted_on (Err fault) s q h b = fails_on Carries fault s q b

    string_on : (at count : ℕ) (memory : List ℕ) (place : ℕ) (s : S) (q : Result T G) → Beside s q
        → Both Beside Ended Carries (string_of l at count memory place s) (counting q (λ t. string_of m at count memory place t))
    string_on at count memory place s q b =
        let text : Result Value LiftTrap = text_of (bytes_at at count memory) place in
        if_on Beside Ended Carries q (is_inside at count memory)
        (counting (l.spend count place s) (λ k. uncounted l k text)) (fails l (trap Bounds place) s)
        (λ t. counting (m.spend count place t) (λ k. uncounted m k text)) (λ t. fails m (trap Bounds place) t)
        (counting_on Beside Ended Carries q (l.spend count place s) (λ t. m.spend count place t) (λ k. uncounted l k text) (λ k. uncounted m k text)
        (beside.spends count place s q b) (λ s q b. uncounted_on text s q (text_keeps names (bytes_at at count memory) place) b))
        (fails_on Carries (trap Bounds place) s q b)

    -- what is lifted behind others
    snoc : (before others : List Value) (x y : Value) → AllCarry before others → Carries x y → AllCarry (before ++ x ∷ []) (others ++ y ∷ [])
    snoc before others x y h e =
        map_snoc (carried names) before x ∙ ap (λ (vs : List Value). vs ++ carried names x ∷ []) h ∙ ap (λ (v : Value). others ++ v ∷ []) e

    elements_on : (t : ValType) → Alike t → (memory : List ℕ) (before others : List Value) (count at : ℕ) (s : S) (q : Result T G) → AllCarry before others → Beside s q
        → Both Beside Ended AllCarry (elements_from l (part l t) memory before count at s) (counting q (λ k. elements_from m (part m t) memory others count at k))
    elements_on t told memory before others zero at s q h b = kept_on Beside Ended AllCarry before others s q h b
    elements_on t told memory before others (suc count) at s q h b =
        after_on Beside Ended Carries AllCarry q (lift l t memory at s) (λ k. lift m t memory at k)
        (λ v k. elements_from l (part l t) memory (before ++ v ∷ []) count (at + (laid t).size) k)
        (λ v k. elements_from m (part m t) memory (others ++ v ∷ []) count (at + (laid t).size) k)
        (told.lifts memory at s q b)
        (λ x y s k e b. elements_on t told memory (before ++ x ∷ []) (others ++ y ∷ []) count (at + (laid t).size) s (Ok k) (snoc before others x y h e) b)
        (λ x s g b. elements_on t told memory (before ++ x ∷ []) (map (carried names) (before ++ x ∷ [])) count (at + (laid t).size) s (Err g) refl b)

    pub elements_of_on : (t : ValType) → Alike t → (at count : ℕ) (memory : List ℕ) (place : ℕ) (s : S) (q : Result T G) → Beside s q
        → Both Beside Ended AllCarry (elements_of l (part l t) at count memory place s) (counting q (λ k. elements_of m (part m t) at count memory place k))
    elements_of_on t told at count memory place s q b =
        if_on Beside Ended AllCarry q (is_aligned at (laid t).align)
        (if is_inside at (count * (laid t).size) memory then elements_from l (part l t) memory [] count at s else fails l (trap Bounds place) s)
        (fails l (trap Misaligned place) s)
        (λ k. if is_inside at (count * (laid t).size) memory then elements_from m (part m t) memory [] count at k else fails m (trap Bounds place) k)
        (λ k. fails m (trap Misaligned place) k)
        (if_on Beside Ended AllCarry q (is_inside at (count * (laid t).size) memory)
        (elements_from l (part l t) memory [] count at s) (fails l (trap Bounds place) s)
        (λ k. elements_from m (part m t) memory [] count at k) (λ k. fails m (trap Bounds place) k)
        (elements_on t told memory [] [] count at s q refl b) (fails_on AllCarry (trap Bounds place) s q b))
        (fails_on AllCarry (trap Misaligned place) s q b)

    list_on : (t : ValType) → Alike t → (at count : ℕ) (memory : List ℕ) (place : ℕ) (s : S) (q : Result T G) → Beside s q
        → Both Beside Ended Carries (list_of l (Some (part l t) ∷ []) at count memory place s) (counting q (λ k. list_of m (Some (part m t) ∷ []) at count memory place k))
    list_on t told at count memory place s q b =
        made_on Beside Ended AllCarry Carries q (elements_of l (part l t) at count memory place s) (λ k. elements_of m (part m t) at count memory place k)
        (λ vs. values.List vs) (λ vs. values.List vs) (elements_of_on t told at count memory place s q b)
        (λ vs ws e. carried_list names vs ∙ ap (λ (ws : List Value). values.List ws) e)

    -- Fields.
    fields_on : (types : List ValType) → AllByRecursion Alike types → (memory : List ℕ) (place end : ℕ) (before others : List Value) (s : S) (q : Result T G)
        → AllCarry before others → Beside s q
        → Both Beside Ended AllCarry (fields_from l memory place before end (parts l (map (λ (t : ValType). Some t) types)) s)
        (counting q (λ k. fields_from m memory place others end (parts m (map (λ (t : ValType). Some t) types)) k))
    fields_on [] told memory place end before others s q h b = kept_on Beside Ended AllCarry before others s q h b
    fields_on (t ∷ types) told memory place end before others s q h b =
        let start : ℕ = aligned end (laid t).align in
        after_on Beside Ended Carries AllCarry q (lift l t memory (place + start) s) (λ k. lift m t memory (place + start) k)
        (λ v k. fields_from l memory place (before ++ v ∷ []) (start + (laid t).size) (parts l (map (λ (t : ValType). Some t) types)) k)
        (λ v k. fields_from m memory place (others ++ v ∷ []) (start + (laid t).size) (parts m (map (λ (t : ValType). Some t) types)) k)
        (told.0.lifts memory (place + start) s q b)
        (λ x y s k e b. fields_on types told.1 memory place (start + (laid t).size) (before ++ x ∷ []) (others ++ y ∷ []) s (Ok k) (snoc before others x y h e) b)
        (λ x s g b. fields_on types told.1 memory place (start + (laid t).size) (before ++ x ∷ []) (map (carried names) (before ++ x ∷ [])) s (Err g) refl b)

    word_fields_on : (types : List ValType) → AllByRecursion Alike types → (memory words : List ℕ) (at : ℕ) (before others : List Value) (s : S) (q : Result T G)
        → AllCarry before others → Beside s q
        → Both Beside Ended AllCarry (word_fields_from l memory words before at (parts l (map (λ (t : ValType). Some t) types)) s)
        (counting q (λ k. word_fields_from m memory words others at (parts m (map (λ (t : ValType). Some t) types)) k))
    word_fields_on [] told memory words at before others s q h b = kept_on Beside Ended AllCarry before others s q h b
    word_fields_on (t ∷ types) told memory words at before others s q h b =
        after_on Beside Ended Carries AllCarry q (lift_words l t memory words at s) (λ k. lift_words m t memory words at k)
        (λ v k. word_fields_from l memory words (before ++ v ∷ []) (at + length (flat t)) (parts l (map (λ (t : ValType). Some t) types)) k)
        (λ v k. word_fields_from m memory words (others ++ v ∷ []) (at + length (flat t)) (parts m (map (λ (t : ValType). Some t) types)) k)
        (told.0.words memory words at s q b)
        (λ x y s k e b. word_fields_on types told.1 memory words (at + length (flat t)) (before ++ x ∷ []) (others ++ y ∷ []) s (Ok k) (snoc before others x y h e) b)
        (λ x s g b. word_fields_on types told.1 memory words (at + length (flat t)) (before ++ x ∷ []) (map (carried names) (before ++ x ∷ [])) s (Err g) refl b)

    record_carried : (vs ws : List Value) → AllCarry vs ws → Carries (values.Record vs) (values.Record ws)
    record_carried vs ws e = carried_record names vs ∙ ap (λ (ws : List Value). values.Record ws) e

    -- Cases.
    payload_on : (p : Option ValType) → AlikeRest p → (memory : List ℕ) (place : ℕ) (s : S) (q : Result T G) → Beside s q
        → Both Beside Ended HeldCarries (payload_of l (option_map (part l) p) memory place s) (counting q (λ k. payload_of m (option_map (part m) p) memory place k))
    payload_on None told memory place s q b = kept_on Beside Ended HeldCarries None None s q refl b
    payload_on (Some t) told memory place s q b =
        made_on Beside Ended Carries HeldCarries q (lift l t memory place s) (λ k. lift m t memory place k) (λ v. Some v) (λ v. Some v)
        ((told t refl).lifts memory place s q b) (λ v w e. ap (λ (v : Value). Some v) e)

    word_payload_on : (p : Option ValType) → AlikeRest p → (memory words : List ℕ) (at : ℕ) (s : S) (q : Result T G) → Beside s q
        → Both Beside Ended HeldCarries (word_payload_of l (option_map (part l) p) memory words at s) (counting q (λ k. word_payload_of m (option_map (part m) p) memory words at k))
    word_payload_on None told memory words at s q b = kept_on Beside Ended HeldCarries None None s q refl b
    word_payload_on (Some t) told memory words at s q b =
        made_on Beside Ended Carries HeldCarries q (lift_words l t memory words at s) (λ k. lift_words m t memory words at k) (λ v. Some v) (λ v. Some v)
        ((told t refl).words memory words at s q b) (λ v w e. ap (λ (v : Value). Some v) e)

    chosen_on : (n count place : ℕ) (s : S) (q : Result T G) (payload : Came S J (Option Value)) (other : T → Came T G (Option Value)) → Beside s q
        → Both Beside Ended HeldCarries payload (counting q other)
        → Both Beside Ended Carries (chosen l n count place s payload) (counting q (λ k. chosen m n count place k (other k)))
    chosen_on n count place s q payload other b h =
        if_on Beside Ended Carries q (nat_lt n count) (made (λ v. values.Variant n v) payload) (fails l (trap BadCase place) s)
        (λ k. made (λ v. values.Variant n v) (other k)) (λ k. fails m (trap BadCase place) k)
        (made_on Beside Ended HeldCarries Carries q payload other (λ v. values.Variant n v) (λ v. values.Variant n v) h
        (λ v w e. carried_variant names n v ∙ ap (λ (w : Option Value). values.Variant n w) e))
        (fails_on Carries (trap BadCase place) s q b)

    case_on : (count : ℕ) (types : List (Option ValType)) → ((n : ℕ) → AlikeRest (part_in types n)) → (memory : List ℕ) (place : ℕ) (s : S) (q : Result T G) → Beside s q
        → Both Beside Ended Carries (case_of l count (parts l types) memory place s) (counting q (λ k. case_of m count (parts m types) memory place k))
    case_on count types told memory place s q b =
        let n : ℕ = number (width_of (tag_size count)) place memory in
        chosen_on n count place s q (payload_of l (part_in (parts l types) n) memory (place + behind_tag count (parts l types)) s)
        (λ k. payload_of m (part_in (parts m types) n) memory (place + behind_tag count (parts m types)) k) b
        (same_on Beside Ended HeldCarries q
        (payload_of l (part_in (parts l types) n) memory (place + behind_tag count (parts l types)) s)
        (payload_of l (option_map (part l) (part_in types n)) memory (place + behind_types count types) s)
        (λ k. payload_of m (part_in (parts m types) n) memory (place + behind_tag count (parts m types)) k)
        (λ k. payload_of m (option_map (part m) (part_in types n)) memory (place + behind_types count types) k)
        (payload_is l count n types memory place s) (λ k. payload_is m count n types memory place k)
        (payload_on (part_in types n) (told n) memory (place + behind_types count types) s q b))

    word_case_on : (count : ℕ) (types : List (Option ValType)) → ((n : ℕ) → AlikeRest (part_in types n)) → (memory words : List ℕ) (at : ℕ) (s : S) (q : Result T G) → Beside s q
        → Both Beside Ended Carries (word_case_of l count (parts l types) memory words at s) (counting q (λ k. word_case_of m count (parts m types) memory words at k))
    word_case_on count types told memory words at s q b =
        let n : ℕ = low w32 at words in
        chosen_on n count at s q (word_payload_of l (part_in (parts l types) n) memory words (at + 1) s)
        (λ k. word_payload_of m (part_in (parts m types) n) memory words (at + 1) k) b
        (same_on Beside Ended HeldCarries q
        (word_payload_of l (part_in (parts l types) n) memory words (at + 1) s)
        (word_payload_of l (option_map (part l) (part_in types n)) memory words (at + 1) s)
        (λ k. word_payload_of m (part_in (parts m types) n) memory words (at + 1) k)
        (λ k. word_payload_of m (option_map (part m) (part_in types n)) memory words (at + 1) k)
        (word_payload_is l n types memory words (at + 1) s) (λ k. word_payload_is m n types memory words (at + 1) k)
        (word_payload_on (part_in types n) (told n) memory words (at + 1) s q b))

    -- A value is counted, and then lifted.
    alike_counted : (t : ValType) → AlikeCounted t → Alike t
    alike_counted t told = record {
      lifts = λ memory place s q b.
          same_on Beside Ended Carries q (lift l t memory place s) (counting (l.spend 1 place s) (λ k. lift_case l (layer_of l t) memory place k))
          (λ k. lift m t memory place k) (λ k. counting (m.spend 1 place k) (λ k. lift_case m (layer_of m t) memory place k))
          (lift_is_over l t memory place s) (λ k. lift_is_over m t memory place k)
          (counting_on Beside Ended Carries q (l.spend 1 place s) (λ k. m.spend 1 place k)
          (λ k. lift_case l (layer_of l t) memory place k) (λ k. lift_case m (layer_of m t) memory place k)
          (beside.spends 1 place s q b) (λ s q b. told.lifts memory place s q b));
      words = λ memory words at s q b.
          same_on Beside Ended Carries q (lift_words l t memory words at s) (counting (l.spend 1 at s) (λ k. lift_word_case l (layer_of l t) memory words at k))
          (λ k. lift_words m t memory words at k) (λ k. counting (m.spend 1 at k) (λ k. lift_word_case m (layer_of m t) memory words at k))
          (lift_words_is_over l t memory words at s) (λ k. lift_words_is_over m t memory words at k)
          (counting_on Beside Ended Carries q (l.spend 1 at s) (λ k. m.spend 1 at k)
          (λ k. lift_word_case l (layer_of l t) memory words at k) (λ k. lift_word_case m (layer_of m t) memory words at k)
          (beside.spends 1 at s q b) (λ s q b. told.words memory words at s q b));
    }

    -- what is known of a layer
    record AlikeLayer (y : F.ValType-F ValType Case Field) : Type 0 where
      pub lifts : (memory : List ℕ) (place : ℕ) (s : S) (q : Result T G) → Beside s q
          → Both Beside Ended Carries (lift_case l (parts_over l y) memory place s) (counting q (λ k. lift_case m (parts_over m y) memory place k))
      pub words : (memory words : List ℕ) (at : ℕ) (s : S) (q : Result T G) → Beside s q
          → Both Beside Ended Carries (lift_word_case l (parts_over l y) memory words at s) (counting q (λ k. lift_word_case m (parts_over m y) memory words at k))

    alike_layer : (t : ValType) (y : F.ValType-F ValType Case Field) → out-ValType t ≡ y → AlikeLayer y → Alike t
    alike_layer t y o told =
        alike_counted t (record {
          lifts = λ memory place s q b.
              same_on Beside Ended Carries q (lift_case l (layer_of l t) memory place s) (lift_case l (parts_over l y) memory place s)
              (λ k. lift_case m (layer_of m t) memory place k) (λ k. lift_case m (parts_over m y) memory place k)
              (ap (λ (y : F.ValType-F ValType Case Field). lift_case l (parts_over l y) memory place s) o)
              (λ k. ap (λ (y : F.ValType-F ValType Case Field). lift_case m (parts_over m y) memory place k) o)
              (told.lifts memory place s q b);
          words = λ memory words at s q b.
              same_on Beside Ended Carries q (lift_word_case l (layer_of l t) memory words at s) (lift_word_case l (parts_over l y) memory words at s)
              (λ k. lift_word_case m (layer_of m t) memory words at k) (λ k. lift_word_case m (parts_over m y) memory words at k)
              (ap (λ (y : F.ValType-F ValType Case Field). lift_word_case l (parts_over l y) memory words at s) o)
              (λ k. ap (λ (y : F.ValType-F ValType Case Field). lift_word_case m (parts_over m y) memory words at k) o)
              (told.words memory words at s q b);
        })

    -- The kinds of types.
    pub alike_named : (t : ValType) (n : Named) → named_in (out-ValType t) ≡ Some n → Alike t
    alike_named t n h = record {
      lifts = λ memory place s q b.
          same_on Beside Ended Carries q (lift l t memory place s) (made (value_named n) (reached l (what_named n t) (number w32 place memory) place s))
          (λ k. lift m t memory place k) (λ k. made (value_named n) (reached m (what_named n t) (number w32 place memory) place k))
          (index_lift l t n memory place s h) (λ k. index_lift m t n memory place k h)
          (made_on Beside Ended Names Carries q (reached l (what_named n t) (number w32 place memory) place s)
          (λ k. reached m (what_named n t) (number w32 place memory) place k) (value_named n) (value_named n)
          (beside.reaches (what_named n t) (number w32 place memory) place s q b) (λ x y e. carried_named names n x y e));
      words = λ memory words at s q b.
          same_on Beside Ended Carries q (lift_words l t memory words at s) (made (value_named n) (reached l (what_named n t) (low w32 at words) at s))
          (λ k. lift_words m t memory words at k) (λ k. made (value_named n) (reached m (what_named n t) (low w32 at words) at k))
          (index_words l t n memory words at s h) (λ k. index_words m t n memory words at k h)
          (made_on Beside Ended Names Carries q (reached l (what_named n t) (low w32 at words) at s)
          (λ k. reached m (what_named n t) (low w32 at words) at k) (value_named n) (value_named n)
          (beside.reaches (what_named n t) (low w32 at words) at s q b) (λ x y e. carried_named names n x y e));
    }

    pub alike_plain : (t : ValType) → IsPlain (out-ValType t) → named_in (out-ValType t) ≡ None → Alike t
    alike_plain t h e =
        alike_counted t (record {
          lifts = λ memory place s q b.
              (let r : Result Value LiftTrap = plain_of (out-ValType t) w8 (λ w. number w place memory) place in
              same_on Beside Ended Carries q (lift_case l (layer_of l t) memory place s) (uncounted l s r)
              (λ k. lift_case m (layer_of m t) memory place k) (λ k. uncounted m k r)
              (plain_lift_over l memory place s t h e) (λ k. plain_lift_over m memory place k t h e)
              (uncounted_on r s q (plain_keeps names (out-ValType t) w8 (λ w. number w place memory) place h e) b));
          words = λ memory words at s q b.
              (let r : Result Value LiftTrap = plain_of (out-ValType t) w32 (λ w. low w at words) at in
              same_on Beside Ended Carries q (lift_word_case l (layer_of l t) memory words at s) (uncounted l s r)
              (λ k. lift_word_case m (layer_of m t) memory words at k) (λ k. uncounted m k r)
              (plain_words_over l memory words at s t h e) (λ k. plain_words_over m memory words at k t h e)
              (uncounted_on r s q (plain_keeps names (out-ValType t) w32 (λ w. low w at words) at h e) b));
        })

    pub alike_string : (t : ValType) → out-ValType t ≡ F.String → Alike t
    alike_string t o =
        alike_layer t F.String o (record {
          lifts = λ memory place s q b. string_on (number w32 place memory) (number w32 (place + 4) memory) memory place s q b;
          words = λ memory words at s q b. string_on (low w32 at words) (low w32 (at + 1) words) memory at s q b;
        })

    pub alike_flags : (t : ValType) (labels : List (List ℕ)) → out-ValType t ≡ F.Flags labels → Alike t
    alike_flags t labels o =
        alike_layer t (F.Flags labels) o (record {
          lifts = λ memory place s q b.
              (let v : Value = flags_of labels (number (width_of (bits_size (length labels))) place memory) in
              kept_on Beside Ended Carries v v s q (flags_keep names labels (number (width_of (bits_size (length labels))) place memory)) b);
          words = λ memory words at s q b.
              (let v : Value = flags_of labels (low w32 at words) in kept_on Beside Ended Carries v v s q (flags_keep names labels (low w32 at words)) b);
        })

    pub alike_list : (t u : ValType) → out-ValType t ≡ F.List u → Alike u → Alike t
    alike_list t u o told =
        alike_layer t (F.List u) o (record {
          lifts = λ memory place s q b. list_on u told (number w32 place memory) (number w32 (place + 4) memory) memory place s q b;
          words = λ memory words at s q b. list_on u told (low w32 at words) (low w32 (at + 1) words) memory at s q b;
        })

    pub alike_row : (t : ValType) (types : List ValType) → IsRow (out-ValType t) → parts_of t ≡ map (λ (t : ValType). Some t) types → AllByRecursion Alike types → Alike t
    alike_row t types row are told =
        let all : List (Option ValType) = map (λ (t : ValType). Some t) types in
        alike_counted t (record {
          lifts = λ memory place s q b.
              same_on Beside Ended Carries q (lift_case l (layer_of l t) memory place s) (made (λ vs. values.Record vs) (fields_from l memory place [] 0 (parts l all) s))
              (λ k. lift_case m (layer_of m t) memory place k) (λ k. made (λ vs. values.Record vs) (fields_from m memory place [] 0 (parts m all) k))
              (row_lift_over l memory place s t row ∙ ap (λ (ts : List (Option ValType)). made (λ vs. values.Record vs) (fields_from l memory place [] 0 (parts l ts) s)) are)
              (λ k. row_lift_over m memory place k t row ∙ ap (λ (ts : List (Option ValType)). made (λ vs. values.Record vs) (fields_from m memory place [] 0 (parts m ts) k)) are)
              (made_on Beside Ended AllCarry Carries q (fields_from l memory place [] 0 (parts l all) s) (λ k. fields_from m memory place [] 0 (parts m all) k)
              (λ vs. values.Record vs) (λ vs. values.Record vs) (fields_on types told memory place 0 [] [] s q refl b) record_carried);
          words = λ memory words at s q b.
              same_on Beside Ended Carries q (lift_word_case l (layer_of l t) memory words at s)
              (made (λ vs. values.Record vs) (word_fields_from l memory words [] at (parts l all) s))
              (λ k. lift_word_case m (layer_of m t) memory words at k) (λ k. made (λ vs. values.Record vs) (word_fields_from m memory words [] at (parts m all) k))
              (row_words_over l memory words at s t row ∙ ap (λ (ts : List (Option ValType)). made (λ vs. values.Record vs) (word_fields_from l memory words [] at (parts l ts) s)) are)
              (λ k. row_words_over m memory words at k t row ∙ ap (λ (ts : List (Option ValType)). made (λ vs. values.Record vs) (word_fields_from m memory words [] at (parts m ts) k)) are)
              (made_on Beside Ended AllCarry Carries q (word_fields_from l memory words [] at (parts l all) s) (λ k. word_fields_from m memory words [] at (parts m all) k)
              (λ vs. values.Record vs) (λ vs. values.Record vs) (word_fields_on types told memory words at [] [] s q refl b) record_carried);
        })

    pub alike_cases : (t : ValType) → HasCases (out-ValType t) → ((n : ℕ) → AlikeRest (part_in (parts_of t) n)) → Alike t
    alike_cases t kind told =
        alike_counted t (record {
          lifts = λ memory place s q b.
              same_on Beside Ended Carries q (lift_case l (layer_of l t) memory place s) (case_of l (case_count t) (parts l (parts_of t)) memory place s)
              (λ k. lift_case m (layer_of m t) memory place k) (λ k. case_of m (case_count t) (parts m (parts_of t)) memory place k)
              (cases_lift_over l memory place s t kind) (λ k. cases_lift_over m memory place k t kind)
              (case_on (case_count t) (parts_of t) told memory place s q b);
          words = λ memory words at s q b.
              same_on Beside Ended Carries q (lift_word_case l (layer_of l t) memory words at s) (word_case_of l (case_count t) (parts l (parts_of t)) memory words at s)
              (λ k. lift_word_case m (layer_of m t) memory words at k) (λ k. word_case_of m (case_count t) (parts m (parts_of t)) memory words at k)
              (cases_words_over l memory words at s t kind) (λ k. cases_words_over m memory words at k t kind)
              (word_case_on (case_count t) (parts_of t) told memory words at s q b);
        })

    -- A whole lifting.
    pub load_on : (t : ValType) → Alike t → (memory : List ℕ) (place : ℕ) (s : S) (q : Result T G) → Beside s q
        → Both Beside Ended Carries (load_by l t memory place s) (counting q (λ k. load_by m t memory place k))
    load_on t told memory place s q b =
        if_on Beside Ended Carries q (is_aligned place (laid t).align)
        (if is_inside place (laid t).size memory then lift l t memory place s else fails l (trap Bounds place) s) (fails l (trap Misaligned place) s)
        (λ k. if is_inside place (laid t).size memory then lift m t memory place k else fails m (trap Bounds place) k) (λ k. fails m (trap Misaligned place) k)
        (if_on Beside Ended Carries q (is_inside place (laid t).size memory) (lift l t memory place s) (fails l (trap Bounds place) s)
        (λ k. lift m t memory place k) (λ k. fails m (trap Bounds place) k) (told.lifts memory place s q b) (fails_on Carries (trap Bounds place) s q b))
        (fails_on Carries (trap Misaligned place) s q b)

    pub load_list_on : (t : ValType) → Alike t → (memory : List ℕ) (place count : ℕ) (s : S) (q : Result T G) → Beside s q
        → Both Beside Ended AllCarry (load_list_by l t memory place count s) (counting q (λ k. load_list_by m t memory place count k))
    load_list_on t told memory place count s q b =
        if_on Beside Ended AllCarry q (count == 0) (Ok ([], s)) (elements_of l (part l t) place count memory place s)
        (λ k. Ok ([], k)) (λ k. elements_of m (part m t) place count memory place k)
        (kept_on Beside Ended AllCarry [] [] s q refl b) (elements_of_on t told place count memory place s q b)
