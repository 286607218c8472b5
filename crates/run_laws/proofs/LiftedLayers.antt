-- What the machine lifts over a ledger is what code lifts over one that takes alike: the layers of types. Core values behind those of the type are not
-- read.
use mathlib.Core.Path.{fun_ext}
use Rattle.std.proofs.Common.{◌≡◌, ◌∙◌, ◌+◌, ◌*◌, ◌%◌, ◌^◌, ◌≤◌, ◌<◌, ℕ, zero, suc, Bool, true, false, if◌then◌else◌, List, [], ◌∷◌, ◌++◌, map, length, slice_index, refl, ap, sym, subst, arith, Option, Some, None, Result, Ok, Err}
use Rattle.std.specs.Prelude.{nat_lt}
use Rattle.std.specs.List.{AllZip}
use Rattle.std.specs.Option.{option_map}
use Rattle.std.specs.Int.{Width, w8, w32}
use mir.Val.{bits}
use Rattle.builtin_kinds.specs.declared.EndKind.{EndKind}
use Rattle.syntax_trees.specs.declared.core_type.CoreType.{CoreType}
use Rattle.syntax_trees.specs.declared.types.ValType.{ValType, out-ValType, roll-ValType}
use Rattle.syntax_trees.specs.declared.types.Case.{Case}
use Rattle.syntax_trees.specs.declared.types.Field.{Field}
use Rattle.syntax_trees.specs.declared.types.ValType.TheOpen as F
use Rattle.syntax_trees.specs.declared.types.ValType.TheViews.{out-roll-ValType}
use Rattle.syntax_trees.specs.declared.value.Value.{Value}
use Rattle.syntax_trees.specs.declared.value.Value.TheViews as values
use Rattle.laid_types.specs.Layout.{Laid, laid, there, aligned, tag_size, top_align}
use Rattle.syntax_trees.specs.Flat.{flat, flat_step}
use Rattle.laid_types.specs.Parts.{parts_of, parts_case, case_count, count_case}
use Rattle.comp_graph.specs.Graph.{ends_type}
use Rattle.value_lift.specs.declared.trap.LiftTrap.{LiftTrap}
use Rattle.value_lift.specs.declared.trap.LiftWhy.TheVariants.{Misaligned, Bounds, BadCase}
use Rattle.value_lift.specs.Bytes.{number, bytes_at, is_inside, is_aligned, width_of}
use Rattle.value_lift.specs.Leaves.{trap, part_in, plain_of, text_of, flags_of}
use Rattle.value_lift.specs.Named.{named_in}
use Rattle.value_lift.specs.Room.{words_behind, HasCaseWords}
use Rattle.value_lift.specs.Ledger as ledgers
use Rattle.value_lift.specs.Over as code
use Rattle.value_lift.specs.Over.{low}
use Rattle.value_lift.proofs.Lists.{part_image_over}
use Rattle.value_lift.proofs.OverTypes.{flats_in, flat_is, parts_over}
use Rattle.value_lift.proofs.OverForms.{IsRow, HasCases, IsPlain, row_lift_over, cases_lift_over, plain_lift_over, row_words_over, cases_words_over, plain_words_over}
use Rattle.value_lift.proofs.WordRooms.{row_words_room, words_up, case_words_room}
use Rattle.abi_machine.specs.LiftingOver as machine

-- The same is wanted. An end is told there by its kind, and here by its type.
abbrev pub WhatAgrees : ledgers.What → machine.What → Type 0
WhatAgrees (ledgers.AnOwn resource) b = b ≡ machine.AnOwn resource
WhatAgrees (ledgers.ABorrow resource) b = b ≡ machine.ABorrow resource
WhatAgrees (ledgers.AnEnd type) b = (kind : EndKind) × (element : Option ValType) × (b ≡ machine.AnEnd kind element) × (type ≡ ends_type kind element)

-- Both count, stop and take alike.
pub record AreSame {S J : Type 0} (l : ledgers.Ledger S J) (m : machine.Ledger S J) : Type 0 where
  pub spend : (many place : ℕ) (k : S) → m.spend many place k ≡ l.spend many place k
  pub stop : (fault : LiftTrap) (k : S) → m.stop fault k ≡ l.stop fault k
  pub take : (a : ledgers.What) (b : machine.What) (index place : ℕ) (k : S) → WhatAgrees a b
      → m.take (record { what = b; index = index; place = place }) k ≡ l.take (record { what = a; index = index; place = place }) k

-- These words are the first of those.
abbrev pub IsFront : List ℕ → List ℕ → Type 0
IsFront few all = (n : ℕ) → n < length few → slice_index all n ≡ slice_index few n

low_same : (w : Width) (few all : List ℕ) (n : ℕ) → IsFront few all → n < length few → low w n all ≡ low w n few
low_same w few all n front less = ap (λ (x : ℕ). x % 2 ^ bits w) (front n less)

pub either_same : {A : Type 0} (b : Bool) (x y u v : A) → x ≡ u → y ≡ v → (if b then x else y) ≡ (if b then u else v)
either_same true x y u v p q = p
either_same false x y u v p q = q

-- A type by its outer layer.
abbrev pub Layer : Type 0
Layer = F.ValType-F ValType Case Field

pub flat_rolled : (x : Layer) → flat (roll-ValType x) ≡ flat_step (flats_in x)
flat_rolled x = flat_is (roll-ValType x) ∙ ap (λ (y : Layer). flat_step (flats_in y)) (out-roll-ValType x)

module _ {S J : Type 0} (l : ledgers.Ledger S J) (m : machine.Ledger S J) (same : AreSame l m) where
  abbrev Came : Type 0 → Type 0
  Came A = Result (A × S) J

  after_cases : {A B : Type 0} (q : Came A) (f g : A → S → Came B) → ((x : A) (k : S) → f x k ≡ g x k) → machine.after q f ≡ ledgers.after q g
  after_cases (Ok x) f g h = h x.0 x.1
  after_cases (Err fault) f g h = refl

  after_same : {A B : Type 0} (r q : Came A) (f g : A → S → Came B) → r ≡ q → ((x : A) (k : S) → f x k ≡ g x k) → machine.after r f ≡ ledgers.after q g
  after_same {A} {B} r q f g e h = ap (λ (c : Came A). machine.after c f) e ∙ after_cases q f g h

  made_cases : {A B : Type 0} (f : A → B) (q : Came A) → machine.made f q ≡ ledgers.made f q
  made_cases f (Ok x) = refl
  made_cases f (Err fault) = refl

  made_same : {A B : Type 0} (f : A → B) (r q : Came A) → r ≡ q → machine.made f r ≡ ledgers.made f q
  made_same {A} {B} f r q e = ap (λ (c : Came A). machine.made f c) e ∙ made_cases f q

  counting_cases : {A : Type 0} (q : Result S J) (f g : S → Came A) → ((k : S) → f k ≡ g k) → machine.counting q f ≡ ledgers.counting q g
  counting_cases (Ok k) f g h = h k
  counting_cases (Err fault) f g h = refl

  pub counting_same : {A : Type 0} (r q : Result S J) (f g : S → Came A) → r ≡ q → ((k : S) → f k ≡ g k) → machine.counting r f ≡ ledgers.counting q g
  counting_same r q f g e h = ap (λ (c : Result S J). machine.counting c f) e ∙ counting_cases q f g h

  -- something that is counted and made of what is taken then
  counting_made : {A B : Type 0} (make : A → B) (q : Result S J) (f : S → Came B) (g : S → Came A) → ((k : S) → f k ≡ ledgers.made make (g k))
      → ledgers.counting q f ≡ ledgers.made make (ledgers.counting q g)
  counting_made make (Ok k) f g h = h k
  counting_made make (Err fault) f g h = refl

  pub fails_same : {A : Type 0} (fault : LiftTrap) (k : S) → (let c : Came A = machine.fails m fault k in c) ≡ code.fails l fault k
  fails_same {A} fault k = ap (λ (f : J). (let c : Came A = Err f in c)) (same.stop fault k)

  uncounted_same : {A : Type 0} (k : S) (r : Result A LiftTrap) → machine.uncounted m k r ≡ ledgers.uncounted l k r
  uncounted_same k (Ok x) = refl
  uncounted_same k (Err fault) = fails_same fault k

  string_same : (at count : ℕ) (memory : List ℕ) (place : ℕ) (k : S) → machine.string_of m at count memory place k ≡ code.string_of l at count memory place k
  string_same at count memory place k =
      let text : Result Value LiftTrap = text_of (bytes_at at count memory) place in
      either_same (is_inside at count memory)
      (machine.counting (m.spend count place k) (λ j. machine.uncounted m j text)) (machine.fails m (trap Bounds place) k)
      (ledgers.counting (l.spend count place k) (λ j. ledgers.uncounted l j text)) (code.fails l (trap Bounds place) k)
      (counting_same (m.spend count place k) (l.spend count place k) (λ j. machine.uncounted m j text) (λ j. ledgers.uncounted l j text) (same.spend count place k) (λ j. uncounted_same j text))
      (fails_same (trap Bounds place) k)

  -- The machine's part is that of a type: how its values lie, and what lifts them.
  pub record SameAs (p : machine.Part S J) (t : ValType) : Type 0 where
    pub type_same : p.type ≡ t
    pub laid_same : p.laid ≡ laid t
    pub flat_same : p.flat ≡ flat t
    pub lifts : (memory : List ℕ) (place : ℕ) (k : S) → p.lift memory place k ≡ code.lift l t memory place k
    pub words : (memory few all : List ℕ) (at : ℕ) (k : S) → IsFront few all → at + length (flat t) ≤ length few
        → p.lift_words memory all at k ≡ code.lift_words l t memory few at k

  abbrev pub HeldSame : Option (machine.Part S J) → Option ValType → Type 0
  HeldSame None None = Unit {0}
  HeldSame None (Some t) = ⊥
  HeldSame (Some p) None = ⊥
  HeldSame (Some p) (Some t) = SameAs p t

  elements_from_same : (p : machine.Part S J) (t : ValType) (memory : List ℕ) (before : List Value) (count at : ℕ) (k : S) → SameAs p t
      → machine.elements_from m p memory before count at k ≡ code.elements_from l (code.part l t) memory before count at k
  elements_from_same p t memory before zero at k h = refl
  elements_from_same p t memory before (suc count) at k h =
      after_same (p.lift memory at k) (code.lift l t memory at k)
      (λ v j. machine.elements_from m p memory (before ++ v ∷ []) count (at + p.laid.size) j)
      (λ v j. code.elements_from l (code.part l t) memory (before ++ v ∷ []) count (at + (laid t).size) j) (h.lifts memory at k)
      (λ v j. ap (λ (d : Laid). machine.elements_from m p memory (before ++ v ∷ []) count (at + d.size) j) h.laid_same
      ∙ elements_from_same p t memory (before ++ v ∷ []) count (at + (laid t).size) j h)

  pub elements_same : (p : machine.Part S J) (t : ValType) (at count : ℕ) (memory : List ℕ) (place : ℕ) (k : S) → SameAs p t
      → machine.elements_of m p at count memory place k ≡ code.elements_of l (code.part l t) at count memory place k
  elements_same p t at count memory place k h =
      let outside : Came (List Value) = machine.fails m (trap Bounds place) k in
      let skew : Came (List Value) = machine.fails m (trap Misaligned place) k in
      let here : Came (List Value) = machine.elements_from m p memory [] count at k in
      let code_outside : Came (List Value) = code.fails l (trap Bounds place) k in
      let code_skew : Came (List Value) = code.fails l (trap Misaligned place) k in
      let code_here : Came (List Value) = code.elements_from l (code.part l t) memory [] count at k in
      ap (λ (d : Laid). if is_aligned at d.align then (if is_inside at (count * d.size) memory then here else outside) else skew) h.laid_same
      ∙ either_same (is_aligned at (laid t).align)
      (if is_inside at (count * (laid t).size) memory then here else outside) skew
      (if is_inside at (count * (laid t).size) memory then code_here else code_outside) code_skew
      (either_same (is_inside at (count * (laid t).size) memory) here outside code_here code_outside (elements_from_same p t memory [] count at k h) (fails_same (trap Bounds place) k))
      (fails_same (trap Misaligned place) k)

  -- Records: parts one behind the other.
  abbrev pub RowSame : List (machine.Part S J) → List (Option ValType) → Type 0
  RowSame [] [] = Unit {0}
  RowSame [] (o ∷ os) = ⊥
  RowSame (p ∷ ps) [] = ⊥
  RowSame (p ∷ ps) (o ∷ os) = HeldSame (Some p) o × RowSame ps os

  fields_same : (memory : List ℕ) (place : ℕ) (before : List Value) (end : ℕ) (ps : List (machine.Part S J)) (os : List (Option ValType)) (k : S) → RowSame ps os
      → machine.fields_from m memory place before end ps k ≡ code.fields_from l memory place before end (code.parts l os) k
  fields_same memory place before end [] [] k h = refl
  fields_same memory place before end [] (o ∷ os) k h = absurd h
  fields_same memory place before end (p ∷ ps) [] k h = absurd h
  fields_same memory place before end (p ∷ ps) (None ∷ os) k h = absurd h.0
  fields_same memory place before end (p ∷ ps) (Some t ∷ os) k h =
      ap (λ (d : Laid). machine.after (p.lift memory (place + aligned end d.align) k) (λ v j. machine.fields_from m memory place (before ++ v ∷ []) (aligned end d.align + d.size) ps j)) h.0.laid_same
      ∙ after_same (p.lift memory (place + aligned end (laid t).align) k) (code.lift l t memory (place + aligned end (laid t).align) k)
      (λ v j. machine.fields_from m memory place (before ++ v ∷ []) (aligned end (laid t).align + (laid t).size) ps j)
      (λ v j. code.fields_from l memory place (before ++ v ∷ []) (aligned end (laid t).align + (laid t).size) (code.parts l os) j)
      (h.0.lifts memory (place + aligned end (laid t).align) k)
      (λ v j. fields_same memory place (before ++ v ∷ []) (aligned end (laid t).align + (laid t).size) ps os j h.1)

  word_fields_same : (memory few all : List ℕ) (before : List Value) (at : ℕ) (ps : List (machine.Part S J)) (os : List (Option ValType)) (k : S) → IsFront few all
      → words_behind at os ≤ length few → RowSame ps os
      → machine.word_fields_from m memory all before at ps k ≡ code.word_fields_from l memory few before at (code.parts l os) k
  word_fields_same memory few all before at [] [] k front room h = refl
  word_fields_same memory few all before at [] (o ∷ os) k front room h = absurd h
  word_fields_same memory few all before at (p ∷ ps) [] k front room h = absurd h
  word_fields_same memory few all before at (p ∷ ps) (None ∷ os) k front room h = absurd h.0
  word_fields_same memory few all before at (p ∷ ps) (Some t ∷ os) k front room h =
      let up : at + length (flat t) ≤ words_behind (at + length (flat t)) os = words_up os (at + length (flat t)) in
      let here : at + length (flat t) ≤ length few = omega (arith, up, room) in
      ap (λ (c : List CoreType). machine.after (p.lift_words memory all at k) (λ v j. machine.word_fields_from m memory all (before ++ v ∷ []) (at + length c) ps j)) h.0.flat_same
      ∙ after_same (p.lift_words memory all at k) (code.lift_words l t memory few at k)
      (λ v j. machine.word_fields_from m memory all (before ++ v ∷ []) (at + length (flat t)) ps j)
      (λ v j. code.word_fields_from l memory few (before ++ v ∷ []) (at + length (flat t)) (code.parts l os) j)
      (h.0.words memory few all at k front here)
      (λ v j. word_fields_same memory few all (before ++ v ∷ []) (at + length (flat t)) ps os j front room h.1)

  -- Cases, each with a payload or none.
  abbrev pub AllHeld : List (Option (machine.Part S J)) → List (Option ValType) → Type 0
  AllHeld ps os = AllZip HeldSame ps os

  held_at : (ps : List (Option (machine.Part S J))) (os : List (Option ValType)) (n : ℕ) → AllHeld ps os → HeldSame (part_in ps n) (part_in os n)
  held_at [] [] n h = tt
  held_at [] (o ∷ os) n h = absurd h
  held_at (p ∷ ps) [] n h = absurd h
  held_at (p ∷ ps) (o ∷ os) zero h = h.0
  held_at (p ∷ ps) (o ∷ os) (suc n) h = held_at ps os n h.1

  laid_held : (p : Option (machine.Part S J)) (o : Option ValType) → HeldSame p o → machine.laid_of p ≡ code.laid_of (option_map (code.part l) o)
  laid_held None None h = refl
  laid_held None (Some t) h = absurd h
  laid_held (Some p) None h = absurd h
  laid_held (Some p) (Some t) h = ap (λ (d : Laid). Some d) h.laid_same

  laids_same : (ps : List (Option (machine.Part S J))) (os : List (Option ValType)) → AllHeld ps os → map machine.laid_of ps ≡ map code.laid_of (code.parts l os)
  laids_same [] [] h = refl
  laids_same [] (o ∷ os) h = absurd h
  laids_same (p ∷ ps) [] h = absurd h
  laids_same (p ∷ ps) (o ∷ os) h =
      ap (λ (d : Option Laid). d ∷ map machine.laid_of ps) (laid_held p o h.0)
      ∙ ap (λ (ds : List (Option Laid)). code.laid_of (option_map (code.part l) o) ∷ ds) (laids_same ps os h.1)

  behind_same : (count : ℕ) (ps : List (Option (machine.Part S J))) (os : List (Option ValType)) → AllHeld ps os → machine.behind_tag count ps ≡ code.behind_tag count (code.parts l os)
  behind_same count ps os h = ap (λ (ds : List (Option Laid)). aligned (tag_size count) (top_align (there ds))) (laids_same ps os h)

  payload_held : (p : Option (machine.Part S J)) (o : Option ValType) (memory : List ℕ) (place : ℕ) (k : S) → HeldSame p o
      → machine.payload_of m p memory place k ≡ code.payload_of l (option_map (code.part l) o) memory place k
  payload_held None None memory place k h = refl
  payload_held None (Some t) memory place k h = absurd h
  payload_held (Some p) None memory place k h = absurd h
  payload_held (Some p) (Some t) memory place k h = made_same (λ (v : Value). Some v) (p.lift memory place k) (code.lift l t memory place k) (h.lifts memory place k)

  word_payload_held : (p : Option (machine.Part S J)) (o : Option ValType) (memory few all : List ℕ) (at : ℕ) (k : S) → IsFront few all
      → ((t : ValType) → o ≡ Some t → at + length (flat t) ≤ length few) → HeldSame p o
      → machine.word_payload_of m p memory all at k ≡ code.word_payload_of l (option_map (code.part l) o) memory few at k
  word_payload_held None None memory few all at k front room h = refl
  word_payload_held None (Some t) memory few all at k front room h = absurd h
  word_payload_held (Some p) None memory few all at k front room h = absurd h
  word_payload_held (Some p) (Some t) memory few all at k front room h =
      made_same (λ (v : Value). Some v) (p.lift_words memory all at k) (code.lift_words l t memory few at k) (h.words memory few all at k front (room t refl))

  chosen_same : (n count place : ℕ) (k : S) (r q : Came (Option Value)) → r ≡ q → machine.chosen m n count place k r ≡ code.chosen l n count place k q
  chosen_same n count place k r q e =
      either_same (nat_lt n count) (machine.made (values.Variant n) r) (machine.fails m (trap BadCase place) k) (ledgers.made (values.Variant n) q) (code.fails l (trap BadCase place) k)
      (made_same (values.Variant n) r q e) (fails_same (trap BadCase place) k)

  case_same : (count : ℕ) (ps : List (Option (machine.Part S J))) (os : List (Option ValType)) (memory : List ℕ) (place : ℕ) (k : S) → AllHeld ps os
      → machine.case_of m count ps memory place k ≡ code.case_of l count (code.parts l os) memory place k
  case_same count ps os memory place k h =
      let n : ℕ = number (width_of (tag_size count)) place memory in
      let at : ℕ = place + code.behind_tag count (code.parts l os) in
      chosen_same n count place k (machine.payload_of m (part_in ps n) memory (place + machine.behind_tag count ps) k) (code.payload_of l (part_in (code.parts l os) n) memory at k)
      (ap (λ (b : ℕ). machine.payload_of m (part_in ps n) memory (place + b) k) (behind_same count ps os h)
      ∙ payload_held (part_in ps n) (part_in os n) memory at k (held_at ps os n h)
      ∙ ap (λ (p : Option (code.Part S J)). code.payload_of l p memory at k) (sym (part_image_over l os n)))

  word_case_same : (count : ℕ) (ps : List (Option (machine.Part S J))) (os : List (Option ValType)) (memory few all : List ℕ) (at : ℕ) (k : S) → IsFront few all → at < length few
      → ((n : ℕ) (t : ValType) → part_in os n ≡ Some t → at + 1 + length (flat t) ≤ length few) → AllHeld ps os
      → machine.word_case_of m count ps memory all at k ≡ code.word_case_of l count (code.parts l os) memory few at k
  word_case_same count ps os memory few all at k front first room h =
      let n : ℕ = low w32 at few in
      ap (λ (c : ℕ). machine.chosen m c count at k (machine.word_payload_of m (part_in ps c) memory all (at + 1) k)) (low_same w32 few all at front first)
      ∙ chosen_same n count at k (machine.word_payload_of m (part_in ps n) memory all (at + 1) k) (code.word_payload_of l (part_in (code.parts l os) n) memory few (at + 1) k)
      (word_payload_held (part_in ps n) (part_in os n) memory few all (at + 1) k front (λ t is. room n t is) (held_at ps os n h)
      ∙ ap (λ (p : Option (code.Part S J)). code.word_payload_of l p memory few (at + 1) k) (sym (part_image_over l os n)))

  -- Types by their outer layer, of values that are counted already.
  abbrev pub Parts : Type 0
  Parts = F.ValType-F (machine.Part S J) (machine.CasePart S J) (machine.FieldPart S J)

  pub record SameLayer (y : Parts) (x : Layer) : Type 0 where
    pub lifts : (memory : List ℕ) (place : ℕ) (k : S) → machine.lift_case m y memory place k ≡ code.lift_case l (code.layer_of l (roll-ValType x)) memory place k
    pub words : (memory few all : List ℕ) (at : ℕ) (k : S) → IsFront few all → at + length (flat (roll-ValType x)) ≤ length few
        → machine.lift_word_case m y memory all at k ≡ code.lift_word_case l (code.layer_of l (roll-ValType x)) memory few at k

  -- what the code's layer is
  layer_rolled : (x : Layer) → code.layer_of l (roll-ValType x) ≡ parts_over l x
  layer_rolled x = ap (λ (z : Layer). parts_over l z) (out-roll-ValType x)

  abbrev CodeParts : Type 0
  CodeParts = F.ValType-F (code.Part S J) (Option (code.Part S J)) (code.Part S J)

  in_layer : (x : Layer) (memory : List ℕ) (place : ℕ) (k : S) → code.lift_case l (parts_over l x) memory place k ≡ code.lift_case l (code.layer_of l (roll-ValType x)) memory place k
  in_layer x memory place k = ap (λ (z : CodeParts). code.lift_case l z memory place k) (sym (layer_rolled x))

  in_word_layer : (x : Layer) (memory words : List ℕ) (at : ℕ) (k : S)
      → code.lift_word_case l (parts_over l x) memory words at k ≡ code.lift_word_case l (code.layer_of l (roll-ValType x)) memory words at k
  in_word_layer x memory words at k = ap (λ (z : CodeParts). code.lift_word_case l z memory words at k) (sym (layer_rolled x))

  pub row_layer : (y : Parts) (x : Layer) (ps : List (machine.Part S J)) → IsRow x → RowSame ps (parts_case x)
      → ((memory : List ℕ) (place : ℕ) (k : S) → machine.lift_case m y memory place k ≡ machine.made values.Record (machine.fields_from m memory place [] 0 ps k))
      → ((memory words : List ℕ) (at : ℕ) (k : S) → machine.lift_word_case m y memory words at k ≡ machine.made values.Record (machine.word_fields_from m memory words [] at ps k))
      → SameLayer y x
  row_layer y x ps kind h lift lift_words =
      let t : ValType = roll-ValType x in
      let row : IsRow (out-ValType t) = subst IsRow (sym (out-roll-ValType x)) kind in
      let parts : RowSame ps (parts_of t) = subst (λ (z : Layer). RowSame ps (parts_case z)) (sym (out-roll-ValType x)) h in
      record {
        lifts = λ memory place k.
            lift memory place k
            ∙ made_same values.Record (machine.fields_from m memory place [] 0 ps k) (code.fields_from l memory place [] 0 (code.parts l (parts_of t)) k)
            (fields_same memory place [] 0 ps (parts_of t) k parts)
            ∙ sym (row_lift_over l memory place k t row);
        words = λ memory few all at k front room.
            (let end : words_behind at (parts_of t) ≡ at + length (flat t) = row_words_room t at row in
            lift_words memory all at k
            ∙ made_same values.Record (machine.word_fields_from m memory all [] at ps k) (code.word_fields_from l memory few [] at (code.parts l (parts_of t)) k)
            (word_fields_same memory few all [] at ps (parts_of t) k front (omega (arith, end, room)) parts)
            ∙ sym (row_words_over l memory few at k t row));
      }

  pub cases_layer : (y : Parts) (x : Layer) (count : ℕ) (ps : List (Option (machine.Part S J))) → HasCases x → count ≡ count_case x → AllHeld ps (parts_case x)
      → ((memory : List ℕ) (place : ℕ) (k : S) → machine.lift_case m y memory place k ≡ machine.case_of m count ps memory place k)
      → ((memory words : List ℕ) (at : ℕ) (k : S) → machine.lift_word_case m y memory words at k ≡ machine.word_case_of m count ps memory words at k)
      → SameLayer y x
  cases_layer y x count ps kind many h lift lift_words =
      let t : ValType = roll-ValType x in
      let of : HasCases (out-ValType t) = subst HasCases (sym (out-roll-ValType x)) kind in
      let counted : count ≡ case_count t = many ∙ ap (λ (z : Layer). count_case z) (sym (out-roll-ValType x)) in
      let parts : AllHeld ps (parts_of t) = subst (λ (z : Layer). AllHeld ps (parts_case z)) (sym (out-roll-ValType x)) h in
      record {
        lifts = λ memory place k.
            lift memory place k
            ∙ ap (λ (n : ℕ). machine.case_of m n ps memory place k) counted
            ∙ case_same (case_count t) ps (parts_of t) memory place k parts
            ∙ sym (cases_lift_over l memory place k t of);
        words = λ memory few all at k front room.
            (let rooms : HasCaseWords t at few = case_words_room t at few of room in
            let tag : at + 1 ≤ length few = rooms.tag in
            lift_words memory all at k
            ∙ ap (λ (n : ℕ). machine.word_case_of m n ps memory all at k) counted
            ∙ word_case_same (case_count t) ps (parts_of t) memory few all at k front (omega (arith, tag)) (λ n u is. rooms.payload n u is) parts
            ∙ sym (cases_words_over l memory few at k t of));
      }

  -- one core value stands for a value of the type
  one_word : (x : Layer) → length (flat_step (flats_in x)) ≡ 1 → (few : List ℕ) (at : ℕ) → at + length (flat (roll-ValType x)) ≤ length few → at < length few
  one_word x one few at room =
      let count : length (flat (roll-ValType x)) ≡ length (flat_step (flats_in x)) = ap (λ (c : List CoreType). length c) (flat_rolled x) in
      omega (arith, count, one, room)

  two_words : (x : Layer) → length (flat_step (flats_in x)) ≡ 2 → (few : List ℕ) (at : ℕ) → at + length (flat (roll-ValType x)) ≤ length few → at + 1 < length few
  two_words x two few at room =
      let count : length (flat (roll-ValType x)) ≡ length (flat_step (flats_in x)) = ap (λ (c : List CoreType). length c) (flat_rolled x) in
      omega (arith, count, two, room)

  -- values without parts
  pub plain_layer : (y : Parts) (x : Layer) → IsPlain x → named_in x ≡ None → length (flat_step (flats_in x)) ≡ 1
      → ((memory : List ℕ) (place : ℕ) (k : S) → machine.lift_case m y memory place k ≡ machine.uncounted m k (plain_of x w8 (λ w. number w place memory) place))
      → ((memory words : List ℕ) (at : ℕ) (k : S) → machine.lift_word_case m y memory words at k ≡ machine.uncounted m k (plain_of x w32 (λ w. low w at words) at))
      → SameLayer y x
  plain_layer y x kind none one lift lift_words =
      let t : ValType = roll-ValType x in
      let of : IsPlain (out-ValType t) = subst IsPlain (sym (out-roll-ValType x)) kind in
      let unnamed : named_in (out-ValType t) ≡ None = ap (λ (z : Layer). named_in z) (out-roll-ValType x) ∙ none in
      record {
        lifts = λ memory place k.
            lift memory place k
            ∙ uncounted_same k (plain_of x w8 (λ w. number w place memory) place)
            ∙ ap (λ (z : Layer). ledgers.uncounted l k (plain_of z w8 (λ w. number w place memory) place)) (sym (out-roll-ValType x))
            ∙ sym (plain_lift_over l memory place k t of unnamed);
        words = λ memory few all at k front room.
            lift_words memory all at k
            ∙ uncounted_same k (plain_of x w32 (λ w. low w at all) at)
            ∙ ap (λ (n : Width → ℕ). ledgers.uncounted l k (plain_of x w32 n at)) (fun_ext (λ (w : Width). low_same w few all at front (one_word x one few at room)))
            ∙ ap (λ (z : Layer). ledgers.uncounted l k (plain_of z w32 (λ w. low w at few) at)) (sym (out-roll-ValType x))
            ∙ sym (plain_words_over l memory few at k t of unnamed);
      }

  -- values that are told by an index
  taken_same : (a : ledgers.What) (b : machine.What) (make : ℕ → Value) (index place : ℕ) (k : S) → WhatAgrees a b
      → machine.taken m b make index place k ≡ code.taken l a make index place k
  taken_same a b make index place k w =
      made_same make (m.take (record { what = b; index = index; place = place }) k) (l.take (record { what = a; index = index; place = place }) k) (same.take a b index place k w)

  pub named_layer : (y : Parts) (x : Layer) (a : ledgers.What) (b : machine.What) (make : ℕ → Value) → WhatAgrees a b → length (flat_step (flats_in x)) ≡ 1
      → ((memory : List ℕ) (place : ℕ) (k : S) → machine.lift_case m y memory place k ≡ machine.taken m b make (number w32 place memory) place k)
      → ((memory words : List ℕ) (at : ℕ) (k : S) → machine.lift_word_case m y memory words at k ≡ machine.taken m b make (low w32 at words) at k)
      → ((memory : List ℕ) (place : ℕ) (k : S) → code.taken l a make (number w32 place memory) place k ≡ code.lift_case l (parts_over l x) memory place k)
      → ((memory words : List ℕ) (at : ℕ) (k : S) → code.taken l a make (low w32 at words) at k ≡ code.lift_word_case l (parts_over l x) memory words at k)
      → SameLayer y x
  named_layer y x a b make w one lift lift_words code_lift code_words = record {
    lifts = λ memory place k.
        lift memory place k ∙ taken_same a b make (number w32 place memory) place k w ∙ code_lift memory place k ∙ in_layer x memory place k;
    words = λ memory few all at k front room.
        lift_words memory all at k
        ∙ ap (λ (n : ℕ). machine.taken m b make n at k) (low_same w32 few all at front (one_word x one few at room))
        ∙ taken_same a b make (low w32 at few) at k w ∙ code_words memory few at k ∙ in_word_layer x memory few at k;
  }

  -- strings, lists and flags
  pub string_layer : SameLayer F.String F.String
  string_layer = record {
    lifts = λ memory place k. string_same (number w32 place memory) (number w32 (place + 4) memory) memory place k ∙ in_layer F.String memory place k;
    words = λ memory few all at k front room.
        (let second : at + 1 < length few = two_words F.String refl few at room in
        ap (λ (n : ℕ). machine.string_of m n (low w32 (at + 1) all) memory at k) (low_same w32 few all at front (omega (arith, second)))
        ∙ ap (λ (n : ℕ). machine.string_of m (low w32 at few) n memory at k) (low_same w32 few all (at + 1) front second)
        ∙ string_same (low w32 at few) (low w32 (at + 1) few) memory at k ∙ in_word_layer F.String memory few at k);
  }

  pub list_layer : (p : machine.Part S J) (t : ValType) → SameAs p t → SameLayer (F.List p) (F.List t)
  list_layer p t h = record {
    lifts = λ memory place k.
        made_same values.List (machine.elements_of m p (number w32 place memory) (number w32 (place + 4) memory) memory place k)
        (code.elements_of l (code.part l t) (number w32 place memory) (number w32 (place + 4) memory) memory place k)
        (elements_same p t (number w32 place memory) (number w32 (place + 4) memory) memory place k h)
        ∙ in_layer (F.List t) memory place k;
    words = λ memory few all at k front room.
        (let second : at + 1 < length few = two_words (F.List t) refl few at room in
        ap (λ (n : ℕ). machine.made values.List (machine.elements_of m p n (low w32 (at + 1) all) memory at k)) (low_same w32 few all at front (omega (arith, second)))
        ∙ ap (λ (n : ℕ). machine.made values.List (machine.elements_of m p (low w32 at few) n memory at k)) (low_same w32 few all (at + 1) front second)
        ∙ made_same values.List (machine.elements_of m p (low w32 at few) (low w32 (at + 1) few) memory at k)
        (code.elements_of l (code.part l t) (low w32 at few) (low w32 (at + 1) few) memory at k) (elements_same p t (low w32 at few) (low w32 (at + 1) few) memory at k h)
        ∙ in_word_layer (F.List t) memory few at k);
  }

  pub flags_layer : (labels : List (List ℕ)) → SameLayer (F.Flags labels) (F.Flags labels)
  flags_layer labels = record {
    lifts = λ memory place k. in_layer (F.Flags labels) memory place k;
    words = λ memory few all at k front room.
        ap (λ (n : ℕ). (let c : Came Value = Ok (flags_of labels n, k) in c)) (low_same w32 few all at front (one_word (F.Flags labels) refl few at room))
        ∙ in_word_layer (F.Flags labels) memory few at k;
  }
