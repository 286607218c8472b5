-- What is stored stands, by the kind of the type, where that is so of its parts.
use Rattle.std.proofs.Common.{◌≡◌, ◌∙◌, ◌≤◌, ◌<◌, ◌+◌, ◌-◌, ◌*◌, ◌%◌, ◌^◌, ℕ, ℤ, Bool, true, false, List, map, length, replicate, Option, Some, None, ap, sym, subst, arith, mod-eq_of_lt}
use Rattle.std.proofs.lemmas.List.{length-map, length-replicate}
use Rattle.std.specs.Int.{Width, w8, w16, w32, w64, byte_len, to_le_bytes, cast_signed, cast_unsigned}
use Rattle.std.specs.Prelude.{IsTrue, FitsSigned}
use Rattle.std.specs.Str.{IsUtf8}
use Rattle.syntax_trees.specs.declared.types.ValType.{ValType, out-ValType}
use Rattle.syntax_trees.specs.declared.types.Case.{Case}
use Rattle.syntax_trees.specs.declared.types.Field.{Field}
use Rattle.syntax_trees.specs.declared.types.ValType.TheOpen as F
use Rattle.syntax_trees.specs.declared.types.ValType.TheViews as types
use Rattle.syntax_trees.specs.declared.types.ValType.TheVariants as leaves
use Rattle.syntax_trees.specs.declared.value.Value.{Value, roll-Value}
use Rattle.syntax_trees.specs.declared.value.Value.TheOpen as V
use Rattle.syntax_trees.specs.declared.value.Value.TheViews as values
use Rattle.syntax_trees.specs.declared.value.Value.TheVariants as plain
use Rattle.syntax_trees.specs.declared.value.Value.TheFolds.{fold-roll-Value, map-Value}
use Rattle.laid_types.specs.Layout.{Laid, laid, laid_step, tag_size, bits_size, tagged}
use Rattle.laid_types.specs.Parts.{parts_of, parts_case, case_count, count_case, part_at, payload_place, layouts}
use Rattle.value_lower.specs.Plan.{Plan, Put}
use Rattle.value_lower.specs.Lowering.{Lowered, lowered, lower_step, store, store_case, asked, list_in, pointed, elements_from, fields_from, payload_at, case_from, number_bytes, bits_of, flags_number}
use Rattle.value_lift.specs.Bytes.{number, bytes_at, width_of, is_scalar}
use Rattle.value_lift.specs.Pieces.{part_in}
use Rattle.value_lift.specs.Room.{end_behind}
use Rattle.value_lift.specs.Standing.{Stands, AreBits, AreElements, AreFields, IsPayload, tag, false_stands, true_stands, s8_stands, u8_stands, s16_stands, u16_stands, s32_stands, u32_stands, s64_stands, u64_stands, char_stands, own_stands, borrow_stands, stream_stands, future_stands, string_stands, list_stands, flags_stand}
use Rattle.value_lift.proofs.Equations.{layouts_in, laid_is}
use Rattle.value_lift.proofs.Forms.{IsRow, HasCases}
use Rattle.value_lift.proofs.Rooms.{row_room, tagged_is, case_room, tag_bytes, flag_bytes}
use Rattle.value_lift.proofs.Views.{out_bool, out_s8, out_u8, out_s16, out_u16, out_s32, out_u32, out_s64, out_u64, out_char, out_own, out_borrow, out_stream, out_future, out_string, out_flags, out_list}
use Rattle.lowering_laws.proofs.Going.{Goes, goes_put, goes_more, goes_on, goes_as}
use Rattle.lowering_laws.proofs.Asking.{Placed, goes_asked}
use Rattle.lowering_laws.proofs.Numbers.{IsRead, read_8, read_16, read_32, read_64, case_below, flags_below, are_bits, unsigned_below, signed_back, goes_number, goes_short, goes_pointed}

-- A value of this type that is stored stands.
abbrev pub Sound : ValType → Value → Type 0
Sound t v = (place : ℕ) → Goes (store t v place) place (laid t).size (λ m. Stands m place t v)

pub stored_by : (v : Value) (y : V.Value-F Value) (t : ValType) (place : ℕ) (k : Plan) → roll-Value y ≡ v → store t v place k ≡ store_case (map-Value Value Lowered lowered y) t place k
stored_by v y t place k e = ap (λ (l : Lowered). l.store t place k) (ap lowered (sym e) ∙ fold-roll-Value Lowered lower_step y)

size_of : (t : ValType) (y : F.ValType-F ValType Case Field) → out-ValType t ≡ y → (laid t).size ≡ (laid_step (layouts_in y)).size
size_of t y e = ap (λ (l : Laid). l.size) (laid_is t ∙ ap (λ (y : F.ValType-F ValType Case Field). laid_step (layouts_in y)) e)

-- Values without parts.
leaf : (t : ValType) (v : Value) (w : Width) (n : ℕ) → ((place : ℕ) (k : Plan) → store t v place k ≡ Put place (to_le_bytes w n) k) → IsRead w n → (laid t).size ≡ byte_len w
    → ((place : ℕ) (m : List ℕ) → number w place m ≡ n → Stands m place t v) → Sound t v
leaf t v w n e read size stands place =
    goes_more (store t v place) place (byte_len w) place (laid t).size (λ m. number w place m ≡ n) (λ m. Stands m place t v) (omega arith) (omega (arith, size))
    (λ m inside h. stands place m h)
    (goes_as (store t v place) (λ k. Put place (to_le_bytes w n) k) place (byte_len w) (λ m. number w place m ≡ n) (e place) (goes_number w n place read))

pub bool_sound : (b : Bool) → Sound leaves.Bool (plain.Bool b)
bool_sound true =
    leaf leaves.Bool (plain.Bool true) w8 1 (λ place k. stored_by (plain.Bool true) (V.Bool true) leaves.Bool place k (plain.rolls-Bool true)) (read_8 1 (omega arith)) (size_of leaves.Bool F.Bool out_bool)
    (λ place m h. true_stands place (λ e. (let n : ⊥ = omega (arith, h, e) in n)))
bool_sound false =
    leaf leaves.Bool (plain.Bool false) w8 0 (λ place k. stored_by (plain.Bool false) (V.Bool false) leaves.Bool place k (plain.rolls-Bool false)) (read_8 0 (omega arith)) (size_of leaves.Bool F.Bool out_bool)
    (λ place m h. false_stands place h)

pub s8_sound : (n : ℤ) → FitsSigned w8 n → Sound leaves.S8 (plain.S8 n)
s8_sound n f =
    leaf leaves.S8 (plain.S8 n) w8 (cast_unsigned w8 n) (λ place k. stored_by (plain.S8 n) (V.S8 n) leaves.S8 place k (plain.rolls-S8 n)) (read_8 (cast_unsigned w8 n) (unsigned_below w8 n f)) (size_of leaves.S8 F.S8 out_s8)
    (λ place m h. subst (λ (i : ℤ). Stands m place leaves.S8 (plain.S8 i)) (ap (cast_signed w8) h ∙ signed_back w8 n f) (s8_stands place))

pub u8_sound : (n : ℕ) → n < 2 ^ 8 → Sound leaves.U8 (plain.U8 n)
u8_sound n f =
    leaf leaves.U8 (plain.U8 n) w8 n (λ place k. stored_by (plain.U8 n) (V.U8 n) leaves.U8 place k (plain.rolls-U8 n)) (read_8 n f) (size_of leaves.U8 F.U8 out_u8)
    (λ place m h. subst (λ (i : ℕ). Stands m place leaves.U8 (plain.U8 i)) h (u8_stands place))

pub s16_sound : (n : ℤ) → FitsSigned w16 n → Sound leaves.S16 (plain.S16 n)
s16_sound n f =
    leaf leaves.S16 (plain.S16 n) w16 (cast_unsigned w16 n) (λ place k. stored_by (plain.S16 n) (V.S16 n) leaves.S16 place k (plain.rolls-S16 n)) (read_16 (cast_unsigned w16 n) (unsigned_below w16 n f)) (size_of leaves.S16 F.S16 out_s16)
    (λ place m h. subst (λ (i : ℤ). Stands m place leaves.S16 (plain.S16 i)) (ap (cast_signed w16) h ∙ signed_back w16 n f) (s16_stands place))

pub u16_sound : (n : ℕ) → n < 2 ^ 16 → Sound leaves.U16 (plain.U16 n)
u16_sound n f =
    leaf leaves.U16 (plain.U16 n) w16 n (λ place k. stored_by (plain.U16 n) (V.U16 n) leaves.U16 place k (plain.rolls-U16 n)) (read_16 n f) (size_of leaves.U16 F.U16 out_u16)
    (λ place m h. subst (λ (i : ℕ). Stands m place leaves.U16 (plain.U16 i)) h (u16_stands place))

pub s32_sound : (n : ℤ) → FitsSigned w32 n → Sound leaves.S32 (plain.S32 n)
s32_sound n f =
    leaf leaves.S32 (plain.S32 n) w32 (cast_unsigned w32 n) (λ place k. stored_by (plain.S32 n) (V.S32 n) leaves.S32 place k (plain.rolls-S32 n)) (read_32 (cast_unsigned w32 n) (unsigned_below w32 n f)) (size_of leaves.S32 F.S32 out_s32)
    (λ place m h. subst (λ (i : ℤ). Stands m place leaves.S32 (plain.S32 i)) (ap (cast_signed w32) h ∙ signed_back w32 n f) (s32_stands place))

pub u32_sound : (n : ℕ) → n < 2 ^ 32 → Sound leaves.U32 (plain.U32 n)
u32_sound n f =
    leaf leaves.U32 (plain.U32 n) w32 n (λ place k. stored_by (plain.U32 n) (V.U32 n) leaves.U32 place k (plain.rolls-U32 n)) (read_32 n f) (size_of leaves.U32 F.U32 out_u32)
    (λ place m h. subst (λ (i : ℕ). Stands m place leaves.U32 (plain.U32 i)) h (u32_stands place))

pub s64_sound : (n : ℤ) → FitsSigned w64 n → Sound leaves.S64 (plain.S64 n)
s64_sound n f =
    leaf leaves.S64 (plain.S64 n) w64 (cast_unsigned w64 n) (λ place k. stored_by (plain.S64 n) (V.S64 n) leaves.S64 place k (plain.rolls-S64 n)) (read_64 (cast_unsigned w64 n) (unsigned_below w64 n f)) (size_of leaves.S64 F.S64 out_s64)
    (λ place m h. subst (λ (i : ℤ). Stands m place leaves.S64 (plain.S64 i)) (ap (cast_signed w64) h ∙ signed_back w64 n f) (s64_stands place))

pub u64_sound : (n : ℕ) → n < 2 ^ 64 → Sound leaves.U64 (plain.U64 n)
u64_sound n f =
    leaf leaves.U64 (plain.U64 n) w64 n (λ place k. stored_by (plain.U64 n) (V.U64 n) leaves.U64 place k (plain.rolls-U64 n)) (read_64 n f) (size_of leaves.U64 F.U64 out_u64)
    (λ place m h. subst (λ (i : ℕ). Stands m place leaves.U64 (plain.U64 i)) h (u64_stands place))

pub char_sound : (c : ℕ) → c < 2 ^ 32 → IsTrue (is_scalar c) → Sound leaves.Char (plain.Char c)
char_sound c low f =
    leaf leaves.Char (plain.Char c) w32 c (λ place k. stored_by (plain.Char c) (V.Char c) leaves.Char place k (plain.rolls-Char c)) (read_32 c low) (size_of leaves.Char F.Char out_char)
    (λ place m h. subst (λ (i : ℕ). Stands m place leaves.Char (plain.Char i)) h (char_stands place (subst (λ (i : ℕ). IsTrue (is_scalar i)) (sym h) f)))

-- Handles and ends, which are told by a number.
pub own_sound : (resource n : ℕ) → n < 2 ^ 32 → Sound (leaves.Own resource) (plain.Own (record { resource = resource; rep = n }))
own_sound resource n f =
    leaf (leaves.Own resource) (plain.Own (record { resource = resource; rep = n })) w32 n (λ place k. stored_by (plain.Own (record { resource = resource; rep = n })) (V.Own (record { resource = resource; rep = n })) (leaves.Own resource) place k (plain.rolls-Own (record { resource = resource; rep = n }))) (read_32 n f) (size_of (leaves.Own resource) (F.Own resource) (out_own resource))
    (λ place m h. subst (λ (i : ℕ). Stands m place (leaves.Own resource) (plain.Own (record { resource = resource; rep = i }))) h (own_stands place resource))

pub borrow_sound : (resource n : ℕ) → n < 2 ^ 32 → Sound (leaves.Borrow resource) (plain.Borrow (record { resource = resource; rep = n }))
borrow_sound resource n f =
    leaf (leaves.Borrow resource) (plain.Borrow (record { resource = resource; rep = n })) w32 n (λ place k. stored_by (plain.Borrow (record { resource = resource; rep = n })) (V.Borrow (record { resource = resource; rep = n })) (leaves.Borrow resource) place k (plain.rolls-Borrow (record { resource = resource; rep = n }))) (read_32 n f) (size_of (leaves.Borrow resource) (F.Borrow resource) (out_borrow resource))
    (λ place m h. subst (λ (i : ℕ). Stands m place (leaves.Borrow resource) (plain.Borrow (record { resource = resource; rep = i }))) h (borrow_stands place resource))

pub stream_sound : (element : Option ValType) (n : ℕ) → n < 2 ^ 32 → Sound (types.Stream element) (plain.Stream n)
stream_sound element n f =
    leaf (types.Stream element) (plain.Stream n) w32 n (λ place k. stored_by (plain.Stream n) (V.Stream n) (types.Stream element) place k (plain.rolls-Stream n)) (read_32 n f) (size_of (types.Stream element) (F.Stream element) (out_stream element))
    (λ place m h. subst (λ (i : ℕ). Stands m place (types.Stream element) (plain.Stream i)) h (stream_stands place element))

pub future_sound : (element : Option ValType) (n : ℕ) → n < 2 ^ 32 → Sound (types.Future element) (plain.Future n)
future_sound element n f =
    leaf (types.Future element) (plain.Future n) w32 n (λ place k. stored_by (plain.Future n) (V.Future n) (types.Future element) place k (plain.rolls-Future n)) (read_32 n f) (size_of (types.Future element) (F.Future element) (out_future element))
    (λ place m h. subst (λ (i : ℕ). Stands m place (types.Future element) (plain.Future i)) h (future_stands place element))

-- Flags.
pub flags_sound : (labels : List (List ℕ)) (flags : List Bool) → length flags ≡ length labels → bits_of flags < 2 ^ 32 → Sound (leaves.Flags labels) (plain.Flags flags)
flags_sound labels flags many low place =
    let count : ℕ = length labels in
    let w : Width = width_of (bits_size count) in
    let n : ℕ = bits_of flags in
    let small : n % 2 ^ 32 ≡ n = mod-eq_of_lt low in
    let t : ValType = leaves.Flags labels in
    let v : Value = plain.Flags flags in
    let size : (laid t).size ≡ byte_len w = size_of t (F.Flags labels) (out_flags labels) ∙ sym (flag_bytes count) in
    let e : (k : Plan) → store t v place k ≡ Put place (number_bytes (bits_size count) n) k =
    λ k.
    stored_by v (V.Flags flags) t place k (plain.rolls-Flags flags)
    ∙ ap (λ (c : ℕ). Put place (number_bytes (bits_size c) (flags_number flags)) k) many
    ∙ ap (λ (i : ℕ). Put place (number_bytes (bits_size count) i) k) small in
    goes_more (store t v place) place (byte_len w) place (laid t).size (λ m. number w place m ≡ n) (λ m. Stands m place t v) (omega arith) (omega (arith, size))
    (λ m inside h. flags_stand place labels flags (subst (λ (i : ℕ). AreBits labels i flags) (sym h) (are_bits labels flags many)))
    (goes_as (store t v place) (λ k. Put place (number_bytes (bits_size count) n) k) place (byte_len w) (λ m. number w place m ≡ n) e
    (goes_short (bits_size count) n place (flags_below flags count many low)))

-- Texts.
pub string_sound : (text : List ℕ) → IsUtf8 text → Sound leaves.String (plain.String text)
string_sound text utf8 place =
    let count : ℕ = length text in
    let t : ValType = leaves.String in
    let v : Value = plain.String text in
    let Post : ℕ → List ℕ → Type 0 = λ to m. bytes_at to count m ≡ text in
    let Next : ℕ → List ℕ → Type 0 = λ to m. (number w32 place m ≡ to) × (number w32 (place + 4) m ≡ count) in
    let size : (laid t).size ≡ 8 = size_of t F.String out_string in
    goes_more (store t v place) place 8 place (laid t).size (Placed count 1 count Post Next) (λ m. Stands m place t v) (omega arith) (omega (arith, size))
    (λ m inside p.
    subst (λ (s : List ℕ). Stands m place t (plain.String s)) p.post
    (string_stands place p.at count p.next.0 p.next.1 p.inside (subst (λ (s : List ℕ). IsUtf8 s) (sym p.post) utf8)))
    (goes_as (store t v place) (λ k. asked count 1 count (λ to. Put to text (pointed place to count k))) place 8 (Placed count 1 count Post Next)
    (λ k. stored_by v (V.String text) t place k (plain.rolls-String text))
    (goes_asked count 1 count place 8 (λ to k. Put to text k) (λ to k. pointed place to count k) Post Next (λ to low few. goes_put to text) (λ to low few. goes_pointed place to count low few)))

-- Lists.
pub list_sound : (element : ValType) (all : List Value)
    → ((at : ℕ) → Goes (elements_from element at (map lowered all)) at (length all * (laid element).size) (λ m. AreElements m at element all)) → Sound (types.List element) (values.List all)
list_sound element all parts place =
    let count : ℕ = length all in
    let t : ValType = types.List element in
    let v : Value = values.List all in
    let bytes : ℕ = count * (laid element).size in
    let Post : ℕ → List ℕ → Type 0 = λ to m. AreElements m to element all in
    let Next : ℕ → List ℕ → Type 0 = λ to m. (number w32 place m ≡ to) × (number w32 (place + 4) m ≡ count) in
    let size : (laid t).size ≡ 8 = size_of t (F.List element) (out_list element) in
    let part : part_at t 0 ≡ Some element = ap (λ (y : F.ValType-F ValType Case Field). part_in (parts_case y) 0) (out_list element) in
    goes_more (store t v place) place 8 place (laid t).size (Placed count (laid element).align bytes Post Next) (λ m. Stands m place t v) (omega arith) (omega (arith, size))
    (λ m inside p. list_stands place p.at element all p.next.0 p.next.1 p.aligned p.inside p.post)
    (goes_as (store t v place) (λ k. asked count (laid element).align bytes (λ to. elements_from element to (map lowered all) (pointed place to count k))) place 8
    (Placed count (laid element).align bytes Post Next)
    (λ k.
    stored_by v (V.List all) t place k (plain.rolls-List all)
    ∙ ap (λ (p : Option ValType). list_in p (map lowered all) (λ to. pointed place to (length (map lowered all)) k)) part
    ∙ ap (λ (n : ℕ). asked n (laid element).align (n * (laid element).size) (λ to. elements_from element to (map lowered all) (pointed place to n k))) (length-map all lowered))
    (goes_asked count (laid element).align bytes place 8 (λ to k. elements_from element to (map lowered all) k) (λ to k. pointed place to count k) Post Next (λ to low few. parts to)
    (λ to low few. goes_pointed place to count low few)))

-- Records and tuples.
pub row_sound : (t : ValType) (types : List ValType) (all : List Value) → IsRow (out-ValType t) → parts_of t ≡ map (λ (t : ValType). Some t) types
    → ((place span : ℕ) → end_behind 0 (map (λ (t : ValType). Some t) types) ≤ span → Goes (fields_from place 0 (map (λ (t : ValType). Some t) types) (map lowered all)) place span (λ m. AreFields m place 0 types all))
    → ((m : List ℕ) (place : ℕ) → AreFields m place 0 types all → Stands m place t (values.Record all)) → Sound t (values.Record all)
row_sound t types all row e parts stands place =
    let v : Value = values.Record all in
    let P : Plan → Plan = fields_from place 0 (map (λ (t : ValType). Some t) types) (map lowered all) in
    goes_more (store t v place) place (laid t).size place (laid t).size (λ m. AreFields m place 0 types all) (λ m. Stands m place t v) (omega arith) (omega arith) (λ m inside h. stands m place h)
    (goes_as (store t v place) P place (laid t).size (λ m. AreFields m place 0 types all)
    (λ k. stored_by v (V.Record all) t place k (plain.rolls-Record all) ∙ ap (λ (ts : List (Option ValType)). fields_from place 0 ts (map lowered all) k) e)
    (parts place (laid t).size (subst (λ (ts : List (Option ValType)). end_behind 0 ts ≤ (laid t).size) e (row_room t row))))

-- Cases.
abbrev pub lowered_payload : Option Value → Option Lowered
lowered_payload (Some v) = Some (lowered v)
lowered_payload None = None

variant_stored : (n : ℕ) (payload : Option Value) (t : ValType) (place : ℕ) (k : Plan) → store t (values.Variant n payload) place k ≡ case_from t n (lowered_payload payload) place k
variant_stored n (Some v) t place k = stored_by (values.Variant n (Some v)) (V.Variant n (Some v)) t place k (plain.rolls-Variant n (Some v))
variant_stored n None t place k = stored_by (values.Variant n None) (V.Variant n None) t place k (plain.rolls-Variant n None)

-- the payload lies inside, behind the number
payload_inside : (t p : ValType) (n : ℕ) → HasCases (out-ValType t) → part_at t n ≡ Some p → payload_place t + (laid p).size ≤ (laid t).size
payload_inside t p n h e =
    let m : List ℕ = replicate (laid t).size 0 in
    let long : length m ≡ (laid t).size = length-replicate (laid t).size 0 in
    omega (arith, long, (case_room t 0 m h (omega (arith, long))).payload n p e)

place_inside : (t : ValType) → HasCases (out-ValType t) → payload_place t ≤ (laid t).size
place_inside t h =
    let e : (laid t).size ≡ (tagged (case_count t) (layouts (parts_of t))).size = ap (λ (l : Laid). l.size) (tagged_is t h) in
    omega (arith, e)

-- a payload that goes to a place with so many bytes
abbrev pub PayloadGoes : Option ValType → Option Value → Type 0
PayloadGoes p payload =
    (place span : ℕ) → ((q : ValType) → p ≡ Some q → (laid q).size ≤ span) → Goes (payload_at p (lowered_payload payload) place) place span (λ m. IsPayload m place p payload)

case_sound : (t : ValType) (n : ℕ) (p : Option ValType) (payload : Option Value) → HasCases (out-ValType t) → n < case_count t → n < 2 ^ 32 → part_at t n ≡ p → PayloadGoes p payload
    → ((m : List ℕ) (place : ℕ) → tag (case_count t) place m ≡ n → IsPayload m (place + payload_place t) p payload → Stands m place t (values.Variant n payload)) → Sound t (values.Variant n payload)
case_sound t n p payload kind low few e goes stands place =
    let v : Value = values.Variant n payload in
    let count : ℕ = case_count t in
    let at : ℕ = place + payload_place t in
    let span : ℕ = (laid t).size - payload_place t in
    let w : Width = width_of (tag_size count) in
    let short : byte_len w ≡ tag_size count = tag_bytes count in
    let room : payload_place t ≤ (laid t).size = place_inside t kind in
    let tag_room : tag_size count ≤ payload_place t = omega arith in
    let P : Plan → Plan = λ k. Put place (number_bytes (tag_size count) n) k in
    let Q : Plan → Plan = λ k. payload_at p (lowered_payload payload) at k in
    let Post : List ℕ → Type 0 = λ m. number w place m ≡ n in
    let Next : List ℕ → Type 0 = λ m. IsPayload m at p payload in
    goes_more (store t v place) place (laid t).size place (laid t).size (λ m. Post m × Next m) (λ m. Stands m place t v) (omega arith) (omega arith) (λ m inside h. stands m place h.0 h.1)
    (goes_as (store t v place) (λ k. P (Q k)) place (laid t).size (λ m. Post m × Next m)
    (λ k. variant_stored n payload t place k ∙ ap (λ (o : Option ValType). Put place (number_bytes (tag_size count) n) (payload_at o (lowered_payload payload) at k)) e)
    (goes_on P Q place (byte_len w) at span place (laid t).size Post Next (omega arith) (omega (arith, short, tag_room)) (omega (arith, room))
    (goes_short (tag_size count) n place (case_below count n low few))
    (goes at span (λ q f. (let i : (laid q).size ≤ (laid t).size - payload_place t = omega (arith, payload_inside t q n kind (e ∙ f)) in i)))))

pub case_sound_in : (t : ValType) (y : F.ValType-F ValType Case Field) (n : ℕ) (p : Option ValType) (payload : Option Value) → out-ValType t ≡ y → HasCases y → n < count_case y → n < 2 ^ 32
    → part_in (parts_case y) n ≡ p → PayloadGoes p payload
    → ((m : List ℕ) (place : ℕ) → tag (count_case y) place m ≡ n → IsPayload m (place + payload_place t) p payload → Stands m place t (values.Variant n payload)) → Sound t (values.Variant n payload)
case_sound_in t y n p payload e kind low few at goes stands =
    case_sound t n p payload (subst HasCases (sym e) kind) (subst (λ (y : F.ValType-F ValType Case Field). n < count_case y) (sym e) low)
    few
    (ap (λ (y : F.ValType-F ValType Case Field). part_in (parts_case y) n) e ∙ at) goes
    (λ m place h i. stands m place (ap (λ (y : F.ValType-F ValType Case Field). tag (count_case y) place m) (sym e) ∙ h) i)
