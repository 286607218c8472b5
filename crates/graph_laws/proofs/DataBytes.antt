-- The data of a module that is read of bytes are bytes.
use Rattle.std.proofs.Common.{ℕ, Bool, true, false, List, [], Option, Some, None, sym, subst}
use Rattle.std.specs.Prelude.{unwrap_or}
use Rattle.std.specs.List.{AllByRecursion}
use Rattle.ca_base.specs.Grammar.{Grammar, Give, Refuse, Here, Next, Byte, Choose, ◌>>=◌, times}
use Rattle.ca_base.specs.Items.{NumberReasons, Reasons, fixed, u32, sized, is_byte}
use Rattle.syntax_trees.specs.declared.module.DataSegment.{DataSegment}
use Rattle.wasm_typing.specs.declared.module_places.ModuleParts.{ModuleParts}
use Rattle.wasm_code_reader.specs.declared.fault.ModuleWhy.{ModuleWhy}
use Rattle.wasm_code_reader.specs.declared.fault.ModuleWhy.TheVariants.{Magic, Count}
use Rattle.wasm_code_reader.specs.Reasons.{numbers, reasons}
use Rattle.wasm_code_reader.specs.Consts.{const_expr}
use Rattle.wasm_reader.specs.Items.{target, byte_vec, data_segment, differs_from, data_payload}
use Rattle.wasm_reader.specs.Code.{code_payload}
use Rattle.wasm_reader.specs.Binary.{customs, payload, declarations, definitions, uses, contents, preamble, the_module}
use Rattle.link_spec.proofs.Holding.{all_mapped}
use Rattle.lowering_laws.specs.Values.{AreBytes}
use Rattle.lowering_laws.specs.StoreBytes.{HasBytes}
use Rattle.graph_laws.proofs.Bytes.{IsByte, take_bytes, matches_bytes, ItemOf, GivesOn, choice_on, times_on, sized_on}

-- A segment.
vec_on : GivesOn IsByte AreBytes byte_vec
unfolding byte_vec
vec_on s x t bytes m = subst AreBytes (sym m.3.1) (take_bytes IsByte m.0 m.1.bytes (matches_bytes IsByte (u32 numbers) s m.0 m.1 bytes m.2))

abbrev HasPart : ItemOf data_segment → Type 0
HasPart p = AreBytes p.part.bytes

segment_on : GivesOn IsByte HasPart data_segment
unfolding data_segment
segment_on s x t bytes m =
    let at_memory = matches_bytes IsByte Here s m.0 m.1 bytes m.2 in
    let at_offset = matches_bytes IsByte target m.1 m.3.0 m.3.1 at_memory m.3.2 in
    let at_bytes = matches_bytes IsByte const_expr m.3.1 m.3.3.0 m.3.3.1 at_offset m.3.3.2 in
    subst HasPart (sym m.3.3.3.3.0) (vec_on m.3.3.1 m.3.3.3.0 m.3.3.3.1 at_bytes m.3.3.3.2)

-- The section of data, which may be absent.
nothing_on : {W A : Type 0} (P : A → Type 0) (place : ℕ) (why : W) → GivesOn IsByte P (Refuse place why)
nothing_on P place why s x t bytes m = absurd m

segments_on : (counted : Option ℕ) → GivesOn IsByte (AllByRecursion HasPart) (data_payload counted)
unfolding data_payload
segments_on counted s x t bytes m =
    choice_on IsByte (AllByRecursion HasPart) (Refuse m.0 Count) (times m.3.0 data_segment) (nothing_on (AllByRecursion HasPart) m.0 Count) (times_on IsByte HasPart data_segment segment_on m.3.0)
    (differs_from counted m.3.0) m.3.1 x t (matches_bytes IsByte (u32 numbers) m.1 m.3.0 m.3.1 (matches_bytes IsByte Here s m.0 m.1 bytes m.2) m.3.2) m.3.3

abbrev HaveParts : Option (List (ItemOf data_segment)) → Type 0
HaveParts found = AllByRecursion HasPart (unwrap_or found [])

section_on : (n : NumberReasons ModuleWhy) (r : Reasons ModuleWhy) (g : Grammar ModuleWhy (List (ItemOf data_segment))) → GivesOn IsByte (AllByRecursion HasPart) g
    → (b : Bool) → GivesOn IsByte HaveParts (Choose b (Byte >>= (λ c. sized n r g >>= (λ xs. Give (Some xs)))) (Give None))
section_on n r g h true s x t bytes m =
    subst HaveParts (sym m.3.3.0) (sized_on IsByte (AllByRecursion HasPart) n r g h m.1 m.3.0 m.3.1 (matches_bytes IsByte Byte s m.0 m.1 bytes m.2) m.3.2)
section_on n r g h false s x t bytes m = subst HaveParts (sym m.0) tt

payload_on : (id : ℕ) (g : Grammar ModuleWhy (List (ItemOf data_segment))) → GivesOn IsByte (AllByRecursion HasPart) g → GivesOn IsByte HaveParts (payload id g)
unfolding payload
payload_on id g h s x t bytes m =
    let at_id = matches_bytes IsByte customs s m.0 m.1 bytes m.2 in
    section_on numbers reasons g h (is_byte id m.3.0) m.3.1 x t (matches_bytes IsByte Next m.1 m.3.0 m.3.1 at_id m.3.2) m.3.3

-- The module.
abbrev HeldBytes : ItemOf (contents []) → Type 0
HeldBytes held = AllByRecursion HasPart held.data_segments

contents_on : (declared : _) → GivesOn IsByte HeldBytes (contents declared)
unfolding contents
contents_on declared s x t bytes m =
    let at_codes = matches_bytes IsByte (payload 12 (u32 numbers)) s m.0 m.1 bytes m.2 in
    let at_data = matches_bytes IsByte (payload 10 (code_payload declared)) m.1 m.3.0 m.3.1 at_codes m.3.2 in
    let segments = payload_on 11 (data_payload m.0) (segments_on m.0) m.3.1 m.3.3.0 m.3.3.1 at_data m.3.3.2 in
    subst HeldBytes (sym m.3.3.3.3.0) segments

pub module_has_bytes : GivesOn IsByte (λ (m : ModuleParts). HasBytes m.tree) the_module
unfolding the_module
module_has_bytes s m t bytes h =
    let at_declared = matches_bytes IsByte (fixed Magic preamble) s h.0 h.1 bytes h.2 in
    let defines = h.3.3 in
    let at_defined = matches_bytes IsByte declarations h.1 h.3.0 h.3.1 at_declared h.3.2 in
    let uses_them = defines.3 in
    let at_used = matches_bytes IsByte definitions h.3.1 defines.0 defines.1 at_defined defines.2 in
    let holds = uses_them.3 in
    let at_held = matches_bytes IsByte uses defines.1 uses_them.0 uses_them.1 at_used uses_them.2 in
    let held = contents_on h.3.0.funcs uses_them.1 holds.0 holds.1 at_held holds.2 in
    subst (λ (m : ModuleParts). HasBytes m.tree) (sym holds.3.0)
    (all_mapped (λ (p : ItemOf data_segment). p.part) (λ (segment : DataSegment). AreBytes segment.bytes) holds.0.data_segments held)
