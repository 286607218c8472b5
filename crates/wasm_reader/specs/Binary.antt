-- The binary format of modules (Core 2.0, section 5.5): their sections, in order, with custom sections anywhere.
use Rattle.std.specs.Prelude.{◌+◌, ℕ, zero, suc, Bool, List, [], ◌∷◌, length, map, nat_le, ◌==◌, ◌&&◌, ◌||◌, is_some, unwrap_or, Option, Some, None}
use Rattle.std.specs.Option.{option_map}
use Rattle.ca_base.specs.Span.{Span}
use Rattle.ca_base.specs.Grammar.{Grammar, Give, Refuse, Here, Left, Next, Byte, Choose, ◌>>=◌, Matches, Refuses}
use Rattle.ca_base.specs.Items.{fixed, u32, custom, sized, vec, placed, section, is_byte}
use Rattle.ca_base.specs.declared.refusal.Refusal.{Refusal}
use Rattle.ca_base.specs.declared.placed.Placed.{Placed}
use Rattle.wasm_typing.specs.declared.module_places.ModuleParts.{ModuleParts}
use Rattle.wasm_code_reader.specs.declared.fault.ModuleWhy.{ModuleWhy}
use Rattle.wasm_code_reader.specs.declared.fault.ModuleWhy.TheVariants.{Truncated, Magic, SectionOrder, Unsupported, Count}
use Rattle.wasm_reader.specs.declared.declared.DeclaredFunc.{DeclaredFunc}
use Rattle.wasm_reader.specs.declared.declared.Declarations.{Declarations}
use Rattle.wasm_reader.specs.declared.declared.Definitions.{Definitions}
use Rattle.wasm_reader.specs.declared.declared.Uses.{Uses}
use Rattle.wasm_reader.specs.declared.declared.Contents.{Contents}
use Rattle.wasm_reader.specs.declared.parted.Parted.{Parted}
use Rattle.wasm_code_reader.specs.Reasons.{numbers, reasons}
use Rattle.wasm_code_reader.specs.Types.{func_type, table_type, memory_type}
use Rattle.wasm_reader.specs.Items.{import, declared_func, export, global, element_segment, data_payload}
use Rattle.wasm_reader.specs.Code.{code_payload}

-- custom sections (section 5.5.3), in at most so many bytes
unfoldable pub customs_in : ℕ → Grammar ModuleWhy (Unit {0})
customs_in zero = Give tt
customs_in (suc count) = do
  next ← Next
  Choose (is_byte 0 next) (do
    _ ← Byte
    _ ← sized numbers reasons (custom numbers)
    customs_in count) (Give tt)

unfoldable pub customs : Grammar ModuleWhy (Unit {0})
customs = do
  count ← Left
  customs_in count

-- the payload of the section of this id (section 5.5.2), behind custom sections, where there is such a section
unfoldable pub payload : {A : Type 0} → ℕ → Grammar ModuleWhy A → Grammar ModuleWhy (Option A)
payload id of = do
  _ ← customs
  section numbers reasons id of

-- the items of such a section: none where there is no such section
unfoldable pub items : {A : Type 0} → ℕ → Grammar ModuleWhy A → Grammar ModuleWhy (List A)
items id item = do
  found ← payload id (vec numbers item)
  Give (unwrap_or found [])

-- types, imports, and functions as they are declared (sections 5.5.4 to 5.5.6)
unfoldable pub declarations : Grammar ModuleWhy Declarations
declarations = do
  types ← items 1 func_type
  imports ← items 2 (placed import)
  funcs ← items 3 declared_func
  Give (record { types = types; imports = imports; funcs = funcs })

-- tables, memories and globals (sections 5.5.7 to 5.5.9)
unfoldable pub definitions : Grammar ModuleWhy Definitions
definitions = do
  tables ← items 4 (placed table_type)
  memories ← items 5 (placed memory_type)
  globals ← items 6 global
  Give (record { tables = tables; memories = memories; globals = globals })

-- exports, the function that runs first, and segments of functions (sections 5.5.10 to 5.5.12)
unfoldable pub uses : Grammar ModuleWhy Uses
uses = do
  exports ← items 7 (placed export)
  start ← payload 8 (placed (u32 numbers))
  elements ← items 9 element_segment
  Give (record { exports = exports; start = start; element_segments = elements })

-- A section that has an order among the others and comes where none is due stands out of order.
abbrev pub no_section : ℕ → Option ℕ → Grammar ModuleWhy (Unit {0})
no_section place None = Give tt
no_section place (Some id) = Choose (nat_le 1 id && nat_le id 12) (Refuse place SectionOrder) (Refuse place (Unsupported id))

-- the end of the module, behind custom sections
unfoldable pub module_end : Grammar ModuleWhy (Unit {0})
module_end = do
  _ ← customs
  place ← Here
  next ← Next
  no_section place next

-- whether something is there, or none of it is wanted
abbrev pub is_there : {A : Type 0} → ℕ → Option A → Bool
is_there wanted found = is_some found || wanted == 0

-- the end of a module of this many functions, and of segments of bytes as the data count tells: their sections stand there
unfoldable pub ends : {A B : Type 0} → ℕ → Option A → ℕ → Option B → Grammar ModuleWhy (Unit {0})
ends functions codes counted segments = do
  _ ← module_end
  place ← Here
  Choose (is_there functions codes && is_there counted segments) (Give tt) (Refuse place Count)

-- The data count, the code of functions that are declared so, and segments of bytes (sections 5.5.13 to 5.5.15), up to the
-- end of the module.
unfoldable pub contents : List DeclaredFunc → Grammar ModuleWhy Contents
contents declared = do
  counted ← payload 12 (u32 numbers)
  codes ← payload 10 (code_payload declared)
  segments ← payload 11 (data_payload counted)
  _ ← ends (length declared) codes (unwrap_or counted 0) segments
  Give (record { funcs = unwrap_or codes []; data_segments = unwrap_or segments [] })

-- the preamble of a module
abbrev pub preamble : List ℕ
preamble = 0x00 ∷ 0x61 ∷ 0x73 ∷ 0x6D ∷ 0x01 ∷ 0x00 ∷ 0x00 ∷ 0x00 ∷ []

abbrev pub items_of : {A : Type 0} → List (Placed A) → List A
items_of xs = map (λ x. x.item) xs

abbrev pub places_of : {A : Type 0} → List (Placed A) → List ℕ
places_of xs = map (λ x. x.place) xs

abbrev pub parts_of : {A P : Type 0} → List (Parted A P) → List A
parts_of xs = map (λ x. x.part) xs

abbrev pub part_places : {A P : Type 0} → List (Parted A P) → List P
part_places xs = map (λ x. x.places) xs

-- the module of what its sections hold
abbrev pub module_of : Declarations → Definitions → Uses → Contents → ModuleParts
module_of declared defined used held = record {
  tree = record {
    types = declared.types;
    imports = items_of declared.imports;
    funcs = parts_of held.funcs;
    tables = items_of defined.tables;
    memories = items_of defined.memories;
    globals = parts_of defined.globals;
    exports = items_of used.exports;
    start = option_map (λ s. s.item) used.start;
    element_segments = parts_of used.element_segments;
    data_segments = parts_of held.data_segments;
  };
  places = record {
    imports = places_of declared.imports;
    funcs = part_places held.funcs;
    tables = places_of defined.tables;
    memories = places_of defined.memories;
    globals = part_places defined.globals;
    exports = places_of used.exports;
    start = option_map (λ s. s.place) used.start;
    element_segments = part_places used.element_segments;
    data_segments = part_places held.data_segments;
  };
}

-- a module (section 5.5.16): its preamble, its sections, and nothing else
unfoldable pub the_module : Grammar ModuleWhy ModuleParts
the_module = do
  _ ← fixed Magic preamble
  declared ← declarations
  defined ← definitions
  used ← uses
  held ← contents declared.funcs
  Give (module_of declared defined used held)

-- a module that is a file of its own, whose first byte stands at this place
abbrev pub file : List ℕ → ℕ → Span ModuleWhy
file bytes base = record { bytes = bytes; at = base; past = Truncated }

-- what is left of it when it is read
abbrev pub file_end : List ℕ → ℕ → Span ModuleWhy
file_end bytes base = record { bytes = []; at = base + length bytes; past = Truncated }

-- the bytes are those of the module
abbrev pub IsModule : List ℕ → ℕ → ModuleParts → Type 0
IsModule bytes base m = Matches the_module (file bytes base) m (file_end bytes base)

-- the bytes are no module: they are refused at this place, for this reason
abbrev pub IsRefused : List ℕ → ℕ → Refusal ModuleWhy → Type 0
IsRefused bytes base refusal = Refuses the_module (file bytes base) refusal
