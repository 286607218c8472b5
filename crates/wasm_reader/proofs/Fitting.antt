-- A module that is read has as many places as parts.
use Rattle.std.proofs.Common.{◌≡◌, ◌+◌, ℕ, zero, suc, List, [], ◌∷◌, refl, sym, ◌∙◌, ap, nat_eq, length, map, Option, Some, None, Ok}
use Rattle.std.specs.Prelude.{is_some, unwrap_or, IfSome}
use Rattle.std.specs.Option.{option_map}
use Rattle.std.proofs.lemmas.List.{length-map}
use Rattle.ca_base.specs.Span.{Span}
use Rattle.ca_base.specs.Grammar.{Grammar, read, times, Matches}
use Rattle.ca_base.specs.Items.{each, vec, is_byte}
use Rattle.ca_base.specs.declared.placed.Placed.{Placed}
use Rattle.ca_base.proofs.Laws.{reads_matches}
use Rattle.syntax_trees.specs.declared.module.Func.{Func}
use Rattle.wasm_typing.specs.declared.module_places.FuncPlaces.{FuncPlaces}
use Rattle.syntax_trees.specs.declared.module.Global.{Global}
use Rattle.wasm_typing.specs.declared.module_places.GlobalPlaces.{GlobalPlaces}
use Rattle.syntax_trees.specs.declared.module.ElementSegment.{ElementSegment}
use Rattle.wasm_typing.specs.declared.module_places.ElementPlaces.{ElementPlaces}
use Rattle.syntax_trees.specs.declared.module.DataSegment.{DataSegment}
use Rattle.wasm_typing.specs.declared.module_places.DataPlaces.{DataPlaces}
use Rattle.syntax_trees.specs.Expr.{op_count}
use Rattle.wasm_typing.specs.Places.{Fits}
use Rattle.wasm_code_reader.specs.declared.fault.ModuleWhy.{ModuleWhy}
use Rattle.wasm_reader.specs.declared.declared.DeclaredFunc.{DeclaredFunc}
use Rattle.wasm_reader.specs.declared.declared.Declarations.{Declarations}
use Rattle.wasm_reader.specs.declared.declared.Definitions.{Definitions}
use Rattle.wasm_reader.specs.declared.declared.Uses.{Uses}
use Rattle.wasm_reader.specs.declared.declared.Contents.{Contents}
use Rattle.wasm_reader.specs.declared.parted.Parted.{Parted}
use Rattle.wasm_code_reader.specs.Reasons.{numbers}
use Rattle.wasm_reader.specs.Code.{func_code, code, code_payload}
use Rattle.wasm_reader.specs.Items.{global, element_segment, data_segment, differs_from, data_payload}
use Rattle.wasm_reader.specs.Binary.{payload, items, definitions, uses, contents, parts_of, part_places, module_of}
use Rattle.wasm_code_reader.proofs.Fitting.{by_test, body_places, const_places}

-- the places of a function's body
func_places : (declared : DeclaredFunc) (s : Span ModuleWhy) (x : Parted Func FuncPlaces) (t : Span ModuleWhy) → Matches (func_code declared) s x t → length x.places.ops ≡ op_count x.part.body
unfolding func_code
func_places declared s x t m = rw (m.3.3.0) (body_places m.1 m.3.0 m.3.1 m.3.2)

code_places : (declared : DeclaredFunc) (s : Span ModuleWhy) (x : Parted Func FuncPlaces) (t : Span ModuleWhy) → Matches (code declared) s x t → length x.places.ops ≡ op_count x.part.body
unfolding code
code_places declared s x t m = func_places declared _ x _ m.3.2.1

global_places : (s : Span ModuleWhy) (x : Parted Global GlobalPlaces) (t : Span ModuleWhy) → Matches global s x t → length x.places.init ≡ length x.part.init + 1
unfolding global
global_places s x t m = rw (m.3.3.3.0) (const_places m.3.1 m.3.3.0 m.3.3.1 m.3.3.2)

offset_places : (s : Span ModuleWhy) (x : Parted ElementSegment ElementPlaces) (t : Span ModuleWhy) → Matches element_segment s x t → length x.places.offset ≡ length x.part.offset + 1
unfolding element_segment
offset_places s x t m = rw (m.3.3.3.3.3.0) (const_places m.3.1 m.3.3.0 m.3.3.1 m.3.3.2)

element_places : (s : Span ModuleWhy) (x : Parted ElementSegment ElementPlaces) (t : Span ModuleWhy) → Matches element_segment s x t → length x.places.funcs ≡ length x.part.funcs
unfolding element_segment
element_places s x t m = rw (m.3.3.3.3.3.0) (length-map m.3.3.3.3.0 (λ f. f.place) ∙ sym (length-map m.3.3.3.3.0 (λ f. f.item)))

data_places : (s : Span ModuleWhy) (x : Parted DataSegment DataPlaces) (t : Span ModuleWhy) → Matches data_segment s x t → length x.places.offset ≡ length x.part.offset + 1
unfolding data_segment
data_places s x t m = rw (m.3.3.3.3.0) (const_places m.3.1 m.3.3.0 m.3.3.1 m.3.3.2)

-- Two numbers of each item that a grammar gives are the same, and so they are of many items.
abbrev SameOf : {A : Type 0} → (A → ℕ) → (A → ℕ) → Grammar ModuleWhy A → Type 0
SameOf {A} a b g = (s : Span ModuleWhy) (x : A) (t : Span ModuleWhy) → Matches g s x t → a x ≡ b x

times_same : {A : Type 0} (a b : A → ℕ) (g : Grammar ModuleWhy A) → SameOf a b g → (n : ℕ) (s : Span ModuleWhy) (xs : List A) (t : Span ModuleWhy) → Matches (times n g) s xs t → map a xs ≡ map b xs
times_same a b g same zero s xs t m = rw (m.0) refl
times_same a b g same (suc n) s xs t m =
    let first : a m.0 ≡ b m.0 = same s m.0 m.1 m.2 in
    let others : map a m.3.0 ≡ map b m.3.0 = times_same a b g same n m.1 m.3.0 m.3.1 m.3.2 in
    rw (m.3.3.0) (rw (first, others) refl)

each_same : {X A : Type 0} (a b : A → ℕ) (g : X → Grammar ModuleWhy A) → ((d : X) → SameOf a b (g d)) → (ds : List X) (s : Span ModuleWhy) (xs : List A) (t : Span ModuleWhy) → Matches (each g ds) s xs t → map a xs ≡ map b xs
each_same a b g same [] s xs t m = rw (m.0) refl
each_same a b g same (d ∷ ds) s xs t m =
    let first : a m.0 ≡ b m.0 = same d s m.0 m.1 m.2 in
    let others : map a m.3.0 ≡ map b m.3.0 = each_same a b g same ds m.1 m.3.0 m.3.1 m.3.2 in
    rw (m.3.3.0) (rw (first, others) refl)

-- What is read of a section is what its payload gives.
payload_gives : {A : Type 0} (P : A → Type 0) (g : Grammar ModuleWhy A) → ((s : Span ModuleWhy) (x : A) (t : Span ModuleWhy) → Matches g s x t → P x) → (id : ℕ) (s : Span ModuleWhy) (found : Option A) (t : Span ModuleWhy) → Matches (payload id g) s found t → IfSome found P
unfolding payload
payload_gives P g gives id s found t m =
    by_test (is_byte id m.3.0) _ _ (IfSome found P)
    (λ h. rw (h.3.3.0) (gives _ h.3.0 _ h.3.2.3.2.1))
    (λ h. rw (h.0) tt)
    m.3.3

or_none : {A : Type 0} (a b : A → ℕ) (found : Option (List A)) → IfSome found (λ xs. map a xs ≡ map b xs) → map a (unwrap_or found []) ≡ map b (unwrap_or found [])
or_none a b None h = refl
or_none a b (Some xs) h = h

items_same : {A : Type 0} (a b : A → ℕ) (g : Grammar ModuleWhy A) → SameOf a b g → (id : ℕ) (s : Span ModuleWhy) (xs : List A) (t : Span ModuleWhy) → Matches (items id g) s xs t → map a xs ≡ map b xs
unfolding items
items_same a b g same id s xs t m =
    rw (m.3.0) (or_none a b m.0 (payload_gives (λ xs. map a xs ≡ map b xs) (vec numbers g) (λ s xs t h. times_same a b g same h.0 h.1 xs t h.3) id s m.0 m.1 m.2))

-- the places of what the sections of code and data hold
codes_same : (declared : List DeclaredFunc) (s : Span ModuleWhy) (xs : List (Parted Func FuncPlaces)) (t : Span ModuleWhy) → Matches (code_payload declared) s xs t → map (λ f. length f.places.ops) xs ≡ map (λ f. op_count f.part.body) xs
unfolding code_payload
codes_same declared s xs t m =
    by_test (nat_eq m.3.0 (length declared)) _ _ (map (λ f. length f.places.ops) xs ≡ map (λ f. op_count f.part.body) xs)
    (λ h. each_same (λ f. length f.places.ops) (λ f. op_count f.part.body) code code_places declared _ xs t h)
    (λ h. absurd h)
    m.3.3

data_same : (counted : Option ℕ) (s : Span ModuleWhy) (xs : List (Parted DataSegment DataPlaces)) (t : Span ModuleWhy) → Matches (data_payload counted) s xs t → map (λ d. length d.places.offset) xs ≡ map (λ d. length d.part.offset + 1) xs
unfolding data_payload
data_same counted s xs t m =
    by_test (differs_from counted m.3.0) _ _ (map (λ d. length d.places.offset) xs ≡ map (λ d. length d.part.offset + 1) xs)
    (λ h. absurd h)
    (λ h. times_same (λ d. length d.places.offset) (λ d. length d.part.offset + 1) data_segment data_places m.3.0 _ xs t h)
    m.3.3

contents_codes : (declared : List DeclaredFunc) (s : Span ModuleWhy) (held : Contents) (t : Span ModuleWhy) → Matches (contents declared) s held t → map (λ f. length f.places.ops) held.funcs ≡ map (λ f. op_count f.part.body) held.funcs
unfolding contents
contents_codes declared s held t m =
    rw (m.3.3.3.3.0) (or_none (λ f. length f.places.ops) (λ f. op_count f.part.body) m.3.0 (payload_gives (λ xs. map (λ f. length f.places.ops) xs ≡ map (λ f. op_count f.part.body) xs) (code_payload declared) (codes_same declared) 10 m.1 m.3.0 m.3.1 m.3.2))

contents_data : (declared : List DeclaredFunc) (s : Span ModuleWhy) (held : Contents) (t : Span ModuleWhy) → Matches (contents declared) s held t → map (λ d. length d.places.offset) held.data_segments ≡ map (λ d. length d.part.offset + 1) held.data_segments
unfolding contents
contents_data declared s held t m =
    rw (m.3.3.3.3.0) (or_none (λ d. length d.places.offset) (λ d. length d.part.offset + 1) m.3.3.0 (payload_gives (λ xs. map (λ d. length d.places.offset) xs ≡ map (λ d. length d.part.offset + 1) xs) (data_payload m.0) (data_same m.0) 11 m.3.1 m.3.3.0 m.3.3.1 m.3.3.2))

defined_globals : (s : Span ModuleWhy) (defined : Definitions) (t : Span ModuleWhy) → Matches definitions s defined t → map (λ g. length g.places.init) defined.globals ≡ map (λ g. length g.part.init + 1) defined.globals
unfolding definitions
defined_globals s defined t m = rw (m.3.3.3.0) (items_same (λ g. length g.places.init) (λ g. length g.part.init + 1) global global_places 6 m.3.1 m.3.3.0 m.3.3.1 m.3.3.2)

used_offsets : (s : Span ModuleWhy) (used : Uses) (t : Span ModuleWhy) → Matches uses s used t → map (λ e. length e.places.offset) used.element_segments ≡ map (λ e. length e.part.offset + 1) used.element_segments
unfolding uses
used_offsets s used t m = rw (m.3.3.3.0) (items_same (λ e. length e.places.offset) (λ e. length e.part.offset + 1) element_segment offset_places 9 m.3.1 m.3.3.0 m.3.3.1 m.3.3.2)

used_funcs : (s : Span ModuleWhy) (used : Uses) (t : Span ModuleWhy) → Matches uses s used t → map (λ e. length e.places.funcs) used.element_segments ≡ map (λ e. length e.part.funcs) used.element_segments
unfolding uses
used_funcs s used t m = rw (m.3.3.3.0) (items_same (λ e. length e.places.funcs) (λ e. length e.part.funcs) element_segment element_places 9 m.3.1 m.3.3.0 m.3.3.1 m.3.3.2)

map-map : {A B C : Type 0} (f : B → C) (g : A → B) (xs : List A) → map f (map g xs) ≡ map (λ x. f (g x)) xs
map-map f g [] = refl
map-map f g (x ∷ xs) = ap (λ ys. f (g x) ∷ ys) (map-map f g xs)

-- As many of the parts as of the places.
parted_same : {A P : Type 0} (a : P → ℕ) (b : A → ℕ) (xs : List (Parted A P)) → map (λ x. a x.places) xs ≡ map (λ x. b x.part) xs → map a (part_places xs) ≡ map b (parts_of xs)
parted_same a b xs h = map-map a (λ x. x.places) xs ∙ h ∙ sym (map-map b (λ x. x.part) xs)

placed_same : {A : Type 0} (xs : List (Placed A)) → length (map (λ x. x.place) xs) ≡ length (map (λ x. x.item) xs)
placed_same xs = length-map xs (λ x. x.place) ∙ sym (length-map xs (λ x. x.item))

start_same : (start : Option (Placed ℕ)) → is_some (option_map (λ s. s.place) start) ≡ is_some (option_map (λ s. s.item) start)
start_same None = refl
start_same (Some s) = refl

-- The parts of a module fit each other.
pub parts_fit : (declared : Declarations) (defined : Definitions) (used : Uses) (held : Contents) (s t u v w z : Span ModuleWhy) → read definitions s ≡ Ok (defined, t) → read uses u ≡ Ok (used, v) → read (contents declared.funcs) w ≡ Ok (held, z) → Fits (module_of declared defined used held).tree (module_of declared defined used held).places
parts_fit declared defined used held s t u v w z d e h =
    let defines = reads_matches definitions s defined t d in
    let tells = reads_matches uses u used v e in
    let holds = reads_matches (contents declared.funcs) w held z h in
    record {
      imports = placed_same declared.imports;
      funcs = parted_same (λ p. length p.ops) (λ f. op_count f.body) held.funcs (contents_codes declared.funcs w held z holds);
      tables = placed_same defined.tables;
      memories = placed_same defined.memories;
      globals = parted_same (λ p. length p.init) (λ g. length g.init + 1) defined.globals (defined_globals s defined t defines);
      exports = placed_same used.exports;
      start = start_same used.start;
      element_offsets = parted_same (λ p. length p.offset) (λ e. length e.offset + 1) used.element_segments (used_offsets u used v tells);
      element_funcs = parted_same (λ p. length p.funcs) (λ e. length e.funcs) used.element_segments (used_funcs u used v tells);
      data_offsets = parted_same (λ p. length p.offset) (λ d. length d.offset + 1) held.data_segments (contents_data declared.funcs w held z holds);
    }
