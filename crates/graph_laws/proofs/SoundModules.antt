-- The modules that stand in a component that is read of bytes are sound.
use Rattle.std.proofs.Common.{◌≡◌, ℕ, List, [], ◌∷◌, Option, Some, None, refl, sym, subst}
use Rattle.std.specs.List.{AllByRecursion}
use Rattle.ca_base.specs.Span.{Span, window}
use Rattle.ca_base.specs.Grammar.{Left, Matches}
use Rattle.ca_base.proofs.Laws.{matches_reads}
use Rattle.syntax_trees.specs.declared.module.ModuleTree.{ModuleTree}
use Rattle.wasm_typing.specs.declared.module_places.ModuleParts.{ModuleParts}
use Rattle.wasm_code_reader.specs.declared.fault.ModuleWhy.{ModuleWhy}
use Rattle.wasm_code_reader.specs.declared.fault.ModuleWhy.TheVariants as module_why
use Rattle.wasm_typing.specs.Places.{Fits}
use Rattle.wasm_reader.specs.Binary.{definitions, uses, contents, the_module}
use Rattle.wasm_reader.proofs.Fitting.{parts_fit}
use Rattle.wasm_reader.proofs.Ranges.{memories_in_range}
use Rattle.wasm_typing.specs.declared.fault.ValidFault.{ValidFault}
use Rattle.wasm_typing.specs.Finding.{untyped}
use Rattle.wasm_typing.specs.Modules.{Typed}
use Rattle.wasm_typing.proofs.Placing.{told_or_typed}
use Rattle.wasm_store.specs.Instantiation.{InRange}
use Rattle.part_reader.specs.declared.fault.ComponentWhy.{ComponentWhy}
use Rattle.comp_reader.specs.Binary.{validated, module_file, core_module}
use Rattle.lowering_laws.specs.StoreBytes.{HasBytes}
use Rattle.graph_laws.specs.Laws.{ReadModulesAreTyped, ReadDataAreBytes, ReadModulesAreSound}
use Rattle.graph_laws.proofs.Bytes.{IsByte, take_bytes, matches_bytes, GivesOn}
use Rattle.graph_laws.proofs.DataBytes.{module_has_bytes}
use Rattle.graph_laws.proofs.ModulesRead.{ItemHas, module_has, component_has}

-- Whatever the bytes, modules are typed and in range.
abbrev IsFit : ModuleTree → Type 0
IsFit m = Typed m × InRange m

valid_fit : (tree : ModuleTree) (o : Option ValidFault) (s : Span ComponentWhy) (x : ModuleTree) (t : Span ComponentWhy) → InRange tree → (o ≡ None → Typed tree) → Matches (validated tree o) s x t → IsFit x
valid_fit tree None s x t range h m = subst IsFit (sym m.0) (h refl, range)
valid_fit tree (Some fault) s x t range h m = absurd m

-- Each part of a core module that is read has a place.
module_fits : (s : Span ModuleWhy) (m : ModuleParts) (t : Span ModuleWhy) → Matches the_module s m t → Fits m.tree m.places
unfolding the_module
module_fits s m t h =
    let defines = h.3.3 in
    let uses_them = defines.3 in
    let holds = uses_them.3 in
    let fits = parts_fit h.3.0 defines.0 uses_them.0 holds.0 h.3.1 defines.1 defines.1 uses_them.1 uses_them.1 holds.1
    (matches_reads definitions h.3.1 defines.0 defines.1 defines.2) (matches_reads uses defines.1 uses_them.0 uses_them.1 uses_them.2)
    (matches_reads (contents h.3.0.funcs) uses_them.1 holds.0 holds.1 holds.2) in
    subst (λ (m : ModuleParts). Fits m.tree m.places) (sym holds.3.0) fits

fit_on : (Q : ℕ → Type 0) → GivesOn Q (ItemHas IsFit) core_module
unfolding core_module module_file
fit_on Q s x t bytes m =
    let read = m.0 in
    let of_module = window m.2.0 module_why.Truncated m.2.1 in
    let fits = module_fits of_module read m.2.3.2.0 m.2.3.2.1 in
    let range = memories_in_range of_module read m.2.3.2.0 m.2.3.2.1 in
    let fit = valid_fit read.tree (untyped read.tree read.places) m.1 m.3.0 m.3.1 range (told_or_typed read.tree read.places fits).0 m.3.2 in
    subst (ItemHas IsFit) (sym m.3.3.0) (module_has IsFit m.3.0 fit)

any_bytes : (bytes : List ℕ) → AllByRecursion (λ b. Unit {0}) bytes
any_bytes [] = tt
any_bytes (b ∷ bytes) = (tt, any_bytes bytes)

pub read_modules_are_typed : ReadModulesAreTyped
read_modules_are_typed bytes c m read stands = component_has IsFit (λ b. Unit {0}) (fit_on (λ b. Unit {0})) bytes c (any_bytes bytes) read m stands

-- Their data are bytes of the file.
valid_bytes : (tree : ModuleTree) (o : Option ValidFault) (s : Span ComponentWhy) (x : ModuleTree) (t : Span ComponentWhy) → HasBytes tree → Matches (validated tree o) s x t → HasBytes x
valid_bytes tree None s x t h m = subst HasBytes (sym m.0) h
valid_bytes tree (Some fault) s x t h m = absurd m

bytes_on : GivesOn IsByte (ItemHas HasBytes) core_module
unfolding core_module module_file
bytes_on s x t bytes m =
    let read = m.0 in
    let at_module = take_bytes IsByte m.2.0 m.2.1.bytes (matches_bytes IsByte Left s m.2.0 m.2.1 bytes m.2.2) in
    let has_bytes = module_has_bytes (window m.2.0 module_why.Truncated m.2.1) read m.2.3.2.0 at_module m.2.3.2.1 in
    subst (ItemHas HasBytes) (sym m.3.3.0) (module_has HasBytes m.3.0 (valid_bytes read.tree (untyped read.tree read.places) m.1 m.3.0 m.3.1 has_bytes m.3.2))

pub read_data_are_bytes : ReadDataAreBytes
read_data_are_bytes bytes c m h read stands = component_has HasBytes IsByte bytes_on bytes c h read m stands

-- So they are sound.
pub read_modules_are_sound : ReadModulesAreSound
read_modules_are_sound bytes c h read m stands =
    let fit = read_modules_are_typed bytes c m read stands in
    record { typed = fit.0; in_range = fit.1; bytes = read_data_are_bytes bytes c m h read stands }
