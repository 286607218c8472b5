-- The addresses of core definitions (Core 2.0, section 4.2; Component Model, CanonicalABI.md, "Canonical ABI Options"). The core instance of
-- number k has address k, and so has the canonical function of number k.
use Rattle.std.specs.Prelude.{ℕ, List, [], ◌∷◌, Option, Some}
use Rattle.std.specs.List.{slice_get}
use Rattle.std.specs.Option.{option_and_then, option_map}
use Rattle.wasm_store.specs.Store.{Store, Instance}
use Rattle.wasm_store.specs.Instantiation.{External, FuncAddress, TableAddress, MemoryAddress, GlobalAddress}
use Rattle.comp_graph.specs.declared.graph.CoreRef.{CoreRef}
use Rattle.comp_graph.specs.declared.graph.FuncRef.{FuncRef}
use Rattle.comp_graph.specs.declared.graph.FuncRef.TheVariants as func_ref
use Rattle.comp_graph.specs.declared.graph.CoreExtern.{CoreExtern}
use Rattle.comp_graph.specs.declared.graph.CoreExtern.TheVariants as extern
use Rattle.comp_graph.specs.declared.graph.Options.{Options}

abbrev pub address_in : (Instance → List ℕ) → Store → CoreRef → Option ℕ
address_in space s f = option_and_then (λ i. slice_get (space i) f.index) (slice_get s.instances f.instance)

abbrev pub func_address : Store → FuncRef → Option ℕ
func_address s (func_ref.Instance f) = address_in (λ i. i.funcs) s f
func_address s (func_ref.Canon number) = Some number

-- what an import is, by its address, and what all imports are, where each has one
abbrev pub external_of : Store → CoreExtern → Option External
external_of s (extern.Func f) = option_map FuncAddress (func_address s f)
external_of s (extern.Table t) = option_map TableAddress (address_in (λ i. i.tables) s t)
external_of s (extern.Memory m) = option_map MemoryAddress (address_in (λ i. i.memories) s m)
external_of s (extern.Global g) = option_map GlobalAddress (address_in (λ i. i.globals) s g)

abbrev pub externals : Store → List CoreExtern → Option (List External)
externals s [] = Some []
externals s (e ∷ others) = option_and_then (λ first. option_map (λ more. first ∷ more) (externals s others)) (external_of s e)

-- the addresses that options give, where they give any
abbrev pub memory_of : Store → Options → Option ℕ
memory_of s options = option_and_then (address_in (λ i. i.memories) s) options.memory

abbrev pub realloc_of : Store → Options → Option ℕ
realloc_of s options = option_and_then (func_address s) options.realloc
