-- The places of a module's parts: there is one for each part that a validation can refuse.
use Rattle.std.specs.Prelude.{◌≡◌, ◌+◌, length, map, is_some}
use Rattle.syntax_trees.specs.declared.module.ModuleTree.{ModuleTree}
use Rattle.wasm_typing.specs.declared.module_places.ModulePlaces.{ModulePlaces}
use Rattle.syntax_trees.specs.Expr.{op_count}

-- These are the places of that tree's parts, as far as their numbers tell. Of a constant expression each instruction has
-- one, and its end.
pub record Fits (tree : ModuleTree) (places : ModulePlaces) : Type 0 where
  pub imports : length places.imports ≡ length tree.imports
  -- each operation of each body
  pub funcs : map (λ p. length p.ops) places.funcs ≡ map (λ f. op_count f.body) tree.funcs
  pub tables : length places.tables ≡ length tree.tables
  pub memories : length places.memories ≡ length tree.memories
  -- each initial value
  pub globals : map (λ p. length p.init) places.globals ≡ map (λ g. length g.init + 1) tree.globals
  pub exports : length places.exports ≡ length tree.exports
  pub start : is_some places.start ≡ is_some tree.start
  -- each offset, and each index of a function
  pub element_offsets : map (λ p. length p.offset) places.element_segments ≡ map (λ s. length s.offset + 1) tree.element_segments
  pub element_funcs : map (λ p. length p.funcs) places.element_segments ≡ map (λ s. length s.funcs) tree.element_segments
  -- each offset
  pub data_offsets : map (λ p. length p.offset) places.data_segments ≡ map (λ s. length s.offset + 1) tree.data_segments
