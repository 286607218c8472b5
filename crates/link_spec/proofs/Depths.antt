-- Shallow types: those that the test passes, and primitive types, which have depth 1.
use Rattle.std.proofs.Common.{◌≡◌, ◌≤◌, ℕ, true, nat_le, subst, arith}
use Rattle.std.proofs.lemmas.Bool.Decides.{nat_tests}
use Rattle.syntax_trees.specs.declared.types.ValType.{ValType, roll-ValType}
use Rattle.syntax_trees.specs.declared.types.ValType.TheOpen as F
use Rattle.syntax_trees.specs.declared.types.ValType.TheViews.{rolls-Bool, rolls-S8, rolls-U8, rolls-S16, rolls-U16, rolls-S32, rolls-U32, rolls-S64, rolls-U64, rolls-Char, rolls-String}
use Rattle.syntax_trees.specs.declared.types.ValType.TheFolds.{fold-roll-ValType}
use Rattle.laid_types.specs.Depth.{depth, depth_step, depth_case, depth_field}
use Rattle.comp_tree.specs.declared.types.PrimValType.{PrimValType}
use Rattle.comp_tree.specs.declared.types.PrimValType.TheVariants as prim
use Rattle.link_spec.specs.Shallow.{IsShallow}
use Rattle.link_spec.specs.ValueTypes.{primitive}

pub at_most : (a b : ℕ) → nat_le a b ≡ true → a ≤ b
at_most a b h = grind (arith, nat_tests)

as_rolled : (rolled type : ValType) (n : ℕ) → rolled ≡ type → depth rolled ≡ n → depth type ≡ n
as_rolled rolled type n e h = subst (λ (t : ValType). depth t ≡ n) e h

pub leaf_depth : (type : PrimValType) → depth (primitive type) ≡ 1
leaf_depth prim.Bool = as_rolled (roll-ValType F.Bool) (primitive prim.Bool) 1 rolls-Bool (fold-roll-ValType ℕ ℕ ℕ depth_step depth_case depth_field F.Bool)
leaf_depth prim.S8 = as_rolled (roll-ValType F.S8) (primitive prim.S8) 1 rolls-S8 (fold-roll-ValType ℕ ℕ ℕ depth_step depth_case depth_field F.S8)
leaf_depth prim.U8 = as_rolled (roll-ValType F.U8) (primitive prim.U8) 1 rolls-U8 (fold-roll-ValType ℕ ℕ ℕ depth_step depth_case depth_field F.U8)
leaf_depth prim.S16 = as_rolled (roll-ValType F.S16) (primitive prim.S16) 1 rolls-S16 (fold-roll-ValType ℕ ℕ ℕ depth_step depth_case depth_field F.S16)
leaf_depth prim.U16 = as_rolled (roll-ValType F.U16) (primitive prim.U16) 1 rolls-U16 (fold-roll-ValType ℕ ℕ ℕ depth_step depth_case depth_field F.U16)
leaf_depth prim.S32 = as_rolled (roll-ValType F.S32) (primitive prim.S32) 1 rolls-S32 (fold-roll-ValType ℕ ℕ ℕ depth_step depth_case depth_field F.S32)
leaf_depth prim.U32 = as_rolled (roll-ValType F.U32) (primitive prim.U32) 1 rolls-U32 (fold-roll-ValType ℕ ℕ ℕ depth_step depth_case depth_field F.U32)
leaf_depth prim.S64 = as_rolled (roll-ValType F.S64) (primitive prim.S64) 1 rolls-S64 (fold-roll-ValType ℕ ℕ ℕ depth_step depth_case depth_field F.S64)
leaf_depth prim.U64 = as_rolled (roll-ValType F.U64) (primitive prim.U64) 1 rolls-U64 (fold-roll-ValType ℕ ℕ ℕ depth_step depth_case depth_field F.U64)
leaf_depth prim.Char = as_rolled (roll-ValType F.Char) (primitive prim.Char) 1 rolls-Char (fold-roll-ValType ℕ ℕ ℕ depth_step depth_case depth_field F.Char)
leaf_depth prim.String = as_rolled (roll-ValType F.String) (primitive prim.String) 1 rolls-String (fold-roll-ValType ℕ ℕ ℕ depth_step depth_case depth_field F.String)

pub leaf_shallow : (type : PrimValType) → IsShallow (primitive type)
leaf_shallow type = let one = leaf_depth type in omega (arith, one)
