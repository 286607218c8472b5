-- Execution and validation say the same, instruction by instruction.
use Rattle.std.proofs.Common.{refl}
use Rattle.syntax_trees.specs.declared.instr.Width.TheVariants.{W32, W64}
use Rattle.syntax_trees.specs.declared.instr.NumericOp.TheVariants.{Eqz, Relation, Unary, Binary, WrapI64, ExtendI32S, ExtendI32U, I64Extend32S}
use Rattle.syntax_trees.specs.declared.instr.LoadOp.TheVariants.{I32Load, I64Load, I32Load8S, I32Load8U, I32Load16S, I32Load16U, I64Load8S, I64Load8U, I64Load16S, I64Load16U, I64Load32S, I64Load32U}
use Rattle.syntax_trees.specs.declared.instr.StoreOp.TheVariants.{I32Store, I64Store, I32Store8, I32Store16, I64Store8, I64Store16, I64Store32}
use Rattle.machine_tests.specs.Agreement.{NumericTypesAgree, LoadsAgree, StoresAgree}

pub numeric_agree : NumericTypesAgree
numeric_agree (Eqz W32) = refl
numeric_agree (Eqz W64) = refl
numeric_agree (Relation W32 op) = refl
numeric_agree (Relation W64 op) = refl
numeric_agree (Unary W32 op) = refl
numeric_agree (Unary W64 op) = refl
numeric_agree (Binary W32 op) = refl
numeric_agree (Binary W64 op) = refl
numeric_agree WrapI64 = refl
numeric_agree ExtendI32S = refl
numeric_agree ExtendI32U = refl
numeric_agree I64Extend32S = refl

pub loads_agree : LoadsAgree
loads_agree I32Load = (λ n h. h, refl)
loads_agree I64Load = (λ n h. h, refl)
loads_agree I32Load8S = (λ n h. h, refl)
loads_agree I32Load8U = (λ n h. h, refl)
loads_agree I32Load16S = (λ n h. h, refl)
loads_agree I32Load16U = (λ n h. h, refl)
loads_agree I64Load8S = (λ n h. h, refl)
loads_agree I64Load8U = (λ n h. h, refl)
loads_agree I64Load16S = (λ n h. h, refl)
loads_agree I64Load16U = (λ n h. h, refl)
loads_agree I64Load32S = (λ n h. h, refl)
loads_agree I64Load32U = (λ n h. h, refl)

pub stores_agree : StoresAgree
stores_agree I32Store n = refl
stores_agree I64Store n = refl
stores_agree I32Store8 n = refl
stores_agree I32Store16 n = refl
stores_agree I64Store8 n = refl
stores_agree I64Store16 n = refl
stores_agree I64Store32 n = refl
