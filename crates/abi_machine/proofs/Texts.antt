-- Texts that are copied: two of them stand one behind the other.
use Rattle.std.proofs.Common.{◌≡◌, true, [], ◌∷◌, ◌++◌, replicate, refl}
use Rattle.std.specs.Prelude.{Ok}
use Rattle.std.specs.Str.{is_utf8}
use Rattle.std.proofs.lemmas.Str.{is_utf8-from_IsUtf8}
use lib.Utf8.{encode}
use Rattle.syntax_trees.specs.declared.types.ValType.TheOpen as F
use Rattle.syntax_trees.specs.declared.value.Value.TheVariants as plain
use Rattle.value_lift.specs.declared.counting.LiftOf.TheVariants as whole
use Rattle.value_lift.specs.Lifting.{most}
use Rattle.abi_machine.specs.LiftingOver.{part_step, elements_of}
use Rattle.abi_machine.specs.World.{World}
use Rattle.abi_machine.specs.Lifting.{by_world, nothing_lifted}
use Rattle.abi_machine.specs.examples.Transfers.{two_texts}

ab_is : is_utf8 (97 ∷ 98 ∷ []) ≡ true
unfolding encode
ab_is = is_utf8-from_IsUtf8 (97 ∷ 98 ∷ []) (97 ∷ 98 ∷ [], (refl, refl))

cd_is : is_utf8 (99 ∷ 100 ∷ []) ≡ true
unfolding encode
cd_is = is_utf8-from_IsUtf8 (99 ∷ 100 ∷ []) (99 ∷ 100 ∷ [], (refl, refl))

pub texts_lifted : (w : World)
    → elements_of (by_world 0 1) (part_step (by_world 0 1) F.String) 16 2 (replicate 16 0 ++ two_texts) 16 (nothing_lifted (most whole.Value) w)
    ≡ Ok (plain.String (97 ∷ 98 ∷ []) ∷ plain.String (99 ∷ 100 ∷ []) ∷ [], record { left = 134217722; lines = []; world = w })
texts_lifted w = simp (ab_is, cd_is) refl
