-- What a fold over types gives for a type, from its outer layer.
use mathlib.Core.Path.{fun_ext}
use Rattle.std.proofs.Common.{◌≡◌, ◌∙◌, ap}
use Rattle.syntax_trees.specs.declared.types.ValType.{ValType, fold-ValType, out-ValType}
use Rattle.syntax_trees.specs.declared.types.Case.{Case}
use Rattle.syntax_trees.specs.declared.types.Field.{Field}
use Rattle.syntax_trees.specs.declared.types.ValType.TheOpen as F
use Rattle.syntax_trees.specs.declared.types.ValType.TheFolds.{fold-Case, fold-Field, fold_out-ValType, map-ValType}

module _ (A C B : Type 0) (s : F.ValType-F A C B → A) (sc : F.Case-F A C B → C) (sf : F.Field-F A C B → B)
    (gc : Case → C) (gf : Field → B)
    (hc : (c : Case) → fold-Case A C B s sc sf c ≡ gc c) (hf : (f : Field) → fold-Field A C B s sc sf f ≡ gf f) where
  pub by_layer : (t : ValType) → fold-ValType A C B s sc sf t ≡ s (map-ValType ValType Case Field A C B (fold-ValType A C B s sc sf) gc gf (out-ValType t))
  by_layer t =
      fold_out-ValType A C B s sc sf t
      ∙ ap (λ (g : Case → C). s (map-ValType ValType Case Field A C B (fold-ValType A C B s sc sf) g (fold-Field A C B s sc sf) (out-ValType t))) (fun_ext hc)
      ∙ ap (λ (g : Field → B). s (map-ValType ValType Case Field A C B (fold-ValType A C B s sc sf) gc g (out-ValType t))) (fun_ext hf)
