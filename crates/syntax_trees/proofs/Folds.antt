-- What a fold over types gives for a field, for a case, and for types whose parts may be absent.
use Rattle.std.proofs.Common.{◌≡◌, ◌∙◌, refl, Option, Some, None}
use Rattle.syntax_trees.specs.declared.types.ValType.{ValType}
use Rattle.syntax_trees.specs.declared.types.Case.{Case}
use Rattle.syntax_trees.specs.declared.types.Field.{Field}
use Rattle.syntax_trees.specs.declared.types.ValType.TheViews.{roll-ValType}
use Rattle.syntax_trees.specs.declared.types.ValType.TheOpen as F
use Rattle.syntax_trees.specs.declared.types.ValType.TheFolds.{fold-ValType, fold-roll-ValType, fold-Case, fold-Field, fold_out-Case, fold_out-Field, map-Case}

-- a part that may be absent
abbrev pub held : {A B : Type 0} → (A → B) → Option A → Option B
held f (Some p) = Some (f p)
held f None = None

module _ (A C B : Type 0) (s : F.ValType-F A C B → A) (sc : F.Case-F A C B → C) (sf : F.Field-F A C B → B) where
  pub fold_case : (c : Case) → fold-Case A C B s sc sf c ≡ sc (record { label = c.label; payload = held (fold-ValType A C B s sc sf) c.payload })
  fold_case c =
      fold_out-Case A C B s sc sf c
      ∙ elim c.payload as (λ p. sc (map-Case ValType Case Field A C B (fold-ValType A C B s sc sf) (fold-Case A C B s sc sf) (fold-Field A C B s sc sf) (record { label = c.label; payload = p }))
      ≡ sc (record { label = c.label; payload = held (fold-ValType A C B s sc sf) p })) [ Some p ↦ refl | None ↦ refl ]

  pub fold_field : (f : Field) → fold-Field A C B s sc sf f ≡ sf (record { label = f.label; val_type = fold-ValType A C B s sc sf f.val_type })
  fold_field f = fold_out-Field A C B s sc sf f

  pub fold_result : (ok err : Option ValType)
      → fold-ValType A C B s sc sf (roll-ValType (F.Result ok err)) ≡ s (F.Result (held (fold-ValType A C B s sc sf) ok) (held (fold-ValType A C B s sc sf) err))
  fold_result (Some p) (Some q) = fold-roll-ValType A C B s sc sf (F.Result (Some p) (Some q))
  fold_result (Some p) None = fold-roll-ValType A C B s sc sf (F.Result (Some p) None)
  fold_result None (Some q) = fold-roll-ValType A C B s sc sf (F.Result None (Some q))
  fold_result None None = fold-roll-ValType A C B s sc sf (F.Result None None)

  pub fold_stream : (e : Option ValType)
      → fold-ValType A C B s sc sf (roll-ValType (F.Stream e)) ≡ s (F.Stream (held (fold-ValType A C B s sc sf) e))
  fold_stream (Some p) = fold-roll-ValType A C B s sc sf (F.Stream (Some p))
  fold_stream None = fold-roll-ValType A C B s sc sf (F.Stream None)

  pub fold_future : (e : Option ValType)
      → fold-ValType A C B s sc sf (roll-ValType (F.Future e)) ≡ s (F.Future (held (fold-ValType A C B s sc sf) e))
  fold_future (Some p) = fold-roll-ValType A C B s sc sf (F.Future (Some p))
  fold_future None = fold-roll-ValType A C B s sc sf (F.Future None)
