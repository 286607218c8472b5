-- The words of a call of a canonical function that are read one by one are there, and 32-bit ones, where it is called with words of its parameters.
use Rattle.std.proofs.Common.{◌<◌, ℕ, zero, suc, ◌^◌, Bool, is_some, if◌then◌else◌, List, [], ◌∷◌, ap, arith, Some, None}
use Rattle.std.specs.Prelude.{IsSome, replicate}
use Rattle.std.proofs.lemmas.Bool.{lt-ltb}
use Rattle.syntax_trees.specs.declared.module_types.ValType.TheVariants.{I32}
use Rattle.wasm_numbers.specs.Types.{AreWords}
use Rattle.builtin_kinds.specs.declared.ContextOp.TheVariants as context_op
use Rattle.builtin_kinds.specs.declared.EndKind.TheVariants as end_kind
use Rattle.builtin_kinds.specs.declared.PlainBuiltin.TheVariants as plain
use Rattle.builtin_kinds.specs.declared.ResourceOp.TheVariants as resource_op
use Rattle.comp_graph.specs.declared.graph.BuiltinKind.{BuiltinKind}
use Rattle.comp_graph.specs.declared.graph.BuiltinKind.TheVariants as kind
use Rattle.comp_graph.specs.declared.graph.CanonFunc.{CanonFunc}
use Rattle.comp_graph.specs.declared.graph.CanonFunc.TheVariants as canon
use Rattle.comp_graph.specs.declared.graph.EndOp.TheVariants as end_op
use Rattle.comp_graph.specs.Graph.{builtin_type, canon_type}
use Rattle.world_parts.specs.Slots.{word_in}
use Rattle.run_laws.specs.Answering.{words_of_kind, HasWordsFor}

abbrev HasSome : ℕ → List ℕ → Type 0
HasSome count words = (n : ℕ) → n < count → IsSome (word_in words n)

pub taken_words : (count : ℕ) (words : List ℕ) → AreWords (replicate count I32) words → HasSome count words
taken_words zero words h n less = absurd (omega (arith, less))
taken_words (suc count) [] h n less = absurd h
taken_words (suc count) (x ∷ words) h zero less = ap (λ (b : Bool). is_some (if b then Some x else None)) (lt-ltb x (2 ^ 32) h.0)
taken_words (suc count) (x ∷ words) h (suc n) less = taken_words count words h.1 n (omega (arith, less))

no_words : (words : List ℕ) → HasSome 0 words
no_words words n less = absurd (omega (arith, less))

kind_has : (k : BuiltinKind) (words : List ℕ) → AreWords (builtin_type k).params words → HasSome (words_of_kind k) words
kind_has (kind.Resource resource_op.New resource) words h = taken_words 1 words h
kind_has (kind.Resource resource_op.Drop resource) words h = taken_words 1 words h
kind_has (kind.Resource resource_op.Rep resource) words h = taken_words 1 words h
kind_has (kind.TaskReturn result options) words h = no_words words
kind_has (kind.Plain plain.TaskCancel) words h = no_words words
kind_has (kind.Plain plain.BackpressureSet) words h = taken_words 1 words h
kind_has (kind.Plain plain.BackpressureInc) words h = no_words words
kind_has (kind.Plain plain.BackpressureDec) words h = no_words words
kind_has (kind.Plain (plain.SubtaskCancel is_async)) words h = taken_words 1 words h
kind_has (kind.Plain plain.SubtaskDrop) words h = taken_words 1 words h
kind_has (kind.Plain (plain.Yield cancellable)) words h = no_words words
kind_has (kind.Plain plain.WaitableSetNew) words h = no_words words
kind_has (kind.Plain plain.WaitableSetDrop) words h = taken_words 1 words h
kind_has (kind.Plain plain.WaitableJoin) words h = taken_words 2 words h
kind_has (kind.Context context_op.Get slot) words h = no_words words
kind_has (kind.Context context_op.Set slot) words h = taken_words 1 words h
kind_has (kind.Wait op cancellable memory) words h = taken_words 2 words h
kind_has (kind.End of_what element end_op.New) words h = no_words words
kind_has (kind.End end_kind.Stream element (end_op.Copy side options)) words h = taken_words 3 words h
kind_has (kind.End end_kind.Future element (end_op.Copy side options)) words h = taken_words 2 words h
kind_has (kind.End of_what element (end_op.Cancel side is_async)) words h = taken_words 1 words h
kind_has (kind.End of_what element (end_op.Drop side)) words h = taken_words 1 words h

pub has_words : (c : CanonFunc) (words : List ℕ) → AreWords (canon_type c).params words → HasWordsFor c words
has_words (canon.Lower l) words h = no_words words
has_words (canon.Builtin b) words h = kind_has b.kind words h
