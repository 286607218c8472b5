-- Words of context and representations that are answered leave the store alone, and no handle is lent more often.
use Rattle.std.proofs.Common.{◌≡◌, refl}
use Rattle.std.specs.Prelude.{ℕ, List, [], ◌∷◌, Option, Some, None}
use Rattle.std.specs.List.{slice_get}
use Rattle.std.specs.Option.{option_and_then}
use Rattle.builtin_kinds.specs.declared.ContextOp.{ContextOp}
use Rattle.builtin_kinds.specs.declared.ContextOp.TheVariants as context_op
use Rattle.builtin_kinds.specs.declared.ResourceOp.{ResourceOp}
use Rattle.builtin_kinds.specs.declared.ResourceOp.TheVariants as resource_op
use Rattle.comp_graph.specs.declared.graph.BuiltinKind.{BuiltinKind}
use Rattle.comp_graph.specs.declared.graph.BuiltinKind.TheVariants as kind
use Rattle.comp_graph.specs.declared.graph.CanonFunc.{CanonFunc}
use Rattle.comp_graph.specs.declared.graph.CanonFunc.TheVariants as canon
use Rattle.world_parts.specs.Held.{Held, Done, Gives, after, given}
use Rattle.world_parts.specs.Slots.{small, context_of, context_set}
use Rattle.world_parts.specs.Entries.{rep_found}
use Rattle.world_stacks.specs.Exempt.{builtin_answer, context_answer, exempt_answer, first_word, resource_answer}
use Rattle.value_parts.proofs.fit.Keeps.{Keeps, KeepsBy, keeps_after, keeps_given, keeps_if, keeps_same, keeps_all, keeps_from}
use Rattle.value_parts.proofs.fit.Entries.{rep_found_keeps}
use Rattle.value_parts.proofs.fit.Slots.{context_of_keeps, context_set_keeps}

pub context_answer_keeps : (t : ℕ) (words : List ℕ) (x : ContextOp) (slot : ℕ) (h : Held) → KeepsBy h (context_answer t words x slot h)
context_answer_keeps t words context_op.Get slot h =
    keeps_after h (context_of t slot h) (λ word k. Gives (Some (word ∷ [])) k) (context_of_keeps t slot h) (λ word k. keeps_same k)
context_answer_keeps t words context_op.Set slot h =
    keeps_given h (first_word words) (λ word. after (context_set t slot word h) (λ done k. Gives (Some []) k)) (λ word is. keeps_after h (context_set t slot word h) (λ done k. Gives (Some []) k) (context_set_keeps t slot word h) (λ done k. keeps_same k))

pub resource_answer_keeps : (at : ℕ) (words : List ℕ) (x : ResourceOp) (resource : ℕ) (h : Held) → KeepsBy h (resource_answer at words x resource h)
resource_answer_keeps at words resource_op.New resource h =
    keeps_same h
resource_answer_keeps at words resource_op.Drop resource h =
    keeps_same h
resource_answer_keeps at words resource_op.Rep resource h =
    keeps_given h (first_word words) (λ index. after (rep_found at index resource h) (λ rep k. Gives (Some (rep ∷ [])) k)) (λ index is. keeps_after h (rep_found at index resource h) (λ rep k. Gives (Some (rep ∷ [])) k) (rep_found_keeps at index resource h) (λ rep k. keeps_same k))

pub builtin_answer_keeps : (t : ℕ) (words : List ℕ) (at : ℕ) (x : BuiltinKind) (h : Held) → KeepsBy h (builtin_answer t words at x h)
builtin_answer_keeps t words at (kind.Resource op resource) h =
    resource_answer_keeps at words op resource h
builtin_answer_keeps t words at (kind.TaskReturn result options) h =
    keeps_same h
builtin_answer_keeps t words at (kind.Plain op) h =
    keeps_same h
builtin_answer_keeps t words at (kind.Context op slot) h =
    context_answer_keeps t words op slot h
builtin_answer_keeps t words at (kind.Wait op cancellable memory) h =
    keeps_same h
builtin_answer_keeps t words at (kind.End of_what element op) h =
    keeps_same h

pub exempt_answer_keeps : (t : ℕ) (words : List ℕ) (x : CanonFunc) (h : Held) → KeepsBy h (exempt_answer t words x h)
exempt_answer_keeps t words (canon.Lower l) h =
    keeps_same h
exempt_answer_keeps t words (canon.Builtin b) h =
    builtin_answer_keeps t words b.instance b.kind h
