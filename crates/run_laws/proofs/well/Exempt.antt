-- Words of context and representations that are answered: what is kept well stays so.
use Rattle.std.specs.Prelude.{ℕ, List, [], ◌∷◌, Some}
use Rattle.builtin_kinds.specs.declared.ContextOp.{ContextOp}
use Rattle.builtin_kinds.specs.declared.ContextOp.TheVariants as context_op
use Rattle.builtin_kinds.specs.declared.ResourceOp.{ResourceOp}
use Rattle.builtin_kinds.specs.declared.ResourceOp.TheVariants as resource_op
use Rattle.comp_graph.specs.declared.graph.BuiltinKind.{BuiltinKind}
use Rattle.comp_graph.specs.declared.graph.BuiltinKind.TheVariants as kind
use Rattle.comp_graph.specs.declared.graph.CanonFunc.{CanonFunc}
use Rattle.comp_graph.specs.declared.graph.CanonFunc.TheVariants as canon
use Rattle.world_parts.specs.Held.{Held, Gives, after}
use Rattle.world_parts.specs.Slots.{context_of, context_set}
use Rattle.world_parts.specs.Entries.{rep_found}
use Rattle.world_stacks.specs.Exempt.{builtin_answer, context_answer, exempt_answer, first_word, resource_answer}
use Rattle.run_laws.specs.keeping.Well.{KeepsWell}
use Rattle.run_laws.proofs.well.Entries.{rep_found_well}
use Rattle.run_laws.proofs.well.Slots.{context_of_well, context_set_well}
use Rattle.run_laws.proofs.well.Behind.{well_after, well_given, well_same}

pub context_answer_well : (t : ℕ) (words : List ℕ) (x : ContextOp) (slot : ℕ) (h : Held) → KeepsWell h (context_answer t words x slot h)
context_answer_well t words context_op.Get slot h =
    well_after h (context_of t slot h) (λ word k. Gives (Some (word ∷ [])) k) (context_of_well t slot h) (λ word k. well_same k)
context_answer_well t words context_op.Set slot h =
    well_given h (first_word words) (λ word. after (context_set t slot word h) (λ done k. Gives (Some []) k)) (λ word is. well_after h (context_set t slot word h) (λ done k. Gives (Some []) k) (context_set_well t slot word h) (λ done k. well_same k))

pub resource_answer_well : (at : ℕ) (words : List ℕ) (x : ResourceOp) (resource : ℕ) (h : Held) → KeepsWell h (resource_answer at words x resource h)
resource_answer_well at words resource_op.New resource h =
    well_same h
resource_answer_well at words resource_op.Drop resource h =
    well_same h
resource_answer_well at words resource_op.Rep resource h =
    well_given h (first_word words) (λ index. after (rep_found at index resource h) (λ rep k. Gives (Some (rep ∷ [])) k)) (λ index is. well_after h (rep_found at index resource h) (λ rep k. Gives (Some (rep ∷ [])) k) (rep_found_well at index resource h) (λ rep k. well_same k))

pub builtin_answer_well : (t : ℕ) (words : List ℕ) (at : ℕ) (x : BuiltinKind) (h : Held) → KeepsWell h (builtin_answer t words at x h)
builtin_answer_well t words at (kind.Resource op resource) h =
    resource_answer_well at words op resource h
builtin_answer_well t words at (kind.TaskReturn result options) h =
    well_same h
builtin_answer_well t words at (kind.Plain op) h =
    well_same h
builtin_answer_well t words at (kind.Context op slot) h =
    context_answer_well t words op slot h
builtin_answer_well t words at (kind.Wait op cancellable memory) h =
    well_same h
builtin_answer_well t words at (kind.End of_what element op) h =
    well_same h

pub exempt_answer_well : (t : ℕ) (words : List ℕ) (x : CanonFunc) (h : Held) → KeepsWell h (exempt_answer t words x h)
exempt_answer_well t words (canon.Lower l) h =
    well_same h
exempt_answer_well t words (canon.Builtin b) h =
    builtin_answer_well t words b.instance b.kind h
