-- Words of context and representations (Component Model, CanonicalABI.md, `canon context.get`, `canon context.set` and `canon
-- resource.rep`): these are answered also where the instance may not be left, for the task that the code acts for.
use Rattle.std.specs.Prelude.{ℕ, List, [], ◌∷◌, Option, Some, None}
use Rattle.std.specs.List.{slice_get}
use Rattle.std.specs.Option.{option_and_then}
use Rattle.builtin_kinds.specs.declared.ContextOp.{ContextOp}
use Rattle.builtin_kinds.specs.declared.ContextOp.TheVariants as context_op
use Rattle.builtin_kinds.specs.declared.ResourceOp.{ResourceOp}
use Rattle.builtin_kinds.specs.declared.ResourceOp.TheVariants as resource_op
use Rattle.comp_graph.specs.declared.graph.BuiltinKind.{BuiltinKind}
use Rattle.comp_graph.specs.declared.graph.BuiltinKind.TheVariants as kind
use Rattle.comp_graph.specs.declared.graph.CanonFunc.{CanonFunc}
use Rattle.comp_graph.specs.declared.graph.CanonFunc.TheVariants as canon
use Rattle.world_parts.specs.Held.{Held, Done, Gives, after, given}
use Rattle.world_parts.specs.Slots.{small, context_of, context_set}
use Rattle.world_parts.specs.Entries.{rep_found}

-- the first word of a call, which is a 32-bit one
abbrev pub first_word : List ℕ → Option ℕ
first_word words = option_and_then small (slice_get words 0)

-- The answer of such a function, which an instance made, to a task, with its words; nothing of another one.
abbrev pub context_answer : ℕ → List ℕ → ContextOp → ℕ → Held → Done (Option (List ℕ))
context_answer t words context_op.Get slot h = after (context_of t slot h) (λ word k. Gives (Some (word ∷ [])) k)
context_answer t words context_op.Set slot h = given (first_word words) (λ word. after (context_set t slot word h) (λ done k. Gives (Some []) k))

abbrev pub resource_answer : ℕ → List ℕ → ResourceOp → ℕ → Held → Done (Option (List ℕ))
resource_answer at words resource_op.New resource h = Gives None h
resource_answer at words resource_op.Drop resource h = Gives None h
resource_answer at words resource_op.Rep resource h =
    given (first_word words) (λ index. after (rep_found at index resource h) (λ rep k. Gives (Some (rep ∷ [])) k))

abbrev pub builtin_answer : ℕ → List ℕ → ℕ → BuiltinKind → Held → Done (Option (List ℕ))
builtin_answer t words at (kind.Resource op resource) h = resource_answer at words op resource h
builtin_answer t words at (kind.TaskReturn result options) h = Gives None h
builtin_answer t words at (kind.Plain op) h = Gives None h
builtin_answer t words at (kind.Context op slot) h = context_answer t words op slot h
builtin_answer t words at (kind.Wait op cancellable memory) h = Gives None h
builtin_answer t words at (kind.End of_what element op) h = Gives None h

abbrev pub exempt_answer : ℕ → List ℕ → CanonFunc → Held → Done (Option (List ℕ))
exempt_answer t words (canon.Lower l) h = Gives None h
exempt_answer t words (canon.Builtin b) h = builtin_answer t words b.instance b.kind h
