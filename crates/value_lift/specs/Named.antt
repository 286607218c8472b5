-- The values that are told by an index (Component Model, CanonicalABI.md, "Loading", `lift_own`, `lift_borrow`, `lift_stream` and
-- `lift_future`): handles, and readable ends of streams and futures.
use Rattle.std.specs.Prelude.{ℕ, Option, Some, None}
use Rattle.syntax_trees.specs.declared.types.ValType.{ValType}
use Rattle.syntax_trees.specs.declared.types.ValType.TheOpen.{ValType-F}
use Rattle.syntax_trees.specs.declared.value.Value.{Value}
use Rattle.value_lift.specs.declared.named.Named.{Named}
use Rattle.value_lift.specs.declared.named.Named.TheVariants as named
use Rattle.value_lift.specs.Ledger.{What, AnOwn, ABorrow, AnEnd}
use Rattle.value_lift.specs.Over.{own_of, borrow_of, stream_of, future_of}

-- what the index of a value names, for the types whose values are told by one
abbrev pub named_in : {A B C : Type 0} → ValType-F A B C → Option Named
named_in (ValType-F.Own resource) = Some (named.Own resource)
named_in (ValType-F.Borrow resource) = Some (named.Borrow resource)
named_in (ValType-F.Stream element) = Some named.Stream
named_in (ValType-F.Future element) = Some named.Future
named_in _ = None

-- the same for a value of this type
abbrev pub what_named : Named → ValType → What
what_named (named.Own resource) type = AnOwn resource
what_named (named.Borrow resource) type = ABorrow resource
what_named named.Stream type = AnEnd type
what_named named.Future type = AnEnd type

-- the value, by the number that its index names
abbrev pub value_named : Named → ℕ → Value
value_named (named.Own resource) = own_of resource
value_named (named.Borrow resource) = borrow_of resource
value_named named.Stream = stream_of
value_named named.Future = future_of
