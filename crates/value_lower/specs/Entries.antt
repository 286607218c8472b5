-- What is entered for a value that is told by an index (Component Model, CanonicalABI.md, `lower_own`, `lower_borrow`, `lower_stream` and
-- `lower_future`).
use Rattle.syntax_trees.specs.declared.types.ValType.{ValType}
use Rattle.value_lower.specs.declared.new_entry.NewEntry.{NewEntry}
use Rattle.value_lower.specs.declared.new_entry.NewEntry.TheVariants as entry
use Rattle.value_lower.specs.Plan.{New, NewOwn, NewBorrow, NewEnd}

-- what is new, for a value of this type
abbrev pub new_of : NewEntry → ValType → New
new_of (entry.Own handle) type = NewOwn handle.resource handle.rep
new_of (entry.Borrow handle) type = NewBorrow handle.resource handle.rep
new_of (entry.End number) type = NewEnd type number
