-- The options of canonical functions by their kinds (Component Model, CanonicalABI.md, "Canonical ABI Options").
use Rattle.std.specs.Prelude.{ℕ, Bool, is_some, Option, None}
use Rattle.comp_tree.specs.declared.items.CanonOption.{CanonOption}
use Rattle.link_spec.specs.Canons.{is_utf8, is_async, memory_index, realloc_index, post_return_index, callback_index}
use Rattle.canon_types.specs.declared.options.Kind.{Kind}
use Rattle.canon_types.specs.declared.options.Kind.TheVariants as kind

-- the index that an option of a kind has
abbrev pub kind_index : Kind → CanonOption → Option ℕ
kind_index kind.Utf8 = λ o. None
kind_index kind.Memory = memory_index
kind_index kind.Realloc = realloc_index
kind_index kind.PostReturn = post_return_index
kind_index kind.Async = λ o. None
kind_index kind.Callback = callback_index

abbrev pub is_of_kind : Kind → CanonOption → Bool
is_of_kind kind.Utf8 = is_utf8
is_of_kind kind.Memory = λ o. is_some (memory_index o)
is_of_kind kind.Realloc = λ o. is_some (realloc_index o)
is_of_kind kind.PostReturn = λ o. is_some (post_return_index o)
is_of_kind kind.Async = is_async
is_of_kind kind.Callback = λ o. is_some (callback_index o)
