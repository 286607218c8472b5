-- A pipe: a component in which a producer writes numbers to a stream, at most 7 a write, and a consumer in another instance reads them, at most 5 a
-- read, until it is told that the stream was dropped. The first number is 1103515245 times the seed and 12345 modulo 2^31, and each other one follows
-- likewise from the one before it. The root is the consumer; its one function that can be called is `run ()`.
use Rattle.std.specs.Prelude.{ℕ, List, [], ◌∷◌, ◌++◌}
use Rattle.std.specs.Int.{w32, to_le_bytes}
use Rattle.comp_make.specs.declared.build.BuildItem.{BuildItem}
use Rattle.comp_make.specs.declared.build.BuildItem.TheVariants.{Section}
use Rattle.comp_make.specs.Component.{component_bytes}
use Rattle.comp_make.specs.PipeParts.{memory_module, producer_code, consumer_code, memory_instance, memory_alias, producer_types, producer_canons, producer_instances, producer_alias, lift, producer_export, producer_instance, numbers_alias, consumer_types, consumer_canons, consumer_instances, consumer_alias, consumer_export}

-- the core module of the producer: behind its code the two numbers, as the bytes of its memory from 0 on
abbrev pub producer_module : ℕ → ℕ → List ℕ
producer_module seed count = producer_code ++ to_le_bytes w32 seed ++ to_le_bytes w32 count

-- what the memory stands in, in each of the two components, behind its core modules
abbrev pub memory_items : List BuildItem
memory_items = Section 2 memory_instance ∷ Section 6 memory_alias ∷ []

-- the producer: its core modules,
abbrev pub producer_modules : ℕ → ℕ → List BuildItem
producer_modules seed count = Section 1 memory_module ∷ Section 1 (producer_module seed count) ∷ []

-- its core instance, with what that is given,
abbrev pub producer_insides : List BuildItem
producer_insides = Section 7 producer_types ∷ Section 8 producer_canons ∷ Section 2 producer_instances ∷ []

-- and the function that it offers
abbrev pub producer_offers : List BuildItem
producer_offers = Section 6 producer_alias ∷ Section 8 lift ∷ Section 11 producer_export ∷ []

unfoldable pub producer_tree : ℕ → ℕ → List BuildItem
producer_tree seed count = producer_modules seed count ++ memory_items ++ producer_insides ++ producer_offers

-- the consumer: its core modules,
abbrev pub consumer_modules : List BuildItem
consumer_modules = Section 1 memory_module ∷ Section 1 consumer_code ∷ []

-- an instance of the producer, which stands in this component, and the function that it offers,
abbrev pub producer_items : ℕ → ℕ → List BuildItem
producer_items seed count = Section 4 (component_bytes (producer_tree seed count)) ∷ Section 5 producer_instance ∷ Section 6 numbers_alias ∷ []

-- its core instance, with what that is given,
abbrev pub consumer_insides : List BuildItem
consumer_insides = Section 7 consumer_types ∷ Section 8 consumer_canons ∷ Section 2 consumer_instances ∷ []

-- and the function that can be called
abbrev pub consumer_offers : List BuildItem
consumer_offers = Section 6 consumer_alias ∷ Section 8 lift ∷ Section 11 consumer_export ∷ []

-- the pipe of a seed and so many numbers
unfoldable pub pipe_tree : ℕ → ℕ → List BuildItem
pipe_tree seed count = consumer_modules ++ producer_items seed count ++ memory_items ++ consumer_insides ++ consumer_offers
