-- What an instruction needs of a store, of locals and of values (Core 2.0, section 4.4): its operands are there, words of
-- their types, and what it makes of the store is typed.
use Rattle.std.specs.Prelude.{◌≡◌, ℕ, Bool, true, false, List, [], ◌∷◌, ◌++◌, reverse, Option, Some, None}
use Rattle.syntax_trees.specs.declared.module_types.ValType.{ValType}
use Rattle.syntax_trees.specs.declared.module_types.ValType.TheVariants.{I32}
use Rattle.syntax_trees.specs.declared.instr.Instr.{Instr}
use Rattle.syntax_trees.specs.declared.instr.Instr.TheVariants as instr
use Rattle.wasm_typing.specs.Instrs.{store_takes}
use Rattle.wasm_numbers.specs.Types.{IsWord, AreWords, operand_types}
use Rattle.wasm_store.specs.declared.trap.Trap.{Trap}
use Rattle.wasm_store.specs.Store.{Instance, Store}
use Rattle.wasm_store.specs.Effects.{Effect, Leaves, Fails, NoRule, effect}
use Rattle.wasm_store.specs.Typed.{StoreTyped}

-- the types of operands that an instruction tells by itself, in order
abbrev pub told_types : Instr → List ValType
told_types (instr.Load op arg) = I32 ∷ []
told_types (instr.Store op arg) = I32 ∷ store_takes op ∷ []
told_types instr.MemoryGrow = I32 ∷ []
told_types instr.MemoryCopy = I32 ∷ I32 ∷ I32 ∷ []
told_types instr.MemoryFill = I32 ∷ I32 ∷ I32 ∷ []
told_types (instr.Numeric op) = operand_types op
told_types other = []

-- an instruction that accesses the memory
abbrev pub accesses_memory : Instr → Bool
accesses_memory (instr.Load op arg) = true
accesses_memory (instr.Store op arg) = true
accesses_memory instr.MemorySize = true
accesses_memory instr.MemoryGrow = true
accesses_memory instr.MemoryCopy = true
accesses_memory instr.MemoryFill = true
accesses_memory other = false

-- Values begin with words of these types, the last one first.
abbrev pub BeginWith : List ValType → List ℕ → Type 0
BeginWith types vs = (front : List ℕ) × (below : List ℕ) × (vs ≡ front ++ below) × AreWords (reverse types) front

-- The last values are words of these types, both the last one first.
abbrev pub EndWith : List ValType → List ℕ → Type 0
EndWith [] vs = Unit {0}
EndWith (type ∷ types) [] = ⊥
EndWith (type ∷ types) (a ∷ vs) = IsWord type a × EndWith types vs

-- A rule applies, and leaves a typed store.
abbrev pub Keeps : Effect → Type 0
Keeps (Leaves s ls vs) = StoreTyped s
Keeps (Fails why) = Unit {0}
Keeps NoRule = ⊥

-- An instruction may be made.
pub record Fits (i : Instr) (instance : Instance) (s : Store) (ls vs : List ℕ) : Type 0 where
  pub operands : BeginWith (told_types i) vs
  pub keeps : Keeps (effect i instance s ls vs)

-- What came of it: the store, locals and values that are left, or a trap and the store as it was.
abbrev pub Gives : Store → Effect → Option Trap → Store → List ℕ → List ℕ → Type 0
Gives s e None t ls vs = e ≡ Leaves t ls vs
Gives s e (Some why) t ls vs = (e ≡ Fails why) × (t ≡ s)
