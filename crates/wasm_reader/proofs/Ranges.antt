-- No memory of a module that is read begins with more pages than any may have.
use Rattle.std.proofs.Common.{◌≡◌, ◌≤◌, ℕ, zero, suc, Bool, true, false, List, [], ◌∷◌, Option, Some, None, refl, sym, subst, nat_lt}
use Rattle.std.specs.Prelude.{◌==◌, unwrap_or}
use Rattle.std.specs.List.{AllByRecursion}
use Rattle.std.proofs.lemmas.Bool.{ltb-false}
use Rattle.ca_base.specs.Span.{Span, window}
use Rattle.ca_base.specs.Grammar.{Grammar, Give, Refuse, Choose, Byte, ◌>>=◌, times, Matches}
use Rattle.ca_base.specs.Items.{NumberReasons, Reasons, u32, placed, vec, sized, is_byte}
use Rattle.ca_base.specs.declared.placed.Placed.{Placed}
use Rattle.syntax_trees.specs.declared.module_types.Limits.{Limits}
use Rattle.wasm_typing.specs.declared.module_places.ModuleParts.{ModuleParts}
use Rattle.wasm_code_reader.specs.declared.fault.ModuleWhy.{ModuleWhy}
use Rattle.wasm_code_reader.specs.declared.fault.ModuleWhy.TheVariants.{Unsupported, Limit}
use Rattle.syntax_trees.specs.Limited.{starting_pages}
use Rattle.wasm_code_reader.specs.Reasons.{numbers, reasons}
use Rattle.wasm_code_reader.specs.Types.{limited, bounds, limits, memory_type}
use Rattle.wasm_reader.specs.declared.declared.Definitions.{Definitions}
use Rattle.wasm_reader.specs.Binary.{payload, items, items_of, definitions, the_module}

-- What a grammar stands for has this property.
abbrev pub Gives : {W A : Type 0} → (A → Type 0) → Grammar W A → Type 0
Gives {W} {A} P g = (s : Span W) (x : A) (t : Span W) → Matches g s x t → P x

-- Several items, each with its place.
pub placed_gives : {W A : Type 0} (P : A → Type 0) (g : Grammar W A) → Gives P g → Gives (λ (p : Placed A). P p.item) (placed g)
unfolding placed
placed_gives P g h s x t m = subst (λ (p : Placed _). P p.item) (sym m.3.3.0) (h m.1 m.3.0 m.3.1 m.3.2)

pub times_give : {W A : Type 0} (P : A → Type 0) (g : Grammar W A) → Gives P g → (count : ℕ) (s : Span W) (x : List A) (t : Span W) → Matches (times count g) s x t → AllByRecursion P x
times_give P g h zero s x t m = subst (AllByRecursion P) (sym m.0) tt
times_give P g h (suc count) s x t m = subst (AllByRecursion P) (sym m.3.3.0) (h s m.0 m.1 m.2, times_give P g h count m.1 m.3.0 m.3.1 m.3.2)

pub sized_gives : {W A : Type 0} (P : A → Type 0) (n : NumberReasons W) (r : Reasons W) (g : Grammar W A) → Gives P g → (s : Span W) (x : A) (t : Span W) → Matches (sized n r g) s x t → P x
sized_gives P n r g h s x t m = h (window m.0 r.section_size m.1) x m.3.2.0 m.3.2.1

-- A memory begins with no more pages than any may have.
limited_choice : (most n : ℕ) (place : ℕ) (why : ModuleWhy) (b : Bool) (s : Span ModuleWhy) (x : ℕ) (t : Span ModuleWhy) → nat_lt most n ≡ b → Matches (Choose b (Refuse place why) (Give n)) s x t → x ≤ most
limited_choice most n place why true s x t e m = absurd m
limited_choice most n place why false s x t e m = subst (λ (k : ℕ). k ≤ most) (sym m.0) (ltb-false most n e)

limited_gives : (most : ℕ) → Gives (λ (n : ℕ). n ≤ most) (limited most)
unfolding limited
limited_gives most s x t m = limited_choice most m.3.0 m.0 Limit (nat_lt most m.3.0) m.3.1 x t refl m.3.3

bounds_choice : (most min : ℕ) (b : Bool) (g : Grammar ModuleWhy ℕ) (s : Span ModuleWhy) (x : Limits) (t : Span ModuleWhy) → min ≤ most
    → Matches (Choose b (g >>= (λ max. Give (record { min = min; max = Some max }))) (Give (record { min = min; max = None }))) s x t → x.min ≤ most
bounds_choice most min true g s x t l m = subst (λ (k : Limits). k.min ≤ most) (sym m.3.0) l
bounds_choice most min false g s x t l m = subst (λ (k : Limits). k.min ≤ most) (sym m.0) l

bounds_give : (most : ℕ) (b : Bool) → Gives (λ (l : Limits). l.min ≤ most) (bounds most b)
unfolding bounds
bounds_give most b s x t m = bounds_choice most m.0 b (u32 numbers) m.1 x t (limited_gives most s m.0 m.1 m.2) m.3

limits_choice : (most : ℕ) (b c : Bool) (place : ℕ) (why : ModuleWhy) (s : Span ModuleWhy) (x : Limits) (t : Span ModuleWhy)
    → Matches (Choose b (bounds most false) (Choose c (bounds most true) (Refuse place why))) s x t → x.min ≤ most
limits_choice most true c place why s x t m = bounds_give most false s x t m
limits_choice most false true place why s x t m = bounds_give most true s x t m
limits_choice most false false place why s x t m = absurd m

memory_gives : Gives (λ (l : Limits). l.min ≤ starting_pages) memory_type
unfolding memory_type limits
memory_gives s x t m = limits_choice starting_pages (m.3.0 == 0) (m.3.0 == 1) m.0 (Unsupported m.3.0) m.3.1 x t m.3.3

-- The items of a section that may be absent.
section_choice : {A : Type 0} (P : A → Type 0) (n : NumberReasons ModuleWhy) (r : Reasons ModuleWhy) (g : Grammar ModuleWhy (List A)) → Gives (AllByRecursion P) g
    → (b : Bool) (s : Span ModuleWhy) (x : Option (List A)) (t : Span ModuleWhy) → Matches (Choose b (Byte >>= (λ c. sized n r g >>= (λ xs. Give (Some xs)))) (Give None)) s x t → AllByRecursion P (unwrap_or x [])
section_choice P n r g h true s x t m =
    subst (λ (o : Option (List _)). AllByRecursion P (unwrap_or o [])) (sym m.3.3.0) (sized_gives (AllByRecursion P) n r g h m.1 m.3.0 m.3.1 m.3.2)
section_choice P n r g h false s x t m = subst (λ (o : Option (List _)). AllByRecursion P (unwrap_or o [])) (sym m.0) tt

section_items : {A : Type 0} (P : A → Type 0) (id : ℕ) (g : Grammar ModuleWhy A) → Gives P g → (s : Span ModuleWhy) (x : Option (List A)) (t : Span ModuleWhy) → Matches (payload id (vec numbers g)) s x t → AllByRecursion P (unwrap_or x [])
unfolding payload
section_items P id g h s x t m =
    section_choice P numbers reasons (vec numbers g) (λ u y v n. times_give P g h n.0 n.1 y v n.3) (is_byte id m.3.0) m.3.1 x t m.3.3

items_give : {A : Type 0} (P : A → Type 0) (id : ℕ) (g : Grammar ModuleWhy A) → Gives P g → (s : Span ModuleWhy) (x : List A) (t : Span ModuleWhy) → Matches (items id g) s x t → AllByRecursion P x
unfolding items
items_give P id g h s x t m = subst (AllByRecursion P) (sym m.3.0) (section_items P id g h s m.0 m.1 m.2)

all_items : {A : Type 0} (P : A → Type 0) (xs : List (Placed A)) → AllByRecursion (λ p. P p.item) xs → AllByRecursion P (items_of xs)
all_items P [] h = tt
all_items P (x ∷ xs) h = (h.0, all_items P xs h.1)

defines_range : (s : Span ModuleWhy) (d : Definitions) (t : Span ModuleWhy) → Matches definitions s d t → AllByRecursion (λ l. l.min ≤ starting_pages) (items_of d.memories)
unfolding definitions
defines_range s d t m =
    let memories = m.3 in
    let all = items_give (λ (p : Placed Limits). p.item.min ≤ starting_pages) 5 (placed memory_type) (placed_gives (λ (l : Limits). l.min ≤ starting_pages) memory_type memory_gives) m.1 memories.0 memories.1 memories.2 in
    subst (λ (d : Definitions). AllByRecursion (λ (l : Limits). l.min ≤ starting_pages) (items_of d.memories)) (sym memories.3.3.0) (all_items (λ (l : Limits). l.min ≤ starting_pages) memories.0 all)

pub memories_in_range : (s : Span ModuleWhy) (m : ModuleParts) (t : Span ModuleWhy) → Matches the_module s m t → AllByRecursion (λ l. l.min ≤ starting_pages) m.tree.memories
unfolding the_module
memories_in_range s m t h =
    let defines = h.3.3 in
    let uses_them = defines.3 in
    let holds = uses_them.3 in
    subst (λ (m : ModuleParts). AllByRecursion (λ (l : Limits). l.min ≤ starting_pages) m.tree.memories) (sym holds.3.0) (defines_range h.3.1 defines.0 defines.1 defines.2)
