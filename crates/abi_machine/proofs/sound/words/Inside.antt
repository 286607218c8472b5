-- The elements of copies stay inside their memory, and so it is in each world that a run reaches.
use Rattle.std.proofs.Common.{◌≡◌, ◌∙◌, ◌<◌, ◌≤◌, ◌^◌, ◌+◌, ◌*◌, ℕ, zero, suc, List, [], ◌∷◌, length, refl, sym, ap, subst, arith, Option, Some, None}
use Rattle.std.specs.Prelude.{slice_index}
use Rattle.std.specs.Option.{option_map, option_and_then}
use Rattle.std.specs.List.{slice_get}
use Rattle.syntax_trees.specs.declared.module_types.ValType as core_types
use Rattle.syntax_trees.specs.declared.module_types.ValType.TheVariants.{I32}
use Rattle.wasm_numbers.specs.Types.{AreWords}
use Rattle.wasm_memory.specs.Memories.{MemoryState}
use Rattle.wasm_store.specs.Store.{Instance, Store}
use Rattle.wasm_store.specs.Typed.{Keeps as KeepsAll, IsLaterMemory, Extends}
use Rattle.syntax_trees.specs.declared.types.ValType.{ValType}
use Rattle.laid_types.specs.Layout.{laid}
use Rattle.builtin_kinds.specs.declared.EndKind.{EndKind}
use Rattle.builtin_kinds.specs.declared.EndKind.TheVariants.{Stream, Future}
use Rattle.builtin_kinds.specs.declared.EndSide.{EndSide}
use Rattle.stream_ends.specs.declared.open_copy.OpenCopy.{OpenCopy}
use Rattle.comp_graph.specs.declared.graph.CoreRef.{CoreRef}
use Rattle.comp_graph.specs.declared.graph.Options.{Options}
use Rattle.comp_graph.specs.declared.graph.BuiltinKind.TheVariants as builtin
use Rattle.comp_graph.specs.declared.graph.EndOp.TheVariants as end_op
use Rattle.comp_graph.specs.Graph.{Graph, copy_type}
use Rattle.script_reader.specs.Script.{Script}
use Rattle.trace_labels.specs.declared.label.Label.{Label}
use Rattle.abi_machine.specs.Control.{Free}
use Rattle.abi_machine.specs.World.{Channel, World, first_world}
use Rattle.abi_machine.specs.Edits.{with_control}
use Rattle.abi_machine.specs.Canons.{address_in, memory_of, bytes_of_memory, bytes_of, options_of_kind, options_in, options_at}
use Rattle.abi_machine.specs.Turn.{Steps}
use Rattle.abi_machine.specs.Next.{next}
use Rattle.abi_machine.specs.Run.{Reaches}
use Rattle.abi_machine.specs.Reply.{copy_size}
use Rattle.abi_machine.specs.sound.Agreeing.{channel_in}
use Rattle.abi_machine.specs.sound.Words.{CodePasses, ScriptPassesSmall, WordsAreKept}
use Rattle.abi_machine.specs.sound.CopyPlaces.{IsInside, IsTested, StandsInside, StandInside, CopiesStandInside, FirstStandInside, CopiesStayInside, ReachedStandInside}
use Rattle.abi_machine.proofs.sound.CopyKinds.{IsKind}
use Rattle.abi_machine.proofs.sound.words.Keeping.{Ground, Keeps}
use Rattle.abi_machine.proofs.sound.words.Answering.{each_keeps}
use Rattle.abi_machine.proofs.sound.words.Kept.{first_keeps_words, words_stay_kept}

pub first_stand_inside : FirstStandInside
first_stand_inside g e c copy there under = none_yet e.kind e.number there
  where
    none_yet : (kind : EndKind) (number : ℕ) → channel_in kind number [] [] ≡ Some c → StandsInside g (first_world g).store c.element copy
    none_yet Stream zero k = cc
    none_yet Stream (suc place) k = cc
    none_yet Future zero k = cc
    none_yet Future (suc place) k = cc

-- A read or write that is tested.
first_of : (more : List core_types.ValType) (words : List ℕ) → AreWords (I32 ∷ more) words → slice_index words 0 < 2 ^ 32
first_of more [] h = absurd h
first_of more (n ∷ words) h = h.0

second_of : (more : List core_types.ValType) (words : List ℕ) → AreWords (I32 ∷ I32 ∷ more) words → slice_index words 1 < 2 ^ 32
second_of more [] h = absurd h
second_of more (n ∷ words) h = first_of more words h.1

place_small : (what : EndKind) (words : List ℕ) → AreWords (copy_type what).params words → slice_index words 1 < 2 ^ 32
place_small Stream words h = second_of (I32 ∷ []) words h
place_small Future words h = second_of [] words h

options_are : (g : Graph) (number : ℕ) (what : EndKind) (side : EndSide) (element : Option ValType) (options : Options) → IsKind g number (builtin.End what element (end_op.Copy side options)) → options_at g number ≡ options
options_are g number what side element options is = ap options_in is.1 ∙ ap options_of_kind is.2

tested_as : (g : Graph) (s : Store) (o : Option ValType) (x y : OpenCopy) → y.canon ≡ x.canon → y.place ≡ x.place → y.length ≡ x.length → IsTested s (options_at g x.canon) o x.place x.length
    → IsTested s (options_at g y.canon) o y.place y.length
tested_as g s o x y canon place long h =
    subst (λ (n : ℕ). IsTested s (options_at g n) o y.place y.length) (sym canon)
    (subst (λ (n : ℕ). IsTested s (options_at g x.canon) o n y.length) (sym place) (subst (λ (n : ℕ). IsTested s (options_at g x.canon) o x.place n) (sym long) h))

in_memory : (g : Graph) → Store → Ground g
in_memory g s = record {
  Placed = λ o x. StandsInside g s o x;
  same = λ o x y canon place long h. record { place = subst (λ (n : ℕ). n < 2 ^ 32) (sym place) h.place; inside = tested_as g s o x y canon place long h.inside };
  store = s;
  offers = λ t number what side element options words is given tested. record {
    place = place_small what words given;
    inside = subst (λ (o : Options). IsTested s o element (slice_index words 1) (copy_size what words)) (sym (options_are g number what side element options is)) tested;
  };
}

-- Memories that have not shrunk.
none_less : (n : ℕ) → 0 ≤ n
none_less n = omega arith

at_address : (s t : Store) → KeepsAll IsLaterMemory s.memories t.memories → (o : Option ℕ) → length (bytes_of s o) ≤ length (bytes_of t o)
at_address s t later None = none_less (length (bytes_of t None))
at_address s t later (Some address) = by (slice_get s.memories address) refl
  where
    by : (o : Option MemoryState) → slice_get s.memories address ≡ o → length (bytes_of_memory (option_map (λ x. (address, x)) o)) ≤ length (bytes_of t (Some address))
    by None e = none_less (length (bytes_of t (Some address)))
    by (Some m) e =
        let n = later address m e in
        subst (λ (o : Option MemoryState). length m.bytes ≤ length (bytes_of_memory (option_map (λ x. (address, x)) o))) (sym n.1) n.2.1

-- what is at an address that an instance gives
by_instance : (s t : Store) → Extends s t → (m : CoreRef) (o : Option Instance) → slice_get s.instances m.instance ≡ o
    → length (bytes_of s (option_and_then (λ i. slice_get i.memories m.index) o)) ≤ length (bytes_of t (address_in (λ i. i.memories) t m))
by_instance s t ext m None e = none_less (length (bytes_of t (address_in (λ i. i.memories) t m)))
by_instance s t ext m (Some i) e =
    let j = ext.instances m.instance i e in
    let there : slice_get t.instances m.instance ≡ Some i = j.1 ∙ ap (λ (x : Instance). Some x) j.2 in
    subst (λ (o : Option Instance). length (bytes_of s (slice_get i.memories m.index)) ≤ length (bytes_of t (option_and_then (λ x. slice_get x.memories m.index) o))) (sym there)
    (at_address s t ext.memories (slice_get i.memories m.index))

bytes_later : (s t : Store) → Extends s t → (o : Option CoreRef)
    → length (bytes_of s (option_and_then (address_in (λ i. i.memories) s) o)) ≤ length (bytes_of t (option_and_then (address_in (λ i. i.memories) t) o))
bytes_later s t ext None = none_less 0
bytes_later s t ext (Some m) = by_instance s t ext m (slice_get s.instances m.instance) refl

tested_later : (s t : Store) (options : Options) (o : Option ValType) (place size : ℕ) → Extends s t → IsTested s options o place size → IsTested t options o place size
tested_later s t options None place size ext h = tt
tested_later s t options (Some element) place size ext h = λ some.
    let had : IsInside element place size (bytes_of s (memory_of s options)) = h some in
    let fits : place + size * (laid element).size ≤ length (bytes_of s (memory_of s options)) = had.1 in
    let more : length (bytes_of s (memory_of s options)) ≤ length (bytes_of t (memory_of t options)) = bytes_later s t ext options.memory in
    (had.0, omega (arith, fits, more))

inside_later : (g : Graph) (s t : Store) (streams futures : List Channel) → Extends s t → StandInside g s streams futures → StandInside g t streams futures
inside_later g s t streams futures ext h e c copy there under =
    let k : StandsInside g s c.element copy = h e c copy there under in
    record { place = k.place; inside = tested_later s t (options_at g copy.canon) c.element copy.place copy.length ext k.inside }

pub copies_stay_inside : CopiesStayInside
unfolding in_memory
copies_stay_inside g s w v labels small passed words h e ext =
    let k : Keeps (in_memory g w.store) (Steps labels v) =
    subst (Keeps (in_memory g w.store)) e (each_keeps (in_memory g w.store) s (with_control Free w) w.control refl small passed words.1 (words.0, h)) in inside_later g w.store v.store v.streams v.futures ext k.0.1

reached_from : (g : Graph) (s : Script) (steps : List (List Label)) (w v : World) → ScriptPassesSmall s → ((more : List (List Label)) (u : World) → Reaches g s w more u → CodePasses g u.control)
    → ((more : List (List Label)) (u x : World) (labels : List Label) → Reaches g s w more u → next g s u ≡ Steps labels x → Extends u.store x.store) → WordsAreKept g w → CopiesStandInside g w → Reaches g s w steps v
    → CopiesStandInside g v
reached_from g s [] w v small passes extends words h r = subst (CopiesStandInside g) (sym r) h
reached_from g s (labels ∷ steps) w v small passes extends words h r =
    let passed : CodePasses g w.control = passes [] w refl in
    reached_from g s steps r.0 v small (λ more u k. passes (labels ∷ more) u (r.0, r.1, k)) (λ more u x lines k e. extends (labels ∷ more) u x lines (r.0, r.1, k) e)
    (words_stay_kept g s w r.0 labels small passed words r.1) (copies_stay_inside g s w r.0 labels small passed words h r.1 (extends [] w r.0 labels refl r.1)) r.2

pub reached_stand_inside : ReachedStandInside
reached_stand_inside g s steps w small passes extends r =
    reached_from g s steps (first_world g) w small passes extends (first_keeps_words g) (first_stand_inside g) r
