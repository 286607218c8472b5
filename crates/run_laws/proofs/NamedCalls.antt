-- The numbers of the calls of a script are those of the exports that they name.
use Rattle.std.proofs.Common.{◌≡◌, ℕ, zero, suc, ◌+◌, if◌then◌else◌, List, [], ◌∷◌, ◌++◌, take, count_by, refl, sym, ap, ◌∙◌, subst, arith, Option, Some, None}
use Rattle.std.specs.List.{slice_get}
use Rattle.std.specs.Option.{option_and_then, option_map_or}
use Rattle.std.proofs.lemmas.List.Sums.{sum_by-cons}
use Rattle.syntax_trees.specs.Names.{first_named}
use Rattle.comp_graph.specs.Graph.{Graph, Lifted, func_at, names}
use Rattle.script_reader.specs.declared.script.Call.{Call}
use Rattle.script_reader.specs.declared.script.Item.{Item}
use Rattle.script_reader.specs.declared.script.Item.TheVariants as item
use Rattle.programs.specs.declared.program.CallNumbers.{CallNumbers}
use Rattle.programs.specs.declared.program.Program.{Program}
use Rattle.program_maker.specs.Programs.{call_numbers}
use Rattle.abi_machine.specs.Scheduling.{is_call}
use Rattle.abi_machine.specs.sound.Scripts.{AreItemsFor}
use Rattle.abi_machine.proofs.sound.Found.{some_same}
use Rattle.standing.specs.Tasks.{call_in}
use Rattle.run_laws.specs.Programs.{ProgramsAreNamed}
use Rattle.run_laws.specs.Turns.{IsNamed}

-- The export of a function that has a name.
pub found_export : (g : Graph) (o : Option ℕ) (f : Lifted) → option_and_then (func_at g) o ≡ Some f → (k : ℕ) × (o ≡ Some k) × (func_at g k ≡ Some f)
found_export g None f e = absurd (cc)
found_export g (Some k) f e = (k, refl, e)

abbrev Has : Graph → Program → Call → List CallNumbers → ℕ → Type 0
Has g p call all at = (numbers : CallNumbers) × (slice_get all at ≡ Some numbers) × IsNamed g p call numbers

abbrev pub front : ℕ → Option ℕ → List CallNumbers → List CallNumbers
front n o rest = option_map_or (λ (export : ℕ). record { item = n; export = export } ∷ []) o [] ++ rest

-- The calls before a call are so many.
call_counts : (call : Call) (items : List Item) → count_by is_call (item.Call call ∷ items) ≡ suc (count_by is_call items)
call_counts call items =
    let both : count_by is_call (item.Call call ∷ items) ≡ 1 + count_by is_call items = sum_by-cons (λ (x : Item). if is_call x then 1 else 0) (item.Call call) items in
    omega (arith, both)

cancel_counts : (number : ℕ) (items : List Item) → count_by is_call (item.Cancel number ∷ items) ≡ count_by is_call items
cancel_counts number items =
    let both : count_by is_call (item.Cancel number ∷ items) ≡ 0 + count_by is_call items = sum_by-cons (λ (x : Item). if is_call x then 1 else 0) (item.Cancel number) items in
    omega (arith, both)

named_at : (g : Graph) (p : Program) (calls n i : ℕ) (items : List Item) (call : Call) → AreItemsFor g calls items → slice_get items i ≡ Some (item.Call call)
    → Has g p call (call_numbers g.exports n items) (count_by is_call (take i items))
named_at g p calls n i [] call are e = absurd (cc)
named_at g p calls n zero (item.Call c ∷ items) call are e =
    let same : c ≡ call = some_same (ap call_in (some_same e)) in
    let there : _ = found_export g (first_named c.name (names g.exports)) are.0.func are.0.named in (
      record { item = n; export = there.0 },
      ap (λ (o : Option ℕ). slice_get (front n o (call_numbers g.exports (suc n) items)) 0) there.1,
      subst (λ (x : Call). IsNamed g p x (record { item = n; export = there.0 })) same (are.0.func, are.0.named, there.2),
    )
named_at g p calls n zero (item.Cancel number ∷ items) call are e = absurd (cc)
named_at g p calls n (suc i) (item.Call c ∷ items) call are e =
    let there : _ = found_export g (first_named c.name (names g.exports)) are.0.func are.0.named in
    let more : Has g p call (call_numbers g.exports (suc n) items) (count_by is_call (take i items)) = named_at g p (calls + 1) (suc n) i items call are.1 e in (
      more.0,
      ap (λ (m : ℕ). slice_get (call_numbers g.exports n (item.Call c ∷ items)) m) (call_counts c (take i items))
          ∙ ap (λ (o : Option ℕ). slice_get (front n o (call_numbers g.exports (suc n) items)) (suc (count_by is_call (take i items)))) there.1 ∙ more.1,
      more.2,
    )
named_at g p calls n (suc i) (item.Cancel number ∷ items) call are e =
    subst (λ (m : ℕ). Has g p call (call_numbers g.exports (suc n) items) m) (sym (cancel_counts number (take i items))) (named_at g p calls (suc n) i items call are.2 e)

pub programs_are_named : ProgramsAreNamed
programs_are_named g s p made script = record {
  graph = made.graph;
  script = made.script;
  calls = λ n call is.
      subst (λ (all : List CallNumbers). Has g p call all (count_by is_call (take n s.items))) (sym made.calls) (named_at g p 0 0 n s.items call script is);
}
