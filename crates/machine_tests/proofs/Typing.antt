-- Stacks of tests stay typed.
use Rattle.std.proofs.Common.{◌≡◌, ◌<◌, ℕ, suc, List, [], ◌∷◌, length, refl, ap, sym, subst, arith, Some}
use Rattle.std.specs.List.{slice_get}
use Rattle.std.proofs.lemmas.Option.{slice_get_within}
use Rattle.syntax_trees.specs.declared.module_types.ValType.{ValType}
use Rattle.syntax_trees.specs.declared.module.ModuleTree.{ModuleTree}
use Rattle.wasm_typing.specs.Modules.{Typed}
use Rattle.wasm_numbers.specs.Types.{AreWords}
use Rattle.wasm_store.specs.Store.{Function, Host, type_of, Store}
use Rattle.wasm_store.specs.Stack.{Stack}
use Rattle.wasm_store.specs.Step.{Calls, resume, start}
use Rattle.wasm_store.specs.Instantiation.{External, Makes, instantiated, ImportsMatch, InRange}
use Rattle.wasm_store.specs.Typed.{StoreTyped}
use Rattle.wasm_store.specs.Laws.{MoveTyped, MovesTyped, NeverStuck, StartsTyped, AddedTyped, AddsTyped}
use Rattle.wasm_execution.specs.Waiting.{Waiting}
use Rattle.wasm_execution.specs.Run.{RunGives}
use Rattle.wasm_execution.specs.declared.running.Outcome.{Outcome}
use Rattle.wasm_execution.specs.declared.running.Outcome.TheVariants as outcome
use Rattle.machine_tests.specs.Typed.{MayRun, MayGoOn, StaysTyped}

pub started : (s : Store) (address : ℕ) (f : Function) (args : List ℕ) → StartsTyped → StoreTyped s → slice_get s.funcs address ≡ Some f → AreWords (type_of f).params args → MayRun s (start f address args)
started s address f args starts st there words = record { store = st; results = (type_of f).results; stack = starts s address f args st there words }

pub ran_on : (s t : Store) (k : Stack) (before after : ℕ) (o : Outcome) → NeverStuck → MovesTyped → MayRun s k → RunGives s k before o t after → StaysTyped t o
ran_on s t k before after (outcome.Done words) never moves m g = tt
ran_on s t k before after (outcome.Calls address words w) never moves m g =
    let n = never g.comes.spent s t m.results k g.comes.last m.store m.stack g.comes.steps in
    let move : MoveTyped t m.results (Calls address words w.stack) = subst (MoveTyped t m.results) g.comes.moves (moves t m.results g.comes.last n.1 n.2) in
    let same : (let f : Function = Host move.0 in f) ≡ g.function = cc in
    record {
      function = g.function;
      there = g.there;
      count = g.count;
      goes = λ answers words. record {
        store = n.1;
        results = m.results;
        stack = move.3 answers (subst (λ (f : Function). AreWords (type_of f).results answers) (sym same) words);
      };
    }
ran_on s t k before after (outcome.Trapped why) never moves m g = tt
ran_on s t k before after (outcome.NoFuel later) never moves m g =
    let n = never before s t m.results k later m.store m.stack g.steps in record { store = n.1; results = m.results; stack = n.2 }
ran_on s t k before after outcome.Memory never moves m g = tt

words_long : (types : List ValType) (words : List ℕ) → AreWords types words → length words ≡ length types
words_long [] [] h = refl
words_long [] (n ∷ ns) h = absurd h
words_long (t ∷ ts) [] h = absurd h
words_long (t ∷ ts) (n ∷ ns) h = ap suc (words_long ts ns h.1)

same_function : (s : Store) (address : ℕ) (f g : Function) → slice_get s.funcs address ≡ Some f → slice_get s.funcs address ≡ Some g → f ≡ g
same_function s address f g h k = cc

-- as many words as are waited for, and a stack that may run with them
pub as_many : (s : Store) (address : ℕ) (w : Waiting) (f : Function) (answers : List ℕ) → MayGoOn s address w → slice_get s.funcs address ≡ Some f → AreWords (type_of f).results answers → length answers ≡ w.count
as_many s address w f answers m there words =
    let same = same_function s address f m.function there m.there in
    let long = words_long (type_of m.function).results answers (subst (λ (f : Function). AreWords (type_of f).results answers) same words) in
    omega (arith, long, m.count)

pub went_on : (s : Store) (address : ℕ) (w : Waiting) (f : Function) (answers : List ℕ) → MayGoOn s address w → slice_get s.funcs address ≡ Some f → AreWords (type_of f).results answers → MayRun s (resume answers w.stack)
went_on s address w f answers m there words =
    m.goes answers (subst (λ (f : Function). AreWords (type_of f).results answers) (same_function s address f m.function there m.there) words)

-- A new instance is there.
pub instance_there : (s t : Store) (m : ModuleTree) (imports : List External) (n : ℕ) → n ≡ length s.instances → AddsTyped → StoreTyped s → Typed m → InRange m → ImportsMatch s m imports → instantiated m imports s ≡ Makes t → n < length t.instances
instance_there s t m imports n is adds st typed range match made =
    let a : AddedTyped s m imports (Makes t) = subst (AddedTyped s m imports) made (adds s m imports st typed range match) in
    let within : length s.instances < length t.instances = slice_get_within t.instances (length s.instances) _ a.2.0 in omega (arith, is, within)
