-- Code that gives out places, whose calls are answered in place: its stack is typed, also where it goes on behind a call, and whatever it
-- does, its store extends the one before.
use Rattle.std.proofs.Common.{◌≡◌, ◌<◌, ◌^◌, ℕ, zero, suc, List, [], ◌∷◌, length, refl, sym, ap, ◌∙◌, subst, arith, Option, Some, Result, Ok, Err}
use Rattle.std.specs.Prelude.{unwrap_or}
use Rattle.std.specs.List.{slice_get}
use Rattle.syntax_trees.specs.declared.module_types.ValType.{ValType}
use Rattle.syntax_trees.specs.declared.module_types.ValType.TheVariants.{I32, I64}
use Rattle.syntax_trees.specs.declared.module_types.FuncType.{FuncType}
use Rattle.wasm_numbers.specs.Types.{IsWord, AreWords}
use Rattle.wasm_store.specs.declared.trap.Trap.{Trap}
use Rattle.wasm_store.specs.Store.{Function, Host, type_of, Store}
use Rattle.wasm_store.specs.Stack.{Stack}
use Rattle.wasm_store.specs.Step.{Calls, start}
use Rattle.wasm_store.specs.Typed.{StoreTyped, StackTyped, Extends}
use Rattle.wasm_store.specs.Laws.{MoveTyped}
use Rattle.wasm_store.proofs.Moving.{moves_typed, never_stuck}
use Rattle.wasm_store.proofs.Stores.{store_same, further}
use Rattle.wasm_execution.specs.Waiting.{Waiting}
use Rattle.wasm_execution.specs.Run.{RunGives}
use Rattle.wasm_execution.specs.declared.running.Outcome.{Outcome}
use Rattle.wasm_execution.specs.declared.running.Outcome.TheVariants as outcome
use Rattle.res_handles.specs.declared.entry.EntryView.{EntryView}
use Rattle.value_lower.specs.declared.ends.RoomEnd.{RoomEnd}
use Rattle.value_lower.specs.declared.ends.RoomEnd.TheVariants.{Trapped, NoFuel, Memory}
use Rattle.value_lower.specs.Plan.{Ask}
use Rattle.copy_engine.specs.declared.hosted.HostedRoom.{HostedRoom}
use Rattle.copy_engine.specs.declared.hosted.HostedTrap.{HostedTrap}
use Rattle.copy_engine.specs.declared.hosted.HostedTrap.TheVariants as hosted
use Rattle.copy_engine.specs.Nested.{realloc_in}
use Rattle.copy_engine.specs.Answering.{Setting, host_answer}
use Rattle.copy_engine.specs.Hosting.{AreLow, goes_on, GoesOn, EndsFor, Resumes, Point, Runs, GoesFurther, Gone, HostedGives, AnswersBy, HostedAnswers}

some_is : {X : Type 0} {x y : X} → ◌≡◌ {A = Option X} (Some x) (Some y) → x ≡ y
some_is {X} {x} h = ap (λ (o : Option X). unwrap_or o x) h

-- Words of 32 bits are values of any types, one each.
low_word : (t : ValType) (n : ℕ) → n < 2 ^ 32 → IsWord t n
low_word I32 n h = h
low_word I64 n h = omega (arith, h)

low_words : (types : List ValType) (words : List ℕ) → length words ≡ length types → AreLow words → AreWords types words
low_words [] [] h low = tt
low_words [] (n ∷ ns) h low = absurd (omega (arith, h))
low_words (t ∷ ts) [] h low = absurd (omega (arith, h))
low_words (t ∷ ts) (n ∷ ns) h low = (low_word t n low.0, low_words ts ns (omega (arith, h)) low.1)

-- A run leaves a store that extends the one before.
run_extends : (s t : Store) (k : Stack) (before after : ℕ) (o : Outcome) → StoreTyped s → StackTyped s (I32 ∷ []) k → RunGives s k before o t after → Extends s t
run_extends s t k before after (outcome.Done words) typed stack h = (never_stuck h.spent s t (I32 ∷ []) k h.last typed stack h.steps).0
run_extends s t k before after (outcome.Calls number words w) typed stack h = (never_stuck h.comes.spent s t (I32 ∷ []) k h.comes.last typed stack h.comes.steps).0
run_extends s t k before after (outcome.Trapped why) typed stack h = (never_stuck h.spent s t (I32 ∷ []) k h.last typed stack h.steps).0
run_extends s t k before after (outcome.NoFuel later) typed stack h = (never_stuck before s t (I32 ∷ []) k later typed stack h.steps).0
run_extends s t k before after outcome.Memory typed stack h = (never_stuck h.spent s t (I32 ∷ []) k h.last typed stack h.steps).0

pub run_further : (first s t : Store) (k : Stack) (before after : ℕ) (o : Outcome) → StoreTyped s → StackTyped s (I32 ∷ []) k → RunGives s k before o t after
    → Extends first s → Extends first t
run_further first s t k before after o typed stack h earlier = further first s t earlier (run_extends s t k before after o typed stack h)

pub none_further : (s : Store) → Extends s s
none_further s = store_same s

-- A stack that came to a call, and goes on with as many words of 32 bits as it waits for, is typed.
pub goes_typed : (s t : Store) (k l : Stack) (before after number : ℕ) (words : List ℕ) (w : Waiting) → StoreTyped s → StackTyped s (I32 ∷ []) k
    → RunGives s k before (outcome.Calls number words w) t after → Resumes w l → StackTyped t (I32 ∷ []) l
goes_typed s t k l before after number words w typed stack h r =
    let last = never_stuck h.comes.spent s t (I32 ∷ []) k h.comes.last typed stack h.comes.steps in
    let calls : MoveTyped t (I32 ∷ []) (Calls number words w.stack) = subst (MoveTyped t (I32 ∷ [])) h.comes.moves (moves_typed t (I32 ∷ []) h.comes.last last.1 last.2) in
    let type : FuncType = calls.0 in
    let same : h.function ≡ Host type = some_is (sym h.there ∙ calls.1) in
    let count : length r.words ≡ length type.results = r.count ∙ h.count ∙ ap (λ (f : Function). length (type_of f).results) same in
    subst (StackTyped t (I32 ∷ [])) (sym r.is) (calls.3 r.words (low_words type.results r.words count r.low))

module _ (to : Setting) (seen : ℕ → Option EntryView) where
  pub gone_none : (a : Point) → Gone to seen a a
  gone_none a = record { count = zero; calls = refl }

  gone_further : (a b c : Point) → Gone to seen a b → GoesFurther to seen b c → Gone to seen a c
  gone_further a b c h one = record { count = suc h.count; calls = (b, h.calls, one) }

  -- One answer more.
  pub gone_more : (a mid next : Point) (number : ℕ) (words : List ℕ) (w : Waiting) → Gone to seen a mid → Runs mid (outcome.Calls number words w) next.room
      → goes_on number words w (host_answer to seen mid.room.acts.context number words) mid.room.acts ≡ GoesOn next.stack next.room.acts → Gone to seen a next
  gone_more a mid next number words w gone gives is = gone_further a mid next gone (number, words, w, gives, is)

  -- How such code ends.
  pub hosted_done : (a mid : Point) (words : List ℕ) (place : ℕ) (s : HostedRoom) → Gone to seen a mid → Runs mid (outcome.Done words) s → words ≡ place ∷ [] → s.acts ≡ mid.room.acts
      → HostedGives to seen a (Ok place) s
  hosted_done a mid words place s gone gives are acts = (mid, gone, (subst (λ (ws : List ℕ). Runs mid (outcome.Done ws) s) are gives, acts))

  pub hosted_trapped : (a mid : Point) (why : Trap) (s : HostedRoom) → Gone to seen a mid → Runs mid (outcome.Trapped why) s → s.acts ≡ mid.room.acts
      → HostedGives to seen a (Err (Trapped (hosted.Core why))) s
  hosted_trapped a mid why s gone gives acts = (mid, gone, (gives, acts))

  pub hosted_wants : (a mid : Point) (later : Stack) (s : HostedRoom) → Gone to seen a mid → Runs mid (outcome.NoFuel later) s → s.acts ≡ mid.room.acts
      → HostedGives to seen a (Err NoFuel) s
  hosted_wants a mid later s gone gives acts = (mid, gone, (later, gives, acts))

  pub hosted_stops : (a mid : Point) (number : ℕ) (words : List ℕ) (w : Waiting) (end : RoomEnd HostedTrap) (s : HostedRoom) → Gone to seen a mid → Runs mid (outcome.Calls number words w) s
      → EndsFor (goes_on number words w (host_answer to seen mid.room.acts.context number words) mid.room.acts) end s.acts → HostedGives to seen a (Err end) s
  hosted_stops a mid number words w (Trapped (hosted.Core why)) s gone gives ends = absurd ends
  hosted_stops a mid number words w (Trapped (hosted.Call why)) s gone gives ends = (mid, gone, (number, words, w, gives, ends))
  hosted_stops a mid number words w (Trapped hosted.NoRealloc) s gone gives ends = absurd ends
  hosted_stops a mid number words w NoFuel s gone gives ends = absurd ends
  hosted_stops a mid number words w Memory s gone gives ends = (mid, gone, tt)

  pub hosted_short : (a : Point) (s : HostedRoom) → HostedGives to seen a (Err Memory) s
  hosted_short a s = (a, gone_none a, tt)

  -- The code of a function begins with its call.
  pub begun_gives : (r s : HostedRoom) (k : Stack) (f g : Function) (address : ℕ) (words : List ℕ) (result : Result ℕ (RoomEnd HostedTrap)) → slice_get r.store.funcs address ≡ Some f
      → slice_get r.store.funcs address ≡ Some g → k ≡ start g address words → HostedGives to seen (record { room = r; stack = k }) result s
      → HostedGives to seen (record { room = r; stack = start f address words }) result s
  begun_gives r s k f g address words result there also begins h =
      let same : g ≡ f = some_is (sym also ∙ there) in
      subst (λ (l : Stack). HostedGives to seen (record { room = r; stack = l }) result s) (begins ∙ ap (λ (x : Function). start x address words) same) h

  -- What its run gives is what the realloc comes to.
  pub answered_by : (r s : HostedRoom) (ask : Ask) (result : Result ℕ (RoomEnd HostedTrap)) (address : ℕ) (f : Function) (words : List ℕ)
      → realloc_in to.options.realloc r.store ≡ Some (address, f) → HostedGives to seen (record { room = r; stack = start f address words }) result s
      → words ≡ ask.old ∷ ask.old_size ∷ ask.align ∷ ask.size ∷ [] → HostedAnswers to seen r ask result s
  answered_by r s ask result address f words e h same =
      subst (λ (o : Option (ℕ × Function)). AnswersBy to seen o r ask result s) (sym e)
      (subst (λ (ws : List ℕ). HostedGives to seen (record { room = r; stack = start f address ws }) result s) same h)
