-- Code that gives out places, whose calls of canonical functions are answered in place (Component Model, CanonicalABI.md, "Storing": `realloc`;
-- Core 2.0, section 4.4): what it comes to by runs of its own stack, each up to a call, and by the answers between them.
use Rattle.std.specs.Prelude.{◌≡◌, ℕ, zero, suc, ◌<◌, ◌^◌, nat_eq, if◌then◌else◌, List, [], ◌∷◌, ◌++◌, length, Option, Some, None, Result, Ok, Err}
use Rattle.std.specs.List.{AllByRecursion}
use Rattle.wasm_store.specs.Store.{Function}
use Rattle.wasm_store.specs.Stack.{Stack}
use Rattle.wasm_store.specs.Step.{resume}
use Rattle.wasm_execution.specs.Waiting.{Waiting}
use Rattle.wasm_execution.specs.Run.{RunGives}
use Rattle.wasm_execution.specs.declared.running.Outcome.{Outcome}
use Rattle.wasm_execution.specs.declared.running.Outcome.TheVariants as outcome
use Rattle.res_handles.specs.declared.entry.EntryView.{EntryView}
use Rattle.value_lower.specs.declared.ends.RoomEnd.{RoomEnd}
use Rattle.value_lower.specs.declared.ends.RoomEnd.TheVariants.{Trapped, NoFuel, Memory}
use Rattle.value_lower.specs.Plan.{Ask}
use Rattle.copy_engine.specs.declared.acts.Acts.{Acts}
use Rattle.copy_engine.specs.declared.answering.Answer.{Answer}
use Rattle.copy_engine.specs.declared.answering.Answer.TheVariants as answer
use Rattle.copy_engine.specs.declared.answering.CallRefusal.{CallRefusal}
use Rattle.copy_engine.specs.declared.answering.CallRefusal.TheVariants.{NoRule}
use Rattle.copy_engine.specs.declared.hosted.HostedRoom.{HostedRoom}
use Rattle.copy_engine.specs.declared.hosted.HostedTrap.{HostedTrap}
use Rattle.copy_engine.specs.declared.hosted.HostedTrap.TheVariants as hosted
use Rattle.copy_engine.specs.Nested.{realloc_in, begun}
use Rattle.copy_engine.specs.Answering.{Setting, host_answer}

-- One call more, with the words of its answer, if it has one, and the words of context then.
abbrev pub with_act : ℕ × ℕ → ℕ → List ℕ → Option (List ℕ) → Acts → Acts
with_act context number words got a = record { context = context; calls = a.calls ++ record { canon = number; words = words; got = got } ∷ [] }

-- the words of an answer
abbrev pub reply_words : Option ℕ → List ℕ
reply_words None = []
reply_words (Some word) = word ∷ []

abbrev pub AreLow : List ℕ → Type 0
AreLow words = AllByRecursion (λ (word : ℕ). word < 2 ^ 32) words

-- what follows a call: the stack goes on, or the call is refused
pub data Going : Type 0 where
  GoesOn : Stack → Acts → Going
  Stops : CallRefusal → Acts → Going

-- A stack that waits for so many words goes on with them.
abbrev pub replied : ℕ → List ℕ → List ℕ → ℕ × ℕ → Waiting → Acts → Going
replied number words reply context w a =
    if nat_eq w.count (length reply)
    then GoesOn (resume reply w.stack) (with_act context number words (Some reply) a)
    else Stops NoRule (with_act a.context number words None a)

abbrev pub goes_on : ℕ → List ℕ → Waiting → Answer → Acts → Going
goes_on number words w (answer.Replies reply context) a = replied number words (reply_words reply) context w a
goes_on number words w (answer.Refuses why) a = Stops why (with_act a.context number words None a)

-- What code comes to behind a call. Of want of memory nothing is said.
abbrev pub EndsFor : Going → RoomEnd HostedTrap → Acts → Type 0
EndsFor going (Trapped (hosted.Core why)) a = ⊥
EndsFor going (Trapped (hosted.Call why)) a = going ≡ Stops why a
EndsFor going (Trapped hosted.NoRealloc) a = ⊥
EndsFor going NoFuel a = ⊥
EndsFor going Memory a = Unit {0}

abbrev pub Leads : Going → Result Stack (RoomEnd HostedTrap) → Acts → Type 0
Leads going (Ok k) a = going ≡ GoesOn k a
Leads going (Err end) a = EndsFor going end a

-- A stack that waits goes on with as many words as it waits for, each of 32 bits.
pub record Resumes (w : Waiting) (k : Stack) : Type 0 where
  pub words : List ℕ
  pub is : k ≡ resume words w.stack
  pub count : length words ≡ w.count
  pub low : AreLow words

-- where such code is: what it works on, and its stack
pub record Point : Type 0 where
  pub room : HostedRoom
  pub stack : Stack

-- A run of it comes to something, and leaves a store and so much fuel.
abbrev pub Runs : Point → Outcome → HostedRoom → Type 0
Runs a o s = RunGives a.room.store a.stack a.room.fuel o s.store s.fuel

-- By what stands at each index of the table:
module _ (to : Setting) (seen : ℕ → Option EntryView) where
  -- it runs up to a call that is answered, and goes on; and so many times;
  abbrev pub GoesFurther : Point → Point → Type 0
  GoesFurther a b =
      (number : ℕ) × (words : List ℕ) × (w : Waiting) × Runs a (outcome.Calls number words w) b.room
      × (goes_on number words w (host_answer to seen a.room.acts.context number words) a.room.acts ≡ GoesOn b.stack b.room.acts)

  abbrev pub GoOn : ℕ → Point → Point → Type 0
  GoOn zero a b = b ≡ a
  GoOn (suc count) a b = (mid : Point) × GoOn count a mid × GoesFurther mid b

  pub record Gone (a b : Point) : Type 0 where
    pub count : ℕ
    pub calls : GoOn count a b

  -- and its last run ends with the place, or otherwise.
  abbrev pub Ends : Point → Result ℕ (RoomEnd HostedTrap) → HostedRoom → Type 0
  Ends a (Ok place) s = Runs a (outcome.Done (place ∷ [])) s × (s.acts ≡ a.room.acts)
  Ends a (Err (Trapped (hosted.Core why))) s = Runs a (outcome.Trapped why) s × (s.acts ≡ a.room.acts)
  Ends a (Err (Trapped (hosted.Call why))) s =
      (number : ℕ) × (words : List ℕ) × (w : Waiting) × Runs a (outcome.Calls number words w) s
      × (goes_on number words w (host_answer to seen a.room.acts.context number words) a.room.acts ≡ Stops why s.acts)
  Ends a (Err (Trapped hosted.NoRealloc)) s = ⊥
  Ends a (Err NoFuel) s = (later : Stack) × Runs a (outcome.NoFuel later) s × (s.acts ≡ a.room.acts)
  Ends a (Err Memory) s = Unit {0}

  -- So runs code that gives a place.
  abbrev pub HostedGives : Point → Result ℕ (RoomEnd HostedTrap) → HostedRoom → Type 0
  HostedGives a result s = (mid : Point) × Gone a mid × Ends mid result s

  -- What a realloc comes to: without a function nothing runs.
  abbrev pub AnswersBy : Option (ℕ × Function) → HostedRoom → Ask → Result ℕ (RoomEnd HostedTrap) → HostedRoom → Type 0
  AnswersBy None r ask result s = (result ≡ Err (Trapped hosted.NoRealloc)) × (s ≡ r)
  AnswersBy (Some f) r ask result s = HostedGives (record { room = r; stack = begun f ask }) result s

  abbrev pub HostedAnswers : HostedRoom → Ask → Result ℕ (RoomEnd HostedTrap) → HostedRoom → Type 0
  HostedAnswers r ask result s = AnswersBy (realloc_in to.options.realloc r.store) r ask result s
