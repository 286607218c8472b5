-- The event of a subtask tells a higher state than the one that was told last.
use Rattle.std.proofs.Common.{◌≡◌, ◌<◌, ◌≤◌, ◌++◌, ℕ, true, not, nat_eq, List, [], ◌∷◌, refl, sym, ap, ◌∙◌, subst, arith, Option, Some, None}
use Rattle.std.specs.Prelude.{slice_index}
use Rattle.std.specs.List.{slice_get}
use Rattle.std.proofs.lemmas.Bool.Decides.{nat_tests}
use Rattle.wasm_store.proofs.Lists.{all_at}
use Rattle.wasm_store.specs.Store.{found_at}
use Rattle.wasm_store.specs.Stack.{Stack}
use Rattle.wasm_store.specs.Step.{start}
use Rattle.builtin_kinds.specs.declared.EndKind.{EndKind}
use Rattle.builtin_kinds.specs.declared.EndKind.TheVariants.{Stream, Future}
use Rattle.stream_ends.specs.declared.side.Side.{Side}
use Rattle.stream_ends.specs.declared.side.Side.TheVariants.{Reader, Writer}
use Rattle.tasks.specs.declared.subtask_state.SubtaskState.{SubtaskState}
use Rattle.tasks.specs.Subtasks.{code_of, has_event, delivered}
use Rattle.comp_graph.specs.Graph.{Graph, Lifted}
use Rattle.script_reader.specs.Script.{Script}
use Rattle.trace_labels.specs.declared.label.Label.{Label}
use Rattle.trace_labels.specs.declared.label.Label.TheVariants as line
use Rattle.abi_machine.specs.Control.{Control, Free, Delivers, EventCode, SubtaskEvent, Receiver, InWait, InCallback, Runs}
use Rattle.abi_machine.specs.World.{Entry, OwnHandle, BorrowHandle, OfSubtask, OfSet, OfEnd, Subtask, Caller, Nobody, Host, Guest, Task, World}
use Rattle.abi_machine.specs.Canons.{func_address}
use Rattle.abi_machine.specs.Edits.{with_control, stacked, answered_stacks, changed_at, caller_changed, by_view, subtask_view}
use Rattle.abi_machine.specs.Reading.{entry_at, task_at, acting, func_of, subtask_of}
use Rattle.abi_machine.specs.Counting.{passes, subtask_state, state_of, subtask_has_event, entry_has_event, ready}
use Rattle.abi_machine.specs.Calling.{Told, subtask_told}
use Rattle.abi_machine.specs.Choosing.{chosen}
use Rattle.abi_machine.specs.Delivering.{number_of, event_by, event_of_end, callback_started, event_put, received, entry_delivered, member_delivered, members_turn, delivering_turn}
use Rattle.abi_machine.specs.Turn.{Turn, Steps, Ends, Stuck, silent, behind, given, goes_on_with}
use Rattle.abi_machine.specs.Next.{next, next_by}
use Rattle.abi_machine.specs.sound.Subtasks.{CallIs}
use Rattle.abi_machine.specs.sound.Told.{IsToldOf, IsToldAt, AreTold, IsTold}
use Rattle.abi_machine.proofs.sound.Found.{some_same, acting_is, changed_there}
use Rattle.abi_machine.proofs.sound.KeptLent.{call_changed, same_caller}
use Rattle.abi_machine.proofs.sound.known.Ready.{ready_has_event}
use Rattle.abi_machine.specs.sound.Cancels.{IsOver}
use Rattle.abi_machine.specs.sound.Rising.{IsToldBehind}
use Rattle.abi_machine.proofs.sound.Rising.{states_rise}
use Rattle.waiting_laws.specs.Events.{TellsNews, EventsTellNews, NoEventComesBehind}
use Rattle.waiting_laws.proofs.Telling.{IsKept, kept_from, kept_at, one_side, over_along}

-- What holds of the lines of a step and of the world behind it.
abbrev pub Tells : (List Label → World → Type 0) → Turn → Type 0
Tells P (Steps labels v) = P labels v
Tells P (Ends end) = Unit {0}
Tells P Stuck = Unit {0}

pub given_tells : {A : Type 0} (P : List Label → World → Type 0) (o : Option A) (f : A → Turn) → ((x : A) → o ≡ Some x → Tells P (f x)) → Tells P (given o f)
given_tells P None f h = tt
given_tells P (Some x) f h = h x refl

pub behind_tells : (P : List Label → World → Type 0) (front : List Label) (turn : Turn) → Tells (λ labels v. P (front ++ labels) v) turn → Tells P (behind front turn)
behind_tells P front (Steps labels v) h = h
behind_tells P front (Ends end) h = tt
behind_tells P front Stuck h = tt

-- A callback starts.
pub started : (P : List Label → World → Type 0) (t : ℕ) (f : Lifted) (code : EventCode) (index payload : ℕ) (u : World) → ((k : Stack) → P [] (with_control Runs (stacked t k u)))
    → Tells P (callback_started t f code index payload u)
unfolding callback_started
started P t f code index payload u h =
    given_tells P f.options.callback
    (λ ref. given (found_at u.store.funcs (func_address u.store ref)) (λ function. silent Runs (stacked t (start function.1 function.0 (number_of code ∷ index ∷ payload ∷ [])) u)))
    (λ ref e.
    given_tells P (found_at u.store.funcs (func_address u.store ref)) (λ function. silent Runs (stacked t (start function.1 function.0 (number_of code ∷ index ∷ payload ∷ [])) u))
    (λ function k. h (start function.1 function.0 (number_of code ∷ index ∷ payload ∷ []))))

module _ (w : World) where
  abbrev Says : List Label → World → Type 0
  Says labels v = (t index payload : ℕ) (more : List Label) → labels ≡ line.Event t 1 index payload ∷ more → TellsNews w v t index payload

  -- a line of another code
  other_code : (t code index payload n m p : ℕ) (xs ys : List Label) → line.Event t code index payload ∷ xs ≡ line.Event n 1 m p ∷ ys → code ≡ 1
  other_code t code index payload n m p xs ys e = cc

  says_none : (t code index payload : ℕ) (xs : List Label) (v : World) → (code ≡ 1 → ⊥) → Says (line.Event t code index payload ∷ xs) v
  says_none t code index payload xs v other n m p ys e = absurd (other (other_code t code index payload n m p xs ys e))

  says_this : (t index payload : ℕ) (xs : List Label) (v : World) → TellsNews w v t index payload → Says (line.Event t 1 index payload ∷ xs) v
  says_this t index payload xs v h n m p ys e =
      let t_is : t ≡ n = cc in
      let index_is : index ≡ m = cc in
      let payload_is : payload ≡ p = cc in
      subst (λ (x : ℕ). TellsNews w v x m p) t_is (subst (λ (x : ℕ). TellsNews w v t x p) index_is (subst (λ (x : ℕ). TellsNews w v t index x) payload_is h))

  says_choice : (count k : ℕ) (v : World) → Says (line.Choose count k ∷ []) v
  says_choice count k v n m p ys e = cc

  other_received : (g : Graph) (t : ℕ) (f : Lifted) (receiver : Receiver) (code : EventCode) (index : ℕ) (s : Told) → (number_of code ≡ 1 → ⊥) → Tells Says (received g t f receiver code index s)
  unfolding received
  other_received g t f (InWait number words) code index s other = says_none t (number_of code) index s.payload _ _ other
  other_received g t f InCallback code index s other =
      let front : List Label = line.Event t (number_of code) index s.payload ∷ s.lines in
      behind_tells Says front (callback_started t f code index s.payload s.world)
      (started (λ labels v. Says (front ++ labels) v) t f code index s.payload s.world
      (λ k. says_none t (number_of code) index s.payload (s.lines ++ []) (with_control Runs (stacked t k s.world)) other))

  end_code : (kind : EndKind) (side : Side) → number_of (event_by kind side) ≡ 1 → ⊥
  end_code Stream Reader e = cc
  end_code Stream Writer e = cc
  end_code Future Reader e = cc
  end_code Future Writer e = cc

  -- The caller of a task is told its state.
  side_told : (callee : ℕ) (state : SubtaskState) (caller : Caller) (subtask : Subtask) → subtask_of caller ≡ Some subtask
      → (x : Subtask) × (subtask_of (caller_changed (by_view delivered callee state) caller) ≡ Some x) × (x.told ≡ state)
  side_told callee state Nobody subtask e = cc
  side_told callee state (Host call values) subtask e = cc
  side_told callee state (Guest y) subtask e = (by_view delivered callee state y, refl, refl)

  told_behind : (callee : ℕ) (task : Task) (subtask : Subtask) (t : ℕ) (f : Task → Task) → slice_get w.tasks callee ≡ Some task → subtask_of task.caller ≡ Some subtask → ((x : Task) → (f x).caller ≡ x.caller)
      → CallIs (changed_at t f (changed_at callee (λ x. record x { caller = caller_changed (by_view delivered callee (subtask_state task)) x.caller }) w.tasks)) callee (λ x. x.told ≡ subtask_state task)
  told_behind callee task subtask t f there guest same =
      let tell : Task → Task = λ x. record x { caller = caller_changed (by_view delivered callee (subtask_state task)) x.caller } in
      let side = side_told callee (subtask_state task) task.caller subtask guest in
      call_changed (changed_at callee tell w.tasks) t callee f (λ x. x.told ≡ subtask_state task) (same_caller (λ x. x.told ≡ subtask_state task) f same)
      (tell task, changed_there callee tell w.tasks task there, (side.0, side.1, side.2))

  lower : (callee : ℕ) (task : Task) (subtask : Subtask) → IsToldOf subtask (subtask_state task) → has_event (subtask_view callee (subtask_state task) subtask) ≡ true → code_of subtask.told < code_of (subtask_state task)
  lower callee task subtask k e =
      let low : code_of subtask.told ≤ code_of (subtask_state task) = k.rises in
      let other : not (nat_eq (code_of (subtask_state task)) (code_of subtask.told)) ≡ true = e in
      grind (arith, nat_tests)

  told_is : (caller : Caller) (state : SubtaskState) (subtask : Subtask) → IsToldAt caller state → subtask_of caller ≡ Some subtask → IsToldOf subtask state
  told_is Nobody state subtask h e = cc
  told_is (Host call values) state subtask h e = cc
  told_is (Guest y) state subtask h e = subst (λ (x : Subtask). IsToldOf x state) (some_same e) h

  news_is : (callee : ℕ) (task : Task) (subtask : Subtask) → slice_get w.tasks callee ≡ Some task → subtask_of task.caller ≡ Some subtask → entry_has_event w (Some (OfSubtask callee)) ≡ true
      → has_event (subtask_view callee (subtask_state task) subtask) ≡ true
  news_is callee task subtask there guest e =
      subst (λ (o : Option Subtask). subtask_has_event callee task o ≡ true) guest
      (subst (λ (o : Option Task). passes (λ x. subtask_has_event callee x (subtask_of x.caller)) o ≡ true) there e)

  -- of the acting task
  module _ (g : Graph) (t : ℕ) (mine : Task) (f : Lifted) (there : slice_get w.tasks t ≡ Some mine) (runs : func_of mine.callee ≡ Some f) (told : AreTold w.tasks) where
    news : (index callee : ℕ) (task : Task) (subtask : Subtask) (v : World) → entry_at w f.instance index ≡ Some (OfSubtask callee) → entry_has_event w (Some (OfSubtask callee)) ≡ true
        → slice_get w.tasks callee ≡ Some task → subtask_of task.caller ≡ Some subtask → CallIs v.tasks callee (λ x. x.told ≡ subtask_state task) → TellsNews w v t index (state_of task)
    news index callee task subtask v stands event at guest after = record {
      task = mine;
      func = f;
      there = there;
      runs = runs;
      callee = callee;
      stands = stands;
      state = subtask_state task;
      has = (task, at, refl);
      is = refl;
      before = (
        task,
        at,
        (
          subtask,
          guest,
          lower callee task subtask (told_is task.caller (subtask_state task) subtask (all_at IsTold w.tasks callee task told at).caller guest) (news_is callee task subtask at guest event),
        ),
      );
      behind = after;
    }

    subtask_received : (receiver : Receiver) (index callee : ℕ) (task : Task) (subtask : Subtask) → entry_at w f.instance index ≡ Some (OfSubtask callee) → entry_has_event w (Some (OfSubtask callee)) ≡ true
        → slice_get w.tasks callee ≡ Some task → subtask_of task.caller ≡ Some subtask → Tells Says (received g t f receiver SubtaskEvent index (subtask_told f.instance callee task subtask w))
    unfolding received
    subtask_received (InWait number words) index callee task subtask stands event at guest =
        let s : Told = subtask_told f.instance callee task subtask w in
        let v : World = goes_on_with t (1 ∷ []) (event_put g number (slice_index words 1) index s.payload s.world) in
        says_this t index (state_of task) (s.lines ++ line.Got t (1 ∷ []) ∷ []) v
        (news index callee task subtask v stands event at guest (told_behind callee task subtask t (λ x. record x { stacks = answered_stacks (1 ∷ []) x.stacks }) at guest (λ x. refl)))
    subtask_received InCallback index callee task subtask stands event at guest =
        let s : Told = subtask_told f.instance callee task subtask w in
        let front : List Label = line.Event t 1 index (state_of task) ∷ s.lines in
        behind_tells Says front (callback_started t f SubtaskEvent index (state_of task) s.world)
        (started (λ labels v. Says (front ++ labels) v) t f SubtaskEvent index (state_of task) s.world
        (λ k.
        says_this t index (state_of task) (s.lines ++ []) (with_control Runs (stacked t k s.world))
        (news index callee task subtask (with_control Runs (stacked t k s.world)) stands event at guest
        (told_behind callee task subtask t (λ x. record x { stacks = k ∷ x.stacks }) at guest (λ x. refl)))))

    by_entry : (receiver : Receiver) (index : ℕ) (o : Option Entry) → entry_at w f.instance index ≡ o → entry_has_event w o ≡ true → Tells Says (entry_delivered g t f receiver index o w)
    unfolding entry_delivered
    by_entry receiver index (Some (OfSubtask callee)) stands event =
        given_tells Says (task_at w callee) _
        (λ task at. given_tells Says (subtask_of task.caller) _ (λ subtask guest. subtask_received receiver index callee task subtask stands event at guest))
    by_entry receiver index (Some (OfEnd e)) stands event = other_received g t f receiver (event_of_end e) index _ (end_code e.kind e.side)
    by_entry receiver index None stands event = tt
    by_entry receiver index (Some (OwnHandle resource rep)) stands event = tt
    by_entry receiver index (Some (BorrowHandle resource rep task)) stands event = tt
    by_entry receiver index (Some (OfSet set)) stands event = tt

    by_member : (receiver : Receiver) (set place : ℕ) (member : Option ℕ) → slice_get (ready w f.instance set) place ≡ member → Tells Says (member_delivered g t f receiver member w)
    unfolding member_delivered
    by_member receiver set place member is =
        given_tells Says member _
        (λ index e. by_entry receiver index (entry_at w f.instance index) refl (ready_has_event w f.instance set place index (is ∙ e)))

    by_members : (s : Script) (set : ℕ) (receiver : Receiver) (pick : Option ℕ) (members : List ℕ) → ready w f.instance set ≡ members → Tells Says (members_turn g s t f set receiver pick members w)
    unfolding members_turn chosen
    by_members s set receiver None (index ∷ other ∷ members) is = says_choice _ _ _
    by_members s set receiver None [] is = by_member receiver set 0 None (ap (λ (l : List ℕ). slice_get l 0) is)
    by_members s set receiver None (index ∷ []) is = by_member receiver set 0 (Some index) (ap (λ (l : List ℕ). slice_get l 0) is)
    by_members s set receiver (Some k) members is = by_member receiver set k (slice_get members k) (ap (λ (l : List ℕ). slice_get l k) is)

delivering_tells : (g : Graph) (s : Script) (set : ℕ) (receiver : Receiver) (pick : Option ℕ) (w : World) → AreTold w.tasks → Tells (Says w) (delivering_turn g s set receiver pick w)
unfolding delivering_turn
delivering_tells g s set receiver pick w told =
    given_tells (Says w) (acting w) _
    (λ a is.
    given_tells (Says w) (func_of a.1.callee) _
    (λ f runs. by_members w g a.0 a.1 f (acting_is w a is) runs told s set receiver pick (ready w f.instance set) refl))

free_news : (w v : World) (t index payload : ℕ) → TellsNews (with_control Free w) v t index payload → TellsNews w v t index payload
free_news w v t index payload h = record {
  task = h.task;
  func = h.func;
  there = h.there;
  runs = h.runs;
  callee = h.callee;
  stands = h.stands;
  state = h.state;
  has = h.has;
  is = h.is;
  before = h.before;
  behind = h.behind;
}

news_at : (g : Graph) (s : Script) (w v : World) (labels more : List Label) (set : ℕ) (receiver : Receiver) (pick : Option ℕ) (t index payload : ℕ) → AreTold w.tasks
    → w.control ≡ Delivers set receiver pick → next g s w ≡ Steps labels v → labels ≡ line.Event t 1 index payload ∷ more → TellsNews w v t index payload
news_at g s w v labels more set receiver pick t index payload told control e is =
    let free : World = with_control Free w in
    let turn : delivering_turn g s set receiver pick free ≡ Steps labels v = ap (λ (c : Control). next_by g s free c) (sym control) ∙ e in
    free_news w v t index payload (subst (Tells (Says free)) turn (delivering_tells g s set receiver pick free told) t index payload more is)

pub events_tell_news : EventsTellNews
events_tell_news g s steps w v labels more set receiver pick t index payload r control e is =
    news_at g s w v labels more set receiver pick t index payload (kept_at g s steps w r).told control e is

less_than_itself : (n : ℕ) → n < n → ⊥
less_than_itself n h = omega (arith, h)

both_calls : (tasks : List Task) (t : ℕ) (P Q : Subtask → Type 0) → CallIs tasks t P → CallIs tasks t Q → CallIs tasks t (λ x. P x × Q x)
both_calls tasks t P Q a b =
    let task : a.0 ≡ b.0 = some_same (sym a.1 ∙ b.1) in
    let side : a.2.0 ≡ b.2.0 = some_same (sym a.2.1 ∙ (ap (λ (x : Task). subtask_of x.caller) task ∙ b.2.1)) in
    (b.0, b.1, (b.2.0, b.2.1, (subst P side a.2.2, b.2.2)))

-- What was told behind a state that is over is no higher one.
not_behind : (g : Graph) (s : Script) (x y : World) (labels : List Label) (callee : ℕ) (state : SubtaskState) → IsKept x → next g s x ≡ Steps labels y
    → CallIs x.tasks callee (λ z. (code_of z.told < code_of state) × IsOver z) → CallIs y.tasks callee (λ z. z.told ≡ state) → ⊥
not_behind g s x y labels callee state kept e at behind =
    let last : SubtaskState = at.2.0.told in
    let risen = states_rise g s x y labels kept.alone kept.told e callee last (at.0, at.1, (at.2.0, at.2.1, refl)) in
    let both = one_side y.tasks callee (λ z. z.told ≡ state) (IsToldBehind last) behind risen in
    let same : state ≡ last = sym both.1 ∙ both.2.stays at.2.2.1 in
    less_than_itself (code_of last) (subst (λ (z : SubtaskState). code_of last < code_of z) same at.2.2.0)

pub no_event_comes_behind : NoEventComesBehind
no_event_comes_behind g s steps later w x y labels more set receiver pick t index payload callee task f r over m control e is there runs stands =
    let kept : IsKept x = kept_from g s later w x (kept_at g s steps w r) m in
    let h : TellsNews x y t index payload = news_at g s x y labels more set receiver pick t index payload kept.told control e is in
    let same_task : h.task ≡ task = some_same (sym h.there ∙ there) in
    let same_func : h.func ≡ f = some_same (sym h.runs ∙ (ap (λ (z : Task). func_of z.callee) same_task ∙ runs)) in
    let here : Some (OfSubtask h.callee) ≡ Some (OfSubtask callee) = sym h.stands ∙ (ap (λ (z : Lifted). entry_at x z.instance index) same_func ∙ stands) in
    let same : h.callee ≡ callee = same_subtask h.callee callee (some_same here) in
    not_behind g s x y labels callee h.state kept e
    (both_calls x.tasks callee (λ z. code_of z.told < code_of h.state) IsOver (subst (λ (n : ℕ). CallIs x.tasks n (λ z. code_of z.told < code_of h.state)) same h.before)
    (over_along g s later w x callee (kept_at g s steps w r) m over))
    (subst (λ (n : ℕ). CallIs y.tasks n (λ z. z.told ≡ h.state)) same h.behind)
  where
    same_subtask : (a b : ℕ) → OfSubtask a ≡ OfSubtask b → a ≡ b
    same_subtask a b k = cc
