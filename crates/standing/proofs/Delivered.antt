-- Of the ready members of a set one is picked, and its event comes.
use Rattle.std.proofs.Common.{◌≡◌, ℕ, suc, Bool, true, false, nat_eq, if◌then◌else◌, List, [], ◌∷◌, ◌++◌, length, refl, sym, ap, ◌∙◌, subst, arith, Option, Some, None}
use Rattle.std.specs.List.{slice_get}
use Rattle.std.proofs.lemmas.Bool.{lt-ltb, ne_eqb}
use Rattle.syntax_trees.specs.declared.types.ValType.{ValType}
use Rattle.wasm_store.specs.Stack.{Stack}
use Rattle.choices.specs.Choosing as picks
use Rattle.choices.specs.Drawing.{drawn, drawn_answer}
use Rattle.comp_graph.specs.Graph.{Graph, Lifted}
use Rattle.script_reader.specs.Script.{Script}
use Rattle.trace_labels.specs.declared.label.Label.{Label}
use Rattle.trace_labels.specs.declared.label.Label.TheVariants as line
use Rattle.instances.specs.Instances.{InstanceView, entry_of}
use Rattle.world_parts.specs.declared.parts.Flow.{Flow}
use Rattle.world_parts.specs.declared.parts.Receiver as kept
use Rattle.world_parts.specs.declared.parts.Receiver.TheVariants as receiver
use Rattle.world_parts.specs.Views.{Views}
use Rattle.world_parts.specs.Held.{Held, Done, Gives, after, given}
use Rattle.world_parts.specs.Entries.{entry_found}
use Rattle.world_parts.specs.Feed.{chosen}
use Rattle.world_parts.specs.Events as events
use Rattle.world_parts.specs.Events.{received_none, delivered_among, delivers, polled, polls}
use Rattle.world_parts.specs.News as news
use Rattle.world_parts.specs.News.{news_at, entry_in, entry_news, members_in}
use Rattle.abi_machine.specs.Control.{Control, Free, Delivers, Receiver, InCallback}
use Rattle.abi_machine.specs.World.{World}
use Rattle.abi_machine.specs.Edits.{with_control, picked}
use Rattle.abi_machine.specs.Choosing as choosing
use Rattle.abi_machine.specs.Choosing.{picks_of}
use Rattle.abi_machine.specs.Counting.{ready}
use Rattle.abi_machine.specs.Turn.{Turn, Steps, behind}
use Rattle.abi_machine.specs.Next.{next}
use Rattle.abi_machine.specs.Delivering as machine
use Rattle.abi_machine.specs.Delivering.{set_polled, members_turn, delivering_turn, entry_delivered}
use Rattle.standing.specs.Instances.{InstStands}
use Rattle.standing.specs.Stands.{Stands}
use Rattle.standing.specs.Agreeing.{Agrees}
use Rattle.standing.specs.Events.{Behind, AgreesOn, Hears}
use Rattle.standing.specs.Waits.{KeepsCalls, HasNews, EventIsDelivered, SetIsPolled}
use Rattle.standing.proofs.Lists.{IsFound, found_both}
use Rattle.standing.proofs.Changes.{picks_are_alike, picks_are_used}
use Rattle.standing.proofs.Agreeing.{turn_as}
use Rattle.standing.proofs.Steps.{behind_none, func_acts}
use Rattle.standing.proofs.Heard.{hears_then, nothing_is_heard}
use Rattle.standing.proofs.Delivering.{call_kept, on_member}
use Rattle.standing.proofs.Members.{agrees_behind, otherwise, ready_stays, besides, news_stay, passes_at}

-- What agrees with a turn, and those behind it, agrees with one that is the same.
pub on_as : (g : Graph) (values : List ValType) (s : Script) (t : ℕ) (before : List Label) (stacks : List (List Stack)) (d e : Done Flow) (u v : Turn) → d ≡ e → u ≡ v
    → AgreesOn g values s t before stacks e v → AgreesOn g values s t before stacks d u
on_as g values s t before stacks d e u v same turn a =
    subst (λ (x : Done Flow). AgreesOn g values s t before stacks x u) (sym same) (subst (λ (x : Turn). AgreesOn g values s t before stacks e x) (sym turn) a)

-- A ready member has news.
member_news : (v : Views) (h : Held) (at set n index : ℕ) (x : InstanceView) → slice_get h.instances at ≡ Some x → slice_get (news.ready v at set h) n ≡ Some index
    → entry_news v (entry_of x index) h ≡ true
member_news v h at set n index x is there =
    ap (λ (o : Option InstanceView). entry_news v (entry_in o index) h) (sym is) ∙ passes_at (news_at v h at) (members_in (slice_get h.instances at) set) n index there

calls_kept : (h k : Held) (at : ℕ) → k.tasks ≡ h.tasks → k.instances ≡ h.instances → KeepsCalls h at → KeepsCalls k at
calls_kept h k at tasks instances calls = λ index callee i is there.
    let call = calls index callee i (ap (λ (xs : List InstanceView). slice_get xs at) (sym instances) ∙ is) there in
    (call.0, call.1, call_kept h k at callee call.0 call.1 tasks instances call.2)

module _ (g : Graph) (values : List ValType) (s : Script) (v : Views) (h : Held) (stacks : List (List Stack)) (w : World) (t set : ℕ) (f : Lifted) (r : kept.Receiver) (to : Receiver)
    (a : Hears g v h w t f r to) (first : slice_get w.chain 0 ≡ Some t) (has : HasNews values v h w f.instance set) (st : Stands g values s h stacks w) where
  abbrev inst : IsFound (InstStands values) (slice_get h.instances f.instance) (slice_get w.insts f.instance)
  inst = found_both (InstStands values) h.instances w.insts f.instance st.are_instances has.inside

  -- The event of one of them.
  one_of : (labels : List Label) (left : List ℕ) (used : ℕ) (n index : ℕ) → slice_get (news.ready v f.instance set h) n ≡ Some index
      → Stands g values s (besides labels left h) stacks (otherwise used Free w)
      → Agrees g values s t labels stacks (after (entry_found f.instance index (besides labels left h)) (λ found k. events.member_delivered v t f.instance r index found k))
      (machine.member_delivered g t f to (Some index) (otherwise used Free w))
  unfolding machine.member_delivered
  one_of labels left used n index there now =
      let k : Held = besides labels left h in
      let u : World = otherwise used Free w in
      on_member g values s v k stacks u t index inst.left inst.right f r to (hears_then g v h k w u t f r to a.task a refl refl a.there a.runs) inst.is_left inst.is_right inst.alike
      has.ends (calls_kept h k f.instance refl refl has.calls)
      (news_stay v labels left h (entry_of inst.left index) ∙ member_news v h f.instance set n index inst.left inst.is_left there) now

  -- Of several one is picked.
  picked_at : (ms : List ℕ) (n m : ℕ) (o : Option ℕ) (labels : List Label) (left : List ℕ) (used : ℕ) → news.ready v f.instance set h ≡ ms → n ≡ m → slice_get ms n ≡ o
      → Stands g values s (besides labels left h) stacks (otherwise used Free w)
      → Agrees g values s t labels stacks
      (given o (λ index. after (entry_found f.instance index (besides labels left h)) (λ found k. events.member_delivered v t f.instance r index found k)))
      (machine.member_delivered g t f to o (otherwise used Free w))
  unfolding machine.member_delivered
  picked_at ms n m None labels left used is same there now = refl
  picked_at ms n m (Some index) labels left used is same there now =
      one_of labels left used n index (ap (λ (xs : List ℕ). slice_get xs n) is ∙ there) now

  by_members : (ms : List ℕ) → news.ready v f.instance set h ≡ ms → ready w f.instance set ≡ ms
      → AgreesOn g values s t h.labels stacks (delivered_among v t f.instance r ms h) (members_turn g s t f set to None ms (otherwise w.picks Free w))
  unfolding delivered_among members_turn machine.member_delivered choosing.chosen delivering_turn
  by_members [] kept_is is = (0, refl)
  by_members (i ∷ []) kept_is is = (0, one_of h.labels h.picks w.picks 0 i (ap (λ (xs : List ℕ). slice_get xs 0) kept_is) st)
  by_members (i ∷ j ∷ ms) kept_is is =
      let all : List ℕ = i ∷ j ∷ ms in
      let count : ℕ = length all in
      let answer : ℕ = drawn_answer count (picks_of s w) in
      let n : ℕ = picks.picked count h.picks in
      let same : n ≡ answer = picks_are_alike g values s h stacks w count st in
      let used : ℕ = (drawn count (picks_of s w)).used in
      let labels : List Label = h.labels ++ line.Choose count answer ∷ [] in
      let left : List ℕ = picks.left count h.picks in
      let now : World = with_control (Delivers set to (Some answer)) (picked used w) in
      let member : ℕ → Held → Done Flow = λ number k. given (slice_get all number) (λ index.
      after (entry_found f.instance index k) (λ found l. events.member_delivered v t f.instance r index found l)) in (
        1,
        (
          line.Choose count answer ∷ [],
          now,
          refl,
          subst (λ (d : Done Flow). Agrees g values s t h.labels stacks d (behind (line.Choose count answer ∷ []) (delivering_turn g s set to (Some answer) (otherwise used Free w))))
              (sym (ap (λ (b : Bool). after (if b then chosen count h else Gives 0 h) member) (lt-ltb 1 count (omega arith))
              ∙ ap (λ (m : ℕ). member m (besides (h.labels ++ line.Choose count m ∷ []) left h)) same))
              (agrees_behind g values s t h.labels (line.Choose count answer ∷ []) stacks (member answer (besides labels left h)) (delivering_turn g s set to (Some answer) (otherwise used Free w))
              (turn_as g values s t labels stacks _ (delivering_turn g s set to (Some answer) (otherwise used Free w)) (machine.member_delivered g t f to (slice_get all answer) (otherwise used Free w))
              (func_acts (otherwise used Free w) t a.task f (λ t task f. members_turn g s t f set to (Some answer) (ready (otherwise used Free w) f.instance set) (otherwise used Free w))
              (record { first = first; there = a.there; runs = a.runs; inside = has.inside })
              ∙ ap (λ (xs : List ℕ). machine.member_delivered g t f to (slice_get xs answer) (otherwise used Free w)) (ready_stays used Free w f.instance set ∙ is))
              (picked_at all answer answer (slice_get all answer) labels left used kept_is refl refl (picks_are_used g values s h stacks w count st)))),
        ),
      )

  -- The turn behind the one that says that an event comes.
  pub delivered_next : AgreesOn g values s t h.labels stacks (delivered_among v t f.instance r (news.ready v f.instance set h) h) (next g s (with_control (Delivers set to None) w))
  unfolding delivering_turn
  delivered_next =
      on_as g values s t h.labels stacks _ (delivered_among v t f.instance r (news.ready v f.instance set h) h) _
      (members_turn g s t f set to None (news.ready v f.instance set h) (otherwise w.picks Free w)) refl
      (func_acts (otherwise w.picks Free w) t a.task f (λ t task f. members_turn g s t f set to None (ready (otherwise w.picks Free w) f.instance set) (otherwise w.picks Free w))
      (record { first = first; there = a.there; runs = a.runs; inside = has.inside })
      ∙ ap (λ (xs : List ℕ). members_turn g s t f set to None xs (otherwise w.picks Free w)) (ready_stays w.picks Free w f.instance set ∙ sym has.ready))
      (by_members (news.ready v f.instance set h) refl (sym has.ready))

-- An event comes behind a turn that says so.
pub behind_silent : (g : Graph) (values : List ValType) (s : Script) (t : ℕ) (before : List Label) (stacks : List (List Stack)) (d : Done Flow) (control : Control) (w : World) (u : Turn)
    → next g s (with_control control w) ≡ u → AgreesOn g values s t before stacks d u → AgreesOn g values s t before stacks d (Steps [] (with_control control w))
behind_silent g values s t before stacks d control w u is a = (
  suc a.0,
  (
    [],
    with_control control w,
    refl,
    subst (λ (x : Turn). Behind g s (Agrees g values s t before stacks d) a.0 x) (sym (behind_none (next g s (with_control control w)) ∙ is)) a.1,
  ),
)

pub event_is_delivered : EventIsDelivered
unfolding delivers
event_is_delivered g values s v h stacks w t set f r to a first has st = delivered_next g values s v h stacks w t set f r to a first has st

-- A list that is not empty.
some_long : (i : ℕ) (ms : List ℕ) → nat_eq (length (i ∷ ms)) 0 ≡ false
some_long i ms = ne_eqb (suc (length ms)) 0 (λ (e : suc (length ms) ≡ 0). omega (arith, e))

-- By what is ready: the event of a member comes behind a turn that says so, or what comes where none is.
pub by_ready_members : (g : Graph) (values : List ValType) (s : Script) (v : Views) (h : Held) (stacks : List (List Stack)) (w : World) (t set : ℕ) (f : Lifted) (r : kept.Receiver) (to : Receiver)
    (d : Done Flow) (none : Turn) (some : List ℕ → Turn) (ms : List ℕ)
    → Hears g v h w t f r to → slice_get w.chain 0 ≡ Some t → HasNews values v h w f.instance set → Stands g values s h stacks w → news.ready v f.instance set h ≡ ms
    → some [] ≡ none → ((i : ℕ) (more : List ℕ) → some (i ∷ more) ≡ Steps [] (with_control (Delivers set to None) w)) → Agrees g values s t h.labels stacks d none
    → AgreesOn g values s t h.labels stacks (if nat_eq (length ms) 0 then d else delivered_among v t f.instance r ms h) (some ms)
by_ready_members g values s v h stacks w t set f r to d none some [] a first has st is no_member member agrees =
    (0, turn_as g values s t h.labels stacks d (some []) none no_member agrees)
by_ready_members g values s v h stacks w t set f r to d none some (i ∷ ms) a first has st is no_member member agrees =
    on_as g values s t h.labels stacks _ (delivered_among v t f.instance r (news.ready v f.instance set h) h) _ (Steps [] (with_control (Delivers set to None) w))
    (ap (λ (b : Bool). if b then d else delivered_among v t f.instance r (i ∷ ms) h) (some_long i ms)
    ∙ ap (λ (xs : List ℕ). delivered_among v t f.instance r xs h) (sym is))
    (member i ms)
    (behind_silent g values s t h.labels stacks (delivered_among v t f.instance r (news.ready v f.instance set h) h) (Delivers set to None) w _ refl
    (delivered_next g values s v h stacks w t set f r to a first has st))

pub set_is_polled : SetIsPolled
unfolding polls polled set_polled
set_is_polled g values s v h stacks w t set f a first has st =
    on_as g values s t h.labels stacks _ _ _ (set_polled g t f set (news.ready v f.instance set h) w) refl (ap (λ (ms : List ℕ). set_polled g t f set ms w) (sym has.ready))
    (by_ready_members g values s v h stacks w t set f receiver.InCallback InCallback (received_none v t receiver.InCallback h) (machine.received_none g t f InCallback w)
    (λ ms. set_polled g t f set ms w) (news.ready v f.instance set h) a first has st refl refl (λ i more. refl)
    (nothing_is_heard g values s v h stacks w t f receiver.InCallback InCallback a st))
