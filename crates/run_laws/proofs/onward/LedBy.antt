-- What is so of what is kept where a call of a canonical function leads to values that are to be passed, and parts of calls that don't.
use Rattle.std.proofs.Common.{◌≡◌, ℕ, Bool, true, false, not, if◌then◌else◌, List, [], ◌∷◌, ◌++◌, refl, sym, ap, ◌∙◌, subst, Option, Some, None, Err}
use Rattle.std.specs.Prelude.{IsSome}
use Rattle.std.specs.List.{slice_get}
use Rattle.syntax_trees.specs.declared.types.ValType.{ValType}
use Rattle.builtin_kinds.specs.declared.EndKind.{EndKind}
use Rattle.stream_ends.specs.declared.side.Side.{Side}
use Rattle.stream_ends.specs.declared.side.Side.TheVariants.{Reader, Writer}
use Rattle.stream_ends.specs.declared.stream_end.End.{End}
use Rattle.stream_ends.specs.Ends.{is_copying}
use Rattle.tasks.specs.declared.event.BlockedAt.TheVariants as blocked_at
use Rattle.task_table.specs.declared.refusal.EventError.TheVariants as event_error
use Rattle.tasks.specs.declared.event.TaskTrap.{TaskTrap}
use Rattle.tasks.specs.Tasks.{is_sync, unless}
use Rattle.channels.specs.declared.channel.Channel.{Channel}
use Rattle.channels.specs.Channels.{end_in}
use Rattle.comp_graph.specs.declared.graph.Builtin.{Builtin}
use Rattle.comp_graph.specs.declared.graph.BuiltinKind.TheVariants as kind
use Rattle.comp_graph.specs.declared.graph.CanonFunc.TheVariants as canon
use Rattle.comp_graph.specs.declared.graph.EndOp.{EndOp}
use Rattle.comp_graph.specs.declared.graph.Options.{Options}
use Rattle.comp_graph.specs.Graph.{Graph}
use Rattle.instances.specs.declared.entry.EndEntry.{EndEntry}
use Rattle.instances.specs.declared.entry.WorldEntry.TheVariants as entry
use Rattle.instances.specs.Instances.{InstanceView, entry_of}
use Rattle.task_table.specs.declared.slot.TaskSlot.{TaskSlot}
use Rattle.task_table.specs.Slots as slots
use Rattle.task_table.specs.Slots.{advanced_slot, event_answer, trapped}
use Rattle.trace_labels.specs.declared.label.BlockReason.TheVariants as reason
use Rattle.trace_labels.specs.declared.label.Label.{Label}
use Rattle.trace_labels.specs.declared.trap.TrapName.TheVariants as trap
use Rattle.graph_views.specs.Canons.{canon_at}
use Rattle.world_parts.specs.declared.parts.Copying.{Copying}
use Rattle.world_parts.specs.declared.parts.Flow.{Flow}
use Rattle.world_parts.specs.declared.parts.Flow.TheVariants as flow
use Rattle.world_parts.specs.Held.{Held, Done, Gives, Traps, Spent, Stuck, after, given}
use Rattle.world_parts.specs.Views.{Views}
use Rattle.world_parts.specs.Calls as parts
use Rattle.world_parts.specs.Calls.{blocked_in}
use Rattle.world_parts.specs.Channels.{channel_at, channel_made, concluded, end_dropped, idle_seen}
use Rattle.world_parts.specs.Copies.{both_indices, new_end, channel_new, is_unwritten, dropped_end, drop_tested, end_drop, copy_given_up, copy_cancel}
use Rattle.world_parts.specs.Entries.{entry_added, entry_removed, end_found, end_idled, set_left}
use Rattle.world_parts.specs.Feed.{acting, got}
use Rattle.world_parts.specs.News.{copy_is_async}
use Rattle.world_parts.specs.Places.{memory_of}
use Rattle.world_parts.specs.Slots.{happened, with_task, words_of, word_in}
use Rattle.copy_replies.specs.declared.reading.CopyCall.{CopyCall}
use Rattle.copy_replies.specs.Reads.{placed_well, idle_said, answered_at_once, left_standing, offer_stands}
use Rattle.copy_replies.specs.Moves.{element_at}
use Rattle.copy_replies.specs.Seen as ends
use Rattle.replies.specs.Replies.{may_leave}
use Rattle.machine_runs.specs.Moving.{acting_of}
use Rattle.standing.proofs.CopyMeetings.{SizeFits}
use Rattle.run_laws.proofs.onward.Meets.{HasMet}
use Rattle.run_laws.proofs.plain.Calls.{blocked_in_plain}
use Rattle.run_laws.proofs.plain.Feed.{got_plain}
use Rattle.run_laws.proofs.plain.Only.{PlainBy, plain_after, plain_given, plain_if}

-- What a part gives is so. Where it follows another part, that one gave something.
abbrev pub By : (Flow → Held → Type 0) → Done Flow → Type 0
By P (Gives x k) = P x k
By P (Traps why k) = Unit {0}
By P (Spent k) = Unit {0}
By P Stuck = Unit {0}

pub by_after : {A : Type 0} (P : Flow → Held → Type 0) (d : Done A) (f : A → Held → Done Flow) → ((x : A) (k : Held) → d ≡ Gives x k → By P (f x k)) → By P (after d f)
by_after P (Gives x k) f more = more x k refl
by_after P (Traps why k) f more = tt
by_after P (Spent k) f more = tt
by_after P Stuck f more = tt

pub by_given : {A : Type 0} (P : Flow → Held → Type 0) (o : Option A) (f : A → Done Flow) → ((x : A) → o ≡ Some x → By P (f x)) → By P (given o f)
by_given P None f more = tt
by_given P (Some x) f more = more x refl

pub by_if : (P : Flow → Held → Type 0) (b : Bool) (d e : Done Flow) → (b ≡ true → By P d) → (b ≡ false → By P e) → By P (if b then d else e)
by_if P true d e first other = first refl
by_if P false d e first other = other refl

pub gives_held : {A : Type 0} {x y : A} {h k : Held} → Gives x h ≡ Gives y k → h ≡ k
gives_held e = cc

pub gives_first : {A : Type 0} {x y : A} {h k : Held} → Gives x h ≡ Gives y k → x ≡ y
gives_first e = cc

-- A task does what it did, for the same caller and in the same instance.
pub record SlotLed (x y : TaskSlot) : Type 0 where
  pub callee : y.callee ≡ x.callee
  pub instance : y.instance ≡ x.instance
  pub caller : y.caller ≡ x.caller
  pub kind : y.task.kind ≡ x.task.kind

pub record IsLed (h k : Held) : Type 0 where
  pub chain : k.chain ≡ h.chain
  pub rest : k.rest ≡ h.rest
  pub instances : k.instances ≡ h.instances
  pub stay : (n : ℕ) → IsSome (slice_get h.tasks n) → IsSome (slice_get k.tasks n)
  pub tasks : (n : ℕ) (y : TaskSlot) → slice_get k.tasks n ≡ Some y → (x : TaskSlot) × (slice_get h.tasks n ≡ Some x) × SlotLed x y

pub slot_led : (x : TaskSlot) → SlotLed x x
slot_led x = record { callee = refl; instance = refl; caller = refl; kind = refl }

pub led_same : (h k : Held) → k.chain ≡ h.chain → k.rest ≡ h.rest → k.instances ≡ h.instances → k.tasks ≡ h.tasks → IsLed h k
led_same h k chain rest instances tasks = record {
  chain = chain;
  rest = rest;
  instances = instances;
  stay = λ n there. subst (λ (l : List TaskSlot). IsSome (slice_get l n)) (sym tasks) there;
  tasks = λ n y there. (y, ap (λ (l : List TaskSlot). slice_get l n) (sym tasks) ∙ there, slot_led y);
}

-- A task is asked whether it may return.
pub record IsAsked (t : ℕ) (h : Held) : Type 0 where
  pub apart : (x : TaskSlot) → slice_get h.tasks t ≡ Some x → is_sync x.task.kind ≡ false

pub record ReturnsLed (g : Graph) (number t : ℕ) (h k : Held) : Type 0 where
  pub builtin : Builtin
  pub result : Option ValType
  pub options : Options
  pub made : canon_at g number ≡ Some (canon.Builtin builtin)
  pub is : builtin.kind ≡ kind.TaskReturn result options
  pub asked : IsAsked t h
  pub led : IsLed h k

-- Elements go over from the end at an index, which is of the type of the built-in's ends, and where an offer was met. No memory changes.
pub record CopiesLed (g : Graph) (types : List (Option ℕ)) (number t : ℕ) (h k : Held) (x : Copying) : Type 0 where
  pub builtin : Builtin
  pub of_what : EndKind
  pub element : Option ValType
  pub op : EndOp
  pub made : canon_at g number ≡ Some (canon.Builtin builtin)
  pub is : builtin.kind ≡ kind.End of_what element op
  pub type : ℕ
  pub typed : slice_get types number ≡ Some (Some type)
  pub called : x.canon ≡ number
  pub late : may_leave h ≡ true
  pub end : (i : InstanceView) (e : EndEntry) → slice_get h.instances builtin.instance ≡ Some i → entry_of i x.index ≡ Some (entry.End e) → e.end_type ≡ type
  pub placed : placed_well (element_at g number) (memory_of ((ends.seen g).options number) h) x.place x.length h ≡ Gives tt h
  pub led : IsLed h k
  pub store : k.store ≡ h.store
  pub memories : k.memories ≡ h.memories
  pub fits : SizeFits of_what x.length
  pub met : (i : InstanceView) (e : EndEntry) → slice_get h.instances builtin.instance ≡ Some i → entry_of i x.index ≡ Some (entry.End e)
      → HasMet e.side t number x.place x.length x.count (channel_at of_what e.number h) (channel_at of_what e.number k)

abbrev pub LedTo : Graph → List (Option ℕ) → ℕ → ℕ → Held → Flow → Held → Type 0
LedTo g types number t h (flow.Now words) k = Unit {0}
LedTo g types number t h flow.Rests k = Unit {0}
LedTo g types number t h (flow.Starts ref words) k = Unit {0}
LedTo g types number t h flow.Enters k = ⊥
LedTo g types number t h flow.Returns k = ReturnsLed g number t h k
LedTo g types number t h (flow.Copies copying) k = CopiesLed g types number t h k copying
LedTo g types number t h (flow.Delivers r set) k = Unit {0}
LedTo g types number t h (flow.Polls r set) k = Unit {0}
LedTo g types number t h (flow.HearsNone r) k = Unit {0}
LedTo g types number t h (flow.HearsCancel r) k = Unit {0}

-- Built-ins of ends that are plain.
pub new_plain : (t at : ℕ) (of_what : EndKind) (type : ℕ) (h : Held) → PlainBy (channel_new t at of_what type h)
unfolding channel_new
new_plain t at of_what type h =
    plain_after (channel_made of_what type h) (λ number k. after (entry_added at (new_end Reader type number) k) (λ readable l. after (entry_added at (new_end Writer type number) l) (λ writable m. got t (both_indices readable writable ∷ []) m)))
    (λ number k.
    plain_after (entry_added at (new_end Reader type number) k) (λ readable l. after (entry_added at (new_end Writer type number) l) (λ writable m. got t (both_indices readable writable ∷ []) m))
    (λ readable l.
    plain_after (entry_added at (new_end Writer type number) l) (λ writable m. got t (both_indices readable writable ∷ []) m) (λ writable m. got_plain t (both_indices readable writable ∷ []) m)))

pub dropped_plain : (t at index : ℕ) (of_what : EndKind) (side : Side) (number : ℕ) (h : Held) → PlainBy (dropped_end t at index of_what side number h)
unfolding dropped_end
dropped_plain t at index of_what side number h =
    plain_after (set_left at index h) (λ done k. after (entry_removed at index k) (λ done l. after (end_dropped of_what side number l) (λ done m. got t [] m)))
    (λ done k.
    plain_after (entry_removed at index k) (λ done l. after (end_dropped of_what side number l) (λ done m. got t [] m))
    (λ done l. plain_after (end_dropped of_what side number l) (λ done m. got t [] m) (λ done m. got_plain t [] m)))

pub tested_plain : (t at index : ℕ) (of_what : EndKind) (side : Side) (number : ℕ) (e : End) (h : Held) → PlainBy (drop_tested t at index of_what side number e h)
tested_plain t at index of_what side number e h =
    plain_if (is_copying e) (Traps trap.Busy h) (if is_unwritten of_what side e.done then Traps trap.UnwrittenFuture h else dropped_end t at index of_what side number h) tt
    (plain_if (is_unwritten of_what side e.done) (Traps trap.UnwrittenFuture h) (dropped_end t at index of_what side number h) tt (dropped_plain t at index of_what side number h))

pub drop_plain : (t at : ℕ) (of_what : EndKind) (side : Side) (type : ℕ) (words : List ℕ) (h : Held) → PlainBy (end_drop t at of_what side type words h)
unfolding end_drop
drop_plain t at of_what side type words h =
    plain_given (word_in words 0)
    (λ index. after (end_found at side type index h) (λ e k. given (channel_at of_what e.number k) (λ c. drop_tested t at index of_what side e.number (end_in side c.ends) k)))
    (λ index is.
    plain_after (end_found at side type index h) (λ e k. given (channel_at of_what e.number k) (λ c. drop_tested t at index of_what side e.number (end_in side c.ends) k))
    (λ e k.
    plain_given (channel_at of_what e.number k) (λ c. drop_tested t at index of_what side e.number (end_in side c.ends) k)
    (λ c found. tested_plain t at index of_what side e.number (end_in side c.ends) k)))

pub given_up_plain : (t at index : ℕ) (of_what : EndKind) (side : Side) (number : ℕ) (h : Held) → PlainBy (copy_given_up t at index of_what side number h)
unfolding copy_given_up
given_up_plain t at index of_what side number h =
    plain_after (concluded of_what side number h) (λ payload k. after (idle_seen of_what side number k) (λ is_idle l. after (end_idled at index is_idle l) (λ done m. got t (payload ∷ []) m)))
    (λ payload k.
    plain_after (idle_seen of_what side number k) (λ is_idle l. after (end_idled at index is_idle l) (λ done m. got t (payload ∷ []) m))
    (λ is_idle l. plain_after (end_idled at index is_idle l) (λ done m. got t (payload ∷ []) m) (λ done m. got_plain t (payload ∷ []) m)))

pub cancel_plain : (g : Views) (t at : ℕ) (of_what : EndKind) (side : Side) (type : ℕ) (words : List ℕ) (h : Held) → PlainBy (copy_cancel g t at of_what side type words h)
unfolding copy_cancel
cancel_plain g t at of_what side type words h =
    let up : ℕ → EndEntry → Held → Channel → Done Flow = λ index e k c.
    if not (copy_is_async g (end_in side c.ends).copy) then Traps trap.NotCopying k else copy_given_up t at index of_what side e.number k in
    plain_given (word_in words 0) (λ index. after (end_found at side type index h) (λ e k. given (channel_at of_what e.number k) (λ c. up index e k c)))
    (λ index is.
    plain_after (end_found at side type index h) (λ e k. given (channel_at of_what e.number k) (λ c. up index e k c))
    (λ e k.
    plain_given (channel_at of_what e.number k) (λ c. up index e k c)
    (λ c found.
    plain_if (not (copy_is_async g (end_in side c.ends).copy)) (Traps trap.NotCopying k) (copy_given_up t at index of_what side e.number k) tt (given_up_plain t at index of_what side e.number k))))

pub at_once_plain : (c : CopyCall) (number payload : ℕ) (h : Held) → PlainBy (answered_at_once c number payload h)
unfolding answered_at_once
at_once_plain c number payload h = plain_after (idle_said c number h) (λ done k. got c.task (payload ∷ []) k) (λ done k. got_plain c.task (payload ∷ []) k)

pub left_plain : (g : Views) (c : CopyCall) (h : Held) → PlainBy (left_standing g c h)
left_plain g c h =
    plain_if (g.is_async c.canon) (got c.task (parts.blocked_word ∷ []) h) (blocked_in c.task c.canon (g.flag c.canon) (blocked_at.Copy c.index) (reason.Copy c.index) h) (got_plain c.task (parts.blocked_word ∷ []) h)
    (blocked_in_plain c.task c.canon (g.flag c.canon) (blocked_at.Copy c.index) (reason.Copy c.index) h)

pub stands_plain : (g : Views) (c : CopyCall) (number : ℕ) (h : Held) → PlainBy (offer_stands g c number h)
unfolding offer_stands
stands_plain g c number h = plain_after (idle_said c number h) (λ done k. left_standing g c k) (λ done k. left_plain g c k)

-- Parts that change nothing, or one thing.
pub acting_gives : (h : Held) (t : ℕ) (k : Held) → acting h ≡ Gives t k → (acting_of h ≡ Some t) × (k ≡ h)
acting_gives h t k is = from (acting_of h) refl is
  where
    from : (o : Option ℕ) → acting_of h ≡ o → given o (λ n. Gives n h) ≡ Gives t k → (acting_of h ≡ Some t) × (k ≡ h)
    from None none e = absurd (cc)
    from (Some n) some e = (some ∙ ap (λ (m : ℕ). Some m) (gives_first e), sym (gives_held e))

pub words_gives : (t : ℕ) (h : Held) (words : List ℕ) (k : Held) → words_of t h ≡ Gives words k → k ≡ h
words_gives t h words k is = from (slice_get h.tasks t) is
  where
    from : (o : Option TaskSlot) → given o (λ slot. Gives slot.at_words h) ≡ Gives words k → k ≡ h
    from None e = absurd (cc)
    from (Some slot) e = sym (gives_held e)

abbrev pub lined : Label → Held → Held
lined l h = record h { labels = h.labels ++ l ∷ [] }

-- It may be asked whether it returns.
pub not_sync : (b : Bool) (why : TaskTrap) → ◌≡◌ {A = Option TaskTrap} (if b then Some why else None) None → b ≡ false
not_sync true why e = absurd (cc)
not_sync false why e = refl

pub returned_by : (P : Flow → Held → Type 0) (h : Held) (t : ℕ) (b : Bool) (o : Option TaskTrap) (x : TaskSlot) → (o ≡ None → P flow.Returns (with_task t (slots.with_task x.task x) h))
    → By P (let d : Done Flow = after (happened (if b then trapped o else Err event_error.NotNow) t (if b then slots.with_task (unless o x.task x.task) x else x) h) (λ done k. Gives flow.Returns k) in d)
returned_by P h t true None x p = p refl
returned_by P h t true (Some why) x p = tt
returned_by P h t false o x p = tt
