-- The end at an index, with its stream or future, on both sides.
use Rattle.std.proofs.Common.{◌≡◌, ℕ, Bool, true, false, nat_eq, ◌&&◌, if◌then◌else◌, List, refl, sym, ap, ◌∙◌, subst, Option, Some, None, Result, Ok, Err}
use Rattle.std.specs.Prelude.{IsSome}
use Rattle.std.specs.List.{slice_get}
use Rattle.std.proofs.lemmas.Bool.{eqb-true}
use Rattle.syntax_trees.specs.declared.types.ValType.{ValType}
use Rattle.laid_types.specs.SameTypes.{AreDistinct}
use Rattle.wasm_store.specs.Stack.{Stack}
use Rattle.handle_table.specs.History.{live}
use Rattle.handle_table.specs.Alike.{SlotAlike}
use Rattle.builtin_kinds.specs.declared.EndKind.{EndKind}
use Rattle.builtin_kinds.specs.declared.EndKind.TheVariants.{Stream, Future}
use Rattle.stream_ends.specs.declared.side.Side.{Side}
use Rattle.stream_ends.specs.declared.side.Side.TheVariants.{Reader, Writer}
use Rattle.stream_ends.specs.Ends.{is_idle}
use Rattle.res_handles.specs.declared.handle.Ownership.{Ownership}
use Rattle.res_handles.specs.declared.handle.Ownership.TheVariants.{Own, Borrow}
use Rattle.res_handles.specs.declared.refusal.Refusal.{Refusal}
use Rattle.res_handles.specs.declared.refusal.Refusal.TheVariants as refusal
use Rattle.comp_graph.specs.Graph.{Graph}
use Rattle.script_reader.specs.Script.{Script}
use Rattle.trace_labels.specs.declared.label.Label.{Label}
use Rattle.trace_labels.specs.declared.trap.TrapName.{TrapName}
use Rattle.trace_labels.specs.declared.trap.TrapName.TheVariants as trap
use Rattle.channels.specs.declared.channel.Channel as kept
use Rattle.channels.specs.Channels.{end_in}
use Rattle.instances.specs.declared.entry.EndEntry.{EndEntry}
use Rattle.instances.specs.declared.entry.WorldEntry.{WorldEntry}
use Rattle.instances.specs.declared.entry.WorldEntry.TheVariants as entry
use Rattle.instances.specs.Entries as entries
use Rattle.instances.specs.Instances.{InstanceView, entry_of}
use Rattle.world_parts.specs.declared.parts.Flow.{Flow}
use Rattle.world_parts.specs.Held.{Held, Done, after}
use Rattle.world_parts.specs.Names as names
use Rattle.world_parts.specs.Entries.{named, end_found}
use Rattle.world_parts.specs.Channels as kept_channels
use Rattle.world_parts.specs.Channels.{channels}
use Rattle.abi_machine.specs.Control.{EndRef}
use Rattle.abi_machine.specs.World.{Entry, OfEnd, Inst, Channel, World}
use Rattle.abi_machine.specs.SameTypes.{same_held}
use Rattle.abi_machine.specs.Reading.{table_in, entry_at, channel_at}
use Rattle.abi_machine.specs.Counting.{passes}
use Rattle.abi_machine.specs.Finding as found
use Rattle.abi_machine.specs.Finding.{same_kind}
use Rattle.abi_machine.specs.Traps.{refusal_name}
use Rattle.abi_machine.specs.Turn.{Turn, doomed, unless_refused}
use Rattle.abi_machine.proofs.sound.Found.{some_same, ok_same}
use Rattle.standing.specs.Instances.{owned_as, EntryStands}
use Rattle.standing.specs.Stands.{ChannelStands, Stands}
use Rattle.standing.specs.Channels.{IsEndsType, of_kind, EndMarked, HasMarkedEnds}
use Rattle.standing.specs.Agreeing.{Agrees}
use Rattle.standing.proofs.Tables.{entries_are_alike}
use Rattle.standing.proofs.Found.{names_same}
use Rattle.standing.proofs.Agreeing.{turn_as, on_instance, on_trap}
use Rattle.standing.proofs.EndTypes.{one_kind, numbers_alike}
use Rattle.standing.proofs.Channels.{channels_are_alike}

-- The streams or the futures of what is kept.
pub all_of_kind : (kind : EndKind) (h : Held) → of_kind kind h.streams h.futures ≡ channels kind h
all_of_kind Stream h = refl
all_of_kind Future h = refl

-- What is known of the end of a kind in an entry: its stream or future, on both sides.
pub record EndFound (values : List ValType) (h : Held) (w : World) (kind : EndKind) (e : EndEntry) : Type 0 where
  pub channel : kept.Channel
  pub other : Channel
  pub here : kept_channels.channel_at kind e.number h ≡ Some channel
  pub there : channel_at w kind e.number ≡ Some other
  pub alike : ChannelStands values kind channel other
  pub number : e.end_type ≡ channel.end_type
  pub typed : IsEndsType values kind other.element e.end_type
  pub idle : e.is_idle ≡ is_idle (end_in e.side channel.ends)

on_both : (values : List ValType) (h : Held) (w : World) (kind : EndKind) (e : EndEntry) (c : kept.Channel) (o : Option kept.Channel) (p : Option Channel)
    → kept_channels.channel_at kind e.number h ≡ o → channel_at w kind e.number ≡ p → o ≡ Some c → e.end_type ≡ c.end_type → e.is_idle ≡ is_idle (end_in e.side c.ends)
    → SlotAlike (ChannelStands values kind) o p → EndFound values h w kind e
on_both values h w kind e c None p here there is typed idle alike = absurd (cc)
on_both values h w kind e c (Some d) None here there is typed idle alike = absurd alike
on_both values h w kind e c (Some d) (Some a) here there is typed idle alike =
    let same : d ≡ c = some_same is in
    record {
      channel = d;
      other = a;
      here = here;
      there = there;
      alike = alike;
      number = typed ∙ ap (λ (x : kept.Channel). x.end_type) (sym same);
      typed = subst (λ (n : ℕ). IsEndsType values kind a.element n) (sym (typed ∙ ap (λ (x : kept.Channel). x.end_type) (sym same))) alike.typed;
      idle = idle ∙ ap (λ (x : kept.Channel). is_idle (end_in e.side x.ends)) (sym same);
    }

of_mark : (g : Graph) (values : List ValType) (s : Script) (h : Held) (stacks : List (List Stack)) (w : World) (e : EndEntry) (m : EndMarked h.streams h.futures e)
    → Stands g values s h stacks w → EndFound values h w m.kind e
of_mark g values s h stacks w e m st =
    on_both values h w m.kind e m.channel (kept_channels.channel_at m.kind e.number h) (channel_at w m.kind e.number) refl refl
    (ap (λ (all : List kept.Channel). kept_channels.numbered all e.number) (sym (all_of_kind m.kind h)) ∙ m.there) m.typed m.idle
    (channels_are_alike g values s h stacks w m.kind e.number st)

pub end_is_found : (g : Graph) (values : List ValType) (s : Script) (h : Held) (stacks : List (List Stack)) (w : World) (kind : EndKind) (element : Option ValType) (e : EndEntry)
    → EndMarked h.streams h.futures e → IsEndsType values kind element e.end_type → Stands g values s h stacks w → EndFound values h w kind e
end_is_found g values s h stacks w kind element e m is st =
    let f : EndFound values h w m.kind e = of_mark g values s h stacks w e m st in
    subst (λ (k : EndKind). EndFound values h w k e) (one_kind values e.end_type m.kind kind f.other.element element f.typed is) f

-- The end as the machine has it, or the trap.
abbrev pub ref_of : EndKind → EndEntry → EndRef
ref_of kind e = record { kind = kind; number = e.number; side = e.side }

abbrev pub refs : EndKind → Result EndEntry Refusal → Result EndRef TrapName
refs kind (Ok e) = Ok (ref_of kind e)
refs kind (Err why) = Err (refusal_name why)

sides_same : (a b : Side) → entries.same_side a b ≡ found.same_side a b
sides_same Reader Reader = refl
sides_same Reader Writer = refl
sides_same Writer Reader = refl
sides_same Writer Writer = refl

no_end : (w : World) (kind : EndKind) (side : Side) (element : Option ValType) (resource rep : ℕ) (o : Ownership)
    → found.end_in w kind side element (Some (owned_as resource rep o)) ≡ Err trap.OtherKind
no_end w kind side element resource rep Own = refl
no_end w kind side element resource rep (Borrow task) = refl

-- An end of any type is of the wanted one on both sides, or on none.
typed_alike : (kind other : EndKind) (type : ℕ) (e : EndEntry) (b c : Bool) → b ≡ c → (b ≡ true → other ≡ kind)
    → found.typed_end b (ref_of other e) ≡ refs kind (if c then Ok e else Err refusal.OtherType)
typed_alike kind other type e true true same is = ap (λ (k : EndKind). Ok (ref_of k e)) (is refl)
typed_alike kind other type e true false same is = absurd (cc)
typed_alike kind other type e false true same is = absurd (cc)
typed_alike kind other type e false false same is = refl

sided_alike : (kind other : EndKind) (type : ℕ) (e : EndEntry) (a b : Bool) → b ≡ nat_eq e.end_type type → (b ≡ true → other ≡ kind)
    → (if a then found.typed_end b (ref_of other e) else Err trap.OtherKind) ≡ refs kind (if a then entries.typed_end type e else Err refusal.OtherKind)
sided_alike kind other type e true b same is = typed_alike kind other type e b (nat_eq e.end_type type) same is
sided_alike kind other type e false b same is = refl

kind_first : (k l : EndKind) (c : Bool) → (same_kind k l && c) ≡ true → k ≡ l
kind_first Stream Stream c h = refl
kind_first Stream Future c h = absurd (cc)
kind_first Future Stream c h = absurd (cc)
kind_first Future Future c h = refl

end_alike : (g : Graph) (values : List ValType) (s : Script) (h : Held) (stacks : List (List Stack)) (w : World) (kind : EndKind) (side : Side) (element : Option ValType) (type : ℕ)
    (o : Option WorldEntry) (p : Option Entry)
    → AreDistinct values → IsEndsType values kind element type → ((e : EndEntry) → o ≡ Some (entry.End e) → EndMarked h.streams h.futures e) → Stands g values s h stacks w
    → SlotAlike (EntryStands values) o p → found.end_in w kind side element p ≡ refs kind (entries.end_in side type o)
end_alike g values s h stacks w kind side element type None None once is marked st a = refl
end_alike g values s h stacks w kind side element type None (Some p) once is marked st a = absurd a
end_alike g values s h stacks w kind side element type (Some o) None once is marked st a = absurd a
end_alike g values s h stacks w kind side element type (Some (entry.Handle x)) (Some p) once is marked st a =
    ap (λ (b : Entry). found.end_in w kind side element (Some b)) a ∙ no_end w kind side element x.resource x.rep x.ownership
end_alike g values s h stacks w kind side element type (Some (entry.Subtask callee)) (Some p) once is marked st a = ap (λ (b : Entry). found.end_in w kind side element (Some b)) a
end_alike g values s h stacks w kind side element type (Some (entry.Set set)) (Some p) once is marked st a = ap (λ (b : Entry). found.end_in w kind side element (Some b)) a
end_alike g values s h stacks w kind side element type (Some (entry.End e)) (Some p) once is marked st (other, of, a) =
    let f : EndFound values h w other e = end_is_found g values s h stacks w other of.0 e (marked e refl) of.1 st in
    let b : Bool = same_kind other kind && passes (λ (c : Channel). same_held c.element element) (channel_at w other e.number) in
    let same : b ≡ nat_eq e.end_type type =
    ap (λ (c : Option Channel). same_kind other kind && passes (λ (c : Channel). same_held c.element element) c) f.there
    ∙ sym (numbers_alike values e.end_type type other kind f.other.element element once f.typed is) in
    ap (λ (x : Entry). found.end_in w kind side element (Some x)) a
    ∙ ap (λ (t : Bool). if t then found.typed_end b (ref_of other e) else Err trap.OtherKind) (sym (sides_same e.side side))
    ∙ sided_alike kind other type e (entries.same_side e.side side) b same
    (kind_first other kind (passes (λ (c : Channel). same_held c.element element) (channel_at w other e.number)))

-- Whose end it is where one was found.
pub record EndAt (side : Side) (type : ℕ) (o : Option WorldEntry) (e : EndEntry) : Type 0 where
  pub there : o ≡ Some (entry.End e)
  pub side_is : e.side ≡ side
  pub type_is : e.end_type ≡ type

side_told : (a b : Side) → entries.same_side a b ≡ true → a ≡ b
side_told Reader Reader h = refl
side_told Reader Writer h = absurd (cc)
side_told Writer Reader h = absurd (cc)
side_told Writer Writer h = refl

end_by : (side : Side) (type : ℕ) (x e : EndEntry) (a c : Bool) → entries.same_side x.side side ≡ a → nat_eq x.end_type type ≡ c
    → (if a then (if c then Ok x else Err refusal.OtherType) else Err refusal.OtherKind) ≡ Ok e → EndAt side type (Some (entry.End x)) e
end_by side type x e false c p q h = absurd (cc)
end_by side type x e true false p q h = absurd (cc)
end_by side type x e true true p q h =
    let same : x ≡ e = ok_same h in
    record {
      there = ap (λ (y : EndEntry). Some (entry.End y)) same;
      side_is = ap (λ (y : EndEntry). y.side) (sym same) ∙ side_told x.side side p;
      type_is = ap (λ (y : EndEntry). y.end_type) (sym same) ∙ eqb-true x.end_type type q;
    }

end_there : (side : Side) (type : ℕ) (o : Option WorldEntry) (e : EndEntry) → entries.end_in side type o ≡ Ok e → EndAt side type o e
end_there side type None e h = absurd (cc)
end_there side type (Some (entry.Handle x)) e h = absurd (cc)
end_there side type (Some (entry.Subtask callee)) e h = absurd (cc)
end_there side type (Some (entry.Set set)) e h = absurd (cc)
end_there side type (Some (entry.End x)) e h = end_by side type x e (entries.same_side x.side side) (nat_eq x.end_type type) refl refl h

-- The machine has it there too.
pub entry_there : (values : List ValType) (kind : EndKind) (element : Option ValType) (e : EndEntry) (o : Option WorldEntry) (p : Option Entry) → o ≡ Some (entry.End e)
    → IsEndsType values kind element e.end_type → SlotAlike (EntryStands values) o p → p ≡ Some (OfEnd (ref_of kind e))
entry_there values kind element e None p there is a = absurd (cc)
entry_there values kind element e (Some x) None there is a = absurd a
entry_there values kind element e (Some x) (Some y) there is a =
    let stands : EntryStands values (entry.End e) y = subst (λ (z : WorldEntry). EntryStands values z y) (some_same there) a in
    ap Some (stands.2 ∙ ap (λ (k : EndKind). OfEnd (ref_of k e)) (one_kind values e.end_type stands.0 kind stands.1.0 element stands.1.1 is))

on_ref : (g : Graph) (values : List ValType) (s : Script) (t : ℕ) (before : List Label) (stacks : List (List Stack)) (h : Held) (w : World) (kind : EndKind) (r : Result EndEntry Refusal)
    (G : EndEntry → Held → Done Flow) (K : EndRef → Turn)
    → h.labels ≡ before → Stands g values s h stacks w → ((e : EndEntry) → r ≡ Ok e → Agrees g values s t before stacks (G e h) (K (ref_of kind e)))
    → Agrees g values s t before stacks (after (named r h) G) (unless_refused t (refs kind r) w K)
on_ref g values s t before stacks h w kind (Ok e) G K same st k = k e refl
on_ref g values s t before stacks h w kind (Err why) G K same st k =
    subst (λ (name : TrapName). Agrees g values s t before stacks (after (named {A = EndEntry} (Err why) h) G) (doomed t name w)) (names_same why)
    (on_trap g values s t before stacks h w (names.refusal_name why) same st)

-- The end of a side and a type at an index, or a trap.
pub on_end : (g : Graph) (values : List ValType) (s : Script) (t : ℕ) (before : List Label) (stacks : List (List Stack)) (h : Held) (w : World) (at index type : ℕ) (kind : EndKind) (side : Side)
    (element : Option ValType) (G : EndEntry → Held → Done Flow) (K : EndRef → Turn)
    → AreDistinct values → IsEndsType values kind element type → HasMarkedEnds h → IsSome (slice_get w.insts at) → h.labels ≡ before → Stands g values s h stacks w
    → ((x : InstanceView) (e : EndEntry) → slice_get h.instances at ≡ Some x → EndAt side type (entry_of x index) e → entry_at w at index ≡ Some (OfEnd (ref_of kind e))
    → EndFound values h w kind e → Agrees g values s t before stacks (G e h) (K (ref_of kind e)))
    → Agrees g values s t before stacks (after (end_found at side type index h) G) (unless_refused t (found.end_at w kind side element at index) w K)
on_end g values s t before stacks h w at index type kind side element G K once is marks there same st more =
    on_instance g values s t before stacks h w at (λ i. named (entries.end_in side type (entry_of i index)) h) G (unless_refused t (found.end_at w kind side element at index) w K) there st
    (λ x y is_left is_right alike.
    turn_as g values s t before stacks _ (unless_refused t (found.end_at w kind side element at index) w K)
    (unless_refused t (refs kind (entries.end_in side type (entry_of x index))) w K)
    (ap (λ (r : Result EndRef TrapName). unless_refused t r w K)
    (ap (λ (o : Option Inst). found.end_in w kind side element (live (table_in o) index)) is_right
    ∙ end_alike g values s h stacks w kind side element type (entry_of x index) (live y.table index) once is (λ e e_is. marks at index x e is_left e_is) st
    (entries_are_alike values x y index alike)))
    (on_ref g values s t before stacks h w kind (entries.end_in side type (entry_of x index)) G K same st
    (λ e e_is.
    let a : EndAt side type (entry_of x index) e = end_there side type (entry_of x index) e e_is in
    let of : IsEndsType values kind element e.end_type = subst (λ (n : ℕ). IsEndsType values kind element n) (sym a.type_is) is in
    more x e is_left a
    (ap (λ (o : Option Inst). live (table_in o) index) is_right
    ∙ entry_there values kind element e (entry_of x index) (live y.table index) a.there of (entries_are_alike values x y index alike))
    (end_is_found g values s h stacks w kind element e (marks at index x e is_left a.there) of st))))
