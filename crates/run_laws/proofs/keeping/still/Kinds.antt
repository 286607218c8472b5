-- What is kept of ends, of what stands for a world in which each stands once, with kinds by the types of values.
use Rattle.std.proofs.Common.{◌≡◌, ◌∙◌, ℕ, List, is_some, refl, sym, ap, subst, Option, Some, None}
use Rattle.std.specs.List.{slice_get, AllZip}
use Rattle.syntax_trees.specs.declared.types.ValType.{ValType, out-ValType}
use Rattle.wasm_store.specs.Stack.{Stack}
use Rattle.builtin_kinds.specs.declared.EndKind.{EndKind}
use Rattle.builtin_kinds.specs.declared.EndKind.TheVariants.{Stream, Future}
use Rattle.comp_graph.specs.declared.graph.Builtin.{Builtin}
use Rattle.comp_graph.specs.declared.graph.BuiltinKind.{BuiltinKind}
use Rattle.comp_graph.specs.declared.graph.BuiltinKind.TheVariants as kind
use Rattle.comp_graph.specs.declared.graph.CanonFunc.{CanonFunc}
use Rattle.comp_graph.specs.declared.graph.CanonFunc.TheVariants as canon
use Rattle.comp_graph.specs.Graph.{Graph, ends_type, numbered_value}
use Rattle.comp_graph.specs.Passed.{TypeTable, MayBeAt, HasCanonType}
use Rattle.channels.specs.declared.channel.Channel as kept
use Rattle.script_reader.specs.Script.{Script}
use Rattle.instances.specs.declared.entry.WorldEntry.TheVariants as entry
use Rattle.world_parts.specs.Held.{Held}
use Rattle.abi_machine.specs.World.{Entry, Channel, World}
use Rattle.abi_machine.proofs.sound.Found.{some_same}
use Rattle.standing.specs.Instances.{EndStands, IsOfKind, end_entry}
use Rattle.standing.specs.Stands.{ChannelStands, Stands}
use Rattle.standing.proofs.Lists.{IsFound, found_both, found_left}
use Rattle.reach_laws.specs.KnownEnds.{EndsStandOnce}
use Rattle.run_laws.specs.keeping.Still.{kind_of_type, kind_among, AreOf, EndsOnce, TypesTellKinds, EndsStandKept}
use Rattle.run_laws.proofs.supplied.Found.{entry_shown}

-- The kind is told by the type of ends.
told_by : (k : EndKind) (element : Option ValType) → kind_of_type (Some (ends_type k element)) ≡ k
unfolding out-ValType denote.Hole.Carrier.out
told_by Stream element = refl
told_by Future element = refl

kind_told : (values : List ValType) (number : ℕ) (k : EndKind) (element : Option ValType) → slice_get values number ≡ Some (ends_type k element) → kind_among values number ≡ k
kind_told values number k element is = ap kind_of_type is ∙ told_by k element

-- By the numbers of canonical functions.
known_type : (values : List ValType) (of_what : EndKind) (element : Option ValType) (known : Option ℕ) (type : ℕ) → MayBeAt values known (let o : Option ValType = Some (ends_type of_what element) in o)
    → known ≡ Some type → slice_get values type ≡ Some (ends_type of_what element)
known_type values of_what element None type h e = absurd h
known_type values of_what element (Some other) type h e = ap (λ (n : ℕ). slice_get values n) (sym (some_same e)) ∙ h

pub types_tell_kinds : TypesTellKinds
types_tell_kinds g values funcs types all number type b of_what element op made is there =
    let table : TypeTable = record { funcs = funcs; values = values } in
    let f : IsFound (HasCanonType table) (slice_get types number) (slice_get g.canons number) = found_both (HasCanonType table) types g.canons number all.canons (ap is_some made) in
    let stands : HasCanonType table f.left (canon.Builtin b) = subst (λ (c : CanonFunc). HasCanonType table f.left c) (some_same (sym f.is_right ∙ made)) f.alike in
    let typed : MayBeAt values f.left (numbered_value (kind.End of_what element op)) = subst (λ (k : BuiltinKind). MayBeAt values f.left (numbered_value k)) is stands in
    kind_told values type of_what element (known_type values of_what element f.left type typed (some_same (sym f.is_left ∙ there)))

-- Of what stands for a world.
channels_of : (values : List ValType) (k : EndKind) (all : List kept.Channel) (channels : List Channel) → AllZip (ChannelStands values k) all channels → AreOf (kind_among values) k all
channels_of values k all channels zip place c there =
    let f : IsFound (ChannelStands values k) (slice_get all place) (slice_get channels place) = found_left (ChannelStands values k) all channels place c zip there in
    kind_told values c.end_type k f.right.element (subst (λ (x : kept.Channel). ChannelStands values k x f.right) (some_same (sym f.is_left ∙ there)) f.alike).typed

module _ (g : Graph) (values : List ValType) (s : Script) (h : Held) (stacks : List (List Stack)) (w : World) (st : Stands g values s h stacks w) (alone : EndsStandOnce w) where
  once : EndsOnce h.instances
  once at index n m i j e d here stood there other number type side =
      let a = entry_shown g values s h stacks w st at index i (entry.End e) here stood in
      let b = entry_shown g values s h stacks w st n m j (entry.End d) there other in
      let of_e : EndStands values e a.0 = a.2 in
      let of_d : EndStands values d b.0 = b.2 in
      let is_e : IsOfKind values of_e.0 e.end_type = of_e.1 in
      let is_d : IsOfKind values of_d.0 d.end_type = of_d.1 in
      let kinds : of_d.0 ≡ of_e.0 =
      sym (kind_told values d.end_type of_d.0 is_d.0 is_d.1) ∙ ap (kind_among values) type ∙ kind_told values e.end_type of_e.0 is_e.0 is_e.1 in
      let e_is : a.0 ≡ end_entry of_e.0 e = of_e.2 in
      let d_is : b.0 ≡ end_entry of_d.0 d = of_d.2 in
      alone at index n m (record { kind = of_e.0; number = e.number; side = e.side }) (record { kind = of_d.0; number = d.number; side = d.side })
      (a.1 ∙ ap (λ (x : Entry). Some x) e_is) (b.1 ∙ ap (λ (x : Entry). Some x) d_is) kinds number side

pub ends_stand_kept : EndsStandKept
ends_stand_kept g values s h stacks w st alone marked = record {
  marked = marked;
  once = once g values s h stacks w st alone;
  are_streams = channels_of values Stream h.streams w.streams st.are_streams;
  are_futures = channels_of values Future h.futures w.futures st.are_futures;
}
