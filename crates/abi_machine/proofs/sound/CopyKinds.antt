-- What a canonical function that reads or writes is, and the end at which it does.
use Rattle.std.proofs.Common.{◌≡◌, ℕ, Bool, true, false, refl, sym, subst, ◌∙◌, Option, Some, None, Ok, Err, if◌then◌else◌}
use Rattle.syntax_trees.specs.declared.types.ValType.{ValType}
use Rattle.builtin_kinds.specs.declared.EndKind.{EndKind}
use Rattle.builtin_kinds.specs.declared.EndKind.TheVariants.{Stream, Future}
use Rattle.builtin_kinds.specs.declared.EndSide.{EndSide}
use Rattle.builtin_kinds.specs.declared.ResourceOp.TheVariants as resource_op
use Rattle.stream_ends.specs.declared.side.Side.{Side}
use Rattle.stream_ends.specs.declared.side.Side.TheVariants.{Reader, Writer}
use Rattle.comp_graph.specs.declared.graph.Builtin.{Builtin}
use Rattle.comp_graph.specs.declared.graph.BuiltinKind.{BuiltinKind}
use Rattle.comp_graph.specs.declared.graph.BuiltinKind.TheVariants as builtin
use Rattle.comp_graph.specs.declared.graph.EndOp.TheVariants as end_op
use Rattle.comp_graph.specs.declared.graph.Options.{Options}
use Rattle.comp_graph.specs.declared.graph.CanonFunc.TheVariants as canon
use Rattle.comp_graph.specs.Graph.{Graph}
use Rattle.trace_labels.specs.declared.trap.TrapName.TheVariants as trap
use Rattle.abi_machine.specs.Control.{EndRef}
use Rattle.abi_machine.specs.World.{Entry, OwnHandle, BorrowHandle, OfSubtask, OfSet, OfEnd, Channel, World}
use Rattle.abi_machine.specs.Canons.{canon_at}
use Rattle.abi_machine.specs.Reading.{entry_at, channel_at}
use Rattle.abi_machine.specs.Counting.{passes}
use Rattle.abi_machine.specs.Finding.{same_side, same_kind, is_of_type, typed_end, end_in, end_at}
use Rattle.abi_machine.specs.SameTypes.{same_held}
use Rattle.abi_machine.specs.Reply.{side_of}
use Rattle.abi_machine.specs.sound.CallsFit.{IsDrop, IsCopyBy, CopiesAt}
use Rattle.abi_machine.proofs.sound.Found.{ok_same}
use Rattle.abi_machine.proofs.sound.Due.{channel_is}
use Rattle.abi_machine.proofs.sound.Entries.{left_true, right_true}

-- The canonical function of a number is a built-in, of a kind.
abbrev pub IsDropper : Graph → ℕ → Type 0
IsDropper g number = (b : Builtin) × (canon_at g number ≡ Some (canon.Builtin b)) × IsDrop b.kind

abbrev pub IsKind : Graph → ℕ → BuiltinKind → Type 0
IsKind g number kind = (b : Builtin) × (canon_at g number ≡ Some (canon.Builtin b)) × (b.kind ≡ kind)

pub dropper : (g : Graph) (number resource : ℕ) → IsKind g number (builtin.Resource resource_op.Drop resource) → IsDropper g number
dropper g number resource is = (is.0, is.1, subst IsDrop (sym is.2) tt)

pub copy_is : (g : Graph) (number : ℕ) (kind : EndKind) (element : Option ValType) (side : EndSide) (options : Options) → IsKind g number (builtin.End kind element (end_op.Copy side options)) → (x : Option ValType)
    → same_held x element ≡ true → IsCopyBy g kind (side_of side) x number
copy_is g number kind element side options is x same = record {
  builtin = is.0;
  of_element = element;
  at_side = side;
  options = options;
  there = is.1;
  copies = is.2;
  same_side = refl;
  same_elements = same;
}

-- An end is found as one of a side and of a type.
same_side_is : (a b : Side) → same_side a b ≡ true → a ≡ b
same_side_is Reader Reader e = refl
same_side_is Reader Writer e = cc
same_side_is Writer Reader e = cc
same_side_is Writer Writer e = refl

same_kind_is : (a b : EndKind) → same_kind a b ≡ true → a ≡ b
same_kind_is Stream Stream e = refl
same_kind_is Stream Future e = cc
same_kind_is Future Stream e = cc
same_kind_is Future Future e = refl

both_are : (P : EndRef → Type 0) (same typed : Bool) (r x : EndRef) → (if same then typed_end typed r else Err trap.OtherKind) ≡ Ok x → (same ≡ true → typed ≡ true → P r) → P x
both_are P true true r x e h = subst P (ok_same e) (h refl refl)
both_are P true false r x e h = cc
both_are P false typed r x e h = cc

passed : {A : Type 0} (test : A → Bool) (o : Option A) → passes test o ≡ true → (y : A) × (o ≡ Some y) × (test y ≡ true)
passed test None e = cc
passed test (Some y) e = (y, refl, e)

abbrev pub IsTypedEnd : World → EndKind → Side → Option ValType → EndRef → Type 0
IsTypedEnd w kind side element x = (x.side ≡ side) × (x.kind ≡ kind) × ((c : Channel) × (channel_at w x.kind x.number ≡ Some c) × (same_held c.element element ≡ true))

pub end_typed : (w : World) (i : ℕ) (kind : EndKind) (side : Side) (element : Option ValType) (index : ℕ) (x : EndRef) → end_at w kind side element i index ≡ Ok x → IsTypedEnd w kind side element x
end_typed w i kind side element index x h = by (entry_at w i index) h
  where
    by : (o : Option Entry) → end_in w kind side element o ≡ Ok x → IsTypedEnd w kind side element x
    by None k = cc
    by (Some (OwnHandle of_type rep)) k = cc
    by (Some (BorrowHandle of_type rep task)) k = cc
    by (Some (OfSubtask callee)) k = cc
    by (Some (OfSet set)) k = cc
    by (Some (OfEnd r)) k =
        both_are (IsTypedEnd w kind side element) (same_side r.side side) (is_of_type w kind element r) r x k
        (λ same typed.
        (same_side_is r.side side same, same_kind_is r.kind kind (left_true (same_kind r.kind kind) (passes (λ c. same_held c.element element) (channel_at w r.kind r.number)) typed), passed (λ c. same_held c.element element) (channel_at w r.kind r.number) (right_true (same_kind r.kind kind) (passes (λ c. same_held c.element element) (channel_at w r.kind r.number)) typed)))

pub copies_at : (g : Graph) (w : World) (i : ℕ) (kind : EndKind) (side : Side) (element : Option ValType) (index number : ℕ) (x : EndRef) → ((y : Option ValType) → same_held y element ≡ true → IsCopyBy g kind side y number)
    → end_at w kind side element i index ≡ Ok x → CopiesAt g w.streams w.futures x number
copies_at g w i kind side element index number x by h =
    let t : IsTypedEnd w kind side element x = end_typed w i kind side element index x h in
    (t.2.0, channel_is x.kind x.number w ∙ t.2.1, subst (λ (k : EndKind). IsCopyBy g k x.side t.2.0.element number) (sym t.1) (subst (λ (a : Side). IsCopyBy g kind a t.2.0.element number) (sym t.0) (by t.2.0.element t.2.2)))
