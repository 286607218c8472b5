-- Of a graph that has what it uses each lift, lower and read has a function that gives places where it asks for one.
use Rattle.std.proofs.Common.{◌≡◌, ◌∙◌, inl, inr, ◌||◌, ℕ, Bool, true, false, nat_lt, List, [], ◌∷◌, ◌++◌, length, refl, sym, ap, subst, append-nil, Option, Some, None}
use Rattle.std.specs.Prelude.{IsSome}
use Rattle.std.specs.List.{slice_get, AllByRecursion}
use Rattle.std.specs.Option.{option_and_then}
use Rattle.wasm_store.specs.Store.{Store, found_at}
use Rattle.wasm_store.proofs.Lists.{all_at, all_append}
use Rattle.wasm_store.proofs.Zips.{zip_at}
use Rattle.syntax_trees.specs.Names.{first_named}
use Rattle.syntax_trees.specs.declared.types.ValType.{ValType}
use Rattle.syntax_trees.specs.declared.exports.Export.{Export}
use Rattle.syntax_trees.specs.declared.types.ValType.TheOpen as F
use Rattle.syntax_trees.specs.declared.types.ValType.TheVariants as leaves
use Rattle.syntax_trees.specs.declared.types.ValType.TheFolds.{fold-roll-ValType}
use Rattle.syntax_trees.specs.declared.core_type.CoreType.{CoreType}
use Rattle.syntax_trees.specs.Ends.{end_case, end_field}
use Rattle.laid_types.specs.Lists.{has_list, held_list, list_step}
use Rattle.laid_types.proofs.SameTypes.{val_told}
use Rattle.builtin_kinds.specs.declared.EndSide.{EndSide}
use Rattle.builtin_kinds.specs.declared.EndSide.TheVariants.{Readable, Writable}
use Rattle.stream_ends.specs.declared.side.Side.TheVariants.{Reader}
use Rattle.builtin_kinds.specs.declared.EndKind.{EndKind}
use Rattle.comp_graph.specs.declared.graph.FuncRef.{FuncRef}
use Rattle.comp_graph.specs.declared.graph.Lift.{Lift}
use Rattle.comp_graph.specs.declared.graph.Options.{Options}
use Rattle.comp_graph.specs.declared.graph.Resource.{Resource}
use Rattle.comp_graph.specs.declared.graph.EndOp.TheVariants as end_op
use Rattle.comp_graph.specs.declared.graph.BuiltinKind.{BuiltinKind}
use Rattle.comp_graph.specs.declared.graph.BuiltinKind.TheVariants as kind
use Rattle.comp_graph.specs.declared.graph.CanonFunc.{CanonFunc}
use Rattle.comp_graph.specs.declared.graph.CanonFunc.TheVariants as canon
use Rattle.comp_graph.specs.Needs.{realloc_type, flat_param_limit, lift_needs_realloc, lower_needs_realloc}
use Rattle.comp_graph.specs.Graph.{CoreMake, Graph, Lifted, core_type, func_at, func_named, lifted_as, names, IsReallocThere, IsLiftThere, IsCopyThere, IsBuiltinThere, IsCanonThere, AreMade, none_made, instance_made, canon_made, resource_made}
use Rattle.abi_machine.specs.World.{Callee, Init, Func, Destroys}
use Rattle.abi_machine.specs.Canons.{func_address, realloc_of, options_of_canon, options_of_kind, canon_at, destructor_type}
use Rattle.abi_machine.specs.Reading.{func_of}
use Rattle.abi_machine.specs.SameTypes.{same_held}
use Rattle.abi_machine.specs.Reply.{side_of}
use Rattle.abi_machine.specs.sound.GraphFuncs.{IsOfGraph}
use Rattle.abi_machine.specs.sound.Callees.{IsUsedGraph}
use Rattle.abi_machine.specs.sound.CallsFit.{IsCopyBy}
use Rattle.abi_machine.specs.sound.GoingOn.{IsFuncThere}
use Rattle.abi_machine.proofs.Layers.{u32_flat}
use Rattle.abi_machine.proofs.sound.Found.{some_same}
use Rattle.abi_machine.proofs.sound.Lists.{all_as}
use Rattle.abi_machine.proofs.sound.own.Lists.{then_some}
use Rattle.abi_machine.proofs.sound.Callees.{if_map, type_more}
use Rattle.abi_machine.proofs.sound.Functions.{AllMade}
use Rattle.abi_machine.proofs.sound.places.Passing.{HasGivers}

-- What options give, and that they give it.
abbrev IsGiven : List CoreMake → List CanonFunc → Option FuncRef → Type 0
IsGiven cores canons realloc = IsSome realloc × IsReallocThere cores canons realloc

given_more : (cores more : List CoreMake) (canons others : List CanonFunc) (realloc : Option FuncRef) → IsReallocThere cores canons realloc → IsReallocThere (cores ++ more) (canons ++ others) realloc
given_more cores more canons others realloc h =
    if_map (λ (f : FuncRef). core_type cores canons f ≡ Some realloc_type) (λ (f : FuncRef). core_type (cores ++ more) (canons ++ others) f ≡ Some realloc_type) realloc (λ f e. type_more cores more canons others f realloc_type e) h

address_some : (st : Store) (f : FuncRef) → IsFuncThere st f → IsSome (func_address st f)
address_some st f h = by (func_address st f) h
  where
    by : (o : Option ℕ) → IsSome (found_at st.funcs o) → IsSome o
    by None k = cc
    by (Some n) k = refl

given_there : (g : Graph) (st : Store) (options : Options) → AllMade g st → IsGiven g.cores g.canons options.realloc → IsSome (realloc_of st options)
given_there g st options made h = by options.realloc h.0 h.1
  where
    by : (o : Option FuncRef) → IsSome o → IsReallocThere g.cores g.canons o → IsSome (option_and_then (func_address st) o)
    by None some there = cc
    by (Some f) some there = address_some st f (made f realloc_type there)

-- of canonical functions: a lower, its lift, and a read
abbrev pub KindGives : List CoreMake → List CanonFunc → BuiltinKind → Type 0
KindGives cores canons (kind.End what element (end_op.Copy side options)) = (side ≡ Readable → held_list element ≡ true → IsSome options.realloc) × IsReallocThere cores canons options.realloc
KindGives cores canons other = Unit {0}

abbrev pub CanonGives : List CoreMake → List CanonFunc → CanonFunc → Type 0
CanonGives cores canons (canon.Lower l) =
    (lower_needs_realloc l.func_type ≡ true → IsSome l.options.realloc) × IsReallocThere cores canons l.options.realloc × (lift_needs_realloc l.func_type ≡ true → IsSome l.lift.options.realloc) × IsReallocThere cores canons l.lift.options.realloc
CanonGives cores canons (canon.Builtin b) = KindGives cores canons b.kind

copy_gives : (cores : List CoreMake) (canons : List CanonFunc) (side : EndSide) (element : Option ValType) (options : Options) → IsCopyThere cores canons side element options → side ≡ Readable → held_list element ≡ true → IsSome options.realloc
copy_gives cores canons Readable element options h same holds = h.realloc_given holds
copy_gives cores canons Writable element options h same holds = cc

kind_gives : (cores : List CoreMake) (canons : List CanonFunc) (resources : List Resource) (instance : ℕ) (k : BuiltinKind) → IsBuiltinThere cores canons resources instance k → KindGives cores canons k
kind_gives cores canons resources instance (kind.End what element (end_op.Copy side options)) h = (copy_gives cores canons side element options h, h.options.realloc)
kind_gives cores canons resources instance (kind.End what element end_op.New) h = tt
kind_gives cores canons resources instance (kind.End what element (end_op.Cancel side is_async)) h = tt
kind_gives cores canons resources instance (kind.End what element (end_op.Drop side)) h = tt
kind_gives cores canons resources instance (kind.Resource op number) h = tt
kind_gives cores canons resources instance (kind.TaskReturn result options) h = tt
kind_gives cores canons resources instance (kind.Plain op) h = tt
kind_gives cores canons resources instance (kind.Context op slot) h = tt
kind_gives cores canons resources instance (kind.Wait op cancellable memory) h = tt

canon_gives : (cores : List CoreMake) (canons : List CanonFunc) (resources : List Resource) (c : CanonFunc) → IsCanonThere cores canons resources c → CanonGives cores canons c
canon_gives cores canons resources (canon.Lower l) h = (h.realloc_given, h.options.realloc, h.lift.realloc_given, h.lift.realloc)
canon_gives cores canons resources (canon.Builtin b) h = kind_gives cores canons resources b.instance b.kind h

kind_more : (cores more : List CoreMake) (canons others : List CanonFunc) (k : BuiltinKind) → KindGives cores canons k → KindGives (cores ++ more) (canons ++ others) k
kind_more cores more canons others (kind.End what element (end_op.Copy side options)) h = (h.0, given_more cores more canons others options.realloc h.1)
kind_more cores more canons others (kind.End what element end_op.New) h = tt
kind_more cores more canons others (kind.End what element (end_op.Cancel side is_async)) h = tt
kind_more cores more canons others (kind.End what element (end_op.Drop side)) h = tt
kind_more cores more canons others (kind.Resource op number) h = tt
kind_more cores more canons others (kind.TaskReturn result options) h = tt
kind_more cores more canons others (kind.Plain op) h = tt
kind_more cores more canons others (kind.Context op slot) h = tt
kind_more cores more canons others (kind.Wait op cancellable memory) h = tt

canon_more : (cores more : List CoreMake) (canons others : List CanonFunc) (c : CanonFunc) → CanonGives cores canons c → CanonGives (cores ++ more) (canons ++ others) c
canon_more cores more canons others (canon.Lower l) h = (h.0, given_more cores more canons others l.options.realloc h.1, h.2, given_more cores more canons others l.lift.options.realloc h.3)
canon_more cores more canons others (canon.Builtin b) h = kind_more cores more canons others b.kind h

all_more_give : (cores more : List CoreMake) (canons others : List CanonFunc) → AllByRecursion (CanonGives cores canons) canons → AllByRecursion (CanonGives (cores ++ more) (canons ++ others)) canons
all_more_give cores more canons others h = all_as (CanonGives cores canons) (CanonGives (cores ++ more) (canons ++ others)) (λ c k. canon_more cores more canons others c k) canons h

pub all_give : {cores : List CoreMake} {canons : List CanonFunc} {resources : List Resource} → AreMade cores canons resources → AllByRecursion (CanonGives cores canons) canons
all_give none_made = tt
all_give (instance_made cores canons resources c made h) =
    subst (λ (cs : List CanonFunc). AllByRecursion (CanonGives (cores ++ c ∷ []) cs) canons) (append-nil canons) (all_more_give cores (c ∷ []) canons [] (all_give made))
all_give (canon_made cores canons resources f made h) =
    subst (λ (cs : List CoreMake). AllByRecursion (CanonGives cs (canons ++ f ∷ [])) (canons ++ f ∷ [])) (append-nil cores)
    (all_append (CanonGives (cores ++ []) (canons ++ f ∷ [])) canons (f ∷ []) (all_more_give cores [] canons (f ∷ []) (all_give made)) (canon_more cores [] canons (f ∷ []) f (canon_gives cores canons resources f h), tt))
all_give (resource_made cores canons resources r made h) = all_give made

-- What tasks run.
u32_listless : has_list leaves.U32 ≡ false
u32_listless = ap has_list (sym leaves.rolls-U32) ∙ fold-roll-ValType Bool Bool Bool list_step end_case end_field F.U32

destructor_asks : lift_needs_realloc destructor_type ≡ false
destructor_asks =
    ap (λ (ts : List CoreType). nat_lt flat_param_limit (length (ts ++ [])) || (has_list leaves.U32 || false)) u32_flat ∙ ap (λ (b : Bool). b || false) u32_listless

clash : {A : Type 0} (b : Bool) → b ≡ false → b ≡ true → A
clash true e f = cc
clash false e f = cc

abbrev pub LiftGives : Graph → Lifted → Type 0
LiftGives g f = (lift_needs_realloc f.func_type ≡ true → IsSome f.options.realloc) × IsReallocThere g.cores g.canons f.options.realloc

export_gives : (g : Graph) → IsUsedGraph g → (name : List ℕ) (f : Lifted) → func_named g name ≡ Some f → LiftGives g f
export_gives g used name f e =
    let n = then_some (func_at g) (first_named name (names g.exports)) f e in
    by n.0 (slice_get g.exports n.0) (slice_get g.lifts n.0) refl refl n.2
  where
    by : (n : ℕ) (e : Option Export) (l : Option Lift) → slice_get g.exports n ≡ e → slice_get g.lifts n ≡ l → lifted_as e l ≡ Some f → LiftGives g f
    by n None None a b h = cc
    by n None (Some l) a b h = cc
    by n (Some e) None a b h = cc
    by n (Some e) (Some l) a b h =
        let z = zip_at (λ (e : Export) (lift : Lift). IsLiftThere g.cores g.canons e.func_type lift) g.exports g.lifts n e used.lifts a in
        let there : IsLiftThere g.cores g.canons e.func_type l = subst (λ (lift : Lift). IsLiftThere g.cores g.canons e.func_type lift) (some_same (sym z.1 ∙ b)) z.2 in
        subst (LiftGives g) (some_same h) (there.realloc_given, there.realloc)

pub callee_gives : (g : Graph) → IsUsedGraph g → (callee : Callee) (f : Lifted) → IsOfGraph g callee → func_of callee ≡ Some f → LiftGives g f
callee_gives g used Init f h e = cc
callee_gives g used (Func x) f (inl h) e = subst (LiftGives g) (some_same e) (export_gives g used h.0 x h.1)
callee_gives g used (Func x) f (inr h) e =
    let k : CanonGives g.cores g.canons (canon.Lower h.1) = all_at (CanonGives g.cores g.canons) g.canons h.0 (canon.Lower h.1) (all_give used.made) h.2 in
    subst (LiftGives g) (h.3 ∙ some_same e) (k.2, k.3)
callee_gives g used (Destroys resource x) f h e =
    subst (LiftGives g) (h.4 ∙ some_same e) ((λ asks. clash (lift_needs_realloc destructor_type) destructor_asks asks), tt)

-- Reads.
pub held_same : (a b : Option ValType) → same_held a b ≡ true → a ≡ b
held_same None None e = refl
held_same None (Some u) e = cc
held_same (Some t) None e = cc
held_same (Some t) (Some u) e = ap (λ (x : ValType). Some x) ((val_told t u).0 e)

readable_is : (side : EndSide) → side_of side ≡ Reader → side ≡ Readable
readable_is Readable e = refl
readable_is Writable e = cc

read_gives : (g : Graph) (st : Store) → IsUsedGraph g → AllMade g st → (number : ℕ) (what : EndKind) (element : Option ValType) (c : CanonFunc) → IsCopyBy g what Reader element number → canon_at g number ≡ Some c → held_list element ≡ true
    → IsSome (realloc_of st (options_of_canon c))
read_gives g st used made number what element c k at holds =
    let all : CanonGives g.cores g.canons (canon.Builtin k.builtin) = all_at (CanonGives g.cores g.canons) g.canons number (canon.Builtin k.builtin) (all_give used.made) k.there in
    let own : KindGives g.cores g.canons (kind.End what k.of_element (end_op.Copy k.at_side k.options)) = subst (KindGives g.cores g.canons) k.copies all in
    let some : IsSome k.options.realloc = own.0 (readable_is k.at_side k.same_side) (ap held_list (sym (held_same element k.of_element k.same_elements)) ∙ holds) in
    let uses : options_of_canon c ≡ k.options = ap options_of_canon (some_same (sym at ∙ k.there)) ∙ ap options_of_kind k.copies in
    subst (λ (o : Options). IsSome (realloc_of st o)) (sym uses) (given_there g st k.options made (some, own.1))

pub has_givers : (g : Graph) (st : Store) → IsUsedGraph g → AllMade g st → HasGivers g st
has_givers g st used made = record {
  lifts = λ callee f of_graph runs asks. let k : LiftGives g f = callee_gives g used callee f of_graph runs in given_there g st f.options made (k.0 asks, k.1);
  lowers = λ number l at asks. let k : CanonGives g.cores g.canons (canon.Lower l) = all_at (CanonGives g.cores g.canons) g.canons number (canon.Lower l) (all_give used.made) at in given_there g st l.options made (k.0 asks, k.1);
  copies = read_gives g st used made;
}
