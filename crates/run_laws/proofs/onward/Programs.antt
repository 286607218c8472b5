-- The program that is made of a graph and a script for it numbers the types of what its functions and built-ins pass, and tells the values of the script's calls.
use Rattle.std.proofs.Common.{◌≡◌, ◌≤◌, ◌+◌, ◌-◌, ℕ, zero, suc, Bool, true, false, ◌&&◌, ◌||◌, nat_eq, is_some, if◌then◌else◌, List, [], ◌∷◌, ◌++◌, refl, sym, ap, ◌∙◌, subst, arith, Option, Some, None}
use Rattle.std.specs.List.{slice_get}
use Rattle.std.specs.Option.{option_map}
use Rattle.std.proofs.lemmas.Bool.{eq-eqb, ne_eqb}
use Rattle.syntax_trees.specs.Names.{first_named}
use Rattle.syntax_trees.specs.declared.types.FuncType.{FuncType}
use Rattle.syntax_trees.specs.declared.types.ValType.{ValType}
use Rattle.syntax_trees.specs.declared.value.Value.{Value}
use Rattle.laid_types.specs.Known.{Numbered, numbered_at}
use Rattle.res_handles.specs.Calls.{is_defined}
use Rattle.comp_graph.specs.declared.graph.CanonFunc.{CanonFunc}
use Rattle.comp_graph.specs.declared.graph.CanonFunc.TheVariants as canon
use Rattle.syntax_trees.specs.declared.exports.Export.{Export}
use Rattle.comp_graph.specs.declared.graph.FuncRef.{FuncRef}
use Rattle.comp_graph.specs.declared.graph.Lift.{Lift}
use Rattle.comp_graph.specs.declared.graph.Lower.{Lower}
use Rattle.comp_graph.specs.declared.graph.Resource.{Resource}
use Rattle.comp_graph.specs.Graph.{Graph, Lifted, func_at, lifted_as, names}
use Rattle.comp_graph.specs.Passed.{MayBeAt, params_type}
use Rattle.script_reader.specs.declared.script.Call.{Call}
use Rattle.script_reader.specs.declared.script.Item.{Item}
use Rattle.script_reader.specs.declared.script.Item.TheVariants as item
use Rattle.script_reader.specs.Script.{Script}
use Rattle.copy_replies.specs.Moves.{element_at, value_in}
use Rattle.task_table.specs.declared.errand.Callee as runs
use Rattle.task_table.specs.declared.errand.Callee.TheVariants as callee
use Rattle.programs.specs.declared.program.CallNumbers.{CallNumbers}
use Rattle.programs.specs.declared.program.FuncNumbers.{FuncNumbers}
use Rattle.programs.specs.declared.program.Program.{Program}
use Rattle.programs.specs.Program.{held_in, numbers_of, params_in, params_of, returned_in, returned_of, value_of, values_in, values_at, host_values, resources_of}
use Rattle.program_maker.specs.Programs.{PassesFunc, PassesCanon, PassesValue, IsProgram, call_numbers, defined_by}
use Rattle.abi_machine.specs.World.{Func}
use Rattle.abi_machine.specs.Canons.{canon_at, defines, is_defined_in, lifted_of, resource_at}
use Rattle.abi_machine.specs.sound.Scripts.{AreItemsFor}
use Rattle.abi_machine.proofs.sound.Found.{some_same}
use Rattle.standing.specs.Plans.{AreOwn}
use Rattle.standing.specs.Tasks.{callee_of, calls_of, IsCallOf, lowered_in, destroyed_by, destroyed_in}
use Rattle.standing.proofs.Lists.{BothAt, IsFound, at_both, found_both}
use Rattle.run_laws.specs.SuppliedPassings.{ProgramsPass}
use Rattle.run_laws.proofs.NamedCalls.{found_export, front}

-- The function of a task has numbers, of the types that it passes.
func_same : (f k : Lifted) → Func f ≡ Func k → f ≡ k
func_same f k e = cc

func_back : (o : Option Lifted) (f : Lifted) → option_map Func o ≡ Some (Func f) → o ≡ Some f
func_back None f e = absurd (cc)
func_back (Some k) f e = ap (λ (x : Lifted). Some x) (func_same k f (some_same e))

exported_type : (e : Option Export) (l : Option Lift) (f : Lifted) → lifted_as e l ≡ Some f → (x : Export) × (e ≡ Some x) × (f.func_type ≡ x.func_type)
exported_type None l f is = absurd (cc)
exported_type (Some x) None f is = absurd (cc)
exported_type (Some x) (Some l) f is = (x, refl, ap (λ (k : Lifted). k.func_type) (sym (some_same is)))

-- A canonical function that lowers one.
lowered_type : (o : Option CanonFunc) (f : Lifted) → lowered_in o ≡ Some (Func f) → (l : Lower) × (o ≡ Some (canon.Lower l)) × (f.func_type ≡ l.func_type)
lowered_type None f is = absurd (cc)
lowered_type (Some (canon.Lower l)) f is = (l, refl, ap (λ (k : Lifted). k.func_type) (sym (func_same (lifted_of l) f (some_same is))))
lowered_type (Some (canon.Builtin b)) f is = absurd (cc)

not_destroyed : (resource : ℕ) (o : Option Resource) (f : Lifted) → destroyed_in resource o ≡ Some (Func f) → ⊥
not_destroyed resource None f is = cc
not_destroyed resource (Some r) f is = by r.destructor is
  where
    by : (o : Option FuncRef) → destroyed_by resource r.instance o ≡ Some (Func f) → ⊥
    by None e = cc
    by (Some core) e = cc

abbrev HasNumbers : Program → runs.Callee → Lifted → Type 0
HasNumbers p c f = (numbers : FuncNumbers) × (numbers_of p c ≡ Some numbers) × PassesFunc p.types.now numbers f.func_type

-- by what is said of its number
passed_alike : (types : List ValType) (numbers : FuncNumbers) (a b : FuncType) → b ≡ a → PassesFunc types numbers a → PassesFunc types numbers b
passed_alike types numbers a b same h = subst (λ (x : FuncType). PassesFunc types numbers x) (sym same) h

lowered_numbers : (types : List ValType) (o : Option (Option FuncNumbers)) (l : Lower) → BothAt (PassesCanon types) o (Some (canon.Lower l))
    → (numbers : FuncNumbers) × (held_in o ≡ Some numbers) × PassesFunc types numbers l.func_type
lowered_numbers types None l h = absurd h
lowered_numbers types (Some None) l h = absurd h
lowered_numbers types (Some (Some numbers)) l h = (numbers, refl, h)

module _ (g : Graph) (s : Script) (p : Program) (made : IsProgram g s p) where
  abbrev types : List ValType
  types = p.types.now

  has_numbers : (c : runs.Callee) (f : Lifted) → callee_of g c ≡ Some (Func f) → HasNumbers p c f
  has_numbers callee.Init f is = absurd (cc)
  has_numbers (callee.Export number) f is =
      let x = exported_type (slice_get g.exports number) (slice_get g.lifts number) f (func_back (func_at g number) f is) in
      let one : IsFound (λ (numbers : FuncNumbers) (e : Export). PassesFunc types numbers e.func_type) (slice_get p.exports.items number) (slice_get g.exports number) =
      found_both (λ (numbers : FuncNumbers) (e : Export). PassesFunc types numbers e.func_type) p.exports.items g.exports number made.exports (ap is_some x.1) in
      let same : one.right ≡ x.0 = some_same (sym one.is_right ∙ x.1) in
      (one.left, one.is_left, passed_alike types one.left one.right.func_type f.func_type (x.2 ∙ ap (λ (e : Export). e.func_type) (sym same)) one.alike)
  has_numbers (callee.Lowered number) f is =
      let x = lowered_type (canon_at g number) f is in
      let both : BothAt (PassesCanon types) (slice_get p.canons.items number) (slice_get g.canons number) = at_both (PassesCanon types) p.canons.items g.canons number made.canons in
      let n = lowered_numbers types (slice_get p.canons.items number) x.0 (subst (λ (o : Option CanonFunc). BothAt (PassesCanon types) (slice_get p.canons.items number) o) x.1 both) in
      (n.0, n.1, passed_alike types n.0 x.0.func_type f.func_type x.2 n.2)
  has_numbers (callee.Destroys resource) f is = absurd (not_destroyed resource (resource_at g resource) f is)

  -- its parameters and its result
  pub params_so : (c : runs.Callee) (f : Lifted) (type : Numbered) → callee_of g c ≡ Some (Func f) → params_of p c ≡ Some type → type.val_type ≡ params_type f.func_type
  params_so c f type is found =
      let n : HasNumbers p c f = has_numbers c f is in
      numbered_type n.0.params (params_type f.func_type) n.2.params (ap (params_in p) (sym n.1) ∙ found)
    where
      numbered_type : (number : ℕ) (t : ValType) → slice_get p.types.now number ≡ Some t → numbered_at p.types.now number ≡ Some type → type.val_type ≡ t
      numbered_type number t at is =
          ap (λ (x : Numbered). x.val_type)
          (some_same (sym is ∙ ap (λ (o : Option ValType). option_map (λ (v : ValType). (let x : Numbered = record { types = p.types.now; number = number; val_type = v } in x)) o) at))

  pub returned_so : (c : runs.Callee) (f : Lifted) → callee_of g c ≡ Some (Func f) → MayBeAt types (returned_of p c) f.func_type.result
  returned_so c f is =
      let n : HasNumbers p c f = has_numbers c f is in
      subst (λ (o : Option ℕ). MayBeAt types o f.func_type.result) (sym (ap returned_in n.1)) n.2.returned

  -- What a built-in passes.
  value_so : (o : Option (Option ℕ)) (c : Option CanonFunc) → BothAt (PassesValue types) o c → MayBeAt types (held_in o) (value_in c)
  value_so None None h = tt
  value_so None (Some c) h = absurd h
  value_so (Some n) None h = absurd h
  value_so (Some n) (Some (canon.Lower l)) h = subst (λ (o : Option ℕ). MayBeAt types o None) (sym h) tt
  value_so (Some n) (Some (canon.Builtin b)) h = h

  pub passed_so : (number : ℕ) → MayBeAt types (value_of p number) (element_at g number)
  passed_so number = value_so (slice_get p.values.items number) (slice_get g.canons number) (at_both (PassesValue types) p.values.items g.canons number made.values)

-- The script's calls: the item of each is that call.
abbrev HasItem : List Item → List CallNumbers → ℕ → ℕ → Call → Type 0
HasItem items all n place call = (numbers : CallNumbers) × (m : ℕ) × (slice_get all place ≡ Some numbers) × (numbers.item ≡ m + n) × (slice_get items m ≡ Some (item.Call call))

item_more : (i : Item) (items : List Item) (all more : List CallNumbers) (n place there : ℕ) (call : Call) → slice_get more there ≡ slice_get all place → HasItem items all (suc n) place call
    → HasItem (i ∷ items) more n there call
item_more i items all more n place there call same (numbers, m, at, is, found) = (numbers, suc m, same ∙ at, omega (arith, is), found)

call_item : (g : Graph) (calls n place : ℕ) (items : List Item) (call : Call) → AreItemsFor g calls items → slice_get (calls_of items) place ≡ Some call
    → HasItem items (call_numbers g.exports n items) n place call
call_item g calls n place [] call are e = absurd (cc)
call_item g calls n zero (item.Call c ∷ items) call are e =
    let there : _ = found_export g (first_named c.name (names g.exports)) are.0.func are.0.named in (
      record { item = n; export = there.0 },
      0,
      ap (λ (o : Option ℕ). slice_get (front n o (call_numbers g.exports (suc n) items)) 0) there.1,
      omega (arith),
      ap (λ (x : Call). Some (item.Call x)) (some_same e),
    )
call_item g calls n (suc place) (item.Call c ∷ items) call are e =
    let there : _ = found_export g (first_named c.name (names g.exports)) are.0.func are.0.named in
    item_more (item.Call c) items (call_numbers g.exports (suc n) items) (call_numbers g.exports n (item.Call c ∷ items)) n place (suc place) call
    (ap (λ (o : Option ℕ). slice_get (front n o (call_numbers g.exports (suc n) items)) (suc place)) there.1) (call_item g (calls + 1) (suc n) place items call are.1 e)
call_item g calls n place (item.Cancel number ∷ items) call are e =
    item_more (item.Cancel number) items (call_numbers g.exports (suc n) items) (call_numbers g.exports n (item.Cancel number ∷ items)) n place place call refl
    (call_item g calls (suc n) place items call are.2 e)

given_so : (g : Graph) (s : Script) (p : Program) → IsProgram g s p → AreItemsFor g 0 s.items → (number : ℕ) (all : List Value) → IsCallOf s number all → host_values p number ≡ Some all
given_so g s p made are zero all (call, at, same) = absurd (let none : None ≡ Some call = at in let wrong : ⊥ = cc in wrong)
given_so g s p made are (suc place) all (call, at, same) =
    let x : HasItem s.items (call_numbers g.exports 0 s.items) 0 place call = call_item g 0 0 place s.items call are at in
    let here : slice_get p.calls.items place ≡ Some x.0 = ap (λ (l : List CallNumbers). slice_get l place) made.calls ∙ x.2 in
    let found : slice_get p.script.now.items x.0.item ≡ Some (item.Call call) =
    ap (λ (z : Script). slice_get z.items x.0.item) made.script ∙ ap (λ (m : ℕ). slice_get s.items m) (plain x.0.item x.1 x.3) ∙ x.4 in
    ap (λ (b : Bool). if b then None else values_at p (slice_get p.calls.items (suc place - 1))) (ne_eqb (suc place) 0 (λ e. cc))
    ∙ ap (λ (m : ℕ). values_at p (slice_get p.calls.items m)) (one_less place)
    ∙ ap (λ (o : Option CallNumbers). values_at p o) here ∙ ap values_in found ∙ ap (λ (l : List Value). Some l) same
  where
    plain : (a b : ℕ) → a ≡ b + 0 → a ≡ b
    plain a b e = omega (arith, e)

    one_less : (n : ℕ) → suc n - 1 ≡ n
    one_less n = omega (arith)

-- The resources of an instance are those that it defines.
in_front : (m n : ℕ) (b : Bool) (rest : List ℕ) → is_defined m ((if b then suc n ∷ [] else []) ++ rest) ≡ ((b && nat_eq (suc n) m) || is_defined m rest)
in_front m n true rest = refl
in_front m n false rest = refl

left_out : (b c : Bool) (d : Bool) → c ≡ false → ((b && c) || d) ≡ d
left_out true c d e = ap (λ (x : Bool). x || d) e
left_out false c d e = refl

left_in : (b c : Bool) (d : Bool) → c ≡ true → d ≡ false → ((b && c) || d) ≡ b
left_in true c d e f = ap (λ (x : Bool). x || d) e
left_in false c d e f = f

none_before : (i n m : ℕ) (resources : List Resource) → m ≤ n → is_defined m (defined_by i n resources) ≡ false
none_before i n m [] less = refl
none_before i n m (r ∷ resources) less =
    in_front m n (nat_eq r.instance i) (defined_by i (suc n) resources)
    ∙ left_out (nat_eq r.instance i) (nat_eq (suc n) m) (is_defined m (defined_by i (suc n) resources)) (ne_eqb (suc n) m (λ e. omega (arith, e, less)))
    ∙ none_before i (suc n) m resources (omega (arith, less))

defined_at : (i n k m : ℕ) (resources : List Resource) → m ≡ suc (n + k) → is_defined m (defined_by i n resources) ≡ is_defined_in i (slice_get resources k)
defined_at i n k m [] is = refl
defined_at i n zero m (r ∷ resources) is =
    in_front m n (nat_eq r.instance i) (defined_by i (suc n) resources)
    ∙ left_in (nat_eq r.instance i) (nat_eq (suc n) m) (is_defined m (defined_by i (suc n) resources)) (eq-eqb (suc n) m (omega (arith, is)))
    (none_before i (suc n) m resources (omega (arith, is)))
defined_at i n (suc k) m (r ∷ resources) is =
    in_front m n (nat_eq r.instance i) (defined_by i (suc n) resources)
    ∙ left_out (nat_eq r.instance i) (nat_eq (suc n) m) (is_defined m (defined_by i (suc n) resources)) (ne_eqb (suc n) m (λ e. omega (arith, e, is)))
    ∙ defined_at i (suc n) k m resources (omega (arith, is))

defines_so : (g : Graph) (i resource : ℕ) → is_defined resource (defined_by i 0 g.resources) ≡ defines g i resource
defines_so g i zero = none_before i 0 0 g.resources (omega (arith))
defines_so g i (suc k) = defined_at i 0 k (suc k) g.resources (omega (arith))

own_so : (g : Graph) (s : Script) (p : Program) → IsProgram g s p → (at : ℕ) (resources : List ℕ) → resources_of p at ≡ Some resources → AreOwn resources (defines g at)
own_so g s p made at resources is resource =
    ap (λ (l : List ℕ). is_defined resource l) (made.resources.each at resources is) ∙ defines_so g at resource

pub programs_pass : ProgramsPass
programs_pass g s p made script = (
  record {
    types = refl;
    params = subst (λ (x : Graph). (c : runs.Callee) (f : Lifted) (type : Numbered) → callee_of x c ≡ Some (Func f) → params_of p c ≡ Some type → type.val_type ≡ params_type f.func_type) (sym made.graph)
        (params_so g s p made);
    given = given_so g s p made script;
    own = subst (λ (x : Graph). (at : ℕ) (resources : List ℕ) → resources_of p at ≡ Some resources → AreOwn resources (defines x at)) (sym made.graph) (own_so g s p made);
  },
  record {
    returned = subst (λ (x : Graph). (c : runs.Callee) (f : Lifted) → callee_of x c ≡ Some (Func f) → MayBeAt p.types.now (returned_of p c) f.func_type.result) (sym made.graph) (returned_so g s p made);
    passed = subst (λ (x : Graph). (number : ℕ) → MayBeAt p.types.now (value_of p number) (element_at x number)) (sym made.graph) (passed_so g s p made);
  },
)
