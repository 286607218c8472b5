-- Elements that are lowered over what is kept.
use Rattle.std.proofs.Common.{◌≡◌, ◌≤◌, ◌+◌, ◌*◌, ◌%◌, ◌==◌, ℕ, zero, suc, Bool, true, false, nat_le, if◌then◌else◌, List, [], ◌∷◌, map, length, subst, arith, Some}
use Rattle.std.specs.List.{slice_get, list_all}
use Rattle.std.proofs.lemmas.Bool.{and_parts}
use Rattle.std.proofs.lemmas.Bool.Decides.{nat_tests}
use Rattle.syntax_trees.specs.declared.types.ValType.{ValType}
use Rattle.syntax_trees.specs.declared.value.Value.{Value}
use Rattle.syntax_trees.specs.Fits.{fits}
use Rattle.laid_types.specs.Layout.{laid}
use Rattle.value_lower.specs.declared.ends.LowerWhy.TheVariants as lower_why
use Rattle.value_lower.specs.Plan as lower
use Rattle.value_lower.specs.Storing.{tested, elements_from}
use Rattle.value_lower.specs.Entering.{lowered}
use Rattle.value_lower.specs.Tables.{IsEntry, entered}
use Rattle.value_lower.specs.Following.{Rooms, Came, Follows}
use Rattle.copy_engine.specs.Copying.{all_fit}
use Rattle.copy_engine.specs.Hosted.{plan_all, as_plan, hosted_rooms}
use Rattle.instances.specs.Entries.{seen_as, of_handle, of_end}
use Rattle.value_moves.specs.Lowering.{begun_at, setting_in}
use Rattle.abi_machine.specs.LoweringOver as machine
use Rattle.abi_machine.specs.Pausing.{entries_by}
use Rattle.standing.proofs.Plans.{elements_alike}
use Rattle.run_laws.specs.Elements.{ElementsLead}
use Rattle.run_laws.proofs.Lowered.{lowers_at_leads}

-- A test that is passed.
passed : {R T : Type 0} (rooms : Rooms R T) (b : Bool) (p q : lower.Plan) (r : R) (came : Came T) (after : R) → b ≡ true → Follows rooms (if b then p else q) r came after → Follows rooms p r came after
passed rooms true p q r came after is_true h = h
passed rooms false p q r came after is_true h = absurd (cc)

aligned_so : (place align : ℕ) → place % align ≡ 0 → (place % align == 0) ≡ true
aligned_so place align e = grind (arith, nat_tests, e)

inside_so : (end size : ℕ) → end ≤ size → nat_le end size ≡ true
inside_so end size e = grind (arith, nat_tests, e)

tested_passed : {R T : Type 0} (rooms : Rooms R T) (place align size : ℕ) (k : lower.Plan) (r : R) (came : Came T) (after : R) → place % align ≡ 0 → place + size ≤ length (rooms.memory r)
    → Follows rooms (tested place align size k) r came after → Follows rooms k r came after
tested_passed rooms place align size k r came after aligned inside h =
    passed rooms (nat_le (place + size) (length (rooms.memory r))) k (lower.Fails lower_why.Bounds) r came after (inside_so (place + size) (length (rooms.memory r)) inside)
    (passed rooms (place % align == 0) (lower.Size (λ there. if nat_le (place + size) there then k else lower.Fails lower_why.Bounds)) (lower.Fails lower_why.Misaligned) r came after
    (aligned_so place align aligned) h)

-- The plan of elements, behind the test of their place.
elements_follow : {R T : Type 0} (rooms : Rooms R T) (type : ValType) (all : List Value) (place : ℕ) (home : List ℕ) (r : R) (came : Came T) (after : R) → place % (laid type).align ≡ 0
    → place + length all * (laid type).size ≤ length (rooms.memory r) → Follows rooms (plan_all type all place home) r came after
    → Follows rooms (elements_from type place (map (lowered (entered home)) all) (lower.Gives [])) r came after
elements_follow rooms type [] place home r came after aligned inside h = h
elements_follow rooms type (v ∷ all) place home r came after aligned inside h =
    tested_passed rooms place (laid type).align (length (v ∷ all) * (laid type).size) (elements_from type place (map (lowered (entered home)) (v ∷ all)) (lower.Gives [])) r came after aligned
    inside h

-- Each of them fits.
each_fits : (type : ValType) (all : List Value) → all_fit type all ≡ true → (n : ℕ) (v : Value) → slice_get all n ≡ Some v → fits v type ≡ true
each_fits type [] fit n v is = absurd (cc)
each_fits type (x ∷ all) fit zero v is =
    let same : x ≡ v = cc in
    subst (λ (y : Value). fits y type ≡ true) same (and_parts (fits x type) (list_all (λ v. fits v type) all) fit).0
each_fits type (x ∷ all) fit (suc n) v is = each_fits type all (and_parts (fits x type) (list_all (λ v. fits v type) all) fit).1 n v is

pub elements_lead : ElementsLead
elements_lead g values s w h stacks l to site slot is_own type all place d control own fit aligned inside at lowers =
    lowers_at_leads g values s w h stacks l to site slot (elements_from type place (map (lowered (entered site.resources)) all) (lower.Gives []))
    (machine.all_stored (entries_by is_own) type all place) d control (elements_alike site.resources is_own type all place own (each_fits type all fit)) at (
      lowers.0,
      lowers.1,
      elements_follow (hosted_rooms seen_as (IsEntry of_handle of_end to.task values) (setting_in g to)) type all place site.resources (begun_at site h) (as_plan lowers.0) lowers.1 aligned inside
          lowers.2,
      lowers.3,
    )
