-- A step in which values of a task are passed keeps ends marked.
use Rattle.std.proofs.Common.{◌≡◌, ◌∙◌, ◌-◌, ℕ, Bool, List, [], ◌∷◌, ◌++◌, map, length, refl, sym, ap, subst, Option, Some, None, nat_eq, if◌then◌else◌, true, false}
use Rattle.std.specs.List.{slice_get, flat_map}
use Rattle.syntax_trees.specs.declared.types.ValType.{ValType}
use Rattle.syntax_trees.specs.declared.value.Value.{Value}
use Rattle.syntax_trees.specs.declared.value.Value.TheOpen as V
use Rattle.syntax_trees.specs.declared.value.Value.TheViews.{roll-Value}
use Rattle.syntax_trees.specs.declared.value.Value.TheVariants as plain
use Rattle.syntax_trees.specs.declared.value.Value.TheFolds.{map-Value, ind-Value, fold-roll-Value}
use Rattle.laid_types.specs.Parts.{parts_of, part_at}
use Rattle.laid_types.specs.SameTypes.{AreDistinct}
use Rattle.builtin_kinds.specs.declared.EndKind.{EndKind}
use Rattle.comp_graph.specs.declared.graph.FuncRef.{FuncRef}
use Rattle.comp_graph.specs.Passed.{MayBeAt}
use Rattle.copy_replies.specs.Moves.{element_at}
use Rattle.programs.specs.declared.program.Program.{Program}
use Rattle.programs.specs.declared.program.CallNumbers.{CallNumbers}
use Rattle.programs.specs.Program.{value_of, values_in, values_at}
use Rattle.script_reader.specs.declared.script.Item.{Item}
use Rattle.script_reader.specs.declared.script.Item.TheVariants as item
use Rattle.wasm_store.proofs.Lists.{all_at}
use Rattle.abi_machine.proofs.sound.Found.{some_same}
use Rattle.replies.specs.Seen.{seen}
use Rattle.world_parts.specs.declared.parts.Flow.{Flow}
use Rattle.world_parts.specs.declared.parts.Flow.TheVariants as flow
use Rattle.world_parts.specs.declared.parts.Copying.{Copying}
use Rattle.world_parts.specs.declared.parts.Rest.TheVariants as rest
use Rattle.world_parts.specs.Feed.{acting, at_rest}
use Rattle.world_parts.specs.Held.{Held, Done, Gives, Traps, Spent, Stuck, after, given}
use Rattle.world_stacks.specs.Views.{PileView}
use Rattle.world_stacks.specs.Piles.{gone_on, at_pile}
use Rattle.world_stacks.specs.Piles as piled
use Rattle.world_stacks.specs.Starting.{call_of}
use Rattle.world_stacks.specs.Moving.{started_on}
use Rattle.value_parts.specs.declared.to_pass.Passing.{Passing}
use Rattle.value_parts.specs.declared.to_pass.Passing.TheVariants as passing
use Rattle.value_parts.specs.Coming.{Behind}
use Rattle.value_moves.specs.Passing.{PassesFor, Passes, call_at}
use Rattle.machine_runs.specs.declared.stepping.Step.{Step}
use Rattle.machine_runs.specs.declared.stepping.Step.TheVariants as step
use Rattle.machine_runs.specs.Following.{answered_now, started_now, followed}
use Rattle.machine_runs.specs.Stepping.{follow_steps, PassSteps}
use Rattle.abi_machine.specs.Control.{EndRef}
use Rattle.abi_machine.specs.sound.EndsPassed.{ends_step, ends_in, ends_of, ItemPassesNoEnd, ScriptPassesNoEnd}
use Rattle.standing.specs.Channels.{HasMarkedEnds}
use Rattle.standing.specs.KeptMarks.{HasMarks}
use Rattle.run_laws.specs.keeping.Steps.{PassesWell}
use Rattle.run_laws.specs.Transfers.{HasEndOf}
use Rattle.run_laws.specs.keeping.Still.{EndsKept, HostPassesNone, IsOfTask, GivesMarked, PassingKeepsEnds, ElementsKeepEnds, ScriptsPassNone}
use Rattle.run_laws.proofs.PassedFlows.{GivesBy, IsRest, entered_plain, returned_plain, ended_rests, transferred_plain}
use Rattle.run_laws.proofs.plain.Only.{IsPlain}
use Rattle.run_laws.proofs.keeping.But.{HoldsSo, but_of, holds_after, holds_given}
use Rattle.run_laws.proofs.keeping.Planned.{Ends, ends_typed, end_steps, in_elements, in_list, in_fields, in_payload}
use Rattle.run_laws.proofs.keeping.still.EndsOver.{transferred_marked}
use Rattle.run_laws.proofs.keeping.still.EndsPassed.{HostEnds, passed_marked}

-- A value that holds no end holds none by its type.
abbrev HoldsNone : Value → Type 0
HoldsNone v = ends_in v ≡ [] → (t : ValType) → ends_typed v t ≡ []

abbrev Holding : Type 0
Holding = (v : Value) × HoldsNone v

abbrev these : List Holding → List Value
these es = map (λ (e : Holding). e.0) es

left_none : {A : Type 0} (xs ys : List A) → xs ++ ys ≡ [] → xs ≡ []
left_none [] ys e = refl
left_none (x ∷ xs) ys e = absurd (cc)

right_none : {A : Type 0} (xs ys : List A) → xs ++ ys ≡ [] → ys ≡ []
right_none [] ys e = e
right_none (x ∷ xs) ys e = absurd (cc)

both_none : {A : Type 0} (xs ys : List A) → xs ≡ [] → ys ≡ [] → xs ++ ys ≡ []
both_none {A} xs ys e f = ap (λ (zs : List A). zs ++ ys) e ∙ f

abbrev joined : List (List EndRef) → List EndRef
joined all = flat_map (λ ends. ends) all

elements_none : (t : ValType) (es : List Holding) → joined (map ends_in (these es)) ≡ [] → in_elements t (map ends_typed (these es)) ≡ []
elements_none t [] e = refl
elements_none t (x ∷ es) e =
    both_none (ends_typed x.0 t) (in_elements t (map ends_typed (these es))) (x.1 (left_none (ends_in x.0) (joined (map ends_in (these es))) e) t)
    (elements_none t es (right_none (ends_in x.0) (joined (map ends_in (these es))) e))

list_none : (o : Option ValType) (es : List Holding) → joined (map ends_in (these es)) ≡ [] → in_list o (map ends_typed (these es)) ≡ []
list_none None es e = refl
list_none (Some t) es e = elements_none t es e

fields_none : (types : List (Option ValType)) (es : List Holding) → joined (map ends_in (these es)) ≡ [] → in_fields types (map ends_typed (these es)) ≡ []
fields_none [] es e = refl
fields_none (o ∷ types) [] e = refl
fields_none (None ∷ types) (x ∷ es) e = fields_none types es (right_none (ends_in x.0) (joined (map ends_in (these es))) e)
fields_none (Some t ∷ types) (x ∷ es) e =
    both_none (ends_typed x.0 t) (in_fields types (map ends_typed (these es))) (x.1 (left_none (ends_in x.0) (joined (map ends_in (these es))) e) t)
    (fields_none types es (right_none (ends_in x.0) (joined (map ends_in (these es))) e))

payload_none : (o : Option ValType) (x : Holding) → ends_in x.0 ≡ [] → in_payload o (ends_typed x.0) ≡ []
payload_none None x e = refl
payload_none (Some t) x e = x.1 e t

abbrev layer : V.Value-F Holding → V.Value-F Value
layer w = map-Value Holding Value (λ (e : Holding). e.0) w

layer_none : (w : V.Value-F Holding) (t : ValType) → ends_step (map-Value Value (List EndRef) ends_in (layer w)) ≡ [] → end_steps (map-Value Value (ValType → Ends) ends_typed (layer w)) t ≡ []
layer_none (V.List es) t e = list_none (part_at t 0) es e
layer_none (V.Record es) t e = fields_none (parts_of t) es e
layer_none (V.Variant n (Some x)) t e = payload_none (part_at t n) x e
layer_none (V.Variant n None) t e = refl
layer_none (V.Stream number) t e = absurd (cc)
layer_none (V.Future number) t e = absurd (cc)
layer_none (V.String text) t e = refl
layer_none (V.Own x) t e = refl
layer_none (V.Borrow x) t e = refl
layer_none (V.Flags flags) t e = refl
layer_none (V.Bool b) t e = refl
layer_none (V.S8 x) t e = refl
layer_none (V.U8 x) t e = refl
layer_none (V.S16 x) t e = refl
layer_none (V.U16 x) t e = refl
layer_none (V.S32 x) t e = refl
layer_none (V.U32 x) t e = refl
layer_none (V.S64 x) t e = refl
layer_none (V.U64 x) t e = refl
layer_none (V.Char x) t e = refl

step_none : (w : V.Value-F Holding) → HoldsNone (roll-Value (layer w))
step_none w e t =
    ap (λ (f : ValType → Ends). f t) (fold-roll-Value (ValType → Ends) end_steps (layer w)) ∙ layer_none w t (sym (fold-roll-Value (List EndRef) ends_step (layer w)) ∙ e)

none_typed : (v : Value) → HoldsNone v
none_typed = ind-Value HoldsNone (λ x y e. subst (λ (z : V.Value-F Value). HoldsNone (roll-Value z)) e (step_none y))

all_of : List Value → List Holding
all_of [] = []
all_of (v ∷ all) = (v, none_typed v) ∷ all_of all

these_are : (all : List Value) → these (all_of all) ≡ all
unfolding all_of
these_are [] = refl
these_are (v ∷ all) = ap (λ (vs : List Value). v ∷ vs) (these_are all)

joined_are : (all : List Value) → joined (map ends_in all) ≡ ends_of all
joined_are [] = refl
joined_are (v ∷ all) = ap (λ (more : List EndRef). ends_in v ++ more) (joined_are all)

host_ends : (p : Program) → HostPassesNone p → HostEnds p
host_ends p none call values t is =
    ap (λ (v : Value). ends_typed v t) (sym (plain.rolls-Record values)) ∙ ap (λ (f : ValType → Ends). f t) (fold-roll-Value (ValType → Ends) end_steps (V.Record values))
    ∙ subst (λ (vs : List Value). in_fields (parts_of t) (map ends_typed vs) ≡ []) (these_are values)
    (fields_none (parts_of t) (all_of values)
    (ap (λ (vs : List Value). joined (map ends_in vs)) (these_are values) ∙ joined_are values ∙ none call values is))

-- What follows.
abbrev Marked : Held → Type 0
Marked k = HasMarkedEnds k

now_marked : (words : List ℕ) (piles : List PileView) (h : Held) → Marked h → HoldsSo Marked (answered_now words piles h)
now_marked words piles h m =
    holds_after Marked {B = Passing × List PileView} (acting h) (λ t k. given (at_pile (gone_on k.store words) t piles) (λ r. Gives (passing.Nothing, r.1) k))
    (holds_given Marked (slice_get h.chain (length h.chain - 1)) (λ t. Gives t h) (λ t is. m))
    (λ t k n. holds_given Marked {B = Passing × List PileView} (at_pile (gone_on k.store words) t piles) (λ r. Gives (passing.Nothing, r.1) k) (λ r is. n))

start_marked : (func : FuncRef) (words : List ℕ) (piles : List PileView) (h : Held) → Marked h → HoldsSo Marked (started_now func words piles h)
start_marked func words piles h m =
    holds_after Marked {B = Passing × List PileView} (acting h) (λ t k. after (started_on t func words piles k) (λ r l. Gives (passing.Nothing, r.1) l))
    (holds_given Marked (slice_get h.chain (length h.chain - 1)) (λ t. Gives t h) (λ t is. m))
    (λ t k n.
    holds_after Marked {B = Passing × List PileView} (started_on t func words piles k) (λ r l. Gives (passing.Nothing, r.1) l)
    (holds_given Marked (call_of k.store func words) (λ s. given (at_pile (piled.stacked s) t piles) (λ r. Gives r (at_rest rest.Runs k)))
    (λ s is. holds_given Marked (at_pile (piled.stacked s) t piles) (λ r. Gives r (at_rest rest.Runs k)) (λ r there. n))) (λ r l o. o))

follow_marked : (p : Program) (f : Flow) (piles : List PileView) (k : Held) → IsPlain f → Marked k → HoldsSo Marked (followed (seen p.graph.now) f piles k)
unfolding followed
follow_marked p (flow.Now words) piles k plain m = now_marked words piles k m
follow_marked p flow.Rests piles k plain m = m
follow_marked p (flow.Starts func words) piles k plain m = start_marked func words piles k m
follow_marked p flow.Enters piles k plain m = absurd plain
follow_marked p flow.Returns piles k plain m = absurd plain
follow_marked p (flow.Copies copying) piles k plain m = absurd plain
follow_marked p (flow.Delivers r set) piles k plain m = absurd plain
follow_marked p (flow.Polls r set) piles k plain m = absurd plain
follow_marked p (flow.HearsNone r) piles k plain m = absurd plain
follow_marked p (flow.HearsCancel r) piles k plain m = absurd plain

steps_marked : (p : Program) (f : Flow) (piles : List PileView) (k : Held) → IsPlain f → Marked k → HoldsSo Marked (follow_steps p f piles k)
steps_marked p f piles k plain m =
    holds_after Marked {B = Step × List PileView} (followed (seen p.graph.now) f piles k) (λ r l. Gives (step.GoesOn r.0, r.1) l) (follow_marked p f piles k plain m) (λ r l o. o)

rest_plain : (x : Flow) → IsRest x → IsPlain x
rest_plain x is = subst IsPlain (sym is) tt

rests_plain : (q : Done Flow) → GivesBy IsRest q → GivesBy IsPlain q
rests_plain (Gives x k) is = rest_plain x is
rests_plain (Traps why k) is = tt
rests_plain (Spent k) is = tt
rests_plain Stuck is = tt

behind_marked : (p : Program) (piles : List PileView) (first : Done Flow) (d : Done (Step × List PileView)) → GivesBy IsPlain first → HoldsSo Marked first
    → Behind first (λ f k e. e ≡ follow_steps p f piles k) d → HoldsSo Marked d
behind_marked p piles (Gives f k) d plain m b = subst (λ (e : Done (Step × List PileView)). HoldsSo Marked e) (sym b) (steps_marked p f piles k plain m)
behind_marked p piles (Traps why k) d plain m b = subst (λ (e : Done (Step × List PileView)). HoldsSo Marked e) (sym b) m
behind_marked p piles (Spent k) d plain m b = subst (λ (e : Done (Step × List PileView)). HoldsSo Marked e) (sym b) tt
behind_marked p piles Stuck d plain m b = subst (λ (e : Done (Step × List PileView)). HoldsSo Marked e) (sym b) tt

no_elements : (x : Passing) → IsOfTask x → (copying : Copying) → x ≡ passing.Elements copying → ⊥
no_elements x of copying is = subst IsOfTask is of

plain_passed : (p : Program) (t : ℕ) (x : Passing) (h : Held) (first : Done Flow) → IsOfTask x → PassesFor p t x h first → GivesBy IsPlain first
plain_passed p t passing.Nothing h first of b = absurd of
plain_passed p t passing.Arguments h first of b = entered_plain p t h first b
plain_passed p t passing.Returned h first of b = returned_plain p t (call_at h.rest) h first b
plain_passed p t (passing.Ended words) h first of b = rests_plain first (ended_rests p t words h first b)
plain_passed p t (passing.Elements copying) h first of b = absurd of

passes_keep : (p : Program) (K : ℕ → EndKind) (x : Passing) (piles : List PileView) (h : Held) (d : Done (Step × List PileView)) → AreDistinct p.types.now → HostPassesNone p → IsOfTask x
    → PassesWell p x h → HasMarks h → EndsKept K h → PassSteps Passes p x piles h d → HoldsSo Marked d
passes_keep p K x piles h d distinct host of well marks kept (first, passes, behind) = by_acting (slice_get h.chain (length h.chain - 1)) refl passes
  where
    by_acting : (o : Option ℕ) → slice_get h.chain (length h.chain - 1) ≡ o → Behind (let e : Done ℕ = given o (λ t. Gives t h) in e) (λ t k e. PassesFor p t x k e) first → HoldsSo Marked d
    by_acting None is b = behind_marked p piles first d (subst (λ (e : Done Flow). GivesBy IsPlain e) (sym b) tt) (subst (λ (e : Done Flow). HoldsSo Marked e) (sym b) tt) behind
    by_acting (Some t) is b =
        behind_marked p piles first d (plain_passed p t x h first of b)
        (passed_marked p t distinct (host_ends p host) K x h first (no_elements x of) (well.now t is) kept b (but_of (Unit {0}) t h marks well.tables (λ c. kept.marked))) behind

as_given : {A : Type 0} (d : Done A) → HoldsSo Marked d → GivesMarked d
as_given (Gives x k) m = m
as_given (Traps why k) m = m
as_given (Spent k) m = tt
as_given Stuck m = tt

pub passing_keeps_ends : PassingKeepsEnds
passing_keeps_ends p K passing.Nothing piles h d distinct host of well marks kept steps = absurd of
passing_keeps_ends p K passing.Arguments piles h d distinct host of well marks kept steps = as_given d (passes_keep p K passing.Arguments piles h d distinct host of well marks kept steps)
passing_keeps_ends p K passing.Returned piles h d distinct host of well marks kept steps = as_given d (passes_keep p K passing.Returned piles h d distinct host of well marks kept steps)
passing_keeps_ends p K (passing.Ended words) piles h d distinct host of well marks kept steps = as_given d (passes_keep p K (passing.Ended words) piles h d distinct host of well marks kept steps)
passing_keeps_ends p K (passing.Elements copying) piles h d distinct host of well marks kept steps = absurd of

-- Elements go over.
over_keeps : (p : Program) (K : ℕ → EndKind) (copying : Copying) (piles : List PileView) (h : Held) (d : Done (Step × List PileView)) → AreDistinct p.types.now → HasEndOf p p.types.now h copying
    → MayBeAt p.types.now (value_of p copying.canon) (element_at p.graph.now copying.canon) → PassesWell p (passing.Elements copying) h → HasMarks h → EndsKept K h
    → PassSteps Passes p (passing.Elements copying) piles h d → HoldsSo Marked d
over_keeps p K copying piles h d distinct has fits well marks kept (first, passes, behind) = by_acting (slice_get h.chain (length h.chain - 1)) refl passes
  where
    by_acting : (o : Option ℕ) → slice_get h.chain (length h.chain - 1) ≡ o
        → Behind (let e : Done ℕ = given o (λ t. Gives t h) in e) (λ t k e. PassesFor p t (passing.Elements copying) k e) first → HoldsSo Marked d
    by_acting None is b = behind_marked p piles first d (subst (λ (e : Done Flow). GivesBy IsPlain e) (sym b) tt) (subst (λ (e : Done Flow). HoldsSo Marked e) (sym b) tt) behind
    by_acting (Some t) is b =
        behind_marked p piles first d (transferred_plain p t copying h first b)
        (transferred_marked p t distinct K t copying h first has fits (well.now t is) kept b (but_of (Unit {0}) t h marks well.tables (λ c. kept.marked))) behind

pub elements_keep_ends : ElementsKeepEnds
elements_keep_ends p K copying piles h d distinct has fits well marks kept steps = as_given d (over_keeps p K copying piles h d distinct has fits well marks kept steps)

-- What the script gives.
item_none : (o : Option Item) (values : List Value) → ((next : Item) → o ≡ Some next → ItemPassesNoEnd next) → values_in o ≡ Some values → ends_of values ≡ []
item_none None values all e = absurd (cc)
item_none (Some (item.Call call)) values all e = subst (λ (vs : List Value). ends_of vs ≡ []) (some_same e) (all (item.Call call) refl)
item_none (Some (item.Cancel number)) values all e = absurd (cc)

numbers_none : (p : Program) (o : Option CallNumbers) (values : List Value) → ScriptPassesNoEnd p.script.now → values_at p o ≡ Some values → ends_of values ≡ []
numbers_none p None values none e = absurd (cc)
numbers_none p (Some numbers) values none e =
    item_none (slice_get p.script.now.items numbers.item) values (λ next is. all_at ItemPassesNoEnd p.script.now.items numbers.item next none is) e

tested_none : (b : Bool) (o : Option (List Value)) (values : List Value) → (o ≡ Some values → ends_of values ≡ []) → (let x : Option (List Value) = if b then None else o in x) ≡ Some values → ends_of values ≡ []
tested_none true o values f e = absurd (cc)
tested_none false o values f e = f e

pub scripts_pass_none : ScriptsPassNone
scripts_pass_none p none call values is =
    tested_none (nat_eq call 0) (values_at p (slice_get p.calls.items (call - 1))) values (numbers_none p (slice_get p.calls.items (call - 1)) values none) is
