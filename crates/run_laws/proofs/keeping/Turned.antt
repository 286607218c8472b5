-- Turns keep all marks, and well what is kept.
use Rattle.std.proofs.Common.{◌≡◌, refl, Option, Some, None}
use Rattle.std.specs.Prelude.{ℕ, ◌+◌, ◌-◌, nat_eq, nat_lt, Bool, true, false, ◌&&◌, if◌then◌else◌, List, [], ◌∷◌, ◌++◌, map, length}
use Rattle.std.specs.List.{slice_get}
use Rattle.choices.specs.Choosing.{picked, left}
use Rattle.syntax_trees.specs.declared.exports.Export.{Export}
use Rattle.comp_graph.specs.declared.graph.Lift.{Lift}
use Rattle.graph_views.specs.Callees.{kind_of}
use Rattle.programs.specs.declared.program.Program.{Program}
use Rattle.programs.specs.Typed.{typed}
use Rattle.script_reader.specs.declared.script.Call.{Call}
use Rattle.script_reader.specs.declared.script.Item.{Item}
use Rattle.script_reader.specs.declared.script.Item.TheVariants as item
use Rattle.trace_labels.specs.declared.label.Label.{Label}
use Rattle.trace_labels.specs.declared.label.Label.TheVariants as line
use Rattle.world_parts.specs.declared.parts.Rest.TheVariants as rest
use Rattle.world_parts.specs.declared.parts.Turned.{Turned}
use Rattle.world_parts.specs.declared.parts.Turned.TheVariants as turned
use Rattle.world_parts.specs.Held.{Held, Done, Gives, Spent, after, given}
use Rattle.world_parts.specs.Feed.{told, at_rest, chosen, chained}
use Rattle.world_parts.specs.Turning.{able, count_of, gone, task_at, task_gone, taken, turns_by}
use Rattle.world_stacks.specs.Views.{PileView}
use Rattle.replies.specs.Seen.{seen}
use Rattle.machine_runs.specs.Following.{with_piles}
use Rattle.machine_runs.specs.Turning.{has_item, call_by, call_of, item_done, next_item_taken, turned_so, turns}
use Rattle.run_laws.specs.keeping.Stepping.{KeepsAll}
use Rattle.run_laws.specs.keeping.Turning.{TurnWell, TurnsKeepAll}
use Rattle.run_laws.proofs.keeping.Called.{numbers_beside}
use Rattle.run_laws.proofs.keeping.Script.{call_taken_marks, call_cancelled_marks}
use Rattle.run_laws.proofs.keeping.Followed.{all_after, all_given, all_rests, all_through}
use Rattle.run_laws.proofs.well.Script.{call_taken_well, call_cancelled_well}

-- An item is taken.
by_lift : (number : ℕ) (e : Export) (lift : Lift) (call : Call) (h : Held) → TurnWell h → KeepsAll h (call_by number e lift call h)
by_lift number e lift call h w = (
  call_taken_marks number lift.instance (kind_of lift.options) call.name (typed (map (λ x. x.val_type) e.func_type.params) call.values) h w.numbers,
  call_taken_well number lift.instance (kind_of lift.options) call.name (typed (map (λ x. x.val_type) e.func_type.params) call.values) h,
)

item_all : (p : Program) (x : Item) (h : Held) → TurnWell h → KeepsAll h (item_done p x h)
item_all p (item.Call call) h w =
    all_given h (slice_get p.calls.items (length h.calls)) (λ numbers. call_of p.graph.now numbers call h)
    (λ numbers is.
    all_given h (slice_get p.graph.now.exports numbers.export)
    (λ e. given (slice_get p.graph.now.lifts numbers.export) (λ lift. call_by numbers.export e lift call h))
    (λ e there.
    all_given h (slice_get p.graph.now.lifts numbers.export) (λ lift. call_by numbers.export e lift call h)
    (λ lift found. by_lift numbers.export e lift call h w)))
item_all p (item.Cancel call) h w = (call_cancelled_marks call h (λ t is. w.calls call t is), call_cancelled_well call h)

next_all : (p : Program) (piles : List PileView) (h : Held) → TurnWell h → KeepsAll h (next_item_taken p piles h)
unfolding next_item_taken
next_all p piles h w =
    all_given h (slice_get p.script.now.items h.taken) (λ next. after (item_done p next h) (λ f k. Gives (turned.TakesItem, with_piles (length k.tasks) piles) k))
    (λ next is.
    all_after {B = Turned × List PileView} h (item_done p next h) (λ f k. Gives (turned.TakesItem, with_piles (length k.tasks) piles) k) (item_all p next h w)
    (λ f k. all_rests {A = Turned × List PileView} k k (turned.TakesItem, with_piles (length k.tasks) piles) refl refl))

-- Lines and picks are others.
well_beside : (h : Held) (picks : List ℕ) (labels : List Label) → TurnWell h → TurnWell (record h { picks = picks; labels = labels })
well_beside h picks labels w = record {
  numbers = numbers_beside h (record h { picks = picks; labels = labels }) refl refl w.numbers;
  calls = λ call t is slot found. w.calls call t is slot found;
}

-- One of several is chosen.
chosen_all : {A B : Type 0} (h : Held) (count : ℕ) (b : Bool) (f : ℕ → Held → Done A) (c : A → Held → Done B)
    → ((n : ℕ) (picks : List ℕ) (labels : List Label) → KeepsAll (record h { picks = picks; labels = labels }) (after (f n (record h { picks = picks; labels = labels })) c))
    → KeepsAll h (after (after (if b then chosen count h else Gives 0 h) f) c)
chosen_all h count true f c p =
    let k : Held = record h { picks = left count h.picks; labels = h.labels ++ line.Choose count (picked count h.picks) ∷ [] } in
    all_through h k (after (f (picked count h.picks) k) c) refl refl (p (picked count h.picks) (left count h.picks) (h.labels ++ line.Choose count (picked count h.picks) ∷ []))
chosen_all h count false f c p = p 0 h.picks h.labels

-- A task goes on.
gone_if : (p : Program) (piles : List PileView) (t : ℕ) (b : Bool) (h : Held) → KeepsAll h
    (after (after (if b then Gives (tt {0}) (record h { left = h.left - 1 }) else Spent (record h { left = h.left - 1 }))
    (λ done k. after (told (line.Go t) k) (λ done l. after (chained t l) (λ done m. Gives turned.GoesOn (at_rest rest.Resumes m))))) (λ what k. turned_so p what piles k))
gone_if p piles t true h =
    let k : Held = record h { left = h.left - 1 } in
    let l : Held = record k { labels = k.labels ++ line.Go t ∷ [] } in
    let m : Held = record l { chain = l.chain ++ t ∷ [] } in
    all_rests {A = Turned × List PileView} h (at_rest rest.Resumes m) (turned.GoesOn, piles) refl refl
gone_if p piles t false h = (tt, tt)

gone_all : (p : Program) (piles : List PileView) (t : ℕ) (h : Held) → KeepsAll h (after (gone t h) (λ what k. turned_so p what piles k))
unfolding gone
gone_all p piles t h = gone_if p piles t (nat_lt 0 h.left) h

look_all : {A B C : Type 0} (h : Held) (o : Option A) (f : A → Done B) (c : B → Held → Done C) → ((x : A) → o ≡ Some x → KeepsAll h (after (f x) c)) → KeepsAll h (after (given o f) c)
look_all h None f c p = (tt, tt)
look_all h (Some x) f c p = p x refl

by_number : (p : Program) (piles : List PileView) (has : Bool) (tasks : List ℕ) (number : ℕ) (b : Bool) (h : Held) → TurnWell h
    → KeepsAll h (after (if b then Gives turned.TakesItem h else task_gone has number tasks h) (λ what k. turned_so p what piles k))
unfolding task_gone
by_number p piles has tasks number true h w = next_all p piles h w
by_number p piles has tasks number false h w =
    look_all h (task_at has number tasks) (λ t. gone t h) (λ what k. turned_so p what piles k) (λ t is. gone_all p piles t h)

by_count : (p : Program) (piles : List PileView) (has : Bool) (tasks : List ℕ) (b : Bool) (h : Held) → TurnWell h
    → KeepsAll h (after (if b then Gives turned.Ends h else taken has tasks h) (λ what k. turned_so p what piles k))
unfolding taken
by_count p piles has tasks true h w = all_rests {A = Turned × List PileView} h h (turned.Ends, piles) refl refl
by_count p piles has tasks false h w =
    chosen_all h (count_of has tasks) (nat_lt 1 (count_of has tasks)) (λ number k. if has && nat_eq number 0 then Gives turned.TakesItem k else task_gone has number tasks k)
    (λ what k. turned_so p what piles k)
    (λ number picks labels. by_number p piles has tasks number (has && nat_eq number 0) (record h { picks = picks; labels = labels }) (well_beside h picks labels w))

pub turns_all : TurnsKeepAll
unfolding turns turns_by
turns_all p piles h w =
    by_count p piles (has_item p h) (able (seen p.graph.now) h) (nat_eq (count_of (has_item p h) (able (seen p.graph.now) h)) 0) h w
