-- One of the alternatives is chosen, and done.
use Rattle.std.proofs.Common.{◌≡◌, ◌<◌, ℕ, zero, suc, ◌-◌, Bool, true, ◌&&◌, nat_eq, nat_lt, if◌then◌else◌, List, [], ◌∷◌, ◌++◌, length, map, refl, sym, ap, ◌∙◌, subst, append-nil, arith, Option, Some, None}
use Rattle.std.specs.Option.{option_map}
use Rattle.std.specs.List.{slice_get}
use Rattle.std.proofs.lemmas.Bool.{lt-ltb, ne_eqb}
use Rattle.std.proofs.lemmas.List.{length-map}
use Rattle.syntax_trees.specs.declared.types.ValType.{ValType}
use Rattle.choices.specs.Choosing as picks
use Rattle.choices.specs.Drawing.{drawn, drawn_answer}
use Rattle.comp_graph.specs.Graph.{Graph}
use Rattle.script_reader.specs.declared.script.Item.{Item}
use Rattle.script_reader.specs.declared.script.Item.TheVariants as item
use Rattle.script_reader.specs.Script.{Script}
use Rattle.trace_labels.specs.declared.label.Label.{Label}
use Rattle.trace_labels.specs.declared.label.Label.TheVariants as line
use Rattle.programs.specs.declared.program.Program.{Program}
use Rattle.replies.specs.Seen.{seen}
use Rattle.world_parts.specs.declared.parts.Turned.{Turned}
use Rattle.world_parts.specs.declared.parts.Turned.TheVariants as turned
use Rattle.world_parts.specs.Feed.{choice}
use Rattle.world_parts.specs.Held.{Held, Done, Gives, after, given}
use Rattle.world_parts.specs.Turning as kept_turns
use Rattle.world_parts.specs.Turning.{able, count_of, task_gone, taken, turns_by}
use Rattle.world_stacks.specs.Views.{PileView}
use Rattle.machine_runs.specs.declared.stepping.Step.{Step}
use Rattle.machine_runs.specs.Turning.{turned_so, turns}
use Rattle.abi_machine.specs.Control.{Control, Free, Chosen}
use Rattle.abi_machine.specs.World.{World}
use Rattle.abi_machine.specs.Edits.{with_control, picked}
use Rattle.abi_machine.specs.Choosing.{picks_of, chosen}
use Rattle.abi_machine.specs.Next.{next, next_by}
use Rattle.abi_machine.specs.Reading.{unfinished}
use Rattle.abi_machine.specs.Run.{Reaches, lines_of}
use Rattle.abi_machine.specs.Scheduling as machine
use Rattle.abi_machine.specs.Scheduling.{Takes, GoesOn, Alternative, item_first, alternatives, alternative_turn, one_of, free_turn, chosen_turn, end_by}
use Rattle.abi_machine.specs.Turn as turn
use Rattle.abi_machine.specs.Turn.{Turn, Steps, Ends}
use Rattle.standing.specs.Stands.{Stands}
use Rattle.standing.proofs.Changes.{picks_are_alike, picks_are_used}
use Rattle.standing.proofs.Steps.{via, if_true, if_false}
use Rattle.run_laws.specs.Points.{stacks_at, StepAgrees}
use Rattle.run_laws.specs.Turns.{IsProgram, CancelAt, CancelRow, TurnsAgree}
use Rattle.run_laws.proofs.Turned.{as_step, item_taken_is, item_steps, goes_on, there_is, has_is}

-- The alternatives of a world in which no task runs.
alternatives_are : (g : Graph) (s : Script) (w : World) (used : ℕ) (o : Option Item) (ts : List ℕ) → slice_get s.items w.taken ≡ o
    → machine.able g (with_control Free (picked used w)) ≡ ts → alternatives g s (with_control Free (picked used w)) ≡ item_first o (map GoesOn ts)
alternatives_are g s w used o ts is are =
    ap (λ (p : Option Item). item_first p (map GoesOn (machine.able g (with_control Free (picked used w))))) is ∙ ap (λ (xs : List ℕ). item_first o (map GoesOn xs)) are

alternatives_count : (o : Option Item) (ts : List ℕ) → length (item_first o (map GoesOn ts)) ≡ count_of (there_is o) ts
alternatives_count None ts = length-map ts GoesOn
alternatives_count (Some x) ts = let same : length (map GoesOn ts) ≡ length ts = length-map ts GoesOn in omega (arith, same)

goes_at : (ts : List ℕ) (n : ℕ) → slice_get (map GoesOn ts) n ≡ option_map GoesOn (slice_get ts n)
goes_at [] n = refl
goes_at (t ∷ ts) zero = refl
goes_at (t ∷ ts) (suc n) = goes_at ts n

-- A task of those that can go on does so, where one stands at the number that was picked.
task_goes : (g : Graph) (values : List ValType) (s : Script) (p : Program) (h : Held) (piles : List PileView) (w mid now : World) (steps : List (List Label)) (q : Option ℕ)
    → Stands g values s h (stacks_at piles) now → Reaches g s w steps mid → lines_of steps ≡ h.labels → next g s mid ≡ turn.given (option_map GoesOn q) (λ a. alternative_turn g s a now)
    → StepAgrees g values s [] w (after (after (given q (λ t. kept_turns.gone t h)) (λ what k. turned_so p what piles k)) as_step)
task_goes g values s p h piles w mid now steps None st r same is =
    (lines_of steps, record { steps = steps; world = mid; reached = r; same_lines = refl; is_next = is })
task_goes g values s p h piles w mid now steps (Some t) st r same is = goes_on g values s p h piles w mid now steps t st r same is

-- The alternative of a number is done: the next item, or a task.
one_done : (g : Graph) (values : List ValType) (s : Script) (p : Program) (h k : Held) (piles : List PileView) (w mid now : World) (steps : List (List Label)) (o : Option Item) (ts : List ℕ) (n : ℕ)
    → IsProgram g s p → length k.calls ≡ machine.calls_taken s now → k.taken ≡ now.taken → slice_get s.items now.taken ≡ o → Stands g values s k (stacks_at piles) now
    → ((next_item : Item) (number : ℕ) → o ≡ Some next_item → next_item ≡ item.Cancel number → CancelAt g values s k (stacks_at piles) now number)
    → Reaches g s w steps mid → lines_of steps ≡ k.labels → next g s mid ≡ turn.given (slice_get (item_first o (map GoesOn ts)) n) (λ a. alternative_turn g s a now)
    → StepAgrees g values s [] w
    (after (after (if there_is o && nat_eq n 0 then Gives turned.TakesItem k else task_gone (there_is o) n ts k) (λ what k. turned_so p what piles k)) as_step)
unfolding task_gone
one_done g values s p h k piles w mid now steps None ts n program counted same_taken is st cancels r same turned_is =
    task_goes g values s p k piles w mid now steps (slice_get ts n) st r same (turned_is ∙ ap (λ (a : Option Alternative). turn.given a (λ a. alternative_turn g s a now)) (goes_at ts n))
one_done g values s p h k piles w mid now steps (Some x) ts zero program counted same_taken is st cancels r same turned_is =
    subst (λ (d : Done (Step × List PileView)). StepAgrees g values s [] w d)
    (sym (item_taken_is p s k piles x program.script (ap (λ (n : ℕ). slice_get s.items n) same_taken ∙ is)))
    (item_steps g values s p k piles w mid now steps x program counted is st (λ number e. cancels x number refl e) r same turned_is)
one_done g values s p h k piles w mid now steps (Some x) ts (suc n) program counted same_taken is st cancels r same turned_is =
    subst (λ (d : Done Turned). StepAgrees g values s [] w (after (after d (λ what k. turned_so p what piles k)) as_step))
    (sym (if_false (nat_eq (suc n) 0) (Gives turned.TakesItem k) (task_gone true (suc n) ts k) (ne_eqb (suc n) 0 (λ e. omega (arith, e)))
    ∙ ap (λ (m : ℕ). given (slice_get ts m) (λ t. kept_turns.gone t k)) (one_off n)))
    (task_goes g values s p k piles w mid now steps (slice_get ts n) st r same (turned_is ∙ ap (λ (a : Option Alternative). turn.given a (λ a. alternative_turn g s a now)) (goes_at ts n)))
  where
    one_off : (n : ℕ) → suc n - 1 ≡ n
    one_off n = omega arith

-- What is kept behind a choice stands for the machine's world behind it.
abbrev picked_to : ℕ → Held → Held
picked_to count h = record h { picks = picks.left count h.picks; labels = h.labels ++ line.Choose count (picks.picked count h.picks) ∷ [] }

choice_is : (count : ℕ) (h : Held) → 1 < count → choice count h ≡ Gives (picks.picked count h.picks) (picked_to count h)
choice_is count h many = if_true (nat_lt 1 count) (Gives (picks.picked count h.picks) (picked_to count h)) (Gives 0 h) (lt-ltb 1 count many)

chosen_is : (b : Bool) (ts : List ℕ) (h : Held) (count : ℕ) → count_of b ts ≡ count → 1 < count
    → turns_by b ts h ≡ (if b && nat_eq (picks.picked count h.picks) 0 then Gives turned.TakesItem (picked_to count h) else task_gone b (picks.picked count h.picks) ts (picked_to count h))
unfolding turns_by taken
chosen_is b ts h count is many =
    ap (λ (n : ℕ). if nat_eq n 0 then Gives turned.Ends h else after (choice n h) (λ number k. if b && nat_eq number 0 then Gives turned.TakesItem k else task_gone b number ts k)) is
    ∙ if_false (nat_eq count 0) _ _ (ne_eqb count 0 (λ e. omega (arith, e, many)))
    ∙ via _ _ _ (λ number k. if b && nat_eq number 0 then Gives turned.TakesItem k else task_gone b number ts k) (choice_is count h many)

-- The machine's turn where no task runs.
free_is : (g : Graph) (s : Script) (w : World) (o : Option Item) (ts : List ℕ) → w.control ≡ Free → slice_get s.items w.taken ≡ o → machine.able g (with_control Free (picked w.picks w)) ≡ ts
    → next g s w ≡ one_of g s (item_first o (map GoesOn ts)) (with_control Free w)
unfolding free_turn
free_is g s w o ts free is are =
    ap (λ (c : Control). next_by g s (with_control Free w) c) free ∙ ap (λ (xs : List Alternative). one_of g s xs (with_control Free w)) (alternatives_are g s w w.picks o ts is are)

-- Several: the machine chooses in a turn of its own.
several : (g : Graph) (values : List ValType) (s : Script) (p : Program) (h : Held) (piles : List PileView) (w : World) (o : Option Item) (ts : List ℕ)
    → IsProgram g s p → h.labels ≡ [] → slice_get s.items w.taken ≡ o → ((used : ℕ) → machine.able g (with_control Free (picked used w)) ≡ ts) → length h.calls ≡ machine.calls_taken s w → CancelRow g values s h (stacks_at piles) w
    → Stands g values s h (stacks_at piles) w → 1 < count_of (there_is o) ts
    → next g s w ≡ chosen s (length (item_first o (map GoesOn ts))) Chosen (with_control Free w)
    → StepAgrees g values s [] w (after (after (turns_by (there_is o) ts h) (λ what k. turned_so p what piles k)) as_step)
unfolding chosen chosen_turn
several g values s p h piles w o ts program empty is are counted cancels st many turned_is =
    let count : ℕ = length (item_first o (map GoesOn ts)) in
    let same_count : count_of (there_is o) ts ≡ count = sym (alternatives_count o ts) in
    let more : 1 < count = subst (λ (n : ℕ). 1 < n) same_count many in
    let number : ℕ = drawn_answer count (picks_of s w) in
    let used : ℕ = (drawn count (picks_of s w)).used in
    let k : Held = picked_to count h in
    let mid : World = with_control (Chosen number) (picked used w) in
    let now : World = with_control Free (picked used w) in
    let same : picks.picked count h.picks ≡ number = picks_are_alike g values s h (stacks_at piles) w count st in
    let k_st : Stands g values s k (stacks_at piles) now = picks_are_used g values s h (stacks_at piles) w count st in
    let told : line.Choose count number ∷ [] ≡ k.labels =
    ap (λ (n : ℕ). line.Choose count n ∷ []) (sym same) ∙ ap (λ (ls : List Label). ls ++ line.Choose count (picks.picked count h.picks) ∷ []) (sym empty) in
    subst (λ (d : Done Turned). StepAgrees g values s [] w (after (after d (λ what k. turned_so p what piles k)) as_step))
    (sym (chosen_is (there_is o) ts h count same_count more))
    (subst (λ (n : ℕ). StepAgrees g values s [] w (after (after (if there_is o && nat_eq n 0 then Gives turned.TakesItem k else task_gone (there_is o) n ts k) (λ what k. turned_so p what piles k))
    as_step))
    (sym same)
    (one_done g values s p h k piles w mid now ((line.Choose count number ∷ []) ∷ []) o ts number program counted st.as_taken is k_st
    (λ x n found cancel. cancels n (picks.left count h.picks) k.labels used (is ∙ found ∙ ap (λ (y : Item). Some y) cancel) k_st)
    (mid, turned_is, refl) (append-nil (line.Choose count number ∷ []) ∙ told)
    (ap (λ (xs : List Alternative). turn.given (slice_get xs number) (λ a. alternative_turn g s a now)) (alternatives_are g s w used o ts is (are used)))))

-- A turn, by the alternatives.
by_alternatives : (g : Graph) (values : List ValType) (s : Script) (p : Program) (h : Held) (piles : List PileView) (w : World) (o : Option Item) (ts : List ℕ)
    → IsProgram g s p → h.labels ≡ [] → w.control ≡ Free → slice_get s.items w.taken ≡ o → ((used : ℕ) → machine.able g (with_control Free (picked used w)) ≡ ts) → h.live ≡ unfinished w → length h.calls ≡ machine.calls_taken s w
    → CancelRow g values s h (stacks_at piles) w → Stands g values s h (stacks_at piles) w
    → StepAgrees g values s [] w (after (after (turns_by (there_is o) ts h) (λ what k. turned_so p what piles k)) as_step)
unfolding turns_by taken one_of
by_alternatives g values s p h piles w None [] program empty free is are unfinished_are counted cancels st = record {
  steps = [];
  world = w;
  reached = refl;
  same_lines = empty;
  is_next = free_is g s w None [] free is (are w.picks) ∙ ap (λ (xs : List ℕ). Ends (end_by xs)) (sym unfinished_are);
  stacks = stacks_at piles;
  stands = st;
}
by_alternatives g values s p h piles w None (t ∷ []) program empty free is are unfinished_are counted cancels st =
    one_done g values s p h h piles w w (with_control Free w) [] None (t ∷ []) 0 program counted st.as_taken is st
    (λ x n found cancel. cancels n h.picks h.labels w.picks (is ∙ found ∙ ap (λ (y : Item). Some y) cancel) st) refl (sym empty) (free_is g s w None (t ∷ []) free is (are w.picks))
by_alternatives g values s p h piles w (Some x) [] program empty free is are unfinished_are counted cancels st =
    one_done g values s p h h piles w w (with_control Free w) [] (Some x) [] 0 program counted st.as_taken is st
    (λ y n found cancel. cancels n h.picks h.labels w.picks (is ∙ found ∙ ap (λ (y : Item). Some y) cancel) st) refl (sym empty) (free_is g s w (Some x) [] free is (are w.picks))
by_alternatives g values s p h piles w None (t ∷ u ∷ ts) program empty free is are unfinished_are counted cancels st =
    several g values s p h piles w None (t ∷ u ∷ ts) program empty is are counted cancels st (omega arith) (free_is g s w None (t ∷ u ∷ ts) free is (are w.picks))
by_alternatives g values s p h piles w (Some x) (t ∷ ts) program empty free is are unfinished_are counted cancels st =
    several g values s p h piles w (Some x) (t ∷ ts) program empty is are counted cancels st (omega arith) (free_is g s w (Some x) (t ∷ ts) free is (are w.picks))

pub turns_agree : TurnsAgree
unfolding turns
turns_agree g values s p h piles w program empty free kept cancels st =
    subst (λ (d : Done (Step × List PileView)). StepAgrees g values s [] w d)
    (sym (ap (λ (b : Bool). after (after (turns_by b (able (seen p.graph.now) h) h) (λ what k. turned_so p what piles k)) as_step)
    (has_is s p h w.taken (slice_get s.items w.taken) program.script st.as_taken refl)
    ∙ ap (λ (graph : Graph). after (after (turns_by (there_is (slice_get s.items w.taken)) (able (seen graph) h) h) (λ what k. turned_so p what piles k)) as_step) program.graph))
    (by_alternatives g values s p h piles w (slice_get s.items w.taken) (able (seen g) h) program empty free refl (λ used. sym (kept.able_tasks used)) kept.open_tasks kept.calls cancels st)
