-- Values that are lowered: memories and core instances stay as they are kept.
use Rattle.std.proofs.Common.{◌≡◌, ◌∙◌, inl, inr, ℕ, zero, suc, List, [], ◌∷◌, refl, sym, ap, subst, Option, Some, None}
use Rattle.std.specs.Prelude.{length, Ok}
use Rattle.std.specs.List.{slice_get}
use Rattle.syntax_trees.specs.declared.types.ValType.{ValType}
use Rattle.syntax_trees.specs.declared.value.Value.{Value}
use Rattle.syntax_trees.specs.Fits.{fits}
use Rattle.laid_types.specs.Known.{Numbered}
use Rattle.value_lower.specs.Plan.{Ask, Plan, Gives as Given, Fails, Asks, Size, Put, Adds}
use Rattle.value_lower.specs.Following as follow
use Rattle.value_lower.specs.Following.{Follows, written}
use Rattle.value_lower.specs.Tables.{IsEntry}
use Rattle.wasm_memory.specs.Memories.{MemoryState}
use Rattle.wasm_store.specs.Store.{Function, Store}
use Rattle.wasm_execution.specs.declared.running.Outcome.TheVariants as outcome
use Rattle.comp_graph.specs.Graph.{Graph}
use Rattle.copy_engine.specs.declared.acts.Acts.{Acts}
use Rattle.copy_engine.specs.declared.answering.CallRefusal.{CallRefusal}
use Rattle.copy_engine.specs.declared.answering.CallRefusal.TheVariants as refusal
use Rattle.copy_engine.specs.declared.hosted.HostedRoom.{HostedRoom}
use Rattle.copy_engine.specs.declared.hosted.HostedTrap.{HostedTrap}
use Rattle.copy_engine.specs.declared.hosted.HostedTrap.TheVariants as hosted
use Rattle.copy_engine.specs.declared.lower_values.Lowered.{Lowered}
use Rattle.copy_engine.specs.declared.lower_values.Lowered.TheVariants as lowered
use Rattle.copy_engine.specs.declared.lower_values.Target.{Target}
use Rattle.copy_engine.specs.Answering.{Setting}
use Rattle.copy_engine.specs.Copying.{all_fit}
use Rattle.copy_engine.specs.Nested.{bytes_in, rewritten_at, with_bytes_in, realloc_in}
use Rattle.copy_engine.specs.Hosting.{Point, GoOn, GoesFurther, AnswersBy}
use Rattle.copy_engine.specs.Hosted.{Placed, hosted_rooms, put_at, as_plan, plan_to, plan_all}
use Rattle.res_handles.specs.declared.entry.EntryView.{EntryView}
use Rattle.instances.specs.declared.entry.WorldEntry.{WorldEntry}
use Rattle.instances.specs.Entries.{seen_as, of_handle, of_end}
use Rattle.programs.specs.declared.program.Program.{Program}
use Rattle.world_parts.specs.Held.{Held, Done, Gives, Traps, Spent, Stuck, after}
use Rattle.world_parts.specs.Slots.{context_set}
use Rattle.value_moves.specs.declared.lowering.Destination.{Destination}
use Rattle.value_moves.specs.Lowering.{Site, site_found, all_told, call_refused, code_trapped, lowered_by, finished, setting_in, begun_at, left_at, LowersAt, LowersInto, LowersAll}
use Rattle.run_laws.proofs.keeping.still.Still.{no_kinds, StillBy, still_behind, still_bare, bare_ends}
use Rattle.run_laws.proofs.keeping.still.Coming.{comes_still}
use Rattle.run_laws.proofs.keeping.still.Modules.{run_keeps}
use Rattle.run_laws.proofs.keeping.still.Sites.{site_found_still, finished_still}

-- Code that gives out places leaves core instances as they are.
module _ (to : Setting) (seen : ℕ → Option EntryView) where
  one_goes : (a b : Point) → GoesFurther to seen a b → b.room.store.instances ≡ a.room.store.instances
  one_goes a b (number, words, w, runs, goes) = run_keeps a.room.store a.stack a.room.fuel (outcome.Calls number words w) b.room.store b.room.fuel runs

  all_go : (count : ℕ) (a b : Point) → GoOn to seen count a b → b.room.store.instances ≡ a.room.store.instances
  all_go zero a b is = ap (λ (x : Point). x.room.store.instances) is
  all_go (suc count) a b (mid, steps, goes) = one_goes mid b goes ∙ all_go count a mid steps

  answered_by : (o : Option (ℕ × Function)) (r : HostedRoom) (ask : Ask) (place : ℕ) (s : HostedRoom) → AnswersBy to seen o r ask (Ok place) s → s.store.instances ≡ r.store.instances
  answered_by None r ask place s (is, same) = ap (λ (x : HostedRoom). x.store.instances) same
  answered_by (Some f) r ask place s (mid, gone, (runs, acts)) =
      run_keeps mid.room.store mid.stack mid.room.fuel (outcome.Done (place ∷ [])) s.store s.fuel runs ∙ all_go gone.count _ mid gone.calls

-- Bytes that are put do.
rewritten_keeps : (address : ℕ) (bytes : List ℕ) (o : Option MemoryState) (s : Store) → (rewritten_at address bytes o s).instances ≡ s.instances
rewritten_keeps address bytes None s = refl
rewritten_keeps address bytes (Some m) s = refl

put_keeps : (address place : ℕ) (bytes : List ℕ) (s : Store) → (with_bytes_in address (written place bytes (bytes_in address s)) s).instances ≡ s.instances
put_keeps address place bytes s = rewritten_keeps address (written place bytes (bytes_in address s)) (slice_get s.memories address) s

-- So does a plan that comes to its words.
module _ (task : ℕ) (types : List ValType) (to : Setting) where
  abbrev rooms : follow.Rooms (Placed WorldEntry) HostedTrap
  rooms = hosted_rooms seen_as (IsEntry of_handle of_end task types) to

  abbrev Same : Placed WorldEntry → Placed WorldEntry → Type 0
  Same p q = q.room.store.instances ≡ p.room.store.instances

  as_room : (p q : Placed WorldEntry) (r : HostedRoom) → q.room ≡ r → r.store.instances ≡ p.room.store.instances → Same p q
  as_room p q r is same = ap (λ (x : HostedRoom). x.store.instances) is ∙ same

  plan_keeps : (plan : Plan) (p q : Placed WorldEntry) (words : List ℕ) → Follows rooms plan p (follow.Words words) q → Same p q
  plan_keeps (Given ws) p q words (is, left) = ap (λ (x : Placed WorldEntry). x.room.store.instances) left
  plan_keeps (Fails why) p q words (is, left) = ap (λ (x : Placed WorldEntry). x.room.store.instances) left
  plan_keeps (Asks ask k) p q words (inl (place, mid, ((gives, grows, slots), low, longer), rest)) =
      plan_keeps (k place) mid q words rest ∙ answered_by to _ (realloc_in to.options.realloc p.room.store) p.room ask place mid.room gives
  plan_keeps (Asks ask k) p q words (inr (end, answer, is)) = absurd (cc)
  plan_keeps (Size k) p q words rest = plan_keeps (k (length (bytes_in to.options.memory p.room.store))) p q words rest
  plan_keeps (Put place bytes k) p q words (mid, ((inside, room, slots), memory), rest) =
      plan_keeps k mid q words rest
      ∙ as_room p mid (put_at to.options.memory place bytes p.room) room (put_keeps to.options.memory place bytes p.room.store)
  plan_keeps (Adds n k) p q words (o, mid, ((got, room), memory), rest) = plan_keeps (k o) mid q words rest ∙ as_room p mid p.room room refl

-- Where no words come nothing goes on.
any_after : {A B : Type 0} (h : Held) (d : Done A) (f : A → Held → Done B) → ((x : A) (k : Held) → StillBy no_kinds h (f x k)) → StillBy no_kinds h (after d f)
any_after h (Gives x k) f p = p x k
any_after h (Traps why k) f p = bare_ends h k
any_after h (Spent k) f p = tt
any_after h Stuck f p = tt

abbrev IsOtherEnd : Lowered → Type 0
IsOtherEnd (lowered.Words words) = ⊥
IsOtherEnd (lowered.Failed why) = Unit {0}
IsOtherEnd (lowered.Trapped why) = Unit {0}
IsOtherEnd lowered.NoFuel = Unit {0}

refused_not : (h k : Held) (why : CallRefusal) → StillBy no_kinds h (call_refused why k)
refused_not h k refusal.CannotLeave = bare_ends h k
refused_not h k (refusal.Refused why) = bare_ends h k
refused_not h k refusal.NoRule = tt

trapped_not : (h k : Held) (why : HostedTrap) → StillBy no_kinds h (code_trapped why k)
trapped_not h k (hosted.Core why) = bare_ends h k
trapped_not h k (hosted.Call why) = refused_not h k why
trapped_not h k hosted.NoRealloc = tt

ended_not : (h k : Held) (came : Lowered) → IsOtherEnd came → StillBy no_kinds h (lowered_by came k)
ended_not h k (lowered.Words words) q = absurd q
ended_not h k (lowered.Failed why) q = bare_ends h k
ended_not h k (lowered.Trapped why) q = trapped_not h k why
ended_not h k lowered.NoFuel q = tt

unfinished : (g : Graph) (t : ℕ) (acts : Acts) (came : Lowered) (h k : Held) → IsOtherEnd came → StillBy no_kinds h (finished g t acts came k)
unfolding finished
unfinished g t acts came h k q =
    any_after h (context_set t 0 acts.context.0 k) (λ done l. after (context_set t 1 acts.context.1 l) (λ done m. after (all_told g t acts.calls m) (λ done n. lowered_by came n)))
    (λ done l.
    any_after h (context_set t 1 acts.context.1 l) (λ done m. after (all_told g t acts.calls m) (λ done n. lowered_by came n))
    (λ done m. any_after h (all_told g t acts.calls m) (λ done n. lowered_by came n) (λ done n. ended_not h n came q)))

-- A lowering.
module _ (g : Graph) (to : Destination) (types : List ValType) where
  came_still : (plan : Plan) (s : Site) (h : Held) (came : Lowered) (placed : Placed WorldEntry)
      → Follows (hosted_rooms seen_as (IsEntry of_handle of_end to.task types) (setting_in g to)) plan (begun_at s h) (as_plan came) placed
      → StillBy no_kinds h (finished g to.task placed.room.acts came (left_at to s placed h))
  came_still plan s h (lowered.Words words) placed follows =
      still_behind no_kinds h (left_at to s placed h) (finished g to.task placed.room.acts (lowered.Words words) (left_at to s placed h))
      (still_bare h (left_at to s placed h) refl (plan_keeps to.task types (setting_in g to) plan (begun_at s h) placed words follows))
      (finished_still g to.task placed.room.acts (lowered.Words words) (left_at to s placed h))
  came_still plan s h (lowered.Failed why) placed follows = unfinished g to.task placed.room.acts (lowered.Failed why) h (left_at to s placed h) tt
  came_still plan s h (lowered.Trapped why) placed follows = unfinished g to.task placed.room.acts (lowered.Trapped why) h (left_at to s placed h) tt
  came_still plan s h lowered.NoFuel placed follows = unfinished g to.task placed.room.acts lowered.NoFuel h (left_at to s placed h) tt

  lowers_still : (plan : Plan) (s : Site) (h : Held) (d : Done (List ℕ)) → LowersAt g to types plan s h d → StillBy no_kinds h d
  lowers_still plan s h d (came, placed, follows, is) = subst (λ (e : Done (List ℕ)). StillBy no_kinds h e) (sym is) (came_still plan s h came placed follows)

pub lowers_into_still : (p : Program) (to : Destination) (t : Numbered) (v : Value) (target : Target) (h : Held) (d : Done (List ℕ)) → LowersInto p to t v target h d → StillBy no_kinds h d
lowers_into_still p to t v target h d b =
    comes_still no_kinds h (site_found p to (fits v t.val_type) h) (λ site k e. LowersAt p.graph.now to t.types (plan_to target t.val_type v site.resources) site k e) d
    (site_found_still p to (fits v t.val_type) h) (λ site k is. lowers_still p.graph.now to t.types (plan_to target t.val_type v site.resources) site k d is) b

pub lowers_all_still : (p : Program) (to : Destination) (t : Numbered) (values : List Value) (place : ℕ) (h : Held) (d : Done (List ℕ)) → LowersAll p to t values place h d → StillBy no_kinds h d
lowers_all_still p to t values place h d b =
    comes_still no_kinds h (site_found p to (all_fit t.val_type values) h) (λ site k e. LowersAt p.graph.now to t.types (plan_all t.val_type values place site.resources) site k e) d
    (site_found_still p to (all_fit t.val_type values) h) (λ site k is. lowers_still p.graph.now to t.types (plan_all t.val_type values place site.resources) site k d is) b
