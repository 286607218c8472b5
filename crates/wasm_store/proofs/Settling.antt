-- Moves that cost nothing end: each takes a label from the frame that runs, or that frame from the stack.
use Rattle.std.proofs.Common.{◌≡◌, ◌≢◌, ℕ, suc, false, List, [], ◌∷◌, refl, ap, sym, ◌∙◌, subst, arith, Option, Some, None}
use Rattle.std.specs.List.{slice_get}
use Rattle.syntax_trees.specs.Expr.{Expr}
use Rattle.wasm_store.specs.Store.{Instance, Store}
use Rattle.wasm_store.specs.Stack.{Label, Frame, Stack, Running, AtHost, Given}
use Rattle.wasm_store.specs.Step.{Move, Goes, Calls, Ends, Stuck, with_more, returned, ended, move_at, move_in, next, Moves}
use Rattle.wasm_store.specs.Laws.{FreeMovesEnd}
use Rattle.wasm_store.proofs.Onward.{Onward, AtEnd, GoesOnward, what_is_left}

-- Finitely many free moves lead to a stack whose next move isn't free.
abbrev Settles : Store → Stack → Type 0
Settles s k = (count : ℕ) × (l : Stack) × Moves count 0 s k s l × ((t : Store) (m : Stack) → next s l ≢ Goes false t m)

-- a move that isn't free
abbrev NotFree : Move → Type 0
NotFree m = (t : Store) (l : Stack) → m ≢ Goes false t l

onward_not_free : (fs : List Frame) (m : Move) → Onward fs m → NotFree m
onward_not_free fs m h = λ t l q. (let none : Onward fs (Goes false t l) = subst (Onward fs) q h in none)

is_settled : (s : Store) (k : Stack) (m : Move) → next s k ≡ m → NotFree m → Settles s k
is_settled s k m e h = (0, k, (refl, refl, refl), subst NotFree (sym e) h)

settles_later : (s : Store) (k l : Stack) → next s k ≡ Goes false s l → Settles s l → Settles s k
settles_later s k l e (count, m, moves, h) = (suc count, m, (false, 0, s, l, e, omega arith, moves), h)

-- a frame that is at its end, by its labels and the frames of its callers
ended_settles : (s : Store) (f : Frame) (fs : List Frame) (ls : List Label) → next s (Running f fs) ≡ ended ls s f fs → ((g : Frame) (gs : List Frame) → fs ≡ g ∷ gs → Settles s (Running (with_more f.values g) gs)) → ((l : Label) (others : List Label) → ls ≡ l ∷ others → Settles s (Running (record f { rest = l.after; labels = others }) fs)) → Settles s (Running f fs)
ended_settles s f [] [] e returns ends = is_settled s (Running f []) (returned s f []) e (λ t l q. cc)
ended_settles s f (g ∷ fs) [] e returns ends = settles_later s (Running f (g ∷ fs)) (Running (with_more f.values g) fs) e (returns g fs refl)
ended_settles s f fs (l ∷ ls) e returns ends = settles_later s (Running f fs) (Running (record f { rest = l.after; labels = ls }) fs) e (ends l ls refl)

-- a frame of an instance, by what is left
rest_settles : (s : Store) (f : Frame) (fs : List Frame) (i : Instance) → next s (Running f fs) ≡ move_at f.rest i s f fs → ((g : Frame) (gs : List Frame) → fs ≡ g ∷ gs → Settles s (Running (with_more f.values g) gs)) → ((l : Label) (others : List Label) → f.labels ≡ l ∷ others → Settles s (Running (record f { rest = l.after; labels = others }) fs)) → Settles s (Running f fs)
rest_settles s f fs i e returns ends = elim (what_is_left f.rest) [
  | AtEnd h ↦ ended_settles s f fs f.labels (e ∙ ap (λ (e : Expr). move_at e i s f fs) h) returns ends
  | GoesOnward h ↦ is_settled s (Running f fs) (move_at f.rest i s f fs) e (onward_not_free fs (move_at f.rest i s f fs) (h i s f fs))
]

frame_settles : (s : Store) (f : Frame) (fs : List Frame) → ((g : Frame) (gs : List Frame) → fs ≡ g ∷ gs → Settles s (Running (with_more f.values g) gs)) → ((l : Label) (others : List Label) → f.labels ≡ l ∷ others → Settles s (Running (record f { rest = l.after; labels = others }) fs)) → Settles s (Running f fs)
frame_settles s f fs returns ends = by (slice_get s.instances f.instance) refl
  where
    by : (o : Option Instance) → slice_get s.instances f.instance ≡ o → Settles s (Running f fs)
    by None e = is_settled s (Running f fs) Stuck (ap (λ (o : Option Instance). move_in o s f fs) e) (λ t l q. cc)
    by (Some i) e = rest_settles s f fs i (ap (λ (o : Option Instance). move_in o s f fs) e) returns ends

-- by the labels of the frame that runs, where its callers' frames settle
labels_settle : (s : Store) (fs : List Frame) → ((vs : List ℕ) (g : Frame) (gs : List Frame) → fs ≡ g ∷ gs → Settles s (Running (with_more vs g) gs)) → (ls : List Label) (f : Frame) → f.labels ≡ ls → Settles s (Running f fs)
labels_settle s fs below [] f e = frame_settles s f fs (below f.values) (λ l others q. cc)
labels_settle s fs below (l ∷ ls) f e =
    frame_settles s f fs (below f.values) (λ m others q. (let same : others ≡ ls = cc in labels_settle s fs below ls (record f { rest = m.after; labels = others }) same))

-- by the frames of its callers
frames_settle : (s : Store) (fs : List Frame) (f : Frame) → Settles s (Running f fs)
frames_settle s [] f = labels_settle s [] (λ vs g gs q. cc) f.labels f refl
frames_settle s (h ∷ hs) f =
    labels_settle s (h ∷ hs) (λ vs g gs q. (let same : hs ≡ gs = cc in subst (λ (gs : List Frame). Settles s (Running (with_more vs g) gs)) same (frames_settle s hs (with_more vs g)))) f.labels f refl

pub free_moves_end : FreeMovesEnd
free_moves_end s (Running f fs) = frames_settle s fs f
free_moves_end s (AtHost address words) = is_settled s (AtHost address words) (Calls address words (Given [])) refl (λ t l q. cc)
free_moves_end s (Given words) = is_settled s (Given words) (Ends words) refl (λ t l q. cc)
