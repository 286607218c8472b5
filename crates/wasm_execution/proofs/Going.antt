-- What instructions of blocks and branches make of a frame, as moves.
use Rattle.std.proofs.Common.{◌≡◌, ◌≢◌, ◌⊎◌, ℕ, zero, suc, true, inl, inr, List, ◌∷◌, length, drop, refl, ap, ap₂, sym, ◌∙◌, Option, Some, None}
use Rattle.std.specs.List.{slice_get}
use Rattle.syntax_trees.specs.declared.instr.BlockType.{BlockType}
use Rattle.syntax_trees.specs.declared.instr.Instr.TheVariants as instr
use Rattle.syntax_trees.specs.Expr.{Expr, End, Plain, Block, Loop, If, IfElse}
use Rattle.wasm_typing.specs.Context.{params, results}
use Rattle.wasm_store.specs.Store.{Instance, Store}
use Rattle.wasm_store.specs.Stack.{Label, Frame, Running}
use Rattle.wasm_store.specs.Step.{Move, Goes, onward, landed, branched, branched_to, branched_if, branched_by, table_label, returning, chosen, move_at, move_in, next}
use Rattle.wasm_execution.specs.Shape.{rest_behind, first_part, second_part, label_over, within}
use Rattle.wasm_execution.specs.Stepping.{Onward, OnwardAlone}
use Rattle.wasm_execution.proofs.Popping.{Popped}

-- the move of a frame, by its instance and by what is left of it
pub next_at : (s : Store) (f : Frame) (fs : List Frame) (i : Instance) (e : Expr) → slice_get s.instances f.instance ≡ Some i → f.rest ≡ e → next s (Running f fs) ≡ move_at e i s f fs
next_at s f fs i e there is = ap (λ (o : Option Instance). move_in o s f fs) there ∙ ap (λ (e : Expr). move_at e i s f fs) is

-- Branches.

landed_same : (again : Option Expr) (depth : ℕ) (l : Label) (vs us : List ℕ) (f : Frame) (r : Expr) → landed again depth l vs (record f { rest = r }) ≡ landed again depth l vs (record f { values = us })
landed_same None depth l vs us f r = refl
landed_same (Some body) depth l vs us f r = refl

branched_goes : (s : Store) (f g : Frame) (fs : List Frame) (depth : ℕ) (l : Label) (vs us : List ℕ) (r : Expr) → slice_get f.labels depth ≡ Some l → g ≡ landed l.again depth l vs (record f { values = us }) → branched depth vs s (record f { rest = r }) fs ≡ Goes true s (Running g fs)
branched_goes s f g fs depth l vs us r found is =
    ap (λ (o : Option Label). branched_to o depth vs s (record f { rest = r }) fs) found
    ∙ ap (λ (g : Frame). onward s g fs) (landed_same l.again depth l vs us f r ∙ sym is)

pub br_goes : (f g : Frame) (depth : ℕ) (r : Expr) (l : Label) → f.rest ≡ Plain (instr.Br depth) r → slice_get f.labels depth ≡ Some l → g ≡ landed l.again depth l f.values f → OnwardAlone f g
br_goes f g depth r l e found is s i there fs =
    next_at s f fs i (Plain (instr.Br depth) r) there e ∙ branched_goes s f g fs depth l f.values f.values r found is

pub not_taken : (f g : Frame) (depth n : ℕ) (r : Expr) (vs : List ℕ) → f.rest ≡ Plain (instr.BrIf depth) r → n ≡ 0 → f.values ≡ n ∷ vs → g ≡ record f { values = vs; rest = r } → OnwardAlone f g
not_taken f g depth zero r vs e z v is s i there fs =
    next_at s f fs i (Plain (instr.BrIf depth) r) there e
    ∙ ap (λ (us : List ℕ). branched_if depth us s (record f { rest = r }) fs) v ∙ ap (λ (g : Frame). onward s g fs) (sym is)
not_taken f g depth (suc n) r vs e z v is s i there fs = cc

pub taken : (f g : Frame) (depth n : ℕ) (r : Expr) (vs : List ℕ) (l : Label) → f.rest ≡ Plain (instr.BrIf depth) r → n ≢ 0 → f.values ≡ n ∷ vs → slice_get f.labels depth ≡ Some l → g ≡ landed l.again depth l vs (record f { values = vs }) → OnwardAlone f g
taken f g depth zero r vs l e z v found is s i there fs = absurd (z refl)
taken f g depth (suc n) r vs l e z v found is s i there fs =
    next_at s f fs i (Plain (instr.BrIf depth) r) there e
    ∙ ap (λ (us : List ℕ). branched_if depth us s (record f { rest = r }) fs) v ∙ branched_goes s f g fs depth l vs vs r found is

pub table_taken : (f g : Frame) (others : List ℕ) (last n : ℕ) (r : Expr) (vs : List ℕ) (l : Label) → f.rest ≡ Plain (instr.BrTable others last) r → f.values ≡ n ∷ vs → slice_get f.labels (table_label (slice_get others n) last) ≡ Some l → g ≡ landed l.again (table_label (slice_get others n) last) l vs (record f { values = vs }) → OnwardAlone f g
table_taken f g others last n r vs l e v found is s i there fs =
    next_at s f fs i (Plain (instr.BrTable others last) r) there e
    ∙ ap (λ (us : List ℕ). branched_by others last us s (record f { rest = r }) fs) v ∙ branched_goes s f g fs (table_label (slice_get others n) last) l vs vs r found is

pub returns_goes : (f g : Frame) (r : Expr) → f.rest ≡ Plain instr.Return r → g ≡ returning f → OnwardAlone f g
returns_goes f g r e is s i there fs =
    next_at s f fs i (Plain instr.Return r) there e ∙ ap (λ (g : Frame). onward s g fs) (sym is)

-- Blocks.

inside_goes : (s : Store) (f : Frame) (fs : List Frame) (vs : List ℕ) (arity arity₂ params params₂ : ℕ) (again again₂ : Option Expr) (after after₂ inside inside₂ : Expr) → arity ≡ arity₂ → params ≡ params₂ → again ≡ again₂ → after ≡ after₂ → inside ≡ inside₂ → onward s (record f { values = vs; rest = inside; labels = record { arity = arity; under = drop params vs; again = again; after = after } ∷ f.labels }) fs ≡ onward s (record f { values = vs; rest = inside₂; labels = record { arity = arity₂; under = drop params₂ vs; again = again₂; after = after₂ } ∷ f.labels }) fs
inside_goes s f fs vs arity arity₂ params params₂ again again₂ after after₂ inside inside₂ a p o e b =
    let F : ℕ → ℕ → Option Expr → Expr → Expr → Move = λ arity params again after inside. onward s (record f { values = vs; rest = inside; labels = record { arity = arity; under = drop params vs; again = again; after = after } ∷ f.labels }) fs in
    ap₂ (λ (x : ℕ) (y : ℕ). F x y again after inside) a p ∙ ap₂ (λ (x : Option Expr) (y : Expr). F arity₂ params₂ x y inside) o e ∙ ap (λ (x : Expr). F arity₂ params₂ again₂ after₂ x) b

pub block_goes : (s : Store) (f g : Frame) (i : Instance) (t : BlockType) (b r : Expr) (p q : ℕ) → slice_get s.instances f.instance ≡ Some i → f.rest ≡ Block t b r → p ≡ length (params i.types t) → q ≡ length (results i.types t) → g ≡ within (label_over q p None f) (first_part f.rest) f → Onward s f s g
block_goes s f g i t b r p q there e p_is q_is is fs =
    next_at s f fs i (Block t b r) there e
    ∙ inside_goes s f fs f.values (length (results i.types t)) q (length (params i.types t)) p None None r (rest_behind f.rest) b (first_part f.rest) (sym q_is) (sym p_is) refl (ap rest_behind (sym e)) (ap first_part (sym e))
    ∙ ap (λ (g : Frame). onward s g fs) (sym is)

pub loop_goes : (s : Store) (f g : Frame) (i : Instance) (t : BlockType) (b r : Expr) (p : ℕ) → slice_get s.instances f.instance ≡ Some i → f.rest ≡ Loop t b r → p ≡ length (params i.types t) → g ≡ within (label_over p p (Some (first_part f.rest)) f) (first_part f.rest) f → Onward s f s g
loop_goes s f g i t b r p there e p_is is fs =
    next_at s f fs i (Loop t b r) there e
    ∙ inside_goes s f fs f.values (length (params i.types t)) p (length (params i.types t)) p (Some b) (Some (first_part f.rest)) r (rest_behind f.rest) b (first_part f.rest) (sym p_is) (sym p_is) (ap (λ (e : Expr). (let o : Option Expr = Some (first_part e) in o)) (sym e)) (ap rest_behind (sym e)) (ap first_part (sym e))
    ∙ ap (λ (g : Frame). onward s g fs) (sym is)

-- The same once the operand is taken.

pub popped_not_taken : (f p g : Frame) (depth n : ℕ) (r : Expr) → Popped f p n → f.rest ≡ Plain (instr.BrIf depth) r → n ≡ 0 → g ≡ record p { rest = rest_behind p.rest } → OnwardAlone f g
popped_not_taken f p g depth n r k e z new =
    let rest : p.rest ≡ Plain (instr.BrIf depth) r = ap (λ (p : Frame). p.rest) k.frame ∙ e in
    not_taken f g depth n r p.values e z k.value
    (new ∙ ap (λ (e : Expr). (let h : Frame = record p { rest = rest_behind e } in h)) rest ∙ ap (λ (q : Frame). (let h : Frame = record q { rest = r } in h)) k.frame)

pub popped_taken : (f p g : Frame) (depth n : ℕ) (r : Expr) (l : Label) → Popped f p n → f.rest ≡ Plain (instr.BrIf depth) r → n ≢ 0 → slice_get p.labels depth ≡ Some l → g ≡ landed l.again depth l p.values p → OnwardAlone f g
popped_taken f p g depth n r l k e z found new =
    taken f g depth n r p.values l e z k.value (ap (λ (p : Frame). slice_get p.labels depth) (sym k.frame) ∙ found) (new ∙ ap (landed l.again depth l p.values) k.frame)

pub popped_table : (f p g : Frame) (others : List ℕ) (last n depth : ℕ) (r : Expr) (l : Label) → Popped f p n → p.rest ≡ Plain (instr.BrTable others last) r → depth ≡ table_label (slice_get others n) last → slice_get p.labels depth ≡ Some l → g ≡ landed l.again depth l p.values p → OnwardAlone f g
popped_table f p g others last n depth r l k e is found new =
    table_taken f g others last n r p.values l (sym (ap (λ (p : Frame). p.rest) k.frame) ∙ e) k.value
    (ap (λ (d : ℕ). slice_get f.labels d) (sym is) ∙ ap (λ (p : Frame). slice_get p.labels depth) (sym k.frame) ∙ found)
    (new ∙ ap (landed l.again depth l p.values) k.frame ∙ ap (λ (d : ℕ). landed l.again d l p.values (record f { values = p.values })) is)

-- Both forms of `if`: where the operand is 0 the second part, else the first one.

within_popped : (s : Store) (f p g : Frame) (fs : List Frame) (part : Expr → Expr) (q k : ℕ) → p ≡ record f { values = p.values } → g ≡ within (label_over k q None p) (part p.rest) p → onward s (record f { values = p.values; rest = part f.rest; labels = record { arity = k; under = drop q p.values; again = None; after = rest_behind f.rest } ∷ f.labels }) fs ≡ onward s g fs
within_popped s f p g fs part q k pop new =
    ap (λ (p : Frame). onward s (within (label_over k q None p) (part p.rest) p) fs) (sym pop) ∙ ap (λ (g : Frame). onward s g fs) (sym new)

pub if_second : (s : Store) (f p g : Frame) (i : Instance) (t : BlockType) (first second r : Expr) (n q k : ℕ) → Popped f p n → n ≡ 0 → ((fs : List Frame) → next s (Running f fs) ≡ chosen t first second r f.values i s f fs) → second_part f.rest ≡ second → rest_behind f.rest ≡ r → q ≡ length (params i.types t) → k ≡ length (results i.types t) → g ≡ within (label_over k q None p) (second_part p.rest) p → Onward s f s g
if_second s f p g i t first second r zero q k pop z moves part behind q_is k_is new fs =
    moves fs ∙ ap (λ (us : List ℕ). chosen t first second r us i s f fs) pop.value
    ∙ inside_goes s f fs p.values (length (results i.types t)) k (length (params i.types t)) q None None r (rest_behind f.rest) second (second_part f.rest) (sym k_is) (sym q_is) refl (sym behind) (sym part)
    ∙ within_popped s f p g fs second_part q k pop.frame new
if_second s f p g i t first second r (suc n) q k pop z moves part behind q_is k_is new fs = cc

pub if_first : (s : Store) (f p g : Frame) (i : Instance) (t : BlockType) (first second r : Expr) (n q k : ℕ) → Popped f p n → n ≢ 0 → ((fs : List Frame) → next s (Running f fs) ≡ chosen t first second r f.values i s f fs) → first_part f.rest ≡ first → rest_behind f.rest ≡ r → q ≡ length (params i.types t) → k ≡ length (results i.types t) → g ≡ within (label_over k q None p) (first_part p.rest) p → Onward s f s g
if_first s f p g i t first second r zero q k pop z moves part behind q_is k_is new fs = absurd (z refl)
if_first s f p g i t first second r (suc n) q k pop z moves part behind q_is k_is new fs =
    moves fs ∙ ap (λ (us : List ℕ). chosen t first second r us i s f fs) pop.value
    ∙ inside_goes s f fs p.values (length (results i.types t)) k (length (params i.types t)) q None None r (rest_behind f.rest) first (first_part f.rest) (sym k_is) (sym q_is) refl (sym behind) (sym part)
    ∙ within_popped s f p g fs first_part q k pop.frame new

-- Of an `if` with a second part or without one, by what begins there.
pub record IsIf (f : Frame) (t : BlockType) : Type 0 where
  pub first : Expr
  pub second : Expr
  pub rest : Expr
  pub moves : (s : Store) (i : Instance) (fs : List Frame) → slice_get s.instances f.instance ≡ Some i → next s (Running f fs) ≡ chosen t first second rest f.values i s f fs
  pub one : first_part f.rest ≡ first
  pub two : second_part f.rest ≡ second
  pub behind : rest_behind f.rest ≡ rest

pub if_there : (f : Frame) (t : BlockType) (a r : Expr) → f.rest ≡ If t a r → IsIf f t
if_there f t a r e = record {
  first = a;
  second = End;
  rest = r;
  moves = λ s i fs there. next_at s f fs i (If t a r) there e;
  one = ap first_part e;
  two = ap second_part e;
  behind = ap rest_behind e;
}

pub if_else_there : (f : Frame) (t : BlockType) (a b r : Expr) → f.rest ≡ IfElse t a b r → IsIf f t
if_else_there f t a b r e = record {
  first = a;
  second = b;
  rest = r;
  moves = λ s i fs there. next_at s f fs i (IfElse t a b r) there e;
  one = ap first_part e;
  two = ap second_part e;
  behind = ap rest_behind e;
}

pub if_either : (f : Frame) (t : BlockType) → ((a : Expr) × (r : Expr) × (f.rest ≡ If t a r)) ⊎ ((a : Expr) × (b : Expr) × (r : Expr) × (f.rest ≡ IfElse t a b r)) → IsIf f t
if_either f t (inl k) = if_there f t k.0 k.1 k.2
if_either f t (inr k) = if_else_there f t k.0 k.1 k.2 k.3

pub if_taken_second : (s : Store) (f p g : Frame) (i : Instance) (t : BlockType) (n q k : ℕ) → IsIf f t → slice_get s.instances f.instance ≡ Some i → Popped f p n → n ≡ 0 → q ≡ length (params i.types t) → k ≡ length (results i.types t) → g ≡ within (label_over k q None p) (second_part p.rest) p → Onward s f s g
if_taken_second s f p g i t n q k is there pop z q_is k_is new =
    if_second s f p g i t is.first is.second is.rest n q k pop z (λ fs. is.moves s i fs there) is.two is.behind q_is k_is new

pub if_taken_first : (s : Store) (f p g : Frame) (i : Instance) (t : BlockType) (n q k : ℕ) → IsIf f t → slice_get s.instances f.instance ≡ Some i → Popped f p n → n ≢ 0 → q ≡ length (params i.types t) → k ≡ length (results i.types t) → g ≡ within (label_over k q None p) (first_part p.rest) p → Onward s f s g
if_taken_first s f p g i t n q k is there pop z q_is k_is new =
    if_first s f p g i t is.first is.second is.rest n q k pop z (λ fs. is.moves s i fs there) is.one is.behind q_is k_is new
