-- Instructions that take an operand before they choose: what they find.
use Rattle.std.proofs.Common.{◌≡◌, ◌≤◌, ◌<◌, ◌⊎◌, ℕ, suc, inl, inr, Bool, true, false, nat_lt, List, [], ◌∷◌, ◌++◌, length, reverse, refl, ap, sym, ◌∙◌, subst, arith, Option, Some, None}
use Rattle.std.specs.List.{slice_get, AllByRecursion}
use Rattle.std.specs.Option.{option_map, option_and_then}
use Rattle.std.proofs.lemmas.Bool.Decides.{nat_tests}
use Rattle.std.proofs.lemmas.List.{length-reverse, reverse-append}
use Rattle.syntax_trees.specs.declared.module_types.ValType.{ValType}
use Rattle.syntax_trees.specs.declared.module_types.ValType.TheVariants.{I32}
use Rattle.syntax_trees.specs.declared.module_types.FuncType.{FuncType}
use Rattle.syntax_trees.specs.declared.instr.BlockType.{BlockType}
use Rattle.syntax_trees.specs.declared.instr.Instr.TheVariants as instr
use Rattle.syntax_trees.specs.Expr.{Expr, Plain, Loop, If, IfElse}
use Rattle.wasm_typing.specs.Context.{arrow, params}
use Rattle.wasm_typing.specs.Instrs.{where_there}
use Rattle.wasm_typing.specs.Typing.{Operands, Takes, Turns, GoesTo}
use Rattle.wasm_numbers.specs.Types.{AreWords}
use Rattle.wasm_store.specs.Store.{Function, type_of, Instance, Store, func_at}
use Rattle.wasm_store.specs.Stack.{Label, Frame}
use Rattle.wasm_store.specs.Step.{table_label}
use Rattle.wasm_store.specs.Typed.{known, FrameTyped}
use Rattle.wasm_store.proofs.Lists.{all_at, found_there}
use Rattle.wasm_store.proofs.Operands.{taken_known}
use Rattle.wasm_store.proofs.Framing.{over_taken, over_takes}
use Rattle.wasm_execution.specs.Shape.{HasOver}
use Rattle.wasm_execution.proofs.Ready.{BranchReady, branch_ready, has_over, left_typed}

map_some : {A B : Type 0} (f : A → B) (o : Option A) (y : B) → option_map f o ≡ Some y → (x : A) × (o ≡ Some x) × (f x ≡ y)
map_some f None y h = cc
map_some f (Some x) y h = (x, refl, cc)

then_some : {A B : Type 0} (f : A → Option B) (o : Option A) (y : B) → option_and_then f o ≡ Some y → (x : A) × (o ≡ Some x) × (f x ≡ Some y)
then_some f None y h = cc
then_some f (Some x) y h = (x, refl, h)

there_some : (b : Bool) (t u : FuncType) → where_there b t ≡ Some u → (b ≡ true) × (t ≡ u)
there_some true t u h = (refl, cc)
there_some false t u h = cc

less : (a b : ℕ) → nat_lt a b ≡ true → a < b
less a b h = grind (arith, nat_tests)

-- the owner of a typed frame is the instance that stands there
pub owner_is : (s : Store) (gives : List ValType) (f : Frame) (h : FrameTyped s [] gives f) (i : Instance) → slice_get s.instances f.instance ≡ Some i → h.owner ≡ i
owner_is s gives f h i there = let q : (let o : Option Instance = Some h.owner in o) ≡ Some i = sym h.there ∙ there in cc

has_fewer : (few more : ℕ) (labels : List Label) (vs : List ℕ) → few ≤ more → HasOver more labels vs → HasOver few labels vs
has_fewer few more [] vs l h = omega (arith, l, h)
has_fewer few more (k ∷ ks) vs l h = omega (arith, l, h)

-- without the last value
pub has_under : (count : ℕ) (labels : List Label) (n : ℕ) (vs us : List ℕ) → us ≡ n ∷ vs → HasOver (suc count) labels us → HasOver count labels vs
has_under count [] n vs us e h = let long : length us ≡ suc (length vs) = ap length e in omega (arith, long, h)
has_under count (k ∷ ks) n vs us e h = let long : length us ≡ suc (length vs) = ap length e in omega (arith, long, h)

-- the last operand, an i32, over others of these types
pub record LastOver (s : Store) (gives : List ValType) (f : Frame) (h : FrameTyped s [] gives f) (types : List ValType) : Type 0 where
  pub last : ℕ
  pub front : List ℕ
  pub back : List ℕ
  pub values_are : f.values ≡ last ∷ (front ++ (back ++ h.under))
  pub ahead : AreWords types front

first_word : (types : List ValType) (front : List ℕ) → AreWords (I32 ∷ types) front → (n : ℕ) × (others : List ℕ) × (front ≡ n ∷ others) × AreWords types others
first_word types [] w = absurd w
first_word types (n ∷ front) w = (n, front, refl, w.1)

pub last_over : (s : Store) (gives : List ValType) (f : Frame) (h : FrameTyped s [] gives f) (types : List ValType) (below : Operands) → Takes (I32 ∷ types) (known h.own) below → LastOver s gives f h types
last_over s gives f h types below takes =
    let p = over_takes (I32 ∷ types) h.own h.words f.values h.under below takes h.typed h.values_are in
    let l = first_word types p.front p.ahead in
    record { last = l.0; front = l.1; back = p.back; values_are = p.values_are ∙ ap (λ (ws : List ℕ). ws ++ (p.back ++ h.under)) l.2; ahead = l.3 }

pub last_first : (types : List ValType) → reverse (types ++ I32 ∷ []) ≡ I32 ∷ reverse types
last_first types = reverse-append types (I32 ∷ [])

pub one_over : (s : Store) (gives : List ValType) (f : Frame) (h : FrameTyped s [] gives f) (types : List ValType) (below : Operands) → Takes (I32 ∷ types) (known h.own) below → HasOver 1 f.labels f.values
one_over s gives f h types below takes = has_fewer 1 (suc (length types)) f.labels f.values (omega arith) (has_over s gives f h (I32 ∷ types) below takes)

behind_first : (n m : ℕ) (vs us : List ℕ) → (let l : List ℕ = n ∷ vs in l) ≡ m ∷ us → vs ≡ us
behind_first n m vs us e = cc

-- A branch may go to the label of a depth once the last value is taken.
abbrev pub ReadyBehind : ℕ → Frame → Type 0
ReadyBehind depth f = (n : ℕ) (vs : List ℕ) → f.values ≡ n ∷ vs → BranchReady depth f.labels vs

pub br_if_ready : (s : Store) (gives : List ValType) (f : Frame) (depth : ℕ) (r : Expr) → FrameTyped s [] gives f → f.rest ≡ Plain (instr.BrIf depth) r → HasOver 1 f.labels f.values × ReadyBehind depth f
br_if_ready s gives f depth r h e =
    let typed = left_typed s gives f h (Plain (instr.BrIf depth) r) e in
    let a = typed.1 in
    let m = map_some (λ (types : List ValType). arrow (types ++ I32 ∷ []) types) (slice_get h.types depth) a.0 a.1 in
    let turns : Turns (arrow (m.0 ++ I32 ∷ []) m.0) (known h.own) typed.0 = subst (λ (t : FuncType). Turns t (known h.own) typed.0) (sym m.2) a.2 in
    let takes : Takes (I32 ∷ reverse m.0) (known h.own) turns.0 = subst (λ (ts : List ValType). Takes ts (known h.own) turns.0) (last_first m.0) turns.1 in
    let l = last_over s gives f h (reverse m.0) turns.0 takes in
    (one_over s gives f h (reverse m.0) turns.0 takes, λ n vs v. branch_ready s gives f h depth m.0 vs l.front l.back m.1 l.ahead (behind_first n l.last vs (l.front ++ (l.back ++ h.under)) (sym v ∙ l.values_are)))

table_goes : (labels : List (List ValType)) (taken : Operands) (others : List ℕ) (last n : ℕ) → AllByRecursion (GoesTo labels taken) others → GoesTo labels taken last → GoesTo labels taken (table_label (slice_get others n) last)
table_goes labels taken others last n all one = by (slice_get others n) refl
  where
    by : (o : Option ℕ) → slice_get others n ≡ o → GoesTo labels taken (table_label (slice_get others n) last)
    by None e = subst (λ (o : Option ℕ). GoesTo labels taken (table_label o last)) (sym e) one
    by (Some d) e = subst (λ (o : Option ℕ). GoesTo labels taken (table_label o last)) (sym e) (all_at (GoesTo labels taken) others n d all e)

pub br_table_ready : (s : Store) (gives : List ValType) (f : Frame) (others : List ℕ) (last : ℕ) (r : Expr) → FrameTyped s [] gives f → f.rest ≡ Plain (instr.BrTable others last) r → HasOver 1 f.labels f.values × ((number : ℕ) → ReadyBehind (table_label (slice_get others number) last) f)
br_table_ready s gives f others last r h e =
    let typed = left_typed s gives f h (Plain (instr.BrTable others last) r) e in
    let a = typed.1 in
    let index : Operands = a.0 ∷ [] in
    let first = over_taken (I32 ∷ []) h.own h.words f.values h.under (a.1 ++ a.2) (taken_known (I32 ∷ []) h.own (a.0 ∷ []) (a.1 ++ a.2) a.3 (a.4, tt)) h.typed h.values_are in (
      has_over s gives f h (I32 ∷ []) (a.1 ++ a.2) (a.0 ∷ [], a.3, (a.4, tt)),
      λ number n vs v.
          let goes = table_goes h.types a.1 others last number a.5 a.6 in
          let lower = over_takes (I32 ∷ reverse goes.0) h.own h.words f.values h.under a.2 (a.0 ∷ a.1, a.3, (a.4, goes.2)) h.typed h.values_are in
          let l = first_word (reverse goes.0) lower.front lower.ahead in
          let values : f.values ≡ l.0 ∷ (l.1 ++ (lower.back ++ h.under)) = lower.values_are ∙ ap (λ (ws : List ℕ). ws ++ (lower.back ++ h.under)) l.2 in
          branch_ready s gives f h (table_label (slice_get others number) last) goes.0 vs l.1 lower.back goes.1 l.3 (behind_first n l.0 vs (l.1 ++ (lower.back ++ h.under)) (sym v ∙ values)),
    )

-- An `if` takes its operand, and its parts take those below.
pub if_over : (s : Store) (gives : List ValType) (f : Frame) (h : FrameTyped s [] gives f) (i : Instance) (t : BlockType) (below : Operands) → slice_get s.instances f.instance ≡ Some i → Takes (I32 ∷ reverse (params h.context.types t)) (known h.own) below → HasOver 1 f.labels f.values × ((n : ℕ) (vs : List ℕ) → f.values ≡ n ∷ vs → HasOver (length (params i.types t)) f.labels vs)
if_over s gives f h i t below there takes =
    let long : length (reverse (params h.context.types t)) ≡ length (params i.types t) =
    length-reverse (params h.context.types t) ∙ ap (λ (ts : List FuncType). length (params ts t)) (sym h.has.types ∙ ap (λ (i : Instance). i.types) (owner_is s gives f h i there)) in (
      one_over s gives f h (reverse (params h.context.types t)) below takes,
      λ n vs v. subst (λ (k : ℕ). HasOver k f.labels vs) long
          (has_under (length (reverse (params h.context.types t))) f.labels n vs f.values v (has_over s gives f h (I32 ∷ reverse (params h.context.types t)) below takes)),
    )

pub if_ready : (s : Store) (gives : List ValType) (f : Frame) (i : Instance) (t : BlockType) (a r : Expr) → FrameTyped s [] gives f → slice_get s.instances f.instance ≡ Some i → f.rest ≡ If t a r → HasOver 1 f.labels f.values × ((n : ℕ) (vs : List ℕ) → f.values ≡ n ∷ vs → HasOver (length (params i.types t)) f.labels vs)
if_ready s gives f i t a r h there e =
    let typed = left_typed s gives f h (If t a r) e in if_over s gives f h i t typed.1.0 there typed.1.1

pub if_else_ready : (s : Store) (gives : List ValType) (f : Frame) (i : Instance) (t : BlockType) (a b r : Expr) → FrameTyped s [] gives f → slice_get s.instances f.instance ≡ Some i → f.rest ≡ IfElse t a b r → HasOver 1 f.labels f.values × ((n : ℕ) (vs : List ℕ) → f.values ≡ n ∷ vs → HasOver (length (params i.types t)) f.labels vs)
if_else_ready s gives f i t a b r h there e =
    let typed = left_typed s gives f h (IfElse t a b r) e in if_over s gives f h i t typed.1.0 there typed.1.1

-- A loop that begins takes operands.
pub loop_over : (s : Store) (gives : List ValType) (f : Frame) (i : Instance) (t : BlockType) (b r : Expr) → FrameTyped s [] gives f → slice_get s.instances f.instance ≡ Some i → f.rest ≡ Loop t b r → HasOver (length (params i.types t)) f.labels f.values
loop_over s gives f i t b r h there e =
    let typed = left_typed s gives f h (Loop t b r) e in
    let long : length (reverse (params h.context.types t)) ≡ length (params i.types t) =
    length-reverse (params h.context.types t) ∙ ap (λ (ts : List FuncType). length (params ts t)) (sym h.has.types ∙ ap (λ (i : Instance). i.types) (owner_is s gives f h i there)) in
    subst (λ (n : ℕ). HasOver n f.labels f.values) long (has_over s gives f h (reverse (params h.context.types t)) typed.1.0 typed.1.1)

-- the function that a call finds
pub record CallReady (s : Store) (f : Frame) (i : Instance) (index : ℕ) : Type 0 where
  pub address : ℕ
  pub function : Function
  pub listed : slice_get i.funcs index ≡ Some address
  pub there : slice_get s.funcs address ≡ Some function
  pub found : func_at index i s ≡ (let p : Option (ℕ × Function) = Some (address, function) in p)
  pub over : HasOver (length (type_of function).params) f.labels f.values

pub call_ready : (s : Store) (gives : List ValType) (f : Frame) (i : Instance) (index : ℕ) (r : Expr) → FrameTyped s [] gives f → slice_get s.instances f.instance ≡ Some i → f.rest ≡ Plain (instr.Call index) r → CallReady s f i index
call_ready s gives f i index r h there e =
    let typed = left_typed s gives f h (Plain (instr.Call index) r) e in
    let a = typed.1 in
    let p = h.has.funcs index a.0 a.1 in
    let place = found_there s.funcs (slice_get h.owner.funcs index) p.0 p.1 in
    let own : Turns (type_of p.0.1) (known h.own) typed.0 = subst (λ (t : FuncType). Turns t (known h.own) typed.0) (sym p.2) a.2 in
    let same = owner_is s gives f h i there in
    record {
      address = p.0.0;
      function = p.0.1;
      listed = subst (λ (i : Instance). slice_get i.funcs index ≡ (let o : Option ℕ = Some p.0.0 in o)) same place.0;
      there = place.1;
      found = subst (λ (i : Instance). func_at index i s ≡ (let o : Option (ℕ × Function) = Some p.0 in o)) same p.1;
      over = subst (λ (n : ℕ). HasOver n f.labels f.values) (length-reverse (type_of p.0.1).params) (has_over s gives f h (reverse (type_of p.0.1).params) own.0 own.1);
    }

pub either_ready : (s : Store) (gives : List ValType) (f : Frame) (i : Instance) (t : BlockType) → FrameTyped s [] gives f → slice_get s.instances f.instance ≡ Some i → ((a : Expr) × (r : Expr) × (f.rest ≡ If t a r)) ⊎ ((a : Expr) × (b : Expr) × (r : Expr) × (f.rest ≡ IfElse t a b r)) → HasOver 1 f.labels f.values × ((n : ℕ) (vs : List ℕ) → f.values ≡ n ∷ vs → HasOver (length (params i.types t)) f.labels vs)
either_ready s gives f i t h there (inl k) = if_ready s gives f i t k.0 k.1 h there k.2
either_ready s gives f i t h there (inr k) = if_else_ready s gives f i t k.0 k.1 k.2 h there k.3
