-- Calls: what they find, and what they make of a frame, as moves.
use Rattle.std.proofs.Common.{◌≡◌, ◌<◌, ℕ, suc, Bool, true, false, nat_lt, if◌then◌else◌, List, [], ◌∷◌, ◌++◌, length, reverse, refl, ap, sym, ◌∙◌, subst, arith, get_or, Option, Some, None}
use Rattle.std.specs.List.{slice_get}
use Rattle.std.specs.Option.{option_map, option_and_then}
use Rattle.std.proofs.lemmas.Bool.Decides.{nat_tests}
use Rattle.std.proofs.lemmas.List.{length-reverse}
use Rattle.std.proofs.lemmas.Option.{get_or_from_slice_get, slice_get_within}
use Rattle.syntax_trees.specs.declared.module_types.ValType.{ValType}
use Rattle.syntax_trees.specs.declared.module_types.ValType.TheVariants.{I32}
use Rattle.syntax_trees.specs.declared.module_types.FuncType.{FuncType}
use Rattle.syntax_trees.specs.declared.instr.Instr.TheVariants as instr
use Rattle.syntax_trees.specs.Expr.{Expr, Plain}
use Rattle.wasm_typing.specs.Context.{arrow}
use Rattle.wasm_typing.specs.Instrs.{where_there}
use Rattle.wasm_typing.specs.Typing.{Takes, Turns}
use Rattle.wasm_store.specs.declared.trap.Trap.TheVariants.{TableBounds, NullElement, OtherSignature}
use Rattle.wasm_store.specs.Store.{Function, Own, Host, type_of, Table, Instance, Store, table_at}
use Rattle.wasm_store.specs.Stack.{Frame, Running}
use Rattle.wasm_store.specs.Step.{Traps, invoked, called, same_type, same_types, same_signature, called_as, called_entry, called_through, next}
use Rattle.wasm_store.specs.Typed.{known, StoreTyped, TableTyped, EntryTyped, FrameTyped}
use Rattle.wasm_store.proofs.Lists.{all_at, both_true, found_there}
use Rattle.wasm_execution.specs.Shape.{rest_behind, HasOver}
use Rattle.wasm_execution.specs.Stepping.{CallsThere, Fails}
use Rattle.wasm_execution.proofs.Going.{next_at}
use Rattle.wasm_execution.proofs.Ready.{has_over, left_typed}
use Rattle.wasm_execution.proofs.Taking.{CallReady, owner_is, has_under, one_over, last_first}

same_long : (ts us : List ValType) → same_types ts us ≡ true → length ts ≡ length us
same_long [] [] h = refl
same_long [] (u ∷ us) h = cc
same_long (t ∷ ts) [] h = cc
same_long (t ∷ ts) (u ∷ us) h = let both = both_true (same_type t u) (same_types ts us) h in ap suc (same_long ts us both.1)

-- `call`.

-- A call is the same from a frame whose place and values differ.
invoked_same : (address : ℕ) (function : Function) (vs us : List ℕ) (s : Store) (f : Frame) (fs : List Frame) (r : Expr) → invoked address function vs s (record f { rest = r }) fs ≡ invoked address function vs s (record f { values = us; rest = r }) fs
invoked_same address (Own type instance locals body) vs us s f fs r = refl
invoked_same address (Host type) vs us s f fs r = refl

pub call_there : (s : Store) (f g : Frame) (i : Instance) (index address : ℕ) (r : Expr) → CallReady s f i index → slice_get i.funcs index ≡ Some address → slice_get s.instances f.instance ≡ Some i → f.rest ≡ Plain (instr.Call index) r → g ≡ record f { rest = rest_behind f.rest } → CallsThere s f address g
call_there s f g i index address r k listed there e new =
    let same : k.address ≡ address = (let q : (let o : Option ℕ = Some k.address in o) ≡ Some address = sym k.listed ∙ listed in cc) in
    let behind : record f { rest = r } ≡ g = ap (λ (e : Expr). (let h : Frame = record f { rest = rest_behind e } in h)) (sym e) ∙ sym new in
    record {
      function = k.function;
      there = subst (λ (a : ℕ). slice_get s.funcs a ≡ Some k.function) same k.there;
      over = subst (λ (g : Frame). HasOver (length (type_of k.function).params) g.labels g.values) behind k.over;
      moves = λ fs.
          next_at s f fs i (Plain (instr.Call index) r) there e
          ∙ ap (λ (q : Option (ℕ × Function)). called q f.values s (record f { rest = r }) fs) k.found
          ∙ ap (λ (a : ℕ). invoked a k.function f.values s (record f { rest = r }) fs) same
          ∙ ap (λ (g : Frame). invoked address k.function g.values s g fs) behind;
    }

-- `call_indirect`.

then_some : {A B : Type 0} (f : A → Option B) (o : Option A) (y : B) → option_and_then f o ≡ Some y → (x : A) × (o ≡ Some x) × (f x ≡ Some y)
then_some f None y h = cc
then_some f (Some x) y h = (x, refl, h)

there_some : (b : Bool) (t u : FuncType) → where_there b t ≡ Some u → (b ≡ true) × (t ≡ u)
there_some true t u h = (refl, cc)
there_some false t u h = cc

less : (a b : ℕ) → nat_lt a b ≡ true → a < b
less a b h = grind (arith, nat_tests)

-- what a call through a table finds
pub record ThroughReady (s : Store) (f : Frame) (i : Instance) (index table : ℕ) : Type 0 where
  pub type : FuncType
  pub typed : slice_get i.types index ≡ Some type
  pub at : ℕ
  pub there : Table
  pub listed : slice_get i.tables table ≡ Some at
  pub stands : slice_get s.tables at ≡ Some there
  pub found : table_at table i s ≡ (let p : Option (ℕ × Table) = Some (at, there) in p)
  pub one : HasOver 1 f.labels f.values
  pub over : (n : ℕ) (vs : List ℕ) → f.values ≡ n ∷ vs → HasOver (length type.params) f.labels vs
  pub entries : (n address : ℕ) → slice_get there.entries n ≡ Some (Some address) → (function : Function) × (slice_get s.funcs address ≡ Some function)

pub through_ready : (s : Store) (gives : List ValType) (f : Frame) (i : Instance) (index table : ℕ) (r : Expr) → StoreTyped s → FrameTyped s [] gives f → slice_get s.instances f.instance ≡ Some i → f.rest ≡ Plain (instr.CallIndirect index table) r → ThroughReady s f i index table
through_ready s gives f i index table r st h there e =
    let typed = left_typed s gives f h (Plain (instr.CallIndirect index table) r) e in
    let a = typed.1 in
    let m = then_some (λ (type : FuncType). where_there (nat_lt table h.context.tables) (arrow (type.params ++ I32 ∷ []) type.results)) (slice_get h.context.types index) a.0 a.1 in
    let w = there_some (nat_lt table h.context.tables) (arrow (m.0.params ++ I32 ∷ []) m.0.results) a.0 m.2 in
    let turns : Turns (arrow (m.0.params ++ I32 ∷ []) m.0.results) (known h.own) typed.0 = subst (λ (t : FuncType). Turns t (known h.own) typed.0) (sym w.1) a.2 in
    let takes : Takes (I32 ∷ reverse m.0.params) (known h.own) turns.0 = subst (λ (ts : List ValType). Takes ts (known h.own) turns.0) (last_first m.0.params) turns.1 in
    let same = owner_is s gives f h i there in
    let t = h.has.tables table (less table h.context.tables w.0) in
    let place = found_there s.tables (slice_get h.owner.tables table) t.0 t.1 in
    let all = all_at (TableTyped s) s.tables t.0.0 t.0.1 st.tables place.1 in
    record {
      type = m.0;
      typed = ap (λ (i : Instance). slice_get i.types index) (sym same) ∙ ap (λ (ts : List FuncType). slice_get ts index) h.has.types ∙ m.1;
      at = t.0.0;
      there = t.0.1;
      listed = subst (λ (i : Instance). slice_get i.tables table ≡ (let o : Option ℕ = Some t.0.0 in o)) same place.0;
      stands = place.1;
      found = subst (λ (i : Instance). table_at table i s ≡ (let o : Option (ℕ × Table) = Some t.0 in o)) same t.1;
      one = one_over s gives f h (reverse m.0.params) turns.0 takes;
      over = λ n vs v. subst (λ (k : ℕ). HasOver k f.labels vs) (length-reverse m.0.params) (has_under (length (reverse m.0.params)) f.labels n vs f.values v (has_over s gives f h (I32 ∷ reverse m.0.params) turns.0 takes));
      entries = λ n address q. all_at (EntryTyped s) t.0.1.entries n (Some address) all q;
    }

through_next : (s : Store) (f : Frame) (fs : List Frame) (i : Instance) (index table n : ℕ) (vs : List ℕ) (r : Expr) (k : ThroughReady s f i index table) → slice_get s.instances f.instance ≡ Some i → f.rest ≡ Plain (instr.CallIndirect index table) r → f.values ≡ n ∷ vs → next s (Running f fs) ≡ called_entry k.type (slice_get k.there.entries n) vs s (record f { rest = r }) fs
through_next s f fs i index table n vs r k there e v =
    next_at s f fs i (Plain (instr.CallIndirect index table) r) there e
    ∙ ap (λ (o : Option FuncType). called_through o (table_at table i s) f.values s (record f { rest = r }) fs) k.typed
    ∙ ap (λ (o : Option (ℕ × Table)). called_through (Some k.type) o f.values s (record f { rest = r }) fs) k.found
    ∙ ap (λ (us : List ℕ). called_through (Some k.type) (Some (k.at, k.there)) us s (record f { rest = r }) fs) v

pub no_entry : (s : Store) (f : Frame) (i : Instance) (index table n : ℕ) (vs : List ℕ) (r : Expr) (k : ThroughReady s f i index table) → slice_get s.instances f.instance ≡ Some i → f.rest ≡ Plain (instr.CallIndirect index table) r → f.values ≡ n ∷ vs → slice_get k.there.entries n ≡ None → Fails s f TableBounds
no_entry s f i index table n vs r k there e v none fs =
    through_next s f fs i index table n vs r k there e v ∙ ap (λ (o : Option (Option ℕ)). called_entry k.type o vs s (record f { rest = r }) fs) none

pub null_entry : (s : Store) (f : Frame) (i : Instance) (index table n : ℕ) (vs : List ℕ) (r : Expr) (k : ThroughReady s f i index table) → slice_get s.instances f.instance ≡ Some i → f.rest ≡ Plain (instr.CallIndirect index table) r → f.values ≡ n ∷ vs → slice_get k.there.entries n ≡ Some None → Fails s f NullElement
null_entry s f i index table n vs r k there e v none fs =
    through_next s f fs i index table n vs r k there e v ∙ ap (λ (o : Option (Option ℕ)). called_entry k.type o vs s (record f { rest = r }) fs) none

entry_next : (s : Store) (f : Frame) (fs : List Frame) (i : Instance) (index table n address : ℕ) (vs : List ℕ) (r : Expr) (function : Function) (b : Bool) (k : ThroughReady s f i index table) → slice_get s.instances f.instance ≡ Some i → f.rest ≡ Plain (instr.CallIndirect index table) r → f.values ≡ n ∷ vs → slice_get k.there.entries n ≡ Some (Some address) → slice_get s.funcs address ≡ Some function → same_signature k.type (type_of function) ≡ b → next s (Running f fs) ≡ (if b then invoked address function vs s (record f { rest = r }) fs else Traps OtherSignature)
entry_next s f fs i index table n address vs r function b k there e v some stands same =
    through_next s f fs i index table n vs r k there e v
    ∙ ap (λ (o : Option (Option ℕ)). called_entry k.type o vs s (record f { rest = r }) fs) some
    ∙ ap (λ (o : Option Function). called_as k.type (option_map (λ (x : Function). (let q : ℕ × Function = (address, x) in q)) o) vs s (record f { rest = r }) fs) stands
    ∙ ap (λ (b : Bool). if b then invoked address function vs s (record f { rest = r }) fs else Traps OtherSignature) same

pub other_entry : (s : Store) (f : Frame) (i : Instance) (index table n address : ℕ) (vs : List ℕ) (r : Expr) (function : Function) (k : ThroughReady s f i index table) → slice_get s.instances f.instance ≡ Some i → f.rest ≡ Plain (instr.CallIndirect index table) r → f.values ≡ n ∷ vs → slice_get k.there.entries n ≡ Some (Some address) → slice_get s.funcs address ≡ Some function → same_signature k.type (type_of function) ≡ false → Fails s f OtherSignature
other_entry s f i index table n address vs r function k there e v some stands same fs = entry_next s f fs i index table n address vs r function false k there e v some stands same

pub entry_there : (s : Store) (f g : Frame) (i : Instance) (index table n address : ℕ) (vs : List ℕ) (r : Expr) (function : Function) (k : ThroughReady s f i index table) → slice_get s.instances f.instance ≡ Some i → f.rest ≡ Plain (instr.CallIndirect index table) r → f.values ≡ n ∷ vs → slice_get k.there.entries n ≡ Some (Some address) → slice_get s.funcs address ≡ Some function → same_signature k.type (type_of function) ≡ true → g ≡ record f { values = vs; rest = r } → CallsThere s f address g
entry_there s f g i index table n address vs r function k there e v some stands same new =
    let both = both_true (same_types k.type.params (type_of function).params) (same_types k.type.results (type_of function).results) same in
    let long : length k.type.params ≡ length (type_of function).params = same_long k.type.params (type_of function).params both.0 in
    record {
      function = function;
      there = stands;
      over = subst (λ (g : Frame). HasOver (length (type_of function).params) g.labels g.values) (sym new) (subst (λ (m : ℕ). HasOver m f.labels vs) long (k.over n vs v));
      moves = λ fs.
          entry_next s f fs i index table n address vs r function true k there e v some stands same
          ∙ invoked_same address function vs vs s f fs r
          ∙ ap (λ (g : Frame). invoked address function g.values s g fs) (sym new);
    }

-- the address that is read from a list
pub listed_at : (xs ys : List ℕ) (i a : ℕ) → slice_get xs i ≡ Some a → ys ≡ xs → get_or ys i 0 ≡ a
listed_at xs ys i a h e = ap (λ (ns : List ℕ). get_or ns i 0) e ∙ get_or_from_slice_get xs i a 0 h

pub listed_as : (xs ys : List ℕ) (i a : ℕ) → slice_get xs i ≡ Some a → ys ≡ xs → slice_get xs i ≡ Some (get_or ys i 0)
listed_as xs ys i a h e = h ∙ ap (λ (n : ℕ). let o : Option ℕ = Some n in o) (sym (listed_at xs ys i a h e))

-- What the program reads is what a call through a table finds.

same_there : {X : Type 0} (xs : List X) (a b : ℕ) (x y : X) → slice_get xs a ≡ Some x → slice_get xs b ≡ Some y → b ≡ a → y ≡ x
same_there xs a b x y h k e = let q : (let o : Option _ = Some y in o) ≡ Some x = sym k ∙ ap (slice_get xs) e ∙ h in cc

pub table_within : (s : Store) (f : Frame) (i : Instance) (index table : ℕ) (k : ThroughReady s f i index table) (ys : List ℕ) → ys ≡ i.tables → get_or ys table 0 < length s.tables
table_within s f i index table k ys e =
    subst (λ (n : ℕ). n < length s.tables) (sym (listed_at i.tables ys table k.at k.listed e)) (slice_get_within s.tables k.at k.there k.stands)

pub entry_seen : (s : Store) (f : Frame) (i : Instance) (index table : ℕ) (k : ThroughReady s f i index table) (ys : List ℕ) (u : Table) (seen : List (Option ℕ)) (n : ℕ) (o p : Option (Option ℕ)) → ys ≡ i.tables → slice_get s.tables (get_or ys table 0) ≡ Some u → seen ≡ u.entries → o ≡ slice_get seen n → o ≡ p → slice_get k.there.entries n ≡ p
entry_seen s f i index table k ys u seen n o p e there same found is =
    let t : u ≡ k.there = same_there s.tables k.at (get_or ys table 0) k.there u k.stands there (listed_at i.tables ys table k.at k.listed e) in
    ap (λ (t : Table). slice_get t.entries n) (sym t) ∙ ap (λ (es : List (Option ℕ)). slice_get es n) (sym same) ∙ sym found ∙ is

pub function_within : (s : Store) (f : Frame) (i : Instance) (index table n address : ℕ) (k : ThroughReady s f i index table) → slice_get k.there.entries n ≡ Some (Some address) → address < length s.funcs
function_within s f i index table n address k some = let p = k.entries n address some in slice_get_within s.funcs address p.0 p.1

pub type_within : (s : Store) (f : Frame) (i : Instance) (index table : ℕ) (k : ThroughReady s f i index table) (types : List FuncType) → types ≡ i.types → index < length types
type_within s f i index table k types e = slice_get_within types index k.type (ap (λ (ts : List FuncType). slice_get ts index) e ∙ k.typed)

pub signature_seen : (s : Store) (f : Frame) (i : Instance) (index table : ℕ) (k : ThroughReady s f i index table) (types : List FuncType) (type other : FuncType) (b c : Bool) → types ≡ i.types → slice_get types index ≡ Some type → b ≡ same_signature type other → b ≡ c → same_signature k.type other ≡ c
signature_seen s f i index table k types type other b c e there same is =
    let t : type ≡ k.type = same_there i.types index index k.type type k.typed (ap (λ (ts : List FuncType). slice_get ts index) (sym e) ∙ there) refl in
    ap (λ (t : FuncType). same_signature t other) (sym t) ∙ sym same ∙ is
