-- Stacks and moves of component instances; stores that come of moves, of other bytes in a memory, and of one more core instance.
use Rattle.std.proofs.Common.{◌≡◌, ◌+◌, ℕ, zero, suc, Bool, true, false, List, [], ◌∷◌, ◌++◌, length, drop, map, refl, sym, ap, ◌∙◌, subst, arith, length-append, append_assoc, Option, Some, None, if◌then◌else◌}
use Rattle.std.specs.List.{slice_get, AllByRecursion}
use Rattle.std.specs.Option.{option_map, option_and_then, IfSome}
use Rattle.syntax_trees.specs.declared.module.ElementSegment.{ElementSegment}
use Rattle.syntax_trees.specs.declared.module.DataSegment.{DataSegment}
use Rattle.wasm_memory.specs.Memories.{MemoryState, with_bytes}
use Rattle.wasm_store.specs.Store.{Function, Own, Host as HostFunction, Table, Instance, Store, found_at, table_at, memory_at}
use Rattle.wasm_store.specs.Stack.{Stack, Running, AtHost, Given}
use Rattle.wasm_store.specs.Step.{Move, Goes, Calls, Traps, start, resume, next}
use Rattle.wasm_store.specs.Step as core
use Rattle.wasm_store.specs.Instantiation.{External, Instantiation, Makes, SegmentBounds, allocated, into_table, into_memory, element_written, data_written, init_value, all_written, instance_of, instantiated, new_func}
use Rattle.wasm_store.proofs.Lists.{all_at, found_there}
use Rattle.wasm_store.proofs.Zips.{all_true}
use Rattle.comp_graph.specs.declared.graph.Action.{Action}
use Rattle.comp_graph.specs.declared.graph.Action.TheVariants.{Begin, Make}
use Rattle.comp_graph.specs.declared.graph.CanonFunc.{CanonFunc}
use Rattle.comp_graph.specs.declared.graph.FuncRef.{FuncRef}
use Rattle.comp_graph.specs.declared.graph.Options.{Options}
use Rattle.comp_graph.specs.declared.graph.Resource.{Resource}
use Rattle.comp_graph.specs.Graph.{CoreMake, Graph, Lifted, canon_type}
use Rattle.abi_machine.specs.Control.{HostedState, Going, AtCall}
use Rattle.abi_machine.specs.Edits.{rewritten}
use Rattle.abi_machine.specs.Canons.{func_address, realloc_of, externals, inst_of_canon, canon_at, resource_at}
use Rattle.abi_machine.specs.Nested.{HostedTurn, On, CallsHost, hosted_move, hosted_next}
use Rattle.abi_machine.specs.World.{TaskState, New, Acting, AfterCall, AfterCancel, WaitsToEnter, InLoop, InBuiltin, Exited, Task}
use Rattle.abi_machine.specs.World as world
use Rattle.abi_machine.specs.Reading.{func_of}
use Rattle.abi_machine.specs.sound.Initial.{StartsNothing}
use Rattle.abi_machine.specs.sound.Owners.{owner_of_core, owner_of_canon, owner_of_func, owner_of_extern, AreOptionsOf, IsCanonApart, IsResourceApart, IsApart, HasCanons, IsFuncOf, IsOwned, IsEntryOwned, StoreOwners, AreOwnedBy, AreOwned, IsMadeUpTo, IsStackOf, IsLiftedApart, IsOwnStack, CallsOwn, IsStateOwn, IsTaskOwn, IsHostedBy}
use Rattle.abi_machine.specs.sound.Owners as owners
use Rattle.abi_machine.proofs.sound.own.Lists.{get_front, drop_next, LeavesWith, written_leaves}
use Rattle.abi_machine.proofs.sound.own.Owned.{owned_later, owned_same, same_keeps, func_owned, made_owned}
use Rattle.abi_machine.proofs.sound.own.Moved.{IsOnward, MoveKeeps, rewritten_onward, next_keeps}
use Rattle.abi_machine.proofs.sound.own.Within.{StackWithin, MoveWithin, Closed, next_within}

some_same : {A : Type 0} (x y : A) → Some x ≡ Some y → x ≡ y
some_same x y h = cc

-- Stacks.

start_of : (g : Graph) (owner address : ℕ) (function : Function) (words : List ℕ) → IsFuncOf g owner address function → IsStackOf g owner (start function address words)
start_of g owner address (Own type instance locals body) words h = (h, tt)
start_of g owner address (HostFunction type) words h = h

-- a function that was found, of a component instance
pub found_of : (g : Graph) (s : Store) (owner : ℕ) (o : Option ℕ) (p : ℕ × Function) (words : List ℕ) → found_at s.funcs o ≡ Some p → ((address : ℕ) → o ≡ Some address → IsOwned g s owner address)
    → IsStackOf g owner (start p.1 p.0 words)
found_of g s owner o p words e h =
    let there = found_there s.funcs o p e in
    let own = h p.0 there.0 in
    start_of g owner p.0 p.1 words (subst (IsFuncOf g owner p.0) (some_same own.0 p.1 (sym own.1 ∙ there.1)) own.2)

pub ref_starts : (g : Graph) (s : Store) (owner : ℕ) (ref : FuncRef) (p : ℕ × Function) (words : List ℕ) → HasCanons g s → AreOwned g s → owner_of_func g ref ≡ Some owner
    → found_at s.funcs (func_address s ref) ≡ Some p → IsStackOf g owner (start p.1 p.0 words)
ref_starts g s owner ref p words canons owned own e = found_of g s owner (func_address s ref) p words e (λ address at. func_owned g owned.0 s owner ref address canons owned.1 own at)

pub options_realloc : (g : Graph) (s : Store) (owner : ℕ) (options : Options) → HasCanons g s → AreOwned g s → AreOptionsOf g owner options → (address : ℕ) → realloc_of s options ≡ Some address
    → IsOwned g s owner address
options_realloc g s owner options canons owned h address e = by options.realloc h.realloc e
  where
    by : (o : Option FuncRef) → IfSome o (λ f. owner_of_func g f ≡ Some owner) → option_and_then (func_address s) o ≡ Some address → IsOwned g s owner address
    by None h e = cc
    by (Some f) h e = func_owned g owned.0 s owner f address canons owned.1 h e

pub resumed_of : (g : Graph) (owner : ℕ) (words : List ℕ) (k : Stack) → IsStackOf g owner k → IsStackOf g owner (resume words k)
resumed_of g owner words (Running f fs) h = h
resumed_of g owner words (AtHost address args) h = h
resumed_of g owner words (Given none) h = tt

pub resumed_own : (g : Graph) (o : Option Lifted) (words : List ℕ) (k : Stack) → IsOwnStack g o k → IsOwnStack g o (resume words k)
resumed_own g None words k h = tt
resumed_own g (Some f) words k h = resumed_of g f.instance words k h

-- what stands under an option that is there
pub if_there : {A : Type 0} (P : A → Type 0) (o : Option A) (x : A) → o ≡ Some x → IfSome o P → P x
if_there P o x e h = (let k : IfSome (Some x) P = subst (λ (y : Option _). IfSome y P) e h in k)

-- Moves of stacks: they stay in their component instance, and call what it made.

abbrev PartsOf : Graph → ℕ → ℕ → Type 0
PartsOf g owner number = owner_of_core g number ≡ Some owner

abbrev CanonOf : Graph → ℕ → ℕ → Type 0
CanonOf g owner address = owner_of_canon g address ≡ Some owner

closed : (g : Graph) (owners : StoreOwners) (s : Store) (owner : ℕ) → AreOwnedBy g owners s → Closed (PartsOf g owner) (IsOwned g s owner) (CanonOf g owner) s
closed g owners s owner h = record {
  hosts = λ address type own there. subst (IsFuncOf g owner address) (some_same own.0 (HostFunction type) (sym own.1 ∙ there)) own.2;
  own = λ address type instance locals body own there.
      subst (IsFuncOf g owner address) (some_same own.0 (Own type instance locals body) (sym own.1 ∙ there)) own.2;
  funcs = λ number i index address p there at. all_at (IsOwned g s owner) i.funcs index address (h.funcs number owner i p there) at;
  entries = λ number i index at t n address p there found table is.
      all_at (IsEntryOwned g s owner) t.entries n (Some address) (h.entries at owner t (all_at (λ a. slice_get owners.tables a ≡ Some owner) i.tables index at (h.tables number owner i p there) found) table) is;
}

within_of : (g : Graph) (s : Store) (owner : ℕ) (k : Stack) → StackWithin (PartsOf g owner) (IsOwned g s owner) (CanonOf g owner) k → IsStackOf g owner k
within_of g s owner (Running f fs) h = h
within_of g s owner (AtHost address words) h = h
within_of g s owner (Given words) h = h

of_within : (g : Graph) (s : Store) (owner : ℕ) (k : Stack) → IsStackOf g owner k → StackWithin (PartsOf g owner) (IsOwned g s owner) (CanonOf g owner) k
of_within g s owner (Running f fs) h = h
of_within g s owner (AtHost address words) h = h
of_within g s owner (Given words) h = h

-- of a function's component instance, where there is a function
abbrev pub IsOwnMove : Graph → Store → Option Lifted → Move → Type 0
IsOwnMove g s o (Goes paid t l) = IsOnward s t × IsOwnStack g o l
IsOwnMove g s o (Calls address words l) = CallsOwn g o address × IsOwnStack g o l
IsOwnMove g s o m = Unit {0}

init_moves : (g : Graph) (s : Store) (m : Move) → MoveKeeps s m → IsOwnMove g s None m
init_moves g s (Goes paid t l) h = (h, tt)
init_moves g s (Calls address words l) h = (tt, tt)
init_moves g s (core.Ends words) h = tt
init_moves g s (Traps why) h = tt
init_moves g s core.Stuck h = tt

func_moves : (g : Graph) (s : Store) (f : Lifted) (m : Move) → MoveKeeps s m → MoveWithin (PartsOf g f.instance) (IsOwned g s f.instance) (CanonOf g f.instance) m → IsOwnMove g s (Some f) m
func_moves g s f (Goes paid t l) keeps h = (keeps, within_of g s f.instance l h)
func_moves g s f (Calls address words l) keeps h = (h.0, within_of g s f.instance l h.1)
func_moves g s f (core.Ends words) keeps h = tt
func_moves g s f (Traps why) keeps h = tt
func_moves g s f core.Stuck keeps h = tt

pub own_moves : (g : Graph) (s : Store) (o : Option Lifted) (k : Stack) → AreOwned g s → IsOwnStack g o k → IsOwnMove g s o (next s k)
own_moves g s None k owned h = init_moves g s (next s k) (next_keeps s k)
own_moves g s (Some f) k owned h =
    func_moves g s f (next s k) (next_keeps s k)
    (next_within (PartsOf g f.instance) (IsOwned g s f.instance) (CanonOf g f.instance) s (closed g owned.0 s f.instance owned.1) k (of_within g s f.instance k h))

-- the next turn of nested code
abbrev pub IsTurnOf : Graph → ℕ → Store → HostedTurn → Type 0
IsTurnOf g owner s (On paid state t) = IsOnward s t × IsHostedBy g owner state
IsTurnOf g owner s (CallsHost number words k) = (owner_of_canon g number ≡ Some owner) × IsStackOf g owner k
IsTurnOf g owner s other = Unit {0}

turn_of : (g : Graph) (s : Store) (owner : ℕ) (k : Stack) (m : Move) → MoveKeeps s m → MoveWithin (PartsOf g owner) (IsOwned g s owner) (CanonOf g owner) m → IsTurnOf g owner s (hosted_move k s m)
turn_of g s owner k (Goes paid t l) keeps h = (keeps, within_of g s owner l h)
turn_of g s owner k (Calls address words l) keeps h = ((refl, refl, refl, refl), (h.0, within_of g s owner l h.1))
turn_of g s owner k (core.Ends words) keeps h = tt
turn_of g s owner k (Traps why) keeps h = tt
turn_of g s owner k core.Stuck keeps h = tt

pub hosted_of : (g : Graph) (s : Store) (owner : ℕ) (state : HostedState) → AreOwned g s → IsHostedBy g owner state → IsTurnOf g owner s (hosted_next state s)
hosted_of g s owner (Going k) owned h =
    turn_of g s owner k (next s k) (next_keeps s k)
    (next_within (PartsOf g owner) (IsOwned g s owner) (CanonOf g owner) s (closed g owned.0 s owner owned.1) k (of_within g s owner k h))
hosted_of g s owner (AtCall number words k) owned h = h

-- Stores.

pub onward_canons : (g : Graph) (s t : Store) → IsOnward s t → HasCanons g s → HasCanons g t
onward_canons g s t x h number c there = ap (λ (fs : List Function). slice_get fs number) x.0 ∙ h number c there

pub onward_owned : (g : Graph) (s t : Store) → IsOnward s t → AreOwned g s → AreOwned g t
onward_owned g s t x h = (h.0, owned_same g h.0 s t x.0 x.1 x.2 x.3 h.1)

pub onward_address : (g : Graph) (s t : Store) (owner address : ℕ) → IsOnward s t → IsOwned g s owner address → IsOwned g t owner address
onward_address g s t owner address x h = owned_later g s t owner address (same_keeps s t x.0) h

pub rewritten_on : (m : Option (ℕ × MemoryState)) (bytes : List ℕ) (s : Store) → IsOnward s (rewritten m bytes s)
rewritten_on None bytes s = (refl, refl, refl, refl)
rewritten_on (Some m) bytes s = rewritten_onward m.0 (with_bytes m.1 bytes) s

state_recount : (g : Graph) (count other : ℕ) (o : Option Lifted) (state : TaskState) → StartsNothing state → IsStateOwn g count o state → IsStateOwn g other o state
state_recount g count other o New nothing h = tt
state_recount g count other o Acting nothing h = tt
state_recount g count other o (AfterCall callee number words) nothing h = h
state_recount g count other o (AfterCancel callee number words) nothing h = h
state_recount g count other o (world.Begins n) nothing h = absurd nothing
state_recount g count other o WaitsToEnter nothing h = tt
state_recount g count other o (InLoop word) nothing h = tt
state_recount g count other o (InBuiltin number words wait) nothing h = h
state_recount g count other o Exited nothing h = tt

-- tasks, none of which runs a start function
pub tasks_recount : (g : Graph) (count other : ℕ) (tasks : List Task) → ((n : ℕ) (task : Task) → slice_get tasks n ≡ Some task → StartsNothing task.state) → AllByRecursion (IsTaskOwn g count) tasks
    → AllByRecursion (IsTaskOwn g other) tasks
tasks_recount g count other [] nothing h = tt
tasks_recount g count other (task ∷ tasks) nothing h = (
  record { lifted = h.0.lifted; code = h.0.code; waits = state_recount g count other (func_of task.callee) task.state (nothing 0 task refl) h.0.waits },
  tasks_recount g count other tasks (λ n x e. nothing (suc n) x e) h.1,
)

-- One more core instance.

-- segments leave functions and instances alone
abbrev pub IsLike : Store → Store → Type 0
IsLike s t = (t.funcs ≡ s.funcs) × (t.instances ≡ s.instances)

table_like : (s u v : Store) (at : ℕ) (entries : List (Option ℕ)) (o : Option (ℕ × Table)) → IsLike s u → into_table at entries o u ≡ Some v → IsLike s v
table_like s u v at entries None h e = cc
table_like s u v at entries (Some t) h e = by _ _ e h
  where
    by : (b : Bool) (x : Store) → (if b then Some x else None) ≡ Some v → IsLike s x → IsLike s v
    by true x k l = subst (IsLike s) (some_same x v k) l
    by false x k l = cc

memory_like : (s u v : Store) (at : ℕ) (bytes : List ℕ) (o : Option (ℕ × MemoryState)) → IsLike s u → into_memory at bytes o u ≡ Some v → IsLike s v
memory_like s u v at bytes None h e = cc
memory_like s u v at bytes (Some m) h e = by _ _ e h
  where
    by : (b : Bool) (x : Store) → (if b then Some x else None) ≡ Some v → IsLike s x → IsLike s v
    by true x k l = subst (IsLike s) (some_same x v k) l
    by false x k l = cc

pub made_like : (c : CoreMake) (imports : List External) (s : Store) → LeavesWith (IsLike (allocated c.of_module imports s)) (instantiated c.of_module imports s)
made_like c imports s =
    let i : Instance = instance_of c.of_module imports s in
    let mid : Store = allocated c.of_module imports s in
    written_leaves (IsLike mid) (λ (d : ElementSegment). Unit {0}) (element_written i)
    (λ u v d any k e. table_like mid u v (init_value u i.globals d.offset) (map (λ index. slice_get i.funcs index) d.funcs) (table_at d.table i u) k e)
    (λ u. all_written (data_written i) c.of_module.data_segments u Makes)
    (λ u k.
    written_leaves (IsLike mid) (λ (d : DataSegment). Unit {0}) (data_written i) (λ u v d any k e. memory_like mid u v (init_value u i.globals d.offset) d.bytes (memory_at d.memory i u) k e) Makes (λ v l. l)
    c.of_module.data_segments (all_true c.of_module.data_segments) u k)
    c.of_module.element_segments (all_true c.of_module.element_segments) mid (refl, refl)

-- what a store has in which one more core instance is made
pub record IsMore (g : Graph) (s t : Store) : Type 0 where
  pub canons : HasCanons g t
  pub owned : AreOwned g t
  pub count : length t.instances ≡ suc (length s.instances)

more_of : (g : Graph) (c : CoreMake) (imports : List External) (s t : Store) → HasCanons g s → AreOwned g t → IsLike (allocated c.of_module imports s) t → IsMore g s t
more_of g c imports s t canons owned like = record {
  canons = λ number canon there.
      ap (λ (fs : List Function). slice_get fs number) like.0
      ∙ get_front s.funcs (map (new_func c.of_module (length s.instances)) c.of_module.funcs) number (HostFunction (canon_type canon)) (canons number canon there);
  owned = owned;
  count = ap length like.1 ∙ (length-append s.instances (instance_of c.of_module imports s ∷ []) ∙ (let one : length s.instances + 1 ≡ suc (length s.instances) = omega arith in one));
}

pub core_more : (g : Graph) (c : CoreMake) (imports : List External) (s : Store) → HasCanons g s → AreOwned g s → owner_of_core g (length s.instances) ≡ Some c.owner
    → AllByRecursion (λ e. owner_of_extern g e ≡ Some c.owner) c.imports → externals s c.imports ≡ Some imports → LeavesWith (IsMore g s) (instantiated c.of_module imports s)
core_more g c imports s canons owned own apart are =
    by (instantiated c.of_module imports s) (made_owned g s c imports owned.0 canons owned.1 own apart are) (made_like c imports s)
  where
    by : (r : Instantiation) → LeavesWith (λ t. AreOwned g t) r → LeavesWith (IsLike (allocated c.of_module imports s)) r → LeavesWith (IsMore g s) r
    by (Makes t) k l = more_of g c imports s t canons k l
    by (SegmentBounds t) k l = more_of g c imports s t canons k l

-- The plan.

pub begin_next : (g : Graph) (count n instance : ℕ) → slice_get g.plan n ≡ Some (Begin instance) → IsMadeUpTo g count n → IsMadeUpTo g count (n + 1)
begin_next g count n instance e h =
    let left : owners.Makes count (Begin instance ∷ drop (n + 1) g.plan) h.after = subst (λ (actions : List Action). owners.Makes count actions h.after) (drop_next g.plan n (Begin instance) e) h.left in
    record { before = h.before; after = h.after; cores_are = h.cores_are; counted = h.counted; left = left }

-- the next core instance has the number of those before it
pub record MakesNext (g : Graph) (count n number : ℕ) : Type 0 where
  pub is : number ≡ count
  pub more : IsMadeUpTo g (suc count) (n + 1)

pub make_next : (g : Graph) (count n number : ℕ) → slice_get g.plan n ≡ Some (Make number) → IsMadeUpTo g count n → MakesNext g count n number
make_next g count n number e h =
    by h.after refl (subst (λ (actions : List Action). owners.Makes count actions h.after) (drop_next g.plan n (Make number) e) h.left)
  where
    by : (after : List CoreMake) → h.after ≡ after → owners.Makes count (Make number ∷ drop (n + 1) g.plan) after → MakesNext g count n number
    by [] k left = absurd left
    by (c ∷ cores) k left = record {
      is = left.0;
      more = record {
        before = h.before ++ c ∷ [];
        after = cores;
        cores_are = h.cores_are ∙ (ap (λ (all : List CoreMake). h.before ++ all) k ∙ sym (append_assoc h.before (c ∷ []) cores));
        counted = length-append h.before (c ∷ []) ∙ (let one : length h.before + 1 ≡ suc count = omega (arith, h.counted) in one);
        left = left.1;
      };
    }

-- What the graph says.

pub canon_apart : (g : Graph) (number : ℕ) (c : CanonFunc) → IsApart g → canon_at g number ≡ Some c → IsCanonApart g c
canon_apart g number c a e = all_at (IsCanonApart g) g.canons number c a.canons e

pub canon_owner : (g : Graph) (number : ℕ) (c : CanonFunc) → canon_at g number ≡ Some c → owner_of_canon g number ≡ Some (inst_of_canon c)
canon_owner g number c e = ap (option_map inst_of_canon) e

pub resource_apart : (g : Graph) (number : ℕ) (r : Resource) → IsApart g → resource_at g number ≡ Some r → IsResourceApart g r
resource_apart g zero r a e = cc
resource_apart g (suc place) r a e = all_at (IsResourceApart g) g.resources place r a.resources e

-- what is made here is the task's own
pub own_here : (g : Graph) (o : Option Lifted) (number owner : ℕ) (k : Stack) → CallsOwn g o number → owner_of_canon g number ≡ Some owner → IsStackOf g owner k → IsOwnStack g o k
own_here g None number owner k calls own h = tt
own_here g (Some f) number owner k calls own h = subst (λ (n : ℕ). IsStackOf g n k) (some_same owner f.instance (sym own ∙ calls)) h
