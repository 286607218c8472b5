-- Nested code makes moves, is answered, and ends: typed worlds are left.
use Rattle.std.proofs.Common.{◌≡◌, ◌∙◌, ◌<◌, ◌≤◌, inl, inr, ◌^◌, ℕ, true, List, [], ◌∷◌, refl, sym, subst, arith, Option, Some, None, Result, Ok, Err}
use Rattle.std.specs.Prelude.{slice_index, nat_eq}
use Rattle.syntax_trees.specs.declared.module_types.FuncType.{FuncType}
use Rattle.syntax_trees.specs.declared.module_types.ValType.TheVariants.{I32}
use Rattle.syntax_trees.specs.declared.module_types.ValType as core_val
use Rattle.wasm_numbers.specs.Types.{AreWords}
use Rattle.wasm_store.specs.Store.{Store}
use Rattle.wasm_store.specs.Stack.{Stack}
use Rattle.wasm_store.specs.Step.{Move, Goes, Traps, resume, next}
use Rattle.wasm_store.specs.Step as core
use Rattle.wasm_store.specs.Typed.{StoreTyped, StackTyped}
use Rattle.wasm_store.proofs.Stores.{store_same}
use Rattle.builtin_kinds.specs.declared.ContextOp.TheVariants as context_op
use Rattle.builtin_kinds.specs.declared.ResourceOp.TheVariants as resource_op
use Rattle.comp_graph.specs.declared.graph.BuiltinKind.{BuiltinKind}
use Rattle.comp_graph.specs.declared.graph.BuiltinKind.TheVariants as kind
use Rattle.comp_graph.specs.declared.graph.CanonFunc.{CanonFunc}
use Rattle.comp_graph.specs.declared.graph.CanonFunc.TheVariants as canon
use Rattle.comp_graph.specs.Graph.{Graph, builtin_type, canon_type}
use Rattle.script_reader.specs.Script.{Script}
use Rattle.trace_labels.specs.declared.label.Label.TheVariants as line
use Rattle.trace_labels.specs.declared.trap.TrapName.{TrapName}
use Rattle.lowering_laws.specs.StoreBytes.{HasBytesAlone}
use Rattle.lowering_laws.proofs.Stores.{GoesOn}
use Rattle.abi_machine.specs.Control.{After, Replies, Finishes, Then, Starts, Resolves, Transfers, HostedState, Going, AtCall, Nested, Behind, InLowering, BeforeLeaving}
use Rattle.abi_machine.specs.World.{Task, World}
use Rattle.abi_machine.specs.Edits.{word_changed}
use Rattle.abi_machine.specs.Canons.{builtin_of, canon_at, inst_of_canon}
use Rattle.abi_machine.specs.Nested.{HostedTurn, On, EndsIn, TrapsBy, CallsHost, NoRule, hosted_move, hosted_next, nested_ended, answered_in_place, answered_or_refused, calls_host, hosted, nested_turn}
use Rattle.abi_machine.specs.Traps.{core_name}
use Rattle.abi_machine.specs.Turn.{doomed}
use Rattle.abi_machine.specs.replies.Context.{Exempt, rep_answered, exempt_kind, exempt_of}
use Rattle.abi_machine.specs.sound.Firsts.{FirstIs}
use Rattle.abi_machine.specs.sound.TypedStacks.{HostedTyped, HostsAreCanons, nested_results}
use Rattle.abi_machine.specs.sound.TypedWorlds.{memory_size, ResolvesAt, LowersAt, Takes, IsBehindFor, pending_behind, IsGrounded}
use Rattle.abi_machine.proofs.sound.Found.{some_same}
use Rattle.abi_machine.proofs.sound.Acted.{still_is, is_as}
use Rattle.abi_machine.proofs.sound.worlds.Grounds.{size_later, ground_later, ground_word}
use Rattle.abi_machine.proofs.sound.worlds.Turns.{Good, behind_good, given_good, either_good, charged_good}
use Rattle.abi_machine.proofs.sound.worlds.Results.{planned_as}
use Rattle.abi_machine.proofs.sound.worlds.Moving.{MoveFine, moves_fine}
use Rattle.abi_machine.proofs.sound.worlds.Lowering.{lowering_later}

first_low : (types : List core_val.ValType) (words : List ℕ) → AreWords (I32 ∷ types) words → slice_index words 0 < 2 ^ 32
first_low types [] h = absurd h
first_low types (x ∷ words) h = h.0

module _ (g : Graph) where
  -- what is behind nested code, in later stores, and where a word of context is set
  behind_later : (s t : Store) (b : Behind) (x : Task) → GoesOn s t → IsBehindFor g s b x → IsBehindFor g t b x
  behind_later s t (InLowering l k) x on h =
      (lowering_later s t l x on h.0, λ place later small more. (let less : memory_size s l.memory ≤ memory_size t l.memory = size_later s t l.memory on.extends in h.1 place later small (omega (arith, less, more))))
  behind_later s t BeforeLeaving x on h = tt

  lowers_word : (s : Store) (n : Then) (x : Task) (slot word : ℕ) → LowersAt s n x → LowersAt s n (record x { context = word_changed slot word x.context })
  lowers_word s Starts x slot word h = tt
  lowers_word s (Resolves to follows) x slot word h = (h.0, resolves_word follows h.1)
    where
      resolves_word : (a : After) → ResolvesAt s a x → ResolvesAt s a (record x { context = word_changed slot word x.context })
      resolves_word Replies k = k
      resolves_word (Finishes ended) k = k
  lowers_word s (Transfers copying) x slot word h = h

  takes_word : (n : Then) (x : Task) (slot word : ℕ) (ws : List ℕ) → Takes g n x ws → Takes g n (record x { context = word_changed slot word x.context }) ws
  takes_word Starts x slot word ws h = h
  takes_word (Resolves to follows) x slot word ws h = h
  takes_word (Transfers copying) x slot word ws h = tt

  behind_word : (s : Store) (b : Behind) (x : Task) (slot word : ℕ) → IsBehindFor g s b x → IsBehindFor g s b (record x { context = word_changed slot word x.context })
  behind_word s (InLowering l k) x slot word h = (
    (lowers_word s l.next x slot word h.0.0, h.0.1),
    λ place later small more. planned_as (Takes g l.next x) (Takes g l.next (record x { context = word_changed slot word x.context })) (takes_word l.next x slot word) later (k place) (h.1 place later small more),
  )
  behind_word s BeforeLeaving x slot word h = tt

  -- what nested code comes to
  abbrev pub HostedFine : Store → List core_val.ValType → HostedTurn → Type 0
  HostedFine s results (On paid state t) = GoesOn s t × HostedTyped g t results state
  HostedFine s results (EndsIn words) = AreWords results words
  HostedFine s results (TrapsBy why) = Unit {0}
  HostedFine s results (CallsHost number words k) = HostedTyped g s results (AtCall number words k)
  HostedFine s results NoRule = ⊥

  move_fine : (s : Store) (results : List core_val.ValType) (k : Stack) (m : Move) → StoreTyped s → HasBytesAlone s → HostsAreCanons g s → MoveFine s results m → HostedFine s results (hosted_move k s m)
  move_fine s results k (Goes paid t l) typed all hosts h = h
  move_fine s results k (core.Calls number words l) typed all hosts h =
      (let c = hosts number h.0 h.1 in (
        record { extends = store_same s; typed = typed; funcs = refl; instances = refl; bytes = all },
        (c.0, c.1, subst (λ (f : FuncType). AreWords f.params words) (sym c.2) h.2, λ answers fit. h.3 answers (subst (λ (f : FuncType). AreWords f.results answers) c.2 fit)),
      ))
  move_fine s results k (core.Ends words) typed all hosts h = h
  move_fine s results k (Traps why) typed all hosts h = tt
  move_fine s results k core.Stuck typed all hosts h = absurd h

  hosted_fine : (s : Store) (results : List core_val.ValType) (state : HostedState) → StoreTyped s → HasBytesAlone s → HostsAreCanons g s → HostedTyped g s results state → HostedFine s results (hosted_next state s)
  hosted_fine s results (Going k) typed all hosts h = move_fine s results k (next s k) typed all hosts (moves_fine s results k typed all h)
  hosted_fine s results (AtCall number words k) typed all hosts h = h

module _ (g : Graph) (P : List ℕ → Type 0) where
  ended_good : (b : Behind) (words : List ℕ) (w : World) → IsGrounded g w.store w.tasks w.insts (pending_behind b) → FirstIs w.tasks w.chain (IsBehindFor g w.store b) → AreWords (nested_results b) words → Good g P (nested_ended b words w)
  unfolding nested_ended
  ended_good (InLowering l k) (place ∷ words) w ground first h =
      λ a inside. inr (record {
        ground = ground;
        acts = (first.0, first.1, is_as w.tasks first.0 (IsBehindFor g w.store (InLowering l k)) _ (λ x own. (own.0, own.1 place (memory_size w.store l.memory) h.0 (omega arith))) first.2);
      })
  ended_good (InLowering l k) [] w ground first h = tt
  ended_good BeforeLeaving words w ground first h = λ a inside. inr (record { ground = ground; acts = tt })

  module _ (n : Nested) (b : Behind) (k : Stack) (words : List ℕ) (w : World) (ground : IsGrounded g w.store w.tasks w.insts (pending_behind b)) (first : FirstIs w.tasks w.chain (IsBehindFor g w.store b)) where
    abbrev IfInPlace : Option Exempt → Type 0
    IfInPlace None = Unit {0}
    IfInPlace (Some exempt) = Good g P (answered_in_place n b k (exempt w) w)

    rep_good : (r : Result ℕ TrapName) → ((answers : List ℕ) → P answers → StackTyped w.store (nested_results b) (resume answers k)) → Good g P (answered_in_place n b k (rep_answered w r) w)
    unfolding answered_in_place
    rep_good (Ok rep) waits = λ a inside. inr (record { ground = ground; acts = (waits (rep ∷ []) a.0, first) })
    rep_good (Err why) waits = λ a inside. inl tt

    kind_good : (i : ℕ) (x : BuiltinKind) → AreWords (builtin_type x).params words → ((answers : List ℕ) → P answers → StackTyped w.store (nested_results b) (resume answers k)) → IfInPlace (exempt_kind n.acts_for words i x)
    unfolding answered_in_place
    kind_good i (kind.Context context_op.Get slot) takes waits = λ a inside. inr (record { ground = ground; acts = (waits _ a.0, first) })
    kind_good i (kind.Context context_op.Set slot) takes waits =
        λ a inside. inr (record {
          ground = ground_word g w.store n.acts_for slot (slice_index words 0) w.tasks w.insts (pending_behind b) (first_low [] words takes) ground;
          acts = (waits [] a.0, (first.0, first.1, still_is w.tasks n.acts_for first.0 (λ x. record x { context = word_changed slot (slice_index words 0) x.context }) (IsBehindFor g w.store b) (λ x own. behind_word g w.store b x slot (slice_index words 0) own) first.2));
        })
    kind_good i (kind.Resource resource_op.Rep resource) takes waits = rep_good _ waits
    kind_good i (kind.Resource resource_op.New resource) takes waits = tt
    kind_good i (kind.Resource resource_op.Drop resource) takes waits = tt
    kind_good i (kind.TaskReturn result options) takes waits = tt
    kind_good i (kind.Plain op) takes waits = tt
    kind_good i (kind.Wait op cancellable memory) takes waits = tt
    kind_good i (kind.End what element op) takes waits = tt

    canon_good : (c : CanonFunc) → AreWords (canon_type c).params words → ((answers : List ℕ) → P answers → StackTyped w.store (nested_results b) (resume answers k)) → IfInPlace (exempt_of n.acts_for words c)
    canon_good (canon.Lower l) takes waits = tt
    canon_good (canon.Builtin x) takes waits = kind_good x.instance x.kind takes waits

    refused_good : (o : Option Exempt) → IfInPlace o → Good g P (answered_or_refused n b k o w)
    unfolding answered_or_refused
    refused_good None h = λ a inside. inl tt
    refused_good (Some exempt) h = h

    pub host_good : (c : CanonFunc) → AreWords (canon_type c).params words → ((answers : List ℕ) → P answers → StackTyped w.store (nested_results b) (resume answers k)) → Good g P (calls_host n b k words c w)
    unfolding calls_host
    host_good c takes waits =
        either_good g P (nat_eq (inst_of_canon c) n.inst) _ _
        (λ own. behind_good g P (line.Do n.acts_for (builtin_of c) words ∷ []) (answered_or_refused n b k (exempt_of n.acts_for words c) w) (refused_good (exempt_of n.acts_for words c) (canon_good c takes waits)))
        (λ other. tt)

  hosted_good : (s : Script) (n : Nested) (b : Behind) (m : HostedTurn) (w : World) → IsGrounded g w.store w.tasks w.insts (pending_behind b) → FirstIs w.tasks w.chain (IsBehindFor g w.store b) → HostedFine g w.store (nested_results b) m
      → ((number : ℕ) (words : List ℕ) (k : Stack) → m ≡ CallsHost number words k → (c : CanonFunc) → canon_at g number ≡ Some c → (passed : List ℕ) → P passed → AreWords (canon_type c).results passed) → Good g P (hosted g s n b m w)
  unfolding hosted
  hosted_good s n b (On paid state t) w ground first h says =
      charged_good g P paid s w _ (λ units. λ a inside. inr (record {
        ground = ground_later g w.store t w.tasks w.insts (pending_behind b) h.0 ground;
        acts = (h.1, (first.0, first.1, is_as w.tasks first.0 (IsBehindFor g w.store b) (IsBehindFor g t b) (λ x own. behind_later g w.store t b x h.0 own) first.2));
      }))
  hosted_good s n b (EndsIn words) w ground first h says = ended_good b words w ground first h
  hosted_good s n b (TrapsBy why) w ground first h says = charged_good g P true s w (λ v. doomed n.blame (core_name why) v) (λ units. λ a inside. inl tt)
  hosted_good s n b (CallsHost number words k) w ground first h says =
      given_good g P (canon_at g number) _ (λ c at.
      let same : h.0 ≡ c = some_same (sym h.1 ∙ at) in
      host_good n b k words w ground first c (subst (λ (x : CanonFunc). AreWords (canon_type x).params words) same h.2)
      (λ answers p. h.3 answers (subst (λ (x : CanonFunc). AreWords (canon_type x).results answers) (sym same) (says number words k refl c at answers p))))
  hosted_good s n b NoRule w ground first h says = absurd h

  pub nested_good : (s : Script) (n : Nested) (b : Behind) (w : World) → IsGrounded g w.store w.tasks w.insts (pending_behind b) → HostedTyped g w.store (nested_results b) n.state → FirstIs w.tasks w.chain (IsBehindFor g w.store b)
      → ((number : ℕ) (words : List ℕ) (k : Stack) → hosted_next n.state w.store ≡ CallsHost number words k → (c : CanonFunc) → canon_at g number ≡ Some c → (passed : List ℕ) → P passed → AreWords (canon_type c).results passed) → Good g P (nested_turn g s n b w)
  unfolding nested_turn
  nested_good s n b w ground typed first says = hosted_good s n b (hosted_next n.state w.store) w ground first (hosted_fine g w.store (nested_results b) n.state ground.store ground.bytes ground.hosts typed) says
