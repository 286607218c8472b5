-- Nested code ends, by the moves of its stack, and so do lowerings, by what is left of the plan.
use Rattle.std.proofs.Common.{◌≡◌, ◌∙◌, ℕ, true, false, nat_eq, List, [], ◌∷◌, length, refl, ap, sym, subst, Option, Some, None, Result, Ok, Err}
use Rattle.std.specs.Prelude.{slice_index}
use Rattle.handle_table.specs.History.{Event}
use Rattle.wasm_store.specs.Store.{Store, found_at}
use Rattle.wasm_store.specs.Stack.{Stack, Running, AtHost, Given}
use Rattle.wasm_store.specs.Step.{Move, Goes, Traps, resume}
use Rattle.wasm_store.specs.Step as core
use Rattle.value_lower.specs.Following.{written}
use Rattle.lowering_laws.proofs.Holding.{IsHeld, MoveHolds, next_holds, resume_holds, by_free_moves}
use Rattle.builtin_kinds.specs.declared.ContextOp.TheVariants as context_op
use Rattle.builtin_kinds.specs.declared.ResourceOp.TheVariants as resource_op
use Rattle.comp_graph.specs.declared.graph.BuiltinKind.{BuiltinKind}
use Rattle.comp_graph.specs.declared.graph.BuiltinKind.TheVariants as kind
use Rattle.comp_graph.specs.declared.graph.CanonFunc.{CanonFunc}
use Rattle.comp_graph.specs.declared.graph.CanonFunc.TheVariants as canon
use Rattle.comp_graph.specs.Graph.{Graph}
use Rattle.script_reader.specs.Script.{Script}
use Rattle.trace_labels.specs.declared.label.Label.TheVariants as line
use Rattle.trace_labels.specs.declared.trap.TrapName.{TrapName}
use Rattle.trace_labels.specs.declared.trap.TrapName.TheVariants as trap
use Rattle.abi_machine.specs.Traps.{core_name, lower_name}
use Rattle.abi_machine.specs.LoweringOver.{Plan, Gives, Fails, Asks, Size, Put, Adds}
use Rattle.abi_machine.specs.Control.{Control, Free, Lowers, Quiet, Lowering, HostedState, Going, AtCall, Nested, Behind, InLowering}
use Rattle.abi_machine.specs.World.{Entry, Inst, World}
use Rattle.abi_machine.specs.Edits.{with_control, with_store, with_inst, unit_spent, word_set, rewritten}
use Rattle.abi_machine.specs.Canons.{bytes_of, builtin_of, inst_of_canon, canon_at}
use Rattle.abi_machine.specs.Reading.{table_of}
use Rattle.abi_machine.specs.Pausing.{Settled, settle, index_in, with_new, entry_of}
use Rattle.abi_machine.specs.Turn.{Stuck, silent, doomed, behind, charged}
use Rattle.abi_machine.specs.CoreSteps.{costs}
use Rattle.abi_machine.specs.Lowering.{nested_of, lowered, paused, left_by, settled_turn, lowers_turn}
use Rattle.abi_machine.specs.Nested.{HostedTurn, hosted_move, hosted_next, nested_ended, answered_in_place, answered_or_refused, calls_host, hosted, nested_turn}
use Rattle.abi_machine.specs.replies.Context.{Exempt, Answers, rep_answered, exempt_kind, exempt_of}
use Rattle.reach_laws.proofs.free.Steps.{IsReached, ComesOn, Soon, goes_on, doomed_comes, soon_doomed, soon_given, soon_behind, soon_either, soon_paid}
use Rattle.reach_laws.proofs.free.Stacks.{HostedHolds, IsReady}

-- What is asked of a world stays, whatever control, the store, tables and words of context become.
pub record Stays (g : Graph) (s : Script) (P : World → Type 0) : Type 0 where
  pub ready : (w : World) → P w → IsReady g s w
  pub controls : (w : World) (control : Control) → P w → P (with_control control w)
  pub stores : (w : World) (t : Store) → P w → P (with_store t w)
  pub tables : (w : World) (i : ℕ) (f : Inst → Inst) → P w → P (with_inst i f w)
  pub words : (w : World) (t slot word : ℕ) → P w → P (word_set t slot word w)

module _ (g : Graph) (s : Script) (P : World → Type 0) (stays : Stays g s P) where
  -- Calls that are answered in place.
  abbrev pub KeepsAnswer : Result Answers TrapName → Type 0
  KeepsAnswer (Ok answer) = P answer.world
  KeepsAnswer (Err why) = Unit {0}

  abbrev pub KeepsExempt : World → Option Exempt → Type 0
  KeepsExempt w None = Unit {0}
  KeepsExempt w (Some exempt) = KeepsAnswer (exempt w)

  rep_keeps : (w : World) (r : Result ℕ TrapName) → P w → KeepsAnswer (rep_answered w r)
  rep_keeps w (Err why) h = tt
  rep_keeps w (Ok rep) h = h

  kind_keeps : (t : ℕ) (args : List ℕ) (i : ℕ) (of_kind : BuiltinKind) (w : World) → P w → KeepsExempt w (exempt_kind t args i of_kind)
  kind_keeps t args i (kind.Context context_op.Get slot) w h = h
  kind_keeps t args i (kind.Context context_op.Set slot) w h = stays.words w t slot (slice_index args 0) h
  kind_keeps t args i (kind.Resource resource_op.Rep resource) w h = rep_keeps w _ h
  kind_keeps t args i (kind.Resource resource_op.New resource) w h = tt
  kind_keeps t args i (kind.Resource resource_op.Drop resource) w h = tt
  kind_keeps t args i (kind.TaskReturn result options) w h = tt
  kind_keeps t args i (kind.Plain op) w h = tt
  kind_keeps t args i (kind.Wait op cancellable memory) w h = tt
  kind_keeps t args i (kind.End of_what element op) w h = tt

  pub exempt_keeps : (t : ℕ) (args : List ℕ) (c : CanonFunc) (w : World) → P w → KeepsExempt w (exempt_of t args c)
  exempt_keeps t args (canon.Lower l) w h = tt
  exempt_keeps t args (canon.Builtin b) w h = kind_keeps t args b.instance b.kind w h

  -- Nested code, whatever follows it.
  module _ (b : Behind) (ended : (w : World) (words : List ℕ) → P w → Soon g s (nested_ended b words w)) where
    -- Its stack is at no function of the host that runs alone.
    abbrev HeldQuiet : Store → Stack → Type 0
    HeldQuiet t k = (n : Nested) (w : World) → IsHeld k → w.store ≡ t → n.state ≡ Going k → P w → IsReached g s (with_control (Quiet n b) w) → ComesOn g s (with_control (Quiet n b) w)

    held_step : (t : Store) (k : Stack) → ((u : Store) (l : Stack) → core.next t k ≡ Goes false u l → HeldQuiet u l) → HeldQuiet t k
    unfolding nested_turn hosted
    held_step t k more n w held store e h kept =
        goes_on g s (with_control (Quiet n b) w) kept
        (subst (λ (x : HostedTurn). Soon g s (hosted g s n b x v)) (sym (ap (λ (state : HostedState). hosted_next state w.store) e)) (by (core.next w.store k) refl (next_holds w.store k)))
      where
        v : World
        v = with_control Free w

        pays : (state : HostedState) (u : Store) → HostedHolds state → Soon g s (charged true s v (λ v. silent (Quiet (record n { state = state }) b) (with_store u v)))
        pays state u holds =
            soon_paid g s v (λ v. silent (Quiet (record n { state = state }) b) (with_store u v)) (λ few kept.
            (stays.ready w h).0 (with_control (Quiet (record n { state = state }) b) (with_store u (unit_spent v))) refl few (stays.ready w h).1 holds kept)

        calls : (k : Stack) (number : ℕ) (words : List ℕ) (l : Stack) → core.next w.store k ≡ core.Calls number words l → IsHeld k → IsHeld l
            → Soon g s (charged (costs k (core.Calls number words l)) s v (λ v. silent (Quiet (record n { state = AtCall number words l }) b) (with_store w.store v)))
        calls (Running f fs) number words l e held next = pays (AtCall number words l) w.store next
        calls (AtHost a args) number words l e held next = absurd held
        calls (Given none) number words l e held next = cc

        by : (m : Move) → core.next w.store k ≡ m → MoveHolds m → Soon g s (hosted g s n b (hosted_move k w.store m) v)
        by (Goes true u l) f i = pays (Going l) u tt
        by (Goes false u l) f i = λ kept. more u l (ap (λ (t : Store). core.next t k) (sym store) ∙ f) (record n { state = Going l }) (with_store u w) i refl refl (stays.stores w u h) kept
        by (core.Calls number words l) f i = calls k number words l f held i
        by (core.Ends words) f i = ended v words (stays.controls w Free h)
        by (Traps why) f i = soon_paid g s v (λ v. doomed n.blame (core_name why) v) (λ few kept. doomed_comes g s (unit_spent v) n.blame (core_name why))
        by core.Stuck f i = tt

    held_quiet : (k : Stack) (n : Nested) (w : World) → IsHeld k → n.state ≡ Going k → P w → IsReached g s (with_control (Quiet n b) w) → ComesOn g s (with_control (Quiet n b) w)
    held_quiet k n w held e h kept = by_free_moves HeldQuiet held_step w.store k n w held refl e h kept

    at_call : (n : Nested) (number : ℕ) (words : List ℕ) (k : Stack) (w : World) → IsHeld k → n.state ≡ AtCall number words k → P w → IsReached g s (with_control (Quiet n b) w) → ComesOn g s (with_control (Quiet n b) w)
    unfolding nested_turn hosted calls_host answered_or_refused answered_in_place
    at_call n number words k w held e h kept =
        goes_on g s (with_control (Quiet n b) w) kept
        (subst (λ (x : HostedTurn). Soon g s (hosted g s n b x v)) (sym (ap (λ (state : HostedState). hosted_next state w.store) e))
        (soon_given g s (canon_at g number) _ (λ c f.
        soon_either g s (nat_eq (inst_of_canon c) n.inst) (behind (line.Do n.acts_for (builtin_of c) words ∷ []) (answered_or_refused n b k (exempt_of n.acts_for words c) v)) Stuck
        (λ same. soon_behind g s (line.Do n.acts_for (builtin_of c) words ∷ []) _ (answers (exempt_of n.acts_for words c) (exempt_keeps n.acts_for words c v (stays.controls w Free h)))) (λ other. tt))))
      where
        v : World
        v = with_control Free w

        in_place : (r : Result Answers TrapName) → KeepsAnswer r → Soon g s (answered_in_place n b k r v)
        in_place (Err why) keeps = soon_doomed g s v n.blame why
        in_place (Ok answer) keeps = λ kept.
            held_quiet (resume answer.words k) (record n { state = Going (resume answer.words k) }) answer.world (resume_holds answer.words k held) refl keeps kept

        answers : (o : Option Exempt) → KeepsExempt v o → Soon g s (answered_or_refused n b k o v)
        answers None keeps = soon_doomed g s v n.blame trap.CannotLeave
        answers (Some exempt) keeps = in_place (exempt v) keeps

    going : (k : Stack) (n : Nested) (w : World) → n.state ≡ Going k → P w → IsReached g s (with_control (Quiet n b) w) → ComesOn g s (with_control (Quiet n b) w)
    unfolding nested_turn hosted
    going (Running f fs) n w e h kept = held_quiet (Running f fs) n w tt e h kept
    going (Given words) n w e h kept = held_quiet (Given words) n w tt e h kept
    going (AtHost address words) n w e h kept =
        goes_on g s (with_control (Quiet n b) w) kept
        (subst (λ (x : HostedTurn). Soon g s (hosted g s n b x (with_control Free w))) (sym (ap (λ (state : HostedState). hosted_next state w.store) e)) (λ kept.
        at_call (record n { state = AtCall address words (Given []) }) address words (Given []) (with_store w.store w) tt refl (stays.stores w w.store h) kept))

    pub quiet_comes : (n : Nested) (w : World) → HostedHolds n.state → P w → IsReached g s (with_control (Quiet n b) w) → ComesOn g s (with_control (Quiet n b) w)
    quiet_comes n w holds h kept = by n.state refl holds
      where
        by : (state : HostedState) → n.state ≡ state → HostedHolds state → ComesOn g s (with_control (Quiet n b) w)
        by (Going k) e i = going k n w e h kept
        by (AtCall number words k) e i = at_call n number words k w i e h kept

  -- Lowerings, whatever follows them.
  module _ (l : Lowering) (ended : (w : World) (words : List ℕ) → P w → Soon g s (lowered l.next words w)) where
    abbrev PlanComes : Plan → Type 0
    PlanComes plan = (bytes : List ℕ) (table : List (Event Entry)) (w : World) → P w → Soon g s (settled_turn l (settle l.acts_for plan bytes table) w)

    left_keeps : (x : Settled) (w : World) → P w → P (left_by l x w)
    left_keeps x w h =
        let t : Store = rewritten (found_at w.store.memories l.memory) x.bytes w.store in
        stays.tables (with_store t w) l.inst (λ inst. record inst { table = x.table }) (stays.stores w t h)

    -- behind a realloc
    behind_place : (k : ℕ → Plan) → ((place : ℕ) → PlanComes (k place)) → (w : World) (words : List ℕ) → P w → Soon g s (nested_ended (InLowering l k) words w)
    unfolding nested_ended lowers_turn
    behind_place k more w [] h = tt
    behind_place k more w (place ∷ words) h = λ kept.
        goes_on g s (with_control (Lowers l (k place)) w) kept (more place (bytes_of w.store l.memory) (table_of w l.inst) (with_control Free w) (stays.controls w Free h))

    plan_soon : (plan : Plan) → PlanComes plan
    unfolding settled_turn paused
    plan_soon (Gives words) bytes table w h = ended (left_by l (settle l.acts_for (Gives words) bytes table) w) words (left_keeps (settle l.acts_for (Gives words) bytes table) w h)
    plan_soon (Fails why) bytes table w h = soon_doomed g s (left_by l (settle l.acts_for (Fails why) bytes table) w) l.blame (lower_name why)
    plan_soon (Asks ask k) bytes table w h =
        let x : Settled = settle l.acts_for (Asks ask k) bytes table in
        let u : World = left_by l x w in
        soon_given g s (found_at u.store.funcs l.realloc) (λ f. silent (Quiet (nested_of l ask f) (InLowering l k)) u) (λ f e kept.
        quiet_comes (InLowering l k) (behind_place k (λ place. plan_soon (k place))) (nested_of l ask f) u tt (left_keeps x w h) kept)
    plan_soon (Size k) bytes table w h = plan_soon (k (length bytes)) bytes table w h
    plan_soon (Put place more k) bytes table w h = plan_soon k (written place more bytes) table w h
    plan_soon (Adds entry k) bytes table w h = plan_soon (k (index_in table)) bytes (with_new (entry_of l.acts_for entry) table) w h

    pub lowering_comes : (plan : Plan) (w : World) → P w → IsReached g s (with_control (Lowers l plan) w) → ComesOn g s (with_control (Lowers l plan) w)
    unfolding lowers_turn
    lowering_comes plan w h kept =
        goes_on g s (with_control (Lowers l plan) w) kept (plan_soon plan (bytes_of w.store l.memory) (table_of w l.inst) (with_control Free w) (stays.controls w Free h))

    pub realloc_comes : (k : ℕ → Plan) (n : Nested) (w : World) → HostedHolds n.state → P w → IsReached g s (with_control (Quiet n (InLowering l k)) w) → ComesOn g s (with_control (Quiet n (InLowering l k)) w)
    realloc_comes k n w holds h kept = quiet_comes (InLowering l k) (behind_place k (λ place. plan_soon (k place))) n w holds h kept
