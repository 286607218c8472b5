-- Values that are passed come to one thing, where no type stands twice among the program's types.
use Rattle.std.proofs.Common.{◌≡◌, ◌∙◌, ℕ, List, [], Option, Some, None, sym}
use Rattle.std.specs.List.{slice_get}
use Rattle.syntax_trees.specs.declared.value.Value.{Value}
use Rattle.laid_types.specs.Known.{Numbered, numbered_at}
use Rattle.laid_types.specs.SameTypes.{AreDistinct}
use Rattle.entry_gate.specs.declared.kind.Kind.{Kind}
use Rattle.entry_gate.specs.declared.kind.Kind.TheVariants.{Sync, Callback, Stackful}
use Rattle.comp_graph.specs.declared.graph.FuncRef.{FuncRef}
use Rattle.copy_replies.specs.declared.moving.Moving.{Moving}
use Rattle.copy_replies.specs.Moves.{moving, completed}
use Rattle.task_table.specs.declared.caller.Caller.{Caller}
use Rattle.task_table.specs.declared.caller.Caller.TheVariants.{Nobody, Host, Guest}
use Rattle.task_table.specs.declared.errand.Callee.{Callee}
use Rattle.task_table.specs.declared.errand.Callee.TheVariants as callee
use Rattle.programs.specs.declared.program.Program.{Program}
use Rattle.programs.specs.Program.{value_of}
use Rattle.trace_labels.specs.declared.typed.TypedValue.{TypedValue}
use Rattle.world_parts.specs.declared.parts.Copying.{Copying}
use Rattle.world_parts.specs.declared.parts.Flow.{Flow}
use Rattle.world_parts.specs.declared.parts.Flow.TheVariants as flow
use Rattle.world_parts.specs.Held.{Held, Done, Gives, given}
use Rattle.world_parts.specs.Feed.{acting, got}
use Rattle.world_parts.specs.Plain.{returned}
use Rattle.world_parts.specs.Slots.{kind_of, result_kept}
use Rattle.value_parts.specs.declared.to_pass.Passing.{Passing}
use Rattle.value_parts.specs.declared.to_pass.Passing.TheVariants as passing
use Rattle.value_parts.specs.Coming.{Then}
use Rattle.value_parts.specs.Lifting.{elements_lifted}
use Rattle.value_parts.specs.Passing.{arguments_lifted, ended_lifted, returned_lifted}
use Rattle.one_run_laws.specs.Once.{PassesOnce}
use Rattle.value_parts.proofs.Types.{type_distinct}
use Rattle.one_run_laws.proofs.Behind.{answers_given, once_answered, once_behind, once_then}
use Rattle.value_moves.specs.Lowering.{LowersInto, LowersAll}
use Rattle.value_moves.specs.Lowered.{arguments_way, LowersPassed, arguments_entered, LowersArguments, result_way, LowersBack, LowersKept, LowersFor, LowersResult}
use Rattle.value_moves.specs.Entering.{ValuesCome, ArgumentsCome, entered, started_by, Enters}
use Rattle.value_moves.specs.Resolving.{PassesOn, Resolves, ResolvesEnded, PostReturnsTo, Ends, return_tested, ReturnResolves, TestedResolves, Returns}
use Rattle.value_moves.specs.Transferring.{origin_of, reader_of, copied_values, Reads, MovesElements, MovesOver, Transfers}
use Rattle.value_moves.specs.Passing.{lift_at, SyncEnds, KindEnds, FuncEnds, call_at, ReturnsBy, PassesFor, Passes}
use Rattle.one_run_laws.proofs.Lowering.{lowers_into_once, lowers_all_once}
use Rattle.one_run_laws.proofs.Nested.{post_returns_once}
use Rattle.one_run_laws.proofs.Ways.{IsDistinct, arguments_way_distinct, result_way_distinct}

module _ (p : Program) (distinct : AreDistinct p.types.now) where
  -- Arguments.
  passed_once : (t : ℕ) (v : Value) (h : Held) (d e : Done (List ℕ)) → LowersPassed p t v h d → LowersPassed p t v h e → d ≡ e
  passed_once t v h d e b c =
      once_answered IsDistinct (arguments_way p t h) (λ w k f. LowersInto p w.to w.type v w.target k f) d e (arguments_way_distinct p t h distinct)
      (λ w k apart x y. lowers_into_once p w.to w.type v w.target k d e apart x y) b c

  arguments_once : (t : ℕ) (v : Value) (h : Held) (d e : Done (List ℕ)) → LowersArguments p t v h d → LowersArguments p t v h e → d ≡ e
  arguments_once t v h d e b c =
      once_then (λ f. LowersPassed p t v h f) (λ words k f. f ≡ arguments_entered p t v words k) d e (λ f g x y. passed_once t v h f g x y) (λ words k x y. x ∙ sym y) b c

  values_once : (t : ℕ) (h : Held) (d e : Done (List ℕ)) → ValuesCome p t h d → ValuesCome p t h e → d ≡ e
  values_once t h d e b c = once_behind (arguments_lifted p t h) (λ v k f. LowersArguments p t v k f) d e (λ v k x y. arguments_once t v k d e x y) b c

  come_once : (t : ℕ) (a : Callee) (h : Held) (d e : Done (List ℕ)) → ArgumentsCome p t a h d → ArgumentsCome p t a h e → d ≡ e
  come_once t callee.Init h d e b c = values_once t h d e b c
  come_once t (callee.Export number) h d e b c = values_once t h d e b c
  come_once t (callee.Lowered number) h d e b c = values_once t h d e b c
  come_once t (callee.Destroys resource) h d e b c = b ∙ sym c

  enters_once : (t : ℕ) (h : Held) (d e : Done Flow) → Enters p t h d → Enters p t h e → d ≡ e
  enters_once t h d e b c =
      once_behind (entered t h) (λ a k f. Then (ArgumentsCome p t a k) (λ words l g. g ≡ started_by p a words l) f) d e
      (λ a k x y. once_then (ArgumentsCome p t a k) (λ words l g. g ≡ started_by p a words l) d e (λ f g m n. come_once t a k f g m n) (λ words l m n. m ∙ sym n) x y) b c

  -- Results.
  back_once : (v : Value) (a : Callee) (by number : ℕ) (words : List ℕ) (h : Held) (d e : Done (List ℕ)) → LowersBack p v a by number words h d → LowersBack p v a by number words h e → d ≡ e
  back_once v a by number words h d e b c =
      once_answered IsDistinct (result_way p a by number words h) (λ w k f. LowersInto p w.to w.type v w.target k f) d e (result_way_distinct p a by number words h distinct)
      (λ w k apart x y. lowers_into_once p w.to w.type v w.target k d e apart x y) b c

  kept_once : (t : ℕ) (v : Value) (a : Callee) (by number : ℕ) (words : List ℕ) (h : Held) (d e : Done (Unit {0})) → LowersKept p t v a by number words h d
      → LowersKept p t v a by number words h e → d ≡ e
  kept_once t v a by number words h d e b c =
      once_then (λ f. LowersBack p v a by number words h f) (λ results k f. f ≡ result_kept t results k) d e (λ f g x y. back_once v a by number words h f g x y)
      (λ results k x y. x ∙ sym y) b c

  for_once : (t : ℕ) (v : Value) (a : Callee) (by : Caller) (h : Held) (d e : Done (Unit {0})) → LowersFor p t v a by h d → LowersFor p t v a by h e → d ≡ e
  for_once t v a Nobody h d e b c = b ∙ sym c
  for_once t v a (Host call) h d e b c = b ∙ sym c
  for_once t v a (Guest called) h d e b c = kept_once t v a called.by called.canon called.words h d e b c

  result_once : (t : ℕ) (v : Value) (h : Held) (d e : Done (Unit {0})) → LowersResult p t v h d → LowersResult p t v h e → d ≡ e
  result_once t v h d e b c =
      once_behind (given (slice_get h.tasks t) (λ slot. Gives slot h)) (λ slot k f. LowersFor p t v slot.callee slot.caller k f) d e
      (λ slot k x y. for_once t v slot.callee slot.caller k d e x y) b c

  on_once : (t : ℕ) (o : Option TypedValue) (h : Held) (d e : Done (Unit {0})) → PassesOn p t o h d → PassesOn p t o h e → d ≡ e
  on_once t None h d e b c = b ∙ sym c
  on_once t (Some v) h d e b c = result_once t v.value h d e b c

  resolves_once : (t : ℕ) (value : Option TypedValue) (h : Held) (d e : Done (Unit {0})) → Resolves p t value h d → Resolves p t value h e → d ≡ e
  resolves_once t value h d e b c = once_behind (returned t value h) (λ done k f. PassesOn p t value k f) d e (λ done k x y. on_once t value k d e x y) b c

  ended_once : (t : ℕ) (words : List ℕ) (h : Held) (d e : Done (Unit {0})) → ResolvesEnded p t words h d → ResolvesEnded p t words h e → d ≡ e
  ended_once t words h d e b c = once_behind (ended_lifted p t words h) (λ value k f. Resolves p t value k f) d e (λ value k x y. resolves_once t value k d e x y) b c

  ends_once : (t : ℕ) (post : Option FuncRef) (words : List ℕ) (h : Held) (d e : Done (Unit {0})) → Ends p t post words h d → Ends p t post words h e → d ≡ e
  ends_once t post words h d e b c =
      once_then (ResolvesEnded p t words h) (λ done k f. PostReturnsTo p t post words k f) d e (λ f g x y. ended_once t words h f g x y)
      (λ done k x y. post_returns_once p t post words k d e x y) b c

  return_once : (t canon : ℕ) (h : Held) (d e : Done (Unit {0})) → ReturnResolves p t canon h d → ReturnResolves p t canon h e → d ≡ e
  return_once t canon h d e b c = once_behind (returned_lifted p t canon h) (λ value k f. Resolves p t value k f) d e (λ value k x y. resolves_once t value k d e x y) b c

  tested_once : (t canon : ℕ) (h : Held) (d e : Done (Unit {0})) → TestedResolves p t canon h d → TestedResolves p t canon h e → d ≡ e
  tested_once t canon h d e b c = once_behind (return_tested p t canon h) (λ tested k f. ReturnResolves p t canon k f) d e (λ tested k x y. return_once t canon k d e x y) b c

  returns_once : (t canon : ℕ) (h : Held) (d e : Done Flow) → Returns p t canon h d → Returns p t canon h e → d ≡ e
  returns_once t canon h d e b c = once_then (TestedResolves p t canon h) (λ done k f. f ≡ got t [] k) d e (λ f g x y. tested_once t canon h f g x y) (λ done k x y. x ∙ sym y) b c

  -- Elements.
  reads_once : (m : Moving) (t : Numbered) (values : List Value) (h : Held) (d e : Done Flow) → AreDistinct t.types → Reads p m t values h d → Reads p m t values h e → d ≡ e
  reads_once m t values h d e apart b c =
      once_then (λ f. LowersAll p (reader_of m h) t values m.reader.place h f) (λ words k f. f ≡ completed m (copied_values t values) k) d e
      (λ f g x y. lowers_all_once p (reader_of m h) t values m.reader.place h f g apart x y) (λ words k x y. x ∙ sym y) b c

  elements_once : (m : Moving) (t : Numbered) (h : Held) (d e : Done Flow) → AreDistinct t.types → MovesElements p m t h d → MovesElements p m t h e → d ≡ e
  elements_once m t h d e apart b c =
      once_behind (elements_lifted (origin_of m) t m.writer.place m.count h) (λ values k f. Reads p m t values k f) d e (λ values k x y. reads_once m t values k d e apart x y) b c

  over_once : (m : Moving) (o : Option ℕ) (h : Held) (d e : Done Flow) → MovesOver p m o h d → MovesOver p m o h e → d ≡ e
  over_once m None h d e b c = b ∙ sym c
  over_once m (Some number) h d e b c =
      once_answered (λ (t : Numbered). AreDistinct t.types) (given (numbered_at p.types.now number) (λ t. Gives t h)) (λ t k f. MovesElements p m t k f) d e
      (answers_given (λ (t : Numbered). AreDistinct t.types) (numbered_at p.types.now number) (λ t. Gives t h) (λ t found. type_distinct p.types.now number t found distinct))
      (λ t k apart x y. elements_once m t k d e apart x y) b c

  transfers_once : (t : ℕ) (copying : Copying) (h : Held) (d e : Done Flow) → Transfers p t copying h d → Transfers p t copying h e → d ≡ e
  transfers_once t copying h d e b c =
      once_behind (moving p.graph.now t copying h) (λ m k f. MovesOver p m (value_of p copying.canon) k f) d e (λ m k x y. over_once m (value_of p copying.canon) k d e x y) b c

  -- Whatever is passed.
  sync_once : (t : ℕ) (words : List ℕ) (h : Held) (d e : Done Flow) → SyncEnds p t words h d → SyncEnds p t words h e → d ≡ e
  sync_once t words h d e b c =
      once_behind (lift_at p t h) (λ lift k f. Then (Ends p t lift.options.post_return words k) (λ done l g. g ≡ Gives flow.Rests l) f) d e
      (λ lift k x y.
      once_then (Ends p t lift.options.post_return words k) (λ done l g. g ≡ Gives flow.Rests l) d e (λ f g m n. ends_once t lift.options.post_return words k f g m n)
      (λ done l m n. m ∙ sym n) x y) b c

  kind_once : (t : ℕ) (words : List ℕ) (kind : Kind) (h : Held) (d e : Done Flow) → KindEnds p t words kind h d → KindEnds p t words kind h e → d ≡ e
  kind_once t words Sync h d e b c = sync_once t words h d e b c
  kind_once t words Callback h d e b c = b ∙ sym c
  kind_once t words Stackful h d e b c = b ∙ sym c

  func_once : (t : ℕ) (words : List ℕ) (h : Held) (d e : Done Flow) → FuncEnds p t words h d → FuncEnds p t words h e → d ≡ e
  func_once t words h d e b c = once_behind (kind_of t h) (λ kind k f. KindEnds p t words kind k f) d e (λ kind k x y. kind_once t words kind k d e x y) b c

  by_once : (t : ℕ) (o : Option ℕ) (h : Held) (d e : Done Flow) → ReturnsBy p t o h d → ReturnsBy p t o h e → d ≡ e
  by_once t None h d e b c = b ∙ sym c
  by_once t (Some canon) h d e b c = returns_once t canon h d e b c

  for_task_once : (t : ℕ) (x : Passing) (h : Held) (d e : Done Flow) → PassesFor p t x h d → PassesFor p t x h e → d ≡ e
  for_task_once t passing.Nothing h d e b c = b ∙ sym c
  for_task_once t passing.Arguments h d e b c = enters_once t h d e b c
  for_task_once t passing.Returned h d e b c = by_once t (call_at h.rest) h d e b c
  for_task_once t (passing.Ended words) h d e b c = func_once t words h d e b c
  for_task_once t (passing.Elements copying) h d e b c = transfers_once t copying h d e b c

  pub passes_once : PassesOnce Passes p
  passes_once x h d e b c = once_behind (acting h) (λ t k f. PassesFor p t x k f) d e (λ t k m n. for_task_once t x k d e m n) b c
