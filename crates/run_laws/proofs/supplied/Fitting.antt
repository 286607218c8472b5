-- What more is so in each world that a run reaches of a graph and a script that fit: core code calls canonical functions with words of their parameters, an event has
-- room where a wait is to put it, and a destructor is called with one 32-bit word.
use Rattle.std.proofs.Common.{◌≡◌, ◌⊎◌, inl, inr, ◌≤◌, ◌<◌, ◌+◌, ◌^◌, ℕ, Bool, if◌then◌else◌, is_some, List, [], ◌∷◌, length, refl, sym, ap, subst, Some, None}
use Rattle.std.proofs.lemmas.Bool.{lt-ltb}
use Rattle.syntax_trees.specs.declared.module_types.ValType.TheVariants.{I32}
use Rattle.syntax_trees.specs.declared.module_types.ValType as core_val
use Rattle.wasm_numbers.specs.Types.{AreWords}
use Rattle.wasm_store.proofs.Lists.{all_at}
use Rattle.builtin_kinds.specs.declared.ResourceOp.TheVariants as resource_op
use Rattle.comp_graph.specs.declared.graph.BuiltinKind.{BuiltinKind}
use Rattle.comp_graph.specs.declared.graph.BuiltinKind.TheVariants as kind
use Rattle.comp_graph.specs.declared.graph.CanonFunc.{CanonFunc}
use Rattle.comp_graph.specs.declared.graph.CanonFunc.TheVariants as canon
use Rattle.comp_graph.specs.Graph.{Graph, Lifted, builtin_type, canon_type}
use Rattle.script_reader.specs.Script.{Script}
use Rattle.trace_labels.specs.declared.label.Label.{Label}
use Rattle.world_parts.specs.declared.parts.Rest.{Rest}
use Rattle.world_parts.specs.declared.parts.Rest.TheVariants as rest
use Rattle.world_parts.specs.Held.{Held}
use Rattle.abi_machine.specs.World.{Func, Destroys, ForSet, InBuiltin, Task, World, first_world}
use Rattle.abi_machine.specs.Canons.{lifted_of, options_at, memory_of, bytes_of}
use Rattle.abi_machine.specs.sound.CallsFit.{IsDrop, CallsSo, IsCalledBy}
use Rattle.abi_machine.specs.sound.Fitting.{FitsCall, CallsFit, FirstFits, CallsStayFit}
use Rattle.abi_machine.specs.sound.GoingOn.{IsStanding}
use Rattle.abi_machine.specs.sound.Owners.{IsApart}
use Rattle.abi_machine.specs.sound.Scripts.{IsScriptFor}
use Rattle.abi_machine.specs.Run.{Reaches}
use Rattle.abi_machine.specs.sound.Starting.{IsDoomed}
use Rattle.abi_machine.specs.sound.TypedWorlds.{WaitsSo, IsTypedWorld}
use Rattle.abi_machine.specs.sound.Words.{IsPassed, CodePasses, WasPassed, KeepsWords}
use Rattle.abi_machine.proofs.sound.Reached.{first_stands, standing_stays}
use Rattle.reach_laws.specs.Reached.{ReachedAreTyped, CodePassesWords, ReachedKeepWords}
use Rattle.standing.specs.Agreeing.{acting_words, control_of, control_at}
use Rattle.standing.proofs.Found.{word_is}
use Rattle.run_laws.specs.Supplied.{CallsPassWords, WaitsStandInside, DestructorsPassReps}

-- No run rests where a trap is to come.
pub not_doomed : (words : List ℕ) (r : Rest) → IsDoomed (control_of words r) → ⊥
not_doomed words (rest.Instantiates n) d = d
not_doomed words rest.Free d = d
not_doomed words rest.Arrives d = d
not_doomed words rest.Goes d = d
not_doomed words rest.Resumes d = d
not_doomed words rest.Back d = d
not_doomed words rest.Runs d = d
not_doomed words (rest.Calls number) d = d
not_doomed words rest.Leaves d = d

-- A built-in that drops handles takes one i32.
drop_takes : (k : BuiltinKind) → IsDrop k → (builtin_type k).params ≡ I32 ∷ []
drop_takes (kind.Resource resource_op.New resource) d = absurd d
drop_takes (kind.Resource resource_op.Drop resource) d = refl
drop_takes (kind.Resource resource_op.Rep resource) d = absurd d
drop_takes (kind.TaskReturn result options) d = absurd d
drop_takes (kind.Plain op) d = absurd d
drop_takes (kind.Context op slot) d = absurd d
drop_takes (kind.Wait op cancellable memory) d = absurd d
drop_takes (kind.End of_what element op) d = absurd d

drops : (c : CanonFunc) (resource : ℕ) (f : Lifted) → CallsSo c (Destroys resource f) → (canon_type c).params ≡ I32 ∷ []
drops (canon.Lower l) resource f so = (let clash : Destroys resource f ≡ Func (lifted_of l) = so in absurd (cc))
drops (canon.Builtin b) resource f so = drop_takes b.kind so.1

one_word : (words : List ℕ) → AreWords (I32 ∷ []) words → (rep : ℕ) × (words ≡ rep ∷ []) × (rep < 2 ^ 32)
one_word [] h = absurd h
one_word (x ∷ []) h = (x, refl, h.0)
one_word (x ∷ y ∷ words) h = absurd h.1

fit_from : (g : Graph) (s : Script) (steps : List (List Label)) (w v : World) → CallsStayFit → IsApart g → IsScriptFor g s → IsStanding g s w → CallsFit g w.tasks → Reaches g s w steps v → CallsFit g v.tasks
fit_from g s [] w v stay apart fits stands h r = subst (λ (x : World). CallsFit g x.tasks) (sym r) h
fit_from g s (labels ∷ steps) w v stay apart fits stands h r =
    fit_from g s steps r.0 v stay apart fits (standing_stays g s w r.0 labels apart stands r.1) (stay g s w r.0 labels fits stands.alone h r.1) r.2

pub calls_pass : CodePassesWords → CallsPassWords
calls_pass passes g values s h stacks w run r number words is = subst (CodePasses g) is (passes g s run r.steps w r.reached)

pub reps_are_passed : FirstFits → CallsStayFit → ReachedKeepWords → DestructorsPassReps
reps_are_passed first stay kept_words g values s h stacks w run r t resource task subtask f there runs guest =
    let fit : CallsFit g w.tasks = fit_from g s r.steps (first_world g) w stay r.apart run.script (first_stands g s r.apart) (first g).0 r.reached in
    let fits : IsCalledBy g subtask.canon task.callee = subst (FitsCall g task.callee) guest (all_at (λ (x : Task). FitsCall g x.callee x.caller) w.tasks t task fit there) in
    let words = kept_words g s r.steps w run r.reached in
    let kept : KeepsWords g task.state task.caller task.context = all_at (λ (x : Task). KeepsWords g x.state x.caller x.context) w.tasks t task words.0.0.keep there in
    let passed : IsPassed g subtask.canon subtask.words = subst (WasPassed g) guest kept.passed in
    let takes : (canon_type fits.0).params ≡ I32 ∷ [] = drops fits.0 resource f (subst (CallsSo fits.0) runs fits.2) in
    let one = one_word subtask.words (subst (λ (types : List core_val.ValType). AreWords types subtask.words) takes (passed fits.0 fits.1)) in
    record { made = ap is_some fits.1; rep = one.0; alone = one.1; small = ap (λ (b : Bool). if b then Some one.0 else None) (lt-ltb one.0 (2 ^ 32) one.2) }

pub typed_now : (g : Graph) (h : Held) (w : World) → w.control ≡ control_at h → IsDoomed w.control ⊎ IsTypedWorld g w → IsTypedWorld g w
typed_now g h w control (inl doomed) = absurd (not_doomed (acting_words h) h.rest (subst IsDoomed control doomed))
typed_now g h w control (inr typed) = typed

pub waits_stand_inside : ReachedAreTyped → WaitsStandInside
waits_stand_inside typed g values s h stacks w run r control late memories t number index place words task there is word =
    let now : IsTypedWorld g w = typed_now g h w control (typed g s r.steps w run r.reached late) in
    let waits : WaitsSo g w.store (InBuiltin number words (ForSet index)) = subst (WaitsSo g w.store) is (now.ground.tasks_are t task there).waits in
    (memories number, subst (λ (n : ℕ). n + 8 ≤ length (bytes_of w.store (memory_of w.store (options_at g number)))) (word_is words 1 place word) waits.1)
