-- The next moves of typed stacks are typed, and the next core instance can be made.
use Rattle.std.proofs.Common.{◌≡◌, ℕ, ◌+◌, Bool, true, false, is_some, List, [], ◌∷◌, ◌++◌, drop, length, refl, ap, ◌∙◌, subst, Some, if◌then◌else◌}
use Rattle.std.specs.List.{slice_get}
use Rattle.syntax_trees.specs.declared.types.FuncType.{FuncType}
use Rattle.syntax_trees.specs.declared.core_type.FlatKind.TheVariants.{SyncLift, AsyncLift, CallbackLift}
use Rattle.syntax_trees.specs.Flat.{flat_func}
use Rattle.syntax_trees.specs.declared.module_types.ValType.TheVariants.{I32}
use Rattle.wasm_store.specs.Store.{Store}
use Rattle.wasm_store.specs.Typed.{StackTyped}
use Rattle.wasm_store.specs.Instantiation.{External, ImportsMatch}
use Rattle.wasm_store.proofs.Moving.{moves_typed}
use Rattle.wasm_store.proofs.Zips.{get_behind}
use Rattle.entry_gate.specs.declared.kind.Kind.TheVariants.{Sync, Callback, Stackful}
use Rattle.comp_graph.specs.declared.graph.Action.{Action}
use Rattle.comp_graph.specs.declared.graph.Action.TheVariants.{Make}
use Rattle.comp_graph.specs.Needs.{core_func}
use Rattle.comp_graph.specs.Graph.{CoreMake, Graph, HasImports, AreImported}
use Rattle.abi_machine.specs.Control.{Control}
use Rattle.abi_machine.specs.Canons.{externals}
use Rattle.abi_machine.specs.sound.Firsts.{FirstIs}
use Rattle.abi_machine.specs.sound.Owners.{Makes, HasCanons}
use Rattle.abi_machine.specs.sound.MadeInstances.{IsTypedGraph, WereMadeSoFar}
use Rattle.abi_machine.specs.sound.TypedStacks.{gives, nested_results, RunsTyped, HostedTyped, ActsTyped}
use Rattle.abi_machine.specs.sound.TypedGoing.{MovesAreTyped, NestedMovesAreTyped, CallbacksGiveWords, InstancesAreMakeable}
use Rattle.abi_machine.proofs.sound.Acted.{one_task, first_at}
use Rattle.abi_machine.proofs.sound.own.Lists.{drop_next}
use Rattle.abi_machine.proofs.sound.TypedMoves.{top_of}
use Rattle.abi_machine.proofs.sound.typed.Imports.{ImportsAreThere, imports_match, imported_behind}

pub moves_are_typed : MovesAreTyped
moves_are_typed g w t task k runs h first there top =
    let acts : FirstIs w.tasks w.chain (RunsTyped w.store) = subst (λ (c : Control). ActsTyped g c w.store w.tasks w.chain) runs h.acts in
    let typed : RunsTyped w.store task = one_task w.tasks t (RunsTyped w.store) task there (first_at w.tasks w.chain t (RunsTyped w.store) first acts) in
    moves_typed w.store (gives task.callee (drop 1 task.stacks)) k h.store (top_of (StackTyped w.store) w.store task.callee task.stacks k typed top).0

pub nested_moves_are_typed : NestedMovesAreTyped
nested_moves_are_typed g w n b k quiet going h =
    let acts : HostedTyped g w.store (nested_results b) n.state = subst (λ (c : Control). ActsTyped g c w.store w.tasks w.chain) quiet h.acts in
    moves_typed w.store (nested_results b) k h.store (subst (HostedTyped g w.store (nested_results b)) going acts)

gives_word : (a b : Bool) (type : FuncType) → (if a then (if b then Callback else Stackful) else Sync) ≡ Callback
    → (core_func (flat_func (if a then (if b then CallbackLift else AsyncLift) else SyncLift) type)).results ≡ I32 ∷ []
gives_word true true type e = refl
gives_word true false type e = cc
gives_word false b type e = cc

pub callbacks_give_words : CallbacksGiveWords
callbacks_give_words f e = gives_word f.options.is_async (is_some f.options.callback) f.func_type e

-- The next one is the graph's of its number.
abbrev CanBeMade : Graph → Store → ℕ → Type 0
CanBeMade g s number =
    (c : CoreMake) × (slice_get g.cores number ≡ Some c) × ((imports : List External) × (externals s c.imports ≡ Some imports) × ImportsMatch s c.of_module imports)

makeable_by : (g : Graph) → IsTypedGraph g → (s : Store) (n number : ℕ) → HasCanons g s → (so : WereMadeSoFar g s n) (after : List CoreMake) → so.after ≡ after
    → Makes (length so.before) (Make number ∷ drop (n + 1) g.plan) after → CanBeMade g s number
makeable_by g sound s n number canons so [] e left = absurd left
makeable_by g sound s n number canons so (c ∷ cores) e left =
    let all : g.cores ≡ so.before ++ c ∷ cores = so.cores_are ∙ ap (λ (cs : List CoreMake). so.before ++ cs) e in
    let at : slice_get g.cores (length so.before) ≡ Some c = ap (λ (cs : List CoreMake). slice_get cs (length so.before)) all ∙ get_behind so.before c cores in
    let there : slice_get g.cores number ≡ Some c = ap (λ (i : ℕ). slice_get g.cores i) left.0 ∙ at in
    let imported : HasImports so.before g.canons c = imported_behind g.canons [] so.before cores c (subst (AreImported g.canons []) all sound.imported) in
    let is : ImportsAreThere s c = imports_match s g.canons so.before c canons imported so.made in
    (c, there, (is.0, is.1, is.2))

pub instances_are_makeable : InstancesAreMakeable
instances_are_makeable g w n number sound instantiates h e =
    let so : WereMadeSoFar g w.store n = subst (λ (c : Control). ActsTyped g c w.store w.tasks w.chain) instantiates h.acts in
    makeable_by g sound w.store n number h.canons so so.after refl (subst (λ (actions : List Action). Makes (length so.before) actions so.after) (drop_next g.plan n (Make number) e) so.left)
