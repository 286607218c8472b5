-- Of canonical functions, and of what tasks run, the same is asked on both sides.
use Rattle.std.proofs.Common.{◌≡◌, ℕ, zero, suc, ◌-◌, Bool, nat_eq, if◌then◌else◌, refl, ap, ◌∙◌, arith, Option, Some, None}
use Rattle.std.specs.List.{slice_get}
use Rattle.std.specs.Option.{option_map, option_and_then}
use Rattle.std.proofs.lemmas.Bool.{ne_eqb}
use Rattle.syntax_trees.specs.declared.exports.Export.{Export}
use Rattle.builtin_kinds.specs.declared.PlainBuiltin.{PlainBuiltin}
use Rattle.builtin_kinds.specs.declared.PlainBuiltin.TheVariants as plain
use Rattle.comp_graph.specs.declared.graph.EndOp.{EndOp}
use Rattle.comp_graph.specs.declared.graph.EndOp.TheVariants as end_op
use Rattle.comp_graph.specs.declared.graph.BuiltinKind.{BuiltinKind}
use Rattle.comp_graph.specs.declared.graph.BuiltinKind.TheVariants as kind
use Rattle.comp_graph.specs.declared.graph.CanonFunc.{CanonFunc}
use Rattle.comp_graph.specs.declared.graph.CanonFunc.TheVariants as canon
use Rattle.comp_graph.specs.declared.graph.FuncRef.{FuncRef}
use Rattle.comp_graph.specs.declared.graph.Lift.{Lift}
use Rattle.comp_graph.specs.declared.graph.Options.{Options}
use Rattle.comp_graph.specs.declared.graph.Resource.{Resource}
use Rattle.comp_graph.specs.Graph.{Graph, Lifted, lifted_as}
use Rattle.graph_views.specs.Canons as views
use Rattle.graph_views.specs.Callees as view
use Rattle.graph_views.specs.Callees.{lifted_in, destructor_by, destructor_in, lift_of}
use Rattle.task_table.specs.declared.errand.Callee.TheVariants as callee
use Rattle.copy_replies.specs.Seen.{seen}
use Rattle.abi_machine.specs.World.{Func, Callee}
use Rattle.abi_machine.specs.Canons as machine
use Rattle.abi_machine.specs.Canons.{inst_of_canon}
use Rattle.abi_machine.specs.Reading.{func_of}
use Rattle.abi_machine.specs.Counting.{passes}
use Rattle.abi_machine.proofs.sound.Found.{some_same}
use Rattle.standing.specs.Tasks.{lowered_in, destroyed_by, destroyed_in}
use Rattle.standing.specs.Ends.{Sees}
use Rattle.standing.specs.Events.{callback_in, SeesCallbacks}
use Rattle.standing.specs.Seen.{GraphIsSeen}

plain_flag : (op : PlainBuiltin) → views.flag_of_plain op ≡ machine.flag_of_plain op
plain_flag plain.TaskCancel = refl
plain_flag plain.BackpressureSet = refl
plain_flag plain.BackpressureInc = refl
plain_flag plain.BackpressureDec = refl
plain_flag (plain.SubtaskCancel is_async) = refl
plain_flag plain.SubtaskDrop = refl
plain_flag (plain.Yield cancellable) = refl
plain_flag plain.WaitableSetNew = refl
plain_flag plain.WaitableSetDrop = refl
plain_flag plain.WaitableJoin = refl

kind_flag : (b : BuiltinKind) → views.flag_of_kind b ≡ machine.flag_of_kind b
kind_flag (kind.Resource op resource) = refl
kind_flag (kind.TaskReturn result options) = refl
kind_flag (kind.Plain op) = plain_flag op
kind_flag (kind.Context op slot) = refl
kind_flag (kind.Wait op cancellable memory) = refl
kind_flag (kind.End of_what element op) = refl

canon_flag : (o : Option CanonFunc) → views.flag_in o ≡ machine.flag_in o
canon_flag None = refl
canon_flag (Some (canon.Lower l)) = refl
canon_flag (Some (canon.Builtin b)) = kind_flag b.kind

end_options : (op : EndOp) → views.options_of_end op ≡ machine.options_of_end op
end_options end_op.New = refl
end_options (end_op.Copy side options) = refl
end_options (end_op.Cancel side is_async) = refl
end_options (end_op.Drop side) = refl

kind_options : (b : BuiltinKind) → views.options_of_kind b ≡ machine.options_of_kind b
kind_options (kind.Resource op resource) = refl
kind_options (kind.TaskReturn result options) = refl
kind_options (kind.Plain op) = refl
kind_options (kind.Context op slot) = refl
kind_options (kind.Wait op cancellable memory) = refl
kind_options (kind.End of_what element op) = end_options op

canon_options : (o : Option CanonFunc) → views.options_in o ≡ machine.options_in o
canon_options None = refl
canon_options (Some (canon.Lower l)) = refl
canon_options (Some (canon.Builtin b)) = kind_options b.kind

canon_made : (o : Option CanonFunc) (instance : ℕ) → views.made_by o instance ≡ passes (λ c. nat_eq (inst_of_canon c) instance) o
canon_made None instance = refl
canon_made (Some (canon.Lower l)) instance = refl
canon_made (Some (canon.Builtin b)) instance = refl

graph_seen : (g : Graph) → Sees g (seen g)
graph_seen g = record {
  flag = λ number. canon_flag (slice_get g.canons number);
  is_async = λ number. ap (λ (o : Options). o.is_async) (canon_options (slice_get g.canons number));
  options = λ number. canon_options (slice_get g.canons number);
  made_in = λ number instance. canon_made (slice_get g.canons number) instance;
}

-- Callbacks.
abbrev callee_in : Option Callee → Option Lifted
callee_in o = option_and_then func_of o

by_export : (o : Option Export) (p : Option Lift) (f : Lifted) → callee_in (option_map Func (lifted_as o p)) ≡ Some f → callback_in p ≡ f.options.callback
by_export None None f h = absurd (cc)
by_export None (Some lift) f h = absurd (cc)
by_export (Some e) None f h = absurd (cc)
by_export (Some e) (Some lift) f h = ap (λ (x : Lifted). x.options.callback) (some_same h)

by_lower : (o : Option CanonFunc) (f : Lifted) → callee_in (lowered_in o) ≡ Some f → callback_in (lifted_in o) ≡ f.options.callback
by_lower None f h = absurd (cc)
by_lower (Some (canon.Lower l)) f h = ap (λ (x : Lifted). x.options.callback) (some_same h)
by_lower (Some (canon.Builtin b)) f h = absurd (cc)

by_core : (resource instance : ℕ) (o : Option FuncRef) (f : Lifted) → callee_in (destroyed_by resource instance o) ≡ Some f → callback_in (destructor_by instance o) ≡ f.options.callback
by_core resource instance None f h = absurd (cc)
by_core resource instance (Some core) f h = ap (λ (x : Lifted). x.options.callback) (some_same h)

by_resource : (resource : ℕ) (o : Option Resource) (f : Lifted) → callee_in (destroyed_in resource o) ≡ Some f → callback_in (destructor_in o) ≡ f.options.callback
by_resource resource None f h = absurd (cc)
by_resource resource (Some r) f h = by_core resource r.instance r.destructor f h

pub resource_same : (g : Graph) (number : ℕ) → view.resource_at g number ≡ machine.resource_at g number
resource_same g zero = refl
resource_same g (suc place) =
    ap (λ (b : Bool). if b then None else slice_get g.resources (suc place - 1)) (ne_eqb (suc place) 0 (λ (e : suc place ≡ 0). omega (arith, e)))
    ∙ ap (λ (n : ℕ). slice_get g.resources n) (let less : suc place - 1 ≡ place = omega arith in less)

callbacks_seen : (g : Graph) → SeesCallbacks g (seen g)
callbacks_seen g callee.Init f h = absurd (cc)
callbacks_seen g (callee.Export number) f h = by_export (slice_get g.exports number) (slice_get g.lifts number) f h
callbacks_seen g (callee.Lowered number) f h = by_lower (slice_get g.canons number) f h
callbacks_seen g (callee.Destroys resource) f h =
    ap (λ (o : Option Resource). callback_in (destructor_in o)) (resource_same g resource) ∙ by_resource resource (machine.resource_at g resource) f h

pub graph_is_seen : GraphIsSeen
graph_is_seen g = (graph_seen g, callbacks_seen g)
