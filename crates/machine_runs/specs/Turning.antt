-- Turns (Component Model, Concurrency.md, "Summary"): where no task runs, the script's next item is taken or an able task goes on, or the run
-- ends.
use Rattle.std.specs.Prelude.{ℕ, nat_lt, Bool, List, map, length}
use Rattle.std.specs.List.{slice_get}
use Rattle.script_reader.specs.declared.script.Call.{Call}
use Rattle.script_reader.specs.declared.script.Item.{Item}
use Rattle.script_reader.specs.declared.script.Item.TheVariants as item
use Rattle.syntax_trees.specs.declared.exports.Export.{Export}
use Rattle.comp_graph.specs.declared.graph.Lift.{Lift}
use Rattle.comp_graph.specs.Graph.{Graph}
use Rattle.graph_views.specs.Callees.{kind_of}
use Rattle.programs.specs.declared.program.CallNumbers.{CallNumbers}
use Rattle.programs.specs.declared.program.Program.{Program}
use Rattle.programs.specs.Typed.{typed}
use Rattle.world_parts.specs.declared.parts.Flow.{Flow}
use Rattle.world_parts.specs.declared.parts.Turned.{Turned}
use Rattle.world_parts.specs.declared.parts.Turned.TheVariants as turned
use Rattle.world_parts.specs.Held.{Held, Done, Gives, after, given}
use Rattle.world_parts.specs.Turning.{able, turns_by, call_taken, call_cancelled}
use Rattle.world_stacks.specs.Views.{PileView}
use Rattle.replies.specs.Seen.{seen}
use Rattle.machine_runs.specs.Following.{with_piles}

-- the script has an item that is not taken
abbrev pub has_item : Program → Held → Bool
has_item p h = nat_lt h.taken (length p.script.now.items)

-- A call of the script, of the export whose number is said.
abbrev pub call_by : ℕ → Export → Lift → Call → Held → Done Flow
call_by number e lift call h =
    call_taken number lift.instance (kind_of lift.options) call.name (typed (map (λ p. p.val_type) e.func_type.params) call.values) h

abbrev pub call_of : Graph → CallNumbers → Call → Held → Done Flow
call_of g numbers call h =
    given (slice_get g.exports numbers.export) (λ e. given (slice_get g.lifts numbers.export) (λ lift. call_by numbers.export e lift call h))

-- An item is taken. The numbers of the script's calls stand in their order.
abbrev pub item_done : Program → Item → Held → Done Flow
item_done p (item.Call call) h = given (slice_get p.calls.items (length h.calls)) (λ numbers. call_of p.graph.now numbers call h)
item_done p (item.Cancel call) h = call_cancelled call h

unfoldable pub next_item_taken : Program → List PileView → Held → Done (Turned × List PileView)
next_item_taken p piles h =
    given (slice_get p.script.now.items h.taken) (λ next. after (item_done p next h) (λ f k. Gives (turned.TakesItem, with_piles (length k.tasks) piles) k))

abbrev pub turned_so : Program → Turned → List PileView → Held → Done (Turned × List PileView)
turned_so p turned.Ends piles h = Gives (turned.Ends, piles) h
turned_so p turned.TakesItem piles h = next_item_taken p piles h
turned_so p turned.GoesOn piles h = Gives (turned.GoesOn, piles) h

-- A turn, where no task runs.
unfoldable pub turns : Program → List PileView → Held → Done (Turned × List PileView)
turns p piles h =
    after (turns_by (has_item p h) (able (seen p.graph.now) h) h) (λ what k. turned_so p what piles k)
