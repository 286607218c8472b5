use Rattle.std.proofs.Common.{ℕ, List, map, Option, Some}
use Rattle.std.specs.List.{AllZip}
use Rattle.std.proofs.lemmas.Result.{IfOk-weaker}
use Rattle.comp_graph.specs.Closed.{Closed}
use Rattle.link_spec.specs.Types.{close_passed}
use Rattle.link_types.specs.Layered.{MayBeValue}
use Rattle.link_types.specs.Table.{IsType}
use Rattle.link_meanings.specs.Meant.{IsFoundAs}
use Rattle.link_meanings.specs.Levels.{AreTypes}
use Rattle.link_meanings.proofs.Lists.{all_known}
use Rattle.link_meanings.proofs.values.held_value.Goals as goal

pub returns-clause-ok : goal.returns-clause-ok
returns-clause-ok c =
    let t = c.args.types.now in
    let u = c.passed_of.new.types in
    IfOk-weaker c.passed_of.result
    (λ (o : Option (Option ℕ)). (closed : List (Option Closed)) → AreTypes t (map Some c.args.own.now) closed → IsFoundAs (MayBeValue u.values) o (close_passed closed c.args.val_type))
    (λ (o : Option (Option ℕ)). (closed : List Closed) → AllZip (IsType t) c.args.own.now closed → IsFoundAs (MayBeValue u.values) o (close_passed (map Some closed) c.args.val_type))
    (λ o h closed zips. h (map Some closed) (all_known (IsType t) c.args.own.now closed zips))
    c.passed_of.ensures.ok
