-- A walk that compares an instance with a type (Component Model, Explainer.md, "Instance Definitions"), as its state stands for
-- frames of trees, and what a turn of it comes to.
use Rattle.std.specs.Prelude.{◌≡◌, ◌&&◌, ◌||◌, Bool, true, false, List, [], ◌∷◌, ◌++◌, reverse, Result, Ok, Err}
use Rattle.std.specs.declared.alloc.AllocError.{AllocError}
use Rattle.comp_graph.specs.Closed.{OfInstance, Externs}
use Rattle.link_spec.specs.Definitions.{AnInstance, Exports}
use Rattle.link_values.specs.declared.refs.InstanceTypeRef.{InstanceTypeRef}
use Rattle.link_instances.specs.declared.references.InstanceRef.{InstanceRef}
use Rattle.link_instances.specs.declared.pairs.Pair.{Pair}
use Rattle.link_instances.specs.declared.instances.Instances.{Instances}
use Rattle.std.specs.BTreeSet.{BTreeSet}
use Rattle.link_instances.specs.declared.comparing.Comparison.{Comparison}
use Rattle.link_instances.specs.declared.comparing.Comparison.TheVariants.{Agrees, Inside}
use Rattle.link_instances.specs.declared.fitting.Frame.{Frame}
use Rattle.link_instances.specs.declared.fitting.Walk.{Walk}
use Rattle.link_instances.specs.declared.fitting.Turn.{Turn}
use Rattle.link_instances.specs.declared.fitting.Turn.TheVariants.{GoesOn, Ends}
use Rattle.link_types.specs.Table.{Table}
use Rattle.link_instances.specs.References.{World}
use Rattle.link_instances.specs.Pairs.{has_pair}
use Rattle.link_instances.specs.Instances.{AreInstances}
use Rattle.link_instances.specs.Fit.{IsFit}
use Rattle.link_instances.specs.Fitting.{IsWalk, IsPassed, begun_with, behind_one}

-- a walk that begins with a pair
pub record IsBegun (given : InstanceRef) (asked : InstanceTypeRef) (walk : Walk) : Type 0 where
  pub stack : walk.stack.items ≡ begun_with given asked ∷ []
  pub agrees : walk.agrees ≡ true
  pub passed : (p : Pair) → has_pair walk.passed p ≡ false

-- The pairs that a walk remembers were passed.
abbrev pub ArePassed : Table → World → Walk → Type 0
ArePassed t w walk = (p : Pair) → has_pair walk.passed p ≡ true → IsPassed t w walk.agrees p

-- A walk is on the way to tell whether the exports are of the type.
pub record IsOn (t : Table) (w : World) (given : Exports) (asked : Externs) (walk : Walk) : Type 0 where
  pub stack : IsWalk t w given asked walk.agrees (reverse walk.stack.items)
  pub passed : ArePassed t w walk

-- the stack behind an export that is an instance: with its pair, unless the pair is remembered
abbrev pub stack_inside : Bool → List Frame → Frame → InstanceRef → InstanceTypeRef → List Frame
stack_inside true stack frame given asked = stack ++ behind_one frame ∷ []
stack_inside false stack frame given asked = stack ++ behind_one frame ∷ begun_with given asked ∷ []

-- A walk behind an export that was compared, with these known pairs, and with what it was before.
abbrev pub IsBehind : BTreeSet Pair → Frame → Comparison → List Frame → Bool → BTreeSet Pair → Walk → Type 0
IsBehind known frame (Agrees b) stack agrees passed new =
    (new.stack.items ≡ stack ++ behind_one frame ∷ []) × (new.agrees ≡ (agrees && b)) × (new.passed ≡ passed)
IsBehind known frame (Inside given asked) stack agrees passed new =
    (new.stack.items ≡ stack_inside (has_pair known (record { given = given; asked = asked }) || has_pair passed (record { given = given; asked = asked })) stack frame given asked)
    × (new.agrees ≡ agrees) × (new.passed ≡ passed)

-- what a turn comes to
abbrev pub IsTurn : Table → World → Exports → Externs → Instances → Walk → Result Turn AllocError → Type 0
IsTurn t w given asked instances walk (Ok GoesOn) = AreInstances t w instances × IsOn t w given asked walk
IsTurn t w given asked instances walk (Ok (Ends fit)) = AreInstances t w instances × IsFit t (AnInstance given) (OfInstance asked) fit
IsTurn t w given asked instances walk (Err e) = AreInstances t w instances
