-- A walk that compares an instance with a type (Component Model, Explainer.md, "Instance Definitions"): a stack of pairs of an
-- instance and a type that is asked of it, each with what is left of the type. What is above a pair belongs to an export of it
-- that is passed over already.
use Rattle.std.specs.Prelude.{◌≡◌, ◌<◌, ℕ, ◌+◌, ◌^◌, Bool, true, false, ◌&&◌, List, [], ◌∷◌, drop, Option, Some, None}
use Rattle.std.specs.List.{slice_get, list_all, AllZip}
use Rattle.comp_graph.specs.Closed.{Extern, Externs, first_of}
use Rattle.link_spec.specs.Definitions.{Definition, Exports, export_named, first_lacking}
use Rattle.link_spec.specs.Items.{first_told}
use Rattle.link_spec.specs.Tests.{fit_all}
use Rattle.link_instances.specs.Views.{extern_lacks, extern_fits}
use Rattle.link_values.specs.declared.refs.InstanceTypeRef.{InstanceTypeRef}
use Rattle.link_instances.specs.declared.references.InstanceRef.{InstanceRef}
use Rattle.link_instances.specs.declared.pairs.Pair.{Pair}
use Rattle.link_instances.specs.declared.fitting.Frame.{Frame as FrameRef}
use Rattle.link_instances.specs.declared.fitting.Step.{Step}
use Rattle.link_types.specs.Table.{Table, in_order}
use Rattle.link_types.specs.Table.{IsInstanceType}
use Rattle.link_instances.specs.declared.fitting.Step.TheVariants.{Done, Missing, Compared}
use Rattle.link_instances.specs.References.{World, IsInstance}
use Rattle.link_instances.specs.Comparing.{IsCompared}

-- a pair that is gone through, and what is left of it
pub record Frame : Type 0 where
  pub given : Exports
  pub asked : Externs
  pub rest : List (List ℕ × Extern)

abbrev pub frame_lacks : Frame → Option (List ℕ)
frame_lacks f = first_told (extern_lacks f.given) f.rest

abbrev pub frame_fits : Frame → Bool
frame_fits f = list_all (extern_fits f.given) f.rest

-- what a pair lacks, and whether it fits, which is known while all that was compared agrees
pub record Says (agrees : Bool) (given : Exports) (asked : Externs) (missing : Option (List ℕ)) (fit : Bool) : Type 0 where
  pub lacking : first_lacking given asked ≡ missing
  pub fitting : agrees ≡ true → fit_all given asked ≡ fit

-- Each pair of a stack lacks and fits as the pairs above it and what is left of its own say. Below the stack stands the pair that
-- the walk is for, which does not fit where something did not agree.
abbrev pub Holds : Exports → Externs → Bool → Option (List ℕ) → Bool → List Frame → Type 0
Holds given asked agrees missing fit [] = Says agrees given asked missing fit × (agrees ≡ false → fit_all given asked ≡ false)
Holds given asked agrees missing fit (f ∷ fs) =
    Says agrees f.given f.asked (first_of missing (frame_lacks f)) (fit && frame_fits f)
    × Holds given asked agrees (first_of missing (frame_lacks f)) (fit && frame_fits f) fs

-- A frame of references stands for one of trees.
pub record IsFrame (t : Table) (w : World) (ref : FrameRef) (f : Frame) : Type 0 where
  pub given : IsInstance t w ref.given f.given
  pub asked : IsInstanceType t ref.asked f.asked
  pub rest : f.rest ≡ drop ref.done (in_order f.asked)

-- The frames of a walk, the one on top first, stand for frames that say what its pair lacks and whether it fits.
pub record IsWalk (t : Table) (w : World) (given : Exports) (asked : Externs) (agrees : Bool) (stack : List FrameRef) : Type 0 where
  pub frames : List Frame
  pub stand : AllZip (IsFrame t w) stack frames
  pub holds : Holds given asked agrees None true frames

-- what comes next of a frame
abbrev pub IsStep : Table → World → FrameRef → Frame → Step → Type 0
IsStep t w ref f Done = f.rest ≡ []
IsStep t w ref f (Missing number) =
    (e : List ℕ × Extern) × (f.rest ≡ e ∷ drop (ref.done + 1) (in_order f.asked)) × (export_named e.0 f.given ≡ None) × (slice_get t.texts number ≡ Some e.0)
IsStep t w ref f (Compared c) =
    (e : List ℕ × Extern) × (d : Definition) × (f.rest ≡ e ∷ drop (ref.done + 1) (in_order f.asked)) × (export_named e.0 f.given ≡ Some d) × IsCompared t w d e.1 c

-- A pair that was gone through, which lacks nothing, and fits where all agrees.
pub record IsPassed (t : Table) (w : World) (agrees : Bool) (p : Pair) : Type 0 where
  pub given : Exports
  pub asked : Externs
  pub instance : IsInstance t w p.given given
  pub type : IsInstanceType t p.asked asked
  pub says : Says agrees given asked None true

abbrev pub pair_of : FrameRef → Pair
pair_of ref = record { given = ref.given; asked = ref.asked }

abbrev pub begun_with : InstanceRef → InstanceTypeRef → FrameRef
begun_with given asked = record { given = given; asked = asked; done = 0 }

abbrev pub behind_one : FrameRef → FrameRef
behind_one ref = record { given = ref.given; asked = ref.asked; done = ref.done + 1 }

-- A count of what is done has room for one more.
abbrev pub HasRoom : FrameRef → Step → Type 0
HasRoom ref Done = Unit {0}
HasRoom ref (Missing number) = Unit {0}
HasRoom ref (Compared c) = ref.done + 1 < 2 ^ 64
