-- Definitions that are ready, and the items that add them.
use Rattle.std.proofs.Common.{◌≡◌, ℕ, List, sym, subst, Some}
use Rattle.std.specs.Prelude.{Result, Ok}
use Rattle.std.specs.List.{slice_get}
use Rattle.faults.specs.declared.memory.MemoryOr.{MemoryOr}
use Rattle.link_spec.specs.declared.fault.LinkWhy.{LinkWhy}
use Rattle.link_spec.specs.Definitions.{Definition, Exports}
use Rattle.link_spec.specs.Spaces.{Spaces, Linking}
use Rattle.link_spec.specs.Computed.{Outcome}
use Rattle.link_instances.specs.declared.references.DefinitionRef.{DefinitionRef}
use Rattle.link_instances.specs.References.{Stands}
use Rattle.link_parts.specs.Told.{IsTold}
use Rattle.link_state.specs.declared.linker.Linker.{Linker}
use Rattle.link_state.specs.State.{world_of, IsAt, IsLive, IsMade}
use Rattle.link_state.proofs.Steps.{told_ok}
use Rattle.comp_link.specs.Ready.{IsReady}

-- A definition that is ready is added.
pub added : (k new : Linker) (n : ℕ) (l : Linking) (s : Spaces) (make : Definition → Outcome) (ref : DefinitionRef) (outcome : Outcome)
    → IsReady k l make ref outcome → slice_get l.scopes n ≡ Some s → IsLive k n
    → ((bases : List Exports) (d : Definition) → IsAt bases k n l s → Stands k.types (world_of bases k) ref d → IsMade new (make d))
    → IsMade new outcome
added k new n l s make ref outcome ready there live adds =
    subst (λ o. IsMade new o) (sym ready.makes) (adds ready.bases ready.definition (record { state = ready.state; there = there; live = live }) ready.stands)

-- what an item comes to, by what is computed
pub outcome_ready : (k : Linker) (l : Linking) (make : Definition → Outcome) (ref : DefinitionRef) (x : Result Outcome LinkWhy) (o : Outcome) → x ≡ Ok o → IsReady k l make ref o → IsTold (IsReady k l make) (Ok ref) x
outcome_ready k l make ref x o is h = subst (λ (r : Result Outcome LinkWhy). IsTold (IsReady k l make) (Ok ref) r) (sym is) h

-- an item whose definition is ready is linked by adding it
pub linked_by : (k new : Linker) (n : ℕ) (l : Linking) (s : Spaces) (make : Definition → Outcome) (result : Result DefinitionRef (MemoryOr LinkWhy)) (ref : DefinitionRef) (x : Result Outcome LinkWhy)
    → result ≡ Ok ref → IsTold (IsReady k l make) result x → slice_get l.scopes n ≡ Some s → IsLive k n
    → ((bases : List Exports) (d : Definition) → IsAt bases k n l s → Stands k.types (world_of bases k) ref d → IsMade new (make d))
    → IsTold {B = Unit {0}} (λ _ outcome. IsMade new outcome) (Ok tt) x
linked_by k new n l s make result ref x is told there live adds =
    let ok = told_ok (IsReady k l make) result ref x is told in
    subst (λ (r : Result Outcome LinkWhy). IsTold {B = Unit {0}} (λ _ outcome. IsMade new outcome) (Ok tt) r) (sym ok.1) (added k new n l s make ref ok.0 ok.2 there live adds)
