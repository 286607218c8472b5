-- Where values are lowered over what is kept: the memory and the function that gives places in it, the instance, the task, and the resources that the
-- instance defines.
use Rattle.std.proofs.Common.{◌≡◌, ℕ, Bool, true, false, if◌then◌else◌, List, refl, sym, ap, ◌∙◌, subst, arith, Option, Some, None}
use Rattle.std.specs.List.{slice_get}
use Rattle.std.specs.Option.{option_and_then}
use Rattle.wasm_store.specs.Store.{Store}
use Rattle.comp_graph.specs.declared.graph.FuncRef.{FuncRef}
use Rattle.comp_graph.specs.declared.graph.FuncRef.TheVariants as func_ref
use Rattle.comp_graph.specs.declared.graph.Options.{Options}
use Rattle.instances.specs.Instances.{InstanceView}
use Rattle.task_table.specs.declared.slot.TaskSlot.{TaskSlot}
use Rattle.programs.specs.declared.program.Program.{Program}
use Rattle.programs.specs.Program.{resources_of}
use Rattle.world_parts.specs.Held as kept
use Rattle.world_parts.specs.Held.{Held, Done, Gives, given}
use Rattle.world_stacks.specs.Addresses as kept_addresses
use Rattle.value_parts.specs.Coming.{Behind}
use Rattle.value_moves.specs.declared.lowering.Destination.{Destination}
use Rattle.value_moves.specs.Lowering.{Site, address_or_none, site_found}
use Rattle.abi_machine.specs.Canons as canons
use Rattle.standing.specs.Lowers.{IsMemory}

-- The memory of a destination, and the function that gives places in it, are those that options name.
pub memory_is : (memory : Option ℕ) (s : Store) → IsMemory memory (address_or_none memory s) s
memory_is None s = omega (arith)
memory_is (Some address) s = refl

realloc_same : (s : Store) (realloc : Option FuncRef) → option_and_then (kept_addresses.func_address s) realloc ≡ option_and_then (canons.func_address s) realloc
realloc_same s None = refl
realloc_same s (Some (func_ref.Instance f)) = refl
realloc_same s (Some (func_ref.Canon number)) = refl

pub memory_there : (memory wanted : Option ℕ) (s there : Store) → memory ≡ wanted → s ≡ there → IsMemory wanted (address_or_none memory s) there
memory_there memory wanted s there same store =
    subst (λ (address : ℕ). IsMemory wanted address there)
    (ap (λ (m : Option ℕ). address_or_none m there) (sym same) ∙ ap (λ (r : Store). address_or_none memory r) (sym store)) (memory_is wanted there)

pub realloc_there : (s there : Store) (given wanted : Options) → s ≡ there → given ≡ wanted → kept_addresses.realloc_of s given ≡ canons.realloc_of there wanted
realloc_there s there given wanted store options =
    ap (λ (r : Store). kept_addresses.realloc_of r given) store ∙ ap (λ (o : Options). kept_addresses.realloc_of there o) options ∙ realloc_same there wanted.realloc

module _ (p : Program) (to : Destination) (k : Held) (At : Site → Held → Done (List ℕ) → Type 0) (Goal : Done (List ℕ) → Type 0) (mid : Done (List ℕ)) (none : Goal kept.Stuck) where
  abbrev site : InstanceView → TaskSlot → List ℕ → Site
  site i slot resources = record { instance = i; context = slot.context; resources = resources }

  abbrev pub IsThere : Bool → Type 0
  IsThere fit =
      (i : InstanceView) (slot : TaskSlot) (resources : List ℕ) → slice_get k.instances to.instance ≡ Some i → slice_get k.tasks to.task ≡ Some slot
      → resources_of p to.instance ≡ Some resources → fit ≡ true → At (site i slot resources) k mid → Goal mid

  stuck : mid ≡ kept.Stuck → Goal mid
  stuck is = subst Goal (sym is) none

  by_fit : (i : InstanceView) (slot : TaskSlot) (resources : List ℕ) (fit all : Bool) → slice_get k.instances to.instance ≡ Some i → slice_get k.tasks to.task ≡ Some slot
      → resources_of p to.instance ≡ Some resources → all ≡ fit → IsThere all → Behind (if fit then Gives (site i slot resources) k else kept.Stuck) At mid → Goal mid
  by_fit i slot resources true all inst task own fits more comes = more i slot resources inst task own fits comes
  by_fit i slot resources false all inst task own fits more comes = stuck comes

  by_own : (i : InstanceView) (slot : TaskSlot) (o : Option (List ℕ)) (fit : Bool) → slice_get k.instances to.instance ≡ Some i → slice_get k.tasks to.task ≡ Some slot
      → resources_of p to.instance ≡ o → IsThere fit → Behind (given o (λ resources. if fit then Gives (site i slot resources) k else kept.Stuck)) At mid → Goal mid
  by_own i slot None fit inst task own more comes = stuck comes
  by_own i slot (Some resources) fit inst task own more comes = by_fit i slot resources fit fit inst task own refl more comes

  by_task : (i : InstanceView) (o : Option TaskSlot) (fit : Bool) → slice_get k.instances to.instance ≡ Some i → slice_get k.tasks to.task ≡ o → IsThere fit
      → Behind (given o (λ slot. given (resources_of p to.instance) (λ resources. if fit then Gives (site i slot resources) k else kept.Stuck))) At mid → Goal mid
  by_task i None fit inst task more comes = stuck comes
  by_task i (Some slot) fit inst task more comes = by_own i slot (resources_of p to.instance) fit inst task refl more comes

  by_inst : (o : Option InstanceView) (fit : Bool) → slice_get k.instances to.instance ≡ o → IsThere fit
      → Behind (given o (λ i. given (slice_get k.tasks to.task) (λ slot. given (resources_of p to.instance) (λ resources. if fit then Gives (site i slot resources) k else kept.Stuck)))) At mid
      → Goal mid
  by_inst None fit inst more comes = stuck comes
  by_inst (Some i) fit inst more comes = by_task i (slice_get k.tasks to.task) fit inst refl more comes

  pub at_site : (fit : Bool) → IsThere fit → Behind (site_found p to fit k) At mid → Goal mid
  at_site fit more comes = by_inst (slice_get k.instances to.instance) fit refl more comes
