-- Members of sets (Component Model, CanonicalABI.md, "Waitable Set State", `canon waitable.join`): each is a subtask or an end that stands in
-- the table of the instance, none is in two sets or twice in one, and what has members is the set of an entry.
use Rattle.std.specs.Prelude.{◌≡◌, ◌≤◌, ℕ, ◌+◌, nat_eq, if◌then◌else◌, List, [], ◌∷◌, Some}
use Rattle.std.specs.List.{slice_get, AllByRecursion}
use Rattle.handle_table.specs.History.{Event, live}
use Rattle.comp_graph.specs.Graph.{Graph}
use Rattle.script_reader.specs.Script.{Script}
use Rattle.trace_labels.specs.declared.label.Label.{Label}
use Rattle.abi_machine.specs.World.{Entry, OfSet, Inst, World, first_world}
use Rattle.abi_machine.specs.Turn.{Steps}
use Rattle.abi_machine.specs.Next.{next}
use Rattle.abi_machine.specs.sound.Initial.{RunsAlone}
use Rattle.abi_machine.specs.sound.Changes.{IsWaitable}
use Rattle.abi_machine.specs.sound.Tables.{HaveHistories}

abbrev pub IsMember : List (Event Entry) → ℕ → Type 0
IsMember table index = (entry : Entry) × (live table index ≡ Some entry) × IsWaitable entry

-- how often an index is one of these members, and a member of these sets
abbrev pub times : ℕ → List ℕ → ℕ
times index [] = 0
times index (member ∷ members) = (if nat_eq index member then 1 else 0) + times index members

abbrev pub times_in : ℕ → List (List ℕ) → ℕ
times_in index [] = 0
times_in index (members ∷ sets) = times index members + times_in index sets

pub record HasMembers (table : List (Event Entry)) (sets : List (List ℕ)) : Type 0 where
  pub waitable : AllByRecursion (λ members. AllByRecursion (IsMember table) members) sets
  pub once : (index : ℕ) → times_in index sets ≤ 1
  pub held : (set first : ℕ) (members : List ℕ) → slice_get sets set ≡ Some (first ∷ members) → (index : ℕ) × (live table index ≡ Some (OfSet set))

abbrev pub HaveMembers : List Inst → Type 0
HaveMembers insts = AllByRecursion (λ inst. HasMembers inst.table inst.sets) insts

-- So it is in the first world, and so it stays.
abbrev pub FirstHasMembers : Type 0
FirstHasMembers = (g : Graph) → HaveMembers (first_world g).insts

abbrev pub MembersStay : Type 0
MembersStay =
    (g : Graph) (s : Script) (w v : World) (labels : List Label) → RunsAlone w → HaveHistories w.insts → HaveMembers w.insts → next g s w ≡ Steps labels v → HaveMembers v.insts
