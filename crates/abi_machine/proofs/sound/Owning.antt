-- Core definitions stay in their component instance, in every step.
use Rattle.std.proofs.Common.{◌≡◌, ℕ, zero, suc, List, [], ◌∷◌, map, refl, ap, Some}
use Rattle.std.specs.List.{slice_get}
use Rattle.comp_graph.specs.declared.graph.CanonFunc.{CanonFunc}
use Rattle.comp_graph.specs.Graph.{Graph, canon_type}
use Rattle.wasm_store.specs.Store.{Host as HostFunction}
use Rattle.script_reader.specs.Script.{Script}
use Rattle.abi_machine.specs.Control.{Control, Free, Chosen, Instantiates, Runs, Arrives, Lowers, Quiet, Back, Goes as GoesOn, Resumes, Delivers, Leaves, Doomed}
use Rattle.abi_machine.specs.Control as control
use Rattle.abi_machine.specs.World.{World}
use Rattle.abi_machine.specs.sound.Owners.{IsControlOwn, IsOwnWorld, FirstIsOwn, OwnStays}
use Rattle.abi_machine.proofs.sound.Ordered.{in_order}
use Rattle.abi_machine.proofs.sound.own.Kept.{own_kept, own_removed}
use Rattle.abi_machine.proofs.sound.known.Keeping.{Promises}
use Rattle.abi_machine.proofs.sound.known.Beside.{beside}
use Rattle.abi_machine.proofs.sound.known.Turning.{step_known}

pub get_mapped : (all : List CanonFunc) (number : ℕ) (c : CanonFunc) → slice_get all number ≡ Some c → slice_get (map (λ x. HostFunction (canon_type x)) all) number ≡ Some (HostFunction (canon_type c))
get_mapped [] number c e = cc
get_mapped (x ∷ all) zero c e = let same : x ≡ c = cc in ap (λ (y : CanonFunc). Some (HostFunction (canon_type y))) same
get_mapped (x ∷ all) (suc number) c e = get_mapped all number c e

pub first_is_own : FirstIsOwn
first_is_own g apart = (
  record {
    canons = λ number c there. get_mapped g.canons number c there;
    owned = (
      record { tables = []; memories = [] },
      record {
        count = refl;
        memory_count = refl;
        funcs = λ number owner i e there. cc;
        tables = λ number owner i e there. cc;
        memories = λ number owner i e there. cc;
        entries = λ address owner t e there. cc;
      },
    );
    each = (record { lifted = tt; code = tt; waits = tt }, tt);
  },
  record { before = []; after = g.cores; cores_are = refl; counted = refl; left = apart.planned },
)

promised : (g : Graph) (s : Script) (c : Control) (w : World) → Promises (Unit {0}) ⊥ g s c w → IsControlOwn g c w
promised g s Free w h = tt
promised g s (Chosen k) w h = tt
promised g s (Instantiates n) w h = h tt
promised g s Runs w h = tt
promised g s (control.Calls number words) w h = h tt
promised g s Arrives w h = tt
promised g s (Lowers l plan) w h = h tt
promised g s (Quiet n b) w h = h tt
promised g s Back w h = tt
promised g s GoesOn w h = tt
promised g s Resumes w h = tt
promised g s (Delivers set receiver pick) w h = tt
promised g s Leaves w h = tt
promised g s (Doomed t why) w h = tt

pub own_stays : OwnStays
unfolding beside in_order
own_stays g s w v labels apart alone o own says e =
    let k = step_known
    (beside g s (in_order g s) ⊥ (Unit {0}) ⊥ ⊥ (IsOwnWorld g) (λ a. apart) (λ event. absurd event) (λ a u h. h) (λ c u may b belongs h. own_kept g s c u may (belongs tt) h) (λ t u may h. h) (λ t u may h. own_removed g t u h))
    w v labels (λ none. absurd none) (λ asks. absurd asks) (λ copies. absurd copies) (λ a. says) (λ event. absurd event) alone.1 o.2 ((alone.0, o.0, o.1), own) e in
    (k.0.1, promised g s v.control v k.1)
