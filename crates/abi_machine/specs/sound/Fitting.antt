-- How tasks are called and copies are made (Component Model, CanonicalABI.md, `canon lower`, `canon resource.drop`, `canon stream.{read,write}`, `canon
-- future.{read,write}`): what the script called has values of the types of its parameters; what a canonical function called is the function that it
-- lowers, or a destructor; and each copy under way is of a built-in of its side and of elements of the same type.
use Rattle.std.specs.Prelude.{◌≡◌, List, map, Some}
use Rattle.std.specs.List.{AllByRecursion}
use Rattle.stream_ends.specs.declared.open_copy.OpenCopy.{OpenCopy}
use Rattle.stream_ends.specs.Ends.{end_at}
use Rattle.comp_graph.specs.Graph.{Graph, Lifted}
use Rattle.script_reader.specs.Script.{Script, AreOfTypes}
use Rattle.trace_labels.specs.declared.label.Label.{Label}
use Rattle.abi_machine.specs.Control.{EndRef}
use Rattle.abi_machine.specs.World.{Callee, Func, Caller, Nobody, Host, Guest, Task, Channel, World, first_world}
use Rattle.abi_machine.specs.Turn.{Steps}
use Rattle.abi_machine.specs.Next.{next}
use Rattle.abi_machine.specs.sound.Agreeing.{channel_in}
use Rattle.abi_machine.specs.sound.Initial.{RunsAlone}
use Rattle.abi_machine.specs.sound.CallsFit.{IsCalledBy, IsCopyBy}
use Rattle.abi_machine.specs.sound.Scripts.{IsScriptFor}

abbrev pub FitsCall : Graph → Callee → Caller → Type 0
FitsCall g callee Nobody = Unit {0}
FitsCall g callee (Host call values) = (f : Lifted) × (callee ≡ Func f) × AreOfTypes (map (λ p. p.val_type) f.func_type.params) values
FitsCall g callee (Guest subtask) = IsCalledBy g subtask.canon callee

abbrev pub CallsFit : Graph → List Task → Type 0
CallsFit g tasks = AllByRecursion (λ task. FitsCall g task.callee task.caller) tasks

abbrev pub CopiesFit : Graph → List Channel → List Channel → Type 0
CopiesFit g streams futures =
    (e : EndRef) (c : Channel) (copy : OpenCopy) → channel_in e.kind e.number streams futures ≡ Some c → (end_at e.side c.ends.view).copy ≡ Some copy → IsCopyBy g e.kind e.side c.element copy.canon

-- So it is in the first world, and so it stays.
abbrev pub FirstFits : Type 0
FirstFits = (g : Graph) → CallsFit g (first_world g).tasks × CopiesFit g (first_world g).streams (first_world g).futures

abbrev pub CallsStayFit : Type 0
CallsStayFit = (g : Graph) (s : Script) (w v : World) (labels : List Label) → IsScriptFor g s → RunsAlone w → CallsFit g w.tasks → next g s w ≡ Steps labels v → CallsFit g v.tasks

abbrev pub CopiesStayFit : Type 0
CopiesStayFit =
    (g : Graph) (s : Script) (w v : World) (labels : List Label) → RunsAlone w → CopiesFit g w.streams w.futures → next g s w ≡ Steps labels v → CopiesFit g v.streams v.futures
