-- Words whose files are told, of bytes, have an answer, where what runs leave is told of their last worlds.
use Rattle.std.proofs.Common.{◌≡◌, ◌⊎◌, ℕ, Bool, true, false, List, [], length, Option, Some, None, Result, Ok, Err, inl, inr, refl, subst}
use Rattle.std.specs.Option.{IfSome, IsSome}
use Rattle.std.proofs.lemmas.Bool.{cases_lt}
use Rattle.comp_tree.specs.declared.items.Component.{Component}
use Rattle.comp_reader.specs.Binary.{IsComponent}
use Rattle.comp_reader.specs.Laws.{OneReading}
use Rattle.script_reader.specs.declared.fault.ScriptFault.{ScriptFault}
use Rattle.script_reader.specs.Script.{Script, script}
use Rattle.comp_graph.specs.Graph.{Graph}
use Rattle.link_spec.specs.Linked.{IsLinked}
use Rattle.link_spec.specs.Laws.{LinkedOrRefused}
use Rattle.lowering_laws.specs.Values.{AreBytes}
use Rattle.trace_labels.specs.declared.label.Label.{Label}
use Rattle.abi_machine.specs.declared.run_end.RunEnd.{RunEnd}
use Rattle.abi_machine.specs.World.{World}
use Rattle.abi_machine.specs.Run.{Runs}
use Rattle.abi_machine.specs.Dump.{dump_of}
use Rattle.async_graph_laws.specs.ReadRuns.{AreRead, ReadRunsAreOne}
use Rattle.command_words.specs.Words.{Command, Run, Check, Show, component_file}
use Rattle.wcm.specs.declared.answer.Answer.{Answer}
use Rattle.wcm.specs.Files.{component_limit, too_long, MayHold, IsComponentFile, IsFileLinked, IsScriptFile, IsScriptTold, AreTold}
use Rattle.wcm.specs.Leaving.{IsOver, Leaves, not_asked, of_world}
use Rattle.wcm.specs.Answers.{Answers, no_command, file_refused, not_linked, accepted, shown, script_refused, ran, usage_answer, refused_answer, link_refused_answer, script_refused_answer, accepted_answer, shown_answer, run_answer}
use Rattle.wcm.specs.Laws.{IsToldOfWorlds, SomeAnswer}
use Rattle.wcm.proofs.Held.{told_bytes, may_hold}

-- what is held are bytes
are_bytes : (o : Option (List ℕ)) (bytes : List ℕ) → IfSome o AreBytes → o ≡ Some bytes → AreBytes bytes
are_bytes o bytes h e = subst (λ (o : Option (List ℕ)). IfSome o AreBytes) e h

-- what stands behind the trace
pub left_so : (g : Graph) (s : Script) (labels : List Label) (last : World) (end : RunEnd) (dump : Bool) → (dump ≡ false) ⊎ IsOver end
    → (left : List ℕ) × Leaves g s labels last end dump left
left_so g s labels last end false h = ([], not_asked)
left_so g s labels last end true h = elim h [ inl asked ↦ cc | inr over ↦ (dump_of last, of_world over) ]

module _ (reading : OneReading) (links : LinkedOrRefused) (runs_are_one : ReadRunsAreOne) where
  by_script : (held : List ℕ → Option (List ℕ)) (file name : List ℕ) (dump : Bool) (bytes text : List ℕ) (c : Component) (g : Graph) (r : Result Script ScriptFault)
      → AreBytes bytes → IsComponent bytes c → IsLinked c g → IsFileLinked held file g → IsToldOfWorlds held (Run file name dump) → MayHold held name text → script g.exports text ≡ r → (a : Answer) × Answers held (Some (Run file name dump)) a
  by_script held file name dump bytes text c g (Err fault) b i l linked worlds holds h =
      (script_refused_answer fault, script_refused file name dump g fault linked (record { text = text; holds = holds; refused = h }))
  by_script held file name dump bytes text c g (Ok s) b i l linked worlds holds h =
      let read : IsScriptFile held name g.exports s = record { text = text; holds = holds; read = h } in
      let run = runs_are_one bytes text g s (record { bytes = b; component = c; read = i; linked = l; script = h }) in
      let left = left_so g s run.labels run.last run.end dump (worlds g s run.labels run.last run.end linked read run.runs) in
      (run_answer run.labels run.end left.0, ran file name dump g s run.labels run.last run.end left.0 linked read run.runs left.1)

  -- by what the script file holds
  by_run : (held : List ℕ → Option (List ℕ)) (file name : List ℕ) (dump : Bool) (bytes : List ℕ) (c : Component) (g : Graph)
      → AreBytes bytes → MayHold held file bytes → IsComponentFile bytes c → IsLinked c g → IsToldOfWorlds held (Run file name dump) → IsSome (held name)
      → (a : Answer) × Answers held (Some (Run file name dump)) a
  by_run held file name dump bytes c g b holds read l worlds told =
      let text = told_bytes (held name) told in
      by_script held file name dump bytes text.0 c g (script g.exports text.0) b read.1 l (record { bytes = bytes; component = c; holds = holds; read = read; linked = l }) worlds (may_hold (held name) text.0 text.1) refl

  -- behind a graph
  by_graph : (held : List ℕ → Option (List ℕ)) (command : Command) (bytes : List ℕ) (c : Component) (g : Graph)
      → AreBytes bytes → MayHold held (component_file command) bytes → IsComponentFile bytes c → IsLinked c g → IsToldOfWorlds held command → IsScriptTold held command → (a : Answer) × Answers held (Some command) a
  by_graph held (Run file name dump) bytes c g b holds read l worlds told = by_run held file name dump bytes c g b holds read l worlds told
  by_graph held (Check file) bytes c g b holds read l worlds told = (accepted_answer, accepted file g (record { bytes = bytes; component = c; holds = holds; read = read; linked = l }))
  by_graph held (Show file) bytes c g b holds read l worlds told = (shown_answer g, shown file g (record { bytes = bytes; component = c; holds = holds; read = read; linked = l }))

  by_bytes : (held : List ℕ → Option (List ℕ)) (command : Command) (bytes : List ℕ) → AreBytes bytes → MayHold held (component_file command) bytes → AreTold held command → IsToldOfWorlds held command
      → (a : Answer) × Answers held (Some command) a
  by_bytes held command bytes b holds told worlds =
      elim (cases_lt component_limit (length bytes)) [
        | inl long ↦ (refused_answer too_long, file_refused command too_long (record { bytes = bytes; holds = holds; refused = inl (long, refl) }))
        | inr short ↦ elim (reading bytes) [
          | inl good ↦ elim (links good.0) [
            | inl graph ↦
                let linked : IsFileLinked held (component_file command) graph.0 = record { bytes = bytes; component = good.0; holds = holds; read = (short, good.1); linked = graph.1 } in
                by_graph held command bytes good.0 graph.0 b holds (short, good.1) graph.1 worlds (told.script graph.0 linked)
            | inr bad ↦ (link_refused_answer bad.0, not_linked command bad.0 (record { bytes = bytes; component = good.0; holds = holds; read = (short, good.1); refused = bad.1 }))
          ]
          | inr bad ↦ (refused_answer bad.0, file_refused command bad.0 (record { bytes = bytes; holds = holds; refused = inr (short, bad.1) }))
        ]
      ]

  pub some_answer : SomeAnswer
  some_answer held None bytes told worlds = (usage_answer [], no_command [])
  some_answer held (Some command) bytes told worlds =
      let file = told_bytes (held (component_file command)) told.component in
      by_bytes held command file.0 (are_bytes (held (component_file command)) file.0 (bytes (component_file command)) file.1) (may_hold (held (component_file command)) file.0 file.1) told worlds
