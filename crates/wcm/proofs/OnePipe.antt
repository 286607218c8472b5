-- A pipe has one answer.
use Rattle.std.proofs.Common.{◌≡◌, ℕ, List, refl, ap, sym, ◌∙◌, subst, Result, Ok, Err}
use Rattle.ca_base.specs.declared.refusal.Refusal.{Refusal}
use Rattle.part_reader.specs.declared.fault.ComponentWhy.{ComponentWhy}
use Rattle.comp_tree.specs.declared.items.Component.{Component}
use Rattle.comp_reader.specs.Binary.{IsComponent, IsRefused, component, file, file_end}
use Rattle.link_spec.specs.declared.fault.LinkFault.{LinkFault}
use Rattle.link_spec.specs.Linked.{IsLinked, IsLinkRefused}
use Rattle.link_spec.proofs.Following.{one_graph, one_refusal, linked_is_not_refused}
use Rattle.comp_graph.specs.Graph.{Graph}
use Rattle.script_reader.specs.declared.fault.ScriptFault.{ScriptFault}
use Rattle.script_reader.specs.Script.{Script, script}
use Rattle.trace_labels.specs.declared.label.Label.{Label}
use Rattle.abi_machine.specs.declared.run_end.RunEnd.{RunEnd}
use Rattle.abi_machine.specs.World.{World}
use Rattle.abi_machine.specs.Run.{Runs}
use Rattle.abi_machine.specs.sound.Unique.{OneRun}
use Rattle.wcm.specs.declared.answer.Answer.{Answer}
use Rattle.wcm.specs.Answers.{refused_answer, link_refused_answer, script_refused_answer}
use Rattle.wcm.specs.Piped.{PipeAnswers, pipe_answer, pipe_bytes, pipe_script, pipe_refused, pipe_not_linked, pipe_script_refused, piped}
use Rattle.wcm.specs.Laws.{OnePipe}
use Rattle.wcm.proofs.Found.{matches_once, refuses_once, not_refused}

-- what some bytes come to: a refusal, a fault of linking, or a graph
data Outcome : Type 0 where
  Unread : Refusal ComponentWhy → Outcome
  Unlinked : LinkFault → Outcome
  Linked : Graph → Outcome

abbrev Comes : List ℕ → Outcome → Type 0
Comes bytes (Unread refusal) = IsRefused bytes refusal
Comes bytes (Unlinked fault) = (c : Component) × IsComponent bytes c × IsLinkRefused c fault
Comes bytes (Linked g) = (c : Component) × IsComponent bytes c × IsLinked c g

one_component : (bytes : List ℕ) (c d : Component) → IsComponent bytes c → IsComponent bytes d → c ≡ d
one_component bytes c d h k = matches_once component (file bytes) c d (file_end bytes) (file_end bytes) h k

read_or_not : (bytes : List ℕ) (c : Component) (e : Refusal ComponentWhy) → IsComponent bytes c → IsRefused bytes e → ⊥
read_or_not bytes c e h k = not_refused component (file bytes) c (file_end bytes) e h k

one_outcome : (bytes : List ℕ) (x y : Outcome) → Comes bytes x → Comes bytes y → x ≡ y
one_outcome bytes (Unread r) (Unread q) h k = ap (λ (e : Refusal ComponentWhy). Unread e) (refuses_once component (file bytes) r q h k)
one_outcome bytes (Unread r) (Unlinked f) h k = absurd (read_or_not bytes k.0 r k.1 h)
one_outcome bytes (Unread r) (Linked g) h k = absurd (read_or_not bytes k.0 r k.1 h)
one_outcome bytes (Unlinked f) (Unread r) h k = absurd (read_or_not bytes h.0 r h.1 k)
one_outcome bytes (Unlinked f) (Unlinked e) h k =
    ap (λ (e : LinkFault). Unlinked e) (one_refusal h.0 f e h.2 (subst (λ (c : Component). IsLinkRefused c e) (one_component bytes k.0 h.0 k.1 h.1) k.2))
one_outcome bytes (Unlinked f) (Linked g) h k =
    absurd (linked_is_not_refused h.0 g f (subst (λ (c : Component). IsLinked c g) (one_component bytes k.0 h.0 k.1 h.1) k.2) h.2)
one_outcome bytes (Linked g) (Unread r) h k = absurd (read_or_not bytes h.0 r h.1 k)
one_outcome bytes (Linked g) (Unlinked f) h k =
    absurd (linked_is_not_refused h.0 g f h.2 (subst (λ (c : Component). IsLinkRefused c f) (one_component bytes k.0 h.0 k.1 h.1) k.2))
one_outcome bytes (Linked g) (Linked e) h k =
    ap (λ (g : Graph). Linked g) (one_graph h.0 g e h.2 (subst (λ (c : Component). IsLinked c e) (one_component bytes k.0 h.0 k.1 h.1) k.2))

-- what is answered for it
record RunsSo (seed : ℕ) (g : Graph) (s : Script) (a : Answer) : Type 0 where
  labels : List Label
  last : World
  end : RunEnd
  runs : Runs g s labels last end
  answer : a ≡ pipe_answer seed labels end

abbrev BehindScript : ℕ → Graph → Result Script ScriptFault → Answer → Type 0
BehindScript seed g (Ok s) a = RunsSo seed g s a
BehindScript seed g (Err fault) a = a ≡ script_refused_answer fault

abbrev Behind : ℕ → Outcome → Answer → Type 0
Behind seed (Unread refusal) a = a ≡ refused_answer refusal
Behind seed (Unlinked fault) a = a ≡ link_refused_answer fault
Behind seed (Linked g) a = (said : Result Script ScriptFault) × (script g.exports pipe_script ≡ said) × BehindScript seed g said a

record ByPipe (seed count : ℕ) (a : Answer) : Type 0 where
  outcome : Outcome
  comes : Comes (pipe_bytes seed count) outcome
  behind : Behind seed outcome a

by_pipe : (seed count : ℕ) (a : Answer) → PipeAnswers seed count a → ByPipe seed count a
by_pipe seed count a (pipe_refused refusal r) = record { outcome = Unread refusal; comes = r; behind = refl }
by_pipe seed count a (pipe_not_linked c fault r f) = record { outcome = Unlinked fault; comes = (c, r, f); behind = refl }
by_pipe seed count a (pipe_script_refused c g fault r l f) = record { outcome = Linked g; comes = (c, r, l); behind = (Err fault, f, refl) }
by_pipe seed count a (piped c g calls labels last end r l s runs) =
    record {
      outcome = Linked g;
      comes = (c, r, l);
      behind = (Ok calls, s, record { labels = labels; last = last; end = end; runs = runs; answer = refl });
    }

module _ (one_run : OneRun) where
  one_run_so : (seed : ℕ) (g : Graph) (s : Script) (a b : Answer) → RunsSo seed g s a → RunsSo seed g s b → b ≡ a
  one_run_so seed g s a b x y =
      let one = one_run g s y.labels x.labels y.last x.last y.end x.end y.runs x.runs in
      y.answer ∙ (ap (λ (labels : List Label). pipe_answer seed labels y.end) one.0 ∙ (ap (λ (end : RunEnd). pipe_answer seed x.labels end) one.2 ∙ sym x.answer))

  one_behind_script : (seed : ℕ) (g : Graph) (said : Result Script ScriptFault) (a b : Answer) → BehindScript seed g said a → BehindScript seed g said b → b ≡ a
  one_behind_script seed g (Ok s) a b h k = one_run_so seed g s a b h k
  one_behind_script seed g (Err fault) a b h k = k ∙ sym h

  one_behind : (seed : ℕ) (outcome : Outcome) (a b : Answer) → Behind seed outcome a → Behind seed outcome b → b ≡ a
  one_behind seed (Unread refusal) a b h k = k ∙ sym h
  one_behind seed (Unlinked fault) a b h k = k ∙ sym h
  one_behind seed (Linked g) a b h k =
      let said : k.0 ≡ h.0 = sym k.1 ∙ h.1 in
      one_behind_script seed g h.0 a b h.2 (subst (λ (r : Result Script ScriptFault). BehindScript seed g r b) said k.2)

  pub one_pipe : OnePipe
  one_pipe seed count a b h k =
      let x = by_pipe seed count a h in
      let y = by_pipe seed count b k in
      let outcome : y.outcome ≡ x.outcome = one_outcome (pipe_bytes seed count) y.outcome x.outcome y.comes x.comes in
      one_behind seed x.outcome a b x.behind (subst (λ (o : Outcome). Behind seed o b) outcome y.behind)
