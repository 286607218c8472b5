use Rattle.std.proofs.Common.{◌++◌, flat_map, chars, sym, ap, ◌∙◌, map-id}
use Rattle.std.proofs.lemmas.Iterator.{YieldsList-from_chars}
use Rattle.std.proofs.lemmas.Iterator.Consumers.{YieldsList-end}
use Rattle.syntax_trees.specs.CharText.{char_text}
use Rattle.value_texts.proofs.characters.push_chars.Goals as goal

pub returns : goal.returns
returns c =
    let end = YieldsList-end (YieldsList-from_chars c.as_str.result.now c.as_str.utf8 cc) c.loop-c.yielded _ c.loop-c.yielded_by _ _ c.in-None.is c.next.ensures.steps in
    c.loop-c.invariant ∙ ap (λ cs. c.args.to.now.items ++ flat_map (char_text 34) cs) (sym (map-id c.loop-c.yielded) ∙ end.0 ∙ ap chars c.as_str.ensures)
