use Rattle.std.proofs.Common.{◌≡◌, ◌∙◌, ℕ, List, Option, refl, sym, ap, subst}
use Rattle.syntax_trees.specs.declared.exports.Export.{Export}
use Rattle.syntax_trees.specs.declared.types.ValType.{ValType}
use Rattle.laid_types.specs.SameTypes.{AreDistinct}
use Rattle.comp_graph.specs.Passed.{TypeTable, HasCanonType, AreCanonTypes}
use Rattle.comp_graph.specs.declared.graph.Resource.{Resource}
use Rattle.script_reader.specs.declared.script.Item.{Item}
use Rattle.programs.specs.declared.program.FuncNumbers.{FuncNumbers}
use Rattle.program_maker.specs.Programs.{PassesFunc, PassesCanon, PassesValue, AreDefined, call_numbers}
use Rattle.program_maker.proofs.Zips.{zip_moved}
use Rattle.program_maker.proofs.program.program_of.Goals as goal

pub returns : goal.returns
returns c =
    let g = c.args.graph.now in
    let types = c.types-graph_types.result.now.types in
    let now = c.values.result.now in
    let exports : c.as_slice-exports.result.now ≡ g.exports = c.as_slice-exports.ensures ∙ c.exports.ensures in
    let numbers = c.types-graph_types.result.now.canons in
    record {
      graph = refl;
      script = refl;
      distinct = subst AreDistinct (sym c.values.ensures.value) c.values.ensures.distinct;
      exports = zip_moved (λ (values : List ValType) (numbers : FuncNumbers) (e : Export). PassesFunc values numbers e.func_type) types.values now c.in_ok-export_numbers.field-0.items c.as_slice-exports.result.now g.exports
          c.in_ok-export_numbers.ensures c.values.ensures.value exports;
      canons = zip_moved PassesCanon types.values now c.in_ok-canon_numbers.field-0.items c.canons.result.now g.canons c.in_ok-canon_numbers.ensures c.values.ensures.value c.canons.ensures;
      values = zip_moved PassesValue types.values now c.in_ok-value_numbers.field-0.items c.canons-2.result.now g.canons c.in_ok-value_numbers.ensures c.values.ensures.value c.canons-2.ensures;
      funcs = types.funcs;
      ends = subst (λ (all : List (Option ℕ)). AreCanonTypes (record { funcs = types.funcs; values = now }) all g.canons) (sym c.as_slice-numbers.ensures)
          (zip_moved (λ (values : List ValType). (let of : TypeTable = record { funcs = types.funcs; values = values } in HasCanonType of)) types.values now numbers g.canons g.canons
          c.types-graph_types.ensures.canons c.values.ensures.value refl);
      calls = c.in_ok-calls_of.ensures ∙ ap (λ (exports : List Export). call_numbers exports 0 c.items.result.now) exports ∙ ap (λ (items : List Item). call_numbers g.exports 0 items) c.items.ensures;
      resources = subst (λ (rs : List Resource). AreDefined g.instance_count rs c.in_ok-resources_of.field-0.items) c.resources.ensures
          (subst (λ (n : ℕ). AreDefined n c.resources.result.now c.in_ok-resources_of.field-0.items) c.instance_count.ensures.value c.in_ok-resources_of.ensures);
    }
