use Rattle.std.proofs.Common.{◌≡◌, ℕ, get_or, refl, Some}
use Rattle.std.specs.List.{slice_get}
use Rattle.std.proofs.lemmas.Option.{slice_get_within}
use Rattle.syntax_trees.specs.declared.exports.Export.{Export}
use Rattle.comp_graph.proofs.FuncsPassed.{number_within}
use Rattle.programs.specs.declared.program.FuncNumbers.{FuncNumbers}
use Rattle.program_maker.specs.Programs.{PassesFunc}
use Rattle.program_maker.proofs.Zips.{item_at, zip_reads, zip_step}
use Rattle.program_maker.proofs.passed.export_numbers.Goals as goal

pub bounds-numbers-at : goal.bounds-numbers-at
bounds-numbers-at c =
    number_within (λ (n : ℕ) (e : Export). slice_get c.args.types.now.funcs n ≡ Some e.func_type) c.args.numbers.now c.args.exports.now c.requires c.loop-at.at c.loop-at-test.true

pub func_numbers-requires : goal.func_numbers-requires
func_numbers-requires c =
    let number = get_or c.args.numbers.now c.loop-at.at 0 in
    let e = item_at c.args.exports.now c.loop-at.at c.loop-at-test.true in
    slice_get_within c.args.types.now.funcs number e.0.func_type
    (zip_reads (λ (n : ℕ) (e : Export). slice_get c.args.types.now.funcs n ≡ Some e.func_type) c.args.numbers.now c.args.exports.now c.loop-at.at number 0 e.0 c.requires c.loop-at-test.true refl e.1)

pub loop-at-preserved : goal.loop-at-preserved
loop-at-preserved c =
    let number = get_or c.args.numbers.now c.loop-at.at 0 in
    let e = item_at c.args.exports.now c.loop-at.at c.loop-at-test.true in
    zip_step (λ (numbers : FuncNumbers) (e : Export). PassesFunc c.args.types.now.values numbers e.func_type) c.loop-at.all.items c.push.new.self.items c.args.exports.now c.loop-at.at c.func_numbers.result e.0
    c.loop-at.invariant c.loop-at-test.true e.1
    (c.func_numbers.ensures e.0.func_type
    (zip_reads (λ (n : ℕ) (e : Export). slice_get c.args.types.now.funcs n ≡ Some e.func_type) c.args.numbers.now c.args.exports.now c.loop-at.at number 0 e.0 c.requires c.loop-at-test.true refl e.1))
    c.in_ok-push.ensures.items
