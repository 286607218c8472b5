-- The module's parts are joined, and then its segments are written.
use Rattle.std.proofs.Common.{◌≡◌, List, length, map, Some, ap, ◌∙◌, rules, arith, subst, sym}
use Rattle.std.proofs.lemmas.Result.{err_from_is_err_and}
use Rattle.std.proofs.lemmas.List.{length-map}
use Rattle.std.specs.List.{slice_get}
use Rattle.syntax_trees.specs.declared.module.ElementSegment.{ElementSegment}
use Rattle.syntax_trees.specs.declared.module.DataSegment.{DataSegment}
use Rattle.syntax_trees.specs.declared.module.ModuleTree.{ModuleTree}
use Rattle.wasm_store.specs.Store.{Instance, Store}
use Rattle.wasm_store.specs.Instantiation.{External as Address, InRange, element_written, data_written}
use Rattle.wasm_store.specs.Parts.{ElementsFit, Written}
use Rattle.wasm_store.specs.Views.{address_of, instance_of}
use Rattle.wasm_store.proofs.Instantiating.{bounds_is, elements_fit, elements_stop, data_stop, data_done}
use Rattle.wasm_store.proofs.store.Store.add.Goals as goal

pub returns-in_err-parts-clause-fails : goal.returns-in_err-parts-clause-fails
returns-in_err-parts-clause-fails c =
    let p = err_from_is_err_and c.from_residual.result c.from_residual.ensures.1 in
    rw (p.1, p.2) (search rules)

pub returns-in_err-join-clause-fails : goal.returns-in_err-join-clause-fails
returns-in_err-join-clause-fails c =
    let p = err_from_is_err_and c.from_residual-in_err-join.result c.from_residual-in_err-join.ensures.1 in
    rw (p.1, p.2) c.in_err-join.ensures.unchanged

pub write_elements-requires-clause-fit : goal.write_elements-requires-clause-fit
write_elements-requires-clause-fit c i there =
    let m : ModuleTree = c.args.valid.now in
    let imports : List Address = map address_of c.args.imports.now in
    let plain : c.len-address.result ≡ length c.self.inside.instances.items = omega (arith, c.len-address.ensures, c.self.inside.instances.ok.0) in
    let address : c.len-address.result ≡ length c.args.self.now.instances =
    plain ∙ sym (length-map c.self.inside.instances.items instance_of) ∙ ap (λ (s : Store). length s.instances) c.self.view_is in
    let segments : c.as_slice.result.now ≡ m.element_segments = c.as_slice.ensures ∙ ap (λ (m : ModuleTree). m.element_segments) c.tree-tree.ensures.value in
    subst (λ (xs : List ElementSegment). ElementsFit c.join.new.self i xs) (sym segments)
    (elements_fit m imports c.args.self.now c.join.new.self c.len-address.result i c.tree-tree.ensures.typed c.requires c.in_ok-join.ensures.joined address there)

pub returns-in_err-write_elements-clause-fails : goal.returns-in_err-write_elements-clause-fails
returns-in_err-write_elements-clause-fails c =
    let m : ModuleTree = c.args.valid.now in
    let imports : List Address = map address_of c.args.imports.now in
    let plain : c.len-address.result ≡ length c.self.inside.instances.items = omega (arith, c.len-address.ensures, c.self.inside.instances.ok.0) in
    let address : c.len-address.result ≡ length c.args.self.now.instances =
    plain ∙ sym (length-map c.self.inside.instances.items instance_of) ∙ ap (λ (s : Store). length s.instances) c.self.view_is in
    let segments : c.as_slice.result.now ≡ m.element_segments = c.as_slice.ensures ∙ ap (λ (m : ModuleTree). m.element_segments) c.tree-tree.ensures.value in
    let written : (i : Instance) → slice_get c.join.new.self.instances c.len-address.result ≡ Some i → Written (element_written i) m.element_segments c.join.new.self c.write_elements.result c.write_elements.new.self =
    λ i there. subst (λ (xs : List ElementSegment). Written (element_written i) xs c.join.new.self c.write_elements.result c.write_elements.new.self) segments (c.write_elements.ensures.written i there) in
    let p = err_from_is_err_and c.from_residual-in_err-write_elements.result c.from_residual-in_err-write_elements.ensures.1 in
    let why = bounds_is c.write_elements.result c.in_err-write_elements.field-0.0 c.in_err-write_elements.was c.write_elements.ensures.bounds in
    rw (p.1, p.2, why)
    (elements_stop m imports c.args.self.now c.join.new.self c.write_elements.new.self c.len-address.result c.write_elements.result c.in_err-write_elements.field-0.0 c.in_ok-join.ensures.joined address c.in_err-write_elements.was written)

pub returns-in_err-write_data-clause-fails : goal.returns-in_err-write_data-clause-fails
returns-in_err-write_data-clause-fails c =
    let m : ModuleTree = c.args.valid.now in
    let imports : List Address = map address_of c.args.imports.now in
    let plain : c.len-address.result ≡ length c.self.inside.instances.items = omega (arith, c.len-address.ensures, c.self.inside.instances.ok.0) in
    let address : c.len-address.result ≡ length c.args.self.now.instances =
    plain ∙ sym (length-map c.self.inside.instances.items instance_of) ∙ ap (λ (s : Store). length s.instances) c.self.view_is in
    let segments : c.as_slice.result.now ≡ m.element_segments = c.as_slice.ensures ∙ ap (λ (m : ModuleTree). m.element_segments) c.tree-tree.ensures.value in
    let written : (i : Instance) → slice_get c.join.new.self.instances c.len-address.result ≡ Some i → Written (element_written i) m.element_segments c.join.new.self c.write_elements.result c.write_elements.new.self =
    λ i there. subst (λ (xs : List ElementSegment). Written (element_written i) xs c.join.new.self c.write_elements.result c.write_elements.new.self) segments (c.write_elements.ensures.written i there) in
    let bytes : c.as_slice-2.result.now ≡ m.data_segments = c.as_slice-2.ensures ∙ ap (λ (m : ModuleTree). m.data_segments) c.tree-tree.ensures.value in
    let then_written : (i : Instance) → slice_get c.write_elements.new.self.instances c.len-address.result ≡ Some i → Written (data_written i) m.data_segments c.write_elements.new.self c.write_data.result c.write_data.new.self =
    λ i there. subst (λ (xs : List DataSegment). Written (data_written i) xs c.write_elements.new.self c.write_data.result c.write_data.new.self) bytes (c.write_data.ensures.written i there) in
    let p = err_from_is_err_and c.from_residual-in_err-write_data.result c.from_residual-in_err-write_data.ensures.1 in
    let why = bounds_is c.write_data.result c.in_err-write_data.field-0.0 c.in_err-write_data.was c.write_data.ensures.bounds in
    rw (p.1, p.2, why)
    (data_stop m imports c.args.self.now c.join.new.self c.write_elements.new.self c.write_data.new.self c.len-address.result c.write_elements.result c.write_data.result c.in_ok-write_elements.field-0 c.in_err-write_data.field-0.0 c.in_ok-join.ensures.joined address c.in_ok-write_elements.was written c.write_elements.ensures.instances c.in_err-write_data.was then_written)

pub returns-clause-makes : goal.returns-clause-makes
returns-clause-makes c =
    let m : ModuleTree = c.args.valid.now in
    let imports : List Address = map address_of c.args.imports.now in
    let plain : c.len-address.result ≡ length c.self.inside.instances.items = omega (arith, c.len-address.ensures, c.self.inside.instances.ok.0) in
    let address : c.len-address.result ≡ length c.args.self.now.instances =
    plain ∙ sym (length-map c.self.inside.instances.items instance_of) ∙ ap (λ (s : Store). length s.instances) c.self.view_is in
    let segments : c.as_slice.result.now ≡ m.element_segments = c.as_slice.ensures ∙ ap (λ (m : ModuleTree). m.element_segments) c.tree-tree.ensures.value in
    let written : (i : Instance) → slice_get c.join.new.self.instances c.len-address.result ≡ Some i → Written (element_written i) m.element_segments c.join.new.self c.write_elements.result c.write_elements.new.self =
    λ i there. subst (λ (xs : List ElementSegment). Written (element_written i) xs c.join.new.self c.write_elements.result c.write_elements.new.self) segments (c.write_elements.ensures.written i there) in
    let bytes : c.as_slice-2.result.now ≡ m.data_segments = c.as_slice-2.ensures ∙ ap (λ (m : ModuleTree). m.data_segments) c.tree-tree.ensures.value in
    let then_written : (i : Instance) → slice_get c.write_elements.new.self.instances c.len-address.result ≡ Some i → Written (data_written i) m.data_segments c.write_elements.new.self c.write_data.result c.write_data.new.self =
    λ i there. subst (λ (xs : List DataSegment). Written (data_written i) xs c.write_elements.new.self c.write_data.result c.write_data.new.self) bytes (c.write_data.ensures.written i there) in
    data_done m imports c.args.self.now c.join.new.self c.write_elements.new.self c.write_data.new.self c.len-address.result c.write_elements.result c.write_data.result c.in_ok-write_elements.field-0 c.in_ok-write_data.field-0 c.in_ok-join.ensures.joined address c.in_ok-write_elements.was written c.write_elements.ensures.instances c.in_ok-write_data.was then_written

pub returns-in_err-parts-clause-range : goal.returns-in_err-parts-clause-range
returns-in_err-parts-clause-range c =
    let p = err_from_is_err_and c.from_residual.result c.from_residual.ensures.1 in
    rw (p.1, p.2) tt

pub returns-in_err-join-clause-range : goal.returns-in_err-join-clause-range
returns-in_err-join-clause-range c =
    let p = err_from_is_err_and c.from_residual-in_err-join.result c.from_residual-in_err-join.ensures.1 in
    rw (p.1, p.2) tt

pub returns-in_err-write_elements-clause-range : goal.returns-in_err-write_elements-clause-range
returns-in_err-write_elements-clause-range c =
    let p = err_from_is_err_and c.from_residual-in_err-write_elements.result c.from_residual-in_err-write_elements.ensures.1 in
    let why = bounds_is c.write_elements.result c.in_err-write_elements.field-0.0 c.in_err-write_elements.was c.write_elements.ensures.bounds in
    rw (p.1, p.2, why) (subst InRange c.tree-tree.ensures.value c.in_ok-parts.ensures.range)

pub returns-in_err-write_data-clause-range : goal.returns-in_err-write_data-clause-range
returns-in_err-write_data-clause-range c =
    let p = err_from_is_err_and c.from_residual-in_err-write_data.result c.from_residual-in_err-write_data.ensures.1 in
    let why = bounds_is c.write_data.result c.in_err-write_data.field-0.0 c.in_err-write_data.was c.write_data.ensures.bounds in
    rw (p.1, p.2, why) (subst InRange c.tree-tree.ensures.value c.in_ok-parts.ensures.range)
