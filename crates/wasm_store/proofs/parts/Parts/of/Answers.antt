-- Each part is the one that a function made.
use Rattle.std.proofs.Common.{◌≡◌, ◌∷◌, [], ℕ, List, length, ap, ◌∙◌, map, refl, rules, arith, sym}
use Rattle.std.proofs.lemmas.List.{length-map}
use Rattle.syntax_trees.specs.declared.module_types.FuncType.{FuncType}
use Rattle.wasm_store.specs.Store.{Store}
use Rattle.wasm_store.specs.Instantiation.{new_func, new_table, new_memory, instance_of as new_instance}
use Rattle.wasm_store.specs.Instantiation.{imported_globals, new_global}
use Rattle.wasm_store.specs.Views.{address_of, function_of, table_of, global_of, instance_of, own_function}
use Rattle.wasm_store.proofs.parts.Parts.of.Goals as goal

pub returns-clause-parts : goal.returns-clause-parts
returns-clause-parts c =
    let types : c.in_ok-types.types.value ≡ c.args.tree.now.types = search rules in
    let functions : map function_of c.in_ok-functions.functions.items ≡ map (own_function c.in_ok-types.types.value c.len.result) c.args.tree.now.funcs = search rules in
    let tables : map table_of c.in_ok-tables.tables.items ≡ map new_table c.args.tree.now.tables = search rules in
    let memories : c.in_ok-memories.memories.items ≡ map new_memory c.args.tree.now.memories = search rules in
    let globals : map global_of c.in_ok-globals.globals.items ≡ map (new_global c.args.store.now (imported_globals (map address_of c.args.imports.now))) c.args.tree.now.globals = search rules in
    let instance : instance_of c.in_ok-instance.instance ≡ new_instance c.args.tree.now (map address_of c.args.imports.now) c.args.store.now = search rules in
    let instances : c.push.new.self.items ≡ c.in_ok-instance.instance ∷ [] = search rules in
    let plain : c.len.result ≡ length c.store.inside.instances.items = omega (arith, c.len.ensures, c.store.inside.instances.ok.0) in
    let count : c.len.result ≡ length c.args.store.now.instances =
    plain ∙ sym (length-map c.store.inside.instances.items instance_of) ∙ ap (λ (s : Store). length s.instances) c.store.view_is in
    let made : map (own_function c.in_ok-types.types.value c.len.result) c.args.tree.now.funcs ≡ map (new_func c.args.tree.now (length c.args.store.now.instances)) c.args.tree.now.funcs =
    ap (λ (types : List FuncType). map (own_function types c.len.result) c.args.tree.now.funcs) types
    ∙ ap (λ (n : ℕ). map (own_function c.args.tree.now.types n) c.args.tree.now.funcs) count in
    record {
      functions = functions ∙ made;
      tables = tables;
      memories = memories;
      globals = globals;
      instances = rw (instances, instance) refl;
    }
