-- Each list is the one before and a module's part.
use Rattle.std.proofs.Common.{◌≡◌, ◌++◌, map, rules, subst, sym}
use Rattle.wasm_store.specs.Store.{Store}
use Rattle.wasm_store.specs.Instantiation.{ImportsMatch}
use Rattle.wasm_store.specs.Views.{address_of}
use Rattle.wasm_store.specs.Parts.{ArePartsOf}
use Rattle.wasm_store.proofs.Joining.{joined_typed}
use Rattle.wasm_store.proofs.store.Store.join.Goals as goal

pub invariant_of-self-2 : goal.invariant_of-self-2
invariant_of-self-2 c =
    let functions : c.append.new.items.items ≡ c.self.inside.functions.items ++ c.args.parts.functions.items = search rules in
    let tables : c.append-2.new.items.items ≡ c.self.inside.tables.items ++ c.args.parts.tables.items = search rules in
    let memories : c.append-3.new.items.items ≡ c.self.inside.memories.items ++ c.args.parts.memories.items = search rules in
    let globals : c.append-4.new.items.items ≡ c.self.inside.globals.items ++ c.args.parts.globals.items = search rules in
    let instances : c.append-5.new.items.items ≡ c.self.inside.instances.items ++ c.args.parts.instances.items = search rules in
    rw (functions, tables, memories, globals, instances)
    (joined_typed c.args.valid.now (map address_of c.args.imports.now) c.self.inside.functions.items c.self.inside.tables.items c.self.inside.memories.items c.self.inside.globals.items c.self.inside.instances.items c.args.parts c.self.invariant c.requires.typed c.requires.range
    (subst (λ (s : Store). ImportsMatch s c.args.valid.now (map address_of c.args.imports.now)) (sym c.self.view_is) c.requires.matches)
    (subst (λ (s : Store). ArePartsOf c.args.valid.now (map address_of c.args.imports.now) s c.args.parts) (sym c.self.view_is) c.requires.parts))
