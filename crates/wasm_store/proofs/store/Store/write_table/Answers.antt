-- The store with the table that was written, whether the entries fit or not.
use Rattle.std.proofs.Common.{◌≡◌, ◌<◌, ℕ, length, Some, refl, ap, ◌∙◌, rules, subst, sym}
use Rattle.std.specs.List.{slice_get, AllByRecursion}
use Rattle.std.proofs.lemmas.List.{length-map}
use Rattle.wasm_store.specs.Store.{Instance, Store}
use Rattle.wasm_store.specs.Typed.{EntryTyped}
use Rattle.wasm_code.specs.declared.instance.TableInstance.{TableInstance}
use Rattle.wasm_store.specs.Views.{instance_of}
use Rattle.wasm_store.proofs.Joining.{seen}
use Rattle.wasm_store.proofs.Writing.{item_there, owner_there, owner_funcs, table_wrote, table_wrote_behind}
use Rattle.wasm_store.proofs.store.Store.write_table.Goals as goal

pub invariant_of-self : goal.invariant_of-self
invariant_of-self c =
    let i : Instance = instance_of c.index.result.now in
    let new : TableInstance = record { entries = c.write_entries.new.entries; max = c.index_mut.result.now.max } in
    let s : Store = seen c.self.inside.functions.items c.self.inside.tables.items c.self.inside.memories.items c.self.inside.globals.items c.self.inside.instances.items in
    let within : c.args.table < length c.self.inside.tables.items = search rules in
    let owned : c.args.instance < length c.self.inside.instances.items =
    subst (λ (n : ℕ). c.args.instance < n) (ap (λ (s : Store). length s.instances) (sym c.self.view_is) ∙ length-map c.self.inside.instances.items instance_of) c.requires.there in
    let there : slice_get s.instances c.args.instance ≡ Some i = owner_there c.self.inside.instances.items c.args.instance c.index.result.now owned c.index.ensures in
    let same : c.as_slice-funcs.result.now ≡ i.funcs = search rules in
    let fit : AllByRecursion (λ index. EntryTyped s (slice_get i.funcs index)) c.args.indices.now =
    subst (λ (s : Store). AllByRecursion (λ index. EntryTyped s (slice_get i.funcs index)) c.args.indices.now) (sym c.self.view_is) (c.requires.fit i (ap (λ (s : Store). slice_get s.instances c.args.instance) (sym c.self.view_is) ∙ there)) in
    (table_wrote_behind c.self.inside.functions.items c.self.inside.tables.items c.self.inside.memories.items c.self.inside.globals.items c.self.inside.instances.items c.args.table c.args.at c.as_slice-funcs.result.now c.args.indices.now c.index_mut.result.now new c.write_entries.result i c.self.invariant fit same
    (item_there c.self.inside.tables.items c.args.table c.index_mut.result.now within c.index_mut.ensures.value) c.write_entries.ensures.fits c.write_entries.ensures.written refl).1

pub returns-clause-extends : goal.returns-clause-extends
returns-clause-extends c =
    let i : Instance = instance_of c.index.result.now in
    let new : TableInstance = record { entries = c.write_entries.new.entries; max = c.index_mut.result.now.max } in
    let s : Store = seen c.self.inside.functions.items c.self.inside.tables.items c.self.inside.memories.items c.self.inside.globals.items c.self.inside.instances.items in
    let within : c.args.table < length c.self.inside.tables.items = search rules in
    let owned : c.args.instance < length c.self.inside.instances.items =
    subst (λ (n : ℕ). c.args.instance < n) (ap (λ (s : Store). length s.instances) (sym c.self.view_is) ∙ length-map c.self.inside.instances.items instance_of) c.requires.there in
    let there : slice_get s.instances c.args.instance ≡ Some i = owner_there c.self.inside.instances.items c.args.instance c.index.result.now owned c.index.ensures in
    let same : c.as_slice-funcs.result.now ≡ i.funcs = search rules in
    let fit : AllByRecursion (λ index. EntryTyped s (slice_get i.funcs index)) c.args.indices.now =
    subst (λ (s : Store). AllByRecursion (λ index. EntryTyped s (slice_get i.funcs index)) c.args.indices.now) (sym c.self.view_is) (c.requires.fit i (ap (λ (s : Store). slice_get s.instances c.args.instance) (sym c.self.view_is) ∙ there)) in
    rw (← c.self.view_is)
    (table_wrote_behind c.self.inside.functions.items c.self.inside.tables.items c.self.inside.memories.items c.self.inside.globals.items c.self.inside.instances.items c.args.table c.args.at c.as_slice-funcs.result.now c.args.indices.now c.index_mut.result.now new c.write_entries.result i c.self.invariant fit same
    (item_there c.self.inside.tables.items c.args.table c.index_mut.result.now within c.index_mut.ensures.value) c.write_entries.ensures.fits c.write_entries.ensures.written refl).0

pub returns-clause-written : goal.returns-clause-written
returns-clause-written c i there =
    let new : TableInstance = record { entries = c.write_entries.new.entries; max = c.index_mut.result.now.max } in
    let within : c.args.table < length c.self.inside.tables.items = search rules in
    let owned : c.args.instance < length c.self.inside.instances.items =
    subst (λ (n : ℕ). c.args.instance < n) (ap (λ (s : Store). length s.instances) (sym c.self.view_is) ∙ length-map c.self.inside.instances.items instance_of) c.requires.there in
    let own : c.as_slice-funcs.result.now ≡ (instance_of c.index.result.now).funcs = search rules in
    let same : c.as_slice-funcs.result.now ≡ i.funcs =
    own ∙ ap (λ (i : Instance). i.funcs) (owner_funcs c.self.inside.instances.items c.args.instance c.index.result.now i owned c.index.ensures (ap (λ (s : Store). slice_get s.instances c.args.instance) c.self.view_is ∙ there)) in
    rw (← c.self.view_is)
    (table_wrote c.self.inside.functions.items c.self.inside.tables.items c.self.inside.memories.items c.self.inside.globals.items c.self.inside.instances.items c.args.table c.args.at c.as_slice-funcs.result.now c.args.indices.now c.index_mut.result.now new c.write_entries.result i same
    (item_there c.self.inside.tables.items c.args.table c.index_mut.result.now within c.index_mut.ensures.value) c.write_entries.ensures.fits c.write_entries.ensures.written refl)
