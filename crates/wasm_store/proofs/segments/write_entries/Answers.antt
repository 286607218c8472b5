-- One entry more.
use Rattle.std.proofs.Common.{◌≡◌, ◌+◌, ◌<◌, length, get_or, rules}
use Rattle.std.specs.List.{slice_get}
use Rattle.wasm_store.proofs.Entries.{entries_next}
use Rattle.wasm_store.proofs.segments.write_entries.Goals as goal

pub loop-place-preserved : goal.loop-place-preserved
loop-place-preserved c =
    let within : c.loop-place.place < length c.args.indices.now = search rules in
    let room : c.args.at + c.loop-place.place < length c.args.entries.now.items = search rules in
    let entry : c.address_at.result ≡ slice_get c.args.funcs.now (get_or c.args.indices.now c.loop-place.place 0) = c.address_at.ensures in
    entries_next c.args.at c.loop-place.place (λ index. slice_get c.args.funcs.now index) c.args.indices.now c.args.entries.now.items c.loop-place.entries.items c.address_at.result c.loop-place.invariant within room entry
