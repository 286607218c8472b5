use Rattle.std.proofs.Common.{◌≡◌, ◌<◌, length, reverse, refl, sym, subst, arith, rules, Some, Ok}
use Rattle.std.proofs.lemmas.Grind.{common_steps}
use Rattle.std.specs.List.{slice_get}
use Rattle.std.proofs.lemmas.Option.{slice_get_within}
use Rattle.wasm_store.specs.Store.{Store}
use Rattle.wasm_store.specs.Fits.{Keeps}
use Rattle.wasm_store.specs.contracts.store.Store.{the_view}
use Rattle.wasm_store.proofs.Fitting.{global_given, global_put, access_given, access_typed}
use Rattle.wasm_store.proofs.store.Store.effect.Goals as goal

pub index_mut-requires-in-Load : goal.index_mut-requires-in-Load
index_mut-requires-in-Load c =
    let a = c.memory_address-address.ensures in
    let within : c.memory_address-address.result < length c.self.inside.memories.items =
    slice_get_within c.self.inside.memories.items c.memory_address-address.result a.0
    (subst (λ (t : Store). slice_get t.memories c.memory_address-address.result ≡ Some a.0) (sym c.self.view_is) a.1) in
    first_of (omega arith, search rules, grind (arith, common_steps))

pub returns-in_ok-global_get-in-GlobalGet-clause-gives : goal.returns-in_ok-global_get-in-GlobalGet-clause-gives
returns-in_ok-global_get-in-GlobalGet-clause-gives c =
    let f = c.requires.fits in
    let a = c.global_address-address.ensures in
    let s = c.args.self.now in
    let ls = c.args.locals.now.items in (
      f.0,
      f.1,
      global_given c.args.instr.now c.in-GlobalGet.index f.0 (the_view c.self.inside) s c.self.inside.globals.items c.global_address-address.result a.0 c.index.result.now
          ls (reverse c.args.operands.now.items) (reverse c.global_get.new.operands.items) c.self.view_is refl c.in-GlobalGet.is a.1 (a.2 f.0 f.1) c.index.ensures
          (c.in_ok-global_get-in-GlobalGet.ensures c.global_address-address.result s ls),
    )

pub returns-in-GlobalSet-clause-gives : goal.returns-in-GlobalSet-clause-gives
returns-in-GlobalSet-clause-gives c =
    let f = c.requires.fits in
    let a = c.global_address-address-in-GlobalSet.ensures in
    let s = the_view c.self.inside in
    let ls = c.args.locals.now.items in (
      f.0,
      f.1,
      global_put c.args.instr.now c.in-GlobalSet.index f.0 s c.args.self.now c.self.inside.globals.items c.global_address-address-in-GlobalSet.result a.0
          c.index_mut.result.now c.global_set.new.global ls (reverse c.args.operands.now.items) (reverse c.global_set.new.operands.items) c.self.view_is refl c.in-GlobalSet.is a.1
          (a.2 f.0 f.1) c.index_mut.ensures.value (c.global_set.ensures c.global_address-address-in-GlobalSet.result s ls),
    )

pub invariant_of-self : goal.invariant_of-self
invariant_of-self c =
    let f = c.requires.fits in
    let a = c.global_address-address-in-GlobalSet.ensures in
    let s = the_view c.self.inside in
    let ls = c.args.locals.now.items in
    subst Keeps (global_put c.args.instr.now c.in-GlobalSet.index f.0 s c.args.self.now c.self.inside.globals.items c.global_address-address-in-GlobalSet.result a.0
    c.index_mut.result.now c.global_set.new.global ls (reverse c.args.operands.now.items) (reverse c.global_set.new.operands.items) c.self.view_is refl c.in-GlobalSet.is a.1
    (a.2 f.0 f.1) c.index_mut.ensures.value (c.global_set.ensures c.global_address-address-in-GlobalSet.result s ls)) f.2.keeps

pub invariant_of-self-in_err-trap-in-Load : goal.invariant_of-self-in_err-trap-in-Load
invariant_of-self-in_err-trap-in-Load c =
    let f = c.requires.fits in
    let a = c.memory_address-address.ensures in
    access_typed c.access.result c.args.instr.now f.0 (the_view c.self.inside) c.args.self.now c.memory_address-address.result a.0 c.index_mut-in-Load.result.now
    c.access.new.memory c.args.locals.now.items (reverse c.args.operands.now.items) (reverse c.access.new.operands.items) c.self.view_is c.self.invariant f.2.keeps a.1 (a.2 f.0 f.1)
    c.index_mut-in-Load.ensures.value c.access.ensures.gives c.access.ensures.err

pub invariant_of-self-2 : goal.invariant_of-self-2
invariant_of-self-2 c =
    let f = c.requires.fits in
    let a = c.memory_address-address.ensures in
    access_typed c.access.result c.args.instr.now f.0 (the_view c.self.inside) c.args.self.now c.memory_address-address.result a.0 c.index_mut-in-Load.result.now
    c.access.new.memory c.args.locals.now.items (reverse c.args.operands.now.items) (reverse c.access.new.operands.items) c.self.view_is c.self.invariant f.2.keeps a.1 (a.2 f.0 f.1)
    c.index_mut-in-Load.ensures.value c.access.ensures.gives c.access.ensures.err

pub returns-in_ok-trap-in-Load-clause-gives : goal.returns-in_ok-trap-in-Load-clause-gives
returns-in_ok-trap-in-Load-clause-gives c =
    let f = c.requires.fits in
    let a = c.memory_address-address.ensures in (
      f.0,
      f.1,
      access_given (Ok c.in_ok-trap-in-Load.trap) c.args.instr.now f.0 (the_view c.self.inside) c.args.self.now c.memory_address-address.result a.0 c.index_mut-in-Load.result.now
          c.access.new.memory c.args.locals.now.items (reverse c.args.operands.now.items) (reverse c.access.new.operands.items) c.self.view_is a.1 (a.2 f.0 f.1)
          c.index_mut-in-Load.ensures.value c.in_ok-trap-in-Load.ensures.gives,
    )
