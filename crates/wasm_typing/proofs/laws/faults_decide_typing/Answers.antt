use Rattle.wasm_typing.proofs.Deciding.{fault_free, first_where_stops}
use Rattle.wasm_typing.proofs.Placing.{told_where_untyped, told_or_typed, typed_or_one}
use Rattle.wasm_typing.proofs.laws.faults_decide_typing.Goals as goal

pub returns-clause-fault_free : goal.returns-clause-fault_free
returns-clause-fault_free c = fault_free

pub returns-clause-first : goal.returns-clause-first
returns-clause-first c = first_where_stops

pub returns-clause-told : goal.returns-clause-told
returns-clause-told c = told_where_untyped

pub returns-clause-typed : goal.returns-clause-typed
returns-clause-typed c = told_or_typed

pub returns-clause-either : goal.returns-clause-either
returns-clause-either c = typed_or_one
