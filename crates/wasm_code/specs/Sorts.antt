-- What an import brings of one sort (Core 2.0, section 4.2.13).
use Rattle.std.specs.Prelude.{ℕ, Option, Some, None}
use Rattle.wasm_code.specs.declared.instance.External.{External}
use Rattle.wasm_code.specs.declared.instance.External.TheVariants as external
use Rattle.wasm_code.specs.declared.instance.Sort.{Sort}
use Rattle.wasm_code.specs.declared.instance.Sort.TheVariants as sort

-- the address, where it is one of a sort
abbrev pub address_in : Sort → External → Option ℕ
address_in sort.Func (external.Func address) = Some address
address_in sort.Table (external.Table address) = Some address
address_in sort.Memory (external.Memory address) = Some address
address_in sort.Global (external.Global address) = Some address
address_in sort other = None
