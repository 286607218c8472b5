-- Each number is read back, by the number of bytes that it can have.
use Rattle.std.proofs.Common.{◌^◌, refl, arith}
use Rattle.comp_make.proofs.NumberReading.{unsigned_read, signed_fits}
use Rattle.comp_make.proofs.laws.numbers_are_read.Goals as goal

pub returns-clause-unsigned : goal.returns-clause-unsigned
returns-clause-unsigned c = λ n h. unsigned_read 4 16 10 n h (omega arith) (omega arith)

pub returns-clause-signed_32 : goal.returns-clause-signed_32
returns-clause-signed_32 c = λ n h. signed_fits 4 8 (2 ^ 31) n refl h (omega arith) (omega arith)

pub returns-clause-signed_33 : goal.returns-clause-signed_33
returns-clause-signed_33 c = λ n h. signed_fits 4 16 (2 ^ 32) n refl h (omega arith) (omega arith)

pub returns-clause-signed_64 : goal.returns-clause-signed_64
returns-clause-signed_64 c = λ n h. signed_fits 9 1 (2 ^ 63) n refl h (omega arith) (omega arith)
