-- What a file holds that is told, and what one may hold of which nothing is told.
use Rattle.std.proofs.Common.{◌≡◌, ◌<◌, ◌∙◌, ℕ, suc, List, length, replicate, Option, Some, None, Result, Err, IsErrOf, refl, sym, arith}
use Rattle.std.specs.Option.{IfSome, IsSome}
use Rattle.std.proofs.lemmas.List.{length-replicate}

-- there are bytes beyond each limit
long_enough : (limit : ℕ) → (bytes : List ℕ) × (limit < length bytes)
long_enough limit = (replicate (suc limit) 0, omega (arith, length-replicate {A = ℕ} (suc limit) 0))

long_bytes : (o : Option (List ℕ)) (limit : ℕ) → IfSome o (λ bytes. limit < length bytes) → (bytes : List ℕ) × IfSome o (λ told. bytes ≡ told) × (limit < length bytes)
long_bytes None limit h = let long = long_enough limit in (long.0, tt, long.1)
long_bytes (Some bytes) limit h = (bytes, refl, h)

-- what is said where a limit was passed
passed : {X E : Type 0} (r : Result X E) (e : E) (o : Option (List ℕ)) (limit : ℕ) → r ≡ Err e → IfSome o (λ bytes. IsErrOf r e → limit < length bytes) → IfSome o (λ bytes. limit < length bytes)
passed r e None limit is h = tt
passed r e (Some bytes) limit is h = h is

-- what a file may hold that is too long
pub too_many : {X E : Type 0} (r : Result X E) (e : E) (o : Option (List ℕ)) (limit : ℕ) → r ≡ Err e → IfSome o (λ bytes. IsErrOf r e → limit < length bytes) → (bytes : List ℕ) × IfSome o (λ told. bytes ≡ told) × (limit < length bytes)
too_many r e o limit is h = long_bytes o limit (passed r e o limit is h)

-- the bytes that are told
pub told_bytes : (o : Option (List ℕ)) → IsSome o → (bytes : List ℕ) × (o ≡ Some bytes)
told_bytes None h = cc
told_bytes (Some bytes) h = (bytes, refl)

-- they are what may be held
pub may_hold : (o : Option (List ℕ)) (bytes : List ℕ) → o ≡ Some bytes → IfSome o (λ told. bytes ≡ told)
may_hold None bytes e = tt
may_hold (Some told) bytes e = cc

-- and nothing else may be held
pub same_bytes : (o : Option (List ℕ)) (x y : List ℕ) → IsSome o → IfSome o (λ told. x ≡ told) → IfSome o (λ told. y ≡ told) → x ≡ y
same_bytes None x y s h k = cc
same_bytes (Some told) x y s h k = h ∙ sym k
