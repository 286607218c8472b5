-- A window that opens after its size.
use Rattle.std.proofs.Common.{◌≡◌, ℕ, Result, Ok, Err, inr}
use Rattle.ca_base.specs.Span.{Span}
use Rattle.ca_base.specs.declared.refusal.Refusal.{Refusal}
use Rattle.ca_base.specs.Grammar.{read, Opens}
use Rattle.ca_base.specs.Items.{NumberReasons, Reasons, u32, OpensSized}

pub opened : {W : Type 0} (numbers : NumberReasons W) (reasons : Reasons W) (size : ℕ) (s c t : Span W) (past : W) (r : Result (Span W) (Refusal W)) → read (u32 numbers) s ≡ Ok (size, c) → past ≡ reasons.section_size → Opens size past c t r → OpensSized numbers reasons s t r
opened numbers reasons size s c t past (Ok u) h i o = (size, c, h, (o.0, cc (o.1), o.2))
opened numbers reasons size s c t past (Err e) h i o = inr (size, c, h, o.0, o.1)
