-- What may come behind a part, and behind what may come of one: what is kept well stays so.
use Rattle.std.proofs.Common.{◌≡◌, sym, subst}
use Rattle.world_parts.specs.Held.{Held, Done, Gives, Traps, Spent, Stuck}
use Rattle.value_parts.specs.Coming.{Behind, Then}
use Rattle.run_laws.specs.keeping.Well.{KeepsWell}
use Rattle.run_laws.proofs.well.Behind.{well_behind}

pub well_as : {A : Type 0} (h : Held) (d e : Done A) → KeepsWell h e → d ≡ e → KeepsWell h d
well_as {A} h d e p is = subst (λ (x : Done A). KeepsWell h x) (sym is) p

pub well_coming : {A B : Type 0} (h : Held) (q : Done A) (F : A → Held → Done B → Type 0) (d : Done B) → KeepsWell h q → ((x : A) (k : Held) → F x k d → KeepsWell k d) → Behind q F d → KeepsWell h d
well_coming h (Gives x k) F d p more b = well_behind h k d p (more x k b)
well_coming h (Traps why k) F d p more b = well_as h d (Traps why k) tt b
well_coming h (Spent k) F d p more b = well_as h d (Spent k) tt b
well_coming h Stuck F d p more b = well_as h d Stuck tt b

pub well_then : {A B : Type 0} (h : Held) (R : Done A → Type 0) (F : A → Held → Done B → Type 0) (d : Done B) → ((e : Done A) → R e → KeepsWell h e)
    → ((x : A) (k : Held) → F x k d → KeepsWell k d) → Then R F d → KeepsWell h d
well_then h R F d first more b = well_coming h b.0 F d (first b.0 b.1) more b.2
