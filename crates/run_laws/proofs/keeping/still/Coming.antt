-- What a part may come to behind another one: memories, core instances and ends stay as they are kept.
use Rattle.std.proofs.Common.{sym, subst}
use Rattle.world_parts.specs.Held.{Held, Done, Gives, Traps, Spent, Stuck}
use Rattle.value_parts.specs.Coming.{Behind, Then}
use Rattle.run_laws.proofs.keeping.still.Still.{Kinds, StillBy, still_behind}

pub comes_still : (W : Kinds) → {A B : Type 0} (h : Held) (d : Done A) (F : A → Held → Done B → Type 0) (e : Done B) → StillBy W h d → ((x : A) (k : Held) → F x k e → StillBy W k e) → Behind d F e → StillBy W h e
comes_still W h (Gives x k) F e p q b = still_behind W h k e p (q x k b)
comes_still W h (Traps why k) F e p q b = subst (StillBy W h) (sym b) p
comes_still W h (Spent k) F e p q b = subst (StillBy W h) (sym b) tt
comes_still W h Stuck F e p q b = subst (StillBy W h) (sym b) tt

pub then_still : (W : Kinds) → {A B : Type 0} (h : Held) (R : Done A → Type 0) (F : A → Held → Done B → Type 0) (e : Done B) → ((d : Done A) → R d → StillBy W h d)
    → ((x : A) (k : Held) → F x k e → StillBy W k e) → Then R F e → StillBy W h e
then_still W h R F e p q (first, r, b) = comes_still W h first F e (p first r) q b
