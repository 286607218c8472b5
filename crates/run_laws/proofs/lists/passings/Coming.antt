-- What a part may come to behind another one: lists of tasks stay as they follow from the tasks.
use Rattle.std.proofs.Common.{sym, subst}
use Rattle.world_parts.specs.Held.{Held, Done, Gives, Traps, Spent, Stuck}
use Rattle.value_parts.specs.Coming.{Behind, Then}
use Rattle.run_laws.proofs.lists.Same.{ListsBy, lists_behind}

pub comes_lists : {A B : Type 0} (h : Held) (d : Done A) (F : A → Held → Done B → Type 0) (e : Done B) → ListsBy h d → ((x : A) (k : Held) → F x k e → ListsBy k e) → Behind d F e → ListsBy h e
comes_lists h (Gives x k) F e p q b = lists_behind h k e p (q x k b)
comes_lists h (Traps why k) F e p q b = subst (ListsBy h) (sym b) tt
comes_lists h (Spent k) F e p q b = subst (ListsBy h) (sym b) tt
comes_lists h Stuck F e p q b = subst (ListsBy h) (sym b) tt

pub then_lists : {A B : Type 0} (h : Held) (R : Done A → Type 0) (F : A → Held → Done B → Type 0) (e : Done B) → ((d : Done A) → R d → ListsBy h d)
    → ((x : A) (k : Held) → F x k e → ListsBy k e) → Then R F e → ListsBy h e
then_lists h R F e p q (first, r, b) = comes_lists h first F e (p first r) q b
