-- No handle is lent where none stands, behind a part and where values are to be passed next: it is asked there alone. So it is behind parts that change neither tables nor what is
-- lent, and where no values are to be passed nothing is asked.
use Rattle.std.proofs.Common.{◌≡◌, Bool, true, false, if◌then◌else◌, List, Option, Some, None, refl, sym, ap, subst, ◌∙◌}
use Rattle.instances.specs.Instances.{InstanceView}
use Rattle.task_table.specs.declared.slot.TaskSlot.{TaskSlot}
use Rattle.world_parts.specs.declared.parts.Flow.{Flow}
use Rattle.world_parts.specs.declared.parts.Flow.TheVariants as flow
use Rattle.world_parts.specs.Held.{Held, Done, Gives, Traps, Spent, Stuck, after, given}
use Rattle.run_laws.specs.keeping.Tables.{HandlesAloneLent}
use Rattle.run_laws.proofs.keeping.Prior as prior
use Rattle.run_laws.proofs.keeping.Prior.{TableBefore, Quiet}
use Rattle.run_laws.proofs.plain.Only.{IsPlain, PlainBy}
use Rattle.instances.specs.declared.entry.WorldEntry.{WorldEntry}
use Rattle.handle_table.specs.Slots.{Slots, entry_at}

abbrev pub Lent : Held → Held → Type 0
Lent h k = HandlesAloneLent h.instances h.tasks → HandlesAloneLent k.instances k.tasks

pub lent_same : (h : Held) → Lent h h
lent_same h lent = lent

pub lent_all : (h k : Held) → k.tasks ≡ h.tasks → k.instances ≡ h.instances → Lent h k
lent_all h k tasks instances lent =
    subst (λ (all : List InstanceView). HandlesAloneLent all k.tasks) (sym instances) (subst (λ (ts : List TaskSlot). HandlesAloneLent h.instances ts) (sym tasks) lent)

pub lent_quiet : (h k : Held) → Quiet h k → Lent h k
lent_quiet h k q lent at index i here none =
    let b : TableBefore h.instances at i = q.tables at i here in
    q.lends at index ∙ lent at index b.inst b.is (λ x stood. none x (ap (λ (s : Slots WorldEntry). entry_at s index) b.slots ∙ stood))

-- Parts.
abbrev pub LentBy : {A : Type 0} → Held → Done A → Type 0
LentBy h (Gives x k) = Lent h k
LentBy h (Traps why k) = Unit {0}
LentBy h (Spent k) = Unit {0}
LentBy h Stuck = Unit {0}

pub lent_by_quiet : {A : Type 0} (h : Held) (d : Done A) → prior.QuietBy h d → LentBy h d
lent_by_quiet h (Gives x k) q = lent_quiet h k q
lent_by_quiet h (Traps why k) q = tt
lent_by_quiet h (Spent k) q = tt
lent_by_quiet h Stuck q = tt

pub lent_through : {A : Type 0} (h k : Held) (d : Done A) → Lent h k → LentBy k d → LentBy h d
lent_through h k (Gives x l) p q = λ lent. q (p lent)
lent_through h k (Traps why l) p q = tt
lent_through h k (Spent l) p q = tt
lent_through h k Stuck p q = tt

pub lent_after : {A B : Type 0} (h : Held) (d : Done A) (f : A → Held → Done B) → LentBy h d → ((x : A) (k : Held) → LentBy k (f x k)) → LentBy h (after d f)
lent_after h (Gives x k) f p q = lent_through h k (f x k) p (q x k)
lent_after h (Traps why k) f p q = tt
lent_after h (Spent k) f p q = tt
lent_after h Stuck f p q = tt

pub lent_given : {A B : Type 0} (h : Held) (o : Option A) (f : A → Done B) → ((x : A) → o ≡ Some x → LentBy h (f x)) → LentBy h (given o f)
lent_given h None f p = tt
lent_given h (Some x) f p = p x refl

pub lent_if : {A : Type 0} (h : Held) (b : Bool) (d e : Done A) → LentBy h d → LentBy h e → LentBy h (if b then d else e)
lent_if h true d e p q = p
lent_if h false d e p q = q

-- It is asked of what is given in some cases alone.
abbrev pub SoBy : {A : Type 0} → (A → Type 0) → Held → Done A → Type 0
SoBy P h (Gives x k) = P x → Lent h k
SoBy P h (Traps why k) = Unit {0}
SoBy P h (Spent k) = Unit {0}
SoBy P h Stuck = Unit {0}

pub so_through : {A : Type 0} (P : A → Type 0) (h k : Held) (d : Done A) → Lent h k → SoBy P k d → SoBy P h d
so_through P h k (Gives x l) p q = λ so lent. q so (p lent)
so_through P h k (Traps why l) p q = tt
so_through P h k (Spent l) p q = tt
so_through P h k Stuck p q = tt

pub so_after : {A B : Type 0} (P : B → Type 0) (h : Held) (d : Done A) (f : A → Held → Done B) → LentBy h d → ((x : A) (k : Held) → SoBy P k (f x k)) → SoBy P h (after d f)
so_after P h (Gives x k) f p q = so_through P h k (f x k) p (q x k)
so_after P h (Traps why k) f p q = tt
so_after P h (Spent k) f p q = tt
so_after P h Stuck f p q = tt

pub so_given : {A B : Type 0} (P : B → Type 0) (h : Held) (o : Option A) (f : A → Done B) → ((x : A) → SoBy P h (f x)) → SoBy P h (given o f)
so_given P h None f p = tt
so_given P h (Some x) f p = p x

pub so_if : {A : Type 0} (P : A → Type 0) (h : Held) (b : Bool) (d e : Done A) → SoBy P h d → SoBy P h e → SoBy P h (if b then d else e)
so_if P h true d e p q = p
so_if P h false d e p q = q

-- What follows such a part asks for it in such cases alone.
abbrev pub BehindBy : {B : Type 0} → Type 0 → (B → Type 0) → Held → Done B → Type 0
BehindBy R P h (Gives y k) = P y → R × Lent h k
BehindBy R P h (Traps why k) = Unit {0}
BehindBy R P h (Spent k) = Unit {0}
BehindBy R P h Stuck = Unit {0}

from_behind : {B : Type 0} (R : Type 0) (P : B → Type 0) (h k : Held) (d : Done B) → (R → Lent h k) → BehindBy R P k d → SoBy P h d
from_behind R P h k (Gives y l) p q = λ so lent. let both : R × Lent k l = q so in both.1 (p both.0 lent)
from_behind R P h k (Traps why l) p q = tt
from_behind R P h k (Spent l) p q = tt
from_behind R P h k Stuck p q = tt

pub so_behind : {A B : Type 0} (P : A → Type 0) (Q : B → Type 0) (h : Held) (d : Done A) (f : A → Held → Done B) → SoBy P h d → ((x : A) (k : Held) → BehindBy (P x) Q k (f x k)) → SoBy Q h (after d f)
so_behind P Q h (Gives x k) f p q = from_behind (P x) Q h k (f x k) p (q x k)
so_behind P Q h (Traps why k) f p q = tt
so_behind P Q h (Spent k) f p q = tt
so_behind P Q h Stuck f p q = tt

-- Where it is never asked.
abbrev pub NeverOf : {A : Type 0} → (A → Type 0) → Done A → Type 0
NeverOf P (Gives x k) = P x → ⊥
NeverOf P (Traps why k) = Unit {0}
NeverOf P (Spent k) = Unit {0}
NeverOf P Stuck = Unit {0}

pub never_so : {A : Type 0} (P : A → Type 0) (h : Held) (d : Done A) → NeverOf P d → SoBy P h d
never_so P h (Gives x k) p = λ so. absurd (p so)
never_so P h (Traps why k) p = tt
never_so P h (Spent k) p = tt
never_so P h Stuck p = tt

pub never_behind : {A : Type 0} (R : Type 0) (P : A → Type 0) (h : Held) (d : Done A) → NeverOf P d → BehindBy R P h d
never_behind R P h (Gives x k) p = λ so. absurd (p so)
never_behind R P h (Traps why k) p = tt
never_behind R P h (Spent k) p = tt
never_behind R P h Stuck p = tt

pub no_after : {A B : Type 0} (P : B → Type 0) (d : Done A) (f : A → Held → Done B) → ((x : A) (k : Held) → NeverOf P (f x k)) → NeverOf P (after d f)
no_after P (Gives x k) f p = p x k
no_after P (Traps why k) f p = tt
no_after P (Spent k) f p = tt
no_after P Stuck f p = tt

pub no_given : {A B : Type 0} (P : B → Type 0) (o : Option A) (f : A → Done B) → ((x : A) → NeverOf P (f x)) → NeverOf P (given o f)
no_given P None f p = tt
no_given P (Some x) f p = p x

pub no_if : {A : Type 0} (P : A → Type 0) (b : Bool) (d e : Done A) → NeverOf P d → NeverOf P e → NeverOf P (if b then d else e)
no_if P true d e p q = p
no_if P false d e p q = q

-- Values are to be passed next.
abbrev pub IsPassed : Flow → Type 0
IsPassed (flow.Now words) = ⊥
IsPassed flow.Rests = ⊥
IsPassed (flow.Starts ref words) = ⊥
IsPassed flow.Enters = Unit {0}
IsPassed flow.Returns = Unit {0}
IsPassed (flow.Copies copying) = Unit {0}
IsPassed (flow.Delivers r set) = ⊥
IsPassed (flow.Polls r set) = ⊥
IsPassed (flow.HearsNone r) = ⊥
IsPassed (flow.HearsCancel r) = ⊥

abbrev pub PassBy : Held → Done Flow → Type 0
PassBy h d = SoBy IsPassed h d

abbrev pub NeverBy : Done Flow → Type 0
NeverBy d = NeverOf IsPassed d

pub pass_after : {A : Type 0} (h : Held) (d : Done A) (f : A → Held → Done Flow) → LentBy h d → ((x : A) (k : Held) → PassBy k (f x k)) → PassBy h (after d f)
pass_after h d f p q = so_after IsPassed h d f p q

pub pass_given : {A : Type 0} (h : Held) (o : Option A) (f : A → Done Flow) → ((x : A) → PassBy h (f x)) → PassBy h (given o f)
pass_given h o f p = so_given IsPassed h o f p

pub pass_if : (h : Held) (b : Bool) (d e : Done Flow) → PassBy h d → PassBy h e → PassBy h (if b then d else e)
pass_if h b d e p q = so_if IsPassed h b d e p q

pub by_never : (h : Held) (d : Done Flow) → NeverBy d → PassBy h d
by_never h d p = never_so IsPassed h d p

pub never_after : {A : Type 0} (d : Done A) (f : A → Held → Done Flow) → ((x : A) (k : Held) → NeverBy (f x k)) → NeverBy (after d f)
never_after d f p = no_after IsPassed d f p

pub never_given : {A : Type 0} (o : Option A) (f : A → Done Flow) → ((x : A) → NeverBy (f x)) → NeverBy (given o f)
never_given o f p = no_given IsPassed o f p

pub never_if : (b : Bool) (d e : Done Flow) → NeverBy d → NeverBy e → NeverBy (if b then d else e)
never_if b d e p q = no_if IsPassed b d e p q

plain_is_none : (x : Flow) → IsPlain x → IsPassed x → ⊥
plain_is_none (flow.Now words) p is = is
plain_is_none flow.Rests p is = is
plain_is_none (flow.Starts ref words) p is = is
plain_is_none flow.Enters p is = p
plain_is_none flow.Returns p is = p
plain_is_none (flow.Copies copying) p is = p
plain_is_none (flow.Delivers r set) p is = p
plain_is_none (flow.Polls r set) p is = p
plain_is_none (flow.HearsNone r) p is = p
plain_is_none (flow.HearsCancel r) p is = p

pub by_plain : (d : Done Flow) → PlainBy d → NeverBy d
by_plain (Gives x k) p = plain_is_none x p
by_plain (Traps why k) p = tt
by_plain (Spent k) p = tt
by_plain Stuck p = tt

pub pass_plain : (h : Held) (d : Done Flow) → PlainBy d → PassBy h d
pass_plain h d p = by_never h d (by_plain d p)
