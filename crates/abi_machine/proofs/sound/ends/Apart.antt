-- Ends that are apart, and plans that add each once.
use Rattle.std.proofs.Common.{◌≡◌, List, [], ◌∷◌, ◌++◌}
use Rattle.abi_machine.specs.LoweringOver.{New, NewOwn, NewBorrow, NewEnd, Plan, Gives, Fails, Asks, Size, Put, Adds}
use Rattle.abi_machine.specs.Control.{EndRef}
use Rattle.abi_machine.specs.sound.EndsPassed.{readable, Besides, AreApart, IsOfNew, ButNew, AddsOnce}

-- what is so of more ends
pub besides_as : (xs : List EndRef) (P Q : EndRef → Type 0) → ((e : EndRef) → P e → Q e) → (e : EndRef) → Besides xs P e → Besides xs Q e
besides_as [] P Q f e h = f e h
besides_as (x ∷ xs) P Q f e h = besides_as xs (λ y. P y × (y ≡ x → ⊥)) (λ y. Q y × (y ≡ x → ⊥)) (λ y k. (f y k.0, k.1)) e h

pub apart_as : (xs : List EndRef) (P Q : EndRef → Type 0) → ((e : EndRef) → P e → Q e) → AreApart xs P → AreApart xs Q
apart_as [] P Q f h = tt
apart_as (x ∷ xs) P Q f h = (f x h.0, apart_as xs (λ y. P y × (y ≡ x → ⊥)) (λ y. Q y × (y ≡ x → ⊥)) (λ y k. (f y k.0, k.1)) h.1)

pub besides_is : (xs : List EndRef) (P : EndRef → Type 0) (e : EndRef) → Besides xs P e → P e
besides_is [] P e h = h
besides_is (x ∷ xs) P e h = (besides_is xs (λ y. P y × (y ≡ x → ⊥)) e h).0

-- lists one behind the other
pub apart_both : (xs ys : List EndRef) (P : EndRef → Type 0) → AreApart xs P → AreApart ys (Besides xs P) → AreApart (xs ++ ys) P
apart_both [] ys P h k = k
apart_both (x ∷ xs) ys P h k = (h.0, apart_both xs ys (λ y. P y × (y ≡ x → ⊥)) h.1 k)

pub apart_first : (xs ys : List EndRef) (P : EndRef → Type 0) → AreApart (xs ++ ys) P → AreApart xs P
apart_first [] ys P h = tt
apart_first (x ∷ xs) ys P h = (h.0, apart_first xs ys (λ y. P y × (y ≡ x → ⊥)) h.1)

pub apart_second : (xs ys : List EndRef) (P : EndRef → Type 0) → AreApart (xs ++ ys) P → AreApart ys (Besides xs P)
apart_second [] ys P h = h
apart_second (x ∷ xs) ys P h = apart_second xs ys (λ y. P y × (y ≡ x → ⊥)) h.1

pub besides_both : (xs ys : List EndRef) (P : EndRef → Type 0) (e : EndRef) → Besides ys (Besides xs P) e → Besides (xs ++ ys) P e
besides_both [] ys P e h = h
besides_both (x ∷ xs) ys P e h = besides_both xs ys (λ y. P y × (y ≡ x → ⊥)) e h

pub besides_split : (xs ys : List EndRef) (P : EndRef → Type 0) (e : EndRef) → Besides (xs ++ ys) P e → Besides ys (Besides xs P) e
besides_split [] ys P e h = h
besides_split (x ∷ xs) ys P e h = besides_split xs ys (λ y. P y × (y ≡ x → ⊥)) e h

-- an end that is none of a list
pub besides_other : (xs : List EndRef) (P Q : EndRef → Type 0) → AreApart xs Q → (e : EndRef) → P e → ((x : EndRef) → Q x → e ≡ x → ⊥) → Besides xs P e
besides_other [] P Q h e p other = p
besides_other (x ∷ xs) P Q h e p other =
    besides_other xs (λ y. P y × (y ≡ x → ⊥)) (λ y. Q y × (y ≡ x → ⊥)) h.1 e (p, other x h.0) (λ y q. other y q.0)

-- Of ends but for those of several lists.

pub fewer : (gone xs : List EndRef) (P : EndRef → Type 0) (e : EndRef) → Besides (gone ++ xs) P e → Besides gone P e
fewer gone xs P e h = besides_is xs (Besides gone P) e (besides_split gone xs P e h)

pub without_first : (gone xs ys : List EndRef) (P : EndRef → Type 0) (e : EndRef) → Besides (gone ++ (xs ++ ys)) P e → Besides (gone ++ ys) P e
without_first gone xs ys P e h =
    besides_both gone ys P e
    (besides_as ys (Besides xs (Besides gone P)) (Besides gone P) (λ y k. besides_is xs (Besides gone P) y k) e (besides_split xs ys (Besides gone P) e (besides_split gone (xs ++ ys) P e h)))

pub without_both : (gone xs ys : List EndRef) (P : EndRef → Type 0) (e : EndRef) → Besides (gone ++ (xs ++ ys)) P e → Besides ((gone ++ xs) ++ ys) P e
without_both gone xs ys P e h =
    besides_both (gone ++ xs) ys P e
    (besides_as ys (Besides xs (Besides gone P)) (Besides (gone ++ xs) P) (λ y k. besides_both gone xs P y k) e (besides_split xs ys (Besides gone P) e (besides_split gone (xs ++ ys) P e h)))

-- Plans.

new_as : (entry : New) (P Q : EndRef → Type 0) → ((e : EndRef) → P e → Q e) → IsOfNew entry P → IsOfNew entry Q
new_as (NewOwn resource rep) P Q f h = tt
new_as (NewBorrow resource rep) P Q f h = tt
new_as (NewEnd kind number) P Q f h = f (readable kind number) h

pub but_as : (entry : New) (P Q : EndRef → Type 0) → ((e : EndRef) → P e → Q e) → (e : EndRef) → ButNew entry P e → ButNew entry Q e
but_as (NewOwn resource rep) P Q f e h = f e h
but_as (NewBorrow resource rep) P Q f e h = f e h
but_as (NewEnd kind number) P Q f e h = (f e h.0, h.1)

pub adds_as : (plan : Plan) (P Q : EndRef → Type 0) → ((e : EndRef) → P e → Q e) → AddsOnce plan P → AddsOnce plan Q
adds_as (Gives words) P Q f h = tt
adds_as (Fails why) P Q f h = tt
adds_as (Asks ask k) P Q f h = λ place. adds_as (k place) P Q f (h place)
adds_as (Size k) P Q f h = λ size. adds_as (k size) P Q f (h size)
adds_as (Put place bytes k) P Q f h = adds_as k P Q f h
adds_as (Adds entry k) P Q f h = (new_as entry P Q f h.0, λ index. adds_as (k index) (ButNew entry P) (ButNew entry Q) (λ e b. but_as entry P Q f e b) (h.1 index))
