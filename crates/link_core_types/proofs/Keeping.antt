-- What is kept of types that were asked for, as modules come and more types are asked for.
use Rattle.std.proofs.Common.{◌≡◌, ◌∙◌, ℕ, zero, suc, List, [], ◌∷◌, ◌++◌, map, refl, ap, sym, Option, Some, None}
use Rattle.std.specs.List.{slice_get}
use Rattle.std.specs.Option.{option_and_then}
use Rattle.std.specs.BTreeMap.{BTreeMap, get}
use denote.Ref.{Bor}
use Rattle.syntax_trees.specs.declared.module_types.FuncType.{FuncType}
use Rattle.link_core_types.specs.declared.module_type.ModuleType.{ModuleType}
use Rattle.link_core_types.specs.Types.{type_at, AreSame}
use Rattle.link_core_types.specs.Kept.{type_cmp, AreKept}

-- What is the same.

same_type : (o p : Option FuncType) → AreSame o p → (t : FuncType) × (o ≡ Some t) × (p ≡ Some t)
same_type (Some t) (Some u) h = (t, refl, ap (λ (u : FuncType). Some u) (sym h))
same_type (Some t) None h = absurd h
same_type None u h = absurd h

both_there : (t : FuncType) (o p : Option FuncType) → o ≡ Some t → p ≡ Some t → AreSame o p
both_there t o p a b = rw (a, b) refl

there_too : (t : FuncType) (o p : Option FuncType) → AreSame o p → o ≡ Some t → p ≡ Some t
there_too t o p h e = let s = same_type o p h in s.2 ∙ sym s.1 ∙ e

-- One module more.

stays : {A : Type 0} (xs ys : List A) (n : ℕ) (x : A) → slice_get xs n ≡ Some x → slice_get (xs ++ ys) n ≡ Some x
stays [] ys n x h = cc
stays (y ∷ xs) ys zero x h = h
stays (y ∷ xs) ys (suc n) x h = stays xs ys n x h

type_stays_in : (types : Option (List FuncType)) (others : Option (List FuncType)) (index : ℕ) (t : FuncType) → ((found : List FuncType) → types ≡ Some found → others ≡ Some found)
    → option_and_then (λ found. slice_get found index) types ≡ Some t → option_and_then (λ found. slice_get found index) others ≡ Some t
type_stays_in None others index t keeps h = cc
type_stays_in (Some found) others index t keeps h = rw (keeps found refl) h

type_stays : (modules more : List (List FuncType)) (at : ModuleType) (t : FuncType) → type_at modules at ≡ Some t → type_at (modules ++ more) at ≡ Some t
type_stays modules more at t h = type_stays_in (slice_get modules at.«module») (slice_get (modules ++ more) at.«module») at.index t (λ found e. stays modules more at.«module» found e) h

kept_more : (kept : BTreeMap ModuleType ModuleType) (modules more : List (List FuncType)) → AreKept kept modules → AreKept kept (modules ++ more)
kept_more kept modules more h = λ at first e.
    let s = same_type (type_at modules at) (type_at modules first) (h at first e) in
    both_there s.0 (type_at (modules ++ more) at) (type_at (modules ++ more) first) (type_stays modules more at s.0 s.1) (type_stays modules more first s.0 s.2)

map_more : (old : List (Bor (List FuncType))) (types : Bor (List FuncType)) → map (λ (m : Bor (List FuncType)). m.now) (old ++ types ∷ []) ≡ map (λ (m : Bor (List FuncType)). m.now) old ++ types.now ∷ []
map_more [] types = refl
map_more (m ∷ old) types = ap (λ ms. m.now ∷ ms) (map_more old types)

pub kept_pushed : (kept : BTreeMap ModuleType ModuleType) (old new : List (Bor (List FuncType))) (types : Bor (List FuncType)) → new ≡ old ++ types ∷ [] → AreKept kept (map (λ (m : Bor (List FuncType)). m.now) old) → AreKept kept (map (λ (m : Bor (List FuncType)). m.now) new)
kept_pushed kept old new types e h = rw (e, map_more old types) (kept_more kept (map (λ (m : Bor (List FuncType)). m.now) old) (types.now ∷ []) h)

-- What is found of a type.

pub found : (kept : BTreeMap ModuleType ModuleType) (modules seen : List (List FuncType)) (at first : ModuleType) (t : FuncType) → AreKept kept modules → modules ≡ seen → get type_cmp kept at ≡ Some first → type_at seen at ≡ Some t → type_at seen first ≡ Some t
found kept modules seen at first t h e is there = rw (← e) (there_too t (type_at modules at) (type_at modules first) (h at first is) (rw e there))
