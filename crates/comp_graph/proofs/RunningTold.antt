-- The tests of synchronous functions say what the relations say.
use Rattle.std.proofs.Common.{◌≡◌, Bool, true, false, not, ◌&&◌, List, [], ◌∷◌, length, refl, ap, arith}
use Rattle.std.specs.Prelude.{◌==◌}
use Rattle.std.specs.Bool.{Decides}
use Rattle.std.proofs.lemmas.Bool.Decides.{Decides-eqb}
use Rattle.std.specs.List.{AllByRecursion, list_all}
use Rattle.comp_graph.specs.declared.graph.Lift.{Lift}
use Rattle.comp_graph.specs.declared.graph.CanonFunc.{CanonFunc}
use Rattle.comp_graph.specs.declared.graph.CanonFunc.TheVariants as canon_func
use Rattle.comp_graph.specs.Graph.{Graph}
use Rattle.comp_graph.specs.Running.{IsSyncLift, IsSyncCanon, IsSync, is_sync_lift, is_sync_canon, runs_now}

never : {A : Type 0} → false ≡ true → A
never h = cc

both : (a b : Bool) → (a && b) ≡ true → (a ≡ true) × (b ≡ true)
both true true h = (refl, refl)
both true false h = never h
both false b h = never h

and : (a b : Bool) → a ≡ true → b ≡ true → (a && b) ≡ true
and a b h k = rw (h, k) refl

both_told : {P Q : Type 0} (a b : Bool) → Decides a P → Decides b Q → Decides (a && b) (P × Q)
both_told a b h k = (λ e. let two = both a b e in (h.0 two.0, k.0 two.1), λ e. and a b (h.1 e.0) (k.1 e.1))

isnt_told : (b : Bool) → Decides (not b) (b ≡ false)
isnt_told true = (λ h. never h, λ h. cc)
isnt_told false = (λ h. refl, λ h. refl)

all_told : {A : Type 0} (test : A → Bool) (P : A → Type 0) → ((x : A) → Decides (test x) (P x)) → (xs : List A) → Decides (list_all test xs) (AllByRecursion P xs)
all_told test P each [] = (λ h. tt, λ h. refl)
all_told test P each (x ∷ xs) = both_told (test x) (list_all test xs) (each x) (all_told test P each xs)

is_nil : {A : Type 0} (xs : List A) → length xs ≡ 0 → xs ≡ []
is_nil [] h = refl
is_nil (x ∷ xs) h = absurd (omega (arith, h))

none_told : {A : Type 0} (xs : List A) → Decides (length xs == 0) (xs ≡ [])
none_told xs = let told = Decides-eqb (length xs) 0 in (λ h. is_nil xs (told.0 h), λ h. told.1 (ap length h))

lift_told : (lift : Lift) → Decides (is_sync_lift lift) (IsSyncLift lift)
lift_told lift = isnt_told lift.options.is_async

canon_told : (c : CanonFunc) → Decides (is_sync_canon c) (IsSyncCanon c)
canon_told (canon_func.Lower l) = both_told (not l.options.is_async) (is_sync_lift l.lift) (isnt_told l.options.is_async) (lift_told l.lift)
canon_told (canon_func.Builtin b) = (λ h. never h, λ h. absurd h)

-- Where a graph runs, it is one of synchronous functions.
pub runs_told : (g : Graph) → Decides (runs_now g) (IsSync g)
runs_told g = (λ h. let t = told.0 h in record { canons = t.0.0; lifts = t.0.1; resources = t.1 }, λ s. told.1 ((s.canons, s.lifts), s.resources))
  where
    c : Bool
    c = list_all is_sync_canon g.canons

    l : Bool
    l = list_all is_sync_lift g.lifts

    told : Decides (runs_now g) ((AllByRecursion IsSyncCanon g.canons × AllByRecursion IsSyncLift g.lifts) × (g.resources ≡ []))
    told =
        both_told (c && l) (length g.resources == 0)
        (both_told c l (all_told is_sync_canon IsSyncCanon canon_told g.canons) (all_told is_sync_lift IsSyncLift lift_told g.lifts))
        (none_told g.resources)
