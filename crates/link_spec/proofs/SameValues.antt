-- The tests say whether value types are the same.
use Rattle.std.proofs.Common.{◌≡◌, ℕ, Bool, true, false, ◌&&◌, List, [], ◌∷◌, map, refl, sym, ◌∙◌, ap, ap₂, subst, Option, Some, None}
use Rattle.std.specs.Bool.{Decides}
use Rattle.std.specs.List.{AllByRecursion}
use Rattle.std.specs.Str.{bytes_eq}
use Rattle.std.proofs.lemmas.Bool.Decides.{Decides-eqb}
use Rattle.std.proofs.lemmas.Slice.Eq.{bytes_eq-Decides}
use Rattle.syntax_trees.specs.declared.types.ValType.{ValType, out-ValType, roll-ValType, fold-ValType}
use Rattle.syntax_trees.specs.declared.types.ValType.TheViews.{out-roll-ValType, roll-out-ValType, roll-Case, roll-Field}
use Rattle.syntax_trees.specs.declared.types.ValType.TheOpen as F
use Rattle.syntax_trees.specs.declared.types.ValType.TheFolds.{fold-Case, fold-Field, fold-roll-ValType, ind-ValType, map-ValType, map-Case, map-Field}
use Rattle.syntax_trees.specs.declared.types.Case.{Case}
use Rattle.syntax_trees.specs.declared.types.Field.{Field}
use Rattle.syntax_trees.proofs.Folds.{held, fold_case, fold_field}
use Rattle.link_spec.specs.Same.{all_pass, held_passes, same_names, same_layer, same_step, same_case, same_field, same_val}

pub never : {A : Type 0} → false ≡ true → A
never h = cc

pub both : (a b : Bool) → (a && b) ≡ true → (a ≡ true) × (b ≡ true)
both true true h = (refl, refl)
both true false h = never h
both false b h = never h

pub and : (a b : Bool) → a ≡ true → b ≡ true → (a && b) ≡ true
and a b h k = rw (h, k) refl

-- a test of what is the same as this
abbrev pub Tells : {A : Type 0} → (A → Bool) → A → Type 0
Tells {A} test x = (y : A) → Decides (test y) (x ≡ y)

tells_at : {A : Type 0} (test other : A → Bool) (x : A) → test ≡ other → Tells other x → Tells test x
tells_at {A} test other x e told = subst (λ (t : A → Bool). Tells t x) (sym e) told

-- Lists and parts that may be absent, where there is a test for each item.
list_self : {A : Type 0} (test : A → A → Bool) (xs : List A) → AllByRecursion (λ x. Tells (test x) x) xs → all_pass (map test xs) xs ≡ true
list_self test [] all = refl
list_self test (x ∷ xs) all = and (test x x) (all_pass (map test xs) xs) ((all.0 x).1 refl) (list_self test xs all.1)

list_same : {A : Type 0} (test : A → A → Bool) (xs ys : List A) → AllByRecursion (λ x. Tells (test x) x) xs → all_pass (map test xs) ys ≡ true → xs ≡ ys
list_same test [] [] all h = refl
list_same test [] (y ∷ ys) all h = never h
list_same test (x ∷ xs) [] all h = never h
list_same test (x ∷ xs) (y ∷ ys) all h =
    let p = both (test x y) (all_pass (map test xs) ys) h in
    let first : x ≡ y = (all.0 y).0 p.0 in
    let rest : xs ≡ ys = list_same test xs ys all.1 p.1 in
    cc (first, rest)

pub list_told : {A : Type 0} (test : A → A → Bool) (xs : List A) → AllByRecursion (λ x. Tells (test x) x) xs → Tells (all_pass (map test xs)) xs
list_told {A} test xs all = λ ys. (list_same test xs ys all, λ e. subst (λ (ys : List A). all_pass (map test xs) ys ≡ true) e (list_self test xs all))

pub every : {A : Type 0} (P : A → Type 0) → ((x : A) → P x) → (xs : List A) → AllByRecursion P xs
every P f [] = tt
every P f (x ∷ xs) = (f x, every P f xs)

pub none_told : {A : Type 0} → Tells (held_passes {A = A} None) None
none_told None = (λ h. refl, λ e. refl)
none_told (Some y) = (λ h. never h, λ e. cc)

pub some_told : {A : Type 0} (test : A → Bool) (x : A) → Tells test x → Tells (held_passes (Some test)) (Some x)
some_told test x told None = (λ h. never h, λ e. cc)
some_told test x told (Some y) = (λ h. ap Some ((told y).0 h), λ e. (told y).1 (let same : x ≡ y = cc in same))

pub name_told : (label : List ℕ) → Tells (bytes_eq label) label
name_told label other = ((bytes_eq-Decides label other).0, (bytes_eq-Decides label other).1)

names_told : (labels : List (List ℕ)) → Tells (same_names labels) labels
names_told labels = list_told bytes_eq labels (every (λ label. Tells (bytes_eq label) label) name_told labels)

pub both_told : {A B C : Type 0} (make : A → B → C) (test : A → Bool) (other : B → Bool) (x : A) (y : B) → Tells test x → Tells other y
    → (z : A) (w : B) → (test z && other w) ≡ true → make x y ≡ make z w
both_told make test other x y told tells z w h =
    let p = both (test z) (other w) h in
    ap₂ make ((told z).0 p.0) ((tells w).0 p.1)

pub both_self : {A B : Type 0} (test : A → Bool) (other : B → Bool) (x : A) (y : B) → Tells test x → Tells other y → (test x && other y) ≡ true
both_self test other x y told tells = and (test x) (other y) ((told x).1 refl) ((tells y).1 refl)

-- Value types.

abbrev same_type : ValType → ValType → Bool
same_type = fold-ValType (ValType → Bool) (Case → Bool) (Field → Bool) same_step same_case same_field

abbrev case_test : Case → Case → Bool
case_test = fold-Case (ValType → Bool) (Case → Bool) (Field → Bool) same_step same_case same_field

abbrev field_test : Field → Field → Bool
field_test = fold-Field (ValType → Bool) (Case → Bool) (Field → Bool) same_step same_case same_field

abbrev TypeTold : ValType → Type 0
TypeTold t = Tells (same_type t) t

abbrev CaseTold : Case → Type 0
CaseTold c = Tells (case_test c) c

abbrev FieldTold : Field → Type 0
FieldTold f = Tells (field_test f) f

abbrev TypeAnd : Type 0
TypeAnd = (t : ValType) × TypeTold t

abbrev CaseAnd : Type 0
CaseAnd = (c : Case) × CaseTold c

abbrev FieldAnd : Type 0
FieldAnd = (f : Field) × FieldTold f

all_of : {A : Type 0} (P : A → Type 0) (l : List ((x : A) × P x)) → AllByRecursion P (map (λ (e : (x : A) × P x). e.0) l)
all_of P [] = tt
all_of P (e ∷ l) = (e.1, all_of P l)

abbrev layer : F.ValType-F TypeAnd CaseAnd FieldAnd → F.ValType-F ValType Case Field
layer y = map-ValType TypeAnd CaseAnd FieldAnd ValType Case Field (λ e. e.0) (λ e. e.0) (λ e. e.0) y

abbrev tests : F.ValType-F ValType Case Field → F.ValType-F (ValType → Bool) (Case → Bool) (Field → Bool)
tests x = map-ValType ValType Case Field (ValType → Bool) (Case → Bool) (Field → Bool) same_type case_test field_test x

fields_told : (fields : List FieldAnd) → Tells (all_pass (map field_test (map (λ (e : FieldAnd). e.0) fields))) (map (λ (e : FieldAnd). e.0) fields)
fields_told fields = list_told field_test (map (λ (e : FieldAnd). e.0) fields) (all_of FieldTold fields)

cases_told : (cases : List CaseAnd) → Tells (all_pass (map case_test (map (λ (e : CaseAnd). e.0) cases))) (map (λ (e : CaseAnd). e.0) cases)
cases_told cases = list_told case_test (map (λ (e : CaseAnd). e.0) cases) (all_of CaseTold cases)

parts_told : (parts : List TypeAnd) → Tells (all_pass (map same_type (map (λ (e : TypeAnd). e.0) parts))) (map (λ (e : TypeAnd). e.0) parts)
parts_told parts = list_told same_type (map (λ (e : TypeAnd). e.0) parts) (all_of TypeTold parts)

layer_same : (y : F.ValType-F TypeAnd CaseAnd FieldAnd) (x : F.ValType-F ValType Case Field) → same_layer (tests (layer y)) x ≡ true → layer y ≡ x
layer_same F.Bool F.Bool h = refl
layer_same F.S8 F.S8 h = refl
layer_same F.U8 F.U8 h = refl
layer_same F.S16 F.S16 h = refl
layer_same F.U16 F.U16 h = refl
layer_same F.S32 F.S32 h = refl
layer_same F.U32 F.U32 h = refl
layer_same F.S64 F.S64 h = refl
layer_same F.U64 F.U64 h = refl
layer_same F.Char F.Char h = refl
layer_same F.String F.String h = refl
layer_same (F.Record fields) (F.Record others) h = ap F.Record ((fields_told fields others).0 h)
layer_same (F.Variant cases) (F.Variant others) h = ap F.Variant ((cases_told cases others).0 h)
layer_same (F.List e) (F.List other) h = ap F.List ((e.1 other).0 h)
layer_same (F.Tuple parts) (F.Tuple others) h = ap F.Tuple ((parts_told parts others).0 h)
layer_same (F.Flags labels) (F.Flags others) h = ap F.Flags ((names_told labels others).0 h)
layer_same (F.Enum labels) (F.Enum others) h = ap F.Enum ((names_told labels others).0 h)
layer_same (F.Option e) (F.Option other) h = ap F.Option ((e.1 other).0 h)
layer_same (F.Result None None) (F.Result ok err) h = both_told F.Result (held_passes None) (held_passes None) None None none_told none_told ok err h
layer_same (F.Result None (Some e)) (F.Result ok err) h = both_told F.Result (held_passes None) (held_passes (Some (same_type e.0))) None (Some e.0) none_told (some_told (same_type e.0) e.0 e.1) ok err h
layer_same (F.Result (Some o) None) (F.Result ok err) h = both_told F.Result (held_passes (Some (same_type o.0))) (held_passes None) (Some o.0) None (some_told (same_type o.0) o.0 o.1) none_told ok err h
layer_same (F.Result (Some o) (Some e)) (F.Result ok err) h =
    both_told F.Result (held_passes (Some (same_type o.0))) (held_passes (Some (same_type e.0))) (Some o.0) (Some e.0) (some_told (same_type o.0) o.0 o.1) (some_told (same_type e.0) e.0 e.1) ok err h
layer_same (F.Own n) (F.Own other) h = ap F.Own ((Decides-eqb n other).0 h)
layer_same (F.Borrow n) (F.Borrow other) h = ap F.Borrow ((Decides-eqb n other).0 h)
layer_same (F.Stream None) (F.Stream other) h = ap F.Stream ((none_told other).0 h)
layer_same (F.Stream (Some e)) (F.Stream other) h = ap F.Stream ((some_told (same_type e.0) e.0 e.1 other).0 h)
layer_same (F.Future None) (F.Future other) h = ap F.Future ((none_told other).0 h)
layer_same (F.Future (Some e)) (F.Future other) h = ap F.Future ((some_told (same_type e.0) e.0 e.1 other).0 h)
layer_same y x h = never h

layer_self : (y : F.ValType-F TypeAnd CaseAnd FieldAnd) → same_layer (tests (layer y)) (layer y) ≡ true
layer_self F.Bool = refl
layer_self F.S8 = refl
layer_self F.U8 = refl
layer_self F.S16 = refl
layer_self F.U16 = refl
layer_self F.S32 = refl
layer_self F.U32 = refl
layer_self F.S64 = refl
layer_self F.U64 = refl
layer_self F.Char = refl
layer_self F.String = refl
layer_self (F.Record fields) = (fields_told fields _).1 refl
layer_self (F.Variant cases) = (cases_told cases _).1 refl
layer_self (F.List e) = (e.1 e.0).1 refl
layer_self (F.Tuple parts) = (parts_told parts _).1 refl
layer_self (F.Flags labels) = (names_told labels labels).1 refl
layer_self (F.Enum labels) = (names_told labels labels).1 refl
layer_self (F.Option e) = (e.1 e.0).1 refl
layer_self (F.Result None None) = refl
layer_self (F.Result None (Some e)) = both_self (held_passes {A = ValType} None) (held_passes (Some (same_type e.0))) None (Some e.0) none_told (some_told (same_type e.0) e.0 e.1)
layer_self (F.Result (Some o) None) = both_self (held_passes (Some (same_type o.0))) (held_passes {A = ValType} None) (Some o.0) None (some_told (same_type o.0) o.0 o.1) none_told
layer_self (F.Result (Some o) (Some e)) =
    both_self (held_passes (Some (same_type o.0))) (held_passes (Some (same_type e.0))) (Some o.0) (Some e.0) (some_told (same_type o.0) o.0 o.1) (some_told (same_type e.0) e.0 e.1)
layer_self (F.Own n) = (Decides-eqb n n).1 refl
layer_self (F.Borrow n) = (Decides-eqb n n).1 refl
layer_self (F.Stream None) = refl
layer_self (F.Stream (Some e)) = (e.1 e.0).1 refl
layer_self (F.Future None) = refl
layer_self (F.Future (Some e)) = (e.1 e.0).1 refl

-- the other type by its layer
rolled : (y : F.ValType-F TypeAnd CaseAnd FieldAnd) → TypeTold (roll-ValType (layer y))
rolled y = tells_at (same_type (roll-ValType (layer y))) (same_step (tests (layer y))) (roll-ValType (layer y))
    (fold-roll-ValType (ValType → Bool) (Case → Bool) (Field → Bool) same_step same_case same_field (layer y))
    (λ u. (
      λ h. ap roll-ValType (layer_same y (out-ValType u) h) ∙ roll-out-ValType u,
      λ e. subst (λ (u : ValType). same_layer (tests (layer y)) (out-ValType u) ≡ true) e
          (subst (λ (x : F.ValType-F ValType Case Field). same_layer (tests (layer y)) x ≡ true) (sym (out-roll-ValType (layer y))) (layer_self y)),
    ))

payload_told : (label : List ℕ) (o : Option ValType) → Tells (held_passes (held same_type o)) o → CaseTold (record { label = label; payload = o })
payload_told label o told =
    tells_at (case_test c) (same_case (record { label = label; payload = held same_type o })) c
    (fold_case (ValType → Bool) (Case → Bool) (Field → Bool) same_step same_case same_field c)
    (λ d. (
      λ h. both_told (λ label payload. (let c : Case = record { label = label; payload = payload } in c)) (bytes_eq label) (held_passes (held same_type o)) label o (name_told label) told d.label d.payload h,
      λ e. subst (λ (d : Case). same_case (record { label = label; payload = held same_type o }) d ≡ true) e (both_self (bytes_eq label) (held_passes (held same_type o)) label o (name_told label) told),
    ))
  where
    c : Case
    c = record { label = label; payload = o }

named_told : (label : List ℕ) (t : ValType) → TypeTold t → FieldTold (record { label = label; val_type = t })
named_told label t told =
    tells_at (field_test f) (same_field (record { label = label; val_type = same_type t })) f
    (fold_field (ValType → Bool) (Case → Bool) (Field → Bool) same_step same_case same_field f)
    (λ d. (
      λ h. both_told (λ label val_type. (let f : Field = record { label = label; val_type = val_type } in f)) (bytes_eq label) (same_type t) label t (name_told label) told d.label d.val_type h,
      λ e. subst (λ (d : Field). same_field (record { label = label; val_type = same_type t }) d ≡ true) e (both_self (bytes_eq label) (same_type t) label t (name_told label) told),
    ))
  where
    f : Field
    f = record { label = label; val_type = t }

case_step : (y : F.Case-F TypeAnd CaseAnd FieldAnd) → CaseTold (roll-Case (map-Case TypeAnd CaseAnd FieldAnd ValType Case Field (λ e. e.0) (λ e. e.0) (λ e. e.0) y))
case_step y =
    elim y.payload as (λ p. CaseTold (roll-Case (map-Case TypeAnd CaseAnd FieldAnd ValType Case Field (λ e. e.0) (λ e. e.0) (λ e. e.0) (record { label = y.label; payload = p })))) [
      | Some e ↦ payload_told y.label (Some e.0) (some_told (same_type e.0) e.0 e.1)
      | None ↦ payload_told y.label None none_told
    ]

field_step : (y : F.Field-F TypeAnd CaseAnd FieldAnd) → FieldTold (roll-Field (map-Field TypeAnd CaseAnd FieldAnd ValType Case Field (λ e. e.0) (λ e. e.0) (λ e. e.0) y))
field_step y = named_told y.label y.val_type.0 y.val_type.1

pub val_told : (t : ValType) → Tells (same_val t) t
val_told =
    ind-ValType TypeTold CaseTold FieldTold
    (λ x y e. subst (λ (z : F.ValType-F ValType Case Field). TypeTold (roll-ValType z)) e (rolled y))
    (λ x y e. subst (λ (z : F.Case-F ValType Case Field). CaseTold (roll-Case z)) e (case_step y))
    (λ x y e. subst (λ (z : F.Field-F ValType Case Field). FieldTold (roll-Field z)) e (field_step y))
