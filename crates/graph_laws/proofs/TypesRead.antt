-- A variant or an enum that is read of bytes, at any depth of a component, has fewer than 2^32 labels.
use Rattle.std.proofs.Common.{◌≡◌, ◌∙◌, ◌<◌, ◌+◌, ◌-◌, ◌*◌, ◌^◌, ℕ, zero, suc, Bool, true, false, List, [], ◌∷◌, length, map, Option, Some, None, refl, sym, ap, subst, arith}
use Rattle.std.specs.Prelude.{◌==◌, nat_lt}
use Rattle.std.specs.List.{AllByRecursion}
use Rattle.std.proofs.lemmas.Bool.{ltb-true, lt-ltb, and_from}
use Rattle.ca_base.specs.Span.{Span}
use Rattle.ca_base.specs.Grammar.{Grammar, Give, Refuse, Here, Byte, Choose, ◌>>=◌, times, Matches}
use Rattle.ca_base.specs.Items.{NumberReasons, unsigned, last_byte, u32, name, vec}
use Rattle.comp_tree.specs.declared.types.PrimValType.{PrimValType}
use Rattle.comp_tree.specs.declared.types.FuncType.{FuncType}
use Rattle.comp_tree.specs.declared.types.DefValType.{DefValType}
use Rattle.comp_tree.specs.declared.types.DefValType.TheVariants as values
use Rattle.comp_tree.specs.declared.types.DefType.{DefType}
use Rattle.comp_tree.specs.declared.types.DefType.TheOpen.{DefType-F, InstanceDecl-F}
use Rattle.comp_tree.specs.declared.types.DefType.TheVariants as plain_type
use Rattle.comp_tree.specs.declared.types.DefType.TheViews.{rolls-Value, rolls-Func, rolls-Instance, rolls-Resource, rolls-Type, rolls-Alias, rolls-Export}
use Rattle.comp_tree.specs.declared.types.DefType.TheFolds.{fold-InstanceDecl, fold-roll-DefType, fold-roll-InstanceDecl}
use Rattle.comp_tree.specs.declared.types.InstanceDecl.{InstanceDecl}
use Rattle.comp_tree.specs.declared.types.InstanceDecl.TheVariants as decl
use Rattle.comp_tree.specs.declared.externs.ExternDesc.{ExternDesc}
use Rattle.comp_tree.specs.declared.externs.ExternDesc.TheVariants as desc
use Rattle.comp_tree.specs.declared.instances.Alias as aliased
use Rattle.part_reader.specs.declared.fault.ComponentWhy.{ComponentWhy}
use Rattle.part_reader.specs.Types.{primitive, given_as, val_type, maybe_val_type, field, variant_case, handle_or_primitive, def_val_type, func_type, resource_type}
use Rattle.part_reader.specs.Names.{extern_name}
use Rattle.comp_reader.specs.Binary.{alias, extern_desc, instance_decl, type_of, declarations, instance_type, depth_limit}
use Rattle.part_reader.specs.Reasons.{numbers, unsupported}
use Rattle.value_reader.specs.Writable.{all_true}
use Rattle.graph_laws.proofs.Bytes.{IsByte, matches_bytes, GivesOn, choice_on, times_on}
use Rattle.graph_laws.proofs.TypesStand as stands

-- Types that are read may be of streams, futures, handles and resources.
abbrev is_few : DefValType → Bool
is_few = stands.is_few true false

abbrev few_step : DefType-F Bool Bool → Bool
few_step = stands.few_step true false

abbrev few_decl_step : InstanceDecl-F Bool Bool → Bool
few_decl_step = stands.few_decl_step true

abbrev has_few : DefType → Bool
has_few = stands.has_few true false

-- Numbers: below the last byte's limit, with seven bits for each byte before it.
abbrev bound : ℕ → ℕ → ℕ
bound zero top = top
bound (suc more) top = 128 * bound more top

bound_some : (more top : ℕ) → 0 < top → 0 < bound more top
bound_some zero top h = h
bound_some (suc more) top h = let some = bound_some more top h in omega (arith, some)

last_below : {W : Type 0} (top b place : ℕ) (why : W) (s : Span W) (x : ℕ) (t : Span W) (c : Bool) → nat_lt b top ≡ c → Matches (Choose c (Give b) (Refuse place why)) s x t → x < top
last_below top b place why s x t true e m = subst (λ (n : ℕ). n < top) (sym m.0) (ltb-true b top e)
last_below top b place why s x t false e m = absurd m

more_below : {W : Type 0} (limit b : ℕ) (g : Grammar W ℕ) (s : Span W) (x : ℕ) (t : Span W) (c : Bool) → nat_lt b 128 ≡ c → b < 256 → 0 < limit → ((u : ℕ) (v : Span W) → Matches g s u v → u < limit)
    → Matches (Choose c (Give b) (g >>= (λ high. Give (128 * high + (b - 128))))) s x t → x < 128 * limit
more_below limit b g s x t true e byte some h m =
    let low = ltb-true b 128 e in
    subst (λ (n : ℕ). n < 128 * limit) (sym m.0) (omega (arith, low, some))
more_below limit b g s x t false e byte some h m =
    let high = h m.0 m.1 m.2 in
    subst (λ (n : ℕ). n < 128 * limit) (sym m.3.0) (omega (arith, high, byte))

unsigned_below : {W : Type 0} (n : NumberReasons W) (more top : ℕ) → 0 < top → GivesOn IsByte (λ x. x < bound more top) (unsigned n more top)
unfolding unsigned last_byte
unsigned_below n zero top some s x t bytes m = last_below top m.3.0 m.0 n.leb m.3.1 x t (nat_lt m.3.0 top) refl m.3.3
unsigned_below n (suc more) top some s x t bytes m =
    let all : AllByRecursion IsByte (m.0 ∷ m.1.bytes) = subst (AllByRecursion IsByte) m.2.0 bytes in
    more_below (bound more top) m.0 (unsigned n more top) m.1 x t (nat_lt m.0 128) refl all.0 (bound_some more top some)
    (λ u v k. unsigned_below n more top some m.1 u v all.1 k) m.3

-- Vectors.
times_length : {W A : Type 0} (g : Grammar W A) (count : ℕ) (s : Span W) (x : List A) (t : Span W) → Matches (times count g) s x t → length x ≡ count
times_length g zero s x t m = ap (λ (xs : List _). length xs) m.0
times_length g (suc count) s x t m = ap (λ (xs : List _). length xs) m.3.3.0 ∙ ap (λ (n : ℕ). suc n) (times_length g count m.1 m.3.0 m.3.1 m.3.2)

vec_few : {A : Type 0} (g : Grammar ComponentWhy A) → GivesOn IsByte (λ (xs : List A). nat_lt (length xs) (2 ^ 32) ≡ true) (vec numbers g)
vec_few g s x t bytes m =
    let low : m.0 < bound 4 16 = unsigned_below numbers 4 16 (omega arith) s m.0 m.1 bytes m.2 in
    let many = times_length g m.0 m.1 x t m.3 in
    lt-ltb (length x) (2 ^ 32) (omega (arith, low, many))

-- Value types.
abbrev IsFew : DefValType → Type 0
IsFew type = is_few type ≡ true

abbrev records : Grammar ComponentWhy DefValType
records = do
  fields ← vec numbers field
  Give (values.Record fields)

abbrev variants : Grammar ComponentWhy DefValType
variants = do
  cases ← vec numbers variant_case
  Give (values.Variant cases)

abbrev lists : Grammar ComponentWhy DefValType
lists = do
  element ← val_type
  Give (values.List element)

abbrev tuples : Grammar ComponentWhy DefValType
tuples = do
  places ← vec numbers val_type
  Give (values.Tuple places)

abbrev flags : Grammar ComponentWhy DefValType
flags = do
  labels ← vec numbers (name numbers)
  Give (values.Flags labels)

abbrev enums : Grammar ComponentWhy DefValType
enums = do
  labels ← vec numbers (name numbers)
  Give (values.Enum labels)

abbrev options : Grammar ComponentWhy DefValType
options = do
  payload ← val_type
  Give (values.Option payload)

abbrev results : Grammar ComponentWhy DefValType
results = do
  ok ← maybe_val_type
  err ← maybe_val_type
  Give (values.Result ok err)

abbrev owns : Grammar ComponentWhy DefValType
owns = do
  resource ← u32 numbers
  Give (values.Own resource)

abbrev borrows : Grammar ComponentWhy DefValType
borrows = do
  resource ← u32 numbers
  Give (values.Borrow resource)

abbrev streams : Grammar ComponentWhy DefValType
streams = do
  element ← maybe_val_type
  Give (values.Stream element)

abbrev futures : Grammar ComponentWhy DefValType
futures = do
  element ← maybe_val_type
  Give (values.Future element)

abbrev primitives : ℕ → ℕ → Grammar ComponentWhy DefValType
primitives place b = given_as values.Primitive place b (primitive b)

abbrev from_futures : ℕ → ℕ → Grammar ComponentWhy DefValType
from_futures place b = Choose (b == 0x65) futures (primitives place b)

abbrev from_streams : ℕ → ℕ → Grammar ComponentWhy DefValType
from_streams place b = Choose (b == 0x66) streams (from_futures place b)

abbrev from_borrows : ℕ → ℕ → Grammar ComponentWhy DefValType
from_borrows place b = Choose (b == 0x68) borrows (from_streams place b)

abbrev from_results : ℕ → ℕ → Grammar ComponentWhy DefValType
from_results place b = Choose (b == 0x6A) results (handle_or_primitive place b)

abbrev from_options : ℕ → ℕ → Grammar ComponentWhy DefValType
from_options place b = Choose (b == 0x6B) options (from_results place b)

abbrev from_enums : ℕ → ℕ → Grammar ComponentWhy DefValType
from_enums place b = Choose (b == 0x6D) enums (from_options place b)

abbrev from_flags : ℕ → ℕ → Grammar ComponentWhy DefValType
from_flags place b = Choose (b == 0x6E) flags (from_enums place b)

abbrev from_tuples : ℕ → ℕ → Grammar ComponentWhy DefValType
from_tuples place b = Choose (b == 0x6F) tuples (from_flags place b)

abbrev from_lists : ℕ → ℕ → Grammar ComponentWhy DefValType
from_lists place b = Choose (b == 0x70) lists (from_tuples place b)

abbrev from_variants : ℕ → ℕ → Grammar ComponentWhy DefValType
from_variants place b = Choose (b == 0x71) variants (from_lists place b)

given_few : (place b : ℕ) (o : Option PrimValType) → GivesOn IsByte IsFew (given_as values.Primitive place b o)
given_few place b None s x t bytes m = absurd m
given_few place b (Some type) s x t bytes m = subst IsFew (sym m.0) refl

handle_few : (place b : ℕ) → GivesOn IsByte IsFew (handle_or_primitive place b)
unfolding handle_or_primitive
handle_few place b =
    choice_on IsByte IsFew owns (from_borrows place b) (λ s x t bytes m. subst IsFew (sym m.3.0) refl)
    (choice_on IsByte IsFew borrows (from_streams place b) (λ s x t bytes m. subst IsFew (sym m.3.0) refl)
    (choice_on IsByte IsFew streams (from_futures place b) (λ s x t bytes m. subst IsFew (sym m.3.0) refl)
    (choice_on IsByte IsFew futures (primitives place b) (λ s x t bytes m. subst IsFew (sym m.3.0) refl) (given_few place b (primitive b)) (b == 0x65))
    (b == 0x66)) (b == 0x68)) (b == 0x69)

value_few : (place b : ℕ) → GivesOn IsByte IsFew (def_val_type place b)
unfolding def_val_type
value_few place b =
    choice_on IsByte IsFew records (from_variants place b) (λ s x t bytes m. subst IsFew (sym m.3.0) refl)
    (choice_on IsByte IsFew variants (from_lists place b) (λ s x t bytes m. subst IsFew (sym m.3.0) (vec_few variant_case s m.0 m.1 bytes m.2))
    (choice_on IsByte IsFew lists (from_tuples place b) (λ s x t bytes m. subst IsFew (sym m.3.0) refl)
    (choice_on IsByte IsFew tuples (from_flags place b) (λ s x t bytes m. subst IsFew (sym m.3.0) refl)
    (choice_on IsByte IsFew flags (from_enums place b) (λ s x t bytes m. subst IsFew (sym m.3.0) refl)
    (choice_on IsByte IsFew enums (from_options place b) (λ s x t bytes m. subst IsFew (sym m.3.0) (vec_few (name numbers) s m.0 m.1 bytes m.2))
    (choice_on IsByte IsFew options (from_results place b) (λ s x t bytes m. subst IsFew (sym m.3.0) refl)
    (choice_on IsByte IsFew results (handle_or_primitive place b) (λ s x t bytes m. subst IsFew (sym m.3.3.0) refl) (handle_few place b) (b == 0x6A))
    (b == 0x6B)) (b == 0x6D)) (b == 0x6E)) (b == 0x6F)) (b == 0x70)) (b == 0x71)) (b == 0x72)

-- Types and declarations.
abbrev HasFew : DefType → Type 0
HasFew t = has_few t ≡ true

abbrev decl_few : InstanceDecl → Bool
decl_few = fold-InstanceDecl Bool Bool few_step few_decl_step

abbrev HasFewDecl : InstanceDecl → Type 0
HasFewDecl d = decl_few d ≡ true

of_value : (type : DefValType) → IsFew type → HasFew (plain_type.Value type)
of_value type h = ap has_few (sym (rolls-Value type)) ∙ fold-roll-DefType Bool Bool few_step few_decl_step (DefType-F.Value type) ∙ h

of_func : (type : FuncType) → HasFew (plain_type.Func type)
of_func type = ap has_few (sym (rolls-Func type)) ∙ fold-roll-DefType Bool Bool few_step few_decl_step (DefType-F.Func type)

of_resource : (destructor : Option ℕ) → HasFew (plain_type.Resource destructor)
of_resource destructor = ap has_few (sym (rolls-Resource destructor)) ∙ fold-roll-DefType Bool Bool few_step few_decl_step (DefType-F.Resource destructor)

all_few : (decls : List InstanceDecl) → AllByRecursion HasFewDecl decls → all_true (map decl_few decls) ≡ true
all_few [] h = refl
all_few (d ∷ decls) h = and_from (decl_few d) (all_true (map decl_few decls)) h.0 (all_few decls h.1)

of_instance : (decls : List InstanceDecl) → AllByRecursion HasFewDecl decls → HasFew (plain_type.Instance decls)
of_instance decls h = ap has_few (sym (rolls-Instance decls)) ∙ fold-roll-DefType Bool Bool few_step few_decl_step (DefType-F.Instance decls) ∙ all_few decls h

of_type_decl : (type : DefType) → HasFew type → HasFewDecl (decl.Type type)
of_type_decl type h = ap decl_few (sym (rolls-Type type)) ∙ fold-roll-InstanceDecl Bool Bool few_step few_decl_step (InstanceDecl-F.Type type) ∙ h

of_alias_decl : (a : aliased.Alias) → HasFewDecl (decl.Alias a)
of_alias_decl a = ap decl_few (sym (rolls-Alias a)) ∙ fold-roll-InstanceDecl Bool Bool few_step few_decl_step (InstanceDecl-F.Alias a)

desc_few : (asked : ExternDesc) → stands.is_few_desc true asked ≡ true
desc_few (desc.Func index) = refl
desc_few (desc.TypeEq index) = refl
desc_few (desc.Instance index) = refl
desc_few desc.Resource = refl

of_export_decl : (label : List ℕ) (asked : ExternDesc) → HasFewDecl (decl.Export label asked)
of_export_decl label asked = ap decl_few (sym (rolls-Export label asked)) ∙ fold-roll-InstanceDecl Bool Bool few_step few_decl_step (InstanceDecl-F.Export label asked) ∙ desc_few asked

abbrev type_decls : Grammar ComponentWhy DefType → Grammar ComponentWhy InstanceDecl
type_decls inner = do
  type ← inner
  Give (decl.Type type)

abbrev alias_decls : Grammar ComponentWhy InstanceDecl
alias_decls = do
  read ← alias
  Give (decl.Alias read)

abbrev export_decls : Grammar ComponentWhy InstanceDecl
export_decls = do
  export ← extern_name
  wanted ← extern_desc
  Give (decl.Export export wanted)

decl_gives : (inner : Grammar ComponentWhy DefType) → GivesOn IsByte HasFew inner → GivesOn IsByte HasFewDecl (instance_decl inner)
unfolding instance_decl
decl_gives inner h s x t bytes m =
    let b = m.3.0 in
    let at_byte = matches_bytes IsByte Here s m.0 m.1 bytes m.2 in
    choice_on IsByte HasFewDecl (type_decls inner) (Choose (b == 2) alias_decls (Choose (b == 4) export_decls (unsupported m.0 b)))
    (λ u y v k n. subst HasFewDecl (sym n.3.0) (of_type_decl n.0 (h u n.0 n.1 k n.2)))
    (choice_on IsByte HasFewDecl alias_decls (Choose (b == 4) export_decls (unsupported m.0 b)) (λ u y v k n. subst HasFewDecl (sym n.3.0) (of_alias_decl n.0))
    (choice_on IsByte HasFewDecl export_decls (unsupported m.0 b) (λ u y v k n. subst HasFewDecl (sym n.3.3.0) (of_export_decl n.0 n.3.0)) (λ u y v k n. absurd n) (b == 4)) (b == 2)) (b == 1)
    m.3.1 x t (matches_bytes IsByte Byte m.1 m.3.0 m.3.1 at_byte m.3.2) m.3.3

abbrev funcs : Grammar ComponentWhy DefType
funcs = do
  type ← func_type
  Give (plain_type.Func type)

abbrev resources : Grammar ComponentWhy DefType
resources = do
  destructor ← resource_type
  Give (plain_type.Resource destructor)

abbrev value_types : ℕ → ℕ → Grammar ComponentWhy DefType
value_types place b = do
  type ← def_val_type place b
  Give (plain_type.Value type)

type_gives : (inner : ℕ → Grammar ComponentWhy DefType) → ((place : ℕ) → GivesOn IsByte HasFew (inner place)) → GivesOn IsByte HasFew (type_of inner)
unfolding type_of
type_gives inner h s x t bytes m =
    let b = m.3.0 in
    let at_byte = matches_bytes IsByte Here s m.0 m.1 bytes m.2 in
    choice_on IsByte HasFew funcs (Choose (b == 0x42) (inner m.0) (Choose (b == 0x3F) resources (value_types m.0 b))) (λ u y v k n. subst HasFew (sym n.3.0) (of_func n.0))
    (choice_on IsByte HasFew (inner m.0) (Choose (b == 0x3F) resources (value_types m.0 b)) (h m.0)
    (choice_on IsByte HasFew resources (value_types m.0 b) (λ u y v k n. subst HasFew (sym n.3.0) (of_resource n.0))
    (λ u y v k n. subst HasFew (sym n.3.0) (of_value n.0 (value_few m.0 b u n.0 n.1 k n.2))) (b == 0x3F)) (b == 0x42)) (b == 0x40)
    m.3.1 x t (matches_bytes IsByte Byte m.1 m.3.0 m.3.1 at_byte m.3.2) m.3.3

declared : (inner : Grammar ComponentWhy DefType) → GivesOn IsByte HasFew inner → GivesOn IsByte HasFew (declarations inner)
unfolding declarations
declared inner h s x t bytes m =
    let at_items = matches_bytes IsByte (u32 numbers) s m.2.0 m.2.1 bytes m.2.2 in
    subst HasFew (sym m.3.0) (of_instance m.0 (times_on IsByte HasFewDecl (instance_decl inner) (decl_gives inner h) m.2.0 m.2.1 m.0 m.1 at_items m.2.3))

instance_gives : (more place : ℕ) → GivesOn IsByte HasFew (instance_type more place)
unfolding instance_type
instance_gives zero place s x t bytes m = absurd m
instance_gives (suc more) place s x t bytes m = declared (type_of (instance_type more)) (type_gives (instance_type more) (instance_gives more)) s x t bytes m

pub read_type_few : GivesOn IsByte HasFew (type_of (instance_type depth_limit))
read_type_few = type_gives (instance_type depth_limit) (instance_gives depth_limit)
