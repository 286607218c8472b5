-- The functions that can be called, export by export.
use Rattle.std.proofs.Common.{◌≡◌, ◌<◌, ◌≤◌, ◌+◌, ℕ, zero, suc, List, [], ◌∷◌, ◌++◌, length, map, take, get_or, Bool, true, false, cond, refl, sym, ◌∙◌, ap, subst, arith, append-nil, append_assoc, Option, Some, None}
use Rattle.std.specs.Prelude.{IsSome}
use Rattle.std.specs.Option.{option_map, option_to_list}
use Rattle.std.specs.Ordering.{is_eq}
use Rattle.std.specs.BTreeMap.{Updates}
use Rattle.std.specs.List.{slice_get, flat_map, AllZip}
use Rattle.std.proofs.lemmas.List.{take_more, take_all}
use Rattle.std.proofs.lemmas.Grind.{flat_map-append}
use Rattle.std.proofs.lemmas.Option.{get_or_from_slice_get}
use Rattle.std.proofs.lemmas.Slice.Zip.{AllZip-long}
use Rattle.link_spec.specs.Definitions.{Lifted, Definition, AFunc, AType, AComponent, AnInstance, AModule, Exports, EmptyInstance, WithExport}
use Rattle.syntax_trees.specs.declared.types.FuncType.{FuncType}
use Rattle.comp_graph.specs.Passed.{AreExportTypes}
use Rattle.link_spec.specs.Linked.{Callable, funcs_behind, called, callables, export_of}
use Rattle.link_types.specs.Table.{Table}
use Rattle.link_instances.specs.declared.references.LiftedRef.{LiftedRef}
use Rattle.link_instances.specs.declared.references.InstanceRef.{InstanceRef}
use Rattle.link_instances.specs.declared.references.DefinitionRef.{DefinitionRef}
use Rattle.link_instances.specs.declared.references.DefinitionRef.TheVariants as definition_ref
use Rattle.link_instances.specs.References.{World, IsInstance, IsLifted, Stands, listed, IsEntry, IsListing, func_ref}
use Rattle.link_instances.specs.Instances.{AreInstances}
use Rattle.link_instances.specs.declared.func_lists.FuncLists.{FuncLists}
use Rattle.link_instances.specs.Called.{func_of, funcs_of, named_behind, func_entry, func_entries, IsFuncEntry, AreFuncs, instance_cmp, listed_at, AreLists}
use Rattle.link_instances.specs.declared.called.TypedCallables.{TypedCallables}
use Rattle.link_instances.specs.Typed.{AreTyped}
use Rattle.link_instances.specs.declared.instances.Instances.{Instances}
use Rattle.link_instances.proofs.PairOrder.{instance_same}
use Rattle.link_instances.proofs.Places.{zips_append}

-- As lists.

flat_one : {A B : Type 0} (f : A → List B) (xs : List A) (x : A) → flat_map f (xs ++ x ∷ []) ≡ flat_map f xs ++ f x
flat_one f xs x = flat_map-append f xs (x ∷ []) ∙ ap (λ ys. flat_map f xs ++ ys) (append-nil (f x))

one_func : (front : List ℕ) (others : Exports) (name : List ℕ) (d : Definition) → funcs_behind front (WithExport others name d) ≡ funcs_behind front others ++ flat_map (named_behind front) (func_of (name, d))
one_func front others name (AFunc f) = refl
one_func front others name (AType type) = refl
one_func front others name (AComponent c) = refl
one_func front others name (AnInstance inner) = refl
one_func front others name (AModule m) = refl

pub funcs_listed : (front : List ℕ) (exports : Exports) → funcs_behind front exports ≡ flat_map (named_behind front) (funcs_of exports)
funcs_listed front EmptyInstance = refl
funcs_listed front (WithExport others name d) =
    one_func front others name d ∙ ap (λ cs. cs ++ flat_map (named_behind front) (func_of (name, d))) (funcs_listed front others)
    ∙ sym (flat_map-append (named_behind front) (funcs_of others) (func_of (name, d))) ∙ ap (flat_map (named_behind front)) (sym (flat_one func_of (listed others) (name, d)))

pub callables_listed : (exports : Exports) → callables exports ≡ flat_map called (listed exports)
callables_listed EmptyInstance = refl
callables_listed (WithExport others name d) = ap (λ cs. cs ++ called (name, d)) (callables_listed others) ∙ sym (flat_one called (listed others) (name, d))

-- Through a list.

zip_at : {A B : Type 0} (R : A → B → Type 0) (xs : List A) (ys : List B) (at : ℕ) (d : A) → at < length xs → AllZip R xs ys → (y : B) × (slice_get ys at ≡ Some y) × R (get_or xs at d) y
zip_at R [] ys at d within h = absurd (omega arith)
zip_at R (x ∷ xs) [] at d within h = absurd h
zip_at R (x ∷ xs) (y ∷ ys) zero d within h = (y, refl, h.0)
zip_at R (x ∷ xs) (y ∷ ys) (suc at) d within h = zip_at R xs ys at d (omega arith) h.1

module _ {A B C : Type 0} (R : A → B → Type 0) (f : B → List C) (xs : List A) (ys : List B) (before now : List C) (at : ℕ) (goes : AllZip R xs ys) (so_far : now ≡ before ++ flat_map f (take at ys)) where
  pub lists_more : (d : A) (new : List C) → at < length xs → ((y : B) → R (get_or xs at d) y → new ≡ now ++ f y) → new ≡ before ++ flat_map f (take (at + 1) ys)
  lists_more d new within told =
      let p = zip_at R xs ys at d within goes in
      let long : length ys ≡ length xs = AllZip-long R xs ys goes in
      let one : take (at + 1) ys ≡ take at ys ++ p.0 ∷ [] = take_more ys at p.0 (omega (arith, long, within)) ∙ ap (λ y. take at ys ++ y ∷ []) (get_or_from_slice_get ys at p.0 p.0 p.1) in
      told p.0 p.2 ∙ ap (λ cs. cs ++ f p.0) so_far ∙ append_assoc before (flat_map f (take at ys)) (f p.0)
      ∙ ap (λ cs. before ++ cs) (sym (flat_one f (take at ys) p.0) ∙ ap (flat_map f) (sym one))

  pub lists_all : length xs ≤ at → now ≡ before ++ flat_map f ys
  lists_all past =
      let long : length ys ≡ length xs = AllZip-long R xs ys goes in
      so_far ∙ ap (λ ys. before ++ flat_map f ys) (take_all at ys (omega (arith, long, past)))

-- What a reference to a function stands for.

pub is_func : (t : Table) (w : World) (ref : DefinitionRef) (d : Definition) (r : LiftedRef) → func_ref ref ≡ Some r → Stands t w ref d → (f : Lifted) × (d ≡ AFunc f) × IsLifted t r f
is_func t w (definition_ref.Func other) (AFunc f) r is h = (f, refl, subst (λ (r : LiftedRef). IsLifted t r f) (cc) h)
is_func t w (definition_ref.Func other) (AType type) r is h = absurd h
is_func t w (definition_ref.Func other) (AComponent c) r is h = absurd h
is_func t w (definition_ref.Func other) (AnInstance inner) r is h = absurd h
is_func t w (definition_ref.Func other) (AModule m) r is h = absurd h
is_func t w (definition_ref.Type type) d r is h = cc
is_func t w (definition_ref.Component number) d r is h = cc
is_func t w (definition_ref.Instance i) d r is h = cc
is_func t w (definition_ref.Module number) d r is h = cc

-- There is no function where the reference is of none.
not_func : (t : Table) (w : World) (ref : DefinitionRef) (name : List ℕ) (d : Definition) → func_ref ref ≡ None → Stands t w ref d → func_of (name, d) ≡ []
not_func t w (definition_ref.Func r) name (AFunc f) none h = cc
not_func t w (definition_ref.Type type) name (AFunc f) none h = absurd h
not_func t w (definition_ref.Component number) name (AFunc f) none h = absurd h
not_func t w (definition_ref.Instance i) name (AFunc f) none h = absurd h
not_func t w (definition_ref.Module number) name (AFunc f) none h = absurd h
not_func t w ref name (AType type) none h = refl
not_func t w ref name (AComponent c) none h = refl
not_func t w ref name (AnInstance inner) none h = refl
not_func t w ref name (AModule m) none h = refl

-- The functions among exports.

entry_told : (t : Table) (w : World) (entry : ℕ × DefinitionRef) (e : List ℕ × Definition) → IsEntry t w entry e → AllZip (IsFuncEntry t) (option_to_list (func_entry entry)) (func_of e)
entry_told t w (number, ref) (name, d) h = by (func_ref ref) refl
  where
    by : (o : Option LiftedRef) → func_ref ref ≡ o → AllZip (IsFuncEntry t) (option_to_list (option_map (λ (f : LiftedRef). (number, f)) o)) (func_of (name, d))
    by None none = subst (λ (es : List (List ℕ × Lifted)). AllZip (IsFuncEntry t) [] es) (sym (not_func t w ref name d none h.1)) tt
    by (Some r) is =
        let p = is_func t w ref d r is h.1 in
        subst (λ (d : Definition). AllZip (IsFuncEntry t) ((number, r) ∷ []) (func_of (name, d))) (sym p.1) ((h.0, p.2), tt)

entries_told : (t : Table) (w : World) (entries : List (ℕ × DefinitionRef)) (es : List (List ℕ × Definition)) → AllZip (IsEntry t w) entries es → AllZip (IsFuncEntry t) (func_entries entries) (flat_map func_of es)
entries_told t w [] [] h = tt
entries_told t w [] (e ∷ es) h = absurd h
entries_told t w (entry ∷ entries) [] h = absurd h
entries_told t w (entry ∷ entries) (e ∷ es) h =
    zips_append (IsFuncEntry t) (option_to_list (func_entry entry)) (func_entries entries) (func_of e) (flat_map func_of es) (entry_told t w entry e h.0) (entries_told t w entries es h.1)

pub funcs_told : (t : Table) (w : World) (entries : List (ℕ × DefinitionRef)) (exports : Exports) → IsListing t w entries exports → AreFuncs t (func_entries entries) exports
funcs_told t w entries exports h = entries_told t w entries (listed exports) h

-- one instance more whose functions are listed
pub lists_grow : (t : Table) (instances : Instances) (old new : FuncLists) (i : InstanceRef) (entries : List (ℕ × LiftedRef)) → AreLists t instances old → Updates instance_cmp old.lists new.lists i (Some entries)
    → ((w : World) (given : Exports) → AreInstances t w instances → IsInstance t w i given → AreFuncs t entries given) → AreLists t instances new
lists_grow t instances old new i entries are puts told = λ other others found. by (is_eq (instance_cmp i other)) other others refl (sym (puts.0 other) ∙ found)
  where
    by : (same : Bool) → (other : InstanceRef) (others : List (ℕ × LiftedRef)) → is_eq (instance_cmp i other) ≡ same → cond same (Some entries) (listed_at old other) ≡ Some others
        → (w : World) (given : Exports) → AreInstances t w instances → IsInstance t w other given → AreFuncs t others given
    by true other others same found = λ w given h is.
        let this : entries ≡ others = cc in
        subst (λ (es : List (ℕ × LiftedRef)). AreFuncs t es given) this (told w given h (subst (λ (j : InstanceRef). IsInstance t w j given) (sym (instance_same i other same)) is))
    by false other others same found = are other others found

pub listed_there : (old new : FuncLists) (i : InstanceRef) (entries : List (ℕ × LiftedRef)) → Updates instance_cmp old.lists new.lists i (Some entries) → IsSome (listed_at new i)
listed_there old new i entries puts = subst (λ (o : Option (List (ℕ × LiftedRef))). IsSome o) (sym puts.1) refl

-- An export of the root that can be called.
pub called_func : (t : Table) (w : World) (number : ℕ) (ref : DefinitionRef) (r : LiftedRef) (e : List ℕ × Definition) (funcs old : List Callable) → func_ref ref ≡ Some r → IsEntry t w (number, ref) e
    → ((f : List ℕ × Lifted) → IsFuncEntry t (number, r) f → funcs ≡ old ++ named_behind [] f) → funcs ≡ old ++ called e
called_func t w number ref r (name, d) funcs old is h told =
    let p = is_func t w ref d r is h.1 in
    subst (λ (d : Definition). funcs ≡ old ++ called (name, d)) (sym p.1) (told (name, p.0) (h.0, p.2))

-- The numbers of types beside functions that can be called.
pub typed_more : (types : List FuncType) (old new : TypedCallables) (f : Callable) (n : ℕ) → slice_get types n ≡ Some f.func.func_type → new.funcs.items ≡ old.funcs.items ++ f ∷ [] → new.types.items ≡ old.types.items ++ n ∷ []
    → AreTyped types old → AreTyped types new
typed_more types old new f n is funcs numbers h = rw (funcs, numbers) (zips_append (λ (n : ℕ) (c : Callable). slice_get types n ≡ Some c.func.func_type) old.types.items (n ∷ []) old.funcs.items (f ∷ []) h (is, tt))

pub exports_typed : (types : List FuncType) (numbers : List ℕ) (funcs : List Callable) → AllZip (λ (n : ℕ) (c : Callable). slice_get types n ≡ Some c.func.func_type) numbers funcs → AreExportTypes types numbers (map export_of funcs)
exports_typed types [] [] h = tt
exports_typed types [] (f ∷ funcs) h = absurd h
exports_typed types (n ∷ numbers) [] h = absurd h
exports_typed types (n ∷ numbers) (f ∷ funcs) h = (h.0, exports_typed types numbers funcs h.1)
