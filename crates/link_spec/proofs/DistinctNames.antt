-- The names under which functions can be called are distinct, where no `#` stands in the names of the root's exports.
use Rattle.std.proofs.Common.{◌≡◌, ◌≢◌, ℕ, Bool, true, false, cond, List, [], ◌∷◌, ◌++◌, map, refl, sym, ◌∙◌, ap, subst, append-nil}
use Rattle.std.proofs.lemmas.List.{map-append, append_cancel_left}
use Rattle.std.specs.Prelude.{◌==◌, codes}
use Rattle.std.specs.List.{AllByRecursion}
use Rattle.std.specs.Str.{bytes_eq}
use Rattle.std.proofs.lemmas.Bool.Decides.{Decides-eqb}
use Rattle.std.proofs.lemmas.Slice.Eq.{bytes_eq-Decides}
use Rattle.syntax_trees.specs.Names.{AreDistinct, is_among}
use Rattle.syntax_trees.specs.declared.module.ModuleTree.{ModuleTree}
use Rattle.comp_graph.specs.Graph.{names}
use Rattle.link_spec.specs.Definitions.{AFunc, AnInstance, Exports, EmptyInstance, WithExport, export_names}
use Rattle.link_spec.specs.Spaces.{CoreMake}
use Rattle.comp_graph.specs.declared.graph.CanonFunc.{CanonFunc}
use Rattle.link_spec.specs.Linked.{exports_at, Callable, funcs_behind, callables, export_of}
use Rattle.link_spec.specs.Distinct.{HasNoHash}
use Rattle.link_spec.specs.Laws.{RootNamesAreDistinct, NamesAreDistinct}
use Rattle.link_spec.proofs.Holding.{all_push, all_both, all_weaker, all_mapped}
use Rattle.link_spec.proofs.Soundness.{AreSound}
use Rattle.link_spec.proofs.SoundSeen.{neither, fresh_before}
use Rattle.link_spec.proofs.SoundGraphs.{AnyModule, any_sound, exports_sound}

-- Lists of names.
differs : (m n : List ℕ) → bytes_eq m n ≡ false → m ≢ n
differs m n h = λ e. (let t : bytes_eq m n ≡ true = (bytes_eq-Decides m n).1 e in let no : true ≡ false = sym t ∙ h in cc)

distinct_push : (ns : List (List ℕ)) (n : List ℕ) → AreDistinct ns → AllByRecursion (λ m. m ≢ n) ns → AreDistinct (ns ++ n ∷ [])
distinct_push [] n h k = (tt, tt)
distinct_push (m ∷ ns) n h k = (all_push (λ name. m ≢ name) ns n h.0 k.0, distinct_push ns n h.1 k.1)

distinct_both : (ns more : List (List ℕ)) → AreDistinct ns → AreDistinct more → AllByRecursion (λ n. AllByRecursion (λ m. m ≢ n) ns) more → AreDistinct (ns ++ more)
distinct_both [] more h k apart = k
distinct_both (m ∷ ns) more h k apart = (
  all_both (λ name. m ≢ name) ns more h.0 (all_weaker (λ n. AllByRecursion (λ m. m ≢ n) (m ∷ ns)) (λ name. m ≢ name) (λ n a. a.0) more apart),
  distinct_both ns more h.1 k (all_weaker (λ n. AllByRecursion (λ m. m ≢ n) (m ∷ ns)) (λ n. AllByRecursion (λ m. m ≢ n) ns) (λ n a. a.1) more apart),
)

fresh_apart : (ns : List (List ℕ)) (n : List ℕ) → is_among n ns ≡ false → AllByRecursion (λ m. m ≢ n) ns
fresh_apart [] n h = tt
fresh_apart (m ∷ ns) n h = let p = neither (bytes_eq m n) (is_among n ns) h in (differs m n p.0, fresh_apart ns n p.1)

all_before : {A : Type 0} (P : A → Type 0) (xs : List A) (x : A) → AllByRecursion P (xs ++ x ∷ []) → AllByRecursion P xs × P x
all_before P [] x h = (tt, h.0)
all_before P (y ∷ xs) x h = let p = all_before P xs x h.1 in ((h.0, p.0), p.1)

-- what stands before the first `#`
abbrev front_of : List ℕ → List ℕ
front_of [] = []
front_of (b ∷ name) = cond (b == 35) [] (b ∷ front_of name)

no_hash : (b : ℕ) → b ≢ 35 → (b == 35) ≡ false
no_hash b h = by_test (b == 35) refl
  where
    by_test : (t : Bool) → (b == 35) ≡ t → t ≡ false
    by_test true e = absurd (h ((Decides-eqb b 35).0 e))
    by_test false e = refl

whole_front : (name : List ℕ) → HasNoHash name → front_of name ≡ name
whole_front [] h = refl
whole_front (b ∷ name) h = rw (no_hash b h.0) (ap (λ (name : List ℕ). b ∷ name) (whole_front name h.1))

cut_front : (name rest : List ℕ) → HasNoHash name → front_of ((name ++ codes "#") ++ rest) ≡ name
cut_front [] rest h = refl
cut_front (b ∷ name) rest h = rw (no_hash b h.0) (ap (λ (name : List ℕ). b ∷ name) (cut_front name rest h.1))

-- Names of the functions of an instance.
abbrev names_of : List Callable → List (List ℕ)
names_of cs = map (λ (c : Callable). c.name) cs

module _ (R : ModuleTree → Type 0) (cores : List CoreMake) (canons : List CanonFunc) where
  pub exports_distinct : (exports : Exports) → AreSound R cores canons exports → AreDistinct (export_names exports)
  exports_distinct EmptyInstance h = tt
  exports_distinct (WithExport others name d) h = distinct_push (export_names others) name (exports_distinct others h.0) (fresh_apart (export_names others) name h.2)

  others_behind : (front : List ℕ) (exports : Exports) (name : List ℕ) → is_among name (export_names exports) ≡ false → AllByRecursion (λ (c : Callable). c.name ≢ front ++ name) (funcs_behind front exports)
  others_behind front EmptyInstance name h = tt
  others_behind front (WithExport others q (AFunc f)) name h =
      let p = fresh_before name (export_names others) q h in
      all_push (λ (c : Callable). c.name ≢ front ++ name) (funcs_behind front others) (record { name = front ++ q; func = f }) (others_behind front others name p.0) (λ e. differs q name p.1 (append_cancel_left front q name e))
  others_behind front (WithExport others q d) name h =
      all_both (λ (c : Callable). c.name ≢ front ++ name) (funcs_behind front others) [] (others_behind front others name (fresh_before name (export_names others) q h).0) tt

  behind_distinct : (front : List ℕ) (exports : Exports) → AreSound R cores canons exports → AreDistinct (names_of (funcs_behind front exports))
  behind_distinct front EmptyInstance h = tt
  behind_distinct front (WithExport others name (AFunc f)) h =
      subst AreDistinct (sym (map-append (λ (c : Callable). c.name) (funcs_behind front others) (record { name = front ++ name; func = f } ∷ [])))
      (distinct_push (names_of (funcs_behind front others)) (front ++ name) (behind_distinct front others h.0)
      (all_mapped (λ (c : Callable). c.name) (λ m. m ≢ front ++ name) (funcs_behind front others) (others_behind front others name h.2)))
  behind_distinct front (WithExport others name d) h = subst (λ (cs : List Callable). AreDistinct (names_of cs)) (sym (append-nil (funcs_behind front others))) (behind_distinct front others h.0)

  -- Names of the functions of the root: what stands before the first `#` is the name of the export.
  fronts_behind : (name : List ℕ) (exports : Exports) → HasNoHash name → AllByRecursion (λ (c : Callable). front_of c.name ≡ name) (funcs_behind (name ++ codes "#") exports)
  fronts_behind name EmptyInstance h = tt
  fronts_behind name (WithExport others q (AFunc f)) h =
      all_push (λ (c : Callable). front_of c.name ≡ name) (funcs_behind (name ++ codes "#") others) (record { name = (name ++ codes "#") ++ q; func = f }) (fronts_behind name others h) (cut_front name q h)
  fronts_behind name (WithExport others q d) h = all_both (λ (c : Callable). front_of c.name ≡ name) (funcs_behind (name ++ codes "#") others) [] (fronts_behind name others h) tt

  other_fronts : (exports : Exports) (name : List ℕ) → AllByRecursion HasNoHash (export_names exports) → is_among name (export_names exports) ≡ false → AllByRecursion (λ (c : Callable). front_of c.name ≢ name) (callables exports)
  other_fronts EmptyInstance name none h = tt
  other_fronts (WithExport others q (AFunc f)) name none h =
      let p = fresh_before name (export_names others) q h in
      let n = all_before HasNoHash (export_names others) q none in
      all_push (λ (c : Callable). front_of c.name ≢ name) (callables others) (record { name = q; func = f }) (other_fronts others name n.0 p.0) (λ e. differs q name p.1 (sym (whole_front q n.1) ∙ e))
  other_fronts (WithExport others q (AnInstance inner)) name none h =
      let p = fresh_before name (export_names others) q h in
      let n = all_before HasNoHash (export_names others) q none in
      all_both (λ (c : Callable). front_of c.name ≢ name) (callables others) (funcs_behind (q ++ codes "#") inner) (other_fronts others name n.0 p.0)
      (all_weaker (λ (c : Callable). front_of c.name ≡ q) (λ (c : Callable). front_of c.name ≢ name) (λ c k e. differs q name p.1 (sym k ∙ e)) (funcs_behind (q ++ codes "#") inner) (fronts_behind q inner n.1))
  other_fronts (WithExport others q d) name none h =
      all_both (λ (c : Callable). front_of c.name ≢ name) (callables others) [] (other_fronts others name (all_before HasNoHash (export_names others) q none).0 (fresh_before name (export_names others) q h).0) tt

  apart_from : (cs : List Callable) (name n : List ℕ) → front_of n ≡ name → AllByRecursion (λ (c : Callable). front_of c.name ≢ name) cs → AllByRecursion (λ m. m ≢ n) (names_of cs)
  apart_from cs name n e h =
      all_mapped (λ (c : Callable). c.name) (λ m. m ≢ n) cs (all_weaker (λ (c : Callable). front_of c.name ≢ name) (λ (c : Callable). c.name ≢ n) (λ c k same. k (ap front_of same ∙ e)) cs h)

  callables_distinct : (exports : Exports) → AllByRecursion HasNoHash (export_names exports) → AreSound R cores canons exports → AreDistinct (names_of (callables exports))
  callables_distinct EmptyInstance none h = tt
  callables_distinct (WithExport others name (AFunc f)) none h =
      let n = all_before HasNoHash (export_names others) name none in
      subst AreDistinct (sym (map-append (λ (c : Callable). c.name) (callables others) (record { name = name; func = f } ∷ [])))
      (distinct_push (names_of (callables others)) name (callables_distinct others n.0 h.0) (apart_from (callables others) name name (whole_front name n.1) (other_fronts others name n.0 h.2)))
  callables_distinct (WithExport others name (AnInstance inner)) none h =
      let n = all_before HasNoHash (export_names others) name none in
      let funcs = funcs_behind (name ++ codes "#") inner in
      subst AreDistinct (sym (map-append (λ (c : Callable). c.name) (callables others) funcs))
      (distinct_both (names_of (callables others)) (names_of funcs) (callables_distinct others n.0 h.0) (behind_distinct (name ++ codes "#") inner h.1)
      (all_mapped (λ (c : Callable). c.name) (λ n. AllByRecursion (λ m. m ≢ n) (names_of (callables others))) funcs
      (all_weaker (λ (c : Callable). front_of c.name ≡ name) (λ (c : Callable). AllByRecursion (λ m. m ≢ c.name) (names_of (callables others)))
      (λ c k. apart_from (callables others) name c.name k (other_fronts others name n.0 h.2)) funcs (fronts_behind name inner n.1))))
  callables_distinct (WithExport others name d) none h =
      subst (λ (cs : List Callable). AreDistinct (names_of cs)) (sym (append-nil (callables others))) (callables_distinct others (all_before HasNoHash (export_names others) name none).0 h.0)

names_called : (cs : List Callable) → names (map export_of cs) ≡ names_of cs
names_called [] = refl
names_called (c ∷ cs) = ap (λ (ns : List (List ℕ)). c.name ∷ ns) (names_called cs)

pub root_names_are_distinct : RootNamesAreDistinct
root_names_are_distinct c l links = let h = any_sound c l links in exports_distinct AnyModule l.cores l.canons (exports_at l 0) (exports_sound AnyModule l 0 h)

pub names_are_distinct : NamesAreDistinct
names_are_distinct c l links none =
    let h = any_sound c l links in
    subst AreDistinct (sym (names_called (callables (exports_at l 0)))) (callables_distinct AnyModule l.cores l.canons (exports_at l 0) none (exports_sound AnyModule l 0 h))
