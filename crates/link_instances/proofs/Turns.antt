-- What the turns of a walk leave, over references.
use Rattle.std.proofs.Common.{◌≡◌, ℕ, ◌+◌, Bool, true, false, List, [], ◌∷◌, drop, refl, sym, ◌∙◌, ap, subst, Option, Some, None}
use Rattle.std.specs.List.{slice_get, AllZip}
use Rattle.comp_graph.specs.Closed.{Extern, OfInstance, Externs}
use Rattle.link_spec.specs.Definitions.{Definition, AnInstance, Exports, export_named, FitAll, first_lacking, seen_exports}
use Rattle.link_spec.specs.Tests.{fit_all}
use Rattle.link_instances.specs.Views.{extern_lacks, extern_fits}
use Rattle.link_values.specs.declared.refs.InstanceTypeRef.{InstanceTypeRef}
use Rattle.link_values.specs.declared.refs.ExternRef.{ExternRef}
use Rattle.link_instances.specs.declared.references.InstanceRef.{InstanceRef}
use Rattle.link_instances.specs.declared.references.DefinitionRef.{DefinitionRef}
use Rattle.link_instances.specs.declared.pairs.Pair.{Pair}
use Rattle.link_instances.specs.declared.fitting.Frame.{Frame as FrameRef}
use Rattle.link_instances.specs.declared.comparing.Comparison.{Comparison}
use Rattle.link_types.specs.Table.{Table, in_order}
use Rattle.link_types.specs.Table.{AreDistinct, IsInstanceType, IsExtern, MayBeEntry, in_order}
use Rattle.link_instances.specs.declared.comparing.Comparison.TheVariants.{Agrees, Inside}
use Rattle.link_instances.specs.declared.fitting.Step.TheVariants.{Done, Missing, Compared}
use Rattle.link_instances.specs.References.{World, IsSeen, IsInstance, Stands, IsFound}
use Rattle.link_instances.specs.Comparing.{IsCompared}
use Rattle.link_instances.specs.Fitting.{Frame, Says, Holds, IsFrame, IsWalk, IsStep, pair_of, begun_with, behind_one}
use Rattle.link_instances.specs.Fitting.{IsPassed}
use Rattle.link_instances.specs.Pairs.{IsKnown}
use Rattle.link_spec.proofs.Fitting.{all_fit_lacks}
use Rattle.link_spec.proofs.Telling.{fits_told}
use Rattle.link_types.proofs.TypesTold.{same_instances}
use Rattle.link_instances.proofs.Asking.{IsAskedAt, is_asked_at}
use Rattle.link_instances.proofs.Places.{drop_at, drop_past}
use Rattle.link_instances.proofs.Walking.{whole, with_rest, begins, misses, passes, differs, goes_inside, done, ends, less_is_said}

-- What stands behind a reference is one.

pub type_once : (t : Table) → AreDistinct t.texts t.values t.layers → (r : InstanceTypeRef) (a b : Externs) → IsInstanceType t r a → IsInstanceType t r b → a ≡ b
type_once t apart r a b h k = (same_instances t apart r r a b h k).0 refl

seen_once : (t : Table) → AreDistinct t.texts t.values t.layers → (base : Exports) (o : Option InstanceTypeRef) (a b : Exports) → IsSeen t base o a → IsSeen t base o b → a ≡ b
seen_once t apart base None a b h k = h ∙ sym k
seen_once t apart base (Some r) a b (x, type, fit, is) (y, other, fits, also) = is ∙ ap (λ (asked : Externs). seen_exports base asked) (type_once t apart r x y type other) ∙ sym also

instance_once : (t : Table) → AreDistinct t.texts t.values t.layers → (w : World) (i : InstanceRef) (a b : Exports) → IsInstance t w i a → IsInstance t w i b → a ≡ b
instance_once t apart w i a b h k =
    let same : h.base ≡ k.base = (let both : Some h.base ≡ Some k.base = sym h.stands ∙ k.stands in cc) in
    seen_once t apart k.base i.seen_as a b (subst (λ (base : Exports). IsSeen t base i.seen_as a) same h.seen) k.seen

-- Pairs that were gone through.

says_of_fits : (agrees : Bool) (given : Exports) (asked : Externs) → FitAll given asked → Says agrees given asked None true
says_of_fits agrees given asked h = record { lacking = all_fit_lacks given asked h; fitting = λ _. (fits_told (AnInstance given) (OfInstance asked)).1 h }

pub passed_known : (t : Table) (w : World) (agrees : Bool) (p : Pair) → IsKnown t w p → IsPassed t w agrees p
passed_known t w agrees p k = record { given = k.given; asked = k.asked; instance = k.instance; type = k.type; says = says_of_fits agrees k.given k.asked k.fits }

pub known_passed : (t : Table) (w : World) (p : Pair) → IsPassed t w true p → IsKnown t w p
known_passed t w p k = record { given = k.given; asked = k.asked; instance = k.instance; type = k.type; fits = (fits_told (AnInstance k.given) (OfInstance k.asked)).0 (k.says.fitting refl) }

pub known_at : (t : Table) (w : World) (agrees : Bool) (p : Pair) → agrees ≡ true → IsPassed t w agrees p → IsKnown t w p
known_at t w agrees p is k = known_passed t w p (subst (λ (agrees : Bool). IsPassed t w agrees p) is k)

pub passed_less : (t : Table) (w : World) (agrees : Bool) (p : Pair) → IsPassed t w agrees p → IsPassed t w false p
passed_less t w agrees p k = record { given = k.given; asked = k.asked; instance = k.instance; type = k.type; says = less_is_said agrees k.given k.asked None true k.says }

-- an instance that is known to be of a type
pub known_fits : (t : Table) → AreDistinct t.texts t.values t.layers → (w : World) (i : InstanceRef) (r : InstanceTypeRef) (given : Exports) (asked : Externs)
    → IsInstance t w i given → IsInstanceType t r asked → IsKnown t w (record { given = i; asked = r }) → FitAll given asked
known_fits t apart w i r given asked h type k =
    let one : k.given ≡ given = instance_once t apart w i k.given given k.instance h in
    let other : k.asked ≡ asked = type_once t apart r k.asked asked k.type type in
    subst (λ (asked : Externs). FitAll given asked) other (subst (λ (given : Exports). FitAll given k.asked) one k.fits)

-- What comes next.

pub step_done : (t : Table) (w : World) (ref : FrameRef) (f : Frame) → IsFrame t w ref f → slice_get (in_order f.asked) ref.done ≡ None → IsStep t w ref f Done
step_done t w ref f is none = is.rest ∙ drop_past (in_order f.asked) ref.done none

pub step_missing : (t : Table) (w : World) (ref : FrameRef) (f : Frame) (n : ℕ) (r : ExternRef) → IsFrame t w ref f → IsAskedAt t (Some (n, r)) (slice_get (in_order f.asked) ref.done)
    → ((q : List ℕ) → slice_get t.texts n ≡ Some q → export_named q f.given ≡ None) → IsStep t w ref f (Missing n)
step_missing t w ref f n r is (e, at, text, stands) none = (e, is.rest ∙ drop_at (in_order f.asked) ref.done e at, none e.0 text, text)

pub step_compared : (t : Table) (w : World) (ref : FrameRef) (f : Frame) (n : ℕ) (r : ExternRef) (given : DefinitionRef) (c : Comparison) → IsFrame t w ref f
    → IsAskedAt t (Some (n, r)) (slice_get (in_order f.asked) ref.done) → ((q : List ℕ) → slice_get t.texts n ≡ Some q → IsFound t w (Some given) (export_named q f.given))
    → ((d : Definition) (x : Extern) → Stands t w given d → IsExtern t r x → IsCompared t w d x c) → IsStep t w ref f (Compared c)
step_compared t w ref f n r given c is (e, at, text, stands) found compared =
    let g = found e.0 text in
    (e, g.0, is.rest ∙ drop_at (in_order f.asked) ref.done e at, g.1, compared g.0 e.1 g.2 stands)

-- The same by what a type is asked for.

module _ (t : Table) (w : World) (ref : FrameRef) (f : Frame) (is : IsFrame t w ref f) (o : Option (ℕ × ExternRef))
    (asked : (externs : Externs) → IsInstanceType t ref.asked externs → MayBeEntry t o (slice_get (in_order externs) ref.done)) where
  here : IsAskedAt t o (slice_get (in_order f.asked) ref.done)
  here = is_asked_at t o f.asked ref.done (asked f.asked is.asked)

  pub comes_none : o ≡ None → IsStep t w ref f Done
  comes_none none = step_done t w ref f is (subst (λ (o : Option (ℕ × ExternRef)). IsAskedAt t o (slice_get (in_order f.asked) ref.done)) none here)

  pub comes_missing : (n : ℕ) (r : ExternRef) → o ≡ Some (n, r) → ((q : List ℕ) → slice_get t.texts n ≡ Some q → export_named q f.given ≡ None) → IsStep t w ref f (Missing n)
  comes_missing n r one none = step_missing t w ref f n r is (subst (λ (o : Option (ℕ × ExternRef)). IsAskedAt t o (slice_get (in_order f.asked) ref.done)) one here) none

  pub comes_compared : (n : ℕ) (r : ExternRef) (given : DefinitionRef) (c : Comparison) → o ≡ Some (n, r)
      → ((q : List ℕ) → slice_get t.texts n ≡ Some q → IsFound t w (Some given) (export_named q f.given))
      → ((d : Definition) (x : Extern) → Stands t w given d → IsExtern t r x → IsCompared t w d x c) → IsStep t w ref f (Compared c)
  comes_compared n r given c one found compared = step_compared t w ref f n r given c is (subst (λ (o : Option (ℕ × ExternRef)). IsAskedAt t o (slice_get (in_order f.asked) ref.done)) one here) found compared

-- Turns.

record Top (t : Table) (w : World) (given : Exports) (asked : Externs) (agrees : Bool) (ref : FrameRef) (stack : List FrameRef) : Type 0 where
  f : Frame
  fs : List Frame
  is : IsFrame t w ref f
  stand : AllZip (IsFrame t w) stack fs
  holds : Holds given asked agrees None true (f ∷ fs)

top : (t : Table) (w : World) (given : Exports) (asked : Externs) (agrees : Bool) (ref : FrameRef) (stack : List FrameRef) → IsWalk t w given asked agrees (ref ∷ stack) → Top t w given asked agrees ref stack
top t w given asked agrees ref stack h = by h.frames h.stand h.holds
  where
    by : (fs : List Frame) → AllZip (IsFrame t w) (ref ∷ stack) fs → Holds given asked agrees None true fs → Top t w given asked agrees ref stack
    by [] s k = absurd s
    by (f ∷ fs) s k = record { f = f; fs = fs; is = s.0; stand = s.1; holds = k }

next_frame : (t : Table) (w : World) (ref : FrameRef) (f : Frame) → IsFrame t w ref f → IsFrame t w (behind_one ref) (with_rest f (drop (ref.done + 1) (in_order f.asked)))
next_frame t w ref f is = record { given = is.given; asked = is.asked; rest = refl }

new_frame : (t : Table) (w : World) (i : InstanceRef) (r : InstanceTypeRef) (given : Exports) (asked : Externs) → IsInstance t w i given → IsInstanceType t r asked → IsFrame t w (begun_with i r) (whole given asked)
new_frame t w i r given asked h k = record { given = h; asked = k; rest = refl }

pub turn_begins : (t : Table) (w : World) (i : InstanceRef) (r : InstanceTypeRef) (given : Exports) (asked : Externs) → IsInstance t w i given → IsInstanceType t r asked
    → IsWalk t w given asked true (begun_with i r ∷ [])
turn_begins t w i r given asked h k = record { frames = whole given asked ∷ []; stand = (new_frame t w i r given asked h k, tt); holds = begins given asked }

pub turn_ends : (t : Table) (w : World) (given : Exports) (asked : Externs) (agrees : Bool) → IsWalk t w given asked agrees [] → (first_lacking given asked ≡ None) × (fit_all given asked ≡ agrees)
turn_ends t w given asked agrees h = by h.frames h.stand h.holds
  where
    by : (fs : List Frame) → AllZip (IsFrame t w) [] fs → Holds given asked agrees None true fs → (first_lacking given asked ≡ None) × (fit_all given asked ≡ agrees)
    by [] s k = ends given asked agrees k
    by (f ∷ fs) s k = absurd s

module _ (t : Table) (w : World) (given : Exports) (asked : Externs) (agrees : Bool) (ref : FrameRef) (stack : List FrameRef) (h : IsWalk t w given asked agrees (ref ∷ stack)) where
  pub turn_done : ((f : Frame) → IsFrame t w ref f → IsStep t w ref f Done) → IsPassed t w agrees (pair_of ref) × IsWalk t w given asked agrees stack
  turn_done s =
      let p = top t w given asked agrees ref stack h in
      let q = done given asked agrees p.f p.fs (s p.f p.is) p.holds in
      (record { given = p.f.given; asked = p.f.asked; instance = p.is.given; type = p.is.asked; says = q.0 }, record { frames = p.fs; stand = p.stand; holds = q.1 })

  pub turn_missing : (n : ℕ) → ((f : Frame) → IsFrame t w ref f → IsStep t w ref f (Missing n)) → (name : List ℕ) × (first_lacking given asked ≡ Some name) × (slice_get t.texts n ≡ Some name)
  turn_missing n s =
      let p = top t w given asked agrees ref stack h in
      let (e, rest, none, text) = s p.f p.is in
      let lacks : extern_lacks p.f.given e ≡ Some e.0 = rw none refl in
      (e.0, misses given asked agrees p.f e (drop (ref.done + 1) (in_order p.f.asked)) p.fs e.0 rest lacks p.holds, text)

  pub turn_agrees : ((f : Frame) → IsFrame t w ref f → IsStep t w ref f (Compared (Agrees true))) → IsWalk t w given asked agrees (behind_one ref ∷ stack)
  turn_agrees s =
      let p = top t w given asked agrees ref stack h in
      let (e, d, rest, found, (lacking, fitting)) = s p.f p.is in
      let lacks : extern_lacks p.f.given e ≡ None = rw found (lacking e.0) in
      let fits : extern_fits p.f.given e ≡ true = rw found fitting in
      record {
        frames = with_rest p.f (drop (ref.done + 1) (in_order p.f.asked)) ∷ p.fs;
        stand = (next_frame t w ref p.f p.is, p.stand);
        holds = passes given asked agrees p.f e (drop (ref.done + 1) (in_order p.f.asked)) p.fs rest lacks (λ _. fits) p.holds;
      }

  pub turn_differs : ((f : Frame) → IsFrame t w ref f → IsStep t w ref f (Compared (Agrees false))) → IsWalk t w given asked false (behind_one ref ∷ stack)
  turn_differs s =
      let p = top t w given asked agrees ref stack h in
      let (e, d, rest, found, (lacking, fitting)) = s p.f p.is in
      let lacks : extern_lacks p.f.given e ≡ None = rw found (lacking e.0) in
      let fits : extern_fits p.f.given e ≡ false = rw found fitting in
      record {
        frames = with_rest p.f (drop (ref.done + 1) (in_order p.f.asked)) ∷ p.fs;
        stand = (next_frame t w ref p.f p.is, p.stand);
        holds = differs given asked agrees p.f e (drop (ref.done + 1) (in_order p.f.asked)) p.fs rest lacks fits p.holds;
      }

  pub turn_known : AreDistinct t.texts t.values t.layers → (i : InstanceRef) (r : InstanceTypeRef) → IsPassed t w agrees (record { given = i; asked = r })
      → ((f : Frame) → IsFrame t w ref f → IsStep t w ref f (Compared (Inside i r))) → IsWalk t w given asked agrees (behind_one ref ∷ stack)
  turn_known apart i r k s =
      let p = top t w given asked agrees ref stack h in
      let (e, d, rest, found, (inner, wanted, is, asks, instance, type)) = s p.f p.is in
      let one : k.given ≡ inner = instance_once t apart w i k.given inner k.instance instance in
      let other : k.asked ≡ wanted = type_once t apart r k.asked wanted k.type type in
      let says : Says agrees inner wanted None true = subst (λ (wanted : Externs). Says agrees inner wanted None true) other (subst (λ (inner : Exports). Says agrees inner k.asked None true) one k.says) in
      let lacks : extern_lacks p.f.given e ≡ None = rw (found, is, asks) says.lacking in
      let fits : agrees ≡ true → extern_fits p.f.given e ≡ true = λ a. rw (found, is, asks) (says.fitting a) in
      record {
        frames = with_rest p.f (drop (ref.done + 1) (in_order p.f.asked)) ∷ p.fs;
        stand = (next_frame t w ref p.f p.is, p.stand);
        holds = passes given asked agrees p.f e (drop (ref.done + 1) (in_order p.f.asked)) p.fs rest lacks fits p.holds;
      }

  pub turn_inside : (i : InstanceRef) (r : InstanceTypeRef) → ((f : Frame) → IsFrame t w ref f → IsStep t w ref f (Compared (Inside i r)))
      → IsWalk t w given asked agrees (begun_with i r ∷ behind_one ref ∷ stack)
  turn_inside i r s =
      let p = top t w given asked agrees ref stack h in
      let (e, d, rest, found, (inner, wanted, is, asks, instance, type)) = s p.f p.is in
      record {
        frames = whole inner wanted ∷ with_rest p.f (drop (ref.done + 1) (in_order p.f.asked)) ∷ p.fs;
        stand = (new_frame t w i r inner wanted instance type, (next_frame t w ref p.f p.is, p.stand));
        holds = goes_inside given asked agrees p.f e (drop (ref.done + 1) (in_order p.f.asked)) p.fs inner wanted rest (found ∙ ap Some is) asks p.holds;
      }
