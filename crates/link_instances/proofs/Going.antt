-- What a walk is on the way to, behind a turn.
use Rattle.std.proofs.Common.{◌≡◌, ℕ, Bool, true, false, ◌&&◌, List, [], ◌∷◌, ◌++◌, reverse, refl, sym, ◌∙◌, ap, subst, Some, None}
use Rattle.std.specs.Prelude.{◌||◌, Result, Ok, Err, IfOk}
use Rattle.std.specs.declared.alloc.AllocError.{AllocError}
use Rattle.std.specs.List.{slice_get}
use Rattle.std.specs.BTreeSet.{BTreeSet}
use Rattle.std.proofs.lemmas.List.{reverse-append}
use Rattle.comp_graph.specs.Closed.{Extern, OfInstance, Externs}
use Rattle.link_spec.specs.Definitions.{Definition, AnInstance, Exports, lacks, first_lacking}
use Rattle.link_spec.specs.Tests.{fits, fit_all}
use Rattle.link_spec.proofs.Telling.{fits_told}
use Rattle.link_values.specs.declared.refs.InstanceTypeRef.{InstanceTypeRef}
use Rattle.link_instances.specs.declared.references.InstanceRef.{InstanceRef}
use Rattle.link_instances.specs.declared.pairs.Pair.{Pair}
use Rattle.link_instances.specs.declared.comparing.Comparison.{Comparison}
use Rattle.link_instances.specs.declared.comparing.Comparison.TheVariants.{Agrees, Inside}
use Rattle.link_instances.specs.declared.fitting.Frame.{Frame as FrameRef}
use Rattle.link_instances.specs.declared.fitting.Step.TheVariants.{Done, Missing, Compared}
use Rattle.link_instances.specs.declared.fitting.Walk.{Walk}
use Rattle.link_instances.specs.declared.fitting.Fit.{Fit}
use Rattle.link_instances.specs.declared.fitting.Turn.{Turn}
use Rattle.link_instances.specs.declared.fitting.Turn.TheVariants.{GoesOn, Ends}
use Rattle.link_instances.specs.declared.instances.Instances.{Instances}
use Rattle.link_instances.specs.Instances.{AreInstances}
use Rattle.link_types.specs.Table.{Table, AreDistinct}
use Rattle.link_instances.specs.References.{World}
use Rattle.link_instances.specs.Pairs.{has_pair, IsKnown}
use Rattle.link_instances.specs.Fit.{IsFit, fit_of}
use Rattle.link_instances.specs.Comparing.{IsCompared}
use Rattle.link_instances.specs.Fitting.{Frame, IsFrame, IsWalk, IsStep, IsPassed, pair_of, begun_with, behind_one}
use Rattle.link_instances.specs.Walks.{IsBegun, ArePassed, IsOn, stack_inside, IsBehind, IsTurn}
use Rattle.link_instances.proofs.Turns.{passed_known, passed_less, turn_begins, turn_ends, turn_done, turn_missing, turn_agrees, turn_differs, turn_known, turn_inside}
use Rattle.link_types.specs.Table.{IsInstanceType}
use Rattle.link_instances.specs.References.{IsInstance}

-- Answers.

pub fit_ended : (t : Table) (given : Exports) (asked : Externs) (agrees : Bool) → first_lacking given asked ≡ None → fit_all given asked ≡ agrees → IsFit t (AnInstance given) (OfInstance asked) (fit_of agrees)
fit_ended t given asked true lacking fit = (fits_told (AnInstance given) (OfInstance asked)).0 fit
fit_ended t given asked false lacking fit =
    (λ name. lacking, λ fits. (let yes : fit_all given asked ≡ true = (fits_told (AnInstance given) (OfInstance asked)).1 fits in let no : false ≡ true = sym fit ∙ yes in cc))

pub fit_compared : (t : Table) (w : World) (d : Definition) (x : Extern) (b : Bool) → IsCompared t w d x (Agrees b) → IsFit t d x (fit_of b)
fit_compared t w d x true h = (fits_told d x).0 h.1
fit_compared t w d x false h = (h.0, λ k. (let yes : fits d x ≡ true = (fits_told d x).1 k in let no : false ≡ true = sym h.1 ∙ yes in cc))

pub walk_ended : (t : Table) (w : World) (given : Exports) (asked : Externs) (walk : Walk) → IsOn t w given asked walk → walk.stack.items ≡ [] → IsFit t (AnInstance given) (OfInstance asked) (fit_of walk.agrees)
walk_ended t w given asked walk on none =
    let p = turn_ends t w given asked walk.agrees (subst (λ (items : List FrameRef). IsWalk t w given asked walk.agrees (reverse items)) none on.stack) in
    fit_ended t given asked walk.agrees p.0 p.1

pub walk_begun : (t : Table) (w : World) (i : InstanceRef) (r : InstanceTypeRef) (given : Exports) (asked : Externs) (walk : Walk) → IsInstance t w i given → IsInstanceType t r asked → IsBegun i r walk → IsOn t w given asked walk
walk_begun t w i r given asked walk h k begun = record { stack = stack; passed = λ p has. (let none = begun.passed p in let no : false ≡ true = sym none ∙ has in cc) }
  where
    stack : IsWalk t w given asked walk.agrees (reverse walk.stack.items)
    stack = rw (begun.stack, begun.agrees) (turn_begins t w i r given asked h k)

-- Turns.

one_back : (items rest : List FrameRef) (frame : FrameRef) → items ≡ rest ++ frame ∷ [] → reverse items ≡ frame ∷ reverse rest
one_back items rest frame is = ap reverse is ∙ reverse-append rest (frame ∷ [])

two_back : (items rest : List FrameRef) (a b : FrameRef) → items ≡ rest ++ a ∷ b ∷ [] → reverse items ≡ b ∷ a ∷ reverse rest
two_back items rest a b is = ap reverse is ∙ reverse-append rest (a ∷ b ∷ [])

and_none : (b : Bool) → (b && false) ≡ false
and_none true = refl
and_none false = refl

and_one : (b : Bool) → (b && true) ≡ b
and_one true = refl
and_one false = refl

module _ (t : Table) (w : World) (given : Exports) (asked : Externs) (old new : Walk) (rest : List FrameRef) (frame : FrameRef)
    (on : IsOn t w given asked old) (pops : old.stack.items ≡ rest ++ frame ∷ []) where
  on_top : IsWalk t w given asked old.agrees (frame ∷ reverse rest)
  on_top = subst (λ (stack : List FrameRef). IsWalk t w given asked old.agrees stack) (one_back old.stack.items rest frame pops) on.stack

  pub done_passed : ((f : Frame) → IsFrame t w frame f → IsStep t w frame f Done) → IsPassed t w old.agrees (pair_of frame)
  done_passed s = (turn_done t w given asked old.agrees frame (reverse rest) on_top s).0

  pub goes_done : ((f : Frame) → IsFrame t w frame f → IsStep t w frame f Done) → new.stack.items ≡ rest → new.agrees ≡ old.agrees → ArePassed t w new → IsOn t w given asked new
  goes_done s stack agrees passed = record {
    stack = rw (stack, agrees) (turn_done t w given asked old.agrees frame (reverse rest) on_top s).1;
    passed = passed;
  }

  pub goes_missing : (n : ℕ) → ((f : Frame) → IsFrame t w frame f → IsStep t w frame f (Missing n))
      → (missing : List ℕ) × (slice_get t.texts n ≡ Some missing) × ((name : List ℕ) → lacks (Some (AnInstance given)) name (OfInstance asked) ≡ Some missing)
  goes_missing n s = let p = turn_missing t w given asked old.agrees frame (reverse rest) on_top n s in (p.0, p.2, λ name. p.1)

  pub goes_compared : (b : Bool) → ((f : Frame) → IsFrame t w frame f → IsStep t w frame f (Compared (Agrees b))) → new.stack.items ≡ rest ++ behind_one frame ∷ []
      → new.agrees ≡ (old.agrees && b) → new.passed ≡ old.passed → IsOn t w given asked new
  goes_compared true s stack agrees passed =
      let same : new.agrees ≡ old.agrees = agrees ∙ and_one old.agrees in
      record {
        stack = rw (one_back new.stack.items rest (behind_one frame) stack, same) (turn_agrees t w given asked old.agrees frame (reverse rest) on_top s);
        passed = λ p has. rw same (on.passed p (subst (λ (pairs : BTreeSet Pair). has_pair pairs p ≡ true) passed has));
      }
  goes_compared false s stack agrees passed =
      let same : new.agrees ≡ false = agrees ∙ and_none old.agrees in
      record {
        stack = rw (one_back new.stack.items rest (behind_one frame) stack, same) (turn_differs t w given asked old.agrees frame (reverse rest) on_top s);
        passed = λ p has. rw same (passed_less t w old.agrees p (on.passed p (subst (λ (pairs : BTreeSet Pair). has_pair pairs p ≡ true) passed has)));
      }

  pub goes_inside : AreDistinct t.texts t.values t.layers → (known : BTreeSet Pair) → ((p : Pair) → has_pair known p ≡ true → IsKnown t w p) → (i : InstanceRef) (r : InstanceTypeRef)
      → ((f : Frame) → IsFrame t w frame f → IsStep t w frame f (Compared (Inside i r)))
      → new.stack.items ≡ stack_inside (has_pair known (record { given = i; asked = r }) || has_pair old.passed (record { given = i; asked = r })) rest frame i r
      → new.agrees ≡ old.agrees → new.passed ≡ old.passed → IsOn t w given asked new
  goes_inside apart known are i r s stack agrees passed = record {
    stack = rw agrees (by (has_pair known pair) refl (has_pair old.passed pair) refl stack);
    passed = λ p has. rw agrees (on.passed p (subst (λ (pairs : BTreeSet Pair). has_pair pairs p ≡ true) passed has));
  }
    where
      pair : Pair
      pair = record { given = i; asked = r }

      remembered : IsPassed t w old.agrees pair → new.stack.items ≡ rest ++ behind_one frame ∷ [] → IsWalk t w given asked old.agrees (reverse new.stack.items)
      remembered k is = rw (one_back new.stack.items rest (behind_one frame) is) (turn_known t w given asked old.agrees frame (reverse rest) on_top apart i r k s)

      by : (a : Bool) → has_pair known pair ≡ a → (b : Bool) → has_pair old.passed pair ≡ b → new.stack.items ≡ stack_inside (a || b) rest frame i r → IsWalk t w given asked old.agrees (reverse new.stack.items)
      by true e b k is = remembered (passed_known t w old.agrees pair (are pair e)) is
      by false e true k is = remembered (on.passed pair k) is
      by false e false k is = rw (two_back new.stack.items rest (behind_one frame) (begun_with i r) is) (turn_inside t w given asked old.agrees frame (reverse rest) on_top i r s)

  pub goes_on : AreDistinct t.texts t.values t.layers → (known : BTreeSet Pair) → ((p : Pair) → has_pair known p ≡ true → IsKnown t w p) → (c : Comparison)
      → ((f : Frame) → IsFrame t w frame f → IsStep t w frame f (Compared c)) → IsBehind known frame c rest old.agrees old.passed new → IsOn t w given asked new
  goes_on apart known are (Agrees b) s behind = goes_compared b s behind.0 behind.1 behind.2
  goes_on apart known are (Inside i r) s behind = goes_inside apart known are i r s behind.0 behind.1 behind.2

-- What a turn came to.

module _ (t : Table) (w : World) (given : Exports) (asked : Externs) (instances : Instances) (walk : Walk) (r : Result Turn AllocError) (comes : IsTurn t w given asked instances walk r) where
  pub went_on : (x : Turn) → r ≡ Ok x → x ≡ GoesOn → AreInstances t w instances × IsOn t w given asked walk
  went_on x is on = subst (λ (r : Result Turn AllocError). IsTurn t w given asked instances walk r) (is ∙ ap Ok on) comes

  pub ended : (x : Turn) (fit : Fit) → r ≡ Ok x → x ≡ Ends fit → AreInstances t w instances × IsFit t (AnInstance given) (OfInstance asked) fit
  ended x fit is ends = subst (λ (r : Result Turn AllocError). IsTurn t w given asked instances walk r) (is ∙ ap Ok ends) comes

  pub failed : (e : AllocError) → r ≡ Err e → AreInstances t w instances
  failed e is = subst (λ (r : Result Turn AllocError). IsTurn t w given asked instances walk r) is comes

pub fit_inside : (t : Table) (w : World) (instances : Instances) (d : Definition) (x : Extern) (given : Exports) (asked : Externs) (r : Result Fit AllocError)
    → d ≡ AnInstance given → x ≡ OfInstance asked → AreInstances t w instances × IfOk r (IsFit t (AnInstance given) (OfInstance asked)) → AreInstances t w instances × IfOk r (IsFit t d x)
fit_inside t w instances d x given asked r d_is x_is h =
    (h.0, subst (λ (d : Definition). IfOk r (IsFit t d x)) (sym d_is) (subst (λ (x : Extern). IfOk r (IsFit t (AnInstance given) x)) (sym x_is) h.1))
