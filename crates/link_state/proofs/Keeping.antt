-- Items of a component instance leave the index spaces of those that began before it as they are, and take none away.
use Rattle.std.proofs.Common.{◌≡◌, ◌<◌, ◌≤◌, ℕ, zero, suc, List, [], ◌∷◌, ◌++◌, length, set, refl, ◌∙◌, ap, subst, arith, Option, Some, None}
use Rattle.std.specs.Prelude.{Result, Ok, Err}
use Rattle.std.specs.List.{slice_get}
use Rattle.std.proofs.Math.ListN.{length-set}
use Rattle.ca_base.specs.declared.placed.Placed.{Placed}
use Rattle.comp_tree.specs.declared.core_instances.CoreInstance.{CoreInstance}
use Rattle.comp_tree.specs.declared.core_instances.CoreInstance.TheVariants as made_core
use Rattle.comp_tree.specs.declared.instances.Instance as made_of
use Rattle.comp_tree.specs.declared.instances.Instance.TheVariants as made
use Rattle.comp_tree.specs.declared.instances.Sort.{Sort}
use Rattle.comp_tree.specs.declared.instances.AliasTarget.{AliasTarget}
use Rattle.comp_tree.specs.declared.instances.AliasTarget.TheVariants as target
use Rattle.comp_tree.specs.declared.items.Canon.TheVariants.{Lift, Lower, Builtin}
use Rattle.comp_tree.specs.declared.items.Item.{Item, out-Item}
use Rattle.comp_tree.specs.declared.items.Item.TheOpen.{Item-F}
use Rattle.comp_tree.specs.declared.items.Component.{Component}
use Rattle.link_spec.specs.declared.fault.LinkWhy.{LinkWhy}
use Rattle.link_spec.specs.declared.fault.LinkFault.{LinkFault}
use Rattle.comp_graph.specs.declared.graph.FuncRef.TheVariants as func_ref
use Rattle.comp_graph.specs.Graph.{canon_type, builtin_type}
use Rattle.comp_tree.specs.declared.types.DefType.{out-DefType}
use Rattle.comp_graph.specs.Closed.{Closed}
use Rattle.link_spec.specs.Meaning.{Meaning}
use Rattle.link_spec.specs.Resources.{resource_written}
use Rattle.link_spec.specs.Definitions.{Func, Closure, Exports, exports_of}
use Rattle.link_spec.specs.Ends.{noted_type}
use Rattle.link_spec.specs.Spaces.{Spaces, Linking, new_spaces, with_spaces, with_ends, with_core_item, with_core_instance}
use Rattle.link_spec.specs.Canons.{given_by}
use Rattle.link_spec.specs.Items.{core_instance_makes, instance_makes, alias_makes, defined_makes, type_meaning, lowered_with, makes_case}
use Rattle.link_spec.specs.Linked.{begun, with_instance}
use Rattle.link_spec.specs.Computed.{after, Outcome, Makes, Starts, item_outcome, Run, behind, placed_at, step, run, run_within}
use Rattle.link_spec.specs.Laws.{IsOutcome}
use Rattle.link_spec.proofs.Outcomes.{outcome_computed}
use Rattle.link_spec.proofs.Lengths.{begun_length, instance_length_same}
use Rattle.link_state.specs.Running.{inside}
use Rattle.link_state.proofs.Zips.{other_kept}

-- The spaces that one item writes are those of its component instance.
abbrev IsSet : Linking → ℕ → Linking → Type 0
IsSet l n new = (s : Spaces) × (new.scopes ≡ set l.scopes n s)

set_by : (l : Linking) (n : ℕ) (s : Spaces) (new : Linking) → new ≡ with_spaces l n s → IsSet l n new
set_by l n s new e = (s, ap (λ (l : Linking). l.scopes) e)

core_instance_sets : (l : Linking) (n : ℕ) (s : Spaces) (c : CoreInstance) (new : Linking) → core_instance_makes l n s c new → IsSet l n new
core_instance_sets l n s (made_core.Instantiate index arguments) new (m, imports, is, there, found, distinct, few, e) =
    (with_core_instance s (exports_of m (length l.cores)), ap (λ (l : Linking). l.scopes) e)
core_instance_sets l n s (made_core.Inline read) new (exports, are, distinct, e) = set_by l n _ new e

instance_sets : (l : Linking) (n : ℕ) (s : Spaces) (i : made_of.Instance) (new : Linking) → instance_makes l n s i new → IsSet l n new
instance_sets l n s (made.Instantiate component arguments) new k = absurd k
instance_sets l n s (made.Inline read) new (exports, are, distinct, e) = set_by l n _ new e

alias_sets : (l : Linking) (n : ℕ) (s : Spaces) (sort : Sort) (t : AliasTarget) (new : Linking) → alias_makes l n s sort t new → IsSet l n new
alias_sets l n s sort (target.InstanceExport instance name) new (d, is, of_sort, e) = set_by l n _ new e
alias_sets l n s sort (target.CoreInstanceExport instance name) new (item, is, of_sort, e) = set_by l n _ new e
alias_sets l n s sort (target.Outer up index) new (d, is, e) = set_by l n _ new e

type_sets : (l : Linking) (n : ℕ) (s : Spaces) (destructor : Option (Option ℕ)) (meaning : Meaning Closed) (new : Linking) → defined_makes l n s destructor meaning new → IsSet l n new
type_sets l n s (Some None) meaning new e = (_, ap (λ (l : Linking). l.scopes) e)
type_sets l n s (Some (Some f)) meaning new (item, core, is, of_item, of_type, e) = (_, ap (λ (l : Linking). l.scopes) e)
type_sets l n s None meaning new (closed, is, e) = set_by (with_ends l (noted_type l.end_types closed) meaning.has_room) n _ new e

case_sets : (l : Linking) (n : ℕ) (s : Spaces) (shape : Item-F Item Component) (new : Linking) → makes_case l n s shape new → IsSet l n new
case_sets l n s (Item-F.CoreModule m) new e = set_by l n _ new e
case_sets l n s (Item-F.CoreInstance c) new h = core_instance_sets l n s c new h
case_sets l n s (Item-F.Component c) new e = set_by l n _ new e
case_sets l n s (Item-F.Instance i) new h = instance_sets l n s i new h
case_sets l n s (Item-F.Alias alias) new h = alias_sets l n s alias.sort alias.target new h
case_sets l n s (Item-F.Type type) new h = type_sets l n s (resource_written (out-DefType type)) (type_meaning l n s type) new h
case_sets l n s (Item-F.Canon (Lift f options t)) new (item, core, type, is, of_core, there, of_type, once, lifts, e) = set_by l n _ new e
case_sets l n s (Item-F.Canon (Lower f options)) new (func, is, there, once, lowers, e) = (with_core_item s (Func (func_ref.Canon (length l.canons)) (canon_type (lowered_with n func (given_by s options)))), ap (λ (l : Linking). l.scopes) e)
case_sets l n s (Item-F.Canon (Builtin b)) new (kind, there, is, serves, e) = (with_core_item s (Func (func_ref.Canon (length l.canons)) (builtin_type kind)), ap (λ (l : Linking). l.scopes) e)
case_sets l n s (Item-F.Import i) new (extern, d, is, fresh, imported, e) = set_by l n _ new e
case_sets l n s (Item-F.Export x) new (d, y, is, fresh, exported, e) = set_by l n _ new e

-- What stands elsewhere stays.
before_kept : {A : Type 0} (xs ys : List A) (k : ℕ) → k < length xs → slice_get (xs ++ ys) k ≡ slice_get xs k
before_kept [] ys k h = absurd (omega arith)
before_kept (x ∷ xs) ys zero h = refl
before_kept (x ∷ xs) ys (suc k) h = before_kept xs ys k (omega arith)

-- From one linking to another one, by items of a component instance.
record IsKept (l : Linking) (n : ℕ) (last : Linking) : Type 0 where
  more : length l.scopes ≤ length last.scopes
  others : (k : ℕ) → k < length l.scopes → (k ≡ n → ⊥) → slice_get last.scopes k ≡ slice_get l.scopes k

kept_here : (l : Linking) (n : ℕ) → IsKept l n l
kept_here l n = record { more = omega arith; others = λ k h apart. refl }

kept_set : (l : Linking) (n : ℕ) (new : Linking) → IsSet l n new → IsKept l n new
kept_set l n new (s, e) = record {
  more = (let same : length new.scopes ≡ length l.scopes = ap length e ∙ length-set l.scopes n s in omega (arith, same));
  others = λ k h apart. ap (λ scopes. slice_get scopes k) e ∙ other_kept l.scopes n k s apart;
}

kept_both : (l : Linking) (n : ℕ) (next last : Linking) → IsKept l n next → IsKept next n last → IsKept l n last
kept_both l n next last a b = record {
  more = omega (arith, a.more, b.more);
  others = λ k h apart. b.others k (omega (arith, h, a.more)) apart ∙ a.others k h apart;
}

kept_instance : (l : Linking) (n : ℕ) (s : Spaces) (c : Closure) (arguments : Exports) (inner : Linking) → IsKept (begun l c arguments) (length l.scopes) inner → IsKept l n (with_instance inner n s (length l.scopes))
kept_instance l n s c arguments inner h = record {
  more = (let longer = begun_length l c arguments in let same = instance_length_same inner n s (length l.scopes) in omega (arith, longer, same, h.more));
  others = λ k below apart.
      let longer = begun_length l c arguments in
      other_kept inner.scopes n k _ apart
      ∙ h.others k (omega (arith, longer, below)) (λ e. omega (arith, below, e))
      ∙ before_kept l.scopes (new_spaces (Some arguments) c.around ∷ []) k below;
}

abbrev Keeps : Run → Type 0
Keeps run = (l : Linking) (n : ℕ) (items : List (Placed Item)) (last : Linking) → run l n items ≡ Ok last → IsKept l n last

same_ok : {A E : Type 0} (a b : A) → ◌≡◌ {A = Result A E} (Ok a) (Ok b) → a ≡ b
same_ok a b e = cc

module _ (within : Run) (keeps : Keeps within) where
  behind_keeps : (l : Linking) (n : ℕ) (s : Spaces) (item : Item) (o : Outcome) (next : Linking) → IsOutcome l n s item o → behind within l n s o ≡ Ok next → IsKept l n next
  behind_keeps l n s item (Makes new) next h e = kept_set l n next (subst (λ (new : Linking). IsSet l n new) (same_ok new next e) (case_sets l n s (out-Item item) new h))
  behind_keeps l n s item (Starts c arguments) next h e = by (within (begun l c arguments) (length l.scopes) c.items) refl e
    where
      by : (r : Result Linking LinkFault) → within (begun l c arguments) (length l.scopes) c.items ≡ r → after r (λ inner. Ok (with_instance inner n s (length l.scopes))) ≡ Ok next → IsKept l n next
      by (Ok inner) is e =
          subst (λ (next : Linking). IsKept l n next) (same_ok (with_instance inner n s (length l.scopes)) next e)
          (kept_instance l n s c arguments inner (keeps (begun l c arguments) (length l.scopes) c.items inner is))
      by (Err fault) is e = cc

  step_keeps : (l : Linking) (n : ℕ) (placed : Placed Item) (o : Option Spaces) (next : Linking) → step within l n placed o ≡ Ok next → IsKept l n next
  step_keeps l n placed None next e = subst (λ (next : Linking). IsKept l n next) (same_ok l next e) (kept_here l n)
  step_keeps l n placed (Some s) next e = by (item_outcome l n s placed.item) refl e
    where
      by : (r : Result Outcome LinkWhy) → item_outcome l n s placed.item ≡ r → after (placed_at placed.place r) (behind within l n s) ≡ Ok next → IsKept l n next
      by (Ok o) is e = behind_keeps l n s placed.item o next ((outcome_computed l n s placed.item o).0 is) e
      by (Err w) is e = cc

  behind_one : (items : List (Placed Item)) (l : Linking) (n : ℕ) (last : Linking) (placed : Placed Item) → ((next : Linking) → run within next n items ≡ Ok last → IsKept next n last)
      → (r : Result Linking LinkFault) → step within l n placed (slice_get l.scopes n) ≡ r → after r (λ next. run within next n items) ≡ Ok last → IsKept l n last
  behind_one items l n last placed rest (Ok next) is e = kept_both l n next last (step_keeps l n placed (slice_get l.scopes n) next is) (rest next e)
  behind_one items l n last placed rest (Err fault) is e = cc

  run_keeps : (items : List (Placed Item)) (l : Linking) (n : ℕ) (last : Linking) → run within l n items ≡ Ok last → IsKept l n last
  run_keeps [] l n last e = subst (λ (last : Linking). IsKept l n last) (same_ok l last e) (kept_here l n)
  run_keeps (placed ∷ items) l n last e = behind_one items l n last placed (λ next e. run_keeps items next n last e) (step within l n placed (slice_get l.scopes n)) refl e

within_keeps : (depth : ℕ) → Keeps (run_within depth)
within_keeps zero l n items last e = run_keeps (λ l n items. Ok l) (λ l n items last e. subst (λ (last : Linking). IsKept l n last) (same_ok l last e) (kept_here l n)) items l n last e
within_keeps (suc depth) l n items last e = run_keeps (run_within depth) (within_keeps depth) items l n last e

inside_keeps : (depth : ℕ) → Keeps (inside depth)
inside_keeps zero l n items last e = subst (λ (last : Linking). IsKept l n last) (same_ok l last e) (kept_here l n)
inside_keeps (suc depth) l n items last e = within_keeps depth l n items last e

-- The items of a component that begins leave the component instance that makes it as it is.
pub maker_stays : (depth : ℕ) (l : Linking) (n : ℕ) (s : Spaces) (c : Closure) (arguments : Exports) (items : List (Placed Item)) (inner : Linking) → slice_get l.scopes n ≡ Some s → n < length l.scopes
    → inside depth (begun l c arguments) (length l.scopes) items ≡ Ok inner → slice_get inner.scopes n ≡ Some s
maker_stays depth l n s c arguments items inner there below e =
    let longer = begun_length l c arguments in
    (inside_keeps depth (begun l c arguments) (length l.scopes) items inner e).others n (omega (arith, longer, below)) (λ e. omega (arith, below, e))
    ∙ before_kept l.scopes (new_spaces (Some arguments) c.around ∷ []) n below
    ∙ there
