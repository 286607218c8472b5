-- What is computed of an item is what it makes or begins, or its first reason.
use Rattle.std.proofs.Common.{◌≡◌, ℕ, refl, ◌∙◌, ap, ap₂, subst}
use Rattle.std.specs.Prelude.{Result, Ok, Err}
use Rattle.comp_tree.specs.declared.types.DefType.{out-DefType}
use Rattle.comp_tree.specs.declared.instances.Instance as made_of
use Rattle.comp_tree.specs.declared.items.Canon.TheVariants.{Lift, Lower, Builtin}
use Rattle.comp_tree.specs.declared.items.Item.{Item, out-Item}
use Rattle.comp_tree.specs.declared.items.Item.TheOpen.{Item-F}
use Rattle.comp_tree.specs.declared.items.Component.{Component}
use Rattle.link_spec.specs.declared.fault.LinkWhy.{LinkWhy}
use Rattle.link_spec.specs.Definitions.{Closure, Exports}
use Rattle.link_spec.specs.Builtins.{builtin_meaning}
use Rattle.link_spec.specs.Resources.{resource_written}
use Rattle.link_spec.specs.Spaces.{Spaces, Linking}
use Rattle.link_spec.specs.Items.{type_meaning, has_case, makes_case, item_has}
use Rattle.link_spec.specs.Linked.{IsFirst, Begins}
use Rattle.link_spec.specs.Computed.{Outcome, Makes, Starts, outcome_case, item_outcome}
use Rattle.link_spec.specs.Laws.{IsOutcome, OutcomeComputed, ReasonComputed}
use Rattle.link_spec.proofs.Excluding.{makes_excludes_reasons, begins_excludes_reasons, makes_excludes_begins}
use Rattle.link_spec.proofs.Making.{makes_once, begins_once}
use Rattle.link_spec.proofs.Naming.{one_first}
use Rattle.link_spec.proofs.Sounding.{First, Sound, sound_map}
use Rattle.link_spec.proofs.ItemOutcomes.{alias_sound, defined_sound, lift_sound, lower_sound, builtin_sound, import_sound, export_sound}
use Rattle.link_spec.proofs.CoreOutcomes.{MakesBy, InstanceComes, BeginsBy, core_instance_sound, instance_sound}

-- Items.

abbrev StartsBy : Linking → Spaces → Item-F Item Component → Closure → Exports → Type 0
StartsBy l s (Item-F.Instance i) c arguments = BeginsBy l s i c arguments
StartsBy l s shape c arguments = ⊥

abbrev CaseComes : Linking → ℕ → Spaces → Item-F Item Component → Outcome → Type 0
CaseComes l n s shape (Makes new) = makes_case l n s shape new
CaseComes l n s shape (Starts c arguments) = StartsBy l s shape c arguments

only_makes : (l : Linking) (n : ℕ) (s : Spaces) (shape : Item-F Item Component) (M : Linking → Type 0) → ((new : Linking) → M new → makes_case l n s shape new) → (o : Outcome) → MakesBy M o → CaseComes l n s shape o
only_makes l n s shape M f (Makes new) h = f new h
only_makes l n s shape M f (Starts c arguments) h = absurd h

instance_comes : (l : Linking) (n : ℕ) (s : Spaces) (i : made_of.Instance) (o : Outcome) → InstanceComes l n s i o → CaseComes l n s (Item-F.Instance i) o
instance_comes l n s i (Makes new) h = h
instance_comes l n s i (Starts c arguments) h = h

case_sound : (l : Linking) (n : ℕ) (s : Spaces) (shape : Item-F Item Component) → Sound (has_case l n s shape) (CaseComes l n s shape) (outcome_case l n s shape)
case_sound l n s (Item-F.CoreModule m) = refl
case_sound l n s (Item-F.CoreInstance c) = sound_map _ _ (CaseComes l n s (Item-F.CoreInstance c)) _ (only_makes l n s (Item-F.CoreInstance c) _ (λ new h. h)) (core_instance_sound l n s c)
case_sound l n s (Item-F.Component c) = refl
case_sound l n s (Item-F.Instance i) = sound_map _ _ (CaseComes l n s (Item-F.Instance i)) _ (instance_comes l n s i) (instance_sound l n s i)
case_sound l n s (Item-F.Alias alias) = sound_map _ _ (CaseComes l n s (Item-F.Alias alias)) _ (only_makes l n s (Item-F.Alias alias) _ (λ new h. h)) (alias_sound l n s alias.sort alias.target)
case_sound l n s (Item-F.Type type) =
    sound_map _ _ (CaseComes l n s (Item-F.Type type)) _ (only_makes l n s (Item-F.Type type) _ (λ new h. h)) (defined_sound l n s (resource_written (out-DefType type)) (type_meaning l n s type))
case_sound l n s (Item-F.Canon (Lift f options t)) = sound_map _ _ (CaseComes l n s (Item-F.Canon (Lift f options t))) _ (only_makes l n s (Item-F.Canon (Lift f options t)) _ (λ new h. h)) (lift_sound l n s f options t)
case_sound l n s (Item-F.Canon (Lower f options)) = sound_map _ _ (CaseComes l n s (Item-F.Canon (Lower f options))) _ (only_makes l n s (Item-F.Canon (Lower f options)) _ (λ new h. h)) (lower_sound l n s f options)
case_sound l n s (Item-F.Canon (Builtin b)) = sound_map _ _ (CaseComes l n s (Item-F.Canon (Builtin b))) _ (only_makes l n s (Item-F.Canon (Builtin b)) _ (λ new h. h)) (builtin_sound l n s (builtin_meaning l n s b))
case_sound l n s (Item-F.Import i) = sound_map _ _ (CaseComes l n s (Item-F.Import i)) _ (only_makes l n s (Item-F.Import i) _ (λ new h. h)) (import_sound l n s i.name i.desc)
case_sound l n s (Item-F.Export e) = sound_map _ _ (CaseComes l n s (Item-F.Export e)) _ (only_makes l n s (Item-F.Export e) _ (λ new h. h)) (export_sound l n s e)

begins_of : (l : Linking) (n : ℕ) (s : Spaces) (item : Item) (c : Closure) (arguments : Exports) (shape : Item-F Item Component) → out-Item item ≡ shape → StartsBy l s shape c arguments → Begins l n s item c arguments
begins_of l n s item c arguments (Item-F.Instance i) e b = record {
  index = b.index;
  named = b.named;
  is = e ∙ ap Item-F.Instance b.is;
  component = b.component;
  given = b.given;
  distinct = b.distinct;
  few = b.few;
}
begins_of l n s item c arguments shape e b = absurd b

outcome_is : (l : Linking) (n : ℕ) (s : Spaces) (item : Item) (o : Outcome) → CaseComes l n s (out-Item item) o → IsOutcome l n s item o
outcome_is l n s item (Makes new) h = h
outcome_is l n s item (Starts c arguments) h = begins_of l n s item c arguments (out-Item item) refl h

pub item_sound : (l : Linking) (n : ℕ) (s : Spaces) (item : Item) → Sound (item_has l n s item) (IsOutcome l n s item) (item_outcome l n s item)
item_sound l n s item = sound_map (item_has l n s item) (CaseComes l n s (out-Item item)) (IsOutcome l n s item) (item_outcome l n s item) (outcome_is l n s item) (case_sound l n s (out-Item item))

-- Nothing but what is computed.

pub is_first : (l : Linking) (n : ℕ) (s : Spaces) (item : Item) (w : LinkWhy) → First (item_has l n s item) w → IsFirst l n s item w
is_first l n s item w f = record { has = f.has; first = f.clear }

one_outcome : (l : Linking) (n : ℕ) (s : Spaces) (item : Item) (o p : Outcome) → IsOutcome l n s item o → IsOutcome l n s item p → o ≡ p
one_outcome l n s item (Makes a) (Makes b) h k = ap Makes (makes_once l n s item a b h k)
one_outcome l n s item (Makes a) (Starts c arguments) h k = absurd (makes_excludes_begins l n s item a c arguments h k)
one_outcome l n s item (Starts c arguments) (Makes b) h k = absurd (makes_excludes_begins l n s item b c arguments k h)
one_outcome l n s item (Starts c given) (Starts d passed) h k =
    let e = begins_once l n s item c d given passed h k in
    ap₂ Starts e.0 e.1

no_reason : (l : Linking) (n : ℕ) (s : Spaces) (item : Item) (o : Outcome) (w : LinkWhy) → IsOutcome l n s item o → item_has l n s item w → ⊥
no_reason l n s item (Makes new) w h k = makes_excludes_reasons l n s item new w h k
no_reason l n s item (Starts c arguments) w h k = begins_excludes_reasons l n s item c arguments w h k

told : (l : Linking) (n : ℕ) (s : Spaces) (item : Item) (r : Result Outcome LinkWhy) → item_outcome l n s item ≡ r → Sound (item_has l n s item) (IsOutcome l n s item) r
told l n s item r e = subst (λ (r : Result Outcome LinkWhy). Sound (item_has l n s item) (IsOutcome l n s item) r) e (item_sound l n s item)

pub outcome_computed : OutcomeComputed
outcome_computed l n s item o = (λ e. told l n s item (Ok o) e, back (item_outcome l n s item) (item_sound l n s item))
  where
    back : (r : Result Outcome LinkWhy) → Sound (item_has l n s item) (IsOutcome l n s item) r → IsOutcome l n s item o → r ≡ Ok o
    back (Ok p) h k = ap Ok (one_outcome l n s item p o h k)
    back (Err w) h k = absurd (no_reason l n s item o w k h.has)

pub reason_computed : ReasonComputed
reason_computed l n s item w = (λ e. is_first l n s item w (told l n s item (Err w) e), back (item_outcome l n s item) (item_sound l n s item))
  where
    back : (r : Result Outcome LinkWhy) → Sound (item_has l n s item) (IsOutcome l n s item) r → IsFirst l n s item w → r ≡ Err w
    back (Ok o) h k = absurd (no_reason l n s item o w h k.has)
    back (Err v) h k = ap Err (one_first l n s item v w (is_first l n s item v h) k)
