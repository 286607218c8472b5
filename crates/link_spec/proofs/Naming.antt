-- An item misses one name, and has one first reason.
use Rattle.std.proofs.Common.{◌≡◌, ◌⊎◌, inl, inr, ◌<◌, ℕ, zero, suc, List, refl, sym, ◌∙◌, ap, arith, Option, Some, None}
use Rattle.std.specs.Option.{MatchOption}
use Rattle.std.specs.List.{slice_get}
use Rattle.syntax_trees.specs.declared.module.ModuleTree.{ModuleTree}
use Rattle.comp_tree.specs.declared.core_instances.CoreInstance.{CoreInstance}
use Rattle.comp_tree.specs.declared.core_instances.CoreInstance.TheVariants as made_core
use Rattle.comp_tree.specs.declared.instances.Instance as made_of
use Rattle.comp_tree.specs.declared.instances.Instance.TheVariants as made
use Rattle.comp_tree.specs.declared.instances.Sort.{Sort}
use Rattle.comp_tree.specs.declared.types.DefType.{out-DefType}
use Rattle.comp_tree.specs.declared.instances.AliasTarget.{AliasTarget}
use Rattle.comp_tree.specs.declared.instances.AliasTarget.TheVariants as target
use Rattle.comp_tree.specs.declared.externs.Export as read
use Rattle.comp_tree.specs.declared.items.Canon.TheVariants.{Lift, Lower, Builtin}
use Rattle.comp_tree.specs.declared.items.Item.{Item, out-Item}
use Rattle.comp_tree.specs.declared.items.Item.TheOpen.{Item-F}
use Rattle.comp_tree.specs.declared.items.Component.{Component}
use Rattle.link_spec.specs.Brought.{asked_of}
use Rattle.link_spec.specs.declared.fault.LinkWhy.{LinkWhy}
use Rattle.link_spec.specs.declared.fault.LinkWhy.TheVariants as why
use Rattle.comp_graph.specs.Closed.{Closed, Extern}
use Rattle.link_spec.specs.Definitions.{Definition, Exports, export_named, lacks}
use Rattle.link_spec.specs.Resources.{resource_written}
use Rattle.link_spec.specs.Types.{Meaning}
use Rattle.link_spec.specs.Spaces.{Spaces, Linking, definition_at}
use Rattle.link_spec.specs.Items.{first_told, import_lacks, core_instance_has, instance_has, alias_has, defined_has, type_meaning, lacking, wanted, said, IsSaid, export_has, has_case, item_has}
use Rattle.link_spec.specs.Linked.{rank}
use Rattle.link_spec.specs.Laws.{OneName, OneFirst}

-- what an option that has a value tells twice
match_same : {A X : Type 0} (P Q : A → Type 0) (x y : X) → ((a : A) → P a → Q a → x ≡ y) → (o : Option A) → MatchOption o ⊥ P → MatchOption o ⊥ Q → x ≡ y
match_same P Q x y f None h k = absurd h
match_same P Q x y f (Some a) h k = f a h k

told_once : (o : Option (List ℕ)) (a b : List ℕ) → o ≡ Some a → o ≡ Some b → a ≡ b
told_once o a b h k = cc

core_instance_name : (l : Linking) (s : Spaces) (c : CoreInstance) (a b : List ℕ) → core_instance_has l s c (why.Missing a) → core_instance_has l s c (why.Missing b) → a ≡ b
core_instance_name l s (made_core.Instantiate index arguments) a b h k =
    match_same (λ (m : ModuleTree). first_told (import_lacks s arguments) m.imports ≡ Some a) (λ (m : ModuleTree). first_told (import_lacks s arguments) m.imports ≡ Some b) a b
    (λ m h k. told_once (first_told (import_lacks s arguments) m.imports) a b h k) (slice_get s.core_modules index) h k
core_instance_name l s (made_core.Inline read) a b h k = absurd h

instance_name : (l : Linking) (s : Spaces) (i : made_of.Instance) (a b : List ℕ) → instance_has l s i (why.Missing a) → instance_has l s i (why.Missing b) → a ≡ b
instance_name l s (made.Instantiate component arguments) a b h k = absurd h
instance_name l s (made.Inline read) a b h k = absurd h

alias_name : (l : Linking) (n : ℕ) (s : Spaces) (sort : Sort) (t : AliasTarget) (a b : List ℕ) → alias_has l n s sort t (why.Missing a) → alias_has l n s sort t (why.Missing b) → a ≡ b
alias_name l n s sort (target.InstanceExport instance name) a b h k = h.0 ∙ sym k.0
alias_name l n s sort (target.CoreInstanceExport instance name) a b h k = h.0 ∙ sym k.0
alias_name l n s sort (target.Outer up index) a b h k = absurd h

-- an export that is asked for and missing, of a definition and of what it is said to be
abbrev MissesIn : read.Export → Definition → List ℕ → Meaning Extern → Type 0
MissesIn e d missing meaning = MatchOption meaning.means ⊥ (λ extern. lacks (Some d) e.name (asked_of d extern) ≡ Some missing)

abbrev Misses : Spaces → read.Export → List ℕ → Definition → Type 0
Misses s e missing d = IsSaid (said s e) (MissesIn e d missing)

misses_once : (e : read.Export) (d : Definition) (a b : List ℕ) (meaning : Meaning Extern) → MissesIn e d a meaning → MissesIn e d b meaning → a ≡ b
misses_once e d a b meaning h k =
    match_same (λ extern. lacks (Some d) e.name (asked_of d extern) ≡ Some a) (λ extern. lacks (Some d) e.name (asked_of d extern) ≡ Some b) a b (λ extern h k. told_once (lacks (Some d) e.name (asked_of d extern)) a b h k) meaning.means h k

export_name : (s : Spaces) (e : read.Export) (a b : List ℕ) → export_has s e (why.Missing a) → export_has s e (why.Missing b) → a ≡ b
export_name s e a b h k =
    match_same (Misses s e a) (Misses s e b) a b (λ d h k. match_same (MissesIn e d a) (MissesIn e d b) a b (misses_once e d a b) (said s e) h k) (definition_at s e.sort e.index) h k

type_name : (s : Spaces) (destructor : Option (Option ℕ)) (meaning : Meaning Closed) (a b : List ℕ) → defined_has s destructor meaning (why.Missing a) → defined_has s destructor meaning (why.Missing b) → a ≡ b
type_name s (Some None) meaning a b h k = absurd h
type_name s (Some (Some f)) meaning a b h k = absurd h
type_name s None meaning a b h k = told_once meaning.missing a b h k

case_name : (l : Linking) (n : ℕ) (s : Spaces) (shape : Item-F Item Component) (a b : List ℕ) → has_case l n s shape (why.Missing a) → has_case l n s shape (why.Missing b) → a ≡ b
case_name l n s (Item-F.CoreModule m) a b h k = absurd h
case_name l n s (Item-F.CoreInstance c) a b h k = core_instance_name l s c a b h k
case_name l n s (Item-F.Component c) a b h k = absurd h
case_name l n s (Item-F.Instance i) a b h k = instance_name l s i a b h k
case_name l n s (Item-F.Alias alias) a b h k = alias_name l n s alias.sort alias.target a b h k
case_name l n s (Item-F.Type type) a b h k = type_name s (resource_written (out-DefType type)) (type_meaning l n s type) a b h k
case_name l n s (Item-F.Canon (Lift f options t)) a b h k = absurd h
case_name l n s (Item-F.Canon (Lower f options)) a b h k = absurd h
case_name l n s (Item-F.Canon (Builtin built)) a b h k = absurd h
case_name l n s (Item-F.Import i) a b h k =
    match_same (λ (given : Exports). lacking (export_named i.name given) i.name (wanted s i.name i.desc).means ≡ Some a) (λ (given : Exports). lacking (export_named i.name given) i.name (wanted s i.name i.desc).means ≡ Some b) a b
    (λ given h k. told_once (lacking (export_named i.name given) i.name (wanted s i.name i.desc).means) a b h k) s.arguments h k
case_name l n s (Item-F.Export e) a b h k = export_name s e a b h k

pub one_name : OneName
one_name l n s item a b h k = case_name l n s (out-Item item) a b h k

-- two reasons of one rank are the same, but for the names that they tell
same_rank : (l : Linking) (n : ℕ) (s : Spaces) (item : Item) (v w : LinkWhy) → rank v ≡ rank w → item_has l n s item v → item_has l n s item w → v ≡ w
same_rank l n s item why.RootImport why.RootImport e h k = refl
same_rank l n s item why.Index why.Index e h k = refl
same_rank l n s item (why.Missing a) (why.Missing b) e h k = ap why.Missing (one_name l n s item a b h k)
same_rank l n s item why.Typing why.Typing e h k = refl
same_rank l n s item why.Canon why.Canon e h k = refl
same_rank l n s item why.Limit why.Limit e h k = refl
same_rank l n s item v w e h k = absurd (omega arith)

compare : (a b : ℕ) → (a < b) ⊎ (b < a) ⊎ (a ≡ b)
compare zero zero = inr (inr refl)
compare zero (suc b) = inl (omega arith)
compare (suc a) zero = inr (inl (omega arith))
compare (suc a) (suc b) = elim (compare a b) [ inl h ↦ inl (omega arith) | inr (inl h) ↦ inr (inl (omega arith)) | inr (inr e) ↦ inr (inr (ap suc e)) ]

pub one_first : OneFirst
one_first l n s item v w h k =
    elim (compare (rank v) (rank w)) [
      | inl less ↦ absurd (k.first v less h.has)
      | inr (inl less) ↦ absurd (h.first w less k.has)
      | inr (inr e) ↦ same_rank l n s item v w e h.has k.has
    ]
