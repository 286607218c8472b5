-- What is exported under a name, by the number of the first export of the name.
use Rattle.std.proofs.Common.{◌≡◌, ◌≢◌, ℕ, Bool, true, false, cond, List, [], ◌∷◌, ◌++◌, map, refl, ap, sym, ◌∙◌, Option, Some, None}
use Rattle.std.specs.List.{slice_get, find, AllByRecursion, flat_map}
use Rattle.std.specs.Option.{option_and_then, option_map}
use Rattle.std.specs.Str.{bytes_eq}
use Rattle.std.proofs.lemmas.Slice.Eq.{bytes_eq-Decides}
use Rattle.syntax_trees.specs.Names.{first_named, AreDistinct}
use Rattle.syntax_trees.proofs.FirstNamed.{found_by_name}
use Rattle.syntax_trees.specs.declared.module.Export.{Export}
use Rattle.syntax_trees.specs.declared.module.ModuleTree.{ModuleTree}
use Rattle.comp_graph.specs.CoreItems.{CoreItem, item_of}
use Rattle.link_spec.specs.Definitions.{CoreExport, core_named, listed, exports_of}

-- Inline exports.

picked : (b : Bool) (e : CoreExport) (a : Option CoreItem) (o : Option CoreExport) → a ≡ option_map (λ (e : CoreExport). e.item) o → cond b (Some e.item) a ≡ option_map (λ (e : CoreExport). e.item) (cond b (Some e) o)
picked true e a o h = refl
picked false e a o h = h

named_found : (exports : List CoreExport) (q : List ℕ) → core_named q exports ≡ option_map (λ (e : CoreExport). e.item) (find (λ (e : CoreExport). bytes_eq e.name q) exports)
named_found [] q = refl
named_found (e ∷ exports) q = picked (bytes_eq e.name q) e (core_named q exports) (find (λ (e : CoreExport). bytes_eq e.name q) exports) (named_found exports q)

pub inline_named : (exports : List CoreExport) (q : List ℕ) (at : Option ℕ) → at ≡ first_named q (map (λ (e : CoreExport). e.name) exports) → option_map (λ (e : CoreExport). e.item) (option_and_then (λ k. slice_get exports k) at) ≡ core_named q exports
inline_named exports q at h =
    ap (λ (at : Option ℕ). option_map (λ (e : CoreExport). e.item) (option_and_then (λ k. slice_get exports k) at)) h
    ∙ ap (option_map (λ (e : CoreExport). e.item)) (found_by_name (λ (e : CoreExport). e.name) exports q)
    ∙ sym (named_found exports q)

-- Exports of a core module, of which no two have one name.

abbrev offers : ModuleTree → ℕ → Export → List CoreExport
offers m number e = listed (option_map (λ item. record { name = e.name; item = item }) (item_of m number e.desc))

abbrev or_item : Option CoreItem → Option CoreItem → Option CoreItem
or_item None other = other
or_item (Some item) other = Some item

behind_offer : (name q : List ℕ) (o : Option CoreItem) (others : List CoreExport) (b : Bool) → bytes_eq name q ≡ b
    → core_named q (listed (option_map (λ item. record { name = name; item = item }) o) ++ others) ≡ cond b (or_item o (core_named q others)) (core_named q others)
behind_offer name q None others true h = refl
behind_offer name q None others false h = refl
behind_offer name q (Some item) others b h = ap (λ (b : Bool). cond b (Some item) (core_named q others)) h

or_none : (o r : Option CoreItem) → r ≡ None → or_item o r ≡ o
or_none None r h = h
or_none (Some item) r h = refl

differs : (first q name : List ℕ) (b : Bool) → bytes_eq name q ≡ b → first ≡ q → first ≢ name → b ≡ false
differs first q name false e same apart = refl
differs first q name true e same apart = absurd (apart (same ∙ sym ((bytes_eq-Decides name q).0 e)))

none_named : (m : ModuleTree) (number : ℕ) (first q : List ℕ) (exports : List Export) → first ≡ q → AllByRecursion (λ name. first ≢ name) (map (λ (e : Export). e.name) exports) → core_named q (flat_map (offers m number) exports) ≡ None
none_named m number first q [] same apart = refl
none_named m number first q (e ∷ exports) same apart =
    behind_offer e.name q (item_of m number e.desc) (flat_map (offers m number) exports) false (differs first q e.name (bytes_eq e.name q) refl same apart.0)
    ∙ none_named m number first q exports same apart.1

named_one : (m : ModuleTree) (number : ℕ) (q : List ℕ) (e : Export) (exports : List Export) (b : Bool) → bytes_eq e.name q ≡ b → AllByRecursion (λ name. e.name ≢ name) (map (λ (e : Export). e.name) exports)
    → core_named q (flat_map (offers m number) exports) ≡ option_and_then (λ (e : Export). item_of m number e.desc) (find (λ (e : Export). bytes_eq e.name q) exports)
    → core_named q (flat_map (offers m number) (e ∷ exports)) ≡ option_and_then (λ (e : Export). item_of m number e.desc) (cond b (Some e) (find (λ (e : Export). bytes_eq e.name q) exports))
named_one m number q e exports true h d others =
    behind_offer e.name q (item_of m number e.desc) (flat_map (offers m number) exports) true h
    ∙ or_none (item_of m number e.desc) (core_named q (flat_map (offers m number) exports)) (none_named m number e.name q exports ((bytes_eq-Decides e.name q).0 h) d)
named_one m number q e exports false h d others = behind_offer e.name q (item_of m number e.desc) (flat_map (offers m number) exports) false h ∙ others

named_in : (m : ModuleTree) (number : ℕ) (q : List ℕ) (exports : List Export) → AreDistinct (map (λ (e : Export). e.name) exports)
    → core_named q (flat_map (offers m number) exports) ≡ option_and_then (λ (e : Export). item_of m number e.desc) (find (λ (e : Export). bytes_eq e.name q) exports)
named_in m number q [] d = refl
named_in m number q (e ∷ exports) d = named_one m number q e exports (bytes_eq e.name q) refl d.0 (named_in m number q exports d.1)

pub module_named : (m : ModuleTree) (number : ℕ) (q : List ℕ) (at : Option ℕ) → AreDistinct (map (λ (e : Export). e.name) m.exports) → at ≡ first_named q (map (λ (e : Export). e.name) m.exports)
    → option_and_then (λ (e : Export). item_of m number e.desc) (option_and_then (λ k. slice_get m.exports k) at) ≡ core_named q (exports_of m number)
module_named m number q at d h =
    ap (λ (at : Option ℕ). option_and_then (λ (e : Export). item_of m number e.desc) (option_and_then (λ k. slice_get m.exports k) at)) h
    ∙ ap (option_and_then (λ (e : Export). item_of m number e.desc)) (found_by_name (λ (e : Export). e.name) m.exports q)
    ∙ sym (named_in m number q m.exports d)
