-- What is found of imports, one behind the other.
use Rattle.std.proofs.Common.{◌≡◌, ◌<◌, ◌≤◌, ◌+◌, ℕ, List, [], ◌∷◌, ◌++◌, length, drop, get_or, refl, ap, sym, append-nil, append_assoc}
use Rattle.std.specs.Prelude.{Result, Ok, Err}
use Rattle.std.proofs.lemmas.List.{drop_all, drop_more}
use Rattle.syntax_trees.specs.declared.module.Import.{Import}
use Rattle.comp_tree.specs.declared.core_instances.CoreArgument.{CoreArgument}
use Rattle.link_spec.specs.declared.fault.LinkWhy.{LinkWhy}
use Rattle.link_spec.specs.Definitions.{CoreItem, CoreExport}
use Rattle.link_spec.specs.Items.{argument_named}
use Rattle.link_spec.specs.Computed.{after, found_in, all_found}

-- what is answered of those that are left, behind what is there already
abbrev pub behind : {A : Type 0} → List A → Result (List A) LinkWhy → Result (List A) LinkWhy
behind before (Ok others) = Ok (before ++ others)
behind before (Err w) = Err w

pub behind_none : {A : Type 0} (r : Result (List A) LinkWhy) → r ≡ behind [] r
behind_none (Ok others) = refl
behind_none (Err w) = refl

one_more : {A : Type 0} (before : List A) (x : A) (r : Result (List A) LinkWhy) → behind before (after r (λ others. Ok (x ∷ others))) ≡ behind (before ++ x ∷ []) r
one_more before x (Ok others) = ap Ok (sym (append_assoc before (x ∷ []) others))
one_more before x (Err w) = refl

-- Imports.

pub all_are_found : (instances : List (List CoreExport)) (arguments : List CoreArgument) (items : List CoreItem) (imports : List Import) (at : ℕ) → length imports ≤ at → behind items (all_found instances arguments (drop at imports)) ≡ Ok items
all_are_found instances arguments items imports at h = rw (drop_all at imports h, append-nil items) refl

pub one_found : (instances : List (List CoreExport)) (arguments : List CoreArgument) (items : List CoreItem) (imports : List Import) (d : Import) (at : ℕ) (item : CoreItem) → at < length imports → found_in (get_or imports at d) (argument_named instances (get_or imports at d).module arguments) ≡ Ok item
    → behind items (all_found instances arguments (drop at imports)) ≡ behind (items ++ item ∷ []) (all_found instances arguments (drop (at + 1) imports))
one_found instances arguments items imports d at item h e = rw (drop_more imports at d h, e) (one_more items item (all_found instances arguments (drop (at + 1) imports)))

pub not_found : (instances : List (List CoreExport)) (arguments : List CoreArgument) (items : List CoreItem) (imports : List Import) (d : Import) (at : ℕ) (w : LinkWhy) → at < length imports → found_in (get_or imports at d) (argument_named instances (get_or imports at d).module arguments) ≡ Err w
    → behind items (all_found instances arguments (drop at imports)) ≡ Err w
not_found instances arguments items imports d at w h e = rw (drop_more imports at d h, e) refl
