-- What all imports are, by those that were looked up and those that are left.
use Rattle.std.proofs.Common.{◌≡◌, ◌<◌, ℕ, suc, List, [], ◌∷◌, ◌++◌, length, map, drop, get_or, drop-cons, refl, ap, sym, ◌∙◌, append_assoc, append-nil, Option, Some, None}
use Rattle.std.specs.Option.{option_map, option_and_then}
use Rattle.std.proofs.lemmas.List.{map-append}
use Rattle.wasm_store.specs.Store.{Store}
use Rattle.wasm_store.specs.Instantiation.{External as Address}
use Rattle.wasm_store.specs.Views.{address_of}
use Rattle.wasm_code.specs.declared.instance.External.{External}
use Rattle.comp_graph.specs.declared.graph.CoreExtern.{CoreExtern}
use Rattle.world_stacks.specs.Addresses.{external_of, externals}

-- behind what was found
abbrev pub found_and : List Address → Option (List Address) → Option (List Address)
found_and found rest = option_map (λ more. found ++ more) rest

same : (o : Option (List Address)) → o ≡ found_and [] o
same None = refl
same (Some xs) = refl

pub none_yet : (s : Store) (imports : List CoreExtern) (found : List External) → found ≡ [] → externals s imports ≡ option_map (λ more. map address_of found ++ more) (externals s imports)
none_yet s imports found e = same (externals s imports) ∙ ap (λ (xs : List External). option_map (λ more. map address_of xs ++ more) (externals s imports)) (sym e)

step : (found : List Address) (x : Address) (o : Option (List Address)) → found_and found (option_map (λ more. x ∷ more) o) ≡ found_and (found ++ x ∷ []) o
step found x None = refl
step found x (Some more) = ap (λ ys. let o : Option (List Address) = Some ys in o) (sym (append_assoc found (x ∷ []) more))

stepped : (s : Store) (found : List Address) (e : CoreExtern) (others : List CoreExtern) (x : Address) → external_of s e ≡ Some x
    → found_and found (externals s (e ∷ others)) ≡ found_and (found ++ x ∷ []) (externals s others)
stepped s found e others x h =
    ap (λ (o : Option Address). found_and found (option_and_then (λ first. option_map (λ more. first ∷ more) (externals s others)) o)) h ∙ step found x (externals s others)

missing : (s : Store) (found : List Address) (e : CoreExtern) (others : List CoreExtern) → external_of s e ≡ None → found_and found (externals s (e ∷ others)) ≡ None
missing s found e others h =
    ap (λ (o : Option Address). found_and found (option_and_then (λ first. option_map (λ more. first ∷ more) (externals s others)) o)) h

pub one_more : (s : Store) (imports : List CoreExtern) (at : ℕ) (e : CoreExtern) (found new : List External) (x : External) → at < length imports → e ≡ get_or imports at e
    → option_map address_of (let o : Option External = Some x in o) ≡ external_of s e → new ≡ found ++ x ∷ []
    → externals s imports ≡ option_map (λ more. map address_of found ++ more) (externals s (drop at imports))
    → externals s imports ≡ option_map (λ more. map address_of new ++ more) (externals s (drop (suc at) imports))
one_more s imports at e found new x here is there grown before =
    before ∙ ap (λ (xs : List CoreExtern). found_and (map address_of found) (externals s xs)) (drop-cons imports at e here ∙ ap (λ (y : CoreExtern). y ∷ drop (suc at) imports) (sym is))
    ∙ stepped s (map address_of found) e (drop (suc at) imports) (address_of x) (sym there)
    ∙ ap (λ (ys : List Address). found_and ys (externals s (drop (suc at) imports))) (sym (ap (map address_of) grown ∙ map-append address_of found (x ∷ [])))

pub one_missing : (s : Store) (imports : List CoreExtern) (at : ℕ) (e : CoreExtern) (found : List External) → at < length imports → e ≡ get_or imports at e
    → option_map address_of (let o : Option External = None in o) ≡ external_of s e
    → externals s imports ≡ option_map (λ more. map address_of found ++ more) (externals s (drop at imports)) → externals s imports ≡ None
one_missing s imports at e found here is there before =
    before ∙ ap (λ (xs : List CoreExtern). found_and (map address_of found) (externals s xs)) (drop-cons imports at e here ∙ ap (λ (y : CoreExtern). y ∷ drop (suc at) imports) (sym is))
    ∙ missing s (map address_of found) e (drop (suc at) imports) (sym there)

pub all_there : (s : Store) (imports : List CoreExtern) (at : ℕ) (found : List External) → drop at imports ≡ []
    → externals s imports ≡ option_map (λ more. map address_of found ++ more) (externals s (drop at imports)) → externals s imports ≡ Some (map address_of found)
all_there s imports at found none before =
    before ∙ ap (λ (xs : List CoreExtern). found_and (map address_of found) (externals s xs)) none ∙ ap (λ ys. let o : Option (List Address) = Some ys in o) (append-nil (map address_of found))
