-- A module that is read is read to its end, and matches.
use Rattle.std.proofs.Common.{◌≡◌, ℕ, List, [], ◌∷◌, refl, sym, ◌∙◌, ap, Bool, true, false, Option, Some, None, subst}
use Rattle.std.specs.Prelude.{◌&&◌, nat_le}
use Rattle.std.specs.Bool.{MatchBool}
use Rattle.ca_base.specs.Span.{Span}
use Rattle.ca_base.specs.Grammar.{Matches, next_byte}
use Rattle.ca_base.proofs.Laws.{matches_past, decided}
use Rattle.ca_base.proofs.Places.{matches_end, at_its_end}
use Rattle.ca_base.proofs.Whole.{whole_decided}
use Rattle.wasm_typing.specs.declared.module_places.ModuleParts.{ModuleParts}
use Rattle.wasm_code_reader.specs.declared.fault.ModuleWhy.{ModuleWhy}
use Rattle.wasm_reader.specs.declared.declared.DeclaredFunc.{DeclaredFunc}
use Rattle.wasm_reader.specs.declared.declared.Contents.{Contents}
use Rattle.wasm_reader.specs.Binary.{the_module, contents, ends, is_there, module_end, no_section, file, file_end}
use Rattle.wasm_reader.specs.Laws.{OneReading}

none_left : (bytes : List ℕ) → None ≡ next_byte bytes → bytes ≡ []
none_left [] h = refl
none_left (b ∷ bytes) h = cc

nothing_matches : (b : Bool) → MatchBool b ⊥ ⊥ → ⊥
nothing_matches true m = m
nothing_matches false m = m

-- Where a module may end, no byte is left.
ends_there : (place : ℕ) (next : Option ℕ) (s : Span ModuleWhy) (x : Unit {0}) (t : Span ModuleWhy) → next ≡ next_byte s.bytes → Matches (no_section place next) s x t → t.bytes ≡ []
ends_there place None s x t h m = ap (λ (u : Span ModuleWhy). u.bytes) m.1 ∙ none_left s.bytes h
ends_there place (Some id) s x t h m = absurd (nothing_matches (nat_le 1 id && nat_le id 12) m)

module_end_matches : (s : Span ModuleWhy) (x : Unit {0}) (t : Span ModuleWhy) → Matches module_end s x t → t.bytes ≡ []
unfolding module_end
module_end_matches s x t m =
    let tail = m.3.3 in
    let next : tail.0 ≡ next_byte tail.1.bytes = tail.2.0 ∙ ap (λ (u : Span ModuleWhy). next_byte u.bytes) (sym tail.2.1) in
    ends_there m.3.0 tail.0 tail.1 x t next tail.3

-- only the first of two cases is possible
first_case : (b : Bool) (P : Type 0) → MatchBool b P ⊥ → P
first_case true P m = m
first_case false P m = absurd m

ends_match : {A B : Type 0} (functions counted : ℕ) (codes : Option A) (segments : Option B) (s : Span ModuleWhy) (x : Unit {0}) (t : Span ModuleWhy) → Matches (ends functions codes counted segments) s x t → t.bytes ≡ []
unfolding ends
ends_match functions counted codes segments s x t m =
    let left = module_end_matches s m.0 m.1 m.2 in
    let given = first_case (is_there functions codes && is_there counted segments) _ m.3.3 in
    let same : t ≡ m.1 = given.1 ∙ m.3.2.1 in
    subst (λ (u : Span ModuleWhy). u.bytes ≡ []) (sym same) left

contents_match : (declared : List DeclaredFunc) (s : Span ModuleWhy) (x : Contents) (t : Span ModuleWhy) → Matches (contents declared) s x t → t.bytes ≡ []
unfolding contents
contents_match declared s x t m =
    let tail = m.3.3.3 in
    subst (λ (u : Span ModuleWhy). u.bytes ≡ []) (sym tail.3.1) (ends_match _ _ _ _ _ tail.0 tail.1 tail.2)

pub matches_whole : (bytes : List ℕ) (base : ℕ) (m : ModuleParts) (t : Span ModuleWhy) → Matches the_module (file bytes base) m t → t ≡ file_end bytes base
unfolding the_module
matches_whole bytes base m t h =
    let tail = h.3.3.3.3 in
    let left : t.bytes ≡ [] = subst (λ (u : Span ModuleWhy). u.bytes ≡ []) (sym tail.3.1) (contents_match _ _ _ _ tail.2) in
    at_its_end (file bytes base) t (matches_end the_module (file bytes base) m t h) (matches_past the_module (file bytes base) m t h) left

pub one_reading : OneReading
one_reading bytes base = whole_decided the_module (file bytes base) (file_end bytes base) (matches_whole bytes base) (decided the_module (file bytes base))
