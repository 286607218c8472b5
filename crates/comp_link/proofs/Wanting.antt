-- What an import or an export comes to, behind what a definition is seen as.
use Rattle.std.proofs.Common.{◌≡◌, ◌<◌, ◌≤◌, ℕ, Bool, true, false, not, List, refl, ap, subst, Option, Some, None}
use Rattle.std.specs.Prelude.{Result, Ok, Err}
use Rattle.std.specs.Option.{option_and_then}
use Rattle.syntax_trees.specs.Names.{is_among}
use Rattle.faults.specs.declared.memory.MemoryOr.{MemoryOr}
use Rattle.faults.specs.declared.memory.MemoryOr.TheVariants as memory
use Rattle.comp_tree.specs.declared.externs.ExternDesc.{ExternDesc}
use Rattle.comp_tree.specs.declared.externs.ExternDesc.TheVariants as desc
use Rattle.comp_tree.specs.declared.externs.Export as read
use Rattle.comp_graph.specs.Closed.{Closed, Extern}
use Rattle.link_spec.specs.declared.fault.LinkWhy.{LinkWhy}
use Rattle.link_spec.specs.declared.fault.LinkWhy.TheVariants as why
use Rattle.link_spec.specs.Definitions.{Definition, Exports, export_names, export_named, lacks}
use Rattle.link_spec.specs.Brought.{asked_of}
use Rattle.link_spec.specs.Types.{Meaning}
use Rattle.link_spec.specs.Spaces.{Spaces, Linking, size_of, definition_at}
use Rattle.link_spec.specs.Items.{lacking, said, type_made}
use Rattle.link_spec.specs.Tests.{root_may_import, is_of_types}
use Rattle.link_spec.specs.Computed.{Outcome, Makes, root_given, after, there_or, only_if, none_missing, as_asked, type_outcome, import_outcome, export_outcome}
use Rattle.link_types.specs.Table.{Table}
use Rattle.link_values.specs.declared.refs.InstanceTypeRef.{InstanceTypeRef}
use Rattle.link_instances.specs.declared.references.DefinitionRef.{DefinitionRef}
use Rattle.link_instances.specs.References.{World, Stands}
use Rattle.link_parts.specs.Told.{IsReason, IsTold}
use Rattle.link_state.proofs.Loops.{lt_true, lt_false}
use Rattle.comp_link.specs.Ready.{as_wanted, IsSeen, IsTypesOf, IsGiven, imported, exported}

-- what is answered where a name stands there already or what is wanted is not what is there
abbrev pub wants : Option (List ℕ) → Bool → Result Definition LinkWhy → (Definition → Outcome) → Result Outcome LinkWhy
wants lacks among x make = none_missing lacks (only_if (not among) why.Typing (after x (λ d. Ok (make d))))

wants_is : (lacks : Option (List ℕ)) (among : Bool) (x : Result Definition LinkWhy) (make : Definition → Outcome) (d : Definition) → lacks ≡ None → among ≡ false → x ≡ Ok d → wants lacks among x make ≡ Ok (make d)
wants_is lacks among x make d none free is = rw (none, free, is) refl

wants_typing : (lacks : Option (List ℕ)) (among : Bool) (x : Result Definition LinkWhy) (make : Definition → Outcome) → lacks ≡ None → among ≡ false → x ≡ Err why.Typing → wants lacks among x make ≡ Err why.Typing
wants_typing lacks among x make none free is = rw (none, free, is) refl

wants_twice : (lacks : Option (List ℕ)) (among : Bool) (x : Result Definition LinkWhy) (make : Definition → Outcome) → lacks ≡ None → among ≡ true → wants lacks among x make ≡ Err why.Typing
wants_twice lacks among x make none taken = rw (none, taken) refl

-- a name is missing
missing_first : (lacks : Option (List ℕ)) (x : Result Definition LinkWhy) (make : Definition → Outcome) (among : Bool) (e : MemoryOr LinkWhy) → IsReason e (none_missing lacks (Ok x)) → IsReason e (wants lacks among x make)
missing_first lacks x make among memory.Memory h = tt
missing_first None x make among (memory.Fault v) h = absurd h
missing_first (Some name) x make among (memory.Fault v) h = h

module _ (t : Table) (w : World) where
  seen_ok : (o : Option DefinitionRef) (lacks : Option (List ℕ)) (x : Result Definition LinkWhy) → IsTold (IsSeen t w) (Ok o) (none_missing lacks (Ok x)) → (lacks ≡ None) × IsSeen t w o x
  seen_ok o None x h = (refl, h)
  seen_ok o (Some name) x h = absurd h

  seen_none : (x : Result Definition LinkWhy) → IsSeen t w None x → x ≡ Err why.Typing
  seen_none (Ok d) h = absurd h
  seen_none (Err v) h = ap (λ (v : LinkWhy). Err v) h

  seen_some : (ref : DefinitionRef) (x : Result Definition LinkWhy) → IsSeen t w (Some ref) x → (d : Definition) × (x ≡ Ok d) × Stands t w ref d
  seen_some ref (Ok d) h = (d, refl, h)
  seen_some ref (Err v) h = absurd h

module _ (t : Table) (w : World) (lacks : Option (List ℕ)) (x : Result Definition LinkWhy) (make : Definition → Outcome) (among : Bool)
    (result : Result (Option DefinitionRef) (MemoryOr LinkWhy)) (told : IsTold (IsSeen t w) result (none_missing lacks (Ok x))) where
  pub wants_err : (e : MemoryOr LinkWhy) → result ≡ Err e → IsReason e (wants lacks among x make)
  wants_err e is = missing_first lacks x make among e (subst (λ (r : Result (Option DefinitionRef) (MemoryOr LinkWhy)). IsTold (IsSeen t w) r (none_missing lacks (Ok x))) is told)

  there : (o : Option DefinitionRef) → result ≡ Ok o → (lacks ≡ None) × IsSeen t w o x
  there o is = seen_ok t w o lacks x (subst (λ (r : Result (Option DefinitionRef) (MemoryOr LinkWhy)). IsTold (IsSeen t w) r (none_missing lacks (Ok x))) is told)

  -- the name stands there already
  pub wants_among : (o : Option DefinitionRef) → result ≡ Ok o → among ≡ true → wants lacks among x make ≡ Err why.Typing
  wants_among o is taken = wants_twice lacks among x make (there o is).0 taken

  -- it is not what is wanted
  pub wants_none : (o : Option DefinitionRef) → result ≡ Ok o → o ≡ None → among ≡ false → wants lacks among x make ≡ Err why.Typing
  wants_none o is none free =
      let p = there o is in
      wants_typing lacks among x make p.0 free (seen_none t w x (subst (λ (o : Option DefinitionRef). IsSeen t w o x) none p.1))

  -- it is
  pub wants_some : (o : Option DefinitionRef) (ref : DefinitionRef) → result ≡ Ok o → o ≡ Some ref → among ≡ false → (d : Definition) × (wants lacks among x make ≡ Ok (make d)) × Stands t w ref d
  wants_some o ref is some free =
      let p = there o is in
      let q = seen_some t w ref x (subst (λ (o : Option DefinitionRef). IsSeen t w o x) some p.1) in
      (q.0, wants_is lacks among x make q.0 p.0 free q.1, q.2)

-- Exports.

said_lacking : (d : Definition) (name : List ℕ) (m : Option Extern) → option_and_then (λ extern. lacks (Some d) name (asked_of d extern)) m ≡ lacking (Some d) name m
said_lacking d name None = refl
said_lacking d name (Some x) = refl

as_wanted_is : (d : Definition) (m : Option Extern) → after (there_or why.Typing m) (λ extern. as_asked d extern) ≡ as_wanted d m
as_wanted_is d None = refl
as_wanted_is d (Some x) = refl

module _ (l : Linking) (n : ℕ) (s : Spaces) (e : read.Export) where
  pub export_index : size_of s e.sort ≤ e.index → export_outcome l n s e ≡ Err why.Index
  export_index h = rw (lt_false e.index (size_of s e.sort) h) refl

  -- an export that does not say what it is
  pub plain_none : e.index < size_of s e.sort → e.desc ≡ None → definition_at s e.sort e.index ≡ None → export_outcome l n s e ≡ Err why.Typing
  plain_none h plain none = rw (lt_true e.index (size_of s e.sort) h, plain, none) refl

  pub plain_among : e.index < size_of s e.sort → e.desc ≡ None → (d : Definition) → definition_at s e.sort e.index ≡ Some d → is_among e.name (export_names s.exports) ≡ true → export_outcome l n s e ≡ Err why.Typing
  plain_among h plain d there is = rw (lt_true e.index (size_of s e.sort) h, plain, there, is) refl

  pub plain_some : e.index < size_of s e.sort → e.desc ≡ None → (d : Definition) → definition_at s e.sort e.index ≡ Some d → is_among e.name (export_names s.exports) ≡ false → export_outcome l n s e ≡ Ok (exported l n s e.name d)
  plain_some h plain d there is = rw (lt_true e.index (size_of s e.sort) h, plain, there, is) refl

  -- an export that says what it is
  module _ (meaning : Meaning Extern) (says : said s e ≡ Some meaning) (h : e.index < size_of s e.sort) where
    pub said_absent : meaning.is_there ≡ false → export_outcome l n s e ≡ Err why.Index
    said_absent absent = rw (lt_true e.index (size_of s e.sort) h, says, absent) refl

    pub said_none : meaning.is_there ≡ true → definition_at s e.sort e.index ≡ None → export_outcome l n s e ≡ Err why.Typing
    said_none there none = rw (lt_true e.index (size_of s e.sort) h, says, there, none) refl

    pub said_some : meaning.is_there ≡ true → (d : Definition) → definition_at s e.sort e.index ≡ Some d
        → export_outcome l n s e ≡ wants (lacking (Some d) e.name meaning.means) (is_among e.name (export_names s.exports)) (as_wanted d meaning.means) (exported l n s e.name)
    said_some there d is =
        rw (lt_true e.index (size_of s e.sort) h, says, there, is, said_lacking d e.name meaning.means, as_wanted_is d meaning.means) refl

-- Imports.

wanted_then : (d : Definition) (name : List ℕ) (m : Option Extern) (make : Definition → Result Outcome LinkWhy)
    → after (there_or why.Typing m) (λ extern. after (there_or (why.Missing name) (Some d)) (λ x. after (as_asked x extern) make)) ≡ after (as_wanted d m) make
wanted_then d name None make = refl
wanted_then d name (Some x) make = refl

module _ (l : Linking) (n : ℕ) (s : Spaces) (name : List ℕ) (meaning : Meaning Extern) (desc : ExternDesc) (given : Exports) where
  pub given_absent : meaning.is_there ≡ false → import_outcome l n s name meaning desc (Some given) ≡ Err why.Index
  given_absent absent = rw absent refl

  pub given_none : meaning.is_there ≡ true → export_named name given ≡ None → import_outcome l n s name meaning desc (Some given) ≡ Err (why.Missing name)
  given_none there none = rw (there, none) refl

  pub given_some : meaning.is_there ≡ true → (d : Definition) → export_named name given ≡ Some d
      → import_outcome l n s name meaning desc (Some given) ≡ wants (lacking (Some d) name meaning.means) (is_among name s.imports) (as_wanted d meaning.means) (imported l n s name)
  given_some there d is = rw (there, is, wanted_then d name meaning.means (λ x. Ok (imported l n s name x))) refl

-- Types.

module _ (l : Linking) (n : ℕ) (s : Spaces) (meaning : Meaning Closed) (closed : Closed) (there : meaning.is_there ≡ true) (none : meaning.missing ≡ None) (is : meaning.means ≡ Some closed) where
  pub type_told : meaning.deep ≡ false → meaning.has_room ≡ true → type_outcome l n s meaning ≡ Ok (Makes (type_made l n s true closed))
  type_told shallow room = rw (there, none, is, shallow, room) refl

  pub type_deep : meaning.deep ≡ true → type_outcome l n s meaning ≡ Err why.Limit
  type_deep deep = rw (there, none, is, deep) refl

-- What the root imports.

pub root_told : (t : Table) (make : Definition → Outcome) (result : Result InstanceTypeRef (MemoryOr LinkWhy)) (x : Result Definition LinkWhy)
    → IsTold (IsTypesOf t) result x → IsTold (IsGiven t make) result (after x (λ d. Ok (make d)))
root_told t make (Ok ref) (Ok d) h = (h.0, h.1, h.2, ap make h.3)
root_told t make (Ok ref) (Err w) h = absurd h
root_told t make (Err memory.Memory) x h = tt
root_told t make (Err (memory.Fault w)) (Ok d) h = absurd h
root_told t make (Err (memory.Fault w)) (Err v) h = h

-- what the root may import asks for types alone
pub root_types : (asked : ExternDesc) (meaning : Option Extern) (extern : Extern) → meaning ≡ Some extern → root_may_import asked meaning ≡ true → is_of_types extern ≡ true
root_types (desc.Instance index) meaning extern is may = subst (λ (m : Option Extern). root_may_import (desc.Instance index) m ≡ true) is may
root_types (desc.Func index) meaning extern is may = cc
root_types (desc.TypeEq index) meaning extern is may = cc
root_types desc.Resource meaning extern is may = cc

module _ (l : Linking) (n : ℕ) (s : Spaces) (name : List ℕ) (meaning : Meaning Extern) (desc : ExternDesc) where
  pub root_refused : root_may_import desc meaning.means ≡ false → import_outcome l n s name meaning desc None ≡ Err why.RootImport
  root_refused refused = rw refused refl

  pub root_absent : root_may_import desc meaning.means ≡ true → meaning.is_there ≡ false → import_outcome l n s name meaning desc None ≡ Err why.Index
  root_absent may absent = rw (may, absent) refl

  pub root_among : root_may_import desc meaning.means ≡ true → meaning.is_there ≡ true → is_among name s.imports ≡ true → import_outcome l n s name meaning desc None ≡ Err why.Typing
  root_among may there taken = rw (may, there, taken) refl

  pub root_none : root_may_import desc meaning.means ≡ true → meaning.is_there ≡ true → is_among name s.imports ≡ false → meaning.means ≡ None → import_outcome l n s name meaning desc None ≡ Err why.Typing
  root_none may there free none = rw (may, there, free, none) refl

  pub root_some : root_may_import desc meaning.means ≡ true → meaning.is_there ≡ true → is_among name s.imports ≡ false → (extern : Extern) → meaning.means ≡ Some extern
      → import_outcome l n s name meaning desc None ≡ after (root_given extern) (λ d. Ok (imported l n s name d))
  root_some may there free extern is = rw (may, there, free, is) refl
