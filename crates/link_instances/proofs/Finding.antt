-- What a table of instances finds under the number of a name.
use Rattle.std.proofs.Common.{◌≡◌, ◌≤◌, ℕ, List, length, sym, subst, arith, Option, Some, None}
use Rattle.std.specs.List.{slice_get}
use Rattle.std.proofs.lemmas.Option.{slice_get_past}
use Rattle.comp_graph.specs.Closed.{Externs, extern_named}
use Rattle.link_spec.specs.Definitions.{Exports, export_named}
use Rattle.link_values.specs.declared.refs.InstanceTypeRef.{InstanceTypeRef}
use Rattle.link_values.specs.declared.refs.ExternRef.{ExternRef}
use Rattle.link_instances.specs.declared.references.InstanceRef.{InstanceRef}
use Rattle.link_instances.specs.declared.references.DefinitionRef.{DefinitionRef}
use Rattle.link_types.specs.Numbering.{AreApart}
use Rattle.link_types.specs.Table.{Table, IsInstanceType, MayBeExtern, MayBeEntry, in_order}
use Rattle.link_instances.specs.References.{World, IsInstance, IsFound, AreBases, seen_found, found_at}
use Rattle.link_instances.proofs.Asking.{is_asked}
use Rattle.link_instances.proofs.Named.{base_lacks, base_has, view_has}
use Rattle.link_instances.proofs.Growing.{base_found}

module _ (t : Table) (w : World) (listings : List (List (ℕ × DefinitionRef))) (are : AreBases t w listings) (apart : AreApart t.texts)
    (i : InstanceRef) (exports : Exports) (h : IsInstance t w i exports) (n : ℕ) (q : List ℕ) (text : slice_get t.texts n ≡ Some q)
    (o : Option DefinitionRef) (found : o ≡ found_at listings i.base n) where
  in_base : IsFound t w o (export_named q h.base)
  in_base = subst (λ (o : Option DefinitionRef). IsFound t w o (export_named q h.base)) (sym found) (base_found t w listings are apart i exports h n q text)

  pub lacks : o ≡ None → export_named q exports ≡ None
  lacks none = base_lacks t w q i exports h (subst (λ (o : Option DefinitionRef). IsFound t w o (export_named q h.base)) none in_base)

  pub has : (d : DefinitionRef) → o ≡ Some d → i.seen_as ≡ None → IsFound t w (Some d) (export_named q exports)
  has d is plain = base_has t w q i exports (Some d) h plain (subst (λ (o : Option DefinitionRef). IsFound t w o (export_named q h.base)) is in_base)

  pub sees : (d : DefinitionRef) (r : InstanceTypeRef) (x : Option ExternRef) → o ≡ Some d → i.seen_as ≡ Some r
      → ((asked : Externs) → IsInstanceType t r asked → MayBeExtern t x (extern_named q asked)) → IsFound t w (seen_found (Some d) x) (export_named q exports)
  sees d r x is seen asked =
      view_has t w q i exports (Some d) x h r seen (subst (λ (o : Option DefinitionRef). IsFound t w o (export_named q h.base)) is in_base) (λ wanted type. is_asked t x (extern_named q wanted) (asked wanted type))

-- Behind all that a type asks for it asks for nothing.
pub none_behind : (t : Table) (asked : Externs) (at count : ℕ) → count ≡ length (in_order asked) → count ≤ at → MayBeEntry t None (slice_get (in_order asked) at)
none_behind t asked at count is past = let long : length (in_order asked) ≤ at = omega (arith, is, past) in rw (slice_get_past (in_order asked) at long) tt
