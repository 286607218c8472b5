-- Index spaces with one index more.
use Rattle.std.proofs.Common.{◌≡◌, ◌∙◌, ℕ, List, [], ◌∷◌, ◌++◌, sym, ap, subst}
use Rattle.std.specs.List.{AllZip}
use Rattle.link_spec.specs.Definitions.{Definition, AFunc, AType, AComponent, AnInstance, AModule, Exports, WithExport}
use Rattle.link_spec.specs.Spaces.{Spaces, with_definition}
use Rattle.link_values.specs.declared.refs.TypeRef.{TypeRef}
use Rattle.link_types.specs.Table.{Table, IsName, IsType}
use Rattle.link_instances.specs.declared.references.InstanceRef.{InstanceRef}
use Rattle.link_instances.specs.declared.references.LiftedRef.{LiftedRef}
use Rattle.link_instances.specs.declared.references.DefinitionRef.{DefinitionRef}
use Rattle.link_instances.specs.declared.references.DefinitionRef.TheVariants as definition_ref
use Rattle.link_instances.specs.References.{World, IsInstance, IsLifted, Stands, listed, IsEntry, IsListing}
use Rattle.link_state.specs.declared.scope.Scope.{Scope}
use Rattle.link_meanings.specs.Levels.{IsClosure}
use Rattle.link_state.specs.State.{IsModule, IsScope}
use Rattle.link_state.proofs.Zips.{zips_more}

-- one export more
pub listing_more : (t : Table) (w : World) (entries : List (ℕ × DefinitionRef)) (exports : Exports) (number : ℕ) (name : List ℕ) (ref : DefinitionRef) (d : Definition)
    → IsListing t w entries exports → IsName t number name → Stands t w ref d → IsListing t w (entries ++ (number, ref) ∷ []) (WithExport exports name d)
listing_more t w entries exports number name ref d h named stands = zips_more (IsEntry t w) entries (listed exports) (number, ref) (name, d) h (named, stands)

-- one definition more
module _ (t : Table) (w : World) (a b : Scope) (s : Spaces) (h : IsScope t w a s) where
  pub func_more : (ref : LiftedRef) (d : Definition) → Stands t w (definition_ref.Func ref) d → b ≡ record a { funcs = b.funcs } → b.funcs.items ≡ a.funcs.items ++ ref ∷ [] → IsScope t w b (with_definition s d)
  func_more ref (AFunc x) stands same is = subst (λ (z : Scope). IsScope t w z (with_definition s (AFunc x))) (sym same) (record {
    core_modules = h.core_modules;
    core_instances = h.core_instances;
    core_funcs = h.core_funcs;
    core_tables = h.core_tables;
    core_memories = h.core_memories;
    core_globals = h.core_globals;
    components = h.components;
    instances = h.instances;
    funcs = subst (λ (items : List LiftedRef). AllZip (IsLifted t) items (s.funcs ++ x ∷ [])) (sym is) (zips_more (IsLifted t) a.funcs.items s.funcs ref x h.funcs stands);
    types = h.types;
    imports = h.imports;
    exports = h.exports;
    export_names = h.export_names;
    arguments = h.arguments;
    around = h.around;
  })
  func_more ref (AType x) stands same is = absurd stands
  func_more ref (AComponent x) stands same is = absurd stands
  func_more ref (AnInstance x) stands same is = absurd stands
  func_more ref (AModule x) stands same is = absurd stands

  pub type_more : (ref : TypeRef) (d : Definition) → Stands t w (definition_ref.Type ref) d → b ≡ record a { types = b.types } → b.types.items ≡ a.types.items ++ ref ∷ [] → IsScope t w b (with_definition s d)
  type_more ref (AType x) stands same is = subst (λ (z : Scope). IsScope t w z (with_definition s (AType x))) (sym same) (record {
    core_modules = h.core_modules;
    core_instances = h.core_instances;
    core_funcs = h.core_funcs;
    core_tables = h.core_tables;
    core_memories = h.core_memories;
    core_globals = h.core_globals;
    components = h.components;
    instances = h.instances;
    funcs = h.funcs;
    types = subst (λ (items : List TypeRef). AllZip (IsType t) items (s.types ++ x ∷ [])) (sym is) (zips_more (IsType t) a.types.items s.types ref x h.types stands);
    imports = h.imports;
    exports = h.exports;
    export_names = h.export_names;
    arguments = h.arguments;
    around = h.around;
  })
  type_more ref (AFunc x) stands same is = absurd stands
  type_more ref (AComponent x) stands same is = absurd stands
  type_more ref (AnInstance x) stands same is = absurd stands
  type_more ref (AModule x) stands same is = absurd stands

  pub component_more : (ref : ℕ) (d : Definition) → Stands t w (definition_ref.Component ref) d → b ≡ record a { components = b.components } → b.components.items ≡ a.components.items ++ ref ∷ [] → IsScope t w b (with_definition s d)
  component_more ref (AComponent x) stands same is = subst (λ (z : Scope). IsScope t w z (with_definition s (AComponent x))) (sym same) (record {
    core_modules = h.core_modules;
    core_instances = h.core_instances;
    core_funcs = h.core_funcs;
    core_tables = h.core_tables;
    core_memories = h.core_memories;
    core_globals = h.core_globals;
    components = subst (λ (items : List ℕ). AllZip (IsClosure w.components) items (s.components ++ x ∷ [])) (sym is) (zips_more (IsClosure w.components) a.components.items s.components ref x h.components stands);
    instances = h.instances;
    funcs = h.funcs;
    types = h.types;
    imports = h.imports;
    exports = h.exports;
    export_names = h.export_names;
    arguments = h.arguments;
    around = h.around;
  })
  component_more ref (AFunc x) stands same is = absurd stands
  component_more ref (AType x) stands same is = absurd stands
  component_more ref (AnInstance x) stands same is = absurd stands
  component_more ref (AModule x) stands same is = absurd stands

  pub instance_more : (ref : InstanceRef) (d : Definition) → Stands t w (definition_ref.Instance ref) d → b ≡ record a { instances = b.instances } → b.instances.items ≡ a.instances.items ++ ref ∷ [] → IsScope t w b (with_definition s d)
  instance_more ref (AnInstance x) stands same is = subst (λ (z : Scope). IsScope t w z (with_definition s (AnInstance x))) (sym same) (record {
    core_modules = h.core_modules;
    core_instances = h.core_instances;
    core_funcs = h.core_funcs;
    core_tables = h.core_tables;
    core_memories = h.core_memories;
    core_globals = h.core_globals;
    components = h.components;
    instances = subst (λ (items : List InstanceRef). AllZip (IsInstance t w) items (s.instances ++ x ∷ [])) (sym is) (zips_more (IsInstance t w) a.instances.items s.instances ref x h.instances stands);
    funcs = h.funcs;
    types = h.types;
    imports = h.imports;
    exports = h.exports;
    export_names = h.export_names;
    arguments = h.arguments;
    around = h.around;
  })
  instance_more ref (AFunc x) stands same is = absurd stands
  instance_more ref (AType x) stands same is = absurd stands
  instance_more ref (AComponent x) stands same is = absurd stands
  instance_more ref (AModule x) stands same is = absurd stands

  pub module_more : (ref : ℕ) (d : Definition) → Stands t w (definition_ref.Module ref) d → b ≡ record a { core_modules = b.core_modules } → b.core_modules.items ≡ a.core_modules.items ++ ref ∷ [] → IsScope t w b (with_definition s d)
  module_more ref (AModule x) stands same is = subst (λ (z : Scope). IsScope t w z (with_definition s (AModule x))) (sym same) (record {
    core_modules = subst (λ (items : List ℕ). AllZip (IsModule w) items (s.core_modules ++ x ∷ [])) (sym is) (zips_more (IsModule w) a.core_modules.items s.core_modules ref x h.core_modules stands);
    core_instances = h.core_instances;
    core_funcs = h.core_funcs;
    core_tables = h.core_tables;
    core_memories = h.core_memories;
    core_globals = h.core_globals;
    components = h.components;
    instances = h.instances;
    funcs = h.funcs;
    types = h.types;
    imports = h.imports;
    exports = h.exports;
    export_names = h.export_names;
    arguments = h.arguments;
    around = h.around;
  })
  module_more ref (AFunc x) stands same is = absurd stands
  module_more ref (AType x) stands same is = absurd stands
  module_more ref (AComponent x) stands same is = absurd stands
  module_more ref (AnInstance x) stands same is = absurd stands

  -- one import more, and one export more, of no definition yet
  pub import_named : (name : List ℕ) → b ≡ record a { imports = b.imports } → b.imports ≡ a.imports ++ name ∷ [] → IsScope t w b (record s { imports = s.imports ++ name ∷ [] })
  import_named name same is = subst (λ (z : Scope). IsScope t w z (record s { imports = s.imports ++ name ∷ [] })) (sym same) (record {
    core_modules = h.core_modules;
    core_instances = h.core_instances;
    core_funcs = h.core_funcs;
    core_tables = h.core_tables;
    core_memories = h.core_memories;
    core_globals = h.core_globals;
    components = h.components;
    instances = h.instances;
    funcs = h.funcs;
    types = h.types;
    imports = ap (λ (names : List (List ℕ)). names ++ name ∷ []) h.imports ∙ sym is;
    exports = h.exports;
    export_names = h.export_names;
    arguments = h.arguments;
    around = h.around;
  })

  pub export_named : (name : List ℕ) (number : ℕ) (ref : DefinitionRef) (d : Definition)
      → b ≡ record a { exports = b.exports; export_names = b.export_names } → b.exports ≡ a.exports ++ (number, ref) ∷ [] → b.export_names ≡ a.export_names ++ name ∷ []
      → IsName t number name → Stands t w ref d → IsScope t w b (record s { exports = WithExport s.exports name d })
  export_named name number ref d same entries names named stands = subst (λ (z : Scope). IsScope t w z (record s { exports = WithExport s.exports name d })) (sym same) (record {
    core_modules = h.core_modules;
    core_instances = h.core_instances;
    core_funcs = h.core_funcs;
    core_tables = h.core_tables;
    core_memories = h.core_memories;
    core_globals = h.core_globals;
    components = h.components;
    instances = h.instances;
    funcs = h.funcs;
    types = h.types;
    imports = h.imports;
    exports = subst (λ (es : List (ℕ × DefinitionRef)). IsListing t w es (WithExport s.exports name d)) (sym entries) (listing_more t w a.exports s.exports number name ref d h.exports named stands);
    export_names = ap (λ (names : List (List ℕ)). names ++ name ∷ []) h.export_names ∙ sym names;
    arguments = h.arguments;
    around = h.around;
  })
