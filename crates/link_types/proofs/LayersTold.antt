-- Where no text, no value type and no layer stands twice, layers that stand for the same have one number, and one number stands for one tree.
use Rattle.std.proofs.Common.{◌≡◌, ℕ, List, [], ◌∷◌, refl, ap, sym, ◌∙◌, subst, Some, None, Option}
use Rattle.std.specs.List.{slice_get}
use Rattle.syntax_trees.specs.declared.types.ValType.{ValType}
use Rattle.syntax_trees.specs.declared.types.Param.{Param}
use Rattle.syntax_trees.specs.declared.types.FuncType.{FuncType}
use Rattle.comp_graph.specs.Closed.{Closed, Value, Func, Resource, Instance, Extern, OfFunc, OfType, OfInstance, Externs, EmptyType, WithExtern}
use Rattle.link_values.specs.declared.layers.TypeLayer.{TypeLayer}
use Rattle.link_values.specs.declared.layers.TypeLayer.TheVariants as of_type
use Rattle.link_values.specs.declared.layers.ExternLayer.{ExternLayer}
use Rattle.link_values.specs.declared.layers.ExternLayer.TheVariants as of_extern
use Rattle.link_values.specs.declared.layers.Layer.{Layer}
use Rattle.link_values.specs.declared.layers.Layer.TheVariants as layer
use Rattle.link_types.specs.Numbering.{AreApart}
use Rattle.link_types.specs.Layered.{MayBeValue, IsParams, IsFuncLayer, IsExternsLayer, IsExternLayer, IsTypeLayer}

-- Numbers of one value type that may be absent, and the value type of one number.
may_be_one : (values : List ValType) → AreApart values → (x y : Option ℕ) (type : Option ValType) → MayBeValue values x type → MayBeValue values y type → x ≡ y
may_be_one values apart None None None h g = refl
may_be_one values apart None (Some y) None h g = absurd g
may_be_one values apart (Some x) y None h g = absurd h
may_be_one values apart (Some x) (Some y) (Some type) h g = ap (λ (k : ℕ). Some k) (apart x y type h g)
may_be_one values apart (Some x) None (Some type) h g = absurd g
may_be_one values apart None y (Some type) h g = absurd h

value_told : (values : List ValType) (n : ℕ) (type other : ValType) → slice_get values n ≡ Some type → slice_get values n ≡ Some other → type ≡ other
value_told values n type other h g = let e : ◌≡◌ {A = Option ValType} (Some type) (Some other) = sym h ∙ g in cc

may_be_told : (values : List ValType) (x : Option ℕ) (type other : Option ValType) → MayBeValue values x type → MayBeValue values x other → type ≡ other
may_be_told values None None None h g = refl
may_be_told values None None (Some other) h g = absurd g
may_be_told values None (Some type) other h g = absurd h
may_be_told values (Some x) (Some type) (Some other) h g = ap (λ (t : ValType). Some t) (value_told values x type other h g)
may_be_told values (Some x) (Some type) None h g = absurd g
may_be_told values (Some x) None other h g = absurd h

param_same : (p q : Param) → p.label ≡ q.label → p.val_type ≡ q.val_type → p ≡ q
param_same p q e f =
    ap (λ (l : List ℕ). (let x : Param = record { label = l; val_type = p.val_type } in x)) e
    ∙ ap (λ (v : ValType). (let x : Param = record { label = q.label; val_type = v } in x)) f

func_same : (f g : FuncType) → f.params ≡ g.params → f.result ≡ g.result → f ≡ g
func_same f g e h =
    ap (λ (ps : List Param). (let x : FuncType = record { params = ps; result = f.result } in x)) e
    ∙ ap (λ (r : Option ValType). (let x : FuncType = record { params = g.params; result = r } in x)) h

module _ (texts : List (List ℕ)) (values : List ValType) (layers : List Layer) (names_apart : AreApart texts) (values_apart : AreApart values) (layers_apart : AreApart layers) where
  pub params_one : (m n : ℕ) (params : List Param) → IsParams texts values layers m params → IsParams texts values layers n params → m ≡ n
  params_one m n [] h g = layers_apart m n layer.NoParams h g
  params_one m n (p ∷ params) h g =
      let a : h.2 ≡ g.2 = params_one h.2 g.2 params h.6 g.6 in
      let b : h.0 ≡ g.0 = names_apart h.0 g.0 p.label h.4 g.4 in
      let d : h.1 ≡ g.1 = values_apart h.1 g.1 p.val_type h.5 g.5 in
      let e : slice_get layers n ≡ Some (layer.Param h.0 h.1 h.2) = rw (a, b, d) g.3 in
      layers_apart m n (layer.Param h.0 h.1 h.2) h.3 e

  pub func_one : (m n : ℕ) (type : FuncType) → IsFuncLayer texts values layers m type → IsFuncLayer texts values layers n type → m ≡ n
  func_one m n type h g =
      let a : h.0 ≡ g.0 = params_one h.0 g.0 type.params h.3 g.3 in
      let b : h.1 ≡ g.1 = may_be_one values values_apart h.1 g.1 type.result h.4 g.4 in
      let e : slice_get layers n ≡ Some (layer.Func h.0 h.1) = rw (a, b) g.2 in
      layers_apart m n (layer.Func h.0 h.1) h.2 e

  mutual
    pub externs_one : (m n : ℕ) (externs : Externs) → IsExternsLayer texts values layers m externs → IsExternsLayer texts values layers n externs → m ≡ n
    externs_one m n EmptyType h g = layers_apart m n layer.NoExterns h g
    externs_one m n (WithExtern others name extern) h g =
        let a : h.0 ≡ g.0 = externs_one h.0 g.0 others h.4 g.4 in
        let b : h.1 ≡ g.1 = names_apart h.1 g.1 name h.5 g.5 in
        let d : h.2 ≡ g.2 = extern_one h.2 g.2 extern h.6 g.6 in
        let e : slice_get layers n ≡ Some (layer.Extern h.0 h.1 h.2) = rw (a, b, d) g.3 in
        layers_apart m n (layer.Extern h.0 h.1 h.2) h.3 e

    pub extern_one : (x y : ExternLayer) (extern : Extern) → IsExternLayer texts values layers x extern → IsExternLayer texts values layers y extern → x ≡ y
    extern_one (of_extern.Func m) (of_extern.Func n) (OfFunc type) h g = ap (λ (k : ℕ). of_extern.Func k) (func_one m n type h g)
    extern_one (of_extern.Func m) (of_extern.Type y) (OfFunc type) h g = absurd g
    extern_one (of_extern.Func m) (of_extern.Instance n) (OfFunc type) h g = absurd g
    extern_one (of_extern.Type x) y (OfFunc type) h g = absurd h
    extern_one (of_extern.Instance m) y (OfFunc type) h g = absurd h
    extern_one (of_extern.Type x) (of_extern.Type y) (OfType closed) h g = ap (λ (k : TypeLayer). of_extern.Type k) (type_one x y closed h g)
    extern_one (of_extern.Type x) (of_extern.Func n) (OfType closed) h g = absurd g
    extern_one (of_extern.Type x) (of_extern.Instance n) (OfType closed) h g = absurd g
    extern_one (of_extern.Func m) y (OfType closed) h g = absurd h
    extern_one (of_extern.Instance m) y (OfType closed) h g = absurd h
    extern_one (of_extern.Instance m) (of_extern.Instance n) (OfInstance externs) h g = ap (λ (k : ℕ). of_extern.Instance k) (externs_one m n externs h g)
    extern_one (of_extern.Instance m) (of_extern.Func n) (OfInstance externs) h g = absurd g
    extern_one (of_extern.Instance m) (of_extern.Type y) (OfInstance externs) h g = absurd g
    extern_one (of_extern.Func m) y (OfInstance externs) h g = absurd h
    extern_one (of_extern.Type x) y (OfInstance externs) h g = absurd h

    pub type_one : (x y : TypeLayer) (closed : Closed) → IsTypeLayer texts values layers x closed → IsTypeLayer texts values layers y closed → x ≡ y
    type_one (of_type.Value x) (of_type.Value y) (Value v) h g = ap (λ (k : ℕ). of_type.Value k) (values_apart x y v h g)
    type_one (of_type.Value x) (of_type.Func n) (Value v) h g = absurd g
    type_one (of_type.Value x) (of_type.Resource n) (Value v) h g = absurd g
    type_one (of_type.Value x) (of_type.Instance n) (Value v) h g = absurd g
    type_one (of_type.Func m) y (Value v) h g = absurd h
    type_one (of_type.Resource m) y (Value v) h g = absurd h
    type_one (of_type.Instance m) y (Value v) h g = absurd h
    type_one (of_type.Func m) (of_type.Func n) (Func type) h g = ap (λ (k : ℕ). of_type.Func k) (func_one m n type h g)
    type_one (of_type.Func m) (of_type.Value y) (Func type) h g = absurd g
    type_one (of_type.Func m) (of_type.Resource n) (Func type) h g = absurd g
    type_one (of_type.Func m) (of_type.Instance n) (Func type) h g = absurd g
    type_one (of_type.Value x) y (Func type) h g = absurd h
    type_one (of_type.Resource m) y (Func type) h g = absurd h
    type_one (of_type.Instance m) y (Func type) h g = absurd h
    type_one (of_type.Resource m) (of_type.Resource n) (Resource number) h g = ap (λ (k : ℕ). of_type.Resource k) (h ∙ sym g)
    type_one (of_type.Resource m) (of_type.Value y) (Resource number) h g = absurd g
    type_one (of_type.Resource m) (of_type.Func n) (Resource number) h g = absurd g
    type_one (of_type.Resource m) (of_type.Instance n) (Resource number) h g = absurd g
    type_one (of_type.Value x) y (Resource number) h g = absurd h
    type_one (of_type.Func m) y (Resource number) h g = absurd h
    type_one (of_type.Instance m) y (Resource number) h g = absurd h
    type_one (of_type.Instance m) (of_type.Instance n) (Instance externs) h g = ap (λ (k : ℕ). of_type.Instance k) (externs_one m n externs h g)
    type_one (of_type.Instance m) (of_type.Value y) (Instance externs) h g = absurd g
    type_one (of_type.Instance m) (of_type.Func n) (Instance externs) h g = absurd g
    type_one (of_type.Instance m) (of_type.Resource n) (Instance externs) h g = absurd g
    type_one (of_type.Value x) y (Instance externs) h g = absurd h
    type_one (of_type.Func m) y (Instance externs) h g = absurd h
    type_one (of_type.Resource m) y (Instance externs) h g = absurd h

module _ (texts : List (List ℕ)) (values : List ValType) (layers : List Layer) where
  pub params_told : (n : ℕ) (params others : List Param) → IsParams texts values layers n params → IsParams texts values layers n others → params ≡ others
  params_told n [] [] h g = refl
  params_told n [] (q ∷ others) h g = let e : ◌≡◌ {A = Option Layer} (Some layer.NoParams) (Some (layer.Param g.0 g.1 g.2)) = sym h ∙ g.3 in cc
  params_told n (p ∷ params) [] h g = let e : ◌≡◌ {A = Option Layer} (Some layer.NoParams) (Some (layer.Param h.0 h.1 h.2)) = sym g ∙ h.3 in cc
  params_told n (p ∷ params) (q ∷ others) h g =
      let e : ◌≡◌ {A = Option Layer} (Some (layer.Param h.0 h.1 h.2)) (Some (layer.Param g.0 g.1 g.2)) = sym h.3 ∙ g.3 in
      let a : h.0 ≡ g.0 = cc in
      let b : h.1 ≡ g.1 = cc in
      let d : h.2 ≡ g.2 = cc in
      let text : ◌≡◌ {A = Option (List ℕ)} (Some p.label) (Some q.label) = sym h.4 ∙ ap (slice_get texts) a ∙ g.4 in
      let label : p.label ≡ q.label = cc in
      let type : p.val_type ≡ q.val_type = value_told values h.1 p.val_type q.val_type h.5 (ap (slice_get values) b ∙ g.5) in
      let first : p ≡ q = param_same p q label type in
      let rest : params ≡ others = params_told h.2 params others h.6 (subst (λ (k : ℕ). IsParams texts values layers k others) (sym d) g.6) in
      cc

  pub func_told : (n : ℕ) (type other : FuncType) → IsFuncLayer texts values layers n type → IsFuncLayer texts values layers n other → type ≡ other
  func_told n type other h g =
      let e : ◌≡◌ {A = Option Layer} (Some (layer.Func h.0 h.1)) (Some (layer.Func g.0 g.1)) = sym h.2 ∙ g.2 in
      let a : h.0 ≡ g.0 = cc in
      let b : h.1 ≡ g.1 = cc in
      func_same type other
      (params_told h.0 type.params other.params h.3 (subst (λ (k : ℕ). IsParams texts values layers k other.params) (sym a) g.3))
      (may_be_told values h.1 type.result other.result h.4 (subst (λ (o : Option ℕ). MayBeValue values o other.result) (sym b) g.4))

  mutual
    pub externs_told : (n : ℕ) (externs others : Externs) → IsExternsLayer texts values layers n externs → IsExternsLayer texts values layers n others → externs ≡ others
    externs_told n EmptyType EmptyType h g = refl
    externs_told n EmptyType (WithExtern before name extern) h g =
        let e : ◌≡◌ {A = Option Layer} (Some layer.NoExterns) (Some (layer.Extern g.0 g.1 g.2)) = sym h ∙ g.3 in cc
    externs_told n (WithExtern before name extern) EmptyType h g =
        let e : ◌≡◌ {A = Option Layer} (Some layer.NoExterns) (Some (layer.Extern h.0 h.1 h.2)) = sym g ∙ h.3 in cc
    externs_told n (WithExtern before name extern) (WithExtern others other_name other) h g =
        let e : ◌≡◌ {A = Option Layer} (Some (layer.Extern h.0 h.1 h.2)) (Some (layer.Extern g.0 g.1 g.2)) = sym h.3 ∙ g.3 in
        let a : h.0 ≡ g.0 = cc in
        let b : h.1 ≡ g.1 = cc in
        let d : h.2 ≡ g.2 = cc in
        let text : ◌≡◌ {A = Option (List ℕ)} (Some name) (Some other_name) = sym h.5 ∙ ap (slice_get texts) b ∙ g.5 in
        let first : name ≡ other_name = cc in
        let rest : before ≡ others = externs_told h.0 before others h.4 (subst (λ (k : ℕ). IsExternsLayer texts values layers k others) (sym a) g.4) in
        let last : extern ≡ other = extern_told h.2 extern other h.6 (subst (λ (k : ExternLayer). IsExternLayer texts values layers k other) (sym d) g.6) in
        cc

    pub extern_told : (x : ExternLayer) (extern other : Extern) → IsExternLayer texts values layers x extern → IsExternLayer texts values layers x other → extern ≡ other
    extern_told (of_extern.Func n) (OfFunc type) (OfFunc other) h g = ap (λ (t : FuncType). OfFunc t) (func_told n type other h g)
    extern_told (of_extern.Func n) (OfFunc type) (OfType other) h g = absurd g
    extern_told (of_extern.Func n) (OfFunc type) (OfInstance other) h g = absurd g
    extern_told (of_extern.Func n) (OfType closed) other h g = absurd h
    extern_told (of_extern.Func n) (OfInstance externs) other h g = absurd h
    extern_told (of_extern.Type x) (OfType closed) (OfType other) h g = ap (λ (t : Closed). OfType t) (type_told x closed other h g)
    extern_told (of_extern.Type x) (OfType closed) (OfFunc other) h g = absurd g
    extern_told (of_extern.Type x) (OfType closed) (OfInstance other) h g = absurd g
    extern_told (of_extern.Type x) (OfFunc type) other h g = absurd h
    extern_told (of_extern.Type x) (OfInstance externs) other h g = absurd h
    extern_told (of_extern.Instance n) (OfInstance externs) (OfInstance other) h g = ap (λ (t : Externs). OfInstance t) (externs_told n externs other h g)
    extern_told (of_extern.Instance n) (OfInstance externs) (OfFunc other) h g = absurd g
    extern_told (of_extern.Instance n) (OfInstance externs) (OfType other) h g = absurd g
    extern_told (of_extern.Instance n) (OfFunc type) other h g = absurd h
    extern_told (of_extern.Instance n) (OfType closed) other h g = absurd h

    pub type_told : (x : TypeLayer) (closed other : Closed) → IsTypeLayer texts values layers x closed → IsTypeLayer texts values layers x other → closed ≡ other
    type_told (of_type.Value x) (Value v) (Value w) h g = ap (λ (t : ValType). Value t) (value_told values x v w h g)
    type_told (of_type.Value x) (Value v) (Func other) h g = absurd g
    type_told (of_type.Value x) (Value v) (Resource other) h g = absurd g
    type_told (of_type.Value x) (Value v) (Instance other) h g = absurd g
    type_told (of_type.Value x) (Func type) other h g = absurd h
    type_told (of_type.Value x) (Resource number) other h g = absurd h
    type_told (of_type.Value x) (Instance externs) other h g = absurd h
    type_told (of_type.Func n) (Func type) (Func other) h g = ap (λ (t : FuncType). Func t) (func_told n type other h g)
    type_told (of_type.Func n) (Func type) (Value other) h g = absurd g
    type_told (of_type.Func n) (Func type) (Resource other) h g = absurd g
    type_told (of_type.Func n) (Func type) (Instance other) h g = absurd g
    type_told (of_type.Func n) (Value v) other h g = absurd h
    type_told (of_type.Func n) (Resource number) other h g = absurd h
    type_told (of_type.Func n) (Instance externs) other h g = absurd h
    type_told (of_type.Resource n) (Resource number) (Resource other) h g = ap (λ (k : ℕ). Resource k) (sym h ∙ g)
    type_told (of_type.Resource n) (Resource number) (Value other) h g = absurd g
    type_told (of_type.Resource n) (Resource number) (Func other) h g = absurd g
    type_told (of_type.Resource n) (Resource number) (Instance other) h g = absurd g
    type_told (of_type.Resource n) (Value v) other h g = absurd h
    type_told (of_type.Resource n) (Func type) other h g = absurd h
    type_told (of_type.Resource n) (Instance externs) other h g = absurd h
    type_told (of_type.Instance n) (Instance externs) (Instance other) h g = ap (λ (t : Externs). Instance t) (externs_told n externs other h g)
    type_told (of_type.Instance n) (Instance externs) (Value other) h g = absurd g
    type_told (of_type.Instance n) (Instance externs) (Func other) h g = absurd g
    type_told (of_type.Instance n) (Instance externs) (Resource other) h g = absurd g
    type_told (of_type.Instance n) (Value v) other h g = absurd h
    type_told (of_type.Instance n) (Func type) other h g = absurd h
    type_told (of_type.Instance n) (Resource number) other h g = absurd h
