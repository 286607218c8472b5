-- Tables in which function types are found by their layers, as they grow.
use Rattle.std.proofs.Common.{◌≡◌, ◌∙◌, ℕ, List, [], ◌∷◌, ◌++◌, length, map, ap, refl, sym, subst, Some, inl, inr}
use Rattle.std.specs.BTreeMap.{BTreeMap}
use Rattle.std.specs.List.{slice_get}
use Rattle.std.proofs.lemmas.List.{map-append}
use Rattle.syntax_trees.specs.declared.types.ValType.{ValType}
use Rattle.syntax_trees.specs.declared.types.FuncType.{FuncType}
use Rattle.comp_graph.specs.declared.func_types.NumberedFunc.{NumberedFunc}
use Rattle.comp_graph.specs.Passed.{params_type, IsNumbered, AreNumbered}
use Rattle.link_values.specs.declared.layers.Layer.{Layer}
use Rattle.link_types.specs.Numbering.{AreApart, IsAdded}
use Rattle.link_types.specs.Table.{Table, AreDistinct, Grows}
use Rattle.link_types.specs.Kept.{IsKept}
use Rattle.link_types.proofs.TypesGrow.{may_be_stays, func_stays, texts_grow, values_grow, layers_grow, funcs_grow}
use Rattle.link_values.proofs.Numbered.{last_at, is_at_or_last}

-- Numbers of function types stay.
numbered_stays : (t u : Table) → Grows t u → (f : NumberedFunc) → IsNumbered t.values f → IsNumbered u.values f
numbered_stays t u g f h = record { params = g.values f.params (params_type f.func_type) h.params; returned = may_be_stays t u g f.returned f.func_type.result h.returned }

numbered_stay : (t u : Table) → Grows t u → (fs : List NumberedFunc) → AreNumbered t.values fs → AreNumbered u.values fs
numbered_stay t u g fs h n f at = numbered_stays t u g f (h n f at)

-- The table has grown, and nothing stands twice.
pub kept_grown : (m : BTreeMap ℕ ℕ) (fs : List NumberedFunc) (t u : Table) → IsKept m fs t → Grows t u → u.funcs ≡ t.funcs → AreDistinct u.texts u.values u.layers → IsKept m fs u
kept_grown m fs t u kept g same d = record {
  distinct = d;
  funcs = λ layer number at. let one = kept.funcs layer number at in (one.0, func_stays t u g (record { layer = layer; number = number }) one.0 one.1);
  types = kept.types ∙ sym same;
  passed = numbered_stay t u g fs kept.passed;
}

-- One name, one value type and one layer more.
pub texts_more : (m : BTreeMap ℕ ℕ) (fs : List NumberedFunc) (t : Table) (texts : List (List ℕ)) (text : List ℕ) (number : ℕ) → IsKept m fs t → IsAdded t.texts text number texts → AreApart texts → IsKept m fs (record t { texts = texts })
texts_more m fs t texts text number kept added apart =
    kept_grown m fs t (record t { texts = texts }) kept (texts_grow t texts text number added) refl (record { names = apart; values = kept.distinct.values; parts = kept.distinct.parts })

pub values_more : (m : BTreeMap ℕ ℕ) (fs : List NumberedFunc) (t : Table) (values : List ValType) (type : ValType) (number : ℕ) → IsKept m fs t → IsAdded t.values type number values → AreApart values → IsKept m fs (record t { values = values })
values_more m fs t values type number kept added apart =
    kept_grown m fs t (record t { values = values }) kept (values_grow t values type number added) refl (record { names = kept.distinct.names; values = apart; parts = kept.distinct.parts })

pub layers_more : (m : BTreeMap ℕ ℕ) (fs : List NumberedFunc) (t : Table) (layers : List Layer) (one : Layer) (number : ℕ) → IsKept m fs t → IsAdded t.layers one number layers → AreApart layers → IsKept m fs (record t { layers = layers })
layers_more m fs t layers one number kept added apart =
    kept_grown m fs t (record t { layers = layers }) kept (layers_grow t layers one number added) refl (record { names = kept.distinct.names; values = kept.distinct.values; parts = apart })

-- One function type more, with its numbers.
pub funcs_more : (m : BTreeMap ℕ ℕ) (fs more : List NumberedFunc) (t : Table) (funcs : List FuncType) (f : NumberedFunc) (made : FuncType) → IsKept m fs t → funcs ≡ t.funcs ++ made ∷ [] → more ≡ fs ++ f ∷ [] → f.func_type ≡ made → IsNumbered t.values f
    → IsKept m more (record t { funcs = funcs })
funcs_more m fs more t funcs f made kept pushed put same is =
    let g = funcs_grow t funcs made pushed in
    let type_of : NumberedFunc → FuncType = λ f. f.func_type in
    record {
      distinct = record { names = kept.distinct.names; values = kept.distinct.values; parts = kept.distinct.parts };
      funcs = λ layer number at. let one = kept.funcs layer number at in (one.0, func_stays t (record t { funcs = funcs }) g (record { layer = layer; number = number }) one.0 one.1);
      types = ap (map type_of) put ∙ map-append type_of fs (f ∷ []) ∙ ap (λ types. types ++ f.func_type ∷ []) kept.types ∙ ap (λ type. t.funcs ++ type ∷ []) same ∙ sym pushed;
      passed = λ n x at. elim (is_at_or_last fs f n x (subst (λ (fs : List NumberedFunc). slice_get fs n ≡ Some x) put at)) [
        | inl there ↦ kept.passed n x there
        | inr last ↦ subst (λ (x : NumberedFunc). IsNumbered t.values x) (sym last.1) is
      ];
    }

pub func_put : (funcs old : List FuncType) (made : FuncType) (number : ℕ) → funcs ≡ old ++ made ∷ [] → number ≡ length old → slice_get funcs number ≡ Some made
func_put funcs old made number pushed is = rw (pushed, is) (last_at old made)
