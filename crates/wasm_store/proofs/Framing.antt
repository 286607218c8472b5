-- Frames of typed stacks: what they hold on their values, and how they go on.
use Rattle.std.proofs.Common.{◌≡◌, ℕ, zero, suc, nat_le, List, [], ◌∷◌, ◌++◌, length, map, reverse, take, drop, refl, ap, ap₂, sym, ◌∙◌, subst, Option, Some, None, append_assoc, append-nil}
use Rattle.std.specs.List.{slice_get}
use Rattle.std.proofs.lemmas.List.{length-reverse}
use Rattle.syntax_trees.specs.declared.module_types.ValType.{ValType}
use Rattle.syntax_trees.specs.declared.module_types.FuncType.{FuncType}
use Rattle.syntax_trees.specs.declared.module_types.Locals.{Locals}
use Rattle.syntax_trees.specs.Expr.{Expr}
use Rattle.syntax_trees.specs.Locals.{declared_locals, local_types}
use Rattle.wasm_typing.specs.Context.{Context}
use Rattle.wasm_typing.specs.Typing.{Operands, AllMatch, operands_of, Takes, TypedFrom}
use Rattle.wasm_numbers.specs.Types.{AreWords}
use Rattle.wasm_store.specs.Store.{Function, Own, Host, type_of, Store}
use Rattle.wasm_store.specs.Stack.{Label, Frame}
use Rattle.wasm_store.specs.Effects.{Effect, Leaves, Fails, NoRule}
use Rattle.wasm_store.specs.Step.{onward, with_more, frame_limit, returned, ended, landed, branched_to, branched, returning, first_frame, arguments, waiting, invoked, by_effect, entered}
use Rattle.wasm_store.specs.Typed.{OwnTyped, FunctionTyped, StoreTyped, Extends, known, AgainTyped, LabelsTyped, FrameTyped, FramesTyped}
use Rattle.wasm_store.specs.Laws.{MoveTyped}
use Rattle.wasm_store.proofs.Lists.{if_both, all_at}
use Rattle.wasm_store.proofs.Words.{split, joined, as_long, turned_back, zero_words, top_words, under_words, turned}
use Rattle.wasm_store.proofs.Operands.{IsTaken, taken_of, match_known, known_match, known_append}
use Rattle.wasm_store.proofs.Stores.{store_same, still, has_later, frames_later}
use Rattle.wasm_store.proofs.Effecting.{EffectTyped}

-- Values whose last ones are of these types, over others.
pub record IsOver (types : List ValType) (values under : List ℕ) (below : Operands) : Type 0 where
  pub front : List ℕ
  pub back : List ℕ
  pub others : List ValType
  pub values_are : values ≡ front ++ (back ++ under)
  pub ahead : AreWords types front
  pub behind : AreWords others back
  pub below_is : below ≡ known others

pub over_taken : (types own : List ValType) (words values under : List ℕ) (below : Operands) → IsTaken types own below → AreWords own words → values ≡ words ++ under → IsOver types values under below
over_taken types own words values under below k w e =
    let p = split types k.others words (subst (λ (ts : List ValType). AreWords ts words) k.own_is w) in
    record {
      front = p.front;
      back = p.back;
      others = k.others;
      values_are = e ∙ ap (λ (ws : List ℕ). ws ++ under) p.whole ∙ append_assoc p.front p.back under;
      ahead = p.ahead;
      behind = p.behind;
      below_is = k.below_is;
    }

pub over_takes : (types own : List ValType) (words values under : List ℕ) (below : Operands) → Takes types (known own) below → AreWords own words → values ≡ words ++ under → IsOver types values under below
over_takes types own words values under below h w e = over_taken types own words values under below (taken_of types own below h) w e

-- operands of these types over known ones
pub known_over : (types others : List ValType) → operands_of types ++ known others ≡ known (reverse types ++ others)
known_over types others = sym (known_append (reverse types) others)

-- The frame that runs goes on with other locals and values.
pub framed : (s t : Store) (gives : List ValType) (f : Frame) (h : FrameTyped s [] gives f) (e : Expr) (own : List ValType) (ls vs words : List ℕ) → Extends s t → AreWords h.context.locals ls → AreWords own words → vs ≡ words ++ h.under → TypedFrom h.context h.types h.ends e (known own) → FrameTyped t [] gives (record { instance = f.instance; results = f.results; locals = ls; values = vs; rest = e; labels = f.labels })
framed s t gives f h e own ls vs words x l w v typed = record {
  context = h.context;
  owner = h.owner;
  there = still s.instances t.instances f.instance h.owner x.instances h.there;
  has = has_later s t h.owner h.context x h.has;
  locals_are = l;
  results_are = h.results_are;
  count = h.count;
  types = h.types;
  ends = h.ends;
  own = own;
  words = words;
  under = h.under;
  values_are = v;
  typed = w;
  left = typed;
  around = h.around;
}

-- What an instruction makes goes on.
pub effect_moves : (s : Store) (results gives : List ValType) (f : Frame) (fs : List Frame) (h : FrameTyped s [] gives f) (e : Expr) (made others : List ValType) (back : List ℕ) (effect : Effect) → FramesTyped s results gives fs → AreWords others back → TypedFrom h.context h.types h.ends e (operands_of made ++ known others) → EffectTyped s h.context.locals made (back ++ h.under) effect → MoveTyped s results (by_effect effect (record f { rest = e }) fs)
effect_moves s results gives f fs h e made others back (Leaves t ls vs) k w typed (x, st, l, (front, vs_are, front_are)) =
    let values : vs ≡ (front ++ back) ++ h.under = vs_are ∙ sym (append_assoc front back h.under) in
    let left : TypedFrom h.context h.types h.ends e (known (reverse made ++ others)) = subst (TypedFrom h.context h.types h.ends e) (known_over made others) typed in
    (x, st, (gives, framed s t gives f h e (reverse made ++ others) ls vs (front ++ back) x l (joined (reverse made) others front back front_are w) values left, frames_later s t results gives fs x k))
effect_moves s results gives f fs h e made others back (Fails why) k w typed p = tt
effect_moves s results gives f fs h e made others back NoRule k w typed p = absurd p

-- A frame that waits gets what it waits for.
pub frame_given : (s : Store) (waits gives : List ValType) (f : Frame) (words : List ℕ) → FrameTyped s waits gives f → AreWords (reverse waits) words → FrameTyped s [] gives (with_more words f)
frame_given s waits gives f words h w = record {
  context = h.context;
  owner = h.owner;
  there = h.there;
  has = h.has;
  locals_are = h.locals_are;
  results_are = h.results_are;
  count = h.count;
  types = h.types;
  ends = h.ends;
  own = reverse waits ++ h.own;
  words = words ++ h.words;
  under = h.under;
  values_are = ap (λ (vs : List ℕ). words ++ vs) h.values_are ∙ sym (append_assoc words h.words h.under);
  typed = joined (reverse waits) h.own words h.words w h.typed;
  left = subst (TypedFrom h.context h.types h.ends f.rest) (known_over waits h.own) h.left;
  around = h.around;
}

-- Ends.

returned_typed : (s : Store) (results gives : List ValType) (f : Frame) (fs : List Frame) → StoreTyped s → FramesTyped s results gives fs → AreWords (reverse gives) f.values → MoveTyped s results (returned s f fs)
returned_typed s results gives f [] h k w = turned_back results f.values (subst (λ (ts : List ValType). AreWords (reverse ts) f.values) k w)
returned_typed s results gives f (g ∷ fs) h k w = (store_same s, h, (k.0, frame_given s gives k.0 g f.values k.1 w, k.2))

ended_typed : (s : Store) (results gives : List ValType) (f : Frame) (fs : List Frame) (h : FrameTyped s [] gives f) (labels : List Label) (types : List (List ValType)) → StoreTyped s → FramesTyped s results gives fs → AllMatch (known h.own) (reverse h.ends) → LabelsTyped h.context labels types h.ends h.under → MoveTyped s results (ended labels s f fs)
ended_typed s results gives f fs h [] [] st k m around =
    let own : h.own ≡ reverse gives = match_known (reverse h.ends) h.own m ∙ ap reverse (around.0 ∙ h.results_are) in
    let values : h.words ≡ f.values = sym (h.values_are ∙ ap (λ (us : List ℕ). h.words ++ us) around.1 ∙ append-nil h.words) in
    returned_typed s results gives f fs st k (subst (AreWords (reverse gives)) values (subst (λ (ts : List ValType). AreWords ts h.words) own h.typed))
ended_typed s results gives f fs h [] (type ∷ types) st k m around = absurd around
ended_typed s results gives f fs h (l ∷ labels) [] st k m around = absurd around
ended_typed s results gives f fs h (l ∷ labels) (type ∷ types) st k m (arity, under_is, again, (own, words, below, outer, lies, typed, after, more)) =
    let mine : h.own ≡ reverse h.ends = match_known (reverse h.ends) h.own m in
    let all : h.own ++ own ≡ reverse h.ends ++ own = ap (λ (ts : List ValType). ts ++ own) mine in
    let frame : FrameTyped s [] gives (record f { rest = l.after; labels = labels }) = record {
      context = h.context;
      owner = h.owner;
      there = h.there;
      has = h.has;
      locals_are = h.locals_are;
      results_are = h.results_are;
      count = h.count;
      types = types;
      ends = outer;
      own = h.own ++ own;
      words = h.words ++ words;
      under = below;
      values_are = h.values_are ∙ ap (λ (us : List ℕ). h.words ++ us) (under_is ∙ lies) ∙ sym (append_assoc h.words words below);
      typed = joined h.own own h.words words h.typed typed;
      left = subst (TypedFrom h.context types outer l.after) (known_over h.ends own ∙ ap known (sym all)) after;
      around = more;
    } in
    (store_same s, st, (gives, frame, k))

pub end_typed : (s : Store) (results gives : List ValType) (f : Frame) (fs : List Frame) (h : FrameTyped s [] gives f) → StoreTyped s → FramesTyped s results gives fs → AllMatch (known h.own) (reverse h.ends) → MoveTyped s results (ended f.labels s f fs)
end_typed s results gives f fs h st k m = ended_typed s results gives f fs h f.labels h.types st k m h.around

-- Branches.

-- the label of a depth, and what is around it
record IsTarget (c : Context) (depth : ℕ) (labels : List Label) (type : List ValType) : Type 0 where
  label : Label
  others : List Label
  types : List (List ValType)
  ends : List ValType
  under : List ℕ
  found : slice_get labels depth ≡ Some label
  here : drop depth labels ≡ label ∷ others
  behind : drop (suc depth) labels ≡ others
  around : LabelsTyped c (label ∷ others) (type ∷ types) ends under

is_target : (c : Context) (depth : ℕ) (labels : List Label) (types : List (List ValType)) (type ends : List ValType) (under : List ℕ) → LabelsTyped c labels types ends under → slice_get types depth ≡ Some type → IsTarget c depth labels type
is_target c depth [] [] type ends under h e = cc
is_target c depth [] (t ∷ types) type ends under h e = absurd h
is_target c depth (l ∷ labels) [] type ends under h e = absurd h
is_target c zero (l ∷ labels) (t ∷ types) type ends under h e =
    let same : t ≡ type = cc in
    record { label = l; others = labels; types = types; ends = ends; under = under; found = refl; here = refl; behind = refl; around = subst (λ (t : List ValType). LabelsTyped c (l ∷ labels) (t ∷ types) ends under) same h }
is_target c (suc depth) (l ∷ labels) (t ∷ types) type ends under (arity, under_is, again, (own, words, below, outer, lies, typed, after, more)) e =
    let k = is_target c depth labels types type outer below more e in
    record { label = k.label; others = k.others; types = k.types; ends = k.ends; under = k.under; found = k.found; here = k.here; behind = k.behind; around = k.around }

landed_typed : (s : Store) (gives : List ValType) (f : Frame) (h : FrameTyped s [] gives f) (e : Expr) (depth : ℕ) (l : Label) (labels : List Label) (types : List (List ValType)) (type ends : List ValType) (under front back : List ℕ) (again : Option Expr) → drop depth f.labels ≡ l ∷ labels → drop (suc depth) f.labels ≡ labels → LabelsTyped h.context (l ∷ labels) (type ∷ types) ends under → AgainTyped h.context types type ends again → AreWords (reverse type) front → FrameTyped s [] gives (landed again depth l (front ++ back) (record f { rest = e }))
landed_typed s gives f h e depth l labels types type ends under front back None here behind (arity, under_is, again, (own, words, below, outer, lies, typed, after, more)) same w =
    let long : l.arity ≡ length front = arity ∙ sym (length-reverse type) ∙ sym (as_long (reverse type) front w) in
    record {
      context = h.context;
      owner = h.owner;
      there = h.there;
      has = h.has;
      locals_are = h.locals_are;
      results_are = h.results_are;
      count = h.count;
      types = types;
      ends = outer;
      own = reverse type ++ own;
      words = front ++ words;
      under = below;
      values_are = ap₂ (λ (xs : List ℕ) (ys : List ℕ). xs ++ ys) (top_words l.arity front back long) lies ∙ sym (append_assoc front words below);
      typed = joined (reverse type) own front words w typed;
      left = subst (TypedFrom h.context types outer l.after) (ap (λ (ts : List ValType). operands_of ts ++ known own) (sym same) ∙ known_over type own) after;
      around = subst (λ (ls : List Label). LabelsTyped h.context ls types outer below) (sym behind) more;
    }
landed_typed s gives f h e depth l labels types type ends under front back (Some body) here behind around typed w =
    let long : l.arity ≡ length front = around.0 ∙ sym (length-reverse type) ∙ sym (as_long (reverse type) front w) in
    record {
      context = h.context;
      owner = h.owner;
      there = h.there;
      has = h.has;
      locals_are = h.locals_are;
      results_are = h.results_are;
      count = h.count;
      types = type ∷ types;
      ends = ends;
      own = reverse type;
      words = front;
      under = l.under;
      values_are = ap (λ (xs : List ℕ). xs ++ l.under) (top_words l.arity front back long);
      typed = w;
      left = typed;
      around = subst (λ (ls : List Label). LabelsTyped h.context ls (type ∷ types) ends l.under) (sym here)
          (subst (LabelsTyped h.context (l ∷ labels) (type ∷ types) ends) around.1 around);
    }

pub branch_typed : (s : Store) (results gives : List ValType) (f : Frame) (fs : List Frame) (h : FrameTyped s [] gives f) (e : Expr) (depth : ℕ) (type : List ValType) (vs front back : List ℕ) → StoreTyped s → FramesTyped s results gives fs → slice_get h.types depth ≡ Some type → AreWords (reverse type) front → vs ≡ front ++ back → MoveTyped s results (branched depth vs s (record f { rest = e }) fs)
branch_typed s results gives f fs h e depth type vs front back st k there w v =
    let t = is_target h.context depth f.labels h.types type h.ends h.under h.around there in
    let frame = landed_typed s gives f h e depth t.label t.others t.types type t.ends t.under front back t.label.again t.here t.behind t.around t.around.2 w in
    let goes : MoveTyped s results (branched_to (Some t.label) depth (front ++ back) s (record f { rest = e }) fs) = (store_same s, st, (gives, frame, k)) in
    subst (λ (vs : List ℕ). MoveTyped s results (branched depth vs s (record f { rest = e }) fs)) (sym v)
    (subst (λ (o : Option Label). MoveTyped s results (branched_to o depth (front ++ back) s (record f { rest = e }) fs)) (sym t.found) goes)

pub return_typed : (s : Store) (results gives : List ValType) (f : Frame) (fs : List Frame) (h : FrameTyped s [] gives f) (e : Expr) (below : Operands) → StoreTyped s → FramesTyped s results gives fs → Takes (reverse h.context.results) (known h.own) below → MoveTyped s results (onward s (returning (record f { rest = e })) fs)
return_typed s results gives f fs h e below st k takes =
    let p = over_takes (reverse h.context.results) h.own h.words f.values h.under below takes h.typed h.values_are in
    let long : f.results ≡ length p.front = h.count ∙ ap length (sym h.results_are) ∙ sym (length-reverse h.context.results) ∙ sym (as_long (reverse h.context.results) p.front p.ahead) in
    let values : take f.results f.values ≡ p.front ++ [] = ap (take f.results) p.values_are ∙ top_words f.results p.front (p.back ++ h.under) long ∙ sym (append-nil p.front) in
    let frame : FrameTyped s [] gives (returning (record f { rest = e })) = record {
      context = h.context;
      owner = h.owner;
      there = h.there;
      has = h.has;
      locals_are = h.locals_are;
      results_are = h.results_are;
      count = h.count;
      types = [];
      ends = h.context.results;
      own = reverse h.context.results;
      words = p.front;
      under = [];
      values_are = values;
      typed = p.ahead;
      left = known_match (reverse h.context.results);
      around = (refl, refl);
    } in
    (store_same s, st, (gives, frame, k))

-- Calls.

-- The end of a body leaves its results.
end_of_body : (results : List ValType) → AllMatch (operands_of results ++ []) (reverse results)
end_of_body results = subst (λ (os : Operands). AllMatch os (reverse results)) (sym (append-nil (operands_of results))) (known_match (reverse results))

pub first_typed : (s : Store) (type : FuncType) (instance : ℕ) (locals : List Locals) (body : Expr) (args : List ℕ) → OwnTyped s type (local_types type locals) instance body → AreWords type.params args → FrameTyped s [] type.results (first_frame type instance locals body args)
first_typed s type instance locals body args o w =
    let all : AreWords (local_types type locals) (args ++ map (λ type. 0) (declared_locals locals)) = joined type.params (declared_locals locals) args (map (λ type. 0) (declared_locals locals)) w (zero_words (declared_locals locals)) in
    record {
      context = o.context;
      owner = o.owner;
      there = o.there;
      has = o.has;
      locals_are = subst (λ (ts : List ValType). AreWords ts (args ++ map (λ type. 0) (declared_locals locals))) (sym o.locals_are) all;
      results_are = o.results_are;
      count = refl;
      types = o.context.results ∷ [];
      ends = o.context.results;
      own = [];
      words = [];
      under = [];
      values_are = refl;
      typed = tt;
      left = o.typed;
      around = (ap length (sym o.results_are), refl, refl, ([], [], [], o.context.results, refl, tt, end_of_body o.context.results, (refl, refl)));
    }

-- the frame that waits, over values whose last ones are the arguments
waiting_typed : (s : Store) (gives : List ValType) (f : Frame) (h : FrameTyped s [] gives f) (e : Expr) (type : FuncType) (vs front back : List ℕ) (others : List ValType) → vs ≡ front ++ (back ++ h.under) → AreWords (reverse type.params) front → AreWords others back → TypedFrom h.context h.types h.ends e (operands_of type.results ++ known others) → FrameTyped s type.results gives (waiting type vs (record f { rest = e }))
waiting_typed s gives f h e type vs front back others v w b typed =
    let long : length type.params ≡ length front = sym (length-reverse type.params) ∙ sym (as_long (reverse type.params) front w) in
    record {
      context = h.context;
      owner = h.owner;
      there = h.there;
      has = h.has;
      locals_are = h.locals_are;
      results_are = h.results_are;
      count = h.count;
      types = h.types;
      ends = h.ends;
      own = others;
      words = back;
      under = h.under;
      values_are = ap (drop (length type.params)) v ∙ under_words (length type.params) front (back ++ h.under) long;
      typed = b;
      left = typed;
      around = h.around;
    }

arguments_typed : (type : FuncType) (vs front under : List ℕ) → vs ≡ front ++ under → AreWords (reverse type.params) front → AreWords type.params (arguments type vs)
arguments_typed type vs front under v w =
    let long : length type.params ≡ length front = sym (length-reverse type.params) ∙ sym (as_long (reverse type.params) front w) in
    let top : take (length type.params) vs ≡ front = ap (take (length type.params)) v ∙ top_words (length type.params) front under long in
    subst (λ (ws : List ℕ). AreWords type.params (reverse ws)) (sym top) (turned_back type.params front w)

pub invoked_typed : (s : Store) (results gives : List ValType) (f : Frame) (fs : List Frame) (h : FrameTyped s [] gives f) (e : Expr) (address : ℕ) (function : Function) (vs front back : List ℕ) (others : List ValType) → StoreTyped s → FramesTyped s results gives fs → slice_get s.funcs address ≡ Some function → vs ≡ front ++ (back ++ h.under) → AreWords (reverse (type_of function).params) front → AreWords others back → TypedFrom h.context h.types h.ends e (operands_of (type_of function).results ++ known others) → MoveTyped s results (invoked address function vs s (record f { rest = e }) fs)
invoked_typed s results gives f fs h e address (Own type instance locals body) vs front back others st k there v w b typed =
    let args = arguments_typed type vs front (back ++ h.under) v w in
    let own : OwnTyped s type (local_types type locals) instance body = all_at (FunctionTyped s) s.funcs address (Own type instance locals body) st.funcs there in
    let waits = waiting_typed s gives f h e type vs front back others v w b typed in
    if_both (MoveTyped s results) (nat_le frame_limit (suc (length fs))) _ _ (λ t. tt)
    (λ t. (store_same s, st, (type.results, first_typed s type instance locals body (arguments type vs) own args, (gives, waits, k))))
invoked_typed s results gives f fs h e address (Host type) vs front back others st k there v w b typed =
    let waits = waiting_typed s gives f h e type vs front back others v w b typed in
    (type, there, arguments_typed type vs front (back ++ h.under) v w, λ answers a. (gives, frame_given s type.results gives (waiting type vs (record f { rest = e })) (reverse answers) waits (turned type.results answers a), k))

-- Blocks.

pub entered_typed : (s : Store) (results gives : List ValType) (f : Frame) (fs : List Frame) (h : FrameTyped s [] gives f) (l : Label) (inside : Expr) (vs front back : List ℕ) (params type ends others : List ValType) → StoreTyped s → FramesTyped s results gives fs → vs ≡ front ++ (back ++ h.under) → AreWords (reverse params) front → AreWords others back → l.arity ≡ length type → l.under ≡ back ++ h.under → AgainTyped h.context h.types type ends l.again → TypedFrom h.context (type ∷ h.types) ends inside (operands_of params) → TypedFrom h.context h.types h.ends l.after (operands_of ends ++ known others) → MoveTyped s results (entered l inside vs s f fs)
entered_typed s results gives f fs h l inside vs front back params type ends others st k v w b arity under again typed after =
    let frame : FrameTyped s [] gives (record f { values = vs; rest = inside; labels = l ∷ f.labels }) = record {
      context = h.context;
      owner = h.owner;
      there = h.there;
      has = h.has;
      locals_are = h.locals_are;
      results_are = h.results_are;
      count = h.count;
      types = type ∷ h.types;
      ends = ends;
      own = reverse params;
      words = front;
      under = l.under;
      values_are = v ∙ ap (λ (us : List ℕ). front ++ us) (sym under);
      typed = w;
      left = typed;
      around = (arity, refl, again, (others, back, h.under, h.ends, under, b, after, h.around));
    } in
    (store_same s, st, (gives, frame, k))
