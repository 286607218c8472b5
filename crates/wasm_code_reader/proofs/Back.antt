-- Flat code comes back from the expression that it stands for.
use Rattle.std.proofs.Common.{◌≡◌, Bool, true, false, List, [], ◌∷◌, ◌++◌, refl, ap, ◌∙◌, sym, subst, Option, Some, None}
use Rattle.syntax_trees.specs.declared.instr.Op.{Op}
use Rattle.syntax_trees.specs.declared.instr.Op.TheVariants.{Plain as PlainOp, OpenBlock, OpenLoop, OpenIf, Else, End as EndOp}
use Rattle.wasm_code_reader.specs.declared.parts.Part.{Part}
use Rattle.wasm_code_reader.specs.declared.parts.Part.TheVariants.{First, Other}
use Rattle.syntax_trees.specs.declared.instr.Instr.{Instr}
use Rattle.syntax_trees.specs.declared.instr.BlockType.{BlockType}
use Rattle.syntax_trees.specs.Expr.{Expr, Piece, before, op_on, flat_all, flat, unflat, tree_of}

-- the open parts behind a piece
abbrev after : Bool → List Part → Option (List Part)
after m [] = None
after false (part ∷ parts) = Some parts
after true (First ∷ parts) = Some (Other ∷ parts)
after true (Other ∷ parts) = None

-- Pieces that end these open parts.
abbrev pub Fit : List Part → List Piece → Type 0
Fit parts [] = parts ≡ []
Fit parts (p ∷ ps) = (others : List Part) × (after p.0 parts ≡ Some others) × Fit others ps

-- Whatever ends the open parts behind this code, the code comes back.
abbrev pub Back : List Op → List Part → Type 0
Back code parts = (ps : List Piece) → Fit parts ps → Fit (Other ∷ []) (before code ps) × (flat_all (before code ps) ≡ code ++ flat_all ps)

-- One operation leads from these open parts to those.
abbrev Leads : Op → List Part → List Part → Type 0
Leads op parts others = (ps : List Piece) → Fit others ps → Fit parts (op_on op ps) × (flat_all (op_on op ps) ≡ op ∷ flat_all ps)

pub before-append : (ops others : List Op) (ps : List Piece) → before (ops ++ others) ps ≡ before ops (before others ps)
before-append [] others ps = refl
before-append (op ∷ ops) others ps = ap (op_on op) (before-append ops others ps)

append-one : (ops : List Op) (op : Op) (others : List Op) → ops ++ op ∷ others ≡ (ops ++ op ∷ []) ++ others
append-one [] op others = refl
append-one (o ∷ ops) op others = ap (λ (ops : List Op). o ∷ ops) (append-one ops op others)

pub back_none : Back [] (Other ∷ [])
back_none ps fit = (fit, refl)

back_more : (code : List Op) (op : Op) (parts others : List Part) → Back code parts → Leads op parts others → Back (code ++ op ∷ []) others
back_more code op parts others back leads ps fit =
    let one = leads ps fit in
    let all = back (op_on op ps) one.0 in
    let e : before (code ++ op ∷ []) ps ≡ before code (op_on op ps) = before-append code (op ∷ []) ps in
    (subst (Fit (Other ∷ [])) (sym e) all.0, ap flat_all e ∙ all.1 ∙ ap (λ (ops : List Op). code ++ ops) one.1 ∙ append-one code op (flat_all ps))

plain_leads : (i : Instr) (part : Part) (parts : List Part) → Leads (PlainOp i) (part ∷ parts) (part ∷ parts)
plain_leads i part parts [] fit = cc
plain_leads i part parts (p ∷ ps) fit = (fit, refl)

block_leads : (t : BlockType) (part : Part) (parts : List Part) → Leads (OpenBlock t) (part ∷ parts) (Other ∷ part ∷ parts)
block_leads t part parts [] fit = cc
block_leads t part parts ((true, b) ∷ ps) fit = let h = fit.1 in cc
block_leads t part parts ((false, b) ∷ []) fit = let h = fit.1 in let k = fit.2 in cc
block_leads t part parts ((false, b) ∷ e ∷ ps) fit = let h : part ∷ parts ≡ fit.0 = cc in (subst (λ (q : List Part). Fit q (e ∷ ps)) (sym h) fit.2, refl)

loop_leads : (t : BlockType) (part : Part) (parts : List Part) → Leads (OpenLoop t) (part ∷ parts) (Other ∷ part ∷ parts)
loop_leads t part parts [] fit = cc
loop_leads t part parts ((true, b) ∷ ps) fit = let h = fit.1 in cc
loop_leads t part parts ((false, b) ∷ []) fit = let h = fit.1 in let k = fit.2 in cc
loop_leads t part parts ((false, b) ∷ e ∷ ps) fit = let h : part ∷ parts ≡ fit.0 = cc in (subst (λ (q : List Part). Fit q (e ∷ ps)) (sym h) fit.2, refl)

if_both : (t : BlockType) (a : Expr) (part : Part) (parts : List Part) (ps : List Piece) → Fit (Other ∷ part ∷ parts) ps → Fit (part ∷ parts) (op_on (OpenIf t) ((true, a) ∷ ps)) × (flat_all (op_on (OpenIf t) ((true, a) ∷ ps)) ≡ OpenIf t ∷ flat_all ((true, a) ∷ ps))
if_both t a part parts [] fit = cc
if_both t a part parts ((true, b) ∷ ps) fit = let h = fit.1 in cc
if_both t a part parts ((false, b) ∷ []) fit = let h = fit.1 in let k = fit.2 in cc
if_both t a part parts ((false, b) ∷ e ∷ ps) fit = let h : part ∷ parts ≡ fit.0 = cc in (subst (λ (q : List Part). Fit q (e ∷ ps)) (sym h) fit.2, refl)

if_leads : (t : BlockType) (part : Part) (parts : List Part) → Leads (OpenIf t) (part ∷ parts) (First ∷ part ∷ parts)
if_leads t part parts [] fit = cc
if_leads t part parts ((false, b) ∷ []) fit = let h = fit.1 in let k = fit.2 in cc
if_leads t part parts ((false, b) ∷ e ∷ ps) fit = let h : part ∷ parts ≡ fit.0 = cc in (subst (λ (q : List Part). Fit q (e ∷ ps)) (sym h) fit.2, refl)
if_leads t part parts ((true, a) ∷ ps) fit =
    let h : Other ∷ part ∷ parts ≡ fit.0 = cc in
    if_both t a part parts ps (subst (λ (q : List Part). Fit q ps) (sym h) fit.2)

pub back_plain : (code : List Op) (i : Instr) (part : Part) (parts : List Part) → Back code (part ∷ parts) → Back (code ++ PlainOp i ∷ []) (part ∷ parts)
back_plain code i part parts back = back_more code (PlainOp i) (part ∷ parts) (part ∷ parts) back (plain_leads i part parts)

pub back_block : (code : List Op) (t : BlockType) (part : Part) (parts : List Part) → Back code (part ∷ parts) → Back (code ++ OpenBlock t ∷ []) (Other ∷ part ∷ parts)
back_block code t part parts back = back_more code (OpenBlock t) (part ∷ parts) (Other ∷ part ∷ parts) back (block_leads t part parts)

pub back_loop : (code : List Op) (t : BlockType) (part : Part) (parts : List Part) → Back code (part ∷ parts) → Back (code ++ OpenLoop t ∷ []) (Other ∷ part ∷ parts)
back_loop code t part parts back = back_more code (OpenLoop t) (part ∷ parts) (Other ∷ part ∷ parts) back (loop_leads t part parts)

pub back_if : (code : List Op) (t : BlockType) (part : Part) (parts : List Part) → Back code (part ∷ parts) → Back (code ++ OpenIf t ∷ []) (First ∷ part ∷ parts)
back_if code t part parts back = back_more code (OpenIf t) (part ∷ parts) (First ∷ part ∷ parts) back (if_leads t part parts)

pub back_else : (code : List Op) (parts : List Part) → Back code (First ∷ parts) → Back (code ++ Else ∷ []) (Other ∷ parts)
back_else code parts back = back_more code Else (First ∷ parts) (Other ∷ parts) back (λ ps fit. ((Other ∷ parts, refl, fit), refl))

pub back_end : (code : List Op) (part : Part) (parts : List Part) → Back code (part ∷ parts) → Back (code ++ EndOp ∷ []) parts
back_end code part parts back = back_more code EndOp (part ∷ parts) parts back (λ ps fit. ((parts, refl, fit), refl))

none_fit : {A : Type 0} (p : Piece) (ps : List Piece) → Fit [] (p ∷ ps) → A
none_fit p ps fit = let h = fit.1 in cc

-- one piece up to its end
alone : (ps : List Piece) → Fit (Other ∷ []) ps → flat (tree_of ps) ≡ flat_all ps
alone [] fit = cc
alone ((true, e) ∷ ps) fit = let h = fit.1 in cc
alone ((false, e) ∷ []) fit = refl
alone ((false, e) ∷ p ∷ ps) fit = let h : [] ≡ fit.0 = cc in none_fit p ps (subst (λ (q : List Part). Fit q (p ∷ ps)) (sym h) fit.2)

append-nil : (ops : List Op) → ops ++ [] ≡ ops
append-nil [] = refl
append-nil (op ∷ ops) = ap (λ (ops : List Op). op ∷ ops) (append-nil ops)

pub back_all : (code : List Op) (parts : List Part) → parts ≡ [] → Back code parts → flat (unflat code) ≡ code
back_all code parts h back = let b = back [] h in alone (before code []) b.0 ∙ b.1 ∙ append-nil code
