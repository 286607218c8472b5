-- Frames of functions that are called.
use Rattle.std.proofs.Common.{◌≡◌, ◌≤◌, ◌<◌, ◌+◌, ℕ, suc, Bool, true, false, nat_le, if◌then◌else◌, List, [], ◌∷◌, ◌++◌, take, drop, length, reverse, ap, ap₂, sym, ◌∙◌, subst, arith}
use Rattle.std.specs.List.{AllByRecursion}
use Rattle.std.proofs.lemmas.List.{length-reverse, length-map, length-append}
use Rattle.std.proofs.lemmas.Bool.Decides.{nat_tests}
use Rattle.syntax_trees.specs.declared.module_types.FuncType.{FuncType}
use Rattle.syntax_trees.specs.declared.module_types.Locals.{Locals}
use Rattle.syntax_trees.specs.Expr.{Expr}
use Rattle.wasm_store.specs.declared.trap.Trap.TheVariants.{StackLimit}
use Rattle.wasm_store.specs.Store.{Own, Host, Store}
use Rattle.wasm_store.specs.Stack as stack
use Rattle.wasm_store.specs.Step.{Move, Calls, Traps, first_frame, waiting, arguments, onward, invoked}
use Rattle.wasm_store.proofs.Lists.{all_append}
use Rattle.wasm_execution.specs.declared.frame.Frame.{Frame}
use Rattle.wasm_execution.specs.Places.{frame_of, IsPlaced}
use Rattle.wasm_execution.specs.Stacks.{frames_of}
use Rattle.wasm_execution.specs.Invoking.{Begins}
use Rattle.wasm_execution.proofs.Runs.{frames_push}

frames_long : (fs : List Frame) → length (frames_of fs) ≡ length fs
frames_long fs = length-map (reverse fs) frame_of ∙ length-reverse fs

at_most : (n m : ℕ) → n ≤ m → nat_le n m ≡ true
at_most n m h = grind (arith, nat_tests)

not_most : (n m : ℕ) → m < n → nat_le n m ≡ false
not_most n m h = grind (arith, nat_tests)

pub limit_reached : (s : Store) (f : stack.Frame) (old : List Frame) (address : ℕ) (type : FuncType) (instance : ℕ) (locals : List Locals) (body : Expr) → 512 ≤ length old + 1 → invoked address (Own type instance locals body) f.values s f (frames_of old) ≡ Traps StackLimit
limit_reached s f old address type instance locals body h =
    let long = frames_long old in
    let most : 512 ≤ suc (length (frames_of old)) = omega (arith, long, h) in
    ap (λ (b : Bool). if b then Traps StackLimit else onward s (first_frame type instance locals body (arguments type f.values)) (waiting type f.values f ∷ frames_of old)) (at_most 512 (suc (length (frames_of old))) most)

pub begins_over : (s : Store) (f : stack.Frame) (old new : List Frame) (address : ℕ) (type : FuncType) (instance : ℕ) (locals : List Locals) (body : Expr) (top g : Frame) (count : ℕ) (args : List ℕ) → length old + 1 < 512 → count ≡ length type.params → args ≡ reverse (take count f.values) → frame_of top ≡ record f { values = drop count f.values } → frame_of g ≡ first_frame type instance locals body args → new ≡ old ++ top ∷ [] → IsPlaced g → IsPlaced top → AllByRecursion IsPlaced old → Begins s f old address (Own type instance locals body) g new
begins_over s f old new address type instance locals body top g count args few long args_are top_is g_is new_is placed waits others =
    let same = frames_long old in
    let fits : suc (length (frames_of old)) < 512 = omega (arith, same, few) in
    let words : arguments type f.values ≡ args = sym (args_are ∙ ap (λ (n : ℕ). reverse (take n f.values)) long) in
    let frame : first_frame type instance locals body (arguments type f.values) ≡ frame_of g = ap (first_frame type instance locals body) words ∙ sym g_is in
    let below : waiting type f.values f ≡ frame_of top = sym (top_is ∙ ap (λ (n : ℕ). (let q : stack.Frame = record f { values = drop n f.values } in q)) long) in
    let frames : waiting type f.values f ∷ frames_of old ≡ frames_of new = ap (λ (t : stack.Frame). t ∷ frames_of old) below ∙ sym (ap frames_of new_is ∙ frames_push old top) in
    record {
      moves = ap (λ (b : Bool). if b then Traps StackLimit else onward s (first_frame type instance locals body (arguments type f.values)) (waiting type f.values f ∷ frames_of old)) (not_most 512 (suc (length (frames_of old))) fits)
          ∙ ap₂ (λ (h : stack.Frame) (fs : List stack.Frame). onward s h fs) frame frames;
      placed = placed;
      callers = subst (AllByRecursion IsPlaced) (sym new_is) (all_append IsPlaced old (top ∷ []) others (waits, tt));
      count = (let more : length new ≡ length old + 1 = ap length new_is ∙ length-append old (top ∷ []) in omega (arith, more));
    }

pub asks_host : (s : Store) (f : stack.Frame) (old : List Frame) (address : ℕ) (type : FuncType) (g : Frame) (count : ℕ) (words : List ℕ) → count ≡ length type.params → words ≡ reverse (take count f.values) → frame_of g ≡ record f { values = drop count f.values } → invoked address (Host type) f.values s f (frames_of old) ≡ Calls address words (stack.Running (frame_of g) (frames_of old))
asks_host s f old address type g count words long words_are g_is =
    let args : arguments type f.values ≡ words = sym (words_are ∙ ap (λ (n : ℕ). reverse (take n f.values)) long) in
    let below : waiting type f.values f ≡ frame_of g = sym (g_is ∙ ap (λ (n : ℕ). (let q : stack.Frame = record f { values = drop n f.values } in q)) long) in
    ap₂ (λ (ws : List ℕ) (h : stack.Frame). let m : Move = Calls address ws (stack.Running h (frames_of old)) in m) args below
