-- What values hold by parts: what those of a type hold is told by its outer layer and by what its parts hold.
use Rattle.std.proofs.Common.{◌≡◌, ◌∙◌, Bool, true, false, ◌||◌, map, ap, sym, refl, Option, Some, None}
use Rattle.std.proofs.lemmas.List.{map-id}
use Rattle.syntax_trees.specs.declared.types.ValType.{ValType, out-ValType, roll-ValType}
use Rattle.syntax_trees.specs.declared.types.Case.{Case}
use Rattle.syntax_trees.specs.declared.types.Field.{Field}
use Rattle.syntax_trees.specs.declared.types.ValType.TheOpen as F
use Rattle.syntax_trees.specs.declared.types.ValType.TheViews.{roll-out-ValType}
use Rattle.syntax_trees.specs.declared.types.ValType.TheFolds.{fold-Case, fold-Field, fold-roll-ValType}
use Rattle.syntax_trees.specs.Ends.{has_end, end_step, end_case, end_field, held_end, part_true, some_true}
use Rattle.syntax_trees.proofs.Folds.{held, fold_case, fold_field, fold_result, fold_stream, fold_future}
use Rattle.syntax_trees.proofs.Parts.{map_alike}
use Rattle.laid_types.specs.Parts.{parts_case, parts_of}
use Rattle.laid_types.specs.Handles.{has_handle, handle_step, held_handle, has_borrow, borrow_step, held_borrow}
use Rattle.laid_types.specs.Lists.{has_list, list_step, held_list}
use Rattle.laid_types.specs.Gathered.{ends, handles, borrows, lists, end_over, handle_over, borrow_over, list_over}
use Rattle.laid_types.proofs.ByParts.{Layer, map_twice}

pub or_false : (b : Bool) → (b || false) ≡ b
or_false true = refl
or_false false = refl

-- The ends of streams and futures.
end_of_payload : (p : Option ValType) → part_true (held has_end p) ≡ held_end p
end_of_payload (Some p) = refl
end_of_payload None = refl

end_of_case : (c : Case) → fold-Case Bool Bool Bool end_step end_case end_field c ≡ held_end c.payload
end_of_case c = fold_case Bool Bool Bool end_step end_case end_field c ∙ end_of_payload c.payload

end_of_field : (f : Field) → fold-Field Bool Bool Bool end_step end_case end_field f ≡ has_end f.val_type
end_of_field = fold_field Bool Bool Bool end_step end_case end_field

end_rolled : (x : Layer) → has_end (roll-ValType x) ≡ end_over x (ends (parts_case x))
end_rolled F.Bool = fold-roll-ValType Bool Bool Bool end_step end_case end_field F.Bool
end_rolled F.S8 = fold-roll-ValType Bool Bool Bool end_step end_case end_field F.S8
end_rolled F.U8 = fold-roll-ValType Bool Bool Bool end_step end_case end_field F.U8
end_rolled F.S16 = fold-roll-ValType Bool Bool Bool end_step end_case end_field F.S16
end_rolled F.U16 = fold-roll-ValType Bool Bool Bool end_step end_case end_field F.U16
end_rolled F.S32 = fold-roll-ValType Bool Bool Bool end_step end_case end_field F.S32
end_rolled F.U32 = fold-roll-ValType Bool Bool Bool end_step end_case end_field F.U32
end_rolled F.S64 = fold-roll-ValType Bool Bool Bool end_step end_case end_field F.S64
end_rolled F.U64 = fold-roll-ValType Bool Bool Bool end_step end_case end_field F.U64
end_rolled F.Char = fold-roll-ValType Bool Bool Bool end_step end_case end_field F.Char
end_rolled F.String = fold-roll-ValType Bool Bool Bool end_step end_case end_field F.String
end_rolled (F.Record fields) =
    fold-roll-ValType Bool Bool Bool end_step end_case end_field (F.Record fields)
    ∙ ap some_true (map_alike _ _ end_of_field fields ∙ sym (map_twice (λ (f : Field). Some f.val_type) held_end fields))
end_rolled (F.Variant cases) =
    fold-roll-ValType Bool Bool Bool end_step end_case end_field (F.Variant cases)
    ∙ ap some_true (map_alike _ _ end_of_case cases ∙ sym (map_twice (λ (c : Case). c.payload) held_end cases))
end_rolled (F.List e) = fold-roll-ValType Bool Bool Bool end_step end_case end_field (F.List e) ∙ sym (or_false (has_end e))
end_rolled (F.Tuple parts) =
    fold-roll-ValType Bool Bool Bool end_step end_case end_field (F.Tuple parts)
    ∙ ap some_true (map-id (map has_end parts) ∙ sym (map_twice {B = Option ValType} Some held_end parts))
end_rolled (F.Flags labels) = fold-roll-ValType Bool Bool Bool end_step end_case end_field (F.Flags labels)
end_rolled (F.Enum labels) = fold-roll-ValType Bool Bool Bool end_step end_case end_field (F.Enum labels)
end_rolled (F.Option p) = fold-roll-ValType Bool Bool Bool end_step end_case end_field (F.Option p) ∙ sym (or_false (has_end p))
end_rolled (F.Result ok err) =
    fold_result Bool Bool Bool end_step end_case end_field ok err
    ∙ ap (λ (b : Bool). b || part_true (held has_end err)) (end_of_payload ok)
    ∙ ap (λ (b : Bool). held_end ok || b) (end_of_payload err ∙ sym (or_false (held_end err)))
end_rolled (F.Own n) = fold-roll-ValType Bool Bool Bool end_step end_case end_field (F.Own n)
end_rolled (F.Borrow n) = fold-roll-ValType Bool Bool Bool end_step end_case end_field (F.Borrow n)
end_rolled (F.Stream e) = fold_stream Bool Bool Bool end_step end_case end_field e
end_rolled (F.Future e) = fold_future Bool Bool Bool end_step end_case end_field e

pub end_by_parts : (t : ValType) → has_end t ≡ end_over (out-ValType t) (ends (parts_of t))
end_by_parts t = ap has_end (sym (roll-out-ValType t)) ∙ end_rolled (out-ValType t)

-- Handles.
handle_of_payload : (p : Option ValType) → part_true (held has_handle p) ≡ held_handle p
handle_of_payload (Some p) = refl
handle_of_payload None = refl

handle_of_case : (c : Case) → fold-Case Bool Bool Bool handle_step end_case end_field c ≡ held_handle c.payload
handle_of_case c = fold_case Bool Bool Bool handle_step end_case end_field c ∙ handle_of_payload c.payload

handle_of_field : (f : Field) → fold-Field Bool Bool Bool handle_step end_case end_field f ≡ has_handle f.val_type
handle_of_field = fold_field Bool Bool Bool handle_step end_case end_field

handle_rolled : (x : Layer) → has_handle (roll-ValType x) ≡ handle_over x (handles (parts_case x))
handle_rolled F.Bool = fold-roll-ValType Bool Bool Bool handle_step end_case end_field F.Bool
handle_rolled F.S8 = fold-roll-ValType Bool Bool Bool handle_step end_case end_field F.S8
handle_rolled F.U8 = fold-roll-ValType Bool Bool Bool handle_step end_case end_field F.U8
handle_rolled F.S16 = fold-roll-ValType Bool Bool Bool handle_step end_case end_field F.S16
handle_rolled F.U16 = fold-roll-ValType Bool Bool Bool handle_step end_case end_field F.U16
handle_rolled F.S32 = fold-roll-ValType Bool Bool Bool handle_step end_case end_field F.S32
handle_rolled F.U32 = fold-roll-ValType Bool Bool Bool handle_step end_case end_field F.U32
handle_rolled F.S64 = fold-roll-ValType Bool Bool Bool handle_step end_case end_field F.S64
handle_rolled F.U64 = fold-roll-ValType Bool Bool Bool handle_step end_case end_field F.U64
handle_rolled F.Char = fold-roll-ValType Bool Bool Bool handle_step end_case end_field F.Char
handle_rolled F.String = fold-roll-ValType Bool Bool Bool handle_step end_case end_field F.String
handle_rolled (F.Record fields) =
    fold-roll-ValType Bool Bool Bool handle_step end_case end_field (F.Record fields)
    ∙ ap some_true (map_alike _ _ handle_of_field fields ∙ sym (map_twice (λ (f : Field). Some f.val_type) held_handle fields))
handle_rolled (F.Variant cases) =
    fold-roll-ValType Bool Bool Bool handle_step end_case end_field (F.Variant cases)
    ∙ ap some_true (map_alike _ _ handle_of_case cases ∙ sym (map_twice (λ (c : Case). c.payload) held_handle cases))
handle_rolled (F.List e) = fold-roll-ValType Bool Bool Bool handle_step end_case end_field (F.List e) ∙ sym (or_false (has_handle e))
handle_rolled (F.Tuple parts) =
    fold-roll-ValType Bool Bool Bool handle_step end_case end_field (F.Tuple parts)
    ∙ ap some_true (sym (map_twice {B = Option ValType} Some held_handle parts))
handle_rolled (F.Flags labels) = fold-roll-ValType Bool Bool Bool handle_step end_case end_field (F.Flags labels)
handle_rolled (F.Enum labels) = fold-roll-ValType Bool Bool Bool handle_step end_case end_field (F.Enum labels)
handle_rolled (F.Option p) = fold-roll-ValType Bool Bool Bool handle_step end_case end_field (F.Option p) ∙ sym (or_false (has_handle p))
handle_rolled (F.Result ok err) =
    fold_result Bool Bool Bool handle_step end_case end_field ok err
    ∙ ap (λ (b : Bool). b || part_true (held has_handle err)) (handle_of_payload ok)
    ∙ ap (λ (b : Bool). held_handle ok || b) (handle_of_payload err ∙ sym (or_false (held_handle err)))
handle_rolled (F.Own n) = fold-roll-ValType Bool Bool Bool handle_step end_case end_field (F.Own n)
handle_rolled (F.Borrow n) = fold-roll-ValType Bool Bool Bool handle_step end_case end_field (F.Borrow n)
handle_rolled (F.Stream e) = fold_stream Bool Bool Bool handle_step end_case end_field e
handle_rolled (F.Future e) = fold_future Bool Bool Bool handle_step end_case end_field e

pub handle_by_parts : (t : ValType) → has_handle t ≡ handle_over (out-ValType t) (handles (parts_of t))
handle_by_parts t = ap has_handle (sym (roll-out-ValType t)) ∙ handle_rolled (out-ValType t)

-- Borrowed borrows.
borrow_of_payload : (p : Option ValType) → part_true (held has_borrow p) ≡ held_borrow p
borrow_of_payload (Some p) = refl
borrow_of_payload None = refl

borrow_of_case : (c : Case) → fold-Case Bool Bool Bool borrow_step end_case end_field c ≡ held_borrow c.payload
borrow_of_case c = fold_case Bool Bool Bool borrow_step end_case end_field c ∙ borrow_of_payload c.payload

borrow_of_field : (f : Field) → fold-Field Bool Bool Bool borrow_step end_case end_field f ≡ has_borrow f.val_type
borrow_of_field = fold_field Bool Bool Bool borrow_step end_case end_field

borrow_rolled : (x : Layer) → has_borrow (roll-ValType x) ≡ borrow_over x (borrows (parts_case x))
borrow_rolled F.Bool = fold-roll-ValType Bool Bool Bool borrow_step end_case end_field F.Bool
borrow_rolled F.S8 = fold-roll-ValType Bool Bool Bool borrow_step end_case end_field F.S8
borrow_rolled F.U8 = fold-roll-ValType Bool Bool Bool borrow_step end_case end_field F.U8
borrow_rolled F.S16 = fold-roll-ValType Bool Bool Bool borrow_step end_case end_field F.S16
borrow_rolled F.U16 = fold-roll-ValType Bool Bool Bool borrow_step end_case end_field F.U16
borrow_rolled F.S32 = fold-roll-ValType Bool Bool Bool borrow_step end_case end_field F.S32
borrow_rolled F.U32 = fold-roll-ValType Bool Bool Bool borrow_step end_case end_field F.U32
borrow_rolled F.S64 = fold-roll-ValType Bool Bool Bool borrow_step end_case end_field F.S64
borrow_rolled F.U64 = fold-roll-ValType Bool Bool Bool borrow_step end_case end_field F.U64
borrow_rolled F.Char = fold-roll-ValType Bool Bool Bool borrow_step end_case end_field F.Char
borrow_rolled F.String = fold-roll-ValType Bool Bool Bool borrow_step end_case end_field F.String
borrow_rolled (F.Record fields) =
    fold-roll-ValType Bool Bool Bool borrow_step end_case end_field (F.Record fields)
    ∙ ap some_true (map_alike _ _ borrow_of_field fields ∙ sym (map_twice (λ (f : Field). Some f.val_type) held_borrow fields))
borrow_rolled (F.Variant cases) =
    fold-roll-ValType Bool Bool Bool borrow_step end_case end_field (F.Variant cases)
    ∙ ap some_true (map_alike _ _ borrow_of_case cases ∙ sym (map_twice (λ (c : Case). c.payload) held_borrow cases))
borrow_rolled (F.List e) = fold-roll-ValType Bool Bool Bool borrow_step end_case end_field (F.List e) ∙ sym (or_false (has_borrow e))
borrow_rolled (F.Tuple parts) =
    fold-roll-ValType Bool Bool Bool borrow_step end_case end_field (F.Tuple parts)
    ∙ ap some_true (sym (map_twice {B = Option ValType} Some held_borrow parts))
borrow_rolled (F.Flags labels) = fold-roll-ValType Bool Bool Bool borrow_step end_case end_field (F.Flags labels)
borrow_rolled (F.Enum labels) = fold-roll-ValType Bool Bool Bool borrow_step end_case end_field (F.Enum labels)
borrow_rolled (F.Option p) = fold-roll-ValType Bool Bool Bool borrow_step end_case end_field (F.Option p) ∙ sym (or_false (has_borrow p))
borrow_rolled (F.Result ok err) =
    fold_result Bool Bool Bool borrow_step end_case end_field ok err
    ∙ ap (λ (b : Bool). b || part_true (held has_borrow err)) (borrow_of_payload ok)
    ∙ ap (λ (b : Bool). held_borrow ok || b) (borrow_of_payload err ∙ sym (or_false (held_borrow err)))
borrow_rolled (F.Own n) = fold-roll-ValType Bool Bool Bool borrow_step end_case end_field (F.Own n)
borrow_rolled (F.Borrow n) = fold-roll-ValType Bool Bool Bool borrow_step end_case end_field (F.Borrow n)
borrow_rolled (F.Stream e) = fold_stream Bool Bool Bool borrow_step end_case end_field e
borrow_rolled (F.Future e) = fold_future Bool Bool Bool borrow_step end_case end_field e

pub borrow_by_parts : (t : ValType) → has_borrow t ≡ borrow_over (out-ValType t) (borrows (parts_of t))
borrow_by_parts t = ap has_borrow (sym (roll-out-ValType t)) ∙ borrow_rolled (out-ValType t)

-- Strings and lists.
list_of_payload : (p : Option ValType) → part_true (held has_list p) ≡ held_list p
list_of_payload (Some p) = refl
list_of_payload None = refl

list_of_case : (c : Case) → fold-Case Bool Bool Bool list_step end_case end_field c ≡ held_list c.payload
list_of_case c = fold_case Bool Bool Bool list_step end_case end_field c ∙ list_of_payload c.payload

list_of_field : (f : Field) → fold-Field Bool Bool Bool list_step end_case end_field f ≡ has_list f.val_type
list_of_field = fold_field Bool Bool Bool list_step end_case end_field

list_rolled : (x : Layer) → has_list (roll-ValType x) ≡ list_over x (lists (parts_case x))
list_rolled F.Bool = fold-roll-ValType Bool Bool Bool list_step end_case end_field F.Bool
list_rolled F.S8 = fold-roll-ValType Bool Bool Bool list_step end_case end_field F.S8
list_rolled F.U8 = fold-roll-ValType Bool Bool Bool list_step end_case end_field F.U8
list_rolled F.S16 = fold-roll-ValType Bool Bool Bool list_step end_case end_field F.S16
list_rolled F.U16 = fold-roll-ValType Bool Bool Bool list_step end_case end_field F.U16
list_rolled F.S32 = fold-roll-ValType Bool Bool Bool list_step end_case end_field F.S32
list_rolled F.U32 = fold-roll-ValType Bool Bool Bool list_step end_case end_field F.U32
list_rolled F.S64 = fold-roll-ValType Bool Bool Bool list_step end_case end_field F.S64
list_rolled F.U64 = fold-roll-ValType Bool Bool Bool list_step end_case end_field F.U64
list_rolled F.Char = fold-roll-ValType Bool Bool Bool list_step end_case end_field F.Char
list_rolled F.String = fold-roll-ValType Bool Bool Bool list_step end_case end_field F.String
list_rolled (F.Record fields) =
    fold-roll-ValType Bool Bool Bool list_step end_case end_field (F.Record fields)
    ∙ ap some_true (map_alike _ _ list_of_field fields ∙ sym (map_twice (λ (f : Field). Some f.val_type) held_list fields))
list_rolled (F.Variant cases) =
    fold-roll-ValType Bool Bool Bool list_step end_case end_field (F.Variant cases)
    ∙ ap some_true (map_alike _ _ list_of_case cases ∙ sym (map_twice (λ (c : Case). c.payload) held_list cases))
list_rolled (F.List e) = fold-roll-ValType Bool Bool Bool list_step end_case end_field (F.List e)
list_rolled (F.Tuple parts) =
    fold-roll-ValType Bool Bool Bool list_step end_case end_field (F.Tuple parts)
    ∙ ap some_true (sym (map_twice {B = Option ValType} Some held_list parts))
list_rolled (F.Flags labels) = fold-roll-ValType Bool Bool Bool list_step end_case end_field (F.Flags labels)
list_rolled (F.Enum labels) = fold-roll-ValType Bool Bool Bool list_step end_case end_field (F.Enum labels)
list_rolled (F.Option p) = fold-roll-ValType Bool Bool Bool list_step end_case end_field (F.Option p) ∙ sym (or_false (has_list p))
list_rolled (F.Result ok err) =
    fold_result Bool Bool Bool list_step end_case end_field ok err
    ∙ ap (λ (b : Bool). b || part_true (held has_list err)) (list_of_payload ok)
    ∙ ap (λ (b : Bool). held_list ok || b) (list_of_payload err ∙ sym (or_false (held_list err)))
list_rolled (F.Own n) = fold-roll-ValType Bool Bool Bool list_step end_case end_field (F.Own n)
list_rolled (F.Borrow n) = fold-roll-ValType Bool Bool Bool list_step end_case end_field (F.Borrow n)
list_rolled (F.Stream e) = fold_stream Bool Bool Bool list_step end_case end_field e
list_rolled (F.Future e) = fold_future Bool Bool Bool list_step end_case end_field e

pub list_by_parts : (t : ValType) → has_list t ≡ list_over (out-ValType t) (lists (parts_of t))
list_by_parts t = ap has_list (sym (roll-out-ValType t)) ∙ list_rolled (out-ValType t)
