-- Segments that are written one after the other.
use Rattle.std.proofs.Common.{◌≡◌, ◌<◌, ◌+◌, ℕ, zero, suc, nat_le, Bool, true, false, if◌then◌else◌, List, [], ◌∷◌, length, map, set, slice_index_or, refl, ap, sym, ◌∙◌, subst, Option, Some, None}
use Rattle.std.specs.List.{slice_get, AllByRecursion}
use Rattle.std.specs.Option.{option_map}
use Rattle.std.proofs.lemmas.List.{map-set, length-map}
use Rattle.std.proofs.lemmas.Option.{slice_get-map, get_or_from_slice_get}
use Rattle.syntax_trees.specs.declared.module.ElementSegment.{ElementSegment}
use Rattle.syntax_trees.specs.declared.module.DataSegment.{DataSegment}
use Rattle.wasm_memory.specs.Bytes.{is_inside, put}
use Rattle.wasm_memory.specs.Memories.{MemoryState, with_bytes}
use Rattle.wasm_memory.proofs.Putting.{length_put}
use Rattle.wasm_store.specs.Store.{Table, Instance, Store, found_at}
use Rattle.wasm_store.specs.Effects.{with_memory}
use Rattle.wasm_store.specs.Instantiation.{Instantiation, SegmentBounds, init_value, element_written, data_written, overwritten, with_table, into_table, into_memory, all_written, written_then}
use Rattle.wasm_store.specs.Typed.{Extends, StoreTyped, EntryTyped, MemoryTyped}
use Rattle.wasm_store.proofs.AddedModules.{Behind, found_is, into_table_typed}
use Rattle.wasm_store.proofs.Lists.{all_at, all_map, get_within}
use Rattle.wasm_store.proofs.Memories.{memory_rewritten}
use Rattle.wasm_store.proofs.Stores.{entry_later, store_same, memory_changed}
use Rattle.wasm_store.proofs.Zips.{all_made}
use Rattle.wasm_store.specs.declared.function.FunctionInstance.{FunctionInstance}
use Rattle.wasm_code.specs.declared.instance.TableInstance.{TableInstance}
use Rattle.wasm_code.specs.declared.instance.GlobalInstance.{GlobalInstance}
use Rattle.wasm_code.specs.declared.instance.ModuleInstance.{ModuleInstance}
use Rattle.wasm_store.specs.Views.{table_of, instance_of}
use Rattle.wasm_store.specs.Parts.{ElementsFit, WrittenOne}
use Rattle.wasm_store.proofs.Joining.{seen}

-- one segment more, and one that doesn't fit
pub write_more : {A : Type 0} (f : Store → A → Option Store) (x : A) (xs : List A) (s t : Store) (more : Store → Instantiation) → f s x ≡ Some t → all_written f (x ∷ xs) s more ≡ all_written f xs t more
write_more f x xs s t more h = ap (λ (o : Option Store). written_then o s (λ t. all_written f xs t more)) h

pub write_stops : {A : Type 0} (f : Store → A → Option Store) (x : A) (xs : List A) (s : Store) (more : Store → Instantiation) → f s x ≡ None → all_written f (x ∷ xs) s more ≡ SegmentBounds s
write_stops f x xs s more h = ap (λ (o : Option Store). written_then o s (λ t. all_written f xs t more)) h

-- Segments that fit a store fit each store that extends it.
pub fit_later : (s t : Store) (i : Instance) (segments : List ElementSegment) → Extends s t → ElementsFit s i segments → ElementsFit t i segments
fit_later s t i segments x h =
    all_map (λ (segment : ElementSegment). AllByRecursion (λ (index : ℕ). EntryTyped s (slice_get i.funcs index)) segment.funcs)
    (λ (segment : ElementSegment). AllByRecursion (λ (index : ℕ). EntryTyped t (slice_get i.funcs index)) segment.funcs)
    (λ segment k. all_map (λ (index : ℕ). EntryTyped s (slice_get i.funcs index)) (λ (index : ℕ). EntryTyped t (slice_get i.funcs index)) (λ index e. entry_later s t x (slice_get i.funcs index) e) segment.funcs k) segments h

-- An item in its own place changes nothing.
set_same : {X : Type 0} (xs : List X) (a : ℕ) (x : X) → slice_get xs a ≡ Some x → set xs a x ≡ xs
set_same [] a x e = cc
set_same {X} (y ∷ xs) zero x e =
    let same : y ≡ x = cc in
    ap (λ (z : X). z ∷ xs) (sym same)
set_same {X} (y ∷ xs) (suc a) x e = ap (λ (zs : List X). y ∷ zs) (set_same xs a x e)

-- Bytes are written into the memory at an address.
pub memory_step : (s : Store) (address at : ℕ) (bytes : List ℕ) (m n : MemoryState) (b : Bool) → slice_get s.memories address ≡ Some m → b ≡ is_inside at (length bytes) m.bytes → n ≡ with_bytes m (put at bytes m.bytes) → WrittenOne (into_memory at bytes (found_at s.memories (Some address)) s) s b (with_memory address n s)
memory_step s address at bytes m n b there inside new =
    subst (λ (o : Option (ℕ × MemoryState)). WrittenOne (into_memory at bytes o s) s b (with_memory address n s)) (sym (found_is s.memories (Some address) address m refl there)) (by b inside)
  where
    outside : is_inside at (length bytes) m.bytes ≡ false → with_bytes m (put at bytes m.bytes) ≡ m
    outside e = rw e (refl {a = m})

    by : (b : Bool) → b ≡ is_inside at (length bytes) m.bytes → WrittenOne (into_memory at bytes (Some (address, m)) s) s b (with_memory address n s)
    by true e =
        ap (λ (k : Bool). (let o : Option Store = if k then Some (with_memory address (with_bytes m (put at bytes m.bytes)) s) else None in o)) (sym e)
        ∙ ap (λ (k : MemoryState). (let o : Option Store = Some (with_memory address k s) in o)) (sym new)
    by false e = (
      ap (λ (k : Bool). (let o : Option Store = if k then Some (with_memory address (with_bytes m (put at bytes m.bytes)) s) else None in o)) (sym e),
      ap (λ (k : MemoryState). with_memory address k s) (new ∙ outside (sym e)) ∙ ap (λ (ms : List MemoryState). record s { memories = ms }) (set_same s.memories address m there),
    )

pub memory_typed : (s : Store) (address at : ℕ) (bytes : List ℕ) (m n : MemoryState) → StoreTyped s → slice_get s.memories address ≡ Some m → n ≡ with_bytes m (put at bytes m.bytes) → StoreTyped (with_memory address n s)
memory_typed s address at bytes m n st there new =
    let r = memory_rewritten m (put at bytes m.bytes) (all_at MemoryTyped s.memories address m st.memories there) (length_put at bytes m.bytes) in
    subst (λ (k : MemoryState). StoreTyped (with_memory address k s)) (sym new) (memory_changed s address m (with_bytes m (put at bytes m.bytes)) st there r.0 r.1).1

-- Entries are written into the table at an address.
table_is : (t : Table) (entries : List (Option ℕ)) (max : Option ℕ) → t.entries ≡ entries → t.max ≡ max → t ≡ record { entries = entries; max = max }
table_is t entries max e f =
    ap (λ (es : List (Option ℕ)). (let u : Table = record { entries = es; max = t.max } in u)) e
    ∙ ap (λ (m : Option ℕ). (let u : Table = record { entries = entries; max = m } in u)) f

table_one : (s : Store) (address at : ℕ) (entries : List (Option ℕ)) (x new : Table) (b : Bool) → slice_get s.tables address ≡ Some x → b ≡ nat_le (at + length entries) (length x.entries) → new.entries ≡ (if b then overwritten at entries x.entries else x.entries) → new.max ≡ x.max → WrittenOne (into_table at entries (found_at s.tables (Some address)) s) s b (with_table address new s)
table_one s address at entries x new b there fits written most =
    subst (λ (o : Option (ℕ × Table)). WrittenOne (into_table at entries o s) s b (with_table address new s)) (sym (found_is s.tables (Some address) address x refl there)) (by b fits written)
  where
    by : (b : Bool) → b ≡ nat_le (at + length entries) (length x.entries) → new.entries ≡ (if b then overwritten at entries x.entries else x.entries) → WrittenOne (into_table at entries (Some (address, x)) s) s b (with_table address new s)
    by true e w =
        ap (λ (k : Bool). (let o : Option Store = if k then Some (with_table address (record { entries = overwritten at entries x.entries; max = x.max }) s) else None in o)) (sym e)
        ∙ ap (λ (t : Table). (let o : Option Store = Some (with_table address t s) in o)) (sym (table_is new (overwritten at entries x.entries) x.max w most))
    by false e w = (
      ap (λ (k : Bool). (let o : Option Store = if k then Some (with_table address (record { entries = overwritten at entries x.entries; max = x.max }) s) else None in o)) (sym e),
      ap (λ (t : Table). with_table address t s) (table_is new x.entries x.max w most) ∙ ap (λ (ts : List Table). record s { tables = ts }) (set_same s.tables address x there),
    )

pub table_step : (fs : List FunctionInstance) (ts : List TableInstance) (ms : List MemoryState) (gs : List GlobalInstance) (is : List ModuleInstance) (address at : ℕ) (entries : List (Option ℕ)) (x new : TableInstance) (b : Bool) → slice_get ts address ≡ Some x → b ≡ nat_le (at + length entries) (length x.entries.items) → new.entries.items ≡ (if b then overwritten at entries x.entries.items else x.entries.items) → new.max ≡ x.max → WrittenOne (into_table at entries (found_at (map table_of ts) (Some address)) (seen fs ts ms gs is)) (seen fs ts ms gs is) b (seen fs (set ts address new) ms gs is)
table_step fs ts ms gs is address at entries x new b there fits written most =
    let s : Store = seen fs ts ms gs is in
    let at_it : slice_get (map table_of ts) address ≡ Some (table_of x) = slice_get-map table_of ts address ∙ ap (λ (o : Option TableInstance). option_map table_of o) there in
    let is_seen : seen fs (set ts address new) ms gs is ≡ with_table address (table_of new) s = ap (λ (tables : List Table). record s { tables = tables }) (map-set table_of ts address new) in
    subst (λ (t : Store). WrittenOne (into_table at entries (found_at s.tables (Some address)) s) s b t) (sym is_seen)
    (table_one s address at entries (table_of x) (table_of new) b at_it fits written most)

pub table_behind : (s t : Store) (at : ℕ) (entries : List (Option ℕ)) (index : Option ℕ) (b : Bool) → StoreTyped s → AllByRecursion (EntryTyped s) entries → WrittenOne (into_table at entries (found_at s.tables index) s) s b t → Behind s t
table_behind s t at entries index true st all w = into_table_typed s t at entries (found_at s.tables index) index st refl all w
table_behind s t at entries index false st all w = subst (Behind s) (sym w.1) (store_same s, st)

-- the item at a place within a list
pub item_there : {X : Type 0} (xs : List X) (a : ℕ) (x : X) → a < length xs → x ≡ slice_index_or xs a x → slice_get xs a ≡ Some x
item_there {X} xs a x h e =
    let g = get_within xs a h in
    g.1 ∙ ap (λ (y : X). (let o : Option X = Some y in o)) (sym (e ∙ get_or_from_slice_get xs a g.0 x g.1))

-- the instance at an address, and the functions that it has
pub owner_there : (is : List ModuleInstance) (a : ℕ) (x : ModuleInstance) → a < length is → x ≡ slice_index_or is a x → slice_get (map instance_of is) a ≡ Some (instance_of x)
owner_there is a x h e = slice_get-map instance_of is a ∙ ap (λ (o : Option ModuleInstance). option_map instance_of o) (item_there is a x h e)

pub owner_funcs : (is : List ModuleInstance) (a : ℕ) (x : ModuleInstance) (i : Instance) → a < length is → x ≡ slice_index_or is a x → slice_get (map instance_of is) a ≡ Some i → instance_of x ≡ i
owner_funcs is a x i h e there =
    let both : (let o : Option Instance = Some (instance_of x) in o) ≡ Some i = sym (owner_there is a x h e) ∙ there in
    cc

-- the entries that functions of an instance are
pub entries_fit : (s : Store) (i : Instance) (indices : List ℕ) → AllByRecursion (λ index. EntryTyped s (slice_get i.funcs index)) indices → AllByRecursion (EntryTyped s) (map (λ index. slice_get i.funcs index) indices)
entries_fit s i indices h = all_made (λ (index : ℕ). EntryTyped s (slice_get i.funcs index)) (EntryTyped s) (λ (index : ℕ). slice_get i.funcs index) (λ index e. e) indices h

-- functions of an instance, written into the table at an address
pub table_wrote : (fs : List FunctionInstance) (ts : List TableInstance) (ms : List MemoryState) (gs : List GlobalInstance) (is : List ModuleInstance) (address at : ℕ) (funcs indices : List ℕ) (x new : TableInstance) (b : Bool) (i : Instance) → funcs ≡ i.funcs → slice_get ts address ≡ Some x → b ≡ nat_le (at + length indices) (length x.entries.items) → new.entries.items ≡ (if b then overwritten at (map (λ index. slice_get funcs index) indices) x.entries.items else x.entries.items) → new.max ≡ x.max → WrittenOne (into_table at (map (λ index. slice_get i.funcs index) indices) (found_at (map table_of ts) (Some address)) (seen fs ts ms gs is)) (seen fs ts ms gs is) b (seen fs (set ts address new) ms gs is)
table_wrote fs ts ms gs is address at funcs indices x new b i same there fits written most =
    let entries : List (Option ℕ) = map (λ index. slice_get i.funcs index) indices in
    table_step fs ts ms gs is address at entries x new b there
    (fits ∙ ap (λ (k : ℕ). nat_le (at + k) (length x.entries.items)) (sym (length-map indices (λ (index : ℕ). slice_get i.funcs index))))
    (written ∙ ap (λ (fs : List ℕ). (if b then overwritten at (map (λ index. slice_get fs index) indices) x.entries.items else x.entries.items)) same) most

pub table_wrote_behind : (fs : List FunctionInstance) (ts : List TableInstance) (ms : List MemoryState) (gs : List GlobalInstance) (is : List ModuleInstance) (address at : ℕ) (funcs indices : List ℕ) (x new : TableInstance) (b : Bool) (i : Instance) → StoreTyped (seen fs ts ms gs is) → AllByRecursion (λ index. EntryTyped (seen fs ts ms gs is) (slice_get i.funcs index)) indices → funcs ≡ i.funcs → slice_get ts address ≡ Some x → b ≡ nat_le (at + length indices) (length x.entries.items) → new.entries.items ≡ (if b then overwritten at (map (λ index. slice_get funcs index) indices) x.entries.items else x.entries.items) → new.max ≡ x.max → Behind (seen fs ts ms gs is) (seen fs (set ts address new) ms gs is)
table_wrote_behind fs ts ms gs is address at funcs indices x new b i st all same there fits written most =
    table_behind (seen fs ts ms gs is) (seen fs (set ts address new) ms gs is) at (map (λ index. slice_get i.funcs index) indices) (Some address) b st (entries_fit (seen fs ts ms gs is) i indices all)
    (table_wrote fs ts ms gs is address at funcs indices x new b i same there fits written most)

-- a segment of an instance, written at the address that the instance has
pub data_at : (s t : Store) (i : Instance) (segment : DataSegment) (at : ℕ) (index : Option ℕ) (b : Bool) → at ≡ init_value s i.globals segment.offset → index ≡ slice_get i.memories segment.memory → WrittenOne (into_memory at segment.bytes (found_at s.memories index) s) s b t → WrittenOne (data_written i s segment) s b t
data_at s t i segment at index b e f h =
    subst (λ (index : Option ℕ). WrittenOne (into_memory (init_value s i.globals segment.offset) segment.bytes (found_at s.memories index) s) s b t) f
    (subst (λ (at : ℕ). WrittenOne (into_memory at segment.bytes (found_at s.memories index) s) s b t) e h)

pub element_at : (s t : Store) (i : Instance) (segment : ElementSegment) (at : ℕ) (index : Option ℕ) (b : Bool) → at ≡ init_value s i.globals segment.offset → index ≡ slice_get i.tables segment.table → WrittenOne (into_table at (map (λ index. slice_get i.funcs index) segment.funcs) (found_at s.tables index) s) s b t → WrittenOne (element_written i s segment) s b t
element_at s t i segment at index b e f h =
    subst (λ (index : Option ℕ). WrittenOne (into_table (init_value s i.globals segment.offset) (map (λ index. slice_get i.funcs index) segment.funcs) (found_at s.tables index) s) s b t) f
    (subst (λ (at : ℕ). WrittenOne (into_table at (map (λ index. slice_get i.funcs index) segment.funcs) (found_at s.tables index) s) s b t) e h)
