-- What is ready stays so where lines, picks and control alone are others; and what comes behind lines agrees behind them.
use Rattle.std.proofs.Common.{◌≡◌, ℕ, zero, suc, Bool, true, false, cond, ◌&&◌, not, List, [], ◌∷◌, ◌++◌, refl, sym, ap, ◌∙◌, append_assoc, filter, Option, Some, None}
use Rattle.std.specs.List.{slice_get, range_with_len}
use Rattle.syntax_trees.specs.declared.types.ValType.{ValType}
use Rattle.wasm_store.specs.Stack.{Stack}
use Rattle.handle_table.specs.History.{greatest}
use Rattle.builtin_kinds.specs.declared.EndKind.{EndKind}
use Rattle.builtin_kinds.specs.declared.EndKind.TheVariants as kind
use Rattle.stream_ends.specs.Ends.{is_pending}
use Rattle.waitables.specs.Sets.{ready_of}
use Rattle.comp_graph.specs.Graph.{Graph}
use Rattle.script_reader.specs.Script.{Script}
use Rattle.trace_labels.specs.declared.label.Label.{Label}
use Rattle.channels.specs.declared.channel.Channel as kept_channel
use Rattle.instances.specs.declared.entry.WorldEntry.{WorldEntry}
use Rattle.instances.specs.declared.entry.WorldEntry.TheVariants as entry
use Rattle.world_parts.specs.declared.parts.Flow.{Flow}
use Rattle.world_parts.specs.declared.parts.Flow.TheVariants as flow
use Rattle.world_parts.specs.Views.{Views}
use Rattle.world_parts.specs.Held as held
use Rattle.world_parts.specs.Held.{Held, Done, Gives, Traps, Spent}
use Rattle.world_parts.specs.Channels as kept
use Rattle.world_parts.specs.Channels.{kind_of_end}
use Rattle.world_parts.specs.News.{channel_news, entry_news}
use Rattle.abi_machine.specs.Control.{Control}
use Rattle.abi_machine.specs.World.{Entry, OwnHandle, BorrowHandle, OfSubtask, OfSet, OfEnd, Channel, World}
use Rattle.abi_machine.specs.Edits.{set_view}
use Rattle.abi_machine.specs.Reading.{channel_at, entry_at, table_of, members_of}
use Rattle.abi_machine.specs.Counting.{channel_end, entry_has_event, is_waited_for, has_news, ready}
use Rattle.abi_machine.specs.Turn as turns
use Rattle.abi_machine.specs.Turn.{Turn, Steps, behind}
use Rattle.abi_machine.proofs.sound.Found.{some_same}
use Rattle.standing.specs.Agreeing.{Follows, Agrees}

-- Behind lines, and behind more.
pub behind_behind : (first more : List Label) (u : Turn) → behind first (behind more u) ≡ behind (first ++ more) u
behind_behind first more (Steps lines w) = ap (λ (ls : List Label). Steps ls w) (sym (append_assoc first more lines))
behind_behind first more (turns.Ends end) = refl
behind_behind first more turns.Stuck = refl

follows_behind : (g : Graph) (t : ℕ) (k : Held) (f : Flow) (first lines : List Label) (v : World) (u : Turn) → Follows g t k f lines v u → Follows g t k f (first ++ lines) v (behind first u)
follows_behind g t k (flow.Now words) first lines v u a = (a.0, ap (λ (x : Turn). behind first x) a.1)
follows_behind g t k flow.Rests first lines v u a = ap (λ (x : Turn). behind first x) a
follows_behind g t k (flow.Starts ref words) first lines v u a = (a.0, ap (λ (x : Turn). behind first x) a.1 ∙ behind_behind first lines _)
follows_behind g t k flow.Enters first lines v u a = ap (λ (x : Turn). behind first x) a ∙ behind_behind first lines _
follows_behind g t k flow.Returns first lines v u a = ap (λ (x : Turn). behind first x) a ∙ behind_behind first lines _
follows_behind g t k (flow.Copies copying) first lines v u a = ap (λ (x : Turn). behind first x) a ∙ behind_behind first lines _
follows_behind g t k (flow.Delivers r set) first lines v u a = (a.0, a.1, ap (λ (x : Turn). behind first x) a.2)
follows_behind g t k (flow.Polls r set) first lines v u a = (a.0, ap (λ (x : Turn). behind first x) a.1 ∙ behind_behind first lines _)
follows_behind g t k (flow.HearsNone r) first lines v u a = (a.0, a.1, ap (λ (x : Turn). behind first x) a.2 ∙ behind_behind first lines _)
follows_behind g t k (flow.HearsCancel r) first lines v u a = (a.0, a.1, ap (λ (x : Turn). behind first x) a.2 ∙ behind_behind first lines _)

pub agrees_behind : (g : Graph) (values : List ValType) (s : Script) (t : ℕ) (before first : List Label) (stacks : List (List Stack)) (d : Done Flow) (u : Turn)
    → Agrees g values s t (before ++ first) stacks d u → Agrees g values s t before stacks d (behind first u)
agrees_behind g values s t before first stacks (Gives f k) u a = record {
  lines = first ++ a.lines;
  world = a.world;
  stands = a.stands;
  told = a.told ∙ append_assoc before first a.lines;
  ends = follows_behind g t k f first a.lines a.world u a.ends;
}
agrees_behind g values s t before first stacks (Traps why k) u a = record {
  lines = first ++ a.lines;
  world = a.world;
  stands = a.stands;
  told = a.told ∙ append_assoc before first a.lines;
  ends = ap (λ (x : Turn). behind first x) a.ends;
}
agrees_behind g values s t before first stacks (Spent k) u a = ap (λ (x : Turn). behind first x) a
agrees_behind g values s t before first stacks held.Stuck u a = ap (λ (x : Turn). behind first x) a

-- A world with other picks and another control.
abbrev pub otherwise : ℕ → Control → World → World
otherwise picks control w = record w { picks = picks; control = control }

channel_stays : (picks : ℕ) (control : Control) (w : World) (k : EndKind) (number : ℕ) → channel_at (otherwise picks control w) k number ≡ channel_at w k number
channel_stays picks control w kind.Stream number = refl
channel_stays picks control w kind.Future number = refl

event_stays : (picks : ℕ) (control : Control) (w : World) (o : Option Entry) → entry_has_event (otherwise picks control w) o ≡ entry_has_event w o
event_stays picks control w None = refl
event_stays picks control w (Some (OwnHandle resource rep)) = refl
event_stays picks control w (Some (BorrowHandle resource rep task)) = refl
event_stays picks control w (Some (OfSubtask callee)) = refl
event_stays picks control w (Some (OfSet set)) = refl
event_stays picks control w (Some (OfEnd e)) = ap (λ (c : Option Channel). is_pending (channel_end e.side c)) (channel_stays picks control w e.kind e.number)

filter_same : (p q : ℕ → Bool) (xs : List ℕ) → ((x : ℕ) → p x ≡ q x) → filter p xs ≡ filter q xs
filter_same p q [] same = refl
filter_same p q (x ∷ xs) same =
    ap (λ (b : Bool). cond b (x ∷ filter p xs) (filter p xs)) (same x) ∙ ap (λ (ys : List ℕ). cond (q x) (x ∷ ys) ys) (filter_same p q xs same)

pub ready_stays : (picks : ℕ) (control : Control) (w : World) (at set : ℕ) → ready (otherwise picks control w) at set ≡ ready w at set
ready_stays picks control w at set =
    ap (λ (told : List ℕ). ready_of told (set_view (members_of w at set)))
    (filter_same (has_news (otherwise picks control w) at) (has_news w at) (range_with_len 1 (greatest (table_of w at)))
    (λ index. ap (λ (b : Bool). b && not (is_waited_for w at index)) (event_stays picks control w (entry_at w at index))))

-- What is kept with other lines and picks.
abbrev pub besides : List Label → List ℕ → Held → Held
besides labels picks h = record h { labels = labels; picks = picks }

kept_stays : (labels : List Label) (picks : List ℕ) (h : Held) (k : EndKind) (number : ℕ) → kept.channel_at k number (besides labels picks h) ≡ kept.channel_at k number h
kept_stays labels picks h kind.Stream number = refl
kept_stays labels picks h kind.Future number = refl

pub news_stay : (v : Views) (labels : List Label) (picks : List ℕ) (h : Held) (o : Option WorldEntry) → entry_news v o (besides labels picks h) ≡ entry_news v o h
news_stay v labels picks h None = refl
news_stay v labels picks h (Some (entry.Handle x)) = refl
news_stay v labels picks h (Some (entry.Subtask callee)) = refl
news_stay v labels picks h (Some (entry.Set set)) = refl
news_stay v labels picks h (Some (entry.End e)) = ap (λ (c : Option kept_channel.Channel). channel_news v e.side c) (kept_stays labels picks h (kind_of_end e h) e.number)

-- An item that a test lets pass.
first_or : (p : ℕ → Bool) (x : ℕ) (ys : List ℕ) (n i : ℕ) → p x ≡ true → ((m : ℕ) → slice_get ys m ≡ Some i → p i ≡ true) → slice_get (x ∷ ys) n ≡ Some i → p i ≡ true
first_or p x ys zero i passed more h = ap p (sym (some_same h)) ∙ passed
first_or p x ys (suc m) i passed more h = more m h

kept_or : (p : ℕ → Bool) (x : ℕ) (xs : List ℕ) (n i : ℕ) (b : Bool) → p x ≡ b → ((m : ℕ) → slice_get (filter p xs) m ≡ Some i → p i ≡ true)
    → slice_get (cond b (x ∷ filter p xs) (filter p xs)) n ≡ Some i → p i ≡ true
kept_or p x xs n i true is more h = first_or p x (filter p xs) n i is more h
kept_or p x xs n i false is more h = more n h

pub passes_at : (p : ℕ → Bool) (xs : List ℕ) (n i : ℕ) → slice_get (filter p xs) n ≡ Some i → p i ≡ true
passes_at p [] n i h = absurd (cc)
passes_at p (x ∷ xs) n i h = kept_or p x xs n i (p x) refl (λ m there. passes_at p xs m i there) h
