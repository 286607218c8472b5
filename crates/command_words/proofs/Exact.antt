-- Where clap's command gives no kind of error for some words, it takes them.
use Rattle.std.proofs.Common.{◌≡◌, ◌==◌, ℕ, ◌+◌, Bool, true, false, not, ◌&&◌, ◌||◌, List, [], ◌∷◌, length, drop, Option, Some, None, zero, suc, refl, arith, if◌then◌else◌}
use Rattle.std.specs.Prelude.{is_some, find, nat_le, nat_lt, min, encode_utf8, slice_get}
use Rattle.std.specs.List.{list_all, list_any}
use Rattle.std.specs.Option.{IfSome, option_map_or}
use Rattle.std.specs.Str.{chars}
use Rattle.clap.specs.Words.{App, Kinds, Row, Rule, Shape, built, fault_of, is_simple}
use Rattle.clap.specs.Lexer.{long_of, short_of}
use Rattle.clap.specs.Matches.{count_text}
use Rattle.clap.specs.Facts.{parser_of_value, unwrap_or_range}
use Rattle.clap.specs.ValueTests.{accepts}
use Rattle.clap.specs.Values.{refused_kind}
use Rattle.clap.specs.Kinds.{check_kinds, or_else, range_kinds, value_kinds}
use Rattle.clap.specs.Simple.{argument_words, entered, label_of, names_of}
use Rattle.clap.specs.Walk.{Held, Names, Step, Text, Waiting, Walk, action_of, answers_to, arg_by_id, arg_by_index, arg_by_long, arg_by_short, attached_value, count_of, finished, has_row, is_pending, most_values, nothing_held, reacted, settled, subcommand_met, takes_several, takes_values, value, values_or_missing, walk, walk_from, walked, word_met}
use Rattle.clap.specs.Walk as walks
use Rattle.clap.specs.Takes.{action_passes, bundle_step_passes, count_passes, default_passes, entered_passes, flag_word_passes, flags_pass, is_given, is_valid, level_passes, long_passes, option_passes, other_passes, positional_passes, react_passes, set_passes, settle_passes, short_passes, step_passes, turn_passes, use_passes, value_passes, values_pass, walk_passes}
use Rattle.clap.specs.Faults.{action_fault, bundle_step_fault, check_fault, count_fault, entered_fault, flag_word_fault, flags_fault, level_fault, long_fault, option_fault, other_fault, positional_fault, react_fault, set_fault, settle_fault, short_fault, step_fault, stray_fault, turn_fault, use_fault, values_fault, walk_fault}
use Rattle.clap.specs.declared.builder.action.ArgAction.{ArgAction}
use Rattle.clap.specs.declared.builder.action.ArgAction.TheVariants as action
use Rattle.clap.specs.declared.error.kind.ErrorKind.{ErrorKind}
use Rattle.command_words.specs.Words.{is_taken, program_app}

-- ---- lists of kinds and tests

none_first : (a b : Kinds) → or_else a b ≡ [] → a ≡ []
none_first [] b e = refl
none_first (k ∷ ks) b e = cc

none_second : (a b : Kinds) → or_else a b ≡ [] → b ≡ []
none_second [] b e = e
none_second (k ∷ ks) b e = cc

both : {a b : Bool} → a ≡ true → b ≡ true → (a && b) ≡ true
both e f = rw (e, f) refl

-- one after the other
in_turn : (a b : Kinds) (p q : Bool) → (a ≡ [] → p ≡ true) → (b ≡ [] → q ≡ true) → or_else a b ≡ [] → (p && q) ≡ true
in_turn a b p q f g e = both (f (none_first a b e)) (g (none_second a b e))

-- a test lets the kinds be left out
or_test : (b : Bool) (a : Kinds) (p : Bool) → (a ≡ [] → p ≡ true) → (if b then [] else a) ≡ [] → (b || p) ≡ true
or_test true a p f e = refl
or_test false a p f e = f e

if_test : (b : Bool) (a c : Kinds) (p q : Bool) → (a ≡ [] → p ≡ true) → (c ≡ [] → q ≡ true) → (if b then a else c) ≡ [] → (if b then p else q) ≡ true
if_test true a c p q f g e = f e
if_test false a c p q f g e = g e

option_test : {X : Type 0} (o : Option X) (f : X → Kinds) (p : X → Bool) → ((x : X) → f x ≡ [] → p x ≡ true) → option_map_or f o [] ≡ [] → option_map_or p o true ≡ true
option_test None f p h e = refl
option_test (Some x) f p h e = h x e

-- ---- one use of an argument

accepted : (b : Bool) (k : ErrorKind) → (if b then [] else k ∷ []) ≡ [] → b ≡ true
accepted true k e = refl
accepted false k e = cc

value_ok : (a : Rule) (text : Text) → value_kinds a.ignore_case (parser_of_value a.parser) text ≡ [] → value_passes a text ≡ true
value_ok a text e = accepted (accepts a.ignore_case (parser_of_value a.parser) text) (refused_kind (parser_of_value a.parser)) e

values_ok : (a : Rule) (vs : List Text) → values_fault a vs ≡ [] → values_pass a vs ≡ true
values_ok a [] e = refl
values_ok a (v ∷ vs) e = in_turn _ _ _ _ (value_ok a v) (values_ok a vs) e

count_ok : (a : Rule) (vs : List Text) (rows : List Row) → count_fault a vs rows ≡ [] → count_passes a vs rows ≡ true
count_ok a [] rows e = value_ok a (count_text (min (count_of a.id rows + 1) 255)) e
count_ok a (v ∷ vs) rows e = values_ok a (v ∷ vs) e

again_ok : (has again : Bool) (k : ErrorKind) → (if has && not again then k ∷ [] else []) ≡ [] → (not has || again) ≡ true
again_ok true true k e = refl
again_ok true false k e = cc
again_ok false again k e = refl

set_ok : (again : Bool) (a : Rule) (vs : List Text) (rows : List Row) → set_fault again a vs rows ≡ [] → set_passes again a vs rows ≡ true
set_ok again a vs rows e = in_turn _ _ _ _ (again_ok (has_row a.id rows) again _) (values_ok a vs) e

action_ok : (x : ArgAction) (again : Bool) (a : Rule) (vs : List Text) (rows : List Row) → action_fault x again a vs rows ≡ [] → action_passes x again a vs rows ≡ true
action_ok action.Set again a vs rows e = set_ok again a vs rows e
action_ok action.SetTrue again a vs rows e = set_ok again a vs rows e
action_ok action.SetFalse again a vs rows e = set_ok again a vs rows e
action_ok action.Append again a vs rows e = values_ok a vs e
action_ok action.Count again a vs rows e = count_ok a vs rows e
action_ok action.Help again a vs rows e = cc
action_ok action.HelpShort again a vs rows e = cc
action_ok action.HelpLong again a vs rows e = cc
action_ok action.Version again a vs rows e = cc

range_by : (least most n : ℕ) (one here low high : Bool) (j k l : ErrorKind) → (least == most) ≡ one → (least == n) ≡ here → nat_lt n least ≡ low → nat_lt most n ≡ high
    → (if one then (if here then [] else j ∷ []) else (if low then k ∷ [] else (if high then l ∷ [] else []))) ≡ [] → (nat_le least n ≡ true) × (nat_le n most ≡ true)
range_by least most n true true low high j k l e f g h i = (grind arith, grind arith)
range_by least most n true false low high j k l e f g h i = cc
range_by least most n false here true high j k l e f g h i = cc
range_by least most n false here false true j k l e f g h i = cc
range_by least most n false here false false j k l e f g h i = (grind arith, grind arith)

range_none : (b : Bool) (k : ErrorKind) (rest : Kinds) → (if b then k ∷ [] else rest) ≡ [] → rest ≡ []
range_none true k rest e = cc
range_none false k rest e = e

range_ok : (least most n : ℕ) → range_kinds least most n ≡ [] → (nat_le least n ≡ true) × (nat_le n most ≡ true)
range_ok least most n e = range_by least most n (least == most) (least == n) (nat_lt n least) (nat_lt most n) _ _ _ refl refl refl refl (range_none (nat_lt 0 least && n == 0) _ _ e)

use_ok : (again : Bool) (a : Rule) (vs : List Text) (rows : List Row) → use_fault again a vs rows ≡ [] → use_passes again a vs rows ≡ true
use_ok again a vs rows e =
    let range = range_ok (unwrap_or_range a.range).start_inclusive (most_values a) (length vs) (none_first _ _ e) in
    both range.0 (both range.1 (action_ok (action_of a) again a (values_or_missing a vs) rows (none_second _ _ e)))

-- ---- the walk

settle_ok : (c : List Rule) (again : Bool) (h : Held) → settle_fault c again h ≡ [] → settle_passes c again h ≡ true
settle_ok c again h e = option_test h.pending _ _ (λ p f. option_test (arg_by_id c p.0) _ _ (λ a g. use_ok again a p.1 h.rows g) f) e

react_ok : (c : List Rule) (again : Bool) (a : Rule) (vs : List Text) (h : Held) → react_fault c again a vs h ≡ [] → react_passes c again a vs h ≡ true
react_ok c again a vs h e = in_turn _ _ _ _ (settle_ok c again h) (use_ok again a vs (settled c h).rows) e

option_ok : (c : List Rule) (again : Bool) (a : Rule) (v : Option Text) (h : Held) → option_fault c again a v h ≡ [] → option_passes c again a v h ≡ true
option_ok c again a (Some v) h e = react_ok c again a (v ∷ []) h e
option_ok c again a None h e = settle_ok c again h e

bare_ok : (b : Bool) (k : ErrorKind) (a : Kinds) (p : Bool) → (a ≡ [] → p ≡ true) → (if b then k ∷ [] else a) ≡ [] → (not b && p) ≡ true
bare_ok true k a p f e = cc
bare_ok false k a p f e = f e

long_ok : (c : List Rule) (again : Bool) (found : Option Rule) (v : Option Text) (h : Held) → long_fault c again found v h ≡ [] → long_passes c again found v h ≡ true
long_ok c again None v h e = cc
long_ok c again (Some a) v h e = if_test (takes_values a) _ _ _ _ (option_ok c again a v h) (bare_ok (is_some v) _ _ _ (react_ok c again a [] h)) e

short_ok : (c : List Rule) (again : Bool) (found : Option Rule) (rest : Text) (h : Held) (next : Held → Kinds) (more : Held → Bool) → ((h : Held) → next h ≡ [] → more h ≡ true)
    → short_fault c again found rest h next ≡ [] → short_passes c again found rest h more ≡ true
short_ok c again None rest h next more f e = cc
short_ok c again (Some a) rest h next more f e =
    if_test (takes_values a) _ _ _ _ (option_ok c again a (attached_value rest) h) (in_turn _ _ _ _ (react_ok c again a [] h) (f (reacted c a [] h))) e

step_in_bundle : (c : List Rule) (again : Bool) (x : Option ℕ) (flags : Text) (skip : ℕ) (h : Held) (next : Text → ℕ → Held → Kinds) (more : Text → ℕ → Held → Bool)
    → ((flags : Text) (skip : ℕ) (h : Held) → next flags skip h ≡ [] → more flags skip h ≡ true)
    → bundle_step_fault c again x flags skip h next ≡ [] → bundle_step_passes c again x flags skip h more ≡ true
step_in_bundle c again None flags skip h next more f e = refl
step_in_bundle c again (Some x) flags zero h next more f e =
    let rest = drop (length (encode_utf8 x)) flags in
    short_ok c again (arg_by_short c x) rest h (next rest 0) (more rest 0) (f rest 0) e
step_in_bundle c again (Some x) flags (suc skip) h next more f e = f (drop (length (encode_utf8 x)) flags) skip h e

flags_ok : (c : List Rule) (again : Bool) (k : ℕ) (flags : Text) (skip : ℕ) (h : Held) → flags_fault c again k flags skip h ≡ [] → flags_pass c again k flags skip h ≡ true
unfolding flags_fault flags_pass
flags_ok c again zero flags skip h e = refl
flags_ok c again (suc k) flags skip h e =
    step_in_bundle c again (slice_get (chars flags) 0) flags skip h (flags_fault c again k) (flags_pass c again k) (flags_ok c again k) e

flag_word_ok : (c : List Rule) (again : Bool) (p : Option (Text × Option Text)) (word : Text) (h : Held) → flag_word_fault c again p word h ≡ [] → flag_word_passes c again p word h ≡ true
flag_word_ok c again (Some p) word h e = long_ok c again (arg_by_long c p.0) p.1 h e
flag_word_ok c again None word h e =
    option_test (short_of word) _ _ (λ flags f. flags_ok c again (length flags) flags h.skip (record h { skip = 0 }) f) e

help_ok : (b off : Bool) (j k : ErrorKind) → (if b && not off then j ∷ k ∷ [] else []) ≡ [] → (not b || off) ≡ true
help_ok true true j k e = refl
help_ok true false j k e = cc
help_ok false off j k e = refl

other_ok : (s : Shape) (met : Option Text) (word : Text) (h : Held) → other_fault s met word h ≡ [] → other_passes s met word h ≡ true
other_ok s (Some name) word h e = help_ok _ s.disable_help_subcommand _ _ e
other_ok s None word h e = or_test _ _ _ (flag_word_ok s.rules s.args_override_self (long_of word) word h) e

positional_ok : (c : List Rule) (again : Bool) (a : Rule) (h : Held) → positional_fault c again a h ≡ [] → positional_passes c again a h ≡ true
positional_ok c again a h e = or_test _ _ _ (settle_ok c again h) e

stray : (s : Shape) (leaf : Bool) (j k l : ErrorKind) → (if leaf then j ∷ [] else k ∷ l ∷ []) ≡ [] → ⊥
stray s true j k l e = cc
stray s false j k l e = cc

placed_ok : (s : Shape) (found : Option Rule) (h : Held) → option_map_or (λ a. positional_fault s.rules s.args_override_self a h) found (stray_fault s) ≡ []
    → option_map_or (λ a. positional_passes s.rules s.args_override_self a h) found false ≡ true
placed_ok s None h e = absurd (stray s s.is_leaf _ _ _ e)
placed_ok s (Some a) h e = positional_ok s.rules s.args_override_self a h e

step_ok : (s : Shape) (position : ℕ) (h : Held) (step : Step) → step_fault s position h step ≡ [] → step_passes s position h step ≡ true
step_ok s position h value e = placed_ok s (arg_by_index s.rules position) h e
step_ok s position h (walks.next waiting) e = refl
step_ok s position h (walks.trailing at) e = refl
step_ok s position h (walks.subcommand name) e = refl

turn_ok : (s : Shape) (names : Names) (w : Walk) (word : Text) → turn_fault s names w word ≡ [] → turn_passes s names w word ≡ true
turn_ok s names w word e =
    let met = word_met s.rules names w.is_trailing w.waiting w.position word w.held in
    or_test (is_some w.stopped) _ _ (in_turn _ _ _ _ (or_test w.is_trailing _ _ (other_ok s (subcommand_met names w.waiting word) word w.held)) (step_ok s w.position met.0 met.1)) e

walk_ok : (s : Shape) (names : Names) (w : Walk) (words : List Text) → walk_fault s names w words ≡ [] → walk_passes s names w words ≡ true
unfolding walk_fault walk_passes
walk_ok s names w [] e = refl
walk_ok s names w (word ∷ rest) e = in_turn _ _ _ _ (turn_ok s names w word) (walk_ok s names (walked s.rules names w word) rest) e

-- ---- after the walk

given_ok : (rules : List Rule) (rows : List Row) → list_any (λ a. a.required && not (is_given a.id rows)) rules ≡ false → list_all (λ a. not a.required || is_given a.id rows) rules ≡ true
given_ok [] rows e = refl
given_ok (a ∷ rest) rows e = one a.required (is_given a.id rows) _ _ (given_ok rest rows) e
  where
    one : (required given missing all : Bool) → (missing ≡ false → all ≡ true) → (required && not given || missing) ≡ false → ((not required || given) && all) ≡ true
    one true true missing all f e = f e
    one true false missing all f e = cc
    one false given missing all f e = f e

checks : (a b c : Bool) → check_kinds a b c ≡ [] → (a ≡ false) × (b ≡ false) × (c ≡ false)
checks false false false e = (refl, refl, refl)
checks true b c e = cc
checks false true c e = cc
checks false false true e = cc

helped : (has help any : Bool) → (not has && (help && not any)) ≡ false → (not help || (has || any)) ≡ true
helped has false any e = refl
helped true true any e = refl
helped false true true e = refl
helped false true false e = cc

wanted : (has required : Bool) → (not has && required) ≡ false → (not required || has) ≡ true
wanted has false e = refl
wanted true true e = refl
wanted false true e = cc

excused : (excuse missing all : Bool) → (missing ≡ false → all ≡ true) → (not excuse && missing) ≡ false → (excuse || all) ≡ true
excused true missing all f e = refl
excused false missing all f e = f e

valid_ok : (s : Shape) (rows : List Row) (has : Bool) → list_all (λ a. a.is_free) s.rules ≡ true → check_fault s rows has ≡ [] → is_valid s rows has ≡ true
valid_ok s rows has free e =
    let c = checks _ _ _ e in
    both (helped has s.arg_required_else_help _ c.0) (both (wanted has s.subcommand_required c.1) (both free (excused (s.subcommand_negates_reqs && has) _ _ (given_ok s.rules rows) c.2)))

-- what holds of the program's shapes: no default, and no rule of one argument on another
abbrev is_bare : Shape → Bool
is_bare s = list_all default_passes s.rules && list_all (λ a. a.is_free) s.rules

pub left : (a b : Bool) → (a && b) ≡ true → a ≡ true
left true b e = refl
left false b e = cc

pub right : (a b : Bool) → (a && b) ≡ true → b ≡ true
right true b e = e
right false b e = cc

level_ok : (s : Shape) (names : Names) (h : Held) (words : List Text) (has : Bool) (below : Kinds) → is_bare s ≡ true → level_fault s names h words has below ≡ [] → level_passes s names h words has ≡ true
level_ok s names h words has below bare e =
    let end = (walk s.rules names h words).held in
    let later = none_second _ _ (none_second _ _ e) in
    both (walk_ok s names (walk_from h) words (none_first _ _ e))
    (both (settle_ok s.rules s.args_override_self end (none_first _ _ later))
    (both (left _ _ bare) (valid_ok s (finished s.rules end) has (right _ _ bare) (none_second _ _ (none_second _ _ later)))))

-- what a search finds has what all have
found_is : (p q : Shape → Bool) (xs : List Shape) → list_all q xs ≡ true → IfSome (find p xs) (λ s. q s ≡ true)
found_is p q [] e = tt
found_is p q (x ∷ xs) e = here (p x) (left _ _ e) (found_is p q xs (right _ _ e))
  where
    here : (b : Bool) → q x ≡ true → IfSome (find p xs) (λ s. q s ≡ true) → IfSome (if b then Some x else find p xs) (λ s. q s ≡ true)
    here true e f = e
    here false e f = f

entered_by : (o : Option Shape) (words : List Text) → IfSome o (λ s. is_bare s ≡ true) → option_map_or (λ s. level_fault s [] nothing_held words false []) o [] ≡ []
    → option_map_or (λ s. level_passes s [] nothing_held words false) o true ≡ true
entered_by None words bare e = refl
entered_by (Some s) words bare e = level_ok s [] nothing_held words false [] bare e

entered_ok : (a : App) (stop : Option (Text × List Text)) → list_all is_bare a.subs ≡ true → entered_fault a stop ≡ [] → entered_passes a stop ≡ true
entered_ok a stop bare e = option_test stop _ _ (λ p f. entered_by (find (λ s. answers_to p.0 (label_of s)) a.subs) p.1 (found_is _ is_bare a.subs bare) f) e

-- ---- the program

pub taken : (words : List Text) → fault_of program_app words ≡ [] → is_taken words ≡ true
unfolding is_taken
taken words e =
    let a = built program_app in
    let inner = argument_words program_app words in
    let stop = (walk a.top.rules (names_of a) nothing_held inner).stopped in
    both {a = is_simple program_app} refl
    (both (entered_ok a stop refl (none_first _ _ (none_second _ _ e))) (level_ok a.top (names_of a) nothing_held inner (is_some (entered a stop)) (entered_fault a stop) refl e))
