-- Values by their outer layers.
use Rattle.std.proofs.Common.{◌≡◌, ◌∙◌, ℕ, Bool, List, map, Option, Some, None, refl, ap, rules}
use Rattle.std.specs.Option.{option_map}
use Rattle.syntax_trees.specs.declared.value.Handle.{Handle}
use Rattle.syntax_trees.specs.declared.value.Value.{Value, out-Value}
use Rattle.syntax_trees.specs.declared.value.Value.TheOpen as V
use Rattle.syntax_trees.specs.declared.value.Value.TheViews as values
use Rattle.syntax_trees.specs.declared.value.Value.TheVariants as plain
use Rattle.syntax_trees.specs.declared.value.Value.TheViews.{the_lemmas}
use Rattle.syntax_trees.specs.declared.value.Value.TheFolds.{map-Value}
use Rattle.value_lower.specs.Plan.{New, Plan}
use Rattle.value_lower.specs.Storing.{Lowered}
use Rattle.value_lower.specs.Entering.{lowered, layer_of}

pub out_string : (v : Value) (text : List ℕ) → v ≡ plain.String text → out-Value v ≡ V.String text
out_string v text e = ap out-Value e ∙ search (rules, the_lemmas)

pub out_flags : (v : Value) (flags : List Bool) → v ≡ plain.Flags flags → out-Value v ≡ V.Flags flags
out_flags v flags e = ap out-Value e ∙ search (rules, the_lemmas)

pub out_list : (v : Value) (all : List Value) → v ≡ values.List all → out-Value v ≡ V.List all
out_list v all e = ap out-Value e ∙ search (rules, the_lemmas)

pub out_record : (v : Value) (all : List Value) → v ≡ values.Record all → out-Value v ≡ V.Record all
out_record v all e = ap out-Value e ∙ search (rules, the_lemmas)

pub out_variant : (v : Value) (n : ℕ) (payload : Option Value) → v ≡ values.Variant n payload → out-Value v ≡ V.Variant n payload
out_variant v n payload e = ap out-Value e ∙ search (rules, the_lemmas)

pub out_own : (v : Value) (handle : Handle) → v ≡ plain.Own handle → out-Value v ≡ V.Own handle
out_own v handle e = ap out-Value e ∙ search (rules, the_lemmas)

pub out_borrow : (v : Value) (handle : Handle) → v ≡ plain.Borrow handle → out-Value v ≡ V.Borrow handle
out_borrow v handle e = ap out-Value e ∙ search (rules, the_lemmas)

pub out_stream : (v : Value) (number : ℕ) → v ≡ plain.Stream number → out-Value v ≡ V.Stream number
out_stream v number e = ap out-Value e ∙ search (rules, the_lemmas)

pub out_future : (v : Value) (number : ℕ) → v ≡ plain.Future number → out-Value v ≡ V.Future number
out_future v number e = ap out-Value e ∙ search (rules, the_lemmas)

module _ (enter : New → (ℕ → Plan) → Plan) where
  abbrev in_layer : V.Value-F Value → V.Value-F Lowered
  in_layer w = map-Value Value Lowered (lowered enter) w

  pub layer_string : (v : Value) (text : List ℕ) → v ≡ plain.String text → layer_of enter v ≡ V.String text
  layer_string v text e = ap in_layer (out_string v text e)

  pub layer_flags : (v : Value) (flags : List Bool) → v ≡ plain.Flags flags → layer_of enter v ≡ V.Flags flags
  layer_flags v flags e = ap in_layer (out_flags v flags e)

  pub layer_list : (v : Value) (all : List Value) → v ≡ values.List all → layer_of enter v ≡ V.List (map (lowered enter) all)
  layer_list v all e = ap in_layer (out_list v all e)

  pub layer_record : (v : Value) (all : List Value) → v ≡ values.Record all → layer_of enter v ≡ V.Record (map (lowered enter) all)
  layer_record v all e = ap in_layer (out_record v all e)

  variant_in : (n : ℕ) (payload : Option Value) → in_layer (V.Variant n payload) ≡ V.Variant n (option_map (lowered enter) payload)
  variant_in n (Some p) = refl
  variant_in n None = refl

  pub layer_variant : (v : Value) (n : ℕ) (payload : Option Value) → v ≡ values.Variant n payload → layer_of enter v ≡ V.Variant n (option_map (lowered enter) payload)
  layer_variant v n payload e = ap in_layer (out_variant v n payload e) ∙ variant_in n payload

  pub layer_own : (v : Value) (handle : Handle) → v ≡ plain.Own handle → layer_of enter v ≡ V.Own handle
  layer_own v handle e = ap in_layer (out_own v handle e)

  pub layer_borrow : (v : Value) (handle : Handle) → v ≡ plain.Borrow handle → layer_of enter v ≡ V.Borrow handle
  layer_borrow v handle e = ap in_layer (out_borrow v handle e)

  pub layer_stream : (v : Value) (number : ℕ) → v ≡ plain.Stream number → layer_of enter v ≡ V.Stream number
  layer_stream v number e = ap in_layer (out_stream v number e)

  pub layer_future : (v : Value) (number : ℕ) → v ≡ plain.Future number → layer_of enter v ≡ V.Future number
  layer_future v number e = ap in_layer (out_future v number e)
