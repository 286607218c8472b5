-- Where the parts of a module stand that a validation can refuse.
use Rattle.std.specs.Prelude.{ℕ, Option}
use Rattle.std.specs.List.{slice_get}
use Rattle.std.specs.Option.{option_map, option_and_then}
use Rattle.wasm_typing.specs.declared.module_places.ModulePlaces.{ModulePlaces}
use Rattle.wasm_typing.specs.declared.spot.Spot.{Spot}
use Rattle.wasm_typing.specs.declared.spot.Spot.TheVariants as spot

-- where a part stands
abbrev pub place_of : ModulePlaces → Spot → Option ℕ
place_of places (spot.Import number) = slice_get places.imports number
place_of places (spot.Func number) = option_map (λ p. p.place) (slice_get places.funcs number)
place_of places (spot.Table number) = slice_get places.tables number
place_of places (spot.Memory number) = slice_get places.memories number
place_of places (spot.Global number at) = option_and_then (λ p. slice_get p.init at) (slice_get places.globals number)
place_of places (spot.Export number) = slice_get places.exports number
place_of places spot.Start = places.start
place_of places (spot.Element number) = option_map (λ p. p.place) (slice_get places.element_segments number)
place_of places (spot.ElementOffset number at) = option_and_then (λ p. slice_get p.offset at) (slice_get places.element_segments number)
place_of places (spot.ElementFunc number at) = option_and_then (λ p. slice_get p.funcs at) (slice_get places.element_segments number)
place_of places (spot.Op number at) = option_and_then (λ p. slice_get p.ops at) (slice_get places.funcs number)
place_of places (spot.Data number) = option_map (λ p. p.place) (slice_get places.data_segments number)
place_of places (spot.DataOffset number at) = option_and_then (λ p. slice_get p.offset at) (slice_get places.data_segments number)
