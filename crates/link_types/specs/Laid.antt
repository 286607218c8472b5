-- What is kept of a function type, so that no lift or lower goes over its parameters (Component Model, CanonicalABI.md,
-- "Flattening"): the first 17 core types of the parameters, and of the result, so that more than 16 are seen, and whether they hold
-- a string or a list.
use Rattle.std.specs.Prelude.{◌≡◌, take}
use Rattle.syntax_trees.specs.declared.types.FuncType.{FuncType}
use Rattle.syntax_trees.specs.Flat.{flat_params, flat_payload}
use Rattle.laid_types.specs.Lists.{held_list}
use Rattle.comp_graph.specs.Closed.{names_in_func}
use Rattle.comp_graph.specs.Needs.{hold_list}
use Rattle.link_types.specs.declared.laid_func.LaidFunc.{LaidFunc}

pub record IsLaid (laid : LaidFunc) (type : FuncType) : Type 0 where
  pub params : laid.params ≡ take 17 (flat_params type)
  pub returned : laid.returned ≡ take 17 (flat_payload type.result)
  pub params_hold_list : laid.params_hold_list ≡ hold_list type
  pub result_holds_list : laid.result_holds_list ≡ held_list type.result
  pub names_resource : laid.names_resource ≡ names_in_func type
