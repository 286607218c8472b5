-- What core instances export (Component Model, Explainer.md, "Instance Definitions"), of how they are kept.
use Rattle.std.specs.Prelude.{List}
use Rattle.link_spec.specs.Definitions.{CoreExport, exports_of}
use Rattle.link_core_exports.specs.declared.exports.Source.{Source}
use Rattle.link_core_exports.specs.declared.exports.Source.TheVariants as source

-- the exports of an instance of a module, and inline exports
abbrev pub exports_from : Source → List CoreExport
exports_from (source.OfModule number made) = exports_of made number
exports_from (source.Inline exports) = exports
