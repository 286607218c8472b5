-- Things that are numbered, as the parts of types are (Component Model, Explainer.md, "Type Definitions"), of link_values.
pub use Rattle.link_values.specs.Numbering.{AreApart, IsNumberOf, IsAdded, Numbers}
