-- Changes of the numbers of resources (Component Model, Explainer.md, "Type Definitions"), of link_values.
pub use Rattle.link_values.specs.Changes.{change_of}
