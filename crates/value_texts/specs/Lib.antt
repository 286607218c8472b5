pub mod LeafText
