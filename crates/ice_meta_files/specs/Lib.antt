pub mod MetadataNames
pub mod Newest
