pub mod Snapshots
pub mod Honest
pub mod Lines
pub mod Manifests
pub mod Texts
