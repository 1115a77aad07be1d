mod Bare
mod Entries
mod Given
mod Planned
mod Selected
