pub mod Bases
pub mod Commits
pub mod GivenCommits
pub mod OnDisk
pub mod Stored
