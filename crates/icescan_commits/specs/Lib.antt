pub mod Commits
pub mod GivenCommits
