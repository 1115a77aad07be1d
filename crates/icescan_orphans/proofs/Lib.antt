pub mod NotReached
