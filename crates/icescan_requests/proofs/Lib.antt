pub mod Crews
pub mod GivenPlans
pub mod Listed
pub mod Plans
pub mod Shows
