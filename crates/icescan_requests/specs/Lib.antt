pub mod GivenPlans
pub mod ListPlans
pub mod Plans
pub mod Selections
pub mod Shows
