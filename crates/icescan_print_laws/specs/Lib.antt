pub mod PlanTold
