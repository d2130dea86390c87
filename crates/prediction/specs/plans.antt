pub mod Plan
pub mod RulesAsPlans
pub mod Prediction
pub mod Planning
pub mod PlanNotation
pub mod IdlPlans
