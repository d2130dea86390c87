pub mod Plan
pub mod RulesAsPlans
