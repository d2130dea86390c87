-- The layers of MenhirLib: plans, validator, interpreter, that it is correct and complete, theorems.
-- Besides these, what two editions share.
pub mod Sets
pub mod plans
pub mod validator
pub mod interpreter
pub mod correct
pub mod complete
pub mod theorems
pub mod sharing
