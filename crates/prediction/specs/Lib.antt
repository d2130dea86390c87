-- The layers of MenhirLib: the grammar as plans, the validator, the interpreter.
-- Besides these, what two editions share.
pub mod Sets
pub mod plans
pub mod validator
pub mod Interpreter
pub mod sharing
