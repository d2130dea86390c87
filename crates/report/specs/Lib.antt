pub mod Page
pub mod Report
