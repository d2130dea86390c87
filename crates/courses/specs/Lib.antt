pub mod Shared
pub mod Courses
