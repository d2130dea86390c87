pub mod Sound
pub mod Inside
pub mod RunDepth
