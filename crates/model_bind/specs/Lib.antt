pub mod Binding
pub mod Rules
pub mod Files
pub mod Foundation
pub mod Stages
pub mod Inside
