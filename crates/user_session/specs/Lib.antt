pub mod Content
pub mod Replies
pub mod RejectedLoad
pub mod Planning
pub mod Layers
pub mod Inside
