pub mod Answer
pub mod Numbers
pub mod Page
pub mod Refusal
