-- whether an answer meets a published value, and how many do
pub mod Judged
-- what is shown of the engine's answers
pub mod Shown
