pub mod AnswerLines
pub mod ClientLines
pub mod Laws
