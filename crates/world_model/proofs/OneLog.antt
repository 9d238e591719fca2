-- What the lists tell, and the list that explains them.
pub mod Tellings
pub mod Explained
pub mod Validity
pub mod InLog
pub mod Texts
pub mod OneAnswer
pub mod OneReply
pub mod TallyLemmas
