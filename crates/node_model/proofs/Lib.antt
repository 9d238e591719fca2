-- what is learnt, as a list, and its execution
pub mod Commands
pub mod Executions
pub mod Replying
-- what a node says, in few shapes
pub mod Saying
-- what a node's learner hears, and keeps
pub mod Hearings
pub mod Keeping
-- what a node is the meaning of
pub mod Meanings
pub mod Restoring
pub mod News
pub mod LearntSlots
pub mod Learnt
pub mod PastVotes
-- a node stays the node that it is
pub mod Campaigns
pub mod Members
-- what is sent
pub mod SendLemmas
pub mod Between
pub mod Fewness
-- what the protocol allows
pub mod AllowedSends
pub mod AllowedGoing
pub mod AllowedCases
pub mod AllowedLearning
pub mod AllowedRestoring
pub mod AllowedTaking
pub mod AllowedStopping
pub mod AllowedLoading
pub mod RecordsGoOn
pub mod RefusalLemmas
pub mod FaultLemmas
pub mod StepLemmas
