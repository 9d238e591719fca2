-- One descent through a step, and what each step keeps.
pub mod Preserved
pub mod MembershipLemmas
pub mod MembershipSteps
pub mod OwnBallots
