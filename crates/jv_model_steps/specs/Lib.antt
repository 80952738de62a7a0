-- What a step leaves of a state.
pub mod IsStep
pub mod Leaves
pub mod RefusesCommit
pub mod Stages
