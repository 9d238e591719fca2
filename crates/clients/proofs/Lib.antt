-- which actions such a line spells
mod ActionLemmas
-- the line of each first word
mod Cases
-- a line asks for one thing, or has a fault
pub mod LineLaws
-- where a query ends in a position
mod PositionLemmas
