-- `Compare` has the ways to take two numbers apart, `Cuts` the size of what is cut out, `Outcomes` the laws of outcomes,
-- `Holding` what holds of whatever they give, `Rows` those of the table of refusals, `Reports` what a report tells, and `Examples` tables that are computed.
pub mod Compare
pub mod Cuts
pub mod Outcomes
pub mod Holding
pub mod Rows
pub mod Reports
pub mod Examples
