-- `RefusalsInOrder` is RULES 11 on one page.
pub mod RefusalsInOrder
