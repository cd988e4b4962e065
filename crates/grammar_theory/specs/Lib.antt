-- LL(1) grammars with actions, in reading order.
pub mod Grammar
pub mod Machine
pub mod LL1
pub mod Claims
pub mod Room
pub mod Examples
