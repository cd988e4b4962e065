pub mod VerdictPromise
pub mod DotPromise
pub mod PrecedencePromise
pub mod FormulaPromise
pub mod JoinPromise
pub mod RewritePromise
