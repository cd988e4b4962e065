pub mod FormulaPromise
