pub mod FormulaverdictText
