pub mod Nil
