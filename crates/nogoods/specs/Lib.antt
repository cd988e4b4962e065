pub mod Nogoods
