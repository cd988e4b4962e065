pub mod HexLines
