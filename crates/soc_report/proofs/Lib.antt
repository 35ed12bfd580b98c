mod NodeLines
mod HexadecimalDigits
