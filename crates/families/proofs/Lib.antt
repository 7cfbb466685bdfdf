pub mod Apart
pub mod PolynomialRows
pub mod Ranks
pub mod Fits
pub mod Products
mod RowLemmas
