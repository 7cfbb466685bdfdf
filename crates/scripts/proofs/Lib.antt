pub mod WordLemmas
pub mod HexLemmas
pub mod TableLemmas
pub mod LineLemmas
