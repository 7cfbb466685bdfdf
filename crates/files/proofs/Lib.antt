pub mod Packed
pub mod Put
pub mod Walked
pub mod Unpacked
pub mod SealPlace
pub mod ReadBack
pub mod Written
pub mod RoundTrip
